-- How many words a small source's code has on its operand stack and in its frames: a bound by nesting, and what is asked of the names that are visible.
use Rattle.std.specs.Prelude.{◌≡◌, ◌≤◌, ◌+◌, ◌*◌, ℕ, true, false, max, List, [], length, Some}
use Rattle.base.specs.declared.limits.TheConstants.{FORMALS, FRAME_WORDS, WORDS}
use Rattle.ada_tree.specs.declared.declaration.Formal.{Formal}
use Rattle.ada_tree.specs.Depth.{body_depth, expr_depth}
use Rattle.ada_tree.specs.ExpressionGrammar.{expression}
use Rattle.ada_tree.specs.ExpressionTree.{ExprTree}
use Rattle.ada_tree.specs.Language.{Limit, Tokens}
use Rattle.ada_tree.specs.ProgramGrammar.{body}
use Rattle.ada_tree.specs.ProgramTree.{BodyTree}
use Rattle.ada_tree.specs.Size.{total}
use Rattle.types.specs.declared.entity.FormalParameter.{FormalParameter}
use Rattle.types.specs.declared.entity.Role.{Role}
use Rattle.types.specs.declared.entity.Subtype.{Subtype}
use Rattle.types.specs.Entities.{Object, Profile}
use Rattle.types.specs.Layouts.{words_of}
use Rattle.types.specs.Scopes.{Scope, entity_at, form_at}
use Rattle.types.specs.Shapes.{words}
use Rattle.expr_soundness.specs.expr_rules.specs.declared.own.Wanted.TheVariants.{OfType}
use Rattle.expr_soundness.specs.expr_rules.specs.ExpressionRules.{faults_of}
use Rattle.program_soundness.specs.declaration_rules.specs.BodyNames.{formals_scope}
use Rattle.program_soundness.specs.stmt_rules.specs.declared.around.BodyKind.{BodyKind}
use Rattle.program_soundness.specs.unit_rules.specs.BodyRules.{body_faults}
use Rattle.program_soundness.specs.step_soundness.specs.body_restrictions.specs.BodyRules as restrictions
use Rattle.expr_soundness.specs.SoundScopes.{SoundScope}
use Rattle.expr_code.specs.Emitting.{IsLegalExpression}
use Rattle.expr_code.specs.Refusing.{peak}
use Rattle.expr_code.specs.Seeing.{external_profile, profile_named}
use Rattle.expr_code.specs.Widths.{width_of}
use Rattle.expr_code.specs.declared.visible.Visible.{Visible}
use Rattle.part_code.specs.Bounds.{body_words, formals_words}
use Rattle.part_code.specs.Emitting.{HasEntries}
use Rattle.part_code.specs.Needs.{Needs}
use Rattle.part_code.specs.Providing.{HasWhatCodeNeeds, TypesAreFull}
use Rattle.expr_code.specs.Providing.{FewFormals, is_scalar_form}
use Rattle.stmt_code.specs.Subprograms.{AreLegalFormals}
use Rattle.stmt_code.specs.WholeRefusals.{function_needs, procedure_needs}

-- ---- what is asked of the names that are visible

-- the words of formals together
abbrev pub formals_take : Scope → List FormalParameter → ℕ
formals_take s fs = total (λ f. words_of s f.subtype) fs

-- the formals of each subprogram that is visible have few words
abbrev pub FewWords : Scope → Type 0
FewWords s = (name : List ℕ) (p : Profile) → profile_named s name ≡ Some p → formals_take s p.formals ≤ 64

-- the formals of each operation or entry that is named after its protected object have few words
abbrev pub FewWordsBehind : Scope → Type 0
FewWordsBehind s = (object operation : List ℕ) (p : Profile) → external_profile s object operation ≡ Some p → formals_take s p.formals ≤ 64

-- no visible object takes more words than an image has
abbrev pub ObjectsHaveRoom : Scope → Type 0
ObjectsHaveRoom s = (n : ℕ) (r : Role) (t : Subtype) → entity_at s n ≡ Some (Object r t) → words_of s t ≤ WORDS

-- what is visible in a small source
pub record IsSmallScope (s : Scope) : Type 0 where
  pub sound : SoundScope s
  pub formals : FewFormals s
  pub words : FewWords s
  pub full : TypesAreFull s
  pub objects : ObjectsHaveRoom s
  pub behind : FewWordsBehind s

-- what is visible in a small source, where code knows of each name what it needs, in a program with these exceptions
pub record IsSmallVisible (exceptions : List (List ℕ)) (v : Visible) : Type 0 where
  pub names : IsSmallScope v.scope
  -- what code knows of a name stands at the name's number
  pub entries : HasEntries v
  pub known : HasWhatCodeNeeds exceptions v

-- ---- expressions

-- The code of a legal expression that the grammar derives has so many words on the operand stack at most: those of its value, or 6, and 12 more for each level.
-- In one level four operators may wait for their right operands, which bind tighter, and the address of an object for an offset; in a deeper one seven actual
-- parameters wait for the eighth.
abbrev pub PeaksAreLow : Type 0
PeaksAreLow =
    (s : Scope) → SoundScope s → FewFormals s → (e : ExprTree) (limit : Limit) (tokens : Tokens) → expression limit e tokens → IsLegalExpression s e
    → peak s e ≤ max (width_of s e) (6 + 12 * expr_depth e)

-- ---- whole subprograms

-- The body of a procedure with these formals that the grammar derives and that breaks no rule and no restriction, at most 16 levels deep, whose formals and
-- declarations take at most 64 words. These names are visible in front of its formals.
pub record IsSmallProcedure (s : Scope) (fs : List Formal) (b : BodyTree) : Type 0 where
  pub few : length fs ≤ FORMALS
  pub head : AreLegalFormals s fs
  pub limit : Limit
  pub tokens : Tokens
  pub spelled : body limit b tokens
  pub kind : BodyKind
  pub legal : body_faults (formals_scope s fs) kind b ≡ []
  pub restricted : restrictions.body_faults b ≡ []
  pub shallow : body_depth b ≤ 16
  pub words : formals_words s (formals_scope s fs) fs + body_words (formals_scope s fs) b ≤ 64

-- a function that returns the value of an expression fits a frame
pub record IsSmallFunction (s : Scope) (fs : List Formal) (t : Subtype) (e : ExprTree) : Type 0 where
  pub few : length fs ≤ FORMALS
  pub head : AreLegalFormals s fs
  pub scalar : is_scalar_form (form_at s t.type_number) ≡ true
  pub limit : Limit
  pub tokens : Tokens
  pub spelled : expression limit e tokens
  pub legal : faults_of (formals_scope s fs) (OfType t.type_number) e ≡ []
  pub shallow : expr_depth e ≤ 16
  pub words : formals_words s (formals_scope s fs) fs ≤ 64

-- A frame and its operand stack are no larger than an image's, and no value that is handled has words that an image has not.
pub record StaysWithinLimits (n : Needs) : Type 0 where
  pub stack : n.stack ≤ FRAME_WORDS
  pub frame : n.frame ≤ FRAME_WORDS
  pub fit : n.unfit ≡ false

-- the code of small bodies has room in a frame, where what is visible has what it needs
abbrev pub ProceduresHaveRoom : Type 0
ProceduresHaveRoom =
    (exceptions : List (List ℕ)) (v : Visible) (fs : List Formal) (b : BodyTree) → IsSmallVisible exceptions v → IsSmallProcedure v.scope fs b
    → StaysWithinLimits (procedure_needs v fs b)

abbrev pub FunctionsHaveRoom : Type 0
FunctionsHaveRoom =
    (exceptions : List (List ℕ)) (v : Visible) (fs : List Formal) (t : Subtype) (e : ExprTree) → IsSmallVisible exceptions v
    → IsSmallFunction v.scope fs t e
    → StaysWithinLimits (function_needs v fs e)
