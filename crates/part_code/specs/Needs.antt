-- What code of parts of statements needs, and why it is refused.
use Rattle.std.specs.Prelude.{◌≡◌, ℕ, suc, ◌+◌, ◌<◌, max, Bool, true, false, ◌||◌, not, nat_eq, List, [], ◌∷◌, ◌++◌, length, Option, Some, None, is_none}
use Rattle.base.specs.declared.limits.TheConstants.{LABELS}
use Rattle.ada_tree.specs.declared.declaration.Formal.{Formal}
use Rattle.ada_tree.specs.declared.declaration.Mode.{Mode}
use Rattle.ada_tree.specs.declared.declaration.Mode.TheVariants as mode
use Rattle.ada_tree.specs.declared.program.MainStatement.{MainStatement}
use Rattle.ada_tree.specs.declared.program.MainStatement.TheVariants as main
use Rattle.ada_tree.specs.ExpressionTree.{ArgumentTree, ArgumentTrees, Conditional, ElsifValueTrees, ExprTree, MoreArguments, MoreElsifValues, Named, NameTree, NoArguments, NoElsifValues, Parenthesized, SelectorTrees, Text, Value}
use Rattle.ada_tree.specs.StatementTree.{ChoicesTree, DeclarationTree, LocalObject, OtherValues, Values}
use Rattle.ada_tree.specs.Size.{total}
use Rattle.image.specs.declared.instruction.Region.TheVariants as regions
use Rattle.types.specs.declared.entity.FormalParameter.{FormalParameter}
use Rattle.types.specs.declared.entity.Subtype.{Subtype}
use Rattle.types.specs.declared.standing.Standing.{Standing}
use Rattle.types.specs.declared.standing.Standing.TheVariants as standing
use Rattle.types.specs.Entities.{Entity, Integers, Object, Profile, Spans, Times, TypeForm}
use Rattle.types.specs.Layouts.{words_of}
use Rattle.types.specs.Scopes.{Scope, form_at}
use Rattle.types.specs.Scopes as scopes
use Rattle.types.specs.Shapes.{shape_of}
use Rattle.types.specs.Standings.{standing_of}
use Rattle.type_rules.specs.SubtypeNames.{subtype_of}
use Rattle.expr_soundness.specs.declaration_rules.specs.LocalRules.{local_scope}
use Rattle.step_soundness.specs.Fitting.{entity_named}
use Rattle.expr_code.specs.Code.{here}
use Rattle.expr_code.specs.Emitting.{is_composite}
use Rattle.expr_code.specs.Refusing.{IsRefused, IsRefusedBeside, IsUnfit, checked_peak, is_fit, peak, selectors_peak}
use Rattle.expr_code.specs.Providing.{is_passable}
use Rattle.expr_code.specs.Seeing.{profile_named, slot_of, subprogram_of, external_profile}
use Rattle.expr_code.specs.declared.code.Code.{Code}
use Rattle.expr_code.specs.declared.refusal.ImageLimit.TheVariants as limits
use Rattle.expr_code.specs.declared.refusal.Refusal.{Refusal}
use Rattle.expr_code.specs.declared.refusal.Refusal.TheVariants as refusal
use Rattle.expr_code.specs.declared.visible.Slot.{Slot}
use Rattle.expr_code.specs.declared.visible.Visible.{Visible}
use Rattle.part_code.specs.Formals.{passed_for, returned_more}
use Rattle.part_code.specs.Bounds.{local_words, words_named}
use Rattle.part_code.specs.EntryNames.{is_own_entry}
use Rattle.part_code.specs.Lines.{LabelledValue, line_of}
use Rattle.part_code.specs.Moving.{moves}
use Rattle.part_code.specs.Passing.{actuals_behind, copied_width, ExternalName, operation_behind}
use Rattle.part_code.specs.Suiting.{passed_width, HasPlaceIn}
use Rattle.part_code.specs.declared.call.Destination.{Destination}
use Rattle.part_code.specs.declared.formals.PlacedFormal.{PlacedFormal}

-- ---- what code needs

-- The words on the operand stack, and those of the frame with all that are taken in front of it, where they are most; and whether a value of its expressions
-- may have words that no image has. What no legal statement has needs nothing.
pub record Needs : Type 0 where
  pub stack : ℕ
  pub frame : ℕ
  pub unfit : Bool

abbrev pub nothing : Needs
nothing = record { stack = 0; frame = 0; unfit = false }

-- so many words of the operand stack, or of the frame
abbrev pub stacked : ℕ → Needs
stacked n = record { stack = n; frame = 0; unfit = false }

abbrev pub framed : ℕ → Needs
framed n = record { stack = 0; frame = n; unfit = false }

-- the code of both, one behind the other or beside each other
abbrev pub both : Needs → Needs → Needs
both a b = record { stack = max a.stack b.stack; frame = max a.frame b.frame; unfit = a.unfit || b.unfit }

-- an object that is visible takes no words, or more than an image may have, or a part of it does
abbrev pub is_unfit : Scope → Entity → Bool
is_unfit s (Object r t) = not (is_fit (shape_of s t))
is_unfit s e = false

abbrev pub are_unfit : Scope → List scopes.Named → Bool
are_unfit s [] = false
are_unfit s (n ∷ rest) = is_unfit s n.entity || are_unfit s rest

abbrev pub has_unfit : Visible → Bool
has_unfit v = are_unfit v.scope v.scope

-- of a value above so many words
abbrev pub needs_above : (depth : ℕ) → Visible → ExprTree → Needs
needs_above depth v e = record { stack = depth + peak v.scope e; frame = 0; unfit = has_unfit v }

abbrev pub value_needs : Visible → ExprTree → Needs
value_needs v e = needs_above 0 v e

-- ---- where a statement stands

-- a name more is visible, of an object whose words are taken next
abbrev pub with_object : Visible → Scope → (taken : ℕ) → Visible
with_object v s taken =
    record {
      scope = s;
      slots = v.slots ++ Some (record { region = regions.Locals; offset = taken }) ∷ [];
      subprograms = v.subprograms ++ None ∷ [];
      operations = v.operations;
    }

abbrev pub local_visible : Visible → (taken : ℕ) → DeclarationTree → Visible
local_visible v taken d = with_object v (local_scope v.scope d) taken

-- what is visible behind declarations
abbrev pub locals_visible : Visible → (taken : ℕ) → List DeclarationTree → Visible
locals_visible v taken [] = v
locals_visible v taken (d ∷ ds) = locals_visible (local_visible v taken d) (taken + local_words v.scope d) ds

-- ---- declarations

-- What an initial value of a subtype needs, above the address of several words.
abbrev pub initial_needs : Visible → Subtype → Option ExprTree → Needs
initial_needs v t None = stacked (suc (words_of v.scope t))
initial_needs v t (Some e) =
    record {
      stack = suc (max (words_of v.scope t) (checked_peak (peak v.scope e)));
      frame = 0;
      unfit = has_unfit v || not (is_fit (shape_of v.scope t));
    }

abbrev pub object_needs : Visible → (taken : ℕ) → Option Subtype → Option ExprTree → Needs
object_needs v taken None value = nothing
object_needs v taken (Some t) value = both (framed (taken + words_of v.scope t)) (initial_needs v t value)

abbrev pub local_needs : Visible → (taken : ℕ) → DeclarationTree → Needs
local_needs v taken (LocalObject d) = object_needs v taken (subtype_of v.scope d.subtype) d.value
local_needs v taken d = nothing

abbrev pub locals_needs : Visible → (taken : ℕ) → List DeclarationTree → Needs
locals_needs v taken [] = nothing
locals_needs v taken (d ∷ ds) = both (local_needs v taken d) (locals_needs (local_visible v taken d) (taken + local_words v.scope d) ds)

-- ---- assignments

abbrev pub is_object : Standing → Bool
is_object (standing.Part r t) = true
is_object w = false

-- it names an object, or a part of one
abbrev pub names_object : Scope → ExprTree → Bool
names_object s (Named first path) = is_object (standing_of s first path)
names_object s e = false

-- of the address of a variable, or of a part of it, above so many words
abbrev pub address_needs : (depth : ℕ) → Visible → SelectorTrees → Needs
address_needs depth v path = record { stack = depth + selectors_peak v.scope 1 path; frame = 0; unfit = has_unfit v }

abbrev pub words_at : Scope → Standing → ℕ
words_at s (standing.Part r t) = words_of s t
words_at s w = 0

-- code checks its values, or they need no check
abbrev pub is_taken : Scope → Subtype → Bool
is_taken s t = is_passable s t || is_composite (form_at s t.type_number)

-- of the value, above the address of what it is assigned to
abbrev pub assigned_needs : Visible → Standing → ExprTree → Needs
assigned_needs v target e =
    record {
      stack = suc (max (words_at v.scope target) (checked_peak (peak v.scope e)));
      frame = 0;
      unfit = has_unfit v;
    }

-- where the value stands on the operand stack
abbrev pub stored_needs : Visible → NameTree → ExprTree → Needs
stored_needs v name e = both (address_needs 0 v name.selectors) (assigned_needs v (standing_of v.scope name.first name.selectors) e)

abbrev mutual
  -- of what moves a value, above the address of what it is assigned to: conditions, and the address of what is named
  pub move_needs : Visible → ExprTree → Needs
  move_needs v (Named first selectors) = address_needs 1 v selectors
  move_needs v (Parenthesized place e) = move_needs v e
  move_needs v (Conditional place condition value elsifs last) =
      both (needs_above 1 v condition) (both (move_needs v value) (both (moves_needs v elsifs) (move_needs v last)))
  move_needs v e = nothing

  pub moves_needs : Visible → ElsifValueTrees → Needs
  moves_needs v NoElsifValues = nothing
  moves_needs v (MoreElsifValues condition value rest) = both (needs_above 1 v condition) (both (move_needs v value) (moves_needs v rest))

-- where it is moved from other variables, or from parts of them
abbrev pub moved_needs : Visible → NameTree → ExprTree → Needs
moved_needs v name e = both (address_needs 0 v name.selectors) (move_needs v e)

abbrev pub needs_by : Visible → NameTree → ExprTree → (moved : Bool) → Needs
needs_by v name e false = stored_needs v name e
needs_by v name e true = moved_needs v name e

abbrev pub assignment_needs : Visible → NameTree → ExprTree → Needs
assignment_needs v name e = needs_by v name e (moves v name e)

-- ---- lines

-- of a line: its value
abbrev pub line_needs : Visible → Option LabelledValue → Needs
line_needs v None = nothing
line_needs v (Some line) = value_needs v line.value

-- ---- calls of procedures and entries

-- of an actual parameter of mode `in`: its value, checked
abbrev pub in_needs : (depth : ℕ) → Visible → Subtype → ExprTree → Needs
in_needs depth v t e =
    record {
      stack = depth + max (words_of v.scope t) (checked_peak (peak v.scope e));
      frame = 0;
      unfit = has_unfit v || not (is_fit (shape_of v.scope t));
    }

-- of one of mode `out`: the address of what it names
abbrev pub target_needs : (depth : ℕ) → Visible → ExprTree → Needs
target_needs depth v (Named first path) = address_needs depth v path
target_needs depth v e = nothing

-- a number is checked beside both bounds
abbrev pub check_words : Option TypeForm → ℕ
check_words (Some Integers) = 2
check_words (Some Times) = 2
check_words (Some Spans) = 2
check_words form = 0

-- of one of mode `in out` the value too, so many words above the address, which is checked against the subtype of the parameter
abbrev pub copied_needs : (depth : ℕ) → Visible → (words : ℕ) → Subtype → Needs
copied_needs depth v words t =
    record {
      stack = depth + suc (max 1 (words + check_words (form_at v.scope t.type_number)));
      frame = 0;
      unfit = has_unfit v;
    }

abbrev pub in_out_needs : (depth : ℕ) → Visible → Subtype → ExprTree → Needs
in_out_needs depth v t (Named first path) = both (address_needs depth v path) (copied_needs depth v (words_at v.scope (standing_of v.scope first path)) t)
in_out_needs depth v t e = nothing

abbrev pub moded_needs : (depth : ℕ) → Visible → FormalParameter → ExprTree → Needs
moded_needs depth v f e =
    elim f.mode [ mode.In ↦ in_needs depth v f.subtype e | mode.Out ↦ target_needs depth v e | mode.InOut ↦ in_out_needs depth v f.subtype e ]

abbrev pub actual_needs : (depth : ℕ) → Visible → FormalParameter → ArgumentTree → Needs
actual_needs depth v f (Value e) = moded_needs depth v f e
actual_needs depth v f (Text label place) = nothing

-- from left to right, each above the words that are passed in front of it
abbrev pub actuals_needs : (height : ℕ) → Visible → List FormalParameter → ArgumentTrees → Needs
actuals_needs height v fs NoArguments = nothing
actuals_needs height v [] (MoreArguments a rest) = nothing
actuals_needs height v (f ∷ fs) (MoreArguments a rest) = both (actual_needs height v f a) (actuals_needs (height + passed_width v.scope f) v fs rest)

-- where they are copied back to
abbrev pub destination_at : Option Slot → Standing → List Destination
destination_at (Some x) (standing.Part r t) = record { region = x.region; subtype = t } ∷ []
destination_at x w = []

abbrev pub destinations_named : Visible → ExprTree → List Destination
destinations_named v (Named first path) = destination_at (slot_of v first.name) (standing_of v.scope first path)
destinations_named v e = []

abbrev pub destinations_if : Visible → Mode → ExprTree → List Destination
destinations_if v m e = elim m [ mode.In ↦ [] | mode.Out ↦ destinations_named v e | mode.InOut ↦ destinations_named v e ]

abbrev pub destinations_for : Visible → FormalParameter → ArgumentTree → List Destination
destinations_for v f (Value e) = destinations_if v f.mode e
destinations_for v f (Text label place) = []

abbrev pub destinations_of : Visible → List FormalParameter → ArgumentTrees → List Destination
destinations_of v fs NoArguments = []
destinations_of v [] (MoreArguments a rest) = []
destinations_of v (f ∷ fs) (MoreArguments a rest) = destinations_for v f a ++ destinations_of v fs rest

-- of a copy back: the check of the value on top of so many words
abbrev pub copy_needs : Visible → (height : ℕ) → Destination → Needs
copy_needs v height d = record { stack = height + check_words (form_at v.scope d.subtype.type_number); frame = 0; unfit = has_unfit v }

-- of all, from the first one on
abbrev pub copies_needs : Visible → List Destination → Needs
copies_needs v [] = nothing
copies_needs v (d ∷ ds) = both (copy_needs v (total (copied_width v.scope) (d ∷ ds)) d) (copies_needs v ds)

-- it is copied back to where a visible name has its words, by a check or without; and wherever that is unfit, something that is visible is
pub record IsPartFit (v : Visible) (d : Destination) : Type 0 where
  pub there : HasPlaceIn v d.region
  pub taken : is_taken v.scope d.subtype ≡ true
  pub unfit : IsUnfit v.scope d.subtype → has_unfit v ≡ true

abbrev pub passed_needs : Visible → List FormalParameter → Option ArgumentTrees → Needs
passed_needs v fs None = nothing
passed_needs v fs (Some all) =
    both (actuals_needs 0 v fs all) (both (stacked (total (passed_width v.scope) fs)) (copies_needs v (destinations_of v fs all)))

abbrev pub invoked_needs : Visible → NameTree → Profile → Needs
invoked_needs v name profile = passed_needs v profile.formals (actuals_behind name.selectors)

abbrev pub put_needs : Visible → NameTree → Needs
put_needs v name = line_needs v (line_of name)

-- what a call through the name of a protected object needs, whose operation or entry has this profile
abbrev pub behind_needs : Visible → ExternalName → Option Profile → Needs
behind_needs v x None = nothing
behind_needs v x (Some profile) = passed_needs v profile.formals (Some x.arguments)

-- what a bare name needs: of an entry of the body's own object, which is a test alone, or of a line
abbrev pub bare_needs : Visible → NameTree → (own_entry : Bool) → Needs
bare_needs v name true = nothing
bare_needs v name false = put_needs v name

abbrev pub through_needs : Visible → NameTree → Option ExternalName → Needs
through_needs v name None = bare_needs v name (is_own_entry (entity_named v.scope name.first.name))
through_needs v name (Some x) = behind_needs v x (external_profile v.scope name.first.name x.operation.name)

abbrev pub called_needs : Visible → NameTree → Option Profile → Needs
called_needs v name (Some profile) = invoked_needs v name profile
called_needs v name None = through_needs v name (operation_behind name.selectors)

abbrev pub call_needs : Visible → NameTree → Needs
call_needs v name = called_needs v name (profile_named v.scope name.first.name)

-- ---- statements

-- choices are tested by three words
abbrev pub choices_needs : ChoicesTree → Needs
choices_needs (Values cs) = stacked 3
choices_needs (OtherValues place) = stacked 1

-- ---- refusals

-- Why code is refused that would end behind so many instructions and needs this: memory may always be refused, and the words of the frame are as few as those
-- of the operand stack may be.
abbrev pub IsNeeding : (instructions : ℕ) → Needs → Refusal → Type 0
IsNeeding instructions n why = IsRefusedBeside (n.unfit ≡ true) instructions (max n.stack n.frame) why

-- There are too many labels.
abbrev pub HasManyLabels : (labels : List (List ℕ)) → Refusal → Type 0
HasManyLabels labels (refusal.Limit limits.Labels) = LABELS < length labels
HasManyLabels labels why = ⊥

-- ---- formal parameters

-- the word behind one, of those that are passed or of the others
abbrev pub placed_end : Mode → (many from out : ℕ) → ℕ
placed_end mode.In many from out = from + many
placed_end mode.Out many from out = max (from + 1) (out + many)
placed_end mode.InOut many from out = (from + 1) + many

-- The words that are passed for them, and those of values that are not copied in.
abbrev pub out_for : Scope → Formal → ℕ
out_for s f = elim f.mode [ mode.In ↦ 0 | mode.Out ↦ words_named s f.subtype | mode.InOut ↦ 0 ]

abbrev pub formals_frame : Scope → List Formal → ℕ
formals_frame s fs = total (passed_for s) fs + total (out_for s) fs

-- what is named as its subtype is none, or one whose values have no words
abbrev pub is_wordless : Scope → Formal → Bool
is_wordless s f = nat_eq (words_named s f.subtype) 0

abbrev pub are_wordless : Scope → List Formal → Bool
are_wordless s [] = false
are_wordless s (f ∷ fs) = is_wordless s f || are_wordless s fs

abbrev pub formals_needs : Scope → List Formal → Needs
formals_needs s fs = framed (formals_frame s fs)

abbrev pub RefusesFormals : Scope → List Formal → Refusal → Type 0
RefusesFormals s fs why = IsNeeding 0 (formals_needs s fs) why

-- the first values of `out` parameters, placed in the frame
abbrev pub out_needs : Visible → PlacedFormal → Needs
out_needs v x = elim x.mode [ mode.In ↦ nothing | mode.Out ↦ initial_needs v x.subtype None | mode.InOut ↦ nothing ]

abbrev pub outs_needs : Visible → List PlacedFormal → Needs
outs_needs v [] = nothing
outs_needs v (x ∷ xs) = both (out_needs v x) (outs_needs v xs)

abbrev pub given_if_any : Scope → PlacedFormal → ℕ
given_if_any s x = returned_more x.address (max 1 (words_of s x.subtype)) 0

abbrev pub all_given : Scope → List PlacedFormal → ℕ
all_given s [] = 0
all_given s (x ∷ xs) = given_if_any s x + all_given s xs

-- ---- main

-- a procedure that it calls has no number
abbrev pub is_unknown : Visible → MainStatement → Bool
is_unknown v (main.Null place) = false
is_unknown v (main.Call package_ procedure) = is_none (subprogram_of v procedure.name)

abbrev pub are_unknown : Visible → List MainStatement → Bool
are_unknown v [] = false
are_unknown v (x ∷ rest) = is_unknown v x || are_unknown v rest

abbrev pub RefusesMain : Visible → (old : Code) → List MainStatement → (bound : ℕ) → Refusal → Type 0
RefusesMain v old all bound why = IsRefused (here old + bound) 0 why
