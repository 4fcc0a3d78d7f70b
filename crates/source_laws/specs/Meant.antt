-- That an accepted text tells all that its meaning takes from it. The meaning of programs (meaning/specs) has a value at hand where a text tells none:
-- Integer for
-- a subtype, the first value of a type for an initial value, a priority, no body. None of these is ever taken for an accepted text.
use Rattle.std.specs.Prelude.{◌≡◌, ℕ, pos, false, List, [], ◌∷◌, Option, Some, None, slice_get, ⊤}
use Rattle.lexer.specs.declared.token.Token.{Token}
use Rattle.ada_tree.specs.declared.expression.Identifier.{Identifier}
use Rattle.ada_tree.specs.ExpressionTree.{ExprTree}
use Rattle.ada_tree.specs.StatementTree.{AlternativeTrees, AspectTree, Block, Case, ChoicesTree, DeclarationTree, ElsifTrees, HandlerTrees, If, LocalObject, Loop, MoreAlternatives, MoreElsifs, MoreHandlers, MoreStmts, NoAlternatives, NoElsifs, NoHandlers, NoStmts, ObjectTree, OperationTree, OtherValues, ProtectedComponentTree, ProtectedTree, StmtTree, StmtTrees, TaskTree, Values}
use Rattle.ada_tree.specs.ProgramTree.{BodyItemTree, BodyTree, OfItem, OfObject, OfProtected, OfTask, ProgramTree, ProtectedBody, ProtectedItemTree, TaskBody}
use Rattle.types.specs.declared.entity.Subtype.{Subtype}
use Rattle.types.specs.declared.entity.Value.{Value as Scalar}
use Rattle.types.specs.Entities.{Protected, ProtectedObject}
use Rattle.types.specs.Evaluating.{val}
use Rattle.types.specs.Evaluations.{Gives}
use Rattle.types.specs.Places.{Place, ceiling_of}
use Rattle.types.specs.Scopes.{Scope}
use Rattle.types.specs.Statics.{static_place}
use Rattle.types.specs.Values.{Number, value_of}
use Rattle.expr_soundness.specs.type_rules.specs.SubtypeNames.{named_entity, subtype_of}
use Rattle.program_soundness.specs.declaration_rules.specs.BodyNames.{formals_scope}
use Rattle.program_soundness.specs.declaration_rules.specs.LocalRules.{locals_scope}
use Rattle.program_soundness.specs.declaration_rules.specs.ProtectedRules.{default_ceiling}
use Rattle.program_soundness.specs.declaration_rules.specs.TaskRules.{default_priority}
use Rattle.program_soundness.specs.stmt_rules.specs.StatementRules.{iteration_scope}
use Rattle.legality.specs.ProgramRules.{IsLegal}
use Rattle.program_soundness.specs.ravenscar.specs.ProgramRules.{IsRestricted}
use Rattle.expr_soundness.specs.Agreeing.{Agrees}
use Rattle.expr_soundness.specs.meaning.specs.Programs.{OfBody, base_priority, body_among, object_numbered, package_bodies, program_of, returned}
use Rattle.program_soundness.specs.Fronts.{declared_in}
use Rattle.package_code.specs.Bodies.{Coded, IsBodyOf}
use Rattle.stmt_code.specs.Subprograms.{NameSubtypes}
use Rattle.ada_tree.specs.Parsed.{IsText}

-- ---- objects of the package, and components of protected objects

-- the name is that of a subtype: Integer is never taken for one (`subtype_or_integer`)
abbrev pub IsSubtypeName : Scope → Identifier → Type 0
IsSubtypeName s name = (u : Subtype) × (subtype_of s name ≡ Some u)

-- the value that the text gives is the one that its evaluation at the start comes to, and not the first one of the type (`given_or`)
abbrev pub IsGivenValue : Scope → ExprTree → Type 0
IsGivenValue s e = (c : Scalar) × (val (static_place s) e ≡ Gives (value_of c))

abbrev pub IsGivenIfAny : Scope → Option ExprTree → Type 0
IsGivenIfAny s (Some e) = IsGivenValue s e
IsGivenIfAny s None = ⊤

-- an object with the subtype of this name, and this initial value if any, where all names of the package are visible
pub record IsToldObject (s : Scope) (name : Identifier) (initial : Option ExprTree) : Type 0 where
  pub named : IsSubtypeName s name
  pub given : IsGivenIfAny s initial

-- ---- priorities (RM D.1, D.3)

-- the value of the aspect, or the one of what has no aspect: that one never stands for an aspect's (`priority_of`)
abbrev pub IsToldPriority : Scope → Option AspectTree → (other priority : ℕ) → Type 0
IsToldPriority s (Some a) other priority = val (static_place s) a.value ≡ Gives (Number (pos priority))
IsToldPriority s None other priority = priority ≡ other

-- a protected object, and its ceiling: that of its number is its own
pub record IsToldCeiling (s : Scope) (name : Identifier) (operations : List OperationTree) (aspect : Option AspectTree) : Type 0 where
  pub object : ProtectedObject
  pub stands : named_entity s name ≡ Some (Protected object)
  pub ceiling : IsToldPriority s aspect (default_ceiling operations) (ceiling_of s object.number)

-- ---- which bodies there are

-- the body of the task with this name: it has one, and no other
pub record HasOneBody (name : Identifier) (bodies : List BodyItemTree) : Type 0 where
  pub place : ℕ
  pub own : Identifier
  pub body : BodyTree
  pub at : slice_get bodies place ≡ Some (TaskBody own body)
  pub same : own.name ≡ name.name
  pub taken : body_among name bodies ≡ OfBody body ∷ []
  pub only : (other : ℕ) (own : Identifier) (b : BodyTree) → slice_get bodies other ≡ Some (TaskBody own b) → own.name ≡ name.name → other ≡ place

-- ---- what stands in bodies, where all names of the package are visible in the first scope, and those of the body at the point in the second

-- objects that a body or block declares
abbrev pub AreToldLocals : Scope → List DeclarationTree → Type 0
AreToldLocals s [] = ⊤
AreToldLocals s (LocalObject d ∷ ds) = IsSubtypeName s d.subtype × AreToldLocals s ds
AreToldLocals s (d ∷ ds) = AreToldLocals s ds

-- A choice of a case statement has one value, the same wherever it is evaluated: at each place that agrees with what is visible there. So it is chosen by that
-- value, and never passed over as one that has none (`is_chosen`).
abbrev pub IsToldChoice : Scope → ExprTree → Type 0
IsToldChoice s e = (c : Scalar) × ((p : Place) → Agrees s p → val p e ≡ Gives (value_of c))

abbrev pub AreToldValues : Scope → List ExprTree → Type 0
AreToldValues s [] = ⊤
AreToldValues s (e ∷ es) = IsToldChoice s e × AreToldValues s es

abbrev pub AreToldChoices : Scope → ChoicesTree → Type 0
AreToldChoices s (Values es) = AreToldValues s es
AreToldChoices s (OtherValues place) = ⊤

abbrev mutual
  pub IsToldStmt : (whole s : Scope) → StmtTree → Type 0
  IsToldStmt whole s (If place condition body elsifs others) = IsToldStmts whole s body × AreToldElsifs whole s elsifs × IsToldStmts whole s others
  IsToldStmt whole s (Case place value all) = AreToldAlternatives whole s all
  IsToldStmt whole s (Loop place iteration body) = IsToldStmts whole (iteration_scope s iteration) body
  IsToldStmt whole s (Block place locals body all) =
      AreToldLocals whole locals × IsToldStmts whole (locals_scope s locals) body × AreToldHandlers whole (locals_scope s locals) all
  IsToldStmt whole s simple = ⊤

  pub IsToldStmts : (whole s : Scope) → StmtTrees → Type 0
  IsToldStmts whole s NoStmts = ⊤
  IsToldStmts whole s (MoreStmts x rest) = IsToldStmt whole s x × IsToldStmts whole s rest

  pub AreToldElsifs : (whole s : Scope) → ElsifTrees → Type 0
  AreToldElsifs whole s NoElsifs = ⊤
  AreToldElsifs whole s (MoreElsifs condition body rest) = IsToldStmts whole s body × AreToldElsifs whole s rest

  pub AreToldAlternatives : (whole s : Scope) → AlternativeTrees → Type 0
  AreToldAlternatives whole s NoAlternatives = ⊤
  AreToldAlternatives whole s (MoreAlternatives place choices body rest) =
      AreToldChoices s choices × IsToldStmts whole s body × AreToldAlternatives whole s rest

  pub AreToldHandlers : (whole s : Scope) → HandlerTrees → Type 0
  AreToldHandlers whole s NoHandlers = ⊤
  AreToldHandlers whole s (MoreHandlers choices body rest) = IsToldStmts whole s body × AreToldHandlers whole s rest

-- a body with code
pub record IsToldBody (whole : Scope) (c : Coded) : Type 0 where
  pub formals : NameSubtypes whole c.head.formals
  -- a function gives a value of a subtype: it is not left out for want of one (`function_with`)
  pub result : (r : Identifier) → c.head.result ≡ Some r → IsSubtypeName whole r
  pub returns : (r : Identifier) → c.head.result ≡ Some r → (e : ExprTree) × (returned c.body.statements ≡ Some e)
  pub locals : AreToldLocals whole c.body.declarations
  pub statements : IsToldStmts whole (locals_scope (formals_scope c.front c.head.formals) c.body.declarations) c.body.statements
  pub handlers : AreToldHandlers whole (locals_scope (formals_scope c.front c.head.formals) c.body.declarations) c.body.handlers

-- ---- the whole

pub record IsTold (t : ProgramTree) : Type 0 where
  -- the variables of the package, and the components of its protected objects
  pub variables : (place : ℕ) (d : ObjectTree) → slice_get (declared_in t.package_) place ≡ Some (OfItem (OfObject d)) → d.constant ≡ false
      → IsToldObject (program_of t).scope d.subtype d.value
  pub components : (place index : ℕ) (d : ProtectedTree) (c : ProtectedComponentTree) → slice_get (declared_in t.package_) place ≡ Some (OfItem (OfProtected d))
      → slice_get d.components index ≡ Some c → IsToldObject (program_of t).scope c.subtype c.value
  -- each protected object has its number and its ceiling, and its body is that of an object
  pub objects : (place : ℕ) (d : ProtectedTree) → slice_get (declared_in t.package_) place ≡ Some (OfItem (OfProtected d))
      → IsToldCeiling (program_of t).scope d.name d.operations d.aspect
  pub numbered : (place : ℕ) (name : Identifier) (items : List ProtectedItemTree) (end_name : Identifier)
      → slice_get (declared_in t.package_) place ≡ Some (ProtectedBody name items end_name)
      → (o : ℕ) × (object_numbered (program_of t).scope name ≡ Some o)
  -- each task has its body and its priority, and so has main
  pub tasks : (place : ℕ) (d : TaskTree) → slice_get (declared_in t.package_) place ≡ Some (OfItem (OfTask d))
      → HasOneBody d.name (package_bodies t.package_)
      × IsToldPriority (program_of t).scope d.aspect default_priority (base_priority (program_of t).scope d.aspect)
  pub main : IsToldPriority (program_of t).scope t.main.aspect default_priority (base_priority (program_of t).scope t.main.aspect)
  pub bodies : (c : Coded) → IsBodyOf t c → IsToldBody (program_of t).scope c

abbrev pub MeaningIsTold : Type 0
MeaningIsTold = (text : List ℕ) (tokens : List Token) (t : ProgramTree) → IsText text tokens t → IsLegal t → IsRestricted t → IsTold t
