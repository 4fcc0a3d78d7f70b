-- A body that breaks no rule can be begun: its declarations, then its statements with their handlers (RM 3.11, 11.2).
use Rattle.std.proofs.Common.{◌≡◌, ℕ, List, [], ◌∷◌, ◌++◌, map, Bool, true, false, Option, Some, None, refl, ◌∙◌}
use Rattle.expr_soundness.specs.ada_tree.specs.ExpressionTree.{ExprTree}
use Rattle.expr_soundness.specs.ada_tree.specs.StatementTree.{DeclarationTree, HandlerTrees, LocalObject, LocalProtected, LocalTask, ObjectTree, StmtTrees}
use Rattle.types.specs.declared.entity.Subtype.{Subtype}
use Rattle.types.specs.declared.entity.PredefinedOperation.{PredefinedOperation}
use Rattle.types.specs.Entities.{Entity}
use Rattle.types.specs.Scopes.{Scope, with_name}
use Rattle.expr_soundness.specs.expr_rules.specs.Faults.{Faults}
use Rattle.expr_soundness.specs.expr_rules.specs.ExpressionRules.{faults_of}
use Rattle.expr_soundness.specs.expr_rules.proofs.TypedLaw.{back_empty, front_empty}
use Rattle.expr_soundness.specs.type_rules.specs.SubtypeNames.{declared_twice, subtype_faults, subtype_of, wanted_by}
use Rattle.expr_soundness.specs.type_rules.specs.ObjectRules.{called_faults, fixed_faults, fixed_initial_faults, fixed_object_faults, is_clock, local_initial_faults, local_object_faults, span_call}
use Rattle.declaration_rules.specs.LocalRules.{fixed_local_faults, fixed_locals_faults, local_faults, local_scope, locals_faults, locals_scope}
use Rattle.step_soundness.specs.stmt_rules.specs.declared.around.Around.{Around}
use Rattle.step_soundness.specs.stmt_rules.specs.StatementRules.{handlers_faults, sequence_faults, stmts_faults}
use Rattle.step_soundness.specs.body_restrictions.specs.BodyRules as profile
use Rattle.expr_soundness.specs.meaning.specs.Programs.{Program}
use Rattle.expr_soundness.specs.meaning.specs.Works.{Declares, Item, Sequence}
use Rattle.step_soundness.specs.Judged.{AreResults, Begins, Judged, Leaves, Waiting}
use Rattle.step_soundness.proofs.Going.{leaves_of}
use Rattle.step_soundness.proofs.Sights.{narrows_same}
use Rattle.program_soundness.proofs.Listing.{first_some}
use Rattle.program_soundness.proofs.WiderScopes.{one_named, stands, stands_with}
use Rattle.program_soundness.proofs.OneList.{both_empty}
use Rattle.program_soundness.proofs.BodyProfiles.{Keeps}

-- ---- names stay

pub keeps_same : (s : Scope) → Keeps s s
keeps_same s name e h = h

pub keeps_then : (s t u : Scope) → Keeps s t → Keeps t u → Keeps s u
keeps_then s t u h k name e i = k name e (h name e i)

pub keeps_with : (s : Scope) (name : List ℕ) (e : Entity) → Keeps s (with_name s name e)
keeps_with s name e other x h = stands_with s name e other ∙ first_some (stands s other) (one_named (record { name = name; entity = e }) other) x h

keeps_local : (s : Scope) (d : DeclarationTree) → Keeps s (local_scope s d)
keeps_local s (LocalObject d) = keeps_with s d.name.name _
keeps_local s (LocalTask d) = keeps_with s d.name.name _
keeps_local s (LocalProtected d) = keeps_with s d.name.name _

pub results_kept : (s u : Scope) (ns : List ℕ) (names : List (List ℕ)) → Keeps s u → AreResults s ns names → AreResults u ns names
results_kept s u [] [] keeps h = tt
results_kept s u (n ∷ ns) (name ∷ names) keeps h = ((h.0.0, h.0.1, keeps name _ h.0.2, h.0.3, h.0.4), results_kept s u ns names keeps h.1)
results_kept s u [] (name ∷ names) keeps h = absurd h
results_kept s u (n ∷ ns) [] keeps h = absurd h

-- ---- initial values that are static break no other rule

called_legal : (s : Scope) (t : Option Subtype) (e : ExprTree) (o : Option (PredefinedOperation × ExprTree)) → called_faults s t e o ≡ []
    → faults_of s (wanted_by t) e ≡ []
called_legal s t e (Some x) h = front_empty (faults_of s (wanted_by t) e) _ (front_empty _ _ h)
called_legal s t e None h = front_empty (faults_of s (wanted_by t) e) _ (front_empty _ _ h)

pub fixed_legal : (s : Scope) (t : Option Subtype) (e : ExprTree) → fixed_faults s t e ≡ [] → faults_of s (wanted_by t) e ≡ []
fixed_legal s t e h = by_test (is_clock s e) h
  where
    by_test : (b : Bool) → ◌≡◌ {A = Faults} (elim b [ true ↦ faults_of s (wanted_by t) e | false ↦ called_faults s t e (span_call s e) ]) []
        → faults_of s (wanted_by t) e ≡ []
    by_test true k = k
    by_test false k = called_legal s t e (span_call s e) k

initial_legal : (s : Scope) (d : ObjectTree) (o : Option ExprTree) → fixed_initial_faults s (record d { value = o }) ≡ []
    → local_initial_faults s (record d { value = o }) ≡ []
initial_legal s d (Some e) h = fixed_legal s (subtype_of s d.subtype) e h
initial_legal s d None h = h

object_legal : (s : Scope) (d : ObjectTree) → fixed_object_faults s d ≡ [] → local_object_faults s d ≡ []
object_legal s d h =
    let two = front_empty _ (declared_twice s d.name) h in
    both_empty _ (declared_twice s d.name)
    (both_empty (subtype_faults s d.subtype) (local_initial_faults s d) (front_empty (subtype_faults s d.subtype) (fixed_initial_faults s d) two)
    (initial_legal s d d.value (back_empty (subtype_faults s d.subtype) (fixed_initial_faults s d) two)))
    (back_empty _ (declared_twice s d.name) h)

local_legal : (s : Scope) (d : DeclarationTree) → fixed_local_faults s d ≡ [] → local_faults s d ≡ []
local_legal s (LocalObject d) h = object_legal s d h
local_legal s (LocalTask d) h = h
local_legal s (LocalProtected d) h = h

pub locals_legal : (s : Scope) (ds : List DeclarationTree) → fixed_locals_faults s ds ≡ [] → locals_faults s ds ≡ []
locals_legal s [] h = refl
locals_legal s (d ∷ ds) h =
    both_empty (local_faults s d) _ (local_legal s d (front_empty (fixed_local_faults s d) _ h))
    (locals_legal (local_scope s d) ds (back_empty (fixed_local_faults s d) _ h))

-- ---- declarations, and the statements behind them

module _ (program : Program) (outer : List Waiting) (a : Around) (body : StmtTrees) (all : HandlerTrees) (tail : List Item) where
  -- an exception in front drops what has not begun
  dropped : (s : Scope) (ds : List DeclarationTree) → Judged program s outer a tail → Leaves program s outer a (map Declares ds ++ Sequence body all ∷ tail)
  dropped s [] judged = leaves_of program s outer a tail (s, narrows_same program s, judged)
  dropped s (d ∷ ds) judged = dropped s ds judged

  pub begins_body : (s : Scope) (ds : List DeclarationTree) → locals_faults s ds ≡ [] → profile.locals_faults ds ≡ []
      → sequence_faults (locals_scope s ds) a body all ≡ []
      → profile.stmts_faults body ≡ [] → profile.handlers_faults all ≡ [] → ((u : Scope) → Keeps s u → Judged program u outer a tail)
      → Begins program s outer a (map Declares ds ++ Sequence body all ∷ tail)
  begins_body s [] legal kept sequence statements handlers_ ends = (
    (front_empty (stmts_faults s a body) (handlers_faults s a all) sequence, statements),
    (back_empty (stmts_faults s a body) (handlers_faults s a all) sequence, handlers_),
    s,
    narrows_same program s,
    ends s (keeps_same s),
  )
  begins_body s (d ∷ ds) legal kept sequence statements handlers_ ends = (
    (front_empty (local_faults s d) (locals_faults (local_scope s d) ds) legal, front_empty (profile.local_faults d) (profile.locals_faults ds) kept),
    begins_body (local_scope s d) ds (back_empty (local_faults s d) (locals_faults (local_scope s d) ds) legal)
        (back_empty (profile.local_faults d) (profile.locals_faults ds) kept)
        sequence statements handlers_ (λ u k. ends u (keeps_then s (local_scope s d) u (keeps_local s d) k)),
    dropped s ds (ends s (keeps_same s)),
  )
