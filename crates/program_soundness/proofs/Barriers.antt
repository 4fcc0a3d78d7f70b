-- A barrier is the bare name of a component, True or False, so it tells the same while the components of its object do.
use Rattle.std.proofs.Common.{◌≡◌, ◌++◌, ℕ, List, [], ◌∷◌, map, Bool, true, false, not, ◌&&◌, Option, Some, None, refl, sym, ap, ◌∙◌}
use Rattle.std.specs.Prelude.{⊤, cond, is_some}
use Rattle.expr_soundness.specs.base.specs.declared.faults.TheConstants.{WRONG_BARRIER}
use Rattle.expr_soundness.specs.base.specs.declared.limits.TheConstants.{TASK_PRIORITY}
use Rattle.expr_soundness.specs.ada_tree.specs.declared.expression.Identifier.{Identifier}
use Rattle.expr_soundness.specs.ada_tree.specs.ExpressionTree.{ExprTree, Named, NoSelectors, bare_name}
use Rattle.expr_soundness.specs.ada_tree.specs.StatementTree.{SubprogramTree}
use Rattle.expr_soundness.specs.ada_tree.specs.ProgramTree.{BodyItemTree, BodyTree, OfItem, SubprogramBody, TaskBody, ProtectedBody, OperationBody, EntryBody, PackageTree, ProgramTree, ProtectedItemTree}
use Rattle.types.specs.declared.entity.PredefinedOperation.TheVariants as predefined
use Rattle.types.specs.declared.entity.RecordComponent.{RecordComponent}
use Rattle.types.specs.Entities.{Entity, OfType, OfSubtype, Object, Constant, Literal, Exception, Subprogram, Entry, Predefined, Put, Task, Protected, LibraryUnit, Doubtful}
use Rattle.types.specs.Scopes.{Scope, entity_at, number_of, standard}
use Rattle.types.specs.Standings.{settle, stands_first}
use Rattle.types.specs.Statics.{start_of, static_place}
use Rattle.types.specs.Values.{value_of}
use Rattle.types.specs.Evaluations.{Gives}
use Rattle.types.specs.Evaluating.{Calls, call, ended, fixed_value, val}
use Rattle.types.specs.Places.{IsFunction, IsNothing, IsObject, IsPredefined, IsProtected, IsSubtype, IsValue, Meaning, Place, is_of, meaning_in_scope, meaning_of_entity, meaning_or, object_meaning, object_of, object_stands, or_else}
use Rattle.types.specs.Places as places
use Rattle.expr_soundness.specs.expr_rules.proofs.TypedLaw.{back_empty, front_empty, unbroken}
use Rattle.declaration_rules.specs.PackageNames.{body_item_scope, inside_scope, program_scope, specified_scope}
use Rattle.unit_rules.specs.MainRules.{main_scope}
use Rattle.step_soundness.specs.body_restrictions.specs.BodyRules.{barrier_rule, body_faults, is_simple_name, operation_faults, operations_faults}
use Rattle.ravenscar.specs.PragmaRules.{pragma_faults}
use Rattle.ravenscar.specs.HandlerRules.{none_taken}
use Rattle.ravenscar.specs.ProgramRules.{IsRestricted, body_item_faults, body_items_faults, components_named, items_faults, package_part_faults, taken_by_body_item, taken_by_items}
use Rattle.ravenscar.specs.TaskingRules.{aspect_faults}
use Rattle.expr_soundness.specs.meaning.specs.Programs.{Procedure, object_numbered, operation_procedures, package_bodies, parameter, procedure_of, procedures_among, program_of}
use Rattle.expr_soundness.specs.meaning.specs.Calls.{barrier_of, barrier_place, holds_at, is_open, is_true}
use Rattle.expr_soundness.specs.meaning.specs.Works.{Store}
use Rattle.expr_soundness.proofs.Expressions.{not_false}
use Rattle.step_soundness.specs.Laws.{BarriersAreOwn}

-- ---- which barriers there are

abbrev pub IsBare : Option ExprTree → Type 0
IsBare (Some e) = (name : Identifier) × (e ≡ Named name NoSelectors)
IsBare None = ⊤

abbrev pub AreBare : List Procedure → Type 0
AreBare [] = ⊤
AreBare (q ∷ qs) = IsBare q.barrier × AreBare qs

all_bare : (xs ys : List Procedure) → AreBare xs → AreBare ys → AreBare (xs ++ ys)
all_bare [] ys h k = k
all_bare (q ∷ xs) ys h k = (h.0, all_bare xs ys h.1 k)

bare_name_is : (components : List RecordComponent) (e : ExprTree) → barrier_rule components e ≡ [] → IsBare (Some e)
bare_name_is components e h =
    by_name e (not_false (is_simple_name components (bare_name e)) (unbroken WRONG_BARRIER (start_of e) (not (is_simple_name components (bare_name e))) h))
  where
    by_name : (x : ExprTree) → is_simple_name components (bare_name x) ≡ true → IsBare (Some x)
    by_name (Named name NoSelectors) k = (name, refl)
    by_name x k = cc

procedure_bare : (s : Scope) (o : Option ℕ) (d : SubprogramTree) (b : BodyTree) → AreBare (procedure_of s o d b)
procedure_bare s o d b = by_result d.result
  where
    by_result : (r : Option Identifier)
        → AreBare (elim r [ Some result ↦ [] | None ↦ record { object = o; name = d.name.name; parameters = map (parameter s) d.formals; barrier = None; body = b } ∷ [] ])
    by_result (Some result) = tt
    by_result None = (tt, tt)

operations_bare : (s : Scope) (components : List RecordComponent) (o : Option ℕ) (items : List ProtectedItemTree) → operations_faults components items ≡ []
    → AreBare (operation_procedures s o items)
operations_bare s components o [] h = tt
operations_bare s components o (OperationBody d b ∷ items) h =
    all_bare (procedure_of s o d b) (operation_procedures s o items) (procedure_bare s o d b)
    (operations_bare s components o items (back_empty (operation_faults components (OperationBody d b)) (operations_faults components items) h))
operations_bare s components o (EntryBody d barrier b ∷ items) h =
    let here = front_empty (operation_faults components (EntryBody d barrier b)) (operations_faults components items) h in (
      bare_name_is components barrier (front_empty (barrier_rule components barrier) (body_faults b) here),
      operations_bare s components o items (back_empty (operation_faults components (EntryBody d barrier b)) (operations_faults components items) h),
    )

bodies_bare : (s walked : Scope) (taken : List Bool) (bodies : List BodyItemTree) → body_items_faults walked taken bodies ≡ [] → AreBare (procedures_among s bodies)
bodies_bare s walked taken [] h = tt
bodies_bare s walked taken (OfItem d ∷ bodies) h =
    let next = body_item_scope walked (OfItem d) in
    let behind = taken_by_body_item walked taken (OfItem d) in
    bodies_bare s next behind bodies (back_empty (body_item_faults walked taken (OfItem d)) (body_items_faults next behind bodies) h)
bodies_bare s walked taken (TaskBody n b ∷ bodies) h =
    bodies_bare s walked taken bodies (back_empty (body_item_faults walked taken (TaskBody n b)) (body_items_faults walked taken bodies) h)
bodies_bare s walked taken (SubprogramBody d b ∷ bodies) h =
    let next = body_item_scope walked (SubprogramBody d b) in
    all_bare (procedure_of s None d b) (procedures_among s bodies) (procedure_bare s None d b)
    (bodies_bare s next taken bodies (back_empty (body_item_faults walked taken (SubprogramBody d b)) (body_items_faults next taken bodies) h))
bodies_bare s walked taken (ProtectedBody n items end_name ∷ bodies) h =
    let here = body_item_faults walked taken (ProtectedBody n items end_name) in
    let later = body_items_faults walked taken bodies in
    all_bare (operation_procedures s (object_numbered s n) items) (procedures_among s bodies)
    (operations_bare s (components_named walked n) (object_numbered s n) items (front_empty here later h)) (bodies_bare s walked taken bodies (back_empty here later h))

pub program_bare : (t : ProgramTree) → IsRestricted t → AreBare (procedures_among (program_scope t) (package_bodies t.package_))
program_bare t h = by_package t.package_ parts
  where
    parts : package_part_faults t.package_ ≡ []
    parts =
        back_empty (pragma_faults t) (package_part_faults t.package_)
        (front_empty (pragma_faults t ++ package_part_faults t.package_) (aspect_faults (main_scope t.package_) TASK_PRIORITY t.main.aspect) h)

    by_package : (o : Option PackageTree) → package_part_faults o ≡ [] → AreBare (procedures_among (program_scope t) (package_bodies o))
    by_package None k = tt
    by_package (Some p) k =
        let taken = taken_by_items (inside_scope standard p) none_taken p.declaration.items in
        bodies_bare (program_scope t) (specified_scope standard p) taken p.body.items
        (back_empty (items_faults (inside_scope standard p) none_taken p.declaration.items) (body_items_faults (specified_scope standard p) taken p.body.items) k)

pub barrier_bare : (procedures : List Procedure) (o : ℕ) → AreBare procedures → IsBare (barrier_of procedures o)
barrier_bare [] o h = tt
barrier_bare (q ∷ qs) o h = by_test (is_of q.object (Some o) && is_some q.barrier) (barrier_bare qs o h.1)
  where
    by_test : (b : Bool) → IsBare (barrier_of qs o) → IsBare (cond b q.barrier (barrier_of qs o))
    by_test true later = h.0
    by_test false later = later

-- ---- what a bare name is worth

abbrev at_object : Scope → (ℕ → List places.Object) → ℕ → Place
at_object s components o = record (static_place s) { components = components; within = Some o }

abbrev is_function : Meaning → Bool
is_function (IsFunction f x) = true
is_function m = false

entity_no_function : (e : Option Entity) → is_function (meaning_of_entity e) ≡ false
entity_no_function (Some (OfType form t)) = refl
entity_no_function (Some (OfSubtype t)) = refl
entity_no_function (Some (Object r t)) = refl
entity_no_function (Some (Constant t v)) = refl
entity_no_function (Some (Literal b)) = refl
entity_no_function (Some Exception) = refl
entity_no_function (Some (Subprogram p)) = refl
entity_no_function (Some (Entry p)) = refl
entity_no_function (Some (Predefined o p)) = refl
entity_no_function (Some Put) = refl
entity_no_function (Some (Task n)) = refl
entity_no_function (Some (Protected o)) = refl
entity_no_function (Some LibraryUnit) = refl
entity_no_function (Some Doubtful) = refl
entity_no_function None = refl

scope_no_function : (s : Scope) (k : Option ℕ) → is_function (meaning_in_scope s k) ≡ false
scope_no_function s (Some n) = entity_no_function (entity_at s n)
scope_no_function s None = refl

-- what the name means, by the object that is found of it
abbrev meaning_by : Option places.Object → Meaning → Meaning
meaning_by x last = meaning_or (or_else (object_meaning x) None) last

no_function : (x : Option places.Object) (last : Meaning) → is_function last ≡ false → is_function (meaning_by x last) ≡ false
no_function (Some x) last h = refl
no_function None last h = h

ended_alike : (s : Scope) (a b : ℕ → List places.Object) (o : ℕ) (calls : Calls) (m : Meaning) → is_function m ≡ false
    → ended calls (at_object s a o) m ≡ ended calls (at_object s b o) m
ended_alike s a b o calls (IsObject t v) h = refl
ended_alike s a b o calls (IsFunction f x) h = cc
ended_alike s a b o calls (IsPredefined predefined.Clock) h = refl
ended_alike s a b o calls (IsPredefined predefined.Milliseconds) h = refl
ended_alike s a b o calls (IsPredefined predefined.Microseconds) h = refl
ended_alike s a b o calls (IsPredefined predefined.Read) h = refl
ended_alike s a b o calls (IsSubtype t) h = refl
ended_alike s a b o calls (IsProtected x) h = refl
ended_alike s a b o calls (IsValue v) h = refl
ended_alike s a b o calls IsNothing h = refl

value_alike : (s : Scope) (a b : ℕ → List places.Object) (o : ℕ) (name : Identifier) → b o ≡ a o
    → val (at_object s b o) (Named name NoSelectors) ≡ val (at_object s a o) (Named name NoSelectors)
value_alike s a b o name h =
    let x = object_of (a o) name.name in
    let same : object_of (b o) name.name ≡ x = ap (λ l. object_of l name.name) h in
    let last = meaning_in_scope s (number_of s name.name) in
    let w = stands_first s (number_of s name.name) in
    let ends = ended_alike s b a o (call 0) (meaning_by x last) (no_function x last (scope_no_function s (number_of s name.name))) in
    (λ j. elim (fixed_value (settle s (object_stands (same j) w))) [ Some v ↦ Gives (value_of v) | None ↦ ended (call 0) (at_object s b o) (meaning_by (same j) last) ])
    ∙ ap (λ y. elim (fixed_value (settle s (object_stands x w))) [ Some v ↦ Gives (value_of v) | None ↦ y ]) ends

pub barriers_are_own : (t : ProgramTree) → IsRestricted t → BarriersAreOwn (program_of t)
barriers_are_own t restricted o before after same = by_barrier (barrier_of (program_of t).procedures o) refl (barrier_bare (program_of t).procedures o (program_bare t restricted))
  where
    held : Store → Option ExprTree → Bool
    held m e = holds_at (barrier_place (program_of t) m o) e

    by_barrier : (e : Option ExprTree) → barrier_of (program_of t).procedures o ≡ e → IsBare e → is_open (program_of t) after o ≡ is_open (program_of t) before o
    by_barrier None is h = ap (held after) is ∙ sym (ap (held before) is)
    by_barrier (Some e) is h =
        let bare = is ∙ ap Some h.1 in
        ap (held after) bare ∙ ap is_true (value_alike (program_of t).scope before.components after.components o h.0 same) ∙ sym (ap (held before) bare)
