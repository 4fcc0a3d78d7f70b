-- The barrier of each entry of an accepted text is True or False, whatever values the components of its object have: it is the bare name of a component that is
-- Boolean, or True or False by itself (RM 9.5.2, D.7).
use Rattle.std.proofs.Common.{◌≡◌, ℕ, suc, List, [], ◌∷◌, Bool, true, false, cond, Option, Some, None, refl, sym, ap, ◌∙◌, subst}
use Rattle.std.specs.Prelude.{bytes_eq, codes, ◌||◌, length, slice_get}
use Rattle.ada_tree.specs.declared.expression.Identifier.{Identifier}
use Rattle.ada_tree.specs.ExpressionTree.{ExprTree, Named, NoSelectors}
use Rattle.ada_tree.specs.ProgramTree.{BodyItemTree, EntryBody, PackageTree, ProgramTree, ProtectedBody, ProtectedItemTree}
use Rattle.types.specs.declared.entity.PredefinedOperation.TheVariants as predefined
use Rattle.types.specs.Entities.{Entity, LibraryUnit, OfType, ProtectedObject, Put, Spans, Times}
use Rattle.types.specs.Entities as entity
use Rattle.types.specs.Evaluations.{Gives}
use Rattle.types.specs.Evaluating.{call, ended, fixed_value, val}
use Rattle.types.specs.Places.{Object, meaning_of_entity, meaning_in_scope, meaning_or, object_meaning, object_of, object_stands, or_else}
use Rattle.types.specs.Scopes.{Scope, base_range_of, from_integer, from_nothing, standard, with_control_io, with_name, with_real_time}
use Rattle.types.specs.Standings.{settle, stands_first, stands_for}
use Rattle.types.specs.Values.{Truth, value_of}
use Rattle.expr_soundness.specs.SoundScopes.{SoundScope}
use Rattle.expr_soundness.specs.expr_rules.proofs.TypedLaw.{front_empty, unbroken}
use Rattle.expr_soundness.proofs.Expressions.{not_false}
use Rattle.legality.specs.ProgramRules.{IsLegal}
use Rattle.program_soundness.specs.ravenscar.specs.ProgramRules.{IsRestricted}
use Rattle.program_soundness.specs.ravenscar.specs.ProgramRules as restrictions
use Rattle.program_soundness.specs.step_soundness.specs.body_restrictions.specs.BodyRules.{barrier_rule, is_component, is_simple_name, is_truth_value}
use Rattle.program_soundness.specs.declaration_rules.specs.PackageNames.{clauses_scope}
use Rattle.types.specs.declared.entity.RecordComponent.{RecordComponent}
use Rattle.program_soundness.proofs.Beginning.{keeps_with}
use Rattle.program_soundness.proofs.OneList.{restricted_at}
use Rattle.source_laws.proofs.UnitClauses.{clauses_keep}
use Rattle.source_laws.proofs.WholeBodies.{restricted_items}
use Rattle.expr_soundness.specs.meaning.specs.Calls.{barrier_of, barrier_place}
use Rattle.expr_soundness.specs.meaning.specs.Programs.{Procedure, Program, program_of}
use Rattle.expr_soundness.specs.meaning.specs.Works.{Store}
use Rattle.program_soundness.specs.step_soundness.specs.Fitting.{entry_of}
use Rattle.program_soundness.specs.BodyLaws.{IsSoundMemory}
use Rattle.program_soundness.specs.Fronts.{declared_in, scope_at, start_in}
use Rattle.program_soundness.proofs.Agreed.{OffersAll}
use Rattle.program_soundness.proofs.Assembled as assembled
use Rattle.program_soundness.proofs.Listing.{same_some}
use Rattle.program_soundness.proofs.ObjectBodies as bodies
use Rattle.program_soundness.proofs.ObjectFits as fits
use Rattle.program_soundness.proofs.ObjectTrees.{component_named, components_named}
use Rattle.program_soundness.proofs.Whole.{IsPackage, kept}
use Rattle.program_soundness.proofs.WiderScopes.{equal_bytes, found_in, same_bytes, number_stands, one_named, stands}
use Rattle.package_code.proofs.Barred.{barrier_found, bare_there, component_worth, truth}
use Rattle.package_code.proofs.EntryRows.{IsEntryBody, entry_body}
use Rattle.package_code.proofs.InFront.{LawsOfNames, known, names, whole}
use Rattle.package_code.proofs.OperationBodies.{object}
use Rattle.package_code.proofs.OperationsAdded as added

-- ---- what a bare name is worth

abbrev truth_name : Bool → List ℕ
truth_name true = codes "TRUE"
truth_name false = codes "FALSE"

true_or_false : (s : Scope) (name : List ℕ) → is_truth_value name ≡ true
    → ((b : Bool) → stands standard (truth_name b) ≡ Some (entity.Literal b) → stands s (truth_name b) ≡ Some (entity.Literal b))
    → (b : Bool) × (stands s name ≡ Some (entity.Literal b))
true_or_false s name h kept = by_true (bytes_eq name (codes "TRUE")) refl h
  where
    by_true : (c : Bool) → bytes_eq name (codes "TRUE") ≡ c → (c || bytes_eq name (codes "FALSE")) ≡ true
        → (b : Bool) × (stands s name ≡ Some (entity.Literal b))
    by_true true is k = (true, ap (stands s) (same_bytes name (codes "TRUE") is) ∙ kept true refl)
    by_true false is k = (false, ap (stands s) (same_bytes name (codes "FALSE") k) ∙ kept false refl)

-- where no component has this name
literal_worth : (program : Program) (m : Store) (o : ℕ) (name : Identifier) (b : Bool) → object_of (m.components o) name.name ≡ None
    → stands program.scope name.name ≡ Some (entity.Literal b) → val (barrier_place program m o) (Named name NoSelectors) ≡ Gives (Truth b)
literal_worth program m o name b none there =
    let s = program.scope in
    let n = number_stands s name.name (entity.Literal b) there in
    (λ j. elim (fixed_value (settle s (object_stands (none j) (stands_first s (n.1 j))))) [
      | Some v ↦ Gives (value_of v)
      | None ↦ ended (call 0) (barrier_place program m o) (meaning_or (or_else (object_meaning (none j)) None) (meaning_in_scope s (n.1 j)))
    ])
    ∙ ap (λ e. elim (fixed_value (settle s (stands_for n.0 e))) [
      | Some v ↦ Gives (value_of v)
      | None ↦ ended (call 0) (barrier_place program m o)
          (meaning_of_entity e)
    ]) n.2

-- ---- names of both units of the language stand behind those in front of them

times_keep : (s : Scope) (name : List ℕ) (e : Entity) → stands s name ≡ Some e → stands (with_real_time s) name ≡ Some e
times_keep s name e h =
    let a = with_name s (codes "TIME") (OfType Times (base_range_of (length s))) in
    let b = with_name a (codes "TIME_SPAN") (OfType Spans (base_range_of (suc (length s)))) in
    let c = with_name b (codes "CLOCK") (from_nothing predefined.Clock (base_range_of (length s))) in
    let d = with_name c (codes "MILLISECONDS") (from_integer predefined.Milliseconds (base_range_of (suc (length s)))) in
    keeps_with d (codes "MICROSECONDS") _ name e (keeps_with c (codes "MILLISECONDS") _ name e (keeps_with b (codes "CLOCK") _ name e
    (keeps_with a (codes "TIME_SPAN") _ name e (keeps_with s (codes "TIME") _ name e h))))

io_keep : (s : Scope) (name : List ℕ) (e : Entity) → stands s name ≡ Some e → stands (with_control_io s) name ≡ Some e
io_keep s name e h = keeps_with (with_name s (codes "PUT") Put) (codes "READ") _ name e (keeps_with s (codes "PUT") Put name e h)

second_none : (a b : Option Entity) → or_else a b ≡ None → b ≡ None
second_none None b h = h
second_none (Some x) b h = cc

-- a component that is named is found
component_among : (f : Bool) (cs : List RecordComponent) (name : List ℕ) → is_component cs name ≡ true → found_in (components_named f cs) name ≡ None → ⊥
component_among f [] name h none = cc
component_among f (c ∷ cs) name h none = by_test (bytes_eq c.name name) refl (component_among f cs name) h none
  where
    by_test : (b : Bool) → bytes_eq c.name name ≡ b → (is_component cs name ≡ true → found_in (components_named f cs) name ≡ None → ⊥)
        → (b || is_component cs name) ≡ true
        → or_else (one_named (component_named f c) name) (found_in (components_named f cs) name) ≡ None → ⊥
    by_test true is rest k l =
        let found : one_named (component_named f c) name ≡ Some (component_named f c).entity =
        ap (λ b. cond b (Some (component_named f c).entity) None) (equal_bytes name c.name (sym (same_bytes c.name name is))) in
        (let never = sym (ap (λ o. or_else o (found_in (components_named f cs) name)) found) ∙ l in cc)
    by_test false is rest k l = rest k (second_none (one_named (component_named f c) name) (found_in (components_named f cs) name) l)

-- ---- the barrier of an object's entry

module _ (laws : LawsOfNames) (t : ProgramTree) (legal : IsLegal t) (restricted : IsRestricted t) where
  abbrev program : Program
  program = program_of t

  abbrev start : Scope
  start = start_in t.package_

  abbrev all : List BodyItemTree
  all = declared_in t.package_

  abbrev w : IsPackage program start all
  w = whole laws t legal restricted

  -- names of Standard stand for the same behind the package
  in_front : (name : List ℕ) (e : Entity) → stands standard name ≡ Some e → (p : Option PackageTree) → stands (start_in p) name ≡ Some e
  in_front name e h None = h
  in_front name e h (Some p) =
      keeps_with (clauses_scope standard p.clauses) p.declaration.name.name LibraryUnit name e
      (clauses_keep (λ s. stands s name ≡ Some e) (λ s there. times_keep s name e there) (λ s there. io_keep s name e there) standard p.clauses h)

  standard_stays : (name : List ℕ) (e : Entity) → stands standard name ≡ Some e → stands program.scope name ≡ Some e
  standard_stays name e h = kept program start all w 0 name e (in_front name e h t.package_)

  -- a barrier that names no component is True or False by itself
  module _ (o : ℕ) (q : Procedure) (y : IsEntryBody laws t legal restricted o q) (name : Identifier) (bare : y.barrier ≡ Named name NoSelectors)
      (m : Store) (sound : IsSoundMemory program m) (none : object_of (m.components o) name.name ≡ None) where
    abbrev obj : ProtectedObject
    obj = object laws.scopes laws.names laws.premises t legal restricted y.place y.name y.items y.end_name y.at

    offers : (other : List ℕ) (z : ProtectedObject) → stands program.scope other ≡ Some (entity.Protected z) → OffersAll program z
    offers = assembled.offers laws.scopes t m legal restricted (names laws t legal restricted) (known laws t legal restricted) sound

    abbrev fronts : (k : ℕ) → SoundScope (scope_at start all k)
    fronts = (names laws t legal restricted).fronts

    own : (j : ℕ) (i : ProtectedItemTree) → slice_get y.items j ≡ Some i → bodies.HasOwn program start all w y.place y.name y.items y.end_name y.at i
    own = added.owned laws.scopes laws.names laws.premises t legal restricted y.place y.name y.items y.end_name y.at

    simple : (is_truth_value name.name || is_component obj.components name.name) ≡ true
    simple =
        let there : stands (scope_at start all y.place) y.name.name ≡ Some (entity.Protected obj) =
        (bodies.there program start all w y.place y.name y.items y.end_name y.at).stands_ in
        let rules_ = restricted_items laws t legal restricted (restrictions.components_named (scope_at start all y.place) y.name) y.items y.k
        (EntryBody y.d y.barrier y.b)
        (restricted_at start all w.list y.place (ProtectedBody y.name y.items y.end_name) y.at) y.there in
        let barrier : barrier_rule obj.components (Named name NoSelectors) ≡ [] =
        subst (λ cs. barrier_rule cs (Named name NoSelectors) ≡ []) (ap restrictions.components_in there)
        (subst (λ e. barrier_rule (restrictions.components_named (scope_at start all y.place) y.name) e ≡ []) bare
        (front_empty (barrier_rule (restrictions.components_named (scope_at start all y.place) y.name) y.barrier) _ rules_)) in
        not_false (is_simple_name obj.components (Some name)) (unbroken _ name.place _ barrier)

    no_component : is_component obj.components name.name ≡ true → ⊥
    no_component h = by_found (found_in (components_named false obj.components) name.name) refl
      where
        by_found : (e : Option Entity) → found_in (components_named false obj.components) name.name ≡ e → ⊥
        by_found None is = component_among false obj.components name.name h is
        by_found (Some e) is =
            let x = fits.component_there program start all w
            (known laws t legal restricted) laws.scopes m sound offers fronts y.place y.name y.items y.end_name
            y.at own false name.name e is in
            let bad = sym x.1 ∙ ap (λ n. object_of (m.components n) name.name) y.number ∙ none in cc

    by_itself : (b : Bool) × (stands program.scope name.name ≡ Some (entity.Literal b))
    by_itself = by_test (is_truth_value name.name) refl simple
      where
        by_test : (c : Bool) → is_truth_value name.name ≡ c → (c || is_component obj.components name.name) ≡ true
            → (b : Bool) × (stands program.scope name.name ≡ Some (entity.Literal b))
        by_test true is h = true_or_false program.scope name.name is (λ b there. standard_stays (truth_name b) (entity.Literal b) there)
        by_test false is h = absurd (no_component h)

  -- ---- the whole

  pub barrier_truth : (m : Store) → IsSoundMemory program m → (o : ℕ) (e : ExprTree) → barrier_of program.procedures o ≡ Some e
      → (b : Bool) × (val (barrier_place program m o) e ≡ Gives (Truth b))
  barrier_truth m sound o e h = by_entry (entry_of program.procedures o) refl (sym (barrier_found program.procedures o) ∙ h)
    where
      by_object : (q : Procedure) (y : IsEntryBody laws t legal restricted o q) (name : Identifier) → y.barrier ≡ Named name NoSelectors → (x : Option Object)
          → object_of (m.components o) name.name ≡ x → (b : Bool) × (val (barrier_place program m o) (Named name NoSelectors) ≡ Gives (Truth b))
      by_object q y name bare (Some x) found =
          let b = truth laws t legal restricted o q y name bare m sound x found in (b.0, component_worth program m o name x found ∙ ap Gives b.1)
      by_object q y name bare None none =
          let b = by_itself o q y name bare m sound none in (b.0, literal_worth program m o name b.0 none b.1)

      by_entry : (q : Option Procedure) → entry_of program.procedures o ≡ q → elim q [ Some z ↦ z.barrier | None ↦ None ] ≡ Some e
          → (b : Bool) × (val (barrier_place program m o) e ≡ Gives (Truth b))
      by_entry None found k = cc
      by_entry (Some q) found k =
          let y = entry_body laws t legal restricted o q found in
          let bare = bare_there laws t legal restricted o q y found in
          let is : e ≡ Named bare.0 NoSelectors = sym (same_some y.barrier e (ap (λ z. z.barrier) (sym y.is) ∙ k)) ∙ bare.1 in
          subst (λ z. (b : Bool) × (val (barrier_place program m o) z ≡ Gives (Truth b))) (sym is)
          (by_object q y bare.0 bare.1 (object_of (m.components o) bare.0.name) refl)
