-- The operations that stand behind the name of a protected object are found through it (RM 9.4, 9.5).
use Rattle.std.proofs.Common.{◌≡◌, ℕ, zero, suc, ◌+◌, List, [], ◌∷◌, drop, not, Bool, true, false, cond, ◌&&◌, Option, Some, None, refl, sym, ap, ◌∙◌, subst}
use Rattle.std.specs.Prelude.{bytes_eq, option_map, position, slice_get}
use Rattle.std.specs.List.{list_any}
use Rattle.expr_soundness.specs.ada_tree.specs.declared.expression.Identifier.{Identifier}
use Rattle.expr_soundness.specs.ada_tree.specs.StatementTree.{OperationTree}
use Rattle.expr_soundness.specs.ada_tree.specs.StatementTree as operation
use Rattle.expr_soundness.specs.ada_tree.specs.ProgramTree.{BodyItemTree, OfItem, SubprogramBody, TaskBody, ProtectedBody, OfProtected, ProtectedItemTree, OperationBody, EntryBody}
use Rattle.types.specs.declared.entity.Subtype.{Subtype}
use Rattle.types.specs.Entities.{Entity, Operation, Profile, ProtectedObject, Protected, Subprogram}
use Rattle.types.specs.Entities as entity
use Rattle.types.specs.Scopes.{Scope}
use Rattle.types.specs.Places.{Place, function_of, or_else}
use Rattle.types.proofs.Seeing.{either_way}
use Rattle.expr_soundness.specs.expr_rules.proofs.TypedLaw.{back_empty, front_empty, unbroken}
use Rattle.expr_soundness.specs.type_rules.specs.ProfileRules.{formal_parameters}
use Rattle.declaration_rules.specs.BodyNames.{operation_entity}
use Rattle.declaration_rules.specs.ProtectedRules as declared
use Rattle.conformance.specs.MatchingRules.{has_operation, missing_operation_rule, missing_operations_faults, same_name}
use Rattle.conformance.specs.MatchingRules as matching
use Rattle.expr_soundness.specs.Agreeing.{OffersFunction}
use Rattle.expr_soundness.proofs.Positions.{first_place, found_at, place_is, suc_of}
use Rattle.expr_soundness.specs.meaning.specs.Programs.{Program}
use Rattle.expr_soundness.specs.meaning.specs.Calls.{procedure_among}
use Rattle.step_soundness.specs.Fitting.{IsCalled, IsOperation}
use Rattle.program_soundness.specs.Fronts.{scope_at}
use Rattle.program_soundness.proofs.Listing.{dropped_at, one_passes, passes_at, same_some}
use Rattle.program_soundness.proofs.WiderScopes.{equal_bytes, found_in, same_bytes, stands}
use Rattle.program_soundness.proofs.BodyProfiles.{profile_none}
use Rattle.program_soundness.proofs.Walked.{kept_all}
use Rattle.program_soundness.proofs.OneList.{is_object_body, matched_at}
use Rattle.program_soundness.proofs.Whole.{IsPackage, kept}
use Rattle.program_soundness.proofs.Agreed.{OffersAll}
use Rattle.program_soundness.proofs.ObjectTrees.{IsDeclared, operation_declared, operations_named}
use Rattle.program_soundness.proofs.Moved.{hidden_none}
use Rattle.program_soundness.proofs.ObjectBodies.{object_at, unit_name}
use Rattle.program_soundness.proofs.ObjectBodies as bodies
use Rattle.program_soundness.proofs.ObjectCalls.{entry_inside, function_inside, procedure_inside, same_place}

both_true : (a b : Bool) → (a && b) ≡ true → (a ≡ true) × (b ≡ true)
both_true true b h = (refl, h)
both_true false b h = cc

not_true : (b : Bool) → not b ≡ false → b ≡ true
not_true true h = refl
not_true false h = cc

-- the first operation of a name stands for it
first_operation : (os : List Operation) (name : List ℕ) (k : ℕ) (x : Operation) → first_place (λ y. bytes_eq y.name name) os ≡ Some k → slice_get os k ≡ Some x
    → found_in (operations_named os) name ≡ Some (operation_entity x)
first_operation [] name k x h at = cc
first_operation (o ∷ os) name k x h at = by_test (bytes_eq o.name name) refl h (λ m i j. first_operation os name m x i j)
  where
    here : (b : Bool) → bytes_eq o.name name ≡ b → cond (bytes_eq name o.name) (Some (operation_entity o)) None ≡ cond b (Some (operation_entity o)) None
    here b i = ap (λ c. cond c (Some (operation_entity o)) None) (either_way name o.name ∙ i)

    by_test : (b : Bool) → bytes_eq o.name name ≡ b → cond b (Some 0) (option_map suc (first_place (λ y. bytes_eq y.name name) os)) ≡ Some k
        → ((m : ℕ) → first_place (λ y. bytes_eq y.name name) os ≡ Some m → slice_get os m ≡ Some x → found_in (operations_named os) name ≡ Some (operation_entity x))
        → or_else (cond (bytes_eq name o.name) (Some (operation_entity o)) None) (found_in (operations_named os) name) ≡ Some (operation_entity x)
    by_test true i j later =
        let place = same_some 0 k j in
        let is = same_some o x (ap (slice_get (o ∷ os)) place ∙ at) in
        ap (λ z. or_else z (found_in (operations_named os) name)) (here true i) ∙ ap (λ y. Some (operation_entity y)) is
    by_test false i j later =
        let m = suc_of (first_place (λ y. bytes_eq y.name name) os) k j in
        ap (λ z. or_else z (found_in (operations_named os) name)) (here false i) ∙ later m.0 m.1 (ap (slice_get (o ∷ os)) (sym m.2) ∙ at)

object_passes : (name : Identifier) (i : BodyItemTree) → is_object_body name i ≡ true
    → (own : Identifier) × (items : List ProtectedItemTree) × (end_name : Identifier) × (i ≡ ProtectedBody own items end_name) × (own.name ≡ name.name)
object_passes name (ProtectedBody own items end_name) h = (own, items, end_name, refl, sym (same_bytes name.name own.name h))
object_passes name (OfItem d) h = cc
object_passes name (SubprogramBody d b) h = cc
object_passes name (TaskBody own b) h = cc

operation_passes : (object name : Identifier) (i : BodyItemTree) → has_operation object name i ≡ true
    → (own : Identifier) × (items : List ProtectedItemTree) × (end_name : Identifier) × (i ≡ ProtectedBody own items end_name) × (own.name ≡ object.name)
    × (list_any (matching.is_operation_body name) items ≡ true)
operation_passes object name (ProtectedBody own items end_name) h =
    let two = both_true (same_name object own) (list_any (matching.is_operation_body name) items) h in
    (own, items, end_name, refl, sym (same_bytes object.name own.name two.0), two.1)
operation_passes object name (OfItem d) h = cc
operation_passes object name (SubprogramBody d b) h = cc
operation_passes object name (TaskBody own b) h = cc

body_passes : (name : Identifier) (i : ProtectedItemTree) → matching.is_operation_body name i ≡ true → unit_name i ≡ name.name
body_passes name (OperationBody d b) h = sym (same_bytes name.name d.name.name h)
body_passes name (EntryBody d c b) h = sym (same_bytes name.name d.name.name h)

missing_at : (behind : List BodyItemTree) (object : Identifier) (os : List OperationTree) (k : ℕ) (t : OperationTree)
    → missing_operations_faults behind object os ≡ [] → slice_get os k ≡ Some t
    → missing_operation_rule behind object t ≡ []
missing_at behind object [] k t h at = cc
missing_at behind object (x ∷ xs) zero t h at =
    subst (λ y. missing_operation_rule behind object y ≡ []) (same_some x t at)
    (front_empty (missing_operation_rule behind object x) (missing_operations_faults behind object xs) h)
missing_at behind object (x ∷ xs) (suc k) t h at =
    missing_at behind object xs k t (back_empty (missing_operation_rule behind object x) (missing_operations_faults behind object xs) h) at

operation_behind : (behind : List BodyItemTree) (object : Identifier) (t : OperationTree) → missing_operation_rule behind object t ≡ []
    → list_any (has_operation object (declared.operation_name t)) behind ≡ true
operation_behind behind object (operation.OfSubprogram d a) h = not_true (list_any (has_operation object d.name) behind) (unbroken _ d.name.place _ h)
operation_behind behind object (operation.OfEntry d) h = not_true (list_any (has_operation object d.name) behind) (unbroken _ d.name.place _ h)

entry_no_result : (s : Scope) (t : OperationTree) (p : Profile) → declared.is_entry t ≡ true → declared.operation_profile s t ≡ Some p → p.result ≡ None
entry_no_result s (operation.OfEntry d) p h own = profile_none s (formal_parameters s d.formals) p own
entry_no_result s (operation.OfSubprogram d a) p h own = cc

module _ (program : Program) (s : Scope) (all : List BodyItemTree) (w : IsPackage program s all) where
  module _ (k : ℕ) (nm : Identifier) (items : List ProtectedItemTree) (end_name : Identifier) (at : slice_get all k ≡ Some (ProtectedBody nm items end_name))
      (own : (j : ℕ) (i : ProtectedItemTree) → slice_get items j ≡ Some i → bodies.HasOwn program s all w k nm items end_name at i) where
    abbrev obj : ProtectedObject
    obj = (bodies.there program s all w k nm items end_name at).object

    abbrev ended : Scope
    ended = bodies.ended program s all w k nm items end_name at

    abbrev declaration : bodies.IsObjectAt program s all w nm.name obj
    declaration = bodies.declared_at program s all w k nm items end_name at

    module _ (name : List ℕ) (n : ℕ) (x : Operation) (there : slice_get obj.operations n ≡ Some x) (named : x.name ≡ name) where
      tree : IsDeclared (scope_at s all declaration.place) declaration.tree.operations n x
      tree =
          operation_declared (scope_at s all declaration.place) declaration.tree.operations obj.operations n x
          (bodies.operations_of program s all w nm.name obj declaration) there

      among : declared.is_operation_in declaration.tree.operations name ≡ true
      among =
          passes_at (λ y. bytes_eq (declared.operation_name y).name name) declaration.tree.operations n tree.tree tree.at
          (equal_bytes (declared.operation_name tree.tree).name name (sym tree.named ∙ named))

      missing : missing_operations_faults (drop (suc declaration.place) all) declaration.tree.name declaration.tree.operations ≡ []
      missing = back_empty _ (missing_operations_faults (drop (suc declaration.place) all) declaration.tree.name declaration.tree.operations)
          (matched_at s all w.list declaration.place (OfItem (OfProtected declaration.tree)) declaration.at)

      pub item_of : (j : ℕ) × (i : ProtectedItemTree) × (slice_get items j ≡ Some i) × (unit_name i ≡ name)
      item_of =
          let behind = drop (suc declaration.place) all in
          let any =
          operation_behind behind declaration.tree.name tree.tree
          (missing_at behind declaration.tree.name declaration.tree.operations n tree.tree missing tree.at) in
          let one = one_passes (has_operation declaration.tree.name (declared.operation_name tree.tree)) behind any in
          let body = operation_passes declaration.tree.name (declared.operation_name tree.tree) one.1 one.3 in
          let there_ : slice_get all (suc declaration.place + one.0) ≡ Some (ProtectedBody body.0 body.1 body.2) =
          sym (dropped_at all (suc declaration.place) one.0) ∙ one.2 ∙ ap Some body.3 in
          let same =
          same_place program s all w k nm items end_name at (suc declaration.place + one.0) body.0 body.1 body.2 there_ (body.4 ∙ declaration.named) in
          let item = one_passes (matching.is_operation_body (declared.operation_name tree.tree)) body.1 body.5 in (
            item.0,
            item.1,
            ap (λ l. slice_get l item.0) same ∙ item.2,
            body_passes (declared.operation_name tree.tree) item.1 item.3 ∙ sym tree.named ∙ named,
          )

    module _ (name : List ℕ) (n : ℕ) (x : Operation) (pos : position (λ y. bytes_eq y.name name) obj.operations ≡ Some n)
        (there : slice_get obj.operations n ≡ Some x) where
      first : first_place (λ y. bytes_eq y.name name) obj.operations ≡ Some n
      first = sym (place_is (λ y. bytes_eq y.name name) obj.operations) ∙ pos

      own_name : x.name ≡ name
      own_name =
          let f = found_at (λ y. bytes_eq y.name name) obj.operations n first in
          same_bytes x.name name (ap (λ y. bytes_eq y.name name) (same_some x f.0 (sym there ∙ f.1)) ∙ f.2)

      own_tree : IsDeclared (scope_at s all declaration.place) declaration.tree.operations n x
      own_tree = tree name n x there own_name

      pub stands_for_it : stands ended name ≡ Some (operation_entity x)
      stands_for_it =
          let none = bodies.operation_none program s all w k nm items end_name at name (among name n x there own_name) in
          let hidden = hidden_none (scope_at s all k) (bodies.named_n program s all w k nm items end_name at).0 name none in
          kept_all (bodies.begun program s all w k nm items end_name at) (bodies.inner program s all w k nm items end_name at) name (operation_entity x)
          (bodies.stands_begun program s all w k nm items end_name at name
          ∙ ap (λ z. or_else z (found_in (operations_named obj.operations) name)) hidden
          ∙ first_operation obj.operations name n x first there)

      has_item : (j : ℕ) × (i : ProtectedItemTree) × (slice_get items j ≡ Some i) × (unit_name i ≡ name)
      has_item = item_of name n x there own_name

      offers_function : (place : Place) → place.functions ≡ program.functions → OffersFunction place obj.number name x.profile x.profile.result
      offers_function place same = by_result x.profile.result refl x.is_entry refl
        where
          by_result : (r : Option Subtype) → x.profile.result ≡ r → (b : Bool) → x.is_entry ≡ b → OffersFunction place obj.number name x.profile r
          by_result None i b e = tt
          by_result (Some t) i true e = let bad = sym (entry_no_result _ own_tree.tree x.profile (sym own_tree.kind ∙ e) own_tree.profile) ∙ i in cc
          by_result (Some t) i false e =
              let is : stands ended name ≡ Some (Subprogram x.profile) =
              stands_for_it ∙ ap (λ b. Some (elim b [ true ↦ entity.Entry x.profile | false ↦ Subprogram x.profile ])) e in
              let f = function_inside program s all w k nm items end_name at own name x.profile t is i has_item in
              (f.function, ap (λ l. function_of l (Some obj.number) name) same ∙ f.found, f.has)

      is_operation : IsOperation program (procedure_among program.procedures (Some obj.number) name) x.is_entry x.profile
      is_operation = by_kind x.is_entry refl
        where
          by_result : x.is_entry ≡ false → (r : Option Subtype) → x.profile.result ≡ r
              → IsCalled (procedure_among program.procedures (Some obj.number) name) x.profile r
          by_result e (Some t) i = tt
          by_result e None i =
              let is : stands ended name ≡ Some (Subprogram x.profile) =
              stands_for_it ∙ ap (λ b. Some (elim b [ true ↦ entity.Entry x.profile | false ↦ Subprogram x.profile ])) e in
              procedure_inside program s all w k nm items end_name at own name x.profile is i has_item

          by_kind : (b : Bool) → x.is_entry ≡ b → IsOperation program (procedure_among program.procedures (Some obj.number) name) b x.profile
          by_kind true e =
              let is : stands ended name ≡ Some (entity.Entry x.profile) =
              stands_for_it ∙ ap (λ b. Some (elim b [ true ↦ entity.Entry x.profile | false ↦ Subprogram x.profile ])) e in
              entry_inside program s all w k nm items end_name at own name x.profile is has_item
          by_kind false e = by_result e x.profile.result refl

    pub offers_at : OffersAll program obj
    offers_at =
        record {
          functions = λ place same name n x pos there. offers_function name n x pos there place same;
          operations = λ name n x pos there. is_operation name n x pos there;
        }

  -- ---- all of them

  module _ (own : (k : ℕ) (nm : Identifier) (items : List ProtectedItemTree) (end_name : Identifier) (at : slice_get all k ≡ Some (ProtectedBody nm items end_name))
      (j : ℕ) (i : ProtectedItemTree) → slice_get items j ≡ Some i → bodies.HasOwn program s all w k nm items end_name at i) where
    pub all_offer : (name : List ℕ) (o : ProtectedObject) → stands program.scope name ≡ Some (Protected o) → OffersAll program o
    all_offer name o h =
        let x = object_at program s all w name o h in
        let behind = drop (suc x.place) all in
        let rules_ = matched_at s all w.list x.place (OfItem (OfProtected x.tree)) x.at in
        let any = not_true (list_any (is_object_body x.tree.name) behind)
        (unbroken _ x.tree.name.place _ (front_empty _ (missing_operations_faults behind x.tree.name x.tree.operations) rules_)) in
        let one = one_passes (is_object_body x.tree.name) behind any in
        let body = object_passes x.tree.name one.1 one.3 in
        let there : slice_get all (suc x.place + one.0) ≡ Some (ProtectedBody body.0 body.1 body.2) =
        sym (dropped_at all (suc x.place) one.0) ∙ one.2 ∙ ap Some body.3 in
        let found = bodies.there program s all w (suc x.place + one.0) body.0 body.1 body.2 there in
        let seen = kept program s all w (suc x.place + one.0) body.0.name (Protected found.object) found.stands_ in
        let same = sym seen ∙ ap (stands program.scope) (body.4 ∙ x.named) ∙ h in
        let object_in : Option Entity → ProtectedObject = λ e. elim e [ Some y ↦ elim y [ Protected z ↦ z | u ↦ o ] | None ↦ o ] in
        subst (OffersAll program) (ap object_in same)
        (offers_at (suc x.place + one.0) body.0 body.1 body.2 there (own (suc x.place + one.0) body.0 body.1 body.2 there))
