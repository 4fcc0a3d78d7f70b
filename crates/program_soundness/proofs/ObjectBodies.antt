-- The body of a protected object: each operation's body has the profile that its name stands for there, and its name is neither that of a component nor visible in front.
use Rattle.std.proofs.Common.{◌≡◌, ◌<◌, ℕ, zero, suc, ◌+◌, List, [], ◌∷◌, ◌++◌, take, drop, map, Bool, true, false, cond, ◌&&◌, ◌⊎◌, inl, inr, Option, Some, None, refl, sym, ap, ◌∙◌, subst, arith}
use Rattle.std.specs.Prelude.{bytes_eq, is_some, option_map, slice_get, ⊤}
use Rattle.std.specs.List.{list_any}
use Rattle.std.proofs.lemmas.List.{append_assoc, append-nil}
use Rattle.expr_soundness.specs.ada_tree.specs.declared.expression.Identifier.{Identifier}
use Rattle.expr_soundness.specs.ada_tree.specs.declared.declaration.Formal.{Formal}
use Rattle.expr_soundness.specs.ada_tree.specs.ExpressionTree.{ExprTree}
use Rattle.expr_soundness.specs.ada_tree.specs.StatementTree.{EntryTree, OperationTree, ProtectedTree, SubprogramTree}
use Rattle.expr_soundness.specs.ada_tree.specs.StatementTree as operation
use Rattle.expr_soundness.specs.ada_tree.specs.ProgramTree.{BodyTree, BodyItemTree, OfItem, SubprogramBody, TaskBody, ProtectedBody, OfProtected, ProtectedItemTree, OperationBody, EntryBody}
use Rattle.types.specs.declared.entity.RecordComponent.{RecordComponent}
use Rattle.types.specs.declared.entity.Subtype.{Subtype}
use Rattle.types.specs.Entities.{Entity, Operation, Profile, ProtectedObject, Protected, Subprogram, Doubtful}
use Rattle.types.specs.Entities as entity
use Rattle.types.specs.Scopes.{Named, Scope, entity_at, is_visible, number_of, operations_or, protected_count, protected_of, with_name, with_operations}
use Rattle.types.specs.Places.{or_else}
use Rattle.expr_soundness.specs.expr_rules.specs.Faults.{Faults, rule}
use Rattle.expr_soundness.specs.expr_rules.proofs.TypedLaw.{back_empty, front_empty, judged, unbroken}
use Rattle.expr_soundness.specs.type_rules.specs.SubtypeNames.{end_rule, named_entity, subtype_in, subtype_of}
use Rattle.expr_soundness.specs.type_rules.specs.ProfileRules.{formal_parameters, profile_entity, profile_with, subprogram_scope}
use Rattle.declaration_rules.specs.BodyNames.{components_scope, object_body_scope, component_role, operation_entity, operations_scope}
use Rattle.declaration_rules.specs.ProtectedRules.{is_operation_in, object_components, object_operations, operation_name, operation_profile, protected_entity, protected_faults}
use Rattle.declaration_rules.specs.ProtectedRules as declared
use Rattle.conformance.specs.MatchingRules.{any_declared, has_unlike_operation, is_second_operation, is_unlike_operation, operation_bodies_faults, operation_body_rule, passes_declared, same_formals, same_name, same_result, conforms}
use Rattle.conformance.specs.MatchingRules as matching
use Rattle.expr_soundness.specs.base.specs.declared.faults.TheConstants.{UNMATCHED_BODY}
use Rattle.unit_rules.specs.MainRules.{item_name}
use Rattle.declaration_rules.specs.PackageNames.{body_items_scope}
use Rattle.unit_rules.specs.BodyRules.{body_name_faults, body_name_rule, function_body_faults, head_faults, is_subprogram, subprogram_body_faults}
use Rattle.unit_rules.specs.ProtectedBodyRules.{components_at, entry_rule, is_entry, known_body_faults, object_items_faults, object_rule, outer_names_faults, protected_item_faults, protected_items_faults}
use Rattle.legality.specs.LikeNames.{is_its_body, item_like_faults}
use Rattle.expr_soundness.specs.SoundScopes.{SoundScope}
use Rattle.expr_soundness.specs.meaning.specs.Programs.{Program}
use Rattle.program_soundness.specs.Fronts.{scope_at}
use Rattle.program_soundness.proofs.Listing.{dropped_at, none_passes, not_both, one_passes, or_else_some, passes_at, same_some, taken_at, taken_further, within_taken}
use Rattle.program_soundness.proofs.WiderScopes.{bytes_same, equal_bytes, found_in, number_stands, same_bytes, some_seen, stands, stands_with_all, unseen_none, with_all}
use Rattle.program_soundness.proofs.BodyProfiles.{profile_kept, profile_same}
use Rattle.program_soundness.proofs.Walked.{Entries, IsOne, Origin, Others, Subprograms, body_item_kind, declared_one, declares, item_entity, item_new, kept_all, kept_at, kind, legal_at, one_of, origin, own_profile, scope_both, scope_next, stands_next}
use Rattle.program_soundness.proofs.OneList.{is_object_body, like_at, matched_at}
use Rattle.program_soundness.proofs.Callables.{at_map, map_at}
use Rattle.program_soundness.proofs.Whole.{IsPackage, came, is_first, kept, known_kind, origin_kind, profile_known, subprogram_is}
use Rattle.program_soundness.proofs.Called.{HasObject, object_there}
use Rattle.program_soundness.proofs.Agreed.{no_entry}
use Rattle.program_soundness.proofs.ObjectTrees.{IsDeclared, between_at, component_object, components_all, components_named, found_operation, no_part, operation_declared, operation_legal, operations_all, operations_named, part_legal_from, parts_legal}
use Rattle.program_soundness.proofs.Moved.{IsHidden, KeepsTypes, as_item, counted_with, grows_at, hidden_stands, item_legal_at, object_parts, offering_kind, offering_subtype, profile_moved}
use Rattle.program_soundness.proofs.ObjectItems.{both_true, either_false, further_by, not_true, order, outer_at, protected_item}

-- ---- operations in bodies

abbrev pub unit_name : ProtectedItemTree → List ℕ
unit_name i = (matching.operation_name i).name

abbrev pub unit_formals : ProtectedItemTree → List Formal
unit_formals (OperationBody e b) = e.formals
unit_formals (EntryBody e barrier b) = e.formals

abbrev pub unit_result : ProtectedItemTree → Option Identifier
unit_result (OperationBody e b) = e.result
unit_result (EntryBody e barrier b) = None

abbrev pub unit_entity : ProtectedItemTree → Profile → Entity
unit_entity (OperationBody e b) p = Subprogram p
unit_entity (EntryBody e barrier b) p = entity.Entry p

module _ (program : Program) (s : Scope) (all : List BodyItemTree) (w : IsPackage program s all) where
  -- ---- the declaration of an object

  pub record IsObjectAt (name : List ℕ) (o : ProtectedObject) : Type 0 where
    pub place : ℕ
    pub tree : ProtectedTree
    pub at : slice_get all place ≡ Some (OfItem (OfProtected tree))
    pub named : tree.name.name ≡ name
    pub is : protected_entity (scope_at s all place) tree ≡ Protected o

  pub object_at : (name : List ℕ) (o : ProtectedObject) → stands program.scope name ≡ Some (Protected o) → IsObjectAt name o
  object_at name o h = by_case (came program s all w name (Protected o) h)
    where
      by_item : (x : Origin s all name (Protected o)) → (d : ProtectedTree) × (x.item ≡ OfItem (OfProtected d)) → IsObjectAt name o
      by_item x i =
          let here : Scope = scope_at s all x.place in
          let pair =
          same_some (record { name = i.0.name.name; entity = protected_entity here i.0 }) (record { name = name; entity = Protected o })
          (ap (declares here) (sym i.1) ∙ x.declared) in
          record { place = x.place; tree = i.0; at = x.at ∙ ap Some i.1; named = ap (λ y. y.name) pair; is = ap (λ y. y.entity) pair }

      by_case : (stands s name ≡ Some (Protected o)) ⊎ Origin s all name (Protected o) → IsObjectAt name o
      by_case (inl k) = let first = (w.started name (Protected o) k).first in cc
      by_case (inr x) = by_item x (protected_item x.item (origin_kind program s all w name (Protected o) x (λ d. cc)))

  module _ (name : List ℕ) (o : ProtectedObject) (x : IsObjectAt name o) where
    pub object_legal : protected_faults (scope_at s all x.place) x.tree ≡ []
    object_legal = legal_at s all x.place (OfItem (OfProtected x.tree)) x.at w.list.legal

    parts : (object_operations (scope_at s all x.place) x.tree.operations ≡ Some o.operations)
        × (object_components (scope_at s all x.place) x.tree.components ≡ Some o.components)
        × (protected_count (scope_at s all x.place) ≡ o.number)
    parts =
        object_parts _ _ (object_operations (scope_at s all x.place) x.tree.operations) (object_components (scope_at s all x.place) x.tree.components) o x.is

    pub operations_of : object_operations (scope_at s all x.place) x.tree.operations ≡ Some o.operations
    operations_of = parts.0

    pub components_of : object_components (scope_at s all x.place) x.tree.components ≡ Some o.components
    components_of = parts.1

    pub number_of_object : protected_count (scope_at s all x.place) ≡ o.number
    number_of_object = parts.2

    pub counted_behind : protected_count (scope_at s all (suc x.place)) ≡ suc o.number
    counted_behind =
        let unseen = item_new (scope_at s all x.place) (OfProtected x.tree) object_legal in
        let e = scope_next s all x.place (OfItem (OfProtected x.tree)) x.at in
        ap protected_count e
        ∙ ap (λ y. protected_count (with_name (scope_at s all x.place) x.tree.name.name y)) x.is
        ∙ counted_with (scope_at s all x.place) x.tree.name.name o unseen
        ∙ ap suc number_of_object

  -- objects with one number are the same
  behind_number : (name other : List ℕ) (o q : ProtectedObject) (x : IsObjectAt name o) (y : IsObjectAt other q) → x.place < y.place → o.number ≡ q.number → ⊥
  behind_number name other o q x y l same =
      let m = further_by x.place y.place l in
      let grown = grows_at s all (suc x.place) m.0 in
      let a = counted_behind name o x in
      let b = number_of_object other q y in
      let c = ap (λ k. protected_count (scope_at s all k)) m.1 in omega (arith, grown, a, b, c, same)

  pub same_tree : (name other : List ℕ) (o q : ProtectedObject) (x : IsObjectAt name o) (y : IsObjectAt other q) → o.number ≡ q.number
      → (name ≡ other) × (x.place ≡ y.place)
  same_tree name other o q x y same = by_order (order x.place y.place)
    where
      tree_of : BodyItemTree → ProtectedTree
      tree_of (OfItem (OfProtected d)) = d
      tree_of i = x.tree

      by_order : (x.place < y.place) ⊎ ((x.place ≡ y.place) ⊎ (y.place < x.place)) → (name ≡ other) × (x.place ≡ y.place)
      by_order (inl l) = absurd (behind_number name other o q x y l same)
      by_order (inr (inr l)) = absurd (behind_number other name q o y x l (sym same))
      by_order (inr (inl e)) =
          let items = same_some (OfItem (OfProtected x.tree)) (OfItem (OfProtected y.tree)) (sym x.at ∙ ap (slice_get all) e ∙ y.at) in
          let trees : x.tree ≡ y.tree = ap (λ i. elim i [ OfItem d ↦ elim d [ OfProtected z ↦ z | u ↦ x.tree ] | v ↦ x.tree ]) items in
          (sym x.named ∙ ap (λ d. d.name.name) trees ∙ y.named, e)

  -- ---- the body of an object

  module _ (k : ℕ) (nm : Identifier) (items : List ProtectedItemTree) (end_name : Identifier)
      (at : slice_get all k ≡ Some (ProtectedBody nm items end_name)) where
    abbrev here : Scope
    here = scope_at s all k

    pub there : HasObject program s all w k nm
    there = object_there program s all w k nm items end_name at

    abbrev o : ProtectedObject
    o = there.object

    pub declared_at : IsObjectAt nm.name o
    declared_at = object_at nm.name o (kept program s all w k nm.name (Protected o) there.stands_)

    pub named_n : (n : ℕ) × (number_of here nm.name ≡ Some n) × (entity_at here n ≡ Some (Protected o))
    named_n = number_stands here nm.name (Protected o) there.stands_

    abbrev pub hidden : Scope
    hidden = with_operations here named_n.0 []

    abbrev pub begun : Scope
    begun = object_body_scope here named_n.0

    pub begun_is : begun ≡ with_all hidden (operations_named o.operations)
    begun_is = ap (λ e. operations_scope hidden (operations_or (protected_of e) [])) named_n.2 ∙ operations_all hidden o.operations

    pub stands_begun : (name : List ℕ) → stands begun name ≡ or_else (stands hidden name) (found_in (operations_named o.operations) name)
    stands_begun name = ap (λ u. stands u name) begun_is ∙ stands_with_all hidden (operations_named o.operations) name

    abbrev pub inner : List BodyItemTree
    inner = map as_item items

    abbrev pub ended : Scope
    ended = body_items_scope begun inner

    abbrev pub at_ : ℕ → Scope
    at_ j = scope_at begun inner j

    both_legal : outer_names_faults here items ++ protected_items_faults begun o.components items ≡ []
    both_legal =
        let legal = legal_at s all k (ProtectedBody nm items end_name) at w.list.legal in
        let known = back_empty (object_rule here nm) (known_body_faults here (number_of here nm.name) items) (front_empty _ (end_rule nm end_name) legal) in
        let inside : object_items_faults here named_n.0 (components_at here named_n.0) items ≡ [] =
        subst (λ x. known_body_faults here x items ≡ []) named_n.1 known in
        subst (λ x. object_items_faults here named_n.0 x items ≡ []) (ap (λ e. option_map (λ p. p.components) (protected_of e)) named_n.2) inside

    items_legal : protected_items_faults begun o.components items ≡ []
    items_legal = back_empty (outer_names_faults here items) (protected_items_faults begun o.components items) both_legal

    -- no body of an operation is named like what is visible in front of the object's body
    pub outer_new : (j : ℕ) (e : SubprogramTree) (b : BodyTree) → slice_get items j ≡ Some (OperationBody e b) → stands here e.name.name ≡ None
    outer_new j e b h = outer_at here items j e b (front_empty (outer_names_faults here items) (protected_items_faults begun o.components items) both_legal) h

    pub item_legal : (j : ℕ) (i : ProtectedItemTree) → slice_get items j ≡ Some i → protected_item_faults (at_ j) o.components i ≡ []
    item_legal j i there_ = item_legal_at begun o.components items j i there_ items_legal

    -- ---- what the body is matched with

    both_matched : (rule UNMATCHED_BODY nm.place (list_any (is_object_body nm) (take k all))) ++ operation_bodies_faults [] (take k all) nm [] items ≡ []
    both_matched = matched_at s all w.list k (ProtectedBody nm items end_name) at

    pub only_body : list_any (is_object_body nm) (take k all) ≡ false
    only_body = unbroken _ nm.place _ (front_empty _ (operation_bodies_faults [] (take k all) nm [] items) both_matched)

    item_matched_from : (earlier rest : List ProtectedItemTree) (j : ℕ) (i : ProtectedItemTree) → operation_bodies_faults [] (take k all) nm earlier rest ≡ []
        → slice_get rest j ≡ Some i
        → operation_body_rule [] (take k all) nm (earlier ++ take j rest) i ≡ []
    item_matched_from earlier [] j i h there_ = cc
    item_matched_from earlier (x ∷ xs) zero i h there_ =
        let one = front_empty (operation_body_rule [] (take k all) nm earlier x) (operation_bodies_faults [] (take k all) nm (earlier ++ x ∷ []) xs) h in
        subst (λ l. operation_body_rule [] (take k all) nm l i ≡ []) (sym (append-nil earlier))
        (subst (λ y. operation_body_rule [] (take k all) nm earlier y ≡ []) (same_some x i there_) one)
    item_matched_from earlier (x ∷ xs) (suc j) i h there_ =
        let rest = back_empty (operation_body_rule [] (take k all) nm earlier x) (operation_bodies_faults [] (take k all) nm (earlier ++ x ∷ []) xs) h in
        subst (λ l. operation_body_rule [] (take k all) nm l i ≡ []) (append_assoc earlier (x ∷ []) (take j xs))
        (item_matched_from (earlier ++ x ∷ []) xs j i rest there_)

    pub item_matched : (j : ℕ) (i : ProtectedItemTree) → slice_get items j ≡ Some i
        → (is_second_operation (take j items) i ≡ false) × (any_declared (has_unlike_operation nm i) [] (take k all) ≡ false)
    item_matched j i there_ =
        either_false (is_second_operation (take j items) i) (any_declared (has_unlike_operation nm i) [] (take k all))
        (unbroken _ (matching.operation_name i).place _ (item_matched_from [] items j i (back_empty _ (operation_bodies_faults [] (take k all) nm [] items) both_matched) there_))

    -- ---- the declaration stands in front

    abbrev pub d : ProtectedTree
    d = declared_at.tree

    abbrev k0 : ℕ
    k0 = declared_at.place

    keeps_places : (a b : ℕ) (m : ℕ) → a + m ≡ b → (name : List ℕ) (e : Entity) → stands (scope_at s all a) name ≡ Some e
        → stands (scope_at s all b) name ≡ Some e
    keeps_places a b m is name e h =
        let further = ap (body_items_scope s) (ap (λ x. take x all) (sym is) ∙ taken_further all a m) ∙ scope_both s (take a all) (take m (drop a all)) in
        subst (λ u. stands u name ≡ Some e) (sym further) (kept_all (scope_at s all a) (take m (drop a all)) name e h)

    place_before : k0 < k
    place_before = by_order (order k0 k)
      where
        by_order : (k0 < k) ⊎ ((k0 ≡ k) ⊎ (k < k0)) → k0 < k
        by_order (inl l) = l
        by_order (inr (inl e)) =
            let bad = same_some (OfItem (OfProtected d)) (ProtectedBody nm items end_name) (sym declared_at.at ∙ ap (slice_get all) e ∙ at) in cc
        by_order (inr (inr l)) =
            let m = further_by k k0 l in
            let seen = keeps_places k k0 (suc m.0) (let e = m.1 in omega (arith, e)) nm.name (Protected o) there.stands_ in
            let new = unseen_none (scope_at s all k0) d.name.name (item_new (scope_at s all k0) (OfProtected d) (object_legal nm.name o declared_at)) in
            let bad = sym new ∙ ap (stands (scope_at s all k0)) declared_at.named ∙ seen in cc

    between : (m : ℕ) × (suc k0 + m ≡ k)
    between = further_by k0 k place_before

    abbrev behind : List BodyItemTree
    behind = drop (suc k0) all

    here_is : here ≡ body_items_scope (scope_at s all (suc k0)) (take between.0 behind)
    here_is =
        ap (λ x. body_items_scope s (take x all)) (sym between.1) ∙ ap (body_items_scope s) (taken_further all (suc k0) between.0)
        ∙ scope_both s (take (suc k0) all) (take between.0 behind)

    -- ---- no name in front of the body is that of an operation or component

    operation_unseen : (name : List ℕ) (e : Entity) → is_operation_in d.operations name ≡ true
        → (stands (scope_at s all k0) name ≡ Some e) ⊎ (bytes_eq d.name.name name ≡ true) → ⊥
    operation_unseen name e h seen =
        let x = one_passes (λ t. bytes_eq (operation_name t).name name) d.operations h in
        let legal = operation_legal (scope_at s all k0) d (object_legal nm.name o declared_at) x.0 x.1 x.2 in
        let same = same_bytes (operation_name x.1).name name x.3 in
        elim seen [
          | inl i ↦ let bad = sym legal.unseen ∙ ap (stands (scope_at s all k0)) same ∙ i in cc
          | inr i ↦ not_both (bytes_eq d.name.name name) i (ap (bytes_eq d.name.name) (sym same) ∙ legal.other)
        ]

    component_unseen : (name : List ℕ) (e : Entity) → declared.is_component_in d.components name ≡ true
        → (stands (scope_at s all k0) name ≡ Some e) ⊎ (bytes_eq d.name.name name ≡ true) → ⊥
    component_unseen name e h seen =
        let x = one_passes (λ c. bytes_eq c.name.name name) d.components h in
        let legal =
        part_legal_from (scope_at s all k0) d.name d.operations [] d.components x.0 x.1
        (parts_legal (scope_at s all k0) d (object_legal nm.name o declared_at)) x.2 in
        let same = same_bytes x.1.name.name name x.3 in
        elim seen [
          | inl i ↦ let bad = sym legal.unseen ∙ ap (stands (scope_at s all k0)) same ∙ i in cc
          | inr i ↦ not_both (bytes_eq d.name.name name) i (ap (bytes_eq d.name.name) (sym same) ∙ legal.other)
        ]

    abbrev NoPart : List ℕ → Type 0
    NoPart name = (is_operation_in d.operations name ≡ false) × (declared.is_component_in d.components name ≡ false)

    no_part_by : (name : List ℕ) (e : Entity) → (stands (scope_at s all k0) name ≡ Some e) ⊎ (bytes_eq d.name.name name ≡ true) → NoPart name
    no_part_by name e seen = (first (is_operation_in d.operations name) refl, second (declared.is_component_in d.components name) refl)
      where
        first : (b : Bool) → is_operation_in d.operations name ≡ b → b ≡ false
        first true h = absurd (operation_unseen name e h seen)
        first false h = refl

        second : (b : Bool) → declared.is_component_in d.components name ≡ b → b ≡ false
        second true h = absurd (component_unseen name e h seen)
        second false h = refl

    its_body : (x : BodyItemTree) → is_its_body d x ≡ is_object_body nm x
    its_body (ProtectedBody own is end_) = ap (λ a. bytes_eq a own.name) declared_at.named
    its_body (OfItem i) = refl
    its_body (SubprogramBody e b) = refl
    its_body (TaskBody own b) = refl

    no_body_between : (j : ℕ) (x : BodyItemTree) → j < between.0 → slice_get behind j ≡ Some x → is_its_body d x ≡ false
    no_body_between j x l h =
        let there_ : slice_get all (suc k0 + j) ≡ Some x = sym (dropped_at all (suc k0) j) ∙ h in
        let e = between.1 in
        its_body x ∙ none_passes (is_object_body nm) (take k all) (suc k0 + j) x only_body (taken_at all k (suc k0 + j) x (omega (arith, l, e)) there_)

    like_named : (x : BodyItemTree) (u : Scope) (y : Named) → item_like_faults d x ≡ [] → declares u x ≡ Some y → NoPart y.name
    like_named (OfItem i) u y h k =
        subst NoPart (ap (λ z. z.name) (same_some (record { name = (item_name i).name; entity = item_entity u i }) y k)) (either_false _ _ (unbroken _ _ _ h))
    like_named (SubprogramBody e b) u y h k =
        subst NoPart (ap (λ z. z.name) (same_some (record { name = e.name.name; entity = profile_entity (own_profile u e) }) y k))
        (either_false _ _ (unbroken _ _ _ h))
    like_named (TaskBody own b) u y h k = cc
    like_named (ProtectedBody own is end_) u y h k = cc

    pub no_part_here : (name : List ℕ) (e : Entity) → stands here name ≡ Some e → NoPart name
    no_part_here name e h = by_case (origin (scope_at s all (suc k0)) (take between.0 behind) name e (subst (λ u. stands u name ≡ Some e) here_is h))
      where
        own_or : (stands (scope_at s all k0) name ≡ Some e) ⊎ ((stands (scope_at s all k0) name ≡ None) × (one_of (declares (scope_at s all k0) (OfItem (OfProtected d))) name ≡ Some e)) → NoPart name
        own_or (inl i) = no_part_by name e (inl i)
        own_or (inr i) = by_name (bytes_eq name d.name.name) refl i.1
          where
            by_name : (b : Bool) → bytes_eq name d.name.name ≡ b → cond b (Some (protected_entity (scope_at s all k0) d)) None ≡ Some e → NoPart name
            by_name true j x = no_part_by name e (inr (equal_bytes d.name.name name (sym (same_bytes name d.name.name j))))
            by_name false j x = cc

        by_case : (stands (scope_at s all (suc k0)) name ≡ Some e) ⊎ Origin (scope_at s all (suc k0)) (take between.0 behind) name e → NoPart name
        by_case (inl i) =
            own_or (or_else_some (stands (scope_at s all k0) name) _ e
            (sym (stands_next (scope_at s all k0) (OfItem (OfProtected d)) name) ∙ ap (λ u. stands u name) (sym (scope_next s all k0 (OfItem (OfProtected d)) declared_at.at)) ∙ i))
        by_case (inr x) =
            let place = within_taken behind between.0 x.place x.item x.at in
            let l = place.0 in
            let like =
            between_at d behind x.place x.item (like_at s all w.list k0 d declared_at.at) place.1
            (λ j y less. no_body_between j y (omega (arith, less, l))) in
            like_named x.item _ (record { name = name; entity = e }) like x.declared

    pub operation_none : (name : List ℕ) → is_operation_in d.operations name ≡ true → stands here name ≡ None
    operation_none name h = by_stands (stands here name) refl
      where
        by_stands : (x : Option Entity) → stands here name ≡ x → x ≡ None
        by_stands None i = refl
        by_stands (Some e) i = absurd (not_both (is_operation_in d.operations name) h (no_part_here name e i).0)

    -- ---- what stands for what in the body

    abbrev seen_at : (j : ℕ) (f : Bool) → Scope
    seen_at j f = components_scope (at_ j) f o.components

    pub stands_seen : (j : ℕ) (f : Bool) (name : List ℕ)
        → stands (seen_at j f) name ≡ or_else (stands (at_ j) name) (found_in (components_named f o.components) name)
    stands_seen j f name = ap (λ u. stands u name) (components_all (at_ j) f o.components) ∙ stands_with_all (at_ j) (components_named f o.components) name

    -- an operation that is declared
    pub record IsOperationHere (name : List ℕ) (e : Entity) : Type 0 where
      pub index : ℕ
      pub one : Operation
      pub there_ : slice_get o.operations index ≡ Some one
      pub named : one.name ≡ name
      pub is : operation_entity one ≡ e
      pub tree : IsDeclared (scope_at s all k0) d.operations index one
      pub among : is_operation_in d.operations name ≡ true

    pub operation_here : (name : List ℕ) (e : Entity) → found_in (operations_named o.operations) name ≡ Some e → IsOperationHere name e
    operation_here name e h =
        let x = found_operation o.operations name e h in
        let t = operation_declared (scope_at s all k0) d.operations o.operations x.0 x.1 (operations_of nm.name o declared_at) x.2 in
        record {
          index = x.0;
          one = x.1;
          there_ = x.2;
          named = x.3;
          is = x.4;
          tree = t;
          among =
              passes_at (λ y. bytes_eq (operation_name y).name name) d.operations x.0 t.tree t.at
              (equal_bytes (operation_name t.tree).name name (sym t.named ∙ x.3));
        }

    abbrev CameInside : ℕ → List ℕ → Entity → Type 0
    CameInside j name e = IsHidden here name e ⊎ (IsOperationHere name e ⊎ Origin begun (take j inner) name e)

    came_begun : (name : List ℕ) (e : Entity) → stands begun name ≡ Some e → IsHidden here name e ⊎ IsOperationHere name e
    came_begun name e h =
        elim (or_else_some (stands hidden name) (found_in (operations_named o.operations) name) e (sym (stands_begun name) ∙ h)) [
          | inl i ↦ inl (hidden_stands here named_n.0 name e i)
          | inr i ↦ inr (operation_here name e i.1)
        ]

    came_inside : (j : ℕ) (name : List ℕ) (e : Entity) → stands (at_ j) name ≡ Some e → CameInside j name e
    came_inside j name e h =
        elim (origin begun (take j inner) name e h) [
          | inl i ↦ elim (came_begun name e i) [ inl x ↦ inl x | inr x ↦ inr (inl x) ]
          | inr i ↦ inr (inr i)
        ]

    hidden_entity : (name : List ℕ) (e : Entity) (x : IsHidden here name e) → kind x.before ≡ kind e
    hidden_entity name e x = elim x.same [ inl i ↦ ap kind i | inr i ↦ sym (offering_kind x.before) ∙ ap kind i ]

    hidden_subtype : (name : List ℕ) (e : Entity) (x : IsHidden here name e) → subtype_in (Some x.before) ≡ subtype_in (Some e)
    hidden_subtype name e x =
        elim x.same [ inl i ↦ ap (λ y. subtype_in (Some y)) i | inr i ↦ sym (offering_subtype x.before) ∙ ap (λ y. subtype_in (Some y)) i ]

    -- no name of the package stands for an entry
    no_entry_there : (name : List ℕ) (e : Entity) → stands program.scope name ≡ Some e → kind e ≡ Entries → ⊥
    no_entry_there name e h is = by_case (came program s all w name e h)
      where
        by_case : (stands s name ≡ Some e) ⊎ Origin s all name e → ⊥
        by_case (inl i) = let bad = sym (ap is_first is) ∙ (w.started name e i).first in cc
        by_case (inr x) = no_entry x.item (sym is ∙ origin_kind program s all w name e x (λ i. let bad = sym is ∙ ap kind i in cc))

    -- ---- names of subtypes in the body are those of the package

    operation_no_subtype : (x : Operation) → subtype_in (Some (operation_entity x)) ≡ None
    operation_no_subtype x = by_kind x.is_entry
      where
        by_kind : (b : Bool) → subtype_in (Some (elim b [ true ↦ entity.Entry x.profile | false ↦ Subprogram x.profile ])) ≡ None
        by_kind true = refl
        by_kind false = refl

    helper_no_subtype : (e : Entity) → IsOne Subprograms e ⊎ IsOne Others e → subtype_in (Some e) ≡ None
    helper_no_subtype (Subprogram p) h = refl
    helper_no_subtype Doubtful h = refl
    helper_no_subtype (entity.OfType form t) (inl h) = cc
    helper_no_subtype (entity.OfType form t) (inr h) = cc
    helper_no_subtype (entity.OfSubtype t) (inl h) = cc
    helper_no_subtype (entity.OfSubtype t) (inr h) = cc
    helper_no_subtype e h = refl

    -- what is declared inside is a subprogram
    pub as_one : (u : Scope) (j : ℕ) (x : BodyItemTree) (y : Named) → slice_get inner j ≡ Some x → declares u x ≡ Some y
        → (e : SubprogramTree) × (b : BodyTree) × (slice_get items j ≡ Some (OperationBody e b)) × (x ≡ SubprogramBody e b)
    as_one u j x y h k = by_item (map_at as_item items j x h)
      where
        by_tree : (i : ProtectedItemTree) → slice_get items j ≡ Some i → as_item i ≡ x
            → (e : SubprogramTree) × (b : BodyTree) × (slice_get items j ≡ Some (OperationBody e b)) × (x ≡ SubprogramBody e b)
        by_tree (OperationBody e b) a z = (e, b, a, sym z)
        by_tree (EntryBody e barrier b) a z = let bad = ap (declares u) z ∙ k in cc

        by_item : (i : ProtectedItemTree) × (slice_get items j ≡ Some i) × (as_item i ≡ x)
            → (e : SubprogramTree) × (b : BodyTree) × (slice_get items j ≡ Some (OperationBody e b)) × (x ≡ SubprogramBody e b)
        by_item i = by_tree i.0 i.1 i.2

    subtypes_inside : (j : ℕ) (name : List ℕ) (e : Entity) (t : Subtype) → stands (at_ j) name ≡ Some e → subtype_in (Some e) ≡ Some t
        → subtype_in (stands program.scope name) ≡ Some t
    subtypes_inside j name e t h i = by_case (came_inside j name e h)
      where
        by_case : CameInside j name e → subtype_in (stands program.scope name) ≡ Some t
        by_case (inl x) = ap subtype_in (kept program s all w k name x.before x.stands_) ∙ hidden_subtype name e x ∙ i
        by_case (inr (inl x)) = let bad = sym (operation_no_subtype x.one) ∙ ap (λ y. subtype_in (Some y)) x.is ∙ i in cc
        by_case (inr (inr x)) =
            let place = within_taken inner j x.place x.item x.at in
            let one = as_one (scope_at begun (take j inner) x.place) x.place x.item (record { name = name; entity = e }) place.1 x.declared in
            let kind_ : IsOne Subprograms e =
            subst (λ y. IsOne (body_item_kind y) e) one.3 (declared_one _ x.item (record { name = name; entity = e }) x.declared) in
            let bad = sym (helper_no_subtype e (inl kind_)) ∙ i in cc

    pub types_seen : (j : ℕ) (f : Bool) → KeepsTypes (seen_at j f) program.scope
    types_seen j f name t h = by_stands (stands (seen_at j f) name.name) refl h
      where
        by_case : (e : Entity) → subtype_in (Some e) ≡ Some t
            → (stands (at_ j) name.name ≡ Some e) ⊎ ((stands (at_ j) name.name ≡ None) × (found_in (components_named f o.components) name.name ≡ Some e))
            → subtype_of program.scope name ≡ Some t
        by_case e i (inl x) = subtypes_inside j name.name e t x i
        by_case e i (inr x) = let y = component_object f o.components name.name e x.1 in let bad = ap (λ z. subtype_in (Some z)) (sym y.1) ∙ i in cc

        by_stands : (x : Option Entity) → stands (seen_at j f) name.name ≡ x → subtype_in x ≡ Some t → subtype_of program.scope name ≡ Some t
        by_stands (Some e) i a =
            by_case e a (or_else_some (stands (at_ j) name.name) (found_in (components_named f o.components) name.name) e (sym (stands_seen j f name.name) ∙ i))
        by_stands None i a = cc

    -- ---- bodies and their declarations

    abbrev pub OwnProfile : ProtectedItemTree → Profile → Type 0
    OwnProfile i p = profile_with program.scope (formal_parameters program.scope (unit_formals i)) (unit_result i) ≡ Some p

    -- an entry is declared as one
    abbrev pub IsEntryTree : ProtectedItemTree → Type 0
    IsEntryTree (OperationBody e b) = ⊤
    IsEntryTree (EntryBody e barrier b) =
        (x : ℕ) × (t : OperationTree) × (slice_get d.operations x ≡ Some t) × (declared.is_entry t ≡ true) × ((operation_name t).name ≡ e.name.name)

    pub record HasOwn (i : ProtectedItemTree) : Type 0 where
      pub profile : Profile
      pub stands_ : stands ended (unit_name i) ≡ Some (unit_entity i profile)
      pub own : OwnProfile i profile
      pub unseen : stands here (unit_name i) ≡ None
      pub apart : (f : Bool) → found_in (components_named f o.components) (unit_name i) ≡ None
      pub entry : IsEntryTree i

    unlike_none : (j : ℕ) (i : ProtectedItemTree) → slice_get items j ≡ Some i → list_any (is_unlike_operation i) d.operations ≡ false
    unlike_none j i h =
        let unlike =
        none_passes (passes_declared (has_unlike_operation nm i)) (take k all) k0 (OfItem (OfProtected d)) (item_matched j i h).1
        (taken_at all k k0 (OfItem (OfProtected d)) place_before declared_at.at) in
        by_test (same_name d.name nm) (list_any (is_unlike_operation i) d.operations) (equal_bytes d.name.name nm.name declared_at.named) unlike
      where
        by_test : (a b : Bool) → a ≡ true → (a && b) ≡ false → b ≡ false
        by_test true b x y = y
        by_test false b x y = cc

    conforming : (i : ProtectedItemTree) (t : OperationTree) (p : Profile) → is_unlike_operation i t ≡ false → (operation_name t).name ≡ unit_name i
        → declared.is_entry t ≡ matching.operation_is_entry i → operation_profile (scope_at s all k0) t ≡ Some p → OwnProfile i p
    conforming (OperationBody e b) (operation.OfSubprogram x a) p unlike named kinds own =
        let alike =
        both_true (same_formals x.formals e.formals) (same_result x.result e.result)
        (judged (same_name x.name e.name) (conforms x e) unlike (equal_bytes x.name.name e.name.name named)) in
        sym (profile_same program.scope x.formals e.formals x.result e.result alike.0 alike.1)
        ∙ profile_kept (scope_at s all k0) program.scope (kept program s all w k0) x.formals x.result p own
    conforming (EntryBody e barrier b) (operation.OfEntry x) p unlike named kinds own =
        let alike = judged (same_name x.name e.name) (same_formals x.formals e.formals) unlike (equal_bytes x.name.name e.name.name named) in
        sym (profile_same program.scope x.formals e.formals None None alike refl)
        ∙ profile_kept (scope_at s all k0) program.scope (kept program s all w k0) x.formals None p own
    conforming (OperationBody e b) (operation.OfEntry x) p unlike named kinds own = cc
    conforming (EntryBody e barrier b) (operation.OfSubprogram x a) p unlike named kinds own = cc

    pub kept_ended : (j : ℕ) (name : List ℕ) (e : Entity) → stands (at_ j) name ≡ Some e → stands ended name ≡ Some e
    kept_ended j name e h = kept_at begun inner j name e h

    no_component : (name : List ℕ) → is_operation_in d.operations name ≡ true → (f : Bool) → found_in (components_named f o.components) name ≡ None
    no_component name h f =
        no_part (scope_at s all k0) f d.components o.components name (components_of nm.name o declared_at)
        (by_test (declared.is_component_in d.components name) refl)
      where
        by_test : (b : Bool) → declared.is_component_in d.components name ≡ b → b ≡ false
        by_test false i = refl
        by_test true i =
            let x = one_passes (λ c. bytes_eq c.name.name name) d.components i in
            let legal =
            part_legal_from (scope_at s all k0) d.name d.operations [] d.components x.0 x.1
            (parts_legal (scope_at s all k0) d (object_legal nm.name o declared_at)) x.2 in
            absurd (not_both (is_operation_in d.operations name) h (ap (is_operation_in d.operations) (sym (same_bytes x.1.name.name name x.3)) ∙ legal.apart))

    entry_tree_of : (i : ProtectedItemTree) (x : ℕ) (t : OperationTree) → slice_get d.operations x ≡ Some t
        → declared.is_entry t ≡ matching.operation_is_entry i
        → (operation_name t).name ≡ unit_name i → IsEntryTree i
    entry_tree_of (OperationBody e b) x t h kinds named = tt
    entry_tree_of (EntryBody e barrier b) x t h kinds named = (x, t, h, kinds, named)

    -- the body of an operation that is declared
    from_declared : (j : ℕ) (i : ProtectedItemTree) (p : Profile) → slice_get items j ≡ Some i → stands (at_ j) (unit_name i) ≡ Some (unit_entity i p)
        → (x : IsOperationHere (unit_name i) (unit_entity i p)) → declared.is_entry x.tree.tree ≡ matching.operation_is_entry i → x.one.profile ≡ p → HasOwn i
    from_declared j i p h there_ x kinds same =
        record {
          profile = p;
          stands_ = kept_ended j (unit_name i) (unit_entity i p) there_;
          own =
              conforming i x.tree.tree p
              (none_passes (is_unlike_operation i) d.operations x.index x.tree.tree (unlike_none j i h) x.tree.at)
              (sym x.tree.named ∙ x.named) kinds (x.tree.profile ∙ ap Some same);
          unseen = operation_none (unit_name i) x.among;
          apart = no_component (unit_name i) x.among;
          entry = entry_tree_of i x.index x.tree.tree x.tree.at kinds (sym x.tree.named ∙ x.named);
        }

    entity_kinds : (x : Operation) (p : Profile) → operation_entity x ≡ entity.Entry p → (x.is_entry ≡ true) × (x.profile ≡ p)
    entity_kinds x p h = by_kind x.is_entry refl h
      where
        profile_in : Entity → Profile
        profile_in (entity.Entry q) = q
        profile_in e = p

        by_kind : (b : Bool) → x.is_entry ≡ b → ◌≡◌ {A = Entity} (elim b [ true ↦ entity.Entry x.profile | false ↦ Subprogram x.profile ]) (entity.Entry p)
            → (x.is_entry ≡ true) × (x.profile ≡ p)
        by_kind true i j = (i, ap profile_in j)
        by_kind false i j = cc

    entity_plain : (x : Operation) (p : Profile) → operation_entity x ≡ Subprogram p → (x.is_entry ≡ false) × (x.profile ≡ p)
    entity_plain x p h = by_kind x.is_entry refl h
      where
        profile_in : Entity → Profile
        profile_in (Subprogram q) = q
        profile_in e = p

        by_kind : (b : Bool) → x.is_entry ≡ b → ◌≡◌ {A = Entity} (elim b [ true ↦ entity.Entry x.profile | false ↦ Subprogram x.profile ]) (Subprogram p)
            → (x.is_entry ≡ false) × (x.profile ≡ p)
        by_kind false i j = (i, ap profile_in j)
        by_kind true i j = cc

    entry_is : (e : Option Entity) → is_entry e ≡ true → (p : Profile) × (e ≡ Some (entity.Entry p))
    entry_is (Some (entity.Entry p)) h = (p, refl)
    entry_is None h = cc
    entry_is (Some e) h = cc

    pub entry_own : (j : ℕ) (e : EntryTree) (barrier : ExprTree) (b : BodyTree) → slice_get items j ≡ Some (EntryBody e barrier b)
        → HasOwn (EntryBody e barrier b)
    entry_own j e barrier b h =
        by_case
        (or_else_some (stands (at_ j) e.name.name) (found_in (components_named false o.components) e.name.name) (entity.Entry p.0) (sym (stands_seen j false e.name.name) ∙ p.1))
      where
        i : ProtectedItemTree
        i = EntryBody e barrier b

        rule_ : entry_rule (seen_at j false) e.name ≡ []
        rule_ =
            front_empty (entry_rule (seen_at j false) e.name) _
            (front_empty _ _ (front_empty _ _ (front_empty _ (end_rule e.name b.end_name) (item_legal j i h))))

        p : (p : Profile) × (named_entity (seen_at j false) e.name ≡ Some (entity.Entry p))
        p = entry_is (named_entity (seen_at j false) e.name) (not_true (is_entry (named_entity (seen_at j false) e.name)) (unbroken _ e.name.place _ rule_))

        inside_by : stands (at_ j) e.name.name ≡ Some (entity.Entry p.0) → CameInside j e.name.name (entity.Entry p.0) → HasOwn i
        inside_by there_ (inl x) =
            absurd
            (no_entry_there e.name.name x.before (kept program s all w k e.name.name x.before x.stands_) (hidden_entity e.name.name (entity.Entry p.0) x))
        inside_by there_ (inr (inl x)) =
            let kinds = entity_kinds x.one p.0 x.is in from_declared j i p.0 h there_ x (sym x.tree.kind ∙ kinds.0) kinds.1
        inside_by there_ (inr (inr x)) =
            absurd
            (no_entry x.item (known_kind (body_item_kind x.item) (entity.Entry p.0) (declared_one _ x.item (record { name = e.name.name; entity = entity.Entry p.0 }) x.declared) (λ y. cc)))

        by_case : (stands (at_ j) e.name.name ≡ Some (entity.Entry p.0)) ⊎ ((stands (at_ j) e.name.name ≡ None) × (found_in (components_named false o.components) e.name.name ≡ Some (entity.Entry p.0))) → HasOwn i
        by_case (inl there_) = inside_by there_ (came_inside j e.name.name (entity.Entry p.0) there_)
        by_case (inr x) = let y = component_object false o.components e.name.name (entity.Entry p.0) x.1 in let bad = y.1 in cc

    -- ---- operations, where the names at each body are known and no undeclared one hides a name in front

    pub types_at : (j : ℕ) → KeepsTypes (at_ j) program.scope
    types_at j name t h = by_stands (stands (at_ j) name.name) refl h
      where
        by_stands : (x : Option Entity) → stands (at_ j) name.name ≡ x → subtype_in x ≡ Some t → subtype_of program.scope name ≡ Some t
        by_stands (Some e) i a = subtypes_inside j name.name e t i a
        by_stands None i a = cc

    component_roles : (f g : Bool) (cs : List RecordComponent) (name : List ℕ) → found_in (components_named f cs) name ≡ None
        → found_in (components_named g cs) name ≡ None
    component_roles f g [] name h = refl
    component_roles f g (c ∷ cs) name h = by_test (bytes_eq name c.name) h (λ x. component_roles f g cs name x)
      where
        by_test : (t : Bool) → or_else (cond t (Some (entity.Object (component_role f) c.subtype)) None) (found_in (components_named f cs) name) ≡ None
            → (found_in (components_named f cs) name ≡ None → found_in (components_named g cs) name ≡ None)
            → or_else (cond t (Some (entity.Object (component_role g) c.subtype)) None) (found_in (components_named g cs) name) ≡ None
        by_test true x later = cc
        by_test false x later = later x

    none_both : (a b : Option Entity) → or_else a b ≡ None → (a ≡ None) × (b ≡ None)
    none_both (Some e) b h = cc
    none_both None b h = (refl, h)

    -- components are no subtypes
    pub types_behind : (j : ℕ) (f : Bool) → KeepsTypes (seen_at j f) (at_ j)
    types_behind j f name t h = by_stands (stands (seen_at j f) name.name) refl h
      where
        by_case : (e : Entity) → subtype_in (Some e) ≡ Some t
            → (stands (at_ j) name.name ≡ Some e) ⊎ ((stands (at_ j) name.name ≡ None) × (found_in (components_named f o.components) name.name ≡ Some e))
            → subtype_of (at_ j) name ≡ Some t
        by_case e i (inl x) = ap subtype_in x ∙ i
        by_case e i (inr x) = let y = component_object f o.components name.name e x.1 in let bad = ap (λ z. subtype_in (Some z)) (sym y.1) ∙ i in cc

        by_stands : (x : Option Entity) → stands (seen_at j f) name.name ≡ x → subtype_in x ≡ Some t → subtype_of (at_ j) name ≡ Some t
        by_stands (Some e) i a =
            by_case e a (or_else_some (stands (at_ j) name.name) (found_in (components_named f o.components) name.name) e (sym (stands_seen j f name.name) ∙ i))
        by_stands None i a = cc

    -- the names at each operation, and in its body
    abbrev pub SeenSound : Type 0
    SeenSound =
        (j : ℕ) (i : ProtectedItemTree) → slice_get items j ≡ Some i → (f : Bool) → SoundScope (components_scope (scope_at begun inner j) f o.components)

    abbrev pub InnerSound : Type 0
    InnerSound = (j : ℕ) (e : SubprogramTree) (b : BodyTree) → slice_get items j ≡ Some (OperationBody e b)
        → SoundScope (subprogram_scope (components_scope (scope_at begun inner j) (is_some e.result) o.components) e)

    module _ (sounds : SeenSound) where
      pub doubt_seen : (j : ℕ) (i : ProtectedItemTree) → slice_get items j ≡ Some i → (f : Bool) (name : List ℕ) → stands (seen_at j f) name ≡ Some Doubtful → ⊥
      doubt_seen j i at_j f name h = let x = number_stands (seen_at j f) name Doubtful h in (sounds j i at_j f).each x.0 Doubtful x.2

      pub doubt_at : (j : ℕ) (i : ProtectedItemTree) → slice_get items j ≡ Some i → (name : List ℕ) → stands (at_ j) name ≡ Some Doubtful → ⊥
      doubt_at j i at_j name h =
          doubt_seen j i at_j false name (stands_seen j false name ∙ ap (λ x. or_else x (found_in (components_named false o.components) name)) h)

      module _ (inners : InnerSound) (j : ℕ) (e : SubprogramTree) (b : BodyTree) (h : slice_get items j ≡ Some (OperationBody e b))
          (private_ : stands here e.name.name ≡ None) where
        abbrev own_unit : ProtectedItemTree
        own_unit = OperationBody e b

        abbrev own_seen : Scope
        own_seen = seen_at j (is_some e.result)

        pub operation_legal_body : subprogram_body_faults own_seen e b ≡ []
        operation_legal_body = item_legal j own_unit h

        name_rule : body_name_faults own_seen e.name ≡ []
        name_rule =
            back_empty _ (body_name_faults own_seen e.name)
            (front_empty _ (function_body_faults e b) (front_empty (head_faults own_seen e b) _ (front_empty _ (end_rule e.name b.end_name) operation_legal_body)))

        new_operation : stands own_seen e.name.name ≡ None → HasOwn own_unit
        new_operation none =
            let two =
            none_both (stands (at_ j) e.name.name) (found_in (components_named (is_some e.result) o.components) e.name.name)
            (sym (stands_seen j (is_some e.result) e.name.name) ∙ none) in
            let inner_at : slice_get inner j ≡ Some (SubprogramBody e b) = at_map as_item items j own_unit h in
            let ent : Entity = profile_entity (own_profile (at_ j) e) in
            let next : stands (at_ (suc j)) e.name.name ≡ Some ent =
            ap (λ u. stands u e.name.name) (scope_next begun inner j (SubprogramBody e b) inner_at)
            ∙ stands_next (at_ j) (SubprogramBody e b) e.name.name
            ∙ (λ z. or_else (two.0 z) (cond (bytes_same e.name.name z) (Some ent) None)) in
            let own_ : stands (subprogram_scope own_seen e) e.name.name ≡ Some (profile_entity (own_profile own_seen e)) =
            stands_next own_seen (SubprogramBody e b) e.name.name
            ∙ (λ z. or_else (none z) (cond (bytes_same e.name.name z) (Some (profile_entity (own_profile own_seen e))) None)) in
            let known =
            profile_known (own_profile own_seen e)
            (λ x. let n = number_stands (subprogram_scope own_seen e) e.name.name Doubtful (own_ ∙ ap Some x) in (inners j e b h).each n.0 Doubtful n.2) in
            let here_ = profile_moved own_seen (at_ j) (types_behind j (is_some e.result)) e.formals e.result known.0 known.1 in
            record {
              profile = known.0;
              stands_ = kept_ended (suc j) e.name.name ent next ∙ ap (λ x. Some (profile_entity x)) here_;
              own = profile_moved (at_ j) program.scope (types_at j) e.formals e.result known.0 here_;
              unseen = private_;
              apart = λ f. component_roles (is_some e.result) f o.components e.name.name two.1;
              entry = tt;
            }

        known_operation : (p : Profile) → stands (at_ j) e.name.name ≡ Some (Subprogram p) → CameInside j e.name.name (Subprogram p) → HasOwn own_unit
        known_operation p there_ (inl x) = let bad = sym private_ ∙ x.stands_ in cc
        known_operation p there_ (inr (inl x)) =
            let kinds = entity_plain x.one p x.is in from_declared j own_unit p h there_ x (sym x.tree.kind ∙ kinds.0) kinds.1
        known_operation p there_ (inr (inr x)) =
            let place = within_taken inner j x.place x.item x.at in
            let one = as_one (scope_at begun (take j inner) x.place) x.place x.item (record { name = e.name.name; entity = Subprogram p }) place.1 x.declared in
            let named : one.0.name.name ≡ e.name.name =
            ap (λ y. y.name)
            (same_some (record { name = one.0.name.name; entity = profile_entity (own_profile (scope_at begun (take j inner) x.place) one.0) }) (record { name = e.name.name; entity = Subprogram p })
            (ap (declares (scope_at begun (take j inner) x.place)) (sym one.3) ∙ x.declared)) in
            let second =
            none_passes (matching.is_operation_body e.name) (take j items) x.place (OperationBody one.0 one.1) (item_matched j own_unit h).0
            (taken_at items j x.place (OperationBody one.0 one.1) place.0 one.2) in
            absurd (not_both (same_name e.name one.0.name) (equal_bytes e.name.name one.0.name.name (sym named)) second)

        pub operation_own : HasOwn own_unit
        operation_own = by_stands (stands own_seen e.name.name) refl
          where
            by_place : (p : Profile)
                → (stands (at_ j) e.name.name ≡ Some (Subprogram p)) ⊎ ((stands (at_ j) e.name.name ≡ None) × (found_in (components_named (is_some e.result) o.components) e.name.name ≡ Some (Subprogram p)))
                → HasOwn own_unit
            by_place p (inl x) = known_operation p x (came_inside j e.name.name (Subprogram p) x)
            by_place p (inr x) = let y = component_object (is_some e.result) o.components e.name.name (Subprogram p) x.1 in let bad = y.1 in cc

            by_kind : (x : Entity) → stands own_seen e.name.name ≡ Some x → ((p : Profile) × (x ≡ Subprogram p)) ⊎ (x ≡ Doubtful) → HasOwn own_unit
            by_kind x i (inl y) =
                by_place y.0
                (or_else_some (stands (at_ j) e.name.name) (found_in (components_named (is_some e.result) o.components) e.name.name) (Subprogram y.0)
                (sym (stands_seen j (is_some e.result) e.name.name) ∙ i ∙ ap Some y.1))
            by_kind x i (inr y) = absurd (doubt_seen j own_unit h (is_some e.result) e.name.name (i ∙ ap Some y))

            by_test : (x : Entity) → stands own_seen e.name.name ≡ Some x → (t : Bool) → is_subprogram (Some x) ≡ t → HasOwn own_unit
            by_test x i true y = by_kind x i (subprogram_is x y)
            by_test x i false y =
                let faults : ◌≡◌ {A = Faults} (elim (is_subprogram (named_entity own_seen e.name)) [ true ↦ [] | false ↦ body_name_rule own_seen e.name ]) [] =
                name_rule in
                let twice : body_name_rule own_seen e.name ≡ [] =
                subst (λ t. ◌≡◌ {A = Faults} (elim t [ true ↦ [] | false ↦ body_name_rule own_seen e.name ]) []) (ap is_subprogram i ∙ y) faults in
                absurd (not_both (is_visible own_seen e.name.name) (some_seen own_seen e.name.name x i) (unbroken _ _ _ twice))

            by_stands : (x : Option Entity) → stands own_seen e.name.name ≡ x → HasOwn own_unit
            by_stands None i = new_operation i
            by_stands (Some x) i = by_test x i (is_subprogram (Some x)) refl

      module _ (inners : InnerSound)
          (private_ : (j : ℕ) (e : SubprogramTree) (b : BodyTree) → slice_get items j ≡ Some (OperationBody e b) → stands here e.name.name ≡ None) where
        pub own_of : (j : ℕ) (i : ProtectedItemTree) → slice_get items j ≡ Some i → HasOwn i
        own_of j (OperationBody e b) h = operation_own inners j e b h (private_ j e b h)
        own_of j (EntryBody e barrier b) h = entry_own j e barrier b h
