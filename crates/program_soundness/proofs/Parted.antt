-- The components of protected objects among what the program declares, by the numbers of the objects (RM 9.4).
use Rattle.std.proofs.Common.{◌≡◌, ◌≤◌, ℕ, zero, suc, ◌+◌, List, [], ◌∷◌, ◌++◌, map, Bool, true, false, cond, Option, Some, None, refl, sym, ap, ◌∙◌, arith}
use Rattle.std.specs.Prelude.{bytes_eq, slice_get}
use Rattle.expr_soundness.specs.ada_tree.specs.StatementTree.{ProtectedComponentTree, ProtectedTree}
use Rattle.expr_soundness.specs.ada_tree.specs.ProgramTree.{BodyItemTree, OfItem, SubprogramBody, TaskBody, ProtectedBody, OfType, OfObject, OfException, OfSubprogram, OfTask, OfProtected}
use Rattle.types.specs.declared.entity.RecordComponent.{RecordComponent}
use Rattle.types.specs.declared.entity.Subtype.{Subtype}
use Rattle.types.specs.Entities.{Entity, Object, ProtectedObject, Protected}
use Rattle.types.specs.Scopes.{Named, Scope, is_visible, one_if_protected, protected_count, with_name}
use Rattle.types.specs.Places.{object_of, or_else}
use Rattle.types.specs.Places as places
use Rattle.types.proofs.Seeing.{either_way}
use Rattle.expr_soundness.specs.type_rules.specs.SubtypeNames.{subtype_of}
use Rattle.declaration_rules.specs.BodyNames.{component_role}
use Rattle.declaration_rules.specs.ProtectedRules.{object_components, protected_entity}
use Rattle.declaration_rules.specs.PackageNames.{body_item_scope}
use Rattle.unit_rules.specs.PackageBodyRules.{body_item_faults}
use Rattle.expr_soundness.specs.meaning.specs.Programs.{component, components_among, items_among, subtype_named}
use Rattle.program_soundness.specs.Fronts.{scope_at}
use Rattle.program_soundness.proofs.Listing.{same_some}
use Rattle.program_soundness.proofs.WiderScopes.{found_in}
use Rattle.program_soundness.proofs.BodyProfiles.{named_is}
use Rattle.program_soundness.proofs.ObjectTrees.{components_named, first_part}
use Rattle.program_soundness.proofs.Walked.{Constants, IsOne, Kind, ProtectedOnes, Subprograms, Types, Variables, body_item_kind, declares, item_entity, item_new}
use Rattle.program_soundness.proofs.Moved.{counted_with, grows_at}

-- ---- objects of components by their names

component_object_in : (whole u : Scope) (f : Bool) (cs : List ProtectedComponentTree) (parts : List RecordComponent) (name : List ℕ) (e : Entity)
    → ((c : ProtectedComponentTree) (t : Subtype) → subtype_of u c.subtype ≡ Some t → subtype_of whole c.subtype ≡ Some t)
    → object_components u cs ≡ Some parts → found_in (components_named f parts) name ≡ Some e
    → (x : places.Object) × (object_of (map (component whole) cs) name ≡ Some x) × (e ≡ Object (component_role f) x.subtype)
component_object_in whole u f [] parts name e same h found = let bad = ap (λ l. found_in (components_named f l) name) (same_some [] parts h) ∙ found in cc
component_object_in whole u f (c ∷ cs) parts name e same h found =
    let x = first_part u c cs parts h in
    by_test x.subtype (named_is whole c.subtype x.subtype (same c x.subtype x.own)) x.rest (bytes_eq name c.name.name) refl
    (ap (λ l. found_in (components_named f l) name) (sym x.is) ∙ found) (λ k. component_object_in whole u f cs x.rest name e same x.further k)
  where
    by_test : (t : Subtype) → subtype_named whole c.subtype ≡ t → (rest : List RecordComponent) → (b : Bool) → bytes_eq name c.name.name ≡ b
        → or_else (cond (bytes_eq name c.name.name) (Some (Object (component_role f) t)) None) (found_in (components_named f rest) name) ≡ Some e
        → (found_in (components_named f rest) name ≡ Some e → (x : places.Object) × (object_of (map (component whole) cs) name ≡ Some x) × (e ≡ Object (component_role f) x.subtype))
        → (x : places.Object) × (object_of (map (component whole) (c ∷ cs)) name ≡ Some x) × (e ≡ Object (component_role f) x.subtype)
    by_test t named rest true i k later =
        let here : bytes_eq c.name.name name ≡ true = either_way c.name.name name ∙ i in
        let is =
        same_some (Object (component_role f) t) e
        (ap (λ b. or_else (cond b (Some (Object (component_role f) t)) None) (found_in (components_named f rest) name)) (sym i) ∙ k) in
        (component whole c, ap (λ b. cond b (Some (component whole c)) (object_of (map (component whole) cs) name)) here, sym is ∙ ap (Object (component_role f)) (sym named))
    by_test t named rest false i k later =
        let there : bytes_eq c.name.name name ≡ false = either_way c.name.name name ∙ i in
        let x = later (ap (λ b. or_else (cond b (Some (Object (component_role f) t)) None) (found_in (components_named f rest) name)) (sym i) ∙ k) in
        (x.0, ap (λ b. cond b (Some (component whole c)) (object_of (map (component whole) cs) name)) there ∙ x.1, x.2)

pub component_found : (whole u : Scope) (f : Bool) (cs : List ProtectedComponentTree) (parts : List RecordComponent) (name : List ℕ) (e : Entity)
    → ((c : ProtectedComponentTree) (t : Subtype) → subtype_of u c.subtype ≡ Some t → subtype_of whole c.subtype ≡ Some t)
    → object_components u cs ≡ Some parts → found_in (components_named f parts) name ≡ Some e
    → (x : places.Object) × (object_of (map (component whole) cs) name ≡ Some x) × (e ≡ Object (component_role f) x.subtype)
component_found whole u f cs parts name e same h found = component_object_in whole u f cs parts name e same h found

-- nor is one found where no component has the name
none_both : (a b : Option Entity) → or_else a b ≡ None → (a ≡ None) × (b ≡ None)
none_both (Some e) b h = cc
none_both None b h = (refl, h)

pub no_part_object : (whole u : Scope) (f : Bool) (cs : List ProtectedComponentTree) (parts : List RecordComponent) (name : List ℕ)
    → object_components u cs ≡ Some parts → found_in (components_named f parts) name ≡ None → object_of (map (component whole) cs) name ≡ None
no_part_object whole u f [] parts name h none = refl
no_part_object whole u f (c ∷ cs) parts name h none =
    let x = first_part u c cs parts h in
    let two =
    none_both (cond (bytes_eq name c.name.name) (Some (Object (component_role f) x.subtype)) None) (found_in (components_named f x.rest) name)
    (ap (λ l. found_in (components_named f l) name) (sym x.is) ∙ none) in
    by_test (bytes_eq name c.name.name) refl (Object (component_role f) x.subtype) two.0 (no_part_object whole u f cs x.rest name x.further two.1)
  where
    by_test : (b : Bool) → bytes_eq name c.name.name ≡ b → (e : Entity) → cond (bytes_eq name c.name.name) (Some e) None ≡ None
        → object_of (map (component whole) cs) name ≡ None
        → object_of (map (component whole) (c ∷ cs)) name ≡ None
    by_test true i e k later = let bad = ap (λ b. cond b (Some e) None) (sym i) ∙ k in cc
    by_test false i e k later =
        ap (λ b. cond b (Some (component whole c)) (object_of (map (component whole) cs) name)) (either_way c.name.name name ∙ i) ∙ later

-- ---- the components of the object with a number

count_push : (s : Scope) (x : Named) → protected_count (s ++ x ∷ []) ≡ protected_count s + one_if_protected x.entity
count_push [] x = omega arith
count_push (y ∷ ys) x = let e = count_push ys x in omega (arith, e)

unprotected_with : (s : Scope) (name : List ℕ) (e : Entity) → one_if_protected e ≡ 0 → protected_count (with_name s name e) ≡ protected_count s
unprotected_with s name e none = by_test (is_visible s name)
  where
    by_test : (b : Bool) → protected_count (cond b s (s ++ record { name = name; entity = e } ∷ [])) ≡ protected_count s
    by_test true = refl
    by_test false = let i = count_push s (record { name = name; entity = e }) in omega (arith, i, none)

-- an item declares no protected object, or is one
abbrev pub item_objects : BodyItemTree → ℕ
item_objects (OfItem (OfProtected d)) = 1
item_objects i = 0

not_protected : (k : Kind) (e : Entity) → (ProtectedOnes ≡ k → ⊥) → IsOne k e → one_if_protected e ≡ 0
not_protected k (Protected o) other h = absurd (other h)
not_protected k e other h = refl

abbrev pub CountsNext : Scope → BodyItemTree → Type 0
CountsNext s i = protected_count (body_item_scope s i) ≡ protected_count s + item_objects i

-- where each item counts as it should, the components of the object at a place stand at its number
-- an item that breaks no rule and is not doubtful counts so
pub counts_item : (s : Scope) (i : BodyItemTree) → body_item_faults s i ≡ []
    → ((d : ProtectedTree) → i ≡ OfItem (OfProtected d) → (o : ProtectedObject) × (protected_entity s d ≡ Protected o))
    → ((x : Named) → declares s i ≡ Some x → IsOne (body_item_kind i) x.entity) → CountsNext s i
counts_item s (OfItem (OfProtected d)) legal object one =
    let o = object d refl in
    let new = item_new s (OfProtected d) legal in
    let e = ap (λ y. protected_count (with_name s d.name.name y)) o.1 ∙ counted_with s d.name.name o.0 new in omega (arith, e)
counts_item s (OfItem (OfType d)) legal object one =
    let x : Named = record { name = d.name.name; entity = item_entity s (OfType d) } in
    let e = unprotected_with s d.name.name x.entity (not_protected Types x.entity (λ h. cc) (one x refl)) in omega (arith, e)
counts_item s (OfItem (OfObject d)) legal object one =
    let x : Named = record { name = d.name.name; entity = item_entity s (OfObject d) } in
    let e = unprotected_with s d.name.name x.entity (not_protected (cond d.constant Constants Variables) x.entity (by_constant d.constant) (one x refl)) in omega (arith, e)
  where
    by_constant : (b : Bool) → ProtectedOnes ≡ cond b Constants Variables → ⊥
    by_constant true h = cc
    by_constant false h = cc
counts_item s (OfItem (OfException name)) legal object one = let e = unprotected_with s name.name (item_entity s (OfException name)) refl in omega (arith, e)
counts_item s (OfItem (OfSubprogram d)) legal object one =
    let x : Named = record { name = d.name.name; entity = item_entity s (OfSubprogram d) } in
    let e = unprotected_with s d.name.name x.entity (not_protected Subprograms x.entity (λ h. cc) (one x refl)) in omega (arith, e)
counts_item s (OfItem (OfTask d)) legal object one = let e = unprotected_with s d.name.name (item_entity s (OfTask d)) refl in omega (arith, e)
counts_item s (SubprogramBody d b) legal object one =
    let x : Named = record { name = d.name.name; entity = item_entity s (OfSubprogram d) } in
    let e = unprotected_with s d.name.name x.entity (not_protected Subprograms x.entity (λ h. cc) (one x refl)) in omega (arith, e)
counts_item s (TaskBody name b) legal object one = omega arith
counts_item s (ProtectedBody name items end_name) legal object one = omega arith

-- what the first item adds to the components
first_item : (whole : Scope) (y : BodyItemTree) (xs : List BodyItemTree) (n a b c : ℕ) (wanted : Option (List places.Object)) → b ≡ a + item_objects y
    → c ≡ a + n → b ≤ c
    → ((m : ℕ) → c ≡ b + m → slice_get (components_among whole (items_among xs)) m ≡ wanted)
    → slice_get (components_among whole (items_among (y ∷ xs))) n ≡ wanted
first_item whole (OfItem (OfProtected e)) xs zero a b c wanted i h less later = absurd (omega (arith, i, h, less))
first_item whole (OfItem (OfProtected e)) xs (suc n) a b c wanted i h less later = later n (omega (arith, i, h))
first_item whole (OfItem (OfType e)) xs n a b c wanted i h less later = later n (omega (arith, i, h))
first_item whole (OfItem (OfObject e)) xs n a b c wanted i h less later = later n (omega (arith, i, h))
first_item whole (OfItem (OfException e)) xs n a b c wanted i h less later = later n (omega (arith, i, h))
first_item whole (OfItem (OfSubprogram e)) xs n a b c wanted i h less later = later n (omega (arith, i, h))
first_item whole (OfItem (OfTask e)) xs n a b c wanted i h less later = later n (omega (arith, i, h))
first_item whole (SubprogramBody e b_) xs n a b c wanted i h less later = later n (omega (arith, i, h))
first_item whole (TaskBody e b_) xs n a b c wanted i h less later = later n (omega (arith, i, h))
first_item whole (ProtectedBody e is e_end) xs n a b c wanted i h less later = later n (omega (arith, i, h))

-- where each item counts as it should, the components of the object at a place stand at its number
pub components_at_number : (whole s : Scope) (all : List BodyItemTree) (k : ℕ) (d : ProtectedTree)
    → ((j : ℕ) (i : BodyItemTree) → slice_get all j ≡ Some i → CountsNext (scope_at s all j) i)
    → slice_get all k ≡ Some (OfItem (OfProtected d))
    → (n : ℕ) → protected_count (scope_at s all k) ≡ protected_count s + n
    → slice_get (components_among whole (items_among all)) n ≡ Some (map (component whole) d.components)
components_at_number whole s [] k d counts at n h = cc
components_at_number whole s (x ∷ xs) zero d counts at n h =
    let zero_ : n ≡ 0 = omega (arith, h) in
    ap (λ z. slice_get (components_among whole (items_among (z ∷ xs))) n) (same_some x (OfItem (OfProtected d)) at)
    ∙ ap (slice_get (components_among whole (items_among (OfItem (OfProtected d) ∷ xs)))) zero_
components_at_number whole s (x ∷ xs) (suc k) d counts at n h =
    let next : Scope = body_item_scope s x in
    let first = counts 0 x refl in
    let grown = grows_at next xs 0 k in
    let same : 0 + k ≡ k = omega arith in
    let places_ = ap (λ m. protected_count (scope_at next xs m)) same in
    first_item whole x xs n (protected_count s) (protected_count next) (protected_count (scope_at next xs k))
    (Some (map (component whole) d.components)) first h
    (omega (arith, grown, places_))
    (λ m i. components_at_number whole next xs k d (λ j y there. counts (suc j) y there) at m i)
