-- Names behind those of a scope whose protected object is hidden, profiles that move with their subtypes, and the numbers of protected objects.
use Rattle.std.proofs.Common.{◌≡◌, ◌≤◌, ℕ, zero, suc, ◌+◌, List, [], ◌∷◌, ◌++◌, drop, map, take, Bool, true, false, cond, ◌⊎◌, inl, inr, Option, Some, None, refl, sym, ap, ◌∙◌, subst, arith}
use Rattle.std.specs.Prelude.{bytes_eq, option_map, slice_get}
use Rattle.expr_soundness.specs.ada_tree.specs.declared.expression.Identifier.{Identifier}
use Rattle.expr_soundness.specs.ada_tree.specs.declared.declaration.Formal.{Formal}
use Rattle.expr_soundness.specs.ada_tree.specs.ProgramTree.{BodyItemTree, OfItem, SubprogramBody, TaskBody, ProtectedBody, OfType, OfObject, OfException, OfSubprogram, OfTask, OfProtected, ProtectedItemTree, OperationBody, EntryBody}
use Rattle.types.specs.declared.entity.RecordComponent.{RecordComponent}
use Rattle.types.specs.declared.entity.Subtype.{Subtype}
use Rattle.types.specs.declared.entity.FormalParameter.{FormalParameter}
use Rattle.types.specs.Entities.{Entity, Operation, Profile, ProtectedObject, Protected}
use Rattle.types.specs.Scopes.{Named, Scope, changed_at, is_visible, offering, one_if_protected, protected_count, with_name, with_operations}
use Rattle.types.specs.Places.{or_else}
use Rattle.expr_soundness.specs.type_rules.specs.SubtypeNames.{subtype_in, subtype_of}
use Rattle.expr_soundness.specs.type_rules.specs.ProfileRules.{formal_and, formal_parameters, given_profile, profile_with}
use Rattle.declaration_rules.specs.ProtectedRules.{object_with}
use Rattle.expr_soundness.specs.expr_rules.proofs.TypedLaw.{back_empty, front_empty}
use Rattle.declaration_rules.specs.PackageNames.{body_item_scope, body_items_scope}
use Rattle.unit_rules.specs.ProtectedBodyRules.{protected_item_faults, protected_item_scope, protected_items_faults, protected_items_scope}
use Rattle.program_soundness.specs.Fronts.{scope_at}
use Rattle.program_soundness.proofs.Listing.{same_some, taken_further}
use Rattle.program_soundness.proofs.WiderScopes.{found_in, stands, stands_found}
use Rattle.program_soundness.proofs.BodyProfiles.{first_formal, profile_formals, profile_none, profile_some}
use Rattle.program_soundness.proofs.Walked.{kind, scope_both}

-- ---- profiles

abbrev pub KeepsTypes : Scope → Scope → Type 0
KeepsTypes s u = (name : Identifier) (t : Subtype) → subtype_of s name ≡ Some t → subtype_of u name ≡ Some t

pub formals_moved : (s u : Scope) → KeepsTypes s u → (fs : List Formal) (ps : List FormalParameter) → formal_parameters s fs ≡ Some ps
    → formal_parameters u fs ≡ Some ps
formals_moved s u keeps [] ps h = h
formals_moved s u keeps (f ∷ fs) ps h =
    let x = first_formal s f fs ps h in
    (λ j. formal_and f (keeps f.subtype x.subtype x.named j) (formals_moved s u keeps fs x.rest x.further j)) ∙ ap Some (sym x.is)

pub profile_moved : (s u : Scope) → KeepsTypes s u → (fs : List Formal) (r : Option Identifier) (p : Profile)
    → profile_with s (formal_parameters s fs) r ≡ Some p
    → profile_with u (formal_parameters u fs) r ≡ Some p
profile_moved s u keeps fs None p h =
    let formals = profile_formals s (formal_parameters s fs) None p h in
    let result = profile_none s (formal_parameters s fs) p h in
    ap (λ o. profile_with u o None) (formals_moved s u keeps fs p.formals formals) ∙ (λ j. Some (record { formals = p.formals; result = sym result j }))
profile_moved s u keeps fs (Some name) p h =
    let formals = profile_formals s (formal_parameters s fs) (Some name) p h in
    let result = profile_some s (formal_parameters s fs) name p h in
    ap (λ o. profile_with u o (Some name)) (formals_moved s u keeps fs p.formals formals)
    ∙ ap (given_profile p.formals) (keeps name result.0 result.1)
    ∙ (λ j. Some (record { formals = p.formals; result = sym result.2 j }))

-- ---- an object without operations behind its name

found_changed : (s : Scope) (n : ℕ) (change : Entity → Entity) (name : List ℕ)
    → (found_in (changed_at s n change) name ≡ found_in s name) ⊎ (found_in (changed_at s n change) name ≡ option_map change (found_in s name))
found_changed [] n change name = inl refl
found_changed (x ∷ rest) zero change name = by_test (bytes_eq name x.name)
  where
    by_test : (b : Bool) → (or_else (cond b (Some (change x.entity)) None) (found_in rest name) ≡ or_else (cond b (Some x.entity) None) (found_in rest name))
        ⊎ (or_else (cond b (Some (change x.entity)) None) (found_in rest name) ≡ option_map change (or_else (cond b (Some x.entity) None) (found_in rest name)))
    by_test true = inr refl
    by_test false = inl refl
found_changed (x ∷ rest) (suc n) change name = by_test (bytes_eq name x.name) (found_changed rest n change name)
  where
    by_test : (b : Bool)
        → (found_in (changed_at rest n change) name ≡ found_in rest name) ⊎ (found_in (changed_at rest n change) name ≡ option_map change (found_in rest name))
        → (or_else (cond b (Some x.entity) None) (found_in (changed_at rest n change) name) ≡ or_else (cond b (Some x.entity) None) (found_in rest name))
        ⊎
        (or_else (cond b (Some x.entity) None) (found_in (changed_at rest n change) name) ≡ option_map change (or_else (cond b (Some x.entity) None) (found_in rest name)))
    by_test true h = inl refl
    by_test false h = h

pub stands_hidden : (s : Scope) (n : ℕ) (name : List ℕ)
    → (stands (with_operations s n []) name ≡ stands s name) ⊎ (stands (with_operations s n []) name ≡ option_map (offering []) (stands s name))
stands_hidden s n name = elim (found_changed s n (offering []) name) [
  | inl h ↦ inl (stands_found (with_operations s n []) name ∙ h ∙ sym (stands_found s name))
  | inr h ↦ inr (stands_found (with_operations s n []) name ∙ h ∙ ap (option_map (offering [])) (sym (stands_found s name)))
]

-- what stands there stood in front, but for operations
pub record IsHidden (s : Scope) (name : List ℕ) (e : Entity) : Type 0 where
  pub before : Entity
  pub stands_ : stands s name ≡ Some before
  pub same : (before ≡ e) ⊎ (offering [] before ≡ e)

pub hidden_stands : (s : Scope) (n : ℕ) (name : List ℕ) (e : Entity) → stands (with_operations s n []) name ≡ Some e → IsHidden s name e
hidden_stands s n name e h = by_case (stands_hidden s n name)
  where
    by_some : (o : Option Entity) → stands s name ≡ o → option_map (offering []) o ≡ Some e → IsHidden s name e
    by_some (Some x) i k = record { before = x; stands_ = i; same = inr (same_some (offering [] x) e k) }
    by_some None i k = cc

    by_case : (stands (with_operations s n []) name ≡ stands s name) ⊎ (stands (with_operations s n []) name ≡ option_map (offering []) (stands s name))
        → IsHidden s name e
    by_case (inl i) = record { before = e; stands_ = sym i ∙ h; same = inl refl }
    by_case (inr i) = by_some (stands s name) refl (sym i ∙ h)

pub hidden_none : (s : Scope) (n : ℕ) (name : List ℕ) → stands s name ≡ None → stands (with_operations s n []) name ≡ None
hidden_none s n name h = elim (stands_hidden s n name) [ inl i ↦ i ∙ h | inr i ↦ i ∙ ap (option_map (offering [])) h ]

pub offering_kind : (e : Entity) → kind (offering [] e) ≡ kind e
offering_kind (Protected o) = refl
offering_kind e = refl

pub offering_subtype : (e : Entity) → subtype_in (Some (offering [] e)) ≡ subtype_in (Some e)
offering_subtype (Protected o) = refl
offering_subtype e = refl

-- ---- numbers of protected objects

count_push : (s : Scope) (x : Named) → protected_count (s ++ x ∷ []) ≡ protected_count s + one_if_protected x.entity
count_push [] x = omega arith
count_push (y ∷ ys) x = let e = count_push ys x in omega (arith, e)

grows_with : (s : Scope) (name : List ℕ) (e : Entity) → protected_count s ≤ protected_count (with_name s name e)
grows_with s name e = by_test (is_visible s name)
  where
    by_test : (b : Bool) → protected_count s ≤ protected_count (cond b s (s ++ record { name = name; entity = e } ∷ []))
    by_test true = omega arith
    by_test false = let i = count_push s (record { name = name; entity = e }) in omega (arith, i)

pub counted_with : (s : Scope) (name : List ℕ) (o : ProtectedObject) → is_visible s name ≡ false
    → protected_count (with_name s name (Protected o)) ≡ suc (protected_count s)
counted_with s name o unseen =
    let e = ap (λ b. protected_count (cond b s (s ++ record { name = name; entity = Protected o } ∷ []))) unseen in
    let i = count_push s (record { name = name; entity = Protected o }) in omega (arith, e, i)

grows_next : (s : Scope) (i : BodyItemTree) → protected_count s ≤ protected_count (body_item_scope s i)
grows_next s (OfItem (OfType d)) = grows_with s d.name.name _
grows_next s (OfItem (OfObject d)) = grows_with s d.name.name _
grows_next s (OfItem (OfException name)) = grows_with s name.name _
grows_next s (OfItem (OfSubprogram d)) = grows_with s d.name.name _
grows_next s (OfItem (OfTask d)) = grows_with s d.name.name _
grows_next s (OfItem (OfProtected d)) = grows_with s d.name.name _
grows_next s (SubprogramBody d b) = grows_with s d.name.name _
grows_next s (TaskBody name b) = omega arith
grows_next s (ProtectedBody name items end_name) = omega arith

grows_all : (s : Scope) (is : List BodyItemTree) → protected_count s ≤ protected_count (body_items_scope s is)
grows_all s [] = omega arith
grows_all s (i ∷ is) =
    let one = grows_next s i in
    let rest = grows_all (body_item_scope s i) is in omega (arith, one, rest)

pub grows_at : (s : Scope) (all : List BodyItemTree) (k m : ℕ) → protected_count (scope_at s all k) ≤ protected_count (scope_at s all (k + m))
grows_at s all k m =
    let e : scope_at s all (k + m) ≡ body_items_scope (scope_at s all k) (take m (drop k all)) =
    ap (body_items_scope s) (taken_further all k m) ∙ scope_both s (take k all) (take m (drop k all)) in
    subst (λ u. protected_count (scope_at s all k) ≤ protected_count u) (sym e) (grows_all (scope_at s all k) (take m (drop k all)))

pub object_parts : (number ceiling : ℕ) (a : Option (List Operation)) (b : Option (List RecordComponent)) (o : ProtectedObject)
    → object_with number ceiling a b ≡ Protected o
    → (a ≡ Some o.operations) × (b ≡ Some o.components) × (number ≡ o.number)
object_parts number ceiling (Some operations) (Some components) o h =
    let x : ProtectedObject = record { number = number; ceiling = ceiling; operations = operations; components = components; barrier = None } in
    let f : Entity → ProtectedObject = λ e. elim e [ Protected y ↦ y | z ↦ x ] in
    let same = ap f h in (ap (λ y. Some y.operations) same, ap (λ y. Some y.components) same, ap (λ y. y.number) same)
object_parts number ceiling (Some operations) None o h = cc
object_parts number ceiling None b o h = cc

-- ---- the operations in the body of an object, as items of a package

abbrev pub as_item : ProtectedItemTree → BodyItemTree
as_item (OperationBody d b) = SubprogramBody d b
as_item (EntryBody d barrier b) = TaskBody d.name b

one_scope : (s : Scope) (i : ProtectedItemTree) → protected_item_scope s i ≡ body_item_scope s (as_item i)
one_scope s (OperationBody d b) = refl
one_scope s (EntryBody d barrier b) = refl

pub items_scope_is : (s : Scope) (is : List ProtectedItemTree) → protected_items_scope s is ≡ body_items_scope s (map as_item is)
items_scope_is s [] = refl
items_scope_is s (OperationBody d b ∷ is) = items_scope_is (protected_item_scope s (OperationBody d b)) is
items_scope_is s (EntryBody d barrier b ∷ is) = items_scope_is s is

pub item_legal_at : (s : Scope) (components : List RecordComponent) (is : List ProtectedItemTree) (k : ℕ) (i : ProtectedItemTree) → slice_get is k ≡ Some i
    → protected_items_faults s components is ≡ [] → protected_item_faults (scope_at s (map as_item is) k) components i ≡ []
item_legal_at s components [] k i at h = cc
item_legal_at s components (x ∷ xs) zero i at h =
    subst (λ y. protected_item_faults s components y ≡ []) (same_some x i at)
    (front_empty (protected_item_faults s components x) (protected_items_faults (protected_item_scope s x) components xs) h)
item_legal_at s components (x ∷ xs) (suc k) i at h =
    let rest = back_empty (protected_item_faults s components x) (protected_items_faults (protected_item_scope s x) components xs) h in
    let same = one_scope s x in
    subst (λ u. protected_item_faults (scope_at u (map as_item xs) k) components i ≡ []) same
    (item_legal_at (protected_item_scope s x) components xs k i at rest)
