-- What the declaration of a protected object that breaks no rule says of its operations and components, and of the names between it and its body.
use Rattle.std.proofs.Common.{◌≡◌, ◌<◌, ℕ, zero, suc, List, [], ◌∷◌, ◌++◌, Bool, true, false, cond, ◌||◌, Option, Some, None, refl, sym, ap, ◌∙◌, subst, arith}
use Rattle.std.specs.Prelude.{bytes_eq, slice_get}
use Rattle.expr_soundness.specs.ada_tree.specs.declared.expression.Identifier.{Identifier}
use Rattle.expr_soundness.specs.ada_tree.specs.StatementTree.{OperationTree, ProtectedComponentTree, ProtectedTree}
use Rattle.expr_soundness.specs.ada_tree.specs.ProgramTree.{BodyItemTree}
use Rattle.types.specs.declared.entity.RecordComponent.{RecordComponent}
use Rattle.types.specs.declared.entity.Subtype.{Subtype}
use Rattle.types.specs.Entities.{Entity, Object, Operation, Profile}
use Rattle.types.specs.Scopes.{Named, Scope, is_visible, with_name}
use Rattle.types.specs.Places.{or_else}
use Rattle.types.proofs.Seeing.{either_way}
use Rattle.expr_soundness.specs.expr_rules.specs.Faults.{Faults}
use Rattle.expr_soundness.specs.expr_rules.proofs.TypedLaw.{back_empty, front_empty, unbroken}
use Rattle.expr_soundness.specs.type_rules.specs.SubtypeNames.{subtype_of}
use Rattle.declaration_rules.specs.BodyNames.{component_role, components_scope, operation_entity, operations_scope}
use Rattle.declaration_rules.specs.ProtectedRules.{is_component_in, is_component_like, is_entry, is_operation_in, is_operation_like, object_components, object_operations, operation_and, operation_faults, operation_name, operation_profile, operation_profile_faults, operations_faults, part_and, part_faults, parts_faults, protected_faults}
use Rattle.legality.specs.LikeNames.{between_faults, is_its_body, item_like_faults}
use Rattle.program_soundness.proofs.Listing.{same_some}
use Rattle.program_soundness.proofs.WiderScopes.{found_in, same_bytes, stands, unseen_none, with_all}

either_false : (a b : Bool) → (a || b) ≡ false → (a ≡ false) × (b ≡ false)
either_false true b h = cc
either_false false b h = (refl, h)

-- ---- the names that the body of an object sees

abbrev pub operation_named : Operation → Named
operation_named o = record { name = o.name; entity = operation_entity o }

abbrev pub operations_named : List Operation → List Named
operations_named [] = []
operations_named (o ∷ os) = operation_named o ∷ operations_named os

abbrev pub component_named : Bool → RecordComponent → Named
component_named is_function c = record { name = c.name; entity = Object (component_role is_function) c.subtype }

abbrev pub components_named : Bool → List RecordComponent → List Named
components_named is_function [] = []
components_named is_function (c ∷ cs) = component_named is_function c ∷ components_named is_function cs

pub operations_all : (s : Scope) (os : List Operation) → operations_scope s os ≡ with_all s (operations_named os)
operations_all s [] = refl
operations_all s (o ∷ os) = operations_all (with_name s o.name (operation_entity o)) os

pub components_all : (s : Scope) (b : Bool) (cs : List RecordComponent) → components_scope s b cs ≡ with_all s (components_named b cs)
components_all s b [] = refl
components_all s b (c ∷ cs) = components_all (with_name s c.name (Object (component_role b) c.subtype)) b cs

pub component_object : (b : Bool) (cs : List RecordComponent) (name : List ℕ) (e : Entity) → found_in (components_named b cs) name ≡ Some e
    → (t : Subtype) × (e ≡ Object (component_role b) t)
component_object b [] name e h = cc
component_object b (c ∷ cs) name e h = by_test (bytes_eq name c.name) h (λ k. component_object b cs name e k)
  where
    by_test : (t : Bool) → or_else (cond t (Some (Object (component_role b) c.subtype)) None) (found_in (components_named b cs) name) ≡ Some e
        → (found_in (components_named b cs) name ≡ Some e → (u : Subtype) × (e ≡ Object (component_role b) u))
        → (u : Subtype) × (e ≡ Object (component_role b) u)
    by_test true k later = (c.subtype, sym (same_some (Object (component_role b) c.subtype) e k))
    by_test false k later = later k

-- ---- the operations as they are declared

pub record IsDeclared (s : Scope) (operations : List OperationTree) (k : ℕ) (o : Operation) : Type 0 where
  pub tree : OperationTree
  pub at : slice_get operations k ≡ Some tree
  pub named : o.name ≡ (operation_name tree).name
  pub kind : o.is_entry ≡ is_entry tree
  pub profile : operation_profile s tree ≡ Some o.profile

pub record HasTwo (s : Scope) (t : OperationTree) (ts : List OperationTree) (os : List Operation) : Type 0 where
  pub profile : Profile
  pub rest : List Operation
  pub own : operation_profile s t ≡ Some profile
  pub further : object_operations s ts ≡ Some rest
  pub is : os ≡ record { name = (operation_name t).name; is_entry = is_entry t; profile = profile } ∷ rest

pub first_operation : (s : Scope) (t : OperationTree) (ts : List OperationTree) (os : List Operation) → object_operations s (t ∷ ts) ≡ Some os → HasTwo s t ts os
first_operation s t ts os h = by_parts (operation_profile s t) (object_operations s ts) refl refl h
  where
    by_parts : (p : Option Profile) (r : Option (List Operation)) → operation_profile s t ≡ p → object_operations s ts ≡ r → operation_and t p r ≡ Some os
        → HasTwo s t ts os
    by_parts (Some p) (Some r) i k e =
        record { profile = p; rest = r; own = i; further = k; is = sym (same_some (record { name = (operation_name t).name; is_entry = is_entry t; profile = p } ∷ r) os e) }
    by_parts (Some p) None i k e = cc
    by_parts None r i k e = cc

pub operation_declared : (s : Scope) (ts : List OperationTree) (os : List Operation) (k : ℕ) (o : Operation) → object_operations s ts ≡ Some os
    → slice_get os k ≡ Some o → IsDeclared s ts k o
operation_declared s [] os k o h at = let bad : slice_get [] k ≡ Some o = ap (λ l. slice_get l k) (same_some [] os h) ∙ at in cc
operation_declared s (t ∷ ts) os zero o h at =
    let x = first_operation s t ts os h in
    let is : record { name = (operation_name t).name; is_entry = is_entry t; profile = x.profile } ≡ o =
    same_some _ o (ap (λ l. slice_get l 0) (sym x.is) ∙ at) in
    record {
      tree = t;
      at = refl;
      named = sym (ap (λ y. y.name) is);
      kind = sym (ap (λ y. y.is_entry) is);
      profile = x.own ∙ ap (λ y. Some y.profile) is;
    }
operation_declared s (t ∷ ts) os (suc k) o h at =
    let x = first_operation s t ts os h in
    let rest = operation_declared s ts x.rest k o x.further (ap (λ l. slice_get l (suc k)) (sym x.is) ∙ at) in
    record { tree = rest.tree; at = rest.at; named = rest.named; kind = rest.kind; profile = rest.profile }

-- the first operation of a name
pub found_operation : (os : List Operation) (name : List ℕ) (e : Entity) → found_in (operations_named os) name ≡ Some e
    → (k : ℕ) × (o : Operation) × (slice_get os k ≡ Some o) × (o.name ≡ name) × (operation_entity o ≡ e)
found_operation [] name e h = cc
found_operation (o ∷ os) name e h = by_test (bytes_eq name o.name) refl h (λ k. found_operation os name e k)
  where
    by_test : (b : Bool) → bytes_eq name o.name ≡ b → or_else (cond b (Some (operation_entity o)) None) (found_in (operations_named os) name) ≡ Some e
        → (found_in (operations_named os) name ≡ Some e → (k : ℕ) × (x : Operation) × (slice_get os k ≡ Some x) × (x.name ≡ name) × (operation_entity x ≡ e))
        → (k : ℕ) × (x : Operation) × (slice_get (o ∷ os) k ≡ Some x) × (x.name ≡ name) × (operation_entity x ≡ e)
    by_test true i k later = (0, o, refl, sym (same_bytes name o.name i), same_some (operation_entity o) e k)
    by_test false i k later = let n = later k in (suc n.0, n.1, n.2, n.3, n.4)

-- ---- the components as they are declared

pub record HasPart (s : Scope) (c : ProtectedComponentTree) (cs : List ProtectedComponentTree) (parts : List RecordComponent) : Type 0 where
  pub subtype : Subtype
  pub rest : List RecordComponent
  pub own : subtype_of s c.subtype ≡ Some subtype
  pub further : object_components s cs ≡ Some rest
  pub is : parts ≡ record { name = c.name.name; subtype = subtype } ∷ rest

pub first_part : (s : Scope) (c : ProtectedComponentTree) (cs : List ProtectedComponentTree) (parts : List RecordComponent)
    → object_components s (c ∷ cs) ≡ Some parts → HasPart s c cs parts
first_part s c cs parts h = by_parts (subtype_of s c.subtype) (object_components s cs) refl refl h
  where
    by_parts : (t : Option Subtype) (r : Option (List RecordComponent)) → subtype_of s c.subtype ≡ t → object_components s cs ≡ r → part_and c t r ≡ Some parts
        → HasPart s c cs parts
    by_parts (Some t) (Some r) i k e =
        record { subtype = t; rest = r; own = i; further = k; is = sym (same_some (record { name = c.name.name; subtype = t } ∷ r) parts e) }
    by_parts (Some t) None i k e = cc
    by_parts None r i k e = cc

-- a name that no component has is not found among them
pub no_part : (s : Scope) (b : Bool) (cs : List ProtectedComponentTree) (parts : List RecordComponent) (name : List ℕ) → object_components s cs ≡ Some parts
    → is_component_in cs name ≡ false → found_in (components_named b parts) name ≡ None
no_part s b [] parts name h none = ap (λ l. found_in (components_named b l) name) (sym (same_some [] parts h))
no_part s b (c ∷ cs) parts name h none =
    let x = first_part s c cs parts h in
    let two = either_false (bytes_eq c.name.name name) (is_component_in cs name) none in
    let other : bytes_eq name c.name.name ≡ false = either_way name c.name.name ∙ two.0 in
    ap (λ l. found_in (components_named b l) name) x.is
    ∙ (λ j. or_else (cond (other j) (Some (Object (component_role b) x.subtype)) None) (no_part s b cs x.rest name x.further two.1 j))

-- ---- rules of operations

pub record IsLegalOperation (s : Scope) (own : Identifier) (t : OperationTree) : Type 0 where
  pub unseen : stands s (operation_name t).name ≡ None
  pub other : bytes_eq own.name (operation_name t).name ≡ false

operation_legal_from : (s : Scope) (own : Identifier) (before ts : List OperationTree) (k : ℕ) (t : OperationTree) → operations_faults s own before ts ≡ []
    → slice_get ts k ≡ Some t → IsLegalOperation s own t
operation_legal_from s own before [] k t h at = cc
operation_legal_from s own before (x ∷ xs) zero t h at =
    let one = front_empty (operation_faults s own before x) (operations_faults s own (before ++ x ∷ []) xs) h in
    let names = unbroken _ (operation_name x).place _ (front_empty _ (operation_profile_faults s x) one) in
    subst (IsLegalOperation s own) (same_some x t at) (legal_by names)
  where
    legal_by : is_operation_like s own before (operation_name x).name ≡ false → IsLegalOperation s own x
    legal_by h =
        let front =
        either_false (is_visible s (operation_name x).name || bytes_eq own.name (operation_name x).name)
        (is_operation_in before (operation_name x).name) h in
        let two = either_false (is_visible s (operation_name x).name) (bytes_eq own.name (operation_name x).name) front.0 in
        record { unseen = unseen_none s (operation_name x).name two.0; other = two.1 }
operation_legal_from s own before (x ∷ xs) (suc k) t h at =
    operation_legal_from s own (before ++ x ∷ []) xs k t (back_empty (operation_faults s own before x) (operations_faults s own (before ++ x ∷ []) xs) h) at

module _ (s : Scope) (d : ProtectedTree) (legal : protected_faults s d ≡ []) where
  pub operations_legal : operations_faults s d.name [] d.operations ≡ []
  operations_legal =
      back_empty _ (operations_faults s d.name [] d.operations)
      (front_empty _ (parts_faults s d.name d.operations [] d.components) (front_empty _ _ (front_empty _ _ legal)))

  pub parts_legal : parts_faults s d.name d.operations [] d.components ≡ []
  parts_legal = back_empty _ (parts_faults s d.name d.operations [] d.components) (front_empty _ _ (front_empty _ _ legal))

  pub operation_legal : (k : ℕ) (t : OperationTree) → slice_get d.operations k ≡ Some t → IsLegalOperation s d.name t
  operation_legal k t at = operation_legal_from s d.name [] d.operations k t operations_legal at

pub record IsLegalPart (s : Scope) (own : Identifier) (ts : List OperationTree) (c : ProtectedComponentTree) : Type 0 where
  pub unseen : stands s c.name.name ≡ None
  pub other : bytes_eq own.name c.name.name ≡ false
  pub apart : is_operation_in ts c.name.name ≡ false

pub part_legal_from : (s : Scope) (own : Identifier) (ts : List OperationTree) (before cs : List ProtectedComponentTree) (k : ℕ) (c : ProtectedComponentTree)
    → parts_faults s own ts before cs ≡ [] → slice_get cs k ≡ Some c → IsLegalPart s own ts c
part_legal_from s own ts before [] k c h at = cc
part_legal_from s own ts before (x ∷ xs) zero c h at =
    let one = front_empty (part_faults s own ts before x) (parts_faults s own ts (before ++ x ∷ []) xs) h in
    let names = unbroken _ x.name.place (is_component_like s own ts before x.name.name) (front_empty _ _ (front_empty _ _ one)) in
    subst (IsLegalPart s own ts) (same_some x c at)
    (legal_by (either_false (is_operation_like s own ts x.name.name) (is_component_in before x.name.name) names).0)
  where
    legal_by : is_operation_like s own ts x.name.name ≡ false → IsLegalPart s own ts x
    legal_by h =
        let front = either_false (is_visible s x.name.name || bytes_eq own.name x.name.name) (is_operation_in ts x.name.name) h in
        let two = either_false (is_visible s x.name.name) (bytes_eq own.name x.name.name) front.0 in
        record { unseen = unseen_none s x.name.name two.0; other = two.1; apart = front.1 }
part_legal_from s own ts before (x ∷ xs) (suc k) c h at =
    part_legal_from s own ts (before ++ x ∷ []) xs k c (back_empty (part_faults s own ts before x) (parts_faults s own ts (before ++ x ∷ []) xs) h) at

-- ---- between the object and its body

not_its : (d : ProtectedTree) (x : BodyItemTree) (xs : List BodyItemTree) → is_its_body d x ≡ false → between_faults d (x ∷ xs) ≡ []
    → item_like_faults d x ++ between_faults d xs ≡ []
not_its d x xs other h = by_test (is_its_body d x) other h
  where
    by_test : (b : Bool) → b ≡ false → ◌≡◌ {A = Faults} (elim b [ true ↦ [] | false ↦ item_like_faults d x ++ between_faults d xs ]) []
        → item_like_faults d x ++ between_faults d xs ≡ []
    by_test true e k = cc
    by_test false e k = k

pub between_at : (d : ProtectedTree) (rest : List BodyItemTree) (k : ℕ) (i : BodyItemTree) → between_faults d rest ≡ [] → slice_get rest k ≡ Some i
    → ((j : ℕ) (x : BodyItemTree) → j < suc k → slice_get rest j ≡ Some x → is_its_body d x ≡ false) → item_like_faults d i ≡ []
between_at d [] k i h at other = cc
between_at d (x ∷ xs) zero i h at other =
    let one = not_its d x xs (other 0 x (omega arith) refl) h in
    subst (λ y. item_like_faults d y ≡ []) (same_some x i at) (front_empty (item_like_faults d x) (between_faults d xs) one)
between_at d (x ∷ xs) (suc k) i h at other =
    let one = not_its d x xs (other 0 x (omega arith) refl) h in
    between_at d xs k i (back_empty (item_like_faults d x) (between_faults d xs) one) at (λ j y l there. other (suc j) y (omega (arith, l)) there)
