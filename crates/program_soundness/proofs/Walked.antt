-- The declarations and bodies of a package one by one: what each makes visible, behind the names in front of it, and which of them made a name visible.
use Rattle.std.proofs.Common.{◌≡◌, ℕ, zero, suc, List, [], ◌∷◌, ◌++◌, take, drop, Bool, true, false, cond, ◌⊎◌, inl, inr, Option, Some, None, refl, sym, ap, ◌∙◌, subst}
use Rattle.std.specs.Prelude.{slice_get, ⊤, bytes_eq}
use Rattle.std.proofs.lemmas.List.{take-append-drop}
use Rattle.expr_soundness.specs.base.specs.declared.limits.TheConstants.{TASK_PRIORITY}
use Rattle.expr_soundness.specs.ada_tree.specs.StatementTree.{SubprogramTree}
use Rattle.expr_soundness.specs.ada_tree.specs.ProgramTree.{BodyItemTree, OfItem, SubprogramBody, TaskBody, ProtectedBody, DefinitionTree, Integer, Array, Record, Subtype as SubtypeOf, ItemTree, OfType, OfObject, OfException, OfSubprogram, OfTask, OfProtected}
use Rattle.types.specs.declared.entity.RecordComponent.{RecordComponent}
use Rattle.types.specs.declared.entity.Role.TheVariants as role
use Rattle.types.specs.declared.entity.Subtype.{Subtype}
use Rattle.types.specs.declared.entity.Value.{Value as Scalar}
use Rattle.types.specs.Entities.{Entity, Operation, Profile, Constant, Doubtful, Entry, Exception, LibraryUnit, Literal, Object, Predefined, Protected, Put, Subprogram, Task}
use Rattle.types.specs.Entities as entity
use Rattle.types.specs.Places.{or_else}
use Rattle.types.specs.Scopes.{Named, Scope, is_visible}
use Rattle.expr_soundness.specs.expr_rules.proofs.TypedLaw.{back_empty, front_empty, unbroken}
use Rattle.expr_soundness.specs.type_rules.specs.SubtypeNames.{declared_twice, if_integer, subtype_of}
use Rattle.expr_soundness.specs.type_rules.specs.ObjectRules.{constant_entity, initial_scalar, object_entity, package_object_entity}
use Rattle.expr_soundness.specs.type_rules.specs.ProfileRules.{formal_parameters, profile_entity, profile_with}
use Rattle.expr_soundness.specs.type_rules.specs.TypeRules.{array_entity, composite, definition_entity, index_subtype, integer_entity, narrowed, record_components, record_entity, short_length, subtype_entity}
use Rattle.declaration_rules.specs.ItemRules.{item_faults}
use Rattle.declaration_rules.specs.ProtectedRules.{object_components, object_operations, object_with, protected_entity}
use Rattle.declaration_rules.specs.TaskRules.{default_priority, priority_of}
use Rattle.unit_rules.specs.MainRules.{item_name}
use Rattle.declaration_rules.specs.PackageNames.{body_item_scope, body_items_scope}
use Rattle.unit_rules.specs.PackageBodyRules.{body_item_faults, body_items_faults}
use Rattle.program_soundness.specs.Fronts.{scope_at}
use Rattle.program_soundness.proofs.Listing.{first_some, or_else_none, or_else_some, same_some}
use Rattle.program_soundness.proofs.WiderScopes.{one_named, same_bytes, stands, stands_with}

-- ---- what each makes visible

abbrev pub own_profile : Scope → SubprogramTree → Option Profile
own_profile s d = profile_with s (formal_parameters s d.formals) d.result

abbrev pub item_entity : Scope → ItemTree → Entity
item_entity s (OfType d) = definition_entity s d.definition
item_entity s (OfObject d) = package_object_entity s d
item_entity s (OfException name) = Exception
item_entity s (OfSubprogram d) = profile_entity (own_profile s d)
item_entity s (OfTask d) = Task (priority_of s TASK_PRIORITY default_priority d.aspect)
item_entity s (OfProtected d) = protected_entity s d

abbrev pub declares : Scope → BodyItemTree → Option Named
declares s (OfItem d) = Some (record { name = (item_name d).name; entity = item_entity s d })
declares s (SubprogramBody d b) = Some (record { name = d.name.name; entity = profile_entity (own_profile s d) })
declares s (TaskBody name b) = None
declares s (ProtectedBody name items end_name) = None

abbrev pub one_of : Option Named → List ℕ → Option Entity
one_of (Some x) name = one_named x name
one_of None name = None

pub stands_next : (s : Scope) (i : BodyItemTree) (name : List ℕ) → stands (body_item_scope s i) name ≡ or_else (stands s name) (one_of (declares s i) name)
stands_next s (OfItem (OfType d)) name = stands_with s d.name.name (definition_entity s d.definition) name
stands_next s (OfItem (OfObject d)) name = stands_with s d.name.name (package_object_entity s d) name
stands_next s (OfItem (OfException own)) name = stands_with s own.name Exception name
stands_next s (OfItem (OfSubprogram d)) name = stands_with s d.name.name (profile_entity (own_profile s d)) name
stands_next s (OfItem (OfTask d)) name = stands_with s d.name.name (Task (priority_of s TASK_PRIORITY default_priority d.aspect)) name
stands_next s (OfItem (OfProtected d)) name = stands_with s d.name.name (protected_entity s d) name
stands_next s (SubprogramBody d b) name = stands_with s d.name.name (profile_entity (own_profile s d)) name
stands_next s (TaskBody own b) name = sym (or_else_none (stands s name))
stands_next s (ProtectedBody own items end_name) name = sym (or_else_none (stands s name))

-- ---- the scope in front of each

pub scope_both : (s : Scope) (xs ys : List BodyItemTree) → body_items_scope s (xs ++ ys) ≡ body_items_scope (body_items_scope s xs) ys
scope_both s [] ys = refl
scope_both s (x ∷ xs) ys = scope_both (body_item_scope s x) xs ys

pub scope_next : (s : Scope) (all : List BodyItemTree) (k : ℕ) (i : BodyItemTree) → slice_get all k ≡ Some i
    → scope_at s all (suc k) ≡ body_item_scope (scope_at s all k) i
scope_next s [] k i h = cc
scope_next s (x ∷ xs) zero i h = ap (body_item_scope s) (same_some x i h)
scope_next s (x ∷ xs) (suc k) i h = scope_next (body_item_scope s x) xs k i h

pub scope_behind : (s : Scope) (all : List BodyItemTree) (k : ℕ) → body_items_scope (scope_at s all k) (drop k all) ≡ body_items_scope s all
scope_behind s all k = sym (scope_both s (take k all) (drop k all)) ∙ ap (body_items_scope s) (take-append-drop k all)

pub legal_at : (s : Scope) (all : List BodyItemTree) (k : ℕ) (i : BodyItemTree) → slice_get all k ≡ Some i → body_items_faults s all ≡ []
    → body_item_faults (scope_at s all k) i ≡ []
legal_at s [] k i at h = cc
legal_at s (x ∷ xs) zero i at h =
    subst (λ y. body_item_faults s y ≡ []) (same_some x i at) (front_empty (body_item_faults s x) (body_items_faults (body_item_scope s x) xs) h)
legal_at s (x ∷ xs) (suc k) i at h = legal_at (body_item_scope s x) xs k i at (back_empty (body_item_faults s x) (body_items_faults (body_item_scope s x) xs) h)

-- ---- names stay visible

pub kept_next : (s : Scope) (i : BodyItemTree) (name : List ℕ) (e : Entity) → stands s name ≡ Some e → stands (body_item_scope s i) name ≡ Some e
kept_next s i name e h = stands_next s i name ∙ first_some (stands s name) (one_of (declares s i) name) e h

pub kept_all : (s : Scope) (all : List BodyItemTree) (name : List ℕ) (e : Entity) → stands s name ≡ Some e → stands (body_items_scope s all) name ≡ Some e
kept_all s [] name e h = h
kept_all s (i ∷ is) name e h = kept_all (body_item_scope s i) is name e (kept_next s i name e h)

pub kept_at : (s : Scope) (all : List BodyItemTree) (k : ℕ) (name : List ℕ) (e : Entity) → stands (scope_at s all k) name ≡ Some e
    → stands (body_items_scope s all) name ≡ Some e
kept_at s all k name e h = subst (λ u. stands u name ≡ Some e) (scope_behind s all k) (kept_all (scope_at s all k) (drop k all) name e h)

-- what an item makes visible, where its name is not visible yet
pub declared_kept : (s : Scope) (all : List BodyItemTree) (k : ℕ) (i : BodyItemTree) (name : List ℕ) (e : Entity) → slice_get all k ≡ Some i
    → stands (scope_at s all k) name ≡ None → one_of (declares (scope_at s all k) i) name ≡ Some e → stands (body_items_scope s all) name ≡ Some e
declared_kept s all k i name e at none one =
    kept_at s all (suc k) name e
    (ap (λ u. stands u name) (scope_next s all k i at)
    ∙ stands_next (scope_at s all k) i name
    ∙ ap (λ o. or_else o (one_of (declares (scope_at s all k) i) name)) none
    ∙ one)

-- ---- which of them made a name visible

pub record Origin (s : Scope) (all : List BodyItemTree) (name : List ℕ) (e : Entity) : Type 0 where
  pub place : ℕ
  pub item : BodyItemTree
  pub at : slice_get all place ≡ Some item
  pub unseen : stands (scope_at s all place) name ≡ None
  pub declared : declares (scope_at s all place) item ≡ Some (record { name = name; entity = e })

one_is : (o : Option Named) (name : List ℕ) (e : Entity) → one_of o name ≡ Some e → o ≡ Some (record { name = name; entity = e })
one_is None name e h = cc
one_is (Some x) name e h = by_test (bytes_eq name x.name) refl h
  where
    by_test : (b : Bool) → bytes_eq name x.name ≡ b → cond b (Some x.entity) None ≡ Some e → Some x ≡ Some (record { name = name; entity = e })
    by_test true i k =
        let named = sym (same_bytes name x.name i) in
        let is = same_some x.entity e k in λ j. Some (record { name = named j; entity = is j })
    by_test false i k = cc

pub origin : (s : Scope) (all : List BodyItemTree) (name : List ℕ) (e : Entity) → stands (body_items_scope s all) name ≡ Some e
    → (stands s name ≡ Some e) ⊎ Origin s all name e
origin s [] name e h = inl h
origin s (x ∷ xs) name e h = by_case (origin (body_item_scope s x) xs name e h)
  where
    here : (stands s name ≡ Some e) ⊎ ((stands s name ≡ None) × (one_of (declares s x) name ≡ Some e)) → (stands s name ≡ Some e) ⊎ Origin s (x ∷ xs) name e
    here (inl k) = inl k
    here (inr k) = inr (record { place = 0; item = x; at = refl; unseen = k.0; declared = one_is (declares s x) name e k.1 })

    by_case : (stands (body_item_scope s x) name ≡ Some e) ⊎ Origin (body_item_scope s x) xs name e → (stands s name ≡ Some e) ⊎ Origin s (x ∷ xs) name e
    by_case (inl k) = here (or_else_some (stands s name) (one_of (declares s x) name) e (sym (stands_next s x name) ∙ k))
    by_case (inr o) = inr (record { place = suc o.place; item = o.item; at = o.at; unseen = o.unseen; declared = o.declared })

-- ---- kinds of what is made visible

pub data Kind : Type 0 where
  Types Constants Variables Subprograms Entries Exceptions Tasks ProtectedOnes Others : Kind

abbrev pub kind : Entity → Kind
kind (entity.OfType form t) = Types
kind (entity.OfSubtype t) = Types
kind (Constant t v) = Constants
kind (Object r t) = Variables
kind (Subprogram p) = Subprograms
kind (Entry p) = Entries
kind Exception = Exceptions
kind (Task priority) = Tasks
kind (Protected o) = ProtectedOnes
kind (Literal b) = Others
kind (Predefined o p) = Others
kind Put = Others
kind LibraryUnit = Others
kind Doubtful = Others

-- of this kind, or doubtful
abbrev pub IsOne : Kind → Entity → Type 0
IsOne k Doubtful = ⊤
IsOne k e = kind e ≡ k

abbrev pub item_kind : ItemTree → Kind
item_kind (OfType d) = Types
item_kind (OfObject d) = cond d.constant Constants Variables
item_kind (OfException name) = Exceptions
item_kind (OfSubprogram d) = Subprograms
item_kind (OfTask d) = Tasks
item_kind (OfProtected d) = ProtectedOnes

abbrev pub body_item_kind : BodyItemTree → Kind
body_item_kind (OfItem d) = item_kind d
body_item_kind (SubprogramBody d b) = Subprograms
body_item_kind (TaskBody name b) = Others
body_item_kind (ProtectedBody name items end_name) = Others

sized_one : (s : Scope) (index component : Subtype) (o : Option ℕ)
    → IsOne Types (elim o [ Some n ↦ composite s (entity.Arrays index n component) | None ↦ Doubtful ])
sized_one s index component (Some n) = refl
sized_one s index component None = tt

array_one : (s : Scope) (index component : Option Subtype) → IsOne Types (array_entity s index component)
array_one s (Some index) (Some component) = sized_one s index component (short_length index)
array_one s (Some index) None = tt
array_one s None component = tt

record_one : (s : Scope) (o : Option (List RecordComponent)) → IsOne Types (record_entity s o)
record_one s (Some components) = refl
record_one s None = tt

integer_one : (o : Option Subtype) → IsOne Types (integer_entity o)
integer_one (Some t) = refl
integer_one None = tt

subtype_one : (o : Option Subtype) → IsOne Types (subtype_entity o)
subtype_one (Some t) = refl
subtype_one None = tt

type_one : (s : Scope) (d : DefinitionTree) → IsOne Types (definition_entity s d)
type_one s (Integer r) = integer_one _
type_one s (Array index component) = array_one s (index_subtype s index) (subtype_of s component)
type_one s (Record components) = record_one s (record_components s components)
type_one s (SubtypeOf name None) = subtype_one (subtype_of s name)
type_one s (SubtypeOf name (Some r)) = subtype_one (narrowed s (if_integer s (subtype_of s name)) r)

constant_one : (o : Option Subtype) (v : Option Scalar) → IsOne Constants (constant_entity o v)
constant_one (Some t) (Some v) = refl
constant_one (Some t) None = tt
constant_one None v = tt

object_one : (o : Option Subtype) → IsOne Variables (object_entity role.Variable o)
object_one (Some t) = refl
object_one None = tt

objects_one : (o : Option Subtype) (v : Option Scalar) (b : Bool)
    → IsOne (cond b Constants Variables) (elim b [ true ↦ constant_entity o v | false ↦ object_entity role.Variable o ])
objects_one o v true = constant_one o v
objects_one o v false = object_one o

profile_one : (o : Option Profile) → IsOne Subprograms (profile_entity o)
profile_one (Some p) = refl
profile_one None = tt

protected_one : (number ceiling : ℕ) (a : Option (List Operation)) (b : Option (List RecordComponent)) → IsOne ProtectedOnes (object_with number ceiling a b)
protected_one number ceiling (Some operations) (Some components) = refl
protected_one number ceiling (Some operations) None = tt
protected_one number ceiling None b = tt

item_one : (s : Scope) (d : ItemTree) → IsOne (item_kind d) (item_entity s d)
item_one s (OfType d) = type_one s d.definition
item_one s (OfObject d) = objects_one (subtype_of s d.subtype) (initial_scalar s (subtype_of s d.subtype) d.value) d.constant
item_one s (OfException name) = refl
item_one s (OfSubprogram d) = profile_one (own_profile s d)
item_one s (OfTask d) = refl
item_one s (OfProtected d) = protected_one _ _ (object_operations s d.operations) (object_components s d.components)

pub declared_one : (s : Scope) (i : BodyItemTree) (x : Named) → declares s i ≡ Some x → IsOne (body_item_kind i) x.entity
declared_one s (OfItem d) x h =
    subst (λ y. IsOne (item_kind d) y.entity) (same_some (record { name = (item_name d).name; entity = item_entity s d }) x h) (item_one s d)
declared_one s (SubprogramBody d b) x h =
    subst (λ y. IsOne Subprograms y.entity) (same_some (record { name = d.name.name; entity = profile_entity (own_profile s d) }) x h)
    (profile_one (own_profile s d))
declared_one s (TaskBody name b) x h = cc
declared_one s (ProtectedBody name items end_name) x h = cc

-- ---- an item that breaks no rule has a new name

pub item_new : (s : Scope) (d : ItemTree) → item_faults s d ≡ [] → is_visible s (item_name d).name ≡ false
item_new s (OfType d) h = unbroken _ _ _ (back_empty _ (declared_twice s d.name) h)
item_new s (OfObject d) h = unbroken _ _ _ (back_empty _ (declared_twice s d.name) h)
item_new s (OfException name) h = unbroken _ _ _ h
item_new s (OfSubprogram d) h = unbroken _ _ _ (back_empty _ (declared_twice s d.name) h)
item_new s (OfTask d) h = unbroken _ _ _ (back_empty _ (declared_twice s d.name) h)
item_new s (OfProtected d) h = unbroken _ _ _ (back_empty _ (declared_twice s d.name) h)
