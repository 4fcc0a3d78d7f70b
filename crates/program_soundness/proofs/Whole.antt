-- What the names of a legal package stand for is what a run finds: variables, functions and procedures of the package by their names.
use Rattle.std.proofs.Common.{◌≡◌, ℕ, List, [], ◌∷◌, ◌++◌, Bool, true, false, cond, ◌&&◌, ◌⊎◌, inl, inr, Option, Some, None, refl, sym, ap, ◌∙◌, subst}
use Rattle.std.specs.Prelude.{bytes_eq, slice_get}
use Rattle.expr_soundness.specs.base.specs.Names.{predefined}
use Rattle.expr_soundness.specs.ada_tree.specs.declared.expression.Identifier.{Identifier}
use Rattle.expr_soundness.specs.ada_tree.specs.ExpressionTree.{ExprTree}
use Rattle.expr_soundness.specs.ada_tree.specs.StatementTree.{ObjectTree, SubprogramTree, StmtTrees, NoStmts, MoreStmts, Return}
use Rattle.expr_soundness.specs.ada_tree.specs.ProgramTree.{BodyTree, BodyItemTree, OfItem, SubprogramBody, TaskBody, ProtectedBody, OfType, OfObject, OfException, OfSubprogram, OfTask, OfProtected}
use Rattle.types.specs.declared.entity.Role.{Role}
use Rattle.types.specs.declared.entity.Role.TheVariants as role
use Rattle.types.specs.declared.entity.Subtype.{Subtype}
use Rattle.types.specs.Entities.{Entity, Profile, ProtectedObject, Object, Subprogram, Protected, Doubtful}
use Rattle.types.specs.Entities as entity
use Rattle.types.specs.Scopes.{Scope, protected_count}
use Rattle.types.specs.Places.{object_of, or_else}
use Rattle.types.specs.Places as places
use Rattle.expr_soundness.specs.expr_rules.proofs.TypedLaw.{front_empty}
use Rattle.expr_soundness.specs.type_rules.specs.SubtypeNames.{declared_twice, named_entity, subtype_faults, subtype_in, subtype_of, subtype_rule}
use Rattle.expr_soundness.specs.type_rules.specs.ObjectRules.{constant_entity, initial_scalar, object_entity, package_object_entity}
use Rattle.expr_soundness.specs.type_rules.specs.ProfileRules.{profile_entity}
use Rattle.unit_rules.specs.BodyRules.{has_no_declarations, has_no_handlers, is_function_body, is_single_return, is_subprogram}
use Rattle.declaration_rules.specs.PackageNames.{body_items_scope}
use Rattle.unit_rules.specs.ProtectedBodyRules.{is_object}
use Rattle.expr_soundness.specs.SoundScopes.{SoundScope}
use Rattle.expr_soundness.specs.meaning.specs.Programs.{Program, components_among, exceptions_among, functions_among, items_among, object_named, objects_or_none, procedures_among, returned, variable, variables_among}
use Rattle.program_soundness.specs.Fronts.{scope_at}
use Rattle.program_soundness.proofs.Listing.{Has, same_some}
use Rattle.program_soundness.proofs.WiderScopes.{bytes_same, number_stands, same_bytes, stands, unseen_none}
use Rattle.program_soundness.proofs.Walked.{IsOne, Kind, Variables, Subprograms, Types, Others, Exceptions, Constants, Origin, body_item_kind, declared_kept, declared_one, declares, item_new, kept_at, kind, legal_at, one_of, origin}
use Rattle.program_soundness.proofs.OneList.{IsLegalList, is_subprogram_body}
use Rattle.program_soundness.proofs.Callables.{first_any, first_found, first_of}
use Rattle.program_soundness.proofs.BodyProfiles.{Keeps, named_is, subtype_kept}

-- ---- the package

-- what may be visible in front of a package: no object, nothing that is called but what is predefined, and of exceptions the predefined ones
abbrev pub is_first : Kind → Bool
is_first Types = true
is_first Others = true
is_first Exceptions = true
is_first k = false

pub record IsFirst (name : List ℕ) (e : Entity) : Type 0 where
  pub first : is_first (kind e) ≡ true
  pub exception : kind e ≡ Exceptions → Has predefined name

pub record IsPackage (program : Program) (s : Scope) (all : List BodyItemTree) : Type 0 where
  pub scope : body_items_scope s all ≡ program.scope
  pub functions : program.functions ≡ functions_among program.scope all
  pub procedures : program.procedures ≡ procedures_among program.scope all
  pub variables : program.variables ≡ variables_among program.scope (items_among all)
  pub components : program.components ≡ (λ o. objects_or_none (slice_get (components_among program.scope (items_among all)) o))
  pub exceptions : program.exceptions ≡ predefined ++ exceptions_among (items_among all)
  pub list : IsLegalList s all
  pub sound : SoundScope program.scope
  pub started : (name : List ℕ) (e : Entity) → stands s name ≡ Some e → IsFirst name e
  pub unprotected : protected_count s ≡ 0

-- ---- entities by their kinds

pub known_kind : (k : Kind) (e : Entity) → IsOne k e → (e ≡ Doubtful → ⊥) → kind e ≡ k
known_kind k Doubtful h d = absurd (d refl)
known_kind k e h d = h

pub legal_subtype : (place : ℕ) (o : Option Entity) → subtype_rule place o ≡ [] → (o ≡ Some Doubtful → ⊥) → (t : Subtype) × (subtype_in o ≡ Some t)
legal_subtype place (Some (entity.OfType form t)) h d = (t, refl)
legal_subtype place (Some (entity.OfSubtype t)) h d = (t, refl)
legal_subtype place (Some Doubtful) h d = absurd (d refl)
legal_subtype place None h d = cc
legal_subtype place (Some e) h d = cc

pub profile_is : (o : Option Profile) (p : Profile) → profile_entity o ≡ Subprogram p → o ≡ Some p
profile_is (Some q) p h = let f : Entity → Profile = λ e. elim e [ Subprogram r ↦ r | x ↦ q ] in ap Some (ap f h)
profile_is None p h = cc

pub profile_known : (o : Option Profile) → (profile_entity o ≡ Doubtful → ⊥) → (p : Profile) × (o ≡ Some p)
profile_known (Some p) h = (p, refl)
profile_known None h = absurd (h refl)

pub same_profile : (p q : Profile) → Some (Subprogram p) ≡ Some (Subprogram q) → p ≡ q
same_profile p q h = let f : Option Entity → Profile = λ o. elim o [ Some e ↦ elim e [ Subprogram r ↦ r | x ↦ p ] | None ↦ p ] in ap f h

pub subprogram_is : (e : Entity) → is_subprogram (Some e) ≡ true → ((p : Profile) × (e ≡ Subprogram p)) ⊎ (e ≡ Doubtful)
subprogram_is (Subprogram p) h = inl (p, refl)
subprogram_is Doubtful h = inr refl
subprogram_is e h = cc

pub protected_is : (o : Option Entity) → is_object o ≡ true → (o ≡ Some Doubtful → ⊥) → (x : ProtectedObject) × (o ≡ Some (Protected x))
protected_is (Some (Protected x)) h d = (x, refl)
protected_is (Some Doubtful) h d = absurd (d refl)
protected_is None h d = cc
protected_is (Some e) h d = cc

-- ---- items by their kinds

variable_item : (i : BodyItemTree) → Variables ≡ body_item_kind i → (d : ObjectTree) × (i ≡ OfItem (OfObject d)) × (d.constant ≡ false)
variable_item (OfItem (OfObject d)) h = (d, refl, by_constant d.constant h)
  where
    by_constant : (b : Bool) → Variables ≡ cond b Constants Variables → b ≡ false
    by_constant true k = cc
    by_constant false k = refl
variable_item (OfItem (OfType d)) h = cc
variable_item (OfItem (OfException name)) h = cc
variable_item (OfItem (OfSubprogram d)) h = cc
variable_item (OfItem (OfTask d)) h = cc
variable_item (OfItem (OfProtected d)) h = cc
variable_item (SubprogramBody d b) h = cc
variable_item (TaskBody name b) h = cc
variable_item (ProtectedBody name items end_name) h = cc

no_constant : (b : Bool) → Subprograms ≡ cond b Constants Variables → ⊥
no_constant true h = cc
no_constant false h = cc

pub subprogram_item : (i : BodyItemTree) → Subprograms ≡ body_item_kind i
    → ((d : SubprogramTree) × (i ≡ OfItem (OfSubprogram d))) ⊎ ((d : SubprogramTree) × (b : BodyTree) × (i ≡ SubprogramBody d b))
subprogram_item (OfItem (OfSubprogram d)) h = inl (d, refl)
subprogram_item (SubprogramBody d b) h = inr (d, b, refl)
subprogram_item (OfItem (OfObject d)) h = absurd (no_constant d.constant h)
subprogram_item (OfItem (OfType d)) h = cc
subprogram_item (OfItem (OfException name)) h = cc
subprogram_item (OfItem (OfTask d)) h = cc
subprogram_item (OfItem (OfProtected d)) h = cc
subprogram_item (TaskBody name b) h = cc
subprogram_item (ProtectedBody name items end_name) h = cc

pub subprogram_passes : (name : Identifier) (i : BodyItemTree) → is_subprogram_body name i ≡ true
    → (d : SubprogramTree) × (b : BodyTree) × (i ≡ SubprogramBody d b) × (d.name.name ≡ name.name)
subprogram_passes name (SubprogramBody d b) h = (d, b, refl, sym (same_bytes name.name d.name.name h))
subprogram_passes name (OfItem d) h = cc
subprogram_passes name (TaskBody own b) h = cc
subprogram_passes name (ProtectedBody own items end_name) h = cc

-- ---- variables in lists

object_both : (xs ys : List places.Object) (name : List ℕ) → object_of (xs ++ ys) name ≡ or_else (object_of xs name) (object_of ys name)
object_both [] ys name = refl
object_both (x ∷ xs) ys name = by_test (bytes_eq x.name name) (object_both xs ys name)
  where
    by_test : (b : Bool) → object_of (xs ++ ys) name ≡ or_else (object_of xs name) (object_of ys name)
        → cond b (Some x) (object_of (xs ++ ys) name) ≡ or_else (cond b (Some x) (object_of xs name)) (object_of ys name)
    by_test true later = refl
    by_test false later = later

abbrev item_variables : Scope → BodyItemTree → List places.Object
item_variables s (OfItem (OfObject d)) = variable s d
item_variables s i = []

variables_first : (s : Scope) (all : List BodyItemTree) (name : List ℕ)
    → object_of (variables_among s (items_among all)) name ≡ first_of (λ i. object_of (item_variables s i) name) all
variables_first s [] name = refl
variables_first s (OfItem (OfObject d) ∷ rest) name =
    object_both (variable s d) (variables_among s (items_among rest)) name ∙ ap (or_else (object_of (variable s d) name)) (variables_first s rest name)
variables_first s (OfItem (OfType d) ∷ rest) name = variables_first s rest name
variables_first s (OfItem (OfException own) ∷ rest) name = variables_first s rest name
variables_first s (OfItem (OfSubprogram d) ∷ rest) name = variables_first s rest name
variables_first s (OfItem (OfTask d) ∷ rest) name = variables_first s rest name
variables_first s (OfItem (OfProtected d) ∷ rest) name = variables_first s rest name
variables_first s (SubprogramBody d b ∷ rest) name = variables_first s rest name
variables_first s (TaskBody own b ∷ rest) name = variables_first s rest name
variables_first s (ProtectedBody own items end_name ∷ rest) name = variables_first s rest name

record IsVariable (s : Scope) (i : BodyItemTree) (name : List ℕ) (x : places.Object) : Type 0 where
  tree : ObjectTree
  item : i ≡ OfItem (OfObject tree)
  variable_ : tree.constant ≡ false
  is : x ≡ object_named s tree.name tree.subtype tree.value
  named : tree.name.name ≡ name

one_variable : (s : Scope) (i : BodyItemTree) (name : List ℕ) (x : places.Object) → object_of (item_variables s i) name ≡ Some x → IsVariable s i name x
one_variable s (OfItem (OfObject d)) name x h = by_constant d.constant refl h
  where
    by_name : d.constant ≡ false → (b : Bool) → bytes_eq d.name.name name ≡ b → cond b (Some (object_named s d.name d.subtype d.value)) None ≡ Some x
        → IsVariable s (OfItem (OfObject d)) name x
    by_name c true i k =
        record { tree = d; item = refl; variable_ = c; is = sym (same_some (object_named s d.name d.subtype d.value) x k); named = same_bytes d.name.name name i }
    by_name c false i k = cc

    by_constant : (b : Bool) → d.constant ≡ b → object_of (cond b [] (object_named s d.name d.subtype d.value ∷ [])) name ≡ Some x
        → IsVariable s (OfItem (OfObject d)) name x
    by_constant true c k = cc
    by_constant false c k = by_name c (bytes_eq d.name.name name) refl k
one_variable s (OfItem (OfType d)) name x h = cc
one_variable s (OfItem (OfException own)) name x h = cc
one_variable s (OfItem (OfSubprogram d)) name x h = cc
one_variable s (OfItem (OfTask d)) name x h = cc
one_variable s (OfItem (OfProtected d)) name x h = cc
one_variable s (SubprogramBody d b) name x h = cc
one_variable s (TaskBody own b) name x h = cc
one_variable s (ProtectedBody own items end_name) name x h = cc

variable_there : (s : Scope) (d : ObjectTree) → d.constant ≡ false
    → object_of (item_variables s (OfItem (OfObject d))) d.name.name ≡ Some (object_named s d.name d.subtype d.value)
variable_there s d c =
    let x = object_named s d.name d.subtype d.value in
    ap (λ b. object_of (cond b [] (x ∷ [])) d.name.name) c ∙ ap (λ b. cond b (Some x) None) (bytes_same d.name.name)

-- ---- functions return the value of one expression

pub value_returned : (b : BodyTree) → is_function_body b ≡ true → (e : ExprTree) × (returned b.statements ≡ Some e)
value_returned b h = one (b.statements) (second (has_no_declarations b.declarations) (has_no_handlers b.handlers) (is_single_return b.statements) h)
  where
    second : (x y z : Bool) → (x && (y && z)) ≡ true → z ≡ true
    second true true z k = k
    second true false z k = cc
    second false y z k = cc

    one : (statements : StmtTrees) → is_single_return statements ≡ true → (e : ExprTree) × (returned statements ≡ Some e)
    one (MoreStmts (Return place (Some e)) NoStmts) k = (e, refl)
    one (MoreStmts (Return place None) NoStmts) k = cc
    one NoStmts k = cc
    one (MoreStmts x (MoreStmts y rest)) k = cc
    one (MoreStmts x NoStmts) k = cc

module _ (program : Program) (s : Scope) (all : List BodyItemTree) (w : IsPackage program s all) where
  -- ---- what is visible at a place is visible behind the package

  pub kept : (k : ℕ) → Keeps (scope_at s all k) program.scope
  kept k name e h = subst (λ u. stands u name ≡ Some e) w.scope (kept_at s all k name e h)

  pub no_doubt : (name : List ℕ) → stands program.scope name ≡ Some Doubtful → ⊥
  no_doubt name h = let n = number_stands program.scope name Doubtful h in w.sound.each n.0 Doubtful n.2

  pub came : (name : List ℕ) (e : Entity) → stands program.scope name ≡ Some e → (stands s name ≡ Some e) ⊎ Origin s all name e
  came name e h = origin s all name e (subst (λ u. stands u name ≡ Some e) (sym w.scope) h)

  pub origin_kind : (name : List ℕ) (e : Entity) (o : Origin s all name e) → (e ≡ Doubtful → ⊥) → kind e ≡ body_item_kind o.item
  origin_kind name e o d = known_kind (body_item_kind o.item) e (declared_one (scope_at s all o.place) o.item (record { name = name; entity = e }) o.declared) d

  pub known_subtype : (k : ℕ) (name : Identifier) → subtype_faults (scope_at s all k) name ≡ [] → (t : Subtype) × (subtype_of (scope_at s all k) name ≡ Some t)
  known_subtype k name h = legal_subtype name.place (named_entity (scope_at s all k) name) h (λ d. no_doubt name.name (kept k name.name Doubtful d))

  pub item_stands : (k : ℕ) (i : BodyItemTree) (name : List ℕ) (e : Entity) → slice_get all k ≡ Some i → stands (scope_at s all k) name ≡ None
      → one_of (declares (scope_at s all k) i) name ≡ Some e → stands program.scope name ≡ Some e
  item_stands k i name e at none one = subst (λ u. stands u name ≡ Some e) w.scope (declared_kept s all k i name e at none one)

  -- ---- variables

  pub variable_entity : (name : List ℕ) (x : places.Object) → object_of program.variables name ≡ Some x
      → stands program.scope name ≡ Some (Object role.Variable x.subtype)
  variable_entity name x h =
      let found =
      first_found (λ i. object_of (item_variables program.scope i) name) all x
      (sym (variables_first program.scope all name) ∙ ap (λ l. object_of l name) (sym w.variables) ∙ h) in
      by_item found.0 found.1 found.2 (one_variable program.scope found.1 name x found.3)
    where
      by_tree : (k : ℕ) (d : ObjectTree) → slice_get all k ≡ Some (OfItem (OfObject d)) → d.constant ≡ false
          → stands program.scope d.name.name ≡ Some (Object role.Variable (object_named program.scope d.name d.subtype d.value).subtype)
      by_tree k d at constant =
          let here : Scope = scope_at s all k in
          let legal = legal_at s all k (OfItem (OfObject d)) at w.list.legal in
          let t = known_subtype k d.subtype (front_empty (subtype_faults here d.subtype) _ (front_empty _ (declared_twice here d.name) legal)) in
          let named = named_is program.scope d.subtype t.0 (subtype_kept here program.scope (kept k) d.subtype t.0 t.1) in
          let declared : package_object_entity here d ≡ Object role.Variable t.0 =
          ap
          (λ b. elim b [ true ↦ constant_entity (subtype_of here d.subtype) (initial_scalar here (subtype_of here d.subtype) d.value) | false ↦ object_entity role.Variable (subtype_of here d.subtype) ]) constant
          ∙ ap (object_entity role.Variable) t.1 in
          let one : one_of (declares here (OfItem (OfObject d))) d.name.name ≡ Some (Object role.Variable t.0) =
          ap (λ b. cond b (Some (package_object_entity here d)) None) (bytes_same d.name.name) ∙ ap Some declared in
          item_stands k (OfItem (OfObject d)) d.name.name (Object role.Variable t.0) at (unseen_none here d.name.name (item_new here (OfObject d) legal)) one
          ∙ ap (λ u. Some (Object role.Variable u)) (sym named)

      by_item : (k : ℕ) (i : BodyItemTree) → slice_get all k ≡ Some i → IsVariable program.scope i name x
          → stands program.scope name ≡ Some (Object role.Variable x.subtype)
      by_item k i at v =
          ap (stands program.scope) (sym v.named) ∙ by_tree k v.tree (at ∙ ap Some v.item) v.variable_
          ∙ ap (λ y. Some (Object role.Variable y.subtype)) (sym v.is)

  pub record FoundVariable (name : List ℕ) (r : Role) (t : Subtype) : Type 0 where
    pub object : places.Object
    pub found : object_of program.variables name ≡ Some object
    pub same : object.subtype ≡ t
    pub variable_ : r ≡ role.Variable

  pub entity_variable : (name : List ℕ) (r : Role) (t : Subtype) → stands program.scope name ≡ Some (Object r t) → FoundVariable name r t
  entity_variable name r t h = by_case (came name (Object r t) h)
    where
      from_found : (x : places.Object) → object_of program.variables name ≡ Some x → FoundVariable name r t
      from_found x found =
          let same = sym h ∙ variable_entity name x found in
          let subtype : Option Entity → Subtype = λ o. elim o [ Some e ↦ elim e [ Object q u ↦ u | y ↦ t ] | None ↦ t ] in
          let role_ : Option Entity → Role = λ o. elim o [ Some e ↦ elim e [ Object q u ↦ q | y ↦ r ] | None ↦ r ] in
          record { object = x; found = found; same = sym (ap subtype same); variable_ = ap role_ same }

      by_tree : (k : ℕ) (d : ObjectTree) → slice_get all k ≡ Some (OfItem (OfObject d)) → d.constant ≡ false → d.name.name ≡ name → FoundVariable name r t
      by_tree k d at constant named =
          let any =
          first_any (λ i. object_of (item_variables program.scope i) d.name.name) all k (OfItem (OfObject d)) _ at
          (variable_there program.scope d constant) in
          from_found any.0 (ap (λ l. object_of l name) w.variables ∙ ap (object_of (variables_among program.scope (items_among all))) (sym named)
          ∙ variables_first program.scope all d.name.name ∙ any.1)

      by_origin : (o : Origin s all name (Object r t)) → (d : ObjectTree) → o.item ≡ OfItem (OfObject d) → d.constant ≡ false → FoundVariable name r t
      by_origin o d is constant =
          let declared : declares (scope_at s all o.place) (OfItem (OfObject d)) ≡ Some (record { name = name; entity = Object r t }) =
          ap (declares (scope_at s all o.place)) (sym is) ∙ o.declared in
          let named =
          ap (λ x. x.name)
          (same_some (record { name = d.name.name; entity = package_object_entity (scope_at s all o.place) d }) (record { name = name; entity = Object r t }) declared) in
          by_tree o.place d (o.at ∙ ap Some is) constant named

      by_case : (stands s name ≡ Some (Object r t)) ⊎ Origin s all name (Object r t) → FoundVariable name r t
      by_case (inl k) = let first = (w.started name (Object r t) k).first in cc
      by_case (inr o) = let i = variable_item o.item (origin_kind name (Object r t) o (λ d. cc)) in by_origin o i.0 i.1 i.2
