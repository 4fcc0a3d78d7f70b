-- What is so of each name that is visible in front of the parameters of a body with code: of those of the package in front of it and, in the body of a
-- protected object, of its operations, of the bodies in front and of the components.
use Rattle.std.proofs.Common.{◌≡◌, ℕ, zero, suc, ◌++◌, List, [], ◌∷◌, ◌⊎◌, inl, inr, take, Bool, true, false, cond, Option, Some, None, refl, sym, ap, ◌∙◌, subst}
use Rattle.std.specs.Prelude.{is_some, slice_get}
use Rattle.ada_tree.specs.StatementTree.{SubprogramTree}
use Rattle.ada_tree.specs.ProgramTree.{BodyTree, EntryBody, OperationBody, ProgramTree, ProtectedItemTree}
use Rattle.types.specs.declared.entity.RecordComponent.{RecordComponent}
use Rattle.types.specs.declared.entity.Subtype.{Subtype}
use Rattle.types.specs.Entities.{Doubtful, Entity, Operation, Profile, Protected, ProtectedObject, Subprogram}
use Rattle.types.specs.Entities as entity
use Rattle.types.specs.Layouts.{words_of}
use Rattle.types.specs.Scopes.{Named, Scope, base_range_of, entity_at, form_at, is_visible, number_of, offering, operations_or, protected_of, with_name, with_operations}
use Rattle.types.specs.Shapes.{Ranged, Shape, narrowed, shape_of, shape_or_none, shapes, words}
use Rattle.expr_soundness.specs.expr_rules.proofs.TypedLaw.{front_empty}
use Rattle.expr_soundness.specs.type_rules.specs.ProfileRules.{profile_entity, profile_faults}
use Rattle.program_soundness.specs.declaration_rules.specs.BodyNames.{component_role, components_scope, operation_entity, operations_scope}
use Rattle.program_soundness.specs.unit_rules.specs.BodyRules.{body_name_faults, function_body_faults, head_faults, own_name_faults}
use Rattle.program_soundness.specs.unit_rules.specs.ProtectedBodyRules.{protected_item_scope, protected_items_scope}
use Rattle.expr_soundness.specs.type_rules.specs.SubtypeNames.{end_rule}
use Rattle.legality.specs.ProgramRules.{IsLegal}
use Rattle.program_soundness.specs.ravenscar.specs.ProgramRules.{IsRestricted}
use Rattle.expr_soundness.specs.Laws.{ScopesAreSound}
use Rattle.expr_soundness.specs.SoundScopes.{IsKnown, SoundScope}
use Rattle.expr_soundness.proofs.Goods.{not_empty}
use Rattle.expr_soundness.proofs.Hiding.{changed_entity}
use Rattle.program_soundness.specs.BodyLaws.{NamesAreKnown, PremisesHold}
use Rattle.program_soundness.specs.Fronts.{declared_in, front, start_in}
use Rattle.expr_soundness.specs.meaning.specs.Programs.{program_of}
use Rattle.program_soundness.proofs.BodyProfiles.{Keeps, profile_kept}
use Rattle.program_soundness.proofs.Listing.{same_some}
use Rattle.program_soundness.proofs.ObjectBodies as bodies
use Rattle.program_soundness.proofs.ObjectTrees.{components_all, components_named}
use Rattle.program_soundness.proofs.Same.{SameTypes}
use Rattle.program_soundness.proofs.Walked.{own_profile}
use Rattle.program_soundness.proofs.WiderScopes.{found_in, stands, stands_with_all}
use Rattle.types.specs.Places.{or_else}
use Rattle.package_code.specs.Bodies.{Coded, operation_front, IsBodyOf}
use Rattle.package_code.proofs.Coded.{coded_by}
use Rattle.package_code.proofs.OperationsAdded as added
use Rattle.source_laws.proofs.InsideNames.{at_, front_is, here, object, seen_at}

-- ---- what is so of each name of a scope

abbrev pub AllOf : (Entity → Type 0) → Scope → Type 0
AllOf P s = (n : ℕ) (e : Entity) → entity_at s n ≡ Some e → P e

entity_added : (s : Scope) (m : Named) (n : ℕ) (e : Entity) → entity_at (s ++ m ∷ []) n ≡ Some e → (entity_at s n ≡ Some e) ⊎ (m.entity ≡ e)
entity_added [] m zero e h = inr (same_some m.entity e h)
entity_added [] m (suc n) e h = cc
entity_added (x ∷ s) m zero e h = inl h
entity_added (x ∷ s) m (suc n) e h = entity_added s m n e h

module _ (P : Entity → Type 0) where
  all_with : (s : Scope) (name : List ℕ) (e : Entity) → AllOf P s → P e → AllOf P (with_name s name e)
  all_with s name e all one = by_test (is_visible s name)
    where
      by_test : (b : Bool) → AllOf P (cond b s (s ++ record { name = name; entity = e } ∷ []))
      by_test true n y h = all n y h
      by_test false n y h = elim (entity_added s (record { name = name; entity = e }) n y h) [ inl i ↦ all n y i | inr i ↦ subst P i one ]

  all_hidden : (s : Scope) (m : ℕ) → AllOf P s → ((e : Entity) → P e → P (offering [] e)) → AllOf P (with_operations s m [])
  all_hidden s m all without n e h =
      let old = changed_entity s m (offering []) n e h in
      elim old.2 [ inl i ↦ subst P i (all n old.0 old.1) | inr i ↦ subst P i (without old.0 (all n old.0 old.1)) ]

  all_operations : (s : Scope) (os : List Operation) → AllOf P s → ((j : ℕ) (o : Operation) → slice_get os j ≡ Some o → P (operation_entity o))
      → AllOf P (operations_scope s os)
  all_operations s [] all each = all
  all_operations s (o ∷ os) all each =
      all_operations (with_name s o.name (operation_entity o)) os (all_with s o.name (operation_entity o) all (each 0 o refl)) (λ j y at. each (suc j) y at)

  all_components : (s : Scope) (f : Bool) (cs : List RecordComponent) → AllOf P s
      → ((j : ℕ) (c : RecordComponent) → slice_get cs j ≡ Some c → P (entity.Object (component_role f) c.subtype))
      → AllOf P (components_scope s f cs)
  all_components s f [] all each = all
  all_components s f (c ∷ cs) all each =
      let e = entity.Object (component_role f) c.subtype in
      all_components (with_name s c.name e) f cs (all_with s c.name e all (each 0 c refl)) (λ j y at. each (suc j) y at)

  all_item : (s : Scope) (i : ProtectedItemTree) → AllOf P s
      → ((d : SubprogramTree) (b : BodyTree) → i ≡ OperationBody d b → P (profile_entity (own_profile s d)))
      → AllOf P (protected_item_scope s i)
  all_item s (OperationBody d b) all own = all_with s d.name.name (profile_entity (own_profile s d)) all (own d b refl)
  all_item s (EntryBody d barrier b) all own = all

  all_items : (s : Scope) (items : List ProtectedItemTree) (j : ℕ) → AllOf P s
      → ((m : ℕ) (d : SubprogramTree) (b : BodyTree) → slice_get items m ≡ Some (OperationBody d b)
      → P (profile_entity (own_profile (protected_items_scope s (take m items)) d)))
      → AllOf P (protected_items_scope s (take j items))
  all_items s [] zero all own = all
  all_items s [] (suc j) all own = all
  all_items s (i ∷ items) zero all own = all
  all_items s (i ∷ items) (suc j) all own =
      all_items (protected_item_scope s i) items j (all_item s i all (λ d b is. own 0 d b (ap Some is))) (λ m d b at. own (suc m) d b at)

-- ---- the same types have the same shapes

narrowed_again : (b t : Subtype) (x : Shape) → narrowed t (narrowed b x) ≡ narrowed t x
narrowed_again b t (Ranged first) = refl
narrowed_again b t x = refl

pub shape_same : (s u : Scope) → SameTypes s u → (t : Subtype) → IsKnown s t → shape_of u t ≡ shape_of s t
shape_same s u types t known =
    let form = not_empty (form_at s t.type_number) known in
    let b = base_range_of t.type_number in
    sym (narrowed_again b t (shape_or_none (slice_get (shapes u) t.type_number)))
    ∙ ap (narrowed t) (types.shapes t.type_number form.0 form.1)
    ∙ narrowed_again b t (shape_or_none (slice_get (shapes s) t.type_number))

pub words_same : (s u : Scope) → SameTypes s u → (t : Subtype) → IsKnown s t → words_of u t ≡ words_of s t
words_same s u types t known = ap words (shape_same s u types t known)

-- ---- in front of an operation or entry

module _ (scopes : ScopesAreSound) (known : NamesAreKnown) (premises : PremisesHold) (t : ProgramTree) (legal : IsLegal t) (restricted : IsRestricted t) where
  -- outside of protected objects the front of a body is one of the package
  pub fronts_by : (P : Scope → Type 0) → ((place : ℕ) → P (front t place))
      → ((place k : ℕ) (c : Coded) → added.IsInObject scopes known premises t legal restricted place k c → P c.front)
      → (c : Coded) → IsBodyOf t c → P c.front
  fronts_by P outside inside c b =
      coded_by t b.place (λ y n e. slice_get (declared_in t.package_) b.place ≡ Some y → P e.front) (λ d own there. outside (suc b.place))
      (λ name own there. outside (suc b.place))
      (λ name items end_name n e is there.
      let y = added.inside_coded scopes known premises t legal restricted b.place name items end_name there n e is in
      inside b.place n e (record { name = name; items = items; end_name = end_name; at = there; item = y.0; there = y.1; is = y.2 })) b.item b.index c b.coded
      b.at

  module _ (place k : ℕ) (c : Coded) (x : added.IsInObject scopes known premises t legal restricted place k c) where
    abbrev o : ProtectedObject
    o = object scopes known premises t legal restricted place k c x

    abbrev outer : Scope
    outer = here scopes known premises t legal restricted place k c x

    abbrev sees : ℕ → Bool → Scope
    sees j f = seen_at scopes known premises t legal restricted place k c x j f

    abbrev earlier : ℕ → Scope
    earlier j = at_ scopes known premises t legal restricted place k c x j

    abbrev there_is : (n : ℕ) × (number_of outer x.name.name ≡ Some n) × (entity_at outer n ≡ Some (Protected o))
    there_is =
        bodies.named_n (program_of t) (start_in t.package_) (declared_in t.package_) (added.w scopes known premises t legal restricted) place x.name x.items
        x.end_name x.at

    pub seen_sound : (j : ℕ) (i : ProtectedItemTree) → slice_get x.items j ≡ Some i → (is_read : Bool) → SoundScope (sees j is_read)
    seen_sound = added.sounds scopes known premises t legal restricted place x.name x.items x.end_name x.at

    pub front_sound : SoundScope c.front
    front_sound = subst SoundScope (sym (front_is scopes known premises t legal restricted place k c x)) (by_item x.item x.there)
      where
        by_item : (i : ProtectedItemTree) → slice_get x.items k ≡ Some i → SoundScope (operation_front (earlier k) o.components i)
        by_item (OperationBody d b) at = added.inners scopes known premises t legal restricted place x.name x.items x.end_name x.at k d b at
        by_item (EntryBody d barrier b) at = seen_sound k (EntryBody d barrier b) at false

    -- the head of a procedure or function breaks no rule behind the components
    pub profile_legal : (j : ℕ) (d : SubprogramTree) (b : BodyTree) → slice_get x.items j ≡ Some (OperationBody d b)
        → profile_faults (sees j (is_some d.result)) d ≡ []
    profile_legal j d b at =
        let s = sees j (is_some d.result) in
        let rules_ =
        bodies.item_legal (program_of t) (start_in t.package_) (declared_in t.package_) (added.w scopes known premises t legal restricted) place x.name x.items
        x.end_name x.at j (OperationBody d b) at in
        let head = front_empty (head_faults s d b) _ (front_empty _ (end_rule d.name b.end_name) rules_) in
        let named = front_empty _ (function_body_faults d b) head in
        let own = front_empty _ (body_name_faults s d.name) named in
        front_empty (profile_faults s d) (own_name_faults d.name d.formals) own

    components_behind : (j : ℕ) (is_read : Bool) → Keeps (earlier j) (sees j is_read)
    components_behind j is_read name e h =
        ap (λ u. stands u name) (components_all (earlier j) is_read o.components)
        ∙ stands_with_all (earlier j) (components_named is_read o.components) name
        ∙ ap (λ z. or_else z (found_in (components_named is_read o.components) name)) h

    -- what is so of the names in front of the whole body, also without operations behind them, and of those that the body adds
    module _ (P : Entity → Type 0) (all : AllOf P outer) (without : (e : Entity) → P e → P (offering [] e))
        (operations : (j : ℕ) (y : Operation) → slice_get o.operations j ≡ Some y → P (operation_entity y)) (doubtful : P Doubtful)
        (subprograms : (j : ℕ) (d : SubprogramTree) (b : BodyTree) → slice_get x.items j ≡ Some (OperationBody d b) → (p : Profile)
        → own_profile (sees j (is_some d.result)) d ≡ Some p → P (Subprogram p))
        (parts : (j : ℕ) (y : RecordComponent) (is_read : Bool) → slice_get o.components j ≡ Some y
        → P (entity.Object (component_role is_read) y.subtype)) where
      all_begun : AllOf P (operations_scope (with_operations outer there_is.0 []) o.operations)
      all_begun = all_operations P (with_operations outer there_is.0 []) o.operations (all_hidden P outer there_is.0 all without) operations

      begun_all : AllOf P (added.begun scopes known premises t legal restricted place x.name x.items x.end_name x.at)
      begun_all =
          subst (AllOf P) (sym (ap (λ e. operations_scope (with_operations outer there_is.0 []) (operations_or (protected_of e) [])) there_is.2)) all_begun

      own_entity : (j : ℕ) (d : SubprogramTree) (b : BodyTree) → slice_get x.items j ≡ Some (OperationBody d b) → (q : Option Profile)
          → own_profile (earlier j) d ≡ q → P (profile_entity q)
      own_entity j d b at (Some p) is =
          subprograms j d b at p
          (profile_kept (earlier j) (sees j (is_some d.result)) (components_behind j (is_some d.result)) d.formals d.result p is)
      own_entity j d b at None is = doubtful

      all_earlier : (j : ℕ) → AllOf P (earlier j)
      all_earlier j =
          let begun = added.begun scopes known premises t legal restricted place x.name x.items x.end_name x.at in
          subst (AllOf P) (added.same_scope scopes known premises t legal restricted place x.name x.items x.end_name x.at j)
          (all_items P begun x.items j begun_all
          (λ m d b at.
          subst (λ u. P (profile_entity (own_profile u d)))
          (sym (added.same_scope scopes known premises t legal restricted place x.name x.items x.end_name x.at m))
          (own_entity m d b at (own_profile (earlier m) d) refl)))

      all_sees : (j : ℕ) (is_read : Bool) → AllOf P (sees j is_read)
      all_sees j is_read = all_components P (earlier j) is_read o.components (all_earlier j) (λ m y at. parts m y is_read at)

      last_entity : (d : SubprogramTree) (b : BodyTree) → slice_get x.items k ≡ Some (OperationBody d b) → (q : Option Profile)
          → own_profile (sees k (is_some d.result)) d ≡ q → P (profile_entity q)
      last_entity d b at (Some p) is = subprograms k d b at p is
      last_entity d b at None is = doubtful

      by_item : (i : ProtectedItemTree) → slice_get x.items k ≡ Some i → AllOf P (operation_front (earlier k) o.components i)
      by_item (OperationBody d b) at =
          let s = sees k (is_some d.result) in
          all_with P s d.name.name (profile_entity (own_profile s d)) (all_sees k (is_some d.result)) (last_entity d b at (own_profile s d) refl)
      by_item (EntryBody d barrier b) at = all_sees k false

      pub all_there : AllOf P c.front
      all_there = subst (AllOf P) (sym (front_is scopes known premises t legal restricted place k c x)) (by_item x.item x.there)
