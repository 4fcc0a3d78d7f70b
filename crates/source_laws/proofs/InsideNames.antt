-- Where the names come from that are visible in front of the parameters of an operation or entry of a protected object: from the front of the object's body,
-- from its operations and from its components (RM 9.4, 9.5.1).
use Rattle.std.proofs.Common.{◌≡◌, ℕ, List, [], ◌∷◌, ◌⊎◌, inl, inr, take, Bool, true, false, cond, Option, Some, None, refl, sym, ap, ◌∙◌, subst}
use Rattle.std.specs.Prelude.{bytes_eq, is_some, slice_get}
use Rattle.ada_tree.specs.declared.expression.Identifier.{Identifier}
use Rattle.ada_tree.specs.StatementTree.{SubprogramTree}
use Rattle.ada_tree.specs.ProgramTree.{BodyItemTree, BodyTree, EntryBody, OperationBody, ProgramTree, ProtectedItemTree}
use Rattle.types.specs.declared.entity.RecordComponent.{RecordComponent}
use Rattle.types.specs.declared.entity.Role.{Role}
use Rattle.types.specs.declared.entity.Subtype.{Subtype}
use Rattle.types.specs.Entities.{Doubtful, Entity, Exception, Operation, Profile, Protected, ProtectedObject, Subprogram}
use Rattle.types.specs.Entities as entity
use Rattle.types.specs.Places as places
use Rattle.types.specs.Places.{object_of, or_else}
use Rattle.types.specs.Scopes.{Named, Scope, form_of, offering, operations_or, protected_at, with_name, with_operations}
use Rattle.expr_soundness.specs.type_rules.specs.ProfileRules.{profile_entity}
use Rattle.expr_soundness.specs.type_rules.specs.SubtypeNames.{subtype_in, subtype_of}
use Rattle.program_soundness.specs.declaration_rules.specs.BodyNames.{component_role, components_scope, operation_entity, operations_scope}
use Rattle.program_soundness.specs.unit_rules.specs.ProtectedBodyRules.{protected_item_scope, protected_items_scope}
use Rattle.legality.specs.ProgramRules.{IsLegal}
use Rattle.program_soundness.specs.ravenscar.specs.ProgramRules.{IsRestricted}
use Rattle.expr_soundness.specs.Laws.{ScopesAreSound}
use Rattle.expr_soundness.specs.meaning.specs.Programs.{Program, program_of}
use Rattle.expr_soundness.proofs.Hiding.{has_types, same_forms}
use Rattle.program_soundness.specs.BodyLaws.{NamesAreKnown, PremisesHold}
use Rattle.program_soundness.specs.Fronts.{declared_in, front, scope_at, start_in}
use Rattle.program_soundness.proofs.BodyProfiles.{subtype_kept}
use Rattle.program_soundness.proofs.Listing.{or_else_some, same_some, within_taken}
use Rattle.program_soundness.proofs.Moved.{IsHidden, hidden_stands, offering_subtype, profile_moved}
use Rattle.program_soundness.proofs.ObjectBodies as bodies
use Rattle.program_soundness.proofs.ObjectTrees.{component_object, components_named, operations_named}
use Rattle.program_soundness.proofs.Offering.{item_of}
use Rattle.program_soundness.proofs.Parted.{component_found}
use Rattle.program_soundness.proofs.Same.{SameTypes, types_then, types_with_all}
use Rattle.program_soundness.proofs.Walked.{Origin, ProtectedOnes, declares, kept_all, kind, origin, own_profile}
use Rattle.program_soundness.proofs.Whole.{IsPackage, kept, profile_known}
use Rattle.program_soundness.proofs.WiderScopes.{found_in, number_stands, one_named, same_bytes, stands, stands_with}
use Rattle.package_code.specs.Bodies.{Coded, operation_front, own_head, own_name}
use Rattle.package_code.proofs.ObjectNames.{components_are, declaration}
use Rattle.package_code.proofs.OperationsAdded as added

-- ---- entities

-- what offers no operations stands for the same where those of an object are hidden
pub same_before : (b e : Entity) → (b ≡ e) ⊎ (offering [] b ≡ e) → (kind e ≡ ProtectedOnes → ⊥) → b ≡ e
same_before b e (inl h) plain = h
same_before (Protected o) e (inr h) plain = absurd (plain (sym (ap kind h)))
same_before b e (inr h) plain = h

-- ... and the own object offers none
protected_before : (b : Entity) (q : ProtectedObject) → (b ≡ Protected q) ⊎ (offering [] b ≡ Protected q) → (b ≡ Protected q) ⊎ (q.operations ≡ [])
protected_before b q (inl h) = inl h
protected_before (Protected o) q (inr h) =
    let operations_in : Entity → List Operation = λ e. elim e [ Protected z ↦ z.operations | other ↦ [] ] in inr (sym (ap operations_in h))
protected_before b q (inr h) = inl h

before_subtype : (b e : Entity) → (b ≡ e) ⊎ (offering [] b ≡ e) → subtype_in (Some b) ≡ subtype_in (Some e)
before_subtype b e (inl h) = ap (λ z. subtype_in (Some z)) h
before_subtype b e (inr h) = sym (offering_subtype b) ∙ ap (λ z. subtype_in (Some z)) h

pub named_unit : (i : ProtectedItemTree) → own_name i ≡ bodies.unit_name i
named_unit (OperationBody d b) = refl
named_unit (EntryBody d barrier b) = refl

-- ---- types: none of what an object's body adds is one

types_with : (s : Scope) (name : List ℕ) (e : Entity) → form_of (Some e) ≡ None → SameTypes s (with_name s name e)
types_with s name e plain = types_with_all s (record { name = name; entity = e } ∷ []) (plain, tt)

types_hidden : (s : Scope) (n : ℕ) → SameTypes s (with_operations s n [])
types_hidden s n = record { forms = λ m. same_forms s n [] m; shapes = λ m form h. (has_types s n).shapes m form h }

operation_form : (o : Operation) → form_of (Some (operation_entity o)) ≡ None
operation_form o = by_kind o.is_entry
  where
    by_kind : (b : Bool) → form_of (Some (elim b [ true ↦ entity.Entry o.profile | false ↦ Subprogram o.profile ])) ≡ None
    by_kind true = refl
    by_kind false = refl

types_operations : (s : Scope) (os : List Operation) → SameTypes s (operations_scope s os)
types_operations s [] = types_with_all s [] tt
types_operations s (o ∷ os) =
    let next = with_name s o.name (operation_entity o) in
    types_then s next (operations_scope next os) (types_with s o.name (operation_entity o) (operation_form o)) (types_operations next os)

types_components : (s : Scope) (f : Bool) (cs : List RecordComponent) → SameTypes s (components_scope s f cs)
types_components s f [] = types_with_all s [] tt
types_components s f (c ∷ cs) =
    let next = with_name s c.name (entity.Object (component_role f) c.subtype) in
    types_then s next (components_scope next f cs) (types_with s c.name (entity.Object (component_role f) c.subtype) refl) (types_components next f cs)

profile_form : (o : Option Profile) → form_of (Some (profile_entity o)) ≡ None
profile_form (Some p) = refl
profile_form None = refl

types_item : (s : Scope) (i : ProtectedItemTree) → SameTypes s (protected_item_scope s i)
types_item s (OperationBody d b) = types_with s d.name.name (profile_entity (own_profile s d)) (profile_form (own_profile s d))
types_item s (EntryBody d barrier b) = types_with_all s [] tt

types_items : (s : Scope) (is : List ProtectedItemTree) → SameTypes s (protected_items_scope s is)
types_items s [] = types_with_all s [] tt
types_items s (i ∷ is) =
    types_then s (protected_item_scope s i) (protected_items_scope (protected_item_scope s i) is) (types_item s i)
    (types_items (protected_item_scope s i) is)

types_front : (s : Scope) (cs : List RecordComponent) (i : ProtectedItemTree) → SameTypes s (operation_front s cs i)
types_front s cs (OperationBody d b) =
    let before = components_scope s (is_some d.result) cs in
    types_then s before (operation_front s cs (OperationBody d b)) (types_components s (is_some d.result) cs)
    (types_with before d.name.name (profile_entity (own_profile before d)) (profile_form (own_profile before d)))
types_front s cs (EntryBody d barrier b) = types_components s false cs

-- ---- in front of an operation or entry

module _ (scopes : ScopesAreSound) (known : NamesAreKnown) (premises : PremisesHold) (t : ProgramTree) (legal : IsLegal t) (restricted : IsRestricted t)
    (place k : ℕ) (c : Coded) (x : added.IsInObject scopes known premises t legal restricted place k c) where
  abbrev program : Program
  program = program_of t

  abbrev start : Scope
  start = start_in t.package_

  abbrev all : List BodyItemTree
  all = declared_in t.package_

  abbrev w : IsPackage program start all
  w = added.w scopes known premises t legal restricted

  abbrev pub object : ProtectedObject
  object = added.obj scopes known premises t legal restricted place x.name x.items x.end_name x.at

  -- its components are constants in a function
  abbrev pub is_function : Bool
  is_function = is_some (own_head x.item).result

  -- in front of the whole body
  abbrev pub here : Scope
  here = front t place

  -- the number of the object's name there
  abbrev own_number : ℕ
  own_number = (bodies.named_n program start all w place x.name x.items x.end_name x.at).0

  -- ... without the operations behind its name, and with them in place of these
  abbrev hidden : Scope
  hidden = bodies.hidden program start all w place x.name x.items x.end_name x.at

  abbrev begun : Scope
  begun = bodies.begun program start all w place x.name x.items x.end_name x.at

  abbrev inner : List BodyItemTree
  inner = bodies.inner program start all w place x.name x.items x.end_name x.at

  -- ... in front of the operation of this number, and with the components
  abbrev pub at_ : ℕ → Scope
  at_ j = scope_at begun inner j

  abbrev pub seen_at : ℕ → Bool → Scope
  seen_at j f = components_scope (at_ j) f object.components

  -- behind the last operation
  abbrev pub ended : Scope
  ended = bodies.ended program start all w place x.name x.items x.end_name x.at

  pub front_is : c.front ≡ operation_front (at_ k) object.components x.item
  front_is =
      ap (λ z. z.front) x.is
      ∙ ap (λ z. operation_front z object.components x.item) (added.same_scope scopes known premises t legal restricted place x.name x.items x.end_name x.at k)

  -- each body has the profile that its name stands for
  pub owned : (j : ℕ) (i : ProtectedItemTree) → slice_get x.items j ≡ Some i
      → bodies.HasOwn program start all w place x.name x.items x.end_name x.at i
  owned = added.owned scopes known premises t legal restricted place x.name x.items x.end_name x.at

  -- ---- types are those in front of the whole body

  types_begun : SameTypes here begun
  types_begun = types_then here hidden begun (types_hidden here own_number) (types_operations hidden (operations_or (protected_at here own_number) []))

  pub types_at : (j : ℕ) → SameTypes here (at_ j)
  types_at j =
      types_then here begun (at_ j) types_begun
      (subst (SameTypes begun) (added.same_scope scopes known premises t legal restricted place x.name x.items x.end_name x.at j)
      (types_items begun (take j x.items)))

  pub types_seen : (j : ℕ) (f : Bool) → SameTypes here (seen_at j f)
  types_seen j f = types_then here (at_ j) (seen_at j f) (types_at j) (types_components (at_ j) f object.components)

  pub types_there : SameTypes here c.front
  types_there =
      subst (SameTypes here) (sym front_is)
      (types_then here (at_ k) (operation_front (at_ k) object.components x.item) (types_at k) (types_front (at_ k) object.components x.item))

  -- ---- where a name comes from

  -- the name is that of an operation or entry of the object, and stands for what its body is
  pub record IsOperation (name : List ℕ) (e : Entity) : Type 0 where
    pub index : ℕ
    pub item : ProtectedItemTree
    pub there : slice_get x.items index ≡ Some item
    pub named : own_name item ≡ name
    pub is : e ≡ bodies.unit_entity item (owned index item there).profile

  -- the front's (`IsHidden`: the object itself offers nothing), an operation, or a component
  abbrev pub CameBy : Bool → List ℕ → Entity → Type 0
  CameBy f name e = IsHidden here name e ⊎ (IsOperation name e ⊎ (found_in (components_named f object.components) name ≡ Some e))

  operation_by : (name : List ℕ) (e : Entity) → stands ended name ≡ Some e → (j : ℕ) (i : ProtectedItemTree) → slice_get x.items j ≡ Some i
      → own_name i ≡ name → IsOperation name e
  operation_by name e h j i there named =
      record {
        index = j;
        item = i;
        there = there;
        named = named;
        is = same_some e (bodies.unit_entity i (owned j i there).profile)
            (sym h ∙ ap (stands ended) (sym named ∙ named_unit i) ∙ (owned j i there).stands_);
      }

  came_begun : (name : List ℕ) (e : Entity) → stands begun name ≡ Some e → IsHidden here name e ⊎ IsOperation name e
  came_begun name e h = by_case (or_else_some (stands hidden name) (found_in (operations_named object.operations) name) e found)
    where
      found : or_else (stands hidden name) (found_in (operations_named object.operations) name) ≡ Some e
      found = sym (bodies.stands_begun program start all w place x.name x.items x.end_name x.at name) ∙ h

      declared : bodies.IsOperationHere program start all w place x.name x.items x.end_name x.at name e → IsOperation name e
      declared o =
          let i = item_of program start all w place x.name x.items x.end_name x.at owned name o.index o.one o.there_ o.named in
          operation_by name e (kept_all begun inner name e h) i.0 i.1 i.2 (named_unit i.1 ∙ i.3)

      by_case : (stands hidden name ≡ Some e) ⊎ ((stands hidden name ≡ None) × (found_in (operations_named object.operations) name ≡ Some e))
          → IsHidden here name e ⊎ IsOperation name e
      by_case (inl i) = inl (hidden_stands here own_number name e i)
      by_case (inr i) = inr (declared (bodies.operation_here program start all w place x.name x.items x.end_name x.at name e i.1))

  came_at : (j : ℕ) (name : List ℕ) (e : Entity) → stands (at_ j) name ≡ Some e → IsHidden here name e ⊎ IsOperation name e
  came_at j name e h = by_origin (origin begun (take j inner) name e h)
    where
      by_origin : (stands begun name ≡ Some e) ⊎ Origin begun (take j inner) name e → IsHidden here name e ⊎ IsOperation name e
      by_origin (inl i) = came_begun name e i
      by_origin (inr o) =
          let there = within_taken inner j o.place o.item o.at in
          let before = scope_at begun (take j inner) o.place in
          let y : Named = record { name = name; entity = e } in
          let one = bodies.as_one program start all w place x.name x.items x.end_name x.at before o.place o.item y there.1 o.declared in
          let own : Named = record { name = one.0.name.name; entity = profile_entity (own_profile before one.0) } in
          let named : one.0.name.name ≡ name = ap (λ z. z.name) (same_some own y (ap (declares before) (sym one.3) ∙ o.declared)) in
          inr
          (operation_by name e (bodies.kept_ended program start all w place x.name x.items x.end_name x.at j name e h) o.place (OperationBody one.0 one.1) one.2
          named)

  pub came_seen : (j : ℕ) (f : Bool) (name : List ℕ) (e : Entity) → stands (seen_at j f) name ≡ Some e → CameBy f name e
  came_seen j f name e h = by_case (or_else_some (stands (at_ j) name) (found_in (components_named f object.components) name) e found)
    where
      found : or_else (stands (at_ j) name) (found_in (components_named f object.components) name) ≡ Some e
      found = sym (bodies.stands_seen program start all w place x.name x.items x.end_name x.at j f name) ∙ h

      by_case : (stands (at_ j) name ≡ Some e) ⊎ ((stands (at_ j) name ≡ None) × (found_in (components_named f object.components) name ≡ Some e))
          → CameBy f name e
      by_case (inl i) = elim (came_at j name e i) [ inl y ↦ inl y | inr y ↦ inr (inl y) ]
      by_case (inr i) = inr (inr i.1)

  -- the own name of a procedure or function stands for what it stands for behind the whole body
  came_own : (j : ℕ) (d : SubprogramTree) (b : BodyTree) → slice_get x.items j ≡ Some (OperationBody d b) → (name : List ℕ) (e : Entity)
      → stands (operation_front (at_ j) object.components (OperationBody d b)) name ≡ Some e → name ≡ d.name.name
      → profile_entity (own_profile (seen_at j (is_some d.result)) d) ≡ e → IsOperation name e
  came_own j d b at name e there named is =
      let seen = seen_at j (is_some d.result) in
      let behind = operation_front (at_ j) object.components (OperationBody d b) in
      let sound = added.inners scopes known premises t legal restricted place x.name x.items x.end_name x.at j d b at in
      let own = profile_known (own_profile seen d) (λ i. let n = number_stands behind name e there in sound.each n.0 Doubtful (n.2 ∙ ap Some (sym is ∙ i))) in
      let mine = owned j (OperationBody d b) at in
      let types = bodies.types_seen program start all w place x.name x.items x.end_name x.at j (is_some d.result) in
      let moved = profile_moved seen program.scope types d.formals d.result own.0 own.1 in
      let same = same_some own.0 mine.profile (sym moved ∙ mine.own) in
      record {
        index = j;
        item = OperationBody d b;
        there = at;
        named = sym named;
        is = sym is ∙ ap profile_entity own.1 ∙ ap Subprogram same;
      }

  came_front : (i : ProtectedItemTree) → slice_get x.items k ≡ Some i → (name : List ℕ) (e : Entity)
      → stands (operation_front (at_ k) object.components i) name ≡ Some e → CameBy (is_some (own_head i).result) name e
  came_front (OperationBody d b) at name e h =
      by_case (or_else_some (stands seen name) (one_named own_named name) e (sym (stands_with seen d.name.name own_entity name) ∙ h))
    where
      seen : Scope
      seen = seen_at k (is_some d.result)

      own_entity : Entity
      own_entity = profile_entity (own_profile seen d)

      own_named : Named
      own_named = record { name = d.name.name; entity = own_entity }

      by_name : (q : Bool) → bytes_eq name d.name.name ≡ q → cond q (Some own_entity) None ≡ Some e → CameBy (is_some d.result) name e
      by_name true i y = inr (inl (came_own k d b at name e h (same_bytes name d.name.name i) (same_some own_entity e y)))
      by_name false i y = cc

      by_case : (stands seen name ≡ Some e) ⊎ ((stands seen name ≡ None) × (one_named own_named name ≡ Some e)) → CameBy (is_some d.result) name e
      by_case (inl i) = came_seen k (is_some d.result) name e i
      by_case (inr i) = by_name (bytes_eq name d.name.name) refl i.1
  came_front (EntryBody d barrier b) at name e h = came_seen k false name e h

  abbrev pub CameFrom : List ℕ → Entity → Type 0
  CameFrom name e = CameBy is_function name e

  pub came_from : (name : List ℕ) (e : Entity) → stands c.front name ≡ Some e → CameFrom name e
  came_from name e h = came_front x.item x.there name e (ap (λ s. stands s name) (sym front_is) ∙ h)

  -- ---- objects

  -- the name is that of a component, which the program's object has
  pub record IsComponent (name : List ℕ) (r : Role) (u : Subtype) : Type 0 where
    pub role : r ≡ component_role is_function
    pub among : found_in (components_named is_function object.components) name ≡ Some (entity.Object r u)
    pub part : places.Object
    pub found : object_of (program.components object.number) name ≡ Some part
    pub typed : part.subtype ≡ u

  component_by : (name : List ℕ) (r : Role) (u : Subtype) → found_in (components_named is_function object.components) name ≡ Some (entity.Object r u)
      → IsComponent name r u
  component_by name r u h =
      let d = declaration scopes known premises t legal restricted place x.name x.items x.end_name x.at in
      let first =
      component_found program.scope (scope_at start all d.place) is_function d.tree.components object.components name (entity.Object r u)
      (λ y v i. subtype_kept (scope_at start all d.place) program.scope (kept program start all w d.place) y.subtype v i)
      (bodies.components_of program start all w x.name.name object d) h in
      let role_in : Entity → Role = λ e. elim e [ entity.Object q v ↦ q | other ↦ r ] in
      let subtype_in : Entity → Subtype = λ e. elim e [ entity.Object q v ↦ v | other ↦ u ] in
      record {
        role = ap role_in first.2;
        among = h;
        part = first.0;
        found = ap (λ l. object_of l name) (components_are scopes known premises t legal restricted place x.name x.items x.end_name x.at) ∙ first.1;
        typed = sym (ap subtype_in first.2);
      }

  -- each object is visible in front of the whole body, or a component
  pub object_named : (name : List ℕ) (r : Role) (u : Subtype) → stands c.front name ≡ Some (entity.Object r u)
      → (stands here name ≡ Some (entity.Object r u)) ⊎ IsComponent name r u
  object_named name r u h = by_came (came_from name (entity.Object r u) h)
    where
      by_item : (i : ProtectedItemTree) (p : Profile) → entity.Object r u ≡ bodies.unit_entity i p → ⊥
      by_item (OperationBody d b) p e = cc
      by_item (EntryBody d barrier b) p e = cc

      by_came : CameFrom name (entity.Object r u) → (stands here name ≡ Some (entity.Object r u)) ⊎ IsComponent name r u
      by_came (inl y) = inl (y.stands_ ∙ ap Some (same_before y.before (entity.Object r u) y.same (λ i. cc)))
      by_came (inr (inl y)) = absurd (by_item y.item (owned y.index y.item y.there).profile y.is)
      by_came (inr (inr y)) = inr (component_by name r u y)

  -- ---- subprograms

  -- the name is that of a procedure or function of the object
  pub record IsOwnSubprogram (name : List ℕ) (p : Profile) : Type 0 where
    pub index : ℕ
    pub subprogram : SubprogramTree
    pub body : BodyTree
    pub there : slice_get x.items index ≡ Some (OperationBody subprogram body)
    pub named : subprogram.name.name ≡ name
    pub own : own_profile program.scope subprogram ≡ Some p

  not_component : (name : List ℕ) (e : Entity) → found_in (components_named is_function object.components) name ≡ Some e
      → ((r : Role) (u : Subtype) → e ≡ entity.Object r u → ⊥) → ⊥
  not_component name e h never = let o = component_object is_function object.components name e h in never (component_role is_function) o.0 o.1

  pub subprogram_named : (name : List ℕ) (p : Profile) → stands c.front name ≡ Some (Subprogram p)
      → (stands here name ≡ Some (Subprogram p)) ⊎ IsOwnSubprogram name p
  subprogram_named name p h = by_came (came_from name (Subprogram p) h)
    where
      profile_in : Entity → Profile
      profile_in (Subprogram q) = q
      profile_in e = p

      by_item : (j : ℕ) (i : ProtectedItemTree) → slice_get x.items j ≡ Some i → own_name i ≡ name → (q : Profile)
          → bodies.OwnProfile program start all w place x.name x.items x.end_name x.at i q → Subprogram p ≡ bodies.unit_entity i q → IsOwnSubprogram name p
      by_item j (OperationBody d b) there named q own is =
          record { index = j; subprogram = d; body = b; there = there; named = named; own = own ∙ ap Some (sym (ap profile_in is)) }
      by_item j (EntryBody d barrier b) there named q own is = cc

      by_came : CameFrom name (Subprogram p) → (stands here name ≡ Some (Subprogram p)) ⊎ IsOwnSubprogram name p
      by_came (inl y) = inl (y.stands_ ∙ ap Some (same_before y.before (Subprogram p) y.same (λ i. cc)))
      by_came (inr (inl y)) =
          let own = owned y.index y.item y.there in inr (by_item y.index y.item y.there y.named own.profile own.own y.is)
      by_came (inr (inr y)) = absurd (not_component name (Subprogram p) y (λ r u e. cc))

  -- ---- exceptions and protected objects

  pub exception_named : (name : List ℕ) → stands c.front name ≡ Some Exception → stands here name ≡ Some Exception
  exception_named name h = by_came (came_from name Exception h)
    where
      by_item : (i : ProtectedItemTree) (p : Profile) → Exception ≡ bodies.unit_entity i p → ⊥
      by_item (OperationBody d b) p e = cc
      by_item (EntryBody d barrier b) p e = cc

      by_came : CameFrom name Exception → stands here name ≡ Some Exception
      by_came (inl y) = y.stands_ ∙ ap Some (same_before y.before Exception y.same (λ i. cc))
      by_came (inr (inl y)) = absurd (by_item y.item (owned y.index y.item y.there).profile y.is)
      by_came (inr (inr y)) = absurd (not_component name Exception y (λ r u e. cc))

  -- each protected object is visible in front of the whole body, or the own one, which offers nothing
  pub protected_named : (name : List ℕ) (q : ProtectedObject) → stands c.front name ≡ Some (Protected q)
      → (stands here name ≡ Some (Protected q)) ⊎ (q.operations ≡ [])
  protected_named name q h = by_came (came_from name (Protected q) h)
    where
      by_item : (i : ProtectedItemTree) (p : Profile) → Protected q ≡ bodies.unit_entity i p → ⊥
      by_item (OperationBody d b) p e = cc
      by_item (EntryBody d barrier b) p e = cc

      by_came : CameFrom name (Protected q) → (stands here name ≡ Some (Protected q)) ⊎ (q.operations ≡ [])
      by_came (inl y) = elim (protected_before y.before q y.same) [ inl i ↦ inl (y.stands_ ∙ ap Some i) | inr i ↦ inr i ]
      by_came (inr (inl y)) = absurd (by_item y.item (owned y.index y.item y.there).profile y.is)
      by_came (inr (inr y)) = absurd (not_component name (Protected q) y (λ r u e. cc))

  -- ---- subtypes

  -- each subtype that is named is that of the name in front of the whole body
  pub subtype_named : (name : Identifier) (u : Subtype) → subtype_of c.front name ≡ Some u → subtype_of here name ≡ Some u
  subtype_named name u h = by_stands (stands c.front name.name) refl h
    where
      by_item : (i : ProtectedItemTree) (p : Profile) → subtype_in (Some (bodies.unit_entity i p)) ≡ Some u → ⊥
      by_item (OperationBody d b) p e = cc
      by_item (EntryBody d barrier b) p e = cc

      by_came : (e : Entity) → subtype_in (Some e) ≡ Some u → CameFrom name.name e → subtype_of here name ≡ Some u
      by_came e i (inl y) = ap subtype_in y.stands_ ∙ before_subtype y.before e y.same ∙ i
      by_came e i (inr (inl y)) = absurd (by_item y.item (owned y.index y.item y.there).profile (ap (λ z. subtype_in (Some z)) (sym y.is) ∙ i))
      by_came e i (inr (inr y)) = absurd (not_component name.name e y (λ r v is. let bad = ap (λ z. subtype_in (Some z)) (sym is) ∙ i in cc))

      by_stands : (o : Option Entity) → stands c.front name.name ≡ o → subtype_in o ≡ Some u → subtype_of here name ≡ Some u
      by_stands (Some e) is i = by_came e i (came_from name.name e is)
      by_stands None is i = cc
