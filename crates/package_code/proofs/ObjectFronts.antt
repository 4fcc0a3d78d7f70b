-- What is visible in front of the parameters of a protected object's operation: its names mean what they stand for, and the words of components and of the
-- package's variables have their places (RM 9.4, 9.5.1).
use Rattle.std.proofs.Common.{◌≡◌, ◌≢◌, ◌⊎◌, inl, inr, ℕ, ◌+◌, List, [], ◌∷◌, cond, Option, Some, None, Bool, true, false, refl, sym, ap, ◌∙◌, subst}
use Rattle.std.specs.Prelude.{bytes_eq, if◌then◌else◌, is_some, option_map, slice_get}
use Rattle.ada_tree.specs.declared.expression.Identifier.{Identifier}
use Rattle.ada_tree.specs.ProgramTree.{BodyItemTree, OperationBody, EntryBody, ProgramTree, ProtectedBody, ProtectedItemTree}
use Rattle.image.specs.Sections.{Sections}
use Rattle.image.specs.declared.instruction.Region.TheVariants as regions
use Rattle.types.specs.declared.entity.RecordComponent.{RecordComponent}
use Rattle.types.specs.declared.entity.Role.{Role}
use Rattle.types.specs.declared.entity.Role.TheVariants as role
use Rattle.types.specs.declared.entity.Subtype.{Subtype}
use Rattle.types.specs.Entities.{Entity, Operation, Profile, Protected, ProtectedObject, Subprogram}
use Rattle.types.specs.Entities as entity
use Rattle.types.specs.Layouts.{words_of}
use Rattle.types.specs.Places.{Function, Object, Place, function_of, object_of, or_else}
use Rattle.types.specs.Scopes.{Scope, offering}
use Rattle.declaration_rules.specs.BodyNames.{component_role, components_scope, formals_scope}
use Rattle.program_soundness.specs.stmt_rules.specs.declared.around.BodyKind.TheVariants as kinds
use Rattle.program_soundness.specs.stmt_rules.specs.SimpleRules.{condition_faults}
use Rattle.unit_rules.specs.BodyRules.{body_faults}
use Rattle.unit_rules.specs.ProtectedBodyRules.{entry_rule, protected_item_faults}
use Rattle.type_rules.specs.ProfileRules.{formals_faults}
use Rattle.type_rules.specs.SubtypeNames.{end_rule, subtype_of}
use Rattle.program_soundness.specs.legality.specs.ProgramRules.{IsLegal}
use Rattle.ravenscar.specs.ProgramRules.{IsRestricted}
use Rattle.expr_soundness.specs.Agreeing.{Agrees}
use Rattle.expr_soundness.specs.Answers.{FunctionsAreSound}
use Rattle.expr_soundness.specs.SoundScopes.{SoundScope}
use Rattle.expr_soundness.specs.expr_rules.proofs.TypedLaw.{back_empty, front_empty}
use Rattle.expr_soundness.proofs.Goods.{object_known}
use Rattle.expr_soundness.proofs.Positions.{entity_number}
use Rattle.expr_soundness.specs.meaning.specs.Calls.{procedure_among, procedure_here}
use Rattle.expr_soundness.specs.meaning.specs.Programs.{Procedure, Program, program_of}
use Rattle.expr_soundness.specs.meaning.specs.Works.{Store}
use Rattle.program_soundness.specs.step_soundness.specs.Fitting.{FitsScope}
use Rattle.program_soundness.specs.step_soundness.specs.Holding.{inside}
use Rattle.program_soundness.specs.step_soundness.specs.Objects.{AreSoundObjects, first_store}
use Rattle.program_soundness.specs.BodyLaws.{IsSoundMemory}
use Rattle.program_soundness.specs.Fronts.{declared_in, front, start_in}
use Rattle.program_soundness.proofs.Agreed.{OffersAll}
use Rattle.program_soundness.proofs.Assembled as assembled
use Rattle.program_soundness.proofs.Called.{function_entity}
use Rattle.program_soundness.proofs.Listing.{same_some}
use Rattle.program_soundness.proofs.Moved.{hidden_stands}
use Rattle.program_soundness.proofs.ObjectBodies as bodies
use Rattle.program_soundness.proofs.ObjectCalls.{function_inside, outside_function, outside_procedure, procedure_inside}
use Rattle.program_soundness.proofs.ObjectFits as fits
use Rattle.program_soundness.proofs.ObjectTrees.{components_named}
use Rattle.program_soundness.proofs.OfObjects as operations
use Rattle.program_soundness.proofs.Same.{SameTypes}
use Rattle.program_soundness.proofs.Whole.{variable_entity, entity_variable}
use Rattle.program_soundness.proofs.WiderScopes.{found_in, number_stands, stands, stands_number}
use Rattle.expr_code.specs.Seeing.{AreSuited, HasObjects, NamesProfile, Package, object_named, slot_of, subprogram_of, subtype_among}
use Rattle.expr_code.specs.declared.visible.Slot.{Slot}
use Rattle.step_simulation.specs.part_code.specs.Layout.{AreApart, EndsBelow, IsLaidOut, NamesObject}
use Rattle.step_simulation.specs.part_code.specs.Resting.{Framed}
use Rattle.step_simulation.specs.part_code.proofs.Names.{is_told}
use Rattle.stmt_code.proofs.EnteringObjects.{IsOfObject, IsPlacedIn, rests_object}
use Rattle.package_code.specs.Bodies.{bodies_before, number_in, operation_front, own_body, own_head, own_name}
use Rattle.package_code.specs.Owners.{in_object}
use Rattle.package_code.specs.Package.{IsInFront, IsInOrder, IsPackageOf, place_among}
use Rattle.package_code.proofs.BodyFronts.{IsAtEntry, IsBehindName, IsBodyFront, IsEntrance, body_words}
use Rattle.package_code.proofs.InFront.{LawsOfNames, kept_behind, known, memory, names, whole}
use Rattle.package_code.proofs.InOrder.{has_place, stands_there}
use Rattle.package_code.proofs.OperationsAdded as added
use Rattle.package_code.proofs.BareOperations.{bare_operation}
use Rattle.package_code.proofs.Offered.{entry_number, object_entity, offered, offered_number, procedure_named}
use Rattle.package_code.proofs.OperationBodies as own

-- ---- entities

-- where operations are hidden an object is the same
not_offering : (b : Entity) (r : Role) (t : Subtype) → offering [] b ≡ entity.Object r t → b ≡ entity.Object r t
not_offering (Protected o) r t h = cc
not_offering b r t h = h

object_before : (b : Entity) (r : Role) (t : Subtype) → (b ≡ entity.Object r t) ⊎ (offering [] b ≡ entity.Object r t) → b ≡ entity.Object r t
object_before b r t (inl h) = h
object_before b r t (inr h) = not_offering b r t h

-- ... and what offered operations offers none
pub protected_before : (b : Entity) (q : ProtectedObject) → (b ≡ Protected q) ⊎ (offering [] b ≡ Protected q)
    → (o : ProtectedObject) × (b ≡ Protected o) × ((q ≡ o) ⊎ (q.operations ≡ []))
protected_before b q (inl h) = (q, h, inl refl)
protected_before (Protected o) q (inr h) =
    let operations_of : Entity → List Operation = λ e. elim e [ Protected z ↦ z.operations | other ↦ [] ] in (o, refl, inr (sym (ap operations_of h)))
protected_before b q (inr h) = (q, h, inl refl)

-- a component is an object
pub component_entity : (f : Bool) (cs : List RecordComponent) (name : List ℕ) (e : Entity) → found_in (components_named f cs) name ≡ Some e
    → (t : Subtype) × (e ≡ entity.Object (component_role f) t)
component_entity f [] name e h = cc
component_entity f (c ∷ cs) name e h = by_test (bytes_eq name c.name) h (component_entity f cs name e)
  where
    by_test : (b : Bool) → or_else (cond b (Some (entity.Object (component_role f) c.subtype)) None) (found_in (components_named f cs) name) ≡ Some e
        → (found_in (components_named f cs) name ≡ Some e → (t : Subtype) × (e ≡ entity.Object (component_role f) t))
        → (t : Subtype) × (e ≡ entity.Object (component_role f) t)
    by_test true k later = (c.subtype, sym (same_some (entity.Object (component_role f) c.subtype) e k))
    by_test false k later = later k

named_unit : (i : ProtectedItemTree) → own_name i ≡ bodies.unit_name i
named_unit (OperationBody d b) = refl
named_unit (EntryBody d barrier b) = refl

-- ---- an operation or an entry

module _ (laws : LawsOfNames) (t : ProgramTree) (legal : IsLegal t) (restricted : IsRestricted t)
    (place : ℕ) (name : Identifier) (items : List ProtectedItemTree) (end_name : Identifier)
    (at : slice_get (declared_in t.package_) place ≡ Some (ProtectedBody name items end_name))
    (k : ℕ) (unit_ : ProtectedItemTree) (there : slice_get items k ≡ Some unit_) where
  abbrev program : Program
  program = program_of t

  abbrev start : Scope
  start = start_in t.package_

  abbrev all : List BodyItemTree
  all = declared_in t.package_

  abbrev pub object : ProtectedObject
  object = own.object laws.scopes laws.names laws.premises t legal restricted place name items end_name at

  abbrev pub is_function : Bool
  is_function = is_some (own_head unit_).result

  abbrev earlier : Scope
  earlier = own.earlier laws.scopes laws.names laws.premises t legal restricted place name items end_name at k

  -- what is visible in front of the whole body, and in front of its parameters
  abbrev outer : Scope
  outer = components_scope earlier is_function object.components

  abbrev pub seen : Scope
  seen = operation_front earlier object.components unit_

  -- ---- names come from the front, from the object's operations or from its components

  module _ (m : Store) (sound : IsSoundMemory program m) where
    pub offers : (x : List ℕ) (o : ProtectedObject) → stands program.scope x ≡ Some (Protected o) → OffersAll program o
    offers = assembled.offers laws.scopes t m legal restricted (names laws t legal restricted) (known laws t legal restricted) sound

    pub own_items : (j : ℕ) (i : ProtectedItemTree) → slice_get items j ≡ Some i
        → bodies.HasOwn program start all (whole laws t legal restricted) place name items end_name at i
    own_items = added.owned laws.scopes laws.names laws.premises t legal restricted place name items end_name at

    abbrev Came : List ℕ → Entity → Type 0
    Came x e =
        fits.CameTo program start all (whole laws t legal restricted) (known laws t legal restricted) laws.scopes m sound offers
        (names laws t legal restricted).fronts place name items end_name at own_items is_function x e

    pub sounds : bodies.SeenSound program start all (whole laws t legal restricted) place name items end_name at
    sounds = added.sounds laws.scopes laws.names laws.premises t legal restricted place name items end_name at

    pub inners : bodies.InnerSound program start all (whole laws t legal restricted) place name items end_name at
    inners = added.inners laws.scopes laws.names laws.premises t legal restricted place name items end_name at

    -- in front of the whole body, as the laws of such bodies say it
    abbrev at_ : Scope
    at_ = bodies.at_ program start all (whole laws t legal restricted) place name items end_name at k

    same_seen : seen ≡ operation_front at_ object.components unit_
    same_seen =
        ap (λ z. operation_front z object.components unit_)
        (added.same_scope laws.scopes laws.names laws.premises t legal restricted place name items end_name at k)

    came_by : (x : ProtectedItemTree) → slice_get items k ≡ Some x → (n : List ℕ) (e : Entity) → stands (operation_front at_ object.components x) n ≡ Some e
        → fits.CameTo program start all (whole laws t legal restricted) (known laws t legal restricted) laws.scopes m sound offers
        (names laws t legal restricted).fronts place name items end_name at own_items (is_some (own_head x).result) n e
    came_by (OperationBody d b) is n e h =
        operations.came program start all (whole laws t legal restricted) (known laws t legal restricted) laws.scopes m sound offers
        (names laws t legal restricted).fronts place name items end_name at own_items sounds inners k d b is n e h
    came_by (EntryBody d barrier b) is n e h =
        fits.came_seen program start all (whole laws t legal restricted) (known laws t legal restricted) laws.scopes m sound offers
        (names laws t legal restricted).fronts place name items end_name at own_items sounds k (EntryBody d barrier b) is false n e h

    pub came_seen : (x : List ℕ) (e : Entity) → stands seen x ≡ Some e → Came x e
    came_seen x e h = came_by unit_ there x e (ap (λ z. stands z x) (sym same_seen) ∙ h)

    types_by : (x : ProtectedItemTree) → slice_get items k ≡ Some x
        → SameTypes (bodies.hidden program start all (whole laws t legal restricted) place name items end_name at) (operation_front at_ object.components x)
    types_by (OperationBody d b) is =
        operations.types program start all (whole laws t legal restricted) (known laws t legal restricted) laws.scopes m sound offers
        (names laws t legal restricted).fronts place name items end_name at own_items sounds inners k d b is
    types_by (EntryBody d barrier b) is =
        fits.seen_types program start all (whole laws t legal restricted) (known laws t legal restricted) laws.scopes m sound offers
        (names laws t legal restricted).fronts place name items end_name at own_items k false

    sound_by : (x : ProtectedItemTree) → slice_get items k ≡ Some x → SoundScope (operation_front at_ object.components x)
    sound_by (OperationBody d b) is = inners k d b is
    sound_by (EntryBody d barrier b) is = sounds k (EntryBody d barrier b) is false

    seen_fits : (p : Place) → FitsScope program seen (inside program m (record { within = Some object.number; locals = [] }) p)
    seen_fits p =
        subst (λ z. FitsScope program z (inside program m (record { within = Some object.number; locals = [] }) p)) (sym same_seen)
        (fits.object_fits program start all (whole laws t legal restricted) (known laws t legal restricted) laws.scopes m sound offers
        (names laws t legal restricted).fronts place name items end_name at own_items is_function (operation_front at_ object.components unit_)
        (sound_by unit_ there) (types_by unit_ there) (came_by unit_ there) p)

  -- no rule is broken there
  abbrev IsOwnFront : ProtectedItemTree → Type 0
  IsOwnFront x =
      let before = components_scope earlier (is_some (own_head x).result) object.components in
      let behind = operation_front earlier object.components x in
      IsBehindName before behind (own_head x) (own_body x) ⊎ IsAtEntry before behind (own_head x)

  own_front : (x : ProtectedItemTree) → slice_get items k ≡ Some x → IsOwnFront x
  own_front x is = by_item x (subst (λ z. protected_item_faults z object.components x ≡ [])
      (sym (added.same_scope laws.scopes laws.names laws.premises t legal restricted place name items end_name at k))
      (bodies.item_legal program start all (whole laws t legal restricted) place name items end_name at k x is))
    where
      by_item : (y : ProtectedItemTree) → protected_item_faults earlier object.components y ≡ [] → IsOwnFront y
      by_item (OperationBody d b) legal_ = inl (refl, legal_)
      by_item (EntryBody d barrier b) legal_ =
          let u : Scope = components_scope earlier false object.components in
          inr (
            refl,
            refl,
            back_empty (entry_rule u d.name) (formals_faults u [] d.formals)
                (front_empty _ (condition_faults (formals_scope u d.formals) barrier)
                (front_empty _ (body_faults (formals_scope u d.formals) kinds.Entry b) (front_empty _ (end_rule d.name b.end_name) legal_))),
          )

  pub operation_is_front : IsBodyFront t (Some object.number) seen (own_head unit_) (own_body unit_)
  operation_is_front = record {
    before = outer;
    own = own_front unit_ there;
    front = (added.known_object laws.scopes laws.names laws.premises t legal restricted place name items end_name at).seen k unit_ there is_function;
    same = λ x z h. bodies.types_seen program start all (whole laws t legal restricted) place name items end_name at k is_function x z
        (subst (λ y. subtype_of (components_scope y is_function object.components) x ≡ Some z)
        (added.same_scope laws.scopes laws.names laws.premises t legal restricted place name items end_name at k) h);
    sound = subst SoundScope (sym (same_seen (first_store program) (memory laws t legal restricted)))
        (sound_by (first_store program) (memory laws t legal restricted) unit_ there);
    fits = seen_fits;
  }

  -- ---- where words stand

  module _ (i : Sections) (g : Package) (ordered : IsInOrder t i g) (of_program : IsPackageOf t i g)
      (numbered : (o : ℕ) (x : List ℕ) → g.subprograms (Some o) x ≡ number_in t (Some o) x) (v : Framed) (before : IsInFront seen g (Some object.number) v) where
    abbrev s : Scope
    s = v.names.scope

    abbrev parts : List Object
    parts = program.components object.number

    pub first_sound : IsSoundMemory program (first_store program)
    first_sound = memory laws t legal restricted

    abbrev pub CameHere : List ℕ → Entity → Type 0
    CameHere x e = Came (first_store program) first_sound x e

    pub came : (x : List ℕ) (e : Entity) → stands s x ≡ Some e → CameHere x e
    came x e h = came_seen (first_store program) first_sound x e (ap (λ z. stands z x) (sym before.scope) ∙ h)

    pub front_here : IsBodyFront t (Some object.number) s (own_head unit_) (own_body unit_)
    front_here = subst (λ z. IsBodyFront t (Some object.number) z (own_head unit_) (own_body unit_)) (sym before.scope) operation_is_front

    -- ---- components and their places

    part_found : (x : List ℕ) (slot : Slot) → g.slots (Some object.number) x ≡ Some slot → (y : Object) × (object_of parts x ≡ Some y)
    part_found x slot told = by_place (place_among 0 parts x) refl (sym (ordered.components object.number x) ∙ told)
      where
        by_place : (p : Option Slot) → place_among 0 parts x ≡ p → option_map in_object p ≡ Some slot → (y : Object) × (object_of parts x ≡ Some y)
        by_place (Some z) is h = let r = stands_there parts 0 x z is in (r.object, r.found)
        by_place None is h = cc

    no_part : (x : List ℕ) → g.slots (Some object.number) x ≡ None → object_of parts x ≡ None
    no_part x none = by_object (object_of parts x) refl
      where
        by_object : (o : Option Object) → object_of parts x ≡ o → o ≡ None
        by_object None is = refl
        by_object (Some y) is =
            let z = has_place parts 0 x y is in
            let bad = sym none ∙ ordered.components object.number x ∙ ap (option_map in_object) z.1 in
            cc

    variable_there : (x : List ℕ) (slot : Slot) → g.slots None x ≡ Some slot → (y : Object) × (object_of program.variables x ≡ Some y)
    variable_there x slot told =
        let r = stands_there program.variables 0 x slot (sym (ordered.slots x) ∙ told) in (r.object, r.found)

    -- the number of the object's name in front of its body
    abbrev pub own_name_number : ℕ
    own_name_number = (bodies.named_n program start all (whole laws t legal restricted) place name items end_name at).0

    -- what an operation is has no component's name, and a number
    operation_bare : (x : List ℕ) (j : ℕ) (u : ProtectedItemTree) → slice_get items j ≡ Some u → bodies.unit_name u ≡ x → object_of parts x ≡ None
    operation_bare x j u is named =
        fits.component_none program start all (whole laws t legal restricted) (known laws t legal restricted) laws.scopes (first_store program) first_sound
        (offers (first_store program) first_sound) (names laws t legal restricted).fronts place name items end_name at
        (own_items (first_store program) first_sound) is_function x
        (ap (found_in (components_named is_function object.components)) (sym named)
        ∙ (own_items (first_store program) first_sound j u is).apart is_function)

    pub operation_number : (x : List ℕ) (j : ℕ) (u : ProtectedItemTree) → slice_get items j ≡ Some u → bodies.unit_name u ≡ x
        → (n : ℕ) × (g.subprograms (Some object.number) x ≡ Some n)
    operation_number x j u is named =
        let n = own.has_number laws.scopes laws.names laws.premises t legal restricted place name items end_name at j u is in
        (bodies_before t place + j, numbered object.number x ∙ ap (number_in t (Some object.number)) (sym (named_unit u ∙ named)) ∙ n)

    -- what is visible in front of the whole body is no component, and no operation
    front_bare : (x : List ℕ) (e : Entity) → stands (front t place) x ≡ Some e → object_of parts x ≡ None
    front_bare x e h =
        fits.none_here program start all (whole laws t legal restricted) (known laws t legal restricted) laws.scopes (first_store program) first_sound
        (offers (first_store program) first_sound) (names laws t legal restricted).fronts place name items end_name at
        (own_items (first_store program) first_sound) x e h

    pub front_unnumbered : (x : List ℕ) (e : Entity) → stands (front t place) x ≡ Some e → g.subprograms (Some object.number) x ≡ None
    front_unnumbered x e h = by_number (number_in t (Some object.number) x) refl
      where
        by_number : (n : Option ℕ) → number_in t (Some object.number) x ≡ n → g.subprograms (Some object.number) x ≡ None
        by_number None is = numbered object.number x ∙ is
        by_number (Some n) is =
            let f = own.of_number laws.scopes laws.names laws.premises t legal restricted place name items end_name at x n is in
            let unseen = (own_items (first_store program) first_sound f.0 f.1 f.2).unseen in
            let bad = sym unseen ∙ ap (stands (front t place)) (sym (named_unit f.1) ∙ f.3) ∙ h in
            cc

    -- ---- what has words is a component, or a variable of the package

    pub record IsOwnWords (x : List ℕ) (slot : Slot) : Type 0 where
      pub its : g.slots (Some object.number) x ≡ Some slot
      pub part : Object
      pub found : object_of parts x ≡ Some part
      pub named : NamesObject s x (component_role is_function) part.subtype

    pub record IsSharedWords (x : List ℕ) (slot : Slot) : Type 0 where
      pub none : g.slots (Some object.number) x ≡ None
      pub bare : object_of parts x ≡ None
      pub its : g.slots None x ≡ Some slot
      pub variable : Object
      pub found : object_of program.variables x ≡ Some variable
      pub named : NamesObject s x role.Variable variable.subtype

    named_as : (x : List ℕ) (r : Role) (u : Subtype) → stands s x ≡ Some (entity.Object r u) → NamesObject s x r u
    named_as x r u h = let n = number_stands s x (entity.Object r u) h in record { number = n.0; numbered = n.1; stands = n.2 }

    own_words : (x : List ℕ) (slot : Slot) (e : Entity) → stands s x ≡ Some e → g.slots (Some object.number) x ≡ Some slot → IsOwnWords x slot
    own_words x slot e h its = by_came (came x e h)
      where
        y : (y : Object) × (object_of parts x ≡ Some y)
        y = part_found x slot its

        by_came : CameHere x e → IsOwnWords x slot
        by_came (inl hidden) =
            let f = hidden_stands (front t place) own_name_number x e hidden in
            absurd (let bad = sym (front_bare x f.before f.stands_) ∙ y.1 in cc)
        by_came (inr (inl op)) =
            absurd (let bad = sym (operation_bare x op.item.0 op.item.1 op.item.2 op.item.3) ∙ y.1 in cc)
        by_came (inr (inr c)) =
            let z =
            fits.component_there program start all (whole laws t legal restricted) (known laws t legal restricted) laws.scopes (first_store program)
            first_sound (offers (first_store program) first_sound) (names laws t legal restricted).fronts place name items end_name at
            (own_items (first_store program) first_sound) is_function x e c in
            record { its = its; part = z.0; found = z.1; named = named_as x (component_role is_function) z.0.subtype (h ∙ ap Some z.2) }

    shared_words : (x : List ℕ) (slot : Slot) (e : Entity) → stands s x ≡ Some e → g.slots (Some object.number) x ≡ None
        → g.subprograms (Some object.number) x ≡ None
        → g.slots None x ≡ Some slot → IsSharedWords x slot
    shared_words x slot e h none unnumbered its = by_came (came x e h)
      where
        y : (y : Object) × (object_of program.variables x ≡ Some y)
        y = variable_there x slot its

        by_came : CameHere x e → IsSharedWords x slot
        by_came (inl hidden) =
            let f = hidden_stands (front t place) own_name_number x e hidden in
            let in_program = variable_entity program start all (whole laws t legal restricted) x y.0 y.1 in
            let same : f.before ≡ entity.Object role.Variable y.0.subtype =
            same_some f.before (entity.Object role.Variable y.0.subtype) (sym (kept_behind laws t legal restricted place x f.before f.stands_) ∙ in_program) in
            let is : e ≡ entity.Object role.Variable y.0.subtype =
            elim f.same [
              | inl j ↦ sym j ∙ same
              | inr j ↦ sym j ∙ ap (offering []) same
            ] in
            record {
              none = none;
              bare = no_part x none;
              its = its;
              variable = y.0;
              found = y.1;
              named = named_as x role.Variable y.0.subtype (h ∙ ap Some is);
            }
        by_came (inr (inl op)) =
            let n = operation_number x op.item.0 op.item.1 op.item.2 op.item.3 in
            absurd (let bad = sym unnumbered ∙ n.1 in cc)
        by_came (inr (inr c)) =
            let z =
            fits.component_there program start all (whole laws t legal restricted) (known laws t legal restricted) laws.scopes (first_store program)
            first_sound (offers (first_store program) first_sound) (names laws t legal restricted).fronts place name items end_name at
            (own_items (first_store program) first_sound) is_function x e c in
            absurd (let bad = sym (no_part x none) ∙ z.1 in cc)

    unnumbered_told : (q : Option ℕ) (z : Option Slot) (slot : Slot) → (if is_some q then None else z) ≡ Some slot → (q ≡ None) × (z ≡ Some slot)
    unnumbered_told (Some n) z slot h = cc
    unnumbered_told None z slot h = (refl, h)

    pub words_there : (x : List ℕ) (slot : Slot) → slot_of v.names x ≡ Some slot → IsOwnWords x slot ⊎ IsSharedWords x slot
    words_there x slot told = by_slot (g.slots (Some object.number) x) refl two.1
      where
        two : (g.subprograms (Some object.number) x ≡ None) × (or_else (g.slots (Some object.number) x) (g.slots None x) ≡ Some slot)
        two = unnumbered_told (g.subprograms (Some object.number) x) (or_else (g.slots (Some object.number) x) (g.slots None x)) slot (before.slots x slot told)

        e : (e : Entity) × (stands s x ≡ Some e)
        e =
            let n = is_told s v.names.slots x slot told in
            let f = entity_number s x n.number n.numbered in
            (f.0, stands_number s x n.number f.0 n.numbered f.1)

        by_slot : (z : Option Slot) → g.slots (Some object.number) x ≡ z → or_else z (g.slots None x) ≡ Some slot → IsOwnWords x slot ⊎ IsSharedWords x slot
        by_slot (Some y) is h = inl (own_words x slot e.0 e.1 (is ∙ h))
        by_slot None is h = inr (shared_words x slot e.0 e.1 is two.0 h)

    -- ---- the places are laid out

    suited_words : (x : List ℕ) (r : Role) (u : Subtype) → NamesObject s x r u → words_of g.scope u ≡ words_of s u
    suited_words x r u n =
        ap (λ z. words_of z u) of_program.scope
        ∙ body_words laws.scopes t (Some object.number) s (own_head unit_) (own_body unit_) front_here first_sound u
        (object_known s r u (front_here.sound.each n.number (entity.Object r u) n.stands))

    one_subtype : (x : List ℕ) (q r : Role) (u w : Subtype) → NamesObject s x q u → NamesObject s x r w → w ≡ u
    one_subtype x q r u w m n =
        let subtype_in : Option Entity → Subtype = λ o. elim o [ Some y ↦ elim y [ entity.Object c z ↦ z | other ↦ u ] | None ↦ u ] in
        sym (ap subtype_in
        (sym (stands_number s x m.number (entity.Object q u) m.numbered m.stands) ∙ stands_number s x n.number (entity.Object r w) n.numbered n.stands))

    pub part_region : (x : List ℕ) (slot : Slot) → IsOwnWords x slot → slot.region ≡ regions.Object
    part_region x slot w = of_program.laid.region object.number x slot w.its

    pub shared_region : (x : List ℕ) (slot : Slot) → IsSharedWords x slot → slot.region ≡ regions.Plain
    shared_region x slot w = of_program.laid.plain x slot w.its

    first_subtype : (x : List ℕ) (slot : Slot) (w : IsOwnWords x slot) (r : Role) (u : Subtype) → NamesObject s x r u
        → subtype_among (g.first (Some object.number)) x ≡ Some u
    first_subtype x slot w r u n =
        ap (λ l. subtype_among l x) (of_program.first (Some object.number)) ∙ ap (option_map (λ (y : Object). y.subtype)) w.found
        ∙ ap Some (sym (one_subtype x (component_role is_function) r w.part.subtype u w.named n))

    variable_named : (x : List ℕ) (slot : Slot) (w : IsSharedWords x slot) (r : Role) (u : Subtype) → NamesObject s x r u
        → NamesObject g.scope x role.Variable u
    variable_named x slot w r u n =
        let there = variable_entity program start all (whole laws t legal restricted) x w.variable w.found in
        let same = one_subtype x role.Variable r w.variable.subtype u w.named n in
        let m = number_stands g.scope x (entity.Object role.Variable u)
        (ap (λ z. stands z x) of_program.scope ∙ there ∙ ap (λ z. Some (entity.Object role.Variable z)) (sym same)) in
        record { number = m.0; numbered = m.1; stands = m.2 }

    seen_objects : (x : List ℕ) (slot : Slot) → slot_of v.names x ≡ Some slot → (r : Role) × (u : Subtype) × NamesObject s x r u
    seen_objects x slot told =
        elim (words_there x slot told) [
          | inl w ↦ (component_role is_function, w.part.subtype, w.named)
          | inr w ↦ (role.Variable, w.variable.subtype, w.named)
        ]

    apart_here : (one other : List ℕ) (x y : Slot) (q r : Role) (a c : Subtype) → one ≢ other → slot_of v.names one ≡ Some x → slot_of v.names other ≡ Some y
        → x.region ≡ y.region → NamesObject s one q a → NamesObject s other r c → AreApart x.offset (words_of s a) y.offset (words_of s c)
    apart_here one other x y q r a c differ first second same m n =
        subst (λ z. AreApart x.offset z y.offset (words_of s c)) (suited_words one q a m)
        (subst (λ z. AreApart x.offset (words_of g.scope a) y.offset z) (suited_words other r c n)
        (by_words (words_there one x first) (words_there other y second)))
      where
        by_words : IsOwnWords one x ⊎ IsSharedWords one x → IsOwnWords other y ⊎ IsSharedWords other y
            → AreApart x.offset (words_of g.scope a) y.offset (words_of g.scope c)
        by_words (inl w) (inl z) =
            of_program.laid.parts object.number one other x y a c differ w.its z.its (first_subtype one x w q a m) (first_subtype other y z r c n)
        by_words (inr w) (inr z) =
            of_program.laid.laid.apart one other x y role.Variable role.Variable a c differ w.its z.its same (variable_named one x w q a m)
            (variable_named other y z r c n)
        by_words (inl w) (inr z) = absurd (let bad = sym (part_region one x w) ∙ same ∙ shared_region other y z in cc)
        by_words (inr w) (inl z) = absurd (let bad = sym (shared_region one x w) ∙ same ∙ part_region other y z in cc)

    no_local : (x : List ℕ) (slot : Slot) → slot_of v.names x ≡ Some slot → slot.region ≡ regions.Locals → ⊥
    no_local x slot told local =
        elim (words_there x slot told) [
          | inl w ↦ (let bad = sym (part_region x slot w) ∙ local in cc)
          | inr w ↦ (let bad = sym (shared_region x slot w) ∙ local in cc)
        ]

    shared_there : (x : List ℕ) (slot : Slot) → slot_of v.names x ≡ Some slot → slot.region ≡ regions.Plain → g.slots None x ≡ Some slot
    shared_there x slot told plain =
        elim (words_there x slot told) [
          | inl w ↦ absurd (let bad = sym (part_region x slot w) ∙ plain in cc)
          | inr w ↦ w.its
        ]

    own_there : (x : List ℕ) (slot : Slot) (o : ℕ) → slot_of v.names x ≡ Some slot → slot.region ≡ regions.Object → v.within ≡ Some o
        → g.slots (Some o) x ≡ Some slot
    own_there x slot o told region is =
        elim (words_there x slot told) [
          | inl w ↦ subst (λ z. g.slots z x ≡ Some slot) (sym before.within ∙ is) w.its
          | inr w ↦ absurd (let bad = sym (shared_region x slot w) ∙ region in cc)
        ]

    object_laid : IsLaidOut g v
    object_laid = record {
      unit = of_program.laid;
      laid = record { objects = seen_objects; apart = apart_here };
      shared = shared_there;
      own = own_there;
      free = λ x slot r u told local named variable. absurd (no_local x slot told local);
      slots = before.many_slots;
      subprograms = before.many_subprograms;
    }

    object_ends : EndsBelow v 0
    object_ends x slot r u told local named = absurd (no_local x slot told local)

    -- ---- functions

    -- a function that is visible is one of the object's, or it is visible in front of the whole body
    record IsOwnFunction (x : List ℕ) (p : Profile) : Type 0 where
      number : ℕ
      own_told : g.subprograms (Some object.number) x ≡ Some number
      function : Function
      found : function_of program.functions (Some object.number) x ≡ Some function

    record IsOuterFunction (x : List ℕ) : Type 0 where
      unnumbered : g.subprograms (Some object.number) x ≡ None
      none : function_of program.functions (Some object.number) x ≡ None

    function_there : (x : List ℕ) (p : Profile) (u : Subtype) → NamesProfile s x p → p.result ≡ Some u → IsOwnFunction x p ⊎ IsOuterFunction x
    function_there x p u n gives = by_came (came x (Subprogram p) (stands_number s x n.number (Subprogram p) n.numbered n.stands))
      where
        by_came : CameHere x (Subprogram p) → IsOwnFunction x p ⊎ IsOuterFunction x
        by_came (inl hidden) =
            let f = hidden_stands (front t place) own_name_number x (Subprogram p) hidden in
            inr (record {
              unnumbered = front_unnumbered x f.before f.stands_;
              none = outside_function program start all (whole laws t legal restricted) place name items end_name at
                  (own_items (first_store program) first_sound) x f.before f.stands_;
            })
        by_came (inr (inl op)) =
            let m = operation_number x op.item.0 op.item.1 op.item.2 op.item.3 in
            let f = function_inside program start all (whole laws t legal restricted) place name items end_name at (own_items (first_store program) first_sound) x
            p u op.stands_ gives op.item in
            inl (record { number = m.0; own_told = m.1; function = f.function; found = f.found })
        by_came (inr (inr c)) =
            absurd (let e = component_entity is_function object.components x (Subprogram p) c in let bad = e.1 in cc)

    -- a protected object that is visible is the package's, or offers nothing
    object_alike : (x : List ℕ) (o : ProtectedObject) → stands program.scope x ≡ Some (Protected o) → (q : ProtectedObject) → object_named s x ≡ Some q
        → (q ≡ o) ⊎ (q.operations ≡ [])
    object_alike x o is q seen_object = by_came (came x (Protected q) (object_entity s x q seen_object))
      where
        by_came : CameHere x (Protected q) → (q ≡ o) ⊎ (q.operations ≡ [])
        by_came (inl hidden) =
            let f = hidden_stands (front t place) own_name_number x (Protected q) hidden in
            let c = protected_before f.before q f.same in
            let object_in : Option Entity → ProtectedObject = λ z. elim z [ Some y ↦ elim y [ Protected w ↦ w | other ↦ o ] | None ↦ o ] in
            let same : c.0 ≡ o =
            ap object_in (ap Some (sym c.1) ∙ sym (kept_behind laws t legal restricted place x f.before f.stands_) ∙ is) in
            elim c.2 [ inl j ↦ inl (j ∙ same) | inr j ↦ inr j ]
        by_came (inr (inl op)) = absurd (elim op.kinds [ inl h ↦ cc | inr h ↦ cc ])
        by_came (inr (inr c)) =
            absurd (let e = component_entity is_function object.components x (Protected q) c in let bad = e.1 in cc)

    -- ---- what the frame is

    sound_store : (p : Place) → HasObjects g p → IsSoundMemory program (record { variables = p.variables; components = p.components })
    sound_store p has = record {
      variables = suited_objects p.variables (subst (λ z. AreSuited z p.variables) of_program.scope (has.suited None));
      components = λ o. suited_objects (p.components o) (subst (λ z. AreSuited z (p.components o)) of_program.scope (has.suited (Some o)));
      same = record {
        variables = λ x. has.same None x ∙ ap (λ l. subtype_among l x) (of_program.first None);
        components = λ o x. has.same (Some o) x ∙ ap (λ l. subtype_among l x) (of_program.first (Some o));
      };
    }
      where
        suited_objects : (xs : List Object) → AreSuited program.scope xs → AreSoundObjects program.scope xs
        suited_objects [] h = tt
        suited_objects (x ∷ xs) h = (h.0, suited_objects xs h.1)

    agrees_here : (p : Place) → p.scope ≡ g.scope → p.functions ≡ g.functions → FunctionsAreSound p → HasObjects g p → p.locals ≡ []
        → p.within ≡ Some object.number
        → Agrees s p
    agrees_here p scope functions functions_sound has locals inside_ =
        let m : Store = record { variables = p.variables; components = p.components } in
        let same : inside program m (record { within = Some object.number; locals = [] }) p ≡ p =
        λ j. record p {
          scope = (sym (scope ∙ of_program.scope)) j;
          functions = (sym (functions ∙ of_program.functions)) j;
          locals = (sym locals) j;
          within = (sym inside_) j;
        } in
        subst (Agrees s) same (front_here.fits m (sound_store p has) p).agrees

    -- no function of the package has a variable's name
    no_function : (x : List ℕ) (y : Object) → object_of program.variables x ≡ Some y → function_of program.functions None x ≡ None
    no_function x y found = by_function (function_of program.functions None x) refl
      where
        by_function : (f : Option Function) → function_of program.functions None x ≡ f → f ≡ None
        by_function None is = refl
        by_function (Some f) is =
            (let both = sym (variable_entity program start all (whole laws t legal restricted) x y found)
            ∙ (function_entity program start all (whole laws t legal restricted) x f is).stands_ in
            cc)

    placed_in : (x : List ℕ) (slot : Slot) → slot_of v.names x ≡ Some slot → IsPlacedIn g object.number x slot
    placed_in x slot told =
        elim (words_there x slot told) [
          | inl w ↦ inl (
            part_region x slot w,
            w.its,
            ap is_some (ap (λ l. subtype_among l x) (of_program.first (Some object.number)) ∙ ap (option_map (λ (y : Object). y.subtype)) w.found),
          )
          | inr w ↦ inr (
            shared_region x slot w,
            w.its,
            ap (λ l. subtype_among l x) (of_program.first (Some object.number)) ∙ ap (option_map (λ (y : Object). y.subtype)) w.bare,
            ap (λ l. function_of l None x) of_program.functions ∙ no_function x w.variable w.found,
          )
        ]

    same_told : (a c : Option ℕ) (m n : ℕ) → a ≡ Some m → or_else a c ≡ Some n → a ≡ Some n
    same_told (Some y) c m n is h = h
    same_told None c m n is h = cc

    outer_told : (a c : Option ℕ) (n : ℕ) → a ≡ None → or_else a c ≡ Some n → c ≡ Some n
    outer_told (Some y) c n is h = cc
    outer_told None c n is h = h

    calls_own : (x : List ℕ) (number : ℕ) (f : Function) (p : Profile) (u : Subtype) → subprogram_of v.names x ≡ Some number → NamesProfile s x p
        → p.result ≡ Some u → function_of g.functions (Some object.number) x ≡ Some f
        → g.subprograms (Some object.number) x ≡ Some number
    calls_own x number f p u told n gives found = by_function (function_there x p u n gives)
      where
        by_function : IsOwnFunction x p ⊎ IsOuterFunction x → g.subprograms (Some object.number) x ≡ Some number
        by_function (inl own_) =
            same_told (g.subprograms (Some object.number) x) (g.subprograms None x) own_.number number own_.own_told (before.calls x number told)
        by_function (inr outer_) =
            absurd (let bad = sym outer_.none ∙ ap (λ l. function_of l (Some object.number) x) (sym of_program.functions) ∙ found in cc)

    calls_outer : (x : List ℕ) (number : ℕ) (f : Function) (p : Profile) (u : Subtype) → subprogram_of v.names x ≡ Some number → NamesProfile s x p
        → p.result ≡ Some u → function_of g.functions (Some object.number) x ≡ None → function_of g.functions None x ≡ Some f
        → g.subprograms None x ≡ Some number
    calls_outer x number f p u told n gives none found = by_function (function_there x p u n gives)
      where
        by_function : IsOwnFunction x p ⊎ IsOuterFunction x → g.subprograms None x ≡ Some number
        by_function (inl own_) =
            absurd (let bad = sym none ∙ ap (λ l. function_of l (Some object.number) x) of_program.functions ∙ own_.found in cc)
        by_function (inr outer_) =
            outer_told (g.subprograms (Some object.number) x) (g.subprograms None x) number outer_.unnumbered (before.calls x number told)

    -- ---- procedures

    procedure_numbered : (x : List ℕ) (q : Procedure) (number : ℕ) (p : Profile) → procedure_here program (Some object.number) x ≡ Some q
        → subprogram_of v.names x ≡ Some number → NamesProfile s x p → p.result ≡ None
        → g.subprograms q.object q.name ≡ Some number
    procedure_numbered x q number p found told n none = by_came (came x (Subprogram p) (stands_number s x n.number (Subprogram p) n.numbered n.stands))
      where
        numbered_by : (owner : Option ℕ) → procedure_among program.procedures owner x ≡ Some q → g.subprograms owner x ≡ Some number
            → g.subprograms q.object q.name ≡ Some number
        numbered_by owner there is =
            let y = procedure_named program.procedures owner x q there in (λ j. g.subprograms (y.0 j) (y.1 j)) ∙ is

        first_same : (a c : Option Procedure) (r : Procedure) → a ≡ Some r → or_else a c ≡ Some q → a ≡ Some q
        first_same (Some z) c r is h = h
        first_same None c r is h = cc

        second_same : (a c : Option Procedure) → a ≡ None → or_else a c ≡ Some q → c ≡ Some q
        second_same (Some z) c is h = cc
        second_same None c is h = h

        by_came : CameHere x (Subprogram p) → g.subprograms q.object q.name ≡ Some number
        by_came (inl hidden) =
            let f = hidden_stands (front t place) own_name_number x (Subprogram p) hidden in
            let bare =
            outside_procedure program start all (whole laws t legal restricted) place name items end_name at (own_items (first_store program) first_sound) x
            f.before f.stands_ in
            numbered_by None (second_same (procedure_among program.procedures (Some object.number) x) (procedure_among program.procedures None x) bare found)
            (outer_told (g.subprograms (Some object.number) x) (g.subprograms None x) number (front_unnumbered x f.before f.stands_)
            (before.calls x number told))
        by_came (inr (inl op)) =
            let m = operation_number x op.item.0 op.item.1 op.item.2 op.item.3 in
            let f =
            procedure_inside program start all (whole laws t legal restricted) place name items end_name at (own_items (first_store program) first_sound) x p
            op.stands_ none op.item in
            numbered_by (Some object.number) (first_same (procedure_among program.procedures (Some object.number) x) (procedure_among program.procedures None x) f.procedure f.is found)
            (same_told (g.subprograms (Some object.number) x) (g.subprograms None x) m.0 number m.1 (before.calls x number told))
        by_came (inr (inr c)) =
            absurd (let e = component_entity is_function object.components x (Subprogram p) c in let bad = e.1 in cc)

    -- an object that is visible is a variable of the package or a component
    no_loops : (x : List ℕ) (u : Subtype) → NamesObject s x role.LoopParameter u → ⊥
    no_loops x u n =
        by_came (came x (entity.Object role.LoopParameter u) (stands_number s x n.number (entity.Object role.LoopParameter u) n.numbered n.stands))
      where
        by_component : (f : Bool) (y : Subtype) → entity.Object role.LoopParameter u ≡ entity.Object (component_role f) y → ⊥
        by_component true y h = cc
        by_component false y h = cc

        by_came : CameHere x (entity.Object role.LoopParameter u) → ⊥
        by_came (inl hidden) =
            let f = hidden_stands (front t place) own_name_number x (entity.Object role.LoopParameter u) hidden in
            let is = object_before f.before role.LoopParameter u f.same in
            let there = kept_behind laws t legal restricted place x f.before f.stands_ ∙ ap Some is in
            let bad = (entity_variable program start all (whole laws t legal restricted) x role.LoopParameter u there).variable_ in
            cc
        by_came (inr (inl op)) = absurd (elim op.kinds [ inl h ↦ cc | inr h ↦ cc ])
        by_came (inr (inr c)) =
            let z = component_entity is_function object.components x (entity.Object role.LoopParameter u) c in by_component is_function z.0 z.1

    front_of_object : IsOfObject g object.number v
    front_of_object = record {
      within = before.within;
      no_loops = no_loops;
      agrees = agrees_here;
      slots = placed_in;
      calls = calls_own;
      outer = calls_outer;
      externals = λ x operation number o q told named found.
          let there = ap (λ z. stands z x) (sym of_program.scope) ∙ object_entity g.scope x o named in
          offered program start all (whole laws t legal restricted) g of_program.scope v.names before.operations x operation number o q told
          (object_alike x o there) there found;
    }

    pub object_entrance : IsEntrance t g (Some object.number) v (own_head unit_) (own_body unit_)
    object_entrance = record {
      front = front_here;
      within = before.within;
      procedures = procedure_numbered;
      externals = λ x operation q o number told is found.
          let y = procedure_named program.procedures (Some o.number) operation q found in
          let offer = offered_number program start all (whole laws t legal restricted) g of_program.scope v.names before.operations x operation number o told
          (object_alike x o is) is in (
            (λ j. g.subprograms (y.0 j) (y.1 j)) ∙ offer.numbered,
            bare_operation laws t legal restricted o x operation (g.subprograms (Some o.number)) number q is offer found,
          );
      entries = λ x operation o number told is. entry_number (object_named v.names.scope x) o operation number (object_alike x o is) told;
      laid = object_laid;
      ends = object_ends;
      begins = rests_object g object.number v front_of_object;
    }
