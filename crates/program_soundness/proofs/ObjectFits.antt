-- In the body of a protected object each visible name means what it stands for, and statements find there what they name (RM 9.4, 9.5.1).
use Rattle.std.proofs.Common.{◌≡◌, ℕ, zero, suc, List, [], ◌∷◌, take, map, Bool, true, false, cond, ◌⊎◌, inl, inr, Option, Some, None, refl, sym, ap, ◌∙◌, subst, arith}
use Rattle.std.specs.Prelude.{option_map, slice_get}
use Rattle.expr_soundness.specs.ada_tree.specs.declared.expression.Identifier.{Identifier}
use Rattle.expr_soundness.specs.ada_tree.specs.StatementTree.{ProtectedTree}
use Rattle.expr_soundness.specs.ada_tree.specs.ProgramTree.{BodyItemTree, OfItem, ProtectedBody, OfProtected, ProtectedItemTree, OperationBody, EntryBody}
use Rattle.types.specs.declared.entity.Role.{Role}
use Rattle.types.specs.declared.entity.Subtype.{Subtype}
use Rattle.types.specs.declared.entity.RecordComponent.{RecordComponent}
use Rattle.types.specs.declared.standing.Standing.{Standing}
use Rattle.types.specs.Entities.{Entity, Operation, Profile, ProtectedObject, Protected, Subprogram, Doubtful}
use Rattle.types.specs.Entities as entity
use Rattle.types.specs.Scopes.{Scope, entity_at, form_at, form_of, number_of, offering}
use Rattle.types.specs.Standings.{stands_first}
use Rattle.types.specs.Shapes.{has_shape, shape_of}
use Rattle.types.specs.Places.{Function, Meaning, Object, Place, function_meaning, function_of, function_stands, meaning_in_scope, meaning_of, meaning_or, object_meaning, object_of, object_stands, or_else, stands_here}
use Rattle.expr_soundness.specs.type_rules.specs.ProfileRules.{profile_entity}
use Rattle.declaration_rules.specs.BodyNames.{component_role, components_scope, operation_entity}
use Rattle.declaration_rules.specs.ProtectedRules.{object_components, protected_entity}
use Rattle.declaration_rules.specs.PackageNames.{body_item_scope}
use Rattle.unit_rules.specs.PackageBodyRules.{body_item_faults}
use Rattle.expr_soundness.specs.SoundScopes.{IsKnown, IsSoundObject, SoundScope}
use Rattle.expr_soundness.specs.Laws.{ScopesAreSound}
use Rattle.expr_soundness.specs.Agreeing.{Agrees, Means, MeansFunction, MeansObject, MeansOne}
use Rattle.expr_soundness.proofs.Goods.{not_empty, object_known}
use Rattle.expr_soundness.proofs.Parts.{same_values, subtype_values}
use Rattle.expr_soundness.specs.meaning.specs.Programs.{Procedure, Program, component, objects_or_none}
use Rattle.expr_soundness.specs.meaning.specs.Works.{Store}
use Rattle.expr_soundness.specs.meaning.specs.Calls.{procedure_among, procedure_here}
use Rattle.step_soundness.specs.Objects.{object_subtype, subtype_in}
use Rattle.step_soundness.specs.Fitting.{FitsScope, IsCalled, IsEntry, IsFound, IsProcedure, is_result}
use Rattle.step_soundness.specs.Holding.{inside}
use Rattle.step_soundness.specs.Laws.{Premises}
use Rattle.program_soundness.specs.Fronts.{scope_at}
use Rattle.program_soundness.proofs.Listing.{or_else_some, same_some, within_taken}
use Rattle.program_soundness.proofs.WiderScopes.{NoTypes, bytes_same, found_in, number_stands, stands, stands_number, unseen_none}
use Rattle.program_soundness.proofs.BodyProfiles.{subtype_kept}
use Rattle.program_soundness.proofs.Walked.{Entries, IsOne, Origin, ProtectedOnes, Subprograms, body_item_kind, declared_one, declares, item_new, kept_all, kind, legal_at, one_of, origin, own_profile}
use Rattle.program_soundness.proofs.Whole.{IsPackage, item_stands, kept, known_kind, no_doubt, variable_entity}
use Rattle.program_soundness.proofs.Called.{function_entity}
use Rattle.program_soundness.proofs.Agreed.{IsSoundMemory, OffersAll, in_package, object_by, same_twice, sound_object}
use Rattle.program_soundness.proofs.Same.{SameTypes, known_same, one_same, types_then, types_turned, types_with_all, values_same}
use Rattle.program_soundness.proofs.ObjectTrees.{components_all, components_named, no_part, operations_named}
use Rattle.program_soundness.proofs.Moved.{as_item, hidden_stands}
use Rattle.program_soundness.proofs.Parted.{CountsNext, component_found, components_at_number, counts_item, no_part_object}
use Rattle.program_soundness.proofs.ObjectBodies.{number_of_object, unit_name}
use Rattle.program_soundness.proofs.ObjectBodies as bodies
use Rattle.program_soundness.proofs.ObjectCalls.{entry_inside, function_inside, outside_function, outside_procedure, procedure_inside}
use Rattle.program_soundness.proofs.Offering.{item_of}
use Rattle.program_soundness.proofs.PackageBodies.{front_fits}

protected_known : (e : Entity) → IsOne ProtectedOnes e → (e ≡ Doubtful → ⊥) → (o : ProtectedObject) × (e ≡ Protected o)
protected_known (Protected o) h d = (o, refl)
protected_known Doubtful h d = absurd (d refl)
protected_known e h d = cc

abbrev inner_meaning : Option Object → Option Function → Option Object → Option Function → Meaning → Meaning
inner_meaning c i v f last = meaning_or (or_else (object_meaning c) (function_meaning i)) (meaning_or (or_else (object_meaning v) (function_meaning f)) last)

abbrev inner_standing : Option Object → Option Function → Option Object → Option Function → Standing → Standing
inner_standing c i v f last = object_stands c (function_stands i (object_stands v (function_stands f last)))

-- an object of the package and no function of this name, or the other way round
same_meaning : (v : Option Object) (f : Option Function) (last : Meaning) → (v ≡ None) ⊎ (f ≡ None)
    → inner_meaning None None v f last ≡ inner_meaning None f v f last
same_meaning None (Some f) last h = refl
same_meaning None None last h = refl
same_meaning (Some v) None last h = refl
same_meaning (Some v) (Some f) last (inl h) = cc
same_meaning (Some v) (Some f) last (inr h) = cc

same_standing : (v : Option Object) (f : Option Function) (last : Standing) → (v ≡ None) ⊎ (f ≡ None)
    → inner_standing None None v f last ≡ inner_standing None f v f last
same_standing None (Some f) last h = refl
same_standing None None last h = refl
same_standing (Some v) None last h = refl
same_standing (Some v) (Some f) last (inl h) = cc
same_standing (Some v) (Some f) last (inr h) = cc

plain_component : (f : Bool) → is_result (component_role f) ≡ true → ⊥
plain_component true h = cc
plain_component false h = cc

component_means : (s here : Scope) (m : Meaning) (f : Bool) (t : Subtype) → MeansObject s m t → MeansOne s here m (component_role f) t
component_means s here m true t h = h
component_means s here m false t h = h

component_known : (s : Scope) (f : Bool) (t : Subtype) → IsSoundObject s (component_role f) t → IsKnown s t
component_known s true t h = h
component_known s false t h = h

means_types : (t u : Scope) → SameTypes t u → (p : Place) → Agrees t p → (name : List ℕ) (n : ℕ) (e : Entity) → entity_at t n ≡ Some e → Means t p name e
    → Means u p name e
means_types t u types p agrees name n (entity.Object r v) at h =
    one_same t u p.scope types _ r v (object_known t r v (agrees.sound.each n (entity.Object r v) at)) h
means_types t u types p agrees name n (entity.OfType form v) at h = h
means_types t u types p agrees name n (entity.OfSubtype v) at h = h
means_types t u types p agrees name n (entity.Constant v x) at h = h
means_types t u types p agrees name n (entity.Literal b) at h = h
means_types t u types p agrees name n entity.Exception at h = tt
means_types t u types p agrees name n (Subprogram profile) at h = h
means_types t u types p agrees name n (entity.Entry profile) at h = tt
means_types t u types p agrees name n (entity.Predefined o profile) at h = h
means_types t u types p agrees name n entity.Put at h = tt
means_types t u types p agrees name n (entity.Task m) at h = tt
means_types t u types p agrees name n (Protected o) at h = h
means_types t u types p agrees name n entity.LibraryUnit at h = tt
means_types t u types p agrees name n Doubtful at h = tt

-- ---- none of the names of an object's body is a type

operation_no_type : (o : Operation) → form_of (Some (operation_entity o)) ≡ None
operation_no_type o = by_kind o.is_entry
  where
    by_kind : (b : Bool) → form_of (Some (elim b [ true ↦ entity.Entry o.profile | false ↦ Subprogram o.profile ])) ≡ None
    by_kind true = refl
    by_kind false = refl

operations_no_types : (os : List Operation) → NoTypes (operations_named os)
operations_no_types [] = tt
operations_no_types (o ∷ os) = (operation_no_type o, operations_no_types os)

components_no_types : (f : Bool) (cs : List RecordComponent) → NoTypes (components_named f cs)
components_no_types f [] = tt
components_no_types f (c ∷ cs) = (refl, components_no_types f cs)

pub profile_no_type : (o : Option Profile) → form_of (Some (profile_entity o)) ≡ None
profile_no_type (Some p) = refl
profile_no_type None = refl

one_types : (u : Scope) (i : ProtectedItemTree) → SameTypes u (body_item_scope u (as_item i))
one_types u (OperationBody d b) =
    types_with_all u (record { name = d.name.name; entity = profile_entity (own_profile u d) } ∷ []) (profile_no_type (own_profile u d), tt)
one_types u (EntryBody d c b) = types_with_all u [] tt

items_types : (u : Scope) (is : List ProtectedItemTree) (j : ℕ) → SameTypes u (scope_at u (map as_item is) j)
items_types u [] zero = types_with_all u [] tt
items_types u [] (suc j) = types_with_all u [] tt
items_types u (i ∷ is) zero = types_with_all u [] tt
items_types u (i ∷ is) (suc j) =
    types_then u (body_item_scope u (as_item i)) (scope_at (body_item_scope u (as_item i)) (map as_item is) j) (one_types u i)
    (items_types (body_item_scope u (as_item i)) is j)

operation_kinds : (o : Operation) → (kind (operation_entity o) ≡ Subprograms) ⊎ (kind (operation_entity o) ≡ Entries)
operation_kinds o = by_kind o.is_entry
  where
    by_kind : (b : Bool)
        → (kind (elim b [ true ↦ entity.Entry o.profile | false ↦ Subprogram o.profile ]) ≡ Subprograms) ⊎ (kind (elim b [ true ↦ entity.Entry o.profile | false ↦ Subprogram o.profile ]) ≡ Entries)
    by_kind true = inr refl
    by_kind false = inl refl

module _ (program : Program) (s : Scope) (all : List BodyItemTree) (w : IsPackage program s all) (laws : Premises program) (scopes : ScopesAreSound)
    (m : Store) (memory : IsSoundMemory program m)
    (offers : (name : List ℕ) (o : ProtectedObject) → stands program.scope name ≡ Some (Protected o) → OffersAll program o)
    (fronts : (k : ℕ) → SoundScope (scope_at s all k)) where
  counts : (j : ℕ) (i : BodyItemTree) → slice_get all j ≡ Some i → CountsNext (scope_at s all j) i
  counts j i at = counts_item (scope_at s all j) i legal known (λ x h. declared_one (scope_at s all j) i x h)
    where
      legal : body_item_faults (scope_at s all j) i ≡ []
      legal = legal_at s all j i at w.list.legal

      known : (d : ProtectedTree) → i ≡ OfItem (OfProtected d) → (o : ProtectedObject) × (protected_entity (scope_at s all j) d ≡ Protected o)
      known d is =
          let u : Scope = scope_at s all j in
          let e : Entity = protected_entity u d in
          let there : slice_get all j ≡ Some (OfItem (OfProtected d)) = at ∙ ap Some is in
          let new = unseen_none u d.name.name (item_new u (OfProtected d) (legal_at s all j (OfItem (OfProtected d)) there w.list.legal)) in
          let one : one_of (declares u (OfItem (OfProtected d))) d.name.name ≡ Some e = ap (λ t. cond t (Some e) None) (bytes_same d.name.name) in
          let stands_ = item_stands program s all w j (OfItem (OfProtected d)) d.name.name e there new one in
          protected_known e (declared_one u (OfItem (OfProtected d)) (record { name = d.name.name; entity = e }) refl)
          (λ h. no_doubt program s all w d.name.name (stands_ ∙ ap Some h))

  module _ (k : ℕ) (nm : Identifier) (items : List ProtectedItemTree) (end_name : Identifier) (at : slice_get all k ≡ Some (ProtectedBody nm items end_name))
      (own : (j : ℕ) (i : ProtectedItemTree) → slice_get items j ≡ Some i → bodies.HasOwn program s all w k nm items end_name at i) where
    abbrev obj : ProtectedObject
    obj = (bodies.there program s all w k nm items end_name at).object

    abbrev here : Scope
    here = scope_at s all k

    abbrev hidden : Scope
    hidden = bodies.hidden program s all w k nm items end_name at

    abbrev ended : Scope
    ended = bodies.ended program s all w k nm items end_name at

    abbrev declaration : bodies.IsObjectAt program s all w nm.name obj
    declaration = bodies.declared_at program s all w k nm items end_name at

    abbrev pub within_object : Place → Place
    within_object p = inside program m (record { within = Some obj.number; locals = [] }) p

    -- ---- components

    components_are : program.components obj.number ≡ map (component program.scope) declaration.tree.components
    components_are =
        let number = number_of_object program s all w nm.name obj declaration in
        let none = w.unprotected in
        ap (λ f. f obj.number) w.components
        ∙ ap objects_or_none
        (components_at_number program.scope s all declaration.place declaration.tree counts declaration.at obj.number (omega (arith, number, none)))

    abbrev parts_of : object_components (scope_at s all declaration.place) declaration.tree.components ≡ Some obj.components
    parts_of = bodies.components_of program s all w nm.name obj declaration

    pub component_none : (f : Bool) (name : List ℕ) → found_in (components_named f obj.components) name ≡ None → object_of (m.components obj.number) name ≡ None
    component_none f name h = by_found (object_of (m.components obj.number) name) refl
      where
        by_found : (x : Option Object) → object_of (m.components obj.number) name ≡ x → x ≡ None
        by_found None i = refl
        by_found (Some x) i =
            let there =
            object_by (object_of (program.components obj.number) name) x.subtype
            (sym (memory.same.components obj.number name) ∙ ap (option_map object_subtype) i) in
            let none = no_part_object program.scope (scope_at s all declaration.place) f declaration.tree.components obj.components name parts_of h in
            let bad = sym none ∙ ap (λ l. object_of l name) (sym components_are) ∙ there.1 in cc

    pub component_there : (f : Bool) (name : List ℕ) (e : Entity) → found_in (components_named f obj.components) name ≡ Some e
        → (x : Object) × (object_of (m.components obj.number) name ≡ Some x) × (e ≡ entity.Object (component_role f) x.subtype)
    component_there f name e h =
        let first = component_found program.scope (scope_at s all declaration.place) f declaration.tree.components obj.components name e
        (λ c t i. subtype_kept (scope_at s all declaration.place) program.scope (kept program s all w declaration.place) c.subtype t i) parts_of h in
        let found = ap (λ l. object_of l name) components_are ∙ first.1 in
        let x =
        object_by (object_of (m.components obj.number) name) first.0.subtype
        (memory.same.components obj.number name ∙ ap (option_map object_subtype) found) in
        (x.0, x.1, first.2 ∙ ap (entity.Object (component_role f)) (sym x.2))

    -- ---- names in front of the body mean there what they mean in the package

    pub none_here : (name : List ℕ) (e : Entity) → stands here name ≡ Some e → object_of (m.components obj.number) name ≡ None
    none_here name e h =
        component_none false name
        (no_part (scope_at s all declaration.place) false declaration.tree.components obj.components name parts_of
        (bodies.no_part_here program s all w k nm items end_name at name e h).1)

    one_only : (name : List ℕ) → (object_of m.variables name ≡ None) ⊎ (function_of program.functions None name ≡ None)
    one_only name = by_found (object_of m.variables name) refl (function_of program.functions None name) refl
      where
        by_found : (v : Option Object) → object_of m.variables name ≡ v → (f : Option Function) → function_of program.functions None name ≡ f
            → (v ≡ None) ⊎ (f ≡ None)
        by_found None i f j = inl refl
        by_found (Some v) i None j = inr refl
        by_found (Some v) i (Some f) j =
            let there = object_by (object_of program.variables name) v.subtype (sym (memory.same.variables name) ∙ ap (option_map object_subtype) i) in
            let bad = sym (variable_entity program s all w name there.0 there.1) ∙ (function_entity program s all w name f j).stands_ in cc

    abbrev last_meaning : List ℕ → Meaning
    last_meaning name = meaning_in_scope program.scope (number_of program.scope name)

    module _ (p : Place) where
      abbrev outer : Place
      outer = in_package program s all w m memory p

      meaning_moved : (name : List ℕ) (e : Entity) → stands here name ≡ Some e → meaning_of (within_object p) name ≡ meaning_of outer name
      meaning_moved name e h =
          (λ j. inner_meaning (none_here name e h j) (outside_function program s all w k nm items end_name at own name e h j) (object_of m.variables name) (function_of program.functions None name) (last_meaning name))
          ∙ same_meaning (object_of m.variables name) (function_of program.functions None name) (last_meaning name) (one_only name)

      standing_moved : (name : List ℕ) (e : Entity) → stands here name ≡ Some e → stands_here (within_object p) name ≡ stands_here outer name
      standing_moved name e h =
          (λ j. inner_standing (none_here name e h j) (outside_function program s all w k nm items end_name at own name e h j) (object_of m.variables name) (function_of program.functions None name) (stands_first program.scope (number_of program.scope name)))
          ∙ same_standing (object_of m.variables name) (function_of program.functions None name) (stands_first program.scope (number_of program.scope name))
          (one_only name)

      function_moved : (name : List ℕ) (e : Entity) (profile : Profile) (o : Option Subtype) → stands here name ≡ Some e
          → MeansFunction outer (meaning_of outer name) profile o
          → MeansFunction (within_object p) (meaning_of (within_object p) name) profile o
      function_moved name e profile None h i = tt
      function_moved name e profile (Some t) h i = (i.0, meaning_moved name e h ∙ i.1, i.2)

      means_moved : (name : List ℕ) (e : Entity) → stands here name ≡ Some e → Means here outer name e → Means here (within_object p) name e
      means_moved name (entity.OfType form t) h i = meaning_moved name (entity.OfType form t) h ∙ i
      means_moved name (entity.OfSubtype t) h i = meaning_moved name (entity.OfSubtype t) h ∙ i
      means_moved name (entity.Object r t) h i = subst (λ x. MeansOne here program.scope x r t) (sym (meaning_moved name (entity.Object r t) h)) i
      means_moved name (entity.Constant t v) h i = standing_moved name (entity.Constant t v) h ∙ i
      means_moved name (entity.Literal b) h i = standing_moved name (entity.Literal b) h ∙ i
      means_moved name entity.Exception h i = tt
      means_moved name (Subprogram profile) h i = function_moved name (Subprogram profile) profile profile.result h i
      means_moved name (entity.Entry profile) h i = tt
      means_moved name (entity.Predefined o profile) h i = meaning_moved name (entity.Predefined o profile) h ∙ i
      means_moved name entity.Put h i = tt
      means_moved name (entity.Task n) h i = tt
      means_moved name (Protected o) h i = record { object = i.object; is = meaning_moved name (Protected o) h ∙ i.is; offers = i.offers }
      means_moved name entity.LibraryUnit h i = tt
      means_moved name Doubtful h i = tt

      front : FitsScope program here outer
      front = front_fits program s all w laws scopes m memory offers fronts k p

      agrees_here : Agrees here (within_object p)
      agrees_here =
          record {
            sound = front.agrees.sound;
            forms = front.agrees.forms;
            shapes = front.agrees.shapes;
            names = λ name n e a b. means_moved name e (stands_number here name n e a b) (front.agrees.names name n e a b);
          }

      agrees_hidden : Agrees hidden (within_object p)
      agrees_hidden = laws.kept.hidden here (within_object p) (bodies.named_n program s all w k nm items end_name at).0 agrees_here

      -- ---- what statements find

      called_moved : (name : List ℕ) (e : Entity) → stands here name ≡ Some e → procedure_here program (Some obj.number) name ≡ procedure_here program None name
      called_moved name e h =
          ap (λ x. or_else x (procedure_among program.procedures None name)) (outside_procedure program s all w k nm items end_name at own name e h)
          ∙ sym (same_twice (procedure_among program.procedures None name))

      found_moved : (name : List ℕ) (e : Entity) → stands here name ≡ Some e → IsFound program None name e → IsFound program (Some obj.number) name e
      found_moved name (Subprogram profile) h i = subst (λ x. IsCalled x profile profile.result) (sym (called_moved name (Subprogram profile) h)) i
      found_moved name (entity.Entry profile) h i = subst (λ x. IsEntry program x profile) (sym (called_moved name (entity.Entry profile) h)) i
      found_moved name (Protected o) h i = i
      found_moved name entity.Put h i = record { is = i.is; free = called_moved name entity.Put h ∙ i.free }
      found_moved name entity.Exception h i = i
      found_moved name e h i = tt

      found_offering : (name : List ℕ) (e : Entity) → IsFound program (Some obj.number) name e → IsFound program (Some obj.number) name (offering [] e)
      found_offering name (Protected o) i = record { object = i.object; is = i.is; operations = λ other n x pos there. cc }
      found_offering name e i = i

      finds_hidden : (name : List ℕ) (e : Entity) → stands hidden name ≡ Some e → IsFound program (Some obj.number) name e
      finds_hidden name e h =
          let x = hidden_stands here (bodies.named_n program s all w k nm items end_name at).0 name e h in
          let found = found_moved name x.before x.stands_ (front.finds name x.before x.stands_) in
          elim x.same [ inl i ↦ subst (IsFound program (Some obj.number) name) i found | inr i ↦ subst (IsFound program (Some obj.number) name) i (found_offering name x.before found) ]

      object_before : (x : Entity) (r : Role) (t : Subtype) → (x ≡ entity.Object r t) ⊎ (offering [] x ≡ entity.Object r t) → x ≡ entity.Object r t
      object_before x r t (inl i) = i
      object_before (Protected o) r t (inr i) = cc
      object_before (entity.Object q u) r t (inr i) = i
      object_before x r t (inr i) = cc

      results_hidden : (name : List ℕ) (r : Role) (t : Subtype) → stands hidden name ≡ Some (entity.Object r t) → is_result r ≡ true
          → subtype_in [] name ≡ Some t
      results_hidden name r t h is =
          let x = hidden_stands here (bodies.named_n program s all w k nm items end_name at).0 name (entity.Object r t) h in
          front.results name r t (x.stands_ ∙ ap Some (object_before x.before r t x.same)) is

    -- ---- types are those in front of the body

    abbrev begun : Scope
    begun = bodies.begun program s all w k nm items end_name at

    abbrev at_ : ℕ → Scope
    at_ j = bodies.at_ program s all w k nm items end_name at j

    abbrev pub seen_at : ℕ → Bool → Scope
    seen_at j f = components_scope (at_ j) f obj.components

    begun_types : SameTypes hidden begun
    begun_types =
        subst (SameTypes hidden) (sym (bodies.begun_is program s all w k nm items end_name at))
        (types_with_all hidden (operations_named obj.operations) (operations_no_types obj.operations))

    pub seen_types : (j : ℕ) (f : Bool) → SameTypes hidden (seen_at j f)
    seen_types j f =
        types_then hidden begun (seen_at j f) begun_types
        (types_then begun (at_ j) (seen_at j f) (items_types begun items j)
        (subst (SameTypes (at_ j)) (sym (components_all (at_ j) f obj.components)) (types_with_all (at_ j) (components_named f obj.components) (components_no_types f obj.components))))

    -- ---- where the names of a body come from

    abbrev HasItem : List ℕ → Type 0
    HasItem name = (j : ℕ) × (i : ProtectedItemTree) × (slice_get items j ≡ Some i) × (unit_name i ≡ name)

    pub record IsOp (name : List ℕ) (e : Entity) : Type 0 where
      pub stands_ : stands ended name ≡ Some e
      pub item : HasItem name
      pub kinds : (kind e ≡ Subprograms) ⊎ (kind e ≡ Entries)

    abbrev pub CameTo : Bool → List ℕ → Entity → Type 0
    CameTo f name e = (stands hidden name ≡ Some e) ⊎ (IsOp name e ⊎ (found_in (components_named f obj.components) name ≡ Some e))

    module _ (sounds : bodies.SeenSound program s all w k nm items end_name at) where
      came_at : (j : ℕ) (i : ProtectedItemTree) → slice_get items j ≡ Some i → (name : List ℕ) (e : Entity) → stands (at_ j) name ≡ Some e
          → (stands hidden name ≡ Some e) ⊎ IsOp name e
      came_at j unit_ at_j name e h = by_origin (origin begun (take j (bodies.inner program s all w k nm items end_name at)) name e h)
        where
          by_op : stands begun name ≡ Some e → bodies.IsOperationHere program s all w k nm items end_name at name e → IsOp name e
          by_op i x =
              record {
                stands_ = kept_all begun (bodies.inner program s all w k nm items end_name at) name e i;
                item = item_of program s all w k nm items end_name at own name x.index x.one x.there_ x.named;
                kinds = subst (λ y. (kind y ≡ Subprograms) ⊎ (kind y ≡ Entries)) x.is (operation_kinds x.one);
              }

          by_helper : Origin begun (take j (bodies.inner program s all w k nm items end_name at)) name e → IsOp name e
          by_helper x =
              let place = within_taken (bodies.inner program s all w k nm items end_name at) j x.place x.item x.at in
              let here_ = scope_at begun (take j (bodies.inner program s all w k nm items end_name at)) x.place in
              let one = bodies.as_one program s all w k nm items end_name at here_ x.place x.item (record { name = name; entity = e }) place.1 x.declared in
              let named : one.0.name.name ≡ name =
              ap (λ y. y.name)
              (same_some (record { name = one.0.name.name; entity = profile_entity (own_profile here_ one.0) }) (record { name = name; entity = e }) (ap (declares here_) (sym one.3) ∙ x.declared)) in
              let is : IsOne Subprograms e =
              subst (λ y. IsOne (body_item_kind y) e) one.3 (declared_one here_ x.item (record { name = name; entity = e }) x.declared) in
              record {
                stands_ = bodies.kept_ended program s all w k nm items end_name at j name e h;
                item = (x.place, OperationBody one.0 one.1, one.2, named);
                kinds =
                    inl (known_kind Subprograms e is (λ i. bodies.doubt_at program s all w k nm items end_name at sounds j unit_ at_j name (h ∙ ap Some i)));
              }

          by_begun : stands begun name ≡ Some e
              → (stands hidden name ≡ Some e) ⊎ ((stands hidden name ≡ None) × (found_in (operations_named obj.operations) name ≡ Some e))
              → (stands hidden name ≡ Some e) ⊎ IsOp name e
          by_begun i (inl x) = inl x
          by_begun i (inr x) = inr (by_op i (bodies.operation_here program s all w k nm items end_name at name e x.1))

          by_origin : (stands begun name ≡ Some e) ⊎ Origin begun (take j (bodies.inner program s all w k nm items end_name at)) name e
              → (stands hidden name ≡ Some e) ⊎ IsOp name e
          by_origin (inl i) =
              by_begun i
              (or_else_some (stands hidden name) (found_in (operations_named obj.operations) name) e (sym (bodies.stands_begun program s all w k nm items end_name at name) ∙ i))
          by_origin (inr x) = inr (by_helper x)

      pub came_seen : (j : ℕ) (i : ProtectedItemTree) → slice_get items j ≡ Some i → (f : Bool) (name : List ℕ) (e : Entity)
          → stands (seen_at j f) name ≡ Some e → CameTo f name e
      came_seen j unit_ at_j f name e h =
          by_case
          (or_else_some (stands (at_ j) name) (found_in (components_named f obj.components) name) e (sym (bodies.stands_seen program s all w k nm items end_name at j f name) ∙ h))
        where
          by_case : (stands (at_ j) name ≡ Some e) ⊎ ((stands (at_ j) name ≡ None) × (found_in (components_named f obj.components) name ≡ Some e))
              → CameTo f name e
          by_case (inl i) = elim (came_at j unit_ at_j name e i) [ inl x ↦ inl x | inr x ↦ inr (inl x) ]
          by_case (inr i) = inr (inr i.1)

    -- ---- such a scope fits

    module _ (f : Bool) (u : Scope) (sound : SoundScope u) (types : SameTypes hidden u)
        (came : (name : List ℕ) (e : Entity) → stands u name ≡ Some e → CameTo f name e) (p : Place) where
      operation_outside : (name : List ℕ) → HasItem name → object_of (m.components obj.number) name ≡ None
      operation_outside name x = component_none f name (ap (found_in (components_named f obj.components)) (sym x.3) ∙ (own x.0 x.1 x.2).apart f)

      function_means : (name : List ℕ) (profile : Profile) (o : Option Subtype) → profile.result ≡ o → stands ended name ≡ Some (Subprogram profile)
          → HasItem name
          → MeansFunction (within_object p) (meaning_of (within_object p) name) profile o
      function_means name profile None i h x = tt
      function_means name profile (Some t) i h x =
          let g = function_inside program s all w k nm items end_name at own name profile t h i x in
          (g.function, (λ j. inner_meaning (operation_outside name x j) (g.found j) (object_of m.variables name) (function_of program.functions None name) (last_meaning name)), g.has)

      op_means : (name : List ℕ) (e : Entity) → IsOp name e → Means u (within_object p) name e
      op_means name (Subprogram profile) x = function_means name profile profile.result refl x.stands_ x.item
      op_means name (entity.Entry profile) x = tt
      op_means name e x = absurd (elim x.kinds [ inl h ↦ cc | inr h ↦ cc ])

      part_means : (name : List ℕ) (e : Entity) → stands u name ≡ Some e → found_in (components_named f obj.components) name ≡ Some e
          → Means u (within_object p) name e
      part_means name e h found =
          subst (Means u (within_object p) name) (sym x.2) (component_means u program.scope (meaning_of (within_object p) name) f x.0.subtype means)
        where
          x : (x : Object) × (object_of (m.components obj.number) name ≡ Some x) × (e ≡ entity.Object (component_role f) x.subtype)
          x = component_there f name e found

          known : IsKnown u x.0.subtype
          known =
              let n = number_stands u name (entity.Object (component_role f) x.0.subtype) (h ∙ ap Some x.2) in
              component_known u f x.0.subtype (sound.each n.0 (entity.Object (component_role f) x.0.subtype) n.2)

          -- its value has the shape of its subtype, here as in the package
          suited : has_shape (shape_of u x.0.subtype) x.0.value ≡ true
          suited =
              let there = sound_object program.scope (m.components obj.number) name x.0 (memory.components obj.number) x.1 in
              let hidden_known = known_same u hidden (types_turned hidden u types) x.0.subtype known in
              values_same hidden u types x.0.subtype x.0.value hidden_known
              ∙ sym (place_shape (agrees_hidden p) hidden_known)
              ∙ subtype_values program.scope x.0.subtype x.0.value ∙ there
            where
              place_shape : Agrees hidden (within_object p) → IsKnown hidden x.0.subtype
                  → has_shape (shape_of program.scope x.0.subtype) x.0.value ≡ has_shape (shape_of hidden x.0.subtype) x.0.value
              place_shape agrees known_ =
                  let form = not_empty (form_at hidden x.0.subtype.type_number) known_ in
                  same_values program.scope hidden x.0.subtype x.0.value (agrees.shapes x.0.subtype.type_number form.0 form.1)

          means : MeansObject u (meaning_of (within_object p) name) x.0.subtype
          means =
              record {
                value = x.0.value;
                is =
                    ap
                    (λ o. inner_meaning o (function_of program.functions (Some obj.number) name) (object_of m.variables name) (function_of program.functions None name) (last_meaning name)) x.1;
                suited = suited;
              }

      name_means : (name : List ℕ) (e : Entity) → stands u name ≡ Some e → CameTo f name e → Means u (within_object p) name e
      name_means name e h (inl i) =
          let n = number_stands hidden name e i in
          means_types hidden u types (within_object p) (agrees_hidden p) name n.0 e n.2 ((agrees_hidden p).names name n.0 e n.1 n.2)
      name_means name e h (inr (inl x)) = op_means name e x
      name_means name e h (inr (inr x)) = part_means name e h x

      first_called : (x y : Option Procedure) (profile : Profile) → IsProcedure x profile → IsProcedure (or_else x y) profile
      first_called x y profile h = record { procedure = h.procedure; is = ap (λ z. or_else z y) h.is; formals = h.formals; barrier = h.barrier }

      first_entry : (x y : Option Procedure) (profile : Profile) → IsEntry program x profile → IsEntry program (or_else x y) profile
      first_entry x y profile h =
          record {
            procedure = h.procedure;
            is = ap (λ z. or_else z y) h.is;
            formals = h.formals;
            condition = h.condition;
            barrier = h.barrier;
            object = h.object;
            owner = h.owner;
            only = h.only;
          }

      called_found : (name : List ℕ) (profile : Profile) (o : Option Subtype) → profile.result ≡ o → stands ended name ≡ Some (Subprogram profile)
          → HasItem name
          → IsCalled (procedure_here program (Some obj.number) name) profile o
      called_found name profile None i h x =
          first_called (procedure_among program.procedures (Some obj.number) name) (procedure_among program.procedures None name) profile
          (procedure_inside program s all w k nm items end_name at own name profile h i x)
      called_found name profile (Some t) i h x = tt

      op_found : (name : List ℕ) (e : Entity) → IsOp name e → IsFound program (Some obj.number) name e
      op_found name (Subprogram profile) x = called_found name profile profile.result refl x.stands_ x.item
      op_found name (entity.Entry profile) x =
          first_entry (procedure_among program.procedures (Some obj.number) name) (procedure_among program.procedures None name) profile
          (entry_inside program s all w k nm items end_name at own name profile x.stands_ x.item)
      op_found name e x = absurd (elim x.kinds [ inl h ↦ cc | inr h ↦ cc ])

      name_found : (name : List ℕ) (e : Entity) → CameTo f name e → IsFound program (Some obj.number) name e
      name_found name e (inl i) = finds_hidden p name e i
      name_found name e (inr (inl x)) = op_found name e x
      name_found name e (inr (inr x)) = let y = component_there f name e x in subst (IsFound program (Some obj.number) name) (sym y.2) tt

      name_result : (name : List ℕ) (r : Role) (t : Subtype) → CameTo f name (entity.Object r t) → is_result r ≡ true → subtype_in [] name ≡ Some t
      name_result name r t (inl i) is = results_hidden p name r t i is
      name_result name r t (inr (inl x)) is = absurd (elim x.kinds [ inl h ↦ cc | inr h ↦ cc ])
      name_result name r t (inr (inr x)) is =
          let y = component_there f name (entity.Object r t) x in
          let role_of : Entity → Role = λ e. elim e [ entity.Object q v ↦ q | z ↦ r ] in
          absurd (plain_component f (ap is_result (sym (ap role_of y.2)) ∙ is))

      pub object_fits : FitsScope program u (within_object p)
      object_fits =
          record {
            agrees = record {
              sound = sound;
              forms = λ n form h. (agrees_hidden p).forms n form (sym (types.forms n) ∙ h);
              shapes = λ n form h. (agrees_hidden p).shapes n form (sym (types.forms n) ∙ h) ∙ sym (types.shapes n form (sym (types.forms n) ∙ h));
              names = λ name n e a b. let there = stands_number u name n e a b in name_means name e there (came name e there);
            };
            finds = λ name e h. name_found name e (came name e h);
            results = λ name r t h is. name_result name r t (came name (entity.Object r t) h) is;
          }
