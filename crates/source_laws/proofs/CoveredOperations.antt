-- What is visible in front of each body with code of an accepted text has what its code needs, also of the operations and entries of protected objects.
use Rattle.std.proofs.Common.{◌≡◌, ◌≤◌, ℕ, zero, suc, ◌++◌, append_assoc, [], ◌∷◌, List, length, take, Bool, true, false, ◌||◌, cond, inl, inr, Option, Some, None, refl, sym, ap, ◌∙◌, subst, arith}
use Rattle.std.specs.Prelude.{bytes_eq, is_some, option_map, slice_get}
use Rattle.ada_tree.specs.declared.expression.Identifier.{Identifier}
use Rattle.ada_tree.specs.StatementTree.{SubprogramTree}
use Rattle.ada_tree.specs.ProgramTree.{BodyItemTree, EntryBody, OperationBody, ProgramTree, ProtectedItemTree}
use Rattle.types.specs.declared.entity.RecordComponent.{RecordComponent}
use Rattle.types.specs.declared.entity.Role.{Role}
use Rattle.types.specs.declared.entity.Subtype.{Subtype}
use Rattle.types.specs.declared.standing.Standing.TheVariants as standing
use Rattle.types.specs.Entities as entity
use Rattle.types.specs.Entities.{Entity, Profile, Protected, ProtectedObject, Subprogram}
use Rattle.types.specs.Places.{or_else}
use Rattle.types.specs.Scopes.{Named, Scope, base_range_of, changed_at, form_at, number_of, offering}
use Rattle.types.specs.Standings.{stands_first}
use Rattle.expr_soundness.specs.type_rules.specs.ProfileRules.{formal_parameters, profile_entity, profile_with}
use Rattle.expr_soundness.specs.type_rules.specs.SubtypeNames.{entity_at_or_none}
use Rattle.program_soundness.specs.declaration_rules.specs.BodyNames.{components_scope}
use Rattle.legality.specs.ProgramRules.{IsLegal}
use Rattle.program_soundness.specs.ravenscar.specs.ProgramRules.{IsRestricted}
use Rattle.expr_soundness.specs.Laws.{ScopesAreSound}
use Rattle.expr_soundness.specs.SoundScopes.{IsKnown}
use Rattle.expr_soundness.specs.meaning.specs.Programs.{Program, program_of}
use Rattle.expr_soundness.proofs.Hiding.{changed_number}
use Rattle.expr_soundness.proofs.Positions.{entity_number, number_kept, number_place}
use Rattle.program_soundness.specs.BodyLaws.{NamesAreKnown, PremisesHold}
use Rattle.program_soundness.specs.Fronts.{declared_in, front, start_in}
use Rattle.program_soundness.proofs.BodyProfiles.{profile_none, profile_some}
use Rattle.program_soundness.proofs.Listing.{same_some}
use Rattle.program_soundness.proofs.ObjectBodies as bodies
use Rattle.program_soundness.proofs.ObjectTrees.{components_all, components_named, operations_named}
use Rattle.program_soundness.proofs.Walked.{kept_all, kind, own_profile}
use Rattle.program_soundness.proofs.Whole.{IsPackage, is_first}
use Rattle.program_soundness.proofs.WiderScopes.{found_in, number_stands, stands, stands_number}
use Rattle.expr_code.specs.Seeing.{external_of, external_profile, profile_named, slot_of, subprogram_of, subprogram_profile, told_of}
use Rattle.expr_code.specs.declared.visible.Slot.{Slot}
use Rattle.expr_code.proofs.Externals.{IsBehind, is_behind}
use Rattle.part_code.specs.EntryNames.{entry_behind}
use Rattle.package_code.specs.Bodies.{Coded, number_in, object_number, operation_front, IsBodyOf}
use Rattle.package_code.specs.Laws.{TablesAreSmall}
use Rattle.package_code.specs.Owners.{in_object, told_inside, told_slot}
use Rattle.package_code.specs.Package.{place_among}
use Rattle.package_code.specs.Refusing.{seen_by, seen_with, slot_in, told_behind}
use Rattle.package_code.proofs.Coded.{coded_by}
use Rattle.package_code.proofs.InFront.{LawsOfNames}
use Rattle.package_code.proofs.ObjectNames.{no_number, no_slot}
use Rattle.package_code.proofs.OperationBodies.{has_number, of_number}
use Rattle.package_code.proofs.OperationsAdded as added
use Rattle.package_code.proofs.Seen.{all_behind, start_fits}
use Rattle.package_code.proofs.ToldInside.{added as names_added, with_added}
use Rattle.source_laws.proofs.MainKnown.{place_behind, told_name}
use Rattle.part_code.specs.Providing.{HasWhatCodeNeeds}
use Rattle.expr_code.specs.Providing.{FewFormals, is_scalar_form}
use Rattle.source_laws.specs.Visible.{KeepsLimits}
use Rattle.source_laws.proofs.AddedNames.{with_behind}
use Rattle.stmt_code.proofs.CoveredScopes.{part_named}
use Rattle.source_laws.proofs.CoveredFronts.{covered_at, kept_here, named_subprogram, placed_stored, raised_at, results_at, scalar_here, subprogram_numbered, unstarted, variable_placed}
use Rattle.source_laws.proofs.InsideEntities.{front_sound, profile_legal, seen_sound}
use Rattle.source_laws.proofs.InsideNames as inside
use Rattle.stmt_code.proofs.ObjectMore.{profile_by}
use Rattle.source_laws.proofs.ObjectsOffer.{gives_behind, offered_behind, result_known, result_scalar}

-- ---- names behind others

abbrev Grows : Scope → Scope → Type 0
Grows s u = (more : Scope) × (u ≡ s ++ more)

further : (s u v : Scope) → Grows s u → Grows u v → Grows s v
further s u v one two = (one.0 ++ two.0, two.1 ∙ ap (λ l. l ++ two.0) one.1 ∙ append_assoc s one.0 two.0)

-- components and the own name stand behind what is visible in front of an operation
components_grow : (s : Scope) (f : Bool) (cs : List RecordComponent) → Grows s (components_scope s f cs)
components_grow s f cs = (names_added s (components_named f cs), components_all s f cs ∙ with_added s (components_named f cs))

operation_grows : (s : Scope) (cs : List RecordComponent) (i : ProtectedItemTree) → Grows s (operation_front s cs i)
operation_grows s cs (OperationBody d b) =
    let u : Scope = components_scope s (is_some d.result) cs in
    further s u (operation_front s cs (OperationBody d b)) (components_grow s (is_some d.result) cs)
    (with_behind u d.name.name (profile_entity (own_profile u d)))
operation_grows s cs (EntryBody d barrier b) = components_grow s false cs

changed_long : (s : Scope) (n : ℕ) (change : Entity → Entity) → length (changed_at s n change) ≡ length s
changed_long [] n change = refl
changed_long (x ∷ s) zero change = refl
changed_long (x ∷ s) (suc n) change = ap suc (changed_long s n change)

-- ---- what is told of a name: as of one of the object's own, or else as of one of the package

own_told : {X : Type 0} (a b : Option X) → is_some a ≡ true → is_some (or_else a b) ≡ true
own_told (Some x) b h = refl
own_told None b h = absurd cc

package_told : {X : Type 0} (a b : Option X) → is_some b ≡ true → is_some (or_else a b) ≡ true
package_told (Some x) b h = refl
package_told None b h = h

mapped_some : (o : Option Slot) → is_some o ≡ true → is_some (option_map in_object o) ≡ true
mapped_some (Some x) h = refl
mapped_some None h = absurd cc

profile_by_name : (s : Scope) (name : List ℕ) (p : Profile) → stands s name ≡ Some (Subprogram p) → profile_named s name ≡ Some p
profile_by_name s name p h = by_number (number_of s name) h
  where
    by_number : (o : Option ℕ) → entity_at_or_none s o ≡ Some (Subprogram p) → profile_by s o ≡ Some p
    by_number (Some n) k = ap subprogram_profile k
    by_number None k = cc

-- ---- in front of an operation or entry

module _ (scopes : ScopesAreSound) (known : NamesAreKnown) (premises : PremisesHold) (tables : TablesAreSmall) (t : ProgramTree) (legal : IsLegal t)
    (restricted : IsRestricted t) where
  abbrev program : Program
  program = program_of t

  abbrev start : Scope
  start = start_in t.package_

  abbrev all : List BodyItemTree
  all = declared_in t.package_

  abbrev whole : Scope
  whole = program.scope

  abbrev w : IsPackage program start all
  w = added.w scopes known premises t legal restricted

  module _ (place k : ℕ) (c : Coded) (x : added.IsInObject scopes known premises t legal restricted place k c) where
    abbrev here : Scope
    here = front t place

    abbrev object : ProtectedObject
    object = added.obj scopes known premises t legal restricted place x.name x.items x.end_name x.at

    abbrev o : ℕ
    o = object_number whole x.name

    number_is : o ≡ object.number
    number_is = added.number_is scopes known premises t legal restricted place x.name x.items x.end_name x.at

    -- ---- the names in front of the whole body stand first

    abbrev outer : Scope
    outer = bodies.hidden program start all w place x.name x.items x.end_name x.at

    abbrev begun : Scope
    begun = bodies.begun program start all w place x.name x.items x.end_name x.at

    abbrev inner : List BodyItemTree
    inner = bodies.inner program start all w place x.name x.items x.end_name x.at

    outer_long : length outer ≡ length here
    outer_long = changed_long here (bodies.named_n program start all w place x.name x.items x.end_name x.at).0 (offering [])

    outer_number : (name : List ℕ) → number_of outer name ≡ number_of here name
    outer_number name = changed_number here (bodies.named_n program start all w place x.name x.items x.end_name x.at).0 (offering []) name

    front_grows : Grows outer c.front
    front_grows =
        let earlier = inside.at_ scopes known premises t legal restricted place k c x k in
        let first : Grows outer begun = (
          names_added outer (operations_named object.operations),
          bodies.begun_is program start all w place x.name x.items x.end_name x.at ∙ with_added outer (operations_named object.operations),
        ) in
        let last = operation_grows earlier object.components x.item in
        further outer earlier c.front (further outer begun earlier first (all_behind begun (take k inner)))
        (last.0, inside.front_is scopes known premises t legal restricted place k c x ∙ last.1)

    -- so what is no name in front of the package stands behind these
    behind_start : (name : List ℕ) (n : ℕ) → number_of start name ≡ None → number_of c.front name ≡ Some n → length start ≤ n
    behind_start name n none h = by_number (number_of here name) refl
      where
        test : Named → Bool
        test m = bytes_eq name m.name

        found : number_of (outer ++ front_grows.0) name ≡ Some n
        found = ap (λ u. number_of u name) (sym front_grows.1) ∙ h

        by_number : (m : Option ℕ) → number_of here name ≡ m → length start ≤ n
        by_number None is =
            let unseen = sym (number_place outer name) ∙ outer_number name ∙ is in
            let after = place_behind test outer front_grows.0 n unseen (sym (number_place (outer ++ front_grows.0) name) ∙ found) in
            let long = outer_long in
            let fits = start_fits t place in
            omega (arith, after, long, fits)
        by_number (Some m) is =
            let same : m ≡ n = same_some m n (sym (number_kept outer front_grows.0 name m (outer_number name ∙ is)) ∙ found) in
            let more = all_behind start (take place all) in
            let there = sym (number_place (start ++ more.0) name) ∙ ap (λ u. number_of u name) (sym more.1) ∙ is in
            let after = place_behind test start more.0 m (sym (number_place start name) ∙ none) there in
            omega (arith, same, after)

    -- what is told of a name that is visible there
    told_there : {X : Type 0} (tell : List ℕ → Option X) (name : List ℕ) (e : Entity) → stands c.front name ≡ Some e → number_of start name ≡ None
        → told_of c.front (told_behind (length start) tell c.front) name ≡ tell name
    told_there tell name e h none =
        let n = number_stands c.front name e h in told_name (length start) tell c.front name n.0 n.1 (behind_start name n.0 none n.1)

    -- what isn't visible in front of the whole body is none in front of the package
    unseen_start : (name : List ℕ) → stands here name ≡ None → number_of start name ≡ None
    unseen_start name unseen = by_number (number_of start name) refl
      where
        by_number : (m : Option ℕ) → number_of start name ≡ m → m ≡ None
        by_number None is = refl
        by_number (Some n) is =
            absurd (let e = entity_number start name n is in
            let there = kept_all start (take place all) name e.0 (stands_number start name n e.0 is e.1) in
            let never = sym unseen ∙ there in cc)

    -- ... of those of the package
    package_start : (name : List ℕ) (e : Entity) → stands here name ≡ Some e → is_first (kind e) ≡ false → number_of start name ≡ None
    package_start name e h plain =
        unstarted scopes known premises tables t legal restricted name e (kept_here scopes known premises tables t legal restricted place name e h) plain

    -- ---- objects

    abbrev slots_told : List ℕ → Option Slot
    slots_told = told_slot (slot_in t) (number_in t) (Some o)

    stored_by : (name : List ℕ) → number_in t (Some o) name ≡ None → is_some (told_inside (slot_in t) (Some o) name) ≡ true → is_some (slots_told name) ≡ true
    stored_by name none h = ap (λ n. is_some (cond (is_some n) None (told_inside (slot_in t) (Some o) name))) none ∙ h

    abbrev IsComponent : List ℕ → Role → Subtype → Type 0
    IsComponent name r u = inside.IsComponent scopes known premises t legal restricted place k c x name r u

    module _ (name : List ℕ) (r : Role) (u : Subtype) (there : IsComponent name r u) where
      component_placed : is_some (slot_in t (Some o) name) ≡ true
      component_placed =
          mapped_some _
          (ap (λ n. is_some (place_among 0 (program.components n) name)) number_is
          ∙ placed_stored 0 (program.components object.number) name there.part there.found)

      -- it is not visible in front of the whole body
      component_new : stands here name ≡ None
      component_new = by_stands (stands here name) refl
        where
          by_stands : (e : Option Entity) → stands here name ≡ e → e ≡ None
          by_stands None is = refl
          by_stands (Some e) is =
              absurd (let none = no_slot scopes known premises t legal restricted place x.name x.items x.end_name x.at name e is in
              let never = sym component_placed ∙ ap is_some none in cc)

      -- no operation has its name
      component_bare : number_in t (Some o) name ≡ None
      component_bare = by_number (number_in t (Some object.number) name) refl
        where
          by_number : (n : Option ℕ) → number_in t (Some object.number) name ≡ n → number_in t (Some o) name ≡ None
          by_number None is = ap (λ m. number_in t (Some m) name) number_is ∙ is
          by_number (Some n) is =
              absurd (let i = of_number scopes known premises t legal restricted place x.name x.items x.end_name x.at name n is in
              let own = inside.owned scopes known premises t legal restricted place k c x i.0 i.1 i.2 in
              let f = inside.is_function scopes known premises t legal restricted place k c x in
              let none = ap (found_in (components_named f object.components)) (sym (sym (inside.named_unit i.1) ∙ i.3)) ∙ own.apart f in
              let never = sym none ∙ there.among in cc)

    stored_there : (name : List ℕ) (r : Role) (u : Subtype) → stands_first c.front (number_of c.front name) ≡ standing.Part r u
        → is_some (slot_of (seen_with t (Some o) c.front) name) ≡ true
    stored_there name r u h =
        elim (inside.object_named scopes known premises t legal restricted place k c x name r u e) [
          | inl y ↦ ap is_some (told_there slots_told name (entity.Object r u) e (package_start name (entity.Object r u) y refl))
              ∙ stored_by name (no_number scopes known premises t legal restricted place x.name x.items x.end_name x.at name (entity.Object r u) y)
              (package_told (slot_in t (Some o) name) (slot_in t None name)
              (variable_placed scopes known premises tables t legal restricted name r u
              (kept_here scopes known premises tables t legal restricted place name (entity.Object r u) y)))
          | inr y ↦ ap is_some (told_there slots_told name (entity.Object r u) e (unseen_start name (component_new name r u y)))
              ∙ stored_by name (component_bare name r u y)
              (own_told (slot_in t (Some o) name) (slot_in t None name) (component_placed name r u y))
        ]
      where
        e : stands c.front name ≡ Some (entity.Object r u)
        e = part_named c.front name r u h

    -- ---- subprograms

    abbrev numbers_told : List ℕ → Option ℕ
    numbers_told = told_inside (number_in t) (Some o)

    abbrev IsOwn : List ℕ → Profile → Type 0
    IsOwn name p = inside.IsOwnSubprogram scopes known premises t legal restricted place k c x name p

    own_new : (name : List ℕ) (p : Profile) (y : IsOwn name p) → stands here name ≡ None
    own_new name p y =
        ap (stands here) (sym y.named) ∙ bodies.outer_new program start all w place x.name x.items x.end_name x.at y.index y.subprogram y.body y.there

    own_numbered : (name : List ℕ) (p : Profile) (y : IsOwn name p) → is_some (number_in t (Some o) name) ≡ true
    own_numbered name p y =
        ap (λ m. is_some (number_in t (Some m) name)) number_is ∙ ap (λ l. is_some (number_in t (Some object.number) l)) (sym y.named)
        ∙ ap is_some
        (has_number scopes known premises t legal restricted place x.name x.items x.end_name x.at y.index (OperationBody y.subprogram y.body) y.there)

    numbered_there : (name : List ℕ) (p : Profile) → profile_named c.front name ≡ Some p
        → is_some (subprogram_of (seen_with t (Some o) c.front) name) ≡ true
    numbered_there name p h =
        let e = named_subprogram c.front name p h in
        elim (inside.subprogram_named scopes known premises t legal restricted place k c x name p e) [
          | inl y ↦ ap is_some (told_there numbers_told name (Subprogram p) e (package_start name (Subprogram p) y refl))
              ∙ package_told (number_in t (Some o) name) (number_in t None name)
              (subprogram_numbered scopes known premises tables t legal restricted name p
              (kept_here scopes known premises tables t legal restricted place name (Subprogram p) y))
          | inr y ↦ ap is_some (told_there numbers_told name (Subprogram p) e (unseen_start name (own_new name p y)))
              ∙ own_told (number_in t (Some o) name) (number_in t None name) (own_numbered name p y)
        ]

    -- ---- results of functions

    -- types are those in front of the whole body
    scalar_there : (n : ℕ) → is_scalar_form (form_at here n) ≡ true → is_scalar_form (form_at c.front n) ≡ true
    scalar_there n h = ap is_scalar_form ((inside.types_there scopes known premises t legal restricted place k c x).forms n) ∙ h

    module _ (name : List ℕ) (p : Profile) (u : Subtype) (y : IsOwn name p) (gives : p.result ≡ Some u) where
      abbrev d : SubprogramTree
      d = y.subprogram

      abbrev f : Bool
      f = is_some d.result

      -- in front of the own name
      abbrev seen : Scope
      seen = inside.seen_at scopes known premises t legal restricted place k c x y.index f

      own_scalar : is_scalar_form (form_at here u.type_number) ≡ true
      own_scalar = by_result d.result refl y.own
        where
          by_result : (r : Option Identifier) → d.result ≡ r → profile_with whole (formal_parameters whole d.formals) r ≡ Some p
              → is_scalar_form (form_at here u.type_number) ≡ true
          by_result None is own =
              absurd (let none = profile_none whole (formal_parameters whole d.formals) p own in let bad = sym none ∙ gives in cc)
          by_result (Some r) is own =
              let sound = seen_sound scopes known premises t legal restricted place k c x y.index (OperationBody d y.body) y.there f in
              let profile = profile_legal scopes known premises t legal restricted place k c x y.index d y.body y.there in
              let z = result_scalar scopes seen sound d profile r is in
              let v = profile_some whole (formal_parameters whole d.formals) r p own in
              let there = bodies.types_seen program start all w place x.name x.items x.end_name x.at y.index f r z.subtype z.here in
              let same : z.subtype ≡ u = same_some z.subtype u (sym there ∙ v.1 ∙ sym v.2 ∙ gives) in
              let forms = (inside.types_seen scopes known premises t legal restricted place k c x y.index f).forms z.subtype.type_number in
              subst (λ (q : Subtype). is_scalar_form (form_at here q.type_number) ≡ true) same (ap is_scalar_form (sym forms) ∙ z.scalar)

    results_there : (name : List ℕ) (p : Profile) (u : Subtype) → profile_named c.front name ≡ Some p → p.result ≡ Some u
        → is_scalar_form (form_at c.front u.type_number) ≡ true
    results_there name p u h gives =
        scalar_there u.type_number
        (elim (inside.subprogram_named scopes known premises t legal restricted place k c x name p (named_subprogram c.front name p h)) [
          | inl y ↦ results_at scopes known premises tables t legal restricted place name p u (profile_by_name here name p y) gives
          | inr y ↦ own_scalar name p u y gives
        ])

    -- ---- what is named behind protected objects

    object_there : (name operation : List ℕ) (p : Profile) (y : IsBehind c.front name operation p) → stands whole name ≡ Some (Protected y.protected)
    object_there name operation p y =
        elim (inside.protected_named scopes known premises t legal restricted place k c x name y.protected
        (stands_number c.front name y.number (Protected y.protected) y.numbered y.stands)) [
          | inl z ↦ kept_here scopes known premises tables t legal restricted place name (Protected y.protected) z
          | inr none ↦ absurd (let never = sym (ap (λ l. slice_get l y.place) none) ∙ y.found in cc)
        ]

    offered_there : (name operation : List ℕ) (p : Profile) → external_profile c.front name operation ≡ Some p
        → (is_some (entry_behind c.front name operation) || is_some (external_of (seen_with t (Some o) c.front) name operation)) ≡ true
    offered_there name operation p h =
        let y = is_behind c.front name operation p h in
        offered_behind scopes known premises tables t legal restricted c.front name operation p y (object_there name operation p y)

    gives_there : (name operation : List ℕ) (p : Profile) (u : Subtype) → external_profile c.front name operation ≡ Some p
        → p.result ≡ Some u
        → (is_some (external_of (seen_with t (Some o) c.front) name operation) ≡ true) × (is_scalar_form (form_at c.front u.type_number) ≡ true)
    gives_there name operation p u h gives =
        let sound = front_sound scopes known premises t legal restricted place k c x in
        let y = is_behind c.front name operation p h in
        let it = gives_behind scopes known premises tables t legal restricted c.front name operation p y (object_there name operation p y) u gives in
        let forms = (inside.types_there scopes known premises t legal restricted place k c x).forms u.type_number in
        let told : IsKnown here u = ap is_some (sym forms) ∙ result_known c.front sound name operation p y u gives in
        (it.0, scalar_there u.type_number (scalar_here scopes known premises tables t legal restricted place u told it.1))

    covered_inside : FewFormals c.front → KeepsLimits c.front → HasWhatCodeNeeds program.exceptions (seen_by t c)
    covered_inside few limits =
        subst (λ owner. HasWhatCodeNeeds program.exceptions (seen_with t owner c.front))
        (sym (added.owner_is scopes known premises t legal restricted place k c x))
        (record {
          expressions =
              record { formals = few; stored = stored_there; numbered = numbered_there; results = results_there; gives = gives_there };
          full = λ n form h. limits.types (base_range_of n) (ap is_some h);
          raised = λ name h. raised_at scopes known premises tables t legal restricted place name
              (inside.exception_named scopes known premises t legal restricted place k c x name h);
          offered = offered_there;
        })

-- ---- in front of each body with code

pub covered_body : LawsOfNames → TablesAreSmall → (t : ProgramTree) → IsLegal t → IsRestricted t → (c : Coded) → IsBodyOf t c → FewFormals c.front
    → KeepsLimits c.front → HasWhatCodeNeeds (program_of t).exceptions (seen_by t c)
covered_body laws tables t legal restricted c x =
    coded_by t x.place
    (λ y k e. slice_get (declared_in t.package_) x.place ≡ Some y → FewFormals e.front → KeepsLimits e.front
    → HasWhatCodeNeeds (program_of t).exceptions (seen_by t e))
    (λ d b at few limits. covered_at laws.scopes laws.names laws.premises tables t legal restricted (suc x.place) few limits)
    (λ name b at few limits. covered_at laws.scopes laws.names laws.premises tables t legal restricted (suc x.place) few limits)
    (λ name items end_name k e here at few limits.
    let y = added.inside_coded laws.scopes laws.names laws.premises t legal restricted x.place name items end_name at k e here in
    covered_inside laws.scopes laws.names laws.premises tables t legal restricted x.place k e
    (record { name = name; items = items; end_name = end_name; at = at; item = y.0; there = y.1; is = y.2 }) few limits) x.item x.index c x.coded x.at
