-- The entry of an object is open in an image where it is open in the program: a barrier is a component, whose word is not 0 where it is True, or it is True or
-- False by itself (RM 9.5.2).
use Rattle.std.proofs.Common.{◌≡◌, ℕ, inl, inr, List, [], ◌∷◌, ◌++◌, Bool, true, false, cond, ◌&&◌, Option, Some, None, refl, sym, ap, ◌∙◌, subst, arith}
use Rattle.std.specs.Prelude.{◌≤◌, ◌+◌, drop, is_some, length, nat_eq, nat_le, option_map, pos, slice_get, take, ℤ}
use Rattle.std.proofs.lemmas.Bool.{eqb-true}
use Rattle.ada_tree.specs.declared.declaration.Formal.{Formal}
use Rattle.ada_tree.specs.declared.expression.Identifier.{Identifier}
use Rattle.ada_tree.specs.ExpressionTree.{ExprTree, Named, NoSelectors}
use Rattle.ada_tree.specs.ProgramTree.{BodyItemTree, EntryBody, ProgramTree, ProtectedItemTree}
use Rattle.image.specs.Frames.{Words, words_at}
use Rattle.image.specs.ObjectTable.{ObjectRow}
use Rattle.image.specs.Sections.{Sections}
use Rattle.image.specs.Steps as steps
use Rattle.image.specs.declared.instruction.Region.{Region}
use Rattle.image.specs.declared.instruction.Region.TheVariants as regions
use Rattle.image.specs.declared.objects.Barrier.TheVariants as barriers
use Rattle.types.specs.declared.entity.PredefinedOperation.TheVariants as predefined
use Rattle.types.specs.declared.entity.Role.TheVariants as role
use Rattle.types.specs.declared.standing.Standing.{Standing}
use Rattle.types.specs.declared.standing.Standing.TheVariants as standing
use Rattle.types.specs.Entities.{Booleans, Entity, ProtectedObject, Predefined}
use Rattle.types.specs.Entities as entity
use Rattle.types.specs.Evaluations.{Gives, Val}
use Rattle.types.specs.Evaluating.{call, ended, fixed_value, val}
use Rattle.types.specs.Places.{Object, Place, ceiling_of, is_of, meaning_in_scope, meaning_of_entity, meaning_or, object_meaning, object_of, object_stands, or_else}
use Rattle.types.specs.Scopes.{Scope, boolean_type, entity_at, number_of}
use Rattle.types.specs.Shapes.{Logical, Shape, has_shape, word_of}
use Rattle.types.specs.Standings.{settle, stands_first, stands_for}
use Rattle.types.specs.Statics.{name_form, no_calls, static_form, static_place, static_value}
use Rattle.types.specs.Values.{Array, Number, Record, Truth, Value, value_of}
use Rattle.expr_soundness.specs.SoundScopes.{SoundScope}
use Rattle.expr_soundness.specs.expr_rules.specs.declared.own.Own.TheVariants.{Typed}
use Rattle.expr_soundness.specs.expr_rules.specs.ExpressionRules.{faults_in}
use Rattle.expr_soundness.specs.expr_rules.specs.Typing.{boolean_wanted, own_of_standing}
use Rattle.expr_soundness.specs.expr_rules.specs.NameRules.{mismatch}
use Rattle.expr_soundness.specs.expr_rules.specs.Laws.{type_shape}
use Rattle.expr_soundness.specs.expr_rules.proofs.TypedLaw.{back_empty, front_empty, unbroken}
use Rattle.expr_soundness.proofs.Expressions.{not_false}
use Rattle.expr_soundness.proofs.Parts.{shape_by_form}
use Rattle.type_rules.specs.ObjectRules.{object_entity}
use Rattle.type_rules.specs.SubtypeNames.{end_rule, subtype_of}
use Rattle.type_rules.specs.ProfileRules.{formals_faults}
use Rattle.declaration_rules.specs.BodyNames.{components_scope, formal_role, formal_scope, formals_scope}
use Rattle.program_soundness.specs.stmt_rules.specs.declared.around.BodyKind.TheVariants as kinds
use Rattle.program_soundness.specs.stmt_rules.specs.SimpleRules.{condition_faults}
use Rattle.unit_rules.specs.BodyRules.{body_faults}
use Rattle.unit_rules.specs.ProtectedBodyRules.{entry_rule}
use Rattle.program_soundness.specs.legality.specs.ProgramRules.{IsLegal}
use Rattle.ravenscar.specs.ProgramRules.{IsRestricted}
use Rattle.expr_soundness.specs.meaning.specs.Calls.{barrier_of, barrier_place, holds_at, is_open, is_true}
use Rattle.expr_soundness.specs.meaning.specs.Programs.{Procedure, Program, program_of}
use Rattle.expr_soundness.specs.meaning.specs.Works.{Store}
use Rattle.program_soundness.specs.step_soundness.specs.Fitting.{entry_of}
use Rattle.program_soundness.specs.step_soundness.specs.Holding.{IsSoundStore, seen}
use Rattle.program_soundness.specs.BodyLaws.{IsSoundMemory}
use Rattle.program_soundness.specs.Fronts.{declared_in, scope_at, start_in}
use Rattle.program_soundness.proofs.Agreed.{OffersAll, object_by, sound_object}
use Rattle.program_soundness.proofs.Assembled as assembled
use Rattle.program_soundness.proofs.Barriers.{IsBare, barrier_bare, program_bare}
use Rattle.program_soundness.proofs.Listing.{dropped_at, same_some}
use Rattle.program_soundness.proofs.Moved.{hidden_stands}
use Rattle.program_soundness.proofs.ObjectBodies as bodies
use Rattle.program_soundness.proofs.ObjectFits as fits
use Rattle.program_soundness.proofs.ObjectTrees.{components_named}
use Rattle.program_soundness.proofs.Whole.{IsPackage}
use Rattle.program_soundness.proofs.WiderScopes.{found_in, number_stands, one_named, stands, stands_with}
use Rattle.expr_code.specs.Naming.{Lies}
use Rattle.expr_code.specs.Seeing.{Package}
use Rattle.expr_code.specs.Views.{View}
use Rattle.expr_code.specs.declared.visible.Slot.{Slot}
use Rattle.step_simulation.specs.part_code.specs.Resting.{StandsFor}
use Rattle.package_code.specs.Objects.{HaveObjects, barrier_by, barrier_row, is_static_truth, service_of}
use Rattle.package_code.specs.Package.{IsInOrder, IsPackageOf, place_among}
use Rattle.package_code.specs.Owners.{in_object}
use Rattle.package_code.specs.Refusing.{slot_in}
use Rattle.package_code.proofs.EntryRows.{IsEntryBody, element, entry_body, row_is}
use Rattle.package_code.proofs.InFront.{LawsOfNames, known, names, whole}
use Rattle.package_code.proofs.InOrder.{stands_there}
use Rattle.package_code.proofs.OperationBodies.{object, object_few}
use Rattle.package_code.proofs.OperationsAdded as added
use Rattle.package_code.proofs.Seen.{either_some}
use Rattle.expr_soundness.specs.Lying.{PlaceLies}
use Rattle.program_soundness.specs.step_soundness.specs.InSubtypes.{StoreLies}

-- ---- what a bare name is worth where it is no component

-- what a name means by its scope alone is never True
entity_untrue : (p : Place) (e : Option Entity) → is_true (ended (call 0) p (meaning_of_entity e)) ≡ false
entity_untrue p (Some (entity.OfType form t)) = refl
entity_untrue p (Some (entity.OfSubtype t)) = refl
entity_untrue p (Some (Predefined predefined.Clock profile)) = refl
entity_untrue p (Some (Predefined predefined.Milliseconds profile)) = refl
entity_untrue p (Some (Predefined predefined.Microseconds profile)) = refl
entity_untrue p (Some (Predefined predefined.Read profile)) = refl
entity_untrue p (Some (entity.Protected o)) = refl
entity_untrue p (Some (entity.Object r t)) = refl
entity_untrue p (Some (entity.Constant t v)) = refl
entity_untrue p (Some (entity.Literal b)) = refl
entity_untrue p (Some entity.Exception) = refl
entity_untrue p (Some (entity.Subprogram profile)) = refl
entity_untrue p (Some (entity.Entry profile)) = refl
entity_untrue p (Some entity.Put) = refl
entity_untrue p (Some (entity.Task n)) = refl
entity_untrue p (Some entity.LibraryUnit) = refl
entity_untrue p (Some entity.Doubtful) = refl
entity_untrue p None = refl

scope_untrue : (p : Place) (s : Scope) (k : Option ℕ) → is_true (ended (call 0) p (meaning_in_scope s k)) ≡ false
scope_untrue p s (Some n) = entity_untrue p (entity_at s n)
scope_untrue p s None = refl

-- so it is True where it is static and True
settled : (w : Standing) (a b : Val Value) → is_true a ≡ false
    → is_true (elim (fixed_value w) [ Some v ↦ Gives (value_of v) | None ↦ a ])
    ≡ is_static_truth (name_form w) (elim (fixed_value w) [ Some v ↦ Gives (value_of v) | None ↦ b ])
settled (standing.Fixed t (Some v)) a b h = refl
settled (standing.Given t (Some v)) a b h = refl
settled (standing.Plain z) a b h = refl
settled w a b h = h

always_open : (program : Program) (m : Store) (o : ℕ) (name : Identifier) → object_of (m.components o) name.name ≡ None
    → is_true (val (barrier_place program m o) (Named name NoSelectors))
    ≡ is_static_truth (static_form program.scope (Named name NoSelectors)) (static_value program.scope (Named name NoSelectors))
always_open program m o name none =
    let s = program.scope in
    let k = number_of s name.name in
    let p = barrier_place program m o in
    ap is_true
    (λ j. elim (fixed_value (settle s (object_stands (none j) (stands_first s k)))) [
      | Some v ↦ Gives (value_of v)
      | None ↦ ended (call 0) p (meaning_or (or_else (object_meaning (none j)) None) (meaning_in_scope s k))
    ])
    ∙ settled (settle s (stands_first s k)) (ended (call 0) p (meaning_in_scope s k)) (ended no_calls (static_place s) (meaning_in_scope s k))
    (scope_untrue p s k)

-- ---- ... and where it is one

pub component_worth : (program : Program) (m : Store) (o : ℕ) (name : Identifier) (x : Object) → object_of (m.components o) name.name ≡ Some x
    → val (barrier_place program m o) (Named name NoSelectors) ≡ Gives x.value
component_worth program m o name x found =
    let s = program.scope in
    let k = number_of s name.name in
    λ j. elim (fixed_value (settle s (object_stands (found j) (stands_first s k)))) [
      | Some v ↦ Gives (value_of v)
      | None ↦ ended (call 0) (barrier_place program m o) (meaning_or (or_else (object_meaning (found j)) None) (meaning_in_scope s k))
    ]

-- a value of a Boolean shape
truth_there : (x : Shape) (v : Value) → x ≡ Logical → has_shape x v ≡ true → (b : Bool) × (v ≡ Truth b)
truth_there x v is h = by_value v (ap (λ z. has_shape z v) (sym is) ∙ h)
  where
    by_value : (u : Value) → has_shape Logical u ≡ true → (b : Bool) × (u ≡ Truth b)
    by_value (Truth b) k = (b, refl)
    by_value (Number z) k = cc
    by_value (Array vs) k = cc
    by_value (Record fs) k = cc

-- its word is not 0 where it is True
word_there : (words : List ℤ) (a : ℕ) (b : Bool) → words_at words (pos a) 1 ≡ Some (word_of b ∷ []) → steps.is_nonzero (slice_get words a) ≡ b
word_there words a b h = by_test (nat_le (a + 1) (length words)) h
  where
    first_of : (l : List ℤ) (z : ℤ) → take 1 l ≡ z ∷ [] → slice_get l 0 ≡ Some z
    first_of [] z k = cc
    first_of (y ∷ l) z k = ap (λ u. slice_get u 0) k

    nonzero : (c : Bool) → steps.is_nonzero (Some (word_of c)) ≡ c
    nonzero true = refl
    nonzero false = refl

    some_list : (x y : List ℤ) → Some x ≡ Some y → x ≡ y
    some_list x y k = same_some x y k

    by_test : (c : Bool) → cond c (Some (take 1 (drop a words))) None ≡ Some (word_of b ∷ []) → steps.is_nonzero (slice_get words a) ≡ b
    by_test true k =
        let none : a + 0 ≡ a = omega arith in
        let there = first_of (drop a words) (word_of b) (some_list (take 1 (drop a words)) (word_of b ∷ []) k) in
        ap steps.is_nonzero (ap (slice_get words) (sym none) ∙ sym (dropped_at words a 0) ∙ there) ∙ nonzero b
    by_test false k = cc

-- ---- the barrier of an object's entry

pub barrier_found : (qs : List Procedure) (o : ℕ) → barrier_of qs o ≡ elim (entry_of qs o) [ Some q ↦ q.barrier | None ↦ None ]
barrier_found [] o = refl
barrier_found (q ∷ qs) o = by_test (is_of_entry q) (barrier_found qs o)
  where
    is_of_entry : Procedure → Bool
    is_of_entry x = is_of x.object (Some o) && is_some x.barrier

    by_test : (b : Bool) → barrier_of qs o ≡ elim (entry_of qs o) [ Some z ↦ z.barrier | None ↦ None ]
        → cond b q.barrier (barrier_of qs o) ≡ elim (cond b (Some q) (entry_of qs o)) [ Some z ↦ z.barrier | None ↦ None ]
    by_test true later = refl
    by_test false later = later

formals_stay : (s : Scope) (fs : List Formal) (name : List ℕ) (e : Entity) → stands s name ≡ Some e → stands (formals_scope s fs) name ≡ Some e
formals_stay s [] name e h = h
formals_stay s (f ∷ fs) name e h =
    let own : Entity = object_entity (formal_role f.mode) (subtype_of s f.subtype) in
    formals_stay (formal_scope s f) fs name e
    (stands_with s f.name.name own name ∙ ap (λ o. or_else o (one_named (record { name = f.name.name; entity = own }) name)) h)

module _ (laws : LawsOfNames) (t : ProgramTree) (legal : IsLegal t) (restricted : IsRestricted t) where
  abbrev program : Program
  program = program_of t

  abbrev start : Scope
  start = start_in t.package_

  abbrev all : List BodyItemTree
  all = declared_in t.package_

  abbrev w : IsPackage program start all
  w = whole laws t legal restricted

  pub bare_there : (o : ℕ) (q : Procedure) (y : IsEntryBody laws t legal restricted o q) → entry_of program.procedures o ≡ Some q
      → (name : Identifier) × (y.barrier ≡ Named name NoSelectors)
  bare_there o q y found =
      let is : barrier_of program.procedures o ≡ Some y.barrier =
      barrier_found program.procedures o ∙ ap (λ e. elim e [ Some z ↦ z.barrier | None ↦ None ]) found ∙ ap (λ z. z.barrier) y.is in
      by_barrier (barrier_of program.procedures o) is (barrier_bare program.procedures o (program_bare t restricted))
    where
      by_barrier : (e : Option ExprTree) → e ≡ Some y.barrier → IsBare e → (name : Identifier) × (y.barrier ≡ Named name NoSelectors)
      by_barrier (Some e) is h = (h.0, same_some y.barrier e (sym is) ∙ h.1)
      by_barrier None is h = cc

  -- a component that a barrier names is Boolean
  module _ (o : ℕ) (q : Procedure) (y : IsEntryBody laws t legal restricted o q) (name : Identifier) (bare : y.barrier ≡ Named name NoSelectors)
      (m : Store) (sound : IsSoundMemory program m) (x : Object) (found : object_of (m.components o) name.name ≡ Some x) where
    abbrev obj : ProtectedObject
    obj = object laws.scopes laws.names laws.premises t legal restricted y.place y.name y.items y.end_name y.at

    mine : object_of (m.components obj.number) name.name ≡ Some x
    mine = ap (λ n. object_of (m.components n) name.name) y.number ∙ found

    offers : (other : List ℕ) (z : ProtectedObject) → stands program.scope other ≡ Some (entity.Protected z) → OffersAll program z
    offers = assembled.offers laws.scopes t m legal restricted (names laws t legal restricted) (known laws t legal restricted) sound

    abbrev fronts : (k : ℕ) → SoundScope (scope_at start all k)
    fronts = (names laws t legal restricted).fronts

    own : (j : ℕ) (i : ProtectedItemTree) → slice_get y.items j ≡ Some i → bodies.HasOwn program start all w y.place y.name y.items y.end_name y.at i
    own = added.owned laws.scopes laws.names laws.premises t legal restricted y.place y.name y.items y.end_name y.at

    abbrev at_ : Scope
    at_ = bodies.at_ program start all w y.place y.name y.items y.end_name y.at y.k

    abbrev front : Scope
    front = components_scope at_ false obj.components

    abbrev inside : Scope
    inside = formals_scope front y.d.formals

    part_named : (e : Entity) × (found_in (components_named false obj.components) name.name ≡ Some e)
    part_named = by_found (found_in (components_named false obj.components) name.name) refl
      where
        by_found : (e : Option Entity) → found_in (components_named false obj.components) name.name ≡ e
            → (e : Entity) × (found_in (components_named false obj.components) name.name ≡ Some e)
        by_found (Some e) is = (e, is)
        by_found None is =
            absurd (let bad = sym (fits.component_none program start all w (known laws t legal restricted) laws.scopes m sound offers fronts y.place y.name y.items
            y.end_name y.at own false name.name is) ∙ mine in cc)

    visible : (e : Entity) × (stands front name.name ≡ Some e)
    visible =
        let e = either_some (stands at_ name.name) part_named.0 in (
          e.0,
          bodies.stands_seen program start all w y.place y.name y.items y.end_name y.at y.k false name.name
              ∙ ap (or_else (stands at_ name.name)) part_named.1 ∙ e.1,
        )

    entity_is : visible.0 ≡ entity.Object role.Component x.subtype
    entity_is =
        elim (fits.came_seen program start all w (known laws t legal restricted) laws.scopes m sound offers fronts y.place y.name y.items y.end_name y.at own
        (added.sounds laws.scopes laws.names laws.premises t legal restricted y.place y.name y.items y.end_name y.at) y.k (EntryBody y.d y.barrier y.b) y.there
        false name.name visible.0 visible.1) [
          | inl hidden ↦ (let f = hidden_stands (scope_at start all y.place)
              (bodies.named_n program start all w y.place y.name y.items y.end_name y.at).0 name.name visible.0 hidden in
              let bad = sym (fits.none_here program start all w (known laws t legal restricted) laws.scopes m sound offers fronts y.place y.name y.items y.end_name
              y.at own name.name f.before f.stands_) ∙ mine in
              cc)
          | inr other ↦ elim other [
            | inl op ↦ (let bad = sym (fits.component_none program start all w (known laws t legal restricted) laws.scopes m sound offers fronts y.place y.name
                y.items y.end_name y.at own false name.name
                (ap (found_in (components_named false obj.components)) (sym op.item.3) ∙ (own op.item.0 op.item.1 op.item.2).apart false)) ∙ mine in
                cc)
            | inr c ↦ (let z = fits.component_there program start all w (known laws t legal restricted) laws.scopes m sound offers fronts y.place y.name y.items
                y.end_name y.at own false name.name visible.0 c in
                z.2 ∙ ap (λ u. entity.Object role.Component u.subtype) (same_some z.0 x (sym z.1 ∙ mine)))
          ]
        ]

    -- what the rules say of the condition
    condition : condition_faults inside (Named name NoSelectors) ≡ []
    condition =
        subst (λ e. condition_faults inside e ≡ []) bare
        (back_empty (entry_rule front y.d.name ++ formals_faults front [] y.d.formals) (condition_faults inside y.barrier)
        (front_empty _ (body_faults inside kinds.Entry y.b) (front_empty _ (end_rule y.d.name y.b.end_name)
        (bodies.item_legal program start all w y.place y.name y.items y.end_name y.at y.k (EntryBody y.d y.barrier y.b) y.there))))

    number : (n : ℕ) × (number_of inside name.name ≡ Some n) × (entity_at inside n ≡ Some (entity.Object role.Component x.subtype))
    number =
        number_stands inside name.name (entity.Object role.Component x.subtype)
        (formals_stay front y.d.formals name.name (entity.Object role.Component x.subtype) (visible.1 ∙ ap Some entity_is))

    own_type : own_of_standing (settle inside (stands_first inside (number_of inside name.name))) ≡ Typed x.subtype.type_number
    own_type =
        ap (λ k. own_of_standing (settle inside (stands_first inside k))) number.1
        ∙ ap (λ e. own_of_standing (settle inside (stands_for number.0 e))) number.2

    boolean_there : x.subtype.type_number ≡ boolean_type
    boolean_there =
        let wrong = back_empty (faults_in inside boolean_wanted (Named name NoSelectors)) _ condition in
        let wanted = subst (λ own. mismatch inside boolean_wanted own name.place ≡ []) own_type wrong in
        sym (eqb-true boolean_type x.subtype.type_number (not_false (nat_eq boolean_type x.subtype.type_number) (unbroken _ name.place _ wanted)))

    pub truth : (b : Bool) × (x.value ≡ Truth b)
    truth =
        let found_shape = shape_by_form program.scope boolean_type Booleans (laws.premises t legal).sound.boolean in
        truth_there (type_shape program.scope x.subtype.type_number) x.value (ap (type_shape program.scope) boolean_there ∙ found_shape.1)
        (sound_object program.scope (m.components o) name.name x (sound.components o) found)

  -- ---- the image's

  module _ (i : Sections) (objects : HaveObjects t i.objects) (many : length i.objects ≡ program.objects) (g : Package) (ordered : IsInOrder t i g)
      (of_program : IsPackageOf t i g) (m : Store) (words : Words) (store : IsSoundStore program m) (lying : StoreLies program.scope m)
      (stands_ : StandsFor program g m words) (o : ℕ) where
    memory : IsSoundMemory program m
    memory = record { variables = store.variables; components = store.components; same = store.same }

    -- what is seen of the store
    place : Place
    place = seen program m (static_place program.scope)

    abbrev view : View
    view = record {
      schedule = [];
      now = pos 0;
      memory = words;
      words = λ r. elim r [ regions.Locals ↦ [] | regions.Plain ↦ words.plain | regions.Object ↦ [] ];
      left = 0;
      actions = [];
      base = 0;
      ceilings = ceiling_of program.scope;
    }

    lies : (name : List ℕ) (slot : Slot) (x : Object) → g.slots (Some o) name ≡ Some slot → object_of (m.components o) name ≡ Some x
        → Lies (words.objects o) slot.offset x.value
    unfolding place
    lies name slot x told found =
        (stands_.shared place view (record { scope = refl; functions = refl; variables = refl; components = refl }) refl refl (refl, refl, refl) refl refl
        addressable (store.functions (static_place program.scope)) all).components o name slot x told found
      where
        all : PlaceLies (seen program m (static_place program.scope))
        all = record { variables = lying.variables; components = lying.components; locals = tt; time = refl; inputs = refl }

        addressable : (r : Region) → length (view.words r) ≤ 65536
        addressable regions.Locals = omega arith
        addressable regions.Plain = stands_.plain
        addressable regions.Object = omega arith

    -- an object without an entry serves nobody
    none_open : entry_of program.procedures o ≡ None → is_open program m o ≡ steps.is_open i words o
    none_open none =
        ap (holds_at (barrier_place program m o))
        (barrier_found program.procedures o ∙ ap (λ e. elim e [ Some q ↦ q.barrier | None ↦ None ]) none)
        ∙ sym (by_row (slice_get i.objects o) refl)
      where
        by_row : (r : Option ObjectRow) → slice_get i.objects o ≡ r → steps.opens_row r (words.objects o) ≡ false
        by_row (Some row) is =
            let x = row_is t i.objects objects o row is in
            ap (λ b. steps.opens b (words.objects o)) (ap (λ r. r.barrier) x.1 ∙ ap (λ e. (service_of t o e).barrier) none)
        by_row None is = refl

    module _ (q : Procedure) (found : entry_of program.procedures o ≡ Some q) where
      y : IsEntryBody laws t legal restricted o q
      y = entry_body laws t legal restricted o q found

      bare : (name : Identifier) × (y.barrier ≡ Named name NoSelectors)
      bare = bare_there o q y found

      abbrev condition_is : ExprTree
      condition_is = Named bare.0 NoSelectors

      -- the row there
      row : (r : ObjectRow) × (slice_get i.objects o ≡ Some r)
      row =
          let few = object_few laws.scopes laws.names laws.premises t legal restricted y.place y.name y.items y.end_name y.at in
          let mine = added.number_is laws.scopes laws.names laws.premises t legal restricted y.place y.name y.items y.end_name y.at in
          let same = y.number in
          element i.objects o (omega (arith, few, mine, same, many))

      row_barrier : row.0.barrier ≡ barrier_by program.scope (slot_in t (Some o) bare.0.name) condition_is
      row_barrier =
          ap (λ r. r.barrier) (row_is t i.objects objects o row.0 row.1).1
          ∙ ap (λ e. (service_of t o e).barrier) found ∙ ap (λ z. barrier_row t o z.barrier) y.is ∙ ap (λ e. barrier_row t o (Some e)) bare.1

      image_open : steps.is_open i words o ≡ steps.opens (barrier_by program.scope (slot_in t (Some o) bare.0.name) condition_is) (words.objects o)
      image_open = ap (λ r. steps.opens_row r (words.objects o)) row.1 ∙ ap (λ b. steps.opens b (words.objects o)) row_barrier

      program_open : is_open program m o ≡ is_true (val (barrier_place program m o) condition_is)
      program_open =
          ap (holds_at (barrier_place program m o))
          (barrier_found program.procedures o ∙ ap (λ e. elim e [ Some z ↦ z.barrier | None ↦ None ]) found ∙ ap (λ z. z.barrier) y.is ∙ ap Some bare.1)

      by_component : (x : Option Object) → object_of (m.components o) bare.0.name ≡ x → is_open program m o ≡ steps.is_open i words o
      by_component (Some x) is =
          let first = object_by (object_of (program.components o) bare.0.name) x.subtype
          (sym (store.same.components o bare.0.name) ∙ ap (option_map (λ (z : Object). z.subtype)) is) in
          let begins = of_program.components o bare.0.name first.0 first.1 in
          let slot_is : slot_in t (Some o) bare.0.name ≡ Some begins.slot = sym (ordered.components o bare.0.name) ∙ begins.there in
          let b = truth o q y bare.0 bare.1 m memory x is in
          let there : words_at (words.objects o) (pos begins.slot.offset) 1 ≡ Some (word_of b.0 ∷ []) =
          subst (Lies (words.objects o) begins.slot.offset) b.1 (lies bare.0.name begins.slot x begins.there is) in
          program_open ∙ ap is_true (component_worth program m o bare.0 x is ∙ ap Gives b.1)
          ∙ sym (image_open ∙ ap (λ z. steps.opens (barrier_by program.scope z condition_is) (words.objects o)) slot_is
          ∙ word_there (words.objects o) begins.slot.offset b.0 there)
      by_component None is =
          let none = unplaced (place_among 0 (program.components o) bare.0.name) refl in
          program_open ∙ always_open program m o bare.0 is
          ∙ sym (image_open ∙ ap (λ z. steps.opens (barrier_by program.scope z condition_is) (words.objects o)) (ap (option_map in_object) none)
          ∙ open_or_closed (is_static_truth (static_form program.scope condition_is) (static_value program.scope condition_is)))
        where
          unplaced : (z : Option Slot) → place_among 0 (program.components o) bare.0.name ≡ z → z ≡ None
          unplaced None e = refl
          unplaced (Some z) e =
              let r = stands_there (program.components o) 0 bare.0.name z e in
              let there = object_by (object_of (m.components o) bare.0.name) r.object.subtype
              (store.same.components o bare.0.name ∙ ap (option_map (λ (u : Object). u.subtype)) r.found) in
              let bad = sym is ∙ there.1 in
              cc

          open_or_closed : (b : Bool) → steps.opens (cond b barriers.Open barriers.Closed) (words.objects o) ≡ b
          open_or_closed true = refl
          open_or_closed false = refl

      entry_open : is_open program m o ≡ steps.is_open i words o
      entry_open = by_component (object_of (m.components o) bare.0.name) refl

    pub barriers_agree : is_open program m o ≡ steps.is_open i words o
    barriers_agree = by_entry (entry_of program.procedures o) refl
      where
        by_entry : (e : Option Procedure) → entry_of program.procedures o ≡ e → is_open program m o ≡ steps.is_open i words o
        by_entry (Some q) is = entry_open q is
        by_entry None is = none_open is
