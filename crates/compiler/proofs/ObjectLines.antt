-- The rows of protected objects keep the rules of images: the ceiling of each is a priority, its entry is a body of it, and its barrier one of its words (RM 9.4,
-- 9.5.2, D.3).
use Rattle.std.proofs.Common.{◌≡◌, ℕ, zero, suc, ◌+◌, ◌<◌, ◌≤◌, List, [], ◌∷◌, ◌++◌, length, length-append, Bool, true, false, ◌&&◌, ◌||◌, None, Option, Some, refl, sym, ap, ◌∙◌, subst, arith}
use Rattle.std.specs.Prelude.{if◌then◌else◌, nat_le, nat_lt, option_map, slice_get}
use Rattle.std.specs.List.{list_all}
use Rattle.std.proofs.lemmas.Bool.{and_from, eq-eqb, le-leb, lt-ltb}
use Rattle.std.proofs.lemmas.Option.{slice_get_within}
use Rattle.base.specs.declared.limits.TheConstants.{CEILING}
use Rattle.ada_tree.specs.declared.expression.Identifier.{Identifier}
use Rattle.ada_tree.specs.ExpressionTree.{ExprTree, bare_name}
use Rattle.ada_tree.specs.ProgramTree.{ProgramTree, ProtectedBody, ProtectedItemTree}
use Rattle.ada_tree.specs.ProgramTree as tree
use Rattle.image.specs.Code as sections
use Rattle.image.specs.ObjectTable.{ObjectRow}
use Rattle.image.specs.Rules.{all_placed, has_entry, is_barrier, is_closed_barrier, is_entry_body_of, is_object, none_or, some_and}
use Rattle.image.specs.Sections.{Sections}
use Rattle.image.specs.declared.objects.Barrier.{Barrier}
use Rattle.image.specs.declared.objects.Barrier.TheVariants as barriers
use Rattle.image.specs.declared.subprograms.Kind.TheVariants.{EntryBody}
use Rattle.image.specs.declared.subprograms.Subprogram.{Subprogram}
use Rattle.types.specs.Entities.{Protected}
use Rattle.types.specs.Places as places
use Rattle.types.specs.Shapes.{value_words}
use Rattle.types.specs.Statics.{static_form, static_value}
use Rattle.meaning.specs.Programs.{Procedure, components_among, objects_or_none, package_items, program_of}
use Rattle.legality.specs.ProgramRules.{IsLegal}
use Rattle.ravenscar.specs.ProgramRules.{IsRestricted}
use Rattle.program_soundness.specs.Fronts.{declared_in, start_in}
use Rattle.program_soundness.specs.step_soundness.specs.Fitting.{entry_of}
use Rattle.program_soundness.proofs.Listing.{same_some}
use Rattle.program_soundness.proofs.ObjectBodies as objects
use Rattle.program_soundness.proofs.Priorities.{partition_fits}
use Rattle.program_soundness.proofs.Whole.{kept}
use Rattle.expr_code.specs.Code.{here}
use Rattle.expr_code.specs.declared.visible.Slot.{Slot}
use Rattle.package_code.specs.BareObjects.{BareObject}
use Rattle.package_code.specs.Bodies.{bodies_before}
use Rattle.package_code.specs.Objects.{bare_objects, barrier_by, barrier_row, barrier_slot, is_static_truth, object_row, object_rows, service_of}
use Rattle.package_code.specs.Owners.{in_object, protected_objects}
use Rattle.package_code.specs.Package.{first_words_of, place_among}
use Rattle.package_code.specs.Program.{HasProgram}
use Rattle.package_code.specs.Refusing.{slot_in}
use Rattle.package_code.specs.Walking.{row_of}
use Rattle.package_code.specs.declared.services.Service.{Service}
use Rattle.package_code.proofs.Coded.{body_at}
use Rattle.package_code.proofs.EntryRows.{entry_body, entry_number, row_is}
use Rattle.package_code.proofs.InFront.{LawsOfNames, whole}
use Rattle.package_code.proofs.InOrder.{stands_there}
use Rattle.package_code.proofs.Linking.{body_there, called_front}
use Rattle.package_code.proofs.ObjectNumbers.{at_number, ceiling_row, components_wide, many_rows, objects_counted, row_words}
use Rattle.package_code.proofs.OperationBodies.{code_of, coded, object}
use Rattle.package_code.proofs.Placed.{items_are}

pub is_there : {X : Type 0} (xs : List X) (n : ℕ) → n < length xs → (x : X) × (slice_get xs n ≡ Some x)
is_there [] n up = absurd (omega (arith, up))
is_there (x ∷ xs) zero up = (x, refl)
is_there (x ∷ xs) (suc n) up = is_there xs n (omega (arith, up))

-- what holds of each element holds of all
all_true : {X : Type 0} (test : X → Bool) (xs : List X) → ((k : ℕ) (x : X) → slice_get xs k ≡ Some x → test x ≡ true) → list_all test xs ≡ true
all_true test [] h = refl
all_true test (x ∷ xs) h = and_from (test x) (list_all test xs) (h 0 x refl) (all_true test xs (λ k y at. h (suc k) y at))

placed_true : {X : Type 0} (test : ℕ → X → Bool) (place : ℕ) (xs : List X) → ((k : ℕ) (x : X) → slice_get xs k ≡ Some x → test (place + k) x ≡ true)
    → all_placed test place xs ≡ true
placed_true test place [] h = refl
placed_true test place (x ∷ xs) h =
    let none : place + 0 ≡ place = omega arith in
    and_from (test place x) (all_placed test (place + 1) xs) (ap (λ n. test n x) (sym none) ∙ h 0 x refl)
    (placed_true test (place + 1) xs (λ k y at.
    let next : (place + 1) + k ≡ place + suc k = omega arith in
    ap (λ n. test n y) next ∙ h (suc k) y at))

module _ (laws : LawsOfNames) (t : ProgramTree) (legal : IsLegal t) (restricted : IsRestricted t) (i : Sections) (h : HasProgram t i) where
  pub as_many_objects : length i.objects ≡ (program_of t).objects
  as_many_objects =
      ap length h.objects ∙ ap (λ l. length (object_rows t 0 (bare_objects (program_of t).scope l))) (items_are t.package_)
      ∙ many_rows (program_of t) (start_in t.package_) (declared_in t.package_) (whole laws t legal restricted) t

  -- the object whose body stands there has its row
  pub object_within : (place : ℕ) (name : Identifier) (items : List ProtectedItemTree) (end_name : Identifier)
      (at : slice_get (declared_in t.package_) place ≡ Some (ProtectedBody name items end_name))
      → (object laws.scopes laws.names laws.premises t legal restricted place name items end_name at).number < length i.objects
  object_within place name items end_name at =
      let start = start_in t.package_ in
      let all = declared_in t.package_ in
      let w = whole laws t legal restricted in
      let obj = object laws.scopes laws.names laws.premises t legal restricted place name items end_name at in
      let there = objects.there (program_of t) start all w place name items end_name at in
      let seen = kept (program_of t) start all w place name.name (Protected obj) there.stands_ in
      let up = slice_get_within (protected_objects (program_of t).scope) obj.number obj (at_number (program_of t) start all w name.name obj seen) in
      let counted = objects_counted (program_of t).scope in
      let many = as_many_objects in
      omega (arith, up, counted, many)

  -- ---- the words of an object

  these : (o : ℕ) → (program_of t).components o ≡ objects_or_none (slice_get (components_among (program_of t).scope (package_items t.package_)) o)
  these o =
      ap (λ f. f o) (whole laws t legal restricted).components
      ∙ ap (λ l. objects_or_none (slice_get (components_among (program_of t).scope l) o)) (sym (items_are t.package_))

  words_are : (o : ℕ) → sections.initial_words_of (slice_get i.objects o) ≡ first_words_of ((program_of t).components o)
  words_are o =
      ap (λ l. sections.initial_words_of (slice_get l o)) h.objects ∙ row_words t (program_of t).scope (package_items t.package_) o
      ∙ ap first_words_of (sym (these o))

  -- a component has its words among them
  pub component_within : (o : ℕ) (x : List ℕ) (slot : Slot) → slot_in t (Some o) x ≡ Some slot
      → slot.offset < length (sections.initial_words_of (slice_get i.objects o))
  component_within o x slot told = by_place (place_among 0 ((program_of t).components o) x) refl told
    where
      by_place : (z : Option Slot) → place_among 0 ((program_of t).components o) x ≡ z → option_map in_object z ≡ Some slot
          → slot.offset < length (sections.initial_words_of (slice_get i.objects o))
      by_place None is e = cc
      by_place (Some z) is e =
          let r = stands_there ((program_of t).components o) 0 x z is in
          let wide =
          components_wide (program_of t).scope (package_items t.package_) o x r.object h.made (ap (λ l. places.object_of l x) (sym (these o)) ∙ r.found) in
          let here_ : z.offset ≡ slot.offset = ap (λ y. y.offset) (same_some (in_object z) slot e) in
          let long = ap length (words_are o) ∙ ap length r.words ∙ length-append r.front (value_words r.object.value ++ r.more) in
          let longer = length-append (value_words r.object.value) r.more in
          let at_ = r.offset in
          omega (arith, wide, here_, long, longer, at_)

  -- ---- rows

  module _ (n : ℕ) (row : ObjectRow) (at : slice_get i.objects n ≡ Some row) where
    abbrev x : BareObject
    x = (row_is t i.objects h.objects n row at).0

    is : row ≡ object_row t n x
    is = (row_is t i.objects h.objects n row at).1

    pub ceiling_is : places.ceiling_of (program_of t).scope n ≡ row.ceiling
    ceiling_is =
        ceiling_row (program_of t) (start_in t.package_) (declared_in t.package_) (whole laws t legal restricted) t n
        ∙ ap (λ l. sections.ceiling_of (slice_get (object_rows t 0 (bare_objects (program_of t).scope l)) n)) (sym (items_are t.package_))
        ∙ ap (λ l. sections.ceiling_of (slice_get l n)) (sym h.objects) ∙ ap sections.ceiling_of at

    low : row.ceiling ≤ CEILING
    low =
        let same = ceiling_is in
        let fits = (partition_fits t).ceiling_low n in
        omega (arith, same, fits)

    -- what is told of the object's entry
    abbrev service : Service
    service = service_of t n (entry_of (program_of t).procedures n)

    -- the entry is the body of one, of this object
    record IsEntryThere (number : ℕ) : Type 0 where
      entry : service.entry ≡ Some number
      s : Subprogram
      there : slice_get i.subprograms number ≡ Some s
      kind : s.kind ≡ EntryBody n

    no_entry : entry_of (program_of t).procedures n ≡ None → (service.entry ≡ None) × (service.barrier ≡ barriers.Closed)
    no_entry none = (ap (λ e. (service_of t n e).entry) none, ap (λ e. (service_of t n e).barrier) none)

    some_entry : (q : Procedure) → entry_of (program_of t).procedures n ≡ Some q → (number : ℕ) × IsEntryThere number
    some_entry q some =
        let y = entry_body laws t legal restricted n q some in
        let number = bodies_before t y.place + y.k in
        let c = code_of laws.scopes laws.names laws.premises t legal restricted y.place y.name y.items y.end_name y.at y.k (tree.EntryBody y.d y.barrier y.b) in
        let coded_there = body_at t y.place y.k (tree.ProtectedBody y.name y.items y.end_name) c y.at
        (coded laws.scopes laws.names laws.premises t legal restricted y.place y.name y.items y.end_name y.at y.k (tree.EntryBody y.d y.barrier y.b) y.there) in
        let body = body_there t i h number c coded_there in (
          number,
          record {
            entry = ap (λ e. (service_of t n e).entry) some ∙ entry_number laws t legal restricted n q y;
            s = row_of c.kind body.words (here body.new.code);
            there = called_front t i h number (row_of c.kind body.words (here body.new.code)) body.there;
            kind = ap EntryBody y.number;
          },
        )

    -- its barrier is one of the object's words, or always the same
    barrier_there : (b : Option Slot) (e : ExprTree) → barrier_slot t n (bare_name e) ≡ b → is_barrier row (barrier_by (program_of t).scope b e) ≡ true
    barrier_there (Some slot) e told = lt-ltb slot.offset (length row.words) (by_name (bare_name e) told)
      where
        by_name : (name : Option Identifier) → barrier_slot t n name ≡ Some slot → slot.offset < length row.words
        by_name (Some name) k = subst (λ r. slot.offset < length (sections.initial_words_of r)) at (component_within n name.name slot k)
        by_name None k = cc
    barrier_there None e told = by_truth (is_static_truth (static_form (program_of t).scope e) (static_value (program_of t).scope e))
      where
        by_truth : (b : Bool) → is_barrier row (if b then barriers.Open else barriers.Closed) ≡ true
        by_truth true = refl
        by_truth false = refl

    barrier_right : (b : Option ExprTree) → is_barrier row (barrier_row t n b) ≡ true
    barrier_right (Some e) = barrier_there (barrier_slot t n (bare_name e)) e refl
    barrier_right None = refl

    abbrev of_body : Option ℕ → Bool
    of_body e = none_or e (λ m. none_or (slice_get i.subprograms m) (λ s. is_entry_body_of n s.kind))

    abbrev opens : Option ℕ → Barrier → Bool
    opens e b = some_and e (λ m. true) || is_closed_barrier b

    by_entry : (q : Option Procedure) → entry_of (program_of t).procedures n ≡ q
        → (of_body service.entry && (is_barrier row service.barrier && opens service.entry service.barrier)) ≡ true
    by_entry None none =
        let both = no_entry none in
        (λ j. of_body (both.0 j) && (is_barrier row (both.1 j) && opens (both.0 j) (both.1 j)))
    by_entry (Some q) some =
        let y = some_entry q some in
        let number = y.0 in
        let body : of_body service.entry ≡ true =
        ap of_body y.1.entry ∙ ap (λ r. none_or r (λ s. is_entry_body_of n s.kind)) y.1.there ∙ ap (is_entry_body_of n) y.1.kind ∙ eq-eqb n n refl in
        and_from (of_body service.entry) (is_barrier row service.barrier && opens service.entry service.barrier) body
        (and_from (is_barrier row service.barrier) (opens service.entry service.barrier)
        (ap (λ e. is_barrier row (service_of t n e).barrier) some ∙ barrier_right q.barrier)
        (ap (λ e. some_and e (λ m. true) || is_closed_barrier service.barrier) y.1.entry))

    right : is_object i n row ≡ true
    right =
        let body = of_body row.entry in
        and_from (nat_le row.ceiling CEILING) (body && (is_barrier row row.barrier && opens row.entry row.barrier)) (le-leb row.ceiling CEILING low)
        ((λ j. of_body ((ap (λ r. r.entry) is) j) && (is_barrier row ((ap (λ r. r.barrier) is) j) && opens ((ap (λ r. r.entry) is) j) ((ap (λ r. r.barrier) is) j)))
        ∙ by_entry (entry_of (program_of t).procedures n) refl)

    entry_within : has_entry i row ≡ true
    entry_within = ap (λ r. none_or r.entry (λ m. nat_lt m (length i.subprograms))) is ∙ by_procedure (entry_of (program_of t).procedures n) refl
      where
        by_procedure : (q : Option Procedure) → entry_of (program_of t).procedures n ≡ q → none_or service.entry (λ m. nat_lt m (length i.subprograms)) ≡ true
        by_procedure None none = ap (λ e. none_or e (λ m. nat_lt m (length i.subprograms))) (no_entry none).0
        by_procedure (Some q) some =
            let y = some_entry q some in
            ap (λ e. none_or e (λ m. nat_lt m (length i.subprograms))) y.1.entry
            ∙ lt-ltb y.0 (length i.subprograms) (slice_get_within i.subprograms y.0 y.1.s y.1.there)

  pub objects_right : all_placed (is_object i) 0 i.objects ≡ true
  objects_right = placed_true (is_object i) 0 i.objects (λ k row at.
      let first : 0 + k ≡ k = omega arith in
      ap (λ n. is_object i n row) first ∙ right k row at)

  pub entries_there : list_all (has_entry i) i.objects ≡ true
  entries_there = all_true (has_entry i) i.objects entry_within
