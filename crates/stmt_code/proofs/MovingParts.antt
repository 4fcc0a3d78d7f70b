-- The code of assignments from one object, or part of one, to another: both addresses stand on the operand stack, and one instruction moves the words.
use Rattle.std.proofs.Common.{◌≡◌, ℕ, suc, ◌+◌, ◌-◌, ◌≤◌, ℤ, List, [], ◌∷◌, length, Option, Some, None, Bool, true, false, refl, sym, ap, ◌∙◌, subst, arith}
use Rattle.std.specs.Prelude.{pos, ◌+ℤ◌}
use Rattle.base.specs.declared.schedule.ScheduleLine.{ScheduleLine}
use Rattle.kernel.specs.State.{Kernel}
use Rattle.kernel.specs.Calm.{Calm}
use Rattle.kernel.specs.Counting.{Spends}
use Rattle.kernel.specs.Laws.{QuietStays}
use Rattle.kernel.specs.RunLaws.{spends_more, spends_trans}
use Rattle.image.specs.Sections.{Sections}
use Rattle.image.specs.Frames.{Words, Frame, region_words, words_at, own_object, words_put}
use Rattle.image.specs.Steps.{act, behaviour, copied}
use Rattle.image.specs.declared.instruction.Operation.TheVariants as op
use Rattle.image.specs.declared.instruction.Region.{Region}
use Rattle.ada_tree.specs.declared.expression.Identifier.{Identifier}
use Rattle.ada_tree.specs.ExpressionTree.{Binary, Conditional, ElsifValueTrees, ExprTree, MoreElsifValues, Named, NameTree, NoElsifValues, Parenthesized, SelectorTrees, Unary}
use Rattle.ada_tree.specs.ExpressionTree as tree
use Rattle.types.specs.declared.entity.Subtype.{Subtype}
use Rattle.types.specs.Entities.{Object, TypeForm}
use Rattle.types.specs.Evaluating.{Calls, call, elsif_with, ended, fixed_value, passed, truth_of, value_with}
use Rattle.types.specs.Evaluations.{Val, Gives, Meaningless, Raises, and_then}
use Rattle.types.specs.Laws.{PartsHavePlaces, ValuesHaveWords}
use Rattle.types.specs.Layouts.{words_of}
use Rattle.types.specs.Places.{IsObject, Meaning, Place}
use Rattle.types.specs.Scopes.{form_at}
use Rattle.types.specs.Shapes.{has_shape, shape_of, value_words}
use Rattle.types.specs.Values.{Array, Number, Record, Truth, Value}
use Rattle.expr_soundness.specs.Laws.{AgreementIsKept, CallsAreTyped}
use Rattle.expr_soundness.specs.meaning.specs.MeetingLaws.{spends_takes, takes_more}
use Rattle.expr_soundness.specs.meaning.specs.Programs.{Program}
use Rattle.expr_soundness.specs.meaning.specs.SameMeaning.{frames_of}
use Rattle.expr_soundness.specs.meaning.specs.Targets.{activation_with, store_with}
use Rattle.expr_soundness.specs.meaning.specs.Works.{Activation, Store, Target}
use Rattle.expr_code.specs.Coming.{Comes, most_steps, on}
use Rattle.expr_code.specs.Computing.{Answers}
use Rattle.expr_code.specs.Emitting.{IsLegalExpression}
use Rattle.expr_code.specs.Locating.{Finds, located}
use Rattle.expr_code.specs.Naming.{Lies}
use Rattle.expr_code.specs.Seeing.{Package, Sees, library_of}
use Rattle.expr_code.specs.Views.{At, View, frames_above, in_frame, placed, view_of}
use Rattle.expr_code.specs.declared.visible.Slot.{Slot}
use Rattle.expr_code.specs.declared.visible.Visible.{Visible}
use Rattle.expr_code.proofs.Locating.{near_close}
use Rattle.expr_code.proofs.Coming.{acts, pushes, steps}
use Rattle.expr_code.proofs.Names.{legal_here}
use Rattle.expr_code.proofs.Naming.{same_words}
use Rattle.expr_code.proofs.Passing.{named_value}
use Rattle.expr_code.proofs.Paths.{NamesStored, finds_path, located_value}
use Rattle.part_code.specs.declared.call.Destination.{Destination}
use Rattle.part_code.specs.Copying.{IsPlacedTarget}
use Rattle.part_code.specs.Jumping.{Here, There}
use Rattle.part_code.specs.Layout.{IsLaidOut}
use Rattle.part_code.specs.Moving.{IsMoved, IsMovedElse, IsSource, MovesNamed}
use Rattle.part_code.specs.Resting.{Framed, IsAt, Knows, Rests, StandsFor}
use Rattle.part_code.specs.Statements.{IsAssigned, Numbers}
use Rattle.part_code.specs.Storing.{Arrives, Assigned, Puts, assigned_to}
use Rattle.part_code.specs.declared.moving.Source.{Source}
use Rattle.part_code.proofs.Assigning.{form_there}
use Rattle.part_code.proofs.Declaring.{IsTypedAs}
use Rattle.part_code.proofs.Jumping.{jumps_both}
use Rattle.part_code.proofs.Names.{variable_meant}
use Rattle.part_code.proofs.Pointing.{PointsTo, address_here, computes_pointed, part_here, place_in, placed_here, pointed}
use Rattle.part_code.proofs.ObjectNames.{names_object}
use Rattle.part_code.proofs.StoringCode.{stored_there, with_stored}
use Rattle.part_code.proofs.StoringParts.{PutsIn, address_is, place_of, put_there}
use Rattle.part_code.proofs.Words.{block_put, with_words}
use Rattle.expr_soundness.proofs.Lies.{results_lie}

-- ---- the instruction

-- the words of a value, from an address in one region to another one
module _ (quiet : QuietStays) (i : Sections) (mid size low high : ℕ) (source : Region) (base : List ℤ) (schedule : List ScheduleLine) (k : Kernel) (t : ℕ)
    (m : Words) (f : Frame) (fs : List Frame) (x : Value) (many : size ≡ length (value_words x)) (lies : Lies (region_words i source m f) low x) where
  reads : (target : Region) → At i mid (op.Copy target source size)
      → act i schedule k t (in_frame m (placed f mid (pos low ∷ pos high ∷ base)) fs)
      ≡ copied i schedule k t m (placed f mid (pos low ∷ pos high ∷ base)) fs target (pos high) (Some (value_words x)) base
  reads target here =
      let st : List ℤ = pos low ∷ pos high ∷ base in
      acts quiet i mid (op.Copy target source size) here schedule k t m f fs st
      ∙ ap (λ ws. copied i schedule k t m (placed f mid st) fs target (pos high) (words_at ws (pos low) size) base) (same_words i m source f mid st)
      ∙ ap (λ n. copied i schedule k t m (placed f mid st) fs target (pos high) (words_at (region_words i source m f) (pos low) n) base) many
      ∙ ap (λ o. copied i schedule k t m (placed f mid st) fs target (pos high) o base) lies

  pub moves_in : (r : Region) → At i mid (op.Copy r source size) → high + size ≤ length (region_words i r m f)
      → act i schedule k t (in_frame m (placed f mid (pos low ∷ pos high ∷ base)) fs)
      ≡ with_stored i r (with_words high (value_words x) (region_words i r m f)) m f fs (suc mid) base
  moves_in r here room =
      reads r here
      ∙ stored_there quiet i schedule k t m f fs mid 0 r (pos low ∷ pos high ∷ base) base (with_words high (value_words x) (region_words i r m f))
      (words_put (region_words i r m (placed f mid (pos low ∷ pos high ∷ base))) (pos high) (value_words x))
      (ap (λ ws. words_put ws (pos high) (value_words x)) (same_words i m r f mid (pos low ∷ pos high ∷ base))
      ∙ block_put (region_words i r m f) high (value_words x) (omega (arith, room, many)))

-- ---- where the words of what is named stand

pub source_stands : (v : Visible) (first : Identifier) (selectors : SelectorTrees) (x : Source)
    → IsSource v (record { first = first; selectors = selectors }) x → IsLegalExpression v.scope (Named first selectors)
    → (g : Package)
    → NamesStored (Sees g v) first selectors x.whole (shape_of v.scope x.whole) x.slot.region x.slot.offset
source_stands v first selectors x is legal g p view sees =
    let here_ = legal_here v.scope p sees.names.agrees first selectors legal in
    let named = names_object v.scope first.name is.role x.whole is.stands in
    let means = variable_meant v.scope p.scope _ is.role x.whole is.variable
    (sees.names.agrees.names first.name named.number (Object is.role x.whole) named.numbered named.stands) in (
      means.value,
      here_.same ∙ ap fixed_value is.names,
      means.is,
      sees.names.objects first.name x.slot x.whole means.value is.there means.is,
      means.suited,
      sees.unit.small x.slot.region,
    )

-- ---- values that an if expression chooses

abbrev chosen_of : Val Value → Val Value → Bool → Val Value
chosen_of one other holds = elim holds [ true ↦ one | false ↦ other ]

-- what is behind the first value
abbrev found_or : Calls → Place → ExprTree → Option Value → Val Value
found_or c p last found = elim found [ Some x ↦ Gives x | None ↦ value_with c p last ]

found_same : (c : Calls) (p : Place) (last : ExprTree) (u : Val Value) → and_then (and_then u (λ w. Gives (Some w))) (found_or c p last) ≡ u
found_same c p last (Gives x) = refl
found_same c p last (Raises x) = refl
found_same c p last Meaningless = refl

-- the value for one more condition, or that of what is behind it
chosen_else : (c : Calls) (p : Place) (last : ExprTree) (u one : Val Value) (other : Val (Option Value))
    → and_then (and_then (and_then u truth_of) (λ holds. elim holds [ true ↦ and_then one (λ w. Gives (Some w)) | false ↦ other ])) (found_or c p last)
    ≡ and_then (and_then u truth_of) (chosen_of one (and_then other (found_or c p last)))
chosen_else c p last (Gives (Truth true)) one other = found_same c p last one
chosen_else c p last (Gives (Truth false)) one other = refl
chosen_else c p last (Gives (Number z)) one other = refl
chosen_else c p last (Gives (Array xs)) one other = refl
chosen_else c p last (Gives (Record xs)) one other = refl
chosen_else c p last (Raises x) one other = refl
chosen_else c p last Meaningless one other = refl

-- ---- the assignment

module _ (kept : AgreementIsKept) (sized : ValuesHaveWords) (places : PartsHavePlaces) (calls : CallsAreTyped) (quiet : QuietStays) (i : Sections)
    (program : Program) (g : Package) (numbers : Numbers) (v : Framed) (name : NameTree) (e : ExprTree) (last : Subtype) (laid : IsLaidOut g v)
    (typed : IsTypedAs v.names last e) (from low to : ℕ) (way : PointsTo i g v.names name.first name.selectors last from low)
    (passes : (x : Value) → has_shape (shape_of v.names.scope last) x ≡ true → passed last x ≡ Gives x)
    (up : low ≤ to) (code : IsMoved i g v.names way.slot.region (words_of v.names.scope last) low to e) where
  module _ (schedule : List ScheduleLine) (k : Kernel) (task : ℕ) (m : Words) (f : Frame) (fs : List Frame) (store : Store) (a : Activation) (p : Place)
      (answers : (left : ℕ) → Answers i (library_of g) (call left) left) (calm : Calm k task) (is_at : IsAt program store p) (locals : p.locals ≡ a.locals)
      (within : p.within ≡ a.within) (rests_for : StandsFor program g store m) (rests : Rests g v a f.locals) (own_there : own_object i f ≡ a.within)
      (knows : Knows g v p (view_of i schedule k task m f fs)) (left : p.frames_left ≡ frames_above k task fs) where
    abbrev c : Calls
    c = call p.frames_left

    abbrev view : View
    view = view_of i schedule k task m f fs

    good : (library_of g).sound c
    good = (λ q s. calls.answered q s p.frames_left, results_lie p.frames_left)

    abbrev Reached : ℕ → ℕ → (n : ℕ) → (stack before : List ℤ) → Type 0
    Reached a b n before stack =
        Spends (behaviour i schedule) task frames_of (most_steps i) (suc (length fs)) n k (in_frame m (placed f a before) fs) k (in_frame m (placed f b stack) fs)

    abbrev Arrived : (end : ℕ) → Val Assigned → Type 0
    Arrived end u =
        Arrives i program g schedule k task m f fs from end v (λ y. store_with y.target y.value store) (λ y. activation_with y.target y.value a) u

    -- what was raised further on was raised in this code
    raised : (x at n mid end : ℕ) (before : List ℤ) → from ≤ at → at ≤ mid → mid ≤ end → Reached from at (at - from) [] before
        → Comes i schedule k task m (placed f at before) fs n mid (λ (stack : List ℤ). stack) (Raises x) → n ≤ mid - at
        → Arrived end (Raises x)
    raised x at n mid end before le over below reached comes few =
        let place = comes.4 in
        let before_end = comes.5 in (
          comes.0,
          comes.1,
          comes.2,
          takes_more (behaviour i schedule) task frames_of (most_steps i) (suc (end - from)) (omega (arith, le, over, below, few))
              (spends_takes (behaviour i schedule) task frames_of (most_steps i) (suc n) k (record { memory = m; task = comes.0 }) reached comes.3),
          omega (arith, le, place),
          omega (arith, before_end, below),
          comes.6,
        )

    -- a jump leads on from where the code ends
    arrived_on : (joint end : ℕ) (u : Val Assigned) → from ≤ joint → suc joint ≤ end → At i joint (op.Jump end) → Arrived joint u → Arrived end u
    arrived_on joint end (Gives x) le over jump h =
        let high = h.3 in
        (h.0, h.1, h.2, omega (arith, high, over), jumps_both i h.4 (There jump over Here), h.5, h.6)
    arrived_on joint end (Raises x) le over jump comes =
        let before_end = comes.5 in (
          comes.0,
          comes.1,
          comes.2,
          takes_more (behaviour i schedule) task frames_of (most_steps i) (suc (end - from)) (omega (arith, le, over)) comes.3,
          comes.4,
          omega (arith, before_end, over),
          comes.6,
        )
    arrived_on joint end Meaningless le over jump comes = tt

    -- the target is named, and its address stands on the operand stack
    module _ (z : Target) (named : pointed name.first name.selectors c p ≡ Gives z)
        (reached : Reached from low (low - from) [] (pos (place_in sized way z) ∷ [])) where
      abbrev base : List ℤ
      base = pos (place_in sized way z) ∷ []

      abbrev to_target : Destination
      to_target = record { region = way.slot.region; subtype = last }

      subtype_is : z.subtype ≡ last
      subtype_is = (part_here sized way c p view good knows.sees z named).0.subtype

      form : (form : TypeForm) × (form_at v.names.scope last.type_number ≡ Some form)
      form = form_there (form_at v.names.scope last.type_number) typed.known

      here : IsPlacedTarget v to_target z
      here = placed_here sized v way form.0 form.1 c p view good knows z named

      at : place_of v to_target z here ≡ place_in sized way z
      at = sym (address_is v to_target z here) ∙ address_here sized way c p view good knows.sees z named

      first : from ≤ low
      first = (let h = way.up in omega (arith, h))

      abbrev stored_value : Val Value → Val Assigned
      stored_value u = and_then (and_then u (passed z.subtype)) (λ w. Gives (record { target = z; value = w }))

      -- where there is a value, it is of the target's type
      abbrev Suited : Val Value → Type 0
      Suited u = (x : Value) → u ≡ Gives x → has_shape (shape_of v.names.scope last) x ≡ true

      abbrev size : ℕ
      size = words_of v.names.scope last

      -- the instruction moves the words of a value from where they stand
      puts_in : (x : Value) (suited : has_shape (shape_of v.names.scope last) x ≡ true) (source : Region) (mid address : ℕ)
          → Lies (region_words i source m f) address x
          → (r : Region) → At i mid (op.Copy r source size)
          → PutsIn kept sized i program g v laid to_target z here x suited mid [] (λ w. pos address ∷ pos (place_of v to_target z here) ∷ []) schedule k
          task m f fs store a p is_at locals within rests_for rests own_there knows r
      puts_in x suited source mid address lies r copies =
          let many = (sized (shape_of v.names.scope last) x suited).sized in
          λ room. moves_in quiet i mid size address (place_of v to_target z here) source [] schedule k task m f fs x (sym many) lies r copies room

      moved : (x : Value) (suited : has_shape (shape_of v.names.scope last) x ≡ true) (source : Region) (mid address : ℕ)
          → Lies (region_words i source m f) address x
          → At i mid (op.Copy way.slot.region source size)
          → from ≤ mid → Reached from mid (mid - from) [] (pos address ∷ base)
          → Arrived (suc mid) (stored_value (Gives x))
      moved x suited source mid address lies copies le comes =
          let passed_it : passed z.subtype x ≡ Gives x = ap (λ u. passed u x) subtype_is ∙ passes x suited in
          let value : stored_value (Gives x) ≡ Gives (record { target = z; value = x }) =
          ap (λ u. and_then u (λ w. Gives (record { target = z; value = w }))) passed_it in
          let high = place_of v to_target z here in
          subst (Arrived (suc mid)) (sym value) (
            mid,
            pos address ∷ base,
            le,
            omega arith,
            Here,
            comes,
            subst
                (λ n. Puts i program g schedule k task m f fs mid (pos address ∷ pos n ∷ []) [] v (store_with z x store) (activation_with z x a)) at
                (put_there kept sized i program g v laid to_target z here x suited mid [] (λ w. pos address ∷ pos high ∷ []) schedule k task m f fs store a p
                is_at locals within rests_for rests own_there knows (puts_in x suited source mid address lies way.slot.region copies)),
          )

      -- a value that is named
      module _ (start end : ℕ) (first_name : Identifier) (selectors : SelectorTrees)
          (moving : MovesNamed i g v.names way.slot.region size start end first_name selectors) (le : from ≤ start)
          (comes : Reached from start (start - from) [] base) where
        abbrev mid : ℕ
        mid = moving.mid

        abbrev slot : Slot
        slot = moving.source.slot

        over : suc start ≤ mid
        over = moving.up

        ends : end ≡ suc mid
        ends = moving.next

        begun : Reached from (start + 1) ((start - from) + 1) [] ((pos slot.offset +ℤ moving.shift) ∷ base)
        begun =
            spends_trans (behaviour i schedule) task frames_of (most_steps i) 1 k (in_frame m (placed f (start + 1) ((pos slot.offset +ℤ moving.shift) ∷ base)) fs) comes
            (pushes quiet i schedule k task m calm start (pos slot.offset +ℤ moving.shift) moving.push f fs base (start + 1) refl)

        abbrev own : Val Value
        own = value_with c p (Named first_name selectors)

        from_source : (u : Val Meaning) → own ≡ and_then u (ended c p) → Suited own
            → Finds i schedule k task m (placed f (start + 1) ((pos slot.offset +ℤ moving.shift) ∷ base)) fs slot.region moving.last moving.end (mid - (start + 1)) mid base u
            → Arrived end (stored_value own)
        from_source (Gives (IsObject s x)) is suited finds =
            subst (λ n. Arrived n (stored_value own)) (sym ends)
            (subst (λ u. Arrived (suc mid) (stored_value u)) (sym is)
            (moved x (suited x is) slot.region mid finds.0
            (subst (λ ws. Lies ws finds.0 x) (same_words i m slot.region f (start + 1) ((pos slot.offset +ℤ moving.shift) ∷ base)) finds.1) moving.copies
            (omega (arith, le, over))
            (spends_more (behaviour i schedule) task frames_of (most_steps i) (mid - from) (omega (arith, le, over))
            (spends_trans (behaviour i schedule) task frames_of (most_steps i) (mid - (start + 1)) k (in_frame m (placed f mid (pos finds.0 ∷ base)) fs) begun
            finds.4))))
        from_source (Raises x) is suited finds =
            subst (λ u. Arrived end (stored_value u)) (sym is)
            (raised x (start + 1) (mid - (start + 1)) mid end ((pos slot.offset +ℤ moving.shift) ∷ base) (omega (arith, le)) (omega (arith, over)) (omega (arith, ends))
            (spends_more (behaviour i schedule) task frames_of (most_steps i) ((start + 1) - from) (omega (arith, le)) begun) finds (omega arith))
        from_source Meaningless is suited finds = subst (λ u. Arrived end (stored_value u)) (sym is) tt
        from_source u is suited finds = absurd finds

        arrives_named : Suited own → Arrived end (stored_value own)
        arrives_named suited =
            let it = source_stands v.names first_name selectors moving.source moving.is moving.legal g p view knows.sees in
            let meaning = IsObject moving.source.whole it.0 in
            from_source (located c p meaning selectors)
            (named_value c p first_name selectors meaning it.1 it.2 ∙ located_value c p selectors meaning) suited
            (finds_path quiet sized places i (library_of g) (Sees g v.names) slot.region c p.frames_left (answers p.frames_left) schedule k task m f fs p base
            calm knows.sees left it.5 selectors (start + 1) mid moving.shift moving.source.whole moving.last (shape_of v.names.scope moving.source.whole) moving.end
            (near_close moving.shift moving.near) moving.path it.0 slot.offset it.3 it.4)

      -- one of two values, by a condition
      passes_at_one : (place next : ℕ) → At i place (op.JumpIfZero next) → Reached place (place + 1) 1 (pos 1 ∷ base) base
      passes_at_one place next test =
          steps quiet i schedule k task m calm (placed f place (pos 1 ∷ base)) (placed f (place + 1) base) fs
          (acts quiet i place (op.JumpIfZero next) test schedule k task m f fs (pos 1 ∷ base))

      jumps_at_zero : (place next : ℕ) → At i place (op.JumpIfZero next) → Reached place next 1 (pos 0 ∷ base) base
      jumps_at_zero place next test =
          steps quiet i schedule k task m calm (placed f place (pos 0 ∷ base)) (placed f next base) fs
          (acts quiet i place (op.JumpIfZero next) test schedule k task m f fs (pos 0 ∷ base))

      module _ (start mid joint end : ℕ) (le : from ≤ start) (down : start ≤ mid) (between : suc mid ≤ joint) (over : suc joint ≤ end)
          (test : At i mid (op.JumpIfZero (suc joint))) (jump : At i joint (op.Jump end)) (comes : Reached from start (start - from) [] base) where
        -- the code goes on with the address on the operand stack
        goes_on : (place : ℕ) → suc mid ≤ place → (w : ℤ) → Reached start mid (mid - start) base (w ∷ base) → Reached mid place 1 (w ∷ base) base
            → Reached from place (place - from) [] base
        goes_on place high w condition steps =
            spends_more (behaviour i schedule) task frames_of (most_steps i) (place - from) (omega (arith, le, down, high))
            (spends_trans (behaviour i schedule) task frames_of (most_steps i) 1 k (in_frame m (placed f place base) fs)
            (spends_trans (behaviour i schedule) task frames_of (most_steps i) (mid - start) k (in_frame m (placed f mid (w ∷ base)) fs) comes condition) steps)

        by_condition : (u one other : Val Value)
            → Comes i schedule k task m (placed f start base) fs (mid - start) mid (on base) u
            → (Reached from (suc mid) (suc mid - from) [] base → Suited one → Arrived joint (stored_value one))
            → (Reached from (suc joint) (suc joint - from) [] base → Suited other → Arrived end (stored_value other))
            → Suited (and_then (and_then u truth_of) (chosen_of one other))
            → Arrived end (stored_value (and_then (and_then u truth_of) (chosen_of one other)))
        by_condition (Gives (Truth true)) one other condition holds fails suited =
            let next : mid + 1 ≡ suc mid = omega arith in
            arrived_on joint end (stored_value one) (omega (arith, le, down, between)) over jump
            (holds
            (goes_on (suc mid) (omega arith) (pos 1) condition
            (subst (λ n. Reached mid n 1 (pos 1 ∷ base) base) next (passes_at_one mid (suc joint) test))) suited)
        by_condition (Gives (Truth false)) one other condition holds fails suited =
            fails
            (goes_on (suc joint) (omega (arith, between)) (pos 0) condition (jumps_at_zero mid (suc joint) test)) suited
        by_condition (Gives (Number z)) one other condition holds fails suited = tt
        by_condition (Gives (Array xs)) one other condition holds fails suited = tt
        by_condition (Gives (Record xs)) one other condition holds fails suited = tt
        by_condition (Raises x) one other condition holds fails suited =
            raised x start (mid - start) mid end base le down (omega (arith, between, over)) comes condition (omega arith)
        by_condition Meaningless one other condition holds fails suited = tt

      -- from any place on at which the address stands on the operand stack
      abbrev ArrivesFrom : ExprTree → Type 0
      ArrivesFrom x =
          (start end : ℕ) → IsMoved i g v.names way.slot.region size start end x → from ≤ start → Reached from start (start - from) [] base
          → Suited (value_with c p x)
          → Arrived end (stored_value (value_with c p x))

      mutual
        arrives : (x : ExprTree) → ArrivesFrom x
        arrives (Named first_name selectors) start end moving le comes suited = arrives_named start end first_name selectors moving le comes suited
        arrives (Parenthesized place x) start end moving le comes suited = arrives x start end moving le comes suited
        arrives (Conditional place condition value elsifs other) start end moving le comes suited =
            let up = moving.2 in
            let over = moving.3 in
            by_condition start moving.0 moving.1 end le moving.2 moving.3 moving.4 moving.6 moving.8 comes (value_with c p condition) (value_with c p value)
            (and_then (elsif_with c p elsifs) (found_or c p other))
            (moving.5 c p.frames_left (answers p.frames_left) schedule k task m f fs p base calm knows.sees left)
            (λ r s. arrives value (suc moving.0) moving.1 moving.7 (omega (arith, le, up)) r s)
            (λ r s. arrives_else elsifs other (suc moving.1) end moving.9 (arrives other) (omega (arith, le, up, over)) r s) suited
        arrives (tree.Number z place) start end moving le comes suited = absurd moving
        arrives (Unary operator place x) start end moving le comes suited = absurd moving
        arrives (Binary operator x y) start end moving le comes suited = absurd moving

        arrives_else : (elsifs : ElsifValueTrees) (other : ExprTree) (start end : ℕ)
            → IsMovedElse i g v.names way.slot.region size start end elsifs (λ a b. IsMoved i g v.names way.slot.region size a b other)
            → ArrivesFrom other → from ≤ start
            → Reached from start (start - from) [] base → Suited (and_then (elsif_with c p elsifs) (found_or c p other))
            → Arrived end (stored_value (and_then (elsif_with c p elsifs) (found_or c p other)))
        arrives_else NoElsifValues other start end moving last_arrives le comes suited = last_arrives start end moving le comes suited
        arrives_else (MoreElsifValues condition value rest) other start end moving last_arrives le comes suited =
            let up = moving.2 in
            let over = moving.3 in
            let same = chosen_else c p other (value_with c p condition) (value_with c p value) (elsif_with c p rest) in
            subst (λ u. Arrived end (stored_value u)) (sym same)
            (by_condition start moving.0 moving.1 end le moving.2 moving.3 moving.4 moving.6 moving.8 comes (value_with c p condition) (value_with c p value)
            (and_then (elsif_with c p rest) (found_or c p other))
            (moving.5 c p.frames_left (answers p.frames_left) schedule k task m f fs p base calm knows.sees left)
            (λ r s. arrives value (suc moving.0) moving.1 moving.7 (omega (arith, le, up)) r s)
            (λ r s. arrives_else rest other (suc moving.1) end moving.9 last_arrives (omega (arith, le, up, over)) r s) (subst Suited same suited))

      assigned_there : Arrived to (assigned_to c p e z)
      assigned_there = arrives e low to code first reached (λ x is. typed.typed c p knows.sees.names.agrees (good.0 p knows.sees.unit.sound) x is)

    by_target : (u : Val Target) → pointed name.first name.selectors c p ≡ u
        → Comes i schedule k task m (placed f from []) fs (low - from) low (λ y. pos (place_in sized way y) ∷ []) u
        → Arrived to (and_then u (assigned_to c p e))
    by_target (Gives z) is comes = assigned_there z is comes
    by_target (Raises x) is comes =
        let below = comes.5 in
        let h = way.up in (
          comes.0,
          comes.1,
          comes.2,
          takes_more (behaviour i schedule) task frames_of (most_steps i) (suc (to - from)) (omega (arith, h, up)) comes.3,
          comes.4,
          omega (arith, below, up),
          comes.6,
        )
    by_target Meaningless is comes = tt

    arrives_moved : Arrived to (and_then (pointed name.first name.selectors c p) (assigned_to c p e))
    arrives_moved =
        by_target (pointed name.first name.selectors c p) refl
        (computes_pointed sized way quiet c p.frames_left (answers p.frames_left) schedule k task m f fs p [] calm knows.sees left)

  pub assigns_moved : IsAssigned i program g numbers v from to name e
  assigns_moved = record {
    same = refl;
    arrives = λ schedule k task m f fs store a p answers calm is_at locals within rests_for rests own knows left.
        arrives_moved schedule k task m f fs store a p answers calm is_at locals within rests_for rests own knows left;
  }
