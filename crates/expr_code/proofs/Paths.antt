-- Names with selectors: along a path of components and indexes to a part, whose words are loaded.
use Rattle.std.proofs.Common.{◌≡◌, ℕ, suc, ◌+◌, ◌-◌, ◌≤◌, ℤ, List, ◌∷◌, ◌++◌, length, None, Some, Bool, true, false, refl, sym, ap, ◌∙◌, subst, arith, rules}
use Rattle.std.proofs.lemmas.Bool.{and_parts}
use Rattle.std.specs.Prelude.{cond, pos, nat_eq, reverse, ◌+ℤ◌, ◌&&◌}
use Rattle.base.specs.declared.schedule.ScheduleLine.{ScheduleLine}
use Rattle.kernel.specs.State.{Kernel}
use Rattle.kernel.specs.Effects.{Quiet}
use Rattle.kernel.specs.Calm.{Calm}
use Rattle.kernel.specs.Counting.{Spends, Done}
use Rattle.kernel.specs.Laws.{QuietStays}
use Rattle.kernel.specs.RunLaws.{spends_more}
use Rattle.ada_tree.specs.declared.expression.Identifier.{Identifier}
use Rattle.ada_tree.specs.ExpressionTree as tree
use Rattle.ada_tree.specs.ExpressionTree.{Arguments, Component, ExprTree, MoreArguments, MoreSelectors, NoArguments, NoSelectors, SelectorTrees}
use Rattle.image.specs.Sections.{Sections}
use Rattle.image.specs.Frames.{Words, Frame, region_words}
use Rattle.image.specs.Steps.{behaviour, block_loaded, does, loaded}
use Rattle.image.specs.declared.instruction.Operation.TheVariants as op
use Rattle.image.specs.declared.instruction.Region.{Region}
use Rattle.types.specs.Laws.{PartsHavePlaces, ValuesHaveWords}
use Rattle.types.specs.Layouts.{field_offset}
use Rattle.types.specs.Shapes.{Shape, Shapes, Grouped, Repeated, all_values, count_values, has_shape, have_shapes, value_words, words}
use Rattle.types.specs.declared.entity.Subtype.{Subtype}
use Rattle.types.specs.Evaluations.{Val, Gives, Raises, Meaningless, and_then}
use Rattle.types.specs.declared.entity.RecordComponent.{RecordComponent}
use Rattle.types.specs.Entities.{Arrays, Records}
use Rattle.types.specs.Standings.{component_of}
use Rattle.types.specs.Scopes.{form_at}
use Rattle.types.specs.Evaluating.{Calls, ended, fixed_name, name_with, part_with}
use Rattle.types.specs.Places.{IsObject, Meaning, Place, meaning_of}
use Rattle.types.specs.Values.{Value, Values, Fields, Array, Record, Number, Truth}
use Rattle.expr_soundness.specs.meaning.specs.MeetingLaws.{takes_more}
use Rattle.expr_soundness.specs.meaning.specs.SameMeaning.{frames_of}
use Rattle.image.specs.Frames.{word_at, words_at}
use Rattle.expr_code.specs.Views.{At, frames_above, in_frame, placed, Sight, View, view_of}
use Rattle.expr_code.specs.Coming.{Comes, most_steps, on}
use Rattle.expr_code.specs.Computing.{Answers, Computes, ComputesChecked, ComesToNumber, Library}
use Rattle.expr_code.specs.Locating.{Finds, shape_in}
use Rattle.expr_code.specs.Naming.{Lies, loaded_at}
use Rattle.expr_code.proofs.Coming.{acts, after_first, steps, pushes}
use Rattle.expr_code.proofs.Coming.{more}
use Rattle.expr_code.proofs.Expressions.{and_then_again}
use Rattle.expr_code.proofs.Naming.{same_words, single, word_there}
use Rattle.expr_code.proofs.Passing.{named_value}
use Rattle.expr_code.specs.Locating.{IsAtOffset, IsClose, IsOffset, IsPath, located}
use Rattle.expr_code.proofs.Locating.{FindsNear, at_offset_up, finds_element, finds_field, offset_up, shift_none, then_found}

-- a value of the shape of a record has fields, and one of the shape of an array components
pub as_record : (x : Shape) (parts : Shapes) (v : Value) → x ≡ Grouped parts → has_shape x v ≡ true → (fields : Fields) × (v ≡ Record fields) × (have_shapes parts fields ≡ true)
as_record x parts (Record fields) is shaped = (fields, refl, subst (λ y. has_shape y (Record fields) ≡ true) is shaped)
as_record x parts (Number z) is shaped = let no : has_shape (Grouped parts) (Number z) ≡ true = subst (λ y. has_shape y (Number z) ≡ true) is shaped in absurd cc
as_record x parts (Truth b) is shaped = let no : has_shape (Grouped parts) (Truth b) ≡ true = subst (λ y. has_shape y (Truth b) ≡ true) is shaped in absurd cc
as_record x parts (Array vs) is shaped = let no : has_shape (Grouped parts) (Array vs) ≡ true = subst (λ y. has_shape y (Array vs) ≡ true) is shaped in absurd cc

pub as_array : (x inner : Shape) (many : ℕ) (v : Value) → x ≡ Repeated many inner → has_shape x v ≡ true → (vs : Values) × (v ≡ Array vs) × (nat_eq (count_values vs) many ≡ true) × (all_values (has_shape inner) vs ≡ true)
as_array x inner many (Array vs) is shaped =
    let both : (nat_eq (count_values vs) many && all_values (has_shape inner) vs) ≡ true = subst (λ y. has_shape y (Array vs) ≡ true) is shaped in
    let parts = and_parts (nat_eq (count_values vs) many) (all_values (has_shape inner) vs) both in
    (vs, refl, parts.0, parts.1)
as_array x inner many (Number z) is shaped = let no : has_shape (Repeated many inner) (Number z) ≡ true = subst (λ y. has_shape y (Number z) ≡ true) is shaped in absurd cc
as_array x inner many (Truth b) is shaped = let no : has_shape (Repeated many inner) (Truth b) ≡ true = subst (λ y. has_shape y (Truth b) ≡ true) is shaped in absurd cc
as_array x inner many (Record fs) is shaped = let no : has_shape (Repeated many inner) (Record fs) ≡ true = subst (λ y. has_shape y (Record fs) ≡ true) is shaped in absurd cc

same_count : (n m : ℕ) → nat_eq n m ≡ true → n ≡ m
same_count n m h = search rules

module _ (quiet : QuietStays) (sized : ValuesHaveWords) (places : PartsHavePlaces) (i : Sections) (library : Library) (sight : Sight) (region : Region) where
  module _ (schedule : List ScheduleLine) (k : Kernel) (t : ℕ) (m : Words) (calm : Calm k t) (f : Frame) (fs : List Frame) (base : List ℤ) where
    more_finds : (from n n' to : ℕ) (st : List ℤ) (r : Subtype) (x : Shape) (v : Val Meaning) → n ≤ n' → Finds i schedule k t m (placed f from st) fs region r x n to base v → Finds i schedule k t m (placed f from st) fs region r x n' to base v
    more_finds from n n' to st r x (Gives (IsObject s v)) le h = (h.0, h.1, h.2, h.3, spends_more (behaviour i schedule) t frames_of (most_steps i) n' le h.4)
    more_finds from n n' to st r x (Raises e) le h = (h.0, h.1, h.2, takes_more (behaviour i schedule) t frames_of (most_steps i) (suc n') (omega (arith, le)) h.3, h.4, h.5, h.6)
    more_finds from n n' to st r x Meaningless le h = tt
    more_finds from n n' to st r x v le h = absurd h

    -- at the end of a path
    ends_there : (from to address : ℕ) (s : Subtype) (x end : Shape) (v : Value) → from ≡ to → x ≡ end → Lies (region_words i region m f) address v → has_shape x v ≡ true
        → Finds i schedule k t m (placed f from (pos address ∷ base)) fs region s end (to - from) to base (Gives (IsObject s v))
    ends_there from to address s x end v here same lies shaped = (
      address,
      subst (λ ws. Lies ws address v) (sym (same_words i m region f from (pos address ∷ base))) lies,
      subst (λ y. has_shape y v ≡ true) same shaped,
      refl,
      subst (λ q. Spends (behaviour i schedule) t frames_of (most_steps i) (suc (length fs)) (to - from) k (in_frame m (placed f from (pos address ∷ base)) fs) k (in_frame m (placed f q (pos address ∷ base)) fs)) here Done,
    )

  module _ (calls : Calls) (left : ℕ) (answers : Answers i library calls left) (schedule : List ScheduleLine) (k : Kernel) (t : ℕ) (m : Words) (f : Frame) (fs : List Frame) (p : Place) (base : List ℤ)
      (calm : Calm k t) (sees : sight p (view_of i schedule k t m f fs)) (is : left ≡ frames_above k t fs) (small : length (region_words i region m f) ≤ 65536) where
    abbrev At_part : (from to : ℕ) (shift : ℤ) (last : Subtype) (end : Shape) (address : ℕ) → Val Meaning → Type 0
    At_part from to shift last end address v =
        Finds i schedule k t m (placed f from ((pos address +ℤ shift) ∷ base)) fs region last end (to - from) to base v

    along_field : (name : Identifier) (rest : SelectorTrees) (from after to : ℕ) (shift next : ℤ) (s last : Subtype) (x end : Shape) (components : List RecordComponent)
        (parts : Shapes) (part : Subtype) (inner : Shape) (offset : ℕ)
        → form_at p.scope s.type_number ≡ Some (Records components) → x ≡ Grouped parts → component_of components name.name ≡ Some part
        → shape_in parts name.name ≡ Some inner → field_offset parts name.name ≡ Some offset
        → IsAtOffset i from after offset shift next → IsClose next → after ≤ to
        → ((v : Value) (address : ℕ) → Lies (region_words i region m f) address v → has_shape inner v ≡ true
        → At_part after to next last end address (located calls p (IsObject part v) rest))
        → (v : Value) (address : ℕ) → Lies (region_words i region m f) address v → has_shape x v ≡ true
        → At_part from to shift last end address (located calls p (IsObject s v) (MoreSelectors (Component name) rest))
    along_field name rest from after to shift next s last x end components parts part inner offset form grouped chosen shaped at moves close up again v address
        lies has =
        let far = at_offset_up i from after offset shift next moves in
        let it = as_record x parts v grouped has in
        let st : List ℤ = (pos address +ℤ shift) ∷ base in
        more_finds schedule k t m calm f fs base from ((after - from) + (to - after)) (to - from) to st last end
        (located calls p (IsObject s v) (MoreSelectors (Component name) rest)) (omega (arith, far, up))
        (then_found quiet i schedule k t m calm fs region last end part inner (placed f from st) (after - from) (to - after) after to next base
        (part_with calls p (IsObject s v) (Component name)) (λ n. located calls p n rest) far up
        (subst
        (λ u. FindsNear i schedule k t m (placed f from st) fs region part inner (after - from) after next base (part_with calls p (IsObject s u) (Component name)))
        (sym it.1)
        (finds_field quiet sized places i library sight region schedule k t m calm f fs base from after offset address shift next s it.0 parts components part inner
        name calls p form chosen shaped at moves close (subst (λ u. Lies (region_words i region m f) address u) it.1 lies) it.2 small))
        (λ a b l h. again a b (subst (λ ws. Lies ws b a) (same_words i m region f from st) l) h))

    along_index : (e : ExprTree) (rest : SelectorTrees) (from mid after to : ℕ) (shift next : ℤ) (s last index element : Subtype) (many : ℕ) (x inner end : Shape)
        → form_at p.scope s.type_number ≡ Some (Arrays index many element) → x ≡ Repeated many inner → many ≤ 65536 → from ≤ mid
        → ComputesChecked i library sight from mid index e → ComesToNumber i library sight e
        → IsClose shift → IsOffset i mid after index.first (words inner) shift next → IsClose next → after ≤ to
        → ((v : Value) (address : ℕ) → Lies (region_words i region m f) address v → has_shape inner v ≡ true
        → At_part after to next last end address (located calls p (IsObject element v) rest))
        → (v : Value) (address : ℕ) → Lies (region_words i region m f) address v → has_shape x v ≡ true
        → At_part from to shift last end address (located calls p (IsObject s v) (MoreSelectors (Arguments (MoreArguments (tree.Value e) NoArguments)) rest))
    along_index e rest from mid after to shift next s last index element many x inner end form repeated few le code number close offset closer up again v address
        lies has =
        let far = offset_up i mid after index.first (words inner) shift next offset in
        let it = as_array x inner many v repeated has in
        let count = same_count (count_values it.0) many it.2 in
        let selector = Arguments (MoreArguments (tree.Value e) NoArguments) in
        let st : List ℤ = (pos address +ℤ shift) ∷ base in
        more_finds schedule k t m calm f fs base from (((mid - from) + (after - mid)) + (to - after)) (to - from) to st last end
        (located calls p (IsObject s v) (MoreSelectors selector rest)) (omega (arith, le, far, up))
        (then_found quiet i schedule k t m calm fs region last end element inner (placed f from st) ((mid - from) + (after - mid)) (to - after) after to next base
        (part_with calls p (IsObject s v) selector) (λ n. located calls p n rest) (omega (arith, le, far)) up
        (subst
        (λ u. FindsNear i schedule k t m (placed f from st) fs region element inner ((mid - from) + (after - mid)) after next base
        (part_with calls p (IsObject s u) selector)) (sym it.1)
        (finds_element quiet sized places i library sight region from mid after e s index element many inner le code number shift next close closer offset calls left
        answers schedule k t m f fs p base calm sees is form it.0 address
        (record { lies = subst (λ u. Lies (region_words i region m f) address u) it.1 lies; shaped = it.3; few = omega (arith, count, few); small = small })))
        (λ u q l h. again u q (subst (λ ws. Lies ws q u) (same_words i m region f from st) l) h))

    -- along a path from the number of an object or part to the address of the part at its end
    pub finds_path : (selectors : SelectorTrees) (from to : ℕ) (shift : ℤ) (s last : Subtype) (x end : Shape) → IsClose shift
        → IsPath i library sight from to shift s x selectors last end
        → (v : Value) (address : ℕ) → Lies (region_words i region m f) address v → has_shape x v ≡ true
        → At_part from to shift last end address (located calls p (IsObject s v) selectors)
    finds_path NoSelectors from to shift s last x end close code v address lies shaped =
        subst
        (λ w. Finds i schedule k t m (placed f from (w ∷ base)) fs region last end (to - from) to base (Gives (IsObject s v)))
        (sym (shift_none address shift code.3))
        (subst (λ z. Finds i schedule k t m (placed f from (pos address ∷ base)) fs region z end (to - from) to base (Gives (IsObject s v))) code.2
        (ends_there schedule k t m calm f fs base from to address s x end v code.0 code.1 lies shaped))
    finds_path (MoreSelectors (Component name) rest) from to shift s last x end close code v address lies shaped =
        along_field name rest from code.5 to shift code.6 s last x end code.0 code.1 code.2 code.3 code.4 (code.7 p (view_of i schedule k t m f fs) sees)
        (code.8 p (view_of i schedule k t m f fs) sees) code.9 code.10 code.11 code.13 code.14 code.15
        (λ a b l h. finds_path rest code.5 to code.6 code.2 last code.3 end code.14 code.16 a b l h) v address lies shaped
    finds_path (MoreSelectors (Arguments (MoreArguments (tree.Value e) NoArguments)) rest) from to shift s last x end close code v address lies shaped =
        along_index e rest from code.4 code.5 to shift code.6 s last code.0 code.1 code.2 x code.3 end (code.7 p (view_of i schedule k t m f fs) sees)
        (code.8 p (view_of i schedule k t m f fs) sees) code.9 code.10 code.11 code.12 close code.13 code.14 code.15
        (λ a b l h. finds_path rest code.5 to code.6 code.1 last code.3 end code.14 code.16 a b l h) v address lies shaped
    finds_path (MoreSelectors other rest) from to shift s last x end close code v address lies shaped = absurd code

-- ---- the words of the part at the end of a path

-- a name's value is what the meaning of its parts ends with
pub located_value : (calls : Calls) (p : Place) (selectors : SelectorTrees) (meaning : Meaning) → name_with calls p meaning selectors ≡ and_then (located calls p meaning selectors) (ended calls p)
located_value calls p NoSelectors meaning = refl
located_value calls p (MoreSelectors x rest) meaning =
    (λ j. and_then (part_with calls p meaning x) (λ n. located_value calls p rest n j)) ∙ sym (and_then_again (part_with calls p meaning x) (λ n. located calls p n rest) (ended calls p))

-- Wherever the name is evaluated, it names an object of this subtype and shape, whose words stand in a region from this address on.
abbrev pub NamesStored : Sight → Identifier → SelectorTrees → Subtype → Shape → Region → ℕ → Type 0
NamesStored sight first selectors s x region address =
    (p : Place) (view : View)
    → sight p view
    → (v : Value)
    × (fixed_name p first selectors ≡ None)
    × (meaning_of p first.name ≡ IsObject s v)
    × Lies (view.words region) address v
    × (has_shape x v ≡ true)
    × (length (view.words region) ≤ 65536)

module _ (quiet : QuietStays) (sized : ValuesHaveWords) (places : PartsHavePlaces) (i : Sections) (library : Library) (sight : Sight) (region : Region) where
  module _ (schedule : List ScheduleLine) (k : Kernel) (t : ℕ) (m : Words) (calm : Calm k t) (f : Frame) (fs : List Frame) (base : List ℤ) where
    loads_part : (mid address : ℕ) (x : Shape) → At i mid (loaded_at region (words x)) → (a : Value) → Lies (region_words i region m f) address a → has_shape x a ≡ true
        → Comes i schedule k t m (placed f mid (pos address ∷ base)) fs 1 (suc mid) (on base) (Gives a)
    loads_part mid address x here a lies shaped = by_count (nat_eq (words x) 1) refl here
      where
        next : mid + 1 ≡ suc mid
        next = omega arith

        size : length (value_words a) ≡ words x
        size = (sized x a shaped).sized

        by_count : (b : Bool) → nat_eq (words x) 1 ≡ b → At i mid (cond b (op.LoadIndexed region) (op.LoadBlock region (words x)))
            → Comes i schedule k t m (placed f mid (pos address ∷ base)) fs 1 (suc mid) (on base) (Gives a)
        by_count true e at =
            let it = single (value_words a) (size ∙ same_count (words x) 1 e) in
            subst
            (λ ws. Spends (behaviour i schedule) t frames_of (most_steps i) (suc (length fs)) 1 k (in_frame m (placed f mid (pos address ∷ base)) fs) k
            (in_frame m (placed f (suc mid) (reverse ws ++ base)) fs)) (sym it.1)
            (steps quiet i schedule k t m calm (placed f mid (pos address ∷ base)) (placed f (suc mid) (it.0 ∷ base)) fs
            (acts quiet i mid (op.LoadIndexed region) at schedule k t m f fs (pos address ∷ base)
            ∙ ap (λ ws. loaded i schedule k t m (placed f mid (pos address ∷ base)) fs (word_at ws (pos address)) base)
            (same_words i m region f mid (pos address ∷ base))
            ∙ ap (λ o. loaded i schedule k t m (placed f mid (pos address ∷ base)) fs o base) (word_there (region_words i region m f) address a it.0 lies it.1)
            ∙ ap (λ n. does Quiet m (placed f n (it.0 ∷ base)) fs None None) next))
        by_count false e at =
            steps quiet i schedule k t m calm (placed f mid (pos address ∷ base)) (placed f (suc mid) (on base a)) fs
            (acts quiet i mid (op.LoadBlock region (words x)) at schedule k t m f fs (pos address ∷ base)
            ∙ ap (λ ws. block_loaded i schedule k t m (placed f mid (pos address ∷ base)) fs (words_at ws (pos address) (words x)) base)
            (same_words i m region f mid (pos address ∷ base))
            ∙ ap (λ n. block_loaded i schedule k t m (placed f mid (pos address ∷ base)) fs (words_at (region_words i region m f) (pos address) n) base) (sym size)
            ∙ ap (λ o. block_loaded i schedule k t m (placed f mid (pos address ∷ base)) fs o base) lies
            ∙ ap (λ n. does Quiet m (placed f n (on base a)) fs None None) next)

    then_loads : (from n mid : ℕ) (last : Subtype) (x : Shape) (calls : Calls) (p : Place) (st : List ℤ) (v : Val Meaning) → from ≤ mid → At i mid (loaded_at region (words x))
        → Finds i schedule k t m (placed f from st) fs region last x n mid base v
        → Comes i schedule k t m (placed f from st) fs (n + 1) (suc mid) (on base) (and_then v (ended calls p))
    then_loads from n mid last x calls p st (Gives (IsObject s a)) le here h =
        after_first quiet i schedule k t m calm (placed f from st) fs n 1 mid (suc mid) (pos h.0 ∷ base) (on base) (Gives a) le h.4
        (loads_part mid h.0 x here a (subst (λ ws. Lies ws h.0 a) (same_words i m region f from st) h.1) h.2)
    then_loads from n mid last x calls p st (Raises e) le here h =
        let below = h.5 in
        (h.0, h.1, h.2, takes_more (behaviour i schedule) t frames_of (most_steps i) (suc (n + 1)) (omega arith) h.3, h.4, omega (arith, below), h.6)
    then_loads from n mid last x calls p st Meaningless le here h = tt
    then_loads from n mid last x calls p st v le here h = absurd h

  -- a name with selectors: the address of the object, the path, and the words of the part
  pub computes_part : (from mid address : ℕ) (shift : ℤ) (first : Identifier) (selectors : SelectorTrees) (s last : Subtype) (x end : Shape) → suc from ≤ mid
      → NamesStored sight first selectors s x region address
      → IsClose shift
      → At i from (op.Push (pos address +ℤ shift))
      → IsPath i library sight (from + 1) mid shift s x selectors last end
      → At i mid (loaded_at region (words end))
      → Computes i library sight from (suc mid) (tree.Named first selectors)
  computes_part from mid address shift first selectors s last x end le names close push path load calls left answers schedule k t m f fs p base calm sees is =
      let it = names p (view_of i schedule k t m f fs) sees in
      let meaning = IsObject s it.0 in
      let found = located calls p meaning selectors in
      subst (λ v. Comes i schedule k t m (placed f from base) fs (suc mid - from) (suc mid) (on base) v)
      (sym (named_value calls p first selectors meaning it.1 it.2 ∙ located_value calls p selectors meaning))
      (more quiet i schedule k t m calm (placed f from base) fs (1 + ((mid - (from + 1)) + 1)) (suc mid - from) (suc mid) (on base) (and_then found (ended calls p)) (omega (arith, le))
      (after_first quiet i schedule k t m calm (placed f from base) fs 1 ((mid - (from + 1)) + 1) (from + 1) (suc mid) ((pos address +ℤ shift) ∷ base) (on base) (and_then found (ended calls p)) (omega arith)
      (pushes quiet i schedule k t m calm from (pos address +ℤ shift) push f fs base (from + 1) refl)
      (then_loads schedule k t m calm f fs base (from + 1) (mid - (from + 1)) mid last end calls p ((pos address +ℤ shift) ∷ base) found (omega (arith, le)) load
      (finds_path quiet sized places i library sight region calls left answers schedule k t m f fs p base calm sees is it.5 selectors (from + 1) mid shift s last x end close path it.0 address it.3 it.4))))
