-- Parts of arrays at a checked index: their addresses, and their words.
use Rattle.std.proofs.Math.IntN.{+ℤ-suc_ℤ, +ℤ_idr, suc_ℤ, suc_ℤ-*ℤ}
use Rattle.std.proofs.Common.{◌≡◌, ℕ, zero, suc, inl, inr, ◌+◌, ◌-◌, ◌*◌, ◌≤◌, ◌<◌, ℤ, List, [], ◌∷◌, ◌++◌, cond, length, Option, None, Some, Ok, Bool, true, false, refl, sym, ap, ◌∙◌, subst, arith, rules}
use Rattle.std.proofs.lemmas.Int.{ints}
use Rattle.std.proofs.lemmas.Bool.{and_parts}
use Rattle.std.proofs.lemmas.Slice.Eq.{bytes_eq-Decides}
use Rattle.std.specs.Prelude.{pos, negsuc, int_le, ◌+ℤ◌, ◌-ℤ◌, ◌*ℤ◌, ◌≤ℤ◌, nat_le, nat_lt, ◌^◌, ◌&&◌, take, drop, unsigned_abs, bytes_eq, if◌then◌else◌}
use Rattle.base.specs.Arithmetic.{in_range, constraint_error}
use Rattle.base.specs.declared.exceptions.PredefinedException.TheVariants.{ConstraintError}
use Rattle.base.specs.declared.schedule.ScheduleLine.{ScheduleLine}
use Rattle.kernel.specs.State.{Kernel}
use Rattle.kernel.specs.Effects.{Quiet}
use Rattle.kernel.specs.Calm.{Calm}
use Rattle.kernel.specs.Counting.{Done, Spends}
use Rattle.kernel.specs.Laws.{QuietStays}
use Rattle.kernel.specs.RunLaws.{spends_more, spends_trans}
use Rattle.ada_tree.specs.declared.expression.Identifier.{Identifier}
use Rattle.ada_tree.specs.ExpressionTree as tree
use Rattle.ada_tree.specs.ExpressionTree.{Arguments, Component, ExprTree, MoreArguments, NoArguments, SelectorTree}
use Rattle.image.specs.Sections.{Sections}
use Rattle.image.specs.Frames.{Words, Frame, region_words}
use Rattle.image.specs.Steps.{act, behaviour, does, gives}
use Rattle.image.specs.declared.instruction.Operation.{Operation}
use Rattle.image.specs.declared.instruction.Operation.TheVariants as op
use Rattle.image.specs.declared.instruction.Region.{Region}
use Rattle.types.specs.Laws.{PartsHavePlaces, ValuesHaveWords}
use Rattle.types.specs.Layouts.{field_offset, further}
use Rattle.types.specs.Shapes.{Shape, Shapes, NoShapes, MoreShapes, all_values, count_values, fields_words, has_shape, have_shapes, value_words, values_words, words}
use Rattle.types.specs.declared.entity.Subtype.{Subtype}
use Rattle.types.specs.Evaluations.{Val, Gives, Raises, Meaningless, and_then, raise}
use Rattle.types.specs.declared.entity.RecordComponent.{RecordComponent}
use Rattle.types.specs.Entities.{Arrays, Records}
use Rattle.types.specs.Standings.{component_of}
use Rattle.types.specs.Scopes.{form_at}
use Rattle.types.specs.Evaluating.{Calls, actuals_with, applied, element_meaning, field_meaning, object_or_nothing, part_with, passed, value_with, wanted_by_index}
use Rattle.types.specs.Places.{IsObject, Meaning, Place}
use Rattle.types.specs.Values.{Value, Values, NoValues, MoreValues, Fields, NoFields, MoreFields, Array, Record, Number, element_at, field_of}
use Rattle.expr_soundness.specs.meaning.specs.MeetingLaws.{takes_more}
use Rattle.expr_soundness.specs.meaning.specs.SameMeaning.{frames_of}
use Rattle.expr_code.specs.Views.{frames_above, in_frame, placed, Sight, view_of}
use Rattle.expr_code.specs.Coming.{Comes, most_steps, on}
use Rattle.expr_code.specs.Computing.{Answers, ComputesChecked, ComesToNumber, Library}
use Rattle.expr_code.specs.Locating.{AreTwo, Finds, IsAtOffset, IsByWords, IsClose, IsLessFirst, IsNear, IsOffset, shape_in}
use Rattle.expr_code.specs.Naming.{Lies}
use Rattle.expr_code.proofs.Coming.{acts, after_first, steps, pushes}
use Rattle.expr_code.proofs.Naming.{same_words}

ordered : (a b : ℤ) → int_le a b ≡ true → a ≤ℤ b
ordered a b h = grind (arith, ints)

-- a number that is not below another one lies at a distance from it
pub distance : (low v d : ℤ) → int_le low v ≡ true → v -ℤ low ≡ d → (n : ℕ) × (d ≡ pos n)
distance low v (pos n) above is = (n, refl)
distance low v (negsuc n) above is = let x = ordered low v above in absurd (omega (arith, ints, x, is))

small : (a b : ℕ) → a < b → nat_lt a b ≡ true
small a b h = search rules

pub in_base : (n : ℕ) → n < 2 ^ 63 → in_range (pos n) ≡ Ok (pos n)
in_base n h = ap (λ c. cond c (Ok (pos n)) constraint_error) (small n (2 ^ 63) h)

times : (n size : ℕ) → pos n *ℤ pos size ≡ pos (n * size)
times n size = grind (arith, ints)

-- a number that is not far from 0 is of the base range
in_base_range : (z : ℤ) → unsigned_abs z < 2 ^ 63 → in_range z ≡ Ok z
in_base_range (pos n) h = in_base n h
in_base_range (negsuc n) h = ap (λ c. cond c (Ok (negsuc n)) constraint_error) (small n (2 ^ 63) (omega (arith, h)))

once : (y e : ℤ) (size : ℕ) → size ≡ 1 → y *ℤ pos size ≡ e → y ≡ e
once y e size one is = sym (alone y) ∙ ap (λ n. y *ℤ pos n) (sym one) ∙ is
  where
    alone : (z : ℤ) → z *ℤ pos 1 ≡ z
    alone z = grind (arith, ints)

next_size : (n w : ℕ) → suc n * w ≡ w + n * w
next_size n w = omega arith

-- the words up to an index are those up to the first one and those from there on
spread : (a : ℤ) (n size : ℕ) → (a +ℤ pos n) *ℤ pos size ≡ a *ℤ pos size +ℤ pos (n * size)
spread a zero size = ap (λ z. z *ℤ pos size) (+ℤ_idr a) ∙ sym (+ℤ_idr (a *ℤ pos size))
    ∙ ap (λ n. a *ℤ pos size +ℤ pos n) (no_times size)
  where
    no_times : (w : ℕ) → 0 ≡ 0 * w
    no_times w = omega arith
spread a (suc n) size =
    ap (λ z. z *ℤ pos size) (next a n) ∙ suc_ℤ-*ℤ (a +ℤ pos n) (pos size) ∙ ap (λ z. z +ℤ pos size) (spread a n size)
    ∙ last (a *ℤ pos size) (n * size) size (suc n * size) (next_size n size)
  where
    next : (z : ℤ) (k : ℕ) → z +ℤ pos (suc k) ≡ suc_ℤ (z +ℤ pos k)
    next z k = +ℤ-suc_ℤ z (pos k)

    last : (z : ℤ) (k w m : ℕ) → m ≡ w + k → (z +ℤ pos k) +ℤ pos w ≡ z +ℤ pos m
    last z k w m e = omega (arith, ints, e)

-- a number near to an address of a program, and the distance of two such numbers with so many words
near_sum : (a : ℕ) (z : ℤ) → a ≤ 65536 → IsClose z → unsigned_abs (pos a +ℤ z) < 2 ^ 63
near_sum a z few close = omega (arith, ints, few, close)

near_more : (n : ℕ) (a b : ℤ) → n ≤ 65536 → IsClose a → IsClose b → unsigned_abs (pos n +ℤ (b -ℤ a)) < 2 ^ 63
near_more n a b few one two = omega (arith, ints, few, one, two)

pub near_close : (z : ℤ) → IsNear z → IsClose z
near_close z near = omega (arith, near)

pub shift_none : (a : ℕ) (shift : ℤ) → shift ≡ pos 0 → pos a +ℤ shift ≡ pos a
shift_none a shift is = omega (arith, ints, is)

-- ---- code from an index to an address goes on

less_up : (i : Sections) (from to : ℕ) (first : ℤ) (size : ℕ) (shift next : ℤ) → IsLessFirst i from to first size shift next → from ≤ to
less_up i from to first size shift next (inl h) = let there = h.0.2 in omega (arith, there)
less_up i from to first size shift next (inr h) = let there = h.0 in omega (arith, there)

pub at_offset_up : (i : Sections) (from to offset : ℕ) (shift next : ℤ) → IsAtOffset i from to offset shift next → from ≤ to
at_offset_up i from to offset shift next (inl h) = let there = h.0.2 in omega (arith, there)
at_offset_up i from to offset shift next (inr h) = let there = h.0 in omega (arith, there)

product_up : (i : Sections) (from to size : ℕ) → IsByWords i from to size → from ≤ to
product_up i from to size (inl h) = let next = h.2 in omega (arith, next)
product_up i from to size (inr h) = let next = h.1 in omega (arith, next)

pub offset_up : (i : Sections) (from to : ℕ) (first : ℤ) (size : ℕ) (shift next : ℤ) → IsOffset i from to first size shift next → from ≤ to
offset_up i from to first size shift next h =
    let low = less_up i from h.counted first size shift next h.less in
    let high = product_up i h.counted h.scaled size h.product in
    let end = h.end in
    omega (arith, low, high, end)

-- ---- the words of a component among those of its array

abbrev none : List ℤ
none = []

drop_none : (o : ℕ) → drop o none ≡ none
drop_none zero = refl
drop_none (suc o) = refl

drop_more : (ws : List ℤ) (a o : ℕ) → drop o (drop a ws) ≡ drop (a + o) ws
drop_more ws zero o = ap (λ n. drop n ws) (plus o)
  where
    plus : (o : ℕ) → o ≡ 0 + o
    plus o = omega arith
drop_more [] (suc a) o = drop_none o ∙ sym (drop_none (suc a + o))
drop_more (w ∷ ws) (suc a) o = drop_more ws a o ∙ ap (λ n. drop n (w ∷ ws)) (up a o)
  where
    up : (a o : ℕ) → suc (a + o) ≡ suc a + o
    up a o = omega arith

take_take : (ws : List ℤ) (l n : ℕ) → l ≤ n → take l (take n ws) ≡ take l ws
take_take ws zero n le = refl
take_take ws (suc l) zero le = absurd (omega (arith, le))
take_take [] (suc l) (suc n) le = refl
take_take (w ∷ ws) (suc l) (suc n) le = ap (λ x. w ∷ x) (take_take ws l n (omega (arith, le)))

pub window : (ws : List ℤ) (o l n : ℕ) → o + l ≤ n → take l (drop o (take n ws)) ≡ take l (drop o ws)
window ws zero l n le = take_take ws l n (omega (arith, le))
window ws (suc o) l zero le = absurd (omega (arith, le))
window [] (suc o) l (suc n) le = refl
window (w ∷ ws) (suc o) l (suc n) le = window ws o l n (omega (arith, le))

joined : (xs ys : List ℤ) → length (xs ++ ys) ≡ length xs + length ys
joined [] ys = omega arith
joined (x ∷ xs) ys = let h = joined xs ys in omega (arith, h)

-- a component stands within its array
fits_in : (sized : ValuesHaveWords) (x : Shape) (vs : Values) (n : ℕ) (w : Value) → all_values (has_shape x) vs ≡ true → element_at vs n ≡ Some w → n * words x + words x ≤ length (values_words vs)
fits_in sized x NoValues n w all there = absurd cc
fits_in sized x (MoreValues v rest) zero w all there =
    let parts = and_parts (has_shape x v) (all_values (has_shape x) rest) all in
    let size = (sized x v parts.0).sized in
    let whole = joined (value_words v) (values_words rest) in
    omega (arith, size, whole)
fits_in sized x (MoreValues v rest) (suc n) w all there =
    let parts = and_parts (has_shape x v) (all_values (has_shape x) rest) all in
    let size = (sized x v parts.0).sized in
    let whole = joined (value_words v) (values_words rest) in
    let inner = fits_in sized x rest n w parts.1 there in
    let product = next_size n (words x) in
    omega (arith, size, whole, inner, product)

pub element_shape : (x : Shape) (vs : Values) (n : ℕ) (w : Value) → all_values (has_shape x) vs ≡ true → element_at vs n ≡ Some w → has_shape x w ≡ true
element_shape x NoValues n w all there = absurd cc
element_shape x (MoreValues v rest) zero w all there =
    let parts = and_parts (has_shape x v) (all_values (has_shape x) rest) all in
    let same : v ≡ w = cc in subst (λ u. has_shape x u ≡ true) same parts.0
element_shape x (MoreValues v rest) (suc n) w all there =
    let parts = and_parts (has_shape x v) (all_values (has_shape x) rest) all in
    element_shape x rest n w parts.1 there

-- what `words_at` tells
told : (b : Bool) (xs ys : List ℤ) → cond b (Some xs) None ≡ Some ys → (b ≡ true) × (xs ≡ ys)
told true xs ys e = (refl, cc)
told false xs ys e = absurd cc

within : (n m : ℕ) → nat_le n m ≡ true → n ≤ m
within n m h = search rules

below : (n m : ℕ) → n ≤ m → nat_le n m ≡ true
below n m h = search rules

pub element_lies : (sized : ValuesHaveWords) (places : PartsHavePlaces) (ws : List ℤ) (a : ℕ) (x : Shape) (vs : Values) (n : ℕ) (w : Value)
    → all_values (has_shape x) vs ≡ true → element_at vs n ≡ Some w → Lies ws a (Array vs) → Lies ws (a + n * words x) w
element_lies sized places ws a x vs n w all there lies =
    let o = n * words x in
    let v = values_words vs in
    let l = length (value_words w) in
    let held = told (nat_le (a + length v) (length ws)) (take (length v) (drop a ws)) v lies in
    let room = within (a + length v) (length ws) held.0 in
    let fit = fits_in sized x vs n w all there in
    let size = (sized x w (element_shape x vs n w all there)).sized in
    let part : take (words x) (drop o v) ≡ value_words w = places.elements x vs n w all there in
    ap (λ b. cond b (Some (take l (drop (a + o) ws))) None) (below ((a + o) + l) (length ws) (omega (arith, room, fit, size)))
    ∙ ap Some
    (ap (take l) (sym (drop_more ws a o))
    ∙ sym (window (drop a ws) o l (length v) (omega (arith, fit, size)))
    ∙ ap (λ y. take l (drop o y)) held.1
    ∙ ap (λ q. take q (drop o v)) size
    ∙ part)

module _ (quiet : QuietStays) (i : Sections) (schedule : List ScheduleLine) (k : Kernel) (t : ℕ) (m : Words) (calm : Calm k t) (f : Frame) (fs : List Frame) where
  -- one step to another place and stack
  one : (from to : ℕ) (s s' : List ℤ) → act i schedule k t (in_frame m (placed f from s) fs) ≡ does Quiet m (placed f to s') fs None None
      → Spends (behaviour i schedule) t frames_of (most_steps i) (suc (length fs)) 1 k (in_frame m (placed f from s) fs) k (in_frame m (placed f to s') fs)
  one from to s s' h = steps quiet i schedule k t m calm (placed f from s) (placed f to s') fs h

  after_two : (from : ℕ) → (from + 1) + 1 ≡ from + 2
  after_two from = omega arith

  -- a number on top of others, after so many steps
  abbrev Comes_on : (from to : ℕ) → (s s' : List ℤ) → Type 0
  Comes_on from to s s' =
      Spends (behaviour i schedule) t frames_of (most_steps i) (suc (length fs)) (to - from) k (in_frame m (placed f from s) fs) k (in_frame m (placed f to s') fs)

  stays : (from to : ℕ) (s s' : List ℤ) → to ≡ from → s ≡ s' → Comes_on from to s s'
  stays from to s s' there same =
      subst (λ q. Comes_on from q s s') (sym there)
      (subst
      (λ x. Spends (behaviour i schedule) t frames_of (most_steps i) (suc (length fs)) (from - from) k (in_frame m (placed f from s) fs) k
      (in_frame m (placed f from x) fs)) same Done)

  -- two instructions, of which the second makes one number of two
  by_two : (from to : ℕ) (z e : ℤ) (o : Operation) (base : List ℤ) (rest : List ℤ) → AreTwo i from to (op.Push z) o
      → act i schedule k t (in_frame m (placed f (from + 1) (z ∷ base)) fs) ≡ does Quiet m (placed f ((from + 1) + 1) (e ∷ rest)) fs None None
      → Comes_on from to base (e ∷ rest)
  by_two from to z e o base rest h is =
      subst (λ q. Comes_on from q base (e ∷ rest)) (sym h.2)
      (spends_more (behaviour i schedule) t frames_of (most_steps i) ((from + 2) - from) (omega arith)
      (spends_trans (behaviour i schedule) t frames_of (most_steps i) 1 k (in_frame m (placed f (from + 2) (e ∷ rest)) fs)
      (pushes quiet i schedule k t m calm from z h.0 f fs base (from + 1) refl)
      (one (from + 1) (from + 2) (z ∷ base) (e ∷ rest) (is ∙ ap (λ q. does Quiet m (placed f q (e ∷ rest)) fs None None) (after_two from)))))

  -- an index less the first one, or the index: by the words of each it leads to the component's, with what the number has more
  record Counts (from to : ℕ) (z : ℤ) (size n : ℕ) (shift next : ℤ) (base : List ℤ) : Type 0 where
    y : ℤ
    words_are : y *ℤ pos size ≡ pos (n * size) +ℤ (next -ℤ shift)
    comes : Comes_on from to (z ∷ base) (y ∷ base)

  none_more : (p shift next : ℤ) → next ≡ shift → p ≡ p +ℤ (next -ℤ shift)
  none_more p shift next e = omega (arith, ints, e)

  front_more : (p : ℕ) (front shift next : ℤ) → next ≡ shift +ℤ front → front +ℤ pos p ≡ pos p +ℤ (next -ℤ shift)
  front_more p front shift next e = omega (arith, ints, e)

  index_is : (z first : ℤ) (n : ℕ) → z -ℤ first ≡ pos n → z ≡ first +ℤ pos n
  index_is z first n e = omega (arith, ints, e)

  less_first : (from to : ℕ) (first z : ℤ) (size n : ℕ) (shift next : ℤ) (base : List ℤ) → z -ℤ first ≡ pos n → n < 2 ^ 63
      → IsLessFirst i from to first size shift next → Counts from to z size n shift next base
  less_first from to first z size n shift next base far few (inl h) = record {
    y = pos n;
    words_are = times n size ∙ none_more (pos (n * size)) shift next h.1;
    comes = by_two from to first (pos n) op.Subtract (z ∷ base) base h.0
        (acts quiet i (from + 1) op.Subtract h.0.1 schedule k t m f fs (first ∷ z ∷ base)
        ∙ ap (λ x. gives i schedule k t m (placed f (from + 1) (first ∷ z ∷ base)) fs x base) (ap in_range far ∙ in_base n few));
  }
  less_first from to first z size n shift next base far few (inr h) = record {
    y = z;
    words_are = ap (λ x. x *ℤ pos size) (index_is z first n far) ∙ spread first n size ∙ front_more (n * size) (first *ℤ pos size) shift next h.1;
    comes = stays from to (z ∷ base) (z ∷ base) h.0 refl;
  }

  -- by the words of each
  by_words : (from to size : ℕ) (y e : ℤ) (base : List ℤ) → y *ℤ pos size ≡ e → unsigned_abs e < 2 ^ 63 → IsByWords i from to size
      → Comes_on from to (y ∷ base) (e ∷ base)
  by_words from to size y e base is few (inl h) =
      by_two from to (pos size) e op.Multiply (y ∷ base) base h
      (acts quiet i (from + 1) op.Multiply h.1 schedule k t m f fs (pos size ∷ y ∷ base)
      ∙ ap (λ x. gives i schedule k t m (placed f (from + 1) (pos size ∷ y ∷ base)) fs x base) (ap in_range is ∙ in_base_range e few))
  by_words from to size y e base is few (inr h) = stays from to (y ∷ base) (e ∷ base) h.1 (ap (λ x. x ∷ base) (once y e size h.0 is))

  sum_is : (a p : ℕ) (shift next : ℤ) → (pos a +ℤ shift) +ℤ (pos p +ℤ (next -ℤ shift)) ≡ pos (a + p) +ℤ next
  sum_is a p shift next = omega (arith, ints)

  -- Above the number of an array and a checked index: the words of so many components, added, lead to the number of the component.
  pub indexes : (from to : ℕ) (first z : ℤ) (size address n : ℕ) (shift next : ℤ) (base : List ℤ)
      → z -ℤ first ≡ pos n → n < 2 ^ 63 → address + n * size ≤ 65536 → IsClose shift → IsClose next → IsOffset i from to first size shift next
      → Spends (behaviour i schedule) t frames_of (most_steps i) (suc (length fs)) (to - from) k
      (in_frame m (placed f from (z ∷ (pos address +ℤ shift) ∷ base)) fs) k
      (in_frame m (placed f to ((pos (address + n * size) +ℤ next) ∷ base)) fs)
  indexes from to first z size address n shift next base far few small_sum close closer x =
      let low = less_up i from x.counted first size shift next x.less in
      let high = product_up i x.counted x.scaled size x.product in
      let number : ℤ = pos address +ℤ shift in
      let more : ℤ = pos (n * size) +ℤ (next -ℤ shift) in
      let s2 : List ℤ = more ∷ number ∷ base in
      let s3 : List ℤ = (pos (address + n * size) +ℤ next) ∷ base in
      let end_ = in_frame m (placed f (x.scaled + 1) s3) fs in
      let counts = less_first from x.counted first z size n shift next (number ∷ base) far few x.less in
      subst (λ q. Comes_on from q (z ∷ number ∷ base) s3) (sym x.end)
      (spends_more (behaviour i schedule) t frames_of (most_steps i) ((x.scaled + 1) - from) (omega (arith, low, high))
      (spends_trans (behaviour i schedule) t frames_of (most_steps i) ((x.scaled - x.counted) + 1) k end_
      counts.comes
      (spends_trans (behaviour i schedule) t frames_of (most_steps i) 1 k end_
      (by_words x.counted x.scaled size counts.y more (number ∷ base) counts.words_are
      (near_more (n * size) shift next (omega (arith, small_sum)) close closer) x.product)
      (one x.scaled (x.scaled + 1) s2 s3
      (acts quiet i x.scaled op.Add x.add schedule k t m f fs s2
      ∙ ap (λ y. gives i schedule k t m (placed f x.scaled s2) fs y base)
      (ap in_range (sum_is address (n * size) shift next) ∙ in_base_range (pos (address + n * size) +ℤ next) (near_sum (address + n * size) next small_sum closer)))))))

  offset_is : (a o : ℕ) (shift next : ℤ) → next ≡ shift → (pos a +ℤ shift) +ℤ pos o ≡ pos (a + o) +ℤ next
  offset_is a o shift next e = omega (arith, ints, e)

  offset_told : (a o : ℕ) (shift next : ℤ) → next ≡ shift -ℤ pos o → pos a +ℤ shift ≡ pos (a + o) +ℤ next
  offset_told a o shift next e = omega (arith, ints, e)

  -- From the number of a record to that of its component.
  pub moves_on : (from to offset address : ℕ) (shift next : ℤ) (base : List ℤ) → address + offset ≤ 65536 → IsClose next
      → IsAtOffset i from to offset shift next
      → Spends (behaviour i schedule) t frames_of (most_steps i) (suc (length fs)) (to - from) k (in_frame m (placed f from ((pos address +ℤ shift) ∷ base)) fs) k
      (in_frame m (placed f to ((pos (address + offset) +ℤ next) ∷ base)) fs)
  moves_on from to offset address shift next base small_sum close (inl h) =
      by_two from to (pos offset) (pos (address + offset) +ℤ next) op.Add ((pos address +ℤ shift) ∷ base) base h.0
      (acts quiet i (from + 1) op.Add h.0.1 schedule k t m f fs (pos offset ∷ (pos address +ℤ shift) ∷ base)
      ∙ ap (λ y. gives i schedule k t m (placed f (from + 1) (pos offset ∷ (pos address +ℤ shift) ∷ base)) fs y base)
      (ap in_range (offset_is address offset shift next h.1)
      ∙ in_base_range (pos (address + offset) +ℤ next) (near_sum (address + offset) next small_sum close)))
  moves_on from to offset address shift next base small_sum close (inr h) =
      stays from to ((pos address +ℤ shift) ∷ base) ((pos (address + offset) +ℤ next) ∷ base) h.0
      (ap (λ y. y ∷ base) (offset_told address offset shift next h.1))

-- ---- a value, and then an address

pub given : {A B : Type 0} (v : Val A) (go : A → Val B) (b : B) → and_then v go ≡ Gives b → (a : A) × (v ≡ Gives a) × (go a ≡ Gives b)
given (Gives a) go b e = (a, refl, e)
given (Raises x) go b e = absurd cc
given Meaningless go b e = absurd cc

-- a number that has passed a check against its subtype lies between the first value and the last one
pub passed_number : (s : Subtype) (z : ℤ) (a : Value) → passed s (Number z) ≡ Gives a → (a ≡ Number z) × (int_le s.first z ≡ true) × (int_le z s.last ≡ true)
passed_number s z a e = by (int_le s.first z) (int_le z s.last) refl refl e
  where
    by : (b c : Bool) → int_le s.first z ≡ b → int_le z s.last ≡ c → cond (b && c) (Gives (Number z)) (raise ConstraintError) ≡ Gives a
        → (a ≡ Number z) × (int_le s.first z ≡ true) × (int_le z s.last ≡ true)
    by true true is above e = let same : Number z ≡ a = cc in (sym same, is, above)
    by true false is above e = absurd cc
    by false c is above e = absurd cc

module _ (i : Sections) (schedule : List ScheduleLine) (k : Kernel) (t : ℕ) (m : Words) where
  -- the same as `Finds`, where the number on the operand stack has so many more than the address
  abbrev pub FindsNear : Frame → List Frame → Region → Subtype → Shape → (n to : ℕ) → (shift : ℤ) → (base : List ℤ) → Val Meaning → Type 0
  FindsNear f fs region r x n to shift base (Gives (IsObject s v)) =
      (address : ℕ)
      × Lies (region_words i region m f) address v
      × (has_shape x v ≡ true)
      × (s ≡ r)
      × Spends (behaviour i schedule) t frames_of (most_steps i) (suc (length fs)) n k (in_frame m f fs) k
      (in_frame m (placed f to ((pos address +ℤ shift) ∷ base)) fs)
  FindsNear f fs region r x n to shift base (Gives meaning) = ⊥
  FindsNear f fs region r x n to shift base (Raises e) = Comes i schedule k t m f fs n to (λ (meaning : Meaning). base) (Raises e)
  FindsNear f fs region r x n to shift base Meaningless = Unit {0}

module _ (quiet : QuietStays) (i : Sections) (schedule : List ScheduleLine) (k : Kernel) (t : ℕ) (m : Words) (calm : Calm k t) (fs : List Frame) (region : Region) (r : Subtype) (x : Shape) where
  -- steps, and then what finds an address
  found_after : (f : Frame) (n n' mid to : ℕ) (st base : List ℤ) (v : Val Meaning)
      → f.place ≤ mid
      → Spends (behaviour i schedule) t frames_of (most_steps i) (suc (length fs)) n k (in_frame m f fs) k (in_frame m (placed f mid st) fs)
      → Finds i schedule k t m (placed f mid st) fs region r x n' to base v
      → Finds i schedule k t m f fs region r x (n + n') to base v
  found_after f n n' mid to st base (Gives (IsObject s v)) le h g =
      (g.0, subst (λ ws. Lies ws g.0 v) (same_words i m region f mid st) g.1, g.2, g.3, spends_trans (behaviour i schedule) t frames_of (most_steps i) n' k (in_frame m (placed f to (pos g.0 ∷ base)) fs) h g.4)
  found_after f n n' mid to st base (Raises e) le h g = after_first quiet i schedule k t m calm f fs n n' mid to st (λ (meaning : Meaning). base) (Raises e) le h g
  found_after f n n' mid to st base Meaningless le h g = tt
  found_after f n n' mid to st base v le h g = absurd g

  near_after : (f : Frame) (n n' mid to : ℕ) (shift : ℤ) (st base : List ℤ) (v : Val Meaning)
      → f.place ≤ mid
      → Spends (behaviour i schedule) t frames_of (most_steps i) (suc (length fs)) n k (in_frame m f fs) k (in_frame m (placed f mid st) fs)
      → FindsNear i schedule k t m (placed f mid st) fs region r x n' to shift base v
      → FindsNear i schedule k t m f fs region r x (n + n') to shift base v
  near_after f n n' mid to shift st base (Gives (IsObject s v)) le h g = (
    g.0,
    subst (λ ws. Lies ws g.0 v) (same_words i m region f mid st) g.1,
    g.2,
    g.3,
    spends_trans (behaviour i schedule) t frames_of (most_steps i) n' k (in_frame m (placed f to ((pos g.0 +ℤ shift) ∷ base)) fs) h g.4,
  )
  near_after f n n' mid to shift st base (Raises e) le h g =
      after_first quiet i schedule k t m calm f fs n n' mid to st (λ (meaning : Meaning). base) (Raises e) le h g
  near_after f n n' mid to shift st base Meaningless le h g = tt
  near_after f n n' mid to shift st base v le h g = absurd g

  pub then_finds : (f : Frame) (n n' mid to : ℕ) (shift : ℤ) (st : Value → List ℤ) (base : List ℤ) (v : Val Value) (go : Value → Val Meaning)
      → f.place ≤ mid
      → mid ≤ to
      → Comes i schedule k t m f fs n mid st v
      → ((a : Value) → v ≡ Gives a → FindsNear i schedule k t m (placed f mid (st a)) fs region r x n' to shift base (go a))
      → FindsNear i schedule k t m f fs region r x (n + n') to shift base (and_then v go)
  then_finds f n n' mid to shift st base (Gives a) go le up h g = near_after f n n' mid to shift (st a) base (go a) le h (g a refl)
  then_finds f n n' mid to shift st base (Raises e) go le up h g =
      let below = h.5 in
      (h.0, h.1, h.2, takes_more (behaviour i schedule) t frames_of (most_steps i) (suc (n + n')) (omega arith) h.3, h.4, omega (arith, below, up), h.6)
  then_finds f n n' mid to shift st base Meaningless go le up h g = tt

  -- the number of a part, and then an address
  pub then_found : (q : Subtype) (y : Shape) (f : Frame) (n n' mid to : ℕ) (shift : ℤ) (base : List ℤ) (v : Val Meaning) (go : Meaning → Val Meaning)
      → f.place ≤ mid
      → mid ≤ to
      → FindsNear i schedule k t m f fs region q y n mid shift base v
      → ((a : Value) (address : ℕ) → Lies (region_words i region m f) address a → has_shape y a ≡ true
      → Finds i schedule k t m (placed f mid ((pos address +ℤ shift) ∷ base)) fs region r x n' to base (go (IsObject q a)))
      → Finds i schedule k t m f fs region r x (n + n') to base (and_then v go)
  then_found q y f n n' mid to shift base (Gives (IsObject s a)) go le up h g =
      found_after f n n' mid to ((pos h.0 +ℤ shift) ∷ base) base (go (IsObject s a)) le h.4
      (subst (λ z. Finds i schedule k t m (placed f mid ((pos h.0 +ℤ shift) ∷ base)) fs region r x n' to base (go (IsObject z a))) (sym h.3) (g a h.0 h.1 h.2))
  then_found q y f n n' mid to shift base (Raises e) go le up h g =
      let below = h.5 in
      (h.0, h.1, h.2, takes_more (behaviour i schedule) t frames_of (most_steps i) (suc (n + n')) (omega arith) h.3, h.4, omega (arith, below, up), h.6)
  then_found q y f n n' mid to shift base Meaningless go le up h g = tt
  then_found q y f n n' mid to shift base v go le up h g = absurd h

-- ---- a component of an array at an index

at_most : (vs : Values) (n : ℕ) (w : Value) → element_at vs n ≡ Some w → n < count_values vs
at_most NoValues n w e = absurd cc
at_most (MoreValues v rest) zero w e = omega arith
at_most (MoreValues v rest) (suc n) w e = let h = at_most rest n w e in omega (arith, h)

one_value : (v : Val Value) (go : List Value → Val Meaning) → and_then (and_then v (λ a. Gives (a ∷ []))) go ≡ and_then v (λ a. go (a ∷ []))
one_value (Gives a) go = refl
one_value (Raises x) go = refl
one_value Meaningless go = refl

abbrev index_of : ExprTree → SelectorTree
index_of e = Arguments (MoreArguments (tree.Value e) NoArguments)

-- what a component is worth, in terms of its checked index
part_is : (calls : Calls) (p : Place) (s index element : Subtype) (many : ℕ) (vs : Values) (e : ExprTree) → form_at p.scope s.type_number ≡ Some (Arrays index many element)
    → part_with calls p (IsObject s (Array vs)) (index_of e) ≡ and_then (and_then (value_with calls p e) (passed index)) (λ a. applied calls p (IsObject s (Array vs)) (a ∷ []))
part_is calls p s index element many vs e form =
    ap (λ o. elim (wanted_by_index o) [ Some ts ↦ and_then (actuals_with calls p (MoreArguments (tree.Value e) NoArguments) ts) (applied calls p (IsObject s (Array vs))) | None ↦ Meaningless ]) form
    ∙ one_value (and_then (value_with calls p e) (passed index)) (applied calls p (IsObject s (Array vs)))

-- an array that stands in the words of a region, and is small enough for its addresses to be numbers
pub record StandsAsArray (ws : List ℤ) (address : ℕ) (x : Shape) (vs : Values) : Type 0 where
  pub lies : Lies ws address (Array vs)
  pub shaped : all_values (has_shape x) vs ≡ true
  pub few : count_values vs ≤ 65536
  pub small : length ws ≤ 65536

module _ (quiet : QuietStays) (sized : ValuesHaveWords) (places : PartsHavePlaces) (i : Sections) (library : Library) (sight : Sight) (region : Region) where
  -- Above the address of an array stands code for an index, checked, and what makes of it an address: then the address of the component stands there.
  pub finds_element : (from mid after : ℕ) (e : ExprTree) (s index element : Subtype) (many : ℕ) (x : Shape)
      → from ≤ mid
      → ComputesChecked i library sight from mid index e
      → ComesToNumber i library sight e
      → (shift next : ℤ)
      → IsClose shift
      → IsClose next
      → IsOffset i mid after index.first (words x) shift next
      → (calls : Calls) (left : ℕ)
      → Answers i library calls left
      → (schedule : List ScheduleLine) (k : Kernel) (t : ℕ) (m : Words) (f : Frame) (fs : List Frame) (p : Place) (base : List ℤ)
      → Calm k t
      → sight p (view_of i schedule k t m f fs)
      → left ≡ frames_above k t fs
      → form_at p.scope s.type_number ≡ Some (Arrays index many element)
      → (vs : Values) (address : ℕ)
      → StandsAsArray (region_words i region m f) address x vs
      → FindsNear i schedule k t m (placed f from ((pos address +ℤ shift) ∷ base)) fs region element x ((mid - from) + (after - mid)) after next base (part_with calls p (IsObject s (Array vs)) (index_of e))
  finds_element from mid after e s index element many x le inner number shift next close closer offset calls left answers schedule k t m f fs p base calm sees is form vs address stands =
      subst (λ v. FindsNear i schedule k t m (placed f from ((pos address +ℤ shift) ∷ base)) fs region element x ((mid - from) + (after - mid)) after next base v) (sym (part_is calls p s index element many vs e form))
      (then_finds quiet i schedule k t m calm fs region element x (placed f from ((pos address +ℤ shift) ∷ base)) (mid - from) (after - mid) mid after next (on ((pos address +ℤ shift) ∷ base)) base (and_then (value_with calls p e) (passed index)) go le (offset_up i mid after index.first (words x) shift next offset)
      (inner calls left answers schedule k t m f fs p ((pos address +ℤ shift) ∷ base) calm sees is)
      (λ v ev. at_value v ev))
    where
      go : Value → Val Meaning
      go v = applied calls p (IsObject s (Array vs)) (v ∷ [])

      W : List ℤ
      W = region_words i region m f

      at_number : (z : ℤ) → int_le index.first z ≡ true → FindsNear i schedule k t m (placed f mid (z ∷ (pos address +ℤ shift) ∷ base)) fs region element x (after - mid) after next base (go (Number z))
      at_number z above =
          let far = distance index.first z (z -ℤ index.first) above refl in
          subst (λ o. FindsNear i schedule k t m (placed f mid (z ∷ (pos address +ℤ shift) ∷ base)) fs region element x (after - mid) after next base (element_meaning o (Array vs) z)) (sym form)
          (subst (λ y. FindsNear i schedule k t m (placed f mid (z ∷ (pos address +ℤ shift) ∷ base)) fs region element x (after - mid) after next base (object_or_nothing (Some element) (element_at vs (unsigned_abs y)))) (sym far.1)
          (there far.0 far.1 (element_at vs far.0) refl))
        where
          there : (n : ℕ) → z -ℤ index.first ≡ pos n → (o : Option Value) → element_at vs n ≡ o → FindsNear i schedule k t m (placed f mid (z ∷ (pos address +ℤ shift) ∷ base)) fs region element x (after - mid) after next base (object_or_nothing (Some element) o)
          there n far None is = tt
          there n far (Some w) is =
              let lies = stands.lies in
              let held = told (nat_le (address + length (values_words vs)) (length W)) (take (length (values_words vs)) (drop address W)) (values_words vs) lies in
              let room = within (address + length (values_words vs)) (length W) held.0 in
              let fit = fits_in sized x vs n w stands.shaped is in
              let below = at_most vs n w is in
              let few = stands.few in
              let small = stands.small in (
                address + n * words x,
                subst (λ ws. Lies ws (address + n * words x) w) (sym (same_words i m region f mid (z ∷ (pos address +ℤ shift) ∷ base))) (element_lies sized places W address x vs n w stands.shaped is lies),
                element_shape x vs n w stands.shaped is,
                refl,
                indexes quiet i schedule k t m calm f fs mid after index.first z (words x) address n shift next base far (omega (arith, below, few))
                    (omega (arith, fit, room, small)) close closer offset,
              )

      at_value : (v : Value) → and_then (value_with calls p e) (passed index) ≡ Gives v → FindsNear i schedule k t m (placed f mid (on ((pos address +ℤ shift) ∷ base) v)) fs region element x (after - mid) after next base (go v)
      at_value v ev =
          let first = given (value_with calls p e) (passed index) v ev in
          let it = number calls p (view_of i schedule k t m f fs) first.0 answers.sound sees first.1 in
          let checked = passed_number index it.0 v (ap (passed index) (sym it.1) ∙ first.2) in
          subst (λ u. FindsNear i schedule k t m (placed f mid (on ((pos address +ℤ shift) ∷ base) u)) fs region element x (after - mid) after next base (go u)) (sym checked.0) (at_number it.0 checked.1)

-- ---- a component of a record

-- a component stands within its record
pub field_fits : (sized : ValuesHaveWords) (parts : Shapes) (fs : Fields) (name : List ℕ) (v : Value) (x : Shape) (place : ℕ)
    → have_shapes parts fs ≡ true → field_of fs name ≡ Some v → shape_in parts name ≡ Some x → field_offset parts name ≡ Some place
    → (place + length (value_words v) ≤ length (fields_words fs)) × (has_shape x v ≡ true)
field_fits sized NoShapes NoFields name v x place all there shape offset = absurd cc
field_fits sized NoShapes (MoreFields own w rest) name v x place all there shape offset = absurd cc
field_fits sized (MoreShapes own y more) NoFields name v x place all there shape offset = absurd cc
field_fits sized (MoreShapes own y more) (MoreFields other w rest) name v x place all there shape offset =
    let parts = and_parts (bytes_eq other own) (has_shape y w && have_shapes more rest) all in
    let inner = and_parts (has_shape y w) (have_shapes more rest) parts.1 in
    let same : other ≡ own = (bytes_eq-Decides other own).0 parts.0 in
    by (bytes_eq own name) refl (ap (λ n. bytes_eq n name) same) inner.0 inner.1 (λ n. field_fits sized more rest name v x n)
  where
    whole : length (fields_words (MoreFields other w rest)) ≡ length (value_words w) + length (fields_words rest)
    whole = joined (value_words w) (fields_words rest)

    by : (b : Bool) → bytes_eq own name ≡ b → bytes_eq other name ≡ bytes_eq own name → has_shape y w ≡ true → have_shapes more rest ≡ true
        → ((n : ℕ) → have_shapes more rest ≡ true → field_of rest name ≡ Some v → shape_in more name ≡ Some x → field_offset more name ≡ Some n → (n + length (value_words v) ≤ length (fields_words rest)) × (has_shape x v ≡ true))
        → (place + length (value_words v) ≤ length (fields_words (MoreFields other w rest))) × (has_shape x v ≡ true)
    by true is same first others again =
        let at_once : w ≡ v = unwrap (ap (λ b. if b then Some w else field_of rest name) (sym (same ∙ is)) ∙ there) in
        let shaped : y ≡ x = unwrap (ap (λ b. if b then Some y else shape_in more name) (sym is) ∙ shape) in
        let at : 0 ≡ place = unwrap (ap (λ b. if b then Some 0 else further (words y) (field_offset more name)) (sym is) ∙ offset) in
        let size = ap (λ u. length (value_words u)) at_once in
        let w0 = whole in
        (omega (arith, at, size, w0), subst (λ u. has_shape x u ≡ true) at_once (subst (λ z. has_shape z w ≡ true) shaped first))
      where
        unwrap : {A : Type 0} {a b : A} → Some a ≡ Some b → a ≡ b
        unwrap e = cc
    by false is same first others again =
        let later : field_of rest name ≡ Some v = ap (λ b. if b then Some w else field_of rest name) (sym (same ∙ is)) ∙ there in
        let shaped : shape_in more name ≡ Some x = ap (λ b. if b then Some y else shape_in more name) (sym is) ∙ shape in
        let at : further (words y) (field_offset more name) ≡ Some place = ap (λ b. if b then Some 0 else further (words y) (field_offset more name)) (sym is) ∙ offset in
        let size = (sized y w first).sized in
        let w0 = whole in
        behind (field_offset more name) refl at later shaped size w0
      where
        behind : (o : Option ℕ) → field_offset more name ≡ o → further (words y) o ≡ Some place → field_of rest name ≡ Some v → shape_in more name ≡ Some x → length (value_words w) ≡ words y
            → length (fields_words (MoreFields other w rest)) ≡ length (value_words w) + length (fields_words rest)
            → (place + length (value_words v) ≤ length (fields_words (MoreFields other w rest))) × (has_shape x v ≡ true)
        behind None is at later shaped size w0 = absurd cc
        behind (Some n) is at later shaped size w0 =
            let step = again n others later shaped is in
            let sum : words y + n ≡ place = cc in
            let low = step.0 in
            (omega (arith, sum, low, size, w0), step.1)

module _ (quiet : QuietStays) (sized : ValuesHaveWords) (places : PartsHavePlaces) (i : Sections) (library : Library) (sight : Sight) (region : Region) where
  module _ (schedule : List ScheduleLine) (k : Kernel) (t : ℕ) (m : Words) (calm : Calm k t) (f : Frame) (fs : List Frame) (base : List ℤ) where
    abbrev W : List ℤ
    W = region_words i region m f

    -- From the number of a record to that of its component.
    pub finds_field : (from after offset address : ℕ) (shift next : ℤ) (s : Subtype) (fields : Fields) (parts : Shapes) (components : List RecordComponent) (part : Subtype) (inner : Shape) (name : Identifier) (calls : Calls) (p : Place)
        → form_at p.scope s.type_number ≡ Some (Records components)
        → component_of components name.name ≡ Some part
        → shape_in parts name.name ≡ Some inner
        → field_offset parts name.name ≡ Some offset
        → IsAtOffset i from after offset shift next → IsClose next
        → Lies W address (Record fields) → have_shapes parts fields ≡ true → length W ≤ 65536
        → FindsNear i schedule k t m (placed f from ((pos address +ℤ shift) ∷ base)) fs region part inner (after - from) after next base (part_with calls p (IsObject s (Record fields)) (Component name))
    finds_field from after offset address shift next s fields parts components part inner name calls p form chosen shaped at moves close lies all small =
        subst (λ o. FindsNear i schedule k t m (placed f from ((pos address +ℤ shift) ∷ base)) fs region part inner (after - from) after next base (field_meaning o (Record fields) name.name)) (sym form)
        (subst (λ o. FindsNear i schedule k t m (placed f from ((pos address +ℤ shift) ∷ base)) fs region part inner (after - from) after next base (object_or_nothing o (field_of fields name.name))) (sym chosen) (there (field_of fields name.name) refl))
      where
        there : (o : Option Value) → field_of fields name.name ≡ o → FindsNear i schedule k t m (placed f from ((pos address +ℤ shift) ∷ base)) fs region part inner (after - from) after next base (object_or_nothing (Some part) o)
        there None is = tt
        there (Some w) is =
            let fit = field_fits sized parts fields name.name w inner offset all is shaped at in
            let held = told (nat_le (address + length (fields_words fields)) (length W)) (take (length (fields_words fields)) (drop address W)) (fields_words fields) lies in
            let room = within (address + length (fields_words fields)) (length W) held.0 in
            let inside = fit.0 in
            let law = places.fields parts fields name.name w offset all is at in
            let l = length (value_words w) in (
              address + offset,
              subst (λ ws. Lies ws (address + offset) w) (sym (same_words i m region f from ((pos address +ℤ shift) ∷ base)))
                  (ap (λ b. cond b (Some (take l (drop (address + offset) W))) None) (below ((address + offset) + l) (length W) (omega (arith, room, inside)))
                  ∙ ap Some
                  (ap (take l) (sym (drop_more W address offset)) ∙ sym (window (drop address W) offset l (length (fields_words fields)) inside) ∙ ap (λ y. take l (drop offset y)) held.1 ∙ law)),
              fit.1,
              refl,
              moves_on quiet i schedule k t m calm f fs from after offset address shift next base (omega (arith, room, inside, small)) close moves,
            )
