-- The words of a value with a part of it changed: those of the part are others, at its place, and all others stay.
use Rattle.std.proofs.Common.{◌≡◌, ℕ, zero, suc, ◌+◌, ◌*◌, ◌<◌, ◌≤◌, inl, inr, ℤ, List, [], ◌∷◌, ◌++◌, length, append_assoc, cond, Option, Some, None, Bool, true, false, ◌&&◌, refl, sym, ap, ◌∙◌, subst, arith}
use Rattle.std.specs.Prelude.{bytes_eq, nat_eq, take, drop, if◌then◌else◌}
use Rattle.std.proofs.lemmas.Bool.{and_parts}
use Rattle.std.proofs.lemmas.Slice.Eq.{bytes_eq-Decides}
use Rattle.types.specs.Laws.{ValuesHaveWords}
use Rattle.types.specs.Layouts.{field_offset, further}
use Rattle.types.specs.Shapes.{Shape, Shapes, NoShapes, MoreShapes, Repeated, Grouped, all_values, count_values, has_shape, have_shapes, fields_words, shape_or_none, value_words, values_words, words, words_of_parts}
use Rattle.types.specs.Values.{Value, Number, Truth, Array, Record, Values, NoValues, MoreValues, Fields, NoFields, MoreFields}
use Rattle.expr_soundness.specs.meaning.specs.Targets.{changed_element, changed_field, changed_part, with_part}
use Rattle.expr_soundness.specs.meaning.specs.Works.{Part, Element, Field}
use Rattle.expr_code.specs.Locating.{shape_in}
use Rattle.expr_code.specs.Naming.{Lies}
use Rattle.part_code.specs.Layout.{AreApart}
use Rattle.part_code.specs.Parts.{ShapeHasPart, HasParts, inner, part_offset, part_shape, place_or_none, step}
use Rattle.part_code.proofs.Words.{IsWritten, below, lies_there, lies_within, with_length, with_words, written}

-- with one part more
pub further_offset : (x : Shape) (parts : List Part) (part : Part) → part_offset x (parts ++ part ∷ []) ≡ part_offset x parts + step (part_shape x parts) part
further_offset x [] part = omega arith
further_offset x (one ∷ parts) part = let h = further_offset (inner x one) parts part in omega (arith, h)

pub further_shape : (x : Shape) (parts : List Part) (part : Part) → part_shape x (parts ++ part ∷ []) ≡ inner (part_shape x parts) part
further_shape x [] part = refl
further_shape x (one ∷ parts) part = further_shape (inner x one) parts part

pub further_part : (x : Shape) (parts : List Part) (part : Part) → HasParts x parts → ShapeHasPart (part_shape x parts) part → HasParts x (parts ++ part ∷ [])
further_part x [] part h k = (k, tt)
further_part x (one ∷ parts) part h k = (h.0, further_part (inner x one) parts part h.1 k)

-- a part lies within the whole
times_fit : (k n w : ℕ) → k < n → k * w + w ≤ n * w
times_fit zero zero w h = absurd (omega (arith, h))
times_fit zero (suc n) w h = let e = next n w in let z = none w in omega (arith, e, z)
  where
    next : (n w : ℕ) → suc n * w ≡ w + n * w
    next n w = omega arith

    none : (w : ℕ) → 0 * w ≡ 0
    none w = omega arith
times_fit (suc k) zero w h = absurd (omega (arith, h))
times_fit (suc k) (suc n) w h = let e = next n w in let f = next k w in let i = times_fit k n w (omega (arith, h)) in omega (arith, e, f, i)
  where
    next : (n w : ℕ) → suc n * w ≡ w + n * w
    next n w = omega arith

-- what is told of a component is that of the first one of its name
unwrap : {A : Type 0} (a b : A) → Some a ≡ Some b → a ≡ b
unwrap {A} a b e = let f : Option A → A = λ o. elim o [ Some y ↦ y | None ↦ a ] in ap f e

behind : (w : ℕ) (o : Option ℕ) (place : ℕ) → further w o ≡ Some place → (n : ℕ) × (o ≡ Some n) × (w + n ≡ place)
behind w (Some n) place h = (n, refl, unwrap (w + n) place h)
behind w None place h = cc

field_fits : (parts : Shapes) (name : List ℕ) (x : Shape) (o : ℕ) → shape_in parts name ≡ Some x → field_offset parts name ≡ Some o
    → o + words x ≤ words_of_parts parts
field_fits NoShapes name x o h k = cc
field_fits (MoreShapes own y more) name x o h k = by_test (bytes_eq own name) h k (field_fits more name x)
  where
    by_test : (b : Bool) → (if b then Some y else shape_in more name) ≡ Some x → (if b then Some 0 else further (words y) (field_offset more name)) ≡ Some o
        → ((n : ℕ) → shape_in more name ≡ Some x → field_offset more name ≡ Some n → n + words x ≤ words_of_parts more)
        → o + words x ≤ words y + words_of_parts more
    by_test true h k later = let e = ap words (unwrap y x h) in let z = unwrap 0 o k in omega (arith, e, z)
    by_test false h k later = let m = behind (words y) (field_offset more name) o k in let i = later m.0 h m.1 in let e = m.2 in omega (arith, i, e)

step_fits : (x : Shape) (part : Part) → ShapeHasPart x part → step x part + words (inner x part) ≤ words x
step_fits (Repeated n x) (Element k) h = times_fit k n (words x) h
step_fits (Grouped parts) (Field name) h =
    let f = field_fits parts name h.0 h.1 h.2 h.3 in
    let o = ap place_or_none h.3 in
    let w = ap (λ y. words (shape_or_none y)) h.2 in
    omega (arith, f, o, w)
step_fits x part h = absurd h

pub part_fits : (x : Shape) (parts : List Part) → HasParts x parts → part_offset x parts + words (part_shape x parts) ≤ words x
part_fits x [] h = omega arith
part_fits x (part ∷ parts) h =
    let s = step_fits x part h.0 in
    let r = part_fits (inner x part) parts h.1 in
    omega (arith, s, r)

-- ---- words put in parts of lists

next_with : (a : ℕ) (new : List ℤ) (w : ℤ) (ws : List ℤ) → with_words (suc a) new (w ∷ ws) ≡ w ∷ with_words a new ws
next_with a new w ws = ap (λ n. w ∷ (take a ws ++ new ++ drop n (w ∷ ws))) (up a (length new))
  where
    up : (a n : ℕ) → suc a + n ≡ suc (a + n)
    up a n = omega arith

first_with : (new ws : List ℤ) → with_words zero new ws ≡ new ++ drop (length new) ws
first_with new ws = ap (λ n. new ++ drop n ws) (up (length new))
  where
    up : (n : ℕ) → 0 + n ≡ n
    up n = omega arith

drop_front : (n : ℕ) (xs ys : List ℤ) → n ≤ length xs → drop n (xs ++ ys) ≡ drop n xs ++ ys
drop_front zero xs ys h = refl
drop_front (suc n) [] ys h = absurd (omega (arith, h))
drop_front (suc n) (x ∷ xs) ys h = drop_front n xs ys (omega (arith, h))

with_front : (a : ℕ) (new xs ys : List ℤ) → a + length new ≤ length xs → with_words a new (xs ++ ys) ≡ with_words a new xs ++ ys
with_front zero new xs ys h =
    first_with new (xs ++ ys) ∙ ap (λ l. new ++ l) (drop_front (length new) xs ys (omega (arith, h)))
    ∙ sym (append_assoc new (drop (length new) xs) ys)
    ∙ ap (λ l. l ++ ys) (sym (first_with new xs))
with_front (suc a) new [] ys h = absurd (omega (arith, h))
with_front (suc a) new (x ∷ xs) ys h =
    next_with a new x (xs ++ ys) ∙ ap (λ l. x ∷ l) (with_front a new xs ys (omega (arith, h))) ∙ ap (λ l. l ++ ys) (sym (next_with a new x xs))

with_rest : (xs : List ℤ) (c : ℕ) (new ys : List ℤ) (n : ℕ) → n ≡ length xs + c → with_words n new (xs ++ ys) ≡ xs ++ with_words c new ys
with_rest [] c new ys n e = let same : n ≡ c = omega (arith, e) in ap (λ m. with_words m new ys) same
with_rest (x ∷ xs) c new ys zero e = absurd (omega (arith, e))
with_rest (x ∷ xs) c new ys (suc n) e = next_with n new x (xs ++ ys) ∙ ap (λ l. x ∷ l) (with_rest xs c new ys n (omega (arith, e)))

empty : (ws : List ℤ) → drop (length ws) ws ≡ []
empty [] = refl
empty (w ∷ ws) = empty ws

nothing_more : (ws : List ℤ) → ws ++ [] ≡ ws
nothing_more [] = refl
nothing_more (w ∷ ws) = ap (λ l. w ∷ l) (nothing_more ws)

-- all words are others
with_all : (new ws : List ℤ) → length new ≡ length ws → with_words zero new ws ≡ new
with_all new ws e = first_with new ws ∙ ap (λ n. new ++ drop n ws) e ∙ ap (λ l. new ++ l) (empty ws) ∙ nothing_more new

-- ---- values with a part changed

-- what a change of a component does
pub record Changes (x : Shape) (b : ℕ) (new : List ℤ) (change : Value → Value) : Type 0 where
  pub fits : b + length new ≤ words x
  pub shaped : (v : Value) → has_shape x v ≡ true → has_shape x (change v) ≡ true
  pub put : (v : Value) → has_shape x v ≡ true → value_words (change v) ≡ with_words b new (value_words v)

module _ (sized : ValuesHaveWords) (b : ℕ) (new : List ℤ) (change : Value → Value) where
  module _ (x : Shape) (c : Changes x b new change) where
    element_shapes : (vs : Values) (k : ℕ) → all_values (has_shape x) vs ≡ true → all_values (has_shape x) (changed_element k change vs) ≡ true
    element_shapes NoValues k h = refl
    element_shapes (MoreValues v rest) zero h =
        let parts = and_parts (has_shape x v) (all_values (has_shape x) rest) h in
        ap (λ q. q && all_values (has_shape x) rest) (c.shaped v parts.0) ∙ parts.1
    element_shapes (MoreValues v rest) (suc k) h =
        let parts = and_parts (has_shape x v) (all_values (has_shape x) rest) h in
        ap (λ q. q && all_values (has_shape x) (changed_element k change rest)) parts.0 ∙ element_shapes rest k parts.1

    count_same : (vs : Values) (k : ℕ) → count_values (changed_element k change vs) ≡ count_values vs
    count_same NoValues k = refl
    count_same (MoreValues v rest) zero = refl
    count_same (MoreValues v rest) (suc k) = ap suc (count_same rest k)

    element_words : (vs : Values) (k : ℕ) → all_values (has_shape x) vs ≡ true → k < count_values vs
        → values_words (changed_element k change vs) ≡ with_words (k * words x + b) new (values_words vs)
    element_words NoValues k h less = absurd (omega (arith, less))
    element_words (MoreValues v rest) zero h less =
        let parts = and_parts (has_shape x v) (all_values (has_shape x) rest) h in
        let size = (sized x v parts.0).sized in
        let f = c.fits in
        let none : b ≡ 0 * words x + b = omega arith in
        ap (λ l. l ++ values_words rest) (c.put v parts.0)
        ∙ sym (with_front b new (value_words v) (values_words rest) (omega (arith, f, size)))
        ∙ ap (λ n. with_words n new (value_words v ++ values_words rest)) none
    element_words (MoreValues v rest) (suc k) h less =
        let parts = and_parts (has_shape x v) (all_values (has_shape x) rest) h in
        let size = (sized x v parts.0).sized in
        let next : suc k * words x ≡ words x + k * words x = omega arith in
        ap (λ l. value_words v ++ l) (element_words rest k parts.1 (omega (arith, less)))
        ∙ sym (with_rest (value_words v) (k * words x + b) new (values_words rest) (suc k * words x + b) (omega (arith, next, size)))

  fields_both : (parts : Shapes) (fs : Fields) (name : List ℕ) (x : Shape) (o : ℕ) → Changes x b new change → have_shapes parts fs ≡ true
      → shape_in parts name ≡ Some x → field_offset parts name ≡ Some o
      → (have_shapes parts (changed_field name change fs) ≡ true) × (fields_words (changed_field name change fs) ≡ with_words (o + b) new (fields_words fs))
  fields_both NoShapes fs name x o c h is at = cc
  fields_both (MoreShapes own y more) NoFields name x o c h is at = cc
  fields_both (MoreShapes own y more) (MoreFields other w rest) name x o c h is at =
      subst (λ q. Both (if q then MoreFields other (change w) rest else MoreFields other w (changed_field name change rest))) (ap (λ n. bytes_eq n name) (sym same))
      (by_test (bytes_eq own name) is at (λ n. fields_both more rest name x n c both.1))
    where
      parts : (bytes_eq other own ≡ true) × ((has_shape y w && have_shapes more rest) ≡ true)
      parts = and_parts (bytes_eq other own) (has_shape y w && have_shapes more rest) h

      both : (has_shape y w ≡ true) × (have_shapes more rest ≡ true)
      both = and_parts (has_shape y w) (have_shapes more rest) parts.1

      same : other ≡ own
      same = (bytes_eq-Decides other own).0 parts.0

      -- the record with this first component and these others
      together : (u : Value) (others : Fields) → has_shape y u ≡ true → have_shapes more others ≡ true
          → have_shapes (MoreShapes own y more) (MoreFields other u others) ≡ true
      together u others p q =
          ap (λ a. a && (has_shape y u && have_shapes more others)) parts.0 ∙ ap (λ a. a && have_shapes more others) p ∙ q

      size : length (value_words w) ≡ words y
      size = (sized y w both.0).sized

      Both : Fields → Type 0
      Both after = (have_shapes (MoreShapes own y more) after ≡ true) × (fields_words after ≡ with_words (o + b) new (value_words w ++ fields_words rest))

      by_test : (a : Bool) → (if a then Some y else shape_in more name) ≡ Some x → (if a then Some 0 else further (words y) (field_offset more name)) ≡ Some o
          → ((n : ℕ) → shape_in more name ≡ Some x → field_offset more name ≡ Some n
          → (have_shapes more (changed_field name change rest) ≡ true) × (fields_words (changed_field name change rest) ≡ with_words (n + b) new (fields_words rest)))
          → Both (if a then MoreFields other (change w) rest else MoreFields other w (changed_field name change rest))
      by_test true k l later =
          let d : Changes y b new change = subst (λ z. Changes z b new change) (sym (unwrap y x k)) c in
          let f = d.fits in
          let zero_is = unwrap 0 o l in
          let at_once : b ≡ o + b = omega (arith, zero_is) in (
            together (change w) rest (d.shaped w both.0) both.1,
            ap (λ q. q ++ fields_words rest) (d.put w both.0)
                ∙ sym (with_front b new (value_words w) (fields_words rest) (omega (arith, f, size)))
                ∙ ap (λ n. with_words n new (value_words w ++ fields_words rest)) at_once,
          )
      by_test false k l later =
          let m = behind (words y) (field_offset more name) o l in
          let e = m.2 in
          let r = later m.0 k m.1 in (
            together w (changed_field name change rest) both.0 r.0,
            ap (λ q. value_words w ++ q) r.1 ∙ sym (with_rest (value_words w) (m.0 + b) new (fields_words rest) (o + b) (omega (arith, e, size))),
          )

  -- one part is changed
  part_changed : (x : Shape) (part : Part) → ShapeHasPart x part → Changes (inner x part) b new change → (v : Value) → has_shape x v ≡ true
      → (has_shape x (changed_part part change v) ≡ true) × (value_words (changed_part part change v) ≡ with_words (step x part + b) new (value_words v))
  part_changed (Repeated n x) (Element k) has c (Array vs) h =
      let parts = and_parts (nat_eq (count_values vs) n) (all_values (has_shape x) vs) h in
      let counted : count_values vs ≡ n = equal (count_values vs) n parts.0 in (
        ap (λ m. nat_eq m n && all_values (has_shape x) (changed_element k change vs)) (count_same x c vs k)
            ∙ ap (λ a. a && all_values (has_shape x) (changed_element k change vs)) parts.0
            ∙ element_shapes x c vs k parts.1,
        element_words x c vs k parts.1 (omega (arith, has, counted)),
      )
    where
      equal : (a m : ℕ) → nat_eq a m ≡ true → a ≡ m
      equal a m e = grind (arith, e)
  part_changed (Repeated n x) (Element k) has c (Number z) h = cc
  part_changed (Repeated n x) (Element k) has c (Truth q) h = cc
  part_changed (Repeated n x) (Element k) has c (Record fs) h = cc
  part_changed (Grouped parts) (Field name) has c (Record fs) h =
      let d : Changes has.0 b new change = subst (λ z. Changes (shape_or_none z) b new change) has.2 c in
      let r = fields_both parts fs name has.0 has.1 d h has.2 has.3 in
      (r.0, r.1 ∙ ap (λ o. with_words (place_or_none o + b) new (fields_words fs)) (sym has.3))
  part_changed (Grouped parts) (Field name) has c (Number z) h = cc
  part_changed (Grouped parts) (Field name) has c (Truth q) h = cc
  part_changed (Grouped parts) (Field name) has c (Array vs) h = cc
  part_changed x part has c v h = absurd has

-- a part of a part is changed
pub parts_changed : ValuesHaveWords → (x : Shape) (parts : List Part) (z : Value) → HasParts x parts → has_shape (part_shape x parts) z ≡ true
    → Changes x (part_offset x parts) (value_words z) (with_part parts z)
parts_changed sized x [] z has shaped =
    let size = (sized x z shaped).sized in
    record {
      fits = omega (arith, size);
      shaped = λ v h. shaped;
      put = λ v h. sym (with_all (value_words z) (value_words v) (size ∙ sym (sized x v h).sized));
    }
parts_changed sized x (part ∷ parts) z has shaped =
    let c = parts_changed sized (inner x part) parts z has.1 shaped in
    let f = part_fits x (part ∷ parts) has in
    let size = (sized (part_shape x (part ∷ parts)) z shaped).sized in
    record {
      fits = omega (arith, f, size);
      shaped = λ v h. (part_changed sized (part_offset (inner x part) parts) (value_words z) (with_part parts z) x part has.0 c v h).0;
      put = λ v h. (part_changed sized (part_offset (inner x part) parts) (value_words z) (with_part parts z) x part has.0 c v h).1;
    }

-- ---- among the words of a region

drop_with : (o a : ℕ) (new ws : List ℤ) → o ≤ length ws → (n : ℕ) → n ≡ o + a → drop o (with_words n new ws) ≡ with_words a new (drop o ws)
drop_with zero a new ws le n e = let same : n ≡ a = omega (arith, e) in ap (λ m. with_words m new ws) same
drop_with (suc o) a new [] le n e = absurd (omega (arith, le))
drop_with (suc o) a new (w ∷ ws) le zero e = absurd (omega (arith, e))
drop_with (suc o) a new (w ∷ ws) le (suc n) e = ap (drop (suc o)) (next_with n new w ws) ∙ drop_with o a new ws (omega (arith, le)) n (omega (arith, e))

take_all : (xs ys : List ℤ) (n : ℕ) → n ≡ length xs → take n (xs ++ ys) ≡ xs
take_all [] ys zero e = refl
take_all [] ys (suc n) e = absurd (omega (arith, e))
take_all (x ∷ xs) ys zero e = absurd (omega (arith, e))
take_all (x ∷ xs) ys (suc n) e = ap (λ l. x ∷ l) (take_all xs ys n (omega (arith, e)))

both_parts : (n : ℕ) (ws : List ℤ) → take n ws ++ drop n ws ≡ ws
both_parts zero ws = refl
both_parts (suc n) [] = refl
both_parts (suc n) (w ∷ ws) = ap (λ l. w ∷ l) (both_parts n ws)

take_with : (l a : ℕ) (new ws : List ℤ) → a + length new ≤ length (take l ws) → length (take l ws) ≡ l → take l (with_words a new ws) ≡ with_words a new (take l ws)
take_with l a new ws fits long =
    ap (λ q. take l (with_words a new q)) (sym (both_parts l ws))
    ∙ ap (take l) (with_front a new (take l ws) (drop l ws) fits)
    ∙ take_all (with_words a new (take l ws)) (drop l ws) l (sym long ∙ sym (with_length a new (take l ws) fits))

-- The part's words are put at its place: then the words of the whole value with that part changed stand there, and all others stay.
pub part_written : ValuesHaveWords → (ws : List ℤ) (o : ℕ) (x : Shape) (parts : List Part) (old z : Value) → HasParts x parts → has_shape x old ≡ true
    → has_shape (part_shape x parts) z ≡ true → Lies ws o old
    → IsWritten ws (with_words (o + part_offset x parts) (value_words z) ws) o (with_part parts z old)
part_written sized ws o x parts old z has shaped fit lies =
    let c = parts_changed sized x parts z has fit in
    let f = c.fits in
    let size = (sized x old shaped).sized in
    let room = lies_within ws o old lies in
    let new = with_part parts z old in
    let wide = (sized x new (c.shaped old shaped)).sized in
    let put = written ws (o + part_offset x parts) z (omega (arith, f, size, room)) in
    let long = put.long in
    record {
      long = long;
      there = there (omega (arith, wide, size, room));
      others = λ b u apart h. put.others b u (within b (length (value_words u)) f wide apart) h;
    }
  where
    a : ℕ
    a = part_offset x parts

    within : (b n : ℕ) → a + length (value_words z) ≤ words x → length (value_words (with_part parts z old)) ≡ words x
        → AreApart o (length (value_words (with_part parts z old))) b n → AreApart (o + a) (length (value_words z)) b n
    within b n f wide (inl h) = inl (omega (arith, f, wide, h))
    within b n f wide (inr h) = inr (omega (arith, h))

    there : o + length (value_words (with_part parts z old)) ≤ length ws → Lies (with_words (o + a) (value_words z) ws) o (with_part parts z old)
    there room =
        let c = parts_changed sized x parts z has fit in
        let f = c.fits in
        let size = (sized x old shaped).sized in
        let wide = (sized x (with_part parts z old) (c.shaped old shaped)).sized in
        let n = length (value_words (with_part parts z old)) in
        let after = with_words (o + a) (value_words z) ws in
        let same : n ≡ length (value_words old) = wide ∙ sym size in
        let here = lies_there ws o old lies in
        let long = with_length (o + a) (value_words z) ws (omega (arith, f, wide, room)) in
        let taken : take n (drop o ws) ≡ value_words old = ap (λ q. take q (drop o ws)) same ∙ here in
        let many : length (take n (drop o ws)) ≡ n = ap length taken ∙ sym same in
        ap (λ q. cond q (Some (take n (drop o after))) None) (below (o + n) (length after) (omega (arith, long, room)))
        ∙ ap Some
        (ap (take n) (drop_with o a (value_words z) ws (omega (arith, room)) (o + a) refl)
        ∙ take_with n a (value_words z) (drop o ws) (omega (arith, f, many, wide)) many
        ∙ ap (with_words a (value_words z)) taken
        ∙ sym (c.put old shaped))
