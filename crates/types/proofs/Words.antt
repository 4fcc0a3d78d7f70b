-- Words of values and of objects.
use Rattle.std.proofs.Common.{◌≡◌, ℕ, zero, suc, ◌+◌, ◌*◌, List, [], ◌∷◌, ◌++◌, length, take, drop, Bool, true, false, ◌&&◌, refl, sym, ap, ◌∙◌, arith}
use Rattle.std.specs.Prelude.{ℤ, nat_eq, bytes_eq}
use Rattle.std.proofs.lemmas.List.{length-append}
use Rattle.std.proofs.lemmas.Bool.{eqb-true, eq-eqb}
use Rattle.std.proofs.lemmas.Slice.Eq.{bytes_eq-Decides}
use Rattle.std.proofs.Math.Nat.{suc-mul}
use Rattle.std.specs.Cmp.Derive.{both_true}
use Rattle.types.specs.Laws.{InitialValuesHaveShape, ValuesHaveWords}
use Rattle.std.proofs.Math.Seq.{take-append_seam, drop-append_seam}
use Rattle.types.specs.Values.{Value, Number, Truth, Array, Record, Values, NoValues, MoreValues, Fields, NoFields, MoreFields}
use Rattle.types.specs.Shapes.{Shape, Ranged, Logical, Timed, Repeated, Grouped, Shapeless, Shapes, NoShapes, MoreShapes, all_values, count_values, has_shape, have_shapes, initial_of, initial_fields, repeated, value_words, values_words, fields_words, value_back, values_back, fields_back, leading_word, is_set, word_of, words, words_of_parts}

pub both_left : (a b : Bool) → (a && b) ≡ true → a ≡ true
both_left true b h = refl
both_left false b h = h

pub both_right : (a b : Bool) → (a && b) ≡ true → b ≡ true
both_right true b h = h
both_right false b h = cc

-- ---- as many words as the shape has

more_words : (n w : ℕ) → w + n * w ≡ suc n * w
more_words n w = let e : w + n * w ≡ n * w + w = omega arith in e ∙ sym (suc-mul n w)

sized_values : (x : Shape) → ((v : Value) → has_shape x v ≡ true → length (value_words v) ≡ words x) → (vs : Values) → all_values (has_shape x) vs ≡ true → length (values_words vs) ≡ count_values vs * words x
sized_values x ok NoValues h = omega arith
sized_values x ok (MoreValues v rest) h =
    let here = ok v (both_left (has_shape x v) (all_values (has_shape x) rest) h) in
    let there = sized_values x ok rest (both_right (has_shape x v) (all_values (has_shape x) rest) h) in
    length-append (value_words v) (values_words rest) ∙ (λ j. here j + there j) ∙ more_words (count_values rest) (words x)

mutual
  pub sized : (x : Shape) (v : Value) → has_shape x v ≡ true → length (value_words v) ≡ words x
  sized (Ranged first) (Number z) h = refl
  sized Logical (Truth b) h = refl
  sized Timed (Number z) h = refl
  sized (Repeated n x) (Array vs) h =
      let count = both_left (nat_eq (count_values vs) n) (all_values (has_shape x) vs) h in
      let all = both_right (nat_eq (count_values vs) n) (all_values (has_shape x) vs) h in
      sized_values x (sized x) vs all ∙ ap (λ m. m * words x) (eqb-true (count_values vs) n count)
  sized (Grouped parts) (Record fs) h = sized_fields parts fs h
  sized Shapeless (Record NoFields) h = refl
  sized x v h = cc

  sized_fields : (parts : Shapes) (fs : Fields) → have_shapes parts fs ≡ true → length (fields_words fs) ≡ words_of_parts parts
  sized_fields NoShapes NoFields h = refl
  sized_fields (MoreShapes name x parts) (MoreFields own v fs) h =
      let rest = both_right (bytes_eq own name) (has_shape x v && have_shapes parts fs) h in
      let here = sized x v (both_left (has_shape x v) (have_shapes parts fs) rest) in
      let there = sized_fields parts fs (both_right (has_shape x v) (have_shapes parts fs) rest) in
      length-append (value_words v) (fields_words fs) ∙ (λ j. here j + there j)
  sized_fields parts fs h = cc

-- ---- and back

pub taken : (w : ℕ) (xs ys : List ℤ) → length xs ≡ w → take w (xs ++ ys) ≡ xs
taken w xs ys e = ap (λ m. take m (xs ++ ys)) (sym e) ∙ take-append_seam xs ys

dropped : (w : ℕ) (xs ys : List ℤ) → length xs ≡ w → drop w (xs ++ ys) ≡ ys
dropped w xs ys e = ap (λ m. drop m (xs ++ ys)) (sym e) ∙ drop-append_seam xs ys

pub same_name : (a b : List ℕ) → bytes_eq a b ≡ true → a ≡ b
same_name a b h = (bytes_eq-Decides a b).0 h

back_values : (x : Shape) → ((v : Value) → has_shape x v ≡ true → value_back x (value_words v) ≡ v) → (vs : Values) → all_values (has_shape x) vs ≡ true → values_back (count_values vs) (words x) (value_back x) (values_words vs) ≡ vs
back_values x ok NoValues h = refl
back_values x ok (MoreValues v rest) h =
    let own = both_left (has_shape x v) (all_values (has_shape x) rest) h in
    let here = ap (value_back x) (taken (words x) (value_words v) (values_words rest) (sized x v own)) ∙ ok v own in
    let there =
    ap (values_back (count_values rest) (words x) (value_back x)) (dropped (words x) (value_words v) (values_words rest) (sized x v own))
    ∙ back_values x ok rest (both_right (has_shape x v) (all_values (has_shape x) rest) h) in (
    λ j. MoreValues (here j) (there j)
    )

truth_back : (b : Bool) → is_set (leading_word (word_of b ∷ [])) ≡ b
truth_back true = refl
truth_back false = refl

mutual
  pub back : (x : Shape) (v : Value) → has_shape x v ≡ true → value_back x (value_words v) ≡ v
  back (Ranged first) (Number z) h = refl
  back Logical (Truth b) h = ap Truth (truth_back b)
  back Timed (Number z) h = refl
  back (Repeated n x) (Array vs) h =
      let count = both_left (nat_eq (count_values vs) n) (all_values (has_shape x) vs) h in
      let all = both_right (nat_eq (count_values vs) n) (all_values (has_shape x) vs) h in
      ap (λ m. Array (values_back m (words x) (value_back x) (values_words vs))) (sym (eqb-true (count_values vs) n count)) ∙ ap Array (back_values x (back x) vs all)
  back (Grouped parts) (Record fs) h = ap Record (back_fields parts fs h)
  back Shapeless (Record NoFields) h = refl
  back x v h = cc

  back_fields : (parts : Shapes) (fs : Fields) → have_shapes parts fs ≡ true → fields_back parts (fields_words fs) ≡ fs
  back_fields NoShapes NoFields h = refl
  back_fields (MoreShapes name x parts) (MoreFields own v fs) h =
      let rest = both_right (bytes_eq own name) (has_shape x v && have_shapes parts fs) h in
      let own_shape = both_left (has_shape x v) (have_shapes parts fs) rest in
      let same = same_name own name (both_left (bytes_eq own name) (has_shape x v && have_shapes parts fs) h) in
      let here = ap (value_back x) (taken (words x) (value_words v) (fields_words fs) (sized x v own_shape)) ∙ back x v own_shape in
      let there = ap (fields_back parts) (dropped (words x) (value_words v) (fields_words fs) (sized x v own_shape)) ∙ back_fields parts fs (both_right (has_shape x v) (have_shapes parts fs) rest) in (
      λ j. MoreFields (sym same j) (here j) (there j)
      )
  back_fields parts fs h = cc

pub values_have_words : ValuesHaveWords
values_have_words x v h = record { sized = sized x v h; back = back x v h }

-- ---- initial values

count_repeated : (n : ℕ) (v : Value) → count_values (repeated n v) ≡ n
count_repeated zero v = refl
count_repeated (suc n) v = ap suc (count_repeated n v)

all_repeated : (test : Value → Bool) (n : ℕ) (v : Value) → test v ≡ true → all_values test (repeated n v) ≡ true
all_repeated test zero v h = refl
all_repeated test (suc n) v h = both_true h (all_repeated test n v h)

mutual
  pub initial_has_shape : InitialValuesHaveShape
  initial_has_shape (Ranged first) = refl
  initial_has_shape Logical = refl
  initial_has_shape Timed = refl
  initial_has_shape (Repeated n x) = both_true (eq-eqb (count_values (repeated n (initial_of x))) n (count_repeated n (initial_of x))) (all_repeated (has_shape x) n (initial_of x) (initial_has_shape x))
  initial_has_shape (Grouped parts) = initial_have_shapes parts
  initial_has_shape Shapeless = refl

  initial_have_shapes : (parts : Shapes) → have_shapes parts (initial_fields parts) ≡ true
  initial_have_shapes NoShapes = refl
  initial_have_shapes (MoreShapes name x rest) = both_true ((bytes_eq-Decides name name).1 refl) (both_true (initial_has_shape x) (initial_have_shapes rest))
