-- Parts of a text between bars, one after the other.
use Rattle.std.proofs.Common.{◌≡◌, ℕ, suc, ◌+◌, ◌<◌, ◌≤◌, List, [], ◌∷◌, ◌++◌, length, take, drop, Option, Some, None, Bool, true, false, cond, refl, ap, subst, ◌∙◌, arith, append_assoc, rules}
use Rattle.std.specs.Prelude.{◌-◌, nat_lt, not, position}
use Rattle.std.specs.List.{onto_first, position_or_len, prefix_len, slice_split}
use Rattle.std.proofs.Math.Seq.{take-length}
use Rattle.std.proofs.lemmas.List.{length-drop}
use Rattle.std.proofs.lemmas.List.Splits.{slice_split-cons_no, slice_split_first}
use Rattle.choices.specs.Texts.{in_front}
use Rattle.choices.specs.declared.ranges.Range.{Range}

-- what was read, and what is still to be read
abbrev pub joined : List Range → Option (List Range) → Option (List Range)
joined done None = None
joined done (Some more) = Some (done ++ more)

abbrev pub size_of : Option (List ℕ) → ℕ
size_of None = 0
size_of (Some text) = suc (length text)

pub joined_more : (done : List Range) (r : Range) (o : Option (List Range)) → joined (done ++ r ∷ []) o ≡ joined done (in_front r o)
joined_more done r None = refl
joined_more done r (Some more) = ap Some (append_assoc done (r ∷ []) more)

pub joined_none : (done : List Range) (o : Option (List Range)) → o ≡ None → joined done o ≡ None
joined_none done o e = ap (joined done) e

pub split_at : (p : ℕ → Bool) (xs : List ℕ) (at : ℕ) → position p xs ≡ Some at → slice_split p xs ≡ take at xs ∷ slice_split p (drop (at + 1) xs)
split_at p xs at e = by (nat_lt (position_or_len p xs) (length xs)) refl e
  where
    by : (b : Bool) → nat_lt (position_or_len p xs) (length xs) ≡ b → cond b (Some (position_or_len p xs)) None ≡ Some at
        → slice_split p xs ≡ take at xs ∷ slice_split p (drop (at + 1) xs)
    by true t f =
        let same : position_or_len p xs ≡ at = search (rules, f) in
        let less : position_or_len p xs < length xs = search (rules, t) in
        subst (λ n. slice_split p xs ≡ take n xs ∷ slice_split p (drop (n + 1) xs)) same (slice_split_first p xs 0 less)
    by false t f = absurd cc

alone : (p : ℕ → Bool) (xs : List ℕ) → length xs ≤ prefix_len (λ x. not (p x)) xs → slice_split p xs ≡ xs ∷ []
alone p [] h = refl
alone p (x ∷ xs) h = by (p x) refl h (alone p xs)
  where
    by : (b : Bool) → p x ≡ b → suc (length xs) ≤ cond (not b) (1 + prefix_len (λ y. not (p y)) xs) 0
        → (length xs ≤ prefix_len (λ y. not (p y)) xs → slice_split p xs ≡ xs ∷ []) → slice_split p (x ∷ xs) ≡ (x ∷ xs) ∷ []
    by true e h go = absurd (omega (arith, h))
    by false e h go = slice_split-cons_no p x xs e ∙ ap (onto_first x) (go (omega (arith, h)))

pub split_alone : (p : ℕ → Bool) (xs : List ℕ) → position p xs ≡ None → slice_split p xs ≡ xs ∷ []
split_alone p xs e = by (nat_lt (position_or_len p xs) (length xs)) refl e
  where
    by : (b : Bool) → nat_lt (position_or_len p xs) (length xs) ≡ b → cond b (Some (position_or_len p xs)) None ≡ None → slice_split p xs ≡ xs ∷ []
    by true t f = absurd cc
    by false t f = let le : length xs ≤ position_or_len p xs = search (rules, t) in alone p xs le

pub place_within : (p : ℕ → Bool) (xs : List ℕ) (at : ℕ) → position p xs ≡ Some at → at < length xs
place_within p xs at e = by (nat_lt (position_or_len p xs) (length xs)) refl e
  where
    by : (b : Bool) → nat_lt (position_or_len p xs) (length xs) ≡ b → cond b (Some (position_or_len p xs)) None ≡ Some at → at < length xs
    by true t f =
        let same : position_or_len p xs ≡ at = search (rules, f) in
        let less : position_or_len p xs < length xs = search (rules, t) in
        subst (λ n. n < length xs) same less
    by false t f = absurd cc

-- what is left of a list is all that there is after so many
pub rest_whole : (n : ℕ) (xs : List ℕ) → take (length xs - n) (drop n xs) ≡ drop n xs
rest_whole n xs = subst (λ m. take m (drop n xs) ≡ drop n xs) (length-drop n xs) (take-length (drop n xs))
