-- Words that others are put among: those that are put stand there, all others stay.
use Rattle.std.proofs.Common.{◌≡◌, ℕ, zero, suc, ◌+◌, ◌<◌, ◌≤◌, inl, inr, ℤ, List, [], ◌∷◌, ◌++◌, length, cond, Some, None, Bool, true, false, refl, sym, ap, ◌∙◌, arith, rules}
use Rattle.std.specs.Prelude.{pos, nat_le, nat_lt, take, drop, slice_set, slice_get}
use Rattle.std.proofs.Math.Seq.{take-append_seam}
use Rattle.image.specs.Frames.{word_put, words_put}
use Rattle.types.specs.Shapes.{value_words}
use Rattle.types.specs.Values.{Value}
use Rattle.expr_code.specs.Naming.{Lies}
use Rattle.part_code.specs.Layout.{AreApart, IsFree}
use Rattle.part_code.specs.Resting.{AreKept}

-- the words with others put from an address on
abbrev pub with_words : ℕ → List ℤ → List ℤ → List ℤ
with_words a new words = take a words ++ new ++ drop (a + length new) words

none_after : (n : ℕ) → drop n (let l : List ℤ = [] in l) ≡ []
none_after zero = refl
none_after (suc n) = refl

next : (a : ℕ) (new : List ℤ) (w : ℤ) (words : List ℤ) → with_words (suc a) new (w ∷ words) ≡ w ∷ with_words a new words
next a new w words = ap (λ n. w ∷ (take a words ++ new ++ drop n (w ∷ words))) (up a (length new))
  where
    up : (a n : ℕ) → suc a + n ≡ suc (a + n)
    up a n = omega arith

first : (new words : List ℤ) → with_words zero new words ≡ new ++ drop (length new) words
first new words = ap (λ n. new ++ drop n words) (up (length new))
  where
    up : (n : ℕ) → 0 + n ≡ n
    up n = omega arith

all : (xs ys : List ℤ) → length (xs ++ ys) ≡ length xs + length ys
all [] ys = omega arith
all (x ∷ xs) ys = let h = all xs ys in omega (arith, h)

rest : (n : ℕ) (words : List ℤ) → n ≤ length words → n + length (drop n words) ≡ length words
rest zero words le = omega arith
rest (suc n) [] le = absurd (omega (arith, le))
rest (suc n) (w ∷ words) le = let h = rest n words (omega (arith, le)) in omega (arith, h)

behind : (xs ys : List ℤ) (n : ℕ) → length xs ≤ n → (m : ℕ) → n ≡ length xs + m → drop n (xs ++ ys) ≡ drop m ys
behind [] ys n le m e = let same : n ≡ m = omega (arith, e) in ap (λ q. drop q ys) same
behind (x ∷ xs) ys zero le m e = absurd (omega (arith, le))
behind (x ∷ xs) ys (suc n) le m e = behind xs ys n (omega (arith, le)) m (omega (arith, e))

pub drop_twice : (n m : ℕ) (words : List ℤ) → drop m (drop n words) ≡ drop (n + m) words
drop_twice zero m words = ap (λ q. drop q words) (up m)
  where
    up : (m : ℕ) → m ≡ 0 + m
    up m = omega arith
drop_twice (suc n) m [] = none_after m ∙ sym (none_after (suc n + m))
drop_twice (suc n) m (w ∷ words) = drop_twice n m words ∙ ap (λ q. drop q (w ∷ words)) (up n m)
  where
    up : (n m : ℕ) → suc (n + m) ≡ suc n + m
    up n m = omega arith

-- as many words as before
pub with_length : (a : ℕ) (new words : List ℤ) → a + length new ≤ length words → length (with_words a new words) ≡ length words
with_length zero new words le =
    let e = ap length (first new words) in
    let h = all new (drop (length new) words) in
    let j = rest (length new) words (omega (arith, le)) in
    omega (arith, e, h, j)
with_length (suc a) new [] le = absurd (omega (arith, le))
with_length (suc a) new (w ∷ words) le =
    let h = with_length a new words (omega (arith, le)) in
    ap length (next a new w words) ∙ ap suc h

-- those that were put
pub with_there : (a : ℕ) (new words : List ℤ) → a + length new ≤ length words → take (length new) (drop a (with_words a new words)) ≡ new
with_there zero new words le = ap (λ l. take (length new) l) (first new words) ∙ take-append_seam new (drop (length new) words)
with_there (suc a) new [] le = absurd (omega (arith, le))
with_there (suc a) new (w ∷ words) le =
    ap (λ l. take (length new) (drop (suc a) l)) (next a new w words) ∙ with_there a new words (omega (arith, le))

-- those in front
with_front : (a : ℕ) (new words : List ℤ) (b n : ℕ) → a + length new ≤ length words → b + n ≤ a
    → take n (drop b (with_words a new words)) ≡ take n (drop b words)
with_front a new words b zero le up = refl
with_front zero new words b (suc n) le up = absurd (omega (arith, up))
with_front (suc a) new [] b (suc n) le up = absurd (omega (arith, le))
with_front (suc a) new (w ∷ words) zero (suc n) le up =
    ap (take (suc n)) (next a new w words) ∙ ap (λ l. w ∷ l) (with_front a new words zero n (omega (arith, le)) (omega (arith, up)))
with_front (suc a) new (w ∷ words) (suc b) (suc n) le up =
    ap (λ l. take (suc n) (drop (suc b) l)) (next a new w words) ∙ with_front a new words b (suc n) (omega (arith, le)) (omega (arith, up))

-- those behind
with_behind : (a : ℕ) (new words : List ℤ) (b : ℕ) → a + length new ≤ length words → a + length new ≤ b → drop b (with_words a new words) ≡ drop b words
with_behind zero new words b le up =
    let m = part (length new) b (omega (arith, up)) in
    ap (drop b) (first new words)
    ∙ behind new (drop (length new) words) b (omega (arith, up)) m.0 m.1
    ∙ drop_twice (length new) m.0 words
    ∙ ap (λ q. drop q words) (sym m.1)
  where
    part : (n b : ℕ) → n ≤ b → (m : ℕ) × (b ≡ n + m)
    part zero b le = (b, omega arith)
    part (suc n) zero le = absurd (omega (arith, le))
    part (suc n) (suc b) le = let h = part n b (omega (arith, le)) in let e = h.1 in (h.0, omega (arith, e))
with_behind (suc a) new [] b le up = absurd (omega (arith, le))
with_behind (suc a) new (w ∷ words) zero le up = absurd (omega (arith, up))
with_behind (suc a) new (w ∷ words) (suc b) le up =
    ap (drop (suc b)) (next a new w words) ∙ with_behind a new words b (omega (arith, le)) (omega (arith, up))

-- each word outside
pub with_outside : (a : ℕ) (new words : List ℤ) (n : ℕ) → a + length new ≤ length words → AreApart n 1 a (length new)
    → slice_get (with_words a new words) n ≡ slice_get words n
with_outside zero new words n le (inl down) = absurd (omega (arith, down))
with_outside zero new words n le (inr up) = ap (λ l. slice_get l n) (first new words) ∙ behind_new new words n (omega (arith, up)) (omega (arith, le))
  where
    behind_new : (new words : List ℤ) (n : ℕ) → length new ≤ n → length new ≤ length words → slice_get (new ++ drop (length new) words) n ≡ slice_get words n
    behind_new [] words n up le = refl
    behind_new (x ∷ new) [] n up le = absurd (omega (arith, le))
    behind_new (x ∷ new) (w ∷ words) zero up le = absurd (omega (arith, up))
    behind_new (x ∷ new) (w ∷ words) (suc n) up le = behind_new new words n (omega (arith, up)) (omega (arith, le))
with_outside (suc a) new [] n le apart = absurd (omega (arith, le))
with_outside (suc a) new (w ∷ words) zero le apart = ap (λ l. slice_get l 0) (next a new w words)
with_outside (suc a) new (w ∷ words) (suc n) le apart =
    ap (λ l. slice_get l (suc n)) (next a new w words) ∙ with_outside a new words n (omega (arith, le)) (lower apart)
  where
    lower : AreApart (suc n) 1 (suc a) (length new) → AreApart n 1 a (length new)
    lower (inl down) = inl (omega (arith, down))
    lower (inr up) = inr (omega (arith, up))

-- words at places among which no new one stands are still the same
pub others_kept : (places : List ℕ) (a : ℕ) (new words : List ℤ) → a + length new ≤ length words → IsFree places a (length new)
    → AreKept places words (with_words a new words)
others_kept places a new words le free n among = with_outside a new words n le (free n among)

-- ---- values among words

told : (b : Bool) (xs ys : List ℤ) → cond b (Some xs) None ≡ Some ys → (b ≡ true) × (xs ≡ ys)
told true xs ys e = (refl, cc)
told false xs ys e = absurd cc

pub within : (n m : ℕ) → nat_le n m ≡ true → n ≤ m
within n m h = search rules

pub below : (n m : ℕ) → n ≤ m → nat_le n m ≡ true
below n m h = search rules

-- a value lies within the words
pub lies_within : (words : List ℤ) (a : ℕ) (v : Value) → Lies words a v → a + length (value_words v) ≤ length words
lies_within words a v h = let l = length (value_words v) in within (a + l) (length words)
    (told (nat_le (a + l) (length words)) (take l (drop a words)) (value_words v) h).0

pub lies_there : (words : List ℤ) (a : ℕ) (v : Value) → Lies words a v → take (length (value_words v)) (drop a words) ≡ value_words v
lies_there words a v h = let l = length (value_words v) in
    (told (nat_le (a + l) (length words)) (take l (drop a words)) (value_words v) h).1

-- What stands among words once a value is put from an address on: the value there, and each other value apart from it as before.
pub record IsWritten (before after : List ℤ) (a : ℕ) (v : Value) : Type 0 where
  pub long : length after ≡ length before
  pub there : Lies after a v
  pub others : (b : ℕ) (u : Value) → AreApart a (length (value_words v)) b (length (value_words u)) → Lies before b u → Lies after b u

pub written : (words : List ℤ) (a : ℕ) (v : Value) → a + length (value_words v) ≤ length words → IsWritten words (with_words a (value_words v) words) a v
written words a v room =
    let new = value_words v in
    let after = with_words a new words in
    let long = with_length a new words room in
    record {
      long = long;
      there =
          ap (λ b. cond b (Some (take (length new) (drop a after))) None) (below (a + length new) (length after) (omega (arith, long, room)))
          ∙ ap Some (with_there a new words room);
      others = λ b u apart lies. other b u apart lies;
    }
  where
    other : (b : ℕ) (u : Value) → AreApart a (length (value_words v)) b (length (value_words u)) → Lies words b u
        → Lies (with_words a (value_words v) words) b u
    other b u apart lies =
        let new = value_words v in
        let l = length (value_words u) in
        let after = with_words a new words in
        let h = told (nat_le (b + l) (length words)) (take l (drop b words)) (value_words u) lies in
        let inside = within (b + l) (length words) h.0 in
        let long = with_length a new words room in
        let same : take l (drop b after) ≡ take l (drop b words) = elim apart [
          | inl up ↦ ap (take l) (with_behind a new words b room up)
          | inr down ↦ with_front a new words b l room down
        ] in
        ap (λ q. cond q (Some (take l (drop b after))) None) (below (b + l) (length after) (omega (arith, long, inside)))
        ∙ ap Some (same ∙ h.1)

-- ---- how instructions put words

pub block_put : (words : List ℤ) (a : ℕ) (new : List ℤ) → a + length new ≤ length words → words_put words (pos a) new ≡ Some (with_words a new words)
block_put words a new room = ap (λ b. cond b (Some (with_words a new words)) None) (below (a + length new) (length words) room)

pub set_is : (words : List ℤ) (a : ℕ) (w : ℤ) → a < length words → slice_set words a w ≡ with_words a (w ∷ []) words
set_is [] a w less = absurd (omega (arith, less))
set_is (x ∷ words) zero w less = sym (first (w ∷ []) (x ∷ words))
set_is (x ∷ words) (suc a) w less = ap (λ l. x ∷ l) (set_is words a w (omega (arith, less))) ∙ sym (next a (w ∷ []) x words)

less_than : (a n : ℕ) → a < n → nat_lt a n ≡ true
less_than a n h = search rules

pub one_put : (words : List ℤ) (a : ℕ) (w : ℤ) → a + 1 ≤ length words → word_put words (pos a) w ≡ Some (with_words a (w ∷ []) words)
one_put words a w room =
    let less : a < length words = omega (arith, room) in
    ap (λ b. cond b (Some (slice_set words a w)) None) (less_than a (length words) less) ∙ ap Some (set_is words a w less)
