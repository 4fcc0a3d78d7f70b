-- Texts that differ, and are all among others, are no more than these.
use Rattle.std.proofs.Common.{◌≡◌, ℕ, suc, ◌≤◌, List, [], ◌∷◌, ◌++◌, length, cond, Bool, true, false, ◌||◌, Option, Some, None, refl, sym, ap, ◌∙◌, arith}
use Rattle.std.specs.List.{list_any}
use Rattle.std.specs.Prelude.{bytes_eq, is_some, option_map, position, ⊤}
use Rattle.std.proofs.lemmas.Bool.{or_parts}
use Rattle.program_soundness.proofs.WiderScopes.{equal_bytes, same_bytes}
use Rattle.expr_soundness.proofs.Positions.{first_place, place_is}

abbrev pub is_of : List (List ℕ) → List ℕ → Bool
is_of texts text = list_any (bytes_eq text) texts

-- all of them are among these
abbrev pub AreAmong : (few all : List (List ℕ)) → Type 0
AreAmong few all = (text : List ℕ) → is_of few text ≡ true → is_of all text ≡ true

-- each differs from those behind it
abbrev pub AreDiffering : List (List ℕ) → Type 0
AreDiffering [] = ⊤
AreDiffering (x ∷ xs) = (is_of xs x ≡ false) × AreDiffering xs

-- ---- without one

abbrev without : List ℕ → List (List ℕ) → List (List ℕ)
without x [] = []
without x (y ∷ ys) = cond (bytes_eq x y) ys (y ∷ without x ys)

without_long : (x : List ℕ) (ys : List (List ℕ)) → is_of ys x ≡ true → suc (length (without x ys)) ≡ length ys
without_long x [] h = cc
without_long x (y ∷ ys) h = by_test (bytes_eq x y) h (without_long x ys)
  where
    by_test : (b : Bool) → (b || is_of ys x) ≡ true → (is_of ys x ≡ true → suc (length (without x ys)) ≡ length ys)
        → suc (length (cond b ys (y ∷ without x ys))) ≡ suc (length ys)
    by_test true k later = refl
    by_test false k later = ap suc (later k)

without_has : (x q : List ℕ) (ys : List (List ℕ)) → bytes_eq q x ≡ false → is_of ys q ≡ true → is_of (without x ys) q ≡ true
without_has x q [] differ h = cc
without_has x q (y ∷ ys) differ h = by_test (bytes_eq x y) (bytes_eq q y) refl refl h (without_has x q ys differ)
  where
    by_test : (a b : Bool) → bytes_eq x y ≡ a → bytes_eq q y ≡ b → (b || is_of ys q) ≡ true → (is_of ys q ≡ true → is_of (without x ys) q ≡ true)
        → is_of (cond a ys (y ∷ without x ys)) q ≡ true
    by_test true true e f k later = absurd (let bad = sym differ ∙ equal_bytes q x (same_bytes q y f ∙ sym (same_bytes x y e)) in cc)
    by_test true false e f k later = k
    by_test false true e f k later = ap (λ c. c || is_of (without x ys) q) f
    by_test false false e f k later = ap (λ c. c || is_of (without x ys) q) f ∙ later k

is_first : (x : List ℕ) (xs : List (List ℕ)) → is_of (x ∷ xs) x ≡ true
is_first x xs = ap (λ b. b || is_of xs x) (equal_bytes x x refl)

is_later : (x q : List ℕ) (xs : List (List ℕ)) → is_of xs q ≡ true → is_of (x ∷ xs) q ≡ true
is_later x q xs h = by_test (bytes_eq q x)
  where
    by_test : (b : Bool) → (b || is_of xs q) ≡ true
    by_test true = refl
    by_test false = h

pub no_more_than : (few all : List (List ℕ)) → AreDiffering few → AreAmong few all → length few ≤ length all
no_more_than [] all differ among = omega arith
no_more_than (x ∷ few) all differ among =
    let long = without_long x all (among x (is_first x few)) in
    let rest = no_more_than few (without x all) differ.1 (λ q h. without_has x q all (unlike q h (bytes_eq q x) refl) (among q (is_later x q few h))) in
    omega (arith, long, rest)
  where
    unlike : (q : List ℕ) → is_of few q ≡ true → (b : Bool) → bytes_eq q x ≡ b → b ≡ false
    unlike q h false e = refl
    unlike q h true e = absurd (let bad = sym (differ.0) ∙ ap (is_of few) (sym (same_bytes q x e)) ∙ h in cc)

-- ---- one more at the end

pub of_both : (xs ys : List (List ℕ)) (q : List ℕ) → is_of (xs ++ ys) q ≡ (is_of xs q || is_of ys q)
of_both [] ys q = refl
of_both (x ∷ xs) ys q = ap (λ b. bytes_eq q x || b) (of_both xs ys q) ∙ either (bytes_eq q x) (is_of xs q) (is_of ys q)
  where
    either : (a b c : Bool) → (a || (b || c)) ≡ ((a || b) || c)
    either true b c = refl
    either false b c = refl

pub of_front : (xs ys : List (List ℕ)) (q : List ℕ) → is_of xs q ≡ true → is_of (xs ++ ys) q ≡ true
of_front xs ys q h = of_both xs ys q ∙ ap (λ b. b || is_of ys q) h

pub of_last : (xs : List (List ℕ)) (x q : List ℕ) → bytes_eq q x ≡ true → is_of (xs ++ x ∷ []) q ≡ true
of_last xs x q h = of_both xs (x ∷ []) q ∙ by_front (is_of xs q)
  where
    by_front : (b : Bool) → (b || (bytes_eq q x || false)) ≡ true
    by_front true = refl
    by_front false = ap (λ c. c || false) h

pub of_either : (xs : List (List ℕ)) (x q : List ℕ) (C : Type 0) → is_of (xs ++ x ∷ []) q ≡ true → (is_of xs q ≡ true → C) → (bytes_eq q x ≡ true → C) → C
of_either xs x q C h front last = by_tests (is_of xs q) (bytes_eq q x) (sym (of_both xs (x ∷ []) q) ∙ h) front last
  where
    by_tests : (a b : Bool) → (a || (b || false)) ≡ true → (a ≡ true → C) → (b ≡ true → C) → C
    by_tests true b k f g = f refl
    by_tests false true k f g = g refl
    by_tests false false k f g = absurd (let never : false ≡ true = k in cc)

pub differing_more : (xs : List (List ℕ)) (x : List ℕ) → AreDiffering xs → is_of xs x ≡ false → AreDiffering (xs ++ x ∷ [])
differing_more [] x differ new = (refl, tt)
differing_more (y ∷ xs) x differ new =
    let parts = or_parts (bytes_eq x y) (is_of xs x) new in
    let new_too = of_both xs (x ∷ []) y ∙ ap (λ b. b || (bytes_eq y x || false)) differ.0 ∙ ap (λ b. b || false) (unlike (bytes_eq y x) refl parts.0) in
    (new_too, differing_more xs x differ.1 parts.1)
  where
    unlike : (b : Bool) → bytes_eq y x ≡ b → bytes_eq x y ≡ false → bytes_eq y x ≡ false
    unlike false e h = e
    unlike true e h = absurd (let bad = sym h ∙ equal_bytes x y (sym (same_bytes y x e)) in cc)

-- ---- by positions

pub position_is : (texts : List (List ℕ)) (text : List ℕ) → is_some (position (bytes_eq text) texts) ≡ is_of texts text
position_is texts text = ap is_some (place_is (bytes_eq text) texts) ∙ found texts
  where
    mapped : (o : Option ℕ) → is_some (option_map suc o) ≡ is_some o
    mapped (Some n) = refl
    mapped None = refl

    by_test : (b : Bool) (o : Option ℕ) (c : Bool) → is_some o ≡ c → is_some (cond b (Some 0) (option_map suc o)) ≡ (b || c)
    by_test true o c e = refl
    by_test false o c e = mapped o ∙ e

    found : (xs : List (List ℕ)) → is_some (first_place (bytes_eq text) xs) ≡ is_of xs text
    found [] = refl
    found (x ∷ xs) = by_test (bytes_eq text x) (first_place (bytes_eq text) xs) (is_of xs text) (found xs)
