-- The longest front of a list whose elements pass a test.
use Rattle.std.proofs.Common.{◌≡◌, ℕ, suc, ◌+◌, ◌≤◌, Bool, true, false, cond, ◌&&◌, List, [], ◌∷◌, ◌++◌, length, take, drop, refl, sym, ap, ◌∙◌, subst, arith}
use Rattle.std.specs.List.{list_all, prefix_len}
use Rattle.lexer.specs.Characters.{begins}

pub and_left : (a b : Bool) → (a && b) ≡ true → a ≡ true
and_left true b e = refl
and_left false b e = e

pub and_right : (a b : Bool) → (a && b) ≡ true → b ≡ true
and_right true b e = e
and_right false b e = cc

pub both : (a b : Bool) → a ≡ true → b ≡ true → (a && b) ≡ true
both true true p q = refl
both true false p q = q
both false b p q = p

one_plus : (n : ℕ) → 1 + n ≡ suc n
one_plus n = omega arith

pub prefix_len-yes : (p : ℕ → Bool) (x : ℕ) (xs : List ℕ) → p x ≡ true → prefix_len p (x ∷ xs) ≡ suc (prefix_len p xs)
prefix_len-yes p x xs passes = ap (λ b. cond b (1 + prefix_len p xs) 0) passes ∙ one_plus (prefix_len p xs)

pub prefix_len-no : (p : ℕ → Bool) (x : ℕ) (xs : List ℕ) → p x ≡ false → prefix_len p (x ∷ xs) ≡ 0
prefix_len-no p x xs fails = ap (λ b. cond b (1 + prefix_len p xs) 0) fails

-- a front of passing elements is fails longer than the longest
pub front_fits : (p : ℕ → Bool) (front rest : List ℕ) → list_all p front ≡ true → length front ≤ prefix_len p (front ++ rest)
front_fits p [] rest all = omega arith
front_fits p (x ∷ front) rest all =
    omega (arith, prefix_len-yes p x (front ++ rest) (and_left (p x) (list_all p front) all), front_fits p front rest (and_right (p x) (list_all p front) all))

-- the elements of the longest front pass
pub front_passes : (p : ℕ → Bool) (text : List ℕ) → list_all p (take (prefix_len p text) text) ≡ true
front_passes p [] = refl
front_passes p (x ∷ text) = go (p x) refl (front_passes p text)
  where
    go : (b : Bool) → p x ≡ b → list_all p (take (prefix_len p text) text) ≡ true → list_all p (take (prefix_len p (x ∷ text)) (x ∷ text)) ≡ true
    go true passes deeper = subst (λ n. list_all p (take n (x ∷ text)) ≡ true) (sym (prefix_len-yes p x text passes)) (both (p x) (list_all p (take (prefix_len p text) text)) passes deeper)
    go false fails deeper = subst (λ n. list_all p (take n (x ∷ text)) ≡ true) (sym (prefix_len-no p x text fails)) refl

-- the element behind it does not
pub rest_stops : (p : ℕ → Bool) (text : List ℕ) → begins p (drop (prefix_len p text) text) ≡ false
rest_stops p [] = refl
rest_stops p (x ∷ text) = go (p x) refl (rest_stops p text)
  where
    go : (b : Bool) → p x ≡ b → begins p (drop (prefix_len p text) text) ≡ false → begins p (drop (prefix_len p (x ∷ text)) (x ∷ text)) ≡ false
    go true passes deeper = subst (λ n. begins p (drop n (x ∷ text)) ≡ false) (sym (prefix_len-yes p x text passes)) deeper
    go false fails deeper = subst (λ n. begins p (drop n (x ∷ text)) ≡ false) (sym (prefix_len-no p x text fails)) fails

-- passing elements, with one behind that does not pass, are the longest front
pub front_ends : (p : ℕ → Bool) (front rest : List ℕ) → list_all p front ≡ true → begins p rest ≡ false → prefix_len p (front ++ rest) ≡ length front
front_ends p [] [] all stop = refl
front_ends p [] (x ∷ rest) all stop = prefix_len-no p x rest stop
front_ends p (x ∷ front) rest all stop =
    prefix_len-yes p x (front ++ rest) (and_left (p x) (list_all p front) all) ∙ ap suc (front_ends p front rest (and_right (p x) (list_all p front) all) stop)

-- a test that allows all that another does
pub weaker : (p q : ℕ → Bool) → ((x : ℕ) → p x ≡ true → q x ≡ true) → (text : List ℕ) → list_all p text ≡ true → list_all q text ≡ true
weaker p q implied [] all = refl
weaker p q implied (x ∷ text) all =
    both (q x) (list_all q text) (implied x (and_left (p x) (list_all p text) all)) (weaker p q implied text (and_right (p x) (list_all p text) all))
