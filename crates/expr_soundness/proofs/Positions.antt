-- Where names stand in scopes, and in scopes with more names.
use Rattle.std.proofs.Common.{◌≡◌, ℕ, zero, suc, ◌+◌, List, [], ◌∷◌, ◌++◌, length, not, Bool, true, false, ◌⊎◌, inl, inr, Option, Some, None, refl, sym, ap, ◌∙◌, arith}
use Rattle.std.specs.Prelude.{bytes_eq, cond, is_some, nat_lt, option_map, position, slice_get}
use Rattle.std.specs.List.{position_or_len}
use Rattle.meaning.specs.types.specs.Entities.{Entity}
use Rattle.meaning.specs.types.specs.Scopes.{Scope, Named, entity_at, entity_of, is_visible, number_of}

-- ---- the first element that passes, by recursion

abbrev pub first_place : {X : Type 0} → (X → Bool) → List X → Option ℕ
first_place p [] = None
first_place p (x ∷ xs) = cond (p x) (Some 0) (option_map suc (first_place p xs))

next_place : (k n : ℕ) → cond (nat_lt (1 + k) (suc n)) (Some (1 + k)) None ≡ option_map suc (cond (nat_lt k n) (Some k) None)
next_place k n = by_test (nat_lt k n) (nat_lt (1 + k) (suc n)) (grind arith)
  where
    by_test : (a b : Bool) → b ≡ a → cond b (Some (1 + k)) None ≡ option_map suc (cond a (Some k) None)
    by_test true true e = let i : 1 + k ≡ suc k = omega arith in ap Some i
    by_test true false e = cc
    by_test false true e = cc
    by_test false false e = refl

pub place_is : {X : Type 0} (p : X → Bool) (xs : List X) → position p xs ≡ first_place p xs
place_is p [] = refl
place_is {X} p (x ∷ xs) = by_test (p x) (place_is p xs)
  where
    by_test : (b : Bool) → position p xs ≡ first_place p xs
        → cond (nat_lt (cond (not b) (1 + position_or_len p xs) 0) (suc (length xs))) (Some (cond (not b) (1 + position_or_len p xs) 0)) None
        ≡ cond b (Some 0) (option_map suc (first_place p xs))
    by_test true h = let first : nat_lt 0 (suc (length xs)) ≡ true = grind arith in ap (λ b. cond b (Some 0) None) first
    by_test false h = next_place (position_or_len p xs) (length xs) ∙ ap (option_map suc) h

-- ---- what stands at the first place

pub suc_of : (o : Option ℕ) (n : ℕ) → option_map suc o ≡ Some n → (m : ℕ) × (o ≡ Some m) × (n ≡ suc m)
suc_of (Some m) n h = (m, refl, sym (some_is (suc m) n h))
  where
    some_is : (a b : ℕ) → Some a ≡ Some b → a ≡ b
    some_is a b e = let f : Option ℕ → ℕ = λ o. elim o [ Some y ↦ y | None ↦ a ] in ap f e
suc_of None n h = cc

pub same_some : {X : Type 0} (a b : X) → Some a ≡ Some b → a ≡ b
same_some {X} a b e = let f : Option X → X = λ o. elim o [ Some y ↦ y | None ↦ a ] in ap f e

pub found_at : {X : Type 0} (p : X → Bool) (xs : List X) (n : ℕ) → first_place p xs ≡ Some n → (x : X) × (slice_get xs n ≡ Some x) × (p x ≡ true)
found_at p [] n h = cc
found_at {X} p (x ∷ xs) n h = by_test (p x) refl h (λ m. found_at p xs m)
  where
    by_test : (b : Bool) → p x ≡ b → cond b (Some 0) (option_map suc (first_place p xs)) ≡ Some n
        → ((m : ℕ) → first_place p xs ≡ Some m → (y : X) × (slice_get xs m ≡ Some y) × (p y ≡ true))
        → (y : X) × (slice_get (x ∷ xs) n ≡ Some y) × (p y ≡ true)
    by_test true e k later = let at : 0 ≡ n = same_some 0 n k in (x, ap (slice_get (x ∷ xs)) (sym at), e)
    by_test false e k later =
        let m = suc_of (first_place p xs) n k in
        let found = later m.0 m.1 in
        (found.0, ap (slice_get (x ∷ xs)) m.2 ∙ found.1, found.2)

-- ---- with more at the end

pub place_kept : {X : Type 0} (p : X → Bool) (xs ys : List X) (n : ℕ) → first_place p xs ≡ Some n → first_place p (xs ++ ys) ≡ Some n
place_kept p [] ys n h = cc
place_kept {X} p (x ∷ xs) ys n h = by_test (p x) h (λ m. place_kept p xs ys m)
  where
    by_test : (b : Bool) → cond b (Some 0) (option_map suc (first_place p xs)) ≡ Some n
        → ((m : ℕ) → first_place p xs ≡ Some m → first_place p (xs ++ ys) ≡ Some m)
        → cond b (Some 0) (option_map suc (first_place p (xs ++ ys))) ≡ Some n
    by_test true k later = k
    by_test false k later = let m = suc_of (first_place p xs) n k in ap (option_map suc) (later m.0 m.1) ∙ ap Some (sym m.2)

-- in a list with one more it is found where it was, or it is the last
pub place_added : {X : Type 0} (p : X → Bool) (xs : List X) (y : X) (n : ℕ) → first_place p (xs ++ y ∷ []) ≡ Some n
    → (first_place p xs ≡ Some n) ⊎ ((n ≡ length xs) × (p y ≡ true))
place_added p [] y n h = by_test (p y) refl h
  where
    by_test : (b : Bool) → p y ≡ b → cond b (Some 0) (option_map {T = ℕ} suc None) ≡ Some n → (first_place p [] ≡ Some n) ⊎ ((n ≡ 0) × (p y ≡ true))
    by_test true e k = inr (sym (same_some 0 n k), e)
    by_test false e k = cc
place_added {X} p (x ∷ xs) y n h = by_test (p x) h (λ m. place_added p xs y m)
  where
    by_test : (b : Bool) → cond b (Some 0) (option_map suc (first_place p (xs ++ y ∷ []))) ≡ Some n
        → ((m : ℕ) → first_place p (xs ++ y ∷ []) ≡ Some m → (first_place p xs ≡ Some m) ⊎ ((m ≡ length xs) × (p y ≡ true)))
        → (cond b (Some 0) (option_map suc (first_place p xs)) ≡ Some n) ⊎ ((n ≡ suc (length xs)) × (p y ≡ true))
    by_test true k later = inl k
    by_test false k later =
        let m = suc_of (first_place p (xs ++ y ∷ [])) n k in
        elim (later m.0 m.1) [
          | inl e ↦ inl (ap (option_map suc) e ∙ ap Some (sym m.2))
          | inr e ↦ inr (m.2 ∙ ap suc e.0, e.1)
        ]

pub item_kept : {X : Type 0} (xs ys : List X) (n : ℕ) (x : X) → slice_get xs n ≡ Some x → slice_get (xs ++ ys) n ≡ Some x
item_kept [] ys n x h = cc
item_kept (y ∷ xs) ys zero x h = h
item_kept (y ∷ xs) ys (suc n) x h = item_kept xs ys n x h

pub item_added : {X : Type 0} (xs : List X) (y : X) → slice_get (xs ++ y ∷ []) (length xs) ≡ Some y
item_added [] y = refl
item_added (x ∷ xs) y = item_added xs y

-- an element of a list with one more is one of the list, or the last
pub item_of_added : {X : Type 0} (xs : List X) (y x : X) (n : ℕ) → slice_get (xs ++ y ∷ []) n ≡ Some x → (slice_get xs n ≡ Some x) ⊎ ((n ≡ length xs) × (y ≡ x))
item_of_added [] y x zero h = inr (refl, same_some y x h)
item_of_added [] y x (suc n) h = cc
item_of_added (z ∷ xs) y x zero h = inl h
item_of_added (z ∷ xs) y x (suc n) h = elim (item_of_added xs y x n h) [ inl e ↦ inl e | inr e ↦ inr (ap suc e.0, e.1) ]

-- ---- names

abbrev is_named : List ℕ → Named → Bool
is_named name n = bytes_eq name n.name

pub number_place : (s : Scope) (name : List ℕ) → number_of s name ≡ first_place (λ n. bytes_eq name n.name) s
number_place s name = place_is (λ n. bytes_eq name n.name) s

-- a visible name has a number, and stands for something
pub record IsNamed (s : Scope) (name : List ℕ) : Type 0 where
  pub number : ℕ
  pub entity : Entity
  pub numbered : number_of s name ≡ Some number
  pub stands : entity_at s number ≡ Some entity

pub entity_number : (s : Scope) (name : List ℕ) (n : ℕ) → number_of s name ≡ Some n → (e : Entity) × (entity_at s n ≡ Some e)
entity_number s name n h =
    let found = found_at (λ n. bytes_eq name n.name) s n (sym (number_place s name) ∙ h) in
    (found.0.entity, ap entity_of found.1)

pub named : (s : Scope) (name : List ℕ) → is_visible s name ≡ true → IsNamed s name
named s name h = by_number (number_of s name) refl h
  where
    by_number : (o : Option ℕ) → number_of s name ≡ o → is_some o ≡ true → IsNamed s name
    by_number (Some n) e k = let x = entity_number s name n e in record { number = n; entity = x.0; numbered = e; stands = x.1 }
    by_number None e k = cc

pub number_kept : (s more : Scope) (name : List ℕ) (n : ℕ) → number_of s name ≡ Some n → number_of (s ++ more) name ≡ Some n
number_kept s more name n h =
    number_place (s ++ more) name ∙ place_kept (λ n. bytes_eq name n.name) s more n (sym (number_place s name) ∙ h)

pub number_added : (s : Scope) (x : Named) (name : List ℕ) (n : ℕ) → number_of (s ++ x ∷ []) name ≡ Some n
    → (number_of s name ≡ Some n) ⊎ ((n ≡ length s) × (bytes_eq name x.name ≡ true))
number_added s x name n h =
    elim (place_added (λ n. bytes_eq name n.name) s x n (sym (number_place (s ++ x ∷ []) name) ∙ h)) [
      | inl e ↦ inl (number_place s name ∙ e)
      | inr e ↦ inr e
    ]

named_item : (o : Option Named) (e : Entity) → entity_of o ≡ Some e → (m : Named) × (o ≡ Some m) × (m.entity ≡ e)
named_item (Some m) e h = (m, refl, same_some m.entity e h)
named_item None e h = cc

pub entity_kept : (s more : Scope) (n : ℕ) (e : Entity) → entity_at s n ≡ Some e → entity_at (s ++ more) n ≡ Some e
entity_kept s more n e h =
    let m = named_item (slice_get s n) e h in
    ap entity_of (item_kept s more n m.0 m.1) ∙ ap Some m.2

pub entity_added : (s : Scope) (x : Named) (n : ℕ) (e : Entity) → entity_at (s ++ x ∷ []) n ≡ Some e
    → (entity_at s n ≡ Some e) ⊎ ((n ≡ length s) × (x.entity ≡ e))
entity_added s x n e h =
    let m = named_item (slice_get (s ++ x ∷ []) n) e h in
    elim (item_of_added s x m.0 n m.1) [
      | inl k ↦ inl (ap entity_of k ∙ ap Some m.2)
      | inr k ↦ inr (k.0, ap (λ y. y.entity) k.1 ∙ m.2)
    ]
