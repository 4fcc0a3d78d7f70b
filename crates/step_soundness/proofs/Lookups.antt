-- What names stand for in scopes with one more name, and in beginnings of scopes; objects by their names.
use Rattle.std.proofs.Common.{◌≡◌, ℕ, zero, suc, ◌+◌, List, [], ◌∷◌, ◌++◌, length, take, not, cond, Bool, true, false, ◌⊎◌, inl, inr, Option, Some, None, refl, sym, ap, ◌∙◌, subst, arith}
use Rattle.std.specs.Prelude.{bytes_eq, is_some, nat_lt, option_map, position, slice_get}
use Rattle.std.specs.List.{position_or_len}
use Rattle.std.proofs.lemmas.Slice.Eq.{bytes_eq-Decides}
use Rattle.expr_soundness.specs.types.specs.Entities.{Entity}
use Rattle.expr_soundness.specs.types.specs.Scopes.{Scope, Named, entity_at, is_visible, number_of, with_name}
use Rattle.expr_soundness.specs.types.specs.Places.{Object, object_of}
use Rattle.expr_soundness.specs.type_rules.specs.SubtypeNames.{entity_at_or_none}
use Rattle.expr_soundness.specs.declaration_rules.specs.Laws.{StandsFirst}
use Rattle.step_soundness.specs.Fitting.{entity_named}

pub same_some : {X : Type 0} (a b : X) → Some a ≡ Some b → a ≡ b
same_some {X} a b e = let f : Option X → X = λ o. elim o [ Some y ↦ y | None ↦ a ] in ap f e

pub same_bytes : (a b : List ℕ) → bytes_eq a b ≡ true → a ≡ b
same_bytes a b h = (bytes_eq-Decides a b).0 h

pub bytes_same : (a : List ℕ) → bytes_eq a a ≡ true
bytes_same a = (bytes_eq-Decides a a).1 refl

pub bytes_turned : (a b : List ℕ) → bytes_eq a b ≡ true → bytes_eq b a ≡ true
bytes_turned a b h = subst (λ c. bytes_eq c a ≡ true) (same_bytes a b h) (bytes_same a)

-- ---- the first element that passes, by recursion

abbrev first_place : {X : Type 0} → (X → Bool) → List X → Option ℕ
first_place p [] = None
first_place p (x ∷ xs) = cond (p x) (Some 0) (option_map suc (first_place p xs))

next_place : (k n : ℕ) → cond (nat_lt (1 + k) (suc n)) (Some (1 + k)) None ≡ option_map suc (cond (nat_lt k n) (Some k) None)
next_place k n = by_test (nat_lt k n) (nat_lt (1 + k) (suc n)) (grind arith)
  where
    by_test : (a b : Bool) → b ≡ a → cond b (Some (1 + k)) None ≡ option_map suc (cond a (Some k) None)
    by_test true true e = let i : 1 + k ≡ suc k = omega arith in ap Some i
    by_test true false e = cc
    by_test false true e = cc
    by_test false false e = refl

place_is : {X : Type 0} (p : X → Bool) (xs : List X) → position p xs ≡ first_place p xs
place_is p [] = refl
place_is {X} p (x ∷ xs) = by_test (p x) (place_is p xs)
  where
    by_test : (b : Bool) → position p xs ≡ first_place p xs
        → cond (nat_lt (cond (not b) (1 + position_or_len p xs) 0) (suc (length xs))) (Some (cond (not b) (1 + position_or_len p xs) 0)) None
        ≡ cond b (Some 0) (option_map suc (first_place p xs))
    by_test true h = let first : nat_lt 0 (suc (length xs)) ≡ true = grind arith in ap (λ b. cond b (Some 0) None) first
    by_test false h = next_place (position_or_len p xs) (length xs) ∙ ap (option_map suc) h

found_first_at : {X : Type 0} (p : X → Bool) (xs : List X) (n : ℕ) → first_place p xs ≡ Some n → (x : X) × (slice_get xs n ≡ Some x)
found_first_at p [] n h = cc
found_first_at {X} p (x ∷ xs) n h = by_test (p x) h (λ m. found_first_at p xs m)
  where
    further : (o : Option ℕ) → option_map suc o ≡ Some n → ((m : ℕ) → o ≡ Some m → (y : X) × (slice_get xs m ≡ Some y)) → (y : X) × (slice_get (x ∷ xs) n ≡ Some y)
    further (Some m) k later = let y = later m refl in (y.0, ap (slice_get (x ∷ xs)) (sym (same_some (suc m) n k)) ∙ y.1)
    further None k later = cc

    by_test : (b : Bool) → cond b (Some 0) (option_map suc (first_place p xs)) ≡ Some n → ((m : ℕ) → first_place p xs ≡ Some m → (y : X) × (slice_get xs m ≡ Some y))
        → (y : X) × (slice_get (x ∷ xs) n ≡ Some y)
    by_test true k later = (x, ap (slice_get (x ∷ xs)) (sym (same_some 0 n k)))
    by_test false k later = further (first_place p xs) k later

-- what stands at the place that was found
pub found_at : {X : Type 0} (p : X → Bool) (xs : List X) (n : ℕ) → position p xs ≡ Some n → (x : X) × (slice_get xs n ≡ Some x)
found_at p xs n h = found_first_at p xs n (sym (place_is p xs) ∙ h)

-- ---- names by recursion

abbrev found_in : Scope → List ℕ → Option Entity
found_in [] name = None
found_in (n ∷ rest) name = cond (bytes_eq name n.name) (Some n.entity) (found_in rest name)

one_further : (n : Named) (rest : Scope) (o : Option ℕ) → entity_at_or_none (n ∷ rest) (option_map suc o) ≡ entity_at_or_none rest o
one_further n rest (Some k) = refl
one_further n rest None = refl

found_first : (s : Scope) (name : List ℕ) → entity_at_or_none s (first_place (λ n. bytes_eq name n.name) s) ≡ found_in s name
found_first [] name = refl
found_first (n ∷ rest) name = by_test (bytes_eq name n.name) (found_first rest name)
  where
    by_test : (b : Bool) → entity_at_or_none rest (first_place (λ m. bytes_eq name m.name) rest) ≡ found_in rest name
        → entity_at_or_none (n ∷ rest) (cond b (Some 0) (option_map suc (first_place (λ m. bytes_eq name m.name) rest))) ≡ cond b (Some n.entity) (found_in rest name)
    by_test true later = refl
    by_test false later = one_further n rest (first_place (λ m. bytes_eq name m.name) rest) ∙ later

found_is : (s : Scope) (name : List ℕ) → entity_named s name ≡ found_in s name
found_is s name = ap (entity_at_or_none s) (place_is (λ n. bytes_eq name n.name) s) ∙ found_first s name

is_found : (s : Scope) (name : List ℕ) → is_some (first_place (λ n. bytes_eq name n.name) s) ≡ true → (e : Entity) × (found_in s name ≡ Some e)
is_found [] name h = cc
is_found (n ∷ rest) name h = by_test (bytes_eq name n.name) h (λ k. is_found rest name k)
  where
    further : (o : Option ℕ) → is_some (option_map suc o) ≡ true → is_some o ≡ true
    further (Some k) i = refl
    further None i = cc

    by_test : (b : Bool) → is_some (cond b (Some 0) (option_map suc (first_place (λ m. bytes_eq name m.name) rest))) ≡ true
        → (is_some (first_place (λ m. bytes_eq name m.name) rest) ≡ true → (e : Entity) × (found_in rest name ≡ Some e)) → (e : Entity) × (cond b (Some n.entity) (found_in rest name) ≡ Some e)
    by_test true k later = (n.entity, refl)
    by_test false k later = later (further (first_place (λ m. bytes_eq name m.name) rest) k)

-- a visible name stands for something, at its number
pub visible_named : (s : Scope) (name : List ℕ) → is_visible s name ≡ true → (e : Entity) × (entity_named s name ≡ Some e)
visible_named s name h =
    let found = is_found s name (ap is_some (sym (place_is (λ n. bytes_eq name n.name) s)) ∙ h) in
    (found.0, found_is s name ∙ found.1)

pub named_number : (s : Scope) (name : List ℕ) (e : Entity) → entity_named s name ≡ Some e → (n : ℕ) × (number_of s name ≡ Some n) × (entity_at s n ≡ Some e)
named_number s name e h = by_number (number_of s name) refl h
  where
    by_number : (o : Option ℕ) → number_of s name ≡ o → entity_at_or_none s o ≡ Some e → (n : ℕ) × (number_of s name ≡ Some n) × (entity_at s n ≡ Some e)
    by_number (Some n) is k = (n, is, k)
    by_number None is k = cc

-- ---- one more name

found_added : (s : Scope) (x : Named) (name : List ℕ) (e : Entity) → found_in (s ++ x ∷ []) name ≡ Some e → (found_in s name ≡ Some e) ⊎ ((bytes_eq name x.name ≡ true) × (x.entity ≡ e))
found_added [] x name e h = by_test (bytes_eq name x.name) refl h
  where
    by_test : (b : Bool) → bytes_eq name x.name ≡ b → cond b (Some x.entity) None ≡ Some e → (None ≡ Some e) ⊎ ((bytes_eq name x.name ≡ true) × (x.entity ≡ e))
    by_test true i k = inr (i, same_some x.entity e k)
    by_test false i k = inl k
found_added (n ∷ rest) x name e h = by_test (bytes_eq name n.name) h (λ k. found_added rest x name e k)
  where
    by_test : (b : Bool) → cond b (Some n.entity) (found_in (rest ++ x ∷ []) name) ≡ Some e
        → (found_in (rest ++ x ∷ []) name ≡ Some e → (found_in rest name ≡ Some e) ⊎ ((bytes_eq name x.name ≡ true) × (x.entity ≡ e)))
        → (cond b (Some n.entity) (found_in rest name) ≡ Some e) ⊎ ((bytes_eq name x.name ≡ true) × (x.entity ≡ e))
    by_test true k later = inl k
    by_test false k later = later k

unseen_scope : (s : Scope) (name : List ℕ) (e : Entity) → is_visible s name ≡ false → with_name s name e ≡ s ++ record { name = name; entity = e } ∷ []
unseen_scope s name e h = ap (λ b. cond b s (s ++ record { name = name; entity = e } ∷ [])) h

pub named_added : (s : Scope) (name : List ℕ) (added : Entity) → is_visible s name ≡ false → (other : List ℕ) (e : Entity) → entity_named (with_name s name added) other ≡ Some e
    → (entity_named s other ≡ Some e) ⊎ ((bytes_eq other name ≡ true) × (added ≡ e))
named_added s name added unseen other e h =
    let x : Named = record { name = name; entity = added } in
    let found : found_in (s ++ x ∷ []) other ≡ Some e = sym (found_is (s ++ x ∷ []) other) ∙ ap (λ u. entity_named u other) (sym (unseen_scope s name added unseen)) ∙ h in
    elim (found_added s x other e found) [ inl k ↦ inl (found_is s other ∙ k) | inr k ↦ inr k ]

none_there : (s : Scope) (o : Option ℕ) → is_some o ≡ false → entity_at_or_none s o ≡ None
none_there s (Some n) h = cc
none_there s None h = refl

-- what is not visible stands for nothing
pub unseen_nothing : (s : Scope) (name : List ℕ) → is_visible s name ≡ false → entity_named s name ≡ None
unseen_nothing s name h = none_there s (number_of s name) h

-- ---- beginnings of scopes

found_taken : (n : ℕ) (t : Scope) (name : List ℕ) (e : Entity) → found_in (take n t) name ≡ Some e → found_in t name ≡ Some e
found_taken zero [] name e h = h
found_taken zero (x ∷ xs) name e h = cc
found_taken (suc n) [] name e h = h
found_taken (suc n) (x ∷ xs) name e h = by_test (bytes_eq name x.name) h (λ k. found_taken n xs name e k)
  where
    by_test : (b : Bool) → cond b (Some x.entity) (found_in (take n xs) name) ≡ Some e → (found_in (take n xs) name ≡ Some e → found_in xs name ≡ Some e)
        → cond b (Some x.entity) (found_in xs name) ≡ Some e
    by_test true k later = k
    by_test false k later = later k

pub named_behind : (s t : Scope) → StandsFirst s t → (name : List ℕ) (e : Entity) → entity_named s name ≡ Some e → entity_named t name ≡ Some e
named_behind s t first name e h = found_is t name ∙ found_taken (length s) t name e (ap (λ u. found_in u name) first ∙ sym (found_is s name) ∙ h)

-- ---- objects

pub object_in_front : (x : Object) (rest : List Object) (name : List ℕ) → bytes_eq x.name name ≡ true → object_of (x ∷ rest) name ≡ Some x
object_in_front x rest name h = ap (λ b. cond b (Some x) (object_of rest name)) h

pub object_behind : (x : Object) (rest : List Object) (name : List ℕ) → bytes_eq x.name name ≡ false → object_of (x ∷ rest) name ≡ object_of rest name
object_behind x rest name h = ap (λ b. cond b (Some x) (object_of rest name)) h
