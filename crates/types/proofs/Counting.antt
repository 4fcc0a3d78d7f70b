-- The protected objects among the names of a scope, as scopes keep their number.
use Rattle.std.proofs.Common.{◌≡◌, ◌<◌, ◌≤◌, ◌-◌, ℕ, zero, suc, ◌+◌, true, List, [], ◌∷◌, ◌++◌, length, map, take, slice_get, option_map, Option, Some, None, is_some, refl, sym, ap, ◌∙◌, arith, unwrap_or}
use Rattle.std.proofs.lemmas.List.{length-map, map-append, take-map}
use Rattle.std.proofs.lemmas.Option.{slice_get-map}
use Rattle.indexmap.specs.IndexMap.{set_value_at}
use Rattle.types.specs.declared.scope.Declared.{Declared}
use Rattle.types.specs.Entities.{Entity, Protected, entity_value}
use Rattle.types.specs.Kept.{entry_objects, objects_after}
use Rattle.types.specs.Scopes.{Scope, Named, changed_at, entry_value, one_if_protected, protected_count}
use Rattle.types.proofs.Barring.{value_in}

-- each entry keeps the number of protected objects up to it
abbrev pub AreCounted : List (List ℕ × Declared) → Type 0
AreCounted es = map entry_objects es ≡ objects_after 0 (map entry_value es)

after_push : (n : ℕ) (s : Scope) (x : Named) → objects_after n (s ++ x ∷ []) ≡ objects_after n s ++ (n + protected_count s + one_if_protected x.entity) ∷ []
after_push n [] x = let e : n + one_if_protected x.entity ≡ n + 0 + one_if_protected x.entity = omega arith in ap (λ k. k ∷ []) e
after_push n (y ∷ s) x =
    let here = n + one_if_protected y.entity in
    let e : here + protected_count s + one_if_protected x.entity ≡ n + (one_if_protected y.entity + protected_count s) + one_if_protected x.entity = omega arith in
    ap (λ l. here ∷ l) (after_push here s x ∙ ap (λ k. objects_after here s ++ k ∷ []) e)

pub counted_push : (es : List (List ℕ × Declared)) (e : List ℕ × Declared)
    → AreCounted es
    → e.1.objects ≡ protected_count (map entry_value es) + one_if_protected (entity_value e.1.entity)
    → AreCounted (es ++ e ∷ [])
counted_push es e counted is =
    let s = map entry_value es in
    let zero_more : protected_count s + one_if_protected (entity_value e.1.entity) ≡ 0 + protected_count s + one_if_protected (entity_value e.1.entity) = omega arith in
    map-append entry_objects es (e ∷ [])
    ∙ (λ j. counted j ++ is j ∷ [])
    ∙ ap (λ k. objects_after 0 s ++ k ∷ []) zero_more
    ∙ sym (after_push 0 s (entry_value e))
    ∙ ap (objects_after 0) (sym (map-append entry_value es (e ∷ [])))

after_take : (n : ℕ) (s : Scope) (k : ℕ) → objects_after n (take k s) ≡ take k (objects_after n s)
after_take n [] zero = refl
after_take n [] (suc k) = refl
after_take n (x ∷ s) zero = refl
after_take n (x ∷ s) (suc k) = ap (λ l. (n + one_if_protected x.entity) ∷ l) (after_take (n + one_if_protected x.entity) s k)

pub counted_take : (es : List (List ℕ × Declared)) (k : ℕ) → AreCounted es → AreCounted (take k es)
counted_take es k counted =
    sym (take-map entry_objects k es)
    ∙ ap (take k) counted
    ∙ sym (after_take 0 (map entry_value es) k)
    ∙ ap (objects_after 0) (take-map entry_value k es)

-- ---- reading

last_count : (n : ℕ) (s : Scope) (x : Named) → slice_get (objects_after n (x ∷ s)) (length s) ≡ Some (n + protected_count (x ∷ s))
last_count n [] x = let e : n + one_if_protected x.entity ≡ n + (one_if_protected x.entity + 0) = omega arith in ap Some e
last_count n (y ∷ s) x =
    let here = n + one_if_protected x.entity in
    let e : here + (one_if_protected y.entity + protected_count s) ≡ n + (one_if_protected x.entity + (one_if_protected y.entity + protected_count s)) = omega arith in
    last_count here s y ∙ ap Some e

kept_number : (k m : ℕ) → Some k ≡ Some m → k ≡ m
kept_number k m h = ap (λ o. unwrap_or o k) h

pub counted_last : (es : List (List ℕ × Declared)) (e : List ℕ × Declared) (n : ℕ)
    → AreCounted es
    → suc n ≡ length es
    → Some e ≡ slice_get es n
    → e.1.objects ≡ protected_count (map entry_value es)
counted_last [] e n counted size at = cc
counted_last (x ∷ es) e n counted size at =
    let s = map entry_value es in
    let same : n ≡ length s = let long = length-map es entry_value in omega (arith, size, long) in
    let none : 0 + protected_count (map entry_value (x ∷ es)) ≡ protected_count (map entry_value (x ∷ es)) = omega arith in
    kept_number e.1.objects (protected_count (map entry_value (x ∷ es)))
    (ap (option_map entry_objects) at
    ∙ sym (slice_get-map entry_objects (x ∷ es) n)
    ∙ ap (λ l. slice_get l n) counted
    ∙ ap (slice_get (objects_after 0 (map entry_value (x ∷ es)))) same
    ∙ last_count 0 s (entry_value x)
    ∙ ap Some none)

one_small : (e : Entity) → one_if_protected e ≤ 1
one_small (Protected p) = omega arith
one_small e = omega arith

pub count_few : (s : Scope) → protected_count s ≤ length s
count_few [] = omega arith
count_few (x ∷ s) = let one = one_small x.entity in let rest = count_few s in omega (arith, one, rest)

-- ---- a change in place

module _ (change : Entity → Entity) (same : (e : Entity) → one_if_protected (change e) ≡ one_if_protected e) where
  after_changed : (n : ℕ) (s : Scope) (number : ℕ) → objects_after n (changed_at s number change) ≡ objects_after n s
  after_changed n [] number = refl
  after_changed n (x ∷ s) zero = ap (λ k. (n + k) ∷ objects_after (n + k) s) (same x.entity)
  after_changed n (x ∷ s) (suc number) = ap (λ l. (n + one_if_protected x.entity) ∷ l) (after_changed (n + one_if_protected x.entity) s number)

  module _ (old new : Declared) (objects : new.objects ≡ old.objects) where
    is_first : (first : Declared) → Some old ≡ Some first → old ≡ first
    is_first first e = cc

    same_objects : (es : List (List ℕ × Declared)) (number : ℕ) → Some old ≡ slice_get (map value_in es) number → map entry_objects (set_value_at es number new) ≡ map entry_objects es
    same_objects [] number found = refl
    same_objects (e ∷ es) zero found = ap (λ k. k ∷ map entry_objects es) (objects ∙ ap (λ d. d.objects) (is_first e.1 found))
    same_objects (e ∷ es) (suc number) found = ap (λ l. e.1.objects ∷ l) (same_objects es number found)

    pub counted_changed : (es : List (List ℕ × Declared)) (number : ℕ)
        → Some old ≡ slice_get (map value_in es) number
        → map entry_value (set_value_at es number new) ≡ changed_at (map entry_value es) number change
        → AreCounted es
        → AreCounted (set_value_at es number new)
    counted_changed es number found put counted =
        same_objects es number found ∙ counted ∙ sym (after_changed 0 (map entry_value es) number) ∙ ap (objects_after 0) (sym put)
