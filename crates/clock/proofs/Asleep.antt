-- The time that a task waits for, in a heap and among its sleepers.
use Rattle.std.proofs.Common.{◌≡◌, ◌<◌, ℕ, List, [], ◌∷◌, arith, map, nat_eq, nat_lt, Bool, true, false, cond, Option, Some, None, refl, sym, ap, subst, ◌∙◌, inl, inr}
use Rattle.std.specs.Prelude.{option_map}
use Rattle.std.proofs.lemmas.Bool.{ltb-true, lt-ltb}
use Rattle.std.proofs.lemmas.Map.Keys.{IsDistinct-tail}
use Rattle.clock.specs.declared.delays.Sleeper.{Sleeper}
use Rattle.clock.specs.declared.heap.Entry.{Entry}
use Rattle.clock.specs.Heaps.{AreDistinct, IsAmong, by_number, earlier, entry_of, insert, sleeper_of, sleepers_of}
use Rattle.clock.specs.Sleepers.{wake_of}
use Rattle.clock.proofs.Adding.{Rising, by_test, either, rising_by_number}

some_same : (x e : Entry) → Some x ≡ Some e → e ≡ x
some_same x e h = cc

both : {X : Type 0} (b : Bool) (x : X) → x ≡ cond b x x
both true x = refl
both false x = refl

module _ (t : ℕ) where
  -- the first entry of the task
  abbrev front : List Entry → Option Entry
  front [] = None
  front (e ∷ es) = cond (nat_eq e.task t) (Some e) (front es)

  front_has : (es : List Entry) (e : Entry) → front es ≡ Some e → IsAmong e es
  front_has [] e is = absurd cc
  front_has (x ∷ es) e is = by_test (λ b. cond b (Some x) (front es) ≡ Some e → IsAmong e (x ∷ es)) (nat_eq x.task t)
      (λ same h. inl (some_same x e h)) (λ other h. inr (front_has es e h)) is

  abbrev or_front : Entry → Option Entry → Option Entry
  or_front x found = cond (nat_eq x.task t) (Some (earlier x found)) found

  least_is : (x : Entry) (es : List Entry) → ((z : Entry) → IsAmong z es → x.number < z.number) → (found : Option Entry) → front es ≡ found
      → x ≡ earlier x found
  least_is x es least None is = refl
  least_is x es least (Some z) is = ap (λ b. cond b x z) (sym (lt-ltb x.number z.number (least z (front_has es z is))))

  below : (x y : Entry) (es : List Entry) → Rising (y ∷ es) → x.number < y.number → (z : Entry) → IsAmong z (y ∷ es) → x.number < z.number
  below x y es rising less z has = either has (λ e. subst (λ w. x.number < w.number) (sym e) less) (λ h. omega (arith, less, rising.0 z h))

  inserted : (x : Entry) (es : List Entry) → Rising es → front (insert x es) ≡ or_front x (front es)
  inserted x [] rising = refl
  inserted x (y ∷ es) rising = by_test (λ b. front (cond b (x ∷ y ∷ es) (y ∷ insert x es)) ≡ or_front x (front (y ∷ es))) (nat_lt x.number y.number)
      (λ less. ap (λ e. cond (nat_eq x.task t) (Some e) (front (y ∷ es)))
      (least_is x (y ∷ es) (below x y es rising (ltb-true x.number y.number less)) (front (y ∷ es)) refl))
      (λ later. by_test (λ b. cond b (Some y) (front (insert x es)) ≡ or_front x (cond b (Some y) (front es))) (nat_eq y.task t)
      (λ mine. both (nat_eq x.task t) (Some y) ∙ ap (λ b. cond (nat_eq x.task t) (Some (cond b x y)) (Some y)) (sym later))
      (λ other. inserted x es rising.1))

  front_by_number : (es : List Entry) → AreDistinct es → front (by_number es) ≡ entry_of t es
  front_by_number [] d = refl
  front_by_number (x ∷ es) d =
      let behind = IsDistinct-tail nat_eq x.number _ d in
      inserted x (by_number es) (rising_by_number es behind) ∙ ap (or_front x) (front_by_number es behind)

  front_wakes : (es : List Entry) → option_map (λ e. e.wake) (front es) ≡ wake_of t (map sleeper_of es)
  front_wakes [] = refl
  front_wakes (x ∷ es) = by_test (λ b. option_map (λ e. e.wake) (cond b (Some x) (front es)) ≡ cond b (Some x.wake) (wake_of t (map sleeper_of es)))
      (nat_eq x.task t)
      (λ mine. refl) (λ other. front_wakes es)

  pub entry_wakes : (es heap : List Entry) (sleepers : List Sleeper) (found : Option Entry) → AreDistinct heap → es ≡ heap → sleepers_of heap ≡ sleepers
      → found ≡ entry_of t es
      → option_map (λ e. e.wake) found ≡ wake_of t sleepers
  entry_wakes es heap sleepers found d here same is =
      ap (option_map (λ e. e.wake)) (is ∙ ap (entry_of t) here ∙ sym (front_by_number heap d)) ∙ front_wakes (by_number heap) ∙ ap (wake_of t) same
