-- The order of choices: between a choice and the next one there is none, after the last one none, and fewer are left after each next one.
use Rattle.std.proofs.Common.{◌≡◌, ◌⊎◌, ℕ, suc, ◌+◌, ◌-◌, ◌*◌, ◌<◌, ◌≤◌, ℤ, List, [], ◌∷◌, length, Option, Some, None, Bool, true, false, cond, refl, sym, ap, subst, ◌∙◌, inl, inr, ⊎_elim, arith, rules}
use Rattle.std.proofs.Math.Nat.{suc-mul}
use Rattle.std.proofs.lemmas.Bool.{cases_eq}
use Rattle.std.proofs.lemmas.Option.{slice_get-get_or, slice_get_within}
use Rattle.std.specs.Prelude.{◌&&◌, int_le, nat_le, nat_lt, pos, ◌≢◌}
use Rattle.base.specs.Arithmetic.{is_in_base_range}
use Rattle.base.specs.declared.limits.TheConstants.{CHANNELS}
use Rattle.choices.specs.Slots.{IsChoiceAmong, Slot, are_each_slots, are_values, is_slot, number_of}
use Rattle.choices.specs.Places.{AreWithin, IsBefore, firsts, flat, left, next, next_by, taken}

pub both : (a b : Bool) → (a && b) ≡ true → (a ≡ true) × (b ≡ true)
both true true h = (refl, refl)
both true false h = absurd cc
both false b h = absurd cc

lasts : (a b c d e f : Bool) → (a && b && c && d && (e && f)) ≡ true → (e ≡ true) × (f ≡ true)
lasts a b c d e f h = both e f (both (a && b && c && d) (e && f) h).1

-- the alternatives of a slot are values of 64 bits, and there are some
pub alternatives_lawful : (s : Slot) → is_slot s ≡ true → (are_values s.alternatives ≡ true) × (nat_lt 0 (length s.alternatives) ≡ true)
alternatives_lawful s h =
    lasts (int_le (pos 0) s.time) (is_in_base_range s.time) (nat_le 1 s.channel) (nat_le s.channel CHANNELS) (are_values s.alternatives)
    (nat_lt 0 (length s.alternatives)) h

lt_of : (m n : ℕ) → nat_lt m n ≡ true → m < n
lt_of m n h = search rules

not_lt_of : (m n : ℕ) → nat_lt m n ≡ false → n ≤ m
not_lt_of m n h = search rules

has_some : (s : Slot) → is_slot s ≡ true → 0 < length s.alternatives
has_some s h = lt_of 0 (length s.alternatives) (alternatives_lawful s h).1

-- a test that gave an answer, and one that gave none
test_some : {X : Type 0} (b : Bool) (x y : X) → cond b (Some x) None ≡ Some y → (b ≡ true) × (x ≡ y)
test_some true x y h = (refl, search (rules, h))
test_some false x y h = absurd cc

test_none : {X : Type 0} (b : Bool) (x : X) → cond b (Some x) None ≡ None → b ≡ false
test_none true x h = absurd cc
test_none false x h = refl

pub firsts_within : (slots : List Slot) → are_each_slots slots ≡ true → AreWithin slots (firsts slots)
firsts_within [] h = tt
firsts_within (s ∷ slots) h = let p = both (is_slot s) (are_each_slots slots) h in (has_some s p.0, firsts_within slots p.1)

pub none_before_firsts : (slots : List Slot) (ds : List ℕ) → IsBefore ds (firsts slots) → ⊥
none_before_firsts [] [] b = b
none_before_firsts [] (d ∷ ds) b = b
none_before_firsts (s ∷ slots) [] b = b
none_before_firsts (s ∷ slots) (d ∷ ds) b = ⊎_elim (λ less. omega (arith, less)) (λ same. none_before_firsts slots ds same.1) b

with_same : (p d : ℕ) (ps ds : List ℕ) → d ≡ p → (ds ≡ ps) ⊎ IsBefore ds ps → ((d ∷ ds) ≡ (p ∷ ps)) ⊎ IsBefore (d ∷ ds) (p ∷ ps)
with_same p d ps ds e (inl f) = inl (λ i. e i ∷ f i)
with_same p d ps ds e (inr b) = inr (inr (e, b))

-- one that isn't larger: by what is known of the others where it is the same
at_most_this : (p d : ℕ) (ps ds : List ℕ) → d ≤ p → (ds ≡ ps) ⊎ IsBefore ds ps → ((d ∷ ds) ≡ (p ∷ ps)) ⊎ IsBefore (d ∷ ds) (p ∷ ps)
at_most_this p d ps ds le rest =
    ⊎_elim (λ e. with_same p d ps ds e rest) (λ (ne : d ≢ p). let less : d < p = omega (arith, le, ne) in inr (inl less)) (cases_eq d p)

none_by : (s : Slot) (slots : List Slot) (p : ℕ) (later : Option (List ℕ)) → next_by s p slots later ≡ None
    → (later ≡ None) × (length s.alternatives ≤ p + 1)
none_by s slots p (Some rs) h = absurd cc
none_by s slots p None h = (refl, not_lt_of (p + 1) (length s.alternatives) (test_none _ _ h))

-- after the last choice there is none
pub last_of_all : (slots : List Slot) (ps ds : List ℕ) → AreWithin slots ps → AreWithin slots ds → next slots ps ≡ None → (ds ≡ ps) ⊎ IsBefore ds ps
last_of_all [] [] [] w v h = inl refl
last_of_all [] [] (d ∷ ds) w v h = absurd v
last_of_all [] (p ∷ ps) ds w v h = absurd w
last_of_all (s ∷ slots) [] ds w v h = absurd w
last_of_all (s ∷ slots) (p ∷ ps) [] w v h = absurd v
last_of_all (s ∷ slots) (p ∷ ps) (d ∷ ds) w v h =
    let x = none_by s slots p (next slots ps) h in
    let low = v.0 in
    let high = x.1 in
    at_most_this p d ps ds (omega (arith, low, high)) (last_of_all slots ps ds w.1 v.1 x.0)

before_by : (s : Slot) (slots : List Slot) (p d : ℕ) (ps ds qs : List ℕ) (later : Option (List ℕ))
    → ((rs : List ℕ) → later ≡ Some rs → IsBefore ds rs → (ds ≡ ps) ⊎ IsBefore ds ps)
    → (later ≡ None → (ds ≡ ps) ⊎ IsBefore ds ps)
    → next_by s p slots later ≡ Some qs → IsBefore (d ∷ ds) qs → ((d ∷ ds) ≡ (p ∷ ps)) ⊎ IsBefore (d ∷ ds) (p ∷ ps)
before_by s slots p d ps ds qs (Some rs) on last h b =
    let e : (p ∷ rs) ≡ qs = search (rules, h) in
    ⊎_elim (λ less. inr (inl less)) (λ same. with_same p d ps ds same.0 (on rs refl same.1)) (subst (IsBefore (d ∷ ds)) (sym e) b)
before_by s slots p d ps ds qs None on last h b =
    let e = (test_some _ _ _ h).1 in
    ⊎_elim (λ less. at_most_this p d ps ds (omega (arith, less)) (last refl)) (λ same. absurd (none_before_firsts slots ds same.1))
    (subst (IsBefore (d ∷ ds)) (sym e) b)

-- what is before the next choice is this one, or before it
pub before_next : (slots : List Slot) (ps qs ds : List ℕ) → AreWithin slots ps → AreWithin slots ds → next slots ps ≡ Some qs → IsBefore ds qs
    → (ds ≡ ps) ⊎ IsBefore ds ps
before_next [] [] qs ds w v h b = absurd cc
before_next [] (p ∷ ps) qs ds w v h b = absurd w
before_next (s ∷ slots) [] qs ds w v h b = absurd w
before_next (s ∷ slots) (p ∷ ps) qs [] w v h b = absurd v
before_next (s ∷ slots) (p ∷ ps) qs (d ∷ ds) w v h b =
    before_by s slots p d ps ds qs (next slots ps)
    (λ rs e c. before_next slots ps rs ds w.1 v.1 e c)
    (λ e. last_of_all slots ps ds w.1 v.1 e)
    h b

-- ---- how many are left

left_firsts : (slots : List Slot) → are_each_slots slots ≡ true → left slots (firsts slots) + 1 ≡ number_of slots
left_firsts [] h = refl
left_firsts (s ∷ slots) h =
    let p = both (is_slot s) (are_each_slots slots) h in
    let some = has_some s p.0 in
    let rest = left_firsts slots p.1 in
    more (length s.alternatives - 0 - 1) (length s.alternatives) (number_of slots) (left slots (firsts slots)) (omega (arith, some)) rest
  where
    more : (k n t l : ℕ) → n ≡ suc k → l + 1 ≡ t → (k * t + l) + 1 ≡ n * t
    more k n t l e f = let g : n * t ≡ suc k * t = ap (λ x. x * t) e in let m = suc-mul k t in omega (arith, g, m, f)

fewer_by : (s : Slot) (slots : List Slot) (p : ℕ) (ps qs : List ℕ) (later : Option (List ℕ)) → are_each_slots slots ≡ true
    → ((rs : List ℕ) → later ≡ Some rs → left slots rs < left slots ps)
    → next_by s p slots later ≡ Some qs → left (s ∷ slots) qs < left (s ∷ slots) (p ∷ ps)
fewer_by s slots p ps qs (Some rs) lawful on h =
    let e : (p ∷ rs) ≡ qs = search (rules, h) in
    let less = on rs refl in
    subst (λ x. left (s ∷ slots) x < left (s ∷ slots) (p ∷ ps)) e
    (sums ((length s.alternatives - p - 1) * number_of slots) (left slots rs) (left slots ps) less)
  where
    sums : (a b c : ℕ) → b < c → a + b < a + c
    sums a b c less = omega (arith, less)
fewer_by s slots p ps qs None lawful on h =
    let x = test_some _ _ _ h in
    let room = lt_of (p + 1) (length s.alternatives) x.0 in
    subst (λ y. left (s ∷ slots) y < left (s ∷ slots) (p ∷ ps)) x.1
    (less (length s.alternatives - (p + 1) - 1) (length s.alternatives - p - 1) (number_of slots) (left slots (firsts slots)) (left slots ps)
    (omega (arith, room)) (left_firsts slots lawful))
  where
    less : (k n t l m : ℕ) → n ≡ suc k → l + 1 ≡ t → k * t + l < n * t + m
    less k n t l m e f = let g : n * t ≡ suc k * t = ap (λ x. x * t) e in let x = suc-mul k t in omega (arith, g, x, f)

pub fewer_left : (slots : List Slot) (ps qs : List ℕ) → are_each_slots slots ≡ true → next slots ps ≡ Some qs → left slots qs < left slots ps
fewer_left [] [] qs lawful h = absurd cc
fewer_left [] (p ∷ ps) qs lawful h = absurd cc
fewer_left (s ∷ slots) [] qs lawful h = absurd cc
fewer_left (s ∷ slots) (p ∷ ps) qs lawful h =
    let l = (both (is_slot s) (are_each_slots slots) lawful).1 in
    fewer_by s slots p ps qs (next slots ps) l (λ rs e. fewer_left slots ps rs l e) h

-- ---- choices by their places

pub taken_is_choice : (slots : List Slot) (ps : List ℕ) → AreWithin slots ps → IsChoiceAmong slots (taken slots ps)
taken_is_choice [] [] w = tt
taken_is_choice [] (p ∷ ps) w = absurd w
taken_is_choice (s ∷ slots) [] w = absurd w
taken_is_choice (s ∷ slots) (p ∷ ps) w =
    let e = slice_get-get_or s.alternatives p None w.0 in
    ((p, e ∙ ap Some (sym (ap flat e))), taken_is_choice slots ps w.1)

pub choice_has_places : (slots : List Slot) (choice : List (Option ℤ)) → IsChoiceAmong slots choice → (ps : List ℕ) × AreWithin slots ps × (taken slots ps ≡ choice)
choice_has_places [] [] c = ([], tt, refl)
choice_has_places [] (a ∷ choice) c = absurd c
choice_has_places (s ∷ slots) [] c = absurd c
choice_has_places (s ∷ slots) (a ∷ choice) c =
    let rest = choice_has_places slots choice c.1 in
    (c.0.0 ∷ rest.0, (slice_get_within s.alternatives c.0.0 a c.0.1, rest.1), (λ i. flat (c.0.1 i) ∷ rest.2 i))
