-- The parts of a set: the first slots that tell them apart, and the number of a combination of these.
use Rattle.std.proofs.Common.{◌≡◌, Bool, ℕ, zero, suc, ◌+◌, ◌-◌, ◌*◌, ◌/◌, ◌%◌, ◌^◌, ◌<◌, ◌≤◌, List, [], ◌∷◌, ◌++◌, length, drop, take, get_or, true, false, nat_eq, nat_le, nat_lt, if◌then◌else◌, refl, sym, ap, subst, ◌∙◌, arith, rules}
use Rattle.std.proofs.Math.Seq.{take-length}
use Rattle.std.proofs.lemmas.List.{drop_all, drop_more, length-drop}
use Rattle.std.proofs.Math.Nat.{mod-add-mod, mod-mod, mul_assoc}
use Rattle.std.proofs.lemmas.Nat.{div-add-mod', div-mul-add, mul-le, mul-mod_first}
use Rattle.base.specs.declared.schedule.ScheduleLine.{ScheduleLine}
use Rattle.choices.specs.Parts.{ArePartsOfAll, IsInPart, count_of_part, front_from, front_of, is_of_part, number_from, number_of_part, parts_of, whole}
use Rattle.choices.specs.Places.{AreWithin, taken}
use Rattle.choices.specs.Slots.{IsInSet, Slot, lines_of, are_each_slots, is_slot, number_of}
use Rattle.choices.specs.declared.part.Part.{Part}
use Rattle.choices.proofs.Order.{both, choice_has_places, taken_is_choice}

-- ---- the first slots

pub front_end : (parts combinations at : ℕ) (slots : List Slot) → length slots ≤ at → front_from parts combinations (drop at slots) ≡ 0
front_end parts combinations at slots le = ap (front_from parts combinations) (drop_all at slots le)

pub front_full : (parts combinations : ℕ) (slots : List Slot) → parts ≤ combinations → front_from parts combinations slots ≡ 0
front_full parts combinations [] le = refl
front_full parts combinations (s ∷ slots) le = let e : nat_le parts combinations ≡ true = search rules in rw e refl

pub front_next : (parts combinations at : ℕ) (slots : List Slot) (s : Slot) → at < length slots → s ≡ get_or slots at s → combinations < parts
    → front_from parts combinations (drop at slots) ≡ suc (front_from parts (combinations * length s.alternatives) (drop (at + 1) slots))
front_next parts combinations at slots s less is few =
    let e : nat_le parts combinations ≡ false = search rules in
    ap (front_from parts combinations) (drop_more slots at s less ∙ ap (λ x. x ∷ drop (at + 1) slots) (sym is)) ∙ rw e refl

pub combinations_next : (at : ℕ) (slots : List Slot) (s : Slot) → at < length slots → s ≡ get_or slots at s
    → number_of (take (suc at) slots) ≡ number_of (take at slots) * length s.alternatives
combinations_next zero [] s less is = absurd (omega (arith, less))
combinations_next (suc at) [] s less is = absurd (omega (arith, less))
combinations_next zero (x ∷ slots) s less is = let e = ap (λ y. length y.alternatives) is in omega (arith, e)
combinations_next (suc at) (x ∷ slots) s less is =
    ap (λ m. length x.alternatives * m) (combinations_next at slots s (omega (arith, less)) is)
    ∙ sym (mul_assoc (length x.alternatives) (number_of (take at slots)) (length s.alternatives))

pub small : (combinations count : ℕ) → combinations < 2 ^ 64 → count < 2 ^ 64 → combinations * count + 2 ^ 32 < 2 ^ 128
small combinations count h i =
    let most = mul-le combinations count (2 ^ 64 - 1) (2 ^ 64 - 1) (omega (arith, h)) (omega (arith, i)) in
    omega (arith, most)

-- ---- the number of a combination

-- its remainder by those of the numbers on the way
remainder_same : (n m a b parts : ℕ) → n % parts ≡ m % parts → (n * a + b) % parts ≡ (m * a + b) % parts
remainder_same n m a b parts e = sym (by n) ∙ (ap (λ x. (x * a % parts + b) % parts) e ∙ by m)
  where
    by : (k : ℕ) → (k % parts * a % parts + b) % parts ≡ (k * a + b) % parts
    by k = ap (λ x. (x + b) % parts) (mul-mod_first k a parts) ∙ mod-add-mod (k * a) parts b

pub number_remainder : (n m front parts : ℕ) (slots : List Slot) (places : List ℕ) → n % parts ≡ m % parts
    → number_from n front slots places % parts ≡ number_from m front slots places % parts
number_remainder n m zero parts slots places e = e
number_remainder n m (suc front) parts [] places e = e
number_remainder n m (suc front) parts (s ∷ slots) [] e = e
number_remainder n m (suc front) parts (s ∷ slots) (p ∷ places) e =
    number_remainder (n * length s.alternatives + p) (m * length s.alternatives + p) front parts slots places
    (remainder_same n m (length s.alternatives) p parts e)

pub number_next : (n at front : ℕ) (slots : List Slot) (places : List ℕ) (s : Slot) (p : ℕ) → at < length slots → at < length places
    → s ≡ get_or slots at s → p ≡ get_or places at p
    → number_from n (suc front) (drop at slots) (drop at places)
    ≡ number_from (n * length s.alternatives + p) front (drop (at + 1) slots) (drop (at + 1) places)
number_next n at front slots places s p less within is same =
    ap (λ l. number_from n (suc front) l (drop at places)) (drop_more slots at s less ∙ ap (λ x. x ∷ drop (at + 1) slots) (sym is))
    ∙ ap (λ l. number_from n (suc front) (s ∷ drop (at + 1) slots) l) (drop_more places at p within ∙ ap (λ x. x ∷ drop (at + 1) places) (sym same))

-- where what is carried on is a remainder itself
pub remainder_next : (total rest count place divisor parts left : ℕ) (slots : List Slot) (places : List ℕ) → divisor ≡ parts
    → total ≡ number_from (rest * count + place) left slots places % parts
    → total ≡ number_from ((rest * count + place) % divisor) left slots places % parts
remainder_next total rest count place divisor parts left slots places same e =
    e
    ∙ (number_remainder (rest * count + place) ((rest * count + place) % parts) left parts slots places (sym (mod-mod (rest * count + place) parts))
    ∙ ap (λ d. number_from ((rest * count + place) % d) left slots places % parts) (sym same))

-- it is that of any choice with the same alternatives of the first slots
pub number_same : (n front : ℕ) (slots : List Slot) (places others : List ℕ) → take front others ≡ take front places
    → number_from n front slots others ≡ number_from n front slots places
number_same n zero slots places others e = refl
number_same n (suc front) [] places others e = refl
number_same n (suc front) (s ∷ slots) [] [] e = refl
number_same n (suc front) (s ∷ slots) [] (q ∷ others) e = absurd cc
number_same n (suc front) (s ∷ slots) (p ∷ places) [] e = absurd cc
number_same n (suc front) (s ∷ slots) (p ∷ places) (q ∷ others) e =
    let first : q ≡ p = cc in
    let rest : take front others ≡ take front places = cc in
    ap (λ x. number_from (n * length s.alternatives + x) front slots others) first
    ∙ number_same (n * length s.alternatives + p) front slots places others rest

pub number_mixed : (n m front : ℕ) (slots : List Slot) (places behind : List ℕ) → AreWithin slots places → m ≤ front
    → number_from n m slots (take front places ++ behind) ≡ number_from n m slots places
number_mixed n zero front slots places behind w le = refl
number_mixed n (suc m) zero slots places behind w le = absurd (omega (arith, le))
number_mixed n (suc m) (suc front) [] [] behind w le = refl
number_mixed n (suc m) (suc front) [] (p ∷ places) behind w le = absurd w
number_mixed n (suc m) (suc front) (s ∷ slots) [] behind w le = absurd w
number_mixed n (suc m) (suc front) (s ∷ slots) (p ∷ places) behind w le =
    number_mixed (n * length s.alternatives + p) m front slots places behind w.1 (omega (arith, le))

-- choices with the same alternatives of the first slots are of the same part
pub same_part : (part : Part) (slots : List Slot) (places others : List ℕ) → take (front_of part slots) others ≡ take (front_of part slots) places
    → is_of_part part slots others ≡ is_of_part part slots places
same_part part slots places others e =
    ap (λ n. nat_eq (n % parts_of part) part.before) (number_same 0 (front_of part slots) slots places others e)

pub mixed_part : (part : Part) (slots : List Slot) (front : ℕ) (places behind : List ℕ) → AreWithin slots places → front_of part slots ≤ front
    → is_of_part part slots (take front places ++ behind) ≡ is_of_part part slots places
mixed_part part slots front places behind w le =
    ap (λ n. nat_eq (n % parts_of part) part.before) (number_mixed 0 (front_of part slots) front slots places behind w le)

-- ---- each choice is of one part, and of no other

-- the remainder by which a combination goes to one of so many parts
abbrev remainder : (parts : ℕ) → List Slot → List ℕ → ℕ
remainder parts slots places = number_from 0 (front_from parts 1 slots) slots places % parts

same_number : (m n : ℕ) → m ≡ n → nat_eq m n ≡ true
same_number m n e = search (rules, e)

pub is_of_some : (others : ℕ) (slots : List Slot) (places : List ℕ)
    → (part : Part) × (part.before + part.after ≡ others) × (is_of_part part slots places ≡ true)
is_of_some others slots places = by (remainder (others + 1) slots places) refl (omega arith)
  where
    by : (n : ℕ) → remainder (others + 1) slots places ≡ n → n < others + 1
        → (part : Part) × (part.before + part.after ≡ others) × (is_of_part part slots places ≡ true)
    by n is less =
        let sum : n + (others - n) ≡ others = omega (arith, less) in (
          record { before = n; after = others - n },
          sum,
          same_number (remainder (n + (others - n) + 1) slots places) n (ap (λ m. remainder (m + 1) slots places) sum ∙ is),
        )

same_by : (m n : ℕ) → nat_eq m n ≡ true → m ≡ n
same_by m n e = search (rules, e)

pub is_of_one : (one other : Part) (slots : List Slot) (places : List ℕ) → parts_of one ≡ parts_of other → is_of_part one slots places ≡ true
    → is_of_part other slots places ≡ true → one.before ≡ other.before
is_of_one one other slots places same h i =
    sym (same_by (remainder (parts_of one) slots places) one.before h)
    ∙ (ap (λ m. remainder m slots places) same
    ∙ same_by (remainder (parts_of other) slots places) other.before i)

-- slots after the first ones are slots as well
pub each_behind : (n : ℕ) (all : List Slot) → are_each_slots all ≡ true → are_each_slots (drop n all) ≡ true
each_behind zero all h = h
each_behind (suc n) [] h = h
each_behind (suc n) (x ∷ all) h = each_behind n all (both (is_slot x) (are_each_slots all) h).1

pub slots_behind : (n : ℕ) (all : List Slot) → take (length all - n) (drop n all) ≡ drop n all
slots_behind n all = subst (λ m. take m (drop n all) ≡ drop n all) (length-drop n all) (take-length (drop n all))

-- the number of a part's choices by what the code has of its first slots
pub number_by : (part : Part) (slots all : List Slot) (front combinations after parts other_parts : ℕ) → slots ≡ all → parts ≡ parts_of part → other_parts ≡ parts_of part
    → after ≡ part.after → front ≡ front_from parts 1 slots → combinations ≡ number_of (take front slots)
    → (combinations + after) / other_parts * number_of (take (length slots - front) (drop front slots)) ≡ number_of_part part all
number_by part slots all front combinations after parts other_parts same p q a f c =
    ap (λ l. (combinations + after) / other_parts * number_of l) (slots_behind front slots)
    ∙ ((λ i. ((c ∙ ap (λ n. number_of (take n slots)) f) i + a i) / q i * number_of (drop (f i) slots))
    ∙ ((λ i. (number_of (take (front_from (p i) 1 slots) slots) + part.after) / parts_of part * number_of (drop (front_from (p i) 1 slots) slots))
    ∙ ap (number_of_part part) same))

-- ---- the set as its only part

whole_front : (slots : List Slot) → front_of whole slots ≡ 0
whole_front [] = refl
whole_front (s ∷ slots) = refl

pub whole_has : (slots : List Slot) (places : List ℕ) → is_of_part whole slots places ≡ true
whole_has slots places = ap (λ m. nat_eq (m % 1) 0) (ap (λ n. number_from 0 n slots places) (whole_front slots))

pub in_whole : (slots : List Slot) (schedule : List ScheduleLine) → IsInSet slots schedule → IsInPart whole slots schedule
in_whole slots schedule set =
    let p = choice_has_places slots set.0 set.1 in
    record { places = p.0; within = p.1; is_of = whole_has slots p.0; schedule_is = set.2 ∙ sym (ap (lines_of slots) p.2) }

pub part_in_set : (part : Part) (slots : List Slot) (schedule : List ScheduleLine) → IsInPart part slots schedule → IsInSet slots schedule
part_in_set part slots schedule p = (taken slots p.places, taken_is_choice slots p.places p.within, p.schedule_is)

pub whole_number : (slots : List Slot) → number_of_part whole slots ≡ number_of slots
whole_number slots =
    let e = ap (λ n. (number_of (take n slots) + 0) / 1 * number_of (drop n slots)) (whole_front slots) in
    e ∙ (let one : 1 * number_of slots ≡ number_of slots = omega arith in one)

-- ---- how many combinations a part has

-- one more combination is one more of the part where it leaves the part's remainder
one_more : (before after n q r : ℕ) → n ≡ q * (before + after + 1) + r → r < before + after + 1
    → (suc n + after) / (before + after + 1) ≡ (if nat_eq r before then 1 else 0) + (n + after) / (before + after + 1)
one_more before after n q r is less = by (nat_eq r before) refl
  where
    quotient : (m p rest : ℕ) → m ≡ p * (before + after + 1) + rest → rest < before + after + 1 → m / (before + after + 1) ≡ p
    quotient m p rest e fits = ap (λ k. k / (before + after + 1)) e ∙ div-mul-add p (before + after + 1) rest fits

    turn : (p : ℕ) → (p + 1) * (before + after + 1) ≡ p * (before + after + 1) + (before + after + 1)
    turn p = omega arith

    by : (b : Bool) → nat_eq r before ≡ b → (suc n + after) / (before + after + 1) ≡ (if b then 1 else 0) + (n + after) / (before + after + 1)
    by true e =
        let same : r ≡ before = same_by r before e in
        let next = turn q in
        let first = quotient (suc n + after) (q + 1) 0 (omega (arith, is, same, next)) (omega arith) in
        let second = quotient (n + after) q (before + after) (omega (arith, is, same)) (omega arith) in
        first ∙ (let k : q + 1 ≡ 1 + q = omega arith in k ∙ ap (λ m. 1 + m) (sym second))
    by false e =
        beside (nat_lt r before) (nat_lt before r) refl refl
        ∙ (let none : (n + after) / (before + after + 1) ≡ 0 + (n + after) / (before + after + 1) = omega arith in none)
      where
        beside : (c d : Bool) → nat_lt r before ≡ c → nat_lt before r ≡ d → (suc n + after) / (before + after + 1) ≡ (n + after) / (before + after + 1)
        beside true d h i =
            let less_than : r < before = search (rules, h) in
            quotient (suc n + after) q (suc r + after) (omega (arith, is)) (omega (arith, less_than))
            ∙ sym (quotient (n + after) q (r + after) (omega (arith, is)) (omega (arith, less_than)))
        beside false true h i =
            let more_than : before < r = search (rules, i) in
            let next = turn q in
            quotient (suc n + after) (q + 1) (r - before) (omega (arith, is, next, more_than)) (omega (arith, less))
            ∙ sym (quotient (n + after) (q + 1) (r - (before + 1)) (omega (arith, is, next, more_than)) (omega (arith, less, more_than)))
        beside false false h i =
            let at_least : before ≤ r = search (rules, h) in
            let at_most : r ≤ before = search (rules, i) in
            let same : r ≡ before = omega (arith, at_least, at_most) in
            absurd (let no_yes : false ≡ true = sym e ∙ same_number r before same in cc)

pub counts : (part : Part) (n : ℕ) → (n + part.after) / parts_of part ≡ count_of_part part n
counts part zero =
    let none : 0 + part.after ≡ 0 * parts_of part + part.after = omega arith in
    ap (λ n. n / parts_of part) none ∙ div-mul-add 0 (parts_of part) part.after (omega arith)
counts part (suc n) =
    one_more part.before part.after n (n / parts_of part) (n % parts_of part) (sym (div-add-mod' n (parts_of part))) (omega arith)
    ∙ ap (λ m. (if nat_eq (n % parts_of part) part.before then 1 else 0) + m) (counts part n)

pub parts_of_all : ArePartsOfAll
parts_of_all = record { some = is_of_some; one = is_of_one; all = in_whole; no_more = part_in_set; count = whole_number; combinations = λ part slots. ap (λ n. n * number_of (drop (front_of part slots) slots)) (counts part (number_of (take (front_of part slots) slots))) }
