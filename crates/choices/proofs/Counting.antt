-- The digits of numbers, the least first, and of their products.
use Rattle.std.proofs.Common.{◌≡◌, ℕ, zero, suc, ◌+◌, ◌*◌, ◌/◌, ◌%◌, ◌<◌, ◌≤◌, List, [], ◌∷◌, ◌++◌, drop, get_or, length, ◌^◌, refl, sym, ap, subst, ◌∙◌, arith, append_assoc, map, reverse, All, true, rules}
use Rattle.std.specs.Int.Digits.{digits_of}
use Rattle.std.proofs.lemmas.Int.Digits.{all_below_base_digits_of, digits_of_step}
use Rattle.std.proofs.lemmas.List.{drop_all, drop_more, reverse-append, reverse-reverse}
use Rattle.std.proofs.lemmas.List.Elements.{All-from_recursion}
use Rattle.std.proofs.lemmas.Nat.{mul-le}
use Rattle.std.proofs.Math.Nat.{mul_assoc}
use Rattle.choices.specs.Counting.{number_text, row_of}
use Rattle.choices.specs.Slots.{Slot, are_each_slots, is_slot, number_of}
use Rattle.choices.proofs.Order.{alternatives_lawful, both}

pub row_cons : (n : ℕ) → 0 < n → row_of n ≡ n % 10 ∷ row_of (n / 10)
row_cons n some = ap reverse (digits_of_step 10 n (omega arith) some) ∙ reverse-append (digits_of 10 (n / 10)) (n % 10 ∷ [])

pub push_more : (row old : List ℕ) (number left : ℕ) → row ++ row_of left ≡ old ++ row_of number → 0 < left
    → (row ++ left % 10 ∷ []) ++ row_of (left / 10) ≡ old ++ row_of number
push_more row old number left h some =
    append_assoc row (left % 10 ∷ []) (row_of (left / 10)) ∙ (ap (λ l. row ++ l) (sym (row_cons left some)) ∙ h)

-- ---- a product

-- so far these digits were made; those of the rest times the factor, and what is carried, follow them
pub record Making (made rest : List ℕ) (times carry n : ℕ) : Type 0 where
  pub left : ℕ
  pub is : rest ≡ row_of left
  pub whole : made ++ row_of (left * times + carry) ≡ row_of (n * times)

pub making_first : (row : List ℕ) (times n : ℕ) → row ≡ row_of n → Making [] row times 0 n
making_first row times n is = record { left = n; is = is; whole = (let e : n * times + 0 ≡ n * times = omega arith in ap row_of e) }

first_digit : (m n : ℕ) (l k : List ℕ) → m ∷ l ≡ n ∷ k → m ≡ n
first_digit m n l k e = cc

rest_digits : (m n : ℕ) (l k : List ℕ) → m ∷ l ≡ n ∷ k → l ≡ k
rest_digits m n l k e = cc

-- the least digit of the product, and its rest
sum_rest : (m times carry a b q r : ℕ) → m ≡ 10 * a + b → b * times + carry ≡ 10 * q + r → m * times + carry ≡ 10 * (a * times + q) + r
sum_rest m times carry a b q r e f =
    let g : m * times ≡ (10 * a + b) * times = ap (λ x. x * times) e in
    omega (arith, f, g)

by_parts : (x y r : ℕ) → x ≡ 10 * y + r → r < 10 → (x % 10 ≡ r) × (x / 10 ≡ y)
by_parts x y r e less = (omega (arith, e, less), omega (arith, e, less))

pub making_more : (made rest : List ℕ) (digit times carry n : ℕ) → 0 < times → Making made (digit ∷ rest) times carry n
    → Making (made ++ (digit * times + carry) % 10 ∷ []) rest times ((digit * times + carry) / 10) n
making_more made rest digit times carry n some m = by m.left m.is m.whole
  where
    by : (left : ℕ) → digit ∷ rest ≡ row_of left → made ++ row_of (left * times + carry) ≡ row_of (n * times)
        → Making (made ++ (digit * times + carry) % 10 ∷ []) rest times ((digit * times + carry) / 10) n
    by zero is whole = absurd cc
    by (suc k) is whole =
        let left = suc k in
        let there : digit ∷ rest ≡ left % 10 ∷ row_of (left / 10) = is ∙ row_cons left (omega arith) in
        let here = first_digit digit (left % 10) rest (row_of (left / 10)) there in
        let s = digit * times + carry in
        let e : left ≡ 10 * (left / 10) + digit = omega (arith, here) in
        let f : digit * times + carry ≡ 10 * (s / 10) + s % 10 = omega arith in
        let g = sum_rest left times carry (left / 10) digit (s / 10) (s % 10) e f in
        let x = left * times + carry in
        let p = by_parts x ((left / 10) * times + s / 10) (s % 10) g (omega arith) in
        let more : 0 < x = positive left times carry (omega arith) some in
        let row : row_of x ≡ s % 10 ∷ row_of ((left / 10) * times + s / 10) =
        row_cons x more ∙ (λ i. p.0 i ∷ row_of (p.1 i)) in
        record {
          left = left / 10;
          is = rest_digits digit (left % 10) rest (row_of (left / 10)) there;
          whole = append_assoc made (s % 10 ∷ []) (row_of ((left / 10) * times + s / 10)) ∙ (ap (λ l. made ++ l) (sym row) ∙ whole);
        }
      where
        positive : (m times carry : ℕ) → 0 < m → 0 < times → 0 < m * times + carry
        positive zero times carry h i = absurd (omega (arith, h))
        positive (suc m) zero carry h i = absurd (omega (arith, i))
        positive (suc m) (suc times) carry h i = omega arith

pub making_last : (made : List ℕ) (times carry n : ℕ) → Making made [] times carry n → made ++ row_of carry ≡ row_of (n * times)
making_last made times carry n m = by m.left m.is m.whole
  where
    by : (left : ℕ) → [] ≡ row_of left → made ++ row_of (left * times + carry) ≡ row_of (n * times) → made ++ row_of carry ≡ row_of (n * times)
    by zero is whole = let e : carry ≡ 0 * times + carry = omega arith in ap (λ x. made ++ row_of x) e ∙ whole
    by (suc k) is whole = let e = is ∙ row_cons (suc k) (omega arith) in absurd cc

-- by the rows as the code has them
pub making_at : (row made longer : List ℕ) (i digit times carry n : ℕ) → i < length row → digit ≡ get_or row i 0 → 0 < times
    → longer ≡ made ++ (digit * times + carry) % 10 ∷ [] → Making made (drop i row) times carry n
    → Making longer (drop (i + 1) row) times ((digit * times + carry) / 10) n
making_at row made longer i digit times carry n less is some more m =
    let there : drop i row ≡ digit ∷ drop (i + 1) row = drop_more row i 0 less ∙ ap (λ d. d ∷ drop (i + 1) row) (sym is) in
    subst (λ l. Making l (drop (i + 1) row) times ((digit * times + carry) / 10) n) (sym more)
    (making_more made (drop (i + 1) row) digit times carry n some (subst (λ l. Making made l times carry n) there m))

pub making_done : (row made last : List ℕ) (i times carry n : ℕ) → length row ≤ i → last ≡ made ++ row_of carry → Making made (drop i row) times carry n
    → last ≡ row_of (n * times)
making_done row made last i times carry n le is m =
    is ∙ making_last made times carry n (subst (λ l. Making made l times carry n) (drop_all i row le) m)

-- a byte times a factor of 64 bits, and what is carried
pub carry_small : (digit times carry : ℕ) → digit < 256 → times < 2 ^ 64 → carry < 2 ^ 80 → (digit * times + carry) / 10 < 2 ^ 80
carry_small digit times carry h i j =
    let most = mul-le digit times 255 (2 ^ 64) (omega (arith, h)) (omega (arith, i)) in
    omega (arith, most, j)

-- ---- the number of choices

module _ (slots : List Slot) (at : ℕ) (s : Slot) (less : at < length slots) (is : s ≡ get_or slots at s) where
  slots_here : drop at slots ≡ s ∷ drop (at + 1) slots
  slots_here = drop_more slots at s less ∙ ap (λ x. x ∷ drop (at + 1) slots) (sym is)

  each_here : (n : ℕ) (all : List Slot) → are_each_slots all ≡ true → are_each_slots (drop n all) ≡ true
  each_here zero all h = h
  each_here (suc n) [] h = h
  each_here (suc n) (x ∷ all) h = each_here n all (both (is_slot x) (are_each_slots all) h).1

  pub some_here : are_each_slots slots ≡ true → 0 < length s.alternatives
  some_here lawful =
      let here = subst (λ l. are_each_slots l ≡ true) slots_here (each_here at slots lawful) in
      let some = (alternatives_lawful s (both (is_slot s) (are_each_slots (drop (at + 1) slots)) here).0).1 in
      search (rules, some)

  pub count_next : (n count total : ℕ) → count ≡ length s.alternatives → n * number_of (drop at slots) ≡ total
      → n * count * number_of (drop (at + 1) slots) ≡ total
  count_next n count total same h =
      let rest = number_of (drop (at + 1) slots) in
      let there : number_of (drop at slots) ≡ count * rest = ap number_of slots_here ∙ ap (λ m. m * rest) (sym same) in
      mul_assoc n count rest ∙ (ap (λ m. n * m) (sym there) ∙ h)

pub count_last : (slots : List Slot) (at n total : ℕ) → length slots ≤ at → n * number_of (drop at slots) ≡ total → n ≡ total
count_last slots at n total le h =
    let one : n * number_of (drop at slots) ≡ n * 1 = ap (λ l. n * number_of l) (drop_all at slots le) in
    let e = sym one ∙ h in
    omega (arith, e)

-- ---- its text

pub digits_back : (n : ℕ) → reverse (row_of n) ≡ digits_of 10 n
digits_back n = reverse-reverse (digits_of 10 n)

pub digits_small : (n : ℕ) → All (λ d. d < 10) (digits_of 10 n)
digits_small n = All-from_recursion (λ d. d < 10) (digits_of 10 n) (all_below_base_digits_of 10 n (omega arith))

pub some_choices : (first : ℕ) (slots : List Slot) → (first ≡ 0 → ⊥) → are_each_slots slots ≡ true → (first * number_of slots ≡ 0) → ⊥
some_choices zero slots some lawful none = some refl
some_choices (suc n) slots some lawful none = by (suc n) slots lawful none (omega arith)
  where
    times : (m n : ℕ) → 0 < m → 0 < n → 0 < m * n
    times zero n h i = absurd (omega (arith, h))
    times (suc m) zero h i = absurd (omega (arith, i))
    times (suc m) (suc n) h i = omega arith

    positive : (all : List Slot) → are_each_slots all ≡ true → 0 < number_of all
    positive [] h = omega arith
    positive (s ∷ all) h =
        let p = both (is_slot s) (are_each_slots all) h in
        let some = (alternatives_lawful s p.0).1 in
        times (length s.alternatives) (number_of all) (search (rules, some)) (positive all p.1)

    by : (m : ℕ) (all : List Slot) → are_each_slots all ≡ true → m * number_of all ≡ 0 → 0 < m → ⊥
    by m all h none more = let x = times m (number_of all) more (positive all h) in omega (arith, x, none)

pub text_of_some : (n : ℕ) → (n ≡ 0 → ⊥) → number_text n ≡ map (λ d. d + 48) (digits_of 10 n)
text_of_some zero some = absurd (some refl)
text_of_some (suc n) some = refl
