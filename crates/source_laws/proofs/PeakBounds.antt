-- Sums of words: what the parts of an expression have on the operand stack, and the whole by its levels.
use Rattle.std.proofs.Common.{◌≡◌, ◌≤◌, ◌+◌, ◌*◌, ℕ, suc, max, Bool, true, false, refl, sym, subst, arith}
use Rattle.std.specs.Prelude.{cond}
use Rattle.std.proofs.Math.Nat.{le-max_left, le-max_right, max-le}

pub through : (a b c : ℕ) → a ≤ b → b ≤ c → a ≤ c
through a b c h g = omega (arith, h, g)

-- a part of one word, or of so many
pub within_one : (p v n d : ℕ) → p ≤ max v (2 + n + 12 * d) → v ≡ 1 → p ≤ 2 + n + 12 * d
within_one p v n d h one = omega (arith, h, one)

-- with operators that may wait, and at a level that may be deeper
pub grows : (n m d e : ℕ) → n ≤ m → d ≤ e → 2 + n + 12 * d ≤ 2 + m + 12 * e
grows n m d e h g = omega (arith, h, g)

pub one_within : (p v n m d e : ℕ) → p ≤ max v (2 + n + 12 * d) → v ≡ 1 → n ≤ m → d ≤ e → p ≤ 2 + m + 12 * e
one_within p v n m d e h one more deep = through p (2 + n + 12 * d) (2 + m + 12 * e) (within_one p v n d h one) (grows n m d e more deep)

-- one of as many words as the whole
pub wide_within : (p v w n m d e : ℕ) → p ≤ max v (2 + n + 12 * d) → v ≡ w → n ≤ m → d ≤ e → p ≤ max w (2 + m + 12 * e)
wide_within p v w n m d e h same more deep =
    through p (max v (2 + n + 12 * d)) (max w (2 + m + 12 * e)) h
    (max-le (subst (λ x. x ≤ max w (2 + m + 12 * e)) (sym same) (le-max_left w (2 + m + 12 * e)))
    (through (2 + n + 12 * d) (2 + m + 12 * e) (max w (2 + m + 12 * e)) (grows n m d e more deep) (le-max_right w (2 + m + 12 * e))))

-- ---- the forms of expressions

pub number_bound : (w : ℕ) → 1 ≤ max w (2 + 0 + 12 * 0)
number_bound w = omega arith

pub name_bound : (w p d : ℕ) → p ≤ 2 + 12 * d → max w p ≤ max w (2 + 0 + 12 * d)
name_bound w p d h = max-le (le-max_left w (2 + 0 + 12 * d)) (through p (2 + 12 * d) (max w (2 + 0 + 12 * d)) h (le-max_right w (2 + 12 * d)))

pub parenthesized_bound : (p w n d : ℕ) → p ≤ max w (2 + n + 12 * d) → n ≤ 4 → p ≤ max w (2 + 0 + 12 * suc d)
parenthesized_bound p w n d h few =
    through p (max w (2 + n + 12 * d)) (max w (2 + 0 + 12 * suc d)) h
    (max-le (le-max_left w (2 + 0 + 12 * suc d))
    (through (2 + n + 12 * d) (2 + 0 + 12 * suc d) (max w (2 + 0 + 12 * suc d)) (omega (arith, few)) (le-max_right w (2 + 0 + 12 * suc d))))

pub unary_bound : (p v w m n d : ℕ) → p ≤ max v (2 + m + 12 * d) → v ≡ 1 → m ≤ n → p ≤ max w (2 + n + 12 * d)
unary_bound p v w m n d h one few =
    through p (2 + n + 12 * d) (max w (2 + n + 12 * d)) (one_within p v m n d d h one few (omega arith)) (le-max_right w (2 + n + 12 * d))

pub operand_low : (b : Bool) (right x : ℕ) → suc right ≤ x → 2 ≤ x → cond b (max 2 right) (suc right) ≤ x
operand_low true right x h two = omega (arith, h, two)
operand_low false right x h two = h

right_low : (p v n m d e : ℕ) → p ≤ max v (2 + n + 12 * d) → v ≡ 1 → suc n ≤ m → d ≤ e → suc p ≤ 2 + m + 12 * e
right_low p v n m d e h one more deep = let low = within_one p v n d h one in omega (arith, low, more, deep)

-- the right operand stands above the left one
pub binary_bound : (b : Bool) (pa pb va vb w na nb n da db : ℕ) → pa ≤ max va (2 + na + 12 * da) → va ≡ 1 → na ≤ n
    → pb ≤ max vb (2 + nb + 12 * db) → vb ≡ 1 → suc nb ≤ n
    → max pa (cond b (max 2 pb) (suc pb)) ≤ max w (2 + n + 12 * max da db)
binary_bound b pa pb va vb w na nb n da db ha one few hb beside fewer =
    let deep = max da db in
    let whole = 2 + n + 12 * deep in
    through (max pa (cond b (max 2 pb) (suc pb))) whole (max w whole)
    (max-le (one_within pa va na n da deep ha one few (le-max_left da db))
    (operand_low b pb whole (right_low pb vb nb n db deep hb beside fewer (le-max_right da db)) (omega arith)))
    (le-max_right w whole)

-- the parts of an if expression, which opens two levels
pub elsif_bound : (n pc pv pr vc vv nc nv dc dv dr : ℕ) → pc ≤ max vc (2 + nc + 12 * dc) → vc ≡ 1 → nc ≤ 4
    → pv ≤ max vv (2 + nv + 12 * dv) → vv ≡ n → nv ≤ 4
    → pr ≤ max n (2 + 4 + 12 * dr)
    → max pc (max pv pr) ≤ max n (2 + 4 + 12 * max dc (max dv dr))
elsif_bound n pc pv pr vc vv nc nv dc dv dr hc one few hv same fewer hr =
    let deep = max dc (max dv dr) in
    let whole = 2 + 4 + 12 * deep in
    let later = le-max_right dc (max dv dr) in
    max-le (through pc whole (max n whole) (one_within pc vc nc 4 dc deep hc one few (le-max_left dc (max dv dr))) (le-max_right n whole))
    (max-le (wide_within pv vv n nv 4 dv deep hv same fewer (through dv (max dv dr) deep (le-max_left dv dr) later))
    (wide_within pr n n 4 4 dr deep hr refl (omega arith) (through dr (max dv dr) deep (le-max_right dv dr) later)))

two_levels : (w d : ℕ) → max w (2 + 4 + 12 * d) ≤ max w (2 + 0 + 12 * suc (suc d))
two_levels w d =
    max-le (le-max_left w (2 + 0 + 12 * suc (suc d)))
    (through (2 + 4 + 12 * d) (2 + 0 + 12 * suc (suc d)) (max w (2 + 0 + 12 * suc (suc d))) (omega arith) (le-max_right w (2 + 0 + 12 * suc (suc d))))

pub conditional_bound : (w pc pv pe pl vc vv vl nc nv nl dc dv de dl : ℕ) → pc ≤ max vc (2 + nc + 12 * dc) → vc ≡ 1 → nc ≤ 4
    → pv ≤ max vv (2 + nv + 12 * dv) → vv ≡ w → nv ≤ 4
    → pe ≤ max vv (2 + 4 + 12 * de)
    → pl ≤ max vl (2 + nl + 12 * dl) → vl ≡ w → nl ≤ 4
    → max w (max pc (max pv (max pe pl))) ≤ max w (2 + 0 + 12 * suc (suc (max dc (max dv (max de dl)))))
conditional_bound w pc pv pe pl vc vv vl nc nv nl dc dv de dl hc one few hv same fewer he hl last_same fewest =
    let deep = max dc (max dv (max de dl)) in
    let whole = 2 + 4 + 12 * deep in
    let behind = le-max_right dc (max dv (max de dl)) in
    let later = through (max de dl) (max dv (max de dl)) deep (le-max_right dv (max de dl)) behind in
    through (max w (max pc (max pv (max pe pl)))) (max w whole) (max w (2 + 0 + 12 * suc (suc deep)))
    (max-le (le-max_left w whole)
    (max-le (through pc whole (max w whole) (one_within pc vc nc 4 dc deep hc one few (le-max_left dc (max dv (max de dl)))) (le-max_right w whole))
    (max-le (wide_within pv vv w nv 4 dv deep hv same fewer (through dv (max dv (max de dl)) deep (le-max_left dv (max de dl)) behind))
    (max-le (wide_within pe vv w 4 4 de deep he same (omega arith) (through de (max de dl) deep (le-max_left de dl) later))
    (wide_within pl vl w nl 4 dl deep hl last_same fewest (through dl (max de dl) deep (le-max_right de dl) later))))))
    (two_levels w deep)

-- ---- names

-- a part without parentheses: the offset of a component stands above an address
pub part_bound : (below p r d : ℕ) → below ≤ 1 → p ≤ 1 → r ≤ 2 + 12 * d → max (below + p) r ≤ 2 + 12 * max 0 d
part_bound below p r d low small h = omega (arith, low, small, h)

-- one with parentheses, in which at most eight stand
pub arguments_bound : (below p r c d e : ℕ) → below ≤ 1 → p ≤ c + 5 + 12 * d → c ≤ 8 → r ≤ 2 + 12 * e → max (below + p) r ≤ 2 + 12 * max (suc d) e
arguments_bound below p r c d e low h few later =
    max-le (let deep = le-max_left (suc d) e in omega (arith, low, h, few, deep)) (let deep = le-max_right (suc d) e in omega (arith, later, deep))

pub more_arguments : (p r c d e : ℕ) → p ≤ 2 + 4 + 12 * d → r ≤ c + 5 + 12 * e → max p (suc r) ≤ suc c + 5 + 12 * max d e
more_arguments p r c d e h later =
    max-le (let deep = le-max_left d e in omega (arith, h, deep)) (let deep = le-max_right d e in omega (arith, later, deep))

-- an index or an actual parameter, beside which bounds stand
pub checked_bound : (p v n d : ℕ) → p ≤ max v (2 + n + 12 * d) → v ≡ 1 → n ≤ 4 → max 3 p ≤ 2 + 4 + 12 * d
checked_bound p v n d h one few = max-le (omega arith) (one_within p v n 4 d d h one few (omega arith))
