-- Words on the operand stack and in the frame that are within a bound: of parts of code, and of the whole.
use Rattle.std.proofs.Common.{◌≡◌, ◌≤◌, ◌+◌, ◌*◌, ℕ, suc, max, false, refl, arith}
use Rattle.std.proofs.Math.Nat.{max-le}
use Rattle.std.proofs.lemmas.Bool.{or_from}
use Rattle.part_code.specs.Needs.{Needs, both, nothing}
use Rattle.source_laws.proofs.PeakBounds.{through}

-- so many words on the operand stack and in the frame at most, and no value without words
pub record IsLow (n : Needs) (stack frame : ℕ) : Type 0 where
  pub stack_low : n.stack ≤ stack
  pub frame_low : n.frame ≤ frame
  pub fit : n.unfit ≡ false

pub both_low : (a b : Needs) (h f : ℕ) → IsLow a h f → IsLow b h f → IsLow (both a b) h f
both_low a b h f p q =
    record { stack_low = max-le p.stack_low q.stack_low; frame_low = max-le p.frame_low q.frame_low; fit = or_from a.unfit b.unfit p.fit q.fit }

pub low_more : (n : Needs) (h f g e : ℕ) → IsLow n h f → h ≤ g → f ≤ e → IsLow n g e
low_more n h f g e p more wider = record { stack_low = through n.stack h g p.stack_low more; frame_low = through n.frame f e p.frame_low wider; fit = p.fit }

-- what stands so many levels deep, in front of which words are taken, and which declares so many words
abbrev pub Fits : Needs → (taken words depth : ℕ) → Type 0
Fits n taken words depth = IsLow n (80 + 12 * depth) (taken + words + 2 * depth)

pub fits_more : (n : Needs) (t u w x d e : ℕ) → Fits n t w d → t + w ≤ u + x → d ≤ e → Fits n u x e
fits_more n t u w x d e p more deep =
    low_more n (80 + 12 * d) (t + w + 2 * d) (80 + 12 * e) (u + x + 2 * e) p (omega (arith, deep)) (omega (arith, more, deep))

pub both_fit : (a b : Needs) (t w d : ℕ) → Fits a t w d → Fits b t w d → Fits (both a b) t w d
both_fit a b t w d p q = both_low a b (80 + 12 * d) (t + w + 2 * d) p q

pub nothing_fits : (t w d : ℕ) → Fits nothing t w d
nothing_fits t w d = record { stack_low = omega arith; frame_low = omega arith; fit = refl }

-- one that takes no words of the frame
pub stack_fits : (n : Needs) (t w d : ℕ) → n.stack ≤ 80 + 12 * d → n.frame ≡ 0 → n.unfit ≡ false → Fits n t w d
stack_fits n t w d h none all = record { stack_low = h; frame_low = omega (arith, none); fit = all }

-- a value of few words, above an address or some that are passed
pub value_bound : (w p d : ℕ) → p ≤ max w (6 + 12 * d) → w ≤ 64 → suc (max w (max 3 p)) ≤ 65 + 12 * d + 6
value_bound w p d h few =
    let low : p ≤ 64 + 6 + 12 * d = through p (max w (6 + 12 * d)) (64 + 6 + 12 * d) h (max-le (omega (arith, few)) (omega arith)) in
    let all : max w (max 3 p) ≤ 64 + 6 + 12 * d = max-le (omega (arith, few)) (max-le (omega arith) low) in
    omega (arith, all)

pub passed_bound : (height w p d : ℕ) → p ≤ max w (6 + 12 * d) → height + w ≤ 72 → height + max w (max 3 p) ≤ 78 + 12 * d
passed_bound height w p d h few =
    let low : p ≤ w + 6 + 12 * d = through p (max w (6 + 12 * d)) (w + 6 + 12 * d) h (max-le (omega arith) (omega arith)) in
    let all : max w (max 3 p) ≤ w + 6 + 12 * d = max-le (omega arith) (max-le (omega arith) low) in
    omega (arith, all, few)

pub copied_bound : (height w x c : ℕ) → w ≤ x → c ≤ 2 → height + suc x ≤ 72 → height + suc (max 1 (w + c)) ≤ 78
copied_bound height w x c h few room =
    let all : max 1 (w + c) ≤ x + 3 = max-le (omega arith) (omega (arith, h, few)) in
    omega (arith, all, room)
