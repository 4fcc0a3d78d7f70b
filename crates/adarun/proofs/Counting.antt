-- How many steps of code are taken at most for one step of the source: each frame takes few, and few are there at a time.
use Rattle.std.proofs.Common.{◌≡◌, ℕ, zero, suc, ◌+◌, ◌*◌, ◌<◌, ◌≤◌, refl, arith}
use Rattle.std.proofs.Math.Nat.{suc-mul}
use Rattle.std.proofs.lemmas.Nat.{mul-le}
use Rattle.kernel.specs.State.{Kernel}
use Rattle.kernel.specs.Calm.{IsRunner}
use Rattle.kernel.specs.Counting.{Alone, Calls, Done, Own, Spends, next_kernel, next_solo}
use Rattle.kernel.specs.Worlds.{Behaviour, Solo}
use Rattle.compiler.specs.meaning.specs.Meeting.{Last, Over, OwnStep, Takes, Within, spent, taken}
use Rattle.adarun.specs.Progress.{nested_steps}

-- one step of a frame, with what is called by it and what comes then, where so much is left for each step
step_more : (n each a b : ℕ) → a ≤ each → b ≤ n * suc each → suc (a + b) ≤ suc n * suc each
step_more n each a b h i = within (suc n * suc each) (n * suc each) (suc-mul n (suc each)) i
  where
    within : (whole rest : ℕ) → whole ≡ rest + suc each → b ≤ rest → suc (a + b) ≤ whole
    within whole rest is le = omega (arith, h, is, le)

own_more : (n each b : ℕ) → b ≤ n * suc each → suc b ≤ suc n * suc each
own_more n each b h = (let h' = step_more n each 0 b (omega arith) h in omega (arith, h'))

call_more : (n each a : ℕ) → a ≤ each → suc a ≤ suc n * suc each
call_more n each a h = (let h' = step_more n each a 0 h (omega arith) in omega (arith, h'))

pub few_enough : (n most each x : ℕ) → n ≤ most → x ≤ n * each → x ≤ most * each
few_enough n most each x le few = (let up = mul-le n each most each le (omega arith) in omega (arith, few, up))

pub nested_more : (called a b : ℕ) → a ≤ b → nested_steps called a ≤ nested_steps called b
nested_more called zero b le = omega arith
nested_more called (suc a) zero le = absurd (omega (arith, le))
nested_more called (suc a) (suc b) le =
    let inner = nested_more called a b (omega (arith, le)) in
    mul-le called (suc (nested_steps called a)) called (suc (nested_steps called b)) (omega arith) (omega (arith, inner))

-- `Held` is kept by steps that no other task notices; where it holds and the task runs, at most `most` frames are there, and one above `least` takes at most
-- `called` steps by itself
module _ {N T H : Type 0} (g : Behaviour N T H) (t : ℕ) (frames limit : T → ℕ) (Held : Kernel → Solo N T → Type 0)
    (keeps : (k : Kernel) (s : Solo N T) → Held k s → Alone g t k s → Held (next_kernel g t k s) (next_solo g t k s))
    (most least called : ℕ)
    (few : (k : Kernel) (s : Solo N T) → Held k s → IsRunner k t → frames s.task ≤ most)
    (low : (k : Kernel) (s : Solo N T) → Held k s → IsRunner k t → least < frames s.task → limit s.task ≤ called) where
  spends_kept : {d n : ℕ} {k l : Kernel} {s r : Solo N T} → Held k s → Spends g t frames limit d n k s l r → Held l r
  spends_kept h Done = h
  spends_kept {k = k} {s = s} h (Own alone here rest) = spends_kept (keeps k s h alone) rest
  spends_kept {k = k} {s = s} h (Calls alone here above le rest) = spends_kept (spends_kept (keeps k s h alone) above) rest

  -- what a frame takes that was called, with all above it, where so many may be above
  above_few : (room d m x : ℕ) (k : Kernel) (s : Solo N T) → least ≤ d → d + room ≡ most → Held k s → IsRunner k t → frames s.task ≡ suc d
      → m ≤ limit s.task
      → ((less : ℕ) → room ≡ suc less → x ≤ m * suc (nested_steps called less))
      → x ≤ nested_steps called room
  above_few zero d m x k s lo sum h runs here le go = (let up = few k s h runs in absurd (omega (arith, sum, here, up)))
  above_few (suc room) d m x k s lo sum h runs here le go =
      let up = low k s h runs (omega (arith, lo, here)) in
      few_enough m called (suc (nested_steps called room)) x (omega (arith, le, up)) (go room refl)

  called_few : (room d m : ℕ) {k l : Kernel} {s r : Solo N T} → least ≤ d → d + room ≡ most → Held k s → m ≤ limit s.task
      → (all : Spends g t frames limit (suc d) m k s l r)
      → ((less : ℕ) → room ≡ suc less → spent g t frames limit all ≤ m * suc (nested_steps called less))
      → spent g t frames limit all ≤ nested_steps called room
  called_few room d m lo sum h le Done go = omega arith
  called_few room d m {k = k} {s = s} lo sum h le (Own alone here rest) go =
      above_few room d m (suc (spent g t frames limit rest)) k s lo sum h alone.runs here le go
  called_few room d m {k = k} {s = s} lo sum h le (Calls alone here above le' rest) go =
      above_few room d m (suc (spent g t frames limit above + spent g t frames limit rest)) k s lo sum h alone.runs here le go

  spends_few : (room d n : ℕ) {k l : Kernel} {s r : Solo N T} → least ≤ d → d + room ≡ most → Held k s
      → (all : Spends g t frames limit d n k s l r)
      → spent g t frames limit all ≤ n * suc (nested_steps called room)
  spends_few room d n lo sum h Done = omega arith
  spends_few room d (suc n) {k = k} {s = s} lo sum h (Own alone here rest) =
      own_more n (nested_steps called room) (spent g t frames limit rest) (spends_few room d n lo sum (keeps k s h alone) rest)
  spends_few room d (suc n) {k = k} {s = s} lo sum h (Calls {m = m} alone here above le rest) =
      let next = keeps k s h alone in
      step_more n (nested_steps called room) (spent g t frames limit above) (spent g t frames limit rest)
      (called_few room d m lo sum next le above
      (λ less e. spends_few less (suc d) m (omega (arith, lo)) (omega (arith, sum, e)) next above))
      (spends_few room d n lo sum (spends_kept next above) rest)

  begins_here : {d m : ℕ} {k l : Kernel} {s r : Solo N T} → IsRunner l t → Takes g t frames limit d m k s l r → IsRunner k t × (frames s.task ≡ d)
  begins_here last (Last here) = (last, here)
  begins_here last (OwnStep alone here rest) = (alone.runs, here)
  begins_here last (Over alone here above le rest) = (alone.runs, here)
  begins_here last (Within alone here above le) = (alone.runs, here)

  pub takes_few : (room d : ℕ) {n : ℕ} {k l : Kernel} {s r : Solo N T} → least ≤ d → d + room ≡ most → Held k s → IsRunner l t
      → (all : Takes g t frames limit d n k s l r)
      → taken g t frames limit all ≤ n * suc (nested_steps called room)
  takes_few room d lo sum h last (Last {n = n} here) = call_more n (nested_steps called room) 0 (omega arith)
  takes_few room d {k = k} {s = s} lo sum h last (OwnStep {n = n} alone here rest) =
      own_more n (nested_steps called room) (taken g t frames limit rest) (takes_few room d lo sum (keeps k s h alone) last rest)
  takes_few room d {k = k} {s = s} lo sum h last (Over {n = n} {m = m} alone here above le rest) =
      let next = keeps k s h alone in
      step_more n (nested_steps called room) (spent g t frames limit above) (taken g t frames limit rest)
      (called_few room d m lo sum next le above
      (λ less e. spends_few less (suc d) m (omega (arith, lo)) (omega (arith, sum, e)) next above))
      (takes_few room d lo sum (spends_kept next above) last rest)
  takes_few room d {k = k} {s = s} lo sum h last (Within {n = n} {m = m} alone here above le) =
      let next = keeps k s h alone in
      let first = begins_here last above in
      call_more n (nested_steps called room) (taken g t frames limit above)
      (above_few room d m (taken g t frames limit above) (next_kernel g t k s) (next_solo g t k s) lo sum next first.0 first.1 le
      (λ less e. takes_few less (suc d) (omega (arith, lo)) (omega (arith, sum, e)) next last above))
