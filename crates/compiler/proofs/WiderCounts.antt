-- What keeps a count of steps keeps each count that is nowhere lower.
use Rattle.std.proofs.Common.{◌≡◌, ◌+◌, ◌≤◌, ℕ, suc, refl, sym, ap, ◌∙◌, arith}
use Rattle.kernel.specs.Counting.{Calls, Done, Own, Spends, next_solo}
use Rattle.kernel.specs.State.{Kernel}
use Rattle.kernel.specs.Worlds.{Behaviour, Local, Solo, Tasks, World, among, run}
use Rattle.ada_tree.specs.ProgramTree.{ProgramTree}
use Rattle.image.specs.Code.{start}
use Rattle.image.specs.Frames.{TaskState}
use Rattle.image.specs.Sections.{Sections}
use Rattle.image.specs.Steps.{behaviour}
use Rattle.meaning.specs.Following.{Goes, Paced, Paces, Rests}
use Rattle.meaning.specs.Meeting.{Begun, Busy, Counted, Idle, Last, Over, OwnStep, Takes, Within, spent, taken}
use Rattle.meaning.specs.SameMeaning.{KeepsCount, frames_of}
use Rattle.meaning.specs.Source.{source_behaviour, source_start}

within : (a b c : ℕ) → a ≤ b → b ≤ c → a ≤ c
within a b c h k = omega (arith, h, k)

both : (a b c d : ℕ) → a ≡ b → c ≡ d → suc (a + c) ≡ suc (b + d)
both a b c d e f = omega (arith, e, f)

module _ {N T H : Type 0} (g : Behaviour N T H) (frames low high : T → ℕ) (up : (s : T) → low s ≤ high s) where
  module _ (t : ℕ) where
    abbrev wider : {d n : ℕ} {k l : Kernel} {s r : Solo N T} → Spends g t frames low d n k s l r → Spends g t frames high d n k s l r
    wider Done = Done
    wider (Own alone here rest) = Own alone here (wider rest)
    wider {k = k} {s = s} (Calls {m = m} alone here above le rest) =
        let called = (next_solo g t k s).task in
        Calls alone here (wider above) (within m (low called) (high called) le (up called)) (wider rest)

    wider_spent : {d n : ℕ} {k l : Kernel} {s r : Solo N T} (x : Spends g t frames low d n k s l r)
        → spent g t frames high (wider x) ≡ spent g t frames low x
    wider_spent Done = refl
    wider_spent (Own alone here rest) = ap suc (wider_spent rest)
    wider_spent (Calls alone here above le rest) =
        both (spent g t frames high (wider above)) (spent g t frames low above) (spent g t frames high (wider rest)) (spent g t frames low rest)
        (wider_spent above) (wider_spent rest)

    abbrev wider_takes : {d n : ℕ} {k l : Kernel} {s r : Solo N T} → Takes g t frames low d n k s l r → Takes g t frames high d n k s l r
    wider_takes (Last here) = Last here
    wider_takes (OwnStep alone here rest) = OwnStep alone here (wider_takes rest)
    wider_takes {k = k} {s = s} (Over {m = m} alone here above le rest) =
        let called = (next_solo g t k s).task in
        Over alone here (wider above) (within m (low called) (high called) le (up called)) (wider_takes rest)
    wider_takes {k = k} {s = s} (Within {m = m} alone here above le) =
        let called = (next_solo g t k s).task in
        Within alone here (wider_takes above) (within m (low called) (high called) le (up called))

    wider_taken : {d n : ℕ} {k l : Kernel} {s r : Solo N T} (x : Takes g t frames low d n k s l r)
        → taken g t frames high (wider_takes x) ≡ taken g t frames low x
    wider_taken (Last here) = refl
    wider_taken (OwnStep alone here rest) = ap suc (wider_taken rest)
    wider_taken (Over alone here above le rest) =
        both (spent g t frames high (wider above)) (spent g t frames low above) (taken g t frames high (wider_takes rest)) (taken g t frames low rest)
        (wider_spent above) (wider_taken rest)
    wider_taken (Within alone here above le) = ap suc (wider_taken above)

  wider_counted : (w : World (Tasks N T)) (j : ℕ) → Counted g frames low w j → Counted g frames high w j
  wider_counted w j (Idle none one) = Idle none one
  wider_counted w j (Busy t n s runs all le many) =
      let own = w.rest.tasks t in
      Busy t n s runs (wider_takes t all) (within n (low own) (high own) le (up own)) (many ∙ sym (wider_taken t all))
  wider_counted w j (Begun t n s runs all le many) =
      let own = w.rest.tasks t in
      Begun t n s runs (wider_takes t all) (within n (low own) (high own) le (up own)) (many ∙ sym (wider_taken t all))

-- what is paced by one count is so by another one, as which each of its steps counts too
paced_more : {D E : Type 0} (f : Local D) (g : Local E) (Low High : World E → ℕ → Type 0) (v : World D) (w : World E) (at : ℕ → ℕ)
    → ((u : World E) (j : ℕ) → Low u j → High u j) → Paced f g Low v w at → Paced f g High v w at
paced_more {E = E} f g Low High v w at more p = record {
  begins = p.begins;
  same = p.same;
  paces = λ n. paces_more (run g (at n) w) (at n) (at (suc n)) (p.paces n);
  reaches = p.reaches;
}
  where
    paces_more : (u : World E) (before later : ℕ) → Paces Low u before later → Paces High u before later
    paces_more u before later (Rests e) = Rests e
    paces_more u before later (Goes j e c) = Goes j e (more u (suc j) c)

pub keeps_more : (p : ProgramTree) (i : Sections) (low high : TaskState → ℕ) → ((s : TaskState) → low s ≤ high s) → KeepsCount p i low → KeepsCount p i high
keeps_more p i low high up keeps = λ schedule is.
    let x = keeps schedule is in (
      x.0,
      paced_more (among (source_behaviour p schedule)) (among (behaviour i schedule)) (Counted (behaviour i schedule) frames_of low)
          (Counted (behaviour i schedule) frames_of high) (source_start p schedule) (start i schedule) x.0
          (wider_counted (behaviour i schedule) frames_of low high up) x.1,
    )
