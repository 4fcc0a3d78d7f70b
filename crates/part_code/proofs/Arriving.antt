-- Code that computes a value and stores it by its last instruction arrives there from each state.
use Rattle.std.proofs.Common.{◌≡◌, ◌≤◌, ℕ, suc, ◌-◌, ℤ, List, [], refl, sym, subst, arith}
use Rattle.base.specs.declared.schedule.ScheduleLine.{ScheduleLine}
use Rattle.kernel.specs.State.{Kernel}
use Rattle.image.specs.Sections.{Sections}
use Rattle.image.specs.Frames.{Words, Frame}
use Rattle.image.specs.Steps.{behaviour}
use Rattle.types.specs.Evaluating.{Calls, call}
use Rattle.types.specs.Evaluations.{Val, Gives, Meaningless, Raises}
use Rattle.types.specs.Places.{Place}
use Rattle.expr_soundness.specs.meaning.specs.MeetingLaws.{takes_more}
use Rattle.expr_soundness.specs.meaning.specs.Programs.{Program}
use Rattle.expr_soundness.specs.meaning.specs.SameMeaning.{frames_of}
use Rattle.expr_soundness.specs.meaning.specs.Works.{Activation, Store}
use Rattle.expr_code.specs.Coming.{Comes, most_steps}
use Rattle.expr_code.specs.Seeing.{Package}
use Rattle.expr_code.specs.Views.{placed}
use Rattle.part_code.specs.Jumping.{Here, Jumps}
use Rattle.part_code.specs.Resting.{Framed}
use Rattle.part_code.specs.Storing.{Arrives, Assigns, Puts, Stores}

-- by cases of a value, of which something holds
pub by_evaluation : {A : Type 0} (P : Val A → Type 0) (G : Type 0) (u : Val A) → ((z : A) → u ≡ Gives z → P (Gives z) → G)
    → ((e : ℕ) → u ≡ Raises e → P (Raises e) → G) → (u ≡ Meaningless → P Meaningless → G) → P u → G
by_evaluation P G (Gives z) gives raises none h = gives z refl h
by_evaluation P G (Raises e) gives raises none h = raises e refl h
by_evaluation P G Meaningless gives raises none h = none refl h

module _ (i : Sections) (program : Program) (g : Package) {A : Type 0} where
  arrives_by : (schedule : List ScheduleLine) (k : Kernel) (t : ℕ) (m : Words) (f : Frame) (fs : List Frame) (from mid to : ℕ) (later : Framed)
      (stack : A → List ℤ) (store_after : A → Store) (own_after : A → Activation) (u : Val A)
      → from ≤ mid → to ≡ suc mid
      → Comes i schedule k t m (placed f from []) fs (mid - from) mid stack u
      → ((x : A) → u ≡ Gives x → Puts i program g schedule k t m f fs mid (stack x) [] later (store_after x) (own_after x))
      → Arrives i program g schedule k t m f fs from to later store_after own_after u
  arrives_by schedule k t m f fs from mid to later stack store_after own_after (Gives x) up end comes puts =
      (mid, stack x, up, omega (arith, end), subst (Jumps i (suc mid)) (sym end) Here, comes, puts x refl)
  arrives_by schedule k t m f fs from mid to later stack store_after own_after (Raises e) up end comes puts =
      let below = comes.5 in (
        comes.0,
        comes.1,
        comes.2,
        takes_more (behaviour i schedule) t frames_of (most_steps i) (suc (to - from)) (omega (arith, up, end)) comes.3,
        comes.4,
        omega (arith, below, end),
        comes.6,
      )
  arrives_by schedule k t m f fs from mid to later stack store_after own_after Meaningless up end comes puts = tt

  pub stores_assign : {v later : Framed} {from to : ℕ} {value : Calls → Place → Val A} {store_after : A → Store → Store}
      {own_after : A → Activation → Activation} → Stores i program g v later from to value store_after own_after
      → Assigns i program g v later from to value store_after own_after
  stores_assign {v} {later} {from} {to} {value} {store_after} {own_after} h = record {
    same = h.same;
    arrives = λ schedule k t m f fs store a p answers calm is_at locals within stands rests own knows left.
        arrives_by schedule k t m f fs from h.mid to later (h.stack []) (λ x. store_after x store) (λ x. own_after x a) (value (call p.frames_left) p)
        h.up h.end
        (h.computes (call p.frames_left) p.frames_left (answers p.frames_left) schedule k t m f fs p [] calm knows.sees left)
        (λ x gives. h.puts schedule k t m f fs store a p x is_at locals within stands rests own knows gives);
  }
