-- What the code of an image writes up to a time, of the program that means the same.
use Rattle.std.proofs.Common.{◌≡◌, ℕ, zero, suc, ◌+◌, ◌-◌, ◌<◌, ◌≤◌, ℤ, pos, List, [], ◌∷◌, ◌++◌, Option, true, refl, sym, ap, subst, ◌∙◌, ⊎_elim, append_assoc, arith, rules}
use Rattle.std.specs.Prelude.{int_le, ◌<ℤ◌, ◌≤ℤ◌}
use Rattle.std.specs.Io.KnownBytes.{Appends}
use Rattle.std.proofs.lemmas.Int.{ints}
use Rattle.std.proofs.lemmas.List.{append-nil}
use Rattle.base.specs.Schedule.{is_schedule}
use Rattle.base.specs.declared.schedule.ScheduleLine.{ScheduleLine}
use Rattle.clock.specs.Schedules.{IsScheduleText}
use Rattle.kernel.specs.Calm.{Calm, IsRunner}
use Rattle.kernel.specs.Laws.{LeftUnmoved}
use Rattle.kernel.specs.RunLaws.{run_plus}
use Rattle.kernel.specs.State.{Kernel, Line}
use Rattle.kernel.specs.Text.{lines_text}
use Rattle.kernel.specs.Worlds.{Local, Tasks, World, among, run, step}
use Rattle.kernel.proofs.Calm.{runner_is_calm}
use Rattle.kernel.proofs.Unmoved.{lines_grow}
use Rattle.image.specs.Attachments.{handling_object}
use Rattle.image.specs.Code.{code, partition_of, start}
use Rattle.image.specs.Rules.{IsWellFormed}
use Rattle.image.specs.Sections.{Sections}
use Rattle.image.specs.Steps.{behaviour, is_open}
use Rattle.image_laws.specs.Laws.{KernelKept}
use Rattle.compiler.specs.ada_tree.specs.ProgramTree.{ProgramTree}
use Rattle.compiler.specs.expr_code.specs.Coming.{most_steps}
use Rattle.compiler.specs.meaning.specs.Following.{Paced}
use Rattle.compiler.specs.meaning.specs.Meeting.{Counted}
use Rattle.compiler.specs.meaning.specs.SameMeaning.{KeepsCount, SameMeaning, frames_of}
use Rattle.compiler.specs.meaning.specs.Source.{source, source_behaviour, source_names, source_start}
use Rattle.compiler.specs.meaning.specs.Works.{Store, TaskWork}
use Rattle.compiler.specs.Compiled.{IsBounded}
use Rattle.likeness.proofs.Late.{AreFrom, Late, WritesAtOnce, run_late, step_at_once}
use Rattle.likeness.proofs.Onward.{IsAhead, begins_ahead, run_onward}
use Rattle.machine.specs.Bounds.{IsTimeBound, bounded_text, cut_line}
use Rattle.machine.specs.Stands.{EndsBy}
use Rattle.machine.specs.declared.bound.Bound.{Bound}
use Rattle.machine.specs.declared.bound.Cut.{Cut}
use Rattle.machine.specs.declared.bound.Cut.TheVariants as cuts
use Rattle.machine.specs.declared.reports.Outcome as machine
use Rattle.machine.proofs.Runs.{starts_without_lines}
use Rattle.adarun.specs.Accepted.{Compiles}
use Rattle.adarun.specs.Timed.{AreAfter, AreUpTo, StopsBy, WritesItsMeaningUntil, WritesUntil, cut_text}
use Rattle.adarun.proofs.Between.{IsReached, ShowsAs, grows, reached, shown}
use Rattle.adarun.proofs.Reaching.{ImageLaws, source_far}
use Rattle.adarun.proofs.Running.{same_names}

-- ---- times of lines

le_of : (a b : ℤ) → int_le a b ≡ true → a ≤ℤ b
le_of a b h = grind (arith, ints)

le_then : (a b c : ℤ) → a ≤ℤ b → b ≤ℤ c → a ≤ℤ c
le_then a b c h i = grind (arith, ints)

le_itself : (a : ℤ) → a ≤ℤ a
le_itself a = grind (arith, ints)

lt_then : (a b c : ℤ) → a <ℤ b → b ≤ℤ c → a <ℤ c
lt_then a b c h i = grind (arith, ints)

up_to_later : (a b : ℤ) (lines : List Line) → a ≤ℤ b → AreUpTo a lines → AreUpTo b lines
up_to_later a b [] le h = tt
up_to_later a b (l ∷ lines) le h = (le_then l.time a b h.0 le, up_to_later a b lines le h.1)

both_up_to : (time : ℤ) (xs ys : List Line) → AreUpTo time xs → AreUpTo time ys → AreUpTo time (xs ++ ys)
both_up_to time [] ys h i = i
both_up_to time (x ∷ xs) ys h i = (h.0, both_up_to time xs ys h.1 i)

both_after : (time : ℤ) (xs ys : List Line) → AreAfter time xs → AreAfter time ys → AreAfter time (xs ++ ys)
both_after time [] ys h i = i
both_after time (x ∷ xs) ys h i = (h.0, both_after time xs ys h.1 i)

from_after : (until time : ℤ) (lines : List Line) → until <ℤ time → AreFrom time lines → AreAfter until lines
from_after until time [] lt h = tt
from_after until time (l ∷ lines) lt h = (lt_then until time l.time lt (le_of time l.time h.0), from_after until time lines lt h.1)

last_step : {D : Type 0} (f : Local D) (n : ℕ) (w : World D) → run f (suc n) w ≡ step f (run f n w)
last_step f n w = let e : suc n ≡ n + 1 = omega arith in ap (λ m. run f m w) e ∙ run_plus f n 1 w

-- ---- the code

module _ (i : Sections) (well_formed : IsWellFormed i) (schedule : List ScheduleLine) (lawful : is_schedule schedule ≡ true) (unmoved : LeftUnmoved) (kept : KernelKept) where
  abbrev k : ℕ → Kernel
  k n = (code i schedule n).kernel

  ahead_at : (n : ℕ) → IsAhead (k n)
  ahead_at n =
      (run_onward (among (behaviour i schedule)) n (start i schedule) (begins_ahead (partition_of i) (handling_object i) schedule lawful)).ahead

  onward : (m n : ℕ) → m ≤ n → (k m).now ≤ℤ (k n).now
  onward m n le =
      let f = among (behaviour i schedule) in
      let far : m + (n - m) ≡ n = omega (arith, le) in
      let there : run f (n - m) (code i schedule m) ≡ code i schedule n = sym (run_plus f m (n - m) (start i schedule)) ∙ ap (code i schedule) far in
      le_of (k m).now (k n).now (subst (λ w. int_le (k m).now w.kernel.now ≡ true) there (run_onward f (n - m) (code i schedule m) (ahead_at m)).now)

  late : (m n : ℕ) → m ≤ n → Late (k m) (k n)
  late m n le =
      let f = among (behaviour i schedule) in
      let far : m + (n - m) ≡ n = omega (arith, le) in
      let there : run f (n - m) (code i schedule m) ≡ code i schedule n = sym (run_plus f m (n - m) (start i schedule)) ∙ ap (code i schedule) far in
      subst (λ w. Late (k m) w.kernel) there (run_late unmoved f (n - m) (code i schedule m) (ahead_at m))

  calm_at : (n t : ℕ) → IsRunner (k n) t → Calm (k n) t
  calm_at n t runs = runner_is_calm (is_open i (code i schedule n).rest.memory) (k n) t (kept i well_formed schedule n) runs

  at_once : (n : ℕ) → WritesAtOnce (k n) (k (suc n))
  at_once n =
      let f = among (behaviour i schedule) in
      let w = code i schedule n in
      subst (λ v. WritesAtOnce w.kernel v.kernel) (sym (last_step f n (start i schedule)))
      (step_at_once unmoved f w.kernel w.rest w.kernel.outcome w.kernel.running refl refl (calm_at n))

  -- no line is later than the clock
  up_to_now : (n : ℕ) → AreUpTo (k n).now (k n).lines
  up_to_now zero = subst (λ l. AreUpTo (k 0).now l) (sym (starts_without_lines unmoved i schedule)) tt
  up_to_now (suc n) =
      let before = up_to_later (k n).now (k (suc n)).now (k n).lines (onward n (suc n) (omega arith)) (up_to_now n) in
      ⊎_elim
      (λ same. subst (λ l. AreUpTo (k (suc n)).now l) (sym same) before)
      (λ wrote.
      let at : wrote.0.time ≤ℤ (k (suc n)).now = subst (λ z. z ≤ℤ (k (suc n)).now) (wrote.3 ∙ sym wrote.2) (le_itself (k (suc n)).now) in
      subst (λ l. AreUpTo (k (suc n)).now l) (sym wrote.1) (both_up_to (k (suc n)).now (k n).lines (wrote.0 ∷ []) before (at, tt)))
      (at_once n)

  -- where the clock passes the time with a step, what that writes is later
  module _ (until : ℤ) (n : ℕ) (passes : until <ℤ (k (suc n)).now) where
    first_after : (lines : List Line) × ((k (suc n)).lines ≡ (k n).lines ++ lines) × AreAfter until lines
    first_after =
        ⊎_elim
        (λ same. ([], same ∙ sym (append-nil (k n).lines), tt))
        (λ wrote.
        let at : (k (suc n)).now ≡ wrote.0.time = wrote.3 ∙ sym wrote.2 in
        (wrote.0 ∷ [], wrote.1, (subst (λ z. until <ℤ z) at passes, tt)))
        (at_once n)

    pub after_step : (m : ℕ) → suc n ≤ m → (lines : List Line) × ((k m).lines ≡ (k n).lines ++ lines) × AreAfter until lines
    after_step m le =
        let one = first_after in
        let l = late (suc n) m le in (
          one.0 ++ l.more,
          l.grown ∙ (ap (λ x. x ++ l.more) one.1 ∙ append_assoc (k n).lines one.0 l.more),
          both_after until one.0 l.more one.2 (from_after until (k (suc n)).now l.more passes l.from),
        )

    pub passed_later : (m : ℕ) → suc n ≤ m → until <ℤ (k m).now
    passed_later m le = lt_then until (k (suc n)).now (k m).now passes (onward (suc n) m le)

  -- ---- the program that means the same

  module _ (p : ProgramTree) (means : SameMeaning p i) (counted : KeepsCount p i (most_steps i)) (bounded : IsBounded p i) (laws : ImageLaws) where
    abbrev at : ℕ → ℕ
    at = (counted schedule lawful).0

    abbrev f : Local (Tasks Store TaskWork)
    f = among (source_behaviour p schedule)

    paced : Paced f (among (behaviour i schedule)) (Counted (behaviour i schedule) frames_of (most_steps i)) (source_start p schedule) (start i schedule) at
    paced = (counted schedule lawful).1

    abbrev s : ℕ → Kernel
    s n = (source p schedule n).kernel

    abbrev Reached : ℕ → ℕ → Type 0
    Reached m n = IsReached f (behaviour i schedule) frames_of (most_steps i) (source_start p schedule) (start i schedule) at lines_grow paced m n

    grown : (n more : ℕ) → at n ≤ at (n + more)
    grown n more = grows f (behaviour i schedule) frames_of (most_steps i) (source_start p schedule) (start i schedule) at lines_grow paced n more

    module _ (until : ℤ) (limit m n : ℕ) (is : Reached m n) (same : ShowsAs (k m) (s n)) where
      beyond : until <ℤ (k (suc m)).now → (more : ℕ) → (lines : List Line) × ((s (n + more)).lines ≡ (s n).lines ++ lines) × AreAfter until lines
      beyond passes zero =
          let e : n + zero ≡ n = omega arith in
          ([], ap (λ j. (s j).lines) e ∙ sym (append-nil (s n).lines), tt)
      beyond passes (suc more) =
          let low = is.less in
          let up = grown (suc n) more in
          let e : n + suc more ≡ suc n + more = omega arith in
          let there : (s (suc n + more)).lines ≡ (k (at (suc n + more))).lines = ap (λ x. x.lines) (paced.same (suc n + more)) in
          let later = after_step until m passes (at (suc n + more)) (omega (arith, low, up)) in
          (later.0, ap (λ j. (s j).lines) e ∙ (there ∙ (later.1 ∙ ap (λ x. x ++ later.0) same.lines)), later.2)

      stops : (c : Cut) → IsTimeBound i schedule until limit m c → StopsBy p schedule until limit n c
      stops cuts.Time b =
          let low = is.less in
          record {
            passes = subst (λ x. until <ℤ x.now) (sym (paced.same (suc n))) (passed_later until m b.passes (at (suc n)) (omega (arith, low)));
            beyond = beyond b.passes;
          }
      stops cuts.Steps b =
          source_far laws p i well_formed bounded schedule f (source_start p schedule) at paced limit n (subst (λ x. Reached x n) b.whole is)

    within : (until : ℤ) (limit m : ℕ) (c : Cut) → IsTimeBound i schedule until limit m c → pos 0 ≤ℤ until → (k m).now ≤ℤ until
    within until limit m cuts.Time b natural = b.within natural
    within until limit m cuts.Steps b natural = b.within natural

    same_text : (bound : Bound) (n : ℕ) → ShowsAs (k bound.steps) (s n) → bounded_text i schedule bound ≡ cut_text bound.cut p schedule n
    same_text bound n same =
        ap (λ names. lines_text names (k bound.steps).lines ++ cut_line bound.cut names (k bound.steps).outcome (k bound.steps).now) (same_names p i schedule lawful means)
        ∙ (λ j. lines_text (source_names p) (same.lines j) ++ cut_line bound.cut (source_names p) (same.outcome j) (same.now j))

    pub writes_until : (until : ℤ) (limit : ℕ) (bound : Bound) (outcome : machine.Outcome) (old new : Option (List ℕ))
        → IsTimeBound i schedule until limit bound.steps bound.cut → Appends old new (bounded_text i schedule bound) → EndsBy outcome (code i schedule bound.steps)
        → WritesUntil p schedule until limit bound.cut outcome old new
    writes_until until limit bound outcome old new b appends ends =
        let m = bound.steps in
        let last = reached f (behaviour i schedule) frames_of (most_steps i) (source_start p schedule) (start i schedule) at lines_grow paced m in
        let same : ShowsAs (k m) (s last.0) =
        shown f (behaviour i schedule) frames_of (most_steps i) (source_start p schedule) (start i schedule) at lines_grow paced (ahead_at 0) m last.0 last.1 in
        record {
          steps = last.0;
          appends = subst (Appends old new) (same_text bound last.0 same) appends;
          ends = sym same.outcome ∙ ends.outcome;
          time = sym same.now ∙ ends.time;
          within = λ natural. subst (λ z. z ≤ℤ until) same.now (within until limit m bound.cut b natural);
          lines = λ natural. subst (λ l. AreUpTo until l) same.lines
              (up_to_later (k m).now until (k m).lines (within until limit m bound.cut b natural) (up_to_now m));
          stops = stops until limit m last.0 last.1 same bound.cut b;
        }

pub meant_until : (outcome : machine.Outcome) (t input : List ℕ) (i : Sections) (schedule : List ScheduleLine) (until : ℤ) (limit : ℕ) (bound : Bound) (old new : Option (List ℕ))
    → LeftUnmoved → KernelKept → ImageLaws → Compiles t i → IsScheduleText input schedule → IsTimeBound i schedule until limit bound.steps bound.cut
    → Appends old new (bounded_text i schedule bound) → EndsBy outcome (code i schedule bound.steps) → WritesItsMeaningUntil t input until limit bound.cut outcome old new
meant_until outcome t input i schedule until limit bound old new unmoved kept laws c read b appends ends =
    let lawful : is_schedule schedule ≡ true = search rules in
    record {
      schedule = schedule;
      is_schedule = read;
      tree = c.tree;
      accepted = c.accepted;
      writes = writes_until i c.well_formed schedule lawful unmoved kept c.tree c.means c.counted c.bounded laws until limit bound outcome old new b appends ends;
    }
