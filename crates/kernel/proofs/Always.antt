-- The start is kept, and so is every kernel that passed refusals lead to.
use Rattle.std.proofs.Common.{◌≡◌, inl, ℕ, zero, suc, ◌<◌, ◌≤◌, List, [], None, Bool, refl, sym, ◌∙◌, subst, arith}
use Rattle.kernel.specs.State.{Partition, Interrupt, Kernel, IsReady, IsFinished}
use Rattle.kernel.specs.Effects.{blank, activated}
use Rattle.kernel.specs.Invariant.{AreAttached, Sound, Fits, Kept}
use Rattle.kernel.specs.Laws.{BeginsKept, FourAlways, Course, Starts, Goes}
use Rattle.kernel.specs.PutLaws.{put_other}
use Rattle.kernel.proofs.Four.{four_hold}
use Rattle.kernel.proofs.Moves.{ready_sound}
use Rattle.kernel.proofs.Served.{Serv, moved}
use Rattle.kernel.proofs.Clock.{finish}
use Rattle.kernel.proofs.Steps.{kept_by_every}

module _ (b : ℕ → Bool) (p : Partition) (is : List Interrupt) (fits : Fits p) (all : AreAttached p is) where
  blank_sound : Sound b (blank p is) []
  blank_sound = record {
    base_low = fits.base_low;
    ceiling_low = fits.ceiling_low;
    urgent = fits.urgent;
    attached = all;
    gone = λ u le. inl refl;
    runs = λ t e. absurd (cc);
    runner = λ t e. absurd (cc);
    lists = λ t h. refl;
    naps_once = λ t. refl;
    queue = λ o u e. absurd (cc);
    waits = λ o u e. absurd (cc);
    awake = λ t h. absurd h;
    stacked = λ t. tt;
    once = λ t. tt;
    serving = λ t o u h. absurd h;
    closed = λ o u e. absurd (cc);
    below = λ r t e. absurd (cc);
    apart = λ t u ne h. absurd h;
    heads = λ t h. absurd h;
  }

  pub activated_sound : (n : ℕ) → n ≤ p.tasks → (let k = activated n (blank p is) in
      Sound b k [] × ((u : ℕ) → n ≤ u → k.place u ≡ IsFinished) × (k.partition ≡ p) × (k.running ≡ None))
  activated_sound zero le = (blank_sound, λ u le. refl, refl, refl)
  activated_sound (suc n) le =
      let i = activated_sound n (omega arith) in
      let k = activated n (blank p is) in
      let task : n < k.partition.tasks = subst (λ q. n < q.tasks) (sym i.2) (omega arith) in
      (ready_sound b k [] n task (i.1 n (omega arith)) i.0, λ u le. put_other n u IsReady k.place (λ e. omega arith) ∙ i.1 u (omega arith), i.2, i.3)

  activated_serv : (n : ℕ) → Serv (activated n (blank p is))
  activated_serv zero = λ u o e. absurd (cc)
  activated_serv (suc n) = let k = activated n (blank p is) in moved n IsReady k.place k.actions (λ o e. cc) (activated_serv n)

pub begins_kept : BeginsKept
begins_kept b p is fits all =
    let i = activated_sound b p is fits all p.tasks (omega arith) in
    finish b (activated p.tasks (blank p is)) i.0 (activated_serv b p is fits all p.tasks) (λ u le r. let none = i.3 in absurd (cc))

course_kept : (p : Partition) (is : List Interrupt) (b : ℕ → Bool) (k : Kernel) → Fits p → AreAttached p is → Course p is b k → Kept b k
course_kept p is b k fits all (Starts c) = begins_kept c p is fits all
course_kept p is b k fits all (Goes before later l t e course run held passed) =
    kept_by_every before later l t e run held passed (course_kept p is before l fits all course)

pub four_always : FourAlways
four_always p is b k fits all course = four_hold b k (course_kept p is b k fits all course)
