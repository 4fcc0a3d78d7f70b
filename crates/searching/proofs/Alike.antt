-- Worlds that are kept alike are the same but for what is pending and the lines that were written.
use Rattle.std.proofs.Common.{◌≡◌, ◌≢◌, ℕ, ◌+◌, ◌<◌, ◌≤◌, Option, Some, None, Bool, true, false, cond, length, take, refl, sym, ap, subst, ◌∙◌, arith, ⊎_elim}
use Rattle.std.proofs.lemmas.Bool.{cases_lt, le-ltb}
use Rattle.std.proofs.lemmas.List.{take_all}
use Rattle.image_laws.specs.Whole.{IsWhole}
use Rattle.kernel.specs.State.{IsFinished, IsReady, IsRunning}
use Rattle.processor.specs.Decoding.{words_in}
use Rattle.tasking.specs.Held.{Held, is_handler, kernel_of, place_at, sleepers_of}
use Rattle.execution.specs.Held.{HeldWorld, tasks_in, tasks_of, world_of}
use Rattle.execution.proofs.Alike.{idle_tasks, same_tasks, tasks_take}
use Rattle.likeness.proofs.Determined.{kernels_same}
use Rattle.searching.specs.Following.{AreLikeWorlds, IsSeenIn, SeenWorld, rows_of}
use Rattle.searching.specs.Meeting.{AreLike, StandAlike}

-- beyond the tasks the handler runs, or nobody
beyond : (h : Held) (u : ℕ) → length h.objects.bases ≤ u → (kernel_of h).place u ≡ cond (is_handler h.handler u) IsRunning IsFinished
beyond h u le = ap (λ b. cond b (place_at h.places u) (cond (is_handler h.handler u) IsRunning IsFinished)) (le-ltb u (length h.objects.bases) le)

not_ready : (b : Bool) → cond b IsRunning IsFinished ≢ IsReady
not_ready true e = absurd (cc)
not_ready false e = absurd (cc)

module _ (g h : HeldWorld) (v w : SeenWorld) (image : g.image ≡ h.image) (one : IsSeenIn g v) (other : IsSeenIn h w) (like : AreLikeWorlds v w) where
  handlers : g.tasking.handler ≡ h.tasking.handler
  handlers = sym one.handler ∙ (like.handler ∙ other.handler)

  stand : StandAlike g.tasking h.tasking
  stand u =
      ⊎_elim
      (λ lt.
      let a = one.places.each u lt in
      let b = other.places.each u (subst (λ n. u < n) like.places.count lt) in
      (sym a.0 ∙ (like.places.each u lt ∙ b.0), subst (λ p. p ≢ IsReady) a.0 a.1))
      (λ ge.
      let many = one.places.count in
      let others = other.places.count in
      let same = like.places.count in
      let a = beyond g.tasking u (omega (arith, ge, many)) in
      let b = beyond h.tasking u (omega (arith, ge, others, same)) in (
        a ∙ (ap (λ x. cond (is_handler x u) IsRunning IsFinished) handlers ∙ sym b),
        subst (λ p. p ≢ IsReady) (sym a) (not_ready (is_handler g.tasking.handler u)),
      ))
      (cases_lt u (length v.places))

  counted : length v.places ≡ length g.image.tasks
  counted = one.places.count ∙ ap (λ p. p.tasks) one.whole.partition

  tasks_by : (o : Option ℕ) → v.handler ≡ o → (t : ℕ) → tasks_of g t ≡ tasks_of h t
  tasks_by None is t =
      let rows : tasks_in (take (length v.places) v.contents.tasks) ≡ tasks_in (take (length v.places) w.contents.tasks) =
      subst (λ a. tasks_in (take (rows_of a (length v.places)) v.contents.tasks) ≡ tasks_in (take (rows_of a (length v.places)) w.contents.tasks)) is like.tasks in
      let n = length g.image.tasks in
      idle_tasks g h image (sym one.handler ∙ is) (sym handlers ∙ (sym one.handler ∙ is))
      (subst (λ m. take n g.tasks ≡ take m h.tasks) (ap (λ i. length i.tasks) image)
      (ap (take n) (sym one.contents.tasks)
      ∙ (sym (tasks_take n v.contents.tasks)
      ∙ (subst (λ m. tasks_in (take m v.contents.tasks) ≡ tasks_in (take m w.contents.tasks)) counted rows
      ∙ (tasks_take n w.contents.tasks ∙ ap (take n) other.contents.tasks))))) t
  tasks_by (Some a) is t =
      let rows : tasks_in (take (length v.places + 1) v.contents.tasks) ≡ tasks_in (take (length v.places + 1) w.contents.tasks) =
      subst (λ a. tasks_in (take (rows_of a (length v.places)) v.contents.tasks) ≡ tasks_in (take (rows_of a (length v.places)) w.contents.tasks)) is like.tasks in
      let many = one.contents.fits.count in
      let others = other.contents.fits.count in
      let same : length g.image.tasks ≡ length h.image.tasks = ap (λ i. length i.tasks) image in
      let count = counted in
      let all : length v.contents.tasks ≤ length v.places + 1 = omega (arith, many, count) in
      let all_others : length w.contents.tasks ≤ length v.places + 1 = omega (arith, others, same, count) in
      same_tasks g h image handlers
      (sym one.contents.tasks
      ∙ (ap tasks_in (sym (take_all (length v.places + 1) v.contents.tasks all))
      ∙ (rows ∙ (ap tasks_in (take_all (length v.places + 1) w.contents.tasks all_others) ∙ other.contents.tasks)))) t

  words : words_in g.image g.memory.shared ≡ words_in h.image h.memory.shared
  words = sym one.contents.words ∙ ((λ j. words_in (image j) (like.words j)) ∙ other.contents.words)

  pub worlds_like : AreLike (world_of g) (world_of h)
  worlds_like =
      let rest : (world_of g).rest ≡ (world_of h).rest = λ j. record { memory = words j; tasks = λ t. tasks_by v.handler refl t j } in
      record {
        kernel =
            kernels_same g.image (world_of g) (world_of h) one.whole (subst (λ i. IsWhole i (world_of h)) (sym image) other.whole) (λ u. (stand u).0)
            (λ u. (stand u).1) rest (sym one.sleepers ∙ (ap sleepers_of like.sleepers ∙ other.sleepers)) (sym one.time ∙ (like.time ∙ other.time))
            (one.on ∙ sym other.on);
        rest = rest;
      }
