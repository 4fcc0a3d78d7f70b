-- How far the run of an image has come within a limit, where it keeps the count of a source's steps.
use Rattle.std.proofs.Common.{◌≡◌, ℕ, zero, suc, ◌+◌, ◌-◌, ◌*◌, ◌<◌, ◌≤◌, List, [], ◌∷◌, ◌++◌, Bool, true, false, Some, cond, sym, ap, subst, ⊎_elim, arith}
use Rattle.std.specs.Prelude.{length, max, slice_get}
use Rattle.std.proofs.lemmas.Bool.{cases_lt, cond_both}
use Rattle.std.proofs.Math.Nat.{mul-suc}
use Rattle.std.proofs.lemmas.Nat.{mul-le}
use Rattle.base.specs.declared.limits.TheConstants.{FRAMES}
use Rattle.base.specs.declared.schedule.ScheduleLine.{ScheduleLine}
use Rattle.kernel.specs.Calm.{IsRunner}
use Rattle.kernel.specs.Counting.{Alone, next_kernel, next_solo}
use Rattle.kernel.specs.RunLaws.{back_back, back_self, solo_back}
use Rattle.kernel.specs.State.{Kernel}
use Rattle.kernel.proofs.Unmoved.{lines_grow}
use Rattle.kernel.specs.Worlds.{Local, Solo, Tasks, World, among, put_back, run, solo_of, step}
use Rattle.image.specs.Code.{CodeWorld, code, start}
use Rattle.image.specs.Frames.{Frame, TaskState, Words}
use Rattle.image.specs.Rules.{IsWellFormed, is_task_body}
use Rattle.image.specs.Sections.{Sections}
use Rattle.image.specs.Steps.{behaviour}
use Rattle.image_laws.specs.Laws.{CodeLeadsOn}
use Rattle.image_laws.specs.Shape.{IsSound, MayRun, is_own}
use Rattle.image_laws.specs.Whole.{IsWhole, RunnerSound, StartsWhole, StepsWhole, UnseenWhole}
use Rattle.compiler.specs.ada_tree.specs.ProgramTree.{ProgramTree}
use Rattle.compiler.specs.expr_code.specs.Coming.{most_steps, size_of}
use Rattle.compiler.specs.meaning.specs.Following.{Goes, Paced, Paces, Rests}
use Rattle.compiler.specs.meaning.specs.Meeting.{Begun, Busy, Counted, Idle, Takes, taken}
use Rattle.compiler.specs.meaning.specs.SameMeaning.{frames_of}
use Rattle.compiler.specs.package_code.specs.Bodies.{Coded, bodies_of, or_zero}
use Rattle.compiler.specs.package_code.specs.Counts.{bound_of}
use Rattle.compiler.specs.Compiled.{IsBounded}
use Rattle.adarun.specs.Progress.{body_bounds, callable_bounds, enough_steps, nested_steps, own_steps}
use Rattle.adarun.proofs.Between.{IsReached, grows}
use Rattle.adarun.proofs.Calling.{IsCallable, few_frames, runs_callable, uncalled}
use Rattle.adarun.proofs.Counting.{nested_more, takes_few}

-- ---- bounds

left_of : (a b : ℕ) → a ≤ max a b
left_of a b = omega arith

right_of : (a b : ℕ) → b ≤ max a b
right_of a b = omega arith

-- the steps of a subprogram are among those of a list where its instructions are no more than the bound at its number
own_within : (bounds : List ℕ) (number size : ℕ) → size ≤ or_zero (slice_get bounds number) → 0 < own_steps bounds
    → suc (size + size) ≤ own_steps bounds
own_within [] number size le some = absurd (omega (arith, some))
own_within (n ∷ ns) zero size le some = (let up = left_of (suc (2 * n)) (own_steps ns) in omega (arith, le, up))
own_within (n ∷ []) (suc number) size le some = (let up = left_of (suc (2 * n)) 0 in omega (arith, le, up))
own_within (n ∷ m ∷ ns) (suc number) size le some =
    let first = left_of (suc (2 * m)) (own_steps ns) in
    let inner = own_within (m ∷ ns) number size le (omega (arith, first)) in
    let up = right_of (suc (2 * n)) (own_steps (m ∷ ns)) in
    omega (arith, inner, up)

some_steps : (front : List ℕ) (n : ℕ) → 0 < own_steps (front ++ n ∷ [])
some_steps [] n = (let up = left_of (suc (2 * n)) 0 in omega (arith, up))
some_steps (m ∷ front) n = (let up = left_of (suc (2 * m)) (own_steps (front ++ n ∷ [])) in omega (arith, up))

callable_within : (bodies : List Coded) (number size : ℕ) (c : Coded) → slice_get bodies number ≡ Some c
    → is_task_body c.kind ≡ false → size ≤ bound_of c
    → suc (size + size) ≤ own_steps (callable_bounds bodies)
callable_within [] number size c there callable le = absurd cc
callable_within (d ∷ ds) zero size c there callable le =
    let same : d ≡ c = cc in
    let first : is_task_body d.kind ≡ false = subst (λ z. is_task_body z.kind ≡ false) (sym same) callable in
    let here : callable_bounds (d ∷ ds) ≡ bound_of d ∷ callable_bounds ds =
    ap (λ b. cond b (callable_bounds ds) (bound_of d ∷ callable_bounds ds)) first in
    let up = left_of (suc (2 * bound_of d)) (own_steps (callable_bounds ds)) in
    let bound = ap bound_of same in
    subst (λ l. suc (size + size) ≤ own_steps l) (sym here) (omega (arith, le, up, bound))
callable_within (d ∷ ds) (suc number) size c there callable le =
    let inner = callable_within ds number size c there callable le in
    cond_both (is_task_body d.kind) (callable_bounds ds) (bound_of d ∷ callable_bounds ds) (λ l. suc (size + size) ≤ own_steps l)
    (λ task. inner)
    (λ other. let up = right_of (suc (2 * bound_of d)) (own_steps (callable_bounds ds)) in omega (arith, inner, up))

pub record ImageLaws : Type 0 where
  pub leads : CodeLeadsOn
  pub starts : StartsWhole
  pub steps : StepsWhole
  pub unseen : UnseenWhole
  pub sound : RunnerSound

through : (a b c : ℕ) → a ≤ b → b ≤ c → a ≤ c
through a b c h k = omega (arith, h, k)

no_more : (n : ℕ) → n ≤ n
no_more n = omega arith

the_rest : (d most : ℕ) → d ≤ most → d + (most - d) ≡ most
the_rest d most h = omega (arith, h)

rest_few : (room d most : ℕ) → 1 ≤ d → d + room ≡ suc most → room ≤ most
rest_few room d most h sum = omega (arith, h, sum)

mul_up : (x n own inner most : ℕ) → x ≤ n * suc inner → n ≤ own → inner ≤ most → x ≤ own * suc most
mul_up x n own inner most few le up = through x (n * suc inner) (own * suc most) few (mul-le n (suc inner) own (suc most) le (omega (arith, up)))

one_each : (own inner : ℕ) → 0 < own → 1 ≤ own * suc inner
one_each own inner some = mul_up 1 1 own 0 inner (omega arith) some (omega arith)

one_more : (a b j each all : ℕ) → a ≤ all → b ≡ a + j → j ≤ each → b ≤ all + each
one_more a b j each all few is le = omega (arith, few, is, le)

counted_one : (j each : ℕ) → j ≡ 1 → 1 ≤ each → j ≤ each
counted_one j each is some = omega (arith, is, some)

counted_all : (j all each : ℕ) → j ≡ all → all ≤ each → j ≤ each
counted_all j all each is few = omega (arith, is, few)

counted_less : (j all each : ℕ) → suc j ≡ all → all ≤ each → j ≤ each
counted_less j all each is few = omega (arith, is, few)

passed : (many later m next : ℕ) → next ≤ later → later ≤ many → many ≤ m → m < next → ⊥
passed many later m next up few enough less = absurd (omega (arith, up, few, enough, less))

-- each frame takes at most `own` steps by itself, and one that was called at most `called`; so many frames may be in use
module _ (laws : ImageLaws) (i : Sections) (well_formed : IsWellFormed i) (own called most : ℕ) (some : 0 < own) (frames : FRAMES ≤ most)
    (own_low : (s : TaskState) → most_steps i s ≤ own)
    (called_low : (n : ℕ) → IsCallable laws.leads i well_formed n → suc (size_of i n + size_of i n) ≤ called)
    (schedule : List ScheduleLine) where
  abbrev each : ℕ
  each = own * suc (nested_steps called most)

  whole_run : (n : ℕ) (w : CodeWorld) → IsWhole i w → IsWhole i (run (among (behaviour i schedule)) n w)
  whole_run zero w h = h
  whole_run (suc n) w h = whole_run n (step (among (behaviour i schedule)) w) (laws.steps i well_formed schedule w h)

  -- within the steps of task t from a world, whose other tasks are these
  module _ (t : ℕ) (d : Tasks Words TaskState) where
    abbrev Held : Kernel → Solo Words TaskState → Type 0
    Held k s = IsWhole i (record { kernel = k; rest = put_back t d s })

    keeps : (k : Kernel) (s : Solo Words TaskState) → Held k s → Alone (behaviour i schedule) t k s
        → Held (next_kernel (behaviour i schedule) t k s) (next_solo (behaviour i schedule) t k s)
    keeps k s h alone =
        let l = next_kernel (behaviour i schedule) t k s in
        let r = next_solo (behaviour i schedule) t k s in
        let back : solo_of t (put_back t d s) ≡ s = solo_back t d s in
        let one : Alone (behaviour i schedule) t k (solo_of t (put_back t d s)) = subst (λ x. Alone (behaviour i schedule) t k x) (sym back) alone in
        let kernel : next_kernel (behaviour i schedule) t k (solo_of t (put_back t d s)) ≡ l = ap (λ x. next_kernel (behaviour i schedule) t k x) back in
        let solo : next_solo (behaviour i schedule) t k (solo_of t (put_back t d s)) ≡ r = ap (λ x. next_solo (behaviour i schedule) t k x) back in
        subst (λ x. IsWhole i (record { kernel = l; rest = x })) (back_back t d s r)
        (laws.unseen i well_formed schedule t 1 k l (put_back t d s) r (one, (kernel, solo)) h).0

    sound : (k : Kernel) (s : Solo Words TaskState) → Held k s → IsRunner k t → IsSound i (is_own i t) s.task
    sound k s h runs =
        subst (λ x. IsSound i (is_own i t) x.task) (solo_back t d s)
        (laws.sound i well_formed (record { kernel = k; rest = put_back t d s }) t h runs.running).1

    few : (k : Kernel) (s : Solo Words TaskState) → Held k s → IsRunner k t → frames_of s.task ≤ suc most
    few k s h runs = one_above (frames_of s.task) FRAMES (few_frames (is_own i t) s.task.callers (sound k s h runs).few) frames
      where
        one_above : (n limit : ℕ) → n ≤ suc limit → limit ≤ most → n ≤ suc most
        one_above n limit le up = omega (arith, le, up)

    low : (k : Kernel) (s : Solo Words TaskState) → Held k s → IsRunner k t → uncalled laws.leads i well_formed (is_own i t) < frames_of s.task
        → most_steps i s.task ≤ called
    low k s h runs less =
        called_low s.task.frame.subprogram (runs_callable laws.leads i well_formed (is_own i t) s.task (sound k s h runs) less)

  -- of a handler the frame that never runs is below the one that does
  lowest : (t : ℕ) (s : TaskState) → IsSound i (is_own i t) s → (uncalled laws.leads i well_formed (is_own i t) ≤ frames_of s) × (1 ≤ frames_of s)
  lowest t s h = by_own (is_own i t) s.callers h.may
    where
      by_own : (own : Bool) (fs : List Frame) → MayRun own fs → (uncalled laws.leads i well_formed own ≤ suc (length fs)) × (1 ≤ suc (length fs))
      by_own true fs may = (omega arith, omega arith)
      by_own false [] may = absurd may
      by_own false (c ∷ cs) may = (omega arith, omega arith)

  -- what is taken for one step
  taken_few : (w : CodeWorld) (t n : ℕ) (s : Solo Words TaskState) → IsWhole i w → IsRunner w.kernel t
      → (all : Takes (behaviour i schedule) t frames_of (most_steps i) (frames_of (w.rest.tasks t)) n w.kernel (solo_of t w.rest) w.kernel s)
      → n ≤ most_steps i (w.rest.tasks t)
      → taken (behaviour i schedule) t frames_of (most_steps i) all ≤ each
  taken_few w t n s h runs all le =
      let d = frames_of (w.rest.tasks t) in
      let held : Held t w.rest w.kernel (solo_of t w.rest) = subst (λ x. IsWhole i (record { kernel = w.kernel; rest = x })) (sym (back_self t w.rest)) h in
      let there = few t w.rest w.kernel (solo_of t w.rest) held runs in
      let lo = lowest t (w.rest.tasks t) (sound t w.rest w.kernel (solo_of t w.rest) held runs) in
      let room = suc most - d in
      let sum : d + room ≡ suc most = the_rest d (suc most) there in
      let above = takes_few (behaviour i schedule) t frames_of (most_steps i) (Held t w.rest) (keeps t w.rest) (suc most)
      (uncalled laws.leads i well_formed (is_own i t)) called (few t w.rest) (low t w.rest) room d lo.0 sum held runs all in
      mul_up (taken (behaviour i schedule) t frames_of (most_steps i) all) n own (nested_steps called room) (nested_steps called most)
      above (through n (most_steps i (w.rest.tasks t)) own le (own_low (w.rest.tasks t))) (nested_more called room most (rest_few room d most lo.1 sum))

  counted_few : (w : CodeWorld) (j : ℕ) → IsWhole i w → Counted (behaviour i schedule) frames_of (most_steps i) w j → j ≤ each
  counted_few w j h (Idle none one) = counted_one j each one (one_each own (nested_steps called most) some)
  counted_few w j h (Busy t n s runs all le e) =
      counted_all j (taken (behaviour i schedule) t frames_of (most_steps i) all) each e (taken_few w t n s h runs all le)
  counted_few w j h (Begun t n s runs all le e) =
      counted_less j (taken (behaviour i schedule) t frames_of (most_steps i) all) each e (taken_few w t n s h runs all le)

  module _ {D : Type 0} (f : Local D) (v : World D) (at : ℕ → ℕ)
      (paced : Paced f (among (behaviour i schedule)) (Counted (behaviour i schedule) frames_of (most_steps i)) v (start i schedule) at) where
    at_few : (n : ℕ) → at n ≤ each * n
    at_few zero = subst (λ m. m ≤ each * 0) (sym paced.begins) (omega arith)
    at_few (suc n) = by_pace (paced.paces n) (at_few n)
      where
        by_pace : Paces (Counted (behaviour i schedule) frames_of (most_steps i)) (code i schedule (at n)) (at n) (at (suc n)) → at n ≤ each * n
            → at (suc n) ≤ each * suc n
        by_pace (Rests e) few =
            subst (λ m. m ≤ each * suc n) (sym e)
            (through (at n) (each * n) (each * suc n) few (mul-le each n each (suc n) (omega arith) (omega arith)))
        by_pace (Goes j e counted) few =
            subst (λ m. at (suc n) ≤ m) (sym (mul-suc each n))
            (one_more (at n) (at (suc n)) (suc j) each (each * n) few e
            (counted_few (code i schedule (at n)) (suc j) (whole_run (at n) (start i schedule) (laws.starts i well_formed schedule)) counted))

    -- so many steps are taken of the run that is followed, where the limit is enough for them
    pub comes_far : (m n : ℕ) → IsReached f (behaviour i schedule) frames_of (most_steps i) v (start i schedule) at lines_grow paced m n → (count : ℕ)
        → each * count ≤ m → count ≤ n
    comes_far m n is count enough = ⊎_elim past (λ le. le) (cases_lt n count)
      where
        past : n < count → count ≤ n
        past more =
            let far : suc n + (count - suc n) ≡ count = the_rest (suc n) count more in
            let later : at (suc n) ≤ at count =
            subst (λ c. at (suc n) ≤ at c) far
            (grows f (behaviour i schedule) frames_of (most_steps i) v (start i schedule) at lines_grow paced (suc n) (count - suc n)) in
            absurd (passed (each * count) (at count) m (at (suc n)) later (at_few count) enough is.less)

-- ---- by the text of the source

module _ (laws : ImageLaws) (tree : ProgramTree) (i : Sections) (well_formed : IsWellFormed i) (bounded : IsBounded tree i) where
  some_own : 0 < own_steps (body_bounds tree)
  some_own = some_steps _ _

  pub own_low : (s : TaskState) → most_steps i s ≤ own_steps (body_bounds tree)
  own_low s = own_within (body_bounds tree) s.frame.subprogram (size_of i s.frame.subprogram) (bounded.each s.frame.subprogram) some_own

  pub called_low : (n : ℕ) → IsCallable laws.leads i well_formed n → suc (size_of i n + size_of i n) ≤ own_steps (callable_bounds (bodies_of tree))
  called_low n c =
      let body = bounded.callable n c.s c.there c.callable in
      callable_within (bodies_of tree) n (size_of i n) body.body body.there body.callable body.few

  pub source_far : (schedule : List ScheduleLine) {D : Type 0} (f : Local D) (v : World D) (at : ℕ → ℕ)
      (paced : Paced f (among (behaviour i schedule)) (Counted (behaviour i schedule) frames_of (most_steps i)) v (start i schedule) at)
      (m n : ℕ) → IsReached f (behaviour i schedule) frames_of (most_steps i) v (start i schedule) at lines_grow paced m n → (count : ℕ)
      → enough_steps tree count ≤ m → count ≤ n
  source_far schedule f v at paced m n is count enough =
      comes_far laws i well_formed (own_steps (body_bounds tree)) (own_steps (callable_bounds (bodies_of tree))) FRAMES some_own (no_more FRAMES) own_low
      called_low schedule f v at paced m n is count enough
