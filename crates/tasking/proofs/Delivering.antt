-- Interrupts: which one is the next, when it comes, and what its handler is at its start and at its end (RM C.3, C.3.1).
use Rattle.std.proofs.Common.{◌≡◌, ◌≢◌, ◌⊎◌, inl, inr, ℕ, zero, suc, ◌+◌, ◌-◌, ◌<◌, ◌≤◌, ℤ, List, [], ◌∷◌, ◌++◌, Option, Some, None, IfSome, Bool, true, false, cond, get_or, length, refl, sym, ap, ◌∙◌, subst, ⊎_elim, arith}
use Rattle.std.proofs.Common.{append-nil, get_or-set_other, get_or-set_same, length-append, length-set, nat_lt, set, Ok, Err}
use Rattle.std.specs.Prelude.{slice_get, int_lt}
use Rattle.std.proofs.lemmas.Bool.{true≢false, cases_lt, le-ltb, lt-ltb}
use Rattle.std.proofs.lemmas.Int.{ints}
use Rattle.std.proofs.lemmas.List.{get_or_past}
use Rattle.base.specs.declared.limits.TheConstants.{ACTOR, CEILING, CHANNELS, PRIORITIES, TASKS}
use Rattle.base.specs.declared.schedule.ScheduleLine.{ScheduleLine}
use Rattle.protected.specs.Actions.{Actions, has_any, is_among, opened_by, opening, raised, with_opened}
use Rattle.protected.specs.declared.refusal.Refusal.TheVariants as refused
use Rattle.kernel.specs.State.{raised as raised_over}
use Rattle.kernel.specs.State.{Action, Interrupt, IsFinished, IsRunning, Kernel, Sleeper, Writes, active, inside, inside_among, is_object_open, is_task, put}
use Rattle.kernel.specs.Clock.{least, next, next_time, released, some_queued, time_moves, wakes_due, wakes_if_due}
use Rattle.kernel.specs.Dispatching.{becomes_ready, dispatch, leaves}
use Rattle.kernel.specs.Invariant.{AreAttached}
use Rattle.kernel.specs.Effects.{is_inside_any}
use Rattle.kernel.specs.Interrupts.{actor_if, delivers, interrupt_if, starts}
use Rattle.kernel.specs.PutLaws.{eqb_other, eqb_same, put_other, put_same, same_or_not}
use Rattle.tasking.specs.declared.reports.Kind.{Kind}
use Rattle.tasking.specs.declared.reports.Kind.TheVariants as kinds
use Rattle.tasking.specs.Held.{Held, actions_at, actions_of, is_handler, kernel_of, kinds_at, partition_of, pending_of, row_actions, stands_at}
use Rattle.tasking.specs.Orderly.{BeginsAttached, HandlesAlone, IsKeptOrderly, IsOrderly, StandsThere, inside_of, least_of, time_ahead}
use Rattle.tasking.proofs.Actions.{any_is, opened_is}
use Rattle.tasking.proofs.Moved.{no_handler, rows_same, stand_beyond, stand_task}
use Rattle.tasking.proofs.Objects.{index_beyond, none_at, paired_put, seen_at, short_put}
use Rattle.tasking.proofs.Standing.{begins_orderly, leaves_orderly}

-- ---- the lines ahead

pub passed : (attached : List (Option ℕ)) (line : ScheduleLine) (rest : List ScheduleLine) → get_or attached line.channel None ≡ None
    → pending_of attached (line ∷ rest) ≡ pending_of attached rest
passed attached line rest none = ap (λ o. interrupt_if o line (pending_of attached rest)) none

abbrev pub interrupt_of : ScheduleLine → ℕ → Interrupt
interrupt_of line object = record { time = line.time; channel = line.channel; object = object }

pub found : (attached : List (Option ℕ)) (line : ScheduleLine) (rest : List ScheduleLine) (object : ℕ) → get_or attached line.channel None ≡ Some object
    → pending_of attached (line ∷ rest) ≡ interrupt_of line object ∷ pending_of attached rest
found attached line rest object some = ap (λ o. interrupt_if o line (pending_of attached rest)) some

-- the first line tells the time of the first interrupt, and without lines there is none
pub time_first : (attached : List (Option ℕ)) (ahead rest : List ScheduleLine) (line : ScheduleLine) → ahead ≡ line ∷ rest → BeginsAttached attached ahead
    → time_ahead (pending_of attached ahead) ≡ Some line.time
time_first attached ahead rest line is begins =
    let b = subst (BeginsAttached attached) is begins in
    ap (λ l. time_ahead (pending_of attached l)) is ∙ ap time_ahead (found attached line rest b.0 b.1)

pub object_first : (attached : List (Option ℕ)) (ahead rest : List ScheduleLine) (line : ScheduleLine) → ahead ≡ line ∷ rest → BeginsAttached attached ahead
    → (object : ℕ) × (get_or attached line.channel None ≡ Some object)
object_first attached ahead rest line is begins = subst (BeginsAttached attached) is begins

-- the first line
abbrev pub first_line : List ScheduleLine → Option ScheduleLine
first_line [] = None
first_line (line ∷ rest) = Some line

-- it is the one at 0
pub first_slice : (ls : List ScheduleLine) → first_line ls ≡ slice_get ls 0
first_slice [] = refl
first_slice (l ∷ ls) = refl

pub none_there : (ls : List ScheduleLine) → length ls ≡ 0 → first_line ls ≡ None
none_there [] e = refl
none_there (l ∷ ls) e = cc

no_lines : (ls : List ScheduleLine) → first_line ls ≡ None → ls ≡ []
no_lines [] e = refl
no_lines (l ∷ ls) e = cc

pub nothing_ahead : (ss : List Sleeper) (is_queued : Bool) → least_of ss ≡ next_time ss [] is_queued
nothing_ahead [] is_queued = refl
nothing_ahead (s ∷ ss) is_queued = refl

-- without lines nothing is pending
pub none_first : (h : Held) → first_line h.ahead ≡ None → least_of (kernel_of h).sleepers ≡ next (kernel_of h)
none_first h none =
    let k = kernel_of h in
    let is_queued = some_queued k.queued k.partition.objects in
    nothing_ahead k.sleepers is_queued ∙ ap (λ l. next_time k.sleepers (pending_of h.attached l) is_queued) (sym (no_lines h.ahead none))

pub none_pending : (h : Held) → first_line h.ahead ≡ None → kernel_of h ≡ delivers (kernel_of h).pending (kernel_of h)
none_pending h none = sym (ap (λ l. delivers (pending_of h.attached l) (kernel_of h)) (no_lines h.ahead none))

-- where the first one's time has not come nothing is delivered
pub early_is : (h : Held) (line : ScheduleLine) (rest : List ScheduleLine) → h.ahead ≡ line ∷ rest → BeginsAttached h.attached h.ahead
    → int_lt h.time line.time ≡ true
    → kernel_of h ≡ delivers (kernel_of h).pending (kernel_of h)
early_is h line rest is begins early =
    let o = object_first h.attached h.ahead rest line is begins in
    let i = interrupt_of line o.0 in
    let later = pending_of h.attached rest in
    sym (ap (λ l. delivers (pending_of h.attached l) (kernel_of h)) is
    ∙ (ap (λ p. delivers p (kernel_of h)) (found h.attached line rest o.0 o.1)
    ∙ ap (λ b. cond b (kernel_of h) (starts i (record (kernel_of h) { pending = later }))) early))

-- lines of which no channel has a handler are passed
pub lines_passed : (h old : Held) → h ≡ old → (rest : List ScheduleLine) → pending_of h.attached rest ≡ pending_of h.attached h.ahead
    → kernel_of (record h { ahead = rest }) ≡ kernel_of old
lines_passed h old same rest e = (λ j. record (kernel_of h) { pending = e j }) ∙ ap kernel_of same

pub passed_kept : (h : Held) → IsKeptOrderly h → (rest : List ScheduleLine) → pending_of h.attached rest ≡ pending_of h.attached h.ahead
    → IsKeptOrderly (record h { ahead = rest })
passed_kept h kept rest e =
    let x = kept.rows in record {
      orderly = kept.orderly;
      rows = record {
        few_tasks = x.few_tasks;
        few_objects = x.few_objects;
        queues = x.queues;
        opened = x.opened;
        kinds = x.kinds;
        places = x.places;
        short = x.short;
        paired = x.paired;
        channels = x.channels;
        attached = subst (AreAttached (partition_of h.objects.bases h.objects.ceilings)) (sym e) x.attached;
      };
      handles = record { alone = kept.handles.alone; runner = kept.handles.runner; free = kept.handles.free };
    }

-- ---- the next time

min_of : ℤ → ℤ → ℤ
min_of time wake = cond (int_lt wake time) wake time

lt_trans : (a b c : ℤ) → int_lt a b ≡ true → int_lt b c ≡ true → int_lt a c ≡ true
lt_trans a b c e f = grind (arith, ints)

ge_trans : (a b c : ℤ) → int_lt a b ≡ false → int_lt b c ≡ false → int_lt a c ≡ false
ge_trans a b c e f = grind (arith, ints)

min_assoc : (t a w : ℤ) → min_of (min_of t a) w ≡ min_of t (min_of a w)
unfolding min_of
min_assoc t a w = by_tests (int_lt a t) refl (int_lt w a) refl
  where
    by_tests : (b : Bool) → int_lt a t ≡ b → (c : Bool) → int_lt w a ≡ c
        → cond (int_lt w (cond b a t)) w (cond b a t) ≡ cond (int_lt (cond c w a) t) (cond c w a) t
    by_tests true e true f = ap (λ x. cond x w a) f ∙ sym (ap (λ x. cond x w t) (lt_trans w a t f e))
    by_tests true e false f = ap (λ x. cond x w a) f ∙ sym (ap (λ x. cond x a t) e)
    by_tests false e true f = refl
    by_tests false e false f = ap (λ x. cond x w t) (ge_trans w a t f e) ∙ sym (ap (λ x. cond x a t) e)

least_turn : (x : ℤ) (s : Sleeper) (ss : List Sleeper) → least x (s ∷ ss) ≡ least (min_of x s.wake) ss
unfolding min_of
least_turn x s ss = by_test (int_lt s.wake x)
  where
    by_test : (b : Bool) → cond b (least s.wake ss) (least x ss) ≡ least (cond b s.wake x) ss
    by_test true = refl
    by_test false = refl

least_min : (t a : ℤ) (ss : List Sleeper) → least (min_of t a) ss ≡ min_of t (least a ss)
least_min t a [] = refl
least_min t a (s ∷ ss) =
    least_turn (min_of t a) s ss ∙ (ap (λ x. least x ss) (min_assoc t a s.wake) ∙ (least_min t (min_of a s.wake) ss ∙ ap (min_of t) (sym (least_turn a s ss))))

-- the least of the wake times and of the first interrupt's
pub wake_earlier : (ss : List Sleeper) (pending : List Interrupt) (is_queued : Bool) (time wake : ℤ) → time_ahead pending ≡ Some time → least_of ss ≡ Some wake
    → Some (cond (int_lt wake time) wake time) ≡ next_time ss pending is_queued
unfolding min_of
wake_earlier [] pending is_queued time wake ahead asleep = cc
wake_earlier (s ∷ ss) [] is_queued time wake ahead asleep = cc
wake_earlier (s ∷ ss) (i ∷ rest) is_queued time wake ahead asleep =
    let same : i.time ≡ time = cc in
    let least_is : least s.wake ss ≡ wake = cc in
    ap Some
    ((λ j. min_of (sym same j) (sym least_is j)) ∙ (sym (least_min i.time s.wake ss) ∙ by_test (int_lt s.wake i.time)))
  where
    by_test : (b : Bool) → least (cond b s.wake i.time) ss ≡ cond b (least s.wake ss) (least i.time ss)
    by_test true = refl
    by_test false = refl

pub none_asleep : (ss : List Sleeper) (pending : List Interrupt) (is_queued : Bool) (time : ℤ) → time_ahead pending ≡ Some time → least_of ss ≡ None
    → cond is_queued (Some time) None ≡ next_time ss pending is_queued
none_asleep [] [] is_queued time ahead asleep = cc
none_asleep [] (i ∷ rest) is_queued time ahead asleep = (let same : i.time ≡ time = cc in ap (λ t. cond is_queued (Some t) None) (sym same))
none_asleep (s ∷ ss) pending is_queued time ahead asleep = cc

-- where nobody runs, time moves
pub time_is : (k : Kernel) (time : ℤ) → next k ≡ Some time
    → (let woken = wakes_due k.sleepers (record k { now = time; sleepers = [] }) in dispatch (delivers woken.pending woken) ≡ time_moves (next k) k)
time_is k time e = sym (ap (λ o. time_moves o k) e)

pub over_is : (k : Kernel) → next k ≡ None → time_moves None k ≡ time_moves (next k) k
over_is k e = sym (ap (λ o. time_moves o k) e)

pub woken_runs : (ss : List Sleeper) (k : Kernel) → (wakes_due ss k).running ≡ k.running
woken_runs [] k = refl
woken_runs (s ∷ ss) k = woken_runs ss (wakes_if_due s k) ∙ by_test (int_lt k.now s.wake)
  where
    by_test : (b : Bool) → (cond b (record k { sleepers = k.sleepers ++ s ∷ [] }) (becomes_ready s.task (released s.task k))).running ≡ k.running
    by_test true = refl
    by_test false = refl

-- ---- who is there

no_one : (g : Held) → HandlesAlone g → g.running ≡ None → g.handler ≡ None
no_one g x idle = by_handler g.handler refl
  where
    by_handler : (o : Option ℕ) → g.handler ≡ o → g.handler ≡ None
    by_handler None e = e
    by_handler (Some a) e = (let there : g.running ≡ Some a = (x.alone a e).0 in let none : g.running ≡ None = idle in absurd (cc))

-- the handler that runs is whom 255 asks for
pub asked_handler : (h : Held) → HandlesAlone h → h.handler ≡ actor_if (kernel_of h).partition h.running
asked_handler h x = by_running h.running refl
  where
    by_running : (o : Option ℕ) → h.running ≡ o → h.handler ≡ actor_if (kernel_of h).partition o
    by_running None e = no_one h x e
    by_running (Some t) e = ⊎_elim own handles (x.runner t e)
      where
        own : t < length h.objects.bases → h.handler ≡ cond (is_task (kernel_of h).partition t) None (Some t)
        own lt =
            by_handler h.handler refl ∙ sym (ap (λ b. cond b None (Some t)) (lt-ltb t (length h.objects.bases) lt))
          where
            by_handler : (o : Option ℕ) → h.handler ≡ o → o ≡ None
            by_handler None is = refl
            by_handler (Some a) is = absurd (no_handler h x t e lt a is)

        handles : h.handler ≡ Some t → h.handler ≡ cond (is_task (kernel_of h).partition t) None (Some t)
        handles is =
            is ∙ sym (ap (λ b. cond b None (Some t)) (le-ltb t (length h.objects.bases) (x.alone t is).1))

pub handler_there : (h old : Held) → h ≡ old → IsKeptOrderly h → IfSome h.handler (λ t. StandsThere (kernel_of old) t)
handler_there h old same kept = by_handler h.handler refl
  where
    by_handler : (o : Option ℕ) → h.handler ≡ o → IfSome o (λ t. StandsThere (kernel_of old) t)
    by_handler None e = tt
    by_handler (Some a) e = inr (sym (ap (λ v. v.running) same) ∙ (kept.handles.alone a e).0)

-- ---- the start of a handler

module _ (h old : Held) (same : h ≡ old) (kept : IsKeptOrderly h) (idle : old.running ≡ None) (line : ScheduleLine) (rest : List ScheduleLine) (object : ℕ)
    (first : h.ahead ≡ line ∷ rest) (attached : get_or h.attached line.channel None ≡ Some object) where
  abbrev i : Interrupt
  i = interrupt_of line object

  abbrev a : ℕ
  a = length h.objects.bases + line.channel

  abbrev later : List Interrupt
  later = pending_of h.attached rest

  idle_here : h.running ≡ None
  idle_here = ap (λ v. v.running) same ∙ idle

  nobody : h.handler ≡ None
  nobody = no_one h kept.handles idle_here

  row_free : get_or h.objects.opened TASKS [] ≡ []
  row_free = kept.handles.free nobody

  pending_is : (kernel_of h).pending ≡ i ∷ later
  pending_is = ap (pending_of h.attached) first ∙ found h.attached line rest object attached

  all_attached : (suc (get_or h.objects.ceilings object 0) ≡ PRIORITIES)
      × AreAttached (partition_of h.objects.bases h.objects.ceilings) later
  all_attached = subst (AreAttached (partition_of h.objects.bases h.objects.ceilings)) pending_is kept.rows.attached

  pub object_known : object < length h.objects.ceilings
  object_known =
      ⊎_elim
      (λ lt. lt)
      (λ ge. let none = get_or_past h.objects.ceilings object 0 ge in let high = all_attached.0 in absurd (omega (arith, none, high)))
      (cases_lt object (length h.objects.ceilings))

  pub channel_low : line.channel ≤ CHANNELS
  channel_low =
      ⊎_elim
      (λ lt. let few = kept.rows.channels in omega (arith, lt, few))
      (λ ge. let none : get_or h.attached line.channel None ≡ None = get_or_past h.attached line.channel None ge in let some : get_or h.attached line.channel None
      ≡ Some object = attached in absurd (cc))
      (cases_lt line.channel (length h.attached))

  beyond : length h.objects.bases ≤ a
  beyond = omega arith

  -- its action may be opened
  pub may_begin : opening h.objects ACTOR object ≡ Ok tt
  may_begin =
      (λ j.
      cond (is_among object (row_free j)) (Err refused.SameObject)
      (cond (nat_lt (get_or h.objects.ceilings object 0) (raised h.objects.ceilings CEILING (row_free j))) (Err refused.AboveCeiling) (Ok tt)))
      ∙ ap (λ b. cond b (Err refused.AboveCeiling) (Ok tt))
      (le-ltb (get_or h.objects.ceilings object 0) CEILING (let high = all_attached.0 in omega (arith, high)))

  pub no_kinds : length (kinds_at h.kinds TASKS) ≡ 0
  no_kinds = kept.rows.paired TASKS ∙ ap length row_free

  row_there : TASKS < length h.objects.opened
  row_there = let e = kept.rows.opened in omega (arith, e)

  pub kinds_there : TASKS < length h.kinds
  kinds_there = let e = kept.rows.kinds in omega (arith, e)

  module _ (objects : Actions) (rows : List (List Kind)) (oe : objects ≡ with_opened ACTOR (opened_by h.objects ACTOR ++ object ∷ []) h.objects)
      (ke : rows ≡ set h.kinds TASKS (kinds_at h.kinds TASKS ++ kinds.Writes ∷ [])) where
    abbrev os : List ℕ
    os = get_or h.objects.opened TASKS [] ++ object ∷ []

    abbrev ks : List Kind
    ks = kinds_at h.kinds TASKS ++ kinds.Writes ∷ []

    abbrev plain : Actions
    plain = record h.objects { opened = set h.objects.opened TASKS os }

    abbrev w : Held
    w = record h { running = Some a; handler = Some a; objects = plain; kinds = set h.kinds TASKS ks; ahead = rest }

    own_row : row_actions w TASKS ≡ Writes object ∷ []
    own_row =
        ap (λ l. actions_of l (get_or (set h.kinds TASKS ks) TASKS [])) (get_or-set_same h.objects.opened TASKS os [] row_there)
        ∙ (ap (actions_of os) (get_or-set_same h.kinds TASKS ks [] kinds_there)
        ∙ (opened_is (get_or h.objects.opened TASKS []) (kinds_at h.kinds TASKS) object kinds.Writes (kept.rows.paired TASKS)
        ∙ ap (λ l. Writes object ∷ l) (none_at (get_or h.objects.opened TASKS []) (kinds_at h.kinds TASKS) row_free)))

    acts : (u : ℕ) → actions_at w u ≡ put a (Writes object ∷ []) (λ v. actions_at h v) u
    acts u =
        ⊎_elim
        (λ e.
        ap (actions_at w) e
        ∙ (ap (λ b. cond b (row_actions w a) (cond (is_handler (Some a) a) (row_actions w TASKS) [])) (le-ltb a (length h.objects.bases) beyond)
        ∙ (ap (λ b. cond b (row_actions w TASKS) []) (eqb_same a a refl)
        ∙ (own_row ∙ sym (put_same a u (Writes object ∷ []) (λ v. actions_at h v) e)))))
        (λ ne. by_order ne (cases_lt u (length h.objects.bases)) ∙ sym (put_other a u (Writes object ∷ []) (λ v. actions_at h v) ne))
        (same_or_not u a)
      where
        by_order : u ≢ a → (u < length h.objects.bases) ⊎ (length h.objects.bases ≤ u) → actions_at w u ≡ actions_at h u
        by_order ne (inl lt) =
            let few = kept.rows.few_tasks in
            let apart : u ≢ TASKS = (λ e. omega (arith, e, lt, few)) in
            ap (λ b. cond b (row_actions w u) (cond (is_handler (Some a) u) (row_actions w TASKS) [])) (lt-ltb u (length h.objects.bases) lt)
            ∙ ((λ j. actions_of (get_or-set_other h.objects.opened TASKS u os [] apart j) (get_or-set_other h.kinds TASKS u ks [] apart j))
            ∙ sym (ap (λ b. cond b (row_actions h u) (cond (is_handler h.handler u) (row_actions h TASKS) [])) (lt-ltb u (length h.objects.bases) lt)))
        by_order ne (inr ge) =
            ap (λ b. cond b (row_actions w u) (cond (is_handler (Some a) u) (row_actions w TASKS) [])) (le-ltb u (length h.objects.bases) ge)
            ∙ (ap (λ b. cond b (row_actions w TASKS) []) (eqb_other u a ne)
            ∙ (sym (ap (λ o. cond (is_handler o u) (row_actions h TASKS) []) nobody)
            ∙ sym (ap (λ b. cond b (row_actions h u) (cond (is_handler h.handler u) (row_actions h TASKS) [])) (le-ltb u (length h.objects.bases) ge))))

    stands : (u : ℕ) → stands_at w u ≡ put a IsRunning (λ v. stands_at h v) u
    stands u =
        ⊎_elim
        (λ e.
        ap (stands_at w) e
        ∙ (stand_beyond w a beyond
        ∙ (ap (λ b. cond b IsRunning IsFinished) (eqb_same a a refl) ∙ sym (put_same a u IsRunning (λ v. stands_at h v) e))))
        (λ ne. by_order ne (cases_lt u (length h.objects.bases)) ∙ sym (put_other a u IsRunning (λ v. stands_at h v) ne))
        (same_or_not u a)
      where
        by_order : u ≢ a → (u < length h.objects.bases) ⊎ (length h.objects.bases ≤ u) → stands_at w u ≡ stands_at h u
        by_order ne (inl lt) = stand_task w u lt ∙ sym (stand_task h u lt)
        by_order ne (inr ge) =
            stand_beyond w u ge
            ∙ (ap (λ b. cond b IsRunning IsFinished) (eqb_other u a ne)
            ∙ (sym (ap (λ o. cond (is_handler o u) IsRunning IsFinished) nobody) ∙ sym (stand_beyond h u ge)))

    abbrev begun : Held
    begun = record h { running = Some a; handler = Some a; objects = objects; kinds = rows; ahead = rest }

    start_path : kernel_of begun ≡ starts i (record (kernel_of h) { pending = later })
    start_path =
        (λ j. kernel_of (record h { running = Some a; handler = Some a; objects = oe j; kinds = ke j; ahead = rest }))
        ∙ (λ j. record (kernel_of h) { running = Some a; pending = later; actions = λ u. acts u j; place = λ u. stands u j })

    pub begun_is : int_lt h.time line.time ≡ false → kernel_of begun ≡ delivers (kernel_of old).pending (kernel_of old)
    begun_is due =
        start_path
        ∙ (sym (ap (λ p. delivers p (kernel_of h)) pending_is
        ∙ ap (λ b. cond b (kernel_of h) (starts i (record (kernel_of h) { pending = later }))) due)
        ∙ ap (λ v. delivers (kernel_of v).pending (kernel_of v)) same)

    pub begun_kept : IsKeptOrderly begun
    begun_kept =
        let x = kept.rows in
        let one : length ks ≡ 1 = length-append (kinds_at h.kinds TASKS) (kinds.Writes ∷ []) ∙ ap (λ n. n + 1) no_kinds in
        let two : length ks ≡ length os =
        one ∙ sym (length-append (get_or h.objects.opened TASKS []) (object ∷ []) ∙ ap (λ l. length l + 1) row_free) in
        subst (λ v. IsKeptOrderly v) (λ j. record h { running = Some a; handler = Some a; objects = sym oe j; kinds = sym ke j; ahead = rest }) (record {
          orderly = begins_orderly (kernel_of h) (kernel_of w) a idle_here refl beyond refl refl refl kept.orderly;
          rows = record {
            few_tasks = x.few_tasks;
            few_objects = x.few_objects;
            queues = x.queues;
            opened = length-set h.objects.opened TASKS os ∙ x.opened;
            kinds = length-set h.kinds TASKS ks ∙ x.kinds;
            places = x.places;
            short = λ u. short_put h.kinds TASKS ks kinds_there (omega (arith, one)) x.short u;
            paired = paired_put h.objects.opened h.kinds TASKS os ks row_there kinds_there two x.paired;
            channels = x.channels;
            attached = all_attached.1;
          };
          handles = record {
            alone = λ b e. (let is : a ≡ b = cc in (e, omega (arith, is), let low = channel_low in omega (arith, is, low)));
            runner = λ t e. inr e;
            free = λ e. cc;
          };
        })

-- ---- the end of a handler

nothing_of : (os : List ℕ) (ks : List Kind) → length ks ≡ length os → actions_of os ks ≡ [] → os ≡ []
nothing_of os ks pairs none =
    empty os (sym (any_is os ks pairs) ∙ ap (λ l. elim l [ [] ↦ false | a ∷ outer ↦ true ]) none)
  where
    empty : (os : List ℕ) → has_any os ≡ false → os ≡ []
    empty [] e = refl
    empty (o ∷ os) e = absurd (true≢false e)

module _ (h old : Held) (same : h ≡ old) (kept : IsKeptOrderly h) (t : ℕ) (handles : old.handler ≡ Some t) (none : (kernel_of old).actions t ≡ []) where
  is_here : h.handler ≡ Some t
  is_here = ap (λ v. v.handler) same ∙ handles

  far : length h.objects.bases ≤ t
  far = (kept.handles.alone t is_here).1

  row_empty : row_actions h TASKS ≡ []
  row_empty =
      ap (row_actions h) (sym (index_beyond h t far)) ∙ (sym (seen_at h t (inr is_here)) ∙ (ap (λ v. (kernel_of v).actions t) same ∙ none))

  abbrev gone : Held
  gone = record h { running = None; handler = None }

  no_actions : (u : ℕ) → actions_at gone u ≡ actions_at h u
  no_actions u = by_order (cases_lt u (length h.objects.bases))
    where
      by_handler : (b : Bool) → [] ≡ cond b (row_actions h TASKS) []
      by_handler true = sym row_empty
      by_handler false = refl

      by_order : (u < length h.objects.bases) ⊎ (length h.objects.bases ≤ u) → actions_at gone u ≡ actions_at h u
      by_order (inl lt) =
          ap (λ b. cond b (row_actions h u) []) (lt-ltb u (length h.objects.bases) lt)
          ∙ sym (ap (λ b. cond b (row_actions h u) (cond (is_handler h.handler u) (row_actions h TASKS) [])) (lt-ltb u (length h.objects.bases) lt))
      by_order (inr ge) =
          ap (λ b. cond b (row_actions h u) []) (le-ltb u (length h.objects.bases) ge)
          ∙ (by_handler (is_handler h.handler u)
          ∙ sym (ap (λ b. cond b (row_actions h u) (cond (is_handler h.handler u) (row_actions h TASKS) [])) (le-ltb u (length h.objects.bases) ge)))

  no_place : (u : ℕ) → stands_at gone u ≡ put t IsFinished (λ v. stands_at h v) u
  no_place u =
      ⊎_elim
      (λ e. ap (stands_at gone) e ∙ (stand_beyond gone t far ∙ sym (put_same t u IsFinished (λ v. stands_at h v) e)))
      (λ ne. by_order ne (cases_lt u (length h.objects.bases)) ∙ sym (put_other t u IsFinished (λ v. stands_at h v) ne))
      (same_or_not u t)
    where
      by_order : u ≢ t → (u < length h.objects.bases) ⊎ (length h.objects.bases ≤ u) → stands_at gone u ≡ stands_at h u
      by_order ne (inl lt) = stand_task gone u lt ∙ sym (stand_task h u lt)
      by_order ne (inr ge) =
          stand_beyond gone u ge
          ∙ (sym (ap (λ b. cond b IsRunning IsFinished) (eqb_other u t ne))
          ∙ (sym (ap (λ o. cond (is_handler o u) IsRunning IsFinished) is_here) ∙ sym (stand_beyond h u ge)))

  gone_path : kernel_of gone ≡ leaves t (kernel_of h)
  gone_path = (λ j. record (kernel_of h) { running = None; actions = λ u. no_actions u j; place = λ u. no_place u j })

  pub gone_is : kernel_of gone ≡ leaves t (kernel_of old)
  gone_is = gone_path ∙ ap (λ v. leaves t (kernel_of v)) same

  pub gone_kept : IsKeptOrderly gone
  gone_kept = record {
    orderly = subst IsOrderly (sym gone_path) (leaves_orderly (kernel_of h) t kept.orderly);
    rows = rows_same h gone kept.rows;
    handles = record {
      alone = λ a e. cc;
      runner = λ u e. cc;
      free = λ e. nothing_of (get_or h.objects.opened TASKS []) (kinds_at h.kinds TASKS) (kept.rows.paired TASKS) row_empty;
    };
  }

-- ---- who runs and is no task is the handler

pub runs_as_handler : (h old : Held) → h ≡ old → IsKeptOrderly h → (t : ℕ) → old.running ≡ Some t → is_task (kernel_of old).partition t ≡ false
    → old.handler ≡ Some t
runs_as_handler h old same kept t run no_task =
    ⊎_elim
    (λ lt.
    absurd (true≢false (sym (lt-ltb t (length h.objects.bases) lt) ∙ (ap (λ v. is_task (kernel_of v).partition t) same ∙ no_task))))
    (λ is. sym (ap (λ v. v.handler) same) ∙ is)
    (kept.handles.runner t (ap (λ v. v.running) same ∙ run))

pub nothing_inside : (k : Kernel) (t : ℕ) → is_inside_any k t ≡ false → k.actions t ≡ []
nothing_inside k t e = by_actions (k.actions t) e
  where
    by_actions : (l : List Action) → elim l [ [] ↦ false | a ∷ outer ↦ true ] ≡ false → l ≡ []
    by_actions [] e = refl
    by_actions (a ∷ outer) e = absurd (true≢false e)

-- ---- who is inside

module _ (k : Kernel) (o : ℕ) where
  skips : (j m : ℕ) → ((u : ℕ) → m ≤ u → u < m + j → k.actions u ≡ []) → inside_among (m + j) k o ≡ inside_among m k o
  skips zero m none = (let e : m + 0 ≡ m = omega arith in ap (λ n. inside_among n k o) e)
  skips (suc j) m none =
      let e : m + suc j ≡ suc (m + j) = omega arith in
      ap (λ n. inside_among n k o) e
      ∙ (ap (λ l. inside_among (m + j) k o ++ cond (is_object_open o l) ((m + j) ∷ []) []) (none (m + j) (omega arith) (omega arith))
      ∙ (append-nil (inside_among (m + j) k o) ∙ skips j m (λ u low up. none u low (omega (arith, up)))))

abbrev pub one_more : List ℕ → Option ℕ → List ℕ
one_more l None = l
one_more l (Some a) = l ++ a ∷ []

module _ (h : Held) (kept : IsKeptOrderly h) (o : ℕ) where
  abbrev k : Kernel
  k = kernel_of h

  abbrev n : ℕ
  n = length h.objects.bases

  others : (q : Option ℕ) → h.handler ≡ q → (u : ℕ) → n ≤ u → is_handler q u ≡ false → k.actions u ≡ []
  others q is u ge apart =
      ap (λ b. cond b (row_actions h u) (cond (is_handler h.handler u) (row_actions h TASKS) [])) (le-ltb u n ge)
      ∙ (ap (λ x. cond (is_handler x u) (row_actions h TASKS) []) is ∙ ap (λ b. cond b (row_actions h TASKS) []) apart)

  by_handler : (q : Option ℕ) → h.handler ≡ q → one_more (inside_among n k o) (inside_of (λ a. is_object_open o (k.actions a)) h.handler) ≡ inside k o
  by_handler None is =
      let all : n + (CHANNELS + 1) ≡ suc (n + CHANNELS) = omega arith in
      ap (λ x. one_more (inside_among n k o) (inside_of (λ a. is_object_open o (k.actions a)) x)) is
      ∙ (sym (skips k o (CHANNELS + 1) n (λ u low up. others None is u low refl)) ∙ ap (λ m. inside_among m k o) all)
  by_handler (Some a) is =
      let x = kept.handles.alone a is in
      let low = x.1 in
      let up = x.2 in
      let d = a - n in
      let e : n + d ≡ a = omega (arith, low) in
      let last : suc a + (n + CHANNELS - a) ≡ suc (n + CHANNELS) = omega (arith, up) in
      ap (λ z. one_more (inside_among n k o) (inside_of (λ a. is_object_open o (k.actions a)) z)) is
      ∙ (by_test (is_object_open o (k.actions a)) (inside_among n k o)
      ∙ (ap (λ l. l ++ cond (is_object_open o (k.actions a)) (a ∷ []) [])
      (sym (skips k o d n (λ u ge lt. others (Some a) is u ge (eqb_other u a (λ same. omega (arith, same, e, lt))))) ∙ ap (λ m. inside_among m k o) e)
      ∙ (sym (skips k o (n + CHANNELS - a) (suc a) (λ u ge lt. others (Some a) is u (omega (arith, low, ge)) (eqb_other u a (λ same. omega (arith, same, ge)))))
      ∙ ap (λ m. inside_among m k o) last)))
    where
      by_test : (b : Bool) (l : List ℕ) → one_more l (cond b (Some a) None) ≡ l ++ cond b (a ∷ []) []
      by_test true l = refl
      by_test false l = sym (append-nil l)

pub inside_is : (h old : Held) → h ≡ old → IsKeptOrderly h → (o : ℕ)
    → one_more (inside_among (kernel_of old).partition.tasks (kernel_of old) o) (inside_of (λ a. is_object_open o ((kernel_of old).actions a)) old.handler)
    ≡ inside (kernel_of old) o
inside_is h old same kept o =
    subst (λ v. one_more (inside_among (kernel_of v).partition.tasks (kernel_of v) o) (inside_of (λ a. is_object_open o ((kernel_of v).actions a)) v.handler)
    ≡ inside (kernel_of v) o) same (by_handler h kept o h.handler refl)

-- ---- a number that is neither a task's nor the handler's

pub gone_at : (h : Held) → IsKeptOrderly h → (u : ℕ) → length h.objects.bases ≤ u → (h.running ≡ Some u → ⊥)
    → (active (kernel_of h) u ≡ CEILING) × ((kernel_of h).actions u ≡ [])
gone_at h kept u ge idle =
    (ap (raised_over (kernel_of h).partition.ceiling ((kernel_of h).partition.base u)) none ∙ get_or_past h.objects.bases u CEILING ge, none)
  where
    by_handler : (q : Option ℕ) → h.handler ≡ q → is_handler q u ≡ false
    by_handler None is = refl
    by_handler (Some a) is =
        eqb_other u a (λ same. idle (subst (λ v. h.running ≡ Some v) (sym same) (kept.handles.alone a is).0))

    none : actions_at h u ≡ []
    none =
        ap (λ b. cond b (row_actions h u) (cond (is_handler h.handler u) (row_actions h TASKS) [])) (le-ltb u (length h.objects.bases) ge)
        ∙ ap (λ b. cond b (row_actions h TASKS) []) (by_handler h.handler refl)
