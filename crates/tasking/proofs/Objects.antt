-- Open actions and queued calls: what a write to them makes of the kernel that they are seen as.
use Rattle.std.proofs.Common.{◌≡◌, ◌≢◌, ◌⊎◌, inl, inr, ℕ, zero, suc, ◌+◌, ◌-◌, ◌<◌, ◌≤◌, List, [], ◌∷◌, ◌++◌, Option, Some, None, Bool, true, false, cond, get_or, length}
use Rattle.std.proofs.Common.{length-set, length-append, map, set, take, nat_lt, slice_get, Result, Ok, Err, refl, sym, ap, ◌∙◌, subst, ⊎_elim, arith}
use Rattle.std.proofs.Common.{get_or-set_same, get_or-set_other, length-take, min}
use Rattle.std.specs.Result.{result_err}
use Rattle.std.proofs.lemmas.Bool.{true≢false, cases_lt, le-ltb, lt-ltb}
use Rattle.std.proofs.lemmas.List.{get_or_past, get_or-map, length-map, map-set}
use Rattle.base.specs.declared.limits.TheConstants.{ACTOR, CEILING, OBJECTS, TASKS}
use Rattle.protected.specs.Actions.{Actions, active_of, base_of, ceiling_of, has_any, innermost_of as innermost_object, is_among, opened_by, opening, raised as raised_by, row_of, with_opened}
use Rattle.protected.specs.Actions.{with_queued, without_last}
use Rattle.protected.specs.declared.refusal.Refusal.{Refusal as Refused}
use Rattle.protected.specs.declared.refusal.Refusal.TheVariants as refused
use Rattle.kernel.specs.State.{Action, Writes, active, is_object_open, put, raised}
use Rattle.kernel.specs.Interrupts.{told}
use Rattle.kernel.specs.Effects.{Refusal, SameObject, AboveCeiling, call_refusal, is_above_ceiling, is_inside_any, outer_of, queues, takes_over, with_actions}
use Rattle.kernel.specs.PutLaws.{by_put, eqb_other, eqb_same, put_other, put_same, same_or_not}
use Rattle.tasking.specs.declared.reports.Kind.{Kind}
use Rattle.tasking.specs.declared.reports.Kind.TheVariants as kinds
use Rattle.tasking.specs.declared.reports.Place.TheVariants as places
use Rattle.tasking.specs.Held.{Held, action_of, actions_at, actions_of, index_in, innermost, is_handler, kernel_of, kinds_at, refused_as, row_actions}
use Rattle.tasking.specs.Orderly.{AreRows, IsKeptOrderly, IsTask, StandsThere}
use Rattle.tasking.proofs.Actions.{any_is, closed_is, innermost_at, innermost_is, open_is, opened_is, raised_is, retaken_is}
use Rattle.tasking.proofs.Moved.{placed, rows_placed}
use Rattle.tasking.proofs.Moves.{in_places, task_here, there_here}
use Rattle.tasking.proofs.Places.{either_default, set_is}

-- one row among rows
module _ {A : Type 0} (f : A → List Kind) (lists : List A) (k r : ℕ) (is : k ≡ r) (h : r < length (map f lists)) where
  in_lists : k < length lists
  in_lists = let e = length-map lists f in omega arith

  pub kinds_here : (d : A) → f (get_or lists k d) ≡ kinds_at (map f lists) r
  kinds_here d = sym (get_or-map f lists k d [] in_lists) ∙ ap (λ n. kinds_at (map f lists) n) is

  pub kinds_put : (l : A) (ks : List Kind) → f l ≡ ks → map f (set lists k l) ≡ set (map f lists) r ks
  kinds_put l ks e = map-set f lists k l ∙ (ap (λ n. set (map f lists) n (f l)) is ∙ ap (set (map f lists) r) e)

pub paired_put : (objects : List (List ℕ)) (rows : List (List Kind)) (t : ℕ) (os : List ℕ) (ks : List Kind) → t < length objects → t < length rows
    → length ks ≡ length os
    → ((u : ℕ) → length (get_or rows u []) ≡ length (get_or objects u [])) → (u : ℕ) → length (get_or (set rows t ks) u [])
    ≡ length (get_or (set objects t os) u [])
paired_put objects rows t os ks lo lk e all u =
    ⊎_elim
    (λ same.
    ap (λ v. length (get_or (set rows t ks) v [])) same
    ∙ (ap length (get_or-set_same rows t ks [] lk)
    ∙ (e ∙ (sym (ap length (get_or-set_same objects t os [] lo)) ∙ sym (ap (λ v. length (get_or (set objects t os) v [])) same)))))
    (λ ne. ap length (get_or-set_other rows t u ks [] ne) ∙ (all u ∙ sym (ap length (get_or-set_other objects t u os [] ne))))
    (same_or_not u t)

kind_paired : (objects : List (List ℕ)) (rows : List (List Kind)) (t : ℕ) (ks : List Kind) → t < length rows → length ks ≡ length (get_or objects t [])
    → ((u : ℕ) → length (get_or rows u []) ≡ length (get_or objects u [])) → (u : ℕ) → length (get_or (set rows t ks) u []) ≡ length (get_or objects u [])
kind_paired objects rows t ks lk e all u =
    ⊎_elim
    (λ same. ap (λ v. length (get_or (set rows t ks) v [])) same
    ∙ (ap length (get_or-set_same rows t ks [] lk) ∙ (e ∙ ap (λ v. length (get_or objects v [])) (sym same))))
    (λ ne. ap length (get_or-set_other rows t u ks [] ne) ∙ all u)
    (same_or_not u t)

pub short_put : (rows : List (List Kind)) (t : ℕ) (ks : List Kind) → t < length rows → length ks ≤ OBJECTS
    → ((u : ℕ) → length (get_or rows u []) ≤ OBJECTS) → (u : ℕ) → length (get_or (set rows t ks) u []) ≤ OBJECTS
short_put rows t ks lk few all u =
    ⊎_elim
    (λ e. subst (λ l. length l ≤ OBJECTS) (sym (ap (λ v. get_or (set rows t ks) v []) e ∙ get_or-set_same rows t ks [] lk)) few)
    (λ ne. subst (λ l. length l ≤ OBJECTS) (sym (get_or-set_other rows t u ks [] ne)) (all u))
    (same_or_not u t)

-- ---- the row of a task, or of the handler that runs

-- a task, or the handler that is there
abbrev pub IsHeld : Held → ℕ → Type 0
IsHeld h t = (t < length h.objects.bases) ⊎ (h.handler ≡ Some t)

pub held_there : (h : Held) → IsKeptOrderly h → (t : ℕ) → StandsThere (kernel_of h) t → IsHeld h t
held_there h kept t (inl lt) = inl lt
held_there h kept t (inr run) = kept.handles.runner t run

index_task : (h : Held) (t : ℕ) → t < length h.objects.bases → index_in h t ≡ t
index_task h t lt = ap (λ b. cond b t TASKS) (lt-ltb t (length h.objects.bases) lt)

pub index_beyond : (h : Held) (t : ℕ) → length h.objects.bases ≤ t → index_in h t ≡ TASKS
index_beyond h t ge = ap (λ b. cond b t TASKS) (le-ltb t (length h.objects.bases) ge)

pub index_low : (h : Held) (t : ℕ) → length h.objects.bases ≤ TASKS → index_in h t < TASKS + 1
index_low h t few =
    ⊎_elim
    (λ lt. let e = index_task h t lt in omega (arith, e, lt, few))
    (λ ge. let e = index_beyond h t ge in omega (arith, e))
    (cases_lt t (length h.objects.bases))

-- the number by which the keeper of actions knows it
pub row_told : (h : Held) (t number : ℕ) → length h.objects.bases ≤ TASKS → number ≡ told (kernel_of h).partition t → row_of number ≡ index_in h t
row_told h t number few is = ap row_of is ∙ by_order (cases_lt t (length h.objects.bases))
  where
    by_order : (t < length h.objects.bases) ⊎ (length h.objects.bases ≤ t) → row_of (told (kernel_of h).partition t) ≡ index_in h t
    by_order (inl lt) =
        ap (λ b. row_of (cond b t ACTOR)) (lt-ltb t (length h.objects.bases) lt)
        ∙ (ap (λ b. cond b TASKS t) (eqb_other t ACTOR (λ e. omega (arith, e, lt, few))) ∙ sym (index_task h t lt))
    by_order (inr ge) = ap (λ b. row_of (cond b t ACTOR)) (le-ltb t (length h.objects.bases) ge) ∙ sym (index_beyond h t ge)

-- its open actions stand in that row
pub seen_at : (h : Held) (t : ℕ) → IsHeld h t → actions_at h t ≡ row_actions h (index_in h t)
seen_at h t held = by_order (cases_lt t (length h.objects.bases)) held
  where
    by_order : (t < length h.objects.bases) ⊎ (length h.objects.bases ≤ t) → IsHeld h t → actions_at h t ≡ row_actions h (index_in h t)
    by_order (inl lt) any =
        ap (λ b. cond b (row_actions h t) (cond (is_handler h.handler t) (row_actions h TASKS) [])) (lt-ltb t (length h.objects.bases) lt) ∙ ap (row_actions h) (sym (index_task h t lt))
    by_order (inr ge) (inl lt) = absurd (omega (arith, ge, lt))
    by_order (inr ge) (inr is) =
        ap (λ b. cond b (row_actions h t) (cond (is_handler h.handler t) (row_actions h TASKS) [])) (le-ltb t (length h.objects.bases) ge)
        ∙ (ap (λ o. cond (is_handler o t) (row_actions h TASKS) []) is
        ∙ (ap (λ b. cond b (row_actions h TASKS) []) (eqb_same t t refl) ∙ ap (row_actions h) (sym (index_beyond h t ge))))

-- ---- a row is written

module _ (h : Held) (few : length h.objects.bases ≤ TASKS) (t : ℕ) (held : IsHeld h t) (objects : List (List ℕ)) (rows : List (List Kind)) (os : List ℕ)
    (ks : List Kind) (here_objects : get_or objects (index_in h t) [] ≡ os) (here_rows : get_or rows (index_in h t) [] ≡ ks)
    (others_objects : (v : ℕ) → v ≢ index_in h t → get_or objects v [] ≡ get_or h.objects.opened v [])
    (others_rows : (v : ℕ) → v ≢ index_in h t → get_or rows v [] ≡ get_or h.kinds v []) where
  abbrev w : Held
  w = record h { objects = record h.objects { opened = objects }; kinds = rows }

  other_row : (v : ℕ) → v ≢ index_in h t → row_actions w v ≡ row_actions h v
  other_row v ne = (λ i. actions_of (others_objects v ne i) (others_rows v ne i))

  -- no other number has this row
  apart_task : (u : ℕ) → u ≢ t → u < length h.objects.bases → u ≢ index_in h t
  apart_task u ne lt e =
      ⊎_elim
      (λ task. ne (e ∙ index_task h t task))
      (λ ge. let is = e ∙ index_beyond h t ge in omega (arith, is, lt, few))
      (cases_lt t (length h.objects.bases))

  apart_handler : (u : ℕ) → u ≢ t → is_handler h.handler u ≡ true → TASKS ≢ index_in h t
  apart_handler u ne handles e =
      ⊎_elim
      (λ task. let is = e ∙ index_task h t task in omega (arith, is, task, few))
      (λ ge. ⊎_elim
      (λ lt. omega (arith, ge, lt))
      (λ is. true≢false (sym handles ∙ (ap (λ o. is_handler o u) is ∙ eqb_other u t ne)))
      held)
      (cases_lt t (length h.objects.bases))

  pub rows_written : (u : ℕ) → actions_at w u ≡ put t (actions_of os ks) (λ v. actions_at h v) u
  rows_written u =
      ⊎_elim
      (λ e.
      ap (actions_at w) e
      ∙ (seen_at w t held
      ∙ ((λ i. actions_of (here_objects i) (here_rows i)) ∙ sym (put_same t u (actions_of os ks) (λ v. actions_at h v) e))))
      (λ ne. others ne ∙ sym (put_other t u (actions_of os ks) (λ v. actions_at h v) ne))
      (same_or_not u t)
    where
      others : u ≢ t → actions_at w u ≡ actions_at h u
      others ne = by_order (cases_lt u (length h.objects.bases))
        where
          by_handler : (b : Bool) → is_handler h.handler u ≡ b → cond b (row_actions w TASKS) [] ≡ cond b (row_actions h TASKS) []
          by_handler true e = other_row TASKS (apart_handler u ne e)
          by_handler false e = refl

          by_order : (u < length h.objects.bases) ⊎ (length h.objects.bases ≤ u) → actions_at w u ≡ actions_at h u
          by_order (inl lt) =
              ap (λ b. cond b (row_actions w u) (cond (is_handler h.handler u) (row_actions w TASKS) [])) (lt-ltb u (length h.objects.bases) lt)
              ∙ (other_row u (apart_task u ne lt)
              ∙ sym (ap (λ b. cond b (row_actions h u) (cond (is_handler h.handler u) (row_actions h TASKS) [])) (lt-ltb u (length h.objects.bases) lt)))
          by_order (inr ge) =
              ap (λ b. cond b (row_actions w u) (cond (is_handler h.handler u) (row_actions w TASKS) [])) (le-ltb u (length h.objects.bases) ge)
              ∙ (by_handler (is_handler h.handler u) refl
              ∙ sym (ap (λ b. cond b (row_actions h u) (cond (is_handler h.handler u) (row_actions h TASKS) [])) (le-ltb u (length h.objects.bases) ge)))

-- a task's open actions are written, by the number that its keeper knows
module _ (h : Held) (kept : IsKeptOrderly h) (t : ℕ) (there : StandsThere (kernel_of h) t) (number : ℕ) (tells : row_of number ≡ index_in h t) where
  pub in_kinds : index_in h t < length h.kinds
  in_kinds = let low = index_low h t kept.rows.few_tasks in let e = kept.rows.kinds in omega (arith, low, e)

  in_opened : index_in h t < length h.objects.opened
  in_opened = let low = index_low h t kept.rows.few_tasks in let e = kept.rows.opened in omega (arith, low, e)

  opened_here : opened_by h.objects number ≡ get_or h.objects.opened (index_in h t) []
  opened_here = ap (λ r. get_or h.objects.opened r []) tells

  pub paired_here : length (kinds_at h.kinds (index_in h t)) ≡ length (opened_by h.objects number)
  paired_here = kept.rows.paired (index_in h t) ∙ sym (ap length opened_here)

  -- as the kernel has them
  pub actions_here : (kernel_of h).actions t ≡ actions_of (opened_by h.objects number) (kinds_at h.kinds (index_in h t))
  actions_here =
      seen_at h t (held_there h kept t there) ∙ sym (ap (λ os. actions_of os (kinds_at h.kinds (index_in h t))) opened_here)

  module _ (os : List ℕ) (ks : List Kind) (objects : Actions) (rows : List (List Kind)) (oe : objects ≡ with_opened number os h.objects)
      (ke : rows ≡ set h.kinds (index_in h t) ks) where
    abbrev r : ℕ
    r = index_in h t

    oe_here : objects ≡ record h.objects { opened = set h.objects.opened r os }
    oe_here = oe ∙ ap (λ n. record h.objects { opened = set h.objects.opened n os }) tells

    pub actions_path : kernel_of (record h { objects = objects; kinds = rows }) ≡ with_actions t (actions_of os ks) (kernel_of h)
    actions_path =
        (λ i. kernel_of (record h { objects = oe_here i; kinds = ke i }))
        ∙ (λ i. record (kernel_of h) {
          actions = λ u.
              rows_written h kept.rows.few_tasks t (held_there h kept t there) (set h.objects.opened r os) (set h.kinds r ks) os ks
              (get_or-set_same h.objects.opened r os [] in_opened) (get_or-set_same h.kinds r ks [] in_kinds)
              (λ v ne. get_or-set_other h.objects.opened r v os [] ne) (λ v ne. get_or-set_other h.kinds r v ks [] ne) u i;
        })

    actions_rows : length ks ≤ OBJECTS → length ks ≡ length os
        → AreRows (record h { objects = record h.objects { opened = set h.objects.opened r os }; kinds = set h.kinds r ks })
    actions_rows few e = let x = kept.rows in record {
      few_tasks = x.few_tasks;
      few_objects = x.few_objects;
      queues = x.queues;
      opened = length-set h.objects.opened r os ∙ x.opened;
      kinds = length-set h.kinds r ks ∙ x.kinds;
      places = x.places;
      short = λ u. short_put h.kinds r ks in_kinds few x.short u;
      paired = paired_put h.objects.opened h.kinds r os ks in_opened in_kinds e x.paired;
      channels = x.channels;
      attached = x.attached;
    }

    -- where no handler is there it is a task's row that is written
    free_still : h.handler ≡ None → get_or (set h.objects.opened r os) TASKS [] ≡ []
    free_still none =
        get_or-set_other h.objects.opened r TASKS os [] (λ e.
        ⊎_elim
        (λ lt. let is = e ∙ index_task h t lt in let few = kept.rows.few_tasks in omega (arith, is, lt, few))
        (λ is. (let some : h.handler ≡ Some t = is in let no : h.handler ≡ None = none in absurd (cc)))
        (held_there h kept t there))
        ∙ kept.handles.free none

    pub actions_kept : length ks ≤ OBJECTS → length ks ≡ length os → IsKeptOrderly (record h { objects = objects; kinds = rows })
    actions_kept few e = subst (λ v. IsKeptOrderly v) (λ i. record h { objects = sym oe_here i; kinds = sym ke i }) (record {
      orderly = kept.orderly;
      rows = actions_rows few e;
      handles = record { alone = kept.handles.alone; runner = kept.handles.runner; free = free_still };
    })

-- an action is opened
allowed_at : (b c : Bool) → ◌≡◌ {A = Option Refusal} (cond b (Some SameObject) (cond c (Some AboveCeiling) None)) None
    → ◌≡◌ {A = Result (Unit {0}) Refused} (cond b (Err refused.SameObject) (cond c (Err refused.AboveCeiling) (Ok (tt {0})))) (Ok (tt {0}))
allowed_at true c e = absurd (cc)
allowed_at false true e = absurd (cc)
allowed_at false false e = refl

refused_go : (b c : Bool) → result_err (cond b (Err refused.SameObject) (cond c (Err refused.AboveCeiling) (Ok (tt {0}))))
    ≡ refused_as (cond b (Some SameObject) (cond c (Some AboveCeiling) None))
refused_go true c = refl
refused_go false true = refl
refused_go false false = refl

-- the base priority, by the number that is told
base_told : (h : Held) (t number : ℕ) → length h.objects.bases ≤ TASKS → number ≡ told (kernel_of h).partition t
    → base_of h.objects number ≡ get_or h.objects.bases t CEILING
base_told h t number few is = ap (base_of h.objects) is ∙ by_order (cases_lt t (length h.objects.bases))
  where
    by_order : (t < length h.objects.bases) ⊎ (length h.objects.bases ≤ t) → base_of h.objects (told (kernel_of h).partition t) ≡ get_or h.objects.bases t CEILING
    by_order (inl lt) =
        ap (λ b. base_of h.objects (cond b t ACTOR)) (lt-ltb t (length h.objects.bases) lt)
        ∙ (ap (λ b. cond b CEILING (get_or h.objects.bases t 0)) (eqb_other t ACTOR (λ e. omega (arith, e, lt, few)))
        ∙ either_default h.objects.bases t 0 CEILING lt)
    by_order (inr ge) =
        ap (λ b. base_of h.objects (cond b t ACTOR)) (le-ltb t (length h.objects.bases) ge) ∙ sym (get_or_past h.objects.bases t CEILING ge)

module _ (h old : Held) (same : h ≡ old) (kept : IsKeptOrderly h) (t : ℕ) (there : StandsThere (kernel_of old) t) (number : ℕ)
    (is : number ≡ told (kernel_of old).partition t) where
  here_is : number ≡ told (kernel_of h).partition t
  here_is = is ∙ ap (λ v. told (kernel_of v).partition t) (sym same)

  pub tells_here : row_of number ≡ index_in h t
  tells_here = row_told h t number kept.rows.few_tasks here_is

  there_now : StandsThere (kernel_of h) t
  there_now = there_here h old same kept t there

  pub row_in : index_in h t < length h.kinds
  row_in = in_kinds h kept t there_now number tells_here

  abbrev os : List ℕ
  os = opened_by h.objects number

  abbrev ks : List Kind
  ks = kinds_at h.kinds (index_in h t)

  pub paired_now : length ks ≡ length os
  paired_now = paired_here h kept t there_now number tells_here

  actions_now : (kernel_of h).actions t ≡ actions_of os ks
  actions_now = actions_here h kept t there_now number tells_here

  active_here : active (kernel_of h) t ≡ active_of h.objects number
  active_here =
      ap (λ l. raised (λ o. get_or h.objects.ceilings o 0) (get_or h.objects.bases t CEILING) l) actions_now
      ∙ (raised_is h.objects.ceilings (get_or h.objects.bases t CEILING) os ks paired_now
      ∙ ap (λ b. raised_by h.objects.ceilings b os) (sym (base_told h t number kept.rows.few_tasks here_is)))

  pub active_is : active_of h.objects number ≡ active (kernel_of old) t
  active_is = sym active_here ∙ ap (λ v. active (kernel_of v) t) same

  pub any_inside : has_any os ≡ is_inside_any (kernel_of old) t
  any_inside =
      sym (any_is os ks paired_now)
      ∙ (sym (ap (λ l. elim l [ [] ↦ false | a ∷ outer ↦ true ]) actions_now) ∙ ap (λ v. is_inside_any (kernel_of v) t) same)

  module _ (o : ℕ) where
    open_here : is_object_open o ((kernel_of h).actions t) ≡ is_among o os
    open_here = ap (is_object_open o) actions_now ∙ open_is o os ks paired_now

    above_here : is_above_ceiling (kernel_of h) t o ≡ nat_lt (ceiling_of h.objects.ceilings o) (active_of h.objects number)
    above_here = ap (nat_lt (ceiling_of h.objects.ceilings o)) active_here

    pub inside_is : is_among o os ≡ is_object_open o ((kernel_of old).actions t)
    inside_is = sym open_here ∙ ap (λ v. is_object_open o ((kernel_of v).actions t)) same

    refusal_here : call_refusal (kernel_of h) t o ≡ cond (is_among o os) (Some SameObject)
        (cond (nat_lt (ceiling_of h.objects.ceilings o) (active_of h.objects number)) (Some AboveCeiling) None)
    refusal_here = λ i. cond (open_here i) (Some SameObject) (cond (above_here i) (Some AboveCeiling) None)

    pub allowed : call_refusal (kernel_of old) t o ≡ None → opening h.objects number o ≡ Ok tt
    allowed e =
        allowed_at (is_among o os) (nat_lt (ceiling_of h.objects.ceilings o) (active_of h.objects number))
        (sym refusal_here ∙ (ap (λ v. call_refusal (kernel_of v) t o) same ∙ e))

    pub refusal_is : result_err (opening h.objects number o) ≡ refused_as (call_refusal (kernel_of old) t o)
    refusal_is =
        refused_go (is_among o os) (nat_lt (ceiling_of h.objects.ceilings o) (active_of h.objects number))
        ∙ ap refused_as (sym refusal_here ∙ ap (λ v. call_refusal (kernel_of v) t o) same)

    pub opens_is : (kind : Kind) (objects : Actions) (rows : List (List Kind)) → objects ≡ with_opened number (os ++ o ∷ []) h.objects
        → rows ≡ set h.kinds (index_in h t) (ks ++ kind ∷ [])
        → kernel_of (record h { objects = objects; kinds = rows }) ≡ with_actions t (action_of kind o ∷ (kernel_of old).actions t) (kernel_of old)
    opens_is kind objects rows oe ke =
        actions_path h kept t there_now number tells_here (os ++ o ∷ []) (ks ++ kind ∷ []) objects rows oe ke
        ∙ (ap (λ l. with_actions t l (kernel_of h)) (opened_is os ks o kind paired_now ∙ ap (λ l. action_of kind o ∷ l) (sym actions_now))
        ∙ ap (λ v. with_actions t (action_of kind o ∷ (kernel_of v).actions t) (kernel_of v)) same)

    pub opens_kept : (kind : Kind) (objects : Actions) (rows : List (List Kind)) → length os < OBJECTS
        → objects ≡ with_opened number (os ++ o ∷ []) h.objects → rows ≡ set h.kinds (index_in h t) (ks ++ kind ∷ [])
        → IsKeptOrderly (record h { objects = objects; kinds = rows })
    opens_kept kind objects rows room oe ke =
        actions_kept h kept t there_now number tells_here (os ++ o ∷ []) (ks ++ kind ∷ []) objects rows oe ke
        (let p = paired_now in let a = length-append ks (kind ∷ []) in omega (arith, p, a, room))
        (length-append ks (kind ∷ []) ∙ (ap (λ n. n + 1) paired_now ∙ sym (length-append os (o ∷ []))))

-- the innermost action is closed
long_of : (os : List ℕ) (o : ℕ) → innermost_object os ≡ Some o → (n : ℕ) × length os ≡ suc n
long_of [] o e = absurd (cc)
long_of (p ∷ os) o e = (length os, refl)

split_at : (n : ℕ) (os : List ℕ) (o : ℕ) → length os ≡ suc n → slice_get os n ≡ Some o → (outer : List ℕ) × os ≡ outer ++ o ∷ []
split_at n [] o e g = absurd (omega arith)
split_at zero (p ∷ []) o e g = let same : p ≡ o = cc in ([], ap (λ m. m ∷ []) same)
split_at zero (p ∷ r ∷ os) o e g = absurd (omega arith)
split_at (suc n) (p ∷ []) o e g = absurd (omega arith)
split_at (suc n) (p ∷ r ∷ os) o e g = let x = split_at n (r ∷ os) o (omega arith) g in (p ∷ x.0, ap (λ l. p ∷ l) x.1)

pub innermost_split : (os : List ℕ) (o : ℕ) → innermost_object os ≡ Some o → (outer : List ℕ) × os ≡ outer ++ o ∷ []
innermost_split os o e =
    let n = long_of os o e in
    let a : length os - 1 ≡ n.0 = let m = n.1 in omega arith in
    split_at n.0 os o n.1 (sym (ap (slice_get os) a) ∙ e)

some_at : {T : Type 0} (n : ℕ) (xs : List T) → length xs ≡ suc n → None ≡ slice_get xs n → ⊥
some_at n [] e g = absurd (omega arith)
some_at zero (x ∷ xs) e g = absurd (cc)
some_at (suc n) (x ∷ []) e g = absurd (omega arith)
some_at (suc n) (x ∷ y ∷ xs) e g = some_at n (y ∷ xs) (omega arith) g

none_last : {T : Type 0} (xs : List T) → None ≡ slice_get xs (length xs - 1) → xs ≡ []
none_last [] e = refl
none_last (x ∷ xs) e =
    let a : length (x ∷ xs) - 1 ≡ length xs = omega arith in
    absurd (some_at (length xs) (x ∷ xs) refl (e ∙ ap (slice_get (x ∷ xs)) a))

fewer_long : (ks : List Kind) (os : List ℕ) → length ks ≡ length os → length (take (length ks - 1) ks) ≡ length (without_last os)
fewer_long ks os e = length-take (length ks - 1) ks ∙ (ap (λ n. min (n - 1) n) e ∙ sym (length-take (length os - 1) os))

pub none_at : (opened : List ℕ) (ks : List Kind) → opened ≡ [] → actions_of opened ks ≡ []
none_at opened ks e = ap (λ l. actions_of l ks) e

again_long : (ks : List Kind) (os : List ℕ) (k : Kind) → 0 < length ks → length ks ≡ length os → length (take (length ks - 1) ks ++ k ∷ []) ≡ length os
again_long ks os k some e =
    let a = length-append (take (length ks - 1) ks) (k ∷ []) in
    let b = length-take (length ks - 1) ks in
    omega (arith, a, b, some, e)

writing_at : (os : List ℕ) (ks : List Kind) (o : ℕ) → length ks ≡ length os → innermost (actions_of os ks) ≡ Some (Writes o)
    → (n : ℕ) × ((length os ≡ suc n) × (innermost_object os ≡ Some o))
writing_at [] ks o e w = absurd (cc)
writing_at (p ∷ os) ks o e w =
    let n = length os in
    let a : length (p ∷ os) - 1 ≡ n = omega arith in
    let x = get_at n (p ∷ os) refl in
    let y = get_at n ks e in
    let both = innermost_at n (p ∷ os) ks x.0 y.0 refl e x.1 y.1 in
    (n, (refl, ap (slice_get (p ∷ os)) a ∙ (x.1 ∙ ap Some (written y.0 x.0 o (sym both ∙ w))))) where
      get_at : {T : Type 0} (n : ℕ) (xs : List T) → length xs ≡ suc n → (x : T) × slice_get xs n ≡ Some x
      get_at n [] e = absurd (omega arith)
      get_at zero (x ∷ xs) e = (x, refl)
      get_at (suc n) (x ∷ []) e = absurd (omega arith)
      get_at (suc n) (x ∷ y ∷ xs) e = get_at n (y ∷ xs) (omega arith)

      written : (k : Kind) (q o : ℕ) → ◌≡◌ {A = Option Action} (Some (action_of k q)) (Some (Writes o)) → q ≡ o
      written kinds.Reads q o e = absurd (cc)
      written kinds.Writes q o e = cc
      written (kinds.Serves v) q o e = absurd (cc)

module _ (h old : Held) (same : h ≡ old) (kept : IsKeptOrderly h) (t : ℕ) (there : StandsThere (kernel_of old) t) (number : ℕ)
    (is : number ≡ told (kernel_of old).partition t) where
  abbrev now : StandsThere (kernel_of h) t
  now = there_here h old same kept t there

  tells : row_of number ≡ index_in h t
  tells = tells_here h old same kept t there number is

  abbrev objects_now : List ℕ
  objects_now = opened_by h.objects number

  abbrev kinds_now : List Kind
  kinds_now = kinds_at h.kinds (index_in h t)

  pairs : length kinds_now ≡ length objects_now
  pairs = paired_here h kept t now number tells

  acts_now : (kernel_of h).actions t ≡ actions_of objects_now kinds_now
  acts_now = actions_here h kept t now number tells

  acts_before : actions_of objects_now kinds_now ≡ (kernel_of old).actions t
  acts_before = sym acts_now ∙ ap (λ v. (kernel_of v).actions t) same

  pub closes_is : (o : ℕ) (objects : Actions) (rows : List (List Kind)) → Some o ≡ innermost_object objects_now
      → objects ≡ with_opened number (without_last objects_now) h.objects → rows ≡ set h.kinds (index_in h t) (take (length kinds_now - 1) kinds_now)
      → kernel_of (record h { objects = objects; kinds = rows }) ≡ with_actions t (outer_of ((kernel_of old).actions t)) (kernel_of old)
  closes_is o objects rows some oe ke =
      let n = long_of objects_now o (sym some) in
      actions_path h kept t now number tells (without_last objects_now) (take (length kinds_now - 1) kinds_now) objects rows oe ke
      ∙ (ap (λ l. with_actions t l (kernel_of h)) (closed_is n.0 objects_now kinds_now n.1 pairs ∙ ap outer_of acts_before)
      ∙ ap (λ v. with_actions t (outer_of ((kernel_of old).actions t)) (kernel_of v)) same)

  pub closes_kept : (objects : Actions) (rows : List (List Kind))
      → objects ≡ with_opened number (without_last objects_now) h.objects → rows ≡ set h.kinds (index_in h t) (take (length kinds_now - 1) kinds_now)
      → IsKeptOrderly (record h { objects = objects; kinds = rows })
  closes_kept objects rows oe ke =
      actions_kept h kept t now number tells (without_last objects_now) (take (length kinds_now - 1) kinds_now) objects rows oe ke
      (let s = kept.rows.short (index_in h t) in let a = length-take (length kinds_now - 1) kinds_now in omega (arith, s, a))
      (fewer_long kinds_now objects_now pairs)

  pub closes_none : None ≡ innermost_object objects_now → kernel_of old ≡ with_actions t (outer_of ((kernel_of old).actions t)) (kernel_of old)
  closes_none e =
      let none : (kernel_of old).actions t ≡ [] = sym acts_before ∙ none_at objects_now kinds_now (none_last objects_now e) in
      let k = kernel_of old in
      (λ i. record k { actions = λ u. sym (by_put (λ l. l ≡ k.actions u) t u [] k.actions (λ s. sym (ap k.actions s ∙ none)) (λ ne. refl)) i })
      ∙ ap (λ l. with_actions t (outer_of l) k) (sym none)

  -- a task's innermost action, with its kind
  pub innermost_seen : (o : ℕ) (k : Kind) → Some o ≡ innermost_object objects_now → Some k ≡ slice_get kinds_now (length kinds_now - 1)
      → Some (action_of k o) ≡ innermost ((kernel_of old).actions t)
  innermost_seen o k some kind =
      let n = long_of objects_now o (sym some) in
      sym (innermost_is n.0 objects_now kinds_now o k n.1 pairs (sym some) (sym kind)) ∙ ap innermost acts_before

  -- it has none, by its objects or by their kinds
  pub innermost_none : None ≡ innermost_object objects_now → None ≡ innermost ((kernel_of old).actions t)
  innermost_none e = sym (ap innermost (sym acts_before ∙ none_at objects_now kinds_now (none_last objects_now e)))

  pub kind_none : None ≡ slice_get kinds_now (length kinds_now - 1) → None ≡ innermost ((kernel_of old).actions t)
  kind_none e = innermost_none (sym (none_open (sym pairs ∙ ap length (none_last kinds_now e))))
    where
      none_open : length objects_now ≡ 0 → innermost_object objects_now ≡ None
      none_open few = ap innermost_object (no_more objects_now few)
        where
          no_more : (opened : List ℕ) → length opened ≡ 0 → opened ≡ []
          no_more [] e = refl
          no_more (o ∷ rest) e = absurd (omega arith)

  module _ (o u : ℕ) (is_writing : innermost ((kernel_of old).actions t) ≡ Some (Writes o)) (caller : IsTask (kernel_of old) u)
      (object : o < (kernel_of old).partition.objects) where
    pub object_here : o < length h.objects.ceilings
    object_here = subst (λ v. o < length v.objects.ceilings) (sym same) object

    in_queued : o < length h.objects.queued
    in_queued = let r = kept.rows in let q = r.queues in let f = r.few_objects in let l = object_here in omega arith

    its_objects : (n : ℕ) × ((length objects_now ≡ suc n) × (innermost_object objects_now ≡ Some o))
    its_objects = writing_at objects_now kinds_now o pairs (ap innermost acts_before ∙ is_writing)

    pub some_kind : 0 < length kinds_now
    some_kind = let x = its_objects in let e = x.1.0 in let p = pairs in omega arith

    -- there is room for the kind of the service
    pub service_room : (ks : List Kind) → ks ≡ take (length kinds_now - 1) kinds_now → length ks < OBJECTS
    service_room ks e =
        let a = length-take (length kinds_now - 1) kinds_now in
        let b = ap length e in
        let s = kept.rows.short (index_in h t) in
        let n = some_kind in
        omega (arith, a, b, s, n)

    module _ (k : ℕ) (objects : Actions) (rows : List (List Kind)) (place : k ≡ u) (oe : objects ≡ with_queued o None h.objects)
        (ke : rows ≡ set h.kinds (index_in h t) (take (length kinds_now - 1) kinds_now ++ kinds.Serves u ∷ [])) where
      abbrev served : List Kind
      served = take (length kinds_now - 1) kinds_now ++ kinds.Serves u ∷ []

      row_here : index_in h t < length h.kinds
      row_here = in_kinds h kept t now number tells

      pub takes_is : kernel_of (record h { objects = objects; kinds = rows; places = set h.places k (places.Served o) })
          ≡ takes_over t o u (outer_of ((kernel_of old).actions t)) (kernel_of old)
      takes_is =
          let x = its_objects in
          let acts =
          retaken_is x.0 u objects_now kinds_now o x.1.0 pairs x.1.1 ∙ ap (λ l. action_of (kinds.Serves u) o ∷ outer_of l) acts_before in
          (λ i. kernel_of (record h { objects = oe i; kinds = ke i; places = set h.places k (places.Served o) }))
          ∙ ((λ i. record (kernel_of h) {
            queued = λ p. set_is (λ q. q) h.objects.queued o o None None refl in_queued p i;
            place = λ v. placed h k u (places.Served o) place (task_here h old same kept u caller) (in_places h old same kept u (task_here h old same kept u caller)) v i;
            actions = λ v.
                rows_written h kept.rows.few_tasks t (held_there h kept t now) h.objects.opened (set h.kinds (index_in h t) served) objects_now served
                (sym (opened_here h kept t now number tells)) (get_or-set_same h.kinds (index_in h t) served [] row_here)
                (λ v ne. refl) (λ v ne. get_or-set_other h.kinds (index_in h t) v served [] ne) v i;
          })
          ∙ (ap (λ l. record (takes_over t o u [] (kernel_of h)) { actions = put t l (kernel_of h).actions }) acts
          ∙ ap (λ v. takes_over t o u (outer_of ((kernel_of old).actions t)) (kernel_of v)) same))

      pub takes_kept : IsKeptOrderly (record h { objects = objects; kinds = rows; places = set h.places k (places.Served o) })
      takes_kept =
          let r = rows_placed h h k (places.Served o) kept.rows in
          let long = again_long kinds_now objects_now (kinds.Serves u) some_kind pairs in
          let row = index_in h t in
          subst (λ v. IsKeptOrderly v) (λ i. record h { objects = sym oe i; kinds = sym ke i; places = set h.places k (places.Served o) }) (record {
            orderly = kept.orderly;
            rows = record {
              few_tasks = r.few_tasks;
              few_objects = r.few_objects;
              queues = length-set h.objects.queued o None ∙ r.queues;
              opened = r.opened;
              kinds = length-set h.kinds row served ∙ r.kinds;
              places = r.places;
              short = short_put h.kinds row served row_here
                  (let p = pairs in let s = kept.rows.short row in omega (arith, long, p, s)) kept.rows.short;
              paired = kind_paired h.objects.opened h.kinds row served row_here (long ∙ ap length (opened_here h kept t now number tells)) kept.rows.paired;
              channels = r.channels;
              attached = r.attached;
            };
            handles = record { alone = kept.handles.alone; runner = kept.handles.runner; free = kept.handles.free };
          })

-- the call of a task waits in the queue of an object
module _ (h old : Held) (same : h ≡ old) (kept : IsKeptOrderly h) (t o : ℕ) (task : IsTask (kernel_of old) t) (object : o < (kernel_of old).partition.objects) where
  pub queues_is : (k : ℕ) (objects : Actions) → k ≡ t → objects ≡ with_queued o (Some t) h.objects
      → kernel_of (record h { objects = objects; places = set h.places k (places.Queued o) }) ≡ queues t o (kernel_of old)
  queues_is k objects place oe =
      let known : o < length h.objects.ceilings = subst (λ v. o < length v.objects.ceilings) (sym same) object in
      let within : o < length h.objects.queued = (let r = kept.rows in let q = r.queues in let f = r.few_objects in omega (arith, known, q, f)) in
      (λ i. kernel_of (record h { objects = oe i; places = set h.places k (places.Queued o) }))
      ∙ ((λ i. record (kernel_of h) {
        queued = λ p. set_is (λ q. q) h.objects.queued o o (Some t) None refl within p i;
        place = λ v. placed h k t (places.Queued o) place (task_here h old same kept t task) (in_places h old same kept t (task_here h old same kept t task)) v i;
      })
      ∙ ap (λ v. queues t o (kernel_of v)) same)
