-- What an effect does to open actions and queues, and a service to the two tasks that take part in it.
use Rattle.std.proofs.Common.{◌≡◌, ◌≢◌, ◌⊎◌, inl, inr, ℕ, ◌+◌, ◌-◌, ◌≤◌, ℤ, List, [], ◌∷◌, length, take, Bool, true, false, cond, eqb, ◌||◌, Option, Some, None, refl, sym, ap, ◌∙◌, subst, arith, ⊎_elim, length-drop}
use Rattle.std.proofs.lemmas.Bool.{true≢false}
use Rattle.std.proofs.lemmas.List.{length-take-le, length-reverse}
use Rattle.std.proofs.lemmas.Option.{none-some, same_Some}
use Rattle.std.specs.Prelude.{int_lt, slice_get}
use Rattle.base.specs.declared.limits.TheConstants.{FRAMES}
use Rattle.kernel.specs.State.{Kernel, TaskPlace, IsRunning, IsQueued, IsServed, Action, Reads, Writes, Serves, is_object_open, is_task, object_of, put}
use Rattle.kernel.specs.Dispatching.{becomes_ready, leaves}
use Rattle.kernel.specs.Clock.{falls_asleep}
use Rattle.kernel.specs.Effects.{ends, Effect, Quiet, Finishes, Breaks, Says, Delays, Opens, Views, Queues, Ends, Dies, Ending, Closes, TakesOver, HandsBack, done, ending_of, outer_of, service}
use Rattle.kernel.specs.Invariant.{IsInsideObject, HasAction, ServesCall}
use Rattle.kernel.specs.PutLaws.{eqb_same, put_other, put_same, put_self, same_or_not}
use Rattle.kernel.specs.Worlds.{ending}
use Rattle.image.specs.Sections.{Sections}
use Rattle.image.specs.Sections as kinds
use Rattle.image.specs.Operations.{called, called_if, entry_called, entry_of, parameters_of, results_of}
use Rattle.image.specs.Rules.{IsWellFormed}
use Rattle.image.specs.Frames.{Serving, TaskState, arguments, frames_counted, kind_of, new_frame}
use Rattle.image.specs.Steps.{Given, Raised, Results, receives, resumed, serving, serving_with, taken}
use Rattle.image_laws.specs.Shape.{AreBelow, Stands, IsGoingAbove, IsGoingOrPlaced, IsSound, callee}
use Rattle.image_laws.specs.Linked.{Fitting, FitsEntry, IsAwaiting, IsCalling, MayWrite, OwesFor, actions_of, frames_of, next_actions}
use Rattle.image.specs.declared.instruction.Operation.TheVariants.{EntryCall}
use Rattle.image.specs.declared.subprograms.Kind.TheVariants.{EntryBody}
use Rattle.image.specs.declared.subprograms.Subprogram.{Subprogram}
use Rattle.image_laws.proofs.Shapes.{begins, instr, may_above, one_more, resumed_going, waiting_placed}
use Rattle.image.specs.RuleLaws.{some_and-true}
use Rattle.image_laws.proofs.WellFormed.{depths, entry_kind, names}

-- Places

abbrev is_running : TaskPlace → Bool
is_running IsRunning = true
is_running _ = false

abbrev is_waiting : TaskPlace → Bool
is_waiting (IsQueued o) = true
is_waiting _ = false

abbrev object_or : TaskPlace → ℕ
object_or (IsQueued o) = o
object_or (IsServed o) = o
object_or _ = 0

pub running_waits_not : (p : TaskPlace) (o : ℕ) → p ≡ IsRunning → p ≡ IsQueued o → ⊥
running_waits_not p o a b = true≢false (sym (ap is_running a) ∙ ap is_running b)

pub running_served_not : (p : TaskPlace) (o : ℕ) → p ≡ IsRunning → p ≡ IsServed o → ⊥
running_served_not p o a b = true≢false (sym (ap is_running a) ∙ ap is_running b)

pub queued_served_not : (p : TaskPlace) (o q : ℕ) → p ≡ IsQueued o → p ≡ IsServed q → ⊥
queued_served_not p o q a b = true≢false (sym (ap is_waiting a) ∙ ap is_waiting b)

-- Actions

pub has_more : (P : Action → Type 0) (actions : List Action) → HasAction P (outer_of actions) → HasAction P actions
has_more P [] h = h
has_more P (a ∷ outer) h = inr h

pub serves_at : (o u : ℕ) (actions : List Action) → HasAction (ServesCall o u) actions → IsInsideObject o actions
serves_at o u [] h = h
serves_at o u (Reads p ∷ outer) h = inr (⊎_elim (λ e. absurd e) (λ h. serves_at o u outer h) h)
serves_at o u (Writes p ∷ outer) h = inr (⊎_elim (λ e. absurd e) (λ h. serves_at o u outer h) h)
serves_at o u (Serves p v ∷ outer) h = ⊎_elim (λ e. inl e.0) (λ h. inr (serves_at o u outer h)) h

-- whoever serves is inside
pub at_open : (o : ℕ) (actions : List Action) → IsInsideObject o actions → is_object_open o actions ≡ true
at_open o [] h = absurd h
at_open o (a ∷ outer) h = ⊎_elim (λ e. here e) (λ h. later (eqb (object_of a) o) (at_open o outer h)) h
  where
    here : object_of a ≡ o → (eqb (object_of a) o || is_object_open o outer) ≡ true
    here e = ap (λ b. b || is_object_open o outer) (eqb_same (object_of a) o e)

    later : (b : Bool) → is_object_open o outer ≡ true → (b || is_object_open o outer) ≡ true
    later true e = refl
    later false e = e

pub queued_same : (p : TaskPlace) (o q : ℕ) → p ≡ IsQueued o → p ≡ IsQueued q → o ≡ q
queued_same p o q a b = sym (ap object_or a) ∙ ap object_or b

pub served_same : (p : TaskPlace) (o q : ℕ) → p ≡ IsServed o → p ≡ IsServed q → o ≡ q
served_same p o q a b = sym (ap object_or a) ∙ ap object_or b

-- what an ending says of the actions

abbrev is_closing : Ending → Bool
is_closing Closes = true
is_closing (TakesOver o u) = false
is_closing (HandsBack u) = false

abbrev is_taking_over : Ending → Bool
is_taking_over (TakesOver o u) = true
is_taking_over Closes = false
is_taking_over (HandsBack u) = false

abbrev object_in : Ending → ℕ
object_in (TakesOver o u) = o
object_in Closes = 0
object_in (HandsBack u) = 0

abbrev caller_in : Ending → ℕ
caller_in (HandsBack u) = u
caller_in Closes = 0
caller_in (TakesOver o u) = u

closes_serving : (o u : ℕ) (b : Bool) (actions : List Action) (queued : ℕ → Option ℕ) → ending_of b actions queued ≡ Closes → HasAction (ServesCall o u) actions → HasAction (ServesCall o u) (outer_of actions)
closes_serving o u b [] queued e h = h
closes_serving o u b (Reads p ∷ outer) queued e h = ⊎_elim (λ e. absurd e) (λ h. h) h
closes_serving o u b (Writes p ∷ outer) queued e h = ⊎_elim (λ e. absurd e) (λ h. h) h
closes_serving o u b (Serves p v ∷ outer) queued e h = absurd (true≢false (sym (ap is_closing e)))

service_takes : (b : Bool) (p : ℕ) (q : Option ℕ) (o u : ℕ) → service b p q ≡ TakesOver o u → p ≡ o
service_takes false p q o u e = absurd (true≢false (sym (ap is_taking_over e)))
service_takes true p None o u e = absurd (true≢false (sym (ap is_taking_over e)))
service_takes true p (Some v) o u e = ap object_in e

-- only the end of a procedure or entry takes a call over
takes_over_from : (b : Bool) (actions : List Action) (queued : ℕ → Option ℕ) (o u : ℕ) → ending_of b actions queued ≡ TakesOver o u → actions ≡ Writes o ∷ outer_of actions
takes_over_from b [] queued o u e = absurd (true≢false (sym (ap is_taking_over e)))
takes_over_from b (Reads p ∷ outer) queued o u e = absurd (true≢false (sym (ap is_taking_over e)))
takes_over_from b (Serves p v ∷ outer) queued o u e = absurd (true≢false (sym (ap is_taking_over e)))
takes_over_from b (Writes p ∷ outer) queued o u e = ap (λ v. Writes v ∷ outer) (service_takes b p (queued p) o u e)

service_hands_not : (b : Bool) (p : ℕ) (q : Option ℕ) (u : ℕ) → service b p q ≡ HandsBack u → ⊥
service_hands_not false p q u e = true≢false (ap is_closing e)
service_hands_not true p None u e = true≢false (ap is_closing e)
service_hands_not true p (Some v) u e = true≢false (ap is_taking_over e)

-- only the end of a served body hands back
hands_back_from : (b : Bool) (actions : List Action) (queued : ℕ → Option ℕ) (u : ℕ) → ending_of b actions queued ≡ HandsBack u → (o : ℕ) × (actions ≡ Serves o u ∷ outer_of actions)
hands_back_from b [] queued u e = absurd (true≢false (ap is_closing e))
hands_back_from b (Reads p ∷ outer) queued u e = absurd (true≢false (ap is_closing e))
hands_back_from b (Writes p ∷ outer) queued u e = absurd (service_hands_not b p (queued p) u e)
hands_back_from b (Serves p v ∷ outer) queued u e = (p, ap (λ x. Serves p x ∷ outer) (ap caller_in e))

-- What an effect does to actions and queues

abbrev pub next_queued : ℕ → Effect → (ℕ → Option ℕ) → ℕ → Option ℕ
next_queued t (Queues o) queued = put o (Some t) queued
next_queued t _ queued = queued

module _ (k : Kernel) (t : ℕ) where
  same_actions : (u : ℕ) → k.actions u ≡ put t (k.actions t) k.actions u
  same_actions u = sym (put_self t k.actions u)

  delayed_actions : (z : ℤ) → ((done t (Delays z) k).actions ≡ k.actions) × ((done t (Delays z) k).queued ≡ k.queued)
  delayed_actions z = by (int_lt k.now z)
    where
      by : (b : Bool) → ((cond b (falls_asleep t z (leaves t k)) (becomes_ready t (leaves t k))).actions ≡ k.actions) × ((cond b (falls_asleep t z (leaves t k)) (becomes_ready t (leaves t k))).queued ≡ k.queued)
      by true = (refl, refl)
      by false = (refl, refl)

  -- unless a queued call is taken over or a caller is handed back to
  pub closes_actions : (e : Effect) → ending k t e ≡ Closes → (u : ℕ) → (done t e k).actions u ≡ put t (next_actions e (k.actions t)) k.actions u
  closes_actions Quiet is u = same_actions u
  closes_actions (Says label v) is u = same_actions u
  closes_actions (Delays z) is u = ap (λ f. f u) (delayed_actions z).0 ∙ same_actions u
  closes_actions (Opens o) is u = refl
  closes_actions (Views o) is u = refl
  closes_actions (Queues o) is u = same_actions u
  closes_actions (Ends b) is u = ap (λ x. (ends t x (outer_of (k.actions t)) k).actions u) is
  closes_actions Finishes is u = same_actions u
  closes_actions (Dies x) is u = same_actions u
  closes_actions Breaks is u = same_actions u

  pub closes_queued : (e : Effect) → ending k t e ≡ Closes → (done t e k).queued ≡ next_queued t e k.queued
  closes_queued Quiet is = refl
  closes_queued (Says label v) is = refl
  closes_queued (Delays z) is = (delayed_actions z).1
  closes_queued (Opens o) is = refl
  closes_queued (Views o) is = refl
  closes_queued (Queues o) is = refl
  closes_queued (Ends b) is = ap (λ x. (ends t x (outer_of (k.actions t)) k).queued) is
  closes_queued Finishes is = refl
  closes_queued (Dies x) is = refl
  closes_queued Breaks is = refl

  -- an effect that ends no action keeps who is served, and serves nobody new
  pub keeps_serving : (e : Effect) → ending k t e ≡ Closes → (o u : ℕ) → HasAction (ServesCall o u) (k.actions t) → HasAction (ServesCall o u) (next_actions e (k.actions t))
  keeps_serving Quiet is o u h = h
  keeps_serving (Says label v) is o u h = h
  keeps_serving (Delays z) is o u h = h
  keeps_serving (Opens p) is o u h = inr h
  keeps_serving (Views p) is o u h = inr h
  keeps_serving (Queues p) is o u h = h
  keeps_serving (Ends b) is o u h = closes_serving o u b (k.actions t) k.queued is h
  keeps_serving Finishes is o u h = h
  keeps_serving (Dies x) is o u h = h
  keeps_serving Breaks is o u h = h

  pub serves_no_more : (e : Effect) (o u : ℕ) → HasAction (ServesCall o u) (next_actions e (k.actions t)) → HasAction (ServesCall o u) (k.actions t)
  serves_no_more Quiet o u h = h
  serves_no_more (Says label v) o u h = h
  serves_no_more (Delays z) o u h = h
  serves_no_more (Opens p) o u h = ⊎_elim (λ e. absurd e) (λ h. h) h
  serves_no_more (Views p) o u h = ⊎_elim (λ e. absurd e) (λ h. h) h
  serves_no_more (Queues p) o u h = h
  serves_no_more (Ends b) o u h = has_more (ServesCall o u) (k.actions t) h
  serves_no_more Finishes o u h = h
  serves_no_more (Dies x) o u h = h
  serves_no_more Breaks o u h = h

-- who is queued afterwards was queued, or is the task that queues
pub queued_from : (t : ℕ) (e : Effect) (queued : ℕ → Option ℕ) (o u : ℕ) → next_queued t e queued o ≡ Some u → (queued o ≡ Some u) ⊎ ((u ≡ t) × (e ≡ Queues o))
queued_from t Quiet queued o u is = inl is
queued_from t (Says label v) queued o u is = inl is
queued_from t (Delays z) queued o u is = inl is
queued_from t (Opens p) queued o u is = inl is
queued_from t (Views p) queued o u is = inl is
queued_from t (Ends b) queued o u is = inl is
queued_from t Finishes queued o u is = inl is
queued_from t (Dies x) queued o u is = inl is
queued_from t Breaks queued o u is = inl is
queued_from t (Queues p) queued o u is =
    ⊎_elim
    (λ e. inr (sym (same_Some _ _ (sym (put_same p o (Some t) queued e) ∙ is)), ap Queues (sym e)))
    (λ ne. inl (sym (put_other p o (Some t) queued ne) ∙ is))
    (same_or_not o p)

-- what a step owes at the end of an action
abbrev OwesEnd : Sections → Bool → List Action → Effect → Type 0
OwesEnd i own actions e = (g : Option Given) (s : TaskState) → OwesFor i own actions e g s → (frames_counted own s.callers + 1 ≤ FRAMES) × Fitting i actions g

module _ (i : Sections) (k : Kernel) (t : ℕ) where
  -- a queued call is taken over
  pub record Over (e : Effect) (o u : ℕ) : Type 0 where
    pub actions : (done t e k).actions ≡ put t (Serves o u ∷ outer_of (k.actions t)) k.actions
    pub queued : (done t e k).queued ≡ put o None k.queued
    pub writes : k.actions t ≡ Writes o ∷ outer_of (k.actions t)
    pub next : next_actions e (k.actions t) ≡ outer_of (k.actions t)
    pub owed : OwesEnd i (is_task k.partition t) (k.actions t) e

  no_over : {o u : ℕ} → Closes ≡ TakesOver o u → ⊥
  no_over e = true≢false (ap is_closing e)

  pub over_from : (e : Effect) (o u : ℕ) → ending k t e ≡ TakesOver o u → Over e o u
  over_from Quiet o u is = absurd (no_over is)
  over_from (Says label v) o u is = absurd (no_over is)
  over_from (Delays z) o u is = absurd (no_over is)
  over_from (Opens p) o u is = absurd (no_over is)
  over_from (Views p) o u is = absurd (no_over is)
  over_from (Queues p) o u is = absurd (no_over is)
  over_from (Ends b) o u is =
      record {
        actions = ap (λ x. (ends t x (outer_of (k.actions t)) k).actions) is;
        queued = ap (λ x. (ends t x (outer_of (k.actions t)) k).queued) is;
        writes = takes_over_from b (k.actions t) k.queued o u is;
        next = refl;
        owed = λ g s h. h;
      }
  over_from Finishes o u is = absurd (no_over is)
  over_from (Dies x) o u is = absurd (no_over is)
  over_from Breaks o u is = absurd (no_over is)

  -- a served caller is handed back to
  pub record Back (e : Effect) (u : ℕ) : Type 0 where
    pub o : ℕ
    pub serves : k.actions t ≡ Serves o u ∷ outer_of (k.actions t)
    pub actions : (done t e k).actions ≡ put t (outer_of (k.actions t)) k.actions
    pub queued : (done t e k).queued ≡ k.queued
    pub next : next_actions e (k.actions t) ≡ outer_of (k.actions t)
    pub owed : OwesEnd i (is_task k.partition t) (k.actions t) e

  no_back : {u : ℕ} → Closes ≡ HandsBack u → ⊥
  no_back e = true≢false (ap is_closing e)

  pub back_from : (e : Effect) (u : ℕ) → ending k t e ≡ HandsBack u → Back e u
  back_from Quiet u is = absurd (no_back is)
  back_from (Says label v) u is = absurd (no_back is)
  back_from (Delays z) u is = absurd (no_back is)
  back_from (Opens p) u is = absurd (no_back is)
  back_from (Views p) u is = absurd (no_back is)
  back_from (Queues p) u is = absurd (no_back is)
  back_from (Ends b) u is =
      let h = hands_back_from b (k.actions t) k.queued u is in
      record {
        o = h.0;
        serves = h.1;
        actions = ap (λ x. (ends t x (outer_of (k.actions t)) k).actions) is;
        queued = ap (λ x. (ends t x (outer_of (k.actions t)) k).queued) is;
        next = refl;
        owed = λ g s h. h;
      }
  back_from Finishes u is = absurd (no_back is)
  back_from (Dies x) u is = absurd (no_back is)
  back_from Breaks u is = absurd (no_back is)

-- The two tasks of a service

module _ (i : Sections) (w : IsWellFormed i) where
  -- the entry that a task calls is there, and its parameters are
  record HasEntry (o : ℕ) (s : TaskState) : Type 0 where
    n : ℕ
    c : Subprogram
    entry : entry_of (slice_get i.objects o) ≡ Some n
    body : called i n ≡ Some c
    whole : entry_called i o ≡ Some c
    there : c.parameters ≤ length s.frame.stack

  split_entry : (o : Option ℕ) (c : Subprogram) → called_if i o ≡ Some c → (n : ℕ) × (o ≡ Some n) × (called i n ≡ Some c)
  split_entry None c is = absurd (none-some c is)
  split_entry (Some n) c is = (n, refl, is)

  has_entry : (own : Bool) (o : ℕ) (s : TaskState) → IsCalling i own o s → HasEntry o s
  has_entry own o s h =
      let g = h.going in
      let st : Stands i s.frame g.s (instr g.x.depth (EntryCall o)) = subst (λ v. Stands i s.frame g.s (instr g.x.depth v)) h.at_call g.stands in
      let e = some_and-true (entry_called i o) (λ c. true) (names i w s.frame.place g.x.depth (EntryCall o) g.s st.instruction st.within) in
      let x = split_entry (entry_of (slice_get i.objects o)) e.0 e.1 in
      let low = (depths i w s.frame.place g.x.depth (EntryCall o) g.s st.instruction st.within).taken in
      record { n = x.0; c = e.0; entry = x.1; body = x.2; whole = e.1; there = enough _ _ _ _ (ap parameters_of e.1) low g.depth }
    where
      enough : (p q d l : ℕ) → p ≡ q → p ≤ d → l ≡ d → q ≤ l
      enough p q d l a b c = omega arith

  serving_is : (o caller : ℕ) (u t : TaskState) (h : HasEntry o u) → serving i o caller u t ≡ record { frame = new_frame i h.n h.c (arguments h.c.parameters u.frame.stack) (Serving o caller t.raising); callers = t.frame ∷ t.callers; raising = None }
  serving_is o caller u t h = ap (λ x. serving_with i o caller u t x (entry_called i o)) h.entry ∙ ap (serving_with i o caller u t (Some h.n)) h.whole

  pub serving_sound : (own at : Bool) (o caller : ℕ) (u t : TaskState) → IsCalling i at o u → AreBelow i own t.frame.role t.frame.subprogram t.callers → IsGoingAbove i own t.raising t.frame t.callers → frames_counted own t.callers + 1 ≤ FRAMES → IsSound i own (serving i o caller u t)
  serving_sound own at o caller u t calling below going few =
      let h = has_entry at o u calling in
      let made : IsSound i own (record { frame = new_frame i h.n h.c (arguments h.c.parameters u.frame.stack) (Serving o caller t.raising); callers = t.frame ∷ t.callers; raising = None }) =
      record {
        few = one_more own t.frame t.callers few;
        running = begins i w h.n h.c (arguments h.c.parameters u.frame.stack) (Serving o caller t.raising) h.body (length-reverse (take h.c.parameters u.frame.stack) ∙ length-take-le h.c.parameters u.frame.stack h.there);
        below = (h.entry, going, below);
        may = may_above own t.frame t.callers;
      } in
      subst (IsSound i own) (sym (serving_is o caller u t h)) made

  pub serving_actions : (at : Bool) (o caller : ℕ) (u t : TaskState) → IsCalling i at o u → actions_of i (frames_of (serving i o caller u t)) ≡ Serves o caller ∷ actions_of i (frames_of t)
  serving_actions at o caller u t calling = ap (λ s. actions_of i (frames_of s)) (serving_is o caller u t (has_entry at o u calling))

  pub serving_may : (at : Bool) (o caller : ℕ) (u t : TaskState) → IsCalling i at o u → MayWrite i (frames_of t) → MayWrite i (frames_of (serving i o caller u t))
  serving_may at o caller u t calling may =
      let h = has_entry at o u calling in
      let kind : kind_of (called i h.n) ≡ EntryBody o = ap kind_of h.body ∙ entry_kind i w o h.n h.c h.entry h.body in
      let made : MayWrite i (new_frame i h.n h.c (arguments h.c.parameters u.frame.stack) (Serving o caller t.raising) ∷ frames_of t) =
      ((λ p own writes. inl (same_Some _ _ (sym (ap kinds.object_of kind) ∙ own))), may) in
      subst (λ s. MayWrite i (frames_of s)) (sym (serving_is o caller u t h)) made

  pub taken_awaits : (own : Bool) (o : ℕ) (s : TaskState) → IsCalling i own o s → IsAwaiting i own o (taken i o s)
  taken_awaits own o s h =
      let e = has_entry own o s h in
      let g = h.going in
      record {
        few = h.few;
        n = e.n;
        entry = e.entry;
        waiting = record {
          s = g.s;
          x = g.x;
          stands = record { subprogram = g.stands.subprogram; within = g.stands.within; instruction = g.stands.instruction; locals = g.stands.locals };
          calls = ap (callee i) h.at_call ∙ e.entry;
          depth = left _ _ _ _ _ _ (length-drop (parameters_of (entry_called i o)) s.frame.stack) (ap parameters_of e.whole) (ap parameters_of e.body) e.there g.depth;
        };
        quiet = h.quiet;
        below = h.below;
        may = h.may;
      }
    where
      left : (a l p q c d : ℕ) → a ≡ l - p → p ≡ c → q ≡ c → c ≤ l → l ≡ d → a + q ≡ d
      left a l p q c d e f g h j = omega arith

  pub receives_sound : (own : Bool) (o : ℕ) (g : Given) (s : TaskState) → IsAwaiting i own o s → FitsEntry i o g → IsSound i own (receives g s)
  receives_sound own o (Results words) s h fits =
      let same : results_of (called i h.n) ≡ results_of (entry_called i o) = sym (ap (λ v. results_of (called_if i v)) h.entry) in
      record {
        few = h.few;
        running = subst (λ v. IsGoingOrPlaced i v (resumed s.frame words)) (sym h.quiet) (resumed_going i w h.n s.frame words h.waiting (fits ∙ sym same));
        below = h.below;
        may = h.may;
      }
  receives_sound own o (Raised x) s h fits = record { few = h.few; running = waiting_placed i w h.n s.frame h.waiting; below = h.below; may = h.may }

  pub receives_actions : (g : Given) (s : TaskState) → actions_of i (frames_of (receives g s)) ≡ actions_of i (frames_of s)
  receives_actions (Results words) s = refl
  receives_actions (Raised x) s = refl

  pub receives_may : (g : Given) (s : TaskState) → MayWrite i (frames_of s) → MayWrite i (frames_of (receives g s))
  receives_may (Results words) s may = may
  receives_may (Raised x) s may = may
