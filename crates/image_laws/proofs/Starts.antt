-- What tasks hold at the start, and handlers at each of theirs, against their open actions.
use Rattle.std.proofs.Common.{◌≡◌, ◌≢◌, inl, inr, ℕ, ◌+◌, ◌-◌, ◌≤◌, List, [], ◌∷◌, length, Bool, true, false, cond, Option, Some, None, refl, sym, ap, ◌∙◌, subst, arith, ⊎_elim}
use Rattle.std.proofs.lemmas.Bool.{le-ltb, lt-ltb}
use Rattle.std.proofs.lemmas.Option.{none-some, same_Some}
use Rattle.std.specs.Prelude.{slice_get}
use Rattle.kernel.specs.State.{Action, Writes, put}
use Rattle.kernel.specs.Invariant.{CanWrite, HasAction, ServesCall}
use Rattle.kernel.specs.PutLaws.{by_put, of_put, put_other, put_same, same_or_not}
use Rattle.image.specs.Attachments.{handling_object}
use Rattle.image.specs.Code.{body_frame, body_of, initial_state}
use Rattle.image.specs.Frames.{Opened, TaskState, kind_of}
use Rattle.image.specs.Operations.{called}
use Rattle.image.specs.RuleLaws.{slice_get_inside}
use Rattle.image.specs.Rules.{IsWellFormed}
use Rattle.image.specs.Sections.{Sections}
use Rattle.image.specs.Sections as sections
use Rattle.image.specs.Starting.{handler_state, handler_state_of, lowest_frame, role_within, task_state}
use Rattle.image.specs.declared.subprograms.Kind.TheVariants.{TaskBody, ProtectedProcedure}
use Rattle.image.specs.declared.subprograms.Subprogram.{Subprogram}
use Rattle.image.specs.declared.tasks.Task.{Task}
use Rattle.image_laws.specs.Linked.{IsGone, IsLinked, MayWrite, actions_of, frames_of, opened_by}
use Rattle.image_laws.specs.Shape.{IsImageTask, is_own}
use Rattle.image_laws.proofs.HandlerProcedures.{HandlerProcedure, handler_procedure, handling_at, handling_is}
use Rattle.image_laws.proofs.Shapes.{body_there, start_sound}

-- behind the last subprogram there is none
past_last : {X : Type 0} (xs : List X) → slice_get xs (length xs) ≡ None
past_last [] = refl
past_last (x ∷ xs) = past_last xs

module _ (i : Sections) (w : IsWellFormed i) where
  pub body_actions : (n : ℕ) (o : Option Subprogram) → actions_of i (body_frame i n o ∷ []) ≡ []
  body_actions n None = refl
  body_actions n (Some s) = refl

  body_may : (n : ℕ) (s : Subprogram) (o : Option Subprogram) → called i n ≡ Some s → s.kind ≡ TaskBody → MayWrite i (body_frame i n o ∷ [])
  body_may n s None is body = ((λ p own writes. absurd (none-some p (sym (ap sections.object_of (ap kind_of is ∙ body)) ∙ own))), tt)
  body_may n s (Some q) is body = ((λ p own writes. absurd (none-some p (sym (ap sections.object_of (ap kind_of is ∙ body)) ∙ own))), tt)

  body_may_at : (t : ℕ) (x : Task) → slice_get i.tasks t ≡ Some x → MayWrite i (frames_of (task_state i t))
  body_may_at t x is =
      let b = body_there i w t x is in
      let n = body_of (slice_get i.tasks t) in
      let e : n ≡ x.subprogram = ap body_of is in
      body_may n b.0 (called i n) (ap (called i) e ∙ b.1) b.2

  lowest_may : MayWrite i (lowest_frame i ∷ [])
  lowest_may = ((λ p own writes. absurd (none-some p (sym (ap (λ c. sections.object_of (kind_of c)) (past_last i.subprograms)) ∙ own))), tt)

  -- the frames of a handler that begins
  abbrev begun : ℕ → Subprogram → ℕ → TaskState
  begun n s o = record { frame = record (body_frame i n (Some s)) { role = Opened o }; callers = lowest_frame i ∷ []; raising = None }

  handler_is : (n : ℕ) (h : HandlerProcedure i n) → handler_state_of i (Some n) ≡ begun n h.s h.object
  handler_is n h =
      let own : sections.object_of h.s.kind ≡ Some h.object = ap sections.object_of h.kind in
      ap (λ c. record { frame = record (body_frame i n c) { role = role_within (sections.object_of (kind_of c)) }; callers = lowest_frame i ∷ []; raising = None }) h.there
      ∙ ap (λ r. record { frame = record (body_frame i n (Some h.s)) { role = role_within r }; callers = lowest_frame i ∷ []; raising = None }) own

  kind_at_start : (n : ℕ) (h : HandlerProcedure i n) → kind_of (called i n) ≡ ProtectedProcedure h.object
  kind_at_start n h = ap kind_of h.there ∙ h.kind

  handler_actions : (n : ℕ) (h : HandlerProcedure i n) → actions_of i (frames_of (handler_state_of i (Some n))) ≡ Writes h.object ∷ []
  handler_actions n h =
      ap (λ s. actions_of i (frames_of s)) (handler_is n h)
      ∙ ap (λ c. opened_by c h.object ∷ []) (kind_at_start n h)

  handler_may : (n : ℕ) (h : HandlerProcedure i n) → MayWrite i (frames_of (handler_state_of i (Some n)))
  handler_may n h =
      let kind = kind_at_start n h in
      let head : (o : ℕ) → sections.object_of (kind_of (called i n)) ≡ Some o → HasAction (CanWrite o) (opened_by (kind_of (called i n)) h.object ∷ []) =
      (λ o own.
      let same : h.object ≡ o = same_Some _ _ (sym (ap sections.object_of kind) ∙ own) in
      subst (λ c. HasAction (CanWrite o) (opened_by c h.object ∷ [])) (sym kind) (inl same)) in
      subst (λ s. MayWrite i (frames_of s)) (sym (handler_is n h)) ((λ o own writes. head o own), lowest_may)

  abbrev at_start : ℕ → Bool → TaskState
  at_start t own = cond own (task_state i t) (handler_state i (t - length i.tasks))

  pub start_may : (t : ℕ) → IsImageTask i t → MayWrite i (frames_of (initial_state i t))
  start_may t (inl lt) =
      let x = slice_get_inside i.tasks t lt in
      subst (λ b. MayWrite i (frames_of (at_start t b))) (sym (lt-ltb t (length i.tasks) lt)) (body_may_at t x.0 x.1)
  start_may t (inr h) =
      let le : length i.tasks ≤ t = let e = h.2 in omega (arith, e) in
      let channel : t - length i.tasks ≡ h.0 = let e = h.2 in omega (arith, e) in
      subst (λ b. MayWrite i (frames_of (at_start t b))) (sym (le-ltb t (length i.tasks) le))
      (subst (λ c. MayWrite i (frames_of (handler_state i c))) (sym channel)
      (subst (λ o. MayWrite i (frames_of (handler_state_of i o))) (sym h.3) (handler_may h.1 (handler_procedure i w h.0 h.1 h.3))))

  -- A handler begins

  actor_own : (channel : ℕ) → is_own i (length i.tasks + channel) ≡ false
  actor_own channel = le-ltb (length i.tasks + channel) (length i.tasks) (omega arith)

  -- where the interrupts of a channel have an object, it has a handler
  pub actor_image : (channel o : ℕ) → handling_object i channel ≡ Some o → IsImageTask i (length i.tasks + channel)
  actor_image channel o is = let n = handling_at i channel o is in inr (channel, n.0, refl, n.1)

  start_actions : (channel o : ℕ) → handling_object i channel ≡ Some o → actions_of i (frames_of (initial_state i (length i.tasks + channel))) ≡ Writes o ∷ []
  start_actions channel o is =
      let n = handling_at i channel o is in
      let t = length i.tasks + channel in
      let back : t - length i.tasks ≡ channel = omega arith in
      let h = handler_procedure i w channel n.0 n.1 in
      ap (λ b. actions_of i (frames_of (at_start t b))) (actor_own channel)
      ∙ (ap (λ c. actions_of i (frames_of (handler_state i c))) back
      ∙ (ap (λ a. actions_of i (frames_of (handler_state_of i a))) n.1
      ∙ (handler_actions n.0 h ∙ ap (λ p. Writes p ∷ []) (handling_is i w channel n.0 o n.1 is))))

  -- its start keeps frames and open actions linked
  pub begins_linked : (actions : ℕ → List Action) (queued : ℕ → Option ℕ) (tasks : ℕ → TaskState) (channel o : ℕ) → handling_object i channel ≡ Some o → actions (length i.tasks + channel) ≡ [] → IsLinked i actions queued tasks → IsLinked i (put (length i.tasks + channel) (Writes o ∷ []) actions) queued tasks
  begins_linked actions queued tasks channel o is idle linked =
      let a = length i.tasks + channel in
      let new = Writes o ∷ [] in
      let own = λ (u : ℕ) (e : u ≡ a). put_same a u new actions e in
      let other = λ (u : ℕ) (ne : u ≢ a). put_other a u new actions ne in
      let before : (v p u : ℕ) → HasAction (ServesCall p u) (put a new actions v) → HasAction (ServesCall p u) (actions v) =
      (λ v p u h. of_put (HasAction (ServesCall p u)) (HasAction (ServesCall p u) (actions v)) a v new actions h (λ e x. ⊎_elim (λ y. absurd y) (λ y. absurd y) x) (λ ne x. x)) in
      let later : (v p u : ℕ) → HasAction (ServesCall p u) (actions v) → HasAction (ServesCall p u) (put a new actions v) =
      (λ v p u h.
      by_put (HasAction (ServesCall p u)) a v new actions
      (λ e. let none : HasAction (ServesCall p u) [] = subst (HasAction (ServesCall p u)) (ap actions e ∙ idle) h in absurd none)
      (λ ne. h)) in
      record {
        by_frames = λ u there.
            ⊎_elim
            (λ e.
            own u e
            ∙ (sym (start_actions channel o is)
            ∙ ap (λ s. actions_of i (frames_of s)) (sym (linked.gone a (actor_own channel, idle)) ∙ ap tasks (sym e))))
            (λ ne. other u ne ∙ linked.by_frames u (λ g. there (g.0, other u ne ∙ g.1)))
            (same_or_not u a);
        gone = λ u g.
            ⊎_elim
            (λ e. let no : Writes o ∷ [] ≡ [] = sym (own u e) ∙ g.1 in absurd (cc))
            (λ ne. linked.gone u (g.0, sym (other u ne) ∙ g.1))
            (same_or_not u a);
        may = linked.may;
        sound = λ u here free_of. linked.sound u here (λ h. free_of (h.0, h.1, later h.0 h.1 u h.2));
        calling = linked.calling;
        awaiting = λ v p u h. linked.awaiting v p u (before v p u h);
      }

  pub start_linked : IsLinked i (λ t. []) (λ o. None) (initial_state i)
  start_linked =
      record {
        by_frames = λ t there. by t (is_own i t) refl there;
        gone = λ t g. refl;
        may = start_may;
        sound = λ t here free_of. start_sound i w t here;
        calling = λ o t h. absurd (none-some t h);
        awaiting = λ v o t h. absurd h;
      }
    where
      by : (t : ℕ) (b : Bool) → is_own i t ≡ b → (IsGone i (λ t. []) t → ⊥) → [] ≡ actions_of i (frames_of (initial_state i t))
      by t true e there =
          let n = body_of (slice_get i.tasks t) in
          sym (body_actions n (called i n)) ∙ ap (λ b. actions_of i (frames_of (at_start t b))) (sym e)
      by t false e there = absurd (there (e, refl))
