-- The step of a task keeps the shape of its frames.
use Rattle.std.proofs.Common.{◌≡◌, inl, inr, ℕ, suc, ◌+◌, ◌-◌, ◌≤◌, ℤ, pos, negsuc, List, [], ◌∷◌, ◌++◌, length, take, drop, reverse, replicate, Bool, true, false, cond, ◌||◌, Option, Some, None, Ok, Err, refl, sym, ap, ◌∙◌, subst, arith, length-append, length-drop, length-set}
use Rattle.std.proofs.lemmas.Bool.{le-ltb, leb-true, lt-ltb, ltb-true, true≢false}
use Rattle.std.proofs.lemmas.List.{length-replicate, length-take-le, length-reverse}
use Rattle.std.proofs.lemmas.Option.{none-some, same_Some}
use Rattle.std.specs.Prelude.{int_le, int_lt, nat_le, nat_lt, slice_get, slice_set}
use Rattle.std.specs.Int.{w64, int_bit_and, int_bit_or, int_bit_xor}
use Rattle.base.specs.Arithmetic.{Checked, absolute_of, difference_of, modulus_of, negation_of, product_of, quotient_of, remainder_of, sum_of}
use Rattle.image.specs.Scalars.{are_different, are_equal, bitwise, is_greater, is_greater_or_equal, is_zero_word, relation}
use Rattle.base.specs.Exceptions.{number_of}
use Rattle.base.specs.declared.limits.TheConstants.{FRAMES}
use Rattle.base.specs.declared.schedule.ScheduleLine.{ScheduleLine}
use Rattle.kernel.specs.State.{Kernel, is_task}
use Rattle.kernel.specs.Effects.{Effect, Quiet, Delays, Refusal, is_above_ceiling, is_full, is_inside_any}
use Rattle.handlers.specs.Innermost.{handler_of}
use Rattle.image.specs.Sections.{Sections, first_place, holder, object_of}
use Rattle.image.specs.Attachments.{attached_to}
use Rattle.image.specs.Starting.{handler_state, handler_state_of, lowest_frame, role_within, task_state}
use Rattle.image.specs.Operations.{called, called_if, entry_of, given_by, goes_on, jump_target, parameters_of, results_of, taken_by}
use Rattle.image.specs.Code.{body_frame, body_of, initial_state}
use Rattle.image.specs.Rules.{IsWellFormed, has_body, has_depth}
use Rattle.image.specs.Frames.{Words, Role, Inner, Opened, Serving, Frame, arguments, frames_counted, kind_of, locals_with, new_frame, region_words, word_put, words_at, words_put}
use Rattle.image.specs.Steps as steps
use Rattle.image.specs.Steps.{Stepped, caught, removed, resumed, unwind}
use Rattle.image_laws.specs.Laws.{StepsSound, FramesHaveRoom}
use Rattle.image_laws.specs.Shape.{Stands, IsGoing, IsWaiting, IsPlaced, IsGoingOrPlaced, IsGoingAbove, IsWaitingAbove, AreBelow, MayRun, IsSound, IsSoundAfter, IsImageTask, is_own, callee}
use Rattle.image.specs.declared.instruction.Instr.{Instr}
use Rattle.image.specs.declared.instruction.Operation.{Operation}
use Rattle.image.specs.declared.instruction.Operation.TheVariants as op
use Rattle.image.specs.declared.instruction.Region.{Region}
use Rattle.image.specs.declared.instruction.Region.TheVariants as regions
use Rattle.image.specs.declared.subprograms.Kind.{Kind}
use Rattle.image.specs.declared.subprograms.Kind.TheVariants as kinds
use Rattle.image.specs.declared.subprograms.Kind.TheVariants.{TaskBody}
use Rattle.image.specs.declared.subprograms.Subprogram.{Subprogram}
use Rattle.image.specs.declared.tasks.Task.{Task}
use Rattle.image.specs.RuleLaws.{list_all-at, slice_get_inside}
use Rattle.image_laws.proofs.HandlerProcedures.{handler_procedure}
use Rattle.image_laws.proofs.Widest.{within_widest}
use Rattle.image_laws.proofs.WellFormed.{body_kind, bodies, some_subprogram, begin_depth, begin_held, depths, frame_words, handler_held, has_depth-is, holder_next, jump_held, not_last}

abbrev pub instr : ℕ → Operation → Instr
instr d o = record { depth = d; operation = o }

-- what a step leaves is sound
pub record StepsSoundly (i : Sections) (own : Bool) (r : Stepped) : Type 0 where
  pub sound : IsSoundAfter i own r.effect r.solo.task

module _ (i : Sections) (w : IsWellFormed i) where
  pub going_placed : (f : Frame) → IsGoing i f → IsPlaced i f
  going_placed f g =
      let d = depths i w f.place g.x.depth g.x.operation g.s g.stands.instruction g.stands.within in
      let b = d.before in
      let e = g.depth in
      record { s = g.s; x = g.x; stands = g.stands; depth = subst (λ v. v ≤ g.s.stack) (sym e) b }

  few_more : (a b c : ℕ) → a + b ≤ c → a ≤ c
  few_more a b c le = omega arith

  pub waiting_placed : (n : ℕ) (f : Frame) → IsWaiting i n f → IsPlaced i f
  waiting_placed n f g =
      let d = depths i w f.place g.x.depth g.x.operation g.s g.stands.instruction g.stands.within in
      let b = d.before in
      record { s = g.s; x = g.x; stands = g.stands; depth = few_more (length f.stack) _ g.s.stack (subst (λ v. v ≤ g.s.stack) (sym g.depth) b) }

  -- Places where a frame goes on

  module _ (f : Frame) (s : Subprogram) (d : ℕ) (o : Operation) (st : Stands i f s (instr d o)) where
    at_depth : (p n : ℕ) (l stack : List ℤ) → holder i.subprograms p ≡ Some s → has_depth i p n ≡ true → length l ≡ length f.locals → length stack ≡ n → IsGoing i (record f { place = p; locals = l; stack = stack })
    at_depth p n l stack held deep same e =
        let h = has_depth-is i w p n s held deep in
        record { s = s; x = h.0; stands = record { subprogram = st.subprogram; within = held; instruction = h.1; locals = same ∙ st.locals }; depth = e ∙ sym h.2 }

    pub goes_next : (l stack : List ℤ) → goes_on o ≡ true → length l ≡ length f.locals → length stack ≡ d - taken_by i s.results o + given_by i o → IsGoing i (record f { place = f.place + 1; locals = l; stack = stack })
    goes_next l stack on same e =
        let x = depths i w f.place d o s st.instruction st.within in
        at_depth (f.place + 1) _ l stack (holder_next i.subprograms f.place s st.within (not_last i w f.place (instr d o) s st.instruction st.within on)) (x.next on) same e

    pub goes_to : (a : ℕ) (stack : List ℤ) → jump_target o ≡ Some a → length stack ≡ d - taken_by i s.results o + given_by i o → IsGoing i (record f { place = a; stack = stack })
    goes_to a stack to e =
        let x = depths i w f.place d o s st.instruction st.within in
        at_depth a _ f.locals stack (jump_held i w f.place d o s a st.instruction st.within to) (x.jumped a to) refl e

  pub handled : (f : Frame) (x a : ℕ) (v : ℤ) → IsPlaced i f → handler_of i.rows f.place x ≡ Some a → IsGoing i (record f { place = a; stack = v ∷ [] })
  handled f x a v p is =
      let h = handler_held i w f.place x a p.s is p.stands.within in
      at_depth f p.s p.x.depth p.x.operation p.stands a 1 f.locals (v ∷ []) h.0 h.1 refl refl

  -- a frame begins at the first instruction of its subprogram
  pub begins : (n : ℕ) (s : Subprogram) (l : List ℤ) (role : Role) → called i n ≡ Some s → length l ≡ s.parameters → IsGoing i (new_frame i n s l role)
  begins n s l role is e =
      let h = has_depth-is i w (first_place i n) 0 s (begin_held i w n s is) (begin_depth i w n s is) in
      let words = frame_words i w n s is in
      let locals : length (l ++ replicate (s.locals - s.parameters) (pos 0)) ≡ s.locals =
      length-append l _ ∙ (ap (λ v. length l + v) (length-replicate (s.locals - s.parameters) (pos 0)) ∙ filled (length l) s.parameters s.locals e words.0) in
      record { s = s; x = h.0; stands = record { subprogram = is; within = begin_held i w n s is; instruction = h.1; locals = locals }; depth = sym h.2 }
    where
      filled : (a p n : ℕ) → a ≡ p → p ≤ n → a + (n - p) ≡ n
      filled a p n e le = omega arith

  -- the frame that never runs is among those of a handler

  pub going_above : (own : Bool) (raising : Option ℕ) (f : Frame) (fs : List Frame) → IsGoingOrPlaced i raising f → IsGoingAbove i own raising f fs
  going_above true raising f fs g = g
  going_above false raising f [] g = tt
  going_above false raising f (c ∷ cs) g = g

  pub going_running : (own : Bool) (raising : Option ℕ) (f : Frame) (fs : List Frame) → MayRun own fs → IsGoingAbove i own raising f fs → IsGoingOrPlaced i raising f
  going_running true raising f fs may g = g
  going_running false raising f [] may g = absurd may
  going_running false raising f (c ∷ cs) may g = g

  pub waiting_above : (own : Bool) (n : ℕ) (f : Frame) (fs : List Frame) → MayRun own fs → IsWaiting i n f → IsWaitingAbove i own n f fs
  waiting_above true n f fs may g = g
  waiting_above false n f [] may g = absurd may
  waiting_above false n f (c ∷ cs) may g = g

  placed_above : (own : Bool) (n x : ℕ) (f : Frame) (fs : List Frame) → IsWaitingAbove i own n f fs → IsGoingAbove i own (Some x) f fs
  placed_above true n x f fs g = waiting_placed n f g
  placed_above false n x f [] g = tt
  placed_above false n x f (c ∷ cs) g = waiting_placed n f g

  -- Calls

  pub callee_facts : (o : Operation) (n r : ℕ) → callee i o ≡ Some n → (goes_on o ≡ true) × (taken_by i r o ≡ parameters_of (called i n)) × (given_by i o ≡ results_of (called i n))
  callee_facts (op.Call a) n r is = let e = same_Some a n is in (refl, ap (λ v. parameters_of (called i v)) e, ap (λ v. results_of (called i v)) e)
  callee_facts (op.ProtectedCall a) n r is = let e = same_Some a n is in (refl, ap (λ v. parameters_of (called i v)) e, ap (λ v. results_of (called i v)) e)
  callee_facts (op.EntryCall o) n r is = (refl, ap (λ v. parameters_of (called_if i v)) is, ap (λ v. results_of (called_if i v)) is)
  callee_facts _ n r is = absurd (none-some n is)

  -- a frame that waits goes on with the results
  pub resumed_going : (n : ℕ) (c : Frame) (results : List ℤ) → IsWaiting i n c → length results ≡ results_of (called i n) → IsGoing i (resumed c results)
  resumed_going n c results g e =
      let facts = callee_facts g.x.operation n g.s.results g.calls in
      goes_next c g.s g.x.depth g.x.operation g.stands c.locals (results ++ c.stack) facts.0 refl (filled _ _ _ _ _ _ _ _ (length-append results c.stack) e facts.1 facts.2 g.depth)
    where
      filled : (l r s p d t v g : ℕ) → l ≡ r + s → r ≡ v → t ≡ p → g ≡ v → s + p ≡ d → l ≡ d - t + g
      filled l r s p d t v g a b c e f = omega arith

  resumed_above : (own : Bool) (n : ℕ) (c : Frame) (fs : List Frame) (results : List ℤ) → IsWaitingAbove i own n c fs → length results ≡ results_of (called i n) → IsGoingAbove i own None (resumed c results) fs
  resumed_above true n c fs results g e = resumed_going n c results g e
  resumed_above false n c [] results g e = tt
  resumed_above false n c (d ∷ ds) results g e = resumed_going n c results g e

pub may_above : (own : Bool) (f : Frame) (fs : List Frame) → MayRun own (f ∷ fs)
may_above true f fs = tt
may_above false f fs = tt

pub fewer : (own : Bool) (f : Frame) (fs : List Frame) → frames_counted own (f ∷ fs) ≤ FRAMES → frames_counted own fs ≤ FRAMES
fewer true f fs le = omega arith
fewer false f fs le = omega arith

pub one_more : (own : Bool) (f : Frame) (fs : List Frame) → frames_counted own fs + 1 ≤ FRAMES → frames_counted own (f ∷ fs) ≤ FRAMES
one_more true f fs le = omega arith
one_more false f fs le = omega arith

-- Raising

module _ (i : Sections) (w : IsWellFormed i) (own : Bool) where
  caught_sound : (m : Words) (x : ℕ) (f : Frame) (fs : List Frame) (other : Stepped) → frames_counted own fs ≤ FRAMES → IsPlaced i f → AreBelow i own f.role f.subprogram fs → MayRun own fs → StepsSoundly i own other → (o : Option ℕ) → handler_of i.rows f.place x ≡ o → StepsSoundly i own (caught i m x o f fs other)
  caught_sound m x f fs other few p below may left None is = left
  caught_sound m x f fs other few p below may left (Some a) is =
      record { sound = record { few = few; running = going_above i w own None (record f { place = a; stack = pos x ∷ [] }) fs (handled i w f x a (pos x) p is); below = below; may = λ e. may } }

  removed_sound : (m : Words) (x n : ℕ) (role : Role) (c : Frame) (fs : List Frame) (at_once : Stepped) → frames_counted own fs ≤ FRAMES → AreBelow i own role n (c ∷ fs) → (IsPlaced i c → AreBelow i own c.role c.subprogram fs → MayRun own fs → StepsSoundly i own at_once) → StepsSoundly i own (removed i m x role c fs at_once)
  removed_sound m x n Inner c fs at_once few below left = left (waiting_placed i w n c below.0) below.1 below.2
  removed_sound m x n (Opened o) c fs at_once few below left =
      record { sound = record { few = few; running = placed_above i w own n x c fs below.0; below = below.1; may = λ e. absurd (true≢false e) } }
  removed_sound m x n (Serving o u pending) c fs at_once few below left =
      record { sound = record { few = few; running = below.1; below = below.2; may = λ e. absurd (true≢false e) } }

  pub unwind_sound : (m : Words) (x : ℕ) (fs : List Frame) (f : Frame) → frames_counted own fs ≤ FRAMES → IsPlaced i f → AreBelow i own f.role f.subprogram fs → MayRun own fs → StepsSoundly i own (unwind i m x f fs)
  unwind_sound m x [] f few p below may =
      let empty : IsPlaced i (record f { stack = [] }) =
      record { s = p.s; x = p.x; stands = record { subprogram = p.stands.subprogram; within = p.stands.within; instruction = p.stands.instruction; locals = p.stands.locals }; depth = omega arith } in
      caught_sound m x f [] _ few p below may
      (record { sound = record { few = few; running = going_above i w own (Some x) (record f { stack = [] }) [] empty; below = below; may = λ e. may } })
      (handler_of i.rows f.place x) refl
  unwind_sound m x (c ∷ fs) f few p below may =
      let less = fewer own c fs few in
      caught_sound m x f (c ∷ fs) _ few p below may
      (removed_sound m x f.subprogram f.role c fs (unwind i m x c fs) less below (λ q rest go. unwind_sound m x fs c less q rest go))
      (handler_of i.rows f.place x) refl

-- Instructions

module _ (i : Sections) (w : IsWellFormed i) where
  module _ (schedule : List ScheduleLine) (k : Kernel) (t : ℕ) (m : Words) (f : Frame) (fs : List Frame) (few : frames_counted (is_task k.partition t) fs ≤ FRAMES) (below : AreBelow i (is_task k.partition t) f.role f.subprogram fs) (may : MayRun (is_task k.partition t) fs) (s : Subprogram) (d : ℕ) (deep : length f.stack ≡ d) where
    abbrev own : Bool
    own = is_task k.partition t

    abbrev At : Operation → Type 0
    At o = Stands i f s (instr d o)

    going : (o : Operation) → At o → IsGoing i f
    going o st = record { s = s; x = instr d o; stands = st; depth = deep }

    taken_there : (o : Operation) → At o → taken_by i s.results o ≤ length f.stack
    taken_there o st = subst (λ v. taken_by i s.results o ≤ v) (sym deep) (depths i w f.place d o s st.instruction st.within).taken

    breaks_sound : (o : Operation) → At o → StepsSoundly i own (steps.breaks i schedule k t m f fs)
    breaks_sound o st = record { sound = record { few = few; running = going_above i w own None f fs (going o st); below = below; may = λ e. may } }

    raised_sound : (o : Operation) → At o → (x : ℕ) → StepsSoundly i own (unwind i m x f fs)
    raised_sound o st x = unwind_sound i w own m x fs f few (going_placed i w f (going o st)) below may

    next_sound : (o : Operation) → At o → (stack : List ℤ) → goes_on o ≡ true → length stack ≡ d - taken_by i s.results o + given_by i o → StepsSoundly i own (steps.next i schedule k t m f fs stack)
    next_sound o st stack on e = record { sound = record { few = few; running = going_above i w own None _ fs (goes_next i w f s d o st f.locals stack on refl e); below = below; may = λ z. may } }

    next_after_sound : (o : Operation) → At o → (e : Effect) (stack : List ℤ) → goes_on o ≡ true → length stack ≡ d - taken_by i s.results o + given_by i o → StepsSoundly i own (steps.next_after i schedule k t m f fs e stack)
    next_after_sound o st e stack on same = record { sound = let x = (next_sound o st stack on same).sound in record { few = x.few; running = x.running; below = x.below; may = λ z. may } }

    to_sound : (o : Operation) → At o → (a : ℕ) (stack : List ℤ) → jump_target o ≡ Some a → length stack ≡ d - taken_by i s.results o + given_by i o → StepsSoundly i own (steps.to i schedule k t m f fs a stack)
    to_sound o st a stack to e = record { sound = record { few = few; running = going_above i w own None _ fs (goes_to i w f s d o st a stack to e); below = below; may = λ z. may } }

    gives_sound : (o : Operation) → At o → (v : Checked) (stack : List ℤ) → goes_on o ≡ true → suc (length stack) ≡ d - taken_by i s.results o + given_by i o → StepsSoundly i own (steps.gives i schedule k t m f fs v stack)
    gives_sound o st (Ok v) stack on e = next_sound o st (v ∷ stack) on e
    gives_sound o st (Err x) stack on e = raised_sound o st (number_of x)

    cond_sound : (b : Bool) (x y : Stepped) → (b ≡ true → StepsSoundly i own x) → (b ≡ false → StepsSoundly i own y) → StepsSoundly i own (cond b x y)
    cond_sound true x y f g = f refl
    cond_sound false x y f g = g refl

    one_sound : (stack : List ℤ) (go : ℤ → List ℤ → Stepped) → 1 ≤ length stack → ((x : ℤ) (rest : List ℤ) → length stack ≡ suc (length rest) → StepsSoundly i own (go x rest)) → StepsSoundly i own (steps.with_one i schedule k t m f fs stack go)
    one_sound [] go le left = absurd (omega arith)
    one_sound (x ∷ rest) go le left = left x rest refl

    two_sound : (stack : List ℤ) (go : ℤ → ℤ → List ℤ → Stepped) → 2 ≤ length stack → ((x y : ℤ) (rest : List ℤ) → length stack ≡ suc (suc (length rest)) → StepsSoundly i own (go x y rest)) → StepsSoundly i own (steps.with_two i schedule k t m f fs stack go)
    two_sound [] go le left = absurd (omega arith)
    two_sound (y ∷ []) go le left = absurd (omega arith)
    two_sound (y ∷ x ∷ rest) go le left = left x y rest refl

    three_sound : (stack : List ℤ) (go : ℤ → ℤ → ℤ → List ℤ → Stepped) → 3 ≤ length stack → ((x y z : ℤ) (rest : List ℤ) → length stack ≡ suc (suc (suc (length rest))) → StepsSoundly i own (go x y z rest)) → StepsSoundly i own (steps.with_three i schedule k t m f fs stack go)
    three_sound [] go le left = absurd (omega arith)
    three_sound (z ∷ []) go le left = absurd (omega arith)
    three_sound (z ∷ y ∷ []) go le left = absurd (omega arith)
    three_sound (z ∷ y ∷ x ∷ rest) go le left = left x y z rest refl

    unary_sound : (o : Operation) → At o → (v : ℤ → Checked) → taken_by i s.results o ≡ 1 → given_by i o ≡ 1 → goes_on o ≡ true → StepsSoundly i own (steps.unary i schedule k t m f fs v)
    unary_sound o st v e1 e2 on =
        one_sound f.stack _ (subst (λ v. v ≤ length f.stack) e1 (taken_there o st)) (λ x rest e. gives_sound o st (v x) rest on (fits (length f.stack) (length rest) d _ _ e deep e1 e2))
      where
        fits : (l r d a b : ℕ) → l ≡ suc r → l ≡ d → a ≡ 1 → b ≡ 1 → suc r ≡ d - a + b
        fits l r d a b e f g h = omega arith

    binary_sound : (o : Operation) → At o → (v : ℤ → ℤ → Checked) → taken_by i s.results o ≡ 2 → given_by i o ≡ 1 → goes_on o ≡ true → StepsSoundly i own (steps.binary i schedule k t m f fs v)
    binary_sound o st v e1 e2 on =
        two_sound f.stack _ (subst (λ v. v ≤ length f.stack) e1 (taken_there o st)) (λ x y rest e. gives_sound o st (v x y) rest on (fits (length f.stack) (length rest) d _ _ e deep e1 e2))
      where
        fits : (l r d a b : ℕ) → l ≡ suc (suc r) → l ≡ d → a ≡ 2 → b ≡ 1 → suc r ≡ d - a + b
        fits l r d a b e f g h = omega arith

    loaded_sound : (o : Operation) → At o → (word : Option ℤ) (stack : List ℤ) → goes_on o ≡ true → suc (length stack) ≡ d - taken_by i s.results o + given_by i o → StepsSoundly i own (steps.loaded i schedule k t m f fs word stack)
    loaded_sound o st None stack on e = breaks_sound o st
    loaded_sound o st (Some v) stack on e = next_sound o st (v ∷ stack) on e

    words_at-length : (words : List ℤ) (index : ℤ) (n : ℕ) (l : List ℤ) → words_at words index n ≡ Some l → length l ≡ n
    words_at-length words (negsuc a) n l is = absurd (none-some l is)
    words_at-length words (pos a) n l is = by (nat_le (a + n) (length words)) refl is
      where
        room : (a n l m : ℕ) → a + n ≤ l → m ≡ l - a → n ≤ m
        room a n l m le e = omega arith

        by : (b : Bool) → nat_le (a + n) (length words) ≡ b → cond b (Some (take n (drop a words))) None ≡ Some l → length l ≡ n
        by true e is = ap length (sym (same_Some _ _ is)) ∙ length-take-le n (drop a words) (room a n (length words) _ (leb-true _ _ e) (length-drop a words))
        by false e is = absurd (none-some l is)

    word_put-length : (words : List ℤ) (index v : ℤ) (l : List ℤ) → word_put words index v ≡ Some l → length l ≡ length words
    word_put-length words (negsuc a) v l is = absurd (none-some l is)
    word_put-length words (pos a) v l is = by (nat_lt a (length words)) is
      where
        by : (b : Bool) → cond b (Some (slice_set words a v)) None ≡ Some l → length l ≡ length words
        by true is = ap length (sym (same_Some _ _ is)) ∙ length-set words a v
        by false is = absurd (none-some l is)

    words_put-length : (words : List ℤ) (index : ℤ) (new l : List ℤ) → words_put words index new ≡ Some l → length l ≡ length words
    words_put-length words (negsuc a) new l is = absurd (none-some l is)
    words_put-length words (pos a) new l is = by (nat_le (a + length new) (length words)) refl is
      where
        whole : (a n l t r x y : ℕ) → a + n ≤ l → t ≡ a → r ≡ l - (a + n) → x ≡ y + r → y ≡ t + n → x ≡ l
        whole a n l t r x y le e f g h = omega arith

        by : (b : Bool) → nat_le (a + length new) (length words) ≡ b → cond b (Some (take a words ++ new ++ drop (a + length new) words)) None ≡ Some l → length l ≡ length words
        by true e is =
            let le = leb-true _ _ e in
            ap length (sym (same_Some _ _ is))
            ∙ whole a (length new) (length words) (length (take a words)) _ _ _ le (length-take-le a words (few_more i w a (length new) (length words) le)) (length-drop (a + length new) words) (length-append (take a words ++ new) _) (length-append (take a words) new)
        by false e is = absurd (none-some l is)

    block_loaded_sound : (o : Operation) → At o → (n : ℕ) (words : Option (List ℤ)) (stack : List ℤ) → ((l : List ℤ) → words ≡ Some l → length l ≡ n) → goes_on o ≡ true → n + length stack ≡ d - taken_by i s.results o + given_by i o → StepsSoundly i own (steps.block_loaded i schedule k t m f fs words stack)
    block_loaded_sound o st n None stack same on e = breaks_sound o st
    block_loaded_sound o st n (Some l) stack same on e =
        next_sound o st (reverse l ++ stack) on (length-append (reverse l) stack ∙ (ap (λ v. v + length stack) (length-reverse l ∙ same l refl) ∙ e))

    locals_with-length : (r : Region) (l : List ℤ) → length l ≡ length (region_words i r m f) → length (locals_with r l f) ≡ length f.locals
    locals_with-length regions.Locals l e = e
    locals_with-length regions.Plain l e = refl
    locals_with-length regions.Object l e = refl

    stored_sound : (o : Operation) → At o → (r : Region) (words : Option (List ℤ)) (stack : List ℤ) → ((l : List ℤ) → words ≡ Some l → length l ≡ length (region_words i r m f)) → goes_on o ≡ true → length stack ≡ d - taken_by i s.results o + given_by i o → StepsSoundly i own (steps.stored i schedule k t m f fs r words stack)
    stored_sound o st r None stack same on e = breaks_sound o st
    stored_sound o st r (Some l) stack same on e = record { sound = record { few = few; running = going_above i w own None _ fs (goes_next i w f s d o st (locals_with r l f) stack on (locals_with-length r l (same l refl)) e); below = below; may = λ z. may } }

    stores_sound : (o : Operation) → At o → (r : Region) (index v : ℤ) (stack : List ℤ) → goes_on o ≡ true → length stack ≡ d - taken_by i s.results o + given_by i o → StepsSoundly i own (steps.stores i schedule k t m f fs r index v stack)
    stores_sound o st r index v stack on e = stored_sound o st r (word_put (region_words i r m f) index v) stack (word_put-length (region_words i r m f) index v) on e

    copied_sound : (o : Operation) → At o → (r : Region) (index : ℤ) (words : Option (List ℤ)) (stack : List ℤ) → goes_on o ≡ true → length stack ≡ d - taken_by i s.results o + given_by i o → StepsSoundly i own (steps.copied i schedule k t m f fs r index words stack)
    copied_sound o st r index None stack on e = breaks_sound o st
    copied_sound o st r index (Some l) stack on e = stored_sound o st r (words_put (region_words i r m f) index l) stack (words_put-length (region_words i r m f) index l) on e

    -- Calls and returns

    with_parameters_sound : (o : Operation) → At o → (c : Subprogram) (go : Stepped) → (c.parameters ≤ length f.stack → StepsSoundly i own go) → StepsSoundly i own (steps.with_parameters i schedule k t m f fs c go)
    with_parameters_sound o st c go left = cond_sound (nat_le c.parameters (length f.stack)) _ _ (λ e. left (leb-true _ _ e)) (λ e. breaks_sound o st)

    with_frame_left_sound : (o : Operation) → At o → (go : Stepped) → (frames_counted own fs + 1 ≤ FRAMES → StepsSoundly i own go) → StepsSoundly i own (steps.with_frame_left i schedule k t m f fs go)
    with_frame_left_sound o st go left =
        cond_sound (nat_lt (frames_counted own fs) FRAMES) _ _ (λ e. left (let lt = ltb-true (frames_counted own fs) FRAMES e in omega (arith, lt))) (λ e. raised_sound o st _)

    waits : (o : Operation) → At o → (n : ℕ) (c : Subprogram) → callee i o ≡ Some n → called i n ≡ Some c → c.parameters ≤ length f.stack → IsWaiting i n (record f { stack = drop c.parameters f.stack })
    waits o st n c calls is le =
        record {
          s = s;
          x = instr d o;
          stands = record { subprogram = st.subprogram; within = st.within; instruction = st.instruction; locals = st.locals };
          calls = calls;
          depth = left _ c.parameters (length f.stack) d _ (length-drop c.parameters f.stack) le deep (ap parameters_of is);
        }
      where
        left : (a p l d q : ℕ) → a ≡ l - p → p ≤ l → l ≡ d → q ≡ p → a + q ≡ d
        left a p l d q e le f g = omega arith

    enters_sound : (o : Operation) → At o → (e : Effect) (role : Role) (n : ℕ) (c : Subprogram) → callee i o ≡ Some n → called i n ≡ Some c → c.parameters ≤ length f.stack → frames_counted own fs + 1 ≤ FRAMES → (IsWaiting i n (record f { stack = drop c.parameters f.stack }) → AreBelow i own role n (record f { stack = drop c.parameters f.stack } ∷ fs)) → StepsSoundly i own (steps.enters i schedule k t m f fs e role n c)
    enters_sound o st e role n c calls is le room on =
        let under : Frame = record f { stack = drop c.parameters f.stack } in
        record {
          sound = record {
            few = one_more own under fs room;
            running =
                going_above i w own None (new_frame i n c (arguments c.parameters f.stack) role) (under ∷ fs)
                (begins i w n c (arguments c.parameters f.stack) role is (length-reverse (take c.parameters f.stack) ∙ length-take-le c.parameters f.stack le));
            below = on (waits o st n c calls is le);
            may = λ z. may_above own under fs;
          };
        }

    -- what stands below a call
    within_call : (n : ℕ) (c : Frame) → c.role ≡ f.role → c.subprogram ≡ f.subprogram → IsWaiting i n c → AreBelow i own Inner n (c ∷ fs)
    within_call n c r q g = (g, subst (λ x. AreBelow i own x c.subprogram fs) (sym r) (subst (λ x. AreBelow i own f.role x fs) (sym q) below), may)

    opened_call : (o n : ℕ) (c : Frame) → c.role ≡ f.role → c.subprogram ≡ f.subprogram → IsWaiting i n c → AreBelow i own (Opened o) n (c ∷ fs)
    opened_call o n c r q g = (waiting_above i w own n c fs may g, subst (λ x. AreBelow i own x c.subprogram fs) (sym r) (subst (λ x. AreBelow i own f.role x fs) (sym q) below))

    call_sound : (n : ℕ) → At (op.Call n) → (c : Option Subprogram) → called i n ≡ c → StepsSoundly i own (steps.call i schedule k t m f fs n c)
    call_sound n st None is = breaks_sound _ st
    call_sound n st (Some c) is =
        with_parameters_sound _ st c _ (λ le. with_frame_left_sound _ st _ (λ room. enters_sound _ st Quiet Inner n c refl is le room (within_call n _ refl refl)))

    unless_refused_sound : (o : Operation) → At o → (r : Option Refusal) (go : Stepped) → StepsSoundly i own go → StepsSoundly i own (steps.unless_refused i schedule k t m f fs r go)
    unless_refused_sound o st None go left = left
    unless_refused_sound o st (Some r) go left = raised_sound o st _

    external_call_sound : (n : ℕ) → At (op.ProtectedCall n) → (c : Subprogram) → called i n ≡ Some c → c.parameters ≤ length f.stack → (kind : Kind) → StepsSoundly i own (steps.external_call i schedule k t m f fs n c kind)
    external_call_sound n st c is le (kinds.ProtectedProcedure o) =
        unless_refused_sound _ st _ _ (with_frame_left_sound _ st _ (λ room. enters_sound _ st _ (Opened o) n c refl is le room (opened_call o n _ refl refl)))
    external_call_sound n st c is le (kinds.ProtectedFunction o) =
        unless_refused_sound _ st _ _ (with_frame_left_sound _ st _ (λ room. enters_sound _ st _ (Opened o) n c refl is le room (opened_call o n _ refl refl)))
    external_call_sound n st c is le kinds.Plain = breaks_sound _ st
    external_call_sound n st c is le (kinds.EntryBody o) = breaks_sound _ st
    external_call_sound n st c is le kinds.TaskBody = breaks_sound _ st

    protected_call_sound : (n : ℕ) → At (op.ProtectedCall n) → (c : Option Subprogram) → called i n ≡ c → StepsSoundly i own (steps.protected_call i schedule k t m f fs n c)
    protected_call_sound n st None is = breaks_sound _ st
    protected_call_sound n st (Some c) is = with_parameters_sound _ st c _ (λ le. external_call_sound n st c is le c.kind)

    entry_call_at_sound : (o n : ℕ) → At (op.EntryCall o) → entry_of (slice_get i.objects o) ≡ Some n → (c : Option Subprogram) → called i n ≡ c → StepsSoundly i own (steps.entry_call_at i schedule k t m f fs o n c)
    entry_call_at_sound o n st calls None is = breaks_sound _ st
    entry_call_at_sound o n st calls (Some c) is =
        with_parameters_sound _ st c _ (λ le.
        cond_sound (is_inside_any k t || is_above_ceiling k t o) _ _ (λ e. raised_sound _ st _) (λ e.
        with_frame_left_sound _ st _ (λ room.
        cond_sound (steps.is_open i m o) _ _
        (λ e. enters_sound _ st _ (Opened o) n c calls is le room (opened_call o n _ refl refl))
        (λ e. cond_sound (is_full k o) _ _ (λ e. raised_sound _ st _) (λ e. record { sound = record { few = few; running = going_above i w own None f fs (going _ st); below = below; may = λ z. may } })))))

    entry_call_sound : (o : ℕ) → At (op.EntryCall o) → (n : Option ℕ) → entry_of (slice_get i.objects o) ≡ n → StepsSoundly i own (steps.entry_call i schedule k t m f fs o n)
    entry_call_sound o st None calls = breaks_sound _ st
    entry_call_sound o st (Some n) calls = entry_call_at_sound o n st calls (called i n) refl

    returns_to_sound : (cs : List Frame) (role : Role) (results : List ℤ) → At op.Return → frames_counted own cs ≤ FRAMES → fs ≡ cs → AreBelow i own role f.subprogram cs → length results ≡ results_of (called i f.subprogram) → StepsSoundly i own (steps.returns_to i schedule k t m f fs cs role results)
    returns_to_sound [] role results st le same under e =
        record { sound = record { few = le; running = going_above i w own None f [] (going _ st); below = subst (AreBelow i own f.role f.subprogram) same below; may = λ z. subst (MayRun own) same may } }
    returns_to_sound (c ∷ cs) Inner results st le same under e =
        record { sound = record { few = fewer own c cs le; running = going_above i w own None _ cs (resumed_going i w f.subprogram c results under.0 e); below = under.1; may = λ z. under.2 } }
    returns_to_sound (c ∷ cs) (Opened o) results st le same under e =
        record { sound = record { few = fewer own c cs le; running = resumed_above i w own f.subprogram c cs results under.0 e; below = under.1; may = λ z. absurd (true≢false z) } }
    returns_to_sound (c ∷ cs) (Serving o u pending) results st le same under e =
        record { sound = record { few = fewer own c cs le; running = under.1; below = under.2; may = λ z. absurd (true≢false z) } }

    returns_sound : At op.Return → StepsSoundly i own (steps.returns i schedule k t m f fs (results_of (called i f.subprogram)))
    returns_sound st =
        cond_sound (nat_le (results_of (called i f.subprogram)) (length f.stack)) _ _
        (λ e. returns_to_sound fs f.role _ st few refl below (length-take-le (results_of (called i f.subprogram)) f.stack (leb-true _ _ e)))
        (λ e. breaks_sound _ st)

    raises_number_sound : (o : Operation) → At o → (x : Option ℕ) → StepsSoundly i own (steps.raises_number i schedule k t m f fs x)
    raises_number_sound o st None = breaks_sound o st
    raises_number_sound o st (Some x) = raised_sound o st x

    unless_inside_sound : (o : Operation) → At o → (go : Stepped) → StepsSoundly i own go → StepsSoundly i own (steps.unless_inside i schedule k t m f fs go)
    unless_inside_sound o st go left = cond_sound (is_inside_any k t) _ _ (λ e. raised_sound o st _) (λ e. left)

    branch_sound : (o : Operation) → At o → (b : Bool) (p q : ℕ) (stack : List ℤ) → StepsSoundly i own (steps.to i schedule k t m f fs p stack) → StepsSoundly i own (steps.to i schedule k t m f fs q stack) → StepsSoundly i own (steps.to i schedule k t m f fs (cond b p q) stack)
    branch_sound o st true p q stack x y = x
    branch_sound o st false p q stack x y = y

    two_less : (l r d : ℕ) → l ≡ suc (suc r) → l ≡ d → r ≡ d - 2 + 0
    two_less l r d e g = omega arith

    less : (l r d : ℕ) → l ≡ suc r → l ≡ d → r ≡ d - 1 + 0
    less l r d e g = omega arith

    same : (l r d : ℕ) → l ≡ suc r → l ≡ d → suc r ≡ d - 1 + 1
    same l r d e g = omega arith

    more : (l d : ℕ) → l ≡ d → suc l ≡ d - 0 + 1
    more l d e = omega arith

    -- the operations, each with its depths
    pub operation_sound : (o : Operation) → At o → StepsSoundly i own (steps.does_operation i schedule k t m f fs o)
    operation_sound (op.Push v) st = next_sound _ st (v ∷ f.stack) refl (more _ _ deep)
    operation_sound op.Drop st = one_sound f.stack _ (taken_there _ st) (λ x rest e. next_sound _ st rest refl (less _ _ _ e deep))
    operation_sound op.Duplicate st = one_sound f.stack _ (taken_there _ st) (λ x rest e. next_sound _ st (x ∷ x ∷ rest) refl (twice _ _ _ e deep))
      where
        twice : (l r d : ℕ) → l ≡ suc r → l ≡ d → suc (suc r) ≡ d - 1 + 2
        twice l r d e g = omega arith
    operation_sound (op.LoadLocal a) st = loaded_sound _ st _ f.stack refl (more _ _ deep)
    operation_sound (op.LoadPlain a) st = loaded_sound _ st _ f.stack refl (more _ _ deep)
    operation_sound (op.LoadObject a) st = loaded_sound _ st _ f.stack refl (more _ _ deep)
    operation_sound (op.StoreLocal a) st = one_sound f.stack _ (taken_there _ st) (λ x rest e. stores_sound _ st regions.Locals (pos a) x rest refl (less _ _ _ e deep))
    operation_sound (op.StorePlain a) st = one_sound f.stack _ (taken_there _ st) (λ x rest e. stores_sound _ st regions.Plain (pos a) x rest refl (less _ _ _ e deep))
    operation_sound (op.StoreObject a) st = one_sound f.stack _ (taken_there _ st) (λ x rest e. stores_sound _ st regions.Object (pos a) x rest refl (less _ _ _ e deep))
    operation_sound (op.LoadIndexed r) st = one_sound f.stack _ (taken_there _ st) (λ x rest e. loaded_sound _ st _ rest refl (same _ _ _ e deep))
    operation_sound (op.StoreIndexed r) st = two_sound f.stack _ (taken_there _ st) (λ x y rest e. stores_sound _ st r x y rest refl (two_less _ _ _ e deep))
    operation_sound (op.LoadBlock r n) st =
        one_sound f.stack _ (taken_there _ st) (λ x rest e. block_loaded_sound _ st n _ rest (words_at-length (region_words i r m f) x n) refl (block _ _ _ n e deep))
      where
        block : (l r d n : ℕ) → l ≡ suc r → l ≡ d → n + r ≡ d - 1 + n
        block l r d n e g = omega arith
    operation_sound (op.StoreBlock r n) st =
        one_sound (drop n f.stack) _ (enough _ _ n (length-drop n f.stack) (taken_there _ st)) (λ x rest e.
        stored_sound _ st r _ rest (words_put-length (region_words i r m f) x (arguments n f.stack)) refl (block _ _ _ d n (length-drop n f.stack) e deep))
      where
        enough : (a l n : ℕ) → a ≡ l - n → n + 1 ≤ l → 1 ≤ a
        enough a l n e le = omega arith

        block : (a l r d n : ℕ) → a ≡ l - n → a ≡ suc r → l ≡ d → r ≡ d - (n + 1) + 0
        block a l r d n e g h = omega arith
    operation_sound (op.Copy target source n) st = two_sound f.stack _ (taken_there _ st) (λ x y rest e. copied_sound _ st target x _ rest refl (two_less _ _ _ e deep))
    operation_sound op.Negate st = unary_sound _ st negation_of refl refl refl
    operation_sound op.Absolute st = unary_sound _ st absolute_of refl refl refl
    operation_sound op.Not st = unary_sound _ st is_zero_word refl refl refl
    operation_sound op.Add st = binary_sound _ st sum_of refl refl refl
    operation_sound op.Subtract st = binary_sound _ st difference_of refl refl refl
    operation_sound op.Multiply st = binary_sound _ st product_of refl refl refl
    operation_sound op.Divide st = binary_sound _ st quotient_of refl refl refl
    operation_sound op.Modulo st = binary_sound _ st modulus_of refl refl refl
    operation_sound op.Remainder st = binary_sound _ st remainder_of refl refl refl
    operation_sound op.Equal st = binary_sound _ st (relation are_equal) refl refl refl
    operation_sound op.NotEqual st = binary_sound _ st (relation are_different) refl refl refl
    operation_sound op.Less st = binary_sound _ st (relation int_lt) refl refl refl
    operation_sound op.LessOrEqual st = binary_sound _ st (relation int_le) refl refl refl
    operation_sound op.Greater st = binary_sound _ st (relation is_greater) refl refl refl
    operation_sound op.GreaterOrEqual st = binary_sound _ st (relation is_greater_or_equal) refl refl refl
    operation_sound op.And st = binary_sound _ st (bitwise (int_bit_and w64)) refl refl refl
    operation_sound op.Or st = binary_sound _ st (bitwise (int_bit_or w64)) refl refl refl
    operation_sound op.ExclusiveOr st = binary_sound _ st (bitwise (int_bit_xor w64)) refl refl refl
    operation_sound op.CheckRange st = three_sound f.stack _ (taken_there _ st) (λ x y z rest e. gives_sound _ st _ rest refl (three _ _ _ e deep))
      where
        three : (l r d : ℕ) → l ≡ suc (suc (suc r)) → l ≡ d → suc r ≡ d - 3 + 1
        three l r d e g = omega arith
    operation_sound (op.Jump a) st = to_sound _ st a f.stack refl (none _ _ deep)
      where
        none : (l d : ℕ) → l ≡ d → l ≡ d - 0 + 0
        none l d e = omega arith
    operation_sound (op.JumpIfZero a) st =
        one_sound f.stack _ (taken_there _ st) (λ x rest e.
        let there = less _ _ _ e deep in branch_sound _ st _ a (f.place + 1) rest (to_sound _ st a rest refl there) (next_sound _ st rest refl there))
    operation_sound (op.JumpIfNotZero a) st =
        one_sound f.stack _ (taken_there _ st) (λ x rest e.
        let there = less _ _ _ e deep in branch_sound _ st _ (f.place + 1) a rest (next_sound _ st rest refl there) (to_sound _ st a rest refl there))
    operation_sound (op.Call n) st = call_sound n st (called i n) refl
    operation_sound (op.ProtectedCall n) st = protected_call_sound n st (called i n) refl
    operation_sound (op.EntryCall o) st = entry_call_sound o st (entry_of (slice_get i.objects o)) refl
    operation_sound op.Return st = returns_sound st
    operation_sound op.Raise st = one_sound f.stack _ (taken_there _ st) (λ x rest e. raises_number_sound _ st _)
    operation_sound op.CheckBlocking st = unless_inside_sound _ st _ (next_sound _ st f.stack refl (none _ _ deep))
      where
        none : (l d : ℕ) → l ≡ d → l ≡ d - 0 + 0
        none l d e = omega arith
    operation_sound op.DelayUntil st = one_sound f.stack _ (taken_there _ st) (λ x rest e. unless_inside_sound _ st _ (next_after_sound _ st (Delays x) rest refl (less _ _ _ e deep)))
    operation_sound (op.PutLine a) st = one_sound f.stack _ (taken_there _ st) (λ x rest e. next_after_sound _ st _ rest refl (less _ _ _ e deep))
    operation_sound op.ReadInput st = one_sound f.stack _ (taken_there _ st) (λ x rest e. gives_sound _ st _ rest refl (same _ _ _ e deep))
    operation_sound op.Clock st = next_sound _ st (k.now ∷ f.stack) refl (more _ _ deep)

  pub instruction_sound : (schedule : List ScheduleLine) (k : Kernel) (t : ℕ) (m : Words) (f : Frame) (fs : List Frame) → frames_counted (is_task k.partition t) fs ≤ FRAMES → AreBelow i (is_task k.partition t) f.role f.subprogram fs → MayRun (is_task k.partition t) fs → (g : IsGoing i f) → (x : Option Instr) → slice_get i.instructions f.place ≡ x → StepsSoundly i (is_task k.partition t) (steps.does_instruction i schedule k t m f fs x)
  instruction_sound schedule k t m f fs few below may g None is =
      record { sound = record { few = few; running = going_above i w (is_task k.partition t) None f fs g; below = below; may = λ z. may } }
  instruction_sound schedule k t m f fs few below may g (Some x) is =
      let e : x ≡ g.x = same_Some _ _ (sym is ∙ g.stands.instruction) in
      let st = g.stands in
      operation_sound schedule k t m f fs few below may g.s x.depth (g.depth ∙ ap (λ v. v.depth) (sym e)) x.operation (subst (Stands i f g.s) (sym e) st)

  -- the step of a task or a handler
  pub act_sound : (schedule : List ScheduleLine) (k : Kernel) (t : ℕ) (m : Words) (f : Frame) (fs : List Frame) (x : Option ℕ) → IsSound i (is_task k.partition t) (record { frame = f; callers = fs; raising = x }) → StepsSoundly i (is_task k.partition t) (steps.does_or_raises i schedule k t m f fs x)
  act_sound schedule k t m f fs None s = instruction_sound schedule k t m f fs s.few s.below s.may s.running (slice_get i.instructions f.place) refl
  act_sound schedule k t m f fs (Some x) s = unwind_sound i w (is_task k.partition t) m x fs f s.few s.running s.below s.may

-- The start

module _ (i : Sections) (w : IsWellFormed i) where
  -- the body of a task is there
  pub body_there : (t : ℕ) (x : Task) → slice_get i.tasks t ≡ Some x → (s : Subprogram) × (called i x.subprogram ≡ Some s) × (s.kind ≡ TaskBody)
  body_there t x is =
      let s = slice_get_inside i.subprograms x.subprogram (ltb-true _ _ (list_all-at (has_body i) i.tasks t x (bodies i w) is)) in
      (s.0, s.1, body_kind i w t x s.0 is s.1)

  body_is : (o : Option Task) (t : ℕ) → slice_get i.tasks t ≡ o → (s : Subprogram) × (called i (body_of o) ≡ Some s)
  body_is None t is = slice_get_inside i.subprograms 0 (some_subprogram i w)
  body_is (Some x) t is = let b = body_there t x is in (b.0, b.1)

  -- the first frame of a subprogram
  begun : (n : ℕ) (s : Subprogram) (role : Role) → called i n ≡ Some s → IsGoing i (record (body_frame i n (Some s)) { role = role })
  begun n s role is =
      let h = has_depth-is i w (first_place i n) 0 s (begin_held i w n s is) (begin_depth i w n s is) in
      record { s = s; x = h.0; stands = record { subprogram = is; within = begin_held i w n s is; instruction = h.1; locals = length-replicate s.locals (pos 0) }; depth = sym h.2 }

  task_sound : (t : ℕ) → IsSound i true (task_state i t)
  task_sound t =
      let n = body_of (slice_get i.tasks t) in
      let s = body_is (slice_get i.tasks t) t refl in
      subst (λ o. IsSound i true (record { frame = body_frame i n o; callers = []; raising = None })) (sym s.1)
      (record { few = omega arith; running = begun n s.0 Inner s.1; below = refl; may = tt })

  handler_sound : (channel n : ℕ) → attached_to channel i.attachments ≡ Some n → IsSound i false (handler_state i channel)
  handler_sound channel n is =
      let h = handler_procedure i w channel n is in
      let own : object_of h.s.kind ≡ Some h.object = ap object_of h.kind in
      let at : IsSound i false (handler_state_of i (Some n)) =
      subst
      (λ o. IsSound i false (record { frame = record (body_frame i n o) { role = role_within (object_of (kind_of o)) }; callers = lowest_frame i ∷ []; raising = None }))
      (sym h.there)
      (subst
      (λ r. IsSound i false (record { frame = record (body_frame i n (Some h.s)) { role = role_within r }; callers = lowest_frame i ∷ []; raising = None }))
      (sym own)
      (record { few = omega arith; running = begun n h.s (Opened h.object) h.there; below = (refl, refl); may = tt })) in
      subst (λ o. IsSound i false (handler_state_of i o)) (sym is) at

  pub start_sound : (t : ℕ) → IsImageTask i t → IsSound i (is_own i t) (initial_state i t)
  start_sound t (inl lt) = subst (λ b. IsSound i b (cond b (task_state i t) (handler_state i (t - length i.tasks)))) (sym (lt-ltb t (length i.tasks) lt)) (task_sound t)
  start_sound t (inr h) =
      let le : length i.tasks ≤ t = let e = h.2 in omega (arith, e) in
      let channel : t - length i.tasks ≡ h.0 = let e = h.2 in omega (arith, e) in
      subst (λ b. IsSound i b (cond b (task_state i t) (handler_state i (t - length i.tasks)))) (sym (le-ltb t (length i.tasks) le))
      (subst (λ c. IsSound i false (handler_state i c)) (sym channel) (handler_sound h.0 h.1 h.3))

pub steps_sound : StepsSound
steps_sound i w schedule k t s sound = (act_sound i w schedule k t s.memory s.task.frame s.task.callers s.task.raising sound).sound

pub frames_have_room : FramesHaveRoom
frames_have_room i w f s x st =
    let d = depths i w f.place x.depth x.operation s st.instruction st.within in
    let words = frame_words i w f.subprogram s st.subprogram in
    record { operands = d.taken; before = d.before; after = d.after; parameters = words.0; words = words.1; narrow = within_widest i.subprograms f.subprogram s st.subprogram }
