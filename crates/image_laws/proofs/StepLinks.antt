-- The step of a task against the kernel: its open actions, the refusals that it passed, and whose words it may change.
use Rattle.std.proofs.Common.{◌≡◌, ◌⊎◌, inl, inr, ℕ, ◌+◌, ◌≤◌, ℤ, pos, List, [], ◌∷◌, ◌++◌, length, drop, reverse, Bool, true, false, cond, ◌||◌, Option, Some, None, Ok, Err, refl, sym, ap, ◌∙◌, subst, arith, ⊎_elim}
use Rattle.std.proofs.lemmas.Bool.{leb-true, true≢false}
use Rattle.std.proofs.lemmas.List.{length-take-le}
use Rattle.std.proofs.lemmas.Option.{none-some, same_Some}
use Rattle.std.specs.Prelude.{int_le, int_lt, nat_le, nat_lt, slice_get}
use Rattle.std.specs.Int.{w64, int_bit_and, int_bit_or, int_bit_xor}
use Rattle.base.specs.Arithmetic.{Checked, absolute_of, difference_of, modulus_of, negation_of, product_of, quotient_of, remainder_of, sum_of}
use Rattle.base.specs.Exceptions.{number_of}
use Rattle.base.specs.declared.limits.TheConstants.{FRAMES}
use Rattle.base.specs.declared.schedule.ScheduleLine.{ScheduleLine}
use Rattle.kernel.specs.State.{Kernel, is_task, Action, Reads, Writes, Serves}
use Rattle.kernel.specs.Effects.{Quiet, Opens, Views, Ends, Refusal, call_refusal, is_above_ceiling, is_full, is_inside_any, outer_of}
use Rattle.kernel.specs.Invariant.{CanWrite, HasAction, Passed, Tells}
use Rattle.kernel.specs.Laws.{EntryOpens}
use Rattle.kernel.specs.PutLaws.{put_other, same_or_not}
use Rattle.handlers.specs.Innermost.{handler_of}
use Rattle.image.specs.Sections.{Sections, object_of, writes_object}
use Rattle.image.specs.Operations.{called, called_if, entry_of, results_of}
use Rattle.image.specs.Rules.{IsWellFormed, calls_inside, has_word, is_plain, names_things, writes_region}
use Rattle.image.specs.Scalars.{are_different, are_equal, bitwise, is_greater, is_greater_or_equal, is_zero_word, relation}
use Rattle.image.specs.Frames.{Words, Role, Inner, Opened, Serving, Frame, arguments, frames_counted, kind_of, own_object, region_words, shared_with, with_object_words, word_put, words_put}
use Rattle.image.specs.Steps as steps
use Rattle.image.specs.Steps.{Given, Stepped, Results, Raised, caught, does, is_open, removed, resumed, unwind}
use Rattle.image_laws.specs.Shape.{Stands, AreBelow, IsGoing, IsSound, MayRun}
use Rattle.image_laws.specs.Linked.{Fitting, MayWrite, OwesFor, actions_of, frames_of, kind_at, next_actions, opened_by, with_action}
use Rattle.image.specs.declared.instruction.Instr.{Instr}
use Rattle.image.specs.declared.instruction.Operation.{Operation}
use Rattle.image.specs.declared.instruction.Operation.TheVariants as op
use Rattle.image.specs.declared.instruction.Region.{Region}
use Rattle.image.specs.declared.instruction.Region.TheVariants as regions
use Rattle.image.specs.declared.subprograms.Kind.{Kind}
use Rattle.image.specs.declared.subprograms.Kind.TheVariants.{Plain, ProtectedProcedure, ProtectedFunction, EntryBody, TaskBody}
use Rattle.image.specs.declared.subprograms.Subprogram.{Subprogram}
use Rattle.image_laws.proofs.Shapes.{fewer, instr}
use Rattle.std.proofs.lemmas.Bool.{and_parts, eqb-true}
use Rattle.image.specs.RuleLaws.{some_and-at}
use Rattle.image_laws.proofs.WellFormed.{entry_kind, names}

-- what the step of the running task t is to the kernel
pub record Links (i : Sections) (k : Kernel) (t : ℕ) (m : Words) (r : Stepped) : Type 0 where
  pub actions : actions_of i (frames_of r.solo.task) ≡ next_actions r.effect (k.actions t)
  pub may : MayWrite i (frames_of r.solo.task)
  pub passed : Passed (is_open i r.solo.memory) k t r.effect
  pub held : (o : ℕ) → (r.solo.memory.objects o ≡ m.objects o) ⊎ HasAction (CanWrite o) (k.actions t)
  pub owes : OwesFor i (is_task k.partition t) (k.actions t) r.effect r.given r.solo.task

room_after : (own : Bool) (f : Frame) (fs : List Frame) → frames_counted own (f ∷ fs) ≤ FRAMES → frames_counted own fs + 1 ≤ FRAMES
room_after true f fs le = omega arith
room_after false f fs le = omega arith

module _ (i : Sections) (k : Kernel) (t : ℕ) (m : Words) where
  abbrev own : Bool
  own = is_task k.partition t

  unchanged : (o : ℕ) → (m.objects o ≡ m.objects o) ⊎ HasAction (CanWrite o) (k.actions t)
  unchanged o = inl refl

  tells_opened : (kind : Kind) (o : ℕ) (outer : List Action) → Tells (is_open i m) (is_open i m o) (opened_by kind o ∷ outer)
  tells_opened Plain o outer = refl
  tells_opened (ProtectedProcedure p) o outer = refl
  tells_opened (ProtectedFunction p) o outer = tt
  tells_opened (EntryBody p) o outer = refl
  tells_opened TaskBody o outer = refl

  fitting_opened : (kind : Kind) (o : ℕ) (outer : List Action) → Fitting i (opened_by kind o ∷ outer) None
  fitting_opened Plain o outer = tt
  fitting_opened (ProtectedProcedure p) o outer = tt
  fitting_opened (ProtectedFunction p) o outer = tt
  fitting_opened (EntryBody p) o outer = tt
  fitting_opened TaskBody o outer = tt

  -- the end of an action, with frame c on top
  opened_links : (kind : Kind) (o : ℕ) (c : Frame) (fs : List Frame) (raising : Option ℕ) → k.actions t ≡ opened_by kind o ∷ actions_of i (c ∷ fs) → MayWrite i (c ∷ fs) → frames_counted own fs + 1 ≤ FRAMES → Links i k t m (does (Ends (is_open i m o)) m c fs raising None)
  opened_links kind o c fs raising acts may few =
      record {
        actions = sym (ap outer_of acts);
        may = may;
        passed = subst (Tells (is_open i m) (is_open i m o)) (sym acts) (tells_opened kind o (actions_of i (c ∷ fs)));
        held = unchanged;
        owes = (few, subst (λ v. Fitting i v None) (sym acts) (fitting_opened kind o (actions_of i (c ∷ fs))));
      }

  served_links : (o u : ℕ) (c : Frame) (fs : List Frame) (raising : Option ℕ) (g : Given) → Fitting i (Serves o u ∷ actions_of i (c ∷ fs)) (Some g) → k.actions t ≡ Serves o u ∷ actions_of i (c ∷ fs) → MayWrite i (c ∷ fs) → frames_counted own fs + 1 ≤ FRAMES → Links i k t m (does (Ends (is_open i m o)) m c fs raising (Some g))
  served_links o u c fs raising g fits acts may few =
      record {
        actions = sym (ap outer_of acts);
        may = may;
        passed = subst (Tells (is_open i m) (is_open i m o)) (sym acts) tt;
        held = unchanged;
        owes = (few, subst (λ v. Fitting i v (Some g)) (sym acts) fits);
      }

  removed_links : (x : ℕ) (role : Role) (kind : Kind) (c : Frame) (fs : List Frame) (at_once : Stepped) → k.actions t ≡ with_action role kind (actions_of i (c ∷ fs)) → MayWrite i (c ∷ fs) → frames_counted own fs + 1 ≤ FRAMES → (k.actions t ≡ actions_of i (c ∷ fs) → Links i k t m at_once) → Links i k t m (removed i m x role c fs at_once)
  removed_links x Inner kind c fs at_once acts may few left = left acts
  removed_links x (Opened o) kind c fs at_once acts may few left = opened_links kind o c fs (Some x) acts may few
  removed_links x (Serving o u pending) kind c fs at_once acts may few left = served_links o u c fs pending (Raised x) tt acts may few

  caught_links : (x : ℕ) (o : Option ℕ) (f : Frame) (fs : List Frame) (other : Stepped) → k.actions t ≡ actions_of i (f ∷ fs) → MayWrite i (f ∷ fs) → Links i k t m other → Links i k t m (caught i m x o f fs other)
  caught_links x None f fs other acts may left = left
  caught_links x (Some a) f fs other acts may left = record { actions = sym acts; may = may; passed = tt; held = unchanged; owes = tt }

  pub unwind_links : (x : ℕ) (fs : List Frame) (f : Frame) → frames_counted own fs ≤ FRAMES → k.actions t ≡ actions_of i (f ∷ fs) → MayWrite i (f ∷ fs) → Links i k t m (unwind i m x f fs)
  unwind_links x [] f few acts may =
      caught_links x (handler_of i.rows f.place x) f [] _ acts may (record { actions = sym acts; may = may; passed = tt; held = unchanged; owes = tt })
  unwind_links x (c ∷ fs) f few acts may =
      caught_links x (handler_of i.rows f.place x) f (c ∷ fs) _ acts may
      (removed_links x f.role (kind_at i f) c fs (unwind i m x c fs) acts may.1 (room_after own c fs few) (λ e. unwind_links x fs c (fewer own c fs few) e may.1))

-- who calls inside an object what may write it may write it too
calls_inside_writes : (a b : Kind) (o : ℕ) → (is_plain b || calls_inside a b) ≡ true → object_of b ≡ Some o → writes_object b ≡ true → (object_of a ≡ Some o) × (writes_object a ≡ true)
calls_inside_writes a Plain o e is writes = absurd (none-some o is)
calls_inside_writes a TaskBody o e is writes = absurd (none-some o is)
calls_inside_writes a (ProtectedFunction p) o e is writes = absurd (true≢false (sym writes))
calls_inside_writes (ProtectedProcedure q) (ProtectedProcedure p) o e is writes = (ap Some (eqb-true q p e) ∙ is, refl)
calls_inside_writes (EntryBody q) (ProtectedProcedure p) o e is writes = (ap Some (eqb-true q p e) ∙ is, refl)
calls_inside_writes Plain (ProtectedProcedure p) o e is writes = absurd (true≢false (sym e))
calls_inside_writes TaskBody (ProtectedProcedure p) o e is writes = absurd (true≢false (sym e))
calls_inside_writes (ProtectedFunction q) (ProtectedProcedure p) o e is writes = absurd (true≢false (sym e))
calls_inside_writes Plain (EntryBody p) o e is writes = absurd (true≢false (sym e))
calls_inside_writes TaskBody (EntryBody p) o e is writes = absurd (true≢false (sym e))
calls_inside_writes (ProtectedProcedure q) (EntryBody p) o e is writes = absurd (true≢false (sym e))
calls_inside_writes (ProtectedFunction q) (EntryBody p) o e is writes = absurd (true≢false (sym e))
calls_inside_writes (EntryBody q) (EntryBody p) o e is writes = absurd (true≢false (sym e))

-- who opens an action to write may write
opener_writes : (kind : Kind) (o : ℕ) (outer : List Action) → object_of kind ≡ Some o → writes_object kind ≡ true → HasAction (CanWrite o) (opened_by kind o ∷ outer)
opener_writes Plain o outer is writes = absurd (none-some o is)
opener_writes TaskBody o outer is writes = absurd (none-some o is)
opener_writes (ProtectedProcedure p) o outer is writes = inl refl
opener_writes (ProtectedFunction p) o outer is writes = absurd (true≢false (sym writes))
opener_writes (EntryBody p) o outer is writes = inl refl

module _ (i : Sections) (w : IsWellFormed i) (schedule : List ScheduleLine) (k : Kernel) (t : ℕ) (m : Words) (f : Frame) (fs : List Frame) (few : frames_counted (is_task k.partition t) fs ≤ FRAMES) (below : AreBelow i (is_task k.partition t) f.role f.subprogram fs) (go : MayRun (is_task k.partition t) fs) (s : Subprogram) (d : ℕ) (deep : length f.stack ≡ d) (acts : k.actions t ≡ actions_of i (f ∷ fs)) (may : MayWrite i (f ∷ fs)) where
  abbrev At : Operation → Type 0
  At o = Stands i f s (instr d o)

  named : (o : Operation) → At o → names_things i s o ≡ true
  named o st = names i w f.place d o s st.instruction st.within

  kind_is : (o : Operation) → At o → kind_at i f ≡ s.kind
  kind_is o st = ap kind_of st.subprogram

  breaks_links : Links i k t m (steps.breaks i schedule k t m f fs)
  breaks_links = record { actions = sym acts; may = may; passed = tt; held = unchanged i k t m; owes = tt }

  raised_links : (x : ℕ) → Links i k t m (unwind i m x f fs)
  raised_links x = unwind_links i k t m x fs f few acts may

  to_links : (p : ℕ) (stack : List ℤ) → Links i k t m (steps.to i schedule k t m f fs p stack)
  to_links p stack = record { actions = sym acts; may = may; passed = tt; held = unchanged i k t m; owes = tt }

  gives_links : (v : Checked) (stack : List ℤ) → Links i k t m (steps.gives i schedule k t m f fs v stack)
  gives_links (Ok v) stack = to_links (f.place + 1) (v ∷ stack)
  gives_links (Err x) stack = raised_links (number_of x)

  cond_links : (b : Bool) (x y : Stepped) → (b ≡ true → Links i k t m x) → (b ≡ false → Links i k t m y) → Links i k t m (cond b x y)
  cond_links true x y p q = p refl
  cond_links false x y p q = q refl

  one_links : (stack : List ℤ) (go : ℤ → List ℤ → Stepped) → ((x : ℤ) (rest : List ℤ) → Links i k t m (go x rest)) → Links i k t m (steps.with_one i schedule k t m f fs stack go)
  one_links [] go rest = breaks_links
  one_links (x ∷ stack) go rest = rest x stack

  two_links : (stack : List ℤ) (go : ℤ → ℤ → List ℤ → Stepped) → ((x y : ℤ) (rest : List ℤ) → Links i k t m (go x y rest)) → Links i k t m (steps.with_two i schedule k t m f fs stack go)
  two_links [] go rest = breaks_links
  two_links (y ∷ []) go rest = breaks_links
  two_links (y ∷ x ∷ stack) go rest = rest x y stack

  three_links : (stack : List ℤ) (go : ℤ → ℤ → ℤ → List ℤ → Stepped) → ((x y z : ℤ) (rest : List ℤ) → Links i k t m (go x y z rest)) → Links i k t m (steps.with_three i schedule k t m f fs stack go)
  three_links [] go rest = breaks_links
  three_links (z ∷ []) go rest = breaks_links
  three_links (z ∷ y ∷ []) go rest = breaks_links
  three_links (z ∷ y ∷ x ∷ stack) go rest = rest x y z stack

  unary_links : (v : ℤ → Checked) → Links i k t m (steps.unary i schedule k t m f fs v)
  unary_links v = one_links f.stack _ (λ x rest. gives_links (v x) rest)

  binary_links : (v : ℤ → ℤ → Checked) → Links i k t m (steps.binary i schedule k t m f fs v)
  binary_links v = two_links f.stack _ (λ x y rest. gives_links (v x y) rest)

  loaded_links : (word : Option ℤ) (stack : List ℤ) → Links i k t m (steps.loaded i schedule k t m f fs word stack)
  loaded_links None stack = breaks_links
  loaded_links (Some v) stack = to_links (f.place + 1) (v ∷ stack)

  block_loaded_links : (words : Option (List ℤ)) (stack : List ℤ) → Links i k t m (steps.block_loaded i schedule k t m f fs words stack)
  block_loaded_links None stack = breaks_links
  block_loaded_links (Some l) stack = to_links (f.place + 1) (reverse l ++ stack)

  -- only words of the object change whose action the frame is in

  own_held : (o : Option ℕ) (words : List ℤ) → ((p : ℕ) → o ≡ Some p → HasAction (CanWrite p) (k.actions t)) → (p : ℕ) → ((with_object_words o words m).objects p ≡ m.objects p) ⊎ HasAction (CanWrite p) (k.actions t)
  own_held None words can p = inl refl
  own_held (Some o) words can p = ⊎_elim (λ e. inr (can p (ap Some (sym e)))) (λ ne. inl (put_other o p words m.objects ne)) (same_or_not p o)

  shared_held : (r : Region) (words : List ℤ) → kind_at i f ≡ s.kind → writes_region s r ≡ true → (p : ℕ) → ((shared_with i r words m f).objects p ≡ m.objects p) ⊎ HasAction (CanWrite p) (k.actions t)
  shared_held regions.Locals words kind writes p = inl refl
  shared_held regions.Plain words kind writes p = inl refl
  shared_held regions.Object words kind writes p =
      own_held (own_object i f) words (λ q e. subst (HasAction (CanWrite q)) (sym acts) (may.0 q e (ap writes_object kind ∙ writes))) p

  stored_links : (o : Operation) → At o → (r : Region) (words : Option (List ℤ)) (stack : List ℤ) → writes_region s r ≡ true → Links i k t m (steps.stored i schedule k t m f fs r words stack)
  stored_links o st r None stack writes = breaks_links
  stored_links o st r (Some l) stack writes = record { actions = sym acts; may = may; passed = tt; held = shared_held r l (kind_is o st) writes; owes = tt }

  copied_links : (o : Operation) → At o → (r : Region) (index : ℤ) (words : Option (List ℤ)) (stack : List ℤ) → writes_region s r ≡ true → Links i k t m (steps.copied i schedule k t m f fs r index words stack)
  copied_links o st r index None stack writes = breaks_links
  copied_links o st r index (Some l) stack writes = stored_links o st r (words_put (region_words i r m f) index l) stack writes

  -- Calls and returns

  with_parameters_links : (c : Subprogram) (go : Stepped) → Links i k t m go → Links i k t m (steps.with_parameters i schedule k t m f fs c go)
  with_parameters_links c go left = cond_links (nat_le c.parameters (length f.stack)) _ _ (λ e. left) (λ e. breaks_links)

  with_frame_left_links : (go : Stepped) → Links i k t m go → Links i k t m (steps.with_frame_left i schedule k t m f fs go)
  with_frame_left_links go left = cond_links (nat_lt (frames_counted (is_task k.partition t) fs) FRAMES) _ _ (λ e. left) (λ e. raised_links _)

  call_links : (n : ℕ) → At (op.Call n) → (c : Option Subprogram) → called i n ≡ c → Links i k t m (steps.call i schedule k t m f fs n c)
  call_links n st None is = breaks_links
  call_links n st (Some c) is =
      let enters : Links i k t m (steps.enters i schedule k t m f fs Quiet Inner n c) =
      record {
        actions = sym acts;
        may = (
          λ o e writes.
              let inner = some_and-at (called i n) (λ c. is_plain c.kind || calls_inside s.kind c.kind) c is (named _ st) in
              let own = calls_inside_writes s.kind c.kind o inner (sym (ap object_of (ap kind_of is)) ∙ e) (sym (ap writes_object (ap kind_of is)) ∙ writes) in
              may.0 o (ap object_of (kind_is _ st) ∙ own.0) (ap writes_object (kind_is _ st) ∙ own.1),
          may,
        );
        passed = tt;
        held = unchanged i k t m;
        owes = tt;
      } in
      with_parameters_links c _ (with_frame_left_links _ enters)

  unless_refused_links : (r : Option Refusal) (go : Stepped) → (r ≡ None → Links i k t m go) → Links i k t m (steps.unless_refused i schedule k t m f fs r go)
  unless_refused_links None go left = left refl
  unless_refused_links (Some r) go left = raised_links _

  -- a call that opens an action to write
  opens_links : (o n : ℕ) (c : Subprogram) (kind : Kind) → called i n ≡ Some c → c.kind ≡ kind → opened_by kind o ≡ Writes o → object_of kind ≡ Some o → call_refusal k t o ≡ None → Links i k t m (steps.enters i schedule k t m f fs (Opens o) (Opened o) n c)
  opens_links o n c kind is same writer own passed =
      let e : kind_of (called i n) ≡ kind = ap kind_of is ∙ same in
      let head : opened_by (kind_of (called i n)) o ≡ Writes o = ap (λ v. opened_by v o) e ∙ writer in
      record {
        actions = ap (λ v. v ∷ actions_of i (f ∷ fs)) head ∙ ap (λ v. Writes o ∷ v) (sym acts);
        may = (λ p q writes. inl (subst (CanWrite p) (sym head) (same_Some _ _ (sym own ∙ (sym (ap object_of e) ∙ q)))), may);
        passed = passed;
        held = unchanged i k t m;
        owes = tt;
      }

  views_links : (o n : ℕ) (c : Subprogram) → called i n ≡ Some c → c.kind ≡ ProtectedFunction o → call_refusal k t o ≡ None → Links i k t m (steps.enters i schedule k t m f fs (Views o) (Opened o) n c)
  views_links o n c is same passed =
      let e : kind_of (called i n) ≡ ProtectedFunction o = ap kind_of is ∙ same in
      record {
        actions = ap (λ v. opened_by v o ∷ actions_of i (f ∷ fs)) e ∙ ap (λ v. Reads o ∷ v) (sym acts);
        may = (λ p q writes. absurd (true≢false (sym writes ∙ ap writes_object e)), may);
        passed = passed;
        held = unchanged i k t m;
        owes = tt;
      }

  external_call_links : (n : ℕ) (c : Subprogram) → called i n ≡ Some c → (kind : Kind) → c.kind ≡ kind → Links i k t m (steps.external_call i schedule k t m f fs n c kind)
  external_call_links n c is (ProtectedProcedure o) same =
      unless_refused_links (call_refusal k t o) _ (λ e. with_frame_left_links _ (opens_links o n c (ProtectedProcedure o) is same refl refl e))
  external_call_links n c is (ProtectedFunction o) same = unless_refused_links (call_refusal k t o) _ (λ e. with_frame_left_links _ (views_links o n c is same e))
  external_call_links n c is Plain same = breaks_links
  external_call_links n c is (EntryBody o) same = breaks_links
  external_call_links n c is TaskBody same = breaks_links

  protected_call_links : (n : ℕ) (c : Option Subprogram) → called i n ≡ c → Links i k t m (steps.protected_call i schedule k t m f fs n c)
  protected_call_links n None is = breaks_links
  protected_call_links n (Some c) is = with_parameters_links c _ (external_call_links n c is c.kind refl)

  neither : (a b : Bool) → (a || b) ≡ false → (a ≡ false) × (b ≡ false)
  neither true b e = absurd (true≢false e)
  neither false b e = (refl, e)

  entry_call_at_links : EntryOpens → (o n : ℕ) → At (op.EntryCall o) → entry_of (slice_get i.objects o) ≡ Some n → (c : Option Subprogram) → called i n ≡ c → Links i k t m (steps.entry_call_at i schedule k t m f fs o n c)
  entry_call_at_links free o n st entry None is = breaks_links
  entry_call_at_links free o n st entry (Some c) is =
      with_parameters_links c _ (cond_links (is_inside_any k t || is_above_ceiling k t o) _ _ (λ e. raised_links _) (λ e.
      let passed = neither _ _ e in
      with_frame_left_links _ (cond_links (is_open i m o) _ _
      (λ opened. opens_links o n c (EntryBody o) is (entry_kind i w o n c entry is) refl refl (free k t o passed.0 passed.1))
      (λ closed. cond_links (is_full k o) _ _ (λ full. raised_links _) (λ room.
      record {
        actions = sym acts;
        may = may;
        passed = (passed.0, passed.1, closed, room);
        held = unchanged i k t m;
        owes = record { few = few; going = record { s = s; x = instr d (op.EntryCall o); stands = st; depth = deep }; at_call = refl; quiet = refl; below = below; may = go };
      })))))

  entry_call_links : EntryOpens → (o : ℕ) → At (op.EntryCall o) → (n : Option ℕ) → entry_of (slice_get i.objects o) ≡ n → Links i k t m (steps.entry_call i schedule k t m f fs o n)
  entry_call_links free o st None entry = breaks_links
  entry_call_links free o st (Some n) entry = entry_call_at_links free o n st entry (called i n) refl

  returns_to_links : (cs : List Frame) (role : Role) (results : List ℤ) → frames_counted (is_task k.partition t) cs ≤ FRAMES → k.actions t ≡ with_action role (kind_at i f) (actions_of i cs) → MayWrite i cs → fs ≡ cs → role ≡ f.role → AreBelow i (is_task k.partition t) role f.subprogram cs → length results ≡ results_of (called i f.subprogram) → Links i k t m (steps.returns_to i schedule k t m f fs cs role results)
  returns_to_links [] role results room own rest same is under e =
      record {
        actions = sym (own ∙ ap (λ v. with_action v (kind_at i f) []) is);
        may = subst (λ v. MayWrite i (f ∷ v)) same may;
        passed = ap (λ v. elim v [ [] ↦ false | a ∷ outer ↦ true ]) (own ∙ ap (λ v. with_action v (kind_at i f) []) under);
        held = unchanged i k t m;
        owes = tt;
      }
  returns_to_links (c ∷ cs) Inner results room own rest same is under e = record { actions = sym own; may = rest; passed = tt; held = unchanged i k t m; owes = tt }
  returns_to_links (c ∷ cs) (Opened o) results room own rest same is under e = opened_links i k t m (kind_at i f) o (resumed c results) cs None own rest (room_after (is_task k.partition t) c cs room)
  returns_to_links (c ∷ cs) (Serving o u pending) results room own rest same is under e =
      served_links i k t m o u c cs pending (Results results) (e ∙ sym (ap (λ v. results_of (called_if i v)) under.0)) own rest (room_after (is_task k.partition t) c cs room)

  unless_inside_links : (go : Stepped) → (is_inside_any k t ≡ false → Links i k t m go) → Links i k t m (steps.unless_inside i schedule k t m f fs go)
  unless_inside_links go left = cond_links (is_inside_any k t) _ _ (λ e. raised_links _) left

  raises_number_links : (x : Option ℕ) → Links i k t m (steps.raises_number i schedule k t m f fs x)
  raises_number_links None = breaks_links
  raises_number_links (Some x) = raised_links x

  returns_links : Links i k t m (steps.returns i schedule k t m f fs (results_of (called i f.subprogram)))
  returns_links =
      cond_links (nat_le (results_of (called i f.subprogram)) (length f.stack)) _ _
      (λ e. returns_to_links fs f.role _ few acts may.1 refl refl below (length-take-le (results_of (called i f.subprogram)) f.stack (leb-true _ _ e)))
      (λ e. breaks_links)

  stores_links : (o : Operation) → At o → (r : Region) (index v : ℤ) (stack : List ℤ) → writes_region s r ≡ true → Links i k t m (steps.stores i schedule k t m f fs r index v stack)
  stores_links o st r index v stack writes = stored_links o st r (word_put (region_words i r m f) index v) stack writes

  pub operation_links : EntryOpens → (o : Operation) → At o → Links i k t m (steps.does_operation i schedule k t m f fs o)
  operation_links free (op.Push v) st = to_links _ (v ∷ f.stack)
  operation_links free op.Drop st = one_links f.stack _ (λ x rest. to_links _ rest)
  operation_links free op.Duplicate st = one_links f.stack _ (λ x rest. to_links _ (x ∷ x ∷ rest))
  operation_links free (op.LoadLocal a) st = loaded_links _ f.stack
  operation_links free (op.LoadPlain a) st = loaded_links _ f.stack
  operation_links free (op.LoadObject a) st = loaded_links _ f.stack
  operation_links free (op.StoreLocal a) st = one_links f.stack _ (λ x rest. stores_links _ st regions.Locals (pos a) x rest refl)
  operation_links free (op.StorePlain a) st = one_links f.stack _ (λ x rest. stores_links _ st regions.Plain (pos a) x rest refl)
  operation_links free (op.StoreObject a) st = one_links f.stack _ (λ x rest. stores_links _ st regions.Object (pos a) x rest (and_parts (has_word i s a) _ (named _ st)).1)
  operation_links free (op.LoadIndexed r) st = one_links f.stack _ (λ x rest. loaded_links _ rest)
  operation_links free (op.StoreIndexed r) st = two_links f.stack _ (λ x y rest. stores_links _ st r x y rest (named _ st))
  operation_links free (op.LoadBlock r n) st = one_links f.stack _ (λ x rest. block_loaded_links _ rest)
  operation_links free (op.StoreBlock r n) st = one_links (drop n f.stack) _ (λ x rest. stored_links _ st r (words_put (region_words i r m f) x (arguments n f.stack)) rest (named _ st))
  operation_links free (op.Copy target source n) st = two_links f.stack _ (λ x y rest. copied_links _ st target x _ rest (and_parts (writes_region s target) _ (named _ st)).0)
  operation_links free op.Negate st = unary_links negation_of
  operation_links free op.Absolute st = unary_links absolute_of
  operation_links free op.Not st = unary_links is_zero_word
  operation_links free op.Add st = binary_links sum_of
  operation_links free op.Subtract st = binary_links difference_of
  operation_links free op.Multiply st = binary_links product_of
  operation_links free op.Divide st = binary_links quotient_of
  operation_links free op.Modulo st = binary_links modulus_of
  operation_links free op.Remainder st = binary_links remainder_of
  operation_links free op.Equal st = binary_links (relation are_equal)
  operation_links free op.NotEqual st = binary_links (relation are_different)
  operation_links free op.Less st = binary_links (relation int_lt)
  operation_links free op.LessOrEqual st = binary_links (relation int_le)
  operation_links free op.Greater st = binary_links (relation is_greater)
  operation_links free op.GreaterOrEqual st = binary_links (relation is_greater_or_equal)
  operation_links free op.And st = binary_links (bitwise (int_bit_and w64))
  operation_links free op.Or st = binary_links (bitwise (int_bit_or w64))
  operation_links free op.ExclusiveOr st = binary_links (bitwise (int_bit_xor w64))
  operation_links free op.CheckRange st = three_links f.stack _ (λ x y z rest. gives_links _ rest)
  operation_links free (op.Jump a) st = to_links a f.stack
  operation_links free (op.JumpIfZero a) st = one_links f.stack _ (λ x rest. to_links _ rest)
  operation_links free (op.JumpIfNotZero a) st = one_links f.stack _ (λ x rest. to_links _ rest)
  operation_links free (op.Call n) st = call_links n st (called i n) refl
  operation_links free (op.ProtectedCall n) st = protected_call_links n (called i n) refl
  operation_links free (op.EntryCall o) st = entry_call_links free o st (entry_of (slice_get i.objects o)) refl
  operation_links free op.Return st = returns_links
  operation_links free op.Raise st = one_links f.stack _ (λ x rest. raises_number_links _)
  operation_links free op.CheckBlocking st = unless_inside_links _ (λ e. to_links _ f.stack)
  operation_links free op.DelayUntil st =
      one_links f.stack _ (λ x rest. unless_inside_links _ (λ e. record { actions = sym acts; may = may; passed = e; held = unchanged i k t m; owes = tt }))
  operation_links free (op.PutLine a) st = one_links f.stack _ (λ x rest. record { actions = sym acts; may = may; passed = tt; held = unchanged i k t m; owes = tt })
  operation_links free op.ReadInput st = one_links f.stack _ (λ x rest. gives_links _ rest)
  operation_links free op.Clock st = to_links _ (k.now ∷ f.stack)

module _ (i : Sections) (w : IsWellFormed i) (free : EntryOpens) (schedule : List ScheduleLine) (k : Kernel) (t : ℕ) (m : Words) where
  instruction_links : (f : Frame) (fs : List Frame) → frames_counted (is_task k.partition t) fs ≤ FRAMES → AreBelow i (is_task k.partition t) f.role f.subprogram fs → MayRun (is_task k.partition t) fs → (g : IsGoing i f) → k.actions t ≡ actions_of i (f ∷ fs) → MayWrite i (f ∷ fs) → (x : Option Instr) → slice_get i.instructions f.place ≡ x → Links i k t m (steps.does_instruction i schedule k t m f fs x)
  instruction_links f fs few below go g acts may None is = record { actions = sym acts; may = may; passed = tt; held = unchanged i k t m; owes = tt }
  instruction_links f fs few below go g acts may (Some x) is =
      let e : x ≡ g.x = same_Some _ _ (sym is ∙ g.stands.instruction) in
      let st = g.stands in
      operation_links i w schedule k t m f fs few below go g.s x.depth (g.depth ∙ ap (λ v. v.depth) (sym e)) acts may free x.operation (subst (Stands i f g.s) (sym e) st)

  pub act_links : (f : Frame) (fs : List Frame) (x : Option ℕ) → IsSound i (is_task k.partition t) (record { frame = f; callers = fs; raising = x }) → k.actions t ≡ actions_of i (f ∷ fs) → MayWrite i (f ∷ fs) → Links i k t m (steps.does_or_raises i schedule k t m f fs x)
  act_links f fs None s acts may = instruction_links f fs s.few s.below s.may s.running acts may (slice_get i.instructions f.place) refl
  act_links f fs (Some x) s acts may = unwind_links i k t m x fs f s.few acts may
