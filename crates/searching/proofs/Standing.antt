-- Where a search stands in the run of an image's code, and what its answers then say of the whole run.
use Rattle.std.proofs.Common.{◌≡◌, ◌⊎◌, ℕ, zero, suc, ◌+◌, ◌-◌, ◌*◌, ◌<◌, ◌≤◌, ℤ, List, [], ◌∷◌, ◌++◌, Option, Some, None, Bool, true, false, refl, sym, ap, subst, ◌∙◌, inl, inr, ⊎_elim, arith, append_assoc, rules}
use Rattle.std.specs.Prelude.{int_le, ◌≤ℤ◌, ◌<ℤ◌, ◌+ℤ◌, ◌-ℤ◌, pos, negsuc}
use Rattle.std.proofs.lemmas.Int.{ints}
use Rattle.std.proofs.Math.Nat.{suc-mul}
use Rattle.std.proofs.lemmas.Nat.{mul-le}
use Rattle.base.specs.Schedule.{is_schedule}
use Rattle.base.specs.declared.schedule.ScheduleLine.{ScheduleLine}
use Rattle.kernel.specs.State as kernel
use Rattle.kernel.specs.State.{Kernel, Line}
use Rattle.kernel.specs.Effects.{activated, blank}
use Rattle.kernel.specs.Laws.{LeftUnmoved}
use Rattle.kernel.specs.RunLaws.{run_plus}
use Rattle.kernel.specs.Worlds.{among, run}
use Rattle.image.specs.Attachments.{handling_object, interrupts}
use Rattle.image.specs.Sections.{Sections}
use Rattle.image.specs.Code.{CodeWorld, code, partition_of, start}
use Rattle.image.specs.Steps.{behaviour}
use Rattle.image_laws.specs.Laws.{OutcomeStays}
use Rattle.tasking.specs.Held.{kernel_of, outcome_of, some_outcome}
use Rattle.tasking.specs.declared.reports.Outcome.{Outcome as End}
use Rattle.execution.specs.Held.{HeldWorld, Leads, line_of, lines_of, world_of, world_with}
use Rattle.execution.specs.declared.line.Line.{Line as HeldLine}
use Rattle.searching.specs.Following.{Since, Standing}
use Rattle.searching.specs.Judging.{AreSame, FoundLine, JudgedOutcome, ShownBy}
use Rattle.searching.specs.Searches.{AnswersRun, ComesTo, IsFollowedOn, NeverComes, kernels}
use Rattle.searching.specs.Sights.{HasLine, IsWanted, ShowsSight, Sighting, Stopped, Waiting, Written, sight_of}
use Rattle.searching.specs.declared.one.Answer.{Answer}
use Rattle.searching.specs.declared.one.Answer.TheVariants as answers
use Rattle.searching.specs.declared.sight.Finding.TheVariants as findings
use Rattle.searching.specs.declared.sight.Wanted.{Wanted}
use Rattle.likeness.proofs.Late.{AreFrom, Late, run_late}
use Rattle.likeness.proofs.Onward.{IsAhead, Onward, begins_ahead, le_both, run_onward}

pub le_of : (a b : ℤ) → int_le a b ≡ true → a ≤ℤ b
le_of a b h = grind (arith, ints)

is_le : (a b : ℤ) → a ≤ℤ b → int_le a b ≡ true
is_le a b h = grind (arith, ints)

never : (a b : ℤ) → a <ℤ b → b ≤ℤ a → ⊥
never a b h i = grind (arith, ints)

lt_through : (a b c : ℤ) → a <ℤ b → b ≤ℤ c → a <ℤ c
lt_through a b c h i = grind (arith, ints)

pub past_of : (a b : ℤ) → int_le a b ≡ false → b <ℤ a
past_of a b h = grind (arith, ints)

pub found_by : (b : Bool) (i : Sections) (wanted : Wanted) (until : ℤ) (line : Line) (label : List ℕ) → AreSame b line.label label
    → ((line.label ≡ label → IsWanted wanted (Written line)) × (IsWanted wanted (Written line) → line.label ≡ label)) → line.time ≤ℤ until
    → FoundLine b i wanted until line
found_by true i wanted until line label same is le = (is.0 same, le)
found_by false i wanted until line label same is le = λ wants before. same (is.1 wants)

-- ---- lines among others

has_nothing : (line : Line) → HasLine [] line → ⊥
has_nothing line ([], behind, e) = absurd cc
has_nothing line (x ∷ before, behind, e) = absurd cc

-- a line of two lists is one of the first, or one of the second
pub parted : (xs ys : List Line) (line : Line) → HasLine (xs ++ ys) line → HasLine xs line ⊎ HasLine ys line
parted [] ys line h = inr h
parted (x ∷ xs) ys line ([], behind, e) =
    let same : x ≡ line = search (rules, e) in inl ([], xs, ap (λ l. l ∷ xs) same)
parted (x ∷ xs) ys line (b ∷ before, behind, e) = by (parted xs ys line (before, behind, search (rules, e)))
  where
    by : HasLine xs line ⊎ HasLine ys line → HasLine (x ∷ xs) line ⊎ HasLine ys line
    by (inl h) = inl (x ∷ h.0, h.1, ap (λ l. x ∷ l) h.2)
    by (inr h) = inr h

one_of : (x line : Line) → HasLine (x ∷ []) line → x ≡ line
one_of x line ([], behind, e) = search (rules, e)
one_of x line (b ∷ [], behind, e) = absurd cc
one_of x line (b ∷ c ∷ before, behind, e) = absurd cc

late_one : (time : ℤ) (lines : List Line) (line : Line) → AreFrom time lines → HasLine lines line → int_le time line.time ≡ true
late_one time [] line from h = absurd (has_nothing line h)
late_one time (x ∷ lines) line from ([], behind, e) =
    let same : x ≡ line = search (rules, e) in subst (λ l. int_le time l.time ≡ true) same from.0
late_one time (x ∷ lines) line from (b ∷ before, behind, e) = late_one time lines line from.1 (before, behind, search (rules, e))

add_comm : (n m : ℕ) → n + m ≡ m + n
add_comm n m = omega arith

module _ (unmoved : LeftUnmoved) (stays : OutcomeStays) (i : Sections) (schedule : List ScheduleLine) (lawful : is_schedule schedule ≡ true) where
  abbrev k : ℕ → Kernel
  k n = (code i schedule n).kernel

  ahead_at : (n : ℕ) → IsAhead (k n)
  ahead_at n =
      (run_onward (among (behaviour i schedule)) n (start i schedule) (begins_ahead (partition_of i) (handling_object i) schedule lawful)).ahead

  pub onward : (n m : ℕ) → Onward (k n) (k (n + m))
  onward n m =
      let f = among (behaviour i schedule) in
      subst (λ w. Onward (k n) w.kernel) (sym (run_plus f n m (start i schedule))) (run_onward f m (code i schedule n) (ahead_at n))

  late : (n m : ℕ) → Late (k n) (k (n + m))
  late n m =
      let f = among (behaviour i schedule) in
      subst (λ w. Late (k n) w.kernel) (sym (run_plus f n m (start i schedule))) (run_late unmoved f m (code i schedule n) (ahead_at n))

  pub swap : (n m : ℕ) → code i schedule (n + m) ≡ code i schedule (m + n)
  swap n m = ap (code i schedule) (add_comm n m)

  -- a line of a world is one of each later world
  pub has_later : (m n : ℕ) (line : Line) → HasLine (k m).lines line → HasLine (k (m + n)).lines line
  has_later m n line h =
      let l = late m n in
      (h.0, h.1 ++ l.more, l.grown ∙ (ap (λ x. x ++ l.more) h.2 ∙ append_assoc h.0 (line ∷ h.1) l.more))

  -- so far no line was written that is wanted
  abbrev pub NoLine : (until : ℤ) → Wanted → ℕ → Type 0
  NoLine until wanted n = (line : Line) → HasLine (k n).lines line → IsWanted wanted (Written line) → line.time ≤ℤ until → ⊥

  module _ (until : ℤ) (wanted : Wanted) (n : ℕ) (none : NoLine until wanted n) where
    -- the clock has passed the end
    module _ (passed : until <ℤ (k n).now) where
      ended_late : (m : ℕ) (o : kernel.Outcome) (time : ℤ) → (k m).outcome ≡ Some o → (k m).now ≡ time → time ≤ℤ until → ⊥
      ended_late m o time is at le =
          let same : (k (n + m)).now ≡ time = ap (λ (w : CodeWorld). w.kernel.now) (swap n m ∙ stays i schedule m n o is) ∙ at in
          never until time (lt_through until (k n).now time passed (le_of (k n).now time (subst (λ z. int_le (k n).now z ≡ true) same (onward n m).now))) le

      line_late : (m : ℕ) (line : Line) → HasLine (k m).lines line → IsWanted wanted (Written line) → line.time ≤ℤ until → ⊥
      line_late m line h wants le =
          let l = late n m in
          let there : HasLine (k (n + m)).lines line = subst (λ w. HasLine w.kernel.lines line) (sym (swap n m)) (has_later m n line h) in
          ⊎_elim
          (λ early. none line early wants le)
          (λ later. never until line.time (lt_through until (k n).now line.time passed (le_of (k n).now line.time (late_one (k n).now l.more line l.from later))) le)
          (parted (k n).lines l.more line (subst (λ x. HasLine x line) l.grown there))

      never_late : (sight : Sighting) → IsWanted wanted sight → ComesTo until sight (kernels i schedule) → ⊥
      never_late (Stopped x t time) wants c = ended_late c.steps (kernel.Unhandled x t) time c.shows.0 c.shows.1 c.shows.2
      never_late (Waiting time) wants c = ended_late c.steps kernel.WaitsForever time c.shows.0 c.shows.1 c.shows.2
      never_late (Written line) wants c = line_late c.steps line c.shows.0 wants c.shows.1

      pub passed_answer : (limit : ℕ) → AnswersRun i schedule until limit wanted answers.Nothing
      passed_answer limit = (never_late, record { steps = n; over = inl passed })

    -- it has come to an outcome
    module _ (o : kernel.Outcome) (is : (k n).outcome ≡ Some o) where
      same_world : (m : ℕ) (p : kernel.Outcome) → (k m).outcome ≡ Some p → code i schedule n ≡ code i schedule m
      same_world m p at = sym (stays i schedule n m o is) ∙ swap n m ∙ stays i schedule m n p at

      shown_there : (m : ℕ) (p : kernel.Outcome) (time : ℤ) → (k m).outcome ≡ Some p → (k m).now ≡ time → (o ≡ p) × (time ≡ (k n).now)
      shown_there m p time at now =
          let e = same_world m p at in
          let same : Some o ≡ Some p = sym is ∙ (ap (λ (w : CodeWorld). w.kernel.outcome) e ∙ at) in
          (search (rules, same), sym now ∙ sym (ap (λ (w : CodeWorld). w.kernel.now) e))

      line_over : (m : ℕ) (line : Line) → HasLine (k m).lines line → IsWanted wanted (Written line) → line.time ≤ℤ until → ⊥
      line_over m line h wants le =
          none line (subst (λ w. HasLine w.kernel.lines line) (sym (swap n m) ∙ stays i schedule n m o is) (has_later m n line h)) wants le

      module _ (unwanted : (sight : Sighting) → IsWanted wanted sight → ShownBy o (k n).now sight → ⊥) where
        never_over : (sight : Sighting) → IsWanted wanted sight → ComesTo until sight (kernels i schedule) → ⊥
        never_over (Stopped x t time) wants c =
            unwanted (Stopped x t time) wants (shown_there c.steps (kernel.Unhandled x t) time c.shows.0 c.shows.1)
        never_over (Waiting time) wants c = unwanted (Waiting time) wants (shown_there c.steps kernel.WaitsForever time c.shows.0 c.shows.1)
        never_over (Written line) wants c = line_over c.steps line c.shows.0 wants c.shows.1

        over_answer : NeverComes until wanted (kernels i schedule) × IsFollowedOn until (kernels i schedule)
        over_answer = (never_over, record { steps = n; over = inr (o, is) })

      shows_here : (sight : Sighting) → (k n).now ≤ℤ until → ShownBy o (k n).now sight → ShowsSight until sight (k n)
      shows_here (Stopped x t time) le s = (is ∙ ap Some s.0, sym s.1, subst (λ z. z ≤ℤ until) (sym s.1) le)
      shows_here (Waiting time) le s = (is ∙ ap Some s.0, sym s.1, subst (λ z. z ≤ℤ until) (sym s.1) le)
      shows_here (Written line) le s = absurd s

      -- the answer by what the outcome is judged to be
      pub judged_answer : (limit : ℕ) (end : End) (answer : Answer) → outcome_of end ≡ o → (k n).now ≤ℤ until → JudgedOutcome wanted end (k n).now answer
          → AnswersRun i schedule until limit wanted answer
      judged_answer limit end (answers.Found finding) e le j =
          let x = j i in
          (x.0, record { steps = n; shows = shows_here (sight_of i finding) le (subst (λ p. ShownBy p (k n).now (sight_of i finding)) e x.1) })
      judged_answer limit end answers.Nothing e le j =
          over_answer (λ sight wants shown. j sight wants (subst (λ p. ShownBy p (k n).now sight) (sym e) shown))
      judged_answer limit end (answers.TooLong at) e le j = absurd j

-- ---- the loop

activated_lines : (n : ℕ) (k : Kernel) → (activated n k).lines ≡ k.lines
activated_lines zero k = refl
activated_lines (suc n) k = activated_lines n k

pub begins_without : LeftUnmoved → (i : Sections) (schedule : List ScheduleLine) → (start i schedule).kernel.lines ≡ []
begins_without unmoved i schedule =
    let p = partition_of i in
    let begins = blank p (interrupts i schedule) in
    (unmoved (activated p.tasks begins)).lines ∙ activated_lines p.tasks begins

pub stands_first : LeftUnmoved → (until : ℤ) (limit : ℕ) (wanted : Wanted) (h : HeldWorld) (now : ℤ) → world_of h ≡ start h.image h.schedule
    → now ≡ (kernel_of h.tasking).now → Standing h.image h.schedule until limit wanted h now limit
stands_first unmoved until limit wanted h now is at =
    let none = begins_without unmoved h.image h.schedule in
    record {
      n = 0;
      image = refl;
      schedule_is = refl;
      stands = sym is ∙ ap (λ l. world_with l h) (sym none);
      now_is = at;
      none = λ line has wants le. has_nothing line (subst (λ l. HasLine l line) none has);
      since = record { first = 0; at = omega arith; few = omega arith; same = sym (ap (λ (w : CodeWorld). w.kernel.now) is) ∙ sym at };
    }

module _ (i : Sections) (schedule : List ScheduleLine) (until : ℤ) (limit : ℕ) (wanted : Wanted) (h : HeldWorld) (now : ℤ) (left : ℕ)
    (s : Standing i schedule until limit wanted h now left) where
  now_here : (kernels i schedule s.n).now ≡ now
  now_here = ap (λ (w : CodeWorld). w.kernel.now) s.stands ∙ sym s.now_is

  outcome_here : (end : Option End) → some_outcome end ≡ (kernel_of h.tasking).outcome → (kernels i schedule s.n).outcome ≡ some_outcome end
  outcome_here end is = ap (λ (w : CodeWorld). w.kernel.outcome) s.stands ∙ sym is

  pub answer_past : LeftUnmoved → OutcomeStays → is_schedule schedule ≡ true → until <ℤ now → AnswersRun i schedule until limit wanted answers.Nothing
  answer_past unmoved stays lawful past =
      passed_answer unmoved stays i schedule lawful until wanted s.n s.none (subst (λ z. until <ℤ z) (sym now_here) past) limit

  pub answer_over : LeftUnmoved → OutcomeStays → is_schedule schedule ≡ true → now ≤ℤ until → (end : End) (answer : Answer)
      → some_outcome (Some end) ≡ (kernel_of h.tasking).outcome → JudgedOutcome wanted end now answer → AnswersRun i schedule until limit wanted answer
  answer_over unmoved stays lawful le end answer is j =
      judged_answer unmoved stays i schedule lawful until wanted s.n s.none (outcome_of end) (outcome_here (Some end) is) limit end answer refl
      (subst (λ z. z ≤ℤ until) (sym now_here) le) (subst (λ z. JudgedOutcome wanted end z answer) (sym now_here) j)

  pub answer_long : now ≤ℤ until → None ≡ (kernel_of h.tasking).outcome → left ≡ 0 → AnswersRun i schedule until limit wanted (answers.TooLong now)
  answer_long le is none =
      let x = s.since in
      let at : x.first + limit ≡ s.n = omega (arith, none, x.at) in
      record {
        steps = x.first;
        before = x.same;
        after = ap (λ m. (kernels i schedule m).now) at ∙ now_here;
        goes_on = ap (λ m. (kernels i schedule m).outcome) at ∙ outcome_here None is;
        within = le;
      }

  module _ (next : HeldWorld) (line : Option HeldLine) (leads : Leads 1 h next (lines_of h.image line)) where
    world_next : code i schedule (s.n + 1) ≡ world_with ((kernels i schedule s.n).lines ++ lines_of i line) next
    world_next =
        let f = among (behaviour i schedule) in
        let lines = (kernels i schedule s.n).lines in
        let l : (run (among (behaviour i schedule)) 1 (world_with lines h) ≡ world_with (lines ++ lines_of i line) next) =
        subst (λ x. run (among (behaviour i x)) 1 (world_with lines h) ≡ world_with (lines ++ lines_of i line) next) s.schedule_is
        (subst (λ j. run (among (behaviour j h.schedule)) 1 (world_with lines h) ≡ world_with (lines ++ lines_of j line) next) s.image (leads.world lines)) in
        run_plus f s.n 1 (start i schedule) ∙ (ap (run f 1) s.stands ∙ l)

    lines_next : (kernels i schedule (s.n + 1)).lines ≡ (kernels i schedule s.n).lines ++ lines_of i line
    lines_next = ap (λ (w : CodeWorld). w.kernel.lines) world_next

    pub answer_line : (l : HeldLine) → line ≡ Some l → FoundLine true next.image wanted until (line_of next.image l)
        → AnswersRun i schedule until limit wanted (answers.Found (findings.Line l))
    answer_line l is found =
        let here = subst (λ j. FoundLine true j wanted until (line_of j l)) (leads.image ∙ s.image) found in (
          here.0,
          record {
            steps = s.n + 1;
            shows = (((kernels i schedule s.n).lines, [], lines_next ∙ ap (λ x. (kernels i schedule s.n).lines ++ lines_of i x) is), here.1);
          },
        )

    module _ (unwanted : (l : HeldLine) → line ≡ Some l → FoundLine false next.image wanted until (line_of next.image l)) where
      none_told : (o : Option HeldLine) → line ≡ o → (x : Line) → HasLine (lines_of i o) x → IsWanted wanted (Written x) → x.time ≤ℤ until → ⊥
      none_told None is x has wants le = has_nothing x has
      none_told (Some l) is x has wants le =
          let same = one_of (line_of i l) x has in
          let not = subst (λ j. FoundLine false j wanted until (line_of j l)) (leads.image ∙ s.image) (unwanted l is) in
          not (subst (λ y. IsWanted wanted (Written y)) (sym same) wants) (subst (λ y. y.time ≤ℤ until) (sym same) le)

      none_next : (x : Line) → HasLine (kernels i schedule (s.n + 1)).lines x → IsWanted wanted (Written x) → x.time ≤ℤ until → ⊥
      none_next x has wants le =
          ⊎_elim (λ early. s.none x early wants le) (λ told. none_told line refl x told wants le)
          (parted (kernels i schedule s.n).lines (lines_of i line) x (subst (λ l. HasLine l x) lines_next has))

      next_by : (later : ℤ) (rest : ℕ) → later ≡ (kernel_of next.tasking).now → Since i schedule limit (s.n + 1) later rest
          → Standing i schedule until limit wanted next later rest
      next_by later rest is since = record {
        n = s.n + 1;
        image = leads.image ∙ s.image;
        schedule_is = leads.schedule ∙ s.schedule_is;
        stands = world_next ∙ ap (λ l. world_with l next) (sym (ap (λ (w : CodeWorld). w.kernel.lines) world_next));
        now_is = is;
        none = none_next;
        since = since;
      }

      -- at the same time, or at another one
      pub stands_next : (later : ℤ) (rest : ℕ) → later ≡ (kernel_of next.tasking).now → 0 < left
          → ((later ≡ now) × (rest ≡ left - 1)) ⊎ (rest ≡ limit) → Standing i schedule until limit wanted next later rest
      stands_next later rest is some (inl same) =
          let x = s.since in
          next_by later rest is (record {
            first = x.first;
            at = (let a = x.at in let b = x.few in let c = same.1 in omega (arith, a, b, c, some));
            few = (let b = x.few in let c = same.1 in omega (arith, b, c));
            same = x.same ∙ sym same.0;
          })
      stands_next later rest is some (inr all) =
          next_by later rest is (record {
            first = s.n + 1;
            at = omega (arith, all);
            few = omega (arith, all);
            same = ap (λ (w : CodeWorld). w.kernel.now) world_next ∙ sym is;
          })

  -- the clock doesn't go back
  pub not_back : (unmoved : LeftUnmoved) (lawful : is_schedule schedule ≡ true) (stays : OutcomeStays) (next : HeldWorld) (line : Option HeldLine)
      → Leads 1 h next (lines_of h.image line) → (later : ℤ) → later ≡ (kernel_of next.tasking).now → now ≤ℤ later
  not_back unmoved lawful stays next line leads later is =
      let on = onward unmoved stays i schedule lawful s.n 1 in
      let there : (kernels i schedule (s.n + 1)).now ≡ later = ap (λ (w : CodeWorld). w.kernel.now) (world_next next line leads) ∙ sym is in
      le_of now later (subst (λ z. int_le now z ≡ true) there (subst (λ z. int_le z (kernels i schedule (s.n + 1)).now ≡ true) now_here on.now))

-- ---- the measure: so many times are left, each with the steps of the limit

abbrev pub natural : ℤ → ℕ
natural (pos n) = n
natural (negsuc n) = 0

abbrev pub times_left : (until now : ℤ) → ℕ
times_left until now = natural ((until +ℤ pos 1) -ℤ now)

abbrev pub work_left : (until : ℤ) (limit : ℕ) (now : ℤ) (left : ℕ) → ℕ
work_left until limit now left = times_left until now * suc limit + left

natural_up : (a b : ℤ) → a ≤ℤ b → natural a ≤ natural b
natural_up a b h = grind (arith, ints)

natural_less : (a b : ℤ) → a <ℤ b → pos 0 <ℤ b → natural a < natural b
natural_less a b h i = grind (arith, ints)

less_in : (a b c d l : ℕ) → suc a * l ≤ b * l → c < l + d → a * l + c < b * l + d
less_in a b c d l h i = let e = suc-mul a l in omega (arith, e, h, i)

pub less_later : (until now later : ℤ) (limit left rest : ℕ) → now ≤ℤ until → now <ℤ later → rest ≡ limit → 0 < left
    → work_left until limit later rest < work_left until limit now left
less_later until now later limit left rest le less all some =
    let up = natural_less ((until +ℤ pos 1) -ℤ later) ((until +ℤ pos 1) -ℤ now) (shift less) (room le) in
    less_in (times_left until later) (times_left until now) rest left (suc limit)
    (mul-le (suc (times_left until later)) (suc limit) (times_left until now) (suc limit) (omega (arith, up)) (omega arith)) (omega (arith, all))
  where
    shift : now <ℤ later → ((until +ℤ pos 1) -ℤ later) <ℤ ((until +ℤ pos 1) -ℤ now)
    shift h = omega (arith, ints)

    room : now ≤ℤ until → pos 0 <ℤ ((until +ℤ pos 1) -ℤ now)
    room h = omega (arith, ints)

pub less_same : (until now later : ℤ) (limit left rest : ℕ) → later ≡ now → rest ≡ left - 1 → 0 < left
    → work_left until limit later rest < work_left until limit now left
less_same until now later limit left rest e f some =
    subst (λ z. work_left until limit z rest < work_left until limit now left) (sym e) (omega (arith, f, some))

le_itself : (a : ℤ) → a ≤ℤ a
le_itself a = grind (arith, ints)

-- the clock has stayed, or moved on
pub behind_cases : (now later : ℤ) (left limit rest : ℕ) → now ≤ℤ later → (later ≡ now → rest ≡ left - 1) → ((later ≡ now → ⊥) → rest ≡ limit)
    → ((later ≡ now) × (rest ≡ left - 1)) ⊎ ((now <ℤ later) × (rest ≡ limit))
behind_cases now later left limit rest on same moved = by (int_le later now) refl
  where
    by : (b : Bool) → int_le later now ≡ b → ((later ≡ now) × (rest ≡ left - 1)) ⊎ ((now <ℤ later) × (rest ≡ limit))
    by true e = let here : later ≡ now = le_both later now e (is_le now later on) in inl (here, same here)
    by false e = let far = past_of later now e in inr (far, moved (λ h. never now later far (subst (λ z. later ≤ℤ z) h (le_itself later))))
