-- Runs: what has been written, and what is still to come.
use Rattle.std.proofs.Common.{◌≡◌, ◌⊎◌, ℕ, zero, suc, ◌≤◌, ⊎_elim, ◌+◌, ◌-◌, List, [], ◌∷◌, ◌++◌, length, take, Option, Some, None, refl, sym, ap, subst, ◌∙◌, arith, append_assoc, append-nil, length-append}
use Rattle.std.proofs.Math.Seq.{take-append-add, take-length}
use Rattle.std.proofs.lemmas.List.{take-append-le}
use Rattle.std.specs.Io.KnownBytes.{Appends}
use Rattle.base.specs.declared.schedule.ScheduleLine.{ScheduleLine}
use Rattle.kernel.specs.State as kernel
use Rattle.kernel.specs.Text.{Names, line_text, lines_text}
use Rattle.image.specs.Attachments.{interrupts}
use Rattle.image.specs.Sections.{Sections}
use Rattle.image.specs.Code.{CodeWorld, code, partition_of, start}
use Rattle.image_laws.specs.Laws.{LinesGrowOn, OutcomeStays}
use Rattle.image.specs.Texts.{names_of}
use Rattle.kernel.specs.Effects.{activated, blank}
use Rattle.kernel.specs.Laws.{LeftUnmoved}
use Rattle.kernel.specs.RunLaws.{run_plus}
use Rattle.kernel.specs.Worlds.{among, run}
use Rattle.image.specs.Steps.{behaviour}
use Rattle.execution.specs.Held.{HeldWorld, Leads, line_of, world_of, world_with}
use Rattle.machine.specs.Bounds.{bounded_text, cut_line}
use Rattle.machine.specs.Outcomes.{ending_of, time_of}
use Rattle.machine.specs.Stands.{EndsBy, HoldsWorld}
use Rattle.machine.specs.Written.{AppendsBeginning}
use Rattle.execution.specs.declared.line.Line.{Line}
use Rattle.machine.specs.declared.bound.Bound.{Bound}
use Rattle.machine.specs.declared.reports.Outcome.{Outcome}

-- known bytes grow by one piece and then by another
pub appends_two : (a b c : Option (List ℕ)) (xs ys : List ℕ) → Appends a b xs → Appends b c ys → Appends a c (xs ++ ys)
appends_two None b c xs ys p q = tt
appends_two (Some x) None c xs ys p q = absurd p
appends_two (Some x) (Some y) None xs ys p q = absurd q
appends_two (Some x) (Some y) (Some z) xs ys p q = q ∙ ap (λ v. v ++ ys) p ∙ append_assoc x xs ys

pub appends_nothing : (a : Option (List ℕ)) → Appends a a []
appends_nothing None = tt
appends_nothing (Some x) = sym (append-nil x)

-- a beginning of a longer text
pub beginning_of_more : (a b : Option (List ℕ)) (xs more : List ℕ) → AppendsBeginning a b xs → AppendsBeginning a b (xs ++ more)
beginning_of_more a b xs more p =
    (p.0, omega (arith, p.1, length-append xs more), subst (Appends a b) (sym (take-append-le p.0 xs more p.1)) p.2)

-- a text, and a beginning of what comes after it
pub beginning_after : (a b c : Option (List ℕ)) (xs ys : List ℕ) → Appends a b xs → AppendsBeginning b c ys → AppendsBeginning a c (xs ++ ys)
beginning_after a b c xs ys p q = (
  length xs + q.0,
  omega (arith, q.1, length-append xs ys),
  subst (Appends a c) (sym (take-append-add xs ys q.0)) (appends_two a b c xs (take q.0 ys) p q.2),
)

pub whole_beginning : (a b : Option (List ℕ)) (xs : List ℕ) → Appends a b xs → AppendsBeginning a b xs
whole_beginning a b xs p = (length xs, omega arith, subst (Appends a b) (sym (take-length xs)) p)

-- nothing is a beginning of each text
pub nothing_written : (a : Option (List ℕ)) (text : List ℕ) → AppendsBeginning a a text
nothing_written a text = beginning_of_more a a [] text (whole_beginning a a [] (appends_nothing a))

-- the text of lines, one more
pub lines_text-append : (names : Names) (xs ys : List kernel.Line) → lines_text names (xs ++ ys) ≡ lines_text names xs ++ lines_text names ys
lines_text-append names [] ys = refl
lines_text-append names (x ∷ xs) ys =
    ap (λ v. line_text names x ++ v) (lines_text-append names xs ys) ∙ sym (append_assoc (line_text names x) (lines_text names xs) (lines_text names ys))

-- a run begins without lines
activated_lines : (n : ℕ) (k : kernel.Kernel) → (activated n k).lines ≡ k.lines
activated_lines zero k = refl
activated_lines (suc n) k = activated_lines n k

pub starts_without_lines : LeftUnmoved → (i : Sections) (schedule : List ScheduleLine) → (start i schedule).kernel.lines ≡ []
starts_without_lines unmoved i schedule =
    let p = partition_of i in
    let begins = blank p (interrupts i schedule) in
    (unmoved (activated p.tasks begins)).lines ∙ activated_lines p.tasks begins

pub stands_start : LeftUnmoved → (i : Sections) (schedule : List ScheduleLine) (h : HeldWorld) → world_of h ≡ start i schedule → HoldsWorld h (code i schedule 0)
stands_start unmoved i schedule h is = sym is ∙ ap (λ l. world_with l h) (sym (starts_without_lines unmoved i schedule))

-- steps that lead on from a world that the machine stands for
pub led_on : (h next : HeldWorld) (n k : ℕ) (told : List kernel.Line) → HoldsWorld h (code h.image h.schedule n) → Leads k h next told → code h.image h.schedule (n + k) ≡ world_with ((code h.image h.schedule n).kernel.lines ++ told) next
led_on h next n k told stands l =
    let f = among (behaviour h.image h.schedule) in
    run_plus f n k (start h.image h.schedule) ∙ (ap (run f k) stands ∙ l.world (code h.image h.schedule n).kernel.lines)

-- a world that is so, and the lines of it
pub stands_by : (h : HeldWorld) (w : CodeWorld) (lines : List kernel.Line) → w ≡ world_with lines h → HoldsWorld h w
stands_by h w lines is = is ∙ ap (λ l. world_with l h) (sym (ap (λ v. v.kernel.lines) is))

-- after n steps: the machine stands for the world, and its lines are written
pub record Ran (i : Sections) (schedule : List ScheduleLine) (n : ℕ) (h : HeldWorld) (old new : Option (List ℕ)) (before after : ℕ) : Type 0 where
  pub image : h.image ≡ i
  pub schedule_is : h.schedule ≡ schedule
  pub stands : HoldsWorld h (code i schedule n)
  pub written : Appends old new (lines_text (names_of i) (code i schedule n).kernel.lines)
  pub kept : after ≡ before

pub ran_nothing : LeftUnmoved → (h : HeldWorld) (old : Option (List ℕ)) (before : ℕ) → HoldsWorld h (code h.image h.schedule 0) → Ran h.image h.schedule 0 h old old before before
ran_nothing unmoved h old before stands =
    record {
      image = refl;
      schedule_is = refl;
      stands = stands;
      written = subst (λ l. Appends old old (lines_text (names_of h.image) l)) (sym (starts_without_lines unmoved h.image h.schedule)) (appends_nothing old);
      kept = refl;
    }

module _ (i : Sections) (schedule : List ScheduleLine) (n : ℕ) (h next : HeldWorld) (old new : Option (List ℕ)) (before after : ℕ) (r : Ran i schedule n h old new before after) where
  leads_to : (k : ℕ) (told : List kernel.Line) → Leads k h next told → code i schedule (n + k) ≡ world_with ((code i schedule n).kernel.lines ++ told) next
  leads_to k told l =
      subst (λ s. code i s (n + k) ≡ world_with ((code i s n).kernel.lines ++ told) next) r.schedule_is
      (subst (λ j. code j h.schedule (n + k) ≡ world_with ((code j h.schedule n).kernel.lines ++ told) next) r.image
      (led_on h next n k told (subst (λ j. HoldsWorld h (code j h.schedule n)) (sym r.image) (subst (λ s. HoldsWorld h (code i s n)) (sym r.schedule_is) r.stands)) l))

  pub ran_none : (k : ℕ) → Leads k h next [] → Ran i schedule (n + k) next old new before after
  ran_none k l =
      let e = leads_to k [] l in
      let lines : (code i schedule (n + k)).kernel.lines ≡ (code i schedule n).kernel.lines = ap (λ w. w.kernel.lines) e ∙ append-nil (code i schedule n).kernel.lines in
      record {
        image = l.image ∙ r.image;
        schedule_is = l.schedule ∙ r.schedule_is;
        stands = stands_by next (code i schedule (n + k)) _ e;
        written = subst (λ x. Appends old new (lines_text (names_of i) x)) (sym lines) r.written;
        kept = r.kept;
      }

  module _ (k : ℕ) (line : Line) (l : Leads k h next (line_of h.image line ∷ [])) (text : List ℕ) (is : text ≡ line_text (names_of next.image) (line_of next.image line)) where
    line_more : lines_text (names_of i) (code i schedule (n + k)).kernel.lines ≡ lines_text (names_of i) (code i schedule n).kernel.lines ++ text
    line_more =
        ap (λ w. lines_text (names_of i) w.kernel.lines) (leads_to k (line_of h.image line ∷ []) l)
        ∙ lines_text-append (names_of i) (code i schedule n).kernel.lines (line_of h.image line ∷ [])
        ∙ ap (λ v. lines_text (names_of i) (code i schedule n).kernel.lines ++ v)
        (append-nil (line_text (names_of i) (line_of h.image line))
        ∙ (ap (λ j. line_text (names_of i) (line_of j line)) r.image ∙ sym (subst (λ j. text ≡ line_text (names_of j) (line_of j line)) (l.image ∙ r.image) is)))

    pub ran_line : (later : Option (List ℕ)) (count : ℕ) → Appends new later text → count ≡ after → Ran i schedule (n + k) next old later before count
    ran_line later count app same =
        record {
          image = l.image ∙ r.image;
          schedule_is = l.schedule ∙ r.schedule_is;
          stands = stands_by next (code i schedule (n + k)) _ (leads_to k (line_of h.image line ∷ []) l);
          written = subst (Appends old later) (sym line_more) (appends_two old new later _ text r.written app);
          kept = same ∙ r.kept;
        }

    -- a line whose write failed: what is written is a beginning of what the run writes
    pub broken_line : LinesGrowOn → (limit : ℕ) → n + k ≤ limit → (later : Option (List ℕ)) → AppendsBeginning new later text → AppendsBeginning old later (lines_text (names_of i) (code i schedule limit).kernel.lines)
    broken_line grow limit le later part =
        let rest = grow i schedule (n + k) (limit - (n + k)) in
        let at : (n + k) + (limit - (n + k)) ≡ limit = omega (arith, le) in
        let more : (code i schedule limit).kernel.lines ≡ (code i schedule (n + k)).kernel.lines ++ rest.0 = subst (λ x. (code i schedule x).kernel.lines ≡ (code i schedule (n + k)).kernel.lines ++ rest.0) at rest.1 in
        let whole : lines_text (names_of i) (code i schedule limit).kernel.lines ≡ (lines_text (names_of i) (code i schedule n).kernel.lines ++ text) ++ lines_text (names_of i) rest.0 =
        ap (lines_text (names_of i)) more ∙ lines_text-append (names_of i) (code i schedule (n + k)).kernel.lines rest.0 ∙ ap (λ v. v ++ lines_text (names_of i) rest.0) line_more in
        subst (AppendsBeginning old later) (sym whole)
        (beginning_of_more old later _ (lines_text (names_of i) rest.0) (beginning_after old new later _ text r.written part))

-- the world of the outcome, or at the limit, is the world at the limit
pub record Over (i : Sections) (schedule : List ScheduleLine) (limit : ℕ) (o : Outcome) (old new : Option (List ℕ)) (before after : ℕ) : Type 0 where
  pub written : Appends old new (lines_text (names_of i) (code i schedule limit).kernel.lines)
  pub ends : EndsBy o (code i schedule limit)
  pub kept : after ≡ before

pub ran_over : OutcomeStays → (i : Sections) (schedule : List ScheduleLine) (n limit : ℕ) (h : HeldWorld) (old new : Option (List ℕ)) (before after : ℕ) → Ran i schedule n h old new before after → n ≤ limit →
    (n ≡ limit) ⊎ ((e : kernel.Outcome) × ((world_of h).kernel.outcome ≡ Some e)) → (o : Outcome) → EndsBy o (world_of h) → Over i schedule limit o old new before after
ran_over stays i schedule n limit h old new before after r le why o ends =
    let here : EndsBy o (code i schedule n) = record { outcome = ap (λ w. w.kernel.outcome) r.stands ∙ ends.outcome; time = ap (λ w. w.kernel.now) r.stands ∙ ends.time } in
    let same : code i schedule limit ≡ code i schedule n =
    ⊎_elim
    (λ (e : n ≡ limit). ap (λ x. code i schedule x) (sym e))
    (λ (q : (e : kernel.Outcome) × ((world_of h).kernel.outcome ≡ Some e)).
    let at : n + (limit - n) ≡ limit = omega (arith, le) in
    subst (λ x. code i schedule x ≡ code i schedule n) at (stays i schedule n (limit - n) q.0 (ap (λ w. w.kernel.outcome) r.stands ∙ q.1)))
    why in
    record {
      written = subst (λ w. Appends old new (lines_text (names_of i) w.kernel.lines)) (sym same) r.written;
      ends = subst (EndsBy o) (sym same) here;
      kept = r.kept;
    }

-- the whole text: the lines, and then the last line
module _ (j i : Sections) (given schedule : List ScheduleLine) (bound : Bound) (old middle new : Option (List ℕ)) (same : j ≡ i) (same_schedule : given ≡ schedule) where
  -- what holds of the code as it is held holds of that which was given
  of_code : (P : Sections → CodeWorld → Type 0) → P j (code j given bound.steps) → P i (code i schedule bound.steps)
  of_code P p = subst (λ k. P k (code k schedule bound.steps)) same (subst (λ s. P j (code j s bound.steps)) same_schedule p)

  pub part_of_lines : AppendsBeginning old new (lines_text (names_of j) (code j given bound.steps).kernel.lines) → AppendsBeginning old new (bounded_text i schedule bound)
  part_of_lines part =
      beginning_of_more old new (lines_text (names_of i) (code i schedule bound.steps).kernel.lines) (cut_line bound.cut (names_of i) (code i schedule bound.steps).kernel.outcome (code i schedule bound.steps).kernel.now)
      (of_code (λ k w. AppendsBeginning old new (lines_text (names_of k) w.kernel.lines)) part)

  module _ (o : Outcome) (last : List ℕ) (ends : EndsBy o (code j given bound.steps)) (is : last ≡ cut_line bound.cut (names_of i) (ending_of o) (time_of o)) (lines : Appends old middle (lines_text (names_of j) (code j given bound.steps).kernel.lines)) where
    last_is : last ≡ cut_line bound.cut (names_of i) (code i schedule bound.steps).kernel.outcome (code i schedule bound.steps).kernel.now
    last_is =
        let here : EndsBy o (code i schedule bound.steps) = of_code (λ k w. EndsBy o w) ends in
        is ∙ ap (λ q. cut_line bound.cut (names_of i) q (time_of o)) (sym here.outcome) ∙ ap (λ q. cut_line bound.cut (names_of i) (code i schedule bound.steps).kernel.outcome q) (sym here.time)

    lines_are : Appends old middle (lines_text (names_of i) (code i schedule bound.steps).kernel.lines)
    lines_are = of_code (λ k w. Appends old middle (lines_text (names_of k) w.kernel.lines)) lines

    pub whole_text : Appends middle new last → Appends old new (bounded_text i schedule bound)
    whole_text app =
        appends_two old middle new (lines_text (names_of i) (code i schedule bound.steps).kernel.lines) (cut_line bound.cut (names_of i) (code i schedule bound.steps).kernel.outcome (code i schedule bound.steps).kernel.now) lines_are
        (subst (Appends middle new) last_is app)

    pub part_of_text : AppendsBeginning middle new last → AppendsBeginning old new (bounded_text i schedule bound)
    part_of_text part =
        beginning_after old middle new (lines_text (names_of i) (code i schedule bound.steps).kernel.lines) (cut_line bound.cut (names_of i) (code i schedule bound.steps).kernel.outcome (code i schedule bound.steps).kernel.now) lines_are
        (subst (AppendsBeginning middle new) last_is part)
