-- Rows: their text, those of later steps, and the lines that they tell.
use Rattle.std.proofs.Common.{◌≡◌, ℕ, ℤ, zero, suc, ◌+◌, true, false, if◌then◌else◌, List, [], ◌∷◌, ◌++◌, Option, Some, None, drop, length, refl, sym, ap, subst, ◌∙◌, arith, append_assoc, append-nil}
use Rattle.std.proofs.Math.Seq.{drop-append_seam}
use Rattle.base.specs.declared.schedule.ScheduleLine.{ScheduleLine}
use Rattle.kernel.specs.State.{Kernel, Line, Outcome}
use Rattle.kernel.specs.RunLaws.{run_plus}
use Rattle.kernel.specs.Laws.{LeftUnmoved}
use Rattle.kernel.specs.Worlds.{Local, among, step, step_of}
use Rattle.image.specs.Code.{CodeWorld, code, start}
use Rattle.image.specs.Sections.{Sections}
use Rattle.image.specs.Steps.{behaviour}
use Rattle.image_laws.specs.Laws.{LinesGrowOn, OutcomeStays}
use Rattle.machine.proofs.Runs.{starts_without_lines}
use Rattle.tracing.specs.Calls.{CallTimes, call_times}
use Rattle.tracing.specs.Changes.{next_ahead, since_clock, starts, until_clock}
use Rattle.tracing.specs.declared.ahead.Ahead.{Ahead}
use Rattle.tracing.specs.Traces.{Comes, RowNames, TraceRow, came, has_come, line_of, lines_come, lines_told, row, row_text, rows, rows_of_step, rows_text, shown, wrote}
use Rattle.tracing.specs.declared.event.Event.{Event}

pub rows_text-append : (names : RowNames) (xs ys : List TraceRow) → rows_text names (xs ++ ys) ≡ rows_text names xs ++ rows_text names ys
rows_text-append names [] ys = refl
rows_text-append names (x ∷ xs) ys =
    ap (λ v. row_text names x ++ v) (rows_text-append names xs ys) ∙ sym (append_assoc (row_text names x) (rows_text names xs) (rows_text names ys))

-- the rows of the lines of a schedule to which the clock has come, by whether it has come to the first
module _ (names : RowNames) (step : ℕ) (since : Option ℤ) (now : ℤ) (x : ScheduleLine) (rest : List ScheduleLine) where
  pub line_come : has_come since now x ≡ true → rows_text names (came step (lines_come since now (x ∷ rest))) ≡ row_text names (row x.time step (Comes x)) ++ rows_text names (came step (lines_come since now rest))
  line_come is = ap (λ b. rows_text names (came step (if b then x ∷ lines_come since now rest else lines_come since now rest))) is

  pub line_not_come : has_come since now x ≡ false → rows_text names (came step (lines_come since now (x ∷ rest))) ≡ rows_text names (came step (lines_come since now rest))
  line_not_come is = ap (λ b. rows_text names (came step (if b then x ∷ lines_come since now rest else lines_come since now rest))) is

pub after_length : {A : Type 0} (xs ys : List A) → drop (length xs) (xs ++ ys) ≡ ys
after_length xs ys = drop-append_seam xs ys

module _ (i : Sections) (schedule : List ScheduleLine) where
  abbrev rows_at : ℕ → List TraceRow
  rows_at n = let w = code i schedule n in rows_of_step schedule (call_times i schedule n) (next_ahead i schedule w) w.kernel (code i schedule (suc n)).kernel (suc n) w.kernel.outcome w.kernel.running

  -- the rows of some steps begin those of more
  pub rows_grow : (n j : ℕ) → (more : List TraceRow) × (rows i schedule (n + j) ≡ rows i schedule n ++ more)
  rows_grow n zero = let e : n + zero ≡ n = omega arith in ([], ap (rows i schedule) e ∙ sym (append-nil (rows i schedule n)))
  rows_grow n (suc j) =
      let e : n + suc j ≡ suc (n + j) = omega arith in
      let r = rows_grow n j in
      (r.0 ++ rows_at (n + j), ap (rows i schedule) e ∙ ap (λ v. v ++ rows_at (n + j)) r.1 ∙ append_assoc (rows i schedule n) r.0 (rows_at (n + j)))

  -- after an outcome there are no more
  pub rows_stay : OutcomeStays → (n j : ℕ) (o : Outcome) → (code i schedule n).kernel.outcome ≡ Some o → rows i schedule (n + j) ≡ rows i schedule n
  rows_stay stays n zero o is = let e : n + zero ≡ n = omega arith in ap (rows i schedule) e
  rows_stay stays n (suc j) o is =
      let e : n + suc j ≡ suc (n + j) = omega arith in
      let over : (code i schedule (n + j)).kernel.outcome ≡ Some o = ap (λ w. w.kernel.outcome) (stays i schedule n j o is) ∙ is in
      let none : rows_at (n + j) ≡ [] = ap (λ q. rows_of_step schedule (call_times i schedule (n + j)) (next_ahead i schedule (code i schedule (n + j))) (code i schedule (n + j)).kernel (code i schedule (suc (n + j))).kernel (suc (n + j)) q (code i schedule (n + j)).kernel.running) over in
      ap (rows i schedule) e ∙ ap (λ v. rows i schedule (n + j) ++ v) none ∙ append-nil (rows i schedule (n + j)) ∙ rows_stay stays n j o is

-- Lines

pub told-append : (xs ys : List TraceRow) → lines_told (xs ++ ys) ≡ lines_told xs ++ lines_told ys
told-append [] ys = refl
told-append (x ∷ xs) ys = ap (λ v. line_of x.telling ++ v) (told-append xs ys) ∙ sym (append_assoc (line_of x.telling) (lines_told xs) (lines_told ys))

told_shown : (time : _) (n : ℕ) (events : List Event) → lines_told (shown time n events) ≡ []
told_shown time n [] = refl
told_shown time n (e ∷ events) = told_shown time n events

told_came : (n : ℕ) (inputs : List ScheduleLine) → lines_told (came n inputs) ≡ []
told_came n [] = refl
told_came n (x ∷ inputs) = told_came n inputs

told_wrote : (time : _) (n t : ℕ) (a : Option ℕ) (lines : List Line) → lines_told (wrote time n t a lines) ≡ lines
told_wrote time n t a [] = refl
told_wrote time n t a (l ∷ lines) = ap (λ v. l ∷ v) (told_wrote time n t a lines)

-- rows that tell no line, after others
without_more : (rows more : List TraceRow) → lines_told more ≡ [] → lines_told (rows ++ more) ≡ lines_told rows
without_more rows more none = told-append rows more ∙ ap (λ v. lines_told rows ++ v) none ∙ append-nil (lines_told rows)

-- the lines that a step has added are those that its rows tell
step_tells : {D : Type 0} (f : Local D) (schedule : List ScheduleLine) (calls : CallTimes) (a : Ahead) (n : ℕ) (k : Kernel) (d : D) (o : Option Outcome) (r : Option ℕ) →
    (more : List Line) × ((step_of f k d o r).kernel.lines ≡ k.lines ++ more) →
    (step_of f k d o r).kernel.lines ≡ k.lines ++ lines_told (rows_of_step schedule calls a k (step_of f k d o r).kernel n o r)
step_tells f schedule calls a n k d (Some o) r grown = sym (append-nil k.lines)
step_tells f schedule calls a n k d None None grown = sym (append-nil k.lines)
step_tells f schedule calls a n k d None (Some t) grown =
    let l = (step_of f k d None (Some t)).kernel in
    let lines = drop (length k.lines) l.lines in
    let until = shown k.now n (until_clock calls a k l t) in
    let since = shown l.now n (since_clock k l t) in
    let inputs = came n (lines_come (Some k.now) l.now schedule) in
    let first = wrote k.now n t a.address lines in
    let told : lines_told (first ++ until ++ inputs ++ since) ≡ lines =
    without_more (first ++ until ++ inputs) since (told_shown l.now n (since_clock k l t))
    ∙ without_more (first ++ until) inputs (told_came n (lines_come (Some k.now) l.now schedule))
    ∙ without_more first until (told_shown k.now n (until_clock calls a k l t))
    ∙ told_wrote k.now n t a.address lines in
    let more : lines ≡ grown.0 = ap (drop (length k.lines)) grown.1 ∙ after_length k.lines grown.0 in
    grown.1 ∙ ap (λ v. k.lines ++ v) (sym (told ∙ more))

module _ (i : Sections) (schedule : List ScheduleLine) where
  next_code : (n : ℕ) → code i schedule (suc n) ≡ step (among (behaviour i schedule)) (code i schedule n)
  next_code n = let e : suc n ≡ n + 1 = omega arith in ap (code i schedule) e ∙ run_plus (among (behaviour i schedule)) n 1 (start i schedule)

  next_lines : LinesGrowOn → (n : ℕ) → (code i schedule (suc n)).kernel.lines ≡ (code i schedule n).kernel.lines ++ lines_told (rows_at i schedule n)
  next_lines grow n =
      let w = code i schedule n in
      let f = among (behaviour i schedule) in
      let e : n + 1 ≡ suc n = omega arith in
      let g = grow i schedule n 1 in
      let grown : (step f w).kernel.lines ≡ w.kernel.lines ++ g.0 = ap (λ (v : CodeWorld). v.kernel.lines) (sym (ap (code i schedule) e ∙ next_code n)) ∙ g.1 in
      subst (λ (v : CodeWorld). v.kernel.lines ≡ w.kernel.lines ++ lines_told (rows_of_step schedule (call_times i schedule n) (next_ahead i schedule w) w.kernel v.kernel (suc n) w.kernel.outcome w.kernel.running)) (sym (next_code n))
      (step_tells f schedule (call_times i schedule n) (next_ahead i schedule w) (suc n) w.kernel w.rest w.kernel.outcome w.kernel.running (g.0, grown))

  pub all_lines : LinesGrowOn → LeftUnmoved → (n : ℕ) → lines_told (rows i schedule n) ≡ (code i schedule n).kernel.lines
  all_lines grow unmoved zero =
      let k = (code i schedule 0).kernel in
      let inputs = lines_come None k.now schedule in
      without_more (came 0 inputs) (shown k.now 0 (starts k)) (told_shown k.now 0 (starts k)) ∙ told_came 0 inputs ∙ sym (starts_without_lines unmoved i schedule)
  all_lines grow unmoved (suc n) =
      told-append (rows i schedule n) (rows_at i schedule n) ∙ ap (λ v. v ++ lines_told (rows_at i schedule n)) (all_lines grow unmoved n) ∙ sym (next_lines grow n)
