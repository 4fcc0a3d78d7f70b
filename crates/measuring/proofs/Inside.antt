-- A step inside the objects below a number, and below the next one.
use Rattle.std.proofs.Common.{◌≡◌, ◌≢◌, ◌<◌, ◌≤◌, ◌+◌, ⊎_elim, ℕ, Bool, true, false, List, ◌∷◌, refl, sym, ap, ◌∙◌, arith}
use Rattle.std.proofs.lemmas.Bool.{cases_lt, le-ltb, lt-ltb}
use Rattle.std.proofs.lemmas.Bool.Decides.{eqb_tells}
use Rattle.std.specs.Prelude.{◌&&◌, nat_eq, nat_lt, if◌then◌else◌}
use Rattle.kernel.specs.State.{Action, is_object_open}
use Rattle.measuring.specs.Measures.{usage_measures}
use Rattle.measuring.specs.Stories.{Usages, used, with_step_inside, with_usage}
use Rattle.measuring.specs.Tables.{IsGrid}
use Rattle.measuring.specs.declared.usage.Usage.{Usage}
use Rattle.measuring.specs.declared.usage.Usage.TheVariants as uses
use Rattle.measuring.specs.declared.usage.UsageMeasures.{UsageMeasures}

same_below : (o n : ℕ) → o ≢ n → nat_lt o n ≡ nat_lt o (n + 1)
same_below o n other =
    ⊎_elim
    (λ (less : o < n). lt-ltb o n less ∙ sym (lt-ltb o (n + 1) (omega (arith, less))))
    (λ (le : n ≤ o).
    ⊎_elim
    (λ (more : n < o). le-ltb o n le ∙ sym (le-ltb o (n + 1) (omega (arith, more))))
    (λ (not_more : o ≤ n). let e : o ≡ n = omega (arith, le, not_more) in absurd (other e))
    (cases_lt n o))
    (cases_lt o n)

not_itself : (n : ℕ) → nat_lt n n ≡ false
not_itself n = le-ltb n n (omega arith)

itself_next : (n : ℕ) → nat_lt n (n + 1) ≡ true
itself_next n = lt-ltb n (n + 1) (omega arith)

module _ (actions : List Action) (t n : ℕ) (usages : Usages) (u o : ℕ) where
  abbrev before : List Usage
  before = with_step_inside n actions t usages u o

  abbrev after : List Usage
  after = with_step_inside (n + 1) actions t usages u o

  -- another object than the next one
  elsewhere : o ≢ n → before ≡ after
  elsewhere other = ap (λ b. if nat_eq u t && (b && is_object_open o actions) then uses.StepsInside ∷ usages u o else usages u o) (same_below o n other)

  -- the next one, by whether it is open
  here_open : (is_task : Bool) → o ≡ n → is_object_open n actions ≡ true
      → (if is_task && true then uses.StepsInside ∷ (if is_task && (nat_lt o n && is_object_open o actions) then uses.StepsInside ∷ usages u o else usages u o) else (if is_task && (nat_lt o n && is_object_open o actions) then uses.StepsInside ∷ usages u o else usages u o))
      ≡ (if is_task && (nat_lt o (n + 1) && is_object_open o actions) then uses.StepsInside ∷ usages u o else usages u o)
  here_open false e is = refl
  here_open true e is =
      let low : nat_lt o n ≡ false = ap (λ m. nat_lt m n) e ∙ not_itself n in
      let high : nat_lt o (n + 1) ≡ true = ap (λ m. nat_lt m (n + 1)) e ∙ itself_next n in
      let it : is_object_open o actions ≡ true = ap (λ m. is_object_open m actions) e ∙ is in
      (λ j. uses.StepsInside ∷ (if low j && is_object_open o actions then uses.StepsInside ∷ usages u o else usages u o))
      ∙ sym (λ j. if high j && it j then uses.StepsInside ∷ usages u o else usages u o)

  here_closed : (is_task : Bool) → o ≡ n → is_object_open n actions ≡ false
      → (if is_task && (nat_lt o n && is_object_open o actions) then uses.StepsInside ∷ usages u o else usages u o)
      ≡ (if is_task && (nat_lt o (n + 1) && is_object_open o actions) then uses.StepsInside ∷ usages u o else usages u o)
  here_closed false e is = refl
  here_closed true e is =
      let low : nat_lt o n ≡ false = ap (λ m. nat_lt m n) e ∙ not_itself n in
      let high : nat_lt o (n + 1) ≡ true = ap (λ m. nat_lt m (n + 1)) e ∙ itself_next n in
      let it : is_object_open o actions ≡ false = ap (λ m. is_object_open m actions) e ∙ is in
      (λ j. if low j && is_object_open o actions then uses.StepsInside ∷ usages u o else usages u o)
      ∙ sym (λ j. if high j && it j then uses.StepsInside ∷ usages u o else usages u o)

  opened : is_object_open n actions ≡ true → with_usage (used t n uses.StepsInside) (with_step_inside n actions t usages) u o ≡ after
  opened is =
      ⊎_elim
      (λ (h : (nat_eq o n ≡ true) × (o ≡ n)). ap (λ b. if nat_eq u t && b then uses.StepsInside ∷ before else before) h.0 ∙ here_open (nat_eq u t) h.1 is)
      (λ (h : (nat_eq o n ≡ false) × (o ≢ n)).
      ap (λ b. if nat_eq u t && b then uses.StepsInside ∷ before else before) h.0 ∙ (nothing (nat_eq u t) before ∙ elsewhere h.1))
      (eqb_tells o n)
    where
      nothing : (b : Bool) (xs : List Usage) → (if b && false then uses.StepsInside ∷ xs else xs) ≡ xs
      nothing true xs = refl
      nothing false xs = refl

  closed : is_object_open n actions ≡ false → before ≡ after
  closed is = ⊎_elim (λ (h : (nat_eq o n ≡ true) × (o ≡ n)). here_closed (nat_eq u t) h.1 is) (λ (h : (nat_eq o n ≡ false) × (o ≢ n)). elsewhere h.1) (eqb_tells o n)

module _ (actions : List Action) (t n : ℕ) (usages : Usages) (table : List UsageMeasures) where
  -- the table with the next object, of which the task has an action open or not
  pub inside_next : is_object_open n actions ≡ true → IsGrid table (λ u o. usage_measures (with_usage (used t n uses.StepsInside) (with_step_inside n actions t usages) u o))
      → IsGrid table (λ u o. usage_measures (with_step_inside (n + 1) actions t usages u o))
  inside_next is grid u o d less small = grid u o d less small ∙ ap usage_measures (opened actions t n usages u o is)

  pub outside_next : is_object_open n actions ≡ false → IsGrid table (λ u o. usage_measures (with_step_inside n actions t usages u o)) → IsGrid table (λ u o. usage_measures (with_step_inside (n + 1) actions t usages u o))
  outside_next is grid u o d less small = grid u o d less small ∙ ap usage_measures (closed actions t n usages u o is)

-- before the first object
pub none_inside : (actions : List Action) (t : ℕ) (usages : Usages) (table : List UsageMeasures) → IsGrid table (λ u o. usage_measures (usages u o)) → IsGrid table (λ u o. usage_measures (with_step_inside 0 actions t usages u o))
none_inside actions t usages table grid u o d less small = grid u o d less small ∙ ap usage_measures (sym (none (nat_eq u t) (le-ltb o 0 (omega arith))))
  where
    none : (b : Bool) → nat_lt o 0 ≡ false → (if b && (nat_lt o 0 && is_object_open o actions) then uses.StepsInside ∷ usages u o else usages u o) ≡ usages u o
    none true e = λ j. if e j && is_object_open o actions then uses.StepsInside ∷ usages u o else usages u o
    none false e = refl
