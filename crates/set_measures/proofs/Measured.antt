-- What is measured before all runs, and with one more run.
use Rattle.std.proofs.Common.{◌≡◌, ℕ, zero, suc, ◌+◌, List, [], ◌∷◌, ◌++◌, length, length-append, map, Some, Bool, true, false, cond, refl, sym, ap, subst, ◌∙◌, arith}
use Rattle.std.proofs.lemmas.List.{map-append}
use Rattle.std.proofs.lemmas.List.Sums.{sum_by_push}
use Rattle.std.specs.Prelude.{ℤ, All, count_by}
use Rattle.base.specs.declared.schedule.ScheduleLine.{ScheduleLine}
use Rattle.image.specs.Sections.{Sections}
use Rattle.machine.specs.Bounds.{IsBound}
use Rattle.machine.specs.declared.bound.Bound.{Bound}
use Rattle.set_measures.specs.Extremes.{capped}
use Rattle.set_measures.specs.Quantities.{measures_of}
use Rattle.set_measures.specs.Runs.{Run, is_cut}
use Rattle.set_measures.specs.Sets.{HasExtreme, IsMeasuredOn}
use Rattle.set_measures.specs.Stepping.{new_row}
use Rattle.set_measures.specs.declared.measure.Measure.{Measure}
use Rattle.set_measures.specs.declared.set.SetMeasures.{SetMeasures}

same_measures : (measures : List Measure) → map (λ row. row.measure) (map new_row measures) ≡ measures
same_measures [] = refl
same_measures (m ∷ measures) = ap (λ ms. m ∷ ms) (same_measures measures)

none_yet : (i : Sections) (measures : List Measure) → All (HasExtreme i []) (map new_row measures)
none_yet i [] k d less = absurd (omega (arith, less))
none_yet i (m ∷ measures) zero d less = λ place v has. absurd cc
none_yet i (m ∷ measures) (suc k) d less = none_yet i measures k d (omega (arith, less))

pub before_runs : (i : Sections) (until : ℤ) (limit : ℕ) (s : SetMeasures) (measures : List Measure) → measures ≡ measures_of i
    → s.rows.items ≡ map new_row measures → s.schedules ≡ 0 → s.cut ≡ 0 → IsMeasuredOn i [] until limit s
before_runs i until limit s measures all rows none none_cut = record {
  runs = [];
  are_runs = record { schedules_are = refl; bounds = λ k d less. absurd (omega (arith, less)) };
  measures = ap (map (λ row. row.measure)) rows ∙ same_measures measures ∙ all;
  extremes = subst (All (HasExtreme i [])) (sym rows) (none_yet i measures);
  schedules_are = none;
  cut_are = none_cut;
}

all_more : {X : Type 0} (P : X → Type 0) (xs : List X) (y : X) → All P xs → P y → All P (xs ++ y ∷ [])
all_more P [] y all p zero d less = p
all_more P [] y all p (suc k) d less = absurd (omega (arith, less))
all_more P (x ∷ xs) y all p zero d less = all 0 d (omega arith)
all_more P (x ∷ xs) y all p (suc k) d less = all_more P xs y (λ n e within. all (suc n) e (omega (arith, within))) p k d (omega (arith, less))

pub one_more : (n m : ℕ) → n ≡ capped m → capped (n + 1) ≡ capped (m + 1)
one_more n m is = omega (arith, is)

counted : (b : Bool) (old new total : ℕ) → old ≡ capped total → new ≡ capped (old + cond b 1 0) → new ≡ capped (total + cond b 1 0)
counted true old new total is made = made ∙ one_more old total is
counted false old new total is made = omega (arith, is, made)

pub run_added : (i : Sections) (schedules : List (List ScheduleLine)) (until : ℤ) (limit : ℕ) (old new : SetMeasures) (schedule : List ScheduleLine) (bound : Bound)
    → (is : IsMeasuredOn i schedules until limit old) → IsBound i schedule (Some until) limit bound
    → map (λ row. row.measure) new.rows.items ≡ map (λ row. row.measure) old.rows.items
    → All (HasExtreme i (is.runs ++ record { schedule = schedule; bound = bound } ∷ [])) new.rows.items → new.schedules ≡ capped (old.schedules + 1)
    → (b : Bool) → b ≡ is_cut i (record { schedule = schedule; bound = bound }) → new.cut ≡ capped (old.cut + cond b 1 0)
    → IsMeasuredOn i (schedules ++ schedule ∷ []) until limit new
run_added i schedules until limit old new schedule bound is within same extremes more b cut_is cut =
    let r : Run = record { schedule = schedule; bound = bound } in
    let long : length (is.runs ++ r ∷ []) ≡ length is.runs + 1 = length-append is.runs (r ∷ []) in
    record {
      runs = is.runs ++ r ∷ [];
      are_runs = record {
        schedules_are = map-append (λ x. x.schedule) is.runs (r ∷ []) ∙ ap (λ ss. ss ++ schedule ∷ []) is.are_runs.schedules_are;
        bounds = all_more (λ x. IsBound i x.schedule (Some until) limit x.bound) is.runs r is.are_runs.bounds within;
      };
      measures = same ∙ is.measures;
      extremes = extremes;
      schedules_are = more ∙ one_more old.schedules (length is.runs) is.schedules_are ∙ ap capped (sym long);
      cut_are =
          counted b old.cut new.cut (count_by (is_cut i) is.runs) is.cut_are cut
          ∙ ap (λ x. capped (count_by (is_cut i) is.runs + cond x 1 0)) cut_is
          ∙ ap capped (sym (sum_by_push (λ x. cond (is_cut i x) 1 0) is.runs r));
    }
