use Rattle.std.proofs.Common.{◌≡◌, ◌∙◌, ◌+◌, ◌++◌, ◌∷◌, [], Some, ap, cond, length, map, of_z, rules, subst, sym, to_z, w64}
use Rattle.std.proofs.lemmas.List.{with_items_is}
use Rattle.std.specs.Prelude.{All, is_none}
use Rattle.std.specs.Vec.{with_items}
use Rattle.machine.specs.Bounds.{IsBound}
use Rattle.set_measures.specs.Extremes.{capped}
use Rattle.set_measures.specs.Runs.{is_cut_by}
use Rattle.set_measures.specs.Sets.{HasExtreme}
use Rattle.set_measures.specs.declared.set.SetMeasures.{SetMeasures}
use Rattle.set_measures.proofs.Measured.{one_more, run_added}
use Rattle.set_measures.proofs.set.SetMeasures.add_run.Goals as goal

pub returns-clause-measured : goal.returns-clause-measured
returns-clause-measured g c schedules is =
    let i = c.args.image.now in
    let bound = c.in_ok-bound.bound in
    let number = c.saturating_add-number.ensures ∙ one_more c.args.self.now.schedules (length is.runs) is.schedules_are in
    let old = subst (All (HasExtreme i is.runs)) (sym c.deref_mut.ensures.value) is.extremes in
    let one = c.from.ensures in
    let u : to_z w64 (of_z w64 c.args.until) ≡ c.args.until = search rules in
    let within = subst (λ z. IsBound i c.args.schedule.now (Some z) c.args.limit bound) u c.in_ok-bound.ensures.bound in
    let cut : c.saturating_add-self.result ≡ capped (c.args.self.now.cut + cond c.is_cut.result 1 0) = search rules in
    let new : SetMeasures = record {
      rows = with_items c.args.self.now.rows c.add_values.new.rows;
      schedules = c.saturating_add-number.result;
      cut = c.saturating_add-self.result;
    } in
    let filled = with_items_is c.args.self.now.rows c.add_values.new.rows (search rules) in
    let extremes = c.add_values.ensures.extremes is.runs _ c.in_ok-run.ensures.measured number old in
    run_added i schedules c.args.until c.args.limit c.args.self.now new c.args.schedule.now bound is within
    (ap (map (λ row. row.measure)) filled ∙ c.add_values.ensures.same ∙ ap (map (λ row. row.measure)) c.deref_mut.ensures.value)
    (subst (All (HasExtreme i (is.runs ++ record { schedule = c.args.schedule.now; bound = bound } ∷ []))) (sym filled) extremes)
    c.saturating_add-number.ensures c.is_cut.result (c.is_cut.ensures ∙ sym (ap (λ o. is_cut_by bound.cut (is_none o)) c.in_ok-run.ensures.ends.outcome)) cut
