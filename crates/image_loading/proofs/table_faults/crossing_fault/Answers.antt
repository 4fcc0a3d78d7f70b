use Rattle.std.proofs.Common.{Some, ap, sym, ◌∙◌}
use Rattle.base.specs.declared.faults.TheConstants.{TABLES_DISAGREE}
use Rattle.image_loading.specs.FaultOrder.{after, fault_at}
use Rattle.image_loading.proofs.Crossings.{first_crossing, named}
use Rattle.image_loading.proofs.table_faults.crossing_fault.Goals as goal

pub returns-in-None : goal.returns-in-None
returns-in-None c = sym (first_crossing c.args.rows.now c.args.start c.in_ok-first_crossing.field-0 c.in_ok-first_crossing.ensures.first ∙ ap (named c.args.start) c.in-None.is)

pub returns-in-Some : goal.returns-in-Some
returns-in-Some c =
    c.rule.ensures
    ∙ (ap (λ p. Some (fault_at TABLES_DISAGREE p)) (c.after.ensures ∙ ap (λ b. after b 2) c.after_all.ensures)
    ∙ sym (first_crossing c.args.rows.now c.args.start c.in_ok-first_crossing.field-0 c.in_ok-first_crossing.ensures.first ∙ ap (named c.args.start) c.in-Some.is))
