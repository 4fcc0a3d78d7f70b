use Rattle.std.proofs.Common.{ap, sym, ◌∙◌}
use Rattle.base.specs.declared.faults.TheConstants.{TABLES_DISAGREE}
use Rattle.image_loading.specs.FaultOrder.{after, fault_at, is_no_later}
use Rattle.image_loading.specs.Loading.{faults_as, rows_start}
use Rattle.image_loading.proofs.Crossings.{before_crossings}
use Rattle.image_loading.proofs.raw_sections.RawSections.fault.Goals as goal

pub returns-then-is_no_later : goal.returns-then-is_no_later
returns-then-is_no_later c =
    let r = c.args.self.now in
    let fault = c.fault_but_crossing-fault.result in
    before_crossings r.rows (rows_start r) fault (faults_as r c.args.draft.now) c.fault_but_crossing-fault.ensures
    (ap (λ b. is_no_later fault (fault_at TABLES_DISAGREE b)) (sym (c.after.ensures ∙ ap (λ b. after b 2) c.rows_start-start.ensures)) ∙ (sym c.is_no_later.ensures ∙ c.if-is_no_later.true))
