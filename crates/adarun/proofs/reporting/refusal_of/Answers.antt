use Rattle.std.proofs.Common.{Some, ap, refl, subst, sym, ◌∙◌}
use Rattle.diagnostics.specs.explanations.Explained.{explanation_of}
use Rattle.diagnostics.specs.hints.Hinted.{AreRemarksAt}
use Rattle.adarun.proofs.Reported.{whole_report}
use Rattle.adarun.proofs.reporting.refusal_of.Goals as goal

pub returns : goal.returns
returns c =
    record {
      explanation = c.in-Some.rule.now;
      explained = sym (c.in-Some.ensures.explained ∙ ap explanation_of c.from-number.ensures);
      remarks = c.in_ok-remarks.remarks.items;
      are_remarks = subst (λ n. AreRemarksAt n (Some c.args.fault.now.place) c.args.text.now c.in_ok-remarks.remarks.items) c.from-number.ensures
          c.in_ok-remarks.ensures;
      code = c.args.code.now;
      is_code = c.requires;
      report_is = whole_report _ _ _ c.args.text.now _ _ _ _ _ c.args.code.now c.args.code.now _ _ _ c.args.fault.now.number c.args.fault.now.place c.new-report.ensures.items
          c.as_bytes.ensures.value c.text.ensures c.as_bytes-rule.ensures.value c.deref.ensures.value refl c.in_ok-put_source_report.ensures
          c.in_ok-extend_from_slice.ensures.items c.in_ok-put_told.ensures;
    }
