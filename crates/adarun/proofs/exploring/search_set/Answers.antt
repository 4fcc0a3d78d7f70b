use Rattle.std.proofs.Common.{◌≡◌, of_z, rules, subst, sym, to_z, w64}
use Rattle.choices.specs.Sets.{IsChoicesText}
use Rattle.searching.specs.Reports.{report_text}
use Rattle.adarun.specs.Searching.{IsReport, outcome_by}
use Rattle.adarun.specs.FirstFound.{ReportsFirst}
use Rattle.adarun.proofs.FirstFound.{reported_first}
use Rattle.adarun.proofs.Searching.{reported, written_report}
use Rattle.adarun.proofs.exploring.search_set.Goals as goal

pub returns-clause-answers : goal.returns-clause-answers
returns-clause-answers g c =
    let until = to_z w64 (of_z w64 c.args.until) in
    let u : until ≡ c.args.until = search rules in
    let found = c.in-Ok.searched in
    let text = report_text c.args.image.now c.args.choices.now c.args.part c.args.limit found in
    written_report c.write_report.result _ _ _ c.write_report.ensures.outcome c.write_report.ensures.text (λ appends source input compiles read.
    record {
      report = text;
      is_report = subst (λ z. IsReport source input c.args.part z c.args.limit c.args.wanted (outcome_by found) text) u
          (reported source input c.args.part _ _ _ _ _ found compiles (subst (λ z. IsChoicesText z input c.args.choices.now) (sym u) read)
          c.slots-slots.ensures.lawful c.in-Ok.ensures.answer);
      appends = appends;
    })

pub returns-clause-first : goal.returns-clause-first
returns-clause-first g c =
    let until = to_z w64 (of_z w64 c.args.until) in
    let u : until ≡ c.args.until = search rules in
    let found = c.in-Ok.searched in
    let text = report_text c.args.image.now c.args.choices.now c.args.part c.args.limit found in
    written_report c.write_report.result _ _ _ c.write_report.ensures.outcome c.write_report.ensures.text (λ appends source input compiles read.
    record {
      report = text;
      first = subst (λ z. ReportsFirst source input c.args.part z c.args.limit c.args.wanted (outcome_by found) text) u
          (reported_first source input c.args.part _ _ _ _ _ found compiles (subst (λ z. IsChoicesText z input c.args.choices.now) (sym u) read)
          c.slots-slots.ensures.lawful c.in-Ok.ensures.first);
      appends = appends;
    })

pub returns-clause-beginning : goal.returns-clause-beginning
returns-clause-beginning g c = λ is source input compiles read.
    let until = to_z w64 (of_z w64 c.args.until) in
    let u : until ≡ c.args.until = search rules in
    let found = c.in-Ok.searched in
    let text = report_text c.args.image.now c.args.choices.now c.args.part c.args.limit found in
    record {
      outcome = outcome_by found;
      report = text;
      is_report = subst (λ z. IsReport source input c.args.part z c.args.limit c.args.wanted (outcome_by found) text) u
          (reported source input c.args.part _ _ _ _ _ found compiles (subst (λ z. IsChoicesText z input c.args.choices.now) (sym u) read)
          c.slots-slots.ensures.lawful c.in-Ok.ensures.answer);
      begins = c.write_report.ensures.beginning is;
    }
