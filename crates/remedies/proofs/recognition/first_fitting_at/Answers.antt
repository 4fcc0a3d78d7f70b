use Rattle.std.proofs.Common.{sym, ◌∙◌}
use Rattle.remedies.specs.Recognition.{open_at}
use Rattle.remedies.proofs.Fitting.{none_fits}
use Rattle.remedies.proofs.recognition.first_fitting_at.Goals as goal

pub returns-else-some_fits_tokens : goal.returns-else-some_fits_tokens
returns-else-some_fits_tokens c =
    sym (none_fits c.args.rows.now c.args.fault c.args.front.now c.args.back.now (open_at c.args.front.now)
    (sym c.some_fits_tokens.ensures ∙ c.if-some_fits_tokens.false))
