use Rattle.std.proofs.Common.{ap, ◌∙◌, ◌++◌, length}
use Rattle.remedies.specs.TextTokens.{is_declared_by, number_if}
use Rattle.remedies.proofs.Kept.{kept_next}
use Rattle.remedies.proofs.text_tokens.all_declared_by.Goals as goal

pub loop-number-preserved : goal.loop-number-preserved
loop-number-preserved c =
    kept_next (is_declared_by c.args.way c.args.tokens.now) c.loop-number.number (length c.args.tokens.now) c.loop-number.numbers.items _ _
    c.loop-number-test.true (c.in_ok-keep_where.ensures ∙ ap (λ b. c.loop-number.numbers.items ++ number_if b c.loop-number.number) c.is_declared_by.ensures)
    c.loop-number.invariant
