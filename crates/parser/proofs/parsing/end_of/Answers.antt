use Rattle.std.proofs.Common.{ap, sym, ◌∙◌}
use Rattle.lexer.specs.declared.token.Token.{Token}
use Rattle.parser.proofs.programs.Whole.{end_last}
use Rattle.parser.proofs.parsing.end_of.Goals as goal

pub returns-in-len1-up : goal.returns-in-len1-up
returns-in-len1-up c = ap (λ (t : Token). t.end_) c.last-item.is ∙ sym (end_last c.args.tokens.now c.last-item.result c.in-len1-up.len_at_least)
