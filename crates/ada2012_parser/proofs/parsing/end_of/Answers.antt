use Rattle.std.proofs.Common.{ap, sym, ◌∙◌}
use Rattle.ada2012_lexer.specs.declared.token.Token.{Token}
use Rattle.ada2012_parser.proofs.Places.{end_last}
use Rattle.ada2012_parser.proofs.parsing.end_of.Goals as goal

pub returns-in-len1-up : goal.returns-in-len1-up
returns-in-len1-up c = ap (λ (t : Token). t.end_) c.last-item.is ∙ sym (end_last c.args.tokens.now c.last-item.result c.in-len1-up.len_at_least)
