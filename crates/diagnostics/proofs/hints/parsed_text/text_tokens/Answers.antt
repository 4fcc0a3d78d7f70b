use Rattle.std.proofs.Common.{length, subst, sym}
use Rattle.std.proofs.lemmas.Result.{IfOk-weaker}
use Rattle.lexer.specs.Spelling.{Spells}
use Rattle.remedies.proofs.Ordered.{begin_in_order}
use Rattle.diagnostics.proofs.hints.parsed_text.text_tokens.Goals as goal

pub new-requires : goal.new-requires
new-requires c = begin_in_order 0 (length c.args.text.now) c.args.tokens.items (c.spelled_in_order.ensures c.args.text.now c.args.tokens.items c.requires)

pub returns : goal.returns
returns c = IfOk-weaker c.new.result _ _ (λ list same. subst (Spells c.args.text.now) (sym same) c.requires) c.new.ensures
