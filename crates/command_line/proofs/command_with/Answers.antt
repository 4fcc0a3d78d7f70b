use Rattle.std.proofs.Common.{◌∙◌, ◌≡◌, ap, ap₂, false, rules, true}
use Rattle.std.specs.Prelude.{◌||◌}
use Rattle.clap.specs.Words.{Rule, rule_of, with_rule}
use Rattle.command_line.proofs.Adding.{more}
use Rattle.command_line.proofs.command_with.Goals as goal

pub loop-word-preserved : goal.loop-word-preserved
loop-word-preserved c =
    let local : c.required.result.global ≡ false = search rules in
    let required : Rule → Rule = λ r. record r { required = true } in
    let rule = ap rule_of c.required.ensures ∙ ap required c.new.ensures.rule in (
      c.in_ok-command.ensures.shape local ∙ ap₂ with_rule c.loop-word.invariant.0 rule ∙ more c.args.name.now c.args.words.now c.loop-word.word-index _ c.loop-word-test.true,
      c.in_ok-command.ensures.globals ∙ ap₂ (λ a b. a || b) c.loop-word.invariant.1 local,
    )
