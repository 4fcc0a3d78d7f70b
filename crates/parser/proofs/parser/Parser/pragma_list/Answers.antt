use Rattle.std.proofs.Common.{rules, sym, ◌∙◌}
use Rattle.lexer.specs.declared.word.Word.TheVariants as words
use Rattle.parser.specs.Reading.{is_word}
use Rattle.parser.specs.ProgramReading.{pragma_at}
use Rattle.parser.proofs.general.Loops.{many_starts}
use Rattle.parser.proofs.general.Lists.{plain_goes, plain_ends, plain_fails}
use Rattle.parser.proofs.programs.Programs.{pragma_turns}
use Rattle.parser.proofs.parser.Parser.pragma_list.Goals as goal

pub loop-self-init : goal.loop-self-init
loop-self-init c = many_starts (is_word words.Pragma) pragma_at c.args.self.now.rest.now c.new-all.result.items c.new-all.ensures.items

pub returns-in_err-next : goal.returns-in_err-next
returns-in_err-next c =
    let failed =
    plain_fails (is_word words.Pragma) pragma_at pragma_turns c.loop-self.invariant.0 c.loop-self.self.rest.now c.loop-self.all.items _ _
    (sym c.at_word.ensures ∙ c.loop-self-test.true) c.in_err-next.ensures c.loop-self.invariant.1 c.loop-self.invariant.2 in search rules

pub loop-self-smaller : goal.loop-self-smaller
loop-self-smaller c = (pragma_turns).shrinks c.loop-self.self.rest.now _ _ c.in_ok-next.ensures

pub loop-self-preserved : goal.loop-self-preserved
loop-self-preserved c =
    plain_goes (is_word words.Pragma) pragma_at pragma_turns c.loop-self.invariant.0 c.loop-self.self.rest.now c.loop-self.all.items _ c.in_ok-next.next _ _
    c.in_ok-push.ensures.items (sym c.at_word.ensures ∙ c.loop-self-test.true) c.in_ok-next.ensures c.loop-self.invariant.1 c.loop-self.invariant.2

pub returns : goal.returns
returns c =
    plain_ends (is_word words.Pragma) pragma_at pragma_turns c.loop-self.invariant.0 c.loop-self.self.rest.now c.loop-self.all.items _
    (sym c.at_word.ensures ∙ c.loop-self-test.false) c.loop-self.invariant.2
