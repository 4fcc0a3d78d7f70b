use Rattle.std.proofs.Common.{rules, sym, ◌∙◌}
use Rattle.lexer.specs.declared.word.Word.TheVariants as words
use Rattle.ada_tree.specs.StatementTree.{elsif_tree, alternative_tree, handler_tree, stmt_tree}
use Rattle.parser.specs.Reading.{is_word}
use Rattle.parser.specs.StatementReading.{elsif_at, alternative_at, handler_at, begins_statement, statement_at, readers, readers_at}
use Rattle.parser.proofs.general.Lists.{list_starts_empty, list_starts_behind, list_goes, list_ends, list_fails}
use Rattle.parser.proofs.statements.Statements.{elsif_turns, alternative_turns, handler_turns, statement_turns}
use Rattle.parser.proofs.parser.Parser.+statement.Goals as goal

pub elsif_list-loop-self-init : goal.elsif_list-loop-self-init
elsif_list-loop-self-init t c =
    list_starts_empty elsif_tree (is_word words.Elsif) (elsif_at (readers_at c.args.levels)) (elsif_turns c.args.levels) c.args.self.now.rest.now
    c.new-all.result.items c.new-all.ensures.items

pub elsif_list-returns-in_err-next : goal.elsif_list-returns-in_err-next
elsif_list-returns-in_err-next t c =
    let failed =
    list_fails elsif_tree (is_word words.Elsif) (elsif_at (readers_at c.args.levels)) (elsif_turns c.args.levels) c.loop-self.invariant.0
    c.loop-self.self.rest.now c.loop-self.all.items _ _ (sym c.at_word.ensures ∙ c.loop-self-test.true) c.in_err-next.ensures c.loop-self.invariant.1
    c.loop-self.invariant.2 in search rules

pub elsif_list-loop-self-smaller : goal.elsif_list-loop-self-smaller
elsif_list-loop-self-smaller t c = ((elsif_turns c.args.levels)).shrinks c.loop-self.self.rest.now _ _ c.in_ok-next.ensures

pub elsif_list-loop-self-preserved : goal.elsif_list-loop-self-preserved
elsif_list-loop-self-preserved t c =
    list_goes elsif_tree (is_word words.Elsif) (elsif_at (readers_at c.args.levels)) (elsif_turns c.args.levels) c.loop-self.invariant.0
    c.loop-self.self.rest.now c.loop-self.all.items _ c.in_ok-next.next _ _ c.in_ok-push.ensures.items (sym c.at_word.ensures ∙ c.loop-self-test.true)
    c.in_ok-next.ensures c.loop-self.invariant.1 c.loop-self.invariant.2

pub elsif_list-returns : goal.elsif_list-returns
elsif_list-returns t c =
    list_ends elsif_tree (is_word words.Elsif) (elsif_at (readers_at c.args.levels)) (elsif_turns c.args.levels) c.loop-self.invariant.0
    c.loop-self.self.rest.now c.loop-self.all.items _ (sym c.at_word.ensures ∙ c.loop-self-test.false) c.loop-self.invariant.2

pub alternative_list-loop-self-init : goal.alternative_list-loop-self-init
alternative_list-loop-self-init t c =
    list_starts_behind alternative_tree (is_word words.When) (alternative_at (readers_at c.args.levels)) (alternative_turns c.args.levels)
    (alternative_at (readers_at c.args.levels)) c.args.self.now.rest.now c.in_ok-head.head _ _ _ c.in_ok-head.ensures c.new-all.ensures.items
    c.in_ok-push.ensures.items

pub alternative_list-returns-in_err-next : goal.alternative_list-returns-in_err-next
alternative_list-returns-in_err-next t c =
    let failed =
    list_fails alternative_tree (is_word words.When) (alternative_at (readers_at c.args.levels)) (alternative_turns c.args.levels) c.loop-self.invariant.0
    c.loop-self.self.rest.now c.loop-self.all.items _ _ (sym c.at_word.ensures ∙ c.loop-self-test.true) c.in_err-next.ensures c.loop-self.invariant.1
    c.loop-self.invariant.2 in search rules

pub alternative_list-loop-self-smaller : goal.alternative_list-loop-self-smaller
alternative_list-loop-self-smaller t c = ((alternative_turns c.args.levels)).shrinks c.loop-self.self.rest.now _ _ c.in_ok-next.ensures

pub alternative_list-loop-self-preserved : goal.alternative_list-loop-self-preserved
alternative_list-loop-self-preserved t c =
    list_goes alternative_tree (is_word words.When) (alternative_at (readers_at c.args.levels)) (alternative_turns c.args.levels) c.loop-self.invariant.0
    c.loop-self.self.rest.now c.loop-self.all.items _ c.in_ok-next.next _ _ c.in_ok-push-2.ensures.items (sym c.at_word.ensures ∙ c.loop-self-test.true)
    c.in_ok-next.ensures c.loop-self.invariant.1 c.loop-self.invariant.2

pub alternative_list-returns : goal.alternative_list-returns
alternative_list-returns t c =
    list_ends alternative_tree (is_word words.When) (alternative_at (readers_at c.args.levels)) (alternative_turns c.args.levels) c.loop-self.invariant.0
    c.loop-self.self.rest.now c.loop-self.all.items _ (sym c.at_word.ensures ∙ c.loop-self-test.false) c.loop-self.invariant.2

pub handler_list-loop-self-init : goal.handler_list-loop-self-init
handler_list-loop-self-init t c =
    list_starts_behind handler_tree (is_word words.When) (handler_at (readers_at c.args.levels).statements) (handler_turns c.args.levels)
    (handler_at (readers_at c.args.levels).statements) c.args.self.now.rest.now c.in_ok-head.head _ _ _ c.in_ok-head.ensures c.new-all.ensures.items
    c.in_ok-push.ensures.items

pub handler_list-returns-in_err-next : goal.handler_list-returns-in_err-next
handler_list-returns-in_err-next t c =
    let failed =
    list_fails handler_tree (is_word words.When) (handler_at (readers_at c.args.levels).statements) (handler_turns c.args.levels) c.loop-self.invariant.0
    c.loop-self.self.rest.now c.loop-self.all.items _ _ (sym c.at_word.ensures ∙ c.loop-self-test.true) c.in_err-next.ensures c.loop-self.invariant.1
    c.loop-self.invariant.2 in search rules

pub handler_list-loop-self-smaller : goal.handler_list-loop-self-smaller
handler_list-loop-self-smaller t c = ((handler_turns c.args.levels)).shrinks c.loop-self.self.rest.now _ _ c.in_ok-next.ensures

pub handler_list-loop-self-preserved : goal.handler_list-loop-self-preserved
handler_list-loop-self-preserved t c =
    list_goes handler_tree (is_word words.When) (handler_at (readers_at c.args.levels).statements) (handler_turns c.args.levels) c.loop-self.invariant.0
    c.loop-self.self.rest.now c.loop-self.all.items _ c.in_ok-next.next _ _ c.in_ok-push-2.ensures.items (sym c.at_word.ensures ∙ c.loop-self-test.true)
    c.in_ok-next.ensures c.loop-self.invariant.1 c.loop-self.invariant.2

pub handler_list-returns : goal.handler_list-returns
handler_list-returns t c =
    list_ends handler_tree (is_word words.When) (handler_at (readers_at c.args.levels).statements) (handler_turns c.args.levels) c.loop-self.invariant.0
    c.loop-self.self.rest.now c.loop-self.all.items _ (sym c.at_word.ensures ∙ c.loop-self-test.false) c.loop-self.invariant.2

pub statements-loop-self-init : goal.statements-loop-self-init
statements-loop-self-init t c =
    list_starts_behind stmt_tree begins_statement (statement_at c.args.levels (readers c.args.levels)) (statement_turns c.args.levels)
    (statement_at c.args.levels (readers c.args.levels)) c.args.self.now.rest.now c.in_ok-head.head _ _ _ c.in_ok-head.ensures c.new-all.ensures.items
    c.in_ok-push.ensures.items

pub statements-returns-in_err-next : goal.statements-returns-in_err-next
statements-returns-in_err-next t c =
    let failed =
    list_fails stmt_tree begins_statement (statement_at c.args.levels (readers c.args.levels)) (statement_turns c.args.levels) c.loop-self.invariant.0
    c.loop-self.self.rest.now c.loop-self.all.items _ _ (sym c.at_statement.ensures ∙ c.loop-self-test.true) c.in_err-next.ensures
    c.loop-self.invariant.1 c.loop-self.invariant.2 in search rules

pub statements-loop-self-smaller : goal.statements-loop-self-smaller
statements-loop-self-smaller t c = ((statement_turns c.args.levels)).shrinks c.loop-self.self.rest.now _ _ c.in_ok-next.ensures

pub statements-loop-self-preserved : goal.statements-loop-self-preserved
statements-loop-self-preserved t c =
    list_goes stmt_tree begins_statement (statement_at c.args.levels (readers c.args.levels)) (statement_turns c.args.levels) c.loop-self.invariant.0
    c.loop-self.self.rest.now c.loop-self.all.items _ c.in_ok-next.next _ _ c.in_ok-push-2.ensures.items
    (sym c.at_statement.ensures ∙ c.loop-self-test.true) c.in_ok-next.ensures c.loop-self.invariant.1 c.loop-self.invariant.2

pub statements-returns : goal.statements-returns
statements-returns t c =
    list_ends stmt_tree begins_statement (statement_at c.args.levels (readers c.args.levels)) (statement_turns c.args.levels) c.loop-self.invariant.0
    c.loop-self.self.rest.now c.loop-self.all.items _ (sym c.at_statement.ensures ∙ c.loop-self-test.false) c.loop-self.invariant.2
