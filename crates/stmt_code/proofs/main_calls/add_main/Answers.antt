use Rattle.std.proofs.lemmas.Result.{on_ok_weaker}
use Rattle.stmt_code.proofs.WholesMade.{calls_end, calls_step}
use Rattle.stmt_code.proofs.main_calls.add_main.Goals as goal

pub loop-statement-preserved : goal.loop-statement-preserved
loop-statement-preserved c =
    calls_step c.args.visible.now c.args.statements.now c.loop-statement.fragment c.add_statement.new.fragment _ c.loop-statement.statement-index
    c.statement-item.result c.loop-statement-test.true c.statement-item.is c.in_ok-add_statement.ensures.made c.loop-statement.invariant

pub returns : goal.returns
returns c = record {
  made = on_ok_weaker _
      (λ made.
      calls_end c.args.visible.now c.args.statements.now c.loop-statement.fragment c.args.fragment.now c.put.new.self c.loop-statement.statement-index
      c.loop-statement-test.false c.loop-statement.invariant made) c.put.ensures.made;
}
