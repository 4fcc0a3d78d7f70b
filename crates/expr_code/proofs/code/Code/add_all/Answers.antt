use Rattle.std.proofs.Common.{rules, sym, ◌∙◌}
use Rattle.std.specs.Prelude.{get_or, pos}
use Rattle.image.specs.declared.instruction.Operation.TheVariants as op
use Rattle.expr_code.proofs.Appended.{one_appended, one_refused}
use Rattle.expr_code.proofs.Growing.{added_extends, extends_trans}
use Rattle.expr_code.proofs.code.Code.add_all.Goals as goal

pub loop-instruction-preserved : goal.loop-instruction-preserved
loop-instruction-preserved c = (
  one_appended c.args.self.now c.loop-instruction.self c.emit.new.self c.args.all.now c.loop-instruction.instruction-index _ c.loop-instruction-test.true
      (search rules) c.loop-instruction.invariant.0 c.in_ok-emit.ensures.adds c.in_ok-emit.ensures.deepest c.in_ok-emit.ensures.shallow
      (sym c.has_operands.ensures ∙ c.if-not-has_operands.false) c.in_ok-emit.ensures.few,
  extends_trans c.args.self.now c.loop-instruction.self c.emit.new.self c.loop-instruction.invariant.1
      (added_extends c.loop-instruction.self c.emit.new.self _ _ c.in_ok-emit.ensures.adds),
)

pub returns-in_err-emit-clause-refused : goal.returns-in_err-emit-clause-refused
returns-in_err-emit-clause-refused c =
    let whole = one_refused c.args.self.now c.loop-instruction.self c.args.all.now c.loop-instruction.instruction-index
    (get_or c.args.all.now c.loop-instruction.instruction-index (record { depth = 0; operation = op.Push (pos 0) })) c.in_err-emit.field-0.0
    c.loop-instruction-test.true (search rules) c.loop-instruction.invariant.0 c.in_err-emit.ensures.refused in
    search (rules, whole)

pub returns-in_err-emit-clause-kept : goal.returns-in_err-emit-clause-kept
returns-in_err-emit-clause-kept c =
    let whole = extends_trans c.args.self.now c.loop-instruction.self c.emit.new.self c.loop-instruction.invariant.1 c.in_err-emit.ensures.kept in
    search (rules, whole)
