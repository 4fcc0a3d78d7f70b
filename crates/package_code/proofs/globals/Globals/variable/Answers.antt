use Rattle.std.proofs.Common.{sym}
use Rattle.expr_soundness.proofs.Widening.{subtype_known}
use Rattle.package_code.proofs.globals.Globals.variable.Goals as goal

pub push_initial-requires-clause-known : goal.push_initial-requires-clause-known
push_initial-requires-clause-known c =
    subtype_known c.args.scope.now c.args.object.now.subtype c.in-Some.subtype c.requires.sound (sym c.in-Some.ensures)
