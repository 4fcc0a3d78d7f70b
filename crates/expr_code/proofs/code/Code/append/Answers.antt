use Rattle.std.proofs.Common.{rules}
use Rattle.expr_code.proofs.Growing.{cut_back}
use Rattle.expr_code.proofs.code.Code.append.Goals as goal

pub returns-in-Err-clause-restored : goal.returns-in-Err-clause-restored
returns-in-Err-clause-restored c =
    let cut = cut_back c.args.self.now c.add_all.new.self c.in-Err.ensures.kept in
    record { instructions = search (rules, cut); deepest = search rules }
