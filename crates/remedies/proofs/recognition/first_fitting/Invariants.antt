use Rattle.std.proofs.Common.{◌≡◌, drop}
use Rattle.remedies.specs.Recognition.{first_fitting}
use Rattle.remedies.proofs.recognition.first_fitting.Given as goal

-- what is left decides
abbrev pub invariant-loop-row : goal.invariant-loop-row
invariant-loop-row l = first_fitting (drop l.row-index l.fn.rows) l.fn.fault l.fn.front l.fn.back l.fn.opening
    ≡ first_fitting l.fn.rows l.fn.fault l.fn.front l.fn.back l.fn.opening
