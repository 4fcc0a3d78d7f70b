use Rattle.diagnostics.specs.repairs.MissingTokens.{IsThisOne}
use Rattle.diagnostics.proofs.Firsts.{Decides}
use Rattle.diagnostics.proofs.repairs.missing.first_missing.Given as goal

-- what is left decides
abbrev pub invariant-loop-missing : goal.invariant-loop-missing
invariant-loop-missing l = Decides (IsThisOne l.fn.front l.fn.back) l.fn.tried l.missing-index
