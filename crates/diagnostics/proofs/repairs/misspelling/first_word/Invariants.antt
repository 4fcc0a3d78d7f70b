use Rattle.diagnostics.specs.repairs.Misspellings.{IsWordMeant}
use Rattle.diagnostics.proofs.Firsts.{Decides}
use Rattle.diagnostics.proofs.repairs.misspelling.first_word.Given as goal

-- what is left decides
abbrev pub invariant-loop-continuation : goal.invariant-loop-continuation
invariant-loop-continuation l = Decides (IsWordMeant l.fn.name l.fn.front l.fn.after l.fn.far) l.fn.continuations l.continuation-index
