use Rattle.std.proofs.Common.{◌≡◌, ◌+◌, ◌≤◌, drop}
use Rattle.diagnostics.specs.hints.Calls as calls
use Rattle.diagnostics.proofs.hints.calls.count_listed.Given as goal

-- what is left decides
abbrev pub invariant-loop-token : goal.invariant-loop-token
invariant-loop-token l =
    (calls.count_listed l.separator l.depth l.count (drop l.token-index l.fn.tokens) ≡ calls.count_listed l.separator 0 1 l.fn.tokens)
    × ((l.depth ≤ l.token-index) × (l.count ≤ l.token-index + 1))
