use Rattle.std.proofs.Common.{◌≡◌, drop}
use Rattle.std.specs.List.{list_any}
use Rattle.remedies.specs.Recognition.{fits_tokens}
use Rattle.remedies.proofs.recognition.some_fits_tokens.Given as goal

-- what is left decides
abbrev pub invariant-loop-row : goal.invariant-loop-row
invariant-loop-row l =
    let some = list_any (λ r. fits_tokens r l.fn.fault l.fn.front l.fn.back) in
    some (drop l.row-index l.fn.rows) ≡ some l.fn.rows
