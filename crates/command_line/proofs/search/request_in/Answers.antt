use Rattle.std.proofs.Common.{◌≡◌, arith, length, map}
use Rattle.std.proofs.lemmas.List.{length-map}
use Rattle.command_line.proofs.Few.{few_ask}
use Rattle.command_line.proofs.search.request_in.Goals as goal

pub returns-in_default : goal.returns-in_default
returns-in_default c =
    let same : length (map (λ w. w.now) c.args.words.now) ≡ length c.args.words.now = length-map c.args.words.now (λ w. w.now) in
    few_ask c.args.is_quiet (map (λ w. w.now) c.args.words.now) (omega (arith, same))
