use Rattle.std.proofs.Common.{◌≡◌, ◌∙◌, ap, sym, take, true}
use Rattle.std.specs.Prelude.{if◌then◌else◌}
use Rattle.std.proofs.lemmas.List.{take_min}
use Rattle.source_report.specs.Marked.{is_long}
use Rattle.source_report.proofs.marked.near_back.Goals as goal

pub returns-then-is_long : goal.returns-then-is_long
returns-then-is_long c =
    let back = c.args.back.now in
    let long : is_long c.args.front.now back ≡ true = sym c.is_long.ensures ∙ c.if-is_long.true in
    ap (λ n. take n back) c.min.ensures ∙ take_min 80 back ∙ sym (ap (λ b. if b then take 80 back else back) long)
