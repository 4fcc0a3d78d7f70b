use Rattle.std.proofs.Common.{◌≡◌, ◌-◌, ap, length, map, rules, sym, take, ◌∙◌}
use Rattle.std.proofs.lemmas.List.{length-map, take-map}
use Rattle.command_line.proofs.until.before_until.Goals as goal

pub returns : goal.returns
returns c =
    let many : length (map (λ w. w.now) c.args.words.now) ≡ length c.args.words.now = length-map c.args.words.now (λ w. w.now) in
    let front : map (λ w. w.now) (take (length c.args.words.now - 2) c.args.words.now) ≡ take (length (map (λ w. w.now) c.args.words.now) - 2) (map (λ w. w.now) c.args.words.now) =
    sym (take-map (λ w. w.now) (length c.args.words.now - 2) c.args.words.now) ∙ ap (λ n. take (n - 2) (map (λ w. w.now) c.args.words.now)) (sym many) in
    search (rules, front)
