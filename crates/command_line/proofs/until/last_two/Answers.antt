use Rattle.std.proofs.Common.{◌≡◌, ◌-◌, ap, drop, length, map, sym, ◌∙◌, rules}
use Rattle.std.proofs.lemmas.List.{drop-map, length-map}
use Rattle.command_line.proofs.until.last_two.Goals as goal

pub returns : goal.returns
returns c =
    let many : length (map (λ w. w.now) c.args.words.now) ≡ length c.args.words.now = length-map c.args.words.now (λ w. w.now) in
    let end_ : map (λ w. w.now) (drop (length c.args.words.now - 2) c.args.words.now) ≡ drop (length (map (λ w. w.now) c.args.words.now) - 2) (map (λ w. w.now) c.args.words.now) =
    sym (drop-map (λ w. w.now) (length c.args.words.now - 2) c.args.words.now) ∙ ap (λ n. drop (n - 2) (map (λ w. w.now) c.args.words.now)) (sym many) in
    search (rules, end_)
