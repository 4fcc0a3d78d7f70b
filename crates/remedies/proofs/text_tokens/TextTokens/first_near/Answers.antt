use Rattle.std.proofs.Common.{◌∙◌, find, length}
use Rattle.remedies.specs.declared.text_tokens.DeclaredBy.TheVariants as ways
use Rattle.remedies.specs.TextTokens.{is_declared_by, is_near_name}
use Rattle.remedies.proofs.Kept.{found_all}
use Rattle.remedies.proofs.text_tokens.TextTokens.first_near.Goals as goal

pub returns : goal.returns
returns c =
    let ts = c.args.self.now in
    let name = c.args.name.now in
    c.first_near_in.ensures
    ∙ (λ j. find (is_near_name name (c.tokens.ensures.same j)) (c.by_either.ensures j))
    ∙ found_all (is_declared_by ways.Either ts) (is_near_name name ts) 0 (length ts)
