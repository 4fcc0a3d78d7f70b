use Rattle.std.proofs.Common.{◌∙◌, find, length}
use Rattle.remedies.specs.declared.text_tokens.DeclaredBy.TheVariants as ways
use Rattle.remedies.specs.Likeness.{is_same, name_of}
use Rattle.remedies.specs.Recognition.{kind_at}
use Rattle.remedies.specs.TextTokens.{is_declared_by, is_name_from}
use Rattle.remedies.proofs.Kept.{found_from}
use Rattle.remedies.proofs.text_tokens.TextTokens.first_same.Goals as goal

pub returns : goal.returns
returns c =
    let ts = c.args.self.now in
    let name = c.args.name.now in
    c.first_same_in.ensures
    ∙ (λ j. find (is_name_from name (c.tokens.ensures.same j) c.args.from) (c.by_word.ensures j))
    ∙ found_from (is_declared_by ways.Word ts) (λ n. is_same name (name_of (kind_at n ts))) c.args.from (length ts)
