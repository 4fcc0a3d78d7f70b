use Rattle.std.proofs.Common.{◌+◌, ◌∷◌, ◌∙◌, ap, sym, take}
use Rattle.std.specs.List.{slice_split}
use Rattle.choices.specs.Texts.{is_bar}
use Rattle.choices.proofs.Parts.{rest_whole, split_alone, split_at}
use Rattle.choices.proofs.ranges.first_part.Goals as goal

pub returns-in-Some-clause-parts : goal.returns-in-Some-clause-parts
returns-in-Some-clause-parts c =
    split_at is_bar c.args.text.now c.in-Some.at (sym c.bar_at.ensures ∙ c.in-Some.is)
    ∙ ap (λ x. take c.in-Some.at c.args.text.now ∷ slice_split is_bar x) (sym (rest_whole (c.in-Some.at + 1) c.args.text.now))

pub returns-in-None-clause-parts : goal.returns-in-None-clause-parts
returns-in-None-clause-parts c = split_alone is_bar c.args.text.now (sym c.bar_at.ensures ∙ c.in-None.is)
