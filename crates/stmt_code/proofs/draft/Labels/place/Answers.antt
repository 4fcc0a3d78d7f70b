use Rattle.std.proofs.Common.{◌∙◌, ap}
use Rattle.std.specs.Prelude.{bytes_eq}
use Rattle.std.specs.List.{position_or_len}
use Rattle.indexmap.specs.IndexSet.{insert_key}
use Rattle.stmt_code.proofs.Labelled.{label_inserted}
use Rattle.stmt_code.proofs.draft.Labels.place.Goals as goal

pub returns-clause-labels : goal.returns-clause-labels
returns-clause-labels c =
    label_inserted c.args.self.now c.insert_full.new.self.keys c.args.label.now c.in_ok-label.label c.in_ok-label.ensures.cases
    (c.in-Ok.ensures.keys ∙ ap (λ l. insert_key bytes_eq l c.in_ok-label.label) c.self.view_is)

pub returns-clause-place : goal.returns-clause-place
returns-clause-place c =
    c.in-Ok.ensures.index ∙ (λ j. position_or_len (bytes_eq (c.in_ok-label.ensures.cases j)) (c.self.view_is j))
