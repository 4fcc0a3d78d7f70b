use Rattle.std.proofs.Common.{ap, sym, ◌∙◌}
use Rattle.handlers.specs.Handlers.{subprogram_at}
use Rattle.image.specs.Sections.{ends_of}
use Rattle.image.proofs.RowTables.{holder_by_ends}
use Rattle.image.proofs.draft.Draft.holder_number.Goals as goal

pub returns : goal.returns
returns c =
    c.number.ensures ∙ (ap (λ e. subprogram_at e c.args.place) (c.self.invariant ∙ ap (λ i. ends_of i.subprograms) c.self.view_is) ∙ sym (holder_by_ends c.args.self.now.subprograms c.args.place))
