use Rattle.std.proofs.Common.{inl, ap, ◌∙◌}
use Rattle.image.specs.Sections.{ends_of}
use Rattle.image.proofs.RowTables.{refused_for_memory, rows_sound}
use Rattle.image.proofs.draft.Draft.build.Goals as goal

pub returns-in-Err-clause-refused : goal.returns-in-Err-clause-refused
returns-in-Err-clause-refused c =
    let ends = c.ends.ensures ∙ (c.self.invariant ∙ ap (λ i. ends_of i.subprograms) c.self.view_is) in
    let rows = c.in_ok-rows.ensures.ok ∙ ap (λ i. i.rows) c.self.view_is in
    inl (refused_for_memory _ c.in-Err.fault c.broken.ensures (c.in-Err.ensures.accepted (rw ends (rw rows (rows_sound c.args.self c.in_ok-check.ensures.well_formed)))))
