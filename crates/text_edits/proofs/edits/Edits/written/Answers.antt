use Rattle.std.proofs.Common.{drop, subst, sym, ◌≤◌, length}
use Rattle.ada2012_lexer.specs.declared.token.Span.{Span}
use Rattle.text_edits.specs.Edits.{AreEditsFrom}
use Rattle.text_edits.proofs.Added.{start_inside}
use Rattle.text_edits.proofs.edits.Edits.written.Goals as goal

pub slice_bounds-extend_from_slice-end : goal.slice_bounds-extend_from_slice-end
slice_bounds-extend_from_slice-end c =
    let are = subst (λ e. AreEditsFrom c.loop-edit.at e.text (drop c.loop-edit.edit-index c.as_slice-edits.result.now)) (sym c.self.view_is) c.loop-edit.invariant.1 in
    let inside = start_inside c.loop-edit.edit-index c.loop-edit.at c.self.inside.text.now c.as_slice-edits.result.now c.edit-item.result c.loop-edit-test.true c.edit-item.is are in
    subst (λ (s : Span). s.start ≤ length c.self.inside.text.now) (sym c.span-span.ensures) inside
