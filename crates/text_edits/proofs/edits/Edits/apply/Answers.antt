use Rattle.std.proofs.Common.{ap, subst, ◌∙◌}
use Rattle.text_edits.specs.Edits.{AreEditsFrom, line_feeds}
use Rattle.text_edits.proofs.Lines.{edited_lines}
use Rattle.text_edits.proofs.edits.Edits.apply.Goals as goal

pub returns-clause-is_edited : goal.returns-clause-is_edited
returns-clause-is_edited c =
    record { edits = c.args.self.now.edits; are = subst (λ e. AreEditsFrom 0 e.text e.edits) c.self.view_is c.self.invariant; is = c.in_ok-new.ensures }

pub returns-clause-lines : goal.returns-clause-lines
returns-clause-lines c =
    ap line_feeds c.in_ok-new.ensures ∙ edited_lines 0 c.args.self.now.text c.args.self.now.edits (subst (λ e. AreEditsFrom 0 e.text e.edits) c.self.view_is c.self.invariant)
