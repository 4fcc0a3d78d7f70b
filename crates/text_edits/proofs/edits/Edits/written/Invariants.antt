use Rattle.std.proofs.Common.{◌≡◌, ◌++◌, drop}
use Rattle.text_edits.specs.Edits.{AreEditsFrom, edited, edited_from}
use Rattle.text_edits.proofs.edits.Edits.written.Given as goal

abbrev pub invariant-loop-edit : goal.invariant-loop-edit
invariant-loop-edit l =
    (l.new.items ++ edited_from l.at l.self.text (drop l.edit-index l.edits) ≡ edited l.fn.self) × AreEditsFrom l.at l.self.text (drop l.edit-index l.edits)
