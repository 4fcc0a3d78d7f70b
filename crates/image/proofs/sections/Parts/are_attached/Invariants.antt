use Rattle.std.proofs.Common.{◌≡◌, drop}
use Rattle.image.specs.Rules.{are_attached}
use Rattle.image.proofs.sections.Parts.are_attached.Given as goal

abbrev pub invariant-loop-a : goal.invariant-loop-a
invariant-loop-a l = are_attached l.fn.self l.last (drop l.a-index l.fn.self.attachments) ≡ are_attached l.fn.self 0 l.fn.self.attachments
