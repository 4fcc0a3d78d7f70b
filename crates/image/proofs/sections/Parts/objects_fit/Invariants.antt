use Rattle.std.proofs.Common.{drop}
use Rattle.image.specs.WordRanges.{ObjectsFit}
use Rattle.image.proofs.sections.Parts.objects_fit.Given as goal

abbrev pub invariant-loop-o : goal.invariant-loop-o
invariant-loop-o l = ObjectsFit (drop l.o-index l.fn.self.objects) → ObjectsFit l.fn.self.objects
