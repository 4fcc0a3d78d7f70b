use Rattle.std.proofs.Common.{◌≡◌, drop}
use Rattle.image.specs.Rules.{all_placed, is_object}
use Rattle.image.proofs.sections.Parts.all_objects.Given as goal

abbrev pub invariant-loop-number : goal.invariant-loop-number
invariant-loop-number l = all_placed (is_object l.fn.self) l.number (drop l.number l.fn.self.objects) ≡ all_placed (is_object l.fn.self) 0 l.fn.self.objects
