use Rattle.std.proofs.Common.{◌≡◌, ◌+◌, drop, length, nat_le, sum_by}
use Rattle.base.specs.declared.limits.TheConstants.{WORDS}
use Rattle.image.proofs.sections.Parts.has_words.Given as goal

abbrev pub invariant-loop-o : goal.invariant-loop-o
invariant-loop-o l = nat_le (sum_by (λ o. length o.words) (drop l.o-index l.fn.self.objects)) l.left ≡ nat_le (length l.fn.self.plain_words + sum_by (λ o. length o.words) l.fn.self.objects) WORDS
