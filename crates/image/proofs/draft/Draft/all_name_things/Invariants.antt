use Rattle.std.proofs.Common.{◌≡◌, drop}
use Rattle.image.specs.Rules.{all_placed, in_holder, names_things}
use Rattle.image.proofs.draft.Draft.all_name_things.Given as goal

abbrev pub invariant-loop-place : goal.invariant-loop-place
invariant-loop-place l = all_placed (λ place x. in_holder l.fn.self place (λ s. names_things l.fn.self s x.operation)) l.place (drop l.place l.fn.self.instructions) ≡ all_placed (λ place x. in_holder l.fn.self place (λ s. names_things l.fn.self s x.operation)) 0 l.fn.self.instructions
