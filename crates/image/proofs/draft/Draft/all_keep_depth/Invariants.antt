use Rattle.std.proofs.Common.{◌≡◌, drop}
use Rattle.image.specs.Rules.{all_placed, in_holder, keeps_depth}
use Rattle.image.proofs.draft.Draft.all_keep_depth.Given as goal

abbrev pub invariant-loop-place : goal.invariant-loop-place
invariant-loop-place l = all_placed (λ place x. in_holder l.fn.self place (keeps_depth l.fn.self place x)) l.place (drop l.place l.fn.self.instructions) ≡ all_placed (λ place x. in_holder l.fn.self place (keeps_depth l.fn.self place x)) 0 l.fn.self.instructions
