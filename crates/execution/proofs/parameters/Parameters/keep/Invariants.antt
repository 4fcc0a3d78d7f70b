use Rattle.std.proofs.Common.{◌≡◌, ◌≤◌, take, vec_capacity}
use Rattle.base.specs.declared.limits.TheConstants.{FRAME_WORDS}
use Rattle.execution.proofs.parameters.Parameters.keep.Given as goal

abbrev pub invariant-loop-word : goal.invariant-loop-word
invariant-loop-word l = (FRAME_WORDS ≤ vec_capacity l.self-inside.words) × (l.self-inside.words.items ≡ take l.word-index l.words)
