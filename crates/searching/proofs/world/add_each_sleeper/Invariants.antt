use Rattle.std.proofs.Common.{◌≡◌, ◌++◌, drop, flat_map}
use Rattle.searching.specs.Encoding.{sleeper_words}
use Rattle.searching.proofs.world.add_each_sleeper.Given as goal

-- what is left, added to the words so far, is all
abbrev pub invariant-loop-sleeper : goal.invariant-loop-sleeper
invariant-loop-sleeper l = l.out.items ++ flat_map sleeper_words (drop l.sleeper-index l.sleepers) ≡ l.fn.out.items ++ flat_map sleeper_words l.sleepers
