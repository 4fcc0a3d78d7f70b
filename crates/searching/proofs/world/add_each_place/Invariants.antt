use Rattle.std.proofs.Common.{◌≡◌, ◌++◌, drop, flat_map}
use Rattle.searching.specs.Encoding.{place_words}
use Rattle.searching.proofs.world.add_each_place.Given as goal

-- what is left, added to the words so far, is all
abbrev pub invariant-loop-place : goal.invariant-loop-place
invariant-loop-place l = l.out.items ++ flat_map place_words (drop l.place-index l.places) ≡ l.fn.out.items ++ flat_map place_words l.places
