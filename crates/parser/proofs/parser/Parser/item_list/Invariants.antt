use Rattle.std.proofs.Common.{◌≡◌, ℕ, ◌≤◌, length, map}
use Rattle.ada_tree.specs.ProgramTree.{item_tree}
use Rattle.parser.specs.ProgramReading.{begins_item, item_at, item_list_at}
use Rattle.parser.proofs.general.Loops.{still, pushed}
use Rattle.parser.proofs.parser.Parser.item_list.Given as goal

abbrev pub invariant-loop-self : goal.invariant-loop-self
invariant-loop-self l =
    (n : ℕ) × (length l.self.rest.now ≤ n)
    × (still pushed begins_item (item_at l.levels) n (map item_tree l.all.items) l.self.rest.now ≡ item_list_at l.levels l.fn.self.rest.now)

abbrev pub decreases-loop-self : goal.decreases-loop-self
decreases-loop-self l = length l.self.rest.now
