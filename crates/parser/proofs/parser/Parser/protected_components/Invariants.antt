use Rattle.std.proofs.Common.{◌≡◌, ℕ, ◌≤◌, length, map}
use Rattle.ada_tree.specs.StatementTree.{protected_component_tree}
use Rattle.parser.specs.MoreReading.{is_identifier}
use Rattle.parser.specs.DeclarationReading.{protected_component_at, protected_components_at}
use Rattle.parser.proofs.general.Loops.{still, pushed}
use Rattle.parser.proofs.parser.Parser.protected_components.Given as goal

abbrev pub invariant-loop-self : goal.invariant-loop-self
invariant-loop-self l =
    (n : ℕ) × (length l.self.rest.now ≤ n)
    × (still pushed is_identifier (protected_component_at l.levels) n (map protected_component_tree l.all.items) l.self.rest.now
    ≡ protected_components_at l.levels l.fn.self.rest.now)

abbrev pub decreases-loop-self : goal.decreases-loop-self
decreases-loop-self l = length l.self.rest.now
