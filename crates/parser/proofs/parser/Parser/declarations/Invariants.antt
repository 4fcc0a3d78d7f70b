use Rattle.std.proofs.Common.{◌≡◌, ℕ, ◌≤◌, length, map}
use Rattle.ada_tree.specs.StatementTree.{declaration_tree}
use Rattle.parser.specs.DeclarationReading.{begins_declaration, declaration_at, declarations_at}
use Rattle.parser.proofs.general.Loops.{still, pushed}
use Rattle.parser.proofs.parser.Parser.declarations.Given as goal

abbrev pub invariant-loop-self : goal.invariant-loop-self
invariant-loop-self l =
    (n : ℕ) × (length l.self.rest.now ≤ n)
    × (still pushed begins_declaration (declaration_at l.levels) n (map declaration_tree l.all.items) l.self.rest.now
    ≡ declarations_at l.levels l.fn.self.rest.now)

abbrev pub decreases-loop-self : goal.decreases-loop-self
decreases-loop-self l = length l.self.rest.now
