-- A barrier with a formal of its entry, which breaks no rule here: the profile leaves it out. Places are those in the text above it.
use Rattle.std.proofs.Common.{◌≡◌, [], ◌∷◌, None, refl}
use Rattle.std.specs.Prelude.{codes}
use Rattle.ada_tree.specs.declared.expression.BinaryOperator.TheVariants as binary
use Rattle.ada_tree.specs.declared.declaration.Mode.TheVariants as mode
use Rattle.ada_tree.specs.ExpressionTree.{Named, NoSelectors}
use Rattle.ada_tree.specs.StatementTree.{NoStmts, MoreStmts, Assignment, NoHandlers}
use Rattle.ada_tree.specs.ProgramTree.{EntryBody, ProtectedBody}
use Rattle.expr_rules.specs.Faults.{least}
use Rattle.unit_rules.specs.PackageBodyRules.{body_items_faults}
use Rattle.unit_rules.proofs.Sample.{identifier, num, two, name_of, formal_of, body_of, visible}

-- ---- protected bodies

-- `protected body P is entry Take (X : out Integer) when X = 1 is begin X := V; Full := False; end Take; end P;`
formal_in_the_barrier : least (body_items_faults visible (ProtectedBody (identifier 15 (codes "P")) (EntryBody (record {
  place = 20;
  name =
      (identifier 26 (codes "TAKE"));
  formals = formal_of (identifier 32 (codes "X")) mode.Out (identifier 40 (codes "INTEGER")) ∷ [];
}) (two
    binary.Equal (Named (identifier 54 (codes "X")) NoSelectors) (num 58 1)) (body_of ([]) (MoreStmts (Assignment (name_of (identifier 69 (codes "X"))
    NoSelectors) (Named (identifier 74 (codes "V")) NoSelectors)) (MoreStmts (Assignment (name_of (identifier 77 (codes "FULL")) NoSelectors) (Named
    (identifier 85 (codes "FALSE")) NoSelectors)) NoStmts)) NoHandlers (identifier 96 (codes "TAKE"))) ∷ []) (identifier 106 (codes "P")) ∷ [])) ≡
    None
formal_in_the_barrier = refl
