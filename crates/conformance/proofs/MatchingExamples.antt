-- A declaration that follows its body, with a second fault at its place, which is the one that a text shows. Places are those in the text above it.
use Rattle.std.proofs.Common.{◌≡◌, [], ◌∷◌, None, refl, ℕ, List, Option, Some}
use Rattle.std.specs.Prelude.{codes}
use Rattle.ada_tree.specs.StatementTree.{NoStmts, MoreStmts, Null, NoHandlers, SubprogramTree, DeclarationTree, StmtTrees, HandlerTrees}
use Rattle.ada_tree.specs.ProgramTree.{OfItem, SubprogramBody, OfSubprogram as OfDeclared, BodyTree}
use Rattle.expr_rules.specs.Faults.{least}
use Rattle.conformance.specs.MatchingRules.{matching_faults}
use Rattle.lexer.specs.declared.fault.Fault.{Fault}
use Rattle.ada_tree.specs.declared.expression.Identifier.{Identifier}
use Rattle.ada_tree.specs.declared.declaration.Formal.{Formal}

abbrev identifier : ℕ → List ℕ → Identifier
identifier place text = record { name = text; place = place }

abbrev broken : ℕ → ℕ → Option Fault
broken number place = Some (record { number = number; place = place })

abbrev subprogram_of : ℕ → Identifier → List Formal → Option Identifier → SubprogramTree
subprogram_of place name formals result = record { place = place; name = name; formals = formals; result = result }

abbrev body_of : List DeclarationTree → StmtTrees → HandlerTrees → Identifier → BodyTree
body_of declarations statements handlers end_name = record { declarations = declarations; statements = statements; handlers = handlers; end_name = end_name }

-- `procedure Run; package body App is procedure Walk is begin null; end Walk; procedure Walk; procedure Run is begin null; end Run;`
body_before_its_declaration : least (matching_faults (OfDeclared (subprogram_of 0 (identifier 10 (codes "RUN")) ([]) None) ∷ []) (SubprogramBody
    (subprogram_of 35 (identifier 45 (codes "WALK")) ([]) None) (body_of ([]) (MoreStmts (Null 59) NoStmts) NoHandlers (identifier 69 (codes "WALK")))
    ∷ OfItem (OfDeclared (subprogram_of 75 (identifier 85 (codes "WALK")) ([]) None)) ∷ SubprogramBody (subprogram_of 91 (identifier 101 (codes
    "RUN")) ([]) None) (body_of ([]) (MoreStmts (Null 114) NoStmts) NoHandlers (identifier 124 (codes "RUN"))) ∷ [])) ≡ broken 18 85
body_before_its_declaration = refl
