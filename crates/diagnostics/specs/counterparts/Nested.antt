-- Names that blocks declare and loops have, where the place is in them (RM 5.5, 5.6).
use Rattle.std.specs.Prelude.{ℕ, Bool, List, Option, Some, None, if◌then◌else◌}
use Rattle.std.specs.List.{list_any}
use Rattle.ada_tree.specs.ProgramTree.{BodyTree}
use Rattle.ada_tree.specs.StatementTree.{AlternativeTrees, Block, Case, DeclarationTree, ElsifTrees, For, HandlerTrees, If, IterationTree, Loop, MoreAlternatives, MoreElsifs, MoreHandlers, MoreStmts, NoAlternatives, NoElsifs, NoHandlers, NoStmts, StmtTree, StmtTrees}
use Rattle.diagnostics.specs.counterparts.Fronts.{first_local, in_front, is_at, local_name, or_first}

-- What is found of a part of a text: None where no name that it declares is at the place, and else the place of another one that is visible there,
-- where the part declares such a one too.
abbrev pub Found : Type 0
Found = Option (Option ℕ)

abbrev pub first_in : Found → Found → Found
first_in (Some other) rest = Some other
first_in None rest = rest

-- what is found inside, and else what stands around it
abbrev pub around : Option ℕ → Found → Found
around own (Some other) = Some (or_first other own)
around own None = None

abbrev pub has_local : ℕ → List DeclarationTree → Bool
has_local place declarations = list_any (λ d. is_at place (local_name d)) declarations

abbrev pub in_block : List ℕ → ℕ → List DeclarationTree → Found → Found
in_block name place declarations inside =
    if has_local place declarations then Some (first_local name place declarations) else around (first_local name place declarations) inside

abbrev pub in_loop : List ℕ → ℕ → IterationTree → Found → Found
in_loop name place (For parameter reversed range) inside = if is_at place parameter then Some None else around (in_front name place parameter) inside
in_loop name place iteration inside = inside

abbrev mutual
  pub within_stmt : List ℕ → ℕ → StmtTree → Found
  within_stmt name place (If start condition body elsifs others) =
      first_in (first_in (within_stmts name place body) (within_elsifs name place elsifs)) (within_stmts name place others)
  within_stmt name place (Case start value all) = within_alternatives name place all
  within_stmt name place (Loop start iteration body) = in_loop name place iteration (within_stmts name place body)
  within_stmt name place (Block start declarations body all) =
      in_block name place declarations (first_in (within_stmts name place body) (within_handlers name place all))
  within_stmt name place simple = None

  pub within_stmts : List ℕ → ℕ → StmtTrees → Found
  within_stmts name place NoStmts = None
  within_stmts name place (MoreStmts x rest) = first_in (within_stmt name place x) (within_stmts name place rest)

  pub within_elsifs : List ℕ → ℕ → ElsifTrees → Found
  within_elsifs name place NoElsifs = None
  within_elsifs name place (MoreElsifs condition body rest) = first_in (within_stmts name place body) (within_elsifs name place rest)

  pub within_alternatives : List ℕ → ℕ → AlternativeTrees → Found
  within_alternatives name place NoAlternatives = None
  within_alternatives name place (MoreAlternatives start choices body rest) = first_in (within_stmts name place body) (within_alternatives name place rest)

  pub within_handlers : List ℕ → ℕ → HandlerTrees → Found
  within_handlers name place NoHandlers = None
  within_handlers name place (MoreHandlers choices body rest) = first_in (within_stmts name place body) (within_handlers name place rest)

abbrev pub other_in : Found → Option ℕ
other_in (Some other) = other
other_in None = None

-- in the statements and handlers of a body
abbrev pub nested_in : List ℕ → ℕ → BodyTree → Option ℕ
nested_in name place b = other_in (first_in (within_stmts name place b.statements) (within_handlers name place b.handlers))
