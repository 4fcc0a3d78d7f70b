-- What stands in a body (docs/LANGUAGE.md, "Limits"): the objects of its frame with their words, and the labels of its calls.
use Rattle.std.specs.Prelude.{ℕ, List, [], ◌∷◌, ◌++◌, Some, None}
use Rattle.base.specs.declared.limits.TheConstants.{FRAME_WORDS}
use Rattle.ada_tree.specs.declared.expression.Identifier.{Identifier}
use Rattle.ada_tree.specs.declared.declaration.Formal.{Formal}
use Rattle.ada_tree.specs.ExpressionTree.{SelectorTrees, MoreSelectors, Arguments, ArgumentTrees, MoreArguments, Text}
use Rattle.ada_tree.specs.StatementTree.{DeclarationTree, LocalObject, StmtTree, Call, If, Case, Loop, Block, StmtTrees, NoStmts, MoreStmts, ElsifTrees}
use Rattle.ada_tree.specs.StatementTree.{NoElsifs, MoreElsifs, AlternativeTrees, NoAlternatives, MoreAlternatives, HandlerTrees, NoHandlers, MoreHandlers}
use Rattle.ada_tree.specs.ProgramTree.{BodyTree}
use Rattle.types.specs.Layouts.{capped, words_of}
use Rattle.types.specs.Scopes.{Scope}
use Rattle.expr_rules.specs.Faults.{Faults}
use Rattle.type_rules.specs.SubtypeNames.{subtype_of}
use Rattle.size_rules.specs.declared.thing.Thing.{Thing}
use Rattle.size_rules.specs.declared.thing.Thing.TheVariants.{Label, Object}
use Rattle.size_rules.specs.Limits.{Things, words_faults}

-- ---- objects: the words of the subtype that is named; an object of what is no subtype takes none

abbrev pub words_named : Scope → Identifier → ℕ
words_named s name = elim (subtype_of s name) [ Some t ↦ capped (words_of s t) | None ↦ 0 ]

abbrev pub sized_object : Scope → (name subtype : Identifier) → Thing
sized_object s name subtype = Object name.place (words_named s subtype)

-- a formal takes the words of its subtype, whatever its mode
abbrev pub formals_things : Scope → List Formal → Things
formals_things s [] = []
formals_things s (f ∷ fs) = sized_object s f.name f.subtype ∷ formals_things s fs

-- constants of a body take words too; a task or protected object in a body, which is refused for itself, takes none
abbrev pub local_things : Scope → DeclarationTree → Things
local_things s (LocalObject d) = sized_object s d.name d.subtype ∷ []
local_things s d = []

abbrev pub locals_things : Scope → List DeclarationTree → Things
locals_things s [] = []
locals_things s (d ∷ ds) = local_things s d ++ locals_things s ds

-- ---- labels: the first argument of a call; anywhere else a label has no meaning (12)

abbrev pub first_argument : ArgumentTrees → Things
first_argument (MoreArguments (Text text place) rest) = Label text place ∷ []
first_argument _ = []

abbrev pub call_things : SelectorTrees → Things
call_things (MoreSelectors (Arguments arguments) rest) = first_argument arguments
call_things _ = []

-- ---- statements, with what stands in them; blocks beside each other add up, and loop parameters are not counted

abbrev mutual
  pub stmt_things : Scope → StmtTree → Things
  stmt_things s (Call name) = call_things name.selectors
  stmt_things s (If place condition body elsifs others) = stmts_things s body ++ elsifs_things s elsifs ++ stmts_things s others
  stmt_things s (Case place value all) = alternatives_things s all
  stmt_things s (Loop place iteration body) = stmts_things s body
  stmt_things s (Block place locals body all) = locals_things s locals ++ stmts_things s body ++ handlers_things s all
  stmt_things s simple = []

  pub stmts_things : Scope → StmtTrees → Things
  stmts_things s NoStmts = []
  stmts_things s (MoreStmts x rest) = stmt_things s x ++ stmts_things s rest

  pub elsifs_things : Scope → ElsifTrees → Things
  elsifs_things s NoElsifs = []
  elsifs_things s (MoreElsifs condition body rest) = stmts_things s body ++ elsifs_things s rest

  pub alternatives_things : Scope → AlternativeTrees → Things
  alternatives_things s NoAlternatives = []
  alternatives_things s (MoreAlternatives place choices body rest) = stmts_things s body ++ alternatives_things s rest

  pub handlers_things : Scope → HandlerTrees → Things
  handlers_things s NoHandlers = []
  handlers_things s (MoreHandlers choices body rest) = stmts_things s body ++ handlers_things s rest

-- ---- bodies. What is declared in one is no subtype, so its subtypes are those that are visible in front of it

abbrev pub body_things : Scope → List Formal → BodyTree → Things
body_things s formals b = formals_things s formals ++ locals_things s b.declarations ++ stmts_things s b.statements ++ handlers_things s b.handlers

-- 23, at the formal or local: the words of the body's objects pass the limit
abbrev pub body_faults : Scope → List Formal → BodyTree → Faults
body_faults s formals b = words_faults FRAME_WORDS (body_things s formals b)
