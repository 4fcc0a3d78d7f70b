-- Which token lists spell a statement, and the declarations that may stand in one: a case for each production.
use Rattle.std.specs.Prelude.{◌≡◌, ℕ, Bool, true, false, List, [], ◌∷◌, Option, Some, None, ◌⊎◌}
use Rattle.lexer.specs.declared.token.TokenKind.TheVariants as kinds
use Rattle.lexer.specs.declared.word.Word.TheVariants as words
use Rattle.lexer.specs.declared.delimiter.Delimiter.TheVariants as marks
use Rattle.ada_tree.specs.declared.expression.Identifier.{Identifier}
use Rattle.ada_tree.specs.declared.statement.ExceptionChoice.{ExceptionChoice}
use Rattle.ada_tree.specs.declared.statement.ExceptionChoice.TheVariants as exceptions
use Rattle.ada_tree.specs.declared.declaration.Mode.{Mode}
use Rattle.ada_tree.specs.declared.declaration.Mode.TheVariants as modes
use Rattle.ada_tree.specs.declared.declaration.Formal.{Formal}
use Rattle.ada_tree.specs.declared.declaration.TaskEntry.{TaskEntry}
use Rattle.ada_tree.specs.ExpressionTree.{ExprTree}
use Rattle.ada_tree.specs.StatementTree.{AspectTree, ObjectTree, TaskDefinitionTree, TaskTree, SubprogramTree, EntryTree, OperationTree, OfSubprogram, OfEntry, ProtectedComponentTree, ProtectedTree, DeclarationTree, LocalObject, LocalTask, LocalProtected, RangeTree, IterationTree, Forever, While, For, ChoicesTree, Values, OtherValues, StmtTree, Null, Assignment, Call, Exit, Return, Raise, Delay, DelayUntil, If, Case, Loop, Block, Abort, Requeue, Accept, Select, StmtTrees, NoStmts, MoreStmts, ElsifTrees, NoElsifs, MoreElsifs, AlternativeTrees, NoAlternatives, MoreAlternatives, HandlerTrees, NoHandlers, MoreHandlers}
use Rattle.ada_tree.specs.Language.{Tokens, never, nothing, ◌⨾◌, word, mark, word_at, identifier, optional, each, separated, Limit, inside}
use Rattle.ada_tree.specs.ExpressionGrammar.{Simple, derives, expression, spells_name}

-- ---- declarations

abbrev pub range : Limit → RangeTree → Tokens → Type 0
range limit r = derives Simple limit r.first ⨾ mark marks.DoubleDot ⨾ derives Simple limit r.last

abbrev pub aspect : Limit → AspectTree → Tokens → Type 0
aspect limit a = word_at words.With a.place ⨾ identifier a.name ⨾ mark marks.Arrow ⨾ expression limit a.value

-- a colon, equals sign and expression
abbrev pub initial : Limit → ExprTree → Tokens → Type 0
initial limit e = mark marks.Assignment ⨾ expression limit e

abbrev pub constant : Bool → Tokens → Type 0
constant false = nothing
constant true = word words.Constant

-- what follows the colon of an object's declaration
abbrev pub object_rest : Limit → Bool → Identifier → Option ExprTree → Tokens → Type 0
object_rest limit is_constant subtype value = constant is_constant ⨾ identifier subtype ⨾ optional (initial limit) value ⨾ mark marks.Semicolon

abbrev pub object : Limit → ObjectTree → Tokens → Type 0
object limit d = identifier d.name ⨾ mark marks.Colon ⨾ object_rest limit d.constant d.subtype d.value

-- `in` may be left out
abbrev pub mode : Mode → Tokens → Type 0
mode modes.In = λ ts. nothing ts ⊎ word words.In ts
mode modes.Out = word words.Out
mode modes.InOut = word words.In ⨾ word words.Out

abbrev pub formal : Formal → Tokens → Type 0
formal f = identifier f.name ⨾ mark marks.Colon ⨾ mode f.mode ⨾ identifier f.subtype

abbrev pub formals : Limit → List Formal → Tokens → Type 0
formals limit [] = nothing
formals limit (f ∷ rest) = inside limit (λ l. mark marks.LeftParenthesis ⨾ separated (kinds.Delimiter marks.Semicolon) formal (f ∷ rest) ⨾
    mark marks.RightParenthesis)

-- a procedure, or a function with its result
abbrev pub subprogram_with : Limit → ℕ → Identifier → List Formal → Option Identifier → Tokens → Type 0
subprogram_with limit place name all None = word_at words.Procedure place ⨾ identifier name ⨾ formals limit all
subprogram_with limit place name all (Some result) = word_at words.Function place ⨾ identifier name ⨾ formals limit all ⨾ word words.Return ⨾ identifier result

abbrev pub subprogram : Limit → SubprogramTree → Tokens → Type 0
subprogram limit d = subprogram_with limit d.place d.name d.formals d.result

abbrev pub entry : Limit → EntryTree → Tokens → Type 0
entry limit d = word_at words.Entry d.place ⨾ identifier d.name ⨾ formals limit d.formals

abbrev pub task_entry : TaskEntry → Tokens → Type 0
task_entry d = word_at words.Entry d.place ⨾ identifier d.name ⨾ mark marks.Semicolon

abbrev pub task_definition : TaskDefinitionTree → Tokens → Type 0
task_definition d = word words.Is ⨾ each task_entry d.entries ⨾ word words.End ⨾ identifier d.end_name

-- what follows `task`
abbrev pub task_rest : Limit → Identifier → Option AspectTree → Option TaskDefinitionTree → Tokens → Type 0
task_rest limit name a definition = identifier name ⨾ optional (aspect limit) a ⨾ optional task_definition definition ⨾ mark marks.Semicolon

abbrev pub task : Limit → TaskTree → Tokens → Type 0
task limit d = word_at words.Task d.place ⨾ task_rest limit d.name d.aspect d.definition

abbrev pub operation : Limit → OperationTree → Tokens → Type 0
operation limit (OfSubprogram d a) = subprogram limit d ⨾ optional (aspect limit) a ⨾ mark marks.Semicolon
operation limit (OfEntry d) = entry limit d ⨾ mark marks.Semicolon

abbrev pub protected_component : Limit → ProtectedComponentTree → Tokens → Type 0
protected_component limit c = identifier c.name ⨾ mark marks.Colon ⨾ identifier c.subtype ⨾ optional (initial limit) c.value ⨾ mark marks.Semicolon

-- `private` may stand before no components
abbrev pub private_part : Limit → List ProtectedComponentTree → Tokens → Type 0
private_part limit [] = λ ts. nothing ts ⊎ word words.Private ts
private_part limit (c ∷ rest) = word words.Private ⨾ each (protected_component limit) (c ∷ rest)

-- what follows `protected`
abbrev pub protected_rest : Limit → Identifier → Option AspectTree → List OperationTree → List ProtectedComponentTree → Identifier → Tokens → Type 0
protected_rest limit name a operations components end_name =
    identifier name ⨾ optional (aspect limit) a ⨾ word words.Is ⨾ each (operation limit) operations ⨾ private_part limit components ⨾ word words.End ⨾
    identifier end_name ⨾ mark marks.Semicolon

abbrev pub protected : Limit → ProtectedTree → Tokens → Type 0
protected limit d = word_at words.Protected d.place ⨾ protected_rest limit d.name d.aspect d.operations d.components d.end_name

abbrev pub declaration : Limit → DeclarationTree → Tokens → Type 0
declaration limit (LocalObject d) = object limit d
declaration limit (LocalTask d) = task limit d
declaration limit (LocalProtected d) = protected limit d

-- ---- statements

abbrev pub reversed : Bool → Tokens → Type 0
reversed false = nothing
reversed true = word words.Reverse

-- What stands before a loop's statements. The place is that of its first token.
abbrev pub iteration : Limit → ℕ → IterationTree → Tokens → Type 0
iteration limit place Forever = word_at words.Loop place
iteration limit place (While condition) = word_at words.While place ⨾ expression limit condition ⨾ word words.Loop
iteration limit place (For parameter is_reversed r) = word_at words.For place ⨾ identifier parameter ⨾ word words.In ⨾ reversed is_reversed ⨾
    range limit r ⨾ word words.Loop

abbrev pub choices : Limit → ChoicesTree → Tokens → Type 0
choices limit (Values all) = separated (kinds.Delimiter marks.VerticalLine) (expression limit) all
choices limit (OtherValues place) = word_at words.Others place

abbrev pub exception_choice : ExceptionChoice → Tokens → Type 0
exception_choice (exceptions.Exception name) = identifier name
exception_choice (exceptions.Others place) = word_at words.Others place

abbrev pub component : Identifier → Tokens → Type 0
component name = mark marks.Dot ⨾ identifier name

-- the declarations of a block
abbrev pub block_declarations : Limit → ℕ → List DeclarationTree → Tokens → Type 0
block_declarations limit place [] = λ ts. word_at words.Begin place ts ⊎ (word_at words.Declare place ⨾ word words.Begin) ts
block_declarations limit place (d ∷ rest) = word_at words.Declare place ⨾ each (declaration limit) (d ∷ rest) ⨾ word words.Begin

-- Tokens without `select`. The pair that ends a select statement can then not begin in them.
abbrev pub selected : Tokens → Type 0
selected [] = Unit {0}
selected (t ∷ ts) = (t.kind ≡ kinds.Word words.Select → ⊥) × selected ts

abbrev mutual
  pub stmt : StmtTree → Limit → Tokens → Type 0
  stmt (Null place) limit = word_at words.Null place ⨾ mark marks.Semicolon
  stmt (Assignment target value) limit = spells_name limit target ⨾ mark marks.Assignment ⨾ expression limit value ⨾ mark marks.Semicolon
  stmt (Call name) limit = spells_name limit name ⨾ mark marks.Semicolon
  stmt (Exit place condition) limit = word_at words.Exit place ⨾ optional (λ e. word words.When ⨾ expression limit e) condition ⨾ mark marks.Semicolon
  stmt (Return place value) limit = word_at words.Return place ⨾ optional (expression limit) value ⨾ mark marks.Semicolon
  stmt (Raise place name) limit = word_at words.Raise place ⨾ optional identifier name ⨾ mark marks.Semicolon
  stmt (Delay place value) limit = word_at words.Delay place ⨾ expression limit value ⨾ mark marks.Semicolon
  stmt (DelayUntil place value) limit = word_at words.Delay place ⨾ word words.Until ⨾ expression limit value ⨾ mark marks.Semicolon
  stmt (If place condition then_part elsif_parts else_part) limit =
      inside limit (λ l. word_at words.If place ⨾ expression l condition ⨾ word words.Then ⨾ stmts then_part l ⨾ elsifs elsif_parts l ⨾ else_stmts else_part l
      ⨾ word words.End ⨾ word words.If ⨾ mark marks.Semicolon)
  stmt (Case place value all) limit =
      inside limit (λ l. word_at words.Case place ⨾ expression l value ⨾ word words.Is ⨾ some_alternatives all l ⨾ word words.End ⨾ word words.Case ⨾
      mark marks.Semicolon)
  stmt (Loop place turns body) limit =
      inside limit (λ l. iteration l place turns ⨾ stmts body l ⨾ word words.End ⨾ word words.Loop ⨾ mark marks.Semicolon)
  stmt (Block place declarations body all) limit =
      inside limit (λ l. block_declarations l place declarations ⨾ stmts body l ⨾ handlers all l ⨾ word words.End ⨾ mark marks.Semicolon)
  stmt (Abort place name) limit = word_at words.Abort place ⨾ identifier name ⨾ mark marks.Semicolon
  stmt (Requeue place first second) limit = word_at words.Requeue place ⨾ identifier first ⨾ optional component second ⨾ mark marks.Semicolon
  stmt (Accept place name) limit = word_at words.Accept place ⨾ identifier name ⨾ mark marks.Semicolon
  stmt (Select place) limit = word_at words.Select place ⨾ selected ⨾ word words.End ⨾ word words.Select ⨾ mark marks.Semicolon

  -- one or more
  pub stmts : StmtTrees → Limit → Tokens → Type 0
  stmts NoStmts limit = never
  stmts (MoreStmts s rest) limit = stmt s limit ⨾ further_stmts rest limit

  pub further_stmts : StmtTrees → Limit → Tokens → Type 0
  further_stmts NoStmts limit = nothing
  further_stmts (MoreStmts s rest) limit = stmt s limit ⨾ further_stmts rest limit

  pub else_stmts : StmtTrees → Limit → Tokens → Type 0
  else_stmts NoStmts limit = nothing
  else_stmts (MoreStmts s rest) limit = word words.Else ⨾ stmt s limit ⨾ further_stmts rest limit

  pub elsifs : ElsifTrees → Limit → Tokens → Type 0
  elsifs NoElsifs limit = nothing
  elsifs (MoreElsifs condition body rest) limit = (word words.Elsif ⨾ expression limit condition ⨾ word words.Then ⨾ stmts body limit) ⨾ elsifs rest limit

  pub some_alternatives : AlternativeTrees → Limit → Tokens → Type 0
  some_alternatives NoAlternatives limit = never
  some_alternatives (MoreAlternatives place all body rest) limit = (word_at words.When place ⨾ choices limit all ⨾ mark marks.Arrow ⨾ stmts body limit) ⨾
      alternatives rest limit

  pub alternatives : AlternativeTrees → Limit → Tokens → Type 0
  alternatives NoAlternatives limit = nothing
  alternatives (MoreAlternatives place all body rest) limit = (word_at words.When place ⨾ choices limit all ⨾ mark marks.Arrow ⨾ stmts body limit) ⨾
      alternatives rest limit

  -- after `exception`, if there are any
  pub handlers : HandlerTrees → Limit → Tokens → Type 0
  handlers NoHandlers limit = nothing
  handlers (MoreHandlers all body rest) limit =
      word words.Exception ⨾ (word words.When ⨾ separated (kinds.Delimiter marks.VerticalLine) exception_choice all ⨾ mark marks.Arrow ⨾ stmts body limit) ⨾
      further_handlers rest limit

  pub further_handlers : HandlerTrees → Limit → Tokens → Type 0
  further_handlers NoHandlers limit = nothing
  further_handlers (MoreHandlers all body rest) limit =
      (word words.When ⨾ separated (kinds.Delimiter marks.VerticalLine) exception_choice all ⨾ mark marks.Arrow ⨾ stmts body limit) ⨾
      further_handlers rest limit
