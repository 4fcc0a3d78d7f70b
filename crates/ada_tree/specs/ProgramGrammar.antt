-- Which token lists spell a whole text: a case for each production.
use Rattle.lexer.specs.declared.word.Word.TheVariants as words
use Rattle.lexer.specs.declared.delimiter.Delimiter.TheVariants as marks
use Rattle.ada_tree.specs.declared.expression.Identifier.{Identifier}
use Rattle.ada_tree.specs.declared.declaration.Component.{Component}
use Rattle.ada_tree.specs.declared.program.Pragma.{Pragma}
use Rattle.ada_tree.specs.declared.program.UnitName.{UnitName}
use Rattle.ada_tree.specs.declared.program.UnitClause.{UnitClause}
use Rattle.ada_tree.specs.declared.program.MainStatement.{MainStatement}
use Rattle.ada_tree.specs.declared.program.MainStatement.TheVariants as main_statements
use Rattle.ada_tree.specs.ProgramTree.{IndexTree, OfRange, OfSubtype, DefinitionTree, Integer, Array, Record, Subtype, TypeTree, BodyTree, ItemTree, OfType, OfObject, OfException, OfSubprogram, OfTask, OfProtected, ProtectedItemTree, OperationBody, EntryBody, BodyItemTree, OfItem, SubprogramBody, TaskBody, ProtectedBody, PackageDeclarationTree, PackageBodyTree, PackageTree, MainTree, ProgramTree}
use Rattle.ada_tree.specs.StatementTree.{RangeTree}
use Rattle.ada_tree.specs.Language.{Tokens, ◌⨾◌, word, mark, word_at, identifier, optional, each, some, Limit, inside}
use Rattle.ada_tree.specs.ExpressionGrammar.{expression}
use Rattle.ada_tree.specs.StatementGrammar.{range, aspect, object, subprogram, entry, task, protected, declaration, stmts, handlers, component}

abbrev pub index : Limit → IndexTree → Tokens → Type 0
index limit (OfRange r) = range limit r
index limit (OfSubtype name) = identifier name

abbrev pub record_component : Component → Tokens → Type 0
record_component c = identifier c.name ⨾ mark marks.Colon ⨾ identifier c.subtype ⨾ mark marks.Semicolon

-- a range after `range`
abbrev pub constraint : Limit → RangeTree → Tokens → Type 0
constraint limit r = word words.Range ⨾ range limit r

abbrev pub type_declaration_of : Limit → Identifier → DefinitionTree → Tokens → Type 0
type_declaration_of limit name (Integer r) = word words.Type ⨾ identifier name ⨾ word words.Is ⨾ word words.Range ⨾ range limit r ⨾ mark marks.Semicolon
type_declaration_of limit name (Array i components) =
    word words.Type ⨾ identifier name ⨾ word words.Is ⨾ word words.Array
    ⨾ inside limit (λ l. mark marks.LeftParenthesis ⨾ index l i ⨾ mark marks.RightParenthesis) ⨾ word words.Of ⨾ identifier components ⨾ mark marks.Semicolon
type_declaration_of limit name (Record components) =
    word words.Type ⨾ identifier name ⨾ word words.Is ⨾ word words.Record ⨾ some record_component components ⨾ word words.End ⨾ word words.Record ⨾
    mark marks.Semicolon
type_declaration_of limit name (Subtype parent r) =
    word words.Subtype ⨾ identifier name ⨾ word words.Is ⨾ identifier parent ⨾ optional (constraint limit) r ⨾ mark marks.Semicolon

abbrev pub type_declaration : Limit → TypeTree → Tokens → Type 0
type_declaration limit d = type_declaration_of limit d.name d.definition

abbrev pub item : Limit → ItemTree → Tokens → Type 0
item limit (OfType d) = type_declaration limit d
item limit (OfObject d) = object limit d
item limit (OfException name) = identifier name ⨾ mark marks.Colon ⨾ word words.Exception ⨾ mark marks.Semicolon
item limit (OfSubprogram d) = subprogram limit d ⨾ mark marks.Semicolon
item limit (OfTask d) = task limit d
item limit (OfProtected d) = protected limit d

abbrev pub body : Limit → BodyTree → Tokens → Type 0
body limit b = each (declaration limit) b.declarations ⨾ word words.Begin ⨾ stmts b.statements limit ⨾ handlers b.handlers limit ⨾ word words.End ⨾
    identifier b.end_name ⨾ mark marks.Semicolon

abbrev pub protected_item : Limit → ProtectedItemTree → Tokens → Type 0
protected_item limit (OperationBody d b) = subprogram limit d ⨾ word words.Is ⨾ body limit b
protected_item limit (EntryBody d barrier b) = entry limit d ⨾ word words.When ⨾ expression limit barrier ⨾ word words.Is ⨾ body limit b

abbrev pub body_item : Limit → BodyItemTree → Tokens → Type 0
body_item limit (OfItem d) = item limit d
body_item limit (SubprogramBody d b) = subprogram limit d ⨾ word words.Is ⨾ body limit b
body_item limit (TaskBody name b) = word words.Task ⨾ word words.Body ⨾ identifier name ⨾ word words.Is ⨾ body limit b
body_item limit (ProtectedBody name items end_name) =
    word words.Protected ⨾ word words.Body ⨾ identifier name ⨾ word words.Is ⨾ each (protected_item limit) items ⨾ word words.End ⨾ identifier end_name ⨾
    mark marks.Semicolon

abbrev pub unit_name : UnitName → Tokens → Type 0
unit_name u = identifier u.first ⨾ optional component u.second

abbrev pub unit_clause : UnitClause → Tokens → Type 0
unit_clause c = word_at words.With c.place ⨾ unit_name c.unit ⨾ mark marks.Semicolon ⨾ word words.Use ⨾ unit_name c.used ⨾ mark marks.Semicolon

abbrev pub package_declaration : Limit → PackageDeclarationTree → Tokens → Type 0
package_declaration limit d =
    word_at words.Package d.place ⨾ identifier d.name ⨾ word words.Is ⨾ each (item limit) d.items ⨾ word words.End ⨾ identifier d.end_name ⨾
    mark marks.Semicolon

abbrev pub package_body : Limit → PackageBodyTree → Tokens → Type 0
package_body limit d =
    word_at words.Package d.place ⨾ word words.Body ⨾ identifier d.name ⨾ word words.Is ⨾ each (body_item limit) d.items ⨾ word words.End ⨾
    identifier d.end_name ⨾ mark marks.Semicolon

-- a package, and main's `with` of it
abbrev pub package_part : Limit → PackageTree → Tokens → Type 0
package_part limit p =
    each unit_clause p.clauses ⨾ package_declaration limit p.declaration ⨾ package_body limit p.body ⨾ word words.With ⨾ identifier p.with_name ⨾
    mark marks.Semicolon

abbrev pub main_statement : MainStatement → Tokens → Type 0
main_statement (main_statements.Null place) = word_at words.Null place ⨾ mark marks.Semicolon
main_statement (main_statements.Call name procedure) = identifier name ⨾ mark marks.Dot ⨾ identifier procedure ⨾ mark marks.Semicolon

abbrev pub main : Limit → MainTree → Tokens → Type 0
main limit m =
    word_at words.Procedure m.place ⨾ identifier m.name ⨾ optional (aspect limit) m.aspect ⨾ word words.Is ⨾ word words.Begin ⨾ some main_statement m.statements
    ⨾ word words.End ⨾ identifier m.end_name ⨾ mark marks.Semicolon

abbrev pub pragma_clause : Pragma → Tokens → Type 0
pragma_clause p =
    word_at words.Pragma p.place ⨾ identifier p.name ⨾ mark marks.LeftParenthesis ⨾ identifier p.argument ⨾ mark marks.RightParenthesis ⨾ mark marks.Semicolon

abbrev pub program : Limit → ProgramTree → Tokens → Type 0
program limit p = each pragma_clause p.pragmas ⨾ optional (package_part limit) p.package_ ⨾ main limit p.main
