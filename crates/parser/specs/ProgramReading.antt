-- How whole texts are read, with so many levels.
use Rattle.std.specs.Prelude.{ℕ, Bool, true, false, ◌||◌, Option, Some, None, List, [], ◌∷◌, Ok}
use Rattle.lexer.specs.declared.token.Token.{Token}
use Rattle.lexer.specs.declared.token.TokenKind.{TokenKind}
use Rattle.lexer.specs.declared.token.TokenKind.TheVariants as kinds
use Rattle.lexer.specs.declared.word.Word.{Word}
use Rattle.lexer.specs.declared.word.Word.TheVariants as words
use Rattle.lexer.specs.declared.delimiter.Delimiter.TheVariants as marks
use Rattle.ada_tree.specs.declared.expression.Identifier.{Identifier}
use Rattle.ada_tree.specs.declared.declaration.Component.{Component}
use Rattle.ada_tree.specs.declared.program.Pragma.{Pragma}
use Rattle.ada_tree.specs.declared.program.UnitName.{UnitName}
use Rattle.ada_tree.specs.declared.program.UnitClause.{UnitClause}
use Rattle.ada_tree.specs.declared.program.MainStatement.{MainStatement}
use Rattle.ada_tree.specs.declared.program.MainStatement.TheVariants as main_statements
use Rattle.ada_tree.specs.ExpressionTree.{ExprTree, bare_name}
use Rattle.ada_tree.specs.StatementTree.{AspectTree, TaskDefinitionTree, RangeTree, SubprogramTree}
use Rattle.ada_tree.specs.ProgramTree.{IndexTree, OfRange, OfSubtype, DefinitionTree, Integer, Array, Record, Subtype, TypeTree, BodyTree, ItemTree, OfType}
use Rattle.ada_tree.specs.ProgramTree.{OfObject, OfException, OfSubprogram, OfTask, OfProtected, ProtectedItemTree, OperationBody, EntryBody, BodyItemTree}
use Rattle.ada_tree.specs.ProgramTree.{OfItem, SubprogramBody, TaskBody, ProtectedBody, PackageDeclarationTree, PackageBodyTree, PackageTree, MainTree}
use Rattle.ada_tree.specs.ProgramTree.{ProgramTree}
use Rattle.parser.specs.Reading.{Reader, refuse, is_next, is_word, is_mark, word_of, identifier_of, seq, after, mapped, choose, many, several, nothing, opened}
use Rattle.parser.specs.Reading.{skip_mark}
use Rattle.parser.specs.MoreReading.{past_word, past_mark, ended, perhaps, Either, Left, Right, either, by_word, is_identifier}
use Rattle.parser.specs.ExpressionReading.{expression_at, simple_at}
use Rattle.parser.specs.DeclarationReading.{range_at, aspect_part, object_rest_at, object_of, subprogram_at, entry_at, task_rest_at, task_of, task_at}
use Rattle.parser.specs.DeclarationReading.{begins_operation, protected_rest_at, protected_of, protected_at, declarations_at, ProtectedParts}
use Rattle.parser.specs.StatementReading.{Readers, readers, component_part, statements_at, handlers_at}

-- ---- types

abbrev pub named_index : Option Identifier → Reader IndexTree
named_index None = refuse false
named_index (Some name) = nothing (OfSubtype name)

-- the rest of a range, or nothing more after a name
abbrev pub index_rest_at : ℕ → ExprTree → Reader IndexTree
index_rest_at k x =
    choose (is_mark marks.DoubleDot) (mapped (λ y. OfRange (record { first = x; last = y })) (past_mark marks.DoubleDot (simple_at k)))
    (named_index (bare_name x))

abbrev pub index_at : ℕ → Reader IndexTree
index_at k = after (simple_at k) (index_rest_at k)

abbrev pub index_in : Readers → Reader IndexTree
index_in r = past_mark marks.LeftParenthesis (ended (index_at r.levels) (skip_mark marks.RightParenthesis))

-- the index of an array type, in its parentheses
abbrev pub array_index_at : ℕ → Reader IndexTree
array_index_at k = choose (is_mark marks.LeftParenthesis) (opened (readers k) index_in) (refuse false)

abbrev pub component_at : Reader Component
component_at = mapped (λ x. record { name = x.0; subtype = x.1 }) (seq identifier_of (past_mark marks.Colon (ended identifier_of (skip_mark marks.Semicolon))))

abbrev pub integer_at : ℕ → Reader DefinitionTree
integer_at k = mapped Integer (past_word words.Range (ended (range_at k) (skip_mark marks.Semicolon)))

abbrev pub array_at : ℕ → Reader DefinitionTree
array_at k = mapped (λ x. Array x.0 x.1) (past_word words.Array (seq (array_index_at k) (past_word words.Of (ended identifier_of (skip_mark marks.Semicolon)))))

abbrev pub component_list_at : Reader (List Component)
component_list_at = several is_identifier component_at

abbrev pub record_at : Reader DefinitionTree
record_at = mapped Record (past_word words.Record (ended component_list_at (past_word words.End (past_word words.Record (skip_mark marks.Semicolon)))))

-- what follows `is` in the declaration of a type
abbrev pub definition_at : ℕ → Reader DefinitionTree
definition_at k = choose (is_word words.Range) (integer_at k) (choose (is_word words.Array) (array_at k) record_at)

abbrev pub type_at : ℕ → Reader TypeTree
type_at k = mapped (λ x. record { name = x.0; definition = x.1 }) (past_word words.Type (seq identifier_of (past_word words.Is (definition_at k))))

abbrev pub constraint_part : ℕ → Reader (Option RangeTree)
constraint_part k = perhaps (is_word words.Range) (past_word words.Range (range_at k))

abbrev pub subtype_at : ℕ → Reader TypeTree
subtype_at k =
    mapped (λ x. record { name = x.0; definition = Subtype x.1.0 x.1.1 })
    (past_word words.Subtype (seq identifier_of (past_word words.Is (seq identifier_of (ended (constraint_part k) (skip_mark marks.Semicolon))))))

-- ---- items

abbrev pub named_item_of : Identifier → Either (Unit {0}) (Bool × (Identifier × Option ExprTree)) → ItemTree
named_item_of name (Left u) = OfException name
named_item_of name (Right x) = OfObject (object_of name x)

-- an exception or an object
abbrev pub named_item_at : ℕ → Reader ItemTree
named_item_at k =
    mapped (λ x. named_item_of x.0 x.1)
    (seq identifier_of (past_mark marks.Colon (either (is_word words.Exception) (past_word words.Exception (skip_mark marks.Semicolon)) (object_rest_at k))))

abbrev pub subprogram_item_at : ℕ → Reader ItemTree
subprogram_item_at k = mapped OfSubprogram (ended (subprogram_at k) (skip_mark marks.Semicolon))

-- how an item is read that begins with this word, or with something else
abbrev pub item_of : ℕ → Option Word → Reader ItemTree
item_of k (Some words.Type) = mapped OfType (type_at k)
item_of k (Some words.Subtype) = mapped OfType (subtype_at k)
item_of k (Some words.Procedure) = subprogram_item_at k
item_of k (Some words.Function) = subprogram_item_at k
item_of k (Some words.Task) = mapped OfTask (task_at k)
item_of k (Some words.Protected) = mapped OfProtected (protected_at k)
item_of k w = named_item_at k

abbrev pub item_at : ℕ → Reader ItemTree
item_at k = by_word (item_of k)

abbrev pub can_begin_item : TokenKind → Bool
can_begin_item (kinds.Identifier name) = true
can_begin_item (kinds.Word words.Type) = true
can_begin_item (kinds.Word words.Subtype) = true
can_begin_item (kinds.Word words.Procedure) = true
can_begin_item (kinds.Word words.Function) = true
can_begin_item (kinds.Word words.Task) = true
can_begin_item (kinds.Word words.Protected) = true
can_begin_item kind = false

abbrev pub begins_item : Option Token → Bool
begins_item = is_next can_begin_item

abbrev pub item_list_at : ℕ → Reader (List ItemTree)
item_list_at k = many begins_item (item_at k)

-- ---- bodies

abbrev pub body_at : ℕ → Reader BodyTree
body_at k =
    let statements = statements_at k (readers k) in
    mapped (λ x. record { declarations = x.0; statements = x.1.0; handlers = x.1.1.0; end_name = x.1.1.1 })
    (seq (declarations_at k)
    (past_word words.Begin (seq statements (seq (handlers_at statements) (past_word words.End (ended identifier_of (skip_mark marks.Semicolon)))))))

abbrev pub operation_body_at : ℕ → Reader ProtectedItemTree
operation_body_at k = mapped (λ x. OperationBody x.0 x.1) (seq (subprogram_at k) (past_word words.Is (body_at k)))

abbrev pub entry_body_at : ℕ → Reader ProtectedItemTree
entry_body_at k = mapped (λ x. EntryBody x.0 x.1.0 x.1.1) (seq (entry_at k) (past_word words.When (seq (expression_at k) (past_word words.Is (body_at k)))))

abbrev pub protected_item_at : ℕ → Reader ProtectedItemTree
protected_item_at k = choose (is_word words.Entry) (entry_body_at k) (operation_body_at k)

abbrev pub protected_item_list_at : ℕ → Reader (List ProtectedItemTree)
protected_item_list_at k = many begins_operation (protected_item_at k)

abbrev pub subprogram_body_of : SubprogramTree → Either (Unit {0}) BodyTree → BodyItemTree
subprogram_body_of d (Left u) = OfItem (OfSubprogram d)
subprogram_body_of d (Right b) = SubprogramBody d b

-- a subprogram's declaration or body
abbrev pub subprogram_body_at : ℕ → Reader BodyItemTree
subprogram_body_at k =
    mapped (λ x. subprogram_body_of x.0 x.1)
    (seq (subprogram_at k) (either (is_mark marks.Semicolon) (skip_mark marks.Semicolon) (past_word words.Is (body_at k))))

abbrev pub task_body_at : ℕ → Reader (Identifier × BodyTree)
task_body_at k = past_word words.Body (seq identifier_of (past_word words.Is (body_at k)))

abbrev pub task_item_of : ℕ → Either (Identifier × BodyTree) (Identifier × (Option AspectTree × Option TaskDefinitionTree)) → BodyItemTree
task_item_of place (Left x) = TaskBody x.0 x.1
task_item_of place (Right x) = OfItem (OfTask (task_of place x))

-- a task's declaration or body
abbrev pub task_item_at : ℕ → Reader BodyItemTree
task_item_at k = mapped (λ x. task_item_of x.0 x.1) (seq (word_of words.Task) (either (is_word words.Body) (task_body_at k) (task_rest_at k)))

abbrev pub protected_body_at : ℕ → Reader (Identifier × (List ProtectedItemTree × Identifier))
protected_body_at k =
    past_word words.Body (seq identifier_of
    (past_word words.Is (seq (protected_item_list_at k) (past_word words.End (ended identifier_of (skip_mark marks.Semicolon))))))

abbrev pub protected_item_of : ℕ → Either (Identifier × (List ProtectedItemTree × Identifier)) ProtectedParts → BodyItemTree
protected_item_of place (Left x) = ProtectedBody x.0 x.1.0 x.1.1
protected_item_of place (Right x) = OfItem (OfProtected (protected_of place x))

-- a protected object's declaration or body
abbrev pub protected_object_at : ℕ → Reader BodyItemTree
protected_object_at k =
    mapped (λ x. protected_item_of x.0 x.1) (seq (word_of words.Protected) (either (is_word words.Body) (protected_body_at k) (protected_rest_at k)))

-- how an item of a package's body is read that begins with this word, or with something else
abbrev pub body_item_of : ℕ → Option Word → Reader BodyItemTree
body_item_of k (Some words.Procedure) = subprogram_body_at k
body_item_of k (Some words.Function) = subprogram_body_at k
body_item_of k (Some words.Task) = task_item_at k
body_item_of k (Some words.Protected) = protected_object_at k
body_item_of k w = mapped OfItem (item_at k)

abbrev pub body_item_at : ℕ → Reader BodyItemTree
body_item_at k = by_word (body_item_of k)

abbrev pub body_item_list_at : ℕ → Reader (List BodyItemTree)
body_item_list_at k = many begins_item (body_item_at k)

-- ---- packages

abbrev pub unit_name_at : Reader UnitName
unit_name_at = mapped (λ x. record { first = x.0; second = x.1 }) (seq identifier_of component_part)

abbrev pub unit_clause_at : Reader UnitClause
unit_clause_at =
    mapped (λ x. record { place = x.0; unit = x.1.0; used = x.1.1 })
    (seq (word_of words.With) (seq unit_name_at (past_mark marks.Semicolon (past_word words.Use (ended unit_name_at (skip_mark marks.Semicolon))))))

abbrev pub clause_list_at : Reader (List UnitClause)
clause_list_at = many (is_word words.With) unit_clause_at

abbrev pub package_declaration_at : ℕ → Reader PackageDeclarationTree
package_declaration_at k =
    mapped (λ x. record { place = x.0; name = x.1.0; items = x.1.1.0; end_name = x.1.1.1 })
    (seq (word_of words.Package)
    (seq identifier_of (past_word words.Is (seq (item_list_at k) (past_word words.End (ended identifier_of (skip_mark marks.Semicolon)))))))

abbrev pub package_body_at : ℕ → Reader PackageBodyTree
package_body_at k =
    mapped (λ x. record { place = x.0; name = x.1.0; items = x.1.1.0; end_name = x.1.1.1 })
    (seq (word_of words.Package)
    (past_word words.Body (seq identifier_of
    (past_word words.Is (seq (body_item_list_at k) (past_word words.End (ended identifier_of (skip_mark marks.Semicolon))))))))

-- a package, and main's `with` of it
abbrev pub package_at : ℕ → Reader PackageTree
package_at k =
    mapped (λ x. record { clauses = x.0; declaration = x.1.0; body = x.1.1.0; with_name = x.1.1.1 })
    (seq clause_list_at (seq (package_declaration_at k) (seq (package_body_at k) (past_word words.With (ended identifier_of (skip_mark marks.Semicolon))))))

-- ---- whole texts

abbrev pub main_statement_of : Either ℕ (Identifier × Identifier) → MainStatement
main_statement_of (Left place) = main_statements.Null place
main_statement_of (Right x) = main_statements.Call x.0 x.1

abbrev pub main_statement_at : Reader MainStatement
main_statement_at =
    mapped main_statement_of
    (either (is_word words.Null) (ended (word_of words.Null) (skip_mark marks.Semicolon))
    (seq identifier_of (past_mark marks.Dot (ended identifier_of (skip_mark marks.Semicolon)))))

abbrev pub begins_main_statement : Option Token → Bool
begins_main_statement o = is_identifier o || is_word words.Null o

abbrev pub main_statement_list_at : Reader (List MainStatement)
main_statement_list_at = several begins_main_statement main_statement_at

abbrev pub main_at : ℕ → Reader MainTree
main_at k =
    mapped (λ x. record { place = x.0; name = x.1.0; aspect = x.1.1.0; statements = x.1.1.1.0; end_name = x.1.1.1.1 })
    (seq (word_of words.Procedure) (seq identifier_of (seq (aspect_part k) (past_word words.Is (past_word words.Begin
    (seq main_statement_list_at (past_word words.End (ended identifier_of (skip_mark marks.Semicolon)))))))))

abbrev pub pragma_at : Reader Pragma
pragma_at =
    mapped (λ x. record { place = x.0; name = x.1.0; argument = x.1.1 })
    (seq (word_of words.Pragma)
    (seq identifier_of (past_mark marks.LeftParenthesis (ended identifier_of (past_mark marks.RightParenthesis (skip_mark marks.Semicolon))))))

abbrev pub pragma_list_at : Reader (List Pragma)
pragma_list_at = many (is_word words.Pragma) pragma_at

abbrev pub begins_package : Option Token → Bool
begins_package o = is_word words.With o || is_word words.Package o

abbrev pub package_part : ℕ → Reader (Option PackageTree)
package_part k = perhaps begins_package (package_at k)

abbrev pub program_at : ℕ → Reader ProgramTree
program_at k =
    mapped (λ x. record { pragmas = x.0; package_ = x.1.0; main = x.1.1 })
    (seq pragma_list_at (seq (package_part k) (main_at k)))

-- the end of the tokens
abbrev pub end_at : Reader (Unit {0})
end_at [] = Ok (tt, [])
end_at (t ∷ ts) = refuse false (t ∷ ts)

abbrev pub whole_at : ℕ → Reader ProgramTree
whole_at k = ended (program_at k) end_at
