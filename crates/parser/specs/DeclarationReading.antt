-- How the declarations of bodies and blocks are read.
use Rattle.std.specs.Prelude.{ℕ, Bool, true, false, ◌||◌, Option, Some, None, List, [], map}
use Rattle.lexer.specs.declared.token.Token.{Token}
use Rattle.lexer.specs.declared.token.TokenKind.TheVariants as kinds
use Rattle.lexer.specs.declared.word.Word.TheVariants as words
use Rattle.lexer.specs.declared.delimiter.Delimiter.TheVariants as marks
use Rattle.ada_tree.specs.declared.expression.Identifier.{Identifier}
use Rattle.ada_tree.specs.declared.declaration.Mode.{Mode}
use Rattle.ada_tree.specs.declared.declaration.Mode.TheVariants as modes
use Rattle.ada_tree.specs.declared.declaration.Formal.{Formal}
use Rattle.ada_tree.specs.declared.declaration.TaskEntry.{TaskEntry}
use Rattle.ada_tree.specs.ExpressionTree.{ExprTree, expr_tree}
use Rattle.ada_tree.specs.StatementTree.{AspectTree, ObjectTree, TaskDefinitionTree, TaskTree, SubprogramTree, EntryTree, OperationTree, OfSubprogram, OfEntry}
use Rattle.ada_tree.specs.StatementTree.{ProtectedComponentTree, ProtectedTree, DeclarationTree, LocalObject, LocalTask, LocalProtected, RangeTree}
use Rattle.ada_tree.specs.StatementTree.{optional_tree, aspect_tree, task_definition_tree, operation_tree, protected_component_tree}
use Rattle.parser.specs.declared.declaration.ObjectRest.{ObjectRest}
use Rattle.parser.specs.declared.declaration.TaskRest.{TaskRest}
use Rattle.parser.specs.declared.declaration.ProtectedRest.{ProtectedRest}
use Rattle.parser.specs.Reading.{Reader, is_word, is_mark, word_of, identifier_of, seq, mapped, choose, many, separated_by, nothing, opened, skip_mark}
use Rattle.parser.specs.MoreReading.{past_word, past_mark, ended, perhaps, flag, Either, Left, Right, either, is_identifier}
use Rattle.parser.specs.ExpressionReading.{ExpressionReaders, values, expression_at, simple_at}

abbrev pub range_at : ℕ → Reader RangeTree
range_at k = mapped (λ x. record { first = x.0; last = x.1 }) (seq (simple_at k) (past_mark marks.DoubleDot (simple_at k)))

abbrev pub aspect_at : ℕ → Reader AspectTree
aspect_at k =
    mapped (λ x. record { place = x.0; name = x.1.0; value = x.1.1 }) (seq (word_of words.With) (seq identifier_of (past_mark marks.Arrow (expression_at k))))

abbrev pub aspect_part : ℕ → Reader (Option AspectTree)
aspect_part k = perhaps (is_word words.With) (aspect_at k)

abbrev pub initial_part : ℕ → Reader (Option ExprTree)
initial_part k = perhaps (is_mark marks.Assignment) (past_mark marks.Assignment (expression_at k))

-- ---- objects

-- what follows the colon
abbrev pub object_rest_at : ℕ → Reader (Bool × (Identifier × Option ExprTree))
object_rest_at k = seq (flag (kinds.Word words.Constant)) (seq identifier_of (ended (initial_part k) (skip_mark marks.Semicolon)))

-- the same, as the parser keeps it
abbrev pub object_rest : ObjectRest → Bool × (Identifier × Option ExprTree)
object_rest r = (r.constant, (r.subtype, optional_tree expr_tree r.value))

abbrev pub object_of : Identifier → Bool × (Identifier × Option ExprTree) → ObjectTree
object_of name x = record { name = name; constant = x.0; subtype = x.1.0; value = x.1.1 }

abbrev pub object_at : ℕ → Reader ObjectTree
object_at k = mapped (λ x. object_of x.0 x.1) (seq identifier_of (past_mark marks.Colon (object_rest_at k)))

-- ---- subprograms and entries

-- with `in`, with `out`
abbrev pub mode_of : Bool → Bool → Mode
mode_of inward false = modes.In
mode_of false true = modes.Out
mode_of true true = modes.InOut

abbrev pub mode_at : Reader Mode
mode_at = mapped (λ x. mode_of x.0 x.1) (seq (flag (kinds.Word words.In)) (flag (kinds.Word words.Out)))

abbrev pub formal_at : Reader Formal
formal_at = mapped (λ x. record { name = x.0; mode = x.1.0; subtype = x.1.1 }) (seq identifier_of (past_mark marks.Colon (seq mode_at identifier_of)))

abbrev pub formal_list_at : Reader (List Formal)
formal_list_at = separated_by (kinds.Delimiter marks.Semicolon) formal_at

-- in their parentheses, which open a level; nothing in them opens another
abbrev pub formals_in : ExpressionReaders → Reader (List Formal)
formals_in r = past_mark marks.LeftParenthesis (ended formal_list_at (skip_mark marks.RightParenthesis))

abbrev pub formals_at : ℕ → Reader (List Formal)
formals_at k = choose (is_mark marks.LeftParenthesis) (opened (values k) formals_in) (nothing [])

abbrev pub procedure_at : ℕ → Reader SubprogramTree
procedure_at k =
    mapped (λ x. record { place = x.0; name = x.1.0; formals = x.1.1; result = None }) (seq (word_of words.Procedure) (seq identifier_of (formals_at k)))

abbrev pub function_at : ℕ → Reader SubprogramTree
function_at k =
    mapped (λ x. record { place = x.0; name = x.1.0; formals = x.1.1.0; result = Some x.1.1.1 })
    (seq (word_of words.Function) (seq identifier_of (seq (formals_at k) (past_word words.Return identifier_of))))

abbrev pub subprogram_at : ℕ → Reader SubprogramTree
subprogram_at k = choose (is_word words.Function) (function_at k) (procedure_at k)

abbrev pub entry_at : ℕ → Reader EntryTree
entry_at k = mapped (λ x. record { place = x.0; name = x.1.0; formals = x.1.1 }) (seq (word_of words.Entry) (seq identifier_of (formals_at k)))

-- ---- tasks

abbrev pub task_entry_at : Reader TaskEntry
task_entry_at = mapped (λ x. record { place = x.0; name = x.1 }) (seq (word_of words.Entry) (ended identifier_of (skip_mark marks.Semicolon)))

abbrev pub task_entries_at : Reader (List TaskEntry)
task_entries_at = many (is_word words.Entry) task_entry_at

abbrev pub task_definition_at : Reader TaskDefinitionTree
task_definition_at = mapped (λ x. record { entries = x.0; end_name = x.1 }) (past_word words.Is (seq task_entries_at (past_word words.End identifier_of)))

abbrev pub task_definition_part : Reader (Option TaskDefinitionTree)
task_definition_part = perhaps (is_word words.Is) task_definition_at

-- what follows `task`
abbrev pub task_rest_at : ℕ → Reader (Identifier × (Option AspectTree × Option TaskDefinitionTree))
task_rest_at k = seq identifier_of (seq (aspect_part k) (ended task_definition_part (skip_mark marks.Semicolon)))

abbrev pub task_rest : TaskRest → Identifier × (Option AspectTree × Option TaskDefinitionTree)
task_rest r = (r.name, (optional_tree aspect_tree r.aspect, optional_tree task_definition_tree r.definition))

abbrev pub task_of : ℕ → Identifier × (Option AspectTree × Option TaskDefinitionTree) → TaskTree
task_of place x = record { place = place; name = x.0; aspect = x.1.0; definition = x.1.1 }

abbrev pub task_at : ℕ → Reader TaskTree
task_at k = mapped (λ x. task_of x.0 x.1) (seq (word_of words.Task) (task_rest_at k))

-- ---- protected objects

abbrev pub operation_of : Either EntryTree (SubprogramTree × Option AspectTree) → OperationTree
operation_of (Left d) = OfEntry d
operation_of (Right d) = OfSubprogram d.0 d.1

abbrev pub operation_at : ℕ → Reader OperationTree
operation_at k =
    mapped operation_of (either (is_word words.Entry) (ended (entry_at k) (skip_mark marks.Semicolon))
    (seq (subprogram_at k) (ended (aspect_part k) (skip_mark marks.Semicolon))))

abbrev pub begins_operation : Option Token → Bool
begins_operation o = is_word words.Procedure o || (is_word words.Function o || is_word words.Entry o)

abbrev pub operations_at : ℕ → Reader (List OperationTree)
operations_at k = many begins_operation (operation_at k)

abbrev pub protected_component_at : ℕ → Reader ProtectedComponentTree
protected_component_at k =
    mapped (λ x. record { name = x.0; subtype = x.1.0; value = x.1.1 })
    (seq identifier_of (past_mark marks.Colon (seq identifier_of (ended (initial_part k) (skip_mark marks.Semicolon)))))

abbrev pub protected_components_at : ℕ → Reader (List ProtectedComponentTree)
protected_components_at k = many is_identifier (protected_component_at k)

-- none where there is no `private`
abbrev pub listed : {A : Type 0} → Option (List A) → List A
listed None = []
listed (Some all) = all

abbrev pub private_part_at : ℕ → Reader (List ProtectedComponentTree)
private_part_at k = mapped listed (perhaps (is_word words.Private) (past_word words.Private (protected_components_at k)))

abbrev pub ProtectedParts : Type 0
ProtectedParts = Identifier × (Option AspectTree × (List OperationTree × (List ProtectedComponentTree × Identifier)))

-- what follows `protected`
abbrev pub protected_rest_at : ℕ → Reader ProtectedParts
protected_rest_at k =
    seq identifier_of (seq (aspect_part k)
    (past_word words.Is (seq (operations_at k) (seq (private_part_at k) (past_word words.End (ended identifier_of (skip_mark marks.Semicolon)))))))

abbrev pub protected_rest : ProtectedRest → ProtectedParts
protected_rest r =
    (r.name, (optional_tree aspect_tree r.aspect, (map operation_tree r.operations.items, (map protected_component_tree r.components.items, r.end_name))))

abbrev pub protected_of : ℕ → ProtectedParts → ProtectedTree
protected_of place x = record { place = place; name = x.0; aspect = x.1.0; operations = x.1.1.0; components = x.1.1.1.0; end_name = x.1.1.1.1 }

abbrev pub protected_at : ℕ → Reader ProtectedTree
protected_at k = mapped (λ x. protected_of x.0 x.1) (seq (word_of words.Protected) (protected_rest_at k))

-- ---- declarations

abbrev pub declaration_of : Either TaskTree (Either ProtectedTree ObjectTree) → DeclarationTree
declaration_of (Left d) = LocalTask d
declaration_of (Right (Left d)) = LocalProtected d
declaration_of (Right (Right d)) = LocalObject d

abbrev pub declaration_at : ℕ → Reader DeclarationTree
declaration_at k = mapped declaration_of (either (is_word words.Task) (task_at k) (either (is_word words.Protected) (protected_at k) (object_at k)))

abbrev pub begins_declaration : Option Token → Bool
begins_declaration o = is_identifier o || (is_word words.Task o || is_word words.Protected o)

abbrev pub declarations_at : ℕ → Reader (List DeclarationTree)
declarations_at k = many begins_declaration (declaration_at k)
