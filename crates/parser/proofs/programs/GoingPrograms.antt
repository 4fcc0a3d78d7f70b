-- What readers of whole texts have taken where they refuse can go on.
use Rattle.lexer.specs.declared.token.TokenKind.TheVariants as kinds
use Rattle.lexer.specs.declared.word.Word.TheVariants as words
use Rattle.lexer.specs.declared.delimiter.Delimiter.TheVariants as marks
use Rattle.std.proofs.Common.{ℕ, suc, false, [], ◌∷◌, Option, Some, None, refl}
use Rattle.lexer.specs.declared.word.Word.{Word}
use Rattle.ada_tree.specs.declared.expression.Identifier.{Identifier}
use Rattle.ada_tree.specs.ExpressionTree.{ExprTree, bare_name}
use Rattle.ada_tree.specs.Language.{Tokens}
use Rattle.parser.specs.Reading.{is_word, is_mark}
use Rattle.parser.specs.MoreReading.{is_identifier}
use Rattle.parser.specs.DeclarationReading.{begins_operation, begins_declaration}
use Rattle.parser.specs.StatementReading.{Readers, readers, readers_at, statements_at}
use Rattle.parser.specs.ProgramReading.{named_index, index_rest_at, index_at, index_in, array_index_at, component_at, definition_at, type_at, subtype_at}
use Rattle.parser.specs.ProgramReading.{named_item_at, subprogram_item_at, item_of, item_at, begins_item, body_at, operation_body_at, entry_body_at}
use Rattle.parser.specs.ProgramReading.{protected_item_at, subprogram_body_at, task_item_at, protected_object_at, body_item_of, body_item_at, unit_name_at}
use Rattle.parser.specs.ProgramReading.{unit_clause_at, package_declaration_at, package_body_at, package_at, main_statement_at, begins_main_statement, main_at}
use Rattle.parser.specs.ProgramReading.{pragma_at, begins_package, program_at, end_at, whole_at}
use Rattle.parser.proofs.general.Exact.{Free}
use Rattle.parser.proofs.general.Several.{exact_token, exact_identifier}
use Rattle.parser.proofs.general.MoreExact.{Any, many_stop, perhaps_stop}
use Rattle.parser.proofs.expressions.Followers.{SimpleStops}
use Rattle.parser.proofs.expressions.Levelled.{exact_expression, exact_simple}
use Rattle.parser.proofs.declarations.Declarations.{range_exact, aspect_part_exact, subprogram_exact, subprogram_stop, entry_exact, formals_stop}
use Rattle.parser.proofs.declarations.Declarations.{declarations_exact}
use Rattle.parser.proofs.statements.CompoundStatements.{handlers_exact, handlers_end}
use Rattle.parser.proofs.statements.Statements.{statements_exact}
use Rattle.parser.proofs.programs.Items.{item_exact}
use Rattle.parser.proofs.programs.Types.{index_exact, index_end, array_index_exact, component_of_exact}
use Rattle.parser.proofs.programs.Bodies.{protected_item_exact, body_item_exact}
use Rattle.parser.proofs.programs.Programs.{unit_name_exact, unit_clause_exact, package_declaration_exact, package_body_exact}
use Rattle.parser.proofs.programs.Programs.{main_statement_exact}
use Rattle.parser.proofs.programs.Programs.{pragma_exact, program_exact, end_fault}
use Rattle.parser.proofs.programs.DeepPrograms.{component_list_exact, constraint_exact, item_list_exact, protected_item_list_exact, body_item_list_exact}
use Rattle.parser.proofs.programs.DeepPrograms.{clause_list_exact, main_statement_list_exact, pragma_list_exact, package_part_exact}
use Rattle.parser.proofs.general.Going.{GoesOn, Goes, a_token, a_name, mapped_on, goes_mapped, goes_nothing, refuse_on, goes_skipped, goes_identifier}
use Rattle.parser.proofs.general.Going.{goes_both}
use Rattle.parser.proofs.general.Going.{goes_after, goes_placed, goes_named, goes_past, goes_ended, goes_first, if_on, goes_perhaps}
use Rattle.parser.proofs.general.Going.{goes_either, goes_left}
use Rattle.parser.proofs.general.Going.{by_word_on, goes_many, goes_several, begun_here}
use Rattle.parser.proofs.expressions.GoingExpressions.{a_number, goes_expression, goes_simple}
use Rattle.parser.proofs.statements.GoingStatements.{a_word, a_semicolon, a_statement, goes_word, goes_semicolon, goes_range, goes_aspect, aspect_stop}
use Rattle.parser.proofs.statements.GoingStatements.{goes_object_rest}
use Rattle.parser.proofs.statements.GoingStatements.{goes_subprogram, goes_entry, goes_name_semicolon, goes_task_rest, goes_task, goes_name_end}
use Rattle.parser.proofs.statements.GoingStatements.{goes_protected_rest}
use Rattle.parser.proofs.statements.GoingStatements.{goes_protected, goes_declarations, goes_component_part, component_stop, goes_handlers}
use Rattle.parser.proofs.statements.GoingStatements.{goes_statements}

-- ---- types

named_index_on : (o : Option Identifier) → GoesOn (named_index o)
named_index_on None = refuse_on false
named_index_on (Some name) = (goes_nothing _).on

-- behind any expression may come a range's other end
goes_index_rest : (k : ℕ) (x : ExprTree) → Goes (index_rest_at k x) (a_token (kinds.Delimiter marks.DoubleDot) ∷ a_number ∷ [])
goes_index_rest k x =
    goes_first (is_mark marks.DoubleDot) refl (goes_mapped _ (goes_past (kinds.Delimiter marks.DoubleDot) refl (goes_simple k))) (named_index_on (bare_name x))

goes_index : (k : ℕ) → Goes (index_at k) (a_number ∷ a_token (kinds.Delimiter marks.DoubleDot) ∷ a_number ∷ [])
goes_index k = goes_after (exact_simple k) (goes_simple k) (λ x u g. goes_index_rest k x) (λ x u g. refl)

abbrev an_index : Tokens
an_index =
    a_token (kinds.Delimiter marks.LeftParenthesis) ∷ a_number ∷ a_token (kinds.Delimiter marks.DoubleDot) ∷ a_number
    ∷ a_token (kinds.Delimiter marks.RightParenthesis) ∷ []

goes_index_in : (r : Readers) → Goes (index_in r) an_index
goes_index_in r =
    goes_past (kinds.Delimiter marks.LeftParenthesis) refl (goes_ended (index_exact r.levels) (goes_index r.levels)
    (goes_skipped (kinds.Delimiter marks.RightParenthesis) refl) (λ y. index_end r.levels y 0 0))

-- a level has to be left for an index
goes_array_index : (k : ℕ) → Goes (array_index_at (suc k)) an_index
goes_array_index k = goes_first (is_mark marks.LeftParenthesis) refl (goes_index_in (readers_at k)) (refuse_on false)

goes_record_component : Goes component_at (a_name ∷ a_token (kinds.Delimiter marks.Colon) ∷ a_name ∷ a_semicolon ∷ [])
goes_record_component = goes_mapped _ (goes_named (goes_past (kinds.Delimiter marks.Colon) refl goes_name_semicolon))

goes_definition : (k : ℕ)
    → Goes (definition_at (suc k)) (a_word words.Range ∷ a_number ∷ a_token (kinds.Delimiter marks.DoubleDot) ∷ a_number ∷ a_semicolon ∷ [])
goes_definition k =
    let m = suc k in
    goes_first (is_word words.Range) refl
    (goes_mapped _ (goes_past (kinds.Word words.Range) refl (goes_ended (range_exact m) (goes_range m) goes_semicolon (λ x. refl))))
    (if_on (is_word words.Array)
    (goes_mapped _ (goes_past (kinds.Word words.Array) refl (goes_both (array_index_exact m) (goes_array_index k)
    (goes_past (kinds.Word words.Of) refl goes_name_semicolon) (λ x. tt)))).on
    (goes_mapped _ (goes_past (kinds.Word words.Record) refl
    (goes_ended component_list_exact (goes_several is_identifier component_of_exact goes_record_component component_list_exact (λ xs. (refl, tt)))
    (goes_past (kinds.Word words.End) refl (goes_past (kinds.Word words.Record) refl goes_semicolon)) (λ xs. (refl, tt))))).on)

type_on : (k : ℕ) → GoesOn (type_at (suc k))
type_on k =
    (goes_mapped _ (goes_past (kinds.Word words.Type) refl (goes_named (goes_past (kinds.Word words.Is) refl (goes_definition k))))).on

subtype_on : (k : ℕ) → GoesOn (subtype_at k)
subtype_on k =
    (goes_mapped _ (goes_past (kinds.Word words.Subtype) refl (goes_named (goes_past (kinds.Word words.Is) refl (goes_named
    (goes_ended (constraint_exact k) (goes_perhaps (is_word words.Range) refl (goes_past (kinds.Word words.Range) refl (goes_range k)).on) goes_semicolon
    (λ x. perhaps_stop (is_word words.Range) (λ _. SimpleStops) _ refl (λ _. refl) x))))))).on

-- ---- items

goes_named_item : (k : ℕ) → Goes (named_item_at k) (a_name ∷ a_token (kinds.Delimiter marks.Colon) ∷ a_name ∷ a_semicolon ∷ [])
goes_named_item k =
    goes_mapped _ (goes_named (goes_past (kinds.Delimiter marks.Colon) refl
    (goes_either (is_word words.Exception) refl (goes_past (kinds.Word words.Exception) refl goes_semicolon).on (goes_object_rest k))))

subprogram_item_on : (k : ℕ) → GoesOn (subprogram_item_at k)
subprogram_item_on k = (goes_mapped _ (goes_ended (subprogram_exact k) (goes_subprogram k) goes_semicolon (λ x. subprogram_stop _ refl x))).on

item_of_on : (k : ℕ) (w : Option Word) → GoesOn (item_of (suc k) w)
item_of_on k (Some words.Type) = mapped_on _ (type_on k)
item_of_on k (Some words.Subtype) = mapped_on _ (subtype_on (suc k))
item_of_on k (Some words.Procedure) = subprogram_item_on (suc k)
item_of_on k (Some words.Function) = subprogram_item_on (suc k)
item_of_on k (Some words.Task) = mapped_on _ (goes_task (suc k)).on
item_of_on k (Some words.Protected) = mapped_on _ (goes_protected (suc k)).on
item_of_on k w = (goes_named_item (suc k)).on

item_on : (k : ℕ) → GoesOn (item_at (suc k))
item_on k = by_word_on (item_of (suc k)) (item_of_on k)

-- ---- bodies

abbrev a_body : Tokens
a_body = a_word words.Begin ∷ a_word words.Null ∷ a_semicolon ∷ a_word words.End ∷ a_name ∷ a_semicolon ∷ []

goes_body : (k : ℕ) → Goes (body_at k) a_body
goes_body k =
    let statements = statements_at k (readers k) in
    goes_mapped _ (goes_both (declarations_exact k) (goes_declarations k)
    (goes_past (kinds.Word words.Begin) refl (goes_both (statements_exact k) (goes_statements k)
    (goes_both (handlers_exact k statements (statements_exact k)) (goes_handlers k statements (statements_exact k) (goes_statements k)) goes_name_end
    (λ y. handlers_end k statements (statements_exact k) y 0 0)) (λ x. refl)))
    (λ xs. many_stop begins_declaration Any _ refl tt xs))

operation_body_on : (k : ℕ) → GoesOn (operation_body_at k)
operation_body_on k =
    (goes_mapped _ (goes_both (subprogram_exact k) (goes_subprogram k) (goes_past (kinds.Word words.Is) refl (goes_body k)) (λ x. subprogram_stop _ refl x))).on

entry_body_on : (k : ℕ) → GoesOn (entry_body_at k)
entry_body_on k =
    (goes_mapped _ (goes_both (entry_exact k) (goes_entry k) (goes_past (kinds.Word words.When) refl
    (goes_both (exact_expression k) (goes_expression k) (goes_past (kinds.Word words.Is) refl (goes_body k)) (λ x. refl)))
    (λ x. formals_stop _ refl x.formals))).on

protected_item_on : (k : ℕ) → GoesOn (protected_item_at k)
protected_item_on k = if_on (is_word words.Entry) (entry_body_on k) (operation_body_on k)

subprogram_body_on : (k : ℕ) → GoesOn (subprogram_body_at k)
subprogram_body_on k =
    (goes_mapped _ (goes_both (subprogram_exact k) (goes_subprogram k)
    (goes_left (is_mark marks.Semicolon) refl goes_semicolon (goes_past (kinds.Word words.Is) refl (goes_body k)).on) (λ x. subprogram_stop _ refl x))).on

task_item_on : (k : ℕ) → GoesOn (task_item_at k)
task_item_on k =
    (goes_mapped _ (goes_placed (kinds.Word words.Task) refl
    (goes_either (is_word words.Body) refl
    (goes_past (kinds.Word words.Body) refl (goes_named (goes_past (kinds.Word words.Is) refl (goes_body k)))).on
    (goes_task_rest k)))).on

protected_object_on : (k : ℕ) → GoesOn (protected_object_at k)
protected_object_on k =
    (goes_mapped _ (goes_placed (kinds.Word words.Protected) refl
    (goes_either (is_word words.Body) refl
    (goes_past (kinds.Word words.Body) refl (goes_named (goes_past (kinds.Word words.Is) refl
    (goes_both (protected_item_list_exact k)
    (goes_many begins_operation (protected_item_exact k) (protected_item_on k) (protected_item_list_exact k)
    (λ xs. many_stop begins_operation Any _ refl tt xs))
    goes_name_end (λ xs. many_stop begins_operation Any _ refl tt xs))))).on
    (goes_protected_rest k)))).on

body_item_of_on : (k : ℕ) (w : Option Word) → GoesOn (body_item_of (suc k) w)
body_item_of_on k (Some words.Procedure) = subprogram_body_on (suc k)
body_item_of_on k (Some words.Function) = subprogram_body_on (suc k)
body_item_of_on k (Some words.Task) = task_item_on (suc k)
body_item_of_on k (Some words.Protected) = protected_object_on (suc k)
body_item_of_on k w = mapped_on _ (item_on k)

body_item_on : (k : ℕ) → GoesOn (body_item_at (suc k))
body_item_on k = by_word_on (body_item_of (suc k)) (body_item_of_on k)

-- ---- packages

goes_unit_name : Goes unit_name_at (a_name ∷ [])
goes_unit_name = goes_mapped _ (goes_named goes_component_part)

unit_clause_on : GoesOn unit_clause_at
unit_clause_on =
    (goes_mapped _ (goes_placed (kinds.Word words.With) refl (goes_both unit_name_exact goes_unit_name
    (goes_past (kinds.Delimiter marks.Semicolon) refl (goes_past (kinds.Word words.Use) refl
    (goes_ended unit_name_exact goes_unit_name goes_semicolon (λ u. component_stop _ refl u.second)))) (λ u. component_stop _ refl u.second)))).on

abbrev a_declaration : Tokens
a_declaration = a_word words.Package ∷ a_name ∷ a_word words.Is ∷ a_word words.End ∷ a_name ∷ a_semicolon ∷ []

goes_package_declaration : (k : ℕ) → Goes (package_declaration_at (suc k)) a_declaration
goes_package_declaration k =
    let m = suc k in
    goes_mapped _ (goes_placed (kinds.Word words.Package) refl (goes_named (goes_past (kinds.Word words.Is) refl
    (goes_both (item_list_exact m) (goes_many begins_item (item_exact m) (item_on k) (item_list_exact m) (λ xs. many_stop begins_item Any _ refl tt xs))
    goes_name_end (λ xs. many_stop begins_item Any _ refl tt xs)))))

goes_package_body : (k : ℕ)
    → Goes (package_body_at (suc k)) (a_word words.Package ∷ a_word words.Body ∷ a_name ∷ a_word words.Is ∷ a_word words.End ∷ a_name ∷ a_semicolon ∷ [])
goes_package_body k =
    let m = suc k in
    goes_mapped _ (goes_placed (kinds.Word words.Package) refl (goes_past (kinds.Word words.Body) refl (goes_named (goes_past (kinds.Word words.Is) refl
    (goes_both (body_item_list_exact m)
    (goes_many begins_item (body_item_exact m) (body_item_on k) (body_item_list_exact m) (λ xs. many_stop begins_item Any _ refl tt xs))
    goes_name_end (λ xs. many_stop begins_item Any _ refl tt xs))))))

package_on : (k : ℕ) → GoesOn (package_at (suc k))
package_on k =
    let m = suc k in
    let clauses = goes_many (is_word words.With) unit_clause_exact unit_clause_on clause_list_exact (λ xs. many_stop (is_word words.With) Any _ refl tt xs) in
    (goes_mapped _ (goes_both clause_list_exact clauses
    (goes_both (package_declaration_exact m) (goes_package_declaration k) (goes_both (package_body_exact m) (goes_package_body k)
    (goes_past (kinds.Word words.With) refl goes_name_semicolon) (λ x. tt)) (λ x. tt))
    (λ xs. many_stop (is_word words.With) Any _ refl tt xs))).on

-- ---- whole texts

goes_main_statement : Goes main_statement_at a_statement
goes_main_statement =
    goes_mapped _ (goes_left (is_word words.Null) refl
    (goes_ended (exact_token (kinds.Word words.Null) refl) (goes_word words.Null refl) goes_semicolon (λ x. tt))
    (goes_named (goes_past (kinds.Delimiter marks.Dot) refl goes_name_semicolon)).on)

abbrev pub a_main : Tokens
a_main =
    a_word words.Procedure ∷ a_name ∷ a_word words.Is ∷ a_word words.Begin ∷ a_word words.Null ∷ a_semicolon ∷ a_word words.End ∷ a_name ∷ a_semicolon ∷ []

goes_main : (k : ℕ) → Goes (main_at k) a_main
goes_main k =
    goes_mapped _ (goes_placed (kinds.Word words.Procedure) refl (goes_named (goes_both (aspect_part_exact k) (goes_aspect k)
    (goes_past (kinds.Word words.Is) refl (goes_past (kinds.Word words.Begin) refl
    (goes_both main_statement_list_exact
    (goes_several begins_main_statement main_statement_exact goes_main_statement main_statement_list_exact (λ xs. (refl, tt)))
    goes_name_end (λ xs. (refl, tt)))))
    (λ x. aspect_stop k _ refl refl x))))

pragma_on : GoesOn pragma_at
pragma_on =
    (goes_mapped _ (goes_placed (kinds.Word words.Pragma) refl (goes_named (goes_past (kinds.Delimiter marks.LeftParenthesis) refl
    (goes_ended exact_identifier goes_identifier (goes_past (kinds.Delimiter marks.RightParenthesis) refl goes_semicolon) (λ x. tt)))))).on

goes_program : (k : ℕ) → Goes (program_at (suc k)) a_main
goes_program k =
    let m = suc k in
    let pragmas = goes_many (is_word words.Pragma) pragma_exact pragma_on pragma_list_exact (λ xs. many_stop (is_word words.Pragma) Any _ refl tt xs) in
    goes_mapped _ (goes_both pragma_list_exact pragmas
    (goes_both (package_part_exact m) (goes_perhaps begins_package refl (package_on k)) (goes_main m)
    (λ x. perhaps_stop begins_package Free _ refl (λ _. tt) x))
    (λ xs. many_stop (is_word words.Pragma) Any _ refl tt xs))

goes_end : Goes end_at []
goes_end = record { on = λ ts f e. begun_here end_at ts f false (end_fault ts f e); all = (tt, refl) }

-- with one level or more
pub goes_whole : (k : ℕ) → Goes (whole_at (suc k)) a_main
goes_whole k = goes_ended (program_exact (suc k)) (goes_program k) goes_end (λ x. tt)
