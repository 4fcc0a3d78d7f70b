-- A fault of depth in whole texts stands at a token that opens a level, behind enough of them.
use Rattle.lexer.specs.declared.token.TokenKind.TheVariants as kinds
use Rattle.lexer.specs.declared.word.Word.TheVariants as words
use Rattle.lexer.specs.declared.delimiter.Delimiter.TheVariants as marks
use Rattle.std.proofs.Common.{◌≡◌, ℕ, suc, true, false, length, Option, Some, None, refl, sym, subst, arith}
use Rattle.lexer.specs.declared.token.TokenKind.{TokenKind}
use Rattle.lexer.specs.declared.word.Word.{Word}
use Rattle.ada_tree.specs.declared.expression.Identifier.{Identifier}
use Rattle.ada_tree.specs.ExpressionTree.{bare_name}
use Rattle.ada_tree.specs.Language.{Tokens, optional, each, some}
use Rattle.ada_tree.specs.ProgramGrammar.{record_component, constraint, item, protected_item, body_item, unit_clause, package_part, main_statement}
use Rattle.ada_tree.specs.ProgramGrammar.{pragma_clause}
use Rattle.parser.specs.Reading.{refuse, is_word, is_mark}
use Rattle.parser.specs.ExpressionReading.{simple_at}
use Rattle.parser.specs.MoreReading.{is_identifier}
use Rattle.parser.specs.DeclarationReading.{begins_operation}
use Rattle.parser.specs.StatementReading.{Readers, readers, statements_at}
use Rattle.parser.specs.ProgramReading.{named_index, index_rest_at, index_at, index_in, array_index_at, component_at, component_list_at, definition_at, type_at}
use Rattle.parser.specs.ProgramReading.{constraint_part, subtype_at, named_item_at, subprogram_item_at, item_of, item_at, begins_item, item_list_at, body_at}
use Rattle.parser.specs.ProgramReading.{operation_body_at, entry_body_at, protected_item_at, protected_item_list_at, subprogram_body_at, task_item_at}
use Rattle.parser.specs.ProgramReading.{protected_object_at, body_item_of, body_item_at, body_item_list_at, unit_name_at, unit_clause_at, clause_list_at}
use Rattle.parser.specs.ProgramReading.{package_declaration_at, package_body_at, package_at, main_statement_at, main_statement_list_at, begins_main_statement}
use Rattle.parser.specs.ProgramReading.{main_at, pragma_at, pragma_list_at, begins_package, package_part as package_part_at, program_at, end_at, whole_at}
use Rattle.parser.proofs.general.Exact.{Exact, Free, err_is}
use Rattle.parser.proofs.general.Several.{ManyStops, exact_token, exact_identifier, exact_many, exact_several}
use Rattle.parser.proofs.expressions.Levelled.{exact_expression, exact_simple}
use Rattle.parser.proofs.general.Deep.{Deep, never_deep, deep_token, deep_skipped, deep_identifier, deep_nothing, deep_after, deep_choose, deep_many}
use Rattle.parser.proofs.general.Deep.{deep_several, deep_opened, one_opener, opening_kind}
use Rattle.parser.proofs.expressions.DeepExpressions.{deep_expression, deep_simple}
use Rattle.parser.proofs.general.MoreExact.{Any, PerhapsStops, at_placed, at_past, at_name, perhaps_exact, past_exact}
use Rattle.parser.proofs.declarations.Declarations.{range_exact, aspect_part_exact, subprogram_exact, entry_exact, declarations_exact}
use Rattle.parser.proofs.statements.Statements.{statements_exact}
use Rattle.parser.proofs.statements.CompoundStatements.{handlers_exact}
use Rattle.parser.proofs.programs.Items.{ConstraintStops, item_exact, item_starts}
use Rattle.parser.proofs.programs.Types.{index_exact, array_index_exact, component_of_exact}
use Rattle.parser.proofs.programs.Bodies.{protected_item_exact, protected_item_begins, body_item_exact, body_starts}
use Rattle.parser.proofs.programs.Programs.{unit_name_exact, unit_clause_exact, package_declaration_exact, package_body_exact, package_exact, at_package}
use Rattle.parser.proofs.programs.Programs.{main_statement_exact, main_statement_begins, pragma_exact, program_exact, end_fault}
use Rattle.parser.proofs.statements.DeepStatements.{deep_past, deep_both, deep_placed, deep_named, deep_ended, deep_changed, deep_perhaps, deep_either, deep_if}
use Rattle.parser.proofs.statements.DeepStatements.{deep_range, deep_aspect, deep_object_rest, deep_subprogram, deep_entry_at, deep_task_rest, deep_task}
use Rattle.parser.proofs.statements.DeepStatements.{deep_name_end, deep_protected_rest, deep_protected, deep_declarations, deep_component_part, deep_handlers}
use Rattle.parser.proofs.statements.DeepStatements.{HoldsDeep, holds_deep, deep_statements, DeepAs, deep_as, deep_by_word}

abbrev semicolon : TokenKind
semicolon = kinds.Delimiter marks.Semicolon

-- ---- types

deep_refuse : {A : Type 0} (k : ℕ) → Deep {A = A} k (refuse false)
deep_refuse {A} k = never_deep k (refuse false) (λ ts f e. sym (err_is {A = A × Tokens} (record { deep = false; left = length ts }) f e))

deep_named_index : (k : ℕ) (o : Option Identifier) → Deep k (named_index o)
deep_named_index k None = deep_refuse k
deep_named_index k (Some name) = deep_nothing k _

deep_index : (k : ℕ) → Deep k (index_at k)
deep_index k =
    deep_after k k (simple_at k) (index_rest_at k) _ _ (exact_simple k) (deep_simple k)
    (λ x s g. deep_if k (is_mark marks.DoubleDot) (deep_changed k _ (deep_past k (kinds.Delimiter marks.DoubleDot) refl (deep_simple k)))
    (deep_named_index k (bare_name x))) (λ x s g. omega arith)

deep_index_in : (r : Readers) → Deep (suc r.levels) (index_in r)
deep_index_in r =
    deep_after r.levels (suc r.levels) _ (λ _. _) _ _ (exact_token (kinds.Delimiter marks.LeftParenthesis) refl)
    (deep_token (suc r.levels) (kinds.Delimiter marks.LeftParenthesis))
    (λ x s g. deep_ended r.levels (index_exact r.levels) (deep_index r.levels) (deep_skipped r.levels (kinds.Delimiter marks.RightParenthesis)))
    (λ x s g. omega (arith, one_opener (kinds.Delimiter marks.LeftParenthesis) s refl (g.0, g.1, g.2)))

deep_array_index : (k : ℕ) → Deep k (array_index_at k)
deep_array_index k =
    deep_choose k (is_mark marks.LeftParenthesis) _ _
    (deep_opened HoldsDeep (is_mark marks.LeftParenthesis) k (readers k) index_in (λ o h. opening_kind (kinds.Delimiter marks.LeftParenthesis) o refl h)
    (holds_deep k)
    (λ m r h. subst (λ (m : ℕ). Deep (suc m) (index_in r)) h.0.0 (deep_index_in r)))
    (deep_refuse k)

deep_record_component : (k : ℕ) → Deep k component_at
deep_record_component k =
    deep_changed k _ (deep_named k
    (deep_past k (kinds.Delimiter marks.Colon) refl (deep_ended k exact_identifier (deep_identifier k) (deep_skipped k semicolon))))

pub component_list_exact : Exact component_list_at (some record_component) (λ xs o. (is_identifier o ≡ false) × Any o)
component_list_exact =
    exact_several is_identifier component_at record_component Any component_of_exact
    (λ x s r g. at_name (λ o. is_identifier o ≡ true) x.name (λ _ _. refl) s r g) (λ o h. tt) refl

deep_definition : (k : ℕ) → Deep k (definition_at k)
deep_definition k =
    deep_if k (is_word words.Range)
    (deep_changed k _ (deep_past k (kinds.Word words.Range) refl (deep_ended k (range_exact k) (deep_range k) (deep_skipped k semicolon))))
    (deep_if k (is_word words.Array)
    (deep_changed k _ (deep_past k (kinds.Word words.Array) refl (deep_both k (array_index_exact k) (deep_array_index k)
    (deep_past k (kinds.Word words.Of) refl (deep_ended k exact_identifier (deep_identifier k) (deep_skipped k semicolon))))))
    (deep_changed k _ (deep_past k (kinds.Word words.Record) refl
    (deep_ended k component_list_exact (deep_several k is_identifier component_at _ _ component_of_exact (deep_record_component k))
    (deep_past k (kinds.Word words.End) refl (deep_past k (kinds.Word words.Record) refl (deep_skipped k semicolon)))))))

deep_type : (k : ℕ) → Deep k (type_at k)
deep_type k = deep_changed k _ (deep_past k (kinds.Word words.Type) refl (deep_named k (deep_past k (kinds.Word words.Is) refl (deep_definition k))))

pub constraint_exact : (k : ℕ) → Exact (constraint_part k) (optional (constraint (Some k))) ConstraintStops
constraint_exact k =
    perhaps_exact (is_word words.Range) (past_exact (kinds.Word words.Range) refl (range_exact k))
    (λ x s r g. at_past (λ o. is_word words.Range o ≡ true) (kinds.Word words.Range) (λ _ _. refl) s r g)

deep_subtype : (k : ℕ) → Deep k (subtype_at k)
deep_subtype k =
    deep_changed k _ (deep_past k (kinds.Word words.Subtype) refl (deep_named k (deep_past k (kinds.Word words.Is) refl (deep_named k
    (deep_ended k (constraint_exact k) (deep_perhaps k (is_word words.Range) (deep_past k (kinds.Word words.Range) refl (deep_range k)))
    (deep_skipped k semicolon))))))

-- ---- items

deep_named_item : (k : ℕ) → Deep k (named_item_at k)
deep_named_item k =
    deep_changed k _ (deep_named k (deep_past k (kinds.Delimiter marks.Colon) refl
    (deep_either k (is_word words.Exception) (deep_past k (kinds.Word words.Exception) refl (deep_skipped k semicolon)) (deep_object_rest k))))

deep_subprogram_item : (k : ℕ) → Deep k (subprogram_item_at k)
deep_subprogram_item k = deep_changed k _ (deep_ended k (subprogram_exact k) (deep_subprogram k) (deep_skipped k semicolon))

item_as : (k : ℕ) (w : Option Word) → DeepAs w k (item_of k w)
item_as k (Some words.Type) = deep_as k (deep_changed k _ (deep_type k))
item_as k (Some words.Subtype) = deep_as k (deep_changed k _ (deep_subtype k))
item_as k (Some words.Procedure) = deep_as k (deep_subprogram_item k)
item_as k (Some words.Function) = deep_as k (deep_subprogram_item k)
item_as k (Some words.Task) = deep_as k (deep_changed k _ (deep_task k))
item_as k (Some words.Protected) = deep_as k (deep_changed k _ (deep_protected k))
item_as k w = deep_as k (deep_named_item k)

deep_item : (k : ℕ) → Deep k (item_at k)
deep_item k = deep_by_word k (item_of k) (item_as k)

pub item_list_exact : (k : ℕ) → Exact (item_list_at k) (each (item (Some k))) (ManyStops begins_item Any)
item_list_exact k = exact_many begins_item (item_at k) (item (Some k)) Any (item_exact k) (λ x s r g. (item_starts k x s r g).1) (λ o h. tt) refl

-- ---- bodies

deep_body : (k : ℕ) → Deep k (body_at k)
deep_body k =
    let statements = statements_at k (readers k) in
    deep_changed k _ (deep_both k (declarations_exact k) (deep_declarations k)
    (deep_past k (kinds.Word words.Begin) refl (deep_both k (statements_exact k) (deep_statements k)
    (deep_both k (handlers_exact k statements (statements_exact k)) (deep_handlers k statements (statements_exact k) (deep_statements k)) (deep_name_end k)))))

deep_operation_body : (k : ℕ) → Deep k (operation_body_at k)
deep_operation_body k = deep_changed k _ (deep_both k (subprogram_exact k) (deep_subprogram k) (deep_past k (kinds.Word words.Is) refl (deep_body k)))

deep_entry_body : (k : ℕ) → Deep k (entry_body_at k)
deep_entry_body k =
    deep_changed k _ (deep_both k (entry_exact k) (deep_entry_at k)
    (deep_past k (kinds.Word words.When) refl
    (deep_both k (exact_expression k) (deep_expression k) (deep_past k (kinds.Word words.Is) refl (deep_body k)))))

deep_protected_item : (k : ℕ) → Deep k (protected_item_at k)
deep_protected_item k = deep_if k (is_word words.Entry) (deep_entry_body k) (deep_operation_body k)

pub protected_item_list_exact : (k : ℕ) → Exact (protected_item_list_at k) (each (protected_item (Some k))) (ManyStops begins_operation Any)
protected_item_list_exact k =
    exact_many begins_operation (protected_item_at k) (protected_item (Some k)) Any (protected_item_exact k) (protected_item_begins k) (λ o h. tt) refl

deep_subprogram_body : (k : ℕ) → Deep k (subprogram_body_at k)
deep_subprogram_body k =
    deep_changed k _ (deep_both k (subprogram_exact k) (deep_subprogram k)
    (deep_either k (is_mark marks.Semicolon) (deep_skipped k semicolon) (deep_past k (kinds.Word words.Is) refl (deep_body k))))

deep_task_item : (k : ℕ) → Deep k (task_item_at k)
deep_task_item k =
    deep_changed k _ (deep_placed k (kinds.Word words.Task) refl
    (deep_either k (is_word words.Body) (deep_past k (kinds.Word words.Body) refl (deep_named k (deep_past k (kinds.Word words.Is) refl (deep_body k))))
    (deep_task_rest k)))

deep_protected_object : (k : ℕ) → Deep k (protected_object_at k)
deep_protected_object k =
    deep_changed k _ (deep_placed k (kinds.Word words.Protected) refl
    (deep_either k (is_word words.Body)
    (deep_past k (kinds.Word words.Body) refl (deep_named k (deep_past k (kinds.Word words.Is) refl
    (deep_both k (protected_item_list_exact k) (deep_many k begins_operation (protected_item_at k) _ _ (protected_item_exact k) (deep_protected_item k))
    (deep_name_end k)))))
    (deep_protected_rest k)))

body_item_as : (k : ℕ) (w : Option Word) → DeepAs w k (body_item_of k w)
body_item_as k (Some words.Procedure) = deep_as k (deep_subprogram_body k)
body_item_as k (Some words.Function) = deep_as k (deep_subprogram_body k)
body_item_as k (Some words.Task) = deep_as k (deep_task_item k)
body_item_as k (Some words.Protected) = deep_as k (deep_protected_object k)
body_item_as k w = deep_as k (deep_changed k _ (deep_item k))

deep_body_item : (k : ℕ) → Deep k (body_item_at k)
deep_body_item k = deep_by_word k (body_item_of k) (body_item_as k)

pub body_item_list_exact : (k : ℕ) → Exact (body_item_list_at k) (each (body_item (Some k))) (ManyStops begins_item Any)
body_item_list_exact k =
    exact_many begins_item (body_item_at k) (body_item (Some k)) Any (body_item_exact k) (λ x s r g. (body_starts k x s r g).1) (λ o h. tt) refl

-- ---- packages

deep_unit_name : (k : ℕ) → Deep k unit_name_at
deep_unit_name k = deep_changed k _ (deep_named k (deep_component_part k))

deep_unit_clause : (k : ℕ) → Deep k unit_clause_at
deep_unit_clause k =
    deep_changed k _ (deep_placed k (kinds.Word words.With) refl (deep_both k unit_name_exact (deep_unit_name k)
    (deep_past k semicolon refl (deep_past k (kinds.Word words.Use) refl (deep_ended k unit_name_exact (deep_unit_name k) (deep_skipped k semicolon))))))

pub clause_list_exact : Exact clause_list_at (each unit_clause) (ManyStops (is_word words.With) Any)
clause_list_exact =
    exact_many (is_word words.With) unit_clause_at unit_clause Any unit_clause_exact
    (λ x s r g. at_placed (λ o. is_word words.With o ≡ true) (kinds.Word words.With) x.place (λ _ _. refl) s r g) (λ o h. tt) refl

deep_package_declaration : (k : ℕ) → Deep k (package_declaration_at k)
deep_package_declaration k =
    deep_changed k _ (deep_placed k (kinds.Word words.Package) refl (deep_named k (deep_past k (kinds.Word words.Is) refl
    (deep_both k (item_list_exact k) (deep_many k begins_item (item_at k) _ _ (item_exact k) (deep_item k)) (deep_name_end k)))))

deep_package_body : (k : ℕ) → Deep k (package_body_at k)
deep_package_body k =
    deep_changed k _ (deep_placed k (kinds.Word words.Package) refl
    (deep_past k (kinds.Word words.Body) refl (deep_named k (deep_past k (kinds.Word words.Is) refl
    (deep_both k (body_item_list_exact k) (deep_many k begins_item (body_item_at k) _ _ (body_item_exact k) (deep_body_item k)) (deep_name_end k))))))

deep_package : (k : ℕ) → Deep k (package_at k)
deep_package k =
    deep_changed k _ (deep_both k clause_list_exact (deep_many k (is_word words.With) unit_clause_at _ _ unit_clause_exact (deep_unit_clause k))
    (deep_both k (package_declaration_exact k) (deep_package_declaration k) (deep_both k (package_body_exact k) (deep_package_body k)
    (deep_past k (kinds.Word words.With) refl (deep_ended k exact_identifier (deep_identifier k) (deep_skipped k semicolon))))))

-- ---- whole texts

deep_main_statement : (k : ℕ) → Deep k main_statement_at
deep_main_statement k =
    deep_changed k _ (deep_either k (is_word words.Null)
    (deep_ended k (exact_token (kinds.Word words.Null) refl) (deep_token k (kinds.Word words.Null)) (deep_skipped k semicolon))
    (deep_named k (deep_past k (kinds.Delimiter marks.Dot) refl (deep_ended k exact_identifier (deep_identifier k) (deep_skipped k semicolon)))))

pub main_statement_list_exact : Exact main_statement_list_at (some main_statement) (λ xs o. (begins_main_statement o ≡ false) × Any o)
main_statement_list_exact = exact_several begins_main_statement main_statement_at main_statement Any main_statement_exact main_statement_begins (λ o h. tt) refl

deep_main : (k : ℕ) → Deep k (main_at k)
deep_main k =
    deep_changed k _ (deep_placed k (kinds.Word words.Procedure) refl (deep_named k (deep_both k (aspect_part_exact k) (deep_aspect k)
    (deep_past k (kinds.Word words.Is) refl (deep_past k (kinds.Word words.Begin) refl
    (deep_both k main_statement_list_exact (deep_several k begins_main_statement main_statement_at _ _ main_statement_exact (deep_main_statement k))
    (deep_name_end k)))))))

deep_pragma : (k : ℕ) → Deep k pragma_at
deep_pragma k =
    deep_changed k _ (deep_placed k (kinds.Word words.Pragma) refl (deep_named k (deep_past k (kinds.Delimiter marks.LeftParenthesis) refl
    (deep_ended k exact_identifier (deep_identifier k) (deep_past k (kinds.Delimiter marks.RightParenthesis) refl (deep_skipped k semicolon))))))

pub pragma_list_exact : Exact pragma_list_at (each pragma_clause) (ManyStops (is_word words.Pragma) Any)
pragma_list_exact =
    exact_many (is_word words.Pragma) pragma_at pragma_clause Any pragma_exact
    (λ x s r g. at_placed (λ o. is_word words.Pragma o ≡ true) (kinds.Word words.Pragma) x.place (λ _ _. refl) s r g) (λ o h. tt) refl

pub package_part_exact : (k : ℕ) → Exact (package_part_at k) (optional (package_part (Some k))) (PerhapsStops begins_package Free)
package_part_exact k =
    perhaps_exact begins_package (package_exact k) (λ x s r g. at_package (λ o. begins_package o ≡ true) (λ _ _. refl) (λ _ _. refl) k x s r g)

deep_program : (k : ℕ) → Deep k (program_at k)
deep_program k =
    deep_changed k _ (deep_both k pragma_list_exact (deep_many k (is_word words.Pragma) pragma_at _ _ pragma_exact (deep_pragma k))
    (deep_both k (package_part_exact k) (deep_perhaps k begins_package (deep_package k)) (deep_main k)))

pub deep_whole : (k : ℕ) → Deep k (whole_at k)
deep_whole k = deep_ended k (program_exact k) (deep_program k) (never_deep k end_at end_fault)
