-- What readers of declarations and statements have taken where they refuse can go on.
use Rattle.lexer.specs.declared.token.TokenKind.TheVariants as kinds
use Rattle.lexer.specs.declared.word.Word.TheVariants as words
use Rattle.lexer.specs.declared.delimiter.Delimiter.TheVariants as marks
use Rattle.std.proofs.Common.{◌≡◌, ℕ, zero, suc, Bool, true, false, cond, [], ◌∷◌, ◌++◌, length, Option, Some, None, Ok, Err, refl, sym, ap, inl}
use Rattle.std.proofs.Common.{inr, ◌⊎◌}
use Rattle.lexer.specs.declared.token.Token.{Token}
use Rattle.lexer.specs.declared.token.TokenKind.{TokenKind}
use Rattle.lexer.specs.declared.word.Word.{Word}
use Rattle.ada_tree.specs.declared.expression.Identifier.{Identifier}
use Rattle.ada_tree.specs.StatementTree.{StmtTree, StmtTrees, Null}
use Rattle.ada_tree.specs.Language.{Tokens}
use Rattle.ada_tree.specs.StatementGrammar.{formal, exception_choice}
use Rattle.parser.specs.declared.refusal.Broken.{Broken}
use Rattle.parser.specs.Reading.{Reader, refuse, is_kind, is_word, is_mark, token_of, identifier_of, seq, opened, skip_mark}
use Rattle.parser.specs.ExpressionReading.{ExpressionReaders, values, expression_at}
use Rattle.parser.specs.MoreReading.{past, ended, is_identifier}
use Rattle.parser.specs.DeclarationReading.{range_at, aspect_part, initial_part, object_rest_at, object_at, formal_at, formals_in, formals_at, subprogram_at}
use Rattle.parser.specs.DeclarationReading.{entry_at, task_entry_at, task_definition_at, task_rest_at, task_at, operation_at, begins_operation}
use Rattle.parser.specs.DeclarationReading.{protected_component_at, protected_rest_at, protected_at, declaration_at, begins_declaration, declarations_at}
use Rattle.parser.specs.StatementReading.{Readers, null_at, named_at, exit_at, return_at, raise_at, delay_at, component_part, requeue_at, selected_at}
use Rattle.parser.specs.StatementReading.{select_at}
use Rattle.parser.specs.StatementReading.{elsif_at, elsifs_at, else_at, if_at, choices_at, alternative_at, case_at, while_at, for_at, iteration_at, loop_at}
use Rattle.parser.specs.StatementReading.{exception_choice_at, handler_at, handlers_at, block_start_at, block_at, statement_of, statement_at, begins_statement}
use Rattle.parser.specs.StatementReading.{statements_at, readers}
use Rattle.parser.proofs.general.Exact.{Free, chosen, ok_not_err, err_is}
use Rattle.parser.proofs.general.Several.{Below, exact_token, exact_identifier, exact_separated}
use Rattle.parser.proofs.general.MoreExact.{flag_exact, perhaps_exact, past_exact, Any, at_past, many_stop, set_stop, perhaps_stop}
use Rattle.parser.proofs.general.Heads.{when_first}
use Rattle.parser.proofs.expressions.Followers.{ExpressionStops}
use Rattle.parser.proofs.expressions.Levelled.{exact_expression, exact_simple, exact_name_at}
use Rattle.parser.proofs.declarations.Declarations.{AspectStops, ModeStops, range_exact, aspect_part_exact, initial_exact, flags_exact, formal_exact}
use Rattle.parser.proofs.declarations.Declarations.{formals_exact, formals_stop}
use Rattle.parser.proofs.declarations.Declarations.{subprogram_exact, subprogram_stop, entry_exact, task_entry_exact, operation_exact}
use Rattle.parser.proofs.declarations.Declarations.{protected_component_exact}
use Rattle.parser.proofs.declarations.Declarations.{declaration_exact, declarations_exact}
use Rattle.parser.proofs.statements.Selected.{selected_exact}
use Rattle.parser.proofs.statements.PlainStatements.{ComponentStops, no_semicolon, name_first, component_exact, value_exact, time_exact, delay_ends}
use Rattle.parser.proofs.statements.CompoundStatements.{AllStop, ExactStatements, exception_choice_exact, handler_exact, handler_list_exact, handlers_exact}
use Rattle.parser.proofs.statements.CompoundStatements.{handlers_end}
use Rattle.parser.proofs.statements.CompoundStatements.{elsif_exact, elsif_list_exact, elsifs_exact, elsifs_stop, else_exact, else_end, choices_exact}
use Rattle.parser.proofs.statements.CompoundStatements.{choices_arrow}
use Rattle.parser.proofs.statements.CompoundStatements.{alternative_exact, alternative_list_exact, alternatives_exact, iteration_exact, block_start_exact}
use Rattle.parser.proofs.statements.CompoundStatements.{line, line_stops}
use Rattle.parser.proofs.statements.Statements.{Holds, below, statement_exact, statement_list_exact}
use Rattle.parser.proofs.statements.DeepStatements.{task_entries_exact, task_part_exact, operations_exact, components_exact, private_exact}
use Rattle.parser.proofs.general.Going.{Begun, ReadsAll, GoesOn, Goes, a_token, a_name, mapped_on, goes_mapped, goes_nothing, goes_token, goes_skipped}
use Rattle.parser.proofs.general.Going.{goes_identifier}
use Rattle.parser.proofs.general.Going.{goes_both, goes_placed, goes_named, goes_past, goes_ended, goes_mapped_both, goes_if, goes_first, goes_perhaps}
use Rattle.parser.proofs.general.Going.{goes_either}
use Rattle.parser.proofs.general.Going.{goes_flag, goes_by_word, goes_many, goes_several, goes_separated}
use Rattle.parser.proofs.expressions.GoingExpressions.{a_number, Lively, lively, below_on, goes_expression, goes_simple, goes_name}

abbrev semicolon : TokenKind
semicolon = kinds.Delimiter marks.Semicolon

abbrev pub a_word : Word → Token
a_word w = a_token (kinds.Word w)

abbrev pub a_semicolon : Token
a_semicolon = a_token (kinds.Delimiter marks.Semicolon)

pub goes_word : (w : Word) → is_kind (kinds.Word w) (kinds.Word w) ≡ true → Goes (token_of (kinds.Word w)) (a_word w ∷ [])
goes_word w itself = goes_token (kinds.Word w) itself

pub goes_semicolon : Goes (skip_mark marks.Semicolon) (a_semicolon ∷ [])
goes_semicolon = goes_skipped (kinds.Delimiter marks.Semicolon) refl

-- ---- declarations

pub goes_range : (k : ℕ) → Goes (range_at k) (a_number ∷ a_token (kinds.Delimiter marks.DoubleDot) ∷ a_number ∷ [])
goes_range k = goes_mapped _ (goes_both (exact_simple k) (goes_simple k) (goes_past (kinds.Delimiter marks.DoubleDot) refl (goes_simple k)) (λ x. refl))

pub goes_aspect : (k : ℕ) → Goes (aspect_part k) []
goes_aspect k =
    goes_perhaps (is_word words.With) refl
    (goes_mapped _ (goes_placed (kinds.Word words.With) refl (goes_named (goes_past (kinds.Delimiter marks.Arrow) refl (goes_expression k))))).on

pub aspect_stop : (k : ℕ) (o : Option Token) → is_word words.With o ≡ false → ExpressionStops o → (x : _) → AspectStops x o
aspect_stop k o h st x = perhaps_stop (is_word words.With) (λ _. ExpressionStops) o h (λ _. st) x

pub goes_initial : (k : ℕ) → Goes (initial_part k) []
goes_initial k = goes_perhaps (is_mark marks.Assignment) refl (goes_past (kinds.Delimiter marks.Assignment) refl (goes_expression k)).on

-- an initial value, and a semicolon
goes_initial_end : (k : ℕ) → Goes (ended (initial_part k) (skip_mark marks.Semicolon)) (a_semicolon ∷ [])
goes_initial_end k =
    goes_ended (initial_exact k) (goes_initial k) goes_semicolon (λ x. perhaps_stop (is_mark marks.Assignment) (λ _. ExpressionStops) _ refl (λ _. refl) x)

pub goes_object_rest : (k : ℕ) → Goes (object_rest_at k) (a_name ∷ a_semicolon ∷ [])
goes_object_rest k =
    goes_both (flag_exact (kinds.Word words.Constant) refl) (goes_flag (kinds.Word words.Constant) refl) (goes_named (goes_initial_end k))
    (λ x. set_stop (kinds.Word words.Constant) _ refl x)

goes_object : (k : ℕ) → Goes (object_at k) (a_name ∷ a_token (kinds.Delimiter marks.Colon) ∷ a_name ∷ a_semicolon ∷ [])
goes_object k = goes_mapped _ (goes_named (goes_past (kinds.Delimiter marks.Colon) refl (goes_object_rest k)))

mode_stop : (x : Bool × Bool) → ModeStops x (Some a_name)
mode_stop x = stop x.0 x.1
  where
    stop : (i u : Bool) → ModeStops (i, u) (Some a_name)
    stop i false = (set_stop (kinds.Word words.In) _ refl i, refl)
    stop i true = tt

goes_formal : Goes formal_at (a_name ∷ a_token (kinds.Delimiter marks.Colon) ∷ a_name ∷ [])
goes_formal =
    goes_mapped _ (goes_named (goes_past (kinds.Delimiter marks.Colon) refl (goes_mapped_both _ flags_exact
    (goes_both (flag_exact (kinds.Word words.In) refl) (goes_flag (kinds.Word words.In) refl) (goes_flag (kinds.Word words.Out) refl)
    (λ x. set_stop (kinds.Word words.In) _ refl x))
    goes_identifier mode_stop)))

formals_on : (n : ℕ) (r : ExpressionReaders) → Lively n r → GoesOn (formals_in r)
formals_on n r h =
    let es = exact_separated semicolon refl formal_at formal Any formal_exact (λ o h. tt) in
    (goes_past (kinds.Delimiter marks.LeftParenthesis) refl (goes_ended es
    (goes_separated semicolon refl formal_at formal Free formal_exact (λ x o h. tt) goes_formal es (λ xs. (refl, tt)))
    (goes_skipped (kinds.Delimiter marks.RightParenthesis) refl) (λ xs. (refl, tt)))).on

pub goes_formals : (k : ℕ) → Goes (formals_at k) []
goes_formals k = goes_if (is_mark marks.LeftParenthesis) refl (below_on Lively k (values k) formals_in (lively k) formals_on) (goes_nothing [])

pub goes_subprogram : (k : ℕ) → Goes (subprogram_at k) (a_word words.Procedure ∷ a_name ∷ [])
goes_subprogram k =
    goes_if (is_word words.Function) refl
    (goes_mapped _ (goes_placed (kinds.Word words.Function) refl (goes_named
    (goes_both (formals_exact k) (goes_formals k) (goes_past (kinds.Word words.Return) refl goes_identifier) (λ x. formals_stop _ refl x))))).on
    (goes_mapped _ (goes_placed (kinds.Word words.Procedure) refl (goes_named (goes_formals k))))

pub goes_entry : (k : ℕ) → Goes (entry_at k) (a_word words.Entry ∷ a_name ∷ [])
goes_entry k = goes_mapped _ (goes_placed (kinds.Word words.Entry) refl (goes_named (goes_formals k)))

pub goes_name_semicolon : Goes (ended identifier_of (skip_mark marks.Semicolon)) (a_name ∷ a_semicolon ∷ [])
goes_name_semicolon = goes_ended exact_identifier goes_identifier goes_semicolon (λ x. tt)

goes_task_entry : Goes task_entry_at (a_word words.Entry ∷ a_name ∷ a_semicolon ∷ [])
goes_task_entry = goes_mapped _ (goes_placed (kinds.Word words.Entry) refl goes_name_semicolon)

task_definition_on : GoesOn task_definition_at
task_definition_on =
    (goes_mapped _ (goes_past (kinds.Word words.Is) refl (goes_both task_entries_exact
    (goes_many (is_word words.Entry) task_entry_exact goes_task_entry.on task_entries_exact (λ xs. many_stop (is_word words.Entry) Any _ refl tt xs))
    (goes_past (kinds.Word words.End) refl goes_identifier) (λ xs. many_stop (is_word words.Entry) Any _ refl tt xs)))).on

pub goes_task_rest : (k : ℕ) → Goes (task_rest_at k) (a_name ∷ a_semicolon ∷ [])
goes_task_rest k =
    goes_named (goes_both (aspect_part_exact k) (goes_aspect k)
    (goes_ended task_part_exact (goes_perhaps (is_word words.Is) refl task_definition_on) goes_semicolon
    (λ x. perhaps_stop (is_word words.Is) Free _ refl (λ _. tt) x))
    (λ x. aspect_stop k _ refl refl x))

pub goes_task : (k : ℕ) → Goes (task_at k) (a_word words.Task ∷ a_name ∷ a_semicolon ∷ [])
goes_task k = goes_mapped _ (goes_placed (kinds.Word words.Task) refl (goes_task_rest k))

operation_on : (k : ℕ) → GoesOn (operation_at k)
operation_on k =
    (goes_mapped _ (goes_either (is_word words.Entry) refl (goes_ended (entry_exact k) (goes_entry k) goes_semicolon (λ x. formals_stop _ refl x.formals)).on
    (goes_both (subprogram_exact k) (goes_subprogram k) (goes_ended (aspect_part_exact k) (goes_aspect k) goes_semicolon (λ x. aspect_stop k _ refl refl x))
    (λ x. subprogram_stop _ refl x)))).on

component_on : (k : ℕ) → GoesOn (protected_component_at k)
component_on k = (goes_mapped _ (goes_named (goes_past (kinds.Delimiter marks.Colon) refl (goes_named (goes_initial_end k))))).on

pub goes_name_end : Goes (past (kinds.Word words.End) (ended identifier_of (skip_mark marks.Semicolon))) (a_word words.End ∷ a_name ∷ a_semicolon ∷ [])
goes_name_end = goes_past (kinds.Word words.End) refl goes_name_semicolon

pub goes_protected_rest : (k : ℕ)
    → Goes (protected_rest_at k) (a_name ∷ a_word words.Is ∷ a_word words.End ∷ a_name ∷ a_semicolon ∷ [])
goes_protected_rest k =
    let components = goes_many is_identifier (protected_component_exact k) (component_on k) (components_exact k)
    (λ xs. many_stop is_identifier Any _ refl tt xs) in
    let operations = goes_many begins_operation (operation_exact k) (operation_on k) (operations_exact k)
    (λ xs. many_stop begins_operation Any _ refl tt xs) in
    let private = goes_mapped_both _ (private_exact k) (goes_perhaps (is_word words.Private) refl (goes_past (kinds.Word words.Private) refl components).on)
    goes_name_end (λ x. perhaps_stop (is_word words.Private) _ _ refl (λ xs. many_stop is_identifier Any _ refl tt xs) x) in
    goes_named (goes_both (aspect_part_exact k) (goes_aspect k) (goes_past (kinds.Word words.Is) refl
    (goes_both (operations_exact k) operations private (λ xs. many_stop begins_operation Any _ refl tt xs)))
    (λ x. aspect_stop k _ refl refl x))

pub goes_protected : (k : ℕ)
    → Goes (protected_at k) (a_word words.Protected ∷ a_name ∷ a_word words.Is ∷ a_word words.End ∷ a_name ∷ a_semicolon ∷ [])
goes_protected k = goes_mapped _ (goes_placed (kinds.Word words.Protected) refl (goes_protected_rest k))

declaration_on : (k : ℕ) → GoesOn (declaration_at k)
declaration_on k =
    (goes_mapped _ (goes_either (is_word words.Task) refl (goes_task k).on (goes_either (is_word words.Protected) refl (goes_protected k).on
    (goes_object k)))).on

pub goes_declarations : (k : ℕ) → Goes (declarations_at k) []
goes_declarations k =
    goes_many begins_declaration (declaration_exact k) (declaration_on k) (declarations_exact k) (λ xs. many_stop begins_declaration Any _ refl tt xs)

-- ---- statements without statements in them

goes_null : Goes (ended (token_of (kinds.Word words.Null)) (skip_mark marks.Semicolon)) (a_word words.Null ∷ a_semicolon ∷ [])
goes_null = goes_ended (exact_token (kinds.Word words.Null) refl) (goes_word words.Null refl) goes_semicolon (λ x. tt)

named_statement_on : (k : ℕ) → GoesOn (named_at k)
named_statement_on k = (goes_mapped _ (goes_both (exact_name_at k) (goes_name k) (goes_initial_end k) (λ x. refl))).on

exit_on : (k : ℕ) → GoesOn (exit_at k)
exit_on k =
    (goes_mapped _ (goes_placed (kinds.Word words.Exit) refl (goes_ended
    (perhaps_exact (is_word words.When) (past_exact (kinds.Word words.When) refl (exact_expression k))
    (λ x s r g. at_past (λ o. is_word words.When o ≡ true) (kinds.Word words.When) (λ _ _. refl) s r g))
    (goes_perhaps (is_word words.When) refl (goes_past (kinds.Word words.When) refl (goes_expression k)).on) goes_semicolon
    (λ x. perhaps_stop (is_word words.When) (λ _. ExpressionStops) _ refl (λ _. refl) x)))).on

return_on : (k : ℕ) → GoesOn (return_at k)
return_on k =
    (goes_mapped _ (goes_placed (kinds.Word words.Return) refl (goes_ended (value_exact k)
    (goes_first no_semicolon refl (goes_mapped Some (goes_expression k)) (goes_nothing None).on) goes_semicolon
    (λ x. perhaps_stop no_semicolon (λ _. ExpressionStops) _ refl (λ _. refl) x)))).on

raise_on : GoesOn raise_at
raise_on =
    (goes_mapped _ (goes_placed (kinds.Word words.Raise) refl (goes_ended
    (perhaps_exact is_identifier exact_identifier (λ x s r g. name_first (λ o. is_identifier o ≡ true) x (λ _ _. refl) s r g))
    (goes_perhaps is_identifier refl goes_identifier.on) goes_semicolon (λ x. perhaps_stop is_identifier Free _ refl (λ _. tt) x)))).on

delay_on : (k : ℕ) → GoesOn (delay_at k)
delay_on k =
    (goes_mapped _ (goes_placed (kinds.Word words.Delay) refl (goes_ended (time_exact k)
    (goes_either (is_word words.Until) refl (goes_past (kinds.Word words.Until) refl (goes_expression k)).on (goes_expression k)) goes_semicolon
    (λ x. delay_ends x 0 0)))).on

pub goes_component_part : Goes component_part []
goes_component_part = goes_perhaps (is_mark marks.Dot) refl (goes_past (kinds.Delimiter marks.Dot) refl goes_identifier).on

pub component_stop : (o : Option Token) → is_mark marks.Dot o ≡ false → (x : Option Identifier) → ComponentStops x o
component_stop o h x = perhaps_stop (is_mark marks.Dot) Free o h (λ _. tt) x

requeue_on : GoesOn requeue_at
requeue_on =
    (goes_mapped _ (goes_placed (kinds.Word words.Requeue) refl (goes_named
    (goes_ended component_exact goes_component_part goes_semicolon (λ x. component_stop _ refl x))))).on

named_end_on : (w : Word) → is_kind (kinds.Word w) (kinds.Word w) ≡ true
    → GoesOn (seq (token_of (kinds.Word w)) (ended identifier_of (skip_mark marks.Semicolon)))
named_end_on w itself = (goes_placed (kinds.Word w) itself goes_name_semicolon).on

-- the tokens to the end of a select statement go on with that
abbrev an_end : Tokens
an_end = a_word words.End ∷ a_word words.Select ∷ []

selected_on : (ts : Tokens) (b : Bool) (f : Broken) → selected_at b ts ≡ Err f → Begun (selected_at b) ts f
selected_on [] b f e =
    let is = err_is {A = Unit {0} × Tokens} (record { deep = false; left = 0 }) f e in
    record { front = []; back = []; parts = refl; left = sym (ap (λ (d : Broken). d.left) is); on = inl refl }
selected_on (t ∷ ts) b f e =
    elim (chosen (is_word words.Select (Some t)) (cond b (Ok (tt, ts)) (refuse false (t ∷ ts))) (selected_at (is_word words.End (Some t)) ts) (Err f) e) [
      | inl w ↦
          elim (chosen b (Ok (tt, ts)) (refuse false (t ∷ ts)) (Err f) w.1) [
            | inl v ↦ absurd (ok_not_err _ f v.1)
            | inr v ↦
                let is = err_is {A = Unit {0} × Tokens} (record { deep = false; left = length (t ∷ ts) }) f v.1 in
                record { front = []; back = t ∷ ts; parts = refl; left = sym (ap (λ (d : Broken). d.left) is); on = inl refl }
          ]
      | inr w ↦
          let l = selected_on ts (is_word words.End (Some t)) f w.1 in
          record {
            front = t ∷ l.front;
            back = l.back;
            parts = ap (λ (z : Tokens). t ∷ z) l.parts;
            left = l.left;
            on = inr (behind w.0 l.front l.on);
          }
    ]
  where
    behind : is_word words.Select (Some t) ≡ false → (front : Tokens)
        → (front ≡ []) ⊎ ((s : Tokens) × ReadsAll (selected_at (is_word words.End (Some t))) (front ++ s))
        → (s : Tokens) × ReadsAll (selected_at b) (t ∷ (front ++ s))
    behind h [] on = (an_end, (tt, rw h refl))
    behind h (u ∷ front) (inl e) = absurd cc
    behind h (u ∷ front) (inr r) = (r.0, (r.1.0, rw h r.1.1))

goes_selected : Goes (selected_at false) an_end
goes_selected = record { on = λ ts f e. selected_on ts false f e; all = (tt, refl) }

select_on : GoesOn select_at
select_on =
    (goes_mapped _ (goes_ended (exact_token (kinds.Word words.Select) refl) (goes_word words.Select refl)
    (goes_ended selected_exact goes_selected goes_semicolon (λ x. tt)) (λ x. tt))).on

-- ---- statements with statements in them

-- a statement: null
abbrev pub a_statement : Tokens
a_statement = a_word words.Null ∷ a_semicolon ∷ []

goes_exception_choice : Goes exception_choice_at (a_name ∷ [])
goes_exception_choice = goes_mapped _ (goes_either (is_word words.Others) refl (goes_word words.Others refl).on goes_identifier)

goes_handler : (statements : Reader StmtTrees) → Goes statements a_statement
    → Goes (handler_at statements) (a_word words.When ∷ a_name ∷ a_token (kinds.Delimiter marks.Arrow) ∷ a_statement)
goes_handler statements gs =
    let es = exact_separated line refl exception_choice_at exception_choice Any exception_choice_exact (λ o h. tt) in
    goes_past (kinds.Word words.When) refl (goes_both es
    (goes_separated line refl exception_choice_at exception_choice Free exception_choice_exact (λ x o h. tt) goes_exception_choice es (λ xs. (refl, tt)))
    (goes_past (kinds.Delimiter marks.Arrow) refl gs) (λ xs. (refl, tt)))

pub goes_handlers : (k : ℕ) (statements : Reader StmtTrees) → ExactStatements k statements → Goes statements a_statement → Goes (handlers_at statements) []
goes_handlers k statements es gs =
    goes_if (is_word words.Exception) refl
    (goes_past (kinds.Word words.Exception) refl (goes_mapped _
    (goes_several (is_word words.When) (handler_exact k statements es) (goes_handler statements gs) (handler_list_exact k statements es)
    (λ xs. (refl, refl))))).on
    (goes_nothing _)

module _ (r : Readers) (es : ExactStatements r.levels r.statements) (gs : Goes r.statements a_statement) where
  abbrev n : ℕ
  n = r.levels

  elsif_on : GoesOn (elsif_at r)
  elsif_on =
      (goes_past (kinds.Word words.Elsif) refl
      (goes_both (exact_expression n) (goes_expression n) (goes_past (kinds.Word words.Then) refl gs) (λ x. refl))).on

  goes_elsifs : Goes (elsifs_at r) []
  goes_elsifs =
      goes_mapped _ (goes_many (is_word words.Elsif) (elsif_exact r es) elsif_on (elsif_list_exact r es)
      (λ xs. many_stop (is_word words.Elsif) AllStop _ refl refl xs))

  goes_else : Goes (else_at r) []
  goes_else = goes_if (is_word words.Else) refl (goes_past (kinds.Word words.Else) refl gs).on (goes_nothing _)

  if_at_on : GoesOn (if_at r)
  if_at_on =
      let close = goes_past (kinds.Word words.End) refl (goes_past (kinds.Word words.If) refl goes_semicolon) in
      let others = goes_ended (else_exact r es) goes_else close (λ y. else_end r es y 0 0) in
      let rest = goes_both es gs (goes_both (elsifs_exact r es) goes_elsifs others (λ x. elsifs_stop r es _ refl refl x)) (λ x. refl) in
      (goes_mapped _ (goes_placed (kinds.Word words.If) refl
      (goes_both (exact_expression n) (goes_expression n) (goes_past (kinds.Word words.Then) refl rest) (λ x. refl)))).on

  goes_choices : Goes (choices_at n) (a_number ∷ [])
  goes_choices =
      let goes = when_first ExpressionStops line line_stops in
      let list = exact_separated line refl (expression_at n) _ ExpressionStops (exact_expression n) goes in
      goes_mapped _ (goes_either (is_word words.Others) refl (goes_word words.Others refl).on
      (goes_separated line refl (expression_at n) _ (λ _. ExpressionStops) (exact_expression n) (λ x. goes) (goes_expression n) list (λ xs. (refl, refl))))

  goes_alternative : Goes (alternative_at r) (a_word words.When ∷ a_number ∷ a_token (kinds.Delimiter marks.Arrow) ∷ a_statement)
  goes_alternative =
      goes_placed (kinds.Word words.When) refl (goes_both (choices_exact r es) goes_choices (goes_past (kinds.Delimiter marks.Arrow) refl gs)
      (λ x. choices_arrow r es x 0 0))

  case_at_on : GoesOn (case_at r)
  case_at_on =
      let close = goes_past (kinds.Word words.End) refl (goes_past (kinds.Word words.Case) refl goes_semicolon) in
      let all = goes_mapped _ (goes_several (is_word words.When) (alternative_exact r es) goes_alternative (alternative_list_exact r es) (λ xs.
      (refl, refl))) in
      (goes_mapped _ (goes_placed (kinds.Word words.Case) refl (goes_both (exact_expression n) (goes_expression n)
      (goes_past (kinds.Word words.Is) refl (goes_ended (alternatives_exact r es) all close (λ x. (refl, refl)))) (λ x. refl)))).on

  while_on : GoesOn (while_at n)
  while_on =
      (goes_placed (kinds.Word words.While) refl
      (goes_ended (exact_expression n) (goes_expression n) (goes_skipped (kinds.Word words.Loop) refl) (λ x. refl))).on

  for_on : GoesOn (for_at n)
  for_on =
      (goes_placed (kinds.Word words.For) refl (goes_named (goes_past (kinds.Word words.In) refl
      (goes_both (flag_exact (kinds.Word words.Reverse) refl) (goes_flag (kinds.Word words.Reverse) refl)
      (goes_ended (range_exact n) (goes_range n) (goes_skipped (kinds.Word words.Loop) refl) (λ x. refl))
      (λ x. set_stop (kinds.Word words.Reverse) _ refl x))))).on

  goes_iteration : Goes (iteration_at n) (a_word words.Loop ∷ [])
  goes_iteration = goes_mapped _ (goes_either (is_word words.While) refl while_on (goes_either (is_word words.For) refl for_on (goes_word words.Loop refl)))

  loop_at_on : GoesOn (loop_at r)
  loop_at_on =
      let close = goes_past (kinds.Word words.End) refl (goes_past (kinds.Word words.Loop) refl goes_semicolon) in
      (goes_mapped _ (goes_both (iteration_exact r es) goes_iteration (goes_ended es gs close (λ x. refl)) (λ x. tt))).on

  goes_block_start : Goes (block_start_at n) (a_word words.Begin ∷ [])
  goes_block_start =
      goes_mapped _ (goes_either (is_word words.Declare) refl
      (goes_placed (kinds.Word words.Declare) refl
      (goes_ended (declarations_exact n) (goes_declarations n) (goes_skipped (kinds.Word words.Begin) refl)
      (λ xs. many_stop begins_declaration Any _ refl tt xs))).on
      (goes_word words.Begin refl))

  block_at_on : GoesOn (block_at r)
  block_at_on =
      let close = goes_past (kinds.Word words.End) refl goes_semicolon in
      let rest = goes_both es gs (goes_ended (handlers_exact n r.statements es) (goes_handlers n r.statements es gs) close
      (λ y. handlers_end n r.statements es y 0 0)) (λ x. refl) in
      (goes_mapped _ (goes_both (block_start_exact r es) goes_block_start rest (λ x. tt))).on

-- ---- statements of each kind

-- one level down
abbrev pub LivelyStatements : ℕ → Readers → Type 0
LivelyStatements m r = Holds m r × Goes r.statements a_statement

module _ (k : ℕ) (d : Option Readers) (b : Below LivelyStatements k d) where
  compound_on : (f : Readers → Reader StmtTree)
      → ((r : Readers) → ExactStatements r.levels r.statements → Goes r.statements a_statement → GoesOn (f r)) → GoesOn (opened d f)
  compound_on f g = below_on LivelyStatements k d f b (λ m r h. g r h.0.1 h.1)

  goes_null_statement : Goes null_at a_statement
  goes_null_statement = goes_mapped Null goes_null

  statement_of_on : (w : Option Word) → GoesOn (statement_of k d w)
  statement_of_on (Some words.Null) = goes_null_statement.on
  statement_of_on (Some words.Exit) = exit_on k
  statement_of_on (Some words.Return) = return_on k
  statement_of_on (Some words.Raise) = raise_on
  statement_of_on (Some words.Delay) = delay_on k
  statement_of_on (Some words.If) = compound_on if_at if_at_on
  statement_of_on (Some words.Case) = compound_on case_at case_at_on
  statement_of_on (Some words.Loop) = compound_on loop_at loop_at_on
  statement_of_on (Some words.While) = compound_on loop_at loop_at_on
  statement_of_on (Some words.For) = compound_on loop_at loop_at_on
  statement_of_on (Some words.Begin) = compound_on block_at block_at_on
  statement_of_on (Some words.Declare) = compound_on block_at block_at_on
  statement_of_on (Some words.Abort) = mapped_on _ (named_end_on words.Abort refl)
  statement_of_on (Some words.Requeue) = requeue_on
  statement_of_on (Some words.Accept) = mapped_on _ (named_end_on words.Accept refl)
  statement_of_on (Some words.Select) = select_on
  statement_of_on w = named_statement_on k

  goes_statement : Goes (statement_at k d) a_statement
  goes_statement = goes_by_word (statement_of k d) statement_of_on goes_null_statement.all

statements_below_go : (k : ℕ) → Below LivelyStatements k (readers k) → Goes (statements_at k (readers k)) a_statement
statements_below_go k b =
    goes_mapped _ (goes_several begins_statement (statement_exact k) (goes_statement k (readers k) b) (statement_list_exact k) (λ xs. (refl, tt)))

pub lively_statements : (k : ℕ) → Below LivelyStatements k (readers k)
lively_statements zero = tt
lively_statements (suc k) = (below (suc k), statements_below_go k (lively_statements k))

pub goes_statements : (k : ℕ) → Goes (statements_at k (readers k)) a_statement
goes_statements k = statements_below_go k (lively_statements k)
