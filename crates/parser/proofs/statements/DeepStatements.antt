-- A fault of depth in declarations and statements stands at a token that opens a level, behind enough of them.
use Rattle.lexer.specs.declared.token.TokenKind.TheVariants as kinds
use Rattle.lexer.specs.declared.word.Word.TheVariants as words
use Rattle.lexer.specs.declared.delimiter.Delimiter.TheVariants as marks
use Rattle.std.proofs.Common.{◌≡◌, ℕ, zero, suc, ◌+◌, ◌≤◌, Bool, true, false, List, [], ◌∷◌, ◌++◌, length, Option, Some, None, Ok, Err, refl, sym, ap, subst}
use Rattle.std.proofs.Common.{◌∙◌, arith, inl, inr, cond}
use Rattle.lexer.specs.declared.token.Token.{Token}
use Rattle.lexer.specs.declared.token.TokenKind.{TokenKind}
use Rattle.lexer.specs.declared.word.Word.{Word}
use Rattle.ada_tree.specs.StatementTree.{StmtTree, StmtTrees, DeclarationTree, IterationTree, Forever, While, For}
use Rattle.ada_tree.specs.Language.{Tokens, ◌⨾◌, token_at, optional, each}
use Rattle.ada_tree.specs.StatementGrammar.{iteration, block_declarations, formal, task_entry, task_definition, operation, protected_component}
use Rattle.ada_tree.specs.StatementGrammar.{exception_choice}
use Rattle.parser.specs.declared.refusal.Broken.{Broken}
use Rattle.parser.specs.Reading.{Reader, first, refuse, is_kind, is_next, is_first, is_word, is_mark, token_of, identifier_of, seq, mapped, choose, opened}
use Rattle.parser.specs.Reading.{Read, ◌>>=◌, skip_mark}
use Rattle.parser.specs.Levels.{opens, openers, IsDeep}
use Rattle.parser.specs.ExpressionReading.{ExpressionReaders, values, expression_at}
use Rattle.parser.specs.MoreReading.{past, ended, perhaps, flag, Left, Right, either, is_identifier, word_in, next_word, by_word}
use Rattle.parser.specs.DeclarationReading.{range_at, aspect_part, initial_part, object_rest_at, object_at, formal_at, formals_in, formals_at, subprogram_at}
use Rattle.parser.specs.DeclarationReading.{entry_at, task_entry_at, task_definition_at, task_rest_at, task_at, operation_at, begins_operation}
use Rattle.parser.specs.DeclarationReading.{protected_component_at, protected_rest_at, protected_at, declaration_at, begins_declaration, declarations_at}
use Rattle.parser.specs.DeclarationReading.{task_entries_at, task_definition_part, operations_at, protected_components_at}
use Rattle.parser.specs.StatementReading.{Readers, named_at, exit_at, return_at, raise_at, delay_at, component_part, requeue_at, selected_at, select_at}
use Rattle.parser.specs.StatementReading.{elsif_at, elsifs_at, else_at, if_at, choices_at, alternative_at, case_at, while_at, for_at, iteration_at, loop_at}
use Rattle.parser.specs.StatementReading.{exception_choice_at, handler_at, handlers_at, block_start_at, block_at, statement_of, statement_at, begins_statement}
use Rattle.parser.specs.StatementReading.{statements_at, readers}
use Rattle.parser.proofs.general.Exact.{Exact, Free, chosen, ok_not_err, err_is}
use Rattle.parser.proofs.general.Several.{Below, exact_token, exact_identifier, ManyStops, exact_many, exact_separated}
use Rattle.parser.proofs.general.Deep.{Deep, deep_where, deep_token, deep_skipped, deep_identifier, deep_nothing, deep_mapped, deep_seq, deep_then, deep_after}
use Rattle.parser.proofs.general.Deep.{deep_choose, deep_many, deep_several, deep_separated, deep_opened, one_opener, one_opener_at, opening_kind}
use Rattle.parser.proofs.expressions.DeepExpressions.{Known, known, deep_expression, deep_simple, deep_name}
use Rattle.parser.proofs.expressions.Levelled.{exact_expression, exact_simple, exact_name_at}
use Rattle.parser.proofs.general.MoreExact.{past_exact, flag_exact, perhaps_exact, Any, PerhapsStops, at_placed, at_past, at_name, changed, paired}
use Rattle.parser.proofs.expressions.Followers.{ExpressionStops}
use Rattle.parser.proofs.general.Heads.{when_first}
use Rattle.parser.proofs.statements.Selected.{selected_exact}
use Rattle.parser.proofs.declarations.Declarations.{PrivatePart, range_exact, aspect_part_exact, initial_exact, flags_exact, formal_exact, formals_exact}
use Rattle.parser.proofs.declarations.Declarations.{subprogram_exact, entry_exact, task_entry_exact, task_definition_exact, operation_exact, operation_begins}
use Rattle.parser.proofs.declarations.Declarations.{protected_component_exact, declaration_exact, declarations_exact}
use Rattle.parser.proofs.statements.PlainStatements.{no_semicolon, name_first, component_exact, value_exact, time_exact}
use Rattle.parser.proofs.statements.CompoundStatements.{ExactStatements, exception_choice_exact, handler_exact, handlers_exact, elsif_exact, elsifs_exact}
use Rattle.parser.proofs.statements.CompoundStatements.{else_exact, choices_exact, alternative_exact, alternatives_exact, iteration_exact, block_start_exact}
use Rattle.parser.proofs.statements.CompoundStatements.{line, line_stops}
use Rattle.parser.proofs.statements.Statements.{Holds, below, statement_exact}

-- ---- what is made of readers

pub deep_past : {A : Type 0} {a : Reader A} (k : ℕ) (kind : TokenKind) → is_kind kind kind ≡ true → Deep k a → Deep k (past kind a)
deep_past {A} {a} k kind itself da =
    deep_after k k (token_of kind) (λ _. a) (token_at kind) Free (exact_token kind itself) (deep_token k kind) (λ x s g. da) (λ x s g. omega arith)

pub deep_both : {A B : Type 0} {a : Reader A} {b : Reader B} {P : A → Tokens → Type 0} {S : A → Option Token → Type 0} (k : ℕ) → Exact a P S → Deep k a
    → Deep k b → Deep k (seq a b)
deep_both {A} {B} {a} {b} {P} {S} k ea da db = deep_then k a b P S ea da db

pub deep_placed : {B : Type 0} {b : Reader B} (k : ℕ) (kind : TokenKind) → is_kind kind kind ≡ true → Deep k b → Deep k (seq (token_of kind) b)
deep_placed k kind itself db = deep_both k (exact_token kind itself) (deep_token k kind) db

pub deep_named : {B : Type 0} {b : Reader B} (k : ℕ) → Deep k b → Deep k (seq identifier_of b)
deep_named k db = deep_both k exact_identifier (deep_identifier k) db

pub deep_ended : {A : Type 0} {a : Reader A} {b : Reader (Unit {0})} {P : A → Tokens → Type 0} {S : A → Option Token → Type 0} (k : ℕ) → Exact a P S → Deep k a
    → Deep k b → Deep k (ended a b)
deep_ended {A} {a} {b} {P} {S} k ea da db = deep_after k k a (λ x. mapped (λ _. x) b) P S ea da (λ x s g. deep_mapped k (λ _. x) b db) (λ x s g. omega arith)

pub deep_changed : {A B : Type 0} {a : Reader A} (k : ℕ) (f : A → B) → Deep k a → Deep k (mapped f a)
deep_changed {A} {B} {a} k f da = deep_mapped k f a da

pub deep_perhaps : {A : Type 0} {a : Reader A} (k : ℕ) (p : Option Token → Bool) → Deep k a → Deep k (perhaps p a)
deep_perhaps k p da = deep_choose k p _ _ (deep_where p k _ (deep_changed k Some da)) (deep_nothing k None)

pub deep_either : {A B : Type 0} {a : Reader A} {b : Reader B} (k : ℕ) (p : Option Token → Bool) → Deep k a → Deep k b → Deep k (either p a b)
deep_either k p da db = deep_choose k p _ _ (deep_where p k _ (deep_changed k Left da)) (deep_changed k Right db)

pub deep_flag : (k : ℕ) (kind : TokenKind) → Deep k (flag kind)
deep_flag k kind =
    deep_choose k (is_first kind) _ _ (deep_where (is_first kind) k _ (deep_changed k (λ place. true) (deep_token k kind))) (deep_nothing k false)

pub deep_if : {A : Type 0} {a b : Reader A} (k : ℕ) (p : Option Token → Bool) → Deep k a → Deep k b → Deep k (choose p a b)
deep_if k p da db = deep_choose k p _ _ (deep_where p k _ da) db

deep_same : {A : Type 0} {a b : Reader A} (k : ℕ) → ((ts : Tokens) → a ts ≡ b ts) → Deep k a → Deep k b
deep_same k same d = record { at = λ ts f e is. d.at ts f (same ts ∙ e) is }

-- a changed value, and then another
pub deep_mapped_both : {A B C : Type 0} {a : Reader A} {b : Reader B} {P : A → Tokens → Type 0} {S : A → Option Token → Type 0} (k : ℕ) (f : A → C)
    → Exact a P S → Deep k a → Deep k b → Deep k (seq (mapped f a) b)
deep_mapped_both {A} {B} {C} {a} {b} {P} {S} k f ea da db =
    deep_same k (λ ts. same (a ts)) (deep_after k k a (λ x. mapped (behind x) b) P S ea da (λ x s g. deep_mapped k (behind x) b db) (λ x s g. omega arith))
  where
    behind : A → B → C × B
    behind x y = (f x, y)

    same : (r : Read A) → (r >>= λ x. mapped (behind x.0) b x.1) ≡ ((r >>= changed f) >>= λ x. b x.1 >>= paired x.0)
    same (Ok x) = refl
    same (Err e) = refl

-- ---- declarations

abbrev semicolon : TokenKind
semicolon = kinds.Delimiter marks.Semicolon

pub deep_range : (k : ℕ) → Deep k (range_at k)
deep_range k = deep_changed k _ (deep_both k (exact_simple k) (deep_simple k) (deep_past k (kinds.Delimiter marks.DoubleDot) refl (deep_simple k)))

pub deep_aspect : (k : ℕ) → Deep k (aspect_part k)
deep_aspect k =
    deep_perhaps k (is_word words.With)
    (deep_changed k _ (deep_placed k (kinds.Word words.With) refl (deep_named k (deep_past k (kinds.Delimiter marks.Arrow) refl (deep_expression k)))))

pub deep_initial : (k : ℕ) → Deep k (initial_part k)
deep_initial k = deep_perhaps k (is_mark marks.Assignment) (deep_past k (kinds.Delimiter marks.Assignment) refl (deep_expression k))

pub deep_object_rest : (k : ℕ) → Deep k (object_rest_at k)
deep_object_rest k =
    deep_both k (flag_exact (kinds.Word words.Constant) refl) (deep_flag k (kinds.Word words.Constant))
    (deep_named k (deep_ended k (initial_exact k) (deep_initial k) (deep_skipped k semicolon)))

deep_object : (k : ℕ) → Deep k (object_at k)
deep_object k = deep_changed k _ (deep_named k (deep_past k (kinds.Delimiter marks.Colon) refl (deep_object_rest k)))

deep_flags : (k : ℕ) → Deep k (seq (flag (kinds.Word words.In)) (flag (kinds.Word words.Out)))
deep_flags k = deep_both k (flag_exact (kinds.Word words.In) refl) (deep_flag k (kinds.Word words.In)) (deep_flag k (kinds.Word words.Out))

deep_formal : (k : ℕ) → Deep k formal_at
deep_formal k =
    deep_changed k _ (deep_named k (deep_past k (kinds.Delimiter marks.Colon) refl (deep_mapped_both k _ flags_exact (deep_flags k) (deep_identifier k))))

-- in their parentheses
deep_formals_in : (n : ℕ) (r : ExpressionReaders) → Deep (suc n) (formals_in r)
deep_formals_in n r =
    deep_after n (suc n) _ (λ _. _) _ _ (exact_token (kinds.Delimiter marks.LeftParenthesis) refl) (deep_token (suc n) (kinds.Delimiter marks.LeftParenthesis))
    (λ x s g. deep_ended n (exact_separated semicolon refl formal_at formal Any formal_exact (λ o h. tt))
    (deep_separated n semicolon refl formal_at formal Free formal_exact (λ x o h. tt) (deep_formal n))
    (deep_skipped n (kinds.Delimiter marks.RightParenthesis)))
    (λ x s g. omega (arith, one_opener (kinds.Delimiter marks.LeftParenthesis) s refl (g.0, g.1, g.2)))

pub deep_formals : (k : ℕ) → Deep k (formals_at k)
deep_formals k =
    deep_choose k (is_mark marks.LeftParenthesis) _ _
    (deep_opened Known (is_mark marks.LeftParenthesis) k (values k) formals_in (λ o h. opening_kind (kinds.Delimiter marks.LeftParenthesis) o refl h) (known k)
    (λ n r h. deep_formals_in n r))
    (deep_nothing k [])

pub deep_subprogram : (k : ℕ) → Deep k (subprogram_at k)
deep_subprogram k =
    deep_if k (is_word words.Function)
    (deep_changed k _ (deep_placed k (kinds.Word words.Function) refl
    (deep_named k (deep_both k (formals_exact k) (deep_formals k) (deep_past k (kinds.Word words.Return) refl (deep_identifier k))))))
    (deep_changed k _ (deep_placed k (kinds.Word words.Procedure) refl (deep_named k (deep_formals k))))

pub deep_entry_at : (k : ℕ) → Deep k (entry_at k)
deep_entry_at k = deep_changed k _ (deep_placed k (kinds.Word words.Entry) refl (deep_named k (deep_formals k)))

deep_task_entry : (k : ℕ) → Deep k task_entry_at
deep_task_entry k =
    deep_changed k _ (deep_placed k (kinds.Word words.Entry) refl (deep_ended k exact_identifier (deep_identifier k) (deep_skipped k semicolon)))

pub task_entries_exact : Exact task_entries_at (each task_entry) (ManyStops (is_word words.Entry) Any)
task_entries_exact =
    exact_many (is_word words.Entry) task_entry_at task_entry Any task_entry_exact
    (λ x s r g. at_placed (λ o. is_word words.Entry o ≡ true) (kinds.Word words.Entry) x.place (λ _ _. refl) s r g) (λ o h. tt) refl

deep_task_definition : (k : ℕ) → Deep k task_definition_at
deep_task_definition k =
    deep_changed k _ (deep_past k (kinds.Word words.Is) refl
    (deep_both k task_entries_exact (deep_many k (is_word words.Entry) task_entry_at _ _ task_entry_exact (deep_task_entry k))
    (deep_past k (kinds.Word words.End) refl (deep_identifier k))))

pub task_part_exact : Exact task_definition_part (optional task_definition) (PerhapsStops (is_word words.Is) Free)
task_part_exact =
    perhaps_exact (is_word words.Is) task_definition_exact (λ x s r g. at_past (λ o. is_word words.Is o ≡ true) (kinds.Word words.Is) (λ _ _. refl) s r g)

pub deep_task_rest : (k : ℕ) → Deep k (task_rest_at k)
deep_task_rest k =
    deep_named k (deep_both k (aspect_part_exact k) (deep_aspect k)
    (deep_ended k task_part_exact (deep_perhaps k (is_word words.Is) (deep_task_definition k)) (deep_skipped k semicolon)))

pub deep_task : (k : ℕ) → Deep k (task_at k)
deep_task k = deep_changed k _ (deep_placed k (kinds.Word words.Task) refl (deep_task_rest k))

deep_operation : (k : ℕ) → Deep k (operation_at k)
deep_operation k =
    deep_changed k _ (deep_either k (is_word words.Entry) (deep_ended k (entry_exact k) (deep_entry_at k) (deep_skipped k semicolon))
    (deep_both k (subprogram_exact k) (deep_subprogram k) (deep_ended k (aspect_part_exact k) (deep_aspect k) (deep_skipped k semicolon))))

deep_component : (k : ℕ) → Deep k (protected_component_at k)
deep_component k =
    deep_changed k _ (deep_named k
    (deep_past k (kinds.Delimiter marks.Colon) refl (deep_named k (deep_ended k (initial_exact k) (deep_initial k) (deep_skipped k semicolon)))))

pub operations_exact : (k : ℕ) → Exact (operations_at k) (each (operation (Some k))) (ManyStops begins_operation Any)
operations_exact k = exact_many begins_operation (operation_at k) (operation (Some k)) Any (operation_exact k) (operation_begins k) (λ o h. tt) refl

pub components_exact : (k : ℕ) → Exact (protected_components_at k) (each (protected_component (Some k))) (ManyStops is_identifier Any)
components_exact k =
    exact_many is_identifier (protected_component_at k) (protected_component (Some k)) Any (protected_component_exact k)
    (λ x s r g. at_name (λ o. is_identifier o ≡ true) x.name (λ _ _. refl) s r g) (λ o h. tt) refl

pub private_exact : (k : ℕ) → Exact (perhaps (is_word words.Private) (past (kinds.Word words.Private) (protected_components_at k))) (PrivatePart k)
    (PerhapsStops (is_word words.Private) (ManyStops is_identifier Any))
private_exact k =
    perhaps_exact (is_word words.Private) (past_exact (kinds.Word words.Private) refl (components_exact k))
    (λ x s r g. at_past (λ o. is_word words.Private o ≡ true) (kinds.Word words.Private) (λ _ _. refl) s r g)

pub deep_name_end : (k : ℕ) → Deep k (past (kinds.Word words.End) (ended identifier_of (skip_mark marks.Semicolon)))
deep_name_end k = deep_past k (kinds.Word words.End) refl (deep_ended k exact_identifier (deep_identifier k) (deep_skipped k semicolon))

pub deep_protected_rest : (k : ℕ) → Deep k (protected_rest_at k)
deep_protected_rest k =
    deep_named k (deep_both k (aspect_part_exact k) (deep_aspect k) (deep_past k (kinds.Word words.Is) refl
    (deep_both k (operations_exact k) (deep_many k begins_operation (operation_at k) _ _ (operation_exact k) (deep_operation k))
    (deep_mapped_both k _ (private_exact k)
    (deep_perhaps k (is_word words.Private)
    (deep_past k (kinds.Word words.Private) refl
    (deep_many k is_identifier (protected_component_at k) _ _ (protected_component_exact k) (deep_component k))))
    (deep_name_end k)))))

pub deep_protected : (k : ℕ) → Deep k (protected_at k)
deep_protected k = deep_changed k _ (deep_placed k (kinds.Word words.Protected) refl (deep_protected_rest k))

deep_declaration : (k : ℕ) → Deep k (declaration_at k)
deep_declaration k =
    deep_changed k _ (deep_either k (is_word words.Task) (deep_task k) (deep_either k (is_word words.Protected) (deep_protected k) (deep_object k)))

pub deep_declarations : (k : ℕ) → Deep k (declarations_at k)
deep_declarations k = deep_many k begins_declaration (declaration_at k) _ _ (declaration_exact k) (deep_declaration k)

-- ---- statements without statements in them

deep_word_end : (k : ℕ) (kind : TokenKind) → is_kind kind kind ≡ true → Deep k (ended (token_of kind) (skip_mark marks.Semicolon))
deep_word_end k kind itself = deep_ended k (exact_token kind itself) (deep_token k kind) (deep_skipped k semicolon)

deep_named_end : (k : ℕ) (kind : TokenKind) → is_kind kind kind ≡ true → Deep k (seq (token_of kind) (ended identifier_of (skip_mark marks.Semicolon)))
deep_named_end k kind itself = deep_placed k kind itself (deep_ended k exact_identifier (deep_identifier k) (deep_skipped k semicolon))

deep_named_statement : (k : ℕ) → Deep k (named_at k)
deep_named_statement k =
    deep_changed k _ (deep_both k (exact_name_at k) (deep_name k) (deep_ended k (initial_exact k) (deep_initial k) (deep_skipped k semicolon)))

deep_exit : (k : ℕ) → Deep k (exit_at k)
deep_exit k =
    deep_changed k _ (deep_placed k (kinds.Word words.Exit) refl (deep_ended k
    (perhaps_exact (is_word words.When) (past_exact (kinds.Word words.When) refl (exact_expression k))
    (λ x s r g. at_past (λ o. is_word words.When o ≡ true) (kinds.Word words.When) (λ _ _. refl) s r g))
    (deep_perhaps k (is_word words.When) (deep_past k (kinds.Word words.When) refl (deep_expression k))) (deep_skipped k semicolon)))

deep_return : (k : ℕ) → Deep k (return_at k)
deep_return k =
    deep_changed k _ (deep_placed k (kinds.Word words.Return) refl
    (deep_ended k (value_exact k) (deep_perhaps k no_semicolon (deep_expression k)) (deep_skipped k semicolon)))

deep_raise : (k : ℕ) → Deep k raise_at
deep_raise k =
    deep_changed k _ (deep_placed k (kinds.Word words.Raise) refl (deep_ended k
    (perhaps_exact is_identifier exact_identifier (λ x s r g. name_first (λ o. is_identifier o ≡ true) x (λ _ _. refl) s r g))
    (deep_perhaps k is_identifier (deep_identifier k)) (deep_skipped k semicolon)))

deep_delay : (k : ℕ) → Deep k (delay_at k)
deep_delay k =
    deep_changed k _ (deep_placed k (kinds.Word words.Delay) refl (deep_ended k (time_exact k)
    (deep_either k (is_word words.Until) (deep_past k (kinds.Word words.Until) refl (deep_expression k)) (deep_expression k)) (deep_skipped k semicolon)))

pub deep_component_part : (k : ℕ) → Deep k component_part
deep_component_part k = deep_perhaps k (is_mark marks.Dot) (deep_past k (kinds.Delimiter marks.Dot) refl (deep_identifier k))

deep_requeue : (k : ℕ) → Deep k requeue_at
deep_requeue k =
    deep_changed k _ (deep_placed k (kinds.Word words.Requeue) refl
    (deep_named k (deep_ended k component_exact (deep_component_part k) (deep_skipped k semicolon))))

selected_fault : (ts : Tokens) (b : Bool) (f : Broken) → selected_at b ts ≡ Err f → f.deep ≡ false
selected_fault [] b f e = sym (ap (λ (d : Broken). d.deep) (err_is {A = Unit {0} × Tokens} (record { deep = false; left = 0 }) f e))
selected_fault (t ∷ ts) b f e =
    elim (chosen (is_word words.Select (Some t)) (cond b (Ok (tt, ts)) (refuse false (t ∷ ts))) (selected_at (is_word words.End (Some t)) ts) (Err f) e) [
      | inl w ↦
          elim (chosen b (Ok (tt, ts)) (refuse false (t ∷ ts)) (Err f) w.1) [
            | inl v ↦ absurd (ok_not_err _ f v.1)
            | inr v ↦ sym (ap (λ (d : Broken). d.deep) (err_is {A = Unit {0} × Tokens} (record { deep = false; left = length (t ∷ ts) }) f v.1))
          ]
      | inr w ↦ selected_fault ts (is_word words.End (Some t)) f w.1
    ]

not_deep : {P : Type 0} (b : Bool) → b ≡ true → b ≡ false → P
not_deep b t f = absurd cc

deep_selected : (k : ℕ) → Deep k (selected_at false)
deep_selected k = record { at = λ ts f e is. not_deep f.deep is (selected_fault ts false f e) }

deep_select : (k : ℕ) → Deep k select_at
deep_select k =
    deep_changed k _ (deep_ended k (exact_token (kinds.Word words.Select) refl) (deep_token k (kinds.Word words.Select))
    (deep_ended k selected_exact (deep_selected k) (deep_skipped k semicolon)))

-- ---- statements with statements in them

openers-append : (a b : Tokens) → openers (a ++ b) ≡ openers a + openers b
openers-append [] b = omega arith
openers-append (x ∷ a) b = omega (arith, openers-append a b)

-- what begins with a token that opens a level has one of them
opened_once : {Q : Tokens → Type 0} (kind : TokenKind) (place : ℕ) (s : Tokens) → opens kind ≡ true → (token_at kind place ⨾ Q) s → 1 ≤ openers s
opened_once kind place s o g = omega (arith, one_opener_at kind place g.0 o g.3, openers-append g.0 g.1, ap openers g.2)

deep_exception_choice : (k : ℕ) → Deep k exception_choice_at
deep_exception_choice k = deep_changed k _ (deep_either k (is_word words.Others) (deep_token k (kinds.Word words.Others)) (deep_identifier k))

deep_handler : (k : ℕ) (statements : Reader StmtTrees) → Deep k statements → Deep k (handler_at statements)
deep_handler k statements ds =
    deep_past k (kinds.Word words.When) refl
    (deep_both k (exact_separated line refl exception_choice_at exception_choice Any exception_choice_exact (λ o h. tt))
    (deep_separated k line refl exception_choice_at exception_choice Free exception_choice_exact (λ x o h. tt) (deep_exception_choice k))
    (deep_past k (kinds.Delimiter marks.Arrow) refl ds))

pub deep_handlers : (k : ℕ) (statements : Reader StmtTrees) → ExactStatements k statements → Deep k statements → Deep k (handlers_at statements)
deep_handlers k statements es ds =
    deep_if k (is_word words.Exception)
    (deep_past k (kinds.Word words.Exception) refl
    (deep_changed k _ (deep_several k (is_word words.When) (handler_at statements) _ _ (handler_exact k statements es) (deep_handler k statements ds))))
    (deep_nothing k _)

module _ (r : Readers) (es : ExactStatements r.levels r.statements) (ds : Deep r.levels r.statements) where
  abbrev n : ℕ
  n = r.levels

  deep_elsif : Deep n (elsif_at r)
  deep_elsif = deep_past n (kinds.Word words.Elsif) refl (deep_both n (exact_expression n) (deep_expression n) (deep_past n (kinds.Word words.Then) refl ds))

  deep_elsifs : Deep n (elsifs_at r)
  deep_elsifs = deep_changed n _ (deep_many n (is_word words.Elsif) (elsif_at r) _ _ (elsif_exact r es) deep_elsif)

  deep_else : Deep n (else_at r)
  deep_else = deep_if n (is_word words.Else) (deep_past n (kinds.Word words.Else) refl ds) (deep_nothing n _)

  deep_if_at : Deep (suc n) (if_at r)
  deep_if_at =
      let close = deep_past n (kinds.Word words.End) refl (deep_past n (kinds.Word words.If) refl (deep_skipped n semicolon)) in
      let rest = deep_both n es ds (deep_both n (elsifs_exact r es) deep_elsifs (deep_ended n (else_exact r es) deep_else close)) in
      deep_changed (suc n) _ (deep_seq n (suc n) _ _ _ _ (exact_token (kinds.Word words.If) refl) (deep_token (suc n) (kinds.Word words.If))
      (deep_both n (exact_expression n) (deep_expression n) (deep_past n (kinds.Word words.Then) refl rest))
      (λ x s g. omega (arith, one_opener_at (kinds.Word words.If) x s refl g)))

  deep_choices : Deep n (choices_at n)
  deep_choices =
      deep_changed n _ (deep_either n (is_word words.Others) (deep_token n (kinds.Word words.Others))
      (deep_separated n line refl (expression_at n) _ (λ _. ExpressionStops) (exact_expression n) (λ x. when_first ExpressionStops line line_stops)
      (deep_expression n)))

  deep_alternative : Deep n (alternative_at r)
  deep_alternative =
      deep_placed n (kinds.Word words.When) refl (deep_both n (choices_exact r es) deep_choices (deep_past n (kinds.Delimiter marks.Arrow) refl ds))

  deep_case_at : Deep (suc n) (case_at r)
  deep_case_at =
      let close = deep_past n (kinds.Word words.End) refl (deep_past n (kinds.Word words.Case) refl (deep_skipped n semicolon)) in
      let all = deep_changed n _ (deep_several n (is_word words.When) (alternative_at r) _ _ (alternative_exact r es) deep_alternative) in
      deep_changed (suc n) _ (deep_seq n (suc n) _ _ _ _ (exact_token (kinds.Word words.Case) refl) (deep_token (suc n) (kinds.Word words.Case))
      (deep_both n (exact_expression n) (deep_expression n) (deep_past n (kinds.Word words.Is) refl (deep_ended n (alternatives_exact r es) all close)))
      (λ x s g. omega (arith, one_opener_at (kinds.Word words.Case) x s refl g)))

  deep_while : Deep (suc n) (while_at n)
  deep_while =
      deep_seq n (suc n) _ _ _ _ (exact_token (kinds.Word words.While) refl) (deep_token (suc n) (kinds.Word words.While))
      (deep_ended n (exact_expression n) (deep_expression n) (deep_skipped n (kinds.Word words.Loop)))
      (λ x s g. omega (arith, one_opener_at (kinds.Word words.While) x s refl g))

  deep_for : Deep (suc n) (for_at n)
  deep_for =
      deep_seq n (suc n) _ _ _ _ (exact_token (kinds.Word words.For) refl) (deep_token (suc n) (kinds.Word words.For))
      (deep_named n (deep_past n (kinds.Word words.In) refl
      (deep_both n (flag_exact (kinds.Word words.Reverse) refl) (deep_flag n (kinds.Word words.Reverse))
      (deep_ended n (range_exact n) (deep_range n) (deep_skipped n (kinds.Word words.Loop))))))
      (λ x s g. omega (arith, one_opener_at (kinds.Word words.For) x s refl g))

  deep_iteration : Deep (suc n) (iteration_at n)
  deep_iteration =
      deep_changed (suc n) _ (deep_either (suc n) (is_word words.While) deep_while
      (deep_either (suc n) (is_word words.For) deep_for (deep_token (suc n) (kinds.Word words.Loop))))

  iteration_opens : (place : ℕ) (turns : IterationTree) (s : Tokens) → iteration (Some n) place turns s → 1 ≤ openers s
  iteration_opens place Forever s g = one_opener_at (kinds.Word words.Loop) place s refl g
  iteration_opens place (While condition) s g = opened_once (kinds.Word words.While) place s refl g
  iteration_opens place (For parameter is_reversed x) s g = opened_once (kinds.Word words.For) place s refl g

  deep_loop_at : Deep (suc n) (loop_at r)
  deep_loop_at =
      let close = deep_past n (kinds.Word words.End) refl (deep_past n (kinds.Word words.Loop) refl (deep_skipped n semicolon)) in
      deep_changed (suc n) _ (deep_seq n (suc n) _ _ _ _ (iteration_exact r es) deep_iteration (deep_ended n es ds close)
      (λ x s g. omega (arith, iteration_opens x.0 x.1 s g)))

  deep_block_start : Deep (suc n) (block_start_at n)
  deep_block_start =
      deep_changed (suc n) _ (deep_either (suc n) (is_word words.Declare)
      (deep_seq n (suc n) _ _ _ _ (exact_token (kinds.Word words.Declare) refl) (deep_token (suc n) (kinds.Word words.Declare))
      (deep_ended n (declarations_exact n) (deep_declarations n) (deep_skipped n (kinds.Word words.Begin)))
      (λ x s g. omega (arith, one_opener_at (kinds.Word words.Declare) x s refl g)))
      (deep_token (suc n) (kinds.Word words.Begin)))

  block_opens : (place : ℕ) (all : List DeclarationTree) (s : Tokens) → block_declarations (Some n) place all s → 1 ≤ openers s
  block_opens place [] s (inl g) = one_opener_at (kinds.Word words.Begin) place s refl g
  block_opens place [] s (inr g) = opened_once (kinds.Word words.Declare) place s refl g
  block_opens place (d ∷ rest) s g = opened_once (kinds.Word words.Declare) place s refl g

  deep_block_at : Deep (suc n) (block_at r)
  deep_block_at =
      let close = deep_past n (kinds.Word words.End) refl (deep_skipped n semicolon) in
      let rest = deep_both n es ds (deep_ended n (handlers_exact n r.statements es) (deep_handlers n r.statements es ds) close) in
      deep_changed (suc n) _ (deep_seq n (suc n) _ _ _ _ (block_start_exact r es) deep_block_start rest (λ x s g. omega (arith, block_opens x.0 x.1 s g)))

-- ---- statements of each kind

abbrev pub HoldsDeep : ℕ → Readers → Type 0
HoldsDeep m r = Holds m r × Deep m r.statements

word_in_is : (k : TokenKind) (w : Word) → word_in k ≡ Some w → k ≡ kinds.Word w
word_in_is (kinds.Word v) w e = let same : v ≡ w = cc in ap kinds.Word same
word_in_is (kinds.Identifier name) w e = absurd cc
word_in_is (kinds.Number value) w e = absurd cc
word_in_is (kinds.Label text) w e = absurd cc
word_in_is (kinds.Delimiter d) w e = absurd cc

word_opens : (w : Word) (o : Option Token) → opens (kinds.Word w) ≡ true → next_word o ≡ Some w → is_next opens o ≡ true
word_opens w None h e = absurd cc
word_opens w (Some t) h e = ap opens (word_in_is t.kind w e) ∙ h

pub record DeepAs {A : Type 0} (w : Option Word) (k : ℕ) (read : Reader A) : Type 0 where
  pub at : (ts : Tokens) (f : Broken) → next_word (first ts) ≡ w → read ts ≡ Err f → f.deep ≡ true → IsDeep k ts f.left

pub deep_by_word : {A : Type 0} (k : ℕ) (f : Option Word → Reader A) → ((w : Option Word) → DeepAs w k (f w)) → Deep k (by_word f)
deep_by_word k f d = record { at = λ ts b e is. (d (next_word (first ts))).at ts b refl e is }

pub deep_as : {A : Type 0} {a : Reader A} {w : Option Word} (k : ℕ) → Deep k a → DeepAs w k a
deep_as k d = record { at = λ ts f e h is. d.at ts f h is }

module _ (k : ℕ) (d : Option Readers) (below : Below HoldsDeep k d) where
  opened_as : (w : Word) (f : Readers → Reader StmtTree) → opens (kinds.Word w) ≡ true
      → ((r : Readers) → ExactStatements r.levels r.statements → Deep r.levels r.statements → Deep (suc r.levels) (f r)) → DeepAs (Some w) k (opened d f)
  opened_as w f o df =
      let where_opens = deep_opened HoldsDeep (is_next opens) k d f (λ o h. h) below
      (λ m r h. subst (λ (m : ℕ). Deep (suc m) (f r)) h.0.0 (df r h.0.1 (subst (λ (m : ℕ). Deep m r.statements) (sym h.0.0) h.1))) in
      record { at = λ ts b e h is. where_opens.at ts b (word_opens w (first ts) o e) h is }

  statement_as : (w : Option Word) → DeepAs w k (statement_of k d w)
  statement_as (Some words.Null) = deep_as k (deep_changed k _ (deep_word_end k (kinds.Word words.Null) refl))
  statement_as (Some words.Exit) = deep_as k (deep_exit k)
  statement_as (Some words.Return) = deep_as k (deep_return k)
  statement_as (Some words.Raise) = deep_as k (deep_raise k)
  statement_as (Some words.Delay) = deep_as k (deep_delay k)
  statement_as (Some words.If) = opened_as words.If if_at refl deep_if_at
  statement_as (Some words.Case) = opened_as words.Case case_at refl deep_case_at
  statement_as (Some words.Loop) = opened_as words.Loop loop_at refl deep_loop_at
  statement_as (Some words.While) = opened_as words.While loop_at refl deep_loop_at
  statement_as (Some words.For) = opened_as words.For loop_at refl deep_loop_at
  statement_as (Some words.Begin) = opened_as words.Begin block_at refl deep_block_at
  statement_as (Some words.Declare) = opened_as words.Declare block_at refl deep_block_at
  statement_as (Some words.Abort) = deep_as k (deep_changed k _ (deep_named_end k (kinds.Word words.Abort) refl))
  statement_as (Some words.Requeue) = deep_as k (deep_requeue k)
  statement_as (Some words.Accept) = deep_as k (deep_changed k _ (deep_named_end k (kinds.Word words.Accept) refl))
  statement_as (Some words.Select) = deep_as k (deep_select k)
  statement_as w = deep_as k (deep_named_statement k)

  deep_statement : Deep k (statement_at k d)
  deep_statement = deep_by_word k (statement_of k d) statement_as

both_below : (k : ℕ) (d : Option Readers) → Below Holds k d → Below (λ m r. Deep m r.statements) k d → Below HoldsDeep k d
both_below zero None b c = tt
both_below zero (Some r) b c = absurd b
both_below (suc k) None b c = absurd b
both_below (suc k) (Some r) b c = (b, c)

deep_list : (k : ℕ) → Below (λ m r. Deep m r.statements) k (readers k) → Deep k (statements_at k (readers k))
deep_list k c =
    deep_changed k _ (deep_several k begins_statement (statement_at k (readers k)) _ _ (statement_exact k)
    (deep_statement k (readers k) (both_below k (readers k) (below k) c)))

deep_below : (k : ℕ) → Below (λ m r. Deep m r.statements) k (readers k)
deep_below zero = tt
deep_below (suc k) = deep_list k (deep_below k)

pub holds_deep : (k : ℕ) → Below HoldsDeep k (readers k)
holds_deep k = both_below k (readers k) (below k) (deep_below k)

pub deep_statements : (k : ℕ) → Deep k (statements_at k (readers k))
deep_statements k = deep_list k (deep_below k)
