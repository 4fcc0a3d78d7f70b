-- How statements are read.
use Rattle.std.specs.Prelude.{ℕ, zero, suc, Bool, true, false, Option, Some, None, List, [], ◌∷◌, Ok, if◌then◌else◌}
use Rattle.lexer.specs.declared.token.Token.{Token}
use Rattle.lexer.specs.declared.token.TokenKind.{TokenKind}
use Rattle.lexer.specs.declared.token.TokenKind.TheVariants as kinds
use Rattle.lexer.specs.declared.word.Word.{Word}
use Rattle.lexer.specs.declared.word.Word.TheVariants as words
use Rattle.lexer.specs.declared.delimiter.Delimiter.TheVariants as marks
use Rattle.ada_tree.specs.declared.expression.Identifier.{Identifier}
use Rattle.ada_tree.specs.declared.statement.ExceptionChoice.{ExceptionChoice}
use Rattle.ada_tree.specs.declared.statement.ExceptionChoice.TheVariants as exceptions
use Rattle.ada_tree.specs.ExpressionTree.{ExprTree, NameTree}
use Rattle.ada_tree.specs.StatementTree.{DeclarationTree, RangeTree, IterationTree, Forever, While, For, ChoicesTree, Values, OtherValues, StmtTree, Null}
use Rattle.ada_tree.specs.StatementTree.{Assignment, Call, Exit, Return, Raise, Delay, DelayUntil, If, Case, Loop, Block, Abort, Requeue, Accept, Select}
use Rattle.ada_tree.specs.StatementTree.{StmtTrees, NoStmts, ElsifTrees, AlternativeTrees, HandlerTrees, NoHandlers, stmts_of, elsifs_of, alternatives_of}
use Rattle.ada_tree.specs.StatementTree.{handlers_of}
use Rattle.parser.specs.Reading.{Reader, refuse, is_next, is_word, is_mark, word_of, identifier_of, seq, mapped, choose, many, several, separated_by, nothing}
use Rattle.parser.specs.Reading.{opened, skip_word, skip_mark}
use Rattle.parser.specs.MoreReading.{past_word, past_mark, ended, perhaps, flag, Either, Left, Right, either, by_word, is_identifier, is_not}
use Rattle.parser.specs.ExpressionReading.{expression_at, name_at}
use Rattle.parser.specs.DeclarationReading.{range_at, initial_part, declarations_at}

-- One level down: how many more levels may be opened there, and the reader of statements.
pub record Readers : Type 0 where
  pub levels : ℕ
  pub statements : Reader StmtTrees

-- ---- statements without statements in them

abbrev pub null_at : Reader StmtTree
null_at = mapped Null (ended (word_of words.Null) (skip_mark marks.Semicolon))

abbrev pub named_of : NameTree → Option ExprTree → StmtTree
named_of name None = Call name
named_of name (Some value) = Assignment name value

-- an assignment or a call
abbrev pub named_at : ℕ → Reader StmtTree
named_at k = mapped (λ x. named_of x.0 x.1) (seq (name_at k) (ended (initial_part k) (skip_mark marks.Semicolon)))

abbrev pub condition_part : ℕ → Reader (Option ExprTree)
condition_part k = perhaps (is_word words.When) (past_word words.When (expression_at k))

abbrev pub exit_at : ℕ → Reader StmtTree
exit_at k = mapped (λ x. Exit x.0 x.1) (seq (word_of words.Exit) (ended (condition_part k) (skip_mark marks.Semicolon)))

abbrev pub value_part : ℕ → Reader (Option ExprTree)
value_part k = perhaps (is_not (is_mark marks.Semicolon)) (expression_at k)

abbrev pub return_at : ℕ → Reader StmtTree
return_at k = mapped (λ x. Return x.0 x.1) (seq (word_of words.Return) (ended (value_part k) (skip_mark marks.Semicolon)))

abbrev pub name_part : Reader (Option Identifier)
name_part = perhaps is_identifier identifier_of

abbrev pub raise_at : Reader StmtTree
raise_at = mapped (λ x. Raise x.0 x.1) (seq (word_of words.Raise) (ended name_part (skip_mark marks.Semicolon)))

abbrev pub delay_of : ℕ → Either ExprTree ExprTree → StmtTree
delay_of place (Left value) = DelayUntil place value
delay_of place (Right value) = Delay place value

abbrev pub delay_at : ℕ → Reader StmtTree
delay_at k =
    mapped (λ x. delay_of x.0 x.1)
    (seq (word_of words.Delay) (ended (either (is_word words.Until) (past_word words.Until (expression_at k)) (expression_at k)) (skip_mark marks.Semicolon)))

abbrev pub abort_at : Reader StmtTree
abort_at = mapped (λ x. Abort x.0 x.1) (seq (word_of words.Abort) (ended identifier_of (skip_mark marks.Semicolon)))

-- a dot and an identifier, if they are there
abbrev pub component_part : Reader (Option Identifier)
component_part = perhaps (is_mark marks.Dot) (past_mark marks.Dot identifier_of)

abbrev pub requeue_at : Reader StmtTree
requeue_at = mapped (λ x. Requeue x.0 x.1.0 x.1.1) (seq (word_of words.Requeue) (seq identifier_of (ended component_part (skip_mark marks.Semicolon))))

abbrev pub accept_at : Reader StmtTree
accept_at = mapped (λ x. Accept x.0 x.1) (seq (word_of words.Accept) (ended identifier_of (skip_mark marks.Semicolon)))

-- any token
abbrev pub any_at : Reader (Unit {0})
any_at [] = refuse false []
any_at (t ∷ ts) = Ok (tt, ts)

-- The tokens to the next `select`, and that. `end` must stand before it: the Boolean says whether it stands before the list.
abbrev pub selected_at : Bool → Reader (Unit {0})
selected_at behind_end [] = refuse false []
selected_at behind_end (t ∷ ts) =
    if is_word words.Select (Some t) then (if behind_end then Ok (tt, ts) else refuse false (t ∷ ts)) else selected_at (is_word words.End (Some t)) ts

abbrev pub select_at : Reader StmtTree
select_at = mapped Select (ended (word_of words.Select) (ended (selected_at false) (skip_mark marks.Semicolon)))

-- ---- statements with statements in them

abbrev pub elsif_at : Readers → Reader (ExprTree × StmtTrees)
elsif_at r = past_word words.Elsif (seq (expression_at r.levels) (past_word words.Then r.statements))

abbrev pub elsif_list_at : Readers → Reader (List (ExprTree × StmtTrees))
elsif_list_at r = many (is_word words.Elsif) (elsif_at r)

abbrev pub elsifs_at : Readers → Reader ElsifTrees
elsifs_at r = mapped elsifs_of (elsif_list_at r)

abbrev pub else_at : Readers → Reader StmtTrees
else_at r = choose (is_word words.Else) (past_word words.Else r.statements) (nothing NoStmts)

abbrev pub if_at : Readers → Reader StmtTree
if_at r =
    mapped (λ x. If x.0 x.1.0 x.1.1.0 x.1.1.1.0 x.1.1.1.1)
    (seq (word_of words.If) (seq (expression_at r.levels) (past_word words.Then (seq r.statements (seq (elsifs_at r)
    (ended (else_at r) (past_word words.End (past_word words.If (skip_mark marks.Semicolon)))))))))

abbrev pub choices_of : Either ℕ (List ExprTree) → ChoicesTree
choices_of (Left place) = OtherValues place
choices_of (Right all) = Values all

abbrev pub choice_list_at : ℕ → Reader (List ExprTree)
choice_list_at k = separated_by (kinds.Delimiter marks.VerticalLine) (expression_at k)

abbrev pub choices_at : ℕ → Reader ChoicesTree
choices_at k = mapped choices_of (either (is_word words.Others) (word_of words.Others) (choice_list_at k))

abbrev pub alternative_at : Readers → Reader (ℕ × (ChoicesTree × StmtTrees))
alternative_at r = seq (word_of words.When) (seq (choices_at r.levels) (past_mark marks.Arrow r.statements))

abbrev pub alternative_list_at : Readers → Reader (List (ℕ × (ChoicesTree × StmtTrees)))
alternative_list_at r = several (is_word words.When) (alternative_at r)

abbrev pub alternatives_at : Readers → Reader AlternativeTrees
alternatives_at r = mapped alternatives_of (alternative_list_at r)

abbrev pub case_at : Readers → Reader StmtTree
case_at r =
    mapped (λ x. Case x.0 x.1.0 x.1.1)
    (seq (word_of words.Case)
    (seq (expression_at r.levels)
    (past_word words.Is (ended (alternatives_at r) (past_word words.End (past_word words.Case (skip_mark marks.Semicolon)))))))

-- `while` and a condition; or `for`, a parameter and a range
abbrev pub Turns : Type 0
Turns = Either (ℕ × ExprTree) (Either (ℕ × (Identifier × (Bool × RangeTree))) ℕ)

abbrev pub iteration_of : Turns → ℕ × IterationTree
iteration_of (Left x) = (x.0, While x.1)
iteration_of (Right (Left x)) = (x.0, For x.1.0 x.1.1.0 x.1.1.1)
iteration_of (Right (Right place)) = (place, Forever)

abbrev pub while_at : ℕ → Reader (ℕ × ExprTree)
while_at k = seq (word_of words.While) (ended (expression_at k) (skip_word words.Loop))

abbrev pub for_at : ℕ → Reader (ℕ × (Identifier × (Bool × RangeTree)))
for_at k = seq (word_of words.For) (seq identifier_of (past_word words.In (seq (flag (kinds.Word words.Reverse)) (ended (range_at k) (skip_word words.Loop)))))

abbrev pub iteration_at : ℕ → Reader (ℕ × IterationTree)
iteration_at k = mapped iteration_of (either (is_word words.While) (while_at k) (either (is_word words.For) (for_at k) (word_of words.Loop)))

abbrev pub loop_at : Readers → Reader StmtTree
loop_at r =
    mapped (λ x. Loop x.0.0 x.0.1 x.1)
    (seq (iteration_at r.levels) (ended r.statements (past_word words.End (past_word words.Loop (skip_mark marks.Semicolon)))))

abbrev pub exception_choice_of : Either ℕ Identifier → ExceptionChoice
exception_choice_of (Left place) = exceptions.Others place
exception_choice_of (Right name) = exceptions.Exception name

abbrev pub exception_choice_at : Reader ExceptionChoice
exception_choice_at = mapped exception_choice_of (either (is_word words.Others) (word_of words.Others) identifier_of)

abbrev pub exception_list_at : Reader (List ExceptionChoice)
exception_list_at = separated_by (kinds.Delimiter marks.VerticalLine) exception_choice_at

abbrev pub handler_at : Reader StmtTrees → Reader (List ExceptionChoice × StmtTrees)
handler_at statements = past_word words.When (seq exception_list_at (past_mark marks.Arrow statements))

abbrev pub handler_list_at : Reader StmtTrees → Reader (List (List ExceptionChoice × StmtTrees))
handler_list_at statements = several (is_word words.When) (handler_at statements)

abbrev pub handlers_at : Reader StmtTrees → Reader HandlerTrees
handlers_at statements =
    choose (is_word words.Exception) (past_word words.Exception (mapped handlers_of (handler_list_at statements))) (nothing NoHandlers)

abbrev pub block_start_of : Either (ℕ × List DeclarationTree) ℕ → ℕ × List DeclarationTree
block_start_of (Left x) = x
block_start_of (Right place) = (place, [])

-- what stands before a block's statements
abbrev pub block_start_at : ℕ → Reader (ℕ × List DeclarationTree)
block_start_at k =
    mapped block_start_of (either (is_word words.Declare) (seq (word_of words.Declare) (ended (declarations_at k) (skip_word words.Begin)))
    (word_of words.Begin))

abbrev pub block_at : Readers → Reader StmtTree
block_at r =
    mapped (λ x. Block x.0.0 x.0.1 x.1.0 x.1.1)
    (seq (block_start_at r.levels) (seq r.statements (ended (handlers_at r.statements) (past_word words.End (skip_mark marks.Semicolon)))))

-- ---- statements

-- how a statement is read that begins with this word, or with something else
abbrev pub statement_of : ℕ → Option Readers → Option Word → Reader StmtTree
statement_of k d (Some words.Null) = null_at
statement_of k d (Some words.Exit) = exit_at k
statement_of k d (Some words.Return) = return_at k
statement_of k d (Some words.Raise) = raise_at
statement_of k d (Some words.Delay) = delay_at k
statement_of k d (Some words.If) = opened d if_at
statement_of k d (Some words.Case) = opened d case_at
statement_of k d (Some words.Loop) = opened d loop_at
statement_of k d (Some words.While) = opened d loop_at
statement_of k d (Some words.For) = opened d loop_at
statement_of k d (Some words.Begin) = opened d block_at
statement_of k d (Some words.Declare) = opened d block_at
statement_of k d (Some words.Abort) = abort_at
statement_of k d (Some words.Requeue) = requeue_at
statement_of k d (Some words.Accept) = accept_at
statement_of k d (Some words.Select) = select_at
statement_of k d w = named_at k

abbrev pub statement_at : ℕ → Option Readers → Reader StmtTree
statement_at k d = by_word (statement_of k d)

abbrev pub can_begin : TokenKind → Bool
can_begin (kinds.Identifier name) = true
can_begin (kinds.Word words.Null) = true
can_begin (kinds.Word words.Exit) = true
can_begin (kinds.Word words.Return) = true
can_begin (kinds.Word words.Raise) = true
can_begin (kinds.Word words.Delay) = true
can_begin (kinds.Word words.If) = true
can_begin (kinds.Word words.Case) = true
can_begin (kinds.Word words.Loop) = true
can_begin (kinds.Word words.While) = true
can_begin (kinds.Word words.For) = true
can_begin (kinds.Word words.Begin) = true
can_begin (kinds.Word words.Declare) = true
can_begin (kinds.Word words.Abort) = true
can_begin (kinds.Word words.Requeue) = true
can_begin (kinds.Word words.Accept) = true
can_begin (kinds.Word words.Select) = true
can_begin kind = false

abbrev pub begins_statement : Option Token → Bool
begins_statement = is_next can_begin

abbrev pub statement_list_at : ℕ → Option Readers → Reader (List StmtTree)
statement_list_at k d = several begins_statement (statement_at k d)

abbrev pub statements_at : ℕ → Option Readers → Reader StmtTrees
statements_at k d = mapped stmts_of (statement_list_at k d)

-- what is read one level down, where so many levels may be opened
abbrev pub readers : ℕ → Option Readers
readers zero = None
readers (suc k) = Some (record { levels = k; statements = statements_at k (readers k) })

-- one level down from one more than k
abbrev pub readers_at : ℕ → Readers
readers_at k = record { levels = k; statements = statements_at k (readers k) }
