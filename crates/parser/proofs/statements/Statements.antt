-- Statements are read exactly, with any number of levels.
use Rattle.lexer.specs.declared.token.TokenKind.TheVariants as kinds
use Rattle.lexer.specs.declared.word.Word.TheVariants as words
use Rattle.lexer.specs.declared.delimiter.Delimiter.TheVariants as marks
use Rattle.std.proofs.Common.{◌≡◌, ℕ, zero, suc, true, false, List, [], ◌∷◌, ◌++◌, Option, Some, refl, ap, subst, inl, inr}
use Rattle.lexer.specs.declared.token.Token.{Token}
use Rattle.lexer.specs.declared.word.Word.{Word}
use Rattle.ada_tree.specs.ExpressionTree.{ExprTree, NameTree}
use Rattle.ada_tree.specs.StatementTree.{DeclarationTree, IterationTree, Forever, While, For, StmtTree, Null, Assignment, Call, Exit, Return, Raise, Delay}
use Rattle.ada_tree.specs.StatementTree.{DelayUntil, If, Case, Loop, Block, Abort, Requeue, Accept, Select, StmtTrees, NoStmts, MoreStmts, stmts_of}
use Rattle.ada_tree.specs.Language.{Tokens, never, ◌⨾◌, word_at, each, some, Limit, inside}
use Rattle.ada_tree.specs.ExpressionGrammar.{expression, spells_name}
use Rattle.ada_tree.specs.StatementGrammar.{iteration, exception_choice, block_declarations, stmt, stmts, further_stmts}
use Rattle.parser.specs.Reading.{Reader, first, is_first, is_word, is_mark, seq, mapped, opened, skip_mark}
use Rattle.parser.specs.MoreReading.{next_word}
use Rattle.parser.specs.StatementReading.{Readers, elsif_at, if_at, alternative_at, case_at, loop_at, exception_choice_at, handler_at, block_at, statement_of}
use Rattle.parser.specs.StatementReading.{statement_at, begins_statement, statement_list_at, statements_at, readers, readers_at}
use Rattle.parser.proofs.general.Exact.{Exact, Free, exact_told}
use Rattle.parser.proofs.general.Several.{Below, exact_several, exact_opened, exact_next, next_first}
use Rattle.parser.proofs.general.MoreExact.{Any, heads_placed, at_head, at_past, at_placed, at_name, at_both, mapped_exact, by_word_exact}
use Rattle.parser.proofs.expressions.Followers.{ExpressionStops}
use Rattle.parser.proofs.expressions.Levelled.{exact_expression}
use Rattle.parser.proofs.general.Lists.{Shrinking, shrinking}
use Rattle.parser.specs.ExpressionReading.{expression_at}
use Rattle.parser.proofs.general.Heads.{when_first}
use Rattle.parser.proofs.statements.PlainStatements.{Class, class_of, class_at, Of, null_exact, named_statement, exit_exact, return_exact, raise_exact}
use Rattle.parser.proofs.statements.PlainStatements.{delay_exact, abort_exact, requeue_exact, accept_exact, select_exact}
use Rattle.parser.proofs.statements.PlainStatements.{Nulls, Names, Exits, Returns, Raises, Delays, Ifs, Cases, Loops, Blocks, Aborts, Requeues, Accepts}
use Rattle.parser.proofs.statements.PlainStatements.{Selects}
use Rattle.parser.proofs.statements.CompoundStatements.{AllStop, ExactStatements, line_stops, line, exception_choice_exact, handler_exact, IfParts, CaseParts}
use Rattle.parser.proofs.statements.CompoundStatements.{LoopParts, BlockParts, l, elsif_exact, if_exact, alternative_exact, case_exact, loop_exact, block_exact}

-- ---- statements

abbrev pub Holds : ℕ → Readers → Type 0
Holds n r = (r.levels ≡ n) × ExactStatements r.levels r.statements

inside_never : (k : ℕ) (ts : Tokens) → inside (Some k) (λ m. never) ts → ⊥
inside_never zero ts g = g
inside_never (suc k) ts g = g

module _ (k : ℕ) (d : Option Readers) (below : Below Holds k d) where
  pub opened_exact : (f : Readers → Reader StmtTree) (P : StmtTree → Limit → Tokens → Type 0)
      → ((r : Readers) → ExactStatements r.levels r.statements → Exact (f r) (λ y. P y (Some r.levels)) Free)
      → Exact (opened d f) (λ y. inside (Some k) (P y)) Free
  opened_exact f P ef = exact_opened Holds k d f P Free below (λ n r h. subst (λ (n : ℕ). Exact (f r) (λ y. P y (Some n)) Free) h.0 (ef r h.1))

  ifs_to : (y : StmtTree) (ts : Tokens) → inside (Some k) (IfParts y) ts → Of Ifs k y ts
  ifs_to (If place condition then_part elsif_parts else_part) ts g = (refl, g)
  ifs_to y ts g = absurd (inside_never k ts g)

  ifs_back : (y : StmtTree) (ts : Tokens) → Of Ifs k y ts → inside (Some k) (IfParts y) ts
  ifs_back (If place condition then_part elsif_parts else_part) ts g = g.1
  ifs_back y ts g = absurd cc

  cases_to : (y : StmtTree) (ts : Tokens) → inside (Some k) (CaseParts y) ts → Of Cases k y ts
  cases_to (Case place value all) ts g = (refl, g)
  cases_to y ts g = absurd (inside_never k ts g)

  cases_back : (y : StmtTree) (ts : Tokens) → Of Cases k y ts → inside (Some k) (CaseParts y) ts
  cases_back (Case place value all) ts g = g.1
  cases_back y ts g = absurd cc

  loops_to : (y : StmtTree) (ts : Tokens) → inside (Some k) (LoopParts y) ts → Of Loops k y ts
  loops_to (Loop place turns body) ts g = (refl, g)
  loops_to y ts g = absurd (inside_never k ts g)

  loops_back : (y : StmtTree) (ts : Tokens) → Of Loops k y ts → inside (Some k) (LoopParts y) ts
  loops_back (Loop place turns body) ts g = g.1
  loops_back y ts g = absurd cc

  blocks_to : (y : StmtTree) (ts : Tokens) → inside (Some k) (BlockParts y) ts → Of Blocks k y ts
  blocks_to (Block place declarations body all) ts g = (refl, g)
  blocks_to y ts g = absurd (inside_never k ts g)

  blocks_back : (y : StmtTree) (ts : Tokens) → Of Blocks k y ts → inside (Some k) (BlockParts y) ts
  blocks_back (Block place declarations body all) ts g = g.1
  blocks_back y ts g = absurd cc

  told : (f : Readers → Reader StmtTree) (P : StmtTree → Limit → Tokens → Type 0) (c : Class)
      → ((r : Readers) → ExactStatements r.levels r.statements → Exact (f r) (λ y. P y (Some r.levels)) Free)
      → ((y : StmtTree) (ts : Tokens) → inside (Some k) (P y) ts → Of c k y ts) → ((y : StmtTree) (ts : Tokens) → Of c k y ts → inside (Some k) (P y) ts)
      → Exact (opened d f) (Of c k) Free
  told f P c ef to back =
      exact_told (opened d f) (λ y. inside (Some k) (P y)) (Of c k) Free Free (opened_exact f P ef) to back (λ x ts o g st. tt) (λ x ts o g st. tt)

  pub ifs : Exact (opened d if_at) (Of Ifs k) Free
  ifs = told if_at IfParts Ifs if_exact ifs_to ifs_back

  pub cases : Exact (opened d case_at) (Of Cases k) Free
  cases = told case_at CaseParts Cases case_exact cases_to cases_back

  pub loops : Exact (opened d loop_at) (Of Loops k) Free
  loops = told loop_at LoopParts Loops loop_exact loops_to loops_back

  pub blocks : Exact (opened d block_at) (Of Blocks k) Free
  blocks = told block_at BlockParts Blocks block_exact blocks_to blocks_back

  pub of_word : (w : Option Word) → Exact (statement_of k d w) (Of (class_at w) k) Free
  of_word (Some words.Null) = null_exact k
  of_word (Some words.Exit) = exit_exact k
  of_word (Some words.Return) = return_exact k
  of_word (Some words.Raise) = raise_exact k
  of_word (Some words.Delay) = delay_exact k
  of_word (Some words.If) = ifs
  of_word (Some words.Case) = cases
  of_word (Some words.Loop) = loops
  of_word (Some words.While) = loops
  of_word (Some words.For) = loops
  of_word (Some words.Begin) = blocks
  of_word (Some words.Declare) = blocks
  of_word (Some words.Abort) = abort_exact k
  of_word (Some words.Requeue) = requeue_exact k
  of_word (Some words.Accept) = accept_exact k
  of_word (Some words.Select) = select_exact k
  of_word w = named_statement k

-- the next token tells a statement's kind, and begins a statement
abbrev pub Starts : Class → Option Token → Type 0
Starts c o = (c ≡ class_at (next_word o)) × (begins_statement o ≡ true)

pub inside_starts : (k : ℕ) (c : Class) (P : Limit → Tokens → Type 0) (s r : Tokens) → inside (Some k) P s
    → ((l : ℕ) → P (Some l) s → Starts c (first (s ++ r))) → Starts c (first (s ++ r))
inside_starts zero c P s r g f = absurd g
inside_starts (suc k) c P s r g f = f k g

pub name_starts : (k : ℕ) (n : NameTree) (P : Tokens → Type 0) (s r : Tokens) → (spells_name (Some k) n ⨾ P) s → Starts Names (first (s ++ r))
name_starts k n P s r g = at_both (Starts Names) (spells_name (Some k) n) P s r g (λ u v h i. at_name (Starts Names) n.first (λ _ _. (refl, refl)) u (v ++ r) h)

pub loop_starts : (l place : ℕ) (turns : IterationTree) (P : Tokens → Type 0) (s r : Tokens) → (iteration (Some l) place turns ⨾ P) s
    → Starts Loops (first (s ++ r))
loop_starts l place Forever P s r g = at_placed (Starts Loops) (kinds.Word words.Loop) place (λ _ _. (refl, refl)) s r g
loop_starts l place (While condition) P s r g =
    at_both (Starts Loops) (iteration (Some l) place (While condition)) P s r g
    (λ u v h i. at_placed (Starts Loops) (kinds.Word words.While) place (λ _ _. (refl, refl)) u (v ++ r) h)
loop_starts l place (For parameter is_reversed x) P s r g =
    at_both (Starts Loops) (iteration (Some l) place (For parameter is_reversed x)) P s r g
    (λ u v h i. at_placed (Starts Loops) (kinds.Word words.For) place (λ _ _. (refl, refl)) u (v ++ r) h)

pub block_starts : (l place : ℕ) (all : List DeclarationTree) (s r : Tokens) → block_declarations (Some l) place all s → Starts Blocks (first (s ++ r))
block_starts l place [] s r (inl g) =
    at_head (Starts Blocks) (kinds.Word words.Begin) (word_at words.Begin place) (heads_placed (kinds.Word words.Begin) place) (λ _ _. (refl, refl)) s r g
block_starts l place [] s r (inr g) = at_placed (Starts Blocks) (kinds.Word words.Declare) place (λ _ _. (refl, refl)) s r g
block_starts l place (d ∷ rest) s r g = at_placed (Starts Blocks) (kinds.Word words.Declare) place (λ _ _. (refl, refl)) s r g

pub statement_starts : (k : ℕ) (y : StmtTree) (s r : Tokens) → stmt y (Some k) s → Starts (class_of y) (first (s ++ r))
statement_starts k (Null place) s r g = at_placed (Starts Nulls) (kinds.Word words.Null) place (λ _ _. (refl, refl)) s r g
statement_starts k (Assignment target value) s r g = name_starts k target _ s r g
statement_starts k (Call name) s r g = name_starts k name _ s r g
statement_starts k (Exit place condition) s r g = at_placed (Starts Exits) (kinds.Word words.Exit) place (λ _ _. (refl, refl)) s r g
statement_starts k (Return place value) s r g = at_placed (Starts Returns) (kinds.Word words.Return) place (λ _ _. (refl, refl)) s r g
statement_starts k (Raise place name) s r g = at_placed (Starts Raises) (kinds.Word words.Raise) place (λ _ _. (refl, refl)) s r g
statement_starts k (Delay place value) s r g = at_placed (Starts Delays) (kinds.Word words.Delay) place (λ _ _. (refl, refl)) s r g
statement_starts k (DelayUntil place value) s r g = at_placed (Starts Delays) (kinds.Word words.Delay) place (λ _ _. (refl, refl)) s r g
statement_starts k (If place condition then_part elsif_parts else_part) s r g =
    inside_starts k Ifs _ s r g (λ l h. at_placed (Starts Ifs) (kinds.Word words.If) place (λ _ _. (refl, refl)) s r h)
statement_starts k (Case place value all) s r g =
    inside_starts k Cases _ s r g (λ l h. at_placed (Starts Cases) (kinds.Word words.Case) place (λ _ _. (refl, refl)) s r h)
statement_starts k (Loop place turns body) s r g = inside_starts k Loops _ s r g (λ l h. loop_starts l place turns _ s r h)
statement_starts k (Block place declarations body all) s r g =
    inside_starts k Blocks _ s r g
    (λ l h. at_both (Starts Blocks) (block_declarations (Some l) place declarations) _ s r h (λ u v i j. block_starts l place declarations u (v ++ r) i))
statement_starts k (Abort place name) s r g = at_placed (Starts Aborts) (kinds.Word words.Abort) place (λ _ _. (refl, refl)) s r g
statement_starts k (Requeue place name second) s r g = at_placed (Starts Requeues) (kinds.Word words.Requeue) place (λ _ _. (refl, refl)) s r g
statement_starts k (Accept place name) s r g = at_placed (Starts Accepts) (kinds.Word words.Accept) place (λ _ _. (refl, refl)) s r g
statement_starts k (Select place) s r g = at_placed (Starts Selects) (kinds.Word words.Select) place (λ _ _. (refl, refl)) s r g

abbrev pub One : ℕ → StmtTree → Tokens → Type 0
One k y = stmt y (Some k)

more_to : (k : ℕ) (xs : List StmtTree) (ts : Tokens) → each (One k) xs ts → further_stmts (stmts_of xs) (Some k) ts
more_to k [] ts g = g
more_to k (x ∷ xs) ts g = (g.0, g.1, g.2, g.3, more_to k xs g.1 g.4)

more_back : (k : ℕ) (y : StmtTrees) (ts : Tokens) → further_stmts y (Some k) ts → (x : List StmtTree) × each (One k) x ts × (stmts_of x ≡ y)
more_back k NoStmts ts g = ([], g, refl)
more_back k (MoreStmts s rest) ts g = let x = more_back k rest g.1 g.4 in (s ∷ x.0, (g.0, g.1, g.2, g.3, x.1), ap (MoreStmts s) x.2)

all_to : (k : ℕ) (xs : List StmtTree) (ts : Tokens) → some (One k) xs ts → stmts (stmts_of xs) (Some k) ts
all_to k [] ts g = absurd g
all_to k (x ∷ xs) ts g = (g.0, g.1, g.2, g.3, more_to k xs g.1 g.4)

all_back : (k : ℕ) (y : StmtTrees) (ts : Tokens) → stmts y (Some k) ts → (x : List StmtTree) × some (One k) x ts × (stmts_of x ≡ y)
all_back k NoStmts ts g = absurd g
all_back k (MoreStmts s rest) ts g = let x = more_back k rest g.1 g.4 in (s ∷ x.0, (g.0, g.1, g.2, g.3, x.1), ap (MoreStmts s) x.2)

statement_below : (k : ℕ) (d : Option Readers) → Below Holds k d → Exact (statement_at k d) (One k) Free
statement_below k d below =
    by_word_exact (statement_of k d) (λ w. Of (class_at w) k) (One k) (of_word k d below) (λ w x s g. g.1) (λ x s r g. ((statement_starts k x s r g).0, g))

statement_list_below : (k : ℕ) (d : Option Readers) → Below Holds k d
    → Exact (statement_list_at k d) (some (One k)) (λ xs o. (begins_statement o ≡ false) × Any o)
statement_list_below k d below =
    exact_several begins_statement (statement_at k d) (One k) Any (statement_below k d below) (λ x s r g. (statement_starts k x s r g).1) (λ o h. tt) refl

statements_below : (k : ℕ) (d : Option Readers) → Below Holds k d → ExactStatements k (statements_at k d)
statements_below k d below =
    mapped_exact stmts_of (λ all. stmts all (Some k)) (λ _. AllStop) (statement_list_below k d below)
    (all_to k) (all_back k) (λ x o st. st.0) (λ x o st. (st, tt))

pub below : (k : ℕ) → Below Holds k (readers k)
below zero = tt
below (suc k) = (refl, statements_below k (readers k) (below k))

pub statement_exact : (k : ℕ) → Exact (statement_at k (readers k)) (One k) Free
statement_exact k = statement_below k (readers k) (below k)

pub statement_list_exact : (k : ℕ) → Exact (statement_list_at k (readers k)) (some (One k)) (λ xs o. (begins_statement o ≡ false) × Any o)
statement_list_exact k = statement_list_below k (readers k) (below k)

pub statements_exact : (k : ℕ) → ExactStatements k (statements_at k (readers k))
statements_exact k = statements_below k (readers k) (below k)

-- ---- loops

pub choice_turns : (k : ℕ) → Shrinking (is_mark marks.VerticalLine) (mapped (λ x. x.1) (seq (skip_mark marks.VerticalLine) (expression_at k)))
choice_turns k =
    let goes : (x : ExprTree) (o : Option Token) → is_first line o ≡ true → ExpressionStops o = λ x. when_first ExpressionStops line line_stops in
    shrinking (is_mark marks.VerticalLine) (exact_next line refl (expression_at k) (expression (Some k)) (λ _. ExpressionStops) (exact_expression k) goes)
    (next_first line refl (expression_at k) (expression (Some k)) (λ _. ExpressionStops) (exact_expression k) goes) refl

pub exception_turns : Shrinking (is_mark marks.VerticalLine) (mapped (λ x. x.1) (seq (skip_mark marks.VerticalLine) exception_choice_at))
exception_turns =
    shrinking (is_mark marks.VerticalLine) (exact_next line refl exception_choice_at exception_choice Free exception_choice_exact (λ x o h. tt))
    (next_first line refl exception_choice_at exception_choice Free exception_choice_exact (λ x o h. tt)) refl

pub elsif_turns : (k : ℕ) → Shrinking (is_word words.Elsif) (elsif_at (readers_at k))
elsif_turns k =
    shrinking (is_word words.Elsif) (elsif_exact (readers_at k) (statements_exact k))
    (λ x s r g. at_past (λ o. is_word words.Elsif o ≡ true) (kinds.Word words.Elsif) (λ _ _. refl) s r g) refl

pub alternative_turns : (k : ℕ) → Shrinking (is_word words.When) (alternative_at (readers_at k))
alternative_turns k =
    shrinking (is_word words.When) (alternative_exact (readers_at k) (statements_exact k))
    (λ x s r g. at_placed (λ o. is_word words.When o ≡ true) (kinds.Word words.When) x.0 (λ _ _. refl) s r g) refl

pub handler_turns : (k : ℕ) → Shrinking (is_word words.When) (handler_at (statements_at k (readers k)))
handler_turns k =
    shrinking (is_word words.When) (handler_exact k (statements_at k (readers k)) (statements_exact k))
    (λ x s r g. at_past (λ o. is_word words.When o ≡ true) (kinds.Word words.When) (λ _ _. refl) s r g) refl

pub statement_turns : (k : ℕ) → Shrinking begins_statement (statement_at k (readers k))
statement_turns k = shrinking begins_statement (statement_exact k) (λ x s r g. (statement_starts k x s r g).1) refl
