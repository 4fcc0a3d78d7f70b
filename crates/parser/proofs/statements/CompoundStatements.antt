-- Statements with statements in them are read exactly, given that what stands in them is.
use Rattle.lexer.specs.declared.token.TokenKind.TheVariants as kinds
use Rattle.lexer.specs.declared.word.Word.TheVariants as words
use Rattle.lexer.specs.declared.delimiter.Delimiter.TheVariants as marks
use Rattle.ada_tree.specs.declared.expression.UnaryOperator.TheVariants as unary
use Rattle.ada_tree.specs.declared.statement.ExceptionChoice.TheVariants as exceptions
use Rattle.parser.specs.Reading as reading
use Rattle.std.proofs.Common.{◌≡◌, ℕ, Bool, true, false, List, [], ◌∷◌, ◌++◌, Option, Some, refl, sym, ap, subst, inl, inr, ◌⊎◌}
use Rattle.lexer.specs.declared.token.Token.{Token}
use Rattle.lexer.specs.declared.token.TokenKind.{TokenKind}
use Rattle.ada_tree.specs.declared.expression.Identifier.{Identifier}
use Rattle.ada_tree.specs.declared.statement.ExceptionChoice.{ExceptionChoice}
use Rattle.ada_tree.specs.ExpressionTree.{ExprTree}
use Rattle.ada_tree.specs.StatementTree.{DeclarationTree, RangeTree, IterationTree, Forever, While, For, ChoicesTree, Values, OtherValues, StmtTree, If, Case}
use Rattle.ada_tree.specs.StatementTree.{Loop, Block, StmtTrees, NoStmts, MoreStmts, ElsifTrees, NoElsifs, MoreElsifs, AlternativeTrees, NoAlternatives}
use Rattle.ada_tree.specs.StatementTree.{MoreAlternatives, HandlerTrees, NoHandlers, MoreHandlers, elsifs_of, alternatives_of, handlers_of}
use Rattle.ada_tree.specs.Language.{Tokens, never, nothing, ◌⨾◌, token, word, word_at, mark, identifier, each, some, separated, Limit}
use Rattle.ada_tree.specs.ExpressionGrammar.{Simple, derives, expression}
use Rattle.ada_tree.specs.StatementGrammar.{range, declaration, reversed, iteration, choices, exception_choice, block_declarations, stmts, else_stmts, elsifs}
use Rattle.ada_tree.specs.StatementGrammar.{some_alternatives, alternatives, handlers, further_handlers}
use Rattle.parser.specs.Reading.{Reader, first, is_first, is_word, mapped}
use Rattle.parser.specs.MoreReading.{Either, Left, Right, flag, past_word}
use Rattle.parser.specs.StatementReading.{Readers, elsif_at, elsifs_at, else_at, if_at, choices_of, choices_at, alternative_at, alternatives_at, case_at, Turns}
use Rattle.parser.specs.StatementReading.{iteration_of, while_at, for_at, iteration_at, loop_at, exception_choice_of, exception_choice_at, handler_at}
use Rattle.parser.specs.StatementReading.{handler_list_at, elsif_list_at, alternative_list_at, handlers_at, block_start_of, block_start_at, block_at, begins_statement}
use Rattle.parser.proofs.general.Exact.{Exact, Free, exact_nothing, exact_either, exact_told}
use Rattle.parser.proofs.general.Several.{ManyStops, exact_token, exact_skipped, exact_identifier, exact_many, exact_several, exact_separated}
use Rattle.parser.proofs.general.MoreExact.{Flagged, FlagStops, Any, heads_placed, many_stop, set_stop, EitherSpells, EitherStops, at_head, at_token, at_past}
use Rattle.parser.proofs.general.MoreExact.{at_placed, at_nothing, at_both, then_exact, free_then, placed_exact, named_exact, past_exact, ended_exact}
use Rattle.parser.proofs.general.MoreExact.{mapped_exact, free_mapped, flag_exact, either_exact}
use Rattle.parser.proofs.expressions.Followers.{ExpressionStops, SimpleStops}
use Rattle.parser.proofs.expressions.Levelled.{exact_expression}
use Rattle.parser.proofs.declarations.Declarations.{is_stops, range_exact, declarations_exact}
use Rattle.parser.specs.DeclarationReading.{begins_declaration}
use Rattle.parser.proofs.general.Heads.{when_first, at_made}
use Rattle.parser.proofs.statements.PlainStatements.{semicolon, without, name_first}

-- ---- statements with statements in them

abbrev pub AllStop : Option Token → Type 0
AllStop o = begins_statement o ≡ false

abbrev pub ExactStatements : ℕ → Reader StmtTrees → Type 0
ExactStatements l statements = Exact statements (λ all. stmts all (Some l)) (λ _. AllStop)

pub then_stops : (s e : ℕ) → ExpressionStops (Some (record { kind = kinds.Word words.Then; start = s; end_ = e }))
then_stops s e = refl

pub loop_stops : (s e : ℕ) → ExpressionStops (Some (record { kind = kinds.Word words.Loop; start = s; end_ = e }))
loop_stops s e = refl

pub simple_loop_stops : (s e : ℕ) → SimpleStops (Some (record { kind = kinds.Word words.Loop; start = s; end_ = e }))
simple_loop_stops s e = refl

pub arrow_stops : (s e : ℕ) → ExpressionStops (Some (record { kind = kinds.Delimiter marks.Arrow; start = s; end_ = e }))
arrow_stops s e = refl

pub line_stops : (s e : ℕ) → ExpressionStops (Some (record { kind = kinds.Delimiter marks.VerticalLine; start = s; end_ = e }))
line_stops s e = refl

abbrev pub line : TokenKind
line = kinds.Delimiter marks.VerticalLine

abbrev pub end_word : TokenKind
end_word = kinds.Word words.End

-- ---- handlers

exception_choice_to : (x : Either ℕ Identifier) (ts : Tokens) → EitherSpells (word_at words.Others) identifier x ts
    → exception_choice (exception_choice_of x) ts
exception_choice_to (Left place) ts g = g
exception_choice_to (Right name) ts g = g

exception_choice_back : (y : ExceptionChoice) (ts : Tokens) → exception_choice y ts
    → (x : Either ℕ Identifier) × EitherSpells (word_at words.Others) identifier x ts × (exception_choice_of x ≡ y)
exception_choice_back (exceptions.Exception name) ts g = (Right name, g, refl)
exception_choice_back (exceptions.Others place) ts g = (Left place, g, refl)

exception_choice_free : (x : Either ℕ Identifier) (o : Option Token) → EitherStops {A = ℕ} {B = Identifier} Free Free x o
exception_choice_free (Left place) o = tt
exception_choice_free (Right name) o = tt

pub exception_choice_exact : Exact exception_choice_at exception_choice Free
exception_choice_exact =
    free_mapped exception_choice_of exception_choice
    (either_exact (is_word words.Others) (exact_token (kinds.Word words.Others) refl) exact_identifier
    (λ x s r g. at_head (λ o. is_word words.Others o ≡ true) (kinds.Word words.Others) (word_at words.Others x) (heads_placed (kinds.Word words.Others) x)
    (λ _ _. refl) s r g)
    (λ y s r g st. name_first (λ o. is_word words.Others o ≡ false) y (λ _ _. refl) s r g))
    exception_choice_free exception_choice_to exception_choice_back

module _ (l : ℕ) (statements : Reader StmtTrees) (es : ExactStatements l statements) where
  abbrev pub Handler : List ExceptionChoice × StmtTrees → Tokens → Type 0
  Handler x = word words.When ⨾ separated line exception_choice x.0 ⨾ mark marks.Arrow ⨾ stmts x.1 (Some l)

  pub handler_exact : Exact (handler_at statements) Handler (λ _. AllStop)
  handler_exact =
      past_exact (kinds.Word words.When) refl
      (then_exact (exact_separated line refl exception_choice_at exception_choice Any exception_choice_exact (λ o h. tt))
      (past_exact (kinds.Delimiter marks.Arrow) refl es)
      (λ x y v r g st. at_past (λ o. (is_first line o ≡ false) × Any o) (kinds.Delimiter marks.Arrow) (λ _ _. (refl, tt)) v r g))

  abbrev pub SomeHandlers : HandlerTrees → Tokens → Type 0
  SomeHandlers NoHandlers s = ⊥
  SomeHandlers (MoreHandlers all body rest) s = (Handler (all, body) ⨾ further_handlers rest (Some l)) s

  more_handlers_to : (xs : List (List ExceptionChoice × StmtTrees)) (ts : Tokens) → each Handler xs ts → further_handlers (handlers_of xs) (Some l) ts
  more_handlers_to [] ts g = g
  more_handlers_to (x ∷ xs) ts g = (g.0, g.1, g.2, g.3, more_handlers_to xs g.1 g.4)

  more_handlers_back : (y : HandlerTrees) (ts : Tokens) → further_handlers y (Some l) ts
      → (x : List (List ExceptionChoice × StmtTrees)) × each Handler x ts × (handlers_of x ≡ y)
  more_handlers_back NoHandlers ts g = ([], g, refl)
  more_handlers_back (MoreHandlers all body rest) ts g =
      let x = more_handlers_back rest g.1 g.4 in
      ((all, body) ∷ x.0, (g.0, g.1, g.2, g.3, x.1), ap (MoreHandlers all body) x.2)

  handlers_to : (xs : List (List ExceptionChoice × StmtTrees)) (ts : Tokens) → some Handler xs ts → SomeHandlers (handlers_of xs) ts
  handlers_to [] ts g = absurd g
  handlers_to (x ∷ xs) ts g = (g.0, g.1, g.2, g.3, more_handlers_to xs g.1 g.4)

  handlers_back : (y : HandlerTrees) (ts : Tokens) → SomeHandlers y ts → (x : List (List ExceptionChoice × StmtTrees)) × some Handler x ts × (handlers_of x ≡ y)
  handlers_back NoHandlers ts g = absurd g
  handlers_back (MoreHandlers all body rest) ts g =
      let x = more_handlers_back rest g.1 g.4 in
      ((all, body) ∷ x.0, (g.0, g.1, g.2, g.3, x.1), ap (MoreHandlers all body) x.2)

  abbrev pub HandlerStops : Option Token → Type 0
  HandlerStops o = (is_word words.When o ≡ false) × AllStop o

  abbrev pub Part : HandlerTrees → Tokens → Type 0
  Part y = word words.Exception ⨾ SomeHandlers y

  pub handler_list_exact : Exact (handler_list_at statements) (some Handler) (λ xs. HandlerStops)
  handler_list_exact =
      exact_several (is_word words.When) (handler_at statements) Handler AllStop handler_exact
      (λ x s r g. at_past (λ o. is_word words.When o ≡ true) (kinds.Word words.When) (λ _ _. refl) s r g)
      (when_first AllStop (kinds.Word words.When) (λ _ _. refl)) refl

  pub part_exact : Exact (past_word words.Exception (mapped handlers_of (reading.several (is_word words.When) (handler_at statements)))) Part
      (λ _. HandlerStops)
  part_exact =
      past_exact (kinds.Word words.Exception) refl
      (mapped_exact handlers_of SomeHandlers (λ _. HandlerStops) handler_list_exact
      handlers_to handlers_back (λ x o st. st) (λ x o st. st))

  abbrev pub HandlersStop : HandlerTrees → Option Token → Type 0
  HandlersStop NoHandlers o = is_word words.Exception o ≡ false
  HandlersStop (MoreHandlers all body rest) o = (is_word words.When o ≡ false) × AllStop o

  handlers_some : (y : HandlerTrees) (s r : Tokens) → Part y s → HandlerStops (first r) → handlers y (Some l) s × HandlersStop y (first r)
  handlers_some NoHandlers s r g st = absurd g.4
  handlers_some (MoreHandlers all body rest) s r g st = (g, st)

  handlers_none : (y : HandlerTrees) (s r : Tokens) → (y ≡ NoHandlers) × (s ≡ []) → is_word words.Exception (first (s ++ r)) ≡ false
      → handlers y (Some l) s × HandlersStop y (first r)
  handlers_none NoHandlers s r g h = (g.1, subst (λ (z : Tokens). is_word words.Exception (first (z ++ r)) ≡ false) g.1 h)
  handlers_none (MoreHandlers all body rest) s r g h = absurd cc

  handlers_which : (y : HandlerTrees) (s r : Tokens) → handlers y (Some l) s → HandlersStop y (first r)
      → ((is_word words.Exception (first (s ++ r)) ≡ true) × Part y s × HandlerStops (first r))
      ⊎ ((is_word words.Exception (first (s ++ r)) ≡ false) × ((y ≡ NoHandlers) × (s ≡ [])) × Any (first r))
  handlers_which NoHandlers s r g st = inr (subst (λ (z : Tokens). is_word words.Exception (first (z ++ r)) ≡ false) (sym g) st, (refl, g), tt)
  handlers_which (MoreHandlers all body rest) s r g st =
      inl (at_past (λ o. is_word words.Exception o ≡ true) (kinds.Word words.Exception) (λ _ _. refl) s r g, g, st)

  pub handlers_exact : Exact (handlers_at statements) (λ y. handlers y (Some l)) HandlersStop
  handlers_exact =
      exact_either (is_word words.Exception) _ (reading.nothing NoHandlers) Part (λ y s. (y ≡ NoHandlers) × (s ≡ [])) (λ y. handlers y (Some l))
      (λ _. HandlerStops) Free HandlersStop part_exact (exact_nothing NoHandlers)
      handlers_rest (λ x s r g st h. handlers_none x s r g h) handlers_which
    where
      handlers_rest : (y : HandlerTrees) (s r : Tokens) → Part y s → HandlerStops (first r) → is_word words.Exception (first (s ++ r)) ≡ true
          → handlers y (Some l) s × HandlersStop y (first r)
      handlers_rest y s r g st h = handlers_some y s r g st

  pub handlers_end : (y : HandlerTrees) (s e : ℕ) → HandlersStop y (Some (record { kind = end_word; start = s; end_ = e }))
  handlers_end NoHandlers s e = refl
  handlers_end (MoreHandlers all body rest) s e = (refl, refl)

  -- statements stop where handlers begin, or what follows them
  pub before_handlers : {P : Tokens → Type 0} (y : HandlerTrees) (s r : Tokens) → (handlers y (Some l) ⨾ word words.End ⨾ P) s → AllStop (first (s ++ r))
  before_handlers {P} NoHandlers s r g =
      at_both AllStop nothing (word words.End ⨾ P) s r g (λ u v h i. at_nothing AllStop u (v ++ r) h (at_past AllStop end_word (λ _ _. refl) v r i))
  before_handlers {P} (MoreHandlers all body rest) s r g =
      at_both AllStop (handlers (MoreHandlers all body rest) (Some l)) (word words.End ⨾ P) s r g
      (λ u v h i. at_past AllStop (kinds.Word words.Exception) (λ _ _. refl) u (v ++ r) h)

-- ---- the parts of statements with statements in them

abbrev pub IfParts : StmtTree → Limit → Tokens → Type 0
IfParts (If place condition then_part elsif_parts else_part) m =
    word_at words.If place ⨾ expression m condition ⨾ word words.Then ⨾ stmts then_part m ⨾ elsifs elsif_parts m ⨾ else_stmts else_part m ⨾ word
    words.End ⨾ word words.If ⨾ mark marks.Semicolon
IfParts y m = never

abbrev pub CaseParts : StmtTree → Limit → Tokens → Type 0
CaseParts (Case place value all) m =
    word_at words.Case place ⨾ expression m value ⨾ word words.Is ⨾ some_alternatives all m ⨾ word words.End ⨾ word words.Case ⨾ mark marks.Semicolon
CaseParts y m = never

abbrev pub LoopParts : StmtTree → Limit → Tokens → Type 0
LoopParts (Loop place turns body) m = iteration m place turns ⨾ stmts body m ⨾ word words.End ⨾ word words.Loop ⨾ mark marks.Semicolon
LoopParts y m = never

abbrev pub BlockParts : StmtTree → Limit → Tokens → Type 0
BlockParts (Block place declarations body all) m =
    block_declarations m place declarations ⨾ stmts body m ⨾ handlers all m ⨾ word words.End ⨾ mark marks.Semicolon
BlockParts y m = never

-- ---- one level down

module _ (r : Readers) (es : ExactStatements r.levels r.statements) where
  abbrev pub l : Limit
  l = Some r.levels

  -- ---- if

  abbrev pub Elsif : ExprTree × StmtTrees → Tokens → Type 0
  Elsif x = word words.Elsif ⨾ expression l x.0 ⨾ word words.Then ⨾ stmts x.1 l

  pub elsif_exact : Exact (elsif_at r) Elsif (λ _. AllStop)
  elsif_exact =
      past_exact (kinds.Word words.Elsif) refl
      (then_exact (exact_expression r.levels) (past_exact (kinds.Word words.Then) refl es)
      (λ x y v r g st. at_past ExpressionStops (kinds.Word words.Then) then_stops v r g))

  elsifs_to : (xs : List (ExprTree × StmtTrees)) (ts : Tokens) → each Elsif xs ts → elsifs (elsifs_of xs) l ts
  elsifs_to [] ts g = g
  elsifs_to (x ∷ xs) ts g = (g.0, g.1, g.2, g.3, elsifs_to xs g.1 g.4)

  elsifs_back : (y : ElsifTrees) (ts : Tokens) → elsifs y l ts → (x : List (ExprTree × StmtTrees)) × each Elsif x ts × (elsifs_of x ≡ y)
  elsifs_back NoElsifs ts g = ([], g, refl)
  elsifs_back (MoreElsifs condition body rest) ts g =
      let x = elsifs_back rest g.1 g.4 in
      ((condition, body) ∷ x.0, (g.0, g.1, g.2, g.3, x.1), ap (MoreElsifs condition body) x.2)

  abbrev pub ElsifsStop : ElsifTrees → Option Token → Type 0
  ElsifsStop NoElsifs o = is_word words.Elsif o ≡ false
  ElsifsStop (MoreElsifs condition body rest) o = (is_word words.Elsif o ≡ false) × AllStop o

  elsifs_out : (xs : List (ExprTree × StmtTrees)) (o : Option Token) → ManyStops (is_word words.Elsif) AllStop xs o → ElsifsStop (elsifs_of xs) o
  elsifs_out [] o st = st
  elsifs_out (x ∷ xs) o st = st

  elsifs_in : (xs : List (ExprTree × StmtTrees)) (o : Option Token) → ElsifsStop (elsifs_of xs) o → ManyStops (is_word words.Elsif) AllStop xs o
  elsifs_in [] o st = st
  elsifs_in (x ∷ xs) o st = st

  pub elsif_list_exact : Exact (elsif_list_at r) (each Elsif) (ManyStops (is_word words.Elsif) AllStop)
  elsif_list_exact =
      exact_many (is_word words.Elsif) (elsif_at r) Elsif AllStop elsif_exact
      (λ x s r g. at_past (λ o. is_word words.Elsif o ≡ true) (kinds.Word words.Elsif) (λ _ _. refl) s r g)
      (when_first AllStop (kinds.Word words.Elsif) (λ _ _. refl)) refl

  pub elsifs_exact : Exact (elsifs_at r) (λ y. elsifs y l) ElsifsStop
  elsifs_exact =
      mapped_exact elsifs_of (λ y. elsifs y l) ElsifsStop elsif_list_exact
      elsifs_to elsifs_back elsifs_out elsifs_in

  abbrev pub ElseStops : StmtTrees → Option Token → Type 0
  ElseStops NoStmts o = is_word words.Else o ≡ false
  ElseStops (MoreStmts s rest) o = AllStop o

  abbrev pub Else : StmtTrees → Tokens → Type 0
  Else y = word words.Else ⨾ stmts y l

  else_some : (y : StmtTrees) (s r : Tokens) → Else y s → AllStop (first r) → else_stmts y l s × ElseStops y (first r)
  else_some NoStmts s r g st = absurd g.4
  else_some (MoreStmts one rest) s r g st = (g, st)

  else_none : (y : StmtTrees) (s r : Tokens) → (y ≡ NoStmts) × (s ≡ []) → is_word words.Else (first (s ++ r)) ≡ false → else_stmts y l s × ElseStops y (first r)
  else_none NoStmts s r g h = (g.1, subst (λ (z : Tokens). is_word words.Else (first (z ++ r)) ≡ false) g.1 h)
  else_none (MoreStmts one rest) s r g h = absurd cc

  else_which : (y : StmtTrees) (s r : Tokens) → else_stmts y l s → ElseStops y (first r)
      → ((is_word words.Else (first (s ++ r)) ≡ true) × Else y s × AllStop (first r))
      ⊎ ((is_word words.Else (first (s ++ r)) ≡ false) × ((y ≡ NoStmts) × (s ≡ [])) × Any (first r))
  else_which NoStmts s r g st = inr (subst (λ (z : Tokens). is_word words.Else (first (z ++ r)) ≡ false) (sym g) st, (refl, g), tt)
  else_which (MoreStmts one rest) s r g st = inl (at_past (λ o. is_word words.Else o ≡ true) (kinds.Word words.Else) (λ _ _. refl) s r g, g, st)

  pub else_exact : Exact (else_at r) (λ y. else_stmts y l) ElseStops
  else_exact =
      exact_either (is_word words.Else) _ (reading.nothing NoStmts) Else (λ y s. (y ≡ NoStmts) × (s ≡ [])) (λ y. else_stmts y l) (λ _. AllStop) Free ElseStops
      (past_exact (kinds.Word words.Else) refl es) (exact_nothing NoStmts)
      else_rest (λ x s r g st h. else_none x s r g h) else_which
    where
      else_rest : (y : StmtTrees) (s r : Tokens) → Else y s → AllStop (first r) → is_word words.Else (first (s ++ r)) ≡ true
          → else_stmts y l s × ElseStops y (first r)
      else_rest y s r g st h = else_some y s r g st

  pub else_end : (y : StmtTrees) (s e : ℕ) → ElseStops y (Some (record { kind = end_word; start = s; end_ = e }))
  else_end NoStmts s e = refl
  else_end (MoreStmts one rest) s e = refl

  abbrev pub End_if : Tokens → Type 0
  End_if = word words.End ⨾ word words.If ⨾ mark marks.Semicolon

  pub elsifs_stop : (o : Option Token) → is_word words.Elsif o ≡ false → AllStop o → (x : ElsifTrees) → ElsifsStop x o
  elsifs_stop o h st NoElsifs = h
  elsifs_stop o h st (MoreElsifs condition body rest) = (h, st)

  elsifs_end : (x : ElsifTrees) (y : StmtTrees) (s r : Tokens) → (else_stmts y l ⨾ End_if) s → ElsifsStop x (first (s ++ r))
  elsifs_end x NoStmts s r g =
      at_both (ElsifsStop x) nothing End_if s r g
      (λ u v h i. at_nothing (ElsifsStop x) u (v ++ r) h (at_past (ElsifsStop x) end_word (λ _ _. elsifs_stop _ refl refl x) v r i))
  elsifs_end x (MoreStmts one rest) s r g =
      at_both (ElsifsStop x) (else_stmts (MoreStmts one rest) l) End_if s r g
      (λ u v h i. at_past (ElsifsStop x) (kinds.Word words.Else) (λ _ _. elsifs_stop _ refl refl x) u (v ++ r) h)

  pub after_then : (x : ElsifTrees) (y : StmtTrees) (s r : Tokens) → (elsifs x l ⨾ else_stmts y l ⨾ End_if) s → AllStop (first (s ++ r))
  after_then (MoreElsifs condition body rest) y s r g =
      at_both AllStop (elsifs (MoreElsifs condition body rest) l) (else_stmts y l ⨾ End_if) s r g (λ u v h i.
      at_both AllStop (Elsif (condition, body)) (elsifs rest l) u (v ++ r) h
      (λ t w j n. at_past AllStop (kinds.Word words.Elsif) (λ _ _. refl) t (w ++ (v ++ r)) j))
  after_then NoElsifs NoStmts s r g =
      at_both AllStop nothing (nothing ⨾ End_if) s r g (λ u v h i. at_nothing AllStop u (v ++ r) h
      (at_both AllStop nothing End_if v r i (λ t w j n. at_nothing AllStop t (w ++ r) j (at_past AllStop end_word (λ _ _. refl) w r n))))
  after_then NoElsifs (MoreStmts one rest) s r g =
      at_both AllStop nothing (else_stmts (MoreStmts one rest) l ⨾ End_if) s r g (λ u v h i. at_nothing AllStop u (v ++ r) h
      (at_both AllStop (else_stmts (MoreStmts one rest) l) End_if v r i (λ t w j n. at_past AllStop (kinds.Word words.Else) (λ _ _. refl) t (w ++ r) j)))

  if_back : (y : StmtTree) (ts : Tokens) → IfParts y l ts → (x : ℕ × (ExprTree × (StmtTrees × (ElsifTrees × StmtTrees))))
      × (word_at words.If x.0 ⨾ expression l x.1.0 ⨾ word words.Then ⨾ stmts x.1.1.0 l ⨾ elsifs x.1.1.1.0 l ⨾ else_stmts x.1.1.1.1 l ⨾ End_if) ts
      × (If x.0 x.1.0 x.1.1.0 x.1.1.1.0 x.1.1.1.1 ≡ y)
  if_back (If place condition then_part elsif_parts else_part) ts g = ((place, (condition, (then_part, (elsif_parts, else_part)))), g, refl)
  if_back y ts g = absurd g

  pub if_exact : Exact (if_at r) (λ y. IfParts y l) Free
  if_exact =
      let close = past_exact end_word refl (past_exact (kinds.Word words.If) refl (exact_skipped semicolon refl)) in
      let from_else = ended_exact else_exact close (λ x v r g. at_past (ElseStops x) end_word (else_end x) v r g) in
      let from_elsifs = then_exact elsifs_exact from_else (λ x y v r g st. elsifs_end x y v r g) in
      let from_statements = then_exact es from_elsifs (λ x y v r g st. after_then y.0 y.1 v r g) in
      let from_condition =
      then_exact (exact_expression r.levels) (past_exact (kinds.Word words.Then) refl from_statements)
      (λ x y v r g st. at_past ExpressionStops (kinds.Word words.Then) then_stops v r g) in
      free_mapped (λ x. If x.0 x.1.0 x.1.1.0 x.1.1.1.0 x.1.1.1.1) (λ y. IfParts y l) (placed_exact (kinds.Word words.If) refl from_condition) (λ x o. tt)
      (λ x ts g. g) if_back

  -- ---- case

  abbrev pub EitherChoice : Either ℕ (List ExprTree) → Tokens → Type 0
  EitherChoice = EitherSpells (word_at words.Others) (separated line (expression l))

  choices_to : (x : Either ℕ (List ExprTree)) (ts : Tokens) → EitherChoice x ts → choices l (choices_of x) ts
  choices_to (Left place) ts g = g
  choices_to (Right all) ts g = g

  choices_back : (y : ChoicesTree) (ts : Tokens) → choices l y ts → (x : Either ℕ (List ExprTree)) × EitherChoice x ts × (choices_of x ≡ y)
  choices_back (Values all) ts g = (Right all, g, refl)
  choices_back (OtherValues place) ts g = (Left place, g, refl)

  abbrev pub ChoicesStop : ChoicesTree → Option Token → Type 0
  ChoicesStop (Values all) o = (is_first line o ≡ false) × ExpressionStops o
  ChoicesStop (OtherValues place) o = Unit {0}

  abbrev pub EitherChoiceStops : Either ℕ (List ExprTree) → Option Token → Type 0
  EitherChoiceStops = EitherStops Free (λ _ o. (is_first line o ≡ false) × ExpressionStops o)

  choices_out : (x : Either ℕ (List ExprTree)) (o : Option Token) → EitherChoiceStops x o → ChoicesStop (choices_of x) o
  choices_out (Left place) o st = st
  choices_out (Right all) o st = st

  choices_in : (x : Either ℕ (List ExprTree)) (o : Option Token) → ChoicesStop (choices_of x) o → EitherChoiceStops x o
  choices_in (Left place) o st = st
  choices_in (Right all) o st = st

  pub not_others : (all : List ExprTree) (s r : Tokens) → separated line (expression l) all s → is_word words.Others (first (s ++ r)) ≡ false
  not_others [] s r g = absurd g
  not_others (e ∷ rest) s r g =
      at_both (λ o. is_word words.Others o ≡ false) (expression l e) (each (λ e. token line ⨾ expression l e) rest) s r g (λ u v h i.
      at_made (λ o. is_word words.Others o ≡ false)
      (record {
        number = λ _ _ _. refl;
        name = λ _ _ _. refl;
        parenthesis = λ _ _. refl;
        sign =
            elim [ unary.Plus ↦ λ _ _. refl | unary.Minus ↦ λ _ _. refl | unary.Abs ↦ λ _ _. refl | unary.Not ↦ λ _ _. refl ];
      })
      e l u (v ++ r) h.1)

  pub choices_exact : Exact (choices_at r.levels) (choices l) ChoicesStop
  choices_exact =
      mapped_exact choices_of (choices l) ChoicesStop
      (either_exact (is_word words.Others) (exact_token (kinds.Word words.Others) refl)
      (exact_separated line refl _ (expression l) ExpressionStops (exact_expression r.levels) (when_first ExpressionStops line line_stops))
      (λ x s r g. at_head (λ o. is_word words.Others o ≡ true) (kinds.Word words.Others) (word_at words.Others x) (heads_placed (kinds.Word words.Others) x)
      (λ _ _. refl) s r g)
      (λ y s r g st. not_others y s r g))
      choices_to choices_back choices_out choices_in

  pub choices_arrow : (x : ChoicesTree) (s e : ℕ) → ChoicesStop x (Some (record { kind = kinds.Delimiter marks.Arrow; start = s; end_ = e }))
  choices_arrow (Values all) s e = (refl, arrow_stops s e)
  choices_arrow (OtherValues place) s e = tt

  abbrev pub AlternativeParts : ℕ × (ChoicesTree × StmtTrees) → Tokens → Type 0
  AlternativeParts x = word_at words.When x.0 ⨾ choices l x.1.0 ⨾ mark marks.Arrow ⨾ stmts x.1.1 l

  pub alternative_exact : Exact (alternative_at r) AlternativeParts (λ _. AllStop)
  alternative_exact =
      placed_exact (kinds.Word words.When) refl
      (then_exact choices_exact (past_exact (kinds.Delimiter marks.Arrow) refl es)
      (λ x y v r g st. at_past (ChoicesStop x) (kinds.Delimiter marks.Arrow) (choices_arrow x) v r g))

  more_alternatives_to : (xs : List (ℕ × (ChoicesTree × StmtTrees))) (ts : Tokens) → each AlternativeParts xs ts → alternatives (alternatives_of xs) l ts
  more_alternatives_to [] ts g = g
  more_alternatives_to (x ∷ xs) ts g = (g.0, g.1, g.2, g.3, more_alternatives_to xs g.1 g.4)

  more_alternatives_back : (y : AlternativeTrees) (ts : Tokens) → alternatives y l ts
      → (x : List (ℕ × (ChoicesTree × StmtTrees))) × each AlternativeParts x ts × (alternatives_of x ≡ y)
  more_alternatives_back NoAlternatives ts g = ([], g, refl)
  more_alternatives_back (MoreAlternatives place all body rest) ts g =
      let x = more_alternatives_back rest g.1 g.4 in
      ((place, (all, body)) ∷ x.0, (g.0, g.1, g.2, g.3, x.1), ap (MoreAlternatives place all body) x.2)

  alternatives_to : (xs : List (ℕ × (ChoicesTree × StmtTrees))) (ts : Tokens) → some AlternativeParts xs ts → some_alternatives (alternatives_of xs) l ts
  alternatives_to [] ts g = absurd g
  alternatives_to (x ∷ xs) ts g = (g.0, g.1, g.2, g.3, more_alternatives_to xs g.1 g.4)

  alternatives_back : (y : AlternativeTrees) (ts : Tokens) → some_alternatives y l ts
      → (x : List (ℕ × (ChoicesTree × StmtTrees))) × some AlternativeParts x ts × (alternatives_of x ≡ y)
  alternatives_back NoAlternatives ts g = absurd g
  alternatives_back (MoreAlternatives place all body rest) ts g =
      let x = more_alternatives_back rest g.1 g.4 in
      ((place, (all, body)) ∷ x.0, (g.0, g.1, g.2, g.3, x.1), ap (MoreAlternatives place all body) x.2)

  abbrev pub AlternativesStop : Option Token → Type 0
  AlternativesStop o = (is_word words.When o ≡ false) × AllStop o

  pub alternative_list_exact : Exact (alternative_list_at r) (some AlternativeParts) (λ xs. AlternativesStop)
  alternative_list_exact =
      exact_several (is_word words.When) (alternative_at r) AlternativeParts AllStop alternative_exact
      (λ x s r g. at_placed (λ o. is_word words.When o ≡ true) (kinds.Word words.When) x.0 (λ _ _. refl) s r g)
      (when_first AllStop (kinds.Word words.When) (λ _ _. refl)) refl

  pub alternatives_exact : Exact (alternatives_at r) (λ y. some_alternatives y l) (λ _. AlternativesStop)
  alternatives_exact =
      mapped_exact alternatives_of (λ y. some_alternatives y l) (λ _. AlternativesStop) alternative_list_exact
      alternatives_to alternatives_back (λ x o st. st) (λ x o st. st)

  case_back : (y : StmtTree) (ts : Tokens) → CaseParts y l ts
      → (x : ℕ × (ExprTree × AlternativeTrees))
      × (word_at words.Case x.0 ⨾ expression l x.1.0 ⨾ word words.Is ⨾ some_alternatives x.1.1 l ⨾ word words.End ⨾ word words.Case ⨾ mark marks.Semicolon)
      ts × (Case x.0 x.1.0 x.1.1 ≡ y)
  case_back (Case place value all) ts g = ((place, (value, all)), g, refl)
  case_back y ts g = absurd g

  pub case_exact : Exact (case_at r) (λ y. CaseParts y l) Free
  case_exact =
      let close = past_exact end_word refl (past_exact (kinds.Word words.Case) refl (exact_skipped semicolon refl)) in
      let from_alternatives = ended_exact alternatives_exact close (λ x v r g. at_past AlternativesStop end_word (λ _ _. (refl, refl)) v r g) in
      let from_value =
      then_exact (exact_expression r.levels) (past_exact (kinds.Word words.Is) refl from_alternatives)
      (λ x y v r g st. at_past ExpressionStops (kinds.Word words.Is) is_stops v r g) in
      free_mapped (λ x. Case x.0 x.1.0 x.1.1) (λ y. CaseParts y l) (placed_exact (kinds.Word words.Case) refl from_value) (λ x o. tt) (λ x ts g. g) case_back

  -- ---- loops

  reverse_to : (b : Bool) (ts : Tokens) → Flagged (kinds.Word words.Reverse) b ts → reversed b ts
  reverse_to false ts g = g
  reverse_to true ts g = g

  reverse_back : (b : Bool) (ts : Tokens) → reversed b ts → Flagged (kinds.Word words.Reverse) b ts
  reverse_back false ts g = g
  reverse_back true ts g = g

  abbrev pub ReverseStops : Bool → Option Token → Type 0
  ReverseStops = FlagStops (kinds.Word words.Reverse)

  pub reversed_exact : Exact (flag (kinds.Word words.Reverse)) reversed ReverseStops
  reversed_exact =
      exact_told (flag (kinds.Word words.Reverse)) (Flagged (kinds.Word words.Reverse)) reversed ReverseStops ReverseStops
      (flag_exact (kinds.Word words.Reverse) refl) reverse_to reverse_back (λ x ts o g st. st) (λ x ts o g st. st)

  abbrev pub WhileParts : ℕ × ExprTree → Tokens → Type 0
  WhileParts x = word_at words.While x.0 ⨾ expression l x.1 ⨾ word words.Loop

  pub while_exact : Exact (while_at r.levels) WhileParts Free
  while_exact =
      placed_exact (kinds.Word words.While) refl
      (ended_exact (exact_expression r.levels) (exact_skipped (kinds.Word words.Loop) refl)
      (λ x v r g. at_token ExpressionStops (kinds.Word words.Loop) loop_stops v r g))

  abbrev pub ForParts : ℕ × (Identifier × (Bool × RangeTree)) → Tokens → Type 0
  ForParts x = word_at words.For x.0 ⨾ identifier x.1.0 ⨾ word words.In ⨾ reversed x.1.1.0 ⨾ range l x.1.1.1 ⨾ word words.Loop

  before_range : (b : Bool) (x : RangeTree) (s r : Tokens) → (range l x ⨾ word words.Loop) s → ReverseStops b (first (s ++ r))
  before_range b x s r g =
      at_both (ReverseStops b) (range l x) (word words.Loop) s r g (λ u v h i.
      at_both (ReverseStops b) (derives Simple l x.first) (mark marks.DoubleDot ⨾ derives Simple l x.last) u (v ++ r) h (λ t w j n.
      at_made (ReverseStops b)
      (record {
        number = λ _ _ _. stops _ refl;
        name = λ _ _ _. stops _ refl;
        parenthesis = λ _ _. stops _ refl;
        sign =
            elim [ unary.Plus ↦ λ _ _. stops _ refl | unary.Minus ↦ λ _ _. stops _ refl | unary.Abs ↦ λ _ _. stops _ refl | unary.Not ↦ λ _ _. stops _ refl ];
      })
      x.first l t (w ++ (v ++ r)) j.1))
    where
      stops : (o : Option Token) → is_word words.Reverse o ≡ false → ReverseStops b o
      stops o h = set_stop (kinds.Word words.Reverse) o h b

  pub for_exact : Exact (for_at r.levels) ForParts Free
  for_exact =
      placed_exact (kinds.Word words.For) refl (named_exact (past_exact (kinds.Word words.In) refl
      (then_exact reversed_exact
      (ended_exact (range_exact r.levels) (exact_skipped (kinds.Word words.Loop) refl)
      (λ x v r g. at_token SimpleStops (kinds.Word words.Loop) simple_loop_stops v r g))
      (λ x y v r g st. before_range x y v r g))))

  abbrev pub TurnsParts : Turns → Tokens → Type 0
  TurnsParts = EitherSpells WhileParts (EitherSpells ForParts (word_at words.Loop))

  iteration_to : (x : Turns) (ts : Tokens) → TurnsParts x ts → iteration l (iteration_of x).0 (iteration_of x).1 ts
  iteration_to (Left x) ts g = g
  iteration_to (Right (Left x)) ts g = g
  iteration_to (Right (Right place)) ts g = g

  iteration_back_of : (place : ℕ) (turns : IterationTree) (ts : Tokens) → iteration l place turns ts
      → (x : Turns) × TurnsParts x ts × (iteration_of x ≡ (place, turns))
  iteration_back_of place Forever ts g = (Right (Right place), g, refl)
  iteration_back_of place (While condition) ts g = (Left (place, condition), g, refl)
  iteration_back_of place (For parameter is_reversed x) ts g = (Right (Left (place, (parameter, (is_reversed, x)))), g, refl)

  no_while : (y : Either (ℕ × (Identifier × (Bool × RangeTree))) ℕ) (s r : Tokens) → EitherSpells ForParts (word_at words.Loop) y s
      → is_word words.While (first (s ++ r)) ≡ false
  no_while (Left x) s r g = at_placed (λ o. is_word words.While o ≡ false) (kinds.Word words.For) x.0 (λ _ _. refl) s r g
  no_while (Right x) s r g =
      at_head (λ o. is_word words.While o ≡ false) (kinds.Word words.Loop) (word_at words.Loop x) (heads_placed (kinds.Word words.Loop) x) (λ _ _. refl) s r g

  turns_free : (x : Turns) (o : Option Token) → EitherStops Free (EitherStops Free Free) x o
  turns_free (Left x) o = tt
  turns_free (Right (Left x)) o = tt
  turns_free (Right (Right x)) o = tt

  pub iteration_exact : Exact (iteration_at r.levels) (λ y. iteration l y.0 y.1) Free
  iteration_exact =
      free_mapped iteration_of (λ y. iteration l y.0 y.1)
      (either_exact (is_word words.While) while_exact
      (either_exact (is_word words.For) for_exact (exact_token (kinds.Word words.Loop) refl)
      (λ x s r g. at_placed (λ o. is_word words.For o ≡ true) (kinds.Word words.For) x.0 (λ _ _. refl) s r g)
      (λ y s r g st. at_head (λ o. is_word words.For o ≡ false) (kinds.Word words.Loop) (word_at words.Loop y) (heads_placed (kinds.Word words.Loop) y)
      (λ _ _. refl) s r g))
      (λ x s r g. at_placed (λ o. is_word words.While o ≡ true) (kinds.Word words.While) x.0 (λ _ _. refl) s r g)
      (λ y s r g st. no_while y s r g))
      turns_free iteration_to (λ y ts g. iteration_back_of y.0 y.1 ts g)

  loop_back : (y : StmtTree) (ts : Tokens) → LoopParts y l ts
      → (x : (ℕ × IterationTree) × StmtTrees) × (iteration l x.0.0 x.0.1 ⨾ stmts x.1 l ⨾ word words.End ⨾ word words.Loop ⨾ mark marks.Semicolon) ts
      × (Loop x.0.0 x.0.1 x.1 ≡ y)
  loop_back (Loop place turns body) ts g = (((place, turns), body), g, refl)
  loop_back y ts g = absurd g

  pub loop_exact : Exact (loop_at r) (λ y. LoopParts y l) Free
  loop_exact =
      let close = past_exact end_word refl (past_exact (kinds.Word words.Loop) refl (exact_skipped semicolon refl)) in
      free_mapped (λ x. Loop x.0.0 x.0.1 x.1) (λ y. LoopParts y l)
      (free_then iteration_exact (ended_exact es close (λ x v r g. at_past AllStop end_word (λ _ _. refl) v r g))) (λ x o. tt) (λ x ts g. g) loop_back

  -- ---- blocks

  abbrev pub BlockStart : Either (ℕ × List DeclarationTree) ℕ → Tokens → Type 0
  BlockStart = EitherSpells (λ x. word_at words.Declare x.0 ⨾ each (declaration l) x.1 ⨾ word words.Begin) (word_at words.Begin)

  block_start_to_of : (place : ℕ) (all : List DeclarationTree) (ts : Tokens) → (word_at words.Declare place ⨾ each (declaration l) all ⨾ word words.Begin) ts
      → block_declarations l place all ts
  block_start_to_of place [] ts g = inr (g.0, g.1, g.2, g.3, without (word words.Begin) g.1 g.4)
  block_start_to_of place (d ∷ rest) ts g = g

  block_start_to : (x : Either (ℕ × List DeclarationTree) ℕ) (ts : Tokens) → BlockStart x ts → block_declarations l (block_start_of x).0 (block_start_of x).1 ts
  block_start_to (Left x) ts g = block_start_to_of x.0 x.1 ts g
  block_start_to (Right place) ts g = inl g

  block_start_back : (place : ℕ) (all : List DeclarationTree) (ts : Tokens) → block_declarations l place all ts
      → (x : Either (ℕ × List DeclarationTree) ℕ) × BlockStart x ts × (block_start_of x ≡ (place, all))
  block_start_back place [] ts (inl g) = (Right place, g, refl)
  block_start_back place [] ts (inr g) = (Left (place, []), (g.0, g.1, g.2, g.3, ([], g.1, refl, refl, g.4)), refl)
  block_start_back place (d ∷ rest) ts g = (Left (place, d ∷ rest), g, refl)

  block_start_free : (x : Either (ℕ × List DeclarationTree) ℕ) (o : Option Token) → EitherStops {A = ℕ × List DeclarationTree} {B = ℕ} Free Free x o
  block_start_free (Left x) o = tt
  block_start_free (Right x) o = tt

  pub block_start_exact : Exact (block_start_at r.levels) (λ y. block_declarations l y.0 y.1) Free
  block_start_exact =
      free_mapped block_start_of (λ y. block_declarations l y.0 y.1)
      (either_exact (is_word words.Declare)
      (placed_exact (kinds.Word words.Declare) refl (ended_exact (declarations_exact r.levels) (exact_skipped (kinds.Word words.Begin) refl)
      (λ x v r g. at_token (ManyStops begins_declaration Any x) (kinds.Word words.Begin) (λ s e. many_stop begins_declaration Any _ refl tt x) v r g)))
      (exact_token (kinds.Word words.Begin) refl)
      (λ x s r g. at_placed (λ o. is_word words.Declare o ≡ true) (kinds.Word words.Declare) x.0 (λ _ _. refl) s r g)
      (λ y s r g st. at_head (λ o. is_word words.Declare o ≡ false) (kinds.Word words.Begin) (word_at words.Begin y) (heads_placed (kinds.Word words.Begin) y)
      (λ _ _. refl) s r g))
      block_start_free block_start_to (λ y ts g. block_start_back y.0 y.1 ts g)

  block_back : (y : StmtTree) (ts : Tokens) → BlockParts y l ts
      → (x : (ℕ × List DeclarationTree) × (StmtTrees × HandlerTrees))
      × (block_declarations l x.0.0 x.0.1 ⨾ stmts x.1.0 l ⨾ handlers x.1.1 l ⨾ word words.End ⨾ mark marks.Semicolon) ts
      × (Block x.0.0 x.0.1 x.1.0 x.1.1 ≡ y)
  block_back (Block place declarations body all) ts g = (((place, declarations), (body, all)), g, refl)
  block_back y ts g = absurd g

  pub block_exact : Exact (block_at r) (λ y. BlockParts y l) Free
  block_exact =
      let close = past_exact end_word refl (exact_skipped semicolon refl) in
      let from_handlers =
      ended_exact (handlers_exact r.levels r.statements es) close
      (λ x v s g. at_past (HandlersStop r.levels r.statements es x) end_word (handlers_end r.levels r.statements es x) v s g) in
      let from_statements = then_exact es from_handlers (λ x y v s g st. before_handlers r.levels r.statements es y v s g) in
      free_mapped (λ x. Block x.0.0 x.0.1 x.1.0 x.1.1) (λ y. BlockParts y l) (free_then block_start_exact from_statements) (λ x o. tt) (λ x ts g. g) block_back
