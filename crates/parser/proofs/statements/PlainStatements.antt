-- Statements without statements in them are read exactly.
use Rattle.lexer.specs.declared.token.TokenKind.TheVariants as kinds
use Rattle.lexer.specs.declared.word.Word.TheVariants as words
use Rattle.lexer.specs.declared.delimiter.Delimiter.TheVariants as marks
use Rattle.ada_tree.specs.declared.expression.UnaryOperator.TheVariants as unary
use Rattle.std.proofs.Common.{◌≡◌, ℕ, Bool, true, false, [], ◌++◌, Option, Some, None, refl, sym, ap, subst, ◌∙◌}
use Rattle.lexer.specs.declared.token.Token.{Token}
use Rattle.lexer.specs.declared.token.TokenKind.{TokenKind}
use Rattle.lexer.specs.declared.word.Word.{Word}
use Rattle.ada_tree.specs.declared.expression.Identifier.{Identifier}
use Rattle.ada_tree.specs.ExpressionTree.{ExprTree, NameTree}
use Rattle.ada_tree.specs.StatementTree.{StmtTree, Null, Assignment, Call, Exit, Return, Raise, Delay, DelayUntil, If, Case, Loop, Block, Abort, Requeue}
use Rattle.ada_tree.specs.StatementTree.{Accept, Select}
use Rattle.ada_tree.specs.Language.{Tokens, nothing, ◌⨾◌, word, word_at, mark, identifier, optional}
use Rattle.ada_tree.specs.ExpressionGrammar.{expression, spells_name}
use Rattle.ada_tree.specs.StatementGrammar.{initial, component, selected, stmt}
use Rattle.parser.specs.Reading.{first, is_word, is_mark}
use Rattle.parser.specs.MoreReading.{Either, Left, Right, either, is_identifier, is_not, past_word}
use Rattle.parser.specs.StatementReading.{null_at, named_of, named_at, exit_at, value_part, return_at, raise_at, delay_of, delay_at, abort_at, component_part}
use Rattle.parser.specs.StatementReading.{requeue_at, accept_at, select_at}
use Rattle.parser.proofs.general.Exact.{Exact, Free}
use Rattle.parser.proofs.general.Several.{exact_token, exact_skipped, exact_identifier}
use Rattle.parser.proofs.general.MoreExact.{heads_identifier, perhaps_stop, PerhapsStops, EitherSpells, EitherStops, at_head, at_token, at_past, at_both}
use Rattle.parser.proofs.general.MoreExact.{regroup, group, then_exact, placed_exact, named_exact, past_exact, ended_exact, free_ended, free_mapped}
use Rattle.parser.proofs.general.MoreExact.{perhaps_exact, either_exact}
use Rattle.parser.proofs.expressions.Followers.{ExpressionStops, NameStops}
use Rattle.parser.proofs.expressions.Levelled.{exact_expression, exact_name_at}
use Rattle.parser.specs.ExpressionReading.{expression_at}
use Rattle.parser.proofs.declarations.Declarations.{semicolon_stops, InitialStops, initial_exact, initial_ends}
use Rattle.parser.proofs.general.Heads.{at_made}
use Rattle.parser.proofs.statements.Selected.{selected_exact}

abbrev pub semicolon : TokenKind
semicolon = kinds.Delimiter marks.Semicolon

-- ---- kinds of statements

pub data Class : Type 0 where
  Nulls Names Exits Returns Raises Delays Ifs Cases Loops Blocks Aborts Requeues Accepts Selects : Class

abbrev pub class_of : StmtTree → Class
class_of (Null place) = Nulls
class_of (Assignment target value) = Names
class_of (Call name) = Names
class_of (Exit place condition) = Exits
class_of (Return place value) = Returns
class_of (Raise place name) = Raises
class_of (Delay place value) = Delays
class_of (DelayUntil place value) = Delays
class_of (If place condition then_part elsif_parts else_part) = Ifs
class_of (Case place value all) = Cases
class_of (Loop place turns body) = Loops
class_of (Block place declarations body all) = Blocks
class_of (Abort place name) = Aborts
class_of (Requeue place first second) = Requeues
class_of (Accept place name) = Accepts
class_of (Select place) = Selects

abbrev pub class_at : Option Word → Class
class_at (Some words.Null) = Nulls
class_at (Some words.Exit) = Exits
class_at (Some words.Return) = Returns
class_at (Some words.Raise) = Raises
class_at (Some words.Delay) = Delays
class_at (Some words.If) = Ifs
class_at (Some words.Case) = Cases
class_at (Some words.Loop) = Loops
class_at (Some words.While) = Loops
class_at (Some words.For) = Loops
class_at (Some words.Begin) = Blocks
class_at (Some words.Declare) = Blocks
class_at (Some words.Abort) = Aborts
class_at (Some words.Requeue) = Requeues
class_at (Some words.Accept) = Accepts
class_at (Some words.Select) = Selects
class_at w = Names

-- the statements of one kind
abbrev pub Of : Class → ℕ → StmtTree → Tokens → Type 0
Of c k y s = (class_of y ≡ c) × stmt y (Some k) s

-- ---- statements without statements in them

null_back : (k : ℕ) (y : StmtTree) (ts : Tokens) → Of Nulls k y ts → (x : ℕ) × (word_at words.Null x ⨾ mark marks.Semicolon) ts × (Null x ≡ y)
null_back k (Null place) ts g = (place, g.1, refl)
null_back k y ts g = absurd cc

pub null_exact : (k : ℕ) → Exact null_at (Of Nulls k) Free
null_exact k =
    free_mapped Null (Of Nulls k) (free_ended (exact_token (kinds.Word words.Null) refl) (exact_skipped semicolon refl)) (λ x o. tt) (λ x ts g. (refl, g))
    (null_back k)

abbrev pub NamedParts : ℕ → NameTree × Option ExprTree → Tokens → Type 0
NamedParts k x = spells_name (Some k) x.0 ⨾ optional (initial (Some k)) x.1 ⨾ mark marks.Semicolon

-- nothing, and then these
pub without : (P : Tokens → Type 0) (s : Tokens) → (nothing ⨾ P) s → P s
without P s g = subst P (sym (g.2 ∙ ap (λ (z : Tokens). z ++ g.1) g.3)) g.4

named_to : (k : ℕ) (n : NameTree) (v : Option ExprTree) (ts : Tokens) → NamedParts k (n, v) ts → Of Names k (named_of n v) ts
named_to k n None ts g = (refl, (g.0, g.1, g.2, g.3, without (mark marks.Semicolon) g.1 g.4))
named_to k n (Some v) ts g = (refl, (g.0, g.1, g.2, g.3, regroup (mark marks.Assignment) (expression (Some k) v) (mark marks.Semicolon) g.1 g.4))

named_back : (k : ℕ) (y : StmtTree) (ts : Tokens) → Of Names k y ts → (x : NameTree × Option ExprTree) × NamedParts k x ts × (named_of x.0 x.1 ≡ y)
named_back k (Assignment n v) ts g =
    ((n, Some v), (g.1.0, g.1.1, g.1.2, g.1.3, group (mark marks.Assignment) (expression (Some k) v) (mark marks.Semicolon) g.1.1 g.1.4), refl)
named_back k (Call n) ts g = ((n, None), (g.1.0, g.1.1, g.1.2, g.1.3, ([], g.1.1, refl, refl, g.1.4)), refl)
named_back k y ts g = absurd cc

name_assigned : (s e : ℕ) → NameStops (Some (record { kind = kinds.Delimiter marks.Assignment; start = s; end_ = e }))
name_assigned s e = refl

name_ended : (s e : ℕ) → NameStops (Some (record { kind = semicolon; start = s; end_ = e }))
name_ended s e = refl

after_name : (k : ℕ) (v : Option ExprTree) (s r : Tokens) → (optional (initial (Some k)) v ⨾ mark marks.Semicolon) s → NameStops (first (s ++ r))
after_name k None s r g = at_token NameStops semicolon name_ended s r (without (mark marks.Semicolon) s g)
after_name k (Some v) s r g =
    at_both NameStops (initial (Some k) v) (mark marks.Semicolon) s r g
    (λ t u h i. at_past NameStops (kinds.Delimiter marks.Assignment) name_assigned t (u ++ r) h)

pub named_statement : (k : ℕ) → Exact (named_at k) (Of Names k) Free
named_statement k =
    free_mapped (λ x. named_of x.0 x.1) (Of Names k)
    (then_exact (exact_name_at k)
    (ended_exact (initial_exact k) (exact_skipped semicolon refl) (λ x v r g. at_token (InitialStops x) semicolon (initial_ends x) v r g))
    (λ x y v r g st. after_name k y v r g))
    (λ x o. tt) (λ x ts g. named_to k x.0 x.1 ts g) (named_back k)

exit_back : (k : ℕ) (y : StmtTree) (ts : Tokens) → Of Exits k y ts
    → (x : ℕ × Option ExprTree) × (word_at words.Exit x.0 ⨾ optional (λ e. word words.When ⨾ expression (Some k) e) x.1 ⨾ mark marks.Semicolon) ts
    × (Exit x.0 x.1 ≡ y)
exit_back k (Exit place condition) ts g = ((place, condition), g.1, refl)
exit_back k y ts g = absurd cc

abbrev pub WhenStops : Option ExprTree → Option Token → Type 0
WhenStops = PerhapsStops (is_word words.When) (λ _. ExpressionStops)

pub exit_exact : (k : ℕ) → Exact (exit_at k) (Of Exits k) Free
exit_exact k =
    free_mapped (λ x. Exit x.0 x.1) (Of Exits k)
    (placed_exact (kinds.Word words.Exit) refl (ended_exact
    (perhaps_exact (is_word words.When) (past_exact (kinds.Word words.When) refl (exact_expression k))
    (λ x s r g. at_past (λ o. is_word words.When o ≡ true) (kinds.Word words.When) (λ _ _. refl) s r g))
    (exact_skipped semicolon refl)
    (λ x v r g. at_token (WhenStops x) semicolon (λ s e. perhaps_stop (is_word words.When) (λ _. ExpressionStops) _ refl (λ _. semicolon_stops s e) x) v r g)))
    (λ x o. tt) (λ x ts g. (refl, g)) (exit_back k)

return_back : (k : ℕ) (y : StmtTree) (ts : Tokens) → Of Returns k y ts
    → (x : ℕ × Option ExprTree) × (word_at words.Return x.0 ⨾ optional (expression (Some k)) x.1 ⨾ mark marks.Semicolon) ts × (Return x.0 x.1 ≡ y)
return_back k (Return place value) ts g = ((place, value), g.1, refl)
return_back k y ts g = absurd cc

abbrev pub no_semicolon : Option Token → Bool
no_semicolon = is_not (is_mark marks.Semicolon)

abbrev pub ReturnStops : Option ExprTree → Option Token → Type 0
ReturnStops = PerhapsStops no_semicolon (λ _. ExpressionStops)

pub value_exact : (k : ℕ) → Exact (value_part k) (optional (expression (Some k))) ReturnStops
value_exact k =
    perhaps_exact no_semicolon (exact_expression k)
    (λ x s r g. at_made (λ o. no_semicolon o ≡ true)
    (record {
      number = λ _ _ _. refl;
      name = λ _ _ _. refl;
      parenthesis = λ _ _. refl;
      sign =
          elim [ unary.Plus ↦ λ _ _. refl | unary.Minus ↦ λ _ _. refl | unary.Abs ↦ λ _ _. refl | unary.Not ↦ λ _ _. refl ];
    })
    x (Some k) s r g.1)

pub return_exact : (k : ℕ) → Exact (return_at k) (Of Returns k) Free
return_exact k =
    free_mapped (λ x. Return x.0 x.1) (Of Returns k)
    (placed_exact (kinds.Word words.Return) refl (ended_exact
    (value_exact k)
    (exact_skipped semicolon refl)
    (λ x v r g. at_token (ReturnStops x) semicolon (λ s e. perhaps_stop no_semicolon (λ _. ExpressionStops) _ refl (λ _. semicolon_stops s e) x) v r g)))
    (λ x o. tt) (λ x ts g. (refl, g)) (return_back k)

raise_back : (k : ℕ) (y : StmtTree) (ts : Tokens) → Of Raises k y ts
    → (x : ℕ × Option Identifier) × (word_at words.Raise x.0 ⨾ optional identifier x.1 ⨾ mark marks.Semicolon) ts × (Raise x.0 x.1 ≡ y)
raise_back k (Raise place name) ts g = ((place, name), g.1, refl)
raise_back k y ts g = absurd cc

pub name_first : (X : Option Token → Type 0) (i : Identifier) → ((s e : ℕ) → X (Some (record { kind = kinds.Identifier i.name; start = s; end_ = e })))
    → (s r : Tokens) → identifier i s → X (first (s ++ r))
name_first X i x s r g = at_head X (kinds.Identifier i.name) (identifier i) (heads_identifier i) x s r g

pub raise_exact : (k : ℕ) → Exact raise_at (Of Raises k) Free
raise_exact k =
    free_mapped (λ x. Raise x.0 x.1) (Of Raises k)
    (placed_exact (kinds.Word words.Raise) refl (ended_exact
    (perhaps_exact is_identifier exact_identifier (λ x s r g. name_first (λ o. is_identifier o ≡ true) x (λ _ _. refl) s r g))
    (exact_skipped semicolon refl)
    (λ x v r g. at_token (PerhapsStops is_identifier Free x) semicolon (λ s e. perhaps_stop is_identifier Free _ refl (λ _. tt) x) v r g)))
    (λ x o. tt) (λ x ts g. (refl, g)) (raise_back k)

abbrev pub DelayParts : ℕ → ℕ × Either ExprTree ExprTree → Tokens → Type 0
DelayParts k x = word_at words.Delay x.0 ⨾ EitherSpells (λ e. word words.Until ⨾ expression (Some k) e) (expression (Some k)) x.1 ⨾ mark marks.Semicolon

delay_to : (k place : ℕ) (v : Either ExprTree ExprTree) (ts : Tokens) → DelayParts k (place, v) ts → Of Delays k (delay_of place v) ts
delay_to k place (Left v) ts g = (refl, (g.0, g.1, g.2, g.3, regroup (word words.Until) (expression (Some k) v) (mark marks.Semicolon) g.1 g.4))
delay_to k place (Right v) ts g = (refl, g)

delay_back : (k : ℕ) (y : StmtTree) (ts : Tokens) → Of Delays k y ts → (x : ℕ × Either ExprTree ExprTree) × DelayParts k x ts × (delay_of x.0 x.1 ≡ y)
delay_back k (Delay place v) ts g = ((place, Right v), g.1, refl)
delay_back k (DelayUntil place v) ts g =
    ((place, Left v), (g.1.0, g.1.1, g.1.2, g.1.3, group (word words.Until) (expression (Some k) v) (mark marks.Semicolon) g.1.1 g.1.4), refl)
delay_back k y ts g = absurd cc

pub delay_ends : (x : Either ExprTree ExprTree) (s e : ℕ)
    → EitherStops (λ _. ExpressionStops) (λ _. ExpressionStops) x (Some (record { kind = semicolon; start = s; end_ = e }))
delay_ends (Left x) s e = semicolon_stops s e
delay_ends (Right x) s e = semicolon_stops s e

pub time_exact : (k : ℕ)
    → Exact (either (is_word words.Until) (past_word words.Until (expression_at k)) (expression_at k))
    (EitherSpells (λ e. word words.Until ⨾ expression (Some k) e) (expression (Some k))) (EitherStops (λ _. ExpressionStops) (λ _. ExpressionStops))
time_exact k =
    either_exact (is_word words.Until) (past_exact (kinds.Word words.Until) refl (exact_expression k)) (exact_expression k)
    (λ x s r g. at_past (λ o. is_word words.Until o ≡ true) (kinds.Word words.Until) (λ _ _. refl) s r g)
    (λ y s r g st. at_made (λ o. is_word words.Until o ≡ false)
    (record {
      number = λ _ _ _. refl;
      name = λ _ _ _. refl;
      parenthesis = λ _ _. refl;
      sign =
          elim [ unary.Plus ↦ λ _ _. refl | unary.Minus ↦ λ _ _. refl | unary.Abs ↦ λ _ _. refl | unary.Not ↦ λ _ _. refl ];
    })
    y (Some k) s r g.1)

pub delay_exact : (k : ℕ) → Exact (delay_at k) (Of Delays k) Free
delay_exact k =
    free_mapped (λ x. delay_of x.0 x.1) (Of Delays k)
    (placed_exact (kinds.Word words.Delay) refl (ended_exact
    (time_exact k)
    (exact_skipped semicolon refl)
    (λ x v r g. at_token (EitherStops (λ _. ExpressionStops) (λ _. ExpressionStops) x) semicolon (delay_ends x) v r g)))
    (λ x o. tt) (λ x ts g. delay_to k x.0 x.1 ts g) (delay_back k)

abort_back : (k : ℕ) (y : StmtTree) (ts : Tokens) → Of Aborts k y ts
    → (x : ℕ × Identifier) × (word_at words.Abort x.0 ⨾ identifier x.1 ⨾ mark marks.Semicolon) ts × (Abort x.0 x.1 ≡ y)
abort_back k (Abort place name) ts g = ((place, name), g.1, refl)
abort_back k y ts g = absurd cc

pub abort_exact : (k : ℕ) → Exact abort_at (Of Aborts k) Free
abort_exact k =
    free_mapped (λ x. Abort x.0 x.1) (Of Aborts k) (placed_exact (kinds.Word words.Abort) refl (free_ended exact_identifier (exact_skipped semicolon refl)))
    (λ x o. tt) (λ x ts g. (refl, g)) (abort_back k)

abbrev pub ComponentStops : Option Identifier → Option Token → Type 0
ComponentStops = PerhapsStops (is_mark marks.Dot) Free

pub component_exact : Exact component_part (optional component) ComponentStops
component_exact =
    perhaps_exact (is_mark marks.Dot) (past_exact (kinds.Delimiter marks.Dot) refl exact_identifier)
    (λ x s r g. at_past (λ o. is_mark marks.Dot o ≡ true) (kinds.Delimiter marks.Dot) (λ _ _. refl) s r g)

requeue_back : (k : ℕ) (y : StmtTree) (ts : Tokens) → Of Requeues k y ts
    → (x : ℕ × (Identifier × Option Identifier)) × (word_at words.Requeue x.0 ⨾ identifier x.1.0 ⨾ optional component x.1.1 ⨾ mark marks.Semicolon) ts
    × (Requeue x.0 x.1.0 x.1.1 ≡ y)
requeue_back k (Requeue place name second) ts g = ((place, (name, second)), g.1, refl)
requeue_back k y ts g = absurd cc

pub component_ends : (x : Option Identifier) (s e : ℕ) → ComponentStops x (Some (record { kind = semicolon; start = s; end_ = e }))
component_ends None s e = refl
component_ends (Some x) s e = tt

pub requeue_exact : (k : ℕ) → Exact requeue_at (Of Requeues k) Free
requeue_exact k =
    free_mapped (λ x. Requeue x.0 x.1.0 x.1.1) (Of Requeues k)
    (placed_exact (kinds.Word words.Requeue) refl
    (named_exact (ended_exact component_exact (exact_skipped semicolon refl) (λ x v r g. at_token (ComponentStops x) semicolon (component_ends x) v r g))))
    (λ x o. tt) (λ x ts g. (refl, g)) (requeue_back k)

accept_back : (k : ℕ) (y : StmtTree) (ts : Tokens) → Of Accepts k y ts
    → (x : ℕ × Identifier) × (word_at words.Accept x.0 ⨾ identifier x.1 ⨾ mark marks.Semicolon) ts × (Accept x.0 x.1 ≡ y)
accept_back k (Accept place name) ts g = ((place, name), g.1, refl)
accept_back k y ts g = absurd cc

pub accept_exact : (k : ℕ) → Exact accept_at (Of Accepts k) Free
accept_exact k =
    free_mapped (λ x. Accept x.0 x.1) (Of Accepts k) (placed_exact (kinds.Word words.Accept) refl (free_ended exact_identifier (exact_skipped semicolon refl)))
    (λ x o. tt) (λ x ts g. (refl, g)) (accept_back k)

abbrev pub SelectParts : ℕ → Tokens → Type 0
SelectParts x = word_at words.Select x ⨾ (selected ⨾ word words.End ⨾ word words.Select) ⨾ mark marks.Semicolon

abbrev pub End_select : Tokens → Type 0
End_select = word words.End ⨾ word words.Select

select_to : (k x : ℕ) (ts : Tokens) → SelectParts x ts → Of Selects k (Select x) ts
select_to k x ts g =
    let h = regroup selected End_select (mark marks.Semicolon) g.1 g.4 in
    (refl, (g.0, g.1, g.2, g.3, (h.0, h.1, h.2, h.3, regroup (word words.End) (word words.Select) (mark marks.Semicolon) h.1 h.4)))

select_back : (k : ℕ) (y : StmtTree) (ts : Tokens) → Of Selects k y ts → (x : ℕ) × SelectParts x ts × (Select x ≡ y)
select_back k (Select place) ts g =
    let h = g.1.4 in
    let i = group (word words.End) (word words.Select) (mark marks.Semicolon) h.1 h.4 in
    (place, (g.1.0, g.1.1, g.1.2, g.1.3, group selected End_select (mark marks.Semicolon) g.1.1 (h.0, h.1, h.2, h.3, i)), refl)
select_back k y ts g = absurd cc

pub select_exact : (k : ℕ) → Exact select_at (Of Selects k) Free
select_exact k =
    free_mapped Select (Of Selects k) (free_ended (exact_token (kinds.Word words.Select) refl) (free_ended selected_exact (exact_skipped semicolon refl)))
    (λ x o. tt) (select_to k) (select_back k)
