-- Primaries are read exactly, given that expressions are one level down.
use Rattle.lexer.specs.declared.token.TokenKind.TheVariants as kinds
use Rattle.lexer.specs.declared.word.Word.TheVariants as words
use Rattle.lexer.specs.declared.delimiter.Delimiter.TheVariants as marks
use Rattle.ada_tree.specs.declared.expression.UnaryOperator.TheVariants as unary
use Rattle.ada_tree.specs.declared.expression.BinaryOperator.TheVariants as binary
use Rattle.std.proofs.Common.{◌≡◌, ℕ, zero, suc, true, false, List, [], ◌∷◌, ◌++◌, Option, Some, refl, sym, ap, subst, ◌∙◌, inl, inr, ◌⊎◌}
use Rattle.lexer.specs.declared.token.Token.{Token}
use Rattle.ada_tree.specs.declared.expression.UnaryOperator.{UnaryOperator}
use Rattle.ada_tree.specs.declared.expression.BinaryOperator.{BinaryOperator}
use Rattle.ada_tree.specs.ExpressionTree.{ExprTree, Number, Named, Parenthesized, Conditional, Unary, Binary, ElsifValueTrees, NoElsifValues, MoreElsifValues}
use Rattle.ada_tree.specs.ExpressionTree.{elsif_values_of}
use Rattle.ada_tree.specs.Language.{Tokens, ◌⨾◌, word, mark, mark_at, each, Limit, inside}
use Rattle.ada_tree.specs.ExpressionGrammar.{Primary, Expression, production, unary_production, stands_for, spells_elsif_values, derives}
use Rattle.parser.specs.Reading.{first, is_kind, is_next, is_word, is_mark, entry_of, mark_of, skip_word, skip_mark, seq, mapped, choose, closed, opened}
use Rattle.parser.specs.ExpressionReading.{number, is_number, ExpressionReaders, starts_selector, begins_selector, elsif_value_in, elsif_values_in, conditional_in}
use Rattle.parser.specs.ExpressionReading.{enclosed_in, parenthesis_in, named_in, open_primary_in, primary_in}
use Rattle.parser.proofs.general.Exact.{Exact, Free, Both, exact_seq, exact_after, exact_mapped, exact_told, exact_either, exact_choose, exact_closed, Closed}
use Rattle.parser.proofs.general.Exact.{no_such}
use Rattle.parser.proofs.general.Several.{ManyStops, many_stop, exact_many, exact_token, exact_skipped, Below, exact_opened, first_then, first_token}
use Rattle.parser.proofs.general.Several.{first_token_at, first_of, first_of_at, first_inside, kind_ends, Ends}
use Rattle.parser.proofs.expressions.Expressions.{continues_expression, starts, first_made, branches, ExpressionStops, Exacts, numeral, exact_numeral, as_name}
use Rattle.parser.proofs.expressions.Expressions.{exact_named}

-- ---- the parts of if expressions

abbrev pub elsif_with : ℕ → ExprTree × ExprTree → Tokens → Type 0
elsif_with n x = word words.Elsif ⨾ derives Expression (Some n) x.0 ⨾ word words.Then ⨾ derives Expression (Some n) x.1

pub exact_elsif_value : (n : ℕ) (r : ExpressionReaders) → Exacts n r → Exact (elsif_value_in r) (elsif_with n) (λ _. Ends continues_expression)
exact_elsif_value n r h =
    let value =
    exact_seq (skip_word words.Then) r.expression (λ _. word words.Then) (derives Expression (Some n)) Free ExpressionStops (λ x. Ends continues_expression)
    (exact_skipped (kinds.Word words.Then) refl) h.0 (λ x y v r g st. (tt, st)) (λ x y v r g st t. t) in
    let tested =
    exact_seq r.expression (seq (skip_word words.Then) r.expression) (derives Expression (Some n)) _ ExpressionStops (λ x. Ends continues_expression)
    (λ x. Ends continues_expression) h.0 value
    (λ x y v r g st. (first_of continues_expression (kinds.Word words.Then) _ v r g, st)) (λ x y v r g st t. t) in
    exact_mapped (λ x. (x.1.0, x.1.1.1)) (seq (skip_word words.Elsif) (seq r.expression (seq (skip_word words.Then) r.expression))) _ (elsif_with n)
    (λ x. Ends continues_expression) (λ _. Ends continues_expression)
    (exact_seq (skip_word words.Elsif) (seq r.expression (seq (skip_word words.Then) r.expression)) (λ _. word words.Elsif) _ Free
    (λ x. Ends continues_expression) (λ x. Ends continues_expression) (exact_skipped (kinds.Word words.Elsif) refl) tested
    (λ x y v r g st. (tt, st)) (λ x y v r g st t. t))
    (λ x ts g. g) (λ y ts g. ((tt, (y.0, (tt, y.1))), g, refl)) (λ x ts o g st. st) (λ x ts o g st. st)

pub elsif_first : (n : ℕ) (x : ExprTree × ExprTree) (s r : Tokens) → elsif_with n x s → is_word words.Elsif (first (s ++ r)) ≡ true
elsif_first n x s r g = first_of (is_kind (kinds.Word words.Elsif)) (kinds.Word words.Elsif) _ s r g

pub exact_elsif_values : (n : ℕ) (r : ExpressionReaders) → Exacts n r
    → Exact (elsif_values_in r) (each (elsif_with n)) (ManyStops (is_word words.Elsif) (Ends continues_expression))
exact_elsif_values n r h =
    exact_many (is_word words.Elsif) (elsif_value_in r) (elsif_with n) (Ends continues_expression) (exact_elsif_value n r h) (elsif_first n)
    (λ o h. kind_ends (kinds.Word words.Elsif) continues_expression o refl h) refl

elsifs_to : (n : ℕ) (xs : List (ExprTree × ExprTree)) (ts : Tokens) → each (elsif_with n) xs ts → spells_elsif_values (elsif_values_of xs) (Some n) ts
elsifs_to n [] ts g = g
elsifs_to n (x ∷ xs) ts g = (g.0, g.1, g.2, g.3, elsifs_to n xs g.1 g.4)

elsifs_back : (n : ℕ) (all : ElsifValueTrees) (ts : Tokens) → spells_elsif_values all (Some n) ts
    → (xs : List (ExprTree × ExprTree)) × each (elsif_with n) xs ts × (elsif_values_of xs ≡ all)
elsifs_back n NoElsifValues ts g = ([], g, refl)
elsifs_back n (MoreElsifValues condition value rest) ts g = let h = elsifs_back n rest g.1 g.4 in
    ((condition, value) ∷ h.0, (g.0, g.1, g.2, g.3, h.1), ap (MoreElsifValues condition value) h.2)

-- what comes behind the first value
value_ends : (n : ℕ) (xs : List (ExprTree × ExprTree)) (Q : Tokens → Type 0) (v r : Tokens) → (each (elsif_with n) xs ⨾ (word words.Else ⨾ Q)) v
    → Ends continues_expression (first (v ++ r))
value_ends n [] Q v r g =
    let same : v ≡ g.1 = g.2 ∙ ap (λ (z : Tokens). z ++ g.1) g.3 in
    ap (λ (z : Tokens). is_next continues_expression (first (z ++ r))) same ∙ first_of continues_expression (kinds.Word words.Else) Q g.1 r g.4
value_ends n (x ∷ xs) Q v r g =
    first_then continues_expression false (each (elsif_with n) (x ∷ xs)) (word words.Else ⨾ Q) v r
    (λ u r h. first_then continues_expression false (elsif_with n x) (each (elsif_with n) xs) u r
    (λ u r h. first_of continues_expression (kinds.Word words.Elsif) _ u r h) h) g

abbrev Parts : Type 0
Parts = Unit {0} × (ExprTree × (Unit {0} × (ExprTree × (List (ExprTree × ExprTree) × (Unit {0} × ExprTree)))))

abbrev conditional_parts : ℕ → Parts → Tokens → Type 0
conditional_parts n x =
    word words.If ⨾ derives Expression (Some n) x.1.0 ⨾ word words.Then ⨾ derives Expression (Some n) x.1.1.1.0 ⨾ each (elsif_with n) x.1.1.1.1.0 ⨾ word
    words.Else ⨾ derives Expression (Some n) x.1.1.1.1.1.1

abbrev conditional_by : ℕ → Parts → ExprTree
conditional_by place x = Conditional place x.1.0 x.1.1.1.0 (elsif_values_of x.1.1.1.1.0) x.1.1.1.1.1.1

conditional_to : (place n : ℕ) (x : Parts) (ts : Tokens) → conditional_parts n x ts → branches place (conditional_by place x) (Some n) ts
conditional_to place n x ts g =
    let b = g.4 in
    let c = b.4 in
    let d = c.4 in
    let e = d.4 in
    (refl, (g.0, g.1, g.2, g.3, (b.0, b.1, b.2, b.3, (c.0, c.1, c.2, c.3, (d.0, d.1, d.2, d.3, (e.0, e.1, e.2, elsifs_to n x.1.1.1.1.0 e.0 e.3, e.4))))))

conditional_back : (place n : ℕ) (y : ExprTree) (ts : Tokens) → branches place y (Some n) ts
    → (x : Parts) × conditional_parts n x ts × (conditional_by place x ≡ y)
conditional_back place n (Conditional here condition value others else_value) ts f =
    let g = f.1 in
    let b = g.4 in
    let c = b.4 in
    let d = c.4 in
    let e = d.4 in
    let h = elsifs_back n others e.0 e.3 in (
      (tt, (condition, (tt, (value, (h.0, (tt, else_value)))))),
      (g.0, g.1, g.2, g.3, (b.0, b.1, b.2, b.3, (c.0, c.1, c.2, c.3, (d.0, d.1, d.2, d.3, (e.0, e.1, e.2, h.1, e.4))))),
      ap (λ (z : ElsifValueTrees). Conditional place condition value z else_value) h.2
          ∙ ap (λ (z : ℕ). Conditional z condition value others else_value) (sym f.0),
    )
conditional_back place n y ts f = absurd f

pub exact_conditional : (place n : ℕ) (r : ExpressionReaders) → Exacts n r → Exact (conditional_in place r) (λ e. branches place e (Some n)) ExpressionStops
exact_conditional place n r h =
    let other =
    exact_seq (skip_word words.Else) r.expression (λ _. word words.Else) (derives Expression (Some n)) Free ExpressionStops (λ x. Ends continues_expression)
    (exact_skipped (kinds.Word words.Else) refl) h.0 (λ x y v r g st. (tt, st)) (λ x y v r g st t. t) in
    let others =
    exact_seq (elsif_values_in r) (seq (skip_word words.Else) r.expression) (each (elsif_with n)) _
    (ManyStops (is_word words.Elsif) (Ends continues_expression)) (λ x. Ends continues_expression) (λ x. Ends continues_expression)
    (exact_elsif_values n r h) other
    (λ x y v r g st. (
      many_stop (is_word words.Elsif) (Ends continues_expression) x (first (v ++ r))
          (first_of (is_kind (kinds.Word words.Elsif)) (kinds.Word words.Else) _ v r g) (first_of continues_expression (kinds.Word words.Else) _ v r g),
      st,
    ))
    (λ x y v r g st t. t) in
    let value =
    exact_seq r.expression (seq (elsif_values_in r) (seq (skip_word words.Else) r.expression)) (derives Expression (Some n)) _ ExpressionStops
    (λ x. Ends continues_expression) (λ x. Ends continues_expression) h.0 others
    (λ x y v r g st. (value_ends n y.0 (derives Expression (Some n) y.1.1) v r g, st)) (λ x y v r g st t. t) in
    let from_then =
    exact_seq (skip_word words.Then) (seq r.expression (seq (elsif_values_in r) (seq (skip_word words.Else) r.expression))) (λ _. word words.Then) _ Free
    (λ x. Ends continues_expression) (λ x. Ends continues_expression) (exact_skipped (kinds.Word words.Then) refl) value (λ x y v r g st. (tt, st))
    (λ x y v r g st t. t) in
    let test =
    exact_seq r.expression (seq (skip_word words.Then) (seq r.expression (seq (elsif_values_in r) (seq (skip_word words.Else) r.expression))))
    (derives Expression (Some n)) _ ExpressionStops (λ x. Ends continues_expression) (λ x. Ends continues_expression) h.0 from_then
    (λ x y v r g st. (first_of continues_expression (kinds.Word words.Then) _ v r g, st)) (λ x y v r g st t. t) in
    let all =
    exact_seq (skip_word words.If)
    (seq r.expression (seq (skip_word words.Then) (seq r.expression (seq (elsif_values_in r) (seq (skip_word words.Else) r.expression)))))
    (λ _. word words.If) _ Free (λ x. Ends continues_expression) (λ x. Ends continues_expression) (exact_skipped (kinds.Word words.If) refl) test
    (λ x y v r g st. (tt, st)) (λ x y v r g st t. t) in
    exact_mapped (conditional_by place)
    (seq (skip_word words.If)
    (seq r.expression (seq (skip_word words.Then) (seq r.expression (seq (elsif_values_in r) (seq (skip_word words.Else) r.expression))))))
    (conditional_parts n) (λ e. branches place e (Some n)) (λ x. Ends continues_expression) ExpressionStops
    all (conditional_to place n) (conditional_back place n) (λ x ts o g st. st) (λ x ts o g st. st)

-- ---- in parentheses

abbrev plain : ℕ → ℕ → ExprTree → Tokens → Type 0
plain place n (Parenthesized here e) ts = (here ≡ place) × derives Expression (Some n) e ts
plain place n e ts = ⊥

abbrev pub enclosed : ℕ → ℕ → ExprTree → Tokens → Type 0
enclosed place n (Parenthesized here e) ts = (here ≡ place) × derives Expression (Some n) e ts
enclosed place n (Conditional here condition value others else_value) ts =
    (here ≡ place) × inside (Some n)
    (λ l. word words.If ⨾ derives Expression l condition ⨾ word words.Then ⨾ derives Expression l value ⨾ spells_elsif_values others l ⨾ word
    words.Else ⨾ derives Expression l else_value) ts
enclosed place n e ts = ⊥

plain_back : (place n : ℕ) (y : ExprTree) (ts : Tokens) → plain place n y ts → (x : ExprTree) × derives Expression (Some n) x ts × (Parenthesized place x ≡ y)
plain_back place n (Parenthesized here e) ts g = (e, g.1, ap (λ (z : ℕ). Parenthesized z e) (sym g.0))
plain_back place n y ts g = absurd g

exact_plain : (place n : ℕ) (r : ExpressionReaders) → Exacts n r → Exact (mapped (Parenthesized place) r.expression) (plain place n) ExpressionStops
exact_plain place n r h =
    exact_mapped (Parenthesized place) r.expression (derives Expression (Some n)) (plain place n) ExpressionStops ExpressionStops h.0 (λ x ts g. (refl, g))
    (plain_back place n) (λ x ts o g st. st) (λ x ts o g st. st)

if_enclosed : (place n : ℕ) (x : ExprTree) (s : Tokens) → inside (Some n) (branches place x) s → enclosed place n x s
if_enclosed place zero x s g = absurd g
if_enclosed place (suc n) (Conditional here condition value others else_value) s g = g
if_enclosed place (suc n) x s g = absurd g

plain_enclosed : (place n : ℕ) (x : ExprTree) (s : Tokens) → plain place n x s → enclosed place n x s
plain_enclosed place n (Parenthesized here e) s g = g
plain_enclosed place n x s g = absurd g

enclosed_if : (place n : ℕ) (here : ℕ) (condition value : ExprTree) (others : ElsifValueTrees) (else_value : ExprTree) (s : Tokens)
    → enclosed place n (Conditional here condition value others else_value) s
    → inside (Some n) (branches place (Conditional here condition value others else_value)) s
enclosed_if place zero here condition value others else_value s g = absurd g.1
enclosed_if place (suc n) here condition value others else_value s g = g

which_enclosed : (place n : ℕ) (x : ExprTree) (s r : Tokens) → enclosed place n x s
    → ((is_word words.If (first (s ++ r)) ≡ true) × inside (Some n) (branches place x) s) ⊎ ((is_word words.If (first (s ++ r)) ≡ false) × plain place n x s)
which_enclosed place n (Parenthesized here e) s r g = inr (no_such (kinds.Word words.If) starts (first (s ++ r)) refl (first_made e (Some n) s r g.1.1), g)
which_enclosed place n (Conditional here condition value others else_value) s r g =
    inl (
      first_inside (is_kind (kinds.Word words.If)) true (Some n) _ s r (λ m s g. first_of (is_kind (kinds.Word words.If)) (kinds.Word words.If) _ s r g) g.1,
      enclosed_if place n here condition value others else_value s g,
    )
which_enclosed place n x s r g = absurd g

pub exact_enclosed : (place n : ℕ) (r : ExpressionReaders) → Exacts n r → Exact (enclosed_in r place) (enclosed place n) ExpressionStops
exact_enclosed place n r h =
    exact_choose (is_word words.If) (r.conditional place) (mapped (Parenthesized place) r.expression) (λ e. inside (Some n) (branches place e)) (plain place n)
    (enclosed place n) ExpressionStops
    (h.1 place) (exact_plain place n r h) (if_enclosed place n) (plain_enclosed place n) (λ x s r g st. which_enclosed place n x s r g)

-- with the parentheses
abbrev pub bracketed : ExprTree → Limit → Tokens → Type 0
bracketed (Parenthesized place e) l ts = (mark_at marks.LeftParenthesis place ⨾ derives Expression l e ⨾ mark marks.RightParenthesis) ts
bracketed (Conditional place condition value others else_value) l ts =
    (mark_at marks.LeftParenthesis place ⨾ inside l
    (λ l. word words.If ⨾ derives Expression l condition ⨾ word words.Then ⨾ derives Expression l value ⨾ spells_elsif_values others l ⨾ word
    words.Else ⨾ derives Expression l else_value) ⨾ mark marks.RightParenthesis) ts
bracketed e l ts = ⊥

bracketed_to : (n place : ℕ) (y : ExprTree) (u v : Tokens) → mark_at marks.LeftParenthesis place u → (enclosed place n y ⨾ mark marks.RightParenthesis) v
    → bracketed y (Some n) (u ++ v)
bracketed_to n place (Parenthesized here e) u v m g =
    (u, v, refl, subst (λ (z : ℕ). mark_at marks.LeftParenthesis z u) (sym g.3.0) m, (g.0, g.1, g.2, g.3.1, g.4))
bracketed_to n place (Conditional here condition value others else_value) u v m g =
    (u, v, refl, subst (λ (z : ℕ). mark_at marks.LeftParenthesis z u) (sym g.3.0) m, (g.0, g.1, g.2, g.3.1, g.4))
bracketed_to n place y u v m g = absurd g.3

bracketed_back : (n : ℕ) (y : ExprTree) (ts : Tokens) → bracketed y (Some n) ts
    → (place : ℕ) × (mark_at marks.LeftParenthesis place ⨾ (enclosed place n y ⨾ mark marks.RightParenthesis)) ts
bracketed_back n (Parenthesized here e) ts g = let h = g.4 in (here, (g.0, g.1, g.2, g.3, (h.0, h.1, h.2, (refl, h.3), h.4)))
bracketed_back n (Conditional here condition value others else_value) ts g = let h = g.4 in (here, (g.0, g.1, g.2, g.3, (h.0, h.1, h.2, (refl, h.3), h.4)))
bracketed_back n y ts g = absurd g

exact_shut : (place n : ℕ) (r : ExpressionReaders) → Exacts n r
    → Exact (mapped (λ x. x.0) (seq (enclosed_in r place) (skip_mark marks.RightParenthesis))) (λ e. enclosed place n e ⨾ mark marks.RightParenthesis) Free
exact_shut place n r h =
    exact_mapped (λ x. x.0) (seq (enclosed_in r place) (skip_mark marks.RightParenthesis)) (Both (enclosed place n) (λ _. mark marks.RightParenthesis))
    (λ e. enclosed place n e ⨾ mark marks.RightParenthesis) Free Free
    (exact_seq (enclosed_in r place) (skip_mark marks.RightParenthesis) (enclosed place n) (λ _. mark marks.RightParenthesis) ExpressionStops Free Free
    (exact_enclosed place n r h) (exact_skipped (kinds.Delimiter marks.RightParenthesis) refl)
    (λ x y v r g st. (first_token continues_expression (kinds.Delimiter marks.RightParenthesis) v r g, tt)) (λ x y v r g st t. tt))
    (λ x ts g. g) (λ y ts g. ((y, tt), g, refl)) (λ x ts o g st. tt) (λ x ts o g st. tt)

pub exact_parenthesis : (n : ℕ) (r : ExpressionReaders) → Exacts n r → Exact (parenthesis_in r) (λ e. bracketed e (Some n)) Free
exact_parenthesis n r h =
    exact_after (mark_of marks.LeftParenthesis) (λ place. mapped (λ x. x.0) (seq (enclosed_in r place) (skip_mark marks.RightParenthesis)))
    (mark_at marks.LeftParenthesis) (λ place e. enclosed place n e ⨾ mark marks.RightParenthesis) Free (λ place. Free)
    (λ e. bracketed e (Some n)) Free
    (exact_token (kinds.Delimiter marks.LeftParenthesis) refl) (λ place. exact_shut place n r h)
    (bracketed_to n) (bracketed_back n) (λ x y v r g st. (tt, tt)) (λ x y v r g st t. tt)

-- ---- primaries

-- what is a primary without parentheses
abbrev bare : ℕ → ExprTree → Tokens → Type 0
bare k (Number value place) ts = numeral (Number value place) ts
bare k (Named name all) ts = as_name k (Named name all) ts
bare k e ts = ⊥

abbrev pub BareStops : ExprTree → Option Token → Type 0
BareStops (Named name all) o = Ends starts_selector o
BareStops e o = Unit {0}

numeral_out : (k : ℕ) (x : ExprTree) (s r : Tokens) → numeral x s → bare k x s × BareStops x (first r)
numeral_out k (Number value place) s r g = (g, tt)
numeral_out k x s r g = absurd g

name_out : (k : ℕ) (x : ExprTree) (s r : Tokens) → as_name k x s → Ends starts_selector (first r) → bare k x s × BareStops x (first r)
name_out k (Named name all) s r g st = (g, st)
name_out k x s r g st = absurd g

which_bare : (k : ℕ) (x : ExprTree) (s r : Tokens) → bare k x s → BareStops x (first r)
    → ((is_next is_number (first (s ++ r)) ≡ true) × numeral x s × Unit {0})
    ⊎ ((is_next is_number (first (s ++ r)) ≡ false) × as_name k x s × Ends starts_selector (first r))
which_bare k (Number value place) s r g st = inl (first_token_at is_number (kinds.Number value) place s r g, g, tt)
which_bare k (Named name all) s r g st = inr (first_of_at is_number (kinds.Identifier name.name) name.place _ s r g, g, st)
which_bare k x s r g st = absurd g

exact_bare : (k : ℕ) (d : Option ExpressionReaders) → Below Exacts k d → Exact (choose (is_next is_number) (entry_of number) (named_in d)) (bare k) BareStops
exact_bare k d b =
    exact_either (is_next is_number) (entry_of number) (named_in d) numeral (as_name k) (bare k) Free (λ _. Ends starts_selector) BareStops exact_numeral
    (exact_named k d b)
    (λ x s r g st t. numeral_out k x s r g) (λ x s r g st t. name_out k x s r g st) (λ x s r g st. which_bare k x s r g st)

abbrev pub primary_with : ℕ → ExprTree → Tokens → Type 0
primary_with k = derives Primary (Some k)

bracketed_out : (k : ℕ) (x : ExprTree) (s r : Tokens) → inside (Some k) (bracketed x) s → primary_with k x s × BareStops x (first r)
bracketed_out k (Parenthesized place e) s r g = ((refl, g), tt)
bracketed_out k (Conditional place condition value others else_value) s r g = ((refl, g), tt)
bracketed_out zero x s r g = absurd g
bracketed_out (suc k) x s r g = absurd g

bare_out : (k : ℕ) (x : ExprTree) (s r : Tokens) → bare k x s → BareStops x (first r) → primary_with k x s × BareStops x (first r)
bare_out k (Number value place) s r g st = ((refl, g), st)
bare_out k (Named name all) s r g st = ((refl, g), st)
bare_out k x s r g st = absurd g

pub no_unary_primary : (o : UnaryOperator) → stands_for (unary_production o) Primary ≡ true → ⊥
no_unary_primary unary.Plus h = cc
no_unary_primary o h = cc

pub no_binary_primary : (o : BinaryOperator) → stands_for (production o) Primary ≡ true → ⊥
no_binary_primary binary.And h = cc
no_binary_primary o h = cc

which_primary : (k : ℕ) (x : ExprTree) (s r : Tokens) → primary_with k x s → BareStops x (first r)
    → ((is_mark marks.LeftParenthesis (first (s ++ r)) ≡ true) × inside (Some k) (bracketed x) s × Unit {0})
    ⊎ ((is_mark marks.LeftParenthesis (first (s ++ r)) ≡ false) × bare k x s × BareStops x (first r))
which_primary k (Number value place) s r g st =
    inr (first_token_at (is_kind (kinds.Delimiter marks.LeftParenthesis)) (kinds.Number value) place s r g.1, g.1, st)
which_primary k (Named name all) s r g st =
    inr (first_of_at (is_kind (kinds.Delimiter marks.LeftParenthesis)) (kinds.Identifier name.name) name.place _ s r g.1, g.1, st)
which_primary k (Parenthesized place e) s r g st =
    inl (
      first_inside (is_kind (kinds.Delimiter marks.LeftParenthesis)) true (Some k) (bracketed (Parenthesized place e)) s r
          (λ m s g. first_of_at (is_kind (kinds.Delimiter marks.LeftParenthesis)) (kinds.Delimiter marks.LeftParenthesis) place _ s r g) g.1,
      g.1,
      tt,
    )
which_primary k (Conditional place condition value others else_value) s r g st =
    inl (
      first_inside (is_kind (kinds.Delimiter marks.LeftParenthesis)) true (Some k) (bracketed (Conditional place condition value others else_value)) s r
          (λ m s g. first_of_at (is_kind (kinds.Delimiter marks.LeftParenthesis)) (kinds.Delimiter marks.LeftParenthesis) place _ s r g) g.1,
      g.1,
      tt,
    )
which_primary k (Unary o place e) s r g st = absurd (no_unary_primary o g.0)
which_primary k (Binary o left right) s r g st = absurd (no_binary_primary o g.0)

pub exact_open_primary : (k : ℕ) (d : Option ExpressionReaders) → Below Exacts k d → Exact (open_primary_in d) (primary_with k) BareStops
exact_open_primary k d b =
    exact_either (is_mark marks.LeftParenthesis) (opened d parenthesis_in) (choose (is_next is_number) (entry_of number) (named_in d))
    (λ e. inside (Some k) (bracketed e)) (bare k) (primary_with k) Free BareStops BareStops
    (exact_opened Exacts k d parenthesis_in bracketed Free b exact_parenthesis) (exact_bare k d b)
    (λ x s r g st t. bracketed_out k x s r g) (λ x s r g st t. bare_out k x s r g st) (λ x s r g st. which_primary k x s r g st)

bare_stops : (x : ExprTree) (o : Option Token) → Ends starts_selector o → BareStops x o
bare_stops (Named name all) o st = st
bare_stops x o st = tt

pub exact_primary : (k : ℕ) (d : Option ExpressionReaders) → Below Exacts k d → Exact (primary_in d) (primary_with k) (λ _. Ends starts_selector)
unfolding primary_in
exact_primary k d b =
    exact_told (closed begins_selector (open_primary_in d)) (primary_with k) (primary_with k) (Closed begins_selector BareStops) (λ _. Ends starts_selector)
    (exact_closed begins_selector (open_primary_in d) (primary_with k) BareStops (exact_open_primary k d b))
    (λ x ts g. g) (λ x ts g. g) (λ x ts o g st. st.0) (λ x ts o g st. (st, bare_stops x o st))
