-- Factors, terms, sums and relations are read exactly.
use Rattle.lexer.specs.declared.token.TokenKind.TheVariants as kinds
use Rattle.lexer.specs.declared.word.Word.TheVariants as words
use Rattle.lexer.specs.declared.delimiter.Delimiter.TheVariants as marks
use Rattle.ada_tree.specs.declared.expression.UnaryOperator.TheVariants as unary
use Rattle.ada_tree.specs.declared.expression.BinaryOperator.TheVariants as binary
use Rattle.std.proofs.Common.{◌≡◌, ℕ, Bool, true, false, List, [], ◌∷◌, ◌++◌, Option, Some, None, refl, sym, ap, subst, ◌∙◌, append_assoc, inl, inr, ◌⊎◌}
use Rattle.std.proofs.lemmas.List.{append-nil}
use Rattle.lexer.specs.declared.token.Token.{Token}
use Rattle.lexer.specs.declared.token.TokenKind.{TokenKind}
use Rattle.ada_tree.specs.declared.expression.UnaryOperator.{UnaryOperator}
use Rattle.ada_tree.specs.declared.expression.BinaryOperator.{BinaryOperator}
use Rattle.ada_tree.specs.ExpressionTree.{ExprTree, Number, Named, Parenthesized, Conditional, Unary, Binary}
use Rattle.ada_tree.specs.Language.{Tokens, ◌⨾◌, token, token_at, each, Limit, inside}
use Rattle.ada_tree.specs.ExpressionGrammar.{Production, Primary, Factor, Term, Simple, Relation, production, unary_production, left_operand, right_operand}
use Rattle.ada_tree.specs.ExpressionGrammar.{made_by, stands_for, unary_symbol, operator, derives}
use Rattle.parser.specs.Reading.{Reader, first, is_next, is_there, seq, mapped, many}
use Rattle.parser.specs.ExpressionReading.{multiplying, adding, relational, sign, prefix, begins, operator_of, placed, unary_of, ExpressionReaders, starts_selector}
use Rattle.parser.specs.ExpressionReading.{primary_in, prefixed, factor_in, folded, joined, chain_of, term_in, simple_in}
use Rattle.parser.proofs.general.Exact.{Exact, Free, Both, entry, exact_entry, exact_seq, exact_mapped, exact_told, exact_either}
use Rattle.parser.proofs.general.Several.{ManyStops, exact_many, Below, first_then, first_token_at, first_of_at, first_inside, apart, Ends, ends_both}
use Rattle.parser.proofs.general.Several.{ends_left, ends_right}
use Rattle.parser.proofs.expressions.Expressions.{continues_term, continues_simple, starts_primary, Exacts}
use Rattle.parser.proofs.expressions.Primaries.{exact_primary, no_unary_primary, no_binary_primary}

-- ---- which production stands for which

abbrev pub Widens : Production → Production → Type 0
Widens m n = (p : Production) → stands_for p m ≡ true → stands_for p n ≡ true

pub widen_factor : Widens Primary Factor
widen_factor Primary h = refl
widen_factor p h = absurd cc

pub widen_term : Widens Factor Term
widen_term Primary h = refl
widen_term Factor h = refl
widen_term p h = absurd cc

pub widen_simple : Widens Term Simple
widen_simple Primary h = refl
widen_simple Factor h = refl
widen_simple Term h = refl
widen_simple p h = absurd cc

pub widen_relation : Widens Simple Relation
widen_relation Primary h = refl
widen_relation Factor h = refl
widen_relation Term h = refl
widen_relation Simple h = refl
widen_relation p h = absurd cc

pub widen : (m n : Production) (k : ℕ) (e : ExprTree) (ts : Tokens) → Widens m n → derives m (Some k) e ts → derives n (Some k) e ts
widen m n k e ts w g = (w (made_by e) g.0, g.1)

-- ---- what begins a primary and a term

first_open : (q : TokenKind → Bool) (l : Limit) (place : ℕ) (Q : Limit → Tokens → Type 0) (s r : Tokens)
    → inside l (λ m. token_at (kinds.Delimiter marks.LeftParenthesis) place ⨾ Q m) s → is_next q (first (s ++ r)) ≡ q (kinds.Delimiter marks.LeftParenthesis)
first_open q l place Q s r g =
    first_inside q (q (kinds.Delimiter marks.LeftParenthesis)) l (λ m. token_at (kinds.Delimiter marks.LeftParenthesis) place ⨾ Q m) s r
    (λ m s g. first_of_at q (kinds.Delimiter marks.LeftParenthesis) place (Q m) s r g) g

pub first_primary : (e : ExprTree) (l : Limit) (s r : Tokens) → derives Primary l e s → is_next starts_primary (first (s ++ r)) ≡ true
first_primary (Number value place) l s r g = first_token_at starts_primary (kinds.Number value) place s r g.1
first_primary (Named name all) l s r g = first_of_at starts_primary (kinds.Identifier name.name) name.place _ s r g.1
first_primary (Parenthesized place e) l s r g = first_open starts_primary l place _ s r g.1
first_primary (Conditional place condition value others else_value) l s r g = first_open starts_primary l place _ s r g.1
first_primary (Unary o place e) l s r g = absurd (no_unary_primary o g.0)
first_primary (Binary o left right) l s r g = absurd (no_binary_primary o g.0)

abbrev pub starts_term : TokenKind → Bool
starts_term (kinds.Identifier name) = true
starts_term (kinds.Number value) = true
starts_term (kinds.Delimiter marks.LeftParenthesis) = true
starts_term (kinds.Word words.Abs) = true
starts_term (kinds.Word words.Not) = true
starts_term other = false

pub term_operator : (o : BinaryOperator) → stands_for (production o) Term ≡ true → production o ≡ Term
term_operator binary.Multiply h = refl
term_operator binary.Divide h = refl
term_operator binary.Mod h = refl
term_operator binary.Rem h = refl
term_operator o h = absurd cc

pub first_term : (e : ExprTree) (l : Limit) (s r : Tokens) → derives Term l e s → is_next starts_term (first (s ++ r)) ≡ true
first_term (Number value place) l s r g = first_token_at starts_term (kinds.Number value) place s r g.1
first_term (Named name all) l s r g = first_of_at starts_term (kinds.Identifier name.name) name.place _ s r g.1
first_term (Parenthesized place e) l s r g = first_open starts_term l place _ s r g.1
first_term (Conditional place condition value others else_value) l s r g = first_open starts_term l place _ s r g.1
first_term (Unary unary.Abs place e) l s r g = first_of_at starts_term (kinds.Word words.Abs) place _ s r g.1
first_term (Unary unary.Not place e) l s r g = first_of_at starts_term (kinds.Word words.Not) place _ s r g.1
first_term (Unary o place e) l s r g = absurd cc
first_term (Binary o left right) l s r g =
    first_then starts_term true _ _ s r (λ u r h. first_term left l u r (subst (λ (n : Production). derives (left_operand n) l left u) (term_operator o g.0) h))
    g.1

-- ---- operators before their operands

pub record Prefixes (f : TokenKind → Option UnaryOperator) (n : Production) : Type 0 where
  pub to : (k : TokenKind) (o : UnaryOperator) → f k ≡ Some o → (k ≡ unary_symbol o) × (unary_production o ≡ n)
  pub back : (o : UnaryOperator) → unary_production o ≡ n → f (unary_symbol o) ≡ Some o

-- an operator of the production, at its place
abbrev pub unary_token : Production → UnaryOperator × ℕ → Tokens → Type 0
unary_token n x ts = (unary_production x.0 ≡ n) × token_at (unary_symbol x.0) x.1 ts

placed_is : (m : Option UnaryOperator) (place : ℕ) (x : UnaryOperator × ℕ) → placed m place ≡ Some x → (m ≡ Some x.0) × (place ≡ x.1)
placed_is None place x h = absurd cc
placed_is (Some o) place x h = let same : (o, place) ≡ x = cc in (ap (λ (z : UnaryOperator × ℕ). Some z.0) same, ap (λ (z : UnaryOperator × ℕ). z.1) same)

pub exact_unary_of : (f : TokenKind → Option UnaryOperator) (n : Production) → Prefixes f n → Exact (unary_of f) (unary_token n) Free
exact_unary_of f n table =
    exact_told (unary_of f) (entry (λ k place. placed (f k) place)) (unary_token n) Free Free (exact_entry (λ k place. placed (f k) place))
    (λ x ts g. let p = placed_is (f g.0.kind) g.0.start x g.2 in let t = table.to g.0.kind x.0 p.0 in (t.1, (g.0, g.1, t.0, p.1)))
    (λ x ts g.
    let t = g.1 in (
      t.0,
      t.1,
      ap (λ (z : TokenKind). placed (f z) t.0.start) t.2 ∙ ap (λ (m : Option UnaryOperator). placed m t.0.start) (table.back x.0 g.0)
          ∙ ap (λ (z : ℕ). Some (x.0, z)) t.3,
    ))
    (λ x ts o g st. tt) (λ x ts o g st. tt)

-- an operation of the production
abbrev pub unary_with : Production → ℕ → ExprTree → Tokens → Type 0
unary_with n k (Unary o place e) ts = (unary_production o ≡ n) × (token_at (unary_symbol o) place ⨾ derives (right_operand n) (Some k) e) ts
unary_with n k e ts = ⊥

abbrev pub prefixed_with : Production → ℕ → ExprTree → Tokens → Type 0
prefixed_with n k e ts = unary_with n k e ts ⊎ derives (right_operand n) (Some k) e ts

unary_back : (n : Production) (k : ℕ) (y : ExprTree) (ts : Tokens) → unary_with n k y ts
    → (x : (UnaryOperator × ℕ) × ExprTree) × (unary_token n x.0 ⨾ derives (right_operand n) (Some k) x.1) ts × (Unary x.0.0 x.0.1 x.1 ≡ y)
unary_back n k (Unary o place e) ts g = let h = g.1 in (((o, place), e), (h.0, h.1, h.2, (g.0, h.3), h.4), refl)
unary_back n k y ts g = absurd g

pub exact_prefixed : (f : TokenKind → Option UnaryOperator) (n : Production) (k : ℕ) (a : Reader ExprTree) (S : Option Token → Type 0)
    → Prefixes f n → Exact a (derives (right_operand n) (Some k)) (λ _. S)
    → ((e : ExprTree) (s r : Tokens) → derives (right_operand n) (Some k) e s → begins f (first (s ++ r)) ≡ false)
    → Exact (prefixed f a) (prefixed_with n k) (λ _. S)
exact_prefixed f n k a S table ea clear =
    exact_either (begins f) (mapped (λ x. Unary x.0.0 x.0.1 x.1) (seq (unary_of f) a)) a (unary_with n k) (derives (right_operand n) (Some k))
    (prefixed_with n k) (λ _. S) (λ _. S) (λ _. S)
    (exact_mapped (λ x. Unary x.0.0 x.0.1 x.1) (seq (unary_of f) a) (Both (unary_token n) (derives (right_operand n) (Some k))) (unary_with n k) (λ x. S)
    (λ _. S)
    (exact_seq (unary_of f) a (unary_token n) (derives (right_operand n) (Some k)) Free (λ _. S) (λ x. S) (exact_unary_of f n table) ea
    (λ x y v r g st. (tt, st)) (λ x y v r g st t. t))
    (λ x ts g. (g.3.0, (g.0, g.1, g.2, g.3.1, g.4))) (unary_back n k) (λ x ts o g st. st) (λ x ts o g st. st))
    ea (λ x s r g st h. (inl g, st)) (λ x s r g st h. (inr g, st))
    (λ x s r g st. elim g [
      | inl w ↦ inl (begun x s r w, w, st)
      | inr w ↦ inr (clear x s r w, w, st)
    ])
  where
    begun : (x : ExprTree) (s r : Tokens) → unary_with n k x s → begins f (first (s ++ r)) ≡ true
    begun (Unary o place e) s r g = first_of_at (λ z. is_there (f z)) (unary_symbol o) place _ s r g.1 ∙ ap is_there (table.back o g.0)
    begun x s r g = absurd g

-- the operation as the grammar has it
unary_made : (n : Production) (k : ℕ) (e : ExprTree) (ts : Tokens) → stands_for n n ≡ true → unary_with n k e ts → derives n (Some k) e ts
unary_made n k (Unary o place e) ts stands g = (
  ap (λ (z : Production). stands_for z n) g.0
      ∙ stands,
  subst (λ (z : Production). (token_at (unary_symbol o) place ⨾ derives (right_operand z) (Some k) e) ts) (sym g.0) g.1,
)
unary_made n k e ts stands g = absurd g

prefix_to : (k : TokenKind) (o : UnaryOperator) → prefix k ≡ Some o → (k ≡ unary_symbol o) × (unary_production o ≡ Factor)
prefix_to (kinds.Word words.Abs) o h = let same : unary.Abs ≡ o = cc in (ap unary_symbol same, ap unary_production (sym same))
prefix_to (kinds.Word words.Not) o h = let same : unary.Not ≡ o = cc in (ap unary_symbol same, ap unary_production (sym same))
prefix_to k o h = absurd cc

prefix_back : (o : UnaryOperator) → unary_production o ≡ Factor → prefix (unary_symbol o) ≡ Some o
prefix_back unary.Abs h = refl
prefix_back unary.Not h = refl
prefix_back o h = absurd cc

pub prefixes : Prefixes prefix Factor
prefixes = record { to = prefix_to; back = prefix_back }

sign_to : (k : TokenKind) (o : UnaryOperator) → sign k ≡ Some o → (k ≡ unary_symbol o) × (unary_production o ≡ Simple)
sign_to (kinds.Delimiter marks.Plus) o h = let same : unary.Plus ≡ o = cc in (ap unary_symbol same, ap unary_production (sym same))
sign_to (kinds.Delimiter marks.Minus) o h = let same : unary.Minus ≡ o = cc in (ap unary_symbol same, ap unary_production (sym same))
sign_to k o h = absurd cc

sign_back : (o : UnaryOperator) → unary_production o ≡ Simple → sign (unary_symbol o) ≡ Some o
sign_back unary.Plus h = refl
sign_back unary.Minus h = refl
sign_back o h = absurd cc

pub signs : Prefixes sign Simple
signs = record { to = sign_to; back = sign_back }

no_prefix : (k : TokenKind) → starts_primary k ≡ true → is_there (prefix k) ≡ false
no_prefix (kinds.Word words.Abs) h = absurd cc
no_prefix (kinds.Word words.Not) h = absurd cc
no_prefix k h = refl

no_sign : (k : TokenKind) → starts_term k ≡ true → is_there (sign k) ≡ false
no_sign (kinds.Delimiter marks.Plus) h = absurd cc
no_sign (kinds.Delimiter marks.Minus) h = absurd cc
no_sign k h = refl

-- ---- factors

no_binary_factor : (o : BinaryOperator) → stands_for (production o) Factor ≡ true → ⊥
no_binary_factor binary.And h = cc
no_binary_factor o h = cc

factor_back : (k : ℕ) (e : ExprTree) (ts : Tokens) → derives Factor (Some k) e ts → prefixed_with Factor k e ts
factor_back k (Unary unary.Abs place e) ts g = inl (refl, g.1)
factor_back k (Unary unary.Not place e) ts g = inl (refl, g.1)
factor_back k (Unary o place e) ts g = absurd cc
factor_back k (Binary o left right) ts g = absurd (no_binary_factor o g.0)
factor_back k (Number value place) ts g = inr (refl, g.1)
factor_back k (Named name all) ts g = inr (refl, g.1)
factor_back k (Parenthesized place e) ts g = inr (refl, g.1)
factor_back k (Conditional place condition value others else_value) ts g = inr (refl, g.1)

factor_to : (k : ℕ) (e : ExprTree) (ts : Tokens) → prefixed_with Factor k e ts → derives Factor (Some k) e ts
factor_to k e ts (inl g) = unary_made Factor k e ts refl g
factor_to k e ts (inr g) = widen Primary Factor k e ts widen_factor g

pub exact_factor : (k : ℕ) (d : Option ExpressionReaders) → Below Exacts k d → Exact (factor_in d) (derives Factor (Some k)) (λ _. Ends starts_selector)
unfolding factor_in
exact_factor k d b =
    exact_told (prefixed prefix (primary_in d)) (prefixed_with Factor k) (derives Factor (Some k)) (λ _. Ends starts_selector) (λ _. Ends starts_selector)
    (exact_prefixed prefix Factor k (primary_in d) (Ends starts_selector) prefixes (exact_primary k d b)
    (λ e s r g. apart starts_primary (λ z. is_there (prefix z)) no_prefix (first (s ++ r)) (first_primary e (Some k) s r g)))
    (factor_to k) (factor_back k) (λ x ts o g st. st) (λ x ts o g st. st)

-- ---- chains of operators of one production

pub record Table (f : TokenKind → Option BinaryOperator) (n : Production) : Type 0 where
  pub to : (k : TokenKind) (o : BinaryOperator) (ts : Tokens) → f k ≡ Some o → token k ts → (production o ≡ n) × operator o ts
  pub back : (o : BinaryOperator) (ts : Tokens) → production o ≡ n → operator o ts → (t : Token) × (ts ≡ t ∷ []) × (f t.kind ≡ Some o)

abbrev pub operator_with : Production → BinaryOperator → Tokens → Type 0
operator_with n o ts = (production o ≡ n) × operator o ts

pub exact_operator : (f : TokenKind → Option BinaryOperator) (n : Production) → Table f n → Exact (operator_of f) (operator_with n) Free
exact_operator f n table =
    exact_told (operator_of f) (entry (λ k place. f k)) (operator_with n) Free Free (exact_entry (λ k place. f k))
    (λ o ts g. table.to g.0.kind o ts g.2 (g.0, g.1, refl)) (λ o ts g. table.back o ts g.0 g.1) (λ x ts o g st. tt) (λ x ts o g st. tt)

pub operator_first : (f : TokenKind → Option BinaryOperator) (n : Production) → Table f n → (o : BinaryOperator) (s r : Tokens) → operator_with n o s
    → begins f (first (s ++ r)) ≡ true
operator_first f n table o s r g =
    let t = table.back o s g.0 g.1 in
    ap (λ (z : Tokens). begins f (first (z ++ r))) t.1 ∙ ap is_there t.2

pub binary_made : (n : Production) (k : ℕ) (o : BinaryOperator) (e t : ExprTree) (u v w : Tokens) → left_operand n ≡ n → stands_for n n ≡ true
    → production o ≡ n → derives n (Some k) e u → operator o v → derives (right_operand n) (Some k) t w → derives n (Some k) (Binary o e t) (u ++ (v ++ w))
binary_made n k o e t u v w itself stands p g h i = (
  ap (λ (z : Production). stands_for z n) p ∙ stands,
  (
    u,
    v ++ w,
    refl,
    subst (λ (z : Production). derives (left_operand z) (Some k) e u) (sym p) (subst (λ (z : Production). derives z (Some k) e u) (sym itself) g),
    (v, w, refl, h, subst (λ (z : Production). derives (right_operand z) (Some k) t w) (sym p) i),
  ),
)

pub binary_parts : (n : Production) (k : ℕ) (o : BinaryOperator) (e t : ExprTree) (ts : Tokens) → left_operand n ≡ n → production o ≡ n
    → derives n (Some k) (Binary o e t) ts
    → (derives n (Some k) e ⨾ operator o ⨾ derives (right_operand n) (Some k) t) ts
binary_parts n k o e t ts itself p g =
    let a = g.1 in
    let b = a.4 in (
      a.0,
      a.1,
      a.2,
      subst (λ (z : Production). derives z (Some k) e a.0) itself (subst (λ (z : Production). derives (left_operand z) (Some k) e a.0) p a.3),
      (b.0, b.1, b.2, b.3, subst (λ (z : Production). derives (right_operand z) (Some k) t b.1) p b.4),
    )

-- one more at the end
pub folded_more : {A B : Type 0} (step : B → A → B) (b : B) (xs : List A) (x : A) → folded step b (xs ++ (x ∷ [])) ≡ step (folded step b xs) x
folded_more step b [] x = refl
folded_more step b (y ∷ xs) x = folded_more step (step b y) xs x

pub each_more : {A : Type 0} (P : A → Tokens → Type 0) (xs : List A) (x : A) (u v : Tokens) → each P xs u → P x v → each P (xs ++ (x ∷ [])) (u ++ v)
each_more P [] x u v g h = (v, [], ap (λ (z : Tokens). z ++ v) g ∙ sym (append-nil v), h, refl)
each_more P (y ∷ xs) x u v g h = (g.0, g.1 ++ v, ap (λ (z : Tokens). z ++ v) g.2 ∙ append_assoc g.0 g.1 v, g.3, each_more P xs x g.1 v g.4 h)

module _ (n : Production) (k : ℕ) (f : TokenKind → Option BinaryOperator) (table : Table f n) (a b : Reader ExprTree) (PF : ExprTree → Tokens → Type 0)
    (S : Option Token → Type 0)
    (ea : Exact a PF (λ _. S)) (eb : Exact b (derives (right_operand n) (Some k)) (λ _. S))
    (itself : left_operand n ≡ n) (stands : stands_for n n ≡ true)
    (one : (e : ExprTree) (ts : Tokens) → PF e ts → derives n (Some k) e ts)
    (of : (e : ExprTree) (ts : Tokens) → derives n (Some k) e ts
    → PF e ts ⊎ ((o : BinaryOperator) × (l : ExprTree) × (r : ExprTree) × (e ≡ Binary o l r) × (production o ≡ n)))
    (goes : (o : Option Token) → begins f o ≡ true → S o) where
  abbrev pub Item : BinaryOperator × ExprTree → Tokens → Type 0
  Item x = operator_with n x.0 ⨾ derives (right_operand n) (Some k) x.1

  pub exact_item : Exact (seq (operator_of f) b) Item (λ _. S)
  exact_item =
      exact_seq (operator_of f) b (operator_with n) (derives (right_operand n) (Some k)) Free (λ _. S) (λ _. S) (exact_operator f n table) eb
      (λ x y v r g st. (tt, st)) (λ x y v r g st t. t)

  pub item_first : (x : BinaryOperator × ExprTree) (s r : Tokens) → Item x s → begins f (first (s ++ r)) ≡ true
  item_first x s r g = first_then (λ z. is_there (f z)) true (operator_with n x.0) _ s r (λ u r h. operator_first f n table x.0 u r h) g

  items_exact : Exact (many (begins f) (seq (operator_of f) b)) (each Item) (ManyStops (begins f) S)
  items_exact = exact_many (begins f) (seq (operator_of f) b) Item S exact_item item_first goes refl

  abbrev Stop : Option Token → Type 0
  Stop o = (begins f o ≡ false) × S o

  stops_in : (xs : List (BinaryOperator × ExprTree)) (v r : Tokens) → each Item xs v → Stop (first r) → S (first (v ++ r)) × ManyStops (begins f) S xs (first r)
  stops_in [] v r g st = (subst (λ (z : Tokens). S (first (z ++ r))) (sym g) st.1, st.0)
  stops_in (x ∷ xs) v r g st = (goes (first (v ++ r)) (first_then (λ z. is_there (f z)) true (Item x) (each Item xs) v r (item_first x) g), st)

  stops_out : (xs : List (BinaryOperator × ExprTree)) (v r : Tokens) → each Item xs v → S (first (v ++ r)) → ManyStops (begins f) S xs (first r)
      → Stop (first r)
  stops_out [] v r g st m = (m, subst (λ (z : Tokens). S (first (z ++ r))) g st)
  stops_out (x ∷ xs) v r g st m = m

  is_chain : (e : ExprTree) (xs : List (BinaryOperator × ExprTree)) (u v : Tokens) → derives n (Some k) e u → each Item xs v
      → derives n (Some k) (folded joined e xs) (u ++ v)
  is_chain e [] u v g h = subst (λ (z : Tokens). derives n (Some k) e z) (sym (append-nil u) ∙ ap (λ (z : Tokens). u ++ z) (sym h)) g
  is_chain e (x ∷ xs) u v g h =
      let i = h.3 in
      let made_one = binary_made n k x.0 e x.1 u i.0 i.1 itself stands i.3.0 g i.3.1 i.4 in
      let first_part : derives n (Some k) (Binary x.0 e x.1) (u ++ h.0) =
      subst (λ (z : Tokens). derives n (Some k) (Binary x.0 e x.1) (u ++ z)) (sym i.2) made_one in
      subst (λ (z : Tokens). derives n (Some k) (folded joined (Binary x.0 e x.1) xs) z) (append_assoc u h.0 h.1 ∙ ap (λ (z : Tokens). u ++ z) (sym h.2))
      (is_chain (Binary x.0 e x.1) xs (u ++ h.0) h.1 first_part h.4)

  abbrev Split : ExprTree → Tokens → Type 0
  Split e ts = (x : ExprTree × List (BinaryOperator × ExprTree)) × (PF x.0 ⨾ each Item x.1) ts × (folded joined x.0 x.1 ≡ e)

  alone : (e : ExprTree) (ts : Tokens) → PF e ts → Split e ts
  alone e ts g = ((e, []), (ts, [], sym (append-nil ts), g, refl), refl)

  more : (o : BinaryOperator) (l r : ExprTree) (u v w : Tokens) → Split l u → operator_with n o v → derives (right_operand n) (Some k) r w
      → Split (Binary o l r) (u ++ (v ++ w))
  more o l r u v w d g h =
      let x = d.0 in
      let p = d.1 in (
        (x.0, x.1 ++ ((o, r) ∷ [])),
        (
          p.0,
          p.1 ++ (v ++ w),
          ap (λ (z : Tokens). z ++ (v ++ w)) p.2
              ∙ append_assoc p.0 p.1 (v ++ w),
          p.3,
          each_more Item x.1 (o, r) p.1 (v ++ w) p.4 (v, w, refl, g, h),
        ),
        folded_more joined x.0 x.1 (o, r) ∙ ap (λ (z : ExprTree). Binary o z r) d.2,
      )

  not_binary : (e : ExprTree) (ts : Tokens) → ((o : BinaryOperator) (l r : ExprTree) → e ≡ Binary o l r → ⊥) → derives n (Some k) e ts → Split e ts
  not_binary e ts none g =
      elim (of e ts g) [
        | inl h ↦ alone e ts h
        | inr h ↦ absurd (none h.0 h.1 h.2 h.3)
      ]

  split : (e : ExprTree) (ts : Tokens) → derives n (Some k) e ts → Split e ts
  split (Binary o l r) ts g =
      elim (of (Binary o l r) ts g) [
        | inl h ↦ alone (Binary o l r) ts h
        | inr h ↦
            let same : h.0 ≡ o = let e : Binary o l r ≡ Binary h.0 h.1 h.2 = h.3 in cc in
            let p : production o ≡ n = ap production (sym same) ∙ h.4 in
            let q = binary_parts n k o l r ts itself p g in
            let i = q.4 in
            subst (Split (Binary o l r)) (sym (q.2 ∙ ap (λ (z : Tokens). q.0 ++ z) i.2)) (more o l r q.0 i.0 i.1 (split l q.0 q.3) (p, i.3) i.4)
      ]
  split (Number value place) ts g = not_binary (Number value place) ts (λ o l r h. cc) g
  split (Named name all) ts g = not_binary (Named name all) ts (λ o l r h. cc) g
  split (Parenthesized place e) ts g = not_binary (Parenthesized place e) ts (λ o l r h. cc) g
  split (Conditional place condition value others else_value) ts g = not_binary (Conditional place condition value others else_value) ts (λ o l r h. cc) g
  split (Unary o place e) ts g = not_binary (Unary o place e) ts (λ o l r h. cc) g

  pub exact_chain : Exact (chain_of a f b) (derives n (Some k)) (λ _. Stop)
  exact_chain =
      exact_mapped (λ x. folded joined x.0 x.1) (seq a (many (begins f) (seq (operator_of f) b))) (Both PF (each Item)) (derives n (Some k)) (λ x. Stop)
      (λ _. Stop)
      (exact_seq a (many (begins f) (seq (operator_of f) b)) PF (each Item) (λ _. S) (ManyStops (begins f) S) (λ x. Stop) ea items_exact
      (λ x y v r g st. stops_in y v r g st) (λ x y v r g st t. stops_out y v r g st t))
      (λ x ts g. subst (λ (z : Tokens). derives n (Some k) (folded joined x.0 x.1) z) (sym g.2) (is_chain x.0 x.1 g.0 g.1 (one x.0 g.0 g.3) g.4))
      split (λ x ts o g st. st) (λ x ts o g st. st)

-- ---- the tables

multiplying_to : (k : TokenKind) (o : BinaryOperator) (ts : Tokens) → multiplying k ≡ Some o → token k ts → (production o ≡ Term) × operator o ts
multiplying_to (kinds.Delimiter marks.Asterisk) o ts h g = let same : binary.Multiply ≡ o = cc in
    (ap production (sym same), subst (λ (z : BinaryOperator). operator z ts) same g)
multiplying_to (kinds.Delimiter marks.Slash) o ts h g = let same : binary.Divide ≡ o = cc in
    (ap production (sym same), subst (λ (z : BinaryOperator). operator z ts) same g)
multiplying_to (kinds.Word words.Mod) o ts h g = let same : binary.Mod ≡ o = cc in
    (ap production (sym same), subst (λ (z : BinaryOperator). operator z ts) same g)
multiplying_to (kinds.Word words.Rem) o ts h g = let same : binary.Rem ≡ o = cc in
    (ap production (sym same), subst (λ (z : BinaryOperator). operator z ts) same g)
multiplying_to k o ts h g = absurd cc

multiplying_back : (o : BinaryOperator) (ts : Tokens) → production o ≡ Term → operator o ts → (t : Token) × (ts ≡ t ∷ []) × (multiplying t.kind ≡ Some o)
multiplying_back binary.Multiply ts p g = (g.0, g.1, ap multiplying g.2)
multiplying_back binary.Divide ts p g = (g.0, g.1, ap multiplying g.2)
multiplying_back binary.Mod ts p g = (g.0, g.1, ap multiplying g.2)
multiplying_back binary.Rem ts p g = (g.0, g.1, ap multiplying g.2)
multiplying_back o ts p g = absurd cc

pub multiplying_table : Table multiplying Term
multiplying_table = record { to = multiplying_to; back = multiplying_back }

adding_to : (k : TokenKind) (o : BinaryOperator) (ts : Tokens) → adding k ≡ Some o → token k ts → (production o ≡ Simple) × operator o ts
adding_to (kinds.Delimiter marks.Plus) o ts h g = let same : binary.Add ≡ o = cc in
    (ap production (sym same), subst (λ (z : BinaryOperator). operator z ts) same g)
adding_to (kinds.Delimiter marks.Minus) o ts h g = let same : binary.Subtract ≡ o = cc in
    (ap production (sym same), subst (λ (z : BinaryOperator). operator z ts) same g)
adding_to k o ts h g = absurd cc

adding_back : (o : BinaryOperator) (ts : Tokens) → production o ≡ Simple → operator o ts → (t : Token) × (ts ≡ t ∷ []) × (adding t.kind ≡ Some o)
adding_back binary.Add ts p g = (g.0, g.1, ap adding g.2)
adding_back binary.Subtract ts p g = (g.0, g.1, ap adding g.2)
adding_back o ts p g = absurd cc

pub adding_table : Table adding Simple
adding_table = record { to = adding_to; back = adding_back }

relational_to : (k : TokenKind) (o : BinaryOperator) (ts : Tokens) → relational k ≡ Some o → token k ts → (production o ≡ Relation) × operator o ts
relational_to (kinds.Delimiter marks.Equals) o ts h g = let same : binary.Equal ≡ o = cc in
    (ap production (sym same), subst (λ (z : BinaryOperator). operator z ts) same g)
relational_to (kinds.Delimiter marks.Inequality) o ts h g = let same : binary.NotEqual ≡ o = cc in
    (ap production (sym same), subst (λ (z : BinaryOperator). operator z ts) same g)
relational_to (kinds.Delimiter marks.LessThan) o ts h g = let same : binary.Less ≡ o = cc in
    (ap production (sym same), subst (λ (z : BinaryOperator). operator z ts) same g)
relational_to (kinds.Delimiter marks.LessOrEqual) o ts h g = let same : binary.LessOrEqual ≡ o = cc in
    (ap production (sym same), subst (λ (z : BinaryOperator). operator z ts) same g)
relational_to (kinds.Delimiter marks.GreaterThan) o ts h g = let same : binary.Greater ≡ o = cc in
    (ap production (sym same), subst (λ (z : BinaryOperator). operator z ts) same g)
relational_to (kinds.Delimiter marks.GreaterOrEqual) o ts h g = let same : binary.GreaterOrEqual ≡ o = cc in
    (ap production (sym same), subst (λ (z : BinaryOperator). operator z ts) same g)
relational_to k o ts h g = absurd cc

relational_back : (o : BinaryOperator) (ts : Tokens) → production o ≡ Relation → operator o ts → (t : Token) × (ts ≡ t ∷ []) × (relational t.kind ≡ Some o)
relational_back binary.Equal ts p g = (g.0, g.1, ap relational g.2)
relational_back binary.NotEqual ts p g = (g.0, g.1, ap relational g.2)
relational_back binary.Less ts p g = (g.0, g.1, ap relational g.2)
relational_back binary.LessOrEqual ts p g = (g.0, g.1, ap relational g.2)
relational_back binary.Greater ts p g = (g.0, g.1, ap relational g.2)
relational_back binary.GreaterOrEqual ts p g = (g.0, g.1, ap relational g.2)
relational_back o ts p g = absurd cc

pub relational_table : Table relational Relation
relational_table = record { to = relational_to; back = relational_back }

-- ---- terms

abbrev pub Operation : Production → ExprTree → Type 0
Operation n e = (o : BinaryOperator) × (l : ExprTree) × (r : ExprTree) × (e ≡ Binary o l r) × (production o ≡ n)

term_of : (k : ℕ) (e : ExprTree) (ts : Tokens) → derives Term (Some k) e ts → derives Factor (Some k) e ts ⊎ Operation Term e
term_of k (Binary o l r) ts g = inr (o, l, r, refl, term_operator o g.0)
term_of k (Unary unary.Abs place e) ts g = inl (refl, g.1)
term_of k (Unary unary.Not place e) ts g = inl (refl, g.1)
term_of k (Unary o place e) ts g = absurd cc
term_of k (Number value place) ts g = inl (refl, g.1)
term_of k (Named name all) ts g = inl (refl, g.1)
term_of k (Parenthesized place e) ts g = inl (refl, g.1)
term_of k (Conditional place condition value others else_value) ts g = inl (refl, g.1)

pub multiplying_goes : (k : TokenKind) → is_there (multiplying k) ≡ true → starts_selector k ≡ false
multiplying_goes (kinds.Delimiter marks.LeftParenthesis) h = absurd cc
multiplying_goes (kinds.Delimiter marks.Dot) h = absurd cc
multiplying_goes (kinds.Delimiter marks.Apostrophe) h = absurd cc
multiplying_goes k h = refl

abbrev pub multiplies : TokenKind → Bool
multiplies k = is_there (multiplying k)

pub exact_term : (k : ℕ) (d : Option ExpressionReaders) → Below Exacts k d → Exact (term_in d) (derives Term (Some k)) (λ _. Ends continues_term)
unfolding term_in
exact_term k d b =
    exact_told (chain_of (factor_in d) multiplying (factor_in d)) (derives Term (Some k)) (derives Term (Some k))
    (λ _ o. (begins multiplying o ≡ false) × Ends starts_selector o) (λ _. Ends continues_term)
    (exact_chain Term k multiplying multiplying_table (factor_in d) (factor_in d) (derives Factor (Some k)) (Ends starts_selector) (exact_factor k d b)
    (exact_factor k d b) refl refl
    (λ e ts g. widen Factor Term k e ts widen_term g) (term_of k) (apart multiplies starts_selector multiplying_goes))
    (λ x ts g. g) (λ x ts g. g) (λ x ts o g st. ends_both multiplies starts_selector o st.0 st.1)
    (λ x ts o g st. (ends_left multiplies starts_selector o st, ends_right multiplies starts_selector o st))

-- ---- sums

simple_operator : (o : BinaryOperator) → stands_for (production o) Simple ≡ true → (stands_for (production o) Term ≡ true) ⊎ (production o ≡ Simple)
simple_operator binary.Multiply h = inl refl
simple_operator binary.Divide h = inl refl
simple_operator binary.Mod h = inl refl
simple_operator binary.Rem h = inl refl
simple_operator binary.Add h = inr refl
simple_operator binary.Subtract h = inr refl
simple_operator o h = absurd cc

simple_of : (k : ℕ) (e : ExprTree) (ts : Tokens) → derives Simple (Some k) e ts → prefixed_with Simple k e ts ⊎ Operation Simple e
simple_of k (Binary o l r) ts g =
    elim (simple_operator o g.0) [
      | inl h ↦ inl (inr (h, g.1))
      | inr h ↦ inr (o, l, r, refl, h)
    ]
simple_of k (Unary unary.Plus place e) ts g = inl (inl (refl, g.1))
simple_of k (Unary unary.Minus place e) ts g = inl (inl (refl, g.1))
simple_of k (Unary unary.Abs place e) ts g = inl (inr (refl, g.1))
simple_of k (Unary unary.Not place e) ts g = inl (inr (refl, g.1))
simple_of k (Number value place) ts g = inl (inr (refl, g.1))
simple_of k (Named name all) ts g = inl (inr (refl, g.1))
simple_of k (Parenthesized place e) ts g = inl (inr (refl, g.1))
simple_of k (Conditional place condition value others else_value) ts g = inl (inr (refl, g.1))

simple_one : (k : ℕ) (e : ExprTree) (ts : Tokens) → prefixed_with Simple k e ts → derives Simple (Some k) e ts
simple_one k e ts (inl g) = unary_made Simple k e ts refl g
simple_one k e ts (inr g) = widen Term Simple k e ts widen_simple g

pub adding_goes : (k : TokenKind) → is_there (adding k) ≡ true → continues_term k ≡ false
adding_goes (kinds.Delimiter marks.Plus) h = refl
adding_goes (kinds.Delimiter marks.Minus) h = refl
adding_goes k h = absurd cc

abbrev pub adds : TokenKind → Bool
adds k = is_there (adding k)

pub exact_signed : (k : ℕ) (d : Option ExpressionReaders) → Below Exacts k d → Exact (prefixed sign (term_in d)) (prefixed_with Simple k) (λ _. Ends continues_term)
exact_signed k d b =
    exact_prefixed sign Simple k (term_in d) (Ends continues_term) signs (exact_term k d b)
    (λ e s r g. apart starts_term (λ z. is_there (sign z)) no_sign (first (s ++ r)) (first_term e (Some k) s r g))

pub exact_simple_in : (k : ℕ) (d : Option ExpressionReaders) → Below Exacts k d → Exact (simple_in d) (derives Simple (Some k)) (λ _. Ends continues_simple)
unfolding simple_in
exact_simple_in k d b =
    exact_told (chain_of (prefixed sign (term_in d)) adding (term_in d)) (derives Simple (Some k)) (derives Simple (Some k))
    (λ _ o. (begins adding o ≡ false) × Ends continues_term o) (λ _. Ends continues_simple)
    (exact_chain Simple k adding adding_table (prefixed sign (term_in d)) (term_in d) (prefixed_with Simple k) (Ends continues_term) (exact_signed k d b)
    (exact_term k d b) refl refl
    (simple_one k) (simple_of k) (apart adds continues_term adding_goes))
    (λ x ts g. g) (λ x ts g. g) (λ x ts o g st. ends_both adds continues_term o st.0 st.1)
    (λ x ts o g st. (ends_left adds continues_term o st, ends_right adds continues_term o st))
