-- Names and primaries are read exactly, given that expressions are one level down.
use Rattle.lexer.specs.declared.token.TokenKind.TheVariants as kinds
use Rattle.lexer.specs.declared.word.Word.TheVariants as words
use Rattle.lexer.specs.declared.delimiter.Delimiter.TheVariants as marks
use Rattle.ada_tree.specs.declared.expression.UnaryOperator.TheVariants as unary
use Rattle.std.proofs.Common.{◌≡◌, ℕ, zero, suc, Bool, true, false, List, [], ◌∷◌, ◌++◌, Option, Some, refl, sym, ap, subst, ◌∙◌, inl, inr, ◌⊎◌}
use Rattle.std.specs.Prelude.{◌||◌, ℤ}
use Rattle.lexer.specs.declared.token.Token.{Token}
use Rattle.lexer.specs.declared.token.TokenKind.{TokenKind}
use Rattle.ada_tree.specs.declared.expression.Identifier.{Identifier}
use Rattle.ada_tree.specs.declared.expression.UnaryOperator.{UnaryOperator}
use Rattle.ada_tree.specs.ExpressionTree.{ExprTree, Number, Named, Parenthesized, Conditional, Unary, Binary, SelectorTrees, NoSelectors, MoreSelectors}
use Rattle.ada_tree.specs.ExpressionTree.{SelectorTree, Component, Arguments, Attribute, ArgumentTrees, NoArguments, MoreArguments, ArgumentTree, Value, Text}
use Rattle.ada_tree.specs.ExpressionTree.{NameTree, selectors_of, arguments_of}
use Rattle.ada_tree.specs.Language.{Tokens, ◌⨾◌, word, mark, token_at, identifier, each, separated, Limit, inside}
use Rattle.ada_tree.specs.ExpressionGrammar.{Expression, unary_symbol, made, spells_elsif_values, spells_selectors, spells_selector, spells_arguments}
use Rattle.ada_tree.specs.ExpressionGrammar.{spells_further_arguments, spells_argument, derives, spells_name}
use Rattle.parser.specs.Reading.{Reader, first, is_kind, is_next, is_mark, entry_of, is_there, skip_mark, identifier_of, seq, mapped, choose, opened}
use Rattle.parser.specs.ExpressionReading.{number, label, is_label, multiplying, adding, relational, ExpressionReaders, argument_in, arguments_list, arguments_in}
use Rattle.parser.specs.ExpressionReading.{component_of, attribute_of, selector_in, starts_selector, begins_selector, selectors_in, name_in, named_in}
use Rattle.parser.specs.ExpressionReading.{starts_logical}
use Rattle.parser.proofs.general.Exact.{Exact, Free, Both, entry, exact_entry, exact_seq, exact_mapped, exact_told, exact_either, exact_choose}
use Rattle.parser.proofs.general.Several.{LastStops, ManyStops, exact_many, all_stop, exact_skipped, exact_identifier, exact_separated_last, Below}
use Rattle.parser.proofs.general.Several.{exact_opened, first_then, first_token, first_token_at, first_of, first_of_at, first_inside, kind_ends, apart, Ends}

-- ---- what goes on with an expression

abbrev pub continues_term : TokenKind → Bool
continues_term k = is_there (multiplying k) || starts_selector k

abbrev pub continues_simple : TokenKind → Bool
continues_simple k = is_there (adding k) || continues_term k

abbrev pub continues_relation : TokenKind → Bool
continues_relation k = is_there (relational k) || continues_simple k

abbrev pub continues_expression : TokenKind → Bool
continues_expression k = starts_logical k || continues_relation k

-- ---- what begins an expression

abbrev pub starts_primary : TokenKind → Bool
starts_primary (kinds.Identifier name) = true
starts_primary (kinds.Number value) = true
starts_primary (kinds.Delimiter marks.LeftParenthesis) = true
starts_primary other = false

abbrev pub starts : TokenKind → Bool
starts (kinds.Identifier name) = true
starts (kinds.Number value) = true
starts (kinds.Delimiter marks.LeftParenthesis) = true
starts (kinds.Delimiter marks.Plus) = true
starts (kinds.Delimiter marks.Minus) = true
starts (kinds.Word words.Abs) = true
starts (kinds.Word words.Not) = true
starts other = false

starts_unary : (o : UnaryOperator) → starts (unary_symbol o) ≡ true
starts_unary unary.Plus = refl
starts_unary unary.Minus = refl
starts_unary unary.Abs = refl
starts_unary unary.Not = refl

pub first_made : (e : ExprTree) (l : Limit) (s r : Tokens) → made e l s → is_next starts (first (s ++ r)) ≡ true
first_made (Number value place) l s r g = first_token_at starts (kinds.Number value) place s r g
first_made (Named name all) l s r g = first_of_at starts (kinds.Identifier name.name) name.place _ s r g
first_made (Parenthesized place e) l s r g =
    first_inside starts true l _ s r (λ m s g. first_of_at starts (kinds.Delimiter marks.LeftParenthesis) place _ s r g) g
first_made (Conditional place condition value others else_value) l s r g =
    first_inside starts true l _ s r (λ m s g. first_of_at starts (kinds.Delimiter marks.LeftParenthesis) place _ s r g) g
first_made (Unary o place e) l s r g = first_of_at starts (unary_symbol o) place _ s r g ∙ starts_unary o
first_made (Binary o left right) l s r g = first_then starts true _ _ s r (λ u r h. first_made left l u r h.1) g

label_starts_none : (k : TokenKind) → starts k ≡ true → is_label k ≡ false
label_starts_none (kinds.Label label) h = absurd cc
label_starts_none k h = refl

-- ---- one level down

-- from `if` on
abbrev pub branches : ℕ → ExprTree → Limit → Tokens → Type 0
branches place (Conditional here condition value others else_value) l ts =
    (here ≡ place) × (word words.If ⨾ derives Expression l condition ⨾ word words.Then ⨾ derives Expression l value ⨾ spells_elsif_values others l ⨾ word
    words.Else ⨾ derives Expression l else_value) ts
branches place e l ts = ⊥

abbrev pub ExpressionStops : ExprTree → Option Token → Type 0
ExpressionStops e o = Ends continues_expression o

-- with n levels, expressions and if expressions are read exactly
abbrev pub Exacts : ℕ → ExpressionReaders → Type 0
Exacts n r =
    Exact r.expression (derives Expression (Some n)) ExpressionStops
    × ((place : ℕ) → Exact (r.conditional place) (λ e. inside (Some n) (branches place e)) ExpressionStops)

-- ---- numbers and labels

abbrev pub numeral : ExprTree → Tokens → Type 0
numeral (Number value place) ts = token_at (kinds.Number value) place ts
numeral e ts = ⊥

number_is : (k : TokenKind) (place : ℕ) (e : ExprTree) → number k place ≡ Some e → (value : ℤ) × (e ≡ Number value place) × (k ≡ kinds.Number value)
number_is (kinds.Number value) place e h = let same : Number value place ≡ e = cc in (value, sym same, refl)
number_is k place e h = absurd cc

numeral_back : (e : ExprTree) (ts : Tokens) → numeral e ts → entry number e ts
numeral_back (Number value place) ts g = (g.0, g.1, ap (λ (z : TokenKind). number z g.0.start) g.2 ∙ ap (λ (z : ℕ). Some (Number value z)) g.3)
numeral_back e ts g = absurd g

pub exact_numeral : Exact (entry_of number) numeral Free
exact_numeral =
    exact_told (entry_of number) (entry number) numeral Free Free (exact_entry number)
    (λ e ts g. let n = number_is g.0.kind g.0.start e g.2 in subst (λ (z : ExprTree). numeral z ts) (sym n.1) (g.0, g.1, n.2, refl))
    numeral_back (λ x ts o g st. tt) (λ x ts o g st. tt)

abbrev labelled : ArgumentTree → Tokens → Type 0
labelled (Text text place) ts = token_at (kinds.Label text) place ts
labelled (Value e) ts = ⊥

label_is : (k : TokenKind) (place : ℕ) (a : ArgumentTree) → label k place ≡ Some a → (text : List ℕ) × (a ≡ Text text place) × (k ≡ kinds.Label text)
label_is (kinds.Label text) place a h = let same : Text text place ≡ a = cc in (text, sym same, refl)
label_is k place a h = absurd cc

labelled_back : (a : ArgumentTree) (ts : Tokens) → labelled a ts → entry label a ts
labelled_back (Text text place) ts g = (g.0, g.1, ap (λ (z : TokenKind). label z g.0.start) g.2 ∙ ap (λ (z : ℕ). Some (Text text z)) g.3)
labelled_back (Value e) ts g = absurd g

pub exact_label : Exact (entry_of label) labelled Free
exact_label =
    exact_told (entry_of label) (entry label) labelled Free Free (exact_entry label)
    (λ e ts g. let n = label_is g.0.kind g.0.start e g.2 in subst (λ (z : ArgumentTree). labelled z ts) (sym n.1) (g.0, g.1, n.2, refl))
    labelled_back (λ x ts o g st. tt) (λ x ts o g st. tt)

-- ---- arguments

abbrev valued : Limit → ArgumentTree → Tokens → Type 0
valued l (Value e) ts = derives Expression l e ts
valued l (Text text place) ts = ⊥

abbrev pub ArgumentStops : ArgumentTree → Option Token → Type 0
ArgumentStops (Value e) o = Ends continues_expression o
ArgumentStops (Text text place) o = Unit {0}

abbrev pub argument_with : ℕ → ArgumentTree → Tokens → Type 0
argument_with n a = spells_argument a (Some n)

exact_value : (n : ℕ) (a : Reader ExprTree) → Exact a (derives Expression (Some n)) ExpressionStops
    → Exact (mapped Value a) (valued (Some n)) (λ _. Ends continues_expression)
exact_value n a e =
    exact_mapped Value a (derives Expression (Some n)) (valued (Some n)) ExpressionStops (λ _. Ends continues_expression) e (λ x ts g. g) back
    (λ x ts o g st. st) (λ x ts o g st. st)
  where
    back : (y : ArgumentTree) (ts : Tokens) → valued (Some n) y ts → (x : ExprTree) × derives Expression (Some n) x ts × (Value x ≡ y)
    back (Value x) ts g = (x, g, refl)
    back (Text text place) ts g = absurd g

label_out : (n : ℕ) (x : ArgumentTree) (s r : Tokens) → labelled x s → argument_with n x s × ArgumentStops x (first r)
label_out n (Text text place) s r g = (g, tt)
label_out n (Value e) s r g = absurd g

value_out : (n : ℕ) (x : ArgumentTree) (s r : Tokens) → valued (Some n) x s → Ends continues_expression (first r)
    → argument_with n x s × ArgumentStops x (first r)
value_out n (Value e) s r g st = (g, st)
value_out n (Text text place) s r g st = absurd g

which_argument : (n : ℕ) (x : ArgumentTree) (s r : Tokens) → argument_with n x s → ArgumentStops x (first r)
    → ((is_next is_label (first (s ++ r)) ≡ true) × labelled x s × Unit {0})
    ⊎ ((is_next is_label (first (s ++ r)) ≡ false) × valued (Some n) x s × Ends continues_expression (first r))
which_argument n (Text text place) s r g st = inl (first_token_at is_label (kinds.Label text) place s r g, g, tt)
which_argument n (Value e) s r g st = inr (apart starts is_label label_starts_none (first (s ++ r)) (first_made e (Some n) s r g.1), g, st)

pub exact_argument : (n : ℕ) (r : ExpressionReaders) → Exacts n r → Exact (argument_in r) (argument_with n) ArgumentStops
exact_argument n r h =
    exact_either (is_next is_label) (entry_of label) (mapped Value r.expression) labelled (valued (Some n)) (argument_with n) Free
    (λ _. Ends continues_expression) ArgumentStops
    exact_label (exact_value n r.expression h.0)
    (λ x s r g st t. label_out n x s r g) (λ x s r g st t. value_out n x s r g st) (λ x s r g st. which_argument n x s r g st)

pub comma_ends : (x : ArgumentTree) (o : Option Token) → is_mark marks.Comma o ≡ true → ArgumentStops x o
comma_ends (Value e) o h = kind_ends (kinds.Delimiter marks.Comma) continues_expression o refl h
comma_ends (Text text place) o h = tt

abbrev pub ListStops : List ArgumentTree → Option Token → Type 0
ListStops = LastStops (is_mark marks.Comma) ArgumentStops

pub exact_arguments_list : (n : ℕ) (r : ExpressionReaders) → Exacts n r → Exact (arguments_list r) (separated (kinds.Delimiter marks.Comma) (argument_with n)) ListStops
exact_arguments_list n r h =
    exact_separated_last (kinds.Delimiter marks.Comma) refl (argument_in r) (argument_with n) ArgumentStops (exact_argument n r h) comma_ends

abbrev further : ℕ → List ArgumentTree → Tokens → Type 0
further n = each (λ b. mark marks.Comma ⨾ argument_with n b)

further_to : (n : ℕ) (xs : List ArgumentTree) (ts : Tokens) → further n xs ts → spells_further_arguments (arguments_of xs) (Some n) ts
further_to n [] ts g = g
further_to n (x ∷ xs) ts g = (g.0, g.1, g.2, g.3, further_to n xs g.1 g.4)

arguments_to : (n : ℕ) (xs : List ArgumentTree) (ts : Tokens) → separated (kinds.Delimiter marks.Comma) (argument_with n) xs ts
    → spells_arguments (arguments_of xs) (Some n) ts
arguments_to n [] ts g = absurd g
arguments_to n (x ∷ xs) ts g = (g.0, g.1, g.2, g.3, further_to n xs g.1 g.4)

further_back : (n : ℕ) (all : ArgumentTrees) (ts : Tokens) → spells_further_arguments all (Some n) ts
    → (xs : List ArgumentTree) × further n xs ts × (arguments_of xs ≡ all)
further_back n NoArguments ts g = ([], g, refl)
further_back n (MoreArguments a rest) ts g = let h = further_back n rest g.1 g.4 in (a ∷ h.0, (g.0, g.1, g.2, g.3, h.1), ap (MoreArguments a) h.2)

arguments_back : (n : ℕ) (all : ArgumentTrees) (ts : Tokens) → spells_arguments all (Some n) ts
    → (xs : List ArgumentTree) × separated (kinds.Delimiter marks.Comma) (argument_with n) xs ts × (arguments_of xs ≡ all)
arguments_back n NoArguments ts g = absurd g
arguments_back n (MoreArguments a rest) ts g = let h = further_back n rest g.1 g.4 in (a ∷ h.0, (g.0, g.1, g.2, g.3, h.1), ap (MoreArguments a) h.2)

-- ---- selectors

abbrev parens : SelectorTree → Limit → Tokens → Type 0
parens (Arguments all) l ts = (mark marks.LeftParenthesis ⨾ spells_arguments all l ⨾ mark marks.RightParenthesis) ts
parens (Component name) l ts = ⊥
parens (Attribute name) l ts = ⊥

parens_back : (n : ℕ) (y : SelectorTree) (ts : Tokens) → parens y (Some n) ts
    → (x : Unit {0} × (List ArgumentTree × Unit {0}))
    × (mark marks.LeftParenthesis ⨾ separated (kinds.Delimiter marks.Comma) (argument_with n) x.1.0 ⨾ mark marks.RightParenthesis) ts
    × (Arguments (arguments_of x.1.0) ≡ y)
parens_back n (Arguments all) ts g =
    let i = g.4 in
    let h = arguments_back n all i.0 i.3 in
    ((tt, (h.0, tt)), (g.0, g.1, g.2, g.3, (i.0, i.1, i.2, h.1, i.4)), ap Arguments h.2)
parens_back n (Component name) ts g = absurd g
parens_back n (Attribute name) ts g = absurd g

pub exact_arguments : (n : ℕ) (r : ExpressionReaders) → Exacts n r → Exact (arguments_in r) (λ s. parens s (Some n)) Free
exact_arguments n r h =
    exact_mapped (λ x. Arguments (arguments_of x.1.0)) (seq (skip_mark marks.LeftParenthesis) (seq (arguments_list r) (skip_mark marks.RightParenthesis))) _
    (λ s. parens s (Some n)) Free Free
    (exact_seq (skip_mark marks.LeftParenthesis) (seq (arguments_list r) (skip_mark marks.RightParenthesis)) (λ _. mark marks.LeftParenthesis) _ Free Free Free
    (exact_skipped (kinds.Delimiter marks.LeftParenthesis) refl)
    (exact_seq (arguments_list r) (skip_mark marks.RightParenthesis) (separated (kinds.Delimiter marks.Comma) (argument_with n))
    (λ _. mark marks.RightParenthesis) ListStops Free Free
    (exact_arguments_list n r h) (exact_skipped (kinds.Delimiter marks.RightParenthesis) refl)
    (λ xs y v r g st. (list_closed xs v r g, tt)) (λ xs y v r g st t. tt))
    (λ x y v r g st. (tt, tt)) (λ x y v r g st t. tt))
    (λ x ts g. let i = g.4 in (g.0, g.1, g.2, g.3, (i.0, i.1, i.2, arguments_to n x.1.0 i.0 i.3, i.4)))
    (parens_back n) (λ x ts o g st. tt) (λ x ts o g st. tt)
  where
    closes : (x : ArgumentTree) (v r : Tokens) → mark marks.RightParenthesis v → ArgumentStops x (first (v ++ r))
    closes (Value e) v r g = first_token continues_expression (kinds.Delimiter marks.RightParenthesis) v r g
    closes (Text text place) v r g = tt

    list_closed : (xs : List ArgumentTree) (v r : Tokens) → mark marks.RightParenthesis v → ListStops xs (first (v ++ r))
    list_closed xs v r g =
        all_stop (is_mark marks.Comma) ArgumentStops xs (first (v ++ r))
        (first_token (is_kind (kinds.Delimiter marks.Comma)) (kinds.Delimiter marks.RightParenthesis) v r g) (λ x. closes x v r g)

abbrev dotted : SelectorTree → Tokens → Type 0
dotted (Component name) ts = (mark marks.Dot ⨾ identifier name) ts
dotted (Arguments all) ts = ⊥
dotted (Attribute name) ts = ⊥

abbrev ticked : SelectorTree → Tokens → Type 0
ticked (Attribute name) ts = (mark marks.Apostrophe ⨾ identifier name) ts
ticked (Component name) ts = ⊥
ticked (Arguments all) ts = ⊥

abbrev pointed : SelectorTree → Tokens → Type 0
pointed (Component name) ts = (mark marks.Dot ⨾ identifier name) ts
pointed (Attribute name) ts = (mark marks.Apostrophe ⨾ identifier name) ts
pointed (Arguments all) ts = ⊥

pub exact_component : Exact component_of dotted Free
exact_component =
    exact_mapped (λ x. Component x.1) (seq (skip_mark marks.Dot) identifier_of) (Both (λ _. mark marks.Dot) identifier) dotted Free Free
    (exact_seq (skip_mark marks.Dot) identifier_of (λ _. mark marks.Dot) identifier Free Free Free (exact_skipped (kinds.Delimiter marks.Dot) refl)
    exact_identifier (λ x y v r g st. (tt, tt)) (λ x y v r g st t. tt))
    (λ x ts g. g) back (λ x ts o g st. tt) (λ x ts o g st. tt)
  where
    back : (y : SelectorTree) (ts : Tokens) → dotted y ts → (x : Unit {0} × Identifier) × (mark marks.Dot ⨾ identifier x.1) ts × (Component x.1 ≡ y)
    back (Component name) ts g = ((tt, name), g, refl)
    back (Arguments all) ts g = absurd g
    back (Attribute name) ts g = absurd g

pub exact_attribute : Exact attribute_of ticked Free
exact_attribute =
    exact_mapped (λ x. Attribute x.1) (seq (skip_mark marks.Apostrophe) identifier_of) (Both (λ _. mark marks.Apostrophe) identifier) ticked Free Free
    (exact_seq (skip_mark marks.Apostrophe) identifier_of (λ _. mark marks.Apostrophe) identifier Free Free Free
    (exact_skipped (kinds.Delimiter marks.Apostrophe) refl) exact_identifier (λ x y v r g st. (tt, tt)) (λ x y v r g st t. tt))
    (λ x ts g. g) back (λ x ts o g st. tt) (λ x ts o g st. tt)
  where
    back : (y : SelectorTree) (ts : Tokens) → ticked y ts → (x : Unit {0} × Identifier) × (mark marks.Apostrophe ⨾ identifier x.1) ts × (Attribute x.1 ≡ y)
    back (Attribute name) ts g = ((tt, name), g, refl)
    back (Component name) ts g = absurd g
    back (Arguments all) ts g = absurd g

dotted_is : (x : SelectorTree) (s : Tokens) → dotted x s → pointed x s
dotted_is (Component name) s g = g
dotted_is (Arguments all) s g = absurd g
dotted_is (Attribute name) s g = absurd g

ticked_is : (x : SelectorTree) (s : Tokens) → ticked x s → pointed x s
ticked_is (Attribute name) s g = g
ticked_is (Arguments all) s g = absurd g
ticked_is (Component name) s g = absurd g

which_pointed : (x : SelectorTree) (s r : Tokens) → pointed x s
    → ((is_mark marks.Dot (first (s ++ r)) ≡ true) × dotted x s) ⊎ ((is_mark marks.Dot (first (s ++ r)) ≡ false) × ticked x s)
which_pointed (Component name) s r g = inl (first_of (is_kind (kinds.Delimiter marks.Dot)) (kinds.Delimiter marks.Dot) (identifier name) s r g, g)
which_pointed (Attribute name) s r g = inr (first_of (is_kind (kinds.Delimiter marks.Dot)) (kinds.Delimiter marks.Apostrophe) (identifier name) s r g, g)
which_pointed (Arguments all) s r g = absurd g

pub exact_pointed : Exact (choose (is_mark marks.Dot) component_of attribute_of) pointed Free
exact_pointed =
    exact_choose (is_mark marks.Dot) component_of attribute_of dotted ticked pointed Free exact_component exact_attribute dotted_is ticked_is
    (λ x s r g st. which_pointed x s r g)

abbrev pub selector_with : ℕ → SelectorTree → Tokens → Type 0
selector_with k s = spells_selector s (Some k)

parens_is : (k : ℕ) (x : SelectorTree) (s : Tokens) → inside (Some k) (parens x) s → selector_with k x s
parens_is k (Arguments all) s g = g
parens_is zero x s g = absurd g
parens_is (suc k) x s g = absurd g

pointed_is : (k : ℕ) (x : SelectorTree) (s : Tokens) → pointed x s → selector_with k x s
pointed_is k (Component name) s g = g
pointed_is k (Attribute name) s g = g
pointed_is k (Arguments all) s g = absurd g

which_selector : (k : ℕ) (x : SelectorTree) (s r : Tokens) → selector_with k x s
    → ((is_mark marks.LeftParenthesis (first (s ++ r)) ≡ true) × inside (Some k) (parens x) s)
    ⊎ ((is_mark marks.LeftParenthesis (first (s ++ r)) ≡ false) × pointed x s)
which_selector k (Arguments all) s r g =
    inl (
      first_inside (is_kind (kinds.Delimiter marks.LeftParenthesis)) true (Some k) (parens (Arguments all)) s r
          (λ m s g. first_of (is_kind (kinds.Delimiter marks.LeftParenthesis)) (kinds.Delimiter marks.LeftParenthesis) _ s r g) g,
      g,
    )
which_selector k (Component name) s r g =
    inr (first_of (is_kind (kinds.Delimiter marks.LeftParenthesis)) (kinds.Delimiter marks.Dot) (identifier name) s r g, g)
which_selector k (Attribute name) s r g =
    inr (first_of (is_kind (kinds.Delimiter marks.LeftParenthesis)) (kinds.Delimiter marks.Apostrophe) (identifier name) s r g, g)

pub exact_selector : (k : ℕ) (d : Option ExpressionReaders) → Below Exacts k d → Exact (selector_in d) (selector_with k) Free
exact_selector k d b =
    exact_choose (is_mark marks.LeftParenthesis) (opened d arguments_in) (choose (is_mark marks.Dot) component_of attribute_of)
    (λ x. inside (Some k) (parens x)) pointed (selector_with k) Free
    (exact_opened Exacts k d arguments_in parens Free b exact_arguments) exact_pointed (parens_is k) (pointed_is k) (λ x s r g st. which_selector k x s r g)

first_inside_mark : (q : TokenKind → Bool) (k : ℕ) (all : ArgumentTrees) (s r : Tokens) → selector_with k (Arguments all) s
    → is_next q (first (s ++ r)) ≡ q (kinds.Delimiter marks.LeftParenthesis)
first_inside_mark q k all s r g =
    first_inside q (q (kinds.Delimiter marks.LeftParenthesis)) (Some k) (parens (Arguments all)) s r
    (λ m s g. first_of q (kinds.Delimiter marks.LeftParenthesis) _ s r g) g

pub selector_first : (k : ℕ) (x : SelectorTree) (s r : Tokens) → selector_with k x s → begins_selector (first (s ++ r)) ≡ true
selector_first k (Arguments all) s r g = first_inside_mark starts_selector k all s r g
selector_first k (Component name) s r g = first_of starts_selector (kinds.Delimiter marks.Dot) (identifier name) s r g
selector_first k (Attribute name) s r g = first_of starts_selector (kinds.Delimiter marks.Apostrophe) (identifier name) s r g

abbrev pub Any : Option Token → Type 0
Any o = Unit {0}

pub exact_selectors : (k : ℕ) (d : Option ExpressionReaders) → Below Exacts k d → Exact (selectors_in d) (each (selector_with k)) (λ _. Ends starts_selector)
exact_selectors k d b =
    exact_told (selectors_in d) (each (selector_with k)) (each (selector_with k)) (ManyStops begins_selector Any) (λ _. Ends starts_selector)
    (exact_many begins_selector (selector_in d) (selector_with k) Any (exact_selector k d b) (selector_first k) (λ o h. tt) refl)
    (λ x ts g. g) (λ x ts g. g) (λ x ts o g st. all_out x o st) (λ x ts o g st. all_in x o st)
  where
    all_in : (xs : List SelectorTree) (o : Option Token) → Ends starts_selector o → ManyStops begins_selector Any xs o
    all_in [] o st = st
    all_in (x ∷ xs) o st = (st, tt)

    all_out : (xs : List SelectorTree) (o : Option Token) → ManyStops begins_selector Any xs o → Ends starts_selector o
    all_out [] o st = st
    all_out (x ∷ xs) o st = st.0

-- ---- names

selectors_to : (k : ℕ) (xs : List SelectorTree) (ts : Tokens) → each (selector_with k) xs ts → spells_selectors (selectors_of xs) (Some k) ts
selectors_to k [] ts g = g
selectors_to k (x ∷ xs) ts g = (g.0, g.1, g.2, g.3, selectors_to k xs g.1 g.4)

selectors_back : (k : ℕ) (all : SelectorTrees) (ts : Tokens) → spells_selectors all (Some k) ts
    → (xs : List SelectorTree) × each (selector_with k) xs ts × (selectors_of xs ≡ all)
selectors_back k NoSelectors ts g = ([], g, refl)
selectors_back k (MoreSelectors s rest) ts g = let h = selectors_back k rest g.1 g.4 in (s ∷ h.0, (g.0, g.1, g.2, g.3, h.1), ap (MoreSelectors s) h.2)

abbrev named_by : Identifier × List SelectorTree → NameTree
named_by x = record { first = x.0; selectors = selectors_of x.1 }

pub exact_name : (k : ℕ) (d : Option ExpressionReaders) → Below Exacts k d → Exact (name_in d) (spells_name (Some k)) (λ _. Ends starts_selector)
unfolding name_in
exact_name k d b =
    exact_mapped named_by (seq identifier_of (selectors_in d)) (Both identifier (each (selector_with k))) (spells_name (Some k)) (λ _. Ends starts_selector)
    (λ _. Ends starts_selector)
    (exact_seq identifier_of (selectors_in d) identifier (each (selector_with k)) Free (λ _. Ends starts_selector) (λ _. Ends starts_selector) exact_identifier
    (exact_selectors k d b)
    (λ x y v r g st. (tt, st)) (λ x y v r g st t. t))
    (λ x ts g. (g.0, g.1, g.2, g.3, selectors_to k x.1 g.1 g.4)) back (λ x ts o g st. st) (λ x ts o g st. st)
  where
    back : (y : NameTree) (ts : Tokens) → spells_name (Some k) y ts
        → (x : Identifier × List SelectorTree) × (identifier x.0 ⨾ each (selector_with k) x.1) ts × (named_by x ≡ y)
    back y ts g =
        let h = selectors_back k y.selectors g.1 g.4 in
        ((y.first, h.0), (g.0, g.1, g.2, g.3, h.1), ap (λ (z : SelectorTrees). record { first = y.first; selectors = z }) h.2)

-- a name as an expression
abbrev pub as_name : ℕ → ExprTree → Tokens → Type 0
as_name k (Named name all) ts = (identifier name ⨾ spells_selectors all (Some k)) ts
as_name k e ts = ⊥

as_name_back : (k : ℕ) (y : ExprTree) (ts : Tokens) → as_name k y ts → (n : NameTree) × spells_name (Some k) n ts × (Named n.first n.selectors ≡ y)
as_name_back k (Named name all) ts g = (record { first = name; selectors = all }, g, refl)
as_name_back k y ts g = absurd g

pub exact_named : (k : ℕ) (d : Option ExpressionReaders) → Below Exacts k d → Exact (named_in d) (as_name k) (λ _. Ends starts_selector)
exact_named k d b =
    exact_mapped (λ n. Named n.first n.selectors) (name_in d) (spells_name (Some k)) (as_name k) (λ _. Ends starts_selector) (λ _. Ends starts_selector)
    (exact_name k d b)
    (λ x ts g. g) (as_name_back k) (λ x ts o g st. st) (λ x ts o g st. st)
