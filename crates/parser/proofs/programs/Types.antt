-- Types are read exactly.
use Rattle.lexer.specs.declared.token.TokenKind.TheVariants as kinds
use Rattle.lexer.specs.declared.word.Word.TheVariants as words
use Rattle.lexer.specs.declared.delimiter.Delimiter.TheVariants as marks
use Rattle.parser.specs.Reading as reading
use Rattle.std.proofs.Common.{◌≡◌, ℕ, zero, suc, Bool, true, false, List, [], ◌++◌, Option, Some, None, refl, sym, ap, subst, append-nil, ◌∙◌, inl, inr, ◌⊎◌}
use Rattle.lexer.specs.declared.token.Token.{Token}
use Rattle.lexer.specs.declared.token.TokenKind.{TokenKind}
use Rattle.ada_tree.specs.declared.expression.Identifier.{Identifier}
use Rattle.ada_tree.specs.declared.declaration.Component.{Component}
use Rattle.ada_tree.specs.ExpressionTree.{ExprTree, Named, NoSelectors, bare_name}
use Rattle.ada_tree.specs.StatementTree.{RangeTree}
use Rattle.ada_tree.specs.ProgramTree.{IndexTree, OfRange, OfSubtype, DefinitionTree, Integer, Array, Record, Subtype}
use Rattle.ada_tree.specs.Language.{Tokens, never, ◌⨾◌, word, mark, identifier, some, Limit, inside}
use Rattle.ada_tree.specs.ExpressionGrammar.{Simple, derives}
use Rattle.ada_tree.specs.StatementGrammar.{range}
use Rattle.ada_tree.specs.ProgramGrammar.{index, record_component}
use Rattle.parser.specs.Reading.{first, is_word, is_mark, mapped, refuse, opened}
use Rattle.parser.specs.MoreReading.{is_identifier, past_mark}
use Rattle.parser.specs.ExpressionReading.{simple_at}
use Rattle.parser.specs.StatementReading.{Readers, readers}
use Rattle.parser.specs.ProgramReading.{named_index, index_rest_at, index_at, index_in, array_index_at, component_at, integer_at, array_at, record_at}
use Rattle.parser.specs.ProgramReading.{definition_at}
use Rattle.parser.proofs.general.Exact.{Exact, Free, exact_nothing, exact_refuse, exact_either, exact_choose, exact_told, exact_after}
use Rattle.parser.proofs.general.Several.{exact_skipped, exact_identifier, exact_several, exact_opened}
use Rattle.parser.proofs.general.MoreExact.{Any, at_token, at_past, at_name, at_nothing, free_then, named_exact, past_exact, ended_exact, free_ended}
use Rattle.parser.proofs.general.MoreExact.{mapped_exact, free_mapped}
use Rattle.parser.proofs.expressions.Followers.{SimpleStops}
use Rattle.parser.proofs.expressions.Levelled.{exact_simple}
use Rattle.parser.proofs.declarations.Declarations.{dots_stop, range_exact}
use Rattle.parser.proofs.statements.Statements.{Holds, below}

abbrev pub semicolon : TokenKind
semicolon = kinds.Delimiter marks.Semicolon

abbrev pub end_word : TokenKind
end_word = kinds.Word words.End

-- an identifier and a semicolon
abbrev pub name_end : Exact (reading.identifier_of) identifier Free
name_end = exact_identifier

-- ---- types

abbrev pub OnName : Option Identifier → IndexTree → Tokens → Type 0
OnName o (OfRange r) v = ⊥
OnName o (OfSubtype n) v = (o ≡ Some n) × (v ≡ [])

none_to : (y : IndexTree) (v : Tokens) → OnName None y v → ⊥
none_to (OfRange r) v g = g
none_to (OfSubtype n) v g = absurd cc

some_to : (name : Identifier) (y : IndexTree) (v : Tokens) → (y ≡ OfSubtype name) × (v ≡ []) → OnName (Some name) y v
some_to name (OfRange r) v g = absurd cc
some_to name (OfSubtype n) v g = let same : name ≡ n = cc in (ap Some same, g.1)

some_back : (name : Identifier) (y : IndexTree) (v : Tokens) → OnName (Some name) y v → (y ≡ OfSubtype name) × (v ≡ [])
some_back name (OfRange r) v g = absurd g
some_back name (OfSubtype n) v g = let same : n ≡ name = cc in (ap OfSubtype same, g.1)

pub named_index_exact : (o : Option Identifier) → Exact (named_index o) (OnName o) Free
named_index_exact None =
    exact_told (refuse false) (λ _. never) (OnName None) Free Free (exact_refuse false Free) (λ x ts g. absurd g) none_to (λ x ts o g st. st)
    (λ x ts o g st. st)
named_index_exact (Some name) =
    exact_told (reading.nothing (OfSubtype name)) (λ y ts. (y ≡ OfSubtype name) × (ts ≡ [])) (OnName (Some name)) Free Free (exact_nothing (OfSubtype name))
    (some_to name) (some_back name) (λ x ts o g st. st) (λ x ts o g st. st)

module _ (k : ℕ) where
  abbrev pub l : Limit
  l = Some k

  abbrev pub OnRange : ExprTree → IndexTree → Tokens → Type 0
  OnRange x (OfRange r) v = (r.first ≡ x) × (mark marks.DoubleDot ⨾ derives Simple l r.last) v
  OnRange x (OfSubtype n) v = ⊥

  abbrev pub IndexRest : ExprTree → IndexTree → Tokens → Type 0
  IndexRest x (OfRange r) v = (r.first ≡ x) × (mark marks.DoubleDot ⨾ derives Simple l r.last) v
  IndexRest x (OfSubtype n) v = (bare_name x ≡ Some n) × (v ≡ [])

  abbrev pub is_dots : Option Token → Bool
  is_dots = is_mark marks.DoubleDot

  abbrev pub RestStops : ExprTree → IndexTree → Option Token → Type 0
  RestStops x (OfRange r) o = SimpleStops o
  RestStops x (OfSubtype n) o = is_dots o ≡ false

  abbrev pub IndexStops : IndexTree → Option Token → Type 0
  IndexStops (OfRange r) o = SimpleStops o
  IndexStops (OfSubtype n) o = SimpleStops o × (is_dots o ≡ false)

  range_back : (x : ExprTree) (y : IndexTree) (v : Tokens) → OnRange x y v
      → (z : ExprTree) × (mark marks.DoubleDot ⨾ derives Simple l z) v × (OfRange (record { first = x; last = z }) ≡ y)
  range_back x (OfRange r) v g = (r.last, g.1, ap (λ (z : ExprTree). OfRange (record { first = z; last = r.last })) (sym g.0))
  range_back x (OfSubtype n) v g = absurd g

  pub range_rest_exact : (x : ExprTree)
      → Exact (mapped (λ y. OfRange (record { first = x; last = y })) (past_mark marks.DoubleDot (simple_at k))) (OnRange x) (λ _. SimpleStops)
  range_rest_exact x =
      mapped_exact (λ y. OfRange (record { first = x; last = y })) (OnRange x) (λ _. SimpleStops)
      (past_exact (kinds.Delimiter marks.DoubleDot) refl (exact_simple k))
      (λ y ts g. (refl, g)) (range_back x) (λ y o st. st) (λ y o st. st)

  from_range : (x : ExprTree) (y : IndexTree) (s r : Tokens) → OnRange x y s → SimpleStops (first r) → IndexRest x y s × RestStops x y (first r)
  from_range x (OfRange q) s r g st = (g, st)
  from_range x (OfSubtype n) s r g st = absurd g

  from_name : (x : ExprTree) (y : IndexTree) (s r : Tokens) → OnName (bare_name x) y s → is_dots (first (s ++ r)) ≡ false
      → IndexRest x y s × RestStops x y (first r)
  from_name x (OfRange q) s r g h = absurd g
  from_name x (OfSubtype n) s r g h = (g, subst (λ (z : Tokens). is_dots (first (z ++ r)) ≡ false) g.1 h)

  which_rest : (x : ExprTree) (y : IndexTree) (s r : Tokens) → IndexRest x y s → RestStops x y (first r)
      → ((is_dots (first (s ++ r)) ≡ true) × OnRange x y s × SimpleStops (first r))
      ⊎ ((is_dots (first (s ++ r)) ≡ false) × OnName (bare_name x) y s × Any (first r))
  which_rest x (OfRange q) s r g st = inl (at_past (λ o. is_dots o ≡ true) (kinds.Delimiter marks.DoubleDot) (λ _ _. refl) s r g.1, g, st)
  which_rest x (OfSubtype n) s r g st = inr (subst (λ (z : Tokens). is_dots (first (z ++ r)) ≡ false) (sym g.1) st, g, tt)

  pub index_rest_exact : (x : ExprTree) → Exact (index_rest_at k x) (IndexRest x) (RestStops x)
  index_rest_exact x =
      exact_either is_dots _ (named_index (bare_name x)) (OnRange x) (OnName (bare_name x)) (IndexRest x) (λ _. SimpleStops) Free (RestStops x)
      (range_rest_exact x) (named_index_exact (bare_name x))
      (λ y s r g st h. from_range x y s r g st) (λ y s r g st h. from_name x y s r g h) (which_rest x)

  bare : (x : ExprTree) (n : Identifier) (u : Tokens) → bare_name x ≡ Some n → derives Simple l x u → identifier n u
  bare (Named name NoSelectors) n u e g =
      let same : name ≡ n = cc in
      subst (λ (z : Identifier). identifier z u) same (subst (identifier name) (sym (g.1.2 ∙ ap (λ (z : Tokens). g.1.0 ++ z) g.1.4 ∙ append-nil g.1.0)) g.1.3)
  bare x n u e g = absurd cc

  index_to : (x : ExprTree) (y : IndexTree) (u v : Tokens) → derives Simple l x u → IndexRest x y v → index l y (u ++ v)
  index_to x (OfRange r) u v g h = (u, v, refl, subst (λ (z : ExprTree). derives Simple l z u) (sym h.0) g, h.1)
  index_to x (OfSubtype n) u v g h = subst (identifier n) (sym (ap (λ (z : Tokens). u ++ z) h.1 ∙ append-nil u)) (bare x n u h.0 g)

  index_back : (y : IndexTree) (ts : Tokens) → index l y ts → (x : ExprTree) × (derives Simple l x ⨾ IndexRest x y) ts
  index_back (OfRange r) ts g = (r.first, (g.0, g.1, g.2, g.3, (refl, g.4)))
  index_back (OfSubtype n) ts g = (Named n NoSelectors, (ts, [], sym (append-nil ts), (refl, (ts, [], sym (append-nil ts), g, refl)), (refl, refl)))

  pub index_fits : (x : ExprTree) (y : IndexTree) (v r : Tokens) → IndexRest x y v → IndexStops y (first r)
      → SimpleStops (first (v ++ r)) × RestStops x y (first r)
  index_fits x (OfRange q) v r g st = (at_past SimpleStops (kinds.Delimiter marks.DoubleDot) dots_stop v r g.1, st)
  index_fits x (OfSubtype n) v r g st = (at_nothing SimpleStops v r g.1 st.0, st.1)

  index_stop : (x : ExprTree) (y : IndexTree) (v r : Tokens) → IndexRest x y v → SimpleStops (first (v ++ r)) → RestStops x y (first r) → IndexStops y (first r)
  index_stop x (OfRange q) v r g st h = h
  index_stop x (OfSubtype n) v r g st h = (subst (λ (z : Tokens). SimpleStops (first (z ++ r))) g.1 st, h)

  pub index_exact : Exact (index_at k) (index l) IndexStops
  index_exact =
      exact_after (simple_at k) (index_rest_at k) (derives Simple l) IndexRest (λ _. SimpleStops) RestStops (index l) IndexStops (exact_simple k)
      index_rest_exact index_to index_back index_fits index_stop

  pub index_end : (y : IndexTree) (s e : ℕ) → IndexStops y (Some (record { kind = kinds.Delimiter marks.RightParenthesis; start = s; end_ = e }))
  index_end (OfRange q) s e = refl
  index_end (OfSubtype n) s e = (refl, refl)

abbrev pub InParentheses : IndexTree → Limit → Tokens → Type 0
InParentheses y m = mark marks.LeftParenthesis ⨾ index m y ⨾ mark marks.RightParenthesis

pub index_in_exact : (r : Readers) → Exact (index_in r) (λ y. InParentheses y (Some r.levels)) Free
index_in_exact r =
    past_exact (kinds.Delimiter marks.LeftParenthesis) refl (ended_exact (index_exact r.levels) (exact_skipped (kinds.Delimiter marks.RightParenthesis) refl)
    (λ y v s g. at_token (IndexStops r.levels y) (kinds.Delimiter marks.RightParenthesis) (index_end r.levels y) v s g))

abbrev pub is_open : Option Token → Bool
is_open = is_mark marks.LeftParenthesis

parentheses_first : (k : ℕ) (y : IndexTree) (s r : Tokens) → inside (Some k) (InParentheses y) s → is_open (first (s ++ r)) ≡ true
parentheses_first zero y s r g = absurd g
parentheses_first (suc k) y s r g = at_past (λ o. is_open o ≡ true) (kinds.Delimiter marks.LeftParenthesis) (λ _ _. refl) s r g

pub array_index_exact : (k : ℕ) → Exact (array_index_at k) (λ y. inside (Some k) (InParentheses y)) Free
array_index_exact k =
    exact_choose is_open (opened (readers k) index_in) (refuse false) (λ y. inside (Some k) (InParentheses y)) (λ _. never)
    (λ y. inside (Some k) (InParentheses y)) Free
    (exact_opened Holds k (readers k) index_in InParentheses Free (below k)
    (λ n r h. subst (λ (n : ℕ). Exact (index_in r) (λ y. InParentheses y (Some n)) Free) h.0 (index_in_exact r)))
    (exact_refuse false Free) (λ x s g. g) (λ x s g. absurd g) (λ x s r g st. inl (parentheses_first k x s r g, g))

pub component_of_exact : Exact component_at record_component Free
component_of_exact =
    free_mapped (λ x. record { name = x.0; subtype = x.1 }) record_component
    (named_exact (past_exact (kinds.Delimiter marks.Colon) refl (free_ended exact_identifier (exact_skipped semicolon refl)))) (λ x o. tt)
    (λ x ts g. g) (λ y ts g. ((y.name, y.subtype), g, refl))

-- what follows `is`
abbrev pub Definition : ℕ → DefinitionTree → Tokens → Type 0
Definition k (Integer r) = word words.Range ⨾ range (Some k) r ⨾ mark marks.Semicolon
Definition k (Array i components) =
    word words.Array ⨾ inside (Some k) (λ l. mark marks.LeftParenthesis ⨾ index l i ⨾ mark marks.RightParenthesis) ⨾ word words.Of ⨾ identifier
    components ⨾ mark marks.Semicolon
Definition k (Record components) = word words.Record ⨾ some record_component components ⨾ word words.End ⨾ word words.Record ⨾ mark marks.Semicolon
Definition k (Subtype parent r) = never

abbrev pub OnInteger : ℕ → DefinitionTree → Tokens → Type 0
OnInteger k (Integer r) = Definition k (Integer r)
OnInteger k d = never

abbrev pub OnArray : ℕ → DefinitionTree → Tokens → Type 0
OnArray k (Array i components) = Definition k (Array i components)
OnArray k d = never

abbrev pub OnRecord : DefinitionTree → Tokens → Type 0
OnRecord (Record components) = Definition 0 (Record components)
OnRecord d = never

abbrev pub NoInteger : ℕ → DefinitionTree → Tokens → Type 0
NoInteger k (Array i components) = Definition k (Array i components)
NoInteger k (Record components) = Definition k (Record components)
NoInteger k d = never

integer_back : (k : ℕ) (y : DefinitionTree) (ts : Tokens) → OnInteger k y ts
    → (x : RangeTree) × (word words.Range ⨾ range (Some k) x ⨾ mark marks.Semicolon) ts × (Integer x ≡ y)
integer_back k (Integer r) ts g = (r, g, refl)
integer_back k d ts g = absurd g

pub range_ends : (s e : ℕ) → SimpleStops (Some (record { kind = semicolon; start = s; end_ = e }))
range_ends s e = refl

pub integer_exact : (k : ℕ) → Exact (integer_at k) (OnInteger k) Free
integer_exact k =
    free_mapped Integer (OnInteger k)
    (past_exact (kinds.Word words.Range) refl
    (ended_exact (range_exact k) (exact_skipped semicolon refl) (λ x v r g. at_token SimpleStops semicolon range_ends v r g))) (λ x o. tt)
    (λ x ts g. g) (integer_back k)

array_back : (k : ℕ) (y : DefinitionTree) (ts : Tokens) → OnArray k y ts
    → (x : IndexTree × Identifier) × (word words.Array ⨾ inside (Some k) (InParentheses x.0) ⨾ word words.Of ⨾ identifier x.1 ⨾ mark marks.Semicolon) ts
    × (Array x.0 x.1 ≡ y)
array_back k (Array i components) ts g = ((i, components), g, refl)
array_back k d ts g = absurd g

pub array_exact : (k : ℕ) → Exact (array_at k) (OnArray k) Free
array_exact k =
    free_mapped (λ x. Array x.0 x.1) (OnArray k)
    (past_exact (kinds.Word words.Array) refl
    (free_then (array_index_exact k) (past_exact (kinds.Word words.Of) refl (free_ended exact_identifier (exact_skipped semicolon refl))))) (λ x o. tt)
    (λ x ts g. g) (array_back k)

record_back : (y : DefinitionTree) (ts : Tokens) → OnRecord y ts
    → (x : List Component) × (word words.Record ⨾ some record_component x ⨾ word words.End ⨾ word words.Record ⨾ mark marks.Semicolon) ts × (Record x ≡ y)
record_back (Record components) ts g = (components, g, refl)
record_back d ts g = absurd g

pub record_exact : Exact record_at OnRecord Free
record_exact =
    free_mapped Record OnRecord
    (past_exact (kinds.Word words.Record) refl (ended_exact
    (exact_several is_identifier component_at record_component Any component_of_exact
    (λ x s r g. at_name (λ o. is_identifier o ≡ true) x.name (λ _ _. refl) s r g) (λ o h. tt) refl)
    (past_exact end_word refl (past_exact (kinds.Word words.Record) refl (exact_skipped semicolon refl)))
    (λ x v r g. at_past (λ o. (is_identifier o ≡ false) × Any o) end_word (λ _ _. (refl, tt)) v r g)))
    (λ x o. tt) (λ x ts g. g) record_back

pub array_is : (k : ℕ) (y : DefinitionTree) (s : Tokens) → OnArray k y s → NoInteger k y s
array_is k (Array i components) s g = g
array_is k (Integer r) s g = absurd g
array_is k (Record components) s g = absurd g
array_is k (Subtype parent r) s g = absurd g

pub record_is : (k : ℕ) (y : DefinitionTree) (s : Tokens) → OnRecord y s → NoInteger k y s
record_is k (Record components) s g = g
record_is k (Integer r) s g = absurd g
record_is k (Array i components) s g = absurd g
record_is k (Subtype parent r) s g = absurd g

array_or_record : (k : ℕ) (y : DefinitionTree) (s r : Tokens) → NoInteger k y s → Any (first r)
    → ((is_word words.Array (first (s ++ r)) ≡ true) × OnArray k y s) ⊎ ((is_word words.Array (first (s ++ r)) ≡ false) × OnRecord y s)
array_or_record k (Array i components) s r g st = inl (at_past (λ o. is_word words.Array o ≡ true) (kinds.Word words.Array) (λ _ _. refl) s r g, g)
array_or_record k (Record components) s r g st = inr (at_past (λ o. is_word words.Array o ≡ false) (kinds.Word words.Record) (λ _ _. refl) s r g, g)
array_or_record k (Integer q) s r g st = absurd g
array_or_record k (Subtype parent q) s r g st = absurd g

pub integer_is : (k : ℕ) (y : DefinitionTree) (s : Tokens) → OnInteger k y s → Definition k y s
integer_is k (Integer r) s g = g
integer_is k (Array i components) s g = absurd g
integer_is k (Record components) s g = absurd g
integer_is k (Subtype parent r) s g = absurd g

pub no_integer_is : (k : ℕ) (y : DefinitionTree) (s : Tokens) → NoInteger k y s → Definition k y s
no_integer_is k (Array i components) s g = g
no_integer_is k (Record components) s g = g
no_integer_is k (Integer r) s g = absurd g
no_integer_is k (Subtype parent r) s g = absurd g

integer_or_not : (k : ℕ) (y : DefinitionTree) (s r : Tokens) → Definition k y s → Any (first r)
    → ((is_word words.Range (first (s ++ r)) ≡ true) × OnInteger k y s) ⊎ ((is_word words.Range (first (s ++ r)) ≡ false) × NoInteger k y s)
integer_or_not k (Integer q) s r g st = inl (at_past (λ o. is_word words.Range o ≡ true) (kinds.Word words.Range) (λ _ _. refl) s r g, g)
integer_or_not k (Array i components) s r g st = inr (at_past (λ o. is_word words.Range o ≡ false) (kinds.Word words.Array) (λ _ _. refl) s r g, g)
integer_or_not k (Record components) s r g st = inr (at_past (λ o. is_word words.Range o ≡ false) (kinds.Word words.Record) (λ _ _. refl) s r g, g)
integer_or_not k (Subtype parent q) s r g st = absurd g

pub definition_exact : (k : ℕ) → Exact (definition_at k) (Definition k) Free
definition_exact k =
    exact_choose (is_word words.Range) (integer_at k) _ (OnInteger k) (NoInteger k) (Definition k) Free (integer_exact k)
    (exact_choose (is_word words.Array) (array_at k) record_at (OnArray k) OnRecord (NoInteger k) Free (array_exact k) record_exact (array_is k) (record_is k)
    (array_or_record k))
    (integer_is k) (no_integer_is k) (integer_or_not k)
