-- Declarations are read exactly.
use Rattle.lexer.specs.declared.token.TokenKind.TheVariants as kinds
use Rattle.lexer.specs.declared.word.Word.TheVariants as words
use Rattle.lexer.specs.declared.delimiter.Delimiter.TheVariants as marks
use Rattle.ada_tree.specs.declared.declaration.Mode.TheVariants as modes
use Rattle.parser.specs.Reading as reading
use Rattle.std.proofs.Common.{◌≡◌, ℕ, zero, suc, Bool, true, false, List, [], ◌∷◌, ◌++◌, Option, Some, None, refl, sym, ap, subst, append-nil, ◌∙◌, inl, inr}
use Rattle.std.proofs.Common.{◌⊎◌}
use Rattle.lexer.specs.declared.token.Token.{Token}
use Rattle.lexer.specs.declared.token.TokenKind.{TokenKind}
use Rattle.ada_tree.specs.declared.expression.Identifier.{Identifier}
use Rattle.ada_tree.specs.declared.declaration.Mode.{Mode}
use Rattle.ada_tree.specs.declared.declaration.Formal.{Formal}
use Rattle.ada_tree.specs.ExpressionTree.{ExprTree}
use Rattle.ada_tree.specs.StatementTree.{AspectTree, ObjectTree, TaskDefinitionTree, TaskTree, SubprogramTree, EntryTree, OperationTree, OfSubprogram, OfEntry}
use Rattle.ada_tree.specs.StatementTree.{ProtectedComponentTree, ProtectedTree, DeclarationTree, LocalObject, LocalTask, LocalProtected}
use Rattle.ada_tree.specs.Language.{Tokens, nothing, ◌⨾◌, word, word_at, mark, identifier, optional, each, separated, Limit, inside}
use Rattle.ada_tree.specs.StatementGrammar.{range, aspect, initial, constant, object_rest, object, mode, formal, formals, subprogram_with, subprogram, entry}
use Rattle.ada_tree.specs.StatementGrammar.{task_entry, task_definition, task_rest, task, operation, protected_component, private_part, protected_rest}
use Rattle.ada_tree.specs.StatementGrammar.{protected, declaration}
use Rattle.parser.specs.Reading.{first, is_kind, is_first, is_word, is_mark, identifier_of, seq, mapped, opened, skip_mark}
use Rattle.parser.specs.MoreReading.{Either, Left, Right, is_identifier, flag}
use Rattle.parser.specs.ExpressionReading.{ExpressionReaders, values}
use Rattle.parser.specs.DeclarationReading.{range_at, aspect_at, aspect_part, initial_part, object_rest_at, object_of, object_at, mode_of, mode_at, formal_at}
use Rattle.parser.specs.DeclarationReading.{formals_in, formals_at, procedure_at, function_at, subprogram_at, entry_at, task_entry_at, task_definition_at}
use Rattle.parser.specs.DeclarationReading.{task_rest_at, task_of, task_at, operation_of, operation_at, begins_operation, protected_component_at, listed}
use Rattle.parser.specs.DeclarationReading.{protected_rest_at, protected_of, protected_at, declaration_of, declaration_at, begins_declaration, declarations_at}
use Rattle.parser.proofs.general.Exact.{Exact, Free, exact_nothing, exact_either, exact_seq, exact_told}
use Rattle.parser.proofs.general.Several.{ManyStops, exact_skipped, exact_identifier, exact_many, exact_separated, exact_next, next_first, exact_opened}
use Rattle.parser.proofs.general.MoreExact.{Flagged, FlagStops, Any, Heads, heads_then, heads_placed, heads_identifier, many_stop, set_stop, perhaps_stop}
use Rattle.parser.proofs.general.MoreExact.{PerhapsStops, EitherSpells, EitherStops, at_head, at_token, at_past, at_placed, at_name, at_nothing, at_both}
use Rattle.parser.proofs.general.MoreExact.{then_exact, placed_exact, named_exact, past_exact, ended_exact, free_ended, mapped_exact, free_mapped, mapped_then}
use Rattle.parser.proofs.general.MoreExact.{perhaps_exact, flag_exact, either_exact}
use Rattle.parser.proofs.expressions.Followers.{ExpressionStops, SimpleStops}
use Rattle.parser.proofs.expressions.Expressions.{Exacts}
use Rattle.parser.proofs.expressions.Levelled.{below, exact_expression, exact_simple}
use Rattle.parser.proofs.general.Lists.{Shrinking, shrinking}

-- ---- ranges, aspects, initial values

pub dots_stop : (s e : ℕ) → SimpleStops (Some (record { kind = kinds.Delimiter marks.DoubleDot; start = s; end_ = e }))
dots_stop s e = refl

pub semicolon_stops : (s e : ℕ) → ExpressionStops (Some (record { kind = kinds.Delimiter marks.Semicolon; start = s; end_ = e }))
semicolon_stops s e = refl

pub range_exact : (k : ℕ) → Exact (range_at k) (range (Some k)) (λ _. SimpleStops)
range_exact k =
    mapped_exact (λ x. record { first = x.0; last = x.1 }) (range (Some k)) (λ _. SimpleStops)
    (then_exact (exact_simple k) (past_exact (kinds.Delimiter marks.DoubleDot) refl (exact_simple k))
    (λ x y v r g st. at_past SimpleStops (kinds.Delimiter marks.DoubleDot) dots_stop v r g))
    (λ x ts g. g) (λ y ts g. ((y.first, y.last), g, refl)) (λ x o st. st) (λ x o st. st)

pub aspect_exact : (k : ℕ) → Exact (aspect_at k) (aspect (Some k)) (λ _. ExpressionStops)
aspect_exact k =
    mapped_exact (λ x. record { place = x.0; name = x.1.0; value = x.1.1 }) (aspect (Some k)) (λ _. ExpressionStops)
    (placed_exact (kinds.Word words.With) refl (named_exact (past_exact (kinds.Delimiter marks.Arrow) refl (exact_expression k))))
    (λ x ts g. g) (λ y ts g. ((y.place, (y.name, y.value)), g, refl)) (λ x o st. st) (λ x o st. st)

abbrev pub AspectStops : Option AspectTree → Option Token → Type 0
AspectStops = PerhapsStops (is_word words.With) (λ _. ExpressionStops)

pub aspect_part_exact : (k : ℕ) → Exact (aspect_part k) (optional (aspect (Some k))) AspectStops
aspect_part_exact k =
    perhaps_exact (is_word words.With) (aspect_exact k)
    (λ x s r g. at_placed (λ o. is_word words.With o ≡ true) (kinds.Word words.With) x.place (λ _ _. refl) s r g)

abbrev pub InitialStops : Option ExprTree → Option Token → Type 0
InitialStops = PerhapsStops (is_mark marks.Assignment) (λ _. ExpressionStops)

pub initial_exact : (k : ℕ) → Exact (initial_part k) (optional (initial (Some k))) InitialStops
initial_exact k =
    perhaps_exact (is_mark marks.Assignment) (past_exact (kinds.Delimiter marks.Assignment) refl (exact_expression k))
    (λ x s r g. at_past (λ o. is_mark marks.Assignment o ≡ true) (kinds.Delimiter marks.Assignment) (λ _ _. refl) s r g)

pub initial_ends : (x : Option ExprTree) (s e : ℕ) → InitialStops x (Some (record { kind = kinds.Delimiter marks.Semicolon; start = s; end_ = e }))
initial_ends None s e = refl
initial_ends (Some x) s e = semicolon_stops s e

-- ---- objects

constant_to : (b : Bool) (ts : Tokens) → Flagged (kinds.Word words.Constant) b ts → constant b ts
constant_to false ts g = g
constant_to true ts g = g

constant_back : (b : Bool) (ts : Tokens) → constant b ts → Flagged (kinds.Word words.Constant) b ts
constant_back false ts g = g
constant_back true ts g = g

pub constant_exact : Exact (flag (kinds.Word words.Constant)) constant (FlagStops (kinds.Word words.Constant))
constant_exact =
    exact_told (flag (kinds.Word words.Constant)) (Flagged (kinds.Word words.Constant)) constant (FlagStops (kinds.Word words.Constant))
    (FlagStops (kinds.Word words.Constant))
    (flag_exact (kinds.Word words.Constant) refl) constant_to constant_back (λ x ts o g st. st) (λ x ts o g st. st)

abbrev pub semicolon : TokenKind
semicolon = kinds.Delimiter marks.Semicolon

pub object_rest_exact : (k : ℕ) → Exact (object_rest_at k) (λ x. object_rest (Some k) x.0 x.1.0 x.1.1) Free
object_rest_exact k =
    then_exact constant_exact
    (named_exact (ended_exact (initial_exact k) (exact_skipped semicolon refl) (λ x v r g. at_token (InitialStops x) semicolon (initial_ends x) v r g)))
    (λ x y v r g st. at_name (FlagStops (kinds.Word words.Constant) x) y.0 (λ s e. set_stop (kinds.Word words.Constant) _ refl x) v r g)

pub object_exact : (k : ℕ) → Exact (object_at k) (object (Some k)) Free
object_exact k =
    free_mapped (λ x. object_of x.0 x.1) (object (Some k)) (named_exact (past_exact (kinds.Delimiter marks.Colon) refl (object_rest_exact k))) (λ x o. tt)
    (λ x ts g. g) (λ y ts g. ((y.name, (y.constant, (y.subtype, y.value))), g, refl))

-- ---- subprograms and entries

abbrev pub in_word : TokenKind
in_word = kinds.Word words.In

abbrev pub out_word : TokenKind
out_word = kinds.Word words.Out

abbrev pub OutStops : Bool → Bool → Option Token → Type 0
OutStops i false o = FlagStops in_word i o × (is_first out_word o ≡ false)
OutStops i true o = Unit {0}

abbrev pub ModeStops : Bool × Bool → Option Token → Type 0
ModeStops x = OutStops x.0 x.1

pub mode_fits : (i u : Bool) (v r : Tokens) → Flagged out_word u v → OutStops i u (first r)
    → FlagStops in_word i (first (v ++ r)) × FlagStops out_word u (first r)
mode_fits i false v r g st = (at_nothing (FlagStops in_word i) v r g st.0, st.1)
mode_fits i true v r g st = (at_token (FlagStops in_word i) out_word (λ s e. set_stop in_word _ refl i) v r g, tt)

mode_stop : (i u : Bool) (v r : Tokens) → Flagged out_word u v → FlagStops in_word i (first (v ++ r)) → FlagStops out_word u (first r) → OutStops i u (first r)
mode_stop i false v r g st h = (subst (λ (z : Tokens). FlagStops in_word i (first (z ++ r))) g st, h)
mode_stop i true v r g st h = tt

pub flags_exact : Exact (seq (flag in_word) (flag out_word)) (λ x. Flagged in_word x.0 ⨾ Flagged out_word x.1) ModeStops
flags_exact =
    exact_seq (flag in_word) (flag out_word) (Flagged in_word) (Flagged out_word) (FlagStops in_word) (FlagStops out_word) ModeStops (flag_exact in_word refl)
    (flag_exact out_word refl) mode_fits mode_stop

out_at_name : (i u : Bool) (o : Option Token) → is_first in_word o ≡ false → is_first out_word o ≡ false → OutStops i u o
out_at_name i false o h g = (set_stop in_word o h i, g)
out_at_name i true o h g = tt

mode_to : (i u : Bool) (ts : Tokens) → (Flagged in_word i ⨾ Flagged out_word u) ts → mode (mode_of i u) ts
mode_to false false ts g = inl (g.2 ∙ ap (λ (z : Tokens). z ++ g.1) g.3 ∙ g.4)
mode_to true false ts g = inr (g.3.0, g.2 ∙ ap (λ (z : Tokens). g.0 ++ z) g.4 ∙ append-nil g.0 ∙ g.3.1, g.3.2)
mode_to false true ts g = (g.4.0, g.2 ∙ ap (λ (z : Tokens). z ++ g.1) g.3 ∙ g.4.1, g.4.2)
mode_to true true ts g = g

mode_back : (m : Mode) (ts : Tokens) → mode m ts → (x : Bool × Bool) × (Flagged in_word x.0 ⨾ Flagged out_word x.1) ts × (mode_of x.0 x.1 ≡ m)
mode_back modes.In ts (inl g) = ((false, false), ([], [], g, refl, refl), refl)
mode_back modes.In ts (inr g) = ((true, false), (ts, [], sym (append-nil ts), g, refl), refl)
mode_back modes.Out ts g = ((false, true), ([], ts, refl, refl, g), refl)
mode_back modes.InOut ts g = ((true, true), g, refl)

pub mode_then : Exact (seq mode_at identifier_of) (λ x. mode x.0 ⨾ identifier x.1) Free
mode_then =
    mapped_then (λ x. mode_of x.0 x.1) mode flags_exact exact_identifier
    (λ x y v r g st. at_head (ModeStops x) (kinds.Identifier y.name) (identifier y) (heads_identifier y) (λ s e. out_at_name x.0 x.1 _ refl refl) v r g)
    (λ x ts g. mode_to x.0 x.1 ts g) mode_back

pub formal_exact : Exact formal_at formal Free
formal_exact =
    free_mapped (λ x. record { name = x.0; mode = x.1.0; subtype = x.1.1 }) formal (named_exact (past_exact (kinds.Delimiter marks.Colon) refl mode_then))
    (λ x o. tt)
    (λ x ts g. g) (λ y ts g. ((y.name, (y.mode, y.subtype)), g, refl))

-- in their parentheses
abbrev pub InParentheses : List Formal → Limit → Tokens → Type 0
InParentheses all l = mark marks.LeftParenthesis ⨾ separated semicolon formal all ⨾ mark marks.RightParenthesis

pub formals_in_exact : (n : ℕ) (r : ExpressionReaders) → Exact (formals_in r) (λ all. InParentheses all (Some n)) Free
formals_in_exact n r =
    past_exact (kinds.Delimiter marks.LeftParenthesis) refl
    (ended_exact (exact_separated semicolon refl formal_at formal Any formal_exact (λ o h. tt)) (exact_skipped (kinds.Delimiter marks.RightParenthesis) refl)
    (λ x v r g. at_token (λ o. (is_first semicolon o ≡ false) × Any o) (kinds.Delimiter marks.RightParenthesis) (λ s e. (refl, tt)) v r g))

-- where a level may be opened
abbrev pub SomeFormals : ℕ → List Formal → Tokens → Type 0
SomeFormals k all = inside (Some k) (InParentheses all)

pub some_formals_exact : (k : ℕ) → Exact (opened (values k) formals_in) (SomeFormals k) Free
some_formals_exact k = exact_opened Exacts k (values k) formals_in InParentheses Free (below k) (λ n r h. formals_in_exact n r)

abbrev pub FormalsStops : List Formal → Option Token → Type 0
FormalsStops [] o = is_mark marks.LeftParenthesis o ≡ false
FormalsStops (f ∷ rest) o = Unit {0}

parentheses_first : (k : ℕ) (x : List Formal) (s r : Tokens) → SomeFormals k x s → is_mark marks.LeftParenthesis (first (s ++ r)) ≡ true
parentheses_first zero x s r g = absurd g
parentheses_first (suc k) x s r g = at_past (λ o. is_mark marks.LeftParenthesis o ≡ true) (kinds.Delimiter marks.LeftParenthesis) (λ _ _. refl) s r g

no_formals : (k : ℕ) (s : Tokens) → SomeFormals k [] s → ⊥
no_formals zero s g = g
no_formals (suc k) s g = g.4.3

formals_some : (k : ℕ) (x : List Formal) (s r : Tokens) → SomeFormals k x s → formals (Some k) x s × FormalsStops x (first r)
formals_some k [] s r g = absurd (no_formals k s g)
formals_some k (f ∷ rest) s r g = (g, tt)

formals_none : (k : ℕ) (x : List Formal) (s r : Tokens) → (x ≡ []) × (s ≡ []) → is_mark marks.LeftParenthesis (first (s ++ r)) ≡ false
    → formals (Some k) x s × FormalsStops x (first r)
formals_none k [] s r g h = (g.1, subst (λ (z : Tokens). is_mark marks.LeftParenthesis (first (z ++ r)) ≡ false) g.1 h)
formals_none k (f ∷ rest) s r g h = absurd cc

formals_which : (k : ℕ) (x : List Formal) (s r : Tokens) → formals (Some k) x s → FormalsStops x (first r)
    → ((is_mark marks.LeftParenthesis (first (s ++ r)) ≡ true) × SomeFormals k x s × Free x (first r))
    ⊎ ((is_mark marks.LeftParenthesis (first (s ++ r)) ≡ false) × ((x ≡ []) × (s ≡ [])) × Free x (first r))
formals_which k [] s r g st = inr (subst (λ (z : Tokens). is_mark marks.LeftParenthesis (first (z ++ r)) ≡ false) (sym g) st, (refl, g), tt)
formals_which k (f ∷ rest) s r g st = inl (parentheses_first k (f ∷ rest) s r g, g, tt)

pub formals_exact : (k : ℕ) → Exact (formals_at k) (formals (Some k)) FormalsStops
formals_exact k =
    exact_either (is_mark marks.LeftParenthesis) (opened (values k) formals_in) (reading.nothing []) (SomeFormals k) (λ x s. (x ≡ []) × (s ≡ []))
    (formals (Some k)) Free Free FormalsStops (some_formals_exact k) (exact_nothing [])
    (λ x s r g st h. formals_some k x s r g) (λ x s r g st h. formals_none k x s r g h) (formals_which k)

pub formals_stop : (o : Option Token) → is_mark marks.LeftParenthesis o ≡ false → (x : List Formal) → FormalsStops x o
formals_stop o h [] = h
formals_stop o h (f ∷ rest) = tt

abbrev pub OnFunction : ℕ → SubprogramTree → Tokens → Type 0
OnFunction k d s =
    (result : Identifier) × (d.result ≡ Some result)
    × (word_at words.Function d.place ⨾ identifier d.name ⨾ formals (Some k) d.formals ⨾ word words.Return ⨾ identifier result) s

abbrev pub OnProcedure : ℕ → SubprogramTree → Tokens → Type 0
OnProcedure k d s = (d.result ≡ None) × (word_at words.Procedure d.place ⨾ identifier d.name ⨾ formals (Some k) d.formals) s

pub function_exact : (k : ℕ) → Exact (function_at k) (OnFunction k) Free
function_exact k =
    free_mapped (λ x. record { place = x.0; name = x.1.0; formals = x.1.1.0; result = Some x.1.1.1 }) (OnFunction k)
    (placed_exact (kinds.Word words.Function) refl (named_exact (then_exact (formals_exact k) (past_exact (kinds.Word words.Return) refl exact_identifier)
    (λ x y v r g st. at_past (FormalsStops x) (kinds.Word words.Return) (λ s e. formals_stop _ refl x) v r g))))
    (λ x o. tt) (λ x ts g. (x.1.1.1, refl, g))
    (λ y ts g. (
      (y.place, (y.name, (y.formals, g.0))),
      g.2,
      ap (λ (z : Option Identifier). record { place = y.place; name = y.name; formals = y.formals; result = z }) (sym g.1),
    ))

pub procedure_exact : (k : ℕ) → Exact (procedure_at k) (OnProcedure k) (λ d. FormalsStops d.formals)
procedure_exact k =
    mapped_exact (λ x. record { place = x.0; name = x.1.0; formals = x.1.1; result = None }) (OnProcedure k) (λ d. FormalsStops d.formals)
    (placed_exact (kinds.Word words.Procedure) refl (named_exact (formals_exact k)))
    (λ x ts g. (refl, g))
    (λ y ts g. (
      (y.place, (y.name, y.formals)),
      g.1,
      ap (λ (z : Option Identifier). record { place = y.place; name = y.name; formals = y.formals; result = z })
          (sym g.0),
    ))
    (λ x o st. st) (λ x o st. st)

abbrev pub ResultStops : Option Identifier → List Formal → Option Token → Type 0
ResultStops None all o = FormalsStops all o
ResultStops (Some result) all o = Unit {0}

abbrev pub SubprogramStops : SubprogramTree → Option Token → Type 0
SubprogramStops d = ResultStops d.result d.formals

pub subprogram_stop : (o : Option Token) → is_mark marks.LeftParenthesis o ≡ false → (d : SubprogramTree) → SubprogramStops d o
subprogram_stop o h d = result_stop d.result d.formals
  where
    result_stop : (x : Option Identifier) (all : List Formal) → ResultStops x all o
    result_stop None all = formals_stop o h all
    result_stop (Some result) all = tt

pub function_is : (k : ℕ) (place : ℕ) (name : Identifier) (all : List Formal) (x : Option Identifier) (s r : Tokens)
    → OnFunction k (record { place = place; name = name; formals = all; result = x }) s
    → subprogram_with (Some k) place name all x s × ResultStops x all (first r)
function_is k place name all None s r g = absurd cc
function_is k place name all (Some result) s r g =
    let same : result ≡ g.0 = cc in
    (subst (λ (z : Identifier). subprogram_with (Some k) place name all (Some z) s) (sym same) g.2, tt)

pub procedure_is : (k : ℕ) (place : ℕ) (name : Identifier) (all : List Formal) (x : Option Identifier) (s r : Tokens)
    → OnProcedure k (record { place = place; name = name; formals = all; result = x }) s → FormalsStops all (first r)
    → subprogram_with (Some k) place name all x s × ResultStops x all (first r)
procedure_is k place name all None s r g st = (g.1, st)
procedure_is k place name all (Some result) s r g st = absurd cc

abbrev pub is_function : Option Token → Bool
is_function = is_word words.Function

subprogram_which : (k : ℕ) (place : ℕ) (name : Identifier) (all : List Formal) (x : Option Identifier) (s r : Tokens)
    → subprogram_with (Some k) place name all x s → ResultStops x all (first r)
    → ((is_function (first (s ++ r)) ≡ true) × OnFunction k (record { place = place; name = name; formals = all; result = x }) s × Any (first r))
    ⊎ ((is_function (first (s ++ r)) ≡ false) × OnProcedure k (record { place = place; name = name; formals = all; result = x }) s × FormalsStops all (first r))
subprogram_which k place name all None s r g st =
    inr (at_placed (λ o. is_function o ≡ false) (kinds.Word words.Procedure) place (λ _ _. refl) s r g, (refl, g), st)
subprogram_which k place name all (Some result) s r g st =
    inl (at_placed (λ o. is_function o ≡ true) (kinds.Word words.Function) place (λ _ _. refl) s r g, (result, refl, g), tt)

pub subprogram_exact : (k : ℕ) → Exact (subprogram_at k) (subprogram (Some k)) SubprogramStops
subprogram_exact k =
    exact_either is_function (function_at k) (procedure_at k) (OnFunction k) (OnProcedure k) (subprogram (Some k)) Free (λ d. FormalsStops d.formals)
    SubprogramStops (function_exact k) (procedure_exact k)
    (λ x s r g st h. function_is k x.place x.name x.formals x.result s r g)
    (λ x s r g st h. procedure_is k x.place x.name x.formals x.result s r g st)
    (λ x s r g st. subprogram_which k x.place x.name x.formals x.result s r g st)

-- what is so at `procedure` and at `function` is so where a subprogram begins
pub at_subprogram : (X : Option Token → Type 0) → ((start end : ℕ) → X (Some (record { kind = kinds.Word words.Procedure; start = start; end_ = end })))
    → ((start end : ℕ) → X (Some (record { kind = kinds.Word words.Function; start = start; end_ = end }))) → (k : ℕ) (d : SubprogramTree) (s r : Tokens)
    → subprogram (Some k) d s → X (first (s ++ r))
at_subprogram X xp xf k d s r g = at_result d.result g
  where
    at_result : (x : Option Identifier) → subprogram_with (Some k) d.place d.name d.formals x s → X (first (s ++ r))
    at_result None h = at_placed X (kinds.Word words.Procedure) d.place xp s r h
    at_result (Some result) h = at_placed X (kinds.Word words.Function) d.place xf s r h

pub entry_exact : (k : ℕ) → Exact (entry_at k) (entry (Some k)) (λ d. FormalsStops d.formals)
entry_exact k =
    mapped_exact (λ x. record { place = x.0; name = x.1.0; formals = x.1.1 }) (entry (Some k)) (λ d. FormalsStops d.formals)
    (placed_exact (kinds.Word words.Entry) refl (named_exact (formals_exact k)))
    (λ x ts g. g) (λ y ts g. ((y.place, (y.name, y.formals)), g, refl)) (λ x o st. st) (λ x o st. st)

-- ---- tasks

pub task_entry_exact : Exact task_entry_at task_entry Free
task_entry_exact =
    free_mapped (λ x. record { place = x.0; name = x.1 }) task_entry
    (placed_exact (kinds.Word words.Entry) refl (free_ended exact_identifier (exact_skipped semicolon refl))) (λ x o. tt)
    (λ x ts g. g) (λ y ts g. ((y.place, y.name), g, refl))

pub task_definition_exact : Exact task_definition_at task_definition Free
task_definition_exact =
    free_mapped (λ x. record { entries = x.0; end_name = x.1 }) task_definition
    (past_exact (kinds.Word words.Is) refl (then_exact
    (exact_many (is_word words.Entry) task_entry_at task_entry Any task_entry_exact
    (λ x s r g. at_placed (λ o. is_word words.Entry o ≡ true) (kinds.Word words.Entry) x.place (λ _ _. refl) s r g) (λ o h. tt) refl)
    (past_exact (kinds.Word words.End) refl exact_identifier)
    (λ x y v r g st. at_past (ManyStops (is_word words.Entry) Any x) (kinds.Word words.End) (λ s e. many_stop (is_word words.Entry) Any _ refl tt x) v r g)))
    (λ x o. tt) (λ x ts g. g) (λ y ts g. ((y.entries, y.end_name), g, refl))

pub is_stops : (s e : ℕ) → ExpressionStops (Some (record { kind = kinds.Word words.Is; start = s; end_ = e }))
is_stops s e = refl

pub aspect_before : (k : TokenKind) → ((s e : ℕ) → ExpressionStops (Some (record { kind = k; start = s; end_ = e })))
    → is_kind (kinds.Word words.With) k ≡ false
    → (x : Option AspectTree) (s e : ℕ) → AspectStops x (Some (record { kind = k; start = s; end_ = e }))
aspect_before k stops other None s e = other
aspect_before k stops other (Some x) s e = stops s e

task_aspect : (x : Option AspectTree) (y : Option TaskDefinitionTree) (v r : Tokens) → (optional task_definition y ⨾ mark marks.Semicolon) v
    → AspectStops x (first (v ++ r))
task_aspect x None v r g =
    at_both (AspectStops x) nothing (mark marks.Semicolon) v r g
    (λ s t h i. at_nothing (AspectStops x) s (t ++ r) h (at_token (AspectStops x) semicolon (aspect_before semicolon semicolon_stops refl x) t r i))
task_aspect x (Some d) v r g =
    at_both (AspectStops x) (task_definition d) (mark marks.Semicolon) v r g
    (λ s t h i. at_past (AspectStops x) (kinds.Word words.Is) (aspect_before (kinds.Word words.Is) is_stops refl x) s (t ++ r) h)

pub task_rest_exact : (k : ℕ) → Exact (task_rest_at k) (λ x. task_rest (Some k) x.0 x.1.0 x.1.1) Free
task_rest_exact k =
    named_exact (then_exact (aspect_part_exact k)
    (ended_exact
    (perhaps_exact (is_word words.Is) task_definition_exact (λ x s r g. at_past (λ o. is_word words.Is o ≡ true) (kinds.Word words.Is) (λ _ _. refl) s r g))
    (exact_skipped semicolon refl)
    (λ x v r g. at_token (PerhapsStops (is_word words.Is) Free x) semicolon (λ s e. perhaps_stop (is_word words.Is) Free _ refl (λ _. tt) x) v r g))
    (λ x y v r g st. task_aspect x y v r g))

pub task_exact : (k : ℕ) → Exact (task_at k) (task (Some k)) Free
task_exact k =
    free_mapped (λ x. task_of x.0 x.1) (task (Some k)) (placed_exact (kinds.Word words.Task) refl (task_rest_exact k)) (λ x o. tt)
    (λ x ts g. g) (λ y ts g. ((y.place, (y.name, (y.aspect, y.definition))), g, refl))

-- ---- protected objects

pub entry_heads : (k : ℕ) (d : EntryTree) → Heads (kinds.Word words.Entry) (entry (Some k) d)
entry_heads k d =
    heads_then (kinds.Word words.Entry) (word_at words.Entry d.place) (identifier d.name ⨾ formals (Some k) d.formals)
    (heads_placed (kinds.Word words.Entry) d.place)

subprogram_aspect : (k : ℕ) (x : SubprogramTree) (y : Option AspectTree) (v r : Tokens) → (optional (aspect (Some k)) y ⨾ mark marks.Semicolon) v
    → SubprogramStops x (first (v ++ r))
subprogram_aspect k x None v r g =
    at_both (SubprogramStops x) nothing (mark marks.Semicolon) v r g
    (λ s t h i. at_nothing (SubprogramStops x) s (t ++ r) h (at_token (SubprogramStops x) semicolon (λ b e. subprogram_stop _ refl x) t r i))
subprogram_aspect k x (Some a) v r g =
    at_both (SubprogramStops x) (aspect (Some k) a) (mark marks.Semicolon) v r g
    (λ s t h i. at_placed (SubprogramStops x) (kinds.Word words.With) a.place (λ b e. subprogram_stop _ refl x) s (t ++ r) h)

abbrev pub EntryOrSubprogram : ℕ → Either EntryTree (SubprogramTree × Option AspectTree) → Tokens → Type 0
EntryOrSubprogram k =
    EitherSpells (λ d. entry (Some k) d ⨾ mark marks.Semicolon) (λ d. subprogram (Some k) d.0 ⨾ optional (aspect (Some k)) d.1 ⨾ mark marks.Semicolon)

operation_to : (k : ℕ) (x : Either EntryTree (SubprogramTree × Option AspectTree)) (ts : Tokens) → EntryOrSubprogram k x ts → operation (Some k) (operation_of x) ts
operation_to k (Left d) ts g = g
operation_to k (Right d) ts g = g

operation_back : (k : ℕ) (y : OperationTree) (ts : Tokens) → operation (Some k) y ts
    → (x : Either EntryTree (SubprogramTree × Option AspectTree)) × EntryOrSubprogram k x ts × (operation_of x ≡ y)
operation_back k (OfSubprogram d a) ts g = (Right (d, a), g, refl)
operation_back k (OfEntry d) ts g = (Left d, g, refl)

either_free : {A B : Type 0} (x : Either A B) (o : Option Token) → EitherStops {A = A} {B = B} Free Free x o
either_free (Left x) o = tt
either_free (Right x) o = tt

pub operation_exact : (k : ℕ) → Exact (operation_at k) (operation (Some k)) Free
operation_exact k =
    free_mapped operation_of (operation (Some k))
    (either_exact (is_word words.Entry)
    (ended_exact (entry_exact k) (exact_skipped semicolon refl)
    (λ x v r g. at_token (FormalsStops x.formals) semicolon (λ s e. formals_stop _ refl x.formals) v r g))
    (then_exact (subprogram_exact k)
    (ended_exact (aspect_part_exact k) (exact_skipped semicolon refl)
    (λ x v r g. at_token (AspectStops x) semicolon (aspect_before semicolon semicolon_stops refl x) v r g))
    (λ x y v r g st. subprogram_aspect k x y v r g))
    (λ x s r g. at_head (λ o. is_word words.Entry o ≡ true) (kinds.Word words.Entry) (entry (Some k) x ⨾ mark marks.Semicolon)
    (heads_then (kinds.Word words.Entry) (entry (Some k) x) (mark marks.Semicolon) (entry_heads k x)) (λ _ _. refl) s r g)
    (λ y s r g st. at_both (λ o. is_word words.Entry o ≡ false) (subprogram (Some k) y.0) (optional (aspect (Some k)) y.1 ⨾ mark marks.Semicolon) s r g
    (λ u v h i. at_subprogram (λ o. is_word words.Entry o ≡ false) (λ _ _. refl) (λ _ _. refl) k y.0 u (v ++ r) h)))
    either_free (operation_to k) (operation_back k)

pub operation_begins : (k : ℕ) (x : OperationTree) (s r : Tokens) → operation (Some k) x s → begins_operation (first (s ++ r)) ≡ true
operation_begins k (OfSubprogram d a) s r g =
    at_both (λ o. begins_operation o ≡ true) (subprogram (Some k) d) (optional (aspect (Some k)) a ⨾ mark marks.Semicolon) s r g
    (λ u v h i. at_subprogram (λ o. begins_operation o ≡ true) (λ _ _. refl) (λ _ _. refl) k d u (v ++ r) h)
operation_begins k (OfEntry d) s r g =
    at_head (λ o. begins_operation o ≡ true) (kinds.Word words.Entry) (entry (Some k) d ⨾ mark marks.Semicolon)
    (heads_then (kinds.Word words.Entry) (entry (Some k) d) (mark marks.Semicolon) (entry_heads k d)) (λ _ _. refl) s r g

pub protected_component_exact : (k : ℕ) → Exact (protected_component_at k) (protected_component (Some k)) Free
protected_component_exact k =
    free_mapped (λ x. record { name = x.0; subtype = x.1.0; value = x.1.1 }) (protected_component (Some k))
    (named_exact (past_exact (kinds.Delimiter marks.Colon) refl (named_exact
    (ended_exact (initial_exact k) (exact_skipped semicolon refl) (λ x v r g. at_token (InitialStops x) semicolon (initial_ends x) v r g)))))
    (λ x o. tt) (λ x ts g. g) (λ y ts g. ((y.name, (y.subtype, y.value)), g, refl))

abbrev pub PrivatePart : ℕ → Option (List ProtectedComponentTree) → Tokens → Type 0
PrivatePart k = optional (λ all. word words.Private ⨾ each (protected_component (Some k)) all)

private_to : (k : ℕ) (x : Option (List ProtectedComponentTree)) (ts : Tokens) → PrivatePart k x ts → private_part (Some k) (listed x) ts
private_to k None ts g = inl g
private_to k (Some []) ts g = inr (g.3.0, g.2 ∙ ap (λ (z : Tokens). g.0 ++ z) g.4 ∙ append-nil g.0 ∙ g.3.1, g.3.2)
private_to k (Some (c ∷ rest)) ts g = g

private_back : (k : ℕ) (y : List ProtectedComponentTree) (ts : Tokens) → private_part (Some k) y ts
    → (x : Option (List ProtectedComponentTree)) × PrivatePart k x ts × (listed x ≡ y)
private_back k [] ts (inl g) = (None, g, refl)
private_back k [] ts (inr g) = (Some [], (ts, [], sym (append-nil ts), g, refl), refl)
private_back k (c ∷ rest) ts g = (Some (c ∷ rest), g, refl)

pub protected_rest_exact : (k : ℕ) → Exact (protected_rest_at k) (λ x. protected_rest (Some k) x.0 x.1.0 x.1.1.0 x.1.1.1.0 x.1.1.1.1) Free
protected_rest_exact k =
    let end = past_exact (kinds.Word words.End) refl (free_ended exact_identifier (exact_skipped semicolon refl)) in
    let components =
    exact_many is_identifier (protected_component_at k) (protected_component (Some k)) Any (protected_component_exact k)
    (λ x s r g. at_name (λ o. is_identifier o ≡ true) x.name (λ _ _. refl) s r g) (λ o h. tt) refl in
    let private =
    perhaps_exact (is_word words.Private) (past_exact (kinds.Word words.Private) refl components)
    (λ x s r g. at_past (λ o. is_word words.Private o ≡ true) (kinds.Word words.Private) (λ _ _. refl) s r g) in
    let after_operations =
    mapped_then listed (private_part (Some k)) private end
    (λ x y v r g st. at_past (PerhapsStops (is_word words.Private) (ManyStops is_identifier Any) x) (kinds.Word words.End)
    (λ s e. perhaps_stop (is_word words.Private) (ManyStops is_identifier Any) _ refl (many_stop is_identifier Any _ refl tt) x) v r g)
    (private_to k) (private_back k) in
    named_exact (then_exact (aspect_part_exact k)
    (past_exact (kinds.Word words.Is) refl
    (then_exact (exact_many begins_operation (operation_at k) (operation (Some k)) Any (operation_exact k) (operation_begins k) (λ o h. tt) refl)
    after_operations
    (λ x y v r g st. at_both (ManyStops begins_operation Any x) (private_part (Some k) y.0) _ v r g
    (λ s t h i. private_first k x y.0 s (t ++ r) h
    (at_past (ManyStops begins_operation Any x) (kinds.Word words.End) (λ s e. many_stop begins_operation Any _ refl tt x) t r i)))))
    (λ x y v r g st. at_past (AspectStops x) (kinds.Word words.Is) (aspect_before (kinds.Word words.Is) is_stops refl x) v r g))
  where
    private_first : (k : ℕ) (x : List OperationTree) (y : List ProtectedComponentTree) (s r : Tokens) → private_part (Some k) y s
        → ManyStops begins_operation Any x (first r) → ManyStops begins_operation Any x (first (s ++ r))
    private_first k x [] s r (inl g) st = at_nothing (ManyStops begins_operation Any x) s r g st
    private_first k x [] s r (inr g) st =
        at_token (ManyStops begins_operation Any x) (kinds.Word words.Private) (λ s e. many_stop begins_operation Any _ refl tt x) s r g
    private_first k x (c ∷ rest) s r g st =
        at_past (ManyStops begins_operation Any x) (kinds.Word words.Private) (λ s e. many_stop begins_operation Any _ refl tt x) s r g

pub protected_exact : (k : ℕ) → Exact (protected_at k) (protected (Some k)) Free
protected_exact k =
    free_mapped (λ x. protected_of x.0 x.1) (protected (Some k)) (placed_exact (kinds.Word words.Protected) refl (protected_rest_exact k)) (λ x o. tt)
    (λ x ts g. g) (λ y ts g. ((y.place, (y.name, (y.aspect, (y.operations, (y.components, y.end_name))))), g, refl))

-- ---- declarations

abbrev pub SomeDeclaration : ℕ → Either TaskTree (Either ProtectedTree ObjectTree) → Tokens → Type 0
SomeDeclaration k = EitherSpells (task (Some k)) (EitherSpells (protected (Some k)) (object (Some k)))

declaration_to : (k : ℕ) (x : Either TaskTree (Either ProtectedTree ObjectTree)) (ts : Tokens) → SomeDeclaration k x ts
    → declaration (Some k) (declaration_of x) ts
declaration_to k (Left d) ts g = g
declaration_to k (Right (Left d)) ts g = g
declaration_to k (Right (Right d)) ts g = g

declaration_back : (k : ℕ) (y : DeclarationTree) (ts : Tokens) → declaration (Some k) y ts
    → (x : Either TaskTree (Either ProtectedTree ObjectTree)) × SomeDeclaration k x ts × (declaration_of x ≡ y)
declaration_back k (LocalObject d) ts g = (Right (Right d), g, refl)
declaration_back k (LocalTask d) ts g = (Left d, g, refl)
declaration_back k (LocalProtected d) ts g = (Right (Left d), g, refl)

no_task : (k : ℕ) (y : Either ProtectedTree ObjectTree) (s r : Tokens) → EitherSpells (protected (Some k)) (object (Some k)) y s
    → is_word words.Task (first (s ++ r)) ≡ false
no_task k (Left d) s r g = at_placed (λ o. is_word words.Task o ≡ false) (kinds.Word words.Protected) d.place (λ _ _. refl) s r g
no_task k (Right d) s r g = at_name (λ o. is_word words.Task o ≡ false) d.name (λ _ _. refl) s r g

declaration_free : (x : Either TaskTree (Either ProtectedTree ObjectTree)) (o : Option Token) → EitherStops Free (EitherStops Free Free) x o
declaration_free (Left x) o = tt
declaration_free (Right (Left x)) o = tt
declaration_free (Right (Right x)) o = tt

pub declaration_exact : (k : ℕ) → Exact (declaration_at k) (declaration (Some k)) Free
declaration_exact k =
    free_mapped declaration_of (declaration (Some k))
    (either_exact (is_word words.Task) (task_exact k)
    (either_exact (is_word words.Protected) (protected_exact k) (object_exact k)
    (λ x s r g. at_placed (λ o. is_word words.Protected o ≡ true) (kinds.Word words.Protected) x.place (λ _ _. refl) s r g)
    (λ y s r g st. at_name (λ o. is_word words.Protected o ≡ false) y.name (λ _ _. refl) s r g))
    (λ x s r g. at_placed (λ o. is_word words.Task o ≡ true) (kinds.Word words.Task) x.place (λ _ _. refl) s r g)
    (λ y s r g st. no_task k y s r g))
    declaration_free (declaration_to k) (declaration_back k)

pub declaration_begins : (k : ℕ) (x : DeclarationTree) (s r : Tokens) → declaration (Some k) x s → begins_declaration (first (s ++ r)) ≡ true
declaration_begins k (LocalObject d) s r g = at_name (λ o. begins_declaration o ≡ true) d.name (λ _ _. refl) s r g
declaration_begins k (LocalTask d) s r g = at_placed (λ o. begins_declaration o ≡ true) (kinds.Word words.Task) d.place (λ _ _. refl) s r g
declaration_begins k (LocalProtected d) s r g = at_placed (λ o. begins_declaration o ≡ true) (kinds.Word words.Protected) d.place (λ _ _. refl) s r g

pub declarations_exact : (k : ℕ) → Exact (declarations_at k) (each (declaration (Some k))) (ManyStops begins_declaration Any)
declarations_exact k = exact_many begins_declaration (declaration_at k) (declaration (Some k)) Any (declaration_exact k) (declaration_begins k) (λ o h. tt) refl

-- ---- loops

pub task_entry_turns : Shrinking (is_word words.Entry) task_entry_at
task_entry_turns =
    shrinking (is_word words.Entry) task_entry_exact
    (λ x s r g. at_placed (λ o. is_word words.Entry o ≡ true) (kinds.Word words.Entry) x.place (λ _ _. refl) s r g) refl

pub operation_turns : (k : ℕ) → Shrinking begins_operation (operation_at k)
operation_turns k = shrinking begins_operation (operation_exact k) (operation_begins k) refl

pub component_turns : (k : ℕ) → Shrinking is_identifier (protected_component_at k)
component_turns k = shrinking is_identifier (protected_component_exact k) (λ x s r g. at_name (λ o. is_identifier o ≡ true) x.name (λ _ _. refl) s r g) refl

pub declaration_turns : (k : ℕ) → Shrinking begins_declaration (declaration_at k)
declaration_turns k = shrinking begins_declaration (declaration_exact k) (declaration_begins k) refl

pub formal_turns : Shrinking (is_mark marks.Semicolon) (mapped (λ x. x.1) (seq (skip_mark marks.Semicolon) formal_at))
formal_turns =
    shrinking (is_mark marks.Semicolon) (exact_next semicolon refl formal_at formal Free formal_exact (λ x o h. tt))
    (next_first semicolon refl formal_at formal Free formal_exact (λ x o h. tt)) refl
