-- Sets of token lists: what one token, one thing after another, and so on spell.
use Rattle.std.specs.Prelude.{◌≡◌, ℕ, zero, suc, Bool, true, List, [], ◌∷◌, ◌++◌, Option, Some, None}
use Rattle.lexer.specs.declared.token.Token.{Token}
use Rattle.lexer.specs.declared.token.TokenKind.{TokenKind}
use Rattle.lexer.specs.declared.token.TokenKind.TheVariants as kinds
use Rattle.lexer.specs.declared.word.Word.{Word}
use Rattle.lexer.specs.declared.delimiter.Delimiter.{Delimiter}
use Rattle.ada_tree.specs.declared.expression.Identifier.{Identifier}

abbrev pub Tokens : Type 0
Tokens = List Token

-- no list at all
abbrev pub never : Tokens → Type 0
never ts = ⊥

-- no tokens
abbrev pub nothing : Tokens → Type 0
nothing ts = ts ≡ []

-- the one, and then the other
infixr 4 ◌⨾◌
abbrev pub ◌⨾◌ : (Tokens → Type 0) → (Tokens → Type 0) → Tokens → Type 0
(p ⨾ q) ts = (u : Tokens) × (v : Tokens) × (ts ≡ u ++ v) × p u × q v

-- these, where the test holds
abbrev pub where_true : Bool → (Tokens → Type 0) → Tokens → Type 0
where_true b p ts = (b ≡ true) × p ts

-- a token of this kind
abbrev pub token : TokenKind → Tokens → Type 0
token k ts = (t : Token) × (ts ≡ t ∷ []) × (t.kind ≡ k)

abbrev pub word : Word → Tokens → Type 0
word w = token (kinds.Word w)

abbrev pub mark : Delimiter → Tokens → Type 0
mark d = token (kinds.Delimiter d)

-- a token of this kind that begins at the place
abbrev pub token_at : TokenKind → ℕ → Tokens → Type 0
token_at k place ts = (t : Token) × (ts ≡ t ∷ []) × (t.kind ≡ k) × (t.start ≡ place)

abbrev pub word_at : Word → ℕ → Tokens → Type 0
word_at w = token_at (kinds.Word w)

abbrev pub mark_at : Delimiter → ℕ → Tokens → Type 0
mark_at d = token_at (kinds.Delimiter d)

abbrev pub identifier : Identifier → Tokens → Type 0
identifier i = token_at (kinds.Identifier i.name) i.place

-- one of them, if there is one
abbrev pub optional : {A : Type 0} → (A → Tokens → Type 0) → Option A → Tokens → Type 0
optional p None = nothing
optional p (Some a) = p a

-- all of them, in order
abbrev pub each : {A : Type 0} → (A → Tokens → Type 0) → List A → Tokens → Type 0
each p [] = nothing
each p (a ∷ rest) = p a ⨾ each p rest

-- one or more of them, in order
abbrev pub some : {A : Type 0} → (A → Tokens → Type 0) → List A → Tokens → Type 0
some p [] = never
some p (a ∷ rest) = p a ⨾ each p rest

-- one or more of them, with this token between them
abbrev pub separated : {A : Type 0} → TokenKind → (A → Tokens → Type 0) → List A → Tokens → Type 0
separated k p [] = never
separated k p (a ∷ rest) = p a ⨾ each (λ b. token k ⨾ p b) rest

-- How many more levels may be opened. None: any number.
abbrev pub Limit : Type 0
Limit = Option ℕ

-- A level is opened: what is spelled with a limit, with one less of it.
abbrev pub inside : Limit → (Limit → Tokens → Type 0) → Tokens → Type 0
inside None p = p None
inside (Some zero) p = never
inside (Some (suc n)) p = p (Some n)
