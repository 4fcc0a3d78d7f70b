-- Reading tokens from left to right, with the first fault that is met.
use Rattle.std.specs.Prelude.{◌≡◌, ℕ, zero, suc, Bool, true, false, List, [], ◌∷◌, length, Option, Some, None, Result, Ok, Err, if◌then◌else◌}
use denote.Enum.Bare.{sameb}
use Rattle.lexer.specs.declared.token.Token.{Token}
use Rattle.lexer.specs.declared.token.TokenKind.{TokenKind}
use Rattle.lexer.specs.declared.token.TokenKind.TheVariants as kinds
use Rattle.lexer.specs.declared.word.Word.{Word}
use Rattle.lexer.specs.declared.delimiter.Delimiter.{Delimiter}
use Rattle.lexer.specs.contracts.word.Word as word_type
use Rattle.lexer.specs.contracts.delimiter.Delimiter as delimiter_type
use Rattle.ada_tree.specs.declared.expression.Identifier.{Identifier}
use Rattle.ada_tree.specs.Language.{Tokens}
use Rattle.parser.specs.declared.refusal.Broken.{Broken}
use Rattle.parser.specs.declared.refusal.Refusal.{Refusal}
use Rattle.parser.specs.declared.refusal.Refusal.TheVariants as refusals

-- a value and the tokens after it, or the first fault
abbrev pub Read : Type 0 → Type 0
Read A = Result (A × Tokens) Broken

abbrev pub Reader : Type 0 → Type 0
Reader A = Tokens → Read A

infixl 10 ◌>>=◌
abbrev pub ◌>>=◌ : {A B : Type 0} → Result A Broken → (A → Result B Broken) → Result B Broken
(Ok x) >>= f = f x
(Err e) >>= f = Err e

abbrev pub first : Tokens → Option Token
first [] = None
first (t ∷ ts) = Some t

abbrev pub behind : Tokens → Tokens
behind [] = []
behind (t ∷ ts) = ts

abbrev pub refuse : {A : Type 0} → Bool → Reader A
refuse deep ts = Err (record { deep = deep; left = length ts })

-- What a function returned, seen by view, with the tokens that it left, is what reading gives, unless memory was refused.
abbrev pub Fails : {Y : Type 0} → Refusal → Result Y Broken → Type 0
Fails refusals.Memory read = Unit {0}
Fails (refusals.Broken f) read = read ≡ Err f

abbrev pub Gives : {X A : Type 0} → (X → A) → Result X Refusal → Tokens → Read A → Type 0
Gives view (Ok x) after read = read ≡ Ok (view x, after)
Gives view (Err e) after read = Fails e read

-- ---- one token

-- words and delimiters alone
abbrev pub is_kind : TokenKind → TokenKind → Bool
is_kind (kinds.Word w) (kinds.Word v) = sameb word_type.the_type v w
is_kind (kinds.Delimiter d) (kinds.Delimiter e) = sameb delimiter_type.the_type e d
is_kind k other = false

-- what a test of kinds says of the next token
abbrev pub is_next : (TokenKind → Bool) → Option Token → Bool
is_next p None = false
is_next p (Some t) = p t.kind

abbrev pub is_first : TokenKind → Option Token → Bool
is_first k = is_next (is_kind k)

abbrev pub is_word : Word → Option Token → Bool
is_word w = is_first (kinds.Word w)

abbrev pub is_mark : Delimiter → Option Token → Bool
is_mark d = is_first (kinds.Delimiter d)

abbrev pub taken : {A : Type 0} → Option A → Token → Reader A
taken None t ts = refuse false (t ∷ ts)
taken (Some a) t ts = Ok (a, ts)

-- what the table has for the kind of the next token, and that token's place
abbrev pub entry_of : {A : Type 0} → (TokenKind → ℕ → Option A) → Reader A
entry_of f [] = refuse false []
entry_of f (t ∷ ts) = taken (f t.kind t.start) t ts

-- is there an entry for this kind?
abbrev pub is_there : {A : Type 0} → Option A → Bool
is_there None = false
is_there (Some a) = true

abbrev pub just : TokenKind → TokenKind → ℕ → Option ℕ
just k other place = if is_kind k other then Some place else None

-- A token of just this kind. It gives its place.
abbrev pub token_of : TokenKind → Reader ℕ
token_of k = entry_of (just k)

abbrev pub word_of : Word → Reader ℕ
word_of w = token_of (kinds.Word w)

abbrev pub mark_of : Delimiter → Reader ℕ
mark_of d = token_of (kinds.Delimiter d)

-- a token of just this kind, whose place counts for nothing
abbrev pub skipped : TokenKind → Reader (Unit {0})
skipped k ts = token_of k ts >>= λ x. Ok (tt, x.1)

abbrev pub skip_word : Word → Reader (Unit {0})
skip_word w = skipped (kinds.Word w)

abbrev pub skip_mark : Delimiter → Reader (Unit {0})
skip_mark d = skipped (kinds.Delimiter d)

abbrev pub named : TokenKind → ℕ → Option Identifier
named (kinds.Identifier name) place = Some (record { name = name; place = place })
named other place = None

abbrev pub identifier_of : Reader Identifier
identifier_of = entry_of named

-- ---- what is made of readers

-- one after the other
abbrev pub seq : {A B : Type 0} → Reader A → Reader B → Reader (A × B)
seq a b ts = a ts >>= λ x. b x.1 >>= λ y. Ok ((x.0, y.0), y.1)

-- one, and then what hangs on its value
abbrev pub after : {A B : Type 0} → Reader A → (A → Reader B) → Reader B
after a b ts = a ts >>= λ x. b x.0 x.1

-- a reader's value, changed
abbrev pub mapped : {A B : Type 0} → (A → B) → Reader A → Reader B
mapped f a ts = a ts >>= λ x. Ok (f x.0, x.1)

-- which one, as the next token says
abbrev pub choose : {A : Type 0} → (Option Token → Bool) → Reader A → Reader A → Reader A
choose p a b ts = if p (first ts) then a ts else b ts

-- as long as the next token passes the test. The number bounds the turns; the count of the tokens is always enough
abbrev pub many_at : {A : Type 0} → (Option Token → Bool) → Reader A → ℕ → Reader (List A)
many_at p a zero ts = Ok ([], ts)
many_at p a (suc n) ts = if p (first ts) then (a ts >>= λ x. many_at p a n x.1 >>= λ xs. Ok (x.0 ∷ xs.0, xs.1)) else Ok ([], ts)

abbrev pub many : {A : Type 0} → (Option Token → Bool) → Reader A → Reader (List A)
many p a ts = many_at p a (length ts) ts

-- one or more
abbrev pub several : {A : Type 0} → (Option Token → Bool) → Reader A → Reader (List A)
several p a = mapped (λ x. x.0 ∷ x.1) (seq a (many p a))

-- one or more, with tokens of this kind between them
abbrev pub separated_by : {A : Type 0} → TokenKind → Reader A → Reader (List A)
separated_by k a = mapped (λ x. x.0 ∷ x.1) (seq a (many (is_first k) (mapped (λ x. x.1) (seq (skipped k) a))))

abbrev pub nothing : {A : Type 0} → A → Reader A
nothing a ts = Ok (a, ts)

-- one, behind which no token may come that passes the test
abbrev pub checked : {A : Type 0} → (Option Token → Bool) → A × Tokens → Read A
checked p x = if p (first x.1) then refuse false x.1 else Ok x

abbrev pub closed : {A : Type 0} → (Option Token → Bool) → Reader A → Reader A
closed p a ts = a ts >>= checked p

-- ---- levels

-- What is read with the readers one level down. None: no level may be opened, and the next token is at fault.
abbrev pub opened : {R A : Type 0} → Option R → (R → Reader A) → Reader A
opened None f ts = refuse true ts
opened (Some r) f ts = f r ts

-- one level is opened, or none may be
abbrev pub OpensLevel : ℕ → Tokens → Result ℕ Refusal → Type 0
OpensLevel levels ts (Ok inside) = levels ≡ suc inside
OpensLevel levels ts (Err e) = (levels ≡ 0) × (e ≡ refusals.Broken (record { deep = true; left = length ts }))
