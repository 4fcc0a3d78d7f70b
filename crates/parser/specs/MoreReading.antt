-- Readers for tokens whose places are not kept, for parts that may be left out, and for choices between parts of different kinds.
use Rattle.std.specs.Prelude.{Bool, true, false, Option, Some, None, Ok, if◌then◌else◌}
use Rattle.lexer.specs.declared.token.Token.{Token}
use Rattle.lexer.specs.declared.token.TokenKind.{TokenKind}
use Rattle.lexer.specs.declared.token.TokenKind.TheVariants as kinds
use Rattle.lexer.specs.declared.word.Word.{Word}
use Rattle.lexer.specs.declared.delimiter.Delimiter.{Delimiter}
use Rattle.parser.specs.Reading.{Reader, ◌>>=◌, first, is_next, is_first, token_of, mapped, choose, nothing}

-- past a token of this kind
abbrev pub past : {A : Type 0} → TokenKind → Reader A → Reader A
past k a ts = token_of k ts >>= λ x. a x.1

abbrev pub past_word : {A : Type 0} → Word → Reader A → Reader A
past_word w = past (kinds.Word w)

abbrev pub past_mark : {A : Type 0} → Delimiter → Reader A → Reader A
past_mark d = past (kinds.Delimiter d)

-- one, and then what has no value
abbrev pub ended : {A : Type 0} → Reader A → Reader (Unit {0}) → Reader A
ended a b ts = a ts >>= λ x. b x.1 >>= λ y. Ok (x.0, y.1)

-- one, if the next token passes the test
abbrev pub perhaps : {A : Type 0} → (Option Token → Bool) → Reader A → Reader (Option A)
perhaps p a = choose p (mapped Some a) (nothing None)

-- Does a token of this kind come next? It is gone past.
abbrev pub flag : TokenKind → Reader Bool
flag k = choose (is_first k) (mapped (λ place. true) (token_of k)) (nothing false)

-- the one or the other
pub data Either (A B : Type 0) : Type 0 where
  Left : A → Either A B
  Right : B → Either A B

-- the one, if the next token passes the test, and else the other
abbrev pub either : {A B : Type 0} → (Option Token → Bool) → Reader A → Reader B → Reader (Either A B)
either p a b = choose p (mapped Left a) (mapped Right b)

-- the word that a token is, if it is one
abbrev pub word_in : TokenKind → Option Word
word_in (kinds.Word w) = Some w
word_in k = None

abbrev pub next_word : Option Token → Option Word
next_word None = None
next_word (Some t) = word_in t.kind

-- what the next word says
abbrev pub by_word : {A : Type 0} → (Option Word → Reader A) → Reader A
by_word f ts = f (next_word (first ts)) ts

abbrev pub is_name : TokenKind → Bool
is_name (kinds.Identifier name) = true
is_name k = false

abbrev pub is_identifier : Option Token → Bool
is_identifier = is_next is_name

abbrev pub is_not : (Option Token → Bool) → Option Token → Bool
is_not p o = if p o then false else true
