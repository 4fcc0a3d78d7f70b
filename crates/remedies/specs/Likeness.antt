-- What is declared in a text, or by the language, with a name like one that isn't visible: a letter more, less, another one, or two exchanged.
use Rattle.std.specs.Prelude.{ℕ, zero, suc, ◌-◌, ◌&&◌, ◌||◌, Bool, true, false, List, [], ◌∷◌, bytes_eq, if◌then◌else◌, length, nat_eq, nat_le, Option, Some, None}
use Rattle.lexer.specs.declared.delimiter.Delimiter.TheVariants as delimiters
use Rattle.lexer.specs.declared.token.Token.{Token}
use Rattle.lexer.specs.declared.token.TokenKind.{TokenKind}
use Rattle.lexer.specs.declared.token.TokenKind.TheVariants as kinds
use Rattle.lexer.specs.declared.word.Word.{Word}
use Rattle.lexer.specs.declared.word.Word.TheVariants as words
use Rattle.lexer.specs.Words.{spelling}
use Rattle.remedies.specs.declared.likeness.Like.{Like}
use Rattle.remedies.specs.declared.likeness.Like.TheVariants as likes
use Rattle.remedies.specs.declared.likeness.TheConstants.{LEAST_LETTERS, PREDEFINED, WORDS_LIKE_NAMES}
use Rattle.remedies.specs.declared.name.Name.{Name}
use Rattle.remedies.specs.Names.{name_text}
use Rattle.remedies.specs.Recognition.{count_before, kind_at}

-- the first two letters are exchanged, and nothing else
abbrev pub are_exchanged : (x y : ℕ) → (xs ys : List ℕ) → Bool
are_exchanged x y (u ∷ xs) (v ∷ ys) = nat_eq x v && nat_eq y u && bytes_eq xs ys
are_exchanged x y xs ys = false

-- the first letter is another one, is missing in one of both, or is exchanged with the next, and nothing else
abbrev pub is_changed : List ℕ → List ℕ → Bool
is_changed [] (y ∷ []) = true
is_changed (x ∷ []) [] = true
is_changed (x ∷ xs) (y ∷ ys) = bytes_eq xs ys || bytes_eq xs (y ∷ ys) || bytes_eq (x ∷ xs) ys || are_exchanged x y xs ys
is_changed xs ys = false

-- one name is the other one with one change, after letters that are the same
abbrev pub is_like : List ℕ → List ℕ → Bool
is_like (x ∷ xs) (y ∷ ys) = if nat_eq x y then is_like xs ys else is_changed (x ∷ xs) (y ∷ ys)
is_like xs ys = is_changed xs ys

-- the name of an identifier
abbrev pub name_of : Option TokenKind → Option (List ℕ)
name_of (Some (kinds.Identifier name)) = Some name
name_of k = None

abbrev pub is_same : List ℕ → Option (List ℕ) → Bool
is_same name (Some other) = bytes_eq name other
is_same name None = false

abbrev pub is_near : List ℕ → Option (List ℕ) → Bool
is_near name (Some other) = is_like name other
is_near name None = false

-- a name that follows such a word is declared by it, or has its body there
abbrev pub introduces : Option TokenKind → Bool
introduces (Some (kinds.Word words.Procedure)) = true
introduces (Some (kinds.Word words.Function)) = true
introduces (Some (kinds.Word words.Entry)) = true
introduces (Some (kinds.Word words.Task)) = true
introduces (Some (kinds.Word words.Protected)) = true
introduces (Some (kinds.Word words.Package)) = true
introduces (Some (kinds.Word words.Type)) = true
introduces (Some (kinds.Word words.Subtype)) = true
introduces k = false

abbrev pub is_colon : Option TokenKind → Bool
is_colon (Some (kinds.Delimiter delimiters.Colon)) = true
is_colon k = false

abbrev pub kind_before : ℕ → List Token → Option TokenKind
kind_before zero ts = None
kind_before (suc n) ts = kind_at n ts

-- the token with so many before it is this name, which a word introduces
abbrev pub introduces_same : List ℕ → List Token → ℕ → Bool
introduces_same name ts n = introduces (kind_before n ts) && is_same name (name_of (kind_at n ts))

-- it is a name like this one, which a word introduces, or which a colon follows
abbrev pub declares_near : List ℕ → List Token → ℕ → Bool
declares_near name ts n = (introduces (kind_before n ts) || is_colon (kind_at (suc n) ts)) && is_near name (name_of (kind_at n ts))

-- the first of so many numbers from this one on of which it is so
abbrev pub first_where : (ℕ → Bool) → (from count : ℕ) → Option ℕ
first_where test from zero = None
first_where test from (suc n) = if test from then Some from else first_where test (suc from) n

-- the first of these names of the language that is like it
abbrev pub first_predefined : List Name → List ℕ → Option Name
first_predefined [] name = None
first_predefined (n ∷ names) name = if is_like name (name_text n) then Some n else first_predefined names name

-- the first of these reserved words that is like it
abbrev pub first_reserved : List Word → List ℕ → Option Word
first_reserved [] name = None
first_reserved (w ∷ words) name = if is_like name (spelling w) then Some w else first_reserved words name

abbrev pub near_reserved : Option Word → Option Like
near_reserved (Some w) = Some (likes.Reserved w)
near_reserved None = None

abbrev pub near_predefined : List ℕ → Option Name → Option Like
near_predefined name (Some n) = Some (likes.Predefined n)
near_predefined name None = near_reserved (first_reserved WORDS_LIKE_NAMES name)

abbrev pub near_declared : List ℕ → Option ℕ → Option Like
near_declared name (Some n) = Some (likes.Declared n)
near_declared name None = near_predefined name (first_predefined PREDEFINED name)

-- names of few letters are like too many others
abbrev pub like_near : List ℕ → List Token → Option Like
like_near name ts = if nat_le LEAST_LETTERS (length name) then near_declared name (first_where (declares_near name ts) 0 (length ts)) else None

abbrev pub like_later : List ℕ → List Token → Option ℕ → Option Like
like_later name ts (Some n) = Some (likes.DeclaredLater n)
like_later name ts None = like_near name ts

-- of the name of the token with so many before it: the same one, introduced after that token; else the first one like it
abbrev pub like_of : ℕ → List Token → Option (List ℕ) → Option Like
like_of n ts (Some name) = like_later name ts (first_where (introduces_same name ts) n (length ts - n))
like_of n ts None = None

-- of the name at a place of a text with these tokens
abbrev pub like_at : (place : ℕ) → List Token → Option Like
like_at place ts = like_of (count_before place ts) ts (name_of (kind_at (count_before place ts) ts))
