-- Texts with the tokens that spell them, and texts with a rule that they break, as the definitions say.
use Rattle.std.proofs.Common.{◌≡◌, ℕ, zero, suc, ◌+◌, List, [], ◌∷◌, ◌++◌, length, drop, Option, Some, None, Ok, Err, refl, subst, arith}
use Rattle.std.specs.Prelude.{codes, pos, option_map}
use Rattle.lexer.specs.declared.token.Token.{Token}
use Rattle.lexer.specs.declared.token.TokenKind.TheVariants as kinds
use Rattle.lexer.specs.declared.word.Word.TheVariants as words
use Rattle.lexer.specs.declared.delimiter.Delimiter.TheVariants as delimiters
use Rattle.lexer.specs.declared.element.Element.{Element}
use Rattle.lexer.specs.Spelling.{Row, Here, Spells, Breaks}
use Rattle.lexer.specs.Reading.{Reading, reserved, word_at, value_in_range, numeral_at, label_at, comment_at, delimiter_at, element_at, tokens_of}
use Rattle.lexer.proofs.Rows.{append, row_length, right, there}

-- the tokens of a text, read element by element, n elements at most
abbrev after : (Element → Option (List Token)) → Reading → Option (List Token)
after f (Ok e) = f e
after f (Err b) = None

read : ℕ → ℕ → List ℕ → Option (List Token)
read n at [] = Some []
read zero at (c ∷ text) = None
read (suc n) at (c ∷ text) = after (λ e. option_map (λ tokens. tokens_of at e ++ tokens) (read n (at + e.length) (drop e.length (c ∷ text)))) (element_at (c ∷ text))

-- what is read is a row to the text's end
row : (n at : ℕ) (text : List ℕ) (tokens : List Token) → read n at text ≡ Some tokens → Row (at + length text) [] at text tokens
unfolding read
row n at [] tokens e = let none : [] ≡ tokens = cc in subst (λ l. Row (at + 0) [] at [] l) none (subst (λ m. Row m [] at [] []) (let same : at ≡ at + 0 = omega arith in same) Here)
row zero at (c ∷ text) tokens e = cc
row (suc n) at (c ∷ text) tokens e = go (λ at' text' tokens' e'. row n at' text' tokens' e') (element_at (c ∷ text)) refl e
  where
    go : ((at' : ℕ) (text' : List ℕ) (tokens' : List Token) → read n at' text' ≡ Some tokens' → Row (at' + length text') [] at' text' tokens') → (r : Reading) → element_at (c ∷ text) ≡ r
        → after (λ e. option_map (λ tokens. tokens_of at e ++ tokens) (read n (at + e.length) (drop e.length (c ∷ text)))) r ≡ Some tokens → Row (at + length (c ∷ text)) [] at (c ∷ text) tokens
    go deeper (Err b) is found = cc
    go deeper (Ok e) is found = with_rest (read n (at + e.length) (drop e.length (c ∷ text))) refl found
      where
        with_rest : (o : Option (List Token)) → read n (at + e.length) (drop e.length (c ∷ text)) ≡ o → option_map (λ tokens. tokens_of at e ++ tokens) o ≡ Some tokens → Row (at + length (c ∷ text)) [] at (c ∷ text) tokens
        with_rest None left f = cc
        with_rest (Some others) left f =
            let all : tokens_of at e ++ others ≡ tokens = cc in
            let first = (there at (c ∷ text) e (omega arith) is).row in
            let ends : (at + e.length) + length (drop e.length (c ∷ text)) ≡ at + length (c ∷ text) = row_length first in
            subst (λ l. Row (at + length (c ∷ text)) [] at (c ∷ text) l) all (append first (subst (λ m. Row m [] (at + e.length) (drop e.length (c ∷ text)) others) ends (deeper (at + e.length) (drop e.length (c ∷ text)) others left)))

assignment : Spells (codes "X1 := 1_0;") (
    record { kind = kinds.Identifier (codes "X1"); start = 0; end_ = 2 }
    ∷ record { kind = kinds.Delimiter delimiters.Assignment; start = 3; end_ = 5 }
    ∷ record { kind = kinds.Number (pos 10); start = 6; end_ = 9 }
    ∷ record { kind = kinds.Delimiter delimiters.Semicolon; start = 9; end_ = 10 }
    ∷ [])
unfolding read element_at word_at reserved numeral_at value_in_range delimiter_at
assignment = record { short = omega arith; row = row 6 0 (codes "X1 := 1_0;") _ refl }

label_and_comment : Spells (codes "If \"a!\"--(\n='") (
    record { kind = kinds.Word words.If; start = 0; end_ = 2 }
    ∷ record { kind = kinds.Label (codes "a!"); start = 3; end_ = 7 }
    ∷ record { kind = kinds.Delimiter delimiters.Equals; start = 11; end_ = 12 }
    ∷ record { kind = kinds.Delimiter delimiters.Apostrophe; start = 12; end_ = 13 }
    ∷ [])
unfolding read element_at word_at reserved label_at comment_at delimiter_at
label_and_comment = record { short = omega arith; row = row 9 0 (codes "If \"a!\"--(\n='") _ refl }

exponentiation : Breaks 2 0 (codes "** 2")
unfolding element_at delimiter_at
exponentiation = right 0 (codes "** 2") (omega arith)

in_a_comment : Breaks 2 3 (45 ∷ 45 ∷ 97 ∷ 12 ∷ [])
unfolding element_at comment_at
in_a_comment = right 0 (45 ∷ 45 ∷ 97 ∷ 12 ∷ []) (omega arith)

doubled_underline : Breaks 3 0 (codes "A__B is")
unfolding element_at word_at
doubled_underline = right 0 (codes "A__B is") (omega arith)

based_literal : Breaks 4 0 (codes "16#FF#;")
unfolding element_at numeral_at value_in_range
based_literal = right 0 (codes "16#FF#;") (omega arith)

too_large : Breaks 4 0 (codes "9223372036854775808")
unfolding element_at numeral_at value_in_range
too_large = right 0 (codes "9223372036854775808") (omega arith)

label_with_space : Breaks 5 0 (codes "\"a b\"")
unfolding element_at label_at
label_with_space = right 0 (codes "\"a b\"") (omega arith)
