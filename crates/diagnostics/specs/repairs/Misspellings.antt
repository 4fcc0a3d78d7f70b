-- A reserved word in place of an identifier that is like it: a letter more, less or other, or two exchanged (RM 2.9).
use Rattle.std.specs.Prelude.{◌≡◌, ◌≢◌, ◌⊎◌, ◌-◌, ℕ, true, List, [], ◌∷◌, Option, Some, None, drop, take}
use Rattle.base.specs.declared.faults.TheConstants.{UNEXPECTED_TOKEN}
use Rattle.lexer.specs.declared.token.TokenKind.{TokenKind}
use Rattle.lexer.specs.declared.token.TokenKind.TheVariants as kinds
use Rattle.lexer.specs.declared.word.Word.{Word}
use Rattle.lexer.specs.Words.{spelling}
use Rattle.ada_tree.specs.Language.{Tokens}
use Rattle.diagnostics.specs.declared.continuations.continuation.Continuation.{Continuation}
use Rattle.diagnostics.specs.declared.continuations.continuation.Continuation.TheVariants as continuations
use Rattle.diagnostics.specs.declared.continuations.continuation.TheConstants.{EVERY_CONTINUATION}
use Rattle.remedies.specs.Likeness.{is_like}
use Rattle.remedies.specs.Recognition.{count_before}
use Rattle.diagnostics.specs.declared.repairs.misspelling.Misspelling.{Misspelling}
use Rattle.diagnostics.specs.declared.repairs.misspelling.Reach.{Reach}
use Rattle.diagnostics.specs.declared.repairs.misspelling.TheConstants.{REACHES}
use Rattle.diagnostics.specs.repairs.First.{FirstOf}
use Rattle.diagnostics.specs.repairs.Mending.{Mends}

-- the name is like the word, which mends the text in its place
pub record IsMeantAs (word : Word) (name : List ℕ) (front after : Tokens) (far : ℕ) : Type 0 where
  pub is_like : is_like name (spelling word) ≡ true
  pub mends : Mends front (kinds.Word word) after far

abbrev pub IsThisWord : Word → (name : List ℕ) → (front after : Tokens) → (far : ℕ) → Option Word → Type 0
IsThisWord word name front after far (Some w) = (w ≡ word) × IsMeantAs word name front after far
IsThisWord word name front after far None = IsMeantAs word name front after far → ⊥

-- among all that may stand after tokens, the reserved words
abbrev pub IsWordMeant : (name : List ℕ) → (front after : Tokens) → (far : ℕ) → Continuation → Option Word → Type 0
IsWordMeant name front after far (continuations.Word word) found = IsThisWord word name front after far found
IsWordMeant name front after far continuation found = found ≡ None

abbrev pub misspelling_of : (number : ℕ) → Option Word → Option Misspelling
misspelling_of number (Some w) = Some (record { number = number; word = w })
misspelling_of number None = None

-- the first word that is meant by a name between both parts
pub record IsMisspelledName (number far : ℕ) (name : List ℕ) (front after : Tokens) (found : Option Misspelling) : Type 0 where
  pub word : Option Word
  pub is_first : FirstOf (IsWordMeant name front after far) EVERY_CONTINUATION word
  pub found_is : found ≡ misspelling_of number word

-- of another token than an identifier no word is meant
abbrev pub IsMisspelledAs : (number far : ℕ) → (front : Tokens) → TokenKind → (after : Tokens) → Option Misspelling → Type 0
IsMisspelledAs number far front (kinds.Identifier name) after found = IsMisspelledName number far name front after found
IsMisspelledAs number far front kind after found = found ≡ None

abbrev pub IsMisspelledIn : (number far : ℕ) → (front back : Tokens) → Option Misspelling → Type 0
IsMisspelledIn number far front [] found = found ≡ None
IsMisspelledIn number far front (t ∷ after) found = IsMisspelledAs number far front t.kind after found

-- of the token so many before the one that has as many before it
abbrev pub IsMisspelledAt : (count : ℕ) → Tokens → Reach → Option Misspelling → Type 0
IsMisspelledAt count ts reach found = IsMisspelledIn (count - reach.back) reach.far (take (count - reach.back) ts) (drop (count - reach.back) ts) found

abbrev pub IsMisspelledBefore : (count : ℕ) → Tokens → Option Misspelling → Type 0
IsMisspelledBefore count ts found = FirstOf (IsMisspelledAt count ts) REACHES found

-- the misspelled word at a place where a token can't stand, or close before it; none of other faults
abbrev pub IsMisspelling : (fault place : ℕ) → Tokens → Option Misspelling → Type 0
IsMisspelling fault place ts found =
    ((fault ≡ UNEXPECTED_TOKEN) × IsMisspelledBefore (count_before place ts) ts found) ⊎ ((fault ≢ UNEXPECTED_TOKEN) × (found ≡ None))
