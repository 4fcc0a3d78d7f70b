-- What may stand after the first tokens of a text.
use Rattle.std.specs.Prelude.{◌≡◌, ℕ, pos, List, [], ◌∷◌, ◌++◌, drop, Option, Some, None, codes, ◌⊎◌}
use Rattle.lexer.specs.declared.token.Token.{Token}
use Rattle.lexer.specs.declared.token.TokenKind.{TokenKind}
use Rattle.lexer.specs.declared.token.TokenKind.TheVariants as kinds
use Rattle.ada_tree.specs.Language.{Tokens}
use Rattle.ada_tree.specs.ProgramTree.{ProgramTree}
use Rattle.parser.specs.Parsing.{Derives, SomeBegins}
use Rattle.diagnostics.specs.declared.continuations.continuation.Continuation.{Continuation}
use Rattle.diagnostics.specs.declared.continuations.continuation.Continuation.TheVariants.{Identifier, Number, Label, Delimiter, Word, End}
use Rattle.diagnostics.specs.declared.continuations.continuation.TheConstants.{EVERY_CONTINUATION}

-- the name of the identifier, and the text of the label, that are taken for all of them
abbrev pub sample_name : List ℕ
sample_name = codes "X"

-- the kind of a token that is taken for all that are such a continuation
abbrev pub sample_kind : Continuation → Option TokenKind
sample_kind Identifier = Some (kinds.Identifier sample_name)
sample_kind Number = Some (kinds.Number (pos 1))
sample_kind Label = Some (kinds.Label sample_name)
sample_kind (Delimiter d) = Some (kinds.Delimiter d)
sample_kind (Word w) = Some (kinds.Word w)
sample_kind End = None

abbrev pub sample : TokenKind → Token
sample kind = record { kind = kind; start = 0; end_ = 1 }

-- some tree derives just these tokens
abbrev pub CanEnd : Tokens → Type 0
CanEnd front = (t : ProgramTree) × Derives t front

-- some tree derives a list that begins with these tokens and one of this kind; without a kind, these tokens alone
abbrev pub GoesOnWith : Tokens → Option TokenKind → Type 0
GoesOnWith front (Some kind) = SomeBegins (front ++ (sample kind ∷ []))
GoesOnWith front None = CanEnd front

-- The continuation may stand after these tokens: some tree, with no more levels open at once than may be, derives what begins so.
abbrev pub CanFollow : Tokens → Continuation → Type 0
CanFollow front c = GoesOnWith front (sample_kind c)

-- the list is another one by this continuation, where it may follow the front
abbrev pub IsAsked : Tokens → Continuation → List Continuation → List Continuation → Type 0
IsAsked front c old new = (CanFollow front c × (new ≡ old ++ (c ∷ []))) ⊎ ((CanFollow front c → ⊥) × (new ≡ old))

-- the second list has those of the first that may follow the front, in their order, and no other ones
pub data Chosen (front : Tokens) : List Continuation → List Continuation → Type 0 where
  NoneLeft : Chosen front [] []
  Taken : {c : Continuation} {cs chosen : List Continuation} → CanFollow front c → Chosen front cs chosen → Chosen front (c ∷ cs) (c ∷ chosen)
  Passed : {c : Continuation} {cs chosen : List Continuation} → (CanFollow front c → ⊥) → Chosen front cs chosen → Chosen front (c ∷ cs) chosen

-- all that may stand after the front, in the order of the table
abbrev pub AreTheAllowed : Tokens → List Continuation → Type 0
AreTheAllowed front list = Chosen front EVERY_CONTINUATION list

-- the table has it
abbrev pub HasRow : Continuation → Type 0
HasRow c = (row : ℕ) × (more : List Continuation) × (drop row EVERY_CONTINUATION ≡ c ∷ more)

abbrev pub EachIsTried : Type 0
EachIsTried = (c : Continuation) → HasRow c
