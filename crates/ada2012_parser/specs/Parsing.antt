-- Places of faults, and what the span of a whole text covers.
use Rattle.std.specs.Prelude.{◌≡◌, ◌⊎◌, ℕ, ◌-◌, ◌≤◌, List, [], ◌∷◌, drop, length}
use Rattle.ada2012_lexer.specs.declared.token.Span.{Span}
use Rattle.ada2012_lexer.specs.declared.token.Token.{Token}
use Rattle.ada2012_parser.specs.declared.fault.Fault.{Fault}
use Rattle.ada2012_parser.specs.declared.fault.FaultKind.TheVariants as faults
use Rattle.ada2012_parser.specs.Reading.{next_start}

-- where the last token ends
abbrev pub end_of : List Token → ℕ
end_of [] = 0
end_of (token ∷ []) = token.end_
end_of (token ∷ (next ∷ tokens)) = end_of (next ∷ tokens)

-- the first byte of one of the tokens, or the byte after the last one
abbrev pub IsPlaceIn : List Token → ℕ → Type 0
IsPlaceIn [] place = place ≡ 0
IsPlaceIn (token ∷ []) place = (place ≡ token.start) ⊎ (place ≡ token.end_)
IsPlaceIn (token ∷ (next ∷ tokens)) place = (place ≡ token.start) ⊎ IsPlaceIn (next ∷ tokens) place

-- where memory is refused the place is 0, and else that of a token, or the end
abbrev pub IsAtToken : List Token → Fault → Type 0
IsAtToken tokens fault = ((fault.kind ≡ faults.Memory) × (fault.place ≡ 0)) ⊎ IsPlaceIn tokens fault.place

-- the first byte of the first of these tokens, or the end of all
abbrev pub start_or : ℕ → List Token → ℕ
start_or after [] = after
start_or after (token ∷ tokens) = token.start

-- the first byte of the token from which on so many are left
abbrev pub place_at : List Token → (left : ℕ) → ℕ
place_at tokens left = start_or (end_of tokens) (drop (length tokens - left) tokens)

-- a span begins with the first token, and doesn't end before the last one
pub record SpansAll (tokens : List Token) (span : Span) : Type 0 where
  pub starts : span.start ≡ next_start tokens
  pub ends : end_of tokens ≤ span.end_
