-- The name of the token that begins at a place is the name there.
use Rattle.std.proofs.Common.{◌≡◌, ℕ, Bool, true, false, List, [], ◌∷◌, Option, Some, nat_eq, refl}
use Rattle.std.specs.Prelude.{if◌then◌else◌}
use Rattle.lexer.specs.declared.token.Token.{Token}
use Rattle.remedies.specs.TextTokens.{token_at}
use Rattle.diagnostics.specs.hints.Places.{name_at, name_of_kind, name_of_token}

here_or_later : (here : Bool) (t : Token) (later : Option Token) (name : Option (List ℕ)) → name_of_token later ≡ name
    → name_of_token (if here then Some t else later) ≡ (if here then name_of_kind t.kind else name)
here_or_later true t later name same = refl
here_or_later false t later name same = same

pub named : (place : ℕ) (ts : List Token) → name_of_token (token_at place ts) ≡ name_at place ts
named place [] = refl
named place (t ∷ ts) = here_or_later (nat_eq t.start place) t (token_at place ts) (name_at place ts) (named place ts)
