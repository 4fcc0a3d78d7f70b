-- A token between two parts of others, of which the copies are joined.
use Rattle.std.proofs.Common.{◌≡◌, ◌++◌, ◌∷◌, [], ◌∙◌, ap, append_assoc}
use Rattle.lexer.specs.declared.token.Token.{Token}
use Rattle.lexer.specs.declared.token.TokenKind.{TokenKind}
use Rattle.lexer.specs.declared.token.TokenKind.TheVariants as kinds
use Rattle.lexer.specs.contracts.token.TokenClone.TheImpl as token_clone
use Rattle.lexer.specs.contracts.token.TokenKindClone.TheImpl as kind_clone
use Rattle.ada_tree.specs.Language.{Tokens}

same_kind : (x y : TokenKind) → kind_clone.ghosts.is_clone x y → y ≡ x
same_kind (kinds.Identifier a) (kinds.Identifier b) h = ap kinds.Identifier h
same_kind (kinds.Word a) (kinds.Word b) h = ap kinds.Word h
same_kind (kinds.Number a) (kinds.Number b) h = ap kinds.Number h
same_kind (kinds.Label a) (kinds.Label b) h = ap kinds.Label h
same_kind (kinds.Delimiter a) (kinds.Delimiter b) h = ap kinds.Delimiter h
same_kind x y h = absurd h

pub same_token : (x y : Token) → token_clone.ghosts.is_clone x y → y ≡ x
same_token x y h = λ j. record { kind = same_kind x.kind y.kind h.0 j; start = h.1.0 j; end_ = h.1.1 j }

pub joined : (front after copied pushed rest whole : Tokens) (t : Token) → copied ≡ front → pushed ≡ copied ++ (t ∷ []) → rest ≡ after → whole ≡ pushed ++ rest
    → whole ≡ front ++ (t ∷ after)
joined front after copied pushed rest whole t same_front push same_rest append =
    append
    ∙ ap (λ (ts : Tokens). ts ++ rest) push
    ∙ append_assoc copied (t ∷ []) rest
    ∙ ap (λ (ts : Tokens). ts ++ (t ∷ rest)) same_front
    ∙ ap (λ (ts : Tokens). front ++ (t ∷ ts)) same_rest
