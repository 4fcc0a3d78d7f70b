use Rattle.std.proofs.Common.{◌≡◌, ◌++◌, ◌∷◌, [], ◌∙◌, ap, length, nat_eq, subst, sym, ℕ}
use Rattle.std.specs.Prelude.{Decides}
use Rattle.ada_tree.specs.Language.{Tokens}
use Rattle.lexer.specs.declared.token.Token.{Token}
use Rattle.lexer.specs.declared.token.TokenKind.{TokenKind}
use Rattle.lexer.specs.declared.token.TokenKind.TheVariants as kinds
use Rattle.lexer.specs.contracts.token.TokenClone.TheImpl as token_clone
use Rattle.lexer.specs.contracts.token.TokenKindClone.TheImpl as kind_clone
use Rattle.parser.specs.Parsing.{SomeBegins}
use Rattle.diagnostics.specs.continuations.Following.{sample}
use Rattle.diagnostics.proofs.Choosing.{begins_by_count}
use Rattle.diagnostics.proofs.continuations.following.goes_on.Goals as goal

same_kind : (x y : TokenKind) → kind_clone.ghosts.is_clone x y → y ≡ x
same_kind (kinds.Identifier a) (kinds.Identifier b) h = ap kinds.Identifier h
same_kind (kinds.Word a) (kinds.Word b) h = ap kinds.Word h
same_kind (kinds.Number a) (kinds.Number b) h = ap kinds.Number h
same_kind (kinds.Label a) (kinds.Label b) h = ap kinds.Label h
same_kind (kinds.Delimiter a) (kinds.Delimiter b) h = ap kinds.Delimiter h
same_kind x y h = absurd h

same_token : (x y : Token) → token_clone.ghosts.is_clone x y → y ≡ x
same_token x y h = λ j. record { kind = same_kind x.kind y.kind h.0 j; start = h.1.0 j; end_ = h.1.1 j }

pub returns : goal.returns
returns c =
    let same : c.in_ok-tokens.tokens.items ≡ c.args.front.now = c.in_ok-tokens.ensures.items_if_clones_equal same_token in
    let all : c.deref.result.now ≡ c.args.front.now ++ (sample c.args.kind ∷ []) =
    c.deref.ensures.value ∙ c.in_ok-push.ensures.items ∙ ap (λ (ts : Tokens). ts ++ (sample c.args.kind ∷ [])) same in
    let count : c.len.result ≡ length c.deref.result.now = c.len.ensures ∙ sym c.deref.ensures.len in
    subst (λ (ts : Tokens). Decides (nat_eq c.in_ok-count.count c.len.result) (SomeBegins ts)) all
    (subst (λ (n : ℕ). Decides (nat_eq c.in_ok-count.count n) (SomeBegins c.deref.result.now)) (sym count)
    (begins_by_count c.deref.result.now c.in_ok-count.count c.in_ok-count.ensures))
