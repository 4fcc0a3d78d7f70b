-- The places of faults are those of tokens.
use Rattle.std.proofs.Common.{arith, ◌≡◌, ◌∙◌, ℕ, zero, suc, ◌-◌, ◌≤◌, List, [], ◌∷◌, drop, length, get_or, ap, inl, inr, refl, subst, sym}
use Rattle.ada2012_lexer.specs.declared.token.Token.{Token}
use Rattle.ada2012_parser.specs.Parsing.{IsPlaceIn, end_of, place_at, start_or}

pub end_last : (tokens : List Token) (last : Token) → 1 ≤ length tokens → end_of tokens ≡ (get_or tokens (length tokens - 1) last).end_
end_last [] last le = absurd (omega arith)
end_last (token ∷ []) last le = refl
end_last (token ∷ (next ∷ tokens)) last le =
    let count : length (token ∷ (next ∷ tokens)) - 1 ≡ suc (length (next ∷ tokens) - 1) = omega arith in
    end_last (next ∷ tokens) last (omega arith) ∙ ap (λ (n : ℕ). (get_or (token ∷ (next ∷ tokens)) n last).end_) (sym count)

end_is_place : (tokens : List Token) → IsPlaceIn tokens (end_of tokens)
end_is_place [] = refl
end_is_place (token ∷ []) = inr refl
end_is_place (token ∷ (next ∷ tokens)) = inr (end_is_place (next ∷ tokens))

dropped_is_place : (tokens : List Token) (n : ℕ) → IsPlaceIn tokens (start_or (end_of tokens) (drop n tokens))
dropped_is_place [] zero = refl
dropped_is_place [] (suc n) = refl
dropped_is_place (token ∷ []) zero = inl refl
dropped_is_place (token ∷ []) (suc zero) = inr refl
dropped_is_place (token ∷ []) (suc (suc n)) = inr refl
dropped_is_place (token ∷ (next ∷ tokens)) zero = inl refl
dropped_is_place (token ∷ (next ∷ tokens)) (suc n) = inr (dropped_is_place (next ∷ tokens) n)

pub is_place : (tokens : List Token) (left place : ℕ) → place ≡ place_at tokens left → IsPlaceIn tokens place
is_place tokens left place is = subst (λ (p : ℕ). IsPlaceIn tokens p) (sym is) (dropped_is_place tokens (length tokens - left))
