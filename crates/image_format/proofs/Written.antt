-- Loops that write the parts of a section one by one.
use Rattle.std.proofs.Common.{◌≡◌, ◌++◌, ◌+◌, ◌<◌, ℕ, List, length, drop, flat_map, get_or, sym, ap, ◌∙◌}
use Rattle.std.proofs.lemmas.List.{at_drop_more, append_assoc}

-- one more part has been written: what is left, behind what stands, is still the whole
pub written_on : {X : Type 0} (f : X → List ℕ) (xs : List X) (i : ℕ) (d : X) (old new whole : List ℕ) → i < length xs → new ≡ old ++ f (get_or xs i d) → old ++ flat_map f (drop i xs) ≡ whole → new ++ flat_map f (drop (i + 1) xs) ≡ whole
written_on f xs i d old new whole below put so =
    ap (λ z. z ++ flat_map f (drop (i + 1) xs)) put
    ∙ (append_assoc old (f (get_or xs i d)) (flat_map f (drop (i + 1) xs))
    ∙ (sym (ap (λ z. old ++ z) (at_drop_more (flat_map f) xs i d below)) ∙ so))
