-- What methods add that copy back is the code of the copies.
use Rattle.std.proofs.Common.{◌≡◌, ◌<◌, ◌≤◌, ◌-◌, ℕ, zero, suc, ◌+◌, List, [], ◌∷◌, length, drop, refl, sym, ap, ◌∙◌, arith}
use Rattle.std.specs.Prelude.{get_or}
use Rattle.ada_tree.specs.Size.{total}
use Rattle.types.specs.Scopes.{Scope}
use Rattle.expr_code.specs.Pieces.{Made, adds}
use Rattle.expr_code.proofs.Pieces.{adds_nothing, adds_then, drop_end}
use Rattle.part_code.specs.PartCode.{copies_code, copy_code, given_words, words_in}
use Rattle.part_code.specs.declared.call.Destination.{Destination}

module _ (s : Scope) (all : List Destination) where
  left_at : (xs : List Destination) (n : ℕ) (other : Destination) → n < length xs → drop n xs ≡ get_or xs n other ∷ drop (n + 1) xs
  left_at [] n other less = absurd (omega (arith, less))
  left_at (x ∷ xs) zero other less = refl
  left_at (x ∷ xs) (suc n) other less =
      let more : suc n + 1 ≡ suc (n + 1) = omega arith in
      left_at xs n other (omega (arith, less)) ∙ ap (λ k. get_or xs n other ∷ drop k (x ∷ xs)) (sym more)

  module _ (n : ℕ) (other : Destination) (less : n < length all) where
    abbrev x : Destination
    x = get_or all n other

    abbrev rest : List Destination
    rest = drop (n + 1) all

    -- the words of what is left
    pub words_step : total (given_words s) (drop n all) ≡ suc (words_in s x.subtype) + total (given_words s) rest
    words_step = ap (total (given_words s)) (left_at all n other less)

    pub counted_step : (before more new whole : ℕ) → more ≡ before + words_in s x.subtype → new ≡ more + 1 → before + total (given_words s) (drop n all) ≡ whole
        → new + total (given_words s) rest ≡ whole
    counted_step before more new whole p q sum = let step = words_step in omega (arith, p, q, sum, step)

    pub height_step : (height next : ℕ) → height ≡ total (given_words s) (drop n all) → next ≡ height - words_in s x.subtype - 1
        → next ≡ total (given_words s) rest
    height_step height next p q = let step = words_step in omega (arith, p, q, step)

    pub copied_step : (m new whole : Made) (height : ℕ) → height ≡ total (given_words s) (drop n all) → new ≡ adds m (copy_code s height x)
        → adds m (copies_code s (drop n all)) ≡ whole → adds new (copies_code s rest) ≡ whole
    copied_step m new whole height high made h =
        ap (λ y. adds y (copies_code s rest)) (made ∙ ap (λ k. adds m (copy_code s k x)) (high ∙ words_step))
        ∙ adds_then m (copy_code s (total (given_words s) (x ∷ rest)) x) (copies_code s rest)
        ∙ ap (λ l. adds m (copies_code s l)) (sym (left_at all n other less)) ∙ h

  pub copied_end : (m whole : Made) (n : ℕ) → length all ≤ n → adds m (copies_code s (drop n all)) ≡ whole → m ≡ whole
  copied_end m whole n le h = sym (adds_nothing m) ∙ ap (λ l. adds m (copies_code s l)) (sym (drop_end all n le)) ∙ h

  pub counted_end : (words whole n : ℕ) → length all ≤ n → words + total (given_words s) (drop n all) ≡ whole → words ≡ whole
  counted_end words whole n le h = let none = ap (total (given_words s)) (drop_end all n le) in omega (arith, none, h)
