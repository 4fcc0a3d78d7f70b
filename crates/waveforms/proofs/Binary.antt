-- Binary digits, from the last one on.
use Rattle.std.proofs.Common.{◌≡◌, ℕ, suc, ◌+◌, ◌-◌, ◌/◌, ◌%◌, ◌<◌, ◌≤◌, ◌==◌, List, [], ◌∷◌, Bool, false, refl, ap, ◌∙◌, arith, if◌then◌else◌}
use Rattle.std.specs.Fmt.{digit_glyph, digits, digits_onto}

pub first_digit : (n : ℕ) → digits_onto 64 2 false n [] ≡ digits 2 false n
unfolding digits
first_digit n = refl

bit_glyph : (n : ℕ) → digit_glyph false (n % 2) ≡ 48 + n % 2
bit_glyph n = grind arith

is_some : (n : ℕ) → (n ≡ 0 → ⊥) → (n == 0) ≡ false
is_some n some = grind (arith, some)

module _ (len left : ℕ) (acc : List ℕ) where
  -- the last digit of what is left is put in front
  one_digit : len < 64 → digits_onto (64 - len) 2 false left acc ≡ (if left / 2 == 0 then (48 + left % 2) ∷ acc else digits_onto (64 - (len + 1)) 2 false (left / 2) ((48 + left % 2) ∷ acc))
  one_digit less =
      let e : 64 - len ≡ suc (64 - (len + 1)) = omega (arith, less) in
      ap (λ k. digits_onto k 2 false left acc) e
      ∙ ap (λ d. if left / 2 == 0 then d ∷ acc else digits_onto (64 - (len + 1)) 2 false (left / 2) (d ∷ acc)) (bit_glyph left)

  abbrev choice : Bool → List ℕ
  choice b = if b then (48 + left % 2) ∷ acc else digits_onto (64 - (len + 1)) 2 false (left / 2) ((48 + left % 2) ∷ acc)

  pub last_digit : len < 64 → left / 2 ≡ 0 → digits_onto (64 - len) 2 false left acc ≡ (48 + left % 2) ∷ acc
  last_digit less is = one_digit less ∙ ap (λ n. choice (n == 0)) is

  pub more_digits : len < 64 → (left / 2 ≡ 0 → ⊥) → digits_onto (64 - len) 2 false left acc ≡ digits_onto (64 - (len + 1)) 2 false (left / 2) ((48 + left % 2) ∷ acc)
  more_digits less some = one_digit less ∙ ap choice (is_some (left / 2) some)

  pub no_room : 64 ≤ len → digits_onto (64 - len) 2 false left acc ≡ acc
  no_room full = let e : 64 - len ≡ 0 = omega (arith, full) in ap (λ k. digits_onto k 2 false left acc) e
