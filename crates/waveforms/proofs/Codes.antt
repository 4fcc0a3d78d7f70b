-- The digits of codes, from the last one on.
use Rattle.std.proofs.Common.{◌≡◌, ℕ, suc, ◌+◌, ◌-◌, ◌/◌, ◌%◌, ◌<◌, ◌≤◌, List, ◌∷◌, Bool, ap, ◌∙◌, arith, nat_lt, if◌then◌else◌}
use Rattle.std.proofs.lemmas.Bool.{le-ltb, lt-ltb}
use Rattle.waveforms.specs.Waves.{code_onto}
use Rattle.waveforms.specs.declared.text.TheConstants.{CODE_BYTES, CODES}

module _ (len left : ℕ) (acc : List ℕ) (less : len < CODE_BYTES) where
  abbrev by : Bool → List ℕ
  by b = if b then (33 + left) ∷ acc else code_onto (CODE_BYTES - (len + 1)) (left / CODES) ((33 + left % CODES) ∷ acc)

  one_more : code_onto (CODE_BYTES - len) left acc ≡ by (nat_lt left CODES)
  one_more = let e : CODE_BYTES - len ≡ suc (CODE_BYTES - (len + 1)) = omega (arith, less) in ap (λ k. code_onto k left acc) e

  pub first_digit : left < CODES → code_onto (CODE_BYTES - len) left acc ≡ (33 + left) ∷ acc
  first_digit small = one_more ∙ ap by (lt-ltb left CODES small)

  pub more_digits : CODES ≤ left → code_onto (CODE_BYTES - len) left acc ≡ code_onto (CODE_BYTES - (len + 1)) (left / CODES) ((33 + left % CODES) ∷ acc)
  more_digits large = one_more ∙ ap by (le-ltb left CODES large)
