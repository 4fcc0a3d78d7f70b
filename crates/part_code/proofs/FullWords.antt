-- Each part of a value takes a word, where types are full.
use Rattle.std.proofs.Common.{◌≡◌, ℕ, ◌*◌, ◌≤◌, true, false, not, refl, ◌∙◌, arith}
use Rattle.std.specs.Prelude.{nat_eq, slice_get}
use Rattle.std.proofs.lemmas.Bool.{and_parts}
use Rattle.std.proofs.lemmas.Bool.Decides.{nat_tests}
use Rattle.types.specs.declared.entity.Subtype.{Subtype}
use Rattle.types.specs.Layouts.{words_of}
use Rattle.types.specs.Scopes.{Scope, base_range_of, form_at}
use Rattle.types.specs.Shapes.{Grouped, Logical, Ranged, Repeated, Shape, Shapeless, Timed, narrowed, shape_of, shape_or_none, shapes, words, words_of_parts}
use Rattle.expr_soundness.specs.SoundScopes.{IsKnown}
use Rattle.expr_soundness.proofs.Goods.{not_empty}
use Rattle.part_code.specs.Providing.{TypesAreFull, are_full, is_full}

some_if : (n : ℕ) → not (nat_eq n 0) ≡ true → 1 ≤ n
some_if n h = grind (arith, nat_tests)

not_zero : (n : ℕ) → 1 ≤ n → nat_eq n 0 ≡ false
not_zero n h = grind (arith, nat_tests)

pub full_some : (x : Shape) → is_full x ≡ true → 1 ≤ words x
full_some (Repeated many x) h = some_if (many * words x) (and_parts (not (nat_eq (many * words x) 0)) (is_full x) h).0
full_some (Grouped parts) h = some_if (words_of_parts parts) (and_parts (not (nat_eq (words_of_parts parts) 0)) (are_full parts) h).0
full_some x h = some_if (words x) h

-- whatever the bounds of a subtype
pub narrowed_full : (t u : Subtype) (x : Shape) → is_full (narrowed t x) ≡ is_full (narrowed u x)
narrowed_full t u (Ranged first) = refl
narrowed_full t u Logical = refl
narrowed_full t u Timed = refl
narrowed_full t u (Repeated many x) = refl
narrowed_full t u (Grouped parts) = refl
narrowed_full t u Shapeless = refl

module _ (s : Scope) (full : TypesAreFull s) where
  subtype_full : (t : Subtype) → IsKnown s t → is_full (shape_of s t) ≡ true
  subtype_full t known =
      let form = not_empty (form_at s t.type_number) known in
      narrowed_full t (base_range_of t.type_number) (shape_or_none (slice_get (shapes s) t.type_number)) ∙ full t.type_number form.0 form.1

  pub some_words : (t : Subtype) → IsKnown s t → nat_eq (words_of s t) 0 ≡ false
  some_words t known = not_zero (words_of s t) (full_some (shape_of s t) (subtype_full t known))
