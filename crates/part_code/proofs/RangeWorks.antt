-- The check of a value on top of the operand stack, wherever it stands (RM 6.4.1).
use Rattle.std.proofs.Common.{◌≡◌, ℕ, ◌+◌, ◌≤◌, true, false, cond, Option, Some, None, refl, sym, ap, ◌∙◌, subst, arith}
use Rattle.std.specs.Prelude.{is_some, ◌||◌}
use Rattle.kernel.specs.Laws.{QuietStays}
use Rattle.image.specs.Sections.{Sections}
use Rattle.image.specs.declared.instruction.Operation.TheVariants as op
use Rattle.types.specs.declared.entity.Subtype.{Subtype}
use Rattle.types.specs.Entities.{Arrays, Booleans, Integers, Records, Spans, Times, TypeForm}
use Rattle.types.specs.Scopes.{Scope, form_at}
use Rattle.expr_soundness.specs.expr_rules.specs.Typing.{is_booleans}
use Rattle.expr_code.specs.Emitting.{has_numbers, is_composite}
use Rattle.expr_code.specs.ExpressionCode.{range_check}
use Rattle.expr_code.specs.Pieces.{Piece, nothing, one, ◌▸◌}
use Rattle.expr_code.specs.Seeing.{Package, library_of}
use Rattle.expr_code.specs.Views.{At}
use Rattle.expr_code.specs.declared.visible.Visible.{Visible}
use Rattle.expr_code.proofs.StandingPieces.{Between, FitsOr, Suiting, both_stand, fits_more, fits_none, fits_one, fits_then, one_stands, pushes}
use Rattle.part_code.specs.Needs.{check_words, is_taken}
use Rattle.part_code.specs.PartCode.{range_code}
use Rattle.part_code.proofs.CopyingBack.{ChecksValue, HasNoRange, unranged_passes, value_checked, value_unchecked}

none_stand : (i : Sections) (from to : ℕ) → Between i from to nothing → from ≡ to
unfolding nothing
none_stand i from to h = omega (arith, h.ends)

-- ---- both bounds, and CHK

pub range_fits : {U : Type 0} (S : Suiting) (d : ℕ) (t : Subtype) → 1 ≤ d → FitsOr U S 3 (d + 2) d d (range_check d t)
range_fits {U} S d t some =
    let high = d + 2 in
    fits_then S 1 2 high d (d + 1) d (one d (op.Push t.first)) (one (d + 1) (op.Push t.last) ▸ one (d + 1 + 1) op.CheckRange)
    (fits_one S high d (d + 1) (op.Push t.first) (omega arith) (pushes S d t.first))
    (fits_then S 1 1 high (d + 1) (d + 1 + 1) d (one (d + 1) (op.Push t.last)) (one (d + 1 + 1) op.CheckRange)
    (fits_one S high (d + 1) (d + 1 + 1) (op.Push t.last) (omega arith) (pushes S (d + 1) t.last))
    (fits_one S high (d + 1 + 1) d op.CheckRange (omega arith)
    (record { operands = refl; names = λ i s h. refl; takes = λ i s h. omega (arith, some); leaves = λ i s h. omega (arith, some); stays = refl; is_none = refl })))

module _ (quiet : QuietStays) (i : Sections) (v : Visible) (g : Package) (d : ℕ) (shown t : Subtype) (same : shown.type_number ≡ t.type_number) where
  range_checks : (from to : ℕ) → has_numbers (form_at v.scope t.type_number) ≡ true → Between i from to (range_check d t)
      → ChecksValue quiet i v.scope shown t from to
  range_checks from to numbers h =
      let first = both_stand i from to (one d (op.Push t.first)) (one (d + 1) (op.Push t.last) ▸ one (d + 1 + 1) op.CheckRange) h in
      let last = both_stand i first.mid to (one (d + 1) (op.Push t.last)) (one (d + 1 + 1) op.CheckRange) first.second in
      let low = one_stands i from first.mid d (op.Push t.first) first.first in
      let high = one_stands i first.mid last.mid (d + 1) (op.Push t.last) last.first in
      let check = one_stands i last.mid to (d + 1 + 1) op.CheckRange last.second in
      subst (λ n. ChecksValue quiet i v.scope shown t from n) (let k : from + 3 ≡ to = omega (arith, low.ends, high.ends, check.ends) in k)
      (value_checked quiet i v.scope shown t (library_of g) from (ap (λ n. has_numbers (form_at v.scope n)) same ∙ numbers) (
        (d, low.there),
        subst (λ n. At i n (op.Push t.last)) (let k : first.mid ≡ from + 1 = omega (arith, low.ends) in k) (d + 1, high.there),
        subst (λ n. At i n op.CheckRange) (let k : last.mid ≡ from + 2 = omega (arith, low.ends, high.ends) in k) (d + 1 + 1, check.there),
      ))

  none_checks : (from to : ℕ) (form : TypeForm) → form_at v.scope t.type_number ≡ Some form → HasNoRange form → Between i from to nothing
      → ChecksValue quiet i v.scope shown t from to
  none_checks from to form is none h =
      subst (λ n. ChecksValue quiet i v.scope shown t from n) (none_stand i from to h)
      (value_unchecked quiet i v.scope shown t from (unranged_passes v.scope shown t (form, ap (form_at v.scope) same ∙ is, none)))

-- ---- a check, or none

-- what code checks, or needs no check, is of a type
pub taken_form : (s : Scope) (t : Subtype) → is_taken s t ≡ true → is_some (form_at s t.type_number) ≡ true
taken_form s t h = by_form (form_at s t.type_number) h
  where
    by_form : (o : Option TypeForm) → ((has_numbers o || is_booleans o) || is_composite o) ≡ true → is_some o ≡ true
    by_form (Some form) e = refl
    by_form None e = cc

-- what is promised of it, of values of any subtype of that type
pub record RangeWorks (U : Type 0) (S : Suiting) (quiet : QuietStays) (v : Visible) (d : ℕ) (t : Subtype) (a : Piece) : Type 0 where
  pub fits : FitsOr U S 3 (d + check_words (form_at v.scope t.type_number)) d d a
  pub checks : (i : Sections) (from to : ℕ) → Between i from to a → (g : Package) (shown : Subtype) → shown.type_number ≡ t.type_number
      → ChecksValue quiet i v.scope shown t from to

module _ (U : Type 0) (S : Suiting) (quiet : QuietStays) (v : Visible) (d : ℕ) (t : Subtype) (some : 1 ≤ d) where
  checked : (form : TypeForm) → form_at v.scope t.type_number ≡ Some form → check_words (Some form) ≡ 2 → has_numbers (Some form) ≡ true
      → RangeWorks U S quiet v d t (range_code v.scope d t)
  checked form is two numbers =
      subst (λ b. RangeWorks U S quiet v d t (cond b (range_check d t) nothing)) (sym (ap has_numbers is ∙ numbers))
      (record {
        fits = subst (λ n. FitsOr U S 3 (d + n) d d (range_check d t)) (sym (ap check_words is ∙ two)) (range_fits S d t some);
        checks = λ i from to h g shown same. range_checks quiet i v g d shown t same from to (ap has_numbers is ∙ numbers) h;
      })

  unchecked : (form : TypeForm) → form_at v.scope t.type_number ≡ Some form → HasNoRange form → has_numbers (Some form) ≡ false
      → RangeWorks U S quiet v d t (range_code v.scope d t)
  unchecked form is none numbers =
      let high = d + check_words (form_at v.scope t.type_number) in
      subst (λ b. RangeWorks U S quiet v d t (cond b (range_check d t) nothing)) (sym (ap has_numbers is ∙ numbers))
      (record {
        fits = fits_more S 0 3 high high d d nothing (omega arith) (omega arith) (fits_none S high d);
        checks = λ i from to h g shown same. none_checks quiet i v g d shown t same from to form is none h;
      })

  pub range_works : is_some (form_at v.scope t.type_number) ≡ true → RangeWorks U S quiet v d t (range_code v.scope d t)
  range_works = by_form (form_at v.scope t.type_number) refl
    where
      by_form : (o : Option TypeForm) → form_at v.scope t.type_number ≡ o → is_some o ≡ true → RangeWorks U S quiet v d t (range_code v.scope d t)
      by_form (Some Integers) is h = checked Integers is refl refl
      by_form (Some Times) is h = checked Times is refl refl
      by_form (Some Spans) is h = checked Spans is refl refl
      by_form (Some Booleans) is h = unchecked Booleans is tt refl
      by_form (Some (Arrays index many element)) is h = unchecked (Arrays index many element) is tt refl
      by_form (Some (Records components)) is h = unchecked (Records components) is tt refl
      by_form None is h = absurd cc
