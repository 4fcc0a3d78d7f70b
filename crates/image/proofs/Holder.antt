-- The subprogram that holds a place, by its number.
use Rattle.std.proofs.Common.{◌≡◌, ℕ, List, length, cond, Bool, true, false, Some, None, nat_lt, slice_get, sym, ap, ◌∙◌, refl}
use Rattle.std.specs.List.{position_or_len}
use Rattle.std.proofs.lemmas.Bool.{ltb-false}
use Rattle.std.proofs.lemmas.List.Folds.{find_at}
use Rattle.std.proofs.lemmas.Option.{cond_some, none-some, slice_get_past}
use Rattle.image.specs.Sections.{holder, holder_number}
use Rattle.image.specs.declared.subprograms.Subprogram.{Subprogram}

pub held_none : (subprograms : List Subprogram) (p : ℕ) → holder_number subprograms p ≡ None → holder subprograms p ≡ None
held_none subprograms p e = find_at (λ s. nat_lt p s.end_) subprograms ∙ by (nat_lt n (length subprograms)) refl e
  where
    n : ℕ
    n = position_or_len (λ s. nat_lt p s.end_) subprograms

    by : (b : Bool) → nat_lt n (length subprograms) ≡ b → cond b (Some n) None ≡ None → slice_get subprograms n ≡ None
    by true is e = absurd (none-some n (sym e))
    by false is e = slice_get_past subprograms n (ltb-false n (length subprograms) is)

pub held_some : (subprograms : List Subprogram) (p n : ℕ) → holder_number subprograms p ≡ Some n → holder subprograms p ≡ slice_get subprograms n
held_some subprograms p n e = find_at (λ s. nat_lt p s.end_) subprograms ∙ ap (slice_get subprograms) (cond_some _ _ n e).1
