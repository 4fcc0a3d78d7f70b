use Rattle.std.proofs.Common.{◌≡◌, Option, Some, None, refl, ap, ◌∙◌, slice_get, ℕ}
use Rattle.image.specs.Laws.{FoundByEnds}
use Rattle.image.specs.Sections.{holder, holder_number}
use Rattle.image.proofs.Holder.{held_none, held_some}
use Rattle.image.proofs.RowTables.{holder_by_ends}
use Rattle.image.proofs.laws.found_by_ends.Goals as goal

found_by_ends : FoundByEnds
found_by_ends subprograms place =
    by (holder_number subprograms place) refl
    ∙ ap {A = Option ℕ} (λ q. elim q [ None ↦ None | Some n ↦ slice_get subprograms n ]) (holder_by_ends subprograms place)
  where
    by : (q : Option ℕ) → holder_number subprograms place ≡ q → holder subprograms place ≡ elim q [ None ↦ None | Some n ↦ slice_get subprograms n ]
    by None is = held_none subprograms place is
    by (Some n) is = held_some subprograms place n is

pub returns : goal.returns
returns c = found_by_ends
