-- Lines of texts by their numbers.
use Rattle.std.proofs.Common.{◌≡◌, ℕ, List, [], ◌∷◌, ap, ◌∙◌, if◌then◌else◌, nat_eq, refl, suc}
use Rattle.std.specs.Prelude.{◌-◌}
use Rattle.source_report.specs.Reports.{behind_lines}

-- behind no more line feeds
pub no_more : (n at : ℕ) (text : List ℕ) → n ≡ 0 → behind_lines n at text ≡ at
no_more n at [] none = refl
no_more n at (c ∷ rest) none = ap (λ m. if nat_eq m 0 then at else behind_lines (if nat_eq c 10 then m - 1 else m) (suc at) rest) none
