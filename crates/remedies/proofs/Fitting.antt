-- Where no row fits the tokens next to a fault none fits.
use Rattle.std.proofs.Common.{◌≡◌, ◌∙◌, ℕ, false, List, [], ◌∷◌, Option, Some, None, ap, refl}
use Rattle.std.specs.Prelude.{◌&&◌, if◌then◌else◌}
use Rattle.std.specs.List.{list_any}
use Rattle.std.proofs.lemmas.Bool.{or_parts}
use Rattle.lexer.specs.declared.token.Token.{Token}
use Rattle.remedies.specs.declared.opening.Opening.{Opening}
use Rattle.remedies.specs.declared.row.Row.{Row}
use Rattle.remedies.specs.Recognition.{first_fitting, fits_tokens, is_in, is_part, kind_before_opener}

pub none_fits : (rows : List Row) (fault : ℕ) (front back : List Token) (o : Option Opening)
    → list_any (λ r. fits_tokens r fault front back) rows ≡ false → first_fitting rows fault front back o ≡ None
none_fits [] fault front back o none = refl
none_fits (r ∷ rows) fault front back o none =
    let parts = or_parts (fits_tokens r fault front back) (list_any (λ x. fits_tokens x fault front back) rows) none in
    ap (λ b. if (b && is_in r.region o && is_part r.opener (kind_before_opener o front)) then Some r.construct else first_fitting rows fault front back o) parts.0
    ∙ none_fits rows fault front back o parts.1
