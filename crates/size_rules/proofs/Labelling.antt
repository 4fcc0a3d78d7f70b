-- What a new label makes of those that were used.
use Rattle.std.proofs.Common.{◌≡◌, ℕ, List, [], ◌∷◌, ◌++◌, Bool, true, false, Option, Some, None, refl, sym, ap, ◌∙◌, is_some}
use Rattle.std.proofs.lemmas.List.{map-append}
use Rattle.std.specs.Prelude.{bytes_eq}
use Rattle.std.specs.Map.{keys_of, lookup}
use Rattle.indexmap.specs.IndexMap.{insert_entry}
use Rattle.indexmap.proofs.MapLemmas.{some_index, absent_from_lookup, insert_entry-absent}
use Rattle.size_rules.specs.declared.thing.Thing.{Thing}
use Rattle.size_rules.specs.declared.thing.Thing.TheVariants.{Label}
use Rattle.size_rules.specs.Limits.{is_among, used_with}

none_of : {A : Type 0} (x : Option A) → is_some x ≡ false → x ≡ None
none_of None h = refl
none_of (Some a) h = cc

-- a label that is not among those used goes behind them
goes_last : {V : Type 0} (es : List (List ℕ × V)) (text : List ℕ) (v : V)
    → is_among (keys_of es) text ≡ false
    → keys_of (insert_entry bytes_eq es text v) ≡ keys_of es ++ text ∷ []
goes_last es text v new =
    let none : lookup (bytes_eq text) es ≡ None = none_of (lookup (bytes_eq text) es) (sym (some_index (bytes_eq text) es) ∙ new) in
    ap (λ l. keys_of l) (insert_entry-absent bytes_eq text v es (absent_from_lookup (bytes_eq text) es none)) ∙ map-append (λ e. e.0) es ((text, v) ∷ [])

pub added : {V : Type 0} (es : List (List ℕ × V)) (used : List (List ℕ)) (thing : Thing) (text copy : List ℕ) (place : ℕ) (v : V) (b : Bool)
    → thing ≡ Label text place
    → keys_of es ≡ used
    → b ≡ is_among used text
    → b ≡ false
    → copy ≡ text
    → keys_of (insert_entry bytes_eq es copy v) ≡ used_with used thing
added es used thing text copy place v b is kept test new same =
    let absent : is_among used text ≡ false = sym test ∙ new in
    ap (λ t. keys_of (insert_entry bytes_eq es t v)) same
    ∙ goes_last es text v (ap (λ l. is_among l text) kept ∙ absent)
    ∙ ap (λ l. l ++ text ∷ []) kept
    ∙ sym (ap (λ t. used_with used t) is ∙ ap (λ d. elim d [ true ↦ used | false ↦ used ++ text ∷ [] ]) absent)
