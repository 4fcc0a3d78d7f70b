-- What a new name makes of a scope.
use Rattle.std.proofs.Common.{◌≡◌, ℕ, List, [], ◌∷◌, ◌++◌, map, false, Option, Some, None, refl, sym, ap, ◌∙◌, is_some, if◌then◌else◌}
use Rattle.std.proofs.lemmas.List.{map-append}
use Rattle.std.specs.Prelude.{bytes_eq, position}
use Rattle.std.specs.Map.{keys_of, lookup}
use Rattle.indexmap.specs.IndexMap.{insert_entry}
use Rattle.indexmap.proofs.MapLemmas.{some_index, absent_from_lookup, insert_entry-absent}
use Rattle.types.specs.declared.scope.Declared.{Declared}
use Rattle.types.specs.Entities.{entity_value}
use Rattle.types.specs.Scopes.{entry_value, number_of, is_visible, with_name}
use Rattle.types.specs.Seen.{place_of, with_place}
use Rattle.types.proofs.Lists.{position_map}

none_of : {A : Type 0} (x : Option A) → is_some x ≡ false → x ≡ None
none_of None h = refl
none_of (Some a) h = cc

-- a name that is not visible goes last
pub goes_last : (es : List (List ℕ × Declared)) (k : List ℕ) (v : Declared) → is_visible (map entry_value es) k ≡ false → insert_entry bytes_eq es k v ≡ es ++ (k, v) ∷ []
goes_last es k v hidden =
    let same : position (bytes_eq k) (keys_of es) ≡ number_of (map entry_value es) k =
    sym (position_map (λ e. e.0) (bytes_eq k) es) ∙ position_map entry_value (λ n. bytes_eq k n.name) es in
    let none : lookup (bytes_eq k) es ≡ None = none_of (lookup (bytes_eq k) es) (sym (some_index (bytes_eq k) es) ∙ ap is_some same ∙ hidden) in
    insert_entry-absent bytes_eq k v es (absent_from_lookup (bytes_eq k) es none)

pub appended :
    (es : List (List ℕ × Declared)) (k : List ℕ) (v : Declared)
    → is_visible (map entry_value es) k ≡ false
    → map entry_value (insert_entry bytes_eq es k v) ≡ with_name (map entry_value es) k (entity_value v.entity)
appended es k v hidden =
    ap (λ l. map entry_value l) (goes_last es k v hidden)
    ∙ map-append entry_value es ((k, v) ∷ [])
    ∙ sym (ap (λ b. if b then map entry_value es else map entry_value es ++ record { name = k; entity = entity_value v.entity } ∷ []) hidden)

-- a name without a place goes last with the one that it is given
pub placed_new : (es : List (List ℕ × ℕ)) (name : List ℕ) (place : ℕ) → is_some (place_of es name) ≡ false → insert_entry bytes_eq es name place ≡ with_place es name place
placed_new es name place hidden =
    insert_entry-absent bytes_eq name place es (absent_from_lookup (bytes_eq name) es (none_of (lookup (bytes_eq name) es) hidden))
    ∙ sym (ap (λ b. if b then es else es ++ (name, place) ∷ []) hidden)
