-- A scope in which what one name stands for is changed in place.
use Rattle.std.proofs.Common.{◌≡◌, ℕ, zero, suc, List, [], ◌∷◌, ◌++◌, map, slice_get, Some, None, refl, sym, ap, ◌∙◌}
use Rattle.indexmap.specs.IndexMap.{set_value_at}
use Rattle.types.specs.declared.entity.Barrier.{Barrier}
use Rattle.types.specs.declared.scope.Declared.{Declared}
use Rattle.types.specs.Entities.{Entity, Operation, Protected, entity_value}
use Rattle.types.specs.Kept.{capped_words, entry_words}
use Rattle.types.specs.Scopes.{Scope, Named, barred, changed_at, entity_at, entry_value, offering, one_if_protected}
use Rattle.types.specs.Shapes.{Shape, entity_shape, shapes, shapes_after}
use Rattle.types.proofs.Sizes.{AreKept}

-- neither a barrier nor operations change which words objects take
pub same_shape_barred : (b : Barrier) (known : List Shape) (e : Entity) → entity_shape known (barred b e) ≡ entity_shape known e
same_shape_barred b known (Protected p) = refl
same_shape_barred b known e = refl

pub same_shape_offering : (operations : List Operation) (known : List Shape) (e : Entity) → entity_shape known (offering operations e) ≡ entity_shape known e
same_shape_offering operations known (Protected p) = refl
same_shape_offering operations known e = refl

-- nor how many protected objects there are
pub same_one_barred : (b : Barrier) (e : Entity) → one_if_protected (barred b e) ≡ one_if_protected e
same_one_barred b (Protected p) = refl
same_one_barred b e = refl

pub same_one_offering : (operations : List Operation) (e : Entity) → one_if_protected (offering operations e) ≡ one_if_protected e
same_one_offering operations (Protected p) = refl
same_one_offering operations e = refl

abbrev pub value_in : List ℕ × Declared → Declared
value_in e = e.1

is_first : (old first : Declared) → Some old ≡ Some first → old ≡ first
is_first old first e = cc

-- what the name with this number stands for
pub entity_found : (old : Declared) (es : List (List ℕ × Declared)) (number : ℕ) → Some old ≡ slice_get (map value_in es) number → entity_at (map entry_value es) number ≡ Some (entity_value old.entity)
entity_found old [] number found = absurd (none_is found)
  where
    none_is : {X : Type 0} {x : X} → Some x ≡ None → ⊥
    none_is h = cc
entity_found old (e ∷ es) zero found = ap (λ d. Some (entity_value d.entity)) (sym (is_first old e.1 found))
entity_found old (e ∷ es) (suc number) found = entity_found old es number found

pub no_entity_found : (es : List (List ℕ × Declared)) (number : ℕ) → None ≡ slice_get (map value_in es) number → entity_at (map entry_value es) number ≡ None
no_entity_found [] number found = refl
no_entity_found (e ∷ es) zero found = absurd (none_some found)
  where
    none_some : {X : Type 0} {x : X} → None ≡ Some x → ⊥
    none_some h = cc
no_entity_found (e ∷ es) (suc number) found = no_entity_found es number found

module _ (change : Entity → Entity) where
  same_shapes : ((known : List Shape) (e : Entity) → entity_shape known (change e) ≡ entity_shape known e) → (known : List Shape) (s : Scope) (number : ℕ) → shapes_after known (changed_at s number change) ≡ shapes_after known s
  same_shapes same known [] number = refl
  same_shapes same known (n ∷ rest) zero = ap (λ x. shapes_after (known ++ x ∷ []) rest) (same known n.entity)
  same_shapes same known (n ∷ rest) (suc number) = same_shapes same (known ++ entity_shape known n.entity ∷ []) rest number

  -- no name has this number
  pub none_changed : (es : List (List ℕ × Declared)) (number : ℕ) → None ≡ slice_get (map value_in es) number → changed_at (map entry_value es) number change ≡ map entry_value es
  none_changed [] number found = refl
  none_changed (e ∷ es) zero found = absurd (none_some found)
    where
      none_some : {X : Type 0} {x : X} → None ≡ Some x → ⊥
      none_some h = cc
  none_changed (e ∷ es) (suc number) found = ap (λ s. entry_value e ∷ s) (none_changed es number found)

  module _ (old new : Declared) (entity : entity_value new.entity ≡ change (entity_value old.entity)) (words : new.words ≡ old.words) where
    pub put_changed : (es : List (List ℕ × Declared)) (number : ℕ) → Some old ≡ slice_get (map value_in es) number → map entry_value (set_value_at es number new) ≡ changed_at (map entry_value es) number change
    put_changed [] number found = refl
    put_changed (e ∷ es) zero found =
        ap (λ x. (let n : Named = record { name = e.0; entity = x } in n) ∷ map entry_value es) (entity ∙ ap (λ d. change (entity_value d.entity)) (is_first old e.1 found))
    put_changed (e ∷ es) (suc number) found = ap (λ s. entry_value e ∷ s) (put_changed es number found)

    same_words : (es : List (List ℕ × Declared)) (number : ℕ) → Some old ≡ slice_get (map value_in es) number → map entry_words (set_value_at es number new) ≡ map entry_words es
    same_words [] number found = refl
    same_words (e ∷ es) zero found = ap (λ w. w ∷ map entry_words es) (words ∙ ap (λ d. d.words) (is_first old e.1 found))
    same_words (e ∷ es) (suc number) found = ap (λ ws. e.1.words ∷ ws) (same_words es number found)

    pub kept_changed : ((known : List Shape) (e : Entity) → entity_shape known (change e) ≡ entity_shape known e) → (es : List (List ℕ × Declared)) (number : ℕ) → Some old ≡ slice_get (map value_in es) number → AreKept es → AreKept (set_value_at es number new)
    kept_changed same es number found kept =
        same_words es number found ∙ kept
        ∙ ap (map capped_words) (sym (same_shapes same [] (map entry_value es) number))
        ∙ ap (λ s. map capped_words (shapes s)) (sym (put_changed es number found))
