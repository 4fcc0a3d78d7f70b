-- In a sound scope whose record types have components each part of a value takes a word, and is fit where it isn't larger than an image.
use Rattle.std.proofs.Common.{◌≡◌, ℕ, zero, suc, ◌*◌, ◌≤◌, ◌<◌, true, not, List, [], ◌∷◌, Option, Some, None, refl, ap, ◌∙◌, arith}
use Rattle.std.specs.Prelude.{is_some, nat_eq, nat_le, slice_get}
use Rattle.std.proofs.lemmas.Bool.{and_from, and_parts, le-leb}
use Rattle.std.proofs.lemmas.Bool.Decides.{nat_tests}
use Rattle.base.specs.declared.limits.TheConstants.{WORDS}
use Rattle.image.specs.Rules.{is_block}
use Rattle.types.specs.declared.entity.RecordComponent.{RecordComponent}
use Rattle.types.specs.declared.entity.Subtype.{Subtype}
use Rattle.types.specs.Entities.{Arrays, Booleans, Integers, OfType, Records, Spans, Times, TypeForm}
use Rattle.types.specs.Scopes.{Scope, base_range_of, entity_at, form_at}
use Rattle.types.specs.Shapes.{Grouped, MoreShapes, NoShapes, Repeated, Shape, Shapeless, Shapes, component_shapes, form_shape, narrowed, shape_of, shape_or_none, shapes, words, words_of_parts}
use Rattle.expr_soundness.specs.expr_rules.proofs.TypeShapes.{type_entity}
use Rattle.expr_soundness.specs.SoundScopes.{AreEarlier, IsKnown, SoundScope}
use Rattle.expr_soundness.proofs.Goods.{sound_form}
use Rattle.expr_soundness.proofs.Parts.{before, shape_by_form}
use Rattle.expr_code.specs.Refusing.{are_fit, is_fit}
use Rattle.expr_code.proofs.Going.{grouped_shape, repeated_shape}
use Rattle.part_code.specs.Providing.{are_full, is_full}
use Rattle.part_code.proofs.FullWords.{full_some, narrowed_full}
use Rattle.source_laws.proofs.BoundedNames.{AreBounded, bounded_at, has_a_part}

-- ---- full shapes take words

no_zero : (n : ℕ) → 1 ≤ n → not (nat_eq n 0) ≡ true
no_zero n h = grind (arith, nat_tests)

some_times : (many w : ℕ) → 1 ≤ many * w → w ≤ many * w
some_times zero w h = absurd (omega (arith, h))
some_times (suc many) w h = omega arith

some_product : (many n w : ℕ) → many ≡ suc n → 1 ≤ w → 1 ≤ many * w
some_product zero n w e h = cc
some_product (suc many) n w e h = omega (arith, h)

block : (n : ℕ) → 1 ≤ n → n ≤ WORDS → is_block n ≡ true
block n some few = and_from (nat_le 1 n) (nat_le n WORDS) (le-leb 1 n some) (le-leb n WORDS few)

-- ---- ... so they are fit where they aren't too large

mutual
  pub full_fit : (x : Shape) → is_full x ≡ true → words x ≤ WORDS → is_fit x ≡ true
  full_fit (Repeated many x) h up =
      let some = full_some (Repeated many x) h in
      let more = some_times many (words x) some in
      and_from (is_block (many * words x)) (is_fit x) (block (many * words x) some up)
      (full_fit x (and_parts (not (nat_eq (many * words x) 0)) (is_full x) h).1 (within (words x) (many * words x) more up))
    where
      within : (a b : ℕ) → a ≤ b → b ≤ WORDS → a ≤ WORDS
      within a b i j = omega (arith, i, j)
  full_fit (Grouped parts) h up =
      and_from (is_block (words (Grouped parts))) (are_fit parts) (block (words (Grouped parts)) (full_some (Grouped parts) h) up)
      (parts_fit parts (and_parts (not (nat_eq (words_of_parts parts) 0)) (are_full parts) h).1 up)
  full_fit Shapeless h up = cc
  full_fit x h up = refl

  parts_fit : (parts : Shapes) → are_full parts ≡ true → words_of_parts parts ≤ WORDS → are_fit parts ≡ true
  parts_fit NoShapes h up = refl
  parts_fit (MoreShapes name x rest) h up =
      let p = and_parts (is_full x) (are_full rest) h in
      and_from (is_fit x) (are_fit rest) (full_fit x p.0 (omega (arith, up))) (parts_fit rest p.1 (omega (arith, up)))

-- ---- the shapes of types

module _ (s : Scope) (sound : SoundScope s) (bounded : AreBounded s) where
  -- of a form that has no parts
  single_full : (u : Subtype) (form : TypeForm) → form_at s u.type_number ≡ Some form
      → ((known : List Shape) (t : Subtype) → is_full (narrowed (base_range_of u.type_number) (form_shape known t form)) ≡ true)
      → is_full (shape_of s u) ≡ true
  single_full u form h whole =
      let n = u.type_number in
      let x = shape_by_form s n form h in
      narrowed_full u (base_range_of n) (shape_or_none (slice_get (shapes s) n)) ∙ ap is_full x.1 ∙ whole (before s n) x.0

  -- a record type has a component, so it has words
  some_components : (n : ℕ) (cs : List RecordComponent) → form_at s n ≡ Some (Records cs) → are_full (component_shapes (shapes s) cs) ≡ true
      → 1 ≤ words_of_parts (component_shapes (shapes s) cs)
  some_components n cs h full =
      let t = type_entity (entity_at s n) (Records cs) h in by_components cs (bounded_at s n (OfType (Records cs) t.0) bounded t.1) full
    where
      by_components : (xs : List RecordComponent) → has_a_part (Records xs) ≡ true → are_full (component_shapes (shapes s) xs) ≡ true
          → 1 ≤ words_of_parts (component_shapes (shapes s) xs)
      by_components [] k f = cc
      by_components (x ∷ xs) k f =
          let own = full_some (shape_of s x.subtype) (and_parts (is_full (shape_of s x.subtype)) (are_full (component_shapes (shapes s) xs)) f).0 in
          omega (arith, own)

  -- those of earlier types
  abbrev FullBelow : ℕ → Type 0
  FullBelow n = (u : Subtype) → u.type_number < n → IsKnown s u → is_full (shape_of s u) ≡ true

  parts_full : (n : ℕ) (cs : List RecordComponent) → FullBelow n → AreEarlier s n cs → are_full (component_shapes (shapes s) cs) ≡ true
  parts_full n [] below earlier = refl
  parts_full n (c ∷ cs) below earlier =
      and_from (is_full (shape_of s c.subtype)) (are_full (component_shapes (shapes s) cs)) (below c.subtype earlier.0.before earlier.0.known)
      (parts_full n cs below earlier.1)

  one_full : (u : Subtype) → FullBelow u.type_number → (o : Option TypeForm) → form_at s u.type_number ≡ o → is_some o ≡ true
      → is_full (shape_of s u) ≡ true
  one_full u below None e k = cc
  one_full u below (Some Integers) e k = single_full u Integers e (λ before t. refl)
  one_full u below (Some Booleans) e k = single_full u Booleans e (λ before t. refl)
  one_full u below (Some Times) e k = single_full u Times e (λ before t. refl)
  one_full u below (Some Spans) e k = single_full u Spans e (λ before t. refl)
  one_full u below (Some (Arrays index many element)) e k =
      let array = sound_form s sound u.type_number (Arrays index many element) e in
      let own = below element array.earlier.before array.earlier.known in
      let some = full_some (shape_of s element) own in
      ap is_full (repeated_shape s sound u index many element e)
      ∙ and_from (not (nat_eq (many * words (shape_of s element)) 0)) (is_full (shape_of s element))
      (no_zero (many * words (shape_of s element)) (some_product many _ (words (shape_of s element)) array.counted some)) own
  one_full u below (Some (Records cs)) e k =
      let own = parts_full u.type_number cs below (sound_form s sound u.type_number (Records cs) e) in
      ap is_full (grouped_shape s sound u cs e)
      ∙ and_from (not (nat_eq (words_of_parts (component_shapes (shapes s) cs)) 0)) (are_full (component_shapes (shapes s) cs))
      (no_zero (words_of_parts (component_shapes (shapes s) cs)) (some_components u.type_number cs e own)) own

  full_below : (n : ℕ) → FullBelow n
  full_below zero u less known = absurd (omega (arith, less))
  full_below (suc n) u less known = one_full u (λ v small k. full_below n v (omega (arith, less, small)) k) (form_at s u.type_number) refl known

  pub type_full : (u : Subtype) → IsKnown s u → is_full (shape_of s u) ≡ true
  type_full u known = full_below (suc u.type_number) u (omega arith) known
