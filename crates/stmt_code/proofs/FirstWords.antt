-- The words of objects without initial value are those of their values (RM 3.3.1).
use Rattle.std.proofs.Common.{◌≡◌, ◌<◌, ◌≤◌, ℕ, zero, suc, List, [], ◌∷◌, ◌++◌, Option, Some, None, true, refl, sym, ap, ◌∙◌, arith}
use Rattle.std.specs.Prelude.{is_some, pos}
use Rattle.types.specs.declared.entity.RecordComponent.{RecordComponent}
use Rattle.types.specs.declared.entity.Subtype.{Subtype}
use Rattle.types.specs.Entities.{Arrays, Booleans, Integers, Records, Spans, Times, TypeForm}
use Rattle.types.specs.Scopes.{Scope, form_at}
use Rattle.types.specs.Shapes.{component_shapes, fields_words, initial, initial_fields, initial_of, repeated, shapes, value_words, values_words}
use Rattle.types.specs.Values.{Value}
use Rattle.expr_soundness.specs.SoundScopes.{AreEarlier, IsKnown, SoundScope}
use Rattle.expr_soundness.proofs.Goods.{sound_form}
use Rattle.expr_code.proofs.Going.{grouped_shape, repeated_shape}
use Rattle.part_code.specs.Emitting.{first_word}
use Rattle.part_code.specs.ObjectCode.{first_words, form_words, parts_words, times_words}
use Rattle.part_code.proofs.Initials.{initial_word}

times_values : (n : ℕ) (v : Value) → times_words n (value_words v) ≡ values_words (repeated n v)
times_values zero v = refl
times_values (suc n) v = ap (λ l. value_words v ++ l) (times_values n v)

module _ (s : Scope) (sound : SoundScope s) where
  -- of types below a bound
  abbrev AreWords : ℕ → Type 0
  AreWords n = (u : Subtype) → u.type_number < n → IsKnown s u → first_words n s u ≡ value_words (initial s u)

  parts_first : (n : ℕ) → AreWords n → (m : ℕ) → m ≤ n → (cs : List RecordComponent) → AreEarlier s m cs
      → parts_words (first_words n s) cs ≡ fields_words (initial_fields (component_shapes (shapes s) cs))
  parts_first n all m le [] h = refl
  parts_first n all m le (c ∷ cs) h =
      let less = h.0.before in
      λ j. all c.subtype (omega (arith, less, le)) h.0.known j ++ parts_first n all m le cs h.1 j

  form_first : (n : ℕ) → AreWords n → (t : Subtype) → t.type_number < suc n → (form : Option TypeForm) → form_at s t.type_number ≡ form → is_some form ≡ true
      → form_words (first_words n s) t form ≡ value_words (initial s t)
  form_first n all t less (Some Integers) is h = sym (initial_word s t t.first (ap (λ o. first_word o t) is)).words
  form_first n all t less (Some Booleans) is h = sym (initial_word s t (pos 0) (ap (λ o. first_word o t) is)).words
  form_first n all t less (Some Times) is h = sym (initial_word s t (pos 0) (ap (λ o. first_word o t) is)).words
  form_first n all t less (Some Spans) is h = sym (initial_word s t (pos 0) (ap (λ o. first_word o t) is)).words
  form_first n all t less (Some (Arrays index many element)) is h =
      let part = (sound_form s sound t.type_number (Arrays index many element) is).earlier in
      let before = part.before in
      ap (times_words many) (all element (omega (arith, before, less)) part.known) ∙ times_values many (initial s element)
      ∙ ap (λ x. value_words (initial_of x)) (sym (repeated_shape s sound t index many element is))
  form_first n all t less (Some (Records cs)) is h =
      parts_first n all t.type_number (omega (arith, less)) cs (sound_form s sound t.type_number (Records cs) is)
      ∙ ap (λ x. value_words (initial_of x)) (sym (grouped_shape s sound t cs is))
  form_first n all t less None is h = absurd cc

  pub words_first : (n : ℕ) → AreWords n
  words_first zero t less known = absurd (omega (arith, less))
  words_first (suc n) t less known = form_first n (words_first n) t less (form_at s t.type_number) refl known
