-- The words of objects without initial value, part by part.
use Rattle.std.proofs.Common.{◌≡◌, ℕ, suc, ◌+◌, ◌<◌, ℤ, List, [], ◌∷◌, ◌++◌, append_assoc, get_or, length, Option, Some, sym, ap, ◌∙◌, arith, take}
use Rattle.std.proofs.Math.Seq.{take-suc}
use Rattle.ada_tree.specs.ExpressionTree.{ExprTree}
use Rattle.image.specs.WordRanges.{Fits64}
use Rattle.types.specs.Entities.{Arrays, Records, TypeForm}
use Rattle.types.specs.Scopes.{Scope, form_at}
use Rattle.types.specs.declared.entity.RecordComponent.{RecordComponent}
use Rattle.types.specs.Shapes.{Shape, component_shapes, fields_words, initial, initial_fields, initial_of, repeated, shape_among, shapes, value_words, values_words}
use Rattle.types.specs.Statics.{StaticIsValue}
use Rattle.types.specs.Values.{Value, value_of}
use Rattle.types.specs.declared.entity.Subtype.{Subtype}
use Rattle.types.specs.declared.entity.Value.{Value as Scalar}
use Rattle.types.specs.declared.entity.Value.TheVariants as scalar
use Rattle.type_rules.specs.ObjectRules.{fixed_scalar}
use Rattle.expr_soundness.specs.meaning.specs.Programs.{given_or, initial_value}
use Rattle.expr_soundness.specs.SoundScopes.{SoundScope}
use Rattle.program_soundness.proofs.Extending.{extends_self}
use Rattle.program_soundness.proofs.FirstValues.{IsWord, fixed_is_first}
use Rattle.expr_code.proofs.Going.{grouped_shape, repeated_shape}
use Rattle.expr_code.specs.Naming.{scalar_word}
use Rattle.step_simulation.specs.part_code.proofs.Initials.{fields_more, initial_word, repeated_more}
use Rattle.step_simulation.specs.part_code.specs.Emitting.{first_word}

-- words behind words
behind : (old now new xs ys : List ℤ) → now ≡ old ++ xs → new ≡ now ++ ys → new ≡ old ++ (xs ++ ys)
behind old now new xs ys h k = k ∙ ap (λ l. l ++ ys) h ∙ append_assoc old xs ys

-- one component more of an array
pub elements_next : (old now new : List ℤ) (n : ℕ) (x : Value) → now ≡ old ++ values_words (repeated n x) → new ≡ now ++ value_words x
    → new ≡ old ++ values_words (repeated (n + 1) x)
elements_next old now new n x h k =
    let more : n + 1 ≡ suc n = omega arith in
    behind old now new (values_words (repeated n x)) (value_words x) h k
    ∙ ap (λ l. old ++ l) (sym (ap (λ i. values_words (repeated i x)) more ∙ repeated_more n x))

-- ... of a record
pub fields_next : (known : List Shape) (cs : List RecordComponent) (old now new : List ℤ) (n : ℕ) (x : RecordComponent) → n < length cs → x ≡ get_or cs n x
    → now ≡ old ++ fields_words (initial_fields (component_shapes known (take n cs)))
    → new ≡ now ++ value_words (initial_of (shape_among known x.subtype))
    → new ≡ old ++ fields_words (initial_fields (component_shapes known (take (n + 1) cs)))
fields_next known cs old now new n x less is h k =
    let more : n + 1 ≡ suc n = omega arith in
    behind old now new (fields_words (initial_fields (component_shapes known (take n cs)))) (value_words (initial_of (shape_among known x.subtype))) h k
    ∙ ap (λ l. old ++ l)
    (sym (ap (λ i. fields_words (initial_fields (component_shapes known (take i cs)))) more
    ∙ ap (λ l. fields_words (initial_fields (component_shapes known l))) (take-suc cs n x less ∙ ap (λ y. take n cs ++ y ∷ []) (sym is))
    ∙ fields_more known (take n cs) x))

module _ (s : Scope) (t : Subtype) (old new : List ℤ) where
  -- the whole
  pub array_words : SoundScope s → (index : Subtype) (many : ℕ) (element : Subtype) → form_at s t.type_number ≡ Some (Arrays index many element)
      → new ≡ old ++ values_words (repeated many (initial s element)) → new ≡ old ++ value_words (initial s t)
  array_words sound index many element form h = h ∙ ap (λ x. old ++ value_words (initial_of x)) (sym (repeated_shape s sound t index many element form))

  pub record_words : SoundScope s → (cs : List RecordComponent) → form_at s t.type_number ≡ Some (Records cs)
      → new ≡ old ++ fields_words (initial_fields (component_shapes (shapes s) cs)) → new ≡ old ++ value_words (initial s t)
  record_words sound cs form h = h ∙ ap (λ x. old ++ value_words (initial_of x)) (sym (grouped_shape s sound t cs form))

  -- a scalar
  pub scalar_words : (told word : ℤ) → told ≡ word → (form : Option TypeForm) → form_at s t.type_number ≡ form → first_word form t ≡ Some word
      → new ≡ old ++ told ∷ [] → new ≡ old ++ value_words (initial s t)
  scalar_words told word same form is first h =
      h ∙ ap (λ z. old ++ z ∷ []) same ∙ ap (λ l. old ++ l) (sym (initial_word s t word (ap (λ o. first_word o t) is ∙ first)).words)

-- ---- a value that is given

-- what its text tells of it is its value at the start
pub given_words : StaticIsValue → (s : Scope) → SoundScope s → (t : Subtype) (value : Option ExprTree) (e : ExprTree) (c : Scalar) → value ≡ Some e
    → fixed_scalar s (Some t) e ≡ Some c → Fits64 (scalar_word c) → value_words (value_of c) ≡ value_words (initial_value s t value)
given_words law s sound t value e c given known fits =
    sym (ap (λ o. value_words (initial_value s t o)) given
    ∙ ap (λ r. value_words (given_or r (initial s t))) (fixed_is_first law s sound s (extends_self s) t e c known (word_of_scalar c fits)))
  where
    word_of_scalar : (c : Scalar) → Fits64 (scalar_word c) → IsWord c
    word_of_scalar (scalar.Number z) h = h
    word_of_scalar (scalar.Truth b) h = tt
