-- What Ada.Real_Time and Control_IO make visible is sound.
use Rattle.std.proofs.Common.{◌≡◌, ℕ, suc, ◌++◌, length, List, [], ◌∷◌, true, false, ◌⊎◌, inl, inr, Option, Some, None, refl, sym, ap, ◌∙◌, subst}
use Rattle.std.specs.Prelude.{bytes_eq, codes, cond, is_some}
use Rattle.meaning.specs.types.specs.declared.entity.PredefinedOperation.TheVariants as predefined
use Rattle.meaning.specs.types.specs.Entities.{TypeForm, Integers, Booleans, Times, Spans, Entity, OfType, Put}
use Rattle.meaning.specs.types.specs.Scopes.{Scope, Named, base_range_of, boolean_type, entity_at, entity_of, form_at, form_of, from_integer, from_nothing, integer, integer_type, is_visible, number_of, with_control_io, with_name, with_real_time}
use Rattle.meaning.specs.expr_rules.specs.Typing.{is_integers, is_spans, is_times}
use Rattle.meaning.specs.expr_rules.proofs.TypeShapes.{type_entity}
use Rattle.expr_soundness.specs.SoundScopes.{IsSoundEntity, SoundScope}
use Rattle.expr_soundness.proofs.Positions.{entity_added, item_added, number_added}
use Rattle.expr_soundness.proofs.Growing.{entity_sound, form_kept, grown, test_kept}
use Rattle.expr_soundness.specs.Laws.{ScopesAreSound}
use Rattle.expr_soundness.proofs.Standard.{standard_is_sound}
use Rattle.expr_soundness.proofs.Widening.{subtype_known, widened, wider_sound}

abbrev entry : List ℕ → Entity → Named
entry name e = record { name = name; entity = e }

-- a name that is not visible is not like the one that is added
still_hidden : (s : Scope) (x : Named) (name : List ℕ) → is_visible s name ≡ false → bytes_eq name x.name ≡ false → is_visible (s ++ x ∷ []) name ≡ false
still_hidden s x name hidden unlike = by_number (number_of (s ++ x ∷ []) name) refl
  where
    by_number : (o : Option ℕ) → number_of (s ++ x ∷ []) name ≡ o → is_some o ≡ false
    by_number (Some n) e =
        elim (number_added s x name n e) [
          | inl k ↦ (let seen : is_visible s name ≡ true = ap is_some k in let never = sym seen ∙ hidden in cc)
          | inr k ↦ (let never = sym k.1 ∙ unlike in cc)
        ]
    by_number None e = refl

added : (s : Scope) (name : List ℕ) (e : Entity) → is_visible s name ≡ false → with_name s name e ≡ s ++ entry name e ∷ []
added s name e hidden = ap (λ b. cond b s (s ++ entry name e ∷ [])) hidden

-- ---- Control_IO

pub control_io : (s : Scope) → SoundScope s → is_visible s (codes "PUT") ≡ false → is_visible s (codes "READ") ≡ false → SoundScope (with_control_io s)
control_io s sound put read =
    let one : Scope = s ++ entry (codes "PUT") Put ∷ [] in
    let first = wider_sound s (entry (codes "PUT") Put) sound tt refl in
    let unseen = still_hidden s (entry (codes "PUT") Put) (codes "READ") read refl in
    let operation = from_integer predefined.Read integer in
    let form : form_at (one ++ entry (codes "READ") operation ∷ []) integer_type ≡ Some Integers = form_kept one (entry (codes "READ") operation ∷ []) integer_type Integers first.integer in
    let second =
    wider_sound one (entry (codes "READ") operation) first (record { subtype = integer; result = refl; base = refl; form = ap is_integers form; takes = refl }) refl in
    subst (λ u. SoundScope (with_name u (codes "READ") operation)) (sym (added s (codes "PUT") Put put))
    (subst SoundScope (sym (added one (codes "READ") operation unseen)) second)

-- ---- Ada.Real_Time

longer : (s : Scope) (x : Named) → length (s ++ x ∷ []) ≡ suc (length s)
longer [] x = refl
longer (y ∷ s) x = ap suc (longer s x)

module _ (s : Scope) (sound : SoundScope s) where
  abbrev time : Named
  time = entry (codes "TIME") (OfType Times (base_range_of (length s)))

  abbrev span : Named
  span = entry (codes "TIME_SPAN") (OfType Spans (base_range_of (suc (length s))))

  abbrev one : Scope
  one = s ++ time ∷ []

  abbrev two : Scope
  two = one ++ span ∷ []

  time_at : form_at one (length s) ≡ Some Times
  time_at = ap (λ o. form_of (entity_of o)) (item_added s time)

  span_at : form_at two (suc (length s)) ≡ Some Spans
  span_at = ap (λ k. form_at two k) (sym (longer s time)) ∙ ap (λ o. form_of (entity_of o)) (item_added one span)

  type_sound : (n m : ℕ) (form : TypeForm) (e : Entity) → n ≡ m → OfType form (base_range_of m) ≡ e → (is_times (Some form) ≡ true) ⊎ (is_spans (Some form) ≡ true) → IsSoundEntity two n e
  type_sound n m Times e at is h = subst (λ k. IsSoundEntity two k e) (sym at) (subst (λ x. IsSoundEntity two m x) is (record { numbered = refl; parts = tt }))
  type_sound n m Spans e at is h = subst (λ k. IsSoundEntity two k e) (sym at) (subst (λ x. IsSoundEntity two m x) is (record { numbered = refl; parts = tt }))
  type_sound n m form e at is (inl h) = cc
  type_sound n m form e at is (inr h) = cc

  each_two : (n : ℕ) (e : Entity) → entity_at two n ≡ Some e → IsSoundEntity two n e
  each_two n e h =
      elim (entity_added one span n e h) [
        | inl k ↦
            elim (entity_added s time n e k) [
              | inl i ↦ entity_sound one two (grown one (span ∷ [])) n e (entity_sound s one (grown s (time ∷ [])) n e (sound.each n e i))
              | inr i ↦ type_sound n (length s) Times e i.0 i.1 (inl refl)
            ]
        | inr k ↦ type_sound n (suc (length s)) Spans e (k.0 ∙ longer s time) k.1 (inr refl)
      ]

  span_two : (n : ℕ) → is_times (form_at two n) ≡ true → is_spans (form_at two (suc n)) ≡ true
  span_two n h = by_form (form_at two n) refl h
    where
      by_form : (o : Option TypeForm) → form_at two n ≡ o → is_times o ≡ true → is_spans (form_at two (suc n)) ≡ true
      by_form (Some form) e k =
          let t = type_entity (entity_at two n) form e in
          elim (entity_added one span n (OfType form t.0) t.1) [
            | inl i ↦
                elim (entity_added s time n (OfType form t.0) i) [
                  | inl j ↦
                      test_kept one two (grown one (span ∷ [])) is_spans refl (suc n)
                      (test_kept s one (grown s (time ∷ [])) is_spans refl (suc n) (sound.span n (ap (λ o. is_times (form_of o)) j ∙ k)))
                  | inr j ↦ ap (λ m. is_spans (form_at two (suc m))) j.0 ∙ ap is_spans span_at
                ]
            | inr i ↦ (let never : false ≡ true = ap (λ y. is_times (form_of (Some y))) i.1 ∙ k in cc)
          ]
      by_form None e k = cc

  two_sound : SoundScope two
  two_sound =
      record {
        integer = form_kept one (span ∷ []) integer_type Integers (form_kept s (time ∷ []) integer_type Integers sound.integer);
        boolean = form_kept one (span ∷ []) boolean_type Booleans (form_kept s (time ∷ []) boolean_type Booleans sound.boolean);
        span = span_two;
        each = each_two;
      }

  time_in_two : form_at two (length s) ≡ Some Times
  time_in_two = form_kept one (span ∷ []) (length s) Times time_at

  abbrev clock : Named
  clock = entry (codes "CLOCK") (from_nothing predefined.Clock (base_range_of (length s)))

  abbrev milliseconds : Named
  milliseconds = entry (codes "MILLISECONDS") (from_integer predefined.Milliseconds (base_range_of (suc (length s))))

  abbrev microseconds : Named
  microseconds = entry (codes "MICROSECONDS") (from_integer predefined.Microseconds (base_range_of (suc (length s))))

  abbrev three : Scope
  three = two ++ clock ∷ []

  abbrev four : Scope
  four = three ++ milliseconds ∷ []

  abbrev five : Scope
  five = four ++ microseconds ∷ []

  three_sound : SoundScope three
  three_sound =
      wider_sound two clock two_sound (record { subtype = base_range_of (length s); result = refl; base = refl; form = ap is_times (form_kept two (clock ∷ []) (length s) Times time_in_two); takes = refl }) refl

  span_in_three : form_at three (suc (length s)) ≡ Some Spans
  span_in_three = form_kept two (clock ∷ []) (suc (length s)) Spans span_at

  span_in_four : form_at four (suc (length s)) ≡ Some Spans
  span_in_four = form_kept three (milliseconds ∷ []) (suc (length s)) Spans span_in_three

  four_sound : SoundScope four
  four_sound = wider_sound three milliseconds three_sound (record { subtype = base_range_of (suc (length s)); result = refl; base = refl; form = ap is_spans span_in_four; takes = refl }) refl

  five_sound : SoundScope five
  five_sound =
      wider_sound four microseconds four_sound
      (record { subtype = base_range_of (suc (length s)); result = refl; base = refl; form = ap is_spans (form_kept four (microseconds ∷ []) (suc (length s)) Spans span_in_four); takes = refl }) refl

  step : (t u : Scope) (x : Named) → t ≡ u → is_visible u x.name ≡ false → with_name t x.name x.entity ≡ u ++ x ∷ []
  step t u x same unseen = ap (λ k. with_name k x.name x.entity) same ∙ added u x.name x.entity unseen

  -- not visible with these four more
  unseen_one : (name : List ℕ) → is_visible s name ≡ false → bytes_eq name (codes "TIME") ≡ false → is_visible one name ≡ false
  unseen_one name h a = still_hidden s time name h a

  unseen_two : (name : List ℕ) → is_visible s name ≡ false → bytes_eq name (codes "TIME") ≡ false → bytes_eq name (codes "TIME_SPAN") ≡ false → is_visible two name ≡ false
  unseen_two name h a b = still_hidden one span name (unseen_one name h a) b

  pub real_time : is_visible s (codes "TIME") ≡ false → is_visible s (codes "TIME_SPAN") ≡ false → is_visible s (codes "CLOCK") ≡ false → is_visible s (codes "MILLISECONDS") ≡ false
      → is_visible s (codes "MICROSECONDS") ≡ false → SoundScope (with_real_time s)
  real_time h_time h_span h_clock h_milliseconds h_microseconds =
      let second = step (with_name s (codes "TIME") time.entity) one span (added s (codes "TIME") time.entity h_time) (unseen_one (codes "TIME_SPAN") h_span refl) in
      let third = step _ two clock second (unseen_two (codes "CLOCK") h_clock refl refl) in
      let fourth = step _ three milliseconds third (still_hidden two clock (codes "MILLISECONDS") (unseen_two (codes "MILLISECONDS") h_milliseconds refl refl) refl) in
      let in_three = still_hidden two clock (codes "MICROSECONDS") (unseen_two (codes "MICROSECONDS") h_microseconds refl refl) refl in
      let fifth = step _ four microseconds fourth (still_hidden three milliseconds (codes "MICROSECONDS") in_three refl) in
      subst SoundScope (sym fifth) five_sound

pub scopes_are_sound : ScopesAreSound
scopes_are_sound = record { begun = standard_is_sound; widened = widened; real_time = real_time; control_io = control_io; subtype = subtype_known }
