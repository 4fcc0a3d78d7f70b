-- Values with a part changed to one of its subtype lie in their own as before.
use Rattle.std.proofs.Common.{◌≡◌, ℕ, zero, suc, List, [], ◌∷◌, Bool, true, false, Option, Some, None, refl, sym, ap, ◌∙◌, subst}
use Rattle.std.specs.Prelude.{◌&&◌, bytes_eq, cond, nat_lt}
use Rattle.std.proofs.lemmas.Slice.Eq.{bytes_eq-Decides}
use Rattle.meaning.specs.types.specs.declared.entity.Subtype.{Subtype}
use Rattle.meaning.specs.types.specs.declared.entity.RecordComponent.{RecordComponent}
use Rattle.meaning.specs.types.specs.Entities.{TypeForm, Arrays, Records}
use Rattle.meaning.specs.types.specs.Scopes.{Scope, form_at}
use Rattle.meaning.specs.types.specs.Standings.{component_of}
use Rattle.meaning.specs.types.specs.Values.{Value, Array, Record, Values, NoValues, MoreValues, Fields, NoFields, MoreFields}
use Rattle.meaning.specs.Targets.{changed_element, changed_field, changed_part, with_part}
use Rattle.meaning.specs.Works.{Part, Element, Field}
use Rattle.expr_soundness.specs.Variables.{part_in, part_subtype}
use Rattle.expr_soundness.proofs.Positions.{same_some}
use Rattle.expr_soundness.specs.Lying.{components_of, elements_lie, fields_lie, lies}
use Rattle.expr_soundness.specs.StoringLaw.{StoredValuesLie}
use Rattle.expr_soundness.proofs.Elements.{both_left, both_right}

module _ (s : Scope) (w : Subtype) (change : Value → Value) (keeps : (x : Value) → lies s w x ≡ true → lies s w (change x) ≡ true) where
  element_changed : (index : Subtype) (size : ℕ) (n : ℕ) (vs : Values) → elements_lie s (Some (Arrays index size w)) vs ≡ true
      → elements_lie s (Some (Arrays index size w)) (changed_element n change vs) ≡ true
  element_changed index size n NoValues h = refl
  element_changed index size zero (MoreValues x rest) h =
      let more = elements_lie s (Some (Arrays index size w)) rest in
      ap (λ b. b && more) (keeps x (both_left (lies s w x) more h)) ∙ both_right (lies s w x) more h
  element_changed index size (suc n) (MoreValues x rest) h =
      let more = elements_lie s (Some (Arrays index size w)) rest in
      ap (λ b. b && elements_lie s (Some (Arrays index size w)) (changed_element n change rest)) (both_left (lies s w x) more h)
      ∙ element_changed index size n rest (both_right (lies s w x) more h)

  field_changed : (name : List ℕ) (cs : List RecordComponent) (fs : Fields) → component_of cs name ≡ Some w → fields_lie s cs fs ≡ true
      → fields_lie s cs (changed_field name change fs) ≡ true
  field_changed name cs NoFields named h = refl
  field_changed name [] (MoreFields own x rest) named h = cc
  field_changed name (c ∷ cs) (MoreFields own x rest) named h = by_test (bytes_eq own name) refl (field_changed name cs rest)
    where
      alike : bytes_eq own c.name ≡ true
      alike = both_left (bytes_eq own c.name) (lies s c.subtype x && fields_lie s cs rest) h

      both : (lies s c.subtype x && fields_lie s cs rest) ≡ true
      both = both_right (bytes_eq own c.name) (lies s c.subtype x && fields_lie s cs rest) h

      here : (b : Bool) → bytes_eq own name ≡ b → cond b (Some c.subtype) (component_of cs name) ≡ Some w
      here b e = sym (ap (λ k. cond k (Some c.subtype) (component_of cs name)) (ap (λ n. bytes_eq n name) (sym ((bytes_eq-Decides own c.name).0 alike))
          ∙ e)) ∙ named

      by_test : (b : Bool) → bytes_eq own name ≡ b → (component_of cs name ≡ Some w → fields_lie s cs rest ≡ true
          → fields_lie s cs (changed_field name change rest) ≡ true)
          → fields_lie s (c ∷ cs) (cond b (MoreFields own (change x) rest) (MoreFields own x (changed_field name change rest))) ≡ true
      by_test true e later =
          let same : w ≡ c.subtype = sym (same_some c.subtype w (here true e)) in
          let kept : lies s c.subtype (change x) ≡ true =
          subst (λ u. lies s u (change x) ≡ true) same (keeps x
          (subst (λ u. lies s u x ≡ true) (sym same) (both_left (lies s c.subtype x) (fields_lie s cs rest) both))) in
          ap (λ b. b && (lies s c.subtype (change x) && fields_lie s cs rest)) alike ∙ ap (λ b. b && fields_lie s cs rest) kept
          ∙ both_right (lies s c.subtype x) (fields_lie s cs rest) both
      by_test false e later =
          ap (λ b. b && (lies s c.subtype x && fields_lie s cs (changed_field name change rest))) alike
          ∙ ap (λ b. b && fields_lie s cs (changed_field name change rest)) (both_left (lies s c.subtype x) (fields_lie s cs rest) both)
          ∙ later (here false e) (both_right (lies s c.subtype x) (fields_lie s cs rest) both)

  array_changed : (n : ℕ) (vs : Values) (o : Option TypeForm) → part_in o (Element n) ≡ Some w → elements_lie s o vs ≡ true
      → elements_lie s o (changed_element n change vs) ≡ true
  array_changed n vs (Some (Arrays index size element)) part h = by_test (nat_lt n size) part
    where
      by_test : (b : Bool) → cond b (Some element) None ≡ Some w → elements_lie s (Some (Arrays index size element)) (changed_element n change vs) ≡ true
      by_test true k =
          let same : element ≡ w = same_some element w k in
          subst (λ u. elements_lie s (Some (Arrays index size u)) (changed_element n change vs) ≡ true) (sym same)
          (element_changed index size n vs (subst (λ u. elements_lie s (Some (Arrays index size u)) vs ≡ true) same h))
      by_test false k = cc
  array_changed n vs o part h = cc

  record_changed : (name : List ℕ) (fs : Fields) (o : Option TypeForm) → part_in o (Field name) ≡ Some w → fields_lie s (components_of o) fs ≡ true
      → fields_lie s (components_of o) (changed_field name change fs) ≡ true
  record_changed name fs (Some (Records cs)) part h = field_changed name cs fs part h
  record_changed name fs o part h = cc

  part_changed : (t : Subtype) (part : Part) (v : Value) → part_in (form_at s t.type_number) part ≡ Some w → lies s t v ≡ true
      → lies s t (changed_part part change v) ≡ true
  part_changed t (Element n) (Array vs) part h = array_changed n vs (form_at s t.type_number) part h
  part_changed t (Field name) (Record fs) part h = record_changed name fs (form_at s t.type_number) part h
  part_changed t part v is h = h

pub stored_values_lie : StoredValuesLie
stored_values_lie s t u [] v new part h k = subst (λ x. lies s x new ≡ true) (sym (same_some t u part)) k
stored_values_lie s t u (x ∷ parts) v new part h k = by_part (part_in (form_at s t.type_number) x) refl part
    (λ w y e l. stored_values_lie s w u parts y new e l k)
  where
    by_part : (o : Option Subtype) → part_in (form_at s t.type_number) x ≡ o → elim o [ Some w ↦ part_subtype s w parts | None ↦ None ] ≡ Some u
        → ((w : Subtype) (y : Value) → part_subtype s w parts ≡ Some u → lies s w y ≡ true → lies s w (with_part parts new y) ≡ true)
        → lies s t (changed_part x (with_part parts new) v) ≡ true
    by_part (Some w) e l inner = part_changed s w (with_part parts new) (λ y m. inner w y l m) t x v e h
    by_part None e l inner = cc
