-- The value of a part of an object, and the object with that part changed: both of their shapes.
use Rattle.std.proofs.Common.{◌≡◌, ℕ, zero, suc, ◌<◌, List, [], ◌∷◌, ◌++◌, Bool, true, false, ◌&&◌, Option, Some, None, refl, sym, ap, ◌∙◌, subst, arith}
use Rattle.std.specs.Prelude.{bytes_eq, cond, nat_eq, nat_lt}
use Rattle.std.proofs.lemmas.Slice.Eq.{bytes_eq-Decides}
use Rattle.meaning.specs.types.specs.declared.entity.Subtype.{Subtype}
use Rattle.meaning.specs.types.specs.declared.entity.RecordComponent.{RecordComponent}
use Rattle.meaning.specs.types.specs.Entities.{TypeForm, Integers, Booleans, Times, Spans, Arrays, Records}
use Rattle.meaning.specs.types.specs.Scopes.{Scope, form_at}
use Rattle.meaning.specs.types.specs.Standings.{component_of}
use Rattle.meaning.specs.types.specs.Values.{Value, Array, Record, Values, NoValues, MoreValues, Fields, NoFields, MoreFields}
use Rattle.meaning.specs.types.specs.Shapes.{Shape, Repeated, Grouped, all_values, component_shapes, count_values, has_shape, have_shapes, shape_among, shape_of}
use Rattle.meaning.specs.Works.{Part, Element, Field}
use Rattle.meaning.specs.Targets.{changed_element, changed_field, changed_part, component_at, part_value, with_part}
use Rattle.expr_soundness.specs.SoundScopes.{IsKnown, SoundScope}
use Rattle.expr_soundness.specs.Variables.{part_in, part_subtype}
use Rattle.expr_soundness.proofs.Positions.{same_some}
use Rattle.expr_soundness.proofs.Parts.{before, part_shape, shape_by_form, subtype_values}
use Rattle.expr_soundness.proofs.Goods.{earlier_component, sound_form}
use Rattle.expr_soundness.proofs.Elements.{array_at, array_value, both_left, both_right, of_type, record_field, record_value}

-- ---- values with one component changed

elements_changed : (x : Shape) (vs : Values) (n : ℕ) (change : Value → Value) → all_values (has_shape x) vs ≡ true
    → ((w : Value) → has_shape x w ≡ true → has_shape x (change w) ≡ true)
    → all_values (has_shape x) (changed_element n change vs) ≡ true
elements_changed x NoValues n change h keeps = refl
elements_changed x (MoreValues v rest) zero change h keeps =
    ap (λ b. b && all_values (has_shape x) rest) (keeps v (both_left (has_shape x v) (all_values (has_shape x) rest) h)) ∙ both_right (has_shape x v) (all_values (has_shape x) rest) h
elements_changed x (MoreValues v rest) (suc n) change h keeps =
    ap (λ b. b && all_values (has_shape x) (changed_element n change rest)) (both_left (has_shape x v) (all_values (has_shape x) rest) h)
    ∙ elements_changed x rest n change (both_right (has_shape x v) (all_values (has_shape x) rest) h) keeps

count_changed : (vs : Values) (n : ℕ) (change : Value → Value) → count_values (changed_element n change vs) ≡ count_values vs
count_changed NoValues n change = refl
count_changed (MoreValues v rest) zero change = refl
count_changed (MoreValues v rest) (suc n) change = ap suc (count_changed rest n change)

fields_changed : (known : List Shape) (cs : List RecordComponent) (fs : Fields) (name : List ℕ) (u : Subtype) (change : Value → Value)
    → have_shapes (component_shapes known cs) fs ≡ true → component_of cs name ≡ Some u
    → ((w : Value) → has_shape (shape_among known u) w ≡ true → has_shape (shape_among known u) (change w) ≡ true)
    → have_shapes (component_shapes known cs) (changed_field name change fs) ≡ true
fields_changed known [] fs name u change h found keeps = cc
fields_changed known (c ∷ cs) NoFields name u change h found keeps = cc
fields_changed known (c ∷ cs) (MoreFields own v rest) name u change h found keeps =
    subst (λ b. have_shapes (component_shapes known (c ∷ cs)) (cond b (MoreFields own (change v) rest) (MoreFields own v (changed_field name change rest))) ≡ true) (ap (λ n. bytes_eq n name) (sym same))
    (by_test (bytes_eq c.name name) found (λ k. fields_changed known cs rest name u change later k keeps))
  where
    first : bytes_eq own c.name ≡ true
    first = both_left (bytes_eq own c.name) (has_shape (shape_among known c.subtype) v && have_shapes (component_shapes known cs) rest) h

    suited : (has_shape (shape_among known c.subtype) v && have_shapes (component_shapes known cs) rest) ≡ true
    suited = both_right (bytes_eq own c.name) (has_shape (shape_among known c.subtype) v && have_shapes (component_shapes known cs) rest) h

    here : has_shape (shape_among known c.subtype) v ≡ true
    here = both_left (has_shape (shape_among known c.subtype) v) (have_shapes (component_shapes known cs) rest) suited

    later : have_shapes (component_shapes known cs) rest ≡ true
    later = both_right (has_shape (shape_among known c.subtype) v) (have_shapes (component_shapes known cs) rest) suited

    same : own ≡ c.name
    same = (bytes_eq-Decides own c.name).0 first

    together : (v : Value) (fs : Fields) → has_shape (shape_among known c.subtype) v ≡ true → have_shapes (component_shapes known cs) fs ≡ true
        → have_shapes (component_shapes known (c ∷ cs)) (MoreFields own v fs) ≡ true
    together v fs a b = ap (λ x. x && (has_shape (shape_among known c.subtype) v && have_shapes (component_shapes known cs) fs)) first ∙ ap (λ x. x && have_shapes (component_shapes known cs) fs) a ∙ b

    by_test : (b : Bool) → cond b (Some c.subtype) (component_of cs name) ≡ Some u
        → (component_of cs name ≡ Some u → have_shapes (component_shapes known cs) (changed_field name change rest) ≡ true)
        → have_shapes (component_shapes known (c ∷ cs)) (cond b (MoreFields own (change v) rest) (MoreFields own v (changed_field name change rest))) ≡ true
    by_test true k more =
        let is : c.subtype ≡ u = same_some c.subtype u k in
        together (change v) rest (subst (λ t. has_shape (shape_among known t) v ≡ true → has_shape (shape_among known t) (change v) ≡ true) (sym is) (keeps v) here) later
    by_test false k more = together v (changed_field name change rest) here (more k)

module _ (s : Scope) (sound : SoundScope s) where
  -- ---- one part

  component_there : (t : Subtype) (part : Part) (u : Subtype) (v : Value) (o : Option TypeForm) → form_at s t.type_number ≡ o → part_in o part ≡ Some u
      → has_shape (shape_of s t) v ≡ true
      → (x : Value) × (component_at part v ≡ Some x) × (has_shape (shape_of s u) x ≡ true)
  component_there t (Element n) u v (Some (Arrays index size element)) form h suited = by_test (nat_lt n size) refl h
    where
      by_test : (b : Bool) → nat_lt n size ≡ b → cond b (Some element) None ≡ Some u
          → (x : Value) × (component_at (Element n) v ≡ Some x) × (has_shape (shape_of s u) x ≡ true)
      by_test true e k =
          let less : n < size = grind (arith, e) in
          let found = array_at s sound t index size element v n form suited less in
          (found.2, ap (component_at (Element n)) found.1 ∙ found.3, subst (λ w. has_shape (shape_of s w) found.2 ≡ true) (same_some element u k) found.4)
      by_test false e k = cc
  component_there t (Field name) u v (Some (Records cs)) form h suited =
      let found = record_field s sound t cs name u v form suited h in (found.2, ap (component_at (Field name)) found.1 ∙ found.3, found.4)
  component_there t (Element n) u v (Some (Records cs)) form h suited = cc
  component_there t (Field name) u v (Some (Arrays index size element)) form h suited = cc
  component_there t part u v (Some Integers) form h suited = cc
  component_there t part u v (Some Booleans) form h suited = cc
  component_there t part u v (Some Times) form h suited = cc
  component_there t part u v (Some Spans) form h suited = cc
  component_there t part u v None form h suited = cc

  pub part_known : (t : Subtype) (part : Part) (u : Subtype) (o : Option TypeForm) → form_at s t.type_number ≡ o → part_in o part ≡ Some u → IsKnown s u
  part_known t (Element n) u (Some (Arrays index size element)) form h = by_test (nat_lt n size) h
    where
      by_test : (b : Bool) → cond b (Some element) None ≡ Some u → IsKnown s u
      by_test true k = subst (IsKnown s) (same_some element u k) (sound_form s sound t.type_number (Arrays index size element) form).earlier.known
      by_test false k = cc
  part_known t (Field name) u (Some (Records cs)) form h = (earlier_component s sound t.type_number cs name u (sound_form s sound t.type_number (Records cs) form) h).known
  part_known t (Element n) u (Some (Records cs)) form h = cc
  part_known t (Field name) u (Some (Arrays index size element)) form h = cc
  part_known t part u (Some Integers) form h = cc
  part_known t part u (Some Booleans) form h = cc
  part_known t part u (Some Times) form h = cc
  part_known t part u (Some Spans) form h = cc
  part_known t part u None form h = cc

  array_changed : (t index : Subtype) (size : ℕ) (element : Subtype) (v : Value) (n : ℕ) (change : Value → Value)
      → form_at s t.type_number ≡ Some (Arrays index size element) → has_shape (shape_of s t) v ≡ true
      → ((w : Value) → has_shape (shape_of s element) w ≡ true → has_shape (shape_of s element) (change w) ≡ true)
      → has_shape (shape_of s t) (changed_part (Element n) change v) ≡ true
  array_changed t index size element v n change form suited keeps =
      let part = sound_form s sound t.type_number (Arrays index size element) form in
      let shape = shape_by_form s t.type_number (Arrays index size element) form in
      let inner = shape_among (before s t.type_number) element in
      let same : inner ≡ shape_of s element = part_shape s t.type_number element part.earlier.before in
      let all = array_value size inner v (of_type s t v (Repeated size inner) shape.1 suited) in
      let new = Array (changed_element n change all.values) in
      let counted : nat_eq (count_values (changed_element n change all.values)) size ≡ true = ap (λ k. nat_eq k size) (count_changed all.values n change) ∙ all.counted in
      let each = elements_changed inner all.values n change all.suited (subst (λ x. (w : Value) → has_shape x w ≡ true → has_shape x (change w) ≡ true) (sym same) keeps) in
      let fits : has_shape (Repeated size inner) new ≡ true = ap (λ b. b && all_values (has_shape inner) (changed_element n change all.values)) counted ∙ each in
      ap (λ w. has_shape (shape_of s t) (changed_part (Element n) change w)) all.is ∙ subtype_values s t new ∙ ap (λ x. has_shape x new) shape.1 ∙ fits

  record_changed : (t : Subtype) (cs : List RecordComponent) (name : List ℕ) (u : Subtype) (v : Value) (change : Value → Value)
      → form_at s t.type_number ≡ Some (Records cs) → has_shape (shape_of s t) v ≡ true
      → component_of cs name ≡ Some u → ((w : Value) → has_shape (shape_of s u) w ≡ true → has_shape (shape_of s u) (change w) ≡ true)
      → has_shape (shape_of s t) (changed_part (Field name) change v) ≡ true
  record_changed t cs name u v change form suited named keeps =
      let shape = shape_by_form s t.type_number (Records cs) form in
      let known = before s t.type_number in
      let earlier = earlier_component s sound t.type_number cs name u (sound_form s sound t.type_number (Records cs) form) named in
      let same : shape_among known u ≡ shape_of s u = part_shape s t.type_number u earlier.before in
      let whole = record_value (component_shapes known cs) v (of_type s t v (Grouped (component_shapes known cs)) shape.1 suited) in
      let new = Record (changed_field name change whole.0) in
      let fits = fields_changed known cs whole.0 name u change whole.2 named (subst (λ x. (w : Value) → has_shape x w ≡ true → has_shape x (change w) ≡ true) (sym same) keeps) in
      ap (λ w. has_shape (shape_of s t) (changed_part (Field name) change w)) whole.1 ∙ subtype_values s t new ∙ ap (λ x. has_shape x new) shape.1 ∙ fits

  component_changed : (t : Subtype) (part : Part) (u : Subtype) (v : Value) (change : Value → Value) (o : Option TypeForm) → form_at s t.type_number ≡ o
      → part_in o part ≡ Some u → has_shape (shape_of s t) v ≡ true
      → ((w : Value) → has_shape (shape_of s u) w ≡ true → has_shape (shape_of s u) (change w) ≡ true)
      → has_shape (shape_of s t) (changed_part part change v) ≡ true
  component_changed t (Element n) u v change (Some (Arrays index size element)) form h suited keeps = by_test (nat_lt n size) h
    where
      by_test : (b : Bool) → cond b (Some element) None ≡ Some u → has_shape (shape_of s t) (changed_part (Element n) change v) ≡ true
      by_test true k =
          array_changed t index size element v n change form suited
          (subst (λ x. (w : Value) → has_shape (shape_of s x) w ≡ true → has_shape (shape_of s x) (change w) ≡ true) (sym (same_some element u k)) keeps)
      by_test false k = cc
  component_changed t (Field name) u v change (Some (Records cs)) form h suited keeps = record_changed t cs name u v change form suited h keeps
  component_changed t (Element n) u v change (Some (Records cs)) form h suited keeps = cc
  component_changed t (Field name) u v change (Some (Arrays index size element)) form h suited keeps = cc
  component_changed t part u v change (Some Integers) form h suited keeps = cc
  component_changed t part u v change (Some Booleans) form h suited keeps = cc
  component_changed t part u v change (Some Times) form h suited keeps = cc
  component_changed t part u v change (Some Spans) form h suited keeps = cc
  component_changed t part u v change None form h suited keeps = cc

  -- ---- parts of parts

  pub value_there : (parts : List Part) (t u : Subtype) (v : Value) → has_shape (shape_of s t) v ≡ true → part_subtype s t parts ≡ Some u
      → (x : Value) × (part_value parts v ≡ Some x) × (has_shape (shape_of s u) x ≡ true)
  value_there [] t u v suited h = (v, refl, subst (λ w. has_shape (shape_of s w) v ≡ true) (same_some t u h) suited)
  value_there (part ∷ parts) t u v suited h = by_part (part_in (form_at s t.type_number) part) refl h (λ w x k. value_there parts w u x k)
    where
      by_part : (o : Option Subtype) → part_in (form_at s t.type_number) part ≡ o → elim o [ Some w ↦ part_subtype s w parts | None ↦ None ] ≡ Some u
          → ((w : Subtype) (x : Value) → has_shape (shape_of s w) x ≡ true → part_subtype s w parts ≡ Some u → (y : Value) × (part_value parts x ≡ Some y) × (has_shape (shape_of s u) y ≡ true))
          → (y : Value) × (part_value (part ∷ parts) v ≡ Some y) × (has_shape (shape_of s u) y ≡ true)
      by_part (Some w) e k later =
          let found = component_there t part w v (form_at s t.type_number) refl e suited in
          let more = later w found.0 found.2 k in
          (more.0, ap (λ o. elim o [ Some x ↦ part_value parts x | None ↦ None ]) found.1 ∙ more.1, more.2)
      by_part None e k later = cc

  pub whole_changed : (parts : List Part) (t u : Subtype) (v new : Value) → has_shape (shape_of s t) v ≡ true → part_subtype s t parts ≡ Some u
      → has_shape (shape_of s u) new ≡ true → has_shape (shape_of s t) (with_part parts new v) ≡ true
  whole_changed [] t u v new suited h k = subst (λ w. has_shape (shape_of s w) new ≡ true) (sym (same_some t u h)) k
  whole_changed (part ∷ parts) t u v new suited h k = by_part (part_in (form_at s t.type_number) part) refl h (λ w e x i. whole_changed parts w u x new i e k)
    where
      by_part : (o : Option Subtype) → part_in (form_at s t.type_number) part ≡ o → elim o [ Some w ↦ part_subtype s w parts | None ↦ None ] ≡ Some u
          → ((w : Subtype) → part_subtype s w parts ≡ Some u → (x : Value) → has_shape (shape_of s w) x ≡ true → has_shape (shape_of s w) (with_part parts new x) ≡ true)
          → has_shape (shape_of s t) (changed_part part (with_part parts new) v) ≡ true
      by_part (Some w) e i later = component_changed t part w v (with_part parts new) (form_at s t.type_number) refl e suited (later w i)
      by_part None e i later = cc

  -- one part more behind others
  pub part_more : (parts : List Part) (t w u : Subtype) (part : Part) → part_subtype s t parts ≡ Some w → part_in (form_at s w.type_number) part ≡ Some u
      → part_subtype s t (parts ++ part ∷ []) ≡ Some u
  part_more [] t w u part h k =
      let same : t ≡ w = same_some t w h in ap (λ o. elim o [ Some x ↦ part_subtype s x [] | None ↦ None ]) (ap (λ x. part_in (form_at s x.type_number) part) same ∙ k)
  part_more (first ∷ parts) t w u part h k = by_part (part_in (form_at s t.type_number) first) h (λ x e. part_more parts x w u part e k)
    where
      by_part : (o : Option Subtype) → elim o [ Some x ↦ part_subtype s x parts | None ↦ None ] ≡ Some w
          → ((x : Subtype) → part_subtype s x parts ≡ Some w → part_subtype s x (parts ++ part ∷ []) ≡ Some u)
          → elim o [ Some x ↦ part_subtype s x (parts ++ part ∷ []) | None ↦ None ] ≡ Some u
      by_part (Some x) e later = later x e
      by_part None e later = cc

  pub parts_known : (parts : List Part) (t u : Subtype) → IsKnown s t → part_subtype s t parts ≡ Some u → IsKnown s u
  parts_known [] t u known h = subst (IsKnown s) (same_some t u h) known
  parts_known (part ∷ parts) t u known h = by_part (part_in (form_at s t.type_number) part) refl h (λ w k e. parts_known parts w u k e)
    where
      by_part : (o : Option Subtype) → part_in (form_at s t.type_number) part ≡ o → elim o [ Some w ↦ part_subtype s w parts | None ↦ None ] ≡ Some u
          → ((w : Subtype) → IsKnown s w → part_subtype s w parts ≡ Some u → IsKnown s u) → IsKnown s u
      by_part (Some w) e k later = later w (part_known t part w (form_at s t.type_number) refl e) k
      by_part None e k later = cc
