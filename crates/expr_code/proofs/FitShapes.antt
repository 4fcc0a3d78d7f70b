-- Parts of what an image has words for: it has words for them too.
use Rattle.std.proofs.Common.{◌≡◌, ◌<◌, ◌≤◌, ◌+◌, ◌*◌, ℕ, zero, suc, List, [], ◌∷◌, Bool, true, false, ◌&&◌, Option, Some, None, refl, rules, sym, ap, ◌∙◌, subst, arith}
use Rattle.std.specs.Prelude.{bytes_eq, codes, cond, nat_le, option_map, pos}
use Rattle.base.specs.declared.limits.TheConstants.{WORDS}
use Rattle.image.specs.Rules.{is_block}
use Rattle.ada_tree.specs.ExpressionTree.{Arguments, Attribute, Component, SelectorTree}
use Rattle.types.specs.declared.entity.RecordComponent.{RecordComponent}
use Rattle.types.specs.declared.entity.Role.{Role}
use Rattle.types.specs.declared.entity.Role.TheVariants as role
use Rattle.types.specs.declared.entity.Subtype.{Subtype}
use Rattle.types.specs.declared.standing.Standing.TheVariants as standing
use Rattle.types.specs.Entities.{Arrays, Records, TypeForm}
use Rattle.types.specs.Layouts.{capped, field_offset, further, words_of}
use Rattle.types.specs.Scopes.{form_at, Scope}
use Rattle.types.specs.Shapes.{component_shapes, Grouped, MoreShapes, NoShapes, Repeated, Shape, shape_among, shape_of, Shapes, shapes, words, words_of_parts}
use Rattle.types.specs.Standings.{bound_stands, component_of, component_stands, element_stands, is_single, object_attribute, part_of}
use Rattle.expr_soundness.specs.SoundScopes.{SoundScope}
use Rattle.expr_code.specs.Going.{Selects}
use Rattle.expr_code.specs.Locating.{shape_in}
use Rattle.expr_code.specs.Refusing.{are_fit, is_fit, IsUnfit, KeepsFit}
use Rattle.expr_code.proofs.Going.{grouped_shape, repeated_shape, shape_named}

and_left : (a b : Bool) → (a && b) ≡ true → a ≡ true
and_left true b h = refl
and_left false b h = cc

and_right : (a b : Bool) → (a && b) ≡ true → b ≡ true
and_right true b h = h
and_right false b h = cc

at_most : (a b : ℕ) → nat_le a b ≡ true → a ≤ b
at_most a b h = search rules

block_some : (n : ℕ) → is_block n ≡ true → 1 ≤ n
block_some n h = at_most 1 n (and_left (nat_le 1 n) (nat_le n WORDS) h)

block_few : (n : ℕ) → is_block n ≡ true → n ≤ WORDS
block_few n h = at_most n WORDS (and_right (nat_le 1 n) (nat_le n WORDS) h)

fit_block : (x : Shape) → is_fit x ≡ true → is_block (words x) ≡ true
fit_block (Repeated n x) h = and_left (is_block (n * words x)) (is_fit x) h
fit_block (Grouped parts) h = and_left (is_block (words (Grouped parts))) (are_fit parts) h
fit_block x h = h

contrary : (a b : Bool) → (a ≡ true → b ≡ true) → b ≡ false → a ≡ false
contrary true b f h = let k = f refl in cc
contrary false b f h = refl

-- what isn't loaded as a block is unfit
pub no_block : (s : Scope) (t : Subtype) (told : ℕ) → told ≡ capped (words_of s t) → is_block told ≡ false → IsUnfit s t
no_block s t told is h = contrary (is_fit (shape_of s t)) (is_block told) (λ fit. told_too (fit_block (shape_of s t) fit)) h
  where
    told_too : is_block (words_of s t) ≡ true → is_block told ≡ true
    told_too k =
        let few = block_few (words_of s t) k in
        let same : words_of s t ≡ told = omega (arith, is, few) in
        subst (λ n. is_block n ≡ true) same k

-- ---- arrays

times_some : (n w : ℕ) → 1 ≤ w → n ≤ n * w
times_some zero w some = omega arith
times_some (suc n) w some = let more = times_some n w some in omega (arith, some, more)

module _ (s : Scope) (sound : SoundScope s) (t : Subtype) where
  module _ (index : Subtype) (many : ℕ) (element : Subtype) (form : form_at s t.type_number ≡ Some (Arrays index many element)) where
    element_keeps : KeepsFit s t element
    element_keeps =
        contrary (is_fit (shape_of s t)) (is_fit (shape_of s element))
        (λ fit. and_right (is_block (many * words_of s element)) (is_fit (shape_of s element)) (ap is_fit (sym (repeated_shape s sound t index many element form)) ∙ fit))

    whole_fit : is_fit (shape_of s t) ≡ true → (is_block (many * words_of s element) ≡ true) × (is_fit (shape_of s element) ≡ true)
    whole_fit fit =
        let both = ap is_fit (sym (repeated_shape s sound t index many element form)) ∙ fit in (
          and_left (is_block (many * words_of s element)) (is_fit (shape_of s element)) both,
          and_right (is_block (many * words_of s element)) (is_fit (shape_of s element)) both,
        )

    -- too many components, or too large ones
    pub many_unfit : WORDS < many → IsUnfit s t
    many_unfit more = refuted (is_fit (shape_of s t)) (λ fit.
        let it = whole_fit fit in
        let few = block_few (many * words_of s element) it.0 in
        let up = times_some many (words_of s element) (block_some (words_of s element) (fit_block (shape_of s element) it.1)) in
        omega (arith, more, few, up))
      where
        refuted : (b : Bool) → (b ≡ true → ⊥) → b ≡ false
        refuted true f = absurd (f refl)
        refuted false f = refl

    pub large_unfit : (told : ℕ) → told ≡ capped (words_of s element) → WORDS < told → IsUnfit s t
    large_unfit told is more = element_keeps (no_block s element told is (too_large told more))
      where
        too_large : (n : ℕ) → WORDS < n → is_block n ≡ false
        too_large n h = by_test (is_block n) refl
          where
            by_test : (b : Bool) → is_block n ≡ b → b ≡ false
            by_test true e = let few = block_few n e in absurd (omega (arith, few, h))
            by_test false e = refl

  -- ---- records

  module _ (cs : List RecordComponent) (name : List ℕ) (u : Subtype) (form : form_at s t.type_number ≡ Some (Records cs)) (found : component_of cs name ≡ Some u) where
    grouped_fit : is_fit (shape_of s t) ≡ true → is_fit (Grouped (component_shapes (shapes s) cs)) ≡ true
    grouped_fit fit = ap is_fit (sym (grouped_shape s sound t cs form)) ∙ fit

    parts_fit : is_fit (shape_of s t) ≡ true → are_fit (component_shapes (shapes s) cs) ≡ true
    parts_fit fit = and_right (is_block (words (Grouped (component_shapes (shapes s) cs)))) (are_fit (component_shapes (shapes s) cs)) (grouped_fit fit)

    component_keeps : KeepsFit s t u
    component_keeps = contrary (is_fit (shape_of s t)) (is_fit (shape_of s u)) (λ fit. named_fit (component_shapes (shapes s) cs) (shape_of s u)
        (shape_named (shapes s) cs name u found) (parts_fit fit))
      where
        named_fit : (parts : Shapes) (x : Shape) → shape_in parts name ≡ Some x → are_fit parts ≡ true → is_fit x ≡ true
        named_fit NoShapes x h all = cc
        named_fit (MoreShapes own y rest) x h all = by_test (bytes_eq own name) h (named_fit rest x)
          where
            by_test : (b : Bool) → cond b (Some y) (shape_in rest name) ≡ Some x → (shape_in rest name ≡ Some x → are_fit rest ≡ true → is_fit x ≡ true)
                → is_fit x ≡ true
            by_test true e more = subst (λ z. is_fit z ≡ true) (same_shape y x e) (and_left (is_fit y) (are_fit rest) all)
              where
                same_shape : (a b : Shape) → Some a ≡ Some b → a ≡ b
                same_shape a b e = cc
            by_test false e more = more e (and_right (is_fit y) (are_fit rest) all)

    far_unfit : (told : ℕ) (o : Option ℕ) → o ≡ field_offset (component_shapes (shapes s) cs) name → option_map capped o ≡ Some told → WORDS < told
        → IsUnfit s t
    far_unfit told (Some n) is h more = refuted (is_fit (shape_of s t)) (λ fit.
        let few = block_few (words (Grouped (component_shapes (shapes s) cs))) (and_left (is_block (words (Grouped (component_shapes (shapes s) cs)))) (are_fit (component_shapes (shapes s) cs)) (grouped_fit fit)) in
        let within = named_offset (component_shapes (shapes s) cs) n (sym is) in
        let same : capped n ≡ told = same_number (capped n) told h in
        omega (arith, more, few, within, same))
      where
        same_number : (a b : ℕ) → Some a ≡ Some b → a ≡ b
        same_number a b e = cc

        refuted : (b : Bool) → (b ≡ true → ⊥) → b ≡ false
        refuted true f = absurd (f refl)
        refuted false f = refl

        named_offset : (parts : Shapes) (k : ℕ) → field_offset parts name ≡ Some k → k ≤ words_of_parts parts
        named_offset NoShapes k h = cc
        named_offset (MoreShapes own y rest) k h = by_test (bytes_eq own name) (field_offset rest name) refl h (named_offset rest)
          where
            by_test : (b : Bool) (o : Option ℕ) → field_offset rest name ≡ o → cond b (Some 0) (further (words y) o) ≡ Some k
                → ((m : ℕ) → field_offset rest name ≡ Some m → m ≤ words_of_parts rest) → k ≤ words y + words_of_parts rest
            by_test true o e h more = let same : 0 ≡ k = same_number 0 k h in omega (arith, same)
            by_test false (Some m) e h more =
                let same : words y + m ≡ k = same_number (words y + m) k h in
                let up = more m e in
                omega (arith, same, up)
            by_test false None e h more = cc
    far_unfit told None is h more = cc

    -- one that stands too far behind
    pub far_offset : (told : ℕ) → option_map capped (field_offset (component_shapes (shapes s) cs) name) ≡ Some told → WORDS < told → IsUnfit s t
    far_offset told h more = far_unfit told (field_offset (component_shapes (shapes s) cs) name) refl h more

-- a component that a record has stands somewhere in it
pub offset_there : (known : List Shape) (cs : List RecordComponent) (name : List ℕ) (u : Subtype) → component_of cs name ≡ Some u
    → (n : ℕ) × (field_offset (component_shapes known cs) name ≡ Some n)
offset_there known [] name u h = cc
offset_there known (c ∷ cs) name u h = by_test (bytes_eq c.name name) h (offset_there known cs name u)
  where
    by_test : (b : Bool) → cond b (Some c.subtype) (component_of cs name) ≡ Some u
        → (component_of cs name ≡ Some u → (n : ℕ) × (field_offset (component_shapes known cs) name ≡ Some n))
        → (n : ℕ) × (cond b (Some 0) (further (words (shape_among known c.subtype)) (field_offset (component_shapes known cs) name)) ≡ Some n)
    by_test true e more = (0, refl)
    by_test false e more = let it = more e in (words (shape_among known c.subtype) + it.0, ap (further (words (shape_among known c.subtype))) it.1)

-- ---- what a selector selects

module _ (s : Scope) (sound : SoundScope s) (t last : Subtype) where
  same_part : (r : Role) (u : Subtype) → standing.Part r u ≡ standing.Part r last → u ≡ last
  same_part r u e = cc

  pub selected_keeps : (x : SelectorTree) → Selects s t x last → KeepsFit s t last
  selected_keeps (Component name) h = by_form (form_at s t.type_number) refl (h role.Variable)
    where
      by_found : (cs : List RecordComponent) → form_at s t.type_number ≡ Some (Records cs) → (o : Option Subtype) → component_of cs name.name ≡ o
          → part_of role.Variable o ≡ standing.Part role.Variable last → KeepsFit s t last
      by_found cs form (Some u) found e = subst (KeepsFit s t) (same_part role.Variable u e) (component_keeps s sound t cs name.name u form found)
      by_found cs form None found e = absurd cc

      by_form : (o : Option TypeForm) → form_at s t.type_number ≡ o → component_stands role.Variable o name.name ≡ standing.Part role.Variable last
          → KeepsFit s t last
      by_form (Some (Records cs)) form e = by_found cs form (component_of cs name.name) refl e
      by_form o form e = absurd cc
  selected_keeps (Arguments a) h = by_form (form_at s t.type_number) (is_single a) refl (h role.Variable)
    where
      by_form : (o : Option TypeForm) (b : Bool) → form_at s t.type_number ≡ o → element_stands role.Variable o b ≡ standing.Part role.Variable last
          → KeepsFit s t last
      by_form (Some (Arrays index many element)) true form e = subst (KeepsFit s t) (same_part role.Variable element e)
          (element_keeps s sound t index many element form)
      by_form o b form e = absurd cc
  selected_keeps (Attribute name) h = absurd (by_form (form_at s t.type_number) (h role.Variable))
    where
      by_tests : (index : Subtype) (many : ℕ) (a b c : Bool)
          → cond a (standing.Plain (pos many)) (cond b (bound_stands index index.first) (cond c (bound_stands index index.last) standing.Doubtful))
          ≡ standing.Part role.Variable last → ⊥
      by_tests index many true b c e = cc
      by_tests index many false true c e = cc
      by_tests index many false false true e = cc
      by_tests index many false false false e = cc

      by_form : (o : Option TypeForm) → object_attribute o name.name ≡ standing.Part role.Variable last → ⊥
      by_form (Some (Arrays index many element)) e =
          by_tests index many (bytes_eq name.name (codes "LENGTH")) (bytes_eq name.name (codes "FIRST")) (bytes_eq name.name (codes "LAST")) e
      by_form o e = cc
