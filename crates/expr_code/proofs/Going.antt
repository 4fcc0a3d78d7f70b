-- Code along a path from the address of an object to that of a part: one selector, one behind the other, and the load of what stands there.
use Rattle.std.proofs.Common.{◌≡◌, ℕ, zero, suc, ◌+◌, ◌<◌, ◌≤◌, ◌++◌, ℤ, List, [], ◌∷◌, length, drop, Bool, true, false, Option, Some, None, refl, rules, sym, ap, ◌∙◌, subst, arith}
use Rattle.std.specs.Prelude.{bytes_eq, cond, get_or, nat_le, not, option_map, slice_get, ◌+ℤ◌, ◌-ℤ◌, ◌&&◌}
use Rattle.std.proofs.lemmas.Int.{ints}
use Rattle.std.proofs.lemmas.Bool.{and_parts}
use Rattle.base.specs.declared.faults.TheConstants.{NAME_NOT_VISIBLE}
use Rattle.base.specs.declared.limits.TheConstants.{WORDS}
use Rattle.ada_tree.specs.declared.expression.Identifier.{Identifier}
use Rattle.ada_tree.specs.ExpressionTree as tree
use Rattle.ada_tree.specs.ExpressionTree.{Arguments, ExprTree, MoreArguments, MoreSelectors, NoArguments, SelectorTree, SelectorTrees}
use Rattle.image.specs.Rules.{is_block}
use Rattle.image.specs.declared.instruction.Operation.TheVariants as op
use Rattle.types.specs.declared.entity.RecordComponent.{RecordComponent}
use Rattle.types.specs.declared.entity.Role.{Role}
use Rattle.types.specs.declared.entity.Subtype.{Subtype}
use Rattle.types.specs.declared.standing.Standing.TheVariants as standing
use Rattle.types.specs.Entities.{Arrays, Integers, Records, TypeForm}
use Rattle.types.specs.Evaluating.{fixed_value}
use Rattle.types.specs.Layouts.{capped}
use Rattle.types.specs.Scopes.{Scope, base_range_of, form_at, is_visible, number_of}
use Rattle.types.specs.Shapes.{Shape, Shapes, MoreShapes, Ranged, Logical, Timed, Repeated, Grouped, Shapeless, component_shapes, narrowed, shape_among, shape_of, shape_or_none, shapes}
use Rattle.types.specs.Standings.{component_of, select, standing_of, stands_first, stands_for}
use Rattle.expr_soundness.specs.expr_rules.specs.declared.own.Wanted.TheVariants.{OfType}
use Rattle.expr_soundness.specs.expr_rules.specs.ExpressionRules.{argument_faults, arguments_faults, selector_faults, selectors_faults}
use Rattle.expr_soundness.specs.expr_rules.specs.Faults.{rule}
use Rattle.expr_soundness.specs.expr_rules.specs.NameRules.{index_slot, part_rule, value_rule}
use Rattle.expr_soundness.specs.expr_rules.specs.Typing.{is_integers}
use Rattle.expr_soundness.specs.expr_rules.proofs.TypedLaw.{back_empty, front_empty, unbroken}
use Rattle.expr_soundness.specs.SoundScopes.{AreEarlier, SoundScope}
use Rattle.expr_soundness.proofs.Expressions.{not_false}
use Rattle.expr_soundness.proofs.Goods.{Good, good_first, sound_form}
use Rattle.expr_soundness.proofs.Parts.{before, part_shape, shape_by_form}
use Rattle.expr_soundness.proofs.Positions.{named, same_some}
use Rattle.expr_code.specs.Emitting.{IsFit, IsLegalExpression}
use Rattle.expr_code.specs.Going.{are_components, is_component, IsLegalPart, IsLegalPath, Selects}
use Rattle.expr_code.specs.Locating.{IsClose, IsNear, shape_in}
use Rattle.expr_code.specs.Seeing.{Suits}
use Rattle.expr_code.specs.declared.visible.Visible.{Visible}
use Rattle.expr_code.proofs.Attributes.{components_only}
use Rattle.expr_code.proofs.Flowing.{Changes}

-- ---- shapes of composites

grouped_too : (b t : Subtype) (x : Shape) (parts : Shapes) → narrowed b x ≡ Grouped parts → narrowed t x ≡ Grouped parts
grouped_too b t (Ranged first) parts e = cc
grouped_too b t Logical parts e = e
grouped_too b t Timed parts e = e
grouped_too b t (Repeated n x) parts e = e
grouped_too b t (Grouped xs) parts e = e
grouped_too b t Shapeless parts e = e

repeated_too : (b t : Subtype) (x inner : Shape) (many : ℕ) → narrowed b x ≡ Repeated many inner → narrowed t x ≡ Repeated many inner
repeated_too b t (Ranged first) inner many e = cc
repeated_too b t Logical inner many e = e
repeated_too b t Timed inner many e = e
repeated_too b t (Repeated n x) inner many e = e
repeated_too b t (Grouped xs) inner many e = e
repeated_too b t Shapeless inner many e = e

pub shape_named : (known : List Shape) (cs : List RecordComponent) (name : List ℕ) (u : Subtype) → component_of cs name ≡ Some u → shape_in (component_shapes known cs) name ≡ Some (shape_among known u)
shape_named known [] name u found = cc
shape_named known (c ∷ cs) name u found = by_test (bytes_eq c.name name) refl found (shape_named known cs name u)
  where
    by_test : (b : Bool) → bytes_eq c.name name ≡ b → cond b (Some c.subtype) (component_of cs name) ≡ Some u
        → (component_of cs name ≡ Some u → shape_in (component_shapes known cs) name ≡ Some (shape_among known u)) → shape_in (component_shapes known (c ∷ cs)) name ≡ Some (shape_among known u)
    by_test true e k more = ap (λ b. cond b (Some (shape_among known c.subtype)) (shape_in (component_shapes known cs) name)) e ∙ ap (λ y. Some (shape_among known y)) (same_some c.subtype u k)
    by_test false e k more = ap (λ b. cond b (Some (shape_among known c.subtype)) (shape_in (component_shapes known cs) name)) e ∙ more k

module _ (s : Scope) (sound : SoundScope s) where
  same_parts : (n : ℕ) (cs : List RecordComponent) → AreEarlier s n cs → component_shapes (before s n) cs ≡ component_shapes (shapes s) cs
  same_parts n [] all = refl
  same_parts n (c ∷ cs) all = λ j. MoreShapes c.name (part_shape s n c.subtype all.0.before j) (same_parts n cs all.1 j)

  pub grouped_shape : (t : Subtype) (cs : List RecordComponent) → form_at s t.type_number ≡ Some (Records cs) → shape_of s t ≡ Grouped (component_shapes (shapes s) cs)
  grouped_shape t cs form =
      let n = t.type_number in
      let shape = shape_by_form s n (Records cs) form in
      grouped_too (base_range_of n) t (shape_or_none (slice_get (shapes s) n)) (component_shapes (shapes s) cs) (shape.1 ∙ ap Grouped (same_parts n cs (sound_form s sound n (Records cs) form)))

  pub repeated_shape : (t index : Subtype) (many : ℕ) (element : Subtype) → form_at s t.type_number ≡ Some (Arrays index many element) → shape_of s t ≡ Repeated many (shape_of s element)
  repeated_shape t index many element form =
      let n = t.type_number in
      let shape = shape_by_form s n (Arrays index many element) form in
      let part = sound_form s sound n (Arrays index many element) form in
      repeated_too (base_range_of n) t (shape_or_none (slice_get (shapes s) n)) (shape_of s element) many (shape.1 ∙ ap (Repeated many) (part_shape s n element part.earlier.before))

  pub index_integers : (t index : Subtype) (many : ℕ) (element : Subtype) → form_at s t.type_number ≡ Some (Arrays index many element) → form_at s index.type_number ≡ Some Integers
  index_integers t index many element form = integers (form_at s index.type_number) (sound_form s sound t.type_number (Arrays index many element) form).integers
    where
      integers : (o : Option TypeForm) → is_integers o ≡ true → o ≡ Some Integers
      integers (Some Integers) h = refl
      integers o h = absurd cc

-- ---- what is legal

pub first_part : (s : Scope) (t : Subtype) (x : SelectorTree) (rest : SelectorTrees) → IsLegalPath s t (MoreSelectors x rest) → IsLegalPart s t x
first_part s t x rest h = record {
  role = h.role;
  place = h.place;
  unbroken = front_empty (selector_faults s h.place (standing.Part h.role t) x) (selectors_faults s h.place (select s (standing.Part h.role t) x) rest) h.unbroken;
  component = (and_parts (is_component x) (are_components rest) h.components).0;
}

pub further_path : (s : Scope) (t last : Subtype) (x : SelectorTree) (rest : SelectorTrees) → IsLegalPath s t (MoreSelectors x rest) → Selects s t x last → IsLegalPath s last rest
further_path s t last x rest h selects = record {
  role = h.role;
  place = h.place;
  unbroken =
      ap (λ w. selectors_faults s h.place w rest) (sym (selects h.role))
      ∙ back_empty (selector_faults s h.place (standing.Part h.role t) x) (selectors_faults s h.place (select s (standing.Part h.role t) x) rest) h.unbroken;
  components = (and_parts (is_component x) (are_components rest) h.components).1;
}

pub drop_at : {A : Type 0} (all : List A) (n : ℕ) (x : A) → n < length all → x ≡ get_or all n x → drop n all ≡ x ∷ drop (n + 1) all
drop_at [] n x less is = absurd (omega (arith, less))
drop_at (y ∷ all) zero x less is = ap (λ z. z ∷ all) (sym is)
drop_at (y ∷ all) (suc n) x less is =
    let more : suc n + 1 ≡ suc (n + 1) = omega arith in
    drop_at all n x (omega (arith, less)) is ∙ ap (λ k. x ∷ drop k (y ∷ all)) (sym more)

pub index_fit : (s : Scope) (t index element : Subtype) (many : ℕ) (e : ExprTree) → form_at s t.type_number ≡ Some (Arrays index many element)
    → IsLegalPart s t (Arguments (MoreArguments (tree.Value e) NoArguments)) → IsFit s index e
index_fit s t index element many e form h =
    let argument = MoreArguments (tree.Value e) NoArguments in
    let all = back_empty (part_rule s h.place (standing.Part h.role t) (Arguments argument)) (arguments_faults s (standing.Part h.role t) 0 argument) h.unbroken in
    let its = front_empty (argument_faults s (index_slot (form_at s t.type_number)) (tree.Value e)) [] all in
    record { wanted = OfType index.type_number; fits = refl; unbroken = ap (λ o. argument_faults s (index_slot o) (tree.Value e)) (sym form) ∙ its }

-- ---- a component of a record

pub takes_two : (v : Visible) (depth : ℕ) → Changes (Suits v) op.Add (depth + 1 + 1) (depth + 1)
takes_two v depth = record { operands = refl; names = λ i s h. refl; takes = λ i s h. omega arith; leaves = λ i s h. omega arith; stays = refl; is_none = refl }

-- what is left to tell, before and behind what one selector tells
pub left_close : (whole next : ℤ) → IsNear whole → IsNear next → IsClose (whole -ℤ next)
left_close whole next one two = omega (arith, ints, one, two)

pub left_less : (whole shift next part : ℤ) → next ≡ shift +ℤ part → whole -ℤ next ≡ (whole -ℤ shift) -ℤ part
left_less whole shift next part e = omega (arith, ints, e)

pub left_more : (whole shift next part : ℤ) → next ≡ shift -ℤ part → whole -ℤ next ≡ (whole -ℤ shift) +ℤ part
left_more whole shift next part e = omega (arith, ints, e)

-- ---- a component of an array

pub subtracts : (v : Visible) (depth : ℕ) → Changes (Suits v) op.Subtract (depth + 1 + 1) (depth + 1)
subtracts v depth = record { operands = refl; names = λ i s h. refl; takes = λ i s h. omega arith; leaves = λ i s h. omega arith; stays = refl; is_none = refl }

pub multiplies : (v : Visible) (depth : ℕ) → Changes (Suits v) op.Multiply (depth + 1 + 1) (depth + 1)
multiplies v depth = record { operands = refl; names = λ i s h. refl; takes = λ i s h. omega arith; leaves = λ i s h. omega arith; stays = refl; is_none = refl }

-- ---- the whole

module _ (s : Scope) (sound : SoundScope s) (first : Identifier) (all : SelectorTrees) (r : Role) (t : Subtype)
    (legal : IsLegalExpression s (tree.Named first all)) (stands : stands_first s (number_of s first.name) ≡ standing.Part r t)
    (valueless : fixed_value (standing_of s first all) ≡ None) where
  pub whole_path : IsLegalPath s t all
  whole_path =
      let w = stands_first s (number_of s first.name) in
      let hidden = rule NAME_NOT_VISIBLE first.place (not (is_visible s first.name)) in
      let parts = selectors_faults s first.place w all in
      let two = front_empty (hidden ++ parts) (value_rule first.place (standing_of s first all)) legal.unbroken in
      let x = named s first.name (not_false (is_visible s first.name) (unbroken NAME_NOT_VISIBLE first.place (not (is_visible s first.name))
      (front_empty hidden parts two))) in
      let good = subst (Good s) (sym (ap (stands_first s) x.numbered ∙ ap (stands_for x.number) x.stands)) (good_first s sound x.number x.entity x.stands) in
      let behind = back_empty hidden parts two in
      record {
        role = r;
        place = first.place;
        unbroken = ap (λ u. selectors_faults s first.place u all) (sym stands) ∙ behind;
        components = components_only s sound first.place w all good behind valueless;
      }

-- ---- lists of one argument

-- a number of words that is told, and not more than a program may have, is the real one
pub uncapped_words : (told n : ℕ) → told ≡ capped n → told ≤ WORDS → told ≡ n
uncapped_words told n e le = omega (arith, e, le)

-- the words of a block, told as a number that is not more
pub block_words : (told n : ℕ) → told ≡ capped n → is_block told ≡ true → n ≡ told
block_words told n e block = sym (uncapped_words told n e (by_test told WORDS (second (nat_le 1 told) (nat_le told WORDS) block)))
  where
    second : (a b : Bool) → (a && b) ≡ true → b ≡ true
    second true b h = h
    second false b h = cc

    by_test : (a b : ℕ) → nat_le a b ≡ true → a ≤ b
    by_test a b h = search rules

pub uncapped : (o : Option ℕ) (n : ℕ) → option_map capped o ≡ Some n → n ≤ WORDS → o ≡ Some n
uncapped (Some m) n e le = ap Some (sym (uncapped_words n m (sym (same_some (capped m) n e)) le))
uncapped None n e le = cc
