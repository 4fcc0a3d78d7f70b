-- Attributes in legal names: they have known values, so the parts of a name without one are components (RM 4.1.4).
use Rattle.std.proofs.Common.{◌≡◌, ℕ, [], List, Bool, true, false, Option, Some, None, refl}
use Rattle.std.specs.Prelude.{bytes_eq, codes, cond, pos}
use Rattle.ada_tree.specs.declared.expression.Identifier.{Identifier}
use Rattle.ada_tree.specs.ExpressionTree.{Arguments, Attribute, Component, MoreSelectors, NoSelectors, SelectorTree, SelectorTrees}
use Rattle.types.specs.declared.entity.Subtype.{Subtype}
use Rattle.types.specs.declared.standing.Standing.{Standing}
use Rattle.types.specs.declared.standing.Standing.TheVariants as standing
use Rattle.types.specs.Entities.{Arrays, Integers, TypeForm}
use Rattle.types.specs.Evaluating.{fixed_value}
use Rattle.types.specs.Scopes.{Scope, form_at}
use Rattle.types.specs.Standings.{array_attribute, bound_stands, bounds_stand, object_attribute, select, select_all, subtype_attribute}
use Rattle.expr_soundness.specs.expr_rules.specs.ExpressionRules.{selector_faults, selectors_faults}
use Rattle.expr_soundness.specs.expr_rules.specs.NameRules.{is_doubtful}
use Rattle.expr_soundness.specs.expr_rules.proofs.TypedLaw.{back_empty, front_empty}
use Rattle.expr_soundness.specs.SoundScopes.{SoundScope}
use Rattle.expr_soundness.proofs.Goods.{Good, good_select, part_unbroken}
use Rattle.expr_code.specs.Going.{are_components}

-- ---- attributes have known values

abbrev pub is_given : Standing → Bool
is_given (standing.Given t (Some v)) = true
is_given (standing.Plain z) = true
is_given w = false

good_sure : (s : Scope) (w : Standing) → Good s w → is_doubtful w ≡ false
good_sure s standing.Doubtful g = absurd g
good_sure s w g = refl

bounds_given : (t : Subtype) (name : List ℕ) → is_doubtful (bounds_stand t name) ≡ false → is_given (bounds_stand t name) ≡ true
bounds_given t name k = by_names (bytes_eq name (codes "FIRST")) (bytes_eq name (codes "LAST")) k
  where
    by_names : (a b : Bool) → is_doubtful (cond a (bound_stands t t.first) (cond b (bound_stands t t.last) standing.Doubtful)) ≡ false
        → is_given (cond a (bound_stands t t.first) (cond b (bound_stands t t.last) standing.Doubtful)) ≡ true
    by_names true b h = refl
    by_names false true h = refl
    by_names false false h = absurd cc

array_given : (index : Subtype) (many : ℕ) (name : List ℕ) → is_doubtful (array_attribute index many name) ≡ false
    → is_given (array_attribute index many name) ≡ true
array_given index many name k = by_name (bytes_eq name (codes "LENGTH")) (bounds_given index name) k
  where
    by_name : (b : Bool) → (is_doubtful (bounds_stand index name) ≡ false → is_given (bounds_stand index name) ≡ true)
        → is_doubtful (cond b (standing.Plain (pos many)) (bounds_stand index name)) ≡ false
        → is_given (cond b (standing.Plain (pos many)) (bounds_stand index name)) ≡ true
    by_name true later h = refl
    by_name false later h = later h

object_given : (o : Option TypeForm) (name : List ℕ) → is_doubtful (object_attribute o name) ≡ false → is_given (object_attribute o name) ≡ true
object_given (Some (Arrays index many element)) name h = array_given index many name h
object_given o name h = absurd cc

subtype_given : (t : Subtype) (o : Option TypeForm) (name : List ℕ) → is_doubtful (subtype_attribute t o name) ≡ false
    → is_given (subtype_attribute t o name) ≡ true
subtype_given t (Some Integers) name h = bounds_given t name h
subtype_given t (Some (Arrays index many element)) name h = array_given index many name h
subtype_given t o name h = absurd cc

pub attribute_given : (s : Scope) (w : Standing) (name : Identifier) → is_doubtful (select s w (Attribute name)) ≡ false
    → is_given (select s w (Attribute name)) ≡ true
attribute_given s (standing.Part r t) name h = object_given (form_at s t.type_number) name.name h
attribute_given s (standing.Fixed t v) name h = object_given (form_at s t.type_number) name.name h
attribute_given s (standing.Named t) name h = subtype_given t (form_at s t.type_number) name.name h
attribute_given s w name h = absurd cc

module _ (s : Scope) (sound : SoundScope s) where
  module _ (place : ℕ) (w : Standing) (x : SelectorTree) (rest : SelectorTrees) where
    part_good : Good s w → selectors_faults s place w (MoreSelectors x rest) ≡ [] → Good s (select s w x)
    part_good g h =
        good_select s sound place w x g
        (part_unbroken s sound place w x (front_empty (selector_faults s place w x) (selectors_faults s place (select s w x) rest) h))

    parts_behind : selectors_faults s place w (MoreSelectors x rest) ≡ [] → selectors_faults s place (select s w x) rest ≡ []
    parts_behind h = back_empty (selector_faults s place w x) (selectors_faults s place (select s w x) rest) h

  -- nothing stands behind a known value
  given_ends : (place : ℕ) (w : Standing) (rest : SelectorTrees) → Good s w → selectors_faults s place w rest ≡ [] → is_given w ≡ true
      → fixed_value (select_all s w rest) ≡ None → ⊥
  given_ends place (standing.Given t (Some v)) NoSelectors g h is none = absurd cc
  given_ends place (standing.Plain z) NoSelectors g h is none = absurd cc
  given_ends place (standing.Given t (Some v)) (MoreSelectors x rest) g h is none =
      let w = standing.Given t (Some v) in
      good_select s sound place w x g
      (part_unbroken s sound place w x (front_empty (selector_faults s place w x) (selectors_faults s place (select s w x) rest) h))
  given_ends place (standing.Plain z) (MoreSelectors x rest) g h is none =
      let w = standing.Plain z in
      good_select s sound place w x g
      (part_unbroken s sound place w x (front_empty (selector_faults s place w x) (selectors_faults s place (select s w x) rest) h))
  given_ends place w rest g h is none = absurd cc

  -- The parts of a name without a known value are components
  pub components_only : (place : ℕ) (w : Standing) (all : SelectorTrees) → Good s w → selectors_faults s place w all ≡ []
      → fixed_value (select_all s w all) ≡ None
      → are_components all ≡ true
  components_only place w NoSelectors g h none = refl
  components_only place w (MoreSelectors (Component name) rest) g h none =
      let x = Component name in
      components_only place (select s w x) rest (part_good place w x rest g h) (parts_behind place w x rest h) none
  components_only place w (MoreSelectors (Arguments all) rest) g h none =
      let x = Arguments all in
      components_only place (select s w x) rest (part_good place w x rest g h) (parts_behind place w x rest h) none
  components_only place w (MoreSelectors (Attribute name) rest) g h none =
      let x = Attribute name in
      let good = part_good place w x rest g h in
      absurd (given_ends place (select s w x) rest good (parts_behind place w x rest h) (attribute_given s w name (good_sure s (select s w x) good)) none)
