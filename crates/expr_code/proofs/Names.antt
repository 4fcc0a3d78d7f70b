-- Code of names: values that are known, and objects as a whole.
use Rattle.std.proofs.Common.{◌≡◌, ◌<◌, ◌++◌, ℕ, ◌+◌, [], length, not, true, Some, refl, sym, ap, ◌∙◌, subst, arith, rules, ◌⊎◌, inl, inr}
use Rattle.std.specs.Prelude.{nat_lt}
use Rattle.base.specs.declared.faults.TheConstants.{NAME_NOT_VISIBLE}
use Rattle.ada_tree.specs.declared.expression.Identifier.{Identifier}
use Rattle.ada_tree.specs.ExpressionTree as tree
use Rattle.ada_tree.specs.ExpressionTree.{NoSelectors, SelectorTrees}
use Rattle.image.specs.declared.instruction.Region.{Region}
use Rattle.image.specs.declared.instruction.Region.TheVariants as regions
use Rattle.types.specs.declared.entity.Subtype.{Subtype}
use Rattle.types.specs.declared.entity.Role.{Role}
use Rattle.types.specs.declared.standing.Standing.{Standing}
use Rattle.types.specs.declared.standing.Standing.TheVariants as standing
use Rattle.types.specs.Laws.{ValuesHaveWords}
use Rattle.types.specs.Layouts.{words_of}
use Rattle.types.specs.Evaluations.{Gives}
use Rattle.types.specs.Places.{IsObject, Meaning, Place, meaning_of}
use Rattle.types.specs.Values.{Number, Value}
use Rattle.types.specs.Scopes.{is_visible, number_of, Scope}
use Rattle.types.specs.Shapes.{shape_of, value_words}
use Rattle.types.specs.Standings.{select_all, standing_of, stands_first, stands_for}
use Rattle.types.specs.Evaluating.{name_with, value_with}
use Rattle.expr_soundness.specs.expr_rules.specs.Faults.{rule}
use Rattle.expr_soundness.specs.expr_rules.specs.NameRules.{value_rule}
use Rattle.expr_soundness.specs.expr_rules.specs.ExpressionRules.{selectors_faults}
use Rattle.expr_soundness.specs.expr_rules.proofs.TypedLaw.{back_empty, front_empty, unbroken}
use Rattle.expr_soundness.specs.Agreeing.{Agrees}
use Rattle.expr_soundness.proofs.Positions.{named}
use Rattle.expr_soundness.proofs.Goods.{Good, good_first}
use Rattle.expr_soundness.proofs.FixedNames.{all_valueless}
use Rattle.expr_soundness.proofs.Denoting.{empty_ends, MeansPart}
use Rattle.expr_soundness.proofs.Expressions.{first_here, IsHere, IsNone, not_false}
use Rattle.expr_code.specs.Emitting.{IsLegalExpression}
use Rattle.expr_code.specs.Naming.{IsStored, Lies, load_operation}
use Rattle.expr_code.specs.Seeing.{library_of, Package, Sees, slot_of, Suits}
use Rattle.expr_code.specs.declared.visible.Slot.{Slot}
use Rattle.expr_code.specs.declared.visible.Visible.{Visible}
use Rattle.expr_code.proofs.Flowing.{Changes}
use Rattle.expr_code.proofs.Checking.{single_number}
use Rattle.expr_code.proofs.Passing.{named_value}

lt_true : (a b : ℕ) → a < b → nat_lt a b ≡ true
lt_true a b h = search rules

-- a legal name has the same value by types and constants at each place that agrees, and means there what it stands for
pub legal_here : (s : Scope) (p : Place) → Agrees s p → (first : Identifier) (selectors : SelectorTrees) → IsLegalExpression s (tree.Named first selectors) → IsHere s p first.name selectors (stands_first s (number_of s first.name))
legal_here s p agrees first selectors h =
    let hidden = rule NAME_NOT_VISIBLE first.place (not (is_visible s first.name)) in
    let parts = selectors_faults s first.place (stands_first s (number_of s first.name)) selectors in
    let whole = value_rule first.place (standing_of s first selectors) in
    let two = front_empty (hidden ++ parts) whole h.unbroken in
    let visible = not_false (is_visible s first.name) (unbroken NAME_NOT_VISIBLE first.place (not (is_visible s first.name)) (front_empty hidden parts two)) in
    let x = named s first.name visible in
    let is : stands_first s (number_of s first.name) ≡ stands_for x.number (Some x.entity) = ap (stands_first s) x.numbered ∙ ap (stands_for x.number) x.stands in
    subst (λ u. IsHere s p first.name selectors u) (sym is)
    (by_kind (stands_for x.number (Some x.entity))
    (good_first s agrees.sound x.number x.entity x.stands)
    (subst (λ u. selectors_faults s first.place u selectors ≡ []) is (back_empty hidden parts two))
    (subst (λ u. value_rule first.place (select_all s u selectors) ≡ []) is (back_empty (hidden ++ parts) whole h.unbroken))
    (first_here s p agrees first.name selectors x.number x.entity x.stands (agrees.names first.name x.number x.entity x.numbered x.stands)))
  where
    by_kind : (w : Standing) → Good s w → selectors_faults s first.place w selectors ≡ [] → value_rule first.place (select_all s w selectors) ≡ [] → IsNone s w ⊎ IsHere s p first.name selectors w → IsHere s p first.name selectors w
    by_kind w g k v (inl none) = absurd (empty_ends s agrees.sound first.place selectors w none.0 g k v (all_valueless s selectors w none.1))
    by_kind w g k v (inr found) = found

-- an object: where its value stands, and the instruction that loads its one word
module _ (v : Visible) (first : Identifier) (laws : ValuesHaveWords) (r : Role) (t : Subtype) (slot : Slot) (legal : IsLegalExpression v.scope (tree.Named first NoSelectors))
    (stands : stands_first v.scope (number_of v.scope first.name) ≡ standing.Part r t) (there : slot_of v first.name ≡ Some slot) where
  pub stored : (size : ℕ) → words_of v.scope t ≡ size → (unit : Package) → IsStored (library_of unit) (Sees unit v) (tree.Named first NoSelectors) slot.region slot.offset size
  stored size many unit calls p view sound sees = by_part known.denotes
    where
      known : IsHere v.scope p first.name NoSelectors (standing.Part r t)
      known = subst (λ w. IsHere v.scope p first.name NoSelectors w) stands (legal_here v.scope p sees.names.agrees first NoSelectors legal)

      whole : (m : Meaning) → meaning_of p first.name ≡ m → value_with calls p (tree.Named first NoSelectors) ≡ name_with calls p m NoSelectors
      whole m is = named_value calls p first NoSelectors (meaning_of p first.name) known.same refl ∙ ap (λ n. name_with calls p n NoSelectors) is

      by_part : MeansPart v.scope p.scope (meaning_of p first.name) t
          → (x : Value) × (value_with calls p (tree.Named first NoSelectors) ≡ Gives x) × Lies (view.words slot.region) slot.offset x × (length (value_words x) ≡ size)
      by_part (inl object) = (
        object.value,
        whole (IsObject t object.value) object.is,
        sees.names.objects first.name slot t object.value there object.is,
        (laws (shape_of v.scope t) object.value object.suited).sized ∙ many,
      )
      by_part (inr parameter) =
          let z = parameter.number in (
            Number z.value,
            whole (IsObject z.subtype (Number z.value)) z.is,
            sees.names.objects first.name slot z.subtype (Number z.value) there z.is,
            sym (single_number laws v.scope t parameter.integers) ∙ many,
          )

  pub loads : (depth : ℕ) (region : Region) → slot.region ≡ region → Changes (Suits v) (load_operation region slot.offset) depth (depth + 1)
  loads depth regions.Locals e = record { operands = refl; names = λ i s g. lt_true slot.offset s.locals (g.locals first.name slot there e); takes = λ i s g. omega arith; leaves = λ i s g. omega arith; stays = refl; is_none = refl }
  loads depth regions.Plain e = record { operands = refl; names = λ i s g. lt_true slot.offset (length i.plain_words) (g.plain first.name slot there e); takes = λ i s g. omega arith; leaves = λ i s g. omega arith; stays = refl; is_none = refl }
  loads depth regions.Object e = record { operands = refl; names = λ i s g. g.object first.name slot there e; takes = λ i s g. omega arith; leaves = λ i s g. omega arith; stays = refl; is_none = refl }
