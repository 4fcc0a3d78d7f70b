-- A legal expression is legal where more names are visible behind those in front of it: it has the same type there, and its names stand for the same.
use Rattle.std.proofs.Common.{◌≡◌, ◌++◌, ℕ, suc, true, false, not, List, [], Option, Some, None, refl, sym, ap, ◌∙◌, subst}
use Rattle.std.specs.Prelude.{⊤, is_some}
use Rattle.base.specs.declared.faults.TheConstants.{NAME_NOT_VISIBLE, NOT_A_VARIABLE}
use Rattle.ada_tree.specs.declared.expression.BinaryOperator.{BinaryOperator}
use Rattle.ada_tree.specs.declared.expression.Identifier.{Identifier}
use Rattle.ada_tree.specs.declared.expression.UnaryOperator.{UnaryOperator}
use Rattle.ada_tree.specs.ExpressionTree as tree
use Rattle.ada_tree.specs.ExpressionTree.{Arguments, ArgumentTree, ArgumentTrees, Attribute, Binary, Component, Conditional, ElsifValueTrees, ExprTree, MoreArguments, MoreElsifValues, MoreSelectors, Named, NoArguments, NoElsifValues, NoSelectors, Parenthesized, SelectorTree, SelectorTrees, Text, Unary}
use Rattle.types.specs.declared.standing.Standing.{Standing}
use Rattle.types.specs.declared.standing.Standing.TheVariants as standing
use Rattle.types.specs.declared.statics.StaticForm.TheVariants.{NotStatic, Static}
use Rattle.types.specs.declared.entity.Value.{Value as Scalar}
use Rattle.types.specs.Evaluating.{fixed_value, name_with}
use Rattle.types.specs.Places.{meaning_of}
use Rattle.types.specs.Evaluations.{Gives, Val, and_then}
use Rattle.types.specs.Operators.{binary_value, is_decided, unary_value}
use Rattle.types.specs.Scopes.{Scope, is_visible, number_of}
use Rattle.types.specs.Standings.{select, select_all, settle, standing_of, stands_first, stands_for}
use Rattle.types.specs.Statics.{both, name_form, no_calls, start_of, static_form, static_place, static_value}
use Rattle.types.specs.Values.{Value, value_of}
use Rattle.expr_soundness.specs.expr_rules.specs.declared.own.Own.{Own}
use Rattle.expr_soundness.specs.expr_rules.specs.declared.own.Own.TheVariants.{Typed}
use Rattle.expr_soundness.specs.expr_rules.specs.declared.own.Wanted.{Wanted}
use Rattle.expr_soundness.specs.expr_rules.specs.declared.own.Wanted.TheVariants.{OfType}
use Rattle.expr_soundness.specs.expr_rules.specs.declared.names.Slot.{Slot}
use Rattle.expr_soundness.specs.expr_rules.specs.declared.names.Slot.TheVariants.{Expects, Takes, TakesLabel}
use Rattle.expr_soundness.specs.expr_rules.specs.Faults.{rule}
use Rattle.expr_soundness.specs.expr_rules.specs.Typing.{boolean_wanted, binary_own, elsif_own_of, join, own_of, own_of_standing, unary_own}
use Rattle.expr_soundness.specs.expr_rules.specs.NameRules.{actual_rule, is_changeable, mismatch, part_rule, slot_at, slot_rule, slot_wanted, value_rule, variable_rule}
use Rattle.expr_soundness.specs.expr_rules.specs.ExpressionRules.{argument_faults, arguments_faults, below, beside, binary_rule, conditional_wanted, elsif_faults, faults_in, faults_of, first_typed, or_first, parts_own, parts_wanted, selector_faults, selectors_faults, unary_rule}
use Rattle.expr_soundness.specs.expr_rules.proofs.TypedLaw.{back_empty, front_empty, unbroken}
use Rattle.expr_soundness.specs.SoundScopes.{SoundScope}
use Rattle.expr_soundness.proofs.Expressions.{not_false}
use Rattle.expr_soundness.proofs.Goods.{Good, good_first, good_select, good_settle, part_unbroken}
use Rattle.expr_soundness.proofs.Positions.{IsNamed, named}
use Rattle.program_soundness.proofs.Extending.{Extends, entity_stays, number_stays}
use Rattle.program_soundness.proofs.OneList.{both_empty}
use Rattle.program_soundness.proofs.Statics.{both_left, both_right, static_name}
use Rattle.source_laws.proofs.LaterNames.{IsDeclaredGiven, IsDeclaredOwn, first_declared, own_declared, same_end, same_part, same_select, same_settle, same_slot, select_declared, settle_declared}
use Rattle.source_laws.proofs.LaterOperators.{beside_same, binary_declared, binary_rule_same, binary_same, join_declared, join_same, mismatch_kept, unary_declared, unary_rule_same, unary_same}

module _ (s g : Scope) (x : Extends s g) (sound : SoundScope s) where
  -- what a name stands for
  abbrev pub IsSameName : ExprTree → Type 0
  IsSameName (Named first selectors) = standing_of g first selectors ≡ standing_of s first selectors
  IsSameName e = ⊤

  pub record IsKept (w : Wanted) (e : ExprTree) : Type 0 where
    pub own : own_of g e ≡ own_of s e
    pub declared : IsDeclaredOwn s (own_of s e)
    pub name : IsSameName e
    pub form : static_form g e ≡ static_form s e
    pub value : static_form s e ≡ Static → static_value g e ≡ static_value s e
    pub faults : faults_in g w e ≡ []

  pub record AreKept (w : Wanted) (es : ElsifValueTrees) : Type 0 where
    pub own : (a : Own) → IsDeclaredOwn s a → elsif_own_of g a es ≡ elsif_own_of s a es
    pub declared : (a : Own) → IsDeclaredOwn s a → IsDeclaredOwn s (elsif_own_of s a es)
    pub first : (a : Own) → first_typed g es a ≡ first_typed s es a
    pub faults : elsif_faults g w es ≡ []

  pub record ArePartsKept (place : ℕ) (w : Standing) (selectors : SelectorTrees) : Type 0 where
    pub all : select_all g w selectors ≡ select_all s w selectors
    pub declared : IsDeclaredOwn s (own_of_standing (select_all s w selectors))
    pub faults : selectors_faults g place w selectors ≡ []

  -- ---- names

  pub first_named : (w : Wanted) (first : Identifier) (selectors : SelectorTrees) → faults_in s w (Named first selectors) ≡ [] → IsNamed s first.name
  first_named w first selectors h =
      let hidden = rule NAME_NOT_VISIBLE first.place (not (is_visible s first.name)) in
      let parts = selectors_faults s first.place (stands_first s (number_of s first.name)) selectors in
      let whole = value_rule first.place (standing_of s first selectors) in
      named s first.name
      (not_false (is_visible s first.name)
      (unbroken NAME_NOT_VISIBLE first.place (not (is_visible s first.name)) (front_empty hidden parts (front_empty (hidden ++ parts) whole h))))

  visible_kept : (name : List ℕ) (n : IsNamed s name) → is_visible g name ≡ true
  visible_kept name n = ap is_some (number_stays s g name n.number x n.numbered)

  first_same : (name : List ℕ) (n : IsNamed s name) → stands_first g (number_of g name) ≡ stands_first s (number_of s name)
  first_same name n =
      ap (stands_first g) (number_stays s g name n.number x n.numbered) ∙ ap (stands_for n.number) (entity_stays s g n.number n.entity x n.stands)
      ∙ sym (ap (stands_first s) n.numbered ∙ ap (stands_for n.number) n.stands)

  -- the value of a name, by the one that it has without evaluation
  abbrev worth : (u : Scope) (first : Identifier) (selectors : SelectorTrees) → Option Scalar → Val Value
  worth u first selectors o =
      elim o [ Some c ↦ Gives (value_of c) | None ↦ name_with no_calls (static_place u) (meaning_of (static_place u) first.name) selectors ]

  name_value : (first : Identifier) (selectors : SelectorTrees) → standing_of g first selectors ≡ standing_of s first selectors
      → static_form s (Named first selectors) ≡ Static
      → static_value g (Named first selectors) ≡ static_value s (Named first selectors)
  name_value first selectors same static =
      let v = static_name (standing_of s first selectors) static in
      ap (worth g first selectors) (ap fixed_value same ∙ v.1) ∙ sym (ap (worth s first selectors) v.1)

  name_kept : (w : Wanted) (first : Identifier) (selectors : SelectorTrees) → faults_in s w (Named first selectors) ≡ []
      → ((u : Standing) → Good s u → IsDeclaredGiven s u → selectors_faults s first.place u selectors ≡ [] → ArePartsKept first.place u selectors)
      → IsKept w (Named first selectors)
  name_kept w first selectors h later =
      let hidden = rule NAME_NOT_VISIBLE first.place (not (is_visible s first.name)) in
      let parts = selectors_faults s first.place (stands_first s (number_of s first.name)) selectors in
      let whole = value_rule first.place (standing_of s first selectors) in
      let n = first_named w first selectors h in
      let is : stands_first s (number_of s first.name) ≡ stands_for n.number (Some n.entity) =
      ap (stands_first s) n.numbered ∙ ap (stands_for n.number) n.stands in
      let good : Good s (stands_first s (number_of s first.name)) = subst (Good s) (sym is) (good_first s sound n.number n.entity n.stands) in
      let given = subst (IsDeclaredGiven s) (sym is) (first_declared s sound n.number n.entity) in
      let rest = later (stands_first s (number_of s first.name)) good given (back_empty hidden parts (front_empty (hidden ++ parts) whole h)) in
      let same : standing_of g first selectors ≡ standing_of s first selectors = ap (λ u. select_all g u selectors) (first_same first.name n) ∙ rest.all in
      let hidden_later = rule NAME_NOT_VISIBLE first.place (not (is_visible g first.name)) in
      let parts_later = selectors_faults g first.place (stands_first g (number_of g first.name)) selectors in
      record {
        own = ap own_of_standing same;
        declared = rest.declared;
        name = same;
        form = ap name_form same;
        value = name_value first selectors same;
        faults = both_empty (hidden_later ++ parts_later) (value_rule first.place (standing_of g first selectors))
            (both_empty hidden_later parts_later (ap (λ b. rule NAME_NOT_VISIBLE first.place (not b)) (visible_kept first.name n))
            (ap (λ u. selectors_faults g first.place u selectors) (first_same first.name n) ∙ rest.faults))
            (ap (value_rule first.place) same ∙ back_empty (hidden ++ parts) whole h);
      }

  part_kept : (place : ℕ) (w : Standing) (sel : SelectorTree) (rest : SelectorTrees) → Good s w → ArePartsKept place (select s w sel) rest
      → selector_faults g place w sel ≡ []
      → ArePartsKept place w (MoreSelectors sel rest)
  part_kept place w sel rest good later here =
      record {
        all = ap (λ u. select_all g u rest) (same_select s g x w sel good) ∙ later.all;
        declared = later.declared;
        faults = both_empty (selector_faults g place w sel) (selectors_faults g place (select g w sel) rest) here
            (ap (λ u. selectors_faults g place u rest) (same_select s g x w sel good) ∙ later.faults);
      }

  -- ---- actual parameters

  variable_kept : (w : Wanted) (place : ℕ) (u : Standing) → variable_rule s place w u ≡ [] → variable_rule g place w u ≡ []
  variable_kept w place (standing.Part r t) h =
      let own = mismatch s w (Typed t.type_number) place in
      let changed = rule NOT_A_VARIABLE place (not (is_changeable r)) in
      both_empty (mismatch g w (Typed t.type_number) place) changed
      (mismatch_kept s g x w (Typed t.type_number) place (front_empty own changed h)) (back_empty own changed h)
  variable_kept w place (standing.Fixed t v) h =
      absurd (let never = back_empty (mismatch s w (Typed t.type_number) place) (rule NOT_A_VARIABLE place true) h in cc)
  variable_kept w place standing.Doubtful h = refl
  variable_kept w place (standing.Given t v) h = h
  variable_kept w place (standing.Plain z) h = h
  variable_kept w place (standing.Named t) h = h
  variable_kept w place (standing.Callee f) h = h
  variable_kept w place standing.Put h = h
  variable_kept w place (standing.Protected n) h = h
  variable_kept w place standing.Statement h = h
  variable_kept w place standing.Task h = h
  variable_kept w place standing.Other h = h

  actual_kept : (w : Wanted) (e : ExprTree) → IsSameName e → actual_rule s w e ≡ [] → actual_rule g w e ≡ []
  actual_kept w (Named first selectors) same h =
      ap (variable_rule g first.place w) same ∙ variable_kept w first.place (standing_of s first selectors) h
  actual_kept w (tree.Number z place) same h = h
  actual_kept w (Parenthesized place e) same h = h
  actual_kept w (Conditional place condition value elsifs last) same h = h
  actual_kept w (Unary operator place e) same h = h
  actual_kept w (Binary operator a b) same h = h

  slot_kept : (slot : Slot) (e : ExprTree) → IsKept (slot_wanted slot) e → slot_rule s slot e (own_of s e) ≡ [] → slot_rule g slot e (own_of g e) ≡ []
  slot_kept (Expects w) e kept h = ap (λ o. mismatch g w o (start_of e)) kept.own ∙ mismatch_kept s g x w (own_of s e) (start_of e) h
  slot_kept (Takes n) e kept h = actual_kept (OfType n) e kept.name h
  slot_kept TakesLabel e kept h = h

  -- what is expected of it: its faults, and that it is of the type
  pub typed_kept : (w : Wanted) (e : ExprTree) → IsKept w e → faults_of s w e ≡ [] → faults_of g w e ≡ []
  typed_kept w e kept h =
      both_empty (faults_in g w e) (mismatch g w (own_of g e) (start_of e)) kept.faults
      (ap (λ o. mismatch g w o (start_of e)) kept.own
      ∙ mismatch_kept s g x w (own_of s e) (start_of e) (back_empty (faults_in s w e) (mismatch s w (own_of s e) (start_of e)) h))

  -- ---- operators

  unary_kept : (w : Wanted) (operator : UnaryOperator) (place : ℕ) (e : ExprTree) → IsKept (below operator w) e
      → unary_rule s operator place (own_of s e) ≡ []
      → IsKept w (Unary operator place e)
  unary_kept w operator place e kept h =
      record {
        own = ap (unary_own g operator) kept.own ∙ unary_same s g x operator (own_of s e) kept.declared;
        declared = unary_declared s sound operator (own_of s e) kept.declared;
        name = tt;
        form = kept.form;
        value = λ static. ap (λ v. and_then v (unary_value operator)) (kept.value static);
        faults = both_empty (faults_in g (below operator w) e) (unary_rule g operator place (own_of g e)) kept.faults
            (ap (unary_rule g operator place) kept.own ∙ unary_rule_same s g x operator place (own_of s e) kept.declared ∙ h);
      }

  binary_kept : (w : Wanted) (operator : BinaryOperator) (a b : ExprTree) → IsKept (beside s operator (own_of s b)) a
      → IsKept (beside s operator (own_of s a)) b
      → binary_rule s operator (start_of a) (own_of s a) (own_of s b) ≡ []
      → IsKept w (Binary operator a b)
  binary_kept w operator a b ka kb h =
      let wa : beside g operator (own_of g b) ≡ beside s operator (own_of s b) =
      ap (beside g operator) kb.own ∙ beside_same s g x operator (own_of s b) kb.declared in
      let wb : beside g operator (own_of g a) ≡ beside s operator (own_of s a) =
      ap (beside g operator) ka.own ∙ beside_same s g x operator (own_of s a) ka.declared in
      let first = faults_in g (beside g operator (own_of g b)) a in
      let second = faults_in g (beside g operator (own_of g a)) b in
      record {
        own = (λ j. binary_own g operator (ka.own j) (kb.own j)) ∙ binary_same s g x operator (own_of s a) (own_of s b) ka.declared kb.declared;
        declared = binary_declared s sound operator (own_of s a) (own_of s b) ka.declared kb.declared;
        name = tt;
        form = λ j. both (ka.form j) (kb.form j);
        value = λ static.
            let one = ka.value (both_left (static_form s a) (static_form s b) static) in
            let two = kb.value (both_right (static_form s a) (static_form s b) static) in
            λ j. and_then (one j) (λ v. elim (is_decided operator v) [ true ↦ Gives v | false ↦ and_then (two j) (binary_value operator v) ]);
        faults = both_empty (first ++ second) (binary_rule g operator (start_of a) (own_of g a) (own_of g b))
            (both_empty first second (ap (λ v. faults_in g v a) wa ∙ ka.faults) (ap (λ v. faults_in g v b) wb ∙ kb.faults))
            ((λ j. binary_rule g operator (start_of a) (ka.own j) (kb.own j))
            ∙ binary_rule_same s g x operator (start_of a) (own_of s a) (own_of s b) ka.declared kb.declared ∙ h);
      }

  -- ---- if expressions

  module _ (w : Wanted) (place : ℕ) (condition value : ExprTree) (elsifs : ElsifValueTrees) (last : ExprTree) where
    abbrev inner : Wanted
    inner = conditional_wanted s w value elsifs last

    conditional_kept : IsKept boolean_wanted condition → IsKept inner value → AreKept inner elsifs → IsKept inner last
        → faults_in s w (Conditional place condition value elsifs last) ≡ []
        → IsKept w (Conditional place condition value elsifs last)
    conditional_kept kc kv ke kl h =
        let all : elsif_own_of g (own_of g value) elsifs ≡ elsif_own_of s (own_of s value) elsifs =
        ap (λ a. elsif_own_of g a elsifs) kv.own ∙ ke.own (own_of s value) kv.declared in
        let known = ke.declared (own_of s value) kv.declared in
        let joined : parts_own g value elsifs last ≡ parts_own s value elsifs last =
        (λ j. join g (all j) (kl.own j)) ∙ join_same s g x (elsif_own_of s (own_of s value) elsifs) (own_of s last) known kl.declared in
        let firsts : first_typed g elsifs (own_of g last) ≡ first_typed s elsifs (own_of s last) =
        ap (first_typed g elsifs) kl.own ∙ ke.first (own_of s last) in
        let same : conditional_wanted g w value elsifs last ≡ inner = λ j. parts_wanted (joined j) w (or_first (kv.own j) (firsts j)) in
        let c = faults_of s boolean_wanted condition in
        let v = faults_of s inner value in
        let m = elsif_faults s inner elsifs in
        let l = faults_of s inner last in
        let three = front_empty (c ++ v ++ m) l h in
        let two = front_empty (c ++ v) m three in
        let condition_later = typed_kept boolean_wanted condition kc (front_empty c v two) in
        let value_later = typed_kept inner value kv (back_empty c v two) in
        let last_later = typed_kept inner last kl (back_empty (c ++ v ++ m) l h) in
        record {
          own = joined;
          declared = join_declared s (elsif_own_of s (own_of s value) elsifs) (own_of s last) known kl.declared;
          name = tt;
          form = refl;
          value = λ static. (let never : NotStatic ≡ Static = static in cc);
          faults = subst
              (λ u. faults_of g boolean_wanted condition ++ faults_of g u value ++ elsif_faults g u elsifs ++ faults_of g u last ≡ [])
              (sym same)
              (λ j. condition_later j ++ value_later j ++ ke.faults j ++ last_later j);
        }

  elsif_kept : (w : Wanted) (condition value : ExprTree) (rest : ElsifValueTrees) → IsKept boolean_wanted condition → IsKept w value → AreKept w rest
      → elsif_faults s w (MoreElsifValues condition value rest) ≡ []
      → AreKept w (MoreElsifValues condition value rest)
  elsif_kept w condition value rest kc kv kr h =
      let c = faults_of s boolean_wanted condition in
      let v = faults_of s w value in
      let two = front_empty (c ++ v) (elsif_faults s w rest) h in
      let condition_later = typed_kept boolean_wanted condition kc (front_empty c v two) in
      let value_later = typed_kept w value kv (back_empty c v two) in
      record {
        own = λ a known.
            let next = join_declared s a (own_of s value) known kv.declared in
            ap (λ o. elsif_own_of g o rest) (ap (join g a) kv.own ∙ join_same s g x a (own_of s value) known kv.declared)
            ∙ kr.own (join s a (own_of s value)) next;
        declared = λ a known. kr.declared (join s a (own_of s value)) (join_declared s a (own_of s value) known kv.declared);
        first = λ a. (λ j. or_first (kv.own j) (kr.first a j));
        faults = λ j. condition_later j ++ value_later j ++ kr.faults j;
      }

  -- ---- all expressions

  mutual
    pub expression_kept : (e : ExprTree) (w : Wanted) → faults_in s w e ≡ [] → IsKept w e
    expression_kept (tree.Number z place) w h = record { own = refl; declared = tt; name = tt; form = refl; value = λ static. refl; faults = refl }
    expression_kept (Named first selectors) w h = name_kept w first selectors h (λ u good given parts. selectors_kept selectors first.place u good given parts)
    expression_kept (Parenthesized place e) w h =
        let kept = expression_kept e w h in
        record { own = kept.own; declared = kept.declared; name = tt; form = kept.form; value = kept.value; faults = kept.faults }
    expression_kept (Unary operator place e) w h =
        let inside = faults_in s (below operator w) e in
        let broken = unary_rule s operator place (own_of s e) in
        unary_kept w operator place e (expression_kept e (below operator w) (front_empty inside broken h)) (back_empty inside broken h)
    expression_kept (Binary operator a b) w h =
        let first = faults_in s (beside s operator (own_of s b)) a in
        let second = faults_in s (beside s operator (own_of s a)) b in
        let broken = binary_rule s operator (start_of a) (own_of s a) (own_of s b) in
        let two = front_empty (first ++ second) broken h in
        binary_kept w operator a b (expression_kept a (beside s operator (own_of s b)) (front_empty first second two))
        (expression_kept b (beside s operator (own_of s a)) (back_empty first second two)) (back_empty (first ++ second) broken h)
    expression_kept (Conditional place condition value elsifs last) w h =
        let wanted_ = conditional_wanted s w value elsifs last in
        let c = faults_of s boolean_wanted condition in
        let v = faults_of s wanted_ value in
        let m = elsif_faults s wanted_ elsifs in
        let l = faults_of s wanted_ last in
        let three = front_empty (c ++ v ++ m) l h in
        let two = front_empty (c ++ v) m three in
        conditional_kept w place condition value elsifs last
        (expression_kept condition boolean_wanted
        (front_empty (faults_in s boolean_wanted condition) (mismatch s boolean_wanted (own_of s condition) (start_of condition)) (front_empty c v two)))
        (expression_kept value wanted_ (front_empty (faults_in s wanted_ value) (mismatch s wanted_ (own_of s value) (start_of value)) (back_empty c v two)))
        (elsifs_kept elsifs wanted_ (back_empty (c ++ v) m three))
        (expression_kept last wanted_
        (front_empty (faults_in s wanted_ last) (mismatch s wanted_ (own_of s last) (start_of last)) (back_empty (c ++ v ++ m) l h)))
        h

    elsifs_kept : (es : ElsifValueTrees) (w : Wanted) → elsif_faults s w es ≡ [] → AreKept w es
    elsifs_kept NoElsifValues w h = record { own = λ a known. refl; declared = λ a known. known; first = λ a. refl; faults = refl }
    elsifs_kept (MoreElsifValues condition value rest) w h =
        let c = faults_of s boolean_wanted condition in
        let v = faults_of s w value in
        let two = front_empty (c ++ v) (elsif_faults s w rest) h in
        elsif_kept w condition value rest
        (expression_kept condition boolean_wanted
        (front_empty (faults_in s boolean_wanted condition) (mismatch s boolean_wanted (own_of s condition) (start_of condition)) (front_empty c v two)))
        (expression_kept value w (front_empty (faults_in s w value) (mismatch s w (own_of s value) (start_of value)) (back_empty c v two)))
        (elsifs_kept rest w (back_empty (c ++ v) (elsif_faults s w rest) h))
        h

    selectors_kept : (selectors : SelectorTrees) (place : ℕ) (w : Standing) → Good s w → IsDeclaredGiven s w → selectors_faults s place w selectors ≡ []
        → ArePartsKept place w selectors
    selectors_kept NoSelectors place w good given h =
        record {
          all = same_settle s g x w good;
          declared = own_declared s (settle s w) (good_settle s sound w good) (settle_declared s sound w good given);
          faults = same_end s g x place w good ∙ h;
        }
    selectors_kept (MoreSelectors sel rest) place w good given h =
        let here = front_empty (selector_faults s place w sel) (selectors_faults s place (select s w sel) rest) h in
        let later = back_empty (selector_faults s place w sel) (selectors_faults s place (select s w sel) rest) h in
        part_kept place w sel rest good
        (selectors_kept rest place (select s w sel) (good_select s sound place w sel good (part_unbroken s sound place w sel here))
        (select_declared s sound w sel good) later)
        (selector_kept sel place w good here)

    selector_kept : (sel : SelectorTree) (place : ℕ) (w : Standing) → Good s w → selector_faults s place w sel ≡ [] → selector_faults g place w sel ≡ []
    selector_kept (Component name) place w good h = same_part s g x place w (Component name) good ∙ h
    selector_kept (Attribute name) place w good h = same_part s g x place w (Attribute name) good ∙ h
    selector_kept (Arguments a) place w good h =
        let ruled = part_rule s place w (Arguments a) in
        let all = arguments_faults s w 0 a in
        both_empty (part_rule g place w (Arguments a)) (arguments_faults g w 0 a) (same_part s g x place w (Arguments a) good ∙ front_empty ruled all h)
        (arguments_kept a w 0 good (back_empty ruled all h))

    arguments_kept : (a : ArgumentTrees) (w : Standing) (k : ℕ) → Good s w → arguments_faults s w k a ≡ [] → arguments_faults g w k a ≡ []
    arguments_kept NoArguments w k good h = refl
    arguments_kept (MoreArguments a rest) w k good h =
        let one = argument_faults s (slot_at s w k) a in
        let more = arguments_faults s w (suc k) rest in
        both_empty (argument_faults g (slot_at g w k) a) (arguments_faults g w (suc k) rest)
        (ap (λ l. argument_faults g l a) (same_slot s g x w k good) ∙ argument_kept a (slot_at s w k) (front_empty one more h))
        (arguments_kept rest w (suc k) good (back_empty one more h))

    argument_kept : (a : ArgumentTree) (slot : Slot) → argument_faults s slot a ≡ [] → argument_faults g slot a ≡ []
    argument_kept (tree.Value e) slot h =
        let inside = faults_in s (slot_wanted slot) e in
        let ruled = slot_rule s slot e (own_of s e) in
        let kept = expression_kept e (slot_wanted slot) (front_empty inside ruled h) in
        both_empty (faults_in g (slot_wanted slot) e) (slot_rule g slot e (own_of g e)) kept.faults (slot_kept slot e kept (back_empty inside ruled h))
    argument_kept (Text label place) slot h = h
