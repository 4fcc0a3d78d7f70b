-- What is broken nowhere in a chain of operators is broken nowhere in its parts; and the left operand of a logical operator is a truth value.
use Rattle.std.proofs.Common.{◌≡◌, ◌++◌, ℕ, List, [], ◌∷◌, Bool, true, false, sym, ap, ◌∙◌}
use Rattle.std.specs.Prelude.{cond}
use Rattle.ada_tree.specs.declared.expression.UnaryOperator.{UnaryOperator}
use Rattle.ada_tree.specs.declared.expression.BinaryOperator.{BinaryOperator}
use Rattle.ada_tree.specs.ExpressionTree as tree
use Rattle.ada_tree.specs.ExpressionTree.{ExprTree, NoElsifValues}
use Rattle.image.specs.Sections.{Sections}
use Rattle.types.specs.Scopes.{Scope}
use Rattle.types.specs.Statics.{start_of}
use Rattle.expr_soundness.specs.expr_rules.specs.Typing.{boolean_wanted, own_of, has_binary, is_boolean, is_known, is_logical, join}
use Rattle.expr_soundness.specs.expr_rules.specs.ExpressionRules.{below, beside, binary_rule, conditional_wanted, elsif_faults, faults_in, faults_of, unary_rule}
use Rattle.expr_soundness.specs.expr_rules.specs.NameRules.{mismatch}
use Rattle.expr_soundness.specs.expr_rules.specs.declared.own.Wanted.{Wanted}
use Rattle.expr_soundness.specs.expr_rules.specs.Faults.{Faults}
use Rattle.expr_soundness.specs.expr_rules.specs.Laws.{suits}
use Rattle.expr_soundness.specs.expr_rules.proofs.TypedLaw.{as_truth, back_empty, front_empty, joined_boolean, judged_two, unbroken}
use Rattle.base.specs.declared.faults.TheConstants.{NO_MEANING}
use Rattle.expr_soundness.specs.Laws.{ExpressionsAreTyped}
use Rattle.expr_code.specs.Computing.{IsTruth}
use Rattle.expr_code.specs.Branches.{AreLegalBranches, Branch, in_front}
use Rattle.expr_code.specs.Emitting.{IsLegalExpression}
use Rattle.expr_code.specs.Seeing.{library_of, Package, Sees}
use Rattle.expr_code.specs.declared.visible.Visible.{Visible}

module _ (s : Scope) where
  pub legal_operand : (o : UnaryOperator) (place : _) (e : ExprTree) → IsLegalExpression s (tree.Unary o place e) → IsLegalExpression s e
  legal_operand o place e h = record { wanted = below o h.wanted; unbroken = front_empty (faults_in s (below o h.wanted) e) (unary_rule s o place (own_of s e)) h.unbroken }

  module _ (o : BinaryOperator) (a b : ExprTree) (h : IsLegalExpression s (tree.Binary o a b)) where
    abbrev in_left : Faults
    in_left = faults_in s (beside s o (own_of s b)) a

    abbrev in_right : Faults
    in_right = faults_in s (beside s o (own_of s a)) b

    abbrev of_both : Faults
    of_both = binary_rule s o (start_of a) (own_of s a) (own_of s b)

    pub legal_left : IsLegalExpression s a
    legal_left = record { wanted = beside s o (own_of s b); unbroken = front_empty in_left in_right (front_empty (in_left ++ in_right) of_both h.unbroken) }

    pub legal_right : IsLegalExpression s b
    legal_right = record { wanted = beside s o (own_of s a); unbroken = back_empty in_left in_right (front_empty (in_left ++ in_right) of_both h.unbroken) }

    legal_rule : of_both ≡ []
    legal_rule = back_empty (in_left ++ in_right) of_both h.unbroken

  -- ---- if expressions

  legal_elsifs : (w : Wanted) (all : List Branch) → elsif_faults s w (in_front all NoElsifValues) ≡ [] → AreLegalBranches s all
  legal_elsifs w [] h = tt
  legal_elsifs w (b ∷ all) h =
      let c = faults_of s boolean_wanted b.condition in
      let v = faults_of s w b.value in
      let rest = elsif_faults s w (in_front all NoElsifValues) in
      let two = front_empty (c ++ v) rest h in (
        record { wanted = boolean_wanted; unbroken = front_empty (faults_in s boolean_wanted b.condition) (mismatch s boolean_wanted (own_of s b.condition) (start_of b.condition)) (front_empty c v two) },
        record { wanted = w; unbroken = front_empty (faults_in s w b.value) (mismatch s w (own_of s b.value) (start_of b.value)) (back_empty c v two) },
        legal_elsifs w all (back_empty (c ++ v) rest h),
      )

  -- the parts of an if expression
  pub record PartsAreLegal (c v : ExprTree) (all : List Branch) (l : ExprTree) : Type 0 where
    pub condition : IsLegalExpression s c
    pub value : IsLegalExpression s v
    pub elsifs : AreLegalBranches s all
    pub last : IsLegalExpression s l

  pub legal_parts : (place : ℕ) (condition value : ExprTree) (all : List Branch) (last : ExprTree) → IsLegalExpression s (tree.Conditional place condition value (in_front all NoElsifValues) last) → PartsAreLegal condition value all last
  legal_parts place condition value all last h =
      let w = conditional_wanted s h.wanted value (in_front all NoElsifValues) last in
      let c = faults_of s boolean_wanted condition in
      let v = faults_of s w value in
      let m = elsif_faults s w (in_front all NoElsifValues) in
      let l = faults_of s w last in
      let three = front_empty ((c ++ v) ++ m) l h.unbroken in
      let two = front_empty (c ++ v) m three in
      record {
        condition = record { wanted = boolean_wanted; unbroken = front_empty (faults_in s boolean_wanted condition) (mismatch s boolean_wanted (own_of s condition) (start_of condition)) (front_empty c v two) };
        value = record { wanted = w; unbroken = front_empty (faults_in s w value) (mismatch s w (own_of s value) (start_of value)) (back_empty c v two) };
        elsifs = legal_elsifs w all (back_empty (c ++ v) m three);
        last = record { wanted = w; unbroken = front_empty (faults_in s w last) (mismatch s w (own_of s last) (start_of last)) (back_empty ((c ++ v) ++ m) l h.unbroken) };
      }

chosen : (b : Bool) (x y : Bool) → b ≡ true → cond b x y ≡ true → x ≡ true
chosen true x y e h = h
chosen false x y e h = absurd cc

-- the left operand of a logical operator is a truth value wherever it has a value
pub left_truth : ExpressionsAreTyped → (i : Sections) (v : Visible) (unit : Package) (o : BinaryOperator) (a b : ExprTree) → is_logical o ≡ true → IsLegalExpression v.scope (tree.Binary o a b) → IsTruth i (library_of unit) (Sees unit v) a
left_truth laws i v unit o a b logical h calls p view x sound sees e =
    let s = v.scope in
    let left = legal_left s o a b h in
    let right = legal_right s o a b h in
    let first = laws.own s p calls sees.names.agrees (sound.0 p sees.unit.sound) a left.wanted left.unbroken in
    let second = laws.own s p calls sees.names.agrees (sound.0 p sees.unit.sound) b right.wanted right.unbroken in
    let has = judged_two (is_known (own_of s a)) (is_known (own_of s b)) (has_binary s o (own_of s a) (own_of s b)) (unbroken NO_MEANING (start_of a) _ (legal_rule s o a b h)) first.known second.known in
    let boolean = (joined_boolean s (own_of s a) (own_of s b) (chosen (is_logical o) (is_boolean s (join s (own_of s a) (own_of s b))) _ logical has)).0 in
    as_truth s (own_of s a) x boolean (ap (suits s (own_of s a)) (sym e) ∙ first.suited)
