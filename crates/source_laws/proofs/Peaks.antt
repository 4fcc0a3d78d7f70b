-- How many words of the operand stack the code of a legal expression takes, by its levels.
use Rattle.std.proofs.Common.{◌≡◌, ◌<◌, ◌≤◌, ◌++◌, ◌+◌, ◌*◌, ℕ, zero, suc, max, [], ◌∷◌, List, true, Some, None, refl, sym, ap, ◌∙◌, subst, arith}
use Rattle.std.specs.Prelude.{is_none}
use Rattle.ada_tree.specs.declared.expression.BinaryOperator.{BinaryOperator}
use Rattle.ada_tree.specs.declared.expression.BinaryOperator.TheVariants as binary
use Rattle.ada_tree.specs.declared.expression.UnaryOperator.{UnaryOperator}
use Rattle.ada_tree.specs.declared.expression.UnaryOperator.TheVariants as unary
use Rattle.lexer.specs.declared.word.Word.TheVariants as words
use Rattle.ada_tree.specs.Depth.{arguments_depth, argument_depth, elsif_values_depth, expr_depth, selectors_depth}
use Rattle.ada_tree.specs.ExpressionGrammar.{Chain, Expression, Factor, Primary, Production, Relation, Simple, Term, expression, left_operand, made, made_by, production, right_operand, spells_argument, spells_arguments, spells_elsif_values, spells_further_arguments, spells_selectors, stands_for, unary_production}
use Rattle.ada_tree.specs.ExpressionTree.{Arguments, ArgumentTree, ArgumentTrees, Attribute, Component, ElsifValueTrees, ExprTree, MoreArguments, MoreElsifValues, MoreSelectors, NoArguments, NoElsifValues, NoSelectors, SelectorTrees, Text, Value}
use Rattle.ada_tree.specs.ExpressionTree as tree
use Rattle.ada_tree.specs.Language.{Limit, Tokens, ◌⨾◌, where_true, word}
use Rattle.types.specs.declared.standing.Standing.{Standing}
use Rattle.types.specs.Scopes.{Scope}
use Rattle.types.specs.Standings.{count, select}
use Rattle.types.specs.Statics.{start_of}
use Rattle.expr_soundness.specs.expr_rules.specs.declared.names.Slot.{Slot}
use Rattle.expr_soundness.specs.expr_rules.specs.declared.own.Wanted.{Wanted}
use Rattle.expr_soundness.specs.expr_rules.specs.NameRules.{mismatch, slot_at}
use Rattle.expr_soundness.specs.expr_rules.specs.ExpressionRules.{argument_faults, arguments_faults, below, conditional_wanted, elsif_faults, faults_in, faults_of}
use Rattle.expr_soundness.specs.expr_rules.specs.Typing.{boolean_wanted, own_of}
use Rattle.expr_soundness.specs.expr_rules.proofs.TypedLaw.{back_empty, front_empty}
use Rattle.expr_soundness.specs.SoundScopes.{SoundScope}
use Rattle.expr_code.specs.Branches.{Branch, in_front}
use Rattle.expr_code.specs.Emitting.{IsLegalExpression}
use Rattle.expr_code.specs.OperatorCode.{binary_operation}
use Rattle.expr_code.specs.Refusing.{argument_peak, arguments_peak, elsifs_peak, peak, selectors_peak, words_below}
use Rattle.expr_code.specs.Widths.{AreWide, width_of}
use Rattle.expr_code.proofs.Legal.{legal_left, legal_operand, legal_right}
use Rattle.expr_code.proofs.Widths.{binary_width, conditional_wide, unary_width}
use Rattle.source_laws.specs.Depths.{PeaksAreLow}
use Rattle.expr_code.specs.Providing.{FewFormals}
use Rattle.source_laws.proofs.PeakBounds.{arguments_bound, binary_bound, checked_bound, conditional_bound, elsif_bound, more_arguments, name_bound, number_bound, parenthesized_bound, part_bound, through, unary_bound}
use Rattle.expr_code.proofs.PeakSlots.{AreNarrow, IsNarrow, IsPath, begins, below_low, path_arguments, path_behind, path_narrow, slot_width, value_path}

-- ---- operators that may wait

-- how many operators wait for their right operands in what the production makes
abbrev pub waiting : Production → ℕ
waiting Primary = 0
waiting Factor = 0
waiting Term = 1
waiting Simple = 2
waiting Relation = 3
waiting (Chain o) = 4
waiting Expression = 4

pub waits : (m n : Production) → stands_for m n ≡ true → waiting m ≤ waiting n
waits Primary n h = omega arith
waits Factor n h = omega arith
waits Term Primary h = cc
waits Term Factor h = cc
waits Term Term h = omega arith
waits Term Simple h = omega arith
waits Term Relation h = omega arith
waits Term (Chain o) h = omega arith
waits Term Expression h = omega arith
waits Simple Primary h = cc
waits Simple Factor h = cc
waits Simple Term h = cc
waits Simple Simple h = omega arith
waits Simple Relation h = omega arith
waits Simple (Chain o) h = omega arith
waits Simple Expression h = omega arith
waits Relation Primary h = cc
waits Relation Factor h = cc
waits Relation Term h = cc
waits Relation Simple h = cc
waits Relation Relation h = omega arith
waits Relation (Chain o) h = omega arith
waits Relation Expression h = omega arith
waits (Chain o) Primary h = cc
waits (Chain o) Factor h = cc
waits (Chain o) Term h = cc
waits (Chain o) Simple h = cc
waits (Chain o) Relation h = cc
waits (Chain o) (Chain p) h = omega arith
waits (Chain o) Expression h = omega arith
waits Expression Primary h = cc
waits Expression Factor h = cc
waits Expression Term h = cc
waits Expression Simple h = cc
waits Expression Relation h = cc
waits Expression (Chain o) h = cc
waits Expression Expression h = omega arith

left_level : (o : BinaryOperator) → waiting (left_operand (production o)) ≤ waiting (production o)
left_level binary.And = omega arith
left_level _ = omega arith

-- a right operand binds tighter
right_level : (o : BinaryOperator) → suc (waiting (right_operand (production o))) ≤ waiting (production o)
right_level binary.And = omega arith
right_level _ = omega arith

unary_level : (o : UnaryOperator) → waiting (right_operand (unary_production o)) ≤ waiting (unary_production o)
unary_level unary.Plus = omega arith
unary_level unary.Minus = omega arith
unary_level unary.Abs = omega arith
unary_level unary.Not = omega arith

left_waits : (o : BinaryOperator) (m : Production) → stands_for m (left_operand (production o)) ≡ true → waiting m ≤ waiting (production o)
left_waits o m h = through (waiting m) (waiting (left_operand (production o))) (waiting (production o)) (waits m (left_operand (production o)) h) (left_level o)

right_waits : (o : BinaryOperator) (m : Production) → stands_for m (right_operand (production o)) ≡ true → suc (waiting m) ≤ waiting (production o)
right_waits o m h = let low = waits m (right_operand (production o)) h in let tight = right_level o in omega (arith, low, tight)

unary_waits : (o : UnaryOperator) (m : Production) → stands_for m (right_operand (unary_production o)) ≡ true → waiting m ≤ waiting (unary_production o)
unary_waits o m h =
    through (waiting m) (waiting (right_operand (unary_production o))) (waiting (unary_production o)) (waits m (right_operand (unary_production o)) h)
    (unary_level o)

-- ---- the parts of an if expression

-- its branches behind the first
abbrev pub listed : ElsifValueTrees → List Branch
listed NoElsifValues = []
listed (MoreElsifValues condition value rest) = record { condition = condition; value = value } ∷ listed rest

listed_is : (elsifs : ElsifValueTrees) → in_front (listed elsifs) NoElsifValues ≡ elsifs
listed_is NoElsifValues = refl
listed_is (MoreElsifValues condition value rest) = ap (MoreElsifValues condition value) (listed_is rest)

-- what stands between its parentheses
abbrev pub Inner : (condition value : ExprTree) → ElsifValueTrees → (last : ExprTree) → Limit → Tokens → Type 0
Inner condition value elsifs last l =
    word words.If ⨾ where_true (stands_for (made_by condition) Expression) (made condition l)
    ⨾ word words.Then ⨾ where_true (stands_for (made_by value) Expression) (made value l) ⨾ spells_elsif_values elsifs l
    ⨾ word words.Else ⨾ where_true (stands_for (made_by last) Expression) (made last l)

pub record AreSpelled (condition value : ExprTree) (elsifs : ElsifValueTrees) (last : ExprTree) (l : Limit) : Type 0 where
  pub conditions : Tokens
  pub condition_made : where_true (stands_for (made_by condition) Expression) (made condition l) conditions
  pub values : Tokens
  pub value_made : where_true (stands_for (made_by value) Expression) (made value l) values
  pub branches : Tokens
  pub branches_made : spells_elsif_values elsifs l branches
  pub lasts : Tokens
  pub last_made : where_true (stands_for (made_by last) Expression) (made last l) lasts

pub spelled_parts : (condition value : ExprTree) (elsifs : ElsifValueTrees) (last : ExprTree) (l : Limit) (ts : Tokens) → Inner condition value elsifs last l ts
    → AreSpelled condition value elsifs last l
spelled_parts condition value elsifs last l ts d =
    record {
      conditions = d.4.0;
      condition_made = d.4.3;
      values = d.4.4.4.0;
      value_made = d.4.4.4.3;
      branches = d.4.4.4.4.0;
      branches_made = d.4.4.4.4.3;
      lasts = d.4.4.4.4.4.1;
      last_made = d.4.4.4.4.4.4;
    }

module _ (s : Scope) (sound : SoundScope s) where
  pub legal_of : (w : Wanted) (e : ExprTree) → faults_of s w e ≡ [] → IsLegalExpression s e
  legal_of w e h = record { wanted = w; unbroken = front_empty (faults_in s w e) (mismatch s w (own_of s e) (start_of e)) h }

  -- all are legal, conditions take one word, and values as many as the whole
  pub record AreParts (condition value : ExprTree) (elsifs : ElsifValueTrees) (last whole : ExprTree) : Type 0 where
    pub condition_legal : IsLegalExpression s condition
    pub condition_one : width_of s condition ≡ 1
    pub value_legal : IsLegalExpression s value
    pub value_wide : width_of s value ≡ width_of s whole
    pub wanted : Wanted
    pub others : elsif_faults s wanted elsifs ≡ []
    pub others_wide : AreWide s (width_of s value) (listed elsifs)
    pub last_legal : IsLegalExpression s last
    pub last_wide : width_of s last ≡ width_of s whole

  pub conditional_parts : (place : ℕ) (condition value : ExprTree) (elsifs : ElsifValueTrees) (last : ExprTree)
      → IsLegalExpression s (tree.Conditional place condition value elsifs last)
      → AreParts condition value elsifs last (tree.Conditional place condition value elsifs last)
  conditional_parts place condition value elsifs last h =
      let w = conditional_wanted s h.wanted value elsifs last in
      let c = faults_of s boolean_wanted condition in
      let v = faults_of s w value in
      let m = elsif_faults s w elsifs in
      let l = faults_of s w last in
      let three = front_empty ((c ++ v) ++ m) l h.unbroken in
      let two = front_empty (c ++ v) m three in
      let same = listed_is elsifs in
      let wide = conditional_wide s sound place condition value (listed elsifs) last
      (subst (λ x. IsLegalExpression s (tree.Conditional place condition value x last)) (sym same) h) in
      let whole : width_of s value ≡ width_of s (tree.Conditional place condition value elsifs last) =
      wide.whole ∙ ap (λ x. width_of s (tree.Conditional place condition value x last)) same in
      record {
        condition_legal = legal_of boolean_wanted condition (front_empty c v two);
        condition_one = wide.condition;
        value_legal = legal_of w value (back_empty c v two);
        value_wide = whole;
        wanted = w;
        others = back_empty (c ++ v) m three;
        others_wide = wide.elsifs;
        last_legal = legal_of w last (back_empty ((c ++ v) ++ m) l h.unbroken);
        last_wide = wide.last ∙ whole;
      }

  pub inside_legal : (place : ℕ) (e : ExprTree) → IsLegalExpression s (tree.Parenthesized place e) → IsLegalExpression s e
  inside_legal place e h = record { wanted = h.wanted; unbroken = h.unbroken }

  -- ---- all expressions

  module _ (few : FewFormals s) where
    mutual
      pub peak_low : (e : ExprTree) (l : Limit) (ts : Tokens) → made e l ts → IsLegalExpression s e
          → peak s e ≤ max (width_of s e) (2 + waiting (made_by e) + 12 * expr_depth e)
      peak_low (tree.Number z place) l ts d h = number_bound 1
      peak_low (tree.Named first selectors) l ts d h =
          name_bound (width_of s (tree.Named first selectors)) (selectors_peak s (words_below s (begins s sound few first selectors)) selectors)
          (selectors_depth selectors)
          (selectors_low first.place (begins s sound few first selectors) selectors l d.1 (words_below s (begins s sound few first selectors))
          (below_low s (begins s sound few first selectors)) d.4 (value_path s sound few first selectors h))
      peak_low (tree.Parenthesized place e) None ts d h =
          parenthesized_bound (peak s e) (width_of s e) (waiting (made_by e)) (expr_depth e) (peak_low e None d.4.0 d.4.3.1 (inside_legal place e h))
          (waits (made_by e) Expression d.4.3.0)
      peak_low (tree.Parenthesized place e) (Some zero) ts d h = absurd d
      peak_low (tree.Parenthesized place e) (Some (suc n)) ts d h =
          parenthesized_bound (peak s e) (width_of s e) (waiting (made_by e)) (expr_depth e) (peak_low e (Some n) d.4.0 d.4.3.1 (inside_legal place e h))
          (waits (made_by e) Expression d.4.3.0)
      peak_low (tree.Unary o place e) l ts d h =
          unary_bound (peak s e) (width_of s e) (width_of s (tree.Unary o place e)) (waiting (made_by e)) (waiting (unary_production o)) (expr_depth e)
          (peak_low e l d.1 d.4.1 (legal_operand s o place e h)) (unary_width s sound o place e h).left (unary_waits o (made_by e) d.4.0)
      peak_low (tree.Binary o a b) l ts d h =
          let words = binary_width s sound o a b h in
          binary_bound (is_none (binary_operation o)) (peak s a) (peak s b) (width_of s a) (width_of s b) (width_of s (tree.Binary o a b)) (waiting (made_by a))
          (waiting (made_by b)) (waiting (production o)) (expr_depth a) (expr_depth b)
          (peak_low a l d.0 d.3.1 (legal_left s o a b h)) words.left (left_waits o (made_by a) d.3.0)
          (peak_low b l d.4.1 d.4.4.1 (legal_right s o a b h)) words.right (right_waits o (made_by b) d.4.4.0)
      peak_low (tree.Conditional place condition value elsifs last) None ts d h =
          let parts = conditional_parts place condition value elsifs last h in
          let spelled = spelled_parts condition value elsifs last None d.4.0 d.4.3 in
          conditional_bound (width_of s (tree.Conditional place condition value elsifs last)) (peak s condition) (peak s value) (elsifs_peak s elsifs)
          (peak s last)
          (width_of s condition) (width_of s value) (width_of s last) (waiting (made_by condition)) (waiting (made_by value)) (waiting (made_by last))
          (expr_depth condition) (expr_depth value) (elsif_values_depth elsifs) (expr_depth last)
          (peak_low condition None spelled.conditions spelled.condition_made.1 parts.condition_legal) parts.condition_one
          (waits (made_by condition) Expression spelled.condition_made.0)
          (peak_low value None spelled.values spelled.value_made.1 parts.value_legal) parts.value_wide (waits (made_by value) Expression spelled.value_made.0)
          (elsifs_low parts.wanted (width_of s value) elsifs None spelled.branches spelled.branches_made parts.others parts.others_wide)
          (peak_low last None spelled.lasts spelled.last_made.1 parts.last_legal) parts.last_wide (waits (made_by last) Expression spelled.last_made.0)
      peak_low (tree.Conditional place condition value elsifs last) (Some zero) ts d h = absurd d
      peak_low (tree.Conditional place condition value elsifs last) (Some (suc zero)) ts d h = absurd d.4.3
      peak_low (tree.Conditional place condition value elsifs last) (Some (suc (suc n))) ts d h =
          let parts = conditional_parts place condition value elsifs last h in
          let spelled = spelled_parts condition value elsifs last (Some n) d.4.0 d.4.3 in
          conditional_bound (width_of s (tree.Conditional place condition value elsifs last)) (peak s condition) (peak s value) (elsifs_peak s elsifs)
          (peak s last)
          (width_of s condition) (width_of s value) (width_of s last) (waiting (made_by condition)) (waiting (made_by value)) (waiting (made_by last))
          (expr_depth condition) (expr_depth value) (elsif_values_depth elsifs) (expr_depth last)
          (peak_low condition (Some n) spelled.conditions spelled.condition_made.1 parts.condition_legal) parts.condition_one
          (waits (made_by condition) Expression spelled.condition_made.0)
          (peak_low value (Some n) spelled.values spelled.value_made.1 parts.value_legal) parts.value_wide
          (waits (made_by value) Expression spelled.value_made.0)
          (elsifs_low parts.wanted (width_of s value) elsifs (Some n) spelled.branches spelled.branches_made parts.others parts.others_wide)
          (peak_low last (Some n) spelled.lasts spelled.last_made.1 parts.last_legal) parts.last_wide (waits (made_by last) Expression spelled.last_made.0)

      elsifs_low : (w : Wanted) (n : ℕ) (elsifs : ElsifValueTrees) (l : Limit) (ts : Tokens) → spells_elsif_values elsifs l ts → elsif_faults s w elsifs ≡ []
          → AreWide s n (listed elsifs) → elsifs_peak s elsifs ≤ max n (2 + 4 + 12 * elsif_values_depth elsifs)
      elsifs_low w n NoElsifValues l ts d h wide = omega arith
      elsifs_low w n (MoreElsifValues condition value rest) l ts d h wide =
          let c = faults_of s boolean_wanted condition in
          let v = faults_of s w value in
          let m = elsif_faults s w rest in
          let two = front_empty (c ++ v) m h in
          elsif_bound n (peak s condition) (peak s value) (elsifs_peak s rest) (width_of s condition) (width_of s value) (waiting (made_by condition))
          (waiting (made_by value)) (expr_depth condition) (expr_depth value) (elsif_values_depth rest)
          (peak_low condition l d.3.4.0 d.3.4.3.1 (legal_of boolean_wanted condition (front_empty c v two))) wide.0
          (waits (made_by condition) Expression d.3.4.3.0)
          (peak_low value l d.3.4.4.1 d.3.4.4.4.1 (legal_of w value (back_empty c v two))) wide.1 (waits (made_by value) Expression d.3.4.4.4.0)
          (elsifs_low w n rest l d.1 d.4 (back_empty (c ++ v) m h) wide.2)

      pub selectors_low : (place : ℕ) (w : Standing) (all : SelectorTrees) (l : Limit) (ts : Tokens) (below : ℕ) → below ≤ 1 → spells_selectors all l ts
          → IsPath s sound few place w all → selectors_peak s below all ≤ 2 + 12 * selectors_depth all
      selectors_low place w NoSelectors l ts below low d h = omega arith
      selectors_low place w (MoreSelectors (Component name) rest) l ts below low d h =
          part_bound below 1 (selectors_peak s below rest) (selectors_depth rest) low (omega arith)
          (selectors_low place (select s w (Component name)) rest l d.1 below low d.4 (path_behind s sound few place w (Component name) rest h))
      selectors_low place w (MoreSelectors (Attribute name) rest) l ts below low d h =
          part_bound below 0 (selectors_peak s below rest) (selectors_depth rest) low (omega arith)
          (selectors_low place (select s w (Attribute name)) rest l d.1 below low d.4 (path_behind s sound few place w (Attribute name) rest h))
      selectors_low place w (MoreSelectors (Arguments all) rest) None ts below low d h =
          let narrow = path_narrow s sound few place w all rest h in
          arguments_bound below (arguments_peak s all) (selectors_peak s below rest) (count all) (arguments_depth all) (selectors_depth rest) low
          (arguments_low w all None d.3.4.0 d.3.4.3 narrow (path_arguments s sound few place w all rest h)) narrow.few
          (selectors_low place (select s w (Arguments all)) rest None d.1 below low d.4 (path_behind s sound few place w (Arguments all) rest h))
      selectors_low place w (MoreSelectors (Arguments all) rest) (Some zero) ts below low d h = absurd d.3
      selectors_low place w (MoreSelectors (Arguments all) rest) (Some (suc n)) ts below low d h =
          let narrow = path_narrow s sound few place w all rest h in
          arguments_bound below (arguments_peak s all) (selectors_peak s below rest) (count all) (arguments_depth all) (selectors_depth rest) low
          (arguments_low w all (Some n) d.3.4.0 d.3.4.3 narrow (path_arguments s sound few place w all rest h)) narrow.few
          (selectors_low place (select s w (Arguments all)) rest (Some (suc n)) d.1 below low d.4 (path_behind s sound few place w (Arguments all) rest h))

      arguments_low : (w : Standing) (all : ArgumentTrees) (l : Limit) (ts : Tokens) → spells_arguments all l ts → AreNarrow s (slot_at s w) all
          → arguments_faults s w 0 all ≡ [] → arguments_peak s all ≤ count all + 5 + 12 * arguments_depth all
      arguments_low w NoArguments l ts d narrow h = absurd d
      arguments_low w (MoreArguments a rest) l ts d narrow h =
          let here = argument_faults s (slot_at s w 0) a in
          let more = arguments_faults s w 1 rest in
          more_arguments (argument_peak s a) (arguments_peak s rest) (count rest) (argument_depth a) (arguments_depth rest)
          (argument_low (slot_at s w 0) a l d.0 d.3 (narrow.narrow 0 (omega arith)) (front_empty here more h))
          (further_low w 1 rest l d.1 d.4 (λ k less. narrow.narrow k (omega (arith, less))) (back_empty here more h))

      -- from this slot on
      further_low : (w : Standing) (k : ℕ) (all : ArgumentTrees) (l : Limit) (ts : Tokens) → spells_further_arguments all l ts
          → ((j : ℕ) → j < k + count all → IsNarrow s (slot_at s w j)) → arguments_faults s w k all ≡ []
          → arguments_peak s all ≤ count all + 5 + 12 * arguments_depth all
      further_low w k NoArguments l ts d narrow h = omega arith
      further_low w k (MoreArguments a rest) l ts d narrow h =
          let here = argument_faults s (slot_at s w k) a in
          let more = arguments_faults s w (suc k) rest in
          more_arguments (argument_peak s a) (arguments_peak s rest) (count rest) (argument_depth a) (arguments_depth rest)
          (argument_low (slot_at s w k) a l d.3.1 d.3.4 (narrow k (omega arith)) (front_empty here more h))
          (further_low w (suc k) rest l d.1 d.4 (λ j less. narrow j (omega (arith, less))) (back_empty here more h))

      argument_low : (slot : Slot) (a : ArgumentTree) (l : Limit) (ts : Tokens) → spells_argument a l ts → IsNarrow s slot → argument_faults s slot a ≡ []
          → argument_peak s a ≤ 2 + 4 + 12 * argument_depth a
      argument_low slot (Value e) l ts d narrow h =
          let one = slot_width s sound slot e narrow h in
          checked_bound (peak s e) (width_of s e) (waiting (made_by e)) (expr_depth e) (peak_low e l ts d.1 one.0) one.1 (waits (made_by e) Expression d.0)
      argument_low slot (Text label place) l ts d narrow h = omega arith

    -- where any expression may stand
    pub expression_low : (e : ExprTree) (l : Limit) (ts : Tokens) → expression l e ts → IsLegalExpression s e
        → peak s e ≤ max (width_of s e) (6 + 12 * expr_depth e)
    expression_low e l ts d h =
        let low = peak_low e l ts d.1 h in
        let few = waits (made_by e) Expression d.0 in
        omega (arith, low, few)

pub peaks_are_low : PeaksAreLow
peaks_are_low s sound few e l ts d h = expression_low s sound few e l ts d h
