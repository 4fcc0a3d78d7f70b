-- What assignments need on the operand stack: addresses, and values of few words.
use Rattle.std.proofs.Common.{◌≡◌, ◌≤◌, ◌++◌, ◌+◌, ◌*◌, ℕ, zero, suc, max, [], true, false, Bool, Some, None, refl, sym, subst, arith}
use Rattle.std.proofs.Math.Nat.{le-max_left, le-max_right, max-le}
use Rattle.std.proofs.lemmas.Bool.{or_from}
use Rattle.ada_tree.specs.declared.expression.Identifier.{Identifier}
use Rattle.ada_tree.specs.Depth.{elsif_values_depth, expr_depth, name_depth, selectors_depth}
use Rattle.ada_tree.specs.ExpressionGrammar.{Expression, expression, made, spells_elsif_values, spells_name}
use Rattle.ada_tree.specs.ExpressionTree.{Conditional, ElsifValueTrees, ExprTree, MoreElsifValues, Named, NameTree, NoElsifValues, Parenthesized, SelectorTrees}
use Rattle.ada_tree.specs.Language.{Limit, Tokens}
use Rattle.types.specs.declared.entity.Role.{Role}
use Rattle.types.specs.declared.entity.Subtype.{Subtype}
use Rattle.types.specs.declared.standing.Standing.TheVariants as standing
use Rattle.types.specs.Layouts.{words_of}
use Rattle.types.specs.Scopes.{Scope}
use Rattle.types.specs.Standings.{standing_of}
use Rattle.expr_soundness.specs.expr_rules.specs.declared.own.Wanted.{Wanted}
use Rattle.expr_soundness.specs.expr_rules.specs.declared.own.Wanted.TheVariants.{Anything, OfType}
use Rattle.expr_soundness.specs.expr_rules.specs.ExpressionRules.{elsif_faults, faults_of, name_faults, target_faults}
use Rattle.expr_soundness.specs.expr_rules.specs.NameRules.{variable_rule}
use Rattle.expr_soundness.specs.expr_rules.specs.Typing.{boolean_wanted, own_of_standing, typed_wanted}
use Rattle.expr_soundness.specs.expr_rules.proofs.TypedLaw.{back_empty, front_empty}
use Rattle.program_soundness.specs.stmt_rules.specs.SimpleRules.{assigned_wanted, assignment_faults}
use Rattle.expr_code.specs.Emitting.{IsLegalExpression}
use Rattle.expr_code.specs.Providing.{HasWhatExpressionsNeed}
use Rattle.expr_code.specs.Refusing.{peak}
use Rattle.expr_code.specs.Widths.{AreWide, width_of}
use Rattle.expr_code.specs.declared.visible.Visible.{Visible}
use Rattle.part_code.specs.Moving.{moves}
use Rattle.part_code.specs.Needs.{Needs, address_needs, assigned_needs, assignment_needs, both, has_unfit, move_needs, moves_needs, needs_above, needs_by, nothing, words_at}
use Rattle.source_laws.specs.Depths.{IsSmallScope}
use Rattle.expr_code.proofs.PeakSlots.{IsPath, begins, name_path, value_path}
use Rattle.source_laws.proofs.Peaks.{conditional_parts, inside_legal, legal_of, listed, spelled_parts}
use Rattle.source_laws.proofs.NeedsBounds.{Fits, IsLow, both_low, low_more, value_bound}
use Rattle.source_laws.proofs.NeedsCalls.{address_low}
use Rattle.source_laws.proofs.NeedsMoves.{few_stored, target_part}
use Rattle.source_laws.proofs.NeedsShapes.{nothing_unfit}
use Rattle.source_laws.proofs.NeedsValues.{single_low, typed_low}

module _ (v : Visible) (small : IsSmallScope v.scope) (cover : HasWhatExpressionsNeed v) where
  abbrev s : Scope
  s = v.scope

  -- ---- what is moved

  -- no word of the frame, and so many of the operand stack at this level
  abbrev MoveFits : Needs → ℕ → Type 0
  MoveFits n depth = IsLow n (7 + 12 * depth) 0

  deeper : (n : Needs) (d e : ℕ) → MoveFits n d → d ≤ e → MoveFits n e
  deeper n d e h below = low_more n (7 + 12 * d) 0 (7 + 12 * e) 0 h (omega (arith, below)) (omega arith)

  nothing_moves : (d : ℕ) → MoveFits nothing d
  nothing_moves d = record { stack_low = omega arith; frame_low = omega arith; fit = refl }

  named_fits : (first : Identifier) (selectors : SelectorTrees) (l : Limit) (ts : Tokens) → made (Named first selectors) l ts
      → IsLegalExpression s (Named first selectors)
      → MoveFits (address_needs 1 v selectors) (selectors_depth selectors)
  named_fits first selectors l ts d h =
      let low = address_low v small 1 first.place (begins s small.sound small.formals first selectors) first selectors l d.1 d.4
      (value_path s small.sound small.formals first selectors h) in
      record { stack_low = omega (arith, low); frame_low = omega arith; fit = nothing_unfit v small }

  -- a condition stands above the address of the target
  condition_fits : (e : ExprTree) (l : Limit) (ts : Tokens) → expression l e ts → IsLegalExpression s e → width_of s e ≡ 1
      → MoveFits (needs_above 1 v e) (expr_depth e)
  condition_fits e l ts d h one =
      let low = single_low s small Expression e l ts d (omega arith) h one in
      record { stack_low = omega (arith, low); frame_low = omega arith; fit = nothing_unfit v small }

  parts_fit : (a b c d : Needs) (k m n o : ℕ) → MoveFits a k → MoveFits b m → MoveFits c n → MoveFits d o
      → MoveFits (both a (both b (both c d))) (suc (suc (max k (max m (max n o)))))
  parts_fit a b c d k m n o p q r u =
      let deep = suc (suc (max k (max m (max n o)))) in
      let words = 7 + 12 * deep in
      both_low a (both b (both c d)) words 0 (deeper a k deep p (omega arith))
      (both_low b (both c d) words 0 (deeper b m deep q (omega arith))
      (both_low c d words 0 (deeper c n deep r (omega arith)) (deeper d o deep u (omega arith))))

  branch_fits : (a b c : Needs) (k m n : ℕ) → MoveFits a k → MoveFits b m → MoveFits c n → MoveFits (both a (both b c)) (max k (max m n))
  branch_fits a b c k m n p q r =
      let deep = max k (max m n) in
      let words = 7 + 12 * deep in
      both_low a (both b c) words 0 (deeper a k deep p (omega arith)) (both_low b c words 0 (deeper b m deep q (omega arith)) (deeper c n deep r (omega arith)))

  mutual
    move_fits : (e : ExprTree) (l : Limit) (ts : Tokens) → made e l ts → IsLegalExpression s e → MoveFits (move_needs v e) (expr_depth e)
    move_fits (Named first selectors) l ts d h = named_fits first selectors l ts d h
    move_fits (Parenthesized place e) None ts d h =
        deeper (move_needs v e) (expr_depth e) (suc (expr_depth e)) (move_fits e None d.4.0 d.4.3.1 (inside_legal s small.sound place e h)) (omega arith)
    move_fits (Parenthesized place e) (Some zero) ts d h = absurd d
    move_fits (Parenthesized place e) (Some (suc n)) ts d h =
        deeper (move_needs v e) (expr_depth e) (suc (expr_depth e)) (move_fits e (Some n) d.4.0 d.4.3.1 (inside_legal s small.sound place e h)) (omega arith)
    move_fits (Conditional place condition value elsifs last) None ts d h =
        let parts = conditional_parts s small.sound place condition value elsifs last h in
        let spelled = spelled_parts condition value elsifs last None d.4.0 d.4.3 in
        parts_fit (needs_above 1 v condition) (move_needs v value) (moves_needs v elsifs) (move_needs v last) (expr_depth condition) (expr_depth value)
        (elsif_values_depth elsifs) (expr_depth last)
        (condition_fits condition None spelled.conditions spelled.condition_made parts.condition_legal parts.condition_one)
        (move_fits value None spelled.values spelled.value_made.1 parts.value_legal)
        (moves_fit parts.wanted (width_of s value) elsifs None spelled.branches spelled.branches_made parts.others parts.others_wide)
        (move_fits last None spelled.lasts spelled.last_made.1 parts.last_legal)
    move_fits (Conditional place condition value elsifs last) (Some zero) ts d h = absurd d
    move_fits (Conditional place condition value elsifs last) (Some (suc zero)) ts d h = absurd d.4.3
    move_fits (Conditional place condition value elsifs last) (Some (suc (suc n))) ts d h =
        let parts = conditional_parts s small.sound place condition value elsifs last h in
        let spelled = spelled_parts condition value elsifs last (Some n) d.4.0 d.4.3 in
        parts_fit (needs_above 1 v condition) (move_needs v value) (moves_needs v elsifs) (move_needs v last) (expr_depth condition) (expr_depth value)
        (elsif_values_depth elsifs) (expr_depth last)
        (condition_fits condition (Some n) spelled.conditions spelled.condition_made parts.condition_legal parts.condition_one)
        (move_fits value (Some n) spelled.values spelled.value_made.1 parts.value_legal)
        (moves_fit parts.wanted (width_of s value) elsifs (Some n) spelled.branches spelled.branches_made parts.others parts.others_wide)
        (move_fits last (Some n) spelled.lasts spelled.last_made.1 parts.last_legal)
    move_fits e l ts d h = nothing_moves (expr_depth e)

    moves_fit : (w : Wanted) (n : ℕ) (elsifs : ElsifValueTrees) (l : Limit) (ts : Tokens) → spells_elsif_values elsifs l ts → elsif_faults s w elsifs ≡ []
        → AreWide s n (listed elsifs) → MoveFits (moves_needs v elsifs) (elsif_values_depth elsifs)
    moves_fit w n NoElsifValues l ts d h wide = record { stack_low = omega arith; frame_low = omega arith; fit = refl }
    moves_fit w n (MoreElsifValues condition value rest) l ts d h wide =
        let c = faults_of s boolean_wanted condition in
        let f = faults_of s w value in
        let m = elsif_faults s w rest in
        let two = front_empty (c ++ f) m h in
        branch_fits (needs_above 1 v condition) (move_needs v value) (moves_needs v rest) (expr_depth condition) (expr_depth value) (elsif_values_depth rest)
        (condition_fits condition l d.3.4.0 d.3.4.3 (legal_of s small.sound boolean_wanted condition (front_empty c f two)) wide.0)
        (move_fits value l d.3.4.4.1 d.3.4.4.4.1 (legal_of s small.sound w value (back_empty c f two)))
        (moves_fit w n rest l d.1 d.4 (back_empty (c ++ f) m h) wide.2)

  -- ---- targets, and values on the operand stack

  target_path : (first : Identifier) (selectors : SelectorTrees) → target_faults s first selectors ≡ []
      → IsPath s small.sound small.formals first.place (begins s small.sound small.formals first selectors) selectors
  target_path first selectors h =
      let parts = name_faults s first selectors in
      let ends = variable_rule s first.place Anything (standing_of s first selectors) in
      name_path s small.sound small.formals first selectors (front_empty parts ends h)
      (λ is. let k = subst (λ w. variable_rule s first.place Anything w ≡ []) is (back_empty parts ends h) in absurd cc)

  assigned_low : (r : Role) (t : Subtype) (e : ExprTree) (l : Limit) (ts : Tokens) → expression l e ts → faults_of s (OfType t.type_number) e ≡ []
      → words_of s t ≤ 64
      → (assigned_needs v (standing.Part r t) e).stack ≤ 71 + 12 * expr_depth e
  assigned_low r t e l ts d h few =
      let low = value_bound (words_of s t) (peak s e) (expr_depth e) (typed_low s small t e l ts d h) few in omega (arith, low)

  module _ (target : NameTree) (e : ExprTree) (l : Limit) (ts us : Tokens) (named : spells_name l target ts)
      (spelled : expression l e us) (h : assignment_faults s target e ≡ []) where
    abbrev whole : ℕ
    whole = 80 + 12 * max (name_depth target) (expr_depth e)

    in_target : target_faults s target.first target.selectors ≡ []
    in_target = front_empty (target_faults s target.first target.selectors) (faults_of s (assigned_wanted s target) e) h

    in_value : faults_of s (assigned_wanted s target) e ≡ []
    in_value = back_empty (target_faults s target.first target.selectors) (faults_of s (assigned_wanted s target) e) h

    address : (address_needs 0 v target.selectors).stack ≤ whole
    address =
        let low = address_low v small 0 target.first.place
        (begins s small.sound small.formals target.first target.selectors) target.first target.selectors l named.1 named.4
        (target_path target.first target.selectors in_target) in
        let deep = le-max_left (name_depth target) (expr_depth e) in
        omega (arith, low, deep)

    value : words_at s (standing_of s target.first target.selectors) ≤ 64
        → (assigned_needs v (standing_of s target.first target.selectors) e).stack ≤ 71 + 12 * expr_depth e
    value few =
        let part = target_part v small.sound cover target e h in
        subst (λ w. (assigned_needs v w e).stack ≤ 71 + 12 * expr_depth e) (sym part.is)
        (assigned_low part.role part.subtype e l us spelled (subst (λ w. faults_of s (typed_wanted (own_of_standing w)) e ≡ []) part.is in_value)
        (subst (λ w. words_at s w ≤ 64) part.is few))

    by_moves : (b : Bool) → moves v target e ≡ b → (taken words : ℕ) → Fits (needs_by v target e b) taken words (max (name_depth target) (expr_depth e))
    by_moves false is taken words =
        let few = few_stored v small.sound cover target e h is in
        let low = value few in
        let deep = le-max_right (name_depth target) (expr_depth e) in
        record {
          stack_low = max-le address (omega (arith, low, deep));
          frame_low = omega arith;
          fit = or_from (has_unfit v) (has_unfit v) (nothing_unfit v small) (nothing_unfit v small);
        }
    by_moves true is taken words =
        let it = move_fits e l us spelled.1 (legal_of s small.sound _ e in_value) in
        let stack = it.stack_low in
        let frame = it.frame_low in
        let deep = le-max_right (name_depth target) (expr_depth e) in
        record {
          stack_low = max-le address (omega (arith, stack, deep));
          frame_low = max-le (omega arith) (omega (arith, frame));
          fit = or_from (has_unfit v) (move_needs v e).unfit (nothing_unfit v small) it.fit;
        }

    pub assignment_fits : (taken words : ℕ) → Fits (assignment_needs v target e) taken words (max (name_depth target) (expr_depth e))
    assignment_fits taken words = by_moves (moves v target e) refl taken words
