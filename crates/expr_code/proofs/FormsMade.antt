-- What methods add for each form is the code of that form.
use Rattle.std.proofs.Common.{◌≡◌, ◌<◌, ◌≤◌, ℕ, ℤ, ◌+◌, Bool, true, false, List, [], ◌∷◌, ◌++◌, length, drop, Option, None, Some, refl, sym, ap, ◌∙◌, subst}
use Rattle.std.specs.Prelude.{cond, get_or}
use Rattle.ada_tree.specs.declared.expression.BinaryOperator.{BinaryOperator}
use Rattle.ada_tree.specs.declared.expression.BinaryOperator.TheVariants as binary
use Rattle.ada_tree.specs.declared.expression.ElsifValue.{ElsifValue}
use Rattle.ada_tree.specs.declared.expression.Operand.{Operand}
use Rattle.ada_tree.specs.ExpressionTree as tree
use Rattle.ada_tree.specs.ExpressionTree.{ExprTree, chain_tree, elsif_value_trees, expr_tree}
use Rattle.image.specs.declared.instruction.Operation.{Operation}
use Rattle.image.specs.declared.instruction.Operation.TheVariants as op
use Rattle.types.specs.declared.entity.Subtype.{Subtype}
use Rattle.types.specs.Bounds.{bounds_of}
use Rattle.types.specs.Scopes.{form_at}
use Rattle.expr_soundness.specs.BoundsLaw.{is_inside}
use Rattle.expr_code.specs.Emitting.{has_numbers}
use Rattle.expr_code.specs.ExpressionCode.{branch_code, check_code, deciding, elsifs_code, expr_code, fork_code, operand_code, operands_code, range_check, sign_code, value_code, value_words, with_check}
use Rattle.expr_code.specs.OperatorCode.{binary_operation}
use Rattle.expr_code.specs.Pieces as pieces
use Rattle.expr_code.specs.Pieces.{Made, Opens, Piece, Waits, adds, end_of, narrow, one, ◌▸◌, over, patched, rejoined}
use Rattle.expr_code.specs.declared.visible.Visible.{Visible}
use Rattle.expr_code.proofs.Going.{drop_at}
use Rattle.expr_code.proofs.Pieces.{adds_nothing, adds_then, branch_waits, drop_end, leads, none_waits, one_same, then_made, three_added}

-- ---- signs

pub signed_made : (m n new : Made) (d h : ℕ) (t : Option Operation) (x : Operation) (a : Piece) → t ≡ Some x → h ≡ d + 1 → n ≡ adds m a
    → new ≡ adds n (one h x) → new ≡ adds m (sign_code d t a)
signed_made m n new d h t x a is high p q =
    then_made m n new a (one (d + 1) x) p (one_same n new h (d + 1) x x high refl q) ∙ ap (λ s. adds m (sign_code d s a)) (sym is)

-- ---- operators

pub both_made : (m n new : Made) (d second third : ℕ) (o : BinaryOperator) (t : Option Operation) (x : Operation) (above : ℕ → Piece) (instead : Piece)
    → t ≡ Some x → second ≡ d + 1 → third ≡ second + 1 → n ≡ adds m (above second) → new ≡ adds n (one third x)
    → new ≡ adds m (operand_code d o t (above (d + 1)) instead)
both_made m n new d second third o t x above instead is one_is two_is p q =
    then_made m n new (above (d + 1)) (one (d + 1 + 1) x) (p ∙ ap (λ k. adds m (above k)) one_is)
    (one_same n new third (d + 1 + 1) x x (two_is ∙ ap (λ k. k + 1) one_is) refl q)
    ∙ ap (λ s. adds m (operand_code d o s (above (d + 1)) instead)) (sym is)

pub short_made : (m copied jumped dropped done new : Made) (d first second place end : ℕ) (o : BinaryOperator) (t : Option Operation)
    (jump : ℕ → Operation) (above b : Piece) → t ≡ None → deciding o ≡ jump → first ≡ d + 1 → second ≡ first + 1 → place ≡ length copied.code
    → copied ≡ adds m (one first op.Duplicate) → jumped ≡ adds copied (one second (op.JumpIfZero 0)) → dropped ≡ adds jumped (one first op.Drop)
    → done ≡ adds dropped b → end ≡ narrow (end_of done) → new ≡ patched done place (jump end)
    → new ≡ adds m (operand_code d o t above b)
short_made m copied jumped dropped done new d first second place end o t jump above b is decides one_is two_is at p q r s end_is patch =
    let low : jumped ≡ adds copied (one (d + 1 + 1) (op.JumpIfZero 0)) =
    one_same copied jumped second (d + 1 + 1) _ _ (two_is ∙ ap (λ k. k + 1) one_is) refl q in
    let right : done ≡ adds jumped (one (d + 1) op.Drop ▸ b) =
    then_made jumped dropped done (one (d + 1) op.Drop) b (one_same jumped dropped first (d + 1) _ _ one_is refl r) s in
    let all : done ≡ adds (adds copied (one (d + 1 + 1) (op.JumpIfZero 0))) (one (d + 1) op.Drop ▸ b) =
    right ∙ ap (λ x. adds x (one (d + 1) op.Drop ▸ b)) low in
    let led : new ≡ adds copied (over 0 (d + 1 + 1) jump (one (d + 1) op.Drop ▸ b)) =
    patch ∙ ap (λ x. patched x place (jump end)) all
    ∙ leads copied (d + 1 + 1) (op.JumpIfZero 0) (one (d + 1) op.Drop ▸ b) place jump end at (end_is ∙ ap (λ x. narrow (end_of x)) all) in
    then_made m copied new (one (d + 1) op.Duplicate) (over 0 (d + 1 + 1) jump (one (d + 1) op.Drop ▸ b))
    (one_same m copied first (d + 1) _ _ one_is refl p) led
    ∙ ap (λ k. adds m (one (d + 1) op.Duplicate ▸ over 0 (d + 1 + 1) k (one (d + 1) op.Drop ▸ b))) (sym decides)
    ∙ ap (λ x. adds m (operand_code d o x above b)) (sym is)

pub not_or_else : (o : BinaryOperator) → binary_operation o ≡ None → (o ≡ binary.OrElse → ⊥) → deciding o ≡ op.JumpIfZero
not_or_else binary.AndThen is other = refl
not_or_else binary.OrElse is other = absurd (other refl)
not_or_else o is other = absurd cc

-- ---- if expressions

-- a condition, the test, a value, and the jump after it
abbrev pub jumped_behind : Made → ℕ → Made
jumped_behind valued height = adds valued (one height (op.Jump 0))

pub branch_added : (m tested jumped valued new : Made) (d k height test : ℕ) (before after : List ℕ) (c x : Piece) → tested ≡ adds m c
    → jumped ≡ adds tested (one (d + 1) (op.JumpIfZero 0)) → valued ≡ adds jumped x → after ≡ before ++ length valued.code ∷ [] → test ≡ length tested.code
    → height ≡ k → new ≡ patched (jumped_behind valued height) test (op.JumpIfZero (narrow (end_of (jumped_behind valued height))))
    → (start : Made) (front : Piece → Piece) → Waits start front m before → Waits start (λ last. front (fork_code d k c x last)) new after
branch_added m tested jumped valued new d k height test before after c x p q r after_is test_is high is start front waits =
    let all : valued ≡ adds (adds (adds m c) (one (d + 1) (op.JumpIfZero 0))) x =
    r ∙ ap (λ y. adds y x) (q ∙ ap (λ y. adds y (one (d + 1) (op.JumpIfZero 0))) p) in
    subst (λ l. Waits start (λ last. front (fork_code d k c x last)) new l) (sym after_is)
    (branch_waits start front m new before d k height test (length valued.code) (narrow (end_of (jumped_behind valued height))) c x waits high
    (test_is ∙ ap (λ y. length y.code) p) (ap (λ y. length y.code) all) (ap (λ y. narrow (end_of (jumped_behind y height))) all)
    (is ∙ ap (λ y. patched (jumped_behind y height) test (op.JumpIfZero (narrow (end_of (jumped_behind valued height))))) all))

module _ (v : Visible) (d : ℕ) where
  abbrev operand : Operand → Piece
  operand o = operand_code d o.operator (binary_operation o.operator) (expr_code v (d + 1) (expr_tree o.value)) (expr_code v d (expr_tree o.value))

  pub chain_made : (m : Made) (left : ExprTree) (all : List Operand) → adds (adds m (expr_code v d left)) (operands_code v d all) ≡ adds m (expr_code v d (chain_tree left all))
  chain_made m left [] = adds_nothing (adds m (expr_code v d left))
  chain_made m left (o ∷ rest) =
      sym (adds_then (adds m (expr_code v d left)) (operand o) (operands_code v d rest))
      ∙ ap (λ x. adds x (operands_code v d rest)) (adds_then m (expr_code v d left) (operand o))
      ∙ chain_made m (tree.Binary o.operator left (expr_tree o.value)) rest

  -- the first operand, the second one, and those behind it
  pub whole_chain : (m one two new : Made) (left : ExprTree) (o : Operand) (rest : List Operand) → one ≡ adds m (expr_code v d left) → two ≡ adds one (operand o)
      → new ≡ adds two (operands_code v d rest) → new ≡ adds m (expr_code v d (chain_tree (tree.Binary o.operator left (expr_tree o.value)) rest))
  whole_chain m one two new left o rest p q r =
      r ∙ ap (λ x. adds x (operands_code v d rest)) (then_made m one two (expr_code v d left) (operand o) p q)
      ∙ chain_made m (tree.Binary o.operator left (expr_tree o.value)) rest

  -- a chain leaves one word
  pub chain_words : (left : ExprTree) (all : List Operand) → value_words v left ≡ 1 → value_words v (chain_tree left all) ≡ 1
  chain_words left [] h = h
  chain_words left (o ∷ rest) h = chain_words (tree.Binary o.operator left (expr_tree o.value)) rest refl

  pub operands_step : (m new whole : Made) (all : List Operand) (n : ℕ) (x : Operand) → n < length all → x ≡ get_or all n x → new ≡ adds m (operand x)
      → adds m (operands_code v d (drop n all)) ≡ whole → adds new (operands_code v d (drop (n + 1) all)) ≡ whole
  operands_step m new whole all n x less is p rest =
      ap (λ y. adds y (operands_code v d (drop (n + 1) all))) p ∙ adds_then m (operand x) (operands_code v d (drop (n + 1) all))
      ∙ ap (λ l. adds m (operands_code v d l)) (sym (drop_at all n x less is)) ∙ rest

  pub operands_end : (m whole : Made) (all : List Operand) (n : ℕ) → length all ≤ n → adds m (operands_code v d (drop n all)) ≡ whole → m ≡ whole
  operands_end m whole all n le rest = sym (adds_nothing m) ∙ ap (λ l. adds m (operands_code v d l)) (sym (drop_end all n le)) ∙ rest

  module _ (w : ℕ) where
    abbrev parts : List ElsifValue → Piece → Piece
    parts all = elsifs_code v d w (elsif_value_trees all)

    pub opens_step : (m new final : Made) (before after places : List ℕ) (all : List ElsifValue) (n : ℕ) (x : ElsifValue) → n < length all → x ≡ get_or all n x
        → ((start : Made) (front : Piece → Piece) → Waits start front m before
        → Waits start (λ last. front (branch_code d w (expr_code v d (expr_tree x.condition)) (expr_code v d (expr_tree x.value)) last)) new after)
        → Opens new after (parts (drop (n + 1) all)) final places → Opens m before (parts (drop n all)) final places
    opens_step m new final before after places all n x less is branch rest start front waits =
        subst (λ l. Waits start (λ last. front (parts l last)) final places) (sym (drop_at all n x less is))
        (rest start (λ last. front (branch_code d w (expr_code v d (expr_tree x.condition)) (expr_code v d (expr_tree x.value)) last)) (branch start front waits))

    pub opens_end : (m : Made) (places : List ℕ) (all : List ElsifValue) (n : ℕ) → length all ≤ n → Opens m places (parts (drop n all)) m places
    opens_end m places all n le start front waits = subst (λ l. Waits start (λ last. front (parts l last)) m places) (sym (drop_end all n le)) waits

  -- the whole, as its method adds it
  pub conditional_made : (place : ℕ) (e condition value last : ExprTree) (all : List ElsifValue) → e ≡ tree.Conditional place condition value (elsif_value_trees all) last
      → (m tested jumped valued first branched ended new : Made) (width height test : ℕ) (none before places : List ℕ) → width ≡ value_words v value → none ≡ []
      → tested ≡ adds m (expr_code v d condition) → jumped ≡ adds tested (one (d + 1) (op.JumpIfZero 0)) → valued ≡ adds jumped (expr_code v d value)
      → before ≡ none ++ length valued.code ∷ [] → test ≡ length tested.code → height ≡ d + width
      → first ≡ patched (jumped_behind valued height) test (op.JumpIfZero (narrow (end_of (jumped_behind valued height))))
      → Opens first before (elsifs_code v d width (elsif_value_trees all)) branched places
      → ended ≡ adds branched (expr_code v d last) → new ≡ rejoined ended places (narrow (end_of ended)) → new ≡ adds m (expr_code v d e)
  conditional_made place e condition value last all is m tested jumped valued first branched ended new width height test none before places wide empty p q r waits
      at high closed opens ends led =
      let w = value_words v value in
      let branch = branch_added m tested jumped valued first d (d + w) height test [] before (expr_code v d condition) (expr_code v d value) p q r
      (waits ∙ ap (λ l. l ++ length valued.code ∷ []) empty) at (high ∙ ap (λ n. d + n) wide) closed m (λ rest. rest) (none_waits m) in
      let others = subst (λ n. Opens first before (elsifs_code v d n (elsif_value_trees all)) branched places) wide opens in
      led ∙ ap (λ x. rejoined x places (narrow (end_of ended))) ends
      ∙ (others m (λ rest. branch_code d w (expr_code v d condition) (expr_code v d value) rest) branch).closes (expr_code v d last) (narrow (end_of ended))
      (ap (λ x. narrow (end_of x)) ends)
      ∙ ap (λ t. adds m (expr_code v d t)) (sym is)

-- ---- checks

-- after a value, a check, or none
pub checked_behind : (v : Visible) (d : ℕ) (m : Made) (e : ExprTree) (t : Subtype) (value : Piece) → has_numbers (form_at v.scope t.type_number) ≡ true
    → adds (adds m value) (check_code (is_inside (bounds_of v.scope e) t) (d + 1) t) ≡ adds m (value_code v d (Some t) e value)
checked_behind v d m e t value numbers =
    by_bounds (is_inside (bounds_of v.scope e) t)
    ∙ ap (λ b. adds m (cond b (with_check (is_inside (bounds_of v.scope e) t) (d + 1) t value) value)) (sym numbers)
  where
    by_bounds : (inside : Bool) → adds (adds m value) (check_code inside (d + 1) t) ≡ adds m (with_check inside (d + 1) t value)
    by_bounds true = adds_nothing (adds m value)
    by_bounds false = adds_then m value (range_check (d + 1) t)

pub range_made : (m low high new : Made) (d one two : ℕ) (x y : ℤ) (t : Subtype) → one ≡ d + 1 → two ≡ one + 1 → x ≡ t.first → y ≡ t.last
    → low ≡ adds m (pieces.one d (op.Push x)) → high ≡ adds low (pieces.one one (op.Push y)) → new ≡ adds high (pieces.one two op.CheckRange)
    → new ≡ adds m (range_check d t)
range_made m low high new d one two x y t p q f l i j k =
    three_added m low high new d one two _ _ _ p q (i ∙ ap (λ z. adds m (pieces.one d (op.Push z))) f) (j ∙ ap (λ z. adds low (pieces.one one (op.Push z))) l) k
