-- How much the code of the declaration of an object is (RM 3.3.1).
use Rattle.std.proofs.Common.{◌≡◌, ◌≤◌, ℕ, ℤ, zero, suc, ◌+◌, ◌*◌, List, [], ◌∷◌, length, pos, Bool, true, false, cond, Option, None, Some, refl, ap, ◌∙◌, subst, arith, rules}
use Rattle.std.specs.Prelude.{◌&&◌, nat_eq, nat_le, not}
use Rattle.base.specs.declared.limits.TheConstants.{FRAME_WORDS, WORDS}
use Rattle.ada_tree.specs.ExpressionTree.{ExprTree}
use Rattle.ada_tree.specs.Size.{declaration_size, expr_size, size_if_any}
use Rattle.ada_tree.specs.StatementTree.{LocalObject, ObjectTree}
use Rattle.image.specs.Rules.{is_block}
use Rattle.image.specs.declared.instruction.Operation.TheVariants as op
use Rattle.image.specs.declared.instruction.Region.TheVariants as regions
use Rattle.types.specs.declared.entity.Subtype.{Subtype}
use Rattle.types.specs.Layouts.{capped, words_of}
use Rattle.types.specs.Scopes.{form_at}
use Rattle.types.specs.Shapes.{initial, shape_of, value_words}
use Rattle.type_rules.specs.ObjectRules.{local_object_faults}
use Rattle.type_rules.specs.SubtypeNames.{subtype_of}
use Rattle.expr_soundness.specs.SoundScopes.{IsKnown}
use Rattle.expr_soundness.proofs.Widening.{subtype_known}
use Rattle.expr_code.specs.Emitting.{IsFit, is_composite}
use Rattle.expr_code.specs.ExpressionCode.{checked_code, expr_code}
use Rattle.expr_code.specs.Pieces.{Piece, narrow, nothing, one, ◌▸◌}
use Rattle.expr_code.specs.Refusing.{HasUnfitObject, checked_peak, is_fit, peak}
use Rattle.expr_code.specs.declared.visible.Visible.{Visible}
use Rattle.expr_code.proofs.FitShapes.{no_block}
use Rattle.part_code.specs.Bounds.{words_if_any}
use Rattle.std.proofs.lemmas.Bool.{or_left, or_right}
use Rattle.part_code.specs.Emitting.{FitsIfAny, first_word}
use Rattle.part_code.specs.Needs as needs
use Rattle.part_code.specs.Needs.{Needs, both, framed, has_unfit, in_needs, initial_needs, object_needs}
use Rattle.part_code.specs.ObjectCode.{block_code, first_value, first_words, object_code, word_pushed, words_pushed}
use Rattle.part_code.specs.PartCode.{fitting_code, words_in}
use Rattle.part_code.proofs.CoveredObjects.{known_taken}
use Rattle.part_code.proofs.FittingWorks.{checked_works, fitting_works}
use Rattle.part_code.proofs.FullWords.{some_words}
use Rattle.part_code.proofs.PieceNeeds.{Laws}
use Rattle.part_code.proofs.Within.{in_left, in_right, unfit_there, within_self}
use Rattle.types.specs.Laws.{InitialValuesHaveShape}
use Rattle.stmt_code.specs.Drafting.{coded, takes, ◌▹◌}
use Rattle.stmt_code.specs.StatementCode.{Site, local_object}
use Rattle.stmt_code.proofs.AssignmentFills.{block_or}
use Rattle.stmt_code.proofs.Declared.{initial_fit}
use Rattle.stmt_code.proofs.FirstWords.{words_first}
use Rattle.stmt_code.proofs.PartsFill.{Fills, fills_both, fills_more, fills_none, fills_takes}
use Rattle.stmt_code.proofs.SimpleFills.{Spans, fills_spans, spans_fits, spans_load, spans_more, spans_none, spans_one, spans_then}
use Rattle.stmt_code.proofs.CoveredScopes.{IsFull}

-- words that are put on the operand stack one by one
pub words_spans : (U : Type 0) (h d : ℕ) (ws : List ℤ) → d + length ws ≤ h → Spans U (length ws) h (words_pushed d ws)
words_spans U h d [] up = spans_none U h
words_spans U h d (w ∷ ws) up =
    let a = one d (op.Push w) ▸ words_pushed (d + 1) ws in
    spans_more U U (1 + length ws) (suc (length ws)) h h a (λ u. u) (omega arith) (omega arith)
    (spans_then U h 1 (length ws) (one d (op.Push w)) (words_pushed (d + 1) ws) (spans_one U h d (op.Push w) (omega (arith, up)) refl)
    (words_spans U h (d + 1) ws (omega (arith, up))))

pub le_of : (m k : ℕ) → nat_le m k ≡ true → m ≤ k
le_of m k e = search rules

pub some_block : (n : ℕ) → nat_eq n 0 ≡ false → n ≤ WORDS → is_block n ≡ true
some_block zero some up = cc
some_block (suc n) some up = both (nat_le 1 (suc n)) (nat_le (suc n) WORDS) (le_true 1 (suc n) (omega arith)) (le_true (suc n) WORDS up)
  where
    le_true : (m k : ℕ) → m ≤ k → nat_le m k ≡ true
    le_true m k h = search rules

    both : (a b : Bool) → a ≡ true → b ≡ true → (a && b) ≡ true
    both a b p q = ap (λ x. x && b) p ∙ q

some_capped : (n : ℕ) → nat_eq n 0 ≡ false → nat_eq (capped n) 0 ≡ false
some_capped zero some = cc
some_capped (suc n) some = not_zero (capped (suc n)) (omega arith)
  where
    not_zero : (k : ℕ) → 1 ≤ k → nat_eq k 0 ≡ false
    not_zero k h = search rules

module _ (laws : Laws) (shaped : InitialValuesHaveShape) (c : Site) (d : ObjectTree) (full : IsFull c) (legal : local_object_faults c.visible.scope d ≡ [])
    (t : Subtype) (named : subtype_of c.visible.scope d.subtype ≡ Some t) where
  abbrev v : Visible
  v = c.visible

  abbrev size : ℕ
  size = words_in v.scope t

  abbrev offset : ℕ
  offset = narrow c.taken

  t_known : IsKnown v.scope t
  t_known = subtype_known v.scope d.subtype t full.sound named

  some : nat_eq size 0 ≡ false
  some = some_capped (words_of v.scope t) (some_words v.scope full.has.full t t_known)

  -- ---- without a value

  first_spans : Spans (false ≡ true) 1 (suc (words_of v.scope t)) (word_pushed (first_word (form_at v.scope t.type_number) t))
  first_spans = by_word (first_word (form_at v.scope t.type_number) t)
    where
      by_word : (o : Option ℤ) → Spans (false ≡ true) 1 (suc (words_of v.scope t)) (word_pushed o)
      by_word None = spans_more (false ≡ true) (false ≡ true) 0 1 (suc (words_of v.scope t)) (suc (words_of v.scope t)) nothing (λ u. u) (omega arith) (omega arith)
          (spans_none (false ≡ true) (suc (words_of v.scope t)))
      by_word (Some w) = spans_one (false ≡ true) (suc (words_of v.scope t)) 0 (op.Push w) (omega arith) refl

  abbrev ones : List ℤ
  ones = first_words (suc t.type_number) v.scope t

  initial_long : length (value_words (initial v.scope t)) ≡ words_of v.scope t
  initial_long = (laws.words (shape_of v.scope t) (initial v.scope t) (shaped (shape_of v.scope t))).sized

  ones_long : length ones ≡ words_of v.scope t
  ones_long = ap length (words_first v.scope full.sound (suc t.type_number) t (omega arith) t_known) ∙ initial_long

  abbrev none_room : ℕ
  none_room = 20 * 1 + 2 * words_of v.scope t

  block_none : Spans (false ≡ true) none_room (suc (words_of v.scope t)) (block_code v offset t None)
  block_none = by_room (nat_le (1 + size) FRAME_WORDS) refl
    where
      whole : Piece
      whole = one 0 (op.Push (pos offset)) ▸ words_pushed 1 ones ▸ one (1 + size) (op.StoreBlock regions.Locals size)

      h : ℕ
      h = suc (words_of v.scope t)

      by_room : (b : Bool) → nat_le (1 + size) FRAME_WORDS ≡ b
          → Spans (false ≡ true) (20 * 1 + 2 * words_of v.scope t) (suc (words_of v.scope t)) (cond b (one 0 (op.Push (pos offset)) ▸ words_pushed 1 ones ▸ one (1 + size) (op.StoreBlock regions.Locals size)) (one (1 + size) op.Return))
      by_room true is =
          let few = le_of (1 + size) FRAME_WORDS is in
          let long = ones_long in
          let U : Type 0 = false ≡ true in
          let top = suc (words_of v.scope t) in
          let store = one (1 + size) (op.StoreBlock regions.Locals size) in
          spans_more U U (1 + (length ones + 1)) (20 * 1 + 2 * words_of v.scope t) top top (one 0 (op.Push (pos offset)) ▸ words_pushed 1 ones ▸ store) (λ u. u)
          (omega (arith, long)) (omega arith)
          (spans_then U top 1 (length ones + 1) (one 0 (op.Push (pos offset))) (words_pushed 1 ones ▸ store) (spans_one U top 0 (op.Push (pos offset)) (omega arith) refl)
          (spans_then U top (length ones) 1 (words_pushed 1 ones) store (words_spans U top 1 ones (omega (arith, long)))
          (spans_one U top (1 + size) (op.StoreBlock regions.Locals size) (omega arith) (some_block size some (omega (arith, few))))))
      by_room false is =
          let U : Type 0 = false ≡ true in
          let top = suc (words_of v.scope t) in
          spans_more U U 1 (20 * 1 + 2 * words_of v.scope t) top top (one (1 + size) op.Return) (λ u. u) (omega arith) (omega arith)
          (spans_one U top (1 + size) op.Return (omega arith) refl)

  none_spans : Spans (false ≡ true) none_room (suc (words_of v.scope t)) (object_code v offset t None)
  none_spans = by_form (is_composite (form_at v.scope t.type_number))
    where
      by_form : (b : Bool) → Spans (false ≡ true) (20 * 1 + 2 * words_of v.scope t) (suc (words_of v.scope t))
          (cond b (block_code v offset t None) (first_value v t None ▸ one 1 (op.StoreLocal offset)))
      by_form true = block_none
      by_form false =
          let U : Type 0 = false ≡ true in
          let top = suc (words_of v.scope t) in
          spans_more U U (1 + 1) (20 * 1 + 2 * words_of v.scope t) top top (first_value v t None ▸ one 1 (op.StoreLocal offset)) (λ u. u) (omega arith) (omega arith)
          (spans_then U top 1 1 (first_value v t None) (one 1 (op.StoreLocal offset)) first_spans (spans_one U top 1 (op.StoreLocal offset) (omega arith) refl))

  -- ---- with a value

  module _ (e : ExprTree) (fit : IsFit v.scope t e) where
    abbrev n : Needs
    n = initial_needs v t (Some e)

    abbrev W : Type 0
    W = n.unfit ≡ true

    abbrev room : ℕ
    room = 20 * (1 + expr_size e) + 2 * words_of v.scope t

    misses : is_block size ≡ false → W
    misses k = or_right (has_unfit v) (not (is_fit (shape_of v.scope t))) (ap not (no_block v.scope t size refl k))

    block_some : Spans W room n.stack (block_code v offset t (Some e))
    block_some =
        let x = fitting_works laws v full.sound full.has.expressions 1 t e fit (known_taken v.scope t t_known) in
        let few = x.few in
        let m = in_needs 1 v t e in
        let value = fitting_code v 1 t e in
        let store = one (1 + size) (op.StoreBlock regions.Locals size) in
        spans_more W W (1 + (x.long + 1)) room n.stack n.stack (one 0 (op.Push (pos offset)) ▸ value ▸ store) (λ u. u) (omega (arith, few)) (omega arith)
        (spans_then W n.stack 1 (x.long + 1) (one 0 (op.Push (pos offset))) (value ▸ store) (spans_one W n.stack 0 (op.Push (pos offset)) (omega arith) refl)
        (spans_then W n.stack x.long 1 value store
        (spans_more (m.unfit ≡ true) W x.long x.long m.stack n.stack value (λ u. u) (omega arith) (omega arith)
        (spans_fits (m.unfit ≡ true) x.long m.stack 1 (1 + size) value x.keeps))
        (spans_load W n.stack (1 + size) (op.StoreBlock regions.Locals size) (omega arith) (block_or W size misses))))

    single_some : Spans W room n.stack (first_value v t (Some e) ▸ one 1 (op.StoreLocal offset))
    single_some =
        let x = checked_works laws v full.sound full.has.expressions 0 t e fit (known_taken v.scope t t_known) in
        let few = x.few in
        let high = 0 + checked_peak (peak v.scope e) in
        let value = checked_code v 0 t e (expr_code v 0 e) in
        spans_more W W (x.long + 1) room n.stack n.stack (value ▸ one 1 (op.StoreLocal offset)) (λ u. u) (omega (arith, few)) (omega arith)
        (spans_then W n.stack x.long 1 value (one 1 (op.StoreLocal offset))
        (spans_more (HasUnfitObject v) W x.long x.long high n.stack value
        (λ u. or_left (has_unfit v) (not (is_fit (shape_of v.scope t))) (unfit_there v u)) (omega arith) (omega arith)
        (spans_fits (HasUnfitObject v) x.long high 0 (0 + words_of v.scope t) value x.fits))
        (spans_one W n.stack 1 (op.StoreLocal offset) (omega arith) refl))

    some_spans : Spans W room n.stack (object_code v offset t (Some e))
    some_spans = by_form (is_composite (form_at v.scope t.type_number))
      where
        by_form : (b : Bool) → Spans W room n.stack (cond b (block_code v offset t (Some e)) (first_value v t (Some e) ▸ one 1 (op.StoreLocal offset)))
        by_form true = block_some
        by_form false = single_some

  value_fills : (o : Option ExprTree) → d.value ≡ o
      → Fills (initial_needs v t o) (20 * (1 + size_if_any expr_size o) + 2 * words_of v.scope t) (λ l. l) (λ k. k) (coded (object_code v offset t o))
  value_fills None is = fills_spans (initial_needs v t None) none_room (object_code v offset t None) none_spans
  value_fills (Some e) is =
      fills_spans (initial_needs v t (Some e)) (20 * (1 + expr_size e) + 2 * words_of v.scope t) (object_code v offset t (Some e))
      (some_spans e (fit_of (initial_fit v.scope d t named legal)))
    where
      fit_of : FitsIfAny v.scope t d.value → IsFit v.scope t e
      fit_of f = subst (FitsIfAny v.scope t) is f

-- ---- the declaration

pub object_fills : (laws : Laws) → InitialValuesHaveShape → (c : Site) (taken : ℕ) (d : ObjectTree) → c.taken ≤ taken → IsFull c
    → local_object_faults c.visible.scope d ≡ []
    → Fills (object_needs c.visible taken (subtype_of c.visible.scope d.subtype) d.value)
    (20 * declaration_size (LocalObject d) + 2 * words_if_any c.visible.scope (subtype_of c.visible.scope d.subtype)) (λ l. l) (λ k. k)
    (local_object c.visible c.taken (subtype_of c.visible.scope d.subtype) d.value)
object_fills laws shaped c taken d low full legal = by_subtype (subtype_of c.visible.scope d.subtype) refl
  where
    by_subtype : (o : Option Subtype) → subtype_of c.visible.scope d.subtype ≡ o
        → Fills (object_needs c.visible taken o d.value) (20 * declaration_size (LocalObject d) + 2 * words_if_any c.visible.scope o) (λ l. l) (λ k. k)
        (local_object c.visible c.taken o d.value)
    by_subtype None is =
        fills_more needs.nothing needs.nothing 0 (20 * declaration_size (LocalObject d) + 2 * 0) (λ l. l) (λ k. k) (coded nothing) (within_self needs.nothing)
        (omega arith) (fills_none needs.nothing)
    by_subtype (Some t) is =
        let words = words_of c.visible.scope t in
        let F = framed (taken + words) in
        let I = initial_needs c.visible t d.value in
        let x = 20 * declaration_size (LocalObject d) + 2 * words in
        let code = coded (object_code c.visible (narrow c.taken) t d.value) in
        let takes_words = takes (c.taken + words_in c.visible.scope t) in
        fills_more (both F I) (both F I) (0 + x) x (λ l. l) (λ k. k) (takes_words ▹ code) (within_self (both F I)) (omega arith)
        (fills_both (both F I) 0 x (λ l. l) (λ l. l) (λ k. k) (λ k. k) takes_words code
        (fills_takes (both F I) (c.taken + words_in c.visible.scope t) (let up = (in_left F I).frame in omega (arith, low, up)))
        (fills_more I (both F I) x x (λ l. l) (λ k. k) code (in_right F I) (omega arith) (value_fills laws shaped c d full legal t is d.value refl)))
