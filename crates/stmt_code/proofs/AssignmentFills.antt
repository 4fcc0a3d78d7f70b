-- How much the code of an assignment is (RM 5.2).
use Rattle.std.proofs.Common.{◌≡◌, ◌≤◌, ℕ, suc, ◌+◌, ◌*◌, max, Bool, true, false, cond, ◌&&◌, Option, None, Some, inl, inr, refl, sym, ap, subst, arith}
use Rattle.std.specs.Prelude.{◌⊎◌, if◌then◌else◌, is_some, nat_eq, not}
use Rattle.ada_tree.specs.declared.expression.Identifier.{Identifier}
use Rattle.ada_tree.specs.ExpressionTree as tree
use Rattle.ada_tree.specs.ExpressionTree.{ElsifValueTrees, ExprTree, MoreElsifValues, MoreSelectors, NameTree, Named, NoElsifValues, NoSelectors, SelectorTrees}
use Rattle.ada_tree.specs.Size.{elsif_values_size, expr_size, selectors_size, stmt_size}
use Rattle.ada_tree.specs.StatementTree.{Assignment}
use Rattle.image.specs.Rules.{has_operands, is_block}
use Rattle.image.specs.declared.instruction.Operation.TheVariants as op
use Rattle.image.specs.declared.instruction.Region.{Region}
use Rattle.image.specs.declared.instruction.Region.TheVariants as regions
use Rattle.types.specs.declared.entity.Subtype.{Subtype}
use Rattle.types.specs.declared.standing.Standing.TheVariants as standing
use Rattle.types.specs.Entities.{Object}
use Rattle.types.specs.Evaluating.{fixed_value}
use Rattle.types.specs.Layouts.{words_of}
use Rattle.types.specs.Scopes.{number_of}
use Rattle.types.specs.Shapes.{shape_of}
use Rattle.types.specs.Standings.{standing_of, stands_first}
use Rattle.expr_soundness.specs.SoundScopes.{IsKnown, SoundScope}
use Rattle.expr_soundness.proofs.Goods.{object_known}
use Rattle.expr_code.specs.Branches.{AreLegalBranches}
use Rattle.expr_code.specs.Emitting.{IsFit, IsLegalExpression}
use Rattle.expr_code.specs.ExpressionCode.{expr_code, path_code, path_part, whole_of}
use Rattle.expr_code.specs.Pieces.{Piece, one, over, ◌▸◌}
use Rattle.expr_code.specs.Providing.{HasWhatExpressionsNeed}
use Rattle.expr_code.specs.Refusing.{HasUnfitObject, IsUnfit, checked_peak, is_fit, peak, selectors_peak}
use Rattle.expr_code.specs.Seeing.{slot_of}
use Rattle.expr_code.specs.declared.part.PartAt.{PartAt}
use Rattle.expr_code.specs.declared.visible.Slot.{Slot}
use Rattle.expr_code.specs.declared.visible.Visible.{Visible}
use Rattle.expr_code.proofs.Checking.{fit_legal}
use Rattle.expr_code.proofs.Emissions.{address_fits}
use Rattle.expr_code.proofs.ExpressionWorks.{branches_of, branches_same}
use Rattle.expr_code.proofs.FitShapes.{no_block}
use Rattle.expr_code.proofs.Going.{whole_path}
use Rattle.expr_code.proofs.Legal.{legal_parts}
use Rattle.expr_code.proofs.NamesWork.{address_works}
use Rattle.expr_code.proofs.PartWorks.{PathWorks}
use Rattle.expr_code.proofs.Refusals.{peak_some, selectors_some}
use Rattle.part_code.specs.Emitting.{store_operation, stored_at, stored_in}
use Rattle.part_code.specs.Moving.{are_moved, is_moved, moves, source_at}
use Rattle.part_code.specs.Needs.{Needs, address_needs, assigned_needs, assignment_needs, both, has_unfit, in_needs, move_needs, moved_needs, moves_needs, needs_above, needs_by, words_at}
use Rattle.part_code.specs.PartCode.{address_at, fitting_code, move_code, moved_from, moves_code, object_at, object_named, words_in}
use Rattle.part_code.specs.Statements.{Ways}
use Rattle.part_code.specs.declared.moving.Moved.{Moved}
use Rattle.part_code.specs.declared.moving.Source.{Source}
use Rattle.part_code.proofs.AssignmentsRefused.{unfit_whole}
use Rattle.part_code.proofs.CopiesWork.{stored_fit}
use Rattle.part_code.proofs.CoveredObjects.{IsObjectAt, known_taken, slot_held}
use Rattle.part_code.proofs.FittingWorks.{fitting_works}
use Rattle.part_code.proofs.MovesRefused.{source_is}
use Rattle.part_code.proofs.ObjectNames.{names_object}
use Rattle.part_code.proofs.PieceNeeds.{Laws}
use Rattle.part_code.proofs.Within.{Within, in_left, in_right, of_right, within_then}
use Rattle.stmt_code.specs.Drafting.{coded}
use Rattle.stmt_code.specs.Emitting.{IsAcceptedStatement, IsLegalStatement}
use Rattle.stmt_code.specs.SimpleCode.{assigned_code, assignment_code, moved_code, stored_code, target_code, word_code}
use Rattle.stmt_code.specs.StatementCode.{Site}
use Rattle.stmt_code.proofs.AssignedNames.{assigned_first, assigned_known, assigned_object, assigned_path, in_name}
use Rattle.stmt_code.proofs.PartsFill.{Fills}
use Rattle.stmt_code.proofs.SimpleFills.{Spans, expr_spans, fills_spans, not_true, or_first, spans_fits, spans_load, spans_more, spans_one, spans_over, spans_then}
use Rattle.stmt_code.proofs.CoveredScopes.{IsFull}
use Rattle.stmt_code.proofs.Stored.{assigned_fit, whole_stands}
use Rattle.stmt_code.proofs.StoredParts.{part_stands}

both_true : (a b : Bool) → (a && b) ≡ true → (a ≡ true) × (b ≡ true)
both_true true b h = (refl, h)
both_true false b h = cc

pub block_or : (U : Type 0) (n : ℕ) → (is_block n ≡ false → U) → (is_block n ≡ true) ⊎ U
block_or U n f = by_test (is_block n) refl
  where
    by_test : (b : Bool) → is_block n ≡ b → (is_block n ≡ true) ⊎ U
    by_test true e = inl e
    by_test false e = inr (f e)

-- ---- what moves an array or a record, of words that one instruction may move, or something that is visible is unfit

module _ (laws : Laws) (v : Visible) (sound : SoundScope v.scope) (covered : HasWhatExpressionsNeed v) (to : Moved)
    (unfit : is_block to.words ≡ false → has_unfit v ≡ true) where
  abbrev U : Type 0
  U = has_unfit v ≡ true

  named_spans : (first : Identifier) (all : SelectorTrees) → IsLegalExpression v.scope (Named first all) → (x : Source)
      → source_at v (record { first = first; selectors = all }) ≡ Some x
      → Spans U (20 * expr_size (Named first all)) (1 + selectors_peak v.scope 1 all) (moved_from v to (Some x) all)
  named_spans first all legal x found =
      let name : NameTree = record { first = first; selectors = all } in
      let from = source_is v name x found in
      let path = whole_path v.scope sound first all from.role x.whole legal from.stands (ap fixed_value from.names) in
      let q = address_works laws.quiet laws.typed laws.spared laws.lie laws.words laws.places v sound covered 1 x.whole all path in
      let last = path_part v.scope (whole_of x.whole) all in
      let goes = path_code v (1 + 1) (whole_of x.whole) all in
      let address = address_at v 1 x.slot x.whole all in
      let copy = op.Copy to.region x.slot.region to.words in
      let W : Type 0 = HasUnfitObject v ⊎ IsUnfit v.scope x.whole in
      let h = 1 + selectors_peak v.scope 1 all in
      let some = selectors_some v.scope 1 all in
      spans_more U U ((20 * selectors_size all + 1) + 1) (20 * expr_size (Named first all)) h h (address ▸ one 2 copy) (λ u. u) (omega arith) (omega arith)
      (spans_then U h (20 * selectors_size all + 1) 1 address (one 2 copy)
      (spans_more W U (20 * selectors_size all + 1) (20 * selectors_size all + 1) h h address
      (unfit_whole v 1 first all x.slot from.role x.whole from.stands from.there) (omega arith) (omega arith)
      (spans_fits W (20 * selectors_size all + 1) h 1 2 address (address_fits W v 1 x.slot.offset x.whole all last goes q)))
      (spans_load U h 2 copy (omega (arith, some)) (block_or U to.words unfit)))

  -- either part, or the other one in its place
  fork_spans : (n : Needs) (condition : ExprTree) (x y : ℕ) (a r : Piece) → IsLegalExpression v.scope condition → Within (needs_above 1 v condition) n
      → Spans (n.unfit ≡ true) x n.stack a → Spans (n.unfit ≡ true) y n.stack r
      → Spans (n.unfit ≡ true) (20 * expr_size condition + (suc x + suc y)) n.stack (expr_code v 1 condition ▸ over 1 2 op.JumpIfZero a ▸ over 0 0 op.Jump r)
  fork_spans n condition x y a r legal within p q =
      let W : Type 0 = n.unfit ≡ true in
      let some = peak_some v.scope condition in
      let up = within.stack in
      spans_then W n.stack (20 * expr_size condition) (suc x + suc y) (expr_code v 1 condition) (over 1 2 op.JumpIfZero a ▸ over 0 0 op.Jump r)
      (spans_more U W (20 * expr_size condition) (20 * expr_size condition) (1 + peak v.scope condition) n.stack (expr_code v 1 condition) within.unfit (omega arith)
      up (expr_spans laws v sound covered 1 condition legal))
      (spans_then W n.stack (suc x) (suc y) (over 1 2 op.JumpIfZero a) (over 0 0 op.Jump r)
      (spans_over W n.stack x 1 2 op.JumpIfZero a (omega (arith, some, up)) (λ t. refl) p) (spans_over W n.stack y 0 0 op.Jump r (omega arith) (λ t. refl) q))

  mutual
    pub move_spans : (e : ExprTree) → IsLegalExpression v.scope e → is_moved v e ≡ true
        → Spans ((move_needs v e).unfit ≡ true) (20 * expr_size e) (move_needs v e).stack (move_code v to e)
    move_spans (tree.Named first all) legal h = by_source (source_at v (record { first = first; selectors = all })) refl h
      where
        by_source : (o : Option Source) → source_at v (record { first = first; selectors = all }) ≡ o → is_some o ≡ true
            → Spans (has_unfit v ≡ true) (20 * expr_size (Named first all)) (1 + selectors_peak v.scope 1 all) (moved_from v to o all)
        by_source (Some x) is h = named_spans first all legal x is
        by_source None is h = absurd cc
    move_spans (tree.Parenthesized position e) legal h =
        let n = move_needs v e in
        spans_more (n.unfit ≡ true) (n.unfit ≡ true) (20 * expr_size e) (20 * (1 + expr_size e)) n.stack n.stack (move_code v to e) (λ u. u) (omega arith) (omega arith)
        (move_spans e (record { wanted = legal.wanted; unbroken = legal.unbroken }) h)
    move_spans (tree.Conditional position condition value elsifs last) legal h =
        let s = v.scope in
        let unbroken = subst (λ t. IsLegalExpression s (tree.Conditional position condition value t last)) (sym (branches_same elsifs)) legal in
        let parts = legal_parts s position condition value (branches_of elsifs) last unbroken in
        let first = both_true (is_moved v value) (are_moved v elsifs && is_moved v last) h in
        let rest = both_true (are_moved v elsifs) (is_moved v last) first.1 in
        let A = needs_above 1 v condition in
        let B = move_needs v value in
        let C = moves_needs v elsifs in
        let D = move_needs v last in
        let n = both A (both B (both C D)) in
        let W : Type 0 = n.unfit ≡ true in
        let in_b : Within B n = of_right B A (both B (both C D)) (in_left B (both C D)) in
        let in_c : Within C n = of_right C A (both B (both C D)) (of_right C B (both C D) (in_left C D)) in
        let in_d : Within D n = of_right D A (both B (both C D)) (of_right D B (both C D) (in_right C D)) in
        let x = 20 * expr_size value in
        let z = 20 * expr_size last in
        let y = 20 * elsif_values_size elsifs + z in
        spans_more W W (20 * expr_size condition + (suc x + suc y)) (20 * expr_size (tree.Conditional position condition value elsifs last)) n.stack n.stack
        (move_code v to (tree.Conditional position condition value elsifs last)) (λ u. u) (omega arith) (omega arith)
        (fork_spans n condition x y (move_code v to value) (moves_code v to elsifs (move_code v to last)) parts.condition (in_left A (both B (both C D)))
        (spans_more (B.unfit ≡ true) W x x B.stack n.stack (move_code v to value) in_b.unfit (omega arith) in_b.stack (move_spans value parts.value first.0))
        (elsifs_spans n elsifs in_c z (move_code v to last) parts.elsifs rest.0
        (spans_more (D.unfit ≡ true) W z z D.stack n.stack (move_code v to last) in_d.unfit (omega arith) in_d.stack (move_spans last parts.last rest.1))))
    move_spans e legal h = absurd cc

    elsifs_spans : (n : Needs) (elsifs : ElsifValueTrees) → Within (moves_needs v elsifs) n → (z : ℕ) (last : Piece)
        → AreLegalBranches v.scope (branches_of elsifs) → are_moved v elsifs ≡ true → Spans (n.unfit ≡ true) z n.stack last
        → Spans (n.unfit ≡ true) (20 * elsif_values_size elsifs + z) n.stack (moves_code v to elsifs last)
    elsifs_spans n NoElsifValues within z last legal h p =
        spans_more (n.unfit ≡ true) (n.unfit ≡ true) z (20 * 0 + z) n.stack n.stack last (λ u. u) (omega arith) (omega arith) p
    elsifs_spans n (MoreElsifValues condition value rest) within z last legal h p =
        let both_there = both_true (is_moved v value) (are_moved v rest) h in
        let A = needs_above 1 v condition in
        let B = move_needs v value in
        let C = moves_needs v rest in
        let W : Type 0 = n.unfit ≡ true in
        let in_a = within_then A (both A (both B C)) n (in_left A (both B C)) within in
        let in_b = within_then B (both A (both B C)) n (of_right B A (both B C) (in_left B C)) within in
        let in_c = within_then C (both A (both B C)) n (of_right C A (both B C) (in_right B C)) within in
        let x = 20 * expr_size value in
        let y = 20 * elsif_values_size rest + z in
        spans_more W W (20 * expr_size condition + (suc x + suc y)) (20 * elsif_values_size (MoreElsifValues condition value rest) + z) n.stack n.stack
        (moves_code v to (MoreElsifValues condition value rest) last) (λ u. u) (omega arith) (omega arith)
        (fork_spans n condition x y (move_code v to value) (moves_code v to rest last) legal.0 in_a
        (spans_more (B.unfit ≡ true) W x x B.stack n.stack (move_code v to value) in_b.unfit (omega arith) in_b.stack (move_spans value legal.1 both_there.0))
        (elsifs_spans n rest in_c z last legal.2 both_there.1 p))

-- ---- an assignment

module _ (laws : Laws) (c : Site) (w : Ways) (name : NameTree) (e : ExprTree) (full : IsFull c) (accepted : IsAcceptedStatement c.visible.scope w (Assignment name e)) where
  abbrev v : Visible
  v = c.visible

  abbrev all : SelectorTrees
  all = name.selectors

  abbrev Misses : Type 0
  Misses = has_unfit v ≡ true

  h : IsLegalStatement v.scope (Assignment name e)
  h = record { around = accepted.around; unbroken = accepted.unbroken }

  -- ---- what is named

  abbrev begun : IsObjectAt (stands_first v.scope (number_of v.scope name.first.name))
  begun = assigned_first v full.sound full.has.expressions name e h

  abbrev t : Subtype
  t = begun.subtype

  held_slot : (o : Option Slot) → is_some o ≡ true → (x : Slot) × (o ≡ Some x)
  held_slot (Some x) k = (x, refl)
  held_slot None k = absurd cc

  held : (x : Slot) × (slot_of v name.first.name ≡ Some x)
  held = held_slot (slot_of v name.first.name)
      (slot_held v full.sound full.has.expressions name.first all (in_name v full.sound full.has.expressions name e h)
      (assigned_object v full.sound full.has.expressions name e h))

  abbrev source : Source
  source = record { slot = held.0; whole = t }

  abbrev at_end : PartAt
  at_end = path_part v.scope (whole_of t) all

  abbrev last : Subtype
  last = at_end.subtype

  abbrev address : Piece
  address = address_at v 0 held.0 t all

  abbrev Unfit : Type 0
  Unfit = HasUnfitObject v ⊎ IsUnfit v.scope t

  goes : PathWorks Unfit v 0 (whole_of t) at_end all (path_code v 1 (whole_of t) all)
  goes =
      address_works laws.quiet laws.typed laws.spared laws.lie laws.words laws.places v full.sound full.has.expressions 0 t all
      (assigned_path v full.sound full.has.expressions name e h begun.role t begun.is)

  standing_is : standing_of v.scope name.first all ≡ standing.Part begun.role last
  standing_is = part_stands v.scope name e begun.role t begun.is last goes.ends

  fit : IsFit v.scope last e
  fit = assigned_fit v.scope name e begun.role last standing_is h

  last_known : IsKnown v.scope last
  last_known = assigned_known v full.sound full.has.expressions name e h begun.role last standing_is

  whole_known : IsKnown v.scope t
  whole_known =
      let named = names_object v.scope name.first.name begun.role t begun.is in
      object_known v.scope begun.role t (full.sound.each named.number (Object begun.role t) named.stands)

  unfit_last : IsUnfit v.scope last → Misses
  unfit_last u = unfit_whole v 0 name.first all held.0 begun.role t begun.is held.1 (goes.fit u)

  unfit_first : IsUnfit v.scope t → Misses
  unfit_first u = unfit_whole v 0 name.first all held.0 begun.role t begun.is held.1 (inr u)

  address_spans : Spans Misses (20 * selectors_size all + 1) (0 + selectors_peak v.scope 1 all) address
  address_spans =
      let high = 0 + selectors_peak v.scope 1 all in
      let m = 20 * selectors_size all + 1 in
      spans_more Unfit Misses m m high high address (unfit_whole v 0 name.first all held.0 begun.role t begun.is held.1) (omega arith) (omega arith)
      (spans_fits Unfit m high 0 1 address (address_fits Unfit v 0 held.0.offset t all at_end (path_code v 1 (whole_of t) all) goes))

  -- a value that is fit for a subtype, which is unfit only where something visible is
  value_spans : (d : ℕ) (u : Subtype) → IsFit v.scope u e → IsKnown v.scope u → (IsUnfit v.scope u → Misses)
      → Spans Misses (20 * expr_size e + 4) (d + max (words_of v.scope u) (checked_peak (peak v.scope e))) (fitting_code v d u e)
  value_spans d u f known miss =
      let x = fitting_works laws v full.sound full.has.expressions d u e f (known_taken v.scope u known) in
      let few = x.few in
      let n = in_needs d v u e in
      spans_more (n.unfit ≡ true) Misses x.long (20 * expr_size e + 4) n.stack (d + max (words_of v.scope u) (checked_peak (peak v.scope e))) (fitting_code v d u e)
      (or_first (has_unfit v) (not (is_fit (shape_of v.scope u))) (λ k. miss (not_true (is_fit (shape_of v.scope u)) k))) (omega (arith, few)) (omega arith)
      (spans_fits (n.unfit ≡ true) x.long n.stack d (d + words_in v.scope u) (fitting_code v d u e) x.keeps)

  -- ---- where the value is put on the operand stack

  abbrev A : Needs
  A = address_needs 0 v all

  abbrev B : Needs
  B = assigned_needs v (standing_of v.scope name.first all) e

  abbrev n : Needs
  n = both A B

  abbrev room : ℕ
  room = 20 * stmt_size (Assignment name e)

  words_there : words_at v.scope (standing_of v.scope name.first all) ≡ words_of v.scope last
  words_there = ap (words_at v.scope) standing_is

  in_value : 1 + max (words_of v.scope last) (checked_peak (peak v.scope e)) ≤ n.stack
  in_value = let same = words_there in let up = (in_right A B).stack in omega (arith, same, up)

  -- what misses is told by the whole
  missing : Misses → n.unfit ≡ true
  missing = (in_left A B).unfit

  stored_spans : Spans (n.unfit ≡ true) room n.stack (stored_code v source all e)
  stored_spans =
      let size = words_in v.scope last in
      let store = stored_at held.0.region size in
      let value = fitting_code v 1 last e in
      let W : Type 0 = n.unfit ≡ true in
      let a = 20 * selectors_size all + 1 in
      let b = 20 * expr_size e + 4 in
      let up = in_value in
      spans_more W W (a + (b + 1)) room n.stack n.stack (stored_code v source all e) (λ u. u) (omega arith) (omega arith)
      (spans_then W n.stack a (b + 1) address (value ▸ one (1 + size) store)
      (spans_more Misses W a a (0 + selectors_peak v.scope 1 all) n.stack address missing (omega arith) (in_left A B).stack address_spans)
      (spans_then W n.stack b 1 value (one (1 + size) store)
      (spans_more Misses W b b (1 + max (words_of v.scope last) (checked_peak (peak v.scope e))) n.stack value missing (omega arith) up
      (value_spans 1 last fit last_known unfit_last))
      (spans_load W n.stack (1 + size) store (omega (arith, up))
      (stored_fit v held.0.region last W (λ k. missing (unfit_last (no_block v.scope last size refl k)))))))

  region_stores : (r : Region) (offset : ℕ) → has_operands (stored_in r offset) ≡ true
  region_stores regions.Locals offset = refl
  region_stores regions.Plain offset = refl
  region_stores regions.Object offset = refl

  word_spans : name.selectors ≡ NoSelectors → Spans (n.unfit ≡ true) room n.stack (word_code v source e)
  word_spans whole_name =
      let W : Type 0 = n.unfit ≡ true in
      let there = whole_stands v.scope name begun.role t whole_name begun.is in
      let whole_fit = assigned_fit v.scope name e begun.role t there h in
      let same = ap (words_at v.scope) there in
      let b = 20 * expr_size e + 4 in
      let up = (in_right A B).stack in
      let value = fitting_code v 0 t e in
      spans_more W W (b + 1) room n.stack n.stack (word_code v source e) (λ u. u) (omega arith) (omega arith)
      (spans_then W n.stack b 1 value (one 1 (store_operation held.0))
      (spans_more Misses W b b (0 + max (words_of v.scope t) (checked_peak (peak v.scope e))) n.stack value missing (omega arith) (omega (arith, same, up))
      (value_spans 0 t whole_fit whole_known unfit_first))
      (spans_one W n.stack 1 (store_operation held.0) (omega (arith, up)) (region_stores held.0.region held.0.offset)))

  -- ---- an array or a record that is moved

  moved_spans : is_moved v e ≡ true
      → Spans ((moved_needs v name e).unfit ≡ true) room (moved_needs v name e).stack (moved_code v source all e)
  moved_spans moved =
      let M = move_needs v e in
      let m = both A M in
      let W : Type 0 = m.unfit ≡ true in
      let size = words_in v.scope last in
      let to : Moved = record { region = held.0.region; words = size } in
      let a = 20 * selectors_size all + 1 in
      let b = 20 * expr_size e in
      spans_more W W (a + b) room m.stack m.stack (moved_code v source all e) (λ u. u) (omega arith) (omega arith)
      (spans_then W m.stack a b address (move_code v to e)
      (spans_more Misses W a a (0 + selectors_peak v.scope 1 all) m.stack address (in_left A M).unfit (omega arith) (in_left A M).stack address_spans)
      (spans_more (M.unfit ≡ true) W b b M.stack m.stack (move_code v to e) (in_right A M).unfit (omega arith) (in_right A M).stack
      (move_spans laws v full.sound full.has.expressions to (λ k. unfit_last (no_block v.scope last size refl k)) e (fit_legal v.scope last e fit) moved)))

  -- ---- whatever it is

  parts_span : (some : SelectorTrees) → all ≡ some → Spans (n.unfit ≡ true) room n.stack (assigned_code v source some e)
  parts_span NoSelectors is = by_count (nat_eq (words_in v.scope t) 1)
    where
      by_count : (b : Bool) → Spans (n.unfit ≡ true) room n.stack (cond b (word_code v source e) (stored_code v source NoSelectors e))
      by_count true = word_spans is
      by_count false = subst (λ a. Spans (n.unfit ≡ true) room n.stack (stored_code v source a e)) is stored_spans
  parts_span (MoreSelectors x rest) is = subst (λ a. Spans (n.unfit ≡ true) room n.stack (stored_code v source a e)) is stored_spans

  if_then : (b x : Bool) → (if b then x else false) ≡ true → x ≡ true
  if_then true x k = k
  if_then false x k = cc

  object_there : object_named v name.first ≡ Some source
  object_there = λ j. object_at (begun.is j) (held.1 j)

  pub assignment_fills : Fills (assignment_needs v name e) room (λ l. l) (λ k. k) (coded (assignment_code v name e))
  assignment_fills =
      subst (λ o. Fills (assignment_needs v name e) room (λ l. l) (λ k. k) (coded (target_code v o (moves v name e) all e))) (sym object_there)
      (by_moves (moves v name e) refl)
    where
      by_moves : (b : Bool) → moves v name e ≡ b → Fills (needs_by v name e b) room (λ l. l) (λ k. k) (coded (target_code v (Some source) b all e))
      by_moves true is = fills_spans (moved_needs v name e) room (moved_code v source all e) (moved_spans (if_then _ (is_moved v e) is))
      by_moves false is = fills_spans n room (assigned_code v source all e) (parts_span all refl)
