-- The code that moves arrays and records, wherever it stands: how long it is, how high the operand stack gets, what it moves, and that it keeps the rules of
-- images. One induction over the expression that is moved.
use Rattle.std.proofs.Common.{◌≡◌, ◌≤◌, ℕ, suc, ◌+◌, ◌*◌, length, Bool, true, false, ◌&&◌, Option, None, Some, refl, sym, ap, ◌∙◌, subst, arith, length-append}
use Rattle.std.specs.Prelude.{is_some, ◌⊎◌}
use Rattle.ada_tree.specs.declared.expression.Identifier.{Identifier}
use Rattle.ada_tree.specs.ExpressionTree as tree
use Rattle.ada_tree.specs.ExpressionTree.{ElsifValueTrees, ExprTree, MoreElsifValues, NameTree, Named, NoElsifValues, SelectorTrees}
use Rattle.ada_tree.specs.Size.{elsif_values_size, expr_size, selectors_size}
use Rattle.image.specs.Rules.{has_region, is_block, writes_region}
use Rattle.image.specs.Sections.{Sections}
use Rattle.image.specs.declared.instruction.Operation.TheVariants as op
use Rattle.image.specs.declared.instruction.Region.{Region}
use Rattle.types.specs.Evaluating.{fixed_value}
use Rattle.types.specs.Shapes.{shape_of}
use Rattle.expr_soundness.specs.SoundScopes.{SoundScope}
use Rattle.expr_code.specs.Branches.{AreLegalBranches}
use Rattle.expr_code.specs.Emitting.{IsLegalExpression}
use Rattle.expr_code.specs.ExpressionCode.{expr_code, fork_code, path_code, path_part, whole_of}
use Rattle.expr_code.specs.Locating.{IsPath}
use Rattle.expr_code.specs.Pieces.{Piece, one, ◌▸◌, over}
use Rattle.expr_code.specs.Providing.{HasWhatExpressionsNeed}
use Rattle.expr_code.specs.Refusing.{HasUnfitObject, IsUnfit}
use Rattle.expr_code.specs.Seeing.{Package, Sees, Suits, library_of}
use Rattle.expr_code.specs.Views.{At}
use Rattle.expr_code.specs.Widths.{AreWide, width_of}
use Rattle.expr_code.specs.declared.visible.Visible.{Visible}
use Rattle.expr_code.proofs.CalledWorks.{as_wide}
use Rattle.expr_code.proofs.Emissions.{address_fits, address_stands}
use Rattle.expr_code.proofs.ExpressionWorks.{Works, branches_of, branches_same}
use Rattle.expr_code.proofs.Flowing.{Changes}
use Rattle.expr_code.proofs.Going.{whole_path}
use Rattle.expr_code.proofs.Legal.{legal_parts}
use Rattle.expr_code.proofs.NamesWork.{address_works, all_work}
use Rattle.expr_code.proofs.Refusals.{peak_some, selectors_some}
use Rattle.expr_code.proofs.StandingPieces.{Between, both_stand, fits_fork, fits_one, fits_then, fits_under, fits_unless, one_stands, over_end, over_stands}
use Rattle.expr_code.proofs.Widths.{conditional_wide}
use Rattle.part_code.specs.Moving.{IsMoved, IsMovedElse, are_moved, is_moved, source_at}
use Rattle.part_code.specs.Needs.{Needs, address_needs, both, move_needs, moves_needs, needs_above, nothing}
use Rattle.part_code.specs.PartCode.{address_at, move_code, moved_from, moves_code}
use Rattle.part_code.specs.Suiting.{HasPlaceIn, SuitsStatements}
use Rattle.part_code.specs.declared.moving.Moved.{Moved}
use Rattle.part_code.specs.declared.moving.Source.{Source}
use Rattle.part_code.proofs.AssignmentsRefused.{unfit_whole}
use Rattle.part_code.proofs.MovesRefused.{source_is}
use Rattle.part_code.proofs.PieceNeeds.{Keeps, Laws, expression_keeps, keeps_within, some_then}
use Rattle.part_code.proofs.StoresAt.{writes}
use Rattle.part_code.proofs.Within.{Within, both_within, in_left, in_right, of_left, of_right}

-- ---- the instruction

and_both : (a b : Bool) → a ≡ true → b ≡ true → (a && b) ≡ true
and_both a b h k = ap (λ q. q && b) h ∙ k

copies_words : (v : Visible) (target source : Region) (size : ℕ) → is_block size ≡ true → HasPlaceIn v target → HasPlaceIn v source
    → Changes (SuitsStatements v) (op.Copy target source size) 2 0
copies_words v target source size block place other = record {
  operands = block;
  names = λ i s suits.
      and_both (writes_region s target) (has_region s source) (writes v i s target suits place)
      (ap (has_region s) (sym other.region) ∙ suits.names.region other.name other.slot other.there);
  takes = λ i s suits. omega arith;
  leaves = λ i s suits. omega arith;
  stays = refl;
  is_none = refl;
}

-- ---- what is promised of a piece

pub record MoveWorks (v : Visible) (to : Moved) (e : ExprTree) (a : Piece) : Type 0 where
  pub long : ℕ
  pub few : long ≤ 20 * expr_size e
  pub some : (base : ℕ) → 1 ≤ length (a base)
  pub keeps : Keeps (move_needs v e) (SuitsStatements v) long 1 0 a
  pub moves : (i : Sections) (from end : ℕ) → Between i from end a → (g : Package) → IsMoved i g v to.region to.words from end e

-- the parts of an if expression after its first value
pub record MovesWork (v : Visible) (to : Moved) (elsifs : ElsifValueTrees) (last : ExprTree) (a : Piece) : Type 0 where
  pub long : ℕ
  pub few : long ≤ 20 * (elsif_values_size elsifs + expr_size last)
  pub some : (base : ℕ) → 1 ≤ length (a base)
  pub keeps : Keeps (both (moves_needs v elsifs) (move_needs v last)) (SuitsStatements v) long 1 0 a
  pub moves : (i : Sections) (from end : ℕ) → Between i from end a → (g : Package)
      → IsMovedElse i g v to.region to.words from end elsifs (λ x y. IsMoved i g v to.region to.words x y last)

some_fork : (d k : ℕ) (c x r : Piece) (base : ℕ) → 1 ≤ length (fork_code d k c x r base)
unfolding over ◌▸◌
some_fork d k c x r base =
    let long = length-append (c base) ((over 1 (d + 1) op.JumpIfZero x ▸ over 0 k op.Jump r) (base + length (c base))) in omega (arith, long)

module _ (laws : Laws) (v : Visible) (sound : SoundScope v.scope) (covered : HasWhatExpressionsNeed v) (to : Moved) (block : is_block to.words ≡ true)
    (place : HasPlaceIn v to.region) where
  -- ---- a name

  module _ (first : Identifier) (all : SelectorTrees) (legal : IsLegalExpression v.scope (Named first all)) where
    abbrev name : NameTree
    name = record { first = first; selectors = all }

    named_works : (x : Source) → source_at v name ≡ Some x → MoveWorks v to (Named first all) (moved_from v to (Some x) all)
    named_works x found =
        let from = source_is v name x found in
        let path = whole_path v.scope sound first all from.role x.whole legal from.stands (ap fixed_value from.names) in
        let q = address_works laws.quiet laws.typed laws.spared laws.lie laws.words laws.places v sound covered 1 x.whole all path in
        let last = path_part v.scope (whole_of x.whole) all in
        let goes = path_code v (1 + 1) (whole_of x.whole) all in
        let address = address_at v 1 x.slot x.whole all in
        let copy = op.Copy to.region x.slot.region to.words in
        let U : Type 0 = HasUnfitObject v ⊎ IsUnfit v.scope x.whole in
        let n = address_needs 1 v all in
        let up = selectors_some v.scope 1 all in
        record {
          long = (20 * selectors_size all + 1) + 1;
          few = omega arith;
          some = some_then address 2 copy;
          keeps = fits_then (SuitsStatements v) (20 * selectors_size all + 1) 1 n.stack 1 2 0 address (one 2 copy)
              (fits_under (Suits v) (SuitsStatements v) (20 * selectors_size all + 1) n.stack 1 2 address (λ i s suits. suits.names)
              (fits_unless U (n.unfit ≡ true) (Suits v) (20 * selectors_size all + 1) n.stack 1 2 address
              (unfit_whole v 1 first all x.slot from.role x.whole from.stands from.there)
              (address_fits U v 1 x.slot.offset x.whole all last goes q)))
              (fits_one (SuitsStatements v) n.stack 2 0 copy (omega (arith, up))
              (copies_words v to.region x.slot.region to.words block place
              (record { name = first.name; slot = x.slot; there = from.there; region = refl })));
          moves = λ i start end h g.
              let both = both_stand i start end address (one 2 copy) h in
              let at = address_stands U v 1 x.slot.offset x.whole all last goes q i start both.mid both.first in
              let it = one_stands i both.mid end 2 copy both.second in
              record {
                source = x;
                is = from;
                legal = legal;
                last = last.subtype;
                end = shape_of v.scope last.subtype;
                mid = both.mid;
                up = at.up;
                next = it.ends;
                shift = last.shift;
                near = q.near;
                push = at.push;
                path = subst
                    (λ k. IsPath i (library_of g) (Sees g v) k both.mid last.shift x.whole (shape_of v.scope x.whole) all last.subtype (shape_of v.scope last.subtype))
                    (let one : suc start ≡ start + 1 = omega arith in one) (at.goes g);
                copies = (2, it.there);
              };
        }

    name_works : is_moved v (Named first all) ≡ true → MoveWorks v to (Named first all) (move_code v to (Named first all))
    name_works = by_source (source_at v name) refl
      where
        by_source : (o : Option Source) → source_at v name ≡ o → is_some o ≡ true → MoveWorks v to (Named first all) (moved_from v to o all)
        by_source (Some x) is h = named_works x is
        by_source None is h = absurd cc

  -- ---- if expressions

  module _ (condition value last : ExprTree) (elsifs : ElsifValueTrees) (c x r : Piece) (p : Works v 1 1 condition c) (q : MoveWorks v to value x)
      (s : MovesWork v to elsifs last r) where
    abbrev A : Needs
    A = needs_above 1 v condition

    abbrev B : Needs
    B = move_needs v value

    abbrev C : Needs
    C = moves_needs v elsifs

    abbrev D : Needs
    D = move_needs v last

    abbrev all_of : Needs
    all_of = both (both A (both B C)) D

    branch_work : MovesWork v to (MoreElsifValues condition value elsifs) last (fork_code 1 0 c x r)
    branch_work =
        let S = SuitsStatements v in
        let some = peak_some v.scope condition in
        let top : Within A all_of = of_left A (both A (both B C)) D (in_left A (both B C)) in
        record {
          long = p.long + (q.long + s.long + 2);
          few = (let one = p.few in let two = q.few in let three = s.few in omega (arith, one, two, three));
          some = some_fork 1 0 c x r;
          keeps = fits_then S p.long (q.long + s.long + 2) all_of.stack 1 2 0 c (over 1 2 op.JumpIfZero x ▸ over 0 0 op.Jump r)
              (keeps_within A all_of S p.long 1 2 c top (expression_keeps v 1 p.long 2 A c refl p.fits))
              (fits_fork S q.long s.long all_of.stack 1 0 0 x r (let high = top.stack in omega (arith, some, high)) (omega arith) (λ le. refl)
              (keeps_within B all_of S q.long 1 0 x (of_left B (both A (both B C)) D (of_right B A (both B C) (in_left B C))) q.keeps)
              (keeps_within (both C D) all_of S s.long 1 0 r
              (both_within C D all_of (of_left C (both A (both B C)) D (of_right C A (both B C) (in_right B C))) (in_right (both A (both B C)) D)) s.keeps));
          moves = λ i from end h g.
              let whole = both_stand i from end c (over 1 2 op.JumpIfZero x ▸ over 0 0 op.Jump r) h in
              let mid = whole.mid in
              let two_parts = both_stand i mid end (over 1 2 op.JumpIfZero x) (over 0 0 op.Jump r) whole.second in
              let joint = two_parts.mid in
              let two = over_end i joint end 0 op.Jump r two_parts.second in
              let one_ = over_stands i mid joint 1 2 op.JumpIfZero x (let up = two.up in let low = h.low in omega (arith, up, low)) two_parts.first in (
                mid,
                joint,
                whole.up,
                one_.up,
                two.up,
                p.computes i from mid whole.first g,
                subst (λ n. At i mid (op.JumpIfZero n)) (let e : joint + 1 ≡ suc joint = omega arith in e) (2, one_.there),
                q.moves i (suc mid) joint one_.inner g,
                subst (λ n. At i joint (op.Jump n)) (let e : end + 0 ≡ end = omega arith in e) (0, two.there),
                s.moves i (suc joint) end two.inner g,
              );
        }

  last_work : (last : ExprTree) (a : Piece) → MoveWorks v to last a → MovesWork v to NoElsifValues last a
  last_work last a p = record {
    long = p.long;
    few = (let few = p.few in omega (arith, few));
    some = p.some;
    keeps = keeps_within (move_needs v last) (both nothing (move_needs v last)) (SuitsStatements v) p.long 1 0 a (in_right nothing (move_needs v last)) p.keeps;
    moves = p.moves;
  }

  conditional_work : (position : ℕ) (condition value last : ExprTree) (elsifs : ElsifValueTrees) (a : Piece)
      → MovesWork v to (MoreElsifValues condition value elsifs) last a → MoveWorks v to (tree.Conditional position condition value elsifs last) a
  conditional_work position condition value last elsifs a p =
      let A = needs_above 1 v condition in
      let B = move_needs v value in
      let C = moves_needs v elsifs in
      let D = move_needs v last in
      let n = both A (both B (both C D)) in
      let rest : Within (both C D) n = of_right (both C D) A (both B (both C D)) (in_right B (both C D)) in
      record {
        long = p.long;
        few = (let few = p.few in omega (arith, few));
        some = p.some;
        keeps = keeps_within (both (both A (both B C)) D) n (SuitsStatements v) p.long 1 0 a
            (both_within (both A (both B C)) D n
            (both_within A (both B C) n (in_left A (both B (both C D)))
            (both_within B C n (of_right B A (both B (both C D)) (in_left B (both C D)))
            (of_right C A (both B (both C D)) (of_right C B (both C D) (in_left C D)))))
            (of_right D A (both B (both C D)) (of_right D B (both C D) (in_right C D)))) p.keeps;
        moves = p.moves;
      }

  -- ---- all forms

  both_true : (a b : Bool) → (a && b) ≡ true → (a ≡ true) × (b ≡ true)
  both_true true b h = (refl, h)
  both_true false b h = cc

  condition_works : (e : ExprTree) → width_of v.scope e ≡ 1 → IsLegalExpression v.scope e → Works v 1 1 e (expr_code v 1 e)
  condition_works e wide legal =
      as_wide v 1 _ 1 e _ wide (all_work laws.quiet laws.typed laws.spared laws.lie laws.words laws.places v sound covered 1 e legal)

  mutual
    pub move_works : (e : ExprTree) → IsLegalExpression v.scope e → is_moved v e ≡ true → MoveWorks v to e (move_code v to e)
    move_works (tree.Named first all) legal h = name_works first all legal h
    move_works (tree.Parenthesized position e) legal h =
        let p = move_works e (record { wanted = legal.wanted; unbroken = legal.unbroken }) h in
        record { long = p.long; few = (let few = p.few in omega (arith, few)); some = p.some; keeps = p.keeps; moves = p.moves }
    move_works (tree.Conditional position condition value elsifs last) legal h =
        let s = v.scope in
        let unbroken = subst (λ t. IsLegalExpression s (tree.Conditional position condition value t last)) (sym (branches_same elsifs)) legal in
        let parts = legal_parts s position condition value (branches_of elsifs) last unbroken in
        let wide = conditional_wide s sound position condition value (branches_of elsifs) last unbroken in
        let first = both_true (is_moved v value) (are_moved v elsifs && is_moved v last) h in
        let rest = both_true (are_moved v elsifs) (is_moved v last) first.1 in
        conditional_work position condition value last elsifs _
        (branch_work condition value last elsifs _ _ _ (condition_works condition wide.condition parts.condition) (move_works value parts.value first.0)
        (elsifs_move (width_of s value) elsifs last _ parts.elsifs wide.elsifs rest.0 (move_works last parts.last rest.1)))
    move_works e legal h = absurd cc

    elsifs_move : (w : ℕ) (elsifs : ElsifValueTrees) (last : ExprTree) (a : Piece) → AreLegalBranches v.scope (branches_of elsifs)
        → AreWide v.scope w (branches_of elsifs) → are_moved v elsifs ≡ true → MoveWorks v to last a → MovesWork v to elsifs last (moves_code v to elsifs a)
    elsifs_move w NoElsifValues last a legal wide h p = last_work last a p
    elsifs_move w (MoreElsifValues condition value rest) last a legal wide h p =
        let both = both_true (is_moved v value) (are_moved v rest) h in
        branch_work condition value last rest _ _ _ (condition_works condition wide.0 legal.0) (move_works value legal.1 both.0)
        (elsifs_move w rest last a legal.2 wide.2 both.1 p)
