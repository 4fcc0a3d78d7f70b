-- The code of an expression, wherever it stands: how long it is, how high the operand stack gets, what it computes, and that it keeps the rules of images. One
-- induction over the forms.
use Rattle.std.proofs.Common.{◌≡◌, ◌<◌, ◌≤◌, ℕ, suc, ◌+◌, ◌*◌, ℤ, List, [], ◌∷◌, length, max, Option, None, Some, refl, sym, ap, ◌∙◌, subst, arith, length-append}
use Rattle.std.specs.Prelude.{slice_get, ⊤}
use Rattle.kernel.specs.Laws.{QuietStays}
use Rattle.ada_tree.specs.declared.expression.BinaryOperator.{BinaryOperator}
use Rattle.ada_tree.specs.declared.expression.BinaryOperator.TheVariants as binary
use Rattle.ada_tree.specs.declared.expression.Identifier.{Identifier}
use Rattle.ada_tree.specs.declared.expression.UnaryOperator.{UnaryOperator}
use Rattle.ada_tree.specs.declared.expression.UnaryOperator.TheVariants as unary
use Rattle.ada_tree.specs.ExpressionTree as tree
use Rattle.ada_tree.specs.ExpressionTree.{ArgumentTree, ArgumentTrees, Arguments, Attribute, Component, ElsifValueTrees, ExprTree, MoreArguments, MoreElsifValues, MoreSelectors, NoArguments, NoElsifValues, NoSelectors, SelectorTree, SelectorTrees, Text, Value}
use Rattle.ada_tree.specs.Size.{elsif_values_size, expr_size}
use Rattle.image.specs.Sections.{Sections}
use Rattle.image.specs.declared.instruction.Instr.{Instr}
use Rattle.image.specs.declared.instruction.Operation.{Operation}
use Rattle.image.specs.declared.instruction.Operation.TheVariants as op
use Rattle.expr_soundness.specs.Laws.{ExpressionsAreTyped}
use Rattle.expr_soundness.specs.SoundScopes.{SoundScope}
use Rattle.base.specs.declared.limits.TheConstants.{FRAME_WORDS}
use Rattle.expr_code.specs.Appending.{Appends}
use Rattle.expr_code.specs.Branches.{AreLegalBranches, Branch, in_front}
use Rattle.expr_code.specs.Code.{Extends, Holds, here}
use Rattle.expr_code.specs.Computing.{Computes, ComputesElse}
use Rattle.expr_code.specs.Emitting.{EmitsExpression, IsLegalExpression}
use Rattle.expr_code.specs.ExpressionCode.{branch_code, elsifs_code, expr_code, operand_code, sign_code, value_words}
use Rattle.expr_code.specs.OperatorCode.{binary_operation, unary_operation}
use Rattle.expr_code.specs.Pieces.{Piece, narrow, one, ◌▸◌, over}
use Rattle.expr_code.specs.Refusing.{elsifs_peak, operand_peak, peak}
use Rattle.expr_code.specs.Seeing.{Package, Sees, Suits, library_of}
use Rattle.expr_code.specs.Views.{At}
use Rattle.expr_code.specs.Widths.{AreWide, width_of}
use Rattle.expr_code.specs.declared.code.Code.{Code}
use Rattle.expr_code.specs.declared.visible.Visible.{Visible}
use Rattle.expr_code.proofs.Emitted.{binary_changes, has_added, unary_changes}
use Rattle.expr_code.proofs.Expressions.{computes_and_then, computes_binary, computes_conditional, computes_number, computes_or_else, computes_plus, computes_unary}
use Rattle.expr_code.proofs.Flowing.{Changes}
use Rattle.expr_code.proofs.Growing.{get_before}
use Rattle.expr_code.proofs.Legal.{left_truth, legal_left, legal_operand, legal_parts, legal_right}
use Rattle.expr_code.proofs.Refusals.{both_peak, peak_some}
use Rattle.expr_code.proofs.StandingPieces.{Between, Fits, IsTest, both_stand, fits_fork, fits_more, fits_one, fits_over, fits_then, one_stands, one_test, narrow_frame, over_end, over_stands, pushes, stands_behind, zero_test}
use Rattle.expr_code.proofs.Widths.{binary_width, conditional_wide, unary_width}

pub appends_extends : (old new : Code) (added : List Instr) → Appends old added new → Extends old new
appends_extends old new added h =
    let long : here new ≡ here old + length added = ap length h.items ∙ length-append old.instructions.items added in
    let is = h.deepest in
    record {
      instructions = λ k x le there. ap (λ l. slice_get l k) h.items ∙ get_before old.instructions.items added k x there;
      longer = omega (arith, long);
      deeper = omega (arith, is);
    }

-- ---- what is promised of a piece

-- It is the code of the expression above `depth` words, whose value takes `width`.
pub record Works (v : Visible) (depth width : ℕ) (e : ExprTree) (a : Piece) : Type 0 where
  pub long : ℕ
  pub few : long < 20 * expr_size e
  pub fits : Fits v long (depth + peak v.scope e) depth (depth + width) a
  pub computes : (i : Sections) (from to : ℕ) → Between i from to a → (g : Package) → Computes i (library_of g) (Sees g v) from to e

-- the parts of an if expression behind its first value
pub record WorksElse (v : Visible) (depth width : ℕ) (elsifs : ElsifValueTrees) (last : ExprTree) (a : Piece) : Type 0 where
  pub long : ℕ
  pub few : long < 20 * (elsif_values_size elsifs + expr_size last)
  pub fits : Fits v long (depth + max width (max (elsifs_peak v.scope elsifs) (peak v.scope last))) depth (depth + width) a
  pub computes : (i : Sections) (from to : ℕ) → Between i from to a → (g : Package) → ComputesElse i (library_of g) (Sees g v) from to elsifs last

-- ---- code to which such a piece was added

-- where it stands in an image that holds the code
pub record IsPlaced (old new : Code) (a : Piece) : Type 0 where
  pub long : here new ≡ here old + length (a (here old))
  pub stands : (i : Sections) → Holds i (here old) new → Between i (here old) (here new) a

pub placed : (old new : Code) (a : Piece) → Appends old (a (here old)) new → IsPlaced old new a
placed old new a h =
    let long : here new ≡ here old + length (a (here old)) = ap length h.items ∙ length-append old.instructions.items (a (here old)) in
    record {
      long = long;
      stands = λ i holds. record {
        there = stands_behind i old.instructions.items (a (here old)) h.keep (λ k x le there. holds k x le (ap (λ l. slice_get l k) h.items ∙ there));
        ends = long;
        low = h.few;
      };
    }

module _ (v : Visible) (old new : Code) (depth width : ℕ) (e : ExprTree) (a : Piece) (w : Works v depth width e a) (h : Appends old (a (here old)) new) where
  pub emits_added : EmitsExpression v old depth width e new
  emits_added =
      let at = placed old new a h in
      let long = at.long in
      record {
        extends = appends_extends old new (a (here old)) h;
        sized = let few = w.fits.sized (here old) in let most = w.few in omega (arith, long, few, most);
        computes = λ i holds g. w.computes i (here old) (here new) (at.stands i holds) g;
        flows = record {
          flows = λ i s holds suits deep high ends.
              let is = h.deepest in w.fits.leads.leads i s (here old) (here new) (at.stands i holds) suits (omega (arith, is, deep)) high ends;
        };
      }

-- ---- numbers, parentheses, signs

pub number_works : QuietStays → (v : Visible) (d place : ℕ) (z : ℤ) → Works v d 1 (tree.Number z place) (one d (op.Push z))
number_works quiet v d place z = record {
  long = 1;
  few = omega arith;
  fits = fits_one (Suits v) (d + 1) d (d + 1) (op.Push z) (omega arith) (pushes (Suits v) d z);
  computes = λ i from to h g.
      let it = one_stands i from to d (op.Push z) h in
      subst (λ n. Computes i (library_of g) (Sees g v) from n (tree.Number z place)) (sym it.ends)
      (computes_number quiet i (library_of g) (Sees g v) from place z (d, it.there));
}

pub parenthesized_works : (v : Visible) (d w place : ℕ) (e : ExprTree) (a : Piece) → Works v d w e a → Works v d w (tree.Parenthesized place e) a
parenthesized_works v d w place e a p = record { long = p.long; few = omega (arith, p.few); fits = p.fits; computes = p.computes }

plus_works : QuietStays → (v : Visible) (d place : ℕ) (o : UnaryOperator) (e : ExprTree) (a : Piece) → unary_operation o ≡ None → Works v d 1 e a
    → Works v d 1 (tree.Unary o place e) a
plus_works quiet v d place unary.Plus e a is p = record {
  long = p.long;
  few = omega (arith, p.few);
  fits = p.fits;
  computes = λ i from to h g. computes_plus quiet i (library_of g) (Sees g v) from to place e (p.computes i from to h g);
}
plus_works quiet v d place o e a is p = absurd cc

unary_works : QuietStays → (v : Visible) (d place : ℕ) (o : UnaryOperator) (x : Operation) (e : ExprTree) (a : Piece) → unary_operation o ≡ Some x
    → Works v d 1 e a → Works v d 1 (tree.Unary o place e) (a ▸ one (d + 1) x)
unary_works quiet v d place o x e a is p =
    let some = peak_some v.scope e in
    record {
      long = p.long + 1;
      few = omega (arith, p.few);
      fits = fits_then (Suits v) p.long 1 _ d (d + 1) (d + 1) a (one (d + 1) x) p.fits
          (fits_one (Suits v) _ (d + 1) (d + 1) x (omega (arith, some))
          (let more : suc d ≡ d + 1 = omega arith in subst (λ n. Changes (Suits v) x n n) more (unary_changes v o x d is)));
      computes = λ i from to h g.
          let both = both_stand i from to a (one (d + 1) x) h in
          let it = one_stands i both.mid to (d + 1) x both.second in
          subst (λ n. Computes i (library_of g) (Sees g v) from n (tree.Unary o place e)) (sym it.ends)
          (computes_unary quiet i (library_of g) (Sees g v) from both.mid place o e both.up (p.computes i from both.mid both.first g)
          (has_added i both.mid (unary_operation o) x is (d + 1, it.there)));
    }

signed_works : QuietStays → (v : Visible) (d place : ℕ) (o : UnaryOperator) (t : Option Operation) (e : ExprTree) (a : Piece) → unary_operation o ≡ t
    → Works v d 1 e a → Works v d 1 (tree.Unary o place e) (sign_code d t a)
signed_works quiet v d place o None e a is p = plus_works quiet v d place o e a is p
signed_works quiet v d place o (Some x) e a is p = unary_works quiet v d place o x e a is p

-- ---- operators

both_work : QuietStays → (v : Visible) (d : ℕ) (o : BinaryOperator) (x : Operation) (l r : ExprTree) (a b : Piece) → binary_operation o ≡ Some x
    → operand_peak o (peak v.scope r) ≡ suc (peak v.scope r)
    → Works v d 1 l a → Works v (d + 1) 1 r b → Works v d 1 (tree.Binary o l r) (a ▸ b ▸ one (d + 1 + 1) x)
both_work quiet v d o x l r a b is high p q =
    let some = peak_some v.scope r in
    let top = d + peak v.scope (tree.Binary o l r) in
    record {
      long = p.long + (q.long + 1);
      few = omega (arith, p.few, q.few);
      fits = fits_then (Suits v) p.long (q.long + 1) top d (d + 1) (d + 1) a (b ▸ one (d + 1 + 1) x)
          (fits_more (Suits v) p.long p.long (d + peak v.scope l) top d (d + 1) a (omega arith) (omega arith) p.fits)
          (fits_then (Suits v) q.long 1 top (d + 1) (d + 1 + 1) (d + 1) b (one (d + 1 + 1) x)
          (fits_more (Suits v) q.long q.long (d + 1 + peak v.scope r) top (d + 1) (d + 1 + 1) b (omega arith) (omega (arith, high)) q.fits)
          (fits_one (Suits v) top (d + 1 + 1) (d + 1) x (omega (arith, high, some)) (binary_changes v o x d is)));
      computes = λ i from to h g.
          let left = both_stand i from to a (b ▸ one (d + 1 + 1) x) h in
          let right = both_stand i left.mid to b (one (d + 1 + 1) x) left.second in
          let it = one_stands i right.mid to (d + 1 + 1) x right.second in
          subst (λ n. Computes i (library_of g) (Sees g v) from n (tree.Binary o l r)) (sym it.ends)
          (computes_binary quiet i (library_of g) (Sees g v) from left.mid right.mid o l r left.up right.up (p.computes i from left.mid left.first g)
          (q.computes i left.mid right.mid right.first g) (has_added i right.mid (binary_operation o) x is (d + 1 + 1, it.there)));
    }

-- a copy, a jump, and the right operand in the place of the left one
abbrev short_code : (d : ℕ) → (jump : ℕ → Operation) → Piece → Piece
short_code d jump b = one (d + 1) op.Duplicate ▸ over 0 (d + 1 + 1) jump (one (d + 1) op.Drop ▸ b)

module _ (v : Visible) (d : ℕ) (jump : ℕ → Operation) (o : BinaryOperator) (l r : ExprTree) (a b : Piece) where
  short_works : IsTest jump → operand_peak o (peak v.scope r) ≡ max 2 (peak v.scope r)
      → ((i : Sections) (g : Package) (from mid to : ℕ) → from ≤ mid → mid + 3 ≤ to
      → Computes i (library_of g) (Sees g v) from mid l
      → At i mid op.Duplicate → At i (mid + 1) (jump to) → At i (mid + 2) op.Drop
      → Computes i (library_of g) (Sees g v) (mid + 3) to r
      → Computes i (library_of g) (Sees g v) from to (tree.Binary o l r))
      → Works v d 1 l a → Works v d 1 r b → Works v d 1 (tree.Binary o l r) (a ▸ short_code d jump b)
  short_works t high makes p q =
      let top = d + peak v.scope (tree.Binary o l r) in
      record {
        long = p.long + (1 + suc (1 + q.long));
        few = omega (arith, p.few, q.few);
        fits = fits_then (Suits v) p.long (1 + suc (1 + q.long)) top d (d + 1) (d + 1) a (short_code d jump b)
            (fits_more (Suits v) p.long p.long (d + peak v.scope l) top d (d + 1) a (omega arith) (omega arith) p.fits)
            (fits_then (Suits v) 1 (suc (1 + q.long)) top (d + 1) (d + 1 + 1) (d + 1) (one (d + 1) op.Duplicate)
            (over 0 (d + 1 + 1) jump (one (d + 1) op.Drop ▸ b))
            (fits_one (Suits v) top (d + 1) (d + 1 + 1) op.Duplicate (omega (arith, high))
            (record { operands = refl; names = λ i s h. refl; takes = λ i s h. omega arith; leaves = λ i s h. omega arith; stays = refl; is_none = refl }))
            (fits_over (Suits v) (1 + q.long) top (d + 1) jump (one (d + 1) op.Drop ▸ b) t (omega (arith, high))
            (fits_then (Suits v) 1 q.long top (d + 1) d (d + 1) (one (d + 1) op.Drop) b
            (fits_one (Suits v) top (d + 1) d op.Drop (omega (arith, high))
            (record { operands = refl; names = λ i s h. refl; takes = λ i s h. omega arith; leaves = λ i s h. omega arith; stays = refl; is_none = refl }))
            (fits_more (Suits v) q.long q.long (d + peak v.scope r) top d (d + 1) b (omega arith) (omega (arith, high)) q.fits))));
        computes = λ i from to h g.
            let left = both_stand i from to a (short_code d jump b) h in
            let mid = left.mid in
            let rest = both_stand i mid to (one (d + 1) op.Duplicate) (over 0 (d + 1 + 1) jump (one (d + 1) op.Drop ▸ b)) left.second in
            let copy = one_stands i mid rest.mid (d + 1) op.Duplicate rest.first in
            let test = over_end i rest.mid to (d + 1 + 1) jump (one (d + 1) op.Drop ▸ b) rest.second in
            let right = both_stand i (suc rest.mid) to (one (d + 1) op.Drop) b test.inner in
            let drop = one_stands i (suc rest.mid) right.mid (d + 1) op.Drop right.first in
            let one_is : rest.mid ≡ mid + 1 = omega (arith, copy.ends) in
            let two_is : suc rest.mid ≡ mid + 2 = omega (arith, copy.ends) in
            let three_is : right.mid ≡ mid + 3 = omega (arith, copy.ends, drop.ends) in
            makes i g from mid to left.up (omega (arith, three_is, right.on_)) (p.computes i from mid left.first g)
            (d + 1, copy.there)
            (subst (λ n. At i n (jump to)) one_is
            (subst (λ k. At i rest.mid (jump k)) (let e : to + 0 ≡ to = omega arith in e) (d + 1 + 1, test.there)))
            (subst (λ n. At i n op.Drop) two_is (d + 1, drop.there))
            (subst (λ n. Computes i (library_of g) (Sees g v) n to r) three_is (q.computes i right.mid to right.second g));
      }

module _ (quiet : QuietStays) (laws : ExpressionsAreTyped) (v : Visible) (d : ℕ) (l r : ExprTree) (a above instead : Piece) where
  operand_works : (o : BinaryOperator) (t : Option Operation) → binary_operation o ≡ t → IsLegalExpression v.scope (tree.Binary o l r)
      → Works v d 1 l a → Works v (d + 1) 1 r above → Works v d 1 r instead → Works v d 1 (tree.Binary o l r) (a ▸ operand_code d o t above instead)
  operand_works o (Some x) is legal p q s = both_work quiet v d o x l r a above is (both_peak v.scope o x (peak v.scope r) is) p q
  operand_works binary.AndThen None is legal p q s =
      short_works v d op.JumpIfZero binary.AndThen l r a instead zero_test refl
      (λ i g from mid to le up first copy jump drop second.
      computes_and_then quiet i (library_of g) (Sees g v) from mid to l r le up first (left_truth laws i v g binary.AndThen l r refl legal) copy jump drop second) p s
  operand_works binary.OrElse None is legal p q s =
      short_works v d op.JumpIfNotZero binary.OrElse l r a instead one_test refl
      (λ i g from mid to le up first copy jump drop second.
      computes_or_else quiet i (library_of g) (Sees g v) from mid to l r le up first (left_truth laws i v g binary.OrElse l r refl legal) copy jump drop second) p s
  operand_works o None is legal p q s = absurd cc

-- ---- if expressions

-- the words of the parts behind are among those of all
above : (d w c x e l : ℕ) → d + max w (max e l) ≤ d + max w (max (max c (max x e)) l)
above d w c x e l = omega arith

-- the words that code takes a value to have are those that it has, wherever a frame has so many
pub record IsAsWide (coded width : ℕ) : Type 0 where
  pub less : coded ≤ width
  pub same : coded ≤ FRAME_WORDS → coded ≡ width

jump_same : (d k w : ℕ) → IsAsWide k w → narrow (d + k) ≤ FRAME_WORDS → d + k ≡ d + w
jump_same d k w wide le = let is = narrow_frame (d + k) le in ap (λ n. d + n) (wide.same (omega (arith, is, le)))

module _ (v : Visible) (d k w : ℕ) (wide : IsAsWide k w) (condition value last : ExprTree) (elsifs : ElsifValueTrees) (c x r : Piece)
    (p : Works v d 1 condition c) (q : Works v d w value x) (s : WorksElse v d w elsifs last r) where
  branch_works : WorksElse v d w (MoreElsifValues condition value elsifs) last (branch_code d k c x r)
  branch_works =
      let top = d + max w (max (elsifs_peak v.scope (MoreElsifValues condition value elsifs)) (peak v.scope last)) in
      let some = peak_some v.scope condition in
      record {
        long = p.long + (q.long + s.long + 2);
        few = omega (arith, p.few, q.few, s.few);
        fits = fits_then (Suits v) p.long (q.long + s.long + 2) top d (d + 1) (d + w) c (over 1 (d + 1) op.JumpIfZero x ▸ over 0 (d + k) op.Jump r)
            (fits_more (Suits v) p.long p.long (d + peak v.scope condition) top d (d + 1) c (omega arith) (omega arith) p.fits)
            (fits_fork (Suits v) q.long s.long top d (d + w) (d + k) x r (omega (arith, some)) (let less = wide.less in omega (arith, less)) (jump_same d k w wide)
            (fits_more (Suits v) q.long q.long (d + peak v.scope value) top d (d + w) x (omega arith) (omega arith) q.fits)
            (fits_more (Suits v) s.long s.long (d + max w (max (elsifs_peak v.scope elsifs) (peak v.scope last))) top d (d + w) r (omega arith)
            (above d w (peak v.scope condition) (peak v.scope value) (elsifs_peak v.scope elsifs) (peak v.scope last)) s.fits));
        computes = λ i from to h g.
            let whole = both_stand i from to c (over 1 (d + 1) op.JumpIfZero x ▸ over 0 (d + k) op.Jump r) h in
            let mid = whole.mid in
            let both = both_stand i mid to (over 1 (d + 1) op.JumpIfZero x) (over 0 (d + k) op.Jump r) whole.second in
            let stop = both.mid in
            let two = over_end i stop to (d + k) op.Jump r both.second in
            let one = over_stands i mid stop 1 (d + 1) op.JumpIfZero x (let up = two.up in let low = h.low in omega (arith, up, low)) both.first in (
              mid,
              stop,
              suc stop,
              whole.up,
              one.up,
              omega arith,
              two.up,
              p.computes i from mid whole.first g,
              subst (λ n. At i mid (op.JumpIfZero n)) (let e : stop + 1 ≡ suc stop = omega arith in e) (d + 1, one.there),
              subst (λ n. Computes i (library_of g) (Sees g v) n stop value) (let e : suc mid ≡ mid + 1 = omega arith in e)
                  (q.computes i (suc mid) stop one.inner g),
              subst (λ n. At i stop (op.Jump n)) (let e : to + 0 ≡ to = omega arith in e) (d + k, two.there),
              s.computes i (suc stop) to two.inner g,
            );
      }

last_works : (v : Visible) (d w : ℕ) (last : ExprTree) (a : Piece) → Works v d w last a → WorksElse v d w NoElsifValues last a
last_works v d w last a p = record {
  long = p.long;
  few = omega (arith, p.few);
  fits = fits_more (Suits v) p.long p.long (d + peak v.scope last) (d + max w (max 0 (peak v.scope last))) d (d + w) a (omega arith) (omega arith) p.fits;
  computes = λ i from to h g. (omega (arith, h.ends), p.computes i from to h g);
}

conditional_works : QuietStays → (v : Visible) (d w place : ℕ) (condition value last : ExprTree) (elsifs : ElsifValueTrees) (a : Piece)
    → width_of v.scope (tree.Conditional place condition value elsifs last) ≡ w
    → WorksElse v d w (MoreElsifValues condition value elsifs) last a → Works v d w (tree.Conditional place condition value elsifs last) a
conditional_works quiet v d w place condition value last elsifs a wide p = record {
  long = p.long;
  few = omega (arith, p.few);
  fits = fits_more (Suits v) p.long p.long (d + max w (max (elsifs_peak v.scope (MoreElsifValues condition value elsifs)) (peak v.scope last)))
      (d + peak v.scope (tree.Conditional place condition value elsifs last)) d (d + w) a (omega arith) (omega (arith, wide)) p.fits;
  computes = λ i from to h g.
      let code = p.computes i from to h g in
      computes_conditional quiet i (library_of g) (Sees g v) from code.0 code.1 code.2 to place condition value elsifs last
      code.3 code.4 code.5 code.6 code.7 code.8 code.9 code.10 code.11;
}

-- ---- all forms

abbrev pub branches_of : ElsifValueTrees → List Branch
branches_of NoElsifValues = []
branches_of (MoreElsifValues condition value rest) = (record { condition = condition; value = value }) ∷ branches_of rest

pub branches_same : (elsifs : ElsifValueTrees) → in_front (branches_of elsifs) NoElsifValues ≡ elsifs
branches_same NoElsifValues = refl
branches_same (MoreElsifValues condition value rest) = ap (MoreElsifValues condition value) (branches_same rest)

-- the code of each expression in parentheses behind a name does, above so many words
module _ (v : Visible) where
  abbrev pub DoesWork : ExprTree → Type 0
  DoesWork e = (d : ℕ) → IsLegalExpression v.scope e → Works v d (width_of v.scope e) e (expr_code v d e)

  abbrev mutual
    pub SelectorsWork : SelectorTrees → Type 0
    SelectorsWork NoSelectors = ⊤
    SelectorsWork (MoreSelectors x rest) = SelectorWorks x × SelectorsWork rest

    pub SelectorWorks : SelectorTree → Type 0
    SelectorWorks (Component name) = ⊤
    SelectorWorks (Arguments all) = ArgumentsWork all
    SelectorWorks (Attribute name) = ⊤

    pub ArgumentsWork : ArgumentTrees → Type 0
    ArgumentsWork NoArguments = ⊤
    ArgumentsWork (MoreArguments x rest) = ArgumentWorks x × ArgumentsWork rest

    pub ArgumentWorks : ArgumentTree → Type 0
    ArgumentWorks (Value e) = DoesWork e
    ArgumentWorks (Text label place) = ⊤

-- where names have code that does
module _ (quiet : QuietStays) (laws : ExpressionsAreTyped) (v : Visible) (sound : SoundScope v.scope)
    (names : (d : ℕ) (first : Identifier) (selectors : SelectorTrees) → SelectorsWork v selectors → IsLegalExpression v.scope (tree.Named first selectors)
    → Works v d (width_of v.scope (tree.Named first selectors)) (tree.Named first selectors) (expr_code v d (tree.Named first selectors)))
    (wide_names : (d : ℕ) (first : Identifier) (selectors : SelectorTrees) → SelectorsWork v selectors → IsLegalExpression v.scope (tree.Named first selectors)
    → IsAsWide (value_words v (tree.Named first selectors)) (width_of v.scope (tree.Named first selectors))) where
  as_wide : (d w n : ℕ) (e : ExprTree) (a : Piece) → w ≡ n → Works v d w e a → Works v d n e a
  as_wide d w n e a same p = subst (λ m. Works v d m e a) same p

  one_wide : (n : ℕ) → n ≡ 1 → IsAsWide 1 n
  one_wide n is = record { less = omega (arith, is); same = λ le. sym is }

  mutual
    words : (e : ExprTree) → IsLegalExpression v.scope e → IsAsWide (value_words v e) (width_of v.scope e)
    words (tree.Number z place) h = one_wide _ refl
    words (tree.Named first selectors) h = wide_names 0 first selectors (selectors_work selectors) h
    words (tree.Parenthesized place e) h = words e (record { wanted = h.wanted; unbroken = h.unbroken })
    words (tree.Unary o place e) h = one_wide _ (unary_width v.scope sound o place e h).right
    words (tree.Binary o a b) h = one_wide _ (binary_width v.scope sound o a b h).both
    words (tree.Conditional place condition value elsifs last) h =
        let s = v.scope in
        let same = branches_same elsifs in
        let told = subst (λ t. IsLegalExpression s (tree.Conditional place condition value t last)) (sym same) h in
        let legal = legal_parts s place condition value (branches_of elsifs) last told in
        let wide = conditional_wide s sound place condition value (branches_of elsifs) last told in
        subst (λ n. IsAsWide (value_words v value) n)
        (wide.whole ∙ ap (λ t. width_of s (tree.Conditional place condition value t last)) same) (words value legal.value)

    pub expr_works : (d : ℕ) (e : ExprTree) → IsLegalExpression v.scope e → Works v d (width_of v.scope e) e (expr_code v d e)
    expr_works d (tree.Number z place) h = number_works quiet v d place z
    expr_works d (tree.Named first selectors) h = names d first selectors (selectors_work selectors) h
    expr_works d (tree.Parenthesized place e) h =
        parenthesized_works v d _ place e _ (expr_works d e (record { wanted = h.wanted; unbroken = h.unbroken }))
    expr_works d (tree.Unary o place e) h =
        let wide = unary_width v.scope sound o place e h in
        as_wide d 1 _ _ _ (sym wide.right)
        (signed_works quiet v d place o (unary_operation o) e _ refl (as_wide d _ 1 e _ wide.left (expr_works d e (legal_operand v.scope o place e h))))
    expr_works d (tree.Binary o a b) h =
        let wide = binary_width v.scope sound o a b h in
        let right = legal_right v.scope o a b h in
        as_wide d 1 _ _ _ (sym wide.both)
        (operand_works quiet laws v d a b _ _ _ o (binary_operation o) refl h (as_wide d _ 1 a _ wide.left (expr_works d a (legal_left v.scope o a b h)))
        (as_wide (d + 1) _ 1 b _ wide.right (expr_works (d + 1) b right)) (as_wide d _ 1 b _ wide.right (expr_works d b right)))
    expr_works d (tree.Conditional place condition value elsifs last) h =
        let s = v.scope in
        let same = branches_same elsifs in
        let told = subst (λ t. IsLegalExpression s (tree.Conditional place condition value t last)) (sym same) h in
        let legal = legal_parts s place condition value (branches_of elsifs) last told in
        let wide = conditional_wide s sound place condition value (branches_of elsifs) last told in
        let whole : width_of s value ≡ width_of s (tree.Conditional place condition value elsifs last) =
        wide.whole ∙ ap (λ t. width_of s (tree.Conditional place condition value t last)) same in
        as_wide d (width_of s value) _ _ _ whole
        (conditional_works quiet v d (width_of s value) place condition value last elsifs _ (sym whole)
        (branch_works v d (value_words v value) (width_of s value) (words value legal.value) condition value last elsifs _ _ _ (as_wide d _ 1 condition _ wide.condition (expr_works d condition legal.condition))
        (expr_works d value legal.value)
        (elsifs_work d (value_words v value) (width_of s value) (words value legal.value) elsifs last _ legal.elsifs wide.elsifs (as_wide d _ _ last _ wide.last (expr_works d last legal.last)))))

    elsifs_work : (d k w : ℕ) → IsAsWide k w → (elsifs : ElsifValueTrees) (last : ExprTree) (a : Piece) → AreLegalBranches v.scope (branches_of elsifs)
        → AreWide v.scope w (branches_of elsifs) → Works v d w last a → WorksElse v d w elsifs last (elsifs_code v d k elsifs a)
    elsifs_work d k w alike NoElsifValues last a legal wide p = last_works v d w last a p
    elsifs_work d k w alike (MoreElsifValues condition value rest) last a legal wide p =
        branch_works v d k w alike condition value last rest _ _ _ (as_wide d _ 1 condition _ wide.0 (expr_works d condition legal.0))
        (as_wide d _ w value _ wide.1 (expr_works d value legal.1)) (elsifs_work d k w alike rest last a legal.2 wide.2 p)

    selectors_work : (all : SelectorTrees) → SelectorsWork v all
    selectors_work NoSelectors = tt
    selectors_work (MoreSelectors x rest) = (selector_works x, selectors_work rest)

    selector_works : (x : SelectorTree) → SelectorWorks v x
    selector_works (Component name) = tt
    selector_works (Arguments all) = arguments_work all
    selector_works (Attribute name) = tt

    arguments_work : (all : ArgumentTrees) → ArgumentsWork v all
    arguments_work NoArguments = tt
    arguments_work (MoreArguments x rest) = (argument_works x, arguments_work rest)

    argument_works : (x : ArgumentTree) → ArgumentWorks v x
    argument_works (Value e) = λ d h. expr_works d e h
    argument_works (Text label place) = tt
