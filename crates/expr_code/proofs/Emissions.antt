-- What is emitted for statements, by the piece that was added.
use Rattle.std.proofs.Common.{◌≡◌, ◌≤◌, ℕ, suc, ◌+◌, ◌*◌, [], length, true, ap, ◌∙◌, subst, arith}
use Rattle.std.specs.Prelude.{pos, ◌+ℤ◌}
use Rattle.ada_tree.specs.ExpressionTree.{ExprTree, SelectorTrees}
use Rattle.ada_tree.specs.Size.{selectors_size}
use Rattle.image.specs.Sections.{Sections}
use Rattle.image.specs.declared.instruction.Operation.{Operation}
use Rattle.image.specs.declared.instruction.Operation.TheVariants as op
use Rattle.types.specs.Shapes.{shape_of}
use Rattle.expr_code.specs.ExpressionCode.{address_code, whole_of}
use Rattle.expr_code.specs.Locating.{IsPath}
use Rattle.expr_code.specs.Seeing.{Package, Sees, Suits, library_of}
use Rattle.expr_code.specs.declared.part.PartAt.{PartAt}
use Rattle.expr_code.proofs.PartWorks.{PathWorks, all_left}
use Rattle.types.specs.declared.entity.Subtype.{Subtype}
use Rattle.types.specs.Scopes.{form_at}
use Rattle.expr_soundness.specs.Laws.{ExpressionsAreTyped}
use Rattle.expr_code.specs.Appending.{Appends}
use Rattle.expr_code.specs.Code.{here}
use Rattle.expr_code.specs.Emitting.{EmitsChecked, IsFit}
use Rattle.expr_code.specs.Pieces.{Made, Piece, adds, one, ◌▸◌}
use Rattle.expr_code.specs.Providing.{is_passable}
use Rattle.expr_code.specs.Refusing.{selectors_peak}
use Rattle.expr_code.specs.Views.{At}
use Rattle.expr_code.specs.declared.code.Code.{Code}
use Rattle.expr_code.specs.declared.visible.Visible.{Visible}
use Rattle.expr_code.proofs.Checking.{shaped}
use Rattle.expr_code.proofs.ExpressionWorks.{appends_extends, placed}
use Rattle.expr_code.proofs.NameWorks.{WorksChecked}
use Rattle.expr_code.proofs.PassedWorks.{is_known, passable_word}
use Rattle.expr_code.proofs.Pieces.{make}
use Rattle.expr_code.proofs.StandingPieces.{Between, FitsOr, both_stand, fits_more, fits_one, fits_then, one_stands, pushes}

-- what was put together from nothing
pub code_is : (old : Code) (m new : Made) (a : Piece) (n : ℕ) → m ≡ make n [] → n ≡ here old → new ≡ adds m a → new.code ≡ a (here old)
unfolding adds
code_is old m new a n empty at h =
    ap (λ x. x.code) (h ∙ ap (λ x. adds x a) empty) ∙ ap a (let e : n + 0 ≡ here old = omega (arith, at) in e)

module _ (v : Visible) (old new : Code) (depth : ℕ) (e : ExprTree) (f : Made) (a : Piece) (is : f.code ≡ a (here old)) where
  module _ (t : Subtype) (w : WorksChecked v depth t e a) where
    pub checked_emits : ExpressionsAreTyped → is_passable v.scope t ≡ true → IsFit v.scope t e → Appends old f.code new → EmitsChecked v old depth t e new
    checked_emits laws passable fit p =
        let h = subst (λ l. Appends old l new) is p in
        let at = placed old new a h in
        let long = at.long in
        record {
          extends = appends_extends old new (a (here old)) h;
          sized = let few = w.fits.sized (here old) in let most = w.few in omega (arith, long, few, most);
          computes = λ i holds g. w.computes i (here old) (here new) (at.stands i holds) g;
          flows = record {
            flows = λ i s holds suits deep high ends.
                let same = h.deepest in w.fits.leads.leads i s (here old) (here new) (at.stands i holds) suits (omega (arith, same, deep)) high ends;
          };
          known = is_known (form_at v.scope t.type_number) passable;
          single = passable_word v.scope t passable;
          typed = shaped laws v t e fit;
        }

-- ---- the address of an object or a part of one

starts_with_one : (depth offset : ℕ) (last : PartAt) (a : Piece) (m n : ℕ) → n ≡ m + length (address_code depth offset last a m) → suc m ≤ n
unfolding one ◌▸◌
starts_with_one depth offset last a m n e = omega (arith, e)

-- where it stands in an image
pub record AddressStands (i : Sections) (v : Visible) (from to offset : ℕ) (t : Subtype) (last : PartAt) (all : SelectorTrees) : Type 0 where
  pub push : At i from (op.Push (pos offset +ℤ last.shift))
  pub up : suc from ≤ to
  pub goes : (g : Package)
      → IsPath i (library_of g) (Sees g v) (suc from) to last.shift t (shape_of v.scope t) all last.subtype (shape_of v.scope last.subtype)

module _ (U : Type 0) (v : Visible) (depth offset : ℕ) (t : Subtype) (all : SelectorTrees) (last : PartAt) (a : Piece)
    (q : PathWorks U v depth (whole_of t) last all a) where
  abbrev push : Operation
  push = op.Push (pos offset +ℤ last.shift)

  pub address_fits : FitsOr U (Suits v) (20 * selectors_size all + 1) (depth + selectors_peak v.scope 1 all) depth (depth + 1) (address_code depth offset last a)
  address_fits =
      let few = q.few in
      fits_more (Suits v) (1 + q.long) (20 * selectors_size all + 1) (depth + selectors_peak v.scope 1 all) (depth + selectors_peak v.scope 1 all) depth (depth + 1)
      (address_code depth offset last a) (omega (arith, few)) (omega arith)
      (fits_then (Suits v) 1 q.long (depth + selectors_peak v.scope 1 all) depth (depth + 1) (depth + 1) (one depth push) a
      (fits_one (Suits v) (depth + selectors_peak v.scope 1 all) depth (depth + 1) push (omega arith) (pushes (Suits v) depth (pos offset +ℤ last.shift))) q.fits)

  pub address_stands : (i : Sections) (from to : ℕ) → Between i from to (address_code depth offset last a) → AddressStands i v from to offset t last all
  address_stands i from to h =
      let both = both_stand i from to (one depth push) a h in
      let pushed = one_stands i from both.mid depth push both.first in
      record {
        push = (depth, pushed.there);
        up = starts_with_one depth offset last a from to h.ends;
        goes = λ g.
            subst (λ n. IsPath i (library_of g) (Sees g v) n to last.shift t (shape_of v.scope t) all last.subtype (shape_of v.scope last.subtype)) pushed.ends
            (subst (λ z. IsPath i (library_of g) (Sees g v) both.mid to z t (shape_of v.scope t) all last.subtype (shape_of v.scope last.subtype))
            (all_left last.shift) (q.goes i both.mid to both.second g));
      }
