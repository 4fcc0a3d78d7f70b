-- The code of actual parameters and of the call behind them, wherever it stands.
use Rattle.std.proofs.Common.{◌≡◌, ◌≤◌, ℕ, ◌+◌, ◌*◌, List, [], ◌∷◌, map, true, Some, subst, sym, ◌∙◌, arith}
use Rattle.std.specs.Prelude.{max, ⊤}
use Rattle.kernel.specs.Laws.{QuietStays}
use Rattle.ada_tree.specs.declared.expression.Identifier.{Identifier}
use Rattle.ada_tree.specs.ExpressionTree as tree
use Rattle.ada_tree.specs.ExpressionTree.{ArgumentTrees, Arguments, ExprTree, MoreArguments, MoreSelectors, NoArguments, NoSelectors, SelectorTrees}
use Rattle.ada_tree.specs.Size.{arguments_size, expr_size}
use Rattle.image.specs.Sections.{Sections}
use Rattle.image.specs.declared.instruction.Operation.{Operation}
use Rattle.types.specs.declared.entity.Subtype.{Subtype}
use Rattle.types.specs.Entities.{TypeForm}
use Rattle.types.specs.Evaluating.{Calls, actuals_with, passed, value_with}
use Rattle.types.specs.Evaluations.{Gives, and_then}
use Rattle.types.specs.Places.{Place}
use Rattle.types.specs.Scopes.{form_at}
use Rattle.types.specs.Shapes.{has_shape, shape_of}
use Rattle.types.specs.Values.{Value}
use Rattle.expr_soundness.specs.Laws.{ExpressionsAreTyped}
use Rattle.expr_soundness.specs.Lying.{OnGives, are_between}
use Rattle.expr_soundness.proofs.Lies.{actuals_between}
use Rattle.expr_soundness.proofs.Parts.{same_values}
use Rattle.expr_code.specs.Computing.{AlwaysNames, ArePassed, ArePassedWell, Computes, ComputesAll}
use Rattle.expr_code.specs.Emitting.{IsFit}
use Rattle.expr_code.specs.Pieces.{Piece, nothing, one, ◌▸◌}
use Rattle.expr_code.specs.Refusing.{arguments_peak, peak}
use Rattle.expr_code.specs.Seeing.{Package, Sees, Suits, library_of}
use Rattle.expr_code.specs.Views.{View}
use Rattle.expr_code.specs.declared.visible.Visible.{Visible}
use Rattle.expr_code.proofs.Actuals.{both_given, no_values, passed_same}
use Rattle.expr_code.proofs.Checking.{shaped}
use Rattle.expr_code.proofs.ExpressionWorks.{Works}
use Rattle.expr_code.proofs.Flowing.{Changes}
use Rattle.expr_code.proofs.NameWorks.{WorksChecked}
use Rattle.expr_code.proofs.Passing.{computes_call, computes_more, computes_none}
use Rattle.expr_code.proofs.StandingPieces.{Between, Fits, both_stand, fits_more, fits_none, fits_one, fits_then, one_stands}

pub record WorksAll (v : Visible) (depth height : ℕ) (ts : List Subtype) (all : ArgumentTrees) (a : Piece) : Type 0 where
  pub long : ℕ
  pub few : long ≤ 20 * arguments_size all
  pub fits : Fits v long (depth + arguments_peak v.scope all) depth height a
  pub computes : (i : Sections) (from to : ℕ) → Between i from to a → (g : Package) → ComputesAll i (library_of g) (Sees g v) from to ts all

pub none_work : QuietStays → (v : Visible) (d : ℕ) → WorksAll v d d [] NoArguments nothing
unfolding nothing
none_work quiet v d = record {
  long = 0;
  few = omega arith;
  fits = fits_none (Suits v) (d + 0) d;
  computes = λ i from to h g.
      subst (λ n. ComputesAll i (library_of g) (Sees g v) from n [] NoArguments) (let e : from ≡ to = omega (arith, h.ends) in e)
      (computes_none quiet i (library_of g) (Sees g v) from);
}

pub more_work : QuietStays → (v : Visible) (d height : ℕ) (t : Subtype) (ts : List Subtype) (e : ExprTree) (rest : ArgumentTrees) (a b : Piece)
    → WorksChecked v d t e a → WorksAll v (d + 1) height ts rest b → WorksAll v d height (t ∷ ts) (MoreArguments (tree.Value e) rest) (a ▸ b)
more_work quiet v d height t ts e rest a b p q =
    let top = d + arguments_peak v.scope (MoreArguments (tree.Value e) rest) in
    record {
      long = p.long + q.long;
      few = omega (arith, p.few, q.few);
      fits = fits_then (Suits v) p.long q.long top d (d + 1) height a b
          (fits_more (Suits v) p.long p.long (d + max 3 (peak v.scope e)) top d (d + 1) a (omega arith) (omega arith) p.fits)
          (fits_more (Suits v) q.long q.long (d + 1 + arguments_peak v.scope rest) top (d + 1) height b (omega arith) (omega arith) q.fits);
      computes = λ i from to h g.
          let both = both_stand i from to a b h in
          computes_more quiet i (library_of g) (Sees g v) from both.mid to t ts e rest both.up both.on_ (p.computes i from both.mid both.first g)
          (q.computes i both.mid to both.second g);
    }

pub call_works : QuietStays → (v : Visible) (d height : ℕ) (operation : Operation) (first : Identifier) (selectors : SelectorTrees) (all : ArgumentTrees)
    (ts : List Subtype) (a : Piece) → WorksAll v d height ts all a
    → ((i : Sections) (g : Package) → AlwaysNames i (library_of g) (Sees g v) first selectors (MoreSelectors (Arguments all) NoSelectors) operation ts)
    → ((i : Sections) (g : Package) → ArePassedWell i (library_of g) (Sees g v) ts all)
    → Changes (Suits v) operation height (d + 1)
    → arguments_size all + 1 ≤ expr_size (tree.Named first selectors)
    → d + arguments_peak v.scope all ≤ d + peak v.scope (tree.Named first selectors) → height ≤ d + peak v.scope (tree.Named first selectors)
    → Works v d 1 (tree.Named first selectors) (a ▸ one height operation)
call_works quiet v d height operation first selectors all ts a p names passed changes larger low high = record {
  long = p.long + 1;
  few = omega (arith, p.few, larger);
  fits = fits_then (Suits v) p.long 1 (d + peak v.scope (tree.Named first selectors)) d height (d + 1) a (one height operation)
      (fits_more (Suits v) p.long p.long (d + arguments_peak v.scope all) (d + peak v.scope (tree.Named first selectors)) d height a (omega arith) low p.fits)
      (fits_one (Suits v) (d + peak v.scope (tree.Named first selectors)) height (d + 1) operation high changes);
  computes = λ i from to h g.
      let both = both_stand i from to a (one height operation) h in
      let it = one_stands i both.mid to height operation both.second in
      subst (λ n. Computes i (library_of g) (Sees g v) from n (tree.Named first selectors)) (sym it.ends)
      (computes_call quiet i (library_of g) (Sees g v) from both.mid operation first selectors all ts both.up (names i g) (passed i g)
      (p.computes i from both.mid both.first g) (height, it.there));
}

-- ---- what is passed

-- each argument is an expression that fits its subtype
abbrev pub AreFit : Visible → List Subtype → ArgumentTrees → Type 0
AreFit v [] NoArguments = ⊤
AreFit v (t ∷ ts) (MoreArguments (tree.Value e) rest) = IsFit v.scope t e × ((form : TypeForm) × (form_at v.scope t.type_number ≡ Some form)) × AreFit v ts rest
AreFit v ts all = ⊥

module _ (laws : ExpressionsAreTyped) (v : Visible) (g : Package) (calls : Calls) (p : Place) (view : View) (sound : (library_of g).sound calls)
    (sees : Sees g v p view) where
  shapes_are : (ts : List Subtype) (all : ArgumentTrees) → AreFit v ts all → (vs : List Value) → actuals_with calls p all ts ≡ Gives vs
      → ArePassed (map (shape_of g.scope) ts) vs
  shapes_are [] NoArguments h vs is = no_values vs is
  shapes_are (t ∷ ts) (MoreArguments (tree.Value e) rest) h vs is =
      let two = both_given (and_then (value_with calls p e) (passed t)) (actuals_with calls p rest ts) vs is in
      let x = two.0 in
      let given = shaped laws v t e h.0 calls p sees.names.agrees (sound.0 p sees.unit.sound) x (passed_same t (value_with calls p e) x two.2) in
      let there = sym (same_values v.scope p.scope t x (sym (sees.names.agrees.shapes t.type_number h.1.0 h.1.1))) ∙ given in
      let fit = subst (λ s. has_shape (shape_of s t) x ≡ true) sees.unit.scope there in
      subst (λ l. ArePassed (shape_of g.scope t ∷ map (shape_of g.scope) ts) l) two.4 (fit, shapes_are ts rest h.2 two.1 two.3)
  shapes_are ts all h vs is = absurd h

pub passed_well : ExpressionsAreTyped → (v : Visible) (ts : List Subtype) (all : ArgumentTrees) → AreFit v ts all → (i : Sections) (g : Package)
    → ArePassedWell i (library_of g) (Sees g v) ts all
passed_well laws v ts all h i g calls p view function vs sound sees formals is =
    let shapes = shapes_are laws v g calls p view sound sees ts all h vs is in (
      subst (λ l. ArePassed (map (shape_of g.scope) l) vs) (sym formals) shapes,
      subst (λ us. are_between us vs ≡ true) (sym formals)
          (subst (OnGives (λ xs. are_between ts xs ≡ true)) is (actuals_between calls p all ts)),
    )
