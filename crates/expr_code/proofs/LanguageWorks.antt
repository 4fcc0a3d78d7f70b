-- The code of calls of functions of the language, wherever it stands.
use Rattle.std.proofs.Common.{◌≡◌, ℕ, ◌+◌, ap, ◌∙◌, None, Some, refl, sym, subst, arith}
use Rattle.std.specs.Prelude.{pos}
use Rattle.kernel.specs.Laws.{QuietStays}
use Rattle.ada_tree.specs.declared.expression.Identifier.{Identifier}
use Rattle.ada_tree.specs.ExpressionTree as tree
use Rattle.ada_tree.specs.ExpressionTree.{ExprTree, SelectorTrees}
use Rattle.image.specs.declared.instruction.Operation.TheVariants as op
use Rattle.types.specs.declared.entity.PredefinedOperation.{PredefinedOperation}
use Rattle.types.specs.declared.entity.PredefinedOperation.TheVariants as predefined
use Rattle.types.specs.Entities.{Predefined}
use Rattle.types.specs.Evaluating.{Calls, fixed_value, name_with}
use Rattle.types.specs.Evaluations.{Gives}
use Rattle.types.specs.Places.{IsPredefined, Place}
use Rattle.types.specs.Scopes.{integer, number_of}
use Rattle.types.specs.Standings.{standing_of, stands_first, stands_for}
use Rattle.types.specs.Values.{Number}
use Rattle.expr_soundness.specs.Laws.{ExpressionsAreTyped}
use Rattle.expr_soundness.specs.SoundScopes.{SoundScope}
use Rattle.expr_code.specs.Actuals.{applied_to}
use Rattle.expr_code.specs.Computing.{Computes, ComputesChecked}
use Rattle.expr_code.specs.Emitting.{IsLegalExpression}
use Rattle.expr_code.specs.Pieces.{Piece, one, ◌▸◌}
use Rattle.expr_code.specs.Refusing.{checked_peak, factors_below, peak, words_below}
use Rattle.expr_code.specs.Seeing.{NamesOperation, Sees, Suits, library_of}
use Rattle.expr_code.specs.declared.visible.Visible.{Visible}
use Rattle.expr_code.proofs.Checking.{is_a_number}
use Rattle.expr_code.proofs.ExpressionWorks.{Works}
use Rattle.expr_code.proofs.Language.{means, none, one_fit, times, with_one}
use Rattle.expr_code.proofs.NameWorks.{WorksChecked}
use Rattle.expr_code.proofs.Naming.{computes_clock, computes_microseconds, computes_milliseconds, computes_read}
use Rattle.expr_code.proofs.Refusals.{peak_some}
use Rattle.expr_code.proofs.StandingPieces.{both_stand, fits_more, fits_one, fits_then, one_stands, pushes}

-- the words below what is in the parentheses
below_is : (v : Visible) (first : Identifier) (o : PredefinedOperation) (names : NamesOperation v.scope first.name o)
    → words_below v.scope (stands_first v.scope (number_of v.scope first.name)) ≡ factors_below (Some (Predefined o names.profile))
below_is v first o names =
    ap (words_below v.scope) (ap (stands_first v.scope) names.numbered ∙ ap (stands_for names.number) names.stands) ∙ ap factors_below names.stands

module _ (quiet : QuietStays) (v : Visible) (sound : SoundScope v.scope) (first : Identifier) (d : ℕ) where
  pub clock_works : (names : NamesOperation v.scope first.name predefined.Clock) (all : SelectorTrees)
      → ((calls : Calls) (p : Place) → name_with calls p (IsPredefined predefined.Clock) all ≡ Gives (Number p.now))
      → IsLegalExpression v.scope (tree.Named first all) → fixed_value (standing_of v.scope first all) ≡ None → Works v d 1 (tree.Named first all) (one d op.Clock)
  clock_works names all alone legal no_value = record {
    long = 1;
    few = omega arith;
    fits = fits_one (Suits v) (d + peak v.scope (tree.Named first all)) d (d + 1) op.Clock (omega arith)
        (record { operands = refl; names = λ i s h. refl; takes = λ i s h. omega arith; leaves = λ i s h. omega arith; stays = refl; is_none = refl });
    computes = λ i from to h g.
        let it = one_stands i from to d op.Clock h in
        subst (λ n. Computes i (library_of g) (Sees g v) from n (tree.Named first all)) (sym it.ends)
        (computes_clock quiet i (library_of g) (Sees g v) from first all alone (means quiet v sound first predefined.Clock names all legal no_value g)
        (times quiet v sound first g) (d, it.there));
  }

  module _ (e : ExprTree) (legal : IsLegalExpression v.scope (applied_to first e)) (a : Piece) where
    pub microseconds_works : NamesOperation v.scope first.name predefined.Microseconds → WorksChecked v d integer e a → Works v d 1 (applied_to first e) a
    microseconds_works names p =
        let below = below_is v first predefined.Microseconds names in
        record {
          long = p.long;
          few = omega (arith, p.few);
          fits = fits_more (Suits v) p.long p.long (d + checked_peak (peak v.scope e)) (d + peak v.scope (applied_to first e)) d (d + 1) a (omega arith)
              (omega (arith, below)) p.fits;
          computes = λ i from to h g.
              computes_microseconds quiet i (library_of g) (Sees g v) from to first e
              (means quiet v sound first predefined.Microseconds names (with_one e) legal (none quiet v sound first e legal predefined.Microseconds names) g)
              (p.computes i from to h g);
        }

    pub milliseconds_works : NamesOperation v.scope first.name predefined.Milliseconds → WorksChecked v (d + 1) integer e a
        → Works v d 1 (applied_to first e) (one d (op.Push (pos 1000)) ▸ a ▸ one (d + 1 + 1) op.Multiply)
    milliseconds_works names p =
        let below = below_is v first predefined.Milliseconds names in
        let top = d + peak v.scope (applied_to first e) in
        record {
          long = 1 + (p.long + 1);
          few = omega (arith, p.few);
          fits = fits_then (Suits v) 1 (p.long + 1) top d (d + 1) (d + 1) (one d (op.Push (pos 1000))) (a ▸ one (d + 1 + 1) op.Multiply)
              (fits_one (Suits v) top d (d + 1) (op.Push (pos 1000)) (omega arith) (pushes (Suits v) d (pos 1000)))
              (fits_then (Suits v) p.long 1 top (d + 1) (d + 1 + 1) (d + 1) a (one (d + 1 + 1) op.Multiply)
              (fits_more (Suits v) p.long p.long (d + 1 + checked_peak (peak v.scope e)) top (d + 1) (d + 1 + 1) a (omega arith) (omega (arith, below)) p.fits)
              (fits_one (Suits v) top (d + 1 + 1) (d + 1) op.Multiply (omega (arith, below))
              (record { operands = refl; names = λ i s h. refl; takes = λ i s h. omega arith; leaves = λ i s h. omega arith; stays = refl; is_none = refl })));
          computes = λ i from to h g.
              let whole = both_stand i from to (one d (op.Push (pos 1000))) (a ▸ one (d + 1 + 1) op.Multiply) h in
              let push = one_stands i from whole.mid d (op.Push (pos 1000)) whole.first in
              let rest = both_stand i whole.mid to a (one (d + 1 + 1) op.Multiply) whole.second in
              let multiply = one_stands i rest.mid to (d + 1 + 1) op.Multiply rest.second in
              subst (λ n. Computes i (library_of g) (Sees g v) from n (applied_to first e)) (sym multiply.ends)
              (computes_milliseconds quiet i (library_of g) (Sees g v) from rest.mid first e
              (means quiet v sound first predefined.Milliseconds names (with_one e) legal (none quiet v sound first e legal predefined.Milliseconds names) g)
              (omega (arith, push.ends, rest.up)) (d, push.there)
              (subst (λ n. ComputesChecked i (library_of g) (Sees g v) n rest.mid integer e) (let k : whole.mid ≡ from + 1 = omega (arith, push.ends) in k)
              (p.computes i whole.mid rest.mid rest.first g))
              (d + 1 + 1, multiply.there));
        }

    pub read_works : ExpressionsAreTyped → NamesOperation v.scope first.name predefined.Read → Works v d 1 e a → Works v d 1 (applied_to first e) (a ▸ one (d + 1) op.ReadInput)
    read_works laws names p =
        let below = below_is v first predefined.Read names in
        let some = peak_some v.scope (applied_to first e) in
        let top = d + peak v.scope (applied_to first e) in
        let fit = one_fit v.scope sound first predefined.Read names e (λ is. cc) legal in
        record {
          long = p.long + 1;
          few = omega (arith, p.few);
          fits = fits_then (Suits v) p.long 1 top d (d + 1) (d + 1) a (one (d + 1) op.ReadInput)
              (fits_more (Suits v) p.long p.long (d + peak v.scope e) top d (d + 1) a (omega arith) (omega (arith, below)) p.fits)
              (fits_one (Suits v) top (d + 1) (d + 1) op.ReadInput (omega (arith, some))
              (record { operands = refl; names = λ i s h. refl; takes = λ i s h. omega arith; leaves = λ i s h. omega arith; stays = refl; is_none = refl }));
          computes = λ i from to h g.
              let both = both_stand i from to a (one (d + 1) op.ReadInput) h in
              let read = one_stands i both.mid to (d + 1) op.ReadInput both.second in
              subst (λ n. Computes i (library_of g) (Sees g v) from n (applied_to first e)) (sym read.ends)
              (computes_read quiet i (library_of g) (Sees g v) from both.mid first e
              (means quiet v sound first predefined.Read names (with_one e) legal (none quiet v sound first e legal predefined.Read names) g) (times quiet v sound first g)
              (is_a_number laws i v g integer e fit sound.integer) both.up (p.computes i from both.mid both.first g) (d + 1, read.there));
        }
