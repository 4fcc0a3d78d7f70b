-- The code of all actual parameters, wherever it stands (RM 6.4.1).
use Rattle.std.proofs.Common.{◌≡◌, ℕ, suc, ◌+◌, ◌*◌, ◌≤◌, List, [], ◌∷◌, ◌++◌, length, map, cond, Option, Some, None, refl, sym, ap, ◌∙◌, subst, arith}
use Rattle.std.specs.Prelude.{max}
use Rattle.std.specs.List.{All}
use Rattle.std.proofs.lemmas.List.Elements.{All-cons, All-nil}
use Rattle.ada_tree.specs.declared.declaration.Mode.{Mode}
use Rattle.ada_tree.specs.declared.declaration.Mode.TheVariants as mode
use Rattle.ada_tree.specs.ExpressionTree as tree
use Rattle.ada_tree.specs.ExpressionTree.{ArgumentTree, ArgumentTrees, ExprTree, MoreArguments, NoArguments}
use Rattle.ada_tree.specs.Size.{argument_size, total}
use Rattle.image.specs.Sections.{Sections}
use Rattle.types.specs.declared.entity.FormalParameter.{FormalParameter}
use Rattle.types.specs.Layouts.{words_of}
use Rattle.expr_soundness.specs.expr_rules.specs.declared.own.Wanted.TheVariants.{OfType}
use Rattle.expr_soundness.specs.expr_rules.specs.ExpressionRules.{argument_faults}
use Rattle.expr_soundness.specs.expr_rules.specs.NameRules.{formal_slot}
use Rattle.expr_soundness.specs.SoundScopes.{AreKnown, IsKnown, SoundScope}
use Rattle.expr_soundness.specs.meaning.specs.Calls.{is_in}
use Rattle.expr_soundness.specs.meaning.specs.Programs.{Parameter, Program}
use Rattle.step_soundness.specs.Fitting.{formal_of}
use Rattle.expr_code.specs.Actuals.{ArePassedLegally, IsPassedLegally, arguments_in_front}
use Rattle.expr_code.specs.Computing.{ComputesChecked}
use Rattle.expr_code.specs.Emitting.{IsFit}
use Rattle.expr_code.specs.Pieces.{Piece, nothing, ◌▸◌}
use Rattle.expr_code.specs.Providing.{HasWhatExpressionsNeed}
use Rattle.expr_code.specs.Seeing.{Package, Sees, Suits, library_of}
use Rattle.expr_code.specs.declared.visible.Visible.{Visible}
use Rattle.expr_code.proofs.Checking.{shaped}
use Rattle.expr_code.proofs.StandingPieces.{Between, both_stand, fits_none, fits_then}
use Rattle.part_code.specs.Needs as needs
use Rattle.part_code.specs.Needs.{IsPartFit, Needs, actual_needs, actuals_needs, destinations_named, destinations_of, in_needs, in_out_needs, target_needs}
use Rattle.part_code.specs.PartCode.{actuals_code, actuals_height, actuals_targets, copied_in, fitting_code, moded_code, moded_height, moded_target, target_code, target_of, target_words, with_target, words_in}
use Rattle.part_code.specs.Passing.{ArePassedInFront, copied_width}
use Rattle.part_code.specs.Resting.{Framed}
use Rattle.part_code.specs.Suiting.{passed_width, returned_width}
use Rattle.part_code.specs.declared.call.Destination.{Destination}
use Rattle.part_code.proofs.Actuals.{computes_in}
use Rattle.part_code.proofs.CallsShallow.{label_illegal}
use Rattle.part_code.proofs.CoveredObjects.{known_taken}
use Rattle.part_code.proofs.Declaring.{IsTypedAs}
use Rattle.part_code.proofs.FittingWorks.{fitting_works}
use Rattle.part_code.proofs.InTurn.{alone, front_none, front_one, front_then, split}
use Rattle.part_code.proofs.LegalTargets.{actual_object, both_takes, name_legal, out_takes}
use Rattle.part_code.proofs.PassingWell.{passes_in}
use Rattle.part_code.proofs.PieceNeeds.{Keeps, Laws, keeps_within}
use Rattle.part_code.proofs.TargetWorks.{ActualWorks, both_works, out_works, target_works}
use Rattle.part_code.proofs.Within.{Within, in_left, in_right, within_self, within_then}

none_stand : (i : Sections) (from to : ℕ) → Between i from to nothing → from ≡ to
unfolding nothing
none_stand i from to h = omega (arith, h.ends)

module _ (laws : Laws) (v : Visible) (sound : SoundScope v.scope) (covered : HasWhatExpressionsNeed v) where
  -- ---- one of them

  module _ (d : ℕ) (f : FormalParameter) (known : IsKnown v.scope f.subtype) (e : ExprTree) (legal : IsPassedLegally v.scope f (tree.Value e)) where
    abbrev by_needs : Mode → Needs
    by_needs m = elim m [ mode.In ↦ in_needs d v f.subtype e | mode.Out ↦ target_needs d v e | mode.InOut ↦ in_out_needs d v f.subtype e ]

    value_fit : f.mode ≡ mode.In → IsFit v.scope f.subtype e
    value_fit is = record {
      wanted = OfType f.subtype.type_number;
      fits = refl;
      unbroken = (let g : argument_faults v.scope (formal_slot (record f { mode = mode.In })) (tree.Value e) ≡ [] =
          ap (λ m. argument_faults v.scope (formal_slot (record f { mode = m })) (tree.Value e)) (sym is) ∙ legal in g);
    }

    in_works : f.mode ≡ mode.In → ActualWorks v d f e [] (d + words_in v.scope f.subtype) (fitting_code v d f.subtype e)
    in_works is =
        let fit = value_fit is in
        let taken = known_taken v.scope f.subtype known in
        let w = fitting_works laws v sound covered d f.subtype e fit taken in
        let a = fitting_code v d f.subtype e in
        let n = words_in v.scope f.subtype in
        record {
          long = w.long;
          few = (let few = w.few in omega (arith, few));
          keeps = subst (λ m. Keeps m (Suits v) w.long d (d + n) a) (sym (ap by_needs is)) w.keeps;
          high = λ i from to h.
              let same = w.words i from to h in
              let wide = ap {B = ℕ} (λ m. elim m [ mode.In ↦ words_of v.scope f.subtype | mode.Out ↦ 1 | mode.InOut ↦ suc (words_of v.scope f.subtype) ]) is in
              omega (arith, same, wide);
          low = subst (λ m. d + n ≤ m.stack) (sym (ap by_needs is)) (let least : n ≤ words_of v.scope f.subtype = omega arith in enough n _ _ least);
          most = (let wide = ap {B = ℕ} (λ m. elim m [ mode.In ↦ words_of v.scope f.subtype | mode.Out ↦ 1 | mode.InOut ↦ suc (words_of v.scope f.subtype) ]) is in
              let least : n ≤ words_of v.scope f.subtype = omega arith in
              omega (arith, wide, least));
          destinations = ap {B = List Destination} (λ m. elim m [ mode.In ↦ [] | mode.Out ↦ destinations_named v e | mode.InOut ↦ destinations_named v e ]) is;
          back = ap {B = ℕ} (λ m. elim m [ mode.In ↦ 0 | mode.Out ↦ suc (words_of v.scope f.subtype) | mode.InOut ↦ suc (words_of v.scope f.subtype) ]) is;
          fits = All-nil (IsPartFit v);
          stands = λ i from to h program g u names scope ps same.
              let it = alone ps f same in
              let q = it.parameter in
              let moded : q.mode ≡ mode.In = ap (λ x. x.mode) it.formal ∙ is in
              let typed : f.subtype ≡ q.subtype = ap (λ x. x.subtype) (sym it.formal) in
              let computes = subst (λ t. ComputesChecked i (library_of g) (Sees g u.names) from to t e) typed
              (subst (λ x. ComputesChecked i (library_of g) (Sees g x) from to f.subtype e) (sym names) (w.computes i from to h g)) in
              let of_type = subst (λ t. IsTypedAs u.names t e) typed
              (subst (λ x. IsTypedAs x f.subtype e) (sym names) (record { known = known; typed = shaped laws.typed v f.subtype e fit })) in
              subst (λ l. ArePassedInFront i program g u from to l (tree.Value e ∷ []) []) (sym it.is)
              (front_one i program g u laws.quiet scope from to q (tree.Value e) [] (let ends = h.ends in omega (arith, ends))
              (computes_in laws.quiet i (library_of g) (Sees g u.names) u.names from to q e moded computes) (passes_in program g scope u q e moded of_type)
              (sym (ap (λ m. length (cond (is_in m) [] (q.name ∷ []))) moded)));
        }
      where
        enough : (n m c : ℕ) → n ≤ m → d + n ≤ d + max m c
        enough n m c up = omega (arith, up)

    abbrev DoesWork : Type 0
    DoesWork = ActualWorks v d f e (with_target (moded_target v f e) []) (moded_height v d f e) (moded_code v d f e)

    abbrev by_mode : Mode → Type 0
    by_mode m = ActualWorks v d f e
        (with_target (elim m [ mode.In ↦ None | mode.Out ↦ target_of v e | mode.InOut ↦ target_of v e ]) [])
        (elim m [ mode.In ↦ d + words_in v.scope f.subtype | mode.Out ↦ d + 1 | mode.InOut ↦ d + 1 + target_words v.scope (target_of v e) ])
        (elim m [ mode.In ↦ fitting_code v d f.subtype e | mode.Out ↦ target_code v d e | mode.InOut ↦ target_code v d e ▸ copied_in v d (target_of v e) f.subtype ])

    pub moded_works : DoesWork
    moded_works = by_cases f.mode refl
      where
        by_cases : (m : Mode) → f.mode ≡ m → DoesWork
        by_cases mode.In is = subst by_mode (sym is) (in_works is)
        by_cases mode.Out is =
            let takes = out_takes f is in
            let target = target_works laws v sound covered d e (name_legal v.scope f e takes legal) (actual_object v sound covered f e takes legal) in
            subst by_mode (sym is)
            (subst (λ o. ActualWorks v d f e (with_target o []) (d + 1) (target_code v d e)) (sym target.target)
            (out_works laws v d e (target_code v d e) target f takes legal known is))
        by_cases mode.InOut is =
            let takes = both_takes f is in
            let target = target_works laws v sound covered d e (name_legal v.scope f e takes legal) (actual_object v sound covered f e takes legal) in
            subst by_mode (sym is)
            (subst (λ o. ActualWorks v d f e (with_target o []) (d + 1 + target_words v.scope o) (target_code v d e ▸ copied_in v d o f.subtype)) (sym target.target)
            (both_works laws v d e (target_code v d e) target f takes legal known is))

-- ---- all of them

-- what is needed above more words
deeper : (v : Visible) (d k : ℕ) → d ≤ k → (f : FormalParameter) (a : ArgumentTree) → Within (actual_needs d v f a) (actual_needs k v f a)
deeper v d k up f (tree.Text label place) = within_self needs.nothing
deeper v d k up f (tree.Value e) = by_mode f.mode
  where
    by_mode : (m : Mode) → Within (elim m [ mode.In ↦ in_needs d v f.subtype e | mode.Out ↦ target_needs d v e | mode.InOut ↦ in_out_needs d v f.subtype e ])
        (elim m [ mode.In ↦ in_needs k v f.subtype e | mode.Out ↦ target_needs k v e | mode.InOut ↦ in_out_needs k v f.subtype e ])
    by_mode mode.In = record { stack = omega (arith, up); frame = omega arith; unfit = λ u. u }
    by_mode mode.Out = by_name e
      where
        by_name : (x : ExprTree) → Within (target_needs d v x) (target_needs k v x)
        by_name (tree.Named first all) = record { stack = omega (arith, up); frame = omega arith; unfit = λ u. u }
        by_name x = within_self needs.nothing
    by_mode mode.InOut = by_name e
      where
        by_name : (x : ExprTree) → Within (in_out_needs d v f.subtype x) (in_out_needs k v f.subtype x)
        by_name (tree.Named first all) = record { stack = larger _ _ d k up; frame = omega arith; unfit = λ u. u }
          where
            larger : (a b d k : ℕ) → d ≤ k → max (d + a) (d + b) ≤ max (k + a) (k + b)
            larger a b d k up = omega (arith, up)
        by_name x = within_self needs.nothing

all_with : (P : Destination → Type 0) (o : Option Destination) (rest : List Destination) → All P (with_target o []) → All P rest → All P (with_target o rest)
all_with P (Some x) rest p q = All-cons P x rest (p 0 x (omega arith)) q
all_with P None rest p q = q

with_long : (o : Option Destination) (rest : List Destination) → length (with_target o rest) ≡ length (with_target o []) + length rest
with_long (Some x) rest = omega arith
with_long None rest = omega arith

with_sum : (size : Destination → ℕ) (o : Option Destination) (rest : List Destination) → total size (with_target o rest) ≡ total size (with_target o []) + total size rest
with_sum size (Some x) rest = omega arith
with_sum size None rest = omega arith

with_rest : (o : Option Destination) (rest : List Destination) → with_target o [] ++ rest ≡ with_target o rest
with_rest (Some x) rest = refl
with_rest None rest = refl

-- of the whole, above `d` words, and needs above `k` words, of which there may be more
pub record ActualsWork (v : Visible) (d k : ℕ) (fs : List FormalParameter) (all : List ArgumentTree) (ds : List Destination) (height : ℕ) (a : Piece) : Type 0 where
  pub long : ℕ
  pub few : long + 4 * length ds ≤ 20 * total argument_size all
  pub keeps : Keeps (actuals_needs k v fs (arguments_in_front all NoArguments)) (Suits v) long d height a
  pub high : (i : Sections) (from to : ℕ) → Between i from to a → height ≡ d + total (passed_width v.scope) fs
  pub low : height ≤ max d (actuals_needs k v fs (arguments_in_front all NoArguments)).stack
  pub destinations : destinations_of v fs (arguments_in_front all NoArguments) ≡ ds
  pub back : total (returned_width v.scope) fs ≡ total (copied_width v.scope) ds
  pub fits : All (IsPartFit v) ds
  pub stands : (i : Sections) (from to : ℕ) → Between i from to a → (program : Program) (g : Package) (w : Framed) → w.names ≡ v → program.scope ≡ g.scope
      → (ps : List Parameter) → map formal_of ps ≡ fs
      → ArePassedInFront i program g w from to ps all ds

no_parameters : (ps : List Parameter) → map formal_of ps ≡ [] → ps ≡ []
no_parameters [] h = refl
no_parameters (p ∷ ps) h = absurd cc

module _ (laws : Laws) (v : Visible) (sound : SoundScope v.scope) (covered : HasWhatExpressionsNeed v) where
  module _ (d k : ℕ) (up : d ≤ k) (f : FormalParameter) (fs : List FormalParameter) (e : ExprTree) (all : List ArgumentTree) (o : Option Destination)
      (ds : List Destination) (height last : ℕ) (a b : Piece) (p : ActualWorks v d f e (with_target o []) height a)
      (q : ActualsWork v height (k + passed_width v.scope f) fs all ds last b) where
    abbrev rest : ArgumentTrees
    rest = arguments_in_front all NoArguments

    abbrev whole : Needs
    whole = actuals_needs k v (f ∷ fs) (MoreArguments (tree.Value e) rest)

    abbrev own : Needs
    own = actual_needs k v f (tree.Value e)

    abbrev others : Needs
    others = actuals_needs (k + passed_width v.scope f) v fs rest

    one_more : ActualsWork v d k (f ∷ fs) (tree.Value e ∷ all) (with_target o ds) last (a ▸ b)
    one_more =
        let first = within_then (actual_needs d v f (tree.Value e)) own whole (deeper v d k up f (tree.Value e)) (in_left own others) in
        record {
          long = p.long + q.long;
          few = (let one = p.few in let two = q.few in let many = with_long o ds in omega (arith, one, two, many));
          keeps = fits_then (Suits v) p.long q.long whole.stack d height last a b
              (keeps_within (actual_needs d v f (tree.Value e)) whole (Suits v) p.long d height a first p.keeps)
              (keeps_within others whole (Suits v) q.long height last b (in_right own others) q.keeps);
          high = λ i from to h.
              let two = both_stand i from to a b h in
              let one_ = p.high i from two.mid two.first in
              let more = q.high i two.mid to two.second in
              omega (arith, one_, more);
          low = (let one_ = p.low in let more = q.low in let high = first.stack in let behind = (in_right own others).stack in omega (arith, one_, more, high, behind));
          destinations = (λ j. p.destinations j ++ q.destinations j) ∙ with_rest o ds;
          back = (let one_ = p.back in let more = q.back in let sum = with_sum (copied_width v.scope) o ds in omega (arith, one_, more, sum));
          fits = all_with (IsPartFit v) o ds p.fits q.fits;
          stands = λ i from to h program g w names scope ps same.
              let two = both_stand i from to a b h in
              let parts = split ps (f ∷ []) fs same in
              subst (λ l. ArePassedInFront i program g w from to l (tree.Value e ∷ all) (with_target o ds)) (sym parts.is)
              (subst (λ l. ArePassedInFront i program g w from to (parts.front ++ parts.back) (tree.Value e ∷ all) l) (with_rest o ds)
              (front_then i program g w from two.mid to parts.front parts.back (tree.Value e ∷ []) all (with_target o []) ds two.on_
              (p.stands i from two.mid two.first program g w names scope parts.front parts.first)
              (q.stands i two.mid to two.second program g w names scope parts.back parts.second)));
        }

  pub actuals_work : (d k : ℕ) → d ≤ k → (fs : List FormalParameter) (all : List ArgumentTree) → length all ≡ length fs → AreKnown v.scope fs
      → ArePassedLegally v.scope fs all
      → ActualsWork v d k fs all (actuals_targets v fs (arguments_in_front all NoArguments)) (actuals_height v d fs (arguments_in_front all NoArguments))
      (actuals_code v d fs (arguments_in_front all NoArguments))
  actuals_work d k up [] [] many known legal = record {
    long = 0;
    few = omega arith;
    keeps = fits_none (Suits v) 0 d;
    high = λ i from to h. omega arith;
    low = omega arith;
    destinations = refl;
    back = refl;
    fits = All-nil (IsPartFit v);
    stands = λ i from to h program g w names scope ps same.
        subst (λ l. ArePassedInFront i program g w from to l [] []) (sym (no_parameters ps same))
        (subst (λ n. ArePassedInFront i program g w from n [] [] []) (none_stand i from to h) (front_none i program g w from));
  }
  actuals_work d k up [] (a ∷ all) many known legal = absurd (omega (arith, many))
  actuals_work d k up (f ∷ fs) [] many known legal = absurd (omega (arith, many))
  actuals_work d k up (f ∷ fs) (tree.Text label place ∷ all) many known legal = absurd (label_illegal v.scope f label place (legal 0 f (tree.Text label place) refl refl))
  actuals_work d k up (f ∷ fs) (tree.Value e ∷ all) many known legal =
      let p = moded_works laws v sound covered d f known.0 e (legal 0 f (tree.Value e) refl refl) in
      let most = p.most in
      one_more d k up f fs e all (moded_target v f e) _ (moded_height v d f e) _ (moded_code v d f e) _ p
      (actuals_work (moded_height v d f e) (k + passed_width v.scope f) (omega (arith, most, up)) fs all (omega (arith, many)) known.1 (λ n. legal (suc n)))
