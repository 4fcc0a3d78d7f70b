-- Code of actual parameters that was added, one behind the other (RM 6.4.1): nothing, values of mode `in`, and more behind others.
use Rattle.std.proofs.Common.{◌≡◌, ℕ, ◌≤◌, List, [], ◌∷◌, ◌++◌, append_assoc, length, map, Bool, true, false, cond, refl, sym, ap, subst, arith}
use Rattle.std.proofs.lemmas.List.{length-append}
use Rattle.kernel.specs.Laws.{QuietStays}
use Rattle.ada_tree.specs.ExpressionTree.{ArgumentTree}
use Rattle.image.specs.Sections.{Sections}
use Rattle.types.specs.declared.entity.FormalParameter.{FormalParameter}
use Rattle.expr_soundness.specs.meaning.specs.Calls.{is_in, results}
use Rattle.expr_soundness.specs.meaning.specs.Programs.{Parameter, Program}
use Rattle.step_soundness.specs.Fitting.{formal_of}
use Rattle.expr_code.specs.Actuals.{arguments_in_front}
use Rattle.expr_code.specs.Seeing.{Package, Sees, library_of}
use Rattle.expr_code.proofs.Actuals.{in_front_then}
use Rattle.part_code.specs.declared.call.Destination.{Destination}
use Rattle.part_code.specs.Passing.{ArePassedInFront, ArePassedAndPlaced, ComputesActuals}
use Rattle.part_code.specs.Resting.{Framed}
use Rattle.part_code.proofs.Actuals.{ComputesActual, computes_more}
use Rattle.part_code.proofs.PassingWell.{PassesWell, passes_more}

-- ---- lists

results_then : (ps qs : List Parameter) → results (ps ++ qs) ≡ results ps ++ results qs
results_then [] qs = refl
results_then (f ∷ ps) qs = by_test (is_in f.mode) (results_then ps qs)
  where
    by_test : (b : Bool) → results (ps ++ qs) ≡ results ps ++ results qs
        → cond b (results (ps ++ qs)) (f.name ∷ results (ps ++ qs)) ≡ cond b (results ps) (f.name ∷ results ps) ++ results qs
    by_test true e = e
    by_test false e = ap (λ l. f.name ∷ l) e

-- parameters with these formals and others behind them
pub record Split (ps : List Parameter) (fs gs : List FormalParameter) : Type 0 where
  pub front : List Parameter
  pub back : List Parameter
  pub is : ps ≡ front ++ back
  pub first : map formal_of front ≡ fs
  pub second : map formal_of back ≡ gs

same_head : {A : Type 0} (x y : A) (xs ys : List A) → x ∷ xs ≡ y ∷ ys → x ≡ y
same_head x y xs ys h = cc

same_tail : {A : Type 0} (x y : A) (xs ys : List A) → x ∷ xs ≡ y ∷ ys → xs ≡ ys
same_tail x y xs ys h = cc

pub split : (ps : List Parameter) (fs gs : List FormalParameter) → map formal_of ps ≡ fs ++ gs → Split ps fs gs
split ps [] gs h = record { front = []; back = ps; is = refl; first = refl; second = h }
split [] (f ∷ fs) gs h = absurd cc
split (p ∷ ps) (f ∷ fs) gs h =
    let inner = split ps fs gs (same_tail (formal_of p) f (map formal_of ps) (fs ++ gs) h) in
    let one = same_head (formal_of p) f (map formal_of ps) (fs ++ gs) h in
    record {
      front = p ∷ inner.front;
      back = inner.back;
      is = ap (λ l. p ∷ l) inner.is;
      first = λ j. one j ∷ inner.first j;
      second = inner.second;
    }

-- one parameter alone
pub record IsAlone (ps : List Parameter) (f : FormalParameter) : Type 0 where
  pub parameter : Parameter
  pub is : ps ≡ parameter ∷ []
  pub formal : formal_of parameter ≡ f

pub alone : (ps : List Parameter) (f : FormalParameter) → map formal_of ps ≡ f ∷ [] → IsAlone ps f
alone [] f h = absurd cc
alone (p ∷ []) f h = record { parameter = p; is = refl; formal = same_head (formal_of p) f [] [] h }
alone (p ∷ q ∷ ps) f h = absurd cc

-- ---- in front of others

module _ (i : Sections) (program : Program) (g : Package) (v : Framed) where
  pub front_none : (from : ℕ) → ArePassedInFront i program g v from from [] [] []
  front_none from = record { computes = λ to qs rest le later. later; passes = λ qs rest es well. well; many = refl }

  pub front_then : (from mid to : ℕ) (ps qs : List Parameter) (one two : List ArgumentTree) (ds es : List Destination) → mid ≤ to
      → ArePassedInFront i program g v from mid ps one ds → ArePassedInFront i program g v mid to qs two es
      → ArePassedInFront i program g v from to (ps ++ qs) (one ++ two) (ds ++ es)
  front_then from mid to ps qs one two ds es up p q = record {
    computes = λ end others rest le later.
        subst (λ l. ComputesActuals i program g v from end l (arguments_in_front (one ++ two) rest)) (sym (append_assoc ps qs others))
        (subst (λ l. ComputesActuals i program g v from end (ps ++ (qs ++ others)) l) (sym (in_front_then one two rest))
        (p.computes end (qs ++ others) (arguments_in_front two rest) (omega (arith, up, le)) (q.computes end others rest le later)));
    passes = λ others rest hs well.
        subst (λ l. ArePassedAndPlaced i program g v l (arguments_in_front (one ++ two) rest) ((ds ++ es) ++ hs)) (sym (append_assoc ps qs others))
        (subst (λ l. ArePassedAndPlaced i program g v (ps ++ (qs ++ others)) l ((ds ++ es) ++ hs)) (sym (in_front_then one two rest))
        (subst (λ l. ArePassedAndPlaced i program g v (ps ++ (qs ++ others)) (arguments_in_front one (arguments_in_front two rest)) l) (sym (append_assoc ds es hs))
        (p.passes (qs ++ others) (arguments_in_front two rest) (es ++ hs) (q.passes others rest hs well))));
    many = (let a = length-append ds es in
        let b = length-append (results ps) (results qs) in
        let c = ap length (results_then ps qs) in
        omega (arith, a, b, c, p.many, q.many));
  }

  -- an actual parameter alone
  pub front_one : (quiet : QuietStays) (scope_is : program.scope ≡ g.scope) (from mid : ℕ) (f : Parameter) (x : ArgumentTree) (ds : List Destination) → from ≤ mid
      → ComputesActual quiet i (library_of g) (Sees g v.names) v.names from mid f x → PassesWell program g scope_is v f x ds
      → length ds ≡ length (results (f ∷ []))
      → ArePassedInFront i program g v from mid (f ∷ []) (x ∷ []) ds
  front_one quiet scope_is from mid f x ds up computes passes many = record {
    computes = λ to qs rest le later. computes_more quiet i (library_of g) (Sees g v.names) v.names from mid to f qs x rest up le computes later;
    passes = λ qs rest es well. passes_more program g scope_is v f qs x rest ds es passes well;
    many = many;
  }
