-- What the code of statements without others within does where it stands in an image, and that it keeps the rules of images there: ways out, exceptions that are
-- raised, and delays (RM 5.7, 6.5, 9.6, 11.3).
use Rattle.std.proofs.Common.{◌≡◌, ℕ, suc, ◌≤◌, [], Bool, true, false, cond, Option, None, Some, refl, sym, ap, ◌∙◌, subst, arith}
use Rattle.std.specs.Prelude.{is_some}
use Rattle.ada_tree.specs.declared.expression.Identifier.{Identifier}
use Rattle.ada_tree.specs.ExpressionTree.{ExprTree}
use Rattle.ada_tree.specs.StatementTree.{DelayUntil, Exit, Null, Raise, Return}
use Rattle.image.specs.Sections.{Sections}
use Rattle.image.specs.Rules.{has_depth}
use Rattle.image.specs.declared.instruction.Operation.{Operation}
use Rattle.image.specs.declared.instruction.Operation.TheVariants as op
use Rattle.image.specs.declared.instruction.Region.TheVariants as regions
use Rattle.image.specs.declared.subprograms.Subprogram.{Subprogram}
use Rattle.types.specs.Bounds.{bounds_of}
use Rattle.types.specs.Scopes.{integer}
use Rattle.expr_soundness.specs.BoundsLaw.{ValuesAreBounded, VisibleValuesLie, is_inside}
use Rattle.expr_soundness.specs.meaning.specs.Programs.{Program}
use Rattle.expr_code.specs.Computing.{Computes}
use Rattle.expr_code.specs.Emitting.{IsLegalExpression}
use Rattle.expr_code.specs.ExpressionCode.{expr_code}
use Rattle.expr_code.specs.Flows.{AreKeptBetween}
use Rattle.expr_code.specs.Pieces.{nothing, one, ◌▸◌}
use Rattle.expr_code.specs.Seeing.{Package, Sees, library_of}
use Rattle.expr_code.specs.Views.{At}
use Rattle.expr_code.proofs.ExpressionWorks.{Works}
use Rattle.expr_code.proofs.Flowing.{kept_one, kept_then, widened}
use Rattle.expr_code.proofs.StandingPieces.{both_stand, leads_one, leads_then, one_stands, one_test}
use Rattle.part_code.specs.Emitting.{IsReachable}
use Rattle.part_code.specs.Handling.{Handling}
use Rattle.part_code.specs.Raising.{raised_by}
use Rattle.part_code.specs.Resting.{Framed}
use Rattle.part_code.specs.Statements.{IsRaised, Numbers}
use Rattle.part_code.specs.Suiting.{SuitsStatements}
use Rattle.part_code.proofs.Jumps.{jump_kept}
use Rattle.stmt_code.specs.Drafting.{coded}
use Rattle.stmt_code.specs.Emitting.{Allows, Meant}
use Rattle.stmt_code.specs.SimpleCode.{delay_code, exit_code, jump_code, leaving_code, raise_code, raising, timed_code}
use Rattle.stmt_code.specs.StatementCode.{Site}
use Rattle.stmt_code.proofs.BranchesDo.{IsOne, works_leads}
use Rattle.stmt_code.proofs.Delaying.{timely}
use Rattle.stmt_code.proofs.PartsDo.{Does, does_coded, does_nothing, never_does, test_kept}
use Rattle.stmt_code.proofs.PartsStand.{coded_goes, coded_has, tidy_coded}
use Rattle.stmt_code.proofs.RaisesAdded.{means, puts}
use Rattle.stmt_code.proofs.TurnsDo.{one_before}

-- ---- nothing

pub does_null : (c : Site) (place : ℕ) → Does (IsOne c (Null place)) c [] (coded nothing)
does_null c place = does_nothing (IsOne c (Null place)) c (λ i program g numbers f r at. refl)

-- ---- ways out

-- a jump to a way out that is there
does_jump : (Is : Meant) (c : Site) (place : ℕ)
    → ((i : Sections) (u : Subprogram) (low high : ℕ) → Allows i u low high c.ways → IsReachable i low high place)
    → ((i : Sections) (program : Program) (g : Package) (numbers : Numbers) (f : Framed) (r : Handling) (from : ℕ) → At i from (op.Jump place)
    → Is i program g numbers f r from (suc from))
    → Does Is c [] (coded (one 0 (op.Jump place)))
unfolding coded
does_jump Is c place reached means_ = record {
  tidy = tidy_coded (one 0 (op.Jump place));
  stands = λ i program g numbers f r s to served h.
      let it = one_stands i s.place to 0 (op.Jump place) (coded_has i f.room s to (one 0 (op.Jump place)) h.part) in
      record {
        is = subst (λ n. Is i program g numbers f r s.place n) (sym it.ends) (means_ i program g numbers f r s.place (0, it.there));
        tells = tt;
      };
  flows = record {
    flows = λ i u low high s to k suits ways out ends.
        let it = one_stands i s.place to 0 (op.Jump place) (coded_has i u.locals s to (one 0 (op.Jump place)) k.part) in
        subst (λ n. AreKeptBetween i u low high s.place n 0) (sym it.ends) (jump_kept i u low high s.place place it.there (reached i u low high ways));
  };
}

pub does_return : (c : Site) (place : ℕ) → is_some c.ways.return ≡ true → Does (IsOne c (Return place None)) c [] (coded (jump_code c.ways.return))
does_return c place there = by_way c.ways.return refl there
  where
    by_way : (o : Option ℕ) → c.ways.return ≡ o → is_some o ≡ true → Does (IsOne c (Return place None)) c [] (coded (jump_code o))
    by_way (Some out) is h =
        does_jump (IsOne c (Return place None)) c out (λ i u low high ways. ways.return out is) (λ i program g numbers f r from there. (out, is, there, refl))
    by_way None is h = absurd cc

pub does_exit : (c : Site) (place : ℕ) → is_some c.ways.exit ≡ true → Does (IsOne c (Exit place None)) c [] (coded (exit_code c.visible c.ways.exit None))
does_exit c place there = by_way c.ways.exit refl there
  where
    by_way : (o : Option ℕ) → c.ways.exit ≡ o → is_some o ≡ true → Does (IsOne c (Exit place None)) c [] (coded (jump_code o))
    by_way (Some out) is h =
        does_jump (IsOne c (Exit place None)) c out (λ i u low high ways. ways.exit out is) (λ i program g numbers f r from there. (out, is, there, refl))
    by_way None is h = absurd cc

module _ (c : Site) (place : ℕ) (e : ExprTree) (w : Works c.visible 0 1 e (expr_code c.visible 0 e)) where
  exit_by : (out : ℕ) → c.ways.exit ≡ Some out
      → Does (IsOne c (Exit place (Some e))) c [] (coded (expr_code c.visible 0 e ▸ one 1 (op.JumpIfNotZero out)))
  unfolding coded
  exit_by out is =
      let x = expr_code c.visible 0 e in
      let jump = one 1 (op.JumpIfNotZero out) in
      record {
        tidy = tidy_coded (x ▸ jump);
        stands = λ i program g numbers f r s to served h.
            let both = both_stand i s.place to x jump (coded_has i f.room s to (x ▸ jump) h.part) in
            let it = one_stands i both.mid to 1 (op.JumpIfNotZero out) both.second in
            record {
              is = (
                (
                  out,
                  both.mid,
                  is,
                  both.up,
                  subst (λ v. Computes i (library_of g) (Sees g v) s.place both.mid e) (sym served.names) (w.computes i s.place both.mid both.first g),
                  (1, it.there),
                  it.ends,
                ),
                coded_goes i r f.room s to (x ▸ jump) h,
              );
              tells = tt;
            };
        flows = record {
          flows = λ i u low high s to k suits ways out_ ends.
              let both = both_stand i s.place to x jump (coded_has i u.locals s to (x ▸ jump) k.part) in
              let it = one_stands i both.mid to 1 (op.JumpIfNotZero out) both.second in
              let deep = k.deep in
              let down = k.down in
              let up = k.up in
              let step = both.on_ in
              let single : 1 ≤ u.stack = (let a = both.deep in let b = it.deep in omega (arith, a, b, deep)) in
              let test = test_kept i u low high both.mid out op.JumpIfNotZero one_test it.there single (ap (λ n. has_depth i n 0) (sym it.ends) ∙ ends) (ways.exit out is) in
              let first = (works_leads c.visible 0 e x w).leads i u s.place both.mid both.first suits (let a = both.deep in omega (arith, a, deep)) single test.begins in
              kept_then i u low high s.place both.mid to 0 1 (widened i u s.place both.mid low high s.place both.mid 0 down (omega (arith, step, up)) first)
              (subst (λ n. AreKeptBetween i u low high both.mid n 1) (sym it.ends) test);
        };
      }

  pub does_exit_when : is_some c.ways.exit ≡ true → Does (IsOne c (Exit place (Some e))) c [] (coded (exit_code c.visible c.ways.exit (Some e)))
  does_exit_when there = by_way c.ways.exit refl there
    where
      by_way : (o : Option ℕ) → c.ways.exit ≡ o → is_some o ≡ true
          → Does (IsOne c (Exit place (Some e))) c [] (coded (expr_code c.visible 0 e ▸ leaving_code o))
      by_way (Some out) is h = exit_by out is
      by_way None is h = absurd cc

-- ---- exceptions

module _ (c : Site) (place : ℕ) (name : Option Identifier) where
  raise_by : (o : Operation) → raised_by c.exceptions c.ways.handled name ≡ Some o
      → Does (IsOne c (Raise place name)) c [] (coded (one 0 o ▸ one 1 op.Raise))
  unfolding coded
  raise_by o is =
      let put = puts c.ways c.exceptions name o is in
      let piece = one 0 o ▸ one 1 op.Raise in
      record {
        tidy = tidy_coded piece;
        stands = λ i program g numbers f r s to served h.
            let first = one_before i s.place to 0 o (one 1 op.Raise) (coded_has i f.room s to piece h.part) in
            let last = one_stands i (suc s.place) to 1 op.Raise first.rest_ in
            record {
              is = (
                subst (λ n. IsRaised i program g numbers c.ways s.place n name) (sym last.ends)
                    (means i program g numbers c.ways c.exceptions served.exceptions name o is s.place first.there (1, last.there)),
                coded_goes i r f.room s to piece h,
              );
              tells = tt;
            };
        flows = record {
          flows = λ i u low high s to k suits ways out ends.
              let both = both_stand i s.place to (one 0 o) (one 1 op.Raise) (coded_has i u.locals s to piece k.part) in
              let it = one_stands i s.place both.mid 0 o both.first in
              let last = one_stands i both.mid to 1 op.Raise both.second in
              let deep = k.deep in
              let single : 1 ≤ u.stack = (let a = both.deep in let b = last.deep in omega (arith, a, b, deep)) in
              let takes = put.takes i u.results in
              let gives = put.gives i in
              let second = kept_one i u low high both.mid 1 0 op.Raise last.there single (omega arith) refl refl (omega arith) (omega arith) refl (λ g. absurd cc)
              (λ t g. absurd cc) in
              let first = kept_one i u low high s.place 0 1 o it.there (omega arith) single put.operands (put.names i u ways.handled) (omega (arith, takes))
              (omega (arith, takes, gives)) put.plain (λ g. ap (λ n. has_depth i n 1) (sym it.ends) ∙ second.begins)
              (λ t g. absurd (nowhere t (sym put.still ∙ g))) in
              kept_then i u low high s.place both.mid to 0 1 (subst (λ n. AreKeptBetween i u low high s.place n 0) (sym it.ends) first)
              (subst (λ n. AreKeptBetween i u low high both.mid n 1) (sym last.ends) second);
        };
      }
    where
      nowhere : (t : ℕ) → None ≡ Some t → ⊥
      nowhere t e = cc

  pub does_raise : (raised_by c.exceptions c.ways.handled name ≡ None → ⊥)
      → Does (IsOne c (Raise place name)) c [] (coded (raise_code c.exceptions c.ways.handled name))
  does_raise some = by_raised (raised_by c.exceptions c.ways.handled name) refl
    where
      by_raised : (o : Option Operation) → raised_by c.exceptions c.ways.handled name ≡ o → Does (IsOne c (Raise place name)) c [] (coded (raising o))
      by_raised (Some o) is = raise_by o is
      by_raised None is = absurd (some is)

-- ---- delays

module _ (bounded : ValuesAreBounded) (visible : VisibleValuesLie) (c : Site) (place : ℕ) (e : ExprTree) (legal : IsLegalExpression c.visible.scope e)
    (w : Works c.visible 0 1 e (expr_code c.visible 0 e)) where
  timed_does : is_inside (bounds_of c.visible.scope e) integer ≡ true → Does (IsOne c (DelayUntil place e)) c [] (coded (timed_code c.visible e))
  timed_does held =
      let x = expr_code c.visible 0 e in
      let S = SuitsStatements c.visible in
      does_coded (IsOne c (DelayUntil place e)) c (timed_code c.visible e)
      (leads_then S 0 0 0 (one 0 op.CheckBlocking) (x ▸ one 1 op.DelayUntil)
      (leads_one S 0 0 op.CheckBlocking
      (λ k. record {
        operands = refl;
        names = λ i u s. refl;
        takes = λ i u s. omega arith;
        leaves = λ i u s. omega arith;
        stays = refl;
        is_none = refl;
      }))
      (leads_then S 0 1 0 x (one 1 op.DelayUntil) (works_leads c.visible 0 e x w)
      (leads_one S 1 0 op.DelayUntil
      (λ k. record {
        operands = refl;
        names = λ i u s. refl;
        takes = λ i u s. omega arith;
        leaves = λ i u s. omega arith;
        stays = refl;
        is_none = refl;
      }))))
      (λ i program g numbers f r s to served h.
      let first = one_before i s.place to 0 op.CheckBlocking (x ▸ one 1 op.DelayUntil) (coded_has i f.room s to (timed_code c.visible e) h.part) in
      let both = both_stand i (suc s.place) to x (one 1 op.DelayUntil) first.rest_ in
      let last = one_stands i both.mid to 1 op.DelayUntil both.second in (
        (
          both.mid,
          both.up,
          first.there,
          subst (λ v. Computes i (library_of g) (Sees g v) (suc s.place) both.mid e) (sym served.names) (w.computes i (suc s.place) both.mid both.first g),
          (1, last.there),
          last.ends,
          timely bounded visible g f e (subst (λ v. IsLegalExpression v.scope e) (sym served.names) legal)
              (subst (λ v. is_inside (bounds_of v.scope e) integer ≡ true) (sym served.names) held),
        ),
        coded_goes i r f.room s to (timed_code c.visible e) h,
      ))

  pub does_delay : Does (IsOne c (DelayUntil place e)) c [] (coded (delay_code c.visible e))
  does_delay = by_bounds (is_inside (bounds_of c.visible.scope e) integer) refl
    where
      -- no image has the other instruction
      none_such : Does (IsOne c (DelayUntil place e)) c [] (coded (one 0 (op.LoadBlock regions.Locals 0)))
      none_such = never_does (IsOne c (DelayUntil place e)) c (one 0 (op.LoadBlock regions.Locals 0))
          (λ i from to h. let it = one_stands i from to 0 (op.LoadBlock regions.Locals 0) h in let no = it.operands in cc)

      by_bounds : (b : Bool) → is_inside (bounds_of c.visible.scope e) integer ≡ b
          → Does (IsOne c (DelayUntil place e)) c [] (coded (cond b (timed_code c.visible e) (one 0 (op.LoadBlock regions.Locals 0))))
      by_bounds true is = timed_does is
      by_bounds false is = none_such
