-- What the code of loops does where it stands in an image, and that it keeps the rules of images there (RM 5.5): the way out, and turns of loops without a range.
use Rattle.std.proofs.Common.{◌≡◌, ℕ, suc, ◌+◌, ◌≤◌, List, Bool, true, false, Option, None, Some, refl, sym, ap, ◌∙◌, subst, arith}
use Rattle.std.specs.Prelude.{is_some, slice_get}
use Rattle.std.proofs.lemmas.List.{append-nil}
use Rattle.ada_tree.specs.ExpressionTree.{ExprTree}
use Rattle.ada_tree.specs.StatementTree.{Forever, Loop, StmtTrees, While}
use Rattle.image.specs.Sections.{Sections}
use Rattle.image.specs.Rules.{has_depth}
use Rattle.image.specs.declared.instruction.Operation.TheVariants as op
use Rattle.image.specs.declared.subprograms.Subprogram.{Subprogram}
use Rattle.expr_soundness.specs.meaning.specs.Programs.{Program}
use Rattle.expr_code.specs.Computing.{Computes}
use Rattle.expr_code.specs.ExpressionCode.{expr_code}
use Rattle.expr_code.specs.Flows.{AreKeptBetween}
use Rattle.expr_code.specs.Pieces.{narrow, one}
use Rattle.expr_code.specs.Seeing.{Package, Sees, library_of}
use Rattle.expr_code.specs.Views.{At}
use Rattle.expr_code.proofs.ExpressionWorks.{Works}
use Rattle.expr_code.proofs.Flowing.{kept_then}
use Rattle.expr_code.proofs.StandingPieces.{narrow_same, one_stands, zero_test}
use Rattle.part_code.specs.Emitting.{IsReachable}
use Rattle.part_code.specs.Handling.{GoesBy, Handling}
use Rattle.part_code.specs.Jumping.{Here, Jumps, There}
use Rattle.part_code.specs.Resting.{Framed}
use Rattle.part_code.specs.Statements.{Numbers, Ways, with_exit}
use Rattle.part_code.specs.Suiting.{SuitsStatements}
use Rattle.part_code.proofs.Jumps.{depth_there, jump_kept}
use Rattle.part_code.proofs.Lists.{some_same}
use Rattle.stmt_code.specs.Drafting.{CodePart, Start, after, begun, coded, skipping, ◌▹◌}
use Rattle.stmt_code.specs.Emitting.{Allows, Meant, TellPlaces}
use Rattle.stmt_code.specs.Leaves.{any_leave}
use Rattle.stmt_code.specs.Placing.{Construct, stmts_within}
use Rattle.stmt_code.specs.StatementCode.{Site, stmts_code, turned, while_code, with_way}
use Rattle.stmt_code.specs.declared.leaves.WayOut.TheVariants as way
use Rattle.stmt_code.proofs.BranchesDo.{AreBody, IsOne, works_leads}
use Rattle.stmt_code.proofs.Heads.{allows_exit, way_of, within_way}
use Rattle.stmt_code.proofs.PartsDo.{Does, IsServed, Means, flows_coded, test_kept}
use Rattle.stmt_code.proofs.PartsStand.{IsTidy, KeptIn, StandsBy, begun_by, begun_in, both_kept_in, both_stand_by, coded_goes, coded_has, end_of, inside, skip_end_by, skip_end_in, tidy_begun, tidy_coded, tidy_skipping, tidy_then}

-- ---- the way out, before what it leads out of

-- the same site with other ways out
abbrev pub leaving : Site → (Option ℕ → Ways) → Option ℕ → Site
leaving c w exit = record c { ways = w exit }

-- these ways out are allowed where those of the site are and the way out is reached
abbrev pub AllowsWay : Ways → (Option ℕ → Ways) → Type 0
AllowsWay v w =
    (i : Sections) (u : Subprogram) (low high : ℕ) (exit : Option ℕ) → Allows i u low high v
    → ((out : ℕ) → exit ≡ Some out → IsReachable i low high out)
    → Allows i u low high (w exit)

-- with jumps over the way out, and from it to the end, what follows is the whole
abbrev pub MeansBehind : (P : Option ℕ → Meant) → Meant → Type 0
MeansBehind P Is =
    (i : Sections) (program : Program) (g : Package) (numbers : Numbers) (f : Framed) (r : Handling) (exit : Option ℕ) (from start to : ℕ)
    → from ≤ start
    → from ≤ way_of exit to
    → way_of exit to ≤ to
    → Jumps i from start
    → Jumps i (way_of exit to) to
    → start ≤ to
    → P exit i program g numbers f r start to
    → Is i program g numbers f r from to

served_there : (program : Program) (g : Package) (numbers : Numbers) (f : Framed) (c : Site) (w : Option ℕ → Ways) (exit : Option ℕ)
    → IsServed program g numbers f c → IsServed program g numbers f (leaving c w exit)
served_there program g numbers f c w exit h = record { names = h.names; serves = h.serves; exceptions = h.exceptions; named = h.named }

module _ (c : Site) (w : Option ℕ → Ways) (P : Option ℕ → Meant) (Is : Meant) (xs : List Construct) (a : Option ℕ → CodePart) (allows : AllowsWay c.ways w)
    (means : MeansBehind P Is) where
  -- no way out
  without_way : Does (P None) (leaving c w None) xs (a None) → Does Is c xs (a None)
  without_way p = record {
    tidy = p.tidy;
    stands = λ i program g numbers f r s to served h.
        let it = p.stands i program g numbers f r s to (served_there program g numbers f c w None served) h in
        let ends = h.part.ends in
        record {
          is = means i program g numbers f r None s.place s.place to (omega arith) (omega (arith, ends)) (omega arith) Here Here (omega (arith, ends)) it.is;
          tells = it.tells;
        };
    flows = record {
      flows = λ i u low high s to k suits ways out ends.
          p.flows.flows i u low high s to k suits (allows i u low high None ways (λ n is. absurd cc)) out ends;
    };
  }

  -- a jump over the way out, and this
  module _ (p : (out : ℕ) → Does (P (Some out)) (leaving c w (Some out)) xs (a (Some out))) where
    abbrev exit_of : Start → Option ℕ
    exit_of s = Some (narrow (s.place + 1))

    abbrev over_way : ℕ → CodePart
    over_way start = coded (one 0 (op.Jump (narrow (start + 2))))

    abbrev way_at : ℕ → CodePart
    way_at start = skipping 0 0 op.Jump (a (Some (narrow (start + 1))))

    abbrev with_both : ℕ → CodePart
    with_both start = over_way start ▹ way_at start

    abbrev at_way : Start → Start
    at_way s = after s (over_way s.place s)

    abbrev at_rest : Start → Start
    at_rest s = inside (at_way s)

    tidy_way : (start : ℕ) → IsTidy (way_at start)
    tidy_way start = tidy_skipping 0 0 op.Jump (a (Some (narrow (start + 1)))) (p (narrow (start + 1))).tidy

    way_place : (s : Start) → (at_way s).place ≡ s.place + 1
    unfolding coded one
    way_place s = omega arith

    module _ (i : Sections) (program : Program) (g : Package) (numbers : Numbers) (f : Framed) (r : Handling) (s : Start) (to : ℕ)
        (served : IsServed program g numbers f c) (h : StandsBy i r f.room s to (with_way true a)) where
      stand_with : Means Is i program g numbers f r xs s to (with_way true a)
      unfolding ◌▹◌ coded skipping begun
      stand_with =
          let both = both_stand_by i r f.room s to (over_way s.place) (way_at s.place) (tidy_coded (one 0 (op.Jump (narrow (s.place + 2))))) (tidy_way s.place)
          (begun_by i r f.room s to with_both h) in
          let over = one_stands i s.place (at_way s).place 0 (op.Jump (narrow (s.place + 2)))
          (coded_has i f.room s (at_way s).place (one 0 (op.Jump (narrow (s.place + 2)))) both.first.part) in
          let out = skip_end_by i r f.room (at_way s) to 0 op.Jump (a (exit_of s)) both.second in
          let at = way_place s in
          let up = out.up in
          let low = h.part.low in
          let way_is : narrow (s.place + 1) ≡ s.place + 1 = narrow_same (s.place + 1) (omega (arith, at, up, low)) in
          let start_is : narrow (s.place + 2) ≡ (at_rest s).place = narrow_same (s.place + 2) (omega (arith, at, up, low)) ∙ (let k : s.place + 2 ≡ suc (at_way s).place = omega (arith, at) in k) in
          let it = (p (narrow (s.place + 1))).stands i program g numbers f r (at_rest s) to (served_there program g numbers f c w (exit_of s) served) out.inner in
          record {
            is = means i program g numbers f r (exit_of s) s.place (at_rest s).place to (omega (arith, at)) (omega (arith, way_is)) (omega (arith, way_is, at, up))
                (There (0, subst (λ n. slice_get i.instructions s.place ≡ Some (record { depth = 0; operation = op.Jump n })) start_is over.there)
                (omega (arith, at)) Here)
                (There
                (subst (λ n. At i n (op.Jump to)) (at ∙ sym way_is) (
                  0,
                  subst (λ n. slice_get i.instructions (at_way s).place ≡ Some (record { depth = 0; operation = op.Jump n })) (let k : to + 0 ≡ to = omega arith in k)
                      out.there,
                ))
                (omega (arith, way_is, at, up)) Here)
                up it.is;
            tells = it.tells;
          }

    keep_with : (i : Sections) (u : Subprogram) (low high : ℕ) (s : Start) (to : ℕ) → KeptIn i u low high s to (with_way true a)
        → SuitsStatements c.visible i u
        → Allows i u low high c.ways
        → has_depth i to 0 ≡ true
        → AreKeptBetween i u low high s.place to 0
    keep_with i u low high s to k suits ways ends =
        let both = both_kept_in i u low high s to (over_way s.place) (way_at s.place) (tidy_way s.place).grows (begun_in i u low high s to with_both k) in
        let over = one_stands i s.place (at_way s).place 0 (op.Jump (narrow (s.place + 2)))
        (coded_has i u.locals s (at_way s).place (one 0 (op.Jump (narrow (s.place + 2)))) both.first.part) in
        let out = skip_end_in i u low high (at_way s) to 0 op.Jump (a (exit_of s)) both.second in
        let at = way_place s in
        let step = out.step in
        let few = k.part.low in
        let down = k.down in
        let up = k.up in
        let end : to + 0 ≡ to = omega arith in
        let way_is : narrow (s.place + 1) ≡ s.place + 1 = narrow_same (s.place + 1) (omega (arith, at, step, few)) in
        let start_is : narrow (s.place + 2) ≡ suc (at_way s).place =
        narrow_same (s.place + 2) (omega (arith, at, step, few)) ∙ (let n : s.place + 2 ≡ suc (at_way s).place = omega (arith, at) in n) in
        let way_there : slice_get i.instructions (narrow (s.place + 1)) ≡ Some (record { depth = 0; operation = op.Jump (to + 0) }) =
        ap (slice_get i.instructions) (way_is ∙ sym at) ∙ out.there in
        let reached : (n : ℕ) → exit_of s ≡ Some n → IsReachable i low high n =
        (λ n is.
        subst (IsReachable i low high) (some_same (narrow (s.place + 1)) n is)
        (record {
          down = omega (arith, way_is, down);
          up = omega (arith, way_is, at, step, up);
          empty = depth_there i (narrow (s.place + 1)) 0 (op.Jump (to + 0)) way_there;
        })) in
        let rest = (p (narrow (s.place + 1))).flows.flows i u low high (at_rest s) to out.inner suits (allows i u low high (exit_of s) ways reached) (omega arith) ends in
        let leaves = jump_kept i u low high (at_way s).place (to + 0) out.there
        (record { down = omega (arith, at, down, step); up = omega (arith, up); empty = ap (λ n. has_depth i n 0) end ∙ ends }) in
        let begins = jump_kept i u low high s.place (narrow (s.place + 2)) over.there
        (record { down = omega (arith, start_is, at, down); up = omega (arith, start_is, step, up); empty = ap (λ n. has_depth i n 0) start_is ∙ rest.begins }) in
        kept_then i u low high s.place (at_way s).place to 0 0
        (subst (λ n. AreKeptBetween i u low high s.place n 0) (let n : suc s.place ≡ (at_way s).place = omega (arith, at) in n) begins)
        (kept_then i u low high (at_way s).place (suc (at_way s).place) to 0 0 leaves rest)

    with_one : Does Is c xs (with_way true a)
    with_one = record {
      tidy = tidy_begun with_both (λ start. tidy_then (over_way start) (way_at start) (tidy_coded (one 0 (op.Jump (narrow (start + 2))))) (tidy_way start));
      stands = stand_with;
      flows = record { flows = λ i u low high s to k suits ways out ends. keep_with i u low high s to k suits ways ends };
    }

  pub does_way : (leaves : Bool) → ((exit : Option ℕ) → (leaves ≡ true → is_some exit ≡ true) → Does (P exit) (leaving c w exit) xs (a exit))
      → Does Is c xs (with_way leaves a)
  does_way true p = with_one (λ out. p (Some out) (λ h. refl))
  does_way false p = without_way (p None (λ h. absurd cc))

-- ---- turns without a condition

-- what is repeated, and a jump back to it
abbrev pub IsRepeated : Meant → Meant
IsRepeated P i program g numbers f r from to = (back : ℕ) × (from ≤ back) × P i program g numbers f r from back × At i back (op.Jump from) × (to ≡ suc back)

module _ (c : Site) (P : Meant) (xs : List Construct) (a : CodePart) (p : Does P c xs a) where
  abbrev jump_back : ℕ → CodePart
  jump_back turn = coded (one 0 (op.Jump (narrow turn)))

  abbrev turn_at : ℕ → CodePart
  turn_at turn = a ▹ jump_back turn

  pub does_turned : Does (IsRepeated P) c xs (turned a)
  unfolding ◌▹◌ coded begun
  does_turned = record {
    tidy = tidy_begun turn_at (λ turn. tidy_then a (jump_back turn) p.tidy (tidy_coded (one 0 (op.Jump (narrow turn)))));
    stands = λ i program g numbers f r s to served h.
        let both = both_stand_by i r f.room s to a (jump_back s.place) p.tidy (tidy_coded (one 0 (op.Jump (narrow s.place))))
        (begun_by i r f.room s to turn_at h) in
        let at = end_of s a in
        let back = one_stands i at to 0 (op.Jump (narrow s.place)) (coded_has i f.room (after s (a s)) to (one 0 (op.Jump (narrow s.place))) both.second.part) in
        let it = p.stands i program g numbers f r s at served both.first in
        let low = h.part.low in
        let up = both.up in
        let same : narrow s.place ≡ s.place = narrow_same s.place (omega (arith, low, up)) in
        record {
          is = (
            at,
            both.low,
            it.is,
            (0, subst (λ n. slice_get i.instructions at ≡ Some (record { depth = 0; operation = op.Jump n })) same back.there),
            back.ends,
          );
          tells = subst (λ l. TellPlaces i program g numbers l xs) (sym (append-nil (a s).places)) it.tells;
        };
    flows = record {
      flows = λ i u low high s to k suits ways out ends.
          let both = both_kept_in i u low high s to a (jump_back s.place) (tidy_coded (one 0 (op.Jump (narrow s.place)))).grows (begun_in i u low high s to turn_at k) in
          let at = end_of s a in
          let back = one_stands i at to 0 (op.Jump (narrow s.place)) (coded_has i u.locals (after s (a s)) to (one 0 (op.Jump (narrow s.place))) both.second.part) in
          let few = k.part.low in
          let step = both.up in
          let up = k.up in
          let same : narrow s.place ≡ s.place = narrow_same s.place (omega (arith, few, step)) in
          let turns = p.flows.flows i u low high s at both.first suits ways (omega arith) (depth_there i at 0 (op.Jump (narrow s.place)) back.there) in
          let again = jump_kept i u low high at (narrow s.place) back.there
          (record { down = (let d = k.down in omega (arith, d, same)); up = omega (arith, step, up, same); empty = ap (λ n. has_depth i n 0) same ∙ turns.begins }) in
          kept_then i u low high s.place at to 0 0 turns (subst (λ n. AreKeptBetween i u low high at n 0) (sym back.ends) again);
    };
  }

-- ---- turns with one

-- a condition, a jump to the end where it does not hold, what is repeated, and a jump back to the condition
abbrev pub IsRepeatedWhile : ExprTree → Meant → Meant
IsRepeatedWhile e P i program g numbers f r from to =
    (mid : ℕ) × (back : ℕ) × (from ≤ mid) × (suc mid ≤ back) × Computes i (library_of g) (Sees g f.names) from mid e × At i mid (op.JumpIfZero to)
    × P i program g numbers f r (suc mid) back
    × At i back (op.Jump from)
    × (to ≡ suc back)
    × GoesBy i r from mid

module _ (c : Site) (e : ExprTree) (w : Works c.visible 0 1 e (expr_code c.visible 0 e)) (P : Meant) (xs : List Construct) (a : CodePart) (p : Does P c xs a)
  where
    abbrev value : CodePart
    value = coded (expr_code c.visible 0 e)

    abbrev again_at : ℕ → CodePart
    again_at turn = coded (one 0 (op.Jump (narrow turn)))

    abbrev body_at : ℕ → CodePart
    body_at turn = a ▹ again_at turn

    abbrev test_at : ℕ → CodePart
    test_at turn = skipping 0 1 op.JumpIfZero (body_at turn)

    abbrev all_at : ℕ → CodePart
    all_at turn = value ▹ test_at turn

    tidy_body : (turn : ℕ) → IsTidy (body_at turn)
    tidy_body turn = tidy_then a (again_at turn) p.tidy (tidy_coded (one 0 (op.Jump (narrow turn))))

    tidy_test : (turn : ℕ) → IsTidy (test_at turn)
    tidy_test turn = tidy_skipping 0 1 op.JumpIfZero (body_at turn) (tidy_body turn)

    pub does_while : Does (IsRepeatedWhile e P) c xs (while_code c.visible e a)
    unfolding ◌▹◌ coded begun skipping
    does_while = record {
      tidy = tidy_begun all_at (λ turn. tidy_then value (test_at turn) (tidy_coded (expr_code c.visible 0 e)) (tidy_test turn));
      stands = λ i program g numbers f r s to served h.
          let whole = both_stand_by i r f.room s to value (test_at s.place) (tidy_coded (expr_code c.visible 0 e)) (tidy_test s.place)
          (begun_by i r f.room s to all_at h) in
          let mid = end_of s value in
          let at = after s (value s) in
          let test = skip_end_by i r f.room at to 1 op.JumpIfZero (body_at s.place) whole.second in
          let both = both_stand_by i r f.room (inside at) to a (again_at s.place) p.tidy (tidy_coded (one 0 (op.Jump (narrow s.place)))) test.inner in
          let back = end_of (inside at) a in
          let jump = one_stands i back to 0 (op.Jump (narrow s.place))
          (coded_has i f.room (after (inside at) (a (inside at))) to (one 0 (op.Jump (narrow s.place))) both.second.part) in
          let it = p.stands i program g numbers f r (inside at) back served both.first in
          let low = h.part.low in
          let up = whole.up in
          let same : narrow s.place ≡ s.place = narrow_same s.place (omega (arith, low, up)) in
          record {
            is = (
              mid,
              back,
              whole.low,
              both.low,
              subst (λ v. Computes i (library_of g) (Sees g v) s.place mid e) (sym served.names)
                  (w.computes i s.place mid (coded_has i f.room s mid (expr_code c.visible 0 e) whole.first.part) g),
              (
                1,
                subst (λ n. slice_get i.instructions mid ≡ Some (record { depth = 1; operation = op.JumpIfZero n })) (let k : to + 0 ≡ to = omega arith in k)
                    test.there,
              ),
              it.is,
              (0, subst (λ n. slice_get i.instructions back ≡ Some (record { depth = 0; operation = op.Jump n })) same jump.there),
              jump.ends,
              coded_goes i r f.room s mid (expr_code c.visible 0 e) whole.first,
            );
            tells = subst (λ l. TellPlaces i program g numbers l xs) (sym (append-nil (a (inside at)).places)) it.tells;
          };
      flows = record {
        flows = λ i u low high s to k suits ways out ends.
            let whole = both_kept_in i u low high s to value (test_at s.place) (tidy_test s.place).grows (begun_in i u low high s to all_at k) in
            let mid = end_of s value in
            let at = after s (value s) in
            let test = skip_end_in i u low high at to 1 op.JumpIfZero (body_at s.place) whole.second in
            let both = both_kept_in i u low high (inside at) to a (again_at s.place) (tidy_coded (one 0 (op.Jump (narrow s.place)))).grows test.inner in
            let back = end_of (inside at) a in
            let jump = one_stands i back to 0 (op.Jump (narrow s.place))
            (coded_has i u.locals (after (inside at) (a (inside at))) to (one 0 (op.Jump (narrow s.place))) both.second.part) in
            let few = k.part.low in
            let step = whole.up in
            let onward = test.step in
            let behind = both.up in
            let down = k.down in
            let up = k.up in
            let end : to + 0 ≡ to = omega arith in
            let same : narrow s.place ≡ s.place = narrow_same s.place (omega (arith, few, step)) in
            let turns = p.flows.flows i u low high (inside at) back both.first suits ways (omega arith) (depth_there i back 0 (op.Jump (narrow s.place)) jump.there) in
            let tests = test_kept i u low high mid (to + 0) op.JumpIfZero zero_test test.there test.shallow turns.begins
            (record { down = omega (arith, down, step); up = omega (arith, up); empty = ap (λ n. has_depth i n 0) end ∙ ends }) in
            let first = (flows_coded c.visible c.ways 0 1 (expr_code c.visible 0 e) (works_leads c.visible 0 e (expr_code c.visible 0 e) w)).flows i u low high s mid whole.first suits ways
            test.shallow tests.begins in
            let again = jump_kept i u low high back (narrow s.place) jump.there
            (record { down = omega (arith, down, same); up = omega (arith, step, up, same); empty = ap (λ n. has_depth i n 0) same ∙ first.begins }) in
            kept_then i u low high s.place mid to 0 1 first
            (kept_then i u low high mid (suc mid) to 1 0 tests
            (kept_then i u low high (suc mid) back to 0 0 turns (subst (λ n. AreKeptBetween i u low high back n 0) (sym jump.ends) again)));
      };
    }

-- ---- the statements

abbrev pub in_loop : Site → Option ℕ → Site
in_loop c = leaving c (λ exit. with_exit exit c.ways)

pub exits_allowed : (c : Site) → AllowsWay c.ways (λ exit. with_exit exit c.ways)
exits_allowed c i u low high exit ways reached = allows_exit i u low high exit c.ways ways reached

pub does_forever : (c : Site) (place : ℕ) (body : StmtTrees)
    → ((exit : Option ℕ) → (any_leave body way.Exit ≡ true → is_some exit ≡ true)
    → Does (AreBody (in_loop c exit) body) (in_loop c exit) (stmts_within body) (stmts_code (in_loop c exit) body))
    → Does (IsOne c (Loop place Forever body)) c (stmts_within body) (with_way (any_leave body way.Exit) (λ exit. turned (stmts_code (in_loop c exit) body)))
does_forever c place body p =
    does_way c (λ exit. with_exit exit c.ways) (λ exit. IsRepeated (AreBody (in_loop c exit) body)) (IsOne c (Loop place Forever body)) (stmts_within body)
    (λ exit. turned (stmts_code (in_loop c exit) body)) (exits_allowed c)
    (λ i program g numbers f r exit from start to low above below skips leaves up is. (
      start,
      way_of exit to,
      is.0,
      low,
      is.1,
      above,
      below,
      skips,
      leaves,
      within_way i program g numbers f c.ways exit to r start is.0 body is.2,
      is.3,
      is.4,
    ))
    (any_leave body way.Exit)
    (λ exit there. does_turned (in_loop c exit) (AreBody (in_loop c exit) body) (stmts_within body) (stmts_code (in_loop c exit) body) (p exit there))

pub does_while_loop : (c : Site) (place : ℕ) (e : ExprTree) (body : StmtTrees) → Works c.visible 0 1 e (expr_code c.visible 0 e)
    → ((exit : Option ℕ) → (any_leave body way.Exit ≡ true → is_some exit ≡ true)
    → Does (AreBody (in_loop c exit) body) (in_loop c exit) (stmts_within body) (stmts_code (in_loop c exit) body))
    → Does (IsOne c (Loop place (While e) body)) c (stmts_within body)
    (with_way (any_leave body way.Exit) (λ exit. while_code c.visible e (stmts_code (in_loop c exit) body)))
does_while_loop c place e body w p =
    does_way c (λ exit. with_exit exit c.ways) (λ exit. IsRepeatedWhile e (AreBody (in_loop c exit) body)) (IsOne c (Loop place (While e) body))
    (stmts_within body)
    (λ exit. while_code c.visible e (stmts_code (in_loop c exit) body)) (exits_allowed c)
    (λ i program g numbers f r exit from start to low above below skips leaves up is. (
      start,
      way_of exit to,
      is.0,
      is.1,
      low,
      is.2,
      is.3,
      above,
      below,
      skips,
      leaves,
      is.4,
      is.5,
      within_way i program g numbers f c.ways exit to r (suc is.0) is.1 body is.6,
      is.7,
      is.8,
      is.9,
    ))
    (any_leave body way.Exit)
    (λ exit there. does_while (in_loop c exit) e w (AreBody (in_loop c exit) body) (stmts_within body) (stmts_code (in_loop c exit) body) (p exit there))
