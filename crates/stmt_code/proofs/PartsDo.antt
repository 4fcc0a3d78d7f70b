-- What the code of parts of statements does where it stands in an image, and that it keeps the rules of images there (docs/CODEGEN.md): one part after another, and
-- a statement with the row of its place.
use Rattle.std.proofs.Common.{◌≡◌, ℕ, suc, ◌+◌, ◌≤◌, List, [], ◌∷◌, ◌++◌, true, Some, refl, ap, ◌∙◌, subst, arith}
use Rattle.std.specs.Prelude.{slice_get, ⊤}
use Rattle.ada_tree.specs.StatementTree.{StmtTree}
use Rattle.handlers.specs.Laws.{RowsAround, RowsInside}
use Rattle.image.specs.Sections.{Sections}
use Rattle.image.specs.Rules.{has_depth}
use Rattle.image.specs.declared.instruction.Operation.{Operation}
use Rattle.image.specs.declared.instruction.Operation.TheVariants as op
use Rattle.image.specs.declared.subprograms.Subprogram.{Subprogram}
use Rattle.types.specs.Laws.{InitialValuesHaveShape, ShapesStay}
use Rattle.expr_soundness.specs.BoundsLaw.{ValuesAreBounded, VisibleValuesLie}
use Rattle.expr_soundness.specs.Laws.{AgreementIsKept, CallsAreTyped, ScopesAreSound}
use Rattle.expr_soundness.specs.meaning.specs.Programs.{Program}
use Rattle.expr_code.specs.Flows.{AreKeptBetween}
use Rattle.expr_code.specs.Pieces.{Piece, nothing}
use Rattle.expr_code.specs.Seeing.{Package}
use Rattle.expr_code.specs.declared.visible.Visible.{Visible}
use Rattle.expr_code.proofs.Flowing.{kept_one, kept_then, widened}
use Rattle.expr_code.proofs.StandingPieces.{Between, IsTest, Leads, fits_none, zero_test}
use Rattle.part_code.specs.Handling.{Handling}
use Rattle.part_code.specs.Raising.{AreNamed}
use Rattle.part_code.specs.Resting.{Framed}
use Rattle.part_code.specs.Statements.{IsStatement, Numbers, Ways}
use Rattle.part_code.specs.Suiting.{SuitsStatements}
use Rattle.part_code.specs.Emitting.{IsReachable}
use Rattle.part_code.proofs.Jumps.{jump_kept}
use Rattle.part_code.proofs.PieceNeeds.{Laws}
use Rattle.stmt_code.specs.Drafting.{CodePart, Start, after, coded, marked, skipping, ◌▹◌}
use Rattle.stmt_code.specs.Emitting.{Allows, Meant, Serves, TellPlaces}
use Rattle.stmt_code.specs.Placing.{Construct, OfStatement, stmt_place, stmt_within}
use Rattle.stmt_code.specs.StatementCode.{Site}
use Rattle.stmt_code.proofs.PartsStand.{IsTidy, KeepsLabels, KeptIn, StandsBy, both_kept_in, both_stand_by, coded_has, end_of, grows_skipping, inside, marked_by, marked_in, skip_end_in, skip_kept_in, tidy_coded, tidy_marked, tidy_then}
use Rattle.stmt_code.proofs.PlacesAdded.{tells_then}

-- the laws by which the code of statements works
pub record StatementLaws : Type 0 where
  pub expressions : Laws
  pub kept : AgreementIsKept
  pub calls : CallsAreTyped
  pub shaped : InitialValuesHaveShape
  pub stay : ShapesStay
  pub scopes : ScopesAreSound
  pub bounded : ValuesAreBounded
  pub visible : VisibleValuesLie
  pub inside : RowsInside
  pub around : RowsAround

-- ---- where code of a site runs

-- The frame serves the names that are visible at the site, in a program with its exceptions, each of which is found by its name.
pub record IsServed (program : Program) (g : Package) (numbers : Numbers) (f : Framed) (c : Site) : Type 0 where
  pub names : f.names ≡ c.visible
  pub serves : Serves program g numbers f c.taken
  pub exceptions : program.exceptions ≡ c.exceptions
  pub named : AreNamed program

-- what it is in an image, and that its rows tell of these statements and declarations
pub record Means (Is : Meant) (i : Sections) (program : Program) (g : Package) (numbers : Numbers) (f : Framed) (r : Handling) (within : List Construct)
    (s : Start) (to : ℕ) (a : CodePart) : Type 0 where
  pub is : Is i program g numbers f r s.place to
  pub tells : TellPlaces i program g numbers (a s).places within

-- It leads from one depth of the operand stack to another, in a subprogram that suits what is visible and allows the ways out.
pub record Flows (v : Visible) (w : Ways) (before behind : ℕ) (a : CodePart) : Type 0 where
  pub flows : (i : Sections) (u : Subprogram) (low high : ℕ) (s : Start) (to : ℕ) → KeptIn i u low high s to a → SuitsStatements v i u
      → Allows i u low high w
      → behind ≤ u.stack
      → has_depth i to behind ≡ true
      → AreKeptBetween i u low high s.place to before

-- the code of a part at a site, which finds so many words on the operand stack: what it does, of which statements and declarations its rows tell, and that it
-- keeps the rules of images
pub record DoesFrom (before : ℕ) (Is : Meant) (c : Site) (within : List Construct) (a : CodePart) : Type 0 where
  pub tidy : IsTidy a
  pub stands : (i : Sections) (program : Program) (g : Package) (numbers : Numbers) (f : Framed) (r : Handling) (s : Start) (to : ℕ)
      → IsServed program g numbers f c
      → StandsBy i r f.room s to a
      → Means Is i program g numbers f r within s to a
  pub flows : Flows c.visible c.ways before 0 a

abbrev pub Does : (Is : Meant) (c : Site) (within : List Construct) (a : CodePart) → Type 0
Does = DoesFrom 0

-- the same code, as what it also means
pub does_as : (P Q : Meant) (c : Site) (xs ys : List Construct) (a : CodePart)
    → ((i : Sections) (program : Program) (g : Package) (numbers : Numbers) (f : Framed) (r : Handling) (from to : ℕ)
    → P i program g numbers f r from to → Q i program g numbers f r from to)
    → xs ≡ ys → Does P c xs a → Does Q c ys a
does_as P Q c xs ys a means same p = record {
  tidy = p.tidy;
  stands = λ i program g numbers f r s to served h.
      let it = p.stands i program g numbers f r s to served h in
      record { is = means i program g numbers f r s.place to it.is; tells = subst (TellPlaces i program g numbers (a s).places) same it.tells };
  flows = p.flows;
}

-- ---- from one depth to another

-- a jump on the word on top
pub test_kept : (i : Sections) (u : Subprogram) (low high place to : ℕ) (jump : ℕ → Operation) → IsTest jump
    → slice_get i.instructions place ≡ Some (record { depth = 1; operation = jump to }) → 1 ≤ u.stack → has_depth i (suc place) 0 ≡ true
    → IsReachable i low high to
    → AreKeptBetween i u low high place (suc place) 1
test_kept i u low high place to jump t there shallow next reached =
    let takes = t.takes i u to in
    let gives = t.gives i to in
    kept_one i u low high place 1 0 (jump to) there shallow (omega arith) (t.operands to) (t.names i u to) (omega (arith, takes)) (omega (arith, takes, gives))
    (t.is_none to) (λ e. next)
    (λ a e.
    let same = t.target to a e in
    let down = reached.down in
    let up = reached.up in
    (omega (arith, same, down), omega (arith, same, up), ap (λ n. has_depth i n 0) same ∙ reached.empty))

module _ (v : Visible) (w : Ways) where
  pub flows_coded : (x y : ℕ) (p : Piece) → Leads (SuitsStatements v) x y p → Flows v w x y (coded p)
  unfolding coded
  flows_coded x y p h = record {
    flows = λ i u low high s to k suits ways out ends.
        widened i u s.place to low high s.place to x k.down k.up
        (h.leads i u s.place to (coded_has i u.locals s to p k.part) suits k.deep out ends);
  }

  pub flows_then : (x y z : ℕ) (a b : CodePart) → KeepsLabels b → Flows v w x y a → Flows v w y z b → Flows v w x z (a ▹ b)
  flows_then x y z a b tidy p q = record {
    flows = λ i u low high s to k suits ways out ends.
        let both = both_kept_in i u low high s to a b tidy k in
        let second = q.flows i u low high (after s (a s)) to both.second suits ways out ends in
        let first = p.flows i u low high s (end_of s a) both.first suits ways second.shallow second.begins in
        kept_then i u low high s.place (end_of s a) to x y first second;
  }

  pub flows_marked : (place : ℕ) (a : CodePart) → Flows v w 0 0 a → Flows v w 0 0 (marked place a)
  flows_marked place a p = record {
    flows = λ i u low high s to k suits ways out ends. p.flows i u low high s to (marked_in i u low high s to place a k) suits ways out ends;
  }

  -- a test over a part that leaves the operand stack as it is below the word that is tested
  pub flows_tested : (jump : ℕ → Operation) (a : CodePart) → IsTest jump → Flows v w 0 0 a → Flows v w 1 0 (skipping 0 1 jump a)
  flows_tested jump a t p = record {
    flows = λ i u low high s to k suits ways out ends.
        let it = skip_end_in i u low high s to 1 jump a k in
        let step = it.step in
        let down = k.down in
        let up = k.up in
        let end : to + 0 ≡ to = omega arith in
        let inner = p.flows i u low high (inside s) to it.inner suits ways out ends in
        kept_then i u low high s.place (suc s.place) to 1 0
        (test_kept i u low high s.place (to + 0) jump t it.there it.shallow inner.begins
        (record { down = omega (arith, down, step); up = omega (arith, up); empty = ap (λ n. has_depth i n 0) end ∙ ends })) inner;
  }

  -- one part, or another one in its place
  pub flows_fork : (a b : CodePart) → KeepsLabels b → Flows v w 0 0 a → Flows v w 0 0 b
      → Flows v w 1 0 (skipping 1 1 op.JumpIfZero a ▹ skipping 0 0 op.Jump b)
  flows_fork a b tidy p q = record {
    flows = λ i u low high s to k suits ways out ends.
        let one = skipping 1 1 op.JumpIfZero a in
        let two = skipping 0 0 op.Jump b in
        let both = both_kept_in i u low high s to one two (grows_skipping 0 0 op.Jump b tidy) k in
        let mid = end_of s one in
        let later = after s (one s) in
        let last = skip_end_in i u low high later to 0 op.Jump b both.second in
        let few : mid + 1 ≤ 65535 = (let step = last.step in let most = k.part.low in omega (arith, step, most)) in
        let first = skip_kept_in i u low high s mid 1 1 op.JumpIfZero a few both.first in
        let down = k.down in
        let up = k.up in
        let step = last.step in
        let begin = first.step in
        let end : to + 0 ≡ to = omega arith in
        let next : mid + 1 ≡ suc mid = omega arith in
        let in_b = q.flows i u low high (inside later) to last.inner suits ways out ends in
        let leaves = jump_kept i u low high mid (to + 0) last.there
        (record { down = omega (arith, down, begin, step); up = omega (arith, up); empty = ap (λ n. has_depth i n 0) end ∙ ends }) in
        let in_a = p.flows i u low high (inside s) mid first.inner suits ways (omega arith) leaves.begins in
        let test = test_kept i u low high s.place (mid + 1) op.JumpIfZero zero_test first.there first.shallow in_a.begins
        (record {
          down = omega (arith, down, begin);
          up = omega (arith, up, step);
          empty = ap (λ n. has_depth i n 0) next ∙ in_b.begins;
        }) in
        kept_then i u low high s.place (suc s.place) to 1 0 test
        (kept_then i u low high (suc s.place) mid to 0 0 in_a (kept_then i u low high mid (suc mid) to 0 0 leaves in_b));
  }

-- ---- nothing, and one after the other

-- no code is this
abbrev pub IsOfNothing : Meant → Type 0
IsOfNothing Is = (i : Sections) (program : Program) (g : Package) (numbers : Numbers) (f : Framed) (r : Handling) (at : ℕ) → Is i program g numbers f r at at

pub does_nothing : (Is : Meant) (c : Site) → IsOfNothing Is → Does Is c [] (coded nothing)
unfolding coded nothing
does_nothing Is c same = record {
  tidy = tidy_coded nothing;
  stands = λ i program g numbers f r s to served h. record {
    is = subst (λ n. Is i program g numbers f r s.place n) (let e = h.part.ends in let k : s.place ≡ to = omega (arith, e) in k)
        (same i program g numbers f r s.place);
    tells = tt;
  };
  flows = flows_coded c.visible c.ways 0 0 nothing (fits_none {Unfit = ⊤} (SuitsStatements c.visible) 0 0).leads;
}

pub does_then : (P Q R : Meant) (c : Site) (xs ys : List Construct) (a b : CodePart)
    → ((i : Sections) (program : Program) (g : Package) (numbers : Numbers) (f : Framed) (r : Handling) (from mid to : ℕ)
    → from ≤ mid → mid ≤ to
    → P i program g numbers f r from mid → Q i program g numbers f r mid to → R i program g numbers f r from to)
    → Does P c xs a → Does Q c ys b → Does R c (xs ++ ys) (a ▹ b)
unfolding ◌▹◌
does_then P Q R c xs ys a b both p q = record {
  tidy = tidy_then a b p.tidy q.tidy;
  stands = λ i program g numbers f r s to served h.
      let it = both_stand_by i r f.room s to a b p.tidy q.tidy h in
      let mid = end_of s a in
      let next = after s (a s) in
      let first = p.stands i program g numbers f r s mid served it.first in
      let second = q.stands i program g numbers f r next to served it.second in
      record {
        is = both i program g numbers f r s.place mid to it.low it.up first.is second.is;
        tells = tells_then i program g numbers (a s).places (b next).places xs ys first.tells second.tells;
      };
  flows = flows_then c.visible c.ways 0 0 0 a b q.tidy.grows p.flows q.flows;
}

-- ---- a statement with the row of its place

pub does_marked : (c : Site) (x : StmtTree) (a : CodePart)
    → Does (λ i program g numbers f r from to. IsStatement i program g numbers f c.ways r from to x) c (stmt_within x) a
    → Does (λ i program g numbers f r from to. IsStatement i program g numbers f c.ways r from to x) c (stmt_within x ++ OfStatement x ∷ [])
    (marked (stmt_place x) a)
unfolding marked
does_marked c x a p = record {
  tidy = tidy_marked (stmt_place x) a p.tidy;
  stands = λ i program g numbers f r s to served h.
      let inner = marked_by i r f.room s to (stmt_place x) a h in
      let it = p.stands i program g numbers f r s to served inner in
      record {
        is = it.is;
        tells = tells_then i program g numbers (a s).places ((record { first = s.place; behind = end_of s a; place = stmt_place x }) ∷ []) (stmt_within x)
            (OfStatement x ∷ []) it.tells (
              record {
                place = refl;
                frame = f;
                taken = c.taken;
                serves = served.serves;
                code = (c.ways, r, subst (λ n. IsStatement i program g numbers f c.ways r s.place n x) inner.part.ends it.is);
              },
              tt,
            );
      };
  flows = flows_marked c.visible c.ways (stmt_place x) a p.flows;
}

-- ---- instructions alone

pub does_coded : (Is : Meant) (c : Site) (p : Piece) → Leads (SuitsStatements c.visible) 0 0 p
    → ((i : Sections) (program : Program) (g : Package) (numbers : Numbers) (f : Framed) (r : Handling) (s : Start) (to : ℕ)
    → IsServed program g numbers f c
    → StandsBy i r f.room s to (coded p)
    → Is i program g numbers f r s.place to)
    → Does Is c [] (coded p)
unfolding coded
does_coded Is c p leads stands = record {
  tidy = tidy_coded p;
  stands = λ i program g numbers f r s to served h. record { is = stands i program g numbers f r s to served h; tells = tt };
  flows = flows_coded c.visible c.ways 0 0 p leads;
}

-- which no image has
pub never_does : (Is : Meant) (c : Site) (p : Piece) → ((i : Sections) (from to : ℕ) → Between i from to p → ⊥) → Does Is c [] (coded p)
unfolding coded
never_does Is c p none = record {
  tidy = tidy_coded p;
  stands = λ i program g numbers f r s to served h. absurd (none i s.place to (coded_has i f.room s to p h.part));
  flows = record { flows = λ i u low high s to k suits ways out ends. absurd (none i s.place to (coded_has i u.locals s to p k.part)) };
}
