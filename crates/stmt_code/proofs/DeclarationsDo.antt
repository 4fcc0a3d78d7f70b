-- What the code of declarations does where it stands in an image, and that it keeps the rules of images there, one declaration after another; and that of blocks
-- (RM 3.3.1, 5.6).
use Rattle.std.proofs.Common.{◌≡◌, ℕ, ◌+◌, ◌≤◌, List, [], ◌∷◌, ◌++◌, refl, sym, ◌∙◌, subst, arith}
use Rattle.ada_tree.specs.StatementTree.{Block, DeclarationTree, HandlerTrees, LocalObject, LocalProtected, LocalTask, StmtTrees}
use Rattle.image.specs.Sections.{Sections}
use Rattle.image.specs.declared.subprograms.Subprogram.{Subprogram}
use Rattle.expr_soundness.specs.meaning.specs.Programs.{Program}
use Rattle.expr_code.specs.Pieces.{nothing}
use Rattle.expr_code.specs.Seeing.{Package}
use Rattle.expr_code.proofs.StandingPieces.{fits_none}
use Rattle.part_code.specs.Handling.{GoesBy, GoesByRows, Handling}
use Rattle.part_code.specs.Resting.{Framed, NarrowsFrame}
use Rattle.part_code.specs.Statements.{AreDeclared, IsDeclared, IsSequence, Numbers}
use Rattle.part_code.specs.Suiting.{SuitsStatements}
use Rattle.stmt_code.specs.Drafting.{CodePart, Start, after, coded, ◌▹◌}
use Rattle.stmt_code.specs.Emitting.{Allows, Meant, TellPlaces, seeing}
use Rattle.stmt_code.specs.Placing.{Construct, local_within, locals_within, sequence_within}
use Rattle.stmt_code.specs.StatementCode.{Site, after_local, after_locals}
use Rattle.stmt_code.proofs.AddedRows.{rows_none}
use Rattle.stmt_code.proofs.BranchesDo.{IsOne}
use Rattle.stmt_code.proofs.HandlersDo.{IsSequenceAt}
use Rattle.stmt_code.proofs.PartsDo.{Does, Flows, IsServed, flows_coded}
use Rattle.stmt_code.proofs.PartsStand.{HasPart, IsTidy, both_have, both_kept_in, both_stand_by, end_of, tidy_coded, tidy_then}
use Rattle.stmt_code.proofs.PlacesAdded.{tells_then}
use Rattle.expr_code.proofs.Flowing.{kept_then}

-- ---- one declaration

-- it is declared there, its name is visible after it, and a row of places tells of it
pub record IsDeclaredAt (i : Sections) (program : Program) (g : Package) (numbers : Numbers) (f : Framed) (c : Site) (d : DeclarationTree) (s : Start) (to : ℕ)
    (a : CodePart) : Type 0 where
  pub is : IsDeclared i program g numbers f s.place to (seeing f (after_local c d).visible) d
  pub narrows : NarrowsFrame g (seeing f (after_local c d).visible) f
  pub served : IsServed program g numbers (seeing f (after_local c d).visible) (after_local c d)
  pub tells : TellPlaces i program g numbers (a s).places (local_within d)

pub record DoesDeclare (c : Site) (d : DeclarationTree) (a : CodePart) : Type 0 where
  pub tidy : IsTidy a
  pub rows : (s : Start) → (a s).rows ≡ []
  pub declares : (i : Sections) (program : Program) (g : Package) (numbers : Numbers) (f : Framed) (s : Start) (to : ℕ) → IsServed program g numbers f c
      → HasPart i f.room s to a
      → IsDeclaredAt i program g numbers f c d s to a
  pub flows : Flows c.visible c.ways 0 0 a
  pub suits : (i : Sections) (u : Subprogram) (s : Start) (to : ℕ) → HasPart i u.locals s to a → SuitsStatements c.visible i u
      → SuitsStatements (after_local c d).visible i u

-- ---- several

pub record AreDeclaredAt (i : Sections) (program : Program) (g : Package) (numbers : Numbers) (f : Framed) (c : Site) (ds : List DeclarationTree) (s : Start)
    (to : ℕ) (a : CodePart) : Type 0 where
  pub are : AreDeclared i program g numbers f s.place to (seeing f (after_locals c ds).visible) ds
  pub served : IsServed program g numbers (seeing f (after_locals c ds).visible) (after_locals c ds)
  pub tells : TellPlaces i program g numbers (a s).places (locals_within ds)

pub record DoDeclare (c : Site) (ds : List DeclarationTree) (a : CodePart) : Type 0 where
  pub tidy : IsTidy a
  pub rows : (s : Start) → (a s).rows ≡ []
  pub declare : (i : Sections) (program : Program) (g : Package) (numbers : Numbers) (f : Framed) (s : Start) (to : ℕ) → IsServed program g numbers f c
      → HasPart i f.room s to a
      → AreDeclaredAt i program g numbers f c ds s to a
  pub flows : Flows c.visible c.ways 0 0 a
  pub suits : (i : Sections) (u : Subprogram) (s : Start) (to : ℕ) → HasPart i u.locals s to a → SuitsStatements c.visible i u
      → SuitsStatements (after_locals c ds).visible i u

pub none_declare : (c : Site) → DoDeclare c [] (coded nothing)
unfolding coded nothing
none_declare c = record {
  tidy = tidy_coded nothing;
  rows = λ s. refl;
  declare = λ i program g numbers f s to served h.
      let same : seeing f c.visible ≡ f = λ j. record f { names = (sym served.names) j } in
      record {
        are = ((let e = h.ends in let k : s.place ≡ to = omega (arith, e) in k), same);
        served = subst (λ z. IsServed program g numbers z c) (sym same) served;
        tells = tt;
      };
  flows = flows_coded c.visible c.ways 0 0 nothing (fits_none {Unfit = c.ways ≡ c.ways} (SuitsStatements c.visible) 0 0).leads;
  suits = λ i u s to h suits. suits;
}

-- what keeps the rules where other names are visible too
module _ (c : Site) (d : DeclarationTree) (ds : List DeclarationTree) (a b : CodePart) (ways : (after_local c d).ways ≡ c.ways) (p : DoesDeclare c d a)
    (q : DoDeclare (after_local c d) ds b) where
  pub more_declare : DoDeclare c (d ∷ ds) (a ▹ b)
  unfolding ◌▹◌
  more_declare = record {
    tidy = tidy_then a b p.tidy q.tidy;
    rows = λ s. (λ j. p.rows s j ++ q.rows (after s (a s)) j);
    declare = λ i program g numbers f s to served h.
        let both = both_have i f.room s to a b q.tidy.grows h in
        let mid = end_of s a in
        let next = seeing f (after_local c d).visible in
        let first = p.declares i program g numbers f s mid served both.first in
        let second = after s (a s) in
        let rest = q.declare i program g numbers next second to first.served both.second in
        record {
          are = (mid, next, omega arith, both.up, first.is, first.narrows, rest.are);
          served = rest.served;
          tells = tells_then i program g numbers (a s).places (b second).places (local_within d) (locals_within ds) first.tells rest.tells;
        };
    flows = record {
      flows = λ i u low high s to k suits allows out ends.
          let both = both_kept_in i u low high s to a b q.tidy.grows k in
          let mid = end_of s a in
          let later = p.suits i u s mid both.first.part suits in
          let second = q.flows.flows i u low high (after s (a s)) to both.second later (subst (λ w. Allows i u low high w) (sym ways) allows) out ends in
          let first = p.flows.flows i u low high s mid both.first suits allows second.shallow second.begins in
          kept_then i u low high s.place mid to 0 0 first second;
    };
    suits = λ i u s to h suits.
        let both = both_have i u.locals s to a b q.tidy.grows h in
        q.suits i u (after s (a s)) to both.second (p.suits i u s (end_of s a) both.first suits);
  }

-- ---- declarations, and what sees them

pub local_ways : (c : Site) (ds : List DeclarationTree) → (after_locals c ds).ways ≡ c.ways
local_ways c [] = refl
local_ways c (d ∷ ds) = local_ways (after_local c d) ds ∙ one_ways c d
  where
    one_ways : (c : Site) (d : DeclarationTree) → (after_local c d).ways ≡ c.ways
    one_ways c (LocalObject d) = refl
    one_ways c (LocalTask d) = refl
    one_ways c (LocalProtected d) = refl

module _ (P Q : Meant) (c : Site) (ds : List DeclarationTree) (xs : List Construct) (a b : CodePart) (p : DoDeclare c ds a) (q : Does P (after_locals c ds) xs b)
    (means : (i : Sections) (program : Program) (g : Package) (numbers : Numbers) (f : Framed) (r : Handling) (from mid to : ℕ) → from ≤ mid → mid ≤ to
    → AreDeclared i program g numbers f from mid (seeing f (after_locals c ds).visible) ds
    → GoesBy i r from mid
    → P i program g numbers (seeing f (after_locals c ds).visible) r mid to
    → Q i program g numbers f r from to) where
  pub does_after : Does Q c (locals_within ds ++ xs) (a ▹ b)
  unfolding ◌▹◌
  does_after = record {
    tidy = tidy_then a b p.tidy q.tidy;
    stands = λ i program g numbers f r s to served h.
        let both = both_stand_by i r f.room s to a b p.tidy q.tidy h in
        let mid = end_of s a in
        let next = after s (a s) in
        let later = seeing f (after_locals c ds).visible in
        let first = p.declare i program g numbers f s mid served both.first.part in
        let second = q.stands i program g numbers later r next to first.served both.second in
        record {
          is = means i program g numbers f r s.place mid to both.low both.up first.are
              (rows_none i r s.place mid (subst (λ l. GoesByRows i l r s.place mid) (p.rows s) both.first.goes)) second.is;
          tells = tells_then i program g numbers (a s).places (b next).places (locals_within ds) xs first.tells second.tells;
        };
    flows = record {
      flows = λ i u low high s to k suits allows out ends.
          let both = both_kept_in i u low high s to a b q.tidy.grows k in
          let mid = end_of s a in
          let later = p.suits i u s mid both.first.part suits in
          let second = q.flows.flows i u low high (after s (a s)) to both.second later (subst (λ w. Allows i u low high w) (sym (local_ways c ds)) allows) out ends in
          let first = p.flows.flows i u low high s mid both.first suits allows second.shallow second.begins in
          kept_then i u low high s.place mid to 0 0 first second;
    };
  }

-- a block
pub does_block : (c : Site) (place : ℕ) (ds : List DeclarationTree) (body : StmtTrees) (all : HandlerTrees) (a b : CodePart) → DoDeclare c ds a
    → Does (IsSequenceAt (after_locals c ds) body all) (after_locals c ds) (sequence_within body all) b
    → Does (IsOne c (Block place ds body all)) c (locals_within ds ++ sequence_within body all) (a ▹ b)
does_block c place ds body all a b p q =
    does_after (IsSequenceAt (after_locals c ds) body all) (IsOne c (Block place ds body all)) c ds (sequence_within body all) a b p q
    (λ i program g numbers f r from mid to up over declared goes is. (
      mid,
      seeing f (after_locals c ds).visible,
      up,
      over,
      declared,
      subst (λ w. IsSequence i program g numbers (seeing f (after_locals c ds).visible) w r mid to body all) (local_ways c ds) is,
      goes,
    ))
