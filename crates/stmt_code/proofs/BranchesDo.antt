-- What the code of an `if` does where it stands in an image, and that it keeps the rules of images there (RM 5.3).
use Rattle.std.proofs.Common.{◌≡◌, ℕ, suc, ◌+◌, ◌≤◌, List, ◌++◌, Some, refl, sym, ◌∙◌, subst, arith}
use Rattle.std.proofs.lemmas.List.{append-nil, append_assoc}
use Rattle.std.specs.Prelude.{slice_get}
use Rattle.ada_tree.specs.ExpressionTree.{ExprTree}
use Rattle.ada_tree.specs.StatementTree.{ElsifTrees, If, MoreElsifs, MoreStmts, NoElsifs, NoStmts, StmtTree, StmtTrees}
use Rattle.image.specs.declared.instruction.Operation.TheVariants as op
use Rattle.expr_soundness.specs.SoundScopes.{SoundScope}
use Rattle.expr_code.specs.Computing.{Computes}
use Rattle.expr_code.specs.Emitting.{IsLegalExpression}
use Rattle.expr_code.specs.ExpressionCode.{expr_code}
use Rattle.expr_code.specs.Pieces.{Piece}
use Rattle.expr_code.specs.Providing.{HasWhatExpressionsNeed}
use Rattle.expr_code.specs.Seeing.{Sees, library_of}
use Rattle.expr_code.specs.Widths.{width_of}
use Rattle.expr_code.specs.declared.visible.Visible.{Visible}
use Rattle.expr_code.proofs.CalledWorks.{as_wide}
use Rattle.expr_code.proofs.ExpressionWorks.{Works}
use Rattle.expr_code.proofs.NamesWork.{all_work}
use Rattle.expr_code.proofs.StandingPieces.{Leads, zero_test}
use Rattle.part_code.specs.Jumping.{Here, There}
use Rattle.part_code.specs.Statements.{AreStatements, IsBranch, IsOtherwise, IsStatement}
use Rattle.part_code.specs.Suiting.{SuitsStatements}
use Rattle.part_code.proofs.PieceNeeds.{Laws}
use Rattle.stmt_code.specs.Drafting.{CodePart, after, coded, skipping, ◌▹◌}
use Rattle.stmt_code.specs.Emitting.{Meant}
use Rattle.stmt_code.specs.Placing.{Construct, elsifs_within, stmts_within}
use Rattle.stmt_code.specs.StatementCode.{Site, elsifs_code, fork_code, if_code, stmts_code}
use Rattle.stmt_code.proofs.PartsDo.{Does, IsOfNothing, does_as, flows_coded, flows_fork, flows_tested, flows_then}
use Rattle.stmt_code.proofs.PartsStand.{both_stand_by, coded_goes, coded_has, end_of, inside, skip_end_by, skip_stands_by, tidy_coded, tidy_skipping, tidy_then}
use Rattle.stmt_code.proofs.PlacesAdded.{tells_then}

-- ---- expressions of one word

pub one_word_works : Laws → (v : Visible) → SoundScope v.scope → HasWhatExpressionsNeed v → (d : ℕ) (e : ExprTree) → width_of v.scope e ≡ 1
    → IsLegalExpression v.scope e
    → Works v d 1 e (expr_code v d e)
one_word_works laws v sound covered d e wide legal =
    as_wide v d _ 1 e _ wide (all_work laws.quiet laws.typed laws.spared laws.lie laws.words laws.places v sound covered d e legal)

-- whatever statements may name besides
pub works_leads : (v : Visible) (d : ℕ) (e : ExprTree) (x : Piece) → Works v d 1 e x → Leads (SuitsStatements v) d (d + 1) x
works_leads v d e x w = record {
  leads = λ i s from to h suits deep high ends. w.fits.leads.leads i s from to h suits.names deep high ends;
}

-- ---- a condition, and what follows where it holds

module _ (c : Site) (e : ExprTree) (x : Piece) (w : Works c.visible 0 1 e x) where
  -- and where it doesn't
  pub does_fork : (P Q : Meant) (xs ys : List Construct) (a b : CodePart) → Does P c xs a → Does Q c ys b
      → Does
      (λ i program g numbers f r from to. IsBranch i program g numbers f r from to e (λ m n. P i program g numbers f r m n) (λ m n. Q i program g numbers f r m n))
      c (xs ++ ys) (coded x ▹ skipping 1 1 op.JumpIfZero a ▹ skipping 0 0 op.Jump b)
  unfolding ◌▹◌ coded skipping
  does_fork P Q xs ys a b p q =
      let one = skipping 1 1 op.JumpIfZero a in
      let two = skipping 0 0 op.Jump b in
      let tidy_two = tidy_skipping 0 0 op.Jump b q.tidy in
      let tidy_one = tidy_skipping 1 1 op.JumpIfZero a p.tidy in
      let tidy = tidy_then one two tidy_one tidy_two in
      record {
        tidy = tidy_then (coded x) (one ▹ two) (tidy_coded x) tidy;
        stands = λ i program g numbers f r s to served h.
            let mid = end_of s (coded x) in
            let at = after s (coded x s) in
            let joint = end_of at one in
            let later = after at (one at) in
            let whole = both_stand_by i r f.room s to (coded x) (one ▹ two) (tidy_coded x) tidy h in
            let parts = both_stand_by i r f.room at to one two tidy_one tidy_two whole.second in
            let last = skip_end_by i r f.room later to 0 op.Jump b parts.second in
            let few : joint + 1 ≤ 65535 = (let up = last.up in let low = h.part.low in omega (arith, up, low)) in
            let first = skip_stands_by i r f.room at joint 1 1 op.JumpIfZero a few parts.first in
            let holds = p.stands i program g numbers f r (inside at) joint served first.inner in
            let fails = q.stands i program g numbers f r (inside later) to served last.inner in
            record {
              is = (
                mid,
                joint,
                suc joint,
                whole.low,
                first.up,
                omega arith,
                last.up,
                subst (λ v. Computes i (library_of g) (Sees g v) s.place mid e) (sym served.names)
                    (w.computes i s.place mid (coded_has i f.room s mid x whole.first.part) g),
                (
                  1,
                  subst (λ n. slice_get i.instructions mid ≡ Some (record { depth = 1; operation = op.JumpIfZero n }))
                      (let k : joint + 1 ≡ suc joint = omega arith in k) first.there,
                ),
                holds.is,
                There (
                  0,
                  subst (λ n. slice_get i.instructions joint ≡ Some (record { depth = 0; operation = op.Jump n })) (let k : to + 0 ≡ to = omega arith in k)
                      last.there,
                ) last.up Here,
                fails.is,
                coded_goes i r f.room s mid x whole.first,
              );
              tells = tells_then i program g numbers (a (inside at)).places (b (inside later)).places xs ys holds.tells fails.tells;
            };
        flows = flows_then c.visible c.ways 0 1 0 (coded x) (one ▹ two) tidy.grows (flows_coded c.visible c.ways 0 1 x (works_leads c.visible 0 e x w))
            (flows_fork c.visible c.ways a b q.tidy.grows p.flows q.flows);
      }

  -- and nothing where it doesn't
  pub does_guarded : (P Q : Meant) (xs : List Construct) (a : CodePart)
      → IsOfNothing Q
      → Does P c xs a
      → Does
      (λ i program g numbers f r from to. IsBranch i program g numbers f r from to e (λ m n. P i program g numbers f r m n) (λ m n. Q i program g numbers f r m n))
      c xs (coded x ▹ skipping 0 1 op.JumpIfZero a)
  unfolding ◌▹◌ coded skipping
  does_guarded P Q xs a none p =
      let one = skipping 0 1 op.JumpIfZero a in
      let tidy = tidy_skipping 0 1 op.JumpIfZero a p.tidy in
      record {
        tidy = tidy_then (coded x) one (tidy_coded x) tidy;
        stands = λ i program g numbers f r s to served h.
            let mid = end_of s (coded x) in
            let at = after s (coded x s) in
            let whole = both_stand_by i r f.room s to (coded x) one (tidy_coded x) tidy h in
            let first = skip_end_by i r f.room at to 1 op.JumpIfZero a whole.second in
            let holds = p.stands i program g numbers f r (inside at) to served first.inner in
            record {
              is = (
                mid,
                to,
                to,
                whole.low,
                first.up,
                omega arith,
                omega arith,
                subst (λ v. Computes i (library_of g) (Sees g v) s.place mid e) (sym served.names)
                    (w.computes i s.place mid (coded_has i f.room s mid x whole.first.part) g),
                (
                  1,
                  subst (λ n. slice_get i.instructions mid ≡ Some (record { depth = 1; operation = op.JumpIfZero n }))
                      (let k : to + 0 ≡ to = omega arith in k) first.there,
                ),
                holds.is,
                Here,
                none i program g numbers f r to,
                coded_goes i r f.room s mid x whole.first,
              );
              tells = holds.tells;
            };
        flows = flows_then c.visible c.ways 0 1 0 (coded x) one tidy.grows (flows_coded c.visible c.ways 0 1 x (works_leads c.visible 0 e x w))
            (flows_tested c.visible c.ways op.JumpIfZero a zero_test p.flows);
      }

-- ---- all parts of an `if`

abbrev pub AreBody : Site → StmtTrees → Meant
AreBody c body i program g numbers f r from to = AreStatements i program g numbers f c.ways r from to body

abbrev pub AreOtherwise : Site → ElsifTrees → StmtTrees → Meant
AreOtherwise c parts others i program g numbers f r from to =
    IsOtherwise i program g numbers f c.ways r from to parts (λ m n. AreStatements i program g numbers f c.ways r m n others)

abbrev pub IsOne : Site → StmtTree → Meant
IsOne c x i program g numbers f r from to = IsStatement i program g numbers f c.ways r from to x

forked : (c : Site) (place : ℕ) (e : ExprTree) (body : StmtTrees) (parts : ElsifTrees) (others : StmtTrees) → Works c.visible 0 1 e (expr_code c.visible 0 e)
    → Does (AreBody c body) c (stmts_within body) (stmts_code c body)
    → Does (AreOtherwise c parts others) c (elsifs_within parts ++ stmts_within others) (elsifs_code c parts (stmts_code c others))
    → Does (IsOne c (If place e body parts others)) c ((stmts_within body ++ elsifs_within parts) ++ stmts_within others)
    (fork_code c.visible e (stmts_code c body) (elsifs_code c parts (stmts_code c others)))
forked c place e body parts others w p q =
    does_as _ (IsOne c (If place e body parts others)) c (stmts_within body ++ (elsifs_within parts ++ stmts_within others)) _ _
    (λ i program g numbers f r from to h. h)
    (sym (append_assoc (stmts_within body) (elsifs_within parts) (stmts_within others)))
    (does_fork c e (expr_code c.visible 0 e) w (AreBody c body) (AreOtherwise c parts others) (stmts_within body) (elsifs_within parts ++ stmts_within others)
    (stmts_code c body) (elsifs_code c parts (stmts_code c others)) p q)

pub does_if : (c : Site) (place : ℕ) (e : ExprTree) (body : StmtTrees) (parts : ElsifTrees) (others : StmtTrees)
    → Works c.visible 0 1 e (expr_code c.visible 0 e)
    → Does (AreBody c body) c (stmts_within body) (stmts_code c body)
    → Does (AreOtherwise c parts others) c (elsifs_within parts ++ stmts_within others) (elsifs_code c parts (stmts_code c others))
    → Does (IsOne c (If place e body parts others)) c ((stmts_within body ++ elsifs_within parts) ++ stmts_within others)
    (if_code c.visible e parts others (stmts_code c body) (elsifs_code c parts (stmts_code c others)))
does_if c place e body NoElsifs NoStmts w p q =
    does_as _ (IsOne c (If place e body NoElsifs NoStmts)) c (stmts_within body) _ _ (λ i program g numbers f r from to h. h)
    (sym (append-nil (stmts_within body)) ∙ sym (append-nil _))
    (does_guarded c e (expr_code c.visible 0 e) w (AreBody c body) (AreOtherwise c NoElsifs NoStmts) (stmts_within body) (stmts_code c body)
    (λ i program g numbers f r at. refl) p)
does_if c place e body NoElsifs (MoreStmts x rest) w p q = forked c place e body NoElsifs (MoreStmts x rest) w p q
does_if c place e body (MoreElsifs condition first more) others w p q = forked c place e body (MoreElsifs condition first more) others w p q

-- a part after the first one
pub does_elsif : (c : Site) (e : ExprTree) (body : StmtTrees) (rest : ElsifTrees) (others : StmtTrees) (last : CodePart)
    → Works c.visible 0 1 e (expr_code c.visible 0 e)
    → Does (AreBody c body) c (stmts_within body) (stmts_code c body)
    → Does (AreOtherwise c rest others) c (elsifs_within rest ++ stmts_within others) (elsifs_code c rest last)
    → Does (AreOtherwise c (MoreElsifs e body rest) others) c ((stmts_within body ++ elsifs_within rest) ++ stmts_within others)
    (elsifs_code c (MoreElsifs e body rest) last)
does_elsif c e body rest others last w p q =
    does_as _ (AreOtherwise c (MoreElsifs e body rest) others) c (stmts_within body ++ (elsifs_within rest ++ stmts_within others)) _ _
    (λ i program g numbers f r from to h. h)
    (sym (append_assoc (stmts_within body) (elsifs_within rest) (stmts_within others)))
    (does_fork c e (expr_code c.visible 0 e) w (AreBody c body) (AreOtherwise c rest others) (stmts_within body) (elsifs_within rest ++ stmts_within others)
    (stmts_code c body) (elsifs_code c rest last) p q)
