-- What the code of a line does where it stands in an image, and that it keeps the rules of images there: its label has the number that the instruction names.
use Rattle.std.proofs.Common.{◌≡◌, ℕ, suc, ◌+◌, ◌<◌, ◌⊎◌, inl, inr, List, [], ◌∷◌, ◌++◌, length, Bool, true, false, cond, not, None, Some, refl, sym, ap, ◌∙◌, subst, arith, rules}
use Rattle.std.specs.Prelude.{bytes_eq, is_some, nat_lt, slice_get}
use Rattle.std.proofs.lemmas.List.Elements.{All-nil}
use Rattle.std.proofs.lemmas.Slice.Eq.{bytes_eq-Decides}
use Rattle.ada_tree.specs.ExpressionTree as tree
use Rattle.ada_tree.specs.ExpressionTree.{Arguments, ExprTree, MoreArguments, MoreSelectors, NameTree, NoArguments, NoSelectors, SelectorTrees, Text}
use Rattle.ada_tree.specs.StatementTree.{Call}
use Rattle.image.specs.Sections.{Sections}
use Rattle.image.specs.Rules.{has_depth}
use Rattle.image.specs.Texts.{text_or_none}
use Rattle.image.specs.declared.instruction.Operation.TheVariants as op
use Rattle.types.specs.Entities.{Put}
use Rattle.types.specs.Scopes.{integer_type}
use Rattle.expr_soundness.specs.expr_rules.specs.declared.own.Wanted.TheVariants.{OfType}
use Rattle.expr_soundness.specs.expr_rules.specs.ExpressionRules.{faults_of}
use Rattle.expr_soundness.specs.meaning.specs.Calls.{callee_by, callee_with}
use Rattle.expr_soundness.specs.meaning.specs.Programs.{Program}
use Rattle.expr_code.specs.Computing.{Computes}
use Rattle.expr_code.specs.ExpressionCode.{expr_code}
use Rattle.expr_code.specs.Flows.{AreKeptBetween}
use Rattle.expr_code.specs.Pieces.{Piece, deepest_of, narrow, one}
use Rattle.expr_code.specs.Seeing.{Package, Sees, library_of}
use Rattle.expr_code.specs.Views.{At}
use Rattle.expr_code.specs.declared.visible.Visible.{Visible}
use Rattle.expr_code.proofs.ExpressionWorks.{Works}
use Rattle.expr_code.proofs.Flowing.{kept_one}
use Rattle.expr_code.proofs.StandingPieces.{Between, narrow_same, one_stands}
use Rattle.part_code.specs.Labels.{is_label, with_label}
use Rattle.part_code.specs.Lines.{line_of}
use Rattle.part_code.specs.Resting.{Framed}
use Rattle.part_code.specs.Rows.{LiesWithin}
use Rattle.part_code.specs.Statements.{IsCalleeCode, Numbers, Ways}
use Rattle.part_code.specs.step_soundness.specs.Fitting.{entity_named}
use Rattle.part_code.proofs.Lists.{shorter}
use Rattle.stmt_code.specs.Drafting.{Start, after, coded, label_number, labelled, ◌▹◌}
use Rattle.stmt_code.specs.Emitting.{IsLegalStatement}
use Rattle.stmt_code.specs.StatementCode.{Site, line_code}
use Rattle.stmt_code.proofs.AddedRows.{rows_none}
use Rattle.stmt_code.proofs.Adding.{wanted_legal}
use Rattle.stmt_code.proofs.BranchesDo.{IsOne, one_word_works, works_leads}
use Rattle.stmt_code.proofs.Labelled.{label_longer, label_stays}
use Rattle.stmt_code.proofs.CoveredScopes.{IsFull}
use Rattle.stmt_code.proofs.PartsDo.{Does, Flows, IsServed, StatementLaws, flows_coded, flows_then}
use Rattle.stmt_code.proofs.PartsStand.{HasPart, IsTidy, both_stand_by, coded_has, end_of, tidy_coded, tidy_then}
use Rattle.stmt_code.proofs.Putting.{line_faults, line_wide, line_written}

-- ---- the number of a label

-- where it is among those that are there, or after them
abbrev IsNumbered : (text : List ℕ) → (labels : List (List ℕ)) → (number : ℕ) → Type 0
IsNumbered text l n = ((n < length l) × (slice_get l n ≡ Some text)) ⊎ (n ≡ length l)

numbered : (text : List ℕ) (l : List (List ℕ)) → IsNumbered text l (label_number l text)
numbered text [] = inr refl
numbered text (x ∷ l) = by_text (bytes_eq text x) refl (numbered text l)
  where
    one_more : (n : ℕ) → IsNumbered text l n → IsNumbered text (x ∷ l) (suc n)
    one_more n (inl h) = inl (let less = h.0 in omega (arith, less), h.1)
    one_more n (inr h) = inr (ap suc h)

    by_text : (b : Bool) → bytes_eq text x ≡ b → IsNumbered text l (label_number l text) → IsNumbered text (x ∷ l) (cond (not b) (1 + label_number l text) 0)
    by_text true is rest = inl (omega arith, ap Some (sym ((bytes_eq-Decides text x).0 is)))
    by_text false is rest =
        let next : suc (label_number l text) ≡ 1 + label_number l text = omega arith in
        subst (IsNumbered text (x ∷ l)) next (one_more (label_number l text) rest)

at_end : (l : List (List ℕ)) (x : List ℕ) → slice_get (l ++ x ∷ []) (length l) ≡ Some x
at_end [] x = refl
at_end (y ∷ l) x = at_end l x

-- a label that is there already, or one more
abbrev either : List (List ℕ) → List ℕ → Bool → List (List ℕ)
either l text b = elim b [ true ↦ l | false ↦ l ++ text ∷ [] ]

pub label_there : (l : List (List ℕ)) (text : List ℕ) → slice_get (with_label l text) (label_number l text) ≡ Some text
label_there l text = by_test (is_label l text) refl (numbered text l)
  where
    n : ℕ
    n = label_number l text

    not_less : (k m : ℕ) → k ≡ m → is_some (cond (nat_lt k m) (Some k) None) ≡ true → ⊥
    not_less k m same h = by_order (nat_lt k m) refl h
      where
        less_of : (x y : ℕ) → nat_lt x y ≡ true → x < y
        less_of x y e = search rules

        by_order : (b : Bool) → nat_lt k m ≡ b → is_some (cond b (Some k) None) ≡ true → ⊥
        by_order true e t = (let less = less_of k m e in omega (arith, less, same))
        by_order false e t = cc

    by_test : (b : Bool) → is_label l text ≡ b → IsNumbered text l n → slice_get (either l text b) n ≡ Some text
    by_test true is (inl h) = h.1
    by_test true is (inr h) = absurd (not_less n (length l) h is)
    by_test false is (inl h) = ap (λ b. slice_get (either l text b) n) (sym is) ∙ label_stays l text n text (omega arith) h.1
    by_test false is (inr h) = ap (slice_get (l ++ text ∷ [])) h ∙ at_end l text

-- ---- the instruction that writes it

abbrev put_line : ℕ → Piece
put_line n = one 1 (op.PutLine n)

tidy_labelled : (text : List ℕ) (f : ℕ → Piece) → IsTidy (labelled text f)
unfolding labelled
tidy_labelled text f = record {
  grows = record { labels = λ s. label_stays s.labels text; longer = λ s. label_longer s.labels text };
  rows = λ s low. All-nil (LiesWithin s.place (s.place + length (f (narrow (label_number s.labels text)) s.place)));
}

-- where it stands in an image with the labels
record LineStands (i : Sections) (frame : ℕ) (s : Start) (to : ℕ) (text : List ℕ) : Type 0 where
  number : ℕ
  there : slice_get i.instructions s.place ≡ Some (record { depth = 1; operation = op.PutLine number })
  ends : to ≡ suc s.place
  labelled : slice_get i.labels number ≡ Some text

line_stands : (i : Sections) (frame : ℕ) (s : Start) (to : ℕ) (text : List ℕ) → HasPart i frame s to (labelled text put_line) → LineStands i frame s to text
unfolding labelled
line_stands i frame s to text h =
    let n = label_number s.labels text in
    let there = label_there s.labels text in
    let few = shorter (with_label s.labels text) n text there in
    let most = h.few in
    let same : narrow n ≡ n = narrow_same n (omega (arith, few, most)) in
    let it = one_stands i s.place to 1 (op.PutLine (narrow n)) (record { there = h.there; ends = h.ends; low = h.low }) in
    record {
      number = n;
      there = it.there ∙ ap (λ k. Some (record { depth = 1; operation = op.PutLine k })) same;
      ends = it.ends;
      labelled = h.labels.labels n text (omega arith) there;
    }

line_deep : (s : Start) (text : List ℕ) → deepest_of (labelled text put_line s).code ≡ 1
unfolding labelled narrow one
line_deep s text = refl

line_flows : (v : Visible) (w : Ways) (text : List ℕ) → Flows v w 1 0 (labelled text put_line)
line_flows v w text = record {
  flows = λ i u low high s to k suits ways out ends.
      let it = line_stands i u.locals s to text k.part in
      let deep = k.deep in
      let tall = line_deep s text in
      let known = lt_true it.number (length i.labels) (shorter i.labels it.number text it.labelled) in
      subst (λ n. AreKeptBetween i u low high s.place n 1) (sym it.ends)
      (kept_one i u low high s.place 1 0 (op.PutLine it.number) it.there (omega (arith, deep, tall)) (omega arith) refl known (omega arith) (omega arith) refl
      (λ e. ap (λ n. has_depth i n 0) (sym it.ends) ∙ ends) (λ t e. absurd cc));
}
  where
    lt_true : (x y : ℕ) → x < y → nat_lt x y ≡ true
    lt_true x y less = search rules

-- ---- the statement

module _ (laws : StatementLaws) (c : Site) (name : NameTree) (label : List ℕ) (value : ExprTree) (full : IsFull c)
    (legal : IsLegalStatement c.visible.scope (Call name)) (put : entity_named c.visible.scope name.first.name ≡ Some Put)
    (written : line_of name ≡ Some (record { label = label; value = value })) where
  abbrev v : Visible
  v = c.visible

  faults : faults_of v.scope (OfType integer_type) value ≡ []
  faults = line_faults v.scope name label value legal put written

  abbrev x : Piece
  x = expr_code v 0 value

  worked : Works v 0 1 value x
  worked =
      one_word_works laws.expressions v full.sound full.has.expressions 0 value (line_wide v.scope full.sound value faults)
      (wanted_legal v.scope (OfType integer_type) value faults)

  abbrev forms : SelectorTrees → Sections → Program → Package → Numbers → Framed → (from to : ℕ) → Type 0
  forms all i program g numbers f from to =
      IsCalleeCode i program g numbers f from to (record { first = name.first; selectors = all }) (callee_by program f.within name.first all)

  means : (i : Sections) (program : Program) (g : Package) (numbers : Numbers) (f : Framed) (s : Start) (to mid number : ℕ) → IsServed program g numbers f c
      → Between i s.place mid x → At i mid (op.PutLine number) → slice_get i.labels number ≡ Some label → to ≡ suc mid
      → forms name.selectors i program g numbers f s.place to
  means i program g numbers f s to mid number served first there labelled ends =
      let this = line_written name.selectors label value written in
      let line = MoreArguments (Text label this.at) (MoreArguments (tree.Value value) NoArguments) in
      let names = served.names in
      let found = served.serves.finds name.first.name Put (ap (λ y. entity_named y.scope name.first.name) names ∙ put) in
      subst (λ all. forms all i program g numbers f s.place to) (sym this.is)
      (subst (λ o. IsCalleeCode i program g numbers f s.place to
      (record { first = name.first; selectors = MoreSelectors (Arguments line) NoSelectors }) (callee_with o None line)) (sym found.free) (
        found.is,
        (
          mid,
          number,
          (let up = first.ends in omega (arith, up)),
          subst (λ y. Computes i (library_of g) (Sees g y) s.place mid value) (sym names) (worked.computes i s.place mid first g),
          there,
          ap text_or_none labelled,
          ends,
        ),
      ))

  pub does_line : Does (IsOne c (Call name)) c [] (line_code v (Some (record { label = label; value = value })))
  unfolding ◌▹◌ coded labelled
  does_line =
      let a = coded x in
      let b = labelled label put_line in
      let tidy = tidy_labelled label put_line in
      record {
        tidy = tidy_then a b (tidy_coded x) tidy;
        stands = λ i program g numbers f r s to served h.
            let both = both_stand_by i r f.room s to a b (tidy_coded x) tidy h in
            let mid = end_of s a in
            let it = line_stands i f.room (after s (a s)) to label both.second.part in
            record {
              is = (
                means i program g numbers f s to mid it.number served (coded_has i f.room s mid x both.first.part) (1, it.there) it.labelled it.ends,
                rows_none i r s.place to h.goes,
              );
              tells = tt;
            };
        flows = flows_then v c.ways 0 1 0 a b tidy.grows (flows_coded v c.ways 0 1 x (works_leads v 0 value x worked)) (line_flows v c.ways label);
      }
