-- What the code of a `case` does where it stands in an image, and that it keeps the rules of images there (RM 5.4): tests of choices, alternatives, and the whole.
use Rattle.std.proofs.Common.{◌≡◌, ◌≢◌, ℕ, suc, ◌+◌, ◌*◌, ◌≤◌, ℤ, pos, List, [], ◌∷◌, ◌++◌, length, Bool, true, None, Some, inl, inr, refl, sym, ap, ◌∙◌, subst, arith}
use Rattle.std.specs.Prelude.{slice_get}
use Rattle.kernel.specs.Laws.{QuietStays}
use Rattle.ada_tree.specs.ExpressionTree.{ExprTree}
use Rattle.ada_tree.specs.StatementTree.{AlternativeTrees, Case, MoreAlternatives, NoAlternatives, OtherValues, StmtTrees, Values}
use Rattle.image.specs.Sections.{Sections}
use Rattle.image.specs.Rules.{has_depth}
use Rattle.image.specs.declared.instruction.Operation.TheVariants as op
use Rattle.image.specs.declared.subprograms.Subprogram.{Subprogram}
use Rattle.types.specs.declared.entity.Value.{Value as Scalar}
use Rattle.types.specs.declared.entity.Value.TheVariants as scalar
use Rattle.types.specs.declared.statics.StaticForm.{StaticForm}
use Rattle.types.specs.declared.statics.StaticForm.TheVariants.{Doubtful, NotStatic, Static}
use Rattle.types.specs.Evaluating.{call, val}
use Rattle.types.specs.Evaluations.{Gives, Meaningless, Raises, Val}
use Rattle.types.specs.Places.{Place}
use Rattle.types.specs.Scopes.{Scope}
use Rattle.types.specs.Statics.{StaticIsValue, fault_of, static_fault, static_form, static_value}
use Rattle.types.specs.Values.{Array, Number, Record, Truth, Value}
use Rattle.expr_soundness.specs.expr_rules.specs.ExpressionRules.{faults_of}
use Rattle.expr_soundness.specs.expr_rules.specs.Laws.{is_value_of, suits}
use Rattle.expr_soundness.specs.expr_rules.specs.Typing.{own_of}
use Rattle.expr_soundness.specs.expr_rules.specs.declared.own.Own.TheVariants.{Typed}
use Rattle.expr_soundness.specs.expr_rules.proofs.TypedLaw.{as_number, as_truth, back_empty, front_empty, integral_numeric}
use Rattle.part_code.specs.stmt_rules.specs.CaseRules.{choice_faults, choice_value, choices_wanted, chosen_with, selecting_faults, values_faults}
use Rattle.expr_soundness.specs.Laws.{CallsAreTyped}
use Rattle.expr_soundness.specs.meaning.specs.Programs.{Program}
use Rattle.expr_code.specs.Computing.{Computes}
use Rattle.expr_code.specs.ExpressionCode.{expr_code}
use Rattle.expr_code.specs.Flows.{AreKeptBetween}
use Rattle.expr_code.specs.Naming.{scalar_word}
use Rattle.expr_code.specs.Pieces.{deepest_of, narrow, nothing, one, ◌▸◌}
use Rattle.expr_code.specs.Seeing.{Package, Sees, library_of}
use Rattle.expr_code.specs.Views.{At, View}
use Rattle.expr_code.specs.declared.visible.Visible.{Visible}
use Rattle.expr_code.proofs.ExpressionWorks.{Works}
use Rattle.expr_code.proofs.Flowing.{kept_one, kept_then}
use Rattle.expr_code.proofs.StandingPieces.{Between, Leads, both_stand, leads_one, narrow_same, one_stands}
use Rattle.part_code.specs.Choices.{AreLegalChoices}
use Rattle.part_code.specs.Resting.{Framed}
use Rattle.part_code.specs.Statements.{AreAlternatives, IsChoice, Numbers}
use Rattle.part_code.specs.Suiting.{SuitsStatements}
use Rattle.part_code.proofs.Comparing.{AreTested, IsStatic, choice_of_others, choice_of_values}
use Rattle.part_code.proofs.Deciding.{fixed_kept}
use Rattle.part_code.proofs.Jumps.{jump_kept, same_place}
use Rattle.part_code.proofs.Selecting.{Wants, choice_legal, scalar_there, static_there, wants_there}
use Rattle.part_code.proofs.Walking.{behind}
use Rattle.stmt_code.specs.Drafting.{CodePart, Start, after, coded, skipping, ◌▹◌}
use Rattle.stmt_code.specs.Emitting.{Allows, Meant}
use Rattle.stmt_code.specs.Placing.{Construct, alternatives_within, stmts_within}
use Rattle.stmt_code.specs.SimpleCode.{choice_word, choices_code, test_code, tests_code}
use Rattle.stmt_code.specs.StatementCode.{Site, alternative_code, chosen_code}
use Rattle.stmt_code.proofs.BranchesDo.{AreBody, IsOne, works_leads}
use Rattle.stmt_code.proofs.KeptWords.{each_then}
use Rattle.stmt_code.proofs.PartsDo.{Does, DoesFrom, flows_coded, flows_then}
use Rattle.stmt_code.proofs.PartsStand.{IsTidy, KeptIn, both_kept_in, both_stand_by, coded_goes, coded_has, end_of, inside, skip_end_by, skip_end_in, skip_kept_in, skip_stands_by, tidy_coded, tidy_skipping, tidy_then}
use Rattle.stmt_code.proofs.PlacesAdded.{tells_then}
use Rattle.stmt_code.proofs.TurnsDo.{one_before}

-- ---- tests of choices

module _ (calls : CallsAreTyped) (statics : StaticIsValue) (quiet : QuietStays) (i : Sections) (program : Program) (g : Package) (numbers : Numbers) (f : Framed)
    (e : ExprTree) (selecting : selecting_faults f.names.scope e ≡ [])
    (static : (c : ExprTree) (before : List Scalar)
    → choice_faults f.names.scope (choices_wanted f.names.scope (own_of f.names.scope e)) before c ≡ []
    → static_fault f.names.scope c ≡ None) where
  abbrev s : Scope
  s = f.names.scope

  -- the word of a choice that breaks no rule is that of its value
  pub record IsTestedBy (c : ExprTree) : Type 0 where
    pub value : Scalar
    pub word : choice_word (static_fault s c) (static_value s c) ≡ scalar_word value
    pub is : IsStatic quiet i program g numbers f e c value

  module _ (c : ExprTree) (legal : faults_of s (choices_wanted s (own_of s e)) c ≡ []) (form : static_form s c ≡ Static) where
    -- a value of another kind is wanted nowhere
    never : (v : Value) → static_value s c ≡ Gives v → ((z : ℤ) → v ≢ Number z) → ((b : Bool) → v ≢ Truth b) → (p : Place) (view : View)
        → Sees g f.names p view → ⊥
    never v is no_number no_truth p view sees =
        elim w.kind [
          | inl k ↦ (let n = as_number s (Typed w.number) v (integral_numeric s (Typed w.number) k.1) suited in no_number n.0 n.1)
          | inr k ↦ (let b = as_truth s (Typed w.number) v k.1 suited in no_truth b.0 b.1)
        ]
      where
        w : Wants s (own_of s e)
        w = wants_there calls statics quiet i program g numbers f e selecting p view sees

        told : val p c ≡ Gives v
        told = statics s p (call p.frames_left) (fixed_kept s p sees.names.agrees) c form ∙ is

        suited : is_value_of s (Typed w.number) v ≡ true
        suited = ap (suits s (Typed w.number)) (sym told)
            ∙ calls.wanted s p sees.names.agrees sees.unit.sound c w.number (ap (λ q. faults_of s q c) (sym w.wanted) ∙ legal)

    by_value : (v : Val Value) → static_value s c ≡ v → static_fault s c ≡ None → IsTestedBy c
    by_value (Gives (Number z)) is none = record {
      value = scalar.Number z;
      word = (λ j. choice_word (none j) (is j));
      is = static_there calls statics quiet i program g numbers f e selecting c (scalar.Number z) form is legal;
    }
    by_value (Gives (Truth b)) is none = record {
      value = scalar.Truth b;
      word = (λ j. choice_word (none j) (is j));
      is = static_there calls statics quiet i program g numbers f e selecting c (scalar.Truth b) form is legal;
    }
    by_value (Gives (Array parts)) is none = record {
      value = scalar.Number (pos 0);
      word = (λ j. choice_word (none j) (is j));
      is = record {
        told = λ p view sees. absurd (never (Array parts) is (λ z h. cc) (λ b h. cc) p view sees);
        alike = λ p view sees. absurd (never (Array parts) is (λ z h. cc) (λ b h. cc) p view sees);
      };
    }
    by_value (Gives (Record parts)) is none = record {
      value = scalar.Number (pos 0);
      word = (λ j. choice_word (none j) (is j));
      is = record {
        told = λ p view sees. absurd (never (Record parts) is (λ z h. cc) (λ b h. cc) p view sees);
        alike = λ p view sees. absurd (never (Record parts) is (λ z h. cc) (λ b h. cc) p view sees);
      };
    }
    by_value (Raises x) is none = absurd (let no = sym (ap (λ v. fault_of Static v) is) ∙ ap (λ k. fault_of k (static_value s c)) (sym form) ∙ none in cc)
    by_value Meaningless is none = absurd (let no = sym (ap (λ v. fault_of Static v) is) ∙ ap (λ k. fault_of k (static_value s c)) (sym form) ∙ none in cc)

  form_static : (c : ExprTree) → static_fault s c ≡ None → static_form s c ≡ Static
  form_static c none = by_form (static_form s c) refl
    where
      by_form : (k : StaticForm) → static_form s c ≡ k → static_form s c ≡ Static
      by_form Static is = is
      by_form NotStatic is = absurd (let no = sym (ap (λ k. fault_of k (static_value s c)) is) ∙ none in cc)
      by_form Doubtful is = absurd (let no = sym (ap (λ k. fault_of k (static_value s c)) is) ∙ none in cc)

  tested_by : (c : ExprTree) (before : List Scalar) → choice_faults s (choices_wanted s (own_of s e)) before c ≡ [] → IsTestedBy c
  tested_by c before h =
      let none = static c before h in
      by_value c (choice_legal calls statics quiet i program g numbers f e selecting (choices_wanted s (own_of s e)) before c h) (form_static c none)
      (static_value s c) refl none

  pub tests_stand : (label from to : ℕ) (cs : List ExprTree) (before : List Scalar) → values_faults s (choices_wanted s (own_of s e)) before cs ≡ []
      → Between i from to (tests_code s label cs)
      → AreTested quiet i program g numbers f e label from to cs
  unfolding nothing
  tests_stand label from to [] before legal h = (let ends = h.ends in let k : from ≡ to = omega (arith, ends) in k)
  tests_stand label from to (c ∷ cs) before legal h =
      let w = choices_wanted s (own_of s e) in
      let later = chosen_with before (choice_value s w c) in
      let it = tested_by c before (front_empty (choice_faults s w before c) (values_faults s w later cs) legal) in
      let word = choice_word (static_fault s c) (static_value s c) in
      let both = both_stand i from to (test_code word label) (tests_code s label cs) h in
      let a = one_before i from both.mid 1 op.Duplicate (one 2 (op.Push word) ▸ one 3 op.Equal ▸ one 2 (op.JumpIfNotZero label)) both.first in
      let b = one_before i (suc from) both.mid 2 (op.Push word) (one 3 op.Equal ▸ one 2 (op.JumpIfNotZero label)) a.rest_ in
      let d = one_before i (suc (suc from)) both.mid 3 op.Equal (one 2 (op.JumpIfNotZero label)) b.rest_ in
      let j = one_stands i (behind 3 from) both.mid 2 (op.JumpIfNotZero label) d.rest_ in (
        it.value,
        it.is,
        a.there,
        subst (λ z. At i (behind 1 from) (op.Push z)) it.word b.there,
        d.there,
        (2, j.there),
        subst (λ n. AreTested quiet i program g numbers f e label n to cs) j.ends
            (tests_stand label both.mid to cs later (back_empty (choice_faults s w before c) (values_faults s w later cs) legal) both.second),
      )

-- how many instructions there are
pub tests_end : (i : Sections) (s : Scope) (label from to : ℕ) (cs : List ExprTree) → Between i from to (tests_code s label cs) → to ≡ from + 4 * length cs
unfolding nothing
tests_end i s label from to [] h = (let ends = h.ends in omega (arith, ends))
tests_end i s label from to (c ∷ cs) h =
    let word = choice_word (static_fault s c) (static_value s c) in
    let both = both_stand i from to (test_code word label) (tests_code s label cs) h in
    let a = one_before i from both.mid 1 op.Duplicate (one 2 (op.Push word) ▸ one 3 op.Equal ▸ one 2 (op.JumpIfNotZero label)) both.first in
    let b = one_before i (suc from) both.mid 2 (op.Push word) (one 3 op.Equal ▸ one 2 (op.JumpIfNotZero label)) a.rest_ in
    let d = one_before i (suc (suc from)) both.mid 3 op.Equal (one 2 (op.JumpIfNotZero label)) b.rest_ in
    let j = one_stands i (behind 3 from) both.mid 2 (op.JumpIfNotZero label) d.rest_ in
    let step = j.ends in
    let rest = tests_end i s label both.mid to cs both.second in
    omega (arith, step, rest)

-- they keep the rules where both the label and their end find the value
module _ (i : Sections) (u : Subprogram) (low high label : ℕ) (down : low ≤ label) (up : label ≤ high) (at_label : has_depth i label 1 ≡ true) where
  pub tests_kept : (s : Scope) (from to : ℕ) (cs : List ExprTree) → Between i from to (tests_code s label cs) → deepest_of (tests_code s label cs from) ≤ u.stack
      → 1 ≤ u.stack
      → has_depth i to 1 ≡ true
      → AreKeptBetween i u low high from to 1
  unfolding nothing
  tests_kept s from to [] h deep one_deep ends =
      let same : from ≡ to = (let e = h.ends in omega (arith, e)) in record {
        begins = ap (λ n. has_depth i n 1) same ∙ ends;
        shallow = one_deep;
        each = λ k x le less is. absurd (omega (arith, le, less, same));
      }
  tests_kept s from to (c ∷ cs) h deep one_deep ends =
      let word = choice_word (static_fault s c) (static_value s c) in
      let jump = op.JumpIfNotZero label in
      let both = both_stand i from to (test_code word label) (tests_code s label cs) h in
      let a = both_stand i from both.mid (one 1 op.Duplicate) (one 2 (op.Push word) ▸ one 3 op.Equal ▸ one 2 jump) both.first in
      let copy = one_stands i from a.mid 1 op.Duplicate a.first in
      let b = both_stand i a.mid both.mid (one 2 (op.Push word)) (one 3 op.Equal ▸ one 2 jump) a.second in
      let push = one_stands i a.mid b.mid 2 (op.Push word) b.first in
      let d = both_stand i b.mid both.mid (one 3 op.Equal) (one 2 jump) b.second in
      let equal = one_stands i b.mid d.mid 3 op.Equal d.first in
      let leaves = one_stands i d.mid both.mid 2 jump d.second in
      let three_deep : 3 ≤ u.stack = (let x = both.deep in let y = a.deep in let z = b.deep in let w = d.deep in let q = equal.deep in omega (arith, x, y, z, w, q, deep)) in
      let more = tests_kept s both.mid to cs both.second (let x = both.deep in omega (arith, x, deep)) one_deep ends in
      let jumping = kept_one i u low high d.mid 2 1 jump leaves.there (omega (arith, three_deep)) one_deep refl refl (omega arith) (omega arith) refl
      (λ g. ap (λ n. has_depth i n 1) (sym leaves.ends) ∙ more.begins)
      (λ t g. let same = same_place jump label t refl g in (omega (arith, same, down), omega (arith, same, up), ap (λ n. has_depth i n 1) same ∙ at_label)) in
      let comparing = kept_one i u low high b.mid 3 2 op.Equal equal.there three_deep (omega (arith, three_deep)) refl refl (omega arith) (omega arith) refl
      (λ g. ap (λ n. has_depth i n 2) (sym equal.ends) ∙ jumping.begins) (λ t g. absurd cc) in
      let pushing = kept_one i u low high a.mid 2 3 (op.Push word) push.there (omega (arith, three_deep)) three_deep refl refl (omega arith) (omega arith) refl
      (λ g. ap (λ n. has_depth i n 3) (sym push.ends) ∙ comparing.begins) (λ t g. absurd cc) in
      let copying = kept_one i u low high from 1 2 op.Duplicate copy.there one_deep (omega (arith, three_deep)) refl refl (omega arith) (omega arith) refl
      (λ g. ap (λ n. has_depth i n 2) (sym copy.ends) ∙ pushing.begins) (λ t g. absurd cc) in
      kept_then i u low high from a.mid to 1 2 (subst (λ n. AreKeptBetween i u low high from n 1) (sym copy.ends) copying)
      (kept_then i u low high a.mid b.mid to 2 3 (subst (λ n. AreKeptBetween i u low high a.mid n 2) (sym push.ends) pushing)
      (kept_then i u low high b.mid d.mid to 3 2 (subst (λ n. AreKeptBetween i u low high b.mid n 3) (sym equal.ends) comparing)
      (kept_then i u low high d.mid both.mid to 2 1 (subst (λ n. AreKeptBetween i u low high d.mid n 2) (sym leaves.ends) jumping) more)))

-- choices by their values lead to the instruction after the one that drops the value, and else to the next alternative
module _ (calls : CallsAreTyped) (statics : StaticIsValue) (quiet : QuietStays) (v : Visible) (e : ExprTree) (selecting : selecting_faults v.scope e ≡ [])
    (static : (c : ExprTree) (before : List Scalar) → choice_faults v.scope (choices_wanted v.scope (own_of v.scope e)) before c ≡ []
    → static_fault v.scope c ≡ None) where
  pub label_is : (i : Sections) (from to : ℕ) (cs : List ExprTree) → suc to ≤ 65535 → Between i from to (choices_code v.scope cs)
      → (narrow (from + 4 * length cs + 1) ≡ suc to) × Between i from to (tests_code v.scope (suc to) cs)
  unfolding choices_code
  label_is i from to cs few h =
      let between : Between i from to (tests_code v.scope (narrow (from + 4 * length cs + 1)) cs) = record { there = h.there; ends = h.ends; low = h.low } in
      let end = tests_end i v.scope (narrow (from + 4 * length cs + 1)) from to cs between in
      let same : narrow (from + 4 * length cs + 1) ≡ suc to =
      narrow_same (from + 4 * length cs + 1) (omega (arith, end, few)) ∙ (let k : from + 4 * length cs + 1 ≡ suc to = omega (arith, end) in k) in
      (same, subst (λ n. Between i from to (tests_code v.scope n cs)) same between)

  pub values_choose : (cs : List ExprTree) → AreLegalChoices v.scope e (Values cs) → (i : Sections) (program : Program) (g : Package) (numbers : Numbers)
      (f : Framed)
      → f.names ≡ v
      → (from to next : ℕ)
      → suc (suc to) ≤ next
      → next ≤ 65535
      → Between i from to (choices_code v.scope cs)
      → At i to (op.Jump next)
      → At i (suc to) op.Drop
      → IsChoice i program g numbers f e from (suc (suc to)) next (Values cs)
  values_choose cs legal i program g numbers f names from to next up few h jump drop =
      let chosen : selecting_faults f.names.scope e ≡ [] = ap (λ x. selecting_faults x.scope e) names ∙ selecting in
      let between = (label_is i from to cs (omega (arith, up, few)) h).1 in
      choice_of_values quiet i program g numbers f e (scalar_there calls statics quiet i program g numbers f e chosen) from to next cs
      (tests_stand calls statics quiet i program g numbers f e chosen
      (subst (λ x. (c : ExprTree) (before : List Scalar) → choice_faults x.scope (choices_wanted x.scope (own_of x.scope e)) before c ≡ []
      → static_fault x.scope c ≡ None) (sym names) static)
      (suc to) from to cs legal.before
      (ap (λ x. values_faults x.scope (choices_wanted x.scope (own_of x.scope e)) legal.before cs) names ∙ legal.unbroken)
      (subst (λ x. Between i from to (tests_code x.scope (suc to) cs)) (sym names) between))
      jump drop up

  pub others_choose : (at : ℕ) (i : Sections) (program : Program) (g : Package) (numbers : Numbers) (f : Framed) → f.names ≡ v → (from next : ℕ)
      → At i from op.Drop
      → suc from ≤ next
      → IsChoice i program g numbers f e from (suc from) next (OtherValues at)
  others_choose at i program g numbers f names from next drop up =
      let chosen : selecting_faults f.names.scope e ≡ [] = ap (λ x. selecting_faults x.scope e) names ∙ selecting in
      choice_of_others quiet i program g numbers f e (scalar_there calls statics quiet i program g numbers f e chosen) at from next drop up

-- ---- the statements of an alternative, where the value is dropped

drop_leads : (v : Visible) → Leads (SuitsStatements v) 1 0 (one 1 op.Drop)
drop_leads v = leads_one (SuitsStatements v) 1 0 op.Drop (λ e. record {
  operands = refl;
  names = λ i u suits. refl;
  takes = λ i u suits. omega arith;
  leaves = λ i u suits. omega arith;
  stays = refl;
  is_none = refl;
})

abbrev pub IsDropped : Meant → Meant
IsDropped P i program g numbers f r from to = At i from op.Drop × (suc from ≤ to) × P i program g numbers f r (suc from) to

does_chosen : (P : Meant) (c : Site) (xs : List Construct) (b : CodePart) → Does P c xs b → DoesFrom 1 (IsDropped P) c xs (chosen_code b)
unfolding ◌▹◌ coded
does_chosen P c xs b p =
    let drop = coded (one 1 op.Drop) in
    record {
      tidy = tidy_then drop b (tidy_coded (one 1 op.Drop)) p.tidy;
      stands = λ i program g numbers f r s to served h.
          let both = both_stand_by i r f.room s to drop b (tidy_coded (one 1 op.Drop)) p.tidy h in
          let mid = end_of s drop in
          let it = one_stands i s.place mid 1 op.Drop (coded_has i f.room s mid (one 1 op.Drop) both.first.part) in
          let done = p.stands i program g numbers f r (after s (drop s)) to served both.second in
          record {
            is = ((1, it.there), subst (λ n. n ≤ to) it.ends both.up, subst (λ n. P i program g numbers f r n to) it.ends done.is);
            tells = done.tells;
          };
      flows = flows_then c.visible c.ways 1 0 0 drop b p.tidy.grows (flows_coded c.visible c.ways 1 0 (one 1 op.Drop) (drop_leads c.visible)) p.flows;
    }

-- ---- alternatives

abbrev pub AreAlternativesAt : Site → ExprTree → AlternativeTrees → Meant
AreAlternativesAt c e all i program g numbers f r from to = AreAlternatives i program g numbers f c.ways r from to e all

-- after the last one
pub none_left : (c : Site) (e : ExprTree) → DoesFrom 1 (AreAlternativesAt c e NoAlternatives) c [] (coded (one 1 op.Drop))
unfolding coded
none_left c e = record {
  tidy = tidy_coded (one 1 op.Drop);
  stands = λ i program g numbers f r s to served h. record { is = tt; tells = tt };
  flows = flows_coded c.visible c.ways 1 0 (one 1 op.Drop) (drop_leads c.visible);
}

module _ (c : Site) (e : ExprTree) (place : ℕ) (body : StmtTrees) (rest : AlternativeTrees) (b others : CodePart)
    (p : Does (AreBody c body) c (stmts_within body) b) (q : DoesFrom 1 (AreAlternativesAt c e rest) c (alternatives_within rest) others) where
  abbrev chosen : CodePart
  chosen = chosen_code b

  dropped : DoesFrom 1 (IsDropped (AreBody c body)) c (stmts_within body) chosen
  dropped = does_chosen (AreBody c body) c (stmts_within body) b p

  abbrev two : CodePart
  two = skipping 0 0 op.Jump others

  tidy_two : IsTidy two
  tidy_two = tidy_skipping 0 0 op.Jump others q.tidy

  -- `others`
  module _ (at : ℕ)
      (chooses : (i : Sections) (program : Program) (g : Package) (numbers : Numbers) (f : Framed) → f.names ≡ c.visible → (from next : ℕ) → At i from op.Drop
      → suc from ≤ next
      → IsChoice i program g numbers f e from (suc from) next (OtherValues at)) where
    pub others_do : DoesFrom 1 (AreAlternativesAt c e (MoreAlternatives place (OtherValues at) body rest)) c (stmts_within body ++ alternatives_within rest)
        (alternative_code c.visible.scope (OtherValues at) b others)
    unfolding ◌▹◌ skipping
    others_do = record {
      tidy = tidy_then chosen two dropped.tidy tidy_two;
      stands = λ i program g numbers f r s to served h.
          let both = both_stand_by i r f.room s to chosen two dropped.tidy tidy_two h in
          let joint = end_of s chosen in
          let later = after s (chosen s) in
          let last = skip_end_by i r f.room later to 0 op.Jump others both.second in
          let first = dropped.stands i program g numbers f r s joint served both.first in
          let more = q.stands i program g numbers f r (inside later) to served last.inner in
          let up = first.is.1 in
          record {
            is = (
              suc s.place,
              joint,
              omega arith,
              up,
              last.up,
              chooses i program g numbers f served.names s.place (suc joint) first.is.0 (omega (arith, up)),
              first.is.2,
              (
                0,
                subst (λ n. slice_get i.instructions joint ≡ Some (record { depth = 0; operation = op.Jump n })) (let k : to + 0 ≡ to = omega arith in k)
                    last.there,
              ),
              more.is,
            );
            tells = tells_then i program g numbers (chosen s).places (others (inside later)).places (stmts_within body) (alternatives_within rest) first.tells
                more.tells;
          };
      flows = record {
        flows = λ i u low high s to k suits ways out ends.
            let both = both_kept_in i u low high s to chosen two tidy_two.grows k in
            let joint = end_of s chosen in
            let later = after s (chosen s) in
            let last = skip_end_in i u low high later to 0 op.Jump others both.second in
            let step = last.step in
            let down = k.down in
            let up = k.up in
            let end : to + 0 ≡ to = omega arith in
            let more = q.flows.flows i u low high (inside later) to last.inner suits ways out ends in
            let leaves = jump_kept i u low high joint (to + 0) last.there
            (record { down = omega (arith, down, step); up = omega (arith, up); empty = ap (λ n. has_depth i n 0) end ∙ ends }) in
            let first = dropped.flows.flows i u low high s joint both.first suits ways (omega arith) leaves.begins in
            let front = kept_then i u low high s.place joint (suc joint) 1 0 first leaves in
            record {
              begins = front.begins;
              shallow = front.shallow;
              each = each_then i u low high s.place (suc joint) to front.each more.each;
            };
      };
    }

  -- choices by their values
  module _ (cs : List ExprTree)
      (chooses : (i : Sections) (program : Program) (g : Package) (numbers : Numbers) (f : Framed) → f.names ≡ c.visible → (from to next : ℕ)
      → suc (suc to) ≤ next
      → next ≤ 65535
      → Between i from to (choices_code c.visible.scope cs)
      → At i to (op.Jump next)
      → At i (suc to) op.Drop
      → IsChoice i program g numbers f e from (suc (suc to)) next (Values cs))
      (labelled : (i : Sections) (from to : ℕ) → suc to ≤ 65535 → Between i from to (choices_code c.visible.scope cs)
      → (narrow (from + 4 * length cs + 1) ≡ suc to) × Between i from to (tests_code c.visible.scope (suc to) cs)) where
    abbrev front : CodePart
    front = coded (choices_code c.visible.scope cs)

    abbrev over : CodePart
    over = skipping 1 1 op.Jump chosen

    tidy_over : IsTidy over
    tidy_over = tidy_skipping 1 1 op.Jump chosen dropped.tidy

    tidy_rest : IsTidy (over ▹ two)
    tidy_rest = tidy_then over two tidy_over tidy_two

    choices_deep : (u : Subprogram) (s : Start) → deepest_of (front s).code ≤ u.stack
        → deepest_of (tests_code c.visible.scope (narrow (s.place + 4 * length cs + 1)) cs s.place) ≤ u.stack
    unfolding coded choices_code
    choices_deep u s h = h

    values_kept : (i : Sections) (u : Subprogram) (low high : ℕ) (s : Start) (to : ℕ) → KeptIn i u low high s to (front ▹ over ▹ two)
        → SuitsStatements c.visible i u
        → Allows i u low high c.ways
        → 0 ≤ u.stack
        → has_depth i to 0 ≡ true
        → AreKeptBetween i u low high s.place to 1
    unfolding ◌▹◌ skipping coded
    values_kept i u low high s to k suits ways out ends =
        let whole = both_kept_in i u low high s to front (over ▹ two) tidy_rest.grows k in
        let jt = end_of s front in
        let at = after s (front s) in
        let parts = both_kept_in i u low high at to over two tidy_two.grows whole.second in
        let joint = end_of at over in
        let later = after at (over at) in
        let last = skip_end_in i u low high later to 0 op.Jump others parts.second in
        let step = last.step in
        let most = k.part.low in
        let few : joint + 1 ≤ 65535 = omega (arith, step, most) in
        let first = skip_kept_in i u low high at joint 1 1 op.Jump chosen few parts.first in
        let begin = first.step in
        let down = k.down in
        let up = k.up in
        let reach = whole.up in
        let end : to + 0 ≡ to = omega arith in
        let next : joint + 1 ≡ suc joint = omega arith in
        let more = q.flows.flows i u low high (inside later) to last.inner suits ways out ends in
        let leaves = jump_kept i u low high joint (to + 0) last.there
        (record { down = omega (arith, down, begin, step); up = omega (arith, up); empty = ap (λ n. has_depth i n 0) end ∙ ends }) in
        let body_kept = dropped.flows.flows i u low high (inside at) joint first.inner suits ways (omega arith) leaves.begins in
        let passing = kept_one i u low high jt 1 1 (op.Jump (joint + 1)) first.there first.shallow first.shallow refl refl (omega arith) (omega arith) refl
        (λ g. absurd cc)
        (λ t g.
        let same = same_place (op.Jump (joint + 1)) (joint + 1) t refl g in
        (omega (arith, same, down, begin), omega (arith, same, step, up), ap (λ n. has_depth i n 1) (same ∙ next) ∙ more.begins)) in
        let labels = labelled i s.place jt (omega (arith, begin, few)) (coded_has i u.locals s jt (choices_code c.visible.scope cs) whole.first.part) in
        let testing = tests_kept i u low high (suc jt) (omega (arith, down)) (omega (arith, begin, step, up)) body_kept.begins c.visible.scope s.place jt cs labels.1
        (subst (λ n. deepest_of (tests_code c.visible.scope n cs s.place) ≤ u.stack) labels.0 (choices_deep u s whole.first.deep)) first.shallow passing.begins in
        let front_kept = kept_then i u low high s.place jt (suc joint) 1 1 testing
        (kept_then i u low high jt (suc jt) (suc joint) 1 1 passing (kept_then i u low high (suc jt) joint (suc joint) 1 0 body_kept leaves)) in
        record {
          begins = front_kept.begins;
          shallow = front_kept.shallow;
          each = each_then i u low high s.place (suc joint) to front_kept.each more.each;
        }

    pub values_do : DoesFrom 1 (AreAlternativesAt c e (MoreAlternatives place (Values cs) body rest)) c (stmts_within body ++ alternatives_within rest)
        (alternative_code c.visible.scope (Values cs) b others)
    unfolding ◌▹◌ skipping coded
    values_do = record {
      tidy = tidy_then front (over ▹ two) (tidy_coded (choices_code c.visible.scope cs)) tidy_rest;
      stands = λ i program g numbers f r s to served h.
          let whole = both_stand_by i r f.room s to front (over ▹ two) (tidy_coded (choices_code c.visible.scope cs)) tidy_rest h in
          let jt = end_of s front in
          let at = after s (front s) in
          let parts = both_stand_by i r f.room at to over two tidy_over tidy_two whole.second in
          let joint = end_of at over in
          let later = after at (over at) in
          let last = skip_end_by i r f.room later to 0 op.Jump others parts.second in
          let few : joint + 1 ≤ 65535 = (let up = last.up in let low = h.part.low in omega (arith, up, low)) in
          let first = skip_stands_by i r f.room at joint 1 1 op.Jump chosen few parts.first in
          let body_is = dropped.stands i program g numbers f r (inside at) joint served first.inner in
          let more = q.stands i program g numbers f r (inside later) to served last.inner in
          let next : joint + 1 ≡ suc joint = omega arith in
          let up = body_is.is.1 in
          let low = whole.low in
          record {
            is = (
              suc (suc jt),
              joint,
              omega (arith, low),
              up,
              last.up,
              chooses i program g numbers f served.names s.place jt (suc joint) (omega (arith, up)) (omega (arith, few))
                  (coded_has i f.room s jt (choices_code c.visible.scope cs) whole.first.part)
                  (1, subst (λ n. slice_get i.instructions jt ≡ Some (record { depth = 1; operation = op.Jump n })) next first.there) body_is.is.0,
              body_is.is.2,
              (
                0,
                subst (λ n. slice_get i.instructions joint ≡ Some (record { depth = 0; operation = op.Jump n })) (let k : to + 0 ≡ to = omega arith in k)
                    last.there,
              ),
              more.is,
            );
            tells = tells_then i program g numbers (chosen (inside at)).places (others (inside later)).places (stmts_within body) (alternatives_within rest)
                body_is.tells more.tells;
          };
      flows = record { flows = values_kept };
    }

-- ---- the whole

pub does_case : (c : Site) (place : ℕ) (e : ExprTree) (all : AlternativeTrees) (a : CodePart) → Works c.visible 0 1 e (expr_code c.visible 0 e)
    → DoesFrom 1 (AreAlternativesAt c e all) c (alternatives_within all) a
    → Does (IsOne c (Case place e all)) c (alternatives_within all) (coded (expr_code c.visible 0 e) ▹ a)
unfolding ◌▹◌ coded
does_case c place e all a w q =
    let x = expr_code c.visible 0 e in
    record {
      tidy = tidy_then (coded x) a (tidy_coded x) q.tidy;
      stands = λ i program g numbers f r s to served h.
          let both = both_stand_by i r f.room s to (coded x) a (tidy_coded x) q.tidy h in
          let mid = end_of s (coded x) in
          let it = q.stands i program g numbers f r (after s (coded x s)) to served both.second in
          record {
            is = (
              mid,
              both.low,
              both.up,
              subst (λ v. Computes i (library_of g) (Sees g v) s.place mid e) (sym served.names)
                  (w.computes i s.place mid (coded_has i f.room s mid x both.first.part) g),
              it.is,
              coded_goes i r f.room s mid x both.first,
            );
            tells = it.tells;
          };
      flows = flows_then c.visible c.ways 0 1 0 (coded x) a q.tidy.grows (flows_coded c.visible c.ways 0 1 x (works_leads c.visible 0 e x w)) q.flows;
    }
