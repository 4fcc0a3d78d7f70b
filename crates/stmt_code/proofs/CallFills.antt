-- How much the code of a call is: of a procedure, of an entry, and of a line (RM 6.4, 9.5).
use Rattle.std.proofs.Common.{◌≡◌, ◌≤◌, ℕ, ◌+◌, ◌*◌, List, length, Bool, true, false, Option, None, Some, inl, inr, refl, sym, ap, ◌∙◌, subst, arith}
use Rattle.ada_tree.specs.ExpressionTree.{ArgumentTrees, MoreArguments, NameTree, NoArguments, NoSelectors, SelectorTrees}
use Rattle.ada_tree.specs.Size.{argument_size, arguments_size, expr_size, selectors_size, stmt_size, total}
use Rattle.ada_tree.specs.StatementTree.{Call}
use Rattle.image.specs.Rules.{has_operands}
use Rattle.image.specs.declared.instruction.Operation.{Operation}
use Rattle.image.specs.declared.instruction.Operation.TheVariants as op
use Rattle.types.specs.declared.entity.FormalParameter.{FormalParameter}
use Rattle.types.specs.declared.standing.Callee.TheVariants as callee
use Rattle.types.specs.Entities.{Profile, Put}
use Rattle.expr_soundness.specs.expr_rules.specs.declared.own.Wanted.TheVariants.{OfType}
use Rattle.types.specs.Scopes.{integer_type}
use Rattle.expr_code.specs.ExpressionCode.{expr_code}
use Rattle.expr_code.specs.Pieces.{Piece, nothing, one, ◌▸◌}
use Rattle.expr_code.proofs.Refusals.{peak_some}
use Rattle.expr_code.specs.Seeing.{NamesProfile, Suits, external_of, external_profile, profile_named, subprogram_of}
use Rattle.expr_code.specs.declared.visible.Visible.{Visible}
use Rattle.part_code.specs.EntryNames.{entry_behind, is_own_entry}
use Rattle.part_code.specs.Labels.{with_label, with_line}
use Rattle.part_code.specs.Lines.{LabelledValue, line_of}
use Rattle.part_code.specs.Needs as needs
use Rattle.part_code.specs.Needs.{Needs, actuals_needs, bare_needs, behind_needs, both, call_needs, called_needs, copies_needs, destinations_of, line_needs, passed_needs, stacked, through_needs, value_needs}
use Rattle.part_code.specs.PartCode.{actuals_code, actuals_height, actuals_targets, copies_code, given_words}
use Rattle.part_code.specs.Passing.{ExternalName, operation_behind}
use Rattle.part_code.specs.Statements.{Ways}
use Rattle.part_code.specs.Suiting.{SuitsStatements, passed_width}
use Rattle.part_code.specs.declared.call.Destination.{Destination}
use Rattle.part_code.specs.step_soundness.specs.Fitting.{entity_named}
use Rattle.part_code.specs.step_soundness.proofs.Naming.{HasArguments, IsCall}
use Rattle.part_code.proofs.ActualsWork.{ActualsWork}
use Rattle.part_code.proofs.CopiesWork.{copies_work}
use Rattle.part_code.proofs.PieceNeeds.{Keeps}
use Rattle.part_code.proofs.Within.{Within, in_left, in_right, of_right, within_self}
use Rattle.expr_soundness.proofs.Positions.{same_some}
use Rattle.stmt_code.specs.Drafting.{CodePart, coded, labelled, ◌▹◌}
use Rattle.stmt_code.specs.Emitting.{IsAcceptedStatement, IsLegalStatement}
use Rattle.stmt_code.specs.SimpleCode.{bare_form, behind_form, call_form, invoked_code, procedure_code, profiled_form, through_code}
use Rattle.stmt_code.specs.StatementCode.{Site, called_code, line_code}
use Rattle.stmt_code.proofs.Adding.{wanted_legal}
use Rattle.stmt_code.proofs.CallForms.{CallsThrough, put_there, through_there}
use Rattle.stmt_code.proofs.CallsDo as calls
use Rattle.stmt_code.proofs.CallsDo.{list_is, tree_list}
use Rattle.stmt_code.proofs.CallsStay.{no_line_behind}
use Rattle.stmt_code.proofs.EntryCalls.{no_line_alone}
use Rattle.stmt_code.proofs.PartsDo.{StatementLaws}
use Rattle.stmt_code.proofs.PartsFill.{Fills, fills_as, fills_both, fills_line, fills_more, fills_none}
use Rattle.stmt_code.proofs.Putting.{line_faults, line_written, put_is}
use Rattle.stmt_code.proofs.SimpleFills.{Spans, expr_spans, fills_spans, spans_fits, spans_more, spans_none, spans_one, spans_then}
use Rattle.stmt_code.proofs.CoveredScopes.{IsFull}

-- ---- actual parameters are part of the name

list_size : (a : ArgumentTrees) → total argument_size (tree_list a) ≡ arguments_size a
list_size NoArguments = refl
list_size (MoreArguments x rest) = ap (λ n. argument_size x + n) (list_size rest)

passed_size : (path : SelectorTrees) (a : ArgumentTrees) → HasArguments path a → total argument_size (tree_list a) ≤ selectors_size path
passed_size path a (inl h) =
    subst (λ p. total argument_size (tree_list a) ≤ selectors_size p) (sym h.0)
    (subst (λ x. total argument_size (tree_list x) ≤ selectors_size NoSelectors) (sym h.1) (omega arith))
passed_size path a (inr h) =
    subst (λ p. total argument_size (tree_list a) ≤ selectors_size p) (sym h) (let same = list_size a in omega (arith, same))

-- ---- the actual parameters, the call, and what is copied back

module _ (laws : StatementLaws) (v : Visible) (fs : List FormalParameter) (a : ArgumentTrees)
    (w : ActualsWork v 0 0 fs (tree_list a) (actuals_targets v fs a) (actuals_height v 0 fs a) (actuals_code v 0 fs a)) where
  abbrev A : Needs
  A = actuals_needs 0 v fs a

  abbrev B : Needs
  B = stacked (total (passed_width v.scope) fs)

  abbrev C : Needs
  C = copies_needs v (destinations_of v fs a)

  abbrev n : Needs
  n = passed_needs v fs (Some a)

  abbrev ds : List Destination
  ds = actuals_targets v fs a

  abbrev height : ℕ
  height = actuals_height v 0 fs a

  abbrev actuals : Piece
  actuals = actuals_code v 0 fs a

  abbrev copies : Piece
  copies = copies_code v.scope ds

  within_first : Within A n
  within_first = in_left A (both B C)

  within_last : Within C n
  within_last = of_right C A (both B C) (in_right B C)

  low : height ≤ A.stack
  low = subst (λ x. height ≤ (actuals_needs 0 v fs x).stack) (list_is a) (let low = w.low in omega (arith, low))

  actuals_spans : Spans (A.unfit ≡ true) w.long A.stack actuals
  actuals_spans =
      spans_fits (A.unfit ≡ true) w.long A.stack 0 height actuals
      (subst (λ x. Keeps (actuals_needs 0 v fs x) (Suits v) w.long 0 height actuals) (list_is a) w.keeps)

  copies_spans : Spans (C.unfit ≡ true) (4 * length ds) C.stack copies
  copies_spans =
      let same : ds ≡ destinations_of v fs a = sym w.destinations ∙ ap (destinations_of v fs) (list_is a) in
      let work = copies_work v laws.kept laws.expressions.words laws.expressions.quiet ds w.fits in
      spans_fits (C.unfit ≡ true) (4 * length ds) C.stack (total (given_words v.scope) ds) 0 copies
      (subst (λ x. Keeps (copies_needs v x) (SuitsStatements v) (4 * length ds) (total (given_words v.scope) ds) 0 copies) same work.keeps)

  invoked_spans : (call : Operation) → has_operands call ≡ true
      → Spans (n.unfit ≡ true) (20 * total argument_size (tree_list a) + 1) n.stack (invoked_code v fs a call)
  invoked_spans call operands =
      let U : Type 0 = n.unfit ≡ true in
      let few = w.few in
      let up = low in
      let high = within_first.stack in
      let many = 4 * length ds in
      spans_more U U (w.long + (1 + many)) (20 * total argument_size (tree_list a) + 1) n.stack n.stack (actuals ▸ one height call ▸ copies) (λ u. u)
      (omega (arith, few)) (omega arith)
      (spans_then U n.stack w.long (1 + many) actuals (one height call ▸ copies)
      (spans_more (A.unfit ≡ true) U w.long w.long A.stack n.stack actuals within_first.unfit (omega arith) high actuals_spans)
      (spans_then U n.stack 1 many (one height call) copies (spans_one U n.stack height call (omega (arith, up, high)) operands)
      (spans_more (C.unfit ≡ true) U many many C.stack n.stack copies within_last.unfit (omega arith) within_last.stack copies_spans)))

-- ---- the statement

module _ (laws : StatementLaws) (c : Site) (w : Ways) (name : NameTree) (full : IsFull c) (accepted : IsAcceptedStatement c.visible.scope w (Call name)) where
  abbrev v : Visible
  v = c.visible

  abbrev first : List ℕ
  first = name.first.name

  abbrev room : ℕ
  room = 20 * stmt_size (Call name)

  legal : IsLegalStatement v.scope (Call name)
  legal = record { around = accepted.around; unbroken = accepted.unbroken }

  abbrev FillsCall : Needs → CodePart → Type 0
  FillsCall n a = Fills n room (λ l. with_line l (line_of name)) (λ k. k) a

  of_code : (n : Needs) (m : ℕ) (a : Piece) → m ≤ room → line_of name ≡ None → Spans (n.unfit ≡ true) m n.stack a → FillsCall n (coded a)
  of_code n m a up none p =
      let U : Type 0 = n.unfit ≡ true in
      fills_as n room (λ l. l) (λ l. with_line l (line_of name)) (λ k. k) (λ k. k) (coded a) (λ l. ap (with_line l) (sym none)) (λ k. refl)
      (fills_spans n room a (spans_more U U m room n.stack n.stack a (λ u. u) up (omega arith) p))

  no_code : (n : Needs) → line_of name ≡ None → FillsCall n (coded nothing)
  no_code n none = of_code n 0 nothing (omega arith) none (spans_none (n.unfit ≡ true) n.stack)

  -- ---- a procedure that is named

  module _ (profile : Profile) (profiled : profile_named v.scope first ≡ Some profile) where
    abbrev names : NamesProfile v.scope first profile
    names = calls.names laws c name full legal profile profiled

    abbrev passes : IsCall v.scope (callee.Direct names.number) profile name.selectors
    passes = calls.called_as laws c name full legal profile profiled

    abbrev needed : Needs
    needed = passed_needs v profile.formals (Some passes.arguments)

    no_line : line_of name ≡ None
    no_line = no_line_alone v.scope (callee.Direct names.number) name.selectors passes.arguments passes.written passes.legal

    profiled_fills : FillsCall (called_needs v name (Some profile)) (called_code v name (profiled_form v name (Some profile)))
    profiled_fills =
        subst (λ o. FillsCall (passed_needs v profile.formals o) (coded (procedure_code v profile o (subprogram_of v first))))
        (sym (calls.written laws c name full legal profile profiled)) (by_number (subprogram_of v first))
      where
        by_number : (o : Option ℕ) → FillsCall needed (coded (procedure_code v profile (Some passes.arguments) o))
        by_number (Some number) =
            let size = passed_size name.selectors passes.arguments passes.written in
            of_code needed (20 * total argument_size (tree_list passes.arguments) + 1) (invoked_code v profile.formals passes.arguments (op.Call number))
            (omega (arith, size)) no_line
            (invoked_spans laws v profile.formals passes.arguments (calls.passed laws c name full legal profile profiled) (op.Call number) refl)
        by_number None = no_code needed no_line

  -- ---- an operation that is named after its protected object

  abbrev FillsBehind : ExternalName → Type 0
  FillsBehind x =
      FillsCall (behind_needs v x (external_profile v.scope first x.operation.name))
      (coded (through_code v x.arguments (external_profile v.scope first x.operation.name) (entry_behind v.scope first x.operation.name)
      (external_of v first x.operation.name)))

  through_fills : (t : CallsThrough v.scope name) → line_of name ≡ None → FillsBehind (calls.behind laws c name full legal t)
  through_fills t none =
      subst (λ o. FillsCall (behind_needs v (calls.behind laws c name full legal t) o)
      (coded (through_code v given o (entry_behind v.scope first t.called.name.name) (external_of v first t.called.name.name)))) (sym t.profiled)
      (by_numbers (entry_behind v.scope first t.called.name.name) (external_of v first t.called.name.name))
    where
      given : ArgumentTrees
      given = t.called.call.arguments

      profile : Profile
      profile = t.called.operation.profile

      size : total argument_size (tree_list given) ≤ selectors_size name.selectors
      size =
          let rest = passed_size t.called.rest given t.called.call.written in
          subst (λ p. total argument_size (tree_list given) ≤ selectors_size p) (sym t.called.written) (omega (arith, rest))

      invoked : (call : Operation) → has_operands call ≡ true
          → Spans ((passed_needs v profile.formals (Some given)).unfit ≡ true) (20 * total argument_size (tree_list given) + 1)
          (passed_needs v profile.formals (Some given)).stack (invoked_code v profile.formals given call)
      invoked = invoked_spans laws v profile.formals given (calls.through_passed laws c name full legal t)

      by_numbers : (entry number : Option ℕ) → FillsCall (passed_needs v profile.formals (Some given)) (coded (through_code v given (Some profile) entry number))
      by_numbers (Some object) number =
          let n = passed_needs v profile.formals (Some given) in
          let U : Type 0 = n.unfit ≡ true in
          let m = 20 * total argument_size (tree_list given) + 1 in
          let up = size in
          let call = invoked_code v profile.formals given (op.EntryCall object) in
          of_code n (1 + m) (one 0 op.CheckBlocking ▸ call) (omega (arith, up)) none
          (spans_then U n.stack 1 m (one 0 op.CheckBlocking) call (spans_one U n.stack 0 op.CheckBlocking (omega arith) refl) (invoked (op.EntryCall object) refl))
      by_numbers None (Some number) =
          let up = size in
          of_code (passed_needs v profile.formals (Some given)) (20 * total argument_size (tree_list given) + 1)
          (invoked_code v profile.formals given (op.ProtectedCall number)) (omega (arith, up)) none (invoked (op.ProtectedCall number) refl)
      by_numbers None None = no_code (passed_needs v profile.formals (Some given)) none

  -- ---- an entry of the body's own object, and a line

  line_fills : entity_named v.scope first ≡ Some Put → (o : Option LabelledValue) → line_of name ≡ o
      → Fills (line_needs v o) room (λ l. with_line l o) (λ k. k) (line_code v o)
  line_fills put None is =
      fills_more needs.nothing needs.nothing 0 room (λ l. l) (λ k. k) (coded nothing) (within_self needs.nothing) (omega arith) (fills_none needs.nothing)
  line_fills put (Some line) is =
      let n = value_needs v line.value in
      let e = line.value in
      let faults = line_faults v.scope name line.label e legal put is in
      let this = line_written name.selectors line.label e is in
      let writes = labelled line.label (λ k. one 1 (op.PutLine k)) in
      let x = 20 * expr_size e in
      fills_more n n (x + 1) room (λ l. with_label l line.label) (λ k. k) (coded (expr_code v 0 e) ▹ writes) (within_self n)
      (subst (λ p. x + 1 ≤ 20 * (1 + (1 + selectors_size p))) (sym this.is) (omega arith))
      (fills_both n x 1 (λ l. l) (λ l. with_label l line.label) (λ k. k) (λ k. k) (coded (expr_code v 0 e)) writes
      (fills_spans n x (expr_code v 0 e)
      (expr_spans laws.expressions v full.sound full.has.expressions 0 e (wanted_legal v.scope (OfType integer_type) e faults)))
      (fills_line n line.label (let some = peak_some v.scope e in omega (arith, some))))

  bare_fills : profile_named v.scope first ≡ None → operation_behind name.selectors ≡ None
      → FillsCall (through_needs v name None) (called_code v name (behind_form v name None))
  bare_fills none alone = by_own (is_own_entry (entity_named v.scope first)) refl
    where
      by_own : (b : Bool) → is_own_entry (entity_named v.scope first) ≡ b → FillsCall (bare_needs v name b) (called_code v name (bare_form b))
      by_own true is =
          let own = calls.own_call laws c name full legal is in
          let entry = calls.own_entry laws c name full legal is in
          let none = no_line_alone v.scope (callee.Direct entry.number) name.selectors own.arguments own.written own.legal in
          of_code needs.nothing 1 (one 0 op.CheckBlocking) (omega arith) none (spans_one _ 0 0 op.CheckBlocking (omega arith) refl)
      by_own false is =
          line_fills (put_is (entity_named v.scope first) (put_there v.scope full.sound name legal.unbroken none alone is)) (line_of name) refl

  -- ---- whatever is called

  behind_fills : profile_named v.scope first ≡ None → (o : Option ExternalName) → operation_behind name.selectors ≡ o
      → FillsCall (through_needs v name o) (called_code v name (behind_form v name o))
  behind_fills none None is = bare_fills none is
  behind_fills none (Some x) is =
      let t = through_there v.scope full.sound name legal.unbroken x is in
      subst FillsBehind (sym (same_some x (calls.behind laws c name full legal t) (sym is ∙ calls.behind_is laws c name full legal t)))
      (through_fills t (no_line_behind name.selectors x is))

  pub call_fills : FillsCall (call_needs v name) (called_code v name (call_form v name))
  call_fills = by_profile (profile_named v.scope first) refl
    where
      by_profile : (o : Option Profile) → profile_named v.scope first ≡ o → FillsCall (called_needs v name o) (called_code v name (profiled_form v name o))
      by_profile (Some profile) is = profiled_fills profile is
      by_profile None is = behind_fills is (operation_behind name.selectors) refl
