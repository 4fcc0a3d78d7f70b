-- Functions and main that were put together and added to the code of a program: what was added, and which limits they may pass.
use Rattle.std.proofs.Common.{◌≡◌, ◌≤◌, ℕ, suc, ◌+◌, ◌*◌, List, [], ◌∷◌, ◌++◌, length, max, true, false, None, Some, Option, refl, sym, ap, ◌∙◌, subst, arith}
use Rattle.std.specs.Prelude.{is_none}
use Rattle.std.proofs.lemmas.Bool.{or_parts}
use Rattle.std.proofs.lemmas.List.Elements.{All-head, All-tail}
use Rattle.base.specs.declared.limits.TheConstants.{FRAME_WORDS}
use Rattle.ada_tree.specs.declared.declaration.Formal.{Formal}
use Rattle.ada_tree.specs.declared.expression.Identifier.{Identifier}
use Rattle.ada_tree.specs.declared.program.MainStatement.{MainStatement}
use Rattle.ada_tree.specs.declared.program.MainStatement.TheVariants as main
use Rattle.ada_tree.specs.ExpressionTree.{ExprTree}
use Rattle.ada_tree.specs.Size.{expr_size}
use Rattle.image.specs.Sections.{Sections}
use Rattle.image.specs.declared.instruction.Instr.{Instr}
use Rattle.image.specs.declared.instruction.Operation.{Operation}
use Rattle.image.specs.declared.instruction.Operation.TheVariants as op
use Rattle.types.specs.declared.entity.Subtype.{Subtype}
use Rattle.types.specs.Scopes.{form_at}
use Rattle.declaration_rules.specs.BodyNames.{formals_scope}
use Rattle.expr_soundness.specs.SoundScopes.{SoundScope}
use Rattle.expr_code.specs.Appending.{Appends, Misfits}
use Rattle.expr_code.specs.Code.{Adds, here}
use Rattle.expr_code.specs.Emitting.{EmitsChecked, IsFit}
use Rattle.expr_code.specs.ExpressionCode.{checked_code, expr_code}
use Rattle.expr_code.specs.Pieces.{Made, Piece, adds, nothing, one, ◌▸◌}
use Rattle.expr_code.specs.Providing.{HasWhatExpressionsNeed, is_passable, is_scalar_form}
use Rattle.expr_code.specs.Refusing.{HasUnfitObject, IsRefused, checked_peak, peak}
use Rattle.expr_code.specs.Seeing.{subprogram_of}
use Rattle.expr_code.specs.declared.code.Code.{Code}
use Rattle.expr_code.specs.declared.refusal.Refusal.{Refusal}
use Rattle.expr_code.specs.declared.visible.Visible.{Visible}
use Rattle.expr_code.proofs.Emissions.{checked_emits, code_is}
use Rattle.expr_code.proofs.ExpressionWorks.{appends_extends, placed as stands_there}
use Rattle.expr_code.proofs.NameWorks.{WorksChecked}
use Rattle.expr_code.proofs.NamesWork.{all_work}
use Rattle.expr_code.proofs.PassedWorks.{value_works}
use Rattle.expr_code.proofs.Refusals.{refused_beside}
use Rattle.expr_code.proofs.StandingPieces.{Between, Leads, Suiting, both_stand, fits_none, leads_one, leads_then, narrow_same}
use Rattle.part_code.specs.Bounds.{function_bound, main_bound}
use Rattle.part_code.specs.Formals.{PlacesFormals}
use Rattle.part_code.specs.MainCalls.{AddsCalls, AreCalls, CallBare, CallsBare}
use Rattle.part_code.specs.Needs.{Needs, RefusesFormals, RefusesMain, are_unknown, both, formals_needs}
use Rattle.part_code.specs.declared.formals.PlacedFormals.{PlacedFormals}
use Rattle.part_code.specs.declared.frame_words.FrameWords.{FrameWords}
use Rattle.part_code.proofs.FormalFlows.{call_changes}
use Rattle.part_code.proofs.PieceNeeds.{Laws}
use Rattle.part_code.proofs.Within.{Within, in_left, in_right, needing_refused, plain_more, plain_needing, unfit_there, within_then}
use Rattle.stmt_code.specs.Subprograms.{AddsFunction, AddsMain, AreLegalFormals, fresh}
use Rattle.stmt_code.specs.WholeCode.{call_code, calls_code, function_code, main_code}
use Rattle.stmt_code.specs.WholeRefusals.{RefusesFunction, formals_visible, function_needs, returned_needs}
use Rattle.stmt_code.specs.declared.draft.Draft.{Draft}
use Rattle.stmt_code.specs.declared.subprogram.SubprogramWords.{SubprogramWords}
use Rattle.stmt_code.proofs.FormalNames.{result_passable}
use Rattle.stmt_code.proofs.JoinedParts.{between, piece_back, piece_front}
use Rattle.stmt_code.proofs.OutsDo.{leads_under, none_between}
use Rattle.stmt_code.proofs.ProceduresJoined.{beside, together_within}
use Rattle.stmt_code.proofs.RunJoined.{code_beside, code_needing}
use Rattle.stmt_code.proofs.SimpleFills.{Spans, spans_fits, spans_more, spans_none, spans_one, spans_then}
use Rattle.stmt_code.proofs.TurnsDo.{one_before}
use Rattle.stmt_code.proofs.WholeBounds.{function_few, main_few}
use Rattle.stmt_code.proofs.WholePlaces.{later_is, taken_is}

-- an instruction that was added
pub one_added : (old new : Code) (d : ℕ) (o : Operation) → d ≤ FRAME_WORDS → Appends old (one d o (here old)) new → Adds old d o new
unfolding one
one_added old new d o low h =
    let same = narrow_same d (omega (arith, low)) in
    let deep = h.deepest in
    record {
      instructions = h.items ∙ ap (λ n. old.instructions.items ++ (record { depth = n; operation = o }) ∷ []) same;
      deeper = omega (arith, deep);
      within = omega (arith, deep, same);
      shallow = omega (arith, deep, same);
    }

-- what was put together after code where no word is on the operand stack yet, by other names of that code
pub added_there : (P : Code → List Instr → Type 0) (after old : Code) (m new : Made) (a : Piece) → after ≡ old → m ≡ record { before = here after; code = [] }
    → new ≡ adds m a → P (fresh after) new.code → P (fresh old) (a (here old))
added_there P after old m new a same empty made h =
    subst (λ z. P (fresh z) (a (here z))) same (subst (P (fresh after)) (code_is after m new a (here after) empty refl made) h)

-- ---- functions

pub function_formals_refuse : (v : Visible) (fs : List Formal) (e : ExprTree) (old : Draft) (why : Refusal) → RefusesFormals v.scope fs why
    → RefusesFunction v old fs e why
function_formals_refuse v fs e old why r =
    let formal = formals_needs v.scope fs in
    let value = returned_needs (formals_visible v fs) e in
    needing_refused 0 (here old.code + function_bound fs e) formal (function_needs v fs e) (omega arith)
    (within_then formal (both formal value) (function_needs v fs e) (in_left formal value) (together_within (both formal value))) why r

module _ (laws : Laws) (v : Visible) (old : Draft) (fs : List Formal) (t : Subtype) (e : ExprTree) (head : AreLegalFormals v.scope fs)
    (scalar : is_scalar_form (form_at v.scope t.type_number) ≡ true) (fit : IsFit (formals_scope v.scope fs) t e) (later : Visible) (words : FrameWords)
    (placed : PlacedFormals) (places : PlacesFormals v fs later words placed) (covered : HasWhatExpressionsNeed later) where
  -- where its code begins
  abbrev pub begins : Code
  begins = fresh old.code

  inside_sound : SoundScope later.scope
  inside_sound = subst SoundScope (sym places.scope) head.sound

  fits : IsFit later.scope t e
  fits = subst (λ s. IsFit s t e) (sym places.scope) fit

  passable : is_passable later.scope t ≡ true
  passable = subst (λ s. is_passable s t ≡ true) (sym places.scope) (result_passable v.scope fs t head.named scalar)

  abbrev value : Piece
  value = checked_code later 0 t e (expr_code later 0 e)

  works : WorksChecked later 0 t e value
  works =
      value_works laws.quiet laws.typed laws.spared laws.lie later inside_sound 0 t e passable fits
      (λ k legal. all_work laws.quiet laws.typed laws.spared laws.lie laws.words laws.places later inside_sound covered k e legal)

  abbrev need : Needs
  need = returned_needs later e

  abbrev long : ℕ
  long = (20 * expr_size e + 3) + 1

  function_spans : Spans (need.unfit ≡ true) long need.stack (function_code later t e)
  function_spans =
      let few = works.few in
      spans_then (need.unfit ≡ true) need.stack (20 * expr_size e + 3) 1 value (one 1 op.Return)
      (spans_more (HasUnfitObject later) (need.unfit ≡ true) works.long (20 * expr_size e + 3) (0 + checked_peak (peak later.scope e)) need.stack value
      (unfit_there later) (omega (arith, few)) (omega arith)
      (spans_fits (HasUnfitObject later) works.long (0 + checked_peak (peak later.scope e)) 0 (0 + 1) value works.fits))
      (spans_one (need.unfit ≡ true) need.stack 1 op.Return (some (peak later.scope e)) refl)
    where
      some : (k : ℕ) → 1 ≤ max 3 k
      some k = omega arith

  abbrev formal : Needs
  formal = formals_needs v.scope fs

  abbrev parts : Needs
  parts = both formal (returned_needs (formals_visible v fs) e)

  need_within : Within need parts
  need_within =
      subst (λ x. Within (returned_needs x e) parts) (sym (later_is v fs later words placed places)) (in_right formal (returned_needs (formals_visible v fs) e))

  pub function_misfits : (why : Refusal) → Misfits begins (function_code later t e (here begins)) why → RefusesFunction v old fs e why
  function_misfits why h =
      needing_refused (here begins + long) (here old.code + function_bound fs e) need (function_needs v fs e) (omega arith)
      (within_then need parts (function_needs v fs e) need_within (together_within parts)) why
      (code_needing begins (function_code later t e (here begins)) need long (function_spans.sized (here begins)) (function_spans.low (here begins))
      (function_spans.fit (here begins)) why h)

  module _ (new : Code) (joined : Appends begins (function_code later t e (here begins)) new) where
    stack_few : new.deepest ≤ parts.stack
    stack_few =
        let deep = joined.deepest in
        let own = function_spans.low (here begins) in
        let up = need_within.stack in
        omega (arith, deep, own, up)

    pub function_frame_refuses : (why : Refusal) → words.most ≡ words.taken → IsRefused 0 (words.most + new.deepest) why → RefusesFunction v old fs e why
    function_frame_refuses why same r =
        let taken = taken_is v fs later words placed places in
        let up = (in_left formal (returned_needs (formals_visible v fs) e)).frame in
        plain_needing 0 (here old.code + function_bound fs e) (words.most + new.deepest) (function_needs v fs e) why (omega arith)
        (beside words.most new.deepest parts.frame parts.stack (omega (arith, same, taken, up)) stack_few) r

    abbrev valued : Code
    valued = between begins new value (one 1 op.Return) joined

    value_joined : Appends begins (value (here begins)) valued
    value_joined = piece_front begins new value (one 1 op.Return) joined

    emits : EmitsChecked later begins 0 t e valued
    emits =
        checked_emits later begins valued 0 e (record { before = here begins; code = value (here begins) }) value refl t works laws.typed passable fits
        value_joined

    value_returned : Adds valued 1 op.Return new
    value_returned = one_added valued new 1 op.Return (omega arith) (piece_back begins new value (one 1 op.Return) joined)

    pub function_joined : (after : Draft) → after.code ≡ new → after.labels ≡ old.labels → after.rows ≡ old.rows → after.exceptions ≡ old.exceptions
        → (sizes : SubprogramWords) → sizes ≡ record { passed = placed.passed; results = 1; locals = words.most; stack = new.deepest }
        → sizes.locals + sizes.stack ≤ FRAME_WORDS → AddsFunction v old fs t e sizes after
    function_joined after same labels rows exceptions sizes is few = record {
      sized = (let up = function_few later fs t e old.code valued new emits value_returned in let long = ap here same in omega (arith, up, long));
      placed = placed;
      later = later;
      framed = words;
      places = places;
      valued = valued;
      emits = emits;
      returns = subst (Adds valued 1 op.Return) (sym same) value_returned;
      labels = labels;
      rows = rows;
      exceptions = exceptions;
      passed = ap (λ w. w.passed) is;
      results = ap (λ w. w.results) is;
      locals = ap (λ w. w.locals) is;
      stack = ap (λ w. w.stack) is ∙ ap (λ z. z.deepest) (sym same);
      fits = few;
    }

-- ---- main

module _ (v : Visible) where
  -- its calls, one after another
  pub record CallsWork (all : List MainStatement) (a : Piece) : Type 0 where
    pub stands : (i : Sections) (from to : ℕ) → Between i from to a → AreCalls i v from to all
    pub leads : Leads (CallBare v all) 0 0 a
    pub spans : Spans ⊥ (length all) 0 a

  none_work : CallsWork [] nothing
  none_work = record {
    stands = none_between;
    leads = (fits_none {Unfit = ⊥} (CallBare v []) 0 0).leads;
    spans = spans_none ⊥ 0;
  }

  module _ (x : MainStatement) (rest : List MainStatement) (b : Piece) (p : CallsWork rest b) where
    abbrev Bare : Suiting
    Bare = CallBare v (x ∷ rest)

    rest_leads : Leads Bare 0 0 b
    rest_leads = leads_under (CallBare v rest) Bare 0 0 b (λ i q bare. All-tail (CallsBare v i q) x rest bare) p.leads

  null_work : (place : ℕ) (rest : List MainStatement) (b : Piece) → CallsWork rest b → CallsWork (main.Null place ∷ rest) (nothing ▸ b)
  null_work place rest b p =
      let all : List MainStatement = main.Null place ∷ rest in
      record {
        stands = λ i from to h.
            let both = both_stand i from to nothing b h in
            subst (λ n. AreCalls i v n to rest) (sym (none_between i from both.mid both.first)) (p.stands i both.mid to both.second);
        leads = leads_then (CallBare v all) 0 0 0 nothing b (fits_none {Unfit = ⊥} (CallBare v all) 0 0).leads (rest_leads (main.Null place) rest b p);
        spans = spans_more ⊥ ⊥ (0 + length rest) (length all) 0 0 (nothing ▸ b) (λ u. u) (omega arith) (omega arith)
            (spans_then ⊥ 0 0 (length rest) nothing b (spans_none ⊥ 0) p.spans);
      }

  call_work : (package_ procedure : Identifier) (number : ℕ) (rest : List MainStatement) (b : Piece) → subprogram_of v procedure.name ≡ Some number
      → CallsWork rest b → CallsWork (main.Call package_ procedure ∷ rest) (one 0 (op.Call number) ▸ b)
  call_work package_ procedure number rest b told p =
      let all : List MainStatement = main.Call package_ procedure ∷ rest in
      record {
        stands = λ i from to h. let call = one_before i from to 0 (op.Call number) b h in (number, told, call.there, p.stands i (suc from) to call.rest_);
        leads = leads_then (CallBare v all) 0 0 0 (one 0 (op.Call number)) b
            (leads_one (CallBare v all) 0 0 (op.Call number)
            (λ e. call_changes (CallBare v all) 0 number (λ i q bare. All-head (CallsBare v i q) (main.Call package_ procedure) rest bare number told)))
            (rest_leads (main.Call package_ procedure) rest b p);
        spans = spans_more ⊥ ⊥ (1 + length rest) (length all) 0 0 (one 0 (op.Call number) ▸ b) (λ u. u) (omega arith) (omega arith)
            (spans_then ⊥ 0 1 (length rest) (one 0 (op.Call number)) b (spans_one ⊥ 0 0 (op.Call number) (omega arith) refl) p.spans);
      }

  pub calls_work : (all : List MainStatement) → are_unknown v all ≡ false → CallsWork all (calls_code v all)
  calls_work [] known = none_work
  calls_work (main.Null place ∷ rest) known = null_work place rest (calls_code v rest) (calls_work rest known)
  calls_work (main.Call package_ procedure ∷ rest) known =
      let parts = or_parts (is_none (subprogram_of v procedure.name)) (are_unknown v rest) known in
      by_number (subprogram_of v procedure.name) refl parts.0 (calls_work rest parts.1)
    where
      by_number : (o : Option ℕ) → subprogram_of v procedure.name ≡ o → is_none (subprogram_of v procedure.name) ≡ false → CallsWork rest (calls_code v rest)
          → CallsWork (main.Call package_ procedure ∷ rest) (call_code o ▸ calls_code v rest)
      by_number (Some n) is some p = call_work package_ procedure n rest (calls_code v rest) is p
      by_number None is some p = absurd (let no = sym (ap is_none is) ∙ some in cc)

module _ (v : Visible) (old : Code) (all : List MainStatement) (known : are_unknown v all ≡ false) where
  abbrev calls : Piece
  calls = calls_code v all

  worked : CallsWork v all calls
  worked = calls_work v all known

  main_spans : Spans ⊥ (length all + 1) 0 (main_code v all)
  main_spans = spans_then ⊥ 0 (length all) 1 calls (one 0 op.Return) worked.spans (spans_one ⊥ 0 0 op.Return (omega arith) refl)

  pub main_misfits : (why : Refusal) → Misfits (fresh old) (main_code v all (here old)) why → RefusesMain v old all (main_bound all) why
  main_misfits why h =
      refused_beside (here old + (length all + 1)) (here old + main_bound all) 0 0 (λ u. u) (omega arith) (omega arith) why
      (code_beside ⊥ (fresh old) (main_code v all (here old)) (length all + 1) 0 (main_spans.sized (here old)) (main_spans.low (here old)) (main_spans.fit (here old)) why h)

  module _ (new : Code) (joined : Appends (fresh old) (main_code v all (here old)) new) where
    abbrev called : Code
    called = between (fresh old) new calls (one 0 op.Return) joined

    calls_joined : Appends (fresh old) (calls (here old)) called
    calls_joined = piece_front (fresh old) new calls (one 0 op.Return) joined

    calls_added : AddsCalls v (fresh old) all called
    calls_added =
        let at = stands_there (fresh old) called calls calls_joined in
        record {
          extends = appends_extends (fresh old) called (calls (here old)) calls_joined;
          sized = (let long = at.long in let few = worked.spans.sized (here old) in omega (arith, long, few));
          stands = λ i holds. worked.stands i (here old) (here called) (at.stands i holds);
          flows = record {
            flows = λ i q holds bare deep high ends.
                let is = calls_joined.deepest in
                worked.leads.leads i q (here old) (here called) (at.stands i holds) bare (omega (arith, is, deep)) high ends;
          };
        }

    main_shallow : new.deepest ≡ 0
    main_shallow = let is = joined.deepest in let low = main_spans.low (here old) in omega (arith, is, low)

    calls_returned : Adds called 0 op.Return new
    calls_returned = one_added called new 0 op.Return (omega arith) (piece_back (fresh old) new calls (one 0 op.Return) joined)

    pub main_refuses : (why : Refusal) → IsRefused 0 (0 + new.deepest) why → RefusesMain v old all (main_bound all) why
    main_refuses why r = let none = main_shallow in plain_more 0 (here old + main_bound all) (0 + new.deepest) 0 (omega arith) (omega (arith, none)) why r

    pub main_joined : (begun after : Draft) → begun.code ≡ old → after ≡ record begun { code = new } → (sizes : SubprogramWords)
        → sizes ≡ record { passed = 0; results = 0; locals = 0; stack = new.deepest } → sizes.locals + sizes.stack ≤ FRAME_WORDS
        → AddsMain v begun all sizes after
    main_joined begun after same is sizes told few = subst (AddsMain v begun all sizes) (sym is) (record {
      sized = (let up = main_few v all old called new calls_added calls_returned in let here_is = ap here same in omega (arith, up, here_is));
      called = called;
      calls = subst (λ z. AddsCalls v (fresh z) all called) (sym same) calls_added;
      returns = calls_returned;
      labels = refl;
      rows = refl;
      exceptions = refl;
      passed = ap (λ w. w.passed) told;
      results = ap (λ w. w.results) told;
      locals = ap (λ w. w.locals) told;
      stack = ap (λ w. w.stack) told;
      fits = few;
    })
