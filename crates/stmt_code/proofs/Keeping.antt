-- The code of whole subprograms keeps the rules of images: of procedures, functions and main.
use Rattle.std.proofs.Common.{◌≡◌, ◌≢◌, ℕ, zero, suc, ◌<◌, ◌≤◌, true, false, List, [], ◌∷◌, ◌++◌, length, map, None, Some, Option, refl, sym, ap, ◌∙◌, subst, arith}
use Rattle.std.specs.Prelude.{drop, slice_get, ⊤}
use Rattle.std.specs.List.{All}
use Rattle.std.proofs.lemmas.List.{take-append-drop}
use Rattle.std.proofs.lemmas.List.Elements.{All-cons, All-head, All-nil, All-tail}
use Rattle.base.specs.declared.limits.TheConstants.{INSTRUCTIONS}
use Rattle.ada_tree.specs.declared.declaration.Formal.{Formal}
use Rattle.ada_tree.specs.declared.declaration.Mode.{Mode}
use Rattle.ada_tree.specs.declared.declaration.Mode.TheVariants as mode
use Rattle.ada_tree.specs.declared.program.MainStatement.{MainStatement}
use Rattle.ada_tree.specs.declared.program.MainStatement.TheVariants as main
use Rattle.ada_tree.specs.ExpressionTree.{ExprTree}
use Rattle.ada_tree.specs.ProgramTree.{BodyTree}
use Rattle.ada_tree.specs.Size.{total}
use Rattle.image.specs.Sections.{Sections}
use Rattle.image.specs.declared.instruction.Operation.TheVariants as op
use Rattle.image.specs.declared.instruction.Region.TheVariants as regions
use Rattle.image.specs.declared.subprograms.Subprogram.{Subprogram}
use Rattle.types.specs.declared.entity.Role.{Role}
use Rattle.types.specs.declared.entity.Subtype.{Subtype}
use Rattle.types.specs.Laws.{ShapesStay}
use Rattle.types.specs.Layouts.{words_of}
use Rattle.types.specs.Entities.{Protected, ProtectedObject}
use Rattle.types.specs.Scopes.{Scope, entity_at}
use Rattle.type_rules.specs.ObjectRules.{object_entity}
use Rattle.type_rules.specs.SubtypeNames.{subtype_of}
use Rattle.declaration_rules.specs.BodyNames.{formal_role, formal_scope, formals_scope}
use Rattle.declaration_rules.specs.Laws.{NamesAreAdded}
use Rattle.expr_soundness.specs.SoundScopes.{IsKnown, SoundScope}
use Rattle.expr_soundness.proofs.Positions.{same_some}
use Rattle.expr_soundness.proofs.Widening.{subtype_known}
use Rattle.expr_code.specs.Code.{Holds, StandsFrom, here}
use Rattle.expr_code.specs.Flows.{AreKeptBetween}
use Rattle.expr_code.specs.declared.visible.Slot.{Slot}
use Rattle.expr_code.specs.declared.visible.Visible.{Visible}
use Rattle.expr_code.proofs.Flowing.{kept_then, widened}
use Rattle.expr_code.proofs.Growing.{added_at, added_extends, added_here, added_there, extends_trans, holds_before, holds_later}
use Rattle.stmt_code.specs.Emitting.{Allows, HasLabels, no_ways}
use Rattle.part_code.specs.Emitting.{HasEntries}
use Rattle.part_code.specs.Formals.{BeginsWithin, HasValue, HaveFormalRoom, PlacesFormals, StandInTurn, StandsAt, no_subprogram, slot_for}
use Rattle.stmt_code.specs.Subprograms.{AddsFunction, AddsMain, AddsProcedure, CallsProcedures, HasSubprogramWords, KeepsRules, NamesIfCalled, fresh}
use Rattle.part_code.specs.MainCalls.{CallBare, CallsBare}
use Rattle.part_code.specs.Suiting.{SuitsStatements, passed_width, returned_width}
use Rattle.stmt_code.specs.declared.draft.Draft.{Draft}
use Rattle.part_code.specs.declared.frame_words.FrameWords.{FrameWords}
use Rattle.part_code.specs.declared.formals.PlacedFormal.{PlacedFormal}
use Rattle.part_code.specs.declared.formals.PlacedFormals.{PlacedFormals}
use Rattle.stmt_code.specs.declared.subprogram.SubprogramWords.{SubprogramWords}
use Rattle.stmt_code.proofs.Adding.{labels_stay}
use Rattle.part_code.proofs.FormalFlows.{return_kept}
use Rattle.stmt_code.proofs.RowsAdded.{Surrounds, finds_later, rows_around, rows_kept}
use Rattle.expr_code.specs.Seeing.{Suits}
use Rattle.stmt_code.proofs.Suiting.{names_behind, object_in_front, suits_behind, words_behind}

-- ---- the words of formal parameters are within the frame

turn_grows : (s : Scope) (fs : List Formal) (xs : List PlacedFormal) (from out last top : ℕ) → StandInTurn s from out fs xs last top
    → (from ≤ last) × (out ≤ top)
turn_grows s [] [] from out last top h = (let a = h.0 in omega (arith, a), let b = h.1 in omega (arith, b))
turn_grows s [] (x ∷ xs) from out last top h = absurd h
turn_grows s (f ∷ fs) [] from out last top h = absurd h
turn_grows s (f ∷ fs) (x ∷ xs) from out last top h =
    by_mode f.mode (words_of s x.subtype) h.4 (turn_grows s fs xs h.0 h.1 last top h.5)
  where
    by_mode : (m : Mode) (many : ℕ) → StandsAt m many from out x h.0 h.1 → (h.0 ≤ last) × (h.1 ≤ top) → (from ≤ last) × (out ≤ top)
    by_mode mode.In many s rest = (let n = s.2 in let r = rest.0 in omega (arith, n, r), let n = s.3 in let r = rest.1 in omega (arith, n, r))
    by_mode mode.Out many s rest = (let n = s.2 in let r = rest.0 in omega (arith, n, r), let n = s.3 in let r = rest.1 in omega (arith, n, r))
    by_mode mode.InOut many s rest = (let n = s.2 in let r = rest.0 in omega (arith, n, r), let n = s.3 in let r = rest.1 in omega (arith, n, r))

module _ (base later : Scope) (sound : SoundScope base) (wide : (u : Subtype) → IsKnown base u → words_of later u ≡ words_of base u) (room : ℕ) where
  begins_within : (f : Formal) (x : PlacedFormal) (from out next behind : ℕ) → subtype_of base f.subtype ≡ Some x.subtype → 1 ≤ words_of base x.subtype
      → StandsAt f.mode (words_of base x.subtype) from out x next behind → next ≤ room → behind ≤ room → BeginsWithin later room x
  begins_within f x from out next behind named some stands one two = by_mode f.mode (words_of base x.subtype) some stands
    where
      value : 1 ≤ words_of later x.subtype
      value = let e = wide x.subtype (subtype_known base f.subtype x.subtype sound named) in omega (arith, e, some)

      within : (first : ℕ) → first < room → x.address ≡ Some first → (a : ℕ) → x.address ≡ Some a → a < room
      within first less is a e = let same = same_some first a (sym is ∙ e) in omega (arith, same, less)

      no_address : x.address ≡ None → (a : ℕ) → x.address ≡ Some a → a < room
      no_address is a e = absurd (let never = sym is ∙ e in cc)

      by_mode : (m : Mode) (many : ℕ) → 1 ≤ many → StandsAt m many from out x next behind → BeginsWithin later room x
      by_mode mode.In many some s = record {
        some = value;
        value = (let a = s.1 in let n = s.2 in omega (arith, a, n, some, one));
        address = no_address s.0;
      }
      by_mode mode.Out many some s = record {
        some = value;
        value = (let a = s.1 in let n = s.3 in omega (arith, a, n, some, two));
        address = within from (let n = s.2 in omega (arith, n, one)) s.0;
      }
      by_mode mode.InOut many some s = record {
        some = value;
        value = (let a = s.1 in let n = s.2 in omega (arith, a, n, some, one));
        address = within from (let n = s.2 in omega (arith, n, one)) s.0;
      }

  begin_within : (fs : List Formal) (xs : List PlacedFormal) (from out last top : ℕ) → StandInTurn base from out fs xs last top → All (HasValue base) xs
      → last ≤ room → top ≤ room → All (BeginsWithin later room) xs
  begin_within [] [] from out last top h some one two = All-nil (BeginsWithin later room)
  begin_within [] (x ∷ xs) from out last top h some one two = absurd h
  begin_within (f ∷ fs) [] from out last top h some one two = absurd h
  begin_within (f ∷ fs) (x ∷ xs) from out last top h some one two =
      let grows = turn_grows base fs xs h.0 h.1 last top h.5 in
      let up = grows.0 in
      let over = grows.1 in
      All-cons (BeginsWithin later room) x xs
      (begins_within f x from out h.0 h.1 h.2 (All-head (HasValue base) x xs some) h.4 (omega (arith, up, one)) (omega (arith, over, two)))
      (begin_within fs xs h.0 h.1 last top h.5 (All-tail (HasValue base) x xs some) one two)

-- ---- what stands for them

placed_slot : (s : Scope) (room : ℕ) (xs : List PlacedFormal) → All (BeginsWithin s room) xs → (k : ℕ) (y : Slot)
    → slice_get (map slot_for xs) k ≡ Some (Some y)
    → (y.region ≡ regions.Locals) × (y.offset < room)
placed_slot s room [] all k y h = cc
placed_slot s room (x ∷ xs) all zero y h =
    let own : Slot = record { region = regions.Locals; offset = x.offset } in
    let same = same_some own y (same_some (Some own) (Some y) h) in
    (ap (λ z. z.region) (sym same), subst (λ z. z.offset < room) same (All-head (BeginsWithin s room) x xs all).value)
placed_slot s room (x ∷ xs) all (suc k) y h = placed_slot s room xs (All-tail (BeginsWithin s room) x xs all) k y h

placed_none : (xs : List PlacedFormal) (k : ℕ) (n : ℕ) → slice_get (map no_subprogram xs) k ≡ Some (Some n) → ⊥
placed_none [] k n h = cc
placed_none (x ∷ xs) zero n h = let f : Option ℕ → Type 0 = λ o. elim o [ None ↦ ⊤ | Some y ↦ ⊥ ] in subst f (same_some None (Some n) h) tt
placed_none (x ∷ xs) (suc k) n h = placed_none xs k n h

-- a formal parameter is no protected object
formals_objects : (s : Scope) (fs : List Formal) (n : ℕ) (o : ProtectedObject) → entity_at (formals_scope s fs) n ≡ Some (Protected o)
    → entity_at s n ≡ Some (Protected o)
formals_objects s [] n o h = h
formals_objects s (f ∷ fs) n o h =
    object_in_front s f.name.name (object_entity (formal_role f.mode) (subtype_of s f.subtype)) (no_object (formal_role f.mode) (subtype_of s f.subtype)) n o
    (formals_objects (formal_scope s f) fs n o h)
  where
    no_object : (r : Role) (t : Option Subtype) (x : ProtectedObject) → object_entity r t ≢ Protected x
    no_object r (Some t) x e = cc
    no_object r None x e = cc

-- ---- in front of a body

module _ (stay : ShapesStay) (added : NamesAreAdded) (v later : Visible) (fs : List Formal) (framed : FrameWords) (placed : PlacedFormals)
    (sound : SoundScope v.scope)
    (entries : HasEntries v) (places : PlacesFormals v fs later framed placed) where
  abbrev items : List PlacedFormal
  items = placed.formals.items

  abbrev more : Scope
  more = drop (length v.scope) (formals_scope v.scope fs)

  scope_behind : later.scope ≡ v.scope ++ more
  scope_behind = places.scope ∙ sym (take-append-drop (length v.scope) (formals_scope v.scope fs)) ∙ ap (λ l. l ++ more) (added.formals v.scope fs)

  pub wider : (u : Subtype) → IsKnown v.scope u → words_of later.scope u ≡ words_of v.scope u
  wider =
      words_behind stay v later more (map slot_for items) (map no_subprogram items) sound entries scope_behind places.slots places.subprograms
      (placed_none items)

  passed_first : placed.passed ≤ framed.taken
  passed_first = (turn_grows v.scope fs items 0 placed.passed placed.passed framed.taken places.stand).1

  pub passed_within : (room : ℕ) → framed.most ≤ room → placed.passed ≤ room
  passed_within room wide = let t = passed_first in let m = places.most in omega (arith, t, m, wide)

  begun_within : (room : ℕ) → framed.most ≤ room → All (BeginsWithin later.scope room) items
  begun_within room wide =
      begin_within v.scope later.scope sound wider room fs items 0 placed.passed placed.passed framed.taken places.stand places.some (passed_within room wide)
      (let m = places.most in omega (arith, m, wide))

  module _ (i : Sections) (s : Subprogram) (wide : framed.most ≤ s.locals) where
    pub room_for : HaveFormalRoom later.scope items i s
    room_for = begun_within s.locals wide

    no_object : (n : ℕ) (o : ProtectedObject) → entity_at later.scope n ≡ Some (Protected o) → entity_at v.scope n ≡ Some (Protected o)
    no_object n o h = formals_objects v.scope fs n o (ap (λ z. entity_at z n) (sym places.scope) ∙ h)

    pub names_body : Suits v i s → Suits later i s
    names_body =
        names_behind stay v later more (map slot_for items) (map no_subprogram items) sound entries scope_behind places.slots places.subprograms
        (placed_none items) i s places.operations no_object (placed_slot later.scope s.locals items (begun_within s.locals wide))

    pub suits_body : SuitsStatements v i s → SuitsStatements later i s
    suits_body =
        suits_behind stay v later more (map slot_for items) (map no_subprogram items) sound entries scope_behind places.slots places.subprograms
        (placed_none items) i s places.operations no_object (placed_slot later.scope s.locals items (begun_within s.locals wide))

-- ---- procedures

nowhere : (i : Sections) (s : Subprogram) (low high : ℕ) → Allows i s low high no_ways
nowhere i s low high = record { exit = λ place is. absurd cc; return = λ place is. absurd cc; handled = λ word is. absurd cc }

module _ (stay : ShapesStay) (added : NamesAreAdded) (v : Visible) (old : Draft) (fs : List Formal) (b : BodyTree) (words : SubprogramWords) (new : Draft)
    (sound : SoundScope v.scope) (entries : HasEntries v) (few : here new.code ≤ INSTRUCTIONS) (adds : AddsProcedure v old fs b words new) where
  abbrev start : ℕ
  start = here old.code

  abbrev back : ℕ
  back = adds.returns.back

  first_up : start ≤ here adds.initial
  first_up = adds.initialises.extends.longer

  run_up : here adds.initial ≤ here adds.run.code
  run_up = adds.runs.extends.longer

  wide_run : adds.framed.most ≤ words.locals
  wide_run = let m = adds.runs.most in let l = adds.locals in omega (arith, m, l)

  module _ (i : Sections) (s : Subprogram) (h : Holds i start new.code) (labels : HasLabels i new.labels) (has : HasSubprogramWords s words)
      (suits : SuitsStatements v i s) where
    wide : adds.framed.most ≤ s.locals
    wide = let l = has.locals in omega (arith, l, wide_run)

    deep : new.code.deepest ≤ s.stack
    deep = let a = has.stack in let b = adds.stack in omega (arith, a, b)

    in_run : Holds i (here adds.initial) adds.run.code
    in_run = holds_before i (here adds.initial) adds.run.code new.code adds.returns.extends (holds_later i start (here adds.initial) new.code first_up h)

    in_front : Holds i start adds.initial
    in_front = holds_before i start adds.initial adds.run.code adds.runs.extends (holds_before i start adds.run.code new.code adds.returns.extends h)

    given : AreKeptBetween i s (here adds.run.code) back (here adds.run.code) (here new.code) 0
    given =
        adds.returns.flows i s (holds_later i start (here adds.run.code) new.code (omega (arith, first_up, run_up)) h)
        (room_for stay added v adds.later fs adds.framed adds.placed sound entries adds.places i s wide) deep has.results

    run_kept : AreKeptBetween i s start back (here adds.initial) (here adds.run.code) 0
    run_kept =
        adds.runs.flows i s start back first_up adds.returns.up in_run (subst (HasLabels i) adds.labels labels)
        (suits_body stay added v adds.later fs adds.framed adds.placed sound entries adds.places i s wide suits)
        (let d = adds.returns.extends.deeper in omega (arith, d, deep)) (let l = has.locals in let m = adds.locals in omega (arith, l, m)) given.begins
        (nowhere i s start back)

    first_kept : AreKeptBetween i s start (here adds.initial) start (here adds.initial) 0
    first_kept =
        adds.initialises.flows.flows i s in_front (room_for stay added v adds.later fs adds.framed adds.placed sound entries adds.places i s wide)
        (let d = adds.returns.extends.deeper in let e = adds.runs.extends.deeper in omega (arith, d, e, deep)) (omega arith) run_kept.begins

    procedure_kept : AreKeptBetween i s start back start (here new.code) 0
    procedure_kept =
        kept_then i s start back start (here adds.initial) (here new.code) 0 0
        (widened i s start (here adds.initial) start back start (here adds.initial) 0 (omega arith) (let u = adds.returns.up in omega (arith, run_up, u))
        first_kept)
        (kept_then i s start back (here adds.initial) (here adds.run.code) (here new.code) 0 0 run_kept
        (widened i s (here adds.run.code) back start back (here adds.run.code) (here new.code) 0 (omega (arith, first_up, run_up)) (omega arith) given))

  abbrev begun : Draft
  begun = record old { code = adds.initial; words = adds.framed }

  around : Surrounds old begun adds.run new
  around = record {
    begun = (refl, refl);
    ended = (adds.rows, adds.exceptions);
    up = first_up;
    mid = run_up;
    over = adds.returns.extends.longer;
    still = finds_later adds.run.code new.code adds.returns.extends;
  }

  pub procedure_keeps : KeepsRules true v old words new
  procedure_keeps = record {
    extends = extends_trans (fresh old.code) adds.initial new.code adds.initialises.extends
        (extends_trans adds.initial adds.run.code new.code adds.runs.extends adds.returns.extends);
    labels = subst (StandsFrom 0 old.labels) (sym adds.labels) adds.runs.labels;
    rows = rows_around old begun adds.run new around adds.runs.rows;
    passed = (let p = adds.passed in
        let w = passed_within stay added v adds.later fs adds.framed adds.placed sound entries adds.places words.locals wide_run in
        omega (arith, p, w));
    few = few;
    fits = adds.fits;
    last = back;
    up = (let u = adds.returns.up in omega (arith, first_up, run_up, u));
    end = adds.returns.end;
    returns = λ i h. adds.returns.returns i (holds_later i start (here adds.run.code) new.code (omega (arith, first_up, run_up)) h);
    flows = procedure_kept;
  }

-- ---- functions

module _ (stay : ShapesStay) (added : NamesAreAdded) (v : Visible) (old : Draft) (fs : List Formal) (result : Subtype) (value : ExprTree)
    (words : SubprogramWords) (new : Draft) (sound : SoundScope v.scope) (entries : HasEntries v) (few : here new.code ≤ INSTRUCTIONS)
    (adds : AddsFunction v old fs result value words new) where
  value_up : here old.code ≤ here adds.valued
  value_up = adds.emits.extends.longer

  value_end : here new.code ≡ suc (here adds.valued)
  value_end = added_here adds.valued new.code 1 op.Return adds.returns

  wide_value : adds.framed.most ≤ words.locals
  wide_value = let l = adds.locals in omega (arith, l)

  function_kept : (i : Sections) (s : Subprogram) → Holds i (here old.code) new.code → HasLabels i new.labels → HasSubprogramWords s words → Suits v i s
      → AreKeptBetween i s (here old.code) (here adds.valued) (here old.code) (here new.code) 0
  function_kept i s h labels has suits =
      let wide : adds.framed.most ≤ s.locals = (let l = has.locals in omega (arith, l, wide_value)) in
      let deep : new.code.deepest ≤ s.stack = (let a = has.stack in let b = adds.stack in omega (arith, a, b)) in
      let one : s.results ≡ 1 = has.results ∙ adds.results in
      let returned = return_kept i s (here old.code) (here adds.valued) (here adds.valued) 1
      (added_there adds.valued new.code 1 op.Return adds.returns i (here old.code) value_up h) (let w = adds.returns.within in omega (arith, w, deep)) one in
      let first = adds.emits.flows.flows i s
      (holds_before i (here old.code) adds.valued new.code (added_extends adds.valued new.code 1 op.Return adds.returns) h)
      (names_body stay added v adds.later fs adds.framed adds.placed sound entries adds.places i s wide suits)
      (let d = adds.returns.deeper in omega (arith, d, deep)) returned.shallow returned.begins in
      kept_then i s (here old.code) (here adds.valued) (here old.code) (here adds.valued) (here new.code) 0 1 first
      (subst (λ n. AreKeptBetween i s (here old.code) (here adds.valued) (here adds.valued) n 1) (sym value_end) returned)

  pub function_keeps : KeepsRules false v old words new
  function_keeps = record {
    extends = extends_trans (fresh old.code) adds.valued new.code adds.emits.extends (added_extends adds.valued new.code 1 op.Return adds.returns);
    labels = labels_stay old.labels new.labels adds.labels;
    rows = rows_kept old new (adds.rows, adds.exceptions);
    passed = (let p = adds.passed in
        let w = passed_within stay added v adds.later fs adds.framed adds.placed sound entries adds.places words.locals wide_value in
        omega (arith, p, w));
    few = few;
    fits = adds.fits;
    last = here adds.valued;
    up = value_up;
    end = value_end;
    returns = λ i h. added_at adds.valued new.code 1 op.Return adds.returns i (here old.code) value_up h;
    flows = function_kept;
  }

-- ---- main

module _ (v : Visible) (i : Sections) (q : Subprogram) (suits : SuitsStatements v i q) where
  call_bare : (x : MainStatement) → NamesIfCalled v.scope x → CallsBare v i q x
  call_bare (main.Null place) h = tt
  call_bare (main.Call package_ procedure) h = λ number told.
      let c = suits.procedures procedure.name number h.profile told h.names h.result in
      record {
        code = c.code;
        is = c.is;
        kind = c.kind;
        parameters = c.parameters ∙ ap (total (passed_width v.scope)) h.formals;
        results = c.results ∙ ap (total (returned_width v.scope)) h.formals;
      }

  calls_bare : (all : List MainStatement) → CallsProcedures v.scope all → CallBare v all i q
  calls_bare all h = λ k d less. call_bare _ (h k d less)

module _ (v : Visible) (old : Draft) (all : List MainStatement) (words : SubprogramWords) (new : Draft) (called : CallsProcedures v.scope all)
    (few : here new.code ≤ INSTRUCTIONS)
    (adds : AddsMain v old all words new) where
  calls_up : here old.code ≤ here adds.called
  calls_up = adds.calls.extends.longer

  calls_end : here new.code ≡ suc (here adds.called)
  calls_end = added_here adds.called new.code 0 op.Return adds.returns

  main_kept : (i : Sections) (s : Subprogram) → Holds i (here old.code) new.code → HasLabels i new.labels → HasSubprogramWords s words → SuitsStatements v i s
      → AreKeptBetween i s (here old.code) (here adds.called) (here old.code) (here new.code) 0
  main_kept i s h labels has suits =
      let deep : new.code.deepest ≤ s.stack = (let a = has.stack in let b = adds.stack in omega (arith, a, b)) in
      let returned = return_kept i s (here old.code) (here adds.called) (here adds.called) 0
      (added_there adds.called new.code 0 op.Return adds.returns i (here old.code) calls_up h) (omega arith) (has.results ∙ adds.results) in
      let first = adds.calls.flows.flows i s
      (holds_before i (here old.code) adds.called new.code (added_extends adds.called new.code 0 op.Return adds.returns) h)
      (calls_bare v i s suits all called) (let d = adds.returns.deeper in omega (arith, d, deep)) (omega arith) returned.begins in
      kept_then i s (here old.code) (here adds.called) (here old.code) (here adds.called) (here new.code) 0 0 first
      (subst (λ n. AreKeptBetween i s (here old.code) (here adds.called) (here adds.called) n 0) (sym calls_end) returned)

  pub main_keeps : KeepsRules true v old words new
  main_keeps = record {
    extends = extends_trans (fresh old.code) adds.called new.code adds.calls.extends (added_extends adds.called new.code 0 op.Return adds.returns);
    labels = labels_stay old.labels new.labels adds.labels;
    rows = rows_kept old new (adds.rows, adds.exceptions);
    passed = (let p = adds.passed in omega (arith, p));
    few = few;
    fits = adds.fits;
    last = here adds.called;
    up = calls_up;
    end = calls_end;
    returns = λ i h. added_at adds.called new.code 0 op.Return adds.returns i (here old.code) calls_up h;
    flows = main_kept;
  }
