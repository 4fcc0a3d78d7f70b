-- Procedures that were put together and joined to the code of a program: what was added, and which limits they may pass.
use Rattle.std.proofs.Common.{◌≡◌, ◌≤◌, ℕ, suc, ◌+◌, ◌*◌, List, length, max, true, inl, inr, refl, sym, ap, ◌∙◌, subst, arith, length-append}
use Rattle.std.specs.List.{All}
use Rattle.base.specs.declared.limits.TheConstants.{FRAME_WORDS}
use Rattle.ada_tree.specs.declared.declaration.Formal.{Formal}
use Rattle.ada_tree.specs.ProgramTree.{BodyTree}
use Rattle.ada_tree.specs.Size.{total}
use Rattle.declaration_rules.specs.BodyNames.{formals_scope}
use Rattle.declaration_rules.specs.Laws.{NamesAreAdded}
use Rattle.expr_soundness.specs.SoundScopes.{IsKnown, SoundScope}
use Rattle.types.specs.Statics.{StaticIsValue}
use Rattle.expr_code.specs.Appending.{Appends}
use Rattle.expr_code.specs.Code.{here}
use Rattle.expr_code.specs.Pieces.{narrow}
use Rattle.expr_code.specs.Refusing.{IsRefused}
use Rattle.expr_code.specs.declared.code.Code.{Code}
use Rattle.expr_code.specs.declared.refusal.Refusal.{Refusal}
use Rattle.expr_code.specs.declared.visible.Visible.{Visible}
use Rattle.expr_code.proofs.ExpressionWorks.{appends_extends, placed as stands_there}
use Rattle.part_code.specs.Bounds.{procedure_bound, run_bound}
use Rattle.part_code.specs.Emitting.{HasEntries}
use Rattle.part_code.specs.Formals.{HasValue, Initialises, PlacesFormals, Returns, placed_words}
use Rattle.part_code.specs.Labels.{handlers_labels, stmts_labels}
use Rattle.part_code.specs.Needs.{Needs, RefusesFormals, all_given, both, formals_frame, formals_needs, outs_needs, stacked}
use Rattle.part_code.specs.Providing.{HasWhatCodeNeeds}
use Rattle.part_code.specs.Rows.{body_rows, handlers_rows, stmts_rows}
use Rattle.part_code.specs.declared.formals.PlacedFormal.{PlacedFormal}
use Rattle.part_code.specs.declared.formals.PlacedFormals.{PlacedFormals}
use Rattle.part_code.specs.declared.frame_words.FrameWords.{FrameWords}
use Rattle.part_code.proofs.FormalWords.{formals_entries}
use Rattle.part_code.proofs.Within.{Within, in_left, in_right, needing_refused, of_right, plain_needing, within_then}
use Rattle.stmt_code.specs.Declaring.{site_at}
use Rattle.stmt_code.specs.Drafting.{CodePart, Drafted, coded, ◌▹◌}
use Rattle.stmt_code.specs.Emitting.{IsAcceptedRun, no_ways}
use Rattle.stmt_code.specs.Joining.{IsJoined, Overflows}
use Rattle.stmt_code.specs.Refusing.{run_needs}
use Rattle.stmt_code.specs.StatementCode.{run_code}
use Rattle.stmt_code.specs.Subprograms.{AddsProcedure, AreLegalFormals, fresh}
use Rattle.stmt_code.specs.Timely.{handlers_timely, locals_seen, stmts_timely}
use Rattle.stmt_code.specs.WholeCode.{height_given, outs_code, procedure_code, return_code}
use Rattle.stmt_code.specs.WholeRefusals.{RefusesProcedure, body_labels, formals_placed, formals_visible, inside_needs, procedure_needs, together}
use Rattle.stmt_code.specs.declared.draft.Draft.{Draft}
use Rattle.stmt_code.specs.declared.subprogram.SubprogramWords.{SubprogramWords}
use Rattle.stmt_code.proofs.BodiesDo.{run_of, site_of, start_of}
use Rattle.stmt_code.proofs.FormalNames.{placed_behind, values_behind}
use Rattle.stmt_code.proofs.JoinedParts.{code_before, code_first, draft_first, joined_after, joined_before, joined_code, joined_last}
use Rattle.stmt_code.proofs.Keeping.{wider}
use Rattle.stmt_code.proofs.OutsDo.{OutsWork, outs_work}
use Rattle.stmt_code.proofs.PartsDo.{StatementLaws}
use Rattle.stmt_code.proofs.PartsFill.{Fills, fills_both, fills_more}
use Rattle.stmt_code.proofs.ReturnsDo.{return_added, return_spans}
use Rattle.stmt_code.proofs.RunJoined.{part_refused}
use Rattle.stmt_code.proofs.RunMade.{run_emits, run_filled}
use Rattle.stmt_code.proofs.SimpleFills.{fills_spans, spans_more}
use Rattle.stmt_code.proofs.WholeBounds.{procedure_room}
use Rattle.stmt_code.proofs.WholePlaces.{items_are, later_is, taken_is}

pub together_within : (n : Needs) → Within n (together n)
together_within n = record { stack = omega arith; frame = omega arith; unfit = λ h. h }

-- a procedure, where no part of it was put together yet
pub formals_refuse : (v : Visible) (fs : List Formal) (b : BodyTree) (old : Draft) (why : Refusal) → RefusesFormals v.scope fs why
    → RefusesProcedure v old fs b why
formals_refuse v fs b old why r =
    let formal = formals_needs v.scope fs in
    let inside = inside_needs (formals_visible v fs) (formals_placed v.scope fs) (formals_frame v.scope fs) b in
    inl (needing_refused 0 (here old.code + procedure_bound v.scope fs b) formal (procedure_needs v fs b) (omega arith)
    (within_then formal (both formal inside) (procedure_needs v fs b) (in_left formal inside) (together_within (both formal inside))) why r)

-- a frame and its operand stack, which are within what is needed
pub beside : (m s k l : ℕ) → m ≤ k → s ≤ l → m + s ≤ max (k + l) k
beside m s k l p q = omega (arith, p, q)

-- ---- where it begins

-- a draft whose frame begins with formal parameters, after what others added
pub frame_begun : (old after : Draft) → after.code ≡ old.code → after.labels ≡ old.labels → after.rows ≡ old.rows → after.exceptions ≡ old.exceptions
    → record after { code = fresh after.code } ≡ record old { code = fresh old.code; words = after.words }
frame_begun old after code labels rows exceptions =
    λ j. record after { code = fresh (code j); labels = labels j; rows = rows j; exceptions = exceptions j }

-- its code there, by other names of where it begins
pub code_there : (P : Draft → Drafted → Type 0) (after begun : Draft) (later : Visible) (b : BodyTree) (xs ys : List PlacedFormal) (taken : ℕ)
    (exceptions : List (List ℕ)) → after ≡ begun → taken ≡ after.words.taken → exceptions ≡ after.exceptions.items → xs ≡ ys
    → P after (procedure_code (site_at later taken no_ways exceptions) xs b (start_of after))
    → P begun (procedure_code (site_of later begun) ys b (start_of begun))
code_there P after begun later b xs ys taken exceptions is same_taken same_exceptions same h =
    let taken_there : taken ≡ begun.words.taken = same_taken ∙ ap (λ d. d.words.taken) is in
    let exceptions_there : exceptions ≡ begun.exceptions.items = same_exceptions ∙ ap (λ d. d.exceptions.items) is in
    subst (λ t. t)
    (λ j. P (is j) (procedure_code (site_at later (taken_there j) no_ways (exceptions_there j)) (same j) b (start_of (is j)))) h

module _ (laws : StatementLaws) (statics : StaticIsValue) (added : NamesAreAdded) (v : Visible) (old : Draft) (fs : List Formal) (b : BodyTree)
    (front : SoundScope v.scope) (head : AreLegalFormals v.scope fs) (entries : HasEntries v)
    (legal : IsAcceptedRun (formals_scope v.scope fs) b.declarations b.statements b.handlers)
    (later : Visible) (words : FrameWords) (placed : PlacedFormals) (places : PlacesFormals v fs later words placed)
    (covered : HasWhatCodeNeeds old.exceptions.items later)
    (timely : stmts_timely (locals_seen later.scope b.declarations) b.statements × handlers_timely (locals_seen later.scope b.declarations) b.handlers) where
  abbrev items : List PlacedFormal
  items = placed.formals.items

  -- where its code begins
  abbrev pub begun : Draft
  begun = record old { code = fresh old.code; words = words }

  abbrev pub whole : CodePart
  whole = procedure_code (site_of later begun) items b

  known : All (λ x. IsKnown later.scope x.subtype) items
  known =
      subst (λ s. All (λ x. IsKnown s x.subtype) items) (sym places.scope)
      (placed_behind v.scope front fs items 0 placed.passed placed.passed words.taken places.stand head.named)

  some : All (HasValue later.scope) items
  some =
      values_behind v.scope later.scope front (wider laws.stay added v later fs words placed front entries places) fs items 0 placed.passed placed.passed
      words.taken places.stand places.some

  inside_sound : SoundScope later.scope
  inside_sound = subst SoundScope (sym places.scope) head.sound

  inside_entries : HasEntries later
  inside_entries = formals_entries v later fs words placed places entries head.new_names

  accepted : IsAcceptedRun later.scope b.declarations b.statements b.handlers
  accepted = subst (λ s. IsAcceptedRun s b.declarations b.statements b.handlers) (sym places.scope) legal

  outs : OutsWork laws.expressions.words laws.shaped later inside_sound items (outs_code later items)
  outs = outs_work laws.expressions.words laws.shaped later inside_sound items known some

  -- ---- what it needs

  abbrev first : Needs
  first = outs_needs later items

  abbrev runs : Needs
  runs = run_needs later words.taken b.declarations b.statements b.handlers

  abbrev given : Needs
  given = stacked (all_given later.scope items)

  abbrev inside : Needs
  inside = inside_needs later items words.taken b

  abbrev first_long : ℕ
  first_long = 2 * length items + total (placed_words later.scope) items

  abbrev run_long : ℕ
  run_long = run_bound later.scope b.declarations b.statements b.handlers

  abbrev last_long : ℕ
  last_long = suc (3 * length items)

  abbrev labels_after : List (List ℕ) → List (List ℕ)
  labels_after l = handlers_labels (stmts_labels l b.statements) b.handlers

  abbrev rows_after : ℕ → ℕ
  rows_after k = handlers_rows (stmts_rows k b.statements) b.handlers

  first_fills : Fills inside first_long (λ l. l) (λ k. k) (coded (outs_code later items))
  first_fills =
      fills_more first inside first_long first_long (λ l. l) (λ k. k) (coded (outs_code later items)) (in_left first (both runs given)) (omega arith)
      (fills_spans first first_long (outs_code later items)
      (spans_more ⊥ (first.unfit ≡ true) first_long first_long first.stack first.stack (outs_code later items) (λ u. absurd u) (omega arith) (omega arith) outs.spans))

  runs_fill : Fills inside run_long labels_after rows_after (run_code (site_of later begun) b)
  runs_fill =
      fills_more runs inside run_long run_long labels_after rows_after (run_code (site_of later begun) b)
      (of_right runs first (both runs given) (in_left runs given)) (omega arith)
      (run_filled laws statics later begun b inside_sound inside_entries covered accepted timely)

  last_fills : Fills inside last_long (λ l. l) (λ k. k) (coded (return_code later.scope items))
  last_fills =
      fills_more given inside last_long last_long (λ l. l) (λ k. k) (coded (return_code later.scope items))
      (of_right given first (both runs given) (in_right runs given)) (omega arith)
      (fills_spans given last_long (return_code later.scope items)
      (spans_more ⊥ (given.unfit ≡ true) last_long last_long given.stack given.stack (return_code later.scope items) (λ u. absurd u) (omega arith) (omega arith)
      (return_spans later.scope items some)))

  whole_fills : Fills inside (first_long + (run_long + last_long)) labels_after rows_after whole
  whole_fills =
      fills_both inside first_long (run_long + last_long) (λ l. l) labels_after (λ k. k) rows_after (coded (outs_code later items))
      (run_code (site_of later begun) b ▹ coded (return_code later.scope items)) first_fills
      (fills_both inside run_long last_long labels_after (λ l. l) rows_after (λ k. k) (run_code (site_of later begun) b) (coded (return_code later.scope items))
      runs_fill last_fills)

  room : first_long + (run_long + last_long) ≤ procedure_bound v.scope fs b
  room = procedure_room v later fs b words placed places

  -- ---- which limits it may pass

  abbrev formal : Needs
  formal = formals_needs v.scope fs

  abbrev parts : Needs
  parts = both formal (inside_needs (formals_visible v fs) (formals_placed v.scope fs) (formals_frame v.scope fs) b)

  inside_is : both formal inside ≡ parts
  inside_is = λ j. both formal
      (inside_needs (later_is v fs later words placed places j) (items_are v fs later words placed places j) (taken_is v fs later words placed places j) b)

  inside_within : Within inside (procedure_needs v fs b)
  inside_within =
      within_then inside parts (procedure_needs v fs b) (subst (Within inside) inside_is (in_right formal inside)) (together_within parts)

  pub procedure_overflows : (why : Refusal) → Overflows begun (whole (start_of begun)) why → RefusesProcedure v old fs b why
  procedure_overflows why h =
      elim (part_refused begun inside (first_long + (run_long + last_long)) labels_after rows_after whole whole_fills why h) [
        | inl n ↦ inl (needing_refused (here old.code + (first_long + (run_long + last_long))) (here old.code + procedure_bound v.scope fs b) inside
            (procedure_needs v fs b) (let up = room in omega (arith, up)) inside_within why n)
        | inr many ↦ inr many
      ]

  module _ (new : Draft) (joined : IsJoined begun (whole (start_of begun)) new) where
    abbrev made : Drafted
    made = whole (start_of begun)

    frame_few : words.most ≡ words.taken → new.words.most ≤ parts.frame
    frame_few same =
        let most = joined.most in
        let own = whole_fills.most (start_of begun) in
        let taken = taken_is v fs later words placed places in
        let one = (in_left formal inside).frame in
        let two = (in_right formal inside).frame in
        let is = ap (λ n. n.frame) inside_is in
        omega (arith, most, own, same, taken, one, two, is)

    stack_few : new.code.deepest ≤ parts.stack
    stack_few =
        let deep = joined.code.deepest in
        let own = whole_fills.low (start_of begun) in
        let two = (in_right formal inside).stack in
        let is = ap (λ n. n.stack) inside_is in
        omega (arith, deep, own, two, is)

    pub frame_refuses : words.most ≡ words.taken → (why : Refusal) → IsRefused 0 (new.words.most + new.code.deepest) why → RefusesProcedure v old fs b why
    frame_refuses same why r =
        inl (plain_needing 0 (here old.code + procedure_bound v.scope fs b) (new.words.most + new.code.deepest) (procedure_needs v fs b) why (omega arith)
        (beside new.words.most new.code.deepest parts.frame parts.stack (frame_few same) stack_few) r)

    -- ---- what was added

    pub labels_are : new.labels ≡ body_labels old.labels b
    labels_are = joined.labels ∙ whole_fills.named (start_of begun)

    pub rows_are : length new.rows.items ≡ body_rows (length old.rows.items) b
    rows_are = ap length joined.rows ∙ length-append old.rows.items made.rows ∙ whole_fills.many (start_of begun) (length old.rows.items)

    abbrev rest : CodePart
    rest = run_code (site_of later begun) b ▹ coded (return_code later.scope items)

    abbrev initial : Code
    initial = code_first begun new (outs_code later items) rest joined

    abbrev inner : Draft
    inner = draft_first begun new (outs_code later items) rest joined

    starts : Appends (fresh old.code) (outs_code later items (here old.code)) initial
    starts = joined_code begun new (outs_code later items) rest joined

    inner_joined : IsJoined inner (rest (start_of inner)) new
    inner_joined = joined_after begun new (outs_code later items) rest joined

    abbrev run : Draft
    run = record new { code = code_before inner new (run_code (site_of later inner) b) (return_code later.scope items) inner_joined }

    run_joined : IsJoined inner (run_of later inner b) run
    run_joined = joined_before inner new (run_code (site_of later inner) b) (return_code later.scope items) inner_joined

    ends : Appends run.code (return_code later.scope items (here run.code)) new.code
    ends = joined_last inner new (run_code (site_of later inner) b) (return_code later.scope items) inner_joined

    initialises : Initialises later.scope (fresh old.code) items initial
    initialises =
        let at = stands_there (fresh old.code) initial (outs_code later items) starts in
        record {
          extends = appends_extends (fresh old.code) initial (outs_code later items (here old.code)) starts;
          sized = (let long = at.long in let few = outs.spans.sized (here old.code) in omega (arith, long, few));
          stands = λ i holds. outs.stands i (here old.code) (here initial) (at.stands i holds);
          flows = record {
            flows = λ i q holds has deep high ends.
                let is = starts.deepest in
                outs.leads.leads i q (here old.code) (here initial) (at.stands i holds) has (omega (arith, is, deep)) high ends;
          };
        }

    sized : here new.code ≤ here old.code + procedure_bound v.scope fs b
    sized =
        let long = ap length joined.code.items ∙ length-append old.code.instructions.items made.code in
        let few = whole_fills.sized (start_of begun) in
        let up = room in
        omega (arith, long, few, up)

    returns : Returns later.scope run.code items (narrow (height_given later.scope items)) new.code
    returns = return_added later.scope items some run.code new.code ends

    pub procedure_joined : (left : FrameWords) (sizes : SubprogramWords)
        → sizes ≡ record { passed = placed.passed; results = narrow (height_given later.scope items); locals = new.words.most; stack = new.code.deepest }
        → sizes.locals + sizes.stack ≤ FRAME_WORDS → AddsProcedure v old fs b sizes (record new { words = left })
    procedure_joined left sizes is fits = record {
      sized = sized;
      placed = placed;
      later = later;
      framed = words;
      places = places;
      initial = initial;
      initialises = initialises;
      run = run;
      runs = run_emits laws statics later inner b inside_sound inside_entries covered accepted timely run run_joined;
      returns = subst (λ n. Returns later.scope run.code items n new.code) (sym (ap (λ w. w.results) is)) returns;
      labels = refl;
      rows = refl;
      exceptions = refl;
      passed = ap (λ w. w.passed) is;
      locals = ap (λ w. w.locals) is;
      stack = ap (λ w. w.stack) is;
      fits = fits;
    }
