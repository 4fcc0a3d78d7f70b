-- The code of a body up to its end, once its instructions, rows, labels and words were added to a draft: what it does, and that it keeps the rules of images.
use Rattle.std.proofs.Common.{◌≡◌, ℕ, ◌+◌, ◌≤◌, [], Bool, true, ◌||◌, Option, None, Some, length, max, sym, subst, arith}
use Rattle.std.specs.Prelude.{is_some}
use Rattle.base.specs.declared.limits.TheConstants.{FRAME_WORDS}
use Rattle.ada_tree.specs.ProgramTree.{BodyTree}
use Rattle.ada_tree.specs.StatementTree.{HandlerTrees, StmtTrees}
use Rattle.image.specs.Sections.{Sections}
use Rattle.types.specs.Statics.{StaticIsValue}
use Rattle.declaration_rules.specs.LocalRules.{locals_scope}
use Rattle.part_code.specs.step_soundness.specs.body_restrictions.specs.BodyRules as restrictions
use Rattle.expr_soundness.specs.SoundScopes.{SoundScope}
use Rattle.expr_soundness.specs.meaning.specs.Programs.{Program}
use Rattle.expr_code.specs.Appending.{Appends}
use Rattle.expr_code.specs.Code.{Holds, here}
use Rattle.expr_code.specs.Pieces.{Piece}
use Rattle.expr_code.specs.Seeing.{Package}
use Rattle.expr_code.specs.declared.visible.Visible.{Visible}
use Rattle.expr_code.proofs.ExpressionWorks.{appends_extends, placed}
use Rattle.part_code.specs.Bounds.{run_bound}
use Rattle.part_code.specs.Emitting.{HasEntries}
use Rattle.part_code.specs.Handling.{GoesBy, GoesByRows, Handling, unhandled}
use Rattle.part_code.specs.Jumping.{Jumps}
use Rattle.part_code.specs.Providing.{HasWhatCodeNeeds}
use Rattle.part_code.specs.Resting.{Framed}
use Rattle.part_code.specs.Statements.{IsRun, IsSequence, Numbers, Ways}
use Rattle.part_code.proofs.OpenWays.{opens_return, sequence_opened}
use Rattle.stmt_code.specs.Drafting.{CodePart, Drafted, Start}
use Rattle.stmt_code.specs.Emitting.{AddsRows, AreAcceptedHandlers, AreAcceptedStatements, EmitsRun, HasLabels, IsAcceptedRun, IsHandled, Meant, Serves, TellPlaces, no_ways, seeing}
use Rattle.stmt_code.specs.Leaves.{any_leave, handlers_leave}
use Rattle.stmt_code.specs.Placing.{body_within, sequence_within}
use Rattle.stmt_code.specs.StatementCode.{Site, after_locals, handlers_code, in_body, locals_code, run_code, sequence_code, stmts_code, with_way}
use Rattle.stmt_code.specs.declared.draft.Draft.{Draft}
use Rattle.stmt_code.specs.declared.leaves.WayOut.TheVariants as way
use Rattle.stmt_code.proofs.Accepting.{run_allowed, run_handlers, run_statements}
use Rattle.stmt_code.proofs.Adding.{labels_stay, labels_then}
use Rattle.stmt_code.proofs.DeclarationsDo.{does_after}
use Rattle.stmt_code.proofs.HandlersDo.{IsSequenceAt, does_sequence}
use Rattle.stmt_code.proofs.Heads.{way_of}
use Rattle.stmt_code.proofs.LoopsDo.{AllowsWay, does_way, leaving}
use Rattle.stmt_code.proofs.CoveredScopes.{IsFull}
use Rattle.stmt_code.proofs.PartsDo.{Does, IsServed, StatementLaws}
use Rattle.stmt_code.proofs.PartsStand.{HasPart, StandsBy}
use Rattle.stmt_code.proofs.StatementsDo.{full_locals, handlers_do, locals_do, scope_locals, stmts_do}

-- ---- what is added

-- where the body stands, and what is put together of it
abbrev pub site_of : Visible → Draft → Site
site_of v old = record { visible = v; ways = no_ways; taken = old.words.taken; exceptions = old.exceptions.items }

abbrev pub start_of : Draft → Start
start_of old = record { place = here old.code; labels = old.labels }

abbrev pub run_of : Visible → Draft → BodyTree → Drafted
run_of v old b = run_code (site_of v old) b (start_of old)

-- Its instructions were added, each of which keeps the limits of images, its labels, its rows and its words, which are within a frame.
pub record AddsRun (v : Visible) (old : Draft) (b : BodyTree) (new : Draft) : Type 0 where
  pub code : Appends old.code (run_of v old b).code new.code
  pub sized : here new.code ≤ here old.code + run_bound v.scope b.declarations b.statements b.handlers
  pub labels : new.labels ≡ (run_of v old b).labels
  pub few : length new.labels ≤ 65535
  pub taken : new.words.taken ≡ old.words.taken
  pub most : new.words.most ≡ max old.words.most (run_of v old b).most
  pub wide : (run_of v old b).most ≤ FRAME_WORDS
  pub rows : AddsRows old new
  pub added : rows.added ≡ (run_of v old b).rows
  pub placed : rows.placed ≡ (run_of v old b).places

-- ---- what it is

-- where nothing is handled around it
abbrev pub IsBody : BodyTree → Meant
IsBody b i program g numbers f r from to = r ≡ unhandled → IsRun i program g numbers f from to b.declarations b.statements b.handlers

module _ (v : Visible) (old new : Draft) (b : BodyTree) (h : AddsRun v old b new)
    (does : Does (IsBody b) (site_of v old) (body_within b.declarations b.statements b.handlers) (run_code (site_of v old) b)) where
  abbrev piece : Piece
  piece base = (run_code (site_of v old) b (record { place = base; labels = old.labels })).code

  labels_in : (i : Sections) → HasLabels i new.labels → HasLabels i (run_of v old b).labels
  labels_in i l = subst (HasLabels i) h.labels l

  has_run : (i : Sections) (frame : ℕ) → Holds i (here old.code) new.code → HasLabels i new.labels → new.words.most ≤ frame
      → HasPart i frame (start_of old) (here new.code) (run_code (site_of v old) b)
  has_run i frame holds l room =
      let at = (placed old.code new.code piece h.code).stands i holds in
      let most = h.most in
      let wide = h.wide in
      record {
        there = at.there;
        ends = at.ends;
        low = at.low;
        labels = labels_in i l;
        few = subst (λ x. length x ≤ 65535) h.labels h.few;
        wide = wide;
        fits = omega (arith, most, room);
      }

  stands_by : (i : Sections) (program : Program) (r : Handling) (frame : ℕ) → Holds i (here old.code) new.code → HasLabels i new.labels
      → new.words.most ≤ frame → IsHandled i program old new h.rows r
      → StandsBy i r frame (start_of old) (here new.code) (run_code (site_of v old) b)
  stands_by i program r frame holds l room handled = record {
    part = has_run i frame holds l room;
    goes = subst (λ x. GoesByRows i x r (here old.code) (here new.code)) h.added handled.goes;
  }

  served : (i : Sections) (program : Program) (g : Package) (numbers : Numbers) (f : Framed) (r : Handling) → f.names ≡ v
      → Serves program g numbers f old.words.taken → IsHandled i program old new h.rows r → IsServed program g numbers f (site_of v old)
  served i program g numbers f r names serves handled =
      record { names = names; serves = serves; exceptions = handled.exceptions; named = handled.named }

  pub run_added : EmitsRun v old b.declarations b.statements b.handlers new
  run_added = record {
    extends = appends_extends old.code new.code (run_of v old b).code h.code;
    labels = labels_then old.labels (run_of v old b).labels new.labels (does.tidy.grows.labels (start_of old)) (labels_stay (run_of v old b).labels new.labels h.labels);
    taken = h.taken;
    most = (let most = h.most in omega (arith, most));
    sized = h.sized;
    rows = h.rows;
    stands = λ i holds l program g numbers f names serves room r handled.
        (does.stands i program g numbers f r (start_of old) (here new.code) (served i program g numbers f r names serves handled)
        (stands_by i program r f.room holds l room handled)).is;
    tells = λ i holds l program g numbers f names serves room r handled.
        subst (λ x. TellPlaces i program g numbers x (body_within b.declarations b.statements b.handlers)) (sym h.placed)
        (does.stands i program g numbers f r (start_of old) (here new.code) (served i program g numbers f r names serves handled)
        (stands_by i program r f.room holds l room handled)).tells;
    flows = λ i s low high down up holds l suits deep wide ends ways.
        let is = h.code.deepest in
        does.flows.flows i s low high (start_of old) (here new.code)
        (record { part = has_run i s.locals holds l wide; down = down; up = up; deep = omega (arith, is, deep) }) suits ways (omega arith) ends;
  }

-- ---- what stands after the declarations

-- a return leads to the way out, and there is no loop to leave
abbrev returning : Option ℕ → Ways
returning out = record { exit = None; return = out; handled = None }

-- jumps over the way out, and from it to the end, and statements with their handlers
abbrev IsEntered : StmtTrees → HandlerTrees → Meant
IsEntered body all i program g numbers f r from to =
    (start : ℕ) × (out : ℕ) × (from ≤ start) × (start ≤ to) × (from ≤ out) × (out ≤ to) × Jumps i from start × Jumps i out to
    × IsSequence i program g numbers f (returning (Some out)) r start to body all

returns_allowed : (v : Ways) → AllowsWay v returning
returns_allowed v i u low high out ways reached = record { exit = λ place is. absurd cc; return = reached; handled = λ word is. absurd cc }

-- where there is no way out, no statement leads to one
with_out : (i : Sections) (program : Program) (g : Package) (numbers : Numbers) (f : Framed) (r : Handling) (out : Option ℕ) (start to : ℕ) (body : StmtTrees)
    (all : HandlerTrees) → IsSequence i program g numbers f (returning out) r start to body all
    → IsSequence i program g numbers f (returning (Some (way_of out to))) r start to body all
with_out i program g numbers f r (Some out) start to body all h = h
with_out i program g numbers f r None start to body all h =
    sequence_opened i program g numbers f (returning None) (returning (Some to)) (opens_return to (returning None)) r start to body all h

module _ (laws : StatementLaws) (statics : StaticIsValue) (c : Site) (b : BodyTree) (full : IsFull c)
    (legal : IsAcceptedRun c.visible.scope b.declarations b.statements b.handlers) where
  abbrev later : Site
  later = after_locals c b.declarations

  abbrev leaves : Bool
  leaves = any_leave b.statements way.Return || handlers_leave b.handlers way.Return

  abbrev sequence : Option ℕ → CodePart
  sequence out = sequence_code b.handlers (stmts_code (in_body later out) b.statements) (λ q. handlers_code (in_body later out) q [] b.handlers)

  allowed : restrictions.locals_faults b.declarations ≡ []
  allowed = run_allowed c.visible.scope b.declarations b.statements b.handlers legal

  inside_full : IsFull later
  inside_full = full_locals laws statics c b.declarations full legal.declared allowed

  scope_there : later.visible.scope ≡ locals_scope c.visible.scope b.declarations
  scope_there = scope_locals laws statics c b.declarations allowed

  sequence_does : (out : Option ℕ) → (leaves ≡ true → is_some out ≡ true)
      → Does (IsSequenceAt (in_body later out) b.statements b.handlers) (leaving later returning out) (sequence_within b.statements b.handlers) (sequence out)
  sequence_does out there =
      does_sequence laws.inside laws.around (in_body later out) b.statements b.handlers (stmts_code (in_body later out) b.statements)
      (λ q. handlers_code (in_body later out) q [] b.handlers)
      (stmts_do laws statics (in_body later out) b.statements inside_full
      (subst (λ s. AreAcceptedStatements s (returning out) b.statements) (sym scope_there)
      (run_statements c.visible.scope b.declarations b.statements b.handlers legal out there)))
      (λ q.
      handlers_do laws statics (in_body later out) q [] b.handlers inside_full
      (subst (λ s. AreAcceptedHandlers s (returning out) b.handlers) (sym scope_there)
      (run_handlers c.visible.scope b.declarations b.statements b.handlers legal out there)))

  entered_does : Does (IsEntered b.statements b.handlers) later (sequence_within b.statements b.handlers) (with_way leaves sequence)
  entered_does =
      does_way later returning (λ out. IsSequenceAt (in_body later out) b.statements b.handlers) (IsEntered b.statements b.handlers)
      (sequence_within b.statements b.handlers) sequence (returns_allowed later.ways)
      (λ i program g numbers f r out from start to low above below skips way_out up is. (
        start,
        way_of out to,
        low,
        up,
        above,
        below,
        skips,
        way_out,
        with_out i program g numbers f r out start to b.statements b.handlers is,
      ))
      leaves sequence_does

  pub run_works : Does (IsBody b) c (body_within b.declarations b.statements b.handlers) (run_code c b)
  run_works =
      does_after (IsEntered b.statements b.handlers) (IsBody b) c b.declarations (sequence_within b.statements b.handlers) (locals_code c b.declarations)
      (with_way leaves sequence) (locals_do laws statics c b.declarations full legal.declared allowed) entered_does
      (λ i program g numbers f r from mid to up over declared goes is none. record {
        later = seeing f later.visible;
        mid = mid;
        start = is.0;
        out = is.1;
        up = up;
        down = is.2;
        over = is.3;
        below = is.4;
        high = is.5;
        declared = declared;
        uncovered = subst (λ h. GoesBy i h from mid) none goes;
        skip = is.6;
        way = is.7;
        statements = subst
            (λ h. IsSequence i program g numbers (seeing f later.visible) (returning (Some is.1)) h is.0 to b.statements b.handlers) none is.8;
      })

-- ---- the law

pub run_does : StatementLaws → StaticIsValue → (v : Visible) (old new : Draft) (b : BodyTree) → SoundScope v.scope → HasEntries v
    → HasWhatCodeNeeds old.exceptions.items v
    → IsAcceptedRun v.scope b.declarations b.statements b.handlers
    → AddsRun v old b new
    → EmitsRun v old b.declarations b.statements b.handlers new
run_does laws statics v old new b sound entries covered legal h =
    run_added v old new b h
    (run_works laws statics (site_of v old) b (record { sound = sound; entries = entries; has = covered }) legal)
