-- The frame of a body that is entered, by a call or for a caller that has waited: its code goes on with the items of the body.
use Rattle.std.proofs.Common.{◌≡◌, ℕ, ◌+◌, ◌-◌, ◌≤◌, List, ◌∷◌, [], length, map, Some, None, Bool, true, false, refl, sym, ap, ◌∙◌, subst, arith}
use Rattle.std.specs.Prelude.{◌++◌, if◌then◌else◌, pos, replicate}
use Rattle.part_code.specs.image.specs.Sections.{Sections, end_of, first_place, object_of}
use Rattle.part_code.specs.image.specs.Operations.{called}
use Rattle.part_code.specs.image.specs.Frames.{Frame, Role, kind_of}
use Rattle.part_code.specs.types.specs.Values.{Value}
use Rattle.step_soundness.specs.meaning.specs.Calls.{activation_of, body_items, declares_parameters, is_out, results}
use Rattle.step_soundness.specs.meaning.specs.Programs.{Parameter, Procedure, Program}
use Rattle.step_soundness.specs.meaning.specs.Works.{Item, Declares, DeclaresParameter, Sequence, Activation}
use Rattle.step_soundness.specs.Fitting.{taken_types}
use Rattle.step_soundness.specs.Objects.{AreOf}
use Rattle.part_code.specs.expr_code.specs.Computing.{ArePassed}
use Rattle.part_code.specs.expr_code.specs.Seeing.{Package}
use Rattle.part_code.specs.expr_code.proofs.CallFrames.{replicated}
use Rattle.part_code.specs.Resting.{Framed, NarrowsFrame}
use Rattle.part_code.specs.Copying.{held_at, left_out, passed_words}
use Rattle.part_code.specs.Handling.{unhandled}
use Rattle.part_code.specs.Statements.{IsProcedureCode, Numbers, shapes_of}
use Rattle.part_code.specs.Jumping.{Here, Jumps}
use Rattle.step_simulation.specs.Standing.{Around, Follows, Inside, IsGoingOn, LeadsEnd, Note, frames_in, with_visible}
use Rattle.step_simulation.proofs.Going.{declares_end, declares_follow, earlier, narrows_same, parameters_end, parameters_follow, same_end}
use Rattle.step_simulation.proofs.Opening.{object_is}

-- ---- the items of a body: its `out` parameters, its declarations, its statements, its end

abbrev statements_of : Procedure → (end : Item) → List Item → List Item
statements_of q end items = Sequence q.body.statements q.body.handlers ∷ end ∷ items

abbrev declarations_of : Procedure → (end : Item) → List Item → List Item
declarations_of q end items = map Declares q.body.declarations ++ statements_of q end items

abbrev body_of : Procedure → (end : Item) → List Item → List Item
body_of q end items = map DeclaresParameter (left_out q.parameters) ++ declarations_of q end items

all_declared : (ps : List Parameter) (items : List Item) → declares_parameters ps items ≡ map DeclaresParameter (left_out ps) ++ items
all_declared [] items = refl
all_declared (p ∷ ps) items = by_mode (is_out p.mode) (all_declared ps items)
  where
    by_mode : (b : Bool) → declares_parameters ps items ≡ map DeclaresParameter (left_out ps) ++ items
        → (if b then DeclaresParameter p ∷ declares_parameters ps items else declares_parameters ps items)
        ≡ map DeclaresParameter (if b then p ∷ left_out ps else left_out ps) ++ items
    by_mode true e = ap (λ l. DeclaresParameter p ∷ l) e
    by_mode false e = e

body_is : (q : Procedure) (end : Item) (items : List Item) → body_items q end items ≡ body_of q end items
body_is q end items = all_declared q.parameters (declarations_of q end items)

module _ (i : Sections) (program : Program) (g : Package) (numbers : Numbers) (note : Note) where
  abbrev Setting : Type 0
  Setting = Around i program g numbers

  abbrev seeing : Framed → Setting → Setting
  seeing v a = with_visible i program g numbers v a

  abbrev Follow : Setting → (n from : ℕ) → List Item → Role → List Frame → List Activation → Type 0
  Follow a n from items role fs os = Follows i program g numbers note a n from items role fs os

  -- code goes on with this end of a body, wherever what it gives back may stand
  abbrev pub EndFollows : (names : List (List ℕ)) (addresses : List ℕ) → (end : Item) → List Item → Role → List Frame → List Activation → Type 0
  EndFollows names addresses end items role fs os =
      (a : Setting) (n from ret : ℕ) → a.ways.return ≡ Some ret → a.visible.reserved ≡ a.ending.reserved
      → LeadsEnd i program g numbers a n from a.visible names addresses
      → LeadsEnd i program g numbers a n ret a.ending names addresses
      → Follow a n from (end ∷ items) role fs os

  module _ (q : Procedure) (number : ℕ) (proc : IsProcedureCode i program g numbers q number) (vs : List Value) (addresses : List ℕ) where
    -- the frame of the body
    abbrev pub entered_frame : Role → Frame
    entered_frame role = record {
      subprogram = number;
      place = first_place i number;
      locals = passed_words q.parameters vs addresses ++ replicate (proc.s.locals - proc.s.parameters) (pos 0);
      stack = [];
      role = role;
    }

    pub entered : ArePassed (shapes_of i program g numbers q) vs → AreOf program.scope (taken_types q.parameters) vs
        → length addresses ≡ length (results q.parameters)
        → (end : Item) (items : List Item) (role : Role) (fs : List Frame) (os : List Activation) → length fs ≡ frames_in (end ∷ items)
        → EndFollows (results q.parameters) addresses end items role fs os
        → IsGoingOn i program g numbers note (body_items q end items) (activation_of q vs) os
        (record { frame = entered_frame role; callers = fs; raising = None })
    entered shaped typed many end items role fs os depth follows =
        subst (λ all. IsGoingOn i program g numbers note all (activation_of q vs) os (record { frame = entered_frame role; callers = fs; raising = None }))
        (sym (body_is q end items))
        (record {
          around = around;
          follows = parameters_follow i program g numbers note (left_out q.parameters) around proc.begins proc.begun number first proc.first
              (declarations_of q end items) role fs os proc.ready u0 first_in ready_in middle;
          rests = proc.enters vs addresses (replicate (proc.s.locals - proc.s.parameters) (pos 0)) shaped typed many
              (replicated (proc.s.locals - proc.s.parameters));
          object = ap (λ o. object_of (kind_of o)) proc.there ∙ ap object_of proc.kind ∙ object_is q.object q.barrier;
          stack = refl;
          going = refl;
          depth = depth ∙ sym (parameters_end i program g numbers (left_out q.parameters) (declarations_of q end items)
              ∙ declares_end i program g numbers q.body.declarations (statements_of q end items));
        })
      where
        first : ℕ
        first = first_place i number

        u0 : first ≤ proc.first
        u0 = proc.down

        u1 : proc.first ≤ proc.runs.mid
        u1 = proc.runs.up

        u2 : proc.runs.mid ≤ proc.stop
        u2 = (let low = proc.runs.down in let over = proc.runs.over in omega (arith, low, over))

        u3 : proc.stop ≤ proc.gives.back
        u3 = proc.gives.up

        all_in : (place : ℕ) → first ≤ place → place ≤ proc.gives.back → Inside i program g numbers number place
        all_in place low high =
            let u4 = proc.within in
            let ended : end_of (called i number) ≡ proc.s.end_ = ap end_of proc.there in
            (low, omega (arith, low, high, u0, u1, u2, u3, u4, ended))

        first_in : Inside i program g numbers number first
        first_in = all_in first (omega arith) (omega (arith, u0, u1, u2, u3))

        ready_in : Inside i program g numbers number proc.first
        ready_in = all_in proc.first u0 (omega (arith, u1, u2, u3))

        mid_in : Inside i program g numbers number proc.runs.mid
        mid_in = all_in proc.runs.mid (omega (arith, u0, u1)) (omega (arith, u2, u3))

        way_in : Inside i program g numbers number proc.runs.out
        way_in = (let below = proc.runs.below in let high = proc.runs.high in all_in proc.runs.out (omega (arith, u0, u1, below)) (omega (arith, high, u3)))

        stop_in : Inside i program g numbers number proc.stop
        stop_in = all_in proc.stop (omega (arith, u0, u1, u2)) u3

        last_in : Inside i program g numbers number proc.gives.back
        last_in = all_in proc.gives.back (omega (arith, u0, u1, u2, u3)) (omega arith)

        around : Setting
        around = record {
          visible = proc.begins;
          ways = record { exit = None; return = Some proc.runs.out; handled = None };
          raised = unhandled;
          held = held_at proc.begins.reserved addresses;
          behind = proc.middle;
          ending = proc.middle;
          handling = proc.middle;
        }

        -- the end of the body is reached from this place
        ending : (last : Framed) → (from : ℕ) → Jumps i from proc.stop → Inside i program g numbers number from → NarrowsFrame g last proc.middle
            → (same : proc.begins.reserved ≡ proc.middle.reserved)
            → LeadsEnd i program g numbers (seeing last around) number from last (results q.parameters) addresses
        ending last from jumps inside nar same = record {
          at = proc.stop;
          last = proc.middle;
          jumps = jumps;
          narrows = nar;
          gives = proc.gives;
          held = ap (λ l. held_at l addresses) same;
          outermost = record { exit = refl; handled = refl; raised = λ x. refl };
          from_inside = inside;
          to_inside = last_in;
        }

        last : NarrowsFrame g proc.begun proc.begins → NarrowsFrame g proc.runs.later proc.middle
            → Follow (seeing proc.runs.later around) number proc.runs.mid (statements_of q end items) role fs os
        last begun nar =
            let same : proc.begins.reserved ≡ proc.middle.reserved = sym begun.reserved ∙ proc.orders.reserved in (
              proc.runs.start,
              proc.stop,
              proc.runs.later,
              (record {
                jumps = proc.runs.skip;
                narrows = narrows_same g proc.runs.later;
                reaches = (nar.shows, nar.shows, nar.shows);
                from_inside = mid_in;
                up = proc.runs.over;
                to_inside = stop_in;
              }),
              proc.runs.statements,
              follows (seeing proc.runs.later around) number proc.stop proc.runs.out refl nar.reserved
                  (ending proc.runs.later proc.stop Here stop_in nar same)
                  (same_end i program g numbers (seeing proc.middle around) proc.runs.later proc.middle number proc.runs.out
                  (results q.parameters) addresses
                  (ending proc.middle proc.runs.out proc.runs.way way_in (narrows_same g proc.middle) same)),
            )

        middle : NarrowsFrame g proc.begun proc.begins
            → Follow (seeing proc.begun around) number proc.first (declarations_of q end items) role fs os
        middle begun =
            earlier i program g numbers note (declarations_of q end items) (seeing proc.middle around) proc.begun number proc.first proc.first role fs os Here
            proc.orders ready_in
            (declares_follow i program g numbers note q.body.declarations around proc.middle proc.runs.later number proc.first proc.runs.mid
            (statements_of q end items) role fs os proc.runs.declared proc.runs.uncovered u1 ready_in mid_in
            ((narrows_same g proc.middle).shows, (narrows_same g proc.middle).shows, (narrows_same g proc.middle).shows) (λ nar. last begun nar))
