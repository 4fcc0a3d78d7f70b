-- What follows under one note follows under another that says the same of those for whom the frames run bodies of entries.
use Rattle.std.proofs.Common.{◌≡◌, ℕ, List, [], ◌∷◌, Bool, None, length, inl, inr, sym, ap, ◌∙◌, subst, ⊎_elim}
use Rattle.part_code.specs.image.specs.Sections.{Sections}
use Rattle.part_code.specs.image.specs.Frames.{Frame, Inner, Opened, Role, Serving, TaskState}
use Rattle.part_code.specs.ada_tree.specs.StatementTree.{NoHandlers, MoreHandlers}
use Rattle.part_code.specs.types.specs.Values.{Value}
use Rattle.step_soundness.specs.meaning.specs.Programs.{Procedure, Program}
use Rattle.step_soundness.specs.meaning.specs.Works.{Item, Declares, DeclaresParameter, Sequence, Does, DoesMain, Repeats, RepeatsWhile, RepeatsFor, Handles, EndsHandler, EndsCall, EndsServed, Completion, Completed, Pending, Activation, Target}
use Rattle.part_code.specs.expr_code.specs.Seeing.{Package}
use Rattle.part_code.specs.declared.call.Destination.{Destination}
use Rattle.part_code.specs.Statements.{Numbers}
use Rattle.step_simulation.specs.Standing.{Around, CallsOn, CompletesBy, CopiesBy, Follows, FollowsIn, IsAtCall, IsCatching, IsCopying, IsGoingOn, LeadsEnd, Note, Places, RaisesBy}
use Rattle.step_simulation.specs.Laws.{OfAllServed, OfServed}

pub all_served : (P Q : ℕ → Type 0) → ((u : ℕ) → P u → Q u) → (fs : List Frame) → OfAllServed P fs → OfAllServed Q fs
all_served P Q each [] h = tt
all_served P Q each (f ∷ fs) h = (one f.role h.0, all_served P Q each fs h.1)
  where
    one : (role : Role) → OfServed P role → OfServed Q role
    one Inner h = tt
    one (Opened o) h = tt
    one (Serving o u pending) h = each u h

module _ (i : Sections) (program : Program) (g : Package) (numbers : Numbers) where
  -- from the same places code goes on otherwise
  abbrev Turns : Places i program g numbers → Places i program g numbers → Type 0
  Turns one other = (a : Around i program g numbers) (n from : ℕ) → one a n from → other a n from

  copies_under : (one other : Places i program g numbers) → Turns one other → (vs : List Value) (xs : List Target) (items : List Item) (own : Activation)
      (s : TaskState)
      → CopiesBy i program g numbers one vs xs items own s → CopiesBy i program g numbers other vs xs items own s
  copies_under one other turns vs xs items own s h = record {
    around = h.around;
    destinations = h.destinations;
    to = h.to;
    placed = h.placed;
    many = h.many;
    up = h.up;
    copies = h.copies;
    from_inside = h.from_inside;
    to_inside = h.to_inside;
    follows = turns h.around s.frame.subprogram h.to h.follows;
    rests = h.rests;
    object = h.object;
    stack = h.stack;
    going = h.going;
    depth = h.depth;
    goes = h.goes;
    handles = h.handles;
  }

  raises_under : (one other : Places i program g numbers) → Turns one other → (x : ℕ) (items : List Item) (own : Activation) (f : Frame) (fs : List Frame)
      → RaisesBy i program g numbers one x items own f fs → RaisesBy i program g numbers other x items own f fs
  raises_under one other turns x items own f fs h = record {
    around = h.around;
    from = h.from;
    follows = turns h.around f.subprogram h.from h.follows;
    known = h.known;
    goes = h.goes;
    rests = h.rests;
    held = h.held;
    apart = h.apart;
    object = h.object;
    depth = h.depth;
  }

  completes_under : (one other : Places i program g numbers) → Turns one other → (done : Completion) (items : List Item) (own : Activation) (s : TaskState)
      → CompletesBy i program g numbers one done items own s → CompletesBy i program g numbers other done items own s
  completes_under one other turns done items own s (inr h) = inr h
  completes_under one other turns (Completed vs xs) items own s (inl h) = inl (copies_under one other turns vs xs items own s h)
  completes_under one other turns (Pending x) items own s (inl h) = inl (h.0, raises_under one other turns x items own s.frame s.callers h.1)

  calls_under : (one other : Places i program g numbers) → Turns one other → (outer : Around i program g numbers) (c : Frame) (o : Activation)
      (ds : List Destination) (to : ℕ) (names : List (List ℕ)) (xs : List Target)
      → CallsOn i program g numbers one outer c o ds to names xs → CallsOn i program g numbers other outer c o ds to names xs
  calls_under one other turns outer c o ds to names xs h = record {
    waits = h.waits;
    many = h.many;
    placed = h.placed;
    over = h.over;
    inside = h.inside;
    copies = h.copies;
    follows = turns outer c.subprogram to h.follows;
    goes = h.goes;
  }

  module _ (note next : Note) where
    abbrev pub Same : ℕ → Type 0
    Same u = next u ≡ note u

    pub follows_under : (items : List Item) (a : Around i program g numbers) (n from : ℕ) (role : Role) (fs : List Frame) (os : List Activation)
        → OfServed Same role → OfAllServed Same fs
        → Follows i program g numbers note a n from items role fs os → Follows i program g numbers next a n from items role fs os
    follows_under [] a n from role fs os own all h = h
    follows_under (Declares d ∷ items) a n from role fs os own all h =
        (h.0, h.1, h.2, h.3, h.4, h.5, h.6, follows_under items _ n h.1 role fs os own all h.7, h.8)
    follows_under (DeclaresParameter d ∷ items) a n from role fs os own all h =
        (h.0, h.1, h.2, h.3, h.4, h.5, h.6, follows_under items _ n h.1 role fs os own all h.7)
    follows_under (Sequence body hs ∷ items) a n from role fs os own all h =
        (h.0, h.1, h.2, h.3, h.4, follows_under items _ n h.1 role fs os own all h.5)
    follows_under (Does s ∷ items) a n from role fs os own all h = (h.0, h.1, h.2, h.3, h.4, follows_under items _ n h.1 role fs os own all h.5)
    follows_under (DoesMain s ∷ items) a n from role fs os own all h = (h.0, h.1, h.2, h.3, h.4, follows_under items _ n h.1 role fs os own all h.5, h.6)
    follows_under (Handles NoHandlers ∷ items) a n from role fs os own all h = follows_under items a n from role fs os own all h
    follows_under (Handles (MoreHandlers choices body rest) ∷ items) a n from role fs os own all h =
        (h.0, h.1, h.2, h.3, h.4, follows_under items h.2 n h.1 role fs os own all h.5)
    follows_under (EndsHandler x ∷ items) a n from role fs os own all h = (h.0, h.1, h.2, h.3, follows_under items h.2 n h.0 role fs os own all h.4)
    follows_under (Repeats body ∷ items) a n from role fs os own all h = (h.0, h.1, h.2, h.3, h.4, follows_under items h.2 n h.1 role fs os own all h.5)
    follows_under (RepeatsWhile e body ∷ items) a n from role fs os own all h =
        (h.0, h.1, h.2, h.3, h.4, follows_under items h.2 n h.1 role fs os own all h.5)
    follows_under (RepeatsFor parameter reversed now last body ∷ items) a n from role fs os own all h =
        (h.0, h.1, h.2, h.3, h.4, h.5, follows_under items h.2 n h.1 role fs os own all h.6, h.7, h.8)
    follows_under (EndsCall names opened xs ∷ items) a n from role fs os own all h =
        let below = subst (λ q. OfAllServed Same q) h.13 all in (
          h.0,
          h.1,
          h.2,
          h.3,
          h.4,
          h.5,
          h.6,
          h.7,
          h.8,
          h.9,
          h.10,
          h.11,
          h.12,
          h.13,
          h.14,
          ⊎_elim
              (λ b. inl (calls_under (FollowsIn i program g numbers note items h.1.role h.2 h.4) (FollowsIn i program g numbers next items h.1.role h.2 h.4)
              (λ b' m at z. follows_under items b' m at h.1.role h.2 h.4 below.0 below.1 z) h.5 h.1 h.3 h.6 h.7 names xs b))
              (λ l. inr l) h.15,
        )
    follows_under (EndsServed o names done ∷ items) a n from role fs os own all h =
        let below = subst (λ q. OfAllServed Same q) h.13 all in
        let same : next h.0 ≡ note h.0 = subst (λ q. OfServed Same q) h.7 own in (
          h.0,
          h.1,
          h.2,
          h.3,
          h.4,
          h.5,
          h.6,
          h.7,
          ap length same ∙ h.8,
          subst (λ q. LeadsEnd i program g numbers a n from a.visible names q) (sym same) h.9,
          h.10,
          h.11,
          subst (λ q. LeadsEnd i program g numbers a n h.1 a.ending names q) (sym same) h.12,
          h.13,
          h.14,
          completes_under (FollowsIn i program g numbers note items h.2.role h.3 h.6) (FollowsIn i program g numbers next items h.2.role h.3 h.6)
              (λ b m at z. follows_under items b m at h.2.role h.3 h.6 below.0 below.1 z) done items h.5
              (record { frame = h.2; callers = h.3; raising = h.4 }) h.15,
        )
    follows_under (i' ∷ items) a n from role fs os own all h = absurd h

    -- ---- states

    module _ (items : List Item) (own : Activation) (os : List Activation) (s : TaskState) (served : OfAllServed Same (s.frame ∷ s.callers)) where
      turns : Turns (FollowsIn i program g numbers note items s.frame.role s.callers os) (FollowsIn i program g numbers next items s.frame.role s.callers os)
      turns a n from h = follows_under items a n from s.frame.role s.callers os served.0 served.1 h

      pub going_under : IsGoingOn i program g numbers note items own os s → IsGoingOn i program g numbers next items own os s
      going_under h = record {
        around = h.around;
        follows = turns h.around s.frame.subprogram s.frame.place h.follows;
        rests = h.rests;
        object = h.object;
        stack = h.stack;
        going = h.going;
        depth = h.depth;
      }

      pub copying_under : (vs : List Value) (xs : List Target) → IsCopying i program g numbers note vs xs items own os s
          → IsCopying i program g numbers next vs xs items own os s
      copying_under vs xs h =
          copies_under (FollowsIn i program g numbers note items s.frame.role s.callers os) (FollowsIn i program g numbers next items s.frame.role s.callers os)
          turns vs xs items own s h

      pub throwing_under : (x : ℕ) → RaisesBy i program g numbers
          (FollowsIn i program g numbers note items s.frame.role s.callers os) x items own s.frame s.callers
          → RaisesBy i program g numbers (FollowsIn i program g numbers next items s.frame.role s.callers os) x items own s.frame s.callers
      throwing_under x h =
          raises_under (FollowsIn i program g numbers note items s.frame.role s.callers os) (FollowsIn i program g numbers next items s.frame.role s.callers os)
          turns x items own s.frame s.callers h

      pub call_under : (q : Procedure) (vs : List Value) (xs : List Target) (addresses : List ℕ) (passed : Bool)
          → IsAtCall i program g numbers note q vs xs addresses passed items own os s
          → IsAtCall i program g numbers next q vs xs addresses passed items own os s
      call_under q vs xs addresses passed h = record {
        around = h.around;
        destinations = h.destinations;
        to = h.to;
        shaped = h.shaped;
        typed = h.typed;
        addressed = h.addressed;
        placed = h.placed;
        many = h.many;
        over = h.over;
        copies = h.copies;
        here = h.here;
        next = h.next;
        to_inside = h.to_inside;
        follows = turns h.around s.frame.subprogram h.to h.follows;
        rests = h.rests;
        object = h.object;
        stack = h.stack;
        going = h.going;
        depth = h.depth;
        goes = h.goes;
        handles = h.handles;
      }

    pub catching_under : (items : List Item) (own : Activation) (os : List Activation) (s : TaskState) → OfAllServed Same (s.frame ∷ s.callers)
        → IsCatching i program g numbers note items own os s → IsCatching i program g numbers next items own os s
    catching_under items own os s served h = record {
      inside = h.inside;
      place = h.place;
      locals = h.locals;
      acts = h.acts;
      going = going_under items own os
          (record { frame = record s.frame { place = h.place; locals = h.locals; stack = [] }; callers = s.callers; raising = None }) served h.going;
    }
