-- Sequences of statements and blocks, with the handlers that cover them: they begin and end without code, or with a jump over the handlers.
use Rattle.std.proofs.Common.{◌≡◌, ℕ, suc, ◌<◌, ◌≤◌, List, ◌∷◌, map, refl, sym, ap, ◌∙◌, subst, arith}
use Rattle.std.specs.Prelude.{◌++◌}
use Rattle.part_code.specs.image.specs.Frames.{Frame, TaskState, Role}
use Rattle.part_code.specs.ada_tree.specs.StatementTree.{DeclarationTree, Block, StmtTrees, HandlerTrees, NoHandlers, MoreHandlers}
use Rattle.step_soundness.specs.meaning.specs.SourceSteps as source
use Rattle.step_soundness.specs.meaning.specs.SourceSteps.{work_step}
use Rattle.step_soundness.specs.meaning.specs.Works.{Item, Declares, Sequence, Does, Handles, EndsHandler, Goes, Activation}
use Rattle.part_code.specs.Resting.{Framed, NarrowsFrame, RestsWith}
use Rattle.part_code.specs.Statements.{IsSequence}
use Rattle.part_code.specs.Jumping.{Here, There}
use Rattle.step_simulation.specs.Standing.{ReachesWays, in_sequence, items_size, work_size}
use Rattle.step_simulation.proofs.Going.{before_ends, before_follows, declares_end, declares_follow, drops_handler, earlier, jumps_up, narrows_same, shows_then}
use Rattle.step_simulation.proofs.Scenes.{Scene}
use Rattle.step_simulation.proofs.Scenes as scene
use Rattle.step_simulation.proofs.Sizes.{before_size, declares_size}

module _ (this : Scene) where
  open this use {i, program, g, numbers, w}

  abbrev now : source.Here
  now = scene.now this

  abbrev Meet : TaskState → Type 0
  Meet s = scene.Meet this s

  abbrev Setting : Type 0
  Setting = scene.Setting this

  abbrev seeing : Framed → Setting → Setting
  seeing v a = scene.seeing this v a

  abbrev In : ℕ → ℕ → Type 0
  In n place = scene.In this n place

  abbrev Follow : Setting → (n from : ℕ) → List Item → Role → List Frame → List Activation → Type 0
  Follow a n from items role above waiting = scene.Follow this a n from items role above waiting

  module _ (s : TaskState) where
    abbrev f : Frame
    f = s.frame

    abbrev fs : List Frame
    fs = s.callers

    abbrev IsAtItems : List Item → Type 0
    IsAtItems items = scene.IsAtItems this s items

    -- the handlers of a sequence are left, and the end of a handler is passed
    pub met_handles : (hs : HandlerTrees) (items : List Item) → w.work ≡ Goes (Handles hs ∷ items) → (h : IsAtItems (Handles hs ∷ items)) → Meet s
    met_handles hs items is h =
        scene.met_items this s (source.goes now items) items (ap (λ q. work_step now q) is) (subst (λ q. suc (items_size items) < work_size q) (sym is)
        (omega arith))
        h.stack h.going (behind hs h.follows).0 (behind hs h.follows).1 (behind hs h.follows).2 h.object h.depth
      where
        behind : (hs : HandlerTrees) → Follow h.around f.subprogram f.place (Handles hs ∷ items) f.role fs w.callers
            → (a : Setting) × Follow a f.subprogram f.place items f.role fs w.callers × RestsWith g a.visible a.held w.own f.locals
        behind NoHandlers r = (h.around, r, h.rests)
        behind (MoreHandlers choices body rest) r = (
          seeing h.around.visible r.2,
          earlier i program g numbers this.note items r.2 h.around.visible f.subprogram f.place r.1 f.role fs w.callers r.3.jumps r.3.narrows
              r.3.from_inside r.5,
          subst (λ q. RestsWith g h.around.visible q w.own f.locals) (ap (λ q. q.held) r.3.sequence) h.rests,
        )

    pub met_ends_handler : (x : ℕ) (items : List Item) → w.work ≡ Goes (EndsHandler x ∷ items) → (h : IsAtItems (EndsHandler x ∷ items)) → Meet s
    met_ends_handler x items is h =
        let r = h.follows in
        let outer = r.2 in
        let last = r.3 in
        let drops = drops_handler i program g numbers h.around f.subprogram f.place r.0 r.1 x outer last in
        scene.met_items this s (source.goes now items) items (ap (λ q. work_step now q) is) (subst (λ q. suc (items_size items) < work_size q) (sym is)
        (omega arith))
        h.stack h.going (seeing outer.visible outer)
        (earlier i program g numbers this.note items outer outer.visible f.subprogram f.place r.0 f.role fs w.callers last.jumps
        (narrows_same g outer.visible) last.from_inside r.4)
        (record {
          rests = scene.shown this s h.around.visible outer.visible w.own f.locals last.shows h.rests.rests;
          held = drops.held f.locals h.rests.held;
          apart = drops.apart h.rests.apart;
        })
        h.object h.depth

    -- a sequence begins
    begins : (body : StmtTrees) (hs : HandlerTrees) (items : List Item) (a : Setting) (now' : Framed) (at to : ℕ)
        → IsSequence i program g numbers now' a.ways a.raised at to body hs → at ≤ to → In f.subprogram at → In f.subprogram to
        → ReachesWays i program g numbers a now' → Follow (seeing now' a) f.subprogram to items f.role fs w.callers
        → (b : Setting) × (b.visible ≡ now') × (b.held ≡ a.held) × Follow b f.subprogram at (source.before body (Handles hs ∷ items)) f.role fs w.callers
    begins body NoHandlers items a now' at to code le x y reach rest = (
      seeing now' a,
      refl,
      refl,
      before_follows i program g numbers this.note body a now' f.subprogram at to (Handles NoHandlers ∷ items) f.role fs w.callers code le x y reach rest,
    )
    begins body (MoreHandlers choices own others) items a now' at to code le x y reach rest =
        let mid = code.0 in
        let inner = code.1 in
        let one = code.2 in
        let two = code.3 in
        let b = in_sequence i program g numbers inner now' (seeing now' a) in
        let mid_in : In f.subprogram mid = (omega (arith, x.0, one), omega (arith, y.1, two)) in (
          b,
          refl,
          refl,
          before_follows i program g numbers this.note body b now' f.subprogram at mid (Handles
              (MoreHandlers choices own others) ∷ items) f.role fs w.callers code.4 one x mid_in
              (reach.0, reach.1, (narrows_same g now').shows) (
                suc mid,
                to,
                seeing now' a,
                record {
                  jumps = There code.5 two Here;
                  sequence = refl;
                  narrows = narrows_same g now';
                  reaches = reach;
                  from_inside = mid_in;
                  at_inside = (omega (arith, x.0, one), omega (arith, y.1, two));
                  to_inside = y;
                },
                code.6,
                rest,
              ),
        )

    pub met_sequence : (body : StmtTrees) (hs : HandlerTrees) (items : List Item) → w.work ≡ Goes (Sequence body hs ∷ items)
        → (h : IsAtItems (Sequence body hs ∷ items)) → Meet s
    met_sequence body hs items is h =
        let r = h.follows in
        let leads = r.3 in
        let all = source.before body (Handles hs ∷ items) in
        let e = before_size body (Handles hs ∷ items) in
        let x = leads.from_inside in
        let y = leads.to_inside in
        let up = jumps_up i program g numbers f.place r.0 leads.jumps in
        let le = leads.up in
        let inner = begins body hs items h.around r.2 r.0 r.1 r.4 le (omega (arith, x.0, up), omega (arith, y.1, le)) y leads.reaches r.5 in
        let b = inner.0 in
        scene.met_items this s (source.goes now all) all (ap (λ q. work_step now q) is)
        (subst (λ q. suc (items_size all) < work_size q) (sym is) (omega (arith, e))) h.stack h.going
        (seeing h.around.visible b)
        (earlier i program g numbers this.note all b h.around.visible f.subprogram f.place r.0 f.role fs w.callers leads.jumps
        (subst (λ q. NarrowsFrame g h.around.visible q) (sym inner.1) leads.narrows) x inner.3)
        (subst (λ q. RestsWith g h.around.visible q w.own f.locals) (sym inner.2) h.rests) h.object
        (h.depth ∙ sym (before_ends i program g numbers body (Handles hs ∷ items)))

    pub met_block : (place : ℕ) (ds : List DeclarationTree) (body : StmtTrees) (hs : HandlerTrees) (items : List Item)
        → w.work ≡ Goes (Does (Block place ds body hs) ∷ items)
        → (h : IsAtItems (Does (Block place ds body hs) ∷ items)) → Meet s
    met_block place ds body hs items is h =
        let r = h.follows in
        let leads = r.3 in
        let code = r.4 in
        let all = Sequence body hs ∷ items in
        let e = declares_size ds all in
        let x = leads.from_inside in
        let y = leads.to_inside in
        let up = jumps_up i program g numbers f.place r.0 leads.jumps in
        let one = code.2 in
        let two = code.3 in
        let at_in : In f.subprogram r.0 = (omega (arith, x.0, up), omega (arith, y.1, one, two)) in
        let mid_in : In f.subprogram code.0 = (omega (arith, x.0, up, one), omega (arith, y.1, two)) in
        scene.met_items this s (source.goes now (map Declares ds ++ all)) (map Declares ds ++ all) (ap (λ q. work_step now q) is)
        (subst (λ q. suc (items_size (map Declares ds ++ all)) < work_size q) (sym is) (omega (arith, e))) h.stack h.going
        (seeing h.around.visible h.around)
        (scene.reached this s h.around f.place r.0 r.1 r.2 (map Declares ds ++ all) leads
        (declares_follow i program g numbers this.note ds h.around r.2 code.1 f.subprogram r.0 code.0 all f.role fs w.callers code.4 code.6
        one at_in mid_in leads.reaches
        (λ nar. (
          code.0,
          r.1,
          code.1,
          (record {
            jumps = Here;
            narrows = narrows_same g code.1;
            reaches = (
              shows_then g code.1 r.2 h.around.behind nar leads.reaches.0,
              shows_then g code.1 r.2 h.around.ending nar leads.reaches.1,
              shows_then g code.1 r.2 h.around.handling nar leads.reaches.2,
            );
            from_inside = mid_in;
            up = two;
            to_inside = y;
          }),
          code.5,
          earlier i program g numbers this.note items (seeing r.2 h.around) code.1 f.subprogram r.1 r.1 f.role fs w.callers Here nar y r.5,
        ))))
        h.rests h.object (h.depth ∙ sym (declares_end i program g numbers ds all))
