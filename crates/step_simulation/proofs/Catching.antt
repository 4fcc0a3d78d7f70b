-- Where exceptions go on that a frame raises, told by the items that its code follows.
use Rattle.std.proofs.Common.{◌≡◌, ℕ, suc, ◌≤◌, ℤ, List, [], ◌∷◌, map, length, Option, Some, None, Bool, true, false, inl, inr, refl, sym, ap, ◌∙◌, subst, arith, ⊎_elim}
use Rattle.std.specs.Prelude.{if◌then◌else◌, pos, slice_get, ⊤}
use Rattle.std.proofs.lemmas.Option.{none-some, same_Some}
use Rattle.part_code.specs.image.specs.Sections.{Sections}
use Rattle.part_code.specs.image.specs.Frames.{Frame, Role}
use Rattle.part_code.specs.ada_tree.specs.declared.statement.ExceptionChoice.{ExceptionChoice}
use Rattle.part_code.specs.ada_tree.specs.StatementTree.{HandlerTrees, NoHandlers, MoreHandlers, StmtTrees}
use Rattle.step_soundness.specs.meaning.specs.Programs.{Program}
use Rattle.step_soundness.specs.meaning.specs.SourceSteps.{handled_exception, handler_for, some_covers}
use Rattle.step_soundness.specs.meaning.specs.Works.{Item, Declares, DeclaresParameter, Sequence, Does, DoesMain, Repeats, RepeatsWhile, RepeatsFor, Handles, EndsHandler, EndsCall, EndsServed, Activation, Target}
use Rattle.step_soundness.specs.Objects.{IsException}
use Rattle.part_code.specs.expr_code.specs.Seeing.{Package}
use Rattle.part_code.specs.Resting.{AreHeld, Framed, Rests, RestsWith, Shows, held_offset}
use Rattle.part_code.specs.Handling.{Handling, exception_in}
use Rattle.part_code.specs.Counting.{in_turn}
use Rattle.part_code.specs.Statements.{AreHandlers, Numbers, Ways}
use Rattle.part_code.specs.Jumping.{Here, There}
use Rattle.step_simulation.specs.Standing.{Around, CallsOn, Catches, CaughtIf, Follows, FollowsIn, Inside, IsCaught, LeadsOver, Note, RaisesBy, frames_in, in_handler, with_visible}
use Rattle.step_simulation.proofs.Going.{before_ends, before_follows, rest_of}

-- whether a handler has a choice for the exception: it goes to the handler, or on
by_choice : {P : Type 0} (b : Bool) (inner next : Option ℕ) (from : ℕ) (own : StmtTrees) (rest found : Option StmtTrees)
    → inner ≡ (if b then Some from else next) → (if b then Some own else rest) ≡ found
    → (inner ≡ Some from → Some own ≡ found → P)
    → (inner ≡ next → rest ≡ found → P)
    → P
by_choice true inner next from own rest found there is taken other = taken there is
by_choice false inner next from own rest found there is taken other = other there is

module _ (i : Sections) (program : Program) (g : Package) (numbers : Numbers) (note : Note) where
  abbrev Setting : Type 0
  Setting = Around i program g numbers

  abbrev seeing : Framed → Setting → Setting
  seeing v a = with_visible i program g numbers v a

  abbrev In : ℕ → ℕ → Type 0
  In n place = Inside i program g numbers n place

  abbrev Follow : Setting → (n from : ℕ) → List Item → Role → List Frame → List Activation → Type 0
  Follow a n from items role fs os = Follows i program g numbers note a n from items role fs os

  abbrev Caught : (x : ℕ) (f : Frame) (fs : List Frame) (own : Activation) (os : List Activation) → List Item → Type 0
  Caught x f fs own os items = Catches i program g numbers note x f fs own os items

  pub shown : (a b : Framed) (own : Activation) (locals : List ℤ) → Shows g a b → Rests g a own locals → Rests g b own locals
  shown a b own locals shows rests = record {
    small = rests.small;
    sees = λ p view shared one two three four. shows p view (rests.sees p view shared one two three four);
  }

  -- ---- the handler for an exception, among those of a sequence

  -- the exception goes to the handler with these statements, in front of others
  record IsTaking (v : Framed) (w : Ways) (r : Handling) (answer : Option ℕ) (from to : ℕ) (body : StmtTrees) : Type 0 where
    target : ℕ
    taken : answer ≡ Some target
    down : from ≤ target
    inner : Handling
    choices : List ExceptionChoice
    rest : HandlerTrees
    code : AreHandlers i program g numbers v w r inner target to (MoreHandlers choices body rest)

  -- the handler that stands first
  first : (v : Framed) (w : Ways) (r inner : Handling) (from to : ℕ) (choices : List ExceptionChoice) (own body : StmtTrees) (rest : HandlerTrees)
      (answer : Option ℕ)
      → answer ≡ Some from → AreHandlers i program g numbers v w r inner from to (MoreHandlers choices own rest) → own ≡ body
      → IsTaking v w r answer from to body
  first v w r inner from to choices own body rest answer there code same = record {
    target = from;
    taken = there;
    down = omega arith;
    inner = inner;
    choices = choices;
    rest = rest;
    code = subst (λ q. AreHandlers i program g numbers v w r inner from to (MoreHandlers choices q rest)) same code;
  }

  -- behind a handler for others
  further : (v : Framed) (w : Ways) (r : Handling) (answer other : Option ℕ) (from mid to : ℕ) (body : StmtTrees) → answer ≡ other → from ≤ mid
      → IsTaking v w r other (suc mid) to body → IsTaking v w r answer from to body
  further v w r answer other from mid to body there up h =
      let below = h.down in record {
        target = h.target;
        taken = there ∙ h.taken;
        down = omega (arith, below, up);
        inner = h.inner;
        choices = h.choices;
        rest = h.rest;
        code = h.code;
      }

  taking : (hs : HandlerTrees) (v : Framed) (w : Ways) (r inner : Handling) (from to x : ℕ) (body : StmtTrees)
      → AreHandlers i program g numbers v w r inner from to hs → IsException program x → handler_for program x hs ≡ Some body
      → IsTaking v w r (inner x) from to body
  taking NoHandlers v w r inner from to x body code known is = absurd (none-some body is)
  taking (MoreHandlers choices own rest) v w r inner from to x body code known is =
      let up = code.2.up in
      by_choice (some_covers program x choices) (inner x) (code.0 x) from own (handler_for program x rest) (Some body) (code.2.goes x known) is
      (λ there same. first v w r inner from to choices own body rest (inner x) there code (same_Some own body same))
      (λ there found. further v w r (inner x) (code.0 x) from code.1 to body there (omega (arith, up))
      (taking rest v w r code.0 (suc code.1) to x body code.3 known found))

  -- an exception without handler goes on as around the sequence
  passing : (hs : HandlerTrees) (v : Framed) (w : Ways) (r inner : Handling) (from to x : ℕ) → AreHandlers i program g numbers v w r inner from to hs
      → IsException program x → handler_for program x hs ≡ None → inner x ≡ r x
  passing NoHandlers v w r inner from to x code known is = code x known
  passing (MoreHandlers choices own rest) v w r inner from to x code known is =
      by_choice (some_covers program x choices) (inner x) (code.0 x) from own (handler_for program x rest) None (code.2.goes x known) is
      (λ there same. absurd cc)
      (λ there found. there ∙ passing rest v w r code.0 (suc code.1) to x code.3 known found)

  -- ---- what is known of a frame that raises

  abbrev pub IsRaising : (x : ℕ) (f : Frame) (fs : List Frame) (own : Activation) (os : List Activation) → List Item → Type 0
  IsRaising x f fs own os items = RaisesBy i program g numbers (FollowsIn i program g numbers note items f.role fs os) x items own f fs

  -- what begins behind is dropped: this leaves the same words alone
  drop_seeing : (x : ℕ) (f : Frame) (fs : List Frame) (own : Activation) (os : List Activation) (i' : Item) (items : List Item)
      → (h : IsRaising x f fs own os (i' ∷ items)) (v : Framed) (from : ℕ) → h.around.visible.reserved ≡ v.reserved → frames_in (i' ∷ items) ≡ frames_in items
      → Follow (seeing v h.around) f.subprogram from items f.role fs os
      → IsRaising x f fs own os items
  drop_seeing x f fs own os i' items h v from same ends follows = record {
    around = seeing v h.around;
    from = from;
    follows = follows;
    known = h.known;
    goes = h.goes;
    rests = h.rests;
    held = h.held;
    apart = h.apart ∙ same;
    object = h.object;
    depth = h.depth ∙ ends;
  }

  -- what is under way is dropped
  drop_outer : (x : ℕ) (f : Frame) (fs : List Frame) (own : Activation) (os : List Activation) (i' : Item) (items : List Item)
      → (h : IsRaising x f fs own os (i' ∷ items)) (outer : Setting) (from : ℕ)
      → h.around.raised x ≡ outer.raised x → Shows g h.around.handling outer.handling → (AreHeld f.locals h.around.held → AreHeld f.locals outer.held)
      → (map held_offset h.around.held ≡ h.around.visible.reserved → map held_offset outer.held ≡ outer.visible.reserved)
      → frames_in (i' ∷ items) ≡ frames_in items
      → Follow outer f.subprogram from items f.role fs os
      → IsRaising x f fs own os items
  drop_outer x f fs own os i' items h outer from same shows held apart ends follows = record {
    around = outer;
    from = from;
    follows = follows;
    known = h.known;
    goes = h.goes ∙ same;
    rests = shown h.around.handling outer.handling own f.locals shows h.rests;
    held = held h.held;
    apart = apart h.apart;
    object = h.object;
    depth = h.depth ∙ ends;
  }

  shows_as : (one other : Framed) → one ≡ other → Shows g one other
  shows_as one other e = subst (λ q. Shows g one q) e (λ p view h. h)

  -- ---- a handler takes the exception

  -- a frame that stands for the activation has the words of its own that it ought to have; those of all these activations
  abbrev pub HasRoom : Activation → Type 0
  HasRoom a = (v : Framed) (locals : List ℤ) → Rests g v a locals → v.room ≤ length locals

  abbrev pub HaveRoom : List Activation → Type 0
  HaveRoom [] = ⊤
  HaveRoom (a ∷ all) = HasRoom a × HaveRoom all

  caught : (x : ℕ) (f : Frame) (fs : List Frame) (own : Activation) (os : List Activation) → HasRoom own → (hs : HandlerTrees) (body : StmtTrees) (items : List Item)
      → (h : IsRaising x f fs own os (Handles hs ∷ items)) (at to : ℕ) (outer : Setting)
      → LeadsOver i program g numbers h.around f.subprogram h.from at to outer → Follow outer f.subprogram to items f.role fs os
      → IsTaking outer.visible outer.ways outer.raised (h.around.raised x) at to body → IsCaught i program g numbers note x f fs own os body items
  caught x f fs own os room hs body items h at to outer over follows t =
      let a = h.around in
      let code = t.code.2 in
      let mid = t.code.1 in
      let word = code.word in
      let later = code.later in
      let around = in_handler i program g numbers word x later outer in
      let held : a.held ≡ outer.held = ap (λ q. q.held) over.sequence in
      let resting : RestsWith g outer.visible outer.held own f.locals = record {
        rests = subst (λ q. Rests g q own f.locals) (ap (λ q. q.handling) over.sequence) h.rests;
        held = subst (λ q. AreHeld f.locals q) held h.held;
        apart = ap (λ q. map held_offset q) (sym held) ∙ h.apart ∙ over.narrows.reserved;
      } in
      let kept = code.keeps.keeps f outer.held own x (room outer.visible f.locals resting.rests) resting in
      let l = over.at_inside in
      let u = over.to_inside in
      let one = t.down in
      let two = code.up in
      let three = code.over in
      let start_in : In f.subprogram (suc t.target) = (omega (arith, l.0, one), omega (arith, u.1, two, three)) in
      let mid_in : In f.subprogram mid = (omega (arith, l.0, one, two), omega (arith, u.1, three)) in
      let shows = code.keeps.shows in
      record {
        target = t.target;
        taken = h.goes ∙ t.taken;
        catching = record {
          inside = (omega (arith, l.0, one), omega (arith, u.1, two, three));
          place = suc t.target;
          locals = kept.locals;
          acts = λ schedule k t' m. kept.acts schedule k t' m fs;
          going = record {
            around = around;
            follows = before_follows i program g numbers note body around later f.subprogram (suc t.target) mid
                (EndsHandler x ∷ items) f.role fs os code.statements two start_in
                mid_in (
                  (λ p view z. over.reaches.0 p view (shows p view z)),
                  (λ p view z. over.reaches.1 p view (shows p view z)),
                  (λ p view z. over.reaches.2 p view (shows p view z)),
                ) (
                  to,
                  word,
                  outer,
                  record {
                    jumps = There code.jump three Here;
                    handler = refl;
                    shows = shows;
                    reserved = code.keeps.reserved;
                    from_inside = mid_in;
                    to_inside = u;
                  },
                  follows,
                );
            rests = kept.rests;
            object = h.object;
            stack = refl;
            going = refl;
            depth = h.depth ∙ sym (before_ends i program g numbers body (EndsHandler x ∷ items));
          };
        };
      }

  -- ... or none, and then it goes on behind
  by_handler : (x : ℕ) (f : Frame) (fs : List Frame) (own : Activation) (os : List Activation) → HasRoom own → (hs : HandlerTrees) (items : List Item)
      → (h : IsRaising x f fs own os (Handles hs ∷ items)) (at to : ℕ) (outer : Setting)
      → LeadsOver i program g numbers h.around f.subprogram h.from at to outer → Follow outer f.subprogram to items f.role fs os
      → AreHandlers i program g numbers outer.visible outer.ways outer.raised h.around.raised at to hs
      → (o : Option StmtTrees) → handler_for program x hs ≡ o
      → (handler_for program x hs ≡ None → Caught x f fs own os items)
      → CaughtIf i program g numbers note x f fs own os items o (Caught x f fs own os items)
  by_handler x f fs own os room hs items h at to outer over follows code (Some body) found later =
      caught x f fs own os room hs body items h at to outer over follows
      (taking hs outer.visible outer.ways outer.raised h.around.raised at to x body code h.known found)
  by_handler x f fs own os room hs items h at to outer over follows code None found later = later found

  -- ---- all items

  -- The exception leaves a call, and goes on in the frame below.
  left : (x : ℕ) (f : Frame) (fs : List Frame) (own : Activation) (os : List Activation) (names : List (List ℕ)) (opened : Option ℕ) (xs : List Target)
      (items : List Item) (h : IsRaising x f fs own os (EndsCall names opened xs ∷ items))
      → (let r = h.follows in
      CallsOn i program g numbers (FollowsIn i program g numbers note items r.1.role r.2 r.4) r.5 r.1 r.3 r.6 r.7 names xs)
      → IsRaising x h.follows.1 h.follows.2 h.follows.3 h.follows.4 items
  left x f fs own os names opened xs items h b =
      let r = h.follows in
      let c = r.1 in
      let outer = r.5 in
      let waits = b.waits in
      let over = b.over in
      let l = ap length r.13 in
      let d = h.depth in record {
        around = outer;
        from = r.7;
        follows = b.follows;
        known = h.known;
        goes = b.goes c.place x (omega arith) (omega (arith, over));
        rests = shown outer.visible outer.handling r.3 c.locals waits.handles waits.rests.rests;
        held = waits.rests.held;
        apart = waits.rests.apart;
        object = waits.object;
        depth = omega (arith, d, l);
      }

  pub catches : (items : List Item) (x : ℕ) (f : Frame) (fs : List Frame) (own : Activation) (os : List Activation) → HaveRoom (own ∷ os)
      → IsRaising x f fs own os items → Caught x f fs own os items
  catches [] x f fs own os room h = (h.goes ∙ h.follows.0.outermost.raised x, h.follows.2)
  catches (Declares d ∷ items) x f fs own os room h =
      let r = h.follows in
      catches items x f fs own os room (drop_seeing x f fs own os (Declares d) items h r.3 r.1 (r.4.narrows.reserved ∙ sym r.5.reserved) refl r.7)
  catches (DeclaresParameter d ∷ items) x f fs own os room h =
      let r = h.follows in
      catches items x f fs own os room (drop_seeing x f fs own os (DeclaresParameter d) items h r.3 r.1 (r.4.narrows.reserved ∙ sym r.5.reserved) refl r.7)
  catches (Sequence body hs ∷ items) x f fs own os room h =
      let r = h.follows in
      catches items x f fs own os room (drop_seeing x f fs own os (Sequence body hs) items h r.2 r.1 r.3.narrows.reserved refl r.5)
  catches (Does s ∷ items) x f fs own os room h =
      let r = h.follows in
      catches items x f fs own os room (drop_seeing x f fs own os (Does s) items h r.2 r.1 r.3.narrows.reserved refl r.5)
  catches (DoesMain s ∷ items) x f fs own os room h =
      let r = h.follows in
      catches items x f fs own os room (drop_seeing x f fs own os (DoesMain s) items h r.2 r.1 r.3.narrows.reserved refl r.5)
  catches (Handles NoHandlers ∷ items) x f fs own os room h =
      catches items x f fs own os room (drop_seeing x f fs own os (Handles NoHandlers) items h h.around.visible h.from refl refl h.follows)
  catches (Handles (MoreHandlers choices own_body rest) ∷ items) x f fs own os room h =
      let hs = MoreHandlers choices own_body rest in
      let r = h.follows in
      let a = h.around in
      let outer = r.2 in
      let held : a.held ≡ outer.held = ap (λ q. q.held) r.3.sequence in
      by_handler x f fs own os room.0 hs items h r.0 r.1 outer r.3 r.5 r.4 (handler_for program x hs) refl
      (λ found. catches items x f fs own os room
      (drop_outer x f fs own os (Handles hs) items h outer r.1
      (passing hs outer.visible outer.ways outer.raised a.raised r.0 r.1 x r.4 h.known found)
      (subst (λ q. Shows g q outer.handling) (sym (ap (λ q. q.handling) r.3.sequence)) r.3.reaches.2)
      (λ z. subst (λ q. AreHeld f.locals q) held z)
      (λ z. ap (λ q. map held_offset q) (sym held) ∙ z ∙ r.3.narrows.reserved) refl r.5))
  catches (EndsHandler y ∷ items) x f fs own os room h =
      let r = h.follows in
      let a = h.around in
      let outer = r.2 in
      let held : a.held ≡ exception_in r.1 y ∷ outer.held = ap (λ q. q.held) r.3.handler in
      catches items x f fs own os room
      (drop_outer x f fs own os (EndsHandler y) items h outer r.0 (ap (λ q. q.raised x) r.3.handler)
      (shows_as a.handling outer.handling (ap (λ q. q.handling) r.3.handler))
      (λ z. (subst (λ q. AreHeld f.locals q) held z).1)
      (λ z. ap (λ l. rest_of l) (ap (λ q. map held_offset q) (sym held) ∙ z ∙ r.3.reserved)) refl r.4)
  catches (Repeats body ∷ items) x f fs own os room h =
      let r = h.follows in
      let a = h.around in
      let outer = r.2 in
      let held : a.held ≡ outer.held = ap (λ q. q.held) r.4.loop in
      catches items x f fs own os room
      (drop_outer x f fs own os (Repeats body) items h outer r.1 (ap (λ q. q.raised x) r.4.loop)
      (shows_as a.handling outer.handling (ap (λ q. q.handling) r.4.loop))
      (λ z. subst (λ q. AreHeld f.locals q) held z)
      (λ z. ap (λ q. map held_offset q) (sym held) ∙ z ∙ r.4.narrows.reserved) refl r.5)
  catches (RepeatsWhile e body ∷ items) x f fs own os room h =
      let r = h.follows in
      let a = h.around in
      let outer = r.2 in
      let held : a.held ≡ outer.held = ap (λ q. q.held) r.4.loop in
      catches items x f fs own os room
      (drop_outer x f fs own os (RepeatsWhile e body) items h outer r.1 (ap (λ q. q.raised x) r.4.loop)
      (shows_as a.handling outer.handling (ap (λ q. q.handling) r.4.loop))
      (λ z. subst (λ q. AreHeld f.locals q) held z)
      (λ z. ap (λ q. map held_offset q) (sym held) ∙ z ∙ r.4.narrows.reserved) refl r.5)
  catches (RepeatsFor parameter reversed now last body ∷ items) x f fs own os room h =
      let r = h.follows in
      let a = h.around in
      let outer = r.2 in
      let c = r.3 in
      let held : a.held ≡ in_turn c.counter c.limit now last outer.held = ap (λ q. q.held) r.4.loop in
      catches items x f fs own os room
      (drop_outer x f fs own os (RepeatsFor parameter reversed now last body) items h outer r.1 (ap (λ q. q.raised x) r.4.loop)
      (shows_as a.handling outer.handling (ap (λ q. q.handling) r.4.loop))
      (λ z. (subst (λ q. AreHeld f.locals q) held z).1.1)
      (λ z. ap (λ l. rest_of (rest_of l)) (ap (λ q. map held_offset q) (sym held) ∙ z ∙ r.4.narrows.reserved ∙ c.reserved)) refl r.6)
  catches (EndsCall names None xs ∷ items) x f fs own os room h =
      let r = h.follows in (
        r.1,
        r.2,
        r.3,
        r.4,
        r.8,
        h.goes ∙ r.9.outermost.raised x,
        r.13,
        r.14,
        ⊎_elim (λ b. catches items x r.1 r.2 r.3 r.4 (subst HaveRoom r.14 room.1) (left x f fs own os names None xs items h b))
            (λ l. absurd (none-some l.opens.0 l.opens.1)) r.15,
      )
  catches (EndsCall names (Some object) xs ∷ items) x f fs own os room h =
      let r = h.follows in (
        r.1,
        r.2,
        r.3,
        r.4,
        r.8,
        h.goes ∙ r.9.outermost.raised x,
        r.13,
        r.14,
        ⊎_elim (λ b. inl (refl, left x f fs own os names (Some object) xs items h b))
            (λ l. inr (record { lowest = l.lowest; callers = l.callers; last = l.last; bare = tt })) r.15,
      )
  catches (EndsServed object names done ∷ items) x f fs own os room h =
      let r = h.follows in (r.0, r.2, r.3, r.4, r.5, r.6, r.7, h.goes ∙ r.9.outermost.raised x, r.13, r.14, r.15)
  catches (i' ∷ items) x f fs own os room h = absurd h.follows

  -- ---- the exception that a handler holds

  pub handling_here : (items : List Item) (a : Setting) (n from word : ℕ) (locals : List ℤ) (role : Role) (fs : List Frame) (os : List Activation)
      → Follow a n from items role fs os
      → a.ways.handled ≡ Some word → AreHeld locals a.held
      → (x : ℕ) × (handled_exception items ≡ Some x) × (slice_get locals word ≡ Some (pos x))
  handling_here [] a n from word locals role fs os follows is held = let none = follows.0.outermost.handled in absurd cc
  handling_here (Declares d ∷ items) a n from word locals role fs os follows is held =
      handling_here items (seeing follows.3 a) n follows.1 word locals role fs os follows.7 is held
  handling_here (DeclaresParameter d ∷ items) a n from word locals role fs os follows is held =
      handling_here items (seeing follows.3 a) n follows.1 word locals role fs os follows.7 is held
  handling_here (Sequence body hs ∷ items) a n from word locals role fs os follows is held =
      handling_here items (seeing follows.2 a) n follows.1 word locals role fs os follows.5 is held
  handling_here (Does s ∷ items) a n from word locals role fs os follows is held =
      handling_here items (seeing follows.2 a) n follows.1 word locals role fs os follows.5 is held
  handling_here (DoesMain s ∷ items) a n from word locals role fs os follows is held =
      handling_here items (seeing follows.2 a) n follows.1 word locals role fs os follows.5 is held
  handling_here (Handles NoHandlers ∷ items) a n from word locals role fs os follows is held =
      handling_here items a n from word locals role fs os follows is held
  handling_here (Handles (MoreHandlers choices body rest) ∷ items) a n from word locals role fs os follows is held =
      handling_here items follows.2 n follows.1 word locals role fs os follows.5 (sym (ap (λ q. q.ways.handled) follows.3.sequence) ∙ is)
      (subst (λ q. AreHeld locals q) (ap (λ q. q.held) follows.3.sequence) held)
  handling_here (EndsHandler x ∷ items) a n from word locals role fs os follows is held =
      let e : Some follows.1 ≡ Some word = sym (ap (λ q. q.ways.handled) follows.3.handler) ∙ is in
      let there = subst (λ q. AreHeld locals q) (ap (λ q. q.held) follows.3.handler) held in
      (x, refl, subst (λ q. slice_get locals q ≡ Some (pos x)) (same_Some follows.1 word e) there.0)
  handling_here (Repeats body ∷ items) a n from word locals role fs os follows is held =
      handling_here items follows.2 n follows.1 word locals role fs os follows.5 (sym (ap (λ q. q.ways.handled) follows.4.loop) ∙ is)
      (subst (λ q. AreHeld locals q) (ap (λ q. q.held) follows.4.loop) held)
  handling_here (RepeatsWhile e body ∷ items) a n from word locals role fs os follows is held =
      handling_here items follows.2 n follows.1 word locals role fs os follows.5 (sym (ap (λ q. q.ways.handled) follows.4.loop) ∙ is)
      (subst (λ q. AreHeld locals q) (ap (λ q. q.held) follows.4.loop) held)
  handling_here (RepeatsFor parameter reversed now last body ∷ items) a n from word locals role fs os follows is held =
      handling_here items follows.2 n follows.1 word locals role fs os follows.6 (sym (ap (λ q. q.ways.handled) follows.4.loop) ∙ is)
      (subst (λ q. AreHeld locals q) (ap (λ q. q.held) follows.4.loop) held).1.1
  handling_here (EndsCall names opened xs ∷ items) a n from word locals role fs os follows is held = let none = follows.9.outermost.handled in absurd cc
  handling_here (EndsServed o names done ∷ items) a n from word locals role fs os follows is held = let none = follows.9.outermost.handled in absurd cc
  handling_here (i' ∷ items) a n from word locals role fs os follows is held = absurd follows
