-- Where code goes on.
use Rattle.std.proofs.Common.{◌≡◌, ℕ, ℤ, ◌+◌, ◌≤◌, List, [], ◌∷◌, map, ◌++◌, Bool, Some, refl, sym, ap, ◌∙◌, subst, arith}
use Rattle.part_code.specs.image.specs.Sections.{Sections}
use Rattle.part_code.specs.image.specs.Frames.{Frame, Role}
use Rattle.part_code.specs.ada_tree.specs.StatementTree.{DeclarationTree, StmtTrees, NoStmts, MoreStmts, NoHandlers, MoreHandlers}
use Rattle.step_soundness.specs.meaning.specs.Programs.{Parameter, Program}
use Rattle.step_soundness.specs.meaning.specs.Works.{Item, Declares, DeclaresParameter, Sequence, Does, DoesMain, Repeats, RepeatsWhile, RepeatsFor, Handles, EndsHandler, EndsCall, EndsServed, Activation}
use Rattle.step_soundness.specs.meaning.specs.SourceSteps.{before, behind_loop, end_of_body}
use Rattle.part_code.specs.expr_code.specs.Seeing.{Package}
use Rattle.part_code.specs.Resting.{AreHeld, Framed, NarrowsFrame, Shows, held_offset}
use Rattle.part_code.specs.Handling.{GoesBy, exception_in}
use Rattle.part_code.specs.Copying.{addresses_of}
use Rattle.part_code.specs.Counting.{IsCounted, in_turn}
use Rattle.part_code.specs.Statements.{AreDeclared, AreParametersDeclared, AreStatements, Numbers}
use Rattle.part_code.specs.Jumping.{Here, Jumps, There}
use Rattle.step_simulation.specs.Standing.{Around, Follows, Inside, IsOutermost, LeadsByWays, LeadsBack, LeadsBehind, LeadsEnd, LeadsInto, LeadsNext, LeadsOut, LeadsOver, Note, ReachesWays, frames_in, with_visible}
use Rattle.part_code.proofs.Handling.{goes_within}
use Rattle.part_code.proofs.Jumping.{jumps_both}

pub narrows_same : (g : Package) (v : Framed) → NarrowsFrame g v v
narrows_same g v = record { shows = λ p view h. h; reserved = refl }

pub shows_then : (g : Package) (a b c : Framed) → NarrowsFrame g a b → Shows g b c → Shows g a c
shows_then g a b c x y p view h = y p view (x.shows p view h)

pub narrows_both : (g : Package) (a b c : Framed) → NarrowsFrame g a b → NarrowsFrame g b c → NarrowsFrame g a c
narrows_both g a b c x y = record { shows = shows_then g a b c x y.shows; reserved = x.reserved ∙ y.reserved }

abbrev pub rest_of : {A : Type 0} → List A → List A
rest_of [] = []
rest_of (x ∷ xs) = xs

module _ (i : Sections) (program : Program) (g : Package) (numbers : Numbers) where
  abbrev Setting : Type 0
  Setting = Around i program g numbers

  abbrev seeing : Framed → Setting → Setting
  seeing v a = with_visible i program g numbers v a

  abbrev In : ℕ → ℕ → Type 0
  In n place = Inside i program g numbers n place

  abbrev Jump : ℕ → ℕ → Type 0
  Jump a b = Jumps i a b

  pub jumps_up : (a b : ℕ) → Jump a b → a ≤ b
  jumps_up a b Here = omega arith
  jumps_up a b (There {b = c} here le rest) = let h = jumps_up c b rest in omega (arith, le, h)

  -- from an earlier place, with more visible

  earlier_leads : (a : Setting) (more : Framed) (n x y at to : ℕ) (now : Framed) → Jump x y → NarrowsFrame g more a.visible → In n x
      → LeadsByWays i program g numbers a n y at to now → LeadsByWays i program g numbers (seeing more a) n x at to now
  earlier_leads a more n x y at to now j nar ins h = record {
    jumps = jumps_both i j h.jumps;
    narrows = narrows_both g more a.visible now nar h.narrows;
    reaches = h.reaches;
    from_inside = ins;
    up = h.up;
    to_inside = h.to_inside;
  }

  earlier_into : (v more : Framed) (n x y at to : ℕ) (now : Framed) → Jump x y → NarrowsFrame g more v → In n x
      → LeadsInto i program g numbers v n y at to now → LeadsInto i program g numbers more n x at to now
  earlier_into v more n x y at to now j nar ins h = record {
    jumps = jumps_both i j h.jumps;
    narrows = narrows_both g more v now nar h.narrows;
    from_inside = ins;
    up = h.up;
    to_inside = h.to_inside;
  }

  pub into : (a : Setting) (n from at to : ℕ) (now : Framed) → LeadsByWays i program g numbers a n from at to now
      → LeadsInto i program g numbers a.visible n from at to now
  into a n from at to now h = record { jumps = h.jumps; narrows = h.narrows; from_inside = h.from_inside; up = h.up; to_inside = h.to_inside }

  pub outermost_seeing : (a : Setting) (more : Framed) → IsOutermost i program g numbers a → IsOutermost i program g numbers (seeing more a)
  outermost_seeing a more h = record { exit = h.exit; handled = h.handled; raised = h.raised }

  earlier_out : (a : Setting) (more : Framed) (n x y : ℕ) → Jump x y → In n x → LeadsOut i program g numbers a n y
      → LeadsOut i program g numbers (seeing more a) n x
  earlier_out a more n x y j ins h = record {
    at = h.at;
    jumps = jumps_both i j h.jumps;
    return = h.return;
    results = h.results;
    outermost = outermost_seeing a more h.outermost;
    from_inside = ins;
    to_inside = h.to_inside;
  }

  same_out : (a : Setting) (more : Framed) (n from : ℕ) → LeadsOut i program g numbers a n from → LeadsOut i program g numbers (seeing more a) n from
  same_out a more n from h = earlier_out a more n from from Here h.from_inside h

  abbrev LeadEnd : Setting → (n from : ℕ) → Framed → List (List ℕ) → List ℕ → Type 0
  LeadEnd a n from now names addresses = LeadsEnd i program g numbers a n from now names addresses

  earlier_end : (a : Setting) (more now : Framed) (n x y : ℕ) (names : List (List ℕ)) (addresses : List ℕ) → Jump x y → NarrowsFrame g now a.visible → In n x
      → LeadEnd a n y a.visible names addresses → LeadEnd (seeing more a) n x now names addresses
  earlier_end a more now n x y names addresses j nar ins h = record {
    at = h.at;
    last = h.last;
    jumps = jumps_both i j h.jumps;
    narrows = narrows_both g now a.visible h.last nar h.narrows;
    gives = h.gives;
    held = h.held;
    outermost = outermost_seeing a more h.outermost;
    from_inside = ins;
    to_inside = h.to_inside;
  }

  pub same_end : (a : Setting) (more now : Framed) (n x : ℕ) (names : List (List ℕ)) (addresses : List ℕ) → LeadEnd a n x now names addresses
      → LeadEnd (seeing more a) n x now names addresses
  same_end a more now n x names addresses h = record {
    at = h.at;
    last = h.last;
    jumps = h.jumps;
    narrows = h.narrows;
    gives = h.gives;
    held = h.held;
    outermost = outermost_seeing a more h.outermost;
    from_inside = h.from_inside;
    to_inside = h.to_inside;
  }

  earlier_back : (a : Setting) (more : Framed) (n x y head start out to : ℕ) (outer : Setting) → Jump x y → NarrowsFrame g more a.visible
      → In n x → LeadsBack i program g numbers a n y head start out to outer → LeadsBack i program g numbers (seeing more a) n x head start out to outer
  earlier_back a more n x y head start out to outer j nar ins h = record {
    back = h.back;
    jumps = jumps_both i j h.jumps;
    jump = h.jump;
    end = h.end;
    up = h.up;
    loop = ap (λ q. seeing more q) h.loop;
    narrows = narrows_both g more a.visible outer.visible nar h.narrows;
    reaches = h.reaches;
    handles = h.handles;
    from_inside = ins;
    head_inside = h.head_inside;
    to_inside = h.to_inside;
  }

  earlier_over : (a : Setting) (more : Framed) (n x y at to : ℕ) (outer : Setting) → Jump x y → NarrowsFrame g more a.visible → In n x
      → LeadsOver i program g numbers a n y at to outer → LeadsOver i program g numbers (seeing more a) n x at to outer
  earlier_over a more n x y at to outer j nar ins h = record {
    jumps = jumps_both i j h.jumps;
    sequence = ap (λ q. seeing more q) h.sequence;
    narrows = narrows_both g more a.visible outer.visible nar h.narrows;
    reaches = h.reaches;
    from_inside = ins;
    at_inside = h.at_inside;
    to_inside = h.to_inside;
  }

  earlier_behind : (a : Setting) (more : Framed) (n x y to word exception : ℕ) (outer : Setting) → Jump x y → NarrowsFrame g more a.visible → In n x
      → LeadsBehind i program g numbers a n y to word exception outer → LeadsBehind i program g numbers (seeing more a) n x to word exception outer
  earlier_behind a more n x y to word exception outer j nar ins h = record {
    jumps = jumps_both i j h.jumps;
    handler = ap (λ q. seeing more q) h.handler;
    shows = shows_then g more a.visible outer.visible nar h.shows;
    reserved = nar.reserved ∙ h.reserved;
    from_inside = ins;
    to_inside = h.to_inside;
  }

  pub before_ends : (stmts : StmtTrees) (items : List Item) → frames_in (before stmts items) ≡ frames_in items
  before_ends NoStmts items = refl
  before_ends (MoreStmts s rest) items = before_ends rest items

  pub parameters_end : (ps : List Parameter) (items : List Item) → frames_in (map DeclaresParameter ps ++ items) ≡ frames_in items
  parameters_end [] items = refl
  parameters_end (f ∷ ps) items = parameters_end ps items

  pub declares_end : (ds : List DeclarationTree) (items : List Item) → frames_in (map Declares ds ++ items) ≡ frames_in items
  declares_end [] items = refl
  declares_end (d ∷ ds) items = declares_end ds items

  -- what is held at the one point is held at the other, where all that is held is reserved
  pub record Drops (a b : Setting) : Type 0 where
    pub held : (locals : List ℤ) → AreHeld locals a.held → AreHeld locals b.held
    pub apart : map held_offset a.held ≡ a.visible.reserved → map held_offset b.held ≡ b.visible.reserved

  drops_seeing : (a : Setting) (v : Framed) (b : Setting) → a.visible.reserved ≡ v.reserved → Drops (seeing v a) b → Drops a b
  drops_seeing a v b e d = record { held = d.held; apart = λ h. d.apart (h ∙ e) }

  drops_loop : (a : Setting) (n from head start out to : ℕ) (outer : Setting) → LeadsBack i program g numbers a n from head start out to outer
      → Drops a outer
  drops_loop a n from head start out to outer back =
      let same : a.held ≡ outer.held = ap (λ q. q.held) back.loop in record {
        held = λ locals h. subst (λ q. AreHeld locals q) same h;
        apart = λ h. ap (λ q. map held_offset q) (sym same) ∙ h ∙ back.narrows.reserved;
      }

  drops_turn : (a : Setting) (n from head to : ℕ) (parameter : List ℕ) (reversed : Bool) (now last : ℤ) (outer : Setting)
      (c : IsCounted i g outer.visible head to parameter reversed)
      → LeadsNext i program g numbers a n from head to c.back c.counter c.limit now last c.inner outer → Drops a outer
  drops_turn a n from head to parameter reversed now last outer c next =
      let same : a.held ≡ in_turn c.counter c.limit now last outer.held = ap (λ q. q.held) next.loop in record {
        held = λ locals h. (subst (λ q. AreHeld locals q) same h).1.1;
        apart = λ h. ap (λ l. rest_of (rest_of l)) (ap (λ q. map held_offset q) (sym same) ∙ h ∙ next.narrows.reserved ∙ c.reserved);
      }

  drops_sequence : (a : Setting) (n from at to : ℕ) (outer : Setting) → LeadsOver i program g numbers a n from at to outer → Drops a outer
  drops_sequence a n from at to outer over =
      let same : a.held ≡ outer.held = ap (λ q. q.held) over.sequence in record {
        held = λ locals h. subst (λ q. AreHeld locals q) same h;
        apart = λ h. ap (λ q. map held_offset q) (sym same) ∙ h ∙ over.narrows.reserved;
      }

  pub drops_handler : (a : Setting) (n from to word exception : ℕ) (outer : Setting) → LeadsBehind i program g numbers a n from to word exception outer
      → Drops a outer
  drops_handler a n from to word exception outer behind =
      let same : a.held ≡ exception_in word exception ∷ outer.held = ap (λ q. q.held) behind.handler in record {
        held = λ locals h. (subst (λ q. AreHeld locals q) same h).1;
        apart = λ h. ap (λ l. rest_of l) (ap (λ q. map held_offset q) (sym same) ∙ h ∙ behind.reserved);
      }

  drops_then : (a b c : Setting) → Drops a b → Drops b c → Drops a c
  drops_then a b c x y = record { held = λ locals h. y.held locals (x.held locals h); apart = λ h. y.apart (x.apart h) }

  -- ---- under a note

  module _ (note : Note) where
    abbrev Follow : Setting → (n from : ℕ) → List Item → Role → List Frame → List Activation → Type 0
    Follow a n from items role fs os = Follows i program g numbers note a n from items role fs os

    pub earlier : (items : List Item) (a : Setting) (more : Framed) (n x y : ℕ) (role : Role) (fs : List Frame) (os : List Activation)
        → Jump x y → NarrowsFrame g more a.visible → In n x → Follow a n y items role fs os → Follow (seeing more a) n x items role fs os
    earlier [] a more n x y role fs os j nar ins h = (
      earlier_out a more n x y j ins h.0,
      (λ ret is. let r = h.1 ret is in (nar.reserved ∙ r.0, same_out a more n ret r.1)),
      h.2,
    )
    earlier (Declares d ∷ items) a more n x y role fs os j nar ins h =
        (h.0, h.1, h.2, h.3, earlier_leads a more n x y h.0 h.1 h.2 j nar ins h.4, h.5, h.6, h.7, h.8)
    earlier (DeclaresParameter d ∷ items) a more n x y role fs os j nar ins h =
        (h.0, h.1, h.2, h.3, earlier_into a.visible more n x y h.0 h.1 h.2 j nar ins h.4, h.5, h.6, h.7)
    earlier (Sequence body hs ∷ items) a more n x y role fs os j nar ins h = (h.0, h.1, h.2, earlier_leads a more n x y h.0 h.1 h.2 j nar ins h.3, h.4, h.5)
    earlier (Does s ∷ items) a more n x y role fs os j nar ins h = (h.0, h.1, h.2, earlier_leads a more n x y h.0 h.1 h.2 j nar ins h.3, h.4, h.5)
    earlier (DoesMain s ∷ items) a more n x y role fs os j nar ins h = (h.0, h.1, h.2, earlier_leads a more n x y h.0 h.1 h.2 j nar ins h.3, h.4, h.5, h.6)
    earlier (Handles NoHandlers ∷ items) a more n x y role fs os j nar ins h = earlier items a more n x y role fs os j nar ins h
    earlier (Handles (MoreHandlers choices body rest) ∷ items) a more n x y role fs os j nar ins h =
        (h.0, h.1, h.2, earlier_over a more n x y h.0 h.1 h.2 j nar ins h.3, h.4, h.5)
    earlier (EndsHandler z ∷ items) a more n x y role fs os j nar ins h = (h.0, h.1, h.2, earlier_behind a more n x y h.0 h.1 z h.2 j nar ins h.3, h.4)
    earlier (Repeats body ∷ items) a more n x y role fs os j nar ins h =
        let code = h.3 in (h.0, h.1, h.2, h.3, earlier_back a more n x y h.0 code.0 code.1 h.1 h.2 j nar ins h.4, h.5)
    earlier (RepeatsWhile e body ∷ items) a more n x y role fs os j nar ins h =
        let code = h.3 in (h.0, h.1, h.2, h.3, earlier_back a more n x y h.0 code.0 code.1 h.1 h.2 j nar ins h.4, h.5)
    earlier (RepeatsFor parameter reversed now last body ∷ items) a more n x y role fs os j nar ins h =
        let c = h.3 in (
          h.0,
          h.1,
          h.2,
          h.3,
          record {
            jumps = jumps_both i j h.4.jumps;
            out = h.4.out;
            way = h.4.way;
            out_inside = h.4.out_inside;
            loop = ap (λ q. seeing more q) h.4.loop;
            narrows = narrows_both g more a.visible c.inner nar h.4.narrows;
            reaches = h.4.reaches;
            handles = h.4.handles;
            from_inside = ins;
            head_inside = h.4.head_inside;
            to_inside = h.4.to_inside;
          },
          h.5,
          h.6,
          h.7,
          h.8,
        )
    earlier (EndsCall names opened xs ∷ items) a more n x y role fs os j nar ins h =
        let outer = h.5 in
        let addresses = addresses_of outer.visible.names xs in (
          h.0,
          h.1,
          h.2,
          h.3,
          h.4,
          h.5,
          h.6,
          h.7,
          h.8,
          earlier_end a more more n x y names addresses j nar ins h.9,
          h.10,
          nar.reserved ∙ h.11,
          same_end a more a.ending n h.0 names addresses h.12,
          h.13,
          h.14,
          h.15,
        )
    earlier (EndsServed o names done ∷ items) a more n x y role fs os j nar ins h =
        let addresses = note h.0 in (
          h.0,
          h.1,
          h.2,
          h.3,
          h.4,
          h.5,
          h.6,
          h.7,
          h.8,
          earlier_end a more more n x y names addresses j nar ins h.9,
          h.10,
          nar.reserved ∙ h.11,
          same_end a more a.ending n h.1 names addresses h.12,
          h.13,
          h.14,
          h.15,
        )
    earlier (i' ∷ items) a more n x y role fs os j nar ins h = absurd h

    -- statements, and then the items
    pub before_follows : (stmts : StmtTrees) (a : Setting) (now : Framed) (n from to : ℕ) (items : List Item) (role : Role) (fs : List Frame)
        (os : List Activation)
        → AreStatements i program g numbers now a.ways a.raised from to stmts → from ≤ to → In n from → In n to → ReachesWays i program g numbers a now
        → Follow (seeing now a) n to items role fs os
        → Follow (seeing now a) n from (before stmts items) role fs os
    before_follows NoStmts a now n from to items role fs os code le x y reach rest = subst (λ q. Follow (seeing now a) n q items role fs os) (sym code) rest
    before_follows (MoreStmts s more) a now n from to items role fs os code le x y reach rest =
        let mid = code.0 in
        let u = code.1 in
        let v = code.2 in
        let inside : In n mid = (omega (arith, x.0, u), omega (arith, y.1, v)) in (
          from,
          mid,
          now,
          (record { jumps = Here; narrows = narrows_same g now; reaches = reach; from_inside = x; up = u; to_inside = inside }),
          code.3,
          before_follows more a now n mid to items role fs os code.4 v inside y reach rest,
        )

    -- declarations, and then the items
    pub declares_follow : (ds : List DeclarationTree) (a : Setting) (now later : Framed) (n from to : ℕ) (items : List Item) (role : Role) (fs : List Frame)
        (os : List Activation)
        → AreDeclared i program g numbers now from to later ds → GoesBy i a.raised from to → from ≤ to → In n from → In n to
        → ReachesWays i program g numbers a now
        → (NarrowsFrame g later now → Follow (seeing later a) n to items role fs os)
        → Follow (seeing now a) n from (map Declares ds ++ items) role fs os
    declares_follow [] a now later n from to items role fs os code goes le x y reach rest =
        subst (λ q. Follow (seeing now a) n q items role fs os) (sym code.0)
        (subst (λ q. Follow (seeing q a) n to items role fs os) code.1 (rest (subst (λ q. NarrowsFrame g q now) (sym code.1) (narrows_same g now))))
    declares_follow (d ∷ ds) a now later n from to items role fs os code goes le x y reach rest =
        let mid = code.0 in
        let next = code.1 in
        let u = code.2 in
        let v = code.3 in
        let inside : In n mid = (omega (arith, x.0, u), omega (arith, y.1, v)) in
        let further : ReachesWays i program g numbers a next =
        (shows_then g next now a.behind code.5 reach.0, shows_then g next now a.ending code.5 reach.1, shows_then g next now a.handling code.5 reach.2) in (
          from,
          mid,
          now,
          next,
          (record { jumps = Here; narrows = narrows_same g now; reaches = reach; from_inside = x; up = u; to_inside = inside }),
          code.5,
          code.4,
          declares_follow ds a next later n mid to items role fs os code.6 (goes_within i a.raised from mid to to goes u (omega arith)) v inside y further
              (λ nar. rest (narrows_both g later next now nar code.5)),
          goes_within i a.raised from from mid to goes (omega arith) v,
        )

    -- `out` parameters, and then the items
    pub parameters_follow : (ps : List Parameter) (a : Setting) (now later : Framed) (n from to : ℕ) (items : List Item) (role : Role) (fs : List Frame)
        (os : List Activation)
        → AreParametersDeclared i program g numbers now from to later ps → from ≤ to → In n from → In n to
        → (NarrowsFrame g later now → Follow (seeing later a) n to items role fs os)
        → Follow (seeing now a) n from (map DeclaresParameter ps ++ items) role fs os
    parameters_follow [] a now later n from to items role fs os code le x y rest =
        subst (λ q. Follow (seeing now a) n q items role fs os) (sym code.0)
        (subst (λ q. Follow (seeing q a) n to items role fs os) code.1 (rest (subst (λ q. NarrowsFrame g q now) (sym code.1) (narrows_same g now))))
    parameters_follow (f ∷ ps) a now later n from to items role fs os code le x y rest =
        let mid = code.0 in
        let next = code.1 in
        let u = code.2 in
        let v = code.3 in
        let inside : In n mid = (omega (arith, x.0, u), omega (arith, y.1, v)) in (
          from,
          mid,
          now,
          next,
          (record { jumps = Here; narrows = narrows_same g now; from_inside = x; up = u; to_inside = inside }),
          code.5,
          code.4,
          parameters_follow ps a next later n mid to items role fs os code.6 v inside y (λ nar. rest (narrows_both g later next now nar code.5)),
        )

    -- where the frame goes on behind the innermost loop
    pub record IsOut (a : Setting) (n e : ℕ) (items : List Item) (role : Role) (fs : List Frame) (os : List Activation) : Type 0 where
      pub outer : Setting
      pub visible : a.behind ≡ outer.visible
      pub follows : Follow outer n e (behind_loop items) role fs os
      pub ends : frames_in (behind_loop items) ≡ frames_in items
      pub drops : Drops a outer

    out_seeing : (a : Setting) (v : Framed) (n e : ℕ) (items : List Item) (i' : Item) (role : Role) (fs : List Frame) (os : List Activation)
        → a.visible.reserved ≡ v.reserved
        → behind_loop (i' ∷ items) ≡ behind_loop items → frames_in (i' ∷ items) ≡ frames_in items
        → IsOut (seeing v a) n e items role fs os → IsOut a n e (i' ∷ items) role fs os
    out_seeing a v n e items i' role fs os same behind ends r = record {
      outer = r.outer;
      visible = r.visible;
      follows = subst (λ q. Follow r.outer n e q role fs os) (sym behind) r.follows;
      ends = ap frames_in behind ∙ r.ends ∙ sym ends;
      drops = drops_seeing a v r.outer same r.drops;
    }

    -- from a sequence or a handler, of which this is around
    out_outer : (a outer : Setting) (n e : ℕ) (items : List Item) (i' : Item) (role : Role) (fs : List Frame) (os : List Activation) → a.behind ≡ outer.behind
        → Drops a outer
        → behind_loop (i' ∷ items) ≡ behind_loop items → frames_in (i' ∷ items) ≡ frames_in items
        → IsOut outer n e items role fs os → IsOut a n e (i' ∷ items) role fs os
    out_outer a outer n e items i' role fs os same d behind ends r = record {
      outer = r.outer;
      visible = same ∙ r.visible;
      follows = subst (λ q. Follow r.outer n e q role fs os) (sym behind) r.follows;
      ends = ap frames_in behind ∙ r.ends ∙ sym ends;
      drops = drops_then a outer r.outer d r.drops;
    }

    pub way_out : (items : List Item) (a : Setting) (n from e : ℕ) (role : Role) (fs : List Frame) (os : List Activation) → Follow a n from items role fs os
        → a.ways.exit ≡ Some e
        → IsOut a n e items role fs os
    way_out [] a n from e role fs os h is = let none = h.0.outermost.exit in absurd cc
    way_out (Declares d ∷ items) a n from e role fs os h is =
        out_seeing a h.3 n e items (Declares d) role fs os (h.4.narrows.reserved ∙ sym h.5.reserved) refl refl
        (way_out items (seeing h.3 a) n h.1 e role fs os h.7 is)
    way_out (DeclaresParameter f ∷ items) a n from e role fs os h is =
        out_seeing a h.3 n e items (DeclaresParameter f) role fs os (h.4.narrows.reserved ∙ sym h.5.reserved) refl refl
        (way_out items (seeing h.3 a) n h.1 e role fs os h.7 is)
    way_out (Sequence body hs ∷ items) a n from e role fs os h is =
        out_seeing a h.2 n e items (Sequence body hs) role fs os h.3.narrows.reserved refl refl (way_out items (seeing h.2 a) n h.1 e role fs os h.5 is)
    way_out (Does s ∷ items) a n from e role fs os h is =
        out_seeing a h.2 n e items (Does s) role fs os h.3.narrows.reserved refl refl (way_out items (seeing h.2 a) n h.1 e role fs os h.5 is)
    way_out (DoesMain s ∷ items) a n from e role fs os h is =
        out_seeing a h.2 n e items (DoesMain s) role fs os h.3.narrows.reserved refl refl (way_out items (seeing h.2 a) n h.1 e role fs os h.5 is)
    way_out (Handles NoHandlers ∷ items) a n from e role fs os h is =
        out_seeing a a.visible n e items (Handles NoHandlers) role fs os refl refl refl (way_out items a n from e role fs os h is)
    way_out (Handles (MoreHandlers choices body rest) ∷ items) a n from e role fs os h is =
        out_outer a h.2 n e items (Handles (MoreHandlers choices body rest)) role fs os (ap (λ q. q.behind) h.3.sequence)
        (drops_sequence a n from h.0 h.1 h.2 h.3)
        refl refl
        (way_out items h.2 n h.1 e role fs os h.5 (sym (ap (λ q. q.ways.exit) h.3.sequence) ∙ is))
    way_out (EndsHandler x ∷ items) a n from e role fs os h is =
        out_outer a h.2 n e items (EndsHandler x) role fs os (ap (λ q. q.behind) h.3.handler) (drops_handler a n from h.0 h.1 x h.2 h.3) refl refl
        (way_out items h.2 n h.0 e role fs os h.4 (sym (ap (λ q. q.ways.exit) h.3.handler) ∙ is))
    way_out (Repeats body ∷ items) a n from e role fs os h is =
        let head = h.0 in
        let to = h.1 in
        let outer = h.2 in
        let code = h.3 in
        let back = h.4 in
        let there : Some code.1 ≡ Some e = sym (ap (λ q. q.ways.exit) back.loop) ∙ is in
        let same : code.1 ≡ e = cc in
        let x = back.head_inside in
        let y = back.to_inside in
        let up = code.5 in
        let over = code.6 in record {
          outer = outer;
          visible = ap (λ q. q.behind) back.loop;
          follows = subst (λ q. Follow outer n q items role fs os) same
              (earlier items outer outer.visible n code.1 to role fs os code.8 (narrows_same g outer.visible)
              (omega (arith, x.0, up), omega (arith, y.1, over)) h.5);
          ends = refl;
          drops = drops_loop a n from head code.0 code.1 to outer back;
        }
    way_out (RepeatsWhile c body ∷ items) a n from e role fs os h is =
        let head = h.0 in
        let to = h.1 in
        let outer = h.2 in
        let code = h.3 in
        let back = h.4 in
        let there : Some code.1 ≡ Some e = sym (ap (λ q. q.ways.exit) back.loop) ∙ is in
        let same : code.1 ≡ e = cc in
        let x = back.head_inside in
        let y = back.to_inside in
        let up = code.7 in
        let over = code.8 in record {
          outer = outer;
          visible = ap (λ q. q.behind) back.loop;
          follows = subst (λ q. Follow outer n q items role fs os) same
              (earlier items outer outer.visible n code.1 to role fs os code.10 (narrows_same g outer.visible)
              (omega (arith, x.0, up), omega (arith, y.1, over)) h.5);
          ends = refl;
          drops = drops_loop a n from head code.0 code.1 to outer back;
        }
    way_out (RepeatsFor parameter reversed now last body ∷ items) a n from e role fs os h is =
        let head = h.0 in
        let to = h.1 in
        let outer = h.2 in
        let c = h.3 in
        let next = h.4 in
        let there : Some next.out ≡ Some e = sym (ap (λ q. q.ways.exit) next.loop) ∙ is in
        let same : next.out ≡ e = cc in record {
          outer = outer;
          visible = ap (λ q. q.behind) next.loop;
          follows = subst (λ q. Follow outer n q items role fs os) same
              (earlier items outer outer.visible n next.out to role fs os next.way (narrows_same g outer.visible) next.out_inside h.6);
          ends = refl;
          drops = drops_turn a n from head to parameter reversed now last outer c next;
        }
    way_out (EndsCall names opened xs ∷ items) a n from e role fs os h is = let none = h.9.outermost.exit in absurd cc
    way_out (EndsServed o names done ∷ items) a n from e role fs os h is = let none = h.9.outermost.exit in absurd cc
    way_out (i' ∷ items) a n from e role fs os h is = absurd h

    -- where it goes on at the end of the body
    pub record IsBack (a : Setting) (n e : ℕ) (items : List Item) (role : Role) (fs : List Frame) (os : List Activation) : Type 0 where
      pub end : Setting
      pub visible : a.ending ≡ end.visible
      pub follows : Follow end n e (end_of_body items) role fs os
      pub ends : frames_in (end_of_body items) ≡ frames_in items
      pub drops : Drops a end

    back_seeing : (a : Setting) (v : Framed) (n e : ℕ) (items : List Item) (i' : Item) (role : Role) (fs : List Frame) (os : List Activation)
        → a.visible.reserved ≡ v.reserved
        → end_of_body (i' ∷ items) ≡ end_of_body items → frames_in (i' ∷ items) ≡ frames_in items
        → IsBack (seeing v a) n e items role fs os → IsBack a n e (i' ∷ items) role fs os
    back_seeing a v n e items i' role fs os same behind ends r = record {
      end = r.end;
      visible = r.visible;
      follows = subst (λ q. Follow r.end n e q role fs os) (sym behind) r.follows;
      ends = ap frames_in behind ∙ r.ends ∙ sym ends;
      drops = drops_seeing a v r.end same r.drops;
    }

    -- from a loop, of which this is around
    -- ... or from what else is left there
    back_outer : (a outer : Setting) (n e : ℕ) (items : List Item) (i' : Item) (role : Role) (fs : List Frame) (os : List Activation) → a.ending ≡ outer.ending
        → Drops a outer
        → end_of_body (i' ∷ items) ≡ end_of_body items → frames_in (i' ∷ items) ≡ frames_in items
        → IsBack outer n e items role fs os → IsBack a n e (i' ∷ items) role fs os
    back_outer a outer n e items i' role fs os same d behind ends r = record {
      end = r.end;
      visible = same ∙ r.visible;
      follows = subst (λ q. Follow r.end n e q role fs os) (sym behind) r.follows;
      ends = ap frames_in behind ∙ r.ends ∙ sym ends;
      drops = drops_then a outer r.end d r.drops;
    }

    pub way_back : (items : List Item) (a : Setting) (n from e : ℕ) (role : Role) (fs : List Frame) (os : List Activation) → Follow a n from items role fs os
        → a.ways.return ≡ Some e
        → IsBack a n e items role fs os
    way_back [] a n from e role fs os h is =
        let r = h.1 e is in record {
          end = seeing a.ending a;
          visible = refl;
          follows = (same_out a a.ending n e r.1, (λ ret there. (refl, same_out a a.ending n ret (h.1 ret there).1)), h.2);
          ends = refl;
          drops = record { held = λ locals x. x; apart = λ x. x ∙ r.0 };
        }
    way_back (Declares d ∷ items) a n from e role fs os h is =
        back_seeing a h.3 n e items (Declares d) role fs os (h.4.narrows.reserved ∙ sym h.5.reserved) refl refl
        (way_back items (seeing h.3 a) n h.1 e role fs os h.7 is)
    way_back (DeclaresParameter f ∷ items) a n from e role fs os h is =
        back_seeing a h.3 n e items (DeclaresParameter f) role fs os (h.4.narrows.reserved ∙ sym h.5.reserved) refl refl
        (way_back items (seeing h.3 a) n h.1 e role fs os h.7 is)
    way_back (Sequence body hs ∷ items) a n from e role fs os h is =
        back_seeing a h.2 n e items (Sequence body hs) role fs os h.3.narrows.reserved refl refl (way_back items (seeing h.2 a) n h.1 e role fs os h.5 is)
    way_back (Does s ∷ items) a n from e role fs os h is =
        back_seeing a h.2 n e items (Does s) role fs os h.3.narrows.reserved refl refl (way_back items (seeing h.2 a) n h.1 e role fs os h.5 is)
    way_back (DoesMain s ∷ items) a n from e role fs os h is =
        back_seeing a h.2 n e items (DoesMain s) role fs os h.3.narrows.reserved refl refl (way_back items (seeing h.2 a) n h.1 e role fs os h.5 is)
    way_back (Handles NoHandlers ∷ items) a n from e role fs os h is =
        back_seeing a a.visible n e items (Handles NoHandlers) role fs os refl refl refl (way_back items a n from e role fs os h is)
    way_back (Handles (MoreHandlers choices body rest) ∷ items) a n from e role fs os h is =
        back_outer a h.2 n e items (Handles (MoreHandlers choices body rest)) role fs os (ap (λ q. q.ending) h.3.sequence)
        (drops_sequence a n from h.0 h.1 h.2 h.3)
        refl refl
        (way_back items h.2 n h.1 e role fs os h.5 (sym (ap (λ q. q.ways.return) h.3.sequence) ∙ is))
    way_back (EndsHandler x ∷ items) a n from e role fs os h is =
        back_outer a h.2 n e items (EndsHandler x) role fs os (ap (λ q. q.ending) h.3.handler) (drops_handler a n from h.0 h.1 x h.2 h.3) refl refl
        (way_back items h.2 n h.0 e role fs os h.4 (sym (ap (λ q. q.ways.return) h.3.handler) ∙ is))
    way_back (Repeats body ∷ items) a n from e role fs os h is =
        let code = h.3 in
        back_outer a h.2 n e items (Repeats body) role fs os (ap (λ q. q.ending) h.4.loop) (drops_loop a n from h.0 code.0 code.1 h.1 h.2 h.4) refl refl
        (way_back items h.2 n h.1 e role fs os h.5 (sym (ap (λ q. q.ways.return) h.4.loop) ∙ is))
    way_back (RepeatsWhile c body ∷ items) a n from e role fs os h is =
        let code = h.3 in
        back_outer a h.2 n e items (RepeatsWhile c body) role fs os (ap (λ q. q.ending) h.4.loop) (drops_loop a n from h.0 code.0 code.1 h.1 h.2 h.4) refl refl
        (way_back items h.2 n h.1 e role fs os h.5 (sym (ap (λ q. q.ways.return) h.4.loop) ∙ is))
    way_back (RepeatsFor parameter reversed now last body ∷ items) a n from e role fs os h is =
        back_outer a h.2 n e items (RepeatsFor parameter reversed now last body) role fs os (ap (λ q. q.ending) h.4.loop)
        (drops_turn a n from h.0 h.1 parameter reversed now last h.2 h.3 h.4) refl refl
        (way_back items h.2 n h.1 e role fs os h.6 (sym (ap (λ q. q.ways.return) h.4.loop) ∙ is))
    way_back (EndsCall names opened xs ∷ items) a n from e role fs os h is =
        let there : Some h.0 ≡ Some e = sym h.10 ∙ is in
        let same : h.0 ≡ e = cc in
        let outer = h.5 in
        let addresses = addresses_of outer.visible.names xs in record {
          end = seeing a.ending a;
          visible = refl;
          follows = subst (λ q. Follow (seeing a.ending a) n q (EndsCall names opened xs ∷ items) role fs os) same (
            h.0,
            h.1,
            h.2,
            h.3,
            h.4,
            h.5,
            h.6,
            h.7,
            h.8,
            same_end a a.ending a.ending n h.0 names addresses h.12,
            h.10,
            refl,
            same_end a a.ending a.ending n h.0 names addresses h.12,
            h.13,
            h.14,
            h.15,
          );
          ends = refl;
          drops = record { held = λ locals x. x; apart = λ x. x ∙ h.11 };
        }
    way_back (EndsServed o names done ∷ items) a n from e role fs os h is =
        let there : Some h.1 ≡ Some e = sym h.10 ∙ is in
        let same : h.1 ≡ e = cc in
        let addresses = note h.0 in record {
          end = seeing a.ending a;
          visible = refl;
          follows = subst (λ q. Follow (seeing a.ending a) n q (EndsServed o names done ∷ items) role fs os) same (
            h.0,
            h.1,
            h.2,
            h.3,
            h.4,
            h.5,
            h.6,
            h.7,
            h.8,
            same_end a a.ending a.ending n h.1 names addresses h.12,
            h.10,
            refl,
            same_end a a.ending a.ending n h.1 names addresses h.12,
            h.13,
            h.14,
            h.15,
          );
          ends = refl;
          drops = record { held = λ locals x. x; apart = λ x. x ∙ h.11 };
        }
    way_back (i' ∷ items) a n from e role fs os h is = absurd h
