-- Results of a call on their way to their targets: each is checked and stored.
use Rattle.std.proofs.Common.{◌≡◌, ℕ, suc, ◌-◌, ◌<◌, ℤ, pos, List, [], ◌∷◌, length, None, Bool, true, false, refl, sym, ap, ◌∙◌, subst, arith}
use Rattle.std.specs.Prelude.{if◌then◌else◌, is_some}
use Rattle.part_code.specs.base.specs.declared.exceptions.PredefinedException.TheVariants.{ConstraintError}
use Rattle.kernel.specs.State.{Kernel}
use Rattle.kernel.specs.Effects.{Quiet, after}
use Rattle.kernel.specs.Counting.{Done}
use Rattle.part_code.specs.image.specs.Sections.{Sections}
use Rattle.part_code.specs.image.specs.Frames.{Frame, TaskState}
use Rattle.part_code.specs.image.specs.Steps as steps
use Rattle.part_code.specs.types.specs.declared.entity.Subtype.{Subtype}
use Rattle.part_code.specs.types.specs.Evaluations.{Gives, raise}
use Rattle.part_code.specs.types.specs.Evaluating.{passed}
use Rattle.part_code.specs.types.specs.Shapes.{has_shape, shape_of}
use Rattle.part_code.specs.types.specs.Values.{Value, fits}
use Rattle.step_soundness.specs.expr_rules.specs.Laws.{type_shape}
use Rattle.step_soundness.specs.expr_soundness.proofs.Agreement.{place_values}
use Rattle.step_soundness.specs.expr_soundness.proofs.Parts.{subtype_values}
use Rattle.step_soundness.specs.meaning.specs.Programs.{Program}
use Rattle.step_soundness.specs.meaning.specs.Targets.{activation_with, stored_in}
use Rattle.step_soundness.specs.meaning.specs.SourceSteps as source
use Rattle.step_soundness.specs.meaning.specs.SourceSteps.{place_of, work_step}
use Rattle.step_soundness.specs.meaning.specs.Works.{Item, Copies, Activation, Home, InActivation, InObject, InPackage, Target}
use Rattle.step_soundness.specs.Judged.{IsWorkOf}
use Rattle.step_soundness.specs.Objects.{AreOf, AreTargets}
use Rattle.part_code.specs.expr_code.specs.Views.{in_frame, placed}
use Rattle.part_code.specs.expr_code.specs.Coming.{Comes, on}
use Rattle.part_code.specs.expr_code.specs.Seeing.{Package}
use Rattle.part_code.specs.Resting.{Framed}
use Rattle.part_code.specs.Copying.{AreCopies, ArePlaced, address_of, addresses_of, copies_on}
use Rattle.part_code.specs.declared.call.Destination.{Destination}
use Rattle.part_code.specs.Statements.{Numbers}
use Rattle.step_simulation.specs.Standing.{CodeStands, Copying, Follows, Going, IsCopying, Note, items_size, work_size}
use Rattle.part_code.proofs.Holding.{held_kept}
use Rattle.part_code.proofs.Handling.{goes_within}
use Rattle.step_simulation.proofs.Scenes.{Scene}
use Rattle.step_simulation.proofs.Scenes as scene

passed_is : (t : Subtype) (v y : Value) → passed t v ≡ Gives y → v ≡ y
passed_is t v y e = by (fits t v) e
  where
    by : (b : Bool) → (if b then Gives v else raise ConstraintError) ≡ Gives y → v ≡ y
    by true e = cc
    by false e = cc

pub placed_many : (v : Framed) (ds : List Destination) (xs : List Target) → ArePlaced v ds xs → length (addresses_of v.names xs) ≡ length ds
placed_many v [] [] h = refl
placed_many v (d ∷ ds) (x ∷ xs) h = ap suc (placed_many v ds xs h.1)
placed_many v [] (x ∷ xs) h = absurd h
placed_many v (d ∷ ds) [] h = absurd h

pub same_within : (x : Target) (v : Value) (a : Activation) → (activation_with x v a).within ≡ a.within
same_within x v a = of_home x.home
  where
    of_home : (home : Home)
        → (let y : Activation = elim home [ InActivation ↦ record a { locals = stored_in a.locals x v } | InPackage ↦ a | InObject o ↦ a ] in
        y).within ≡ a.within
    of_home InActivation = refl
    of_home InPackage = refl
    of_home (InObject o) = refl

module _ (i : Sections) (program : Program) (g : Package) (numbers : Numbers) (note : Note) where
  -- what is still to be copied back is on the operand stack, if there is any
  pub copying_stands : (vs : List Value) (xs : List Target) (items : List Item) (own : Activation) (os : List Activation) (k : Kernel) (t : ℕ) (s : TaskState)
      → IsCopying i program g numbers note vs xs items own os s
      → CodeStands i program g numbers note k t (record { work = source.copying vs xs items; own = own; callers = os }) s
  copying_stands [] [] items own os k t s h =
      Going items refl (record {
        around = h.around;
        follows = subst (λ q. Follows i program g numbers note h.around s.frame.subprogram q items s.frame.role s.callers os)
            (sym (ends h.destinations h.placed h.copies)) h.follows;
        rests = h.rests;
        object = h.object;
        stack = h.stack;
        going = h.going;
        depth = h.depth;
      })
    where
      ends : (ds : List Destination) → ArePlaced h.around.visible ds [] → AreCopies i program g h.around.visible s.frame.place h.to ds
          → s.frame.place ≡ h.to
      ends [] places copies = copies
      ends (d ∷ ds) places copies = absurd places
  copying_stands [] (z ∷ xs) items own os k t s h = let e = h.many in absurd (omega (arith, e))
  copying_stands (v ∷ vs) [] items own os k t s h = let e = h.many in absurd (omega (arith, e))
  copying_stands (v ∷ vs) (z ∷ xs) items own os k t s h = Copying (v ∷ vs) (z ∷ xs) items refl h

module _ (this : Scene) where
  open this use {quiet, i, program, g, numbers, schedule, k, t, calm, store, m, shares, w}

  abbrev now : source.Here
  now = scene.now this

  abbrev Meet : TaskState → Type 0
  Meet s = scene.Meet this s

  abbrev Setting : Type 0
  Setting = scene.Setting this

  abbrev In : ℕ → ℕ → Type 0
  In n place = scene.In this n place

  module _ (s : TaskState) where
    abbrev f : Frame
    f = s.frame

    abbrev fs : List Frame
    fs = s.callers

    stands_is : (base : List ℤ) → s.frame.stack ≡ base → s.raising ≡ None → s ≡ (in_frame m (placed s.frame s.frame.place base) s.callers).task
    stands_is base stack going = λ j. record { frame = placed s.frame s.frame.place (stack j); callers = s.callers; raising = going j }

    typed : (types : List ℕ) (v : Value) (vs : List Value) (x : Target) (xs : List Target) (d : Destination)
        → AreOf program.scope types (v ∷ vs) → AreTargets program w.own types (x ∷ xs) → x.subtype ≡ d.subtype
        → has_shape (type_shape program.scope d.subtype.type_number) v ≡ true
    typed [] v vs x xs d h k e = absurd h
    typed (n ∷ ns) v vs x xs d h k e = subst (λ q. has_shape (type_shape program.scope q) v ≡ true) (sym k.0 ∙ ap (λ u. u.type_number) e) h.0

    pub met_copies : (vs : List Value) (xs : List Target) (items : List Item) → w.work ≡ Copies vs xs items
        → IsCopying i program g numbers this.note vs xs items w.own w.callers s → Meet s
    met_copies [] [] items is h =
        scene.met_still this s (source.goes now items) (ap (λ q. work_step now q) is) refl refl
        (copying_stands i program g numbers this.note [] [] items w.own w.callers k t s h)
        (subst (λ q. suc (items_size items) < work_size q) (sym is) (omega arith))
    met_copies [] (x ∷ xs) items is h = let e = h.many in absurd (omega (arith, e))
    met_copies (v ∷ vs) [] items is h = let e = h.many in absurd (omega (arith, e))
    met_copies (v ∷ vs) (x ∷ xs) items is h = by_places h.destinations h.placed h.copies
      where
        a : Setting
        a = h.around

        rest : List ℤ
        rest = copies_on vs (addresses_of a.visible.names xs) []

        at : ℕ
        at = address_of a.visible.names x

        go : Value → source.SourceStepped
        go y = source.stores now x y (source.copying vs xs items)

        shaped : (d : Destination) → ArePlaced a.visible (d ∷ []) (x ∷ []) → has_shape (shape_of a.visible.names.scope d.subtype) v ≡ true
        shaped d p =
            let task = this.known.task in
            let sound = subst (λ q. IsWorkOf program None w.own task.scope task.outer task.around q) is task.work in
            let knows = scene.sees_here this a.visible items f fs h.rests h.object in
            let known = ap is_some p.0.known.1 in
            sym (place_values a.visible.names.scope (place_of now items) knows.sees.names.agrees d.subtype v known)
            ∙ subtype_values program.scope d.subtype v
            ∙ typed sound.0 v vs x xs d sound.1 sound.2 p.0.subtype

        by_places : (ds : List Destination) → ArePlaced a.visible ds (x ∷ xs) → AreCopies i program g a.visible f.place h.to ds → Meet s
        by_places [] p c = absurd p
        by_places (d ∷ ds) p c =
            let copy = c.3 in
            let up = copy.up in
            let end = copy.end in
            let le = c.2 in
            let l = h.from_inside in
            let r = h.to_inside in
            let fit = shaped d (p.0, tt) in
            let start = on (pos at ∷ rest) v in
            let next_in : In f.subprogram c.0 = (omega (arith, l.0, up, end), omega (arith, r.1, le)) in
            subst Meet (sym (stands_is start h.stack h.going))
            (scene.met_comes_on this start start f fs 0 f.place (copy.mid - f.place) copy.mid (on (pos at ∷ rest)) (passed x.subtype v) items go
            Done
            (subst (λ u. Comes i schedule k t m (placed f f.place start) fs (copy.mid - f.place) copy.mid (on (pos at ∷ rest)) (passed u v)) (sym p.0.subtype)
            (copy.checks schedule k t m f fs (pos at ∷ rest) v calm fit))
            (omega (arith, l.0, r.1, up, end, le))
            (ap (λ q. work_step now q) is)
            (subst (λ q. items_size items < work_size q) (sym is) (omega arith))
            (scene.handled_by this s a a.visible h.to items (passed x.subtype v) f.place copy.mid h.follows
            (goes_within i a.raised f.place f.place copy.mid h.to h.goes (omega arith) (omega (arith, end, le))) h.rests refl h.handles h.object h.depth)
            (λ y ey.
            let same = passed_is x.subtype v y ey in
            let knows = scene.sees_here this a.visible items f fs h.rests h.object in
            let put = copy.puts schedule k t m f fs store w.own (place_of now items) x y rest
            (record { scope = refl; functions = refl; variables = refl; components = refl }) refl refl shares h.rests.rests
            h.object knows p.0
            (subst (λ q. has_shape (shape_of a.visible.names.scope d.subtype) q ≡ true) same fit) in
            let next : ℕ → Frame = λ q. record { subprogram = f.subprogram; place = q; locals = put.locals; stack = rest; role = f.role } in (
              steps.does Quiet put.words (next c.0) fs None None,
              put.acts ∙ ap (λ q. steps.does Quiet put.words (next q) fs None None) (sym end),
              record {
                effect = refl;
                leaves = copying_stands i program g numbers this.note vs xs items (activation_with x y w.own) w.callers (after t Quiet k) t
                    (record { frame = next c.0; callers = fs; raising = None })
                    (record {
                      around = a;
                      destinations = ds;
                      to = h.to;
                      placed = p.1;
                      many = (let e = h.many in omega (arith, e));
                      up = le;
                      copies = c.4;
                      from_inside = next_in;
                      to_inside = r;
                      follows = h.follows;
                      rests = record {
                        rests = put.rests;
                        held = held_kept a.held a.visible.reserved f.locals put.locals h.rests.apart put.keeps h.rests.held;
                        apart = h.rests.apart;
                      };
                      object = h.object ∙ sym (same_within x y w.own);
                      stack = refl;
                      going = refl;
                      depth = h.depth;
                      goes = goes_within i a.raised f.place c.0 h.to h.to h.goes (omega (arith, up, end)) (omega arith);
                      handles = h.handles;
                    });
                words = put.shared;
              },
            )))
