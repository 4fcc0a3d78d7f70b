-- The code of assignments to parts of objects stores what they assign: of objects of the running activation, and of variables of the package.
use Rattle.std.proofs.Common.{◌≡◌, ℕ, suc, ◌+◌, ◌-◌, ◌≤◌, ℤ, List, [], ◌∷◌, Some, refl, sym, ap, ◌∙◌, subst, arith}
use Rattle.std.specs.Prelude.{pos, ◌+ℤ◌}
use Rattle.base.specs.declared.schedule.ScheduleLine.{ScheduleLine}
use Rattle.kernel.specs.State.{Kernel}
use Rattle.kernel.specs.Laws.{QuietStays}
use Rattle.image.specs.Sections.{Sections}
use Rattle.image.specs.Frames.{Words, Frame, own_object}
use Rattle.image.specs.declared.instruction.Operation.TheVariants as op
use Rattle.ada_tree.specs.ExpressionTree.{ExprTree, NameTree}
use Rattle.types.specs.declared.entity.Role.{Role}
use Rattle.types.specs.declared.entity.Subtype.{Subtype}
use Rattle.types.specs.Evaluating.{Calls, call, passed, value_with}
use Rattle.types.specs.Evaluations.{Val, Gives, and_then}
use Rattle.types.specs.Laws.{ValuesHaveWords}
use Rattle.types.specs.Layouts.{words_of}
use Rattle.types.specs.Places.{Place}
use Rattle.types.specs.Scopes.{form_at}
use Rattle.types.specs.Shapes.{Shape, shape_of}
use Rattle.expr_soundness.specs.Laws.{AgreementIsKept, CallsAreTyped}
use Rattle.expr_soundness.specs.SoundScopes.{IsKnown}
use Rattle.expr_soundness.specs.meaning.specs.Programs.{Program}
use Rattle.expr_soundness.specs.meaning.specs.Targets.{activation_with, store_with}
use Rattle.expr_soundness.specs.meaning.specs.Works.{Activation, Store, Target}
use Rattle.expr_code.specs.Coming.{Comes, on}
use Rattle.expr_code.specs.Computing.{ComputesChecked, Everywhere}
use Rattle.expr_code.specs.Locating.{IsNear, IsPath}
use Rattle.expr_code.specs.Seeing.{Package, Sees, library_of, slot_of}
use Rattle.expr_code.specs.Views.{At, placed, view_of}
use Rattle.expr_code.specs.declared.visible.Slot.{Slot}
use Rattle.expr_code.proofs.Coming.{more, then_comes}
use Rattle.expr_code.proofs.Locating.{given}
use Rattle.part_code.specs.declared.call.Destination.{Destination}
use Rattle.part_code.specs.Layout.{IsLaidOut, IsVariable, NamesObject}
use Rattle.part_code.specs.Resting.{Framed, IsAt, Knows, Rests, StandsFor}
use Rattle.part_code.specs.Statements.{IsAssigned, Numbers}
use Rattle.part_code.specs.Storing.{Assigned, Puts, assigned, assigned_to}
use Rattle.part_code.proofs.Arriving.{stores_assign}
use Rattle.part_code.proofs.Declaring.{IsTypedAs, value_suits}
use Rattle.part_code.proofs.Pointing.{PointsTo, address_here, computes_pointed, part_here, place_in, placed_here, pointed}
use Rattle.part_code.proofs.Assigning.{form_there}
use Rattle.part_code.proofs.StoringCode.{StoresIn, block_in, comes_part, given_value, word_in}
use Rattle.part_code.proofs.StoringParts.{address_is, part_puts, place_of}
use Rattle.expr_soundness.proofs.Lies.{results_lie}

module _ (kept : AgreementIsKept) (sized : ValuesHaveWords) (calls : CallsAreTyped) (quiet : QuietStays) (i : Sections) (program : Program) (g : Package)
    (numbers : Numbers) (v : Framed) (name : NameTree) (e : ExprTree) (r : Role) (t last : Subtype) (slot : Slot) (laid : IsLaidOut g v)
    (named : NamesObject v.names.scope name.first.name r t) (variable : IsVariable r)
    (there : slot_of v.names name.first.name ≡ Some slot) (known : IsKnown v.names.scope t) (typed : IsTypedAs v.names last e)
    (from low : ℕ) (end : Shape) (ends : end ≡ shape_of v.names.scope last) (shift : ℤ) (near : IsNear shift)
    (path : IsPath i (library_of g) (Sees g v.names) (suc from) low shift t (shape_of v.names.scope t) name.selectors last end) where
  module _ (mid : ℕ) (le : suc from ≤ low) (up : low ≤ mid) (push : At i from (op.Push (pos slot.offset +ℤ shift)))
      (computes : ComputesChecked i (library_of g) (Sees g v.names) low mid last e) where
    abbrev way : PointsTo i g v.names name.first name.selectors last from low
    way = record {
      slot = slot;
      there = there;
      role = r;
      whole = t;
      named = named;
      variable = variable;
      up = le;
      shift = shift;
      near = near;
      push = push;
      end = end;
      ends = ends;
      path = path;
    }

    abbrev found : Calls → Place → Val Target
    found c p = pointed name.first name.selectors c p

    abbrev place : Target → ℕ
    place z = place_in sized way z

    -- the address, and the value
    abbrev both_on : List ℤ → Assigned → List ℤ
    both_on base y = on (pos (place y.target) ∷ base) y.value

    computes_part : Everywhere i (library_of g) (Sees g v.names) from mid both_on (assigned name e)
    computes_part c left answers schedule k task m f fs p base calm sees is =
        let view = view_of i schedule k task m f fs in
        more quiet i schedule k task m calm (placed f from base) fs ((low - from) + (mid - low)) (mid - from) mid (both_on base)
        (and_then (found c p) (assigned_to c p e)) (omega (arith, le, up))
        (then_comes quiet i schedule k task m calm (placed f from base) fs (low - from) (mid - low) low mid (λ (z : Target). pos (place z) ∷ base)
        (both_on base) (found c p) (assigned_to c p e) (omega (arith, le)) up
        (computes_pointed sized way quiet c left answers schedule k task m f fs p base calm sees is)
        (λ y ey.
        let part = part_here sized way c p view answers.sound sees y ey in
        comes_part i schedule k task m (placed f low (pos (place y) ∷ base)) fs (mid - low) mid base place (and_then (value_with c p e) (passed y.subtype)) y
        (subst
        (λ u. Comes i schedule k task m (placed f low (pos (place y) ∷ base)) fs (mid - low) mid (on (pos (place y) ∷ base))
        (and_then (value_with c p e) (passed u))) (sym part.0.subtype) (computes c left answers schedule k task m f fs p (pos (place y) ∷ base) calm sees is))))

    -- the value is stored where the target is placed
    assigns_part : ((a : ℕ) → StoresIn i slot.region mid a (words_of v.names.scope last) [] (on (pos a ∷ [])))
        → IsAssigned i program g numbers v from (suc mid) name e
    assigns_part stores = stores_assign i program g (record {
      mid = mid;
      up = omega (arith, le, up);
      end = refl;
      same = refl;
      stack = both_on;
      computes = computes_part;
      puts = puts;
    })
      where
        puts : (schedule : List ScheduleLine) (k : Kernel) (task : ℕ) (m : Words) (f : Frame) (fs : List Frame) (store : Store) (a : Activation) (p : Place)
            (y : Assigned)
            → IsAt program store p → p.locals ≡ a.locals → p.within ≡ a.within → StandsFor program g store m → Rests g v a f.locals
            → own_object i f ≡ a.within
            → Knows g v p (view_of i schedule k task m f fs)
            → assigned name e (call p.frames_left) p ≡ Gives y
            → Puts i program g schedule k task m f fs mid (both_on [] y) [] v (store_with y.target y.value store) (activation_with y.target y.value a)
        puts schedule k task m f fs store a p y is_at locals within stands rests own knows gives =
            let c = call p.frames_left in
            let view = view_of i schedule k task m f fs in
            let good : (library_of g).sound c = (λ q s. calls.answered q s p.frames_left, results_lie p.frames_left) in
            let to : Destination = record { region = slot.region; subtype = last } in
            let target = given (found c p) (assigned_to c p e) y gives in
            let z = target.0 in
            let value = given_value (and_then (value_with c p e) (passed z.subtype)) z y target.2 in
            let part = part_here sized way c p view good knows.sees z target.1 in
            let form = form_there (form_at v.names.scope last.type_number) typed.known in
            let here = placed_here sized v way form.0 form.1 c p view good knows z target.1 in
            let at : place_of v to z here ≡ place z = sym (address_is v to z here) ∙ address_here sized way c p view good knows.sees z target.1 in
            let suited = value_suits calls g v last e typed p view knows.sees value.0
            (ap (λ u. and_then (value_with c p e) (passed u)) (sym part.0.subtype) ∙ value.1) in
            subst
            (λ (w : Assigned). Puts i program g schedule k task m f fs mid (both_on [] w) [] v (store_with w.target w.value store)
            (activation_with w.target w.value a)) value.2
            (subst
            (λ n. Puts i program g schedule k task m f fs mid (on (pos n ∷ []) value.0) [] v (store_with z value.0 store) (activation_with z value.0 a)) at
            (part_puts kept sized i program g v laid to z here value.0 suited mid [] (on (pos (place_of v to z here) ∷ [])) schedule k task m f fs store
            a p is_at locals within stands rests own knows (stores (place_of v to z here))))

    -- a single word: STX, above its address
    pub assigns_component : words_of v.names.scope last ≡ 1 → At i mid (op.StoreIndexed slot.region) → IsAssigned i program g numbers v from (suc mid) name e
    assigns_component single here =
        assigns_part (λ a. subst (λ n. StoresIn i slot.region mid a n [] (on (pos a ∷ []))) (sym single) (word_in quiet i slot.region mid a [] here))

    -- several: STB
    pub assigns_components : At i mid (op.StoreBlock slot.region (words_of v.names.scope last)) → IsAssigned i program g numbers v from (suc mid) name e
    assigns_components here = assigns_part (λ a. block_in quiet i slot.region mid a [] (words_of v.names.scope last) here)
