-- The code of assignments to whole objects stores what they assign: to objects of the running activation, to variables of the package, and to components of the
-- body's own protected object.
use Rattle.std.proofs.Common.{◌≡◌, ℕ, suc, ◌-◌, ◌≤◌, ℤ, List, [], Option, Some, None, true, refl, sym, ap, ◌∙◌, subst, arith}
use Rattle.std.specs.Prelude.{is_some}
use Rattle.base.specs.declared.schedule.ScheduleLine.{ScheduleLine}
use Rattle.kernel.specs.State.{Kernel}
use Rattle.kernel.specs.Laws.{QuietStays}
use Rattle.image.specs.Sections.{Sections}
use Rattle.image.specs.Frames.{Words, Frame, own_object}
use Rattle.ada_tree.specs.ExpressionTree.{ExprTree, NameTree, NoSelectors}
use Rattle.types.specs.declared.entity.Role.{Role}
use Rattle.types.specs.declared.entity.Subtype.{Subtype}
use Rattle.types.specs.Entities as entity
use Rattle.types.specs.Entities.{TypeForm}
use Rattle.types.specs.Evaluating.{call, passed, value_with}
use Rattle.types.specs.Evaluations.{Val, Gives, and_then}
use Rattle.types.specs.Laws.{ValuesHaveWords}
use Rattle.types.specs.Layouts.{words_of}
use Rattle.types.specs.Places.{Place, meaning_of}
use Rattle.types.specs.Scopes.{form_at}
use Rattle.types.specs.Shapes.{shape_of}
use Rattle.expr_soundness.specs.Agreeing.{Agrees, MeansObject}
use Rattle.expr_soundness.specs.Laws.{AgreementIsKept, CallsAreTyped}
use Rattle.expr_soundness.specs.meaning.specs.Programs.{Program}
use Rattle.expr_soundness.specs.meaning.specs.Targets.{activation_with, store_with}
use Rattle.expr_soundness.specs.meaning.specs.Works.{Activation, Store}
use Rattle.expr_code.specs.Coming.{Comes, on}
use Rattle.expr_code.specs.Computing.{ComputesChecked, Everywhere}
use Rattle.expr_code.specs.Seeing.{Package, Sees, library_of, slot_of}
use Rattle.expr_code.specs.Views.{At, View, placed, view_of}
use Rattle.expr_code.specs.declared.visible.Slot.{Slot}
use Rattle.part_code.specs.Copying.{IsHomeOf, IsPlacedTarget}
use Rattle.part_code.specs.Emitting.{store_operation}
use Rattle.part_code.specs.Layout.{IsLaidOut, IsVariable, NamesObject}
use Rattle.part_code.specs.Parts.{HasParts, part_offset, part_shape}
use Rattle.part_code.specs.Resting.{Framed, IsAt, Knows, Rests, StandsFor}
use Rattle.part_code.specs.Statements.{IsAssigned, Numbers}
use Rattle.part_code.specs.Storing.{Assigned, Puts, assigned}
use Rattle.part_code.specs.declared.call.Destination.{Destination}
use Rattle.part_code.proofs.Arriving.{stores_assign}
use Rattle.part_code.proofs.Declaring.{IsTypedAs, value_suits}
use Rattle.part_code.proofs.Names.{variable_meant}
use Rattle.part_code.proofs.Pointing.{home_there, named_there}
use Rattle.part_code.proofs.StoringCode.{NamesWhole, StoresIn, assigned_is, comes_assigned, given_value, named_whole, word_there}
use Rattle.part_code.proofs.StoringParts.{part_puts, place_of}

pub form_there : (o : Option TypeForm) → is_some o ≡ true → (form : TypeForm) × (o ≡ Some form)
form_there (Some form) h = (form, refl)
form_there None h = cc

module _ (kept : AgreementIsKept) (sized : ValuesHaveWords) (calls : CallsAreTyped) (quiet : QuietStays) (i : Sections) (program : Program) (g : Package)
    (numbers : Numbers)
    (v : Framed) (name : NameTree) (e : ExprTree) (r : Role) (t : Subtype) (slot : Slot) (whole_name : name.selectors ≡ NoSelectors) (laid : IsLaidOut g v)
    (named : NamesObject v.names.scope name.first.name r t) (variable : IsVariable r) (there : slot_of v.names name.first.name ≡ Some slot)
    (typed : IsTypedAs v.names t e) where
  -- what the name means where the names are visible
  means : (p : Place) → Agrees v.names.scope p → MeansObject v.names.scope (meaning_of p name.first.name) t
  means p agrees = variable_meant v.names.scope p.scope (meaning_of p name.first.name) r t variable
      (agrees.names name.first.name named.number (entity.Object r t) named.numbered named.stands)

  named_here : (p : Place) → Agrees v.names.scope p → NamesWhole p name.first.name t
  named_here p agrees = let h = means p agrees in named_whole p name.first.name t h.value h.is

  -- the code computes what is assigned
  computes_assigned : (from mid : ℕ) (stack : List ℤ → List ℤ)
      → Everywhere i (library_of g) (Sees g v.names) from mid (λ base z. on (stack base) z) (λ c p. and_then (value_with c p e) (passed t))
      → Everywhere i (library_of g) (Sees g v.names) from mid (λ base (y : Assigned). on (stack base) y.value) (assigned name e)
  computes_assigned from mid stack computes c left answers schedule k task m f fs p base calm sees is =
      let n = named_here p sees.names.agrees in
      subst (λ (q : Val Assigned). Comes i schedule k task m (placed f from base) fs (mid - from) mid (λ (y : Assigned). on (stack base) y.value) q)
      (sym (assigned_is c p name e n.target whole_name n.is))
      (comes_assigned i schedule k task m (placed f from base) fs (mid - from) mid (stack base) (and_then (value_with c p e) (passed n.target.subtype)) n.target
      (subst (λ u. Comes i schedule k task m (placed f from base) fs (mid - from) mid (on (stack base)) (and_then (value_with c p e) (passed u))) (sym n.same)
      (computes c left answers schedule k task m f fs p base calm sees is)))

  -- the whole object is a target with places of its own
  abbrev placed_whole : (p : Place) (view : View) → Knows g v p view → (n : NamesWhole p name.first.name t)
      → IsPlacedTarget v (record { region = slot.region; subtype = t }) n.target
  placed_whole p view knows n =
      let h = means p knows.sees.names.agrees in
      let called = (named_there p name.first.name t h.value h.is n.target n.is).named in
      let form = form_there (form_at v.names.scope t.type_number) typed.known in
      record {
        slot = slot;
        there = ap (slot_of v.names) called ∙ there;
        region = refl;
        home = subst (λ o. IsHomeOf o slot.region n.target.home) knows.within
            (home_there p name.first.name slot.region (knows.homes name.first.name slot there) n.target n.is);
        role = r;
        whole = t;
        named = subst (λ q. NamesObject v.names.scope q r t) (sym called) named;
        variable = variable;
        has = subst (HasParts (shape_of v.names.scope t)) (sym n.parts) tt;
        shape = ap (part_shape (shape_of v.names.scope t)) n.parts;
        subtype = n.same;
        known = (form.0, form.1);
      }

  assigns_whole : (from mid : ℕ) → from ≤ mid → (stack : List ℤ → List ℤ)
      → Everywhere i (library_of g) (Sees g v.names) from mid (λ base z. on (stack base) z) (λ c p. and_then (value_with c p e) (passed t))
      → StoresIn i slot.region mid slot.offset (words_of v.names.scope t) [] (on (stack []))
      → IsAssigned i program g numbers v from (suc mid) name e
  assigns_whole from mid up stack computes stores = stores_assign i program g (record {
    mid = mid;
    up = up;
    end = refl;
    same = refl;
    stack = λ base y. on (stack base) y.value;
    computes = computes_assigned from mid stack computes;
    puts = puts;
  })
    where
      puts : (schedule : List ScheduleLine) (k : Kernel) (task : ℕ) (m : Words) (f : Frame) (fs : List Frame) (store : Store) (a : Activation) (p : Place)
          (y : Assigned)
          → IsAt program store p → p.locals ≡ a.locals → p.within ≡ a.within → StandsFor program g store m → Rests g v a f.locals
          → own_object i f ≡ a.within
          → Knows g v p (view_of i schedule k task m f fs)
          → assigned name e (call p.frames_left) p ≡ Gives y
          → Puts i program g schedule k task m f fs mid (on (stack []) y.value) [] v (store_with y.target y.value store) (activation_with y.target y.value a)
      puts schedule k task m f fs store a p y is_at locals within stands rests own knows gives =
          let c = call p.frames_left in
          let view = view_of i schedule k task m f fs in
          let n = named_here p knows.sees.names.agrees in
          let x = n.target in
          let to : Destination = record { region = slot.region; subtype = t } in
          let value = given_value (and_then (value_with c p e) (passed x.subtype)) x y (sym (assigned_is c p name e x whole_name n.is) ∙ gives) in
          let suited = value_suits calls g v t e typed p view knows.sees value.0
          (ap (λ u. and_then (value_with c p e) (passed u)) (sym n.same) ∙ value.1) in
          let place = placed_whole p view knows n in
          let none = ap (part_offset (shape_of v.names.scope t)) n.parts in
          let at : slot.offset ≡ place_of v to x place = omega (arith, none) in
          subst
          (λ (w : Assigned). Puts i program g schedule k task m f fs mid (on (stack []) w.value) [] v (store_with w.target w.value store)
          (activation_with w.target w.value a)) value.2
          (part_puts kept sized i program g v laid to x place value.0 suited mid [] (on (stack [])) schedule k task m f fs store a p is_at locals within
          stands rests own knows (subst (λ q. StoresIn i slot.region mid q (words_of v.names.scope t) [] (on (stack []))) at stores))

  -- a single word: its code, and what stores it
  pub assigns_word : (from mid : ℕ) → words_of v.names.scope t ≡ 1 → from ≤ mid → ComputesChecked i (library_of g) (Sees g v.names) from mid t e
      → At i mid (store_operation slot) → IsAssigned i program g numbers v from (suc mid) name e
  assigns_word from mid single up computes here =
      assigns_whole from mid up (λ base. base) computes (subst (λ n. StoresIn i slot.region mid slot.offset n [] (on [])) (sym single)
      (word_there quiet i slot.region mid slot.offset here))
