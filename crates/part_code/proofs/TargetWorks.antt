-- The code of actual parameters of modes `out` and `in out`, wherever it stands: the address of the target, and for `in out` its value, checked (RM 6.4.1).
use Rattle.std.proofs.Common.{◌≡◌, ℕ, suc, ◌+◌, ◌*◌, ◌≤◌, ◌⊎◌, inl, inr, List, [], ◌∷◌, length, Bool, true, false, cond, Option, Some, None, refl, sym, ap, ◌∙◌, subst, arith}
use Rattle.std.specs.Prelude.{is_some, map, max, nat_eq, ◌⊎◌}
use Rattle.std.specs.List.{All}
use Rattle.std.proofs.lemmas.List.Elements.{All-cons, All-nil}
use Rattle.ada_tree.specs.declared.declaration.Mode.{Mode}
use Rattle.ada_tree.specs.declared.declaration.Mode.TheVariants as mode
use Rattle.ada_tree.specs.declared.expression.Identifier.{Identifier}
use Rattle.ada_tree.specs.ExpressionTree as tree
use Rattle.ada_tree.specs.ExpressionTree.{ExprTree, Named, SelectorTrees}
use Rattle.ada_tree.specs.Size.{expr_size, selectors_size, total}
use Rattle.image.specs.Sections.{Sections}
use Rattle.image.specs.Rules.{has_operands, has_region, is_block}
use Rattle.image.specs.declared.instruction.Operation.{Operation}
use Rattle.image.specs.declared.instruction.Operation.TheVariants as op
use Rattle.image.specs.declared.instruction.Region.{Region}
use Rattle.image.specs.declared.subprograms.Subprogram.{Subprogram}
use Rattle.types.specs.declared.entity.FormalParameter.{FormalParameter}
use Rattle.types.specs.declared.entity.Role.{Role}
use Rattle.types.specs.declared.entity.Subtype.{Subtype}
use Rattle.types.specs.declared.standing.Standing.TheVariants as standing
use Rattle.types.specs.Entities.{TypeForm}
use Rattle.types.specs.Layouts.{words_of}
use Rattle.types.specs.Scopes.{form_at, number_of}
use Rattle.types.specs.Shapes.{shape_of}
use Rattle.types.specs.Standings.{select_all, standing_of, stands_first}
use Rattle.expr_soundness.specs.expr_rules.specs.ExpressionRules.{argument_faults}
use Rattle.expr_soundness.specs.expr_rules.specs.NameRules.{formal_slot}
use Rattle.expr_soundness.specs.expr_rules.specs.declared.names.Slot.TheVariants.{Takes}
use Rattle.expr_soundness.specs.SoundScopes.{IsKnown, SoundScope}
use Rattle.expr_soundness.proofs.Goods.{not_empty}
use Rattle.expr_soundness.specs.meaning.specs.Calls.{is_in}
use Rattle.expr_soundness.specs.meaning.specs.Programs.{Parameter, Program}
use Rattle.step_soundness.specs.Fitting.{formal_of}
use Rattle.expr_code.specs.Actuals.{IsPassedLegally}
use Rattle.expr_code.specs.Emitting.{IsLegalExpression}
use Rattle.expr_code.specs.ExpressionCode.{path_code, path_part, whole_of}
use Rattle.expr_code.specs.Going.{EndsAt}
use Rattle.expr_code.specs.Locating.{IsNear, IsPath}
use Rattle.expr_code.specs.Naming.{loaded_at}
use Rattle.expr_code.specs.Pieces.{Piece, one, ◌▸◌}
use Rattle.expr_code.specs.Providing.{HasWhatExpressionsNeed}
use Rattle.expr_code.specs.Refusing.{HasUnfitObject, IsUnfit}
use Rattle.expr_code.specs.Seeing.{Package, Sees, Suits, library_of, slot_of}
use Rattle.expr_code.specs.Views.{At}
use Rattle.expr_code.specs.declared.part.PartAt.{PartAt}
use Rattle.expr_code.specs.declared.visible.Slot.{Slot}
use Rattle.expr_code.specs.declared.visible.Visible.{Visible}
use Rattle.expr_code.proofs.Emissions.{AddressStands, address_fits, address_stands}
use Rattle.expr_code.proofs.FitShapes.{no_block}
use Rattle.expr_code.proofs.Flowing.{Changes}
use Rattle.expr_code.proofs.Going.{block_words, whole_path}
use Rattle.expr_code.proofs.NamesWork.{address_works}
use Rattle.expr_code.proofs.Refusals.{selectors_some}
use Rattle.expr_code.proofs.StandingPieces.{Between, both_stand, fits_load, fits_more, fits_one, fits_then, fits_unless, one_stands}
use Rattle.part_code.specs.Layout.{NamesObject}
use Rattle.part_code.specs.Needs.{IsPartFit, Needs, actual_needs, address_needs, check_words, copied_needs, destination_at, destinations_for, destinations_named, in_needs, in_out_needs, is_object, is_taken, names_object, target_needs, words_at}
use Rattle.part_code.specs.PartCode.{address_at, copied_in, object_at, range_code, target_address, target_at, target_code, target_of, words_in}
use Rattle.part_code.specs.Passing.{ArePassedInFront, copied_width}
use Rattle.part_code.specs.Resting.{Framed}
use Rattle.part_code.specs.Suiting.{passed_width, returned_width}
use Rattle.part_code.specs.declared.call.Destination.{Destination}
use Rattle.part_code.proofs.AssignmentsRefused.{unfit_whole}
use Rattle.part_code.proofs.CopyingBack.{ChecksValue}
use Rattle.part_code.proofs.CoveredObjects.{known_taken, named_known, object_first, object_valueless, slot_held, value_name}
use Rattle.part_code.proofs.InTurn.{alone, front_one}
use Rattle.part_code.proofs.LegalTargets.{IsOfType, same_words, taken_legal}
use Rattle.part_code.proofs.ObjectNames as objects
use Rattle.part_code.proofs.PassingTargets.{computes_both, computes_out}
use Rattle.part_code.proofs.PassingWell.{passes_both, passes_out}
use Rattle.part_code.proofs.PieceNeeds.{Keeps, Laws, keeps_within}
use Rattle.part_code.proofs.Pointing.{PointsTo}
use Rattle.part_code.proofs.RangeWorks.{RangeWorks, range_works, taken_form}
use Rattle.part_code.proofs.StoresAt.{number_is}
use Rattle.part_code.proofs.Within.{Within, in_left, of_right, within_self}

-- ---- what is promised of the code of an actual parameter

pub record ActualWorks (v : Visible) (d : ℕ) (f : FormalParameter) (e : ExprTree) (ds : List Destination) (height : ℕ) (a : Piece) : Type 0 where
  pub long : ℕ
  pub few : long + 4 * length ds ≤ 20 * (1 + expr_size e)
  pub keeps : Keeps (actual_needs d v f (tree.Value e)) (Suits v) long d height a
  pub high : (i : Sections) (from to : ℕ) → Between i from to a → height ≡ d + passed_width v.scope f
  pub low : height ≤ (actual_needs d v f (tree.Value e)).stack
  pub most : height ≤ d + passed_width v.scope f
  pub destinations : destinations_for v f (tree.Value e) ≡ ds
  pub back : returned_width v.scope f ≡ total (copied_width v.scope) ds
  pub fits : All (IsPartFit v) ds
  pub stands : (i : Sections) (from to : ℕ) → Between i from to a → (program : Program) (g : Package) (w : Framed) → w.names ≡ v → program.scope ≡ g.scope
      → (ps : List Parameter) → map formal_of ps ≡ f ∷ []
      → ArePassedInFront i program g w from to ps (tree.Value e ∷ []) ds

-- ---- the address of what is copied back to

pub record TargetWork (v : Visible) (d : ℕ) (e : ExprTree) (a : Piece) : Type 0 where
  pub first : Identifier
  pub all : SelectorTrees
  pub is : e ≡ Named first all
  pub slot : Slot
  pub there : slot_of v first.name ≡ Some slot
  pub role : Role
  pub whole : Subtype
  pub stands : stands_first v.scope (number_of v.scope first.name) ≡ standing.Part role whole
  pub last : PartAt
  pub target : target_of v e ≡ Some (record { region = slot.region; subtype = last.subtype })
  pub ends : EndsAt v.scope whole all last.subtype
  pub near : IsNear last.shift
  pub fit : IsPartFit v (record { region = slot.region; subtype = last.subtype })
  pub keeps : Keeps (target_needs d v e) (Suits v) (20 * selectors_size all + 1) d (d + 1) a
  pub at : (i : Sections) (from to : ℕ) → Between i from to a → AddressStands i v from to slot.offset whole last all

some_slot : (o : Option Slot) → is_some o ≡ true → (x : Slot) × (o ≡ Some x)
some_slot (Some x) h = (x, refl)
some_slot None h = absurd cc

module _ (laws : Laws) (v : Visible) (sound : SoundScope v.scope) (covered : HasWhatExpressionsNeed v) (d : ℕ) where
  target_named : (first : Identifier) (all : SelectorTrees) → IsLegalExpression v.scope (Named first all) → is_object (standing_of v.scope first all) ≡ true
      → TargetWork v d (Named first all) (target_code v d (Named first all))
  target_named first all legal object =
      let s = v.scope in
      let unbroken = value_name s first all legal in
      let begins = object_first v sound covered first all unbroken object in
      let held = some_slot (slot_of v first.name) (slot_held v sound covered first all unbroken object) in
      let slot = held.0 in
      let t = begins.subtype in
      let path = whole_path s sound first all begins.role t legal begins.is (object_valueless (standing_of s first all) object) in
      let q = address_works laws.quiet laws.typed laws.spared laws.lie laws.words laws.places v sound covered d t all path in
      let last = path_part s (whole_of t) all in
      let goes = path_code v (d + 1) (whole_of t) all in
      let U : Type 0 = HasUnfitObject v ⊎ IsUnfit s t in
      let n = address_needs d v all in
      let address = address_at v d slot t all in
      let known = named_known v sound covered first all unbroken begins.role last.subtype (ap (λ w. select_all s w all) begins.is ∙ q.ends begins.role) in
      let unfit = unfit_whole v d first all slot begins.role t begins.is held.1 in
      subst (TargetWork v d (Named first all)) (sym (λ j. target_address v d (object_at (begins.is j) (held.1 j)) all))
      (record {
        first = first;
        all = all;
        is = refl;
        slot = slot;
        there = held.1;
        role = begins.role;
        whole = t;
        stands = begins.is;
        last = last;
        target = λ j. target_at v (object_at (begins.is j) (held.1 j)) all;
        ends = q.ends;
        near = q.near;
        fit = record {
          taken = known_taken s last.subtype known;
          there = record { name = first.name; slot = slot; there = held.1; region = refl };
          unfit = λ u. unfit (q.fit u);
        };
        keeps = fits_unless U (n.unfit ≡ true) (Suits v) (20 * selectors_size all + 1) n.stack d (d + 1) address unfit
            (address_fits U v d slot.offset t all last goes q);
        at = λ i from to h. address_stands U v d slot.offset t all last goes q i from to h;
      })

  pub target_works : (e : ExprTree) → IsLegalExpression v.scope e → names_object v.scope e ≡ true → TargetWork v d e (target_code v d e)
  target_works (Named first all) legal object = target_named first all legal object
  target_works e legal object = absurd cc

-- ---- the value above its address

loaded_block : (r : Region) (n : ℕ) → has_operands (loaded_at r n) ≡ true → is_block n ≡ true
loaded_block r n = by_count (nat_eq n 1) refl
  where
    by_count : (b : Bool) → nat_eq n 1 ≡ b → has_operands (cond b (op.LoadIndexed r) (op.LoadBlock r n)) ≡ true → is_block n ≡ true
    by_count true e h = ap is_block (number_is n 1 e)
    by_count false e h = h

module _ (laws : Laws) (v : Visible) (d : ℕ) (x : Destination) (fit : IsPartFit v x) (t : Subtype) (taken : is_taken v.scope t ≡ true) where
  abbrev n : ℕ
  n = words_in v.scope x.subtype

  abbrev load : Operation
  load = loaded_at x.region n

  abbrev need : Needs
  need = copied_needs d v (words_of v.scope x.subtype) t

  region_there : (i : Sections) (s : Subprogram) → Suits v i s → has_region s x.region ≡ true
  region_there i s suits = ap (has_region s) (sym fit.there.region) ∙ suits.region fit.there.name fit.there.slot fit.there.there

  load_fit : (has_operands load ≡ true) ⊎ (need.unfit ≡ true)
  load_fit = by_count (nat_eq n 1)
    where
      by_block : (b : Bool) → is_block n ≡ b → (is_block n ≡ true) ⊎ (need.unfit ≡ true)
      by_block true e = inl e
      by_block false e = inr (fit.unfit (no_block v.scope x.subtype n refl e))

      by_count : (b : Bool) → (has_operands (cond b (op.LoadIndexed x.region) (op.LoadBlock x.region n)) ≡ true) ⊎ (need.unfit ≡ true)
      by_count true = inl refl
      by_count false = by_block (is_block n) refl

  load_changes : has_operands load ≡ true → Changes (Suits v) load (d + 1 + 1) (d + 1 + n)
  load_changes = by_count (nat_eq n 1) refl
    where
      by_count : (b : Bool) → nat_eq n 1 ≡ b → has_operands (cond b (op.LoadIndexed x.region) (op.LoadBlock x.region n)) ≡ true
          → Changes (Suits v) (cond b (op.LoadIndexed x.region) (op.LoadBlock x.region n)) (d + 1 + 1) (d + 1 + n)
      by_count true e h = (let one_ = number_is n 1 e in record {
        operands = refl;
        names = λ i s suits. region_there i s suits;
        takes = λ i s suits. omega arith;
        leaves = λ i s suits. omega (arith, one_);
        stays = refl;
        is_none = refl;
      })
      by_count false e h = record {
        operands = h;
        names = λ i s suits. region_there i s suits;
        takes = λ i s suits. omega arith;
        leaves = λ i s suits. omega arith;
        stays = refl;
        is_none = refl;
      }

  check : RangeWorks (need.unfit ≡ true) (Suits v) laws.quiet v (d + 1 + n) t (range_code v.scope (d + 1 + n) t)
  check = range_works (need.unfit ≡ true) (Suits v) laws.quiet v (d + 1 + n) t (omega arith) (taken_form v.scope t taken)

  least_words : n ≤ words_of v.scope x.subtype
  least_words = omega arith

  high : (c : ℕ) → d + 1 + n + c ≤ d + suc (max 1 (words_of v.scope x.subtype + c))
  high c = let least = least_words in omega (arith, least)

  value_keeps : Keeps need (Suits v) 5 (d + 1) (d + 1 + n) (copied_in v d (Some x) t)
  value_keeps =
      let S = Suits v in
      let c = check_words (form_at v.scope t.type_number) in
      let up = high c in
      fits_then S 1 4 need.stack (d + 1) (d + 1 + 1) (d + 1 + n) (one (d + 1) op.Duplicate) (one (d + 1 + 1) load ▸ range_code v.scope (d + 1 + n) t)
      (fits_one S need.stack (d + 1) (d + 1 + 1) op.Duplicate (omega arith)
      (record { operands = refl; names = λ i s h. refl; takes = λ i s h. omega arith; leaves = λ i s h. omega arith; stays = refl; is_none = refl }))
      (fits_then S 1 3 need.stack (d + 1 + 1) (d + 1 + n) (d + 1 + n) (one (d + 1 + 1) load) (range_code v.scope (d + 1 + n) t)
      (fits_load S need.stack (d + 1 + 1) (d + 1 + n) load (omega arith) load_fit load_changes)
      (fits_more S 3 3 (d + 1 + n + c) need.stack (d + 1 + n) (d + 1 + n) (range_code v.scope (d + 1 + n) t) (omega arith) up check.fits))

  -- where it stands
  record ValueStands (i : Sections) (from to : ℕ) : Type 0 where
    words : words_of v.scope x.subtype ≡ n
    dup : At i from op.Duplicate
    load : At i (suc from) (loaded_at x.region n)
    up : suc (suc from) ≤ to
    checks : (g : Package) (shown : Subtype) → shown.type_number ≡ t.type_number → ChecksValue laws.quiet i v.scope shown t (suc (suc from)) to

  value_stands : (i : Sections) (from to : ℕ) → Between i from to (copied_in v d (Some x) t) → ValueStands i from to
  value_stands i from to h =
      let front = both_stand i from to (one (d + 1) op.Duplicate) (one (d + 1 + 1) load ▸ range_code v.scope (d + 1 + n) t) h in
      let back = both_stand i front.mid to (one (d + 1 + 1) load) (range_code v.scope (d + 1 + n) t) front.second in
      let dup = one_stands i from front.mid (d + 1) op.Duplicate front.first in
      let it = one_stands i front.mid back.mid (d + 1 + 1) load back.first in
      let next : back.mid ≡ suc (suc from) = omega (arith, dup.ends, it.ends) in
      record {
        words = block_words n (words_of v.scope x.subtype) refl (loaded_block x.region n it.operands);
        dup = (d + 1, dup.there);
        load = subst (λ k. At i k load) dup.ends (d + 1 + 1, it.there);
        up = (let last = back.on_ in omega (arith, next, last));
        checks = λ g shown same. subst (λ k. ChecksValue laws.quiet i v.scope shown t k to) next (check.checks i back.mid to back.second g shown same);
      }

-- ---- both modes

module _ (laws : Laws) (v : Visible) (d : ℕ) (e : ExprTree) (a : Piece) (target : TargetWork v d e a) (f : FormalParameter)
    (takes : formal_slot f ≡ Takes f.subtype.type_number) (legal : IsPassedLegally v.scope f (tree.Value e)) (known : IsKnown v.scope f.subtype) where
  abbrev pub named_target : Destination
  named_target = record { region = target.slot.region; subtype = target.last.subtype }

  abbrev name : ExprTree
  name = Named target.first target.all

  reached : standing_of v.scope target.first target.all ≡ standing.Part target.role target.last.subtype
  reached = ap (λ u. select_all v.scope u target.all) target.stands ∙ target.ends target.role

  typed : IsOfType f.subtype.type_number target.role target.last.subtype
  typed =
      taken_legal v.scope f.subtype.type_number target.first target.all target.role target.last.subtype reached
      (ap (λ x. argument_faults v.scope x (tree.Value name)) (sym takes)
      ∙ ap (λ x. argument_faults v.scope (formal_slot f) (tree.Value x)) (sym target.is) ∙ legal)

  form : (x : TypeForm) × (form_at v.scope target.last.subtype.type_number ≡ Some x)
  form = let own = not_empty (form_at v.scope f.subtype.type_number) known in (own.0, ap (form_at v.scope) (sym typed.same) ∙ own.1)

  points : (i : Sections) (from to : ℕ) → Between i from to a → (g : Package) (y : Visible) → y ≡ v
      → PointsTo i g y target.first target.all target.last.subtype from to
  points i from to h g y is =
      let at = target.at i from to h in
      record {
        slot = target.slot;
        there = ap (λ x. slot_of x target.first.name) is ∙ target.there;
        role = target.role;
        whole = target.whole;
        named = subst (λ x. NamesObject x.scope target.first.name target.role target.whole) (sym is)
            (objects.names_object v.scope target.first.name target.role target.whole target.stands);
        variable = typed.variable;
        up = at.up;
        shift = target.last.shift;
        near = target.near;
        push = at.push;
        end = shape_of y.scope target.last.subtype;
        ends = refl;
        path = subst
            (λ x. IsPath i (library_of g) (Sees g x) (suc from) to target.last.shift target.whole (shape_of x.scope target.whole) target.all
            target.last.subtype (shape_of x.scope target.last.subtype)) (sym is) (at.goes g);
      }

  size : expr_size e ≡ 1 + selectors_size target.all
  size = ap expr_size target.is

  abbrev by_return : Mode → ℕ
  by_return m = elim m [ mode.In ↦ 0 | mode.Out ↦ suc (words_of v.scope f.subtype) | mode.InOut ↦ suc (words_of v.scope f.subtype) ]

  back : by_return f.mode ≡ suc (words_of v.scope f.subtype) → returned_width v.scope f ≡ suc (words_of v.scope target.last.subtype)
  back is = is ∙ ap suc (same_words v.scope f.subtype target.last.subtype typed.same)

  abbrev by_width : Mode → ℕ
  by_width m = elim m [ mode.In ↦ words_of v.scope f.subtype | mode.Out ↦ 1 | mode.InOut ↦ suc (words_of v.scope f.subtype) ]

  abbrev by_needs : Mode → Needs
  by_needs m = elim m [ mode.In ↦ in_needs d v f.subtype e | mode.Out ↦ target_needs d v e | mode.InOut ↦ in_out_needs d v f.subtype e ]

  abbrev by_target : Mode → List Destination
  by_target m = elim m [ mode.In ↦ [] | mode.Out ↦ destinations_named v e | mode.InOut ↦ destinations_named v e ]

  named_destination : destinations_named v e ≡ named_target ∷ []
  named_destination = ap (destinations_named v) target.is ∙ (λ j. destination_at (target.there j) (reached j))

  one_fits : All (IsPartFit v) (named_target ∷ [])
  one_fits = All-cons (IsPartFit v) named_target [] target.fit (All-nil (IsPartFit v))

  target_high : d + 1 ≤ (target_needs d v e).stack
  target_high = subst (λ x. d + 1 ≤ (target_needs d v x).stack) (sym target.is) (let some = selectors_some v.scope 1 target.all in omega (arith, some))

  -- `out`
  pub out_works : f.mode ≡ mode.Out → ActualWorks v d f e (named_target ∷ []) (d + 1) a
  unfolding points
  out_works is = record {
    long = 20 * selectors_size target.all + 1;
    few = (let same = size in omega (arith, same));
    keeps = subst (λ n. Keeps n (Suits v) (20 * selectors_size target.all + 1) d (d + 1) a) (sym (ap by_needs is)) target.keeps;
    high = λ i from to h. (let wide = ap by_width is in omega (arith, wide));
    low = subst (λ n. d + 1 ≤ n.stack) (sym (ap by_needs is)) target_high;
    most = (let wide = ap by_width is in omega (arith, wide));
    destinations = ap by_target is ∙ named_destination;
    back = (let one_ = back (ap by_return is) in omega (arith, one_));
    fits = one_fits;
    stands = λ i from to h program g w names scope ps same.
        let it = alone ps f same in
        let q = it.parameter in
        let moded : q.mode ≡ mode.Out = ap (λ x. x.mode) it.formal ∙ is in
        let way = points i from to h g w.names names in
        let there = subst (λ x. form_at x.scope target.last.subtype.type_number ≡ Some form.0) (sym names) form.1 in
        subst (λ l. ArePassedInFront i program g w from to l (tree.Value e ∷ []) (named_target ∷ [])) (sym it.is)
        (subst (λ x. ArePassedInFront i program g w from to (q ∷ []) (tree.Value x ∷ []) (named_target ∷ [])) (sym target.is)
        (front_one i program g w laws.quiet scope from to q (tree.Value name) (named_target ∷ []) (let up = way.up in omega (arith, up))
        (computes_out laws.words laws.quiet way q moded) (passes_out program g scope w laws.words way form.0 there q moded)
        (sym (ap (λ m. length (cond (is_in m) [] (q.name ∷ []))) moded))));
  }

  -- `in out`
  abbrev value : Piece
  value = copied_in v d (Some named_target) f.subtype

  abbrev words : ℕ
  words = words_in v.scope target.last.subtype

  taken : is_taken v.scope f.subtype ≡ true
  taken = known_taken v.scope f.subtype known

  copied_within : Within (copied_needs d v (words_of v.scope target.last.subtype) f.subtype) (in_out_needs d v f.subtype e)
  copied_within =
      let own = copied_needs d v (words_of v.scope target.last.subtype) f.subtype in
      subst (λ x. Within own (in_out_needs d v f.subtype x)) (sym target.is)
      (of_right own (address_needs d v target.all) (copied_needs d v (words_at v.scope (standing_of v.scope target.first target.all)) f.subtype)
      (subst (λ w. Within own (copied_needs d v (words_at v.scope w) f.subtype)) (sym reached) (within_self own)))

  target_within : Within (target_needs d v e) (in_out_needs d v f.subtype e)
  target_within =
      subst (λ x. Within (target_needs d v x) (in_out_needs d v f.subtype x)) (sym target.is)
      (in_left (address_needs d v target.all) (copied_needs d v (words_at v.scope (standing_of v.scope target.first target.all)) f.subtype))

  both_keeps : Keeps (in_out_needs d v f.subtype e) (Suits v) (20 * selectors_size target.all + 1 + 5) d (d + 1 + words) (a ▸ value)
  both_keeps =
      let n = in_out_needs d v f.subtype e in
      fits_then (Suits v) (20 * selectors_size target.all + 1) 5 n.stack d (d + 1) (d + 1 + words) a value
      (keeps_within (target_needs d v e) n (Suits v) (20 * selectors_size target.all + 1) d (d + 1) a target_within target.keeps)
      (keeps_within (copied_needs d v (words_of v.scope target.last.subtype) f.subtype) n (Suits v) 5 (d + 1) (d + 1 + words) value copied_within
      (value_keeps laws v d named_target target.fit f.subtype taken))

  -- a single word, or several
  loads_part : (i : Sections) (place : ℕ) (y : Visible) → y ≡ v → words_of v.scope target.last.subtype ≡ words → At i place (loaded_at target.slot.region words)
      → ((words_of y.scope target.last.subtype ≡ 1) × At i place (op.LoadIndexed target.slot.region))
      ⊎ At i place (op.LoadBlock target.slot.region (words_of y.scope target.last.subtype))
  loads_part i place y is same at = by_count (nat_eq words 1) refl at
    where
      many : words_of y.scope target.last.subtype ≡ words
      many = ap (λ x. words_of x.scope target.last.subtype) is ∙ same

      by_count : (b : Bool) → nat_eq words 1 ≡ b → At i place (cond b (op.LoadIndexed target.slot.region) (op.LoadBlock target.slot.region words))
          → ((words_of y.scope target.last.subtype ≡ 1) × At i place (op.LoadIndexed target.slot.region))
          ⊎ At i place (op.LoadBlock target.slot.region (words_of y.scope target.last.subtype))
      by_count true e h = inl (many ∙ number_is words 1 e, h)
      by_count false e h = inr (subst (λ k. At i place (op.LoadBlock target.slot.region k)) (sym many) h)

  pub both_works : f.mode ≡ mode.InOut → ActualWorks v d f e (named_target ∷ []) (d + 1 + words) (a ▸ value)
  unfolding points
  both_works is = record {
    long = 20 * selectors_size target.all + 1 + 5;
    few = (let same = size in omega (arith, same));
    keeps = subst (λ n. Keeps n (Suits v) (20 * selectors_size target.all + 1 + 5) d (d + 1 + words) (a ▸ value)) (sym (ap by_needs is)) both_keeps;
    high = λ i from to h.
        let two = both_stand i from to a value h in
        let at = value_stands laws v d named_target target.fit f.subtype taken i two.mid to two.second in
        let same = at.words in
        let wide = ap by_width is in
        let alike = same_words v.scope f.subtype target.last.subtype typed.same in
        omega (arith, same, wide, alike);
    low = subst (λ n. d + 1 + words ≤ n.stack) (sym (ap by_needs is))
        (let up = copied_within.stack in let least : words ≤ words_of v.scope target.last.subtype = omega arith in enough words _ _ least up);
    most = (let wide = ap by_width is in
        let alike = same_words v.scope f.subtype target.last.subtype typed.same in
        let least : words ≤ words_of v.scope target.last.subtype = omega arith in
        omega (arith, wide, alike, least));
    destinations = ap by_target is ∙ named_destination;
    back = (let one_ = back (ap by_return is) in omega (arith, one_));
    fits = one_fits;
    stands = λ i from to h program g w names scope ps same.
        let it = alone ps f same in
        let q = it.parameter in
        let moded : q.mode ≡ mode.InOut = ap (λ x. x.mode) it.formal ∙ is in
        let subtyped : f.subtype ≡ q.subtype = ap (λ x. x.subtype) (sym it.formal) in
        let two = both_stand i from to a value h in
        let way = points i from two.mid two.first g w.names names in
        let at = value_stands laws v d named_target target.fit f.subtype taken i two.mid to two.second in
        let there = subst (λ x. form_at x.scope target.last.subtype.type_number ≡ Some form.0) (sym names) form.1 in
        let checks = subst (λ t. ChecksValue laws.quiet i w.names.scope target.last.subtype t (suc (suc two.mid)) to) subtyped
        (subst (λ y. ChecksValue laws.quiet i y.scope target.last.subtype f.subtype (suc (suc two.mid)) to) (sym names)
        (at.checks g target.last.subtype (sym typed.same))) in
        subst (λ l. ArePassedInFront i program g w from to l (tree.Value e ∷ []) (named_target ∷ [])) (sym it.is)
        (subst (λ x. ArePassedInFront i program g w from to (q ∷ []) (tree.Value x ∷ []) (named_target ∷ [])) (sym target.is)
        (front_one i program g w laws.quiet scope from to q (tree.Value name) (named_target ∷ []) (let up = two.up in let on_ = two.on_ in omega (arith, up, on_))
        (computes_both laws.words laws.quiet way q to moded at.up at.dup (loads_part i (suc two.mid) w.names names at.words at.load) checks)
        (passes_both program g scope w laws.words way form.0 there q moded (sym typed.same ∙ ap (λ t. t.type_number) subtyped))
        (sym (ap (λ m. length (cond (is_in m) [] (q.name ∷ []))) moded))));
  }
    where
      enough : (few m stack : ℕ) → few ≤ m → d + suc (max 1 (m + check_words (form_at v.scope f.subtype.type_number))) ≤ stack → d + 1 + few ≤ stack
      enough few m stack least up = by_most (m + check_words (form_at v.scope f.subtype.type_number)) (omega (arith, least)) up
        where
          by_most : (k : ℕ) → few ≤ k → d + suc (max 1 k) ≤ stack → d + 1 + few ≤ stack
          by_most k less most = omega (arith, less, most)
