-- Actual parameters that are copied back: the address of the target, and for `in out` the words of its value above it, checked (RM 6.4.1).
use Rattle.std.proofs.Common.{◌≡◌, ℕ, suc, ◌+◌, ◌-◌, ◌≤◌, ◌⊎◌, inl, inr, ℤ, List, [], ◌∷◌, ◌++◌, length, reverse, Option, Some, None, refl, sym, ap, ◌∙◌, subst, arith}
use Rattle.std.specs.Prelude.{pos}
use Rattle.std.proofs.lemmas.List.{append-nil}
use Rattle.base.specs.declared.schedule.ScheduleLine.{ScheduleLine}
use Rattle.kernel.specs.State.{Kernel}
use Rattle.kernel.specs.Calm.{Calm}
use Rattle.kernel.specs.Counting.{Spends}
use Rattle.kernel.specs.Laws.{QuietStays}
use Rattle.kernel.specs.RunLaws.{spends_trans}
use Rattle.ada_tree.specs.declared.declaration.Mode.TheVariants as mode
use Rattle.ada_tree.specs.declared.expression.Identifier.{Identifier}
use Rattle.ada_tree.specs.ExpressionTree as tree
use Rattle.ada_tree.specs.ExpressionTree.{ExprTree, Named, SelectorTrees}
use Rattle.image.specs.Sections.{Sections}
use Rattle.image.specs.Frames.{Frame, Words}
use Rattle.image.specs.Steps.{behaviour}
use Rattle.image.specs.declared.instruction.Operation.TheVariants as op
use Rattle.types.specs.declared.entity.Subtype.{Subtype}
use Rattle.types.specs.Evaluations.{Val, Gives, Raises, Meaningless, and_then}
use Rattle.types.specs.Evaluating.{Calls, passed}
use Rattle.types.specs.Laws.{ValuesHaveWords}
use Rattle.types.specs.Layouts.{words_of}
use Rattle.types.specs.Places.{Place, object_of}
use Rattle.types.specs.Shapes.{shape_of, value_words}
use Rattle.types.specs.Values.{Value}
use Rattle.expr_soundness.specs.meaning.specs.Calls.{Actuals, copied_both, copied_out, value_or_nothing}
use Rattle.expr_soundness.specs.meaning.specs.Programs.{Parameter}
use Rattle.expr_soundness.specs.meaning.specs.SameMeaning.{frames_of}
use Rattle.expr_soundness.specs.meaning.specs.Targets.{part_value, value_in}
use Rattle.expr_soundness.specs.meaning.specs.Works.{Target}
use Rattle.expr_code.specs.Coming.{Comes, most_steps, on}
use Rattle.expr_code.specs.Naming.{Lies}
use Rattle.expr_code.specs.Seeing.{Package, Sees, library_of}
use Rattle.expr_code.specs.Views.{At, View, in_frame, placed, view_of}
use Rattle.expr_code.specs.declared.visible.Visible.{Visible}
use Rattle.expr_code.proofs.Coming.{after_first, more, then_comes}
use Rattle.part_code.specs.Copying.{address_of, objects_at, passed_expression}
use Rattle.part_code.proofs.Actuals.{ComputesActual, one_words}
use Rattle.part_code.proofs.CopyingBack.{ChecksValue}
use Rattle.part_code.proofs.Loading.{doubles, loads_block, loads_indexed}
use Rattle.part_code.proofs.PartValues.{part_lies}
use Rattle.part_code.proofs.Pointing.{PointsTo, address_here, computes_pointed, lies_here, means, part_here, place_in, pointed, suited_here, value_here}
use Rattle.part_code.proofs.StoringCode.{one_first}

-- ---- the words of one actual parameter

abbrev one_target : Target → Actuals
one_target y = record { values = []; targets = y ∷ [] }

abbrev one_both : Target → Value → Actuals
one_both y x = record { values = x ∷ []; targets = y ∷ [] }

out_words : (v : Visible) (f : Parameter) (y : Target) (n : ℕ) (base : List ℤ) → f.mode ≡ mode.Out → address_of v y ≡ n
    → reverse (one_words v f (one_target y)) ++ base ≡ pos n ∷ base
out_words v f y n base is at =
    ap (λ q. reverse (one_words v (record f { mode = q }) (one_target y)) ++ base) is ∙ ap (λ a. reverse (pos a ∷ []) ++ base) at

both_words : (v : Visible) (f : Parameter) (y : Target) (x : Value) (n : ℕ) (base : List ℤ) → f.mode ≡ mode.InOut → address_of v y ≡ n
    → reverse (one_words v f (one_both y x)) ++ base ≡ on (pos n ∷ base) x
both_words v f y x n base is at =
    ap (λ q. reverse (one_words v (record f { mode = q }) (one_both y x)) ++ base) is
    ∙ ap (λ a. reverse (pos a ∷ (value_words x ++ [])) ++ base) at
    ∙ ap (λ l. reverse (pos n ∷ l) ++ base) (append-nil (value_words x))
    ∙ one_first (pos n) (value_words x) base

module _ (i : Sections) (schedule : List ScheduleLine) (k : Kernel) (task : ℕ) (m : Words) (h : Frame) (hs : List Frame) (n to : ℕ) (v : Visible)
    (f : Parameter) (base : List ℤ) where
  out_comes : f.mode ≡ mode.Out → (place : Target → ℕ) (x : Val Target) → ((z : Target) → x ≡ Gives z → address_of v z ≡ place z)
      → Comes i schedule k task m h hs n to (λ (z : Target). pos (place z) ∷ base) x
      → Comes i schedule k task m h hs n to (λ a. reverse (one_words v f a) ++ base) (and_then x copied_out)
  out_comes is place (Gives z) at c =
      subst (λ ws. Comes i schedule k task m h hs n to (λ (a : Actuals). ws) (Gives (one_target z))) (sym (out_words v f z (place z) base is (at z refl))) c
  out_comes is place (Raises e) at c = c
  out_comes is place Meaningless at c = tt

  both_comes : f.mode ≡ mode.InOut → (z : Target) (a : ℕ) → address_of v z ≡ a → (x : Val Value)
      → Comes i schedule k task m h hs n to (on (pos a ∷ base)) x
      → Comes i schedule k task m h hs n to (λ a. reverse (one_words v f a) ++ base) (and_then x (copied_both z))
  both_comes is z a at (Gives x) c =
      subst (λ ws. Comes i schedule k task m h hs n to (λ (r : Actuals). ws) (Gives (one_both z x))) (sym (both_words v f z x a base is at)) c
  both_comes is z a at (Raises e) c = c
  both_comes is z a at Meaningless c = tt

-- ---- code

module _ {i : Sections} {g : Package} {names : Visible} {first : Identifier} {selectors : SelectorTrees} {last : Subtype} {from low : ℕ}
    (sized : ValuesHaveWords) (quiet : QuietStays) (way : PointsTo i g names first selectors last from low) (f : Parameter) where
  abbrev name : ExprTree
  name = Named first selectors

  abbrev size : ℕ
  size = words_of names.scope last

  abbrev stack : List ℤ → Actuals → List ℤ
  stack base a = reverse (one_words names f a) ++ base

  -- `out`: the address
  pub computes_out : f.mode ≡ mode.Out → ComputesActual quiet i (library_of g) (Sees g names) names from low f (tree.Value name)
  computes_out is c left answers schedule k task m h hs p base calm sees same =
      let here = view_of i schedule k task m h hs in
      subst (λ z. Comes i schedule k task m (placed h from base) hs (low - from) low (stack base) z)
      (sym (ap (λ q. passed_expression c p (record f { mode = q }) name) is))
      (out_comes i schedule k task m (placed h from base) hs (low - from) low names f base is (place_in sized way) (pointed first selectors c p)
      (λ z ez. address_here sized way c p here answers.sound sees z ez)
      (computes_pointed sized way quiet c left answers schedule k task m h hs p base calm sees same))

  -- the words of the value are put above the address: a single one by LDX, several by LDB
  abbrev pub LoadsPart : ℕ → Type 0
  LoadsPart place = ((size ≡ 1) × At i place (op.LoadIndexed way.slot.region)) ⊎ At i place (op.LoadBlock way.slot.region size)

  abbrev stored : Place → Target → Option Value
  stored p z = value_in (object_of (objects_at z p) z.name) z.parts

  -- what is passed, where this value is stored in the target
  abbrev passing : Target → Option Value → Val Actuals
  passing z o = and_then (and_then (value_or_nothing o) (passed f.subtype)) (copied_both z)

  module _ (to : ℕ) (is : f.mode ≡ mode.InOut) (up : suc (suc low) ≤ to) (dup : At i low op.Duplicate) (load : LoadsPart (suc low))
      (checked : ChecksValue quiet i names.scope last f.subtype (suc (suc low)) to) where
    -- from the address on
    module _ (schedule : List ScheduleLine) (k : Kernel) (task : ℕ) (m : Words) (h : Frame) (hs : List Frame) (p : Place) (base : List ℤ) (calm : Calm k task)
        (sees : Sees g names p (view_of i schedule k task m h hs)) (c : Calls) (good : (library_of g).sound c) (z : Target)
        (gives : pointed first selectors c p ≡ Gives z) where
      abbrev here : View
      here = view_of i schedule k task m h hs

      abbrev held : Value
      held = (means sized way p sees.names.agrees).value

      abbrev address : List ℤ
      address = pos (place_in sized way z) ∷ base

      loaded : (u : Value) → LoadsPart (suc low) → Lies (here.words way.slot.region) (place_in sized way z) u → length (value_words u) ≡ size
          → Spends (behaviour i schedule) task frames_of (most_steps i) (suc (length hs)) 1 k
          (in_frame m (placed h (suc low) (pos (place_in sized way z) ∷ address)) hs) k (in_frame m (placed h (suc (suc low)) (on address u)) hs)
      loaded u (inl one) lies many =
          loads_indexed quiet i schedule k task m calm h hs way.slot.region (suc low) (place_in sized way z) u address one.1 lies (many ∙ one.0)
      loaded u (inr block) lies many =
          loads_block quiet i schedule k task m calm h hs way.slot.region (suc low) (place_in sized way z) size u address block lies many

      after_value : (o : Option Value) → part_value z.parts held ≡ o
          → Comes i schedule k task m (placed h low address) hs (to - low) to (stack base) (passing z o)
      after_value None e = tt
      after_value (Some u) e =
          let n = means sized way p sees.names.agrees in
          let part = part_here sized way c p here good sees z gives in
          let suited = suited_here sized way c p here good sees z gives u e in
          let lies = part_lies sized (here.words way.slot.region) way.slot.offset (shape_of names.scope way.whole) z.parts n.value u part.0.has n.suited e
          (lies_here sized way p here sees) in
          let value = and_then (passed f.subtype u) (copied_both z) in
          more quiet i schedule k task m calm (placed h low address) hs (2 + (to - suc (suc low))) (to - low) to (stack base) value (omega (arith, up))
          (after_first quiet i schedule k task m calm (placed h low address) hs 2 (to - suc (suc low)) (suc (suc low)) to (on address u) (stack base) value
          (omega arith)
          (spends_trans (behaviour i schedule) task frames_of (most_steps i) 1 k (in_frame m (placed h (suc (suc low)) (on address u)) hs)
          (doubles quiet i schedule k task m calm h hs low (pos (place_in sized way z)) base dup)
          (loaded u load lies (sized (shape_of names.scope last) u suited).sized))
          (both_comes i schedule k task m (placed h (suc (suc low)) (on address u)) hs (to - suc (suc low)) to names f base is z (place_in sized way z)
          (address_here sized way c p here good sees z gives) (passed f.subtype u) (checked schedule k task m h hs address u calm suited)))

    -- `in out`: the address, DUP, the value's words, and their check
    pub computes_both : ComputesActual quiet i (library_of g) (Sees g names) names from to f (tree.Value name)
    computes_both c left answers schedule k task m h hs p base calm sees same =
        let le = way.up in
        let here = view_of i schedule k task m h hs in
        let begins : Target → List ℤ = λ z. pos (place_in sized way z) ∷ base in
        subst (λ z. Comes i schedule k task m (placed h from base) hs (to - from) to (stack base) z)
        (sym (ap (λ q. passed_expression c p (record f { mode = q }) name) is))
        (more quiet i schedule k task m calm (placed h from base) hs ((low - from) + (to - low)) (to - from) to (stack base)
        (and_then (pointed first selectors c p) (λ z. passing z (stored p z))) (omega (arith, le, up))
        (then_comes quiet i schedule k task m calm (placed h from base) hs (low - from) (to - low) low to begins (stack base) (pointed first selectors c p)
        (λ z. passing z (stored p z)) (omega (arith, le)) (omega (arith, up))
        (computes_pointed sized way quiet c left answers schedule k task m h hs p base calm sees same)
        (λ z ez.
        subst (λ o. Comes i schedule k task m (placed h low (begins z)) hs (to - low) to (stack base) (passing z o))
        (sym (value_here sized way c p here answers.sound sees z ez))
        (after_value schedule k task m h hs p base calm sees c answers.sound z ez (part_value z.parts (means sized way p sees.names.agrees).value) refl))))
