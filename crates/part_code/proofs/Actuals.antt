-- Actual parameters are computed from left to right, each in front of the others (RM 6.4.1).
use Rattle.std.proofs.Common.{◌≡◌, ℕ, ◌+◌, ◌-◌, ◌≤◌, ℤ, List, [], ◌∷◌, ◌++◌, append_assoc, reverse, refl, sym, ap, ◌∙◌, subst, arith}
use Rattle.std.specs.Prelude.{drop}
use Rattle.std.proofs.lemmas.List.{append-nil, reverse-append}
use Rattle.base.specs.declared.schedule.ScheduleLine.{ScheduleLine}
use Rattle.kernel.specs.State.{Kernel}
use Rattle.kernel.specs.Counting.{Done}
use Rattle.kernel.specs.Laws.{QuietStays}
use Rattle.ada_tree.specs.declared.declaration.Mode.{Mode}
use Rattle.ada_tree.specs.declared.declaration.Mode.TheVariants as mode
use Rattle.ada_tree.specs.ExpressionTree as tree
use Rattle.ada_tree.specs.ExpressionTree.{ArgumentTree, ArgumentTrees, ExprTree, MoreArguments, NoArguments, Text}
use Rattle.image.specs.Sections.{Sections}
use Rattle.image.specs.Frames.{Frame, Words}
use Rattle.types.specs.Evaluations.{Val, Gives, Raises, Meaningless, and_then}
use Rattle.types.specs.Evaluating.{Calls, passed, value_with}
use Rattle.types.specs.Places.{Place, object_of}
use Rattle.types.specs.Shapes.{value_words}
use Rattle.types.specs.Values.{Value}
use Rattle.expr_soundness.specs.meaning.specs.Calls.{Actuals, copied_both, copied_in, copied_out, value_or_nothing, with_actuals}
use Rattle.expr_soundness.specs.meaning.specs.Programs.{Parameter}
use Rattle.expr_soundness.specs.meaning.specs.Targets.{value_in}
use Rattle.expr_soundness.specs.meaning.specs.Works.{Target}
use Rattle.expr_code.specs.Views.{placed, Sight}
use Rattle.expr_code.specs.Coming.{Comes, on}
use Rattle.expr_code.specs.Computing.{ComputesChecked, Everywhere, Library}
use Rattle.expr_code.specs.declared.visible.Visible.{Visible}
use Rattle.expr_code.proofs.Coming.{more, then_comes}
use Rattle.part_code.specs.Copying.{actuals_on, addresses_of, first_address, first_words, objects_at, passed_actual, passed_actuals, passed_words, target_at}

-- ---- one actual parameter is a value, a target, or both

abbrev pub IsOne : Mode → Actuals → Type 0
IsOne mode.In a = (x : Value) × (a ≡ record { values = x ∷ []; targets = [] })
IsOne mode.Out a = (y : Target) × (a ≡ record { values = []; targets = y ∷ [] })
IsOne mode.InOut a = (x : Value) × (y : Target) × (a ≡ record { values = x ∷ []; targets = y ∷ [] })

given_in : (v : Val Value) (a : Actuals) → and_then v copied_in ≡ Gives a → IsOne mode.In a
given_in (Gives x) a e = (x, sym (inside e))
  where
    inside : Gives (record { values = x ∷ []; targets = [] }) ≡ Gives a → record { values = x ∷ []; targets = [] } ≡ a
    inside e = cc
given_in (Raises n) a e = cc
given_in Meaningless a e = cc

given_out : (v : Val Target) (a : Actuals) → and_then v copied_out ≡ Gives a → IsOne mode.Out a
given_out (Gives y) a e = (y, sym (inside e))
  where
    inside : Gives (record { values = []; targets = y ∷ [] }) ≡ Gives a → record { values = []; targets = y ∷ [] } ≡ a
    inside e = cc
given_out (Raises n) a e = cc
given_out Meaningless a e = cc

given_both : (y : Target) (v : Val Value) (a : Actuals) → and_then v (copied_both y) ≡ Gives a → IsOne mode.InOut a
given_both y (Gives x) a e = (x, y, sym (inside e))
  where
    inside : Gives (record { values = x ∷ []; targets = y ∷ [] }) ≡ Gives a → record { values = x ∷ []; targets = y ∷ [] } ≡ a
    inside e = cc
given_both y (Raises n) a e = cc
given_both y Meaningless a e = cc

given_target : (v : Val Target) (go : Target → Val Value) (a : Actuals) → and_then v (λ y. and_then (go y) (copied_both y)) ≡ Gives a → IsOne mode.InOut a
given_target (Gives y) go a e = given_both y (go y) a e
given_target (Raises n) go a e = cc
given_target Meaningless go a e = cc

pub is_one : (calls : Calls) (p : Place) (f : Parameter) (x : ArgumentTree) (a : Actuals) → passed_actual calls p f x ≡ Gives a → IsOne f.mode a
is_one calls p f (Text label at) a e = cc
is_one calls p f (tree.Value x) a e = by_mode f.mode e
  where
    by_mode : (m : Mode)
        → elim m [
          | mode.In ↦ and_then (and_then (value_with calls p x) (passed f.subtype)) copied_in
          | mode.Out ↦ and_then (target_at calls p x) copied_out
          | mode.InOut ↦ and_then (target_at calls p x)
              (λ y. and_then (and_then (value_or_nothing (value_in (object_of (objects_at y p) y.name) y.parts)) (passed f.subtype)) (copied_both y))
        ] ≡ Gives a
        → IsOne m a
    by_mode mode.In e = given_in (and_then (value_with calls p x) (passed f.subtype)) a e
    by_mode mode.Out e = given_out (target_at calls p x) a e
    by_mode mode.InOut e =
        given_target (target_at calls p x) (λ y. and_then (value_or_nothing (value_in (object_of (objects_at y p) y.name) y.parts)) (passed f.subtype)) a e

-- ---- their words

abbrev both : Actuals → Actuals → Actuals
both a r = record { values = a.values ++ r.values; targets = a.targets ++ r.targets }

-- the words of one of them alone
abbrev pub one_words : Visible → Parameter → Actuals → List ℤ
one_words v f a = passed_words (f ∷ []) a.values (addresses_of v a.targets)

words_split : (v : Visible) (f : Parameter) (fs : List Parameter) (a r : Actuals) → IsOne f.mode a
    → passed_words (f ∷ fs) (both a r).values (addresses_of v (both a r).targets)
    ≡ one_words v f a ++ passed_words fs r.values (addresses_of v r.targets)
words_split v f fs a r one = by_mode f.mode one
  where
    abbrev_rest : List ℤ
    abbrev_rest = passed_words fs r.values (addresses_of v r.targets)

    by_mode : (m : Mode) → IsOne m a
        → elim m [
          | mode.In ↦ first_words (both a r).values ++ passed_words fs (drop 1 (both a r).values) (addresses_of v (both a r).targets)
          | mode.Out ↦ first_address (addresses_of v (both a r).targets) ++ passed_words fs (both a r).values (drop 1 (addresses_of v (both a r).targets))
          | mode.InOut ↦ first_address (addresses_of v (both a r).targets)
              ++ (first_words (both a r).values ++ passed_words fs (drop 1 (both a r).values) (drop 1 (addresses_of v (both a r).targets)))
        ]
        ≡ elim m [
          | mode.In ↦ first_words a.values ++ []
          | mode.Out ↦ first_address (addresses_of v a.targets) ++ []
          | mode.InOut ↦ first_address (addresses_of v a.targets) ++ (first_words a.values ++ [])
        ] ++ passed_words fs r.values (addresses_of v r.targets)
    by_mode mode.In is =
        subst
        (λ z. first_words (both z r).values ++ passed_words fs (drop 1 (both z r).values) (addresses_of v (both z r).targets)
        ≡ (first_words z.values ++ []) ++ passed_words fs r.values (addresses_of v r.targets))
        (sym is.1) (ap (λ l. l ++ passed_words fs r.values (addresses_of v r.targets)) (sym (append-nil (value_words is.0))))
    by_mode mode.Out is =
        subst
        (λ z. first_address (addresses_of v (both z r).targets) ++ passed_words fs (both z r).values (drop 1 (addresses_of v (both z r).targets))
        ≡ (first_address (addresses_of v z.targets) ++ []) ++ passed_words fs r.values (addresses_of v r.targets))
        (sym is.1) refl
    by_mode mode.InOut is =
        subst
        (λ z. first_address (addresses_of v (both z r).targets)
        ++ (first_words (both z r).values ++ passed_words fs (drop 1 (both z r).values) (drop 1 (addresses_of v (both z r).targets)))
        ≡ (first_address (addresses_of v z.targets) ++ (first_words z.values ++ [])) ++ passed_words fs r.values (addresses_of v r.targets))
        (sym is.2)
        (ap (λ l. first_address (addresses_of v (is.1 ∷ [])) ++ (l ++ passed_words fs r.values (addresses_of v r.targets))) (sym (append-nil (value_words is.0))))

on_split : (v : Visible) (f : Parameter) (fs : List Parameter) (a r : Actuals) (base : List ℤ) → IsOne f.mode a
    → actuals_on v (f ∷ fs) base (both a r) ≡ actuals_on v fs (reverse (one_words v f a) ++ base) r
on_split v f fs a r base one =
    let first = one_words v f a in
    let rest = passed_words fs r.values (addresses_of v r.targets) in
    ap (λ l. reverse l ++ base) (words_split v f fs a r one)
    ∙ ap (λ l. l ++ base) (reverse-append first rest)
    ∙ append_assoc (reverse rest) (reverse first) base

-- ---- code

module _ (quiet : QuietStays) (i : Sections) (library : Library) (sight : Sight) (v : Visible) where
  -- the code between two places computes an actual parameter
  abbrev pub ComputesActual : (from to : ℕ) → Parameter → ArgumentTree → Type 0
  ComputesActual from to f x = Everywhere i library sight from to (λ base a. reverse (one_words v f a) ++ base) (λ calls p. passed_actual calls p f x)

  -- ... all of them
  abbrev pub ComputesActuals : (from to : ℕ) → List Parameter → ArgumentTrees → Type 0
  ComputesActuals from to ps xs = Everywhere i library sight from to (actuals_on v ps) (λ calls p. passed_actuals calls p ps xs)

  pub computes_none : (from : ℕ) → ComputesActuals from from [] NoArguments
  computes_none from calls left answers schedule k t m f fs p base calm sees is = Done

  -- what comes to the others, comes to all
  onto : (schedule : List ScheduleLine) (k : Kernel) (t : ℕ) (m : Words) (h : Frame) (hs : List Frame) (from n to : ℕ) (base : List ℤ) (f : Parameter)
      (fs : List Parameter) (a : Actuals) (rest : Val Actuals) → IsOne f.mode a
      → Comes i schedule k t m (placed h from (reverse (one_words v f a) ++ base)) hs n to (actuals_on v fs (reverse (one_words v f a) ++ base)) rest
      → Comes i schedule k t m (placed h from (reverse (one_words v f a) ++ base)) hs n to (actuals_on v (f ∷ fs) base) (and_then rest (with_actuals a))
  onto schedule k t m h hs from n to base f fs a (Gives r) one c =
      subst (λ ws. Comes i schedule k t m (placed h from (reverse (one_words v f a) ++ base)) hs n to (λ z. ws) (Gives (both a r))) (sym (on_split v f fs a r base one)) c
  onto schedule k t m h hs from n to base f fs a (Raises x) one c = c
  onto schedule k t m h hs from n to base f fs a Meaningless one c = tt

  pub computes_more : (from mid to : ℕ) (f : Parameter) (fs : List Parameter) (x : ArgumentTree) (rest : ArgumentTrees) → from ≤ mid → mid ≤ to
      → ComputesActual from mid f x
      → ComputesActuals mid to fs rest
      → ComputesActuals from to (f ∷ fs) (MoreArguments x rest)
  computes_more from mid to f fs x rest le up first second calls left answers schedule k t m h hs p base calm sees is =
      let one = passed_actual calls p f x in
      let others = passed_actuals calls p fs rest in
      more quiet i schedule k t m calm (placed h from base) hs ((mid - from) + (to - mid)) (to - from) to (actuals_on v (f ∷ fs) base)
      (and_then one (λ a. and_then others (with_actuals a))) (omega (arith, le, up))
      (then_comes quiet i schedule k t m calm (placed h from base) hs (mid - from) (to - mid) mid to (λ a. reverse (one_words v f a) ++ base)
      (actuals_on v (f ∷ fs) base) one (λ a. and_then others (with_actuals a)) le up
      (first calls left answers schedule k t m h hs p base calm sees is)
      (λ a ea. onto schedule k t m h hs mid (to - mid) to base f fs a others (is_one calls p f x a ea)
      (second calls left answers schedule k t m h hs p (reverse (one_words v f a) ++ base) calm sees is)))

  -- ---- a value alone

  copied : (schedule : List ScheduleLine) (k : Kernel) (t : ℕ) (m : Words) (h : Frame) (hs : List Frame) (n to : ℕ) (base : List ℤ) (f : Parameter)
      (x : Val Value) → f.mode ≡ mode.In
      → Comes i schedule k t m h hs n to (on base) x
      → Comes i schedule k t m h hs n to (λ a. reverse (one_words v f a) ++ base) (and_then x copied_in)
  copied schedule k t m h hs n to base f (Gives x) is c =
      subst (λ ws. Comes i schedule k t m h hs n to (λ z. reverse ws ++ base) (Gives x))
      (sym (ap (λ q. elim q [
        | mode.In ↦ first_words (x ∷ []) ++ []
        | mode.Out ↦ first_address [] ++ passed_words [] (x ∷ []) []
        | mode.InOut ↦ first_address [] ++ (first_words (x ∷ []) ++ [])
      ]) is ∙ append-nil (value_words x))) c
  copied schedule k t m h hs n to base f (Raises y) is c = c
  copied schedule k t m h hs n to base f Meaningless is c = tt

  pub computes_in : (from to : ℕ) (f : Parameter) (e : ExprTree) → f.mode ≡ mode.In → ComputesChecked i library sight from to f.subtype e
      → ComputesActual from to f (tree.Value e)
  computes_in from to f e is inner calls left answers schedule k t m h hs p base calm sees same =
      subst (λ z. Comes i schedule k t m (placed h from base) hs (to - from) to (λ a. reverse (one_words v f a) ++ base) z) (sym (value_is f.mode is))
      (copied schedule k t m (placed h from base) hs (to - from) to base f (and_then (value_with calls p e) (passed f.subtype)) is
      (inner calls left answers schedule k t m h hs p base calm sees same))
    where
      value_is : (q : Mode) → q ≡ mode.In
          → elim q [
            | mode.In ↦ and_then (and_then (value_with calls p e) (passed f.subtype)) copied_in
            | mode.Out ↦ and_then (target_at calls p e) copied_out
            | mode.InOut ↦ and_then (target_at calls p e)
                (λ y. and_then (and_then (value_or_nothing (value_in (object_of (objects_at y p) y.name) y.parts)) (passed f.subtype)) (copied_both y))
          ]
          ≡ and_then (and_then (value_with calls p e) (passed f.subtype)) copied_in
      value_is mode.In z = refl
      value_is mode.Out z = cc
      value_is mode.InOut z = cc
