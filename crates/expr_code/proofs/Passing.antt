-- Values that are passed: checks against subtypes, actual parameters, calls of functions.
use Rattle.std.proofs.Common.{◌≡◌, ℕ, suc, ◌+◌, ◌-◌, ◌≤◌, ℤ, List, [], ◌∷◌, ◌++◌, append_assoc, cond, map, reverse, Option, None, Some, Ok, Bool, true, false, refl, sym, ap, ◌∙◌, subst, arith}
use Rattle.std.proofs.lemmas.List.{reverse-append}
use Rattle.base.specs.Arithmetic.{constraint_error}
use Rattle.base.specs.declared.exceptions.PredefinedException.TheVariants.{ConstraintError}
use Rattle.base.specs.declared.schedule.ScheduleLine.{ScheduleLine}
use Rattle.kernel.specs.State.{Kernel}
use Rattle.kernel.specs.Calm.{Calm}
use Rattle.kernel.specs.Counting.{Done}
use Rattle.kernel.specs.Laws.{QuietStays}
use Rattle.ada_tree.specs.declared.expression.Identifier.{Identifier}
use Rattle.ada_tree.specs.ExpressionTree as tree
use Rattle.ada_tree.specs.ExpressionTree.{ArgumentTrees, ExprTree, MoreArguments, MoreSelectors, NoArguments, NoSelectors, Arguments, SelectorTrees}
use Rattle.image.specs.Sections.{Sections}
use Rattle.image.specs.Frames.{Words, Frame}
use Rattle.image.specs.Scalars.{in_bounds}
use Rattle.image.specs.declared.instruction.Operation.{Operation}
use Rattle.image.specs.declared.instruction.Operation.TheVariants as op
use Rattle.types.specs.declared.entity.Subtype.{Subtype}
use Rattle.types.specs.Entities.{ProtectedObject}
use Rattle.types.specs.Values.{Value, Number, is_within, value_of}
use Rattle.types.specs.Shapes.{value_words}
use Rattle.types.specs.Evaluations.{Val, Gives, Raises, Meaningless, and_then, raise}
use Rattle.types.specs.Places.{Function, IsValue, Meaning, Place, meaning_of}
use Rattle.types.specs.Evaluating.{Calls, actuals_with, called, fixed_name, formal_subtype, name_with, passed, value_with}
use Rattle.expr_code.specs.Views.{At, placed, Sight, view_of}
use Rattle.expr_code.specs.Coming.{all_on, all_words, Comes, on}
use Rattle.expr_code.specs.OperatorCode.{IsWordOf}
use Rattle.expr_code.specs.Computing.{AlwaysPasses, ArePassedWell, Checks, Computes, ComputesAll, ComputesChecked, ComesToNumber, Library, AlwaysNames}
use Rattle.expr_code.proofs.Coming.{acts, more, after_first, then_comes, by_result, pushes}

-- a check's word, whichever way it goes
check_word : (z : ℤ) (b : Bool) → IsWordOf (cond b (Gives (Number z)) (raise ConstraintError)) (cond b (Ok z) constraint_error)
check_word z true = refl
check_word z false = refl

-- the words of one value more
one_on : (base : List ℤ) (v : Value) (vs : List Value) → all_on base (v ∷ vs) ≡ all_on (on base v) vs
one_on base v vs = ap (λ ws. ws ++ base) (reverse-append (value_words v) (all_words vs)) ∙ append_assoc (reverse (all_words vs)) (reverse (value_words v)) base

-- what a call with these actual parameters is worth
pub value_alone : (calls : Calls) (p : Place) (v : Val Value) → and_then (and_then v (λ x. Gives (IsValue x))) (λ n. name_with calls p n NoSelectors) ≡ v
value_alone calls p (Gives v) = refl
value_alone calls p (Raises x) = refl
value_alone calls p Meaningless = refl

call_value : (calls : Calls) (p : Place) (function : Function) (through : Option ProtectedObject) (vs : Val (List Value))
    → and_then (and_then vs (λ ws. and_then (called calls p function through ws) (λ x. Gives (IsValue x)))) (λ n. name_with calls p n NoSelectors)
    ≡ and_then vs (called calls p function through)
call_value calls p function through (Gives vs) = value_alone calls p (called calls p function through vs)
call_value calls p function through (Raises x) = refl
call_value calls p function through Meaningless = refl

-- the value of a name that stands for no constant
pub named_value : (calls : Calls) (p : Place) (first : Identifier) (selectors : SelectorTrees) (meaning : Meaning)
    → fixed_name p first selectors ≡ None → meaning_of p first.name ≡ meaning → value_with calls p (tree.Named first selectors) ≡ name_with calls p meaning selectors
named_value calls p first selectors meaning fixed means =
    ap (λ o. elim o [ Some v ↦ Gives (value_of v) | None ↦ name_with calls p (meaning_of p first.name) selectors ]) fixed ∙ ap (λ x. name_with calls p x selectors) means

module _ (quiet : QuietStays) (i : Sections) where
  module _ (schedule : List ScheduleLine) (k : Kernel) (t : ℕ) (m : Words) (calm : Calm k t) (f : Frame) (fs : List Frame) where
    -- a number is checked against a subtype
    pub checks : (place : ℕ) (s : Subtype) → At i place (op.Push s.first) → At i (place + 1) (op.Push s.last) → At i (place + 2) op.CheckRange → (z : ℤ) (base : List ℤ)
        → Comes i schedule k t m (placed f place (z ∷ base)) fs 3 (place + 3) (on base) (passed s (Number z))
    checks place s first last check z base =
        let two : (place + 1) + 1 ≡ place + 2 = omega arith in
        let three : (place + 2) + 1 ≡ place + 3 = omega arith in
        after_first quiet i schedule k t m calm (placed f place (z ∷ base)) fs 1 2 (place + 1) (place + 3) (s.first ∷ z ∷ base) (on base) (passed s (Number z)) (omega arith)
        (pushes quiet i schedule k t m calm place s.first first f fs (z ∷ base) (place + 1) refl)
        (after_first quiet i schedule k t m calm (placed f (place + 1) (s.first ∷ z ∷ base)) fs 1 1 (place + 2) (place + 3) (s.last ∷ s.first ∷ z ∷ base) (on base) (passed s (Number z)) (omega arith)
        (pushes quiet i schedule k t m calm (place + 1) s.last last f fs (s.first ∷ z ∷ base) (place + 2) two)
        (by_result quiet i schedule k t m calm (place + 2) f fs (s.last ∷ s.first ∷ z ∷ base) base (in_bounds s.first s.last z) (passed s (Number z))
        (λ schedule k t m. acts quiet i (place + 2) op.CheckRange check schedule k t m f fs (s.last ∷ s.first ∷ z ∷ base))
        (check_word z (is_within s.first s.last z)) (place + 3) three))

    number_passes : (place : ℕ) (s : Subtype) → At i place (op.Push s.first) → At i (place + 1) (op.Push s.last) → At i (place + 2) op.CheckRange → (base : List ℤ) (v : Value) → (z : ℤ) × (v ≡ Number z)
        → Comes i schedule k t m (placed f place (on base v)) fs 3 (place + 3) (on base) (passed s v)
    number_passes place s first last check base v is =
        subst (λ w. Comes i schedule k t m (placed f place (on base w)) fs 3 (place + 3) (on base) (passed s w)) (sym is.1) (checks place s first last check is.0 base)

    -- a value that passes every check needs none
    passes : (from to : ℕ) (base : List ℤ) (s : Subtype) (v : Val Value) → ((a : Value) → v ≡ Gives a → passed s a ≡ Gives a)
        → Comes i schedule k t m (placed f from base) fs (to - from) to (on base) v
        → Comes i schedule k t m (placed f from base) fs (to - from) to (on base) (and_then v (passed s))
    passes from to base s (Gives a) always h = subst (λ w. Comes i schedule k t m (placed f from base) fs (to - from) to (on base) w) (sym (always a refl)) h
    passes from to base s (Raises x) always h = h
    passes from to base s Meaningless always h = tt

    -- one value more
    onto : (from n to : ℕ) (base : List ℤ) (v : Value) (rest : Val (List Value))
        → Comes i schedule k t m (placed f from (on base v)) fs n to (all_on (on base v)) rest
        → Comes i schedule k t m (placed f from (on base v)) fs n to (all_on base) (and_then rest (λ vs. Gives (v ∷ vs)))
    onto from n to base v (Gives vs) h = subst (λ ws. Comes i schedule k t m (placed f from (on base v)) fs n to (λ x. ws) (Gives vs)) (sym (one_on base v vs)) h
    onto from n to base v (Raises x) h = h
    onto from n to base v Meaningless h = tt

  module _ (library : Library) (sight : Sight) where
    pub computes_checked : (from mid : ℕ) (s : Subtype) (e : ExprTree) → from ≤ mid → Computes i library sight from mid e → ComesToNumber i library sight e → Checks i library mid s → ComputesChecked i library sight from (mid + 3) s e
    computes_checked from mid s e le inner number check calls left answers schedule k t m f fs p base calm sees is =
        more quiet i schedule k t m calm (placed f from base) fs ((mid - from) + 3) ((mid + 3) - from) (mid + 3) (on base) (and_then (value_with calls p e) (passed s)) (omega (arith, le))
        (then_comes quiet i schedule k t m calm (placed f from base) fs (mid - from) 3 mid (mid + 3) (on base) (on base) (value_with calls p e) (passed s) le (omega arith)
        (inner calls left answers schedule k t m f fs p base calm sees is)
        (λ v ev. number_passes schedule k t m calm f fs mid s check.0 check.1 check.2 base v (number calls p (view_of i schedule k t m f fs) v answers.sound sees ev)))

    pub computes_unchecked : (from to : ℕ) (s : Subtype) (e : ExprTree) → Computes i library sight from to e → AlwaysPasses i library sight s e → ComputesChecked i library sight from to s e
    computes_unchecked from to s e inner always calls left answers schedule k t m f fs p base calm sees is =
        passes schedule k t m calm f fs from to base s (value_with calls p e) (λ v ev. always calls p (view_of i schedule k t m f fs) v answers.sound sees ev)
        (inner calls left answers schedule k t m f fs p base calm sees is)

    pub computes_none : (from : ℕ) → ComputesAll i library sight from from [] NoArguments
    computes_none from calls left answers schedule k t m f fs p base calm sees is = Done

    pub computes_more : (from mid to : ℕ) (s : Subtype) (ss : List Subtype) (e : ExprTree) (rest : ArgumentTrees) → from ≤ mid → mid ≤ to
        → ComputesChecked i library sight from mid s e
        → ComputesAll i library sight mid to ss rest
        → ComputesAll i library sight from to (s ∷ ss) (MoreArguments (tree.Value e) rest)
    computes_more from mid to s ss e rest le up first second calls left answers schedule k t m f fs p base calm sees is =
        let one = and_then (value_with calls p e) (passed s) in
        let others = actuals_with calls p rest ss in
        more quiet i schedule k t m calm (placed f from base) fs ((mid - from) + (to - mid)) (to - from) to (all_on base) (and_then one (λ v. and_then others (λ vs. Gives (v ∷ vs)))) (omega (arith, le, up))
        (then_comes quiet i schedule k t m calm (placed f from base) fs (mid - from) (to - mid) mid to (on base) (all_on base) one (λ v. and_then others (λ vs. Gives (v ∷ vs))) le up
        (first calls left answers schedule k t m f fs p base calm sees is)
        (λ v ev. onto schedule k t m calm f fs mid (to - mid) to base v others (second calls left answers schedule k t m f fs p (on base v) calm sees is)))

    -- a call of a function
    pub computes_call : (from mid : ℕ) (operation : Operation) (first : Identifier) (selectors : SelectorTrees) (arguments : ArgumentTrees) (ts : List Subtype)
        → from ≤ mid
        → AlwaysNames i library sight first selectors (MoreSelectors (Arguments arguments) NoSelectors) operation ts
        → ArePassedWell i library sight ts arguments
        → ComputesAll i library sight from mid ts arguments
        → At i mid operation
        → Computes i library sight from (suc mid) (tree.Named first selectors)
    computes_call from mid operation first name arguments ts le names passed_well all here calls left answers schedule k t m f fs p base calm sees is =
        let view = view_of i schedule k t m f fs in
        let named = names p view sees in
        let function = named.function in
        let call = called calls p function named.through in
        let actuals = actuals_with calls p arguments ts in
        subst (λ v. Comes i schedule k t m (placed f from base) fs (suc mid - from) (suc mid) (on base) v)
        (sym (named.means calls
        ∙ call_value calls p function named.through (actuals_with calls p arguments (map formal_subtype function.formals))
        ∙ ap (λ us. and_then (actuals_with calls p arguments us) call) named.formals))
        (more quiet i schedule k t m calm (placed f from base) fs ((mid - from) + 1) (suc mid - from) (suc mid) (on base) (and_then actuals call)
        (omega (arith, le))
        (then_comes quiet i schedule k t m calm (placed f from base) fs (mid - from) 1 mid (suc mid) (all_on base) (on base) actuals call le (omega arith)
        (all calls left answers schedule k t m f fs p base calm sees is)
        (λ vs ev. answers.answers schedule k t m f fs p mid base function named.through named.number vs calm named.shared named.coded named.allowed
        (subst (At i mid) (sym named.way) here) (passed_well calls p view function vs answers.sound sees named.formals ev) is)))

    -- the call of a function without formals
    pub computes_call_alone : (from : ℕ) (operation : Operation) (first : Identifier) (selectors : SelectorTrees)
        → AlwaysNames i library sight first selectors NoSelectors operation []
        → ArePassedWell i library sight [] NoArguments
        → At i from operation
        → Computes i library sight from (suc from) (tree.Named first selectors)
    computes_call_alone from operation first name names passed_well here calls left answers schedule k t m f fs p base calm sees is =
        let view = view_of i schedule k t m f fs in
        let named = names p view sees in
        let function = named.function in
        let call = called calls p function named.through [] in
        subst (λ v. Comes i schedule k t m (placed f from base) fs (suc from - from) (suc from) (on base) v) (sym (named.means calls))
        (more quiet i schedule k t m calm (placed f from base) fs 1 (suc from - from) (suc from) (on base) call (omega arith)
        (answers.answers schedule k t m f fs p from base function named.through named.number [] calm named.shared named.coded named.allowed
        (subst (At i from) (sym named.way) here) (passed_well calls p view function [] answers.sound sees named.formals refl) is))
