-- How code computes expressions: one lemma for each form.
use Rattle.std.proofs.Common.{◌≡◌, ℕ, suc, ◌+◌, ◌-◌, ◌≤◌, ℤ, List, ◌∷◌, length, Option, None, Some, Bool, true, false, refl, sym, ◌∙◌, subst, arith, ◌⊎◌, inl, inr, ⊎_elim}
use Rattle.std.specs.Prelude.{pos}
use Rattle.base.specs.declared.schedule.ScheduleLine.{ScheduleLine}
use Rattle.kernel.specs.State.{Kernel}
use Rattle.kernel.specs.Calm.{Calm}
use Rattle.kernel.specs.Counting.{Spends}
use Rattle.kernel.specs.Laws.{QuietStays}
use Rattle.kernel.specs.RunLaws.{spends_trans}
use Rattle.ada_tree.specs.declared.expression.UnaryOperator.{UnaryOperator}
use Rattle.ada_tree.specs.declared.expression.UnaryOperator.TheVariants as unary
use Rattle.ada_tree.specs.declared.expression.BinaryOperator.{BinaryOperator}
use Rattle.ada_tree.specs.declared.expression.BinaryOperator.TheVariants as binary
use Rattle.ada_tree.specs.ExpressionTree as tree
use Rattle.ada_tree.specs.ExpressionTree.{ExprTree, ElsifValueTrees, NoElsifValues, MoreElsifValues}
use Rattle.image.specs.Sections.{Sections}
use Rattle.image.specs.Frames.{Words, Frame}
use Rattle.image.specs.Steps.{act, behaviour, gives}
use Rattle.image.specs.declared.instruction.Operation.TheVariants as op
use Rattle.types.specs.Values.{Value, Number, Truth}
use Rattle.types.specs.Shapes.{word_of}
use Rattle.types.specs.Evaluations.{Val, Gives, Raises, Meaningless, and_then}
use Rattle.types.specs.Operators.{binary_value, unary_value, is_decided}
use Rattle.types.specs.Places.{Place}
use Rattle.types.specs.Evaluating.{Calls, elsif_with, truth_of, value_with}
use Rattle.expr_soundness.specs.meaning.specs.MeetingLaws.{takes_more}
use Rattle.expr_soundness.specs.meaning.specs.SameMeaning.{frames_of}
use Rattle.expr_code.specs.Views.{At, in_frame, placed, Sight, view_of}
use Rattle.expr_code.specs.Coming.{Comes, most_steps, on}
use Rattle.expr_code.specs.OperatorCode.{binary_operation, binary_words, Has, unary_operation, unary_words}
use Rattle.expr_code.specs.Computing.{Computes, ComputesElse, Everywhere, IsTruth, Library}
use Rattle.expr_code.proofs.Coming.{acts, steps, more, after_first, then_comes, by_result, pushes}
use Rattle.expr_code.proofs.Operators.{number_word_of, numbers_word, truth_word_of, truths_word}

-- what an operator that may leave out its right operand makes of the value of its left one
abbrev short : Calls → Place → BinaryOperator → ExprTree → Value → Val Value
short calls p o b v = elim (is_decided o v) [ true ↦ Gives v | false ↦ and_then (value_with calls p b) (binary_value o v) ]

-- three evaluations one behind another
pub and_then_again : {A B C : Type 0} (a : Val A) (f : A → Val B) (g : B → Val C) → and_then (and_then a f) g ≡ and_then a (λ x. and_then (f x) g)
and_then_again (Gives a) f g = refl
and_then_again (Raises x) f g = refl
and_then_again Meaningless f g = refl

-- what an if expression chooses
abbrev chosen_of : {A : Type 0} → Val A → Val A → Bool → Val A
chosen_of one other holds = elim holds [ true ↦ one | false ↦ other ]

abbrev found_or : Calls → Place → ExprTree → Option Value → Val Value
found_or calls p e found = elim found [ Some v ↦ Gives v | None ↦ value_with calls p e ]

found_value : (calls : Calls) (p : Place) (e : ExprTree) (v : Val Value) → and_then (and_then v (λ w. Gives (Some w))) (found_or calls p e) ≡ v
found_value calls p e (Gives v) = refl
found_value calls p e (Raises x) = refl
found_value calls p e Meaningless = refl

each_holds : (calls : Calls) (p : Place) (e : ExprTree) (one : Val Value) (other : Val (Option Value)) (holds : Bool)
    → and_then (chosen_of (and_then one (λ v. Gives (Some v))) other holds) (found_or calls p e) ≡ chosen_of one (and_then other (found_or calls p e)) holds
each_holds calls p e one other true = found_value calls p e one
each_holds calls p e one other false = refl

module _ (quiet : QuietStays) (i : Sections) where
  module _ (schedule : List ScheduleLine) (k : Kernel) (t : ℕ) (m : Words) (calm : Calm k t) (f : Frame) (fs : List Frame) where
    -- an operator of one operand, whose value stands on the stack
    unary_word : (place : ℕ) (o : UnaryOperator) → Has i place (unary_operation o) → (w : ℤ) (base : List ℤ)
        → (schedule : List ScheduleLine) (k : Kernel) (t : ℕ) (m : Words)
        → act i schedule k t (in_frame m (placed f place (w ∷ base)) fs) ≡ gives i schedule k t m (placed f place (w ∷ base)) fs (unary_words o w) base
    unary_word place unary.Plus here w base schedule k t m = absurd here
    unary_word place unary.Minus here w base schedule k t m = acts quiet i place op.Negate here schedule k t m f fs (w ∷ base)
    unary_word place unary.Abs here w base schedule k t m = acts quiet i place op.Absolute here schedule k t m f fs (w ∷ base)
    unary_word place unary.Not here w base schedule k t m = acts quiet i place op.Not here schedule k t m f fs (w ∷ base)

    pub unary_comes : (place : ℕ) (o : UnaryOperator) → Has i place (unary_operation o) → (v : Value) (base : List ℤ)
        → Comes i schedule k t m (placed f place (on base v)) fs 1 (suc place) (on base) (unary_value o v)
    unary_comes place o here (Number x) base =
        by_result quiet i schedule k t m calm place f fs (x ∷ base) base (unary_words o x) (unary_value o (Number x)) (unary_word place o here x base) (number_word_of o x) (suc place) (omega arith)
    unary_comes place o here (Truth x) base =
        by_result quiet i schedule k t m calm place f fs (word_of x ∷ base) base (unary_words o (word_of x)) (unary_value o (Truth x)) (unary_word place o here (word_of x) base) (truth_word_of o x) (suc place) (omega arith)
    unary_comes place unary.Plus here v base = absurd here
    unary_comes place o here v base = tt

    -- an operator of two operands, whose values stand on the stack
    binary_word : (place : ℕ) (o : BinaryOperator) → Has i place (binary_operation o) → (x y : ℤ) (base : List ℤ)
        → (schedule : List ScheduleLine) (k : Kernel) (t : ℕ) (m : Words)
        → act i schedule k t (in_frame m (placed f place (y ∷ x ∷ base)) fs) ≡ gives i schedule k t m (placed f place (y ∷ x ∷ base)) fs (binary_words o x y) base
    binary_word place binary.Add here x y base schedule k t m = acts quiet i place op.Add here schedule k t m f fs (y ∷ x ∷ base)
    binary_word place binary.Subtract here x y base schedule k t m = acts quiet i place op.Subtract here schedule k t m f fs (y ∷ x ∷ base)
    binary_word place binary.Multiply here x y base schedule k t m = acts quiet i place op.Multiply here schedule k t m f fs (y ∷ x ∷ base)
    binary_word place binary.Divide here x y base schedule k t m = acts quiet i place op.Divide here schedule k t m f fs (y ∷ x ∷ base)
    binary_word place binary.Mod here x y base schedule k t m = acts quiet i place op.Modulo here schedule k t m f fs (y ∷ x ∷ base)
    binary_word place binary.Rem here x y base schedule k t m = acts quiet i place op.Remainder here schedule k t m f fs (y ∷ x ∷ base)
    binary_word place binary.Equal here x y base schedule k t m = acts quiet i place op.Equal here schedule k t m f fs (y ∷ x ∷ base)
    binary_word place binary.NotEqual here x y base schedule k t m = acts quiet i place op.NotEqual here schedule k t m f fs (y ∷ x ∷ base)
    binary_word place binary.Less here x y base schedule k t m = acts quiet i place op.Less here schedule k t m f fs (y ∷ x ∷ base)
    binary_word place binary.LessOrEqual here x y base schedule k t m = acts quiet i place op.LessOrEqual here schedule k t m f fs (y ∷ x ∷ base)
    binary_word place binary.Greater here x y base schedule k t m = acts quiet i place op.Greater here schedule k t m f fs (y ∷ x ∷ base)
    binary_word place binary.GreaterOrEqual here x y base schedule k t m = acts quiet i place op.GreaterOrEqual here schedule k t m f fs (y ∷ x ∷ base)
    binary_word place binary.And here x y base schedule k t m = acts quiet i place op.And here schedule k t m f fs (y ∷ x ∷ base)
    binary_word place binary.Or here x y base schedule k t m = acts quiet i place op.Or here schedule k t m f fs (y ∷ x ∷ base)
    binary_word place binary.Xor here x y base schedule k t m = acts quiet i place op.ExclusiveOr here schedule k t m f fs (y ∷ x ∷ base)
    binary_word place o here x y base schedule k t m = absurd here

    not_short : (place : ℕ) (o : BinaryOperator) → Has i place (binary_operation o) → (o ≡ binary.AndThen → ⊥) × (o ≡ binary.OrElse → ⊥)
    not_short place binary.AndThen here = absurd here
    not_short place binary.OrElse here = absurd here
    not_short place o here = (λ e. absurd cc, λ e. absurd cc)

    pub binary_comes : (place : ℕ) (o : BinaryOperator) → Has i place (binary_operation o) → (v w : Value) (base : List ℤ)
        → Comes i schedule k t m (placed f place (on (on base v) w)) fs 1 (suc place) (on base) (binary_value o v w)
    binary_comes place o here (Number x) (Number y) base =
        by_result quiet i schedule k t m calm place f fs (y ∷ x ∷ base) base (binary_words o x y) (binary_value o (Number x) (Number y)) (binary_word place o here x y base) (numbers_word o x y) (suc place) (omega arith)
    binary_comes place o here (Truth x) (Truth y) base =
        let n = not_short place o here in
        by_result quiet i schedule k t m calm place f fs (word_of y ∷ word_of x ∷ base) base (binary_words o (word_of x) (word_of y)) (binary_value o (Truth x) (Truth y)) (binary_word place o here (word_of x) (word_of y) base)
        (truths_word o x y n.0 n.1) (suc place) (omega arith)
    binary_comes place binary.AndThen here v w base = absurd here
    binary_comes place o here v w base = tt

    -- `and then`, `or else`: the left operand stands on the stack; where it decides, a jump leads behind the right one (RM 4.5.1)
    copies : (place : ℕ) → At i place op.Duplicate → (w : ℤ) (base : List ℤ)
        → Spends (behaviour i schedule) t frames_of (most_steps i) (suc (length fs)) 1 k (in_frame m (placed f place (w ∷ base)) fs) k (in_frame m (placed f (place + 1) (w ∷ w ∷ base)) fs)
    copies place here w base =
        steps quiet i schedule k t m calm (placed f place (w ∷ base)) (placed f (place + 1) (w ∷ w ∷ base)) fs (acts quiet i place op.Duplicate here schedule k t m f fs (w ∷ base))

    drops : (place : ℕ) → At i place op.Drop → (w : ℤ) (base : List ℤ)
        → Spends (behaviour i schedule) t frames_of (most_steps i) (suc (length fs)) 1 k (in_frame m (placed f place (w ∷ base)) fs) k (in_frame m (placed f (place + 1) base) fs)
    drops place here w base = steps quiet i schedule k t m calm (placed f place (w ∷ base)) (placed f (place + 1) base) fs (acts quiet i place op.Drop here schedule k t m f fs (w ∷ base))

    -- a jump where the word is 0, and where it isn't
    pub jumps_at_zero : (place to : ℕ) → At i place (op.JumpIfZero to) → (base : List ℤ)
        → Spends (behaviour i schedule) t frames_of (most_steps i) (suc (length fs)) 1 k (in_frame m (placed f place (pos 0 ∷ base)) fs) k (in_frame m (placed f to base) fs)
    jumps_at_zero place to here base =
        steps quiet i schedule k t m calm (placed f place (pos 0 ∷ base)) (placed f to base) fs (acts quiet i place (op.JumpIfZero to) here schedule k t m f fs (pos 0 ∷ base))

    pub passes_at_one : (place to : ℕ) → At i place (op.JumpIfZero to) → (base : List ℤ)
        → Spends (behaviour i schedule) t frames_of (most_steps i) (suc (length fs)) 1 k (in_frame m (placed f place (pos 1 ∷ base)) fs) k (in_frame m (placed f (place + 1) base) fs)
    passes_at_one place to here base =
        steps quiet i schedule k t m calm (placed f place (pos 1 ∷ base)) (placed f (place + 1) base) fs (acts quiet i place (op.JumpIfZero to) here schedule k t m f fs (pos 1 ∷ base))

    jumps_at_one : (place to : ℕ) → At i place (op.JumpIfNotZero to) → (base : List ℤ)
        → Spends (behaviour i schedule) t frames_of (most_steps i) (suc (length fs)) 1 k (in_frame m (placed f place (pos 1 ∷ base)) fs) k (in_frame m (placed f to base) fs)
    jumps_at_one place to here base =
        steps quiet i schedule k t m calm (placed f place (pos 1 ∷ base)) (placed f to base) fs (acts quiet i place (op.JumpIfNotZero to) here schedule k t m f fs (pos 1 ∷ base))

    passes_at_zero : (place to : ℕ) → At i place (op.JumpIfNotZero to) → (base : List ℤ)
        → Spends (behaviour i schedule) t frames_of (most_steps i) (suc (length fs)) 1 k (in_frame m (placed f place (pos 0 ∷ base)) fs) k (in_frame m (placed f (place + 1) base) fs)
    passes_at_zero place to here base =
        steps quiet i schedule k t m calm (placed f place (pos 0 ∷ base)) (placed f (place + 1) base) fs (acts quiet i place (op.JumpIfNotZero to) here schedule k t m f fs (pos 0 ∷ base))

    -- the value that was computed is left as it is by what no instruction stands for
    pub unchanged : (from to : ℕ) (base : List ℤ) (v : Val Value) (go : Value → Val Value)
        → ((a : Value) → (go a ≡ Gives a) ⊎ (go a ≡ Meaningless))
        → Comes i schedule k t m (placed f from base) fs (to - from) to (on base) v
        → Comes i schedule k t m (placed f from base) fs (to - from) to (on base) (and_then v go)
    unchanged from to base (Gives a) go same h = ⊎_elim (λ e. subst (λ x. Comes i schedule k t m (placed f from base) fs (to - from) to (on base) x) (sym e) h) (λ e. subst (λ x. Comes i schedule k t m (placed f from base) fs (to - from) to (on base) x) (sym e) tt) (same a)
    unchanged from to base (Raises x) go same h = h
    unchanged from to base Meaningless go same h = tt

    -- a value, and then a jump
    then_jumps : (from n stop to : ℕ) (base : List ℤ) (v : Val Value) → from ≤ stop → suc stop ≤ to → At i stop (op.Jump to)
        → Comes i schedule k t m (placed f from base) fs n stop (on base) v
        → Comes i schedule k t m (placed f from base) fs (n + 1) to (on base) v
    then_jumps from n stop to base (Gives v) le up jump h =
        spends_trans (behaviour i schedule) t frames_of (most_steps i) 1 k (in_frame m (placed f to (on base v)) fs) h
        (steps quiet i schedule k t m calm (placed f stop (on base v)) (placed f to (on base v)) fs (acts quiet i stop (op.Jump to) jump schedule k t m f fs (on base v)))
    then_jumps from n stop to base (Raises x) le up jump h =
        let below = h.5 in
        (h.0, h.1, h.2, takes_more (behaviour i schedule) t frames_of (most_steps i) (suc (n + 1)) (omega arith) h.3, h.4, omega (arith, below, up), h.6)
    then_jumps from n stop to base Meaningless le up jump h = tt

    -- one of two values, by a condition that stands on the stack
    chooses : (mid stop next to : ℕ) (base : List ℤ) (one other : Val Value) → suc mid ≤ stop → suc stop ≤ next → next ≤ to
        → At i mid (op.JumpIfZero next)
        → At i stop (op.Jump to)
        → Comes i schedule k t m (placed f (mid + 1) base) fs (stop - (mid + 1)) stop (on base) one
        → Comes i schedule k t m (placed f next base) fs (to - next) to (on base) other
        → (v : Value)
        → Comes i schedule k t m (placed f mid (on base v)) fs (to - mid) to (on base) (and_then (truth_of v) (chosen_of one other))
    chooses mid stop next to base one other up on_ end test jump first second (Truth true) =
        more quiet i schedule k t m calm (placed f mid (pos 1 ∷ base)) fs (1 + ((stop - (mid + 1)) + 1)) (to - mid) to (on base) one (omega (arith, up, on_, end))
        (after_first quiet i schedule k t m calm (placed f mid (pos 1 ∷ base)) fs 1 ((stop - (mid + 1)) + 1) (mid + 1) to base (on base) one (omega arith)
        (passes_at_one mid next test base)
        (then_jumps (mid + 1) (stop - (mid + 1)) stop to base one (omega (arith, up)) (omega (arith, on_, end)) jump first))
    chooses mid stop next to base one other up on_ end test jump first second (Truth false) =
        more quiet i schedule k t m calm (placed f mid (pos 0 ∷ base)) fs (1 + (to - next)) (to - mid) to (on base) other (omega (arith, up, on_, end))
        (after_first quiet i schedule k t m calm (placed f mid (pos 0 ∷ base)) fs 1 (to - next) next to base (on base) other (omega (arith, up, on_))
        (jumps_at_zero mid next test base)
        second)
    chooses mid stop next to base one other up on_ end test jump first second v = tt

    -- a condition, and then one of two values
    decides : (from mid stop next to : ℕ) (base : List ℤ) (condition one other : Val Value) → from ≤ mid → suc mid ≤ stop → suc stop ≤ next → next ≤ to
        → At i mid (op.JumpIfZero next)
        → At i stop (op.Jump to)
        → Comes i schedule k t m (placed f from base) fs (mid - from) mid (on base) condition
        → Comes i schedule k t m (placed f (mid + 1) base) fs (stop - (mid + 1)) stop (on base) one
        → Comes i schedule k t m (placed f next base) fs (to - next) to (on base) other
        → Comes i schedule k t m (placed f from base) fs (to - from) to (on base) (and_then (and_then condition truth_of) (chosen_of one other))
    decides from mid stop next to base condition one other le up on_ end test jump at_first first second =
        subst (λ v. Comes i schedule k t m (placed f from base) fs (to - from) to (on base) v) (sym (and_then_again condition truth_of (chosen_of one other)))
        (more quiet i schedule k t m calm (placed f from base) fs ((mid - from) + (to - mid)) (to - from) to (on base) (and_then condition (λ v. and_then (truth_of v) (chosen_of one other))) (omega (arith, le, up, on_, end))
        (then_comes quiet i schedule k t m calm (placed f from base) fs (mid - from) (to - mid) mid to (on base) (on base) condition (λ v. and_then (truth_of v) (chosen_of one other)) le (omega (arith, up, on_, end))
        at_first
        (λ v ev. chooses mid stop next to base one other up on_ end test jump first second v)))

  module _ (library : Library) (sight : Sight) where
    pub computes_number : (from place : ℕ) (z : ℤ) → At i from (op.Push z) → Computes i library sight from (suc from) (tree.Number z place)
    computes_number from place z here calls left answers schedule k t m f fs p base calm sees e =
        more quiet i schedule k t m calm (placed f from base) fs 1 (suc from - from) (suc from) (on base) (Gives (Number z)) (omega arith)
        (pushes quiet i schedule k t m calm from z here f fs base (suc from) (omega arith))

    -- an operator of one operand
    plus_same : (a : Value) → (unary_value unary.Plus a ≡ Gives a) ⊎ (unary_value unary.Plus a ≡ Meaningless)
    plus_same (Number z) = inl refl
    plus_same v = inr refl

    pub computes_plus : (from to place : ℕ) (e : ExprTree) → Computes i library sight from to e → Computes i library sight from to (tree.Unary unary.Plus place e)
    computes_plus from to place e inner calls left answers schedule k t m f fs p base calm sees is =
        unchanged schedule k t m calm f fs from to base (value_with calls p e) (unary_value unary.Plus) plus_same (inner calls left answers schedule k t m f fs p base calm sees is)

    pub computes_unary : (from to place : ℕ) (o : UnaryOperator) (e : ExprTree) → from ≤ to → Computes i library sight from to e → Has i to (unary_operation o) → Computes i library sight from (suc to) (tree.Unary o place e)
    computes_unary from to place o e le inner here calls left answers schedule k t m f fs p base calm sees is =
        more quiet i schedule k t m calm (placed f from base) fs ((to - from) + 1) (suc to - from) (suc to) (on base) (and_then (value_with calls p e) (unary_value o)) (omega (arith, le))
        (then_comes quiet i schedule k t m calm (placed f from base) fs (to - from) 1 to (suc to) (on base) (on base) (value_with calls p e) (unary_value o) le (omega arith)
        (inner calls left answers schedule k t m f fs p base calm sees is)
        (λ v ev. unary_comes schedule k t m calm f fs to o here v base))

    -- an operator of two operands, both of which are evaluated
    undecided : (o : BinaryOperator) (v : Value) (place : ℕ) → Has i place (binary_operation o) → is_decided o v ≡ false
    undecided binary.AndThen v place here = absurd here
    undecided binary.OrElse v place here = absurd here
    undecided o v place here = refl

    pub computes_binary : (from mid to : ℕ) (o : BinaryOperator) (a b : ExprTree) → from ≤ mid → mid ≤ to
        → Computes i library sight from mid a
        → Computes i library sight mid to b
        → Has i to (binary_operation o)
        → Computes i library sight from (suc to) (tree.Binary o a b)
    computes_binary from mid to o a b le up first second here calls left answers schedule k t m f fs p base calm sees is =
        let one = value_with calls p a in
        let two = value_with calls p b in
        let go : Value → Val Value = λ v. elim (is_decided o v) [ true ↦ Gives v | false ↦ and_then two (binary_value o v) ] in
        more quiet i schedule k t m calm (placed f from base) fs ((mid - from) + ((to - mid) + 1)) (suc to - from) (suc to) (on base) (and_then one go) (omega (arith, le, up))
        (then_comes quiet i schedule k t m calm (placed f from base) fs (mid - from) ((to - mid) + 1) mid (suc to) (on base) (on base) one go le (omega (arith, up))
        (first calls left answers schedule k t m f fs p base calm sees is)
        (λ v ev. subst (λ d. Comes i schedule k t m (placed f mid (on base v)) fs ((to - mid) + 1) (suc to) (on base) (elim d [ true ↦ Gives v | false ↦ and_then two (binary_value o v) ])) (sym (undecided o v to here))
        (then_comes quiet i schedule k t m calm (placed f mid (on base v)) fs (to - mid) 1 to (suc to) (on (on base v)) (on base) two (binary_value o v) up (omega arith)
        (second calls left answers schedule k t m f fs p (on base v) calm sees is)
        (λ w ew. binary_comes schedule k t m calm f fs to o here v w base))))

    -- `and then`: the left operand; a copy of it; where it is False, a jump behind the right one, and else the right one in its place
    and_then_comes : (from mid to : ℕ) (b : ExprTree) (calls : Calls) (p : Place) (schedule : List ScheduleLine) (k : Kernel) (t : ℕ) (m : Words) (calm : Calm k t) (f : Frame) (fs : List Frame) (base : List ℤ) (x : Bool)
        → mid + 3 ≤ to
        → At i mid op.Duplicate → At i (mid + 1) (op.JumpIfZero to) → At i (mid + 2) op.Drop
        → Comes i schedule k t m (placed f (mid + 3) base) fs (to - (mid + 3)) to (on base) (value_with calls p b)
        → Comes i schedule k t m (placed f mid (word_of x ∷ base)) fs (to - mid) to (on base)
        (elim (is_decided binary.AndThen (Truth x)) [ true ↦ Gives (Truth x) | false ↦ and_then (value_with calls p b) (binary_value binary.AndThen (Truth x)) ])
    and_then_comes from mid to b calls p schedule k t m calm f fs base false le copy jump drop second =
        more quiet i schedule k t m calm (placed f mid (pos 0 ∷ base)) fs 2 (to - mid) to (on base) (Gives (Truth false)) (omega (arith, le))
        (spends_trans (behaviour i schedule) t frames_of (most_steps i) 1 k (in_frame m (placed f to (pos 0 ∷ base)) fs)
        (copies schedule k t m calm f fs mid copy (pos 0) base)
        (jumps_at_zero schedule k t m calm f fs (mid + 1) to jump (pos 0 ∷ base)))
    and_then_comes from mid to b calls p schedule k t m calm f fs base true le copy jump drop second =
        let two : (mid + 1) + 1 ≡ mid + 2 = omega arith in
        let three : (mid + 2) + 1 ≡ mid + 3 = omega arith in
        let both = and_then (value_with calls p b) (binary_value binary.AndThen (Truth true)) in
        more quiet i schedule k t m calm (placed f mid (pos 1 ∷ base)) fs (1 + (1 + (1 + (to - (mid + 3))))) (to - mid) to (on base) both (omega (arith, le))
        (after_first quiet i schedule k t m calm (placed f mid (pos 1 ∷ base)) fs 1 (1 + (1 + (to - (mid + 3)))) (mid + 1) to (pos 1 ∷ pos 1 ∷ base) (on base) both (omega arith)
        (copies schedule k t m calm f fs mid copy (pos 1) base)
        (after_first quiet i schedule k t m calm (placed f (mid + 1) (pos 1 ∷ pos 1 ∷ base)) fs 1 (1 + (to - (mid + 3))) (mid + 2) to (pos 1 ∷ base) (on base) both (omega arith)
        (subst (λ n. Spends (behaviour i schedule) t frames_of (most_steps i) (suc (length fs)) 1 k (in_frame m (placed f (mid + 1) (pos 1 ∷ pos 1 ∷ base)) fs) k (in_frame m (placed f n (pos 1 ∷ base)) fs)) two
        (passes_at_one schedule k t m calm f fs (mid + 1) to jump (pos 1 ∷ base)))
        (after_first quiet i schedule k t m calm (placed f (mid + 2) (pos 1 ∷ base)) fs 1 (to - (mid + 3)) (mid + 3) to base (on base) both (omega arith)
        (subst (λ n. Spends (behaviour i schedule) t frames_of (most_steps i) (suc (length fs)) 1 k (in_frame m (placed f (mid + 2) (pos 1 ∷ base)) fs) k (in_frame m (placed f n base) fs)) three
        (drops schedule k t m calm f fs (mid + 2) drop (pos 1) base))
        (unchanged schedule k t m calm f fs (mid + 3) to base (value_with calls p b) (binary_value binary.AndThen (Truth true)) right_same second))))
      where
        right_same : (a : Value) → (binary_value binary.AndThen (Truth true) a ≡ Gives a) ⊎ (binary_value binary.AndThen (Truth true) a ≡ Meaningless)
        right_same (Truth y) = inl refl
        right_same v = inr refl

    -- `or else` likewise, where it is True
    or_else_comes : (from mid to : ℕ) (b : ExprTree) (calls : Calls) (p : Place) (schedule : List ScheduleLine) (k : Kernel) (t : ℕ) (m : Words) (calm : Calm k t) (f : Frame) (fs : List Frame) (base : List ℤ) (x : Bool)
        → mid + 3 ≤ to
        → At i mid op.Duplicate → At i (mid + 1) (op.JumpIfNotZero to) → At i (mid + 2) op.Drop
        → Comes i schedule k t m (placed f (mid + 3) base) fs (to - (mid + 3)) to (on base) (value_with calls p b)
        → Comes i schedule k t m (placed f mid (word_of x ∷ base)) fs (to - mid) to (on base)
        (elim (is_decided binary.OrElse (Truth x)) [ true ↦ Gives (Truth x) | false ↦ and_then (value_with calls p b) (binary_value binary.OrElse (Truth x)) ])
    or_else_comes from mid to b calls p schedule k t m calm f fs base true le copy jump drop second =
        more quiet i schedule k t m calm (placed f mid (pos 1 ∷ base)) fs 2 (to - mid) to (on base) (Gives (Truth true)) (omega (arith, le))
        (spends_trans (behaviour i schedule) t frames_of (most_steps i) 1 k (in_frame m (placed f to (pos 1 ∷ base)) fs)
        (copies schedule k t m calm f fs mid copy (pos 1) base)
        (jumps_at_one schedule k t m calm f fs (mid + 1) to jump (pos 1 ∷ base)))
    or_else_comes from mid to b calls p schedule k t m calm f fs base false le copy jump drop second =
        let two : (mid + 1) + 1 ≡ mid + 2 = omega arith in
        let three : (mid + 2) + 1 ≡ mid + 3 = omega arith in
        let both = and_then (value_with calls p b) (binary_value binary.OrElse (Truth false)) in
        more quiet i schedule k t m calm (placed f mid (pos 0 ∷ base)) fs (1 + (1 + (1 + (to - (mid + 3))))) (to - mid) to (on base) both (omega (arith, le))
        (after_first quiet i schedule k t m calm (placed f mid (pos 0 ∷ base)) fs 1 (1 + (1 + (to - (mid + 3)))) (mid + 1) to (pos 0 ∷ pos 0 ∷ base) (on base) both (omega arith)
        (copies schedule k t m calm f fs mid copy (pos 0) base)
        (after_first quiet i schedule k t m calm (placed f (mid + 1) (pos 0 ∷ pos 0 ∷ base)) fs 1 (1 + (to - (mid + 3))) (mid + 2) to (pos 0 ∷ base) (on base) both (omega arith)
        (subst (λ n. Spends (behaviour i schedule) t frames_of (most_steps i) (suc (length fs)) 1 k (in_frame m (placed f (mid + 1) (pos 0 ∷ pos 0 ∷ base)) fs) k (in_frame m (placed f n (pos 0 ∷ base)) fs)) two
        (passes_at_zero schedule k t m calm f fs (mid + 1) to jump (pos 0 ∷ base)))
        (after_first quiet i schedule k t m calm (placed f (mid + 2) (pos 0 ∷ base)) fs 1 (to - (mid + 3)) (mid + 3) to base (on base) both (omega arith)
        (subst (λ n. Spends (behaviour i schedule) t frames_of (most_steps i) (suc (length fs)) 1 k (in_frame m (placed f (mid + 2) (pos 0 ∷ base)) fs) k (in_frame m (placed f n base) fs)) three
        (drops schedule k t m calm f fs (mid + 2) drop (pos 0) base))
        (unchanged schedule k t m calm f fs (mid + 3) to base (value_with calls p b) (binary_value binary.OrElse (Truth false)) right_same second))))
      where
        right_same : (a : Value) → (binary_value binary.OrElse (Truth false) a ≡ Gives a) ⊎ (binary_value binary.OrElse (Truth false) a ≡ Meaningless)
        right_same (Truth y) = inl refl
        right_same v = inr refl

    -- the left operand is a truth value, wherever it has a value
    as_truth : (from to : ℕ) (o : BinaryOperator) (b : ExprTree) (calls : Calls) (p : Place) (schedule : List ScheduleLine) (k : Kernel) (t : ℕ) (m : Words) (f : Frame) (fs : List Frame) (base : List ℤ) (v : Value)
        → ((x : Bool) → Comes i schedule k t m (placed f from (word_of x ∷ base)) fs (to - from) to (on base)
        (elim (is_decided o (Truth x)) [ true ↦ Gives (Truth x) | false ↦ and_then (value_with calls p b) (binary_value o (Truth x)) ]))
        → (b : Bool) × (v ≡ Truth b)
        → Comes i schedule k t m (placed f from (on base v)) fs (to - from) to (on base) (short calls p o b v)
    as_truth from to o b calls p schedule k t m f fs base v each is =
        subst (λ w. Comes i schedule k t m (placed f from (on base w)) fs (to - from) to (on base) (short calls p o b w)) (sym is.1) (each is.0)

    pub computes_and_then : (from mid to : ℕ) (a b : ExprTree) → from ≤ mid → mid + 3 ≤ to
        → Computes i library sight from mid a
        → IsTruth i library sight a
        → At i mid op.Duplicate → At i (mid + 1) (op.JumpIfZero to) → At i (mid + 2) op.Drop
        → Computes i library sight (mid + 3) to b
        → Computes i library sight from to (tree.Binary binary.AndThen a b)
    computes_and_then from mid to a b le up first truth copy jump drop second calls left answers schedule k t m f fs p base calm sees is =
        more quiet i schedule k t m calm (placed f from base) fs ((mid - from) + (to - mid)) (to - from) to (on base) (and_then (value_with calls p a) (short calls p binary.AndThen b)) (omega (arith, le, up))
        (then_comes quiet i schedule k t m calm (placed f from base) fs (mid - from) (to - mid) mid to (on base) (on base) (value_with calls p a) (short calls p binary.AndThen b) le (omega (arith, up))
        (first calls left answers schedule k t m f fs p base calm sees is)
        (λ v ev. as_truth mid to binary.AndThen b calls p schedule k t m f fs base v
        (λ x. and_then_comes from mid to b calls p schedule k t m calm f fs base x up copy jump drop (second calls left answers schedule k t m f fs p base calm sees is))
        (truth calls p (view_of i schedule k t m f fs) v answers.sound sees ev)))

    pub computes_or_else : (from mid to : ℕ) (a b : ExprTree) → from ≤ mid → mid + 3 ≤ to
        → Computes i library sight from mid a
        → IsTruth i library sight a
        → At i mid op.Duplicate → At i (mid + 1) (op.JumpIfNotZero to) → At i (mid + 2) op.Drop
        → Computes i library sight (mid + 3) to b
        → Computes i library sight from to (tree.Binary binary.OrElse a b)
    computes_or_else from mid to a b le up first truth copy jump drop second calls left answers schedule k t m f fs p base calm sees is =
        more quiet i schedule k t m calm (placed f from base) fs ((mid - from) + (to - mid)) (to - from) to (on base) (and_then (value_with calls p a) (short calls p binary.OrElse b)) (omega (arith, le, up))
        (then_comes quiet i schedule k t m calm (placed f from base) fs (mid - from) (to - mid) mid to (on base) (on base) (value_with calls p a) (short calls p binary.OrElse b) le (omega (arith, up))
        (first calls left answers schedule k t m f fs p base calm sees is)
        (λ v ev. as_truth mid to binary.OrElse b calls p schedule k t m f fs base v
        (λ x. or_else_comes from mid to b calls p schedule k t m calm f fs base x up copy jump drop (second calls left answers schedule k t m f fs p base calm sees is))
        (truth calls p (view_of i schedule k t m f fs) v answers.sound sees ev)))

    -- if expressions: what stands behind the first value
    else_computes : (from to : ℕ) (elsifs : ElsifValueTrees) (e : ExprTree) → ComputesElse i library sight from to elsifs e
        → Everywhere i library sight from to on (λ calls p. and_then (elsif_with calls p elsifs) (found_or calls p e))
    else_computes from to NoElsifValues e code calls left answers schedule k t m f fs p base calm sees is = code.1 calls left answers schedule k t m f fs p base calm sees is
    else_computes from to (MoreElsifValues condition value rest) e code calls left answers schedule k t m f fs p base calm sees is =
        let mid = code.0 in
        let stop = code.1 in
        let next = code.2 in
        let one = value_with calls p value in
        let other = elsif_with calls p rest in
        let holds = and_then (value_with calls p condition) truth_of in
        let back = else_computes next to rest e code.11 calls left answers schedule k t m f fs p base calm sees is in
        subst (λ v. Comes i schedule k t m (placed f from base) fs (to - from) to (on base) v)
        (sym (and_then_again holds (chosen_of (and_then one (λ v. Gives (Some v))) other) (found_or calls p e) ∙ (λ j. and_then holds (λ b. each_holds calls p e one other b j))))
        (decides schedule k t m calm f fs from mid stop next to base (value_with calls p condition) one (and_then other (found_or calls p e)) code.3 code.4 code.5 code.6 code.8 code.10
        (code.7 calls left answers schedule k t m f fs p base calm sees is)
        (code.9 calls left answers schedule k t m f fs p base calm sees is)
        back)

    pub computes_conditional : (from mid stop next to place : ℕ) (condition value : ExprTree) (elsifs : ElsifValueTrees) (e : ExprTree)
        → from ≤ mid → suc mid ≤ stop → suc stop ≤ next → next ≤ to
        → Computes i library sight from mid condition
        → At i mid (op.JumpIfZero next)
        → Computes i library sight (mid + 1) stop value
        → At i stop (op.Jump to)
        → ComputesElse i library sight next to elsifs e
        → Computes i library sight from to (tree.Conditional place condition value elsifs e)
    computes_conditional from mid stop next to place condition value elsifs e le up on_ end first test second jump rest calls left answers schedule k t m f fs p base calm sees is =
        decides schedule k t m calm f fs from mid stop next to base (value_with calls p condition) (value_with calls p value) (and_then (elsif_with calls p elsifs) (found_or calls p e)) le up on_ end test jump
        (first calls left answers schedule k t m f fs p base calm sees is)
        (second calls left answers schedule k t m f fs p base calm sees is)
        (else_computes next to elsifs e rest calls left answers schedule k t m f fs p base calm sees is)
