-- Names: objects and parts of them, constants, conversions, the functions of the language.
use Rattle.std.proofs.Common.{◌≡◌, ℕ, zero, suc, ◌+◌, ◌-◌, ◌≤◌, ℤ, List, [], ◌∷◌, ◌++◌, cond, length, reverse, None, Some, Ok, Bool, true, false, refl, sym, ap, ◌∙◌, subst, arith, ◌⊎◌, inl, inr}
use Rattle.std.specs.Prelude.{pos, negsuc, nat_le, ◌&&◌, take, drop, slice_get}
use Rattle.base.specs.Arithmetic.{constraint_error, product_of}
use Rattle.base.specs.declared.exceptions.PredefinedException.TheVariants.{ConstraintError}
use Rattle.base.specs.Schedule.{input}
use Rattle.base.specs.declared.limits.TheConstants.{CHANNELS}
use Rattle.base.specs.declared.schedule.ScheduleLine.{ScheduleLine}
use Rattle.kernel.specs.State.{Kernel}
use Rattle.kernel.specs.Effects.{Quiet}
use Rattle.kernel.specs.Calm.{Calm}
use Rattle.kernel.specs.Counting.{Spends}
use Rattle.kernel.specs.Laws.{QuietStays}
use Rattle.kernel.specs.RunLaws.{spends_trans}
use Rattle.ada_tree.specs.declared.expression.Identifier.{Identifier}
use Rattle.ada_tree.specs.ExpressionTree as tree
use Rattle.ada_tree.specs.ExpressionTree.{Arguments, ExprTree, MoreArguments, MoreSelectors, NoArguments, NoSelectors, SelectorTrees}
use Rattle.image.specs.Sections.{Sections}
use Rattle.image.specs.Frames.{Words, Frame, region_words, word_at, words_at}
use Rattle.image.specs.Steps.{act, behaviour, block_loaded, does, gives, loaded}
use Rattle.image.specs.declared.instruction.Operation.TheVariants as op
use Rattle.image.specs.declared.instruction.Region.{Region}
use Rattle.image.specs.declared.instruction.Region.TheVariants as regions
use Rattle.types.specs.declared.entity.PredefinedOperation.TheVariants as predefined
use Rattle.types.specs.declared.entity.Subtype.{Subtype}
use Rattle.types.specs.declared.entity.Value.{Value as Scalar}
use Rattle.types.specs.declared.entity.Value.TheVariants as scalar
use Rattle.types.specs.Entities.{Integers}
use Rattle.types.specs.Scopes.{form_at, integer}
use Rattle.types.specs.Values.{Value, Number, value_of}
use Rattle.types.specs.Shapes.{value_words}
use Rattle.types.specs.Evaluations.{Val, Gives, Raises, Meaningless, and_then, raise}
use Rattle.types.specs.Places.{IsPredefined, IsSubtype, Meaning, Place, meaning_of}
use Rattle.types.specs.Evaluating.{Calls, actuals_with, applied, channels, ended, name_with, passed, predefined_value, value_with, wanted, wanted_by_conversion}
use Rattle.expr_soundness.specs.meaning.specs.SameMeaning.{frames_of}
use Rattle.expr_code.specs.Views.{At, in_frame, placed, Sight, View, view_of}
use Rattle.expr_code.specs.Coming.{Comes, most_steps, on}
use Rattle.expr_code.specs.Computing.{Computes, ComputesChecked, ComesToNumber, Library}
use Rattle.expr_code.specs.Naming.{IsFixed, IsStored, Lies, NamesMeaning, SeesTime, load_operation, scalar_word}
use Rattle.expr_code.proofs.Coming.{acts, steps, more, after_first, then_comes, by_result, pushes}
use Rattle.expr_code.proofs.Expressions.{and_then_again, unchanged}
use Rattle.expr_code.proofs.Operators.{number_word}
use Rattle.expr_code.proofs.Passing.{named_value, value_alone}

-- ---- words

held : (b : Bool) (xs ys : List ℤ) → cond b (Some xs) None ≡ Some ys → xs ≡ ys
held true xs ys e = cc
held false xs ys e = absurd cc

first_word : (words : List ℤ) (a : ℕ) (w : ℤ) → take 1 (drop a words) ≡ w ∷ [] → slice_get words a ≡ Some w
first_word [] zero w e = absurd cc
first_word [] (suc a) w e = absurd cc
first_word (x ∷ words) zero w e = let same : x ≡ w = cc in ap Some same
first_word (x ∷ words) (suc a) w e = first_word words a w e

pub single : (ws : List ℤ) → length ws ≡ 1 → (w : ℤ) × (ws ≡ w ∷ [])
single [] e = absurd (omega (arith, e))
single (w ∷ []) e = (w, refl)
single (w ∷ x ∷ ws) e = absurd (omega (arith, e))

-- the single word of a value
pub word_there : (words : List ℤ) (a : ℕ) (v : Value) (w : ℤ) → Lies words a v → value_words v ≡ w ∷ [] → word_at words (pos a) ≡ Some w
word_there words a v w lies is =
    let lie : words_at words (pos a) 1 ≡ Some (w ∷ []) = subst (λ ws. words_at words (pos a) (length ws) ≡ Some ws) is lies in
    first_word words a w (held (nat_le (a + 1) (length words)) (take 1 (drop a words)) (w ∷ []) lie)

fixed_word : (v : Scalar) → value_words (value_of v) ≡ scalar_word v ∷ []
fixed_word (scalar.Number z) = refl
fixed_word (scalar.Truth b) = refl

-- ---- names with a single expression in parentheses

abbrev with_argument : ExprTree → SelectorTrees
with_argument e = MoreSelectors (Arguments (MoreArguments (tree.Value e) NoArguments)) NoSelectors

argument_value : (calls : Calls) (p : Place) (meaning : Meaning) (v : Val Value) (go : Value → Val Value)
    → ((a : Value) → and_then (applied calls p meaning (a ∷ [])) (ended calls p) ≡ go a)
    → and_then (and_then (and_then v (λ a. Gives (a ∷ []))) (applied calls p meaning)) (ended calls p) ≡ and_then v go
argument_value calls p meaning (Gives a) go each = each a
argument_value calls p meaning (Raises x) go each = refl
argument_value calls p meaning Meaningless go each = refl

-- what such a name is worth, where its meaning wants a value of a subtype
argument_named : (calls : Calls) (p : Place) (meaning : Meaning) (s : Subtype) (e : ExprTree) (go : Value → Val Value)
    → wanted p meaning ≡ Some (s ∷ [])
    → ((a : Value) → and_then (applied calls p meaning (a ∷ [])) (ended calls p) ≡ go a)
    → name_with calls p meaning (with_argument e) ≡ and_then (and_then (value_with calls p e) (passed s)) go
argument_named calls p meaning s e go wants each =
    ap (λ o. and_then (elim o [ Some ts ↦ and_then (actuals_with calls p (MoreArguments (tree.Value e) NoArguments) ts) (applied calls p meaning) | None ↦ Meaningless ]) (ended calls p)) wants
    ∙ argument_value calls p meaning (and_then (value_with calls p e) (passed s)) go each

-- what operations of the language make of a number
microseconds_same : (p : Place) (a : Value) → (predefined_value p predefined.Microseconds (a ∷ []) ≡ Gives a) ⊎ (predefined_value p predefined.Microseconds (a ∷ []) ≡ Meaningless)
microseconds_same p (Number z) = inl refl
microseconds_same p a = inr refl

-- a conversion leaves a number as it is
abbrev converted : Value → Val Value
converted (Number z) = Gives (Number z)
converted v = Meaningless

converted_same : (a : Value) → (converted a ≡ Gives a) ⊎ (converted a ≡ Meaningless)
converted_same (Number z) = inl refl
converted_same a = inr refl

converts : (calls : Calls) (p : Place) (s : Subtype) (a : Value) → and_then (applied calls p (IsSubtype s) (a ∷ [])) (ended calls p) ≡ converted a
converts calls p s (Number z) = refl
converts calls p s a = refl

-- neither the place nor the operand stack of a frame counts
pub same_words : (i : Sections) (m : Words) (region : Region) (f : Frame) (place : ℕ) (stack : List ℤ) → region_words i region m (placed f place stack) ≡ region_words i region m f
same_words i m regions.Locals f place stack = refl
same_words i m regions.Plain f place stack = refl
same_words i m regions.Object f place stack = refl

module _ (quiet : QuietStays) (i : Sections) where
  module _ (schedule : List ScheduleLine) (k : Kernel) (t : ℕ) (m : Words) (calm : Calm k t) (f : Frame) (fs : List Frame) where
    loads_word : (place : ℕ) (region : Region) (address : ℕ) → At i place (load_operation region address) → (w : ℤ) (base : List ℤ) → word_at (region_words i region m f) (pos address) ≡ Some w
        → act i schedule k t (in_frame m (placed f place base) fs) ≡ does Quiet m (placed f (place + 1) (w ∷ base)) fs None None
    loads_word place regions.Locals address here w base is = acts quiet i place (op.LoadLocal address) here schedule k t m f fs base ∙ ap (λ o. loaded i schedule k t m (placed f place base) fs o base) is
    loads_word place regions.Plain address here w base is = acts quiet i place (op.LoadPlain address) here schedule k t m f fs base ∙ ap (λ o. loaded i schedule k t m (placed f place base) fs o base) is
    loads_word place regions.Object address here w base is = acts quiet i place (op.LoadObject address) here schedule k t m f fs base ∙ ap (λ o. loaded i schedule k t m (placed f place base) fs o base) is

    -- a single word on the stack is the value
    word_comes : (place to : ℕ) (region : Region) (address : ℕ) → At i place (load_operation region address) → place + 1 ≡ to → (v : Value) (base : List ℤ)
        → Lies (region_words i region m f) address v → length (value_words v) ≡ 1
        → Comes i schedule k t m (placed f place base) fs 1 to (on base) (Gives v)
    word_comes place to region address here next v base lies one =
        let it = single (value_words v) one in
        subst (λ ws. Spends (behaviour i schedule) t frames_of (most_steps i) (suc (length fs)) 1 k (in_frame m (placed f place base) fs) k (in_frame m (placed f to (reverse ws ++ base)) fs)) (sym it.1)
        (steps quiet i schedule k t m calm (placed f place base) (placed f to (it.0 ∷ base)) fs
        (loads_word place region address here it.0 base (word_there (region_words i region m f) address v it.0 lies it.1) ∙ ap (λ n. does Quiet m (placed f n (it.0 ∷ base)) fs None None) next))

    -- a block of words
    block_comes : (place : ℕ) (region : Region) (address size : ℕ) → At i place (op.Push (pos address)) → At i (place + 1) (op.LoadBlock region size) → (v : Value) (base : List ℤ)
        → Lies (region_words i region m f) address v → length (value_words v) ≡ size
        → Comes i schedule k t m (placed f place base) fs 2 (place + 2) (on base) (Gives v)
    block_comes place region address size push load v base lies many =
        let two : (place + 1) + 1 ≡ place + 2 = omega arith in
        let words = region_words i region m f in
        spends_trans (behaviour i schedule) t frames_of (most_steps i) 1 k (in_frame m (placed f (place + 2) (on base v)) fs)
        (pushes quiet i schedule k t m calm place (pos address) push f fs base (place + 1) refl)
        (steps quiet i schedule k t m calm (placed f (place + 1) (pos address ∷ base)) (placed f (place + 2) (on base v)) fs
        (acts quiet i (place + 1) (op.LoadBlock region size) load schedule k t m f fs (pos address ∷ base)
        ∙ ap (λ ws. block_loaded i schedule k t m (placed f (place + 1) (pos address ∷ base)) fs (words_at ws (pos address) size) base) (same_words i m region f (place + 1) (pos address ∷ base))
        ∙ ap (λ n. block_loaded i schedule k t m (placed f (place + 1) (pos address ∷ base)) fs (words_at words (pos address) n) base) (sym many)
        ∙ ap (λ o. block_loaded i schedule k t m (placed f (place + 1) (pos address ∷ base)) fs o base) lies
        ∙ ap (λ n. does Quiet m (placed f n (on base v)) fs None None) two))

    -- the input of a channel, where there is one of this number
    reads : (place : ℕ) → At i place op.ReadInput → (p : Place) → p.now ≡ k.now → p.schedule ≡ schedule → (z : ℤ) (base : List ℤ)
        → Comes i schedule k t m (placed f place (z ∷ base)) fs 1 (suc place) (on base) (and_then (passed channels (Number z)) (λ a. predefined_value p predefined.Read (a ∷ [])))
    reads place here p when is (negsuc c) base =
        by_result quiet i schedule k t m calm place f fs (negsuc c ∷ base) base constraint_error (raise ConstraintError) (λ schedule k t m. acts quiet i place op.ReadInput here schedule k t m f fs (negsuc c ∷ base)) refl (suc place) (omega arith)
    reads place here p when is (pos c) base = by (nat_le 1 c && nat_le c CHANNELS) refl
      where
        by : (b : Bool) → (nat_le 1 c && nat_le c CHANNELS) ≡ b
            → Comes i schedule k t m (placed f place (pos c ∷ base)) fs 1 (suc place) (on base) (and_then (cond b (Gives (Number (pos c))) (raise ConstraintError)) (λ a. predefined_value p predefined.Read (a ∷ [])))
        by true e =
            let next : place + 1 ≡ suc place = omega arith in
            steps quiet i schedule k t m calm (placed f place (pos c ∷ base)) (placed f (suc place) (input p.schedule c p.now ∷ base)) fs
            (acts quiet i place op.ReadInput here schedule k t m f fs (pos c ∷ base)
            ∙ ap (λ q. gives i schedule k t m (placed f place (pos c ∷ base)) fs (cond q (Ok (input schedule c k.now)) constraint_error) base) e
            ∙ (λ j. does Quiet m (placed f (next j) (input (sym is j) c (sym when j) ∷ base)) fs None None))
        by false e =
            by_result quiet i schedule k t m calm place f fs (pos c ∷ base) base constraint_error (raise ConstraintError)
            (λ schedule k t m.
            acts quiet i place op.ReadInput here schedule k t m f fs (pos c ∷ base)
            ∙ ap (λ q. gives i schedule k t m (placed f place (pos c ∷ base)) fs (cond q (Ok (input schedule c k.now)) constraint_error) base) e)
            refl (suc place) (omega arith)

  module _ (library : Library) (sight : Sight) where
    -- an object, or a part of one whose place is known: of one word
    pub computes_stored : (from address : ℕ) (region : Region) (e : ExprTree) → IsStored library sight e region address 1 → At i from (load_operation region address) → Computes i library sight from (suc from) e
    computes_stored from address region e stored here calls left answers schedule k t m f fs p base calm sees is =
        let it = stored calls p (view_of i schedule k t m f fs) answers.sound sees in
        subst (λ v. Comes i schedule k t m (placed f from base) fs (suc from - from) (suc from) (on base) v) (sym it.1)
        (more quiet i schedule k t m calm (placed f from base) fs 1 (suc from - from) (suc from) (on base) (Gives it.0) (omega arith)
        (word_comes schedule k t m calm f fs from (suc from) region address here (omega arith) it.0 base it.2 it.3))

    -- a name of several words is loaded as one block
    pub computes_block : (from address size : ℕ) (region : Region) (e : ExprTree) → IsStored library sight e region address size → At i from (op.Push (pos address)) → At i (from + 1) (op.LoadBlock region size) → Computes i library sight from (from + 2) e
    computes_block from address size region e stored push load calls left answers schedule k t m f fs p base calm sees is =
        let it = stored calls p (view_of i schedule k t m f fs) answers.sound sees in
        subst (λ v. Comes i schedule k t m (placed f from base) fs ((from + 2) - from) (from + 2) (on base) v) (sym it.1)
        (more quiet i schedule k t m calm (placed f from base) fs 2 ((from + 2) - from) (from + 2) (on base) (Gives it.0) (omega arith)
        (block_comes schedule k t m calm f fs from region address size push load it.0 base it.2 it.3))

    -- a name that has a value by types and constants alone
    pub computes_fixed : (from : ℕ) (first : Identifier) (selectors : SelectorTrees) (v : Scalar) → IsFixed sight first selectors v → At i from (op.Push (scalar_word v)) → Computes i library sight from (suc from) (tree.Named first selectors)
    computes_fixed from first selectors v fixed here calls left answers schedule k t m f fs p base calm sees is =
        subst (λ o. Comes i schedule k t m (placed f from base) fs (suc from - from) (suc from) (on base) (elim o [ Some v ↦ Gives (value_of v) | None ↦ name_with calls p (meaning_of p first.name) selectors ])) (sym (fixed p (view_of i schedule k t m f fs) sees))
        (more quiet i schedule k t m calm (placed f from base) fs 1 (suc from - from) (suc from) (on base) (Gives (value_of v)) (omega arith)
        (subst (λ ws. Spends (behaviour i schedule) t frames_of (most_steps i) (suc (length fs)) 1 k (in_frame m (placed f from base) fs) k (in_frame m (placed f (suc from) (reverse ws ++ base)) fs)) (sym (fixed_word v))
        (pushes quiet i schedule k t m calm from (scalar_word v) here f fs base (suc from) (omega arith))))

    -- the time, also with parentheses that have nothing in them
    pub computes_clock : (from : ℕ) (first : Identifier) (selectors : SelectorTrees)
        → ((calls : Calls) (p : Place) → name_with calls p (IsPredefined predefined.Clock) selectors ≡ Gives (Number p.now))
        → NamesMeaning sight first selectors (IsPredefined predefined.Clock) → SeesTime sight → At i from op.Clock
        → Computes i library sight from (suc from) (tree.Named first selectors)
    computes_clock from first selectors alone names time here calls left answers schedule k t m f fs p base calm sees is =
        let view = view_of i schedule k t m f fs in
        let named = names p view sees in
        let next : from + 1 ≡ suc from = omega arith in
        subst (λ v. Comes i schedule k t m (placed f from base) fs (suc from - from) (suc from) (on base) v)
        (sym (named_value calls p first selectors (IsPredefined predefined.Clock) named.0 named.1 ∙ alone calls p
        ∙ ap (λ z. Gives (Number z)) (time p view sees).0))
        (more quiet i schedule k t m calm (placed f from base) fs 1 (suc from - from) (suc from) (on base) (Gives (Number k.now)) (omega arith)
        (steps quiet i schedule k t m calm (placed f from base) (placed f (suc from) (k.now ∷ base)) fs
        (acts quiet i from op.Clock here schedule k t m f fs base ∙ ap (λ n. does Quiet m (placed f n (k.now ∷ base)) fs None None) next)))

    -- `Microseconds (N)`: the number, checked
    pub computes_microseconds : (from to : ℕ) (first : Identifier) (e : ExprTree) → NamesMeaning sight first (with_argument e) (IsPredefined predefined.Microseconds)
        → ComputesChecked i library sight from to integer e → Computes i library sight from to (tree.Named first (with_argument e))
    computes_microseconds from to first e names inner calls left answers schedule k t m f fs p base calm sees is =
        let named = names p (view_of i schedule k t m f fs) sees in
        let go : Value → Val Value = λ a. predefined_value p predefined.Microseconds (a ∷ []) in
        subst (λ v. Comes i schedule k t m (placed f from base) fs (to - from) to (on base) v)
        (sym (named_value calls p first (with_argument e) (IsPredefined predefined.Microseconds) named.0 named.1 ∙ argument_named calls p (IsPredefined predefined.Microseconds) integer e go refl (λ a. value_alone calls p (go a))))
        (unchanged quiet i schedule k t m calm f fs from to base (and_then (value_with calls p e) (passed integer)) go (microseconds_same p)
        (inner calls left answers schedule k t m f fs p base calm sees is))

    -- a conversion: the number, checked (RM 4.6)
    pub computes_conversion : (from to : ℕ) (first : Identifier) (s : Subtype) (e : ExprTree) → NamesMeaning sight first (with_argument e) (IsSubtype s)
        → ((p : Place) (view : View) → sight p view → form_at p.scope s.type_number ≡ Some Integers)
        → ComputesChecked i library sight from to s e → Computes i library sight from to (tree.Named first (with_argument e))
    computes_conversion from to first s e names integers inner calls left answers schedule k t m f fs p base calm sees is =
        let view = view_of i schedule k t m f fs in
        let named = names p view sees in
        subst (λ v. Comes i schedule k t m (placed f from base) fs (to - from) to (on base) v)
        (sym (named_value calls p first (with_argument e) (IsSubtype s) named.0 named.1 ∙ argument_named calls p (IsSubtype s) s e converted (ap (wanted_by_conversion s) (integers p view sees)) (converts calls p s)))
        (unchanged quiet i schedule k t m calm f fs from to base (and_then (value_with calls p e) (passed s)) converted converted_same
        (inner calls left answers schedule k t m f fs p base calm sees is))

    -- `Milliseconds (N)`: 1000, the number, checked, and their product
    pub computes_milliseconds : (from mid : ℕ) (first : Identifier) (e : ExprTree) → NamesMeaning sight first (with_argument e) (IsPredefined predefined.Milliseconds) → suc from ≤ mid
        → At i from (op.Push (pos 1000)) → ComputesChecked i library sight (from + 1) mid integer e → At i mid op.Multiply
        → Computes i library sight from (suc mid) (tree.Named first (with_argument e))
    computes_milliseconds from mid first e names le push inner multiply calls left answers schedule k t m f fs p base calm sees is =
        let named = names p (view_of i schedule k t m f fs) sees in
        let go : Value → Val Value = λ a. predefined_value p predefined.Milliseconds (a ∷ []) in
        let checked = and_then (value_with calls p e) (passed integer) in
        let thousand : List ℤ = pos 1000 ∷ base in
        subst (λ v. Comes i schedule k t m (placed f from base) fs (suc mid - from) (suc mid) (on base) v)
        (sym (named_value calls p first (with_argument e) (IsPredefined predefined.Milliseconds) named.0 named.1 ∙ argument_named calls p (IsPredefined predefined.Milliseconds) integer e go refl (λ a. value_alone calls p (go a))))
        (more quiet i schedule k t m calm (placed f from base) fs (1 + ((mid - (from + 1)) + 1)) (suc mid - from) (suc mid) (on base) (and_then checked go) (omega (arith, le))
        (after_first quiet i schedule k t m calm (placed f from base) fs 1 ((mid - (from + 1)) + 1) (from + 1) (suc mid) thousand (on base) (and_then checked go) (omega arith)
        (pushes quiet i schedule k t m calm from (pos 1000) push f fs base (from + 1) refl)
        (then_comes quiet i schedule k t m calm (placed f (from + 1) thousand) fs (mid - (from + 1)) 1 mid (suc mid) (on thousand) (on base) checked go (omega (arith, le)) (omega arith)
        (inner calls left answers schedule k t m f fs p thousand calm sees is)
        (λ a ea. times schedule k t m calm f fs mid multiply p base a))))
      where
        times : (schedule : List ScheduleLine) (k : Kernel) (t : ℕ) (m : Words) (calm : Calm k t) (f : Frame) (fs : List Frame) (place : ℕ) → At i place op.Multiply → (p : Place) (base : List ℤ) (a : Value)
            → Comes i schedule k t m (placed f place (on (pos 1000 ∷ base) a)) fs 1 (suc place) (on base) (predefined_value p predefined.Milliseconds (a ∷ []))
        times schedule k t m calm f fs place here p base (Number z) =
            by_result quiet i schedule k t m calm place f fs (z ∷ pos 1000 ∷ base) base (product_of (pos 1000) z) (predefined_value p predefined.Milliseconds (Number z ∷ []))
            (λ schedule k t m. acts quiet i place op.Multiply here schedule k t m f fs (z ∷ pos 1000 ∷ base)) (number_word (product_of (pos 1000) z)) (suc place) (omega arith)
        times schedule k t m calm f fs place here p base a = tt

    -- `Read (N)`: the number, which the instruction checks
    pub computes_read : (from mid : ℕ) (first : Identifier) (e : ExprTree) → NamesMeaning sight first (with_argument e) (IsPredefined predefined.Read) → SeesTime sight → ComesToNumber i library sight e → from ≤ mid
        → Computes i library sight from mid e → At i mid op.ReadInput
        → Computes i library sight from (suc mid) (tree.Named first (with_argument e))
    computes_read from mid first e names time number le inner here calls left answers schedule k t m f fs p base calm sees is =
        let view = view_of i schedule k t m f fs in
        let named = names p view sees in
        let times = time p view sees in
        let go : Value → Val Value = λ a. predefined_value p predefined.Read (a ∷ []) in
        let value = value_with calls p e in
        subst (λ v. Comes i schedule k t m (placed f from base) fs (suc mid - from) (suc mid) (on base) v)
        (sym (named_value calls p first (with_argument e) (IsPredefined predefined.Read) named.0 named.1
        ∙ argument_named calls p (IsPredefined predefined.Read) channels e go refl (λ a. value_alone calls p (go a)) ∙ and_then_again value (passed channels) go))
        (more quiet i schedule k t m calm (placed f from base) fs ((mid - from) + 1) (suc mid - from) (suc mid) (on base) (and_then value (λ a. and_then (passed channels a) go)) (omega (arith, le))
        (then_comes quiet i schedule k t m calm (placed f from base) fs (mid - from) 1 mid (suc mid) (on base) (on base) value (λ a. and_then (passed channels a) go) le (omega arith)
        (inner calls left answers schedule k t m f fs p base calm sees is)
        (λ a ea.
        let it = number calls p view a answers.sound sees ea in
        subst (λ x. Comes i schedule k t m (placed f mid (on base x)) fs 1 (suc mid) (on base) (and_then (passed channels x) go)) (sym it.1)
        (reads schedule k t m calm f fs mid here p times.0 times.1 it.0 base))))
