-- The step of a task and the runs of an image keep words and times in 64 bits.
use Rattle.std.proofs.Common.{◌≡◌, ℕ, zero, suc, ◌+◌, ◌-◌, ◌^◌, ◌<◌, ◌≤◌, ℤ, pos, negsuc, ◌+ℤ◌, ◌-ℤ◌, ◌*ℤ◌, neg_ℤ, unsigned_abs, List, [], ◌∷◌, ◌++◌, length, take, drop, reverse, replicate, Bool, true, false, cond, ◌&&◌, ◌||◌, Option, Some, None, Ok, Err, refl, sym, ap, ◌∙◌, subst, arith, ⊎_elim}
use Rattle.std.proofs.lemmas.Bool.{true≢false, ltb-true, lt-ltb}
use Rattle.std.proofs.lemmas.Nat.{and_le_l, or_lt, xor_lt}
use Rattle.std.proofs.lemmas.Bool.Decides.{leb_tells}
use Rattle.std.proofs.lemmas.Grind.{reverse_onto}
use Rattle.std.proofs.lemmas.Int.{to_z_pos}
use Rattle.std.proofs.Math.Facts.{to_z-neg}
use Rattle.std.proofs.lemmas.Option.{none-some, same_Some}
use Rattle.std.specs.Prelude.{int_le, int_lt, int_div, int_rem, nat_le, nat_lt, slice_get, slice_set}
use Rattle.std.specs.Int.{w64, cast_signed, cast_unsigned, int_bit_and, int_bit_or, int_bit_xor}
use Rattle.base.specs.Arithmetic.{Checked, constraint_error, is_in_base_range, in_range, by, int_mod, absolute_of, difference_of, modulus_of, negation_of, product_of, quotient_of, remainder_of, sum_of}
use Rattle.base.specs.Exceptions.{number_of}
use Rattle.base.specs.declared.limits.TheConstants.{CHANNELS}
use Rattle.base.specs.Schedule.{input, input_after, is_heard}
use Rattle.base.specs.declared.exceptions.PredefinedException.{PredefinedException}
use Rattle.base.specs.declared.exceptions.PredefinedException.TheVariants.{ConstraintError, ProgramError, StorageError, TaskingError}
use Rattle.base.specs.declared.schedule.ScheduleLine.{ScheduleLine}
use Rattle.image.specs.Scalars.{are_different, are_equal, bitwise, exception_of, in_bounds, input_of, is_greater, is_greater_or_equal, is_zero, is_zero_word, relation, word_of}
use Rattle.kernel.specs.State.{Interrupt, Kernel, Outcome, Sleeper, put}
use Rattle.kernel.specs.Interrupts.{interrupt_if}
use Rattle.kernel.proofs.Lists.{either}
use Rattle.kernel.specs.Effects.{Effect, Quiet, Opens, Views, Refusal, Ending, Closes, TakesOver, HandsBack, call_refusal, is_above_ceiling, is_full, is_inside_any}
use Rattle.kernel.specs.PutLaws.{by_put}
use Rattle.kernel.specs.Worlds.{Tasks, among, ending, is_handler_over, reached, run, step, step_of}
use Rattle.handlers.specs.Innermost.{handler_of}
use Rattle.image.specs.Attachments.{attached_to, handling_object, interrupts}
use Rattle.image.specs.Sections.{Sections, object_of}
use Rattle.image.specs.Starting.{handler_state, handler_state_of, lowest_frame, role_within, task_state}
use Rattle.image.specs.ObjectTable.{ObjectRow}
use Rattle.image.specs.Operations.{called, entry_called, entry_of, parameters_of, results_of}
use Rattle.image.specs.Frames.{Words, Role, Inner, Opened, Serving, Frame, TaskState, arguments, kind_of, locals_with, new_frame, object_words, own_object, region_words, shared_with, with_object_words, word_at, word_put, words_at, words_put}
use Rattle.image.specs.Steps as steps
use Rattle.image.specs.Steps.{Given, Raised, Results, Stepped, act, behaviour, caught, is_open, receives, removed, serving, serving_with, taken, unwind}
use Rattle.image.specs.Code.{CodeWorld, body_frame, code, initial_state, initial_words_of, partition_of, start}
use Rattle.image_laws.specs.Laws.{FitsAlways}
use Rattle.image.specs.WordRanges.{AllFit, ConstantFits, ConstantsFit, ObjectsFit, Fits64, ImageFits}
use Rattle.image_laws.specs.Width.{FrameFits, FramesFit, GivenFits, LinesFit, MayFit, PendingFits, RoleFits, SleepersFit, TaskFits, WordsFit}
use Rattle.image.specs.declared.instruction.Instr.{Instr}
use Rattle.image.specs.declared.instruction.Operation.{Operation}
use Rattle.image.specs.declared.instruction.Operation.TheVariants as op
use Rattle.image.specs.declared.instruction.Region.{Region}
use Rattle.image.specs.declared.instruction.Region.TheVariants as regions
use Rattle.image.specs.declared.subprograms.Kind.{Kind}
use Rattle.image.specs.declared.subprograms.Kind.TheVariants.{Plain, ProtectedProcedure, ProtectedFunction, EntryBody, TaskBody}
use Rattle.image.specs.declared.subprograms.Subprogram.{Subprogram}
use Rattle.image_laws.proofs.Bounds.{Awaits, Bounded, Sleeps, Timely, bounded_after, bounded_begin}

abbrev Anyone : ℕ → Type 0
Anyone t = Unit {0}

-- Values

abbrev is_value : Checked → Bool
is_value (Ok v) = true
is_value (Err x) = false

abbrev IsWorth : Checked → ℤ → Type 0
IsWorth c v = c ≡ Ok v

abbrev value_or : ℤ → Checked → ℤ
value_or d (Ok v) = v
value_or d (Err x) = d

same_value : (u v : ℤ) → IsWorth (Ok u) v → u ≡ v
same_value u v e = ap (value_or u) e

no_value : (x : PredefinedException) (v : ℤ) → IsWorth (Err x) v → ⊥
no_value x v e = true≢false (sym (ap is_value e))

-- the value of a checked operation fits
abbrev Gives64 : Checked → Type 0
Gives64 c = (v : ℤ) → c ≡ Ok v → Fits64 v

in_range_fits : (z : ℤ) → Gives64 (in_range z)
in_range_fits z v e = by (is_in_base_range z) refl e
  where
    by : (b : Bool) → is_in_base_range z ≡ b → cond b (Ok z) constraint_error ≡ Ok v → Fits64 v
    by true is e = subst Fits64 (same_value z v e) is
    by false is e = absurd (no_value ConstraintError v e)

by_fits : (f : ℤ → ℤ → ℤ) (x y : ℤ) → Gives64 (by f x y)
by_fits f x (pos zero) v e = absurd (no_value ConstraintError v e)
by_fits f x (pos (suc n)) v e = in_range_fits (f x (pos (suc n))) v e
by_fits f x (negsuc n) v e = in_range_fits (f x (negsuc n)) v e

small_fits : (n : ℕ) → n < 2 ^ 63 → Fits64 (pos n)
small_fits n lt = lt-ltb n (2 ^ 63) lt

word_of_fits : (b : Bool) → Fits64 (word_of b)
word_of_fits true = refl
word_of_fits false = refl

ok_fits : (u v : ℤ) → Fits64 u → IsWorth (Ok u) v → Fits64 v
ok_fits u v fits e = subst Fits64 (same_value u v e) fits

unsigned_below : (z : ℤ) → Fits64 z → cast_unsigned w64 z < 2 ^ 64
unsigned_below (pos n) fits = let lt = ltb-true n (2 ^ 63) fits in omega (arith, lt)
unsigned_below (negsuc n) fits = omega arith

signed_fits : (n : ℕ) → n < 2 ^ 64 → Fits64 (cast_signed w64 n)
signed_fits n lt =
    ⊎_elim
    (λ h. subst Fits64 (sym (to_z_pos w64 n h.1)) (small_fits n h.1))
    (λ h.
    let e : n ≡ 2 ^ 64 - suc (2 ^ 64 - suc n) = omega (arith, lt) in
    let low : 2 ^ 64 - suc n < 2 ^ 63 = omega (arith, lt, h.1) in
    subst Fits64 (sym (ap (cast_signed w64) e ∙ to_z-neg w64 (2 ^ 64 - suc n) low)) (lt-ltb (2 ^ 64 - suc n) (2 ^ 63) low))
    (leb_tells (suc n) (2 ^ 63))

and_fits : (x y : ℤ) → Fits64 x → Fits64 y → Fits64 (int_bit_and w64 x y)
and_fits x y p q = signed_fits _ (below _ _ (2 ^ 64) (and_le_l (cast_unsigned w64 x) (cast_unsigned w64 y)) (unsigned_below x p))
  where
    below : (a b c : ℕ) → a ≤ b → b < c → a < c
    below a b c le lt = omega arith

or_fits : (x y : ℤ) → Fits64 x → Fits64 y → Fits64 (int_bit_or w64 x y)
or_fits x y p q = signed_fits _ (or_lt 64 (cast_unsigned w64 x) (cast_unsigned w64 y) (unsigned_below x p) (unsigned_below y q))

xor_fits : (x y : ℤ) → Fits64 x → Fits64 y → Fits64 (int_bit_xor w64 x y)
xor_fits x y p q = signed_fits _ (xor_lt 64 (cast_unsigned w64 x) (cast_unsigned w64 y) (unsigned_below x p) (unsigned_below y q))

in_bounds_fits : (least most v : ℤ) → Fits64 v → Gives64 (in_bounds least most v)
in_bounds_fits least most v fits u e = by (int_le least v && int_le v most) e
  where
    by : (b : Bool) → cond b (Ok v) constraint_error ≡ Ok u → Fits64 u
    by true e = ok_fits v u fits e
    by false e = absurd (no_value ConstraintError u e)

input_fits : (ls : List ScheduleLine) (channel : ℕ) (now before : ℤ) → LinesFit ls → Fits64 before → Fits64 (input_after before ls channel now)
input_fits [] channel now before all fits = fits
input_fits (l ∷ ls) channel now before all fits = input_fits ls channel now _ all.2 (chosen (is_heard channel now l))
  where
    chosen : (b : Bool) → Fits64 (cond b l.value before)
    chosen true = all.1
    chosen false = fits

input_of_fits : (ls : List ScheduleLine) (now c : ℤ) → LinesFit ls → Gives64 (input_of ls now c)
input_of_fits ls now (negsuc c) all u e = absurd (no_value ConstraintError u e)
input_of_fits ls now (pos c) all u e = by (nat_le 1 c && nat_le c CHANNELS) e
  where
    by : (b : Bool) → cond b (Ok (input ls c now)) constraint_error ≡ Ok u → Fits64 u
    by true e = ok_fits (input ls c now) u (input_fits ls c now (pos 0) all refl) e
    by false e = absurd (no_value ConstraintError u e)

exception_of_fits : (n : ℕ) (z : ℤ) → Fits64 z → MayFit (exception_of n z)
exception_of_fits n (negsuc x) fits = tt
exception_of_fits n (pos x) fits = by (nat_le 1 x && nat_le x n)
  where
    by : (b : Bool) → MayFit (cond b (Some x) None)
    by true = fits
    by false = tt

number_fits : (x : PredefinedException) → Fits64 (pos (number_of x))
number_fits ConstraintError = refl
number_fits ProgramError = refl
number_fits StorageError = refl
number_fits TaskingError = refl

-- Lists of words

both_fit : (xs ys : List ℤ) → AllFit xs → AllFit ys → AllFit (xs ++ ys)
both_fit [] ys p q = q
both_fit (x ∷ xs) ys p q = (p.0, both_fit xs ys p.1 q)

take_fit : (n : ℕ) (xs : List ℤ) → AllFit xs → AllFit (take n xs)
take_fit zero xs p = tt
take_fit (suc n) [] p = tt
take_fit (suc n) (x ∷ xs) p = (p.0, take_fit n xs p.1)

drop_fit : (n : ℕ) (xs : List ℤ) → AllFit xs → AllFit (drop n xs)
drop_fit zero xs p = p
drop_fit (suc n) [] p = p
drop_fit (suc n) (x ∷ xs) p = drop_fit n xs p.1

reverse_fit : (xs : List ℤ) → AllFit xs → AllFit (reverse xs)
reverse_fit [] p = tt
reverse_fit (x ∷ xs) p = subst AllFit (sym (reverse_onto xs x [])) (both_fit (reverse xs) (x ∷ []) (reverse_fit xs p.1) (p.0, tt))

zeros_fit : (n : ℕ) → AllFit (replicate n (pos 0))
zeros_fit zero = tt
zeros_fit (suc n) = (refl, zeros_fit n)

get_fits : (xs : List ℤ) (n : ℕ) (v : ℤ) → AllFit xs → slice_get xs n ≡ Some v → Fits64 v
get_fits [] n v p is = absurd (none-some v is)
get_fits (x ∷ xs) zero v p is = subst Fits64 (same_Some _ _ is) p.0
get_fits (x ∷ xs) (suc n) v p is = get_fits xs n v p.1 is

set_fits : (xs : List ℤ) (n : ℕ) (v : ℤ) → AllFit xs → Fits64 v → AllFit (slice_set xs n v)
set_fits [] n v p q = p
set_fits (x ∷ xs) zero v p q = (q, p.1)
set_fits (x ∷ xs) (suc n) v p q = (p.0, set_fits xs n v p.1 q)

word_at_fits : (words : List ℤ) (index v : ℤ) → AllFit words → word_at words index ≡ Some v → Fits64 v
word_at_fits words (negsuc a) v p is = absurd (none-some v is)
word_at_fits words (pos a) v p is = get_fits words a v p is

words_at_fit : (words : List ℤ) (index : ℤ) (n : ℕ) (l : List ℤ) → AllFit words → words_at words index n ≡ Some l → AllFit l
words_at_fit words (negsuc a) n l p is = absurd (none-some l is)
words_at_fit words (pos a) n l p is = by (nat_le (a + n) (length words)) is
  where
    by : (b : Bool) → cond b (Some (take n (drop a words))) None ≡ Some l → AllFit l
    by true e = subst AllFit (same_Some _ _ e) (take_fit n (drop a words) (drop_fit a words p))
    by false e = absurd (none-some l e)

word_put_fit : (words : List ℤ) (index v : ℤ) (l : List ℤ) → AllFit words → Fits64 v → word_put words index v ≡ Some l → AllFit l
word_put_fit words (negsuc a) v l p q is = absurd (none-some l is)
word_put_fit words (pos a) v l p q is = by (nat_lt a (length words)) is
  where
    by : (b : Bool) → cond b (Some (slice_set words a v)) None ≡ Some l → AllFit l
    by true e = subst AllFit (same_Some _ _ e) (set_fits words a v p q)
    by false e = absurd (none-some l e)

words_put_fit : (words : List ℤ) (index : ℤ) (new l : List ℤ) → AllFit words → AllFit new → words_put words index new ≡ Some l → AllFit l
words_put_fit words (negsuc a) new l p q is = absurd (none-some l is)
words_put_fit words (pos a) new l p q is = by (nat_le (a + length new) (length words)) is
  where
    by : (b : Bool) → cond b (Some (take a words ++ new ++ drop (a + length new) words)) None ≡ Some l → AllFit l
    by true e = subst AllFit (same_Some _ _ e) (both_fit (take a words ++ new) _ (both_fit (take a words) new (take_fit a words p) q) (drop_fit (a + length new) words p))
    by false e = absurd (none-some l e)

-- Steps

pub record StepFits (r : Stepped) : Type 0 where
  pub words : WordsFit r.solo.memory
  pub task : TaskFits r.solo.task
  pub given : GivenFits r.given
  pub timely : Timely Anyone Fits64 r.effect

module _ (i : Sections) (m : Words) (words : WordsFit m) (x : ℕ) (number : Fits64 (pos x)) where
  caught_fits : (o : Option ℕ) (f : Frame) (fs : List Frame) (other : Stepped) → FrameFits f → FramesFit fs → StepFits other → StepFits (caught i m x o f fs other)
  caught_fits None f fs other p q rest = rest
  caught_fits (Some a) f fs other p q rest =
      record { words = words; task = record { frame = record { locals = p.locals; stack = (number, tt); role = p.role }; callers = q; raising = tt }; given = tt; timely = tt }

  removed_fits : (role : Role) (c : Frame) (fs : List Frame) (other : Stepped) → RoleFits role → FrameFits c → FramesFit fs → StepFits other → StepFits (removed i m x role c fs other)
  removed_fits Inner c fs other r p q rest = rest
  removed_fits (Opened o) c fs other r p q rest = record { words = words; task = record { frame = p; callers = q; raising = number }; given = tt; timely = tt }
  removed_fits (Serving o u pending) c fs other r p q rest = record { words = words; task = record { frame = p; callers = q; raising = r }; given = number; timely = tt }

  unwind_fits : (fs : List Frame) (f : Frame) → FrameFits f → FramesFit fs → StepFits (unwind i m x f fs)
  unwind_fits [] f p q =
      caught_fits (handler_of i.rows f.place x) f [] _ p tt
      (record { words = words; task = record { frame = record { locals = p.locals; stack = tt; role = p.role }; callers = tt; raising = number }; given = tt; timely = tt })
  unwind_fits (c ∷ fs) f p q =
      caught_fits (handler_of i.rows f.place x) f (c ∷ fs) _ p q (removed_fits f.role c fs (unwind i m x c fs) p.role q.0 q.1 (unwind_fits fs c q.0 q.1))

-- the words of an image by their numbers

constant_at : (xs : List Instr) (n d : ℕ) (v : ℤ) → ConstantsFit xs → slice_get xs n ≡ Some (record { depth = d; operation = op.Push v }) → Fits64 v
constant_at [] n d v fit is = absurd (none-some _ is)
constant_at (x ∷ xs) zero d v fit is = subst (λ y. ConstantFits y.operation) (same_Some _ _ is) fit.0
constant_at (x ∷ xs) (suc n) d v fit is = constant_at xs n d v fit.1 is

objects_at : (os : List ObjectRow) → ObjectsFit os → (o : ℕ) → AllFit (initial_words_of (slice_get os o))
objects_at [] fit o = tt
objects_at (x ∷ os) fit zero = fit.0
objects_at (x ∷ os) fit (suc o) = objects_at os fit.1 o

module _ (i : Sections) (constants : ImageFits i) (schedule : List ScheduleLine) (heard : LinesFit schedule) (k : Kernel) (now : Fits64 k.now) (t : ℕ) (m : Words) (words : WordsFit m) (f : Frame) (here : FrameFits f) (fs : List Frame) (under : FramesFit fs) where
  breaks_fits : StepFits (steps.breaks i schedule k t m f fs)
  breaks_fits = record { words = words; task = record { frame = here; callers = under; raising = tt }; given = tt; timely = tt }

  raised_fits : (x : ℕ) → Fits64 (pos x) → StepFits (unwind i m x f fs)
  raised_fits x number = unwind_fits i m words x number fs f here under

  to_fits : (p : ℕ) (stack : List ℤ) → AllFit stack → StepFits (steps.to i schedule k t m f fs p stack)
  to_fits p stack q = record { words = words; task = record { frame = record { locals = here.locals; stack = q; role = here.role }; callers = under; raising = tt }; given = tt; timely = tt }

  gives_fits : (c : Checked) (stack : List ℤ) → Gives64 c → AllFit stack → StepFits (steps.gives i schedule k t m f fs c stack)
  gives_fits (Ok v) stack c q = to_fits _ (v ∷ stack) (c v refl, q)
  gives_fits (Err x) stack c q = raised_fits (number_of x) (number_fits x)

  cond_fits : (b : Bool) (x y : Stepped) → StepFits x → StepFits y → StepFits (cond b x y)
  cond_fits true x y p q = p
  cond_fits false x y p q = q

  one_fits : (stack : List ℤ) (go : ℤ → List ℤ → Stepped) → AllFit stack → ((x : ℤ) (rest : List ℤ) → Fits64 x → AllFit rest → StepFits (go x rest)) → StepFits (steps.with_one i schedule k t m f fs stack go)
  one_fits [] go p rest = breaks_fits
  one_fits (x ∷ stack) go p rest = rest x stack p.0 p.1

  two_fits : (stack : List ℤ) (go : ℤ → ℤ → List ℤ → Stepped) → AllFit stack → ((x y : ℤ) (rest : List ℤ) → Fits64 x → Fits64 y → AllFit rest → StepFits (go x y rest)) → StepFits (steps.with_two i schedule k t m f fs stack go)
  two_fits [] go p rest = breaks_fits
  two_fits (y ∷ []) go p rest = breaks_fits
  two_fits (y ∷ x ∷ stack) go p rest = rest x y stack p.1.0 p.0 p.1.1

  three_fits : (stack : List ℤ) (go : ℤ → ℤ → ℤ → List ℤ → Stepped) → AllFit stack → ((x y z : ℤ) (rest : List ℤ) → Fits64 x → AllFit rest → StepFits (go x y z rest)) → StepFits (steps.with_three i schedule k t m f fs stack go)
  three_fits [] go p rest = breaks_fits
  three_fits (z ∷ []) go p rest = breaks_fits
  three_fits (z ∷ y ∷ []) go p rest = breaks_fits
  three_fits (z ∷ y ∷ x ∷ stack) go p rest = rest x y z stack p.1.1.0 p.1.1.1

  unary_fits : (v : ℤ → Checked) → ((x : ℤ) → Gives64 (v x)) → StepFits (steps.unary i schedule k t m f fs v)
  unary_fits v c = one_fits f.stack _ here.stack (λ x rest p q. gives_fits (v x) rest (c x) q)

  binary_fits : (v : ℤ → ℤ → Checked) → ((x y : ℤ) → Fits64 x → Fits64 y → Gives64 (v x y)) → StepFits (steps.binary i schedule k t m f fs v)
  binary_fits v c = two_fits f.stack _ here.stack (λ x y rest p r q. gives_fits (v x y) rest (c x y p r) q)

  relation_fits : (holds : ℤ → ℤ → Bool) → StepFits (steps.binary i schedule k t m f fs (relation holds))
  relation_fits holds = binary_fits (relation holds) (λ x y p q v e. ok_fits (word_of (holds x y)) v (word_of_fits (holds x y)) e)

  region_fits : (r : Region) → AllFit (region_words i r m f)
  region_fits regions.Locals = here.locals
  region_fits regions.Plain = words.plain
  region_fits regions.Object = by (own_object i f)
    where
      by : (o : Option ℕ) → AllFit (object_words o m)
      by None = tt
      by (Some o) = words.objects o

  loaded_fits : (word : Option ℤ) (stack : List ℤ) → ((v : ℤ) → word ≡ Some v → Fits64 v) → AllFit stack → StepFits (steps.loaded i schedule k t m f fs word stack)
  loaded_fits None stack p q = breaks_fits
  loaded_fits (Some v) stack p q = to_fits _ (v ∷ stack) (p v refl, q)

  loads_fits : (r : Region) (index : ℤ) (stack : List ℤ) → AllFit stack → StepFits (steps.loads i schedule k t m f fs r index stack)
  loads_fits r index stack q = loaded_fits (word_at (region_words i r m f) index) stack (λ v. word_at_fits (region_words i r m f) index v (region_fits r)) q

  block_loaded_fits : (block : Option (List ℤ)) (stack : List ℤ) → ((l : List ℤ) → block ≡ Some l → AllFit l) → AllFit stack → StepFits (steps.block_loaded i schedule k t m f fs block stack)
  block_loaded_fits None stack p q = breaks_fits
  block_loaded_fits (Some l) stack p q = to_fits _ (reverse l ++ stack) (both_fit (reverse l) stack (reverse_fit l (p l refl)) q)

  own_fits : (o : Option ℕ) (l : List ℤ) → AllFit l → WordsFit (with_object_words o l m)
  own_fits None l p = words
  own_fits (Some o) l p = record { plain = words.plain; objects = λ q. by_put AllFit o q l m.objects (λ e. p) (λ ne. words.objects q) }

  shared_fits : (r : Region) (l : List ℤ) → AllFit l → WordsFit (shared_with i r l m f)
  shared_fits regions.Locals l p = words
  shared_fits regions.Plain l p = record { plain = p; objects = words.objects }
  shared_fits regions.Object l p = own_fits (own_object i f) l p

  locals_fit : (r : Region) (l : List ℤ) → AllFit l → AllFit (locals_with r l f)
  locals_fit regions.Locals l p = p
  locals_fit regions.Plain l p = here.locals
  locals_fit regions.Object l p = here.locals

  stored_fits : (r : Region) (block : Option (List ℤ)) (stack : List ℤ) → ((l : List ℤ) → block ≡ Some l → AllFit l) → AllFit stack → StepFits (steps.stored i schedule k t m f fs r block stack)
  stored_fits r None stack p q = breaks_fits
  stored_fits r (Some l) stack p q =
      record {
        words = shared_fits r l (p l refl);
        task = record { frame = record { locals = locals_fit r l (p l refl); stack = q; role = here.role }; callers = under; raising = tt };
        given = tt;
        timely = tt;
      }

  stores_fits : (r : Region) (index v : ℤ) (stack : List ℤ) → Fits64 v → AllFit stack → StepFits (steps.stores i schedule k t m f fs r index v stack)
  stores_fits r index v stack p q = stored_fits r (word_put (region_words i r m f) index v) stack (λ l. word_put_fit (region_words i r m f) index v l (region_fits r) p) q

  stores_block_fits : (r : Region) (index : ℤ) (l stack : List ℤ) → AllFit l → AllFit stack → StepFits (steps.stores_block i schedule k t m f fs r index l stack)
  stores_block_fits r index l stack p q = stored_fits r (words_put (region_words i r m f) index l) stack (λ n. words_put_fit (region_words i r m f) index l n (region_fits r) p) q

  copied_fits : (r : Region) (index : ℤ) (block : Option (List ℤ)) (stack : List ℤ) → ((l : List ℤ) → block ≡ Some l → AllFit l) → AllFit stack → StepFits (steps.copied i schedule k t m f fs r index block stack)
  copied_fits r index None stack p q = breaks_fits
  copied_fits r index (Some l) stack p q = stores_block_fits r index l stack (p l refl) q

  -- calls and returns

  new_frame_fits : (n : ℕ) (s : Subprogram) (l : List ℤ) (role : Role) → AllFit l → RoleFits role → FrameFits (new_frame i n s l role)
  new_frame_fits n s l role p r = record { locals = both_fit l _ p (zeros_fit (s.locals - s.parameters)); stack = tt; role = r }

  enters_fits : (e : Effect) (role : Role) (n : ℕ) (s : Subprogram) → Timely Anyone Fits64 e → RoleFits role → StepFits (steps.enters i schedule k t m f fs e role n s)
  enters_fits e role n s timely r =
      record {
        words = words;
        task = record {
          frame = new_frame_fits n s (arguments s.parameters f.stack) role (reverse_fit _ (take_fit s.parameters f.stack here.stack)) r;
          callers = (record { locals = here.locals; stack = drop_fit s.parameters f.stack here.stack; role = here.role }, under);
          raising = tt;
        };
        given = tt;
        timely = timely;
      }

  with_frame_left_fits : (go : Stepped) → StepFits go → StepFits (steps.with_frame_left i schedule k t m f fs go)
  with_frame_left_fits go p = cond_fits _ _ _ p (raised_fits _ refl)

  call_fits : (n : ℕ) (c : Option Subprogram) → StepFits (steps.call i schedule k t m f fs n c)
  call_fits n None = breaks_fits
  call_fits n (Some c) = cond_fits _ _ _ (with_frame_left_fits _ (enters_fits Quiet Inner n c tt tt)) breaks_fits

  unless_refused_fits : (r : Option Refusal) (go : Stepped) → StepFits go → StepFits (steps.unless_refused i schedule k t m f fs r go)
  unless_refused_fits None go p = p
  unless_refused_fits (Some r) go p = raised_fits _ refl

  external_call_fits : (n : ℕ) (c : Subprogram) (kind : Kind) → StepFits (steps.external_call i schedule k t m f fs n c kind)
  external_call_fits n c (ProtectedProcedure o) = unless_refused_fits (call_refusal k t o) _ (with_frame_left_fits _ (enters_fits (Opens o) (Opened o) n c tt tt))
  external_call_fits n c (ProtectedFunction o) = unless_refused_fits (call_refusal k t o) _ (with_frame_left_fits _ (enters_fits (Views o) (Opened o) n c tt tt))
  external_call_fits n c Plain = breaks_fits
  external_call_fits n c (EntryBody o) = breaks_fits
  external_call_fits n c TaskBody = breaks_fits

  protected_call_fits : (n : ℕ) (c : Option Subprogram) → StepFits (steps.protected_call i schedule k t m f fs n c)
  protected_call_fits n None = breaks_fits
  protected_call_fits n (Some c) = cond_fits _ _ _ (external_call_fits n c c.kind) breaks_fits

  queues_fits : (o : ℕ) → StepFits (steps.queues i schedule k t m f fs o)
  queues_fits o = cond_fits (is_full k o) _ _ (raised_fits _ refl) (record { words = words; task = record { frame = here; callers = under; raising = tt }; given = tt; timely = tt })

  entry_call_of_fits : (o n : ℕ) (c : Subprogram) → StepFits (steps.entry_call_of i schedule k t m f fs o n c)
  entry_call_of_fits o n c =
      cond_fits (is_inside_any k t || is_above_ceiling k t o) _ _ (raised_fits _ refl)
      (with_frame_left_fits _ (cond_fits (is_open i m o) _ _ (enters_fits (Opens o) (Opened o) n c tt tt) (queues_fits o)))

  entry_call_at_fits : (o n : ℕ) (c : Option Subprogram) → StepFits (steps.entry_call_at i schedule k t m f fs o n c)
  entry_call_at_fits o n None = breaks_fits
  entry_call_at_fits o n (Some c) = cond_fits _ _ _ (entry_call_of_fits o n c) breaks_fits

  entry_call_fits : (o : ℕ) (n : Option ℕ) → StepFits (steps.entry_call i schedule k t m f fs o n)
  entry_call_fits o None = breaks_fits
  entry_call_fits o (Some n) = entry_call_at_fits o n (called i n)

  returns_to_fits : (cs : List Frame) (role : Role) (results : List ℤ) → FramesFit cs → RoleFits role → AllFit results → StepFits (steps.returns_to i schedule k t m f fs cs role results)
  returns_to_fits [] role results p r q = record { words = words; task = record { frame = here; callers = tt; raising = tt }; given = tt; timely = tt }
  returns_to_fits (c ∷ cs) Inner results p r q =
      record { words = words; task = record { frame = record { locals = p.0.locals; stack = both_fit results c.stack q p.0.stack; role = p.0.role }; callers = p.1; raising = tt }; given = tt; timely = tt }
  returns_to_fits (c ∷ cs) (Opened o) results p r q =
      record { words = words; task = record { frame = record { locals = p.0.locals; stack = both_fit results c.stack q p.0.stack; role = p.0.role }; callers = p.1; raising = tt }; given = tt; timely = tt }
  returns_to_fits (c ∷ cs) (Serving o u pending) results p r q = record { words = words; task = record { frame = p.0; callers = p.1; raising = r }; given = q; timely = tt }

  raises_number_fits : (x : Option ℕ) → MayFit x → StepFits (steps.raises_number i schedule k t m f fs x)
  raises_number_fits None p = breaks_fits
  raises_number_fits (Some x) p = raised_fits x p

  unless_inside_fits : (go : Stepped) → StepFits go → StepFits (steps.unless_inside i schedule k t m f fs go)
  unless_inside_fits go p = cond_fits (is_inside_any k t) _ _ (raised_fits _ refl) p

  operation_fits : (d : ℕ) (o : Operation) → slice_get i.instructions f.place ≡ Some (record { depth = d; operation = o }) → StepFits (steps.does_operation i schedule k t m f fs o)
  operation_fits d (op.Push v) is = to_fits _ (v ∷ f.stack) (constant_at i.instructions f.place d v constants.constants is, here.stack)
  operation_fits d op.Drop is = one_fits f.stack _ here.stack (λ x rest p q. to_fits _ rest q)
  operation_fits d op.Duplicate is = one_fits f.stack _ here.stack (λ x rest p q. to_fits _ (x ∷ x ∷ rest) (p, (p, q)))
  operation_fits d (op.LoadLocal a) is = loads_fits regions.Locals (pos a) f.stack here.stack
  operation_fits d (op.LoadPlain a) is = loads_fits regions.Plain (pos a) f.stack here.stack
  operation_fits d (op.LoadObject a) is = loads_fits regions.Object (pos a) f.stack here.stack
  operation_fits d (op.StoreLocal a) is = one_fits f.stack _ here.stack (λ x rest p q. stores_fits regions.Locals (pos a) x rest p q)
  operation_fits d (op.StorePlain a) is = one_fits f.stack _ here.stack (λ x rest p q. stores_fits regions.Plain (pos a) x rest p q)
  operation_fits d (op.StoreObject a) is = one_fits f.stack _ here.stack (λ x rest p q. stores_fits regions.Object (pos a) x rest p q)
  operation_fits d (op.LoadIndexed r) is = one_fits f.stack _ here.stack (λ x rest p q. loads_fits r x rest q)
  operation_fits d (op.StoreIndexed r) is = two_fits f.stack _ here.stack (λ x y rest p r' q. stores_fits r x y rest r' q)
  operation_fits d (op.LoadBlock r n) is = one_fits f.stack _ here.stack (λ x rest p q. block_loaded_fits _ rest (λ l. words_at_fit (region_words i r m f) x n l (region_fits r)) q)
  operation_fits d (op.StoreBlock r n) is =
      one_fits (drop n f.stack) _ (drop_fit n f.stack here.stack) (λ x rest p q. stores_block_fits r x (arguments n f.stack) rest (reverse_fit _ (take_fit n f.stack here.stack)) q)
  operation_fits d (op.Copy target source n) is =
      two_fits f.stack _ here.stack (λ x y rest p r q. copied_fits target x _ rest (λ l. words_at_fit (region_words i source m f) y n l (region_fits source)) q)
  operation_fits d op.Negate is = unary_fits negation_of (λ x. in_range_fits (neg_ℤ x))
  operation_fits d op.Absolute is = unary_fits absolute_of (λ x. in_range_fits (pos (unsigned_abs x)))
  operation_fits d op.Not is = unary_fits is_zero_word (λ x v e. ok_fits (word_of (is_zero x)) v (word_of_fits (is_zero x)) e)
  operation_fits d op.Add is = binary_fits sum_of (λ x y p q. in_range_fits (x +ℤ y))
  operation_fits d op.Subtract is = binary_fits difference_of (λ x y p q. in_range_fits (x -ℤ y))
  operation_fits d op.Multiply is = binary_fits product_of (λ x y p q. in_range_fits (x *ℤ y))
  operation_fits d op.Divide is = binary_fits quotient_of (λ x y p q. by_fits int_div x y)
  operation_fits d op.Modulo is = binary_fits modulus_of (λ x y p q. by_fits int_mod x y)
  operation_fits d op.Remainder is = binary_fits remainder_of (λ x y p q. by_fits int_rem x y)
  operation_fits d op.Equal is = relation_fits are_equal
  operation_fits d op.NotEqual is = relation_fits are_different
  operation_fits d op.Less is = relation_fits int_lt
  operation_fits d op.LessOrEqual is = relation_fits int_le
  operation_fits d op.Greater is = relation_fits is_greater
  operation_fits d op.GreaterOrEqual is = relation_fits is_greater_or_equal
  operation_fits d op.And is = binary_fits (bitwise (int_bit_and w64)) (λ x y p q v e. ok_fits (int_bit_and w64 x y) v (and_fits x y p q) e)
  operation_fits d op.Or is = binary_fits (bitwise (int_bit_or w64)) (λ x y p q v e. ok_fits (int_bit_or w64 x y) v (or_fits x y p q) e)
  operation_fits d op.ExclusiveOr is = binary_fits (bitwise (int_bit_xor w64)) (λ x y p q v e. ok_fits (int_bit_xor w64 x y) v (xor_fits x y p q) e)
  operation_fits d op.CheckRange is = three_fits f.stack _ here.stack (λ x y z rest p q. gives_fits (in_bounds y z x) rest (in_bounds_fits y z x p) q)
  operation_fits d (op.Jump a) is = to_fits a f.stack here.stack
  operation_fits d (op.JumpIfZero a) is = one_fits f.stack _ here.stack (λ x rest p q. to_fits _ rest q)
  operation_fits d (op.JumpIfNotZero a) is = one_fits f.stack _ here.stack (λ x rest p q. to_fits _ rest q)
  operation_fits d (op.Call n) is = call_fits n (called i n)
  operation_fits d (op.ProtectedCall n) is = protected_call_fits n (called i n)
  operation_fits d (op.EntryCall o) is = entry_call_fits o (entry_of (slice_get i.objects o))
  operation_fits d op.Return is = cond_fits _ _ _ (returns_to_fits fs f.role _ under here.role (take_fit (results_of (called i f.subprogram)) f.stack here.stack)) breaks_fits
  operation_fits d op.Raise is = one_fits f.stack _ here.stack (λ x rest p q. raises_number_fits _ (exception_of_fits (length i.exceptions) x p))
  operation_fits d op.CheckBlocking is = unless_inside_fits _ (to_fits _ f.stack here.stack)
  operation_fits d op.DelayUntil is =
      one_fits f.stack _ here.stack (λ x rest p q.
      unless_inside_fits _ (record { words = words; task = record { frame = record { locals = here.locals; stack = q; role = here.role }; callers = under; raising = tt }; given = tt; timely = p }))
  operation_fits d (op.PutLine a) is =
      one_fits f.stack _ here.stack (λ x rest p q. record { words = words; task = record { frame = record { locals = here.locals; stack = q; role = here.role }; callers = under; raising = tt }; given = tt; timely = tt })
  operation_fits d op.ReadInput is = one_fits f.stack _ here.stack (λ x rest p q. gives_fits (input_of schedule k.now x) rest (input_of_fits schedule k.now x heard) q)
  operation_fits d op.Clock is = to_fits _ (k.now ∷ f.stack) (now, here.stack)

  instruction_fits : (x : Option Instr) → slice_get i.instructions f.place ≡ x → StepFits (steps.does_instruction i schedule k t m f fs x)
  instruction_fits None is = breaks_fits
  instruction_fits (Some x) is = operation_fits x.depth x.operation is

  act_fits : (x : Option ℕ) → MayFit x → StepFits (steps.does_or_raises i schedule k t m f fs x)
  act_fits None p = instruction_fits (slice_get i.instructions f.place) refl
  act_fits (Some x) p = raised_fits x p

-- Worlds

module _ (i : Sections) (constants : ImageFits i) (schedule : List ScheduleLine) (heard : LinesFit schedule) where
  taken_fits : (o : ℕ) (s : TaskState) → TaskFits s → TaskFits (taken i o s)
  taken_fits o s p = record { frame = record { locals = p.frame.locals; stack = drop_fit (parameters_of (entry_called i o)) s.frame.stack p.frame.stack; role = p.frame.role }; callers = p.callers; raising = p.raising }

  serving_fits : (o caller : ℕ) (u t : TaskState) → TaskFits u → TaskFits t → TaskFits (serving i o caller u t)
  serving_fits o caller u t p q = by (entry_of (slice_get i.objects o)) (entry_called i o)
    where
      by : (n : Option ℕ) (s : Option Subprogram) → TaskFits (serving_with i o caller u t n s)
      by None s = q
      by (Some n) None = q
      by (Some n) (Some s) =
          record {
            frame = record { locals = both_fit (arguments s.parameters u.frame.stack) _ (reverse_fit _ (take_fit s.parameters u.frame.stack p.frame.stack)) (zeros_fit (s.locals - s.parameters)); stack = tt; role = q.raising };
            callers = (q.frame, q.callers);
            raising = tt;
          }

  receives_fits : (g : Given) (s : TaskState) → GivenFits (Some g) → TaskFits s → TaskFits (receives g s)
  receives_fits (Results l) s g p = record { frame = record { locals = p.frame.locals; stack = both_fit l s.frame.stack g p.frame.stack; role = p.frame.role }; callers = p.callers; raising = p.raising }
  receives_fits (Raised x) s g p = record { frame = p.frame; callers = p.callers; raising = g }

  reached_fits : (t : ℕ) (x : Ending) (g : Option Given) (tasks : ℕ → TaskState) → GivenFits g → ((u : ℕ) → TaskFits (tasks u)) → (u : ℕ) → TaskFits (reached (behaviour i schedule) t x g tasks u)
  reached_fits t Closes g tasks p all u = all u
  reached_fits t (TakesOver o v) g tasks p all u =
      by_put TaskFits v u (taken i o (tasks v)) (put t (serving i o v (tasks v) (tasks t)) tasks) (λ e. taken_fits o (tasks v) (all v))
      (λ ne. by_put TaskFits t u (serving i o v (tasks v) (tasks t)) tasks (λ e. serving_fits o v (tasks v) (tasks t) (all v) (all t)) (λ nt. all u))
  reached_fits t (HandsBack v) None tasks p all u = all u
  reached_fits t (HandsBack v) (Some g) tasks p all u = by_put TaskFits v u (receives g (tasks v)) tasks (λ e. receives_fits g (tasks v) p (all v)) (λ ne. all u)

  record Holds (w : CodeWorld) : Type 0 where
    words : WordsFit w.rest.memory
    tasks : (t : ℕ) → TaskFits (w.rest.tasks t)
    kernel : Bounded Anyone Fits64 w.kernel

  body_fits : (n : ℕ) (o : Option Subprogram) → FrameFits (body_frame i n o)
  body_fits n None = record { locals = tt; stack = tt; role = tt }
  body_fits n (Some s) = record { locals = zeros_fit s.locals; stack = tt; role = tt }

  role_fits : (o : Option ℕ) → RoleFits (role_within o)
  role_fits None = tt
  role_fits (Some o) = tt

  lowest_fits : FrameFits (lowest_frame i)
  lowest_fits = record { locals = tt; stack = tt; role = tt }

  handler_fits : (a : Option ℕ) → TaskFits (handler_state_of i a)
  handler_fits None = record { frame = lowest_fits; callers = tt; raising = tt }
  handler_fits (Some n) =
      let f = body_fits n (called i n) in
      record { frame = record { locals = f.locals; stack = f.stack; role = role_fits (object_of (kind_of (called i n))) }; callers = (lowest_fits, tt); raising = tt }

  initial_fits : (t : ℕ) → TaskFits (initial_state i t)
  initial_fits t =
      either TaskFits (nat_lt t (length i.tasks)) (task_state i t) (handler_state i (t - length i.tasks))
      (record { frame = body_fits _ (called i _); callers = tt; raising = tt })
      (handler_fits (attached_to (t - length i.tasks) i.attachments))

  step_holds : (k : Kernel) (d : Tasks Words TaskState) (o : Option Outcome) (running : Option ℕ) → Holds (record { kernel = k; rest = d }) → Holds (step_of (among (behaviour i schedule)) k d o running)
  step_holds k d (Some o) running h = h
  step_holds k d None None h = h
  step_holds k d None (Some t) h =
      let s = d.tasks t in
      let p = h.tasks t in
      let r = act i schedule k t (record { memory = d.memory; task = s }) in
      let fits : StepFits r = act_fits i constants schedule heard k h.kernel.now t d.memory h.words s.frame p.frame s.callers p.callers s.raising p.raising in
      let mine = cond (is_handler_over k t r.effect) (initial_state i t) r.solo.task in
      let own : TaskFits mine = either TaskFits (is_handler_over k t r.effect) (initial_state i t) r.solo.task (initial_fits t) fits.task in
      record {
        words = fits.words;
        tasks = reached_fits t (ending k t r.effect) r.given (put t mine d.tasks) fits.given (λ u. by_put TaskFits t u mine d.tasks (λ e. own) (λ ne. h.tasks u));
        kernel = bounded_after Anyone Fits64 t r.effect k tt fits.timely h.kernel;
      }

  run_holds : (n : ℕ) (w : CodeWorld) → Holds w → Holds (run (among (behaviour i schedule)) n w)
  run_holds zero w h = h
  run_holds (suc n) w h = run_holds n (step (among (behaviour i schedule)) w) (step_holds w.kernel w.rest w.kernel.outcome w.kernel.running h)

  awaited_fit : (lines : List ScheduleLine) → LinesFit lines → (tasks : ℕ) → Awaits Anyone Fits64 tasks (interrupts i lines)
  awaited_fit [] all tasks = tt
  awaited_fit (l ∷ ls) all tasks = by (handling_object i l.channel) (awaited_fit ls all.2 tasks)
    where
      by : (o : Option ℕ) → Awaits Anyone Fits64 tasks (interrupts i ls) → Awaits Anyone Fits64 tasks (interrupt_if o l (interrupts i ls))
      by None rest = rest
      by (Some o) rest = (tt, all.0, rest)

  start_holds : Holds (start i schedule)
  start_holds =
      record {
        words = record { plain = constants.plain; objects = objects_at i.objects constants.objects };
        tasks = initial_fits;
        kernel = bounded_begin Anyone Fits64 (partition_of i) (interrupts i schedule) (λ t lt. tt) (awaited_fit schedule heard (length i.tasks)) refl;
      }

  pending_fit : (tasks : ℕ) (is : List Interrupt) → Awaits Anyone Fits64 tasks is → PendingFits is
  pending_fit tasks [] all = tt
  pending_fit tasks (x ∷ is) all = (all.1, pending_fit tasks is all.2)

  sleepers_fit : (ss : List Sleeper) → Sleeps Anyone Fits64 ss → SleepersFit ss
  sleepers_fit [] all = tt
  sleepers_fit (s ∷ ss) all = (all.1, sleepers_fit ss all.2)

pub fits_64_bits : (i : Sections) → ImageFits i → FitsAlways i
fits_64_bits i constants schedule heard m =
    let h = run_holds i constants schedule heard m (start i schedule) (start_holds i constants schedule heard) in
    record { words = h.words; tasks = h.tasks; now = h.kernel.now; sleepers = sleepers_fit i constants schedule heard (code i schedule m).kernel.sleepers h.kernel.sleepers; pending = pending_fit i constants schedule heard (code i schedule m).kernel.partition.tasks (code i schedule m).kernel.pending h.kernel.pending }
