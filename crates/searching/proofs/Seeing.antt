-- What is seen of a run, as what it is of the world of code.
use Rattle.std.proofs.Common.{◌≡◌, ℕ, zero, suc, ◌<◌, ◌≤◌, ℤ, pos, List, [], ◌∷◌, get_or, Option, Some, None, false, true, ap, subst, ◌∙◌, arith, rules}
use Rattle.std.specs.Prelude.{int_le, int_lt, nat_le, slice_get, ◌≤ℤ◌, ◌<ℤ◌, ◌-ℤ◌}
use Rattle.std.proofs.lemmas.Bool.{and_parts}
use Rattle.std.proofs.lemmas.Int.{ints}
use Rattle.base.specs.Schedule.{input}
use Rattle.base.specs.declared.limits.TheConstants.{CHANNELS}
use Rattle.base.specs.declared.schedule.ScheduleLine.{ScheduleLine}
use Rattle.kernel.specs.State.{Kernel, Outcome}
use Rattle.image.specs.Code.{CodeWorld}
use Rattle.image.specs.Sections.{Sections}
use Rattle.image.specs.declared.instruction.Instr.{Instr}
use Rattle.tasking.specs.Orderly.{time_ahead}
use Rattle.execution.specs.Ahead.{address_by, next_address}
use Rattle.likeness.specs.Schedules.{AgreeAt, reads_input}
use Rattle.likeness.specs.Worlds.{IsBlind, IsEarly, IsLastBefore, NoneSooner, ReadsNothing}

some_same : {X : Type 0} (x y : X) → Some x ≡ Some y → x ≡ y
some_same x y e = search (rules, e)

address_is : (w : CodeWorld) (o : Option Outcome) (r : Option ℕ) (a t : ℕ) → Some a ≡ address_by w o r → r ≡ Some t → a ≡ (w.rest.tasks t).frame.place
address_is w (Some o) r a t e is = absurd cc
address_is w None None a t e is = absurd cc
address_is w None (Some u) a t e is =
    let same : u ≡ t = some_same u t is in
    some_same a (w.rest.tasks u).frame.place e ∙ ap (λ x. (w.rest.tasks x).frame.place) same

-- the instruction ahead reads nothing
pub reads_nothing : (i : Sections) (w : CodeWorld) (a : ℕ) → Some a ≡ next_address w → IsBlind (slice_get i.instructions a) → ReadsNothing i w
reads_nothing i w a e blind t runs =
    subst (λ p. IsBlind (slice_get i.instructions p)) (address_is w w.kernel.outcome w.kernel.running a t e runs) blind

pub blind_none : (o : Option Instr) → o ≡ None → IsBlind o
blind_none None e = tt
blind_none (Some x) e = absurd cc

pub blind_at : (xs : List Instr) (n : ℕ) (x : Instr) → x ≡ get_or xs n x → reads_input x.operation ≡ false → IsBlind (slice_get xs n)
blind_at [] n x is blind = tt
blind_at (y ∷ xs) zero x is blind = subst (λ z. reads_input z.operation ≡ false) is blind
blind_at (y ∷ xs) (suc n) x is blind = blind_at xs n x is blind

-- no interrupt before the time
pub none_ahead : (time : ℤ) (w : CodeWorld) → None ≡ time_ahead w.kernel.pending → NoneSooner time w
none_ahead time w e x xs is = absurd (let h = e ∙ ap time_ahead is in cc)

pub later_ahead : (time next : ℤ) (w : CodeWorld) → Some next ≡ time_ahead w.kernel.pending → time ≤ℤ next → NoneSooner time w
later_ahead time next w e le x xs is =
    let same : next ≡ x.time = some_same next x.time (e ∙ ap time_ahead is) in
    subst (λ z. int_le time z ≡ true) same (is_le time next le)
  where
    is_le : (a b : ℤ) → a ≤ℤ b → int_le a b ≡ true
    is_le a b h = grind (arith, ints)

pub early_by : (time : ℤ) (k : Kernel) → k.now <ℤ time → k.outcome ≡ None → IsEarly time k
early_by time k lt on = record { now = is_lt k.now time lt; on = on }
  where
    is_lt : (a b : ℤ) → a <ℤ b → int_lt a b ≡ true
    is_lt a b h = grind (arith, ints)

pub late_by : (time : ℤ) (k : Kernel) → time ≤ℤ k.now → IsEarly time k → ⊥
late_by time k le h = never k.now time h.now le
  where
    never : (a b : ℤ) → int_lt a b ≡ true → b ≤ℤ a → ⊥
    never a b h i = grind (arith, ints)

pub over_by : (time : ℤ) (k : Kernel) (o : Outcome) → k.outcome ≡ Some o → IsEarly time k → ⊥
over_by time k o e h = absurd (let on = h.on in cc)

pub last_before : (time : ℤ) → IsLastBefore (time -ℤ pos 1) time
last_before time = record { early = less time; all = λ z h. at_most z time h }
  where
    less : (t : ℤ) → int_lt (t -ℤ pos 1) t ≡ true
    less t = grind (arith, ints)

    at_most : (z t : ℤ) → int_lt z t ≡ true → int_le z (t -ℤ pos 1) ≡ true
    at_most z t h = grind (arith, ints)

-- the values of all channels
pub agree_all : (r s : List ScheduleLine) (now : ℤ) (n : ℕ) → CHANNELS ≤ n → ((c : ℕ) → 0 < c → c ≤ n → input r c now ≡ input s c now) → AgreeAt r s now
agree_all r s now n le same channel known =
    let both = and_parts (nat_le 1 channel) (nat_le channel CHANNELS) known in
    let low : 1 ≤ channel = search (rules, both.0) in
    let high : channel ≤ CHANNELS = search (rules, both.1) in
    same channel (omega (arith, low)) (omega (arith, high, le))
