-- The input under schedules that are alike before a time, or from it on.
use Rattle.std.proofs.Common.{◌≡◌, ℕ, ℤ, pos, List, [], ◌∷◌, ◌++◌, Option, Some, None, Bool, true, false, cond, refl, sym, ap, ◌∙◌, arith, subst}
use Rattle.std.specs.Prelude.{◌&&◌, int_le, int_lt, nat_eq}
use Rattle.std.proofs.lemmas.Int.{ints}
use Rattle.base.specs.Schedule.{input, input_after, is_heard}
use Rattle.base.specs.declared.schedule.ScheduleLine.{ScheduleLine}
use Rattle.kernel.specs.State.{Interrupt}
use Rattle.kernel.specs.Interrupts.{interrupt_if, interrupts_of}
use Rattle.likeness.specs.Schedules.{AgreeBefore, AreBefore, AreFrom}
use Rattle.likeness.specs.Worlds.{IsLastBefore}
use Rattle.likeness.proofs.Pending as pending

pub after_both : (v : ℤ) (c d : List ScheduleLine) (channel : ℕ) (now : ℤ) → input_after v (c ++ d) channel now ≡ input_after (input_after v c channel now) d channel now
after_both v [] d channel now = refl
after_both v (l ∷ c) d channel now = after_both (cond (is_heard channel now l) l.value v) c d channel now

not_heard : (a b : Bool) → b ≡ false → (a && b) ≡ false
not_heard true b e = e
not_heard false b e = refl

late : (now time at : ℤ) → int_lt now time ≡ true → int_le time at ≡ true → int_le at now ≡ false
late now time at h i = grind (arith, ints)

-- lines from a time on are not heard before it
later_unheard : (time v : ℤ) (d : List ScheduleLine) (channel : ℕ) (now : ℤ) → AreFrom time d → int_lt now time ≡ true → input_after v d channel now ≡ v
later_unheard time v [] channel now from lt = refl
later_unheard time v (l ∷ d) channel now from lt =
    ap (λ b. input_after (cond b l.value v) d channel now) (not_heard (nat_eq l.channel channel) (int_le l.time now) (late now time l.time lt from.0))
    ∙ later_unheard time v d channel now from.1 lt

-- so before that time they make no difference
pub same_before : (time : ℤ) (c d e : List ScheduleLine) → AreFrom time d → AreFrom time e → AgreeBefore (c ++ d) (c ++ e) time
same_before time c d e from_d from_e now lt channel known =
    after_both (pos 0) c d channel now
    ∙ (later_unheard time (input c channel now) d channel now from_d lt
    ∙ sym (after_both (pos 0) c e channel now ∙ later_unheard time (input c channel now) e channel now from_e lt))

-- lines before a time are heard from that time on, and at the last time before it
heard_from : (at time now : ℤ) → int_lt at time ≡ true → int_le time now ≡ true → int_le at now ≡ true
heard_from at time now h i = grind (arith, ints)

all_heard : (time last v : ℤ) (c : List ScheduleLine) (channel : ℕ) (now : ℤ) → AreBefore time c → int_le time now ≡ true → IsLastBefore last time
    → input_after v c channel now ≡ input_after v c channel last
all_heard time last v [] channel now before le h = refl
all_heard time last v (l ∷ c) channel now before le h =
    let x : int_le l.time now ≡ true = heard_from l.time time now before.0 le in
    let y : int_le l.time last ≡ true = h.all l.time before.0 in
    ap (λ b. input_after (cond (nat_eq l.channel channel && b) l.value v) c channel now) (x ∙ sym y)
    ∙ all_heard time last (cond (is_heard channel last l) l.value v) c channel now before.1 le h

-- at the last time before the lines of the tail the input is that of the front
pub front_input : (time last : ℤ) (c d : List ScheduleLine) (channel : ℕ) → AreFrom time d → IsLastBefore last time → input (c ++ d) channel last ≡ input c channel last
front_input time last c d channel from h = after_both (pos 0) c d channel last ∙ later_unheard time (input c channel last) d channel last from h.early

-- where the last values of a channel are the same under two fronts, its inputs under these and one tail are the same from there on
pub same_from : (time last : ℤ) (c e d : List ScheduleLine) (channel : ℕ) (now : ℤ) → AreBefore time c → AreBefore time e → IsLastBefore last time
    → int_le time now ≡ true → input c channel last ≡ input e channel last → input (c ++ d) channel now ≡ input (e ++ d) channel now
same_from time last c e d channel now before_c before_e h le same =
    let x = all_heard time last (pos 0) c channel now before_c le h in
    let y = all_heard time last (pos 0) e channel now before_e le h in
    after_both (pos 0) c d channel now
    ∙ (ap (λ v. input_after v d channel now) (x ∙ (same ∙ sym y)) ∙ sym (after_both (pos 0) e d channel now))

-- ---- interrupts

pub interrupts_both : (attached : ℕ → Option ℕ) (c d : List ScheduleLine) → interrupts_of attached (c ++ d) ≡ interrupts_of attached c ++ interrupts_of attached d
interrupts_both attached [] d = refl
interrupts_both attached (l ∷ c) d = ap (interrupt_if (attached l.channel) l) (interrupts_both attached c d) ∙ if_both (attached l.channel)
  where
    if_both : (o : Option ℕ) → interrupt_if o l (interrupts_of attached c ++ interrupts_of attached d) ≡ interrupt_if o l (interrupts_of attached c) ++ interrupts_of attached d
    if_both None = refl
    if_both (Some object) = refl

pub interrupts_from : (attached : ℕ → Option ℕ) (time : ℤ) (d : List ScheduleLine) → AreFrom time d → pending.AreFrom time (interrupts_of attached d)
interrupts_from attached time [] from = tt
interrupts_from attached time (l ∷ d) from = if_from (attached l.channel) (interrupts_from attached time d from.1)
  where
    if_from : (o : Option ℕ) → pending.AreFrom time (interrupts_of attached d) → pending.AreFrom time (interrupt_if o l (interrupts_of attached d))
    if_from None rest = rest
    if_from (Some object) rest = (from.0, rest)

pub interrupts_early : (attached : ℕ → Option ℕ) (time : ℤ) (c : List ScheduleLine) → AreBefore time c → pending.AreEarly time (interrupts_of attached c)
interrupts_early attached time [] before = tt
interrupts_early attached time (l ∷ c) before = if_early (attached l.channel) (interrupts_early attached time c before.1)
  where
    if_early : (o : Option ℕ) → pending.AreEarly time (interrupts_of attached c) → pending.AreEarly time (interrupt_if o l (interrupts_of attached c))
    if_early None rest = rest
    if_early (Some object) rest = (before.0, rest)
