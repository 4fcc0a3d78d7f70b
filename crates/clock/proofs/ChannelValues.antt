-- The value of a channel after the lines that have passed is the input at their time.
use Rattle.std.proofs.Common.{◌≡◌, ◌≢◌, ◌<◌, ◌≤◌, ℕ, zero, suc, ℤ, pos, List, [], ◌∷◌, length, get_or, Bool, true, false, ◌&&◌, IsTrue, nat_eq, nat_le, int_le, refl, sym, ap, ◌∙◌, arith, rules, ⊎_elim}
use Rattle.std.proofs.lemmas.Bool.Decides.{eqb_tells}
use Rattle.std.proofs.lemmas.List.{get_or-set_other, get_or-set_same, length-set, length-replicate}
use Rattle.std.proofs.lemmas.Int.{ints}
use Rattle.std.specs.Prelude.{if◌then◌else◌}
use Rattle.std.specs.List.Sorted.{IsPartitionPoint, IsPartitionedBy}
use Rattle.base.specs.Schedule.{input, input_after, is_heard, is_line, are_lines, are_ordered_from, is_schedule}
use Rattle.base.specs.declared.limits.TheConstants.{CHANNELS, SCHEDULE_LINES}
use Rattle.base.specs.declared.schedule.ScheduleLine.{ScheduleLine}
use Rattle.clock.specs.ChannelValues.{no_values, value_after, values_from, with_line}

abbrev pub is_passed : ℤ → ScheduleLine → Bool
is_passed now l = int_le l.time now

-- ---- lines in the order of their times

both : (a b : Bool) → (a && b) ≡ true → (a ≡ true) × (b ≡ true)
both true true h = (refl, refl)
both true false h = absurd cc
both false b h = absurd cc

not_before : (from : ℤ) (ls : List ScheduleLine) (j : ℕ) (d : ScheduleLine) → are_ordered_from from ls ≡ true → j < length ls → int_le from (get_or ls j d).time ≡ true
not_before from [] j d ordered less = absurd (omega (arith, less))
not_before from (l ∷ ls) zero d ordered less = (both (int_le from l.time) (are_ordered_from l.time ls) ordered).0
not_before from (l ∷ ls) (suc j) d ordered less =
    let h = both (int_le from l.time) (are_ordered_from l.time ls) ordered in
    let later = not_before l.time ls j d h.1 (omega (arith, less)) in
    le_trans from l.time (get_or ls j d).time h.0 later
  where
    le_trans : (a b c : ℤ) → int_le a b ≡ true → int_le b c ≡ true → int_le a c ≡ true
    le_trans a b c h i = grind (arith, ints)

rises : (from : ℤ) (ls : List ScheduleLine) (i j : ℕ) (d : ScheduleLine) → are_ordered_from from ls ≡ true → i ≤ j → j < length ls
    → int_le (get_or ls i d).time (get_or ls j d).time ≡ true
rises from [] i j d ordered le less = absurd (omega (arith, less))
rises from (l ∷ ls) zero zero d ordered le less = grind (arith, ints)
rises from (l ∷ ls) zero (suc j) d ordered le less =
    not_before l.time ls j d (both (int_le from l.time) (are_ordered_from l.time ls) ordered).1 (omega (arith, less))
rises from (l ∷ ls) (suc i) zero d ordered le less = absurd (omega (arith, le))
rises from (l ∷ ls) (suc i) (suc j) d ordered le less =
    rises l.time ls i j d (both (int_le from l.time) (are_ordered_from l.time ls) ordered).1 (omega (arith, le)) (omega (arith, less))

passed_yet : (a b now : ℤ) → int_le a b ≡ true → int_le b now ≡ true → int_le a now ≡ true
passed_yet a b now h i = grind (arith, ints)

pub parted : (now : ℤ) (ls : List ScheduleLine) → are_ordered_from (pos 0) ls ≡ true → IsPartitionedBy (is_passed now) ls
parted now ls ordered i j d le less is = passed_yet (get_or ls i d).time (get_or ls j d).time now (rises (pos 0) ls i j d ordered le less) is

-- ---- lines that are yet to come

unheard : (channel : ℕ) (now : ℤ) (l : ScheduleLine) → int_le l.time now ≡ false → is_heard channel now l ≡ false
unheard channel now l is = go (nat_eq l.channel channel) (int_le l.time now) is where
  go : (a b : Bool) → b ≡ false → (a && b) ≡ false
  go true b is = is
  go false b is = refl

later : (a b now : ℤ) → int_le a b ≡ true → int_le a now ≡ false → int_le b now ≡ false
later a b now h i = grind (arith, ints)

none_passed : (from now value : ℤ) (ls : List ScheduleLine) (channel : ℕ) → are_ordered_from from ls ≡ true → int_le from now ≡ false
    → input_after value ls channel now ≡ value
none_passed from now value [] channel ordered before = refl
none_passed from now value (l ∷ ls) channel ordered before =
    let h = both (int_le from l.time) (are_ordered_from l.time ls) ordered in
    let yet : int_le l.time now ≡ false = later from l.time now h.0 before in
    ap (λ b. input_after (if b then l.value else value) ls channel now) (unheard channel now l yet)
    ∙ none_passed l.time now value ls channel h.1 yet

-- ---- lines that have passed

-- the values after so many lines, or those before the first one
abbrev pub row_after : (values : List ℤ) (rows : List (List ℤ)) (passed : ℕ) → List ℤ
row_after values rows zero = values
row_after values rows (suc last) = get_or rows last []

row_next : (values row : List ℤ) (rows : List (List ℤ)) (passed : ℕ) → row_after values (row ∷ rows) (suc passed) ≡ row_after row rows passed
row_next values row rows zero = refl
row_next values row rows (suc last) = refl

and_true : (b : Bool) → (b && true) ≡ b
and_true true = refl
and_true false = refl

heard : (channel : ℕ) (now : ℤ) (l : ScheduleLine) (values : List ℤ) → int_le l.time now ≡ true → l.channel < length values
    → (if is_heard channel now l then l.value else get_or values channel (pos 0)) ≡ get_or (with_line values l) channel (pos 0)
heard channel now l values is within =
    ⊎_elim
    (λ (h : (nat_eq l.channel channel ≡ true) × (l.channel ≡ channel)).
    test true h.0 ∙ sym (ap (λ n. get_or (with_line values l) n (pos 0)) (sym h.1) ∙ get_or-set_same values l.channel l.value (pos 0) within))
    (λ (h : (nat_eq l.channel channel ≡ false) × (l.channel ≢ channel)).
    test false h.0 ∙ sym (get_or-set_other values l.channel channel l.value (pos 0) (λ e. h.1 (sym e))))
    (eqb_tells l.channel channel)
  where
    test : (b : Bool) → nat_eq l.channel channel ≡ b
        → (if is_heard channel now l then l.value else get_or values channel (pos 0)) ≡ (if b then l.value else get_or values channel (pos 0))
    test b e = ap (λ b. if b then l.value else get_or values channel (pos 0)) (ap (λ a. a && int_le l.time now) e ∙ ap (λ c. b && c) is ∙ and_true b)

channel_within : (l : ScheduleLine) → is_line l ≡ true → l.channel ≤ CHANNELS
channel_within l is = search rules

pub passed_is : (values : List ℤ) (from now : ℤ) (ls : List ScheduleLine) (channel passed : ℕ) (d : ScheduleLine) → length values ≡ suc CHANNELS
    → are_lines ls ≡ true → are_ordered_from from ls ≡ true
    → passed ≤ length ls → ((k : ℕ) → k < passed → is_passed now (get_or ls k d) ≡ true)
    → (passed < length ls → is_passed now (get_or ls passed d) ≡ false)
    → input_after (get_or values channel (pos 0)) ls channel now ≡ get_or (row_after values (values_from values ls) passed) channel (pos 0)
passed_is values from now [] channel zero d long lines ordered most before after = refl
passed_is values from now [] channel (suc passed) d long lines ordered most before after = absurd (omega (arith, most))
passed_is values from now (l ∷ ls) channel zero d long lines ordered most before after =
    let h = both (int_le from l.time) (are_ordered_from l.time ls) ordered in
    let yet : int_le l.time now ≡ false = after (omega arith) in
    ap (λ b. input_after (if b then l.value else get_or values channel (pos 0)) ls channel now) (unheard channel now l yet)
    ∙ none_passed l.time now (get_or values channel (pos 0)) ls channel h.1 yet
passed_is values from now (l ∷ ls) channel (suc passed) d long lines ordered most before after =
    let h = both (int_le from l.time) (are_ordered_from l.time ls) ordered in
    let is = both (is_line l) (are_lines ls) lines in
    let within : l.channel < length values = let c = channel_within l is.0 in omega (arith, c, long) in
    let next = with_line values l in
    let long' : length next ≡ suc CHANNELS = length-set values l.channel l.value ∙ long in
    ap (λ v. input_after v ls channel now) (heard channel now l values (before 0 (omega arith)) within)
    ∙ passed_is next l.time now ls channel passed d long' is.1 h.1 (omega (arith, most)) (λ k less. before (suc k) (omega (arith, less))) (λ less. after (omega (arith, less)))
    ∙ ap (λ row. get_or row channel (pos 0)) (sym (row_next values next (values_from next ls) passed))

-- a schedule's lines, of which so many have passed
pub value_is : (now : ℤ) (lines : List ScheduleLine) (channel passed : ℕ) → IsTrue (is_schedule lines) → passed ≤ length lines
    → IsPartitionPoint (λ (l : ScheduleLine). is_passed now l ≡ true) (λ (l : ScheduleLine). is_passed now l ≡ false) lines passed
    → value_after (values_from no_values lines) passed channel ≡ input lines channel now
value_is now lines channel passed is most point =
    let parts = both (nat_le (length lines) SCHEDULE_LINES && are_lines lines) (are_ordered_from (pos 0) lines) is in
    let are = both (nat_le (length lines) SCHEDULE_LINES) (are_lines lines) parts.0 in
    let d : ScheduleLine = record { time = pos 0; channel = 0; value = pos 0 } in
    let all = passed_is no_values (pos 0) now lines channel passed d (length-replicate (suc CHANNELS) (pos 0)) are.1 parts.1 most
    (λ k less. point.0 k d (omega arith) less) (λ less. point.1 passed d (omega arith) less) in
    start passed ∙ sym all ∙ ap (λ v. input_after v lines channel now) (none channel)
  where
    none : (n : ℕ) → get_or no_values n (pos 0) ≡ pos 0
    none n = search rules

    start : (n : ℕ) → value_after (values_from no_values lines) n channel ≡ get_or (row_after no_values (values_from no_values lines) n) channel (pos 0)
    start zero = sym (none channel)
    start (suc n) = refl

pub parted_schedule : (now : ℤ) (lines : List ScheduleLine) → IsTrue (is_schedule lines) → IsPartitionedBy (is_passed now) lines
parted_schedule now lines is = parted now lines (both (nat_le (length lines) SCHEDULE_LINES && are_lines lines) (are_ordered_from (pos 0) lines) is).1
