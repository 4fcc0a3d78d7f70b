-- Tokens that begin one after another are parted by a place.
use Rattle.std.proofs.Common.{◌≡◌, ◌∙◌, ℕ, zero, suc, ◌+◌, ◌<◌, ◌≤◌, Bool, true, false, List, [], ◌∷◌, length, nat_eq, nat_lt, get_or, slice_get, cond, Some, None, refl, sym, ap, arith, eqb-true, ltb-false, ltb-true, ne_eqb}
use Rattle.std.proofs.lemmas.List.Sorted.{IsPartitionedBy-ltb}
use Rattle.std.proofs.lemmas.List.Sums.{prefix_len_is}
use Rattle.std.specs.Prelude.{if◌then◌else◌}
use Rattle.std.specs.List.{prefix_len}
use Rattle.std.specs.List.Sorted.{IsPartitionPoint, IsPartitionedBy}
use Rattle.lexer.specs.declared.token.Token.{Token}
use Rattle.lexer.specs.Spelling.{AreInOrder}
use Rattle.remedies.specs.Recognition.{count_before}
use Rattle.remedies.specs.TextTokens.{BeginFrom, if_begins_at, token_at}

-- ---- where they are parted

least : (ts : List Token) (place j : ℕ) (d : Token) → BeginFrom place ts → j < length ts → place ≤ (get_or ts j d).start
least [] place j d begin less = absurd (omega (arith, less))
least (t ∷ ts) place zero d begin less = begin.0
least (t ∷ ts) place (suc j) d begin less =
    let first : place ≤ t.start = begin.0 in
    let later : suc t.start ≤ (get_or ts j d).start = least ts (suc t.start) j d begin.1 (omega arith) in
    omega arith

rises : (ts : List Token) (place i j : ℕ) (d : Token) → BeginFrom place ts → i ≤ j → j < length ts → (get_or ts i d).start ≤ (get_or ts j d).start
rises [] place i j d begin le less = absurd (omega (arith, less))
rises (t ∷ ts) place zero zero d begin le less = omega arith
rises (t ∷ ts) place zero (suc j) d begin le less =
    let later : suc t.start ≤ (get_or ts j d).start = least ts (suc t.start) j d begin.1 (omega arith) in
    omega arith
rises (t ∷ ts) place (suc i) zero d begin le less = absurd (omega (arith, le))
rises (t ∷ ts) place (suc i) (suc j) d begin le less = rises ts (suc t.start) i j d begin.1 (omega arith) (omega arith)

pub parted : (place : ℕ) (ts : List Token) → BeginFrom 0 ts → IsPartitionedBy (λ (t : Token). nat_lt t.start place) ts
parted place ts begin = IsPartitionedBy-ltb (λ (t : Token). t.start) ts place (λ i j d le less. rises ts 0 i j d begin le less)

count_next : (b : Bool) (m n : ℕ) → m ≡ n → (if b then suc m else zero) ≡ cond b (1 + n) 0
count_next true m n same =
    let one : suc n ≡ 1 + n = omega arith in
    ap suc same ∙ one
count_next false m n same = refl

counted : (place : ℕ) (ts : List Token) → count_before place ts ≡ prefix_len (λ (t : Token). nat_lt t.start place) ts
counted place [] = refl
counted place (t ∷ ts) = count_next (nat_lt t.start place) (count_before place ts) (prefix_len (λ (x : Token). nat_lt x.start place) ts) (counted place ts)

pub point_counts : (place : ℕ) (ts : List Token) (n : ℕ) → n ≤ length ts
    → IsPartitionPoint (λ (t : Token). nat_lt t.start place ≡ true) (λ (t : Token). nat_lt t.start place ≡ false) ts n → n ≡ count_before place ts
point_counts place [] n most point =
    let none : n ≡ 0 = omega (arith, most) in
    none
point_counts place (t ∷ ts) n most point =
    let before : (k : ℕ) → k < n → nat_lt (get_or (t ∷ ts) k t).start place ≡ true = λ k less. point.0 k t (omega arith) less in
    let after : n < length (t ∷ ts) → nat_lt (get_or (t ∷ ts) n t).start place ≡ false = λ less. point.1 n t (omega arith) less in
    sym (counted place (t ∷ ts) ∙ prefix_len_is (λ (x : Token). nat_lt x.start place) (t ∷ ts) n t most before after)

-- ---- what begins at a place

passed : (ts : List Token) (from place : ℕ) → BeginFrom from ts → place < from → token_at place ts ≡ None
passed [] from place begin less = refl
passed (t ∷ ts) from place begin less =
    let first : from ≤ t.start = begin.0 in
    let other : nat_eq t.start place ≡ false = ne_eqb t.start place (omega arith) in
    ap (λ b. if b then Some t else token_at place ts) other ∙ passed ts (suc t.start) place begin.1 (omega arith)

found_next : (before here : Bool) (place : ℕ) (t : Token) (ts : List Token) → nat_lt t.start place ≡ before → nat_eq t.start place ≡ here
    → if_begins_at place (slice_get ts (count_before place ts)) ≡ token_at place ts → (place < suc t.start → token_at place ts ≡ None)
    → if_begins_at place (slice_get (t ∷ ts) (if before then suc (count_before place ts) else zero)) ≡ (if here then Some t else token_at place ts)
found_next true true place t ts less same later none = absurd (omega (arith, ltb-true t.start place less, eqb-true t.start place same))
found_next true false place t ts less other later none = later
found_next false true place t ts above same later none = ap (λ b. if b then Some t else None) same
found_next false false place t ts above other later none =
    ap (λ b. if b then Some t else None) other ∙ sym (none (omega (arith, ltb-false t.start place above)))

-- the token that begins at a place is the first that doesn't begin before it
pub found_at : (place from : ℕ) (ts : List Token) → BeginFrom from ts → if_begins_at place (slice_get ts (count_before place ts)) ≡ token_at place ts
found_at place from [] begin = refl
found_at place from (t ∷ ts) begin =
    found_next (nat_lt t.start place) (nat_eq t.start place) place t ts refl refl (found_at place (suc t.start) ts begin.1)
    (λ less. passed ts (suc t.start) place begin.1 less)

-- ---- the tokens of a text

weaker : (m n : ℕ) (ts : List Token) → m ≤ n → BeginFrom n ts → BeginFrom m ts
weaker m n [] le begin = begin
weaker m n (t ∷ ts) le begin =
    let first : n ≤ t.start = begin.0 in
    (omega arith, begin.1)

pub begin_in_order : (from to : ℕ) (ts : List Token) → AreInOrder from to ts → BeginFrom from ts
begin_in_order from to [] order = tt
begin_in_order from to (t ∷ ts) order =
    let long : t.start < t.end_ = order.1 in
    (order.0, weaker (suc t.start) t.end_ ts (omega arith) (begin_in_order t.end_ to ts order.2))
