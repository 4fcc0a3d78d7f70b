-- Rows that are added with code, of handlers and of places: none, those of parts one behind the other, and those of a part in code around it; and what of
-- them each part sees.
use Rattle.std.proofs.Common.{◌≡◌, ℕ, ◌≤◌, List, [], ◌∷◌, ◌++◌, All, Bool, true, false, length, refl, sym, ap, ◌∙◌, subst, arith, rules}
use Rattle.std.specs.Prelude.{◌&&◌, ◌||◌, nat_le}
use Rattle.std.specs.List.{list_all}
use Rattle.std.proofs.lemmas.List.{append-nil, append_assoc}
use Rattle.std.proofs.lemmas.List.Elements.{All-append, All-cons, All-head, All-nil, All-tail, All-weaker}
use Rattle.std.proofs.lemmas.List.Folds.{list_all-append}
use Rattle.handlers.specs.Nesting.{all_nested, are_nested}
use Rattle.handlers.specs.declared.rows.Row.{Row}
use Rattle.expr_code.specs.Code.{Extends, here}
use Rattle.expr_code.specs.declared.code.Code.{Code}
use Rattle.stmt_code.specs.Emitting.{AddsRows, FindsException}
use Rattle.part_code.specs.Rows.{LiesWithin}
use Rattle.stmt_code.specs.declared.draft.Draft.{Draft}
use Rattle.stmt_code.specs.Placing.{StandsBetween}
use Rattle.stmt_code.specs.declared.tables.PlaceRow.{PlaceRow}
use Rattle.stmt_code.proofs.PlacesAdded.{innermost_around, innermost_then, wider_places}

-- ---- instructions that find the exception

-- what finds it in the one code stands in the other, and finds it there
abbrev pub StillFinds : (old new : Code) → Type 0
StillFinds old new = (place : ℕ) → FindsException old place → FindsException new place

pub finds_later : (old new : Code) → Extends old new → StillFinds old new
finds_later old new e = λ place h. record { operation = h.operation; there = e.instructions place _ (omega arith) h.there }

-- ---- none

-- the one draft has the rows and exceptions of the other
abbrev pub KeepsRows : (old new : Draft) → Type 0
KeepsRows old new = (new.rows ≡ old.rows) × (new.exceptions ≡ old.exceptions)

module _ (a c : Draft) (same : KeepsRows a c) where
  abbrev pub rows_kept : AddsRows a c
  rows_kept = record {
    added = [];
    appended = ap (λ l. l.items) same.0 ∙ sym (append-nil a.rows.items);
    exceptions = same.1;
    within = All-nil (LiesWithin (here a.code) (here c.code));
    nested = refl;
    known = All-nil (λ q. q.exception ≤ length a.exceptions.items);
    ready = All-nil (λ q. FindsException c.code q.target);
    placed = [];
    located = ap (λ l. l.places) same.0 ∙ sym (append-nil a.rows.places);
    between = All-nil (StandsBetween (here a.code) (here c.code));
    innermost = tt;
  }

-- ---- of parts one behind the other

pub begins_behind : (from to mid : ℕ) (rows : List Row) → mid ≤ from → All (LiesWithin from to) rows → All (λ q. mid ≤ q.start) rows
begins_behind from to mid rows up all =
    All-weaker (LiesWithin from to) (λ q. mid ≤ q.start) (λ q h. let s = h.start in omega (arith, s, up)) rows all

pub ends_before : (from to mid : ℕ) (rows : List Row) → to ≤ mid → All (LiesWithin from to) rows → All (λ q. q.end_ ≤ mid) rows
ends_before from to mid rows up all =
    All-weaker (LiesWithin from to) (λ q. q.end_ ≤ mid) (λ q h. let e = h.end in omega (arith, e, up)) rows all

pub wider_rows : (from to low high : ℕ) (rows : List Row) → low ≤ from → to ≤ high → All (LiesWithin from to) rows → All (LiesWithin low high) rows
wider_rows from to low high rows down up all =
    All-weaker (LiesWithin from to) (LiesWithin low high)
    (λ q h.
    let s = h.start in
    let e = h.end in
    let t = h.down in
    let u = h.up in
    record { start = omega (arith, s, down); places = h.places; end = omega (arith, e, up); down = omega (arith, t, down); up = omega (arith, u, up) })
    rows all

both_true : (a b : Bool) → a ≡ true → b ≡ true → (a && b) ≡ true
both_true a b one two = ap (λ t. t && b) one ∙ two

left_true : (a b : Bool) → (a && b) ≡ true → a ≡ true
left_true true b e = refl
left_true false b e = absurd cc

right_true : (a b : Bool) → (a && b) ≡ true → b ≡ true
right_true true b e = e
right_true false b e = absurd cc

-- a region that ends in front of the other
apart : (mid : ℕ) (r q : Row) → r.end_ ≤ mid → mid ≤ q.start → are_nested r q ≡ true
apart mid r q one two =
    third (nat_le r.start q.start && nat_le q.end_ r.end_) (nat_le q.start r.start && nat_le r.end_ q.end_) (nat_le r.end_ q.start) (nat_le q.end_ r.start)
    (in_front r.end_ q.start (omega (arith, one, two)))
  where
    in_front : (a b : ℕ) → a ≤ b → nat_le a b ≡ true
    in_front a b h = search rules

    third : (x y z u : Bool) → z ≡ true → (x || (y || (z || u))) ≡ true
    third true y z u e = refl
    third false true z u e = refl
    third false false z u e = ap (λ t. t || u) e

all_apart : (mid : ℕ) (r : Row) (rows : List Row) → r.end_ ≤ mid → All (λ q. mid ≤ q.start) rows → list_all (are_nested r) rows ≡ true
all_apart mid r [] one all = refl
all_apart mid r (q ∷ rows) one all =
    both_true (are_nested r q) (list_all (are_nested r) rows) (apart mid r q one (All-head (λ q. mid ≤ q.start) q rows all))
    (all_apart mid r rows one (All-tail (λ q. mid ≤ q.start) q rows all))

pub nested_then : (mid : ℕ) (one two : List Row) → All (λ q. q.end_ ≤ mid) one → All (λ q. mid ≤ q.start) two → all_nested one ≡ true → all_nested two ≡ true
    → all_nested (one ++ two) ≡ true
nested_then mid [] two before behind first second = second
nested_then mid (r ∷ one) two before behind first second =
    both_true (list_all (are_nested r) (one ++ two)) (all_nested (one ++ two))
    (list_all-append (are_nested r) one two
    ∙ both_true (list_all (are_nested r) one) (list_all (are_nested r) two) (left_true (list_all (are_nested r) one) (all_nested one) first)
    (all_apart mid r two (All-head (λ q. q.end_ ≤ mid) r one before) behind))
    (nested_then mid one two (All-tail (λ q. q.end_ ≤ mid) r one before) behind (right_true (list_all (are_nested r) one) (all_nested one) first) second)

module _ (a b c : Draft) (p : AddsRows a b) (q : AddsRows b c) (up : here a.code ≤ here b.code) (over : here b.code ≤ here c.code)
    (still : StillFinds b.code c.code) where
  pub before_second : All (λ x. x.end_ ≤ here b.code) p.added
  before_second = ends_before (here a.code) (here b.code) (here b.code) p.added (omega arith) p.within

  pub behind_first : All (λ x. here b.code ≤ x.start) q.added
  behind_first = begins_behind (here b.code) (here c.code) (here b.code) q.added (omega arith) q.within

  abbrev pub rows_then : AddsRows a c
  rows_then = record {
    added = p.added ++ q.added;
    appended = q.appended ∙ ap (λ l. l ++ q.added) p.appended ∙ append_assoc a.rows.items p.added q.added;
    exceptions = q.exceptions ∙ p.exceptions;
    within = All-append (LiesWithin (here a.code) (here c.code)) p.added q.added
        (wider_rows (here a.code) (here b.code) (here a.code) (here c.code) p.added (omega arith) over p.within)
        (wider_rows (here b.code) (here c.code) (here a.code) (here c.code) q.added up (omega arith) q.within);
    nested = nested_then (here b.code) p.added q.added before_second behind_first p.nested q.nested;
    known = All-append (λ x. x.exception ≤ length a.exceptions.items) p.added q.added p.known
        (subst (λ e. All (λ x. x.exception ≤ length e.items) q.added) p.exceptions q.known);
    ready = All-append (λ x. FindsException c.code x.target) p.added q.added
        (All-weaker (λ x. FindsException b.code x.target) (λ x. FindsException c.code x.target) (λ x h. still x.target h) p.added p.ready) q.ready;
    placed = p.placed ++ q.placed;
    located = q.located ∙ ap (λ l. l ++ q.placed) p.located ∙ append_assoc a.rows.places p.placed q.placed;
    between = All-append (StandsBetween (here a.code) (here c.code)) p.placed q.placed
        (wider_places (here a.code) (here b.code) (here a.code) (here c.code) p.placed (omega arith) over p.between)
        (wider_places (here b.code) (here c.code) (here a.code) (here c.code) q.placed up (omega arith) q.between);
    innermost = innermost_then (here a.code) (here b.code) (here c.code) p.placed q.placed p.between q.between p.innermost q.innermost;
  }

-- ---- of a part in code around it that adds none

-- `s` begins the part, which ends by `b`, in the code from `a` to `d`
pub record Surrounds (a s b d : Draft) : Type 0 where
  pub begun : KeepsRows a s
  pub ended : KeepsRows b d
  pub up : here a.code ≤ here s.code
  pub mid : here s.code ≤ here b.code
  pub over : here b.code ≤ here d.code
  pub still : StillFinds b.code d.code

module _ (a s b d : Draft) (x : Surrounds a s b d) (p : AddsRows s b) where
  abbrev pub rows_around : AddsRows a d
  rows_around = record {
    added = p.added;
    appended = ap (λ l. l.items) x.ended.0 ∙ p.appended ∙ ap (λ l. l.items ++ p.added) x.begun.0;
    exceptions = x.ended.1 ∙ p.exceptions ∙ x.begun.1;
    within = wider_rows (here s.code) (here b.code) (here a.code) (here d.code) p.added x.up x.over p.within;
    nested = p.nested;
    known = subst (λ e. All (λ q. q.exception ≤ length e.items) p.added) x.begun.1 p.known;
    ready = All-weaker (λ q. FindsException b.code q.target) (λ q. FindsException d.code q.target) (λ q h. x.still q.target h) p.added p.ready;
    placed = p.placed;
    located = ap (λ l. l.places) x.ended.0 ∙ p.located ∙ ap (λ l. l.places ++ p.placed) x.begun.0;
    between = wider_places (here s.code) (here b.code) (here a.code) (here d.code) p.placed x.up x.over p.between;
    innermost = p.innermost;
  }

-- ---- with the row of the place of the whole

-- the draft with a row of this place for code that begins there
abbrev pub marked_from : (first : ℕ) → Draft → (place : ℕ) → Draft
marked_from first m place =
    record m { rows = record m.rows { places = m.rows.places ++ record { first = first; behind = here m.code; place = place } ∷ [] } }

module _ (a m : Draft) (place : ℕ) where
  abbrev pub own_place : PlaceRow
  own_place = record { first = here a.code; behind = here m.code; place = place }

  abbrev pub marked : Draft
  marked = marked_from (here a.code) m place

  module _ (p : AddsRows a m) (up : here a.code ≤ here m.code) where
    abbrev pub rows_marked : AddsRows a marked
    rows_marked = record {
      added = p.added;
      appended = p.appended;
      exceptions = p.exceptions;
      within = p.within;
      nested = p.nested;
      known = p.known;
      ready = p.ready;
      placed = p.placed ++ own_place ∷ [];
      located = ap (λ l. l ++ own_place ∷ []) p.located ∙ append_assoc a.rows.places p.placed (own_place ∷ []);
      between = All-append (StandsBetween (here a.code) (here m.code)) p.placed (own_place ∷ []) p.between
          (All-cons (StandsBetween (here a.code) (here m.code)) own_place [] (record { low = omega arith; runs = up; high = omega arith })
          (All-nil (StandsBetween (here a.code) (here m.code))));
      innermost = innermost_around own_place p.placed p.between p.innermost;
    }
