-- Rows that cover the same places, and how the rows that cover a place are found one behind the other.
use Rattle.std.proofs.Common.{◌≡◌, ℕ, zero, suc, ◌≤◌, List, [], ◌∷◌, drop, Bool, true, false, cond, ◌&&◌, ◌||◌, nat_le, nat_lt, Some, None, arith, refl, sym, ap, ◌∙◌, subst}
use Rattle.std.specs.List.{Contains, list_all}
use Rattle.std.specs.List.Sorted.{IsNonDecreasingBy}
use Rattle.std.proofs.lemmas.Bool.Decides.{leb_tells}
use Rattle.std.proofs.lemmas.List.Sorted.{IsNonDecreasingBy-drop}
use Rattle.handlers.specs.declared.rows.Row.{Row}
use Rattle.handlers.specs.Innermost.{covers, width}
use Rattle.handlers.specs.Nesting.{all_nested, are_nested}
use Rattle.handlers.specs.Searching.{cover_something, next_covering}
use Rattle.handlers.proofs.Elements.{behind_in, first_in, later_in}
use Rattle.handlers.proofs.Regions.{and-left, and-right, passes}

-- of rows each of which covers both places or neither, the same one is found
pub next_same : (p q number : ℕ) (rows : List Row) → ((r : Row) → Contains rows r → covers p r ≡ covers q r) → next_covering p number rows ≡ next_covering q number rows
next_same p q number [] same = refl
next_same p q number (r ∷ rows) same =
    ap (λ b. cond b (Some number) (next_covering p (suc number) rows)) (same r (first_in r rows))
    ∙ ap (λ o. cond (covers q r) (Some number) o) (next_same p q (suc number) rows (λ s has. same s (later_in r s rows has)))

-- none is found where none covers the place
pub next_none : (p number : ℕ) (rows : List Row) → ((r : Row) → Contains rows r → covers p r ≡ false) → next_covering p number rows ≡ None
next_none p number [] none = refl
next_none p number (r ∷ rows) none =
    ap (λ b. cond b (Some number) (next_covering p (suc number) rows)) (none r (first_in r rows)) ∙ next_none p (suc number) rows (λ s has. none s (later_in r s rows has))

-- ---- nested rows

either : (x y e f : Bool) → (x || (y || (e || f))) ≡ (y || (x || (f || e)))
either true true e f = refl
either true false e f = refl
either false true e f = refl
either false false true true = refl
either false false true false = refl
either false false false true = refl
either false false false false = refl

nested_back : (r q : Row) → are_nested r q ≡ are_nested q r
nested_back r q = either (nat_le r.start q.start && nat_le q.end_ r.end_) (nat_le q.start r.start && nat_le r.end_ q.end_) (nat_le r.end_ q.start) (nat_le q.end_ r.start)

nested_itself : (r : Row) → are_nested r r ≡ true
nested_itself r = grind (arith, leb_tells)

element : {X : Type 0} (test : X → Bool) (xs : List X) (x : X) → list_all test xs ≡ true → Contains xs x → test x ≡ true
element test xs x all has = ap test (sym has.2) ∙ passes test xs has.0 x all has.1

-- any two of them are
pub nested_both : (rows : List Row) (r q : Row) → all_nested rows ≡ true → Contains rows r → Contains rows q → are_nested r q ≡ true
nested_both [] r q all (k, low, is) there = absurd (omega (arith, low))
nested_both (x ∷ rows) r q all (zero, low, is) (zero, below, same) = subst (λ y. are_nested y q ≡ true) is (subst (λ y. are_nested x y ≡ true) same (nested_itself x))
nested_both (x ∷ rows) r q all (zero, low, is) (suc m, below, same) =
    subst (λ y. are_nested y q ≡ true) is (element (are_nested x) rows q (and-left _ _ all) (m, omega (arith, below), same))
nested_both (x ∷ rows) r q all (suc k, low, is) (zero, below, same) =
    subst (λ y. are_nested r y ≡ true) same (nested_back r x ∙ element (are_nested x) rows r (and-left _ _ all) (k, omega (arith, low), is))
nested_both (x ∷ rows) r q all (suc k, low, is) (suc m, below, same) =
    nested_both rows r q (and-right _ _ all) (k, omega (arith, low), is) (m, omega (arith, below), same)

-- what covers one place of a region that is no longer covers each place of it
pub covers_all : (r q : Row) (place : ℕ) → are_nested r q ≡ true → nat_lt r.start r.end_ ≡ true → width r ≤ width q → covers place r ≡ true → covers r.start q ≡ covers place q
covers_all r q place nested some wide here = grind (arith, leb_tells, nested, some, wide, here)

module _ (rows ordered : List Row) (nested : all_nested rows ≡ true) (some : cover_something rows ≡ true) (of : (r : Row) → Contains ordered r → Contains rows r)
    (rising : IsNonDecreasingBy width ordered) where
  -- the next row outwards is that of each place which a row covers
  pub outwards : (place k : ℕ) (r : Row) (rest : List Row) → drop k ordered ≡ r ∷ rest → covers place r ≡ true → next_covering r.start (suc k) rest ≡ next_covering place (suc k) rest
  outwards place k r rest is here = next_same r.start place (suc k) rest (λ q has. same q has)
    where
      own : Contains rows r
      own = of r (behind_in k ordered r (subst (λ xs. Contains xs r) (sym is) (first_in r rest)))

      other : (q : Row) → Contains rest q → Contains rows q
      other q has = of q (behind_in k ordered q (subst (λ xs. Contains xs q) (sym is) (later_in r q rest has)))

      wider : (q : Row) → Contains rest q → width r ≤ width q
      wider q has =
          let all : IsNonDecreasingBy width (r ∷ rest) = subst (IsNonDecreasingBy width) is (IsNonDecreasingBy-drop width k ordered rising) in
          subst (λ y. width r ≤ width y) has.2 (all 0 (suc has.0) q (omega arith) (omega (arith, has.1)))

      same : (q : Row) → Contains rest q → covers r.start q ≡ covers place q
      same q has = covers_all r q place (nested_both rows r q nested own (other q has)) (element (λ s. nat_lt s.start s.end_) rows r some own) (wider q has) here
