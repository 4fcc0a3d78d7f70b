-- Rows of places that are added with code: how they lie where parts stand one behind the other, and of which statements and declarations they tell.
use Rattle.std.proofs.Common.{◌≡◌, ℕ, zero, suc, ◌≤◌, inl, inr, List, [], ◌∷◌, ◌++◌, All, Some, refl, subst, arith}
use Rattle.std.specs.Prelude.{slice_get}
use Rattle.std.proofs.lemmas.List.Elements.{All-append, All-cons, All-head, All-nil, All-tail, All-weaker}
use Rattle.image.specs.Sections.{Sections}
use Rattle.expr_soundness.specs.meaning.specs.Programs.{Program}
use Rattle.expr_code.specs.Seeing.{Package}
use Rattle.part_code.specs.Statements.{Numbers}
use Rattle.stmt_code.specs.Emitting.{TellPlaces, TellsPlace}
use Rattle.stmt_code.specs.Placing.{AreInnermostFirst, Construct, IsInnerOrBefore, StandsBetween}
use Rattle.stmt_code.specs.declared.tables.PlaceRow.{PlaceRow}

-- ---- how they lie

pub wider_places : (from to low high : ℕ) (rows : List PlaceRow) → low ≤ from → to ≤ high → All (StandsBetween from to) rows
    → All (StandsBetween low high) rows
wider_places from to low high rows down up all =
    All-weaker (StandsBetween from to) (StandsBetween low high)
    (λ q h.
    let l = h.low in
    let m = h.high in
    record { low = omega (arith, l, down); runs = h.runs; high = omega (arith, m, up) })
    rows all

-- the second ones behind the first
pub innermost_then : (from mid to : ℕ) (one two : List PlaceRow) → All (StandsBetween from mid) one → All (StandsBetween mid to) two
    → AreInnermostFirst one → AreInnermostFirst two → AreInnermostFirst (one ++ two)
innermost_then from mid to [] two before behind p q = q
innermost_then from mid to (r ∷ one) two before behind p q = (
  All-append (IsInnerOrBefore r) one two p.0
      (All-weaker (StandsBetween mid to) (IsInnerOrBefore r)
      (λ s h. inl (let u = (All-head (StandsBetween from mid) r one before).high in let l = h.low in omega (arith, u, l))) two behind),
  innermost_then from mid to one two (All-tail (StandsBetween from mid) r one before) behind p.1 q,
)

-- the last one around the others
pub innermost_around : (q : PlaceRow) (one : List PlaceRow) → All (StandsBetween q.first q.behind) one → AreInnermostFirst one
    → AreInnermostFirst (one ++ q ∷ [])
innermost_around q [] inside p = (All-nil (IsInnerOrBefore q), tt)
innermost_around q (r ∷ one) inside p = (
  All-append (IsInnerOrBefore r) one (q ∷ []) p.0
      (All-cons (IsInnerOrBefore r) q [] (let h = All-head (StandsBetween q.first q.behind) r one inside in inr (h.low, h.high)) (All-nil (IsInnerOrBefore r))),
  innermost_around q one (All-tail (StandsBetween q.first q.behind) r one inside) p.1,
)

-- ---- of what they tell

pub tells_then : (i : Sections) (program : Program) (g : Package) (numbers : Numbers) (one two : List PlaceRow) (xs ys : List Construct)
    → TellPlaces i program g numbers one xs → TellPlaces i program g numbers two ys → TellPlaces i program g numbers (one ++ two) (xs ++ ys)
tells_then i program g numbers [] two [] ys p q = q
tells_then i program g numbers [] two (x ∷ xs) ys p q = absurd p
tells_then i program g numbers (r ∷ one) two [] ys p q = absurd p
tells_then i program g numbers (r ∷ one) two (x ∷ xs) ys p q = (p.0, tells_then i program g numbers one two xs ys p.1 q)

some_same : {X : Type 0} (x y : X) → Some x ≡ Some y → x ≡ y
some_same x y e = cc

-- what a row tells of
pub told_row : (i : Sections) (program : Program) (g : Package) (numbers : Numbers) (rows : List PlaceRow) (xs : List Construct)
    → TellPlaces i program g numbers rows xs → (n : ℕ) (q : PlaceRow) → slice_get rows n ≡ Some q
    → (x : Construct) × (slice_get xs n ≡ Some x) × TellsPlace i program g numbers q x
told_row i program g numbers [] [] p n q e = cc
told_row i program g numbers [] (x ∷ xs) p n q e = absurd p
told_row i program g numbers (r ∷ rows) [] p n q e = absurd p
told_row i program g numbers (r ∷ rows) (x ∷ xs) p zero q e = (x, refl, subst (λ z. TellsPlace i program g numbers z x) (some_same r q e) p.0)
told_row i program g numbers (r ∷ rows) (x ∷ xs) p (suc n) q e = told_row i program g numbers rows xs p.1 n q e
