-- The pieces into which the starts and ends of rows cut the places: a row covers all places of a piece or none.
use Rattle.std.proofs.Common.{◌≡◌, ℕ, zero, suc, ◌+◌, ◌-◌, ◌≤◌, ◌<◌, List, [], ◌∷◌, length, map, get_or, false, nat_le, Option, None, arith, refl, sym, ap, ◌∙◌, subst}
use Rattle.std.specs.List.{Contains}
use Rattle.std.specs.List.Sorted.{IsStrictlyIncreasing}
use Rattle.std.proofs.lemmas.Bool.Decides.{leb_tells}
use Rattle.std.proofs.lemmas.List.{get_or_default}
use Rattle.handlers.specs.declared.rows.Row.{Row}
use Rattle.handlers.specs.Innermost.{covers}
use Rattle.handlers.specs.Searching.{AreEdges, SplitsAt, next_covering, piece_at, starts_and_ends}
use Rattle.handlers.proofs.Covering.{next_none, next_same}
use Rattle.handlers.proofs.Elements.{first_in, later_in}

pub start_in : (rows : List Row) (r : Row) → Contains rows r → Contains (starts_and_ends rows) r.start
start_in [] r (k, low, is) = absurd (omega (arith, low))
start_in (x ∷ rows) r (zero, low, is) = subst (λ y. Contains (starts_and_ends (x ∷ rows)) y.start) is (first_in x.start (x.end_ ∷ starts_and_ends rows))
start_in (x ∷ rows) r (suc k, low, is) = later_in x.start r.start (x.end_ ∷ starts_and_ends rows) (later_in x.end_ r.start (starts_and_ends rows) (start_in rows r (k, omega (arith, low), is)))

pub end_in : (rows : List Row) (r : Row) → Contains rows r → Contains (starts_and_ends rows) r.end_
end_in [] r (k, low, is) = absurd (omega (arith, low))
end_in (x ∷ rows) r (zero, low, is) =
    subst (λ y. Contains (starts_and_ends (x ∷ rows)) y.end_) is (later_in x.start x.end_ (x.end_ ∷ starts_and_ends rows) (first_in x.end_ (starts_and_ends rows)))
end_in (x ∷ rows) r (suc k, low, is) = later_in x.start r.end_ (x.end_ ∷ starts_and_ends rows) (later_in x.end_ r.end_ (starts_and_ends rows) (end_in rows r (k, omega (arith, low), is)))

-- edges rise
pub rises : (edges : List ℕ) → IsStrictlyIncreasing edges → (i m : ℕ) → i + m < length edges → get_or edges i 0 ≤ get_or edges (i + m) 0
rises edges rising i zero low = subst (λ j. get_or edges i 0 ≤ get_or edges j 0) plus (omega arith)
  where
    plus : i ≡ i + 0
    plus = omega arith
rises edges rising i (suc m) low =
    subst (λ j. get_or edges i 0 ≤ get_or edges j 0) plus (omega (arith, rises edges rising i m (omega (arith, low)), rising (i + m) (omega (arith, low))))
  where
    plus : i + m + 1 ≡ i + suc m
    plus = omega arith

module _ (rows : List Row) (edges : List ℕ) (are : AreEdges rows edges) (place : ℕ) where
  -- an edge is at the place or before it exactly where it is at the last one that is, or before that
  edge_splits : (k : ℕ) → SplitsAt edges place (suc k) → (e : ℕ) → Contains edges e → nat_le e (get_or edges k 0) ≡ nat_le e place
  edge_splits k cut e (i, low, is) = grind (arith, leb_tells, below, above, at)
    where
      at : get_or edges i 0 ≡ e
      at = get_or_default edges i 0 e low ∙ is

      up : i ≤ k → i + (k - i) ≡ k
      up le = omega (arith, le)

      below : i ≤ k → get_or edges i 0 ≤ get_or edges k 0
      below le = subst (λ j. get_or edges i 0 ≤ get_or edges j 0) (up le) (rises edges are.rising i (k - i) (omega (arith, le, cut.within)))

      above : k < i → place < get_or edges i 0
      above lt = cut.behind i (omega (arith, lt)) low

  -- a row covers the edge in front of the place exactly where it covers the place
  same_piece : (k : ℕ) → SplitsAt edges place (suc k) → (r : Row) → Contains rows r → covers (get_or edges k 0) r ≡ covers place r
  same_piece k cut r has =
      let start = edge_splits k cut r.start (are.all r.start (start_in rows r has)) in
      let end = edge_splits k cut r.end_ (are.all r.end_ (end_in rows r has)) in
      grind (arith, leb_tells, start, end)

  -- none covers a place in front of all edges
  in_front : SplitsAt edges place 0 → (r : Row) → Contains rows r → covers place r ≡ false
  in_front cut r has =
      let start = are.all r.start (start_in rows r has) in
      let low : place < r.start = subst (λ e. place < e) (get_or_default edges start.0 0 r.start start.1 ∙ start.2) (cut.behind start.0 (omega arith) start.1) in
      grind (arith, leb_tells, low)

  -- what is kept for a piece is found for each place of it
  pub piece_tells : (k : ℕ) → SplitsAt edges place k → piece_at (map (λ p. next_covering p 0 rows) edges) k ≡ next_covering place 0 rows
  piece_tells zero cut = sym (next_none place 0 rows (in_front cut))
  piece_tells (suc k) cut = get_or_map (λ p. next_covering p 0 rows) edges k (omega (arith, cut.within)) ∙ next_same _ place 0 rows (same_piece k cut)
    where
      get_or_map : (f : ℕ → Option ℕ) (xs : List ℕ) (i : ℕ) → i < length xs → get_or (map f xs) i None ≡ f (get_or xs i 0)
      get_or_map f [] i low = absurd (omega (arith, low))
      get_or_map f (x ∷ xs) zero low = refl
      get_or_map f (x ∷ xs) (suc i) low = get_or_map f xs i (omega (arith, low))

-- the piece of a place, by how many edges are passed
pub piece_found : (pieces : List (Option ℕ)) (k piece : ℕ) (found : Option ℕ) → 1 ≤ k → piece ≡ k - 1 → piece < length pieces → found ≡ get_or pieces piece found → piece_at pieces k ≡ found
piece_found pieces zero piece found one is low there = absurd (omega (arith, one))
piece_found pieces (suc k) piece found one is low there = ap (λ i. get_or pieces i None) same ∙ (get_or_default pieces piece None found low ∙ sym there)
  where
    same : k ≡ piece
    same = omega (arith, is)

pub no_piece : (pieces : List (Option ℕ)) (k : ℕ) → (1 ≤ k → ⊥) → piece_at pieces k ≡ None
no_piece pieces zero none = refl
no_piece pieces (suc k) none = absurd (none (omega arith))
