-- What is made of rows in the order of their widths is an index of them.
use Rattle.std.proofs.Common.{◌≡◌, ℕ, List, [], ◌∷◌, map, drop, true, ◌&&◌, nat_lt, Option, refl, sym, ap, ◌∙◌, subst, IsPermutation}
use Rattle.std.specs.List.{list_all}
use Rattle.std.specs.List.Sorted.{IsNonDecreasingBy}
use Rattle.std.proofs.lemmas.List.{length-map}
use Rattle.std.proofs.lemmas.List.Sorted.{Contains-permutation, IsPermutation-sym}
use Rattle.handlers.specs.declared.counting.Candidate.{Candidate}
use Rattle.handlers.specs.declared.rows.Row.{Row}
use Rattle.handlers.specs.Handlers.{are_within_one}
use Rattle.handlers.specs.Innermost.{width}
use Rattle.handlers.specs.Nesting.{all_nested}
use Rattle.handlers.specs.Searching.{AreEdges, IsIndex, candidates_of, cover_something, next_covering, rows_in}
use Rattle.handlers.proofs.Covering.{outwards}
use Rattle.handlers.proofs.Ordered.{edges_of_both}
use Rattle.handlers.proofs.Pieces.{piece_tells}
use Rattle.handlers.proofs.Regions.{and-left, and-right}
use Rattle.handlers.proofs.Searched.{rows_of_candidates}

-- rows of subprograms cover something
pub cover : (ends : List ℕ) (rows : List Row) → are_within_one ends rows ≡ true → cover_something rows ≡ true
cover ends [] all = refl
cover ends (r ∷ rows) all =
    ap (λ b. b && list_all (λ q. nat_lt q.start q.end_) rows) (and-left (nat_lt r.start r.end_) _ (and-left _ _ all)) ∙ cover ends rows (and-right _ _ all)

module _ (rows ordered : List Row) (nested : all_nested rows ≡ true) (some : cover_something rows ≡ true) (moved : IsPermutation rows ordered)
    (rising : IsNonDecreasingBy width ordered) (edges : List ℕ) (are : AreEdges rows edges) where
  of_ordered : IsIndex edges (map (λ p. next_covering p 0 ordered) edges) (candidates_of 0 ordered)
  of_ordered =
      let same : rows_in (candidates_of 0 ordered) ≡ ordered = rows_of_candidates 0 ordered in
      let own : AreEdges ordered edges = edges_of_both ordered rows (IsPermutation-sym rows ordered moved) edges are in
      record {
        edged = subst (λ r. AreEdges r edges) (sym same) own;
        each = length-map edges (λ p. next_covering p 0 ordered);
        linked = ap (candidates_of 0) (sym same);
        first = λ place k cut. piece_tells ordered edges own place k cut ∙ ap (next_covering place 0) (sym same);
        onwards = λ place k r rest is here.
            outwards rows ordered nested some (λ q. Contains-permutation ordered rows q (IsPermutation-sym rows ordered moved)) rising place k r rest (ap (drop k) (sym same) ∙ is) here;
      }

  pub index : (pieces : List (Option ℕ)) (candidates : List Candidate) (xs : List Row) (ps : List ℕ) → xs ≡ ordered → ps ≡ edges
      → pieces ≡ map (λ p. next_covering p 0 xs) ps → candidates ≡ candidates_of 0 ordered → IsIndex edges pieces candidates
  index pieces candidates xs ps x e p c =
      let all : pieces ≡ map (λ q. next_covering q 0 ordered) edges = p ∙ (ap (λ rows. map (λ q. next_covering q 0 rows) ps) x ∙ ap (map (λ q. next_covering q 0 ordered)) e) in
      subst (λ y. IsIndex edges y candidates) (sym all) (subst (IsIndex edges (map (λ q. next_covering q 0 ordered) edges)) (sym c) of_ordered)
