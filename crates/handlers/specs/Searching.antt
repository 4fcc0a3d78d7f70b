-- How a table is searched, and how much a search compares.
use Rattle.std.specs.Prelude.{◌≡◌, ◌≤◌, ◌<◌, ◌+◌, ◌^◌, ℕ, zero, suc, List, [], ◌∷◌, length, drop, map, get_or, Bool, true, Option, Some, None, nat_lt, if◌then◌else◌, ⊤}
use Rattle.std.specs.List.{Contains, count_by, find, list_all}
use Rattle.std.specs.List.Sorted.{IsStrictlyIncreasing}
use Rattle.handlers.specs.Innermost.{covers, innermost}
use Rattle.handlers.specs.Laws.{takes}
use Rattle.handlers.specs.declared.counting.Candidate.{Candidate}
use Rattle.handlers.specs.declared.rows.Row.{Row}

-- ---- the work of a search

-- the starts and ends of rows
abbrev pub starts_and_ends : List Row → List ℕ
starts_and_ends [] = []
starts_and_ends (r ∷ rows) = r.start ∷ r.end_ ∷ starts_and_ends rows

-- these are the starts and ends of the rows, each once
pub record AreEdges (rows : List Row) (edges : List ℕ) : Type 0 where
  pub rising : IsStrictlyIncreasing edges
  pub all : (e : ℕ) → Contains (starts_and_ends rows) e → Contains edges e
  pub only : (e : ℕ) → Contains edges e → Contains (starts_and_ends rows) e

-- a number is no more than another one has binary digits: none, or that one is at least the power of two that has as many digits
abbrev pub IsWithinDigits : (count number : ℕ) → Type 0
IsWithinDigits zero number = ⊤
IsWithinDigits (suc k) number = 2 ^ k ≤ number

-- so many were counted between two counts, no more than that number has binary digits
pub record CountsDigits (number before after : ℕ) : Type 0 where
  pub count : ℕ
  pub counted : after ≡ before + count
  pub few : IsWithinDigits count number

-- places were compared at most as often as the number of the starts and ends, each counted once, has binary digits
pub record ComparesPlaces (rows : List Row) (before after : ℕ) : Type 0 where
  pub edges : List ℕ
  pub are : AreEdges rows edges
  pub counts : CountsDigits (length edges) before after

-- ---- the index, which serves proofs

-- the number of the first row that covers a place, where the first of these has this number
abbrev pub next_covering : (place number : ℕ) → List Row → Option ℕ
next_covering place number [] = None
next_covering place number (r ∷ rows) = if covers place r then Some number else next_covering place (suc number) rows

-- the rows, each with the number of the next one that covers its start
abbrev pub candidates_of : (number : ℕ) → List Row → List Candidate
candidates_of number [] = []
candidates_of number (r ∷ rows) = record { row = r; around = next_covering r.start (suc number) rows } ∷ candidates_of (suc number) rows

abbrev pub cover_something : List Row → Bool
cover_something rows = list_all (λ r. nat_lt r.start r.end_) rows

-- so many of the edges are at the place or before it, and the others behind it
pub record SplitsAt (edges : List ℕ) (place k : ℕ) : Type 0 where
  pub within : k ≤ length edges
  pub before : (i : ℕ) → i < k → get_or edges i 0 ≤ place
  pub behind : (i : ℕ) → k ≤ i → i < length edges → place < get_or edges i 0

-- by the number of edges at a place or before it
abbrev pub piece_at : List (Option ℕ) → ℕ → Option ℕ
piece_at pieces zero = None
piece_at pieces (suc k) = get_or pieces k None

abbrev pub rows_in : List Candidate → List Row
rows_in candidates = map (λ c. c.row) candidates

-- the rows that cover a place are found one behind the other
pub record IsIndex (edges : List ℕ) (pieces : List (Option ℕ)) (candidates : List Candidate) : Type 0 where
  pub edged : AreEdges (rows_in candidates) edges
  pub each : length pieces ≡ length edges
  pub linked : candidates ≡ candidates_of 0 (rows_in candidates)
  pub first : (place k : ℕ) → SplitsAt edges place k → piece_at pieces k ≡ next_covering place 0 (rows_in candidates)
  pub onwards : (place k : ℕ) (r : Row) (rest : List Row) → drop k (rows_in candidates) ≡ r ∷ rest → covers place r ≡ true
      → next_covering r.start (suc k) rest ≡ next_covering place (suc k) rest

-- these are the same rows, of which the first that takes an exception is the innermost one
pub record AreByWidth (rows ordered : List Row) : Type 0 where
  pub chosen : (place exception : ℕ) → innermost rows place exception ≡ find (takes place exception) ordered
  pub many : (place : ℕ) → count_by (covers place) ordered ≡ count_by (covers place) rows
  pub edged : (edges : List ℕ) → AreEdges ordered edges → AreEdges rows edges
