-- Broken rules as walks find them (docs/LANGUAGE.md, "Rules of expressions"): the least of them, how many there are, and as many of them as there is room for.
use Rattle.std.specs.Prelude.{◌≡◌, ◌≤◌, ◌<◌, ◌+◌, ◌-◌, ◌^◌, ℕ, [], ◌∷◌, ◌++◌, Option, Some, None, vec_capacity, length, take, min, nat_lt, if◌then◌else◌}
use Rattle.std.specs.Global.{Vec}
use Rattle.lexer.specs.declared.fault.Fault.{Fault}
use Rattle.expr_rules.specs.Faults.{Faults, least, sooner}

pub record Findings : Type 0 where
  pub least : Option Fault  -- the one with the least place, and at one place the least number
  pub count : ℕ  -- how many were found, or 2 ^ 64 - 1 where there are more
  pub kept : Faults  -- the first ones, in the order in which they were found
  pub room : ℕ  -- how many are kept

-- nothing found so far
abbrev pub none_found : (room : ℕ) → Findings
none_found room = record { least = None; count = 0; kept = []; room = room }

abbrev pub kept_with : (room : ℕ) → Faults → Fault → Faults
kept_with room kept fault = if nat_lt (length kept) room then kept ++ fault ∷ [] else kept

-- after one more was found
abbrev pub noted_one : Findings → Fault → Findings
noted_one found fault =
    record {
      least = sooner found.least (Some fault);
      count = min (found.count + 1) (2 ^ 64 - 1);
      kept = kept_with found.room found.kept fault;
      room = found.room;
    }

-- after these were found, in this order
abbrev pub noted : Findings → Faults → Findings
noted found [] = found
noted found (fault ∷ faults) = noted (noted_one found fault) faults

-- ---- the laws of findings, as statements; each is the contract of a public function

-- what joined lists leave is what the second one leaves after the first one
abbrev pub NotedByParts : Type 0
NotedByParts = (found : Findings) (xs ys : Faults) → noted found (xs ++ ys) ≡ noted (noted found xs) ys

-- what is known where these were found and nothing else: the least, how many there are, and those for which there is room
pub record FoundIsAll : Type 0 where
  pub least : (room : ℕ) (faults : Faults) → (noted (none_found room) faults).least ≡ least faults
  pub count : (room : ℕ) (faults : Faults) → length faults < 2 ^ 64 → (noted (none_found room) faults).count ≡ length faults
  pub kept : (room : ℕ) (faults : Faults) → (noted (none_found room) faults).kept ≡ take room faults

-- ---- how they are kept

-- a row that keeps them, where one was made
abbrev pub kept_faults : Option (Vec Fault) → Faults
kept_faults (Some v) = v.items
kept_faults None = []

-- as many places were taken as there is room for
abbrev pub has_places : (room : ℕ) → Option (Vec Fault) → Type 0
has_places room (Some v) = room ≤ vec_capacity v
has_places room None = room ≡ 0
