-- Conflicts at places of a text: types that don't match, and expressions that must be static and are not, or whose value is wrong; the first of them at one
-- place, and how walks find them.
use Rattle.std.specs.Prelude.{◌≡◌, ◌≤◌, ◌+◌, ◌-◌, ◌^◌, ◌++◌, ℕ, Bool, not, nat_eq, nat_lt, ◌&&◌, List, [], ◌∷◌, Option, Some, None, if◌then◌else◌, length, min, vec_capacity}
use Rattle.std.specs.Global.{Vec}
use Rattle.base.specs.declared.faults.TheConstants.{NO_MEANING, NOT_STATIC, WRONG_STATIC_VALUE}
use Rattle.lexer.specs.declared.fault.Fault.{Fault}
use Rattle.types.specs.Scopes.{Scope}
use Rattle.expr_rules.specs.declared.own.Own.{Own}
use Rattle.expr_rules.specs.declared.own.Wanted.{Wanted}
use Rattle.expr_rules.specs.Typing.{is_known, is_wanted}
use Rattle.mismatches.specs.declared.conflict.Conflict.{Conflict}
use Rattle.mismatches.specs.declared.conflict.Conflict.TheVariants.{NotStatic, NullRange, Outside, Raises, Unexpected}
use Rattle.mismatches.specs.declared.conflict.Mismatch.{Mismatch}

-- in the order of the text
abbrev pub Mismatches : Type 0
Mismatches = List Mismatch

-- the conflict is at this place, if the test says so
abbrev pub conflict_if : (place : ℕ) → Conflict → Bool → Mismatches
conflict_if place conflict is_so = if is_so then record { place = place; conflict = conflict } ∷ [] else []

-- the number of the rule that a conflict breaks
abbrev pub rule_of : Conflict → ℕ
rule_of (NotStatic obstacle) = NOT_STATIC
rule_of (Outside value first last) = WRONG_STATIC_VALUE
rule_of Raises = WRONG_STATIC_VALUE
rule_of (NullRange first last) = WRONG_STATIC_VALUE
rule_of conflict = NO_MEANING

-- that rule, broken at the place of the conflict
abbrev pub fault_at : Mismatch → Fault
fault_at m = record { number = rule_of m.conflict; place = m.place }

-- the first conflict at a place that breaks the rule of this number
abbrev pub first_at : (number place : ℕ) → Mismatches → Option Conflict
first_at number place [] = None
first_at number place (m ∷ ms) =
    if nat_eq (rule_of m.conflict) number && nat_eq m.place place then Some m.conflict else first_at number place ms

-- a type that is known is not the one that is expected
abbrev pub unexpected : Scope → Wanted → Own → (place : ℕ) → Mismatches
unexpected s wanted own place = conflict_if place (Unexpected wanted own) (is_known own && not (is_wanted s wanted own))

-- ---- what walks find

pub record Search : Type 0 where
  pub count : ℕ  -- how many were found, or 2 ^ 64 - 1 where there are more
  pub kept : Mismatches  -- the first ones, in the order in which they were found
  pub room : ℕ  -- how many are kept

-- nothing found so far
abbrev pub none_found : (room : ℕ) → Search
none_found room = record { count = 0; kept = []; room = room }

abbrev pub kept_with : (room : ℕ) → Mismatches → Mismatch → Mismatches
kept_with room kept m = if nat_lt (length kept) room then kept ++ m ∷ [] else kept

-- after one more was found
abbrev pub noted_one : Search → Mismatch → Search
noted_one search m =
    record {
      count = min (search.count + 1) (2 ^ 64 - 1);
      kept = kept_with search.room search.kept m;
      room = search.room;
    }

-- after these were found, in this order
abbrev pub noted : Search → Mismatches → Search
noted search [] = search
noted search (m ∷ ms) = noted (noted_one search m) ms

-- what joined lists leave is what the second one leaves after the first one
abbrev pub SearchGoesByParts : Type 0
SearchGoesByParts = (search : Search) (xs ys : Mismatches) → noted search (xs ++ ys) ≡ noted (noted search xs) ys

-- ---- how they are kept

-- a row that keeps them, where one was made
abbrev pub kept_mismatches : Option (Vec Mismatch) → Mismatches
kept_mismatches (Some v) = v.items
kept_mismatches None = []

-- as many places were taken as there is room for
abbrev pub has_places : (room : ℕ) → Option (Vec Mismatch) → Type 0
has_places room (Some v) = room ≤ vec_capacity v
has_places room None = room ≡ 0
