-- Adding alternatives where a slot has room for them.
use Rattle.std.specs.Prelude.{◌≡◌, ℕ, ◌+◌, ◌<◌, ◌≤◌, List, [], ◌++◌, length, Bool, true, false, Option, Some, None}
use Rattle.std.specs.List.{slice_split}
use Rattle.choices.specs.Texts.{is_bar}
use Rattle.choices.specs.declared.slot.TheConstants.{ALTERNATIVES}

-- what comes after a part of a text
abbrev pub parts_behind : Option (List ℕ) → List (List ℕ)
parts_behind None = []
parts_behind (Some text) = slice_split is_bar text

-- they were added, or there was no room for all of them
abbrev pub Fills : {X : Type 0} → (fits : Bool) → (before more after : List X) → Type 0
Fills true before more after = (after ≡ before ++ more) × (length after ≤ ALTERNATIVES)
Fills false before more after = ALTERNATIVES < length before + length more
