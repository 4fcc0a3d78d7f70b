-- How a place of a text is shown: its line, with a mark below the place.
use Rattle.std.specs.Prelude.{ℕ, zero, suc, ◌+◌, ◌-◌, ◌&&◌, ◌||◌, Bool, List, [], ◌∷◌, ◌++◌, codes, drop, if◌then◌else◌, length, map, nat_eq, nat_le, nat_lt, take}
use Rattle.diagnostics.specs.hints.Places.{line_start}
use Rattle.source_report.specs.declared.marked.TheConstants.{SIDE, WIDTH}

-- how many bytes stand in front of the first of this value, or all where there is none
abbrev pub count_to : ℕ → List ℕ → ℕ
count_to value [] = zero
count_to value (c ∷ rest) = if nat_eq c value then zero else suc (count_to value rest)

abbrev pub up_to : ℕ → List ℕ → List ℕ
up_to value text = take (count_to value text) text

-- what stands behind it, or nothing where there is none
abbrev pub behind : ℕ → List ℕ → List ℕ
behind value [] = []
behind value (c ∷ rest) = if nat_eq c value then rest else behind value rest

-- what stands on the line behind which the text ends
abbrev pub last_line : List ℕ → List ℕ
last_line text = drop (line_start 0 0 text) text

-- what stands on the line with which the text begins; a line ends in front of a carriage return or a line feed
abbrev pub first_line : List ℕ → List ℕ
first_line text = up_to 13 (up_to 10 text)

-- printable characters and tabs are shown as they are, and any other byte as a question mark
abbrev pub shown : ℕ → ℕ
shown c = if nat_eq c 9 || (nat_le 32 c && nat_le c 126) then c else 63

-- as wide as the byte is shown: tabs keep their width
abbrev pub blank : ℕ → ℕ
blank c = if nat_eq c 9 then 9 else 32

-- a line is shown whole, or, where it is too long, so much of it on either side of the place
abbrev pub is_long : (front back : List ℕ) → Bool
is_long front back = nat_lt WIDTH (length front + length back)

abbrev pub near_front : (front back : List ℕ) → List ℕ
near_front front back = if is_long front back then drop (length front - SIDE) front else front

abbrev pub near_back : (front back : List ℕ) → List ℕ
near_back front back = if is_long front back then take SIDE back else back

-- a line by what stands on it in front of the place and behind it, and the mark on the next one
abbrev pub marked : (front back : List ℕ) → List ℕ
marked front back = map shown front ++ map shown back ++ codes "\n" ++ map blank front ++ codes "^\n"

abbrev pub marked_near : (front back : List ℕ) → List ℕ
marked_near front back = marked (near_front front back) (near_back front back)

-- the line of a place of the text, and the mark
abbrev pub marked_place : List ℕ → ℕ → List ℕ
marked_place text place = marked_near (last_line (take place text)) (first_line (drop place text))
