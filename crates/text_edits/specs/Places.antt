-- Where the bytes of an edited text come from.
use Rattle.std.specs.Prelude.{◌≡◌, ◌≢◌, ℕ, ◌+◌, ◌-◌, nat_lt, List, [], ◌∷◌, get_or, length, take, if◌then◌else◌}
use Rattle.text_edits.specs.Edits.{AreEditsFrom, EditedText, TextEdit, edited, line_feed, line_feeds}

-- The byte of a text from which the byte at a place comes, where places are counted from the byte `at` of the text on, after the edits before it. What is
-- outside of edits comes from itself, and a replacement from the first byte of what it replaces.
abbrev pub origin_from : (at place : ℕ) → List TextEdit → ℕ
origin_from at place [] = at + place
origin_from at place (edit ∷ edits) =
    if nat_lt place (edit.span.start - at) then at + place
    else if nat_lt place (edit.span.start - at + length edit.replacement) then edit.span.start
    else origin_from edit.span.end_ (place - (edit.span.start - at + length edit.replacement)) edits

-- the byte of the text from which the byte at this place of the edited text comes
abbrev pub origin : List TextEdit → (place : ℕ) → ℕ
origin edits place = origin_from 0 place edits

-- A byte of the edited text that is no line feed is in the line of the byte from which it comes: as many line feeds are before the one as before the other.
abbrev pub LinesStay : Type 0
LinesStay = (e : EditedText) → AreEditsFrom 0 e.text e.edits → (place : ℕ) → get_or (edited e) place line_feed ≢ line_feed
    → line_feeds (take place (edited e)) ≡ line_feeds (take (origin e.edits place) e.text)
