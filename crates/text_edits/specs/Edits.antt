-- Edits of a text: what is outside of their spans stays, and each part in a span is replaced.
use Rattle.std.specs.Prelude.{◌≡◌, ℕ, ◌≤◌, Bool, ◌&&◌, nat_eq, nat_le, List, [], ◌∷◌, ◌++◌, length, map, drop, replicate, slice_range, if◌then◌else◌}
use Rattle.std.specs.List.{filter}
use Rattle.ada2012_lexer.specs.declared.token.Span.{Span}

-- a part of a text, and what is written for it
pub record TextEdit : Type 0 where
  pub span : Span
  pub replacement : List ℕ

-- a text, and edits of it in its order
pub record EditedText : Type 0 where
  pub text : List ℕ
  pub edits : List TextEdit

-- ---- lines

abbrev pub line_feed : ℕ
line_feed = 10

-- how many line feeds a text has; the line of a byte is the number of those before it, from line 0 on
abbrev pub line_feeds : List ℕ → ℕ
line_feeds text = length (filter (λ c. nat_eq c line_feed) text)

-- a text with spaces for its line feeds
abbrev pub in_one_line : List ℕ → List ℕ
in_one_line text = map (λ c. if nat_eq c line_feed then 32 else c) text

-- what is written for a part of a text: the replacement in one line, and then as many line feeds as the part has
abbrev pub replacement_of : (replaced replacement : List ℕ) → List ℕ
replacement_of replaced replacement = in_one_line replacement ++ replicate (line_feeds replaced) line_feed

-- ---- which edits are made

-- where the last of the edits ends
abbrev pub end_of : List TextEdit → ℕ
end_of [] = 0
end_of (edit ∷ []) = edit.span.end_
end_of (edit ∷ (next ∷ edits)) = end_of (next ∷ edits)

-- a span lies in a text of so many bytes, after all edits up to a place
abbrev pub is_after : (end_ length : ℕ) → Span → Bool
is_after end_ length span = nat_le end_ span.start && nat_le span.start span.end_ && nat_le span.end_ length

-- An edit more: left out where it begins before the end of an earlier one, so that of two that overlap the first remains.
abbrev pub with_edit : EditedText → Span → (replacement : List ℕ) → EditedText
with_edit e span replacement =
    if is_after (end_of e.edits) (length e.text) span
    then record e { edits = e.edits ++ record { span = span; replacement = replacement_of (slice_range e.text span.start span.end_) replacement } ∷ [] }
    else e

-- it is written for a part of a text, for some replacement
pub record IsWrittenFor (replaced new : List ℕ) : Type 0 where
  pub replacement : List ℕ
  pub is : new ≡ replacement_of replaced replacement

-- Edits of a text from a place on lie one after the other, and each is one line, with the line feeds of the part that it replaces after it.
abbrev pub AreEditsFrom : (at : ℕ) (text : List ℕ) → List TextEdit → Type 0
AreEditsFrom at text [] = at ≤ length text
AreEditsFrom at text (edit ∷ edits) =
    (at ≤ edit.span.start) × (edit.span.start ≤ edit.span.end_) × IsWrittenFor (slice_range text edit.span.start edit.span.end_) edit.replacement
    × AreEditsFrom edit.span.end_ text edits

-- ---- the text with its edits

-- what a text has from a place on, with edits that begin there or later
abbrev pub edited_from : (at : ℕ) (text : List ℕ) → List TextEdit → List ℕ
edited_from at text [] = drop at text
edited_from at text (edit ∷ edits) = slice_range text at edit.span.start ++ (edit.replacement ++ edited_from edit.span.end_ text edits)

abbrev pub edited : EditedText → List ℕ
edited e = edited_from 0 e.text e.edits

-- A text is another one with edits: what is outside of them is the same, byte for byte, and each is one line, with the line feeds of what it replaces after it.
pub record IsEdited (text new : List ℕ) : Type 0 where
  pub edits : List TextEdit
  pub are : AreEditsFrom 0 text edits
  pub is : new ≡ edited (record { text = text; edits = edits })
