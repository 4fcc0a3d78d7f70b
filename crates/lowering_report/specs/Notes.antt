-- What is said of a change that people should know of.
use Rattle.std.specs.Prelude.{ℕ, List, ◌++◌, codes}
use Rattle.lowering_text.specs.declared.note.NoteKind.{NoteKind}
use Rattle.lowering_text.specs.declared.note.NoteKind.TheVariants as notes

-- `note: pragma NAME left out`
unfoldable pub pragma_words : (name : List ℕ) → List ℕ
pragma_words name = codes "note: pragma " ++ (name ++ codes " left out")

-- `note: aspect NAME left out`
unfoldable pub aspect_words : (name : List ℕ) → List ℕ
aspect_words name = codes "note: aspect " ++ (name ++ codes " left out")

-- `note: NAME is channel `
unfoldable pub interrupt_words : (name : List ℕ) → List ℕ
interrupt_words name = codes "note: " ++ (name ++ codes " is channel ")

-- and its number
unfoldable pub channel_words : (name number : List ℕ) → List ℕ
channel_words name number = interrupt_words name ++ number

-- `note: NAME is renamed to `
unfoldable pub old_name_words : (name : List ℕ) → List ℕ
old_name_words name = codes "note: " ++ (name ++ codes " is renamed to ")

-- and the other name
unfoldable pub renamed_words : (name other : List ℕ) → List ℕ
renamed_words name other = old_name_words name ++ other

abbrev pub note_words : NoteKind → List ℕ
note_words (notes.PragmaLeftOut name) = pragma_words name
note_words (notes.AspectLeftOut name) = aspect_words name
note_words (notes.Channel name number) = channel_words name number
note_words notes.MessageLeftOut = codes "note: message of an exception left out"
note_words notes.TextLeftOut = codes "note: part of a text left out"
note_words (notes.Renamed name other) = renamed_words name other
