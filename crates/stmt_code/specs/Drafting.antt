-- What statements make as it is put together: each part is given the place where it begins, since jumps and rows name places of the whole, and the labels
-- before it, which number those of its lines (docs/CODEGEN.md).
use Rattle.std.specs.Prelude.{◌≡◌, ℕ, suc, ◌+◌, max, List, [], ◌∷◌, ◌++◌, length, bytes_eq}
use Rattle.std.specs.List.{position_or_len}
use Rattle.handlers.specs.declared.rows.Row.{Row}
use Rattle.image.specs.declared.instruction.Instr.{Instr}
use Rattle.image.specs.declared.instruction.Operation.{Operation}
use Rattle.expr_code.specs.Pieces.{Made, Piece, narrow, patched, rejoined}
use Rattle.part_code.specs.Labels.{with_label}
use Rattle.stmt_code.specs.declared.tables.PlaceRow.{PlaceRow}

-- Instructions, rows of handlers and rows of places, inner ones first; all labels after them; and the most words of the frame that are taken at once.
pub record Drafted : Type 0 where
  pub code : List Instr
  pub rows : List Row
  pub places : List PlaceRow
  pub labels : List (List ℕ)
  pub most : ℕ

-- how many instructions, and which labels, there are before it
pub record Start : Type 0 where
  pub place : ℕ
  pub labels : List (List ℕ)

abbrev pub CodePart : Type 0
CodePart = Start → Drafted

abbrev pub after : Start → Drafted → Start
after s a = record { place = s.place + length a.code; labels = a.labels }

abbrev pub joins : Drafted → Drafted → Drafted
joins a b = record { code = a.code ++ b.code; rows = a.rows ++ b.rows; places = a.places ++ b.places; labels = b.labels; most = max a.most b.most }

-- ---- parts without others

-- instructions alone
unfoldable pub coded : Piece → CodePart
coded a s = record { code = a s.place; rows = []; places = []; labels = s.labels; most = 0 }

-- rows of handlers alone
unfoldable pub handles : List Row → CodePart
handles rows s = record { code = []; rows = rows; places = []; labels = s.labels; most = 0 }

-- so many words of the frame are taken
unfoldable pub takes : ℕ → CodePart
takes many s = record { code = []; rows = []; places = []; labels = s.labels; most = many }

-- the number of a label: its place among all, where a new one comes after them
abbrev pub label_number : (labels : List (List ℕ)) → List ℕ → ℕ
label_number labels text = position_or_len (bytes_eq text) labels

-- what is given the number of a label
unfoldable pub labelled : List ℕ → (ℕ → Piece) → CodePart
labelled text f s = record { code = f (narrow (label_number s.labels text)) s.place; rows = []; places = []; labels = with_label s.labels text; most = 0 }

-- ---- putting parts together

infixr 30 ◌▹◌
-- one part, and another one after it
unfoldable pub ◌▹◌ : CodePart → CodePart → CodePart
◌▹◌ a b s = joins (a s) (b (after s (a s)))

-- what is given the place where it begins
unfoldable pub begun : (ℕ → CodePart) → CodePart
begun f s = f s.place s

-- a jump over a part and so many instructions after it
unfoldable pub skipping : (more depth : ℕ) → (jump : ℕ → Operation) → CodePart → CodePart
skipping more depth jump a s =
    let inner = a (record s { place = suc s.place }) in
    record inner { code = (record { depth = narrow depth; operation = jump (narrow (suc s.place + length inner.code + more)) }) ∷ inner.code }

-- a statement or a declaration, and the row of its place
unfoldable pub marked : (place : ℕ) → CodePart → CodePart
marked place a s =
    let inner = a s in
    record inner { places = inner.places ++ (record { first = s.place; behind = s.place + length inner.code; place = place }) ∷ [] }

-- ---- what methods do

-- what is put together after so many instructions
pub record Sketched : Type 0 where
  pub before : ℕ
  pub made : Drafted

abbrev pub end_of : Sketched → ℕ
end_of m = m.before + length m.made.code

abbrev pub start_of : Sketched → Start
start_of m = record { place = end_of m; labels = m.made.labels }

-- a part after it
unfoldable pub adds : Sketched → CodePart → Sketched
adds m a = record m { made = joins m.made (a (start_of m)) }

-- its instructions as those of a fragment, and with others
abbrev pub fragment_of : Sketched → Made
fragment_of m = record { before = m.before; code = m.made.code }

abbrev pub with_fragment : Sketched → Made → Sketched
with_fragment m f = record { before = f.before; made = record m.made { code = f.code } }

-- the row of a statement or a declaration whose code begins at a place and ends here
abbrev pub marks : Sketched → (first place : ℕ) → Sketched
marks m first place =
    record m { made = record m.made { places = m.made.places ++ (record { first = first; behind = end_of m; place = place }) ∷ [] } }

-- another operation at a place
abbrev pub led : Sketched → (place : ℕ) → Operation → Sketched
led m place operation = with_fragment m (patched (fragment_of m) place operation)

abbrev pub all_led : Sketched → (places : List ℕ) → (end : ℕ) → Sketched
all_led m places end = with_fragment m (rejoined (fragment_of m) places end)

-- Once a part is added, and the jumps at these places lead to its end, this is all that is put together.
pub record ClosesTo (now : Sketched) (places : List ℕ) (last : CodePart) (whole : Sketched) : Type 0 where
  pub closes : (end : ℕ) → end ≡ narrow (end_of (adds now last)) → all_led (adds now last) places end ≡ whole

-- From one list of waiting jumps to another, these parts were added, each of which ends by such a jump.
abbrev pub OpensParts : (old : Sketched) (before : List ℕ) (parts : CodePart → CodePart) (new : Sketched) (after : List ℕ) → Type 0
OpensParts old before parts new after = (last : CodePart) (whole : Sketched) → ClosesTo old before (parts last) whole → ClosesTo new after last whole
