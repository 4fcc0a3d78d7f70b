-- The sections that the bytes of an image give, nothing judged (docs/FORMATS.md, "Sections"). Numbers are big-endian.
use Rattle.std.specs.Prelude.{ℕ, zero, suc, ℤ, List, [], ◌∷◌, length, take, drop, Option, Some, None, nat_eq, nat_lt, get_or, if◌then◌else◌}
use Rattle.std.specs.Int.{cast_signed, from_be_bytes, w16, w64}
use Rattle.handlers.specs.declared.rows.Row.{Row}
use Rattle.image.specs.declared.attachments.Attachment.{Attachment}
use Rattle.image_loading.specs.RawRows.{RawObjectRow, RawTaskRow}
use Rattle.image_loading.specs.declared.reading.Counts.{Counts}
use Rattle.image_loading.specs.declared.raw_sections.RawInstruction.{RawInstruction}
use Rattle.image_loading.specs.declared.raw_sections.RawSubprogram.{RawSubprogram}

-- the version, and the sections in the order of the bytes
pub record Raw : Type 0 where
  pub version : ℕ
  pub exceptions : List (List ℕ)
  pub labels : List (List ℕ)
  pub plain_words : List ℤ
  pub objects : List RawObjectRow
  pub subprograms : List RawSubprogram
  pub tasks : List RawTaskRow
  pub rows : List Row
  pub attachments : List Attachment
  pub instructions : List RawInstruction

-- what stands at the front of bytes, and the bytes behind it, unless they end early
abbrev pub ByteReading : Type 0 → Type 0
ByteReading X = List ℕ → Option (X × List ℕ)

-- then what stands behind it
abbrev pub and_then : {X Y : Type 0} → Option (X × List ℕ) → (X → ByteReading Y) → Option (Y × List ℕ)
and_then None next = None
and_then (Some read) next = next read.0 read.1

-- what is made of it
abbrev pub made : {X Y : Type 0} → (X → Y) → Option (X × List ℕ) → Option (Y × List ℕ)
made of read = and_then read (λ x behind. Some (of x, behind))

-- so many bytes
unfoldable pub read_bytes : ℕ → ByteReading (List ℕ)
read_bytes n bytes = if nat_lt (length bytes) n then None else Some (take n bytes, drop n bytes)

-- so many of them
unfoldable pub read_many : {X : Type 0} → ByteReading X → ℕ → ByteReading (List X)
read_many read zero bytes = Some ([], bytes)
read_many read (suc n) bytes = and_then (read bytes) (λ x left. made (λ xs. x ∷ xs) (read_many read n left))

-- the numbers of 8, 16 and 64 bits at a byte, the last one in two's complement
unfoldable pub byte_at : List ℕ → ℕ → ℕ
byte_at bytes n = get_or bytes n 0

unfoldable pub half_at : List ℕ → ℕ → ℕ
half_at bytes n = from_be_bytes w16 (drop n bytes)

unfoldable pub word_at : List ℕ → ℕ → ℤ
word_at bytes n = cast_signed w64 (from_be_bytes w64 (drop n bytes))

-- a length and so many characters
unfoldable pub read_text : ByteReading (List ℕ)
read_text bytes = and_then (read_bytes 1 bytes) (λ row. read_bytes (byte_at row 0))

unfoldable pub read_word : ByteReading ℤ
read_word bytes = made (λ row. word_at row 0) (read_bytes 8 bytes)

-- ceiling, entry, barrier, its word and the number of words
abbrev pub object_row : List ℕ → List ℤ → RawObjectRow
object_row row words = record { ceiling = byte_at row 0; entry = half_at row 1; barrier = byte_at row 3; barrier_word = half_at row 4; words = words }

unfoldable pub read_object : ByteReading RawObjectRow
read_object bytes = and_then (read_bytes 8 bytes) (λ row left. made (object_row row) (read_many read_word (half_at row 6) left))

abbrev pub subprogram_row : List ℕ → RawSubprogram
subprogram_row row =
    record {
      kind = byte_at row 0;
      object = half_at row 1;
      end_ = half_at row 3;
      parameters = half_at row 5;
      results = half_at row 7;
      locals = half_at row 9;
      stack = half_at row 11;
    }

unfoldable pub read_subprogram : ByteReading RawSubprogram
read_subprogram bytes = made subprogram_row (read_bytes 13 bytes)

-- name, priority and subprogram
unfoldable pub read_task : ByteReading RawTaskRow
read_task bytes =
    and_then (read_text bytes) (λ name left. made (λ row. record { name = name; priority = byte_at row 0; subprogram = half_at row 1 }) (read_bytes 3 left))

abbrev pub handler_row : List ℕ → Row
handler_row row = record { start = half_at row 0; end_ = half_at row 2; exception = half_at row 4; target = half_at row 6 }

unfoldable pub read_row : ByteReading Row
read_row bytes = made handler_row (read_bytes 8 bytes)

abbrev pub attachment_row : List ℕ → Attachment
attachment_row row = record { channel = byte_at row 0; subprogram = half_at row 1 }

unfoldable pub read_attachment : ByteReading Attachment
read_attachment bytes = made attachment_row (read_bytes 3 bytes)

abbrev pub instruction_row : List ℕ → RawInstruction
instruction_row row = record { opcode = byte_at row 0; depth = half_at row 1; address = half_at row 3; constant = word_at row 5 }

unfoldable pub read_instruction : ByteReading RawInstruction
read_instruction bytes = made instruction_row (read_bytes 13 bytes)

-- the version and how many there are of each, behind the magic
abbrev pub counts_row : List ℕ → ℕ → Counts
counts_row row attachments =
    record {
      version = half_at row 4;
      instructions = half_at row 6;
      subprograms = half_at row 8;
      objects = half_at row 10;
      tasks = half_at row 12;
      exceptions = half_at row 14;
      rows = half_at row 16;
      labels = half_at row 18;
      plain_words = half_at row 20;
      attachments = attachments;
    }

-- the count of attachments, which version 2 has alone
unfoldable pub read_attached_count : ℕ → ByteReading ℕ
read_attached_count version bytes = if nat_eq version 2 then made (λ row. half_at row 0) (read_bytes 2 bytes) else Some (0, bytes)

unfoldable pub read_counts : ByteReading Counts
read_counts bytes = and_then (read_bytes 22 bytes) (λ row left. made (counts_row row) (read_attached_count (half_at row 4) left))

-- the sections, as many of each as the counts say
unfoldable pub read_raw : Counts → ByteReading Raw
read_raw c bytes =
    and_then (read_many read_text c.exceptions bytes)
    (λ exceptions b1. and_then (read_many read_text c.labels b1)
    (λ labels b2. and_then (read_many read_word c.plain_words b2)
    (λ plain_words b3. and_then (read_many read_object c.objects b3)
    (λ objects b4. and_then (read_many read_subprogram c.subprograms b4)
    (λ subprograms b5. and_then (read_many read_task c.tasks b5)
    (λ tasks b6. and_then (read_many read_row c.rows b6)
    (λ rows b7. and_then (read_many read_attachment c.attachments b7)
    (λ attachments b8. made
    (λ instructions. record {
      version = c.version;
      exceptions = exceptions;
      labels = labels;
      plain_words = plain_words;
      objects = objects;
      subprograms = subprograms;
      tasks = tasks;
      rows = rows;
      attachments = attachments;
      instructions = instructions;
    })
    (read_many read_instruction c.instructions b8)))))))))

unfoldable pub read_image : ByteReading Raw
read_image bytes = and_then (read_counts bytes) read_raw
