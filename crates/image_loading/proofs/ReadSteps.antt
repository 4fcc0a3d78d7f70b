-- The sections of an image are read one behind the other: what is still read behind each of them.
use Rattle.std.proofs.Common.{ℕ, ℤ, List}
use Rattle.handlers.specs.declared.rows.Row.{Row}
use Rattle.image.specs.declared.attachments.Attachment.{Attachment}
use Rattle.image_loading.specs.RawRows.{RawObjectRow, RawTaskRow}
use Rattle.image_loading.specs.Reading.{ByteReading, Raw, and_then, made, read_attachment, read_instruction, read_many, read_object, read_row, read_subprogram, read_task, read_text, read_word}
use Rattle.image_loading.specs.declared.raw_sections.RawInstruction.{RawInstruction}
use Rattle.image_loading.specs.declared.raw_sections.RawSubprogram.{RawSubprogram}
use Rattle.image_loading.specs.declared.reading.Counts.{Counts}

abbrev pub raw_with : ℕ → List (List ℕ) → List (List ℕ) → List ℤ → List RawObjectRow → List RawSubprogram → List RawTaskRow → List Row → List Attachment
    → List RawInstruction → Raw
raw_with v e l w o s t r a k = record {
  version = v;
  exceptions = e;
  labels = l;
  plain_words = w;
  objects = o;
  subprograms = s;
  tasks = t;
  rows = r;
  attachments = a;
  instructions = k;
}

abbrev pub then_instructions : Counts → List (List ℕ) → List (List ℕ) → List ℤ → List RawObjectRow → List RawSubprogram → List RawTaskRow → List Row
    → List Attachment → ByteReading Raw
then_instructions c e l w o s t r a b = made (raw_with c.version e l w o s t r a) (read_many read_instruction c.instructions b)

abbrev pub then_attachments : Counts → List (List ℕ) → List (List ℕ) → List ℤ → List RawObjectRow → List RawSubprogram → List RawTaskRow → List Row
    → ByteReading Raw
then_attachments c e l w o s t r b = and_then (read_many read_attachment c.attachments b) (then_instructions c e l w o s t r)

abbrev pub then_rows : Counts → List (List ℕ) → List (List ℕ) → List ℤ → List RawObjectRow → List RawSubprogram → List RawTaskRow → ByteReading Raw
then_rows c e l w o s t b = and_then (read_many read_row c.rows b) (then_attachments c e l w o s t)

abbrev pub then_tasks : Counts → List (List ℕ) → List (List ℕ) → List ℤ → List RawObjectRow → List RawSubprogram → ByteReading Raw
then_tasks c e l w o s b = and_then (read_many read_task c.tasks b) (then_rows c e l w o s)

abbrev pub then_subprograms : Counts → List (List ℕ) → List (List ℕ) → List ℤ → List RawObjectRow → ByteReading Raw
then_subprograms c e l w o b = and_then (read_many read_subprogram c.subprograms b) (then_tasks c e l w o)

abbrev pub then_objects : Counts → List (List ℕ) → List (List ℕ) → List ℤ → ByteReading Raw
then_objects c e l w b = and_then (read_many read_object c.objects b) (then_subprograms c e l w)

abbrev pub then_words : Counts → List (List ℕ) → List (List ℕ) → ByteReading Raw
then_words c e l b = and_then (read_many read_word c.plain_words b) (then_objects c e l)

abbrev pub then_labels : Counts → List (List ℕ) → ByteReading Raw
then_labels c e b = and_then (read_many read_text c.labels b) (then_words c e)
