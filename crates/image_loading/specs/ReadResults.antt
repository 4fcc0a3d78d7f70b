-- What a function that reads bytes answered is what the definitions of specs/Reading give; nobody has to believe this.
use Rattle.std.specs.Prelude.{◌≡◌, Option, Some, None, Result, Ok, Err}
use Rattle.image_loading.specs.declared.reading.Unread.{Unread}
use Rattle.image_loading.specs.declared.reading.Unread.TheVariants.{Memory, Short}

abbrev pub FailsToRead : {Y : Type 0} → Unread → Option Y → Type 0
FailsToRead Memory read = Unit {0}
FailsToRead Short read = read ≡ None

-- seen by view, unless memory was refused
abbrev pub ReadsAs : {X Y : Type 0} → (X → Y) → Result X Unread → Option Y → Type 0
ReadsAs view (Ok x) read = read ≡ Some (view x)
ReadsAs view (Err e) read = FailsToRead e read
