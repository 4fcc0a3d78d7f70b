-- What is read of files and of standard input.
use Rattle.std.specs.Prelude.{◌≡◌, ℕ, List, Option, Some, None, bytes_eq, codes, if◌then◌else◌, take, ⊤}

-- contents of files by their names, where they are known
abbrev pub Contents : Type 0
Contents = List ℕ → Option (List ℕ)

-- what was read is the content, where that is known
abbrev pub IsContentRead : Option (List ℕ) → List ℕ → Type 0
IsContentRead None text = ⊤
IsContentRead (Some content) text = text ≡ content

-- What was read is the beginning of the content, of so many bytes at most, where the content is known: all of it, where it has no more. A text, a schedule or a
-- set of schedules that is taken is shorter than what is read of a file for it (crates/file_limits).
abbrev pub IsBeginningRead : Option (List ℕ) → (most : ℕ) → List ℕ → Type 0
IsBeginningRead None most text = ⊤
IsBeginningRead (Some content) most text = text ≡ take most content

-- what a source is read from: standard input by the name `-`, and else the file of this name
abbrev pub with_input : (standard_input : Option (List ℕ)) → Contents → Contents
with_input standard_input contents name = if bytes_eq name (codes "-") then standard_input else contents name
