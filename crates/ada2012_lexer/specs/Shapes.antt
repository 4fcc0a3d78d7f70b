-- How what the code reads, by references into the text and numbers of 64 bits, is what the definitions read.
use Rattle.std.specs.Prelude.{◌≡◌, ℕ, ◌-◌, ◌^◌, ◌<◌, ◌≤◌, Result, Ok, Err, MatchResult, min}
use Rattle.ada2012_lexer.specs.declared.fault.FaultKind.{FaultKind}
use Rattle.ada2012_lexer.specs.declared.literal.Literal.{Literal as Parts}
use Rattle.ada2012_lexer.specs.Elements.{ElementReading}
use Rattle.ada2012_lexer.specs.Numbers.{Literal}

-- a number, or the greatest one of 64 bits where it is larger
abbrev pub capped : ℕ → ℕ
capped n = min n (2 ^ 64 - 1)

abbrev pub literal_of : Parts → Literal
literal_of parts = record { base = parts.base; digits = parts.digits.now; real = parts.real; exponent = parts.exponent.now }

-- the code reads as the definition does, with the same fault
abbrev pub ReadsAlike : {X Y : Type 0} → (X → Y) → Result X FaultKind → Result Y FaultKind → Type 0
ReadsAlike view (Ok x) read = read ≡ Ok (view x)
ReadsAlike view (Err fault) read = read ≡ Err fault

-- an element has one character at least and so many at most; the place of what is wrong is so many characters on at most
abbrev pub IsElementWithin : ℕ → ElementReading → Type 0
IsElementWithin most reading = MatchResult reading (λ element. (0 < element.length) × (element.length ≤ most)) (λ broken. broken.offset ≤ most)
