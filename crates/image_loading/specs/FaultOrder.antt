-- Broken rules of an image by number and byte, and the first of them: at the least byte, and there of the least number.
use Rattle.std.specs.Prelude.{ℕ, ◌+◌, ◌*◌, Bool, false, List, [], ◌∷◌, Option, Some, None, nat_le, min, if◌then◌else◌}
use Rattle.base.specs.First.{first_by, sooner_by}
use Rattle.image.specs.declared.fault.ImageFault.{ImageFault}

-- each entry: this rule is broken at this byte
abbrev pub ImageFaults : Type 0
ImageFaults = List ImageFault

-- the last byte that a fault can name; it stands for those behind it too
abbrev pub last_byte : ℕ
last_byte = 4294967295

-- so many bytes behind a byte
abbrev pub after : ℕ → ℕ → ℕ
after byte count = min (byte + count) last_byte

abbrev pub fault_at : ℕ → ℕ → ImageFault
fault_at number byte = record { number = number; byte = byte }

-- the rule of this number is broken at this byte, if the test says so
abbrev pub rule : ℕ → ℕ → Bool → ImageFaults
rule number byte broken = if broken then fault_at number byte ∷ [] else []

-- the order in which faults are named
abbrev pub order_of : ImageFault → ℕ
order_of f = f.byte * 256 + f.number

-- of two of them the one that is named, and of all
abbrev pub sooner : Option ImageFault → Option ImageFault → Option ImageFault
sooner a b = sooner_by order_of a b

abbrev pub first_of : ImageFaults → Option ImageFault
first_of faults = first_by order_of faults

-- there is a fault, and it comes no later than the other
abbrev pub is_no_later : Option ImageFault → ImageFault → Bool
is_no_later None other = false
is_no_later (Some f) other = nat_le (order_of f) (order_of other)
