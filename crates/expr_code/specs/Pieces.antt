-- Code as it is put together: pieces, each of which is given the place where it begins, since jumps name places of the whole (docs/CODEGEN.md).
use Rattle.std.specs.Prelude.{◌≡◌, ℕ, zero, suc, ◌+◌, List, [], ◌∷◌, ◌++◌, length, max, min}
use Rattle.image.specs.declared.instruction.Instr.{Instr}
use Rattle.image.specs.declared.instruction.Operation.{Operation}
use Rattle.image.specs.declared.instruction.Operation.TheVariants as op

-- instructions that are to be added after so many others
pub record Made : Type 0 where
  pub before : ℕ
  pub code : List Instr

abbrev pub end_of : Made → ℕ
end_of m = m.before + length m.code

-- what is made, where it begins at a place
abbrev pub Piece : Type 0
Piece = ℕ → List Instr

-- the most words that an instruction finds
abbrev pub deepest_of : List Instr → ℕ
deepest_of [] = 0
deepest_of (x ∷ xs) = max x.depth (deepest_of xs)

-- an operand of an instruction has 16 bits (docs/FORMATS.md); a limit of images is less than the greatest one
unfoldable pub narrow : ℕ → ℕ
narrow n = min n 65535

-- ---- putting pieces together

unfoldable pub nothing : Piece
nothing base = []

-- an instruction that finds so many words on the operand stack
unfoldable pub one : (depth : ℕ) → Operation → Piece
one depth operation base = (record { depth = narrow depth; operation = operation }) ∷ []

infixr 30 ◌▸◌
-- one piece, and another one after it
unfoldable pub ◌▸◌ : Piece → Piece → Piece
◌▸◌ a b base = a base ++ b (base + length (a base))

-- a jump over a piece and so many instructions after it
unfoldable pub over : (more depth : ℕ) → (jump : ℕ → Operation) → Piece → Piece
over more depth jump a base = (record { depth = narrow depth; operation = jump (narrow (suc base + length (a (suc base)) + more)) }) ∷ a (suc base)

-- ---- what methods do

-- a piece after what is made
unfoldable pub adds : Made → Piece → Made
adds m a = record m { code = m.code ++ a (end_of m) }

-- another operation at a place, at the same depth
abbrev pub with_operation : List Instr → (place : ℕ) → Operation → List Instr
with_operation [] place operation = []
with_operation (x ∷ xs) zero operation = (record { depth = x.depth; operation = operation }) ∷ xs
with_operation (x ∷ xs) (suc place) operation = x ∷ with_operation xs place operation

unfoldable pub patched : Made → (place : ℕ) → Operation → Made
patched m place operation = record m { code = with_operation m.code place operation }

-- jumps at these places lead to `end`
abbrev pub rejoined : Made → (places : List ℕ) → (end : ℕ) → Made
rejoined m [] end = m
rejoined m (p ∷ places) end = rejoined (patched m p (op.Jump end)) places end

-- Once the jumps at these places lead to the end, after whatever piece is added there then, what was added is the piece within these parts.
pub record Waits (start : Made) (front : Piece → Piece) (now : Made) (places : List ℕ) : Type 0 where
  pub closes : (last : Piece) (end : ℕ) → end ≡ narrow (end_of (adds now last)) → rejoined (adds now last) places end ≡ adds start (front last)

-- from one list of waiting jumps to another, these parts were added, each of which ends by such a jump
abbrev pub Opens : (old : Made) (before : List ℕ) (parts : Piece → Piece) (new : Made) (after : List ℕ) → Type 0
Opens old before parts new after = (start : Made) (front : Piece → Piece) → Waits start front old before → Waits start (λ last. front (parts last)) new after
