-- The signals of lines: the labels under which the tasks of a run write lines, and the values of their last lines.
use Rattle.std.specs.Prelude.{ℕ, List, [], ◌∷◌, ◌++◌, Option, Some, None, Bool, ◌&&◌, bytes_eq, map, nat_eq, if◌then◌else◌}
use Rattle.std.specs.Int.{cast_unsigned, w64}
use Rattle.std.specs.List.{list_any}
use Rattle.kernel.specs.State.{Line}

-- a label of a task, or of the handler of an interrupt: the task's number as lines have it, and the label
pub record TaskLabel : Type 0 where
  pub task : ℕ
  pub label : List ℕ

abbrev pub label_of : Line → TaskLabel
label_of l = record { task = l.task; label = l.label }

-- whether a line is one of this task under this label
abbrev pub is_under : TaskLabel → Line → Bool
is_under p l = nat_eq p.task l.task && bytes_eq p.label l.label

-- these, and that of a line, unless it is among them
abbrev pub with_line : List TaskLabel → Line → List TaskLabel
with_line ps l = if list_any (λ p. is_under p l) ps then ps else ps ++ label_of l ∷ []

-- these, and those of lines
abbrev pub with_lines : List TaskLabel → List Line → List TaskLabel
with_lines ps [] = ps
with_lines ps (l ∷ ls) = with_lines (with_line ps l) ls

-- those of lines, each once, in the order of their first lines
abbrev pub labels_of : List Line → List TaskLabel
labels_of lines = with_lines [] lines

-- the value of the last one of these lines that is under it, in 64 bits; where none is, the value before them
abbrev pub value_after : Option ℕ → TaskLabel → List Line → Option ℕ
value_after before p [] = before
value_after before p (l ∷ ls) = value_after (if is_under p l then Some (cast_unsigned w64 l.value) else before) p ls

-- that of the last line so far, if there is one
abbrev pub last_value : List Line → TaskLabel → Option ℕ
last_value lines p = value_after None p lines

abbrev pub line_values : List TaskLabel → List Line → List (Option ℕ)
line_values ps lines = map (last_value lines) ps
