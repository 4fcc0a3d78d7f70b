-- Loops over ranges that are never null (RM 5.5).
use Rattle.std.specs.Prelude.{Bool, int_le}
use Rattle.ada_tree.specs.StatementTree.{RangeTree}
use Rattle.types.specs.Bounds.{bounds_of}
use Rattle.types.specs.Scopes.{Scope}

-- the first bound is never greater than the last one, by what is known of both
abbrev pub is_full : Scope → RangeTree → Bool
is_full s range = int_le (bounds_of s range.first).1 (bounds_of s range.last).0
