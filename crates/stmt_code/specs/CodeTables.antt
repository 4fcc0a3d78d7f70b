-- What the tables of code have: its rows of handlers, and where the code of its statements and declarations stands.
use Rattle.std.specs.Prelude.{List}
use Rattle.handlers.specs.declared.rows.Row.{Row}
use Rattle.stmt_code.specs.declared.tables.PlaceRow.{PlaceRow}

pub record TablesValue : Type 0 where
  -- the rows of handlers
  pub items : List Row
  pub places : List PlaceRow
