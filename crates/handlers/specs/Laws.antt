-- What is proved of rows that are put together, as statements for contracts.
use Rattle.std.specs.Prelude.{◌≡◌, ◌≤◌, ◌<◌, ℕ, List, ◌++◌, Bool, true, false, ◌&&◌, Some, None, All}
use Rattle.handlers.specs.declared.rows.Row.{Row}
use Rattle.handlers.specs.Innermost.{covers, handles, width, handler_of}

-- the row covers the place and handles the exception
abbrev pub takes : ℕ → ℕ → Row → Bool
takes place exception r = covers place r && handles exception r

-- each row that takes the exception has a region that is at least as long as that of each row of inner that takes it
abbrev pub LieAround : List Row → ℕ → ℕ → List Row → Type 0
LieAround inner place exception outer =
    All (λ q. takes place exception q ≡ true → All (λ r. takes place exception r ≡ true → width r ≤ width q) inner) outer

-- each row that takes the exception has a longer region than each row of inner that takes it
abbrev pub LieWellAround : List Row → ℕ → ℕ → List Row → Type 0
LieWellAround inner place exception outer =
    All (λ q. takes place exception q ≡ true → All (λ r. takes place exception r ≡ true → width r < width q) inner) outer

-- rows that take nothing change nothing, wherever they stand
abbrev pub RowsElsewhere : Type 0
RowsElsewhere =
    (before more after : List Row) (place exception : ℕ) → All (λ r. takes place exception r ≡ false) more
    → handler_of (before ++ (more ++ after)) place exception ≡ handler_of (before ++ after) place exception

-- where the inner rows have a handler, rows around them change nothing
abbrev pub RowsInside : Type 0
RowsInside =
    (inner outer : List Row) (place exception target : ℕ) → handler_of inner place exception ≡ Some target → LieAround inner place exception outer
    → handler_of (inner ++ outer) place exception ≡ Some target

-- nor where they come first, if their regions are longer
abbrev pub RowsInsideLast : Type 0
RowsInsideLast =
    (outer inner : List Row) (place exception target : ℕ) → handler_of inner place exception ≡ Some target → LieWellAround inner place exception outer
    → handler_of (outer ++ inner) place exception ≡ Some target

-- where the inner rows have no handler, the others decide
abbrev pub RowsAround : Type 0
RowsAround = (inner outer : List Row) (place exception : ℕ) → handler_of inner place exception ≡ None
    → handler_of (inner ++ outer) place exception ≡ handler_of outer place exception
