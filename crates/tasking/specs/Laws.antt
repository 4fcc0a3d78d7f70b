-- What a caller needs who keeps the lines: they matter to nothing, as statements for contracts.
use Rattle.std.specs.Prelude.{◌≡◌, ℕ, ℤ, List, [], ◌∷◌, ◌++◌, Bool}
use Rattle.kernel.specs.State.{Kernel, Line}
use Rattle.kernel.specs.Effects.{Effect, Says, after}
use Rattle.kernel.specs.Invariant.{Kept}

-- the lines that an effect of task t adds at a time
abbrev pub said : ℕ → ℤ → Effect → List Line
said t now (Says label value) = record { time = now; task = t; label = label; value = value } ∷ []
said t now e = []

-- an effect does the same whatever the lines are, and adds its own
abbrev pub LinesApart : Type 0
LinesApart = (t : ℕ) (e : Effect) (k : Kernel) (lines : List Line) → after t e (record k { lines = lines })
    ≡ record (after t e k) { lines = lines ++ said t k.now e }

-- the invariant holds whatever the lines are
abbrev pub KeptWithLines : Type 0
KeptWithLines = (barrier : ℕ → Bool) (k : Kernel) (lines : List Line) → Kept barrier k → Kept barrier (record k { lines = lines })
