-- What is said of a run that is cut, by what is said where the clock has moved, and where it hasn't.
use Rattle.std.proofs.Common.{Result, Ok, Err}
use Rattle.std.specs.Prelude.{IfOk}

-- three facts of one answer, each under its premises
pub all_of_it : {X Y : Type 0} (r : Result X Y) (A B C D : Type 0) (P Q R : X → Type 0) → (A → IfOk r P) → (B → IfOk r Q) → (C → D → IfOk r R)
    → IfOk r (λ x. (A → P x) × ((B → Q x) × (C → D → R x)))
all_of_it (Ok x) A B C D P Q R first second third = (first, (second, third))
all_of_it (Err e) A B C D P Q R first second third = tt
