-- How many instructions the code of each subprogram of a program has at most, and how many steps of one step of the program its frames take: by the text of the
-- subprogram alone.
use Rattle.std.specs.Prelude.{ℕ, suc, List, [], ◌∷◌, ◌++◌, map, slice_get}
use Rattle.ada_tree.specs.ProgramTree.{BodyItemTree, ProgramTree}
use Rattle.program_soundness.specs.Fronts.{declared_in}
use Rattle.step_simulation.specs.part_code.specs.Bounds.{main_bound, procedure_bound}
use Rattle.package_code.specs.Bodies.{Coded, coded_at, or_zero}

-- the most instructions of a body: 20 for each part of its tree, and two for each word of an object that is declared in it
abbrev pub bound_of : Coded → ℕ
bound_of c = procedure_bound c.front c.head.formals c.body

abbrev pub bounds_at : ProgramTree → (place : ℕ) → BodyItemTree → List ℕ
bounds_at t place x = map bound_of (coded_at t place x)

-- of each body among items that stand from this place on
abbrev pub bounds_from : ProgramTree → (place : ℕ) → List BodyItemTree → List ℕ
bounds_from t place [] = []
bounds_from t place (x ∷ rest) = bounds_at t place x ++ bounds_from t (suc place) rest

-- the most instructions of the subprogram with this number: bodies in the order of the text, and main after them
abbrev pub instructions_bound : ProgramTree → (number : ℕ) → ℕ
instructions_bound t number = or_zero (slice_get (bounds_from t 0 (declared_in t.package_) ++ main_bound t.main.statements ∷ []) number)
