-- How many steps of code are enough for so many steps of a source: by its text alone.
use Rattle.std.specs.Prelude.{ℕ, zero, suc, ◌*◌, max, List, [], ◌∷◌, ◌++◌, if◌then◌else◌}
use Rattle.base.specs.declared.limits.TheConstants.{FRAMES}
use Rattle.image.specs.Rules.{is_task_body}
use Rattle.compiler.specs.ada_tree.specs.ProgramTree.{ProgramTree}
use Rattle.compiler.specs.package_code.specs.Bodies.{Coded, bodies_of}
use Rattle.compiler.specs.package_code.specs.Counts.{bound_of, bounds_from}
use Rattle.compiler.specs.part_code.specs.Bounds.{main_bound}
use Rattle.program_soundness.specs.Fronts.{declared_in}

-- The most steps that a frame takes by itself for one step of the source, or for one call within it, where its subprogram is one of those that have so many
-- instructions at most: twice as many, and one.
abbrev pub own_steps : (bounds : List ℕ) → ℕ
own_steps [] = 0
own_steps (n ∷ ns) = max (suc (2 * n)) (own_steps ns)

-- the most instructions of each body of the text, and of main, which is the last
abbrev pub body_bounds : ProgramTree → List ℕ
body_bounds tree = bounds_from tree 0 (declared_in tree.package_) ++ main_bound tree.main.statements ∷ []

-- the most instructions of each body that may be called: of subprograms, operations and entries
abbrev pub callable_bounds : List Coded → List ℕ
callable_bounds [] = []
callable_bounds (c ∷ cs) = if is_task_body c.kind then callable_bounds cs else bound_of c ∷ callable_bounds cs

-- the steps of a called frame and of all those above it, where so many are there at a time, and each takes so many by itself and calls at each of them
abbrev pub nested_steps : (each frames : ℕ) → ℕ
nested_steps each zero = 0
nested_steps each (suc frames) = each * suc (nested_steps each frames)

-- the most steps of code for one step of the source
abbrev pub most_code_steps : ProgramTree → ℕ
most_code_steps tree = own_steps (body_bounds tree) * suc (nested_steps (own_steps (callable_bounds (bodies_of tree))) FRAMES)

-- under a limit of so many steps of code this many of the source are taken
abbrev pub enough_steps : ProgramTree → (steps : ℕ) → ℕ
enough_steps tree steps = most_code_steps tree * steps
