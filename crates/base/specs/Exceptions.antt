-- The predefined exceptions (RM 11.1): numbers and names.
use Rattle.std.specs.Prelude.{ℕ, List, codes}
use Rattle.base.specs.declared.exceptions.PredefinedException.{PredefinedException}
use Rattle.base.specs.declared.exceptions.PredefinedException.TheVariants.{ConstraintError, ProgramError, StorageError, TaskingError}

abbrev pub number_of : PredefinedException → ℕ
number_of ConstraintError = 1
number_of ProgramError = 2
number_of StorageError = 3
number_of TaskingError = 4

abbrev pub name_of : PredefinedException → List ℕ
name_of ConstraintError = codes "CONSTRAINT_ERROR"
name_of ProgramError = codes "PROGRAM_ERROR"
name_of StorageError = codes "STORAGE_ERROR"
name_of TaskingError = codes "TASKING_ERROR"
