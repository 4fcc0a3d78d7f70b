-- A small compiler: every main of null statements, and the image whose only instruction is a return.
use Rattle.std.specs.Prelude.{ℕ, zero, suc, List, [], ◌∷◌, None}
use Rattle.image.specs.Sections.{Sections}
use Rattle.image.specs.declared.instruction.Operation.TheVariants.{Return}
use Rattle.image.specs.declared.subprograms.Kind.TheVariants.{TaskBody}
use Rattle.ada_tree.specs.declared.expression.Identifier.{Identifier}
use Rattle.ada_tree.specs.declared.program.MainStatement.{MainStatement}
use Rattle.ada_tree.specs.declared.program.MainStatement.TheVariants as main
use Rattle.ada_tree.specs.ProgramTree.{ProgramTree}
use Rattle.base.specs.Names.{predefined}
use Rattle.declaration_rules.specs.TaskRules.{default_priority}
use Rattle.meaning.specs.SameMeaning.{SameMeaning}

abbrev pub nulls : ℕ → List MainStatement
nulls zero = []
nulls (suc n) = main.Null 0 ∷ nulls n

-- `procedure Main is begin null; .. null; end Main;`
abbrev pub null_program : Identifier → ℕ → ProgramTree
null_program name n = record { pragmas = []; package_ = None; main = record { place = 0; name = name; aspect = None; statements = nulls n; end_name = name } }

abbrev pub return_image : List ℕ → Sections
return_image name =
    record {
      exceptions = predefined;
      labels = [];
      plain_words = [];
      objects = [];
      subprograms = record { kind = TaskBody; end_ = 1; parameters = 0; results = 0; locals = 0; stack = 0 } ∷ [];
      tasks = record { name = name; priority = default_priority; subprogram = 0 } ∷ [];
      rows = [];
      attachments = [];
      instructions = record { depth = 0; operation = Return } ∷ [];
    }

abbrev pub ReturnMeansNulls : Type 0
ReturnMeansNulls = (name : Identifier) (n : ℕ) → SameMeaning (null_program name n) (return_image name.name)
