-- The calls of main (RM 10.2).
use Rattle.std.specs.Prelude.{◌≡◌, ◌||◌, ℕ, suc, ◌+◌, ◌≤◌, List, [], ◌∷◌, length, Some, true, ⊤}
use Rattle.std.specs.List.{All}
use Rattle.ada_tree.specs.declared.program.MainStatement.{MainStatement}
use Rattle.ada_tree.specs.declared.program.MainStatement.TheVariants as main
use Rattle.image.specs.Operations.{called}
use Rattle.image.specs.Rules.{calls_inside, is_plain}
use Rattle.image.specs.Sections.{Sections}
use Rattle.image.specs.declared.instruction.Operation.TheVariants as op
use Rattle.image.specs.declared.subprograms.Subprogram as code
use Rattle.expr_code.specs.Code.{Extends, Holds, here}
use Rattle.expr_code.specs.Flows.{Flows}
use Rattle.expr_code.specs.Seeing.{subprogram_of}
use Rattle.expr_code.specs.Views.{At}
use Rattle.expr_code.specs.declared.code.Code.{Code}
use Rattle.expr_code.specs.declared.visible.Visible.{Visible}

-- the calls of main, one behind the other
abbrev pub AreCalls : Sections → Visible → (from to : ℕ) → List MainStatement → Type 0
AreCalls i v from to [] = from ≡ to
AreCalls i v from to (main.Null place ∷ rest) = AreCalls i v from to rest
AreCalls i v from to (main.Call package_ procedure ∷ rest) =
    (number : ℕ) × (subprogram_of v procedure.name ≡ Some number) × At i from (op.Call number) × AreCalls i v (suc from) to rest

-- the subprogram that is called by a number may be called from this one, and takes and gives nothing
pub record IsBare (i : Sections) (s : code.Subprogram) (number : ℕ) : Type 0 where
  pub code : code.Subprogram
  pub is : called i number ≡ Some code
  pub kind : (is_plain code.kind || calls_inside s.kind code.kind) ≡ true
  pub parameters : code.parameters ≡ 0
  pub results : code.results ≡ 0

abbrev pub CallsBare : Visible → Sections → code.Subprogram → MainStatement → Type 0
CallsBare v i s (main.Null place) = ⊤
CallsBare v i s (main.Call package_ procedure) = (number : ℕ) → subprogram_of v procedure.name ≡ Some number → IsBare i s number

abbrev pub CallBare : Visible → List MainStatement → Sections → code.Subprogram → Type 0
CallBare v all i s = All (CallsBare v i s) all

pub record AddsCalls (v : Visible) (old : Code) (all : List MainStatement) (new : Code) : Type 0 where
  pub extends : Extends old new
  pub sized : here new ≤ here old + length all
  pub stands : (i : Sections) → Holds i (here old) new → AreCalls i v (here old) (here new) all
  pub flows : Flows (CallBare v all) old 0 new 0
