-- The law of values that are stored, as a statement: with a part changed to a value of its subtype an object lies in its own as before (RM 5.2).
use Rattle.std.specs.Prelude.{◌≡◌, true, List, Some}
use Rattle.meaning.specs.types.specs.declared.entity.Subtype.{Subtype}
use Rattle.meaning.specs.types.specs.Scopes.{Scope}
use Rattle.meaning.specs.types.specs.Values.{Value}
use Rattle.meaning.specs.Targets.{with_part}
use Rattle.meaning.specs.Works.{Part}
use Rattle.expr_soundness.specs.Variables.{part_subtype}
use Rattle.expr_soundness.specs.Lying.{lies}

abbrev pub StoredValuesLie : Type 0
StoredValuesLie = (s : Scope) (t u : Subtype) (parts : List Part) (v new : Value) → part_subtype s t parts ≡ Some u → lies s t v ≡ true → lies s u new ≡ true
    → lies s t (with_part parts new v) ≡ true
