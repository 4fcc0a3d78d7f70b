-- Clauses before a package with all that they break, of which a text shows the first. Places are those in the text above each.
use Rattle.std.proofs.Common.{◌≡◌, ℕ, ◌+◌, List, [], ◌∷◌, map, Some, None, refl}
use Rattle.std.specs.Prelude.{codes}
use Rattle.ada_tree.specs.declared.program.UnitClause.{UnitClause}
use Rattle.unit_rules.specs.UnitRules.{clauses_faults}
use Rattle.unit_rules.proofs.Sample.{identifier}

-- ---- units

-- `with UNIT; use USED;` at a place, for units of one name
abbrev clause_of : (place : ℕ) → (unit used : List ℕ) → UnitClause
clause_of place unit used =
    record { place = place; unit = record { first = identifier (place + 5) unit; second = None }; used = record { first = identifier (place + 21) used; second = None } }

-- `with Ada.Real_Time; use Ada.Real_Time;` at a place
abbrev times_clause : (place : ℕ) → UnitClause
times_clause place =
    record {
      place = place;
      unit = record { first = identifier (place + 5) (codes "ADA"); second = Some (identifier (place + 9) (codes "REAL_TIME")) };
      used = record { first = identifier (place + 24) (codes "ADA"); second = Some (identifier (place + 28) (codes "REAL_TIME")) };
    }

-- `with Control_IO; use Control_IO; with Ada.Real_Time; use Ada.Real_Time; with Control_IO; use Control_IO;`
named_again : clauses_faults (clause_of 0 (codes "CONTROL_IO") (codes "CONTROL_IO") ∷ times_clause 33 ∷ clause_of 72 (codes "CONTROL_IO") (codes "CONTROL_IO") ∷ [])
    ≡ record { number = 11; place = 77 } ∷ []
named_again = refl

-- `with Control_IO; use Control_IO; with Control_IO; use Control;`
named_again_and_another_used : clauses_faults (clause_of 0 (codes "CONTROL_IO") (codes "CONTROL_IO") ∷ clause_of 33 (codes "CONTROL_IO") (codes "CONTROL") ∷ [])
    ≡ record { number = 11; place = 38 } ∷ record { number = 10; place = 54 } ∷ []
named_again_and_another_used = refl

-- `with Ada.Real_Time; use Ada.Real_Time;` twice; a unit that is not there is told of for itself each time
times_again : clauses_faults (times_clause 0 ∷ times_clause 39 ∷ []) ≡ record { number = 11; place = 44 } ∷ []
times_again = refl

unknown_twice : map (λ f. f.number) (clauses_faults (clause_of 0 (codes "CONTROL") (codes "CONTROL") ∷ clause_of 33 (codes "CONTROL") (codes "CONTROL") ∷ []))
    ≡ 10 ∷ 10 ∷ 10 ∷ 10 ∷ []
unknown_twice = refl
