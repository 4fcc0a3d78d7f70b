-- Broken rules by number and place, and the least of them (docs/LANGUAGE.md, "Rules of expressions").
use Rattle.std.specs.Prelude.{◌≡◌, ◌≤◌, ℕ, ◌+◌, ◌*◌, Bool, List, [], ◌∷◌, ◌++◌, Option, Some, None, nat_lt, if◌then◌else◌}
use Rattle.std.specs.List.{Contains}
use Rattle.lexer.specs.declared.fault.Fault.{Fault}

-- each entry: the rule with this number is broken at this place
abbrev pub Faults : Type 0
Faults = List Fault

-- the rule with this number is broken at this place, if the test says so
abbrev pub rule : (number place : ℕ) → Bool → Faults
rule number place is_broken = if is_broken then record { number = number; place = place } ∷ [] else []

-- the order in which faults are told: by place, then by number, which is below 256
abbrev pub order_of : Fault → ℕ
order_of f = f.place * 256 + f.number

abbrev pub sooner : Option Fault → Option Fault → Option Fault
sooner None b = b
sooner (Some a) None = Some a
sooner (Some a) (Some b) = if nat_lt (order_of b) (order_of a) then Some b else Some a

abbrev pub least : Faults → Option Fault
least [] = None
least (f ∷ fs) = sooner (Some f) (least fs)

-- it is among the faults, and none comes before it
pub record IsLeast (fs : Faults) (f : Fault) : Type 0 where
  pub listed : Contains fs f
  pub first : (g : Fault) → Contains fs g → order_of f ≤ order_of g

-- ---- the laws of lists of faults, as statements; each is the contract of a public function

-- the least of a joined list is the sooner of the parts' least
abbrev pub LeastByParts : Type 0
LeastByParts = (xs ys : Faults) → least (xs ++ ys) ≡ sooner (least xs) (least ys)

abbrev pub SoonerAssociates : Type 0
SoonerAssociates = (a b c : Option Fault) → sooner (sooner a b) c ≡ sooner a (sooner b c)

-- no least fault: nothing is broken; a least fault: it is one of those broken, and none comes before it
pub record LeastIsLeast : Type 0 where
  pub none : (fs : Faults) → None ≡ least fs → fs ≡ []
  pub some : (fs : Faults) (f : Fault) → Some f ≡ least fs → IsLeast fs f
