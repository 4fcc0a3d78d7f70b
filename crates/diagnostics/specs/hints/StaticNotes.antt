-- What is said of an expression that must be static (RM 4.9): what keeps it from being so, and what is wrong with its value.
use Rattle.std.specs.Prelude.{ℕ, ℤ, List, [], ◌++◌, Option, Some, None, codes}
use Rattle.std.specs.Fmt.{signed_decimal}
use Rattle.ada_tree.specs.Language.{Tokens}
use Rattle.ada_tree.specs.ProgramTree.{ProgramTree}
use Rattle.diagnostics.specs.counterparts.Twice.{twice_other}
use Rattle.mismatches.specs.declared.conflict.Obstacle.{Obstacle}
use Rattle.mismatches.specs.declared.conflict.Obstacle.TheVariants as obstacle
use Rattle.mismatches.specs.declared.remark.Remark.{Remark}
use Rattle.mismatches.specs.declared.remark.Remark.TheVariants as remark
use Rattle.diagnostics.specs.hints.Places.{name_at, place_text}
use Rattle.diagnostics.specs.hints.Stopped.{named_place}

-- where the declaration of a name is that is visible at the place, but for those of blocks and loops
abbrev pub declared_place : ProgramTree → (place : ℕ) → Option (List ℕ) → Option ℕ
declared_place t place (Some name) = twice_other t name place
declared_place t place None = None

unfoldable pub obstacle_part : (text : List ℕ) → Tokens → (place : ℕ) → List ℕ
obstacle_part text ts place = codes "not static: " ++ named_place text ts place

unfoldable pub declared_part : (text : List ℕ) → (place : ℕ) → List ℕ
declared_part text place = codes ", declared at " ++ place_text text place ++ codes "\n"

abbrev pub declared_end : (text : List ℕ) → Option ℕ → List ℕ
declared_end text (Some place) = declared_part text place
declared_end text None = codes "\n"

unfoldable pub if_part : (text : List ℕ) → (place : ℕ) → List ℕ
if_part text place = codes "not static: the if expression at " ++ place_text text place

abbrev pub obstacle_lines : (text : List ℕ) → Tokens → ProgramTree → Obstacle → List ℕ
obstacle_lines text ts t (obstacle.Name place) = obstacle_part text ts place ++ declared_end text (declared_place t place (name_at place ts))
obstacle_lines text ts t (obstacle.IfExpression place) = if_part text place ++ declared_end text None

unfoldable pub number_text : ℤ → List ℕ
number_text z = signed_decimal z

unfoldable pub value_part : (value : ℤ) → List ℕ
value_part value = codes "the value is " ++ number_text value

unfoldable pub range_part : (first last : ℤ) → List ℕ
range_part first last = number_text first ++ codes " .. " ++ number_text last

unfoldable pub outside_part : (first last : ℤ) → List ℕ
outside_part first last = codes ", outside " ++ range_part first last ++ codes "\n"

abbrev pub outside_lines : (value first last : ℤ) → List ℕ
outside_lines value first last = value_part value ++ outside_part first last

unfoldable pub null_part : (first last : ℤ) → List ℕ
null_part first last = codes "the range " ++ range_part first last ++ codes " is null\n"

unfoldable pub raising_line : List ℕ
raising_line = codes "its evaluation raises an exception: an overflow, or a division by zero\n"

-- nothing of types that don't match
abbrev pub static_lines : (text : List ℕ) → Tokens → ProgramTree → Option Remark → List ℕ
static_lines text ts t (Some (remark.NotStatic o)) = obstacle_lines text ts t o
static_lines text ts t (Some (remark.Outside value first last)) = outside_lines value first last
static_lines text ts t (Some remark.Raises) = raising_line
static_lines text ts t (Some (remark.NullRange first last)) = null_part first last
static_lines text ts t r = []
