-- What is said of types that don't match at the place of a fault: which these are, where they are declared, and what to write instead.
use Rattle.std.specs.Prelude.{ℕ, List, [], ◌++◌, Option, Some, None, codes}
use Rattle.ada_tree.specs.Language.{Tokens}
use Rattle.mismatches.specs.declared.remark.NamedType.{NamedType}
use Rattle.mismatches.specs.declared.remark.NamedType.TheVariants as named
use Rattle.mismatches.specs.declared.remark.PredefinedType.{PredefinedType}
use Rattle.mismatches.specs.declared.remark.PredefinedType.TheVariants as predefined
use Rattle.mismatches.specs.declared.remark.Remark.{Remark}
use Rattle.mismatches.specs.declared.remark.Remark.TheVariants as remark
use Rattle.diagnostics.specs.declared.hints.conversion.Conversion.{Conversion}
use Rattle.diagnostics.specs.hints.Conversions.{conversion_of, conversion_text}
use Rattle.diagnostics.specs.hints.Places.{name_at, place_text}
use Rattle.diagnostics.specs.hints.Stopped.{or_nameless}

abbrev pub predefined_name : PredefinedType → List ℕ
predefined_name predefined.Integer = codes "INTEGER"
predefined_name predefined.Boolean = codes "BOOLEAN"
predefined_name predefined.Time = codes "TIME"
predefined_name predefined.TimeSpan = codes "TIME_SPAN"

abbrev pub predefined_text : PredefinedType → List ℕ
predefined_text t = predefined_name t ++ codes ", of the language"

-- the name that stands at a place, and its line and column
abbrev pub declared_text : (text : List ℕ) → Tokens → (place : ℕ) → List ℕ
declared_text text ts place = or_nameless (name_at place ts) ++ codes ", declared at " ++ place_text text place

unfoldable pub type_text : (text : List ℕ) → Tokens → NamedType → List ℕ
type_text text ts (named.Declared place) = codes "type " ++ declared_text text ts place
type_text text ts (named.Predefined t) = codes "type " ++ predefined_text t
type_text text ts named.AnyInteger = codes "an integer type"
type_text text ts named.Discrete = codes "an integer type or BOOLEAN"
type_text text ts named.UniversalInteger = codes "type universal integer, that of a number"

unfoldable pub unexpected_lines : (text : List ℕ) → Tokens → (expected found : NamedType) → List ℕ
unexpected_lines text ts expected found =
    codes "expected " ++ type_text text ts expected ++ codes "\nfound " ++ type_text text ts found ++ codes "\n"

unfoldable pub left_part : (text : List ℕ) → Tokens → (left : NamedType) → List ℕ
left_part text ts left = codes "left operand: " ++ type_text text ts left

unfoldable pub right_part : (text : List ℕ) → Tokens → (right : NamedType) → List ℕ
right_part text ts right = codes "right operand: " ++ type_text text ts right

unfoldable pub operands_lines : (text : List ℕ) → Tokens → (left right : NamedType) → List ℕ
operands_lines text ts left right = left_part text ts left ++ codes "\n" ++ right_part text ts right ++ codes "\n"

unfoldable pub no_variable_line : List ℕ
no_variable_line = codes "expected a variable, for a formal parameter of mode out or in out\n"

abbrev pub remark_lines : (text : List ℕ) → Tokens → Remark → List ℕ
remark_lines text ts (remark.Unexpected expected found) = unexpected_lines text ts expected found
remark_lines text ts (remark.Operands left right) = operands_lines text ts left right
remark_lines text ts remark.NoVariable = no_variable_line
remark_lines text ts r = []

unfoldable pub advice_line : Conversion → List ℕ
advice_line conversion = codes "hint: " ++ conversion_text conversion ++ codes "\n"

abbrev pub conversion_lines : Option Conversion → List ℕ
conversion_lines (Some conversion) = advice_line conversion
conversion_lines None = []

abbrev pub advised_lines : (text : List ℕ) → Tokens → Remark → List ℕ
advised_lines text ts r = remark_lines text ts r ++ conversion_lines (conversion_of r ts)

-- nothing where there is no remark
abbrev pub mismatch_lines : (text : List ℕ) → Tokens → Option Remark → List ℕ
mismatch_lines text ts (Some r) = advised_lines text ts r
mismatch_lines text ts None = []
