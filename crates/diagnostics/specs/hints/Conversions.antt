-- What to write where types don't match, by these types (RM 4.5, 4.6, D.8).
use Rattle.std.specs.Prelude.{ℕ, suc, ◌&&◌, Bool, true, false, List, Option, Some, None, if◌then◌else◌}
use Rattle.lexer.specs.declared.token.TokenKind.{TokenKind}
use Rattle.lexer.specs.declared.token.TokenKind.TheVariants as kinds
use Rattle.lexer.specs.declared.word.Word.TheVariants as words
use Rattle.ada_tree.specs.Language.{Tokens}
use Rattle.mismatches.specs.declared.remark.NamedType.{NamedType}
use Rattle.mismatches.specs.declared.remark.NamedType.TheVariants as named
use Rattle.mismatches.specs.declared.remark.PredefinedType.TheVariants as predefined
use Rattle.mismatches.specs.declared.remark.Remark.{Remark}
use Rattle.mismatches.specs.declared.remark.Remark.TheVariants as remark
use Rattle.remedies.specs.Recognition.{count_before, kind_at}
use Rattle.diagnostics.specs.declared.hints.conversion.Conversion.{Conversion}
use Rattle.diagnostics.specs.declared.hints.conversion.Conversion.TheVariants as conversions
use Rattle.diagnostics.specs.declared.hints.conversion.TheConstants.{CONDITION_OF_NUMBER, NUMBER_OF_CONDITION, NUMBER_OF_NUMBER, NUMBER_OF_TIME, NUMBER_WITH_CONDITION, NUMBER_WITH_SPAN, NUMBER_WITH_TIME, SPAN_OF_NUMBER, SPAN_OF_TIME, TIME_OF_NUMBER, TIME_OF_SPAN, TWO_NUMBERS, TWO_SPANS, TWO_TIMES}
use Rattle.diagnostics.specs.declared.hints.conversion.TypeClass.{TypeClass}
use Rattle.diagnostics.specs.declared.hints.conversion.TypeClass.TheVariants as classes

abbrev pub is_is : Option TokenKind → Bool
is_is (Some (kinds.Word words.Is)) = true
is_is k = false

abbrev pub is_range : Option TokenKind → Bool
is_range (Some (kinds.Word words.Range)) = true
is_range k = false

-- `is range` follows the name that is declared at this place
abbrev pub is_range_type : (place : ℕ) → Tokens → Bool
is_range_type place ts = is_is (kind_at (suc (count_before place ts)) ts) && is_range (kind_at (suc (suc (count_before place ts))) ts)

abbrev pub declared_class : (place : ℕ) → Tokens → TypeClass
declared_class place ts = if is_range_type place ts then classes.Number else classes.Other

abbrev pub class_of : NamedType → Tokens → TypeClass
class_of (named.Declared place) ts = declared_class place ts
class_of (named.Predefined predefined.Integer) ts = classes.Number
class_of (named.Predefined predefined.Boolean) ts = classes.Boolean
class_of (named.Predefined predefined.Time) ts = classes.Time
class_of (named.Predefined predefined.TimeSpan) ts = classes.Span
class_of named.AnyInteger ts = classes.Number
class_of named.Discrete ts = classes.Other
class_of named.UniversalInteger ts = classes.Number

-- an expression of another type than is expected
abbrev pub expected_conversion : (expected found : TypeClass) → Option Conversion
expected_conversion classes.Time classes.Number = Some conversions.TimeOfNumber
expected_conversion classes.Time classes.Span = Some conversions.TimeOfSpan
expected_conversion classes.Span classes.Number = Some conversions.SpanOfNumber
expected_conversion classes.Span classes.Time = Some conversions.SpanOfTime
expected_conversion classes.Number classes.Time = Some conversions.NumberOfTime
expected_conversion classes.Number classes.Span = Some conversions.NumberOfTime
expected_conversion classes.Number classes.Number = Some conversions.NumberOfNumber
expected_conversion classes.Number classes.Boolean = Some conversions.NumberOfCondition
expected_conversion classes.Boolean classes.Number = Some conversions.ConditionOfNumber
expected_conversion expected found = None

-- the operands of an operator
abbrev pub operands_conversion : (left right : TypeClass) → Option Conversion
operands_conversion classes.Time classes.Number = Some conversions.NumberWithTime
operands_conversion classes.Number classes.Time = Some conversions.NumberWithTime
operands_conversion classes.Span classes.Number = Some conversions.NumberWithSpan
operands_conversion classes.Number classes.Span = Some conversions.NumberWithSpan
operands_conversion classes.Span classes.Span = Some conversions.TwoSpans
operands_conversion classes.Time classes.Time = Some conversions.TwoTimes
operands_conversion classes.Number classes.Number = Some conversions.TwoNumbers
operands_conversion classes.Number classes.Boolean = Some conversions.NumberWithCondition
operands_conversion classes.Boolean classes.Number = Some conversions.NumberWithCondition
operands_conversion left right = None

abbrev pub conversion_of : Remark → Tokens → Option Conversion
conversion_of (remark.Unexpected expected found) ts = expected_conversion (class_of expected ts) (class_of found ts)
conversion_of (remark.Operands left right) ts = operands_conversion (class_of left ts) (class_of right ts)
conversion_of r ts = None

abbrev pub conversion_text : Conversion → List ℕ
conversion_text conversions.TimeOfNumber = TIME_OF_NUMBER.now
conversion_text conversions.TimeOfSpan = TIME_OF_SPAN.now
conversion_text conversions.SpanOfNumber = SPAN_OF_NUMBER.now
conversion_text conversions.SpanOfTime = SPAN_OF_TIME.now
conversion_text conversions.NumberOfTime = NUMBER_OF_TIME.now
conversion_text conversions.NumberOfNumber = NUMBER_OF_NUMBER.now
conversion_text conversions.NumberOfCondition = NUMBER_OF_CONDITION.now
conversion_text conversions.ConditionOfNumber = CONDITION_OF_NUMBER.now
conversion_text conversions.NumberWithTime = NUMBER_WITH_TIME.now
conversion_text conversions.NumberWithSpan = NUMBER_WITH_SPAN.now
conversion_text conversions.TwoSpans = TWO_SPANS.now
conversion_text conversions.TwoTimes = TWO_TIMES.now
conversion_text conversions.TwoNumbers = TWO_NUMBERS.now
conversion_text conversions.NumberWithCondition = NUMBER_WITH_CONDITION.now
