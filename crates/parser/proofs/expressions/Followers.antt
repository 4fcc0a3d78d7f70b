-- What cannot follow the expressions of declarations and statements.
use Rattle.std.proofs.Common.{Option}
use Rattle.lexer.specs.declared.token.Token.{Token}
use Rattle.parser.specs.ExpressionReading.{starts_selector}
use Rattle.parser.proofs.general.Several.{Ends}
use Rattle.parser.proofs.expressions.Expressions.{continues_expression, continues_simple}

abbrev pub NameStops : Option Token → Type 0
NameStops = Ends starts_selector

abbrev pub SimpleStops : Option Token → Type 0
SimpleStops = Ends continues_simple

abbrev pub ExpressionStops : Option Token → Type 0
ExpressionStops = Ends continues_expression
