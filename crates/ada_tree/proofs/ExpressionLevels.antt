-- An expression's depth is what a limit of levels cuts its spellings off at.
use Rattle.ada_tree.specs.ExpressionTree.{ExprTree, Number, Named, Parenthesized, Conditional, Unary, Binary, ElsifValueTrees, NoElsifValues, MoreElsifValues, SelectorTrees, NoSelectors, MoreSelectors, SelectorTree, Component, Arguments, Attribute, ArgumentTrees, NoArguments, MoreArguments, ArgumentTree, Value, Text, NameTree}
use Rattle.ada_tree.specs.ExpressionGrammar.{Production, derives, expression, spells_name, made, spells_elsif_values, spells_selectors, spells_selector, spells_arguments, spells_further_arguments, spells_argument}
use Rattle.ada_tree.specs.Depth.{expr_depth, elsif_values_depth, selectors_depth, selector_depth, arguments_depth, argument_depth, name_depth}
use Rattle.ada_tree.proofs.Levels.{Levels, always, after, before, both, tested, opened, none, paired}

mutual
  pub made_levels : (e : ExprTree) → Levels (expr_depth e) (made e)
  made_levels (Number value place) = always
  made_levels (Named first selectors) = after (selectors_levels selectors)
  made_levels (Parenthesized place e) = opened (after (before (tested (made_levels e))))
  made_levels (Conditional place condition value elsif_values else_value) =
      opened (after (before (opened (after (both (tested (made_levels condition)) (after (both (tested (made_levels value)) (both (elsif_values_levels elsif_values) (after (tested (made_levels else_value)))))))))))
  made_levels (Unary o place operand) = after (tested (made_levels operand))
  made_levels (Binary o left right) = both (tested (made_levels left)) (after (tested (made_levels right)))

  pub elsif_values_levels : (e : ElsifValueTrees) → Levels (elsif_values_depth e) (spells_elsif_values e)
  elsif_values_levels NoElsifValues = always
  elsif_values_levels (MoreElsifValues condition value rest) =
      paired (expr_depth condition) (expr_depth value) (elsif_values_depth rest) (both (after (both (tested (made_levels condition)) (after (tested (made_levels value))))) (elsif_values_levels rest))

  pub selectors_levels : (s : SelectorTrees) → Levels (selectors_depth s) (spells_selectors s)
  selectors_levels NoSelectors = always
  selectors_levels (MoreSelectors one rest) = both (selector_levels one) (selectors_levels rest)

  pub selector_levels : (s : SelectorTree) → Levels (selector_depth s) (spells_selector s)
  selector_levels (Component name) = always
  selector_levels (Arguments arguments) = opened (after (before (arguments_levels arguments)))
  selector_levels (Attribute name) = always

  pub arguments_levels : (a : ArgumentTrees) → Levels (arguments_depth a) (spells_arguments a)
  arguments_levels NoArguments = none (λ l ts h. h)
  arguments_levels (MoreArguments one rest) = both (argument_levels one) (further_arguments_levels rest)

  pub further_arguments_levels : (a : ArgumentTrees) → Levels (arguments_depth a) (spells_further_arguments a)
  further_arguments_levels NoArguments = always
  further_arguments_levels (MoreArguments one rest) = both (after (argument_levels one)) (further_arguments_levels rest)

  pub argument_levels : (a : ArgumentTree) → Levels (argument_depth a) (spells_argument a)
  argument_levels (Value e) = tested (made_levels e)
  argument_levels (Text label place) = always

pub name_levels : (n : NameTree) → Levels (name_depth n) (λ l. spells_name l n)
name_levels n = after (selectors_levels n.selectors)

pub derives_levels : (n : Production) (e : ExprTree) → Levels (expr_depth e) (λ l. derives n l e)
derives_levels n e = tested (made_levels e)

pub expression_levels : (e : ExprTree) → Levels (expr_depth e) (λ l. expression l e)
expression_levels e = tested (made_levels e)
