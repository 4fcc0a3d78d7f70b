-- An expression has at most as many nodes as each of its spellings has tokens.
use Rattle.std.proofs.Common.{◌≡◌, ap, ℕ, suc, ◌+◌, ◌≤◌, ◌++◌, length, length-append, arith}
use Rattle.ada_tree.specs.declared.expression.BinaryOperator.{BinaryOperator}
use Rattle.ada_tree.specs.declared.expression.BinaryOperator.TheVariants as binary
use Rattle.ada_tree.specs.ExpressionTree.{ExprTree, Number, Named, Parenthesized, Conditional, Unary, Binary, ElsifValueTrees, NoElsifValues, MoreElsifValues, SelectorTrees, NoSelectors, MoreSelectors, SelectorTree, Component, Arguments, Attribute, ArgumentTrees, NoArguments, MoreArguments, ArgumentTree, Value, Text, NameTree}
use Rattle.ada_tree.specs.Language.{Tokens, ◌⨾◌, Limit}
use Rattle.ada_tree.specs.ExpressionGrammar.{Production, derives, expression, spells_name, operator, made, spells_elsif_values, spells_selectors, spells_selector, spells_arguments, spells_further_arguments, spells_argument}
use Rattle.ada_tree.specs.Size.{expr_size, elsif_values_size, selectors_size, selector_size, arguments_size, argument_size, name_size}
use Rattle.ada_tree.proofs.Counts.{AtLeast, free, one, one_at, fewer, joins, later, sooner, tested, opened}

an_operator : (o : BinaryOperator) → AtLeast 1 (operator o)
an_operator binary.AndThen = sooner one
an_operator binary.OrElse = sooner one
an_operator _ = one

-- Each list of the language has at least n tokens, together with the one before it: an argument counts that one.
record AllButOne (n : ℕ) (p : Tokens → Type 0) : Type 0 where
  nearly : (ts : Tokens) → p ts → n ≤ suc (length ts)

joined : (m n : ℕ) (ts u v : Tokens) → ts ≡ u ++ v → m ≤ suc (length u) → n ≤ length v → m + n ≤ suc (length ts)
joined m n ts u v e x y = omega (arith, ap length e, length-append u v, x, y)

first_and : {m n : ℕ} {p q : Tokens → Type 0} → AllButOne m p → AtLeast n q → AllButOne (m + n) (p ⨾ q)
first_and {m} {n} a b = record { nearly = λ ts h. joined m n ts h.0 h.1 h.2 (a.nearly h.0 h.3) (b.within h.1 h.4) }

followed : {m : ℕ} {p q : Tokens → Type 0} → AtLeast 1 p → AllButOne m q → AtLeast m (p ⨾ q)
followed {m} b a = record { within = λ ts h. omega (arith, ap length h.2, length-append h.0 h.1, b.within h.0 h.3, a.nearly h.1 h.4) }

ends : {m : ℕ} {p q : Tokens → Type 0} → AllButOne m p → AtLeast 1 q → AllButOne (suc m) (p ⨾ q)
ends {m} a b = record { nearly = λ ts h. omega (arith, ap length h.2, length-append h.0 h.1, a.nearly h.0 h.3, b.within h.1 h.4) }

mutual
  pub made_counts : (e : ExprTree) (l : Limit) → AtLeast (expr_size e) (made e l)
  made_counts (Number value place) l = one_at
  made_counts (Named first selectors) l = joins one_at (selectors_counts selectors l)
  made_counts (Parenthesized place e) l = opened (λ l. joins one_at (sooner (tested (made_counts e l)))) l
  made_counts (Conditional place condition value elsif_values else_value) l =
      opened (λ l. fewer (joins one_at (sooner (opened (λ l. later (joins (tested (made_counts condition l)) (later (joins (tested (made_counts value l)) (joins (elsif_values_counts elsif_values l) (later (tested (made_counts else_value l)))))))) l))) (omega arith)) l
  made_counts (Unary o place operand) l = joins one_at (tested (made_counts operand l))
  made_counts (Binary o left right) l = fewer (joins (tested (made_counts left l)) (joins (an_operator o) (tested (made_counts right l)))) (omega arith)

  pub elsif_values_counts : (e : ElsifValueTrees) (l : Limit) → AtLeast (elsif_values_size e) (spells_elsif_values e l)
  elsif_values_counts NoElsifValues l = free
  elsif_values_counts (MoreElsifValues condition value rest) l =
      fewer (joins (joins one (joins (tested (made_counts condition l)) (later (tested (made_counts value l))))) (elsif_values_counts rest l)) (omega arith)

  pub selectors_counts : (s : SelectorTrees) (l : Limit) → AtLeast (selectors_size s) (spells_selectors s l)
  selectors_counts NoSelectors l = free
  selectors_counts (MoreSelectors s rest) l = joins (selector_counts s l) (selectors_counts rest l)

  pub selector_counts : (s : SelectorTree) (l : Limit) → AtLeast (selector_size s) (spells_selector s l)
  selector_counts (Component name) l = sooner one
  selector_counts (Arguments arguments) l = opened (λ l. fewer (followed one (ends (arguments_counts arguments l) one)) (omega arith)) l
  selector_counts (Attribute name) l = sooner one

  arguments_counts : (a : ArgumentTrees) (l : Limit) → AllButOne (arguments_size a) (spells_arguments a l)
  arguments_counts NoArguments l = record { nearly = λ ts h. absurd h }
  arguments_counts (MoreArguments a rest) l = first_and (argument_counts a l) (further_arguments_counts rest l)

  further_arguments_counts : (a : ArgumentTrees) (l : Limit) → AtLeast (arguments_size a) (spells_further_arguments a l)
  further_arguments_counts NoArguments l = free
  further_arguments_counts (MoreArguments a rest) l = joins (followed one (argument_counts a l)) (further_arguments_counts rest l)

  argument_counts : (a : ArgumentTree) (l : Limit) → AllButOne (argument_size a) (spells_argument a l)
  argument_counts (Value e) l = record { nearly = λ ts h. omega (arith, (made_counts e l).within ts h.1) }
  argument_counts (Text label place) l = record { nearly = λ ts h. omega arith }

pub name_counts : (n : NameTree) (l : Limit) → AtLeast (name_size n) (spells_name l n)
name_counts n l = joins one_at (selectors_counts n.selectors l)

pub derives_counts : (n : Production) (e : ExprTree) (l : Limit) → AtLeast (expr_size e) (derives n l e)
derives_counts n e l = tested (made_counts e l)

pub expression_counts : (l : Limit) (e : ExprTree) → AtLeast (expr_size e) (expression l e)
expression_counts l e = tested (made_counts e l)
