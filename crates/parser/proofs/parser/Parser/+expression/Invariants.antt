use Rattle.std.proofs.Common.{◌≡◌, ℕ, ◌+◌, ◌*◌, ◌≤◌, length, map}
use Rattle.lexer.specs.declared.delimiter.Delimiter.TheVariants as marks
use Rattle.lexer.specs.declared.word.Word.TheVariants as words
use Rattle.ada_tree.specs.ExpressionTree.{expr_tree, selector_tree, argument_tree, elsif_value_tree}
use Rattle.parser.specs.Reading.{is_word, is_mark, seq, mapped, skip_mark}
use Rattle.parser.specs.ExpressionReading as reading
use Rattle.parser.proofs.general.Loops.{still, pushed}
use Rattle.parser.proofs.parser.Parser.+expression.Given as goal

abbrev pub decreases-arguments : goal.decreases-arguments
decreases-arguments l = 29 * l.levels + 0

abbrev pub decreases-selector : goal.decreases-selector
decreases-selector l = 29 * l.levels + 1

abbrev pub decreases-selectors : goal.decreases-selectors
decreases-selectors l = 29 * l.levels + 2

abbrev pub decreases-name : goal.decreases-name
decreases-name l = 29 * l.levels + 3

abbrev pub decreases-named_primary : goal.decreases-named_primary
decreases-named_primary l = 29 * l.levels + 4

abbrev pub decreases-conditional : goal.decreases-conditional
decreases-conditional l = 29 * l.levels + 5

abbrev pub decreases-parenthesis : goal.decreases-parenthesis
decreases-parenthesis l = 29 * l.levels + 6

abbrev pub decreases-open_primary : goal.decreases-open_primary
decreases-open_primary l = 29 * l.levels + 7

abbrev pub decreases-primary : goal.decreases-primary
decreases-primary l = 29 * l.levels + 8

abbrev pub decreases-modified : goal.decreases-modified
decreases-modified l = 29 * l.levels + 9

abbrev pub decreases-factor : goal.decreases-factor
decreases-factor l = 29 * l.levels + 10

abbrev pub decreases-product : goal.decreases-product
decreases-product l = 29 * l.levels + 11

abbrev pub decreases-term : goal.decreases-term
decreases-term l = 29 * l.levels + 12

abbrev pub decreases-negated : goal.decreases-negated
decreases-negated l = 29 * l.levels + 13

abbrev pub decreases-signed : goal.decreases-signed
decreases-signed l = 29 * l.levels + 14

abbrev pub decreases-sum : goal.decreases-sum
decreases-sum l = 29 * l.levels + 15

abbrev pub decreases-simple : goal.decreases-simple
decreases-simple l = 29 * l.levels + 16

abbrev pub decreases-compared : goal.decreases-compared
decreases-compared l = 29 * l.levels + 17

abbrev pub decreases-related : goal.decreases-related
decreases-related l = 29 * l.levels + 18

abbrev pub decreases-relation : goal.decreases-relation
decreases-relation l = 29 * l.levels + 19

abbrev pub decreases-chain : goal.decreases-chain
decreases-chain l = 29 * l.levels + 20

abbrev pub decreases-combined : goal.decreases-combined
decreases-combined l = 29 * l.levels + 21

abbrev pub decreases-completed : goal.decreases-completed
decreases-completed l = 29 * l.levels + 22

abbrev pub decreases-expression : goal.decreases-expression
decreases-expression l = 29 * l.levels + 23

abbrev pub decreases-argument : goal.decreases-argument
decreases-argument l = 29 * l.levels + 24

abbrev pub decreases-argument_list : goal.decreases-argument_list
decreases-argument_list l = 29 * l.levels + 25

abbrev pub decreases-elsif_value : goal.decreases-elsif_value
decreases-elsif_value l = 29 * l.levels + 26

abbrev pub decreases-elsif_values : goal.decreases-elsif_values
decreases-elsif_values l = 29 * l.levels + 27

abbrev pub decreases-enclosed : goal.decreases-enclosed
decreases-enclosed l = 29 * l.levels + 28

abbrev pub invariant-argument_list-loop-self : goal.invariant-argument_list-loop-self
invariant-argument_list-loop-self l =
    (n : ℕ) × (length l.self.rest.now ≤ n)
    × (still pushed (is_mark marks.Comma) (mapped (λ x. x.1) (seq (skip_mark marks.Comma) (reading.argument_in (reading.values_at l.levels)))) n
    (map argument_tree l.all.items) l.self.rest.now ≡ reading.arguments_list (reading.values_at l.levels) l.fn.self.rest.now)

abbrev pub decreases-argument_list-loop-self : goal.decreases-argument_list-loop-self
decreases-argument_list-loop-self l = length l.self.rest.now

abbrev pub invariant-selectors-loop-self : goal.invariant-selectors-loop-self
invariant-selectors-loop-self l =
    (n : ℕ) × (length l.self.rest.now ≤ n)
    × (still pushed reading.begins_selector (reading.selector_in (reading.values l.levels)) n (map selector_tree l.all.items) l.self.rest.now
    ≡ reading.selectors_in (reading.values l.levels) l.fn.self.rest.now)

abbrev pub decreases-selectors-loop-self : goal.decreases-selectors-loop-self
decreases-selectors-loop-self l = length l.self.rest.now

abbrev pub invariant-elsif_values-loop-self : goal.invariant-elsif_values-loop-self
invariant-elsif_values-loop-self l =
    (n : ℕ) × (length l.self.rest.now ≤ n)
    × (still pushed (is_word words.Elsif) (reading.elsif_value_in (reading.values_at l.levels)) n (map elsif_value_tree l.all.items) l.self.rest.now
    ≡ reading.elsif_values_in (reading.values_at l.levels) l.fn.self.rest.now)

abbrev pub decreases-elsif_values-loop-self : goal.decreases-elsif_values-loop-self
decreases-elsif_values-loop-self l = length l.self.rest.now

abbrev pub invariant-product-loop-operator : goal.invariant-product-loop-operator
invariant-product-loop-operator l =
    let a = reading.factor_in (reading.values l.levels) in
    (n : ℕ) × (length l.self.rest.now ≤ n)
    × (still reading.joined (reading.begins reading.multiplying) (seq (reading.operator_of reading.multiplying) a) n (expr_tree l.left) l.self.rest.now
    ≡ reading.chained reading.multiplying a (expr_tree l.fn.first) l.fn.self.rest.now)

abbrev pub decreases-product-loop-operator : goal.decreases-product-loop-operator
decreases-product-loop-operator l = length l.self.rest.now

abbrev pub invariant-sum-loop-operator : goal.invariant-sum-loop-operator
invariant-sum-loop-operator l =
    let a = reading.term_in (reading.values l.levels) in
    (n : ℕ) × (length l.self.rest.now ≤ n)
    × (still reading.joined (reading.begins reading.adding) (seq (reading.operator_of reading.adding) a) n (expr_tree l.left) l.self.rest.now
    ≡ reading.chained reading.adding a (expr_tree l.fn.first) l.fn.self.rest.now)

abbrev pub decreases-sum-loop-operator : goal.decreases-sum-loop-operator
decreases-sum-loop-operator l = length l.self.rest.now

abbrev pub invariant-chain-loop-operator : goal.invariant-chain-loop-operator
invariant-chain-loop-operator l =
    (n : ℕ) × (length l.self.rest.now ≤ n)
    × (still (reading.operated l.operator) (is_word (reading.first_word l.operator))
    (mapped (λ x. x.1) (seq (reading.repeated l.operator) (reading.relation_in (reading.values l.levels)))) n (expr_tree l.all) l.self.rest.now
    ≡ reading.logical_chain (reading.values l.levels) (expr_tree l.fn.left) l.operator l.fn.self.rest.now)

abbrev pub decreases-chain-loop-operator : goal.decreases-chain-loop-operator
decreases-chain-loop-operator l = length l.self.rest.now
