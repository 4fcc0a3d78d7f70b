use Rattle.std.proofs.Common.{◌+◌, ◌*◌, length, map}
use Rattle.ada2012_tree.specs.Spans.{trees_of}
use Rattle.ada2012_tree.specs.ExpressionSpans.{association_spans, choice_spans, condition_spans, operand_spans, selector_spans}
use Rattle.ada2012_parser.specs.Reading.{Reads, ReadsSome, here}
use Rattle.ada2012_parser.proofs.parser.Parser.+expression.Given as goal

abbrev pub decreases-parenthesis : goal.decreases-parenthesis
decreases-parenthesis l = 32 * l.levels + 0

abbrev pub decreases-arguments : goal.decreases-arguments
decreases-arguments l = 32 * l.levels + 0

abbrev pub decreases-qualification : goal.decreases-qualification
decreases-qualification l = 32 * l.levels + 1

abbrev pub decreases-selector : goal.decreases-selector
decreases-selector l = 32 * l.levels + 2

abbrev pub decreases-selectors : goal.decreases-selectors
decreases-selectors l = 32 * l.levels + 3

abbrev pub decreases-name : goal.decreases-name
decreases-name l = 32 * l.levels + 4

abbrev pub decreases-named_primary : goal.decreases-named_primary
decreases-named_primary l = 32 * l.levels + 5

abbrev pub decreases-primary : goal.decreases-primary
decreases-primary l = 32 * l.levels + 6

abbrev pub decreases-modified : goal.decreases-modified
decreases-modified l = 32 * l.levels + 7

abbrev pub decreases-power : goal.decreases-power
decreases-power l = 32 * l.levels + 7

abbrev pub decreases-factor : goal.decreases-factor
decreases-factor l = 32 * l.levels + 8

abbrev pub decreases-multiplied : goal.decreases-multiplied
decreases-multiplied l = 32 * l.levels + 9

abbrev pub decreases-factors : goal.decreases-factors
decreases-factors l = 32 * l.levels + 10

abbrev pub decreases-term : goal.decreases-term
decreases-term l = 32 * l.levels + 11

abbrev pub decreases-signed_term : goal.decreases-signed_term
decreases-signed_term l = 32 * l.levels + 12

abbrev pub decreases-added : goal.decreases-added
decreases-added l = 32 * l.levels + 12

abbrev pub decreases-signed : goal.decreases-signed
decreases-signed l = 32 * l.levels + 13

abbrev pub decreases-terms : goal.decreases-terms
decreases-terms l = 32 * l.levels + 13

abbrev pub decreases-simple : goal.decreases-simple
decreases-simple l = 32 * l.levels + 14

abbrev pub decreases-compared : goal.decreases-compared
decreases-compared l = 32 * l.levels + 15

abbrev pub decreases-choice_after : goal.decreases-choice_after
decreases-choice_after l = 32 * l.levels + 15

abbrev pub decreases-member : goal.decreases-member
decreases-member l = 32 * l.levels + 16

abbrev pub decreases-members : goal.decreases-members
decreases-members l = 32 * l.levels + 17

abbrev pub decreases-tested : goal.decreases-tested
decreases-tested l = 32 * l.levels + 18

abbrev pub decreases-related : goal.decreases-related
decreases-related l = 32 * l.levels + 19

abbrev pub decreases-relation : goal.decreases-relation
decreases-relation l = 32 * l.levels + 20

abbrev pub decreases-joined_by : goal.decreases-joined_by
decreases-joined_by l = 32 * l.levels + 21

abbrev pub decreases-joined_alike : goal.decreases-joined_alike
decreases-joined_alike l = 32 * l.levels + 21

abbrev pub decreases-relations : goal.decreases-relations
decreases-relations l = 32 * l.levels + 22

abbrev pub decreases-expression : goal.decreases-expression
decreases-expression l = 32 * l.levels + 23

abbrev pub decreases-choice : goal.decreases-choice
decreases-choice l = 32 * l.levels + 24

abbrev pub decreases-associated : goal.decreases-associated
decreases-associated l = 32 * l.levels + 24

abbrev pub decreases-condition : goal.decreases-condition
decreases-condition l = 32 * l.levels + 24

abbrev pub decreases-more_choices : goal.decreases-more_choices
decreases-more_choices l = 32 * l.levels + 25

abbrev pub decreases-conditions : goal.decreases-conditions
decreases-conditions l = 32 * l.levels + 25

abbrev pub decreases-named_association : goal.decreases-named_association
decreases-named_association l = 32 * l.levels + 26

abbrev pub decreases-conditional : goal.decreases-conditional
decreases-conditional l = 32 * l.levels + 26

abbrev pub decreases-association_after : goal.decreases-association_after
decreases-association_after l = 32 * l.levels + 27

abbrev pub decreases-association : goal.decreases-association
decreases-association l = 32 * l.levels + 28

abbrev pub decreases-more_associations : goal.decreases-more_associations
decreases-more_associations l = 32 * l.levels + 29

abbrev pub decreases-association_list : goal.decreases-association_list
decreases-association_list l = 32 * l.levels + 30

abbrev pub decreases-aggregate : goal.decreases-aggregate
decreases-aggregate l = 32 * l.levels + 30

abbrev pub decreases-enclosed : goal.decreases-enclosed
decreases-enclosed l = 32 * l.levels + 31

abbrev pub invariant-selectors-loop-self : goal.invariant-selectors-loop-self
invariant-selectors-loop-self l = Reads (here l.fn.self) l.fn.self l.self (trees_of (map selector_spans l.all.items))

abbrev pub decreases-selectors-loop-self : goal.decreases-selectors-loop-self
decreases-selectors-loop-self l = length l.self.rest.now

abbrev pub invariant-more_choices-loop-self : goal.invariant-more_choices-loop-self
invariant-more_choices-loop-self l = Reads l.start l.fn.self l.self (trees_of (map choice_spans l.all.items))

abbrev pub decreases-more_choices-loop-self : goal.decreases-more_choices-loop-self
decreases-more_choices-loop-self l = length l.self.rest.now

abbrev pub invariant-more_associations-loop-self : goal.invariant-more_associations-loop-self
invariant-more_associations-loop-self l = Reads l.start l.fn.self l.self (trees_of (map association_spans l.all.items))

abbrev pub decreases-more_associations-loop-self : goal.decreases-more_associations-loop-self
decreases-more_associations-loop-self l = length l.self.rest.now

abbrev pub invariant-conditions-loop-self : goal.invariant-conditions-loop-self
invariant-conditions-loop-self l = ReadsSome (here l.fn.self) l.fn.self l.self (trees_of (map condition_spans l.all.items))

abbrev pub decreases-conditions-loop-self : goal.decreases-conditions-loop-self
decreases-conditions-loop-self l = length l.self.rest.now

abbrev pub invariant-members-loop-self : goal.invariant-members-loop-self
invariant-members-loop-self l = ReadsSome (here l.fn.self) l.fn.self l.self (trees_of (map choice_spans l.all.items))

abbrev pub decreases-members-loop-self : goal.decreases-members-loop-self
decreases-members-loop-self l = length l.self.rest.now

abbrev pub invariant-factors-loop-operator : goal.invariant-factors-loop-operator
invariant-factors-loop-operator l = Reads (here l.fn.self) l.fn.self l.self (trees_of (map operand_spans l.all.items))

abbrev pub decreases-factors-loop-operator : goal.decreases-factors-loop-operator
decreases-factors-loop-operator l = length l.self.rest.now

abbrev pub invariant-terms-loop-operator : goal.invariant-terms-loop-operator
invariant-terms-loop-operator l = Reads (here l.fn.self) l.fn.self l.self (trees_of (map operand_spans l.all.items))

abbrev pub decreases-terms-loop-operator : goal.decreases-terms-loop-operator
decreases-terms-loop-operator l = length l.self.rest.now

abbrev pub invariant-relations-loop-operator : goal.invariant-relations-loop-operator
invariant-relations-loop-operator l = ReadsSome (here l.fn.self) l.fn.self l.self (trees_of (map operand_spans l.all.items))

abbrev pub decreases-relations-loop-operator : goal.decreases-relations-loop-operator
decreases-relations-loop-operator l = length l.self.rest.now
