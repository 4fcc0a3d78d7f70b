use Rattle.std.proofs.Common.{◌+◌, ◌*◌, length, map}
use Rattle.ada2012_tree.specs.Spans.{trees_of}
use Rattle.ada2012_tree.specs.StatementSpans.{alternative_spans, branch_spans, declaration_spans, handler_spans, statement_spans}
use Rattle.ada2012_parser.specs.Reading.{Reads, ReadsSome, here}
use Rattle.ada2012_parser.proofs.parser.Parser.+statement.Given as goal

abbrev pub decreases-block_after : goal.decreases-block_after
decreases-block_after l = 16 * l.levels + 0

abbrev pub decreases-case : goal.decreases-case
decreases-case l = 16 * l.levels + 0

abbrev pub decreases-entry_body : goal.decreases-entry_body
decreases-entry_body l = 16 * l.levels + 0

abbrev pub decreases-if_statement : goal.decreases-if_statement
decreases-if_statement l = 16 * l.levels + 0

abbrev pub decreases-loop_after : goal.decreases-loop_after
decreases-loop_after l = 16 * l.levels + 0

abbrev pub decreases-protected_body : goal.decreases-protected_body
decreases-protected_body l = 16 * l.levels + 0

abbrev pub decreases-subprogram_body : goal.decreases-subprogram_body
decreases-subprogram_body l = 16 * l.levels + 0

abbrev pub decreases-task_body : goal.decreases-task_body
decreases-task_body l = 16 * l.levels + 0

abbrev pub decreases-completed : goal.decreases-completed
decreases-completed l = 16 * l.levels + 1

abbrev pub decreases-compound_after : goal.decreases-compound_after
decreases-compound_after l = 16 * l.levels + 1

abbrev pub decreases-protected : goal.decreases-protected
decreases-protected l = 16 * l.levels + 1

abbrev pub decreases-task : goal.decreases-task
decreases-task l = 16 * l.levels + 1

abbrev pub decreases-labelled : goal.decreases-labelled
decreases-labelled l = 16 * l.levels + 2

abbrev pub decreases-subprogram : goal.decreases-subprogram
decreases-subprogram l = 16 * l.levels + 2

abbrev pub decreases-declaration : goal.decreases-declaration
decreases-declaration l = 16 * l.levels + 3

abbrev pub decreases-protected_body_item : goal.decreases-protected_body_item
decreases-protected_body_item l = 16 * l.levels + 3

abbrev pub decreases-statement : goal.decreases-statement
decreases-statement l = 16 * l.levels + 3

abbrev pub decreases-declarations : goal.decreases-declarations
decreases-declarations l = 16 * l.levels + 4

abbrev pub decreases-protected_body_items : goal.decreases-protected_body_items
decreases-protected_body_items l = 16 * l.levels + 4

abbrev pub decreases-sequence : goal.decreases-sequence
decreases-sequence l = 16 * l.levels + 4

abbrev pub decreases-alternative : goal.decreases-alternative
decreases-alternative l = 16 * l.levels + 5

abbrev pub decreases-begun : goal.decreases-begun
decreases-begun l = 16 * l.levels + 5

abbrev pub decreases-branch : goal.decreases-branch
decreases-branch l = 16 * l.levels + 5

abbrev pub decreases-else_part : goal.decreases-else_part
decreases-else_part l = 16 * l.levels + 5

abbrev pub decreases-handler : goal.decreases-handler
decreases-handler l = 16 * l.levels + 5

abbrev pub decreases-alternatives : goal.decreases-alternatives
decreases-alternatives l = 16 * l.levels + 6

abbrev pub decreases-branches : goal.decreases-branches
decreases-branches l = 16 * l.levels + 6

abbrev pub decreases-handler_list : goal.decreases-handler_list
decreases-handler_list l = 16 * l.levels + 6

abbrev pub decreases-handlers : goal.decreases-handlers
decreases-handlers l = 16 * l.levels + 7

abbrev pub decreases-body : goal.decreases-body
decreases-body l = 16 * l.levels + 8

abbrev pub invariant-sequence-loop-self : goal.invariant-sequence-loop-self
invariant-sequence-loop-self l = ReadsSome (here l.fn.self) l.fn.self l.self (trees_of (map statement_spans l.all.items))

abbrev pub decreases-sequence-loop-self : goal.decreases-sequence-loop-self
decreases-sequence-loop-self l = length l.self.rest.now

abbrev pub invariant-branches-loop-self : goal.invariant-branches-loop-self
invariant-branches-loop-self l = ReadsSome (here l.fn.self) l.fn.self l.self (trees_of (map branch_spans l.all.items))

abbrev pub decreases-branches-loop-self : goal.decreases-branches-loop-self
decreases-branches-loop-self l = length l.self.rest.now

abbrev pub invariant-alternatives-loop-self : goal.invariant-alternatives-loop-self
invariant-alternatives-loop-self l = ReadsSome (here l.fn.self) l.fn.self l.self (trees_of (map alternative_spans l.all.items))

abbrev pub decreases-alternatives-loop-self : goal.decreases-alternatives-loop-self
decreases-alternatives-loop-self l = length l.self.rest.now

abbrev pub invariant-handler_list-loop-self : goal.invariant-handler_list-loop-self
invariant-handler_list-loop-self l = ReadsSome (here l.fn.self) l.fn.self l.self (trees_of (map handler_spans l.all.items))

abbrev pub decreases-handler_list-loop-self : goal.decreases-handler_list-loop-self
decreases-handler_list-loop-self l = length l.self.rest.now

abbrev pub invariant-protected_body_items-loop-self : goal.invariant-protected_body_items-loop-self
invariant-protected_body_items-loop-self l = Reads (here l.fn.self) l.fn.self l.self (trees_of (map declaration_spans l.all.items))

abbrev pub decreases-protected_body_items-loop-self : goal.decreases-protected_body_items-loop-self
decreases-protected_body_items-loop-self l = length l.self.rest.now

abbrev pub invariant-declarations-loop-self : goal.invariant-declarations-loop-self
invariant-declarations-loop-self l = Reads (here l.fn.self) l.fn.self l.self (trees_of (map declaration_spans l.all.items))

abbrev pub decreases-declarations-loop-self : goal.decreases-declarations-loop-self
decreases-declarations-loop-self l = length l.self.rest.now
