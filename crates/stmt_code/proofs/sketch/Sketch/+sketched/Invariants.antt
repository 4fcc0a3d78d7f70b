use Rattle.std.proofs.Common.{◌≡◌, ◌∷◌, [], ℕ, List, drop}
use Rattle.ada_tree.specs.StatementTree.{alternative_trees, elsif_trees, handler_trees, stmt_trees}
use Rattle.stmt_code.specs.Drafting.{ClosesTo, OpensParts, Sketched, adds}
use Rattle.stmt_code.specs.StatementCode.{alternatives_code, elsifs_code, handlers_code, site, stmts_code}
use Rattle.stmt_code.specs.Timely.{alternatives_timely, elsifs_timely, handlers_timely, stmts_timely}
use Rattle.stmt_code.proofs.BranchesMade.{AlternativesClose, HandlersClose}
use Rattle.stmt_code.proofs.sketch.Sketch.+sketched.Given as goal

abbrev pub invariant-statements-loop-statement : goal.invariant-statements-loop-statement
invariant-statements-loop-statement l =
    let c = site l.fn.visible l.leaving l.taken l.exceptions in
    (adds l.self (stmts_code c (stmt_trees (drop l.statement-index l.all))) ≡ adds l.fn.self (stmts_code c (stmt_trees l.all)))
    × (l.visible ≡ l.fn.visible)
    × (stmts_timely l.fn.visible.scope (stmt_trees (drop l.statement-index l.all)) → stmts_timely l.fn.visible.scope (stmt_trees l.all))

abbrev pub invariant-elsifs-loop-part : goal.invariant-elsifs-loop-part
invariant-elsifs-loop-part l =
    let c = site l.fn.visible l.leaving l.taken l.exceptions in
    ((final : Sketched) (places : List ℕ) → OpensParts l.self l.waiting.items (elsifs_code c (elsif_trees (drop l.part-index l.elsifs))) final places
    → OpensParts l.fn.self l.fn.waiting.items (elsifs_code c (elsif_trees l.elsifs)) final places)
    × (l.visible ≡ l.fn.visible)
    × (elsifs_timely l.fn.visible.scope (elsif_trees (drop l.part-index l.elsifs)) → elsifs_timely l.fn.visible.scope (elsif_trees l.elsifs))

abbrev pub invariant-alternatives-loop-alternative : goal.invariant-alternatives-loop-alternative
invariant-alternatives-loop-alternative l =
    let c = site l.fn.visible l.leaving l.taken l.exceptions in
    AlternativesClose c l.self l.waiting.items (drop l.alternative-index l.all) (adds l.fn.self (alternatives_code c (alternative_trees l.all)))
    × (l.visible ≡ l.fn.visible)
    × (alternatives_timely l.fn.visible.scope (alternative_trees (drop l.alternative-index l.all))
    → alternatives_timely l.fn.visible.scope (alternative_trees l.all))

abbrev pub invariant-handlers-loop-handler : goal.invariant-handlers-loop-handler
invariant-handlers-loop-handler l =
    let c = site l.fn.visible l.fn.leaving l.taken l.exceptions in
    ((whole : Sketched) → ClosesTo l.fn.self (l.jump ∷ []) (handlers_code c l.cover [] (handler_trees l.all)) whole
    → HandlersClose c l.cover l.self l.waiting.items l.own.items (drop l.handler-index l.all) whole)
    × (l.visible ≡ l.fn.visible)
    × (handlers_timely l.fn.visible.scope (handler_trees (drop l.handler-index l.all)) → handlers_timely l.fn.visible.scope (handler_trees l.all))
