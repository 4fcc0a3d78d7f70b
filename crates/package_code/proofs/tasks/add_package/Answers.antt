use Rattle.std.proofs.Common.{map, sym, subst}
use Rattle.ada_tree.specs.ProgramTree.{body_item_tree, item_tree, program_tree}
use Rattle.expr_soundness.specs.meaning.specs.Programs.{items_among}
use Rattle.package_code.specs.Tasks.{AddsTasks, AreKnownTasks}
use Rattle.package_code.proofs.TasksAdded.{adds_then, known_left, known_right}
use Rattle.package_code.proofs.tasks.add_package.Goals as goal

pub add_items-requires-clause-known : goal.add_items-requires-clause-known
add_items-requires-clause-known c =
    let p = c.args.package_.now in
    let t = program_tree c.args.accepted.now in
    subst (λ l. AreKnownTasks t (map item_tree l)) (sym c.deref.ensures.value)
    (known_left t (map item_tree p.declaration.items.items) (items_among (map body_item_tree p.body.items.items)) c.requires.known)

pub add_body_items-requires-clause-known : goal.add_body_items-requires-clause-known
add_body_items-requires-clause-known c =
    let p = c.args.package_.now in
    let t = program_tree c.args.accepted.now in
    subst (λ l. AreKnownTasks t (items_among (map body_item_tree l))) (sym c.deref-2.ensures.value)
    (known_right t (map item_tree p.declaration.items.items) (items_among (map body_item_tree p.body.items.items)) c.requires.known)

pub returns-clause-adds : goal.returns-clause-adds
returns-clause-adds c =
    let p = c.args.package_.now in
    let t = program_tree c.args.accepted.now in
    let old = c.args.tasks.now.items in
    let mid = c.add_items.new.tasks.items in
    let new = c.add_body_items.new.tasks.items in
    adds_then t old mid new (map item_tree p.declaration.items.items) (items_among (map body_item_tree p.body.items.items))
    (subst (λ l. AddsTasks t old (map item_tree l) mid) c.deref.ensures.value c.in_ok-add_items.ensures.adds)
    (subst (λ l. AddsTasks t mid (items_among (map body_item_tree l)) new) c.deref-2.ensures.value c.in_ok-add_body_items.ensures.adds)
