-- The depth of a whole text is what a limit of levels cuts its spellings off at.
use Rattle.ada_tree.specs.StatementTree.{RangeTree}
use Rattle.ada_tree.specs.ProgramTree.{IndexTree, OfRange, OfSubtype, DefinitionTree, Integer, Array, Record, Subtype, BodyTree, ItemTree, OfType, OfObject, OfException, OfSubprogram, OfTask, OfProtected, ProtectedItemTree, OperationBody, EntryBody, BodyItemTree, OfItem, SubprogramBody, TaskBody, ProtectedBody, PackageTree, MainTree, ProgramTree}
use Rattle.ada_tree.specs.StatementGrammar.{aspect, declaration}
use Rattle.ada_tree.specs.ProgramGrammar.{index, constraint, type_declaration_of, item, body, protected_item, body_item, package_part, main, program}
use Rattle.ada_tree.specs.Depth.{range_depth, index_depth, definition_depth, item_depth, body_depth, protected_item_depth, body_item_depth, package_depth, main_depth, depth}
use Rattle.ada_tree.specs.Laws.{LimitIsDepth}
use Rattle.ada_tree.proofs.Levels.{Levels, always, after, before, both, opened, any, in_order}
use Rattle.ada_tree.proofs.ExpressionLevels.{expression_levels}
use Rattle.ada_tree.proofs.StatementLevels.{subprogram_levels, entry_levels, range_levels, aspect_levels, object_levels, task_levels, protected_levels, declaration_levels, stmts_levels, handlers_levels}

index_levels : (i : IndexTree) → Levels (index_depth i) (λ l. index l i)
index_levels (OfRange r) = range_levels r
index_levels (OfSubtype name) = always

constraint_levels : (r : RangeTree) → Levels (range_depth r) (λ l. constraint l r)
constraint_levels r = after (range_levels r)

definition_levels : (name : _) (d : DefinitionTree) → Levels (definition_depth d) (λ l. type_declaration_of l name d)
definition_levels name (Integer r) = after (after (after (after (before (range_levels r)))))
definition_levels name (Array i components) = after (after (after (after (before (opened (after (before (index_levels i))))))))
definition_levels name (Record components) = always
definition_levels name (Subtype parent r) = after (after (after (after (before (any {p = constraint} constraint_levels r)))))

pub item_levels : (i : ItemTree) → Levels (item_depth i) (λ l. item l i)
item_levels (OfType d) = definition_levels d.name d.definition
item_levels (OfObject d) = object_levels d
item_levels (OfException name) = always
item_levels (OfSubprogram d) = before (subprogram_levels d)
item_levels (OfTask d) = task_levels d
item_levels (OfProtected d) = protected_levels d

pub body_levels : (b : BodyTree) → Levels (body_depth b) (λ l. body l b)
body_levels b = both (in_order {p = declaration} declaration_levels b.declarations) (after (both (stmts_levels b.statements) (before (handlers_levels b.handlers))))

protected_item_levels : (i : ProtectedItemTree) → Levels (protected_item_depth i) (λ l. protected_item l i)
protected_item_levels (OperationBody d b) = both (subprogram_levels d) (after (body_levels b))
protected_item_levels (EntryBody d barrier b) = both (entry_levels d) (after (both (expression_levels barrier) (after (body_levels b))))

pub body_item_levels : (i : BodyItemTree) → Levels (body_item_depth i) (λ l. body_item l i)
body_item_levels (OfItem d) = item_levels d
body_item_levels (SubprogramBody d b) = both (subprogram_levels d) (after (body_levels b))
body_item_levels (TaskBody name b) = after (after (after (after (body_levels b))))
body_item_levels (ProtectedBody name items end_name) = after (after (after (after (before (in_order {p = protected_item} protected_item_levels items)))))

package_levels : (p : PackageTree) → Levels (package_depth p) (λ l. package_part l p)
package_levels p =
    after (both (after (after (after (before (in_order {p = item} item_levels p.declaration.items)))))
    (before (after (after (after (after (before (in_order {p = body_item} body_item_levels p.body.items))))))))

main_levels : (m : MainTree) → Levels (main_depth m) (λ l. main l m)
main_levels m = after (after (before (any {p = aspect} aspect_levels m.aspect)))

pub program_levels : (p : ProgramTree) → Levels (depth p) (λ l. program l p)
program_levels p = after (both (any {p = package_part} package_levels p.package_) (main_levels p.main))

pub limit_is_depth : LimitIsDepth
limit_is_depth k t ts = (λ h. (program_levels t).fits k ts h, λ h. (program_levels t).holds k ts h.0 h.1)
