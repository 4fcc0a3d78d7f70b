-- The spans of declarations that hold no statements.
use Rattle.std.specs.Prelude.{map}
use Rattle.ada2012_tree.specs.declared.declaration.ObjectDeclaration.{ObjectDeclaration}
use Rattle.ada2012_tree.specs.declared.declaration.TypeDeclaration.{TypeDeclaration}
use Rattle.ada2012_tree.specs.declared.declaration.TypeDefinition.{TypeDefinition}
use Rattle.ada2012_tree.specs.declared.declaration.TypeDefinition.TheVariants as definition
use Rattle.ada2012_tree.specs.declared.declaration.TaskDeclaration.{TaskDeclaration}
use Rattle.ada2012_tree.specs.declared.declaration.ProtectedDeclaration.{ProtectedDeclaration}
use Rattle.ada2012_tree.specs.declared.declaration.ProtectedItem.{ProtectedItem}
use Rattle.ada2012_tree.specs.declared.declaration.ProtectedItem.TheVariants as item
use Rattle.ada2012_tree.specs.declared.declaration.UseClause.{UseClause}
use Rattle.ada2012_tree.specs.declared.statement.Iteration.{Iteration}
use Rattle.ada2012_tree.specs.declared.statement.Iteration.TheVariants as iteration
use Rattle.ada2012_tree.specs.declared.statement.ExceptionChoice.{ExceptionChoice}
use Rattle.ada2012_tree.specs.declared.statement.ExceptionChoice.TheVariants as exception
use Rattle.ada2012_tree.specs.Spans.{SpanTree, SpanTrees, Node, NoTrees, MoreTrees, joined, only, trees_of}
use Rattle.ada2012_tree.specs.ExpressionSpans.{expr_spans, identifier_spans, leaf, name_spans, range_spans}
use Rattle.ada2012_tree.specs.SubtypeSpans.{array_spans, aspect_spans, component_spans, discrete_spans, formal_spans, object_subtype_spans, optional, pragma_spans, specification_spans}

abbrev pub object_spans : ObjectDeclaration → SpanTree
object_spans d =
    Node d.span (joined (trees_of (map identifier_spans d.names.items))
    (MoreTrees (object_subtype_spans d.subtype) (joined (optional expr_spans d.value) (trees_of (map aspect_spans d.aspects.items)))))

-- the nodes in the definition of a type
abbrev pub definition_spans : TypeDefinition → SpanTrees
definition_spans (definition.Enumeration literals) = trees_of (map identifier_spans literals.items)
definition_spans (definition.Integer range) = only (range_spans range)
definition_spans (definition.Modular modulus) = only (expr_spans modulus)
definition_spans (definition.Array array) = only (array_spans array)
definition_spans (definition.Record components) = trees_of (map component_spans components.items)

abbrev pub type_spans : TypeDeclaration → SpanTree
type_spans d =
    Node d.span (MoreTrees (identifier_spans d.name) (joined (trees_of (map formal_spans d.discriminants.items))
    (joined (definition_spans d.definition) (trees_of (map aspect_spans d.aspects.items)))))

abbrev pub task_spans : TaskDeclaration → SpanTree
task_spans d =
    Node d.span (MoreTrees (identifier_spans d.name) (joined (trees_of (map formal_spans d.discriminants.items))
    (joined (trees_of (map aspect_spans d.aspects.items)) (trees_of (map pragma_spans d.pragmas.items)))))

abbrev pub item_spans : ProtectedItem → SpanTree
item_spans (item.Subprogram span specification aspects) = Node span (MoreTrees (specification_spans specification) (trees_of (map aspect_spans aspects.items)))
item_spans (item.Entry span name formals aspects) =
    Node span (MoreTrees (identifier_spans name) (joined (trees_of (map formal_spans formals.items)) (trees_of (map aspect_spans aspects.items))))
item_spans (item.Component component) = component_spans component
item_spans (item.Pragma pragma) = pragma_spans pragma

abbrev pub protected_spans : ProtectedDeclaration → SpanTree
protected_spans d =
    Node d.span (MoreTrees (identifier_spans d.name) (joined (trees_of (map formal_spans d.discriminants.items))
    (joined (trees_of (map aspect_spans d.aspects.items)) (joined (trees_of (map item_spans d.visible.items)) (trees_of (map item_spans d.hidden.items))))))

abbrev pub use_spans : UseClause → SpanTree
use_spans u = Node u.span (trees_of (map name_spans u.names.items))

-- the nodes in what a loop goes over
abbrev pub iteration_spans : Iteration → SpanTrees
iteration_spans iteration.Forever = NoTrees
iteration_spans (iteration.While condition) = only (expr_spans condition)
iteration_spans (iteration.For parameter reversed range) = MoreTrees (identifier_spans parameter) (only (discrete_spans range))
iteration_spans (iteration.Of parameter array) = MoreTrees (identifier_spans parameter) (only (name_spans array))

abbrev pub exception_spans : ExceptionChoice → SpanTree
exception_spans (exception.Name name) = name_spans name
exception_spans (exception.Others span) = leaf span
