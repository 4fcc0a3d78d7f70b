-- The spans of subtypes and of the parts of declarations.
use Rattle.std.specs.Prelude.{Option, Some, None, map}
use Rattle.ada2012_tree.specs.declared.expression.Expr.{Expr}
use Rattle.ada2012_tree.specs.declared.expression.Name.{Name}
use Rattle.ada2012_tree.specs.declared.subtype.DiscreteRange.{DiscreteRange}
use Rattle.ada2012_tree.specs.declared.subtype.DiscreteRange.TheVariants as discrete
use Rattle.ada2012_tree.specs.declared.subtype.SubtypeIndication.{SubtypeIndication}
use Rattle.ada2012_tree.specs.declared.subtype.ArrayDefinition.{ArrayDefinition}
use Rattle.ada2012_tree.specs.declared.subtype.ObjectSubtype.{ObjectSubtype}
use Rattle.ada2012_tree.specs.declared.subtype.ObjectSubtype.TheVariants as object
use Rattle.ada2012_tree.specs.declared.subtype.Component.{Component}
use Rattle.ada2012_tree.specs.declared.subtype.Formal.{Formal}
use Rattle.ada2012_tree.specs.declared.subtype.Aspect.{Aspect}
use Rattle.ada2012_tree.specs.declared.subtype.Pragma.{Pragma}
use Rattle.ada2012_tree.specs.declared.subtype.Specification.{Specification}
use Rattle.ada2012_tree.specs.Spans.{SpanTree, SpanTrees, Node, NoTrees, MoreTrees, joined, only, trees_of}
use Rattle.ada2012_tree.specs.ExpressionSpans.{association_spans, expr_spans, identifier_spans, name_spans, range_spans}

-- the tree of what is there, or none
abbrev pub optional : {A : Type 0} → (A → SpanTree) → Option A → SpanTrees
optional view None = NoTrees
optional view (Some a) = only (view a)

abbrev pub indication_spans : SubtypeIndication → SpanTree
indication_spans s = Node s.span (MoreTrees (name_spans s.name) (optional range_spans s.range))

abbrev pub discrete_spans : DiscreteRange → SpanTree
discrete_spans (discrete.Bounds range) = range_spans range
discrete_spans (discrete.Name name) = expr_spans name
discrete_spans (discrete.Constrained span subtype range) = Node span (MoreTrees (expr_spans subtype) (only (range_spans range)))

abbrev pub array_spans : ArrayDefinition → SpanTree
array_spans a = Node a.span (joined (trees_of (map discrete_spans a.indexes.items)) (only (indication_spans a.component)))

abbrev pub object_subtype_spans : ObjectSubtype → SpanTree
object_subtype_spans (object.Subtype subtype) = indication_spans subtype
object_subtype_spans (object.Array array) = array_spans array

abbrev pub aspect_spans : Aspect → SpanTree
aspect_spans a = Node a.span (MoreTrees (identifier_spans a.name) (optional expr_spans a.value))

abbrev pub component_spans : Component → SpanTree
component_spans c =
    Node c.span (joined (trees_of (map identifier_spans c.names.items))
    (MoreTrees (object_subtype_spans c.subtype) (joined (optional expr_spans c.value) (trees_of (map aspect_spans c.aspects.items)))))

abbrev pub formal_spans : Formal → SpanTree
formal_spans f = Node f.span (joined (trees_of (map identifier_spans f.names.items)) (MoreTrees (name_spans f.subtype) (optional expr_spans f.default)))

abbrev pub pragma_spans : Pragma → SpanTree
pragma_spans p = Node p.span (MoreTrees (identifier_spans p.name) (trees_of (map association_spans p.arguments.items)))

abbrev pub specification_spans : Specification → SpanTree
specification_spans s =
    Node s.span (MoreTrees (identifier_spans s.name) (joined (trees_of (map formal_spans s.formals.items)) (optional name_spans s.result)))
