-- The spans of units and of whole texts.
use Rattle.std.specs.Prelude.{map}
use Rattle.ada2012_tree.specs.declared.program.Clause.{Clause}
use Rattle.ada2012_tree.specs.declared.program.Clause.TheVariants as clause
use Rattle.ada2012_tree.specs.declared.program.Package.{Package}
use Rattle.ada2012_tree.specs.declared.program.PackageBody.{PackageBody}
use Rattle.ada2012_tree.specs.declared.program.UnitSubprogram.{UnitSubprogram}
use Rattle.ada2012_tree.specs.declared.program.UnitItem.{UnitItem}
use Rattle.ada2012_tree.specs.declared.program.UnitItem.TheVariants as item
use Rattle.ada2012_tree.specs.declared.program.Unit.{Unit}
use Rattle.ada2012_tree.specs.declared.program.Program.{Program}
use Rattle.ada2012_tree.specs.Spans.{SpanTree, Node, MoreTrees, joined, only, trees_of}
use Rattle.ada2012_tree.specs.ExpressionSpans.{name_spans}
use Rattle.ada2012_tree.specs.SubtypeSpans.{aspect_spans, pragma_spans, specification_spans}
use Rattle.ada2012_tree.specs.DeclarationSpans.{use_spans}
use Rattle.ada2012_tree.specs.StatementSpans.{body_spans, declaration_spans}

abbrev pub clause_spans : Clause → SpanTree
clause_spans (clause.With span names) = Node span (trees_of (map name_spans names.items))
clause_spans (clause.Use u) = use_spans u
clause_spans (clause.Pragma pragma) = pragma_spans pragma

abbrev pub package_spans : Package → SpanTree
package_spans p =
    Node p.span (MoreTrees (name_spans p.name) (joined (trees_of (map aspect_spans p.aspects.items))
    (joined (trees_of (map declaration_spans p.visible.items)) (trees_of (map declaration_spans p.hidden.items)))))

abbrev pub package_body_spans : PackageBody → SpanTree
package_body_spans p = Node p.span (MoreTrees (name_spans p.name) (joined (trees_of (map aspect_spans p.aspects.items)) (only (body_spans p.body))))

abbrev pub unit_subprogram_spans : UnitSubprogram → SpanTree
unit_subprogram_spans s =
    Node s.span (MoreTrees (specification_spans s.specification) (joined (trees_of (map aspect_spans s.aspects.items)) (only (body_spans s.body))))

abbrev pub unit_item_spans : UnitItem → SpanTree
unit_item_spans (item.Package p) = package_spans p
unit_item_spans (item.PackageBody p) = package_body_spans p
unit_item_spans (item.Subprogram s) = unit_subprogram_spans s

abbrev pub unit_spans : Unit → SpanTree
unit_spans u = Node u.span (joined (trees_of (map clause_spans u.clauses.items)) (only (unit_item_spans u.item)))

abbrev pub program_spans : Program → SpanTree
program_spans p = Node p.span (trees_of (map unit_spans p.units.items))
