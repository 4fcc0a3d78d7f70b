-- The package (RM 7.1, 7.2; docs/LANGUAGE.md, "Rules of programs"), the limits aside.
use Rattle.std.specs.Prelude.{Bool, true, false, not, ◌++◌}
use Rattle.std.specs.List.{list_any}
use Rattle.base.specs.declared.faults.TheConstants.{NAME_NOT_VISIBLE, UNMATCHED_BODY}
use Rattle.ada_tree.specs.ProgramTree.{ItemTree, OfTask, OfProtected, PackageTree}
use Rattle.ada_tree.specs.ProgramTree.{OfSubprogram as OfDeclared}
use Rattle.types.specs.Scopes.{Scope}
use Rattle.expr_rules.specs.Faults.{Faults, rule}
use Rattle.type_rules.specs.SubtypeNames.{declared_twice, end_rule}
use Rattle.declaration_rules.specs.ItemRules.{items_faults}
use Rattle.declaration_rules.specs.PackageNames.{inside_scope, specified_scope, units_scope}
use Rattle.conformance.specs.MatchingRules.{matching_faults, same_name}
use Rattle.unit_rules.specs.PackageBodyRules.{body_items_faults}
use Rattle.unit_rules.specs.UnitRules.{clauses_faults}

-- ---- the specification

abbrev pub has_body : ItemTree → Bool
has_body (OfDeclared d) = true
has_body (OfTask d) = true
has_body (OfProtected d) = true
has_body d = false

-- 18, at the package's name: nothing in its specification has a body
abbrev pub bodiless_rule : PackageTree → Faults
bodiless_rule p = rule UNMATCHED_BODY p.declaration.name.place (not (list_any has_body p.declaration.items))

abbrev pub specification_faults : Scope → PackageTree → Faults
specification_faults s p =
    clauses_faults p.clauses
    ++ declared_twice (units_scope s p) p.declaration.name
    ++ items_faults (inside_scope s p) p.declaration.items
    ++ bodiless_rule p
    ++ end_rule p.declaration.name p.declaration.end_name

-- ---- the body and main's `with`; at the name of the body 18: it is that of another package; in the `with` 10: it names another one

abbrev pub behind_faults : Scope → PackageTree → Faults
behind_faults s p =
    rule UNMATCHED_BODY p.body.name.place (not (same_name p.declaration.name p.body.name))
    ++ matching_faults p.declaration.items p.body.items
    ++ body_items_faults s p.body.items
    ++ end_rule p.body.name p.body.end_name
    ++ rule NAME_NOT_VISIBLE p.with_name.place (not (same_name p.declaration.name p.with_name))

-- in front of the package these names are visible
abbrev pub package_faults : Scope → PackageTree → Faults
package_faults s p = specification_faults s p ++ behind_faults (specified_scope s p) p
