-- Names between the declaration of a protected object and its body (RM 8.3; docs/LANGUAGE.md, "Rules of programs"): in that body they would be visible
-- beside the object's operations and components.
use Rattle.std.specs.Prelude.{Bool, true, false, ◌||◌, List, [], ◌∷◌, ◌++◌}
use Rattle.std.specs.List.{list_any}
use Rattle.base.specs.declared.faults.TheConstants.{DECLARED_TWICE}
use Rattle.ada_tree.specs.declared.expression.Identifier.{Identifier}
use Rattle.ada_tree.specs.StatementTree.{ProtectedTree}
use Rattle.ada_tree.specs.ProgramTree.{ItemTree, OfProtected, BodyItemTree, OfItem, SubprogramBody, ProtectedBody, PackageTree}
use Rattle.expr_rules.specs.Faults.{Faults, rule}
use Rattle.declaration_rules.specs.ProtectedRules.{operation_name}
use Rattle.unit_rules.specs.MainRules.{item_name}
use Rattle.conformance.specs.MatchingRules.{same_name}

-- an operation or component of the object has this name
abbrev pub has_part : ProtectedTree → Identifier → Bool
has_part d name = list_any (λ o. same_name (operation_name o) name) d.operations || list_any (λ c. same_name c.name name) d.components

-- 11, at a name that is declared between the object and its body
abbrev pub like_rule : ProtectedTree → Identifier → Faults
like_rule d name = rule DECLARED_TWICE name.place (has_part d name)

-- what is declared in the specification, behind the object
abbrev pub specified_faults : ProtectedTree → List ItemTree → Faults
specified_faults d [] = []
specified_faults d (i ∷ is) = like_rule d (item_name i) ++ specified_faults d is

abbrev pub is_its_body : ProtectedTree → BodyItemTree → Bool
is_its_body d (ProtectedBody name items end_name) = same_name d.name name
is_its_body d i = false

-- the body of a procedure or function counts with and without a declaration in front of it: such a declaration, or the object's own part, is broken too
abbrev pub item_like_faults : ProtectedTree → BodyItemTree → Faults
item_like_faults d (OfItem i) = like_rule d (item_name i)
item_like_faults d (SubprogramBody s b) = like_rule d s.name
item_like_faults d i = []

-- what stands in the body of the package, in front of the object's body
abbrev pub between_faults : ProtectedTree → List BodyItemTree → Faults
between_faults d [] = []
between_faults d (i ∷ is) = elim (is_its_body d i) [ true ↦ [] | false ↦ item_like_faults d i ++ between_faults d is ]

-- ---- the objects of the specification, in front of the package's body

abbrev pub behind_specified_faults : (body : List BodyItemTree) → ItemTree → (behind : List ItemTree) → Faults
behind_specified_faults body (OfProtected d) behind = specified_faults d behind ++ between_faults d body
behind_specified_faults body i behind = []

abbrev pub specification_like_faults : (body : List BodyItemTree) → List ItemTree → Faults
specification_like_faults body [] = []
specification_like_faults body (i ∷ is) = behind_specified_faults body i is ++ specification_like_faults body is

-- ---- the objects of the package's body

abbrev pub behind_item_faults : BodyItemTree → (behind : List BodyItemTree) → Faults
behind_item_faults (OfItem (OfProtected d)) behind = between_faults d behind
behind_item_faults i behind = []

abbrev pub body_like_faults : List BodyItemTree → Faults
body_like_faults [] = []
body_like_faults (i ∷ is) = behind_item_faults i is ++ body_like_faults is

abbrev pub like_name_faults : PackageTree → Faults
like_name_faults p = specification_like_faults p.body.items p.declaration.items ++ body_like_faults p.body.items
