-- What a program breaks has numbers from 10 to 23.
use Rattle.std.proofs.Common.{refl, Bool, true, false, List, [], ◌∷◌, ◌++◌, Option, Some, None}
use Rattle.base.specs.declared.faults.TheConstants.{DECLARED_TWICE}
use Rattle.ada_tree.specs.declared.expression.Identifier.{Identifier}
use Rattle.ada_tree.specs.StatementTree.{ProtectedTree}
use Rattle.ada_tree.specs.ProgramTree.{BodyItemTree, OfItem, SubprogramBody, ItemTree, OfProtected, PackageTree}
use Rattle.types.specs.Scopes.{Scope, standard}
use Rattle.unit_rules.specs.MainRules.{item_name}
use Rattle.legality.specs.LikeNames.{behind_item_faults, behind_specified_faults, between_faults, body_like_faults, is_its_body, item_like_faults, like_name_faults, like_rule, specification_like_faults, specified_faults}
use Rattle.legality.specs.ProgramRules.{package_part_faults}
use Rattle.fault_numbers.specs.Numbers.{LegalityNumbers}
use Rattle.fault_numbers.proofs.Ranges.{Legality, ◌⊕◌, asked, none}
use Rattle.fault_numbers.proofs.Packages.{of_main, of_package}
use Rattle.fault_numbers.proofs.Sizes.{of_size}

-- ---- names between a protected object and its body

of_like : (d : ProtectedTree) (name : Identifier) → Legality (like_rule d name)
of_like d name = asked DECLARED_TWICE name.place _ refl

of_specified : (d : ProtectedTree) (is : List ItemTree) → Legality (specified_faults d is)
of_specified d [] = none
of_specified d (i ∷ is) = of_like d (item_name i) ⊕ of_specified d is

of_item_like : (d : ProtectedTree) (i : BodyItemTree) → Legality (item_like_faults d i)
of_item_like d (OfItem i) = of_like d (item_name i)
of_item_like d (SubprogramBody s b) = of_like d s.name
of_item_like d i = none

of_between_if : (d : ProtectedTree) (i : BodyItemTree) (is : List BodyItemTree) (is_body : Bool) → Legality (between_faults d is)
    → Legality (elim is_body [ true ↦ [] | false ↦ item_like_faults d i ++ between_faults d is ])
of_between_if d i is true rest = none
of_between_if d i is false rest = of_item_like d i ⊕ rest

of_between : (d : ProtectedTree) (is : List BodyItemTree) → Legality (between_faults d is)
of_between d [] = none
of_between d (i ∷ is) = of_between_if d i is (is_its_body d i) (of_between d is)

of_behind_specified : (body : List BodyItemTree) (i : ItemTree) (behind : List ItemTree) → Legality (behind_specified_faults body i behind)
of_behind_specified body (OfProtected d) behind = of_specified d behind ⊕ of_between d body
of_behind_specified body i behind = none

of_specification_like : (body : List BodyItemTree) (is : List ItemTree) → Legality (specification_like_faults body is)
of_specification_like body [] = none
of_specification_like body (i ∷ is) = of_behind_specified body i is ⊕ of_specification_like body is

of_behind_item : (i : BodyItemTree) (behind : List BodyItemTree) → Legality (behind_item_faults i behind)
of_behind_item (OfItem (OfProtected d)) behind = of_between d behind
of_behind_item i behind = none

of_body_like : (is : List BodyItemTree) → Legality (body_like_faults is)
of_body_like [] = none
of_body_like (i ∷ is) = of_behind_item i is ⊕ of_body_like is

of_like_names : (p : PackageTree) → Legality (like_name_faults p)
of_like_names p = of_specification_like p.body.items p.declaration.items ⊕ of_body_like p.body.items

-- ---- the program

of_package_part : (s : Scope) (p : Option PackageTree) → Legality (package_part_faults s p)
of_package_part s (Some p) = of_package s p ⊕ of_like_names p
of_package_part s None = none

pub legality_numbers : LegalityNumbers
legality_numbers tree = (of_package_part standard tree.package_ ⊕ of_main tree.package_ tree.main ⊕ of_size tree).each
