-- What is said of conflicts: which types don't match, and where these are declared (RM 3.2, A.1, D.8); why an expression isn't static, or its value is wrong
-- (RM 4.9).
use Rattle.std.specs.Prelude.{ℕ, List, [], ◌∷◌, Option, Some, None, nat_eq, if◌then◌else◌}
use Rattle.ada_tree.specs.ProgramTree.{BodyItemTree, ItemTree, OfItem, PackageTree, ProgramTree}
use Rattle.ada_tree.specs.ProgramTree.{OfType as OfDeclaration}
use Rattle.types.specs.Entities.{TypeForm, Booleans, Times, Spans}
use Rattle.types.specs.Scopes.{Scope, form_at, integer_type, number_of, standard}
use Rattle.expr_rules.specs.declared.own.Own.{Own}
use Rattle.expr_rules.specs.declared.own.Own.TheVariants.{Typed, Universal, Unknown}
use Rattle.expr_rules.specs.declared.own.Wanted.{Wanted}
use Rattle.expr_rules.specs.declared.own.Wanted.TheVariants.{Anything, AnyInteger, OfType}
use Rattle.declaration_rules.specs.PackageNames.{package_scope}
use Rattle.mismatches.specs.declared.conflict.Conflict.{Conflict}
use Rattle.mismatches.specs.declared.conflict.Conflict.TheVariants.{NoVariable, NotDiscrete, NotStatic, NullRange, Operands, Outside, Raises, Unexpected}
use Rattle.mismatches.specs.declared.remark.NamedType.{NamedType}
use Rattle.mismatches.specs.declared.remark.NamedType.TheVariants as named
use Rattle.mismatches.specs.declared.remark.PredefinedType.TheVariants as predefined
use Rattle.mismatches.specs.declared.remark.Remark.{Remark}
use Rattle.mismatches.specs.declared.remark.Remark.TheVariants as remark
use Rattle.mismatches.specs.Conflicts.{first_at}
use Rattle.mismatches.specs.BodyMismatches.{package_mismatches}

-- ---- where a type is declared: at the first declaration whose name has the type's number

abbrev pub place_if : (number : ℕ) → Option ℕ → (place : ℕ) → Option ℕ
place_if number (Some n) place = if nat_eq n number then Some place else None
place_if number None place = None

abbrev pub item_place : Scope → (number : ℕ) → ItemTree → Option ℕ
item_place s number (OfDeclaration d) = place_if number (number_of s d.name.name) d.name.place
item_place s number other = None

abbrev pub or_place : Option ℕ → Option ℕ → Option ℕ
or_place (Some place) other = Some place
or_place None other = other

abbrev pub items_place : Scope → (number : ℕ) → List ItemTree → Option ℕ
items_place s number [] = None
items_place s number (d ∷ ds) = or_place (item_place s number d) (items_place s number ds)

abbrev pub body_item_place : Scope → (number : ℕ) → BodyItemTree → Option ℕ
body_item_place s number (OfItem d) = item_place s number d
body_item_place s number other = None

abbrev pub body_items_place : Scope → (number : ℕ) → List BodyItemTree → Option ℕ
body_items_place s number [] = None
body_items_place s number (i ∷ is) = or_place (body_item_place s number i) (body_items_place s number is)

abbrev pub declared_place : Scope → (number : ℕ) → PackageTree → Option ℕ
declared_place s number p = or_place (items_place s number p.declaration.items) (body_items_place s number p.body.items)

-- ---- types by their numbers, where these names are visible

abbrev pub declared_type : Option ℕ → Option NamedType
declared_type (Some place) = Some (named.Declared place)
declared_type None = None

abbrev pub type_of_form : Option TypeForm → (place : Option ℕ) → Option NamedType
type_of_form (Some Booleans) place = Some (named.Predefined predefined.Boolean)
type_of_form (Some Times) place = Some (named.Predefined predefined.Time)
type_of_form (Some Spans) place = Some (named.Predefined predefined.TimeSpan)
type_of_form form place = declared_type place

abbrev pub named_type : Scope → PackageTree → (number : ℕ) → Option NamedType
named_type s p number =
    if nat_eq number integer_type then Some (named.Predefined predefined.Integer) else type_of_form (form_at s number) (declared_place s number p)

abbrev pub own_named : Scope → PackageTree → Own → Option NamedType
own_named s p (Typed n) = named_type s p n
own_named s p Universal = Some named.UniversalInteger
own_named s p Unknown = None

abbrev pub wanted_named : Scope → PackageTree → Wanted → Option NamedType
wanted_named s p (OfType n) = named_type s p n
wanted_named s p AnyInteger = Some named.AnyInteger
wanted_named s p Anything = None

-- ---- remarks

abbrev pub unexpected_remark : (expected found : Option NamedType) → Option Remark
unexpected_remark (Some expected) (Some found) = Some (remark.Unexpected expected found)
unexpected_remark expected found = None

abbrev pub operands_remark : (left right : Option NamedType) → Option Remark
operands_remark (Some left) (Some right) = Some (remark.Operands left right)
operands_remark left right = None

abbrev pub conflict_remark : Scope → PackageTree → Option Conflict → Option Remark
conflict_remark s p (Some (Unexpected wanted own)) = unexpected_remark (wanted_named s p wanted) (own_named s p own)
conflict_remark s p (Some (Operands left right)) = operands_remark (own_named s p left) (own_named s p right)
conflict_remark s p (Some NoVariable) = Some remark.NoVariable
conflict_remark s p (Some (NotDiscrete own)) = unexpected_remark (Some named.Discrete) (own_named s p own)
conflict_remark s p (Some (NotStatic obstacle)) = Some (remark.NotStatic obstacle)
conflict_remark s p (Some (Outside value first last)) = Some (remark.Outside value first last)
conflict_remark s p (Some Raises) = Some remark.Raises
conflict_remark s p (Some (NullRange first last)) = Some (remark.NullRange first last)
conflict_remark s p None = None

-- of the first conflict at the place that breaks the rule; a type keeps its number, so it has the one that it has after the package
abbrev pub package_remark : PackageTree → (number place : ℕ) → Option Remark
package_remark p number place = conflict_remark (package_scope standard p) p (first_at number place (package_mismatches p))

-- main has no types
abbrev pub optional_remark : Option PackageTree → (number place : ℕ) → Option Remark
optional_remark (Some p) number place = package_remark p number place
optional_remark None number place = None

abbrev pub remark_at : ProgramTree → (number place : ℕ) → Option Remark
remark_at t number place = optional_remark t.package_ number place
