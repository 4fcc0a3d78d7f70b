-- The literals in initial values and ranges of the package of a text have 64 bits, by its tokens.
use Rattle.std.proofs.Common.{◌≡◌, ℕ, ℤ, Bool, true, ◌&&◌, List, [], ◌∷◌, map, Option, Some, None, refl, ◌∙◌, subst}
use Rattle.std.specs.List.{list_all}
use Rattle.std.proofs.lemmas.Bool.{and_from}
use Rattle.std.proofs.lemmas.List.Folds.{list_all-append}
use Rattle.base.specs.Arithmetic.{is_in_base_range}
use Rattle.lexer.specs.declared.token.Token.{Token}
use Rattle.lexer.specs.declared.token.TokenKind.TheVariants as kinds
use Rattle.ada_tree.specs.ExpressionGrammar.{made, spells_selectors}
use Rattle.ada_tree.specs.ExpressionTree.{Arguments, Binary, Conditional, ExprTree, MoreArguments, MoreSelectors, Named, NoArguments, NoSelectors, Number, Parenthesized, SelectorTrees, Unary, Value}
use Rattle.ada_tree.specs.Language.{Limit, Tokens, each, optional, token_at, where_true}
use Rattle.ada_tree.specs.ProgramGrammar.{body_item, index, item, package_part, program, type_declaration}
use Rattle.ada_tree.specs.ProgramTree.{Array, BodyItemTree, DefinitionTree, IndexTree, Integer, ItemTree, OfItem, OfObject, OfProtected, OfRange, OfSubtype, OfType, PackageTree, ProgramTree, Record, Subtype as SubtypeOf}
use Rattle.ada_tree.specs.StatementGrammar.{initial, object, private_part, protected_component, range}
use Rattle.ada_tree.specs.StatementTree.{ObjectTree, ProtectedComponentTree, RangeTree}
use Rattle.program_soundness.specs.Fronts.{declared_in}
use Rattle.ada_tree.specs.Parsed.{IsText}
use Rattle.source_laws.proofs.SpelledStatements.{Tells, both_told, known, later, opened, sooner}
use Rattle.source_laws.proofs.SpelledTokens.{AreSpelled, IsKindSpelled, spelled_tokens}

-- ---- literals that a static expression or a span may have

abbrev mutual
  pub literals_fit : ExprTree → Bool
  literals_fit (Number z place) = is_in_base_range z
  literals_fit (Named first selectors) = argument_fits selectors
  literals_fit (Parenthesized place e) = literals_fit e
  literals_fit (Unary operator place e) = literals_fit e
  literals_fit (Binary operator a b) = literals_fit a && literals_fit b
  literals_fit (Conditional place condition value elsifs last) = true

  -- those of the single actual parameter of a call
  pub argument_fits : SelectorTrees → Bool
  argument_fits (MoreSelectors (Arguments (MoreArguments (Value e) NoArguments)) NoSelectors) = literals_fit e
  argument_fits selectors_ = true

abbrev pub value_fits : Option ExprTree → Bool
value_fits (Some e) = literals_fit e
value_fits None = true

abbrev pub range_fits : RangeTree → Bool
range_fits r = literals_fit r.first && literals_fit r.last

abbrev pub index_fits : IndexTree → Bool
index_fits (OfRange r) = range_fits r
index_fits (OfSubtype name) = true

abbrev pub definition_fits : DefinitionTree → Bool
definition_fits (Integer r) = range_fits r
definition_fits (Array i component) = index_fits i
definition_fits (Record components) = true
definition_fits (SubtypeOf name (Some r)) = range_fits r
definition_fits (SubtypeOf name None) = true

abbrev pub part_fits : ProtectedComponentTree → Bool
part_fits c = value_fits c.value

abbrev pub item_fits : ItemTree → Bool
item_fits (OfType d) = definition_fits d.definition
item_fits (OfObject d) = value_fits d.value
item_fits (OfProtected d) = list_all part_fits d.components
item_fits d = true

abbrev pub body_item_fits : BodyItemTree → Bool
body_item_fits (OfItem d) = item_fits d
body_item_fits x = true

-- ---- what tokens tell of them

tested : {b : Bool} {p : Tokens → Type 0} {P : Type 0} → Tells p P → Tells (where_true b p) P
tested a = record { told = λ ts h s. a.told ts h.1 s }

literal : (z : ℤ) (place : ℕ) → Tells (token_at (kinds.Number z) place) (is_in_base_range z ≡ true)
literal z place = record { told = λ ts h s. subst IsKindSpelled h.2 (subst AreSpelled h.1 s).0 }

mutual
  made_told : (e : ExprTree) (l : Limit) → Tells (made e l) (literals_fit e ≡ true)
  made_told (Number z place) l = literal z place
  made_told (Named first selectors) l = later (argument_told selectors l)
  made_told (Parenthesized place e) l = opened (λ m. later (sooner (tested (made_told e m)))) l
  made_told (Unary operator place e) l = later (tested (made_told e l))
  made_told (Binary operator a b) l = both_told (and_from (literals_fit a) (literals_fit b)) (tested (made_told a l)) (later (tested (made_told b l)))
  made_told (Conditional place condition value elsifs last) l = known refl

  argument_told : (s : SelectorTrees) (l : Limit) → Tells (spells_selectors s l) (argument_fits s ≡ true)
  argument_told (MoreSelectors (Arguments (MoreArguments (Value e) NoArguments)) NoSelectors) l =
      sooner (opened (λ m. later (sooner (sooner (tested (made_told e m))))) l)
  argument_told s l = known refl

range_told : (r : RangeTree) (l : Limit) → Tells (range l r) (range_fits r ≡ true)
range_told r l =
    both_told (and_from (literals_fit r.first) (literals_fit r.last)) (tested (made_told r.first l)) (later (tested (made_told r.last l)))

index_told : (i : IndexTree) (l : Limit) → Tells (index l i) (index_fits i ≡ true)
index_told (OfRange r) l = range_told r l
index_told (OfSubtype name) l = known refl

definition_told : (name : _) (d : DefinitionTree) (l : Limit) → Tells (type_declaration l (record { name = name; definition = d })) (definition_fits d ≡ true)
definition_told name (Integer r) l = later (later (later (later (sooner (range_told r l)))))
definition_told name (Array i component) l = later (later (later (later (sooner (opened (λ m. later (sooner (index_told i m))) l)))))
definition_told name (Record components) l = known refl
definition_told name (SubtypeOf parent (Some r)) l = later (later (later (later (sooner (later (range_told r l))))))
definition_told name (SubtypeOf parent None) l = known refl

object_told : (d : ObjectTree) (l : Limit) → Tells (object l d) (value_fits d.value ≡ true)
object_told d l = later (later (later (later (sooner (by_value d.value)))))
  where
    by_value : (o : Option ExprTree) → Tells (optional (λ e. initial l e) o) (value_fits o ≡ true)
    by_value (Some e) = later (tested (made_told e l))
    by_value None = known refl

part_told : (c : ProtectedComponentTree) (l : Limit) → Tells (protected_component l c) (part_fits c ≡ true)
part_told c l = later (later (later (sooner (by_value c.value))))
  where
    by_value : (o : Option ExprTree) → Tells (optional (λ e. initial l e) o) (value_fits o ≡ true)
    by_value (Some e) = later (tested (made_told e l))
    by_value None = known refl

parts_told : (cs : List ProtectedComponentTree) (l : Limit) → Tells (each (protected_component l) cs) (list_all part_fits cs ≡ true)
parts_told [] l = known refl
parts_told (c ∷ cs) l = both_told (and_from (part_fits c) (list_all part_fits cs)) (part_told c l) (parts_told cs l)

private_told : (cs : List ProtectedComponentTree) (l : Limit) → Tells (private_part l cs) (list_all part_fits cs ≡ true)
private_told [] l = known refl
private_told (c ∷ cs) l = later (parts_told (c ∷ cs) l)

item_told : (d : ItemTree) (l : Limit) → Tells (item l d) (item_fits d ≡ true)
item_told (OfType d) l = definition_told d.name d.definition l
item_told (OfObject d) l = object_told d l
item_told (OfProtected d) l = later (later (later (later (later (sooner (private_told d.components l))))))
item_told d l = known refl

body_item_told : (x : BodyItemTree) (l : Limit) → Tells (body_item l x) (body_item_fits x ≡ true)
body_item_told (OfItem d) l = item_told d l
body_item_told x l = known refl

items_told : (ds : List ItemTree) (l : Limit) → Tells (each (item l) ds) (list_all body_item_fits (map OfItem ds) ≡ true)
items_told [] l = known refl
items_told (d ∷ ds) l = both_told (and_from (item_fits d) (list_all body_item_fits (map OfItem ds))) (item_told d l) (items_told ds l)

body_items_told : (xs : List BodyItemTree) (l : Limit) → Tells (each (body_item l) xs) (list_all body_item_fits xs ≡ true)
body_items_told [] l = known refl
body_items_told (x ∷ xs) l = both_told (and_from (body_item_fits x) (list_all body_item_fits xs)) (body_item_told x l) (body_items_told xs l)

package_told : (o : Option PackageTree) (l : Limit) → Tells (optional (package_part l) o) (list_all body_item_fits (declared_in o) ≡ true)
package_told None l = known refl
package_told (Some p) l =
    later (both_told both (later (later (later (sooner (items_told p.declaration.items l)))))
    (sooner (later (later (later (later (sooner (body_items_told p.body.items l))))))))
  where
    both : list_all body_item_fits (map OfItem p.declaration.items) ≡ true → list_all body_item_fits p.body.items ≡ true
        → list_all body_item_fits (declared_in (Some p)) ≡ true
    both h k =
        list_all-append body_item_fits (map OfItem p.declaration.items) p.body.items
        ∙ and_from (list_all body_item_fits (map OfItem p.declaration.items)) (list_all body_item_fits p.body.items) h k

pub numbers_spelled : (text : List ℕ) (tokens : List Token) (t : ProgramTree) → IsText text tokens t → list_all body_item_fits (declared_in t.package_) ≡ true
numbers_spelled text tokens t is = program_told.told tokens is.tree (spelled_tokens is.spelled.row)
  where
    program_told : Tells (program is.limit t) (list_all body_item_fits (declared_in t.package_) ≡ true)
    program_told = later (sooner (package_told t.package_ is.limit))
