-- Each record type of a source text has a component, by its grammar.
use Rattle.std.proofs.Common.{◌≡◌, Bool, true, false, List, [], ◌∷◌, map, Option, Some, None, refl, ◌∙◌}
use Rattle.std.specs.List.{list_all}
use Rattle.std.proofs.lemmas.Bool.{and_from}
use Rattle.std.proofs.lemmas.List.Folds.{list_all-append}
use Rattle.ada_tree.specs.ProgramTree.{BodyItemTree, DefinitionTree, ItemTree, OfItem, OfType, PackageTree, ProgramTree, Record}
use Rattle.ada_tree.specs.Language.{Limit, Tokens, each, optional}
use Rattle.ada_tree.specs.ProgramGrammar.{body_item, item, package_part, program, type_declaration}
use Rattle.program_soundness.specs.Fronts.{declared_in}

abbrev pub has_components : DefinitionTree → Bool
has_components (Record []) = false
has_components d = true

abbrev pub is_whole_item : ItemTree → Bool
is_whole_item (OfType d) = has_components d.definition
is_whole_item d = true

abbrev pub is_whole_body_item : BodyItemTree → Bool
is_whole_body_item (OfItem d) = is_whole_item d
is_whole_body_item x = true

definition_whole : (d : DefinitionTree) (limit : Limit) (name : _) (ts : Tokens) → type_declaration limit (record { name = name; definition = d }) ts
    → has_components d ≡ true
definition_whole (Record []) limit name ts h = absurd h.4.4.4.4.3
definition_whole d limit name ts h = refl

item_whole : (d : ItemTree) (limit : Limit) (ts : Tokens) → item limit d ts → is_whole_item d ≡ true
item_whole (OfType d) limit ts h = definition_whole d.definition limit d.name ts h
item_whole d limit ts h = refl

body_item_whole : (x : BodyItemTree) (limit : Limit) (ts : Tokens) → body_item limit x ts → is_whole_body_item x ≡ true
body_item_whole (OfItem d) limit ts h = item_whole d limit ts h
body_item_whole x limit ts h = refl

items_whole : (ds : List ItemTree) (limit : Limit) (ts : Tokens) → each (item limit) ds ts → list_all is_whole_body_item (map OfItem ds) ≡ true
items_whole [] limit ts h = refl
items_whole (d ∷ ds) limit ts h =
    and_from (is_whole_item d) (list_all is_whole_body_item (map OfItem ds)) (item_whole d limit h.0 h.3) (items_whole ds limit h.1 h.4)

body_items_whole : (xs : List BodyItemTree) (limit : Limit) (ts : Tokens) → each (body_item limit) xs ts → list_all is_whole_body_item xs ≡ true
body_items_whole [] limit ts h = refl
body_items_whole (x ∷ xs) limit ts h =
    and_from (is_whole_body_item x) (list_all is_whole_body_item xs) (body_item_whole x limit h.0 h.3) (body_items_whole xs limit h.1 h.4)

package_whole : (o : Option PackageTree) (limit : Limit) (ts : Tokens) → optional (package_part limit) o ts → list_all is_whole_body_item (declared_in o) ≡ true
package_whole None limit ts h = refl
package_whole (Some p) limit ts h =
    let specified = h.4.3 in
    let bodied = h.4.4.3 in
    list_all-append is_whole_body_item (map OfItem p.declaration.items) p.body.items
    ∙ and_from (list_all is_whole_body_item (map OfItem p.declaration.items)) (list_all is_whole_body_item p.body.items)
    (items_whole p.declaration.items limit _ specified.4.4.4.3) (body_items_whole p.body.items limit _ bodied.4.4.4.4.3)

pub declared_whole : (limit : Limit) (t : ProgramTree) (ts : Tokens) → program limit t ts → list_all is_whole_body_item (declared_in t.package_) ≡ true
declared_whole limit t ts h = package_whole t.package_ limit h.4.0 h.4.3
