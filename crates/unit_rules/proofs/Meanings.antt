-- What the specification declares by a name is found at the name's place.
use Rattle.std.proofs.Common.{◌≡◌, ℕ, suc, ◌+◌, Bool, true, false, cond, List, [], ◌∷◌, Option, Some, None, option_map, bytes_eq, map, refl, sym, ap, ◌∙◌}
use Rattle.std.specs.List.{position_from}
use Rattle.std.proofs.lemmas.Iterator.Adapters.{position_from-zero}
use Rattle.ada_tree.specs.declared.expression.Identifier.{Identifier}
use Rattle.ada_tree.specs.declared.declaration.Item.{Item}
use Rattle.ada_tree.specs.ProgramTree.{item_tree}
use Rattle.types.specs.Seen.{ArePlaces, place_of}
use Rattle.types.proofs.Seeing.{shifted}
use Rattle.unit_rules.specs.declared.main_procedure.Meaning.{Meaning}
use Rattle.unit_rules.specs.MainRules.{declared_meaning, item_bytes, item_meaning, meaning_at}

from_first : (items : List Item) (name : Identifier) → declared_meaning (map item_tree items) name ≡ meaning_at items (position_from (λ i. bytes_eq (item_bytes i) name.name) 0 items)
from_first [] name = refl
from_first (i ∷ items) name = by (bytes_eq (item_bytes i) name.name) (from_first items name)
  where
    next : (o : Option ℕ) → meaning_at items o ≡ meaning_at (i ∷ items) (option_map suc o)
    next (Some place) = refl
    next None = refl

    by : (b : Bool)
        → declared_meaning (map item_tree items) name ≡ meaning_at items (position_from (λ x. bytes_eq (item_bytes x) name.name) 0 items)
        → elim b [ true ↦ item_meaning (item_tree i) | false ↦ declared_meaning (map item_tree items) name ]
        ≡ meaning_at (i ∷ items) (cond b (Some 0) (position_from (λ x. bytes_eq (item_bytes x) name.name) (0 + 1) items))
    by true rest = refl
    by false rest = rest ∙ next (position_from (λ x. bytes_eq (item_bytes x) name.name) 0 items) ∙ ap (meaning_at (i ∷ items)) (sym (shifted (λ x. bytes_eq (item_bytes x) name.name) 0 items))

pub meaning_found : (items : List Item) (places : List (List ℕ × ℕ)) (name : Identifier)
    → ArePlaces item_bytes items places
    → meaning_at items (place_of places name.name) ≡ declared_meaning (map item_tree items) name
meaning_found items places name are =
    ap (meaning_at items) (are name.name ∙ position_from-zero (λ i. bytes_eq (item_bytes i) name.name) items) ∙ sym (from_first items name)
