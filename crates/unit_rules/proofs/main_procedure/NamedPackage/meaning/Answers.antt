use Rattle.std.proofs.Common.{◌∙◌, ap, map}
use Rattle.ada_tree.specs.ProgramTree.{item_tree}
use Rattle.unit_rules.specs.MainRules.{declared_meaning, meaning_at}
use Rattle.unit_rules.proofs.Meanings.{meaning_found}
use Rattle.unit_rules.proofs.main_procedure.NamedPackage.meaning.Goals as goal

pub returns : goal.returns
returns c =
    let name = c.args.name.now in
    let items = c.self.inside.package_.now.declaration.items.items in
    c.meaning_at.ensures
    ∙ (λ j. meaning_at (c.deref.ensures.value j) (c.place_of.ensures j))
    ∙ meaning_found items c.self.inside.places name c.self.invariant
    ∙ ap (λ p. declared_meaning (map item_tree p.declaration.items.items) name) c.self.view_is
