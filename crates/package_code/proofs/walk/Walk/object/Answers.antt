use Rattle.std.proofs.Common.{map, sym, ◌∙◌}
use Rattle.ada_tree.specs.ProgramTree.{program_tree, protected_item_tree}
use Rattle.package_code.proofs.WalkedInside.{object_named}
use Rattle.package_code.proofs.walk.Walk.object.Goals as goal

pub unreachable-requires : goal.unreachable-requires
unreachable-requires c =
    object_named c.scopes_are_sound.ensures c.names_are_known.ensures c.premises_hold.ensures (program_tree c.args.accepted.now) c.requires.legal
    c.requires.restricted c.args.directory.now c.requires.directory c.args.self.now c.args.name.now (map protected_item_tree c.args.items.now) c.requires.at.0
    c.requires.at.1 c.requires.walked (sym c.number_of.ensures ∙ c.in-None.is)
