use Rattle.std.proofs.Common.{refl, sym, subst}
use Rattle.ada_tree.specs.ProgramTree.{item_tree, program_tree}
use Rattle.unit_rules.specs.MainRules.{item_name}
use Rattle.package_code.proofs.AsTold.{declared_told, entries_next}
use Rattle.package_code.proofs.Told.{Grows, item_grows}
use Rattle.package_code.proofs.Walked.{declared_goes}
use Rattle.package_code.proofs.walk.Walk.declaration.Goals as goal

pub returns-clause-walked : goal.returns-clause-walked
returns-clause-walked c =
    declared_goes (program_tree c.args.accepted.now) c.args.directory.now c.args.self.now _ (item_tree c.args.item.now) c.declare_item.new.scope
    c.scope.result.now c.item_name.result.now c.tell.new.visible c.requires.walked c.requires.at c.in_ok-declare_item.ensures.ok c.scope.ensures
    c.item_name.ensures c.in_ok-tell.ensures.tells refl refl refl refl

pub tell-requires : goal.tell-requires
tell-requires c =
    record {
      next =
          entries_next c.args.self.now.visible (record c.args.self.now.visible { scope = c.declare_item.new.scope }) (item_name (item_tree c.args.item.now)).name c.requires.walked.told.entries
          (subst (Grows c.args.self.now.visible.scope (item_name (item_tree c.args.item.now)).name) (sym c.in_ok-declare_item.ensures.ok)
          (item_grows c.args.self.now.visible.scope (item_tree c.args.item.now))) refl refl;
    }

pub returns-clause-told : goal.returns-clause-told
returns-clause-told c =
    declared_told (program_tree c.args.accepted.now) c.args.directory.now c.requires.directory c.args.self.now _ (item_tree c.args.item.now)
    c.declare_item.new.scope c.scope.result.now c.item_name.result.now c.tell.new.visible c.requires.told c.requires.at c.in_ok-declare_item.ensures.ok
    c.scope.ensures c.item_name.ensures c.in_ok-tell.ensures.tells refl refl refl
