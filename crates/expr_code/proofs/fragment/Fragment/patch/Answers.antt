use Rattle.std.proofs.Common.{refl, rules, ap, ◌∙◌, ◌≤◌, length}
use Rattle.expr_code.specs.Pieces.{patched}
use Rattle.expr_code.proofs.Pieces.{patched_made, patched_none, there}
use Rattle.expr_code.proofs.fragment.Fragment.patch.Goals as goal

pub returns-then-place-len : goal.returns-then-place-len
returns-then-place-len c = record {
  made = patched_made c.self.inside.before c.self.inside.instructions.items _ c.args.place c.index.result.now.depth c.index.result.now c.args.operation
      (there c.self.inside.instructions.items c.args.place c.index.result.now (search rules) c.index.ensures) refl refl
      ∙ ap (λ m. patched m c.args.place c.args.operation) c.self.view_is;
}

pub returns-else-place-len : goal.returns-else-place-len
returns-else-place-len c = record { made = patched_none _ _ c.args.place _ (let le : length c.args.self.now.code ≤ c.args.place = search rules in le) }
