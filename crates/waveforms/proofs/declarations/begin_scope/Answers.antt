use Rattle.std.proofs.Common.{◌++◌}
use Rattle.std.specs.Prelude.{codes}
use Rattle.waveforms.proofs.Added.{both_added}
use Rattle.waveforms.proofs.declarations.begin_scope.Goals as goal

pub returns : goal.returns
returns c =
    let old = c.args.text.now.items in
    let named = c.extend_from_slice-2.new.self.items in
    both_added old named c.extend_from_slice-3.new.self.items (codes "$scope module " ++ c.args.name.now) (codes " $end\n")
    (both_added old c.extend_from_slice.new.self.items named (codes "$scope module ") c.args.name.now c.in_ok-extend_from_slice.ensures.items
    c.in_ok-extend_from_slice-2.ensures.items) c.in_ok-extend_from_slice-3.ensures.items
