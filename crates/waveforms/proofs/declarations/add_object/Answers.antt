use Rattle.std.proofs.Common.{◌≡◌, ◌∙◌, OnOk, subst}
use Rattle.waveforms.specs.Waves.{object_name, object_text}
use Rattle.waveforms.proofs.Declared.{scope_added}
use Rattle.waveforms.proofs.declarations.add_object.Goals as goal

pub returns : goal.returns
returns c =
    let scopes = c.args.scopes.now in
    subst (λ l. OnOk c.end_scope.result (c.end_scope.new.text.items ≡ l))
    (scope_added c.args.text.now.items c.begin_scope.new.text.items c.add_object_signals.new.text.items c.as_slice.result.now (object_name scopes c.args.object)
    (object_text scopes c.args.first c.args.object) (c.as_slice.ensures.value ∙ c.object_name.ensures) c.in_ok-begin_scope.ensures c.in_ok-add_object_signals.ensures)
    c.end_scope.ensures
