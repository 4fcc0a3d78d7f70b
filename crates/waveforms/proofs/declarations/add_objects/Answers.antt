use Rattle.std.proofs.Common.{◌+◌, ◌∙◌, ap, length, sym}
use Rattle.waveforms.specs.Signals.{components}
use Rattle.waveforms.specs.Waves.{object_name, object_scope, object_text, scope_text}
use Rattle.waveforms.proofs.Added.{one_added}
use Rattle.waveforms.proofs.Counts.{next_first}
use Rattle.waveforms.proofs.declarations.add_objects.Goals as goal

pub loop-object-preserved : goal.loop-object-preserved
loop-object-preserved c =
    let scopes = c.args.scopes.now in
    let o = c.loop-object.object in (
      one_added _ _ _ (object_scope scopes c.args.tasks) o _ c.loop-object.invariant.0 c.in_ok-add_object.ensures
          (ap (λ s. scope_text (object_name scopes o) (object_text scopes s o)) c.loop-object.invariant.1),
      c.in_ok-next.ensures ∙ ap (λ n. n + 2 + length (components scopes o)) c.loop-object.invariant.1 ∙ sym (next_first scopes c.args.tasks o),
    )
