use Rattle.std.proofs.Common.{◌∙◌, ◌+◌, ◌*◌, ◌++◌, ap, codes}
use Rattle.waveforms.specs.Waves.{declaration_text, scope_text}
use Rattle.waveforms.proofs.declarations.task_scope.Goals as goal

pub returns : goal.returns
returns c =
    let state = c.as_slice.ensures.value ∙ c.declaration-state.ensures ∙ ap (λ n. declaration_text (codes "3") (1 + 2 * n) (codes "state")) c.from-before.ensures in
    let priority = c.as_slice-2.ensures.value ∙ c.declaration-priority.ensures ∙ ap (λ n. declaration_text (codes "8") (2 + 2 * n) (codes "priority")) c.from-before.ensures in
    c.scope.ensures ∙ (λ j. scope_text (c.task_name.ensures.same j) (state j ++ priority j))
