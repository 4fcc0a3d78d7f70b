use Rattle.std.proofs.Common.{◌≡◌, ◌∙◌, ◌+◌, ◌++◌, ap, sym, codes, length, slice_get}
use Rattle.std.proofs.lemmas.Bool.{lt-ltb}
use Rattle.std.specs.Prelude.{◌-◌, if◌then◌else◌}
use Rattle.image.specs.Texts.{name_of, names_of}
use Rattle.kernel.specs.Interrupts.{interrupt_name}
use Rattle.waveforms.specs.Signals.{all_below, channels, object_first}
use Rattle.waveforms.specs.Waves.{declaration_text, inputs_scope, lines_scope, object_scope, package_scope, preamble, task_scope}
use Rattle.waveforms.proofs.Added.{below_same}
use Rattle.waveforms.proofs.declarations.declarations.Goals as goal

pub returns : goal.returns
returns c =
    let i = c.args.image.now in
    let count = length i.tasks in
    let scopes : all_below count (task_scope (λ t. name_of (slice_get i.tasks t))) ≡ all_below count (task_scope (names_of i).task) =
    below_same count _ _
    (λ t less.
    let named : name_of (slice_get i.tasks t) ≡ (names_of i).task t =
    sym (ap (λ b. if b then name_of (slice_get i.tasks t) else interrupt_name (t - count)) (lt-ltb t count less)) in
    ap (λ n. task_scope (λ u. n) t) named) in
    let time = c.in_ok-extend_from_slice.ensures.items ∙ (λ j. c.in_ok-text.ensures j ++ (c.as_slice.ensures.value ∙ c.declaration.ensures) j) in
    let tasks = c.in_ok-add_tasks.ensures
    ∙ (λ j. time j ++ all_below (c.requires.tasks j) (task_scope (λ t. name_of (slice_get (c.tasks.ensures.same j) t))))
    ∙ ap (λ v. preamble c.args.axis ++ declaration_text (codes "64") 0 (codes "time") ++ v) scopes in
    let variables = c.in_ok-add_package.ensures ∙ (λ j. tasks j ++ package_scope (c.requires.tasks j) (c.package_.ensures j)) in
    let objects = c.in_ok-add_objects.ensures ∙ (λ j. variables j ++ all_below (c.requires.objects j) (object_scope c.args.scopes.now (c.requires.tasks j))) in
    let first = c.in_ok-first.ensures ∙ (λ j. object_first c.args.scopes.now (c.requires.tasks j) (c.requires.objects j)) in
    let channels_are = c.channels-channels.ensures.is ∙ ap channels c.inputs.ensures in
    let inputs = c.in_ok-add_inputs.ensures ∙ (λ j. objects j ++ inputs_scope (first j) (channels_are j)) in
    let after = c.in_ok-after.ensures ∙ (λ j. first j + length (channels_are j)) in
    let lines = c.in_ok-add_lines.ensures ∙ (λ j. inputs j ++ lines_scope (names_of i).task (after j) (c.labels.ensures j)) in
    c.in_ok-extend_from_slice-2.ensures.items ∙ ap (λ v. v ++ codes "$upscope $end\n$enddefinitions $end\n") lines
