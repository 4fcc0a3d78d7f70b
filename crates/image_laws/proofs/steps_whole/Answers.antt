use Rattle.image_laws.proofs.Wholeness.{runner_goes_on, runner_owes, runner_passes, runner_sound, starts_whole, steps_whole, unseen_whole}
use Rattle.image_laws.proofs.steps_whole.Goals as goal

pub returns-clause-starts : goal.returns-clause-starts
returns-clause-starts c = starts_whole c.begins_kept.ensures c.kept_by_every_effect.ensures c.steps_settle.ensures c.start_settles.ensures c.entry_opens.ensures c.reaches_callers.ensures c.four_statements_hold.ensures

pub returns-clause-steps : goal.returns-clause-steps
returns-clause-steps c = steps_whole c.begins_kept.ensures c.kept_by_every_effect.ensures c.steps_settle.ensures c.start_settles.ensures c.entry_opens.ensures c.reaches_callers.ensures c.four_statements_hold.ensures

pub returns-clause-unseen : goal.returns-clause-unseen
returns-clause-unseen c = unseen_whole c.begins_kept.ensures c.kept_by_every_effect.ensures c.steps_settle.ensures c.start_settles.ensures c.entry_opens.ensures c.reaches_callers.ensures c.four_statements_hold.ensures

pub returns-clause-runner : goal.returns-clause-runner
returns-clause-runner c = runner_sound c.begins_kept.ensures c.kept_by_every_effect.ensures c.steps_settle.ensures c.start_settles.ensures c.entry_opens.ensures c.reaches_callers.ensures c.four_statements_hold.ensures

pub returns-clause-owes : goal.returns-clause-owes
returns-clause-owes c = runner_owes c.begins_kept.ensures c.kept_by_every_effect.ensures c.steps_settle.ensures c.start_settles.ensures c.entry_opens.ensures c.reaches_callers.ensures c.four_statements_hold.ensures

pub returns-clause-passes : goal.returns-clause-passes
returns-clause-passes c = runner_passes c.begins_kept.ensures c.kept_by_every_effect.ensures c.steps_settle.ensures c.start_settles.ensures c.entry_opens.ensures c.reaches_callers.ensures c.four_statements_hold.ensures

pub returns-clause-goes_on : goal.returns-clause-goes_on
returns-clause-goes_on c =
    runner_goes_on c.begins_kept.ensures c.kept_by_every_effect.ensures c.steps_settle.ensures c.start_settles.ensures c.entry_opens.ensures c.reaches_callers.ensures c.four_statements_hold.ensures
    c.handlers_go_on.ensures
