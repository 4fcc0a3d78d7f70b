use Rattle.command_line.proofs.Judging.{accepted, refused}
use Rattle.command_line.proofs.plain_request.Goals as goal

pub returns-in-Ok-try_get_matches_from : goal.returns-in-Ok-try_get_matches_from
returns-in-Ok-try_get_matches_from c =
    accepted _ _ c.in-Ok-try_get_matches_from.matches _ c.in-Ok.ensures c.in-Ok-try_get_matches_from.ensures.matches c.in-Ok-try_get_matches_from.ensures.kinds c.request_among.ensures

pub returns-in-Err : goal.returns-in-Err
returns-in-Err c = refused _ _ c.in-Err.error _ c.in-Ok.ensures c.in-Err.ensures.kinds c.error_of.ensures.memory
