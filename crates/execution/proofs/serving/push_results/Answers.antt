use Rattle.std.proofs.Common.{◌+◌, ◌<◌, length, subst, sym}
use Rattle.execution.proofs.Pushing.{pushed_room}
use Rattle.execution.proofs.serving.push_results.Goals as goal

pub push-requires : goal.push-requires
push-requires c =
    let before = c.loop-index.invariant in
    let s = c.loop-index.state.task in
    subst (λ w. length s.frame.locals + length s.frame.stack < w) (sym before.1) (pushed_room c.args.state.now.width _ _ _ _ c.requires before.0 c.loop-index-test.true)
