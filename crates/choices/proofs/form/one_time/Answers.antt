use Rattle.std.proofs.Common.{refl}
use Rattle.choices.proofs.form.one_time.Goals as goal

pub returns-clause-same : goal.returns-clause-same
returns-clause-same c = λ a e. c.times_of.ensures.same a a 1 e e refl
