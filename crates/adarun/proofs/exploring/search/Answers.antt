use Rattle.std.proofs.Common.{◌≡◌, Err, ap, of_z, rules, subst, to_z, w64}
use Rattle.machine.specs.declared.fault.RunFault.TheVariants as runs
use Rattle.choices.specs.Faults.{RefusesChoicesText}
use Rattle.adarun.specs.Accepted.{RefusesAccepted}
use Rattle.adarun.specs.Searching.{BeginsReport, WritesReport}
use Rattle.adarun.specs.FirstFound.{WritesFirst}
use Rattle.adarun.proofs.exploring.search.Goals as goal

pub returns-in-Ok-search_set-clause-answers : goal.returns-in-Ok-search_set-clause-answers
returns-in-Ok-search_set-clause-answers g c =
    let u : to_z w64 (of_z w64 c.args.until) ≡ c.args.until = search rules in
    subst
    (λ z. WritesReport c.args.source.now c.args.choices.now c.args.part z c.args.limit c.args.wanted c.in-Ok-search_set.outcome
    (g.S.Sink.bytes c.args.sink.now) (g.S.Sink.bytes c.search_set.new.sink)) u
    (c.in-Ok-search_set.ensures.answers _ _ c.in-Ok.ensures.means c.in-Ok-read.ensures.read)

pub returns-in-Ok-search_set-clause-first : goal.returns-in-Ok-search_set-clause-first
returns-in-Ok-search_set-clause-first g c =
    let u : to_z w64 (of_z w64 c.args.until) ≡ c.args.until = search rules in
    subst
    (λ z. WritesFirst c.args.source.now c.args.choices.now c.args.part z c.args.limit c.args.wanted c.in-Ok-search_set.outcome
    (g.S.Sink.bytes c.args.sink.now) (g.S.Sink.bytes c.search_set.new.sink)) u
    (c.in-Ok-search_set.ensures.first _ _ c.in-Ok.ensures.means c.in-Ok-read.ensures.read)

pub returns-clause-beginning : goal.returns-clause-beginning
returns-clause-beginning g c = λ is.
    let u : to_z w64 (of_z w64 c.args.until) ≡ c.args.until = search rules in
    let write : c.in-Err-search_set.fault ≡ runs.Write = cc in
    subst
    (λ z. BeginsReport c.args.source.now c.args.choices.now c.args.part z c.args.limit c.args.wanted
    (g.S.Sink.bytes c.args.sink.now) (g.S.Sink.bytes c.search_set.new.sink)) u
    (c.in-Err-search_set.ensures.beginning (ap Err write) _ _ c.in-Ok.ensures.means c.in-Ok-read.ensures.read)

pub returns-in-Err-clause-accepted : goal.returns-in-Err-clause-accepted
returns-in-Err-clause-accepted g c = λ tree fault is same.
    let told : c.in-Err.fault ≡ fault = cc in
    subst (RefusesAccepted c.args.source.now tree) told (c.in-Err.ensures.accepted tree is)

pub returns-in-Err-read-clause-refused : goal.returns-in-Err-read-clause-refused
returns-in-Err-read-clause-refused g c =
    let until : to_z w64 (of_z w64 c.args.until) ≡ c.args.until = search rules in (
      record { image = c.in-Ok.image; compiles = c.in-Ok.ensures.means },
      subst (λ z. RefusesChoicesText z c.args.choices.now c.in-Err-read.fault) until c.in-Err-read.ensures.refused,
    )
