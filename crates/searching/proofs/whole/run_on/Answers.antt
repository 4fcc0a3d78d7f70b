use Rattle.std.proofs.Common.{◌≡◌, ◌∙◌, of_z, rules, subst, sym, to_z, w64}
use Rattle.std.specs.Prelude.{IfSome}
use Rattle.searching.specs.Following.{AreCheckpoints, AreKeptRows, ComesAlong, Standing}
use Rattle.tasking.specs.Held.{kernel_of}
use Rattle.searching.proofs.whole.run_on.Goals as goal

pub begin-requires-clause-rooms : goal.begin-requires-clause-rooms
begin-requires-clause-rooms g c = subst (λ o. IfSome o (λ r. r.value ≡ c.args.image.now)) (sym c.take-taken.ensures.value) c.requires.rooms

pub begin-requires-clause-checkpoints : goal.begin-requires-clause-checkpoints
begin-requires-clause-checkpoints g c = (c.args.until, c.args.wanted, c.requires.checkpoints)

pub follow-requires-clause-start : goal.follow-requires-clause-start
follow-requires-clause-start g c =
    let i = c.args.image.now in
    let until = to_z w64 (of_z w64 c.args.until) in
    let u : until ≡ c.args.until = search rules in
    let begun = c.in_ok-begun.begun in
    let stands = c.in_ok-begun.ensures.stands c.args.until c.args.wanted c.requires.checkpoints in
    subst (λ j. Standing j c.args.schedule.now until c.args.limit c.args.wanted begun.0 (kernel_of begun.0.tasking).now begun.1.left) (sym c.in_ok-begun.ensures.image)
    (subst (λ z. Standing i c.args.schedule.now z c.args.limit c.args.wanted begun.0 (kernel_of begun.0.tasking).now begun.1.left) (sym u) stands)

pub follow-requires-clause-checkpoints : goal.follow-requires-clause-checkpoints
follow-requires-clause-checkpoints g c =
    let until = to_z w64 (of_z w64 c.args.until) in
    let u : until ≡ c.args.until = search rules in
    subst (λ j. AreCheckpoints j c.args.choices.now until c.args.limit c.args.wanted c.args.path.now) (sym c.in_ok-begun.ensures.image)
    (subst (λ z. AreCheckpoints c.args.image.now c.args.choices.now z c.args.limit c.args.wanted c.args.path.now) (sym u) c.requires.checkpoints)

pub follow-requires-clause-rows : goal.follow-requires-clause-rows
follow-requires-clause-rows g c = subst (λ j. AreKeptRows j c.args.choices.now c.args.part c.args.table.now) (sym c.in_ok-begun.ensures.image) c.requires.rows

pub returns-clause-comes : goal.returns-clause-comes
returns-clause-comes g c =
    let until = to_z w64 (of_z w64 c.args.until) in
    let u : until ≡ c.args.until = search rules in
    let followed = c.in_ok-followed.followed in
    subst (λ z. ComesAlong c.args.image.now c.args.choices.now c.args.part z c.args.limit c.args.wanted c.args.choice.now followed) u
    (subst (λ j. ComesAlong j c.args.choices.now c.args.part until c.args.limit c.args.wanted c.args.choice.now followed) c.in_ok-begun.ensures.image
    c.in_ok-followed.ensures.answer)

pub returns-clause-checkpoints : goal.returns-clause-checkpoints
returns-clause-checkpoints g c =
    let until = to_z w64 (of_z w64 c.args.until) in
    let u : until ≡ c.args.until = search rules in
    subst (λ z. AreCheckpoints c.args.image.now c.args.choices.now z c.args.limit c.args.wanted c.follow.new.path) u
    (subst (λ j. AreCheckpoints j c.args.choices.now until c.args.limit c.args.wanted c.follow.new.path) c.in_ok-begun.ensures.image
    c.in_ok-followed.ensures.checkpoints)

pub returns-clause-rows : goal.returns-clause-rows
returns-clause-rows g c = subst (λ j. AreKeptRows j c.args.choices.now c.args.part c.follow.new.table) c.in_ok-begun.ensures.image c.in_ok-followed.ensures.rows

pub returns-clause-rooms : goal.returns-clause-rooms
returns-clause-rooms g c = c.in_ok-left.ensures ∙ (c.in_ok-followed.ensures.image ∙ c.in_ok-begun.ensures.image)
