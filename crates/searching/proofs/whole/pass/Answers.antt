use Rattle.std.proofs.Common.{◌≡◌, ◌∙◌, of_z, rules, subst, sym, to_z, false, w64}
use Rattle.choices.specs.Parts.{is_of_part}
use Rattle.choices.specs.Stepping.{IsFurther}
use Rattle.searching.specs.Following.{AreCheckpoints, ComesAlong}
use Rattle.searching.specs.Passing.{RunComesTo}
use Rattle.searching.proofs.Through.{passed_by_front}
use Rattle.searching.proofs.whole.pass.Goals as goal

pub is_of_part-requires : goal.is_of_part-requires
is_of_part-requires g c = c.requires.through.0

pub go_to_last-requires : goal.go_to_last-requires
go_to_last-requires g c = c.requires.through.0

pub returns-then-not-is_of_part-clause-passed : goal.returns-then-not-is_of_part-clause-passed
returns-then-not-is_of_part-clause-passed g c = λ e.
    let slots = c.args.choices.now in
    let part = c.args.part in
    let before = c.args.choice.now in
    let after = c.go_to_last.new.self in
    let left_out : is_of_part part slots before ≡ false = sym c.is_of_part.ensures ∙ c.if-not-is_of_part.true in
    passed_by_front c.args.image.now slots part c.args.until c.args.limit c.args.wanted before after c.requires.through left_out
    (subst (λ n. IsFurther slots n before after) c.front.ensures c.go_to_last.ensures)

pub run_on-requires-clause-is_of : goal.run_on-requires-clause-is_of
run_on-requires-clause-is_of g c = sym c.is_of_part.ensures ∙ c.if-not-is_of_part.false

pub run_on-requires-clause-checkpoints : goal.run_on-requires-clause-checkpoints
run_on-requires-clause-checkpoints g c =
    let u : to_z w64 (of_z w64 c.args.until) ≡ c.args.until = search rules in
    subst (λ z. AreCheckpoints c.args.image.now c.args.choices.now z c.args.limit c.args.wanted c.keep_those_of.new.self) (sym u)
    (c.keep_those_of.ensures c.args.image.now c.args.choices.now c.args.until c.args.limit c.args.wanted c.requires.checkpoints)

pub conclude-requires-clause-within : goal.conclude-requires-clause-within
conclude-requires-clause-within g c = c.requires.through.0

pub returns-clause-found : goal.returns-clause-found
returns-clause-found g c =
    let i = c.args.image.now in
    let slots = c.args.choices.now in
    let part = c.args.part in
    let places = c.args.choice.now in
    let followed = c.in_ok-followed.followed in
    let u : to_z w64 (of_z w64 c.args.until) ≡ c.args.until = search rules in
    let ran : RunComesTo i slots part c.args.until c.args.limit c.args.wanted places followed = record {
      through = c.requires.through;
      is_of = sym c.is_of_part.ensures ∙ c.if-not-is_of_part.false;
      comes = subst (λ z. ComesAlong i slots part z c.args.limit c.args.wanted places followed) u c.in_ok-followed.ensures.comes;
    } in
    c.conclude.ensures.found i part c.args.until c.args.limit c.args.wanted ran

pub returns-clause-passed : goal.returns-clause-passed
returns-clause-passed g c =
    let i = c.args.image.now in
    let slots = c.args.choices.now in
    let part = c.args.part in
    let places = c.args.choice.now in
    let followed = c.in_ok-followed.followed in
    let u : to_z w64 (of_z w64 c.args.until) ≡ c.args.until = search rules in
    let ran : RunComesTo i slots part c.args.until c.args.limit c.args.wanted places followed = record {
      through = c.requires.through;
      is_of = sym c.is_of_part.ensures ∙ c.if-not-is_of_part.false;
      comes = subst (λ z. ComesAlong i slots part z c.args.limit c.args.wanted places followed) u c.in_ok-followed.ensures.comes;
    } in
    c.conclude.ensures.passed i part c.args.until c.args.limit c.args.wanted ran

pub returns-clause-checkpoints : goal.returns-clause-checkpoints
returns-clause-checkpoints g c =
    let u : to_z w64 (of_z w64 c.args.until) ≡ c.args.until = search rules in
    subst (λ z. AreCheckpoints c.args.image.now c.args.choices.now z c.args.limit c.args.wanted c.run_on.new.path) u c.in_ok-followed.ensures.checkpoints
