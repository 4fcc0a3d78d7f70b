use Rattle.std.proofs.Common.{◌≡◌, ◌<◌, of_z, rules, subst, sym, to_z, w64}
use Rattle.std.specs.Prelude.{IfSome}
use Rattle.choices.proofs.Lawful.{each_lawful}
use Rattle.searching.specs.Following.{AreCheckpoints}
use Rattle.searching.specs.Passing.{ComesOut, Through}
use Rattle.searching.specs.Searches.{FindsFirst, Searches}
use Rattle.searching.specs.declared.whole.Searched.TheVariants as searched
use Rattle.searching.proofs.Through.{fewer_passed, runs_left, through_all, through_first, through_next}
use Rattle.searching.proofs.whole.search.Goals as goal

pub loop-is_more-init : goal.loop-is_more-init
loop-is_more-init g c = (
  through_first c.args.image.now c.args.choices.now c.args.part (to_z w64 (of_z w64 c.args.until)) c.args.limit c.args.wanted c.in_ok-choice.choice c.in_ok-choice.ensures.first
      c.in_ok-choice.ensures.within,
  subst (AreCheckpoints c.args.image.now c.args.choices.now (to_z w64 (of_z w64 c.args.until)) c.args.limit c.args.wanted) (sym c.new-path.ensures) tt,
  c.new-table.ensures c.args.image.now c.args.choices.now c.args.part,
  tt,
)

pub pass-requires-clause-through : goal.pass-requires-clause-through
pass-requires-clause-through g c =
    subst (λ b. Through c.args.image.now c.args.choices.now c.args.part (to_z w64 (of_z w64 c.args.until)) c.args.limit c.args.wanted b c.loop-is_more.choice)
    c.loop-is_more-test.true c.loop-is_more.invariant.0

pub returns-in-Some-clause-answer : goal.returns-in-Some-clause-answer
returns-in-Some-clause-answer g c =
    let u : to_z w64 (of_z w64 c.args.until) ≡ c.args.until = search rules in
    let out = subst (λ o. IfSome o (ComesOut c.args.image.now c.args.choices.now c.args.part (to_z w64 (of_z w64 c.args.until)) c.args.limit c.args.wanted)) c.in-Some.is
    c.in_ok-found.ensures.found in
    subst (λ z. Searches c.args.image.now c.args.choices.now c.args.part z c.args.limit c.args.wanted c.in-Some.searched) u out.answer

pub returns-in-Some-clause-first : goal.returns-in-Some-clause-first
returns-in-Some-clause-first g c =
    let u : to_z w64 (of_z w64 c.args.until) ≡ c.args.until = search rules in
    let out = subst (λ o. IfSome o (ComesOut c.args.image.now c.args.choices.now c.args.part (to_z w64 (of_z w64 c.args.until)) c.args.limit c.args.wanted)) c.in-Some.is
    c.in_ok-found.ensures.found in
    subst (λ z. FindsFirst c.args.image.now c.args.choices.now c.args.part z c.args.limit c.args.wanted c.in-Some.searched) u out.first

pub advance-is_more-requires : goal.advance-is_more-requires
advance-is_more-requires g c = (c.in_ok-found.ensures.passed c.in-None.is).through.0

pub loop-is_more-smaller : goal.loop-is_more-smaller
loop-is_more-smaller g c =
    subst (λ b. runs_left c.args.choices.now c.advance-is_more.result c.advance-is_more.new.self < runs_left c.args.choices.now b c.loop-is_more.choice)
    (sym c.loop-is_more-test.true)
    (fewer_passed c.args.choices.now c.advance-is_more.result c.loop-is_more.choice c.pass.new.choice c.advance-is_more.new.self
    (each_lawful c.args.choices.now c.slots-slots.ensures.lawful) (c.in_ok-found.ensures.passed c.in-None.is).fewer c.advance-is_more.ensures)

pub loop-is_more-preserved : goal.loop-is_more-preserved
loop-is_more-preserved g c =
    let p = c.in_ok-found.ensures.passed c.in-None.is in (
      through_next c.args.image.now c.args.choices.now c.args.part (to_z w64 (of_z w64 c.args.until)) c.args.limit c.args.wanted c.advance-is_more.result
          c.pass.new.choice c.advance-is_more.new.self p.through p.quiet c.advance-is_more.ensures,
      c.in_ok-found.ensures.checkpoints,
      c.in_ok-found.ensures.rows,
      c.in_ok-found.ensures.rooms,
    )

pub returns-clause-answer : goal.returns-clause-answer
returns-clause-answer g c =
    let u : to_z w64 (of_z w64 c.args.until) ≡ c.args.until = search rules in
    let t = subst (λ b. Through c.args.image.now c.args.choices.now c.args.part (to_z w64 (of_z w64 c.args.until)) c.args.limit c.args.wanted b c.loop-is_more.choice)
    c.loop-is_more-test.false c.loop-is_more.invariant.0 in
    subst (λ z. Searches c.args.image.now c.args.choices.now c.args.part z c.args.limit c.args.wanted (searched.Nothing c.count-2.result)) u
    (through_all c.args.image.now c.args.choices.now c.args.part (to_z w64 (of_z w64 c.args.until)) c.args.limit c.args.wanted c.loop-is_more.choice c.count-2.result t)
