use Rattle.std.proofs.Common.{◌≡◌, of_z, rules, subst, to_z, w64}
use Rattle.execution.proofs.Apart.{run_behind}
use Rattle.searching.specs.Following.{ComesAlong}
use Rattle.searching.specs.Passing.{ComesOut}
use Rattle.searching.specs.declared.whole.Searched.TheVariants as searched
use Rattle.searching.proofs.Through.{comes_out_found, comes_out_long, passed_met, passed_over, passed_quiet}
use Rattle.searching.proofs.whole.conclude.Goals as goal

pub returns-in-Found-clause-found : goal.returns-in-Found-clause-found
returns-in-Found-clause-found c = λ i part until limit wanted ran.
    let slots = c.args.choices.now in
    let places = c.args.choice.now in
    comes_out_found i slots part until limit wanted places c.args.schedule ran.through ran.is_of c.requires.schedule c.in-Found.finding
    (subst (ComesAlong i slots part until limit wanted places) c.in-Found.is ran.comes)

pub returns-in-TooLong-clause-found : goal.returns-in-TooLong-clause-found
returns-in-TooLong-clause-found c = λ i part until limit wanted ran.
    let slots = c.args.choices.now in
    let places = c.args.choice.now in
    let at : c.in-TooLong.time ≡ to_z w64 (of_z w64 c.in-TooLong.time) = search rules in
    subst (λ t. ComesOut i slots part until limit wanted (searched.TooLong c.args.schedule t)) at
    (comes_out_long i slots part until limit wanted places c.args.schedule ran.through ran.is_of c.requires.schedule c.in-TooLong.time
    (subst (ComesAlong i slots part until limit wanted places) c.in-TooLong.is ran.comes))

pub returns-in-Nothing-clause-passed : goal.returns-in-Nothing-clause-passed
returns-in-Nothing-clause-passed c = λ i part until limit wanted ran e.
    let slots = c.args.choices.now in
    let places = c.args.choice.now in
    passed_quiet i slots part until limit wanted places ran.through (subst (ComesAlong i slots part until limit wanted places) c.in-Nothing.is ran.comes)

pub returns-in-Met-clause-passed : goal.returns-in-Met-clause-passed
returns-in-Met-clause-passed c = λ i part until limit wanted ran e.
    let slots = c.args.choices.now in
    let places = c.args.choice.now in
    passed_met i slots part until limit wanted c.left_unmoved.ensures c.outcome_stays.ensures
    (λ lines pre n w. run_behind c.lines_apart.ensures c.lines_unread.ensures i lines pre n w) c.slots-slots.ensures.lawful places c.go_to_last.new.self
    c.in-Met.front ran.through (subst (ComesAlong i slots part until limit wanted places) c.in-Met.is ran.comes) c.go_to_last.ensures

pub returns-in-Over-clause-passed : goal.returns-in-Over-clause-passed
returns-in-Over-clause-passed c = λ i part until limit wanted ran e.
    let slots = c.args.choices.now in
    let places = c.args.choice.now in
    let over = subst (ComesAlong i slots part until limit wanted places) c.in-Over.is ran.comes in
    passed_over i slots part until limit wanted c.left_unmoved.ensures c.outcome_stays.ensures
    (λ lines pre n w. run_behind c.lines_apart.ensures c.lines_unread.ensures i lines pre n w) c.slots-slots.ensures.lawful places c.go_to_last-in-Over.new.self
    c.in-Over.front ran.through over.0 over.1 c.go_to_last-in-Over.ensures
