use Rattle.std.proofs.Common.{◌-◌, sym, subst}
use Rattle.image.specs.Rules.{IsWellFormed}
use Rattle.execution.specs.Held.{Leads, lines_of}
use Rattle.execution.proofs.Advancing.{HasGone, acted, gone_leads, gone_whole, has_passed, image, settled_leads, settled_whole}
use Rattle.execution.proofs.state.State.advance_task.Goals as goal

pub returns-in-None-clause-whole : goal.returns-in-None-clause-whole
returns-in-None-clause-whole g c =
    let runs = c.requires.runs in
    let steps = c.steps_whole.ensures.steps in
    let unseen = c.steps_whole.ensures.unseen in
    let a = c.args.self.now in
    let b = c.go-went.new.self in
    let left = c.go-went.result.left in
    let went = subst (λ o. HasGone steps unseen a b c.go-went.ensures.well_formed c.args.task c.args.limit left c.requires.whole runs c.go-went.ensures.moved c.go-went.ensures.there o) c.in-None.is c.go-went.ensures.went in
    gone_whole steps unseen a b c.go-went.ensures.well_formed c.args.task c.args.limit left c.requires.whole runs c.go-went.ensures.moved c.go-went.ensures.there went

pub settle-line-requires-clause-owes : goal.settle-line-requires-clause-owes
settle-line-requires-clause-owes g c =
    let runs = c.requires.runs in
    let steps = c.steps_whole.ensures.steps in
    let unseen = c.steps_whole.ensures.unseen in
    let a = c.args.self.now in
    let b = c.go-went.new.self in
    let left = c.go-went.result.left in
    let went = subst (λ o. HasGone steps unseen a b c.go-went.ensures.well_formed c.args.task c.args.limit left c.requires.whole runs c.go-went.ensures.moved c.go-went.ensures.there o) c.in-Some.is c.go-went.ensures.went in
    (acted steps unseen a b c.go-went.ensures.well_formed c.args.task c.args.limit left c.requires.whole runs c.go-went.ensures.moved c.go-went.ensures.there _ went).owes

pub settle-line-requires-clause-passed : goal.settle-line-requires-clause-passed
settle-line-requires-clause-passed g c =
    let runs = c.requires.runs in
    let steps = c.steps_whole.ensures.steps in
    let unseen = c.steps_whole.ensures.unseen in
    let a = c.args.self.now in
    let b = c.go-went.new.self in
    let left = c.go-went.result.left in
    let moved = c.go-went.ensures.moved in
    let went = subst (λ o. HasGone steps unseen a b c.go-went.ensures.well_formed c.args.task c.args.limit left c.requires.whole runs moved c.go-went.ensures.there o) c.in-Some.is c.go-went.ensures.went in
    let owes = (acted steps unseen a b c.go-went.ensures.well_formed c.args.task c.args.limit left c.requires.whole runs moved c.go-went.ensures.there _ went).owes in
    let w = subst IsWellFormed (sym (image steps unseen a b c.go-went.ensures.well_formed c.args.task c.args.limit left c.requires.whole runs moved c.go-went.ensures.there)) c.go-went.ensures.well_formed in
    has_passed c.effects_named.ensures c.steps_whole.ensures.passes b w c.args.task _ owes

pub returns-in-Some-clause-whole : goal.returns-in-Some-clause-whole
returns-in-Some-clause-whole g c =
    let runs = c.requires.runs in
    let steps = c.steps_whole.ensures.steps in
    let unseen = c.steps_whole.ensures.unseen in
    let a = c.args.self.now in
    let b = c.go-went.new.self in
    let left = c.go-went.result.left in
    let moved = c.go-went.ensures.moved in
    let went = subst (λ o. HasGone steps unseen a b c.go-went.ensures.well_formed c.args.task c.args.limit left c.requires.whole runs moved c.go-went.ensures.there o) c.in-Some.is c.go-went.ensures.went in
    let q = acted steps unseen a b c.go-went.ensures.well_formed c.args.task c.args.limit left c.requires.whole runs moved c.go-went.ensures.there _ went in
    settled_whole steps unseen a b c.go-went.ensures.well_formed c.args.task c.args.limit left c.requires.whole runs moved c.go-went.ensures.there _ q c.settle-line.new.self _ c.settle-line.ensures.settles c.kept_with_lines.ensures

pub returns-in-None-clause-leads : goal.returns-in-None-clause-leads
returns-in-None-clause-leads g c =
    let runs = c.requires.runs in
    let steps = c.steps_whole.ensures.steps in
    let unseen = c.steps_whole.ensures.unseen in
    let a = c.args.self.now in
    let b = c.go-went.new.self in
    let left = c.go-went.result.left in
    let moved = c.go-went.ensures.moved in
    let went = subst (λ o. HasGone steps unseen a b c.go-went.ensures.well_formed c.args.task c.args.limit left c.requires.whole runs moved c.go-went.ensures.there o) c.in-None.is c.go-went.ensures.went in
    (gone_leads steps unseen a b c.go-went.ensures.well_formed c.args.task c.args.limit left c.requires.whole runs moved c.go-went.ensures.there c.lines_apart.ensures c.lines_unread.ensures went)

pub returns-in-Some-clause-leads : goal.returns-in-Some-clause-leads
returns-in-Some-clause-leads g c =
    let runs = c.requires.runs in
    let steps = c.steps_whole.ensures.steps in
    let unseen = c.steps_whole.ensures.unseen in
    let a = c.args.self.now in
    let b = c.go-went.new.self in
    let left = c.go-went.result.left in
    let moved = c.go-went.ensures.moved in
    let went = subst (λ o. HasGone steps unseen a b c.go-went.ensures.well_formed c.args.task c.args.limit left c.requires.whole runs moved c.go-went.ensures.there o) c.in-Some.is c.go-went.ensures.went in
    let q = acted steps unseen a b c.go-went.ensures.well_formed c.args.task c.args.limit left c.requires.whole runs moved c.go-went.ensures.there _ went in
    let here = image steps unseen a b c.go-went.ensures.well_formed c.args.task c.args.limit left c.requires.whole runs moved c.go-went.ensures.there in
    subst (λ i. Leads (c.args.limit - left) c.args.self.now c.settle-line.new.self (lines_of i c.settle-line.result)) here
    (settled_leads steps unseen a b c.go-went.ensures.well_formed c.args.task c.args.limit left c.requires.whole runs moved c.go-went.ensures.there _ q c.settle-line.new.self _ c.settle-line.ensures.settles c.lines_apart.ensures c.lines_unread.ensures)
