use Rattle.std.proofs.Common.{Some, sym, ap, ◌∙◌, slice_get}
use Rattle.std.proofs.lemmas.Option.{slice_get-get_or}
use Rattle.types.specs.Layouts.{first_word}
use Rattle.types.proofs.Placing.{placed_at}
use Rattle.types.proofs.layout.Layout.first_word.Goals as goal

pub returns-in-Some-clause-place : goal.returns-in-Some-clause-place
returns-in-Some-clause-place c =
    let n = c.args.position in
    let p = c.in-Some.placed.now in
    let found = c.in-Some.ensures.lookup in
    let at = ap (λ l. slice_get l n) (sym c.deref.ensures.value) ∙ slice_get-get_or c.deref.result.now n p found.3.0 ∙ ap Some (sym found.1) in
    placed_at c.self.inside.objects.items n p c.self.invariant.0 at ∙ ap (λ o. first_word o.words n) c.self.view_is
