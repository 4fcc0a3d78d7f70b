use Rattle.std.proofs.Common.{ap, ◌∙◌, ◌++◌, ◌∷◌, [], ℕ, List, length}
use Rattle.text_edits.specs.Edits.{TextEdit, end_of, is_after}
use Rattle.text_edits.proofs.Added.{with_one}
use Rattle.text_edits.proofs.edits.Edits.replace.Goals as goal

pub invariant_of-self-2 : goal.invariant_of-self-2
invariant_of-self-2 c =
    with_one c.self.inside.text.now c.self.inside.edits.items c.push.new.self.items c.args.span c.args.replacement.now c.is_after.result c.self.invariant
    (c.is_after.ensures ∙ ap (λ (e : ℕ). is_after e (length c.self.inside.text.now) c.args.span) (c.end_of.ensures ∙ ap (λ (l : List TextEdit). end_of l) c.deref.ensures.value))
    c.if-not-is_after.false
    (c.in_ok-push.ensures.items ∙ ap (λ e. c.self.inside.edits.items ++ e ∷ []) (c.new.ensures ∙ ap (λ (r : List ℕ). record { span = c.args.span; replacement = r }) c.in_ok-new.ensures))
