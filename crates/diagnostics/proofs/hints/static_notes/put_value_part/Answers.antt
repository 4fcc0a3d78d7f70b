use Rattle.std.proofs.Common.{◌≡◌, ◌++◌, ◌∙◌, ap, of_z, rules, to_z, w64}
use Rattle.std.specs.Prelude.{codes}
use Rattle.diagnostics.specs.hints.StaticNotes.{number_text, value_part}
use Rattle.diagnostics.proofs.Pieces.{two_pieces}
use Rattle.diagnostics.proofs.hints.static_notes.put_value_part.Goals as goal

pub returns : goal.returns
unfolding value_part
returns c =
    let same : to_z w64 (of_z w64 c.args.value) ≡ c.args.value = search rules in
    two_pieces c.args.out.now.items _ _ (codes "the value is ") (number_text c.args.value) c.in_ok-extend_from_slice.ensures.items
    (c.in_ok-put_number.ensures ∙ ap (λ z. c.extend_from_slice.new.self.items ++ number_text z) same)
