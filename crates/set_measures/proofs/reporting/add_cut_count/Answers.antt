use Rattle.std.proofs.Common.{◌++◌, ◌∙◌, ap, append_assoc}
use Rattle.std.proofs.lemmas.Result.{on_ok_weaker}
use Rattle.std.specs.Prelude.{codes}
use Rattle.set_measures.specs.Text.{number_end}
use Rattle.set_measures.proofs.reporting.add_cut_count.Goals as goal

pub returns : goal.returns
returns c =
    let count = number_end c.args.cut (codes " cut by the limit on steps") in
    on_ok_weaker c.put_number.result
    (λ h. h ∙ ap (λ front. front ++ count) c.in_ok-extend_from_slice.ensures.items ∙ append_assoc c.args.text.now.items (codes ", ") count) c.put_number.ensures
