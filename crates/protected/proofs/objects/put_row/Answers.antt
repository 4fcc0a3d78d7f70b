use Rattle.std.proofs.Common.{◌++◌, ap, map, set, ◌∙◌}
use Rattle.std.proofs.lemmas.List.{map-set}
use Rattle.protected.proofs.objects.put_row.Goals as goal

pub returns : goal.returns
returns c =
    map-set (λ l. l.items) c.args.rows.now c.args.row c.try_extend_from_slice.new.self
    ∙ ap (set (map (λ l. l.items) c.args.rows.now) c.args.row) (c.in-Ok.ensures.ok ∙ ap (λ l. l ++ c.args.list.now) c.clear.ensures)
