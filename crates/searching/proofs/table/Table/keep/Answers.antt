use Rattle.std.proofs.Common.{ap, sym, subst}
use Rattle.std.specs.Prelude.{nat_eq}
use Rattle.std.specs.Map.{values_of}
use Rattle.searching.specs.Following.{AreKeptRows}
use Rattle.searching.proofs.Rows.{rows_with}
use Rattle.searching.proofs.table.Table.keep.Goals as goal

pub returns : goal.returns
returns c = λ i slots part all is.
    subst (AreKeptRows i slots part) (sym (ap values_of c.in_ok-insert.ensures.entries))
    (rows_with i slots part nat_eq c.self.inside.rows.entries c.args.digest c.args.row (subst (AreKeptRows i slots part) (sym c.self.view_is) (c.make_room.ensures i slots part all)) is)
