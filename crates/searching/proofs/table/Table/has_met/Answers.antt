use Rattle.std.proofs.Common.{◌≡◌, of_z, rules, subst, sym, to_z, w64}
use Rattle.indexmap.specs.IndexMap.{values}
use Rattle.searching.specs.Following.{AreKeptRows, MeetsRow}
use Rattle.searching.proofs.Rows.{row_among}
use Rattle.searching.proofs.table.Table.has_met.Goals as goal

pub returns : goal.returns
returns c = λ e i slots part all.
    let u : to_z w64 (of_z w64 c.args.time) ≡ c.args.time = search rules in (
      c.in-Some.row.now,
      row_among i slots part (values c.self.inside.rows) c.in-Some.row.now c.in-Some.ensures.member (subst (AreKeptRows i slots part) (sym c.self.view_is) all),
      subst (λ z. MeetsRow c.in-Some.row.now c.args.choice.now c.args.front z c.args.values.now c.args.encoded.now) u (c.is_met.ensures e),
    )
