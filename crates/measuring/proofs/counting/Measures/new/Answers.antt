use Rattle.std.proofs.Common.{rules, ◌≡◌, ◌∙◌, ◌*◌, [], ap, sym, subst}
use Rattle.std.specs.Prelude.{replicate}
use Rattle.base.specs.declared.limits.TheConstants.{OBJECTS}
use Rattle.tracing.specs.declared.calls.TheConstants.{ACTORS}
use Rattle.measuring.specs.Measures.{measures, object_measures, usage_measures}
use Rattle.measuring.specs.Tables.{IsGrid, IsTable}
use Rattle.measuring.proofs.Tabled.{same_grid, same_rows}
use Rattle.measuring.proofs.counting.Measures.new.Goals as goal

pub returns-clause-nothing : goal.returns-clause-nothing
returns-clause-nothing c =
    let actor : c.default.result ≡ measures [] = search rules in
    let object : c.default-2.result ≡ object_measures [] = search rules in
    let usage : c.default-3.result ≡ usage_measures [] = search rules in
    let actors = c.in_ok-table_of.ensures ∙ ap (replicate ACTORS) actor in
    let objects = c.in_ok-table_of-2.ensures ∙ ap (replicate ACTORS) object in
    let usages = c.in_ok-table_of-3.ensures ∙ ap (replicate (ACTORS * OBJECTS)) usage in
    record {
      actors = subst (λ table. IsTable table (λ t. measures [])) (sym actors) (same_rows (measures []));
      objects = subst (λ table. IsTable table (λ o. object_measures [])) (sym objects) (same_rows (object_measures []));
      usages_are = subst (λ table. IsGrid table (λ t o. usage_measures [])) (sym usages) (same_grid (usage_measures []));
      instants_are = c.new.ensures;
    }
