use Rattle.std.proofs.Common.{ap, sym, ◌∙◌}
use Rattle.std.specs.Prelude.{bytes_eq}
use Rattle.types.specs.Scopes.{entry_value, number_of}
use Rattle.types.proofs.Lists.{position_map}
use Rattle.types.proofs.scope.Scope.number_of.Goals as goal

pub returns : goal.returns
returns c =
    c.get_index_of.ensures.index
    ∙ sym (position_map (λ e. e.0) (bytes_eq c.args.name.now) c.self.inside.names.entries)
    ∙ position_map entry_value (λ n. bytes_eq c.args.name.now n.name) c.self.inside.names.entries
    ∙ ap (λ s. number_of s c.args.name.now) c.self.view_is
