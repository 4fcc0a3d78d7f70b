use Rattle.std.proofs.Common.{◌≡◌, true, is_none, sym, ap, ◌∙◌}
use Rattle.handlers.specs.Nesting.{are_sound}
use Rattle.handlers.specs.Searching.{cover_something}
use Rattle.handlers.proofs.Indexed.{cover}
use Rattle.handlers.proofs.Regions.{and-left}
use Rattle.handlers.proofs.rows.build.Goals as goal

pub new-requires-2-clause-covering : goal.new-requires-2-clause-covering
new-requires-2-clause-covering c =
    let sound : are_sound c.in_ok-holders.holders c.deref.result.now ≡ true = sym c.in_ok-row.ensures.sound ∙ ap is_none c.in_default.is in
    ap cover_something (c.deref-2.ensures.value ∙ sym c.deref.ensures.value) ∙ cover c.in_ok-holders.holders c.deref.result.now (and-left _ _ sound)
