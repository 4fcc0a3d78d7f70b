use Rattle.std.proofs.Common.{◌∙◌, ap}
use Rattle.types.specs.Kept.{subtype_at}
use Rattle.types.specs.Seen.{place_of}
use Rattle.types.specs.Standings.{component_of}
use Rattle.types.proofs.Seeing.{component_at}
use Rattle.types.proofs.parts.Components.subtype_of.Goals as goal

pub returns : goal.returns
returns c =
    let n = c.args.name.now in
    let cs = c.self.inside.list.items in
    c.subtype_at.ensures
    ∙ (λ j. subtype_at (c.deref.ensures.value j) (c.place_of.ensures j))
    ∙ component_at cs c.self.inside.places n c.self.invariant
    ∙ ap (λ l. component_of l n) c.self.view_is
