use Rattle.std.proofs.Common.{◌≡◌, ◌∙◌, sym, ap, false, is_some}
use Rattle.types.specs.Seen.{place_of, with_place}
use Rattle.types.proofs.Adding.{placed_new}
use Rattle.types.proofs.seen.NamePlaces.add.Goals as goal

pub returns : goal.returns
returns c =
    let es = c.self.inside.places.entries in
    let name = c.args.name in
    let hidden : is_some (place_of es name) ≡ false = ap (λ l. is_some (place_of l name)) c.self.view_is ∙ ap is_some (sym c.place_of.ensures) ∙ sym c.is_some.ensures ∙ c.if-is_some.false in
    c.in_ok-insert.ensures.entries ∙ placed_new es name c.args.place hidden ∙ ap (λ l. with_place l name c.args.place) c.self.view_is
