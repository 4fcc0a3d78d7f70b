use Rattle.std.proofs.Common.{◌<◌, length, arith, sym, ap, ◌∙◌, subst}
use Rattle.handlers.specs.Searching.{SplitsAt, next_covering}
use Rattle.handlers.proofs.Pieces.{no_piece, piece_found}
use Rattle.handlers.proofs.searching.Index.first.Goals as goal

pub returns-in-Some-clause-first : goal.returns-in-Some-clause-first
returns-in-Some-clause-first g c =
    let cut = subst (λ edges. SplitsAt edges c.args.place c.passed.result) c.deref.ensures.value c.passed.ensures.cut in
    let low : c.in-Some.piece < length c.self.inside.pieces.items = omega (arith, cut.within, c.self.invariant.each, c.in-Some.ensures.0, c.in-Some.ensures.1) in
    sym (piece_found c.self.inside.pieces.items c.passed.result c.in-Some.piece _ c.in-Some.ensures.0 c.in-Some.ensures.1 low c.index.ensures)
    ∙ (c.self.invariant.first c.args.place c.passed.result cut ∙ ap (next_covering c.args.place 0) c.self.view_is)

pub returns-in-None-clause-first : goal.returns-in-None-clause-first
returns-in-None-clause-first g c =
    let cut = subst (λ edges. SplitsAt edges c.args.place c.passed.result) c.deref.ensures.value c.passed.ensures.cut in
    sym (no_piece c.self.inside.pieces.items c.passed.result c.in-None.ensures)
    ∙ (c.self.invariant.first c.args.place c.passed.result cut ∙ ap (next_covering c.args.place 0) c.self.view_is)
