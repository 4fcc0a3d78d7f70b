use Rattle.std.proofs.Common.{inr}
use Rattle.ada2012_parser.proofs.Places.{is_place}
use Rattle.ada2012_parser.proofs.parsing.fault_of.Goals as goal

pub returns-in-Found : goal.returns-in-Found
returns-in-Found c = inr (is_place c.args.tokens.now _ _ c.place_at.ensures)
