use Rattle.std.proofs.Common.{◌∙◌, sym}
use Rattle.part_code.proofs.FormalsRefused.{nameless}
use Rattle.part_code.proofs.formals.passed_words.Goals as goal

pub unreachable-requires : goal.unreachable-requires
unreachable-requires c = nameless c.args.scope.now c.args.formal.now c.requires.some (sym c.subtype_of.ensures ∙ c.in_default.is)
