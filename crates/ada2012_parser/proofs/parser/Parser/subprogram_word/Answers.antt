use Rattle.ada2012_parser.proofs.parser.Parser.subprogram_word.Goals as goal

pub returns : goal.returns
returns c = c.in_ok-word-2.ensures
