use Rattle.clap.specs.Words.{found_of}
use Rattle.command_line.proofs.Judging.{among}
use Rattle.command_line.proofs.request_among.Goals as goal

pub returns-in-Some : goal.returns-in-Some
returns-in-Some c = among c.args.matches.now c.in-Some.name.now (found_of c.in-Some.found.now) _ c.in-Some.ensures.name c.in-Some.ensures.rows c.request_in.ensures
