use Rattle.compiler.proofs.Meaning.{linked_means_the_same}
use Rattle.compiler.proofs.link_laws.linked_means_the_same.Goals as goal

pub returns : goal.returns
returns c = linked_means_the_same c.count_gives_meaning.ensures c.linked_keeps_count.ensures
