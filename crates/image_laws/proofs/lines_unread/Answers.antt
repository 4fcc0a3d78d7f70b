use Rattle.image_laws.proofs.Unread.{lines_unread}
use Rattle.image_laws.proofs.lines_unread.Goals as goal

pub returns : goal.returns
returns c = lines_unread
