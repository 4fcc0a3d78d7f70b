use Rattle.std.proofs.lemmas.Str.{IsUtf8-from_ascii}
use Rattle.image_format.proofs.listing.put_ascii.Goals as goal

pub unreachable-requires : goal.unreachable-requires
unreachable-requires c = c.in_default.ensures.cases.0 (IsUtf8-from_ascii _ (rw c.as_bytes.ensures.same c.requires))
