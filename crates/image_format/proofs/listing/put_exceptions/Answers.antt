use Rattle.base.specs.Names.{is_name}
use Rattle.image_format.proofs.Listed.{passes_here}
use Rattle.image_format.proofs.listing.put_exceptions.Goals as goal

pub put_exception-requires : goal.put_exception-requires
put_exception-requires c =
    rw c.index-names-index.is (passes_here is_name c.args.names.now c.loop-index.index c.index-names-index.result c.requires c.loop-index-test.true)
