use Rattle.std.proofs.Common.{inr, refl, rules}
use Rattle.adarun.proofs.Driving.{image_loaded}
use Rattle.adarun.proofs.program.list_bytes.Goals as goal

pub returns-in-Ok-write_all-clause-leaves : goal.returns-in-Ok-write_all-clause-leaves
returns-in-Ok-write_all-clause-leaves g c contents name read =
    record {
      image = c.in-Ok.image;
      loaded = image_loaded contents name _ _ _ refl read c.in-Ok.ensures.bytes c.image_ends.ensures c.in-Ok.ensures.loaded;
      written = search rules;
    }

pub returns-clause-leaves : goal.returns-clause-leaves
returns-clause-leaves g c contents name read =
    rw c.cannot_write.ensures
    (inr (record {
      image = c.in-Ok.image;
      loaded = image_loaded contents name _ _ _ refl read c.in-Ok.ensures.bytes c.image_ends.ensures c.in-Ok.ensures.loaded;
      begins = search rules;
    }))
