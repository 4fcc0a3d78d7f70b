use Rattle.std.proofs.Common.{◌∙◌, inr, refl, subst}
use Rattle.adarun.specs.Reading.{IsContentRead}
use Rattle.adarun.proofs.Driving.{refused_compile, unmade_compile}
use Rattle.adarun.proofs.Reading.{source_whole}
use Rattle.adarun.proofs.program.compile_text.Goals as goal

pub returns-in-Ok-write : goal.returns-in-Ok-write
returns-in-Ok-write g c source written read = (
  refl,
  (
    c.in-Ok-write.ensures.others,
    record {
      text = c.args.text.now;
      source_read = source_whole _ _ _ refl c.in-Ok.ensures.means.tree read
          c.in-Ok.ensures.means.accepted.is_tree;
      image = c.in-Ok.compiled;
      compiles = c.in-Ok.ensures.means;
      written = subst (IsContentRead (g.F.FileStore.contents c.write.new.self c.args.image.now)) (c.deref.ensures.value ∙ c.in-Ok-encode.ensures.bytes)
          c.in-Ok-write.ensures.written;
    },
  ),
)

pub returns-in-Err-Memory : goal.returns-in-Err-Memory
returns-in-Err-Memory g c source written read =
    rw c.no_memory-in-Err-Memory.ensures (
      refl,
      inr (
        record {
          text = c.args.text.now;
          source_read = source_whole _ _ _ refl c.in-Ok.ensures.means.tree read c.in-Ok.ensures.means.accepted.is_tree;
          image = c.in-Ok.compiled;
          compiles = c.in-Ok.ensures.means;
        },
        c.in-Err-Memory.ensures.others,
      ),
    )

pub returns : goal.returns
returns g c source written read =
    rw c.cannot_write.ensures (
      refl,
      inr (
        record {
          text = c.args.text.now;
          source_read = source_whole _ _ _ refl c.in-Ok.ensures.means.tree read c.in-Ok.ensures.means.accepted.is_tree;
          image = c.in-Ok.compiled;
          compiles = c.in-Ok.ensures.means;
        },
        c.in-Err-Unwritable.ensures.others,
      ),
    )

pub returns-in-Err : goal.returns-in-Err
returns-in-Err g c source written read =
    refused_compile (g.F.FileStore.contents c.args.files.now) source c.args.image.now written _ c.in-Err.fault _ c.refuse_source.ensures read c.in-Err.ensures.refused

pub returns-in-Err-encode : goal.returns-in-Err-encode
returns-in-Err-encode g c source written read = unmade_compile (g.F.FileStore.contents c.args.files.now) source c.args.image.now written _ c.no_memory.ensures
