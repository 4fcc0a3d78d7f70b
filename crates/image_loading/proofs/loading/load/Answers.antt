use Rattle.std.proofs.Common.{◌≡◌, [], arith, ◌∙◌}
use Rattle.image_loading.specs.Loading.{sections_faults}
use Rattle.image_loading.proofs.LoadedImage.{faultless, loaded, refused, same_bytes}
use Rattle.image_loading.proofs.loading.load.Goals as goal

none : (c : goal.After-drop-raw-inside-10) → sections_faults c.in_ok-raw.raw ≡ []
none c =
    faultless c.in_ok-raw.raw c.in_ok-draft.draft c.in-Ok-None.field-0 (c.in_ok-draft.ensures.same ∙ c.in-Ok.ensures) c.in-Ok-None.ensures c.in-Ok-None.field-0-is

pub returns-clause-loaded : goal.returns-clause-loaded
returns-clause-loaded c =
    loaded c.args.bytes.now c.in_ok-raw.raw c.in_ok-draft.draft c.build.result c.in_ok-raw.ensures.read (c.in_ok-draft.ensures.same ∙ c.in-Ok.ensures) (none c) c.build.ensures.same

pub returns-clause-refused : goal.returns-clause-refused
returns-clause-refused c =
    refused c.args.bytes.now c.in_ok-raw.raw c.in_ok-draft.draft c.build.result (c.in_ok-draft.ensures.same ∙ c.in-Ok.ensures) (none c) c.build.ensures.refused

pub returns-clause-bytes : goal.returns-clause-bytes
returns-clause-bytes c =
    same_bytes c.args.bytes.now c.in_ok-raw.raw c.in_ok-draft.draft c.build.result (λ i. omega (arith, c.type_inv.bytes i)) c.in_ok-raw.ensures.read (c.in_ok-draft.ensures.same ∙ c.in-Ok.ensures) (none c) c.build.ensures.same
