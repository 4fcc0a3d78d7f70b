-- The attachments of a program's image (RM C.3.1): of each channel that has a handler the number of the handler's procedure, in the order of the channels.
use Rattle.std.specs.Prelude.{ℕ, zero, suc, List, [], ◌∷◌, Option, Some, None}
use Rattle.base.specs.declared.limits.TheConstants.{CHANNELS}
use Rattle.ada_tree.specs.StatementTree.{OperationTree}
use Rattle.ada_tree.specs.ProgramTree.{BodyItemTree, ItemTree, OfItem, OfProtected, PackageTree, ProgramTree}
use Rattle.image.specs.declared.attachments.Attachment.{Attachment}
use Rattle.types.specs.Places.{or_else}
use Rattle.types.specs.Scopes.{Scope}
use Rattle.expr_soundness.specs.meaning.specs.Programs.{Attached, attached_operation, handler_at, object_numbered, program_of}
use Rattle.package_code.specs.Directory.{number_told}
use Rattle.package_code.specs.declared.directory.Directory.{Directory}

-- ---- the handler of a channel, the first among these

abbrev pub handler_among : Scope → (object : Option ℕ) → (channel : ℕ) → List OperationTree → Option Attached
handler_among s object channel [] = None
handler_among s object channel (o ∷ os) = or_else (handler_at channel (attached_operation s object o)) (handler_among s object channel os)

abbrev pub handler_in : Scope → (channel : ℕ) → ItemTree → Option Attached
handler_in s channel (OfProtected d) = handler_among s (object_numbered s d.name) channel d.operations
handler_in s channel d = None

abbrev pub handler_of_items : Scope → (channel : ℕ) → List ItemTree → Option Attached
handler_of_items s channel [] = None
handler_of_items s channel (d ∷ ds) = or_else (handler_in s channel d) (handler_of_items s channel ds)

abbrev pub handler_in_body : Scope → (channel : ℕ) → BodyItemTree → Option Attached
handler_in_body s channel (OfItem d) = handler_in s channel d
handler_in_body s channel i = None

abbrev pub handler_of_bodies : Scope → (channel : ℕ) → List BodyItemTree → Option Attached
handler_of_bodies s channel [] = None
handler_of_bodies s channel (i ∷ is) = or_else (handler_in_body s channel i) (handler_of_bodies s channel is)

abbrev pub handler_of_package : Scope → (channel : ℕ) → Option PackageTree → Option Attached
handler_of_package s channel None = None
handler_of_package s channel (Some p) = or_else (handler_of_items s channel p.declaration.items) (handler_of_bodies s channel p.body.items)

-- ---- the numbers of procedures

-- where there is a handler, what is told of the number of its procedure
abbrev pub handler_told : Scope → Directory → Option Attached → Option (Option ℕ)
handler_told s d None = None
handler_told s d (Some a) = Some (number_told s d (Some a.object) a.name)

abbrev pub number_or_none : Option (Option ℕ) → Option ℕ
number_or_none None = None
number_or_none (Some number) = number

abbrev pub with_attachment : (channel : ℕ) → Option ℕ → List Attachment → List Attachment
with_attachment channel (Some number) rest = record { channel = channel; subprogram = number } ∷ rest
with_attachment channel None rest = rest

-- the attachments of `many` channels from a channel on
abbrev pub attachments_from : Scope → Directory → Option PackageTree → (channel many : ℕ) → List Attachment
attachments_from s d p channel zero = []
attachments_from s d p channel (suc many) =
    with_attachment channel (number_or_none (handler_told s d (handler_of_package s channel p))) (attachments_from s d p (suc channel) many)

abbrev pub attachments_of : ProgramTree → Directory → List Attachment
attachments_of t d = attachments_from (program_of t).scope d t.package_ 1 CHANNELS
