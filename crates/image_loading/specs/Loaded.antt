-- What loading an image from bytes promises.
use Rattle.std.specs.Prelude.{◌≡◌, ◌<◌, ◌≤◌, ◌⊎◌, ℕ, List, [], Some}
use Rattle.std.specs.List.{All, Contains}
use Rattle.image_format.specs.Bytes.{bytes_of}
use Rattle.image_loading.specs.Decoding.{sections_of}
use Rattle.image.specs.Faults.{memory_fault}
use Rattle.image_loading.specs.FaultOrder.{order_of}
use Rattle.image_loading.specs.Loading.{IsImageRuleBroken, header_faults, image_fault, image_faults}
use Rattle.image_loading.specs.Reading.{Raw, read_image}
use Rattle.image.specs.Sections.{Sections}
use Rattle.image.specs.declared.fault.ImageFault.{ImageFault}

-- the bytes begin as those of images do and give these sections, with no byte behind them
pub record IsRead (bytes : List ℕ) (raw : Raw) : Type 0 where
  pub header : header_faults bytes ≡ []
  pub read : read_image bytes ≡ Some (raw, [])

-- the bytes break no rule, and their sections are those of the image
pub record IsLoaded (bytes : List ℕ) (i : Sections) : Type 0 where
  pub faultless : image_faults bytes ≡ []
  pub raw : Raw
  pub read : read_image bytes ≡ Some (raw, [])
  pub same : i ≡ sections_of raw

-- memory was refused, or this is the first of the faults of these bytes
abbrev pub RefusesBytes : List ℕ → ImageFault → Type 0
RefusesBytes bytes fault = (fault ≡ memory_fault) ⊎ (image_fault bytes ≡ Some fault)

-- the fault that is named is a broken rule, and none that is broken comes before it
pub record IsFirstBroken (bytes : List ℕ) (f : ImageFault) : Type 0 where
  pub broken : IsImageRuleBroken f.number f.byte bytes
  pub least : (g : ImageFault) → Contains (image_faults bytes) g → order_of f ≤ order_of g

abbrev pub NamesFirst : Type 0
NamesFirst = (bytes : List ℕ) (f : ImageFault) → image_fault bytes ≡ Some f → IsFirstBroken bytes f

-- bytes of which loading gives this image and no other, unless memory was refused
pub record ComesFrom (bytes : List ℕ) (i : Sections) : Type 0 where
  pub loaded : IsLoaded bytes i
  pub only : (other : Sections) → IsLoaded bytes other → other ≡ i
  pub refused : (fault : ImageFault) → RefusesBytes bytes fault → fault ≡ memory_fault

-- an image that bytes give has these bytes
abbrev pub BytesComeBack : Type 0
BytesComeBack = (bytes : List ℕ) (i : Sections) → All (λ b. b < 256) bytes → IsLoaded bytes i → bytes_of i ≡ bytes
