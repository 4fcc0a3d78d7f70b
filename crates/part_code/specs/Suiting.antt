-- What statements name, in an image and in the subprogram to which their code is added.
use Rattle.std.specs.Prelude.{◌≡◌, ℕ, suc, Bool, ◌||◌, List, None, Some, true}
use Rattle.ada_tree.specs.declared.declaration.Mode.TheVariants as mode
use Rattle.ada_tree.specs.Size.{total}
use Rattle.image.specs.Sections.{Sections}
use Rattle.image.specs.Operations.{called, entry_called}
use Rattle.image.specs.Rules.{calls_inside, has_region, is_external, is_plain, writes_region}
use Rattle.image.specs.declared.instruction.Region.{Region}
use Rattle.image.specs.declared.subprograms.Kind.{Kind}
use Rattle.image.specs.declared.subprograms.Subprogram as code
use Rattle.types.specs.declared.entity.FormalParameter.{FormalParameter}
use Rattle.types.specs.Entities.{Profile}
use Rattle.types.specs.Layouts.{words_of}
use Rattle.types.specs.Scopes.{Scope}
use Rattle.expr_code.specs.Seeing.{NamesProfile, Suits, external_of, external_profile, slot_of, subprogram_of}
use Rattle.expr_code.specs.declared.visible.Slot.{Slot}
use Rattle.expr_code.specs.declared.visible.Visible.{Visible}
use Rattle.part_code.specs.EntryNames.{entry_behind}

-- the words that are passed for a parameter, and those that come back with it: its value, above the address of its target
abbrev pub passed_width : Scope → FormalParameter → ℕ
passed_width s f = elim f.mode [ mode.In ↦ words_of s f.subtype | mode.Out ↦ 1 | mode.InOut ↦ suc (words_of s f.subtype) ]

abbrev pub returned_width : Scope → FormalParameter → ℕ
returned_width s f = elim f.mode [ mode.In ↦ 0 | mode.Out ↦ suc (words_of s f.subtype) | mode.InOut ↦ suc (words_of s f.subtype) ]

-- the subprogram is of a kind that passes the test, takes the words that are passed to a procedure, and gives those that come back
pub record IsCallableProcedure (i : Sections) (s : Scope) (test : Kind → Bool) (number : ℕ) (profile : Profile) : Type 0 where
  pub code : code.Subprogram
  pub is : called i number ≡ Some code
  pub kind : test code.kind ≡ true
  pub parameters : code.parameters ≡ total (passed_width s) profile.formals
  pub results : code.results ≡ total (returned_width s) profile.formals

-- the object of this number has an entry, whose subprogram takes and gives the same
pub record IsCallableEntry (i : Sections) (s : Scope) (number : ℕ) (profile : Profile) : Type 0 where
  pub code : code.Subprogram
  pub is : entry_called i number ≡ Some code
  pub parameters : code.parameters ≡ total (passed_width s) profile.formals
  pub results : code.results ≡ total (returned_width s) profile.formals

-- a visible name has its words in this region
pub record HasPlaceIn (v : Visible) (r : Region) : Type 0 where
  pub name : List ℕ
  pub slot : Slot
  pub there : slot_of v name ≡ Some slot
  pub region : slot.region ≡ r

-- What statements may name stands in the image, and in the subprogram to which their code is added; this may store in each region that it has, and so is that
-- of no protected function (RM 9.5.1).
pub record SuitsStatements (v : Visible) (i : Sections) (s : code.Subprogram) : Type 0 where
  pub names : Suits v i s
  pub writes : (r : Region) → has_region s r ≡ true → writes_region s r ≡ true
  pub procedures : (name : List ℕ) (number : ℕ) (profile : Profile) → subprogram_of v name ≡ Some number → NamesProfile v.scope name profile
      → profile.result ≡ None
      → IsCallableProcedure i v.scope (λ kind. is_plain kind || calls_inside s.kind kind) number profile
  pub externals : (name operation : List ℕ) (number : ℕ) (profile : Profile) → external_of v name operation ≡ Some number
      → external_profile v.scope name operation ≡ Some profile
      → profile.result ≡ None
      → IsCallableProcedure i v.scope is_external number profile
  pub entries : (name operation : List ℕ) (number : ℕ) (profile : Profile) → entry_behind v.scope name operation ≡ Some number
      → external_profile v.scope name operation ≡ Some profile
      → IsCallableEntry i v.scope number profile
