-- Where the code of a package passes a limit of images: with one of its bodies, or with the rows of handlers up to the end of one of its items.
use Rattle.std.specs.Prelude.{◌≡◌, ◌+◌, ◌<◌, ◌≤◌, ◌⊎◌, ℕ, suc, max, length, map, Some, slice_get, take}
use Rattle.base.specs.declared.limits.TheConstants.{FRAME_WORDS, INSTRUCTIONS, ROWS}
use Rattle.ada_tree.specs.ProgramTree.{BodyItemTree, OfItem, ProgramTree, ProtectedBody, SubprogramBody, TaskBody}
use Rattle.types.specs.Layouts.{total}
use Rattle.program_soundness.specs.Fronts.{declared_in}
use Rattle.expr_code.specs.Code.{here}
use Rattle.expr_code.specs.declared.refusal.ImageLimit.{ImageLimit}
use Rattle.expr_code.specs.declared.refusal.ImageLimit.TheVariants as limits
use Rattle.expr_code.specs.declared.refusal.Refusal.{Refusal}
use Rattle.expr_code.specs.declared.refusal.Refusal.TheVariants as refusal
use Rattle.step_simulation.specs.part_code.specs.Needs.{HasManyLabels, IsNeeding}
use Rattle.package_code.specs.Bodies.{Coded, IsBodyOf, bodies_before, bodies_of, coded_at}
use Rattle.package_code.specs.Counts.{bound_of, bounds_from}
use Rattle.package_code.specs.Refusing.{RefusesCode, body_needs, items_rows, program_labels}
use Rattle.package_code.specs.Walking.{HasBody, begins_at}
use Rattle.package_code.specs.declared.directory.Directory.{Directory}
use Rattle.package_code.specs.declared.stopping.Halt.{Halt}
use Rattle.package_code.specs.declared.stopping.Halt.TheVariants as halt
use Rattle.package_code.specs.declared.stopping.Stop.{Stop}
use Rattle.package_code.specs.declared.stopping.Stop.TheVariants as stop
use Rattle.package_code.specs.declared.walk.Walk.{Walk}

-- the place of the name of an item's own body
abbrev pub item_place : BodyItemTree → ℕ
item_place (OfItem d) = 0
item_place (SubprogramBody d b) = d.name.place
item_place (TaskBody name b) = name.place
item_place (ProtectedBody name items end_name) = name.place

-- ---- stops

-- Behind so many instructions the code of a body may pass this limit: there may be more than an image has with it, its frame and operand stack may need more
-- words than a frame has, or what it needs is unfit; or the program has too many labels.
abbrev pub PassesBehind : ProgramTree → Coded → (before : ℕ) → ImageLimit → Type 0
PassesBehind t c before limit =
    IsNeeding (before + bound_of c) (body_needs t c) (refusal.Limit limit) ⊎ HasManyLabels (program_labels t) (refusal.Limit limit)

-- The code of the body whose name stands at this place isn't made. All bodies in front of it, and no others, have their code in the walk there, and behind that
-- its own may pass this limit.
pub record StopsInCode (t : ProgramTree) (limit : ImageLimit) (place : ℕ) : Type 0 where
  pub coded : Coded
  pub body : IsBodyOf t coded
  pub place_is : place ≡ coded.head.name.place
  pub directory : Directory
  pub front : Walk
  pub many : length front.subprograms.items ≡ bodies_before t body.place + body.index
  pub bodies : (number : ℕ) (c : Coded) → number < length front.subprograms.items → slice_get (bodies_of t) number ≡ Some c → HasBody t directory number c front
  pub end : begins_at front.subprograms.items (length front.subprograms.items) ≡ here front.draft.code
  pub few : here front.draft.code
      ≤ total (bounds_from t 0 (take body.place (declared_in t.package_))) + total (map bound_of (take body.index (coded_at t body.place body.item)))
  pub passes : PassesBehind t coded (here front.draft.code) limit

-- the code of the body isn't made for its instructions: `before` ones are before it, and with its own there may be more than an image has
pub record StopsByInstructions (t : ProgramTree) (place before : ℕ) : Type 0 where
  pub in_code : StopsInCode t limits.Instructions place
  pub before_is : before ≡ here in_code.front.draft.code
  pub many : INSTRUCTIONS < before + bound_of in_code.coded

-- the code of the body isn't made for its frame: its words and those of its operand stack may be more than a frame has
pub record StopsByFrame (t : ProgramTree) (place : ℕ) : Type 0 where
  pub in_code : StopsInCode t limits.Frame place
  pub large : FRAME_WORDS < max (body_needs t in_code.coded).stack (body_needs t in_code.coded).frame

-- The handlers up to the end of the item whose name stands at this place have so many choices, which are more than an image has rows; those in front of it have
-- no more.
pub record StopsInRows (t : ProgramTree) (place rows : ℕ) : Type 0 where
  pub at : ℕ
  pub item : BodyItemTree
  pub there : slice_get (declared_in t.package_) at ≡ Some item
  pub place_is : place ≡ item_place item
  pub few : items_rows 0 (take at (declared_in t.package_)) ≤ ROWS
  pub rows_are : rows ≡ items_rows 0 (take (suc at) (declared_in t.package_))
  pub many : ROWS < rows

abbrev pub IsStop : ProgramTree → Stop → Type 0
IsStop t (stop.Instructions place before) = StopsByInstructions t place before
IsStop t (stop.Frame place) = StopsByFrame t place
IsStop t (stop.Rows place rows) = StopsInRows t place rows

-- ---- why the walk over a package halts

abbrev pub IsHalt : ProgramTree → Halt → Type 0
IsHalt t (halt.Stopped found) = IsStop t found
IsHalt t (halt.Refused why) = RefusesCode t why

-- where the code of the body whose name is at this place isn't made, behind so many instructions, by why it isn't
abbrev pub halt_for : Refusal → (place before : ℕ) → Halt
halt_for (refusal.Limit limits.Instructions) place before = halt.Stopped (stop.Instructions place before)
halt_for (refusal.Limit limits.Frame) place before = halt.Stopped (stop.Frame place)
halt_for why place before = halt.Refused why

-- the limit that is passed
abbrev pub limit_of : Stop → ImageLimit
limit_of (stop.Instructions place before) = limits.Instructions
limit_of (stop.Frame place) = limits.Frame
limit_of (stop.Rows place rows) = limits.Rows

-- why the program isn't compiled
abbrev pub refusal_of : Halt → Refusal
refusal_of (halt.Stopped found) = refusal.Limit (limit_of found)
refusal_of (halt.Refused why) = why
