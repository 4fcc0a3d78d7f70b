-- Where the walk over a package stops with too many rows of handlers; wherever it halts, that refuses the program.
use Rattle.std.proofs.Common.{◌≡◌, ℕ, suc, ◌+◌, ◌<◌, ◌≤◌, List, [], ◌∷◌, ◌++◌, length, map, take, inl, inr, Option, Some, refl, ap, ◌∙◌, arith}
use Rattle.std.specs.Prelude.{slice_get}
use Rattle.std.proofs.lemmas.List.{length-map}
use Rattle.base.specs.declared.limits.TheConstants.{ROWS}
use Rattle.ada_tree.specs.declared.declaration.Item.{Item}
use Rattle.ada_tree.specs.declared.program.Package.{Package}
use Rattle.ada_tree.specs.StatementTree.{optional_tree}
use Rattle.ada_tree.specs.ProgramTree.{BodyItemTree, ItemTree, OfItem, ProgramTree, body_item_tree, item_tree, package_tree}
use Rattle.program_soundness.specs.Fronts.{declared_in}
use Rattle.expr_code.specs.Code.{here}
use Rattle.expr_code.specs.declared.refusal.ImageLimit.{ImageLimit}
use Rattle.expr_code.specs.declared.refusal.ImageLimit.TheVariants as limits
use Rattle.expr_code.specs.declared.refusal.Refusal.TheVariants as refusal
use Rattle.package_code.specs.Refusing.{RefusesCode, RefusesSections, items_rows, program_rows}
use Rattle.package_code.specs.Stopping.{IsHalt, StopsInCode, StopsInRows, item_place, refusal_of}
use Rattle.package_code.specs.Walking.{IsAsTold}
use Rattle.package_code.specs.declared.stopping.Halt.{Halt}
use Rattle.package_code.specs.declared.stopping.Halt.TheVariants as halt
use Rattle.package_code.specs.declared.stopping.Stop.TheVariants as stop
use Rattle.package_code.specs.declared.walk.Walk.{Walk}
use Rattle.package_code.proofs.AsTold.{passes_refuse}
use Rattle.package_code.proofs.ItemsTold.{none_taken}
use Rattle.package_code.proofs.RowsGrow.{rows_within}

-- ---- rows

rows_declared : (ds : List ItemTree) (body : List BodyItemTree) → items_rows 0 (take (length ds) (map OfItem ds ++ body)) ≡ 0
rows_declared [] body = ap (items_rows 0) (none_taken body)
rows_declared (d ∷ ds) body = rows_declared ds body

-- behind the declarations of a package there are none
pub none_declared : (o : Option Package) (p : Package) (items : List Item) (w : Walk) (first : ℕ) → o ≡ Some p → items ≡ p.declaration.items.items
    → first ≡ 0 → w.place ≡ first + length items
    → length w.draft.rows.items ≡ items_rows 0 (take w.place (declared_in (optional_tree package_tree o)))
    → length w.draft.rows.items ≤ ROWS
none_declared o p items w first is same zero_is at rows =
    let long = length-map p.declaration.items.items item_tree in
    let many = ap length same in
    let there : w.place ≡ length (map item_tree p.declaration.items.items) = omega (arith, at, zero_is, many, long) in
    let none : length w.draft.rows.items ≡ 0 =
    rows ∙ (λ j. items_rows 0 (take (there j) (declared_in (optional_tree package_tree (is j)))))
    ∙ rows_declared (map item_tree p.declaration.items.items) (map body_item_tree p.body.items.items) in
    omega (arith, none)

module _ (t : ProgramTree) where
  abbrev all : List BodyItemTree
  all = declared_in t.package_

  pub stops_in_rows : (old new : Walk) (x : BodyItemTree) (rows : ℕ) → slice_get all old.place ≡ Some x → IsAsTold t old → length old.draft.rows.items ≤ ROWS
      → IsAsTold t new → new.place ≡ old.place + 1 → rows ≡ length new.draft.rows.items → ROWS < rows → StopsInRows t (item_place x) rows
  stops_in_rows old new x rows at told few now place are many =
      let next : new.place ≡ suc old.place = omega (arith, place) in
      let before = told.rows in record {
        at = old.place;
        item = x;
        there = at;
        place_is = refl;
        few = omega (arith, before, few);
        rows_are = are ∙ now.rows ∙ ap (λ n. items_rows 0 (take n all)) next;
        many = many;
      }

  -- ---- why the program is refused

  code_refuses : (limit : ImageLimit) (place : ℕ) → StopsInCode t limit place → RefusesCode t (refusal.Limit limit)
  code_refuses limit place s =
      passes_refuse t s.body.place s.body.item s.body.index s.coded s.body.at s.body.coded (here s.front.draft.code) s.few limit s.passes

  rows_refuse : (place rows : ℕ) → StopsInRows t place rows → ROWS < program_rows t
  rows_refuse place rows s =
      let up = rows_within 0 all (suc s.at) in
      let are = s.rows_are in
      let many = s.many in
      omega (arith, up, are, many)

  pub halt_refuses : (found : Halt) → IsHalt t found → RefusesSections t (refusal_of found)
  halt_refuses (halt.Stopped (stop.Instructions place before)) s = inl (code_refuses limits.Instructions place s.in_code)
  halt_refuses (halt.Stopped (stop.Frame place)) s = inl (code_refuses limits.Frame place s.in_code)
  halt_refuses (halt.Stopped (stop.Rows place rows)) s = inr (inr (inr (rows_refuse place rows s)))
  halt_refuses (halt.Refused why) r = inl r
