-- The bodies of a protected object's operations: each has its place among those with code, and a number by its name; what has a number stands there (RM 9.4).
use Rattle.std.proofs.Common.{◌≡◌, ◌<◌, ◌⊎◌, inl, inr, ℕ, zero, suc, ◌+◌, ◌∷◌, [], List, arith, length, take, take_all, Some, sym, ap, ◌∙◌}
use Rattle.std.specs.Prelude.{option_map, slice_get}
use Rattle.std.proofs.lemmas.Option.{slice_get_within}
use Rattle.ada_tree.specs.declared.expression.Identifier.{Identifier}
use Rattle.ada_tree.specs.ProgramTree.{BodyItemTree, ProgramTree, ProtectedBody, ProtectedItemTree}
use Rattle.types.specs.declared.entity.RecordComponent.{RecordComponent}
use Rattle.types.specs.Entities.{ProtectedObject}
use Rattle.types.specs.Scopes.{Scope, protected_count, protected_of}
use Rattle.declaration_rules.specs.PackageNames.{body_items_scope}
use Rattle.unit_rules.specs.ProtectedBodyRules.{protected_item_scope, protected_items_scope}
use Rattle.program_soundness.specs.legality.specs.ProgramRules.{IsLegal}
use Rattle.ravenscar.specs.ProgramRules.{IsRestricted}
use Rattle.expr_soundness.specs.Laws.{ScopesAreSound}
use Rattle.expr_soundness.specs.meaning.specs.Programs.{program_of}
use Rattle.program_soundness.specs.BodyLaws.{NamesAreKnown, PremisesHold}
use Rattle.program_soundness.specs.Fronts.{declared_in, front, scope_at, start_in}
use Rattle.program_soundness.proofs.Listing.{same_some}
use Rattle.program_soundness.proofs.ObjectBodies as bodies
use Rattle.program_soundness.proofs.Moved.{grows_at}
use Rattle.program_soundness.proofs.ObjectItems.{further_by, order}
use Rattle.package_code.specs.Bodies.{Coded, bodies_before, coded_at, components_or_none, number_in, object_bodies, object_number, of_operation, operations_of, or_zero, own_name}
use Rattle.package_code.proofs.Coded.{body_of}
use Rattle.package_code.proofs.Numbered.{bodies_numbered, number_of_body}
use Rattle.package_code.proofs.OperationsAdded as added

-- ---- one behind another

pub at_operation : (o : ℕ) (s : Scope) (components : List RecordComponent) (items : List ProtectedItemTree) (k : ℕ) (i : ProtectedItemTree)
    → slice_get items k ≡ Some i
    → slice_get (operations_of o s components items) k ≡ Some (of_operation o (protected_items_scope s (take k items)) components i)
at_operation o s components [] k i h = cc
at_operation o s components (x ∷ items) zero i h = ap (λ y. Some (of_operation o s components y)) (same_some x i h)
at_operation o s components (x ∷ items) (suc k) i h = at_operation o (protected_item_scope s x) components items k i h

module _ (scopes : ScopesAreSound) (known : NamesAreKnown) (premises : PremisesHold) (t : ProgramTree) (legal : IsLegal t) (restricted : IsRestricted t)
    (place : ℕ) (name : Identifier) (items : List ProtectedItemTree) (end_name : Identifier)
    (at : slice_get (declared_in t.package_) place ≡ Some (ProtectedBody name items end_name)) where
  abbrev pub object : ProtectedObject
  object = added.obj scopes known premises t legal restricted place name items end_name at

  abbrev item_at : BodyItemTree
  item_at = ProtectedBody name items end_name

  -- what is visible in front of an operation
  abbrev pub earlier : ℕ → Scope
  earlier k = protected_items_scope (added.begun scopes known premises t legal restricted place name items end_name at) (take k items)

  number_is : object_number (program_of t).scope name ≡ object.number
  number_is = added.number_is scopes known premises t legal restricted place name items end_name at

  -- it is one of those that the program has
  pub object_few : object_number (program_of t).scope name < (program_of t).objects
  object_few =
      let start : Scope = start_in t.package_ in
      let all : List BodyItemTree = declared_in t.package_ in
      let w = added.w scopes known premises t legal restricted in
      let x = bodies.declared_at (program_of t) start all w place name items end_name at in
      let counted = bodies.counted_behind (program_of t) start all w name.name object x in
      let inside = slice_get_within all x.place _ x.at in
      let m = further_by x.place (length all) inside in
      let grown = grows_at start all (suc x.place) m.0 in
      let last = ap (λ k. protected_count (scope_at start all k)) m.1 in
      let whole_is = ap (λ l. protected_count (body_items_scope start l)) (take_all (length all) all (omega arith)) ∙ ap protected_count w.scope in
      let number = number_is in
      omega (arith, number, counted, grown, last, whole_is)

  -- the code of an operation or entry
  abbrev pub code_of : (k : ℕ) → ProtectedItemTree → Coded
  code_of k i = of_operation object.number (earlier k) object.components i

  coded_is : coded_at t place item_at
      ≡ operations_of object.number (added.begun scopes known premises t legal restricted place name items end_name at) object.components items
  coded_is =
      let n = bodies.named_n (program_of t) (start_in t.package_) (declared_in t.package_) (added.w scopes known premises t legal restricted) place name items
      end_name at in
      (λ j. object_bodies (number_is j) (front t place) (n.1 j) items)
      ∙ ap (λ e. operations_of object.number (added.begun scopes known premises t legal restricted place name items end_name at)
      (components_or_none (option_map (λ p. p.components) (protected_of e))) items) n.2

  pub coded : (k : ℕ) (i : ProtectedItemTree) → slice_get items k ≡ Some i → slice_get (coded_at t place item_at) k ≡ Some (code_of k i)
  coded k i there =
      ap (λ l. slice_get l k) coded_is
      ∙ at_operation object.number (added.begun scopes known premises t legal restricted place name items end_name at) object.components items k i there

  -- its name has its number
  pub has_number : (k : ℕ) (i : ProtectedItemTree) → slice_get items k ≡ Some i
      → number_in t (Some object.number) (own_name i) ≡ Some (bodies_before t place + k)
  has_number k i there = (bodies_numbered scopes known premises t legal restricted place item_at k (code_of k i) at (coded k i there)).0

  -- what has a number stands there
  pub of_number : (own : List ℕ) (n : ℕ) → number_in t (Some object.number) own ≡ Some n
      → (k : ℕ) × (i : ProtectedItemTree) × (slice_get items k ≡ Some i) × (own_name i ≡ own)
  of_number own n h =
      let b = number_of_body t (Some object.number) own n h in
      let f = body_of t n b.code b.is in
      let x = added.in_object scopes known premises t legal restricted f.place f.item f.k b.code object.number f.is f.at b.owned in
      let numbers : object_number (program_of t).scope x.name ≡ object_number (program_of t).scope name =
      ap or_zero (sym (added.owner_is scopes known premises t legal restricted f.place f.k b.code x) ∙ b.owned) ∙ sym number_is in
      let same = one_place f.place x.name x.items x.end_name x.at numbers in
      let item = same_some (ProtectedBody x.name x.items x.end_name) item_at (sym x.at ∙ ap (slice_get (declared_in t.package_)) same ∙ at) in
      let items_of : BodyItemTree → List ProtectedItemTree = λ y. elim y [ ProtectedBody u is e ↦ is | other ↦ [] ] in (
        f.k,
        x.item,
        ap (λ l. slice_get l f.k) (sym (ap items_of item)) ∙ x.there,
        sym (ap (λ c. c.head.name.name) x.is) ∙ b.named,
      )
    where
      one_place : (p : ℕ) (other : Identifier) (others : List ProtectedItemTree) (end_other : Identifier)
          → slice_get (declared_in t.package_) p ≡ Some (ProtectedBody other others end_other)
          → object_number (program_of t).scope other ≡ object_number (program_of t).scope name → p ≡ place
      one_place p other others end_other there numbers = by_order (order p place)
        where
          by_order : (p < place) ⊎ ((p ≡ place) ⊎ (place < p)) → p ≡ place
          by_order (inl less) =
              absurd (added.one_object scopes known premises t legal restricted p place other name others items end_other end_name less there at numbers)
          by_order (inr (inl e)) = e
          by_order (inr (inr less)) =
              absurd (added.one_object scopes known premises t legal restricted place p name other items others end_name end_other less at there (sym numbers))
