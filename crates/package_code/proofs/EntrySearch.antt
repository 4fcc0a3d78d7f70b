-- The entry of an object is found among the bodies of a package, one after another (RM 9.5.2).
use Rattle.std.proofs.Common.{◌≡◌, ◌<◌, ◌+◌, ℕ, List, [], ◌∷◌, ◌++◌, append-nil, cond, drop, get_or, length, map, Bool, true, false, ◌&&◌, Option, Some, None, refl, sym, ap, ◌∙◌}
use Rattle.std.proofs.lemmas.List.{at_drop_more}
use Rattle.std.specs.Prelude.{option_map}
use Rattle.ada_tree.specs.declared.expression.Identifier.{Identifier}
use Rattle.ada_tree.specs.declared.program.BodyItem.{BodyItem}
use Rattle.ada_tree.specs.StatementTree.{SubprogramTree}
use Rattle.ada_tree.specs.ProgramTree.{BodyItemTree, BodyTree, EntryBody, OfItem, OperationBody, ProgramTree, ProtectedBody, ProtectedItemTree, SubprogramBody, TaskBody, body_item_tree}
use Rattle.types.specs.Places.{is_of, or_else}
use Rattle.types.specs.Scopes.{Scope}
use Rattle.expr_soundness.specs.meaning.specs.Programs.{Procedure, object_numbered, operation_procedures, parameter, procedure_of, procedures_among, program_of}
use Rattle.program_soundness.specs.step_soundness.specs.Fitting.{entry_of}
use Rattle.program_soundness.proofs.Callables.{entry_both}
use Rattle.program_soundness.proofs.Listing.{same_some}
use Rattle.package_code.specs.Objects.{service_of}
use Rattle.package_code.specs.declared.services.Service.{Service}
use Rattle.package_code.proofs.Numbered.{same_owner}

-- a procedure is no entry
no_entry : (s : Scope) (owner : Option ℕ) (d : SubprogramTree) (b : BodyTree) (o : ℕ) → entry_of (procedure_of s owner d b) o ≡ None
no_entry s owner d b o = by_result d.result
  where
    by_test : (c : Bool) (q : Procedure) → cond (c && false) (Some q) None ≡ None
    by_test true q = refl
    by_test false q = refl

    by_result : (r : Option Identifier)
        → entry_of
        (elim r [
          | Some result ↦ []
          | None ↦ record { object = owner; name = d.name.name; parameters = map (parameter s) d.formals; barrier = None; body = b } ∷ []
        ])
        o
        ≡ None
    by_result (Some result) = refl
    by_result None = by_test (is_of owner (Some o)) _

-- nor is what belongs to another object
none_there : (s : Scope) (owner : Option ℕ) (items : List ProtectedItemTree) (o : ℕ) → is_of owner (Some o) ≡ false
    → entry_of (operation_procedures s owner items) o ≡ None
none_there s owner [] o other = refl
none_there s owner (OperationBody d b ∷ items) o other =
    entry_both (procedure_of s owner d b) (operation_procedures s owner items) o
    ∙ (λ j. or_else (no_entry s owner d b o j) (none_there s owner items o other j))
none_there s owner (EntryBody d barrier b ∷ items) o other =
    let own : Procedure = record { object = owner; name = d.name.name; parameters = map (parameter s) d.formals; barrier = Some barrier; body = b } in
    ap (λ c. cond (c && true) (Some own) (entry_of (operation_procedures s owner items) o)) other ∙ none_there s owner items o other

module _ (t : ProgramTree) (o : ℕ) where
  abbrev whole : Scope
  whole = (program_of t).scope

  abbrev found_as : Procedure → Service
  found_as q = service_of t o (Some q)

  abbrev entry_in : List BodyItemTree → Option Procedure
  entry_in items = entry_of (procedures_among whole items) o

  -- the bodies of the object
  pub own_service : (name : Identifier) (items : List ProtectedItemTree) (end_name : Identifier) → is_of (object_numbered whole name) (Some o) ≡ true
      → option_map found_as (entry_of (operation_procedures whole (Some o) items) o) ≡ option_map found_as (entry_in (ProtectedBody name items end_name ∷ []))
  own_service name items end_name is =
      ap (λ l. option_map found_as (entry_of l o))
      (ap (λ owner. operation_procedures whole owner items) (sym (same_owner (object_numbered whole name) (Some o) is))
      ∙ sym (append-nil (operation_procedures whole (object_numbered whole name) items)))

  -- ... and of another one
  pub other_service : (name : Identifier) (items : List ProtectedItemTree) (end_name : Identifier) → is_of (object_numbered whole name) (Some o) ≡ false
      → None ≡ option_map found_as (entry_in (ProtectedBody name items end_name ∷ []))
  other_service name items end_name other =
      sym (ap (option_map found_as)
      (ap (λ l. entry_of l o) (append-nil (operation_procedures whole (object_numbered whole name) items))
      ∙ none_there whole (object_numbered whole name) items o other))

  one_first : (x : BodyItemTree) (rest : List BodyItemTree) → procedures_among whole (x ∷ rest) ≡ procedures_among whole (x ∷ []) ++ procedures_among whole rest
  one_first (OfItem d) rest = refl
  one_first (SubprogramBody d b) rest = ap (λ l. l ++ procedures_among whole rest) (sym (append-nil (procedure_of whole None d b)))
  one_first (TaskBody name b) rest = refl
  one_first (ProtectedBody name items end_name) rest =
      ap (λ l. l ++ procedures_among whole rest) (sym (append-nil (operation_procedures whole (object_numbered whole name) items)))

  module _ (all : List BodyItem) (n : ℕ) (x : BodyItem) (less : n < length all) (is : x ≡ get_or all n x)
      (before : entry_in (map body_item_tree (drop n all)) ≡ entry_in (map body_item_tree all)) where
    step : entry_in (map body_item_tree all) ≡ or_else (entry_in (body_item_tree x ∷ [])) (entry_in (map body_item_tree (drop (n + 1) all)))
    step =
        sym before
        ∙ at_drop_more (λ l. entry_in (map body_item_tree l)) all n x less
        ∙ ap (λ y. entry_in (map body_item_tree (y ∷ drop (n + 1) all))) (sym is)
        ∙ ap (λ l. entry_of l o) (one_first (body_item_tree x) (map body_item_tree (drop (n + 1) all)))
        ∙ entry_both (procedures_among whole (body_item_tree x ∷ [])) (procedures_among whole (map body_item_tree (drop (n + 1) all))) o

    -- it is found in this item
    pub found_service : (y : Service) → option_map found_as (entry_in (body_item_tree x ∷ [])) ≡ Some y → y ≡ service_of t o (entry_in (map body_item_tree all))
    found_service y found = by_entry (entry_in (body_item_tree x ∷ [])) refl found
      where
        by_entry : (e : Option Procedure) → entry_in (body_item_tree x ∷ []) ≡ e → option_map found_as e ≡ Some y
            → y ≡ service_of t o (entry_in (map body_item_tree all))
        by_entry (Some q) there h =
            sym (same_some (found_as q) y h)
            ∙ ap (service_of t o) (sym (step ∙ ap (λ e. or_else e (entry_in (map body_item_tree (drop (n + 1) all)))) there))
        by_entry None there h = cc

    -- ... or behind it
    pub none_service : option_map found_as (entry_in (body_item_tree x ∷ [])) ≡ None
        → entry_in (map body_item_tree (drop (n + 1) all)) ≡ entry_in (map body_item_tree all)
    none_service none = by_entry (entry_in (body_item_tree x ∷ [])) refl none
      where
        by_entry : (e : Option Procedure) → entry_in (body_item_tree x ∷ []) ≡ e → option_map found_as e ≡ None
            → entry_in (map body_item_tree (drop (n + 1) all)) ≡ entry_in (map body_item_tree all)
        by_entry (Some q) there h = cc
        by_entry None there h = sym (step ∙ ap (λ e. or_else e (entry_in (map body_item_tree (drop (n + 1) all)))) there)
