-- The entries of protected objects: which body the entry of each is, and what the object's row in the image tells of it (RM 9.5.2, 9.5.3).
use Rattle.std.proofs.Common.{◌≡◌, ◌<◌, ℕ, zero, suc, ◌+◌, List, [], ◌∷◌, length, true, Option, Some, None, inl, inr, refl, sym, ap, ◌∙◌, subst, arith}
use Rattle.std.specs.Prelude.{is_some, option_map, slice_get}
use Rattle.std.proofs.lemmas.Bool.{eqb-true}
use Rattle.ada_tree.specs.declared.expression.Identifier.{Identifier}
use Rattle.ada_tree.specs.ExpressionTree.{ExprTree}
use Rattle.ada_tree.specs.StatementTree.{EntryTree}
use Rattle.ada_tree.specs.ProgramTree.{BodyTree, EntryBody, ProgramTree, ProtectedBody, ProtectedItemTree}
use Rattle.image.specs.ObjectTable.{ObjectRow}
use Rattle.types.specs.Entities.{ProtectedObject}
use Rattle.types.specs.Places.{is_of}
use Rattle.program_soundness.specs.legality.specs.ProgramRules.{IsLegal}
use Rattle.ravenscar.specs.ProgramRules.{IsRestricted}
use Rattle.expr_soundness.specs.meaning.specs.Programs.{Procedure, Program, package_items, program_of}
use Rattle.program_soundness.specs.Fronts.{declared_in, start_in}
use Rattle.program_soundness.specs.step_soundness.specs.Fitting.{entry_of}
use Rattle.program_soundness.proofs.Callables.{FoundEntry, bodies_among, found_entry, operation_body, procedure_by, procedures_are}
use Rattle.program_soundness.proofs.Listing.{same_some}
use Rattle.program_soundness.proofs.ObjectCalls.{entry_inside}
use Rattle.package_code.specs.BareObjects.{BareObject}
use Rattle.package_code.specs.Bodies.{bodies_before, number_in}
use Rattle.package_code.specs.Objects.{HaveObjects, bare_objects, object_row, service_of}
use Rattle.package_code.proofs.CodedPackage.{IsOne, unit_stands}
use Rattle.package_code.proofs.InFront.{LawsOfNames, whole}
use Rattle.package_code.proofs.ObjectNumbers.{row_there}
use Rattle.package_code.proofs.Offered.{procedure_named}
use Rattle.package_code.proofs.OperationBodies.{has_number, object}
use Rattle.package_code.proofs.OperationsAdded as added

pub owner_numbered : (owner : Option ℕ) (n o : ℕ) → owner ≡ Some n → is_of owner (Some o) ≡ true → n ≡ o
owner_numbered owner n o is h = eqb-true n o (ap (λ z. is_of z (Some o)) (sym is) ∙ h)

-- ---- rows

pub element : {X : Type 0} (xs : List X) (n : ℕ) → n < length xs → (x : X) × (slice_get xs n ≡ Some x)
element [] n less = absurd (omega (arith, less))
element (x ∷ xs) zero less = (x, refl)
element (x ∷ xs) (suc n) less = element xs n (omega (arith, less))

-- the row at a number is that of the object with the number
pub row_is : (t : ProgramTree) (rows : List ObjectRow) → HaveObjects t rows → (o : ℕ) (row : ObjectRow) → slice_get rows o ≡ Some row
    → (x : BareObject) × (row ≡ object_row t o x)
row_is t rows have o row at = by_object (slice_get objects o) refl
  where
    objects : List BareObject
    objects = bare_objects (program_of t).scope (package_items t.package_)

    there : option_map (object_row t (0 + o)) (slice_get objects o) ≡ Some row
    there = sym (row_there t 0 objects o) ∙ ap (λ l. slice_get l o) (sym have) ∙ at

    by_object : (x : Option BareObject) → slice_get objects o ≡ x → (x : BareObject) × (row ≡ object_row t o x)
    by_object (Some x) is =
        (let first : 0 + o ≡ o = omega arith in
        (x, sym (same_some (object_row t (0 + o) x) row (ap (option_map (object_row t (0 + o))) (sym is) ∙ there)) ∙ ap (λ n. object_row t n x) first))
    by_object None is = absurd (let bad = ap (option_map (object_row t (0 + o))) (sym is) ∙ there in cc)

module _ (laws : LawsOfNames) (t : ProgramTree) (legal : IsLegal t) (restricted : IsRestricted t) where
  abbrev program : Program
  program = program_of t

  -- the entry of the object with this number has its body there
  pub record IsEntryBody (o : ℕ) (q : Procedure) : Type 0 where
    pub place : ℕ
    pub name : Identifier
    pub items : List ProtectedItemTree
    pub end_name : Identifier
    pub at : slice_get (declared_in t.package_) place ≡ Some (ProtectedBody name items end_name)
    pub k : ℕ
    pub d : EntryTree
    pub barrier : ExprTree
    pub b : BodyTree
    pub there : slice_get items k ≡ Some (EntryBody d barrier b)
    pub number : (object laws.scopes laws.names laws.premises t legal restricted place name items end_name at).number ≡ o
    pub is : q ≡ procedure_by program.scope (operation_body (Some o) (EntryBody d barrier b))

  pub entry_body : (o : ℕ) (q : Procedure) → entry_of program.procedures o ≡ Some q → IsEntryBody o q
  entry_body o q h = by_unit (unit_stands laws t legal restricted x.unit_ x.has)
    where
      x : FoundEntry program.scope (bodies_among program.scope (declared_in t.package_)) o q
      x =
          found_entry program.scope (bodies_among program.scope (declared_in t.package_)) o q
          (ap (λ l. entry_of l o) (sym ((whole laws t legal restricted).procedures ∙ procedures_are program.scope (declared_in t.package_))) ∙ h)

      by_unit : IsOne laws t legal restricted x.unit_ → IsEntryBody o q
      by_unit (inl y) = absurd (let bad = sym (ap (λ u. is_some u.barrier) y.2.is) ∙ x.barred in cc)
      by_unit (inr e) =
          let own =
          object laws.scopes laws.names laws.premises t legal restricted e.stands.place e.stands.name e.stands.items e.stands.end_name e.stands.at in
          let owner : x.unit_.owner ≡ Some own.number =
          ap (λ u. u.owner) e.is ∙ e.stands.owned in
          let same = owner_numbered x.unit_.owner _ o owner x.owned in
          record {
            place = e.stands.place;
            name = e.stands.name;
            items = e.stands.items;
            end_name = e.stands.end_name;
            at = e.stands.at;
            k = e.stands.k;
            d = e.d;
            barrier = e.barrier;
            b = e.b;
            there = e.stands.there;
            number = same;
            is = x.is ∙ ap (procedure_by program.scope) (e.is ∙ ap (λ z. operation_body z (EntryBody e.d e.barrier e.b)) (e.stands.owned ∙ ap Some same));
          }

  -- the number of its body is the one in the object's row
  pub entry_number : (o : ℕ) (q : Procedure) (x : IsEntryBody o q) → (service_of t o (Some q)).entry ≡ Some (bodies_before t x.place + x.k)
  entry_number o q x =
      ap (number_in t (Some o)) (ap (λ z. z.name) x.is) ∙ ap (λ n. number_in t (Some n) x.d.name.name) (sym x.number)
      ∙ has_number laws.scopes laws.names laws.premises t legal restricted x.place x.name x.items x.end_name x.at x.k (EntryBody x.d x.barrier x.b) x.there

  -- each body of an entry is that of its object's
  module _ (place : ℕ) (name : Identifier) (items : List ProtectedItemTree) (end_name : Identifier)
      (at : slice_get (declared_in t.package_) place ≡ Some (ProtectedBody name items end_name)) (k : ℕ) (d : EntryTree) (barrier : ExprTree) (b : BodyTree)
      (there : slice_get items k ≡ Some (EntryBody d barrier b)) where
    abbrev obj : ProtectedObject
    obj = object laws.scopes laws.names laws.premises t legal restricted place name items end_name at

    pub only_entry : (q : Procedure) × (entry_of program.procedures obj.number ≡ Some q) × (q.name ≡ d.name.name)
    only_entry =
        let own = added.owned laws.scopes laws.names laws.premises t legal restricted place name items end_name at in
        let mine = own k (EntryBody d barrier b) there in
        let e =
        entry_inside program (start_in t.package_) (declared_in t.package_) (whole laws t legal restricted) place name items end_name at own d.name.name
        mine.profile mine.stands_ (k, EntryBody d barrier b, there, refl) in
        let named = procedure_named program.procedures (Some obj.number) d.name.name e.procedure e.is in
        (e.procedure, subst (λ n. entry_of program.procedures n ≡ Some e.procedure) (same_object e.procedure e.object e.owner named.0) e.only, named.1)
      where
        number_in_owner : Option ℕ → ℕ
        number_in_owner (Some n) = n
        number_in_owner None = 0

        same_object : (q : Procedure) (n : ℕ) → q.object ≡ Some n → q.object ≡ Some obj.number → n ≡ obj.number
        same_object q n one two = ap number_in_owner (sym one ∙ two)

    -- the row of the object names it
    pub entry_told : (row : ObjectRow) (x : BareObject) → row ≡ object_row t obj.number x → row.entry ≡ number_in t (Some obj.number) d.name.name
    entry_told row x is =
        ap (λ r. r.entry) is ∙ ap (λ e. (service_of t obj.number e).entry) only_entry.1 ∙ ap (number_in t (Some obj.number)) only_entry.2
