-- The names of an accepted program at each declaration and body of its package, and at each operation of its protected objects, are known.
use Rattle.std.proofs.Common.{◌≡◌, ℕ, zero, suc, List, [], ◌∷◌, ◌++◌, take, drop, Option, Some, None, refl, sym, ap, ◌∙◌, subst}
use Rattle.std.specs.Prelude.{is_some, slice_get}
use Rattle.expr_soundness.specs.ada_tree.specs.declared.expression.Identifier.{Identifier}
use Rattle.expr_soundness.specs.ada_tree.specs.StatementTree.{SubprogramTree}
use Rattle.expr_soundness.specs.ada_tree.specs.ProgramTree.{BodyTree, BodyItemTree, OfItem, SubprogramBody, TaskBody, ProtectedBody, OperationBody, PackageTree, ProgramTree, ProtectedItemTree}
use Rattle.types.specs.Entities.{Entity, Protected, ProtectedObject}
use Rattle.types.specs.Scopes.{Scope, entity_at, number_of, standard}
use Rattle.types.specs.Laws.{InitialValuesHaveShape}
use Rattle.expr_soundness.specs.expr_rules.proofs.TypedLaw.{back_empty, front_empty}
use Rattle.expr_soundness.specs.type_rules.specs.ProfileRules.{profile_faults, subprogram_scope}
use Rattle.declaration_rules.specs.BodyNames.{object_body_scope}
use Rattle.declaration_rules.specs.ItemRules.{item_faults}
use Rattle.declaration_rules.specs.Laws.{NamesAreAdded}
use Rattle.unit_rules.specs.BodyRules.{head_faults, subprogram_body_faults}
use Rattle.unit_rules.specs.MainRules.{main_faults}
use Rattle.declaration_rules.specs.PackageNames.{body_item_scope, optional_scope}
use Rattle.unit_rules.specs.PackageBodyRules.{body_item_faults, body_items_faults}
use Rattle.unit_rules.specs.ProtectedBodyRules.{operation_sees, protected_items_scope}
use Rattle.size_rules.specs.ProgramSizes.{size_faults}
use Rattle.legality.specs.ProgramRules.{IsLegal, package_part_faults}
use Rattle.ravenscar.specs.ProgramRules.{IsRestricted}
use Rattle.ravenscar.specs.ProgramRules as profile
use Rattle.expr_soundness.specs.SoundScopes.{SoundScope}
use Rattle.expr_soundness.specs.Laws.{AgreementIsKept, CallsAreTyped}
use Rattle.expr_soundness.specs.Variables.{TargetsAreVariables}
use Rattle.program_soundness.specs.ScopeLaws.{DeclarationsAreSound, ProgramScopesAreSound}
use Rattle.program_soundness.specs.Points.{IsJudgedOperation, IsObjectBody}
use Rattle.program_soundness.specs.Fronts.{declared_in, front, scope_at, start_in}
use Rattle.program_soundness.specs.BodyLaws.{IsKnownObject, NamesAreKnown, PremisesHold}
use Rattle.program_soundness.proofs.Listing.{same_some}
use Rattle.program_soundness.proofs.OneList.{IsLegalList, all_legal, both_empty}
use Rattle.program_soundness.proofs.Walked.{legal_at}

profile_legal : (s : Scope) (d : SubprogramTree) (b : BodyTree) → subprogram_body_faults s d b ≡ [] → profile_faults s d ≡ []
profile_legal s d b h =
    front_empty (profile_faults s d) _ (front_empty _ _ (front_empty _ _ (front_empty (head_faults s d b) _ (front_empty _ _ h))))

-- ---- in front of each declaration and body

item_sound : DeclarationsAreSound → (s : Scope) (i : BodyItemTree) → SoundScope s → body_item_faults s i ≡ [] → SoundScope (body_item_scope s i)
item_sound laws s (OfItem d) sound h = laws.items s (d ∷ []) sound (both_empty (item_faults s d) [] h refl)
item_sound laws s (SubprogramBody d b) sound h = laws.subprogram s d sound (profile_legal s d b h)
item_sound laws s (TaskBody name b) sound h = sound
item_sound laws s (ProtectedBody name items end_name) sound h = sound

fronts_sound : DeclarationsAreSound → (s : Scope) (all : List BodyItemTree) (place : ℕ) → SoundScope s → body_items_faults s all ≡ []
    → SoundScope (scope_at s all place)
fronts_sound laws s [] zero sound h = sound
fronts_sound laws s [] (suc n) sound h = sound
fronts_sound laws s (i ∷ is) zero sound h = sound
fronts_sound laws s (i ∷ is) (suc n) sound h =
    fronts_sound laws (body_item_scope s i) is n (item_sound laws s i sound (front_empty (body_item_faults s i) _ h)) (back_empty (body_item_faults s i) _ h)

start_sound : ProgramScopesAreSound → (t : ProgramTree) → IsLegal t → (o : Option PackageTree) → t.package_ ≡ o → SoundScope (start_in o)
start_sound laws t legal (Some p) is = laws.inside t p legal is
start_sound laws t legal None is = subst (λ o. SoundScope (optional_scope standard o)) is (laws.whole t legal)

-- ---- in the bodies of protected objects

parted : {X : Type 0} (xs : List X) (k : ℕ) (x : X) → slice_get xs k ≡ Some x → xs ≡ take k xs ++ x ∷ drop (suc k) xs
parted [] k x h = cc
parted (y ∷ ys) zero x h = ap (λ z. z ∷ ys) (same_some y x h)
parted (y ∷ ys) (suc k) x h = ap (λ zs. y ∷ zs) (parted ys k x h)

module _ (laws : DeclarationsAreSound) (s : Scope) (name : Identifier) (items : List ProtectedItemTree) where
  module _ (x : IsObjectBody s name items) where
    abbrev behind : ℕ → Scope
    behind place = protected_items_scope (object_body_scope s x.number) (take place items)

    judged : (place : ℕ) (i : ProtectedItemTree) → slice_get items place ≡ Some i → IsJudgedOperation (behind place) x.object.components i
    judged place i h = x.judged (take place items) i (drop (suc place) items) (parted items place i h)

    inner_sound : (place : ℕ) (d : SubprogramTree) (b : BodyTree) → slice_get items place ≡ Some (OperationBody d b)
        → SoundScope (subprogram_scope (operation_sees (behind place) x.object.components d) d)
    inner_sound place d b h =
        let one = judged place (OperationBody d b) h in
        let sees = operation_sees (behind place) x.object.components d in
        laws.subprogram sees d (one.seen (is_some d.result)) (profile_legal sees d b one.legal)

    object_known : IsKnownObject s x.number x.object items
    object_known = record { seen = λ place i h f. (judged place i h).seen f; own = inner_sound }

  -- the object that the body's name stands for is the given one
  known_object : (end_name : Identifier) (number : ℕ) (o : ProtectedObject) → SoundScope s → body_item_faults s (ProtectedBody name items end_name) ≡ []
      → number_of s name.name ≡ Some number → entity_at s number ≡ Some (Protected o)
      → IsKnownObject s number o items
  known_object end_name number o sound h numbered stands =
      let x = laws.object s name items end_name sound h in
      let numbers : x.number ≡ number = same_some x.number number (sym x.numbered ∙ numbered) in
      let entities : Protected x.object ≡ Protected o =
      same_some (Protected x.object) (Protected o) (sym x.stands ∙ ap (entity_at s) numbers ∙ stands) in
      let object_in : Entity → ProtectedObject = λ e. elim e [ Protected p ↦ p | other ↦ o ] in
      subst (λ p. IsKnownObject s number p items) (ap object_in entities)
      (subst (λ n. IsKnownObject s n x.object items) numbers (object_known x))

-- ---- the laws

module _ (declared : DeclarationsAreSound) (scopes : ProgramScopesAreSound) (t : ProgramTree) (legal : IsLegal t) (restricted : IsRestricted t) where
  abbrev start : Scope
  start = start_in t.package_

  abbrev all : List BodyItemTree
  all = declared_in t.package_

  whole : IsLegalList start all
  whole =
      all_legal t.package_ (front_empty (package_part_faults standard t.package_) (main_faults t.package_ t.main) (front_empty _ (size_faults t) legal))
      (back_empty _ (profile.package_part_faults t.package_) (front_empty _ _ restricted))

  fronts : (place : ℕ) → SoundScope (front t place)
  fronts place = fronts_sound declared start all place (start_sound scopes t legal t.package_ refl) whole.legal

  objects : (place : ℕ) (name : Identifier) (items : List ProtectedItemTree) (end_name : Identifier) (number : ℕ) (o : ProtectedObject)
      → slice_get all place ≡ Some (ProtectedBody name items end_name)
      → number_of (front t place) name.name ≡ Some number
      → entity_at (front t place) number ≡ Some (Protected o)
      → IsKnownObject (front t place) number o items
  objects place name items end_name number o at numbered stands =
      known_object declared (front t place) name items end_name number o (fronts place)
      (legal_at start all place (ProtectedBody name items end_name) at whole.legal) numbered stands

pub names_known : DeclarationsAreSound → ProgramScopesAreSound → NamesAreKnown
names_known declared scopes t legal restricted =
    record { fronts = fronts declared scopes t legal restricted; objects = objects declared scopes t legal restricted }

pub premises_hold : CallsAreTyped → AgreementIsKept → NamesAreAdded → TargetsAreVariables → InitialValuesHaveShape → ProgramScopesAreSound → PremisesHold
premises_hold typed kept added targets initial scopes t legal =
    record { typed = typed; kept = kept; added = added; targets = targets; initial = initial; sound = scopes.whole t legal }
