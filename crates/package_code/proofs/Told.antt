-- What the directory tells of visible names, as these become visible one by one.
use Rattle.std.proofs.Common.{◌≡◌, ℕ, suc, List, [], ◌∷◌, ◌++◌, length, Bool, true, false, ◌⊎◌, inl, inr, Option, Some, None, refl, sym, ap, ◌∙◌, subst, arith, length-append}
use Rattle.std.proofs.lemmas.List.{length-replicate}
use Rattle.std.specs.Prelude.{if◌then◌else◌}
use Rattle.ada_tree.specs.StatementTree.{SubprogramTree}
use Rattle.ada_tree.specs.ProgramTree.{ItemTree, OfException, OfObject, OfProtected, OfSubprogram, OfTask, OfType}
use Rattle.types.specs.Entities.{Entity}
use Rattle.types.specs.Scopes.{Scope, is_visible, with_name}
use Rattle.type_rules.specs.ProfileRules.{subprogram_scope}
use Rattle.declaration_rules.specs.ItemRules.{item_scope}
use Rattle.unit_rules.specs.MainRules.{item_name}
use Rattle.expr_code.specs.Seeing.{told_of}
use Rattle.expr_code.specs.declared.visible.Visible.{Visible}
use Rattle.step_simulation.specs.part_code.proofs.Names.{same_name, told_of_more}
use Rattle.package_code.specs.Directory.{AreTold, IsUnseen, TellsNext, operations_told}
use Rattle.package_code.specs.declared.directory.Directory.{Directory}
use Rattle.package_code.proofs.Variables.{none_told}

-- ---- declarations make at most one name visible

abbrev pub Grows : Scope → List ℕ → Scope → Type 0
Grows s name t = (t ≡ s) ⊎ ((e : Entity) × (t ≡ s ++ record { name = name; entity = e } ∷ []))

with_grows : (s : Scope) (name : List ℕ) (e : Entity) → Grows s name (with_name s name e)
with_grows s name e = by_test (is_visible s name)
  where
    by_test : (b : Bool) → Grows s name (if b then s else s ++ record { name = name; entity = e } ∷ [])
    by_test true = inl refl
    by_test false = inr (e, refl)

pub item_grows : (s : Scope) (d : ItemTree) → Grows s (item_name d).name (item_scope s d)
item_grows s (OfType d) = with_grows s d.name.name _
item_grows s (OfObject d) = with_grows s d.name.name _
item_grows s (OfException name) = with_grows s name.name _
item_grows s (OfSubprogram d) = with_grows s d.name.name _
item_grows s (OfTask d) = with_grows s d.name.name _
item_grows s (OfProtected d) = with_grows s d.name.name _

pub subprogram_grows : (s : Scope) (d : SubprogramTree) → Grows s d.name.name (subprogram_scope s d)
subprogram_grows s d = with_grows s d.name.name _

-- ---- what is told

-- of names of which nothing is told
pub unseen_told : (whole : Scope) (d : Directory) (s : Scope) (operations : List (List (Option ℕ))) (v : Visible) → operations ≡ operations_told whole d
    → IsUnseen s operations v → AreTold whole d None v
unseen_told whole d s operations v numbers u = record {
  slots = λ name x h. (let no = sym (ap (λ l. told_of v.scope l name) u.slots ∙ none_told v.scope (length s) name) ∙ h in cc);
  calls = λ name x h. (let no = sym (ap (λ l. told_of v.scope l name) u.subprograms ∙ none_told v.scope (length s) name) ∙ h in cc);
  operations = u.operations ∙ numbers;
  entries = record {
    slots = ap length u.slots ∙ length-replicate (length s) None ∙ ap length (sym u.scope);
    subprograms = ap length u.subprograms ∙ length-replicate (length s) None ∙ ap length (sym u.scope);
  };
}

one_longer : {X : Type 0} (xs : List X) (x : X) → length (xs ++ x ∷ []) ≡ suc (length xs)
one_longer xs x = (let long = length-append xs (x ∷ []) in omega (arith, long))

-- an entry was added, or none, and there are as many as names
entries_next : {X : Type 0} (whole : Scope) (told : List (Option X)) (s t : Scope) (name : List ℕ) (all more : List (Option X)) → length all ≡ length s
    → length more ≡ length t → Grows s name t → (more ≡ all) ⊎ (more ≡ all ++ told_of whole told name ∷ [])
    → ((other : List ℕ) (x : X) → told_of s all other ≡ Some x → told_of whole told other ≡ Some x)
    → (other : List ℕ) (x : X) → told_of t more other ≡ Some x → told_of whole told other ≡ Some x
entries_next whole told s t name all more long wide (inl same) (inl kept) before other x h =
    before other x (sym (λ j. told_of (same j) (kept j) other) ∙ h)
entries_next whole told s t name all more long wide (inl same) (inr added) before other x h =
    absurd (let a = ap length added ∙ one_longer all (told_of whole told name) in let b = ap length same in omega (arith, a, b, long, wide))
entries_next whole told s t name all more long wide (inr grown) (inl kept) before other x h =
    absurd (let a = ap length kept in let b = ap length grown.1 ∙ one_longer s (record { name = name; entity = grown.0 }) in omega (arith, a, b, long, wide))
entries_next whole told s t name all more long wide (inr grown) (inr added) before other x h =
    elim
    (told_of_more s (record { name = name; entity = grown.0 }) all (told_of whole told name) other x long
    (sym (λ j. told_of (grown.1 j) (added j) other) ∙ h)) [
      | inl w ↦ before other x w.told
      | inr w ↦ subst (λ n. told_of whole told n ≡ Some x) (sym (same_name other name w.0)) w.1
    ]

-- behind a declaration of a name
pub told_next : (whole : Scope) (d : Directory) (old mid new : Visible) (name : List ℕ) → AreTold whole d None old → mid.slots ≡ old.slots
    → mid.subprograms ≡ old.subprograms → mid.operations ≡ old.operations → Grows old.scope name mid.scope → TellsNext whole d mid name new
    → AreTold whole d None new
told_next whole d old mid new name before slots subprograms operations grows next = record {
  slots = entries_next whole d.slots.items old.scope new.scope name old.slots new.slots before.entries.slots next.entries.slots grown
      (elim next.tells [ inl e ↦ inl (ap (λ v. v.slots) e ∙ slots) | inr e ↦ inr (e.slots ∙ ap (λ l. l ++ told_of whole d.slots.items name ∷ []) slots) ])
      before.slots;
  calls = entries_next whole d.numbers.items old.scope new.scope name old.subprograms new.subprograms before.entries.subprograms next.entries.subprograms
      grown
      (elim next.tells [
        | inl e ↦ inl (ap (λ v. v.subprograms) e ∙ subprograms)
        | inr e ↦ inr (e.subprograms ∙ ap (λ l. l ++ told_of whole d.numbers.items name ∷ []) subprograms)
      ])
      before.calls;
  operations = next.operations ∙ operations ∙ before.operations;
  entries = next.entries;
}
  where
    grown : Grows old.scope name new.scope
    grown = subst (Grows old.scope name) (sym next.scope) grows
