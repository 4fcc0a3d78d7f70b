-- What tests say of the items of a protected object's body, and of places in front of others.
use Rattle.std.proofs.Common.{◌≡◌, ◌<◌, ℕ, zero, suc, ◌+◌, List, [], ◌∷◌, not, Bool, true, false, cond, ◌&&◌, ◌||◌, ◌⊎◌, inl, inr, Some, None, refl, ap, subst, arith}
use Rattle.std.specs.Prelude.{slice_get}
use Rattle.expr_soundness.specs.ada_tree.specs.StatementTree.{ProtectedTree, SubprogramTree}
use Rattle.expr_soundness.specs.ada_tree.specs.ProgramTree.{BodyTree, BodyItemTree, OfItem, SubprogramBody, TaskBody, ProtectedBody, OfType, OfObject, OfException, OfSubprogram, OfTask, OfProtected, ProtectedItemTree, OperationBody}
use Rattle.types.specs.Scopes.{Scope}
use Rattle.expr_soundness.specs.expr_rules.proofs.TypedLaw.{back_empty, front_empty, unbroken}
use Rattle.unit_rules.specs.ProtectedBodyRules.{outer_name_rule, outer_names_faults}
use Rattle.program_soundness.proofs.Listing.{same_some}
use Rattle.program_soundness.proofs.WiderScopes.{stands, unseen_none}
use Rattle.program_soundness.proofs.Walked.{Constants, ProtectedOnes, Variables, body_item_kind}

pub either_false : (a b : Bool) → (a || b) ≡ false → (a ≡ false) × (b ≡ false)
either_false true b h = cc
either_false false b h = (refl, h)

pub both_true : (a b : Bool) → (a && b) ≡ true → (a ≡ true) × (b ≡ true)
both_true true b h = (refl, h)
both_true false b h = cc

pub not_true : (b : Bool) → not b ≡ false → b ≡ true
not_true true h = refl
not_true false h = cc

pub protected_item : (i : BodyItemTree) → ProtectedOnes ≡ body_item_kind i → (d : ProtectedTree) × (i ≡ OfItem (OfProtected d))
protected_item (OfItem (OfProtected d)) h = (d, refl)
protected_item (OfItem (OfObject d)) h = absurd (by_constant d.constant h)
  where
    by_constant : (b : Bool) → ProtectedOnes ≡ cond b Constants Variables → ⊥
    by_constant true k = cc
    by_constant false k = cc
protected_item (OfItem (OfException own)) h = cc
protected_item (OfItem (OfType d)) h = cc
protected_item (OfItem (OfSubprogram d)) h = cc
protected_item (OfItem (OfTask d)) h = cc
protected_item (SubprogramBody d b) h = cc
protected_item (TaskBody own b) h = cc
protected_item (ProtectedBody own items end_name) h = cc

pub order : (a b : ℕ) → (a < b) ⊎ ((a ≡ b) ⊎ (b < a))
order zero zero = inr (inl refl)
order zero (suc b) = inl (omega arith)
order (suc a) zero = inr (inr (omega arith))
order (suc a) (suc b) = elim (order a b) [
  | inl l ↦ inl (omega (arith, l))
  | inr x ↦ elim x [ inl e ↦ inr (inl (ap suc e)) | inr l ↦ inr (inr (omega (arith, l))) ]
]

pub further_by : (a b : ℕ) → a < b → (m : ℕ) × (suc a + m ≡ b)
further_by zero zero l = absurd (omega (arith, l))
further_by zero (suc b) l = (b, omega arith)
further_by (suc a) zero l = absurd (omega (arith, l))
further_by (suc a) (suc b) l = let n = further_by a b (omega (arith, l)) in (n.0, let e = n.1 in omega (arith, e))

pub outer_at : (s : Scope) (items : List ProtectedItemTree) (j : ℕ) (e : SubprogramTree) (b : BodyTree) → outer_names_faults s items ≡ []
    → slice_get items j ≡ Some (OperationBody e b)
    → stands s e.name.name ≡ None
outer_at s [] j e b h at = cc
outer_at s (x ∷ xs) zero e b h at =
    let one : outer_name_rule s (OperationBody e b) ≡ [] =
    subst (λ y. outer_name_rule s y ≡ []) (same_some x (OperationBody e b) at) (front_empty (outer_name_rule s x) (outer_names_faults s xs) h) in
    unseen_none s e.name.name (unbroken _ e.name.place _ one)
outer_at s (x ∷ xs) (suc j) e b h at = outer_at s xs j e b (back_empty (outer_name_rule s x) (outer_names_faults s xs) h) at
