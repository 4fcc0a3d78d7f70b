-- Declarations only add names at the end, and what a name stands for stays.
use Rattle.std.proofs.Common.{◌≡◌, ◌++◌, ℕ, drop, length, take, List, [], ◌∷◌, Bool, true, false, inl, inr, Option, Some, None, refl, sym, ap, ◌∙◌, subst}
use Rattle.std.specs.Prelude.{cond}
use Rattle.std.proofs.lemmas.List.{append_assoc, append-nil, take-append-drop}
use Rattle.std.proofs.Math.Seq.{take-append_seam}
use Rattle.expr_soundness.specs.ada_tree.specs.declared.expression.Identifier.{Identifier}
use Rattle.expr_soundness.specs.ada_tree.specs.ProgramTree.{BodyItemTree, OfItem, SubprogramBody, TaskBody, ProtectedBody, ItemTree, OfType, OfObject, OfException, OfSubprogram, OfTask, OfProtected, OperationBody, EntryBody, ProtectedItemTree}
use Rattle.types.specs.declared.entity.RecordComponent.{RecordComponent}
use Rattle.types.specs.declared.entity.Subtype.{Subtype}
use Rattle.types.specs.Entities.{Entity, Object, Operation}
use Rattle.types.specs.Scopes.{Named, Scope, entity_at, entity_of, is_visible, number_of, with_name}
use Rattle.expr_soundness.specs.type_rules.specs.SubtypeNames.{entity_at_or_none, named_entity, subtype_in, subtype_of}
use Rattle.declaration_rules.specs.BodyNames.{component_role, components_scope, operation_entity, operations_scope}
use Rattle.declaration_rules.specs.ItemRules.{item_scope}
use Rattle.declaration_rules.specs.Laws.{StandsFirst}
use Rattle.declaration_rules.specs.PackageNames.{body_item_scope, body_items_scope}
use Rattle.unit_rules.specs.ProtectedBodyRules.{protected_item_scope, protected_items_scope}
use Rattle.expr_soundness.proofs.Growing.{HasTypes, grown}
use Rattle.expr_soundness.proofs.Positions.{entity_kept, entity_number, item_added, number_added, number_kept}

-- ---- with more names

abbrev pub Extends : Scope → Scope → Type 0
Extends s t = (more : Scope) × (t ≡ s ++ more)

pub extends_self : (s : Scope) → Extends s s
extends_self s = ([], sym (append-nil s))

pub extends_more : (s t u : Scope) → Extends s t → Extends t u → Extends s u
extends_more s t u a b = (a.0 ++ b.0, b.1 ∙ ap (λ l. l ++ b.0) a.1 ∙ append_assoc s a.0 b.0)

pub stands_first : (s t : Scope) → Extends s t → StandsFirst s t
stands_first s t g = ap (take (length s)) g.1 ∙ take-append_seam s g.0

pub extends_first : (s t : Scope) → StandsFirst s t → Extends s t
extends_first s t h = (drop_first, sym (take-append-drop (length s) t) ∙ ap (λ l. l ++ drop_first) h)
  where
    drop_first : Scope
    drop_first = drop (length s) t

extends_by : (s : Scope) (n : Named) (b : Bool) → Extends s (cond b s (s ++ n ∷ []))
extends_by s n true = extends_self s
extends_by s n false = (n ∷ [], refl)

pub name_extends : (s : Scope) (name : List ℕ) (e : Entity) → Extends s (with_name s name e)
name_extends s name e = extends_by s (record { name = name; entity = e }) (is_visible s name)

pub has_types : (s t : Scope) → Extends s t → HasTypes s t
has_types s t x = subst (HasTypes s) (sym x.1) (grown s x.0)

-- ---- by each kind of declaration

pub item_extends : (s : Scope) (d : ItemTree) → Extends s (item_scope s d)
item_extends s (OfType d) = name_extends s _ _
item_extends s (OfObject d) = name_extends s _ _
item_extends s (OfException name) = name_extends s _ _
item_extends s (OfSubprogram d) = name_extends s _ _
item_extends s (OfTask d) = name_extends s _ _
item_extends s (OfProtected d) = name_extends s _ _

pub body_item_extends : (s : Scope) (i : BodyItemTree) → Extends s (body_item_scope s i)
body_item_extends s (OfItem d) = item_extends s d
body_item_extends s (SubprogramBody d b) = name_extends s _ _
body_item_extends s (TaskBody name b) = extends_self s
body_item_extends s (ProtectedBody name items end_name) = extends_self s

pub body_items_extend : (s : Scope) (is : List BodyItemTree) → Extends s (body_items_scope s is)
body_items_extend s [] = extends_self s
body_items_extend s (i ∷ is) =
    extends_more s (body_item_scope s i) (body_items_scope (body_item_scope s i) is) (body_item_extends s i) (body_items_extend (body_item_scope s i) is)

pub operations_extend : (s : Scope) (os : List Operation) → Extends s (operations_scope s os)
operations_extend s [] = extends_self s
operations_extend s (o ∷ os) =
    let next = with_name s o.name (operation_entity o) in
    extends_more s next (operations_scope next os) (name_extends s o.name (operation_entity o)) (operations_extend next os)

pub protected_item_extends : (s : Scope) (i : ProtectedItemTree) → Extends s (protected_item_scope s i)
protected_item_extends s (OperationBody d b) = name_extends s _ _
protected_item_extends s (EntryBody d barrier b) = extends_self s

pub protected_items_extend : (s : Scope) (is : List ProtectedItemTree) → Extends s (protected_items_scope s is)
protected_items_extend s [] = extends_self s
protected_items_extend s (i ∷ is) =
    extends_more s (protected_item_scope s i) (protected_items_scope (protected_item_scope s i) is) (protected_item_extends s i)
    (protected_items_extend (protected_item_scope s i) is)

-- ---- what names stand for

pub number_stays : (s t : Scope) (name : List ℕ) (n : ℕ) → Extends s t → number_of s name ≡ Some n → number_of t name ≡ Some n
number_stays s t name n x h = ap (λ u. number_of u name) x.1 ∙ number_kept s x.0 name n h

pub entity_stays : (s t : Scope) (n : ℕ) (e : Entity) → Extends s t → entity_at s n ≡ Some e → entity_at t n ≡ Some e
entity_stays s t n e x h = ap (λ u. entity_at u n) x.1 ∙ entity_kept s x.0 n e h

-- a name that stands for something, with its number
pub record StandsFor (s : Scope) (name : List ℕ) (e : Entity) : Type 0 where
  pub number : ℕ
  pub numbered : number_of s name ≡ Some number
  pub stands : entity_at s number ≡ Some e

pub stands_for : (s : Scope) (name : Identifier) (e : Entity) → named_entity s name ≡ Some e → StandsFor s name.name e
stands_for s name e h = by_number (number_of s name.name) refl h
  where
    by_number : (o : Option ℕ) → number_of s name.name ≡ o → entity_at_or_none s o ≡ Some e → StandsFor s name.name e
    by_number (Some n) is k = record { number = n; numbered = is; stands = k }
    by_number None is k = cc

pub named_by : (s : Scope) (name : Identifier) (e : Entity) → StandsFor s name.name e → named_entity s name ≡ Some e
named_by s name e x = ap (entity_at_or_none s) x.numbered ∙ x.stands

pub named_stays : (s t : Scope) (name : Identifier) (e : Entity) → Extends s t → named_entity s name ≡ Some e → named_entity t name ≡ Some e
named_stays s t name e x h =
    let at = stands_for s name e h in
    named_by t name e (record { number = at.number; numbered = number_stays s t name.name at.number x at.numbered; stands = entity_stays s t at.number e x at.stands })

pub subtype_entity : (o : Option Entity) (t : Subtype) → subtype_in o ≡ Some t → (e : Entity) × (o ≡ Some e)
subtype_entity (Some e) t h = (e, refl)
subtype_entity None t h = cc

pub subtype_stays : (s t : Scope) (name : Identifier) (u : Subtype) → Extends s t → subtype_of s name ≡ Some u → subtype_of t name ≡ Some u
subtype_stays s t name u x h =
    let e = subtype_entity (named_entity s name) u h in
    ap subtype_in (named_stays s t name e.0 x e.1) ∙ sym (ap subtype_in e.1) ∙ h

last_entity : (s : Scope) (m : Named) → entity_at (s ++ m ∷ []) (length s) ≡ Some m.entity
last_entity s m = ap entity_of (item_added s m)

-- ---- where no subtypes are added

abbrev pub SameSubtypes : Scope → Scope → Type 0
SameSubtypes s t = (name : Identifier) → subtype_of t name ≡ subtype_of s name

pub same_subtypes : (s : Scope) (name : List ℕ) (e : Entity) → subtype_in (Some e) ≡ None → SameSubtypes s (with_name s name e)
same_subtypes s name e none x = by_visible (is_visible s name) refl
  where
    m : Named
    m = record { name = name; entity = e }

    wider : Scope
    wider = s ++ m ∷ []

    seen : (o : Option ℕ) → number_of s x.name ≡ o → (k : Option ℕ) → number_of wider x.name ≡ k
        → subtype_in (entity_at_or_none wider k) ≡ subtype_in (entity_at_or_none s o)
    seen (Some n) is k at =
        let same : k ≡ Some n = sym at ∙ number_kept s (m ∷ []) x.name n is in
        let there = entity_number s x.name n is in
        ap (λ j. subtype_in (entity_at_or_none wider j)) same ∙ ap subtype_in (entity_kept s (m ∷ []) n there.0 there.1) ∙ sym (ap subtype_in there.1)
    seen None is None at = refl
    seen None is (Some n) at =
        elim (number_added s m x.name n at) [
          | inl k ↦ (let never = sym is ∙ k in cc)
          | inr k ↦ ap (λ j. subtype_in (entity_at wider j)) k.0 ∙ ap subtype_in (last_entity s m) ∙ none
        ]

    by_visible : (b : Bool) → is_visible s name ≡ b → subtype_of (with_name s name e) x ≡ subtype_of s x
    by_visible true h = ap (λ b. subtype_of (cond b s wider) x) h
    by_visible false h = ap (λ b. subtype_of (cond b s wider) x) h ∙ seen (number_of s x.name) refl (number_of wider x.name) refl

pub same_more : (s t u : Scope) → SameSubtypes s t → SameSubtypes t u → SameSubtypes s u
same_more s t u a b name = b name ∙ a name

pub components_same : (s : Scope) (is_function : Bool) (cs : List RecordComponent) → SameSubtypes s (components_scope s is_function cs)
components_same s is_function [] = λ name. refl
components_same s is_function (c ∷ cs) =
    let part = Object (component_role is_function) c.subtype in
    let next = with_name s c.name part in
    same_more s next (components_scope next is_function cs) (same_subtypes s c.name part refl) (components_same next is_function cs)
