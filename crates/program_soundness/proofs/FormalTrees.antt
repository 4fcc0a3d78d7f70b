-- Formals that break no rule are new names of known subtypes, and the scope of the body has them in the order of the text.
use Rattle.std.proofs.Common.{◌≡◌, ℕ, List, [], ◌∷◌, ◌++◌, length, map, Bool, true, false, cond, ◌||◌, Some, None, refl, sym, ap, ◌∙◌, subst}
use Rattle.std.specs.Prelude.{bytes_eq, slice_get, ⊤}
use Rattle.expr_soundness.specs.ada_tree.specs.declared.expression.Identifier.{Identifier}
use Rattle.expr_soundness.specs.ada_tree.specs.declared.declaration.Formal.{Formal}
use Rattle.types.specs.declared.entity.Subtype.{Subtype}
use Rattle.types.specs.Entities.{Entity, Doubtful}
use Rattle.types.specs.Scopes.{Scope, with_name}
use Rattle.types.specs.Places.{or_else}
use Rattle.expr_soundness.specs.expr_rules.proofs.TypedLaw.{back_empty, front_empty, unbroken}
use Rattle.expr_soundness.specs.type_rules.specs.SubtypeNames.{named_entity, subtype_faults, subtype_of}
use Rattle.expr_soundness.specs.type_rules.specs.ObjectRules.{object_entity}
use Rattle.expr_soundness.specs.type_rules.specs.ProfileRules.{formal_faults, formals_faults, is_formal_in}
use Rattle.declaration_rules.specs.BodyNames.{formal_role, formal_scope, formals_scope}
use Rattle.unit_rules.specs.BodyRules.{own_name_faults}
use Rattle.expr_soundness.specs.SoundScopes.{IsKnown, SoundScope}
use Rattle.expr_soundness.specs.Laws.{ScopesAreSound}
use Rattle.expr_soundness.proofs.Positions.{item_added}
use Rattle.expr_soundness.specs.meaning.specs.Programs.{parameter, subtype_named}
use Rattle.program_soundness.proofs.Listing.{front_at, none_passes}
use Rattle.program_soundness.proofs.WiderScopes.{found_in, stands, stands_with, unseen_none, with_all}
use Rattle.program_soundness.proofs.BodyProfiles.{Keeps, named_is, subtype_kept}
use Rattle.program_soundness.proofs.Beginning.{keeps_then, keeps_with}
use Rattle.program_soundness.proofs.Whole.{legal_subtype}
use Rattle.program_soundness.proofs.Formals.{AreNew, all_named, named_formal}

-- none of them is visible
abbrev pub AllUnseen : Scope → List Formal → Type 0
AllUnseen s [] = ⊤
AllUnseen s (f ∷ fs) = (stands s f.name.name ≡ None) × (AllUnseen s fs)

either_false : (a b : Bool) → (a || b) ≡ false → (a ≡ false) × (b ≡ false)
either_false true b h = cc
either_false false b h = (refl, h)

fault_parts : (s : Scope) (before : List Formal) (f : Formal) → formal_faults s before f ≡ []
    → (stands s f.name.name ≡ None) × (is_formal_in before f.name.name ≡ false) × (subtype_faults s f.subtype ≡ [])
fault_parts s before f h =
    let two = front_empty _ (subtype_faults s f.subtype) h in
    let names = either_false _ (is_formal_in before f.name.name) (unbroken _ f.name.place _ (front_empty _ _ two)) in
    (unseen_none s f.name.name names.0, names.1, back_empty _ (subtype_faults s f.subtype) h)

pub unseen_first : (s : Scope) (before fs : List Formal) → formals_faults s before fs ≡ [] → AllUnseen s fs
unseen_first s before [] h = tt
unseen_first s before (f ∷ fs) h =
    let one = fault_parts s before f (front_empty (formal_faults s before f) (formals_faults s (before ++ f ∷ []) fs) h) in
    (one.0, unseen_first s (before ++ f ∷ []) fs (back_empty (formal_faults s before f) (formals_faults s (before ++ f ∷ []) fs) h))

-- nor where the subprogram's own name is visible too
pub unseen_own : (s : Scope) (own : Identifier) (e : Entity) (fs : List Formal) → own_name_faults own fs ≡ [] → AllUnseen s fs
    → AllUnseen (with_name s own.name e) fs
unseen_own s own e [] h new = tt
unseen_own s own e (f ∷ fs) h new =
    let other = unbroken _ f.name.place _ (front_empty _ (own_name_faults own fs) h) in (
      stands_with s own.name e f.name.name ∙ (λ j. or_else (new.0 j) (cond (other j) (Some e) None)),
      unseen_own s own e fs (back_empty _ (own_name_faults own fs) h) new.1,
    )

module _ (scopes : ScopesAreSound) (whole s later : Scope) (sound : SoundScope later) (keeps : Keeps s later)
    (doubt : (name : List ℕ) → stands s name ≡ Some Doubtful → ⊥)
    (same : (name : Identifier) (t : Subtype) → subtype_of s name ≡ Some t → subtype_of whole name ≡ Some t) where
  -- an earlier formal has another name
  later_apart : (before fs : List Formal) (f : Formal) (k : ℕ) → slice_get before k ≡ Some f → formals_faults s before fs ≡ []
      → found_in (all_named (map (parameter whole) fs)) f.name.name ≡ None
  later_apart before [] f k at h = refl
  later_apart before (g ∷ gs) f k at h =
      let one = fault_parts s before g (front_empty (formal_faults s before g) (formals_faults s (before ++ g ∷ []) gs) h) in
      let other : bytes_eq f.name.name g.name.name ≡ false = none_passes (λ x. bytes_eq x.name.name g.name.name) before k f one.1 at in
      let rest =
      later_apart (before ++ g ∷ []) gs f k (front_at before (g ∷ []) k f at)
      (back_empty (formal_faults s before g) (formals_faults s (before ++ g ∷ []) gs) h) in
      λ j. or_else (cond (other j) (Some (named_formal (parameter whole g)).entity) None) (rest j)

  known_formal : (f : Formal) → subtype_faults s f.subtype ≡ [] → (t : Subtype) × (subtype_of s f.subtype ≡ Some t)
  known_formal f h = legal_subtype f.subtype.place (named_entity s f.subtype) h (doubt f.subtype.name)

  pub new_formals : (before fs : List Formal) → formals_faults s before fs ≡ [] → AllUnseen later fs → AreNew later (map (parameter whole) fs)
  new_formals before [] h unseen = tt
  new_formals before (f ∷ fs) h unseen =
      let first = front_empty (formal_faults s before f) (formals_faults s (before ++ f ∷ []) fs) h in
      let rest = back_empty (formal_faults s before f) (formals_faults s (before ++ f ∷ []) fs) h in
      let t = known_formal f (fault_parts s before f first).2 in
      let named : subtype_named whole f.subtype ≡ t.0 = named_is whole f.subtype t.0 (same f.subtype t.0 t.1) in
      let known : IsKnown later t.0 = scopes.subtype later f.subtype t.0 sound (subtype_kept s later keeps f.subtype t.0 t.1) in (
        unseen.0,
        later_apart (before ++ f ∷ []) fs f (length before) (item_added before f) rest,
        subst (IsKnown later) (sym named) known,
        new_formals (before ++ f ∷ []) fs rest unseen.1,
      )

  -- in a scope behind
  pub text_formals : (before fs : List Formal) (u : Scope) → Keeps later u → formals_faults s before fs ≡ []
      → formals_scope u fs ≡ with_all u (all_named (map (parameter whole) fs))
  text_formals before [] u behind h = refl
  text_formals before (f ∷ fs) u behind h =
      let first = front_empty (formal_faults s before f) (formals_faults s (before ++ f ∷ []) fs) h in
      let rest = back_empty (formal_faults s before f) (formals_faults s (before ++ f ∷ []) fs) h in
      let t = known_formal f (fault_parts s before f first).2 in
      let named : subtype_named whole f.subtype ≡ t.0 = named_is whole f.subtype t.0 (same f.subtype t.0 t.1) in
      let there = subtype_kept s u (keeps_then s later u keeps behind) f.subtype t.0 t.1 in
      let next : Scope = with_name u f.name.name (named_formal (parameter whole f)).entity in
      let one : formal_scope u f ≡ next = ap (λ o. with_name u f.name.name (object_entity (formal_role f.mode) o)) (there ∙ ap Some (sym named)) in
      ap (λ x. formals_scope x fs) one ∙ text_formals (before ++ f ∷ []) fs next (keeps_then later u next behind (keeps_with u f.name.name _)) rest
