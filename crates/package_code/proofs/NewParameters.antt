-- The parameters of a body that breaks no rule have new names, each its own; those of a function are copied in (RM 6.1, 8.3).
use Rattle.std.proofs.Common.{◌≡◌, ℕ, suc, List, [], ◌∷◌, map, cond, not, Bool, true, false, ◌||◌, Some, None, refl, sym, ap, ◌∙◌, subst}
use Rattle.std.specs.Prelude.{bytes_eq, slice_get, ⊤}
use Rattle.std.specs.List.{list_any}
use Rattle.ada_tree.specs.declared.declaration.Formal.{Formal}
use Rattle.ada_tree.specs.declared.declaration.Mode.{Mode}
use Rattle.ada_tree.specs.declared.declaration.Mode.TheVariants as mode
use Rattle.ada_tree.specs.StatementTree.{SubprogramTree}
use Rattle.ada_tree.specs.ProgramTree.{BodyItemTree, BodyTree, SubprogramBody}
use Rattle.types.specs.Entities.{Doubtful}
use Rattle.types.specs.Places.{or_else}
use Rattle.types.specs.Scopes.{Scope}
use Rattle.expr_soundness.specs.expr_rules.proofs.TypedLaw.{back_empty, front_empty}
use Rattle.type_rules.specs.SubtypeNames.{end_rule}
use Rattle.declaration_rules.specs.BodyNames.{formals_scope}
use Rattle.type_rules.specs.ProfileRules.{formals_faults, is_in, is_wrong_formal, profile_faults, subprogram_scope}
use Rattle.unit_rules.specs.BodyRules.{body_faults, head_faults, kind_of, own_name_faults}
use Rattle.expr_soundness.specs.Laws.{ScopesAreSound}
use Rattle.expr_soundness.specs.SoundScopes.{SoundScope}
use Rattle.expr_soundness.specs.meaning.specs.Programs.{Parameter, Program, parameter}
use Rattle.program_soundness.specs.Fronts.{scope_at}
use Rattle.program_soundness.proofs.Beginning.{keeps_same, keeps_with}
use Rattle.program_soundness.proofs.Called.{body_legal, head_legal}
use Rattle.program_soundness.proofs.WiderScopes.{bytes_same, found_in, same_bytes, stands, with_all}
use Rattle.program_soundness.proofs.FormalTrees.{new_formals, text_formals, unseen_first, unseen_own}
use Rattle.program_soundness.proofs.Formals.{AreNew, all_named, named_formal}
use Rattle.program_soundness.proofs.BodyProfiles.{subtype_kept}
use Rattle.program_soundness.proofs.Walked.{scope_next}
use Rattle.program_soundness.proofs.Whole.{IsPackage, kept, no_doubt}
use Rattle.stmt_code.proofs.Bodies.{AreDistinct, IsOther}

-- ---- names of parameters

other_names : (fs : List Parameter) (name : List ℕ) → found_in (all_named fs) name ≡ None → IsOther name fs
other_names [] name h = tt
other_names (f ∷ fs) name h = by_test (bytes_eq name f.name) refl h (λ k. other_names fs name k)
  where
    turned : (b : Bool) → bytes_eq f.name name ≡ b → bytes_eq name f.name ≡ false → b ≡ false
    turned true e k = let same = ap (bytes_eq name) (same_bytes f.name name e) ∙ bytes_same name in let both = sym same ∙ k in cc
    turned false e k = refl

    by_test : (b : Bool) → bytes_eq name f.name ≡ b → or_else (cond b (Some (named_formal f).entity) None) (found_in (all_named fs) name) ≡ None
        → (found_in (all_named fs) name ≡ None → IsOther name fs) → IsOther name (f ∷ fs)
    by_test true e k later = cc
    by_test false e k later = (turned (bytes_eq f.name name) refl e, later k)

pub distinct_names : (s : Scope) (fs : List Parameter) → AreNew s fs → AreDistinct fs
distinct_names s [] new = tt
distinct_names s (f ∷ fs) new = (other_names fs f.name new.1, distinct_names s fs new.3)

-- ---- modes of formals

abbrev pub AreCopiedIn : List Formal → Type 0
AreCopiedIn [] = ⊤
AreCopiedIn (f ∷ fs) = (f.mode ≡ mode.In) × AreCopiedIn fs

pub either_false : (a b : Bool) → (a || b) ≡ false → (a ≡ false) × (b ≡ false)
either_false true b h = cc
either_false false b h = (refl, h)

copied_in : (m : Mode) → not (is_in m) ≡ false → m ≡ mode.In
copied_in mode.In h = refl
copied_in mode.Out h = cc
copied_in mode.InOut h = cc

pub all_copied_in : (s : Scope) (fs : List Formal) → list_any (is_wrong_formal s) fs ≡ false → AreCopiedIn fs
all_copied_in s [] h = tt
all_copied_in s (f ∷ fs) h =
    let two = either_false (is_wrong_formal s f) (list_any (is_wrong_formal s) fs) h in
    (copied_in f.mode (either_false (not (is_in f.mode)) _ two.0).0, all_copied_in s fs two.1)

-- ---- the body at a place of the package

module _ (scopes : ScopesAreSound) (program : Program) (s : Scope) (all : List BodyItemTree) (w : IsPackage program s all)
    (fronts : (k : ℕ) → SoundScope (scope_at s all k)) (k : ℕ) (d : SubprogramTree) (b : BodyTree) (at : slice_get all k ≡ Some (SubprogramBody d b)) where
  abbrev before : Scope
  before = scope_at s all k

  abbrev behind : Scope
  behind = subprogram_scope before d

  behind_is : scope_at s all (suc k) ≡ behind
  behind_is = scope_next s all k (SubprogramBody d b) at

  head : head_faults before d b ≡ []
  head = head_legal program s all w k d b at

  profile_legal : profile_faults before d ≡ []
  profile_legal = front_empty (profile_faults before d) _ (front_empty _ _ (front_empty _ _ head))

  formals_legal : formals_faults before [] d.formals ≡ []
  formals_legal = front_empty _ _ (front_empty _ _ profile_legal)

  own_legal : own_name_faults d.name d.formals ≡ []
  own_legal = back_empty (profile_faults before d) _ (front_empty _ _ (front_empty _ _ head))

  doubt : (name : List ℕ) → stands before name ≡ Some Doubtful → ⊥
  doubt name h = no_doubt program s all w name (kept program s all w k name Doubtful h)

  pub parameters_new : AreNew (scope_at s all (suc k)) (map (parameter program.scope) d.formals)
  parameters_new =
      subst (λ u. AreNew u (map (parameter program.scope) d.formals)) (sym behind_is)
      (new_formals scopes program.scope before behind (subst SoundScope behind_is (fronts (suc k))) (keeps_with before d.name.name _) doubt
      (λ name t h. subtype_kept before program.scope (kept program s all w k) name t h) [] d.formals formals_legal
      (unseen_own before d.name _ d.formals own_legal (unseen_first before [] d.formals formals_legal)))

  -- ---- the scope of the body, as its text is judged

  pub formals_text : formals_scope (scope_at s all (suc k)) d.formals
      ≡ with_all (scope_at s all (suc k)) (all_named (map (parameter program.scope) d.formals))
  formals_text =
      subst (λ u. formals_scope u d.formals ≡ with_all u (all_named (map (parameter program.scope) d.formals))) (sym behind_is)
      (text_formals scopes program.scope before behind (subst SoundScope behind_is (fronts (suc k))) (keeps_with before d.name.name _) doubt
      (λ name t h. subtype_kept before program.scope (kept program s all w k) name t h) [] d.formals behind (keeps_same behind) formals_legal)

  pub body_unbroken : body_faults (formals_scope (scope_at s all (suc k)) d.formals) (kind_of before d.result) b ≡ []
  body_unbroken =
      subst (λ u. body_faults (formals_scope u d.formals) (kind_of before d.result) b ≡ []) (sym behind_is)
      (back_empty (head_faults before d b) _ (front_empty _ (end_rule d.name b.end_name) (body_legal program s all w k d b at)))
