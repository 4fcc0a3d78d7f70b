-- What is visible behind formals: each is an object of the subtype that it names in front of all of them.
use Rattle.std.specs.List.{All}
use Rattle.std.proofs.Common.{◌≡◌, ◌++◌, ℕ, [], ◌∷◌, Bool, true, false, List, Option, Some, None, refl, sym, ap, ◌∙◌, subst, arith}
use Rattle.std.specs.Prelude.{⊤, cond, is_some, nat_eq}
use Rattle.std.proofs.lemmas.Bool.{or_from}
use Rattle.std.proofs.lemmas.List.{append-nil, append_assoc}
use Rattle.std.proofs.lemmas.List.Elements.{All-cons, All-head, All-nil, All-tail}
use Rattle.ada_tree.specs.declared.declaration.Formal.{Formal}
use Rattle.ada_tree.specs.declared.declaration.Mode.{Mode}
use Rattle.ada_tree.specs.declared.declaration.Mode.TheVariants as mode
use Rattle.types.specs.declared.entity.Subtype.{Subtype}
use Rattle.types.specs.Entities.{Object}
use Rattle.types.specs.Layouts.{words_of}
use Rattle.types.specs.Scopes.{Named, Scope, form_at, is_visible, with_name}
use Rattle.type_rules.specs.ObjectRules.{object_entity}
use Rattle.type_rules.specs.SubtypeNames.{subtype_of}
use Rattle.declaration_rules.specs.BodyNames.{formal_role, formal_scope, formals_scope}
use Rattle.expr_soundness.specs.SoundScopes.{IsKnown, IsSoundObject, SoundScope}
use Rattle.expr_soundness.proofs.Growing.{grown, known_kept, object_named, test_kept}
use Rattle.expr_soundness.proofs.Widening.{subtype_known}
use Rattle.expr_code.specs.Providing.{is_passable, is_scalar_form}
use Rattle.expr_code.proofs.CoveredNames.{scalar_passable}
use Rattle.part_code.specs.Bounds.{words_if_any}
use Rattle.part_code.specs.Formals.{HasValue, StandInTurn}
use Rattle.part_code.specs.Needs.{are_wordless, is_wordless}
use Rattle.part_code.specs.Providing.{TypesAreFull}
use Rattle.part_code.specs.declared.formals.PlacedFormal.{PlacedFormal}
use Rattle.part_code.proofs.FullWords.{some_words}
use Rattle.stmt_code.specs.Subprograms.{NameSubtypes}
use Rattle.stmt_code.proofs.ObjectMore.{subtype_kept}

-- each names a subtype
abbrev pub AreNamed : Scope → List Formal → Type 0
AreNamed s [] = ⊤
AreNamed s (f ∷ fs) = ((t : Subtype) × (subtype_of s f.subtype ≡ Some t)) × AreNamed s fs

named_one : (o : Option Subtype) → is_some o ≡ true → (t : Subtype) × (o ≡ Some t)
named_one (Some t) h = (t, refl)
named_one None h = absurd cc

pub formals_named : (s : Scope) (fs : List Formal) → NameSubtypes s fs → AreNamed s fs
formals_named s [] h = tt
formals_named s (f ∷ fs) h = (named_one (subtype_of s f.subtype) h.0, formals_named s fs h.1)

pub formal_known : (m : Mode) (u : Scope) (t : Subtype) → IsKnown u t → IsSoundObject u (formal_role m) t
formal_known mode.In u t typed = typed
formal_known mode.Out u t typed = typed
formal_known mode.InOut u t typed = typed

-- it has names more at its end
pub record IsBehind (s u : Scope) : Type 0 where
  pub more : Scope
  pub is : u ≡ s ++ more

grown_by : (s u : Scope) (x : Named) (more : Scope) (b : Bool) → u ≡ s ++ more → (all : Scope) × (cond b u (u ++ x ∷ []) ≡ s ++ all)
grown_by s u x more true is = (more, is)
grown_by s u x more false is = (more ++ x ∷ [], ap (λ w. w ++ x ∷ []) is ∙ append_assoc s more (x ∷ []))

module _ (s u : Scope) (f : Formal) (t : Subtype) (h : IsBehind s u) (named : subtype_of s f.subtype ≡ Some t) where
  pub named_there : subtype_of u f.subtype ≡ Some t
  named_there = ap (λ w. subtype_of w f.subtype) h.is ∙ subtype_kept s h.more f.subtype t named

  pub visible_there : formal_scope u f ≡ with_name u f.name.name (Object (formal_role f.mode) t)
  visible_there = ap (λ o. with_name u f.name.name (object_entity (formal_role f.mode) o)) named_there

  pub one_behind : IsBehind s (formal_scope u f)
  one_behind =
      let grown = grown_by s u (object_named f.name.name (formal_role f.mode) t) h.more (is_visible u f.name.name) h.is in
      record { more = grown.0; is = visible_there ∙ grown.1 }

module _ (s : Scope) where
  behind_from : (u : Scope) (fs : List Formal) → IsBehind s u → AreNamed s fs → IsBehind s (formals_scope u fs)
  behind_from u [] h named = h
  behind_from u (f ∷ fs) h named = behind_from (formal_scope u f) fs (one_behind s u f named.0.0 h named.0.1) named.1

  pub all_behind : (fs : List Formal) → AreNamed s fs → IsBehind s (formals_scope s fs)
  all_behind fs named = behind_from s fs (record { more = []; is = sym (append-nil s) }) named

-- ---- their words, and the result of a function

module _ (s : Scope) (sound : SoundScope s) where
  -- each has words
  pub formals_worded : TypesAreFull s → (fs : List Formal) → AreNamed s fs → are_wordless s fs ≡ false
  formals_worded full [] named = refl
  formals_worded full (f ∷ fs) named =
      let t = named.0.0 in
      or_from (is_wordless s f) (are_wordless s fs)
      (ap (λ o. nat_eq (words_if_any s o) 0) named.0.1 ∙ some_words s full t (subtype_known s f.subtype t sound named.0.1)) (formals_worded full fs named.1)

-- a scalar in front of them is passable behind them
pub result_passable : (s : Scope) (fs : List Formal) (t : Subtype) → NameSubtypes s fs → is_scalar_form (form_at s t.type_number) ≡ true
    → is_passable (formals_scope s fs) t ≡ true
result_passable s fs t named scalar =
    let behind = all_behind s fs (formals_named s fs named) in
    scalar_passable (formals_scope s fs) t
    (subst (λ u. is_scalar_form (form_at u t.type_number) ≡ true) (sym behind.is)
    (test_kept s (s ++ behind.more) (grown s behind.more) is_scalar_form refl t.type_number scalar))

-- ---- placed in a frame

module _ (s : Scope) (sound : SoundScope s) where
  placed_known : (more : Scope) (fs : List Formal) (xs : List PlacedFormal) (from out last top : ℕ) → StandInTurn s from out fs xs last top
      → All (λ x. IsKnown (s ++ more) x.subtype) xs
  placed_known more [] [] from out last top h = All-nil (λ x. IsKnown (s ++ more) x.subtype)
  placed_known more [] (x ∷ xs) from out last top h = absurd h
  placed_known more (f ∷ fs) [] from out last top h = absurd h
  placed_known more (f ∷ fs) (x ∷ xs) from out last top h =
      All-cons (λ y. IsKnown (s ++ more) y.subtype) x xs
      (known_kept s (s ++ more) (grown s more) x.subtype (subtype_known s f.subtype x.subtype sound h.2)) (placed_known more fs xs h.0 h.1 last top h.5)

  -- their subtypes are known behind them
  pub placed_behind : (fs : List Formal) (xs : List PlacedFormal) (from out last top : ℕ) → StandInTurn s from out fs xs last top → NameSubtypes s fs
      → All (λ x. IsKnown (formals_scope s fs) x.subtype) xs
  placed_behind fs xs from out last top h named =
      let behind = all_behind s fs (formals_named s fs named) in
      subst (λ u. All (λ x. IsKnown u x.subtype) xs) (sym behind.is) (placed_known behind.more fs xs from out last top h)

-- ... and have words there
module _ (s later : Scope) (sound : SoundScope s) (wide : (u : Subtype) → IsKnown s u → words_of later u ≡ words_of s u) where
  pub values_behind : (fs : List Formal) (xs : List PlacedFormal) (from out last top : ℕ) → StandInTurn s from out fs xs last top → All (HasValue s) xs
      → All (HasValue later) xs
  values_behind [] [] from out last top h some = All-nil (HasValue later)
  values_behind [] (x ∷ xs) from out last top h some = absurd h
  values_behind (f ∷ fs) [] from out last top h some = absurd h
  values_behind (f ∷ fs) (x ∷ xs) from out last top h some =
      let same = wide x.subtype (subtype_known s f.subtype x.subtype sound h.2) in
      let one = All-head (HasValue s) x xs some in
      All-cons (HasValue later) x xs (omega (arith, same, one)) (values_behind fs xs h.0 h.1 last top h.5 (All-tail (HasValue s) x xs some))
