-- The formal parameters of a body: the scope in which the body is judged has them in the order of the text, and a run adds those of mode `out` behind the others.
use Rattle.std.proofs.Common.{◌≡◌, ℕ, List, [], ◌∷◌, drop, Bool, true, false, cond, Option, Some, None, refl, sym, ap, ◌∙◌}
use Rattle.std.specs.Prelude.{bytes_eq, is_some, ⊤}
use Rattle.expr_soundness.specs.ada_tree.specs.declared.declaration.Mode.{Mode}
use Rattle.expr_soundness.specs.ada_tree.specs.declared.declaration.Mode.TheVariants as mode
use Rattle.types.specs.declared.entity.Role.TheVariants as role
use Rattle.types.specs.declared.entity.Subtype.{Subtype}
use Rattle.types.specs.Entities.{Entity}
use Rattle.types.specs.Entities as entity
use Rattle.types.specs.Scopes.{Named, Scope, with_name}
use Rattle.types.specs.Values.{Value}
use Rattle.types.specs.Places.{Object, Place, or_else}
use Rattle.declaration_rules.specs.BodyNames.{formal_role}
use Rattle.step_soundness.specs.stmt_rules.specs.declared.around.Around.{Around}
use Rattle.expr_soundness.specs.SoundScopes.{IsKnown, IsSoundObject, SoundScope}
use Rattle.expr_soundness.specs.Laws.{ScopesAreSound}
use Rattle.expr_soundness.specs.meaning.specs.Programs.{Parameter, Program}
use Rattle.expr_soundness.specs.meaning.specs.Works.{DeclaresParameter, Item, Store}
use Rattle.expr_soundness.specs.meaning.specs.Calls.{bound, declares_parameters, is_in, is_out, results, with_first}
use Rattle.step_soundness.specs.Objects.{AreOf}
use Rattle.step_soundness.specs.Fitting.{FitsScope, Narrows, is_result, result_types, taken_types}
use Rattle.step_soundness.specs.Judged.{AreResults, Begins, IsNewParameter, Waiting, parameter_scope}
use Rattle.step_soundness.specs.Holding.{inside}
use Rattle.step_soundness.specs.Laws.{Premises}
use Rattle.step_soundness.proofs.Sights.{fits_declared}
use Rattle.program_soundness.proofs.Listing.{first_some, or_else_assoc, or_else_none}
use Rattle.program_soundness.proofs.WiderScopes.{NoTypes, bytes_same, form_with, found_in, none_unseen, one_named, same_bytes, stands, stands_with, stands_with_all, with_all}
use Rattle.program_soundness.proofs.Same.{IsPlainRole, SameTypes, fits_same, known_same, sound_with, types_then, types_turned, types_with_all}

abbrev pub named_formal : Parameter → Named
named_formal f = record { name = f.name; entity = entity.Object (formal_role f.mode) f.subtype }

abbrev pub all_named : List Parameter → List Named
all_named [] = []
all_named (f ∷ fs) = named_formal f ∷ all_named fs

-- those that are copied in
abbrev pub taken_named : List Parameter → List Named
taken_named [] = []
taken_named (f ∷ fs) = cond (is_out f.mode) (taken_named fs) (named_formal f ∷ taken_named fs)

-- new names, each once, of known subtypes
abbrev pub AreNew : Scope → List Parameter → Type 0
AreNew s [] = ⊤
AreNew s (f ∷ fs) = (stands s f.name ≡ None) × (found_in (all_named fs) f.name ≡ None) × (IsKnown s f.subtype) × (AreNew s fs)

plain_role : (m : Mode) → IsPlainRole (formal_role m)
plain_role mode.In = tt
plain_role mode.Out = tt
plain_role mode.InOut = tt

pub formal_object : (s : Scope) (m : Mode) (t : Subtype) → IsKnown s t → IsSoundObject s (formal_role m) t
formal_object s mode.In t known = known
formal_object s mode.Out t known = known
formal_object s mode.InOut t known = known

pub all_types : (fs : List Parameter) → NoTypes (all_named fs)
all_types [] = tt
all_types (f ∷ fs) = (refl, all_types fs)

taken_no_types : (fs : List Parameter) → NoTypes (taken_named fs)
taken_no_types [] = tt
taken_no_types (f ∷ fs) = by_test (is_out f.mode) (taken_no_types fs)
  where
    by_test : (b : Bool) → NoTypes (taken_named fs) → NoTypes (cond b (taken_named fs) (named_formal f ∷ taken_named fs))
    by_test true h = h
    by_test false h = (refl, h)

first_none : (o p : Option Entity) → or_else o p ≡ None → (o ≡ None) × (p ≡ None)
first_none (Some e) p h = cc
first_none None p h = (refl, h)

taken_none : (fs : List Parameter) (name : List ℕ) → found_in (all_named fs) name ≡ None → found_in (taken_named fs) name ≡ None
taken_none [] name h = refl
taken_none (f ∷ fs) name h =
    let two = first_none (one_named (named_formal f) name) (found_in (all_named fs) name) h in by_test (is_out f.mode) (two.0, taken_none fs name two.1)
  where
    by_test : (b : Bool) → (one_named (named_formal f) name ≡ None) × (found_in (taken_named fs) name ≡ None)
        → found_in (cond b (taken_named fs) (named_formal f ∷ taken_named fs)) name ≡ None
    by_test true h = h.1
    by_test false h = ap (λ o. or_else o (found_in (taken_named fs) name)) h.0 ∙ h.1

-- those behind one are new behind it too
apart : (f name : List ℕ) (e : Entity) (b : Bool) → bytes_eq name f ≡ b → bytes_eq f name ≡ false → cond b (Some e) None ≡ None
apart f name e false i k = refl
apart f name e true i k = let same = ap (bytes_eq f) (sym (same_bytes name f i)) ∙ k in let good = bytes_same f in cc

not_named : (f : List ℕ) (g : Named) (rest : Option Entity) → or_else (one_named g f) rest ≡ None → (bytes_eq f g.name ≡ false) × (rest ≡ None)
not_named f g rest h = by_test (bytes_eq f g.name) refl h
  where
    by_test : (b : Bool) → bytes_eq f g.name ≡ b → or_else (cond b (Some g.entity) None) rest ≡ None → (bytes_eq f g.name ≡ false) × (rest ≡ None)
    by_test true i k = cc
    by_test false i k = (i, k)

pub new_behind : (s : Scope) (f : Parameter) (fs : List Parameter) → found_in (all_named fs) f.name ≡ None → AreNew s fs
    → AreNew (with_name s f.name (entity.Object (formal_role f.mode) f.subtype)) fs
new_behind s f [] none new = tt
new_behind s f (g ∷ gs) none new =
    let e : Entity = entity.Object (formal_role f.mode) f.subtype in
    let two = not_named f.name (named_formal g) (found_in (all_named gs) f.name) none in (
      stands_with s f.name e g.name ∙ (λ j. or_else (new.0 j) (apart f.name g.name e (bytes_eq g.name f.name) refl two.0 j)),
      new.1,
      ap is_some (form_with s f.name e g.subtype.type_number refl) ∙ new.2,
      new_behind s f gs two.1 new.3,
    )

-- ---- scopes with formals are sound

pub sound_all : ScopesAreSound → (s : Scope) (fs : List Parameter) → SoundScope s → AreNew s fs → SoundScope (with_all s (all_named fs))
sound_all scopes s [] sound new = sound
sound_all scopes s (f ∷ fs) sound new =
    sound_all scopes (with_name s f.name (named_formal f).entity) fs
    (sound_with scopes s f.name (formal_role f.mode) f.subtype sound (plain_role f.mode) new.2)
    (new_behind s f fs new.1 new.3)

pub sound_taken : ScopesAreSound → (s : Scope) (fs : List Parameter) → SoundScope s → AreNew s fs → SoundScope (with_all s (taken_named fs))
sound_taken scopes s [] sound new = sound
sound_taken scopes s (f ∷ fs) sound new =
    by_test (is_out f.mode) (sound_taken scopes s fs sound new.3)
    (sound_taken scopes (with_name s f.name (named_formal f).entity) fs
    (sound_with scopes s f.name (formal_role f.mode) f.subtype sound (plain_role f.mode) new.2)
    (new_behind s f fs new.1 new.3))
  where
    by_test : (b : Bool) → SoundScope (with_all s (taken_named fs)) → SoundScope (with_all (with_name s f.name (named_formal f).entity) (taken_named fs))
        → SoundScope (with_all s (cond b (taken_named fs) (named_formal f ∷ taken_named fs)))
    by_test true h k = h
    by_test false h k = k

-- ---- the formals that are copied in, the last one first

abbrev pub taken_scope : Scope → List Parameter → Scope
taken_scope s [] = s
taken_scope s (f ∷ fs) = cond (is_out f.mode) (taken_scope s fs) (with_name (taken_scope s fs) f.name (named_formal f).entity)

taken_types_same : (s : Scope) (fs : List Parameter) → SameTypes s (taken_scope s fs)
taken_types_same s [] = types_with_all s [] tt
taken_types_same s (f ∷ fs) = by_test (is_out f.mode) (taken_types_same s fs)
  where
    by_test : (b : Bool) → SameTypes s (taken_scope s fs)
        → SameTypes s (cond b (taken_scope s fs) (with_name (taken_scope s fs) f.name (named_formal f).entity))
    by_test true h = h
    by_test false h =
        types_then s (taken_scope s fs) (with_name (taken_scope s fs) f.name (named_formal f).entity) h
        (types_with_all (taken_scope s fs) (named_formal f ∷ []) (refl, tt))

swapped : (a b : Option Entity) (c : Bool) (e : Entity) → (c ≡ true → b ≡ None)
    → or_else (or_else a b) (cond c (Some e) None) ≡ or_else a (or_else (cond c (Some e) None) b)
swapped a b true e h = ap (λ o. or_else (or_else a o) (Some e)) (h refl) ∙ ap (λ o. or_else o (Some e)) (or_else_none a)
swapped a b false e h = or_else_none (or_else a b)

taken_stands : (s : Scope) (fs : List Parameter) (name : List ℕ) → AreNew s fs
    → stands (taken_scope s fs) name ≡ or_else (stands s name) (found_in (taken_named fs) name)
taken_stands s [] name new = sym (or_else_none (stands s name))
taken_stands s (f ∷ fs) name new = by_test (is_out f.mode) (taken_stands s fs name new.3)
  where
    rest : Option Entity
    rest = found_in (taken_named fs) name

    none : bytes_eq name f.name ≡ true → rest ≡ None
    none h = taken_none fs name (ap (found_in (all_named fs)) (same_bytes name f.name h) ∙ new.1)

    by_test : (b : Bool) → stands (taken_scope s fs) name ≡ or_else (stands s name) rest
        → stands (cond b (taken_scope s fs) (with_name (taken_scope s fs) f.name (named_formal f).entity)) name
        ≡ or_else (stands s name) (found_in (cond b (taken_named fs) (named_formal f ∷ taken_named fs)) name)
    by_test true h = h
    by_test false h =
        stands_with (taken_scope s fs) f.name (named_formal f).entity name
        ∙ ap (λ o. or_else o (one_named (named_formal f) name)) h
        ∙ swapped (stands s name) rest (bytes_eq name f.name) (named_formal f).entity none

module _ (program : Program) (laws : Premises program) (m : Store) (within : Option ℕ) (p : Place) (s : Scope) where
  abbrev place_with : List Object → Place
  place_with locals = inside program m (record { within = within; locals = locals }) p

  one_fits : (f : Parameter) (fs : List Parameter) (vs : List Value) → AreNew s (f ∷ fs) → AreOf program.scope (f.subtype.type_number ∷ taken_types fs) vs
      → ((ws : List Value) → AreOf program.scope (taken_types fs) ws → FitsScope program (taken_scope s fs) (place_with (bound fs ws)))
      → FitsScope program (with_name (taken_scope s fs) f.name (named_formal f).entity) (place_with (with_first f vs (bound fs (drop 1 vs))))
  one_fits f fs [] new are later = absurd are
  one_fits f fs (v ∷ vs) new are later =
      let unseen = none_unseen (taken_scope s fs) f.name
      (taken_stands s fs f.name new.3 ∙ (λ j. or_else (new.0 j) (taken_none fs f.name new.1 j))) in
      let known = known_same s (taken_scope s fs) (taken_types_same s fs) f.subtype new.2 in
      fits_declared program laws (taken_scope s fs) (place_with (bound fs vs)) f.name (formal_role f.mode) f.subtype v (later vs are.1) unseen known
      (formal_object (taken_scope s fs) f.mode f.subtype known)
      are.0

  taken_fits : (fs : List Parameter) (vs : List Value) → AreNew s fs → AreOf program.scope (taken_types fs) vs → FitsScope program s (place_with [])
      → FitsScope program (taken_scope s fs) (place_with (bound fs vs))
  taken_fits [] vs new are fits = fits
  taken_fits (f ∷ fs) vs new are fits = by_test (is_out f.mode) are (λ ws k. taken_fits fs ws new.3 k fits)
    where
      by_test : (b : Bool) → AreOf program.scope (cond b (taken_types fs) (f.subtype.type_number ∷ taken_types fs)) vs
          → ((ws : List Value) → AreOf program.scope (taken_types fs) ws → FitsScope program (taken_scope s fs) (place_with (bound fs ws)))
          → FitsScope program (cond b (taken_scope s fs) (with_name (taken_scope s fs) f.name (named_formal f).entity))
          (place_with (cond b (bound fs vs) (with_first f vs (bound fs (drop 1 vs)))))
      by_test true k later = later vs k
      by_test false k later = one_fits f fs vs new k later

  -- the same names in the order of the text
  pub formals_fit : ScopesAreSound → (fs : List Parameter) (vs : List Value) → SoundScope s → AreNew s fs → AreOf program.scope (taken_types fs) vs
      → FitsScope program s (place_with [])
      → FitsScope program (with_all s (taken_named fs)) (place_with (bound fs vs))
  formals_fit scopes fs vs sound new are fits =
      fits_same program (taken_scope s fs) (with_all s (taken_named fs)) (sound_taken scopes s fs sound new)
      (types_then (taken_scope s fs) s (with_all s (taken_named fs)) (types_turned s (taken_scope s fs) (taken_types_same s fs)) (types_with_all s (taken_named fs) (taken_no_types fs)))
      (λ name. stands_with_all s (taken_named fs) name ∙ sym (taken_stands s fs name new))
      (place_with (bound fs vs)) (taken_fits fs vs new are fits)

-- ---- the names of parameters that are copied back

result_role : (m : Mode) → is_in m ≡ false → is_result (formal_role m) ≡ true
result_role mode.In h = cc
result_role mode.Out h = refl
result_role mode.InOut h = refl

pub results_are : (s : Scope) (fs : List Parameter) → AreNew s fs → AreResults (with_all s (all_named fs)) (result_types fs) (results fs)
results_are s [] new = tt
results_are s (f ∷ fs) new =
    by_test (is_in f.mode) refl (results_are (with_name s f.name (named_formal f).entity) fs (new_behind s f fs new.1 new.3))
  where
    later : Scope
    later = with_name s f.name (named_formal f).entity

    there : stands (with_all later (all_named fs)) f.name ≡ Some (named_formal f).entity
    there =
        stands_with_all later (all_named fs) f.name
        ∙ first_some (stands later f.name) (found_in (all_named fs) f.name) (named_formal f).entity
        (stands_with s f.name (named_formal f).entity f.name
        ∙ (λ j. or_else (new.0 j) (cond (bytes_same f.name j) (Some (named_formal f).entity) None)))

    by_test : (b : Bool) → is_in f.mode ≡ b → AreResults (with_all later (all_named fs)) (result_types fs) (results fs)
        → AreResults (with_all later (all_named fs)) (cond b (result_types fs) (f.subtype.type_number ∷ result_types fs)) (cond b (results fs) (f.name ∷ results fs))
    by_test true i h = h
    by_test false i h = ((formal_role f.mode, f.subtype, there, result_role f.mode i, refl), h)

-- ---- `out` parameters are declared in turn

out_role : (m : Mode) → is_out m ≡ true → formal_role m ≡ role.Out
out_role mode.In h = cc
out_role mode.Out h = refl
out_role mode.InOut h = cc

module _ (program : Program) (scopes : ScopesAreSound) (outer : List Waiting) (a : Around) (rest : List Item) where
  added_narrows : (s : Scope) (f : Parameter) (fs : List Parameter) → is_out f.mode ≡ true → SoundScope s → AreNew s (f ∷ fs)
      → Narrows program (parameter_scope (with_all s (taken_named fs)) f) (with_all (with_name s f.name (named_formal f).entity) (taken_named fs))
  added_narrows s f fs out sound new = narrows
    where
      seen : Scope
      seen = with_all s (taken_named fs)

      next : Scope
      next = with_name s f.name (named_formal f).entity

      e : Entity
      e = entity.Object role.Out f.subtype

      same : (named_formal f).entity ≡ e
      same = ap (λ r. entity.Object r f.subtype) (out_role f.mode out)

      none : (name : List ℕ) → bytes_eq name f.name ≡ true → found_in (taken_named fs) name ≡ None
      none name h = taken_none fs name (ap (found_in (all_named fs)) (same_bytes name f.name h) ∙ new.1)

      names : (name : List ℕ) → stands (with_all next (taken_named fs)) name ≡ stands (parameter_scope seen f) name
      names name =
          let found = found_in (taken_named fs) name in
          let one = cond (bytes_eq name f.name) (Some e) None in
          stands_with_all next (taken_named fs) name
          ∙ ap (λ o. or_else o found)
          (stands_with s f.name (named_formal f).entity name ∙ ap (λ x. or_else (stands s name) (cond (bytes_eq name f.name) (Some x) None)) same)
          ∙ or_else_assoc (stands s name) one found
          ∙ sym (swapped (stands s name) found (bytes_eq name f.name) e (none name))
          ∙ ap (λ o. or_else o one) (sym (stands_with_all s (taken_named fs) name))
          ∙ sym (stands_with seen f.name e name)

      types : SameTypes (parameter_scope seen f) (with_all next (taken_named fs))
      types =
          types_then (parameter_scope seen f) s (with_all next (taken_named fs))
          (types_turned s (parameter_scope seen f) (types_then s seen (parameter_scope seen f) (types_with_all s (taken_named fs) (taken_no_types fs)) (types_with_all seen (record { name = f.name; entity = e } ∷ []) (refl, tt))))
          (types_then s next (with_all next (taken_named fs)) (types_with_all s (named_formal f ∷ []) (refl, tt)) (types_with_all next (taken_named fs) (taken_no_types fs)))

      narrows : Narrows program (parameter_scope seen f) (with_all next (taken_named fs))
      narrows p fits =
          fits_same program (parameter_scope seen f) (with_all next (taken_named fs))
          (sound_taken scopes next fs (sound_with scopes s f.name (formal_role f.mode) f.subtype sound (plain_role f.mode) new.2) (new_behind s f fs new.1 new.3))
          types names p fits

  pub begins_formals : (s : Scope) (fs : List Parameter) → SoundScope s → AreNew s fs → Begins program (with_all s (all_named fs)) outer a rest
      → Begins program (with_all s (taken_named fs)) outer a (declares_parameters fs rest)
  begins_formals s [] sound new begins = begins
  begins_formals s (f ∷ fs) sound new begins =
      by_test (is_out f.mode) refl
      (begins_formals (with_name s f.name (named_formal f).entity) fs
      (sound_with scopes s f.name (formal_role f.mode) f.subtype sound (plain_role f.mode) new.2)
      (new_behind s f fs new.1 new.3)
      begins)
    where
      seen : Scope
      seen = with_all s (taken_named fs)

      next : Scope
      next = with_name s f.name (named_formal f).entity

      parameter_new : IsNewParameter seen f
      parameter_new =
          record {
            unseen = none_unseen seen f.name (stands_with_all s (taken_named fs) f.name ∙ (λ j. or_else (new.0 j) (taken_none fs f.name new.1 j)));
            known = known_same s seen (types_with_all s (taken_named fs) (taken_no_types fs)) f.subtype new.2;
          }

      by_test : (b : Bool) → is_out f.mode ≡ b → Begins program (with_all next (taken_named fs)) outer a (declares_parameters fs rest)
          → Begins program (with_all s (cond b (taken_named fs) (named_formal f ∷ taken_named fs))) outer a (cond b (DeclaresParameter f ∷ declares_parameters fs rest) (declares_parameters fs rest))
      by_test true i h = (parameter_new, with_all next (taken_named fs), added_narrows s f fs i sound new, h)
      by_test false i h = h
