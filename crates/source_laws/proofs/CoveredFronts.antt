-- What is visible in front of each declaration and body of the package of an accepted text has what its code needs.
use Rattle.std.proofs.Common.{◌≡◌, ℕ, zero, suc, ◌+◌, ◌<◌, ◌≤◌, Bool, true, false, ◌||◌, cond, List, [], ◌∷◌, ◌++◌, length, take, ◌⊎◌, inl, inr, Option, Some, None, refl, sym, ap, ◌∙◌, subst, arith}
use Rattle.std.specs.Prelude.{bytes_eq, is_some, option_map, slice_get}
use Rattle.std.proofs.lemmas.Bool.{lt-ltb}
use Rattle.base.specs.Names.{predefined}
use Rattle.base.specs.declared.limits.TheConstants.{EXCEPTIONS}
use Rattle.image.specs.declared.instruction.Region.TheVariants as regions
use Rattle.ada_tree.specs.declared.expression.Identifier.{Identifier}
use Rattle.ada_tree.specs.StatementTree.{SubprogramTree}
use Rattle.ada_tree.specs.ProgramTree.{BodyItemTree, BodyTree, OfException, OfItem, OfObject, OfProtected, OfSubprogram, OfTask, OfType, ProgramTree, ProtectedBody, SubprogramBody, TaskBody}
use Rattle.types.specs.declared.entity.Role.{Role}
use Rattle.types.specs.declared.entity.Subtype.{Subtype}
use Rattle.types.specs.declared.standing.Standing.TheVariants as standing
use Rattle.types.specs.Entities as entity
use Rattle.types.specs.Entities.{Entity, Exception, Profile, Protected, Subprogram}
use Rattle.types.specs.Places.{Object, object_of}
use Rattle.types.specs.Scopes.{Scope, base_range_of, form_at, number_of}
use Rattle.types.specs.Shapes.{value_words}
use Rattle.types.specs.Standings.{stands_first}
use Rattle.expr_soundness.specs.expr_rules.proofs.TypedLaw.{front_empty}
use Rattle.expr_soundness.specs.type_rules.specs.ProfileRules.{formal_parameters, profile_faults, profile_with}
use Rattle.expr_soundness.specs.meaning.specs.Programs.{Program, exceptions_among, items_among, program_of}
use Rattle.expr_soundness.specs.Laws.{ScopesAreSound}
use Rattle.expr_soundness.specs.SoundScopes.{IsKnown, IsSoundProfile, IsSoundResult, SoundScope}
use Rattle.expr_soundness.proofs.Positions.{entity_number, first_place, number_place, place_is}
use Rattle.legality.specs.ProgramRules.{IsLegal}
use Rattle.program_soundness.specs.unit_rules.specs.BodyRules.{body_name_faults, function_body_faults, own_name_faults}
use Rattle.program_soundness.specs.ravenscar.specs.ProgramRules.{IsRestricted}
use Rattle.program_soundness.specs.step_soundness.specs.Fitting.{entity_named}
use Rattle.program_soundness.specs.BodyLaws.{NamesAreKnown, PremisesHold}
use Rattle.program_soundness.specs.Fronts.{declared_in, front, scope_at, start_in}
use Rattle.program_soundness.proofs.BodyProfiles.{profile_none, profile_some, subtype_kept}
use Rattle.program_soundness.proofs.Called.{head_legal, subprogram_there}
use Rattle.program_soundness.proofs.Extending.{Extends}
use Rattle.program_soundness.proofs.Listing.{Has, has_back, has_front, same_some}
use Rattle.program_soundness.proofs.Trees.{tree_package}
use Rattle.program_soundness.proofs.Walked.{Constants, Exceptions, Origin, Variables, body_item_kind, declares, kept_all, kind}
use Rattle.program_soundness.proofs.WiderScopes.{equal_bytes, number_stands, stands, stands_number}
use Rattle.program_soundness.proofs.Whole.{IsPackage, came, entity_variable, is_first, kept, origin_kind}
use Rattle.expr_code.specs.Seeing.{external_of, external_profile, profile_named, slot_of, subprogram_of, told_of}
use Rattle.expr_code.proofs.Externals.{IsBehind, is_behind}
use Rattle.part_code.specs.EntryNames.{entry_behind}
use Rattle.part_code.specs.Raising.{number_among, number_at}
use Rattle.package_code.specs.Bodies.{number_in, of_subprogram}
use Rattle.package_code.specs.Laws.{TablesAreSmall}
use Rattle.package_code.specs.Package.{place_among}
use Rattle.package_code.specs.Refusing.{seen_at, slot_in, told_behind}
use Rattle.package_code.proofs.Numbered.{bodies_numbered}
use Rattle.package_code.proofs.Seen.{all_behind}
use Rattle.source_laws.proofs.MainKnown.{place_behind, told_name}
use Rattle.part_code.specs.Providing.{HasWhatCodeNeeds}
use Rattle.expr_code.specs.Providing.{FewFormals, is_scalar_form}
use Rattle.source_laws.specs.Visible.{KeepsLimits}
use Rattle.source_laws.proofs.AddedNames.{named_there}
use Rattle.stmt_code.proofs.CoveredScopes.{part_named}
use Rattle.source_laws.proofs.LaterNames.{same_form}
use Rattle.source_laws.proofs.ObjectsOffer.{extends_whole, gives_behind, offered_behind, result_known, result_scalar}

-- ---- a variable stands among the words of the package

pub placed_stored : (from : ℕ) (xs : List Object) (name : List ℕ) (x : Object) → object_of xs name ≡ Some x → is_some (place_among from xs name) ≡ true
placed_stored from [] name x h = cc
placed_stored from (y ∷ ys) name x h = by_test (bytes_eq y.name name) h (placed_stored (from + length (value_words y.value)) ys name x)
  where
    by_test : (b : Bool) → cond b (Some y) (object_of ys name) ≡ Some x
        → (object_of ys name ≡ Some x → is_some (place_among (from + length (value_words y.value)) ys name) ≡ true)
        → is_some (cond b (Some (record { region = regions.Plain; offset = from })) (place_among (from + length (value_words y.value)) ys name)) ≡ true
    by_test true k later = refl
    by_test false k later = later k

-- ---- an exception is found among those of the program

record HasPlace (xs : List (List ℕ)) (name : List ℕ) : Type 0 where
  place : ℕ
  found : first_place (bytes_eq name) xs ≡ Some place
  within : place < length xs

has_place : (xs : List (List ℕ)) (name : List ℕ) → Has xs name → HasPlace xs name
has_place [] name h = absurd h
has_place (y ∷ ys) name h = by_test (bytes_eq name y) refl h (λ k. has_place ys name k)
  where
    by_test : (b : Bool) → bytes_eq name y ≡ b → (y ≡ name) ⊎ Has ys name → (Has ys name → HasPlace ys name) → HasPlace (y ∷ ys) name
    by_test true e k more = record { place = 0; found = ap (λ c. cond c (Some 0) (option_map suc (first_place (bytes_eq name) ys))) e; within = omega arith }
    by_test false e (inl same) more = absurd (let never = sym (equal_bytes name y (sym same)) ∙ e in cc)
    by_test false e (inr later) more =
        let rest = more later in
        let inside = rest.within in
        record {
          place = suc rest.place;
          found = ap (λ c. cond c (Some 0) (option_map suc (first_place (bytes_eq name) ys))) e ∙ ap (option_map suc) rest.found;
          within = omega (arith, inside);
        }

among_numbered : (xs : List (List ℕ)) (name : List ℕ) → length xs ≤ EXCEPTIONS → Has xs name → is_some (number_among xs name) ≡ true
among_numbered xs name few h =
    let p = has_place xs name h in
    let inside = p.within in
    let less : p.place < EXCEPTIONS = omega (arith, inside, few) in
    ap (λ o. is_some (number_at o)) (place_is (bytes_eq name) xs ∙ p.found)
    ∙ ap (λ b. is_some (cond b (Some (suc p.place)) None)) (lt-ltb p.place EXCEPTIONS less)

exception_item : (i : BodyItemTree) → Exceptions ≡ body_item_kind i → (name : Identifier) × (i ≡ OfItem (OfException name))
exception_item (OfItem (OfException name)) h = (name, refl)
exception_item (OfItem (OfObject d)) h = absurd (never d.constant h)
  where
    never : (b : Bool) → Exceptions ≡ cond b Constants Variables → ⊥
    never true k = cc
    never false k = cc
exception_item (OfItem (OfType d)) h = cc
exception_item (OfItem (OfSubprogram d)) h = cc
exception_item (OfItem (OfTask d)) h = cc
exception_item (OfItem (OfProtected d)) h = cc
exception_item (SubprogramBody d b) h = cc
exception_item (TaskBody name b) h = cc
exception_item (ProtectedBody name items end_name) h = cc

abbrev DeclaresIn : List (List ℕ) → BodyItemTree → Type 0
DeclaresIn names (OfItem (OfException name)) = Has names name.name
DeclaresIn names x = Unit {0}

declared_more : (own : List ℕ) (names : List (List ℕ)) (x : BodyItemTree) → DeclaresIn names x → DeclaresIn (own ∷ names) x
declared_more own names (OfItem (OfException name)) h = inr h
declared_more own names (OfItem (OfType d)) h = tt
declared_more own names (OfItem (OfObject d)) h = tt
declared_more own names (OfItem (OfSubprogram d)) h = tt
declared_more own names (OfItem (OfTask d)) h = tt
declared_more own names (OfItem (OfProtected d)) h = tt
declared_more own names (SubprogramBody d b) h = tt
declared_more own names (TaskBody name b) h = tt
declared_more own names (ProtectedBody name items end_name) h = tt

first_in : (x : BodyItemTree) (rest : List BodyItemTree) → DeclaresIn (exceptions_among (items_among (x ∷ rest))) x
first_in (OfItem (OfException name)) rest = inl refl
first_in (OfItem (OfType d)) rest = tt
first_in (OfItem (OfObject d)) rest = tt
first_in (OfItem (OfSubprogram d)) rest = tt
first_in (OfItem (OfTask d)) rest = tt
first_in (OfItem (OfProtected d)) rest = tt
first_in (SubprogramBody d b) rest = tt
first_in (TaskBody name b) rest = tt
first_in (ProtectedBody name items end_name) rest = tt

declared_at : (xs : List BodyItemTree) (k : ℕ) (x : BodyItemTree) → slice_get xs k ≡ Some x → DeclaresIn (exceptions_among (items_among xs)) x
declared_at [] k x at = cc
declared_at (y ∷ rest) zero x at = subst (DeclaresIn (exceptions_among (items_among (y ∷ rest)))) (same_some y x at) (first_in y rest)
declared_at (OfItem (OfException name) ∷ rest) (suc k) x at =
    declared_more name.name (exceptions_among (items_among rest)) x (declared_at rest k x at)
declared_at (OfItem (OfType d) ∷ rest) (suc k) x at = declared_at rest k x at
declared_at (OfItem (OfObject d) ∷ rest) (suc k) x at = declared_at rest k x at
declared_at (OfItem (OfSubprogram d) ∷ rest) (suc k) x at = declared_at rest k x at
declared_at (OfItem (OfTask d) ∷ rest) (suc k) x at = declared_at rest k x at
declared_at (OfItem (OfProtected d) ∷ rest) (suc k) x at = declared_at rest k x at
declared_at (SubprogramBody d b ∷ rest) (suc k) x at = declared_at rest k x at
declared_at (TaskBody name b ∷ rest) (suc k) x at = declared_at rest k x at
declared_at (ProtectedBody name items end_name ∷ rest) (suc k) x at = declared_at rest k x at

-- what a name of a subprogram stands for
pub named_subprogram : (s : Scope) (name : List ℕ) (p : Profile) → profile_named s name ≡ Some p → stands s name ≡ Some (Subprogram p)
named_subprogram s name p h = let n = named_there s name p h in stands_number s name n.number (Subprogram p) n.numbered n.stands

-- ---- in front of a place

module _ (scopes : ScopesAreSound) (names : NamesAreKnown) (premises : PremisesHold) (tables : TablesAreSmall) (t : ProgramTree) (legal : IsLegal t)
    (restricted : IsRestricted t) where
  abbrev program : Program
  program = program_of t

  abbrev all : List BodyItemTree
  all = declared_in t.package_

  abbrev start : Scope
  start = start_in t.package_

  abbrev whole : Scope
  whole = program.scope

  abbrev w : IsPackage program start all
  w = tree_package t legal restricted (premises t legal).sound

  extends : (place : ℕ) → Extends (front t place) whole
  extends place = extends_whole scopes names premises tables t legal restricted place

  sound : (place : ℕ) → SoundScope (front t place)
  sound place = (names t legal restricted).fronts place

  pub kept_here : (place : ℕ) (name : List ℕ) (e : Entity) → stands (front t place) name ≡ Some e → stands whole name ≡ Some e
  kept_here place name e h = kept program start all w place name e h

  -- an object or a subprogram is no name in front of the package
  pub unstarted : (name : List ℕ) (e : Entity) → stands whole name ≡ Some e → is_first (kind e) ≡ false → number_of start name ≡ None
  unstarted name e h plain = by_number (number_of start name) refl
    where
      by_number : (o : Option ℕ) → number_of start name ≡ o → o ≡ None
      by_number None i = refl
      by_number (Some n) i =
          absurd (let x = entity_number start name n i in
          let first = stands_number start name n x.0 i x.1 in
          let there = subst (λ s. stands s name ≡ Some x.0) w.scope (kept_all start all name x.0 first) in
          let same : x.0 ≡ e = same_some x.0 e (sym there ∙ h) in
          let never = sym plain ∙ (w.started name e (subst (λ y. stands start name ≡ Some y) same first)).first in cc)

  -- what is told of it
  told_at : {X : Type 0} (tell : List ℕ → Option X) (place : ℕ) (name : List ℕ) (e : Entity) → stands (front t place) name ≡ Some e → is_first (kind e) ≡ false
      → told_of (front t place) (told_behind (length start) tell (front t place)) name ≡ tell name
  told_at tell place name e h plain =
      let s : Scope = front t place in
      let n = number_stands s name e h in
      let more = all_behind start (take place all) in
      let none = sym (number_place start name) ∙ unstarted name e (kept_here place name e h) plain in
      let found = sym (number_place (start ++ more.0) name) ∙ ap (λ u. number_of u name) (sym more.1) ∙ n.1 in
      told_name (length start) tell s name n.0 n.1 (place_behind (λ m. bytes_eq name m.name) start more.0 n.0 none found)

  -- ---- objects

  -- a variable has a place among the words of the package
  pub variable_placed : (name : List ℕ) (r : Role) (u : Subtype) → stands whole name ≡ Some (entity.Object r u) → is_some (slot_in t None name) ≡ true
  variable_placed name r u h =
      let v = entity_variable program start all w name r u h in placed_stored 0 program.variables name v.object v.found

  stored_at : (place : ℕ) (name : List ℕ) (r : Role) (u : Subtype) → stands_first (front t place) (number_of (front t place) name) ≡ standing.Part r u
      → is_some (slot_of (seen_at t place) name) ≡ true
  stored_at place name r u h =
      let x = part_named (front t place) name r u h in
      ap is_some (told_at (slot_in t None) place name (entity.Object r u) x refl) ∙ variable_placed name r u (kept_here place name (entity.Object r u) x)

  -- ---- subprograms

  -- its body has a number
  pub subprogram_numbered : (name : List ℕ) (p : Profile) → stands whole name ≡ Some (Subprogram p) → is_some (number_in t None name) ≡ true
  subprogram_numbered name p h =
      let x = subprogram_there program start all w name p h in
      let number = (bodies_numbered scopes names premises t legal restricted x.place (SubprogramBody x.subprogram x.body) 0
      (of_subprogram (front t (suc x.place)) x.subprogram x.body) x.at refl).0 in
      ap (λ l. is_some (number_in t None l)) (sym x.named) ∙ ap is_some number

  numbered_at : (place : ℕ) (name : List ℕ) (p : Profile) → profile_named (front t place) name ≡ Some p
      → is_some (subprogram_of (seen_at t place) name) ≡ true
  numbered_at place name p h =
      let here = named_subprogram (front t place) name p h in
      ap is_some (told_at (number_in t None) place name (Subprogram p) here refl) ∙ subprogram_numbered name p (kept_here place name (Subprogram p) here)

  -- the result of a function is scalar
  pub function_scalar : (name : List ℕ) (p : Profile) (u : Subtype) → stands whole name ≡ Some (Subprogram p) → p.result ≡ Some u
      → is_scalar_form (form_at whole u.type_number) ≡ true
  function_scalar name p u h gives =
      let x = subprogram_there program start all w name p h in by_result x.place x.subprogram x.body x.at x.subprogram.result refl x.own
    where
      by_result : (k : ℕ) (d : SubprogramTree) (b : BodyTree) → slice_get all k ≡ Some (SubprogramBody d b)
          → (o : Option Identifier) → d.result ≡ o → profile_with whole (formal_parameters whole d.formals) o ≡ Some p
          → is_scalar_form (form_at whole u.type_number) ≡ true
      by_result k d b at None is own =
          absurd (let none = profile_none whole (formal_parameters whole d.formals) p own in let bad = sym none ∙ gives in cc)
      by_result k d b at (Some r) is own =
          let s : Scope = front t k in
          let head = head_legal program start all w k d b at in
          let named = front_empty _ (function_body_faults d b) head in
          let profile = front_empty (profile_faults s d) (own_name_faults d.name d.formals) (front_empty _ (body_name_faults s d.name) named) in
          let y = result_scalar scopes s (sound k) d profile r is in
          let z = profile_some whole (formal_parameters whole d.formals) r p own in
          let there = subtype_kept s whole (kept program start all w k) r y.subtype y.here in
          let same : y.subtype ≡ u = same_some y.subtype u (sym there ∙ z.1 ∙ sym z.2 ∙ gives) in
          subst (λ (v : Subtype). is_scalar_form (form_at whole v.type_number) ≡ true) same
          (ap is_scalar_form (same_form s whole (extends k) y.subtype.type_number y.known) ∙ y.scalar)

  -- ... where its type is known too
  pub scalar_here : (place : ℕ) (u : Subtype) → IsKnown (front t place) u → is_scalar_form (form_at whole u.type_number) ≡ true
      → is_scalar_form (form_at (front t place) u.type_number) ≡ true
  scalar_here place u known h = ap is_scalar_form (sym (same_form (front t place) whole (extends place) u.type_number known)) ∙ h

  pub results_at : (place : ℕ) (name : List ℕ) (p : Profile) (u : Subtype) → profile_named (front t place) name ≡ Some p → p.result ≡ Some u
      → is_scalar_form (form_at (front t place) u.type_number) ≡ true
  results_at place name p u h gives =
      let n = named_there (front t place) name p h in
      let there = kept_here place name (Subprogram p) (named_subprogram (front t place) name p h) in
      let own : IsSoundProfile (front t place) p = (sound place).each n.number (Subprogram p) n.stands in
      let result : IsSoundResult (front t place) p.formals (Some u) = subst (IsSoundResult (front t place) p.formals) gives own.result in
      scalar_here place u result.0 (function_scalar name p u there gives)

  -- ---- exceptions

  pub raised_at : (place : ℕ) (name : List ℕ) → entity_named (front t place) name ≡ Some Exception
      → is_some (number_among program.exceptions name) ≡ true
  raised_at place name h =
      among_numbered program.exceptions name (tables t legal restricted).exceptions (subst (λ l. Has l name) (sym w.exceptions) (by_case came_from))
    where
      came_from : (stands start name ≡ Some Exception) ⊎ Origin start all name Exception
      came_from = came program start all w name Exception (kept_here place name Exception h)

      declared : (o : Origin start all name Exception) (own : Identifier) → o.item ≡ OfItem (OfException own) → Has (exceptions_among (items_among all)) name
      declared o own is =
          let said : declares (scope_at start all o.place) (OfItem (OfException own)) ≡ Some (record { name = name; entity = Exception }) =
          ap (declares (scope_at start all o.place)) (sym is) ∙ o.declared in
          let named : own.name ≡ name =
          ap (λ y. y.name) (same_some (record { name = own.name; entity = Exception }) (record { name = name; entity = Exception }) said) in
          let at : slice_get all o.place ≡ Some (OfItem (OfException own)) = o.at ∙ ap Some is in
          subst (Has (exceptions_among (items_among all))) named (declared_at all o.place (OfItem (OfException own)) at)

      by_case : (stands start name ≡ Some Exception) ⊎ Origin start all name Exception → Has (predefined ++ exceptions_among (items_among all)) name
      by_case (inl first) = has_front predefined (exceptions_among (items_among all)) name ((w.started name Exception first).exception refl)
      by_case (inr o) =
          let i = exception_item o.item (origin_kind program start all w name Exception o (λ d. cc)) in
          has_back predefined (exceptions_among (items_among all)) name (declared o i.0 i.1)

  -- ---- what is named behind protected objects

  -- the object is one of the package
  object_kept : (place : ℕ) (object name : List ℕ) (p : Profile) (x : IsBehind (front t place) object name p)
      → stands whole object ≡ Some (Protected x.protected)
  object_kept place object name p x =
      kept_here place object (Protected x.protected) (stands_number (front t place) object x.number (Protected x.protected) x.numbered x.stands)

  offered_at : (place : ℕ) (object name : List ℕ) (p : Profile) → external_profile (front t place) object name ≡ Some p
      → (is_some (entry_behind (front t place) object name) || is_some (external_of (seen_at t place) object name)) ≡ true
  offered_at place object name p h =
      let x = is_behind (front t place) object name p h in
      offered_behind scopes names premises tables t legal restricted (front t place) object name p x (object_kept place object name p x)

  gives_at : (place : ℕ) (object name : List ℕ) (p : Profile) (u : Subtype) → external_profile (front t place) object name ≡ Some p → p.result ≡ Some u
      → (is_some (external_of (seen_at t place) object name) ≡ true) × (is_scalar_form (form_at (front t place) u.type_number) ≡ true)
  gives_at place object name p u h gives =
      let x = is_behind (front t place) object name p h in
      let it = gives_behind scopes names premises tables t legal restricted (front t place) object name p x (object_kept place object name p x) u gives in
      (it.0, scalar_here place u (result_known (front t place) (sound place) object name p x u gives) it.1)

  pub covered_at : (place : ℕ) → FewFormals (front t place) → KeepsLimits (front t place) → HasWhatCodeNeeds program.exceptions (seen_at t place)
  covered_at place few limits =
      record {
        expressions = record { formals = few; stored = stored_at place; numbered = numbered_at place; results = results_at place; gives = gives_at place };
        full = λ n form h. limits.types (base_range_of n) (ap is_some h);
        raised = raised_at place;
        offered = offered_at place;
      }
