-- Each procedure that main of an accepted program calls has a body, whose number is told of its name behind the package (RM 10.2).
use Rattle.std.proofs.Common.{◌≡◌, ℕ, zero, suc, ◌≤◌, List, [], ◌∷◌, ◌++◌, length, take, cond, Bool, true, false, ◌||◌, Option, Some, None, refl, sym, ap, ◌∙◌, subst, arith}
use Rattle.std.specs.Prelude.{bytes_eq, is_none, option_map, slice_get}
use Rattle.ada_tree.specs.declared.program.MainStatement.{MainStatement}
use Rattle.ada_tree.specs.declared.program.MainStatement.TheVariants as main
use Rattle.ada_tree.specs.ProgramTree.{BodyItemTree, ProgramTree, SubprogramBody}
use Rattle.types.specs.Entities.{Profile, Subprogram}
use Rattle.types.specs.Scopes.{Named, Scope, number_of}
use Rattle.legality.specs.ProgramRules.{IsLegal}
use Rattle.ravenscar.specs.ProgramRules.{IsRestricted}
use Rattle.meaning.specs.Calls.{procedure_among, procedure_here}
use Rattle.meaning.specs.Programs.{Procedure, Program, program_of}
use Rattle.program_soundness.specs.Fronts.{declared_in, front, start_in}
use Rattle.program_soundness.proofs.Agreed.{same_twice}
use Rattle.program_soundness.proofs.Callables.{bodies_among, found_procedure, procedures_are}
use Rattle.program_soundness.proofs.Called.{body_entity}
use Rattle.program_soundness.proofs.Listing.{same_some}
use Rattle.program_soundness.proofs.Walked.{kept_all}
use Rattle.program_soundness.proofs.WiderScopes.{number_stands, same_bytes, stands, stands_number}
use Rattle.program_soundness.proofs.Whole.{IsPackage}
use Rattle.expr_soundness.proofs.Positions.{entity_number, first_place, found_at, number_place, suc_of}
use Rattle.expr_code.specs.Entries.{entry_at}
use Rattle.expr_code.specs.Seeing.{subprogram_of, told_of}
use Rattle.step_simulation.specs.part_code.specs.Needs.{are_unknown}
use Rattle.package_code.specs.Laws.{MainIsKnown}
use Rattle.package_code.specs.Bodies.{number_in, of_subprogram}
use Rattle.package_code.specs.Refusing.{seen_at, told_behind}
use Rattle.package_code.proofs.CodedPackage.{procedure_stands}
use Rattle.package_code.proofs.InFront.{LawsOfNames, last_is, whole}
use Rattle.source_laws.proofs.MainCalls.{AreFound, main_found}
use Rattle.package_code.proofs.Numbered.{bodies_numbered}
use Rattle.package_code.proofs.Seen.{all_behind}

-- ---- what is told of a name that is not among the first

entry_behind : {X : Type 0} (first : ℕ) (tell : List ℕ → Option X) (s : Scope) (n : ℕ) (m : Named) → first ≤ n → slice_get s n ≡ Some m
    → entry_at (told_behind first tell s) n ≡ tell m.name
entry_behind first tell [] n m up h = cc
entry_behind zero tell (x ∷ s) zero m up h = ap (λ y. tell y.name) (same_some x m h)
entry_behind zero tell (x ∷ s) (suc n) m up h = entry_behind zero tell s n m (omega arith) h
entry_behind (suc first) tell (x ∷ s) zero m up h = absurd (omega (arith, up))
entry_behind (suc first) tell (x ∷ s) (suc n) m up h = entry_behind first tell s n m (omega (arith, up)) h

unmapped : (o : Option ℕ) → option_map suc o ≡ None → o ≡ None
unmapped (Some n) h = cc
unmapped None h = refl

pub place_behind : {X : Type 0} (p : X → Bool) (xs ys : List X) (n : ℕ) → first_place p xs ≡ None → first_place p (xs ++ ys) ≡ Some n → length xs ≤ n
place_behind p [] ys n none h = omega arith
place_behind {X} p (x ∷ xs) ys n none h = by_test (p x) none h (λ m a b. place_behind p xs ys m a b)
  where
    by_test : (b : Bool) → cond b (Some 0) (option_map suc (first_place p xs)) ≡ None → cond b (Some 0) (option_map suc (first_place p (xs ++ ys))) ≡ Some n
        → ((m : ℕ) → first_place p xs ≡ None → first_place p (xs ++ ys) ≡ Some m → length xs ≤ m) → suc (length xs) ≤ n
    by_test true a b later = cc
    by_test false a b later =
        let m = suc_of (first_place p (xs ++ ys)) n b in
        let l = later m.0 (unmapped (first_place p xs) a) m.1 in
        let e = m.2 in omega (arith, e, l)

pub told_name : {X : Type 0} (first : ℕ) (tell : List ℕ → Option X) (s : Scope) (name : List ℕ) (n : ℕ) → number_of s name ≡ Some n → first ≤ n
    → told_of s (told_behind first tell s) name ≡ tell name
told_name first tell s name n h up =
    let x = found_at (λ m. bytes_eq name m.name) s n (sym (number_place s name) ∙ h) in
    ap (λ o. elim o [ None ↦ None | Some k ↦ entry_at (told_behind first tell s) k ]) h ∙ entry_behind first tell s n x.0 up x.1
    ∙ ap tell (sym (same_bytes name x.0.name x.2))

module _ (laws : LawsOfNames) (t : ProgramTree) (legal : IsLegal t) (restricted : IsRestricted t) where
  abbrev program : Program
  program = program_of t

  abbrev start : Scope
  start = start_in t.package_

  abbrev all : List BodyItemTree
  all = declared_in t.package_

  abbrev last : ℕ
  last = length all

  abbrev w : IsPackage program start all
  w = whole laws t legal restricted

  -- a subprogram is no name in front of the package
  unstarted : (name : List ℕ) (p : Profile) → stands program.scope name ≡ Some (Subprogram p) → (o : Option ℕ) → number_of start name ≡ o → o ≡ None
  unstarted name p h None e = refl
  unstarted name p h (Some n) e =
      absurd (let x = entity_number start name n e in
      let first = stands_number start name n x.0 e x.1 in
      let there = subst (λ s. stands s name ≡ Some x.0) w.scope (kept_all start all name x.0 first) in
      let same : x.0 ≡ Subprogram p = same_some x.0 (Subprogram p) (sym there ∙ h) in
      let never = (w.started name (Subprogram p) (subst (λ y. stands start name ≡ Some y) same first)).first in cc)

  told_there : (name : List ℕ) (p : Profile) → stands program.scope name ≡ Some (Subprogram p) → subprogram_of (seen_at t last) name ≡ number_in t None name
  told_there name p h =
      let s : Scope = front t last in
      let n = number_stands s name (Subprogram p) (ap (λ u. stands u name) (last_is laws t legal restricted) ∙ h) in
      let more = all_behind start (take last all) in
      let none = sym (number_place start name) ∙ unstarted name p h (number_of start name) refl in
      let found = sym (number_place (start ++ more.0) name) ∙ ap (λ u. number_of u name) (sym more.1) ∙ n.1 in
      told_name (length start) (number_in t None) s name n.0 n.1 (place_behind (λ m. bytes_eq name m.name) start more.0 n.0 none found)

  known : (name : List ℕ) (q : Procedure) → procedure_here program None name ≡ Some q → is_none (subprogram_of (seen_at t last) name) ≡ false
  known name q found =
      let among : procedure_among program.procedures None name ≡ Some q = sym (same_twice (procedure_among program.procedures None name)) ∙ found in
      let x = procedure_stands laws t legal restricted name q among in
      let u =
      found_procedure program.scope (bodies_among program.scope all) None name q
      (ap (λ l. procedure_among l None name) (sym (w.procedures ∙ procedures_are program.scope all)) ∙ among) in
      let named : x.d.name.name ≡ name = ap (λ y. y.name) (sym x.is ∙ u.is) ∙ u.named in
      let e = body_entity program start all w x.place x.d x.b x.at in
      let number = (bodies_numbered laws.scopes laws.names laws.premises t legal restricted x.place (SubprogramBody x.d x.b) 0
      (of_subprogram (front t (suc x.place)) x.d x.b) x.at refl).0 in
      ap is_none (told_there name e.profile (ap (stands program.scope) (sym named) ∙ e.stands_) ∙ ap (number_in t None) (sym named) ∙ number)

  none_unknown : (xs : List MainStatement) → AreFound program xs → are_unknown (seen_at t last) xs ≡ false
  none_unknown [] h = refl
  none_unknown (main.Null place ∷ xs) h = none_unknown xs h.1
  none_unknown (main.Call package_ procedure ∷ xs) h =
      ap (λ b. b || are_unknown (seen_at t last) xs) (known procedure.name h.0.0 h.0.1) ∙ none_unknown xs h.1

  pub main_known : are_unknown (seen_at t last) t.main.statements ≡ false
  main_known = none_unknown t.main.statements (main_found laws t legal restricted)

pub main_is_known : LawsOfNames → MainIsKnown
main_is_known laws t legal restricted = main_known laws t legal restricted
