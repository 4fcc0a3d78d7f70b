-- The value of main's aspect is that by the names of Standard alone, and these stand in front of all names of the package.
use Rattle.std.proofs.Common.{◌≡◌, ◌++◌, ◌⊎◌, inl, inr, ℕ, zero, suc, Bool, true, false, cond, List, [], ◌∷◌, length, Option, Some, None, refl, sym, ap, ◌∙◌, subst}
use Rattle.std.specs.Prelude.{codes}
use Rattle.ada_tree.specs.ExpressionTree.{ExprTree}
use Rattle.ada_tree.specs.ProgramTree.{PackageTree}
use Rattle.types.specs.declared.statics.StaticForm.{StaticForm}
use Rattle.types.specs.declared.statics.StaticForm.TheVariants.{Doubtful as Unsure, NotStatic, Static}
use Rattle.types.specs.Entities.{Entity, LibraryUnit, Put, Spans, Times}
use Rattle.types.specs.Entities as entity
use Rattle.types.specs.declared.entity.PredefinedOperation.TheVariants as predefined
use Rattle.types.specs.Evaluations.{Gives, Meaningless, Raises, Val}
use Rattle.types.specs.Scopes.{Named, Scope, base_range_of, entity_at, entity_of, from_integer, from_nothing, integer, integer_type, is_visible, number_of, standard, with_control_io, with_name, with_real_time}
use Rattle.types.specs.Standings.{stands_for}
use Rattle.types.specs.Statics.{start_of, static_form, static_value}
use Rattle.types.specs.Values.{Value}
use Rattle.expr_soundness.specs.expr_rules.specs.declared.own.Own.{Own}
use Rattle.expr_soundness.specs.expr_rules.specs.declared.own.Own.TheVariants.{Typed, Universal, Unknown}
use Rattle.expr_soundness.specs.expr_rules.specs.declared.own.Wanted.{Wanted}
use Rattle.expr_soundness.specs.expr_rules.specs.declared.own.Wanted.TheVariants.{OfType}
use Rattle.expr_soundness.specs.expr_rules.specs.Faults.{Faults}
use Rattle.expr_soundness.specs.expr_rules.specs.ExpressionRules.{faults_in, faults_of}
use Rattle.expr_soundness.specs.expr_rules.specs.NameRules.{mismatch}
use Rattle.expr_soundness.specs.expr_rules.specs.StaticRules.{form_rule, if_unbroken, static_faults, static_result, static_scalar, value_rule}
use Rattle.expr_soundness.specs.expr_rules.proofs.TypedLaw.{front_empty, back_empty}
use Rattle.expr_soundness.specs.expr_rules.specs.Typing.{own_of}
use Rattle.expr_soundness.proofs.FixedNames.{is_valueless}
use Rattle.expr_soundness.proofs.Positions.{item_added, number_added}
use Rattle.expr_soundness.proofs.Standard.{standard_is_sound}
use Rattle.program_soundness.specs.declaration_rules.specs.PackageNames.{clauses_scope}
use Rattle.program_soundness.specs.unit_rules.specs.MainRules.{main_scope}
use Rattle.program_soundness.specs.Fronts.{start_in}
use Rattle.program_soundness.proofs.Extending.{Extends, extends_more, extends_self, name_extends}
use Rattle.program_soundness.proofs.Listing.{same_some}
use Rattle.source_laws.proofs.StandardStatics.{IsBasic, static_back}
use Rattle.source_laws.proofs.UnitClauses.{clauses_keep}

-- ---- the names of Standard stand in front

units_extend : (s : Scope) (h : Extends standard s) (name : List ℕ) (e : Entity) → Extends standard (with_name s name e)
units_extend s h name e = extends_more standard s (with_name s name e) h (name_extends s name e)

times_extend : (s : Scope) → Extends standard s → Extends standard (with_real_time s)
times_extend s h =
    let time = base_range_of (length s) in
    let span = base_range_of (suc (length s)) in
    let one = with_name s (codes "TIME") (entity.OfType Times time) in
    let two = with_name one (codes "TIME_SPAN") (entity.OfType Spans span) in
    let three = with_name two (codes "CLOCK") (from_nothing predefined.Clock time) in
    let four = with_name three (codes "MILLISECONDS") (from_integer predefined.Milliseconds span) in
    let first = units_extend s h (codes "TIME") (entity.OfType Times time) in
    let second = units_extend one first (codes "TIME_SPAN") (entity.OfType Spans span) in
    let third = units_extend two second (codes "CLOCK") (from_nothing predefined.Clock time) in
    let fourth = units_extend three third (codes "MILLISECONDS") (from_integer predefined.Milliseconds span) in
    units_extend four fourth (codes "MICROSECONDS") (from_integer predefined.Microseconds span)

io_extend : (s : Scope) → Extends standard s → Extends standard (with_control_io s)
io_extend s h =
    units_extend (with_name s (codes "PUT") Put) (units_extend s h (codes "PUT") Put) (codes "READ") (from_integer predefined.Read integer)

start_extends : (o : Option PackageTree) → Extends standard (start_in o)
start_extends None = extends_self standard
start_extends (Some p) =
    units_extend (clauses_scope standard p.clauses)
    (clauses_keep (Extends standard) times_extend io_extend standard p.clauses (extends_self standard)) p.declaration.name.name LibraryUnit

pub standard_extends : (o : Option PackageTree) (whole : Scope) → Extends (start_in o) whole → Extends standard whole
standard_extends o whole h = extends_more standard (start_in o) whole (start_extends o) h

-- ---- each of them is a scalar type, a truth value or an exception

all_basic : (n : ℕ) (e : Entity) → entity_at standard n ≡ Some e → IsBasic standard e
all_basic zero e h = subst (IsBasic standard) (same_some _ e h) (inl refl)
all_basic (suc zero) e h = subst (IsBasic standard) (same_some _ e h) (inl refl)
all_basic (suc (suc zero)) e h = subst (IsBasic standard) (same_some _ e h) (inl refl)
all_basic (suc (suc (suc zero))) e h = subst (IsBasic standard) (same_some _ e h) (inr refl)
all_basic (suc (suc (suc (suc zero)))) e h = subst (IsBasic standard) (same_some _ e h) tt
all_basic (suc (suc (suc (suc (suc zero))))) e h = subst (IsBasic standard) (same_some _ e h) tt
all_basic (suc (suc (suc (suc (suc (suc zero)))))) e h = subst (IsBasic standard) (same_some _ e h) tt
all_basic (suc (suc (suc (suc (suc (suc (suc zero))))))) e h = subst (IsBasic standard) (same_some _ e h) tt
all_basic (suc (suc (suc (suc (suc (suc (suc (suc zero)))))))) e h = subst (IsBasic standard) (same_some _ e h) tt
all_basic (suc (suc (suc (suc (suc (suc (suc (suc (suc zero))))))))) e h = subst (IsBasic standard) (same_some _ e h) tt
all_basic (suc (suc (suc (suc (suc (suc (suc (suc (suc (suc n)))))))))) e h = cc

-- ---- what main sees besides has no value

abbrev unit_name : List ℕ → Named
unit_name name = record { name = name; entity = LibraryUnit }

abbrev IsMore : Scope → Type 0
IsMore g = (name : List ℕ) (n : ℕ) → number_of g name ≡ Some n
    → (number_of standard name ≡ Some n) ⊎ (is_valueless (stands_for n (entity_at g n)) ≡ true)

unit_more : (own : List ℕ) → IsMore (with_name standard own LibraryUnit)
unit_more own = by_test (is_visible standard own)
  where
    by_test : (b : Bool) → IsMore (cond b standard (standard ++ unit_name own ∷ []))
    by_test true name n h = inl h
    by_test false name n h =
        elim (number_added standard (unit_name own) name n h) [
          | inl i ↦ inl i
          | inr i ↦ inr (ap (λ k. is_valueless (stands_for k (entity_at (standard ++ unit_name own ∷ []) k))) i.0
              ∙ ap (λ y. is_valueless (stands_for (length standard) (entity_of y))) (item_added standard (unit_name own)))
        ]

main_more : (o : Option PackageTree) → IsMore (main_scope o)
main_more (Some p) = unit_more p.declaration.name.name
main_more None = λ name n h. inl h

main_extends : (o : Option PackageTree) → Extends standard (main_scope o)
main_extends (Some p) = name_extends standard p.declaration.name.name LibraryUnit
main_extends None = extends_self standard

-- ---- the value

result_is : (fs : Faults) (form : StaticForm) (x : Val Value) (v : Value) → static_result fs form x ≡ Some v → (fs ≡ []) × (form ≡ Static) × (x ≡ Gives v)
result_is [] Static (Gives u) v h = (refl, refl, ap Gives (same_some u v h))
result_is [] Static (Raises y) v h = cc
result_is [] Static Meaningless v h = cc
result_is [] NotStatic x v h = cc
result_is [] Unsure x v h = cc
result_is (f ∷ fs) form x v h = cc

abbrev integer_wanted : Wanted
integer_wanted = OfType integer_type

mismatch_back : (g : Scope) (own : Own) (place : ℕ) → mismatch g integer_wanted own place ≡ [] → mismatch standard integer_wanted own place ≡ []
mismatch_back g Unknown place h = refl
mismatch_back g Universal place h = refl
mismatch_back g (Typed n) place h = h

pub standard_scalar : (o : Option PackageTree) (e : ExprTree) (v : Value) → static_scalar (main_scope o) integer_wanted None e ≡ Some v
    → static_scalar standard integer_wanted None e ≡ Some v
standard_scalar o e v h =
    let g = main_scope o in
    let y = result_is (static_faults g integer_wanted None e) (static_form g e) (static_value g e) v h in
    let typed = faults_of g integer_wanted e in
    let formed = form_rule (start_of e) (static_form g e) in
    let valued = value_rule (start_of e) None (static_form g e) (static_value g e) in
    let one = front_empty typed formed (front_empty (typed ++ formed) (if_unbroken typed valued) y.0) in
    let inside = front_empty (faults_in g integer_wanted e) (mismatch g integer_wanted (own_of g e) (start_of e)) one in
    let b = static_back standard g (main_extends o) standard_is_sound all_basic (main_more o) e integer_wanted inside y.1 in
    let value : static_value standard e ≡ Gives v = sym b.value ∙ y.2 in
    let ends : mismatch standard integer_wanted (own_of standard e) (start_of e) ≡ [] =
    mismatch_back g (own_of standard e) (start_of e) (ap (λ w. mismatch g integer_wanted w (start_of e)) (sym b.own)
    ∙ back_empty (faults_in g integer_wanted e) (mismatch g integer_wanted (own_of g e) (start_of e)) one) in
    let all : faults_of standard integer_wanted e ≡ [] = λ j. b.faults j ++ ends j in
    let whole : static_faults standard integer_wanted None e ≡ [] =
    λ j. all j ++ form_rule (start_of e) (b.form j) ++ if_unbroken (all j) (value_rule (start_of e) None (b.form j) (value j)) in
    λ j. static_result (whole j) (b.form j) (value j)
