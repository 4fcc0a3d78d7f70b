-- What the check finds of a program is what is broken in it.
use Rattle.std.proofs.Common.{◌≡◌, ℕ, Bool, true, ◌||◌, ◌&&◌, [], ◌∷◌, ◌++◌, Option, Some, None, refl, sym, ap, subst, ◌∙◌, arith}
use Rattle.std.specs.Prelude.{nat_eq}
use Rattle.std.specs.List.{Contains, list_any}
use Rattle.std.proofs.lemmas.List.Folds.{Any-from_list_any, list_any-append, list_any-from_Any}
use Rattle.std.proofs.lemmas.Grind.{common_steps}
use Rattle.lexer.specs.declared.fault.Fault.{Fault}
use Rattle.ada_tree.specs.ProgramTree.{PackageTree, ProgramTree}
use Rattle.types.specs.Scopes.{Scope, standard}
use Rattle.expr_rules.specs.Faults.{Faults, IsLeast, least}
use Rattle.expr_rules.specs.Findings.{Findings, FoundIsAll, none_found, noted}
use Rattle.unit_rules.specs.PackageRules.{package_faults}
use Rattle.unit_rules.specs.MainRules.{main_faults}
use Rattle.size_rules.specs.ProgramSizes.{size_faults}
use Rattle.legality.specs.LikeNames.{like_name_faults}
use Rattle.legality.specs.OpenParts.{open_parts_faults}
use Rattle.legality.specs.FoundFaults.{FindsWhatIsBroken, found_faults, found_in_package}
use Rattle.legality.specs.ProgramRules.{package_part_faults, program_faults}
use Rattle.legality.proofs.OneWalk.{one_walk}

-- ---- whatever is asked of the faults

asked_in_package : (test : Fault → Bool) (s : Scope) (p : Option PackageTree) → list_any test (found_in_package s p) ≡ list_any test (package_part_faults s p)
asked_in_package test s None = refl
asked_in_package test s (Some p) =
    list_any-append test (package_faults s p) (open_parts_faults p)
    ∙ ap (λ b. list_any test (package_faults s p) || b) (one_walk test _ p refl)
    ∙ sym (list_any-append test (package_faults s p) (like_name_faults p))

asked : (test : Fault → Bool) (t : ProgramTree) → list_any test (found_faults t) ≡ list_any test (program_faults t)
asked test t =
    let main = main_faults t.package_ t.main in
    let sizes = size_faults t in
    let walked = found_in_package standard t.package_ in
    let defined = package_part_faults standard t.package_ in
    list_any-append test (walked ++ main) sizes
    ∙ ap (λ b. b || list_any test sizes)
    (list_any-append test walked main
    ∙ ap (λ b. b || list_any test main) (asked_in_package test standard t.package_)
    ∙ sym (list_any-append test defined main))
    ∙ sym (list_any-append test (defined ++ main) sizes)

-- ---- the test for one fault

abbrev is_fault : Fault → Fault → Bool
is_fault f g = nat_eq g.number f.number && nat_eq g.place f.place

both : (a b c d : ℕ) → (nat_eq a b && nat_eq c d) ≡ true → (a ≡ b) × (c ≡ d)
both a b c d h = grind (arith, common_steps, h)

same_number : (n : ℕ) → nat_eq n n ≡ true
same_number n = grind (arith, common_steps)

is_itself : (f : Fault) → is_fault f f ≡ true
is_itself f = (λ j. same_number f.number j && same_number f.place j)

is_same : (f g : Fault) → is_fault f g ≡ true → g ≡ f
is_same f g h =
    let e = both g.number f.number g.place f.place h in
    λ j. record { number = e.0 j; place = e.1 j }

found_by : (fs : Faults) (f : Fault) → Contains fs f → list_any (is_fault f) fs ≡ true
found_by fs f h = list_any-from_Any (is_fault f) fs (h.0, f, h.1, h.2, is_itself f)

contains : (fs : Faults) (f : Fault) → list_any (is_fault f) fs ≡ true → Contains fs f
contains fs f h =
    let a = Any-from_list_any (is_fault f) fs h in
    let e : a.1 ≡ f = is_same f a.1 a.4 in
    subst (Contains fs) e (a.0, a.2, a.3)

pub finds_what_is_broken : FindsWhatIsBroken
finds_what_is_broken =
    record {
      found = λ t f h. contains (program_faults t) f (sym (asked (is_fault f) t) ∙ found_by (found_faults t) f h);
      broken = λ t f h. contains (found_faults t) f (asked (is_fault f) t ∙ found_by (program_faults t) f h);
    }

-- ---- what follows of the check

pub contains_first : (f : Fault) (fs : Faults) → Contains (f ∷ fs) f
contains_first f fs = (0, grind (arith, common_steps), refl)

pub nowhere : (f : Fault) → Contains [] f → ⊥
nowhere f h = let less = h.1 in omega (arith, less)

pub none_of : (xs ys : Faults) → ((f : Fault) → Contains ys f → Contains xs f) → xs ≡ [] → ys ≡ []
none_of xs [] same none = refl
none_of xs (y ∷ ys) same none = absurd (nowhere y (subst (λ l. Contains l y) none (same y (contains_first y ys))))

pub none_broken : FindsWhatIsBroken → (t : ProgramTree) → found_faults t ≡ [] → program_faults t ≡ []
none_broken finds t none = none_of (found_faults t) (program_faults t) (finds.broken t) none

pub least_broken : FindsWhatIsBroken → (t : ProgramTree) (f : Fault) → IsLeast (found_faults t) f → IsLeast (program_faults t) f
least_broken finds t f is = record { listed = finds.found t f is.listed; first = λ g h. is.first g (finds.broken t g h) }

-- the least of what is noted without room
pub least_noted : FoundIsAll → (fs : Faults) (start found : Findings) (one : Option Fault)
    → start ≡ none_found 0
    → found ≡ noted start fs
    → one ≡ found.least
    → one ≡ least fs
least_noted all fs start found one empty notes is = is ∙ ap (λ f. f.least) (notes ∙ ap (λ f. noted f fs) empty) ∙ all.least 0 fs
