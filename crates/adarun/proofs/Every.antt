-- Every fault of a text.
use Rattle.std.proofs.Common.{◌≡◌, ◌<◌, ◌∙◌, ◌++◌, arith, ℕ, Bool, true, false, List, [], ◌∷◌, length, Result, ap, inl, inr, refl, subst, sym}
use Rattle.std.specs.Prelude.{◌≢◌, ◌==◌, IfOk}
use Rattle.std.specs.Global.{Vec}
use Rattle.std.specs.List.{Contains}
use Rattle.std.proofs.lemmas.Grind.{common_steps}
use Rattle.std.proofs.lemmas.Result.{IfOk-weaker}
use Rattle.base.specs.declared.faults.TheConstants.{MEMORY_REFUSED}
use Rattle.lexer.specs.Fault.{memory_fault}
use Rattle.lexer.specs.Spelling.{Spells}
use Rattle.lexer.specs.declared.fault.Fault.{Fault}
use Rattle.lexer.specs.declared.token.Token.{Token}
use Rattle.parser.specs.Parsing.{IsFaulty, IsRefusal}
use Rattle.compiler.specs.ada_tree.specs.ProgramTree.{ProgramTree}
use Rattle.compiler.specs.expr_rules.specs.Faults.{Faults}
use Rattle.legality.specs.ProgramRules.{IsLegal, program_faults}
use Rattle.ravenscar.specs.BrokenRules.{ListsBrokenRules}
use Rattle.ravenscar.specs.ProgramRules.{IsRestricted, restriction_faults}
use Rattle.adarun.specs.Accepted.{HasNoTree, IsAccepted, RefusesAccepted}
use Rattle.adarun.specs.Stopping.{HasImage}
use Rattle.adarun.specs.TextFaults.{AreFaultsOfCode, AreFaultsOfTree}

-- ---- one fault alone

pub alone_is : {E : Type 0} (P : Faults → Type 0) (r : Result (Vec Fault) E) (fault : Fault)
    → IfOk r (λ v. (v.items ≡ fault ∷ []) × (fault.number ≢ MEMORY_REFUSED))
    → (fault.number ≢ MEMORY_REFUSED → P (fault ∷ []))
    → IfOk r (λ v. P v.items)
alone_is P r fault h holds = IfOk-weaker r _ _ (λ v is. subst P (sym is.0) (holds is.1)) h

-- it is not that of refused memory
pub not_memory : {A : Type 0} (fault : Fault) → fault ≡ memory_fault → fault.number ≢ MEMORY_REFUSED → A
not_memory fault is not = absurd (not (ap (λ f. f.number) is))

pub no_tree_first : (text : List ℕ) (tokens list : List Token) (fault : Fault) → Spells text tokens → list ≡ tokens → IsRefusal list fault
    → fault.number ≢ MEMORY_REFUSED
    → HasNoTree text fault
no_tree_first text tokens list fault spells same (inl memory) not = not_memory fault memory not
no_tree_first text tokens list fault spells same (inr faulty) not =
    record { tokens = tokens; spells = spells; faulty = subst (λ l. IsFaulty l fault) same faulty }

-- ---- whether a list is empty

pub empty_of : (xs : Faults) (len : ℕ) (is_empty : Bool) → len ≡ length xs → is_empty ≡ (len == 0) → is_empty ≡ true → xs ≡ []
empty_of [] len is_empty same e is = refl
empty_of (x ∷ xs) len is_empty same e is = let all : is_empty ≡ (length (x ∷ xs) == 0) = e ∙ ap (λ n. n == 0) same in absurd (grind (arith, common_steps, all, is))

pub filled_of : (xs : Faults) (len : ℕ) (is_empty : Bool) → len ≡ length xs → is_empty ≡ (len == 0) → is_empty ≡ false → xs ≢ []
filled_of [] len is_empty same e not none = let all : is_empty ≡ true = e ∙ ap (λ n. n == 0) same in absurd (let no : true ≡ false = sym all ∙ not in cc)
filled_of (x ∷ xs) len is_empty same e not none = cc

-- ---- a tree that breaks no rule

none_of : (xs ys : Faults) → xs ++ ys ≡ [] → (xs ≡ []) × (ys ≡ [])
none_of [] ys h = (refl, h)
none_of (x ∷ xs) ys h = absurd cc

nothing_listed : (xs : Faults) → ((f : Fault) → Contains xs f → Contains [] f) → xs ≡ []
nothing_listed [] h = refl
nothing_listed (x ∷ xs) h =
    let there : Contains [] x = h x (0, omega arith, refl) in
    absurd (let no : there.0 < 0 = there.1 in omega (arith, no))

pub breaks_none : (tree : ProgramTree) (faults : Faults) → faults ≡ [] → ListsBrokenRules tree faults → IsLegal tree × IsRestricted tree
breaks_none tree faults none lists =
    none_of (program_faults tree) (restriction_faults tree)
    (nothing_listed (program_faults tree ++ restriction_faults tree) (λ f is. subst (λ fs. Contains fs f) none (lists.complete f is)))

-- ---- an accepted text, as it is compiled or not

pub has_none : (text : List ℕ) (tree : ProgramTree) (faults : Faults) → faults ≡ [] → IsAccepted tree text → HasImage text → AreFaultsOfTree text tree faults
has_none text tree faults none accepted image = inr (accepted, subst (AreFaultsOfCode text tree) (sym none) image)

pub has_one : (text : List ℕ) (tree : ProgramTree) (fault : Fault) → IsAccepted tree text → RefusesAccepted text tree fault → fault.number ≢ MEMORY_REFUSED
    → AreFaultsOfTree text tree (fault ∷ [])
has_one text tree fault accepted (inl memory) not = not_memory fault memory not
has_one text tree fault accepted (inr large) not = inr (accepted, (refl, large))
