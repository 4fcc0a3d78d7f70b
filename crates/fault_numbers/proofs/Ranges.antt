-- Lists of faults whose numbers lie between two: one lemma for each way in which the definitions make such lists.
use Rattle.std.proofs.Common.{◌≡◌, ℕ, Bool, true, false, cond, [], ◌∷◌, ◌++◌}
use Rattle.std.proofs.lemmas.Bool.{and_parts, leb-true}
use Rattle.std.proofs.lemmas.List.Elements.{All-append, All-cons, All-nil}
use Rattle.std.specs.List.{list_all}
use Rattle.std.specs.Prelude.{nat_le, ◌&&◌}
use Rattle.base.specs.declared.faults.TheConstants.{LIMIT_PASSED, NAME_NOT_VISIBLE}
use Rattle.lexer.specs.declared.fault.Fault.{Fault}
use Rattle.expr_rules.specs.Faults.{Faults, rule}
use Rattle.fault_numbers.specs.Numbers.{AreNumberedWithin, IsNumbered}

-- each fault has a number in the range
pub record Within (first last : ℕ) (faults : Faults) : Type 0 where
  pub each : AreNumberedWithin first last faults

-- the rules from 10 to 23
abbrev pub Legality : Faults → Type 0
Legality faults = Within NAME_NOT_VISIBLE LIMIT_PASSED faults

pub none : {first last : ℕ} → Within first last []
none {first} {last} = record { each = All-nil (IsNumbered first last) }

-- one list behind another
infixl 5 ◌⊕◌
pub ◌⊕◌ : {first last : ℕ} {xs ys : Faults} → Within first last xs → Within first last ys → Within first last (xs ++ ys)
◌⊕◌ {first} {last} {xs} {ys} p q = record { each = All-append (IsNumbered first last) xs ys p.each q.each }

-- a number of the range, as a test that computes
abbrev pub is_between : (first last number : ℕ) → Bool
is_between first last number = nat_le first number && nat_le number last

pub more : {first last : ℕ} (fault : Fault) (rest : Faults) → is_between first last fault.number ≡ true → Within first last rest → Within first last (fault ∷ rest)
more {first} {last} fault rest is q =
    let parts = and_parts (nat_le first fault.number) (nat_le fault.number last) is in
    record { each = All-cons (IsNumbered first last) fault rest (leb-true first fault.number parts.0, leb-true fault.number last parts.1) q.each }

-- a rule that is asked by a test
pub asked : {first last : ℕ} (number place : ℕ) (is_broken : Bool) → is_between first last number ≡ true → Within first last (rule number place is_broken)
asked number place true is = more (record { number = number; place = place }) [] is none
asked number place false is = none

pub chosen : {first last : ℕ} {xs ys : Faults} (b : Bool) → Within first last xs → Within first last ys → Within first last (cond b xs ys)
chosen true p q = p
chosen false p q = q

-- each number of a list tested
pub tested : {first last : ℕ} {faults : Faults} → list_all (λ f. is_between first last f.number) faults ≡ true → Within first last faults
tested {faults = []} is = none
tested {first} {last} {faults = f ∷ fs} is = let parts = and_parts (is_between first last f.number) _ is in more f fs parts.0 (tested parts.1)
