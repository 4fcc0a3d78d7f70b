-- Lists of faults whose numbers are those of restrictions: one lemma for each way in which the definitions make such lists.
use Rattle.std.proofs.Common.{◌≡◌, inl, inr, ℕ, Bool, true, false, cond, [], ◌∷◌, ◌++◌, refl}
use Rattle.std.proofs.lemmas.Bool.{and_parts, leb-true}
use Rattle.std.proofs.lemmas.List.Elements.{All-append, All-cons, All-nil}
use Rattle.std.specs.List.{All}
use Rattle.std.specs.Prelude.{nat_le, ◌&&◌, ◌||◌}
use Rattle.base.specs.declared.faults.TheConstants.{HANDLER_CEILING, HANDLER_PROFILE, LOCAL_TASKING, WRONG_PRAGMAS}
use Rattle.lexer.specs.declared.fault.Fault.{Fault}
use Rattle.expr_rules.specs.Faults.{Faults, rule}
use Rattle.fault_numbers.specs.Numbers.{IsRestrictionNumbered}

-- each fault has a number from 30 to 39, or from 70 to 73
pub record Restrictions (faults : Faults) : Type 0 where
  pub each : All IsRestrictionNumbered faults

pub none : Restrictions []
none = record { each = All-nil IsRestrictionNumbered }

-- one list behind another
infixl 5 ◌⊕◌
pub ◌⊕◌ : {xs ys : Faults} → Restrictions xs → Restrictions ys → Restrictions (xs ++ ys)
◌⊕◌ {xs} {ys} p q = record { each = All-append IsRestrictionNumbered xs ys p.each q.each }

-- such a number, as a test that computes
abbrev pub is_restriction : ℕ → Bool
is_restriction number = (nat_le LOCAL_TASKING number && nat_le number WRONG_PRAGMAS) || (nat_le HANDLER_PROFILE number && nat_le number HANDLER_CEILING)

numbered : (fault : Fault) → is_restriction fault.number ≡ true → IsRestrictionNumbered fault
numbered fault is =
    by (nat_le LOCAL_TASKING fault.number && nat_le fault.number WRONG_PRAGMAS) (nat_le HANDLER_PROFILE fault.number && nat_le fault.number HANDLER_CEILING)
    (λ e. let p = and_parts (nat_le LOCAL_TASKING fault.number) _ e in inl (leb-true LOCAL_TASKING fault.number p.0, leb-true fault.number WRONG_PRAGMAS p.1))
    (λ e. let p = and_parts (nat_le HANDLER_PROFILE fault.number) _ e in inr (leb-true HANDLER_PROFILE fault.number p.0, leb-true fault.number HANDLER_CEILING p.1))
    is
  where
    by : (a b : Bool) → (a ≡ true → IsRestrictionNumbered fault) → (b ≡ true → IsRestrictionNumbered fault) → (a || b) ≡ true → IsRestrictionNumbered fault
    by true b first second e = first refl
    by false b first second e = second e

-- a rule that is asked by a test
pub asked : (number place : ℕ) (is_broken : Bool) → is_restriction number ≡ true → Restrictions (rule number place is_broken)
asked number place true is =
    let f : Fault = record { number = number; place = place } in
    record { each = All-cons IsRestrictionNumbered f [] (numbered f is) (All-nil IsRestrictionNumbered) }
asked number place false is = none

pub chosen : {xs ys : Faults} (b : Bool) → Restrictions xs → Restrictions ys → Restrictions (cond b xs ys)
chosen true p q = p
chosen false p q = q
