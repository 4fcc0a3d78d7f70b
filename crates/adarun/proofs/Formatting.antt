-- What `format` leaves: where its source is misspelled, and the layout of a source.
use Rattle.std.proofs.Common.{◌≡◌, ◌∙◌, ◌<◌, ◌≤◌, ◌⊎◌, ℕ, List, Option, Bool, true, false, cond, inl, inr, length, ap, refl, subst, sym}
use Rattle.std.specs.Prelude.{◌≢◌, nat_eq}
use Rattle.base.specs.declared.limits.TheConstants.{TEXT_LIMIT}
use Rattle.base.specs.declared.faults.TheConstants.{MEMORY_REFUSED}
use Rattle.file_limits.specs.declared.TheConstants.{SOURCE_BYTES}
use Rattle.lexer.specs.Spelling.{IsBroken, IsRefusedForMemory, Spells}
use Rattle.lexer.specs.Fault.{memory_fault}
use Rattle.lexer.specs.declared.fault.Fault.{Fault}
use Rattle.lexer.specs.declared.token.Token.{Token}
use Rattle.printing.specs.Layout.{formatted}
use Rattle.adarun.specs.Accepted.{IsMisspelled}
use Rattle.adarun.specs.Formatting.{HasLayout, LeavesFormat}
use Rattle.adarun.specs.Reading.{Contents, IsBeginningRead}
use Rattle.adarun.specs.declared.program.Status.{Status}
use Rattle.adarun.specs.declared.program.Status.TheVariants.{NoMemory, SourceRefused}
use Rattle.adarun.proofs.Every.{not_memory}

module _ (text : List ℕ) (fault : Fault) where
  abbrev IsLeast : Type 0
  IsLeast = (other : Fault) → IsBroken text other → (fault ≡ memory_fault) ⊎ ((fault.place < other.place) ⊎ (fault ≡ other))

  broken : IsBroken text fault ⊎ IsRefusedForMemory text fault → fault.number ≢ MEMORY_REFUSED → IsBroken text fault
  broken (inl is) not = is
  broken (inr refused) not = not_memory fault refused.memory not

  before_others : IsLeast → fault.number ≢ MEMORY_REFUSED → (other : Fault) → IsBroken text other → (fault.place < other.place) ⊎ (fault ≡ other)
  before_others least not other is = by (least other is)
    where
      by : (fault ≡ memory_fault) ⊎ ((fault.place < other.place) ⊎ (fault ≡ other)) → (fault.place < other.place) ⊎ (fault ≡ other)
      by (inl memory) = not_memory fault memory not
      by (inr found) = found

  misspelled : IsBroken text fault ⊎ IsRefusedForMemory text fault → IsLeast → fault.number ≢ MEMORY_REFUSED → IsMisspelled text fault
  misspelled is least not = record { broken = broken is not; first = before_others least not }

  module _ (contents : Contents) (source : List ℕ) (old new : Option (List ℕ)) (read : IsBeginningRead (contents source) SOURCE_BYTES text) (unwritten : new ≡ old) where
    by_number : (b : Bool) → nat_eq fault.number MEMORY_REFUSED ≡ b → IsBroken text fault ⊎ IsRefusedForMemory text fault → IsLeast
        → LeavesFormat contents source (cond b NoMemory SourceRefused) old new
    by_number true e is least = unwritten
    by_number false e is least = record {
      text = text;
      source_read = read;
      fault = fault;
      misspelled = misspelled is least (λ h. let same = ap (λ n. nat_eq n MEMORY_REFUSED) h in absurd cc);
      unwritten = unwritten;
    }

    pub refused_format : (status : Status) → status ≡ cond (nat_eq fault.number MEMORY_REFUSED) NoMemory SourceRefused
        → IsBroken text fault ⊎ IsRefusedForMemory text fault → IsLeast → LeavesFormat contents source status old new
    refused_format status e is least = subst (λ s. LeavesFormat contents source s old new) (sym e) (by_number _ refl is least)

-- the text that is given is the layout
module _ (text : List ℕ) (list lent : List Token) (spells : Spells text list) (same : lent ≡ list) where
  pub spelled : Spells text lent
  spelled = subst (Spells text) (sym same) spells

  pub laid_out : (layout given : List ℕ) → ((s : Spells text lent) → (layout ≡ formatted s) × (length (formatted s) ≤ TEXT_LIMIT)) → given ≡ layout
      → HasLayout text given
  laid_out layout given gives same_text =
      let is = same_text ∙ (gives spelled).0 in
      record { tokens = lent; spells = spelled; layout_is = is; short = subst (λ l. length l ≤ TEXT_LIMIT) (sym is) (gives spelled).1 }
