-- What stores words at an address.
use Rattle.std.proofs.Common.{◌≡◌, ℕ, ◌+◌, ◌⊎◌, inl, inr, Bool, true, false, refl, sym, ap, ◌∙◌, subst, arith, rules}
use Rattle.std.specs.Prelude.{cond, nat_eq}
use Rattle.image.specs.Sections.{Sections}
use Rattle.image.specs.Rules.{has_region, is_block, writes_region}
use Rattle.image.specs.declared.instruction.Operation.{Operation}
use Rattle.image.specs.declared.instruction.Operation.TheVariants as op
use Rattle.image.specs.declared.instruction.Region.{Region}
use Rattle.image.specs.declared.subprograms.Subprogram.{Subprogram}
use Rattle.expr_code.specs.declared.visible.Visible.{Visible}
use Rattle.expr_code.proofs.Flowing.{Changes}
use Rattle.part_code.specs.Emitting.{stored_at}
use Rattle.part_code.specs.Suiting.{HasPlaceIn, SuitsStatements}

-- ---- what stores words at an address

pub record StoresAt (r : Region) (size : ℕ) (o : Operation) : Type 0 where
  pub is : ((size ≡ 1) × (op.StoreIndexed r ≡ o)) ⊎ (op.StoreBlock r size ≡ o)

pub number_is : (n m : ℕ) → nat_eq n m ≡ true → n ≡ m
number_is n m h = search rules

pub stores_at : (r : Region) (size : ℕ) → StoresAt r size (stored_at r size)
stores_at r size = record { is = by_count (nat_eq size 1) refl }
  where
    by_count : (b : Bool) → nat_eq size 1 ≡ b
        → ((size ≡ 1) × (op.StoreIndexed r ≡ cond b (op.StoreIndexed r) (op.StoreBlock r size)))
        ⊎ (op.StoreBlock r size ≡ cond b (op.StoreIndexed r) (op.StoreBlock r size))
    by_count true e = inl (number_is size 1 e, refl)
    by_count false e = inr refl

-- a region in which a visible name has its words may be written
pub writes : (v : Visible) (i : Sections) (s : Subprogram) (r : Region) → SuitsStatements v i s → HasPlaceIn v r → writes_region s r ≡ true
writes v i s r suits place =
    suits.writes r (ap (has_region s) (sym place.region) ∙ suits.names.region place.name place.slot place.there)

-- it takes them and the address
pub store_changes : (A : Sections → Subprogram → Type 0) (r : Region) (size : ℕ) (o : Operation)
    → ((i : Sections) (s : Subprogram) → A i s → writes_region s r ≡ true)
    → is_block size ≡ true → StoresAt r size o
    → Changes A o (1 + size) 0
store_changes A r size o written block it = by_count it.is
  where
    by_count : ((size ≡ 1) × (op.StoreIndexed r ≡ o)) ⊎ (op.StoreBlock r size ≡ o) → Changes A o (1 + size) 0
    by_count (inl h) = subst (λ y. Changes A y (1 + size) 0) h.1 (record {
      operands = refl;
      names = written;
      takes = λ i s suits. (let one = h.0 in omega (arith, one));
      leaves = λ i s suits. (let one = h.0 in omega (arith, one));
      stays = refl;
      is_none = refl;
    })
    by_count (inr h) = subst (λ y. Changes A y (1 + size) 0) h (record {
      operands = block;
      names = written;
      takes = λ i s suits. omega arith;
      leaves = λ i s suits. omega arith;
      stays = refl;
      is_none = refl;
    })
