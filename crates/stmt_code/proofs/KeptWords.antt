-- The word of a frame in which a handler keeps its exception: it is none of a visible object's, and what is visible is laid out beside it. Code of which each
-- instruction keeps the rules of images, one part after another.
use Rattle.std.proofs.Common.{◌≡◌, ℕ, ◌+◌, ◌<◌, ◌≤◌, Bool, true, false, Some, refl, arith, rules, ◌⊎◌, inl, inr}
use Rattle.std.specs.Prelude.{nat_eq, nat_lt, slice_get}
use Rattle.image.specs.Sections.{Sections}
use Rattle.image.specs.declared.instruction.Instr.{Instr}
use Rattle.image.specs.declared.subprograms.Subprogram.{Subprogram}
use Rattle.types.specs.Layouts.{words_of}
use Rattle.types.specs.Places.{is_among}
use Rattle.expr_soundness.specs.meaning.specs.Programs.{Program}
use Rattle.expr_code.specs.Flows.{KeepsInstructionRules}
use Rattle.expr_code.specs.Seeing.{Package}
use Rattle.part_code.specs.Layout.{IsFree, IsLaidOut}
use Rattle.part_code.specs.Resting.{Framed}
use Rattle.part_code.specs.Statements.{Numbers}
use Rattle.part_code.proofs.Lists.{one_of}
use Rattle.stmt_code.specs.Covering.{AreEachKept}
use Rattle.stmt_code.specs.Emitting.{Serves}
use Rattle.stmt_code.proofs.ExceptionWords.{reserving}
use Rattle.stmt_code.proofs.Parameters.{IsUnseen, free_one_more}

-- ---- a word of the frame for the exception

pub lt_true : (a b : ℕ) → a < b → nat_lt a b ≡ true
lt_true a b h = search rules

eq_is : (a b : ℕ) → nat_eq a b ≡ true → a ≡ b
eq_is a b h = search rules

module _ (program : Program) (g : Package) (numbers : Numbers) (f : Framed) (taken word : ℕ) (serves : Serves program g numbers f taken)
    (word_is : word ≡ taken) where
  pub unseen : IsUnseen f word
  unseen name x r t told local named = inr (let e = serves.ends name x r t told local named in omega (arith, e, word_is))

  pub spare_word : IsFree f.reserved word 1
  spare_word n among = inl (let less = serves.below n among in omega (arith, less, word_is))

  laid_reserving : IsLaidOut g (reserving word f)
  laid_reserving = record {
    unit = serves.laid.unit;
    laid = serves.laid.laid;
    shared = serves.laid.shared;
    own = serves.laid.own;
    free = λ name x r t told local named variable.
        free_one_more word f.reserved x.offset (words_of f.names.scope t) (unseen name x r t told local named)
        (serves.laid.free name x r t told local named variable);
    slots = serves.laid.slots;
    subprograms = serves.laid.subprograms;
  }

  pub serves_reserving : (more : ℕ) → more ≡ taken + 1 → Serves program g numbers (reserving word f) more
  serves_reserving more is = record {
    finds = serves.finds;
    numbered = serves.numbered;
    externals = serves.externals;
    entries = serves.entries;
    scope = serves.scope;
    place = serves.place;
    here = serves.here;
    agrees = serves.agrees;
    laid = laid_reserving;
    ends = λ name x r t told local named. (let e = serves.ends name x r t told local named in omega (arith, e, is));
    below = λ n among. by_word n (one_of (nat_eq word n) (is_among f.reserved n) among);
  }
    where
      by_word : (n : ℕ) → (nat_eq word n ≡ true) ⊎ (is_among f.reserved n ≡ true) → n < more
      by_word n (inl e) = (let same = eq_is word n e in omega (arith, same, word_is, is))
      by_word n (inr e) = (let less = serves.below n e in omega (arith, less, is))

-- ---- code

either_side : (k n : ℕ) → (k < n) ⊎ (n ≤ k)
either_side k n = by_test (nat_lt k n) refl
  where
    lt_of : (k n : ℕ) → nat_lt k n ≡ true → k < n
    lt_of k n e = search rules

    le_of : (k n : ℕ) → nat_lt k n ≡ false → n ≤ k
    le_of k n e = search rules

    by_test : (t : Bool) → nat_lt k n ≡ t → (k < n) ⊎ (n ≤ k)
    by_test true e = inl (lt_of k n e)
    by_test false e = inr (le_of k n e)

pub each_then : (i : Sections) (s : Subprogram) (low high from mid to : ℕ) → AreEachKept i s low high from mid → AreEachKept i s low high mid to
    → AreEachKept i s low high from to
each_then i s low high from mid to first second = λ k x le less is. by k x le less is (either_side k mid)
  where
    by : (k : ℕ) (x : Instr) → from ≤ k → k < to → slice_get i.instructions k ≡ Some x → (k < mid) ⊎ (mid ≤ k) → KeepsInstructionRules i s low high k x
    by k x le less is (inl small) = first k x le small is
    by k x le less is (inr large) = second k x large less is
