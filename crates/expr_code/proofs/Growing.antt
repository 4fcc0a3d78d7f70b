-- Code that grows, and the images that hold it.
use Rattle.std.proofs.Common.{◌≡◌, ℕ, zero, suc, ◌≤◌, List, [], ◌∷◌, ◌++◌, length, Some, refl, ap, ◌∙◌, arith, length-append, take}
use Rattle.std.specs.Prelude.{slice_get}
use Rattle.image.specs.Sections.{Sections}
use Rattle.image.specs.declared.instruction.Operation.{Operation}
use Rattle.expr_code.specs.Views.{At}
use Rattle.expr_code.specs.Code.{Holds, Extends, Adds, here}
use Rattle.expr_code.specs.declared.code.Code.{Code}

pub get_before : {X : Type 0} (xs ys : List X) (k : ℕ) (x : X) → slice_get xs k ≡ Some x → slice_get (xs ++ ys) k ≡ Some x
get_before [] ys k x h = absurd cc
get_before (y ∷ xs) ys zero x h = h
get_before (y ∷ xs) ys (suc k) x h = get_before xs ys k x h

pub get_last : {X : Type 0} (xs : List X) (x : X) → slice_get (xs ++ x ∷ []) (length xs) ≡ Some x
get_last [] x = refl
get_last (y ∷ xs) x = get_last xs x

-- ---- one more instruction

module _ (old new : Code) (depth : ℕ) (o : Operation) (a : Adds old depth o new) where
  pub added_here : here new ≡ suc (here old)
  added_here = ap length a.instructions ∙ (let e = length-append old.instructions.items ((record { depth = depth; operation = o }) ∷ []) in omega (arith, e))

  pub added_extends : Extends old new
  added_extends = record {
    instructions = λ k y le h. ap (λ l. slice_get l k) a.instructions ∙ get_before old.instructions.items ((record { depth = depth; operation = o }) ∷ []) k y h;
    longer = omega (arith, added_here);
    deeper = a.deeper;
  }

  -- it stands where the code ended
  pub added_there : (i : Sections) (from : ℕ) → from ≤ here old → Holds i from new → slice_get i.instructions (here old) ≡ Some (record { depth = depth; operation = o })
  added_there i from le h = h (here old) _ le (ap (λ l. slice_get l (here old)) a.instructions ∙ get_last old.instructions.items _)

  pub added_at : (i : Sections) (from : ℕ) → from ≤ here old → Holds i from new → At i (here old) o
  added_at i from le h = (depth, added_there i from le h)

-- ---- code behind code

pub extends_trans : (a b c : Code) → Extends a b → Extends b c → Extends a c
extends_trans a b c p q = record {
  instructions = λ k x le h. q.instructions k x le (p.instructions k x le h);
  longer = omega (arith, p.longer, q.longer);
  deeper = omega (arith, p.deeper, q.deeper);
}

cut_there : {X : Type 0} (xs ys : List X) → ((k : ℕ) (x : X) → slice_get xs k ≡ Some x → slice_get ys k ≡ Some x) → take (length xs) ys ≡ xs
cut_there [] ys h = refl
cut_there (x ∷ xs) [] h = absurd (let none = h 0 x refl in cc)
cut_there (x ∷ xs) (y ∷ ys) h = ap (λ l. y ∷ l) (cut_there xs ys (λ k z g. h (suc k) z g)) ∙ ap (λ z. z ∷ xs) (same y x (h 0 x refl))
  where
    same : {X : Type 0} (a b : X) → Some a ≡ Some b → a ≡ b
    same a b e = cc

pub cut_back : (a b : Code) → Extends a b → take (here a) b.instructions.items ≡ a.instructions.items
cut_back a b e = cut_there a.instructions.items b.instructions.items (λ k x h. e.instructions k x (omega arith) h)

-- an image that holds the code holds what it was before, and the code from a later place on
pub holds_before : (i : Sections) (from : ℕ) (old new : Code) → Extends old new → Holds i from new → Holds i from old
holds_before i from old new e h = λ k x le g. h k x le (e.instructions k x (omega arith) g)

pub holds_later : (i : Sections) (from mid : ℕ) (c : Code) → from ≤ mid → Holds i from c → Holds i mid c
holds_later i from mid c le h = λ k x up g. h k x (omega (arith, le, up)) g
