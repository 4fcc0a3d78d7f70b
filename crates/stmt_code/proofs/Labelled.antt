-- Labels behind statements are no fewer than those in front of them; and those of lists of statements, of parts of an `if` and of alternatives, one by one.
use Rattle.std.proofs.Common.{◌≡◌, ◌≤◌, ◌+◌, ◌∷◌, ◌++◌, ℕ, zero, suc, List, [], length, length-append, Bool, true, false, Some, refl, sym, ap, ◌∙◌, arith}
use Rattle.std.specs.Prelude.{bytes_eq, if◌then◌else◌, is_some, position, slice_get}
use Rattle.std.specs.List.{list_any}
use Rattle.std.specs.Map.{keys_of}
use Rattle.std.proofs.lemmas.Map.Made.{is_some-lookup}
use Rattle.indexmap.specs.IndexSet.{insert_key}
use Rattle.indexmap.proofs.MapLemmas.{some_index}
use Rattle.expr_code.specs.Code.{StandsFrom}
use Rattle.part_code.specs.Labels.{is_label, with_label}

abbrev Labels : Type 0
Labels = List (List ℕ)

-- a label that is there already, or one more
abbrev either : Labels → List ℕ → Bool → Labels
either l text b = elim b [ true ↦ l | false ↦ l ++ text ∷ [] ]

-- ---- one more

-- a set of texts has it where the list has it
abbrev pairs : Labels → List (List ℕ × ℕ)
pairs [] = []
pairs (k ∷ l) = (k, 0) ∷ pairs l

keys_pairs : (l : Labels) → keys_of (pairs l) ≡ l
keys_pairs [] = refl
keys_pairs (k ∷ l) = ap (λ m. k ∷ m) (keys_pairs l)

any_label : (l : Labels) (text : List ℕ) → list_any (bytes_eq text) l ≡ is_label l text
any_label l text =
    sym (ap (λ m. is_some (position (bytes_eq text) m)) (sym (keys_pairs l)) ∙ some_index (bytes_eq text) (pairs l)
    ∙ is_some-lookup (bytes_eq text) (pairs l) ∙ ap (list_any (bytes_eq text)) (keys_pairs l))

pub label_inserted : (l new : Labels) (text copy : List ℕ) → copy ≡ text → new ≡ insert_key bytes_eq l copy → new ≡ with_label l text
label_inserted l new text copy same is =
    is ∙ ap (insert_key bytes_eq l) same ∙ ap (λ b. if b then l else l ++ text ∷ []) (any_label l text) ∙ by_test (is_label l text)
  where
    by_test : (b : Bool) → (if b then l else l ++ text ∷ []) ≡ either l text b
    by_test true = refl
    by_test false = refl

-- those before it stay
pub label_stays : (l : Labels) (text : List ℕ) → StandsFrom 0 l (with_label l text)
label_stays l text = by_test (is_label l text)
  where
    before : (xs ys : Labels) (k : ℕ) (x : List ℕ) → slice_get xs k ≡ Some x → slice_get (xs ++ ys) k ≡ Some x
    before [] ys k x h = cc
    before (y ∷ xs) ys zero x h = h
    before (y ∷ xs) ys (suc k) x h = before xs ys k x h

    by_test : (b : Bool) → StandsFrom 0 l (either l text b)
    by_test true = λ k x up h. h
    by_test false = λ k x up h. before l (text ∷ []) k x h

-- ---- no fewer

pub label_longer : (l : Labels) (text : List ℕ) → length l ≤ length (with_label l text)
label_longer l text = by_test (is_label l text)
  where
    by_test : (b : Bool) → length l ≤ length (either l text b)
    by_test true = omega arith
    by_test false = let one = length-append l (text ∷ []) in omega (arith, one)
