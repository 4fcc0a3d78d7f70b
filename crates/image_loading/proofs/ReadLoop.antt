-- Reading elements one after the other, as a loop does.
use Rattle.std.proofs.Common.{◌≡◌, ℕ, suc, ◌-◌, ◌+◌, ◌≤◌, ◌<◌, List, [], ◌∷◌, ◌++◌, Option, Some, None, refl, sym, ap, ◌∙◌, append_assoc, arith}
use Rattle.std.proofs.lemmas.List.{append-nil}
use Rattle.image_loading.specs.declared.reading.Unread.{Unread}
use Rattle.image_loading.specs.declared.reading.Unread.TheVariants.{Memory, Short}
use Rattle.image_loading.specs.Reading.{ByteReading, made, read_many}
use Rattle.image_loading.specs.ReadResults.{FailsToRead}

-- what was read before, and what is still read
abbrev pub with_front : {X : Type 0} → List X → Option (List X × List ℕ) → Option (List X × List ℕ)
with_front front read = made (λ xs. front ++ xs) read

module _ {X : Type 0} (read : ByteReading X) where
  regroup : (front : List X) (x : X) (left : Option (List X × List ℕ)) → with_front front (made (λ xs. x ∷ xs) left) ≡ with_front (front ++ x ∷ []) left
  regroup front x (Some y) = ap (λ xs. Some (xs, y.1)) (sym (append_assoc front (x ∷ []) y.0))
  regroup front x None = refl

  pub goes_on : (front : List X) (count i : ℕ) (bytes : List ℕ) (x : X) (after : List ℕ) (total : Option (List X × List ℕ)) → i < count → read bytes ≡ Some (x, after)
      → with_front front (read_many read (count - i) bytes) ≡ total → with_front (front ++ x ∷ []) (read_many read (count - (i + 1)) after) ≡ total
  unfolding read_many
  goes_on front count i bytes x after total lt h so_far =
      let k : count - i ≡ suc (count - (i + 1)) = omega arith in
      let one : with_front front (read_many read (count - i) bytes) ≡ with_front (front ++ x ∷ []) (read_many read (count - (i + 1)) after) = rw (k, h) (regroup front x (read_many read (count - (i + 1)) after)) in
      sym one ∙ so_far

  pub ends : (e : Unread) (front : List X) (count i : ℕ) (bytes : List ℕ) (total : Option (List X × List ℕ)) → i < count → FailsToRead e (read bytes) → with_front front (read_many read (count - i) bytes) ≡ total → FailsToRead e total
  unfolding read_many
  ends Memory front count i bytes total lt h so_far = tt
  ends Short front count i bytes total lt h so_far =
      let k : count - i ≡ suc (count - (i + 1)) = omega arith in
      let one : with_front front (read_many read (count - i) bytes) ≡ None = rw (k, h) refl in
      sym so_far ∙ one

  pub is_done : (front : List X) (count i : ℕ) (bytes : List ℕ) (total : Option (List X × List ℕ)) → count ≤ i → with_front front (read_many read (count - i) bytes) ≡ total → total ≡ Some (front, bytes)
  unfolding read_many
  is_done front count i bytes total le so_far =
      let k : count - i ≡ 0 = omega arith in
      let one : with_front front (read_many read (count - i) bytes) ≡ Some (front, bytes) = rw k (ap (λ xs. Some (xs, bytes)) (append-nil front)) in
      sym so_far ∙ one
