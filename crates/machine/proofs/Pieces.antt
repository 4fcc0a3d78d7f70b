-- Pieces that are written in several writes.
use Rattle.std.proofs.Common.{◌≡◌, ℕ, zero, suc, ◌+◌, ◌-◌, ◌≤◌, List, ◌++◌, length, take, drop, Option, Some, None, refl, sym, ap, subst, ◌∙◌, arith, append_assoc, append-nil, length-drop}
use Rattle.std.proofs.Math.Seq.{take-add, take-length}
use Rattle.std.proofs.lemmas.List.{drop-drop}
use Rattle.std.specs.Io.KnownBytes.{Appends}
use Rattle.machine.specs.Written.{failures_of_count}

-- a beginning of the piece was taken, the rest is left, and nothing has failed
pub record Writes (old new : Option (List ℕ)) (before after : ℕ) (piece rest : List ℕ) : Type 0 where
  pub count : ℕ
  pub within : count ≤ length piece
  pub left : rest ≡ drop count piece
  pub appended : Appends old new (take count piece)
  pub kept : after ≡ before

-- nothing more is nothing written
pub Appends-none : (old : Option (List ℕ)) (piece : List ℕ) → Appends old old (take 0 piece)
Appends-none None piece = tt
Appends-none (Some xs) piece = sym (append-nil xs)

-- two beginnings, one after the other
pub Appends-more : (a b c : Option (List ℕ)) (m n : ℕ) (piece : List ℕ) → Appends a b (take m piece) → Appends b c (take n (drop m piece)) → Appends a c (take (m + n) piece)
Appends-more None b c m n piece p q = tt
Appends-more (Some xs) None c m n piece p q = absurd p
Appends-more (Some xs) (Some ys) None m n piece p q = absurd q
Appends-more (Some xs) (Some ys) (Some zs) m n piece p q =
    q ∙ ap (λ v. v ++ take n (drop m piece)) p ∙ append_assoc xs (take m piece) (take n (drop m piece)) ∙ ap (λ v. xs ++ v) (sym (take-add m n piece))

-- one more write, which took `more` of the rest
pub writes_more : (old new next : Option (List ℕ)) (before after later : ℕ) (piece rest : List ℕ) (more : ℕ) → Writes old new before after piece rest → more ≤ length rest → Appends new next (take more rest) → later ≡ after → Writes old next before later piece (take (length rest - more) (drop more rest))
writes_more old new next before after later piece rest more w le app same =
    let n : length rest ≡ length (drop w.count piece) = ap length w.left in
    let le2 : w.count ≤ length piece = w.within in
    let whole_tail : take (length rest - more) (drop more rest) ≡ drop more rest = rw (← length-drop more rest) (take-length (drop more rest)) in
    record { count = w.count + more; within = omega (arith, n, le, le2, length-drop w.count piece); left = whole_tail ∙ ap (drop more) w.left ∙ drop-drop more w.count piece; appended = Appends-more old new next w.count more piece w.appended (subst (λ v. Appends new next (take more v)) w.left app); kept = same ∙ w.kept }

-- nothing was written yet
pub writes_nothing : (old : Option (List ℕ)) (before : ℕ) (piece : List ℕ) → Writes old old before before piece piece
writes_nothing old before piece =
    record { count = 0; within = omega arith; left = refl; appended = Appends-none old piece; kept = refl }

-- a write that took something did not fail
pub failures_of_count-some : (piece : List ℕ) (count : ℕ) → (count ≡ 0 → ⊥) → failures_of_count piece count ≡ 0
failures_of_count-some piece zero h = absurd (h refl)
failures_of_count-some piece (suc n) h = refl
