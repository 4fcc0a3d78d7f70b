-- Handlers of interrupts one by one, each above the one before.
use Rattle.std.proofs.Common.{◌≡◌, ℕ, ◌+◌, ◌<◌, ◌≤◌, List, [], ◌∷◌, length, drop, get_or, Bool, true, false, ◌&&◌, subst}
use Rattle.std.proofs.Math.ListN.{drop_of_length-le}
use Rattle.image.specs.RuleLaws.{drop-next}
use Rattle.image.specs.Rules.{are_attached, is_attached}
use Rattle.image.specs.Sections.{Sections}
use Rattle.image.specs.declared.attachments.Attachment.{Attachment}

module _ (i : Sections) (xs : List Attachment) (whole : Bool) (last p : ℕ) (left : are_attached i last (drop p xs) ≡ whole) (ys : List Attachment) (same : ys ≡ xs) where
  module _ (d : Attachment) (within : p < length ys) where
    attached_apart : (is_attached i last (get_or ys p d) && are_attached i (get_or ys p d).channel (drop (p + 1) xs)) ≡ whole
    attached_apart =
        let inside : p < length xs = subst (λ v. p < length v) same within in
        let next : drop p xs ≡ get_or ys p d ∷ drop (p + 1) xs = rw same (drop-next xs p d inside) in
        subst (λ v. are_attached i last v ≡ whole) next left

    -- the next one is attached: the others decide
    pub attached-passed : is_attached i last (get_or ys p d) ≡ true → are_attached i (get_or ys p d).channel (drop (p + 1) xs) ≡ whole
    attached-passed e = rw e at attached_apart

    -- it is not: so are all together
    pub attached-failed : is_attached i last (get_or ys p d) ≡ false → false ≡ whole
    attached-failed e = rw e at attached_apart

  pub attached-done : length ys ≤ p → true ≡ whole
  attached-done past =
      let none : drop p xs ≡ [] = drop_of_length-le xs (subst (λ v. length v ≤ p) same past) in
      subst (λ v. are_attached i last v ≡ whole) none left
