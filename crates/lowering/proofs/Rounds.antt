-- What rounds of edits keep.
use Rattle.std.proofs.Common.{◌≡◌, ◌∙◌, ℕ, List, Option, Some, IfSome, ap, refl, subst, sym}
use Rattle.std.specs.Global.{Vec}
use Rattle.text_edits.specs.Edits.{IsEdited, line_feeds}
use Rattle.text_edits.proofs.Lines.{edited_lines}
use Rattle.lowering.specs.Lowering.{IsLowered, Round, Same}

pub started : (text now : List ℕ) → now ≡ text → IsLowered text now
started text now is = subst (λ n. IsLowered text n) (sym is) Same

-- what a round finds in the text as it is now
pub next_round : (text now read : List ℕ) (found : Option (Vec ℕ)) (new : Vec ℕ)
    → IsLowered text now → IfSome found (λ n. IsEdited read n.items) → found ≡ Some new → read ≡ now → IsLowered text new.items
next_round text now read found new before edited is same =
    let edit : IsEdited read new.items = subst (λ (f : Option (Vec ℕ)). IfSome f (λ n. IsEdited read n.items)) is edited in
    Round before (subst (λ t. IsEdited t new.items) same edit)

pub lowered_lines : {text new : List ℕ} → IsLowered text new → line_feeds new ≡ line_feeds text
lowered_lines Same = refl
lowered_lines (Round {between = between} before edit) = ap line_feeds edit.is ∙ edited_lines 0 between edit.edits edit.are ∙ lowered_lines before
