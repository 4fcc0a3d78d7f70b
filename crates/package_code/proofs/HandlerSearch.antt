-- The handler of a channel is the first one that is found.
use Rattle.std.proofs.Common.{◌≡◌, ◌+◌, ◌<◌, ℕ, suc, List, [], ◌∷◌, ◌++◌, append_assoc, drop, length, Option, Some, None, refl, sym, ap, ◌∙◌, arith}
use Rattle.std.specs.Prelude.{get_or}
use Rattle.types.specs.Places.{or_else}
use Rattle.types.specs.Scopes.{Scope}
use Rattle.ada_tree.specs.ProgramTree.{PackageTree}
use Rattle.image.specs.declared.attachments.Attachment.{Attachment}
use Rattle.expr_soundness.specs.meaning.specs.Programs.{Attached}
use Rattle.package_code.specs.Handlers.{attachments_from, handler_of_package, handler_told, number_or_none, with_attachment}
use Rattle.package_code.specs.declared.directory.Directory.{Directory}
use Rattle.std.proofs.lemmas.List.{at_drop_more}

module _ {X : Type 0} (s : Scope) (d : Directory) (found : List X → Option Attached) (one : X → Option Attached)
    (next : (x : X) (rest : List X) → found (x ∷ rest) ≡ or_else (one x) (found rest)) (all : List X) (n : ℕ) (x : X) (less : n < length all)
    (is : x ≡ get_or all n x) (before : handler_told s d (found (drop n all)) ≡ handler_told s d (found all)) where
  step : handler_told s d (found all) ≡ handler_told s d (or_else (one x) (found (drop (n + 1) all)))
  step =
      sym before ∙ ap (handler_told s d)
      (at_drop_more found all n x less ∙ ap (λ y. found (y ∷ drop (n + 1) all)) (sym is) ∙ next x (drop (n + 1) all))

  -- it is found here
  pub first_found : (number : Option ℕ) → handler_told s d (one x) ≡ Some number → Some number ≡ handler_told s d (found all)
  first_found number h = by_one (one x) refl h
    where
      by_one : (o : Option Attached) → one x ≡ o → handler_told s d o ≡ Some number → Some number ≡ handler_told s d (found all)
      by_one (Some a) there h = sym h ∙ sym (step ∙ ap (λ o. handler_told s d (or_else o (found (drop (n + 1) all)))) there)
      by_one None there h = cc

  -- ... or behind
  pub none_first : handler_told s d (one x) ≡ None → handler_told s d (found (drop (n + 1) all)) ≡ handler_told s d (found all)
  none_first h = by_one (one x) refl h
    where
      by_one : (o : Option Attached) → one x ≡ o → handler_told s d o ≡ None → handler_told s d (found (drop (n + 1) all)) ≡ handler_told s d (found all)
      by_one (Some a) there h = cc
      by_one None there h = sym (step ∙ ap (λ o. handler_told s d (or_else o (found (drop (n + 1) all)))) there)

-- ---- all channels

-- the next one has a handler, or has none
pub attached_next : (s : Scope) (d : Directory) (p : Option PackageTree) (done : List Attachment) (channel many number : ℕ)
    → number_or_none (handler_told s d (handler_of_package s channel p)) ≡ Some number
    → (done ++ (let a : Attachment = record { channel = channel; subprogram = number } in a) ∷ []) ++ attachments_from s d p (channel + 1) many
    ≡ done ++ attachments_from s d p channel (suc many)
attached_next s d p done channel many number is =
    let a : Attachment = record { channel = channel; subprogram = number } in
    let next : channel + 1 ≡ suc channel = omega arith in
    append_assoc done (a ∷ []) (attachments_from s d p (channel + 1) many)
    ∙ ap (λ c. done ++ (a ∷ attachments_from s d p c many)) next
    ∙ ap (λ o. done ++ with_attachment channel o (attachments_from s d p (suc channel) many)) (sym is)

pub attached_past : (s : Scope) (d : Directory) (p : Option PackageTree) (done : List Attachment) (channel many : ℕ)
    → number_or_none (handler_told s d (handler_of_package s channel p)) ≡ None
    → done ++ attachments_from s d p (channel + 1) many ≡ done ++ attachments_from s d p channel (suc many)
attached_past s d p done channel many is =
    let next : channel + 1 ≡ suc channel = omega arith in
    ap (λ c. done ++ attachments_from s d p c many) next
    ∙ ap (λ o. done ++ with_attachment channel o (attachments_from s d p (suc channel) many)) (sym is)
