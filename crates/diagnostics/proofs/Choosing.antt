-- What may follow is found by asking of one after another.
use Rattle.std.proofs.Common.{◌≡◌, ℕ, List, [], ◌∷◌, ◌++◌, length, arith, ap, sym, subst, inl, inr, ◌∙◌, Bool, get_or, suc, take, ◌+◌, ◌<◌, length-append, append-nil, true, false, nat_eq}
use Rattle.std.specs.Prelude.{Decides}
use Rattle.std.proofs.lemmas.Bool.Decides.{Decides-eqb}
use Rattle.std.proofs.lemmas.List.{append_assoc}
use Rattle.std.proofs.Math.Seq.{take-suc}
use Rattle.ada_tree.specs.Language.{Tokens}
use Rattle.parser.specs.Parsing.{Derives, IsLongestBeginning, NoneGoesOn, SomeBegins}
use Rattle.diagnostics.specs.continuations.Following.{CanFollow, Chosen, IsAsked, NoneLeft, Passed, Taken}
use Rattle.diagnostics.specs.declared.continuations.continuation.Continuation.{Continuation}

-- some tree derives a list that begins with the tokens just where all of them are the longest beginning
pub begins_by_count : (ts : Tokens) (n : ℕ) → IsLongestBeginning ts n → Decides (nat_eq n (length ts)) (SomeBegins ts)
begins_by_count ts n l = by l.front l.back l.parts l.counted l.some l.none
  where
    by : (front back : Tokens) → ts ≡ front ++ back → n ≡ length front → SomeBegins front → NoneGoesOn front back
        → Decides (nat_eq n (length ts)) (SomeBegins ts)
    by front [] parts counted some none =
        let all : ts ≡ front = parts ∙ append-nil front in
        let same : n ≡ length ts = counted ∙ ap length (sym all) in
        (λ e. subst SomeBegins (sym all) some, λ begins. (Decides-eqb n (length ts)).1 same)
    by front (x ∷ rest) parts counted some none = (
      λ e. let same = (Decides-eqb n (length ts)).0 e in absurd (omega (arith, same, counted, ap length parts, length-append front (x ∷ rest))),
      λ begins.
          let joined = ap (λ (z : Tokens). z ++ begins.1) parts ∙ append_assoc front (x ∷ rest) begins.1 in
          absurd (none begins.0 (rest ++ begins.1) (subst (Derives begins.0) joined begins.2)),
    )

chosen_next : (front : Tokens) (cs chosen : List Continuation) (c : Continuation) → CanFollow front c → Chosen front cs chosen
    → Chosen front (cs ++ (c ∷ [])) (chosen ++ (c ∷ []))
chosen_next front _ _ c can NoneLeft = Taken can NoneLeft
chosen_next front _ _ c can (Taken could rest) = Taken could (chosen_next front _ _ c can rest)
chosen_next front _ _ c can (Passed not rest) = Passed not (chosen_next front _ _ c can rest)

passed_next : (front : Tokens) (cs chosen : List Continuation) (c : Continuation) → (CanFollow front c → ⊥) → Chosen front cs chosen
    → Chosen front (cs ++ (c ∷ [])) chosen
passed_next front _ _ c cannot NoneLeft = Passed cannot NoneLeft
passed_next front _ _ c cannot (Taken could rest) = Taken could (passed_next front _ _ c cannot rest)
passed_next front _ _ c cannot (Passed not rest) = Passed not (passed_next front _ _ c cannot rest)

asked_next : (front : Tokens) (cs old new : List Continuation) (c : Continuation) → IsAsked front c old new → Chosen front cs old
    → Chosen front (cs ++ (c ∷ [])) new
asked_next front cs old new c (inl (can, is)) chosen = subst (Chosen front (cs ++ (c ∷ []))) (sym is) (chosen_next front cs old c can chosen)
asked_next front cs old new c (inr (cannot, is)) chosen = subst (Chosen front (cs ++ (c ∷ []))) (sym is) (passed_next front cs old c cannot chosen)

pub cannot_follow : (front : Tokens) (c : Continuation) (b : Bool) → Decides b (CanFollow front c) → b ≡ false → CanFollow front c → ⊥
cannot_follow front c b d is can = let no : true ≡ false = sym (d.1 can) ∙ is in cc

pub one_more : (front : Tokens) (all : List Continuation) (i : ℕ) (d : Continuation) (old new : List Continuation) → i < length all
    → IsAsked front (get_or all i d) old new → Chosen front (take i all) old → Chosen front (take (i + 1) all) new
one_more front all i d old new there asked chosen =
    let count : suc i ≡ i + 1 = omega arith in
    subst (λ n. Chosen front (take n all) new) count
    (subst (λ cs. Chosen front cs new) (sym (take-suc all i d there)) (asked_next front (take i all) old new (get_or all i d) asked chosen))
