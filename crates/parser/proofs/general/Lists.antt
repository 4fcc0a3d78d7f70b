-- Loops that read a list into a vector.
use Rattle.parser.specs.declared.refusal.Refusal.TheVariants as refusals
use Rattle.std.proofs.Common.{◌≡◌, ℕ, ◌<◌, ◌≤◌, Bool, true, false, List, [], ◌∷◌, ◌++◌, length, map, Option, None, Ok, refl, sym, ap, subst, ◌∙◌, arith}
use Rattle.std.proofs.Common.{length-append}
use Rattle.lexer.specs.declared.token.Token.{Token}
use Rattle.ada_tree.specs.Language.{Tokens}
use Rattle.parser.specs.declared.refusal.Refusal.{Refusal}
use Rattle.lexer.specs.declared.token.TokenKind.{TokenKind}
use Rattle.parser.specs.Reading.{Read, Reader, first, mapped, seq, token_of, skipped, many, Fails}
use Rattle.parser.proofs.general.Exact.{Exact, not_both}
use Rattle.parser.proofs.general.Loops.{still, pushed, goes, ends, fails, many_starts, list_starts}

-- each turn takes a token, and none is made at the end
pub record Shrinking {A : Type 0} (p : Option Token → Bool) (a : Reader A) : Type 0 where
  pub none : p None ≡ false
  pub shrinks : (ts : Tokens) (x : A) (rest : Tokens) → a ts ≡ Ok (x, rest) → length rest < length ts

some_token : (p : Option Token → Bool) → p None ≡ false → (s r : Tokens) → p (first (s ++ [])) ≡ true → length r < length (s ++ r)
some_token p none [] r h = not_both (p None) h none
some_token p none (t ∷ s) r h = omega (arith, length-append s r)

pub shrinking : {A : Type 0} {a : Reader A} {P : A → Tokens → Type 0} {S : A → Option Token → Type 0} (p : Option Token → Bool) → Exact a P S
    → ((x : A) (s r : Tokens) → P x s → p (first (s ++ r)) ≡ true) → p None ≡ false → Shrinking p a
shrinking p ea heads none =
    record {
      none = none;
      shrinks = λ ts x rest e.
          let t = ea.sound ts (x, rest) e in
          subst (λ (z : Tokens). length rest < length z) (sym t.parts) (some_token p none t.front rest (heads x t.front [] t.spells));
    }

map_push : {V A : Type 0} (view : V → A) (xs : List V) (v : V) → map view (xs ++ (v ∷ [])) ≡ pushed (map view xs) (view v)
map_push view [] v = refl
map_push view (x ∷ xs) v = ap (λ z. view x ∷ z) (map_push view xs v)

module _ {V A : Type 0} (view : V → A) (p : Option Token → Bool) (a : Reader A) (turn : Shrinking p a) where
  pub list_starts_empty : (ts : Tokens) (items : List V) → items ≡ [] → (n : ℕ) × (length ts ≤ n) × (still pushed p a n (map view items) ts ≡ many p a ts)
  list_starts_empty ts items e = many_starts p a ts (map view items) (ap (map view) e)

  -- behind the first, which a reader of its own has read
  pub list_starts_behind : (head : Reader A) (ts : Tokens) (v : V) (after : Tokens) (old items : List V) → head ts ≡ Ok (view v, after) → old ≡ []
      → items ≡ old ++ (v ∷ [])
      → (n : ℕ) × (length after ≤ n) × (still pushed p a n (map view items) after ≡ mapped (λ x. x.0 ∷ x.1) (seq head (many p a)) ts)
  list_starts_behind head ts v after old items h none push =
      list_starts p a head ts (view v) after (map view items) h (ap (map view) (push ∙ ap (λ (z : List V). z ++ (v ∷ [])) none))

  pub list_goes : (n : ℕ) (ts : Tokens) (old items : List V) (v : V) (after : Tokens) (total : Read (List A)) → items ≡ old ++ (v ∷ []) → p (first ts) ≡ true
      → a ts ≡ Ok (view v, after) → length ts ≤ n
      → still pushed p a n (map view old) ts ≡ total → (m : ℕ) × (length after ≤ m) × (still pushed p a m (map view items) after ≡ total)
  list_goes n ts old items v after total push test h le so_far =
      goes pushed p turn.none a n ts (map view old) (view v) after total (map view items) (ap (map view) push ∙ map_push view old v) test h
      (turn.shrinks ts (view v) after h) le so_far

  pub list_ends : (n : ℕ) (ts : Tokens) (items : List V) (total : Read (List A)) → p (first ts) ≡ false → still pushed p a n (map view items) ts ≡ total
      → total ≡ Ok (map view items, ts)
  list_ends n ts items total test so_far = ends pushed p turn.none a n ts (map view items) total test so_far

  pub list_fails : (n : ℕ) (ts : Tokens) (items : List V) (e : Refusal) (total : Read (List A)) → p (first ts) ≡ true → Fails e (a ts) → length ts ≤ n
      → still pushed p a n (map view items) ts ≡ total → Fails e total
  list_fails n ts items refusals.Memory total test h le so_far = tt
  list_fails n ts items (refusals.Broken f) total test h le so_far = fails pushed p turn.none a n ts (map view items) f total test h le so_far

-- the same for a vector of what is read itself
module _ {A : Type 0} (p : Option Token → Bool) (a : Reader A) (turn : Shrinking p a) where
  pub plain_starts_behind : (head : Reader A) (ts : Tokens) (v : A) (after : Tokens) (old items : List A) → head ts ≡ Ok (v, after) → old ≡ []
      → items ≡ old ++ (v ∷ [])
      → (n : ℕ) × (length after ≤ n) × (still pushed p a n items after ≡ mapped (λ x. x.0 ∷ x.1) (seq head (many p a)) ts)
  plain_starts_behind head ts v after old items h none push = list_starts p a head ts v after items h (push ∙ ap (λ (z : List A). z ++ (v ∷ [])) none)

  pub plain_goes : (n : ℕ) (ts : Tokens) (old items : List A) (v : A) (after : Tokens) (total : Read (List A)) → items ≡ old ++ (v ∷ []) → p (first ts) ≡ true
      → a ts ≡ Ok (v, after) → length ts ≤ n
      → still pushed p a n old ts ≡ total → (m : ℕ) × (length after ≤ m) × (still pushed p a m items after ≡ total)
  plain_goes n ts old items v after total push test h le so_far =
      goes pushed p turn.none a n ts old v after total items push test h (turn.shrinks ts v after h) le so_far

  pub plain_ends : (n : ℕ) (ts : Tokens) (items : List A) (total : Read (List A)) → p (first ts) ≡ false → still pushed p a n items ts ≡ total
      → total ≡ Ok (items, ts)
  plain_ends n ts items total test so_far = ends pushed p turn.none a n ts items total test so_far

  pub plain_fails : (n : ℕ) (ts : Tokens) (items : List A) (e : Refusal) (total : Read (List A)) → p (first ts) ≡ true → Fails e (a ts) → length ts ≤ n
      → still pushed p a n items ts ≡ total → Fails e total
  plain_fails n ts items refusals.Memory total test h le so_far = tt
  plain_fails n ts items (refusals.Broken f) total test h le so_far = fails pushed p turn.none a n ts items f total test h le so_far

-- an item behind its separator
pub next_reads : {A : Type 0} (k : TokenKind) (a : Reader A) (ts : Tokens) (place : ℕ) (between : Tokens) (x : A) (after : Tokens)
    → token_of k ts ≡ Ok (place, between) → a between ≡ Ok (x, after)
    → mapped (λ x. x.1) (seq (skipped k) a) ts ≡ Ok (x, after)
next_reads k a ts place between x after h g = rw (h, g) refl

pub next_fails : {A : Type 0} (k : TokenKind) (a : Reader A) (ts : Tokens) (place : ℕ) (between : Tokens) (e : Refusal) → token_of k ts ≡ Ok (place, between)
    → Fails e (a between) → Fails e (mapped (λ x. x.1) (seq (skipped k) a) ts)
next_fails k a ts place between refusals.Memory h g = tt
next_fails k a ts place between (refusals.Broken f) h g = rw (h, g) refl
