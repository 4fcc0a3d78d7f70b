-- A loop reads what `many` reads.
use Rattle.parser.specs.declared.refusal.Refusal.TheVariants as refusals
use Rattle.std.proofs.Common.{rules, ◌≡◌, ℕ, zero, suc, ◌<◌, ◌≤◌, Bool, true, false, List, [], ◌∷◌, ◌++◌, length, map, Option, None, Result, Ok, Err, refl, sym}
use Rattle.std.proofs.Common.{ap, subst, ◌∙◌, append_assoc, arith, length-append}
use Rattle.std.specs.Result.{IsErrAnd}
use Rattle.std.proofs.lemmas.List.{map-append}
use Rattle.lexer.specs.declared.token.Token.{Token}
use Rattle.lexer.specs.declared.token.TokenKind.{TokenKind}
use Rattle.ada_tree.specs.Language.{Tokens}
use Rattle.parser.specs.declared.refusal.Broken.{Broken}
use Rattle.parser.specs.declared.refusal.Refusal.{Refusal}
use Rattle.parser.specs.Reading.{Read, Reader, ◌>>=◌, first, seq, mapped, many_at, many, Fails, Gives, skipped, token_of, nothing}
use Rattle.parser.specs.ExpressionReading.{folded, joined, chained, chain_of, begins, operator_of}
use Rattle.ada_tree.specs.declared.expression.BinaryOperator.{BinaryOperator}
use Rattle.ada_tree.specs.ExpressionTree.{ExprTree}
use Rattle.parser.proofs.general.Exact.{Exact, not_both}

-- the last of a list
abbrev pub pushed : {A : Type 0} → List A → A → List A
pushed xs x = xs ++ (x ∷ [])

pub folded-pushed : {A : Type 0} (xs ys : List A) → folded pushed xs ys ≡ xs ++ ys
folded-pushed xs [] = search rules
folded-pushed xs (y ∷ ys) = folded-pushed (pushed xs y) ys ∙ append_assoc xs (y ∷ []) ys

abbrev pub finished : {A B : Type 0} → (B → A → B) → B → List A × Tokens → Read B
finished step b x = Ok (folded step b x.0, x.1)

-- what a loop has still to read, with b so far
abbrev pub still : {A B : Type 0} → (B → A → B) → (Option Token → Bool) → Reader A → ℕ → B → Tokens → Read B
still step p a n b ts = many_at p a n ts >>= finished step b

module _ {A B : Type 0} (step : B → A → B) (p : Option Token → Bool) (none : p None ≡ false) (a : Reader A) where
  abbrev longer : A → List A × Tokens → Read (List A)
  longer x xs = Ok (x ∷ xs.0, xs.1)

  regroup : (b : B) (x : A) (r : Read (List A)) → (r >>= finished step (step b x)) ≡ ((r >>= longer x) >>= finished step b)
  regroup b x (Ok y) = refl
  regroup b x (Err d) = refl

  pub goes : (n : ℕ) (ts : Tokens) (b : B) (x : A) (after : Tokens) (total : Read B) (made : B) → made ≡ step b x → p (first ts) ≡ true → a ts ≡ Ok (x, after)
      → length after < length ts → length ts ≤ n
      → still step p a n b ts ≡ total → (m : ℕ) × (length after ≤ m) × (still step p a m made after ≡ total)
  goes zero ts b x after total made is test h short le so_far = absurd (omega arith)
  goes (suc n) ts b x after total made is test h short le so_far =
      let one : still step p a (suc n) b ts ≡ ((many_at p a n after >>= longer x) >>= finished step b) = rw (test, h) refl in
      (n, omega arith, ap (λ (z : B). still step p a n z after) is ∙ regroup b x (many_at p a n after) ∙ sym one ∙ so_far)

  pub ends : (n : ℕ) (ts : Tokens) (b : B) (total : Read B) → p (first ts) ≡ false → still step p a n b ts ≡ total → total ≡ Ok (b, ts)
  ends zero ts b total test so_far = sym so_far
  ends (suc n) ts b total test so_far =
      let one : still step p a (suc n) b ts ≡ Ok (b, ts) = rw test refl in
      sym so_far ∙ one

  pub fails : (n : ℕ) (ts : Tokens) (b : B) (f : Broken) (total : Read B) → p (first ts) ≡ true → a ts ≡ Err f → length ts ≤ n → still step p a n b ts ≡ total
      → total ≡ Err f
  fails zero [] b f total test h le so_far = not_both (p None) test none
  fails zero (t ∷ ts) b f total test h le so_far = absurd (omega arith)
  fails (suc n) ts b f total test h le so_far =
      let one : still step p a (suc n) b ts ≡ Err f = rw (test, h) refl in
      sym so_far ∙ one

  -- the same, with what a method returned
  pub gives_up : (n : ℕ) (ts : Tokens) (b : B) (e : Refusal) (total : Read B) → p (first ts) ≡ true → Fails e (a ts) → length ts ≤ n
      → still step p a n b ts ≡ total → Fails e total
  gives_up n ts b refusals.Memory total test h le so_far = tt
  gives_up n ts b (refusals.Broken f) total test h le so_far = fails n ts b f total test h le so_far

-- what `?` hands on
pub handed_on : {X A : Type 0} (view : X → A) (result : Result X Refusal) (after : Tokens) (total : Read A) (e : Refusal) → IsErrAnd result (λ f. f ≡ e)
    → Fails e total → Gives view result after total
handed_on view (Ok x) after total e is h = absurd is
handed_on view (Err f) after total e is h = subst (λ (z : Refusal). Fails z total) (sym is) h

-- ---- lists in vectors

pub map_none : {X A : Type 0} (view : X → A) (xs : List X) → xs ≡ [] → map view xs ≡ []
map_none view xs h = ap (map view) h

pub map_pushed : {X A : Type 0} (view : X → A) (old new : List X) (x : X) → new ≡ old ++ (x ∷ []) → map view new ≡ pushed (map view old) (view x)
map_pushed view old new x h = ap (map view) h ∙ map-append view old (x ∷ [])

pub map_one : {X A : Type 0} (view : X → A) (old new : List X) (x : X) → old ≡ [] → new ≡ old ++ (x ∷ []) → map view new ≡ view x ∷ []
map_one {X = X} view old new x none h = ap (map view) (h ∙ ap (λ (z : List X). z ++ (x ∷ [])) none)

-- a reader leaves no more than it was given
pub no_longer : {A : Type 0} (a : Reader A) (P : A → Tokens → Type 0) (S : A → Option Token → Type 0) (ts : Tokens) (x : A) (after : Tokens) → Exact a P S
    → a ts ≡ Ok (x, after) → length after ≤ length ts
no_longer a P S ts x after ea e =
    let t = ea.sound ts (x, after) e in
    omega (arith, ap length t.parts, length-append t.front after)

-- and less where what it read has a token
pub shorter : {A : Type 0} (a : Reader A) (P : A → Tokens → Type 0) (S : A → Option Token → Type 0) (ts : Tokens) (x : A) (after : Tokens) → Exact a P S
    → ((x : A) (s : Tokens) → P x s → 0 < length s) → a ts ≡ Ok (x, after) → length after < length ts
shorter a P S ts x after ea some e =
    let t = ea.sound ts (x, after) e in
    omega (arith, ap length t.parts, length-append t.front after, some x t.front t.spells)

-- one after the other, read in turn
pub both_read : {A B C : Type 0} (f : A × B → C) (a : Reader A) (b : Reader B) (ts middle after : Tokens) (x : A) (y : B) → a ts ≡ Ok (x, middle)
    → b middle ≡ Ok (y, after) → mapped f (seq a b) ts ≡ Ok (f (x, y), after)
both_read f a b ts middle after x y h i = rw h (rw i refl)

pub first_fails : {A B C : Type 0} (f : A × B → C) (a : Reader A) (b : Reader B) (ts : Tokens) (e : Refusal) → Fails e (a ts) → Fails e (mapped f (seq a b) ts)
first_fails f a b ts refusals.Memory h = tt
first_fails f a b ts (refusals.Broken d) h = rw h refl

pub second_fails : {A B C : Type 0} (f : A × B → C) (a : Reader A) (b : Reader B) (ts middle : Tokens) (x : A) (e : Refusal) → a ts ≡ Ok (x, middle)
    → Fails e (b middle) → Fails e (mapped f (seq a b) ts)
second_fails f a b ts middle x refusals.Memory h i = tt
second_fails f a b ts middle x (refusals.Broken d) h i = rw h (rw i refl)

-- a separator and an item, read in turn
pub next_read : {A : Type 0} (k : TokenKind) (a : Reader A) (ts middle after : Tokens) (place : ℕ) (x : A) → token_of k ts ≡ Ok (place, middle)
    → a middle ≡ Ok (x, after) → mapped (λ x. x.1) (seq (skipped k) a) ts ≡ Ok (x, after)
next_read k a ts middle after place x h i = rw h (rw i refl)

abbrev value_of : {A : Type 0} → A → Read A → A
value_of other (Ok x) = x.0
value_of other (Err d) = other

-- what was made, told as what reading nothing gives
pub made_is : {A : Type 0} (x y : A) (ts after : Tokens) → nothing x ts ≡ Ok (y, after) → y ≡ x
made_is x y ts after h = sym (ap (value_of y) h)

-- ---- how loops start

abbrev both : {A B : Type 0} → B → List A × Tokens → Read (B × List A)
both b y = Ok ((b, y.0), y.1)

abbrev whole : {A B : Type 0} → (B → A → B) → (B × List A) × Tokens → Read B
whole step x = Ok (folded step x.0.0 x.0.1, x.1)

both_whole : {A B : Type 0} (step : B → A → B) (b : B) (r : Read (List A)) → (r >>= finished step b) ≡ ((r >>= both b) >>= whole step)
both_whole step b (Ok x) = refl
both_whole step b (Err d) = refl

-- behind the first
pub fold_starts : {A B : Type 0} (step : B → A → B) (p : Option Token → Bool) (a : Reader A) (head : Reader B) (ts : Tokens) (b : B) (after : Tokens)
    → head ts ≡ Ok (b, after)
    → (n : ℕ) × (length after ≤ n) × (still step p a n b after ≡ mapped (λ x. folded step x.0 x.1) (seq head (many p a)) ts)
fold_starts step p a head ts b after h = (length after, omega arith, both_whole step b (many_at p a (length after) after) ∙ sym (rw h refl))

-- the first operand read, then what follows it
pub chain_read : (f : TokenKind → Option BinaryOperator) (a b : Reader ExprTree) (ts : Tokens) (left : ExprTree) (middle : Tokens) → a ts ≡ Ok (left, middle)
    → chain_of a f b ts ≡ chained f b left middle
chain_read f a b ts left middle h = rw h (sym (both_whole joined left (many (begins f) (seq (operator_of f) b) middle)))

abbrev as_read : {A : Type 0} → List A × Tokens → Read (List A)
as_read x = Ok (x.0, x.1)

pushed_all : {A : Type 0} (r : Read (List A)) → (r >>= finished pushed []) ≡ r
pushed_all (Ok x) = ap (λ z. Ok (z, x.1)) (folded-pushed [] x.0)
pushed_all (Err d) = refl

-- a list from nothing
pub many_starts : {A : Type 0} (p : Option Token → Bool) (a : Reader A) (ts : Tokens) (xs : List A) → xs ≡ []
    → (n : ℕ) × (length ts ≤ n) × (still pushed p a n xs ts ≡ many p a ts)
many_starts p a ts xs none = (length ts, omega arith, ap (λ z. still pushed p a (length ts) z ts) none ∙ pushed_all (many_at p a (length ts) ts))

abbrev consed : {A : Type 0} → (A × List A) × Tokens → Read (List A)
consed x = Ok (x.0.0 ∷ x.0.1, x.1)

pushed_behind : {A : Type 0} (x : A) (r : Read (List A)) → (r >>= finished pushed (x ∷ [])) ≡ ((r >>= both x) >>= consed)
pushed_behind x (Ok y) = ap (λ z. Ok (z, y.1)) (folded-pushed (x ∷ []) y.0)
pushed_behind x (Err d) = refl

-- a list behind its first
pub list_starts : {A : Type 0} (p : Option Token → Bool) (a : Reader A) (head : Reader A) (ts : Tokens) (x : A) (after : Tokens) (xs : List A)
    → head ts ≡ Ok (x, after) → xs ≡ x ∷ []
    → (n : ℕ) × (length after ≤ n) × (still pushed p a n xs after ≡ mapped (λ x. x.0 ∷ x.1) (seq head (many p a)) ts)
list_starts p a head ts x after xs h is =
    (length after, omega arith, ap (λ z. still pushed p a (length after) z after) is ∙ pushed_behind x (many_at p a (length after) after) ∙ sym (rw h refl))
