-- Languages that a limit of levels cuts off at a depth: what holds of one token, one thing after another, and so on.
use Rattle.std.proofs.Common.{ℕ, zero, suc, ◌≤◌, max, Bool, Option, Some, None, List, [], ◌∷◌, arith}
use Rattle.std.proofs.Math.Nat.{le-max_left, le-max_right, max-le}
use Rattle.lexer.specs.declared.token.TokenKind.{TokenKind}
use Rattle.ada_tree.specs.Language.{Tokens, ◌⨾◌, where_true, token, optional, each, separated, Limit, inside}
use Rattle.ada_tree.specs.Depth.{deepest, depth_if_any}

-- With a limit the language has just the lists that it has without one, if its depth is within the limit.
pub record Levels (d : ℕ) (p : Limit → Tokens → Type 0) : Type 0 where
  pub fits : (k : ℕ) (ts : Tokens) → p (Some k) ts → p None ts × (d ≤ k)
  pub holds : (k : ℕ) (ts : Tokens) → p None ts → d ≤ k → p (Some k) ts

-- what no limit has a part in
pub always : {c : Tokens → Type 0} → Levels 0 (λ l. c)
always = record { fits = λ k ts h. (h, omega arith); holds = λ k ts h w. h }

-- what no limit has a part in, and then what one has a part in
pub after : {d : ℕ} {c : Tokens → Type 0} {q : Limit → Tokens → Type 0} → Levels d q → Levels d (λ l. c ⨾ q l)
after b =
    record {
      fits = λ k ts h. let y = b.fits k h.1 h.4 in ((h.0, h.1, h.2, h.3, y.0), y.1);
      holds = λ k ts h w. (h.0, h.1, h.2, h.3, b.holds k h.1 h.4 w);
    }

-- the same the other way round
pub before : {d : ℕ} {c : Tokens → Type 0} {p : Limit → Tokens → Type 0} → Levels d p → Levels d (λ l. p l ⨾ c)
before a =
    record {
      fits = λ k ts h. let x = a.fits k h.0 h.3 in ((h.0, h.1, h.2, x.0, h.4), x.1);
      holds = λ k ts h w. (h.0, h.1, h.2, a.holds k h.0 h.3 w, h.4);
    }

-- the one, and then the other: the deeper one decides
pub both : {d e : ℕ} {p q : Limit → Tokens → Type 0} → Levels d p → Levels e q → Levels (max d e) (λ l. p l ⨾ q l)
both {d} {e} a b =
    record {
      fits = λ k ts h. let x = a.fits k h.0 h.3 in let y = b.fits k h.1 h.4 in ((h.0, h.1, h.2, x.0, y.0), max-le x.1 y.1);
      holds = λ k ts h w.
          let v : d ≤ k = omega (arith, w, le-max_left d e) in
          let z : e ≤ k = omega (arith, w, le-max_right d e) in
          (h.0, h.1, h.2, a.holds k h.0 h.3 v, b.holds k h.1 h.4 z);
    }

-- where a test holds
pub tested : {d : ℕ} {b : Bool} {p : Limit → Tokens → Type 0} → Levels d p → Levels d (λ l. where_true b (p l))
tested a =
    record {
      fits = λ k ts h. let x = a.fits k ts h.1 in ((h.0, x.0), x.1);
      holds = λ k ts h w. (h.0, a.holds k ts h.1 w);
    }

-- three in a row, the first two of which belong together
pub paired : (d e f : ℕ) {p : Limit → Tokens → Type 0} → Levels (max (max d e) f) p → Levels (max d (max e f)) p
paired d e f a =
    record {
      fits = λ k ts h.
          let x = a.fits k ts h in
          let first : d ≤ k = omega (arith, x.1, le-max_left d e, le-max_left (max d e) f) in
          let second : e ≤ k = omega (arith, x.1, le-max_right d e, le-max_left (max d e) f) in
          let third : f ≤ k = omega (arith, x.1, le-max_right (max d e) f) in
          (x.0, max-le first (max-le second third));
      holds = λ k ts h w.
          let first : d ≤ k = omega (arith, w, le-max_left d (max e f)) in
          let second : e ≤ k = omega (arith, w, le-max_left e f, le-max_right d (max e f)) in
          let third : f ≤ k = omega (arith, w, le-max_right e f, le-max_right d (max e f)) in
          a.holds k ts h (max-le (max-le first second) third);
    }

open_fits : {d : ℕ} {p : Limit → Tokens → Type 0} → Levels d p → (k : ℕ) (ts : Tokens) → inside (Some k) p ts → p None ts × (suc d ≤ k)
open_fits a zero ts h = absurd h
open_fits a (suc n) ts h = let x = a.fits n ts h in (x.0, omega (arith, x.1))

open_holds : {d : ℕ} {p : Limit → Tokens → Type 0} → Levels d p → (k : ℕ) (ts : Tokens) → p None ts → suc d ≤ k → inside (Some k) p ts
open_holds a zero ts h w = absurd (omega (arith, w))
open_holds a (suc n) ts h w = a.holds n ts h (omega (arith, w))

-- a level is opened
pub opened : {d : ℕ} {p : Limit → Tokens → Type 0} → Levels d p → Levels (suc d) (λ l. inside l p)
opened a = record { fits = open_fits a; holds = open_holds a }

-- one of them, if there is one
pub any : {A : Type 0} {f : A → ℕ} {p : Limit → A → Tokens → Type 0} → ((a : A) → Levels (f a) (λ l. p l a)) → (o : Option A) → Levels (depth_if_any f o) (λ l. optional (p l) o)
any of None = always
any of (Some a) = of a

-- all of them, in order: the deepest one decides
pub in_order : {A : Type 0} {f : A → ℕ} {p : Limit → A → Tokens → Type 0} → ((a : A) → Levels (f a) (λ l. p l a)) → (all : List A) → Levels (deepest f all) (λ l. each (p l) all)
in_order of [] = always
in_order of (a ∷ rest) = both (of a) (in_order of rest)

-- no list at all
pub none : {c : Limit → Tokens → Type 0} → ((l : Limit) (ts : Tokens) → c l ts → ⊥) → Levels 0 c
none empty = record { fits = λ k ts h. absurd (empty (Some k) ts h); holds = λ k ts h w. absurd (empty None ts h) }

-- one or more of them, with a token between them
pub parted : {A : Type 0} {f : A → ℕ} {p : Limit → A → Tokens → Type 0} (k : TokenKind) → ((a : A) → Levels (f a) (λ l. p l a)) → (all : List A) → Levels (deepest f all) (λ l. separated k (p l) all)
parted k of [] = none (λ l ts h. h)
parted {f = f} {p = p} k of (a ∷ rest) = both (of a) (in_order {f = f} {p = λ l b. token k ⨾ p l b} (λ b. after (of b)) rest)
