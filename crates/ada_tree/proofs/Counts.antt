-- How many tokens the lists of a language have at least: one token, one thing after another, and so on.
use Rattle.std.proofs.Common.{◌≡◌, ap, ℕ, zero, suc, ◌≤◌, ◌+◌, Bool, Option, Some, None, List, [], ◌∷◌, ◌++◌, length, length-append, arith}
use Rattle.lexer.specs.declared.token.TokenKind.{TokenKind}
use Rattle.ada_tree.specs.Language.{Tokens, ◌⨾◌, where_true, token, token_at, optional, each, some, separated, Limit, inside}
use Rattle.ada_tree.specs.Size.{total, size_if_any}

-- Each list of the language has at least n tokens.
pub record AtLeast (n : ℕ) (p : Tokens → Type 0) : Type 0 where
  pub within : (ts : Tokens) → p ts → n ≤ length ts

joined : (m n : ℕ) (ts u v : Tokens) → ts ≡ u ++ v → m ≤ length u → n ≤ length v → m + n ≤ length ts
joined m n ts u v e x y = omega (arith, ap length e, length-append u v, x, y)

-- every language
pub free : {p : Tokens → Type 0} → AtLeast 0 p
free = record { within = λ ts h. omega arith }

-- one token
pub one : {k : TokenKind} → AtLeast 1 (token k)
one = record { within = λ ts h. omega (arith, ap length h.1) }

pub one_at : {k : TokenKind} {place : ℕ} → AtLeast 1 (token_at k place)
one_at = record { within = λ ts h. omega (arith, ap length h.1) }

pub fewer : {m n : ℕ} {p : Tokens → Type 0} → AtLeast n p → m ≤ n → AtLeast m p
fewer a h = record { within = λ ts w. omega (arith, a.within ts w, h) }

-- the one, and then the other
pub joins : {m n : ℕ} {p q : Tokens → Type 0} → AtLeast m p → AtLeast n q → AtLeast (m + n) (p ⨾ q)
joins {m} {n} a b = record { within = λ ts h. joined m n ts h.0 h.1 h.2 (a.within h.0 h.3) (b.within h.1 h.4) }

-- the other alone
pub later : {n : ℕ} {p q : Tokens → Type 0} → AtLeast n q → AtLeast n (p ⨾ q)
later b = fewer (joins {m = 0} free b) (omega arith)

-- the one alone
pub sooner : {m : ℕ} {p q : Tokens → Type 0} → AtLeast m p → AtLeast m (p ⨾ q)
sooner a = fewer (joins a free) (omega arith)

pub tested : {n : ℕ} {b : Bool} {p : Tokens → Type 0} → AtLeast n p → AtLeast n (where_true b p)
tested a = record { within = λ ts h. a.within ts h.1 }

-- within a level
pub opened : {n : ℕ} {p : Limit → Tokens → Type 0} → ((l : Limit) → AtLeast n (p l)) → (l : Limit) → AtLeast n (inside l p)
opened a None = a None
opened a (Some zero) = record { within = λ ts h. absurd h }
opened a (Some (suc n)) = a (Some n)

pub any : {A : Type 0} {f : A → ℕ} {p : A → Tokens → Type 0} → ((a : A) → AtLeast (f a) (p a)) → (o : Option A) → AtLeast (size_if_any f o) (optional p o)
any of None = free
any of (Some a) = of a

-- all of them, in order
pub in_order : {A : Type 0} {f : A → ℕ} {p : A → Tokens → Type 0} → ((a : A) → AtLeast (f a) (p a)) → (all : List A) → AtLeast (total f all) (each p all)
in_order of [] = free
in_order of (a ∷ rest) = joins (of a) (in_order of rest)

-- all of them, where each has a token
pub counted : {A : Type 0} {p : A → Tokens → Type 0} → ((a : A) → AtLeast 1 (p a)) → (all : List A) → AtLeast (length all) (each p all)
counted of [] = free
counted of (a ∷ rest) = fewer (joins (of a) (counted of rest)) (omega arith)

-- no list at all
pub none : {n : ℕ} {p : Tokens → Type 0} → ((ts : Tokens) → p ts → ⊥) → AtLeast n p
none empty = record { within = λ ts h. absurd (empty ts h) }

-- one or more of them, where each has a token
pub some_counted : {A : Type 0} {p : A → Tokens → Type 0} → ((a : A) → AtLeast 1 (p a)) → (all : List A) → AtLeast (length all) (some p all)
some_counted of [] = none (λ ts h. h)
some_counted of (a ∷ rest) = counted of (a ∷ rest)

-- one or more of them, with a token between them
pub parted : {A : Type 0} {f : A → ℕ} {p : A → Tokens → Type 0} (k : TokenKind) → ((a : A) → AtLeast (f a) (p a)) → (all : List A) → AtLeast (total f all) (separated k p all)
parted k of [] = none (λ ts h. h)
parted {f = f} {p = p} k of (a ∷ rest) = joins (of a) (in_order {f = f} {p = λ b. token k ⨾ p b} (λ b. later (of b)) rest)

pub parted_counted : {A : Type 0} {p : A → Tokens → Type 0} (k : TokenKind) → ((a : A) → AtLeast 1 (p a)) → (all : List A) → AtLeast (length all) (separated k p all)
parted_counted k of [] = none (λ ts h. h)
parted_counted {p = p} k of (a ∷ rest) = fewer (joins (of a) (counted {p = λ b. token k ⨾ p b} (λ b. later (of b)) rest)) (omega arith)
