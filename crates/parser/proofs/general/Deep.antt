-- A fault of depth stands at a token that opens a level, behind enough of them.
use Rattle.std.proofs.Common.{◌≡◌, ℕ, zero, suc, ◌+◌, ◌≤◌, Bool, true, false, cond, List, [], ◌∷◌, ◌++◌, length, Option, Some, None, Ok, Err, refl, sym, ap}
use Rattle.std.proofs.Common.{◌∙◌, append_assoc, arith, inl, inr}
use Rattle.lexer.specs.declared.token.Token.{Token}
use Rattle.lexer.specs.declared.token.TokenKind.{TokenKind}
use Rattle.ada_tree.specs.Language.{Tokens, token, token_at}
use Rattle.parser.specs.declared.refusal.Broken.{Broken}
use Rattle.parser.specs.Reading.{Read, Reader, ◌>>=◌, first, refuse, is_kind, is_next, is_first, entry_of, just, token_of, skipped, named, identifier_of, seq}
use Rattle.parser.specs.Reading.{after, mapped, choose, many_at, many, several, separated_by, nothing, checked, closed, opened}
use Rattle.parser.specs.Levels.{opens, openers, IsDeep}
use Rattle.parser.proofs.general.Exact.{Exact, Free, bind_err, chosen, ok_not_err, err_is, entry_fault, is_that_kind}
use Rattle.parser.proofs.general.Several.{exact_skipped, exact_next, next_item, Next, Below}

pub record Deep {A : Type 0} (k : ℕ) (read : Reader A) : Type 0 where
  pub at : (ts : Tokens) (f : Broken) → read ts ≡ Err f → f.deep ≡ true → IsDeep k ts f.left

-- where the next token passes the test
pub record DeepWhere {A : Type 0} (p : Option Token → Bool) (k : ℕ) (read : Reader A) : Type 0 where
  pub at : (ts : Tokens) (f : Broken) → p (first ts) ≡ true → read ts ≡ Err f → f.deep ≡ true → IsDeep k ts f.left

pub deep_where : {A : Type 0} (p : Option Token → Bool) (k : ℕ) (a : Reader A) → Deep k a → DeepWhere p k a
deep_where p k a d = record { at = λ ts f h e is. d.at ts f e is }

openers-append : (a b : Tokens) → openers (a ++ b) ≡ openers a + openers b
openers-append [] b = omega arith
openers-append (x ∷ a) b = omega (arith, openers-append a b)

-- behind more tokens
pub deep_behind : (k m : ℕ) (s r ts : Tokens) (left : ℕ) → ts ≡ s ++ r → m ≤ openers s + k → IsDeep k r left → IsDeep m ts left
deep_behind k m s r ts left e le d =
    (s ++ d.0, d.1, e ∙ ap (λ (z : Tokens). s ++ z) d.2 ∙ sym (append_assoc s d.0 d.1), d.3, d.4, omega (arith, openers-append s d.0, d.5))

-- a token that opens a level counts
pub one_opener : (k : TokenKind) (s : Tokens) → opens k ≡ true → token k s → 1 ≤ openers s
one_opener k s o g =
    let e : openers s ≡ 1 = ap openers g.1 ∙ ap (λ (b : Bool). cond b 1 0 + 0) (ap opens g.2 ∙ o) in
    omega (arith, e)

pub one_opener_at : (k : TokenKind) (place : ℕ) (s : Tokens) → opens k ≡ true → token_at k place s → 1 ≤ openers s
one_opener_at k place s o g = one_opener k s o (g.0, g.1, g.2)

-- ---- readers without levels

pub never_deep : {A : Type 0} (k : ℕ) (read : Reader A) → ((ts : Tokens) (f : Broken) → read ts ≡ Err f → f ≡ record { deep = false; left = length ts })
    → Deep k read
never_deep k read h =
    record {
      at = λ ts f e is.
          let no_depth : f.deep ≡ false = ap (λ (d : Broken). d.deep) (h ts f e) in absurd (cc (is, no_depth));
    }

pub deep_entry : {A : Type 0} (k : ℕ) (f : TokenKind → ℕ → Option A) → Deep k (entry_of f)
deep_entry k f = never_deep k (entry_of f) (entry_fault f)

pub deep_token : (k : ℕ) (kind : TokenKind) → Deep k (token_of kind)
deep_token k kind = deep_entry k (just kind)

pub deep_identifier : (k : ℕ) → Deep k identifier_of
deep_identifier k = deep_entry k named

pub deep_nothing : {A : Type 0} (k : ℕ) (x : A) → Deep k (nothing x)
deep_nothing k x = record { at = λ ts f e is. absurd (ok_not_err _ f e) }

pub deep_skipped : (k : ℕ) (kind : TokenKind) → Deep k (skipped kind)
deep_skipped k kind =
    record {
      at = λ ts f e is.
          elim (bind_err (token_of kind ts) (λ x. Ok (tt, x.1)) f e) [
            | inl w ↦ (deep_token k kind).at ts f w is
            | inr w ↦ absurd (ok_not_err _ f w.2)
          ];
    }

-- ---- what is made of readers

pub deep_mapped : {A B : Type 0} (k : ℕ) (f : A → B) (a : Reader A) → Deep k a → Deep k (mapped f a)
deep_mapped k f a d =
    record {
      at = λ ts e h is.
          elim (bind_err (a ts) (λ x. Ok (f x.0, x.1)) e h) [
            | inl w ↦ d.at ts e w is
            | inr w ↦ absurd (ok_not_err _ e w.2)
          ];
    }

-- the second with k levels, where the first takes enough openers for m
pub deep_seq : {A B : Type 0} (k m : ℕ) (a : Reader A) (b : Reader B) (PA : A → Tokens → Type 0) (SA : A → Option Token → Type 0)
    → Exact a PA SA → Deep m a → Deep k b → ((x : A) (s : Tokens) → PA x s → m ≤ openers s + k) → Deep m (seq a b)
deep_seq k m a b PA SA ea da db more =
    record {
      at = λ ts f h is.
          elim (bind_err (a ts) (λ x. b x.1 >>= λ y. Ok ((x.0, y.0), y.1)) f h) [
            | inl w ↦ da.at ts f w is
            | inr w ↦
                let t = ea.sound ts w.0 w.1 in
                elim (bind_err (b w.0.1) (λ y. Ok ((w.0.0, y.0), y.1)) f w.2) [
                  | inl v ↦ deep_behind k m t.front w.0.1 ts f.left t.parts (more w.0.0 t.front t.spells) (db.at w.0.1 f v is)
                  | inr v ↦ absurd (ok_not_err _ f v.2)
                ]
          ];
    }

-- both with k levels
pub deep_then : {A B : Type 0} (k : ℕ) (a : Reader A) (b : Reader B) (PA : A → Tokens → Type 0) (SA : A → Option Token → Type 0) → Exact a PA SA → Deep k a
    → Deep k b → Deep k (seq a b)
deep_then k a b PA SA ea da db = deep_seq k k a b PA SA ea da db (λ x s g. omega arith)

pub deep_after : {A B : Type 0} (k m : ℕ) (a : Reader A) (b : A → Reader B) (PA : A → Tokens → Type 0) (SA : A → Option Token → Type 0)
    → Exact a PA SA → Deep m a → ((x : A) (s : Tokens) → PA x s → Deep k (b x)) → ((x : A) (s : Tokens) → PA x s → m ≤ openers s + k) → Deep m (after a b)
deep_after k m a b PA SA ea da db more =
    record {
      at = λ ts f h is.
          elim (bind_err (a ts) (λ x. b x.0 x.1) f h) [
            | inl w ↦ da.at ts f w is
            | inr w ↦
                let t = ea.sound ts w.0 w.1 in
                deep_behind k m t.front w.0.1 ts f.left t.parts (more w.0.0 t.front t.spells) ((db w.0.0 t.front t.spells).at w.0.1 f w.2 is)
          ];
    }

pub deep_choose : {A : Type 0} (k : ℕ) (p : Option Token → Bool) (a b : Reader A) → DeepWhere p k a → Deep k b → Deep k (choose p a b)
deep_choose k p a b da db =
    record {
      at = λ ts f h is.
          elim (chosen (p (first ts)) (a ts) (b ts) (Err f) h) [
            | inl w ↦ da.at ts f w.0 w.1 is
            | inr w ↦ db.at ts f w.1 is
          ];
    }

pub deep_choose_where : {A : Type 0} (q : Option Token → Bool) (k : ℕ) (p : Option Token → Bool) (a b : Reader A) → DeepWhere p k a → DeepWhere q k b
    → DeepWhere q k (choose p a b)
deep_choose_where q k p a b da db =
    record {
      at = λ ts f o h is.
          elim (chosen (p (first ts)) (a ts) (b ts) (Err f) h) [
            | inl w ↦ da.at ts f w.0 w.1 is
            | inr w ↦ db.at ts f o w.1 is
          ];
    }

pub deep_closed : {A : Type 0} (k : ℕ) (p : Option Token → Bool) (a : Reader A) → Deep k a → Deep k (closed p a)
deep_closed {A} k p a d =
    record {
      at = λ ts f h is.
          elim (bind_err (a ts) (checked p) f h) [
            | inl w ↦ d.at ts f w is
            | inr w ↦
                elim (chosen (p (first w.0.1)) (refuse false w.0.1) (Ok w.0) (Err f) w.2) [
                  | inl v ↦
                      let same = err_is {A = A × Tokens} (record { deep = false; left = length w.0.1 }) f v.1 in
                      let no_depth : f.deep ≡ false = ap (λ (d : Broken). d.deep) (sym same) in
                      absurd (cc (is, no_depth))
                  | inr v ↦ absurd (ok_not_err _ f v.1)
                ]
          ];
    }

-- ---- lists

module _ {A : Type 0} (k : ℕ) (p : Option Token → Bool) (a : Reader A) (P : A → Tokens → Type 0) (S : A → Option Token → Type 0) (ea : Exact a P S)
    (da : DeepWhere p k a) where
  abbrev more : A × Tokens → ℕ → Read (List A)
  more x n = many_at p a n x.1 >>= λ xs. Ok (x.0 ∷ xs.0, xs.1)

  many_deep : (n : ℕ) (ts : Tokens) (f : Broken) → many_at p a n ts ≡ Err f → f.deep ≡ true → IsDeep k ts f.left
  many_deep zero ts f h is = absurd (ok_not_err _ f h)
  many_deep (suc n) ts f h is =
      elim (chosen (p (first ts)) (a ts >>= λ y. more y n) (Ok ([], ts)) (Err f) h) [
        | inr w ↦ absurd (ok_not_err _ f w.1)
        | inl w ↦
            elim (bind_err (a ts) (λ y. more y n) f w.1) [
              | inl v ↦ da.at ts f w.0 v is
              | inr b ↦
                  elim (bind_err (many_at p a n b.0.1) (λ xs. Ok (b.0.0 ∷ xs.0, xs.1)) f b.2) [
                    | inr c ↦ absurd (ok_not_err _ f c.2)
                    | inl c ↦
                        let t = ea.sound ts b.0 b.1 in
                        deep_behind k k t.front b.0.1 ts f.left t.parts (omega arith) (many_deep n b.0.1 f c is)
                  ]
            ]
      ]

  pub deep_many_where : Deep k (many p a)
  deep_many_where = record { at = λ ts f h is. many_deep (length ts) ts f h is }

pub deep_many : {A : Type 0} (k : ℕ) (p : Option Token → Bool) (a : Reader A) (P : A → Tokens → Type 0) (S : A → Option Token → Type 0) → Exact a P S → Deep k a
    → Deep k (many p a)
deep_many k p a P S ea da = deep_many_where k p a P S ea (deep_where p k a da)

pub deep_several : {A : Type 0} (k : ℕ) (p : Option Token → Bool) (a : Reader A) (P : A → Tokens → Type 0) (S : A → Option Token → Type 0) → Exact a P S
    → Deep k a → Deep k (several p a)
deep_several k p a P S ea da = deep_mapped k _ (seq a (many p a)) (deep_then k a (many p a) P S ea da (deep_many k p a P S ea da))

pub deep_separated : {A : Type 0} (k : ℕ) (kind : TokenKind) (itself : is_kind kind kind ≡ true) (a : Reader A) (P : A → Tokens → Type 0)
    (S : A → Option Token → Type 0)
    (ea : Exact a P S) (goes : (x : A) (o : Option Token) → is_first kind o ≡ true → S x o) → Deep k a → Deep k (separated_by kind a)
deep_separated k kind itself a P S ea goes da =
    let item = next_item kind itself a P S ea goes in
    let deep_item : Deep k item =
    deep_mapped k _ (seq (skipped kind) a) (deep_then k (skipped kind) a (λ _. token kind) Free (exact_skipped kind itself) (deep_skipped k kind) da) in
    deep_mapped k _ (seq a (many (is_first kind) item))
    (deep_then k a (many (is_first kind) item) P S ea da
    (deep_many k (is_first kind) item (Next kind itself a P S ea goes) S (exact_next kind itself a P S ea goes) deep_item))

-- ---- levels

-- no level is left
pub deep_none : {A : Type 0} (ts : Tokens) (f : Broken) → is_next opens (first ts) ≡ true → refuse {A = A} true ts ≡ Err f → IsDeep 0 ts f.left
deep_none {A} ts f o h =
    let same = err_is {A = A × Tokens} (record { deep = true; left = length ts }) f h in
    ([], ts, refl, sym (ap (λ (d : Broken). d.left) same), o, omega arith)

pub deep_opened : {R A : Type 0} (Holds : ℕ → R → Type 0) (p : Option Token → Bool) (k : ℕ) (d : Option R) (f : R → Reader A)
    → ((o : Option Token) → p o ≡ true → is_next opens o ≡ true) → Below Holds k d → ((n : ℕ) (r : R) → Holds n r → Deep (suc n) (f r))
    → DeepWhere p k (opened d f)
deep_opened {A = A} Holds p zero None f opening below df = record { at = λ ts e o h is. deep_none {A = A} ts e (opening (first ts) o) h }
deep_opened Holds p zero (Some r) f opening below df = absurd below
deep_opened Holds p (suc k) None f opening below df = absurd below
deep_opened Holds p (suc k) (Some r) f opening below df = deep_where p (suc k) (f r) (df k r below)

-- a test of one kind that opens a level
pub opening_kind : (k : TokenKind) (o : Option Token) → opens k ≡ true → is_first k o ≡ true → is_next opens o ≡ true
opening_kind k None fact h = absurd cc
opening_kind k (Some t) fact h = ap opens (is_that_kind k t.kind h) ∙ fact
