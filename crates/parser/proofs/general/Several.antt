-- Readers of lists, of tokens of one kind and of what stands a level down are exact, and what a first token tells of a list.
use Rattle.lexer.specs.declared.token.TokenKind.TheVariants as kinds
use Rattle.std.proofs.Common.{◌≡◌, ℕ, zero, suc, ◌<◌, ◌≤◌, Bool, true, false, cond, List, [], ◌∷◌, ◌++◌, length, Option, Some, None, Ok, Err, refl, sym, ap}
use Rattle.std.proofs.Common.{subst, ◌∙◌, append_assoc, arith, inl, inr, length-append}
use Rattle.std.specs.Prelude.{◌||◌}
use Rattle.lexer.specs.declared.token.Token.{Token}
use Rattle.lexer.specs.declared.token.TokenKind.{TokenKind}
use Rattle.ada_tree.specs.declared.expression.Identifier.{Identifier}
use Rattle.ada_tree.specs.Language.{Tokens, ◌⨾◌, token_at, identifier, each, some, separated, token, Limit, inside}
use Rattle.parser.specs.declared.refusal.Broken.{Broken}
use Rattle.parser.specs.Reading.{Read, Reader, ◌>>=◌, first, is_kind, is_next, is_first, just, token_of, skipped, named, identifier_of, seq, mapped, many_at}
use Rattle.parser.specs.Reading.{many, several, separated_by, opened}
use Rattle.parser.proofs.general.Exact.{Took, Exact, Free, Both, bind_ok, bind_err}
use Rattle.parser.proofs.general.Exact.{chosen, ok_is, ok_not_err, not_both, first-append, regrouped, is_that_kind, entry, exact_entry, exact_seq, exact_mapped}
use Rattle.parser.proofs.general.Exact.{exact_told, exact_refuse}

-- ---- as long as the next token passes a test

-- what cannot follow a list: what begins one more; and what the last one cannot be followed by
abbrev pub LastStops : {A : Type 0} → (Option Token → Bool) → (A → Option Token → Type 0) → List A → Option Token → Type 0
LastStops p S [] o = p o ≡ false
LastStops p S (x ∷ []) o = (p o ≡ false) × S x o
LastStops p S (x ∷ (y ∷ ys)) o = LastStops p S (y ∷ ys) o

module _ {A : Type 0} (p : Option Token → Bool) (a : Reader A) (P : A → Tokens → Type 0) (S : A → Option Token → Type 0)
    (ea : Exact a P S)
    (heads : (x : A) (s r : Tokens) → P x s → p (first (s ++ r)) ≡ true)
    (goes : (x : A) (o : Option Token) → p o ≡ true → S x o)
    (none : p None ≡ false) where
  longer_list : (s r : Tokens) → p (first (s ++ [])) ≡ true → length r < length (s ++ r)
  longer_list [] r h = not_both (p None) h none
  longer_list (t ∷ s) r h = omega (arith, length-append s r)

  longer : (x : A) (s r : Tokens) → P x s → length r < length (s ++ r)
  longer x s r g = longer_list s r (heads x s [] g)

  -- each item takes a token
  pub shrinks : (ts : Tokens) (x : A) (rest : Tokens) → a ts ≡ Ok (x, rest) → length rest < length ts
  shrinks ts x rest e =
      let t = ea.sound ts (x, rest) e in
      subst (λ (z : Tokens). length rest < length z) (sym t.parts) (longer x t.front rest t.spells)

  empty : (ts : Tokens) → length ts ≤ 0 → p (first ts) ≡ false
  empty [] le = none
  empty (t ∷ ts) le = absurd (omega arith)

  abbrev All : List A → Tokens → Type 0
  All = each P

  -- what follows the items xs stops the one before them
  item_stops : (xs : List A) (x : A) (s r : Tokens) → All xs s → LastStops p S (x ∷ xs) (first r) → S x (first (s ++ r))
  item_stops [] x s r g st = subst (λ (z : Tokens). S x (first (z ++ r))) (sym g) st.1
  item_stops (y ∷ xs) x s r g st =
      goes x (first (s ++ r)) (ap (λ (z : Tokens). p (first (z ++ r))) g.2 ∙ ap (λ (z : Tokens). p (first z)) (append_assoc g.0 g.1 r)
      ∙ heads y g.0 (g.1 ++ r) g.3)

  last_stops : (xs : List A) (x : A) (s r : Tokens) → All xs s → S x (first (s ++ r)) → LastStops p S xs (first r) → LastStops p S (x ∷ xs) (first r)
  last_stops [] x s r g st h = (h, subst (λ (z : Tokens). S x (first (z ++ r))) g st)
  last_stops (y ∷ xs) x s r g st h = h

  rest_stops : (xs : List A) (x : A) (o : Option Token) → LastStops p S (x ∷ xs) o → LastStops p S xs o
  rest_stops [] x o s = s.0
  rest_stops (y ∷ xs) x o s = s

  abbrev more : A × Tokens → ℕ → Read (List A)
  more x n = many_at p a n x.1 >>= λ xs. Ok (x.0 ∷ xs.0, xs.1)

  many_sound : (n : ℕ) (ts : Tokens) (x : List A × Tokens) → length ts ≤ n → many_at p a n ts ≡ Ok x → Took All (LastStops p S) ts x
  many_sound zero ts x le e =
      subst (λ (z : List A × Tokens). Took All (LastStops p S) ts z) (ok_is ([], ts) x e)
      (record { front = []; spells = refl; parts = refl; stops = empty ts le })
  many_sound (suc n) ts x le e =
      elim (chosen (p (first ts)) (a ts >>= λ y. more y n) (Ok ([], ts)) (Ok x) e) [
        | inl w ↦
            let b = bind_ok (a ts) (λ y. more y n) x w.1 in
            let t = ea.sound ts b.0 b.1 in
            let c = bind_ok (many_at p a n b.0.1) (λ xs. Ok (b.0.0 ∷ xs.0, xs.1)) x b.2 in
            let l : length b.0.1 < length ts = subst (λ (z : Tokens). length b.0.1 < length z) (sym t.parts) (longer b.0.0 t.front b.0.1 t.spells) in
            let u = many_sound n b.0.1 c.0 (omega arith) c.1 in
            let made : List A × Tokens = (b.0.0 ∷ c.0.0, c.0.1) in
            subst (λ (z : List A × Tokens). Took All (LastStops p S) ts z) (ok_is made x c.2)
            (record {
              front = t.front ++ u.front;
              spells = (t.front, u.front, refl, t.spells, u.spells);
              parts = regrouped _ _ t.front u.front c.0.1 t.parts u.parts;
              stops = last_stops c.0.0 b.0.0 u.front c.0.1 u.spells (subst (λ (z : Tokens). S b.0.0 (first z)) u.parts t.stops) u.stops;
            })
        | inr w ↦
            subst (λ (z : List A × Tokens). Took All (LastStops p S) ts z) (ok_is ([], ts) x w.1)
            (record { front = []; spells = refl; parts = refl; stops = w.0 })
      ]

  nothing_more : (n : ℕ) (r : Tokens) → p (first r) ≡ false → many_at p a n r ≡ Ok ([], r)
  nothing_more zero r h = refl
  nothing_more (suc n) r h = rw h refl

  one_more : (n : ℕ) (x : A) (s r : Tokens) → P x s → S x (first r) → many_at p a (suc n) (s ++ r) ≡ more (x, r) n
  one_more n x s r g st = rw (heads x s r g, ea.complete x s r g st) refl

  many_complete : (xs : List A) (s r : Tokens) (n : ℕ) → length (s ++ r) ≤ n → All xs s → LastStops p S xs (first r) → many_at p a n (s ++ r) ≡ Ok (xs, r)
  many_complete [] s r n le g st = ap (λ (z : Tokens). many_at p a n (z ++ r)) g ∙ nothing_more n r st
  many_complete (x ∷ xs) s r zero le g st =
      let grouped : s ++ r ≡ g.0 ++ (g.1 ++ r) = ap (λ (z : Tokens). z ++ r) g.2 ∙ append_assoc g.0 g.1 r in
      absurd (omega (arith, longer x g.0 (g.1 ++ r) g.3, ap length grouped))
  many_complete (x ∷ xs) s r (suc n) le g st =
      let grouped : s ++ r ≡ g.0 ++ (g.1 ++ r) = ap (λ (z : Tokens). z ++ r) g.2 ∙ append_assoc g.0 g.1 r in
      ap (many_at p a (suc n)) grouped ∙ one_more n x g.0 (g.1 ++ r) g.3 (item_stops xs x g.1 r g.4 st)
      ∙ rw (many_complete xs g.1 r n (omega (arith, longer x g.0 (g.1 ++ r) g.3, ap length grouped)) g.4 (rest_stops xs x (first r) st)) refl

  pub record RefusedMany (ts : Tokens) (f : Broken) : Type 0 where
    pub front : Tokens
    pub back : Tokens
    pub parts : ts ≡ front ++ back
    pub left : f.left ≡ length back
    pub again : (n : ℕ) (g : Tokens) → length (front ++ g) ≤ n → first g ≡ first back
        → many_at p a n (front ++ g) ≡ Err (record { deep = f.deep; left = length g })

  starts_again : (front g back ts : Tokens) → first g ≡ first back → ts ≡ front ++ back → p (first ts) ≡ true → p (first (front ++ g)) ≡ true
  starts_again front g back ts same e h = ap p (first-append front g back same ∙ ap first (sym e)) ∙ h

  fails_now : (n : ℕ) (ts : Tokens) (f : Broken) → length ts ≤ n → p (first ts) ≡ true → a ts ≡ Err f → many_at p a n ts ≡ Err f
  fails_now zero ts f le h e = not_both (p (first ts)) h (empty ts le)
  fails_now (suc n) ts f le h e = rw (h, e) refl

  fails_later : (n : ℕ) (x : A) (s ts : Tokens) (f : Broken) → length (s ++ ts) ≤ n → P x s → S x (first ts)
      → ((m : ℕ) → length ts ≤ m → many_at p a m ts ≡ Err f) → many_at p a n (s ++ ts) ≡ Err f
  fails_later zero x s ts f le g st e = absurd (omega (arith, longer x s ts g))
  fails_later (suc n) x s ts f le g st e = one_more n x s ts g st ∙ rw (e n (omega (arith, longer x s ts g))) refl

  many_local : (n : ℕ) (ts : Tokens) (f : Broken) → length ts ≤ n → many_at p a n ts ≡ Err f → RefusedMany ts f
  many_local zero ts f le e = absurd (ok_not_err _ f e)
  many_local (suc n) ts f le e =
      elim (chosen (p (first ts)) (a ts >>= λ y. more y n) (Ok ([], ts)) (Err f) e) [
        | inr w ↦ absurd (ok_not_err _ f w.1)
        | inl w ↦
            elim (bind_err (a ts) (λ y. more y n) f w.1) [
              | inl ae ↦
                  let l = ea.local ts f ae in
                  record {
                    front = l.front;
                    back = l.back;
                    parts = l.parts;
                    left = l.left;
                    again = λ m g le same. fails_now m (l.front ++ g) _ le (starts_again l.front g l.back ts same l.parts w.0) (l.again g same);
                  }
              | inr b ↦
                  let t = ea.sound ts b.0 b.1 in
                  let short : length b.0.1 < length ts = subst (λ (z : Tokens). length b.0.1 < length z) (sym t.parts) (longer b.0.0 t.front b.0.1 t.spells) in
                  elim (bind_err (many_at p a n b.0.1) (λ xs. Ok (b.0.0 ∷ xs.0, xs.1)) f b.2) [
                    | inr c ↦ absurd (ok_not_err _ f c.2)
                    | inl me ↦
                        let l = many_local n b.0.1 f (omega arith) me in
                        record {
                          front = t.front ++ l.front;
                          back = l.back;
                          parts = regrouped _ _ t.front l.front l.back t.parts l.parts;
                          left = l.left;
                          again = λ m g le same.
                              let s : S b.0.0 (first (l.front ++ g)) = subst (S b.0.0) (ap first l.parts ∙ first-append l.front l.back g (sym same)) t.stops in
                              let grouped : (t.front ++ l.front) ++ g ≡ t.front ++ (l.front ++ g) = append_assoc t.front l.front g in
                              ap (many_at p a m) grouped
                              ∙ fails_later m b.0.0 t.front (l.front ++ g) _ (subst (λ (z : Tokens). length z ≤ m) grouped le) t.spells s
                              (λ k le. l.again k g le same);
                        }
                  ]
            ]
      ]

  pub exact_many_last : Exact (many p a) (each P) (LastStops p S)
  exact_many_last =
      record {
        sound = λ ts x e. many_sound (length ts) ts x (omega arith) e;
        complete = λ xs s r g st. many_complete xs s r (length (s ++ r)) (omega arith) g st;
        local = λ ts f e.
            let l = many_local (length ts) ts f (omega arith) e in
            record { front = l.front; back = l.back; parts = l.parts; left = l.left; again = λ g same. l.again (length (l.front ++ g)) g (omega arith) same };
      }

  -- one or more
  pub exact_several_last : Exact (several p a) (some P) (LastStops p S)
  exact_several_last =
      exact_mapped (λ x. x.0 ∷ x.1) (seq a (many p a)) (Both P (each P)) (some P) (λ x o. LastStops p S (x.0 ∷ x.1) o) (LastStops p S)
      (exact_seq a (many p a) P (each P) S (LastStops p S) (λ x o. LastStops p S (x.0 ∷ x.1) o) ea exact_many_last
      (λ x xs v r g st. (item_stops xs x v r g st, rest_stops xs x (first r) st))
      (λ x xs v r g st h. last_stops xs x v r g st h))
      (λ x ts g. g)
      (elim [
        | [] ↦ λ ts g. absurd g
        | (x ∷ xs) ↦ λ ts g. ((x, xs), g, refl)
      ])
      (λ x ts o g st. st) (λ x ts o g st. st)

-- a list stops where each of its items does
pub all_stop : {A : Type 0} (p : Option Token → Bool) (S : A → Option Token → Type 0) (xs : List A) (o : Option Token) → p o ≡ false → ((x : A) → S x o)
    → LastStops p S xs o
all_stop p S [] o h st = h
all_stop p S (x ∷ []) o h st = (h, st x)
all_stop p S (x ∷ (y ∷ ys)) o h st = all_stop p S (y ∷ ys) o h st

-- ---- where what may follow does not hang on the item

abbrev pub ManyStops : {A : Type 0} → (Option Token → Bool) → (Option Token → Type 0) → List A → Option Token → Type 0
ManyStops p S [] o = p o ≡ false
ManyStops p S (x ∷ xs) o = (p o ≡ false) × S o

pub to_last : {A : Type 0} (p : Option Token → Bool) (S : Option Token → Type 0) (xs : List A) (o : Option Token) → ManyStops p S xs o
    → LastStops p (λ _. S) xs o
to_last p S [] o st = st
to_last p S (x ∷ []) o st = st
to_last p S (x ∷ (y ∷ ys)) o st = to_last p S (y ∷ ys) o st

pub of_last : {A : Type 0} (p : Option Token → Bool) (S : Option Token → Type 0) (xs : List A) (o : Option Token) → LastStops p (λ _. S) xs o
    → ManyStops p S xs o
of_last p S [] o st = st
of_last p S (x ∷ []) o st = st
of_last p S (x ∷ (y ∷ ys)) o st = of_last p S (y ∷ ys) o st

pub many_stop : {A : Type 0} (p : Option Token → Bool) (S : Option Token → Type 0) (xs : List A) (o : Option Token) → p o ≡ false → S o → ManyStops p S xs o
many_stop p S [] o h st = h
many_stop p S (x ∷ xs) o h st = (h, st)

module _ {A : Type 0} (p : Option Token → Bool) (a : Reader A) (P : A → Tokens → Type 0) (S : Option Token → Type 0)
    (ea : Exact a P (λ _. S))
    (heads : (x : A) (s r : Tokens) → P x s → p (first (s ++ r)) ≡ true)
    (goes : (o : Option Token) → p o ≡ true → S o)
    (none : p None ≡ false) where
  pub exact_many : Exact (many p a) (each P) (ManyStops p S)
  exact_many =
      exact_told (many p a) (each P) (each P) (LastStops p (λ _. S)) (ManyStops p S) (exact_many_last p a P (λ _. S) ea heads (λ x. goes) none)
      (λ xs ts g. g) (λ xs ts g. g) (λ xs ts o g st. of_last p S xs o st) (λ xs ts o g st. to_last p S xs o st)

  abbrev pub SeveralStops : List A → Option Token → Type 0
  SeveralStops xs o = (p o ≡ false) × S o

  several_out : (xs : List A) (ts : Tokens) (o : Option Token) → some P xs ts → LastStops p (λ _. S) xs o → SeveralStops xs o
  several_out [] ts o g st = absurd g
  several_out (x ∷ xs) ts o g st = of_last p S (x ∷ xs) o st

  several_in : (xs : List A) (ts : Tokens) (o : Option Token) → some P xs ts → SeveralStops xs o → LastStops p (λ _. S) xs o
  several_in [] ts o g st = absurd g
  several_in (x ∷ xs) ts o g st = to_last p S (x ∷ xs) o st

  pub exact_several : Exact (several p a) (some P) SeveralStops
  exact_several =
      exact_told (several p a) (some P) (some P) (LastStops p (λ _. S)) SeveralStops (exact_several_last p a P (λ _. S) ea heads (λ x. goes) none)
      (λ xs ts g. g) (λ xs ts g. g) several_out several_in

-- ---- tokens of one kind, and identifiers

pub same_kind : (k other : TokenKind) (start place : ℕ) → just k other start ≡ Some place → (other ≡ k) × (start ≡ place)
same_kind k other start place e =
    elim (chosen (is_kind k other) (Some start) None (Some place) e) [
      | inl w ↦ let same : start ≡ place = cc in (is_that_kind k other w.0, same)
      | inr w ↦ absurd cc
    ]

pub exact_token : (k : TokenKind) → is_kind k k ≡ true → Exact (token_of k) (token_at k) Free
exact_token k itself =
    exact_told (token_of k) (entry (just k)) (token_at k) Free Free (exact_entry (just k))
    (λ place ts g. let s = same_kind k g.0.kind g.0.start place g.2 in (g.0, g.1, s.0, s.1))
    (λ place ts g. (
      g.0,
      g.1,
      ap (λ (z : TokenKind). cond (is_kind k z) (Some g.0.start) None) g.2 ∙ ap (λ (b : Bool). cond b (Some g.0.start) None) itself
          ∙ ap Some g.3,
    ))
    (λ x ts o g st. tt) (λ x ts o g st. tt)

pub exact_skipped : (k : TokenKind) → is_kind k k ≡ true → Exact (skipped k) (λ _. token k) Free
exact_skipped k itself =
    exact_mapped (λ _. tt) (token_of k) (token_at k) (λ _. token k) Free Free (exact_token k itself)
    (λ x ts g. (g.0, g.1, g.2)) (λ y ts g. (g.0.start, (g.0, g.1, g.2, refl), refl))
    (λ x ts o g st. tt) (λ x ts o g st. tt)

identifier_is : (k : TokenKind) (place : ℕ) (i : Identifier) → named k place ≡ Some i → (k ≡ kinds.Identifier i.name) × (place ≡ i.place)
identifier_is (kinds.Identifier name) place i e = let same : record { name = name; place = place } ≡ i = cc in
    (ap (λ (z : Identifier). kinds.Identifier z.name) same, ap (λ (z : Identifier). z.place) same)
identifier_is k place i e = absurd cc

pub exact_identifier : Exact identifier_of identifier Free
exact_identifier =
    exact_told identifier_of (entry named) identifier Free Free (exact_entry named)
    (λ i ts g. let s = identifier_is g.0.kind g.0.start i g.2 in (g.0, g.1, s.0, s.1))
    (λ i ts g. (g.0, g.1, ap (λ (z : TokenKind). named z g.0.start) g.2 ∙ ap (λ (z : ℕ). named (kinds.Identifier i.name) z) g.3))
    (λ x ts o g st. tt) (λ x ts o g st. tt)

-- what a token of this kind spells begins with it
pub token_first : (k : TokenKind) (itself : is_kind k k ≡ true) (s r : Tokens) → token k s → is_first k (first (s ++ r)) ≡ true
token_first k itself s r g = ap (λ (z : Tokens). is_first k (first (z ++ r))) g.1 ∙ ap (is_kind k) g.2 ∙ itself

-- ---- one or more, with tokens between them

module _ {A : Type 0} (k : TokenKind) (itself : is_kind k k ≡ true) (a : Reader A) (P : A → Tokens → Type 0) (S : A → Option Token → Type 0)
    (ea : Exact a P S) (goes : (x : A) (o : Option Token) → is_first k o ≡ true → S x o) where
  abbrev pub next_item : Reader A
  next_item = mapped (λ x. x.1) (seq (skipped k) a)

  abbrev pub Next : A → Tokens → Type 0
  Next b = token k ⨾ P b

  pub exact_next : Exact next_item Next S
  exact_next =
      exact_mapped (λ x. x.1) (seq (skipped k) a) (Both (λ _. token k) P) Next (λ x. S x.1) S
      (exact_seq (skipped k) a (λ _. token k) P Free S (λ x. S x.1) (exact_skipped k itself) ea (λ x y v r g st. (tt, st)) (λ x y v r g st h. h))
      (λ x ts g. g) (λ y ts g. ((tt, y), g, refl)) (λ x ts o g st. st) (λ x ts o g st. st)

  pub next_first : (x : A) (s r : Tokens) → Next x s → is_first k (first (s ++ r)) ≡ true
  next_first x s r g = ap (λ (z : Tokens). is_first k (first (z ++ r))) g.2 ∙ ap (λ (z : Tokens). is_first k (first z)) (append_assoc g.0 g.1 r)
      ∙ token_first k itself g.0 (g.1 ++ r) g.3

  pub exact_separated_last : Exact (separated_by k a) (separated k P) (LastStops (is_first k) S)
  exact_separated_last =
      let more = exact_many_last (is_first k) next_item Next S exact_next next_first goes refl in
      exact_mapped (λ x. x.0 ∷ x.1) (seq a (many (is_first k) next_item)) (Both P (each Next)) (separated k P) (λ x o. LastStops (is_first k) S (x.0 ∷ x.1) o)
      (LastStops (is_first k) S)
      (exact_seq a (many (is_first k) next_item) P (each Next) S (LastStops (is_first k) S) (λ x o. LastStops (is_first k) S (x.0 ∷ x.1) o) ea more
      (λ x xs v r g st. (
        item_stops (is_first k) next_item Next S exact_next next_first goes refl xs x v r g st,
        rest_stops (is_first k) next_item Next S
            exact_next next_first goes refl xs x (first r) st,
      ))
      (λ x xs v r g st h. last_stops (is_first k) next_item Next S exact_next next_first goes refl xs x v r g st h))
      (λ x ts g. g)
      (elim [
        | [] ↦ λ ts g. absurd g
        | (x ∷ xs) ↦ λ ts g. ((x, xs), g, refl)
      ])
      (λ x ts o g st. st) (λ x ts o g st. st)

module _ {A : Type 0} (k : TokenKind) (itself : is_kind k k ≡ true) (a : Reader A) (P : A → Tokens → Type 0) (S : Option Token → Type 0)
    (ea : Exact a P (λ _. S)) (goes : (o : Option Token) → is_first k o ≡ true → S o) where
  abbrev pub SeparatedStops : List A → Option Token → Type 0
  SeparatedStops xs o = (is_first k o ≡ false) × S o

  separated_out : (xs : List A) (ts : Tokens) (o : Option Token) → separated k P xs ts → LastStops (is_first k) (λ _. S) xs o → SeparatedStops xs o
  separated_out [] ts o g st = absurd g
  separated_out (x ∷ xs) ts o g st = of_last (is_first k) S (x ∷ xs) o st

  separated_in : (xs : List A) (ts : Tokens) (o : Option Token) → separated k P xs ts → SeparatedStops xs o → LastStops (is_first k) (λ _. S) xs o
  separated_in [] ts o g st = absurd g
  separated_in (x ∷ xs) ts o g st = to_last (is_first k) S (x ∷ xs) o st

  pub exact_separated : Exact (separated_by k a) (separated k P) SeparatedStops
  exact_separated =
      exact_told (separated_by k a) (separated k P) (separated k P) (LastStops (is_first k) (λ _. S)) SeparatedStops
      (exact_separated_last k itself a P (λ _. S) ea (λ x. goes))
      (λ xs ts g. g) (λ xs ts g. g) separated_out separated_in

-- ---- levels

-- k levels may be opened: the readers one level down, if there are any, are as wanted
abbrev pub Below : {R : Type 0} → (ℕ → R → Type 0) → ℕ → Option R → Type 0
Below Holds zero None = Unit {0}
Below Holds zero (Some r) = ⊥
Below Holds (suc k) None = ⊥
Below Holds (suc k) (Some r) = Holds k r

pub exact_opened : {R A : Type 0} (Holds : ℕ → R → Type 0) (k : ℕ) (d : Option R) (f : R → Reader A) (P : A → Limit → Tokens → Type 0)
    (S : A → Option Token → Type 0)
    → Below Holds k d → ((n : ℕ) (r : R) → Holds n r → Exact (f r) (λ a. P a (Some n)) S) → Exact (opened d f) (λ a. inside (Some k) (P a)) S
exact_opened Holds zero None f P S below ef =
    let e = exact_refuse true S in
    record {
      sound = λ ts x h. let t = e.sound ts x h in record { front = t.front; spells = absurd t.spells; parts = t.parts; stops = t.stops };
      complete = λ a s r g st. absurd g;
      local = λ ts f h. let l = e.local ts f h in record { front = l.front; back = l.back; parts = l.parts; left = l.left; again = l.again };
    }
exact_opened Holds zero (Some r) f P S below ef = absurd below
exact_opened Holds (suc k) None f P S below ef = absurd below
exact_opened Holds (suc k) (Some r) f P S below ef = ef k r below

pub inside_map : (k : ℕ) (P Q : Limit → Tokens → Type 0) (ts : Tokens) → ((n : ℕ) → P (Some n) ts → Q (Some n) ts) → inside (Some k) P ts → inside (Some k) Q ts
inside_map zero P Q ts f g = absurd g
inside_map (suc k) P Q ts f g = f k g

-- ---- what tests say of the first token of what is spelled

-- of a list that begins with these
pub first_then : (q : TokenKind → Bool) (b : Bool) (P Q : Tokens → Type 0) (s r : Tokens) → ((u r : Tokens) → P u → is_next q (first (u ++ r)) ≡ b) → (P ⨾ Q) s
    → is_next q (first (s ++ r)) ≡ b
first_then q b P Q s r f g = ap (λ (z : Tokens). is_next q (first (z ++ r))) g.2 ∙ ap (λ (z : Tokens). is_next q (first z)) (append_assoc g.0 g.1 r)
    ∙ f g.0 (g.1 ++ r) g.3

pub first_token : (q : TokenKind → Bool) (k : TokenKind) (s r : Tokens) → token k s → is_next q (first (s ++ r)) ≡ q k
first_token q k s r g = ap (λ (z : Tokens). is_next q (first (z ++ r))) g.1 ∙ ap q g.2

pub first_token_at : (q : TokenKind → Bool) (k : TokenKind) (place : ℕ) (s r : Tokens) → token_at k place s → is_next q (first (s ++ r)) ≡ q k
first_token_at q k place s r g = ap (λ (z : Tokens). is_next q (first (z ++ r))) g.1 ∙ ap q g.2

-- of a list that begins with a token of this kind
pub first_of : (q : TokenKind → Bool) (k : TokenKind) (Q : Tokens → Type 0) (s r : Tokens) → (token k ⨾ Q) s → is_next q (first (s ++ r)) ≡ q k
first_of q k Q s r g = first_then q (q k) (token k) Q s r (first_token q k) g

pub first_of_at : (q : TokenKind → Bool) (k : TokenKind) (place : ℕ) (Q : Tokens → Type 0) (s r : Tokens) → (token_at k place ⨾ Q) s
    → is_next q (first (s ++ r)) ≡ q k
first_of_at q k place Q s r g = first_then q (q k) (token_at k place) Q s r (first_token_at q k place) g

pub kind_ends : (k : TokenKind) (q : TokenKind → Bool) (o : Option Token) → q k ≡ false → is_first k o ≡ true → is_next q o ≡ false
kind_ends k q None fails h = refl
kind_ends k q (Some t) fails h = ap q (is_that_kind k t.kind h) ∙ fails

pub first_inside : (q : TokenKind → Bool) (b : Bool) (l : Limit) (P : Limit → Tokens → Type 0) (s r : Tokens)
    → ((m : Limit) (s : Tokens) → P m s → is_next q (first (s ++ r)) ≡ b) → inside l P s → is_next q (first (s ++ r)) ≡ b
first_inside q b None P s r f g = f None s g
first_inside q b (Some zero) P s r f g = absurd g
first_inside q b (Some (suc n)) P s r f g = f (Some n) s g

-- two tests that no kind passes both
pub apart : (p q : TokenKind → Bool) → ((k : TokenKind) → p k ≡ true → q k ≡ false) → (o : Option Token) → is_next p o ≡ true → is_next q o ≡ false
apart p q f None h = refl
apart p q f (Some t) h = f t.kind h

-- a token that does not pass the test
abbrev pub Ends : (TokenKind → Bool) → Option Token → Type 0
Ends q o = is_next q o ≡ false

pub ends_both : (p q : TokenKind → Bool) (o : Option Token) → Ends p o → Ends q o → Ends (λ k. p k || q k) o
ends_both p q None e f = refl
ends_both p q (Some t) e f = ap (λ (b : Bool). b || q t.kind) e ∙ f

or_left : (a b : Bool) → (a || b) ≡ false → a ≡ false
or_left true b h = h
or_left false b h = refl

or_right : (a b : Bool) → (a || b) ≡ false → b ≡ false
or_right true b h = absurd cc
or_right false b h = h

pub ends_left : (p q : TokenKind → Bool) (o : Option Token) → Ends (λ k. p k || q k) o → Ends p o
ends_left p q None e = refl
ends_left p q (Some t) e = or_left (p t.kind) (q t.kind) e

pub ends_right : (p q : TokenKind → Bool) (o : Option Token) → Ends (λ k. p k || q k) o → Ends q o
ends_right p q None e = refl
ends_right p q (Some t) e = or_right (p t.kind) (q t.kind) e
