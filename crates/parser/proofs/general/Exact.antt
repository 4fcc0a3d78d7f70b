-- What makes a reader exact, and that readers made of exact ones are.
use Rattle.lexer.specs.declared.token.TokenKind.TheVariants as kinds
use Rattle.lexer.specs.contracts.word.Word as word_type
use Rattle.lexer.specs.contracts.delimiter.Delimiter as delimiter_type
use Rattle.std.proofs.Common.{◌≡◌, ℕ, Bool, true, false, cond, [], ◌∷◌, ◌++◌, length, Option, Some, None, Result, Ok, Err, refl, sym, ap, subst, ◌∙◌}
use Rattle.std.proofs.Common.{append_assoc, inl, inr, ◌⊎◌}
use denote.Enum.Bare.{same_true, true_same}
use Rattle.lexer.specs.declared.token.Token.{Token}
use Rattle.lexer.specs.declared.token.TokenKind.{TokenKind}
use Rattle.lexer.specs.declared.word.Word.{Word}
use Rattle.ada_tree.specs.Language.{Tokens, never, ◌⨾◌}
use Rattle.parser.specs.declared.refusal.Broken.{Broken}
use Rattle.parser.specs.Reading.{Reader, ◌>>=◌, first, refuse, is_kind, is_next, is_first, taken, entry_of, seq, after, mapped, choose, nothing, checked}
use Rattle.parser.specs.Reading.{closed}

-- what was read is spelled so, and what follows cannot continue it
pub record Took {A : Type 0} (Spells : A → Tokens → Type 0) (Stops : A → Option Token → Type 0) (ts : Tokens) (x : A × Tokens) : Type 0 where
  pub front : Tokens
  pub spells : Spells x.0 front
  pub parts : ts ≡ front ++ x.1
  pub stops : Stops x.0 (first x.1)

-- up to its place the fault hangs on the tokens up to and with the one there
pub record Refused {A : Type 0} (read : Reader A) (ts : Tokens) (f : Broken) : Type 0 where
  pub front : Tokens
  pub back : Tokens
  pub parts : ts ≡ front ++ back
  pub left : f.left ≡ length back
  pub again : (g : Tokens) → first g ≡ first back → read (front ++ g) ≡ Err (record { deep = f.deep; left = length g })

pub record Exact {A : Type 0} (read : Reader A) (Spells : A → Tokens → Type 0) (Stops : A → Option Token → Type 0) : Type 0 where
  pub sound : (ts : Tokens) (x : A × Tokens) → read ts ≡ Ok x → Took Spells Stops ts x
  pub complete : (a : A) (s r : Tokens) → Spells a s → Stops a (first r) → read (s ++ r) ≡ Ok (a, r)
  pub local : (ts : Tokens) (f : Broken) → read ts ≡ Err f → Refused read ts f

-- anything may follow
abbrev pub Free : {A : Type 0} → A → Option Token → Type 0
Free a o = Unit {0}

-- the pair is spelled by the one and then the other
abbrev pub Both : {A B : Type 0} → (A → Tokens → Type 0) → (B → Tokens → Type 0) → A × B → Tokens → Type 0
Both PA PB x = PA x.0 ⨾ PB x.1

-- ---- tools

pub bind_ok : {A B : Type 0} (r : Result A Broken) (f : A → Result B Broken) (y : B) → (r >>= f) ≡ Ok y → (x : A) × (r ≡ Ok x) × (f x ≡ Ok y)
bind_ok (Ok x) f y e = (x, refl, e)
bind_ok (Err d) f y e = absurd cc

pub bind_err : {A B : Type 0} (r : Result A Broken) (f : A → Result B Broken) (d : Broken) → (r >>= f) ≡ Err d
    → (r ≡ Err d) ⊎ ((x : A) × (r ≡ Ok x) × (f x ≡ Err d))
bind_err (Ok x) f d e = inr (x, refl, e)
bind_err (Err c) f d e = inl cc

pub chosen : {A : Type 0} (b : Bool) (x y z : A) → cond b x y ≡ z → ((b ≡ true) × (x ≡ z)) ⊎ ((b ≡ false) × (y ≡ z))
chosen true x y z e = inl (refl, e)
chosen false x y z e = inr (refl, e)

pub true_or_false : (b : Bool) → (b ≡ true) ⊎ (b ≡ false)
true_or_false true = inl refl
true_or_false false = inr refl

abbrev done : {A : Type 0} → A → Result A Broken
done x = Ok x

abbrev failed : (A : Type 0) → Broken → Result A Broken
failed A x = Err x

pub ok_is : {A : Type 0} (x y : A) → done x ≡ done y → x ≡ y
ok_is x y e = cc

pub err_is : {A : Type 0} (x y : Broken) → failed A x ≡ failed A y → x ≡ y
err_is x y e = cc

pub ok_not_err : {A : Type 0} (x : A) (y : Broken) → done x ≡ failed A y → ⊥
ok_not_err x y e = cc

pub not_both : {P : Type 0} (b : Bool) → b ≡ true → b ≡ false → P
not_both b t f = absurd cc

pub first-append : (p g h : Tokens) → first g ≡ first h → first (p ++ g) ≡ first (p ++ h)
first-append [] g h e = e
first-append (x ∷ p) g h e = refl

-- s, and then u of what is left
pub regrouped : (ts middle s u r : Tokens) → ts ≡ s ++ middle → middle ≡ u ++ r → ts ≡ (s ++ u) ++ r
regrouped ts middle s u r e f = e ∙ ap (λ (z : Tokens). s ++ z) f ∙ sym (append_assoc s u r)

-- a reader that refuses at its own place does so for each list with this first token
pub refused_here : {A : Type 0} (read : Reader A) (ts : Tokens) (f : Broken) (deep : Bool) → f ≡ record { deep = deep; left = length ts }
    → ((g : Tokens) → first g ≡ first ts → read g ≡ refuse deep g) → Refused read ts f
refused_here read ts f deep is again =
    record {
      front = [];
      back = ts;
      parts = refl;
      left = ap (λ (d : Broken). d.left) is;
      again = λ g same. again g same
          ∙ ap (λ (d : Broken). Err (record { deep = d.deep; left = length g })) (sym is);
    }

-- ---- tests of kinds

pub is_itself : (w : Word) → is_kind (kinds.Word w) (kinds.Word w) ≡ true
is_itself w = true_same word_type.the_type w w refl

pub is_that_kind : (k other : TokenKind) → is_kind k other ≡ true → other ≡ k
is_that_kind (kinds.Word w) (kinds.Word v) h = ap kinds.Word (same_true word_type.the_type tt v w h)
is_that_kind (kinds.Delimiter d) (kinds.Delimiter e) h = ap kinds.Delimiter (same_true delimiter_type.the_type tt e d h)
is_that_kind k other h = absurd cc

-- a test that this kind doesn't pass, and another token does
pub no_such : (k : TokenKind) (p : TokenKind → Bool) (o : Option Token) → p k ≡ false → is_next p o ≡ true → is_first k o ≡ false
no_such k p None fails h = refl
no_such k p (Some t) fails h =
    elim (true_or_false (is_kind k t.kind)) [
      | inr f ↦ f
      | inl e ↦ not_both (p t.kind) h (ap p (is_that_kind k t.kind e) ∙ fails)
    ]

-- ---- one token

-- a token for which the table has this
abbrev pub entry : {A : Type 0} → (TokenKind → ℕ → Option A) → A → Tokens → Type 0
entry f a ts = (t : Token) × (ts ≡ t ∷ []) × (f t.kind t.start ≡ Some a)

module _ {A : Type 0} (f : TokenKind → ℕ → Option A) where
  took_entry : (o : Option A) (t : Token) (ts : Tokens) (x : A × Tokens) → f t.kind t.start ≡ o → taken o t ts ≡ Ok x → Took (entry f) Free (t ∷ ts) x
  took_entry None t ts x is e = absurd (ok_not_err x _ (sym e))
  took_entry (Some a) t ts x is e =
      subst (λ (z : A × Tokens). Took (entry f) Free (t ∷ ts) z) (ok_is (a, ts) x e)
      (record { front = t ∷ []; spells = (t, refl, is); parts = refl; stops = tt })

  entry_sound : (ts : Tokens) (x : A × Tokens) → entry_of f ts ≡ Ok x → Took (entry f) Free ts x
  entry_sound [] x e = absurd (ok_not_err x _ (sym e))
  entry_sound (t ∷ ts) x e = took_entry (f t.kind t.start) t ts x refl e

  taken_fault : (o : Option A) (t : Token) (ts : Tokens) (d : Broken) → taken o t ts ≡ Err d → d ≡ record { deep = false; left = length (t ∷ ts) }
  taken_fault None t ts d e = cc
  taken_fault (Some a) t ts d e = absurd (ok_not_err _ d e)

  pub entry_fault : (ts : Tokens) (d : Broken) → entry_of f ts ≡ Err d → d ≡ record { deep = false; left = length ts }
  entry_fault [] d e = cc
  entry_fault (t ∷ ts) d e = taken_fault (f t.kind t.start) t ts d e

  taken_none : (o : Option A) (t : Token) (ts g : Tokens) → taken o t ts ≡ refuse false (t ∷ ts) → taken o t g ≡ refuse false (t ∷ g)
  taken_none None t ts g e = refl
  taken_none (Some a) t ts g e = absurd (ok_not_err _ _ e)

  entry_refused : (ts g : Tokens) → first g ≡ first ts → entry_of f ts ≡ refuse false ts → entry_of f g ≡ refuse false g
  entry_refused [] [] same h = refl
  entry_refused [] (u ∷ g) same h = absurd cc
  entry_refused (t ∷ ts) [] same h = absurd cc
  entry_refused (t ∷ ts) (u ∷ g) same h =
      let e : t ≡ u = cc in
      subst (λ (z : Token). entry_of f (z ∷ g) ≡ refuse false (z ∷ g)) e (taken_none (f t.kind t.start) t ts g h)

  pub exact_entry : Exact (entry_of f) (entry f) Free
  exact_entry =
      record {
        sound = entry_sound;
        complete = λ a s r p st. ap (λ (z : Tokens). entry_of f (z ++ r)) p.1 ∙ ap (λ (o : Option A). taken o p.0 r) p.2;
        local = λ ts d e. let is = entry_fault ts d e in refused_here (entry_of f) ts d false is (λ g same. entry_refused ts g same (e ∙ ap Err is));
      }

-- ---- one after the other

pub exact_seq : {A B : Type 0} (a : Reader A) (b : Reader B) (PA : A → Tokens → Type 0) (PB : B → Tokens → Type 0) (SA : A → Option Token → Type 0)
    (SB : B → Option Token → Type 0) (S : A × B → Option Token → Type 0)
    → Exact a PA SA → Exact b PB SB
    → ((x : A) (y : B) (v r : Tokens) → PB y v → S (x, y) (first r) → SA x (first (v ++ r)) × SB y (first r))
    → ((x : A) (y : B) (v r : Tokens) → PB y v → SA x (first (v ++ r)) → SB y (first r) → S (x, y) (first r))
    → Exact (seq a b) (Both PA PB) S
exact_seq {A} {B} a b PA PB SA SB S ea eb fits stop =
    record {
      sound = λ ts x e.
          let p = bind_ok (a ts) (λ x. b x.1 >>= λ y. Ok ((x.0, y.0), y.1)) x e in
          let q = bind_ok (b p.0.1) (λ y. Ok ((p.0.0, y.0), y.1)) x p.2 in
          let ta = ea.sound ts p.0 p.1 in
          let tb = eb.sound p.0.1 q.0 q.1 in
          let made : (A × B) × Tokens = ((p.0.0, q.0.0), q.0.1) in
          subst (λ (z : (A × B) × Tokens). Took (Both PA PB) S ts z) (ok_is made x q.2)
          (record {
            front = ta.front ++ tb.front;
            spells = (ta.front, tb.front, refl, ta.spells, tb.spells);
            parts = regrouped _ _ ta.front tb.front q.0.1 ta.parts tb.parts;
            stops = stop p.0.0 q.0.0 tb.front q.0.1 tb.spells (subst (λ (t : Tokens). SA p.0.0 (first t)) tb.parts ta.stops) tb.stops;
          });
      complete = λ p s r g st.
          let f = fits p.0 p.1 g.1 r g.4 st in
          ap (λ (z : Tokens). seq a b (z ++ r)) g.2 ∙ ap (seq a b) (append_assoc g.0 g.1 r)
          ∙ rw (ea.complete p.0 g.0 (g.1 ++ r) g.3 f.0, eb.complete p.1 g.1 r g.4 f.1) refl;
      local = λ ts f e.
          elim (bind_err (a ts) (λ x. b x.1 >>= λ y. Ok ((x.0, y.0), y.1)) f e) [
            | inl ae ↦
                let l = ea.local ts f ae in
                record { front = l.front; back = l.back; parts = l.parts; left = l.left; again = λ g same. rw (l.again g same) refl }
            | inr w ↦
                let ta = ea.sound ts w.0 w.1 in
                elim (bind_err (b w.0.1) (λ y. Ok ((w.0.0, y.0), y.1)) f w.2) [
                  | inl be ↦
                      let l = eb.local w.0.1 f be in
                      record {
                        front = ta.front ++ l.front;
                        back = l.back;
                        parts = regrouped _ _ ta.front l.front l.back ta.parts l.parts;
                        left = l.left;
                        again = λ g same.
                            let s : SA w.0.0 (first (l.front ++ g)) = subst (SA w.0.0) (ap first l.parts ∙ first-append l.front l.back g (sym same)) ta.stops in
                            ap (seq a b) (append_assoc ta.front l.front g) ∙ rw (ea.complete w.0.0 ta.front (l.front ++ g) ta.spells s, l.again g same) refl;
                      }
                  | inr v ↦ absurd (ok_not_err _ f v.2)
                ]
          ];
    }

-- ---- one, and then what hangs on its value

-- The second need be exact only for what the first gives.
pub exact_behind : {A B : Type 0} (a : Reader A) (b : A → Reader B) (PA : A → Tokens → Type 0) (PB : A → B → Tokens → Type 0) (SA : A → Option Token → Type 0)
    (SB : A → B → Option Token → Type 0)
    (P : B → Tokens → Type 0) (S : B → Option Token → Type 0)
    → Exact a PA SA → ((x : A) (u : Tokens) → PA x u → Exact (b x) (PB x) (SB x))
    → ((x : A) (y : B) (u v : Tokens) → PA x u → PB x y v → P y (u ++ v))
    → ((y : B) (ts : Tokens) → P y ts → (x : A) × (PA x ⨾ PB x y) ts)
    → ((x : A) (y : B) (u v r : Tokens) → PA x u → PB x y v → S y (first r) → SA x (first (v ++ r)) × SB x y (first r))
    → ((x : A) (y : B) (u v r : Tokens) → PA x u → PB x y v → SA x (first (v ++ r)) → SB x y (first r) → S y (first r))
    → Exact (after a b) P S
exact_behind {A} {B} a b PA PB SA SB P S ea eb to back fits stop =
    record {
      sound = λ ts y e.
          let p = bind_ok (a ts) (λ x. b x.0 x.1) y e in
          let ta = ea.sound ts p.0 p.1 in
          let tb = (eb p.0.0 ta.front ta.spells).sound p.0.1 y p.2 in
          record {
            front = ta.front ++ tb.front;
            spells = to p.0.0 y.0 ta.front tb.front ta.spells tb.spells;
            parts = regrouped _ _ ta.front tb.front y.1 ta.parts tb.parts;
            stops = stop p.0.0 y.0 ta.front tb.front y.1 ta.spells tb.spells (subst (λ (t : Tokens). SA p.0.0 (first t)) tb.parts ta.stops) tb.stops;
          };
      complete = λ y s r h st.
          let x = back y s h in
          let d = x.1 in
          let f = fits x.0 y d.0 d.1 r d.3 d.4 st in
          ap (λ (z : Tokens). after a b (z ++ r)) d.2 ∙ ap (after a b) (append_assoc d.0 d.1 r)
          ∙ rw (ea.complete x.0 d.0 (d.1 ++ r) d.3 f.0) ((eb x.0 d.0 d.3).complete y d.1 r d.4 f.1);
      local = λ ts f e.
          elim (bind_err (a ts) (λ x. b x.0 x.1) f e) [
            | inl ae ↦
                let l = ea.local ts f ae in
                record { front = l.front; back = l.back; parts = l.parts; left = l.left; again = λ g same. rw (l.again g same) refl }
            | inr w ↦
                let ta = ea.sound ts w.0 w.1 in
                let l = (eb w.0.0 ta.front ta.spells).local w.0.1 f w.2 in
                record {
                  front = ta.front ++ l.front;
                  back = l.back;
                  parts = regrouped _ _ ta.front l.front l.back ta.parts l.parts;
                  left = l.left;
                  again = λ g same.
                      let s : SA w.0.0 (first (l.front ++ g)) = subst (SA w.0.0) (ap first l.parts ∙ first-append l.front l.back g (sym same)) ta.stops in
                      ap (after a b) (append_assoc ta.front l.front g) ∙ rw (ea.complete w.0.0 ta.front (l.front ++ g) ta.spells s) (l.again g same);
                }
          ];
    }

pub exact_after : {A B : Type 0} (a : Reader A) (b : A → Reader B) (PA : A → Tokens → Type 0) (PB : A → B → Tokens → Type 0) (SA : A → Option Token → Type 0)
    (SB : A → B → Option Token → Type 0)
    (P : B → Tokens → Type 0) (S : B → Option Token → Type 0)
    → Exact a PA SA → ((x : A) → Exact (b x) (PB x) (SB x))
    → ((x : A) (y : B) (u v : Tokens) → PA x u → PB x y v → P y (u ++ v))
    → ((y : B) (ts : Tokens) → P y ts → (x : A) × (PA x ⨾ PB x y) ts)
    → ((x : A) (y : B) (v r : Tokens) → PB x y v → S y (first r) → SA x (first (v ++ r)) × SB x y (first r))
    → ((x : A) (y : B) (v r : Tokens) → PB x y v → SA x (first (v ++ r)) → SB x y (first r) → S y (first r))
    → Exact (after a b) P S
exact_after a b PA PB SA SB P S ea eb to back fits stop =
    exact_behind a b PA PB SA SB P S ea (λ x u g. eb x) to back (λ x y u v r g. fits x y v r) (λ x y u v r g. stop x y v r)

-- ---- a changed value

pub exact_mapped : {A B : Type 0} (f : A → B) (a : Reader A) (PA : A → Tokens → Type 0) (PB : B → Tokens → Type 0) (SA : A → Option Token → Type 0)
    (SB : B → Option Token → Type 0)
    → Exact a PA SA
    → ((x : A) (ts : Tokens) → PA x ts → PB (f x) ts)
    → ((y : B) (ts : Tokens) → PB y ts → (x : A) × PA x ts × (f x ≡ y))
    → ((x : A) (ts : Tokens) (o : Option Token) → PA x ts → SA x o → SB (f x) o)
    → ((x : A) (ts : Tokens) (o : Option Token) → PA x ts → SB (f x) o → SA x o)
    → Exact (mapped f a) PB SB
exact_mapped {A} {B} f a PA PB SA SB ea to back stop go =
    record {
      sound = λ ts y e.
          let p = bind_ok (a ts) (λ x. Ok (f x.0, x.1)) y e in
          let t = ea.sound ts p.0 p.1 in
          let made : B × Tokens = (f p.0.0, p.0.1) in
          subst (λ (z : B × Tokens). Took PB SB ts z) (ok_is made y p.2)
          (record { front = t.front; spells = to p.0.0 t.front t.spells; parts = t.parts; stops = stop p.0.0 t.front (first p.0.1) t.spells t.stops });
      complete = λ y s r g st.
          let x = back y s g in
          let one = ea.complete x.0 s r x.1 (go x.0 s (first r) x.1 (subst (λ (z : B). SB z (first r)) (sym x.2) st)) in
          rw one (ap (λ (z : B). done (z, r)) x.2);
      local = λ ts d e.
          elim (bind_err (a ts) (λ x. Ok (f x.0, x.1)) d e) [
            | inl ae ↦
                let l = ea.local ts d ae in
                record { front = l.front; back = l.back; parts = l.parts; left = l.left; again = λ g same. rw (l.again g same) refl }
            | inr w ↦ absurd (ok_not_err _ d w.2)
          ];
    }

-- the same reader, told otherwise
pub exact_told : {A : Type 0} (a : Reader A) (P Q : A → Tokens → Type 0) (S T : A → Option Token → Type 0) → Exact a P S
    → ((x : A) (ts : Tokens) → P x ts → Q x ts) → ((x : A) (ts : Tokens) → Q x ts → P x ts)
    → ((x : A) (ts : Tokens) (o : Option Token) → P x ts → S x o → T x o) → ((x : A) (ts : Tokens) (o : Option Token) → P x ts → T x o → S x o)
    → Exact a Q T
exact_told a P Q S T e to back stop go =
    record {
      sound = λ ts x h. let t = e.sound ts x h in
          record { front = t.front; spells = to x.0 t.front t.spells; parts = t.parts; stops = stop x.0 t.front (first x.1) t.spells t.stops };
      complete = λ x s r g st. let p = back x s g in e.complete x s r p (go x s (first r) p st);
      local = e.local;
    }

-- ---- none at all

pub exact_refuse : {A : Type 0} (deep : Bool) (S : A → Option Token → Type 0) → Exact {A = A} (refuse deep) (λ _. never) S
exact_refuse {A} deep S =
    record {
      sound = λ ts x e. absurd (ok_not_err x _ (sym e));
      complete = λ a s r g st. absurd g;
      local = λ ts f e.
          let is = err_is {A = A × Tokens} (record { deep = deep; left = length ts }) f e in
          refused_here (refuse deep) ts f deep (sym is) (λ g same. refl);
    }

-- nothing is read
pub exact_nothing : {A : Type 0} (x : A) → Exact (nothing x) (λ y ts. (y ≡ x) × (ts ≡ [])) Free
exact_nothing {A} x =
    record {
      sound =
          λ ts y e. subst (λ (z : A × Tokens). Took (λ y ts. (y ≡ x) × (ts ≡ [])) Free ts z) (ok_is (x, ts) y e)
          (record { front = []; spells = (refl, refl); parts = refl; stops = tt });
      complete = λ y s r g st. ap (λ (z : Tokens). done (x, z ++ r)) g.1 ∙ ap (λ (z : A). done (z, r)) (sym g.0);
      local = λ ts f e. absurd (ok_not_err (x, ts) f e);
    }

-- ---- which one, as the next token says

pub exact_either : {A : Type 0} (p : Option Token → Bool) (a b : Reader A) (PA PB P : A → Tokens → Type 0) (SA SB S : A → Option Token → Type 0)
    → Exact a PA SA → Exact b PB SB
    → ((x : A) (s r : Tokens) → PA x s → SA x (first r) → p (first (s ++ r)) ≡ true → P x s × S x (first r))
    → ((x : A) (s r : Tokens) → PB x s → SB x (first r) → p (first (s ++ r)) ≡ false → P x s × S x (first r))
    → ((x : A) (s r : Tokens) → P x s → S x (first r)
    → ((p (first (s ++ r)) ≡ true) × PA x s × SA x (first r)) ⊎ ((p (first (s ++ r)) ≡ false) × PB x s × SB x (first r)))
    → Exact (choose p a b) P S
exact_either {A} p a b PA PB P SA SB S ea eb outa outb heads =
    record {
      sound = λ ts x e.
          elim (chosen (p (first ts)) (a ts) (b ts) (Ok x) e) [
            | inl w ↦
                let t = ea.sound ts x w.1 in
                let o = outa x.0 t.front x.1 t.spells t.stops (ap (λ (z : Tokens). p (first z)) (sym t.parts) ∙ w.0) in
                record { front = t.front; spells = o.0; parts = t.parts; stops = o.1 }
            | inr w ↦
                let t = eb.sound ts x w.1 in
                let o = outb x.0 t.front x.1 t.spells t.stops (ap (λ (z : Tokens). p (first z)) (sym t.parts) ∙ w.0) in
                record { front = t.front; spells = o.0; parts = t.parts; stops = o.1 }
          ];
      complete = λ x s r g st.
          elim (heads x s r g st) [
            | inl w ↦ ap (λ (t : Bool). cond t (a (s ++ r)) (b (s ++ r))) w.0 ∙ ea.complete x s r w.1 w.2
            | inr w ↦ ap (λ (t : Bool). cond t (a (s ++ r)) (b (s ++ r))) w.0 ∙ eb.complete x s r w.1 w.2
          ];
      local = λ ts f e.
          elim (chosen (p (first ts)) (a ts) (b ts) (Err f) e) [
            | inl w ↦
                let l = ea.local ts f w.1 in
                record {
                  front = l.front;
                  back = l.back;
                  parts = l.parts;
                  left = l.left;
                  again = λ g same.
                      let t : p (first (l.front ++ g)) ≡ true = ap p (first-append l.front g l.back same ∙ ap first (sym l.parts)) ∙ w.0 in
                      ap (λ (t : Bool). cond t (a (l.front ++ g)) (b (l.front ++ g))) t ∙ l.again g same;
                }
            | inr w ↦
                let l = eb.local ts f w.1 in
                record {
                  front = l.front;
                  back = l.back;
                  parts = l.parts;
                  left = l.left;
                  again = λ g same.
                      let t : p (first (l.front ++ g)) ≡ false = ap p (first-append l.front g l.back same ∙ ap first (sym l.parts)) ∙ w.0 in
                      ap (λ (t : Bool). cond t (a (l.front ++ g)) (b (l.front ++ g))) t ∙ l.again g same;
                }
          ];
    }

-- the same, where what may follow is the same on both sides
pub exact_choose : {A : Type 0} (p : Option Token → Bool) (a b : Reader A) (PA PB P : A → Tokens → Type 0) (S : A → Option Token → Type 0)
    → Exact a PA S → Exact b PB S
    → ((x : A) (s : Tokens) → PA x s → P x s) → ((x : A) (s : Tokens) → PB x s → P x s)
    → ((x : A) (s r : Tokens) → P x s → S x (first r) → ((p (first (s ++ r)) ≡ true) × PA x s) ⊎ ((p (first (s ++ r)) ≡ false) × PB x s))
    → Exact (choose p a b) P S
exact_choose p a b PA PB P S ea eb pa pb heads =
    exact_either p a b PA PB P S S S ea eb (λ x s r g st h. (pa x s g, st)) (λ x s r g st h. (pb x s g, st))
    (λ x s r g st. elim (heads x s r g st) [
      | inl w ↦ inl (w.0, w.1, st)
      | inr w ↦ inr (w.0, w.1, st)
    ])

-- ---- one, behind which some tokens may not come

abbrev pub Closed : {A : Type 0} → (Option Token → Bool) → (A → Option Token → Type 0) → A → Option Token → Type 0
Closed p S x o = (p o ≡ false) × S x o

pub exact_closed : {A : Type 0} (p : Option Token → Bool) (a : Reader A) (P : A → Tokens → Type 0) (S : A → Option Token → Type 0) → Exact a P S
    → Exact (closed p a) P (Closed p S)
exact_closed {A} p a P S ea =
    record {
      sound = λ ts x e.
          let q = bind_ok (a ts) (checked p) x e in
          elim (chosen (p (first q.0.1)) (refuse false q.0.1) (Ok q.0) (Ok x) q.2) [
            | inl w ↦ absurd (ok_not_err x _ (sym w.1))
            | inr w ↦
                let same = ok_is q.0 x w.1 in
                let t = ea.sound ts q.0 q.1 in
                subst (λ (z : A × Tokens). Took P (Closed p S) ts z) same
                (record { front = t.front; spells = t.spells; parts = t.parts; stops = (w.0, t.stops) })
          ];
      complete = λ x s r g st. rw (ea.complete x s r g st.1) (rw st.0 refl);
      local = λ ts f e.
          elim (bind_err (a ts) (checked p) f e) [
            | inl ae ↦
                let l = ea.local ts f ae in
                record { front = l.front; back = l.back; parts = l.parts; left = l.left; again = λ g same. rw (l.again g same) refl }
            | inr w ↦
                elim (chosen (p (first w.0.1)) (refuse false w.0.1) (Ok w.0) (Err f) w.2) [
                  | inr v ↦ absurd (ok_not_err _ f v.1)
                  | inl v ↦
                      let t = ea.sound ts w.0 w.1 in
                      let is = err_is {A = A × Tokens} (record { deep = false; left = length w.0.1 }) f v.1 in
                      record {
                        front = t.front;
                        back = w.0.1;
                        parts = t.parts;
                        left = sym (ap (λ (d : Broken). d.left) is);
                        again = λ g same.
                            let q : p (first g) ≡ true = ap p same ∙ v.0 in
                            rw (ea.complete w.0.0 t.front g t.spells (subst (S w.0.0) (sym same) t.stops))
                            (rw q (ap (λ (d : Broken). Err (record { deep = d.deep; left = length g })) is));
                      }
                ]
          ];
    }
