-- What a reader has taken where it refuses can go on: some tokens behind it let the reader read all. And readers made of such ones are so.
use Rattle.lexer.specs.declared.token.TokenKind.TheVariants as kinds
use Rattle.std.proofs.Common.{◌≡◌, ℕ, zero, suc, Bool, true, false, cond, List, [], ◌∷◌, ◌++◌, length, Option, Some, None, Ok, Err, refl, sym, ap, subst, ◌∙◌}
use Rattle.std.proofs.Common.{append_assoc, inl, inr, ◌⊎◌}
use Rattle.std.proofs.lemmas.List.{append-nil}
use Rattle.lexer.specs.declared.token.Token.{Token}
use Rattle.lexer.specs.declared.token.TokenKind.{TokenKind}
use Rattle.lexer.specs.declared.word.Word.{Word}
use Rattle.ada_tree.specs.Language.{Tokens, ◌⨾◌, each, some, separated}
use Rattle.parser.specs.declared.refusal.Broken.{Broken}
use Rattle.parser.specs.Reading.{Read, Reader, ◌>>=◌, first, refuse, is_kind, is_first, just, entry_of, token_of, skipped, named, identifier_of, seq, after}
use Rattle.parser.specs.Reading.{mapped, choose, many_at}
use Rattle.parser.specs.Reading.{many, several, separated_by, nothing, closed, checked, opened}
use Rattle.parser.specs.MoreReading.{past, ended, perhaps, flag, Left, Right, either, next_word, by_word}
use Rattle.parser.proofs.general.Exact.{Exact, bind_err, chosen, ok_not_err, err_is, regrouped, entry_fault}
use Rattle.parser.proofs.general.Several.{exact_token, exact_skipped, exact_identifier, exact_next}
use Rattle.parser.proofs.general.MoreExact.{paired, changed}

-- the reader reads these tokens, and leaves none
abbrev pub ReadsAll : {A : Type 0} → Reader A → Tokens → Type 0
ReadsAll {A} read s = (x : A) × (read s ≡ Ok (x, []))

-- what is in front of the fault is nothing, or goes on to what the reader reads
pub record Begun {A : Type 0} (read : Reader A) (ts : Tokens) (f : Broken) : Type 0 where
  pub front : Tokens
  pub back : Tokens
  pub parts : ts ≡ front ++ back
  pub left : f.left ≡ length back
  pub on : (front ≡ []) ⊎ ((s : Tokens) × ReadsAll read (front ++ s))

abbrev pub GoesOn : {A : Type 0} → Reader A → Type 0
GoesOn read = (ts : Tokens) (f : Broken) → read ts ≡ Err f → Begun read ts f

-- the same of a reader that reads the tokens v and leaves none
pub record Goes {A : Type 0} (read : Reader A) (v : Tokens) : Type 0 where
  pub on : GoesOn read
  pub all : ReadsAll read v

-- a token of this kind
abbrev pub a_token : TokenKind → Token
a_token k = record { kind = k; start = 0; end_ = 0 }

-- an identifier: A
abbrev pub a_name : Token
a_name = a_token (kinds.Identifier (65 ∷ []))

-- ---- tools

-- a reader that refuses at its own place has taken nothing
pub begun_here : {A : Type 0} (read : Reader A) (ts : Tokens) (f : Broken) (deep : Bool) → f ≡ record { deep = deep; left = length ts } → Begun read ts f
begun_here read ts f deep is = record { front = []; back = ts; parts = refl; left = ap (λ (d : Broken). d.left) is; on = inl refl }

-- the same front for another reader
moved : {A B : Type 0} (a : Reader A) (b : Reader B) (ts : Tokens) (f : Broken) (l : Begun a ts f)
    → ((s : Tokens) → ReadsAll a (l.front ++ s) → (t : Token) → (front : Tokens) → l.front ≡ t ∷ front → (v : Tokens) × ReadsAll b (l.front ++ v))
    → Begun b ts f
moved a b ts f l go =
    record { front = l.front; back = l.back; parts = l.parts; left = l.left; on = on l.front refl }
  where
    on : (front : Tokens) → l.front ≡ front → (l.front ≡ []) ⊎ ((s : Tokens) × ReadsAll b (l.front ++ s))
    on [] is = inl is
    on (t ∷ front) is =
        elim l.on [
          | inl e ↦ inl e
          | inr g ↦ inr (go g.0 g.1 t front is)
        ]

-- what is read to its end is spelled, and is read before what stops it
pub read_before : {A : Type 0} (a : Reader A) (P : A → Tokens → Type 0) (S : A → Option Token → Type 0) (s r : Tokens) (x : A) → Exact a P S → a s ≡ Ok (x, [])
    → S x (first r) → a (s ++ r) ≡ Ok (x, r)
read_before a P S s r x ea e st =
    let t = ea.sound s (x, []) e in
    ea.complete x s r (subst (P x) (sym (t.parts ∙ append-nil t.front)) t.spells) st

all_read : {A : Type 0} (a : Reader A) (x : A) (s : Tokens) → a (s ++ []) ≡ Ok (x, []) → ReadsAll a s
all_read a x s e = (x, ap a (sym (append-nil s)) ∙ e)

-- ---- the same reader, written otherwise; a changed value

same_on : {A : Type 0} {a b : Reader A} → ((ts : Tokens) → a ts ≡ b ts) → GoesOn a → GoesOn b
same_on {a = a} {b = b} same ga ts f e =
    moved a b ts f (ga ts f (same ts ∙ e)) (λ s w t front is. (s, (w.0, sym (same _) ∙ w.1)))

pub goes_same : {A : Type 0} {a b : Reader A} {v : Tokens} → ((ts : Tokens) → a ts ≡ b ts) → Goes a v → Goes b v
goes_same {v = v} same g = record { on = same_on same g.on; all = (g.all.0, sym (same v) ∙ g.all.1) }

pub mapped_on : {A B : Type 0} (f : A → B) {a : Reader A} → GoesOn a → GoesOn (mapped f a)
mapped_on f {a} ga ts d e =
    elim (bind_err (a ts) (λ x. Ok (f x.0, x.1)) d e) [
      | inl ae ↦ moved a (mapped f a) ts d (ga ts d ae) (λ s w t front is. (s, (f w.0, rw w.1 refl)))
      | inr w ↦ absurd (ok_not_err _ d w.2)
    ]

pub goes_mapped : {A B : Type 0} (f : A → B) {a : Reader A} {v : Tokens} → Goes a v → Goes (mapped f a) v
goes_mapped f g = record { on = mapped_on f g.on; all = (f g.all.0, rw g.all.1 refl) }

-- ---- nothing, one token

pub goes_nothing : {A : Type 0} (x : A) → Goes (nothing x) []
goes_nothing x = record { on = λ ts f e. absurd (ok_not_err (x, ts) f e); all = (x, refl) }

pub refuse_on : {A : Type 0} (deep : Bool) → GoesOn {A = A} (refuse deep)
refuse_on {A} deep ts f e =
    let is = err_is {A = A × Tokens} (record { deep = deep; left = length ts }) f e in
    begun_here (refuse deep) ts f deep (sym is)

pub entry_on : {A : Type 0} (f : TokenKind → ℕ → Option A) → GoesOn (entry_of f)
entry_on f ts d e = begun_here (entry_of f) ts d false (entry_fault f ts d e)

pub goes_token : (k : TokenKind) → is_kind k k ≡ true → Goes (token_of k) (a_token k ∷ [])
goes_token k itself = record { on = entry_on (just k); all = (0, rw itself refl) }

pub goes_skipped : (k : TokenKind) → is_kind k k ≡ true → Goes (skipped k) (a_token k ∷ [])
goes_skipped k itself = goes_mapped (λ _. tt) (goes_token k itself)

pub goes_identifier : Goes identifier_of (a_name ∷ [])
goes_identifier = record { on = entry_on named; all = (record { name = 65 ∷ []; place = 0 }, refl) }

-- ---- one after the other

-- Behind the first may come v, which the second reads.
pub both_on : {A B : Type 0} {a : Reader A} {b : Reader B} {P : A → Tokens → Type 0} {S : A → Option Token → Type 0} → Exact a P S → GoesOn a → GoesOn b
    → (v : Tokens) → ReadsAll b v → ((x : A) → S x (first v)) → GoesOn (seq a b)
both_on {a = a} {b = b} {P = P} {S = S} ea ga gb v some st ts f e =
    elim (bind_err (a ts) (λ x. b x.1 >>= paired x.0) f e) [
      | inl ae ↦
          let l = ga ts f ae in
          moved a (seq a b) ts f l (λ s w t front is. (
            s ++ v,
            ((w.0, some.0), ap (seq a b) (sym (append_assoc l.front s v)) ∙ rw (read_before a P S (l.front ++ s) v w.0 ea w.1 (st w.0), some.1) refl),
          ))
      | inr w ↦
          let t = ea.sound ts w.0 w.1 in
          elim (bind_err (b w.0.1) (paired w.0.0) f w.2) [
            | inr u ↦ absurd (ok_not_err _ f u.2)
            | inl be ↦
                let l = gb w.0.1 f be in
                record {
                  front = t.front ++ l.front;
                  back = l.back;
                  parts = regrouped _ _ t.front l.front l.back t.parts l.parts;
                  left = l.left;
                  on = inr (behind w.0.0 t.front w.0.1 l.front l.back t.spells l.parts t.stops l.on);
                }
          ]
    ]
  where
    then : (x : _) (u w : Tokens) (y : _) → P x u → S x (first w) → b w ≡ Ok (y, []) → ReadsAll (seq a b) (u ++ w)
    then x u w y g stops e = ((x, y), rw (ea.complete x u w g stops, e) refl)

    behind : (x : _) (u middle front back : Tokens) → P x u → middle ≡ front ++ back → S x (first middle)
        → (front ≡ []) ⊎ ((s : Tokens) × ReadsAll b (front ++ s)) → (s : Tokens) × ReadsAll (seq a b) ((u ++ front) ++ s)
    behind x u middle [] back g parts stops on =
        (v, subst (ReadsAll (seq a b)) (ap (λ (z : Tokens). z ++ v) (sym (append-nil u))) (then x u v some.0 g (st x) some.1))
    behind x u middle (t ∷ front) back g parts stops (inl e) = absurd cc
    behind x u middle (t ∷ front) back g parts stops (inr r) = (
      r.0,
      subst (ReadsAll (seq a b)) (sym (append_assoc u (t ∷ front) r.0)) (then x u ((t ∷ front) ++ r.0) r.1.0 g (subst (λ (z : Tokens). S x
          (first z)) parts stops) r.1.1),
    )

pub goes_both : {A B : Type 0} {a : Reader A} {b : Reader B} {P : A → Tokens → Type 0} {S : A → Option Token → Type 0} {u v : Tokens} → Exact a P S → Goes a u
    → Goes b v → ((x : A) → S x (first v)) → Goes (seq a b) (u ++ v)
goes_both {a = a} {b = b} {P = P} {S = S} {u = u} {v = v} ea ga gb st =
    record {
      on = both_on ea ga.on gb.on v gb.all st;
      all = ((ga.all.0, gb.all.0), rw (read_before a P S u v ga.all.0 ea ga.all.1 (st ga.all.0), gb.all.1) refl);
    }

-- the second reads v, and hangs on what the first gives
pub after_on : {A B : Type 0} {a : Reader A} {b : A → Reader B} {P : A → Tokens → Type 0} {S : A → Option Token → Type 0} → Exact a P S → GoesOn a
    → ((x : A) (u : Tokens) → P x u → GoesOn (b x)) → ((x : A) (u : Tokens) → P x u → (v : Tokens) × ReadsAll (b x) v × S x (first v)) → GoesOn (after a b)
after_on {a = a} {b = b} {P = P} {S = S} ea ga gb some ts f e =
    elim (bind_err (a ts) (λ x. b x.0 x.1) f e) [
      | inl ae ↦
          let l = ga ts f ae in
          moved a (after a b) ts f l (λ s w t front is.
          let k = ea.sound (l.front ++ s) (w.0, []) w.1 in
          let m = some w.0 k.front k.spells in (
            s ++ m.0,
            (
              m.1.0,
              ap (after a b) (sym (append_assoc l.front s m.0))
                  ∙ rw (read_before a P S (l.front ++ s) m.0 w.0 ea w.1 m.2) m.1.1,
            ),
          ))
      | inr w ↦
          let t = ea.sound ts w.0 w.1 in
          let l = gb w.0.0 t.front t.spells w.0.1 f w.2 in
          record {
            front = t.front ++ l.front;
            back = l.back;
            parts = regrouped _ _ t.front l.front l.back t.parts l.parts;
            left = l.left;
            on = inr (behind w.0.0 t.front w.0.1 l.front l.back t.spells l.parts t.stops l.on);
          }
    ]
  where
    then : (x : _) (u w : Tokens) → P x u → S x (first w) → ReadsAll (b x) w → ReadsAll (after a b) (u ++ w)
    then x u w g stops e = (e.0, rw (ea.complete x u w g stops) e.1)

    behind : (x : _) (u middle front back : Tokens) → P x u → middle ≡ front ++ back → S x (first middle)
        → (front ≡ []) ⊎ ((s : Tokens) × ReadsAll (b x) (front ++ s)) → (s : Tokens) × ReadsAll (after a b) ((u ++ front) ++ s)
    behind x u middle [] back g parts stops on =
        let m = some x u g in
        (m.0, subst (ReadsAll (after a b)) (ap (λ (z : Tokens). z ++ m.0) (sym (append-nil u))) (then x u m.0 g m.2 m.1))
    behind x u middle (t ∷ front) back g parts stops (inl e) = absurd cc
    behind x u middle (t ∷ front) back g parts stops (inr r) = (
      r.0,
      subst (ReadsAll (after a b)) (sym (append_assoc u (t ∷ front) r.0)) (then x u ((t ∷ front) ++ r.0) g (subst (λ (z : Tokens). S x
          (first z)) parts stops) r.1),
    )

-- where the second takes the same tokens for each that the first gives
pub goes_after : {A B : Type 0} {a : Reader A} {b : A → Reader B} {P : A → Tokens → Type 0} {S : A → Option Token → Type 0} {u v : Tokens} → Exact a P S
    → Goes a u → ((x : A) (w : Tokens) → P x w → Goes (b x) v) → ((x : A) (w : Tokens) → P x w → S x (first v)) → Goes (after a b) (u ++ v)
goes_after {a = a} {b = b} {P = P} {S = S} {u = u} {v = v} ea ga gb st =
    let t = ea.sound u (ga.all.0, []) ga.all.1 in
    let g = gb ga.all.0 t.front t.spells in
    record {
      on = after_on ea ga.on (λ x w h. (gb x w h).on) (λ x w h. (v, (gb x w h).all, st x w h));
      all = (g.all.0, rw (read_before a P S u v ga.all.0 ea ga.all.1 (st ga.all.0 t.front t.spells)) g.all.1);
    }

pub goes_placed : {B : Type 0} {b : Reader B} {v : Tokens} (k : TokenKind) → is_kind k k ≡ true → Goes b v → Goes (seq (token_of k) b) (a_token k ∷ v)
goes_placed k itself gb = goes_both (exact_token k itself) (goes_token k itself) gb (λ x. tt)

pub goes_named : {B : Type 0} {b : Reader B} {v : Tokens} → Goes b v → Goes (seq identifier_of b) (a_name ∷ v)
goes_named gb = goes_both exact_identifier goes_identifier gb (λ x. tt)

pub goes_past : {B : Type 0} {b : Reader B} {v : Tokens} (k : TokenKind) → is_kind k k ≡ true → Goes b v → Goes (past k b) (a_token k ∷ v)
goes_past {b = b} {v = v} k itself gb =
    record {
      on = after_on {b = λ _. b} (exact_token k itself) (goes_token k itself).on (λ x u g. gb.on) (λ x u g. (v, gb.all, tt));
      all = (gb.all.0, rw itself gb.all.1);
    }

pub goes_ended : {A : Type 0} {a : Reader A} {b : Reader (Unit {0})} {P : A → Tokens → Type 0} {S : A → Option Token → Type 0} {u v : Tokens} → Exact a P S
    → Goes a u → Goes b v → ((x : A) → S x (first v)) → Goes (ended a b) (u ++ v)
goes_ended {A = A} {a = a} {b = b} {P = P} {S = S} {u = u} {v = v} ea ga gb st =
    record {
      on = after_on {b = λ x. mapped (λ _. x) b} ea ga.on (λ x w g. mapped_on (λ _. x) gb.on) (λ x w g. (v, (x, rw gb.all.1 refl), st x));
      all = (ga.all.0, rw (read_before a P S u v ga.all.0 ea ga.all.1 (st ga.all.0), gb.all.1) refl);
    }

-- a changed value, and then another
pub goes_mapped_both : {A B C : Type 0} {a : Reader A} {b : Reader B} {P : A → Tokens → Type 0} {S : A → Option Token → Type 0} {u v : Tokens} (f : A → C)
    → Exact a P S → Goes a u → Goes b v → ((x : A) → S x (first v)) → Goes (seq (mapped f a) b) (u ++ v)
goes_mapped_both {A = A} {B = B} {C = C} {a = a} {b = b} f ea ga gb st =
    goes_same (λ ts. regroup (a ts)) (goes_mapped with_first (goes_both ea ga gb st))
  where
    with_first : A × B → C × B
    with_first x = (f x.0, x.1)

    inner : (x : A) (r : Read B) → ((r >>= paired x) >>= changed with_first) ≡ (r >>= paired (f x))
    inner x (Ok y) = refl
    inner x (Err e) = refl

    regroup : (r : Read A) → ((r >>= λ x. b x.1 >>= paired x.0) >>= changed with_first) ≡ ((r >>= changed f) >>= λ x. b x.1 >>= paired x.0)
    regroup (Ok x) = inner x.0 (b x.1)
    regroup (Err e) = refl

-- ---- which one, as the next token says

choose_on : {A : Type 0} (p : Option Token → Bool) {a b : Reader A} → GoesOn a → GoesOn b → GoesOn (choose p a b)
choose_on p {a} {b} ga gb ts f e =
    elim (chosen (p (first ts)) (a ts) (b ts) (Err f) e) [
      | inl w ↦
          let l = ga ts f w.1 in
          moved a (choose p a b) ts f l (λ s r t front is. (
            s,
            (
              r.0,
              ap (λ (c : Bool). cond c (a (l.front ++ s)) (b (l.front ++ s))) (stays l.front l.back t front s is l.parts w.0) ∙ r.1,
            ),
          ))
      | inr w ↦
          let l = gb ts f w.1 in
          moved b (choose p a b) ts f l (λ s r t front is. (
            s,
            (
              r.0,
              ap (λ (c : Bool). cond c (a (l.front ++ s)) (b (l.front ++ s))) (stays l.front l.back t front s is l.parts w.0) ∙ r.1,
            ),
          ))
    ]
  where
    stays : {c : Bool} (f g : Tokens) (t : Token) (front s : Tokens) → f ≡ t ∷ front → ts ≡ f ++ g → p (first ts) ≡ c → p (first (f ++ s)) ≡ c
    stays f g t front s is parts h =
        ap (λ (z : Tokens). p (first (z ++ s))) is ∙ sym (ap (λ (z : Tokens). p (first (z ++ g))) is) ∙ ap (λ (z : Tokens). p (first z)) (sym parts) ∙ h

-- where v is read by the second, by the first
pub goes_if : {A : Type 0} (p : Option Token → Bool) {a b : Reader A} {v : Tokens} → p (first v) ≡ false → GoesOn a → Goes b v → Goes (choose p a b) v
goes_if p h ga gb = record { on = choose_on p ga gb.on; all = (gb.all.0, rw h gb.all.1) }

pub goes_first : {A : Type 0} (p : Option Token → Bool) {a b : Reader A} {v : Tokens} → p (first v) ≡ true → Goes a v → GoesOn b → Goes (choose p a b) v
goes_first p h ga gb = record { on = choose_on p ga.on gb; all = (ga.all.0, rw h ga.all.1) }

pub if_on : {A : Type 0} (p : Option Token → Bool) {a b : Reader A} → GoesOn a → GoesOn b → GoesOn (choose p a b)
if_on p ga gb = choose_on p ga gb

pub goes_perhaps : {A : Type 0} (p : Option Token → Bool) {a : Reader A} → p None ≡ false → GoesOn a → Goes (perhaps p a) []
goes_perhaps p none ga = goes_if p none (mapped_on Some ga) (goes_nothing None)

pub goes_either : {A B : Type 0} (p : Option Token → Bool) {a : Reader A} {b : Reader B} {v : Tokens} → p (first v) ≡ false → GoesOn a → Goes b v
    → Goes (either p a b) v
goes_either p h ga gb = goes_if p h (mapped_on Left ga) (goes_mapped Right gb)

pub goes_left : {A B : Type 0} (p : Option Token → Bool) {a : Reader A} {b : Reader B} {v : Tokens} → p (first v) ≡ true → Goes a v → GoesOn b
    → Goes (either p a b) v
goes_left p h ga gb = goes_first p h (goes_mapped Left ga) (mapped_on Right gb)

pub goes_flag : (k : TokenKind) → is_kind k k ≡ true → Goes (flag k) []
goes_flag k itself = goes_if (is_first k) refl (mapped_on (λ place. true) (goes_token k itself).on) (goes_nothing false)

pub by_word_on : {A : Type 0} (f : Option Word → Reader A) → ((w : Option Word) → GoesOn (f w)) → GoesOn (by_word f)
by_word_on f g ts e h =
    let a = f (next_word (first ts)) in
    let l = g (next_word (first ts)) ts e h in
    moved a (by_word f) ts e l (λ s r t front is. (
      s,
      (
        r.0,
        ap (λ (w : Option Word). f w (l.front ++ s))
            (ap (λ (z : Tokens). next_word (first (z ++ s))) is ∙ sym (ap (λ (z : Tokens). next_word (first (z ++ l.back))) is)
            ∙ ap (λ (z : Tokens). next_word (first z)) (sym l.parts)) ∙ r.1,
      ),
    ))

pub goes_by_word : {A : Type 0} (f : Option Word → Reader A) {v : Tokens} → ((w : Option Word) → GoesOn (f w)) → ReadsAll (f (next_word (first v))) v
    → Goes (by_word f) v
goes_by_word f g all = record { on = by_word_on f g; all = all }

-- ---- one, behind which some tokens may not come

pub goes_closed : {A : Type 0} (p : Option Token → Bool) {a : Reader A} {P : A → Tokens → Type 0} {S : A → Option Token → Type 0} {v : Tokens} → p None ≡ false
    → Exact a P S
    → ((x : A) → S x None) → Goes a v → Goes (closed p a) v
goes_closed {A} p {a} {P} {S} none ea at_end ga =
    record {
      on = λ ts f e.
          elim (bind_err (a ts) (checked p) f e) [
            | inl ae ↦
                let l = ga.on ts f ae in
                moved a (closed p a) ts f l (λ s r t front is. (s, (r.0, rw r.1 (rw none refl))))
            | inr w ↦
                elim (chosen (p (first w.0.1)) (refuse false w.0.1) (Ok w.0) (Err f) w.2) [
                  | inr v ↦ absurd (ok_not_err _ f v.1)
                  | inl v ↦
                      let t = ea.sound ts w.0 w.1 in
                      let is = err_is {A = A × Tokens} (record { deep = false; left = length w.0.1 }) f v.1 in
                      record {
                        front = t.front;
                        back = w.0.1;
                        parts = t.parts;
                        left = sym (ap (λ (d : Broken). d.left) is);
                        on = inr ([], (w.0.0, rw (ea.complete w.0.0 t.front [] t.spells (at_end w.0.0)) (rw none refl)));
                      }
                ]
          ];
      all = (ga.all.0, rw ga.all.1 (rw none refl));
    }

-- ---- lists

-- the items in front of the fault, and how they go on
record Items {A : Type 0} (P : A → Tokens → Type 0) (ts : Tokens) (f : Broken) : Type 0 where
  front : Tokens
  back : Tokens
  parts : ts ≡ front ++ back
  left : f.left ≡ length back
  more : Tokens
  items : List A
  spells : each P items (front ++ more)

module _ {A : Type 0} (p : Option Token → Bool) {a : Reader A} {P : A → Tokens → Type 0} {S : A → Option Token → Type 0} (ea : Exact a P S)
    (ga : GoesOn a) where
  abbrev longer : A × Tokens → ℕ → Read (List A)
  longer x n = many_at p a n x.1 >>= λ xs. Ok (x.0 ∷ xs.0, xs.1)

  one_item : (ts : Tokens) (f : Broken) (l : Begun a ts f) → (l.front ≡ []) ⊎ ((s : Tokens) × ReadsAll a (l.front ++ s)) → Items P ts f
  one_item ts f l (inl e) =
      record { front = l.front; back = l.back; parts = l.parts; left = l.left; more = []; items = []; spells = append-nil l.front ∙ e }
  one_item ts f l (inr g) =
      let t = ea.sound (l.front ++ g.0) (g.1.0, []) g.1.1 in
      let whole : l.front ++ g.0 ≡ t.front = t.parts ∙ append-nil t.front in
      record {
        front = l.front;
        back = l.back;
        parts = l.parts;
        left = l.left;
        more = g.0;
        items = g.1.0 ∷ [];
        spells = (l.front ++ g.0, [], sym (append-nil (l.front ++ g.0)), subst (P g.1.0) (sym whole) t.spells, refl);
      }

  items_of : (n : ℕ) (ts : Tokens) (f : Broken) → many_at p a n ts ≡ Err f → Items P ts f
  items_of zero ts f e = absurd (ok_not_err _ f e)
  items_of (suc n) ts f e =
      elim (chosen (p (first ts)) (a ts >>= λ y. longer y n) (Ok ([], ts)) (Err f) e) [
        | inr w ↦ absurd (ok_not_err _ f w.1)
        | inl w ↦
            elim (bind_err (a ts) (λ y. longer y n) f w.1) [
              | inl ae ↦ let l = ga ts f ae in one_item ts f l l.on
              | inr b ↦
                  let t = ea.sound ts b.0 b.1 in
                  elim (bind_err (many_at p a n b.0.1) (λ xs. Ok (b.0.0 ∷ xs.0, xs.1)) f b.2) [
                    | inr c ↦ absurd (ok_not_err _ f c.2)
                    | inl me ↦
                        let l = items_of n b.0.1 f me in
                        record {
                          front = t.front ++ l.front;
                          back = l.back;
                          parts = regrouped _ _ t.front l.front l.back t.parts l.parts;
                          left = l.left;
                          more = l.more;
                          items = b.0.0 ∷ l.items;
                          spells = (t.front, l.front ++ l.more, append_assoc t.front l.front l.more, t.spells, l.spells);
                        }
                  ]
            ]
      ]

  pub goes_many : {T : List A → Option Token → Type 0} → Exact (many p a) (each P) T → ((xs : List A) → T xs None) → Goes (many p a) []
  goes_many em at_end =
      record {
        on = λ ts f e.
            let l = items_of (length ts) ts f e in
            record {
              front = l.front;
              back = l.back;
              parts = l.parts;
              left = l.left;
              on = inr (l.more, all_read (many p a) l.items (l.front ++ l.more) (em.complete l.items (l.front ++ l.more) [] l.spells (at_end l.items)));
            };
        all = ([], refl);
      }

-- an item, and then a list of others: how the list that is made of both goes on
behind_on : {A : Type 0} (p : Option Token → Bool) {a b : Reader A} {P Q : A → Tokens → Type 0} {S R : A → Option Token → Type 0} {list : List A → Tokens
    → Type 0}
    {T : List A → Option Token → Type 0}
    → Exact a P S → GoesOn a → Exact b Q R → GoesOn b → Exact (mapped (λ x. x.0 ∷ x.1) (seq a (many p b))) list T
    → ((x : A) (xs : List A) (s : Tokens) → (P x ⨾ each Q xs) s → list (x ∷ xs) s) → ((xs : List A) → T xs None)
    → GoesOn (mapped (λ x. x.0 ∷ x.1) (seq a (many p b)))
behind_on {A = A} p {a = a} {b = b} {P = P} {Q = Q} {list = list} ea ga eb gb et to at_end ts f e =
    let whole : Reader (List A) = mapped (λ x. x.0 ∷ x.1) (seq a (many p b)) in
    elim (bind_err (seq a (many p b) ts) (λ x. Ok (x.0.0 ∷ x.0.1, x.1)) f e) [
      | inr w ↦ absurd (ok_not_err _ f w.2)
      | inl ae ↦
          elim (bind_err (a ts) (λ x. many p b x.1 >>= paired x.0) f ae) [
            | inl he ↦
                let l = ga ts f he in
                moved a whole ts f l (λ s w t front is.
                let k = ea.sound (l.front ++ s) (w.0, []) w.1 in
                let all : l.front ++ s ≡ k.front = k.parts ∙ append-nil k.front in
                let spelled : (P w.0 ⨾ each Q []) (l.front ++ s) = (
                  l.front ++ s,
                  [],
                  sym (append-nil (l.front ++ s)),
                  subst (P w.0)
                      (sym all) k.spells,
                  refl,
                ) in
                (s, all_read whole (w.0 ∷ []) (l.front ++ s) (et.complete (w.0 ∷ []) (l.front ++ s) [] (to w.0 [] (l.front ++ s) spelled) (at_end (w.0 ∷ [])))))
            | inr w ↦
                let t = ea.sound ts w.0 w.1 in
                elim (bind_err (many p b w.0.1) (paired w.0.0) f w.2) [
                  | inr v ↦ absurd (ok_not_err _ f v.2)
                  | inl me ↦
                      let l = items_of p eb gb (length w.0.1) w.0.1 f me in
                      let grouped : (t.front ++ l.front) ++ l.more ≡ t.front ++ (l.front ++ l.more) = append_assoc t.front l.front l.more in
                      let spelled : (P w.0.0 ⨾ each Q l.items) ((t.front ++ l.front) ++ l.more) = (t.front, l.front ++ l.more, grouped, t.spells, l.spells) in
                      record {
                        front = t.front ++ l.front;
                        back = l.back;
                        parts = regrouped _ _ t.front l.front l.back t.parts l.parts;
                        left = l.left;
                        on = inr (
                          l.more,
                          all_read whole (w.0.0 ∷ l.items) ((t.front ++ l.front) ++ l.more)
                              (et.complete (w.0.0 ∷ l.items) ((t.front ++ l.front) ++ l.more) [] (to w.0.0 l.items _ spelled) (at_end (w.0.0 ∷ l.items))),
                        );
                      }
                ]
          ]
    ]

-- what one item spells, the list of it spells
one_read : {A : Type 0} (p : Option Token → Bool) (a b : Reader A) {P Q : A → Tokens → Type 0} {S : A → Option Token → Type 0} {list : List A → Tokens → Type 0}
    {T : List A → Option Token → Type 0} {u : Tokens}
    → Exact a P S → ReadsAll a u → Exact (mapped (λ x. x.0 ∷ x.1) (seq a (many p b))) list T
    → ((x : A) (xs : List A) (s : Tokens) → (P x ⨾ each Q xs) s → list (x ∷ xs) s) → ((xs : List A) → T xs None)
    → ReadsAll (mapped (λ x. x.0 ∷ x.1) (seq a (many p b))) u
one_read p a b {P = P} {Q = Q} {u = u} ea all et to at_end =
    let k = ea.sound u (all.0, []) all.1 in
    let spelled : (P all.0 ⨾ each Q []) u = (u, [], sym (append-nil u), subst (P all.0) (sym (k.parts ∙ append-nil k.front)) k.spells, refl) in
    all_read (mapped (λ x. x.0 ∷ x.1) (seq a (many p b))) (all.0 ∷ []) u (et.complete (all.0 ∷ []) u [] (to all.0 [] u spelled) (at_end (all.0 ∷ [])))

-- one or more
pub goes_several : {A : Type 0} (p : Option Token → Bool) {a : Reader A} {P : A → Tokens → Type 0} {S : A → Option Token → Type 0} {T : List A
    → Option Token → Type 0}
    {u : Tokens} → Exact a P S → Goes a u → Exact (several p a) (some P) T → ((xs : List A) → T xs None) → Goes (several p a) u
goes_several p ea ga et at_end =
    record {
      on = behind_on p ea ga.on ea ga.on et (λ x xs s g. g) at_end;
      all = one_read p _ _ ea ga.all et (λ x xs s g. g) at_end;
    }

-- one or more, with tokens between them
pub goes_separated : {A : Type 0} (k : TokenKind) (itself : is_kind k k ≡ true) (a : Reader A) (P : A → Tokens → Type 0) (S : A → Option Token → Type 0)
    (ea : Exact a P S) (goes : (x : A) (o : Option Token) → is_first k o ≡ true → S x o) {T : List A → Option Token → Type 0} {u : Tokens} → Goes a u
    → Exact (separated_by k a) (separated k P) T → ((xs : List A) → T xs None) → Goes (separated_by k a) u
goes_separated k itself a P S ea goes ga et at_end =
    record {
      on = behind_on (is_first k) ea ga.on (exact_next k itself a P S ea goes) (mapped_on _ (goes_both (exact_skipped k itself) (goes_skipped k itself) ga
          (λ x. tt)).on)
          et (λ x xs s g. g) at_end;
      all = one_read (is_first k) _ _ ea ga.all et (λ x xs s g. g) at_end;
    }

-- ---- levels

pub opened_on : {R A : Type 0} (d : Option R) (f : R → Reader A) → ((r : R) → d ≡ Some r → GoesOn (f r)) → GoesOn (opened d f)
opened_on None f g = refuse_on true
opened_on (Some r) f g = g r refl
