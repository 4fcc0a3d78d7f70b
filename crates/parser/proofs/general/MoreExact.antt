-- Further readers made of exact ones are exact: tokens that are gone past, parts that may be left out, choices.
use Rattle.lexer.specs.declared.token.TokenKind.TheVariants as kinds
use Rattle.parser.specs.Reading as reading
use Rattle.std.proofs.Common.{◌≡◌, ℕ, Bool, true, false, List, [], ◌∷◌, ◌++◌, Option, Some, None, Ok, Err, refl, sym, ap, subst, ◌∙◌, append_assoc, inl, inr}
use Rattle.std.proofs.Common.{◌⊎◌}
use Rattle.lexer.specs.declared.token.Token.{Token}
use Rattle.lexer.specs.declared.token.TokenKind.{TokenKind}
use Rattle.lexer.specs.declared.word.Word.{Word}
use Rattle.ada_tree.specs.declared.expression.Identifier.{Identifier}
use Rattle.ada_tree.specs.Language.{Tokens, nothing, ◌⨾◌, token, token_at, identifier, optional}
use Rattle.parser.specs.Reading.{Read, Reader, ◌>>=◌, first, is_kind, is_first, token_of, skipped, identifier_of, seq, mapped}
use Rattle.parser.specs.MoreReading.{past, ended, perhaps, flag, Either, Left, Right, either, next_word, by_word}
use Rattle.parser.proofs.general.Exact.{Exact, Free, first-append, exact_seq, exact_mapped, exact_nothing, exact_either}
use Rattle.parser.proofs.general.Several.{ManyStops, exact_token, exact_skipped, exact_identifier, token_first}

-- ---- the same reader, written otherwise

pub exact_same : {A : Type 0} {a b : Reader A} {P : A → Tokens → Type 0} {S : A → Option Token → Type 0} → ((ts : Tokens) → a ts ≡ b ts) → Exact a P S
    → Exact b P S
exact_same {a = a} {b = b} same e =
    record {
      sound = λ ts x h. e.sound ts x (same ts ∙ h);
      complete = λ x s r g st. sym (same (s ++ r)) ∙ e.complete x s r g st;
      local = λ ts f h.
          let l = e.local ts f (same ts ∙ h) in
          record { front = l.front; back = l.back; parts = l.parts; left = l.left; again = λ g first_same. sym (same (l.front ++ g)) ∙ l.again g first_same };
    }

-- ---- the first token of what is spelled

-- what is spelled begins with a token of this kind
abbrev pub Heads : TokenKind → (Tokens → Type 0) → Type 0
Heads k P = (s : Tokens) → P s → (t : Token) × (rest : Tokens) × (s ≡ t ∷ rest) × (t.kind ≡ k)

pub heads_token : (k : TokenKind) → Heads k (token k)
heads_token k s g = (g.0, [], g.1, g.2)

pub heads_placed : (k : TokenKind) (place : ℕ) → Heads k (token_at k place)
heads_placed k place s g = (g.0, [], g.1, g.2)

pub heads_identifier : (i : Identifier) → Heads (kinds.Identifier i.name) (identifier i)
heads_identifier i s g = (g.0, [], g.1, g.2)

pub heads_then : (k : TokenKind) (P Q : Tokens → Type 0) → Heads k P → Heads k (P ⨾ Q)
heads_then k P Q h s g =
    let u = h g.0 g.3 in
    (u.0, u.1 ++ g.1, g.2 ∙ ap (λ (z : Tokens). z ++ g.1) u.2, u.3)

-- a fact on the next token, from its kind
pub at_kind : (X : Option Token → Type 0) (k : TokenKind) → ((start end : ℕ) → X (Some (record { kind = k; start = start; end_ = end }))) → (t : Token)
    → t.kind ≡ k → X (Some t)
at_kind X k x t h = subst (λ (kind : TokenKind). X (Some (record { kind = kind; start = t.start; end_ = t.end_ }))) (sym h) (x t.start t.end_)

pub at_head : (X : Option Token → Type 0) (k : TokenKind) (P : Tokens → Type 0) → Heads k P
    → ((start end : ℕ) → X (Some (record { kind = k; start = start; end_ = end })))
    → (s r : Tokens) → P s → X (first (s ++ r))
at_head X k P h x s r g =
    let u = h s g in
    subst (λ (z : Tokens). X (first (z ++ r))) (sym u.2) (at_kind X k x u.0 u.3)

-- what nothing spells has no tokens
pub at_nothing : (X : Option Token → Type 0) (s r : Tokens) → s ≡ [] → X (first r) → X (first (s ++ r))
at_nothing X s r g x = subst (λ (z : Tokens). X (first (z ++ r))) (sym g) x

-- the first token of two parts
pub at_both : (X : Option Token → Type 0) (P Q : Tokens → Type 0) (s r : Tokens) → (P ⨾ Q) s → ((u v : Tokens) → P u → Q v → X (first (u ++ (v ++ r))))
    → X (first (s ++ r))
at_both X P Q s r g x = subst (λ (z : Tokens). X (first z)) (sym (ap (λ (z : Tokens). z ++ r) g.2 ∙ append_assoc g.0 g.1 r)) (x g.0 g.1 g.3 g.4)

pub regroup : (P Q R : Tokens → Type 0) (s : Tokens) → ((P ⨾ Q) ⨾ R) s → (P ⨾ (Q ⨾ R)) s
regroup P Q R s g = (g.3.0, g.3.1 ++ g.1, g.2 ∙ ap (λ (z : Tokens). z ++ g.1) g.3.2 ∙ append_assoc g.3.0 g.3.1 g.1, g.3.3, (g.3.1, g.1, refl, g.3.4, g.4))

pub group : (P Q R : Tokens → Type 0) (s : Tokens) → (P ⨾ (Q ⨾ R)) s → ((P ⨾ Q) ⨾ R) s
group P Q R s g = (g.0 ++ g.4.0, g.4.1, g.2 ∙ ap (λ (z : Tokens). g.0 ++ z) g.4.2 ∙ sym (append_assoc g.0 g.4.0 g.4.1), (g.0, g.4.0, refl, g.3, g.4.3), g.4.4)

-- ---- one after the other

abbrev pub paired : {A B : Type 0} → A → B × Tokens → Read (A × B)
paired x y = Ok ((x, y.0), y.1)

abbrev pub changed : {A B : Type 0} → (A → B) → A × Tokens → Read B
changed f x = Ok (f x.0, x.1)

abbrev pub kept : {A B : Type 0} → A → B × Tokens → Read A
kept x y = Ok (x, y.1)

abbrev unit : ℕ → Unit {0}
unit n = tt

abbrev last : {A B : Type 0} → A × B → B
last x = x.1

abbrev front_of : {A B : Type 0} → A × B → A
front_of x = x.0

abbrev on_first : {A B C : Type 0} → (A → C) → A × B → C × B
on_first f x = (f x.0, x.1)

pub then_exact : {A B : Type 0} {a : Reader A} {b : Reader B} {P : A → Tokens → Type 0} {Q : B → Tokens → Type 0} {SA : A → Option Token → Type 0}
    {SB : B → Option Token → Type 0}
    → Exact a P SA → Exact b Q SB → ((x : A) (y : B) (v r : Tokens) → Q y v → SB y (first r) → SA x (first (v ++ r)))
    → Exact (seq a b) (λ x. P x.0 ⨾ Q x.1) (λ x. SB x.1)
then_exact {A} {B} {a} {b} {P} {Q} {SA} {SB} ea eb fits =
    exact_seq a b P Q SA SB (λ x. SB x.1) ea eb (λ x y v r g st. (fits x y v r g st, st)) (λ x y v r g st h. h)

-- where anything may follow the one
pub free_then : {A B : Type 0} {a : Reader A} {b : Reader B} {P : A → Tokens → Type 0} {Q : B → Tokens → Type 0} {SB : B → Option Token → Type 0}
    → Exact a P Free → Exact b Q SB → Exact (seq a b) (λ x. P x.0 ⨾ Q x.1) (λ x. SB x.1)
free_then ea eb = then_exact ea eb (λ x y v r g st. tt)

pub placed_exact : {B : Type 0} {b : Reader B} {Q : B → Tokens → Type 0} {SB : B → Option Token → Type 0} (k : TokenKind) → is_kind k k ≡ true → Exact b Q SB
    → Exact (seq (token_of k) b) (λ x. token_at k x.0 ⨾ Q x.1) (λ x. SB x.1)
placed_exact k itself eb = free_then (exact_token k itself) eb

pub named_exact : {B : Type 0} {b : Reader B} {Q : B → Tokens → Type 0} {SB : B → Option Token → Type 0} → Exact b Q SB
    → Exact (seq identifier_of b) (λ x. identifier x.0 ⨾ Q x.1) (λ x. SB x.1)
named_exact eb = free_then exact_identifier eb

pub past_exact : {B : Type 0} {b : Reader B} {Q : B → Tokens → Type 0} {SB : B → Option Token → Type 0} (k : TokenKind) → is_kind k k ≡ true → Exact b Q SB
    → Exact (past k b) (λ y. token k ⨾ Q y) SB
past_exact {B} {b} {Q} {SB} k itself eb =
    exact_same (λ ts. past_same (token_of k ts))
    (exact_mapped (λ x. x.1) (seq (skipped k) b) (λ x. token k ⨾ Q x.1) (λ y. token k ⨾ Q y) (λ x. SB x.1) SB (free_then (exact_skipped k itself) eb)
    (λ x ts g. g) (λ y ts g. ((tt, y), g, refl)) (λ x ts o g st. st) (λ x ts o g st. st))
  where
    second : (r : Read B) → ((r >>= paired (unit 0)) >>= changed last) ≡ r
    second (Ok x) = refl
    second (Err f) = refl

    past_same : (r : Read ℕ) → (((r >>= changed unit) >>= λ x. b x.1 >>= paired x.0) >>= changed last) ≡ (r >>= λ x. b x.1)
    past_same (Ok x) = second (b x.1)
    past_same (Err f) = refl

pub ended_by : {A : Type 0} {a : Reader A} {b : Reader (Unit {0})} {P : A → Tokens → Type 0} {Q : Tokens → Type 0} {SA : A → Option Token → Type 0}
    {T : Option Token → Type 0}
    → Exact a P SA → Exact b (λ _. Q) (λ _. T) → ((x : A) (v r : Tokens) → Q v → T (first r) → SA x (first (v ++ r)))
    → Exact (ended a b) (λ x. P x ⨾ Q) (λ _. T)
ended_by {A} {a} {b} {P} {Q} {SA} {T} ea eb fits =
    exact_same (λ ts. ended_same (a ts))
    (exact_mapped (λ x. x.0) (seq a b) (λ x. P x.0 ⨾ Q) (λ x. P x ⨾ Q) (λ x. T) (λ _. T) (then_exact ea eb (λ x y v r g st. fits x v r g st))
    (λ x ts g. g) (λ y ts g. ((y, tt), g, refl)) (λ x ts o g st. st) (λ x ts o g st. st))
  where
    first_of : (x : A) (r : Read (Unit {0})) → ((r >>= paired x) >>= changed front_of) ≡ (r >>= kept x)
    first_of x (Ok y) = refl
    first_of x (Err f) = refl

    ended_same : (r : Read A) → ((r >>= λ x. b x.1 >>= paired x.0) >>= changed front_of) ≡ (r >>= λ x. b x.1 >>= kept x.0)
    ended_same (Ok x) = first_of x.0 (b x.1)
    ended_same (Err f) = refl

pub ended_exact : {A : Type 0} {a : Reader A} {b : Reader (Unit {0})} {P : A → Tokens → Type 0} {Q : Tokens → Type 0} {SA : A → Option Token → Type 0}
    → Exact a P SA → Exact b (λ _. Q) Free → ((x : A) (v r : Tokens) → Q v → SA x (first (v ++ r))) → Exact (ended a b) (λ x. P x ⨾ Q) Free
ended_exact ea eb fits = ended_by ea eb (λ x v r g st. fits x v r g)

pub free_ended : {A : Type 0} {a : Reader A} {b : Reader (Unit {0})} {P : A → Tokens → Type 0} {Q : Tokens → Type 0} → Exact a P Free → Exact b (λ _. Q) Free
    → Exact (ended a b) (λ x. P x ⨾ Q) Free
free_ended ea eb = ended_exact ea eb (λ x v r g. tt)

-- ---- a changed value

pub mapped_exact : {A B : Type 0} {a : Reader A} {PA : A → Tokens → Type 0} {SA : A → Option Token → Type 0} (f : A → B) (PB : B → Tokens → Type 0)
    (SB : B → Option Token → Type 0) → Exact a PA SA
    → ((x : A) (ts : Tokens) → PA x ts → PB (f x) ts)
    → ((y : B) (ts : Tokens) → PB y ts → (x : A) × PA x ts × (f x ≡ y))
    → ((x : A) (o : Option Token) → SA x o → SB (f x) o)
    → ((x : A) (o : Option Token) → SB (f x) o → SA x o)
    → Exact (mapped f a) PB SB
mapped_exact {A} {B} {a} {PA} {SA} f PB SB ea to back stop go = exact_mapped f a PA PB SA SB ea to back (λ x ts o g st. stop x o st) (λ x ts o g st. go x o st)

-- where anything may follow
pub free_mapped : {A B : Type 0} {a : Reader A} {PA : A → Tokens → Type 0} {SA : A → Option Token → Type 0} (f : A → B) (PB : B → Tokens → Type 0)
    → Exact a PA SA
    → ((x : A) (o : Option Token) → SA x o)
    → ((x : A) (ts : Tokens) → PA x ts → PB (f x) ts)
    → ((y : B) (ts : Tokens) → PB y ts → (x : A) × PA x ts × (f x ≡ y))
    → Exact (mapped f a) PB Free
free_mapped f PB ea free to back = mapped_exact f PB Free ea to back (λ x o st. tt) (λ x o st. free x o)

-- a changed value, and then another, which shows that the first is whole
pub mapped_then : {A B C : Type 0} {a : Reader A} {b : Reader B} {P : A → Tokens → Type 0} {Q : B → Tokens → Type 0} {SA : A → Option Token → Type 0}
    {SB : B → Option Token → Type 0} (f : A → C) (R : C → Tokens → Type 0)
    → Exact a P SA → Exact b Q SB → ((x : A) (y : B) (v r : Tokens) → Q y v → SB y (first r) → SA x (first (v ++ r)))
    → ((x : A) (ts : Tokens) → P x ts → R (f x) ts) → ((y : C) (ts : Tokens) → R y ts → (x : A) × P x ts × (f x ≡ y))
    → Exact (seq (mapped f a) b) (λ x. R x.0 ⨾ Q x.1) (λ x. SB x.1)
mapped_then {A} {B} {C} {a} {b} {P} {Q} {SA} {SB} f R ea eb fits to back =
    exact_same (λ ts. mapped_same (a ts))
    (mapped_exact (λ x. (f x.0, x.1)) (λ x. R x.0 ⨾ Q x.1) (λ x. SB x.1) (then_exact ea eb fits)
    (λ x ts g. (g.0, g.1, g.2, to x.0 g.0 g.3, g.4))
    (λ y ts g. let x = back y.0 g.0 g.3 in ((x.0, y.1), (g.0, g.1, g.2, x.1, g.4), ap (λ (z : C). (z, y.1)) x.2))
    (λ x o st. st) (λ x o st. st))
  where
    inner : (x : A) (r : Read B) → ((r >>= paired x) >>= changed (on_first f)) ≡ (r >>= paired (f x))
    inner x (Ok y) = refl
    inner x (Err e) = refl

    mapped_same : (r : Read A) → ((r >>= λ x. b x.1 >>= paired x.0) >>= changed (on_first f)) ≡ ((r >>= changed f) >>= λ x. b x.1 >>= paired x.0)
    mapped_same (Ok x) = inner x.0 (b x.1)
    mapped_same (Err e) = refl

-- ---- one, if it is there

abbrev pub PerhapsStops : {A : Type 0} → (Option Token → Bool) → (A → Option Token → Type 0) → Option A → Option Token → Type 0
PerhapsStops p S None o = p o ≡ false
PerhapsStops p S (Some x) o = S x o

module _ {A : Type 0} {a : Reader A} {P : A → Tokens → Type 0} {S : A → Option Token → Type 0} (p : Option Token → Bool) (ea : Exact a P S)
    (heads : (x : A) (s r : Tokens) → P x s → p (first (s ++ r)) ≡ true) where
  abbrev There : Option A → Tokens → Type 0
  There None s = ⊥
  There (Some x) s = P x s

  abbrev Gone : Option A → Tokens → Type 0
  Gone x s = (x ≡ None) × (s ≡ [])

  gone : (x : Option A) (s r : Tokens) → Gone x s → p (first (s ++ r)) ≡ false → optional P x s × PerhapsStops p S x (first r)
  gone None s r g h = (g.1, subst (λ (z : Tokens). p (first (z ++ r)) ≡ false) g.1 h)
  gone (Some x) s r g h = absurd cc

  there : (x : Option A) (s r : Tokens) → There x s → PerhapsStops p S x (first r) → optional P x s × PerhapsStops p S x (first r)
  there None s r g st = absurd g
  there (Some x) s r g st = (g, st)

  which : (x : Option A) (s r : Tokens) → optional P x s → PerhapsStops p S x (first r)
      → ((p (first (s ++ r)) ≡ true) × There x s × PerhapsStops p S x (first r)) ⊎ ((p (first (s ++ r)) ≡ false) × Gone x s × Free x (first r))
  which None s r g st = inr (subst (λ (z : Tokens). p (first (z ++ r)) ≡ false) (sym g) st, (refl, g), tt)
  which (Some x) s r g st = inl (heads x s r g, g, st)

  pub perhaps_exact : Exact (perhaps p a) (optional P) (PerhapsStops p S)
  perhaps_exact =
      exact_either p (mapped Some a) (reading.nothing None) There Gone (optional P) (PerhapsStops p S) Free (PerhapsStops p S)
      (mapped_exact Some There (PerhapsStops p S) ea (λ x ts g. g) back (λ x o st. st) (λ x o st. st))
      (exact_nothing None)
      (λ x s r g st h. there x s r g st) (λ x s r g st h. gone x s r g h) which
    where
      back : (y : Option A) (ts : Tokens) → There y ts → (x : A) × P x ts × (Some x ≡ y)
      back None ts g = absurd g
      back (Some x) ts g = (x, g, refl)

-- ---- a token that may be left out

abbrev pub Flagged : TokenKind → Bool → Tokens → Type 0
Flagged k false = nothing
Flagged k true = token k

abbrev pub FlagStops : TokenKind → Bool → Option Token → Type 0
FlagStops k false o = is_first k o ≡ false
FlagStops k true o = Unit {0}

module _ (k : TokenKind) (itself : is_kind k k ≡ true) where
  abbrev Set : Bool → Tokens → Type 0
  Set false s = ⊥
  Set true s = token k s

  abbrev Unset : Bool → Tokens → Type 0
  Unset b s = (b ≡ false) × (s ≡ [])

  set : (b : Bool) (s r : Tokens) → Set b s → Flagged k b s × FlagStops k b (first r)
  set false s r g = absurd g
  set true s r g = (g, tt)

  unset : (b : Bool) (s r : Tokens) → Unset b s → is_first k (first (s ++ r)) ≡ false → Flagged k b s × FlagStops k b (first r)
  unset false s r g h = (g.1, subst (λ (z : Tokens). is_first k (first (z ++ r)) ≡ false) g.1 h)
  unset true s r g h = absurd cc

  whether : (b : Bool) (s r : Tokens) → Flagged k b s → FlagStops k b (first r)
      → ((is_first k (first (s ++ r)) ≡ true) × Set b s × Free b (first r)) ⊎ ((is_first k (first (s ++ r)) ≡ false) × Unset b s × Free b (first r))
  whether false s r g st = inr (subst (λ (z : Tokens). is_first k (first (z ++ r)) ≡ false) (sym g) st, (refl, g), tt)
  whether true s r g st = inl (token_first k itself s r g, g, tt)

  set_back : (y : Bool) (ts : Tokens) → Set y ts → (x : ℕ) × token_at k x ts × (true ≡ y)
  set_back false ts g = absurd g
  set_back true ts g = (g.0.start, (g.0, g.1, g.2, refl), refl)

  pub flag_exact : Exact (flag k) (Flagged k) (FlagStops k)
  flag_exact =
      exact_either (is_first k) (mapped (λ place. true) (token_of k)) (reading.nothing false) Set Unset (Flagged k) Free Free (FlagStops k)
      (free_mapped (λ place. true) Set (exact_token k itself) (λ x o. tt) (λ x ts g. (g.0, g.1, g.2)) set_back)
      (exact_nothing false)
      (λ b s r g st h. set b s r g) (λ b s r g st h. unset b s r g h) whether

-- ---- the one or the other

abbrev pub EitherSpells : {A B : Type 0} → (A → Tokens → Type 0) → (B → Tokens → Type 0) → Either A B → Tokens → Type 0
EitherSpells P Q (Left x) = P x
EitherSpells P Q (Right y) = Q y

abbrev pub EitherStops : {A B : Type 0} → (A → Option Token → Type 0) → (B → Option Token → Type 0) → Either A B → Option Token → Type 0
EitherStops S T (Left x) = S x
EitherStops S T (Right y) = T y

module _ {A B : Type 0} {a : Reader A} {b : Reader B} {P : A → Tokens → Type 0} {Q : B → Tokens → Type 0} {S : A → Option Token → Type 0}
    {T : B → Option Token → Type 0} (p : Option Token → Bool)
    (ea : Exact a P S) (eb : Exact b Q T) (heads : (x : A) (s r : Tokens) → P x s → p (first (s ++ r)) ≡ true) (others : (y : B) (s r : Tokens) → Q y s
    → T y (first r) → p (first (s ++ r)) ≡ false) where
  abbrev OnLeft : Either A B → Tokens → Type 0
  OnLeft (Left x) s = P x s
  OnLeft (Right y) s = ⊥

  abbrev OnRight : Either A B → Tokens → Type 0
  OnRight (Left x) s = ⊥
  OnRight (Right y) s = Q y s

  left_back : (y : Either A B) (ts : Tokens) → OnLeft y ts → (x : A) × P x ts × (Left x ≡ y)
  left_back (Left x) ts g = (x, g, refl)
  left_back (Right y) ts g = absurd g

  right_back : (y : Either A B) (ts : Tokens) → OnRight y ts → (x : B) × Q x ts × (Right x ≡ y)
  right_back (Left x) ts g = absurd g
  right_back (Right y) ts g = (y, g, refl)

  to_left : (x : Either A B) (s : Tokens) → OnLeft x s → EitherSpells P Q x s
  to_left (Left x) s g = g
  to_left (Right y) s g = absurd g

  to_right : (x : Either A B) (s : Tokens) → OnRight x s → EitherSpells P Q x s
  to_right (Left x) s g = absurd g
  to_right (Right y) s g = g

  one_or_other : (x : Either A B) (s r : Tokens) → EitherSpells P Q x s → EitherStops S T x (first r)
      → ((p (first (s ++ r)) ≡ true) × OnLeft x s × EitherStops S T x (first r)) ⊎ ((p (first (s ++ r)) ≡ false) × OnRight x s × EitherStops S T x (first r))
  one_or_other (Left x) s r g st = inl (heads x s r g, g, st)
  one_or_other (Right y) s r g st = inr (others y s r g st, g, st)

  pub either_exact : Exact (either p a b) (EitherSpells P Q) (EitherStops S T)
  either_exact =
      exact_either p (mapped Left a) (mapped Right b) OnLeft OnRight (EitherSpells P Q) (EitherStops S T) (EitherStops S T) (EitherStops S T)
      (mapped_exact Left OnLeft (EitherStops S T) ea (λ x ts g. g) left_back (λ x o st. st) (λ x o st. st))
      (mapped_exact Right OnRight (EitherStops S T) eb (λ x ts g. g) right_back (λ x o st. st) (λ x o st. st))
      (λ x s r g st h. (to_left x s g, st)) (λ x s r g st h. (to_right x s g, st)) one_or_other

-- ---- as the next word says

pub by_word_exact : {A : Type 0} (f : Option Word → Reader A) (Q : Option Word → A → Tokens → Type 0) (P : A → Tokens → Type 0)
    → ((w : Option Word) → Exact (f w) (Q w) Free)
    → ((w : Option Word) (x : A) (s : Tokens) → Q w x s → P x s) → ((x : A) (s r : Tokens) → P x s → Q (next_word (first (s ++ r))) x s)
    → Exact (by_word f) P Free
by_word_exact f Q P ef to back =
    record {
      sound = λ ts x h.
          let w = next_word (first ts) in
          let t = (ef w).sound ts x h in
          record { front = t.front; spells = to w x.0 t.front t.spells; parts = t.parts; stops = tt };
      complete = λ x s r g st. (ef (next_word (first (s ++ r)))).complete x s r (back x s r g) tt;
      local = λ ts d h.
          let w = next_word (first ts) in
          let l = (ef w).local ts d h in
          record {
            front = l.front;
            back = l.back;
            parts = l.parts;
            left = l.left;
            again = λ g same.
                let is : next_word (first (l.front ++ g)) ≡ w = ap next_word (first-append l.front g l.back same ∙ ap first (sym l.parts)) in
                ap (λ (v : Option Word). f v (l.front ++ g)) is ∙ l.again g same;
          };
    }

-- ---- the token after

pub at_token : (X : Option Token → Type 0) (k : TokenKind) → ((start end : ℕ) → X (Some (record { kind = k; start = start; end_ = end }))) → (s r : Tokens)
    → token k s → X (first (s ++ r))
at_token X k x s r g = at_head X k (token k) (heads_token k) x s r g

pub at_past : {Q : Tokens → Type 0} (X : Option Token → Type 0) (k : TokenKind) → ((start end : ℕ) → X (Some (record { kind = k; start = start; end_ = end })))
    → (s r : Tokens) → (token k ⨾ Q) s → X (first (s ++ r))
at_past {Q} X k x s r g = at_head X k (token k ⨾ Q) (heads_then k (token k) Q (heads_token k)) x s r g

pub at_placed : {Q : Tokens → Type 0} (X : Option Token → Type 0) (k : TokenKind) (place : ℕ)
    → ((start end : ℕ) → X (Some (record { kind = k; start = start; end_ = end }))) → (s r : Tokens) → (token_at k place ⨾ Q) s → X (first (s ++ r))
at_placed {Q} X k place x s r g = at_head X k (token_at k place ⨾ Q) (heads_then k (token_at k place) Q (heads_placed k place)) x s r g

pub at_name : {Q : Tokens → Type 0} (X : Option Token → Type 0) (i : Identifier)
    → ((start end : ℕ) → X (Some (record { kind = kinds.Identifier i.name; start = start; end_ = end }))) → (s r : Tokens) → (identifier i ⨾ Q) s
    → X (first (s ++ r))
at_name {Q} X i x s r g =
    at_head X (kinds.Identifier i.name) (identifier i ⨾ Q) (heads_then (kinds.Identifier i.name) (identifier i) Q (heads_identifier i)) x s r g

pub many_stop : {A : Type 0} (p : Option Token → Bool) (S : Option Token → Type 0) (o : Option Token) → p o ≡ false → S o → (xs : List A) → ManyStops p S xs o
many_stop p S o h s [] = h
many_stop p S o h s (x ∷ xs) = (h, s)

pub set_stop : (k : TokenKind) (o : Option Token) → is_first k o ≡ false → (b : Bool) → FlagStops k b o
set_stop k o h false = h
set_stop k o h true = tt

pub perhaps_stop : {A : Type 0} (p : Option Token → Bool) (S : A → Option Token → Type 0) (o : Option Token) → p o ≡ false → ((x : A) → S x o) → (x : Option A)
    → PerhapsStops p S x o
perhaps_stop p S o h s None = h
perhaps_stop p S o h s (Some x) = s x

abbrev pub Any : Option Token → Type 0
Any o = Unit {0}
