-- How a loop goes along the row of a text.
use Rattle.std.proofs.Common.{◌≡◌, ℕ, ◌+◌, ◌-◌, ◌≤◌, ◌<◌, Bool, true, false, cond, ◌⊎◌, List, [], ◌∷◌, ◌++◌, length, take, drop, Some, None, Ok, Err, refl, sym, ap, ◌∙◌, subst, inl, inr, arith, append_assoc, length-append, length-drop}
use Rattle.std.specs.Prelude.{nat_lt, MatchResult}
use Rattle.std.proofs.Math.Seq.{take-length}
use Rattle.std.proofs.Math.ListN.{drop_of_length-le}
use Rattle.std.proofs.lemmas.Bool.{le-ltb, lt-ltb, ltb-true, ltb-false}
use Rattle.std.proofs.lemmas.List.{append-nil, drop-drop}
use Rattle.lexer.specs.declared.token.Token.{Token}
use Rattle.lexer.specs.declared.token.TokenKind.{TokenKind}
use Rattle.lexer.specs.declared.fault.Fault.{Fault}
use Rattle.lexer.specs.declared.element.Element.{Element}
use Rattle.lexer.specs.declared.element.Broken.{Broken}
use Rattle.lexer.specs.Fault.{memory_fault}
use Rattle.base.specs.declared.limits.TheConstants.{TEXT_LIMIT}
use Rattle.lexer.specs.Spelling.{Row, Here, Spells, Breaks, IsBroken, TooLong, At, IsRefusedForMemory}
use Rattle.lexer.specs.Reading.{Reading, element_at, token_list, tokens_of, fault_at}
use Rattle.lexer.proofs.Sound.{IsRight}
use Rattle.lexer.proofs.Broken.{breaks_read}
use Rattle.lexer.proofs.Rows.{append, row_length, row_forward, breaks_inside, right, there, Ends, nothing_ends, broken_ends, next, stops}

-- what is read lies in the text
abbrev pub LiesIn : List ℕ → Reading → Type 0
LiesIn text reading = MatchResult reading (λ element. (0 < element.length) × (element.length ≤ length text)) (λ broken. broken.offset < length text)

lies_in : (text : List ℕ) (r : Reading) → IsRight 0 text r → LiesIn text r
lies_in text (Ok e) is = (is.some, omega (arith, row_length is.row, length-drop e.length text, is.some))
lies_in text (Err b) is = breaks_inside is

pub element_lies : (at : ℕ) (text : List ℕ) (r : Reading) → at < length text → r ≡ element_at (drop at text) → LiesIn (drop at text) r
element_lies at text r inside read = let some : 0 < length (drop at text) = omega (arith, length-drop at text, inside) in subst (LiesIn (drop at text)) (sym read) (lies_in (drop at text) (element_at (drop at text)) (right 0 (drop at text) some))

-- the tokens of the front of a text, and what is left of each row over it
pub record Reads (text : List ℕ) (at : ℕ) (found : List Token) : Type 0 where
  pub inside : at ≤ length text
  pub short : at ≤ TEXT_LIMIT
  pub row : Row at (drop at text) 0 text found
  pub only : (place : ℕ) (last : List ℕ) (tokens : List Token) → Ends last → Row place last 0 text tokens → (others : List Token) × (tokens ≡ found ++ others) × Row place last at (drop at text) others

pub start : (text : List ℕ) → Reads text 0 []
start text = record { inside = omega arith; short = omega arith; row = Here; only = λ place last tokens ends row. (tokens, refl, row) }

pub more : (text : List ℕ) (at : ℕ) (found : List Token) (e : Element) → Reads text at found → at < length text → element_at (drop at text) ≡ Ok e → at + e.length ≤ TEXT_LIMIT → Reads text (at + e.length) (found ++ tokens_of at e)
more text at found e so_far inside read short =
    let some : 0 < length (drop at text) = omega (arith, length-drop at text, inside) in
    let is = there at (drop at text) e some read in
    let lies = row_length is.row in
    let behind : drop e.length (drop at text) ≡ drop (at + e.length) text = drop-drop e.length at text in
    record {
      inside = omega (arith, lies, length-drop at text, length-drop e.length (drop at text), inside, is.some);
      short = short;
      row = append so_far.row (subst (λ s. Row (at + e.length) s at (drop at text) (tokens_of at e)) behind is.row);
      only = λ place last tokens ends row.
          let o = so_far.only place last tokens ends row in
          let f = next place last at (drop at text) o.0 e ends read o.2 in
          (f.others, o.1 ∙ (ap (λ l. found ++ l) f.first ∙ sym (append_assoc found (tokens_of at e) f.others)), subst (λ s. Row place last (at + e.length) s f.others) behind f.row);
    }

-- at the text's end
pub spelled : (text : List ℕ) (at : ℕ) (found : List Token) → Reads text at found → length text ≤ at → Spells text found
spelled text at found so_far all =
    let same : at ≡ length text = omega (arith, so_far.inside) in
    record { short = omega (arith, so_far.short); row = subst (λ n. Row n [] 0 text found) same (subst (λ s. Row at s 0 text found) (drop_of_length-le text all) so_far.row) }

pub only_spelled : (text : List ℕ) (at : ℕ) (found tokens : List Token) → Reads text at found → length text ≤ at → Spells text tokens → found ≡ tokens
only_spelled text at found tokens so_far all spells =
    let o = so_far.only (length text) [] tokens nothing_ends spells.row in
    let row : Row (length text) [] at [] o.0 = subst (λ s. Row (length text) [] at s o.0) (drop_of_length-le text all) o.2 in
    sym (o.1 ∙ (ap (λ l. found ++ l) (stops (length text) [] at [] o.0 nothing_ends row).none ∙ append-nil found))

pub none_broken : (text : List ℕ) (at : ℕ) (found : List Token) (f : Fault) → Reads text at found → length text ≤ at → IsBroken text f → ⊥
none_broken text at found f so_far all (TooLong long) = omega (arith, so_far.short, long)
none_broken text at found f so_far all (At {place = place} {left = left} {tokens = tokens} row breaks near) =
    let o = so_far.only place left tokens (broken_ends breaks) row in
    let row' : Row place left at [] o.0 = subst (λ s. Row place left at s o.0) (drop_of_length-le text all) o.2 in
    omega (arith, breaks_inside breaks, ap length (stops place left at [] o.0 nothing_ends row').left)

-- where the text is too long
pub too_long : (text : List ℕ) (number place : ℕ) → TEXT_LIMIT ≤ place → place < length text → IsBroken text (fault_at number place)
too_long text number place far inside = subst (λ b. IsBroken text (cond b (record { number = number; place = place }) (record { number = 1; place = TEXT_LIMIT }))) (sym (le-ltb place TEXT_LIMIT far)) (TooLong (omega arith))

pub long_is_least : (text : List ℕ) (at : ℕ) (found : List Token) (e : Element) (f : Fault) → Reads text at found → element_at (drop at text) ≡ Ok e → TEXT_LIMIT < at + e.length → IsBroken text f → fault_at 1 TEXT_LIMIT ≡ f
long_is_least text at found e f so_far read long (TooLong far) = refl
long_is_least text at found e f so_far read long (At {place = place} {left = left} {tokens = tokens} row breaks near) =
    let o = so_far.only place left tokens (broken_ends breaks) row in
    absurd (omega (arith, near, long, row_forward (next place left at (drop at text) o.0 e (broken_ends breaks) read o.2).row))

-- where an element is broken
pub broken_here : (text : List ℕ) (at : ℕ) (found : List Token) (b : Broken) → Reads text at found → at < length text → element_at (drop at text) ≡ Err b → IsBroken text (fault_at b.number (at + b.offset))
broken_here text at found b so_far inside read = go (nat_lt (at + b.offset) TEXT_LIMIT) refl
  where
    breaks : Breaks b.number b.offset (drop at text)
    breaks = subst (IsRight at (drop at text)) read (right at (drop at text) (omega (arith, length-drop at text, inside)))

    go : (t : Bool) → nat_lt (at + b.offset) TEXT_LIMIT ≡ t → IsBroken text (fault_at b.number (at + b.offset))
    go true near = subst (λ v. IsBroken text (cond v (record { number = b.number; place = at + b.offset }) (record { number = 1; place = TEXT_LIMIT }))) (sym near) (At so_far.row breaks (ltb-true (at + b.offset) TEXT_LIMIT near))
    go false far = too_long text b.number (at + b.offset) (ltb-false (at + b.offset) TEXT_LIMIT far) (omega (arith, breaks_inside breaks, length-drop at text, inside))

err_ends : (text : List ℕ) (b : Broken) → element_at text ≡ Err b → Ends text
err_ends text b read e found = let differs : Ok e ≡ Err b = sym found ∙ read in cc

pub unspelled : (text : List ℕ) (at : ℕ) (found tokens : List Token) (b : Broken) → Reads text at found → at < length text → element_at (drop at text) ≡ Err b → Spells text tokens → ⊥
unspelled text at found tokens b so_far inside read spells =
    let o = so_far.only (length text) [] tokens nothing_ends spells.row in
    omega (arith, inside, length-drop at text, ap length (stops (length text) [] at (drop at text) o.0 (err_ends (drop at text) b read) o.2).left)

near_fault : (number place : ℕ) → place < TEXT_LIMIT → fault_at number place ≡ record { number = number; place = place }
near_fault number place near = ap (λ v. cond v (record { number = number; place = place }) (record { number = 1; place = TEXT_LIMIT })) (lt-ltb place TEXT_LIMIT near)

far_fault : (number place : ℕ) → TEXT_LIMIT ≤ place → fault_at number place ≡ record { number = 1; place = TEXT_LIMIT }
far_fault number place far = ap (λ v. cond v (record { number = number; place = place }) (record { number = 1; place = TEXT_LIMIT })) (le-ltb place TEXT_LIMIT far)

-- no rule is broken before the one that is named
pub broken_is_least : (text : List ℕ) (at : ℕ) (found : List Token) (b : Broken) (f : Fault) → Reads text at found → element_at (drop at text) ≡ Err b → IsBroken text f
    → ((fault_at b.number (at + b.offset)).place < f.place) ⊎ (fault_at b.number (at + b.offset) ≡ f)
broken_is_least text at found b f so_far read (TooLong far) = go (nat_lt (at + b.offset) TEXT_LIMIT) refl
  where
    go : (t : Bool) → nat_lt (at + b.offset) TEXT_LIMIT ≡ t → ((fault_at b.number (at + b.offset)).place < TEXT_LIMIT) ⊎ (fault_at b.number (at + b.offset) ≡ record { number = 1; place = TEXT_LIMIT })
    go true near = inl (subst (λ g. g.place < TEXT_LIMIT) (sym (near_fault b.number (at + b.offset) (ltb-true (at + b.offset) TEXT_LIMIT near))) (ltb-true (at + b.offset) TEXT_LIMIT near))
    go false over = inr (far_fault b.number (at + b.offset) (ltb-false (at + b.offset) TEXT_LIMIT over))
broken_is_least text at found b f so_far read (At {place = place} {offset = offset} {number = number} {left = left} {tokens = tokens} row breaks near) =
    let o = so_far.only place left tokens (broken_ends breaks) row in
    let s = stops place left at (drop at text) o.0 (err_ends (drop at text) b read) o.2 in
    let same : Err b ≡ Err (record { number = number; offset = offset }) = sym read ∙ (ap element_at s.left ∙ breaks_read breaks) in
    let is : b ≡ record { number = number; offset = offset } = cc in
    inr (ap (λ r. fault_at r.number (at + r.offset)) is ∙ (ap (λ p. fault_at number (p + offset)) s.place ∙ near_fault number (place + offset) near))

-- what a slice from an offset on is
rest_is : (at : ℕ) (text : List ℕ) → take (length text - at) (drop at text) ≡ drop at text
rest_is at text = ap (λ n. take n (drop at text)) (sym (length-drop at text)) ∙ take-length (drop at text)

pub read_is : (at : ℕ) (text : List ℕ) (r : Reading) → r ≡ element_at (take (length text - at) (drop at text)) → element_at (drop at text) ≡ r
read_is at text r read = sym (read ∙ ap element_at (rest_is at text))

pub broken_inside : (text : List ℕ) (at : ℕ) (b : Broken) → at < length text → element_at (drop at text) ≡ Err b → at + b.offset < length text
broken_inside text at b inside read = let lies : b.offset < length (drop at text) = element_lies at text (Err b) inside (sym read) in omega (arith, lies, length-drop at text)

pub element_inside : (text : List ℕ) (at : ℕ) (e : Element) → at < length text → element_at (drop at text) ≡ Ok e → (0 < e.length) × (at + e.length ≤ length text)
element_inside text at e inside read =
    let lies : (0 < e.length) × (e.length ≤ length (drop at text)) = element_lies at text (Ok e) inside (sym read) in
    (lies.0, omega (arith, lies.1, length-drop at text))

pub more_token : (text : List ℕ) (at : ℕ) (found : List Token) (e : Element) (kind : TokenKind) → Reads text at found → at < length text → element_at (drop at text) ≡ Ok e → at + e.length ≤ TEXT_LIMIT → e.kind ≡ Some kind
    → Reads text (at + e.length) (found ++ record { kind = kind; start = at; end_ = at + e.length } ∷ [])
more_token text at found e kind so_far inside read short is =
    subst (λ o. Reads text (at + e.length) (found ++ token_list o at (at + e.length))) is (more text at found e so_far inside read short)

pub more_blank : (text : List ℕ) (at : ℕ) (found : List Token) (e : Element) → Reads text at found → at < length text → element_at (drop at text) ≡ Ok e → at + e.length ≤ TEXT_LIMIT → e.kind ≡ None → Reads text (at + e.length) found
more_blank text at found e so_far inside read short is =
    subst (λ l. Reads text (at + e.length) l) (append-nil found) (subst (λ o. Reads text (at + e.length) (found ++ token_list o at (at + e.length))) is (more text at found e so_far inside read short))

-- where memory is refused for a token
pub refused : (text : List ℕ) (at : ℕ) (found : List Token) (e : Element) (kind : TokenKind) (fault : Fault) → fault ≡ memory_fault → Reads text at found → at < length text → element_at (drop at text) ≡ Ok e → at + e.length ≤ TEXT_LIMIT → e.kind ≡ Some kind
    → IsRefusedForMemory text fault
refused text at found e kind fault is so_far inside read short token_is = record {
  memory = is;
  place = at + e.length;
  left = drop (at + e.length) text;
  tokens = found ++ record { kind = kind; start = at; end_ = at + e.length } ∷ [];
  row = (more_token text at found e kind so_far inside read short token_is).row;
  some = omega (arith, length-append found (record { kind = kind; start = at; end_ = at + e.length } ∷ []));
}
