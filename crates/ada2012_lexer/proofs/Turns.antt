-- How the loop over a text goes along its elements.
use Rattle.std.proofs.Common.{◌≡◌, ℕ, zero, suc, ◌+◌, ◌-◌, ◌<◌, ◌≤◌, Bool, false, List, [], ◌∷◌, ◌++◌, length, map, take, drop, Ok, Err, refl, sym, ap, ◌∙◌, subst, arith, append_assoc, length-drop}
use Rattle.std.proofs.Math.Seq.{take-length}
use Rattle.std.proofs.lemmas.List.{append-nil, drop-drop, map-append}
use Rattle.ada2012_lexer.specs.declared.element.Broken.{Broken}
use Rattle.ada2012_lexer.specs.declared.element.Element.{Element}
use Rattle.ada2012_lexer.specs.declared.element.ElementKind.{ElementKind}
use Rattle.ada2012_lexer.specs.declared.element.ElementKind.TheVariants as elements
use Rattle.ada2012_lexer.specs.declared.token.Span.{Span}
use Rattle.ada2012_lexer.specs.declared.token.Token.{Token}
use Rattle.ada2012_lexer.specs.Elements.{ElementReading, element_at}
use Rattle.ada2012_lexer.specs.Reading.{AreSpansInOrder, TextReading, comments_of, elements_from, read_on, span_of, tick_after, tokens_of, with_element}

-- these tokens and comments, and then those of a reading
abbrev pub joined : List Token → List Span → TextReading → TextReading
joined tokens comments (Err fault) = Err fault
joined tokens comments (Ok found) = Ok (record { tokens = tokens ++ found.tokens; comments = comments ++ found.comments })

-- the characters of an element that began before are passed over
skips : (tick : Bool) (n at : ℕ) (text : List ℕ) → elements_from tick n at text ≡ elements_from tick zero (at + n) (drop n text)
skips tick zero at text = ap (λ p. elements_from tick zero p text) (let same : at ≡ at + zero = omega arith in same)
skips tick (suc n) at [] = refl
skips tick (suc n) at (c ∷ text) =
    skips tick n (at + 1) text ∙ ap (λ p. elements_from tick zero p (drop n text)) (let same : (at + 1) + n ≡ at + suc n = omega arith in same)

behind : (tick : Bool) (n at c : ℕ) (text : List ℕ) → 0 < n → elements_from tick (n - 1) (at + 1) text ≡ elements_from tick zero (at + n) (drop n (c ∷ text))
behind tick zero at c text some = absurd (omega (arith, some))
behind tick (suc n) at c text some =
    ap (λ k. elements_from tick k (at + 1) text) (let same : suc n - 1 ≡ n = omega arith in same) ∙ (skips tick n (at + 1) text
    ∙ ap (λ p. elements_from tick zero p (drop n text)) (let same : (at + 1) + n ≡ at + suc n = omega arith in same))

-- the element at the front, and then the others
goes : (tick : Bool) (at : ℕ) (text : List ℕ) (e : Element) → 0 < length text → element_at tick text ≡ Ok e → 0 < e.length
    → elements_from tick zero at text ≡ with_element e.kind at (at + e.length) (elements_from (tick_after tick e.kind) zero (at + e.length) (drop e.length text))
goes tick at [] e inside read some = absurd (omega (arith, inside))
goes tick at (c ∷ text) e inside read some =
    ap (read_on at (λ element. elements_from (tick_after tick element.kind) (element.length - 1) (at + 1) text)) read
    ∙ ap (with_element e.kind at (at + e.length)) (behind (tick_after tick e.kind) e.length at c text some)

stops_at : (tick : Bool) (at : ℕ) (text : List ℕ) (b : Broken) → 0 < length text → element_at tick text ≡ Err b
    → elements_from tick zero at text ≡ Err (record { kind = b.kind; place = at + b.offset })
stops_at tick at [] b inside read = absurd (omega (arith, inside))
stops_at tick at (c ∷ text) b inside read = ap (read_on at (λ element. elements_from (tick_after tick element.kind) (element.length - 1) (at + 1) text)) read

joined_more : (k : ElementKind) (tokens : List Token) (comments : List Span) (start end_ : ℕ) (r : TextReading)
    → joined tokens comments (with_element k start end_ r) ≡ joined (tokens ++ tokens_of k start end_) (comments ++ comments_of k start end_) r
joined_more k tokens comments start end_ (Err fault) = refl
joined_more k tokens comments start end_ (Ok found) =
    λ j. Ok (record {
      tokens = sym (append_assoc tokens (tokens_of k start end_) found.tokens) j;
      comments = sym (append_assoc comments (comments_of k start end_) found.comments) j;
    })

-- what is left of a text at a place, after what was found before it
abbrev pub Reads : (text : List ℕ) (tick : Bool) (at : ℕ) (tokens : List Token) (comments : List Span) → Type 0
Reads text tick at tokens comments = joined tokens comments (elements_from tick zero at (drop at text)) ≡ elements_from false zero zero text

-- a turn of the loop: an element more
pub next : (text : List ℕ) (tick : Bool) (at : ℕ) (tokens : List Token) (comments : List Span) (e : Element) → at < length text
    → element_at tick (drop at text) ≡ Ok e → 0 < e.length → Reads text tick at tokens comments
    → Reads text (tick_after tick e.kind) (at + e.length) (tokens ++ tokens_of e.kind at (at + e.length)) (comments ++ comments_of e.kind at (at + e.length))
next text tick at tokens comments e inside read some so_far =
    let left : 0 < length (drop at text) = omega (arith, inside, length-drop at text) in
    let others = elements_from (tick_after tick e.kind) zero (at + e.length) (drop e.length (drop at text)) in
    ap (λ l. joined (tokens ++ tokens_of e.kind at (at + e.length)) (comments ++ comments_of e.kind at (at + e.length))
    (elements_from (tick_after tick e.kind) zero (at + e.length) l)) (sym (drop-drop e.length at text))
    ∙ (sym (joined_more e.kind tokens comments at (at + e.length) others)
    ∙ (sym (ap (joined tokens comments) (goes tick at (drop at text) e left read some)) ∙ so_far))

pub same : (text : List ℕ) (at : ℕ) {tick tick' : Bool} {tokens tokens' : List Token} {comments comments' : List Span}
    → tick ≡ tick' → tokens ≡ tokens' → comments ≡ comments' → Reads text tick' at tokens' comments' → Reads text tick at tokens comments
same text at tick_is tokens_are comments_are reads = (λ j. joined (tokens_are j) (comments_are j) (elements_from (tick_is j) zero at (drop at text))) ∙ reads

-- where something is wrong
pub stops : (text : List ℕ) (tick : Bool) (at : ℕ) (tokens : List Token) (comments : List Span) (b : Broken) → at < length text
    → element_at tick (drop at text) ≡ Err b → Reads text tick at tokens comments
    → elements_from false zero zero text ≡ Err (record { kind = b.kind; place = at + b.offset })
stops text tick at tokens comments b inside read so_far =
    sym so_far ∙ ap (joined tokens comments) (stops_at tick at (drop at text) b (let left : 0 < length (drop at text) = omega (arith, inside, length-drop at text) in left) read)

-- what a slice from an offset on is
rest_is : (at : ℕ) (text : List ℕ) → take (length text - at) (drop at text) ≡ drop at text
rest_is at text = ap (λ n. take n (drop at text)) (sym (length-drop at text)) ∙ take-length (drop at text)

pub read_is : (tick : Bool) (at : ℕ) (text : List ℕ) (r : ElementReading) → r ≡ element_at tick (take (length text - at) (drop at text)) → element_at tick (drop at text) ≡ r
read_is tick at text r read = sym (read ∙ ap (element_at tick) (rest_is at text))

pub lies_in_text : (n at : ℕ) (text : List ℕ) → n ≤ length (take (length text - at) (drop at text)) → at < length text → at + n ≤ length text
lies_in_text n at text lies inside =
    let left : n ≤ length (drop at text) = subst (λ rest. n ≤ length rest) (rest_is at text) lies in omega (arith, left, length-drop at text, inside)

-- ---- where the elements lie

longer : (from at end_ : ℕ) (spans : List Span) → AreSpansInOrder from at spans → at ≤ end_ → AreSpansInOrder from end_ spans
longer from at end_ [] so_far on = omega (arith, so_far, on)
longer from at end_ (span ∷ spans) so_far on = (so_far.0, so_far.1, longer span.end_ at end_ spans so_far.2 on)

one_more : (from at end_ : ℕ) (spans : List Span) → AreSpansInOrder from at spans → at < end_
    → AreSpansInOrder from end_ (spans ++ record { start = at; end_ = end_ } ∷ [])
one_more from at end_ [] so_far on = (so_far, on, (let same : end_ ≤ end_ = omega arith in same))
one_more from at end_ (span ∷ spans) so_far on = (so_far.0, so_far.1, one_more span.end_ at end_ spans so_far.2 on)

pub more_comments : (k : ElementKind) (at end_ : ℕ) (comments : List Span) → AreSpansInOrder zero at comments → at < end_
    → AreSpansInOrder zero end_ (comments ++ comments_of k at end_)
more_comments elements.Comment at end_ comments so_far on = one_more zero at end_ comments so_far on
more_comments elements.Separator at end_ comments so_far on =
    subst (AreSpansInOrder zero end_) (sym (append-nil comments)) (longer zero at end_ comments so_far (let less : at ≤ end_ = omega (arith, on) in less))
more_comments (elements.Token kind) at end_ comments so_far on =
    subst (AreSpansInOrder zero end_) (sym (append-nil comments)) (longer zero at end_ comments so_far (let less : at ≤ end_ = omega (arith, on) in less))

same_tokens : (at end_ : ℕ) (tokens : List Token) → AreSpansInOrder zero at (map span_of tokens) → at < end_ → AreSpansInOrder zero end_ (map span_of (tokens ++ []))
same_tokens at end_ tokens so_far on =
    subst (λ l. AreSpansInOrder zero end_ (map span_of l)) (sym (append-nil tokens))
    (longer zero at end_ (map span_of tokens) so_far (let less : at ≤ end_ = omega (arith, on) in less))

pub more_tokens : (k : ElementKind) (at end_ : ℕ) (tokens : List Token) → AreSpansInOrder zero at (map span_of tokens) → at < end_
    → AreSpansInOrder zero end_ (map span_of (tokens ++ tokens_of k at end_))
more_tokens elements.Separator at end_ tokens so_far on = same_tokens at end_ tokens so_far on
more_tokens elements.Comment at end_ tokens so_far on = same_tokens at end_ tokens so_far on
more_tokens (elements.Token kind) at end_ tokens so_far on =
    subst (AreSpansInOrder zero end_) (sym (map-append span_of tokens (record { kind = kind; start = at; end_ = end_ } ∷ [])))
    (one_more zero at end_ (map span_of tokens) so_far on)
