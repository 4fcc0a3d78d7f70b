-- A byte of an edited text is in the line of the byte from which it comes.
use Rattle.std.proofs.Common.{arith, ◌≡◌, ◌≢◌, ◌∙◌, ℕ, zero, suc, ◌+◌, ◌-◌, ◌≤◌, ◌<◌, cond, List, [], ◌∷◌, ◌++◌, drop, get_or, length, nat_eq, nat_lt, replicate, slice_range, take, ap, refl, subst, sym, ⊎_elim, if◌then◌else◌}
use Rattle.std.proofs.lemmas.Bool.Decides.{leb_tells}
use Rattle.std.proofs.lemmas.List.{length-drop, length-take-le}
use Rattle.text_edits.specs.Edits.{AreEditsFrom, TextEdit, edited, edited_from, in_one_line, line_feed, line_feeds}
use Rattle.text_edits.specs.Places.{LinesStay, origin_from}
use Rattle.text_edits.proofs.Added.{after_inside}
use Rattle.text_edits.proofs.Lines.{less, more, none_by, replaced, split}

by_less : (P : ℕ → Type 0) (a b x y : ℕ) → (a < b → P x) → (b ≤ a → P y) → P (if nat_lt a b then x else y)
by_less P a b x y lt ge =
    ⊎_elim (λ h. subst (λ t. P (cond t x y)) (sym h.0) (lt h.1)) (λ h. subst (λ t. P (cond t x y)) (sym h.0) (ge (omega (arith, h.1)))) (leb_tells (suc a) b)

-- ---- places in two texts in a row

front : (xs ys : List ℕ) (n : ℕ) → n ≤ length xs → take n (xs ++ ys) ≡ take n xs
front [] ys zero le = refl
front [] ys (suc n) le = absurd (omega (arith, le))
front (x ∷ xs) ys zero le = refl
front (x ∷ xs) ys (suc n) le = ap (λ l. x ∷ l) (front xs ys n (omega (arith, le)))

front_at : (xs ys : List ℕ) (n d : ℕ) → n < length xs → get_or (xs ++ ys) n d ≡ get_or xs n d
front_at [] ys n d lt = absurd (omega (arith, lt))
front_at (x ∷ xs) ys zero d lt = refl
front_at (x ∷ xs) ys (suc n) d lt = front_at xs ys n d (omega (arith, lt))

past : (xs ys : List ℕ) (n : ℕ) → length xs ≤ n → line_feeds (take n (xs ++ ys)) ≡ line_feeds xs + line_feeds (take (n - length xs) ys)
past [] ys n le =
    let on : n - 0 ≡ n = omega arith in
    omega (arith, ap (λ k. line_feeds (take k ys)) on)
past (x ∷ xs) ys zero le = absurd (omega (arith, le))
past (x ∷ xs) ys (suc n) le =
    let on : suc n - length (x ∷ xs) ≡ n - length xs = omega arith in
    more (nat_eq x line_feed) x _ _ _ (past xs ys n (omega (arith, le)) ∙ ap (λ k. line_feeds xs + line_feeds (take k ys)) (sym on))

past_at : (xs ys : List ℕ) (n d : ℕ) → length xs ≤ n → get_or (xs ++ ys) n d ≡ get_or ys (n - length xs) d
past_at [] ys n d le = let on : n - 0 ≡ n = omega arith in ap (λ k. get_or ys k d) (sym on)
past_at (x ∷ xs) ys zero d le = absurd (omega (arith, le))
past_at (x ∷ xs) ys (suc n) d le =
    let on : suc n - length (x ∷ xs) ≡ n - length xs = omega arith in
    past_at xs ys n d (omega (arith, le)) ∙ ap (λ k. get_or ys k d) (sym on)

-- ---- within a replacement

all_feeds : (k n : ℕ) → get_or (replicate k line_feed) n line_feed ≡ line_feed
all_feeds zero n = refl
all_feeds (suc k) zero = refl
all_feeds (suc k) (suc n) = all_feeds k n

in_line : (xs : List ℕ) (k n : ℕ) → get_or (in_one_line xs ++ replicate k line_feed) n line_feed ≢ line_feed
    → line_feeds (take n (in_one_line xs ++ replicate k line_feed)) ≡ 0
in_line [] k n other = absurd (other (all_feeds k n))
in_line (x ∷ xs) k zero other = refl
in_line (x ∷ xs) k (suc n) other = less _ (cond (nat_eq x line_feed) 32 x) _ (none_by x (nat_eq x line_feed) refl) (in_line xs k n other)

-- ---- in the whole text

origin_after : (at : ℕ) (text : List ℕ) (edits : List TextEdit) → AreEditsFrom at text edits → (place : ℕ) → at ≤ origin_from at place edits
origin_after at text [] are place = omega arith
origin_after at text (edit ∷ edits) are place =
    by_less (λ o. at ≤ o) place (edit.span.start - at) (at + place) _ (λ lt. omega arith) (λ ge.
    by_less (λ o. at ≤ o) place (edit.span.start - at + length edit.replacement) edit.span.start _ (λ lt. are.0) (λ further.
    let later = origin_after edit.span.end_ text edits are.3 (place - (edit.span.start - at + length edit.replacement)) in omega (arith, later, are.0, are.1)))

length_slice : (at to : ℕ) (text : List ℕ) → to ≤ length text → length (slice_range text at to) ≡ to - at
length_slice at to text le = length-take-le (to - at) (drop at text) (omega (arith, length-drop at text, le))

-- a place after two parts of the text in a row is so far after each
both_past : (at start end_ o : ℕ) (text : List ℕ) → at ≤ start → start ≤ end_ → end_ ≤ length text → end_ ≤ o
    → line_feeds (take (o - at) (drop at text))
    ≡ line_feeds (slice_range text at start) + (line_feeds (slice_range text start end_) + line_feeds (take (o - end_) (drop end_ text)))
both_past at start end_ o text a b c d =
    let first = length_slice at start text (omega (arith, b, c)) in
    let second = length_slice start end_ text c in
    let on : (o - at) - length (slice_range text at start) ≡ o - start = omega (arith, first, a, b, d) in
    let behind : (o - start) - length (slice_range text start end_) ≡ o - end_ = omega (arith, second, b, d) in
    ap (λ l. line_feeds (take (o - at) l)) (sym (split at start text a))
    ∙ past (slice_range text at start) (drop start text) (o - at) (omega (arith, first, a, b, d))
    ∙ ap (λ n. line_feeds (slice_range text at start) + n)
    (ap (λ k. line_feeds (take k (drop start text))) on
    ∙ ap (λ l. line_feeds (take (o - start) l)) (sym (split start end_ text b))
    ∙ past (slice_range text start end_) (drop end_ text) (o - start) (omega (arith, second, b, d))
    ∙ ap (λ k. line_feeds (slice_range text start end_) + line_feeds (take k (drop end_ text))) behind)

stays : (at : ℕ) (text : List ℕ) (edits : List TextEdit) → AreEditsFrom at text edits → (place : ℕ) → get_or (edited_from at text edits) place line_feed ≢ line_feed
    → line_feeds (take place (edited_from at text edits)) ≡ line_feeds (take (origin_from at place edits - at) (drop at text))
stays at text [] are place other =
    let on : at + place - at ≡ place = omega arith in
    ap (λ k. line_feeds (take k (drop at text))) (sym on)
stays at text (edit ∷ edits) are place other =
    let start = edit.span.start in
    let end = edit.span.end_ in
    let before = slice_range text at start in
    let new = edit.replacement in
    let rest = edited_from end text edits in
    let inside = after_inside end text edits are.3 in
    let long : length before ≡ start - at = length_slice at start text (omega (arith, inside, are.1)) in
    by_less (λ o. line_feeds (take place (before ++ (new ++ rest))) ≡ line_feeds (take (o - at) (drop at text))) place (start - at) (at + place) _
    (λ lt.
    let on : at + place - at ≡ place = omega arith in
    ap line_feeds (front before (new ++ rest) place (omega (arith, long, lt))
    ∙ sym (front before (drop start text) place (omega (arith, long, lt)))
    ∙ ap (λ l. take place l) (split at start text are.0)
    ∙ ap (λ k. take k (drop at text)) (sym on)))
    (λ ge. by_less (λ o. line_feeds (take place (before ++ (new ++ rest))) ≡ line_feeds (take (o - at) (drop at text))) place (start - at + length new) start _
    (λ lt.
    let j = place - length before in
    let within : j < length new = omega (arith, long, lt, ge) in
    let byte = past_at before (new ++ rest) place line_feed (omega (arith, long, ge)) ∙ front_at new rest j line_feed within in
    let none : line_feeds (take j new) ≡ 0 =
    subst (λ l. get_or l j line_feed ≢ line_feed → line_feeds (take j l) ≡ 0) (sym are.2.is)
    (in_line are.2.replacement (line_feeds (slice_range text start end)) j) (λ is. other (byte ∙ is)) in
    past before (new ++ rest) place (omega (arith, long, ge)) ∙ omega (arith, ap line_feeds (front new rest j (omega (arith, within))), none))
    (λ further.
    let j = place - length before in
    let k = place - (start - at + length new) in
    let on : j - length new ≡ k = omega (arith, long, further) in
    let byte = past_at before (new ++ rest) place line_feed (omega (arith, long, ge)) ∙ past_at new rest j line_feed (omega (arith, long, further)) ∙ ap (λ n. get_or rest n line_feed) on in
    let later = stays end text edits are.3 k (λ is. other (byte ∙ is)) in
    past before (new ++ rest) place (omega (arith, long, ge))
    ∙ ap (λ n. line_feeds before + n) (past new rest j (omega (arith, long, further))
    ∙ ap (λ n. n + line_feeds (take (j - length new) rest)) (ap line_feeds are.2.is ∙ replaced (slice_range text start end) are.2.replacement)
    ∙ ap (λ n. line_feeds (slice_range text start end) + line_feeds (take n rest)) on
    ∙ ap (λ n. line_feeds (slice_range text start end) + n) later)
    ∙ sym (both_past at start end (origin_from end k edits) text are.0 are.1 inside (origin_after end text edits are.3 k))))

pub lines_stay : LinesStay
lines_stay e are place other =
    let on : origin_from 0 place e.edits - 0 ≡ origin_from 0 place e.edits = omega arith in
    stays 0 e.text e.edits are place other ∙ ap (λ n. line_feeds (take n e.text)) on
