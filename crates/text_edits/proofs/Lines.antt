-- How many lines a text has with its edits.
use Rattle.std.proofs.Common.{arith, ◌≡◌, ◌∙◌, ℕ, zero, suc, ◌+◌, ◌-◌, ◌≤◌, Bool, true, false, cond, List, [], ◌∷◌, ◌++◌, drop, length, nat_eq, replicate, slice_range, ap, refl, sym, true≢false}
use Rattle.std.proofs.lemmas.List.{drop-drop, take-append-drop}
use Rattle.text_edits.specs.Edits.{AreEditsFrom, TextEdit, edited_from, in_one_line, line_feed, line_feeds, replacement_of}

pub more : (b : Bool) (c : ℕ) (us vs ws : List ℕ) → length us ≡ length vs + length ws → length (cond b (c ∷ us) us) ≡ length (cond b (c ∷ vs) vs) + length ws
more true c us vs ws is = omega (arith, is)
more false c us vs ws is = is

pub line_feeds-append : (xs ys : List ℕ) → line_feeds (xs ++ ys) ≡ line_feeds xs + line_feeds ys
line_feeds-append [] ys = omega arith
line_feeds-append (c ∷ xs) ys = more (nat_eq c line_feed) c _ _ _ (line_feeds-append xs ys)

pub none_by : (c : ℕ) (b : Bool) → nat_eq c line_feed ≡ b → nat_eq (cond b 32 c) line_feed ≡ false
none_by c true is = refl
none_by c false is = is

pub less : (b : Bool) (c : ℕ) (xs : List ℕ) → b ≡ false → length xs ≡ 0 → length (cond b (c ∷ xs) xs) ≡ 0
less true c xs is none = absurd (true≢false is)
less false c xs is none = none

pub one_line : (xs : List ℕ) → line_feeds (in_one_line xs) ≡ 0
one_line [] = refl
one_line (c ∷ xs) = less _ (cond (nat_eq c line_feed) 32 c) _ (none_by c (nat_eq c line_feed) refl) (one_line xs)

pub replicated : (n : ℕ) → line_feeds (replicate n line_feed) ≡ n
replicated zero = refl
replicated (suc n) = omega (arith, replicated n)

-- a replacement has as many line feeds as what it replaces
pub replaced : (old new : List ℕ) → line_feeds (replacement_of old new) ≡ line_feeds old
replaced old new = line_feeds-append (in_one_line new) (replicate (line_feeds old) line_feed) ∙ omega (arith, one_line new, replicated (line_feeds old))

-- what is after a place is what is up to a later one, and what is after that
pub split : (at to : ℕ) (text : List ℕ) → at ≤ to → slice_range text at to ++ drop to text ≡ drop at text
split at to text le =
    let on : at + (to - at) ≡ to = omega (arith, le) in
    ap (λ xs. slice_range text at to ++ xs) (ap (λ n. drop n text) (sym on) ∙ sym (drop-drop (to - at) at text)) ∙ take-append-drop (to - at) (drop at text)

pub edited_lines : (at : ℕ) (text : List ℕ) (edits : List TextEdit) → AreEditsFrom at text edits → line_feeds (edited_from at text edits) ≡ line_feeds (drop at text)
edited_lines at text [] are = refl
edited_lines at text (edit ∷ edits) are =
    let start = edit.span.start in
    let end = edit.span.end_ in
    let rest = edited_from end text edits in
    omega (
      arith,
      line_feeds-append (slice_range text at start) (edit.replacement ++ rest),
      line_feeds-append edit.replacement rest,
      ap line_feeds are.2.is,
      replaced (slice_range text start end) are.2.replacement,
      edited_lines end text edits are.3,
      line_feeds-append (slice_range text at start) (drop start text),
      line_feeds-append (slice_range text start end) (drop end text),
      ap line_feeds (split at start text are.0),
      ap line_feeds (split start end text are.1),
    )
