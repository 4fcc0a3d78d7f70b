-- Words put on an operand stack from the last one down.
use Rattle.std.proofs.Common.{◌≡◌, ℕ, ◌+◌, ◌-◌, ◌<◌, ◌≤◌, ℤ, List, ◌∷◌, ◌++◌, length, drop, get_or, sym, ap, ◌∙◌, arith, length-drop, length-append}
use Rattle.std.proofs.Math.Seq.{drop-length}
use Rattle.image.specs.Frames.{TaskState}
use Rattle.image.specs.RuleLaws.{drop-next}

abbrev with_words : TaskState → List ℤ → TaskState
with_words s words = record s { frame = record s.frame { stack = words ++ s.frame.stack } }

abbrev with_word : ℤ → TaskState → TaskState
with_word w s = record s { frame = record s.frame { stack = w ∷ s.frame.stack } }

-- the last n words are there
pub record Pushed (old now : TaskState) (words : List ℤ) (n : ℕ) : Type 0 where
  pub state : now ≡ with_words old (drop (length words - n) words)

pub pushed_nothing : (s : TaskState) (words : List ℤ) → Pushed s s words 0
pushed_nothing s words =
    let e : length words ≡ length words - 0 = omega arith in
    record { state = ap (with_words s) (sym (drop-length words)) ∙ ap (λ k. with_words s (drop k words)) e }

pub pushed_room : (width : ℕ) (old now : TaskState) (words : List ℤ) (n : ℕ) → length old.frame.locals + length old.frame.stack + length words ≤ width → Pushed old now words n → n < length words → length now.frame.locals + length now.frame.stack < width
pushed_room width old now words n room p lt =
    let locals = ap (λ s. length s.frame.locals) p.state in
    let stack = ap (λ s. length s.frame.stack) p.state in
    let sum = length-append (drop (length words - n) words) old.frame.stack in
    let left = length-drop (length words - n) words in
    omega (arith, room, lt, locals, stack, sum, left)

pub pushed_more : (old now next : TaskState) (words : List ℤ) (n : ℕ) (w d : ℤ) → n < length words → Pushed old now words n → w ≡ get_or words (length words - 1 - n) d → next ≡ record now { frame = record now.frame { stack = w ∷ now.frame.stack } } → Pushed old next words (n + 1)
pushed_more old now next words n w d lt p is moved =
    let at = length words - 1 - n in
    let there : at + 1 ≡ length words - n = omega (arith, lt) in
    let here : length words - (n + 1) ≡ at = omega (arith, lt) in
    let inside : at < length words = omega (arith, lt) in
    let more : drop (length words - (n + 1)) words ≡ w ∷ drop (length words - n) words =
    ap (λ k. drop k words) here ∙ (drop-next words at d inside ∙ (ap (λ x. x ∷ drop (at + 1) words) (sym is) ∙ ap (λ k. w ∷ drop k words) there)) in
    record { state = moved ∙ (ap (with_word w) p.state ∙ ap (with_words old) (sym more)) }

pub pushed_all : (old now : TaskState) (words : List ℤ) (n : ℕ) → length words ≤ n → Pushed old now words n → now ≡ with_words old words
pushed_all old now words n le p =
    let none : length words - n ≡ 0 = omega (arith, le) in
    p.state ∙ ap (λ k. with_words old (drop k words)) none
