-- Where the last line of a text begins, by its last byte; and the column after it.
use Rattle.std.proofs.Common.{◌≡◌, ◌+◌, ◌-◌, ◌<◌, ◌≤◌, ◌∙◌, ℕ, suc, Bool, true, false, List, [], ◌∷◌, ◌++◌, ap, arith, get_or, length, refl, subst, sym, take}
use Rattle.std.specs.Prelude.{if◌then◌else◌, nat_eq}
use Rattle.std.proofs.lemmas.Bool.{eq-eqb, ne_eqb}
use Rattle.std.proofs.lemmas.List.{length-take-le, take_more}
use Rattle.diagnostics.specs.hints.Places.{column_from, line_start}

start_kept : (start at : ℕ) (front : List ℕ) (c : ℕ) → nat_eq c 10 ≡ false → line_start start at (front ++ c ∷ []) ≡ line_start start at front
start_kept start at [] c other = ap (λ b. if b then suc at else start) other
start_kept start at (x ∷ front) c other = start_kept (if nat_eq x 10 then suc at else start) (suc at) front c other

start_anew : (start at : ℕ) (front : List ℕ) (c : ℕ) → nat_eq c 10 ≡ true → line_start start at (front ++ c ∷ []) ≡ suc (at + length front)
start_anew start at [] c same = ap (λ b. if b then suc at else start) same ∙ omega arith
start_anew start at (x ∷ front) c same = start_anew (if nat_eq x 10 then suc at else start) (suc at) front c same ∙ omega arith

-- the first bytes of a text, by the last one of them
take_last : (text : List ℕ) (n d : ℕ) → 0 < n → n ≤ length text → take n text ≡ take (n - 1) text ++ get_or text (n - 1) d ∷ []
take_last text n d some within =
    let next : (n - 1) + 1 ≡ n = omega (arith, some) in
    subst (λ m. take m text ≡ take (n - 1) text ++ get_or text (n - 1) d ∷ []) next (take_more text (n - 1) d (omega (arith, some, within)))

pub starts_behind : (text : List ℕ) (n d : ℕ) → 0 < n → n ≤ length text → get_or text (n - 1) d ≡ 10 → line_start 0 0 (take n text) ≡ n
starts_behind text n d some within same =
    ap (line_start 0 0) (take_last text n d some within) ∙ start_anew 0 0 (take (n - 1) text) (get_or text (n - 1) d) (eq-eqb _ _ same)
    ∙ omega (arith, some, length-take-le (n - 1) text (omega (arith, within)))

pub starts_before : (text : List ℕ) (n d : ℕ) → 0 < n → n ≤ length text → (get_or text (n - 1) d ≡ 10 → ⊥)
    → line_start 0 0 (take (n - 1) text) ≡ line_start 0 0 (take n text)
starts_before text n d some within other =
    sym (ap (line_start 0 0) (take_last text n d some within) ∙ start_kept 0 0 (take (n - 1) text) (get_or text (n - 1) d) (ne_eqb _ _ other))

column_turn : (b : Bool) (rest : List ℕ) (start at column : ℕ) → column + start ≡ suc at
    → ((start at column : ℕ) → column + start ≡ suc at → column_from column rest + line_start start at rest ≡ suc (at + length rest))
    → column_from (if b then 1 else suc column) rest + line_start (if b then suc at else start) (suc at) rest ≡ suc (suc at + length rest)
column_turn true rest start at column is further = further (suc at) (suc at) 1 (omega arith)
column_turn false rest start at column is further = further start (suc at) (suc column) (omega (arith, is))

column_by_start : (text : List ℕ) (start at column : ℕ) → column + start ≡ suc at → column_from column text + line_start start at text ≡ suc (at + length text)
column_by_start [] start at column is = is ∙ omega arith
column_by_start (c ∷ rest) start at column is = column_turn (nat_eq c 10) rest start at column is (column_by_start rest) ∙ omega arith

pub column_is : (text : List ℕ) → column_from 1 text + line_start 0 0 text ≡ suc (length text)
column_is text = column_by_start text 0 0 1 refl ∙ omega arith
