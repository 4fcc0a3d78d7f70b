-- The texts of values and of changes, signal by signal.
use Rattle.std.proofs.Common.{◌≡◌, ℕ, suc, ◌+◌, ◌≤◌, List, [], ◌∷◌, ◌++◌, Option, Some, None, true, drop, length, refl, sym, ap, ◌∙◌, arith, append_assoc, append-nil, nat_eq, if◌then◌else◌}
use Rattle.std.proofs.Math.ListN.{drop_of_length-le}
use Rattle.waveforms.specs.Signals.{Shown}
use Rattle.waveforms.specs.Waves.{changes_text, is_same_value, line_changes_text, line_value_text, step_text, value_text, values_text, with_tick}

-- a text, a line, and what comes behind it
joined : (text line more rest : List ℕ) → rest ≡ line ++ more → (text ++ line) ++ more ≡ text ++ rest
joined text line more rest is = append_assoc text line more ∙ ap (λ v. text ++ v) (sym is)

-- All values

module _ (text vs : List ℕ) (s : ℕ) where
  pub value_more : (v : ℕ) → drop s vs ≡ v ∷ drop (s + 1) vs → (text ++ value_text s v) ++ values_text (s + 1) (drop (s + 1) vs) ≡ text ++ values_text s (drop s vs)
  value_more v is =
      let at : s + 1 ≡ suc s = omega arith in
      joined text (value_text s v) (values_text (s + 1) (drop (s + 1) vs)) (values_text s (drop s vs))
      (ap (values_text s) is ∙ ap (λ n. value_text s v ++ values_text n (drop (s + 1) vs)) (sym at))

  pub values_over : length vs ≤ s → text ++ values_text s (drop s vs) ≡ text
  values_over over = ap (λ v. text ++ values_text s v) (drop_of_length-le vs over) ∙ append-nil text

-- Changes

no_changes : (s : ℕ) (vs : List ℕ) → changes_text s vs [] ≡ []
no_changes s [] = refl
no_changes s (v ∷ vs) = refl

module _ (text vs ws : List ℕ) (s : ℕ) where
  pub change_more : (v w : ℕ) (line : List ℕ) → drop s vs ≡ v ∷ drop (s + 1) vs → drop s ws ≡ w ∷ drop (s + 1) ws → line ≡ (if nat_eq v w then [] else value_text s w) →
      (text ++ line) ++ changes_text (s + 1) (drop (s + 1) vs) (drop (s + 1) ws) ≡ text ++ changes_text s (drop s vs) (drop s ws)
  change_more v w line old new is =
      let at : s + 1 ≡ suc s = omega arith in
      let more = changes_text (s + 1) (drop (s + 1) vs) (drop (s + 1) ws) in
      joined text line more (changes_text s (drop s vs) (drop s ws))
      (ap (λ xs. changes_text s xs (drop s ws)) old
      ∙ ap (λ ys. changes_text s (v ∷ drop (s + 1) vs) ys) new
      ∙ ap (λ n. (if nat_eq v w then [] else value_text s w) ++ changes_text n (drop (s + 1) vs) (drop (s + 1) ws)) (sym at)
      ∙ ap (λ l. l ++ more) (sym is))

  pub old_over : length vs ≤ s → text ++ changes_text s (drop s vs) (drop s ws) ≡ text
  old_over over = ap (λ v. text ++ changes_text s v (drop s ws)) (drop_of_length-le vs over) ∙ append-nil text

  pub new_over : length ws ≤ s → text ++ changes_text s (drop s vs) (drop s ws) ≡ text
  new_over over = ap (λ v. text ++ v) (ap (changes_text s (drop s vs)) (drop_of_length-le ws over) ∙ no_changes s (drop s vs)) ∙ append-nil text

-- Changes of lines

no_line_changes : (s : ℕ) (vs : List (Option ℕ)) → line_changes_text s vs [] ≡ []
no_line_changes s [] = refl
no_line_changes s (v ∷ vs) = refl

pub new_lines_over : (text : List ℕ) (vs ws : List (Option ℕ)) (s i : ℕ) → length ws ≤ i → text ++ line_changes_text s (drop i vs) (drop i ws) ≡ text
new_lines_over text vs ws s i over =
    ap (λ v. text ++ v) (ap (line_changes_text s (drop i vs)) (drop_of_length-le ws over) ∙ no_line_changes s (drop i vs)) ∙ append-nil text

-- Steps

same_value : (v : ℕ) → nat_eq v v ≡ true
same_value v = grind arith

is_same : (v : Option ℕ) → is_same_value v v ≡ true
is_same None = refl
is_same (Some v) = same_value v

unchanged : (s : ℕ) (vs : List ℕ) → changes_text s vs vs ≡ []
unchanged s [] = refl
unchanged s (v ∷ vs) = ap (λ b. (if b then [] else value_text s v) ++ changes_text (suc s) vs vs) (same_value v) ∙ unchanged (suc s) vs

lines_unchanged : (s : ℕ) (vs : List (Option ℕ)) → line_changes_text s vs vs ≡ []
lines_unchanged s [] = refl
lines_unchanged s (v ∷ vs) = ap (λ b. (if b then [] else line_value_text s v) ++ line_changes_text (suc s) vs vs) (is_same v) ∙ lines_unchanged (suc s) vs

-- nothing is written where no value has changed
pub step_without : (n : ℕ) (vs : Shown) → step_text n vs vs ≡ []
step_without n vs = ap (with_tick n) (λ j. unchanged 0 vs.known j ++ lines_unchanged (length vs.known) vs.lines j)
