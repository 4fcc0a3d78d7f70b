-- Declarations of variables, channels, labels and scopes, added one after the other.
use Rattle.std.proofs.Common.{◌≡◌, ◌<◌, ℕ, suc, ◌+◌, List, ◌∷◌, ◌++◌, codes, drop, length, sym, ap, ◌∙◌, arith, append_assoc}
use Rattle.std.specs.Prelude.{get_or}
use Rattle.std.proofs.lemmas.List.{drop_more}
use Rattle.waveforms.specs.Scopes.{Variable}
use Rattle.waveforms.specs.Lines.{TaskLabel}
use Rattle.waveforms.specs.Waves.{channel_text, channels_text, label_text, labels_text, scope_text, variable_text, variables_text}
use Rattle.waveforms.proofs.Added.{both_added}

-- where the declarations of the variables that are left are still to come, and the next one is added
pub variables_next : (old text new : List ℕ) (first s t : ℕ) (all : List Variable) (i : ℕ) (v : Variable) → i < length all → v ≡ get_or all i v
    → (text ++ variables_text s (drop i all) ≡ old ++ variables_text first all) × (s ≡ first + i) → new ≡ text ++ variable_text s v → t ≡ s + 1
    → (new ++ variables_text t (drop (i + 1) all) ≡ old ++ variables_text first all) × (t ≡ first + (i + 1))
variables_next old text new first s t all i v less is so_far added t_is =
    let here : drop i all ≡ v ∷ drop (i + 1) all = drop_more all i v less ∙ ap (λ x. x ∷ drop (i + 1) all) (sym is) in
    let more : t ≡ suc s = t_is ∙ omega arith in (
      (λ j. added j ++ variables_text (more j) (drop (i + 1) all))
          ∙ append_assoc text (variable_text s v) (variables_text (suc s) (drop (i + 1) all))
          ∙ ap (λ l. text ++ variables_text s l) (sym here)
          ∙ so_far.0,
      t_is ∙ ap (λ n. n + 1) so_far.1 ∙ omega arith,
    )

-- the same of channels
pub channels_next : (old text new : List ℕ) (first s t : ℕ) (all : List ℕ) (i : ℕ) (c : ℕ) → i < length all → c ≡ get_or all i 0
    → (text ++ channels_text s (drop i all) ≡ old ++ channels_text first all) × (s ≡ first + i) → new ≡ text ++ channel_text s c → t ≡ s + 1
    → (new ++ channels_text t (drop (i + 1) all) ≡ old ++ channels_text first all) × (t ≡ first + (i + 1))
channels_next old text new first s t all i c less is so_far added t_is =
    let here : drop i all ≡ c ∷ drop (i + 1) all = drop_more all i 0 less ∙ ap (λ x. x ∷ drop (i + 1) all) (sym is) in
    let more : t ≡ suc s = t_is ∙ omega arith in (
      (λ j. added j ++ channels_text (more j) (drop (i + 1) all))
          ∙ append_assoc text (channel_text s c) (channels_text (suc s) (drop (i + 1) all))
          ∙ ap (λ l. text ++ channels_text s l) (sym here)
          ∙ so_far.0,
      t_is ∙ ap (λ n. n + 1) so_far.1 ∙ omega arith,
    )

-- the same of labels
pub labels_next : (name : ℕ → List ℕ) (old text new : List ℕ) (first s t : ℕ) (all : List TaskLabel) (i : ℕ) (p : TaskLabel) → i < length all → p ≡ get_or all i p
    → (text ++ labels_text name s (drop i all) ≡ old ++ labels_text name first all) × (s ≡ first + i) → new ≡ text ++ label_text name s p → t ≡ s + 1
    → (new ++ labels_text name t (drop (i + 1) all) ≡ old ++ labels_text name first all) × (t ≡ first + (i + 1))
labels_next name old text new first s t all i p less is so_far added t_is =
    let here : drop i all ≡ p ∷ drop (i + 1) all = drop_more all i p less ∙ ap (λ x. x ∷ drop (i + 1) all) (sym is) in
    let more : t ≡ suc s = t_is ∙ omega arith in (
      (λ j. added j ++ labels_text name (more j) (drop (i + 1) all))
          ∙ append_assoc text (label_text name s p) (labels_text name (suc s) (drop (i + 1) all))
          ∙ ap (λ l. text ++ labels_text name s l) (sym here)
          ∙ so_far.0,
      t_is ∙ ap (λ n. n + 1) so_far.1 ∙ omega arith,
    )

-- a scope of this name, which was begun, with these declarations, before its end
pub scope_added : (old begun declared given name signals : List ℕ) → given ≡ name → begun ≡ old ++ (codes "$scope module " ++ given ++ codes " $end\n")
    → declared ≡ begun ++ signals → declared ++ codes "$upscope $end\n" ≡ old ++ scope_text name signals
scope_added old begun declared given name signals same one two =
    let head = codes "$scope module " ++ name ++ codes " $end\n" in
    ap (λ l. l ++ codes "$upscope $end\n") (both_added old begun declared head signals (one ∙ ap (λ n. old ++ (codes "$scope module " ++ n ++ codes " $end\n")) same) two)
    ∙ append_assoc old (head ++ signals) (codes "$upscope $end\n")
