-- Delimiters by their text.
use Rattle.std.proofs.Common.{◌≡◌, ℕ, Bool, true, false, cond, [], ◌∷◌, Option, Some, refl, sym, ap, ◌∙◌, subst}
use Rattle.std.specs.Prelude.{◌==◌}
use Rattle.std.proofs.lemmas.Bool.Decides.{Decides-eqb}
use Rattle.lexer.specs.declared.delimiter.Delimiter.{Delimiter}
use Rattle.lexer.specs.declared.delimiter.Delimiter.TheVariants as delimiters
use Rattle.lexer.specs.declared.element.Compound.{Compound}
use Rattle.lexer.specs.declared.element.Compound.TheVariants as compounds
use Rattle.lexer.specs.Delimiters.{delimiter_text, Excluded, DoubleStar, LeftLabelBracket, RightLabelBracket, Box, excluded_text}
use Rattle.lexer.specs.Reading.{simple_of, compound_of}

-- where a choice on a number gives something, it is the one or the other
branch : {A : Type 0} (P : Type 0) (c k : ℕ) (o p : Option A) (x : A) → cond (c == k) o p ≡ Some x → (c ≡ k → o ≡ Some x → P) → (p ≡ Some x → P) → P
branch {A} P c k o p x e here there = go (c == k) refl e
  where
    go : (b : Bool) → (c == k) ≡ b → cond b o p ≡ Some x → P
    go true same found = here ((Decides-eqb c k).0 same) found
    go false same found = there found

simple_leaf : (c k : ℕ) (d other : Delimiter) → delimiter_text other ≡ k ∷ [] → c ≡ k → Some other ≡ Some d → delimiter_text d ≡ c ∷ []
simple_leaf c k d other text first found = let same : other ≡ d = cc in ap delimiter_text (sym same) ∙ text ∙ ap (λ a. a ∷ []) (sym first)

pub simple_text : (c : ℕ) (d : Delimiter) → simple_of c ≡ Some d → delimiter_text d ≡ c ∷ []
simple_text c d e39 = branch (delimiter_text d ≡ c ∷ []) c 39 _ _ d e39 (λ first found. simple_leaf c 39 d delimiters.Apostrophe refl first found) (λ e40. branch (delimiter_text d ≡ c ∷ []) c 40 _ _ d e40 (λ first found. simple_leaf c 40 d delimiters.LeftParenthesis refl first found) (λ e41. branch (delimiter_text d ≡ c ∷ []) c 41 _ _ d e41 (λ first found. simple_leaf c 41 d delimiters.RightParenthesis refl first found) (λ e42. branch (delimiter_text d ≡ c ∷ []) c 42 _ _ d e42 (λ first found. simple_leaf c 42 d delimiters.Asterisk refl first found) (λ e43. branch (delimiter_text d ≡ c ∷ []) c 43 _ _ d e43 (λ first found. simple_leaf c 43 d delimiters.Plus refl first found) (λ e44. branch (delimiter_text d ≡ c ∷ []) c 44 _ _ d e44 (λ first found. simple_leaf c 44 d delimiters.Comma refl first found) (λ e45. branch (delimiter_text d ≡ c ∷ []) c 45 _ _ d e45 (λ first found. simple_leaf c 45 d delimiters.Minus refl first found) (λ e46. branch (delimiter_text d ≡ c ∷ []) c 46 _ _ d e46 (λ first found. simple_leaf c 46 d delimiters.Dot refl first found) (λ e47. branch (delimiter_text d ≡ c ∷ []) c 47 _ _ d e47 (λ first found. simple_leaf c 47 d delimiters.Slash refl first found) (λ e58. branch (delimiter_text d ≡ c ∷ []) c 58 _ _ d e58 (λ first found. simple_leaf c 58 d delimiters.Colon refl first found) (λ e59. branch (delimiter_text d ≡ c ∷ []) c 59 _ _ d e59 (λ first found. simple_leaf c 59 d delimiters.Semicolon refl first found) (λ e60. branch (delimiter_text d ≡ c ∷ []) c 60 _ _ d e60 (λ first found. simple_leaf c 60 d delimiters.LessThan refl first found) (λ e61. branch (delimiter_text d ≡ c ∷ []) c 61 _ _ d e61 (λ first found. simple_leaf c 61 d delimiters.Equals refl first found) (λ e62. branch (delimiter_text d ≡ c ∷ []) c 62 _ _ d e62 (λ first found. simple_leaf c 62 d delimiters.GreaterThan refl first found) (λ e124. branch (delimiter_text d ≡ c ∷ []) c 124 _ _ d e124 (λ first found. simple_leaf c 124 d delimiters.VerticalLine refl first found) (λ e_end. cc)))))))))))))))

-- the text of what two characters are together
abbrev pub CompoundText : Compound → ℕ → ℕ → Type 0
CompoundText (compounds.Delimiter d) b c = delimiter_text d ≡ b ∷ c ∷ []
CompoundText compounds.LeftOut b c = (e : Excluded) × (excluded_text e ≡ b ∷ c ∷ [])

compound_leaf : (b k c m : ℕ) (x other : Compound) → CompoundText other k m → b ≡ k → c ≡ m → Some other ≡ Some x → CompoundText x b c
compound_leaf b k c m x other text first second found =
    let same : other ≡ x = cc in
    subst (λ y. CompoundText y b c) same (subst (λ u. CompoundText other u c) (sym first) (subst (λ v. CompoundText other k v) (sym second) text))

pub compound_text : (b c : ℕ) (x : Compound) → compound_of b c ≡ Some x → CompoundText x b c
compound_text b c x e = branch (CompoundText x b c) b 42 _ _ x e (λ first f42. branch (CompoundText x b c) c 42 _ _ x f42 (λ second s. compound_leaf b 42 c 42 x compounds.LeftOut (DoubleStar, refl) first second s) (λ f42n. cc)) (λ o42. branch (CompoundText x b c) b 46 _ _ x o42 (λ first f46. branch (CompoundText x b c) c 46 _ _ x f46 (λ second s. compound_leaf b 46 c 46 x (compounds.Delimiter delimiters.DoubleDot) refl first second s) (λ f46n. cc)) (λ o46. branch (CompoundText x b c) b 47 _ _ x o46 (λ first f47. branch (CompoundText x b c) c 61 _ _ x f47 (λ second s. compound_leaf b 47 c 61 x (compounds.Delimiter delimiters.Inequality) refl first second s) (λ f47n. cc)) (λ o47. branch (CompoundText x b c) b 58 _ _ x o47 (λ first f58. branch (CompoundText x b c) c 61 _ _ x f58 (λ second s. compound_leaf b 58 c 61 x (compounds.Delimiter delimiters.Assignment) refl first second s) (λ f58n. cc)) (λ o58. branch (CompoundText x b c) b 60 _ _ x o58 (λ first f60. branch (CompoundText x b c) c 60 _ _ x f60 (λ second s. compound_leaf b 60 c 60 x compounds.LeftOut (LeftLabelBracket, refl) first second s) (λ f60n. branch (CompoundText x b c) c 61 _ _ x f60n (λ second s. compound_leaf b 60 c 61 x (compounds.Delimiter delimiters.LessOrEqual) refl first second s) (λ f60nn. branch (CompoundText x b c) c 62 _ _ x f60nn (λ second s. compound_leaf b 60 c 62 x compounds.LeftOut (Box, refl) first second s) (λ f60nnn. cc)))) (λ o60. branch (CompoundText x b c) b 61 _ _ x o60 (λ first f61. branch (CompoundText x b c) c 62 _ _ x f61 (λ second s. compound_leaf b 61 c 62 x (compounds.Delimiter delimiters.Arrow) refl first second s) (λ f61n. cc)) (λ o61. branch (CompoundText x b c) b 62 _ _ x o61 (λ first f62. branch (CompoundText x b c) c 61 _ _ x f62 (λ second s. compound_leaf b 62 c 61 x (compounds.Delimiter delimiters.GreaterOrEqual) refl first second s) (λ f62n. branch (CompoundText x b c) c 62 _ _ x f62n (λ second s. compound_leaf b 62 c 62 x compounds.LeftOut (RightLabelBracket, refl) first second s) (λ f62nn. cc))) (λ o62. cc)))))))
