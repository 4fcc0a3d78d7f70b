-- Reserved words by their spelling.
use Rattle.std.proofs.Common.{◌≡◌, ℕ, Bool, true, false, cond, List, [], ◌∷◌, Option, Some, None, refl, subst}
use Rattle.std.specs.Prelude.{find, bytes_eq}
use Rattle.std.specs.Cmp.Lexicographic.{bytes_decides}
use Rattle.lexer.specs.declared.word.Word.{Word}
use Rattle.lexer.specs.declared.word.Word.TheVariants as words
use Rattle.lexer.specs.Words.{spelling}
use Rattle.lexer.specs.Reading.{words_with, reserved}

find-passes : (test : Word → Bool) (xs : List Word) (w : Word) → find test xs ≡ Some w → test w ≡ true
find-passes test [] w e = cc
find-passes test (x ∷ xs) w e = go (test x) refl e (find-passes test xs w)
  where
    go : (b : Bool) → test x ≡ b → cond b (Some x) (find test xs) ≡ Some w → (find test xs ≡ Some w → test w ≡ true) → test w ≡ true
    go true passes found deeper = cc
    go false passes found deeper = deeper found

-- what is found is spelled so
pub reserved-is : (name : List ℕ) (w : Word) → reserved name ≡ Some w → spelling w ≡ name
unfolding reserved
reserved-is [] w e = cc
reserved-is (c ∷ name) w e = (bytes_decides (spelling w) (c ∷ name)).0 (find-passes (λ v. bytes_eq (spelling v) (c ∷ name)) (words_with c) w e)

reserved-spelling : (w : Word) → reserved (spelling w) ≡ Some w
unfolding reserved
reserved-spelling words.Abort = refl
reserved-spelling _ = refl

-- what is spelled so is found
pub reserved-spelled : (name : List ℕ) (w : Word) → spelling w ≡ name → reserved name ≡ Some w
reserved-spelled name w e = subst (λ n. reserved n ≡ Some w) e (reserved-spelling w)

-- nothing is found where nothing is spelled so
pub reserved-none : (name : List ℕ) → ((w : Word) → spelling w ≡ name → ⊥) → reserved name ≡ None
reserved-none name none = go (reserved name) refl
  where
    go : (o : Option Word) → reserved name ≡ o → reserved name ≡ None
    go None e = e
    go (Some w) e = absurd (none w (reserved-is name w e))

pub none-reserved : (name : List ℕ) → reserved name ≡ None → (w : Word) → spelling w ≡ name → ⊥
none-reserved name e w spelled = let found = reserved-spelled name w spelled in cc
