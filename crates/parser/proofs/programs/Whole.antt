-- The laws over whole token lists.
use Rattle.parser.specs.declared.refusal.Refusal.TheVariants as refusals
use Rattle.std.proofs.Common.{◌≡◌, ℕ, suc, ◌-◌, ◌≤◌, Bool, true, false, cond, [], ◌∷◌, ◌++◌, length, drop, get_or, None, Some, Result, Ok, Err, refl, sym, ap, subst}
use Rattle.std.proofs.Common.{◌∙◌, arith, append-nil, inl, inr, ◌⊎◌, length-append}
use Rattle.std.specs.Prelude.{IfOk, IfErr}
use Rattle.std.proofs.lemmas.List.{append_assoc}
use Rattle.lexer.specs.declared.token.Token.{Token}
use Rattle.ada_tree.specs.declared.program.Program.{Program}
use Rattle.ada_tree.specs.Language.{Tokens}
use Rattle.ada_tree.specs.ProgramTree.{ProgramTree, program_tree}
use Rattle.ada_tree.specs.ProgramGrammar.{program}
use Rattle.ada_tree.specs.Laws.{LimitIsDepth}
use Rattle.parser.specs.declared.refusal.Broken.{Broken}
use Rattle.parser.specs.declared.refusal.Refusal.{Refusal}
use Rattle.parser.specs.Levels.{opens, openers}
use Rattle.parser.specs.Reading.{first, Gives, is_next}
use Rattle.parser.specs.ProgramReading.{whole_at}
use Rattle.parser.specs.Parsing.{Derives, GaveTree, end_of, place_behind, SomeBegins, NoneBegins, NoneGoesOn, IsFaulty, IsLongestBeginning, IsRefusal, IsTooDeep, HasOneTree, start_or}
use Rattle.parser.specs.Parsing.{place_at, fault_of}
use Rattle.parser.specs.Parsing.{answer_of, count_of}
use Rattle.parser.proofs.general.Exact.{ok_is, ok_not_err}
use Rattle.parser.proofs.programs.Programs.{whole_exact}
use Rattle.parser.proofs.programs.DeepPrograms.{deep_whole}
use Rattle.parser.proofs.programs.GoingPrograms.{a_main, goes_whole}

module _ (limit : LimitIsDepth) where
  pub whole_sound : (ts : Tokens) (t : ProgramTree) → whole_at 40 ts ≡ Ok (t, []) → Derives t ts
  whole_sound ts t e =
      let took = (whole_exact 40).sound ts (t, []) e in
      let d = (limit 40 t ts).0 (subst (program (Some 40) t) (sym (took.parts ∙ append-nil took.front)) took.spells) in
      record { derives = d.0; levels = d.1 }

  pub whole_complete : (ts : Tokens) (t : ProgramTree) → Derives t ts → whole_at 40 ts ≡ Ok (t, [])
  whole_complete ts t d = ap (whole_at 40) (sym (append-nil ts)) ∙ (whole_exact 40).complete t ts [] ((limit 40 t ts).1 (d.derives, d.levels)) refl

  pub one_tree : HasOneTree
  one_tree t u ts d e = ap (λ (x : ProgramTree × Tokens). x.0) (ok_is (t, []) (u, []) (sym (whole_complete ts t d) ∙ whole_complete ts u e))

  never : (ts : Tokens) (t : ProgramTree) (f : Broken) → Derives t ts → whole_at 40 ts ≡ Err f → ⊥
  never ts t f d e = ok_not_err (t, []) f (sym (whole_complete ts t d) ∙ e)

  none_begins : (front back : Tokens) (f : Tokens → Broken) → ((g : Tokens) → first g ≡ first back → whole_at 40 (front ++ g) ≡ Err (f g))
      → NoneBegins front back
  none_begins front [] f again = λ t d. never front t (f []) d (ap (whole_at 40) (sym (append-nil front)) ∙ again [] refl)
  none_begins front (x ∷ rest) f again = λ t more d. never (front ++ (x ∷ more)) t (f (x ∷ more)) d (again (x ∷ more) refl)

-- ---- the place

drop_all : (front back : Tokens) → drop (length front) (front ++ back) ≡ back
drop_all [] back = refl
drop_all (t ∷ front) back = drop_all front back

start_behind : (front back : Tokens) → start_or (end_of (front ++ back)) back ≡ place_behind front back
start_behind front [] = ap end_of (append-nil front)
start_behind front (t ∷ rest) = refl

pub place_is : (ts front back : Tokens) (left : ℕ) → ts ≡ front ++ back → left ≡ length back → place_at ts left ≡ place_behind front back
place_is ts front back left parts is =
    let count : length (front ++ back) - left ≡ length front = omega (arith, length-append front back) in
    ap (λ (z : Tokens). place_at z left) parts ∙ ap (λ (n : ℕ). start_or (end_of (front ++ back)) (drop n (front ++ back))) count
    ∙ ap (λ (z : Tokens). start_or (end_of (front ++ back)) z) (drop_all front back) ∙ start_behind front back

pub end_last : (ts : Tokens) (d : Token) → 1 ≤ length ts → end_of ts ≡ (get_or ts (length ts - 1) d).end_
end_last [] d le = absurd (omega arith)
end_last (t ∷ []) d le = refl
end_last (t ∷ (u ∷ rest)) d le =
    let count : length (t ∷ (u ∷ rest)) - 1 ≡ suc (length (u ∷ rest) - 1) = omega arith in
    end_last (u ∷ rest) d (omega arith) ∙ ap (λ (n : ℕ). (get_or (t ∷ (u ∷ rest)) n d).end_) (sym count)

-- the parts of a list are told by the length of the second one
same_parts : (a b c d : Tokens) → a ++ b ≡ c ++ d → length b ≡ length d → (a ≡ c) × (b ≡ d)
same_parts [] b [] d e l = (refl, e)
same_parts [] b (x ∷ c) d e l = absurd (omega (arith, ap length e, l, length-append c d))
same_parts (x ∷ a) b [] d e l = absurd (omega (arith, ap length e, l, length-append a b))
same_parts (x ∷ a) b (y ∷ c) d e l =
    let rest = same_parts a b c d (ap tail e) l in
    (λ j. get_or (e j) 0 x ∷ rest.0 j, rest.1)
  where
    tail : Tokens → Tokens
    tail [] = []
    tail (z ∷ zs) = zs

too_deep : (ts front back : Tokens) (b : Broken) → ts ≡ front ++ back → b.left ≡ length back → b.deep ≡ true → whole_at 40 ts ≡ Err b → IsTooDeep front back
too_deep ts front back b parts left is e =
    let d = (deep_whole 40).at ts b e is in
    let same = same_parts d.0 d.1 front back (sym d.2 ∙ parts) (sym d.3 ∙ left) in
    (ap (λ (z : Tokens). is_next opens (first z)) (sym same.1) ∙ d.4, subst (λ (z : Tokens). 40 ≤ openers z) same.0 d.5)

number_is : (b : Bool) (x y : ℕ) (Q : Type 0) → (b ≡ true → Q) → (cond b x y ≡ y) ⊎ ((cond b x y ≡ x) × Q)
number_is true x y Q h = inr (refl, h refl)
number_is false x y Q h = inl refl

some_begins : LimitIsDepth → (ts : Tokens) (b : Broken) (front back : Tokens) → whole_at 40 ts ≡ Err b → ts ≡ front ++ back → b.left ≡ length back
    → SomeBegins front
some_begins limit ts b front back e parts left =
    let g = (goes_whole 39).on ts b e in
    let whole = (goes_whole 39).all in
    let same = same_parts g.front g.back front back (sym g.parts ∙ parts) (sym g.left ∙ left) in
    subst SomeBegins same.0 (elim g.on [
      | inl none ↦ (whole.0, a_main, whole_sound limit (g.front ++ a_main) whole.0 (ap (λ (z : Tokens). whole_at 40 (z ++ a_main)) none ∙ whole.1))
      | inr w ↦ (w.1.0, w.0, whole_sound limit (g.front ++ w.0) w.1.0 w.1.1)
    ])

pub first_fault : LimitIsDepth → (ts : Tokens) (b : Broken) → whole_at 40 ts ≡ Err b → IsFaulty ts (fault_of ts b)
first_fault limit ts b e =
    let l = (whole_exact 40).local ts b e in
    record {
      front = l.front;
      back = l.back;
      parts = l.parts;
      place = place_is ts l.front l.back b.left l.parts l.left;
      some = some_begins limit ts b l.front l.back e l.parts l.left;
      none = none_begins limit l.front l.back (λ g. record { deep = b.deep; left = length g }) l.again;
      number = number_is b.deep 7 6 (IsTooDeep l.front l.back) (λ is. too_deep ts l.front l.back b l.parts l.left is e);
    }

-- ---- how far derivations go

pub none_goes_on : (front back : Tokens) → NoneBegins front back → NoneGoesOn front back
none_goes_on front [] none = tt
none_goes_on front (x ∷ rest) none = none

goes_so_far : LimitIsDepth → (ts : Tokens) (b : Broken) → whole_at 40 ts ≡ Err b → IsLongestBeginning ts (length ts - b.left)
goes_so_far limit ts b e =
    let l = (whole_exact 40).local ts b e in
    record {
      front = l.front;
      back = l.back;
      parts = l.parts;
      counted = omega (arith, ap length l.parts, length-append l.front l.back, l.left);
      some = some_begins limit ts b l.front l.back e l.parts l.left;
      none = none_goes_on l.front l.back (none_begins limit l.front l.back (λ g. record { deep = b.deep; left = length g }) l.again);
    }

goes_to_the_end : LimitIsDepth → (ts : Tokens) (t : ProgramTree) → whole_at 40 ts ≡ Ok (t, []) → IsLongestBeginning ts (length ts)
goes_to_the_end limit ts t e = record {
  front = ts;
  back = [];
  parts = sym (append-nil ts);
  counted = refl;
  some = (t, [], subst (Derives t) (sym (append-nil ts)) (whole_sound limit ts t e));
  none = tt;
}

pub is_longest : LimitIsDepth → (ts : Tokens) (r : Result Program Refusal) (n : ℕ) → Gives program_tree r [] (whole_at 40 ts) → Some n ≡ count_of ts r
    → IsLongestBeginning ts n
is_longest limit ts (Ok p) n h e = let same : n ≡ length ts = cc in subst (IsLongestBeginning ts) (sym same) (goes_to_the_end limit ts (program_tree p) h)
is_longest limit ts (Err refusals.Memory) n h e = absurd (let no : Some n ≡ None = e in cc)
is_longest limit ts (Err (refusals.Broken b)) n h e =
    let same : n ≡ length ts - b.left = cc in subst (IsLongestBeginning ts) (sym same) (goes_so_far limit ts b h)

-- what two fronts of one list begin is told by the first token that none allows, so they are one
pub same_fronts : (a b c d : Tokens) → a ++ b ≡ c ++ d → SomeBegins a → NoneGoesOn a b → SomeBegins c → NoneGoesOn c d → (a ≡ c) × (b ≡ d)
same_fronts a b c d e some none some_too none_too = by [] a c e some none some_too none_too
  where
    onward : (front : Tokens) (x : Token) (rest more : Tokens) → SomeBegins (front ++ (x ∷ rest)) → NoneGoesOn front (x ∷ more) → ⊥
    onward front x rest more some none = none some.0 (rest ++ some.1) (subst (Derives some.0) (append_assoc front (x ∷ rest) some.1) some.2)

    by : (front a c : Tokens) → a ++ b ≡ c ++ d → SomeBegins (front ++ a) → NoneGoesOn (front ++ a) b → SomeBegins (front ++ c) → NoneGoesOn (front ++ c) d
        → (a ≡ c) × (b ≡ d)
    by front [] [] e some none some_too none_too = (refl, e)
    by front [] (y ∷ c) e some none some_too none_too =
        absurd (onward front y c (c ++ d) some_too (subst (λ (z : Tokens). NoneGoesOn z (y ∷ (c ++ d))) (append-nil front) (subst (NoneGoesOn (front ++ [])) e none)))
    by front (x ∷ a) [] e some none some_too none_too =
        absurd (onward front x a (a ++ b) some (subst (λ (z : Tokens). NoneGoesOn z (x ∷ (a ++ b))) (append-nil front) (subst (NoneGoesOn (front ++ [])) (sym e) none_too)))
    by front (x ∷ a) (y ∷ c) e some none some_too none_too =
        let heads : x ≡ y = ap (λ (z : Tokens). get_or z 0 x) e in
        let tails : a ++ b ≡ c ++ d = ap (λ (z : Tokens). drop 1 z) e in
        let rest = by (front ++ (x ∷ [])) a c tails
        (subst SomeBegins (sym (append_assoc front (x ∷ []) a)) some)
        (subst (λ (z : Tokens). NoneGoesOn z b) (sym (append_assoc front (x ∷ []) a)) none)
        (subst SomeBegins (ap (λ (z : Token). front ++ (z ∷ c)) (sym heads) ∙ sym (append_assoc front (x ∷ []) c)) some_too)
        (subst (λ (z : Tokens). NoneGoesOn z d) (ap (λ (z : Token). front ++ (z ∷ c)) (sym heads) ∙ sym (append_assoc front (x ∷ []) c)) none_too)
        in (λ j. heads j ∷ rest.0 j, rest.1)

-- ---- the clauses

pub is_found : LimitIsDepth → (ts : Tokens) (r : Result Program Refusal) → Gives program_tree r [] (whole_at 40 ts)
    → IfOk (answer_of ts r) (λ p. Derives (program_tree p) ts)
is_found limit ts (Ok p) h = whole_sound limit ts (program_tree p) h
is_found limit ts (Err refusals.Memory) h = tt
is_found limit ts (Err (refusals.Broken b)) h = tt

pub is_only : LimitIsDepth → (ts : Tokens) (r : Result Program Refusal) → Gives program_tree r [] (whole_at 40 ts) → (t : ProgramTree) → Derives t ts
    → GaveTree (answer_of ts r) t
is_only limit ts (Ok p) h t d = ap (λ (x : ProgramTree × Tokens). x.0) (ok_is (program_tree p, []) (t, []) (sym h ∙ whole_complete limit ts t d))
is_only limit ts (Err refusals.Memory) h t d = refl
is_only limit ts (Err (refusals.Broken b)) h t d = absurd (never limit ts t b d h)

pub is_refusal : LimitIsDepth → (ts : Tokens) (r : Result Program Refusal) → Gives program_tree r [] (whole_at 40 ts)
    → IfErr (answer_of ts r) (λ f. IsRefusal ts f)
is_refusal limit ts (Ok p) h = tt
is_refusal limit ts (Err refusals.Memory) h = inl refl
is_refusal limit ts (Err (refusals.Broken b)) h = inr (first_fault limit ts b h)
