-- The tokens of a select statement are read exactly.
use Rattle.lexer.specs.declared.token.TokenKind.TheVariants as kinds
use Rattle.lexer.specs.declared.word.Word.TheVariants as words
use Rattle.std.proofs.Common.{◌≡◌, Bool, true, false, cond, [], ◌∷◌, ◌++◌, length, Some, None, Ok, Err, refl, sym, ap, subst, ◌∙◌, inl, inr, ◌⊎◌}
use Rattle.lexer.specs.declared.token.Token.{Token}
use Rattle.ada_tree.specs.Language.{Tokens, ◌⨾◌, word}
use Rattle.ada_tree.specs.StatementGrammar.{selected}
use Rattle.parser.specs.declared.refusal.Broken.{Broken}
use Rattle.parser.specs.Reading.{first, refuse, is_kind, is_word}
use Rattle.parser.specs.StatementReading.{selected_at}
use Rattle.parser.proofs.general.Exact.{Took, Refused, Exact, Free, chosen, ok_is, ok_not_err, err_is, is_that_kind, refused_here, exact_told}

abbrev pub Ends : Tokens → Type 0
Ends = word words.End ⨾ word words.Select

-- what is read, where `end` stands before it or not
abbrev pub Selected : Bool → Unit {0} → Tokens → Type 0
Selected b u s = ((b ≡ true) × word words.Select s) ⊎ (selected ⨾ Ends) s

abbrev pub is_select : Token → Bool
is_select t = is_word words.Select (Some t)

abbrev pub is_end : Token → Bool
is_end t = is_word words.End (Some t)

abbrev pub Value : Type 0
Value = Unit {0} × Tokens

not_select : (t : Token) → is_select t ≡ false → t.kind ≡ kinds.Word words.Select → ⊥
not_select t h k = differ (sym (ap (is_kind (kinds.Word words.Select)) k) ∙ h)
  where
    differ : true ≡ false → ⊥
    differ e = cc

longer : (t : Token) (x : Value) (ts : Tokens) (b : Bool) → is_select t ≡ false → Took (Selected (is_end t)) Free ts x → Took (Selected b) Free (t ∷ ts) x
longer t x ts b no_select took =
    record { front = t ∷ took.front; spells = more took.spells; parts = ap (λ (z : Tokens). t ∷ z) took.parts; stops = tt }
  where
    more : Selected (is_end t) x.0 took.front → Selected b x.0 (t ∷ took.front)
    more (inl g) = inr ([], t ∷ took.front, refl, tt, (t ∷ [], took.front, refl, (t, refl, is_that_kind (kinds.Word words.End) t.kind g.0), g.1))
    more (inr g) = inr (t ∷ g.0, g.1, ap (λ (z : Tokens). t ∷ z) g.2, (not_select t no_select, g.3), g.4)

selected_sound : (ts : Tokens) (b : Bool) (x : Value) → selected_at b ts ≡ Ok x → Took (Selected b) Free ts x
selected_sound [] b x e = absurd (ok_not_err x _ (sym e))
selected_sound (t ∷ ts) b x e =
    elim (chosen (is_select t) (cond b (Ok (tt, ts)) (refuse false (t ∷ ts))) (selected_at (is_end t) ts) (Ok x) e) [
      | inl w ↦
          elim (chosen b (Ok (tt, ts)) (refuse false (t ∷ ts)) (Ok x) w.1) [
            | inl v ↦ subst (λ (z : Value). Took (Selected b) Free (t ∷ ts) z) (ok_is (tt, ts) x v.1)
                (record { front = t ∷ []; spells = inl (v.0, (t, refl, is_that_kind (kinds.Word words.Select) t.kind w.0)); parts = refl; stops = tt })
            | inr v ↦ absurd (ok_not_err x _ (sym v.1))
          ]
      | inr w ↦ longer t x ts b w.0 (selected_sound ts (is_end t) x w.1)
    ]

at_select : (t : Token) (ts : Tokens) → t.kind ≡ kinds.Word words.Select → selected_at true (t ∷ ts) ≡ Ok (tt, ts)
at_select t ts k = rw k refl

past_other : (t : Token) (ts : Tokens) (b : Bool) → is_select t ≡ false → selected_at b (t ∷ ts) ≡ selected_at (is_end t) ts
past_other t ts b h = ap (λ (c : Bool). cond c (cond b (Ok (tt, ts)) (refuse false (t ∷ ts))) (selected_at (is_end t) ts)) h

select_ends : (s r : Tokens) → word words.Select s → selected_at true (s ++ r) ≡ Ok (tt, r)
select_ends s r g = ap (λ (z : Tokens). selected_at true (z ++ r)) g.1 ∙ at_select g.0 r g.2

end_ends : (s r : Tokens) (b : Bool) → Ends s → selected_at b (s ++ r) ≡ Ok (tt, r)
end_ends s r b g =
    let t = g.3.0 in
    let kind = g.3.2 in
    let whole : s ++ r ≡ t ∷ (g.1 ++ r) = ap (λ (z : Tokens). z ++ r) (g.2 ∙ ap (λ (z : Tokens). z ++ g.1) g.3.1) in
    ap (selected_at b) whole ∙ past_other t (g.1 ++ r) b (ap (is_kind (kinds.Word words.Select)) kind)
    ∙ ap (λ (c : Bool). selected_at c (g.1 ++ r)) (ap (is_kind (kinds.Word words.End)) kind) ∙ select_ends g.1 r g.4

other : (t : Token) → (t.kind ≡ kinds.Word words.Select → ⊥) → is_select t ≡ false
other t h = decided (is_select t) (λ e. h (is_that_kind (kinds.Word words.Select) t.kind e))
  where
    decided : (b : Bool) → (b ≡ true → ⊥) → b ≡ false
    decided true h = absurd (h refl)
    decided false h = refl

selected_complete : (u v r : Tokens) (b : Bool) → selected u → Ends v → selected_at b ((u ++ v) ++ r) ≡ Ok (tt, r)
selected_complete [] v r b g h = end_ends v r b h
selected_complete (t ∷ u) v r b g h = past_other t ((u ++ v) ++ r) b (other t g.0) ∙ selected_complete u v r (is_end t) g.1 h

all_complete : (b : Bool) (a : Unit {0}) (s r : Tokens) → Selected b a s → selected_at b (s ++ r) ≡ Ok (a, r)
all_complete b a s r (inl g) = ap (λ (c : Bool). selected_at c (s ++ r)) g.0 ∙ select_ends s r g.1
all_complete b a s r (inr g) = ap (λ (z : Tokens). selected_at b (z ++ r)) g.2 ∙ selected_complete g.0 g.1 r b g.3 g.4

refused_select : (t : Token) (g : Tokens) → is_select t ≡ true → selected_at false (t ∷ g) ≡ refuse false (t ∷ g)
refused_select t g h = ap (λ (c : Bool). cond c (refuse false (t ∷ g)) (selected_at (is_end t) g)) h

again_here : (t : Token) (ts g : Tokens) (b : Bool) → b ≡ false → is_select t ≡ true → first g ≡ Some t → selected_at b g ≡ refuse false g
again_here t ts [] b n h same = absurd cc
again_here t ts (u ∷ g) b n h same =
    let is : u ≡ t = cc in
    ap (λ (c : Bool). selected_at c (u ∷ g)) n ∙ refused_select u g (ap is_select is ∙ h)

again_end : (g : Tokens) (b : Bool) → first g ≡ None → selected_at b g ≡ refuse false g
again_end [] b same = refl
again_end (u ∷ g) b same = absurd cc

selected_local : (ts : Tokens) (b : Bool) (f : Broken) → selected_at b ts ≡ Err f → Refused (selected_at b) ts f
selected_local [] b f e =
    let is = err_is {A = Value} (record { deep = false; left = 0 }) f e in
    refused_here (selected_at b) [] f false (sym is) (λ g same. again_end g b same)
selected_local (t ∷ ts) b f e =
    elim (chosen (is_select t) (cond b (Ok (tt, ts)) (refuse false (t ∷ ts))) (selected_at (is_end t) ts) (Err f) e) [
      | inl w ↦
          elim (chosen b (Ok (tt, ts)) (refuse false (t ∷ ts)) (Err f) w.1) [
            | inl v ↦ absurd (ok_not_err (tt, ts) f v.1)
            | inr v ↦
                let is = err_is {A = Value} (record { deep = false; left = length (t ∷ ts) }) f v.1 in
                refused_here (selected_at b) (t ∷ ts) f false (sym is) (λ g same. again_here t ts g b v.0 w.0 same)
          ]
      | inr w ↦
          let l = selected_local ts (is_end t) f w.1 in
          record {
            front = t ∷ l.front;
            back = l.back;
            parts = ap (λ (z : Tokens). t ∷ z) l.parts;
            left = l.left;
            again =
                λ g same. past_other t (l.front ++ g) b w.0 ∙ l.again g same;
          }
    ]

exact_after : (b : Bool) → Exact (selected_at b) (Selected b) Free
exact_after b =
    record {
      sound = λ ts x e. selected_sound ts b x e;
      complete = λ a s r g st. all_complete b a s r g;
      local = λ ts f e. selected_local ts b f e;
    }

selected_to : (x : Unit {0}) (ts : Tokens) → Selected false x ts → (selected ⨾ Ends) ts
selected_to x ts (inl g) = absurd cc
selected_to x ts (inr g) = g

pub selected_exact : Exact (selected_at false) (λ _. selected ⨾ word words.End ⨾ word words.Select) Free
selected_exact =
    exact_told (selected_at false) (Selected false) (λ _. selected ⨾ word words.End ⨾ word words.Select) Free Free (exact_after false) selected_to
    (λ x ts g. inr g) (λ x ts o g st. st) (λ x ts o g st. st)
