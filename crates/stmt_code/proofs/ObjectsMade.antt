-- What methods add for initial values is their code (RM 3.3.1).
use Rattle.std.proofs.Common.{◌≡◌, ℕ, ℤ, zero, suc, ◌+◌, ◌-◌, ◌<◌, ◌≤◌, List, [], ◌∷◌, ◌++◌, append_assoc, length, take, Option, refl, sym, ap, ◌∙◌, subst, arith, length-append}
use Rattle.std.specs.Prelude.{get_or}
use Rattle.std.proofs.Math.Seq.{take-suc}
use Rattle.std.proofs.lemmas.List.{append-nil}
use Rattle.image.specs.declared.instruction.Operation.TheVariants as op
use Rattle.types.specs.declared.entity.RecordComponent.{RecordComponent}
use Rattle.types.specs.declared.entity.Subtype.{Subtype}
use Rattle.types.specs.Entities.{TypeForm}
use Rattle.types.specs.Scopes.{Scope, form_at}
use Rattle.expr_code.specs.Pieces.{Made, adds, nothing, one}
use Rattle.expr_code.proofs.Pieces.{adds_nothing, adds_then}
use Rattle.part_code.specs.ObjectCode.{HasPutWords, first_words, form_words, parts_words, times_words, words_pushed}

pushed_after : (m : Made) (h k : ℕ) (xs ys : List ℤ) → k ≡ h + length xs
    → adds (adds m (words_pushed h xs)) (words_pushed k ys) ≡ adds m (words_pushed h (xs ++ ys))
pushed_after m h k [] ys at =
    ap (λ x. adds x (words_pushed k ys)) (adds_nothing m) ∙ ap (λ n. adds m (words_pushed n ys)) (let e : k ≡ h = omega (arith, at) in e)
pushed_after m h k (x ∷ xs) ys at =
    ap (λ y. adds y (words_pushed k ys)) (sym (adds_then m (one h (op.Push x)) (words_pushed (h + 1) xs)))
    ∙ pushed_after (adds m (one h (op.Push x))) (h + 1) k xs ys (omega (arith, at))
    ∙ adds_then m (one h (op.Push x)) (words_pushed (h + 1) (xs ++ ys))

puts_then : (a b c : Made) (h k m : ℕ) (xs ys : List ℤ) → HasPutWords a h xs b k → HasPutWords b k ys c m → HasPutWords a h (xs ++ ys) c m
puts_then a b c h k m xs ys p q = record {
  made = q.made ∙ ap (λ x. adds x (words_pushed k ys)) p.made ∙ pushed_after a h k xs ys p.more;
  more = (let first = p.more in let second = q.more in let both = length-append xs ys in omega (arith, first, second, both));
}

pub none_put : (m : Made) (h : ℕ) → HasPutWords m h [] m h
none_put m h = record { made = sym (adds_nothing m); more = omega arith }

pub one_put : (m new : Made) (h k : ℕ) (told w : ℤ) → told ≡ w → k ≡ h + 1 → new ≡ adds m (one h (op.Push told)) → HasPutWords m h (w ∷ []) new k
one_put m new h k told w same more p = record {
  made = p ∙ ap (λ z. adds m (one h (op.Push z))) same ∙ sym (adds_nothing (adds m (one h (op.Push w)))) ∙ adds_then m (one h (op.Push w)) nothing;
  more = more;
}

-- ---- composites, part by part

times_more : (n : ℕ) (ws : List ℤ) → times_words (suc n) ws ≡ times_words n ws ++ ws
times_more zero ws = append-nil ws
times_more (suc n) ws = ap (λ l. ws ++ l) (times_more n ws) ∙ sym (append_assoc ws (times_words n ws) ws)

parts_more : (part : Subtype → List ℤ) (cs : List RecordComponent) (c : RecordComponent)
    → parts_words part (cs ++ c ∷ []) ≡ parts_words part cs ++ part c.subtype
parts_more part [] c = append-nil (part c.subtype)
parts_more part (x ∷ cs) c = ap (λ l. part x.subtype ++ l) (parts_more part cs c) ∙ sym (append_assoc (part x.subtype) (parts_words part cs) (part c.subtype))

pub elements_next : (a b c : Made) (h k m n : ℕ) (ws : List ℤ) → HasPutWords a h (times_words n ws) b k → HasPutWords b k ws c m
    → HasPutWords a h (times_words (n + 1) ws) c m
elements_next a b c h k m n ws p q =
    let more : n + 1 ≡ suc n = omega arith in
    subst (λ l. HasPutWords a h l c m) (sym (ap (λ i. times_words i ws) more ∙ times_more n ws)) (puts_then a b c h k m (times_words n ws) ws p q)

pub parts_next : (part : Subtype → List ℤ) (cs : List RecordComponent) (a b c : Made) (h k m n : ℕ) (x : RecordComponent) → n < length cs → x ≡ get_or cs n x
    → HasPutWords a h (parts_words part (take n cs)) b k → HasPutWords b k (part x.subtype) c m → HasPutWords a h (parts_words part (take (n + 1) cs)) c m
parts_next part cs a b c h k m n x less is p q =
    let more : n + 1 ≡ suc n = omega arith in
    let front = take n cs in
    subst (λ l. HasPutWords a h l c m)
    (sym (ap (λ i. parts_words part (take i cs)) more
    ∙ ap (parts_words part) (take-suc cs n x less ∙ ap (λ y. front ++ y ∷ []) (sym is)) ∙ parts_more part front x))
    (puts_then a b c h k m (parts_words part front) (part x.subtype) p q)

-- the words of a type of this form
one_below : (below : ℕ) (s : Scope) (t : Subtype) → (below ≡ 0 → ⊥)
    → form_words (first_words (below - 1) s) t (form_at s t.type_number) ≡ first_words below s t
one_below zero s t some = absurd (some refl)
one_below (suc n) s t some = ap (λ k. form_words (first_words k s) t (form_at s t.type_number)) (let e : suc n - 1 ≡ n = omega arith in e)

pub form_put : (below : ℕ) (s : Scope) (t : Subtype) (form : Option TypeForm) (a c : Made) (h k : ℕ) → (below ≡ 0 → ⊥) → form_at s t.type_number ≡ form
    → HasPutWords a h (form_words (first_words (below - 1) s) t form) c k → HasPutWords a h (first_words below s t) c k
form_put below s t form a c h k some is p =
    subst (λ l. HasPutWords a h l c k) (ap (form_words (first_words (below - 1) s) t) (sym is) ∙ one_below below s t some) p

pub none_below : (below : ℕ) (s : Scope) (t : Subtype) (m : Made) (h : ℕ) → below ≡ 0 → HasPutWords m h (first_words below s t) m h
none_below below s t m h none = subst (λ n. HasPutWords m h (first_words n s t) m h) (sym none) (none_put m h)

pub some_below : (n : ℕ) → (n ≡ 0 → ⊥) → 1 ≤ n
some_below zero h = absurd (h refl)
some_below (suc n) h = omega arith

pub told_put : (m new : Made) (h k : ℕ) (told w : ℤ) → told ≡ w → HasPutWords m h (told ∷ []) new k → HasPutWords m h (w ∷ []) new k
told_put m new h k told w same p = subst (λ z. HasPutWords m h (z ∷ []) new k) same p
