-- What pieces do when they are put together, and jumps that are patched after them.
use Rattle.std.proofs.Common.{◌≡◌, ◌<◌, ◌≤◌, ℕ, drop, zero, suc, ◌+◌, List, [], ◌∷◌, ◌++◌, length, max, Some, refl, sym, ap, ◌∙◌, append_assoc, append-nil, arith, length-append}
use Rattle.std.proofs.lemmas.Option.{slice_get-get_or}
use Rattle.std.specs.Prelude.{get_or, slice_get, slice_set}
use Rattle.image.specs.declared.instruction.Instr.{Instr}
use Rattle.image.specs.declared.instruction.Operation.{Operation}
use Rattle.image.specs.declared.instruction.Operation.TheVariants as op
use Rattle.expr_code.specs.ExpressionCode.{fork_code}
use Rattle.expr_code.specs.Pieces.{Made, Piece, Waits, adds, deepest_of, end_of, narrow, nothing, one, ◌▸◌, over, patched, rejoined, with_operation}

abbrev pub make : ℕ → List Instr → Made
make n c = record { before = n; code = c }

pub deepest_append : (a b : List Instr) → deepest_of (a ++ b) ≡ max (deepest_of a) (deepest_of b)
deepest_append [] b = omega arith
deepest_append (x ∷ a) b = let rest = deepest_append a b in omega (arith, rest)

-- ---- one after the other

pub adds_nothing : (m : Made) → adds m nothing ≡ m
unfolding adds nothing
adds_nothing m = ap (make m.before) (append-nil m.code)

pub adds_then : (m : Made) (a b : Piece) → adds (adds m a) b ≡ adds m (a ▸ b)
unfolding adds ◌▸◌
adds_then m a b =
    let n = end_of m in
    ap (λ k. make m.before ((m.code ++ a n) ++ b k)) (let e = length-append m.code (a n) in let f : m.before + length (m.code ++ a n) ≡ n + length (a n) = omega (arith, e) in f)
    ∙ ap (make m.before) (append_assoc m.code (a n) (b (n + length (a n))))

-- what was added in two steps
pub then_made : (m n new : Made) (a b : Piece) → n ≡ adds m a → new ≡ adds n b → new ≡ adds m (a ▸ b)
then_made m n new a b p q = q ∙ ap (λ x. adds x b) p ∙ adds_then m a b

pub one_same : (m new : Made) (d e : ℕ) (x y : Operation) → d ≡ e → x ≡ y → new ≡ adds m (one d x) → new ≡ adds m (one e y)
one_same m new d e x y p q h = h ∙ ap (λ n. adds m (one n x)) p ∙ ap (λ o. adds m (one e o)) q

pub three_added : (m n o new : Made) (d e f : ℕ) (x y z : Operation) → e ≡ d + 1 → f ≡ e + 1 → n ≡ adds m (one d x) → o ≡ adds n (one e y)
    → new ≡ adds o (one f z) → new ≡ adds m (one d x ▸ one (d + 1) y ▸ one (d + 1 + 1) z)
three_added m n o new d e f x y z p q h k l =
    then_made m n new (one d x) (one (d + 1) y ▸ one (d + 1 + 1) z) h
    (then_made n o new (one (d + 1) y) (one (d + 1 + 1) z) (one_same n o e (d + 1) y y p refl k)
    (one_same o new f (d + 1 + 1) z z (q ∙ ap (λ i. i + 1) p) refl l))

-- ---- an operation that is patched

pub with_operation_set : (c : List Instr) (n : ℕ) (x : Instr) (o : Operation) → slice_get c n ≡ Some x
    → slice_set c n (record { depth = x.depth; operation = o }) ≡ with_operation c n o
with_operation_set [] n x o h = absurd cc
with_operation_set (y ∷ c) zero x o h = ap (λ z. (record { depth = z; operation = o }) ∷ c) (depth_of x y h)
  where
    depth_of : (x y : Instr) → Some y ≡ Some x → x.depth ≡ y.depth
    depth_of x y e = cc
with_operation_set (y ∷ c) (suc n) x o h = ap (λ l. y ∷ l) (with_operation_set c n x o h)

pub there : (xs : List Instr) (n : ℕ) (x : Instr) → n < length xs → x ≡ get_or xs n x → slice_get xs n ≡ Some x
there xs n x less is = slice_get-get_or xs n x less ∙ ap Some (sym is)

with_operation_none : (c : List Instr) (n : ℕ) (o : Operation) → length c ≤ n → with_operation c n o ≡ c
with_operation_none [] n o le = refl
with_operation_none (x ∷ c) zero o le = absurd (omega (arith, le))
with_operation_none (x ∷ c) (suc n) o le = ap (λ l. x ∷ l) (with_operation_none c n o (omega (arith, le)))

pub patched_none : (b : ℕ) (c : List Instr) (place : ℕ) (o : Operation) → length c ≤ place → make b c ≡ patched (make b c) place o
unfolding patched
patched_none b c place o le = ap (make b) (sym (with_operation_none c place o le))

pub patched_made : (b : ℕ) (c e : List Instr) (place d : ℕ) (x : Instr) (o : Operation) → slice_get c place ≡ Some x → d ≡ x.depth
    → e ≡ slice_set c place (record { depth = d; operation = o }) → make b e ≡ patched (make b c) place o
unfolding patched
patched_made b c e place d x o there depth is =
    ap (make b) (is ∙ ap (λ k. slice_set c place (record { depth = k; operation = o })) depth ∙ with_operation_set c place x o there)

with_operation_seam : (c : List Instr) (x : Instr) (rest : List Instr) (o : Operation)
    → with_operation (c ++ x ∷ rest) (length c) o ≡ c ++ (record { depth = x.depth; operation = o }) ∷ rest
with_operation_seam [] x rest o = refl
with_operation_seam (y ∷ c) x rest o = ap (λ l. y ∷ l) (with_operation_seam c x rest o)

with_operation_twice : (c : List Instr) (m n : ℕ) (o : Operation) → with_operation (with_operation c m o) n o ≡ with_operation (with_operation c n o) m o
with_operation_twice [] m n o = refl
with_operation_twice (x ∷ c) zero zero o = refl
with_operation_twice (x ∷ c) zero (suc n) o = refl
with_operation_twice (x ∷ c) (suc m) zero o = refl
with_operation_twice (x ∷ c) (suc m) (suc n) o = ap (λ l. x ∷ l) (with_operation_twice c m n o)

-- a jump after which a piece was added, led to a place
pub leads_to : (m : Made) (d : ℕ) (j : Operation) (a : Piece) (more place : ℕ) (k : ℕ → Operation) (to : ℕ) → place ≡ length m.code
    → to ≡ narrow (end_of (adds (adds m (one d j)) a) + more) → patched (adds (adds m (one d j)) a) place (k to) ≡ adds m (over more d k a)
unfolding adds one over patched
leads_to m d j a more place k to e f =
    let n = end_of m in
    let x : Instr = record { depth = narrow d; operation = j } in
    let next : m.before + length (m.code ++ x ∷ []) ≡ suc n = let g = length-append m.code (x ∷ []) in omega (arith, g) in
    let y = a (suc n) in
    let long : m.before + length ((m.code ++ x ∷ []) ++ y) + more ≡ suc n + length y + more =
    let g = length-append (m.code ++ x ∷ []) y in omega (arith, g, next) in
    let all : to ≡ narrow (suc n + length y + more) = f ∙ ap (λ i. narrow (m.before + length ((m.code ++ x ∷ []) ++ a i) + more)) next ∙ ap narrow long in
    ap (λ i. make m.before (with_operation ((m.code ++ x ∷ []) ++ a i) place (k to))) next
    ∙ ap (make m.before)
    (ap (λ i. with_operation ((m.code ++ x ∷ []) ++ y) i (k to)) e ∙ ap (λ l. with_operation l (length m.code) (k to)) (append_assoc m.code (x ∷ []) y)
    ∙ with_operation_seam m.code x y (k to) ∙ ap (λ i. m.code ++ (record { depth = narrow d; operation = k i }) ∷ y) all)

pub leads : (m : Made) (d : ℕ) (j : Operation) (a : Piece) (place : ℕ) (k : ℕ → Operation) (to : ℕ) → place ≡ length m.code
    → to ≡ narrow (end_of (adds (adds m (one d j)) a)) → patched (adds (adds m (one d j)) a) place (k to) ≡ adds m (over 0 d k a)
leads m d j a place k to e f = leads_to m d j a 0 place k to e (f ∙ ap narrow (let g : (n : ℕ) → n ≡ n + 0 = λ n. omega arith in g _))

over_then : (m : Made) (d : ℕ) (k : ℕ → Operation) (a : Piece) (c : ℕ) (o : Operation) → adds m (over 0 d k (a ▸ one c o)) ≡ adds m (over 1 d k a ▸ one c o)
unfolding adds one over ◌▸◌
over_then m d k a c o =
    let n = end_of m in
    let y = a (suc n) in
    let z : List Instr = (record { depth = narrow c; operation = o }) ∷ [] in
    let to : suc n + length (y ++ z) + 0 ≡ suc n + length y + 1 = let g = length-append y z in omega (arith, g) in
    ap (λ i. make m.before (m.code ++ (record { depth = narrow d; operation = k (narrow i) }) ∷ (y ++ z))) to

-- a jump over a piece and one instruction more, once it leads past both
pub leads_past : (m : Made) (d : ℕ) (j : Operation) (a : Piece) (c : ℕ) (o : Operation) (place : ℕ) (k : ℕ → Operation) (to : ℕ) → place ≡ length m.code
    → to ≡ narrow (end_of (adds (adds (adds m (one d j)) a) (one c o)))
    → patched (adds (adds (adds m (one d j)) a) (one c o)) place (k to) ≡ adds (adds m (over 1 d k a)) (one c o)
leads_past m d j a c o place k to e f =
    let same = adds_then (adds m (one d j)) a (one c o) in
    ap (λ x. patched x place (k to)) same ∙ leads m d j (a ▸ one c o) place k to e (f ∙ ap (λ x. narrow (end_of x)) same)
    ∙ over_then m d k a c o ∙ sym (adds_then m (over 1 d k a) (one c o))

-- another operation in the place of an instruction after which a piece was added
pub replaces : (m : Made) (d : ℕ) (x y : Operation) (a : Piece) (place : ℕ) → place ≡ length m.code
    → patched (adds (adds m (one d x)) a) place y ≡ adds m (one d y ▸ a)
unfolding adds one ◌▸◌ patched
replaces m d x y a place e =
    let n = end_of m in
    let z : Instr = record { depth = narrow d; operation = x } in
    let next : m.before + length (m.code ++ z ∷ []) ≡ n + 1 = let g = length-append m.code (z ∷ []) in omega (arith, g) in
    ap (λ i. make m.before (with_operation ((m.code ++ z ∷ []) ++ a i) place y)) next
    ∙ ap (make m.before)
    (ap (λ i. with_operation ((m.code ++ z ∷ []) ++ a (n + 1)) i y) e ∙ ap (λ l. with_operation l (length m.code) y) (append_assoc m.code (z ∷ []) (a (n + 1)))
    ∙ with_operation_seam m.code z (a (n + 1)) y)

-- a piece that was added, by another name of it
pub same_added : (m n new : Made) (a b : Piece) → n ≡ m → a ≡ b → new ≡ adds n a → new ≡ adds m b
same_added m n new a b e f h = h ∙ ap (λ x. adds x a) e ∙ ap (adds m) f

pub none_added : (m n : Made) (a : Piece) → n ≡ m → a ≡ nothing → n ≡ adds m a
none_added m n a e f = e ∙ sym (ap (adds m) f ∙ adds_nothing m)

-- ---- jumps that wait for the end

patched_twice : (m : Made) (p q : ℕ) (o : Operation) → patched (patched m p o) q o ≡ patched (patched m q o) p o
unfolding patched
patched_twice m p q o = ap (make m.before) (with_operation_twice m.code p q o)

pub rejoined_last : (m : Made) (places : List ℕ) (p end : ℕ) → rejoined m (places ++ p ∷ []) end ≡ rejoined (patched m p (op.Jump end)) places end
rejoined_last m [] p end = refl
rejoined_last m (q ∷ places) p end =
    rejoined_last (patched m q (op.Jump end)) places p end ∙ ap (λ x. rejoined x places end) (patched_twice m q p (op.Jump end))

pub drop_end : {A : Type 0} (xs : List A) (n : ℕ) → length xs ≤ n → drop n xs ≡ []
drop_end [] zero le = refl
drop_end [] (suc n) le = refl
drop_end (x ∷ xs) zero le = absurd (omega (arith, le))
drop_end (x ∷ xs) (suc n) le = drop_end xs n (omega (arith, le))

pub none_waits : (m : Made) → Waits m (λ last. last) m []
none_waits m = record { closes = λ last end e. refl }

over_long : (m : Made) (more d : ℕ) (j : Operation) (k : ℕ → Operation) (a : Piece) → length (adds (adds m (one d j)) a).code ≡ length (adds m (over more d k a)).code
unfolding adds one over
over_long m more d j k a =
    let n = end_of m in
    let x : Instr = record { depth = narrow d; operation = j } in
    let z : Instr = record { depth = narrow d; operation = k (narrow (suc n + length (a (suc n)) + more)) } in
    let next : m.before + length (m.code ++ x ∷ []) ≡ suc n = let g = length-append m.code (x ∷ []) in omega (arith, g) in
    let inner = length-append m.code (x ∷ []) in
    let front = length-append (m.code ++ x ∷ []) (a (suc n)) in
    let back = length-append m.code (z ∷ a (suc n)) in
    ap (λ i. length ((m.code ++ x ∷ []) ++ a i)) next
    ∙ (let e : length ((m.code ++ x ∷ []) ++ a (suc n)) ≡ length (m.code ++ z ∷ a (suc n)) = omega (arith, inner, front, back) in e)

ends_alike : (m : Made) (more d : ℕ) (j : Operation) (k : ℕ → Operation) (a : Piece) → end_of (adds (adds m (one d j)) a) ≡ end_of (adds m (over more d k a))
unfolding adds
ends_alike m more d j k a = ap (λ n. m.before + n) (over_long m more d j k a)

-- A condition and what follows where it holds, whose jump to the end waits with those of the branches before it
module _ (start : Made) (front : Piece → Piece) (m new : Made) (places : List ℕ) (d k height test place to : ℕ) (c x : Piece) (waits : Waits start front m places)
    (high : height ≡ k) (test_is : test ≡ length (adds m c).code) (place_is : place ≡ length (adds (adds (adds m c) (one (d + 1) (op.JumpIfZero 0))) x).code)
    (to_is : to ≡ narrow (end_of (adds (adds (adds (adds m c) (one (d + 1) (op.JumpIfZero 0))) x) (one height (op.Jump 0)))))
    (is : new ≡ patched (adds (adds (adds (adds m c) (one (d + 1) (op.JumpIfZero 0))) x) (one height (op.Jump 0))) test (op.JumpIfZero to)) where
  abbrev valued : Made
  valued = adds (adds m c) (over 1 (d + 1) op.JumpIfZero x)

  closed : new ≡ adds valued (one k (op.Jump 0))
  closed =
      is ∙ leads_past (adds m c) (d + 1) (op.JumpIfZero 0) x height (op.Jump 0) test op.JumpIfZero to test_is to_is
      ∙ ap (λ n. adds valued (one n (op.Jump 0))) high

  together : (last : Piece) → adds valued (over 0 k op.Jump last) ≡ adds m (fork_code d k c x last)
  together last =
      adds_then (adds m c) (over 1 (d + 1) op.JumpIfZero x) (over 0 k op.Jump last)
      ∙ adds_then m c (over 1 (d + 1) op.JumpIfZero x ▸ over 0 k op.Jump last)

  pub branch_waits : Waits start (λ last. front (fork_code d k c x last)) new (places ++ place ∷ [])
  branch_waits = record {
    closes = λ last end e.
        let same : adds new last ≡ adds (adds valued (one k (op.Jump 0))) last = ap (λ y. adds y last) closed in
        let ends : end ≡ narrow (end_of (adds (adds valued (one k (op.Jump 0))) last)) = e ∙ ap (λ y. narrow (end_of y)) same in
        let led : patched (adds new last) place (op.Jump end) ≡ adds m (fork_code d k c x last) =
        ap (λ y. patched y place (op.Jump end)) same
        ∙ leads valued k (op.Jump 0) last place op.Jump end (place_is ∙ over_long (adds m c) 1 (d + 1) (op.JumpIfZero 0) op.JumpIfZero x) ends
        ∙ together last in
        rejoined_last (adds new last) places place end ∙ ap (λ y. rejoined y places end) led
        ∙ waits.closes (fork_code d k c x last) end
        (ends ∙ ap narrow (ends_alike valued 0 k (op.Jump 0) op.Jump last ∙ ap end_of (together last)));
  }
