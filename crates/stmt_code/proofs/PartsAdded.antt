-- What parts of statements do when they are put together, and jumps that are led to a place after them.
use Rattle.std.proofs.Common.{◌≡◌, ℕ, suc, ◌+◌, List, [], ◌∷◌, ◌++◌, length, max, refl, sym, ap, ◌∙◌, arith, append_assoc, length-append}
use Rattle.std.proofs.lemmas.List.{append-nil}
use Rattle.handlers.specs.declared.rows.Row.{Row}
use Rattle.image.specs.declared.instruction.Instr.{Instr}
use Rattle.image.specs.declared.instruction.Operation.{Operation}
use Rattle.expr_code.specs.Pieces as pieces
use Rattle.expr_code.specs.Pieces.{Made, Piece, narrow, nothing, one, patched, with_operation}
use Rattle.expr_code.proofs.Pieces.{rejoined_last}
use Rattle.image.specs.declared.instruction.Operation.TheVariants as op
use Rattle.part_code.specs.Labels.{with_label}
use Rattle.stmt_code.specs.Drafting.{ClosesTo, Drafted, CodePart, Sketched, Start, adds, after, all_led, coded, end_of, fragment_of, handles, joins, label_number, labelled, led, marked, marks, skipping, start_of, takes, with_fragment, ◌▹◌}
use Rattle.stmt_code.specs.declared.tables.PlaceRow.{PlaceRow}

abbrev draft : List Instr → List Row → List PlaceRow → List (List ℕ) → ℕ → Drafted
draft code rows places labels most = record { code = code; rows = rows; places = places; labels = labels; most = most }

abbrev sketch : ℕ → Drafted → Sketched
sketch before made = record { before = before; made = made }

abbrev start_at : ℕ → List (List ℕ) → Start
start_at place labels = record { place = place; labels = labels }

at_once : (a b c : ℕ) → max (max a b) c ≡ max a (max b c)
at_once a b c = omega arith

none_more : (a : ℕ) → max a 0 ≡ a
none_more a = omega arith

-- ---- one after the other

joined_again : (a b c : Drafted) → joins (joins a b) c ≡ joins a (joins b c)
joined_again a b c =
    λ j. draft (append_assoc a.code b.code c.code j) (append_assoc a.rows b.rows c.rows j) (append_assoc a.places b.places c.places j) c.labels
    (at_once a.most b.most c.most j)

pub adds_then : (m : Sketched) (a b : CodePart) → adds (adds m a) b ≡ adds m (a ▹ b)
unfolding adds ◌▹◌
adds_then m a b =
    let s = start_of m in
    let x = a s in
    let next : m.before + length (m.made.code ++ x.code) ≡ end_of m + length x.code = let e = length-append m.made.code x.code in omega (arith, e) in
    ap (λ k. sketch m.before (joins (joins m.made x) (b (start_at k x.labels)))) next ∙ ap (sketch m.before) (joined_again m.made x (b (after s x)))

-- ---- instructions alone

with_none : (m : Sketched) (code : List Instr)
    → sketch m.before (joins m.made (draft code [] [] m.made.labels 0)) ≡ sketch m.before (record m.made { code = m.made.code ++ code })
with_none m code =
    λ j. sketch m.before (draft (m.made.code ++ code) (append-nil m.made.rows j) (append-nil m.made.places j) m.made.labels (none_more m.made.most j))

-- a piece that was added to the instructions is added
pub adds_coded : (m : Sketched) (a : Piece) → with_fragment m (pieces.adds (fragment_of m) a) ≡ adds m (coded a)
unfolding adds coded pieces.adds
adds_coded m a = sym (with_none m (a (end_of m)))

-- what a method adds to its fragment
pub coded_made : (m inside new : Sketched) (f : Made) (a : Piece) → inside ≡ m → f ≡ pieces.adds (fragment_of inside) a → new ≡ with_fragment inside f
    → new ≡ adds m (coded a)
coded_made m inside new f a same p q = q ∙ ap (with_fragment inside) p ∙ adds_coded inside a ∙ ap (λ x. adds x (coded a)) same

-- the row of a statement's place
pub marks_added : (m : Sketched) (a : CodePart) (first place : ℕ) → first ≡ end_of m → marks (adds m a) first place ≡ adds m (marked place a)
unfolding adds marked
marks_added m a first place e =
    let s = start_of m in
    let x = a s in
    let ends : m.before + length (m.made.code ++ x.code) ≡ end_of m + length x.code = let g = length-append m.made.code x.code in omega (arith, g) in
    λ j. sketch m.before
    (draft (m.made.code ++ x.code) (m.made.rows ++ x.rows)
    (append_assoc m.made.places x.places ((record { first = e j; behind = ends j; place = place }) ∷ []) j) x.labels (max m.made.most x.most))

pub adds_nothing : (m : Sketched) → adds m (coded nothing) ≡ m
unfolding adds coded nothing
adds_nothing m = with_none m [] ∙ ap (λ c. sketch m.before (record m.made { code = c })) (append-nil m.made.code)

-- words of the frame
takes_most : (m : Sketched) (n : ℕ) → sketch m.before (record m.made { most = max m.made.most n }) ≡ adds m (takes n)
unfolding adds takes
takes_most m n =
    λ j. sketch m.before (draft (sym (append-nil m.made.code) j) (sym (append-nil m.made.rows) j) (sym (append-nil m.made.places) j) m.made.labels (max m.made.most n))

pub takes_made : (m inside new : Sketched) (n most : ℕ) → inside ≡ m → most ≡ max inside.made.most n
    → new ≡ sketch inside.before (record inside.made { most = most }) → new ≡ adds m (takes n)
takes_made m inside new n most same is made =
    made ∙ ap (λ k. sketch inside.before (record inside.made { most = k })) is ∙ takes_most inside n ∙ ap (λ x. adds x (takes n)) same

-- rows of handlers
handles_added : (m : Sketched) (more : List Row) → sketch m.before (record m.made { rows = m.made.rows ++ more }) ≡ adds m (handles more)
unfolding adds handles
handles_added m more =
    λ j. sketch m.before
    (draft (sym (append-nil m.made.code) j) (m.made.rows ++ more) (sym (append-nil m.made.places) j) m.made.labels (sym (none_more m.made.most) j))

pub handles_made : (m inside new : Sketched) (more rows : List Row) → inside ≡ m → rows ≡ inside.made.rows ++ more
    → new ≡ sketch inside.before (record inside.made { rows = rows }) → new ≡ adds m (handles more)
handles_made m inside new more rows same is made =
    made ∙ ap (λ r. sketch inside.before (record inside.made { rows = r })) is ∙ handles_added inside more ∙ ap (λ x. adds x (handles more)) same

-- instructions that are given the number of a label
labels_added : (m : Sketched) (text : List ℕ) (k : ℕ → Piece)
    → sketch m.before (record m.made {
      code = m.made.code ++ k (narrow (label_number m.made.labels text)) (end_of m);
      labels = with_label m.made.labels text;
    }) ≡ adds m (labelled text k)
unfolding adds labelled
labels_added m text k =
    λ j. sketch m.before
    (draft (m.made.code ++ k (narrow (label_number m.made.labels text)) (end_of m)) (sym (append-nil m.made.rows) j) (sym (append-nil m.made.places) j)
    (with_label m.made.labels text) (sym (none_more m.made.most) j))

pub labelled_made : (m inside new : Sketched) (text : List ℕ) (k : ℕ → Piece) (number : ℕ) (labels : List (List ℕ)) (f : Made) → inside ≡ m
    → number ≡ narrow (label_number inside.made.labels text) → labels ≡ with_label inside.made.labels text → f ≡ pieces.adds (fragment_of inside) (k number)
    → new ≡ sketch f.before (record inside.made { code = f.code; labels = labels }) → new ≡ adds m (labelled text k)
unfolding pieces.adds
labelled_made m inside new text k number labels f same is after made put =
    put
    ∙ (λ j. sketch (made j).before (record inside.made { code = (made j).code; labels = after j }))
    ∙ ap (λ n. sketch inside.before (record inside.made {
      code = inside.made.code ++ k n (end_of inside);
      labels = with_label inside.made.labels text;
    })) is
    ∙ labels_added inside text k ∙ ap (λ x. adds x (labelled text k)) same

-- ---- jumps

with_operation_seam : (c : List Instr) (x : Instr) (rest : List Instr) (o : Operation)
    → with_operation (c ++ x ∷ rest) (length c) o ≡ c ++ (record { depth = x.depth; operation = o }) ∷ rest
with_operation_seam [] x rest o = refl
with_operation_seam (y ∷ c) x rest o = ap (λ l. y ∷ l) (with_operation_seam c x rest o)

-- a jump after which a part was added, led to a place
pub leads_to : (m : Sketched) (d : ℕ) (j : Operation) (a : CodePart) (more place : ℕ) (k : ℕ → Operation) (to : ℕ) → place ≡ length m.made.code
    → to ≡ narrow (end_of (adds (adds m (coded (one d j))) a) + more)
    → led (adds (adds m (coded (one d j))) a) place (k to) ≡ adds m (skipping more d k a)
unfolding adds coded one skipping patched
leads_to m d j a more place k to e f =
    let n = end_of m in
    let x : Instr = record { depth = narrow d; operation = j } in
    let code = m.made.code in
    let next : m.before + length (code ++ x ∷ []) ≡ suc n = let g = length-append code (x ∷ []) in omega (arith, g) in
    let y = a (start_at (suc n) m.made.labels) in
    let long : m.before + length ((code ++ x ∷ []) ++ y.code) + more ≡ suc n + length y.code + more =
    let g = length-append (code ++ x ∷ []) y.code in omega (arith, g, next) in
    let all : to ≡ narrow (suc n + length y.code + more) =
    f ∙ ap (λ i. narrow (m.before + length ((code ++ x ∷ []) ++ (a (start_at i m.made.labels)).code) + more)) next ∙ ap narrow long in
    let patched_code : with_operation ((code ++ x ∷ []) ++ y.code) place (k to)
    ≡ code ++ (record { depth = narrow d; operation = k (narrow (suc n + length y.code + more)) }) ∷ y.code =
    ap (λ i. with_operation ((code ++ x ∷ []) ++ y.code) i (k to)) e ∙ ap (λ l. with_operation l (length code) (k to)) (append_assoc code (x ∷ []) y.code)
    ∙ with_operation_seam code x y.code (k to) ∙ ap (λ i. code ++ (record { depth = narrow d; operation = k i }) ∷ y.code) all in
    ap (λ i. sketch m.before
    (draft (with_operation ((code ++ x ∷ []) ++ (a (start_at i m.made.labels)).code) place (k to)) ((m.made.rows ++ []) ++ (a (start_at i m.made.labels)).rows)
    ((m.made.places ++ []) ++ (a (start_at i m.made.labels)).places) (a (start_at i m.made.labels)).labels
    (max (max m.made.most 0) (a (start_at i m.made.labels)).most))) next
    ∙ (λ i. sketch m.before
    (draft (patched_code i) (append-nil m.made.rows i ++ y.rows) (append-nil m.made.places i ++ y.places) y.labels (max (none_more m.made.most i) y.most)))

pub leads : (m : Sketched) (d : ℕ) (j : Operation) (a : CodePart) (place : ℕ) (k : ℕ → Operation) (to : ℕ) → place ≡ length m.made.code
    → to ≡ narrow (end_of (adds (adds m (coded (one d j))) a))
    → led (adds (adds m (coded (one d j))) a) place (k to) ≡ adds m (skipping 0 d k a)
leads m d j a place k to e f =
    leads_to m d j a 0 place k to e (f ∙ ap narrow (let g : (n : ℕ) → n ≡ n + 0 = λ n. omega arith in g _))

-- ---- jumps that wait for the end

pub all_led_last : (m : Sketched) (places : List ℕ) (p end : ℕ) → all_led m (places ++ p ∷ []) end ≡ all_led (led m p (op.Jump end)) places end
all_led_last m places p end = ap (with_fragment m) (rejoined_last (fragment_of m) places p end)

skipping_then : (m : Sketched) (d : ℕ) (k : ℕ → Operation) (a : CodePart) (c : ℕ) (o : Operation)
    → adds m (skipping 0 d k (a ▹ coded (one c o))) ≡ adds m (skipping 1 d k a ▹ coded (one c o))
unfolding adds coded one skipping ◌▹◌
skipping_then m d k a c o =
    let n = end_of m in
    let y = a (start_at (suc n) m.made.labels) in
    let z : List Instr = (record { depth = narrow c; operation = o }) ∷ [] in
    let to : suc n + length (y.code ++ z) + 0 ≡ suc n + length y.code + 1 = let g = length-append y.code z in omega (arith, g) in
    ap (λ i. sketch m.before
    (draft (m.made.code ++ (record { depth = narrow d; operation = k (narrow i) }) ∷ (y.code ++ z)) (m.made.rows ++ (y.rows ++ []))
    (m.made.places ++ (y.places ++ [])) y.labels (max m.made.most (max y.most 0)))) to

-- a jump over a part and one instruction more, once it leads past both
pub leads_past : (m : Sketched) (d : ℕ) (j : Operation) (a : CodePart) (c : ℕ) (o : Operation) (place : ℕ) (k : ℕ → Operation) (to : ℕ) → place ≡ length m.made.code
    → to ≡ narrow (end_of (adds (adds (adds m (coded (one d j))) a) (coded (one c o))))
    → led (adds (adds (adds m (coded (one d j))) a) (coded (one c o))) place (k to) ≡ adds (adds m (skipping 1 d k a)) (coded (one c o))
leads_past m d j a c o place k to e f =
    let same = adds_then (adds m (coded (one d j))) a (coded (one c o)) in
    ap (λ x. led x place (k to)) same ∙ leads m d j (a ▹ coded (one c o)) place k to e (f ∙ ap (λ x. narrow (end_of x)) same)
    ∙ skipping_then m d k a c o ∙ sym (adds_then m (skipping 1 d k a) (coded (one c o)))

skipping_long : (m : Sketched) (more d : ℕ) (j : Operation) (k : ℕ → Operation) (a : CodePart)
    → length (adds (adds m (coded (one d j))) a).made.code ≡ length (adds m (skipping more d k a)).made.code
unfolding adds coded one skipping
skipping_long m more d j k a =
    let n = end_of m in
    let code = m.made.code in
    let y = (a (start_at (suc n) m.made.labels)).code in
    let x : Instr = record { depth = narrow d; operation = j } in
    let z : Instr = record { depth = narrow d; operation = k (narrow (suc n + length y + more)) } in
    let next : m.before + length (code ++ x ∷ []) ≡ suc n = let g = length-append code (x ∷ []) in omega (arith, g) in
    let inner = length-append code (x ∷ []) in
    let front = length-append (code ++ x ∷ []) y in
    let back = length-append code (z ∷ y) in
    ap (λ i. length ((code ++ x ∷ []) ++ (a (start_at i m.made.labels)).code)) next
    ∙ (let e : length ((code ++ x ∷ []) ++ y) ≡ length (code ++ z ∷ y) = omega (arith, inner, front, back) in e)

ends_alike : (m : Sketched) (more d : ℕ) (j : Operation) (k : ℕ → Operation) (a : CodePart)
    → end_of (adds (adds m (coded (one d j))) a) ≡ end_of (adds m (skipping more d k a))
unfolding adds
ends_alike m more d j k a = ap (λ n. m.before + n) (skipping_long m more d j k a)

pub closes_none : (m : Sketched) (last : CodePart) → ClosesTo m [] last (adds m last)
closes_none m last = record { closes = λ end e. refl }

pub closes_end : (m ended new whole : Sketched) (places : List ℕ) (last : CodePart) → ClosesTo m places last whole → ended ≡ adds m last
    → new ≡ all_led ended places (narrow (end_of ended)) → new ≡ whole
closes_end m ended new whole places last p is made =
    made ∙ ap (λ x. all_led x places (narrow (end_of ended))) is ∙ p.closes (narrow (end_of ended)) (ap (λ x. narrow (end_of x)) is)

-- by another part that adds as much
pub closes_alike : (m whole : Sketched) (places : List ℕ) (a b : CodePart) → adds m a ≡ adds m b → ClosesTo m places a whole → ClosesTo m places b whole
closes_alike m whole places a b same p = record {
  closes = λ end e.
      ap (λ x. all_led x places end) (sym same) ∙ p.closes end (e ∙ ap (λ x. narrow (end_of x)) (sym same));
}

-- a part, and a jump to the end, which waits with those before it
pub jump_closes : (m new whole : Sketched) (places : List ℕ) (place : ℕ) (x last : CodePart) → place ≡ length (adds m x).made.code
    → new ≡ adds (adds m x) (coded (one 0 (op.Jump 0))) → ClosesTo m places (x ▹ skipping 0 0 op.Jump last) whole
    → ClosesTo new (places ++ place ∷ []) last whole
jump_closes m new whole places place x last place_is is p = record {
  closes = λ end e.
      let same : adds new last ≡ adds (adds (adds m x) (coded (one 0 (op.Jump 0)))) last = ap (λ y. adds y last) is in
      let ends : end ≡ narrow (end_of (adds (adds (adds m x) (coded (one 0 (op.Jump 0)))) last)) = e ∙ ap (λ y. narrow (end_of y)) same in
      let is_led : led (adds new last) place (op.Jump end) ≡ adds m (x ▹ skipping 0 0 op.Jump last) =
      ap (λ y. led y place (op.Jump end)) same ∙ leads (adds m x) 0 (op.Jump 0) last place op.Jump end place_is ends
      ∙ adds_then m x (skipping 0 0 op.Jump last) in
      all_led_last (adds new last) places place end ∙ ap (λ y. all_led y places end) is_led
      ∙ p.closes end (ends ∙ ap narrow (ends_alike (adds m x) 0 0 (op.Jump 0) op.Jump last ∙ ap end_of (adds_then m x (skipping 0 0 op.Jump last))));
}

-- a test, what stands where it holds, and a jump to the end; the test leads to the place after that
pub branch_closes : (m new whole : Sketched) (places : List ℕ) (test place to : ℕ) (jump : ℕ → Operation) (c x last : CodePart)
    → test ≡ length (adds m c).made.code → place ≡ length (adds (adds (adds m c) (coded (one 1 (jump 0)))) x).made.code
    → to ≡ narrow (end_of (adds (adds (adds (adds m c) (coded (one 1 (jump 0)))) x) (coded (one 0 (op.Jump 0)))))
    → new ≡ led (adds (adds (adds (adds m c) (coded (one 1 (jump 0)))) x) (coded (one 0 (op.Jump 0)))) test (jump to)
    → ClosesTo m places (c ▹ skipping 1 1 jump x ▹ skipping 0 0 op.Jump last) whole → ClosesTo new (places ++ place ∷ []) last whole
branch_closes m new whole places test place to jump c x last test_is place_is to_is is p =
    let held = c ▹ skipping 1 1 jump x in
    let both : adds (adds m c) (skipping 1 1 jump x) ≡ adds m held = adds_then m c (skipping 1 1 jump x) in
    let closed : new ≡ adds (adds m held) (coded (one 0 (op.Jump 0))) =
    is ∙ leads_past (adds m c) 1 (jump 0) x 0 (op.Jump 0) test jump to test_is to_is ∙ ap (λ y. adds y (coded (one 0 (op.Jump 0)))) both in
    let again : adds m (c ▹ skipping 1 1 jump x ▹ skipping 0 0 op.Jump last) ≡ adds m (held ▹ skipping 0 0 op.Jump last) =
    sym (adds_then m c (skipping 1 1 jump x ▹ skipping 0 0 op.Jump last)) ∙ sym (adds_then (adds m c) (skipping 1 1 jump x) (skipping 0 0 op.Jump last))
    ∙ ap (λ y. adds y (skipping 0 0 op.Jump last)) both ∙ adds_then m held (skipping 0 0 op.Jump last) in
    jump_closes m new whole places place held last
    (place_is ∙ skipping_long (adds m c) 1 1 (jump 0) jump x ∙ ap (λ y. length y.made.code) both) closed
    (closes_alike m whole places (c ▹ skipping 1 1 jump x ▹ skipping 0 0 op.Jump last) (held ▹ skipping 0 0 op.Jump last) again p)
