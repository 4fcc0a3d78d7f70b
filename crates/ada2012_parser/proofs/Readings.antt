-- What is read in turn.
use Rattle.std.proofs.Common.{arith, ◌≡◌, ℕ, ◌≤◌, List, [], ◌∷◌, ◌++◌, map, subst, sym, ◌∙◌, ap, Result, Ok, Err}
use Rattle.std.specs.Prelude.{IfOk}
use Rattle.ada2012_lexer.specs.declared.token.Span.{Span}
use Rattle.ada2012_tree.specs.Spans.{SpanTree, SpanTrees, LieBetween, MoreTrees, Node, NoTrees, joined, only, trees_of}
use Rattle.ada2012_parser.specs.declared.parser.Parser.{Parser}
use Rattle.ada2012_parser.specs.Reading.{AreReadSince, Reads, ReadsSome, here}
use Rattle.ada2012_parser.proofs.Between.{lie_joined, lie_to, trees_more}

-- one token or more are any number
pub any : {s : ℕ} {a b : Parser} {xs : SpanTrees} → ReadsSome s a b xs → Reads s a b xs
any h = record { starts = h.starts; shrinks = omega (arith, h.shrinks); last = omega (arith, h.reaches); onwards = omega (arith, h.reaches); between = h.between }

-- what is read, and then something else
pub both : {s : ℕ} {a b c : Parser} {xs ys : SpanTrees} → Reads s a b xs → Reads (here b) b c ys → Reads s a c (joined xs ys)
both {s = s} {b = b} {c = c} {xs = xs} {ys = ys} h k =
    record {
      starts = h.starts;
      shrinks = omega (arith, h.shrinks, k.shrinks);
      last = omega (arith, h.last, k.last);
      onwards = omega (arith, h.onwards, k.onwards);
      between = lie_joined xs ys s b.last (here b) c.last h.between k.between (omega (arith, h.starts, h.onwards)) (omega arith) k.last;
    }

pub some_any : {s : ℕ} {a b c : Parser} {xs ys : SpanTrees} → ReadsSome s a b xs → Reads (here b) b c ys → ReadsSome s a c (joined xs ys)
some_any h k =
    record {
      starts = h.starts;
      shrinks = omega (arith, h.shrinks, k.shrinks);
      reaches = omega (arith, h.reaches, k.last);
      between = (both (any h) k).between;
    }

pub any_some : {s : ℕ} {a b c : Parser} {xs ys : SpanTrees} → Reads s a b xs → ReadsSome (here b) b c ys → ReadsSome s a c (joined xs ys)
any_some h k =
    record {
      starts = h.starts;
      shrinks = omega (arith, h.shrinks, k.shrinks);
      reaches = omega (arith, h.onwards, k.reaches);
      between = (both h (any k)).between;
    }

-- tokens, and then something else
pub pass_some : {s : ℕ} {a b c : Parser} {ys : SpanTrees} → ReadsSome s a b NoTrees → Reads (here b) b c ys → ReadsSome s a c ys
pass_some h k = some_any {xs = NoTrees} h k

pub pass_any : {s : ℕ} {a b c : Parser} {ys : SpanTrees} → Reads s a b NoTrees → Reads (here b) b c ys → Reads s a c ys
pass_any h k = both {xs = NoTrees} h k

pub pass_any_some : {s : ℕ} {a b c : Parser} {ys : SpanTrees} → Reads s a b NoTrees → ReadsSome (here b) b c ys → ReadsSome s a c ys
pass_any_some h k = any_some {xs = NoTrees} h k

-- one node, and then something else
pub one : {s : ℕ} {a b c : Parser} {t : SpanTree} {ys : SpanTrees} → ReadsSome s a b (only t) → Reads (here b) b c ys → ReadsSome s a c (MoreTrees t ys)
one {t = t} h k = some_any {xs = only t} h k

-- what is read, and tokens after it
pub ended : {s : ℕ} {a b c : Parser} {xs : SpanTrees} → Reads s a b xs → Reads (here b) b c NoTrees → Reads s a c xs
ended {s = s} {b = b} {c = c} {xs = xs} h k =
    record {
      starts = h.starts;
      shrinks = omega (arith, h.shrinks, k.shrinks);
      last = omega (arith, h.last, k.last);
      onwards = omega (arith, h.onwards, k.onwards);
      between = lie_to xs s b.last c.last h.between k.last;
    }

pub some_ended : {s : ℕ} {a b c : Parser} {xs : SpanTrees} → ReadsSome s a b xs → Reads (here b) b c NoTrees → ReadsSome s a c xs
some_ended h k =
    record {
      starts = h.starts;
      shrinks = omega (arith, h.shrinks, k.shrinks);
      reaches = omega (arith, h.reaches, k.last);
      between = (ended (any h) k).between;
    }

pub ended_some : {s : ℕ} {a b c : Parser} {xs : SpanTrees} → Reads s a b xs → ReadsSome (here b) b c NoTrees → ReadsSome s a c xs
ended_some h k =
    record {
      starts = h.starts;
      shrinks = omega (arith, h.shrinks, k.shrinks);
      reaches = omega (arith, h.onwards, k.reaches);
      between = (ended h (any k)).between;
    }

-- tokens without their nodes
pub tokens : {s : ℕ} {a b : Parser} {xs : SpanTrees} → ReadsSome s a b xs → ReadsSome s a b NoTrees
tokens h = record { starts = h.starts; shrinks = h.shrinks; reaches = h.reaches; between = tt }

-- nothing is read
pub nothing : {p : Parser} → Reads (here p) p p NoTrees
nothing = record { starts = omega arith; shrinks = omega arith; last = omega arith; onwards = omega arith; between = tt }

-- what was read since a place that is where reading began
pub since : {s t : ℕ} {a b : Parser} {xs : SpanTrees} → t ≡ s → ReadsSome s a b xs → AreReadSince t b xs
since {b = b} {xs = xs} is h = subst (λ (k : ℕ). AreReadSince k b xs) (sym is) (record { starts = omega (arith, h.starts, h.reaches); between = h.between })

-- nothing was read since the place where reading is
pub since_here : {t : ℕ} {p : Parser} → t ≡ here p → AreReadSince t p NoTrees
since_here is = record { starts = omega (arith, is); between = tt }

-- what was read since a place that is another one
pub at_place : {s t : ℕ} {a b : Parser} {xs : SpanTrees} → t ≡ s → ReadsSome t a b xs → ReadsSome s a b xs
at_place {a = a} {b = b} {xs = xs} is h = subst (λ (k : ℕ). ReadsSome k a b xs) is h

-- what was read before, and what is read now
pub add : {s : ℕ} {a b : Parser} {xs ys : SpanTrees} → AreReadSince s a xs → Reads (here a) a b ys → Reads s a b (joined xs ys)
add {s = s} {a = a} {b = b} {xs = xs} {ys = ys} h k =
    record {
      starts = omega (arith, h.starts);
      shrinks = k.shrinks;
      last = k.last;
      onwards = k.onwards;
      between = lie_joined xs ys s a.last (here a) b.last h.between k.between (omega (arith, h.starts)) (omega arith) k.last;
    }

pub add_some : {s : ℕ} {a b : Parser} {xs ys : SpanTrees} → AreReadSince s a xs → ReadsSome (here a) a b ys → ReadsSome s a b (joined xs ys)
add_some h k = record { starts = omega (arith, h.starts); shrinks = k.shrinks; reaches = k.reaches; between = (add h (any k)).between }

pub add_passed : {s : ℕ} {a b : Parser} {ys : SpanTrees} → AreReadSince s a NoTrees → ReadsSome (here a) a b ys → ReadsSome s a b ys
add_passed h k = add_some {xs = NoTrees} h k

pub add_one : {s : ℕ} {a b : Parser} {t : SpanTree} {ys : SpanTrees} → AreReadSince s a (only t) → ReadsSome (here a) a b ys → ReadsSome s a b (MoreTrees t ys)
add_one {t = t} h k = add_some {xs = only t} h k

-- what was read before, and tokens now
pub add_ended : {s : ℕ} {a b : Parser} {xs : SpanTrees} → AreReadSince s a xs → Reads (here a) a b NoTrees → Reads s a b xs
add_ended {s = s} {a = a} {b = b} {xs = xs} h k =
    record {
      starts = omega (arith, h.starts);
      shrinks = k.shrinks;
      last = k.last;
      onwards = k.onwards;
      between = lie_to xs s a.last b.last h.between k.last;
    }

pub add_some_ended : {s : ℕ} {a b : Parser} {xs : SpanTrees} → AreReadSince s a xs → ReadsSome (here a) a b NoTrees → ReadsSome s a b xs
add_some_ended h k = record { starts = omega (arith, h.starts); shrinks = k.shrinks; reaches = k.reaches; between = (add_ended h (any k)).between }

-- what was read before, and nothing now
pub stays : {s : ℕ} {a : Parser} {xs : SpanTrees} → AreReadSince s a xs → Reads s a a xs
stays h = record { starts = omega (arith, h.starts); shrinks = omega arith; last = omega arith; onwards = omega arith; between = h.between }

-- by the places of a span
same_places : (xs : SpanTrees) (from to : ℕ) (span : Span) → span.start ≡ from → span.end_ ≡ to → LieBetween from to xs → LieBetween span.start span.end_ xs
same_places xs from to span starts ends h =
    subst (λ (e : ℕ). LieBetween span.start e xs) (sym ends) (subst (λ (f : ℕ). LieBetween f to xs) (sym starts) h)

-- a node of what was read
pub node : {s t : ℕ} {a b : Parser} {xs : SpanTrees} {span : Span} {tree : SpanTree} → t ≡ s → span.start ≡ t → span.end_ ≡ b.last → tree ≡ Node span xs
    → ReadsSome s a b xs → ReadsSome s a b (only tree)
node {s = s} {a = a} {b = b} {xs = xs} {span = span} is starts ends tree_is h =
    subst (λ (t : SpanTree). ReadsSome s a b (only t)) (sym tree_is) (record {
      starts = h.starts;
      shrinks = h.shrinks;
      reaches = h.reaches;
      between = (omega (arith, is, starts), omega (arith, ends), (omega (arith, is, starts, ends, h.starts, h.reaches), same_places xs s b.last span (starts ∙ is) ends h.between), tt);
    })

-- a node begins before it ends
lies_before : (tree : SpanTree) (from to : ℕ) → LieBetween from to (only tree) → from ≤ to
lies_before (Node span parts) from to h = omega (arith, h.0, h.1, h.2.0)

-- a node of one that was read before
pub node_since : {s : ℕ} {p : Parser} {one tree : SpanTree} {span : Span} → span.start ≡ s → span.end_ ≡ p.last → tree ≡ Node span (only one)
    → AreReadSince s p (only one) → AreReadSince s p (only tree)
node_since {s = s} {p = p} {one = one} {span = span} starts ends tree_is h =
    subst (λ (t : SpanTree). AreReadSince s p (only t)) (sym tree_is) (record {
      starts = h.starts;
      between = (omega (arith, starts), omega (arith, ends), (omega (arith, starts, ends, lies_before one s p.last h.between), same_places (only one) s p.last span starts ends h.between), tt);
    })

-- the first of a list, and one more
pub first : {A : Type 0} (view : A → SpanTree) {xs ys : List A} {x : A} {s : ℕ} {a b : Parser} → xs ≡ [] → ys ≡ xs ++ x ∷ [] → ReadsSome s a b (only (view x))
    → ReadsSome s a b (trees_of (map view ys))
first {A = A} view {x = x} {s = s} {a = a} {b = b} none is h =
    subst (λ (zs : List A). ReadsSome s a b (trees_of (map view zs))) (sym (is ∙ ap (λ (zs : List A). zs ++ x ∷ []) none)) h

pub first_stays : {A : Type 0} (view : A → SpanTree) {xs ys : List A} {x : A} {s : ℕ} {p : Parser} → xs ≡ [] → ys ≡ xs ++ x ∷ []
    → AreReadSince s p (only (view x)) → Reads s p p (trees_of (map view ys))
first_stays {A = A} view {x = x} {s = s} {p = p} none is h =
    subst (λ (zs : List A). Reads s p p (trees_of (map view zs))) (sym (is ∙ ap (λ (zs : List A). zs ++ x ∷ []) none)) (stays h)

pub none : {A : Type 0} (view : A → SpanTree) {xs : List A} {p : Parser} → xs ≡ [] → Reads (here p) p p (trees_of (map view xs))
none {A = A} view {p = p} is = subst (λ (zs : List A). Reads (here p) p p (trees_of (map view zs))) (sym is) nothing

pub next : {A : Type 0} (view : A → SpanTree) (xs : List A) {ys : List A} {x : A} {s : ℕ} {a b c : Parser} → ys ≡ xs ++ x ∷ [] → Reads s a b (trees_of (map view xs))
    → ReadsSome (here b) b c (only (view x)) → Reads s a c (trees_of (map view ys))
next {A = A} view xs {x = x} {s = s} {a = a} {c = c} is h k =
    subst (λ (t : SpanTrees). Reads s a c t) (sym (ap (λ (zs : List A). trees_of (map view zs)) is ∙ trees_more view xs x)) (both h (any k))

pub next_some : {A : Type 0} (view : A → SpanTree) (xs : List A) {ys : List A} {x : A} {s : ℕ} {a b c : Parser} → ys ≡ xs ++ x ∷ [] → ReadsSome s a b (trees_of (map view xs))
    → ReadsSome (here b) b c (only (view x)) → ReadsSome s a c (trees_of (map view ys))
next_some {A = A} view xs {x = x} {s = s} {a = a} {c = c} is h k =
    subst (λ (t : SpanTrees). ReadsSome s a c t) (sym (ap (λ (zs : List A). trees_of (map view zs)) is ∙ trees_more view xs x)) (some_any h (any k))

-- what was read since a place where reading began, and more since that place
pub then_since : {s t : ℕ} {a b c : Parser} {xs ys : SpanTrees} → t ≡ s → ReadsSome s a b xs → Reads t b c ys → ReadsSome s a c ys
then_since {s = s} {b = b} {c = c} {ys = ys} is h k =
    let m : Reads s b c ys = subst (λ (u : ℕ). Reads u b c ys) is k in
    record { starts = h.starts; shrinks = omega (arith, h.shrinks, m.shrinks); reaches = omega (arith, h.reaches, m.last); between = m.between }

-- what was read since a place, and more since that place
pub then_reads : {s : ℕ} {a b c : Parser} {xs ys : SpanTrees} → Reads s a b xs → Reads s b c ys → Reads s a c ys
then_reads h k =
    record {
      starts = h.starts;
      shrinks = omega (arith, h.shrinks, k.shrinks);
      last = omega (arith, h.last, k.last);
      onwards = omega (arith, h.onwards, k.onwards);
      between = k.between;
    }

pub since_more : {s : ℕ} {a b : Parser} {xs ys : SpanTrees} → AreReadSince s a xs → Reads s a b ys → AreReadSince s b ys
since_more h k = record { starts = omega (arith, h.starts, k.onwards); between = k.between }

-- by another tree that is the same
pub same_tree : {s : ℕ} {a b : Parser} {tree other : SpanTree} → tree ≡ other → Reads s a b (only other) → Reads s a b (only tree)
same_tree {s = s} {a = a} {b = b} is h = subst (λ (t : SpanTree). Reads s a b (only t)) (sym is) h

pub same_tree_some : {s : ℕ} {a b : Parser} {tree other : SpanTree} → tree ≡ other → ReadsSome s a b (only other) → ReadsSome s a b (only tree)
same_tree_some {s = s} {a = a} {b = b} is h = subst (λ (t : SpanTree). ReadsSome s a b (only t)) (sym is) h

-- a list that has nothing, after tokens
pub with_none : {A : Type 0} (view : A → SpanTree) {xs : List A} {s : ℕ} {a b : Parser} → xs ≡ [] → ReadsSome s a b NoTrees → ReadsSome s a b (trees_of (map view xs))
with_none {A = A} view {s = s} {a = a} {b = b} is h = subst (λ (zs : List A). ReadsSome s a b (trees_of (map view zs))) (sym is) h

-- what a call reads after tokens, and after what was read since the place where it begins
pub follow : {A E : Type 0} (r : Result A E) (trees : A → SpanTrees) (c : Parser) {s : ℕ} {a b : Parser} → ReadsSome s a b NoTrees
    → IfOk r (λ x. Reads (here b) b c (trees x)) → IfOk r (λ x. ReadsSome s a c (trees x))
follow (Ok x) trees c h k = pass_some h k
follow (Err e) trees c h k = k

pub follow_some : {A E : Type 0} (r : Result A E) (trees : A → SpanTrees) (c : Parser) {s : ℕ} {a b : Parser} → ReadsSome s a b NoTrees
    → IfOk r (λ x. ReadsSome (here b) b c (trees x)) → IfOk r (λ x. ReadsSome s a c (trees x))
follow_some (Ok x) trees c h k = pass_some h (any k)
follow_some (Err e) trees c h k = k

pub follow_any : {A E : Type 0} (r : Result A E) (trees : A → SpanTrees) (c : Parser) {s : ℕ} {a b : Parser} → ReadsSome s a b NoTrees
    → IfOk r (λ x. Reads (here b) b c (trees x)) → IfOk r (λ x. Reads s a c (trees x))
follow_any (Ok x) trees c h k = any (pass_some h k)
follow_any (Err e) trees c h k = k

pub follow_some_any : {A E : Type 0} (r : Result A E) (trees : A → SpanTrees) (c : Parser) {s : ℕ} {a b : Parser} → ReadsSome s a b NoTrees
    → IfOk r (λ x. ReadsSome (here b) b c (trees x)) → IfOk r (λ x. Reads s a c (trees x))
follow_some_any (Ok x) trees c h k = any (pass_some h (any k))
follow_some_any (Err e) trees c h k = k

pub goes_on : {A E : Type 0} (r : Result A E) (trees : A → SpanTrees) (c : Parser) {s t : ℕ} {a b : Parser} {xs : SpanTrees} → t ≡ s → ReadsSome s a b xs
    → IfOk r (λ x. Reads t b c (trees x)) → IfOk r (λ x. ReadsSome s a c (trees x))
goes_on (Ok x) trees c is h k = then_since is h k
goes_on (Err e) trees c is h k = k

pub goes_on_some : {A E : Type 0} (r : Result A E) (trees : A → SpanTrees) (c : Parser) {s t : ℕ} {a b : Parser} {xs : SpanTrees} → t ≡ s → ReadsSome s a b xs
    → IfOk r (λ x. ReadsSome t b c (trees x)) → IfOk r (λ x. ReadsSome s a c (trees x))
goes_on_some (Ok x) trees c is h k = then_since is h (any k)
goes_on_some (Err e) trees c is h k = k

pub goes_on_any : {A E : Type 0} (r : Result A E) (trees : A → SpanTrees) (c : Parser) {s : ℕ} {a b : Parser} {xs : SpanTrees} → Reads s a b xs
    → IfOk r (λ x. ReadsSome s b c (trees x)) → IfOk r (λ x. Reads s a c (trees x))
goes_on_any (Ok x) trees c h k = then_reads h (any k)
goes_on_any (Err e) trees c h k = k

pub begins_there : {A E : Type 0} (r : Result A E) (trees : A → SpanTrees) (a b : Parser) {s t : ℕ} → t ≡ s
    → IfOk r (λ x. ReadsSome t a b (trees x)) → IfOk r (λ x. ReadsSome s a b (trees x))
begins_there (Ok x) trees a b is k = at_place is k
begins_there (Err e) trees a b is k = k

pub some_is_any : {A E : Type 0} (r : Result A E) (trees : A → SpanTrees) (s : ℕ) (a b : Parser) → IfOk r (λ x. ReadsSome s a b (trees x))
    → IfOk r (λ x. Reads s a b (trees x))
some_is_any (Ok x) trees s a b k = any k
some_is_any (Err e) trees s a b k = k

-- the first of two
pub head_only : {s : ℕ} {p : Parser} {t : SpanTree} {ts : SpanTrees} → AreReadSince s p (MoreTrees t ts) → AreReadSince s p (only t)
head_only h = record { starts = h.starts; between = (h.between.0, h.between.1, h.between.2, tt) }
