-- The rows of parts of statements, of handlers and of places: where they lie, and that those of handlers lead to instructions that find the exception.
use Rattle.std.proofs.Common.{◌≡◌, ℕ, zero, suc, ◌+◌, ◌≤◌, ◌<◌, List, [], ◌∷◌, ◌++◌, All, Some, length, true, refl, sym, ap, ◌∙◌, subst, arith, append_assoc, length-append, rules}
use Rattle.std.specs.Prelude.{◌&&◌, ◌||◌, Bool, false, nat_le, slice_get}
use Rattle.std.proofs.lemmas.List.{append-nil}
use Rattle.std.proofs.lemmas.List.Elements.{All-append, All-cons, All-head, All-nil, All-tail, All-weaker}
use Rattle.handlers.specs.Nesting.{all_nested, are_nested}
use Rattle.handlers.specs.declared.rows.Row.{Row}
use Rattle.image.specs.declared.instruction.Instr.{Instr}
use Rattle.image.specs.declared.instruction.Operation.{Operation}
use Rattle.image.specs.declared.instruction.Operation.TheVariants as op
use Rattle.expr_code.specs.Pieces.{Piece, narrow, one}
use Rattle.expr_code.proofs.StandingPieces.{narrow_same}
use Rattle.part_code.specs.Handling.{CoverJust}
use Rattle.part_code.specs.Rows.{LiesWithin}
use Rattle.stmt_code.specs.Drafting.{CodePart, Start, begun, coded, handles, labelled, marked, skipping, takes, ◌▹◌}
use Rattle.stmt_code.specs.Placing.{AreInnermostFirst, StandsBetween}
use Rattle.stmt_code.specs.StatementCode.{covered, covered_code}
use Rattle.stmt_code.specs.declared.tables.PlaceRow.{PlaceRow}
use Rattle.stmt_code.proofs.ChoiceRows.{nested_with}
use Rattle.stmt_code.proofs.CoveredRows.{all_covered_nested}
use Rattle.stmt_code.proofs.PlacesAdded.{innermost_around, innermost_then, wider_places}
use Rattle.stmt_code.proofs.RowsAdded.{wider_rows}

-- ---- instructions of code that begins at a place

-- the one there finds a word on the operand stack, which is the exception
pub record Finds (from : ℕ) (code : List Instr) (place : ℕ) : Type 0 where
  pub index : ℕ
  pub is : place ≡ from + index
  pub operation : Operation
  pub there : slice_get code index ≡ Some (record { depth = 1; operation = operation })

get_front : (a b : List Instr) (k : ℕ) (x : Instr) → slice_get a k ≡ Some x → slice_get (a ++ b) k ≡ Some x
get_front [] b k x e = cc
get_front (y ∷ a) b zero x e = e
get_front (y ∷ a) b (suc k) x e = get_front a b k x e

pub get_back : (a b : List Instr) (k : ℕ) → slice_get (a ++ b) (length a + k) ≡ slice_get b k
get_back [] b k = ap (slice_get b) (let e : 0 + k ≡ k = omega arith in e)
get_back (y ∷ a) b k =
    ap (slice_get (y ∷ (a ++ b))) (let e : suc (length a) + k ≡ suc (length a + k) = omega arith in e) ∙ get_back a b k

get_less : (a : List Instr) (k : ℕ) (x : Instr) → slice_get a k ≡ Some x → k < length a
get_less [] k x e = cc
get_less (y ∷ a) zero x e = omega arith
get_less (y ∷ a) (suc k) x e = let less = get_less a k x e in omega (arith, less)

finds_front : (from : ℕ) (a b : List Instr) (place : ℕ) → Finds from a place → Finds from (a ++ b) place
finds_front from a b place h =
    record { index = h.index; is = h.is; operation = h.operation; there = get_front a b h.index (record { depth = 1; operation = h.operation }) h.there }

finds_back : (from : ℕ) (a b : List Instr) (place : ℕ) → Finds (from + length a) b place → Finds from (a ++ b) place
finds_back from a b place h = record {
  index = length a + h.index;
  is = (let is = h.is in omega (arith, is));
  operation = h.operation;
  there = get_back a b h.index ∙ h.there;
}

pub finds_after : (from : ℕ) (x : Instr) (a : List Instr) (place : ℕ) → Finds (suc from) a place → Finds from (x ∷ a) place
finds_after from x a place h =
    record { index = suc h.index; is = (let is = h.is in omega (arith, is)); operation = h.operation; there = h.there }

pub finds_low : (from : ℕ) (code : List Instr) (place : ℕ) → Finds from code place → (from ≤ place) × (place < from + length code)
finds_low from code place h =
    let is = h.is in
    let less = get_less code h.index (record { depth = 1; operation = h.operation }) h.there in
    (omega (arith, is), omega (arith, is, less))

-- ---- rows

-- Rows of handlers for code that begins there: each covers places of it and leads to one of it that finds the exception, each is for one of so many exceptions
-- or for all, and any two are nested.
pub record RowsLie (n from : ℕ) (code : List Instr) (rows : List Row) : Type 0 where
  pub within : All (LiesWithin from (from + length code)) rows
  pub nested : all_nested rows ≡ true
  pub known : All (λ q. q.exception ≤ n) rows
  pub ready : All (λ q. Finds from code q.target) rows

pub record PlacesLie (from to : ℕ) (places : List PlaceRow) : Type 0 where
  pub between : All (StandsBetween from to) places
  pub innermost : AreInnermostFirst places

pub record KeepsRows (n : ℕ) (a : CodePart) : Type 0 where
  pub rows : (s : Start) → s.place + length (a s).code ≤ 65535 → RowsLie n s.place (a s).code (a s).rows
  pub places : (s : Start) → PlacesLie s.place (s.place + length (a s).code) (a s).places

pub no_rows : (n from : ℕ) (code : List Instr) → RowsLie n from code []
no_rows n from code = record {
  within = All-nil (LiesWithin from (from + length code));
  nested = refl;
  known = All-nil (λ q. q.exception ≤ n);
  ready = All-nil (λ q. Finds from code q.target);
}

pub no_places : (from to : ℕ) → PlacesLie from to []
no_places from to = record { between = All-nil (StandsBetween from to); innermost = tt }

-- ---- rows of two parts

before_nested : (r q : Row) → r.end_ ≤ q.start → are_nested r q ≡ true
before_nested r q up =
    third_true (nat_le r.start q.start && nat_le q.end_ r.end_) (nat_le q.start r.start && nat_le r.end_ q.end_) (nat_le r.end_ q.start)
    (nat_le q.end_ r.start) (le_true r.end_ q.start up)
  where
    le_true : (a b : ℕ) → a ≤ b → nat_le a b ≡ true
    le_true a b h = search rules

    third_true : (x y z u : Bool) → z ≡ true → (x || (y || (z || u))) ≡ true
    third_true true y z u e = refl
    third_true false true z u e = refl
    third_true false false true u e = refl
    third_true false false false u e = absurd cc

disjoint : (from mid to : ℕ) (one two : List Row) → All (LiesWithin from mid) one → All (LiesWithin mid to) two → all_nested one ≡ true → all_nested two ≡ true
    → all_nested (one ++ two) ≡ true
disjoint from mid to one two before behind p q =
    nested_with one two
    (All-weaker (LiesWithin from mid) (λ r. All (λ q. are_nested r q ≡ true) two)
    (λ r k.
    All-weaker (LiesWithin mid to) (λ q. are_nested r q ≡ true)
    (λ q h. before_nested r q (let e = k.end in let s = h.start in omega (arith, e, s))) two behind)
    one before) p q

pub rows_then : (n from : ℕ) (a b : List Instr) (one two : List Row) → RowsLie n from a one → RowsLie n (from + length a) b two
    → RowsLie n from (a ++ b) (one ++ two)
rows_then n from a b one two p q =
    let mid = from + length a in
    let to : mid + length b ≡ from + length (a ++ b) = let e = length-append a b in omega (arith, e) in
    let behind = subst (λ k. All (LiesWithin mid k) two) to q.within in
    record {
      within = All-append (LiesWithin from (from + length (a ++ b))) one two
          (wider_rows from mid from (from + length (a ++ b)) one (omega arith) (omega (arith, to)) p.within)
          (wider_rows mid (from + length (a ++ b)) from (from + length (a ++ b)) two (omega arith) (omega arith) behind);
      nested = disjoint from mid (from + length (a ++ b)) one two p.within behind p.nested q.nested;
      known = All-append (λ r. r.exception ≤ n) one two p.known q.known;
      ready = All-append (λ r. Finds from (a ++ b) r.target) one two
          (All-weaker (λ r. Finds from a r.target) (λ r. Finds from (a ++ b) r.target) (λ r h. finds_front from a b r.target h) one p.ready)
          (All-weaker (λ r. Finds mid b r.target) (λ r. Finds from (a ++ b) r.target) (λ r h. finds_back from a b r.target h) two q.ready);
    }

pub places_then : (from mid to : ℕ) (one two : List PlaceRow) → from ≤ mid → mid ≤ to → PlacesLie from mid one → PlacesLie mid to two
    → PlacesLie from to (one ++ two)
places_then from mid to one two up over p q = record {
  between = All-append (StandsBetween from to) one two (wider_places from mid from to one (omega arith) over p.between)
      (wider_places mid to from to two up (omega arith) q.between);
  innermost = innermost_then from mid to one two p.between q.between p.innermost q.innermost;
}

-- after one instruction
pub rows_after : (n from : ℕ) (x : Instr) (a : List Instr) (rows : List Row) → RowsLie n (suc from) a rows → RowsLie n from (x ∷ a) rows
rows_after n from x a rows p = record {
  within = wider_rows (suc from) (suc from + length a) from (from + length (x ∷ a)) rows (omega arith) (omega arith) p.within;
  nested = p.nested;
  known = p.known;
  ready = All-weaker (λ r. Finds (suc from) a r.target) (λ r. Finds from (x ∷ a) r.target) (λ r h. finds_after from x a r.target h) rows p.ready;
}

-- ---- parts without others

module _ (n : ℕ) where
  pub rows_coded : (p : Piece) → KeepsRows n (coded p)
  unfolding coded
  rows_coded p = record { rows = λ s low. no_rows n s.place (p s.place); places = λ s. no_places s.place (s.place + length (p s.place)) }

  pub rows_takes : (many : ℕ) → KeepsRows n (takes many)
  unfolding takes
  rows_takes many = record { rows = λ s low. no_rows n s.place []; places = λ s. no_places s.place (s.place + 0) }

  pub rows_labelled : (text : List ℕ) (f : ℕ → Piece) → KeepsRows n (labelled text f)
  unfolding labelled
  rows_labelled text f = record { rows = λ s low. no_rows n s.place _; places = λ s. no_places s.place _ }

  -- ---- putting parts together

  pub rows_begun : (f : ℕ → CodePart) → ((place : ℕ) → KeepsRows n (f place)) → KeepsRows n (begun f)
  unfolding begun
  rows_begun f p = record { rows = λ s low. (p s.place).rows s low; places = λ s. (p s.place).places s }

  pub rows_both : (a b : CodePart) → KeepsRows n a → KeepsRows n b → KeepsRows n (a ▹ b)
  unfolding ◌▹◌
  rows_both a b p q = record {
    rows = λ s low.
        let x = a s in
        let t : Start = record { place = s.place + length x.code; labels = x.labels } in
        let long = length-append x.code (b t).code in
        rows_then n s.place x.code (b t).code x.rows (b t).rows (p.rows s (omega (arith, long, low))) (q.rows t (omega (arith, long, low)));
    places = λ s.
        let x = a s in
        let t : Start = record { place = s.place + length x.code; labels = x.labels } in
        let long = length-append x.code (b t).code in
        let to : t.place + length (b t).code ≡ s.place + length (x.code ++ (b t).code) = omega (arith, long) in
        places_then s.place t.place (s.place + length (x.code ++ (b t).code)) x.places (b t).places (omega arith) (omega (arith, long)) (p.places s)
        (subst (λ k. PlacesLie t.place k (b t).places) to (q.places t));
  }

  pub rows_skipping : (more d : ℕ) (jump : ℕ → Operation) (a : CodePart) → KeepsRows n a → KeepsRows n (skipping more d jump a)
  unfolding skipping
  rows_skipping more d jump a p = record {
    rows = λ s low.
        let t : Start = record s { place = suc s.place } in
        rows_after n s.place _ (a t).code (a t).rows (p.rows t (omega (arith, low)));
    places = λ s.
        let t : Start = record s { place = suc s.place } in
        let q = p.places t in
        record {
          between = wider_places (suc s.place) (suc s.place + length (a t).code) s.place (s.place + suc (length (a t).code)) (a t).places (omega arith)
              (omega arith) q.between;
          innermost = q.innermost;
        };
  }

  pub rows_marked : (place : ℕ) (a : CodePart) → KeepsRows n a → KeepsRows n (marked place a)
  unfolding marked
  rows_marked place a p = record {
    rows = λ s low. p.rows s low;
    places = λ s.
        let q = p.places s in
        let to = s.place + length (a s).code in
        let own : PlaceRow = record { first = s.place; behind = to; place = place } in
        record {
          between = All-append (StandsBetween s.place to) (a s).places (own ∷ []) q.between
              (All-cons (StandsBetween s.place to) own [] (record { low = omega arith; runs = omega arith; high = omega arith })
              (All-nil (StandsBetween s.place to)));
          innermost = innermost_around own (a s).places q.between q.innermost;
        };
  }

-- ---- handlers, whose own rows stand after all that they cover

-- these rows lie within the code, but for own ones of a region around it, some of which stood there before
pub record OwnRows (n : ℕ) (q : Row) (own : List Row) (from : ℕ) (code : List Instr) (rows : List Row) : Type 0 where
  pub inner : List Row
  pub new : List Row
  pub is : rows ≡ inner ++ (own ++ new)
  pub lie : RowsLie n from code inner
  pub just : All (λ r. (r.start ≡ q.start) × (r.end_ ≡ q.end_)) new
  pub known : All (λ r. r.exception ≤ n) new
  pub ready : All (λ r. Finds from code r.target) new

pub record HandlersKeep (n : ℕ) (q : Row) (own : List Row) (a : CodePart) : Type 0 where
  pub rows : (s : Start) → s.place + length (a s).code ≤ 65535 → OwnRows n q own s.place (a s).code (a s).rows
  pub places : (s : Start) → PlacesLie s.place (s.place + length (a s).code) (a s).places

module _ (n : ℕ) (q : Row) (own : List Row) where
  pub own_none : HandlersKeep n q own (handles own)
  unfolding handles
  own_none = record {
    rows = λ s low. record {
      inner = [];
      new = [];
      is = sym (append-nil own);
      lie = no_rows n s.place [];
      just = All-nil (λ r. (r.start ≡ q.start) × (r.end_ ≡ q.end_));
      known = All-nil (λ r. r.exception ≤ n);
      ready = All-nil (λ r. Finds s.place [] r.target);
    };
    places = λ s. no_places s.place (s.place + 0);
  }

  pub own_skipping : (more d : ℕ) (jump : ℕ → Operation) (a : CodePart) → HandlersKeep n q own a → HandlersKeep n q own (skipping more d jump a)
  unfolding skipping
  own_skipping more d jump a p = record {
    rows = λ s low.
        let t : Start = record s { place = suc s.place } in
        let h = p.rows t (omega (arith, low)) in
        let j : Instr = record { depth = narrow d; operation = jump (narrow (suc s.place + length (a t).code + more)) } in
        record {
          inner = h.inner;
          new = h.new;
          is = h.is;
          lie = rows_after n s.place j (a t).code h.inner h.lie;
          just = h.just;
          known = h.known;
          ready = All-weaker (λ r. Finds (suc s.place) (a t).code r.target) (λ r. Finds s.place (j ∷ (a t).code) r.target)
              (λ r k. finds_after s.place j (a t).code r.target k) h.new h.ready;
        };
    places = λ s.
        let t : Start = record s { place = suc s.place } in
        let k = p.places t in
        record {
          between = wider_places (suc s.place) (suc s.place + length (a t).code) s.place (s.place + suc (length (a t).code)) (a t).places (omega arith)
              (omega arith) k.between;
          innermost = k.innermost;
        };
  }

  pub own_then : (a b : CodePart) → KeepsRows n a → HandlersKeep n q own b → HandlersKeep n q own (a ▹ b)
  unfolding ◌▹◌
  own_then a b p k = record {
    rows = λ s low.
        let x = a s in
        let t : Start = record { place = s.place + length x.code; labels = x.labels } in
        let long = length-append x.code (b t).code in
        let h = k.rows t (omega (arith, long, low)) in
        record {
          inner = x.rows ++ h.inner;
          new = h.new;
          is = ap (λ l. x.rows ++ l) h.is ∙ sym (append_assoc x.rows h.inner (own ++ h.new));
          lie = rows_then n s.place x.code (b t).code x.rows h.inner (p.rows s (omega (arith, long, low))) h.lie;
          just = h.just;
          known = h.known;
          ready = All-weaker (λ r. Finds t.place (b t).code r.target) (λ r. Finds s.place (x.code ++ (b t).code) r.target)
              (λ r z. finds_back s.place x.code (b t).code r.target z) h.new h.ready;
        };
    places = λ s.
        let x = a s in
        let t : Start = record { place = s.place + length x.code; labels = x.labels } in
        let long = length-append x.code (b t).code in
        let to : t.place + length (b t).code ≡ s.place + length (x.code ++ (b t).code) = omega (arith, long) in
        places_then s.place t.place (s.place + length (x.code ++ (b t).code)) x.places (b t).places (omega arith) (omega (arith, long)) (p.places s)
        (subst (λ z. PlacesLie t.place z (b t).places) to (k.places t));
  }

  -- rows of one handler more
  pub own_more : (mine : List Row) (from : ℕ) (code : List Instr) (rows : List Row) → OwnRows n q (own ++ mine) from code rows
      → All (λ r. (r.start ≡ q.start) × (r.end_ ≡ q.end_)) mine → All (λ r. r.exception ≤ n) mine → All (λ r. Finds from code r.target) mine
      → OwnRows n q own from code rows
  own_more mine from code rows h just known ready = record {
    inner = h.inner;
    new = mine ++ h.new;
    is = h.is ∙ ap (λ l. h.inner ++ l) (append_assoc own mine h.new);
    lie = h.lie;
    just = All-append (λ r. (r.start ≡ q.start) × (r.end_ ≡ q.end_)) mine h.new just h.just;
    known = All-append (λ r. r.exception ≤ n) mine h.new known h.known;
    ready = All-append (λ r. Finds from code r.target) mine h.new ready h.ready;
  }

-- own rows beside those of what they cover and of the handlers
own_lie : (n from over : ℕ) (a b : List Instr) (one two own : List Row) → from < over → over ≡ suc (from + length a)
    → (x : Instr) → RowsLie n from a one → RowsLie n over b two → CoverJust from over own → All (λ r. r.exception ≤ n) own
    → All (λ r. Finds over b r.target) own → RowsLie n from (a ++ x ∷ b) ((one ++ two) ++ own)
own_lie n from over a b one two own less is x p q just known ready =
    let code = a ++ x ∷ b in
    let to = from + length code in
    let long = length-append a (x ∷ b) in
    let back = subst (λ k. RowsLie n k b two) is q in
    let both = rows_then n from a (x ∷ b) one two p (rows_after n (from + length a) x b two back) in
    let found : (r : Row) → Finds over b r.target → Finds from code r.target = λ r h.
    finds_back from a (x ∷ b) r.target (finds_after (from + length a) x b r.target (subst (λ k. Finds k b r.target) is h)) in
    let end : over + length b ≡ to = omega (arith, is, long) in
    let covered = wider_rows from (from + length a) from over one (omega arith) (omega (arith, is)) p.within in
    let behind = subst (λ k. All (LiesWithin over k) two) end q.within in
    record {
      within = All-append (LiesWithin from to) (one ++ two) own both.within (own_within from over to code own less (omega (arith, is, long)) just
          (All-weaker (λ r. Finds over b r.target) (λ r. Finds from code r.target) found own ready));
      nested = all_covered_nested one two own from over to less (omega (arith, is, long)) covered behind just both.nested;
      known = All-append (λ r. r.exception ≤ n) (one ++ two) own both.known known;
      ready = All-append (λ r. Finds from code r.target) (one ++ two) own both.ready
          (All-weaker (λ r. Finds over b r.target) (λ r. Finds from code r.target) found own ready);
    }
  where
    own_within : (from over to : ℕ) (code : List Instr) (rows : List Row) → from < over → over ≤ from + length code → CoverJust from over rows
        → All (λ r. Finds from code r.target) rows → All (LiesWithin from (from + length code)) rows
    own_within from over to code [] less up just ready = All-nil (LiesWithin from (from + length code))
    own_within from over to code (r ∷ rows) less up just ready =
        let here = All-head (λ q. (q.start ≡ from) × (q.end_ ≡ over)) r rows just in
        let at = finds_low from code r.target (All-head (λ q. Finds from code q.target) r rows ready) in
        let start = here.0 in
        let end = here.1 in
        All-cons (LiesWithin from (from + length code)) r rows
        (record {
          start = omega (arith, start);
          places = omega (arith, start, end, less);
          end = omega (arith, end, up);
          down = at.0;
          up = at.1;
        })
        (own_within from over to code rows less up (All-tail (λ q. (q.start ≡ from) × (q.end_ ≡ over)) r rows just)
        (All-tail (λ q. Finds from code q.target) r rows ready))

-- statements and the jump after them, which rows of the handlers cover
pub rows_covered : (n : ℕ) (body : CodePart) (handlers : Row → CodePart) → KeepsRows n body → ((q : Row) → q.exception ≡ 0 → HandlersKeep n q [] (handlers q))
    → KeepsRows n (covered_code body handlers)
unfolding begun skipping ◌▹◌
rows_covered n body handlers p k = record {
  rows = λ s low.
      let x = body s in
      let jump = s.place + length x.code in
      let t : Start = record { place = suc jump; labels = x.labels } in
      let q = covered s.place jump in
      let y = handlers q t in
      let j : Instr = record { depth = narrow 0; operation = op.Jump (narrow (suc jump + length y.code + 0)) } in
      let long = length-append x.code (j ∷ y.code) in
      let h = (k q refl).rows t (omega (arith, long, low)) in
      let start : narrow s.place ≡ s.place = narrow_same s.place (omega (arith, long, low)) in
      let end : narrow (suc jump) ≡ suc jump = narrow_same (suc jump) (omega (arith, long, low)) in
      let just = All-weaker (λ r. (r.start ≡ q.start) × (r.end_ ≡ q.end_)) (λ r. (r.start ≡ s.place) × (r.end_ ≡ suc jump))
      (λ r e. (e.0 ∙ start, e.1 ∙ end)) h.new h.just in
      subst (λ l. RowsLie n s.place (x.code ++ j ∷ y.code) l) (append_assoc x.rows h.inner h.new ∙ ap (λ l. x.rows ++ l) (sym h.is))
      (own_lie n s.place (suc jump) x.code y.code x.rows h.inner h.new (omega arith) refl j (p.rows s (omega (arith, long, low))) h.lie just h.known h.ready);
  places = λ s.
      let x = body s in
      let jump = s.place + length x.code in
      let t : Start = record { place = suc jump; labels = x.labels } in
      let y = handlers (covered s.place jump) t in
      let j : Instr = record { depth = narrow 0; operation = op.Jump (narrow (suc jump + length y.code + 0)) } in
      let long = length-append x.code (j ∷ y.code) in
      let to : t.place + length y.code ≡ s.place + length (x.code ++ j ∷ y.code) = omega (arith, long) in
      places_then s.place (suc jump) (s.place + length (x.code ++ j ∷ y.code)) x.places y.places (omega arith) (omega (arith, long))
      (let r = p.places s in
      record { between = wider_places s.place jump s.place (suc jump) x.places (omega arith) (omega arith) r.between; innermost = r.innermost })
      (subst (λ z. PlacesLie t.place z y.places) to ((k (covered s.place jump) refl).places t));
}
