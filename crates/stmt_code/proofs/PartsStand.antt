-- Parts of statements that stand in an image (docs/CODEGEN.md): where each part of them stands, with its labels, its words of the frame and its rows.
use Rattle.std.proofs.Common.{◌≡◌, ℕ, suc, ◌+◌, ◌≤◌, ◌++◌, All, length, max, Some, refl, ap, ◌∙◌, subst, arith, length-append}
use Rattle.std.specs.Prelude.{slice_get}
use Rattle.std.proofs.lemmas.List.Elements.{All-append, All-nil}
use Rattle.base.specs.declared.limits.TheConstants.{FRAME_WORDS}
use Rattle.image.specs.Sections.{Sections}
use Rattle.image.specs.declared.instruction.Operation.{Operation}
use Rattle.image.specs.declared.subprograms.Subprogram.{Subprogram}
use Rattle.expr_code.specs.Code.{StandsFrom}
use Rattle.expr_code.specs.Pieces.{Piece, deepest_of, narrow}
use Rattle.expr_code.proofs.Pieces.{deepest_append}
use Rattle.expr_code.proofs.StandingPieces.{Between, Stands, narrow_frame, narrow_same, stands_back, stands_front}
use Rattle.part_code.specs.Handling.{GoesBy, GoesByRows, Handling}
use Rattle.part_code.specs.Rows.{LiesWithin}
use Rattle.stmt_code.specs.Drafting.{CodePart, Start, after, begun, coded, marked, skipping, takes, ◌▹◌}
use Rattle.stmt_code.specs.Emitting.{HasLabels}
use Rattle.stmt_code.proofs.AddedRows.{rows_first, rows_none, rows_part, rows_second}
use Rattle.stmt_code.proofs.Adding.{labels_before, labels_then}
use Rattle.stmt_code.proofs.RowsAdded.{begins_behind, ends_before, wider_rows}

-- ---- what holds of a part wherever it begins

-- labels before it keep their numbers
pub record KeepsLabels (a : CodePart) : Type 0 where
  pub labels : (s : Start) → StandsFrom 0 s.labels (a s).labels
  pub longer : (s : Start) → length s.labels ≤ length (a s).labels

-- and its rows cover places of it, and lead to one of it
pub record IsTidy (a : CodePart) : Type 0 where
  pub grows : KeepsLabels a
  pub rows : (s : Start) → s.place + length (a s).code ≤ 65535 → All (LiesWithin s.place (s.place + length (a s).code)) (a s).rows

pub grows_begun : (f : ℕ → CodePart) → ((place : ℕ) → KeepsLabels (f place)) → KeepsLabels (begun f)
unfolding begun
grows_begun f p = record { labels = λ s. (p s.place).labels s; longer = λ s. (p s.place).longer s }

pub grows_then : (a b : CodePart) → KeepsLabels a → KeepsLabels b → KeepsLabels (a ▹ b)
unfolding ◌▹◌
grows_then a b p q = record {
  labels = λ s. labels_then s.labels (a s).labels (b (after s (a s))).labels (p.labels s) (q.labels (after s (a s)));
  longer = λ s.
      let one : length s.labels ≤ length (a s).labels = p.longer s in
      let two : length (a s).labels ≤ length (b (after s (a s))).labels = q.longer (after s (a s)) in
      omega (arith, one, two);
}

pub tidy_coded : (p : Piece) → IsTidy (coded p)
unfolding coded
tidy_coded p = record {
  grows = record { labels = λ s k x le h. h; longer = λ s. omega arith };
  rows = λ s low. All-nil (LiesWithin s.place (s.place + length (p s.place)));
}

pub tidy_takes : (n : ℕ) → IsTidy (takes n)
unfolding takes
tidy_takes n = record {
  grows = record { labels = λ s k x le h. h; longer = λ s. omega arith };
  rows = λ s low. All-nil (LiesWithin s.place (s.place + 0));
}

pub tidy_begun : (f : ℕ → CodePart) → ((place : ℕ) → IsTidy (f place)) → IsTidy (begun f)
unfolding begun
tidy_begun f p = record {
  grows = record { labels = λ s. (p s.place).grows.labels s; longer = λ s. (p s.place).grows.longer s };
  rows = λ s. (p s.place).rows s;
}

pub tidy_marked : (place : ℕ) (a : CodePart) → IsTidy a → IsTidy (marked place a)
unfolding marked
tidy_marked place a p = record { grows = record { labels = p.grows.labels; longer = p.grows.longer }; rows = p.rows }

pub tidy_then : (a b : CodePart) → IsTidy a → IsTidy b → IsTidy (a ▹ b)
unfolding ◌▹◌
tidy_then a b p q = record {
  grows = grows_then a b p.grows q.grows;
  rows = λ s low.
      let x = a s in
      let next = after s x in
      let y = b next in
      let long = length-append x.code y.code in
      let mid = s.place + length x.code in
      let to = s.place + length (x.code ++ y.code) in
      All-append (LiesWithin s.place to) x.rows y.rows
      (wider_rows s.place mid s.place to x.rows (omega arith) (omega (arith, long)) (p.rows s (omega (arith, long, low))))
      (wider_rows mid (mid + length y.code) s.place to y.rows (omega arith) (omega (arith, long)) (q.rows next (omega (arith, long, low))));
}

-- where a part begins after one instruction
abbrev pub inside : Start → Start
inside s = record s { place = suc s.place }

pub grows_skipping : (more d : ℕ) (jump : ℕ → Operation) (a : CodePart) → KeepsLabels a → KeepsLabels (skipping more d jump a)
unfolding skipping
grows_skipping more d jump a p = record { labels = λ s. p.labels (inside s); longer = λ s. p.longer (inside s) }

pub tidy_skipping : (more d : ℕ) (jump : ℕ → Operation) (a : CodePart) → IsTidy a → IsTidy (skipping more d jump a)
unfolding skipping
tidy_skipping more d jump a p = record {
  grows = grows_skipping more d jump a p.grows;
  rows = λ s low.
      let x = a (inside s) in
      wider_rows (suc s.place) (suc s.place + length x.code) s.place (s.place + suc (length x.code)) x.rows (omega arith) (omega arith)
      (p.rows (inside s) (omega (arith, low)));
}

-- ---- where it stands

-- It begins there and ends there, with its labels at their numbers, in a frame with so many words.
pub record HasPart (i : Sections) (frame : ℕ) (s : Start) (to : ℕ) (a : CodePart) : Type 0 where
  pub there : Stands i s.place (a s).code
  pub ends : to ≡ s.place + length (a s).code
  pub low : to ≤ 65535
  pub labels : HasLabels i (a s).labels
  pub few : length (a s).labels ≤ 65535
  pub wide : (a s).most ≤ FRAME_WORDS
  pub fits : (a s).most ≤ frame

abbrev pub end_of : Start → CodePart → ℕ
end_of s a = s.place + length (a s).code

pub record BothHave (i : Sections) (frame : ℕ) (s : Start) (to : ℕ) (a b : CodePart) : Type 0 where
  pub first : HasPart i frame s (end_of s a) a
  pub second : HasPart i frame (after s (a s)) to b
  pub up : end_of s a ≤ to

pub both_have : (i : Sections) (frame : ℕ) (s : Start) (to : ℕ) (a b : CodePart) → KeepsLabels b → HasPart i frame s to (a ▹ b) → BothHave i frame s to a b
unfolding ◌▹◌
both_have i frame s to a b tidy h =
    let x = a s in
    let next = after s x in
    let y = b next in
    let long = length-append x.code y.code in
    let ends : to ≡ s.place + length (x.code ++ y.code) = h.ends in
    let low : to ≤ 65535 = h.low in
    let few : length y.labels ≤ 65535 = h.few in
    let wide : max x.most y.most ≤ FRAME_WORDS = h.wide in
    let fits : max x.most y.most ≤ frame = h.fits in
    record {
      first = record {
        there = stands_front i s.place x.code y.code h.there;
        ends = refl;
        low = omega (arith, long, ends, low);
        labels = labels_before i x.labels y.labels (tidy.labels next) h.labels;
        few = (let l : length x.labels ≤ length y.labels = tidy.longer next in omega (arith, l, few));
        wide = at_left x.most y.most FRAME_WORDS wide;
        fits = at_left x.most y.most frame fits;
      };
      second = record {
        there = stands_back i s.place x.code y.code h.there;
        ends = omega (arith, long, ends);
        low = low;
        labels = h.labels;
        few = few;
        wide = at_right x.most y.most FRAME_WORDS wide;
        fits = at_right x.most y.most frame fits;
      };
      up = omega (arith, long, ends);
    }
  where
    at_left : (m n k : ℕ) → max m n ≤ k → m ≤ k
    at_left m n k h = omega (arith, h)

    at_right : (m n k : ℕ) → max m n ≤ k → n ≤ k
    at_right m n k h = omega (arith, h)

pub begun_has : (i : Sections) (frame : ℕ) (s : Start) (to : ℕ) (f : ℕ → CodePart) → HasPart i frame s to (begun f) → HasPart i frame s to (f s.place)
unfolding begun
begun_has i frame s to f h =
    record { there = h.there; ends = h.ends; low = h.low; labels = h.labels; few = h.few; wide = h.wide; fits = h.fits }

pub marked_has : (i : Sections) (frame : ℕ) (s : Start) (to place : ℕ) (a : CodePart) → HasPart i frame s to (marked place a) → HasPart i frame s to a
unfolding marked
marked_has i frame s to place a h =
    record { there = h.there; ends = h.ends; low = h.low; labels = h.labels; few = h.few; wide = h.wide; fits = h.fits }

-- instructions alone, and words alone
pub coded_has : (i : Sections) (frame : ℕ) (s : Start) (to : ℕ) (p : Piece) → HasPart i frame s to (coded p) → Between i s.place to p
unfolding coded
coded_has i frame s to p h = record { there = h.there; ends = h.ends; low = h.low }

pub record TakesTo (frame : ℕ) (s : Start) (to many : ℕ) : Type 0 where
  pub same : to ≡ s.place
  pub wide : many ≤ FRAME_WORDS
  pub fits : many ≤ frame

pub takes_has : (i : Sections) (frame : ℕ) (s : Start) (to many : ℕ) → HasPart i frame s to (takes many) → TakesTo frame s to many
unfolding takes
takes_has i frame s to many h = record { same = (let e = h.ends in omega (arith, e)); wide = h.wide; fits = h.fits }

-- words, and a part after them
after_words : (s : Start) (n : ℕ) → after s (takes n s) ≡ s
unfolding takes
after_words s n = let e : s.place + 0 ≡ s.place = omega arith in λ j. record { place = e j; labels = s.labels }

pub record WordsHave (i : Sections) (frame : ℕ) (s : Start) (to many : ℕ) (a : CodePart) : Type 0 where
  pub wide : many ≤ FRAME_WORDS
  pub fits : many ≤ frame
  pub rest : HasPart i frame s to a

pub words_have : (i : Sections) (frame : ℕ) (s : Start) (to many : ℕ) (a : CodePart) → KeepsLabels a → HasPart i frame s to (takes many ▹ a)
    → WordsHave i frame s to many a
words_have i frame s to many a grows h =
    let both = both_have i frame s to (takes many) a grows h in
    let taken = takes_has i frame s (end_of s (takes many)) many both.first in
    record { wide = taken.wide; fits = taken.fits; rest = subst (λ z. HasPart i frame z to a) (after_words s many) both.second }

pub words_places : (s : Start) (many : ℕ) (a : CodePart) → ((takes many ▹ a) s).places ≡ (a s).places
unfolding takes ◌▹◌
words_places s many a = let e : s.place + 0 ≡ s.place = omega arith in λ j. (a (record { place = e j; labels = s.labels })).places

words_rows : (s : Start) (many : ℕ) (a : CodePart) → ((takes many ▹ a) s).rows ≡ (a s).rows
unfolding takes ◌▹◌
words_rows s many a = let e : s.place + 0 ≡ s.place = omega arith in λ j. (a (record { place = e j; labels = s.labels })).rows

words_code : (s : Start) (many : ℕ) (a : CodePart) → ((takes many ▹ a) s).code ≡ (a s).code
unfolding takes ◌▹◌
words_code s many a = let e : s.place + 0 ≡ s.place = omega arith in λ j. (a (record { place = e j; labels = s.labels })).code

-- a jump, and the part that it leads over
pub record SkipHas (i : Sections) (frame : ℕ) (s : Start) (to more d : ℕ) (jump : ℕ → Operation) (a : CodePart) : Type 0 where
  pub there : slice_get i.instructions s.place ≡ Some (record { depth = d; operation = jump (to + more) })
  pub inner : HasPart i frame (inside s) to a
  pub up : suc s.place ≤ to
  pub deep : narrow d ≡ d

pub skip_has : (i : Sections) (frame : ℕ) (s : Start) (to more d : ℕ) (jump : ℕ → Operation) (a : CodePart) → to + more ≤ 65535
    → HasPart i frame s to (skipping more d jump a)
    → SkipHas i frame s to more d jump a
unfolding skipping
skip_has i frame s to more d jump a low h =
    let x = a (inside s) in
    let same = narrow_frame d h.there.1.0 in
    let ends : to ≡ s.place + suc (length x.code) = h.ends in
    let target : suc s.place + length x.code + more ≡ to + more = omega (arith, ends) in
    record {
      there = h.there.0 ∙ ap (λ n. Some (record { depth = n; operation = jump (narrow (suc s.place + length x.code + more)) })) same
          ∙ ap (λ k. Some (record { depth = d; operation = jump (narrow k) })) target
          ∙ ap (λ k. Some (record { depth = d; operation = jump k })) (narrow_same (to + more) low);
      inner = record {
        there = h.there.2;
        ends = omega (arith, ends);
        low = h.low;
        labels = h.labels;
        few = h.few;
        wide = h.wide;
        fits = h.fits;
      };
      up = omega (arith, ends);
      deep = same;
    }

pub skip_end : (i : Sections) (frame : ℕ) (s : Start) (to d : ℕ) (jump : ℕ → Operation) (a : CodePart) → HasPart i frame s to (skipping 0 d jump a)
    → SkipHas i frame s to 0 d jump a
skip_end i frame s to d jump a h = skip_has i frame s to 0 d jump a (let low = h.low in omega (arith, low)) h

-- ---- where exceptions go on that it raises

pub record StandsBy (i : Sections) (r : Handling) (frame : ℕ) (s : Start) (to : ℕ) (a : CodePart) : Type 0 where
  pub part : HasPart i frame s to a
  pub goes : GoesByRows i (a s).rows r s.place to

pub record BothStandBy (i : Sections) (r : Handling) (frame : ℕ) (s : Start) (to : ℕ) (a b : CodePart) : Type 0 where
  pub first : StandsBy i r frame s (end_of s a) a
  pub second : StandsBy i r frame (after s (a s)) to b
  pub up : end_of s a ≤ to
  pub low : s.place ≤ end_of s a

pub both_stand_by : (i : Sections) (r : Handling) (frame : ℕ) (s : Start) (to : ℕ) (a b : CodePart) → IsTidy a → IsTidy b → StandsBy i r frame s to (a ▹ b)
    → BothStandBy i r frame s to a b
unfolding ◌▹◌
both_stand_by i r frame s to a b tidy rest h =
    let both = both_have i frame s to a b rest.grows h.part in
    let x = a s in
    let next = after s x in
    let y = b next in
    let mid = end_of s a in
    let goes : GoesByRows i (x.rows ++ y.rows) r s.place to = h.goes in
    let end : to ≡ end_of next b = both.second.ends in
    let low = both.second.low in
    record {
      first = record {
        part = both.first;
        goes = rows_first i r x.rows y.rows s.place mid to both.up
            (begins_behind mid (end_of next b) mid y.rows (omega arith) (rest.rows next (subst (λ n. n ≤ 65535) end low))) goes;
      };
      second = record {
        part = both.second;
        goes = rows_second i r x.rows y.rows s.place mid to (omega arith)
            (ends_before s.place mid mid x.rows (omega arith) (tidy.rows s both.first.low)) goes;
      };
      up = both.up;
      low = omega arith;
    }

pub begun_by : (i : Sections) (r : Handling) (frame : ℕ) (s : Start) (to : ℕ) (f : ℕ → CodePart) → StandsBy i r frame s to (begun f)
    → StandsBy i r frame s to (f s.place)
unfolding begun
begun_by i r frame s to f h = record { part = begun_has i frame s to f h.part; goes = h.goes }

pub marked_by : (i : Sections) (r : Handling) (frame : ℕ) (s : Start) (to place : ℕ) (a : CodePart) → StandsBy i r frame s to (marked place a)
    → StandsBy i r frame s to a
unfolding marked
marked_by i r frame s to place a h = record { part = marked_has i frame s to place a h.part; goes = h.goes }

-- instructions alone
pub coded_goes : (i : Sections) (r : Handling) (frame : ℕ) (s : Start) (to : ℕ) (p : Piece) → StandsBy i r frame s to (coded p) → GoesBy i r s.place to
unfolding coded
coded_goes i r frame s to p h = rows_none i r s.place to h.goes

pub record WordsStandBy (i : Sections) (r : Handling) (frame : ℕ) (s : Start) (to many : ℕ) (a : CodePart) : Type 0 where
  pub wide : many ≤ FRAME_WORDS
  pub fits : many ≤ frame
  pub rest : StandsBy i r frame s to a

pub words_stand_by : (i : Sections) (r : Handling) (frame : ℕ) (s : Start) (to many : ℕ) (a : CodePart) → KeepsLabels a
    → StandsBy i r frame s to (takes many ▹ a)
    → WordsStandBy i r frame s to many a
words_stand_by i r frame s to many a grows h =
    let it = words_have i frame s to many a grows h.part in
    record {
      wide = it.wide;
      fits = it.fits;
      rest = record { part = it.rest; goes = subst (λ l. GoesByRows i l r s.place to) (words_rows s many a) h.goes };
    }

-- a jump, and the part that it leads over
pub record SkipStandsBy (i : Sections) (r : Handling) (frame : ℕ) (s : Start) (to more d : ℕ) (jump : ℕ → Operation) (a : CodePart) : Type 0 where
  pub there : slice_get i.instructions s.place ≡ Some (record { depth = d; operation = jump (to + more) })
  pub inner : StandsBy i r frame (inside s) to a
  pub up : suc s.place ≤ to

pub skip_stands_by : (i : Sections) (r : Handling) (frame : ℕ) (s : Start) (to more d : ℕ) (jump : ℕ → Operation) (a : CodePart) → to + more ≤ 65535
    → StandsBy i r frame s to (skipping more d jump a)
    → SkipStandsBy i r frame s to more d jump a
unfolding skipping
skip_stands_by i r frame s to more d jump a low h =
    let it = skip_has i frame s to more d jump a low h.part in
    record {
      there = it.there;
      inner = record { part = it.inner; goes = rows_part i r (a (inside s)).rows s.place (suc s.place) to to (omega arith) (omega arith) h.goes };
      up = it.up;
    }

pub skip_end_by : (i : Sections) (r : Handling) (frame : ℕ) (s : Start) (to d : ℕ) (jump : ℕ → Operation) (a : CodePart)
    → StandsBy i r frame s to (skipping 0 d jump a)
    → SkipStandsBy i r frame s to 0 d jump a
skip_end_by i r frame s to d jump a h = skip_stands_by i r frame s to 0 d jump a (let low = h.part.low in omega (arith, low)) h

-- ---- within a subprogram

-- it stands there, between places to which the subprogram jumps, and finds no more words on the operand stack than there may be
pub record KeptIn (i : Sections) (u : Subprogram) (low high : ℕ) (s : Start) (to : ℕ) (a : CodePart) : Type 0 where
  pub part : HasPart i u.locals s to a
  pub down : low ≤ s.place
  pub up : to ≤ high
  pub deep : deepest_of (a s).code ≤ u.stack

pub record BothKeptIn (i : Sections) (u : Subprogram) (low high : ℕ) (s : Start) (to : ℕ) (a b : CodePart) : Type 0 where
  pub first : KeptIn i u low high s (end_of s a) a
  pub second : KeptIn i u low high (after s (a s)) to b
  pub up : end_of s a ≤ to

pub both_kept_in : (i : Sections) (u : Subprogram) (low high : ℕ) (s : Start) (to : ℕ) (a b : CodePart) → KeepsLabels b → KeptIn i u low high s to (a ▹ b)
    → BothKeptIn i u low high s to a b
unfolding ◌▹◌
both_kept_in i u low high s to a b tidy h =
    let both = both_have i u.locals s to a b tidy h.part in
    let x = a s in
    let next = after s x in
    let y = b next in
    let is = deepest_append x.code y.code in
    let deep : deepest_of (x.code ++ y.code) ≤ u.stack = h.deep in
    let down = h.down in
    let up = h.up in
    record {
      first = record { part = both.first; down = down; up = (let k = both.up in omega (arith, k, up)); deep = omega (arith, is, deep) };
      second = record { part = both.second; down = omega (arith, down); up = up; deep = omega (arith, is, deep) };
      up = both.up;
    }

pub begun_in : (i : Sections) (u : Subprogram) (low high : ℕ) (s : Start) (to : ℕ) (f : ℕ → CodePart) → KeptIn i u low high s to (begun f)
    → KeptIn i u low high s to (f s.place)
unfolding begun
begun_in i u low high s to f h = record { part = begun_has i u.locals s to f h.part; down = h.down; up = h.up; deep = h.deep }

pub marked_in : (i : Sections) (u : Subprogram) (low high : ℕ) (s : Start) (to place : ℕ) (a : CodePart) → KeptIn i u low high s to (marked place a)
    → KeptIn i u low high s to a
unfolding marked
marked_in i u low high s to place a h = record { part = marked_has i u.locals s to place a h.part; down = h.down; up = h.up; deep = h.deep }

pub record SkipKeptIn (i : Sections) (u : Subprogram) (low high : ℕ) (s : Start) (to more d : ℕ) (jump : ℕ → Operation) (a : CodePart) : Type 0 where
  pub there : slice_get i.instructions s.place ≡ Some (record { depth = d; operation = jump (to + more) })
  pub inner : KeptIn i u low high (inside s) to a
  pub step : suc s.place ≤ to
  pub shallow : d ≤ u.stack

pub skip_kept_in : (i : Sections) (u : Subprogram) (low high : ℕ) (s : Start) (to more d : ℕ) (jump : ℕ → Operation) (a : CodePart) → to + more ≤ 65535
    → KeptIn i u low high s to (skipping more d jump a)
    → SkipKeptIn i u low high s to more d jump a
unfolding skipping
skip_kept_in i u low high s to more d jump a few h =
    let it = skip_has i u.locals s to more d jump a few h.part in
    let x = a (inside s) in
    let same = it.deep in
    let deep : max (narrow d) (deepest_of x.code) ≤ u.stack = h.deep in
    let down = h.down in
    record {
      there = it.there;
      inner = record { part = it.inner; down = omega (arith, down); up = h.up; deep = at_right (narrow d) (deepest_of x.code) u.stack deep };
      step = it.up;
      shallow = subst (λ n. n ≤ u.stack) same (at_left (narrow d) (deepest_of x.code) u.stack deep);
    }
  where
    at_left : (m n k : ℕ) → max m n ≤ k → m ≤ k
    at_left m n k h = omega (arith, h)

    at_right : (m n k : ℕ) → max m n ≤ k → n ≤ k
    at_right m n k h = omega (arith, h)

pub skip_end_in : (i : Sections) (u : Subprogram) (low high : ℕ) (s : Start) (to d : ℕ) (jump : ℕ → Operation) (a : CodePart)
    → KeptIn i u low high s to (skipping 0 d jump a)
    → SkipKeptIn i u low high s to 0 d jump a
skip_end_in i u low high s to d jump a h = skip_kept_in i u low high s to 0 d jump a (let low = h.part.low in omega (arith, low)) h

pub record WordsKeptIn (i : Sections) (u : Subprogram) (low high : ℕ) (s : Start) (to many : ℕ) (a : CodePart) : Type 0 where
  pub wide : many ≤ FRAME_WORDS
  pub fits : many ≤ u.locals
  pub rest : KeptIn i u low high s to a

pub words_kept_in : (i : Sections) (u : Subprogram) (low high : ℕ) (s : Start) (to many : ℕ) (a : CodePart) → KeepsLabels a
    → KeptIn i u low high s to (takes many ▹ a)
    → WordsKeptIn i u low high s to many a
words_kept_in i u low high s to many a grows h =
    let it = words_have i u.locals s to many a grows h.part in
    record {
      wide = it.wide;
      fits = it.fits;
      rest = record { part = it.rest; down = h.down; up = h.up; deep = subst (λ l. deepest_of l ≤ u.stack) (words_code s many a) h.deep };
    }
