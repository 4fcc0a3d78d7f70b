-- What the code of loops over ranges does where it stands in an image, and that it keeps the rules of images there (RM 5.5).
use Rattle.std.proofs.Common.{◌≡◌, ℕ, suc, ◌+◌, ◌≤◌, List, [], ◌∷◌, All, Bool, true, false, Option, Some, refl, sym, ap, ◌∙◌, subst, arith}
use Rattle.std.specs.Prelude.{is_some, pos, slice_get}
use Rattle.std.proofs.lemmas.List.{append-nil}
use Rattle.ada_tree.specs.declared.expression.Identifier.{Identifier}
use Rattle.ada_tree.specs.StatementTree.{For, Loop, RangeTree, StmtTrees}
use Rattle.handlers.specs.declared.rows.Row.{Row}
use Rattle.image.specs.Sections.{Sections}
use Rattle.image.specs.Rules.{has_depth}
use Rattle.image.specs.declared.instruction.Operation.TheVariants as op
use Rattle.image.specs.declared.subprograms.Subprogram.{Subprogram}
use Rattle.declaration_rules.specs.BodyNames.{loop_faults}
use Rattle.expr_soundness.specs.SoundScopes.{SoundScope}
use Rattle.expr_soundness.specs.meaning.specs.Programs.{Program}
use Rattle.expr_code.specs.Computing.{Computes}
use Rattle.expr_code.specs.ExpressionCode.{expr_code}
use Rattle.expr_code.specs.Flows.{AreKeptBetween}
use Rattle.expr_code.specs.Pieces.{Piece, narrow, one, ◌▸◌}
use Rattle.expr_code.specs.Seeing.{Package, Sees, library_of}
use Rattle.expr_code.specs.Views.{At}
use Rattle.expr_code.specs.declared.visible.Visible.{Visible}
use Rattle.expr_code.proofs.ExpressionWorks.{Works}
use Rattle.expr_code.proofs.Flowing.{kept_then, widened}
use Rattle.expr_code.proofs.StandingPieces.{Between, both_stand, narrow_same, one_stands, one_test}
use Rattle.part_code.specs.Counting.{IsCounted, IsRange}
use Rattle.part_code.specs.Emitting.{HasEntries}
use Rattle.part_code.specs.Handling.{GoesBy, GoesByRows, Handling}
use Rattle.part_code.specs.Resting.{Framed}
use Rattle.part_code.specs.Statements.{AreStatements, Numbers, with_exit}
use Rattle.part_code.specs.Suiting.{SuitsStatements}
use Rattle.part_code.specs.Turns.{next_operation, word_of_first, word_of_last}
use Rattle.part_code.specs.declared.turns.Turns.{Turns}
use Rattle.part_code.proofs.Jumps.{depth_there, jump_kept}
use Rattle.part_code.proofs.Walking.{behind}
use Rattle.stmt_code.specs.Drafting.{CodePart, Start, after, begun, coded, skipping, takes, ◌▹◌}
use Rattle.stmt_code.specs.Emitting.{Allows, Meant, Serves, TellPlaces, seeing}
use Rattle.stmt_code.specs.Leaves.{any_leave}
use Rattle.stmt_code.specs.Placing.{Construct, stmts_within}
use Rattle.stmt_code.specs.SimpleCode.{bounds_code, last_code, next_code, null_code}
use Rattle.stmt_code.specs.StatementCode.{Site, counted_code, in_turn, ranged_code, stmts_code, turns_at, with_way}
use Rattle.stmt_code.specs.Turns.{is_full}
use Rattle.stmt_code.specs.declared.leaves.WayOut.TheVariants as way
use Rattle.stmt_code.proofs.AddedRows.{rows_first, rows_none}
use Rattle.stmt_code.proofs.Bounded.{IsOfIntegers, never_null, range_fits, subtype_in}
use Rattle.stmt_code.proofs.BranchesDo.{AreBody, IsOne}
use Rattle.stmt_code.proofs.Heads.{way_of, within_way}
use Rattle.stmt_code.proofs.LoopNames.{holds, serves_inside, slot, suits_inside}
use Rattle.stmt_code.proofs.LoopsDo.{does_way, exits_allowed, in_loop}
use Rattle.stmt_code.proofs.Parameters.{HoldsRange}
use Rattle.stmt_code.proofs.PartsDo.{Does, IsServed, Means, StatementLaws, test_kept}
use Rattle.stmt_code.proofs.PartsStand.{HasPart, IsTidy, KeptIn, StandsBy, WordsStandBy, begun_by, begun_in, both_kept_in, both_stand_by, coded_has, end_of, inside, skip_end_by, skip_end_in, tidy_begun, tidy_coded, tidy_skipping, tidy_takes, tidy_then, words_kept_in, words_places, words_stand_by}
use Rattle.stmt_code.proofs.Ranging.{Advances, Keeps, Opens, Tests, is_counted, is_range}
use Rattle.stmt_code.proofs.RowsAdded.{begins_behind}
use Rattle.stmt_code.proofs.TurnsDo.{HasWords, bounds_stand, last_stands, leads_bounds, leads_last, leads_next, leads_null, next_stands, null_stands}

-- what rows behind the places leave alone goes on as around them
goes_in_front : (i : Sections) (r : Handling) (rows : List Row) (from mid to : ℕ) → mid ≤ to → All (λ q. mid ≤ q.start) rows → GoesByRows i rows r from to
    → GoesBy i r from mid
goes_in_front i r rows from mid to up behind_all h = rows_none i r from mid (rows_first i r [] rows from mid to up behind_all h)

-- the bounds, the statements of a turn, its end, and a jump back to the statements
abbrev pub IsCountedLoop : Site → Identifier → (reversed : Bool) → RangeTree → StmtTrees → Meant
IsCountedLoop c parameter reversed range body i program g numbers f r from to =
    (k : IsCounted i g f from to parameter.name reversed)
    × IsRange i g f k.inner k.counter k.limit from k.start to parameter.name reversed range k.subtype
    × AreStatements i program g numbers k.inner c.ways r k.start k.back body
    × GoesBy i r from k.start
    × GoesBy i r k.back to

module _ (laws : StatementLaws) (c : Site) (parameter : Identifier) (reversed : Bool) (range : RangeTree) (body : StmtTrees) (xs : List Construct) (b : CodePart)
    (sound : SoundScope c.visible.scope) (entries : HasEntries c.visible) (legal : loop_faults c.visible.scope parameter range ≡ [])
    (of_type : IsOfIntegers c.visible.scope range) (x : Works c.visible 0 1 range.first (expr_code c.visible 0 range.first))
    (y : Works c.visible 1 1 range.last (expr_code c.visible 1 range.last))
    (p : Does (AreBody (in_turn c parameter range) body) (in_turn c parameter range) xs b) where
  abbrev t : Turns
  t = turns_at c.taken reversed

  abbrev v : Visible
  v = c.visible

  -- ---- the turns

  abbrev back_piece : ℕ → Piece
  back_piece turn = next_code t ▸ one 0 (op.Jump (narrow turn))

  abbrev next_at : ℕ → CodePart
  next_at turn = skipping 0 1 op.JumpIfNotZero (coded (back_piece turn))

  abbrev end_at : ℕ → CodePart
  end_at turn = coded (last_code t) ▹ next_at turn

  abbrev turn_at : ℕ → CodePart
  turn_at turn = b ▹ end_at turn

  abbrev turns : CodePart
  turns = begun turn_at

  tidy_next : (turn : ℕ) → IsTidy (next_at turn)
  tidy_next turn = tidy_skipping 0 1 op.JumpIfNotZero (coded (back_piece turn)) (tidy_coded (back_piece turn))

  tidy_end : (turn : ℕ) → IsTidy (end_at turn)
  tidy_end turn = tidy_then (coded (last_code t)) (next_at turn) (tidy_coded (last_code t)) (tidy_next turn)

  tidy_turns : IsTidy turns
  tidy_turns = tidy_begun turn_at (λ turn. tidy_then b (end_at turn) p.tidy (tidy_end turn))

  -- the statements of a turn, its end, and a jump back to them
  pub record TurnsStand (i : Sections) (program : Program) (g : Package) (numbers : Numbers) (f : Framed) (r : Handling) (s : Start) (to : ℕ) : Type 0 where
    pub back : ℕ
    pub up : s.place ≤ back
    pub is : AreStatements i program g numbers f c.ways r s.place back body
    pub advances : Advances i t.counter t.limit back to reversed
    pub jump : At i (behind 8 back) (op.Jump s.place)
    pub ends : to ≡ suc (behind 8 back)
    pub goes : GoesBy i r back to
    pub tells : TellPlaces i program g numbers (turns s).places xs

  turns_stand : (i : Sections) (program : Program) (g : Package) (numbers : Numbers) (f : Framed) (r : Handling) (s : Start) (to : ℕ)
      → IsServed program g numbers f (in_turn c parameter range)
      → StandsBy i r f.room s to turns
      → TurnsStand i program g numbers f r s to
  unfolding ◌▹◌ coded begun skipping
  turns_stand i program g numbers f r s to served h =
      let whole = both_stand_by i r f.room s to b (end_at s.place) p.tidy (tidy_end s.place) (begun_by i r f.room s to turn_at h) in
      let back = end_of s b in
      let at = after s (b s) in
      let ended = both_stand_by i r f.room at to (coded (last_code t)) (next_at s.place) (tidy_coded (last_code t)) (tidy_next s.place) whole.second in
      let compared = end_of at (coded (last_code t)) in
      let later = after at (coded (last_code t) at) in
      let last = last_stands t i back compared (coded_has i f.room at compared (last_code t) ended.first.part) in
      let test = skip_end_by i r f.room later to 1 op.JumpIfNotZero (coded (back_piece s.place)) ended.second in
      let two = both_stand i (suc compared) to (next_code t) (one 0 (op.Jump (narrow s.place)))
      (coded_has i f.room (inside later) to (back_piece s.place) test.inner.part) in
      let next = next_stands t i (suc compared) two.mid two.first in
      let jump = one_stands i two.mid to 0 (op.Jump (narrow s.place)) two.second in
      let it = p.stands i program g numbers f r s back served whole.first in
      let low = h.part.low in
      let step = whole.up in
      let same : narrow s.place ≡ s.place = narrow_same s.place (omega (arith, low, step)) in
      let at_last : compared ≡ behind 3 back = last.ends in
      let at_jump : two.mid ≡ behind 8 back = next.ends ∙ ap (λ n. behind 4 (suc n)) at_last in
      record {
        back = back;
        up = whole.low;
        is = it.is;
        advances = record {
          now = last.now;
          last = last.last;
          equal = last.equal;
          jump = subst (λ n. At i n (op.JumpIfNotZero to)) at_last (
            1,
            subst (λ n. slice_get i.instructions compared ≡ Some (record { depth = 1; operation = op.JumpIfNotZero n }))
                (let k : to + 0 ≡ to = omega arith in k) test.there,
          );
          again = subst (λ n. At i (suc n) (op.LoadLocal t.counter)) at_last next.again;
          one = subst (λ n. At i (behind 1 (suc n)) (op.Push (pos 1))) at_last next.one_;
          computes = subst (λ n. At i (behind 2 (suc n)) (next_operation reversed)) at_last next.computes;
          store = subst (λ n. At i (behind 3 (suc n)) (op.StoreLocal t.counter)) at_last next.store;
        };
        jump = subst (λ n. At i n (op.Jump s.place)) at_jump
            (0, subst (λ n. slice_get i.instructions two.mid ≡ Some (record { depth = 0; operation = op.Jump n })) same jump.there);
        ends = jump.ends ∙ ap suc at_jump;
        goes = rows_none i r back to whole.second.goes;
        tells = subst (λ l. TellPlaces i program g numbers l xs) (sym (append-nil (b s).places)) it.tells;
      }

  turns_kept : (i : Sections) (u : Subprogram) (low high : ℕ) (s : Start) (to : ℕ) → KeptIn i u low high s to turns
      → HasWords t i u
      → SuitsStatements (in_turn c parameter range).visible i u
      → Allows i u low high c.ways
      → has_depth i to 0 ≡ true
      → AreKeptBetween i u low high s.place to 0
  unfolding ◌▹◌ coded begun skipping
  turns_kept i u low high s to k has suits ways ends =
      let whole = both_kept_in i u low high s to b (end_at s.place) (tidy_end s.place).grows (begun_in i u low high s to turn_at k) in
      let back = end_of s b in
      let at = after s (b s) in
      let ended = both_kept_in i u low high at to (coded (last_code t)) (next_at s.place) (tidy_next s.place).grows whole.second in
      let compared = end_of at (coded (last_code t)) in
      let later = after at (coded (last_code t) at) in
      let test = skip_end_in i u low high later to 1 op.JumpIfNotZero (coded (back_piece s.place)) ended.second in
      let inner_part = test.inner in
      let between = coded_has i u.locals (inside later) to (back_piece s.place) inner_part.part in
      let two = both_stand i (suc compared) to (next_code t) (one 0 (op.Jump (narrow s.place))) between in
      let jump = one_stands i two.mid to 0 (op.Jump (narrow s.place)) two.second in
      let few = k.part.low in
      let step = whole.up in
      let onward = ended.up in
      let further = test.step in
      let up_next = two.up in
      let on_next = two.on_ in
      let down = k.down in
      let up = k.up in
      let deep_next = inner_part.deep in
      let deep_last = ended.first.deep in
      let same : narrow s.place ≡ s.place = narrow_same s.place (omega (arith, few, step)) in
      let counted = widened i u (suc compared) two.mid low high (suc compared) two.mid 0 (omega (arith, down, step, onward)) (omega (arith, on_next, up))
      ((leads_next t (HasWords t) (λ j w h. h)).leads i u (suc compared) two.mid two.first has (let is = two.deep in omega (arith, is, deep_next)) (omega arith)
      (depth_there i two.mid 0 (op.Jump (narrow s.place)) jump.there)) in
      let end : to + 0 ≡ to = omega arith in
      let tested = test_kept i u low high compared (to + 0) op.JumpIfNotZero one_test test.there test.shallow counted.begins
      (record { down = omega (arith, down, step); up = omega (arith, up); empty = ap (λ n. has_depth i n 0) end ∙ ends }) in
      let compares = widened i u back compared low high back compared 0 (omega (arith, down)) (omega (arith, onward, up))
      ((leads_last t (HasWords t) (λ j w h. h)).leads i u back compared (coded_has i u.locals at compared (last_code t) ended.first.part) has deep_last test.shallow
      tested.begins) in
      let statements = p.flows.flows i u low high s back whole.first suits ways (omega arith) compares.begins in
      let again = jump_kept i u low high two.mid (narrow s.place) jump.there
      (record { down = omega (arith, down, same); up = omega (arith, step, up, same); empty = ap (λ n. has_depth i n 0) same ∙ statements.begins }) in
      kept_then i u low high s.place back to 0 0 statements
      (kept_then i u low high back compared to 0 1 compares
      (kept_then i u low high compared (suc compared) to 1 0 tested
      (kept_then i u low high (suc compared) two.mid to 0 0 counted (subst (λ n. AreKeptBetween i u low high two.mid n 0) (sym jump.ends) again))))

  -- ---- the bounds, and a test before the first turn

  abbrev bounds : CodePart
  bounds = coded (bounds_code v range t)

  abbrev null : CodePart
  null = coded (null_code t)

  abbrev test : CodePart
  test = skipping 0 1 op.JumpIfNotZero turns

  tidy_test : IsTidy test
  tidy_test = tidy_skipping 0 1 op.JumpIfNotZero turns tidy_turns

  tidy_ranged : (full : Bool) → IsTidy (ranged_code full t turns)
  tidy_ranged true = tidy_turns
  tidy_ranged false = tidy_then null test (tidy_coded (null_code t)) tidy_test

  tidy_bounded : (full : Bool) → IsTidy (bounds ▹ ranged_code full t turns)
  tidy_bounded full = tidy_then bounds (ranged_code full t turns) (tidy_coded (bounds_code v range t)) (tidy_ranged full)

  -- what stands in front of the turns
  pub record OpeningStands (i : Sections) (r : Handling) (frame : ℕ) (s : Start) (to : ℕ) (full : Bool) : Type 0 where
    pub middle : ℕ
    pub mid : ℕ
    pub low : s.place ≤ middle
    pub high : middle ≤ mid
    pub first : Between i s.place middle (expr_code v 0 range.first)
    pub last : Between i middle mid (expr_code v 1 range.last)
    pub start : Start
    pub opens : Opens i t.counter t.limit mid start.place to reversed full
    pub over : mid ≤ start.place
    pub turning : StandsBy i r frame start to turns
    pub goes : GoesBy i r s.place start.place
    pub places : ((bounds ▹ ranged_code full t turns) s).places ≡ (turns start).places

  -- the rows of the turns begin no sooner than these
  rows_behind : (i : Sections) (frame : ℕ) (s : Start) (to mid : ℕ) → mid ≤ s.place → HasPart i frame s to turns → All (λ q. mid ≤ q.start) (turns s).rows
  rows_behind i frame s to mid up h =
      begins_behind s.place (end_of s turns) mid (turns s).rows up (tidy_turns.rows s (subst (λ n. n ≤ 65535) h.ends h.low))

  opening_stands : (i : Sections) (r : Handling) (frame : ℕ) (s : Start) (to : ℕ) (full : Bool) → StandsBy i r frame s to (bounds ▹ ranged_code full t turns)
      → OpeningStands i r frame s to full
  unfolding ◌▹◌ coded skipping
  opening_stands i r frame s to true h =
      let both = both_stand_by i r frame s to bounds turns (tidy_coded (bounds_code v range t)) tidy_turns h in
      let at = end_of s bounds in
      let it = bounds_stand t i v range s.place at (coded_has i frame s at (bounds_code v range t) both.first.part) in
      record {
        middle = it.middle;
        mid = it.mid;
        low = it.low;
        high = it.high;
        first = it.first;
        last = it.last;
        start = after s (bounds s);
        opens = Keeps (record { last = it.store_last; first = it.store_first }) refl it.ends;
        over = (let e = it.ends in omega (arith, e));
        turning = both.second;
        goes = goes_in_front i r (turns (after s (bounds s))).rows s.place at to both.up
            (rows_behind i frame (after s (bounds s)) to at (omega arith) both.second.part) h.goes;
        places = refl;
      }
  opening_stands i r frame s to false h =
      let both = both_stand_by i r frame s to bounds (null ▹ test) (tidy_coded (bounds_code v range t)) (tidy_ranged false) h in
      let at = end_of s bounds in
      let one_ = after s (bounds s) in
      let it = bounds_stand t i v range s.place at (coded_has i frame s at (bounds_code v range t) both.first.part) in
      let tests = both_stand_by i r frame one_ to null test (tidy_coded (null_code t)) tidy_test both.second in
      let compared = end_of one_ null in
      let two = after one_ (null one_) in
      let compares = null_stands t i at compared (coded_has i frame one_ compared (null_code t) tests.first.part) in
      let jump = skip_end_by i r frame two to 1 op.JumpIfNotZero turns tests.second in
      let same : at ≡ behind 2 it.mid = it.ends in
      let there : compared ≡ behind 5 it.mid = compares.ends ∙ ap (behind 3) same in
      record {
        middle = it.middle;
        mid = it.mid;
        low = it.low;
        high = it.high;
        first = it.first;
        last = it.last;
        start = inside two;
        opens = Tests
            (record {
              last = it.store_last;
              first = it.store_first;
              last_again = subst (λ n. At i n (op.LoadLocal (word_of_last t))) same compares.last;
              first_again = subst (λ n. At i (behind 1 n) (op.LoadLocal (word_of_first t))) same compares.first;
              less = subst (λ n. At i (behind 2 n) op.Less) same compares.less;
              jump = subst (λ n. At i n (op.JumpIfNotZero to)) there (
                1,
                subst (λ n. slice_get i.instructions compared ≡ Some (record { depth = 1; operation = op.JumpIfNotZero n }))
                    (let k : to + 0 ≡ to = omega arith in k) jump.there,
              );
            }) (ap suc there);
        over = (let e = there in omega (arith, e));
        turning = jump.inner;
        goes = goes_in_front i r (turns (inside two)).rows s.place (inside two).place to jump.up
            (rows_behind i frame (inside two) to (inside two).place (omega arith) jump.inner.part) h.goes;
        places = refl;
      }

  -- the loop keeps the rules, where its first turn is reached and its end is
  pub record OpeningKept (i : Sections) (u : Subprogram) (low high : ℕ) (s : Start) (to : ℕ) : Type 0 where
    pub start : Start
    pub turning : KeptIn i u low high start to turns
    pub kept : has_depth i start.place 0 ≡ true → AreKeptBetween i u low high s.place start.place 0
    pub up : s.place ≤ start.place

  opening_kept : (i : Sections) (u : Subprogram) (low high : ℕ) (s : Start) (to : ℕ) (full : Bool) → KeptIn i u low high s to (bounds ▹ ranged_code full t turns)
      → HasWords t i u
      → SuitsStatements v i u
      → has_depth i to 0 ≡ true
      → OpeningKept i u low high s to
  unfolding ◌▹◌ coded skipping
  opening_kept i u low high s to true k has suits ends =
      let both = both_kept_in i u low high s to bounds turns tidy_turns.grows k in
      let at = end_of s bounds in
      record {
        start = after s (bounds s);
        turning = both.second;
        kept = λ begins.
            widened i u s.place at low high s.place at 0 both.first.down both.first.up
            ((leads_bounds t v range x y).leads i u s.place at (coded_has i u.locals s at (bounds_code v range t) both.first.part) (suits.names, has) both.first.deep
            (omega arith) begins);
        up = omega arith;
      }
  opening_kept i u low high s to false k has suits ends =
      let both = both_kept_in i u low high s to bounds (null ▹ test) (tidy_ranged false).grows k in
      let at = end_of s bounds in
      let one_ = after s (bounds s) in
      let tests = both_kept_in i u low high one_ to null test tidy_test.grows both.second in
      let compared = end_of one_ null in
      let two = after one_ (null one_) in
      let jump = skip_end_in i u low high two to 1 op.JumpIfNotZero turns tests.second in
      let end : to + 0 ≡ to = omega arith in
      let down = k.down in
      let up = k.up in
      let step = jump.step in
      record {
        start = inside two;
        turning = jump.inner;
        kept = λ begins.
            let tested = test_kept i u low high compared (to + 0) op.JumpIfNotZero one_test jump.there jump.shallow begins
            (record { down = omega (arith, down, step); up = omega (arith, up); empty = ap (λ n. has_depth i n 0) end ∙ ends }) in
            let compares = widened i u at compared low high at compared 0 tests.first.down tests.first.up
            ((leads_null t (HasWords t) (λ j w h. h)).leads i u at compared (coded_has i u.locals one_ compared (null_code t) tests.first.part) has tests.first.deep
            jump.shallow tested.begins) in
            let first = widened i u s.place at low high s.place at 0 both.first.down both.first.up
            ((leads_bounds t v range x y).leads i u s.place at (coded_has i u.locals s at (bounds_code v range t) both.first.part) (suits.names, has) both.first.deep
            (omega arith) compares.begins) in
            kept_then i u low high s.place at (suc compared) 0 0 first
            (kept_then i u low high at compared (suc compared) 0 1 compares tested);
        up = omega arith;
      }

  -- ---- the whole

  abbrev counted : CodePart
  counted = counted_code c reversed range b

  module _ (i : Sections) (program : Program) (g : Package) (numbers : Numbers) (f : Framed) (r : Handling) (s : Start) (to : ℕ)
      (served : IsServed program g numbers f c) (h : StandsBy i r f.room s to counted) where
    abbrev full : Bool
    full = is_full v.scope range

    words : WordsStandBy i r f.room s to (c.taken + 2) (bounds ▹ ranged_code full t turns)
    words = words_stand_by i r f.room s to (c.taken + 2) (bounds ▹ ranged_code full t turns) (tidy_bounded full).grows h

    frame : seeing f v ≡ f
    frame = λ j. record f { names = (sym served.names) j }

    served_here : Serves program g numbers (seeing f v) c.taken
    served_here = subst (λ z. Serves program g numbers z c.taken) (sym frame) served.serves

    offset_is : t.counter ≡ c.taken
    offset_is = let wide = words.wide in narrow_same c.taken (omega (arith, wide))

    limit_is : t.limit ≡ suc c.taken
    limit_is = let wide = words.wide in narrow_same (c.taken + 1) (omega (arith, wide)) ∙ (let k : c.taken + 1 ≡ suc c.taken = omega arith in k)

    abbrev inner_frame : Framed
    inner_frame = record { names = (in_turn c parameter range).visible; room = f.room; reserved = t.counter ∷ t.limit ∷ f.reserved; within = f.within }

    inner_served : IsServed program g numbers inner_frame (in_turn c parameter range)
    inner_served = record {
      names = refl;
      serves = serves_inside laws.stay v t.counter parameter range sound entries legal of_type laws.kept laws.expressions.words program g numbers f c.taken t.limit
          served_here offset_is limit_is words.fits;
      exceptions = served.exceptions;
      named = served.named;
    }

    held : HoldsRange (seeing f v) parameter.name (subtype_in v.scope range of_type) (slot laws.stay v t.counter parameter range sound entries legal of_type) t.limit
        inner_frame
    held =
        holds laws.stay v t.counter parameter range sound entries legal of_type laws.kept laws.expressions.words program g numbers f c.taken t.limit served_here
        offset_is limit_is words.fits

    opening : OpeningStands i r f.room s to full
    opening = opening_stands i r f.room s to full words.rest

    turning : TurnsStand i program g numbers inner_frame r opening.start to
    turning = turns_stand i program g numbers inner_frame r opening.start to inner_served opening.turning

    computes_first : Computes i (library_of g) (Sees g v) s.place opening.middle range.first
    computes_first = x.computes i s.place opening.middle opening.first g

    computes_last : Computes i (library_of g) (Sees g v) opening.middle opening.mid range.last
    computes_last = y.computes i opening.middle opening.mid opening.last g

    up_start : s.place ≤ opening.start.place
    up_start = let one_ = opening.low in let two = opening.high in let three = opening.over in omega (arith, one_, two, three)

    loop_there : IsCountedLoop c parameter reversed range body i program g numbers (seeing f v) r s.place to
    loop_there = (
      is_counted laws.expressions.quiet laws.kept laws.expressions.words i g (seeing f v) inner_frame served_here.laid sound parameter.name
          (subtype_in v.scope range of_type) (slot laws.stay v t.counter parameter range sound entries legal of_type) t.limit held reversed s.place
          opening.start.place turning.back to up_start turning.up turning.ends turning.advances turning.jump,
      is_range laws.expressions.quiet laws.kept laws.expressions.words i g (seeing f v) inner_frame served_here.laid sound parameter.name
          (subtype_in v.scope range of_type) (slot laws.stay v t.counter parameter range sound entries legal of_type) t.limit held range reversed s.place
          opening.middle opening.mid to opening.low opening.high computes_first computes_last
          (λ q view m n knows gives. range_fits laws.bounded laws.visible g (seeing f v) parameter range legal q view m n knows gives of_type.number)
          full opening.start.place
          (λ is q view m n knows gives. never_null laws.bounded laws.visible g (seeing f v) parameter range legal q view m n knows gives is) opening.opens,
      turning.is,
      opening.goes,
      turning.goes,
    )

    counted_means : Means (IsCountedLoop c parameter reversed range body) i program g numbers f r xs s to counted
    counted_means = record {
      is = subst (λ z. IsCountedLoop c parameter reversed range body i program g numbers z r s.place to) frame loop_there;
      tells = subst (λ l. TellPlaces i program g numbers l xs) (sym (words_places s (c.taken + 2) (bounds ▹ ranged_code full t turns) ∙ opening.places))
          turning.tells;
    }

  counted_kept : (i : Sections) (u : Subprogram) (low high : ℕ) (s : Start) (to : ℕ) → KeptIn i u low high s to counted → SuitsStatements v i u
      → Allows i u low high c.ways
      → has_depth i to 0 ≡ true
      → AreKeptBetween i u low high s.place to 0
  counted_kept i u low high s to k suits ways ends =
      let full = is_full v.scope range in
      let words = words_kept_in i u low high s to (c.taken + 2) (bounds ▹ ranged_code full t turns) (tidy_bounded full).grows k in
      let wide = words.wide in
      let fits = words.fits in
      let first_is : t.counter ≡ c.taken = narrow_same c.taken (omega (arith, wide)) in
      let last_is : t.limit ≡ c.taken + 1 = narrow_same (c.taken + 1) (omega (arith, wide)) in
      let has : HasWords t i u = record { counter = omega (arith, first_is, fits); limit = omega (arith, last_is, fits) } in
      let opening = opening_kept i u low high s to full words.rest has suits ends in
      let statements = turns_kept i u low high opening.start to opening.turning has
      (suits_inside laws.stay v t.counter parameter range sound entries legal of_type i u has.counter suits) ways ends in
      kept_then i u low high s.place opening.start.place to 0 0 (opening.kept statements.begins) statements

  pub does_counted : Does (IsCountedLoop c parameter reversed range body) c xs counted
  does_counted = record {
    tidy = tidy_then (takes (c.taken + 2)) (bounds ▹ ranged_code (is_full v.scope range) t turns) (tidy_takes (c.taken + 2)) (tidy_bounded (is_full v.scope range));
    stands = counted_means;
    flows = record { flows = λ i u low high s to k suits ways out ends. counted_kept i u low high s to k suits ways ends };
  }

-- ---- the statement

pub does_for : StatementLaws → (c : Site) (place : ℕ) (parameter : Identifier) (reversed : Bool) (range : RangeTree) (body : StmtTrees)
    → SoundScope c.visible.scope
    → HasEntries c.visible
    → loop_faults c.visible.scope parameter range ≡ []
    → IsOfIntegers c.visible.scope range
    → Works c.visible 0 1 range.first (expr_code c.visible 0 range.first)
    → Works c.visible 1 1 range.last (expr_code c.visible 1 range.last)
    → ((exit : Option ℕ) → (any_leave body way.Exit ≡ true → is_some exit ≡ true)
    → Does (AreBody (in_turn (in_loop c exit) parameter range) body) (in_turn (in_loop c exit) parameter range) (stmts_within body)
    (stmts_code (in_turn (in_loop c exit) parameter range) body))
    → Does (IsOne c (Loop place (For parameter reversed range) body)) c (stmts_within body)
    (with_way (any_leave body way.Exit)
    (λ exit. counted_code (in_loop c exit) reversed range (stmts_code (in_turn (in_loop c exit) parameter range) body)))
does_for laws c place parameter reversed range body sound entries legal of_type x y p =
    does_way c (λ exit. with_exit exit c.ways)
    (λ exit. IsCountedLoop (in_loop c exit) parameter reversed range body)
    (IsOne c (Loop place (For parameter reversed range) body)) (stmts_within body)
    (λ exit. counted_code (in_loop c exit) reversed range (stmts_code (in_turn (in_loop c exit) parameter range) body)) (exits_allowed c)
    (λ i program g numbers f r exit from start to low above below skips leaves up is. (
      start,
      way_of exit to,
      low,
      above,
      below,
      skips,
      leaves,
      is.0,
      is.1,
      within_way i program g numbers is.0.inner c.ways exit to r is.0.start is.0.back body is.2,
      is.3,
      is.4,
    ))
    (any_leave body way.Exit)
    (λ exit there.
    does_counted laws (in_loop c exit) parameter reversed range body (stmts_within body) (stmts_code (in_turn (in_loop c exit) parameter range) body) sound entries
    legal of_type x y (p exit there))
