-- The end of a body: what its code is where it stands in an image, how much it is, and that it keeps the rules of images (RM 6.4.1).
use Rattle.std.proofs.Common.{◌≡◌, ℕ, suc, ◌+◌, ◌*◌, ◌≤◌, inl, inr, pos, List, [], ◌∷◌, ◌++◌, length, max, Bool, true, false, cond, Option, None, Some, refl, sym, ap, ◌∙◌, subst, arith, rules, length-append}
use Rattle.std.specs.List.{All}
use Rattle.std.specs.Prelude.{nat_eq, nat_le}
use Rattle.std.proofs.lemmas.List.Elements.{All-head, All-tail}
use Rattle.base.specs.declared.limits.TheConstants.{FRAME_WORDS}
use Rattle.image.specs.Sections.{Sections}
use Rattle.image.specs.declared.instruction.Instr.{Instr}
use Rattle.image.specs.declared.instruction.Operation.TheVariants as op
use Rattle.image.specs.declared.instruction.Region.TheVariants as regions
use Rattle.image.specs.declared.subprograms.Subprogram.{Subprogram}
use Rattle.types.specs.Layouts.{words_of}
use Rattle.types.specs.Scopes.{Scope}
use Rattle.expr_code.specs.Appending.{AllKeep, Appends}
use Rattle.expr_code.specs.Code.{Holds, here}
use Rattle.expr_code.specs.Flows.{AreKeptBetween}
use Rattle.expr_code.specs.Pieces.{Piece, deepest_of, narrow, nothing, one, ◌▸◌}
use Rattle.expr_code.specs.Views.{At}
use Rattle.expr_code.specs.declared.code.Code.{Code}
use Rattle.expr_code.proofs.ExpressionWorks.{appends_extends, placed}
use Rattle.expr_code.proofs.Flowing.{kept_then, widened}
use Rattle.expr_code.proofs.Going.{uncapped_words}
use Rattle.expr_code.proofs.StandingPieces.{Between, BothStand, Leads, Suiting, both_stand, fits_none, leads_one, leads_then, narrow_frame, one_stands, pushes}
use Rattle.part_code.specs.Formals.{AreReturned, BeginsWithin, HasValue, HasWord, HaveFormalRoom, IsLoadingCode, ReturnedThen, Returns, returned_more, words_returned}
use Rattle.part_code.specs.Needs.{all_given}
use Rattle.part_code.specs.ObjectCode.{within_frame}
use Rattle.part_code.specs.PartCode.{words_in}
use Rattle.part_code.specs.declared.formals.PlacedFormal.{PlacedFormal}
use Rattle.part_code.proofs.FormalFlows.{return_kept}
use Rattle.part_code.proofs.ObjectNames.{less_true}
use Rattle.stmt_code.specs.WholeCode.{back_code, given_code, height_given, load_code, return_code}
use Rattle.stmt_code.proofs.ObjectFills.{le_of, some_block}
use Rattle.stmt_code.proofs.ObjectsDo.{framed_is, within_stands}
use Rattle.stmt_code.proofs.OutsDo.{leads_under, none_between}
use Rattle.stmt_code.proofs.SimpleFills.{Spans, spans_more, spans_none, spans_one, spans_then}
use Rattle.stmt_code.proofs.TurnsDo.{one_before}

eq_of : (a b : ℕ) → nat_eq a b ≡ true → a ≡ b
eq_of a b h = search rules

none_eq : (k : ℕ) → 1 ≤ k → nat_eq k 0 ≡ false
none_eq k h = search rules

-- ---- the words of a value

module _ (d offset many : ℕ) where
  abbrev several : Piece
  several = one d (op.Push (pos offset)) ▸ one (d + 1) (op.LoadBlock regions.Locals many)

  pub loads_stand : (i : Sections) (from to : ℕ) → Between i from to (load_code d offset many) → IsLoadingCode i from to offset many
  loads_stand i from to h = by_many (nat_eq many 1) refl h
    where
      by_many : (b : Bool) → nat_eq many 1 ≡ b → Between i from to (cond b (one d (op.LoadLocal offset)) (within_frame (d + many) several))
          → IsLoadingCode i from to offset many
      by_many true is h = let it = one_stands i from to d (op.LoadLocal offset) h in inl (eq_of many 1 is, (d, it.there), it.ends)
      by_many false is h =
          let within = within_stands i (d + many) from to several h in
          let push = one_before i from to d (op.Push (pos offset)) (one (d + 1) (op.LoadBlock regions.Locals many)) within.1 in
          let load = one_stands i (suc from) to (d + 1) (op.LoadBlock regions.Locals many) push.rest_ in
          inr (push.there, (d + 1, load.there), load.ends)

  single_leads : many ≡ 1 → Leads (HasWord offset) d (d + many) (one d (op.LoadLocal offset))
  single_leads is = leads_one (HasWord offset) d (d + many) (op.LoadLocal offset) (λ e. record {
    operands = refl;
    names = λ i q has. less_true offset q.locals has;
    takes = λ i q has. omega arith;
    leaves = λ i q has. omega (arith, is);
    stays = refl;
    is_none = refl;
  })

  several_leads : Leads (HasWord offset) d (d + many) several
  several_leads =
      leads_then (HasWord offset) d (d + 1) (d + many) (one d (op.Push (pos offset))) (one (d + 1) (op.LoadBlock regions.Locals many))
      (leads_one (HasWord offset) d (d + 1) (op.Push (pos offset)) (λ e. pushes (HasWord offset) d (pos offset)))
      (leads_one (HasWord offset) (d + 1) (d + many) (op.LoadBlock regions.Locals many) (λ e. record {
        operands = e;
        names = λ i q has. refl;
        takes = λ i q has. omega arith;
        leaves = λ i q has. omega arith;
        stays = refl;
        is_none = refl;
      }))

  pub loads_lead : Leads (HasWord offset) d (d + many) (load_code d offset many)
  loads_lead = by_many (nat_eq many 1) refl
    where
      by_many : (b : Bool) → nat_eq many 1 ≡ b → Leads (HasWord offset) d (d + many) (cond b (one d (op.LoadLocal offset)) (within_frame (d + many) several))
      by_many true is = single_leads (eq_of many 1 is)
      by_many false is = record {
        leads = λ i q from to h suits deep high ends.
            let within = within_stands i (d + many) from to several h in
            several_leads.leads i q from to within.1 suits (subst (λ a. deepest_of (a from) ≤ q.stack) (framed_is (d + many) several within.0) deep) high ends;
      }

  pub loads_span : (h : ℕ) → 1 ≤ many → d + max 1 many ≤ h → Spans ⊥ 2 h (load_code d offset many)
  loads_span h some up = by_many (nat_eq many 1) refl
    where
      by_room : (b : Bool) → nat_le (d + many) FRAME_WORDS ≡ b → Spans ⊥ 2 h (cond b several (one (d + many) op.Return))
      by_room true is =
          let few = le_of (d + many) FRAME_WORDS is in
          spans_then ⊥ h 1 1 (one d (op.Push (pos offset))) (one (d + 1) (op.LoadBlock regions.Locals many))
          (spans_one ⊥ h d (op.Push (pos offset)) (omega (arith, up)) refl)
          (spans_one ⊥ h (d + 1) (op.LoadBlock regions.Locals many) (omega (arith, up)) (some_block many (none_eq many some) (omega (arith, few))))
      by_room false is =
          spans_more ⊥ ⊥ 1 2 h h (one (d + many) op.Return) (λ u. u) (omega arith) (omega arith) (spans_one ⊥ h (d + many) op.Return (omega (arith, up)) refl)

      by_many : (b : Bool) → nat_eq many 1 ≡ b → Spans ⊥ 2 h (cond b (one d (op.LoadLocal offset)) (within_frame (d + many) several))
      by_many true is =
          spans_more ⊥ ⊥ 1 2 h h (one d (op.LoadLocal offset)) (λ u. u) (omega arith) (omega arith) (spans_one ⊥ h d (op.LoadLocal offset) (omega (arith, up)) refl)
      by_many false is = by_room (nat_le (d + many) FRAME_WORDS) refl

-- ---- what is given back

module _ (s : Scope) where
  -- where no value has more words than a frame, they are those of its subtype
  pub given_is : (xs : List PlacedFormal) → height_given s xs ≤ FRAME_WORDS → height_given s xs ≡ words_returned s xs
  given_is [] up = refl
  given_is (x ∷ xs) up = by_address x.address (given_is xs) up
    where
      by_address : (o : Option ℕ) → (height_given s xs ≤ FRAME_WORDS → height_given s xs ≡ words_returned s xs)
          → returned_more o (words_in s x.subtype) (height_given s xs) ≤ FRAME_WORDS
          → returned_more o (words_in s x.subtype) (height_given s xs) ≡ returned_more o (words_of s x.subtype) (words_returned s xs)
      by_address None others few = others few
      by_address (Some a) others few =
          let same = uncapped_words (words_in s x.subtype) (words_of s x.subtype) refl (omega (arith, few)) in
          let rest = others (omega (arith, few)) in
          omega (arith, same, rest)

  pub record BacksWork (xs : List PlacedFormal) (a : Piece) : Type 0 where
    pub stands : (i : Sections) (from to : ℕ) → height_given s xs ≤ FRAME_WORDS → Between i from to a → AreReturned i s from to xs
    pub leads : Leads (HaveFormalRoom s xs) 0 (height_given s xs) a
    pub spans : Spans ⊥ (3 * length xs) (all_given s xs) a
    pub high : height_given s xs ≤ all_given s xs

  none_back : BacksWork [] nothing
  none_back = record {
    stands = λ i from to up h. none_between i from to h;
    leads = (fits_none {Unfit = ⊥} (HaveFormalRoom s []) 0 0).leads;
    spans = spans_none ⊥ 0;
    high = omega arith;
  }

  module _ (x : PlacedFormal) (xs : List PlacedFormal) (rest : Piece) (some : HasValue s x) (p : BacksWork xs rest) where
    abbrev all : List PlacedFormal
    all = x ∷ xs

    abbrev size : ℕ
    size = words_in s x.subtype

    abbrev low : ℕ
    low = height_given s xs

    abbrev Room : Suiting
    Room = HaveFormalRoom s all

    begins : (i : Sections) (q : Subprogram) → Room i q → BeginsWithin s q.locals x
    begins i q has = All-head (BeginsWithin s q.locals) x xs has

    rest_leads : Leads Room 0 low rest
    rest_leads = leads_under (HaveFormalRoom s xs) Room 0 low rest (λ i q has. All-tail (BeginsWithin s q.locals) x xs has) p.leads

    size_up : size ≤ words_of s x.subtype
    size_up = omega arith

    some_size : 1 ≤ size
    some_size = let w = some in omega (arith, w)

    -- one that is copied back
    module _ (a : ℕ) (there : x.address ≡ Some a) where
      abbrev given : Piece
      given = one low (op.LoadLocal a) ▸ load_code (low + 1) x.offset size

      height_is : height_given s all ≡ suc size + low
      height_is = ap (λ o. returned_more o size low) there

      given_most : all_given s all ≡ suc (max 1 (words_of s x.subtype)) + 0 + all_given s xs
      given_most = ap (λ o. returned_more o (max 1 (words_of s x.subtype)) 0 + all_given s xs) there

      given_stands : (i : Sections) (from to : ℕ) → height_given s all ≤ FRAME_WORDS → Between i from to (rest ▸ given) → AreReturned i s from to all
      given_stands i from to up h =
          let both = both_stand i from to rest given h in
          let push = one_before i both.mid to low (op.LoadLocal a) (load_code (low + 1) x.offset size) both.second in
          let load = loads_stand (low + 1) x.offset size i (suc both.mid) to push.rest_ in
          let same : size ≡ words_of s x.subtype = uncapped_words size (words_of s x.subtype) refl (omega (arith, up, height_is)) in
          subst (λ o. ReturnedThen i s from to x (λ n. AreReturned i s from n xs) o) (sym there) (
            both.mid,
            both.up,
            both.on_,
            p.stands i from both.mid (omega (arith, up, height_is)) both.first,
            push.there,
            subst (IsLoadingCode i (suc both.mid) to x.offset) same load,
          )

      given_leads : Leads Room 0 (height_given s all) (rest ▸ given)
      given_leads =
          let end : (low + 1) + size ≡ height_given s all = omega (arith, height_is) in
          subst (λ n. Leads Room 0 n (rest ▸ given)) end
          (leads_then Room 0 low ((low + 1) + size) rest given rest_leads
          (leads_then Room low (low + 1) ((low + 1) + size) (one low (op.LoadLocal a)) (load_code (low + 1) x.offset size)
          (leads_one Room low (low + 1) (op.LoadLocal a) (λ e. record {
            operands = refl;
            names = λ i q has. less_true a q.locals ((begins i q has).address a there);
            takes = λ i q has. omega arith;
            leaves = λ i q has. omega arith;
            stays = refl;
            is_none = refl;
          }))
          (leads_under (HasWord x.offset) Room (low + 1) ((low + 1) + size) (load_code (low + 1) x.offset size) (λ i q has. (begins i q has).value)
          (loads_lead (low + 1) x.offset size))))

      given_spans : Spans ⊥ (3 * length all) (all_given s all) (rest ▸ given)
      given_spans =
          let top = all_given s all in
          let most = given_most in
          let up = size_up in
          let high = p.high in
          spans_more ⊥ ⊥ (3 * length xs + (1 + 2)) (3 * length all) top top (rest ▸ given) (λ u. u) (omega arith) (omega arith)
          (spans_then ⊥ top (3 * length xs) (1 + 2) rest given
          (spans_more ⊥ ⊥ (3 * length xs) (3 * length xs) (all_given s xs) top rest (λ u. u) (omega arith) (omega (arith, most)) p.spans)
          (spans_then ⊥ top 1 2 (one low (op.LoadLocal a)) (load_code (low + 1) x.offset size)
          (spans_one ⊥ top low (op.LoadLocal a) (omega (arith, most, high)) refl)
          (loads_span (low + 1) x.offset size top some_size (omega (arith, most, high, up)))))

      given_works : BacksWork all (rest ▸ given)
      given_works = record {
        stands = given_stands;
        leads = given_leads;
        spans = given_spans;
        high = (let most = given_most in let up = size_up in let high = p.high in omega (arith, most, up, high, height_is));
      }

    -- another one
    past_works : x.address ≡ None → BacksWork all (rest ▸ nothing)
    past_works none =
        let height_is : height_given s all ≡ low = ap (λ o. returned_more o size low) none in
        let most : all_given s all ≡ 0 + all_given s xs = ap (λ o. returned_more o (max 1 (words_of s x.subtype)) 0 + all_given s xs) none in
        let high = p.high in
        let top = all_given s all in
        record {
          stands = λ i from to up h.
              let both = both_stand i from to rest nothing h in
              subst (λ o. ReturnedThen i s from to x (λ n. AreReturned i s from n xs) o) (sym none)
              (subst (λ n. AreReturned i s from n xs) (none_between i both.mid to both.second) (p.stands i from both.mid (omega (arith, up, height_is)) both.first));
          leads = subst (λ n. Leads Room 0 n (rest ▸ nothing)) (sym height_is)
              (leads_then Room 0 low low rest nothing rest_leads (fits_none {Unfit = ⊥} Room low low).leads);
          spans =
              spans_more ⊥ ⊥ (3 * length xs + 0) (3 * length all) top top (rest ▸ nothing) (λ u. u) (omega arith) (omega arith)
              (spans_then ⊥ top (3 * length xs) 0 rest nothing
              (spans_more ⊥ ⊥ (3 * length xs) (3 * length xs) (all_given s xs) top rest (λ u. u) (omega arith) (omega (arith, most)) p.spans)
              (spans_none ⊥ top));
          high = omega (arith, height_is, most, high);
        }

    one_more : BacksWork all (rest ▸ given_code s low x x.address)
    one_more = by_address x.address refl
      where
        by_address : (o : Option ℕ) → x.address ≡ o → BacksWork all (rest ▸ given_code s low x o)
        by_address None is = past_works is
        by_address (Some a) is = given_works a is

  pub backs_work : (xs : List PlacedFormal) → All (HasValue s) xs → BacksWork xs (back_code s xs)
  backs_work [] some = none_back
  backs_work (x ∷ xs) some =
      one_more x xs (back_code s xs) (All-head (HasValue s) x xs some) (backs_work xs (All-tail (HasValue s) x xs some))

  -- ---- the end of a body

  module _ (xs : List PlacedFormal) (some : All (HasValue s) xs) where
    abbrev w : BacksWork xs (back_code s xs)
    w = backs_work xs some

    abbrev height : ℕ
    height = height_given s xs

    pub return_spans : Spans ⊥ (suc (3 * length xs)) (all_given s xs) (return_code s xs)
    return_spans =
        let high = w.high in
        let top = all_given s xs in
        spans_more ⊥ ⊥ (3 * length xs + 1) (suc (3 * length xs)) top top (return_code s xs) (λ u. u) (omega arith) (omega arith)
        (spans_then ⊥ top (3 * length xs) 1 (back_code s xs) (one height op.Return) w.spans (spans_one ⊥ top height op.Return high refl))

    module _ (old new : Code) (h : Appends old (return_code s xs (here old)) new) where
      deep_end : narrow height ≤ FRAME_WORDS
      unfolding one ◌▸◌
      deep_end = keeps_last (back_code s xs (here old)) _ h.keep
        where
          keeps_last : (a : List Instr) (x : Instr) → AllKeep (a ++ x ∷ []) → x.depth ≤ FRAME_WORDS
          keeps_last [] x k = k.0.0
          keeps_last (y ∷ a) x k = keeps_last a x k.1

      pub given_same : narrow height ≡ height
      given_same = narrow_frame height deep_end

      few : height ≤ FRAME_WORDS
      few = let low = deep_end in let same = given_same in omega (arith, low, same)

      abbrev stop : ℕ
      stop = here old + length (back_code s xs (here old))

      ended : here new ≡ suc stop
      unfolding one ◌▸◌
      ended =
          let long = (placed old new (return_code s xs) h).long in
          let parts = length-append (back_code s xs (here old)) (one height op.Return stop) in
          omega (arith, long, parts)

      pub return_added : Returns s old xs (narrow height) new
      return_added =
          let at = placed old new (return_code s xs) h in
          let last = ended in
          let parts : (i : Sections) → Holds i (here old) new → BothStand i (here old) (here new) (back_code s xs) (one height op.Return) =
          λ i holds. both_stand i (here old) (here new) (back_code s xs) (one height op.Return) (at.stands i holds) in
          record {
            extends = appends_extends old new (return_code s xs (here old)) h;
            sized = (let long = at.long in let most = return_spans.sized (here old) in omega (arith, long, most));
            back = stop;
            up = omega arith;
            end = last;
            high = given_same ∙ given_is xs few;
            stands = λ i holds.
                let both = parts i holds in
                w.stands i (here old) stop few
                (subst (λ n. Between i (here old) n (back_code s xs)) (let e = both.first.ends in e) both.first);
            returns = λ i holds.
                let both = parts i holds in
                let it = one_stands i both.mid (here new) height op.Return both.second in
                subst (λ n. At i n op.Return) (let e = both.first.ends in e) (height, it.there);
            flows = λ i q holds room deep results.
                let both = parts i holds in
                let it = one_stands i both.mid (here new) height op.Return both.second in
                let mid_is : both.mid ≡ stop = both.first.ends in
                let is = h.deepest in
                let all = both.deep in
                let one_deep = it.deep in
                let returned = return_kept i q (here old) stop both.mid height it.there (omega (arith, is, all, one_deep, deep)) (results ∙ given_same) in
                let front = w.leads.leads i q (here old) both.mid both.first room (omega (arith, is, all, deep)) returned.shallow returned.begins in
                kept_then i q (here old) stop (here old) both.mid (here new) 0 height
                (widened i q (here old) both.mid (here old) stop (here old) both.mid 0 (omega arith) (omega (arith, mid_is)) front)
                (subst (λ n. AreKeptBetween i q (here old) stop both.mid n height) (sym it.ends) returned);
          }
