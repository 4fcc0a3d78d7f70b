-- First values of `out` parameters: what their code is where it stands in an image, how much it is, and that it keeps the rules of images (RM 6.4.1).
use Rattle.std.proofs.Common.{◌≡◌, ℕ, suc, ◌+◌, ◌*◌, ◌<◌, ◌≤◌, ◌⊎◌, inl, inr, ℤ, pos, List, [], ◌∷◌, length, Bool, true, false, cond, Option, None, Some, refl, sym, ap, ◌∙◌, subst, arith, rules}
use Rattle.std.specs.List.{All}
use Rattle.std.specs.Prelude.{is_some, nat_eq, nat_le}
use Rattle.std.proofs.lemmas.List.Elements.{All-head, All-tail}
use Rattle.base.specs.declared.limits.TheConstants.{FRAME_WORDS}
use Rattle.ada_tree.specs.declared.declaration.Mode.{Mode}
use Rattle.ada_tree.specs.declared.declaration.Mode.TheVariants as mode
use Rattle.ada_tree.specs.Size.{total}
use Rattle.image.specs.Sections.{Sections}
use Rattle.image.specs.declared.instruction.Operation.TheVariants as op
use Rattle.image.specs.declared.instruction.Region.TheVariants as regions
use Rattle.image.specs.declared.subprograms.Subprogram.{Subprogram}
use Rattle.types.specs.declared.entity.Subtype.{Subtype}
use Rattle.types.specs.Entities.{Arrays, Booleans, Integers, Records, Times, TypeForm}
use Rattle.types.specs.Entities as entity
use Rattle.types.specs.Laws.{InitialValuesHaveShape, ValuesHaveWords}
use Rattle.types.specs.Layouts.{words_of}
use Rattle.types.specs.Scopes.{form_at}
use Rattle.types.specs.Shapes.{initial, shape_of, value_words}
use Rattle.expr_soundness.specs.SoundScopes.{IsKnown, SoundScope}
use Rattle.expr_soundness.specs.meaning.specs.Calls.{is_out}
use Rattle.expr_code.specs.Emitting.{is_composite}
use Rattle.expr_code.specs.Pieces.{Piece, deepest_of, nothing, one, ◌▸◌}
use Rattle.expr_code.specs.Views.{At}
use Rattle.expr_code.specs.declared.visible.Visible.{Visible}
use Rattle.expr_code.proofs.Going.{uncapped_words}
use Rattle.expr_code.proofs.StandingPieces.{Between, Leads, Suiting, both_stand, fits_none, leads_one, leads_then, one_stands, pushes}
use Rattle.part_code.specs.Emitting.{first_word}
use Rattle.part_code.specs.Formals.{AreInitial, BeginsWithin, HasValue, HasWord, HaveFormalRoom, InitialThen, StoresFirstWord, StoresFirstWords, placed_words}
use Rattle.part_code.specs.Needs.{Needs, initial_needs, out_needs, outs_needs}
use Rattle.part_code.specs.Needs as needs
use Rattle.part_code.specs.ObjectCode.{block_code, first_value, first_words, object_code, within_frame, word_pushed, words_pushed}
use Rattle.part_code.specs.PartCode.{words_in}
use Rattle.part_code.specs.Storing.{ArePushed}
use Rattle.part_code.specs.declared.formals.PlacedFormal.{PlacedFormal}
use Rattle.part_code.proofs.ObjectNames.{less_true}
use Rattle.part_code.proofs.Within.{in_left, in_right}
use Rattle.stmt_code.specs.WholeCode.{out_code, outs_code}
use Rattle.stmt_code.proofs.FirstWords.{words_first}
use Rattle.stmt_code.proofs.ObjectFills.{le_of, some_block, words_spans}
use Rattle.stmt_code.proofs.ObjectsDo.{framed_is, within_stands, words_lead, words_stand}
use Rattle.stmt_code.proofs.SimpleFills.{Spans, spans_more, spans_none, spans_one, spans_then}
use Rattle.stmt_code.proofs.TurnsDo.{one_before}

pub none_between : (i : Sections) (from to : ℕ) → Between i from to nothing → from ≡ to
unfolding nothing
none_between i from to h = let e = h.ends in omega (arith, e)

-- the code of a parameter of each mode, and what it needs
abbrev code_by : Visible → PlacedFormal → Mode → Piece
code_by v x m = elim m [ mode.In ↦ nothing | mode.Out ↦ object_code v x.offset x.subtype None | mode.InOut ↦ nothing ]

abbrev needs_by : Visible → Subtype → Mode → Needs
needs_by v t m = elim m [ mode.In ↦ needs.nothing | mode.Out ↦ initial_needs v t None | mode.InOut ↦ needs.nothing ]

-- where more is known of the subprogram
pub leads_under : (S T : Suiting) (x y : ℕ) (a : Piece) → ((i : Sections) (q : Subprogram) → T i q → S i q) → Leads S x y a → Leads T x y a
leads_under S T x y a tells p = record { leads = λ i q from to h suits deep high ends. p.leads i q from to h (tells i q suits) deep high ends }

module _ (sized : ValuesHaveWords) (shaped : InitialValuesHaveShape) (v : Visible) (sound : SoundScope v.scope) where
  -- ---- one of them

  module _ (x : PlacedFormal) (known : IsKnown v.scope x.subtype) (some : HasValue v.scope x) where
    abbrev t : Subtype
    t = x.subtype

    abbrev size : ℕ
    size = words_in v.scope t

    abbrev wide : ℕ
    wide = words_of v.scope t

    abbrev ones : List ℤ
    ones = first_words (suc t.type_number) v.scope t

    abbrev S : Suiting
    S = HasWord x.offset

    ones_are : ones ≡ value_words (initial v.scope t)
    ones_are = words_first v.scope sound (suc t.type_number) t (omega arith) known

    initial_long : length (value_words (initial v.scope t)) ≡ wide
    initial_long = (sized (shape_of v.scope t) (initial v.scope t) (shaped (shape_of v.scope t))).sized

    ones_long : length ones ≡ wide
    ones_long = ap length ones_are ∙ initial_long

    -- what its code is, how much it is, and that it keeps the rules
    pub record OutWorks (a : Piece) : Type 0 where
      pub stores : (i : Sections) (from to : ℕ) → Between i from to a → StoresFirstWord i v.scope from to x ⊎ StoresFirstWords i v.scope from to x
      pub leads : Leads S 0 0 a
      pub spans : Spans ⊥ (2 + wide) (suc wide) a

    -- of one word
    word_works : (w : ℤ) → first_word (form_at v.scope t.type_number) t ≡ Some w → OutWorks (one 0 (op.Push w) ▸ one 1 (op.StoreLocal x.offset))
    word_works w first = record {
      stores = λ i from to h.
          let push = one_before i from to 0 (op.Push w) (one 1 (op.StoreLocal x.offset)) h in
          let store = one_stands i (suc from) to 1 (op.StoreLocal x.offset) push.rest_ in
          inl (record { word = w; first = first; push = push.there; store = (1, store.there); end = store.ends });
      leads = leads_then S 0 1 0 (one 0 (op.Push w)) (one 1 (op.StoreLocal x.offset)) (leads_one S 0 1 (op.Push w) (λ e. pushes S 0 w))
          (leads_one S 1 0 (op.StoreLocal x.offset) (λ e. record {
            operands = refl;
            names = λ i q has. less_true x.offset q.locals has;
            takes = λ i q has. omega arith;
            leaves = λ i q has. omega arith;
            stays = refl;
            is_none = refl;
          }));
      spans = spans_more ⊥ ⊥ (1 + 1) (2 + wide) (suc wide) (suc wide) (one 0 (op.Push w) ▸ one 1 (op.StoreLocal x.offset)) (λ u. u) (omega arith) (omega arith)
          (spans_then ⊥ (suc wide) 1 1 (one 0 (op.Push w)) (one 1 (op.StoreLocal x.offset)) (spans_one ⊥ (suc wide) 0 (op.Push w) (omega arith) refl)
          (spans_one ⊥ (suc wide) 1 (op.StoreLocal x.offset) (omega arith) refl));
    }

    -- of several
    abbrev store : Piece
    store = one (1 + size) (op.StoreBlock regions.Locals size)

    abbrev block : Piece
    block = one 0 (op.Push (pos x.offset)) ▸ words_pushed 1 ones ▸ store

    same_size : 1 + size ≤ FRAME_WORDS → size ≡ wide
    same_size few = uncapped_words size wide refl (omega (arith, few))

    some_words : nat_eq size 0 ≡ false
    some_words = not_zero size (let s = some in omega (arith, s))
      where
        not_zero : (k : ℕ) → 1 ≤ k → nat_eq k 0 ≡ false
        not_zero k h = search rules

    block_stores : (i : Sections) (from to : ℕ) → size ≡ wide → Between i from to block → StoresFirstWords i v.scope from to x
    block_stores i from to same h =
        let push = one_before i from to 0 (op.Push (pos x.offset)) (words_pushed 1 ones ▸ store) h in
        let both = both_stand i (suc from) to (words_pushed 1 ones) store push.rest_ in
        let put = words_stand i 1 (suc from) both.mid ones both.first in
        let it = one_stands i both.mid to (1 + size) (op.StoreBlock regions.Locals size) both.second in
        record {
          mid = both.mid;
          address = push.there;
          pushed = subst (ArePushed i (suc from)) ones_are put.0;
          long = put.1 ∙ ap (λ l. suc from + length l) ones_are;
          store = subst (λ n. At i both.mid (op.StoreBlock regions.Locals n)) same (1 + size, it.there);
          end = it.ends;
        }

    block_leads : size ≡ wide → Leads S 0 0 block
    block_leads same =
        let long : length ones ≡ size = ones_long ∙ sym same in
        leads_then S 0 1 0 (one 0 (op.Push (pos x.offset))) (words_pushed 1 ones ▸ store)
        (leads_one S 0 1 (op.Push (pos x.offset)) (λ e. pushes S 0 (pos x.offset)))
        (leads_then S 1 (1 + size) 0 (words_pushed 1 ones) store (subst (λ n. Leads S 1 (1 + n) (words_pushed 1 ones)) long (words_lead S 1 ones))
        (leads_one S (1 + size) 0 (op.StoreBlock regions.Locals size) (λ e. record {
          operands = e;
          names = λ i q has. refl;
          takes = λ i q has. omega arith;
          leaves = λ i q has. omega arith;
          stays = refl;
          is_none = refl;
        })))

    block_spans : 1 + size ≤ FRAME_WORDS → Spans ⊥ (2 + wide) (suc wide) block
    block_spans few =
        let long = ones_long in
        let same = same_size few in
        spans_more ⊥ ⊥ (1 + (length ones + 1)) (2 + wide) (suc wide) (suc wide) block (λ u. u) (omega (arith, long)) (omega arith)
        (spans_then ⊥ (suc wide) 1 (length ones + 1) (one 0 (op.Push (pos x.offset))) (words_pushed 1 ones ▸ store)
        (spans_one ⊥ (suc wide) 0 (op.Push (pos x.offset)) (omega arith) refl)
        (spans_then ⊥ (suc wide) (length ones) 1 (words_pushed 1 ones) store (words_spans ⊥ (suc wide) 1 ones (omega (arith, long)))
        (spans_one ⊥ (suc wide) (1 + size) (op.StoreBlock regions.Locals size) (omega (arith, same)) (some_block size some_words (omega (arith, few))))))

    framed_spans : Spans ⊥ (2 + wide) (suc wide) (within_frame (1 + size) block)
    framed_spans = by_room (nat_le (1 + size) FRAME_WORDS) refl
      where
        by_room : (b : Bool) → nat_le (1 + size) FRAME_WORDS ≡ b → Spans ⊥ (2 + wide) (suc wide) (cond b block (one (1 + size) op.Return))
        by_room true is = block_spans (le_of (1 + size) FRAME_WORDS is)
        by_room false is =
            spans_more ⊥ ⊥ 1 (2 + wide) (suc wide) (suc wide) (one (1 + size) op.Return) (λ u. u) (omega arith) (omega arith)
            (spans_one ⊥ (suc wide) (1 + size) op.Return (omega arith) refl)

    block_works : OutWorks (block_code v x.offset t None)
    block_works = record {
      stores = λ i from to h.
          let within = within_stands i (1 + size) from to block h in
          inr (block_stores i from to (same_size within.0) within.1);
      leads = record {
        leads = λ i q from to h suits deep high ends.
            let within = within_stands i (1 + size) from to block h in
            (block_leads (same_size within.0)).leads i q from to within.1 suits
            (subst (λ a. deepest_of (a from) ≤ q.stack) (framed_is (1 + size) block within.0) deep) high ends;
      };
      spans = framed_spans;
    }

    -- by the form of its type
    pub out_works : OutWorks (object_code v x.offset t None)
    out_works = by_form (form_at v.scope t.type_number) refl known
      where
        of_word : (form : TypeForm) (w : ℤ) → form_at v.scope t.type_number ≡ Some form → is_composite (Some form) ≡ false → first_word (Some form) t ≡ Some w
            → OutWorks (object_code v x.offset t None)
        of_word form w is plain first =
            let there : first_word (form_at v.scope t.type_number) t ≡ Some w = ap (λ o. first_word o t) is ∙ first in
            subst (λ b. OutWorks (cond b (block_code v x.offset t None) (first_value v t None ▸ one 1 (op.StoreLocal x.offset)))) (sym (ap is_composite is ∙ plain))
            (subst (λ o. OutWorks (word_pushed o ▸ one 1 (op.StoreLocal x.offset))) (sym there) (word_works w there))

        of_words : (form : TypeForm) → form_at v.scope t.type_number ≡ Some form → is_composite (Some form) ≡ true → OutWorks (object_code v x.offset t None)
        of_words form is composite =
            subst (λ b. OutWorks (cond b (block_code v x.offset t None) (first_value v t None ▸ one 1 (op.StoreLocal x.offset))))
            (sym (ap is_composite is ∙ composite)) block_works

        by_form : (o : Option TypeForm) → form_at v.scope t.type_number ≡ o → is_some (form_at v.scope t.type_number) ≡ true
            → OutWorks (object_code v x.offset t None)
        by_form (Some Integers) is h = of_word Integers t.first is refl refl
        by_form (Some Booleans) is h = of_word Booleans (pos 0) is refl refl
        by_form (Some Times) is h = of_word Times (pos 0) is refl refl
        by_form (Some entity.Spans) is h = of_word entity.Spans (pos 0) is refl refl
        by_form (Some (Arrays index most element)) is h = of_words (Arrays index most element) is refl
        by_form (Some (Records parts)) is h = of_words (Records parts) is refl
        by_form None is h = absurd (let no = sym (ap is_some is) ∙ h in cc)

  -- ---- all of them

  pub record OutsWork (xs : List PlacedFormal) (a : Piece) : Type 0 where
    pub stands : (i : Sections) (from to : ℕ) → Between i from to a → AreInitial i v.scope from to xs
    pub leads : Leads (HaveFormalRoom v.scope xs) 0 0 a
    pub spans : Spans ⊥ (2 * length xs + total (placed_words v.scope) xs) (outs_needs v xs).stack a

  none_works : OutsWork [] nothing
  none_works = record {
    stands = none_between;
    leads = (fits_none {Unfit = ⊥} (HaveFormalRoom v.scope []) 0 0).leads;
    spans = spans_none ⊥ 0;
  }

  module _ (x : PlacedFormal) (xs : List PlacedFormal) (rest : Piece) (p : OutsWork xs rest) where
    abbrev all : List PlacedFormal
    all = x ∷ xs

    tail_room : (i : Sections) (q : Subprogram) → HaveFormalRoom v.scope all i q → HaveFormalRoom v.scope xs i q
    tail_room i q has = All-tail (BeginsWithin v.scope q.locals) x xs has

    head_word : (i : Sections) (q : Subprogram) → HaveFormalRoom v.scope all i q → x.offset < q.locals
    head_word i q has = (All-head (BeginsWithin v.scope q.locals) x xs has).value

    rest_leads : Leads (HaveFormalRoom v.scope all) 0 0 rest
    rest_leads = leads_under (HaveFormalRoom v.scope xs) (HaveFormalRoom v.scope all) 0 0 rest tail_room p.leads

    -- one that is copied in
    past_works : is_out x.mode ≡ false → OutsWork all (nothing ▸ rest)
    past_works past = record {
      stands = λ i from to h.
          let both = both_stand i from to nothing rest h in
          subst (InitialThen i v.scope from x (λ n. AreInitial i v.scope n to xs)) (sym past)
          (subst (λ n. AreInitial i v.scope n to xs) (sym (none_between i from both.mid both.first)) (p.stands i both.mid to both.second));
      leads = leads_then (HaveFormalRoom v.scope all) 0 0 0 nothing rest (fits_none {Unfit = ⊥} (HaveFormalRoom v.scope all) 0 0).leads rest_leads;
      spans =
          let high = (in_right (out_needs v x) (outs_needs v xs)).stack in
          spans_more ⊥ ⊥ (0 + (2 * length xs + total (placed_words v.scope) xs)) (2 * length all + total (placed_words v.scope) all) (outs_needs v all).stack
          (outs_needs v all).stack (nothing ▸ rest) (λ u. u) (omega arith) (omega arith)
          (spans_then ⊥ (outs_needs v all).stack 0 (2 * length xs + total (placed_words v.scope) xs) nothing rest (spans_none ⊥ (outs_needs v all).stack)
          (spans_more ⊥ ⊥ (2 * length xs + total (placed_words v.scope) xs) (2 * length xs + total (placed_words v.scope) xs) (outs_needs v xs).stack
          (outs_needs v all).stack rest (λ u. u) (omega arith) high p.spans));
    }

    -- one that is not
    out_before : (known : IsKnown v.scope x.subtype) (some : HasValue v.scope x) → x.mode ≡ mode.Out
        → OutsWork all (object_code v x.offset x.subtype None ▸ rest)
    out_before known some moded =
        let a = object_code v x.offset x.subtype None in
        let w = out_works x known some in
        let wide = words_of v.scope x.subtype in
        let top = (outs_needs v all).stack in
        let own : (out_needs v x).stack ≡ suc wide =
        ap (λ m. (needs_by v x.subtype m).stack) moded in
        let left = (in_left (out_needs v x) (outs_needs v xs)).stack in
        let right = (in_right (out_needs v x) (outs_needs v xs)).stack in
        record {
          stands = λ i from to h.
              let both = both_stand i from to a rest h in
              subst (InitialThen i v.scope from x (λ n. AreInitial i v.scope n to xs)) (sym (ap is_out moded))
              (both.mid, w.stores i from both.mid both.first, p.stands i both.mid to both.second);
          leads = leads_then (HaveFormalRoom v.scope all) 0 0 0 a rest
              (leads_under (HasWord x.offset) (HaveFormalRoom v.scope all) 0 0 a head_word w.leads) rest_leads;
          spans =
              spans_more ⊥ ⊥ ((2 + wide) + (2 * length xs + total (placed_words v.scope) xs)) (2 * length all + total (placed_words v.scope) all) top top (a ▸ rest)
              (λ u. u) (omega arith) (omega arith)
              (spans_then ⊥ top (2 + wide) (2 * length xs + total (placed_words v.scope) xs) a rest
              (spans_more ⊥ ⊥ (2 + wide) (2 + wide) (suc wide) top a (λ u. u) (omega arith) (omega (arith, own, left)) w.spans)
              (spans_more ⊥ ⊥ (2 * length xs + total (placed_words v.scope) xs) (2 * length xs + total (placed_words v.scope) xs) (outs_needs v xs).stack top rest
              (λ u. u) (omega arith) right p.spans));
        }

    one_more : IsKnown v.scope x.subtype → HasValue v.scope x → OutsWork all (out_code v x ▸ rest)
    one_more known some = by_mode x.mode refl
      where
        by_mode : (m : Mode) → x.mode ≡ m → OutsWork all (code_by v x m ▸ rest)
        by_mode mode.In is = past_works (ap is_out is)
        by_mode mode.Out is = out_before known some is
        by_mode mode.InOut is = past_works (ap is_out is)

  pub outs_work : (xs : List PlacedFormal) → All (λ f. IsKnown v.scope f.subtype) xs → All (HasValue v.scope) xs → OutsWork xs (outs_code v xs)
  outs_work [] known some = none_works
  outs_work (x ∷ xs) known some =
      one_more x xs (outs_code v xs)
      (outs_work xs (All-tail (λ f. IsKnown v.scope f.subtype) x xs known) (All-tail (HasValue v.scope) x xs some))
      (All-head (λ f. IsKnown v.scope f.subtype) x xs known) (All-head (HasValue v.scope) x xs some)
