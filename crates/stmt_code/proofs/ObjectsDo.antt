-- What the code of a declaration of an object does where it stands in an image, and that it keeps the rules of images there (RM 3.3.1).
use Rattle.std.proofs.Common.{◌≡◌, ℕ, zero, suc, ◌+◌, ◌<◌, ◌≤◌, ℤ, pos, List, [], ◌∷◌, length, Bool, true, false, cond, Option, None, Some, inr, refl, sym, ap, ◌∙◌, subst, arith, rules}
use Rattle.std.specs.Prelude.{is_some, nat_eq, nat_le, ◌||◌}
use Rattle.base.specs.declared.limits.TheConstants.{FRAME_WORDS}
use Rattle.ada_tree.specs.ExpressionTree.{ExprTree}
use Rattle.ada_tree.specs.StatementTree.{LocalObject, ObjectTree}
use Rattle.image.specs.Sections.{Sections}
use Rattle.image.specs.Rules.{has_depth}
use Rattle.image.specs.declared.instruction.Operation.TheVariants as op
use Rattle.image.specs.declared.instruction.Region.TheVariants as regions
use Rattle.image.specs.declared.subprograms.Subprogram.{Subprogram}
use Rattle.types.specs.declared.entity.Subtype.{Subtype}
use Rattle.types.specs.Entities.{Arrays, Booleans, Integers, Records, Spans, Times, TypeForm}
use Rattle.types.specs.Layouts.{words_of}
use Rattle.types.specs.Scopes.{form_at}
use Rattle.types.specs.Shapes.{initial, initial_of, shape_of, value_words}
use Rattle.expr_soundness.specs.expr_rules.specs.Typing.{is_booleans}
use Rattle.type_rules.specs.ObjectRules.{local_object_faults}
use Rattle.type_rules.specs.SubtypeNames.{subtype_of}
use Rattle.expr_soundness.specs.Agreeing.{Agrees}
use Rattle.expr_soundness.specs.SoundScopes.{IsKnown}
use Rattle.expr_soundness.specs.meaning.specs.Programs.{Program}
use Rattle.expr_code.specs.Computing.{ComputesChecked}
use Rattle.expr_code.specs.Emitting.{IsFit, has_numbers, is_composite}
use Rattle.expr_code.specs.ExpressionCode.{checked_code, expr_code}
use Rattle.expr_code.specs.Pieces.{Piece, deepest_of, narrow, nothing, one, ◌▸◌}
use Rattle.expr_code.specs.Providing.{is_passable}
use Rattle.expr_code.specs.Seeing.{Package, Sees, Suits, library_of}
use Rattle.expr_code.specs.Views.{At}
use Rattle.expr_code.specs.declared.visible.Visible.{Visible}
use Rattle.expr_code.proofs.Checking.{shaped}
use Rattle.expr_code.proofs.Flowing.{widened}
use Rattle.expr_code.proofs.Going.{uncapped_words}
use Rattle.expr_code.proofs.PassedWorks.{passable_word}
use Rattle.expr_code.proofs.StandingPieces.{Between, Leads, Suiting, both_stand, fits_none, leads_one, leads_then, narrow_frame, narrow_same, one_stands, pushes}
use Rattle.part_code.specs.Emitting.{FitsIfAny, first_word}
use Rattle.part_code.specs.Needs.{is_taken}
use Rattle.part_code.specs.ObjectCode.{block_code, first_value, first_words, object_code, within_frame, word_pushed, words_pushed}
use Rattle.part_code.specs.PartCode.{fitting_code, words_in}
use Rattle.part_code.specs.Resting.{Framed}
use Rattle.part_code.specs.Statements.{IsDeclared, Numbers}
use Rattle.part_code.specs.Storing.{ArePushed}
use Rattle.part_code.proofs.Declaring.{IsTypedAs, declares_block, declares_initial, declares_initial_words, declares_value}
use Rattle.part_code.proofs.FittingWorks.{checked_works, fitting_works}
use Rattle.part_code.proofs.FullWords.{some_words}
use Rattle.part_code.proofs.Initials.{form_there, initial_word, shape_there}
use Rattle.part_code.proofs.ObjectNames.{less_true}
use Rattle.part_code.proofs.StoresAt.{store_changes}
use Rattle.stmt_code.specs.Drafting.{CodePart, Start, coded, marked, takes, ◌▹◌}
use Rattle.stmt_code.specs.Emitting.{Serves, TellPlaces, seeing}
use Rattle.stmt_code.specs.Placing.{local_within}
use Rattle.stmt_code.specs.StatementCode.{Site, after_local, local_code, local_object, words_taken}
use Rattle.stmt_code.proofs.Declared.{initial_fit, local_subtype}
use Rattle.stmt_code.proofs.DeclarationsDo.{DoesDeclare}
use Rattle.stmt_code.proofs.FirstWords.{words_first}
use Rattle.stmt_code.proofs.LocalNames.{known, later, narrows, role, serves_later, slot, spares, subtype_there, suits_later, widens}
use Rattle.stmt_code.proofs.CoveredScopes.{IsFull}
use Rattle.stmt_code.proofs.PartsDo.{IsServed, StatementLaws}
use Rattle.stmt_code.proofs.PartsStand.{coded_has, end_of, marked_has, marked_in, tidy_coded, tidy_marked, tidy_takes, tidy_then, words_have, words_kept_in}
use Rattle.stmt_code.proofs.TurnsDo.{one_before}

-- ---- words that are put on the operand stack one by one

pub words_stand : (i : Sections) (d from to : ℕ) (ws : List ℤ) → Between i from to (words_pushed d ws) → ArePushed i from ws × (to ≡ from + length ws)
unfolding nothing
words_stand i d from to [] h = (tt, (let e = h.ends in omega (arith, e)))
words_stand i d from to (w ∷ ws) h =
    let first = one_before i from to d (op.Push w) (words_pushed (d + 1) ws) h in
    let rest = words_stand i (d + 1) (suc from) to ws first.rest_ in
    let end = rest.1 in
    ((first.there, rest.0), omega (arith, end))

pub words_lead : (S : Suiting) (d : ℕ) (ws : List ℤ) → Leads S d (d + length ws) (words_pushed d ws)
words_lead S d [] = subst (λ n. Leads S d n nothing) (let e : d ≡ d + 0 = omega arith in e) (fits_none {Unfit = d ≡ d} S d d).leads
words_lead S d (w ∷ ws) =
    subst (λ n. Leads S d n (one d (op.Push w) ▸ words_pushed (d + 1) ws)) (let e : (d + 1) + length ws ≡ d + suc (length ws) = omega arith in e)
    (leads_then S d (d + 1) ((d + 1) + length ws) (one d (op.Push w)) (words_pushed (d + 1) ws) (leads_one S d (d + 1) (op.Push w) (λ e. pushes S d w))
    (words_lead S (d + 1) ws))

pub framed_is : (n : ℕ) (a : Piece) → n ≤ FRAME_WORDS → within_frame n a ≡ a
framed_is n a le = ap (λ b. cond b a (one n op.Return)) (le_true n FRAME_WORDS le)
  where
    le_true : (m k : ℕ) → m ≤ k → nat_le m k ≡ true
    le_true m k h = search rules

-- what a frame has no room for stands nowhere
too_deep : (i : Sections) (n from to : ℕ) → Between i from to (one n op.Return) → n ≤ FRAME_WORDS
unfolding one
too_deep i n from to h = let same = narrow_frame n h.there.1.0 in let low = h.there.1.0 in subst (λ k. k ≤ FRAME_WORDS) same low

pub within_stands : (i : Sections) (n from to : ℕ) (a : Piece) → Between i from to (within_frame n a) → (n ≤ FRAME_WORDS) × Between i from to a
within_stands i n from to a h = by_test (nat_le n FRAME_WORDS) refl h
  where
    le_of : (m k : ℕ) → nat_le m k ≡ true → m ≤ k
    le_of m k e = search rules

    lt_of : (m k : ℕ) → nat_le m k ≡ false → k < m
    lt_of m k e = search rules

    by_test : (b : Bool) → nat_le n FRAME_WORDS ≡ b → Between i from to (cond b a (one n op.Return)) → (n ≤ FRAME_WORDS) × Between i from to a
    by_test true is h = (le_of n FRAME_WORDS is, h)
    by_test false is h = absurd (let more = lt_of n FRAME_WORDS is in let few = too_deep i n from to h in omega (arith, more, few))

module _ (laws : StatementLaws) (c : Site) (full : IsFull c) (d : ObjectTree) (t : Subtype) (legal : local_object_faults c.visible.scope d ≡ [])
    (named : subtype_of c.visible.scope d.subtype ≡ Some t) where
  abbrev v : Visible
  v = c.visible

  abbrev offset : ℕ
  offset = narrow c.taken

  abbrev size : ℕ
  size = words_in v.scope t

  t_known : IsKnown v.scope t
  t_known = known v offset d t full.sound full.entries legal named

  -- the subprogram has its words
  abbrev Holding : Suiting
  Holding i u = Suits v i u × (offset + size ≤ u.locals)

  -- ---- what it is

  -- what is known where it stands
  pub record IsBeing (i : Sections) (program : Program) (g : Package) (numbers : Numbers) (f : Framed) : Type 0 where
    pub served : IsServed program g numbers f c
    pub offset_is : offset ≡ c.taken
    pub size_is : size ≡ words_of v.scope t
    pub room : c.taken + words_of v.scope t ≤ f.room

  abbrev IsObject : Piece → Type 0
  IsObject a =
      (i : Sections) (program : Program) (g : Package) (numbers : Numbers) (f : Framed) → IsBeing i program g numbers f → (from to : ℕ) → Between i from to a
      → IsDeclared i program g numbers f from to (seeing f (later v offset d t full.sound full.entries legal named)) (LocalObject d)

  -- what is promised of its code
  pub record ObjectWorks (a : Piece) : Type 0 where
    pub is : size ≡ words_of v.scope t → IsObject a
    pub leads : 1 ≤ size → size ≡ words_of v.scope t → Leads Holding 0 0 a

  store_word : (n : ℕ) → 1 ≤ size → n ≡ offset → Leads Holding 1 0 (one 1 (op.StoreLocal n))
  store_word n some same = leads_one Holding 1 0 (op.StoreLocal n) (λ e. record {
    operands = refl;
    names = λ i u suits. less_true n u.locals (let room = suits.1 in omega (arith, room, same, some));
    takes = λ i u suits. omega arith;
    leaves = λ i u suits. omega arith;
    stays = refl;
    is_none = refl;
  })

  -- ---- of one word, with a value

  module _ (passable : is_passable v.scope t ≡ true) where
    single : words_of v.scope t ≡ 1
    single = passable_word v.scope t passable

    taken_so : is_taken v.scope t ≡ true
    taken_so = ap (λ b. b || is_composite (form_at v.scope t.type_number)) passable

    valued_works : (e : ExprTree) → d.value ≡ Some e → IsFit v.scope t e → ObjectWorks (checked_code v 0 t e (expr_code v 0 e) ▸ one 1 (op.StoreLocal offset))
    valued_works e valued fit =
        let x = checked_code v 0 t e (expr_code v 0 e) in
        let w = checked_works laws.expressions v full.sound full.has.expressions 0 t e fit taken_so in
        record {
          is = λ same i program g numbers f k from to h.
              let names = k.served.names in
              let both = both_stand i from to x (one 1 (op.StoreLocal offset)) h in
              let it = one_stands i both.mid to 1 (op.StoreLocal offset) both.second in
              let serves = k.served.serves in
              let after_this = seeing f (later v offset d t full.sound full.entries legal named) in
              subst (λ n. IsDeclared i program g numbers f from n after_this (LocalObject d)) (sym it.ends)
              (declares_value laws.kept laws.expressions.words laws.expressions.quiet i program g numbers laws.calls f after_this d e
              (role v offset d t full.sound full.entries legal named) t
              (slot v offset d t full.sound full.entries legal named) valued
              (subtype_there v offset d t full.sound full.entries legal named laws.kept laws.shaped laws.stay program g numbers f c.taken names serves k.offset_is k.room)
              serves.laid
              (widens v offset d t full.sound full.entries legal named laws.kept laws.shaped laws.stay program g numbers f c.taken names serves k.offset_is k.room)
              (spares v offset d t full.sound full.entries legal named laws.kept laws.shaped laws.stay program g numbers f c.taken names serves k.offset_is k.room)
              refl
              (subst (λ y. IsTypedAs y t e) (sym names) (record { known = t_known; typed = shaped laws.expressions.typed v t e fit })) from both.mid
              (ap (λ y. words_of y.scope t) names ∙ single) both.up
              (subst (λ y. ComputesChecked i (library_of g) (Sees g y) from both.mid t e) (sym names) (w.computes i from both.mid both.first g))
              (1, it.there));
          leads = λ some same.
              leads_then Holding 0 1 0 x (one 1 (op.StoreLocal offset))
              (record {
                leads = λ i u from to h suits deep high ends.
                    w.fits.leads.leads i u from to h suits.0 deep (subst (λ n. 0 + n ≤ u.stack) (sym single) high)
                    (subst (λ n. has_depth i to (0 + n) ≡ true) (sym single) ends);
              })
              (store_word offset some refl);
        }

    -- without one
    initial_works : (w : ℤ) → first_word (form_at v.scope t.type_number) t ≡ Some w → d.value ≡ None
        → ObjectWorks (one 0 (op.Push w) ▸ one 1 (op.StoreLocal offset))
    initial_works w first valued = record {
      is = λ same i program g numbers f k from to h.
          let names = k.served.names in
          let serves = k.served.serves in
          let push = one_before i from to 0 (op.Push w) (one 1 (op.StoreLocal offset)) h in
          let it = one_stands i (suc from) to 1 (op.StoreLocal offset) push.rest_ in
          let after_this = seeing f (later v offset d t full.sound full.entries legal named) in
          let form = form_there (form_at v.scope t.type_number) t w first in
          let in_program : form_at program.scope t.type_number ≡ Some form.0 =
          ap (λ z. form_at z t.type_number) (sym serves.here)
          ∙ serves.agrees.forms t.type_number form.0 (ap (λ z. form_at z.scope t.type_number) names ∙ form.1) in
          let word = initial_word program.scope t w (ap (λ o. first_word o t) (in_program ∙ sym form.1) ∙ first) in
          subst (λ n. IsDeclared i program g numbers f from n after_this (LocalObject d)) (sym it.ends)
          (declares_initial laws.kept laws.expressions.words laws.expressions.quiet i program g numbers laws.shaped f after_this d
          (role v offset d t full.sound full.entries legal named) t
          (slot v offset d t full.sound full.entries legal named) w from valued
          (subtype_there v offset d t full.sound full.entries legal named laws.kept laws.shaped laws.stay program g numbers f c.taken names serves k.offset_is k.room)
          serves.laid
          (widens v offset d t full.sound full.entries legal named laws.kept laws.shaped laws.stay program g numbers f c.taken names serves k.offset_is k.room)
          (spares v offset d t full.sound full.entries legal named laws.kept laws.shaped laws.stay program g numbers f c.taken names serves k.offset_is k.room)
          refl (ap (λ y. words_of y.scope t) names ∙ single) (subst (λ y. IsKnown y.scope t) (sym names) t_known) word.words push.there (1, it.there));
      leads = λ some same.
          leads_then Holding 0 1 0 (one 0 (op.Push w)) (one 1 (op.StoreLocal offset)) (leads_one Holding 0 1 (op.Push w) (λ e. pushes Holding 0 w))
          (store_word offset some refl);
    }

    word_works : (w : ℤ) → first_word (form_at v.scope t.type_number) t ≡ Some w → (o : Option ExprTree) → d.value ≡ o → FitsIfAny v.scope t o
        → ObjectWorks (first_value v t o ▸ one 1 (op.StoreLocal offset))
    word_works w first (Some e) is fit = valued_works e is fit
    word_works w first None is fit =
        subst (λ o. ObjectWorks (word_pushed o ▸ one 1 (op.StoreLocal offset))) (sym first) (initial_works w first is)

  -- ---- of several

  module _ (composite : is_composite (form_at v.scope t.type_number) ≡ true) where
    taken_whole : is_taken v.scope t ≡ true
    taken_whole = by_passable (is_passable v.scope t)
      where
        by_passable : (b : Bool) → (b || is_composite (form_at v.scope t.type_number)) ≡ true
        by_passable true = refl
        by_passable false = composite

    abbrev store : Piece
    store = one (1 + size) (op.StoreBlock regions.Locals size)

    store_leads : Leads Holding (1 + size) 0 store
    store_leads = leads_one Holding (1 + size) 0 (op.StoreBlock regions.Locals size)
        (λ e. store_changes Holding regions.Locals size (op.StoreBlock regions.Locals size) (λ i u suits. refl) e (record { is = inr refl }))

    block_valued : (e : ExprTree) → d.value ≡ Some e → IsFit v.scope t e → ObjectWorks (one 0 (op.Push (pos offset)) ▸ fitting_code v 1 t e ▸ store)
    block_valued e valued fit =
        let x = fitting_code v 1 t e in
        let w = fitting_works laws.expressions v full.sound full.has.expressions 1 t e fit taken_whole in
        record {
          is = λ same i program g numbers f k from to h.
              let names = k.served.names in
              let serves = k.served.serves in
              let push = one_before i from to 0 (op.Push (pos offset)) (x ▸ store) h in
              let both = both_stand i (suc from) to x store push.rest_ in
              let it = one_stands i both.mid to (1 + size) (op.StoreBlock regions.Locals size) both.second in
              let after_this = seeing f (later v offset d t full.sound full.entries legal named) in
              subst (λ n. IsDeclared i program g numbers f from n after_this (LocalObject d)) (sym it.ends)
              (declares_block laws.kept laws.expressions.words laws.expressions.quiet i program g numbers laws.calls f after_this d e
              (role v offset d t full.sound full.entries legal named) t
              (slot v offset d t full.sound full.entries legal named) valued
              (subtype_there v offset d t full.sound full.entries legal named laws.kept laws.shaped laws.stay program g numbers f c.taken names serves k.offset_is k.room)
              serves.laid
              (widens v offset d t full.sound full.entries legal named laws.kept laws.shaped laws.stay program g numbers f c.taken names serves k.offset_is k.room)
              (spares v offset d t full.sound full.entries legal named laws.kept laws.shaped laws.stay program g numbers f c.taken names serves k.offset_is k.room)
              refl
              (subst (λ y. IsTypedAs y t e) (sym names) (record { known = t_known; typed = shaped laws.expressions.typed v t e fit })) from both.mid
              both.up push.there
              (subst (λ y. ComputesChecked i (library_of g) (Sees g y) (suc from) both.mid t e) (sym names) (w.computes i (suc from) both.mid both.first g))
              (subst (λ n. At i both.mid (op.StoreBlock regions.Locals n)) (same ∙ ap (λ y. words_of y.scope t) (sym names)) (1 + size, it.there)));
          leads = λ some same.
              leads_then Holding 0 1 0 (one 0 (op.Push (pos offset))) (x ▸ store)
              (leads_one Holding 0 1 (op.Push (pos offset)) (λ e. pushes Holding 0 (pos offset)))
              (leads_then Holding 1 (1 + size) 0 x store
              (record { leads = λ i u from to h suits deep high ends. w.keeps.leads.leads i u from to h suits.0 deep high ends }) store_leads);
        }

    abbrev first_ones : List ℤ
    first_ones = first_words (suc t.type_number) v.scope t

    -- they are the words of its initial value
    ones_are : first_ones ≡ value_words (initial v.scope t)
    ones_are = words_first v.scope full.sound (suc t.type_number) t (omega arith) t_known

    many : length (value_words (initial v.scope t)) ≡ words_of v.scope t
    many = (laws.expressions.words (shape_of v.scope t) (initial v.scope t) (laws.shaped (shape_of v.scope t))).sized

    abbrev words_put : Piece
    words_put = words_pushed 1 first_ones

    block_initial : d.value ≡ None → ObjectWorks (one 0 (op.Push (pos offset)) ▸ words_put ▸ store)
    block_initial valued = record {
      is = λ same i program g numbers f k from to h.
          let names = k.served.names in
          let serves = k.served.serves in
          let push = one_before i from to 0 (op.Push (pos offset)) (words_put ▸ store) h in
          let both = both_stand i (suc from) to words_put store push.rest_ in
          let put = words_stand i 1 (suc from) both.mid first_ones both.first in
          let it = one_stands i both.mid to (1 + size) (op.StoreBlock regions.Locals size) both.second in
          let after_this = seeing f (later v offset d t full.sound full.entries legal named) in
          let seen : Agrees v.scope serves.place = subst (λ z. Agrees z.scope serves.place) names serves.agrees in
          let shape : shape_of v.scope t ≡ shape_of program.scope t =
          sym (ap (λ z. shape_of z t) (sym serves.here) ∙ shape_there v.scope serves.place seen t t_known) in
          let there : first_ones ≡ value_words (initial program.scope t) = ones_are ∙ ap (λ y. value_words (initial_of y)) shape in
          subst (λ n. IsDeclared i program g numbers f from n after_this (LocalObject d)) (sym it.ends)
          (declares_initial_words laws.kept laws.expressions.words laws.expressions.quiet i program g numbers laws.shaped f after_this d
          (role v offset d t full.sound full.entries legal named) t
          (slot v offset d t full.sound full.entries legal named) from both.mid valued
          (subtype_there v offset d t full.sound full.entries legal named laws.kept laws.shaped laws.stay program g numbers f c.taken names serves k.offset_is k.room)
          serves.laid
          (widens v offset d t full.sound full.entries legal named laws.kept laws.shaped laws.stay program g numbers f c.taken names serves k.offset_is k.room)
          (spares v offset d t full.sound full.entries legal named laws.kept laws.shaped laws.stay program g numbers f c.taken names serves k.offset_is k.room)
          refl (subst (λ y. IsKnown y.scope t) (sym names) t_known) both.up push.there (subst (ArePushed i (suc from)) there put.0)
          (put.1 ∙ ap (λ l. suc from + length l) there)
          (subst (λ n. At i both.mid (op.StoreBlock regions.Locals n)) (same ∙ ap (λ y. words_of y.scope t) (sym names)) (1 + size, it.there)));
      leads = λ some same.
          let long : length first_ones ≡ size = ap length ones_are ∙ many ∙ sym same in
          leads_then Holding 0 1 0 (one 0 (op.Push (pos offset))) (words_put ▸ store)
          (leads_one Holding 0 1 (op.Push (pos offset)) (λ e. pushes Holding 0 (pos offset)))
          (leads_then Holding 1 (1 + size) 0 words_put store (subst (λ n. Leads Holding 1 (1 + n) words_put) long (words_lead Holding 1 first_ones)) store_leads);
    }

    -- its words without a value, where a frame has room for them
    block_framed : d.value ≡ None → ObjectWorks (block_code v offset t None)
    block_framed valued =
        let whole = one 0 (op.Push (pos offset)) ▸ words_put ▸ store in
        let w = block_initial valued in
        record {
          is = λ same i program g numbers f k from to h. w.is same i program g numbers f k from to (within_stands i (1 + size) from to whole h).1;
          leads = λ some same. record {
            leads = λ i u from to h suits deep high ends.
                let within = within_stands i (1 + size) from to whole h in
                (w.leads some same).leads i u from to within.1 suits (subst (λ a. deepest_of (a from) ≤ u.stack) (framed_is (1 + size) whole within.0) deep) high ends;
          };
        }

    block_works : (o : Option ExprTree) → d.value ≡ o → FitsIfAny v.scope t o → ObjectWorks (block_code v offset t o)
    block_works (Some e) is fit = block_valued e is fit
    block_works None is fit = block_framed is

  -- ---- by the form of its type

  pub object_works : ObjectWorks (object_code v offset t d.value)
  object_works = by_form (form_at v.scope t.type_number) refl t_known
    where
      fit : FitsIfAny v.scope t d.value
      fit = initial_fit v.scope d t named legal

      of_word : (form : TypeForm) (w : ℤ) → form_at v.scope t.type_number ≡ Some form → is_passable v.scope t ≡ true → is_composite (Some form) ≡ false
          → first_word (Some form) t ≡ Some w
          → ObjectWorks (object_code v offset t d.value)
      of_word form w is passable plain first =
          subst (λ b. ObjectWorks (cond b (block_code v offset t d.value) (first_value v t d.value ▸ one 1 (op.StoreLocal offset))))
          (sym (ap is_composite is ∙ plain)) (word_works passable w (ap (λ o. first_word o t) is ∙ first) d.value refl fit)

      of_words : (form : TypeForm) → form_at v.scope t.type_number ≡ Some form → is_composite (Some form) ≡ true → ObjectWorks (object_code v offset t d.value)
      of_words form is composite =
          subst (λ b. ObjectWorks (cond b (block_code v offset t d.value) (first_value v t d.value ▸ one 1 (op.StoreLocal offset))))
          (sym (ap is_composite is ∙ composite)) (block_works (ap is_composite is ∙ composite) d.value refl fit)

      by_form : (o : Option TypeForm) → form_at v.scope t.type_number ≡ o → is_some (form_at v.scope t.type_number) ≡ true
          → ObjectWorks (object_code v offset t d.value)
      by_form (Some Integers) is h = of_word Integers t.first is (ap (λ o. has_numbers o || is_booleans o) is) refl refl
      by_form (Some Booleans) is h = of_word Booleans (pos 0) is (ap (λ o. has_numbers o || is_booleans o) is) refl refl
      by_form (Some Times) is h = of_word Times (pos 0) is (ap (λ o. has_numbers o || is_booleans o) is) refl refl
      by_form (Some Spans) is h = of_word Spans (pos 0) is (ap (λ o. has_numbers o || is_booleans o) is) refl refl
      by_form (Some (Arrays index most element)) is h = of_words (Arrays index most element) is refl
      by_form (Some (Records parts)) is h = of_words (Records parts) is refl
      by_form None is h = absurd (let no = sym (ap is_some is) ∙ h in cc)

  -- ---- the declaration

  abbrev code : CodePart
  code = coded (object_code v offset t d.value)

  abbrev whole : CodePart
  whole = takes (c.taken + size) ▹ code

  some : 1 ≤ words_of v.scope t
  some = at_least (words_of v.scope t) (some_words v.scope full.has.full t t_known)
    where
      at_least : (n : ℕ) → nat_eq n 0 ≡ false → 1 ≤ n
      at_least zero h = cc
      at_least (suc n) h = omega arith

  size_there : c.taken + size ≤ FRAME_WORDS → size ≡ words_of v.scope t
  size_there wide = uncapped_words size (words_of v.scope t) refl (omega (arith, wide))

  offset_there : c.taken + size ≤ FRAME_WORDS → offset ≡ c.taken
  offset_there wide = narrow_same c.taken (omega (arith, wide))

  abbrev next : Site
  next = after_local c (LocalObject d)

  next_taken : c.taken + words_in v.scope t ≡ next.taken
  next_taken = ap (λ o. c.taken + words_taken v.scope o) (sym named)

  abbrev place : ℕ
  place = d.name.place

  no_rows : (s : Start) → (marked place whole s).rows ≡ []
  unfolding ◌▹◌ takes coded marked
  no_rows s = refl

  -- the row of its place tells of it
  told : (i : Sections) (program : Program) (g : Package) (numbers : Numbers) (f : Framed) (s : Start) (after : Framed) → IsServed program g numbers f c
      → IsDeclared i program g numbers f s.place (end_of s whole) after (LocalObject d)
      → TellPlaces i program g numbers (marked place whole s).places (local_within (LocalObject d))
  unfolding ◌▹◌ takes coded marked
  told i program g numbers f s after served is =
      (record { place = refl; frame = f; taken = c.taken; serves = served.serves; code = (after, is) }, tt)

  coded_deep : (u : Subprogram) (s : Start) → deepest_of (code s).code ≤ u.stack → deepest_of (object_code v offset t d.value s.place) ≤ u.stack
  unfolding coded
  coded_deep u s h = h

  pub declares_there : DoesDeclare c (LocalObject d) (marked place whole)
  declares_there = record {
    tidy = tidy_marked place whole
        (tidy_then (takes (c.taken + size)) code (tidy_takes (c.taken + size)) (tidy_coded (object_code v offset t d.value)));
    rows = no_rows;
    declares = λ i program g numbers f s to served h.
        let inner = marked_has i f.room s to place whole h in
        let words = words_have i f.room s to (c.taken + size) code (tidy_coded (object_code v offset t d.value)).grows inner in
        let same = size_there words.wide in
        let at = offset_there words.wide in
        let fits = words.fits in
        let room : c.taken + words_of v.scope t ≤ f.room = omega (arith, fits, same) in
        let being : IsBeing i program g numbers f = record { served = served; offset_is = at; size_is = same; room = room } in
        let after_this = seeing f (later v offset d t full.sound full.entries legal named) in
        let is = object_works.is same i program g numbers f being s.place to (coded_has i f.room s to (object_code v offset t d.value) words.rest) in
        record {
          is = is;
          narrows = narrows v offset d t full.sound full.entries legal named laws.kept laws.shaped laws.stay program g numbers f c.taken served.names served.serves
              at room;
          served = record {
            names = refl;
            serves = subst (Serves program g numbers after_this) (let k : c.taken + words_of v.scope t ≡ c.taken + size = omega (arith, same) in k ∙ next_taken)
                (serves_later v offset d t full.sound full.entries legal named laws.kept laws.shaped laws.stay program g numbers f c.taken served.names
                served.serves at room);
            exceptions = served.exceptions;
            named = served.named;
          };
          tells = told i program g numbers f s (seeing f next.visible) served
              (subst (λ n. IsDeclared i program g numbers f s.place n (seeing f next.visible) (LocalObject d)) inner.ends is);
        };
    flows = record {
      flows = λ i u low high s to k suits allows out ends.
          let inner = marked_in i u low high s to place whole k in
          let words = words_kept_in i u low high s to (c.taken + size) code (tidy_coded (object_code v offset t d.value)).grows inner in
          let same = size_there words.wide in
          let at = offset_there words.wide in
          let fits = words.fits in
          let enough = some in
          widened i u s.place to low high s.place to 0 k.down k.up
          ((object_works.leads (omega (arith, enough, same)) same).leads i u s.place to (coded_has i u.locals s to (object_code v offset t d.value) words.rest.part)
          (suits.names, omega (arith, at, fits)) (coded_deep u s words.rest.deep) out ends);
    };
    suits = λ i u s to h suits.
        let inner = marked_has i u.locals s to place whole h in
        let words = words_have i u.locals s to (c.taken + size) code (tidy_coded (object_code v offset t d.value)).grows inner in
        let same = size_there words.wide in
        let at = offset_there words.wide in
        let fits = words.fits in
        let enough = some in
        suits_later v offset d t full.sound full.entries legal named laws.stay i u (omega (arith, at, fits, same, enough)) suits;
  }

pub object_does : StatementLaws → (c : Site) (d : ObjectTree) → IsFull c → local_object_faults c.visible.scope d ≡ []
    → DoesDeclare c (LocalObject d) (local_code c (LocalObject d))
object_does laws c d full legal = by_subtype (subtype_of c.visible.scope d.subtype) refl
  where
    by_subtype : (o : Option Subtype) → subtype_of c.visible.scope d.subtype ≡ o
        → DoesDeclare c (LocalObject d) (marked d.name.place (local_object c.visible c.taken o d.value))
    by_subtype (Some t) named = declares_there laws c full d t legal named
    by_subtype None named = absurd (local_subtype c.visible.scope full.sound d legal named)
