-- What the code of an assignment does where it stands in an image, and that it keeps the rules of images there (RM 5.2).
use Rattle.std.proofs.Common.{◌≡◌, ℕ, suc, ◌+◌, ◌≤◌, [], length, Bool, true, false, cond, ◌&&◌, Option, None, Some, inl, inr, refl, sym, ap, ◌∙◌, subst, arith}
use Rattle.std.specs.Prelude.{if◌then◌else◌, is_some, nat_eq, pos, ◌+ℤ◌, ◌⊎◌}
use Rattle.ada_tree.specs.ExpressionTree as tree
use Rattle.ada_tree.specs.ExpressionTree.{ExprTree, MoreSelectors, NameTree, Named, NoSelectors, SelectorTrees}
use Rattle.ada_tree.specs.StatementTree.{Assignment}
use Rattle.image.specs.Sections.{Sections, writes_object}
use Rattle.image.specs.Rules.{has_operands, is_block, names_things}
use Rattle.image.specs.declared.instruction.Operation.{Operation}
use Rattle.image.specs.declared.instruction.Operation.TheVariants as op
use Rattle.image.specs.declared.instruction.Region.{Region}
use Rattle.image.specs.declared.instruction.Region.TheVariants as regions
use Rattle.image.specs.declared.subprograms.Subprogram.{Subprogram}
use Rattle.types.specs.declared.entity.Role.{Role}
use Rattle.types.specs.declared.entity.Subtype.{Subtype}
use Rattle.types.specs.declared.standing.Standing.{Standing}
use Rattle.types.specs.declared.standing.Standing.TheVariants as standing
use Rattle.types.specs.Entities.{Object}
use Rattle.types.specs.Evaluating.{passed}
use Rattle.types.specs.Evaluations.{Gives}
use Rattle.types.specs.Layouts.{words_of}
use Rattle.types.specs.Scopes.{form_at, number_of}
use Rattle.types.specs.Shapes.{has_shape, shape_of}
use Rattle.types.specs.Standings.{standing_of, stands_first}
use Rattle.types.specs.Values.{Value}
use Rattle.expr_soundness.specs.SoundScopes.{IsKnown}
use Rattle.expr_soundness.proofs.Goods.{object_known}
use Rattle.expr_soundness.specs.meaning.specs.Programs.{Program}
use Rattle.expr_code.specs.Computing.{ComputesChecked}
use Rattle.expr_code.specs.Emitting.{IsFit, is_composite}
use Rattle.expr_code.specs.ExpressionCode.{expr_code, path_code, path_part, whole_of}
use Rattle.expr_code.specs.Going.{IsLegalPath}
use Rattle.expr_code.specs.Locating.{IsPath}
use Rattle.expr_code.specs.Pieces.{Piece, one, over, ◌▸◌}
use Rattle.expr_code.specs.Refusing.{HasUnfitObject, IsUnfit}
use Rattle.expr_code.specs.Seeing.{Package, Sees, Suits, library_of, slot_of}
use Rattle.expr_code.specs.Views.{At}
use Rattle.expr_code.specs.declared.part.PartAt.{PartAt}
use Rattle.expr_code.specs.declared.visible.Slot.{Slot}
use Rattle.expr_code.specs.declared.visible.Visible.{Visible}
use Rattle.expr_code.proofs.Checking.{fit_legal, shaped}
use Rattle.expr_code.proofs.Emissions.{AddressStands, address_fits, address_stands}
use Rattle.expr_code.proofs.Fitting.{composite_passes}
use Rattle.expr_code.proofs.Going.{block_words}
use Rattle.expr_code.proofs.NamesWork.{address_works}
use Rattle.expr_code.proofs.PartWorks.{PathWorks}
use Rattle.expr_code.proofs.StandingPieces.{Between, Leads, both_stand, leads_one, leads_then, one_stands}
use Rattle.part_code.specs.Emitting.{store_operation, stored_at, stored_in}
use Rattle.part_code.specs.Layout.{IsLaidOut, IsVariable, NamesObject}
use Rattle.part_code.specs.Moving.{IsMoved, is_moved, moves, names_composite}
use Rattle.part_code.specs.PartCode.{address_at, fitting_code, move_code, moved_from, moves_code, object_at, object_named, words_in}
use Rattle.part_code.specs.Resting.{Framed}
use Rattle.part_code.specs.Statements.{IsAssigned, Numbers}
use Rattle.part_code.specs.Suiting.{HasPlaceIn, SuitsStatements}
use Rattle.part_code.specs.declared.moving.Moved.{Moved}
use Rattle.part_code.specs.declared.moving.Source.{Source}
use Rattle.part_code.proofs.Assigning.{assigns_word}
use Rattle.part_code.proofs.CoveredObjects.{IsObjectAt, known_taken, slot_held}
use Rattle.part_code.proofs.Declaring.{IsTypedAs}
use Rattle.part_code.proofs.FittingWorks.{FittingWorks, fitting_works}
use Rattle.part_code.proofs.MoveWorks.{MoveWorks, move_works}
use Rattle.part_code.proofs.ObjectNames.{less_true, names_object}
use Rattle.part_code.proofs.Pointing.{PointsTo}
use Rattle.part_code.proofs.StoresAt.{number_is, store_changes, stores_at, writes}
use Rattle.stmt_code.specs.Drafting.{coded}
use Rattle.stmt_code.specs.Emitting.{IsLegalStatement}
use Rattle.stmt_code.specs.SimpleCode.{assigned_code, assignment_code, moved_code, stored_code, target_code, word_code}
use Rattle.stmt_code.specs.StatementCode.{Site}
use Rattle.stmt_code.proofs.AssignedNames.{assigned_first, assigned_known, assigned_object, assigned_path, in_name}
use Rattle.stmt_code.proofs.AssigningParts.{assigns_component, assigns_components}
use Rattle.stmt_code.proofs.BranchesDo.{IsOne}
use Rattle.stmt_code.proofs.MovingParts.{assigns_moved}
use Rattle.stmt_code.proofs.CoveredScopes.{IsFull}
use Rattle.stmt_code.proofs.PartsDo.{Does, StatementLaws, does_coded}
use Rattle.stmt_code.proofs.PartsStand.{coded_goes, coded_has}
use Rattle.stmt_code.proofs.Stored.{assigned_fit, assigned_variable, whole_stands}
use Rattle.stmt_code.proofs.StoredParts.{part_stands}

-- ---- whatever statements may name besides

pub suits_leads : (v : Visible) (x y : ℕ) (a : Piece) → Leads (Suits v) x y a → Leads (SuitsStatements v) x y a
suits_leads v x y a h = record { leads = λ i u from to k suits deep high ends. h.leads i u from to k suits.names deep high ends }

-- ---- words that an image moves or stores are as many as one instruction may

stored_block : (r : Region) (n : ℕ) → has_operands (stored_at r n) ≡ true → is_block n ≡ true
stored_block r n = by_count (nat_eq n 1) refl
  where
    by_count : (b : Bool) → nat_eq n 1 ≡ b → has_operands (cond b (op.StoreIndexed r) (op.StoreBlock r n)) ≡ true → is_block n ≡ true
    by_count true e h = ap is_block (number_is n 1 e)
    by_count false e h = h

over_inner : (i : Sections) (from to more d : ℕ) (jump : ℕ → Operation) (a : Piece) → Between i from to (over more d jump a) → Between i (suc from) to a
unfolding over
over_inner i from to more d jump a h = record { there = h.there.2; ends = (let e = h.ends in omega (arith, e)); low = h.low }

first_true : (a b : Bool) → (a && b) ≡ true → a ≡ true
first_true true b h = refl
first_true false b h = cc

second_true : (a b : Bool) → (a && b) ≡ true → b ≡ true
second_true true b h = h
second_true false b h = cc

from_block : (v : Visible) (to : Moved) (o : Option Source) (all : SelectorTrees) → is_some o ≡ true
    → (i : Sections) (from end : ℕ) → Between i from end (moved_from v to o all) → is_block to.words ≡ true
from_block v to (Some x) all there i from end h =
    let both = both_stand i from end (address_at v 1 x.slot x.whole all) (one 2 (op.Copy to.region x.slot.region to.words)) h in
    (one_stands i both.mid end 2 (op.Copy to.region x.slot.region to.words) both.second).operands
from_block v to None all there i from end h = cc

moved_block : (v : Visible) (to : Moved) (e : ExprTree) → is_moved v e ≡ true → (i : Sections) (from end : ℕ) → Between i from end (move_code v to e)
    → is_block to.words ≡ true
moved_block v to (Named first all) is i from end h = from_block v to _ all is i from end h
moved_block v to (tree.Parenthesized place e) is i from end h = moved_block v to e is i from end h
moved_block v to (tree.Conditional place condition value elsifs last) is i from end h =
    let x = move_code v to value in
    let r = moves_code v to elsifs (move_code v to last) in
    let both = both_stand i from end (expr_code v 1 condition) (over 1 2 op.JumpIfZero x ▸ over 0 0 op.Jump r) h in
    let two = both_stand i both.mid end (over 1 2 op.JumpIfZero x) (over 0 0 op.Jump r) both.second in
    moved_block v to value (first_true (is_moved v value) _ is) i (suc both.mid) two.mid (over_inner i both.mid two.mid 1 2 op.JumpIfZero x two.first)
moved_block v to e is i from end h = absurd cc

-- what is moved to is composite
composite_named : (v : Visible) (w : Standing) (r : Role) (t : Subtype) → w ≡ standing.Part r t → names_composite v.scope w ≡ true
    → is_composite (form_at v.scope t.type_number) ≡ true
composite_named v w r t is h = ap (names_composite v.scope) (sym is) ∙ h

held_slot : (o : Option Slot) → is_some o ≡ true → (x : Slot) × (o ≡ Some x)
held_slot (Some x) h = (x, refl)
held_slot None h = absurd cc

if_first : (b x : Bool) → (if b then x else false) ≡ true → b ≡ true
if_first true x h = refl
if_first false x h = cc

if_then : (b x : Bool) → (if b then x else false) ≡ true → x ≡ true
if_then true x h = h
if_then false x h = cc

module _ (laws : StatementLaws) (c : Site) (name : NameTree) (e : ExprTree) (full : IsFull c) (h : IsLegalStatement c.visible.scope (Assignment name e)) where
  abbrev v : Visible
  v = c.visible

  abbrev S : Sections → Subprogram → Type 0
  S = SuitsStatements v

  abbrev all : SelectorTrees
  all = name.selectors

  -- ---- what is named

  abbrev begun : IsObjectAt (stands_first v.scope (number_of v.scope name.first.name))
  begun = assigned_first v full.sound full.has.expressions name e h

  abbrev r : Role
  r = begun.role

  abbrev t : Subtype
  t = begun.subtype

  held : (x : Slot) × (slot_of v name.first.name ≡ Some x)
  held = held_slot (slot_of v name.first.name)
      (slot_held v full.sound full.has.expressions name.first all (in_name v full.sound full.has.expressions name e h)
      (assigned_object v full.sound full.has.expressions name e h))

  abbrev slot : Slot
  slot = held.0

  abbrev source : Source
  source = record { slot = slot; whole = t }

  path : IsLegalPath v.scope t all
  path = assigned_path v full.sound full.has.expressions name e h r t begun.is

  abbrev at_end : PartAt
  at_end = path_part v.scope (whole_of t) all

  abbrev last : Subtype
  last = at_end.subtype

  abbrev address : Piece
  address = address_at v 0 slot t all

  abbrev Unfit : Type 0
  Unfit = HasUnfitObject v ⊎ IsUnfit v.scope t

  goes : PathWorks Unfit v 0 (whole_of t) at_end all (path_code v 1 (whole_of t) all)
  goes =
      address_works laws.expressions.quiet laws.expressions.typed laws.expressions.spared laws.expressions.lie laws.expressions.words laws.expressions.places v
      full.sound full.has.expressions 0 t all path

  standing_is : standing_of v.scope name.first all ≡ standing.Part r last
  standing_is = part_stands v.scope name e r t begun.is last goes.ends

  variable : IsVariable r
  variable = assigned_variable v.scope name e r last standing_is h

  fit : IsFit v.scope last e
  fit = assigned_fit v.scope name e r last standing_is h

  last_known : IsKnown v.scope last
  last_known = assigned_known v full.sound full.has.expressions name e h r last standing_is

  whole_known : IsKnown v.scope t
  whole_known =
      let named = names_object v.scope name.first.name r t begun.is in
      object_known v.scope r t (full.sound.each named.number (Object r t) named.stands)

  place : HasPlaceIn v slot.region
  place = record { name = name.first.name; slot = slot; there = held.1; region = refl }

  address_leads : Leads S 0 1 address
  address_leads = suits_leads v 0 1 address (address_fits Unfit v 0 slot.offset t all at_end (path_code v 1 (whole_of t) all) goes).leads

  in_address : (i : Sections) (from to : ℕ) → Between i from to address → AddressStands i v from to slot.offset t at_end all
  in_address i from to k = address_stands Unfit v 0 slot.offset t all at_end (path_code v 1 (whole_of t) all) goes i from to k

  -- what is known of it where the names are visible
  record IsThere (i : Sections) (g : Package) (from low : ℕ) (y : Visible) : Type 0 where
    pub named : NamesObject y.scope name.first.name r t
    pub there : slot_of y name.first.name ≡ Some slot
    pub known : IsKnown y.scope t
    pub typed : IsTypedAs y last e
    pub path : IsPath i (library_of g) (Sees g y) (suc from) low at_end.shift t (shape_of y.scope t) all last (shape_of y.scope last)

  is_there : (i : Sections) (g : Package) (from low : ℕ) (y : Visible) → y ≡ v → AddressStands i v from low slot.offset t at_end all
      → IsThere i g from low y
  is_there i g from low y same at = subst (IsThere i g from low) (sym same) (record {
    named = names_object v.scope name.first.name r t begun.is;
    there = held.1;
    known = whole_known;
    typed = record { known = last_known; typed = shaped laws.expressions.typed v last e fit };
    path = at.goes g;
  })

  -- it does as the statement
  abbrev IsIt : Piece → Type 0
  IsIt a =
      (i : Sections) (program : Program) (g : Package) (numbers : Numbers) (f : Framed) → f.names ≡ v → IsLaidOut g f → (from to : ℕ) → Between i from to a
      → IsAssigned i program g numbers f from to name e

  assigns : (a : Piece) → Leads S 0 0 a → IsIt a → Does (IsOne c (Assignment name e)) c [] (coded a)
  assigns a leads it =
      does_coded (IsOne c (Assignment name e)) c a leads
      (λ i program g numbers f r s to served k. (
        it i program g numbers f served.names served.serves.laid s.place to (coded_has i f.room s to a k.part),
        coded_goes i r f.room s to a k,
      ))

  -- ---- its value, and what stores it at its address

  abbrev size : ℕ
  size = words_in v.scope last

  abbrev value : Piece
  value = fitting_code v 1 last e

  abbrev store : Operation
  store = stored_at slot.region size

  worked : FittingWorks laws.expressions v full.sound full.has.expressions 1 last e fit
  worked = fitting_works laws.expressions v full.sound full.has.expressions 1 last e fit (known_taken v.scope last last_known)

  stored_leads : Leads S 0 0 (stored_code v source all e)
  stored_leads =
      leads_then S 0 1 0 address (value ▸ one (1 + size) store) address_leads
      (leads_then S 1 (1 + size) 0 value (one (1 + size) store) (suits_leads v 1 (1 + size) value worked.keeps.leads)
      (leads_one S (1 + size) 0 store
      (λ k. store_changes S slot.region size store (λ i u suits. writes v i u slot.region suits place) (stored_block slot.region size k)
      (stores_at slot.region size))))

  stored_is : IsIt (stored_code v source all e)
  stored_is i program g numbers f names laid from to k =
      let front = both_stand i from to address (value ▸ one (1 + size) store) k in
      let back = both_stand i front.mid to value (one (1 + size) store) front.second in
      let it = one_stands i back.mid to (1 + size) store back.second in
      let at = in_address i from front.mid front.first in
      let y = is_there i g from front.mid f.names names at in
      let many : words_of f.names.scope last ≡ size = ap (λ z. words_of z.scope last) names ∙ worked.words i front.mid back.mid back.first in
      let computes : ComputesChecked i (library_of g) (Sees g f.names) front.mid back.mid last e =
      subst (λ z. ComputesChecked i (library_of g) (Sees g z) front.mid back.mid last e) (sym names) (worked.computes i front.mid back.mid back.first g) in
      subst (λ n. IsAssigned i program g numbers f from n name e) (sym it.ends)
      (by_count i program g numbers f laid from front.mid back.mid y at.push at.up back.up many computes (1 + size, it.there) (stores_at slot.region size).is)
    where
      by_count : (i : Sections) (program : Program) (g : Package) (numbers : Numbers) (f : Framed) → IsLaidOut g f → (from low mid : ℕ)
          → IsThere i g from low f.names → At i from (op.Push (pos slot.offset +ℤ at_end.shift)) → suc from ≤ low → low ≤ mid
          → words_of f.names.scope last ≡ size → ComputesChecked i (library_of g) (Sees g f.names) low mid last e → At i mid store
          → ((size ≡ 1) × (op.StoreIndexed slot.region ≡ store)) ⊎ (op.StoreBlock slot.region size ≡ store)
          → IsAssigned i program g numbers f from (suc mid) name e
      by_count i program g numbers f laid from low mid y push le up many computes here (inl s) =
          assigns_component laws.kept laws.expressions.words laws.calls laws.expressions.quiet i program g numbers f name e r t last slot laid y.named variable
          y.there y.known y.typed from low (shape_of f.names.scope last) refl at_end.shift goes.near y.path mid le up push computes (many ∙ s.0)
          (subst (At i mid) (sym s.1) here)
      by_count i program g numbers f laid from low mid y push le up many computes here (inr s) =
          assigns_components laws.kept laws.expressions.words laws.calls laws.expressions.quiet i program g numbers f name e r t last slot laid y.named variable
          y.there y.known y.typed from low (shape_of f.names.scope last) refl at_end.shift goes.near y.path mid le up push computes
          (subst (λ n. At i mid (op.StoreBlock slot.region n)) (sym many) (subst (At i mid) (sym s) here))

  stored_does : Does (IsOne c (Assignment name e)) c [] (coded (stored_code v source all e))
  stored_does = assigns (stored_code v source all e) stored_leads stored_is

  -- ---- of a whole object of one word

  module _ (whole_name : name.selectors ≡ NoSelectors) (one_word : words_in v.scope t ≡ 1) where
    abbrev whole_stands_there : standing_of v.scope name.first name.selectors ≡ standing.Part r t
    whole_stands_there = whole_stands v.scope name r t whole_name begun.is

    whole_fit : IsFit v.scope t e
    whole_fit = assigned_fit v.scope name e r t whole_stands_there h

    word_worked : FittingWorks laws.expressions v full.sound full.has.expressions 0 t e whole_fit
    word_worked = fitting_works laws.expressions v full.sound full.has.expressions 0 t e whole_fit (known_taken v.scope t whole_known)

    -- what it names is there, and may be written
    store_names : (x : Region) → slot.region ≡ x → (i : Sections) (u : Subprogram) → S i u → names_things i u (stored_in x slot.offset) ≡ true
    store_names regions.Locals is i u suits = less_true slot.offset u.locals (suits.names.locals name.first.name slot held.1 is)
    store_names regions.Plain is i u suits = less_true slot.offset (length i.plain_words) (suits.names.plain name.first.name slot held.1 is)
    store_names regions.Object is i u suits =
        ap (λ b. b && writes_object u.kind) (suits.names.object name.first.name slot held.1 is)
        ∙ writes v i u regions.Object suits (record { name = name.first.name; slot = slot; there = held.1; region = is })

    stores_by : (x : Region) → slot.region ≡ x → Leads S 1 0 (one 1 (stored_in x slot.offset))
    stores_by regions.Locals is = leads_one S 1 0 (op.StoreLocal slot.offset) (λ k. record {
      operands = refl;
      names = store_names regions.Locals is;
      takes = λ i u suits. omega arith;
      leaves = λ i u suits. omega arith;
      stays = refl;
      is_none = refl;
    })
    stores_by regions.Plain is = leads_one S 1 0 (op.StorePlain slot.offset) (λ k. record {
      operands = refl;
      names = store_names regions.Plain is;
      takes = λ i u suits. omega arith;
      leaves = λ i u suits. omega arith;
      stays = refl;
      is_none = refl;
    })
    stores_by regions.Object is = leads_one S 1 0 (op.StoreObject slot.offset) (λ k. record {
      operands = refl;
      names = store_names regions.Object is;
      takes = λ i u suits. omega arith;
      leaves = λ i u suits. omega arith;
      stays = refl;
      is_none = refl;
    })

    word_leads : Leads S 0 0 (word_code v source e)
    word_leads =
        leads_then S 0 1 0 (fitting_code v 0 t e) (one 1 (store_operation slot))
        (suits_leads v 0 1 (fitting_code v 0 t e) (subst (λ n. Leads (Suits v) 0 n (fitting_code v 0 t e)) (let k : 0 + words_in v.scope t ≡ 1 = omega (arith, one_word) in k) word_worked.keeps.leads))
        (stores_by slot.region refl)

    word_is : IsIt (word_code v source e)
    word_is i program g numbers f names laid from to k =
        let x = fitting_code v 0 t e in
        let both = both_stand i from to x (one 1 (store_operation slot)) k in
        let it = one_stands i both.mid to 1 (store_operation slot) both.second in
        let single : words_of f.names.scope t ≡ 1 =
        ap (λ z. words_of z.scope t) names ∙ word_worked.words i from both.mid both.first ∙ one_word in
        let typed : IsTypedAs v t e = record { known = whole_known; typed = shaped laws.expressions.typed v t e whole_fit } in
        subst (λ n. IsAssigned i program g numbers f from n name e) (sym it.ends)
        (assigns_word laws.kept laws.expressions.words laws.calls laws.expressions.quiet i program g numbers f name e r t slot whole_name laid
        (subst (λ z. NamesObject z.scope name.first.name r t) (sym names) (names_object v.scope name.first.name r t begun.is)) variable
        (ap (λ z. slot_of z name.first.name) names ∙ held.1) (subst (λ z. IsTypedAs z t e) (sym names) typed) from both.mid single both.up
        (subst (λ z. ComputesChecked i (library_of g) (Sees g z) from both.mid t e) (sym names) (word_worked.computes i from both.mid both.first g))
        (1, it.there))

    word_does : Does (IsOne c (Assignment name e)) c [] (coded (word_code v source e))
    word_does = assigns (word_code v source e) word_leads word_is

  -- ---- of an array or a record that is named

  module _ (composite : is_composite (form_at v.scope last.type_number) ≡ true) (moved : is_moved v e ≡ true) where
    abbrev to_it : Moved
    to_it = record { region = slot.region; words = size }

    abbrev move : Piece
    move = move_code v to_it e

    moving : (i : Sections) (from to : ℕ) → Between i from to move → MoveWorks v to_it e move
    moving i from to k =
        move_works laws.expressions v full.sound full.has.expressions to_it (moved_block v to_it e moved i from to k) place e (fit_legal v.scope last e fit) moved

    moved_leads : Leads S 0 0 (moved_code v source all e)
    moved_leads =
        leads_then S 0 1 0 address move address_leads
        (record { leads = λ i u from to k suits deep high ends. (moving i from to k).keeps.leads.leads i u from to k suits deep high ends })

    moved_is : IsIt (moved_code v source all e)
    moved_is i program g numbers f names laid from to k =
        let two = both_stand i from to address move k in
        let at = in_address i from two.mid two.first in
        let y = is_there i g from two.mid f.names names at in
        let block = moved_block v to_it e moved i two.mid to two.second in
        let many : size ≡ words_of v.scope last = sym (block_words size (words_of v.scope last) refl block) in
        let it : IsMoved i g v slot.region (words_of v.scope last) two.mid to e =
        subst (λ n. IsMoved i g v slot.region n two.mid to e) many ((moving i two.mid to two.second).moves i two.mid to two.second g) in
        let passes : (u : Value) → has_shape (shape_of f.names.scope last) u ≡ true → passed last u ≡ Gives u =
        subst (λ z. (u : Value) → has_shape (shape_of z.scope last) u ≡ true → passed last u ≡ Gives u) (sym names)
        (composite_passes v.scope full.sound last composite) in
        let way : PointsTo i g f.names name.first all last from two.mid = record {
          slot = slot;
          there = y.there;
          role = r;
          whole = t;
          named = y.named;
          variable = variable;
          up = at.up;
          shift = at_end.shift;
          near = goes.near;
          push = at.push;
          end = shape_of f.names.scope last;
          ends = refl;
          path = y.path;
        } in
        assigns_moved laws.kept laws.expressions.words laws.expressions.places laws.calls laws.expressions.quiet i program g numbers f name e last laid y.typed
        from two.mid to way passes two.on_ (subst (λ z. IsMoved i g z slot.region (words_of z.scope last) two.mid to e) (sym names) it)

    moved_does : Does (IsOne c (Assignment name e)) c [] (coded (moved_code v source all e))
    moved_does = assigns (moved_code v source all e) moved_leads moved_is

  -- ---- whatever it is

  parts_do : (some : SelectorTrees) → all ≡ some → Does (IsOne c (Assignment name e)) c [] (coded (assigned_code v source some e))
  parts_do NoSelectors is = by_count (nat_eq (words_in v.scope t) 1) refl
    where
      by_count : (b : Bool) → nat_eq (words_in v.scope t) 1 ≡ b
          → Does (IsOne c (Assignment name e)) c [] (coded (cond b (word_code v source e) (stored_code v source NoSelectors e)))
      by_count true single = word_does is (number_is (words_in v.scope t) 1 single)
      by_count false several = subst (λ a. Does (IsOne c (Assignment name e)) c [] (coded (stored_code v source a e))) is stored_does
  parts_do (MoreSelectors x rest) is = subst (λ a. Does (IsOne c (Assignment name e)) c [] (coded (stored_code v source a e))) is stored_does

  object_there : object_named v name.first ≡ Some source
  object_there = λ j. object_at (begun.is j) (held.1 j)

  composite_there : moves v name e ≡ true → is_composite (form_at v.scope last.type_number) ≡ true
  composite_there is =
      composite_named v (standing_of v.scope name.first all) r last standing_is
      (first_true (names_composite v.scope (standing_of v.scope name.first all)) (is_some (slot_of v name.first.name))
      (second_true (names_composite v.scope (stands_first v.scope (number_of v.scope name.first.name))) _ (if_first _ (is_moved v e) is)))

  pub does_assignment : Does (IsOne c (Assignment name e)) c [] (coded (assignment_code v name e))
  does_assignment =
      subst (λ o. Does (IsOne c (Assignment name e)) c [] (coded (target_code v o (moves v name e) all e))) (sym object_there) (by_moves (moves v name e) refl)
    where
      by_moves : (b : Bool) → moves v name e ≡ b → Does (IsOne c (Assignment name e)) c [] (coded (target_code v (Some source) b all e))
      by_moves true is = moved_does (composite_there is) (if_then _ (is_moved v e) is)
      by_moves false is = parts_do all refl
