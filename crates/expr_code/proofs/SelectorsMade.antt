-- What methods add for what follows a name is the code of it.
use Rattle.std.proofs.Common.{◌≡◌, ◌<◌, ◌≤◌, ℕ, ℤ, ◌+◌, List, [], ◌∷◌, length, drop, refl, sym, ap, ◌∙◌, Some, None, arith}
use Rattle.std.specs.Prelude.{Option, get_or, max, nat_lt, pos, ◌+ℤ◌}
use Rattle.base.specs.declared.limits.TheConstants.{WORDS}
use Rattle.ada_tree.specs.declared.expression.Argument.{Argument}
use Rattle.ada_tree.specs.declared.expression.Identifier.{Identifier}
use Rattle.ada_tree.specs.declared.expression.Selector.{Selector}
use Rattle.ada_tree.specs.ExpressionTree.{ArgumentTree, ArgumentTrees, Arguments, MoreArguments, MoreSelectors, Named, NoArguments, SelectorTree, SelectorTrees, argument_tree, argument_trees, selector_tree, selector_trees}
use Rattle.image.specs.declared.instruction.Operation.{Operation}
use Rattle.image.specs.declared.instruction.Operation.TheVariants as op
use Rattle.types.specs.declared.entity.FormalParameter.{FormalParameter}
use Rattle.types.specs.declared.entity.Role.{Role}
use Rattle.types.specs.declared.entity.Subtype.{Subtype}
use Rattle.types.specs.declared.standing.Callee.{Callee}
use Rattle.types.specs.declared.standing.Standing.{Standing}
use Rattle.types.specs.declared.standing.Standing.TheVariants as standing
use Rattle.types.specs.Evaluating.{fixed_value}
use Rattle.types.specs.Layouts.{capped, words_of}
use Rattle.types.specs.Entities.{Arrays}
use Rattle.types.specs.Scopes.{form_at, number_of}
use Rattle.types.specs.Standings.{standing_of, stands_first}
use Rattle.expr_code.specs.ExpressionCode.{NameParts, actual_code, address_code, arguments_code, by_words_code, element_code, expr_code, first_code, less_first_code, misfit_code, name_code, named_code, named_words, part_behind, part_code, parts_of, path_code, path_part, selector_code, stored_code, whole_of}
use Rattle.expr_code.specs.Naming.{loaded_at}
use Rattle.expr_code.specs.Pieces.{Made, Piece, adds, nothing, one, ◌▸◌, patched}
use Rattle.expr_code.specs.declared.part.PartAt.{PartAt}
use Rattle.expr_code.specs.declared.visible.Slot.{Slot}
use Rattle.expr_code.specs.declared.visible.Visible.{Visible}
use Rattle.expr_code.proofs.Going.{drop_at}
use Rattle.expr_code.proofs.Pieces.{adds_nothing, adds_then, drop_end, one_same, replaces, then_made}

-- ---- one of several

pub selectors_at : (all : List Selector) (n : ℕ) (x : Selector) → n < length all → x ≡ get_or all n x
    → selector_trees (drop n all) ≡ MoreSelectors (selector_tree x) (selector_trees (drop (n + 1) all))
selectors_at all n x less is = ap selector_trees (drop_at all n x less is)

pub found_at : (all : List Selector) (n : ℕ) (x : Selector) (t : SelectorTree) → n < length all → x ≡ get_or all n x → selector_tree x ≡ t
    → selector_trees (drop n all) ≡ MoreSelectors t (selector_trees (drop (n + 1) all))
found_at all n x t less is tree = selectors_at all n x less is ∙ ap (λ y. MoreSelectors y (selector_trees (drop (n + 1) all))) tree

pub argument_at : (all : List Argument) (n : ℕ) (x : Argument) (t : ArgumentTree) → n < length all → x ≡ get_or all n x → argument_tree x ≡ t
    → argument_trees (drop n all) ≡ MoreArguments t (argument_trees (drop (n + 1) all))
argument_at all n x t less is tree =
    ap argument_trees (drop_at all n x less is) ∙ ap (λ y. MoreArguments y (argument_trees (drop (n + 1) all))) tree

-- ---- names

pub named_is : (v : Visible) (d : ℕ) (first : Identifier) (all : SelectorTrees) → fixed_value (standing_of v.scope first all) ≡ None
    → expr_code v d (Named first all) ≡ named_code v d first all (parts_of v d all) (stands_first v.scope (number_of v.scope first.name))
named_is v d first all is = ap (name_code v d first all (parts_of v d all)) is

pub named_made : (v : Visible) (d : ℕ) (first : Identifier) (l items : List Selector) (m new : Made) → l ≡ items
    → fixed_value (standing_of v.scope first (selector_trees items)) ≡ None
    → new ≡ adds m (named_code v d first (selector_trees l) (parts_of v d (selector_trees l)) (stands_first v.scope (number_of v.scope first.name)))
    → new ≡ adds m (expr_code v d (Named first (selector_trees items)))
named_made v d first l items m new same is p =
    p ∙ ap (λ k. adds m (named_code v d first (selector_trees k) (parts_of v d (selector_trees k)) (stands_first v.scope (number_of v.scope first.name)))) same
    ∙ ap (adds m) (sym (named_is v d first (selector_trees items) is))

-- what stands for anything else has no code
pub other_named : (v : Visible) (d : ℕ) (first : Identifier) (all : SelectorTrees) (parts : NameParts) (w : Standing)
    → ((r : Role) (t : Subtype) → w ≡ standing.Part r t → ⊥) → ((t : Subtype) → w ≡ standing.Named t → ⊥) → ((f : Callee) → w ≡ standing.Callee f → ⊥)
    → ((n : ℕ) → w ≡ standing.Protected n → ⊥) → (named_words v first all w ≡ 1) × (named_code v d first all parts w ≡ nothing)
other_named v d first all parts (standing.Part r t) a b c e = absurd (a r t refl)
other_named v d first all parts (standing.Named t) a b c e = absurd (b t refl)
other_named v d first all parts (standing.Callee f) a b c e = absurd (c f refl)
other_named v d first all parts (standing.Protected n) a b c e = absurd (e n refl)
other_named v d first all parts w a b c e = (refl, refl)

-- ---- parts of objects

pub address_made : (m p q new : Made) (d more place offset : ℕ) (x z : ℤ) (part : PartAt) (path : ℕ → Piece) → place ≡ length m.code
    → p ≡ adds m (one d (op.Push x)) → more ≡ d + 1 → q ≡ adds p (path more) → z ≡ pos offset +ℤ part.shift → new ≡ patched q place (op.Push z)
    → new ≡ adds m (address_code d offset part (path (d + 1)))
address_made m p q new d more place offset x z part path at push high goes is patch =
    patch ∙ ap (λ y. patched y place (op.Push z)) (goes ∙ ap (λ n. adds p (path n)) high ∙ ap (λ y. adds y (path (d + 1))) push)
    ∙ replaces m d (op.Push x) (op.Push z) (path (d + 1)) place at ∙ ap (λ k. adds m (one d (op.Push k) ▸ path (d + 1))) is

pub stored_part : (v : Visible) (d : ℕ) (all : List Selector) (t : Subtype) (slot : Slot) → 0 < length all
    → stored_code v d (selector_trees all) (parts_of v d (selector_trees all)) t (Some slot)
    ≡ part_code v d slot (path_part v.scope (whole_of t) (selector_trees all)) (path_code v (d + 1) (whole_of t) (selector_trees all))
stored_part v d [] t slot some = absurd (omega (arith, some))
stored_part v d (x ∷ all) t slot some = refl

pub stored_made : (v : Visible) (d : ℕ) (all : List Selector) (t : Subtype) (slot : Slot) (place : Option Slot) (m p new : Made) (more words : ℕ)
    (o : Operation) (last : PartAt) → place ≡ Some slot → 0 < length all → last ≡ path_part v.scope (whole_of t) (selector_trees all)
    → p ≡ adds m (address_code d slot.offset (path_part v.scope (whole_of t) (selector_trees all)) (path_code v (d + 1) (whole_of t) (selector_trees all)))
    → more ≡ d + 1 → words ≡ capped (words_of v.scope last.subtype) → o ≡ loaded_at slot.region words → new ≡ adds p (one more o)
    → new ≡ adds m (stored_code v d (selector_trees all) (parts_of v d (selector_trees all)) t place)
stored_made v d all t slot place m p new more words o last is some part goes high many loads h =
    let whole = path_part v.scope (whole_of t) (selector_trees all) in
    let path = path_code v (d + 1) (whole_of t) (selector_trees all) in
    then_made m p new (address_code d slot.offset whole path) (one (d + 1) (loaded_at slot.region (capped (words_of v.scope whole.subtype)))) goes
    (one_same p new more (d + 1) o _ high (loads ∙ ap (loaded_at slot.region) (many ∙ ap (λ q. capped (words_of v.scope q.subtype)) part)) h)
    ∙ ap (adds m) (sym (stored_part v d all t slot some))
    ∙ ap (λ o. adds m (stored_code v d (selector_trees all) (parts_of v d (selector_trees all)) t o)) (sym is)

module _ (v : Visible) (d : ℕ) (all : List Selector) (n : ℕ) (p next : PartAt) where
  pub path_next : (x : Selector) → n < length all → x ≡ get_or all n x → next ≡ part_behind v.scope p (selector_tree x) → (m new : Made)
      → new ≡ adds m (selector_code v d p (selector_tree x)) → (whole : PartAt) (made : Made)
      → path_part v.scope p (selector_trees (drop n all)) ≡ whole → adds m (path_code v d p (selector_trees (drop n all))) ≡ made
      → (path_part v.scope next (selector_trees (drop (n + 1) all)) ≡ whole) × (adds new (path_code v d next (selector_trees (drop (n + 1) all))) ≡ made)
  path_next x less is part m new added whole made known rest =
      let at = selectors_at all n x less is in
      let behind = selector_trees (drop (n + 1) all) in (
        ap (λ q. path_part v.scope q behind) part ∙ sym (ap (path_part v.scope p) at) ∙ known,
        ap (λ y. adds y (path_code v d next behind)) added
            ∙ ap (λ q. adds (adds m (selector_code v d p (selector_tree x))) (path_code v d q behind)) part
            ∙ adds_then m (selector_code v d p (selector_tree x)) (path_code v d (part_behind v.scope p (selector_tree x)) behind)
            ∙ sym (ap (λ l. adds m (path_code v d p l)) at) ∙ rest,
      )

pub path_end : (v : Visible) (d : ℕ) (all : List Selector) (n : ℕ) (p whole : PartAt) (m made : Made) → length all ≤ n
    → path_part v.scope p (selector_trees (drop n all)) ≡ whole → adds m (path_code v d p (selector_trees (drop n all))) ≡ made → (p ≡ whole) × (m ≡ made)
path_end v d all n p whole m made le known rest =
    let none = ap selector_trees (drop_end all n le) in
    (sym (ap (path_part v.scope p) none) ∙ known, sym (adds_nothing m) ∙ sym (ap (λ l. adds m (path_code v d p l)) none) ∙ rest)

-- ---- actual parameters

pub arguments_step : (v : Visible) (m new whole : Made) (height : ℕ) (formals : List FormalParameter) (all : List Argument) (n : ℕ) (f : FormalParameter)
    (x : Argument) → n < length formals → n < length all → f ≡ get_or formals n f → x ≡ get_or all n x
    → new ≡ adds m (actual_code v height f.subtype (argument_tree x))
    → adds m (arguments_code v height (drop n formals) (argument_trees (drop n all))) ≡ whole
    → adds new (arguments_code v (height + 1) (drop (n + 1) formals) (argument_trees (drop (n + 1) all))) ≡ whole
arguments_step v m new whole height formals all n f x low less f_is x_is p rest =
    ap (λ y. adds y (arguments_code v (height + 1) (drop (n + 1) formals) (argument_trees (drop (n + 1) all)))) p
    ∙ adds_then m (actual_code v height f.subtype (argument_tree x)) (arguments_code v (height + 1) (drop (n + 1) formals) (argument_trees (drop (n + 1) all)))
    ∙ ap (λ l. adds m (arguments_code v height l (argument_trees (x ∷ drop (n + 1) all)))) (sym (drop_at formals n f low f_is))
    ∙ ap (λ l. adds m (arguments_code v height (drop n formals) (argument_trees l))) (sym (drop_at all n x less x_is)) ∙ rest

-- without a formal for it, there is no code
pub arguments_over : (v : Visible) (m whole : Made) (height : ℕ) (formals : List FormalParameter) (all more : List Argument) (n : ℕ) → length formals ≤ n
    → adds m (arguments_code v height (drop n formals) (argument_trees all)) ≡ whole
    → adds m (arguments_code v (height + 1) (drop (n + 1) formals) (argument_trees more)) ≡ whole
arguments_over v m whole height formals all more n le rest =
    ap (λ l. adds m (arguments_code v (height + 1) l (argument_trees more))) (drop_end formals (n + 1) (omega (arith, le)))
    ∙ sym (ap (λ l. adds m (arguments_code v height l (argument_trees all))) (drop_end formals n le)) ∙ rest

pub arguments_end : (v : Visible) (m whole : Made) (height : ℕ) (formals : List FormalParameter) (all : List Argument) (n : ℕ) → length all ≤ n
    → adds m (arguments_code v height (drop n formals) (argument_trees (drop n all))) ≡ whole → m ≡ whole
arguments_end v m whole height formals all n le rest =
    sym (adds_nothing m) ∙ ap (adds m) (sym (none (drop n formals)))
    ∙ ap (λ l. adds m (arguments_code v height (drop n formals) (argument_trees l))) (sym (drop_end all n le)) ∙ rest
  where
    none : (formals : List FormalParameter) → arguments_code v height formals NoArguments ≡ nothing
    none [] = refl
    none (f ∷ formals) = refl

abbrev scaled_code : (depth : ℕ) → (first : ℤ) → (words : ℕ) → (shift : ℤ) → Piece
scaled_code n first words shift = less_first_code n first words shift ▸ by_words_code n words ▸ one n op.Add

pub element_made : (v : Visible) (d : ℕ) (p : PartAt) (a : ArgumentTrees) (index last : Subtype) (many : ℕ) (m x y new : Made) (more told : ℕ)
    (first shift : ℤ) → form_at v.scope p.subtype.type_number ≡ Some (Arrays index many last)
    → told ≡ capped (words_of v.scope last) → first ≡ index.first → shift ≡ p.shift → more ≡ d + 1 → x ≡ adds m (misfit_code (nat_lt WORDS (max many told)) d)
    → y ≡ adds x (first_code v d (Some index) a) → new ≡ adds y (scaled_code more first told shift)
    → new ≡ adds m (selector_code v d p (Arguments a))
element_made v d p a index last many m x y new more told first shift form told_is first_is shift_is high h k l =
    let words = capped (words_of v.scope last) in
    then_made m x new (misfit_code (nat_lt WORDS (max many words)) d) (first_code v d (Some index) a ▸ scaled_code (d + 1) index.first words p.shift)
    (h ∙ ap (λ n. adds m (misfit_code (nat_lt WORDS (max many n)) d)) told_is)
    (then_made x y new (first_code v d (Some index) a) (scaled_code (d + 1) index.first words p.shift) k
    (l ∙ ap (λ n. adds y (scaled_code n first told shift)) high ∙ ap (λ z. adds y (scaled_code (d + 1) z told shift)) first_is
    ∙ ap (λ n. adds y (scaled_code (d + 1) index.first n shift)) told_is ∙ ap (λ z. adds y (scaled_code (d + 1) index.first words z)) shift_is))
    ∙ ap (λ f. adds m (element_code v.scope d p.shift f (λ i. first_code v d (Some i) a))) (sym form)
