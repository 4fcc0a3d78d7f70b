-- What a method that placed formal parameters, gave first values to some and returned others, did to the parameters of a program.
use Rattle.std.proofs.Common.{◌≡◌, ℕ, suc, ◌+◌, ◌<◌, ◌≤◌, ◌⊎◌, ℤ, List, [], ◌∷◌, ◌++◌, length, map, Bool, true, false, ◌||◌, Option, Some, None, inl, inr, refl, sym, ap, ◌∙◌, subst, arith, rules}
use Rattle.std.specs.Prelude.{if◌then◌else◌, nat_eq, pos}
use Rattle.image_laws.specs.kernel.specs.Laws.{QuietStays}
use Rattle.ada_tree.specs.declared.declaration.Formal.{Formal}
use Rattle.ada_tree.specs.declared.declaration.Mode.{Mode}
use Rattle.ada_tree.specs.declared.declaration.Mode.TheVariants as mode
use Rattle.image.specs.Sections.{Sections}
use Rattle.image.specs.declared.instruction.Operation.TheVariants as op
use Rattle.image.specs.declared.instruction.Region.TheVariants as regions
use Rattle.types.specs.declared.entity.Role.{Role}
use Rattle.types.specs.declared.entity.Subtype.{Subtype}
use Rattle.types.specs.Laws.{InitialValuesHaveShape, ValuesHaveWords}
use Rattle.types.specs.Layouts.{words_of}
use Rattle.types.specs.Places.{is_among}
use Rattle.types.specs.Scopes.{Scope, form_at}
use Rattle.types.specs.Shapes.{initial, value_words}
use Rattle.type_rules.specs.SubtypeNames.{subtype_of}
use Rattle.expr_soundness.proofs.Positions.{same_some}
use Rattle.expr_soundness.specs.Laws.{AgreementIsKept}
use Rattle.expr_soundness.specs.SoundScopes.{IsKnown}
use Rattle.declaration_rules.specs.BodyNames.{formal_role}
use Rattle.expr_soundness.specs.meaning.specs.Calls.{is_in, is_out, results}
use Rattle.expr_soundness.specs.meaning.specs.Programs.{Parameter, Program, parameter, subtype_named}
use Rattle.program_soundness.proofs.Formals.{AreNew}
use Rattle.program_soundness.proofs.Listing.{Has}
use Rattle.expr_code.specs.Seeing.{Package, slot_of}
use Rattle.expr_code.specs.Views.{At}
use Rattle.step_simulation.specs.part_code.specs.Emitting.{first_word}
use Rattle.step_simulation.specs.part_code.specs.Formals.{AddsEach, AreInitial, AreReturned, InitialThen, IsLoadingCode, Placed, ReturnedThen, StandInTurn, StandsAt, StoresFirstWord, StoresFirstWords, no_subprogram, parameter_at, returned_more, slot_for, words_returned}
use Rattle.step_simulation.specs.part_code.specs.Layout.{NamesObject}
use Rattle.step_simulation.specs.part_code.specs.Resting.{Framed}
use Rattle.step_simulation.specs.part_code.specs.Statements.{AreParametersDeclared, IsParameterDeclared, Numbers}
use Rattle.step_simulation.specs.part_code.specs.Storing.{ArePushed}
use Rattle.step_simulation.specs.part_code.specs.declared.formals.PlacedFormal.{PlacedFormal}
use Rattle.stmt_code.proofs.DeclaringParameters.{declares_parameter, declares_parameter_block}
use Rattle.stmt_code.proofs.GivingBack.{AreGiven, IsGiven, words_back}
use Rattle.step_simulation.specs.part_code.proofs.Lists.{append_again, append_none}
use Rattle.package_code.proofs.BodyFrames.{BeginsOut, OutsBegin}
use Rattle.package_code.proofs.Building.{outs_of}
use Rattle.package_code.proofs.EmittedFormals.{addresses_of, own_address, placed_in}
use Rattle.package_code.proofs.Reordered.{slot_at}

-- ---- what is visible behind them

pub each_slots : (xs : List Placed) (v w : Framed) → AddsEach v xs w → w.names.slots ≡ v.names.slots ++ map (λ x. Some (slot_at x)) xs
each_slots [] v w h = ap (λ z. z.names.slots) h ∙ sym (append_none v.names.slots)
each_slots (x ∷ xs) v w h =
    each_slots xs h.0 w h.2
    ∙ ap (λ l. l ++ map (λ y. Some (slot_at y)) xs) (h.1.slots ∙ ap (λ y. v.names.slots ++ Some y ∷ []) (λ j. record { region = h.1.region j; offset = h.1.at j }))
    ∙ append_again v.names.slots (Some (slot_at x) ∷ []) (map (λ y. Some (slot_at y)) xs)

abbrev pub no_number : Placed → Option ℕ
no_number x = None

pub each_operations : (xs : List Placed) (v w : Framed) → AddsEach v xs w → w.names.operations ≡ v.names.operations
each_operations [] v w h = ap (λ z. z.names.operations) h
each_operations (x ∷ xs) v w h = each_operations xs h.0 w h.2 ∙ h.1.operations

pub each_subprograms : (xs : List Placed) (v w : Framed) → AddsEach v xs w → w.names.subprograms ≡ v.names.subprograms ++ map no_number xs
each_subprograms [] v w h = ap (λ z. z.names.subprograms) h ∙ sym (append_none v.names.subprograms)
each_subprograms (x ∷ xs) v w h =
    each_subprograms xs h.0 w h.2
    ∙ ap (λ l. l ++ map no_number xs) h.1.subprograms
    ∙ append_again v.names.subprograms (None ∷ []) (map no_number xs)

module _ (base program : Scope) where
  pub slots_placed : (fs : List Formal) (xs : List PlacedFormal) (from out last top : ℕ) → StandInTurn base from out fs xs last top
      → map (λ x. Some (slot_at x)) (placed_in program fs xs) ≡ map slot_for xs
  slots_placed [] [] from out last top h = refl
  slots_placed [] (x ∷ xs) from out last top h = absurd h
  slots_placed (f ∷ fs) [] from out last top h = absurd h
  slots_placed (f ∷ fs) (x ∷ xs) from out last top h = ap (λ l. slot_for x ∷ l) (slots_placed fs xs h.0 h.1 last top h.5)

  pub numbers_placed : (fs : List Formal) (xs : List PlacedFormal) (from out last top : ℕ) → StandInTurn base from out fs xs last top
      → map no_number (placed_in program fs xs) ≡ map no_subprogram xs
  numbers_placed [] [] from out last top h = refl
  numbers_placed [] (x ∷ xs) from out last top h = absurd h
  numbers_placed (f ∷ fs) [] from out last top h = absurd h
  numbers_placed (f ∷ fs) (x ∷ xs) from out last top h = ap (λ l. None ∷ l) (numbers_placed fs xs h.0 h.1 last top h.5)

  -- ---- the addresses stand among the words that are passed

  among_own : (o : Option ℕ) (rest : List ℕ) (n bound : ℕ) → ((a : ℕ) → o ≡ Some a → a < bound) → (is_among rest n ≡ true → n < bound)
      → is_among (own_address o rest) n ≡ true → n < bound
  among_own None rest n bound own more h = more h
  among_own (Some a) rest n bound own more h = by_test (nat_eq a n) refl h
    where
      same : (x y : ℕ) → nat_eq x y ≡ true → x ≡ y
      same x y e = search rules

      by_test : (b : Bool) → nat_eq a n ≡ b → (b || is_among rest n) ≡ true → n < bound
      by_test true e k = let less = own a refl in let i = same a n e in omega (arith, less, i)
      by_test false e k = more k

  pub addresses_below : (fs : List Formal) (xs : List PlacedFormal) (from out last top : ℕ) → StandInTurn base from out fs xs last top
      → (from ≤ last) × ((n : ℕ) → is_among (addresses_of xs) n ≡ true → n < last)
  addresses_below [] [] from out last top h = (let e = h.0 in omega (arith, e), λ n among. let k = among in cc)
  addresses_below [] (x ∷ xs) from out last top h = absurd h
  addresses_below (f ∷ fs) [] from out last top h = absurd h
  addresses_below (f ∷ fs) (x ∷ xs) from out last top h =
      let rest = addresses_below fs xs h.0 h.1 last top h.5 in by_mode f.mode (words_of base x.subtype) h.4 rest.0 rest.1
    where
      at_from : (o : Option ℕ) → o ≡ Some from → from < last → (a : ℕ) → o ≡ Some a → a < last
      at_from o e less a i = let same : a ≡ from = some_same a from (sym i ∙ e) in omega (arith, same, less)
        where
          some_same : (u w : ℕ) → Some u ≡ Some w → u ≡ w
          some_same u w k = cc

      none_at : (o : Option ℕ) → o ≡ None → (a : ℕ) → o ≡ Some a → a < last
      none_at o e a i = let no = sym e ∙ i in cc

      by_mode : (m : Mode) (many : ℕ) → StandsAt m many from out x h.0 h.1 → h.0 ≤ last → ((n : ℕ) → is_among (addresses_of xs) n ≡ true → n < last)
          → (from ≤ last) × ((n : ℕ) → is_among (own_address x.address (addresses_of xs)) n ≡ true → n < last)
      by_mode mode.In many s up below =
          let e = s.2 in (omega (arith, e, up), λ n. among_own x.address (addresses_of xs) n last (none_at x.address s.0) (below n))
      by_mode mode.Out many s up below =
          let e = s.2 in
          (omega (arith, e, up), λ n. among_own x.address (addresses_of xs) n last (at_from x.address s.0 (omega (arith, e, up))) (below n))
      by_mode mode.InOut many s up below =
          let e = s.2 in
          (omega (arith, e, up), λ n. among_own x.address (addresses_of xs) n last (at_from x.address s.0 (omega (arith, e, up))) (below n))

  -- those that are not copied in stand one behind the other
  pub outs_up : (fs : List Formal) (xs : List PlacedFormal) (from out last top : ℕ) → StandInTurn base from out fs xs last top → out ≤ top
  outs_up [] [] from out last top h = (let e = h.1 in omega (arith, e))
  outs_up [] (x ∷ xs) from out last top h = absurd h
  outs_up (f ∷ fs) [] from out last top h = absurd h
  outs_up (f ∷ fs) (x ∷ xs) from out last top h = by_mode f.mode (words_of base x.subtype) h.4 (outs_up fs xs h.0 h.1 last top h.5)
    where
      by_mode : (m : Mode) (many : ℕ) → StandsAt m many from out x h.0 h.1 → h.1 ≤ top → out ≤ top
      by_mode mode.In many s up = let e = s.3 in omega (arith, e, up)
      by_mode mode.Out many s up = let e = s.3 in omega (arith, e, up)
      by_mode mode.InOut many s up = let e = s.3 in omega (arith, e, up)

  -- ---- what is given back

  -- each stands where it was placed
  pub record IsShown (v : Framed) (name : List ℕ) (x : PlacedFormal) : Type 0 where
    pub there : slot_of v.names name ≡ slot_for x
    pub role : Role
    pub named : NamesObject v.names.scope name role x.subtype

  abbrev pub AreShown : Framed → List Formal → List PlacedFormal → Type 0
  AreShown v [] [] = Unit {0}
  AreShown v (f ∷ fs) (x ∷ xs) = IsShown v f.name.name x × AreShown v fs xs
  AreShown v fs xs = ⊥

  -- the subtypes of those that are copied back
  abbrev pub own_subtype : Option ℕ → Subtype → List Subtype → List Subtype
  own_subtype None t rest = rest
  own_subtype (Some a) t rest = t ∷ rest

  abbrev pub subtypes_back : List PlacedFormal → List Subtype
  subtypes_back [] = []
  subtypes_back (x ∷ xs) = own_subtype x.address x.subtype (subtypes_back xs)

  pub back_words : (s : Scope) (xs : List PlacedFormal) → words_returned s xs ≡ words_back s (subtypes_back xs)
  back_words s [] = refl
  back_words s (x ∷ xs) = by_address x.address (back_words s xs)
    where
      by_address : (o : Option ℕ) → words_returned s xs ≡ words_back s (subtypes_back xs)
          → returned_more o (words_of s x.subtype) (words_returned s xs) ≡ words_back s (own_subtype o x.subtype (subtypes_back xs))
      by_address None e = e
      by_address (Some a) e = ap (λ n. suc (words_of s x.subtype) + n) e

  pub given_placed : (i : Sections) (v : Framed) (fs : List Formal) (xs : List PlacedFormal) (from out last top a b : ℕ)
      → StandInTurn base from out fs xs last top
      → AreShown v fs xs
      → AreReturned i v.names.scope a b xs
      → AreGiven i v a b (results (map (parameter program) fs)) (addresses_of xs) (subtypes_back xs)
  given_placed i v [] [] from out last top a b h shown code = code
  given_placed i v [] (x ∷ xs) from out last top a b h shown code = absurd h
  given_placed i v (f ∷ fs) [] from out last top a b h shown code = absurd h
  given_placed i v (f ∷ fs) (x ∷ xs) from out last top a b h are code =
      by_mode f.mode (words_of base x.subtype) h.4 x.address refl code (λ to rest. given_placed i v fs xs h.0 h.1 last top a to h.5 are.1 rest)
    where
      one : (mid z : ℕ) → At i mid (op.LoadLocal z) → IsLoadingCode i (suc mid) b x.offset (words_of v.names.scope x.subtype) → IsGiven i v f.name.name z x.subtype mid b
      one mid z address value = record {
        slot = record { region = regions.Locals; offset = x.offset };
        there = are.0.there;
        region = refl;
        role = are.0.role;
        named = are.0.named;
        address = address;
        value = value;
      }

      by_mode : (m : Mode) (many : ℕ) → StandsAt m many from out x h.0 h.1 → (o : Option ℕ) → x.address ≡ o
          → ReturnedThen i v.names.scope a b x (λ to. AreReturned i v.names.scope a to xs) o
          → ((to : ℕ) → AreReturned i v.names.scope a to xs → AreGiven i v a to (results (map (parameter program) fs)) (addresses_of xs) (subtypes_back xs))
          → AreGiven i v a b (if is_in m then results (map (parameter program) fs) else f.name.name ∷ results (map (parameter program) fs)) (own_address o (addresses_of xs)) (own_subtype o x.subtype (subtypes_back xs))
      by_mode mode.In many s None e code rest = rest b code
      by_mode mode.In many s (Some z) e code rest = let no = sym s.0 ∙ e in cc
      by_mode mode.Out many s None e code rest = let no = sym s.0 ∙ e in cc
      by_mode mode.Out many s (Some z) e code rest = (code.0, code.1, code.2, rest code.0 code.3, one code.0 z code.4 code.5)
      by_mode mode.InOut many s None e code rest = let no = sym s.0 ∙ e in cc
      by_mode mode.InOut many s (Some z) e code rest = (code.0, code.1, code.2, rest code.0 code.3, one code.0 z code.4 code.5)

-- ---- the first values of those that are not copied in

-- those of the placed parameters
abbrev pub outs_in : (program : Scope) → List Formal → List PlacedFormal → List Placed
outs_in s fs xs = outs_of (placed_in s fs xs)

parameters_up : (i : Sections) (program : Program) (g : Package) (numbers : Numbers) (fs : List Parameter) (v w : Framed) (a b : ℕ)
    → AreParametersDeclared i program g numbers v a b w fs → a ≤ b
parameters_up i program g numbers [] v w a b h = let e = h.0 in omega (arith, e)
parameters_up i program g numbers (f ∷ fs) v w a b h = let low = h.2 in let high = h.3 in omega (arith, low, high)

module _ (base : Scope) (kept : AgreementIsKept) (sized : ValuesHaveWords) (quiet : QuietStays) (shaped : InitialValuesHaveShape) (i : Sections) (program : Program)
    (g : Package) (numbers : Numbers) (s : Scope)
    -- a word that is the first one by these names is so in the program, and the only one
    (word_is : (u : Subtype) (word : ℤ) → first_word (form_at s u.type_number) u ≡ Some word
    → (value_words (initial program.scope u) ≡ word ∷ []) × (words_of s u ≡ 1))
    (starts : (u : Subtype) → IsKnown base u → value_words (initial program.scope u) ≡ value_words (initial s u))
    (widths : (u : Subtype) → IsKnown base u → words_of s u ≡ words_of base u) where
  pub ready_placed : (fs : List Formal) (xs : List PlacedFormal) (from out last top a b : ℕ) (v w : Framed)
      → ((f : Formal) → Has fs f → subtype_of base f.subtype ≡ Some (subtype_named program.scope f.subtype))
      → AreNew base (map (parameter program.scope) fs)
      → StandInTurn base from out fs xs last top
      → OutsBegin g base v (outs_in program.scope fs xs) w
      → AreInitial i s a b xs
      → AreParametersDeclared i program g numbers v a b w (map parameter_at (outs_in program.scope fs xs))
  ready_placed [] [] from out last top a b v w told new h outs code = (code, outs)
  ready_placed [] (x ∷ xs) from out last top a b v w told new h outs code = absurd h
  ready_placed (f ∷ fs) [] from out last top a b v w told new h outs code = absurd h
  ready_placed (f ∷ fs) (x ∷ xs) from out last top a b v w told new h outs code =
      by_mode (is_out f.mode) refl outs (subst (λ m. InitialThen i s a x (λ n. AreInitial i s n b xs) (is_out m)) h.3 code)
      (λ n u more are. ready_placed fs xs h.0 h.1 last top n b u w (λ y k. told y (inr k)) new.3 h.5 more are)
    where
      same : x.subtype ≡ subtype_named program.scope f.subtype
      same = same_some x.subtype (subtype_named program.scope f.subtype) (sym h.2 ∙ told f (inl refl))

      up_to : (to : ℕ) → StoresFirstWord i s a to x ⊎ StoresFirstWords i s a to x → a ≤ to
      up_to to (inl z) = let e = z.end in omega (arith, e)
      up_to to (inr z) = let e = z.end in let m = z.long in omega (arith, e, m)

      -- its first value, of one word or of several
      begins : (next : Framed) → BeginsOut g base v (parameter program.scope f, x.offset) next → (to : ℕ)
          → StoresFirstWord i s a to x ⊎ StoresFirstWords i s a to x
          → IsParameterDeclared i program g numbers v a to next (parameter program.scope f)
      begins next begun to (inl z) =
          let word = word_is x.subtype z.word z.first in
          let many = widths (subtype_named program.scope f.subtype) new.2 in
          let single = ap (words_of s) (sym same) ∙ word.1 in
          let wide = begun.many in
          subst (λ n. IsParameterDeclared i program g numbers v a n next (parameter program.scope f)) (sym z.end)
          (declares_parameter kept sized quiet shaped i program g numbers v next (parameter program.scope f) (formal_role f.mode) begun.slot begun.laid
          begun.widens begun.spares begun.region begun.known a z.word (omega (arith, many, single, wide))
          (subst (λ u. value_words (initial program.scope u) ≡ z.word ∷ []) same word.0) z.push
          (subst (λ n. At i (suc a) (op.StoreLocal n)) (sym begun.at) z.store))
      begins next begun to (inr z) =
          let words : value_words (initial s x.subtype) ≡ value_words (initial program.scope (subtype_named program.scope f.subtype)) =
          ap (λ u. value_words (initial s u)) same ∙ sym (starts (subtype_named program.scope f.subtype) new.2) in
          let wide : words_of s x.subtype ≡ words_of v.names.scope (subtype_named program.scope f.subtype) =
          ap (words_of s) same ∙ widths (subtype_named program.scope f.subtype) new.2 ∙ sym begun.many in
          subst (λ n. IsParameterDeclared i program g numbers v a n next (parameter program.scope f)) (sym z.end)
          (declares_parameter_block kept sized quiet shaped i program g numbers v next (parameter program.scope f) (formal_role f.mode) begun.slot begun.laid
          begun.widens begun.spares begun.region begun.known a z.mid (subst (λ n. At i a (op.Push (pos n))) (sym begun.at) z.address)
          (subst (ArePushed i (suc a)) words z.pushed) (subst (λ l. z.mid ≡ suc a + length l) words z.long)
          (subst (λ n. At i z.mid (op.StoreBlock regions.Locals n)) wide z.store))

      by_mode : (o : Bool) → is_out f.mode ≡ o
          → OutsBegin g base v (if o then (parameter program.scope f, x.offset) ∷ outs_in program.scope fs xs else outs_in program.scope fs xs) w
          → InitialThen i s a x (λ n. AreInitial i s n b xs) o
          → ((n : ℕ) (u : Framed) → OutsBegin g base u (outs_in program.scope fs xs) w → AreInitial i s n b xs
          → AreParametersDeclared i program g numbers u n b w (map parameter_at (outs_in program.scope fs xs)))
          → AreParametersDeclared i program g numbers v a b w
          (map parameter_at (if o then (parameter program.scope f, x.offset) ∷ outs_in program.scope fs xs else outs_in program.scope fs xs))
      by_mode true e outs code more =
          let after = more code.0 outs.0 outs.2 code.2 in (
            code.0,
            outs.0,
            up_to code.0 code.1,
            parameters_up i program g numbers (map parameter_at (outs_in program.scope fs xs)) outs.0 w code.0 b after,
            begins outs.0 outs.1 code.0 code.1,
            outs.1.narrows,
            after,
          )
      by_mode false e outs code more = more a v outs code
