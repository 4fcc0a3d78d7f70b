-- The end of a body that gives back values: for each such parameter, from the last one to the first, the address that is held and the value's words (RM 6.4.1).
use Rattle.std.proofs.Common.{◌≡◌, ℕ, suc, ◌+◌, ◌-◌, ◌≤◌, inl, inr, ℤ, List, [], ◌∷◌, length, reverse, Some, refl, sym, ap, ◌∙◌, subst, arith}
use Rattle.std.specs.Prelude.{pos}
use Rattle.std.proofs.lemmas.List.{length-append, length-reverse}
use Rattle.base.specs.declared.schedule.ScheduleLine.{ScheduleLine}
use Rattle.kernel.specs.State.{Kernel}
use Rattle.kernel.specs.Calm.{Calm}
use Rattle.kernel.specs.Counting.{Done}
use Rattle.kernel.specs.Laws.{QuietStays}
use Rattle.kernel.specs.RunLaws.{spends_more, spends_trans}
use Rattle.image.specs.Sections.{Sections}
use Rattle.image.specs.Operations.{called, results_of}
use Rattle.image.specs.Frames.{Words, Frame}
use Rattle.image.specs.Steps.{behaviour}
use Rattle.image.specs.declared.instruction.Operation.TheVariants as op
use Rattle.image.specs.declared.instruction.Region.TheVariants as regions
use Rattle.types.specs.declared.entity.Role.{Role}
use Rattle.types.specs.declared.entity.Subtype.{Subtype}
use Rattle.types.specs.Laws.{ValuesHaveWords}
use Rattle.types.specs.Layouts.{words_of}
use Rattle.types.specs.Places.{Place, object_of}
use Rattle.types.specs.Scopes.{Scope}
use Rattle.types.specs.Shapes.{value_words}
use Rattle.types.specs.Values.{Value}
use Rattle.expr_soundness.specs.meaning.specs.Calls.{results_in, with_value_of}
use Rattle.expr_soundness.specs.meaning.specs.Programs.{Program}
use Rattle.expr_soundness.specs.meaning.specs.SameMeaning.{frames_of}
use Rattle.expr_code.specs.Coming.{most_steps, on}
use Rattle.expr_code.specs.Naming.{Lies}
use Rattle.expr_code.specs.Seeing.{Package, slot_of}
use Rattle.expr_code.specs.Views.{At, in_frame, placed, view_of}
use Rattle.expr_code.specs.declared.visible.Slot.{Slot}
use Rattle.expr_code.proofs.Coming.{pushes}
use Rattle.part_code.specs.Copying.{GivesBack, copies_on, held_at}
use Rattle.part_code.specs.Formals.{IsLoadingCode}
use Rattle.part_code.specs.Layout.{NamesObject}
use Rattle.part_code.specs.Resting.{AreHeld, Framed, IsAtHomeIn, Knows}
use Rattle.part_code.proofs.Loading.{Goes, loads_block, loads_single, loads_word}
use Rattle.part_code.proofs.Names.{found_meant, meant_width, found_some}

-- the words of so many values, and of an address each
abbrev pub words_back : Scope → List Subtype → ℕ
words_back s [] = 0
words_back s (t ∷ ts) = suc (words_of s t) + words_back s ts

module _ (i : Sections) (v : Framed) where
  -- the parameter is a variable of the frame; its address, which is held in this word, and its value
  pub record IsGiven (name : List ℕ) (held : ℕ) (t : Subtype) (from to : ℕ) : Type 0 where
    pub slot : Slot
    pub there : slot_of v.names name ≡ Some slot
    pub region : slot.region ≡ regions.Locals
    pub role : Role
    pub named : NamesObject v.names.scope name role t
    pub address : At i from (op.LoadLocal held)
    pub value : IsLoadingCode i (suc from) to slot.offset (words_of v.names.scope t)

  -- all of them, from the last one to the first
  abbrev pub AreGiven : (from to : ℕ) → (names : List (List ℕ)) → (held : List ℕ) → List Subtype → Type 0
  AreGiven from to [] held [] = from ≡ to
  AreGiven from to (name ∷ names) (n ∷ held) (t ∷ ts) = (mid : ℕ) × (from ≤ mid) × (mid ≤ to) × AreGiven from mid names held ts × IsGiven name n t mid to
  AreGiven from to names held ts = ⊥

  given_up : (names : List (List ℕ)) (held : List ℕ) (ts : List Subtype) (from to : ℕ) → AreGiven from to names held ts → from ≤ to
  given_up [] held [] from to h = omega (arith, h)
  given_up (name ∷ names) (n ∷ held) (t ∷ ts) from to h = let low = h.1 in let high = h.2 in omega (arith, low, high)
  given_up [] held (t ∷ ts) from to h = absurd h
  given_up (name ∷ names) [] ts from to h = absurd h
  given_up (name ∷ names) (n ∷ held) [] from to h = absurd h

  module _ (sized : ValuesHaveWords) (quiet : QuietStays) (program : Program) (g : Package) where
    module _ (schedule : List ScheduleLine) (k : Kernel) (t : ℕ) (m : Words) (calm : Calm k t) (f : Frame) (fs : List Frame) (p : Place)
        (knows : Knows g v p (view_of i schedule k t m f fs)) where
      abbrev Leads : (n from : ℕ) → List ℤ → (to : ℕ) → List ℤ → Type 0
      Leads n from stack to left = Goes quiet i schedule k t m calm f fs n from stack to left

      -- what is to be shown of values and their addresses
      abbrev Back : (names : List (List ℕ)) (ts : List Subtype) (addresses : List ℕ) (from to : ℕ) → List Value → Type 0
      Back names ts addresses from to vs =
          (length vs ≡ length names)
          × (length (copies_on vs addresses []) ≡ words_back v.names.scope ts)
          × Leads (to - from) from [] to (copies_on vs addresses [])

      -- the value's words are put on the operand stack
      value_loaded : (from to offset size : ℕ) (x : Value) (base : List ℤ) → IsLoadingCode i from to offset size → Lies f.locals offset x
          → length (value_words x) ≡ size
          → Leads (to - from) from base to (on base x)
      value_loaded from to offset size x base (inl h) lies many =
          let end = h.2 in
          subst (λ q. Leads (q - from) from base q (on base x)) (sym end)
          (spends_more (behaviour i schedule) t frames_of (most_steps i) (suc from - from) (omega arith)
          (loads_single quiet i schedule k t m calm f fs from offset x base h.1 lies (many ∙ h.0)))
      value_loaded from to offset size x base (inr h) lies many =
          let end = h.2 in
          let next : from + 1 ≡ suc from = omega arith in
          subst (λ q. Leads (q - from) from base q (on base x)) (sym end)
          (spends_more (behaviour i schedule) t frames_of (most_steps i) (suc (suc from) - from) (omega arith)
          (spends_trans (behaviour i schedule) t frames_of (most_steps i) 1 k (in_frame m (placed f (suc (suc from)) (on base x)) fs)
          (pushes quiet i schedule k t m calm from (pos offset) h.0 f fs base (suc from) next)
          (loads_block quiet i schedule k t m calm f fs regions.Locals (suc from) offset size x base h.1 lies many)))

      one_more : (x : Value) (a n : ℕ) (base : List ℤ) → length base ≡ n → length (on (pos a ∷ base) x) ≡ suc (length (value_words x)) + n
      one_more x a n base e =
          let all = length-append (reverse (value_words x)) (pos a ∷ base) in
          let turned = length-reverse (value_words x) in
          omega (arith, all, turned, e)

      all_given : (names : List (List ℕ)) (held : List ℕ) (ts : List Subtype) (addresses : List ℕ) (from to : ℕ) → AreGiven from to names held ts
          → AreHeld f.locals (held_at held addresses) → length addresses ≡ length names → Back names ts addresses from to (results_in p.locals names)
      all_given [] held [] [] from to h words many = (refl, refl, subst (λ q. Leads (q - from) from [] q []) h Done)
      all_given [] held [] (a ∷ rest) from to h words many = absurd (omega (arith, many))
      all_given [] held (s ∷ ts) addresses from to h words many = absurd h
      all_given (name ∷ names) [] ts addresses from to h words many = absurd h
      all_given (name ∷ names) (n ∷ held) [] addresses from to h words many = absurd h
      all_given (name ∷ names) (n ∷ held) (s ∷ ts) [] from to h words many = absurd (omega (arith, many))
      all_given (name ∷ names) (n ∷ held) (s ∷ ts) (a ∷ rest) from to h words many =
          let mid = h.0 in
          let one = h.4 in
          let own = found_some (object_of p.locals name) (subst (λ q. IsAtHomeIn p name q) one.region (knows.homes name one.slot one.there)) in
          let x = own.0 in
          let meant = found_meant p name x own.1 in
          let here = view_of i schedule k t m f fs in
          let lies : Lies f.locals one.slot.offset x.value =
          subst (λ q. Lies (here.words q) one.slot.offset x.value) one.region
          (knows.sees.names.objects name one.slot x.subtype x.value one.there meant) in
          let wide : length (value_words x.value) ≡ words_of v.names.scope s =
          meant_width sized v.names.scope p knows.sees.names.agrees name one.role s x.subtype x.value one.named meant in
          let before = all_given names held ts rest from mid h.3 words.1 (omega (arith, many)) in
          let base = copies_on (results_in p.locals names) rest [] in
          let up = loaded_up (suc mid) to one.slot.offset (words_of v.names.scope s) one.value in
          let low = h.1 in
          let lengths = before.0 in
          let size = one_more x.value a (words_back v.names.scope ts) base before.1 in
          subst (λ o. Back (name ∷ names) (s ∷ ts) (a ∷ rest) from to (with_value_of o (results_in p.locals names))) (sym own.1) (
            ap suc lengths,
            omega (arith, size, wide),
            spends_more (behaviour i schedule) t frames_of (most_steps i) (to - from) (omega (arith, low, up))
                (spends_trans (behaviour i schedule) t frames_of (most_steps i) (1 + (to - suc mid)) k (in_frame m (placed f to (on (pos a ∷ base) x.value)) fs)
                before.2
                (spends_trans (behaviour i schedule) t frames_of (most_steps i) (to - suc mid) k (in_frame m (placed f to (on (pos a ∷ base) x.value)) fs)
                (loads_word quiet i schedule k t m calm f fs mid n (pos a) base one.address words.0)
                (value_loaded (suc mid) to one.slot.offset (words_of v.names.scope s) x.value (pos a ∷ base) one.value lies wide))),
          )
        where
          loaded_up : (from to offset size : ℕ) → IsLoadingCode i from to offset size → from ≤ to
          loaded_up from to offset size (inl h) = let end = h.2 in omega (arith, end)
          loaded_up from to offset size (inr h) = let end = h.2 in omega (arith, end)

    -- the return stands behind what is put on the operand stack
    pub gives_back : (names : List (List ℕ)) (ts : List Subtype) (number from back : ℕ) → AreGiven from back names v.reserved ts → At i back op.Return
        → results_of (called i number) ≡ words_back v.names.scope ts
        → (gives : GivesBack i program g v names number from) × (gives.back ≡ back)
    gives_back names ts number from back code here many = (
      record {
        back = back;
        up = given_up names v.reserved ts from back code;
        return = here;
        pushes = λ schedule k t m f fs p addresses calm knows words as_many.
            let all = all_given schedule k t m calm f fs p knows names v.reserved ts addresses from back code words as_many in (all.0, all.1 ∙ sym many, all.2);
      },
      refl,
    )
