-- An image made of subprograms whose code keeps the rules passes the tests of its instructions and subprograms.
use Rattle.std.proofs.Common.{◌≡◌, ℕ, suc, ◌+◌, ◌-◌, ◌<◌, ◌≤◌, List, [], ◌∷◌, length, cond, Bool, true, false, ◌&&◌, ◌||◌, not, None, Some, Option, refl, sym, ap, ◌∙◌, subst, arith, rules}
use Rattle.std.specs.Prelude.{nat_eq, nat_le, nat_lt, option_map, slice_get}
use Rattle.std.specs.List.{list_all}
use Rattle.std.proofs.lemmas.Bool.{le-ltb, lt-ltb}
use Rattle.base.specs.declared.limits.TheConstants.{FRAME_WORDS}
use Rattle.image.specs.Operations.{goes_on, jump_target}
use Rattle.image.specs.RuleLaws.{holder_here, holder_later}
use Rattle.image.specs.Rules.{all_begun, all_placed, has_depth, has_object, has_operands, in_holder, is_closed, is_entry_of_object, is_subprogram, is_task_body, jumps_within, keeps_depth, last_end, names_things, none_or, same_number, some_and}
use Rattle.image.specs.Sections.{Sections, end_of, holder, holder_number}
use Rattle.image.specs.declared.instruction.Instr.{Instr}
use Rattle.image.specs.declared.subprograms.Subprogram.{Subprogram}
use Rattle.expr_soundness.proofs.Positions.{first_place, place_is}
use Rattle.expr_code.specs.Code.{Holds, here}
use Rattle.expr_code.specs.Flows.{AreKeptBetween, KeepsInstructionRules}
use Rattle.expr_code.specs.declared.visible.Visible.{Visible}
use Rattle.stmt_code.specs.Emitting.{HasLabels}
use Rattle.stmt_code.specs.Subprograms.{HasSubprogramWords, KeepsRules, SuitsBody}
use Rattle.stmt_code.specs.Whole.{AreAllKept, KeepsSubprogramRules, IsOfImage, KeptCodePasses, PassesOnCode}
use Rattle.stmt_code.specs.declared.draft.Draft.{Draft}
use Rattle.stmt_code.specs.declared.subprogram.SubprogramWords.{SubprogramWords}
use Rattle.part_code.proofs.FormalFlows.{both, equal, least}
use Rattle.part_code.proofs.Names.{inside}
use Rattle.part_code.proofs.ObjectNames.{less_true}

-- ---- tests of all

placed_by : {X : Type 0} (test : ℕ → X → Bool) (p : ℕ) (xs : List X) → ((k : ℕ) (x : X) → slice_get xs k ≡ Some x → test (p + k) x ≡ true) → all_placed test p xs ≡ true
placed_by test p [] h = refl
placed_by test p (x ∷ xs) h =
    both (test p x) (all_placed test (p + 1) xs) (subst (λ n. test n x ≡ true) (omega arith) (h 0 x refl))
    (placed_by test (p + 1) xs (λ k y is. subst (λ n. test n y ≡ true) (omega arith) (h (suc k) y is)))

all_by : {X : Type 0} (test : X → Bool) (xs : List X) → ((k : ℕ) (x : X) → slice_get xs k ≡ Some x → test x ≡ true) → list_all test xs ≡ true
all_by test [] h = refl
all_by test (x ∷ xs) h = both (test x) (list_all test xs) (h 0 x refl) (all_by test xs (λ k y is. h (suc k) y is))

module _ (i : Sections) where
  -- ---- tests of subprograms

  begun_by : (test : ℕ → Subprogram → Bool) → ((n first : ℕ) (s : Subprogram) → KeepsSubprogramRules i n first s → test first s ≡ true)
      → (all : List Subprogram) (n first : ℕ)
      → AreAllKept i n first all → all_begun test first all ≡ true
  begun_by test h [] n first kept = refl
  begun_by test h (s ∷ rest) n first kept =
      both (test first s) (all_begun test s.end_ rest) (h n first s kept.0) (begun_by test h rest (n + 1) s.end_ kept.1)

  each_by : (test : Subprogram → Bool) → ((n first : ℕ) (s : Subprogram) → KeepsSubprogramRules i n first s → test s ≡ true)
      → (all : List Subprogram) (n first : ℕ)
      → AreAllKept i n first all → list_all test all ≡ true
  each_by test h [] n first kept = refl
  each_by test h (s ∷ rest) n first kept = both (test s) (list_all test rest) (h n first s kept.0) (each_by test h rest (n + 1) s.end_ kept.1)

  numbered_by : (test : ℕ → Subprogram → Bool) → ((n first : ℕ) (s : Subprogram) → KeepsSubprogramRules i n first s → test n s ≡ true)
      → (all : List Subprogram) (n first : ℕ)
      → AreAllKept i n first all → all_placed test n all ≡ true
  numbered_by test h [] n first kept = refl
  numbered_by test h (s ∷ rest) n first kept =
      both (test n s) (all_placed test (n + 1) rest) (h n first s kept.0) (numbered_by test h rest (n + 1) s.end_ kept.1)

  closed : (n first : ℕ) (s : Subprogram) → KeepsSubprogramRules i n first s → is_closed i s ≡ true
  closed n first s h =
      let e = h.end in
      let at : s.end_ - 1 ≡ h.last = omega (arith, e) in
      ap (λ o. some_and o (λ x. not (goes_on x.operation))) (ap (slice_get i.instructions) at ∙ h.returns.1)

  ends_behind : (n first : ℕ) (s : Subprogram) → KeepsSubprogramRules i n first s → nat_lt first s.end_ ≡ true
  ends_behind n first s h = let u = h.up in let e = h.end in less_true first s.end_ (omega (arith, u, e))

  of_task : (s : Subprogram) (b : Bool) → (b ≡ true → (s.parameters ≡ 0) × (s.results ≡ 0)) → (not b || (nat_eq s.parameters 0 && nat_eq s.results 0)) ≡ true
  of_task s true h = let k = h refl in both (nat_eq s.parameters 0) (nat_eq s.results 0) (equal s.parameters 0 k.0) (equal s.results 0 k.1)
  of_task s false h = refl

  one_of : (n first : ℕ) (s : Subprogram) → KeepsSubprogramRules i n first s → is_subprogram i n s ≡ true
  one_of n first s h =
      both (nat_le s.parameters s.locals) _ (least s.parameters s.locals h.passed)
      (both (nat_le (s.locals + s.stack) FRAME_WORDS) _ (least (s.locals + s.stack) FRAME_WORDS h.fits)
      (both (not (is_task_body s.kind) || (nat_eq s.parameters 0 && nat_eq s.results 0)) (is_entry_of_object i n s.kind)
      (of_task s (is_task_body s.kind) h.belongs.bare) h.belongs.entry))

  -- ---- the subprogram that holds a place

  abbrev end_behind : (first : ℕ) → List Subprogram → ℕ
  end_behind first [] = first
  end_behind first (s ∷ rest) = end_behind s.end_ rest

  end_last : (first : ℕ) (s : Subprogram) (rest : List Subprogram) → end_behind first (s ∷ rest) ≡ end_of (slice_get (s ∷ rest) (length rest))
  end_last first s [] = refl
  end_last first s (r ∷ rest) = end_last s.end_ r rest

  end_is : (all : List Subprogram) → end_behind 0 all ≡ last_end all
  end_is [] = refl
  end_is (s ∷ rest) =
      let before : length rest ≡ length (s ∷ rest) - 1 = omega arith in
      end_last 0 s rest ∙ ap (λ n. end_of (slice_get (s ∷ rest) n)) before

  abbrev ends_after : ℕ → Subprogram → Bool
  ends_after place s = nat_lt place s.end_

  pub number_here : (s : Subprogram) (rest : List Subprogram) (a : ℕ) → a < s.end_ → holder_number (s ∷ rest) a ≡ Some 0
  number_here s rest a less =
      place_is (ends_after a) (s ∷ rest) ∙ ap (λ b. cond b (Some 0) (option_map suc (first_place (ends_after a) rest))) (lt-ltb a s.end_ less)

  pub number_later : (s : Subprogram) (rest : List Subprogram) (a n : ℕ) → s.end_ ≤ a → holder_number rest a ≡ Some n → holder_number (s ∷ rest) a ≡ Some (suc n)
  number_later s rest a n past h =
      place_is (ends_after a) (s ∷ rest) ∙ ap (λ b. cond b (Some 0) (option_map suc (first_place (ends_after a) rest))) (le-ltb a s.end_ past)
      ∙ ap (option_map suc) (sym (place_is (ends_after a) rest) ∙ h)

  record IsHeld (start : ℕ) (all : List Subprogram) (k : ℕ) : Type 0 where
    number : ℕ
    own : ℕ
    first : ℕ
    s : Subprogram
    kept : KeepsSubprogramRules i own first s
    begins : start ≤ first
    down : first ≤ k
    up : k < s.end_
    holds : (a : ℕ) → first ≤ a → a < s.end_ → (holder all a ≡ Some s) × (holder_number all a ≡ Some number)

  held_first : (s : Subprogram) (rest : List Subprogram) (n first k : ℕ) → KeepsSubprogramRules i n first s → first ≤ k → k < s.end_
      → IsHeld first (s ∷ rest) k
  held_first s rest n first k kept down up = record {
    number = 0;
    own = n;
    first = first;
    s = s;
    kept = kept;
    begins = omega arith;
    down = down;
    up = up;
    holds = λ a low less. (holder_here s rest a less, number_here s rest a less);
  }

  held_later : (s : Subprogram) (rest : List Subprogram) (first k : ℕ) → first ≤ s.end_ → IsHeld s.end_ rest k → IsHeld first (s ∷ rest) k
  held_later s rest first k over h = record {
    number = suc h.number;
    own = h.own;
    first = h.first;
    s = h.s;
    kept = h.kept;
    begins = (let b = h.begins in omega (arith, over, b));
    down = h.down;
    up = h.up;
    holds = λ a low less.
        let b = h.begins in
        let past : s.end_ ≤ a = omega (arith, b, low) in
        let x = h.holds a low less in
        (holder_later s rest a past ∙ x.0, number_later s rest a h.number past x.1);
  }

  either_side : (k n : ℕ) (t : Bool) → nat_lt k n ≡ t → (P : Type 0) → (k < n → P) → (n ≤ k → P) → P
  either_side k n true e P less more = less (search rules)
  either_side k n false e P less more = more (search rules)

  find_held : (all : List Subprogram) (n first k : ℕ) → AreAllKept i n first all → first ≤ k → k < end_behind first all → IsHeld first all k
  find_held [] n first k h down up = absurd (omega (arith, down, up))
  find_held (s ∷ rest) n first k h down up =
      either_side k s.end_ (nat_lt k s.end_) refl (IsHeld first (s ∷ rest) k) (λ less. held_first s rest n first k h.0 down less)
      (λ past.
      held_later s rest first k (let u = h.0.up in let e = h.0.end in omega (arith, u, e)) (find_held rest (n + 1) s.end_ k h.1 past up))

  -- ---- tests of instructions

  module _ (kept : AreAllKept i 0 0 i.subprograms) (ends : last_end i.subprograms ≡ length i.instructions) where
    held : (k : ℕ) (x : Instr) → slice_get i.instructions k ≡ Some x → IsHeld 0 i.subprograms k
    held k x is =
        let less = inside i.instructions k x is in
        let e = end_is i.subprograms in
        find_held i.subprograms 0 0 k kept (omega arith) (omega (arith, less, e, ends))

    keeps : (k : ℕ) (x : Instr) (is : slice_get i.instructions k ≡ Some x) → (let h = held k x is in KeepsInstructionRules i h.s h.first h.kept.last k x)
    keeps k x is = let h = held k x is in h.kept.kept.each k x h.down h.up is

    jump_test : (k : ℕ) (x : Instr) → slice_get i.instructions k ≡ Some x → (t : Option ℕ) → jump_target x.operation ≡ t
        → none_or t (λ a. same_number (holder_number i.subprograms k) (holder_number i.subprograms a)) ≡ true
    jump_test k x is None e = refl
    jump_test k x is (Some a) e =
        let h = held k x is in
        let inner = (keeps k x is).jumps a e in
        let low = inner.0 in
        let high = inner.1 in
        let end = h.kept.end in
        let here_ = (h.holds k h.down h.up).1 in
        let there = (h.holds a low (omega (arith, high, end))).1 in
        (λ j. same_number (here_ j) (there j)) ∙ equal h.number h.number refl

    named_test : (k : ℕ) (x : Instr) → slice_get i.instructions k ≡ Some x → in_holder i k (λ s. names_things i s x.operation) ≡ true
    named_test k x is =
        let h = held k x is in
        ap (λ o. some_and o (λ s. names_things i s x.operation)) (h.holds k h.down h.up).0 ∙ (keeps k x is).names

    depth_test : (k : ℕ) (x : Instr) → slice_get i.instructions k ≡ Some x → in_holder i k (keeps_depth i k x) ≡ true
    depth_test k x is =
        let h = held k x is in
        ap (λ o. some_and o (keeps_depth i k x)) (h.holds k h.down h.up).0 ∙ (keeps k x is).depth

    from_start : (test : ℕ → Instr → Bool) → ((k : ℕ) (x : Instr) → slice_get i.instructions k ≡ Some x → test k x ≡ true) → all_placed test 0 i.instructions ≡ true
    from_start test h = placed_by test 0 i.instructions (λ k x is. subst (λ n. test n x ≡ true) (omega arith) (h k x is))

    passes : PassesOnCode i
    passes = record {
      operands = all_by (λ x. has_operands x.operation) i.instructions (λ k x is. (keeps k x is).operands);
      jumps = from_start (jumps_within i) (λ k x is. jump_test k x is (jump_target x.operation) refl);
      closed = each_by (is_closed i) closed i.subprograms 0 0 kept;
      named = from_start (λ k x. in_holder i k (λ s. names_things i s x.operation)) named_test;
      have_objects = each_by (has_object i) (λ n first s h. h.belongs.object) i.subprograms 0 0 kept;
      depths = from_start (λ k x. in_holder i k (keeps_depth i k x)) depth_test;
      empty = begun_by (λ first s. has_depth i first 0) (λ n first s h. h.kept.begins) i.subprograms 0 0 kept;
      ends = both (all_begun (λ first s. nat_lt first s.end_) 0 i.subprograms) (nat_eq (last_end i.subprograms) (length i.instructions))
          (begun_by (λ first s. nat_lt first s.end_) ends_behind i.subprograms 0 0 kept) (equal (last_end i.subprograms) (length i.instructions) ends);
      subprograms = numbered_by (is_subprogram i) one_of i.subprograms 0 0 kept;
    }

-- ---- what methods add

added_kept : (stores : Bool) (v : Visible) (old new : Draft) (words : SubprogramWords) → KeepsRules stores v old words new → (i : Sections) (number : ℕ)
    (s : Subprogram) → Holds i (here old.code) new.code
    → HasLabels i new.labels → HasSubprogramWords s words → SuitsBody stores v i s → s.end_ ≡ here new.code → IsOfImage i number s
    → KeepsSubprogramRules i number (here old.code) s
added_kept stores v old new words keeps i number s holds labels has suits end belongs =
    let l = has.locals in
    record {
      belongs = belongs;
      passed = (let p = has.parameters in let k = keeps.passed in omega (arith, p, k, l));
      fits = (let t = has.stack in let k = keeps.fits in omega (arith, t, k, l));
      last = keeps.last;
      up = keeps.up;
      end = end ∙ keeps.end;
      returns = keeps.returns i holds;
      kept = subst (λ n. AreKeptBetween i s (here old.code) keeps.last (here old.code) n 0) (sym end) (keeps.flows i s holds labels has suits);
    }

pub kept_code_passes : KeptCodePasses
kept_code_passes = record { added = added_kept; whole = passes }
