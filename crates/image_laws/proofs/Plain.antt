-- The rules without their premises: for images that keep all rules, each test of places asked everywhere is the same.
use Rattle.std.proofs.Common.{◌≡◌, ℕ, suc, ◌+◌, List, [], ◌∷◌, Bool, true, false, not, ◌&&◌, ◌||◌, Option, Some, None, refl, sym, ap, ◌∙◌, subst, arith}
use Rattle.std.proofs.lemmas.Bool.{true≢false, ltb-true}
use Rattle.std.proofs.lemmas.Option.{cond_some}
use Rattle.std.proofs.lemmas.List.Folds.{find_at}
use Rattle.std.specs.Prelude.{nat_eq, nat_le, nat_lt, slice_get}
use Rattle.std.specs.List.{list_all}
use Rattle.handlers.specs.declared.rows.Row.{Row}
use Rattle.image.specs.Sections.{Sections, first_place, holder}
use Rattle.image.specs.Operations.{goes_on, jump_target, taken_by}
use Rattle.image.specs.Rules.{IsWellFormed, all_begun, all_placed, covers_places, depth_after, has_body, has_depth, has_effect, has_ends, has_entry, has_object, in_holder, is_closed, is_return, is_row_within, jumps_within, keeps_depth, leaves_depth, names_things, none_or, operands_in_range, some_and, tables_agree, where_ends}
use Rattle.image.specs.declared.instruction.Instr.{Instr}
use Rattle.image.specs.declared.subprograms.Subprogram.{Subprogram}
use Rattle.std.proofs.lemmas.Bool.{and_parts}
use Rattle.image.specs.RuleLaws.{begin_of, begin_of-next, either, list_all-at, none_or-at, placed-at, slice_get_inside, some_and-true}
use Rattle.image_laws.proofs.WellFormed.{all_depths, all_named, begin_depth, begin_held, effect_known, first_place-is, held_inside, holder_next, jump_held, jumps, names, not_last, number_at, same_number-true}

-- an instruction stands there, with this depth
abbrev pub stands_at : Sections → ℕ → ℕ → Bool
stands_at i place depth = some_and (slice_get i.instructions place) (λ x. nat_eq x.depth depth)

abbrev pub plainly_keeps_depth : Sections → ℕ → Instr → Subprogram → Bool
plainly_keeps_depth i place x s =
    nat_le (taken_by i s.results x.operation) x.depth
    && (nat_le x.depth s.stack
    && (nat_le (depth_after i s x) s.stack
    && ((not (is_return x.operation) || nat_eq x.depth s.results)
    && ((not (goes_on x.operation) || stands_at i (place + 1) (depth_after i s x))
    && none_or (jump_target x.operation) (λ a. stands_at i a (depth_after i s x))))))

-- the tests of places without premises
pub record IsPlain (i : Sections) : Type 0 where
  pub covers : list_all covers_places i.rows ≡ true
  pub jumps : all_placed (jumps_within i) 0 i.instructions ≡ true
  pub closed : list_all (is_closed i) i.subprograms ≡ true
  pub rows : list_all (is_row_within i) i.rows ≡ true
  pub named : all_placed (λ place x. in_holder i place (λ s. names_things i s x.operation)) 0 i.instructions ≡ true
  pub tables_named : (list_all (has_object i) i.subprograms && (list_all (has_entry i) i.objects && list_all (has_body i) i.tasks)) ≡ true
  pub depths : all_placed (λ place x. in_holder i place (plainly_keeps_depth i place x)) 0 i.instructions ≡ true
  pub begins : all_begun (λ first s. stands_at i first 0) 0 i.subprograms ≡ true
  pub targets : list_all (λ r. stands_at i r.target 1) i.rows ≡ true

-- Plainly kept rules are kept

and_true : (a b : Bool) → a ≡ true → b ≡ true → (a && b) ≡ true
and_true true b e f = f
and_true false b e f = e

or_true : (a b : Bool) → b ≡ true → (a || b) ≡ true
or_true true b e = refl
or_true false b e = e

placed_weaker : {X : Type 0} (f g : ℕ → X → Bool) → ((p : ℕ) (x : X) → f p x ≡ true → g p x ≡ true) → (p : ℕ) (xs : List X) → all_placed f p xs ≡ true → all_placed g p xs ≡ true
placed_weaker f g h p [] e = refl
placed_weaker f g h p (x ∷ xs) e = let b = and_parts (f p x) _ e in and_true (g p x) _ (h p x b.0) (placed_weaker f g h (p + 1) xs b.1)

begun_weaker : (f g : ℕ → Subprogram → Bool) → ((p : ℕ) (s : Subprogram) → f p s ≡ true → g p s ≡ true) → (p : ℕ) (xs : List Subprogram) → all_begun f p xs ≡ true → all_begun g p xs ≡ true
begun_weaker f g h p [] e = refl
begun_weaker f g h p (s ∷ xs) e = let b = and_parts (f p s) _ e in and_true (g p s) _ (h p s b.0) (begun_weaker f g h s.end_ xs b.1)

all_weaker : {X : Type 0} (f g : X → Bool) → ((x : X) → f x ≡ true → g x ≡ true) → (xs : List X) → list_all f xs ≡ true → list_all g xs ≡ true
all_weaker f g h [] e = refl
all_weaker f g h (x ∷ xs) e = let b = and_parts (f x) _ e in and_true (g x) _ (h x b.0) (all_weaker f g h xs b.1)

some_weaker : {X : Type 0} (o : Option X) (f g : X → Bool) → ((x : X) → f x ≡ true → g x ≡ true) → some_and o f ≡ true → some_and o g ≡ true
some_weaker None f g h e = e
some_weaker (Some x) f g h e = h x e

none_weaker : {X : Type 0} (o : Option X) (f g : X → Bool) → ((x : X) → f x ≡ true → g x ≡ true) → none_or o f ≡ true → none_or o g ≡ true
none_weaker None f g h e = refl
none_weaker (Some x) f g h e = h x e

there : {X : Type 0} (o : Option X) (f : X → Bool) → some_and o f ≡ true → none_or o f ≡ true
there None f e = absurd (true≢false (sym e))
there (Some x) f e = e

or_weaker : (a b c : Bool) → (b ≡ true → c ≡ true) → (a || b) ≡ true → (a || c) ≡ true
or_weaker true b c h e = refl
or_weaker false b c h e = h e

pub has_from : (i : Sections) (place depth : ℕ) → stands_at i place depth ≡ true → has_depth i place depth ≡ true
has_from i place depth e = there (slice_get i.instructions place) (λ x. nat_eq x.depth depth) e

pub kept_from : (i : Sections) (place : ℕ) (x : Instr) (s : Subprogram) → plainly_keeps_depth i place x s ≡ true → keeps_depth i place x s ≡ true
kept_from i place x s e =
    let a = and_parts (nat_le (taken_by i s.results x.operation) x.depth) _ e in
    let b = and_parts (nat_le x.depth s.stack) _ a.1 in
    let c = and_parts (nat_le (depth_after i s x) s.stack) _ b.1 in
    let d = and_parts (not (is_return x.operation) || nat_eq x.depth s.results) _ c.1 in
    let n = and_parts (not (goes_on x.operation) || stands_at i (place + 1) (depth_after i s x)) _ d.1 in
    and_true (nat_le x.depth s.stack) _ b.0
    (and_true (not (is_return x.operation) || nat_eq x.depth s.results) _ d.0
    (or_true (not (has_effect i x.operation)) (leaves_depth i place x s)
    (and_true (nat_le (taken_by i s.results x.operation) x.depth) _ a.0
    (and_true (nat_le (depth_after i s x) s.stack) _ c.0
    (and_true (not (goes_on x.operation) || has_depth i (place + 1) (depth_after i s x)) _
    (or_weaker (not (goes_on x.operation)) (stands_at i (place + 1) (depth_after i s x)) (has_depth i (place + 1) (depth_after i s x)) (has_from i (place + 1) (depth_after i s x)) n.0)
    (none_weaker (jump_target x.operation) (λ a. stands_at i a (depth_after i s x)) (λ a. has_depth i a (depth_after i s x)) (λ a. has_from i a (depth_after i s x)) n.1))))))

pub well_formed : (i : Sections) → operands_in_range i ≡ true → IsPlain i → tables_agree i ≡ true → IsWellFormed i
well_formed i operands p tables =
    record {
      operands = operands;
      jumps =
          and_true (list_all covers_places i.rows) _ p.covers
          (or_true (not (has_ends i)) (all_placed (jumps_within i) 0 i.instructions && (list_all (is_closed i) i.subprograms && list_all (is_row_within i) i.rows))
          (and_true (all_placed (jumps_within i) 0 i.instructions) _ p.jumps (and_true (list_all (is_closed i) i.subprograms) (list_all (is_row_within i) i.rows) p.closed p.rows)));
      named =
          and_true (where_ends i (all_placed (λ place x. in_holder i place (λ s. names_things i s x.operation)) 0 i.instructions)) _
          (or_true (not (has_ends i)) (all_placed (λ place x. in_holder i place (λ s. names_things i s x.operation)) 0 i.instructions) p.named) p.tables_named;
      depths =
          or_true (not (has_ends i)) (all_placed (λ place x. in_holder i place (keeps_depth i place x)) 0 i.instructions && (all_begun (λ first s. has_depth i first 0) 0 i.subprograms && list_all (λ r. has_depth i r.target 1) i.rows))
          (and_true (all_placed (λ place x. in_holder i place (keeps_depth i place x)) 0 i.instructions) _
          (placed_weaker (λ place x. in_holder i place (plainly_keeps_depth i place x)) (λ place x. in_holder i place (keeps_depth i place x))
          (λ place x. some_weaker (holder i.subprograms place) (plainly_keeps_depth i place x) (keeps_depth i place x) (kept_from i place x)) 0 i.instructions p.depths)
          (and_true (all_begun (λ first s. has_depth i first 0) 0 i.subprograms) (list_all (λ r. has_depth i r.target 1) i.rows)
          (begun_weaker (λ first s. stands_at i first 0) (λ first s. has_depth i first 0) (λ first s. has_from i first 0) 0 i.subprograms p.begins)
          (all_weaker (λ r. stands_at i r.target 1) (λ r. has_depth i r.target 1) (λ r. has_from i r.target 1) i.rows p.targets)));
      tables = tables;
    }

-- Rules that are kept are plainly kept

placed_of_all : {X : Type 0} (test : ℕ → X → Bool) (xs : List X) (p : ℕ) → ((n : ℕ) (x : X) → slice_get xs n ≡ Some x → test (p + n) x ≡ true) → all_placed test p xs ≡ true
placed_of_all test [] p h = refl
placed_of_all test (x ∷ xs) p h =
    let here : p + 0 ≡ p = omega arith in
    and_true (test p x) _ (subst (λ v. test v x ≡ true) here (h 0 x refl))
    (placed_of_all test xs (p + 1) (λ n y is. let on : p + suc n ≡ (p + 1) + n = omega arith in subst (λ v. test v y ≡ true) on (h (suc n) y is)))

placed_from_zero : {X : Type 0} (test : ℕ → X → Bool) (xs : List X) → ((n : ℕ) (x : X) → slice_get xs n ≡ Some x → test n x ≡ true) → all_placed test 0 xs ≡ true
placed_from_zero test xs h = placed_of_all test xs 0 (λ n x is. let e : n ≡ 0 + n = omega arith in subst (λ v. test v x ≡ true) e (h n x is))

begun_of_all : (test : ℕ → Subprogram → Bool) (xs : List Subprogram) (first : ℕ) → ((n : ℕ) (s : Subprogram) → slice_get xs n ≡ Some s → test (begin_of first xs n) s ≡ true) → all_begun test first xs ≡ true
begun_of_all test [] first h = refl
begun_of_all test (x ∷ xs) first h =
    and_true (test first x) _ (h 0 x refl) (begun_of_all test xs x.end_ (λ n s is. subst (λ v. test v s ≡ true) (begin_of-next first n x xs) (h (suc n) s is)))

all_of : {X : Type 0} (test : X → Bool) (xs : List X) → ((n : ℕ) (x : X) → slice_get xs n ≡ Some x → test x ≡ true) → list_all test xs ≡ true
all_of test [] h = refl
all_of test (x ∷ xs) h = and_true (test x) _ (h 0 x refl) (all_of test xs (λ n y is. h (suc n) y is))

or_with : (a b c : Bool) → (a ≡ true → b ≡ true → c ≡ true) → (not a || b) ≡ true → (not a || c) ≡ true
or_with true b c h e = h refl e
or_with false b c h e = refl

none_with : {X : Type 0} (o : Option X) (f g : X → Bool) → ((x : X) → o ≡ Some x → f x ≡ true → g x ≡ true) → none_or o f ≡ true → none_or o g ≡ true
none_with None f g h e = refl
none_with (Some x) f g h e = h x refl e

module _ (i : Sections) (w : IsWellFormed i) where
  stands_from : (place depth : ℕ) (s : Subprogram) → holder i.subprograms place ≡ Some s → has_depth i place depth ≡ true → stands_at i place depth ≡ true
  stands_from place depth s held e =
      let x = held_inside i w place s held in
      ap (λ o. some_and o (λ x. nat_eq x.depth depth)) x.1 ∙ none_or-at _ (λ x. nat_eq x.depth depth) x.0 x.1 e

  plain_from : (place : ℕ) (x : Instr) (s : Subprogram) → slice_get i.instructions place ≡ Some x → holder i.subprograms place ≡ Some s → keeps_depth i place x s ≡ true → plainly_keeps_depth i place x s ≡ true
  plain_from place x s is held e =
      let b = and_parts (nat_le x.depth s.stack) _ e in
      let r = and_parts (not (is_return x.operation) || nat_eq x.depth s.results) _ b.1 in
      let left = either (has_effect i x.operation) (leaves_depth i place x s) r.1 (effect_known i s x.operation (names i w place x.depth x.operation s is held)) in
      let a = and_parts (nat_le (taken_by i s.results x.operation) x.depth) _ left in
      let c = and_parts (nat_le (depth_after i s x) s.stack) _ a.1 in
      let n = and_parts (not (goes_on x.operation) || has_depth i (place + 1) (depth_after i s x)) _ c.1 in
      and_true (nat_le (taken_by i s.results x.operation) x.depth) _ a.0
      (and_true (nat_le x.depth s.stack) _ b.0
      (and_true (nat_le (depth_after i s x) s.stack) _ c.0
      (and_true (not (is_return x.operation) || nat_eq x.depth s.results) _ r.0
      (and_true (not (goes_on x.operation) || stands_at i (place + 1) (depth_after i s x)) _
      (or_with (goes_on x.operation) (has_depth i (place + 1) (depth_after i s x)) (stands_at i (place + 1) (depth_after i s x))
      (λ on. stands_from (place + 1) (depth_after i s x) s (holder_next i.subprograms place s held (not_last i w place x s is held on))) n.0)
      (none_with (jump_target x.operation) (λ a. has_depth i a (depth_after i s x)) (λ a. stands_at i a (depth_after i s x))
      (λ a to. stands_from a (depth_after i s x) s (jump_held i w place x.depth x.operation s a is held to)) n.1)))))

  held_at : (place : ℕ) (x : Instr) → slice_get i.instructions place ≡ Some x → in_holder i place (keeps_depth i place x) ≡ true → in_holder i place (plainly_keeps_depth i place x) ≡ true
  held_at place x is e =
      let h = some_and-true (holder i.subprograms place) (keeps_depth i place x) e in
      ap (λ o. some_and o (plainly_keeps_depth i place x)) h.1 ∙ plain_from place x h.0 is h.1 h.2

  -- the subprogram that holds a row's target
  target_held : (r : Row) → is_row_within i r ≡ true → (s : Subprogram) × (holder i.subprograms r.target ≡ Some s)
  target_held r e =
      let n = same_number-true _ _ (and_parts _ _ e).1 in
      let c = cond_some _ _ n.0 n.2 in
      let s = slice_get_inside i.subprograms (number_at i.subprograms r.target) (ltb-true _ _ c.0) in
      (s.0, find_at (λ s. nat_lt r.target s.end_) i.subprograms ∙ s.1)

  pub plain : IsPlain i
  plain =
      let j = jumps i w in
      let d = all_depths i w in
      let rest = and_parts (all_placed (jumps_within i) 0 i.instructions) _ j in
      let rows = and_parts (list_all (is_closed i) i.subprograms) (list_all (is_row_within i) i.rows) rest.1 in
      let ds = and_parts (all_placed (λ place x. in_holder i place (keeps_depth i place x)) 0 i.instructions) _ d in
      let ts = and_parts (all_begun (λ first s. has_depth i first 0) 0 i.subprograms) (list_all (λ r. has_depth i r.target 1) i.rows) ds.1 in
      record {
        covers = (and_parts (list_all covers_places i.rows) _ w.jumps).0;
        jumps = rest.0;
        closed = rows.0;
        rows = rows.1;
        named = all_named i w;
        tables_named = (and_parts (where_ends i (all_placed (λ place x. in_holder i place (λ s. names_things i s x.operation)) 0 i.instructions)) _ w.named).1;
        depths =
            placed_from_zero (λ place x. in_holder i place (plainly_keeps_depth i place x)) i.instructions
            (λ n x is. held_at n x is (placed-at (λ place x. in_holder i place (keeps_depth i place x)) i.instructions n x ds.0 is));
        begins =
            begun_of_all (λ first s. stands_at i first 0) i.subprograms 0
            (λ n s is. subst (λ v. stands_at i v 0 ≡ true) (first_place-is i w n) (stands_from (first_place i n) 0 s (begin_held i w n s is) (begin_depth i w n s is)));
        targets =
            all_of (λ r. stands_at i r.target 1) i.rows
            (λ n r is. let h = target_held r (list_all-at (is_row_within i) i.rows n r rows.1 is) in stands_from r.target 1 h.0 h.1 (list_all-at (λ r. has_depth i r.target 1) i.rows n r ts.1 is));
      }
