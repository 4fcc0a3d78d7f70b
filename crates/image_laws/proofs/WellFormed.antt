-- What the rules of well-formed images say at a place, at a number, at a row.
use Rattle.std.proofs.Common.{◌≡◌, ℕ, zero, suc, ◌+◌, ◌-◌, ◌<◌, ◌≤◌, List, [], ◌∷◌, length, Bool, true, false, cond, not, ◌&&◌, Option, Some, None, refl, sym, ap, ◌∙◌, subst, arith, ⊎_elim}
use Rattle.std.proofs.lemmas.Bool.{and_parts, eqb-true, true≢false, ltb-true, leb-true}
use Rattle.std.proofs.lemmas.Bool.Decides.{leb_tells, eqb_tells}
use Rattle.std.proofs.lemmas.Option.{none-some, same_Some, cond_some}
use Rattle.std.proofs.lemmas.List.Folds.{find_at}
use Rattle.std.specs.Prelude.{nat_le, nat_lt, nat_eq, slice_get}
use Rattle.std.specs.List.{list_all, position_or_len}
use Rattle.handlers.specs.declared.rows.Row.{Row}
use Rattle.handlers.specs.Innermost.{covers, handles, inner_of, width, innermost, target_of, handler_of}
use Rattle.image.specs.Sections.{Sections, holder, holder_number, end_of, first_place}
use Rattle.base.specs.Names.{is_name}
use Rattle.image.specs.ObjectTable.{ObjectRow}
use Rattle.image.specs.Operations.{called, entry_of, given_by, goes_on, jump_target, taken_by}
use Rattle.image.specs.Rules.{IsWellFormed, all_begun, all_placed, covers_places, has_effect, has_ends, some_and, none_or, same_number, is_closed, keeps_depth, has_depth, is_return, jumps_within, is_row_within, is_subprogram, is_task, is_object, has_body, in_holder, is_entry_body_of, is_within, is_task_body, last_end, names_things}
use Rattle.image.specs.RuleFacts.{facts}
use Rattle.image.specs.RuleLaws.{all_begun-at, begin_of, begin_of-next, either, holder_here, holder_later, list_all-at, none_or-at, placed-at, rises, slice_get_inside, some_and-at, some_and-true}
use Rattle.image.specs.declared.instruction.Instr.{Instr}
use Rattle.image.specs.declared.instruction.Operation.{Operation}
use Rattle.image.specs.declared.instruction.Operation.TheVariants.{Call, ProtectedCall, EntryCall}
use Rattle.base.specs.declared.limits.TheConstants.{CEILING, TASK_PRIORITY, FRAME_WORDS, INSTRUCTIONS, SUBPROGRAMS}
use Rattle.image.specs.declared.subprograms.Kind.{Kind}
use Rattle.image.specs.declared.subprograms.Kind.TheVariants.{Plain, ProtectedProcedure, ProtectedFunction, EntryBody, TaskBody}
use Rattle.image.specs.declared.subprograms.Subprogram.{Subprogram}
use Rattle.image.specs.declared.tasks.Task.{Task}

-- ends rise, so a later subprogram begins later
pub begins_later : (subprograms : List Subprogram) (first n : ℕ) (s : Subprogram) → all_begun rises first subprograms ≡ true → slice_get subprograms n ≡ Some s → first ≤ begin_of first subprograms n
begins_later [] first n s all is = absurd (none-some s is)
begins_later (x ∷ subprograms) first zero s all is = omega arith
begins_later (x ∷ subprograms) first (suc n) s all is =
    let up : first < x.end_ = ltb-true first x.end_ (and_parts (rises first x) _ all).0 in
    let on : x.end_ ≤ begin_of x.end_ subprograms n = begins_later subprograms x.end_ n s (and_parts (rises first x) _ all).1 is in
    let e = begin_of-next first n x subprograms in
    omega arith

-- a subprogram holds the place where it begins
pub holds_begin : (subprograms : List Subprogram) (first n : ℕ) (s : Subprogram) → all_begun rises first subprograms ≡ true → slice_get subprograms n ≡ Some s → holder subprograms (begin_of first subprograms n) ≡ Some s
holds_begin [] first n s all is = absurd (none-some s is)
holds_begin (x ∷ subprograms) first zero s all is = holder_here x subprograms first (ltb-true first x.end_ (and_parts (rises first x) _ all).0) ∙ is
holds_begin (x ∷ subprograms) first (suc n) s all is =
    let rest = (and_parts (rises first x) _ all).1 in
    let here = holder_later x subprograms (begin_of x.end_ subprograms n) (begins_later subprograms x.end_ n s rest is) ∙ holds_begin subprograms x.end_ n s rest is in
    subst (λ v. holder (x ∷ subprograms) v ≡ Some s) (sym (begin_of-next first n x subprograms)) here

pub holder_within : (subprograms : List Subprogram) (p : ℕ) (s : Subprogram) → holder subprograms p ≡ Some s → p < s.end_
holder_within [] p s is = absurd (none-some s is)
holder_within (x ∷ subprograms) p s is =
    ⊎_elim
    (λ h. let e : x ≡ s = same_Some x s (sym (holder_here x subprograms p h.1) ∙ is) in subst (λ v. p < v.end_) e h.1)
    (λ h. holder_within subprograms p s (sym (holder_later x subprograms p (omega arith)) ∙ is))
    (leb_tells (suc p) x.end_)

-- it holds the next place too, unless that is its end
pub holder_next : (subprograms : List Subprogram) (p : ℕ) (s : Subprogram) → holder subprograms p ≡ Some s → p + 1 < s.end_ → holder subprograms (p + 1) ≡ Some s
holder_next [] p s is lt = absurd (none-some s is)
holder_next (x ∷ subprograms) p s is lt =
    ⊎_elim
    (λ h. let e : x ≡ s = same_Some x s (sym (holder_here x subprograms p h.1) ∙ is) in holder_here x subprograms (p + 1) (subst (λ v. p + 1 < v.end_) (sym e) lt) ∙ ap Some e)
    (λ h. holder_later x subprograms (p + 1) (omega arith) ∙ holder_next subprograms p s (sym (holder_later x subprograms p (omega arith)) ∙ is) lt)
    (leb_tells (suc p) x.end_)

-- it is one of the subprograms
pub holder_number_of : (subprograms : List Subprogram) (p : ℕ) (s : Subprogram) → holder subprograms p ≡ Some s → (n : ℕ) × (slice_get subprograms n ≡ Some s)
holder_number_of subprograms p s is = (position_or_len (λ s. nat_lt p s.end_) subprograms, sym (find_at (λ s. nat_lt p s.end_) subprograms) ∙ is)

abbrev pub number_at : List Subprogram → ℕ → ℕ
number_at subprograms p = position_or_len (λ s. nat_lt p s.end_) subprograms

pub same_number-true : (a b : Option ℕ) → same_number a b ≡ true → (n : ℕ) × (a ≡ Some n) × (b ≡ Some n)
same_number-true None b e = absurd (true≢false (sym e))
same_number-true (Some m) None e = absurd (true≢false (sym e))
same_number-true (Some m) (Some n) e = (m, refl, ⊎_elim (λ h. ap Some (sym h.1)) (λ h. absurd (true≢false (sym e ∙ h.0))) (eqb_tells m n))

pub same_holder_number : (subprograms : List Subprogram) (p q : ℕ) → same_number (holder_number subprograms p) (holder_number subprograms q) ≡ true → number_at subprograms p ≡ number_at subprograms q
same_holder_number subprograms p q e =
    let x = same_number-true _ _ e in
    (cond_some _ _ x.0 x.1).1 ∙ sym (cond_some _ _ x.0 x.2).1

pub holder_of_number : (subprograms : List Subprogram) (p q : ℕ) (s : Subprogram) → number_at subprograms p ≡ number_at subprograms q → holder subprograms p ≡ Some s → holder subprograms q ≡ Some s
holder_of_number subprograms p q s e is =
    find_at (λ s. nat_lt q s.end_) subprograms ∙ (ap (slice_get subprograms) (sym e) ∙ (sym (find_at (λ s. nat_lt p s.end_) subprograms) ∙ is))

pub number_at-le : (subprograms : List Subprogram) (p q : ℕ) → p ≤ q → number_at subprograms p ≤ number_at subprograms q
number_at-le [] p q le = omega arith
number_at-le (s ∷ subprograms) p q le = grind (arith, number_at-le subprograms p q le)

-- Rows

pub record Chosen (rows : List Row) (place : ℕ) (r : Row) : Type 0 where
  pub number : ℕ
  pub is : slice_get rows number ≡ Some r
  pub covered : covers place r ≡ true

later : (q : Row) (rows : List Row) (place : ℕ) (r : Row) → Chosen rows place r → Chosen (q ∷ rows) place r
later q rows place r c = record { number = suc c.number; is = c.is; covered = c.covered }

inner_chosen : (q : Row) (rows : List Row) (place : ℕ) (r : Row) (o : Option Row) → covers place q ≡ true → ((v : Row) → o ≡ Some v → Chosen rows place v) → inner_of q o ≡ r → Chosen (q ∷ rows) place r
inner_chosen q rows place r None here rest e = record { number = 0; is = ap Some e; covered = subst (λ v. covers place v ≡ true) e here }
inner_chosen q rows place r (Some v) here rest e = by (nat_le (width q) (width v)) e
  where
    by : (b : Bool) → cond b q v ≡ r → Chosen (q ∷ rows) place r
    by true e = record { number = 0; is = ap Some e; covered = subst (λ v. covers place v ≡ true) e here }
    by false e = later q rows place r (subst (Chosen rows place) e (rest v refl))

-- the row that takes an exception is one that covers the place
pub chosen : (rows : List Row) (place x : ℕ) (r : Row) → innermost rows place x ≡ Some r → Chosen rows place r
chosen [] place x r is = absurd (none-some r is)
chosen (q ∷ rows) place x r is = by (chosen rows place x) (covers place q && handles x q) refl is
  where
    by : ((v : Row) → innermost rows place x ≡ Some v → Chosen rows place v) → (b : Bool) → (covers place q && handles x q) ≡ b → cond b (Some (inner_of q (innermost rows place x))) (innermost rows place x) ≡ Some r → Chosen (q ∷ rows) place r
    by rest true e is = inner_chosen q rows place r (innermost rows place x) (and_parts _ _ e).0 rest (same_Some _ _ is)
    by rest false e is = later q rows place r (rest r is)

target_is : (o : Option Row) (a : ℕ) → target_of o ≡ Some a → (r : Row) × (o ≡ Some r) × (r.target ≡ a)
target_is None a e = absurd (none-some a e)
target_is (Some r) a e = (r, refl, same_Some _ _ e)

-- What the rules of an image say

-- what the depths of an instruction are good for
pub record Depths (i : Sections) (place d : ℕ) (o : Operation) (s : Subprogram) : Type 0 where
  pub taken : taken_by i s.results o ≤ d
  pub before : d ≤ s.stack
  pub after : d - taken_by i s.results o + given_by i o ≤ s.stack
  pub returned : is_return o ≡ true → d ≡ s.results
  pub next : goes_on o ≡ true → has_depth i (place + 1) (d - taken_by i s.results o + given_by i o) ≡ true
  pub jumped : (a : ℕ) → jump_target o ≡ Some a → has_depth i a (d - taken_by i s.results o + given_by i o) ≡ true

pub depths-from : (i : Sections) (place d : ℕ) (o : Operation) (s : Subprogram) → has_effect i o ≡ true → keeps_depth i place (record { depth = d; operation = o }) s ≡ true → Depths i place d o s
depths-from i place d o s known e =
    let b = and_parts _ _ e in
    let r = and_parts _ _ b.1 in
    let a = and_parts _ _ (either _ _ r.1 known) in
    let c = and_parts _ _ a.1 in
    let n = and_parts _ _ c.1 in
    record {
      taken = leb-true _ _ a.0;
      before = leb-true _ _ b.0;
      after = leb-true _ _ c.0;
      returned = λ is. eqb-true _ _ (either _ _ r.0 is);
      next = λ is. either _ _ n.0 is;
      jumped = λ a is. none_or-at _ _ a is n.1;
    }

last_place : (place end_ : ℕ) → place < end_ → end_ < suc (place + 1) → end_ - 1 ≡ place
last_place place end_ lt le = omega arith

before_end : (place end_ : ℕ) → place < end_ → place ≤ end_ - 1
before_end place end_ lt = omega arith

between : (a b c d : ℕ) → a ≡ c → a ≡ d → a ≤ b → b ≤ c → b ≡ d
between a b c d e f le more = omega arith

-- what an instruction calls is there
pub effect_known : (i : Sections) (s : Subprogram) (o : Operation) → names_things i s o ≡ true → has_effect i o ≡ true
effect_known i s (Call a) e = ap (λ o. some_and o (λ c. true)) (some_and-true (called i a) _ e).1
effect_known i s (ProtectedCall a) e = ap (λ o. some_and o (λ c. true)) (some_and-true (called i a) _ e).1
effect_known i s (EntryCall o) e = e
effect_known i s _ e = refl

pub last_end-next : (x y : Subprogram) (subprograms : List Subprogram) → last_end (x ∷ y ∷ subprograms) ≡ last_end (y ∷ subprograms)
last_end-next x y subprograms =
    let e : length (x ∷ y ∷ subprograms) - 1 ≡ suc (length (y ∷ subprograms) - 1) = omega arith in
    ap (λ k. end_of (slice_get (x ∷ y ∷ subprograms) k)) e

-- ends rise, so none is past the last
pub ends_within : (subprograms : List Subprogram) (first n : ℕ) (s : Subprogram) → all_begun rises first subprograms ≡ true → slice_get subprograms n ≡ Some s → s.end_ ≤ last_end subprograms
ends_within [] first n s all is = absurd (none-some s is)
ends_within (x ∷ []) first zero s all is = subst (λ v. v.end_ ≤ x.end_) (same_Some x s is) (omega arith)
ends_within (x ∷ []) first (suc n) s all is = absurd (none-some s is)
ends_within (x ∷ y ∷ subprograms) first zero s all is =
    let rest = (and_parts (rises first x) _ all).1 in
    let up : x.end_ < y.end_ = ltb-true x.end_ y.end_ (and_parts (rises x.end_ y) _ rest).0 in
    let on : y.end_ ≤ last_end (y ∷ subprograms) = ends_within (y ∷ subprograms) x.end_ 0 y rest refl in
    let e = last_end-next x y subprograms in
    let same : x.end_ ≡ s.end_ = ap (λ v. v.end_) (same_Some x s is) in
    omega (arith, up, on, e, same)
ends_within (x ∷ y ∷ subprograms) first (suc n) s all is =
    let on : s.end_ ≤ last_end (y ∷ subprograms) = ends_within (y ∷ subprograms) x.end_ n s (and_parts (rises first x) _ all).1 is in
    let e = last_end-next x y subprograms in
    omega (arith, on, e)

module _ (i : Sections) (w : IsWellFormed i) where
  -- the ends are in order, so that every test of places is asked
  ends : has_ends i ≡ true
  ends = (facts i w).ends

  pub rising : all_begun rises 0 i.subprograms ≡ true
  rising = (and_parts (all_begun rises 0 i.subprograms) _ ends).0

  pub last_is : last_end i.subprograms ≡ length i.instructions
  last_is = eqb-true _ _ (and_parts (all_begun rises 0 i.subprograms) _ ends).1

  pub jumps : (all_placed (jumps_within i) 0 i.instructions && (list_all (is_closed i) i.subprograms && list_all (is_row_within i) i.rows)) ≡ true
  jumps = either (has_ends i) _ (and_parts (list_all covers_places i.rows) _ w.jumps).1 ends

  pub all_named : all_placed (λ place x. in_holder i place (λ s. names_things i s x.operation)) 0 i.instructions ≡ true
  all_named = (facts i w).named

  pub all_depths : (all_placed (λ place x. in_holder i place (keeps_depth i place x)) 0 i.instructions && (all_begun (λ first s. has_depth i first 0) 0 i.subprograms && list_all (λ r. has_depth i r.target 1) i.rows)) ≡ true
  all_depths = either (has_ends i) _ w.depths ends

  -- what an operation names is there
  pub names : (place d : ℕ) (o : Operation) (s : Subprogram) → slice_get i.instructions place ≡ Some (record { depth = d; operation = o }) → holder i.subprograms place ≡ Some s → names_things i s o ≡ true
  names place d o s is held =
      some_and-at _ (λ s. names_things i s o) s held (placed-at (λ place x. in_holder i place (λ s. names_things i s x.operation)) i.instructions place _ all_named is)

  -- an instruction stands at each place that a subprogram holds
  pub held_inside : (place : ℕ) (s : Subprogram) → holder i.subprograms place ≡ Some s → (x : Instr) × (slice_get i.instructions place ≡ Some x)
  held_inside place s held =
      let lt = holder_within i.subprograms place s held in
      let n = holder_number_of i.subprograms place s held in
      let le = ends_within i.subprograms 0 n.0 s rising n.1 in
      slice_get_inside i.instructions place (omega (arith, lt, le, last_is))

  pub depths : (place d : ℕ) (o : Operation) (s : Subprogram) → slice_get i.instructions place ≡ Some (record { depth = d; operation = o }) → holder i.subprograms place ≡ Some s → Depths i place d o s
  depths place d o s is held =
      depths-from i place d o s (effect_known i s o (names place d o s is held))
      (some_and-at _ (keeps_depth i place (record { depth = d; operation = o })) s held (placed-at _ i.instructions place _ (and_parts _ _ all_depths).0 is))

  -- the instruction at a place has this depth
  pub has_depth-is : (place d : ℕ) (s : Subprogram) → holder i.subprograms place ≡ Some s → has_depth i place d ≡ true → (x : Instr) × (slice_get i.instructions place ≡ Some x) × (x.depth ≡ d)
  has_depth-is place d s held e =
      let x = held_inside place s held in
      (x.0, x.1, eqb-true _ _ (none_or-at _ (λ x. nat_eq x.depth d) x.0 x.1 e))

  -- the last instruction of a subprogram lets none follow
  pub not_last : (place : ℕ) (x : Instr) (s : Subprogram) → slice_get i.instructions place ≡ Some x → holder i.subprograms place ≡ Some s → goes_on x.operation ≡ true → place + 1 < s.end_
  not_last place x s is held on =
      let lt = holder_within i.subprograms place s held in
      let n = holder_number_of i.subprograms place s held in
      let closed = some_and-true _ _ (list_all-at (is_closed i) i.subprograms n.0 s (and_parts _ _ (and_parts _ _ jumps).1).0 n.1) in
      ⊎_elim
      (λ h. h.1)
      (λ h.
      let e : s.end_ - 1 ≡ place = last_place place s.end_ lt h.1 in
      let same : closed.0 ≡ x = same_Some _ _ (sym closed.1 ∙ (ap (slice_get i.instructions) e ∙ is)) in
      absurd (true≢false (sym closed.2 ∙ (ap (λ v. not (goes_on v.operation)) same ∙ ap not on))))
      (leb_tells (suc (place + 1)) s.end_)

  -- a jump stays with its holder
  pub jump_held : (place d : ℕ) (o : Operation) (s : Subprogram) (a : ℕ) → slice_get i.instructions place ≡ Some (record { depth = d; operation = o }) → holder i.subprograms place ≡ Some s → jump_target o ≡ Some a → holder i.subprograms a ≡ Some s
  jump_held place d o s a is held to =
      let within = placed-at (jumps_within i) i.instructions place _ (and_parts _ _ jumps).0 is in
      holder_of_number i.subprograms place a s (same_holder_number i.subprograms place a (none_or-at _ _ a to within)) held

  -- where a subprogram begins
  pub first_place-is : (n : ℕ) → first_place i n ≡ begin_of 0 i.subprograms n
  first_place-is zero = refl
  first_place-is (suc n) = refl

  pub subprogram_is : (n : ℕ) (s : Subprogram) → slice_get i.subprograms n ≡ Some s → is_subprogram i n s ≡ true
  subprogram_is n s is = placed-at (is_subprogram i) i.subprograms n s (facts i w).subprograms is

  objects : all_placed (is_object i) 0 i.objects ≡ true
  objects = (facts i w).objects

  pub tasks : list_all (is_task i) i.tasks ≡ true
  tasks = (facts i w).tasks

  pub bodies : list_all (has_body i) i.tasks ≡ true
  bodies = (facts i w).have_bodies

  pub some_subprogram : 0 < length i.subprograms
  some_subprogram =
      let a = (facts i w).counts in
      let b = (and_parts (is_within 1 (length i.instructions) INSTRUCTIONS) _ a).1 in
      leb-true _ _ (and_parts (nat_le 1 (length i.subprograms)) _ (and_parts (is_within 1 (length i.subprograms) SUBPROGRAMS) _ b).0).0

  is_body : (kind : Kind) → is_task_body kind ≡ true → kind ≡ TaskBody
  is_body TaskBody e = refl
  is_body Plain e = absurd (true≢false (sym e))
  is_body (ProtectedProcedure p) e = absurd (true≢false (sym e))
  is_body (ProtectedFunction p) e = absurd (true≢false (sym e))
  is_body (EntryBody p) e = absurd (true≢false (sym e))

  pub body_kind : (t : ℕ) (x : Task) (s : Subprogram) → slice_get i.tasks t ≡ Some x → slice_get i.subprograms x.subprogram ≡ Some s → s.kind ≡ TaskBody
  body_kind t x s is called =
      let a = (and_parts (is_name x.name) _ (list_all-at (is_task i) i.tasks t x tasks is)).1 in
      is_body s.kind (none_or-at _ (λ s. is_task_body s.kind) s called (and_parts (nat_le x.priority TASK_PRIORITY) _ a).1)

  is_entry_body : (o : ℕ) (kind : Kind) → is_entry_body_of o kind ≡ true → kind ≡ EntryBody o
  is_entry_body o (EntryBody p) e = ap EntryBody (eqb-true p o e)
  is_entry_body o Plain e = absurd (true≢false (sym e))
  is_entry_body o (ProtectedProcedure p) e = absurd (true≢false (sym e))
  is_entry_body o (ProtectedFunction p) e = absurd (true≢false (sym e))
  is_entry_body o TaskBody e = absurd (true≢false (sym e))

  entry_row : (o : Option ObjectRow) (n : ℕ) → entry_of o ≡ Some n → (row : ObjectRow) × (o ≡ Some row) × (row.entry ≡ Some n)
  entry_row None n e = absurd (none-some n e)
  entry_row (Some row) n e = (row, refl, e)

  -- the subprogram of an object's entry is its body
  pub entry_kind : (o n : ℕ) (s : Subprogram) → entry_of (slice_get i.objects o) ≡ Some n → slice_get i.subprograms n ≡ Some s → s.kind ≡ EntryBody o
  entry_kind o n s is called =
      let r = entry_row (slice_get i.objects o) n is in
      let own = (and_parts _ _ (and_parts (nat_le r.0.ceiling CEILING) _ (placed-at (is_object i) i.objects o r.0 objects r.1)).1).0 in
      is_entry_body o s.kind (none_or-at _ (λ s. is_entry_body_of o s.kind) s called (none_or-at _ (λ n. none_or (slice_get i.subprograms n) (λ s. is_entry_body_of o s.kind)) n r.2 own))

  -- ceilings and base priorities
  pub ceiling_is : (o : ℕ) (row : ObjectRow) → slice_get i.objects o ≡ Some row → row.ceiling ≤ CEILING
  ceiling_is o row is = leb-true _ _ (and_parts (nat_le row.ceiling CEILING) _ (placed-at (is_object i) i.objects o row objects is)).0

  pub priority_is : (t : ℕ) (x : Task) → slice_get i.tasks t ≡ Some x → x.priority ≤ TASK_PRIORITY
  priority_is t x is = leb-true _ _ (and_parts (nat_le x.priority TASK_PRIORITY) _ (and_parts (is_name x.name) _ (list_all-at (is_task i) i.tasks t x tasks is)).1).0

  pub begin_held : (n : ℕ) (s : Subprogram) → slice_get i.subprograms n ≡ Some s → holder i.subprograms (first_place i n) ≡ Some s
  begin_held n s is = subst (λ v. holder i.subprograms v ≡ Some s) (sym (first_place-is n)) (holds_begin i.subprograms 0 n s rising is)

  pub begin_depth : (n : ℕ) (s : Subprogram) → slice_get i.subprograms n ≡ Some s → has_depth i (first_place i n) 0 ≡ true
  begin_depth n s is =
      subst (λ v. has_depth i v 0 ≡ true) (sym (first_place-is n)) (all_begun-at (λ first s. has_depth i first 0) i.subprograms 0 n s (and_parts _ _ (and_parts _ _ all_depths).1).0 is)

  -- the parameters are locals, and a frame has its words
  pub frame_words : (n : ℕ) (s : Subprogram) → slice_get i.subprograms n ≡ Some s → (s.parameters ≤ s.locals) × (s.locals + s.stack ≤ FRAME_WORDS)
  frame_words n s is =
      let a = and_parts _ _ (subprogram_is n s is) in
      (leb-true _ _ a.0, leb-true _ _ (and_parts _ _ a.1).0)

  -- a handler's target lies in the subprogram of what its row covers
  pub handler_held : (place x a : ℕ) (s : Subprogram) → handler_of i.rows place x ≡ Some a → holder i.subprograms place ≡ Some s → (holder i.subprograms a ≡ Some s) × (has_depth i a 1 ≡ true)
  handler_held place x a s is held =
      let t = target_is (innermost i.rows place x) a is in
      let r = t.0 in
      let c = chosen i.rows place x r t.1 in
      let within = and_parts _ _ (list_all-at (is_row_within i) i.rows c.number r (and_parts _ _ (and_parts _ _ jumps).1).1 c.is) in
      let deep = list_all-at (λ r. has_depth i r.target 1) i.rows c.number r (and_parts _ _ (and_parts _ _ all_depths).1).1 c.is in
      let low : r.start ≤ place = leb-true _ _ (and_parts _ _ c.covered).0 in
      let high : place < r.end_ = ltb-true _ _ (and_parts _ _ c.covered).1 in
      let ends : number_at i.subprograms r.start ≡ number_at i.subprograms (r.end_ - 1) = same_holder_number i.subprograms r.start (r.end_ - 1) within.0 in
      let goes : number_at i.subprograms r.start ≡ number_at i.subprograms r.target = same_holder_number i.subprograms r.start r.target within.1 in
      let first = number_at-le i.subprograms r.start place low in
      let last = number_at-le i.subprograms place (r.end_ - 1) (before_end place r.end_ high) in
      let same : number_at i.subprograms place ≡ number_at i.subprograms r.target = between _ _ _ _ ends goes first last in
      (subst (λ v. holder i.subprograms v ≡ Some s) t.2 (holder_of_number i.subprograms place r.target s same held), subst (λ v. has_depth i v 1 ≡ true) t.2 deep)
