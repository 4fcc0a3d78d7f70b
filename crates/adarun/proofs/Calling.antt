-- A frame above another one of a well-formed image runs a subprogram that may be called.
use Rattle.std.proofs.Common.{◌≡◌, ℕ, zero, suc, ◌+◌, ◌<◌, ◌≤◌, List, [], ◌∷◌, length, Option, Some, None, Bool, true, false, refl, sym, ◌∙◌, subst, ⊎_elim, arith, rules}
use Rattle.std.specs.Prelude.{◌&&◌, ◌||◌, nat_le, nat_lt, slice_get}
use Rattle.std.specs.List.{list_all}
use Rattle.std.proofs.lemmas.Bool.{and_parts, cases_lt, le-ltb, true≢false}
use Rattle.base.specs.Names.{is_label, is_name, predefined}
use Rattle.base.specs.declared.limits.TheConstants.{CEILING, FRAMES}
use Rattle.image.specs.Frames.{Frame, Inner, Opened, Role, Serving, TaskState, frames_counted}
use Rattle.image.specs.ObjectTable.{ObjectRow}
use Rattle.image.specs.Operations.{called, entry_of}
use Rattle.image.specs.Rules.{IsWellFormed, all_nested, all_placed, are_attached, begins_with, calls_inside, has_body, has_counts, has_ends, has_entry, has_object, in_holder, is_barrier, is_closed_barrier, is_entry_body_of, is_external, is_object, is_plain, is_subprogram, is_task, is_task_body, named_things_exist, names_things, none_or, some_and, tables_agree, where_ends}
use Rattle.image.specs.Sections.{Sections}
use Rattle.image.specs.declared.instruction.Operation.{Operation}
use Rattle.image.specs.declared.instruction.Operation.TheVariants.{Call, EntryCall, ProtectedCall}
use Rattle.image.specs.declared.subprograms.Kind.{Kind}
use Rattle.image.specs.declared.subprograms.Kind.TheVariants.{EntryBody, Plain, ProtectedFunction, ProtectedProcedure, TaskBody}
use Rattle.image.specs.declared.subprograms.Subprogram.{Subprogram}
use Rattle.image_laws.specs.Laws.{CodeLeadsOn}
use Rattle.image_laws.specs.Shape.{AreBelow, IsSound, IsWaiting, callee}
use Rattle.compiler.specs.meaning.specs.SameMeaning.{frames_of}

-- ---- kinds

plain_kind : (k : Kind) → is_plain k ≡ true → is_task_body k ≡ false
plain_kind Plain e = refl
plain_kind (ProtectedProcedure o) e = refl
plain_kind (ProtectedFunction o) e = refl
plain_kind (EntryBody o) e = refl
plain_kind TaskBody e = absurd cc

inside_kind : (a b : Kind) → calls_inside a b ≡ true → is_task_body b ≡ false
inside_kind a Plain e = refl
inside_kind a (ProtectedProcedure o) e = refl
inside_kind a (ProtectedFunction o) e = refl
inside_kind a (EntryBody o) e = refl
inside_kind Plain TaskBody e = absurd cc
inside_kind (ProtectedProcedure o) TaskBody e = absurd cc
inside_kind (ProtectedFunction o) TaskBody e = absurd cc
inside_kind (EntryBody o) TaskBody e = absurd cc
inside_kind TaskBody TaskBody e = absurd cc

called_kind : (a b : Kind) (plain : Bool) → is_plain b ≡ plain → (plain || calls_inside a b) ≡ true → is_task_body b ≡ false
called_kind a b true e h = plain_kind b e
called_kind a b false e h = inside_kind a b h

external_kind : (k : Kind) → is_external k ≡ true → is_task_body k ≡ false
external_kind Plain e = refl
external_kind (ProtectedProcedure o) e = refl
external_kind (ProtectedFunction o) e = refl
external_kind (EntryBody o) e = refl
external_kind TaskBody e = absurd cc

entry_kind : (o : ℕ) (k : Kind) → is_entry_body_of o k ≡ true → is_task_body k ≡ false
entry_kind o Plain e = refl
entry_kind o (ProtectedProcedure p) e = refl
entry_kind o (ProtectedFunction p) e = refl
entry_kind o (EntryBody p) e = refl
entry_kind o TaskBody e = absurd cc

some_there : {X : Type 0} (o : Option X) (test : X → Bool) → some_and o test ≡ true → (x : X) × ((o ≡ Some x) × (test x ≡ true))
some_there None test e = absurd cc
some_there (Some x) test e = (x, (refl, e))

placed_there : {X : Type 0} (test : ℕ → X → Bool) (first n : ℕ) (xs : List X) (x : X)
    → all_placed test first xs ≡ true → slice_get xs n ≡ Some x
    → test (first + n) x ≡ true
placed_there test first n [] x all e = absurd cc
placed_there test first zero (y ∷ ys) x all e =
    let same : y ≡ x = cc in
    let here : first + 0 ≡ first = omega arith in
    subst (λ m. test m x ≡ true) (sym here)
    (subst (λ z. test first z ≡ true) same (and_parts (test first y) (all_placed test (first + 1) ys) all).0)
placed_there test first (suc n) (y ∷ ys) x all e =
    let there : first + 1 + n ≡ first + suc n = omega arith in
    subst (λ m. test m x ≡ true) there
    (placed_there test (first + 1) n ys x (and_parts (test first y) (all_placed test (first + 1) ys) all).1 e)

all_there : {X : Type 0} (test : X → Bool) (n : ℕ) (xs : List X) (x : X) → list_all test xs ≡ true → slice_get xs n ≡ Some x → test x ≡ true
all_there test n [] x all e = absurd cc
all_there test zero (y ∷ ys) x all e =
    let same : y ≡ x = cc in
    subst (λ z. test z ≡ true) same (and_parts (test y) (list_all test ys) all).0
all_there test (suc n) (y ∷ ys) x all e = all_there test n ys x (and_parts (test y) (list_all test ys) all).1 e

there_is : {X : Type 0} (xs : List X) (n : ℕ) → n < length xs → (x : X) × (slice_get xs n ≡ Some x)
there_is [] n less = absurd (omega (arith, less))
there_is (x ∷ xs) zero less = (x, refl)
there_is (x ∷ xs) (suc n) less = there_is xs n (omega (arith, less))

below : (m n : ℕ) → nat_lt m n ≡ true → m < n
below m n e = ⊎_elim (λ less. less) (λ le. absurd (true≢false (sym e ∙ le-ltb m n le))) (cases_lt m n)

third_of : (a b c d : Bool) → (a && (b && (c && d))) ≡ true → c ≡ true
third_of a b c d h = (and_parts c d (and_parts b (c && d) (and_parts a (b && (c && d)) h).1).1).0

fourth_of : (a b c d e : Bool) → (a && (b && (c && (d && e)))) ≡ true → d ≡ true
fourth_of a b c d e h = third_of b c d e (and_parts a (b && (c && (d && e))) h).1

-- ---- what is called

module _ (leads : CodeLeadsOn) (i : Sections) (well_formed : IsWellFormed i) where
  -- the subprogram of this number is there, and is no task's
  pub record IsCallable (n : ℕ) : Type 0 where
    pub s : Subprogram
    pub there : called i n ≡ Some s
    pub callable : is_task_body s.kind ≡ false

  -- ---- the entry of an object

  abbrev rest_agree : Bool
  rest_agree =
      list_all (is_task i) i.tasks
      && (begins_with predefined i.exceptions
      && (list_all is_name i.exceptions
      && (list_all is_label i.labels
      && (list_all (λ r. nat_le r.exception (length i.exceptions)) i.rows
      && (are_attached i 0 i.attachments && all_nested i.rows)))))

  objects_agree : all_placed (is_object i) 0 i.objects ≡ true
  objects_agree =
      fourth_of (has_counts i) (has_ends i) (all_placed (is_subprogram i) 0 i.subprograms) (all_placed (is_object i) 0 i.objects) rest_agree agree
    where
      agree : tables_agree i ≡ true
      agree = let h = well_formed.tables in search rules

  entries_there : list_all (has_entry i) i.objects ≡ true
  entries_there =
      third_of (where_ends i (all_placed (λ place x. in_holder i place (λ s. names_things i s x.operation)) 0 i.instructions))
      (list_all (has_object i) i.subprograms) (list_all (has_entry i) i.objects) (list_all (has_body i) i.tasks) named
    where
      named : named_things_exist i ≡ true
      named = let h = well_formed.named in search rules

  entry_numbered : (n : ℕ) (row : ObjectRow) → row.entry ≡ Some n → has_entry i row ≡ true → nat_lt n (length i.subprograms) ≡ true
  entry_numbered n row is h = subst (λ e. none_or e (λ m. nat_lt m (length i.subprograms)) ≡ true) is h

  entry_body : (o n : ℕ) (row : ObjectRow) (s : Subprogram) → row.entry ≡ Some n → called i n ≡ Some s → is_object i o row ≡ true
      → is_entry_body_of o s.kind ≡ true
  entry_body o n row s is there h =
      let bodied = third_of true (nat_le row.ceiling CEILING) (none_or row.entry (λ m. none_or (slice_get i.subprograms m) (λ c. is_entry_body_of o c.kind)))
      (is_barrier row row.barrier && (some_and row.entry (λ m. true) || is_closed_barrier row.barrier)) h in
      subst (λ c. none_or c (λ z. is_entry_body_of o z.kind) ≡ true) there
      (subst (λ e. none_or e (λ m. none_or (slice_get i.subprograms m) (λ c. is_entry_body_of o c.kind)) ≡ true) is bodied)

  entry_at : (o n : ℕ) (found : Option ObjectRow) → slice_get i.objects o ≡ found → entry_of found ≡ Some n → IsCallable n
  entry_at o n None there is = absurd cc
  entry_at o n (Some row) there is =
      let less = below n (length i.subprograms) (entry_numbered n row is (all_there (has_entry i) o i.objects row entries_there there)) in
      let s = there_is i.subprograms n less in
      let first : 0 + o ≡ o = omega arith in
      let object : is_object i o row ≡ true =
      subst (λ m. is_object i m row ≡ true) first (placed_there (is_object i) 0 o i.objects row objects_agree there) in
      record { s = s.0; there = s.1; callable = entry_kind o s.0.kind (entry_body o n row s.0 is s.1 object) }

  -- ---- a frame that waits

  of_operation : (s : Subprogram) (x : Operation) (n : ℕ) → callee i x ≡ Some n → names_things i s x ≡ true → IsCallable n
  of_operation s (Call m) n is names =
      let same : m ≡ n = cc in
      let c = some_there (called i m) (λ c. is_plain c.kind || calls_inside s.kind c.kind) names in
      subst IsCallable same (record { s = c.0; there = c.1.0; callable = called_kind s.kind c.0.kind (is_plain c.0.kind) refl c.1.1 })
  of_operation s (ProtectedCall m) n is names =
      let same : m ≡ n = cc in
      let c = some_there (called i m) (λ c. is_external c.kind) names in
      subst IsCallable same (record { s = c.0; there = c.1.0; callable = external_kind c.0.kind c.1.1 })
  of_operation s (EntryCall o) n is names = entry_at o n (slice_get i.objects o) refl is
  of_operation s _ n is names = absurd cc

  waits : (n : ℕ) (f : Frame) → IsWaiting i n f → IsCallable n
  waits n f w =
      let on = leads i well_formed f.place w.s w.x w.stands.instruction w.stands.within in
      of_operation w.s w.x.operation n w.calls on.names

  -- how many frames of a task never are called: its lowest one; of a handler the one that never runs, and that of its procedure
  abbrev pub uncalled : (own : Bool) → ℕ
  uncalled true = 1
  uncalled false = 2

  above : (own : Bool) (role : Role) (n : ℕ) (fs : List Frame) → AreBelow i own role n fs → uncalled own < suc (length fs) → IsCallable n
  above true role n [] below less = absurd (omega (arith, less))
  above false role n [] below less = absurd (omega (arith, less))
  above own Inner n (c ∷ cs) below less = waits n c below.0
  above true (Opened o) n (c ∷ cs) below less = waits n c below.0
  above false (Opened o) n (c ∷ []) below less = absurd (omega (arith, less))
  above false (Opened o) n (c ∷ d ∷ cs) below less = waits n c below.0
  above own (Serving o u pending) n (c ∷ cs) below less = entry_at o n (slice_get i.objects o) refl below.0

  pub runs_callable : (own : Bool) (s : TaskState) → IsSound i own s → uncalled own < frames_of s → IsCallable s.frame.subprogram
  runs_callable own s sound less = above own s.frame.role s.frame.subprogram s.callers sound.below less

-- at most one frame more is there than may be in use
pub few_frames : (own : Bool) (fs : List Frame) → frames_counted own fs ≤ FRAMES → suc (length fs) ≤ suc FRAMES
few_frames true fs h = omega (arith, h)
few_frames false fs h = omega (arith, h)
