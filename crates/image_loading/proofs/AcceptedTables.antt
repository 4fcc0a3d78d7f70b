-- The rules of subprograms, objects, tasks and handler rows, from the faults that raw sections do not have.
use Rattle.std.proofs.Common.{◌≡◌, ℕ, ◌+◌, ◌*◌, ◌-◌, ◌≤◌, List, [], ◌∷◌, ◌++◌, length, take, Bool, true, false, not, ◌&&◌, ◌||◌, Option, Some, None, refl, sym, subst, arith, ⊎_elim}
use Rattle.std.specs.Prelude.{is_some, nat_eq, nat_le, nat_lt, slice_get}
use Rattle.std.specs.List.{list_all}
use Rattle.std.proofs.lemmas.Bool.{true≢false, leb-true, ltb-true}
use Rattle.std.proofs.lemmas.Bool.Decides.{eqb_tells}
use Rattle.handlers.specs.declared.rows.Row.{Row}
use Rattle.base.specs.Names.{is_name}
use Rattle.base.specs.declared.limits.TheConstants.{CEILING, CHANNELS, FRAME_WORDS, INSTRUCTIONS, SUBPROGRAMS, TASK_PRIORITY}
use Rattle.base.specs.declared.faults.TheConstants.{DEPTHS_DISAGREE, JUMP_OUTSIDE, NAMED_THING_MISSING, TABLES_DISAGREE}
use Rattle.image_loading.specs.declared.raw_sections.RawSubprogram.{RawSubprogram}
use Rattle.image.specs.declared.attachments.Attachment.{Attachment}
use Rattle.image.specs.declared.subprograms.Kind.{Kind}
use Rattle.image.specs.declared.subprograms.Kind.TheVariants.{Plain, ProtectedProcedure, ProtectedFunction, EntryBody, TaskBody}
use Rattle.image.specs.declared.subprograms.Subprogram.{Subprogram}
use Rattle.image.specs.declared.tasks.Task.{Task}
use Rattle.image_format.specs.Bytes.{kind_number}
use Rattle.image_loading.specs.Decoding.{object_from, sections_of, subprogram_from, task_from}
use Rattle.image_loading.specs.FaultOrder.{after, rule}
use Rattle.image_loading.specs.Loading.{attached_faults, attachment_faults, attachments_start, barrier_faults, behind_object, behind_row, behind_task, body_faults, ceiling_faults, code_start, crossing_faults, entry_body_faults, entry_called_faults, entry_faults, handler_faults, has_barrier, is_end, kind_faults, names_object, object_faults, objects_start, region_faults, row_faults, rows_start, size_faults, subprogram_faults, subprograms_start, target_faults, task_body_faults, task_faults, tasks_start, text_byte, word_of_barrier}
use Rattle.image.specs.ObjectTable.{ObjectRow}
use Rattle.image.specs.Operations.{called}
use Rattle.image_loading.specs.RawRows.{RawObjectRow, RawTaskRow}
use Rattle.image_loading.specs.Reading.{Raw}
use Rattle.image.specs.Rules.{are_attached, are_nested, covers_places, has_body, has_depth, has_ends, has_entry, has_object, is_attached, is_barrier, is_closed, is_closed_barrier, is_entry_body_of, is_entry_of_object, is_object, is_row_within, is_subprogram, is_task, is_task_body, is_within, may_handle, none_or, some_and}
use Rattle.image.specs.Sections.{Sections, end_of, first_place, object_of}
use Rattle.image_loading.proofs.Accepted.{append_none, begun_from, first_begin, join, kept, kept_where, map_at}
use Rattle.image_loading.proofs.AcceptedSections.{Clear, apart, counts_kept, name_short, none_at, same_text}
use Rattle.std.proofs.lemmas.Bool.{and_parts}
use Rattle.image.specs.RuleLaws.{either, rises, slice_get_inside}

-- Subprograms

pub record SubprogramKept (r : Raw) (k : ℕ) (s : Subprogram) : Type 0 where
  pub object : has_object (sections_of r) s ≡ true
  pub rules : is_subprogram (sections_of r) k s ≡ true
  pub ends : is_end (sections_of r) k s ≡ true
  pub closed : has_ends (sections_of r) ≡ true → is_closed (sections_of r) s ≡ true
  pub begins : has_ends (sections_of r) ≡ true → has_depth (sections_of r) (first_place (sections_of r) k) 0 ≡ true

either_other : (a b : Bool) → not a ≡ true → (a || b) ≡ true → b ≡ true
either_other true b n e = absurd (true≢false (sym n))
either_other false b n e = e

-- an object that is named is there
object_there : (kind : Kind) (object : ℕ) (test : ℕ → Bool) → names_object kind object ≡ true → (nat_eq object 65535 || none_or (object_of kind) test) ≡ true → none_or (object_of kind) test ≡ true
object_there Plain object test named e = refl
object_there TaskBody object test named e = refl
object_there (ProtectedProcedure o) object test named e = either_other (nat_eq object 65535) (test o) (and_parts (nat_eq o object) _ named).1 e
object_there (ProtectedFunction o) object test named e = either_other (nat_eq object 65535) (test o) (and_parts (nat_eq o object) _ named).1 e
object_there (EntryBody o) object test named e = either_other (nat_eq object 65535) (test o) (and_parts (nat_eq o object) _ named).1 e

-- a test that is asked of task bodies
pub where_body : (n p : ℕ) (body test : Bool) → rule n p (body && not test) ≡ [] → (not body || test) ≡ true
where_body n p true test e = kept n p test e
where_body n p false test e = refl

both_where : (body a b : Bool) → (not body || a) ≡ true → (not body || b) ≡ true → (not body || (a && b)) ≡ true
both_where true a b p q = join a b p q
both_where false a b p q = refl

pub subprogram_kept : (r : Raw) → Clear r → (k : ℕ) (s : Subprogram) → slice_get (sections_of r).subprograms k ≡ Some s → SubprogramKept r k s
subprogram_kept r c k s is =
    let i = sections_of r in
    let m = map_at subprogram_from r.subprograms k s is in
    let raw = m.0 in
    let w = none_at (behind_row 13) (subprogram_faults i (has_ends i) (code_start r)) r.subprograms (subprograms_start r) k raw c.subprograms m.1 in
    let byte = w.0 in
    subst (SubprogramKept r k) m.2 (subprogram_rules r k raw byte w.1)
  where
    subprogram_rules : (r : Raw) (k : ℕ) (raw : RawSubprogram) (byte : ℕ) → subprogram_faults (sections_of r) (has_ends (sections_of r)) (code_start r) k byte raw ≡ [] → SubprogramKept r k (subprogram_from raw)
    subprogram_rules r k raw byte e =
        let i = sections_of r in
        let s = subprogram_from raw in
        let code = code_start r in
        let ordered = has_ends i in
        let p = apart (kind_faults i k byte raw s) (size_faults byte s) (body_faults i ordered code k byte s) e in
        let q = apart (rule TABLES_DISAGREE byte (not (nat_eq (kind_number s.kind) raw.kind))) (rule NAMED_THING_MISSING (after byte 1) (not (nat_eq raw.object 65535 || has_object i s))) (rule TABLES_DISAGREE (after byte 1) (not (names_object s.kind raw.object && is_entry_of_object i k s.kind))) p.0 in
        let own = and_parts (names_object s.kind raw.object) (is_entry_of_object i k s.kind) (kept TABLES_DISAGREE (after byte 1) (names_object s.kind raw.object && is_entry_of_object i k s.kind) q.2) in
        let there = kept NAMED_THING_MISSING (after byte 1) (nat_eq raw.object 65535 || has_object i s) q.1 in
        let z = append_none (rule TABLES_DISAGREE (after byte 5) (is_task_body s.kind && not (nat_eq s.parameters 0)) ++ rule TABLES_DISAGREE (after byte 7) (is_task_body s.kind && not (nat_eq s.results 0)) ++ rule TABLES_DISAGREE (after byte 9) (not (nat_le s.parameters s.locals))) (rule TABLES_DISAGREE (after byte 11) (not (nat_le (s.locals + s.stack) FRAME_WORDS))) p.1 in
        let y = apart (rule TABLES_DISAGREE (after byte 5) (is_task_body s.kind && not (nat_eq s.parameters 0))) (rule TABLES_DISAGREE (after byte 7) (is_task_body s.kind && not (nat_eq s.results 0))) (rule TABLES_DISAGREE (after byte 9) (not (nat_le s.parameters s.locals))) z.0 in
        let x = apart (rule TABLES_DISAGREE (after byte 3) (not (is_end i k s))) (rule JUMP_OUTSIDE (after code (13 * (s.end_ - 1))) (ordered && not (is_closed i s))) (rule DEPTHS_DISAGREE (after code (13 * first_place i k + 1)) (ordered && not (has_depth i (first_place i k) 0))) p.2 in
        let bare = both_where (is_task_body s.kind) (nat_eq s.parameters 0) (nat_eq s.results 0) (where_body TABLES_DISAGREE (after byte 5) (is_task_body s.kind) (nat_eq s.parameters 0) y.0) (where_body TABLES_DISAGREE (after byte 7) (is_task_body s.kind) (nat_eq s.results 0) y.1) in
        record {
          object = object_there s.kind raw.object (λ o. nat_lt o (length i.objects)) own.0 there;
          rules = join _ _ (kept TABLES_DISAGREE (after byte 9) (nat_le s.parameters s.locals) y.2) (join _ _ (kept TABLES_DISAGREE (after byte 11) (nat_le (s.locals + s.stack) FRAME_WORDS) z.1) (join _ _ bare own.1));
          ends = kept TABLES_DISAGREE (after byte 3) (is_end i k s) x.0;
          closed = kept_where JUMP_OUTSIDE (after code (13 * (s.end_ - 1))) ordered (is_closed i s) x.1;
          begins = kept_where DEPTHS_DISAGREE (after code (13 * first_place i k + 1)) ordered (has_depth i (first_place i k) 0) x.2;
        }

same_eq : (a : ℕ) → nat_eq a a ≡ true
same_eq a = ⊎_elim (λ h. h.0) (λ h. absurd (h.1 refl)) (eqb_tells a a)

-- the ends are in order
pub ends_kept : (r : Raw) → Clear r → has_ends (sections_of r) ≡ true
ends_kept r c =
    let i = sections_of r in
    let counts = and_parts (is_within 1 (length i.instructions) INSTRUCTIONS) _ (counts_kept r c) in
    let many = and_parts (is_within 1 (length i.subprograms) SUBPROGRAMS) _ counts.1 in
    let some : 1 ≤ length i.subprograms = leb-true 1 (length i.subprograms) (and_parts (nat_le 1 (length i.subprograms)) (nat_le (length i.subprograms) SUBPROGRAMS) many.0).0 in
    let n = length i.subprograms - 1 in
    let l = slice_get_inside i.subprograms n (omega arith) in
    let e = subprogram_kept r c n l.0 l.1 in
    let next : n + 1 ≡ length i.subprograms = omega arith in
    let at_end : nat_eq l.0.end_ (length i.instructions) ≡ true = last_one (n + 1) (length i.subprograms) next (nat_eq l.0.end_ (length i.instructions)) (and_parts _ _ e.ends).1 in
    join _ _ (begun_from rises i.subprograms 0 (λ k s is. subst (λ v. nat_lt v s.end_ ≡ true) (first_begin i k) (and_parts (nat_lt (first_place i k) s.end_) _ (subprogram_kept r c k s is).ends).0))
    (subst (λ o. nat_eq (end_of o) (length i.instructions) ≡ true) (sym l.1) at_end)
  where
    last_one : (a b : ℕ) → a ≡ b → (t : Bool) → (not (nat_eq a b) || t) ≡ true → t ≡ true
    last_one a b is t e = either (nat_eq a b) t e (subst (λ v. nat_eq a v ≡ true) is (same_eq a))

-- Objects

entry_kept : (byte number : ℕ) (kind : Kind) → entry_body_faults byte number kind ≡ [] → is_entry_body_of number kind ≡ true
entry_kept byte number (EntryBody o) e = kept TABLES_DISAGREE (after byte 1) (nat_eq o number) e
entry_kept byte number Plain e = absurd cc
entry_kept byte number TaskBody e = absurd cc
entry_kept byte number (ProtectedProcedure o) e = absurd cc
entry_kept byte number (ProtectedFunction o) e = absurd cc

called_kept : (byte number : ℕ) (o : Option Subprogram) → entry_called_faults byte number o ≡ [] → none_or o (λ s. is_entry_body_of number s.kind) ≡ true
called_kept byte number None e = refl
called_kept byte number (Some s) e = entry_kept byte number s.kind e

named_kept : (i : Sections) (start number : ℕ) (entry : Option ℕ) → entry_faults i start number entry ≡ [] → none_or entry (λ n. none_or (slice_get i.subprograms n) (λ s. is_entry_body_of number s.kind)) ≡ true
named_kept i start number None e = refl
named_kept i start number (Some n) e = called_kept (after start (13 * n)) number (slice_get i.subprograms n) e

some_there : (o : Option ℕ) (b : Bool) → (is_some o || b) ≡ true → (some_and o (λ n. true) || b) ≡ true
some_there None b e = e
some_there (Some n) b e = refl

pub record ObjectKept (r : Raw) (k : ℕ) (o : ObjectRow) : Type 0 where
  pub entry : has_entry (sections_of r) o ≡ true
  pub rules : is_object (sections_of r) k o ≡ true

object_rules : (r : Raw) (k byte : ℕ) (raw : RawObjectRow) → object_faults (sections_of r) (subprograms_start r) k byte raw ≡ [] → ObjectKept r k (object_from raw)
object_rules r k byte raw e =
    let i = sections_of r in
    let o = object_from raw in
    let start = subprograms_start r in
    let p = apart (ceiling_faults i byte raw) (entry_faults i start k o.entry) (barrier_faults byte raw o) e in
    let a = append_none (rule TABLES_DISAGREE byte (not (nat_le raw.ceiling CEILING))) (rule NAMED_THING_MISSING (after byte 1) (not (has_entry i o))) p.0 in
    let b = apart (rule TABLES_DISAGREE (after byte 3) (not (has_barrier o raw.barrier))) (rule TABLES_DISAGREE (after byte 4) (not (nat_eq (word_of_barrier o.barrier) raw.barrier_word))) (rule TABLES_DISAGREE (after byte 6) (not (is_barrier o o.barrier))) p.2 in
    let opening = (and_parts _ _ (kept TABLES_DISAGREE (after byte 3) (has_barrier o raw.barrier) b.0)).1 in
    record {
      entry = kept NAMED_THING_MISSING (after byte 1) (has_entry i o) a.1;
      rules = join _ _ (kept TABLES_DISAGREE byte (nat_le raw.ceiling CEILING) a.0) (join _ _ (named_kept i start k o.entry p.1) (join _ _ (kept TABLES_DISAGREE (after byte 6) (is_barrier o o.barrier) b.2) (some_there o.entry (is_closed_barrier o.barrier) opening)));
    }

pub object_kept : (r : Raw) → Clear r → (k : ℕ) (o : ObjectRow) → slice_get (sections_of r).objects k ≡ Some o → ObjectKept r k o
object_kept r c k o is =
    let m = map_at object_from r.objects k o is in
    let w = none_at behind_object (object_faults (sections_of r) (subprograms_start r)) r.objects (objects_start r) k m.0 c.objects m.1 in
    subst (ObjectKept r k) m.2 (object_rules r k w.0 m.0 w.1)

-- Tasks

pub record TaskKept (r : Raw) (t : Task) : Type 0 where
  pub body : has_body (sections_of r) t ≡ true
  pub rules : is_task (sections_of r) t ≡ true

task_rules : (r : Raw) (k byte : ℕ) (raw : RawTaskRow) → task_faults (sections_of r) k byte raw ≡ [] → TaskKept r (task_from raw)
task_rules r k byte raw e =
    let i = sections_of r in
    let behind = after byte (length raw.name + 2) in
    let p = apart (rule TABLES_DISAGREE (text_byte byte raw.name) (not (is_name raw.name))) (rule TABLES_DISAGREE (after byte (length raw.name + 1)) (not (nat_le raw.priority TASK_PRIORITY))) (task_body_faults i behind raw.subprogram) e in
    let b = append_none (rule NAMED_THING_MISSING behind (not (nat_lt raw.subprogram (length i.subprograms)))) (rule TABLES_DISAGREE behind (not (none_or (slice_get i.subprograms raw.subprogram) (λ s. is_task_body s.kind)))) p.2 in
    let named = kept TABLES_DISAGREE (text_byte byte raw.name) (is_name raw.name) p.0 in
    record {
      body = kept NAMED_THING_MISSING behind (nat_lt raw.subprogram (length i.subprograms)) b.0;
      rules = join _ _ (subst (λ v. is_name v ≡ true) (sym (same_text raw.name (name_short raw.name named))) named) (join _ _ (kept TABLES_DISAGREE (after byte (length raw.name + 1)) (nat_le raw.priority TASK_PRIORITY) p.1) (kept TABLES_DISAGREE behind (none_or (slice_get i.subprograms raw.subprogram) (λ s. is_task_body s.kind)) b.1));
    }

pub task_kept : (r : Raw) → Clear r → (k : ℕ) (t : Task) → slice_get (sections_of r).tasks k ≡ Some t → TaskKept r t
task_kept r c k t is =
    let m = map_at task_from r.tasks k t is in
    let w = none_at behind_task (task_faults (sections_of r)) r.tasks (tasks_start r) k m.0 c.tasks m.1 in
    subst (TaskKept r) m.2 (task_rules r k w.0 m.0 w.1)

-- Handler rows

pub record RowKept (r : Raw) (k : ℕ) (row : Row) : Type 0 where
  pub covers : covers_places row ≡ true
  pub nested : list_all (are_nested row) (take k r.rows) ≡ true
  pub exception : nat_le row.exception (length (sections_of r).exceptions) ≡ true
  pub within : has_ends (sections_of r) ≡ true → is_row_within (sections_of r) row ≡ true
  pub target : has_ends (sections_of r) ≡ true → has_depth (sections_of r) row.target 1 ≡ true

pub row_kept : (r : Raw) → Clear r → (k : ℕ) (row : Row) → slice_get r.rows k ≡ Some row → RowKept r k row
row_kept r c k row is =
    let i = sections_of r in
    let ordered = has_ends i in
    let code = code_start r in
    let w = none_at (behind_row 8) (row_faults i ordered code) r.rows (rows_start r) k row c.rows is in
    let byte = w.0 in
    let p = append_none (region_faults i byte row) (target_faults i ordered code byte row) w.1 in
    let v = none_at (behind_row 8) (crossing_faults r.rows) r.rows (rows_start r) k row c.crossings is in
    let a = append_none (rule JUMP_OUTSIDE (after byte 2) (not (covers_places row))) (rule TABLES_DISAGREE (after byte 4) (not (nat_le row.exception (length i.exceptions)))) p.0 in
    let b = append_none (rule JUMP_OUTSIDE (after byte 6) (ordered && not (is_row_within i row))) (rule DEPTHS_DISAGREE (after code (13 * row.target + 1)) (ordered && not (has_depth i row.target 1))) p.1 in
    record {
      covers = kept JUMP_OUTSIDE (after byte 2) (covers_places row) a.0;
      nested = kept TABLES_DISAGREE (after v.0 2) (list_all (are_nested row) (take k r.rows)) v.1;
      exception = kept TABLES_DISAGREE (after byte 4) (nat_le row.exception (length i.exceptions)) a.1;
      within = kept_where JUMP_OUTSIDE (after byte 6) ordered (is_row_within i row) b.0;
      target = kept_where DEPTHS_DISAGREE (after code (13 * row.target + 1)) ordered (has_depth i row.target 1) b.1;
    }

-- Attachments

attachment_kept : (i : Sections) (last byte : ℕ) (a : Attachment) → attachment_faults i last byte a ≡ [] → is_attached i last a ≡ true
attachment_kept i last byte a e =
    let at = after byte 1 in
    let rises = nat_lt last a.channel && nat_le a.channel CHANNELS in
    let inside = nat_lt a.subprogram (length i.subprograms) in
    let handles = none_or (called i a.subprogram) (may_handle i) in
    let p = append_none (rule TABLES_DISAGREE byte (not rises)) (handler_faults i at a.subprogram) e in
    let q = append_none (rule NAMED_THING_MISSING at (not inside)) (rule TABLES_DISAGREE at (not handles)) p.1 in
    let channel = and_parts (nat_lt last a.channel) _ (kept TABLES_DISAGREE byte rises p.0) in
    let there = slice_get_inside i.subprograms a.subprogram (ltb-true a.subprogram (length i.subprograms) (kept NAMED_THING_MISSING at inside q.0)) in
    let may = subst (λ o. none_or o (may_handle i) ≡ true) there.1 (kept TABLES_DISAGREE at handles q.1) in
    join _ _ channel.0 (join _ _ channel.1 (subst (λ o. some_and o (may_handle i) ≡ true) (sym there.1) may))

attached_from : (i : Sections) (attachments : List Attachment) (last byte : ℕ) → attached_faults i last byte attachments ≡ []
    → are_attached i last attachments ≡ true
attached_from i [] last byte e = refl
attached_from i (a ∷ rest) last byte e =
    let p = append_none (attachment_faults i last byte a) (attached_faults i a.channel (after byte 3) rest) e in
    join _ _ (attachment_kept i last byte a p.0) (attached_from i rest a.channel (after byte 3) p.1)

pub attached_kept : (r : Raw) → Clear r → are_attached (sections_of r) 0 (sections_of r).attachments ≡ true
attached_kept r c = attached_from (sections_of r) r.attachments 0 (attachments_start r) c.attachments
