-- The tests that a well-formed image passes, one by one, for proofs here and above.
use Rattle.std.specs.Prelude.{◌≡◌, true, length, nat_le}
use Rattle.std.specs.List.{list_all}
use Rattle.std.proofs.lemmas.Bool.{and_parts}
use Rattle.base.specs.Names.{is_label, is_name, predefined}
use Rattle.image.specs.RuleLaws.{either}
use Rattle.image.specs.Rules.{IsWellFormed, are_attached, all_begun, all_nested, all_placed, begins_with, covers_places, has_body, has_counts, has_depth, has_ends, has_entry, has_object, has_operands, in_holder, is_closed, is_object, is_row_within, is_subprogram, is_task, jumps_within, keeps_depth, names_things, where_ends}
use Rattle.image.specs.Sections.{Sections}

pub record Facts (i : Sections) : Type 0 where
  pub counts : has_counts i ≡ true
  pub ends : has_ends i ≡ true
  pub subprograms : all_placed (is_subprogram i) 0 i.subprograms ≡ true
  pub objects : all_placed (is_object i) 0 i.objects ≡ true
  pub tasks : list_all (is_task i) i.tasks ≡ true
  pub begins : begins_with predefined i.exceptions ≡ true
  pub names : list_all is_name i.exceptions ≡ true
  pub labels : list_all is_label i.labels ≡ true
  pub row_exceptions : list_all (λ r. nat_le r.exception (length i.exceptions)) i.rows ≡ true
  pub nested : all_nested i.rows ≡ true
  pub attached : are_attached i 0 i.attachments ≡ true
  pub operands : list_all (λ x. has_operands x.operation) i.instructions ≡ true
  pub covers : list_all covers_places i.rows ≡ true
  pub jumps : all_placed (jumps_within i) 0 i.instructions ≡ true
  pub closed : list_all (is_closed i) i.subprograms ≡ true
  pub rows : list_all (is_row_within i) i.rows ≡ true
  pub named : all_placed (λ place x. in_holder i place (λ s. names_things i s x.operation)) 0 i.instructions ≡ true
  pub have_objects : list_all (has_object i) i.subprograms ≡ true
  pub have_entries : list_all (has_entry i) i.objects ≡ true
  pub have_bodies : list_all (has_body i) i.tasks ≡ true
  pub depths : all_placed (λ place x. in_holder i place (keeps_depth i place x)) 0 i.instructions ≡ true
  pub empty : all_begun (λ first s. has_depth i first 0) 0 i.subprograms ≡ true
  pub targets : list_all (λ r. has_depth i r.target 1) i.rows ≡ true

pub facts : (i : Sections) → IsWellFormed i → Facts i
facts i w =
    let a = and_parts (has_counts i) _ w.tables in
    let b = and_parts (has_ends i) _ a.1 in
    let c = and_parts (all_placed (is_subprogram i) 0 i.subprograms) _ b.1 in
    let d = and_parts (all_placed (is_object i) 0 i.objects) _ c.1 in
    let e = and_parts (list_all (is_task i) i.tasks) _ d.1 in
    let f = and_parts (begins_with predefined i.exceptions) _ e.1 in
    let g = and_parts (list_all is_name i.exceptions) _ f.1 in
    let h = and_parts (list_all is_label i.labels) _ g.1 in
    let k = and_parts (list_all (λ r. nat_le r.exception (length i.exceptions)) i.rows) _ h.1 in
    let v = and_parts (are_attached i 0 i.attachments) _ k.1 in
    let l = and_parts (list_all covers_places i.rows) _ w.jumps in
    let m = and_parts (all_placed (jumps_within i) 0 i.instructions) _ (either (has_ends i) _ l.1 b.0) in
    let n = and_parts (list_all (is_closed i) i.subprograms) _ m.1 in
    let o = and_parts (where_ends i (all_placed (λ place x. in_holder i place (λ s. names_things i s x.operation)) 0 i.instructions)) _ w.named in
    let p = and_parts (list_all (has_object i) i.subprograms) _ o.1 in
    let q = and_parts (list_all (has_entry i) i.objects) _ p.1 in
    let r = and_parts (all_placed (λ place x. in_holder i place (keeps_depth i place x)) 0 i.instructions) _ (either (has_ends i) _ w.depths b.0) in
    let s = and_parts (all_begun (λ first s. has_depth i first 0) 0 i.subprograms) _ r.1 in
    record {
      counts = a.0;
      ends = b.0;
      subprograms = c.0;
      objects = d.0;
      tasks = e.0;
      begins = f.0;
      names = g.0;
      labels = h.0;
      row_exceptions = k.0;
      nested = v.1;
      attached = v.0;
      operands = w.operands;
      covers = l.0;
      jumps = m.0;
      closed = n.0;
      rows = n.1;
      named = either (has_ends i) _ o.0 b.0;
      have_objects = p.0;
      have_entries = q.0;
      have_bodies = q.1;
      depths = r.0;
      empty = s.0;
      targets = s.1;
    }
