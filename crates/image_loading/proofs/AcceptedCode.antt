-- Raw sections without a fault stand for a well-formed image: the rules of instructions, and all rules together.
use Rattle.std.proofs.Common.{◌≡◌, ℕ, ◌+◌, ◌*◌, ◌-◌, ◌<◌, List, [], ◌++◌, length, Bool, true, false, not, ◌&&◌, ◌||◌, Option, Some, None, refl, sym, subst, arith}
use Rattle.std.specs.Prelude.{is_some, nat_eq, nat_le, nat_lt, slice_get, unwrap_or, if◌then◌else◌}
use Rattle.std.proofs.lemmas.Option.{slice_get_within}
use Rattle.base.specs.declared.faults.TheConstants.{DEPTHS_DISAGREE, JUMP_OUTSIDE, NAMED_THING_MISSING, OPERAND_OUT_OF_RANGE}
use Rattle.image.specs.declared.instruction.Instr.{Instr}
use Rattle.image.specs.declared.instruction.Operation.{Operation}
use Rattle.image.specs.declared.instruction.Operation.TheVariants.{Raise}
use Rattle.image_loading.specs.declared.raw_sections.RawInstruction.{RawInstruction}
use Rattle.image.specs.declared.subprograms.Subprogram.{Subprogram}
use Rattle.image_format.specs.Bytes.{address_of, constant_of}
use Rattle.image_loading.specs.Decoding.{instruction_of, operation_of, sections_of}
use Rattle.image_loading.specs.FaultOrder.{ImageFaults, after, rule}
use Rattle.image_loading.specs.Loading.{behind_row, code_faults, code_start, each, effect_faults, held_faults, instruction_faults, jump_faults, may_use_object, operand_faults, operation_faults, place_faults, sections_faults}
use Rattle.image.specs.Operations.{goes_on, jump_target, taken_by}
use Rattle.image_loading.specs.Reading.{Raw}
use Rattle.image.specs.Rules.{IsWellFormed, all_placed, covers_places, depth_after, has_body, has_depth, has_effect, has_ends, has_entry, has_object, has_operands, in_holder, is_closed, is_object, is_return, is_row_within, is_subprogram, is_task, jumps_within, keeps_depth, last_end, leaves_depth, names_things, none_or, some_and}
use Rattle.image.specs.Scalars.{are_equal}
use Rattle.image.specs.Sections.{Sections, holder}
use Rattle.image_loading.proofs.Accepted.{all_from, append_none, begun_from, first_begin, held_before, join, kept, map_at, nested_from, placed_from}
use Rattle.image_loading.proofs.AcceptedSections.{Clear, apart, clear, counts_kept, exceptions_kept, labels_kept, none_at, predefined_kept}
use Rattle.image_loading.proofs.AcceptedTables.{attached_kept, ends_kept, object_kept, row_kept, subprogram_kept, task_kept, where_body}
use Rattle.std.proofs.lemmas.Bool.{and_parts, eqb-true}

-- Operands

pub record OperandsKept (x : RawInstruction) : Type 0 where
  pub operation : Operation
  pub is : operation_of x ≡ Some operation
  pub address : nat_eq (address_of operation) x.address ≡ true
  pub constant : are_equal (constant_of operation) x.constant ≡ true
  pub operands : has_operands operation ≡ true

operand_rules : (byte : ℕ) (x : RawInstruction) (o : Option Operation) → operation_of x ≡ o → operand_faults byte x o ≡ [] → OperandsKept x
operand_rules byte x None is e = absurd cc
operand_rules byte x (Some op) is e =
    let p = append_none (rule OPERAND_OUT_OF_RANGE (after byte 3) (not (nat_eq (address_of op) x.address))) (rule OPERAND_OUT_OF_RANGE (after byte 5) (not (are_equal (constant_of op) x.constant && has_operands op))) e in
    let k = and_parts (are_equal (constant_of op) x.constant) (has_operands op) (kept OPERAND_OUT_OF_RANGE (after byte 5) (are_equal (constant_of op) x.constant && has_operands op) p.1) in
    record { operation = op; is = is; address = kept OPERAND_OUT_OF_RANGE (after byte 3) (nat_eq (address_of op) x.address) p.0; constant = k.0; operands = k.1 }

pub operands_kept : (r : Raw) → Clear r → (k : ℕ) (x : RawInstruction) → slice_get r.instructions k ≡ Some x → OperandsKept x
operands_kept r c k x is =
    let w = none_at (behind_row 13) instruction_faults r.instructions (code_start r) k x c.operands is in
    operand_rules w.0 x (operation_of x) refl w.1

-- Instructions in their subprograms

taken_or : (b : Bool) (fs gs : ImageFaults) → (if b then fs else gs) ≡ [] → (gs ≡ [] → ⊥) → (b ≡ true) × (fs ≡ [])
taken_or true fs gs e never = (refl, e)
taken_or false fs gs e never = absurd (never e)

where_known : (b : Bool) (fs : ImageFaults) (t : Bool) → (if b then fs else []) ≡ [] → (fs ≡ [] → t ≡ true) → (not b || t) ≡ true
where_known true fs t e then_ = then_ e
where_known false fs t e then_ = refl

broken_rule : (n p : ℕ) → rule n p true ≡ [] → ⊥
broken_rule n p e = cc

jump_rules : (i : Sections) (code place byte depth : ℕ) (o : Option ℕ) → jump_faults i code place byte depth o ≡ [] → none_or o (λ a. has_depth i a depth) ≡ true
jump_rules i code place byte depth None e = refl
jump_rules i code place byte depth (Some a) e = kept DEPTHS_DISAGREE (if nat_lt place a then after code (13 * a + 1) else after byte 1) (has_depth i a depth) e

effect_rules : (i : Sections) (code place byte : ℕ) (x : Instr) (s : Subprogram) → effect_faults i code place byte x s ≡ [] → leaves_depth i place x s ≡ true
effect_rules i code place byte x s e =
    let left = depth_after i s x in
    let a = rule DEPTHS_DISAGREE (after byte 1) (not (nat_le left s.stack)) in
    let b = rule DEPTHS_DISAGREE (after byte 14) (goes_on x.operation && not (has_depth i (place + 1) left)) in
    let j = jump_faults i code place byte left (jump_target x.operation) in
    let t = taken_or (nat_le (taken_by i s.results x.operation) x.depth) (a ++ b ++ j) (rule DEPTHS_DISAGREE (after byte 1) true) e (broken_rule DEPTHS_DISAGREE (after byte 1)) in
    let p = apart a b j t.1 in
    join _ _ t.0
    (join _ _ (kept DEPTHS_DISAGREE (after byte 1) (nat_le left s.stack) p.0)
    (join _ _ (where_body DEPTHS_DISAGREE (after byte 14) (goes_on x.operation) (has_depth i (place + 1) left) p.1) (jump_rules i code place byte left (jump_target x.operation) p.2)))

pub record PlaceKept (i : Sections) (place : ℕ) (x : Instr) : Type 0 where
  pub jumps : jumps_within i place x ≡ true
  pub names : in_holder i place (λ s. names_things i s x.operation) ≡ true
  pub depths : in_holder i place (keeps_depth i place x) ≡ true

held_rules : (i : Sections) (code place byte : ℕ) (x : RawInstruction) (s : Subprogram) → holder i.subprograms place ≡ Some s → is_some (operation_of x) ≡ true → held_faults i code place byte x s ≡ [] → PlaceKept i place (instruction_of x)
held_rules i code place byte x s held known e =
    let y = instruction_of x in
    let p = append_none (rule DEPTHS_DISAGREE (after byte 1) (not (nat_le x.depth s.stack))) (if is_some (operation_of x) then operation_faults i code place byte y s else []) e in
    let all : operation_faults i code place byte y s ≡ [] = subst (λ b. (if b then operation_faults i code place byte y s else []) ≡ []) known p.1 in
    let named = if may_use_object s y.operation then after byte 3 else byte in
    let q = append_none (rule JUMP_OUTSIDE (after byte 3) (not (jumps_within i place y)) ++ rule NAMED_THING_MISSING named (not (names_things i s y.operation)) ++ rule DEPTHS_DISAGREE (after byte 1) (is_return y.operation && not (nat_eq y.depth s.results))) (if has_effect i y.operation then effect_faults i code place byte y s else []) all in
    let z = apart (rule JUMP_OUTSIDE (after byte 3) (not (jumps_within i place y))) (rule NAMED_THING_MISSING named (not (names_things i s y.operation))) (rule DEPTHS_DISAGREE (after byte 1) (is_return y.operation && not (nat_eq y.depth s.results))) q.0 in
    let depth =
    join _ _ (kept DEPTHS_DISAGREE (after byte 1) (nat_le x.depth s.stack) p.0)
    (join _ _ (where_body DEPTHS_DISAGREE (after byte 1) (is_return y.operation) (nat_eq y.depth s.results) z.2) (where_known (has_effect i y.operation) (effect_faults i code place byte y s) (leaves_depth i place y s) q.1 (effect_rules i code place byte y s))) in
    record {
      jumps = kept JUMP_OUTSIDE (after byte 3) (jumps_within i place y) z.0;
      names = subst (λ o. some_and o (λ t. names_things i t y.operation) ≡ true) (sym held) (kept NAMED_THING_MISSING named (names_things i s y.operation) z.1);
      depths = subst (λ o. some_and o (keeps_depth i place y) ≡ true) (sym held) depth;
    }

pub place_kept : (r : Raw) → Clear r → (k : ℕ) (x : Instr) → slice_get (sections_of r).instructions k ≡ Some x → PlaceKept (sections_of r) k x
place_kept r c k x is =
    let i = sections_of r in
    let code = code_start r in
    let m = map_at instruction_of r.instructions k x is in
    let o = operands_kept r c k m.0 m.1 in
    let ends = ends_kept r c in
    let all : each (behind_row 13) (place_faults i code) 0 code r.instructions ≡ [] = subst (λ b. (if b then each (behind_row 13) (place_faults i code) 0 code r.instructions else []) ≡ []) ends c.places in
    let w = none_at (behind_row 13) (place_faults i code) r.instructions code k m.0 all m.1 in
    let last : last_end i.subprograms ≡ length i.instructions = eqb-true (last_end i.subprograms) (length i.instructions) (and_parts _ _ ends).1 in
    let inside = slice_get_within i.instructions k x is in
    let h = held_before i.subprograms (length i.subprograms - 1) k (subst (λ v. k < v) (sym last) inside) in
    let e : held_faults i code k w.0 m.0 h.0 ≡ [] = subst (λ v. code_faults i code k w.0 m.0 v ≡ []) h.1 w.1 in
    subst (PlaceKept i k) m.2 (held_rules i code k w.0 m.0 h.0 h.1 (subst (λ v. is_some v ≡ true) (sym o.is) refl) e)

-- All rules

asked : (a b : Bool) → b ≡ true → (not a || b) ≡ true
asked true b e = e
asked false b e = refl

placed : {X : Type 0} (test : ℕ → X → Bool) (xs : List X) → ((k : ℕ) (x : X) → slice_get xs k ≡ Some x → test k x ≡ true) → all_placed test 0 xs ≡ true
placed test xs h = placed_from test xs 0 (λ k x is. let s : 0 + k ≡ k = omega arith in rw s (h k x is))

pub accepted : (r : Raw) → sections_faults r ≡ [] → IsWellFormed (sections_of r)
accepted r none =
    let i = sections_of r in
    let c = clear r none in
    let ends = ends_kept r c in
    record {
      operands =
          all_from (λ x. has_operands x.operation) i.instructions
          (λ k x is.
          let m = map_at instruction_of r.instructions k x is in
          let o = operands_kept r c k m.0 m.1 in
          subst (λ v. has_operands v.operation ≡ true) m.2 (subst (λ v. has_operands (unwrap_or v Raise) ≡ true) (sym o.is) o.operands));
      jumps =
          join _ _ (all_from covers_places i.rows (λ k row is. (row_kept r c k row is).covers))
          (asked (has_ends i) _
          (join _ _ (placed (jumps_within i) i.instructions (λ k x is. (place_kept r c k x is).jumps))
          (join _ _ (all_from (is_closed i) i.subprograms (λ k s is. (subprogram_kept r c k s is).closed ends)) (all_from (is_row_within i) i.rows (λ k row is. (row_kept r c k row is).within ends)))));
      named =
          join _ _ (asked (has_ends i) _ (placed (λ place x. in_holder i place (λ s. names_things i s x.operation)) i.instructions (λ k x is. (place_kept r c k x is).names)))
          (join _ _ (all_from (has_object i) i.subprograms (λ k s is. (subprogram_kept r c k s is).object))
          (join _ _ (all_from (has_entry i) i.objects (λ k o is. (object_kept r c k o is).entry)) (all_from (has_body i) i.tasks (λ k t is. (task_kept r c k t is).body))));
      depths =
          asked (has_ends i) _
          (join _ _ (placed (λ place x. in_holder i place (keeps_depth i place x)) i.instructions (λ k x is. (place_kept r c k x is).depths))
          (join _ _
          (begun_from (λ first s. has_depth i first 0) i.subprograms 0 (λ k s is. subst (λ v. has_depth i v 0 ≡ true) (first_begin i k) ((subprogram_kept r c k s is).begins ends)))
          (all_from (λ row. has_depth i row.target 1) i.rows (λ k row is. (row_kept r c k row is).target ends))));
      tables =
          join _ _ (counts_kept r c)
          (join _ _ ends
          (join _ _ (placed (is_subprogram i) i.subprograms (λ k s is. (subprogram_kept r c k s is).rules))
          (join _ _ (placed (is_object i) i.objects (λ k o is. (object_kept r c k o is).rules))
          (join _ _ (all_from (is_task i) i.tasks (λ k t is. (task_kept r c k t is).rules))
          (join _ _ (predefined_kept r c)
          (join _ _ (exceptions_kept r c)
          (join _ _ (labels_kept r c)
          (join _ _ (all_from (λ row. nat_le row.exception (length i.exceptions)) i.rows (λ k row is. (row_kept r c k row is).exception))
          (join _ _ (attached_kept r c) (nested_from i.rows (λ k row is. (row_kept r c k row is).nested)))))))))));
    }
