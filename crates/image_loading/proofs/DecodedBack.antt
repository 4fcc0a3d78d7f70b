-- What the numbers of an image's elements stand for are these elements.
use Rattle.std.proofs.Common.{◌≡◌, ℕ, suc, ◌+◌, ◌*◌, ◌<◌, ◌≤◌, pos, List, [], ◌∷◌, map, true, cond, Option, Some, None, refl, ap, ◌∙◌, arith, ⊎_elim}
use Rattle.std.specs.Prelude.{nat_le, slice_get, unwrap_or}
use Rattle.std.proofs.lemmas.Bool.{leb-true}
use Rattle.std.proofs.lemmas.Bool.Decides.{eqb_tells, leb_tells}
use Rattle.base.specs.Names.{is_name}
use Rattle.base.specs.declared.limits.TheConstants.{WORDS}
use Rattle.image.specs.ObjectTable.{ObjectRow}
use Rattle.image.specs.Rules.{has_operands, is_block}
use Rattle.image.specs.declared.instruction.Instr.{Instr}
use Rattle.image.specs.declared.instruction.Operation.{Operation}
use Rattle.image.specs.declared.instruction.Operation.TheVariants.{LoadIndexed, StoreIndexed, LoadBlock, StoreBlock, Copy, Raise}
use Rattle.image.specs.declared.instruction.Region.{Region}
use Rattle.image.specs.declared.instruction.Region.TheVariants as regions
use Rattle.image.specs.declared.objects.Barrier.{Barrier}
use Rattle.image.specs.declared.objects.Barrier.TheVariants.{Closed, Open, Word}
use Rattle.image.specs.declared.subprograms.Kind.{Kind}
use Rattle.image.specs.declared.subprograms.Kind.TheVariants.{Plain, ProtectedProcedure, ProtectedFunction, EntryBody, TaskBody}
use Rattle.image.specs.declared.subprograms.Subprogram.{Subprogram}
use Rattle.image.specs.declared.tasks.Task.{Task}
use Rattle.image_format.specs.Bytes.{address_of, constant_of, kind_number, opcode_of, region_number}
use Rattle.image_loading.specs.Decoding.{barrier_from, block_from, entry_from, instruction_of, kind_from, object_from, operation_from, region_from, subprogram_from, task_from}
use Rattle.image_loading.specs.Loading.{barrier_number, object_of_kind, word_of_barrier}
use Rattle.image_loading.proofs.AcceptedSections.{name_short, same_text}
use Rattle.image_loading.proofs.ReadBack.{raw_instruction, raw_object, raw_subprogram, raw_task}
use Rattle.std.proofs.lemmas.Bool.{and_parts}

pub map_back : {X Y : Type 0} (of : X → Y) (from : Y → X) (xs : List X) → ((k : ℕ) (x : X) → slice_get xs k ≡ Some x → from (of x) ≡ x) → map from (map of xs) ≡ xs
map_back of from [] h = refl
map_back of from (x ∷ xs) h = λ j. h 0 x refl j ∷ map_back of from xs (λ k y is. h (suc k) y is) j

pub map_kept : {X : Type 0} (f : X → X) (xs : List X) → ((k : ℕ) (x : X) → slice_get xs k ≡ Some x → f x ≡ x) → map f xs ≡ xs
map_kept f [] h = refl
map_kept f (x ∷ xs) h = λ j. h 0 x refl j ∷ map_kept f xs (λ k y is. h (suc k) y is) j

pub region_back : (r : Region) → region_from (region_number r) ≡ r
region_back regions.Locals = refl
region_back regions.Plain = refl
region_back regions.Object = refl

pub block_back : (n : ℕ) → is_block n ≡ true → block_from (pos n) ≡ n
block_back n e =
    let few : n ≤ WORDS = leb-true n WORDS (and_parts (nat_le 1 n) (nat_le n WORDS) e).1 in
    ⊎_elim (λ h. ap (λ b. cond b n 65535) h.0) (λ h. absurd (omega (arith, few, h.1))) (leb_tells n 65535)

copy_regions : (t s : Region) (n : ℕ) → operation_from 14 (3 * region_number t + region_number s) (pos n) ≡ Some (Copy t s (block_from (pos n)))
unfolding operation_from
copy_regions regions.Locals regions.Locals n = refl
copy_regions regions.Locals regions.Plain n = refl
copy_regions regions.Locals regions.Object n = refl
copy_regions regions.Plain regions.Locals n = refl
copy_regions regions.Plain regions.Plain n = refl
copy_regions regions.Plain regions.Object n = refl
copy_regions regions.Object regions.Locals n = refl
copy_regions regions.Object regions.Plain n = refl
copy_regions regions.Object regions.Object n = refl

pub operation_back : (o : Operation) → has_operands o ≡ true → operation_from (opcode_of o) (address_of o) (constant_of o) ≡ Some o
unfolding operation_from opcode_of address_of constant_of
operation_back (LoadIndexed r) e = ap (λ v. Some (LoadIndexed v)) (region_back r)
operation_back (StoreIndexed r) e = ap (λ v. Some (StoreIndexed v)) (region_back r)
operation_back (LoadBlock r n) e = λ j. Some (LoadBlock (region_back r j) (block_back n e j))
operation_back (StoreBlock r n) e = λ j. Some (StoreBlock (region_back r j) (block_back n e j))
operation_back (Copy t s n) e = copy_regions t s n ∙ ap (λ v. Some (Copy t s v)) (block_back n e)
operation_back _ e = refl

pub instruction_back : (x : Instr) → has_operands x.operation ≡ true → instruction_of (raw_instruction x) ≡ x
instruction_back x e = λ j. record { depth = x.depth; operation = unwrap_or (operation_back x.operation e j) Raise }

pub kind_back : (k : Kind) → kind_from (kind_number k) (object_of_kind k) ≡ k
kind_back Plain = refl
kind_back (ProtectedProcedure o) = refl
kind_back (ProtectedFunction o) = refl
kind_back (EntryBody o) = refl
kind_back TaskBody = refl

pub subprogram_back : (s : Subprogram) → subprogram_from (raw_subprogram s) ≡ s
subprogram_back s = λ j. record { kind = kind_back s.kind j; end_ = s.end_; parameters = s.parameters; results = s.results; locals = s.locals; stack = s.stack }

pub barrier_back : (b : Barrier) → barrier_from (barrier_number b) (word_of_barrier b) ≡ b
barrier_back Closed = refl
barrier_back Open = refl
barrier_back (Word w) = refl

-- an entry is the subprogram of a number that isn't 65535
pub entry_back : (e : Option ℕ) → ((n : ℕ) → e ≡ Some n → n < 65535) → entry_from (unwrap_or e 65535) ≡ e
entry_back None small = refl
entry_back (Some n) small =
    let lt = small n refl in
    ⊎_elim (λ h. absurd (omega (arith, lt, h.1))) (λ h. ap (λ b. cond b None (Some n)) h.0) (eqb_tells n 65535)

pub object_back : (o : ObjectRow) → ((n : ℕ) → o.entry ≡ Some n → n < 65535) → object_from (raw_object o) ≡ o
object_back o small = λ j. record { ceiling = o.ceiling; entry = entry_back o.entry small j; barrier = barrier_back o.barrier j; words = o.words }

pub task_back : (t : Task) → is_name t.name ≡ true → task_from (raw_task t) ≡ t
task_back t e = λ j. record { name = same_text t.name (name_short t.name e) j; priority = t.priority; subprogram = t.subprogram }
