-- What a step asks of the kernel speaks of objects of the image alone.
use Rattle.std.proofs.Common.{◌≡◌, ℕ, ◌<◌, ℤ, pos, drop, List, [], ◌∷◌, length, Bool, true, false, cond, Option, Some, None, Ok, Err, refl, sym, ap, ◌∙◌, subst}
use Rattle.std.proofs.lemmas.Bool.{ltb-true}
use Rattle.std.proofs.lemmas.Option.{none-some, slice_get_within}
use Rattle.std.specs.Prelude.{int_le, int_lt, nat_lt, slice_get}
use Rattle.std.specs.Int.{w64, int_bit_and, int_bit_or, int_bit_xor}
use Rattle.base.specs.Arithmetic.{Checked, absolute_of, difference_of, modulus_of, negation_of, product_of, quotient_of, remainder_of, sum_of}
use Rattle.base.specs.declared.schedule.ScheduleLine.{ScheduleLine}
use Rattle.kernel.specs.State.{Kernel}
use Rattle.kernel.specs.Effects.{Effect, Delays, Opens, Queues, Quiet, Refusal, Views}
use Rattle.handlers.specs.Innermost.{handler_of}
use Rattle.image.specs.Sections.{Sections, object_of}
use Rattle.image.specs.ObjectTable.{ObjectRow}
use Rattle.image.specs.Operations.{called, entry_of}
use Rattle.image.specs.RuleFacts.{facts}
use Rattle.image.specs.RuleLaws.{list_all-at, none_or-at}
use Rattle.image.specs.Rules.{IsWellFormed, has_object}
use Rattle.image.specs.Frames.{Words, Role, Inner, Opened, Serving, Frame, arguments, region_words, word_put, words_put}
use Rattle.image.specs.Scalars.{are_different, are_equal, bitwise, in_bounds, input_of, is_greater, is_greater_or_equal, is_zero_word, relation}
use Rattle.image.specs.Steps as steps
use Rattle.image.specs.Steps.{Stepped, caught, removed, unwind}
use Rattle.image_laws.specs.Whole.{EffectsNamed, IsNamed}
use Rattle.image.specs.declared.instruction.Instr.{Instr}
use Rattle.image.specs.declared.instruction.Operation.{Operation}
use Rattle.image.specs.declared.instruction.Operation.TheVariants as op
use Rattle.image.specs.declared.instruction.Region.{Region}
use Rattle.image.specs.declared.instruction.Region.TheVariants as regions
use Rattle.image.specs.declared.subprograms.Kind.{Kind}
use Rattle.image.specs.declared.subprograms.Kind.TheVariants.{Plain, ProtectedProcedure, ProtectedFunction, EntryBody, TaskBody}
use Rattle.image.specs.declared.subprograms.Subprogram.{Subprogram}

record AreNamed (n : ℕ) (r : Stepped) : Type 0 where
  is : IsNamed n r.effect

module _ (n : ℕ) (i : Sections) (m : Words) (x : ℕ) where
  caught_named : (o : Option ℕ) (f : Frame) (fs : List Frame) (other : Stepped) → AreNamed n other → AreNamed n (caught i m x o f fs other)
  caught_named None f fs other rest = rest
  caught_named (Some a) f fs other rest = record { is = tt }

  removed_named : (role : Role) (c : Frame) (fs : List Frame) (other : Stepped) → AreNamed n other → AreNamed n (removed i m x role c fs other)
  removed_named Inner c fs other rest = rest
  removed_named (Opened o) c fs other rest = record { is = tt }
  removed_named (Serving o u pending) c fs other rest = record { is = tt }

  unwind_named : (fs : List Frame) (f : Frame) → AreNamed n (unwind i m x f fs)
  unwind_named [] f = caught_named (handler_of i.rows f.place x) f [] _ (record { is = tt })
  unwind_named (c ∷ fs) f = caught_named (handler_of i.rows f.place x) f (c ∷ fs) _ (removed_named f.role c fs _ (unwind_named fs c))

module _ (i : Sections) (w : IsWellFormed i) (schedule : List ScheduleLine) (k : Kernel) (t : ℕ) (m : Words) (f : Frame) (fs : List Frame) where
  abbrev Names : Stepped → Type 0
  Names r = AreNamed (length i.objects) r

  breaks_named : Names (steps.breaks i schedule k t m f fs)
  breaks_named = record { is = tt }

  next_named : (stack : List ℤ) → Names (steps.next i schedule k t m f fs stack)
  next_named stack = record { is = tt }

  delays_named : (until : ℤ) (stack : List ℤ) → Names (steps.next_after i schedule k t m f fs (Delays until) stack)
  delays_named until stack = record { is = tt }

  enters_named : (e : Effect) (role : Role) (n : ℕ) (s : Subprogram) → IsNamed (length i.objects) e → Names (steps.enters i schedule k t m f fs e role n s)
  enters_named e role n s named = record { is = named }

  queues_named : (o : ℕ) → o < length i.objects → Names (steps.does (Queues o) m f fs None None)
  queues_named o lt = record { is = lt }

  cond_named : (b : Bool) (x y : Stepped) → Names x → Names y → Names (cond b x y)
  cond_named true x y p q = p
  cond_named false x y p q = q

  raises_named : (x : ℕ) → Names (unwind i m x f fs)
  raises_named x = unwind_named (length i.objects) i m x fs f

  gives_named : (v : Checked) (stack : List ℤ) → Names (steps.gives i schedule k t m f fs v stack)
  gives_named (Ok v) stack = record { is = tt }
  gives_named (Err x) stack = raises_named _

  one_named : (stack : List ℤ) (go : ℤ → List ℤ → Stepped) → ((x : ℤ) (rest : List ℤ) → Names (go x rest)) → Names (steps.with_one i schedule k t m f fs stack go)
  one_named [] go rest = record { is = tt }
  one_named (x ∷ stack) go rest = rest x stack

  two_named : (stack : List ℤ) (go : ℤ → ℤ → List ℤ → Stepped) → ((x y : ℤ) (rest : List ℤ) → Names (go x y rest)) → Names (steps.with_two i schedule k t m f fs stack go)
  two_named [] go rest = record { is = tt }
  two_named (y ∷ []) go rest = record { is = tt }
  two_named (y ∷ x ∷ stack) go rest = rest x y stack

  three_named : (stack : List ℤ) (go : ℤ → ℤ → ℤ → List ℤ → Stepped) → ((x y z : ℤ) (rest : List ℤ) → Names (go x y z rest)) → Names (steps.with_three i schedule k t m f fs stack go)
  three_named [] go rest = record { is = tt }
  three_named (z ∷ []) go rest = record { is = tt }
  three_named (z ∷ y ∷ []) go rest = record { is = tt }
  three_named (z ∷ y ∷ x ∷ stack) go rest = rest x y z stack

  unary_named : (value : ℤ → Checked) → Names (steps.unary i schedule k t m f fs value)
  unary_named value = one_named f.stack _ (λ x stack. gives_named (value x) stack)

  binary_named : (value : ℤ → ℤ → Checked) → Names (steps.binary i schedule k t m f fs value)
  binary_named value = two_named f.stack _ (λ x y stack. gives_named (value x y) stack)

  loaded_named : (o : Option ℤ) (stack : List ℤ) → Names (steps.loaded i schedule k t m f fs o stack)
  loaded_named None stack = record { is = tt }
  loaded_named (Some v) stack = record { is = tt }

  block_named : (o : Option (List ℤ)) (stack : List ℤ) → Names (steps.block_loaded i schedule k t m f fs o stack)
  block_named None stack = record { is = tt }
  block_named (Some words) stack = record { is = tt }

  stored_named : (r : Region) (o : Option (List ℤ)) (stack : List ℤ) → Names (steps.stored i schedule k t m f fs r o stack)
  stored_named r None stack = record { is = tt }
  stored_named r (Some words) stack = record { is = tt }

  copied_named : (r : Region) (index : ℤ) (o : Option (List ℤ)) (stack : List ℤ) → Names (steps.copied i schedule k t m f fs r index o stack)
  copied_named r index None stack = record { is = tt }
  copied_named r index (Some words) stack = stored_named r _ stack

  -- calls

  refused_named : (o : Option Refusal) (go : Stepped) → Names go → Names (steps.unless_refused i schedule k t m f fs o go)
  refused_named None go named = named
  refused_named (Some r) go named = raises_named _

  left_named : (go : Stepped) → Names go → Names (steps.with_frame_left i schedule k t m f fs go)
  left_named go named = cond_named _ _ _ named (raises_named _)

  call_named : (n : ℕ) (c : Option Subprogram) → Names (steps.call i schedule k t m f fs n c)
  call_named n None = record { is = tt }
  call_named n (Some s) = cond_named _ _ _ (left_named _ (enters_named Quiet Inner n s tt)) breaks_named

  object_inside : (n : ℕ) (s : Subprogram) → called i n ≡ Some s → (o : ℕ) → object_of s.kind ≡ Some o → o < length i.objects
  object_inside n s is o at = ltb-true _ _ (none_or-at (object_of s.kind) (λ p. nat_lt p (length i.objects)) o at (list_all-at (has_object i) i.subprograms n s (facts i w).have_objects is))

  external_named : (n : ℕ) (s : Subprogram) → called i n ≡ Some s → (kind : Kind) → s.kind ≡ kind → Names (steps.external_call i schedule k t m f fs n s kind)
  external_named n s is (ProtectedProcedure o) e = refused_named _ _ (left_named _ (enters_named (Opens o) (Opened o) n s (object_inside n s is o (ap object_of e))))
  external_named n s is (ProtectedFunction o) e = refused_named _ _ (left_named _ (enters_named (Views o) (Opened o) n s (object_inside n s is o (ap object_of e))))
  external_named n s is Plain e = record { is = tt }
  external_named n s is (EntryBody o) e = record { is = tt }
  external_named n s is TaskBody e = record { is = tt }

  protected_named : (n : ℕ) (c : Option Subprogram) → called i n ≡ c → Names (steps.protected_call i schedule k t m f fs n c)
  protected_named n None is = record { is = tt }
  protected_named n (Some s) is = cond_named _ _ _ (external_named n s is s.kind refl) breaks_named

  entry_at_named : (o n : ℕ) (c : Option Subprogram) → o < length i.objects → Names (steps.entry_call_at i schedule k t m f fs o n c)
  entry_at_named o n None lt = record { is = tt }
  entry_at_named o n (Some s) lt =
      cond_named _ _ _ (cond_named _ _ _ (raises_named _) (left_named _ (cond_named _ _ _ (enters_named (Opens o) (Opened o) n s lt) (cond_named _ _ _ (raises_named _) (queues_named o lt))))) breaks_named

  entry_named : (o : ℕ) (row : Option ObjectRow) → slice_get i.objects o ≡ row → (e : Option ℕ) → entry_of row ≡ e → Names (steps.entry_call i schedule k t m f fs o e)
  entry_named o row is None e = record { is = tt }
  entry_named o None is (Some n) e = absurd (none-some n e)
  entry_named o (Some row) is (Some n) e = entry_at_named o n (called i n) (slice_get_within i.objects o row is)

  returns_named : (cs : List Frame) (role : Role) (results : List ℤ) → Names (steps.returns_to i schedule k t m f fs cs role results)
  returns_named [] role results = record { is = tt }
  returns_named (c ∷ cs) Inner results = record { is = tt }
  returns_named (c ∷ cs) (Opened o) results = record { is = tt }
  returns_named (c ∷ cs) (Serving o u pending) results = record { is = tt }

  number_named : (o : Option ℕ) → Names (steps.raises_number i schedule k t m f fs o)
  number_named None = record { is = tt }
  number_named (Some x) = raises_named x

  inside_named : (go : Stepped) → Names go → Names (steps.unless_inside i schedule k t m f fs go)
  inside_named go named = cond_named _ _ _ (raises_named _) named

  operation_named : (o : Operation) → Names (steps.does_operation i schedule k t m f fs o)
  operation_named (op.Push v) = record { is = tt }
  operation_named op.Drop = one_named f.stack _ (λ x stack. (record { is = tt }))
  operation_named op.Duplicate = one_named f.stack _ (λ x stack. (record { is = tt }))
  operation_named (op.LoadLocal a) = loaded_named _ f.stack
  operation_named (op.StoreLocal a) = one_named f.stack _ (λ x stack. stored_named regions.Locals (word_put (region_words i regions.Locals m f) (pos a) x) stack)
  operation_named (op.LoadPlain a) = loaded_named _ f.stack
  operation_named (op.StorePlain a) = one_named f.stack _ (λ x stack. stored_named regions.Plain (word_put (region_words i regions.Plain m f) (pos a) x) stack)
  operation_named (op.LoadObject a) = loaded_named _ f.stack
  operation_named (op.StoreObject a) = one_named f.stack _ (λ x stack. stored_named regions.Object (word_put (region_words i regions.Object m f) (pos a) x) stack)
  operation_named (op.LoadIndexed r) = one_named f.stack _ (λ x stack. loaded_named _ stack)
  operation_named (op.StoreIndexed r) = two_named f.stack _ (λ x y stack. stored_named r _ stack)
  operation_named (op.LoadBlock r n) = one_named f.stack _ (λ x stack. block_named _ stack)
  operation_named (op.StoreBlock r n) = one_named (drop n f.stack) _ (λ x stack. stored_named r (words_put (region_words i r m f) x (arguments n f.stack)) stack)
  operation_named (op.Copy target source n) = two_named f.stack _ (λ x y stack. copied_named target x _ stack)
  operation_named op.Negate = unary_named negation_of
  operation_named op.Absolute = unary_named absolute_of
  operation_named op.Add = binary_named sum_of
  operation_named op.Subtract = binary_named difference_of
  operation_named op.Multiply = binary_named product_of
  operation_named op.Divide = binary_named quotient_of
  operation_named op.Modulo = binary_named modulus_of
  operation_named op.Remainder = binary_named remainder_of
  operation_named op.CheckRange = three_named f.stack _ (λ x y z stack. gives_named (in_bounds y z x) stack)
  operation_named op.Equal = binary_named (relation are_equal)
  operation_named op.NotEqual = binary_named (relation are_different)
  operation_named op.Less = binary_named (relation int_lt)
  operation_named op.LessOrEqual = binary_named (relation int_le)
  operation_named op.Greater = binary_named (relation is_greater)
  operation_named op.GreaterOrEqual = binary_named (relation is_greater_or_equal)
  operation_named op.And = binary_named (bitwise (int_bit_and w64))
  operation_named op.Or = binary_named (bitwise (int_bit_or w64))
  operation_named op.ExclusiveOr = binary_named (bitwise (int_bit_xor w64))
  operation_named op.Not = unary_named is_zero_word
  operation_named (op.Jump a) = record { is = tt }
  operation_named (op.JumpIfZero a) = one_named f.stack _ (λ x stack. (record { is = tt }))
  operation_named (op.JumpIfNotZero a) = one_named f.stack _ (λ x stack. (record { is = tt }))
  operation_named (op.Call n) = call_named n (called i n)
  operation_named (op.ProtectedCall n) = protected_named n (called i n) refl
  operation_named (op.EntryCall o) = entry_named o (slice_get i.objects o) refl (entry_of (slice_get i.objects o)) refl
  operation_named op.Return = cond_named _ _ _ (returns_named fs f.role _) breaks_named
  operation_named op.Raise = one_named f.stack _ (λ x stack. number_named _)
  operation_named op.CheckBlocking = inside_named _ (next_named f.stack)
  operation_named op.DelayUntil = one_named f.stack _ (λ x stack. inside_named _ (delays_named x stack))
  operation_named (op.PutLine a) = one_named f.stack _ (λ x stack. (record { is = tt }))
  operation_named op.ReadInput = one_named f.stack _ (λ x stack. gives_named (input_of schedule k.now x) stack)
  operation_named op.Clock = record { is = tt }

  instruction_named : (x : Option Instr) → Names (steps.does_instruction i schedule k t m f fs x)
  instruction_named None = record { is = tt }
  instruction_named (Some x) = operation_named x.operation

  act_named : (x : Option ℕ) → Names (steps.does_or_raises i schedule k t m f fs x)
  act_named None = instruction_named (slice_get i.instructions f.place)
  act_named (Some x) = raises_named x

pub effects_named : EffectsNamed
effects_named i w schedule k t s = (act_named i w schedule k t s.memory s.task.frame s.task.callers s.task.raising).is
