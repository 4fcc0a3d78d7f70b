-- Which explanation each number of a fault has, and which numbers have one (docs/FAULTS.md).
use Rattle.std.specs.Prelude.{◌&&◌, ◌||◌, ℕ, Bool, List, Option, Some, None, if◌then◌else◌, nat_eq, nat_le}
use Rattle.diagnostics.specs.declared.explanations.memory.TheConstants as memory
use Rattle.diagnostics.specs.declared.explanations.spelling.TheConstants as spelling
use Rattle.diagnostics.specs.declared.explanations.rules.TheConstants as rules
use Rattle.diagnostics.specs.declared.explanations.restrictions.TheConstants as restrictions
use Rattle.diagnostics.specs.declared.explanations.images.TheConstants as images
use Rattle.diagnostics.specs.declared.explanations.schedules.TheConstants as schedules
use Rattle.diagnostics.specs.declared.explanations.handlers.TheConstants as handlers
use Rattle.diagnostics.specs.declared.explanations.choices.TheConstants as choices

-- from the first of two numbers to the second one
abbrev pub is_from : ℕ → ℕ → ℕ → Bool
is_from first last n = nat_le first n && nat_le n last

-- the numbers of faults: of spelling and grammar, of rules, of restrictions, of images, of schedules, that of memory, of handlers of interrupts, and of sets of
-- schedules
abbrev pub is_fault_number : ℕ → Bool
is_fault_number n =
    is_from 1 7 n
    || (is_from 10 23 n
    || (is_from 30 39 n
    || (is_from 40 47 n || (is_from 50 53 n || (nat_eq n 60 || (is_from 70 73 n || (nat_eq n 80 || is_from 82 86 n)))))))

abbrev pub of_spelling : ℕ → Option (List ℕ)
of_spelling n =
    if nat_eq n 1 then Some spelling.TEXT_TOO_LONG.now
    else (if nat_eq n 2 then Some spelling.STRAY_CHARACTER.now
    else (if nat_eq n 3 then Some spelling.WRONG_IDENTIFIER.now
    else (if nat_eq n 4 then Some spelling.WRONG_LITERAL.now
    else (if nat_eq n 5 then Some spelling.WRONG_LABEL.now
    else (if nat_eq n 6 then Some spelling.UNEXPECTED_TOKEN.now
    else (if nat_eq n 7 then Some spelling.TOO_MANY_LEVELS.now
    else None))))))

abbrev pub of_rules : ℕ → Option (List ℕ)
of_rules n =
    if nat_eq n 10 then Some rules.NAME_NOT_VISIBLE.now
    else (if nat_eq n 11 then Some rules.DECLARED_TWICE.now
    else (if nat_eq n 12 then Some rules.NO_MEANING.now
    else (if nat_eq n 13 then Some rules.NOT_A_VARIABLE.now
    else (if nat_eq n 14 then Some rules.NOT_STATIC.now
    else (if nat_eq n 15 then Some rules.WRONG_STATIC_VALUE.now
    else (if nat_eq n 16 then Some rules.WRONG_ARGUMENT_COUNT.now
    else (if nat_eq n 17 then Some rules.WRONG_CHOICES.now
    else (if nat_eq n 18 then Some rules.UNMATCHED_BODY.now
    else (if nat_eq n 19 then Some rules.MISPLACED_STATEMENT.now
    else (if nat_eq n 20 then Some rules.WRONG_HANDLER.now
    else (if nat_eq n 21 then Some rules.WRONG_FUNCTION.now
    else (if nat_eq n 22 then Some rules.WRONG_END_NAME.now
    else (if nat_eq n 23 then Some rules.LIMIT_PASSED.now
    else None)))))))))))))

abbrev pub of_restrictions : ℕ → Option (List ℕ)
of_restrictions n =
    if nat_eq n 30 then Some restrictions.LOCAL_TASKING.now
    else (if nat_eq n 31 then Some restrictions.SECOND_ENTRY.now
    else (if nat_eq n 32 then Some restrictions.TASK_ENTRY.now
    else (if nat_eq n 33 then Some restrictions.WRONG_BARRIER.now
    else (if nat_eq n 34 then Some restrictions.RELATIVE_DELAY.now
    else (if nat_eq n 35 then Some restrictions.SELECT_STATEMENT.now
    else (if nat_eq n 36 then Some restrictions.ABORT_STATEMENT.now
    else (if nat_eq n 37 then Some restrictions.REQUEUE_STATEMENT.now
    else (if nat_eq n 38 then Some restrictions.WRONG_ASPECT.now
    else (if nat_eq n 39 then Some restrictions.WRONG_PRAGMAS.now
    else None)))))))))

abbrev pub of_images : ℕ → Option (List ℕ)
of_images n =
    if nat_eq n 40 then Some images.WRONG_HEADER.now
    else (if nat_eq n 41 then Some images.SECTION_CUT_SHORT.now
    else (if nat_eq n 42 then Some images.STRAY_BYTES.now
    else (if nat_eq n 43 then Some images.OPERAND_OUT_OF_RANGE.now
    else (if nat_eq n 44 then Some images.JUMP_OUTSIDE.now
    else (if nat_eq n 45 then Some images.NAMED_THING_MISSING.now
    else (if nat_eq n 46 then Some images.DEPTHS_DISAGREE.now
    else (if nat_eq n 47 then Some images.TABLES_DISAGREE.now
    else None)))))))

abbrev pub of_schedules : ℕ → Option (List ℕ)
of_schedules n =
    if nat_eq n 50 then Some schedules.WRONG_SCHEDULE_LINE.now
    else (if nat_eq n 51 then Some schedules.TIME_GOES_BACK.now
    else (if nat_eq n 52 then Some schedules.UNKNOWN_CHANNEL.now
    else (if nat_eq n 53 then Some schedules.TOO_MANY_LINES.now
    else None)))

abbrev pub of_handlers : ℕ → Option (List ℕ)
of_handlers n =
    if nat_eq n 70 then Some handlers.HANDLER_PROFILE.now
    else (if nat_eq n 71 then Some handlers.WRONG_INTERRUPT.now
    else (if nat_eq n 72 then Some handlers.SECOND_HANDLER.now
    else (if nat_eq n 73 then Some handlers.HANDLER_CEILING.now
    else None)))

abbrev pub of_choices : ℕ → Option (List ℕ)
of_choices n =
    if nat_eq n 80 then Some choices.WRONG_CHOICES_LINE.now
    else (if nat_eq n 82 then Some choices.UNKNOWN_CHANNEL.now
    else (if nat_eq n 83 then Some choices.TOO_MANY_SLOTS.now
    else (if nat_eq n 84 then Some choices.TOO_MANY_ALTERNATIVES.now
    else (if nat_eq n 85 then Some choices.SAME_ALTERNATIVE.now
    else (if nat_eq n 86 then Some choices.SLOT_TOO_LATE.now
    else None)))))

-- what is said of the fault of this number
abbrev pub explanation_of : ℕ → Option (List ℕ)
explanation_of n =
    if is_from 1 7 n then of_spelling n
    else (if is_from 10 23 n then of_rules n
    else (if is_from 30 39 n then of_restrictions n
    else (if is_from 40 47 n then of_images n
    else (if is_from 50 53 n then of_schedules n
    else (if nat_eq n 60 then Some memory.MEMORY_REFUSED.now
    else (if is_from 70 73 n then of_handlers n
    else (if nat_eq n 80 then of_choices n
    else (if is_from 82 86 n then of_choices n
    else None))))))))
