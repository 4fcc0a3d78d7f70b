-- What clap makes of all words, none of which begins with `-`: the commands, and every other row of words is refused.
use Rattle.std.proofs.Common.{◌≡◌, ◌∙◌, ap, ap₂, sym, subst, refl, inl, inr, Result, Err, Bool, true, false, List, [], ◌∷◌, ◌++◌, Option, Some, None, codes, bytes_eq}
use Rattle.std.specs.Prelude.{◌&&◌, fold, is_some, option_map, ⊤}
use Rattle.std.proofs.lemmas.Option.{none-some}
use Rattle.std.specs.List.{list_all}
use Rattle.std.proofs.lemmas.List.{append_assoc, append-nil}
use Rattle.std.proofs.lemmas.Slice.Eq.{bytes_eq-Decides}
use Rattle.clap.specs.Walk.{Names, Row, Text, Walk, first_of, idle, nothing_held, subcommand_met, walk, walked}
use Rattle.clap.specs.Simple.{App, HasMatchesOf, built, entered, is_simple, names_of, subcommand_of}
use Rattle.clap.specs.Kinds.{Kinds, or_else}
use Rattle.clap.specs.Faults.{entered_fault, fault_of, level_fault, turn_fault, walk_fault}
use Rattle.clap.specs.Faults.{is_simple_and_free}
use Rattle.clap.specs.Words.{HasKind, first_value, kind_of, rows_of, subcommand_name_of, subcommand_rows_of}
use Rattle.clap.specs.declared.error.Error.{Error}
use Rattle.clap.specs.declared.error.kind.ErrorKind.TheVariants as kinds
use Rattle.clap.specs.declared.parser.matches.ArgMatches.{ArgMatches}
use Rattle.clap.specs.declared.parser.matches.ArgMatches.TheViews.{out-ArgMatches}
use Rattle.clap.specs.declared.parser.matches.Found.{Found}
use Rattle.clap.proofs.OnLiterals.{clap_on_literals}
use Rattle.clap.proofs.WalkLemmas.{first_value-rows}
use Rattle.command_line.specs.declared.Request.{Request}
use Rattle.command_line.specs.declared.WordsError.{WordsError}
use Rattle.command_line.specs.declared.WordsError.TheVariants as errors
use Rattle.command_line.specs.Words.{AnswersWords, Nothing, asked_plainly, is_plain}
use Rattle.command_line.specs.Finding.{asked_by, asked_in, program_app}
use Rattle.command_line.proofs.Reading.{IsNoFlag, IsRefusal, Refuses, alone_refused_more, alone_taken, at, fault_plain, go_refused_more, go_refused_none, go_refused_one, go_refused_two, go_rows, go_taken, input_rows, input_taken, level_by, limit_refused_more, limit_rows, limit_taken, no_flag, number_refused_none, number_rows, number_taken, one_refused_more, one_refused_none, one_rows, one_taken, run_refused_more, run_refused_none, run_refused_one, run_refused_two, run_rows, run_taken, source_refused_more, source_rows, source_taken, text_refused_none, text_rows, text_taken, two_refused_more, two_refused_none, two_refused_one, two_rows, two_taken}

-- ---- the command that the first word names

abbrev whole : App
whole = built program_app

abbrev names : Names
names = names_of whole

-- the walk that stopped at a command
abbrev stopped_at : Text → List Text → Walk
stopped_at name words = record { held = nothing_held; waiting = idle; position = 1; is_trailing = false; stopped = Some (name, words) }

after_stop : (name : Text) (front rest : List Text) → fold (walked whole.top.rules names) (stopped_at name front) rest ≡ stopped_at name (front ++ rest)
unfolding walked
after_stop name front [] = ap (stopped_at name) (sym (append-nil front))
after_stop name front (word ∷ rest) = after_stop name (front ++ word ∷ []) rest ∙ ap (stopped_at name) (append_assoc front (word ∷ []) rest)

unfaulted : (name : Text) (front rest : List Text) → walk_fault whole.top names (stopped_at name front) rest ≡ []
unfolding walk_fault walked
unfaulted name front [] = refl
unfaulted name front (word ∷ rest) = unfaulted name (front ++ word ∷ []) rest

-- what a command's own words come to is what the whole comes to
module _ (name : Text) (rest : List Text) (begins : walked whole.top.rules names (at nothing_held 1) name ≡ stopped_at name []) (right : turn_fault whole.top names (at nothing_held 1) name ≡ []) where
  stop_is : walk whole.top.rules names nothing_held (name ∷ rest) ≡ stopped_at name rest
  stop_is = ap (λ w. fold (walked whole.top.rules names) w rest) begins ∙ after_stop name [] rest

  right_is : walk_fault whole.top names (at nothing_held 1) (name ∷ rest) ≡ []
  unfolding walk_fault
  right_is =
      ap (λ f. or_else f (walk_fault whole.top names (walked whole.top.rules names (at nothing_held 1) name) rest)) right
      ∙ ap (λ w. walk_fault whole.top names w rest) begins
      ∙ unfaulted name [] rest

  whole_fault : (below : Kinds) → entered_fault whole (Some (name, rest)) ≡ below → is_some (entered whole (Some (name, rest))) ≡ true
      → fault_of program_app (name ∷ rest) ≡ or_else below []
  unfolding clap_on_literals
  whole_fault below e there =
      ap (λ w. level_fault whole.top names nothing_held (name ∷ rest) (is_some (entered whole w.stopped)) (entered_fault whole w.stopped)) stop_is
      ∙ ap (λ b. level_fault whole.top names nothing_held (name ∷ rest) b (entered_fault whole (Some (name, rest)))) there
      ∙ ap (λ f. level_fault whole.top names nothing_held (name ∷ rest) true f) e
      ∙ level_by whole.top names (name ∷ rest) true below [] nothing_held right_is (ap (λ w. w.held) stop_is)

  found_is : (rows : List Row) → entered whole (Some (name, rest)) ≡ Some (name, rows) → subcommand_of program_app (name ∷ rest) ≡ Some (name, rows)
  found_is rows e = ap (λ w. entered whole w.stopped) stop_is ∙ e

refused_more : (below : Kinds) → IsRefusal below → IsRefusal (or_else below [])
refused_more below Refuses = Refuses

module _ (name : Text) (rest : List Text) (begins : walked whole.top.rules names (at nothing_held 1) name ≡ stopped_at name []) (right : turn_fault whole.top names (at nothing_held 1) name ≡ []) (there : is_some (entered whole (Some (name, rest))) ≡ true) where
  refused_whole : IsRefusal (entered_fault whole (Some (name, rest))) → IsRefusal (fault_of program_app (name ∷ rest))
  refused_whole r = subst IsRefusal (sym (whole_fault name rest begins right _ refl there)) (refused_more _ r)

  taken_whole : entered_fault whole (Some (name, rest)) ≡ [] → fault_of program_app (name ∷ rest) ≡ []
  taken_whole e = whole_fault name rest begins right [] e there

-- ---- all words

-- the words are a command's, and what is found for its arguments is what it asks for; or an error comes, and they ask for nothing
pub data Judged (words : List Text) : Type 0 where
  Taken : (name : Text) (rows : List Row) → fault_of program_app words ≡ [] → subcommand_of program_app words ≡ Some (name, rows)
      → asked_in name (λ id. first_of id rows) ≡ asked_plainly words → Judged words
  Refused : IsRefusal (fault_of program_app words) → asked_plainly words ≡ Nothing → Judged words

both : (a b : Bool) → (a && b) ≡ true → (a ≡ true) × (b ≡ true)
both true b h = (refl, h)
both false b h = absurd (let no : false ≡ true = h in cc)

abbrev ArePlain : List Text → Type 0
ArePlain words = list_all is_plain words ≡ true

-- none of the words is taken for a flag
abbrev AreNoFlags : List Text → Type 0
AreNoFlags [] = ⊤
AreNoFlags (word ∷ rest) = IsNoFlag word × AreNoFlags rest

no_flags : (words : List Text) → ArePlain words → AreNoFlags words
no_flags [] h = tt
no_flags (word ∷ rest) h =
    let parts = both (is_plain word) (list_all is_plain rest) h in
    (no_flag word parts.0, no_flags rest parts.1)

compile_judged : (rest : List Text) → AreNoFlags rest → Judged (codes "compile" ∷ rest)
unfolding walked
compile_judged [] none = Refused (refused_whole (codes "compile") [] refl refl refl (two_refused_none (codes "compile"))) refl
compile_judged (a ∷ []) (na, none) = Refused (refused_whole (codes "compile") (a ∷ []) refl refl refl (two_refused_one (codes "compile") a na)) refl
compile_judged (a ∷ b ∷ []) (na, (nb, none)) =
    Taken (codes "compile") _
    (taken_whole (codes "compile") (a ∷ b ∷ []) refl refl refl (two_taken (codes "compile") a b na nb))
    (found_is (codes "compile") (a ∷ b ∷ []) refl refl _ (ap (λ rows. Some (codes "compile", rows)) (two_rows (codes "compile") a b na nb)))
    refl
compile_judged (a ∷ b ∷ c ∷ []) (na, (nb, (nc, none))) =
    Refused (refused_whole (codes "compile") (a ∷ b ∷ c ∷ []) refl refl refl (two_refused_more (codes "compile") a b c [] na nb nc)) refl
compile_judged (a ∷ b ∷ c ∷ d ∷ more) (na, (nb, (nc, others))) =
    Refused (refused_whole (codes "compile") (a ∷ b ∷ c ∷ d ∷ more) refl refl refl (two_refused_more (codes "compile") a b c (d ∷ more) na nb nc)) refl

list_judged : (rest : List Text) → AreNoFlags rest → Judged (codes "list" ∷ rest)
unfolding walked clap_on_literals
list_judged [] none = Refused (refused_whole (codes "list") [] refl refl refl (one_refused_none (codes "list") (codes "IMG"))) refl
list_judged (a ∷ []) (na, none) =
    Taken (codes "list") _
    (taken_whole (codes "list") (a ∷ []) refl refl refl (one_taken (codes "list") (codes "IMG") a na refl))
    (found_is (codes "list") (a ∷ []) refl refl _ (ap (λ rows. Some (codes "list", rows)) (one_rows (codes "list") (codes "IMG") a na)))
    refl
list_judged (a ∷ b ∷ []) (na, (nb, none)) =
    Refused (refused_whole (codes "list") (a ∷ b ∷ []) refl refl refl (one_refused_more (codes "list") (codes "IMG") a b [] na nb)) refl
list_judged (a ∷ b ∷ c ∷ []) (na, (nb, others)) =
    Refused (refused_whole (codes "list") (a ∷ b ∷ c ∷ []) refl refl refl (one_refused_more (codes "list") (codes "IMG") a b (c ∷ []) na nb)) refl
list_judged (a ∷ b ∷ c ∷ d ∷ more) (na, (nb, others)) =
    Refused (refused_whole (codes "list") (a ∷ b ∷ c ∷ d ∷ more) refl refl refl (one_refused_more (codes "list") (codes "IMG") a b (c ∷ d ∷ more) na nb)) refl

run_judged : (rest : List Text) → AreNoFlags rest → Judged (codes "run" ∷ rest)
unfolding walked
run_judged [] none = Refused (refused_whole (codes "run") [] refl refl refl (run_refused_none (codes "run"))) refl
run_judged (a ∷ []) (na, none) = Refused (refused_whole (codes "run") (a ∷ []) refl refl refl (run_refused_one (codes "run") a na)) refl
run_judged (a ∷ b ∷ []) (na, (nb, none)) = Refused (refused_whole (codes "run") (a ∷ b ∷ []) refl refl refl (run_refused_two (codes "run") a b na nb)) refl
run_judged (a ∷ b ∷ c ∷ []) (na, (nb, (nc, none))) =
    Taken (codes "run") _
    (taken_whole (codes "run") (a ∷ b ∷ c ∷ []) refl refl refl (run_taken (codes "run") a b c na nb nc))
    (found_is (codes "run") (a ∷ b ∷ c ∷ []) refl refl _ (ap (λ rows. Some (codes "run", rows)) (run_rows (codes "run") a b c na nb nc)))
    refl
run_judged (a ∷ b ∷ c ∷ d ∷ more) (na, (nb, (nc, (nd, others)))) =
    Refused (refused_whole (codes "run") (a ∷ b ∷ c ∷ d ∷ more) refl refl refl (run_refused_more (codes "run") a b c d more na nb nc nd)) refl

go_judged : (rest : List Text) → AreNoFlags rest → Judged (codes "go" ∷ rest)
unfolding walked
go_judged [] none = Refused (refused_whole (codes "go") [] refl refl refl (go_refused_none (codes "go"))) refl
go_judged (a ∷ []) (na, none) = Refused (refused_whole (codes "go") (a ∷ []) refl refl refl (go_refused_one (codes "go") a na)) refl
go_judged (a ∷ b ∷ []) (na, (nb, none)) = Refused (refused_whole (codes "go") (a ∷ b ∷ []) refl refl refl (go_refused_two (codes "go") a b na nb)) refl
go_judged (a ∷ b ∷ c ∷ []) (na, (nb, (nc, none))) =
    Taken (codes "go") _
    (taken_whole (codes "go") (a ∷ b ∷ c ∷ []) refl refl refl (go_taken (codes "go") a b c na nb nc))
    (found_is (codes "go") (a ∷ b ∷ c ∷ []) refl refl _ (ap (λ rows. Some (codes "go", rows)) (go_rows (codes "go") a b c na nb nc)))
    refl
go_judged (a ∷ b ∷ c ∷ d ∷ more) (na, (nb, (nc, (nd, others)))) =
    Refused (refused_whole (codes "go") (a ∷ b ∷ c ∷ d ∷ more) refl refl refl (go_refused_more (codes "go") a b c d more na nb nc nd)) refl

trace_judged : (rest : List Text) → AreNoFlags rest → Judged (codes "trace" ∷ rest)
unfolding walked
trace_judged [] none = Refused (refused_whole (codes "trace") [] refl refl refl (go_refused_none (codes "trace"))) refl
trace_judged (a ∷ []) (na, none) = Refused (refused_whole (codes "trace") (a ∷ []) refl refl refl (go_refused_one (codes "trace") a na)) refl
trace_judged (a ∷ b ∷ []) (na, (nb, none)) = Refused (refused_whole (codes "trace") (a ∷ b ∷ []) refl refl refl (go_refused_two (codes "trace") a b na nb)) refl
trace_judged (a ∷ b ∷ c ∷ []) (na, (nb, (nc, none))) =
    Taken (codes "trace") _
    (taken_whole (codes "trace") (a ∷ b ∷ c ∷ []) refl refl refl (go_taken (codes "trace") a b c na nb nc))
    (found_is (codes "trace") (a ∷ b ∷ c ∷ []) refl refl _ (ap (λ rows. Some (codes "trace", rows)) (go_rows (codes "trace") a b c na nb nc)))
    refl
trace_judged (a ∷ b ∷ c ∷ d ∷ more) (na, (nb, (nc, (nd, others)))) =
    Refused (refused_whole (codes "trace") (a ∷ b ∷ c ∷ d ∷ more) refl refl refl (go_refused_more (codes "trace") a b c d more na nb nc nd)) refl

explain_judged : (rest : List Text) → AreNoFlags rest → Judged (codes "explain" ∷ rest)
unfolding walked
explain_judged [] none = Refused (refused_whole (codes "explain") [] refl refl refl number_refused_none) refl
explain_judged (a ∷ []) (na, none) =
    Taken (codes "explain") _
    (taken_whole (codes "explain") (a ∷ []) refl refl refl (number_taken a na))
    (found_is (codes "explain") (a ∷ []) refl refl _ (ap (λ rows. Some (codes "explain", rows)) (number_rows a na)))
    refl
explain_judged (a ∷ b ∷ []) (na, (nb, none)) =
    Taken (codes "explain") _
    (taken_whole (codes "explain") (a ∷ b ∷ []) refl refl refl (source_taken a b na nb))
    (found_is (codes "explain") (a ∷ b ∷ []) refl refl _ (ap (λ rows. Some (codes "explain", rows)) (source_rows a b na nb)))
    refl
explain_judged (a ∷ b ∷ c ∷ []) (na, (nb, (nc, none))) =
    Refused (refused_whole (codes "explain") (a ∷ b ∷ c ∷ []) refl refl refl (source_refused_more a b c [] na nb nc)) refl
explain_judged (a ∷ b ∷ c ∷ d ∷ more) (na, (nb, (nc, others))) =
    Refused (refused_whole (codes "explain") (a ∷ b ∷ c ∷ d ∷ more) refl refl refl (source_refused_more a b c (d ∷ more) na nb nc)) refl

manual_judged : (rest : List Text) → AreNoFlags rest → Judged (codes "manual" ∷ rest)
unfolding walked
manual_judged [] none =
    Taken (codes "manual") _
    (taken_whole (codes "manual") [] refl refl refl (alone_taken (codes "manual")))
    (found_is (codes "manual") [] refl refl _ refl)
    refl
manual_judged (a ∷ []) (na, none) = Refused (refused_whole (codes "manual") (a ∷ []) refl refl refl (alone_refused_more (codes "manual") a [] na)) refl
manual_judged (a ∷ b ∷ []) (na, others) =
    Refused (refused_whole (codes "manual") (a ∷ b ∷ []) refl refl refl (alone_refused_more (codes "manual") a (b ∷ []) na)) refl
manual_judged (a ∷ b ∷ c ∷ []) (na, others) =
    Refused (refused_whole (codes "manual") (a ∷ b ∷ c ∷ []) refl refl refl (alone_refused_more (codes "manual") a (b ∷ c ∷ []) na)) refl
manual_judged (a ∷ b ∷ c ∷ d ∷ more) (na, others) =
    Refused (refused_whole (codes "manual") (a ∷ b ∷ c ∷ d ∷ more) refl refl refl (alone_refused_more (codes "manual") a (b ∷ c ∷ d ∷ more) na)) refl

version_judged : (rest : List Text) → AreNoFlags rest → Judged (codes "version" ∷ rest)
unfolding walked
version_judged [] none =
    Taken (codes "version") _
    (taken_whole (codes "version") [] refl refl refl (alone_taken (codes "version")))
    (found_is (codes "version") [] refl refl _ refl)
    refl
version_judged (a ∷ []) (na, none) = Refused (refused_whole (codes "version") (a ∷ []) refl refl refl (alone_refused_more (codes "version") a [] na)) refl
version_judged (a ∷ b ∷ []) (na, others) =
    Refused (refused_whole (codes "version") (a ∷ b ∷ []) refl refl refl (alone_refused_more (codes "version") a (b ∷ []) na)) refl
version_judged (a ∷ b ∷ c ∷ []) (na, others) =
    Refused (refused_whole (codes "version") (a ∷ b ∷ c ∷ []) refl refl refl (alone_refused_more (codes "version") a (b ∷ c ∷ []) na)) refl
version_judged (a ∷ b ∷ c ∷ d ∷ more) (na, others) =
    Refused (refused_whole (codes "version") (a ∷ b ∷ c ∷ d ∷ more) refl refl refl (alone_refused_more (codes "version") a (b ∷ c ∷ d ∷ more) na)) refl

check_judged : (rest : List Text) → AreNoFlags rest → Judged (codes "check" ∷ rest)
unfolding walked clap_on_literals
check_judged [] none = Refused (refused_whole (codes "check") [] refl refl refl (one_refused_none (codes "check") (codes "SRC"))) refl
check_judged (a ∷ []) (na, none) =
    Taken (codes "check") _
    (taken_whole (codes "check") (a ∷ []) refl refl refl (one_taken (codes "check") (codes "SRC") a na refl))
    (found_is (codes "check") (a ∷ []) refl refl _ (ap (λ rows. Some (codes "check", rows)) (one_rows (codes "check") (codes "SRC") a na)))
    refl
check_judged (a ∷ b ∷ []) (na, (nb, none)) =
    Refused (refused_whole (codes "check") (a ∷ b ∷ []) refl refl refl (one_refused_more (codes "check") (codes "SRC") a b [] na nb)) refl
check_judged (a ∷ b ∷ c ∷ []) (na, (nb, others)) =
    Refused (refused_whole (codes "check") (a ∷ b ∷ c ∷ []) refl refl refl (one_refused_more (codes "check") (codes "SRC") a b (c ∷ []) na nb)) refl
check_judged (a ∷ b ∷ c ∷ d ∷ more) (na, (nb, others)) =
    Refused (refused_whole (codes "check") (a ∷ b ∷ c ∷ d ∷ more) refl refl refl (one_refused_more (codes "check") (codes "SRC") a b (c ∷ d ∷ more) na nb)) refl

format_judged : (rest : List Text) → AreNoFlags rest → Judged (codes "format" ∷ rest)
unfolding walked clap_on_literals
format_judged [] none = Refused (refused_whole (codes "format") [] refl refl refl (one_refused_none (codes "format") (codes "SRC"))) refl
format_judged (a ∷ []) (na, none) =
    Taken (codes "format") _
    (taken_whole (codes "format") (a ∷ []) refl refl refl (one_taken (codes "format") (codes "SRC") a na refl))
    (found_is (codes "format") (a ∷ []) refl refl _ (ap (λ rows. Some (codes "format", rows)) (one_rows (codes "format") (codes "SRC") a na)))
    refl
format_judged (a ∷ b ∷ []) (na, (nb, none)) =
    Refused (refused_whole (codes "format") (a ∷ b ∷ []) refl refl refl (one_refused_more (codes "format") (codes "SRC") a b [] na nb)) refl
format_judged (a ∷ b ∷ c ∷ []) (na, (nb, others)) =
    Refused (refused_whole (codes "format") (a ∷ b ∷ c ∷ []) refl refl refl (one_refused_more (codes "format") (codes "SRC") a b (c ∷ []) na nb)) refl
format_judged (a ∷ b ∷ c ∷ d ∷ more) (na, (nb, others)) =
    Refused (refused_whole (codes "format") (a ∷ b ∷ c ∷ d ∷ more) refl refl refl (one_refused_more (codes "format") (codes "SRC") a b (c ∷ d ∷ more) na nb)) refl

lower_judged : (rest : List Text) → AreNoFlags rest → Judged (codes "lower" ∷ rest)
unfolding walked clap_on_literals
lower_judged [] none = Refused (refused_whole (codes "lower") [] refl refl refl (one_refused_none (codes "lower") (codes "FILE"))) refl
lower_judged (a ∷ []) (na, none) =
    Taken (codes "lower") _
    (taken_whole (codes "lower") (a ∷ []) refl refl refl (one_taken (codes "lower") (codes "FILE") a na refl))
    (found_is (codes "lower") (a ∷ []) refl refl _ (ap (λ rows. Some (codes "lower", rows)) (one_rows (codes "lower") (codes "FILE") a na)))
    refl
lower_judged (a ∷ b ∷ []) (na, (nb, none)) =
    Refused (refused_whole (codes "lower") (a ∷ b ∷ []) refl refl refl (one_refused_more (codes "lower") (codes "FILE") a b [] na nb)) refl
lower_judged (a ∷ b ∷ c ∷ []) (na, (nb, others)) =
    Refused (refused_whole (codes "lower") (a ∷ b ∷ c ∷ []) refl refl refl (one_refused_more (codes "lower") (codes "FILE") a b (c ∷ []) na nb)) refl
lower_judged (a ∷ b ∷ c ∷ d ∷ more) (na, (nb, others)) =
    Refused (refused_whole (codes "lower") (a ∷ b ∷ c ∷ d ∷ more) refl refl refl (one_refused_more (codes "lower") (codes "FILE") a b (c ∷ d ∷ more) na nb)) refl

simulate_judged : (rest : List Text) → AreNoFlags rest → Judged (codes "simulate" ∷ rest)
unfolding walked
simulate_judged [] none = Refused (refused_whole (codes "simulate") [] refl refl refl text_refused_none) refl
simulate_judged (a ∷ []) (na, none) =
    Taken (codes "simulate") _
    (taken_whole (codes "simulate") (a ∷ []) refl refl refl (text_taken a na))
    (found_is (codes "simulate") (a ∷ []) refl refl _ (ap (λ rows. Some (codes "simulate", rows)) (text_rows a na)))
    refl
simulate_judged (a ∷ b ∷ []) (na, (nb, none)) =
    Taken (codes "simulate") _
    (taken_whole (codes "simulate") (a ∷ b ∷ []) refl refl refl (input_taken a b na nb))
    (found_is (codes "simulate") (a ∷ b ∷ []) refl refl _ (ap (λ rows. Some (codes "simulate", rows)) (input_rows a b na nb)))
    refl
simulate_judged (a ∷ b ∷ c ∷ []) (na, (nb, (nc, none))) =
    Taken (codes "simulate") _
    (taken_whole (codes "simulate") (a ∷ b ∷ c ∷ []) refl refl refl (limit_taken a b c na nb nc))
    (found_is (codes "simulate") (a ∷ b ∷ c ∷ []) refl refl _ (ap (λ rows. Some (codes "simulate", rows)) (limit_rows a b c na nb nc)))
    refl
simulate_judged (a ∷ b ∷ c ∷ d ∷ more) (na, (nb, (nc, (nd, others)))) =
    Refused (refused_whole (codes "simulate") (a ∷ b ∷ c ∷ d ∷ more) refl refl refl (limit_refused_more a b c d more na nb nc nd)) refl

flip : (x y : Text) → bytes_eq x y ≡ false → bytes_eq y x ≡ false
flip x y e = by (bytes_eq y x) refl
  where
    by : (b : Bool) → bytes_eq y x ≡ b → bytes_eq y x ≡ false
    by false k = k
    by true k = absurd (let no : true ≡ false = sym ((bytes_eq-Decides x y).1 (sym ((bytes_eq-Decides y x).0 k))) ∙ e in cc)

help_judged : (rest : List Text) → Judged (codes "help" ∷ rest)
unfolding clap_on_literals
help_judged [] = Refused Refuses refl
help_judged (a ∷ []) = Refused Refuses refl
help_judged (a ∷ b ∷ []) = Refused Refuses refl
help_judged (a ∷ b ∷ c ∷ []) = Refused Refuses refl
help_judged (a ∷ b ∷ c ∷ d ∷ more) = Refused Refuses refl

-- a word that names no command
module _ (name : Text) (plain : IsNoFlag name) (is_compile : bytes_eq (codes "compile") name ≡ false) (is_list : bytes_eq (codes "list") name ≡ false) (is_run : bytes_eq (codes "run") name ≡ false) (is_go : bytes_eq (codes "go") name ≡ false) (is_trace : bytes_eq (codes "trace") name ≡ false) (is_explain : bytes_eq (codes "explain") name ≡ false) (is_check : bytes_eq (codes "check") name ≡ false) (is_format : bytes_eq (codes "format") name ≡ false) (is_lower : bytes_eq (codes "lower") name ≡ false) (is_simulate : bytes_eq (codes "simulate") name ≡ false) (is_manual : bytes_eq (codes "manual") name ≡ false) (is_version : bytes_eq (codes "version") name ≡ false) (is_help : bytes_eq (codes "help") name ≡ false) where
  unmet : subcommand_met names idle name ≡ None
  unmet = rw (is_compile, is_list, is_run, is_go, is_trace, is_explain, is_check, is_format, is_lower, is_simulate, is_manual, is_version, is_help) refl

  stray : (rest : List Text) → IsRefusal (fault_of program_app (name ∷ rest))
  stray rest =
      let stop = (walk whole.top.rules names nothing_held (name ∷ rest)).stopped in
      subst IsRefusal (sym (level_by whole.top names (name ∷ rest) (is_some (entered whole stop)) (entered_fault whole stop) _ _ (fault_plain whole.top names 1 name nothing_held rest plain unmet) refl)) Refuses

  stray_asked : (rest : List Text) → asked_plainly (name ∷ rest) ≡ Nothing
  stray_asked [] = rw (flip (codes "manual") name is_manual, flip (codes "version") name is_version) refl
  stray_asked (a ∷ []) =
      rw (flip (codes "list") name is_list, flip (codes "explain") name is_explain, flip (codes "check") name is_check, flip (codes "format") name is_format, flip (codes "lower") name is_lower, flip (codes "simulate") name is_simulate) refl
  stray_asked (a ∷ b ∷ []) = rw (flip (codes "compile") name is_compile, flip (codes "explain") name is_explain, flip (codes "simulate") name is_simulate) refl
  stray_asked (a ∷ b ∷ c ∷ []) =
      rw (flip (codes "run") name is_run, flip (codes "go") name is_go, flip (codes "trace") name is_trace, flip (codes "simulate") name is_simulate) refl
  stray_asked (a ∷ b ∷ c ∷ d ∷ more) = refl

named : (name : Text) (rest : List Text) (n : Text) → bytes_eq n name ≡ true → Judged (n ∷ rest) → Judged (name ∷ rest)
named name rest n e j = subst (λ w. Judged (w ∷ rest)) ((bytes_eq-Decides n name).0 e) j

pub judged : (words : List Text) → ArePlain words → Judged words
unfolding clap_on_literals
judged [] h = Refused Refuses refl
judged (name ∷ rest) h = by _ _ _ _ _ _ _ _ _ _ _ _ _ refl refl refl refl refl refl refl refl refl refl refl refl refl
  where
    plain : AreNoFlags (name ∷ rest)
    plain = no_flags (name ∷ rest) h

    by : (c l r g t x k f w s m v q : Bool)
        → bytes_eq (codes "compile") name ≡ c → bytes_eq (codes "list") name ≡ l → bytes_eq (codes "run") name ≡ r → bytes_eq (codes "go") name ≡ g
        → bytes_eq (codes "trace") name ≡ t → bytes_eq (codes "explain") name ≡ x → bytes_eq (codes "check") name ≡ k
        → bytes_eq (codes "format") name ≡ f → bytes_eq (codes "lower") name ≡ w → bytes_eq (codes "simulate") name ≡ s → bytes_eq (codes "manual") name ≡ m → bytes_eq (codes "version") name ≡ v → bytes_eq (codes "help") name ≡ q → Judged (name ∷ rest)
    by true l r g t x k f w s m v q ec el er eg et ex ek ef ew es em ev eq = named name rest _ ec (compile_judged rest plain.1)
    by false true r g t x k f w s m v q ec el er eg et ex ek ef ew es em ev eq = named name rest _ el (list_judged rest plain.1)
    by false false true g t x k f w s m v q ec el er eg et ex ek ef ew es em ev eq = named name rest _ er (run_judged rest plain.1)
    by false false false true t x k f w s m v q ec el er eg et ex ek ef ew es em ev eq = named name rest _ eg (go_judged rest plain.1)
    by false false false false true x k f w s m v q ec el er eg et ex ek ef ew es em ev eq = named name rest _ et (trace_judged rest plain.1)
    by false false false false false true k f w s m v q ec el er eg et ex ek ef ew es em ev eq = named name rest _ ex (explain_judged rest plain.1)
    by false false false false false false true f w s m v q ec el er eg et ex ek ef ew es em ev eq = named name rest _ ek (check_judged rest plain.1)
    by false false false false false false false true w s m v q ec el er eg et ex ek ef ew es em ev eq = named name rest _ ef (format_judged rest plain.1)
    by false false false false false false false false true s m v q ec el er eg et ex ek ef ew es em ev eq = named name rest _ ew (lower_judged rest plain.1)
    by false false false false false false false false false true m v q ec el er eg et ex ek ef ew es em ev eq = named name rest _ es (simulate_judged rest plain.1)
    by false false false false false false false false false false true v q ec el er eg et ex ek ef ew es em ev eq = named name rest _ em (manual_judged rest plain.1)
    by false false false false false false false false false false false true q ec el er eg et ex ek ef ew es em ev eq = named name rest _ ev (version_judged rest plain.1)
    by false false false false false false false false false false false false true ec el er eg et ex ek ef ew es em ev eq = named name rest _ eq (help_judged rest)
    by false false false false false false false false false false false false false ec el er eg et ex ek ef ew es em ev eq =
        Refused (stray name plain.0 ec el er eg et ex ek ef ew es em ev eq rest) (stray_asked name plain.0 ec el er eg et ex ek ef ew es em ev eq rest)

-- ---- what clap answers

pub accepted : (words : List Text) (app : App) (m : ArgMatches) (r : Result Request WordsError) → app ≡ program_app → HasMatchesOf app words m
    → (is_simple_and_free app ≡ true → fault_of app words ≡ []) → AnswersWords (asked_by (subcommand_rows_of m)) r → ArePlain words → AnswersWords (asked_plainly words) r
unfolding clap_on_literals
accepted words app m r is has right answers plain = by (judged words plain)
  where
    whole_right : fault_of program_app words ≡ []
    whole_right = ap (λ a. fault_of a words) (sym is) ∙ right (ap is_simple_and_free is)

    found : subcommand_rows_of m ≡ subcommand_of program_app words
    found = (has (ap is_simple is)).1 ∙ ap (λ a. subcommand_of a words) is

    by : Judged words → AnswersWords (asked_plainly words) r
    by (Taken name rows none given same) = subst (λ c. AnswersWords c r) (ap asked_by (found ∙ given) ∙ same) answers
    by (Refused wrong nothing) = absurd (none_of (subst IsRefusal whole_right wrong))
      where
        none_of : IsRefusal [] → ⊥
        none_of h = by_kinds [] refl h
          where
            by_kinds : (ks : Kinds) → ks ≡ [] → IsRefusal ks → ⊥
            by_kinds [] e h = elim h [ ]
            by_kinds (k ∷ ks) e Refuses = cc

pub refused : (words : List Text) (app : App) (e : Error) (w : WordsError) → app ≡ program_app → (is_simple_and_free app ≡ true → HasKind (fault_of app words) e)
    → (kind_of e ≡ kinds.OutOfMemory → w ≡ errors.Memory) → ArePlain words → AnswersWords (asked_plainly words) (Err w)
unfolding clap_on_literals
refused words app e w is kind memory plain = by (judged words plain)
  where
    has : HasKind (fault_of program_app words) e
    has = subst (λ a. HasKind (fault_of a words) e) is (kind (ap is_simple_and_free is))

    by_memory : HasKind [] e → w ≡ errors.Memory
    by_memory (inl out) = memory out
    by_memory (inr nowhere) = absurd nowhere

    nothing_asked : (v : WordsError) → AnswersWords Nothing (Err v)
    nothing_asked errors.Usage = refl
    nothing_asked errors.Memory = tt

    by : Judged words → AnswersWords (asked_plainly words) (Err w)
    by (Taken name rows none given same) = subst (λ v. AnswersWords (asked_plainly words) (Err v)) (sym (by_memory (subst (λ ks. HasKind ks e) none has))) tt
    by (Refused wrong nothing) = subst (λ c. AnswersWords c (Err w)) (sym nothing) (nothing_asked w)

joined : {B : Type 0} (o : Option B) (f : B → Text) (g : B → List Row) (name : Text) (rows : List Row) → Some name ≡ option_map f o
    → Some rows ≡ option_map (λ (p : Text × List Row). p.1) (option_map {U = Text × List Row} (λ b. (f b, g b)) o) → option_map {U = Text × List Row} (λ b. (f b, g b)) o ≡ Some (name, rows)
joined None f g name rows n r = absurd (none-some name (sym n))
joined (Some b) f g name rows n r =
    let first : f b ≡ name = cc in
    let second : g b ≡ rows = cc in
    ap₂ (λ x y. Some (x, y)) first second

pub among : (m : ArgMatches) (name : Text) (f : Found) (r : Result Request WordsError) → Some name ≡ subcommand_name_of m
    → Some (rows_of f) ≡ option_map (λ (p : Text × List Row). p.1) (subcommand_rows_of m) → AnswersWords (asked_in name (first_value f)) r → AnswersWords (asked_by (subcommand_rows_of m)) r
among m name f r n rows answers =
    let is = joined (out-ArgMatches m).subcommand _ _ name (rows_of f) n rows in
    subst (λ c. AnswersWords c r) (sym (ap asked_by is ∙ ap (asked_in name) (λ j id. sym (first_value-rows f id) j))) answers
