-- What clap makes of words of which none but `-` begins with `-`, for the commands.
use Rattle.std.proofs.Common.{◌≡◌, ◌∙◌, ap, sym, subst, refl, ℕ, Bool, true, false, not, List, [], ◌∷◌, Some, None, if◌then◌else◌, nat_eq, codes, bytes_eq}
use Rattle.std.specs.Option.{option_map_or}
use Rattle.clap.specs.Lexer.{long_of, short_of}
use Rattle.clap.specs.Walk.{Held, Names, Row, Rule, Text, Walk, after_step, arg_by_index, finished, first_of, idle, long_or_other, nothing_held, rows_after, settled, short_or_plain, subcommand_met, subcommand_or_other, to_positional, trailing, value, walk, walked, word_met}
use Rattle.clap.specs.Simple.{Shape, built_leaf, inherited, marked_built, with_leaf_noted}
use Rattle.clap.specs.Kinds.{Kinds, or_else}
use Rattle.clap.specs.Faults.{bundle_fault, check_fault, defaults_fault, flag_word_fault, level_fault, other_fault, settle_fault, step_fault, turn_fault, walk_fault, word_fault}
use Rattle.clap.specs.declared.error.kind.ErrorKind.{ErrorKind}
use Rattle.clap.proofs.OnLiterals.{clap_on_literals}
use Rattle.command_line.specs.Words.{CompileText, is_plain}
use Rattle.command_line.specs.Finding.{asked_in, command_app, explain_app, program_shape, simulate_app}

-- ---- one word

pub record IsNoFlag (word : Text) : Type 0 where
  pub escape : bytes_eq word (45 ∷ 45 ∷ []) ≡ false
  pub long : long_of word ≡ None
  pub short : short_of word ≡ None

pub not_true : (b : Bool) → not b ≡ true → b ≡ false
not_true false h = refl
not_true true h = absurd (let no : false ≡ true = h in cc)

pub no_flag : (word : Text) → is_plain word ≡ true → IsNoFlag word
no_flag [] h = record { escape = refl; long = refl; short = refl }
no_flag (c ∷ []) h = by (nat_eq c 45) refl
  where
    by : (b : Bool) → nat_eq c 45 ≡ b → IsNoFlag (c ∷ [])
    by true e = record { escape = rw e refl; long = rw e refl; short = rw e refl }
    by false e = record { escape = rw e refl; long = rw e refl; short = rw e refl }
no_flag (c ∷ d ∷ rest) h =
    let e : nat_eq c 45 ≡ false = not_true (nat_eq c 45) h in record { escape = rw e refl; long = rw e refl; short = rw e refl }

-- the walk over words, which nothing has stopped
abbrev pub at : Held → ℕ → Walk
at h p = record { held = h; waiting = idle; position = p; is_trailing = false; stopped = None }

pub met : (c : List Rule) (names : Names) (p : ℕ) (word : Text) (h : Held) → IsNoFlag word → subcommand_met names idle word ≡ None
    → word_met c names false idle p word h ≡ (h, value)
met c names p word h n none =
    ap (λ s. subcommand_or_other c s idle p word h) none
    ∙ ap (λ b. if b then (h, trailing p) else long_or_other c idle word (long_of word) h) n.escape
    ∙ ap (λ l. long_or_other c idle word l h) n.long
    ∙ ap (λ s. short_or_plain c idle word s h) n.short

pub unflagged : (s : Shape) (names : Names) (word : Text) (h : Held) → IsNoFlag word → subcommand_met names idle word ≡ None
    → word_fault s names false idle word h ≡ []
unflagged s names word h n none =
    ap (λ o. other_fault s o word h) none
    ∙ ap (λ b. if b then [] else flag_word_fault s.rules s.args_override_self (long_of word) word h) n.escape
    ∙ ap (λ l. flag_word_fault s.rules s.args_override_self l word h) n.long
    ∙ ap (λ o. option_map_or (λ flags. bundle_fault s.rules s.args_override_self flags h) o []) n.short

pub walked_plain : (c : List Rule) (names : Names) (p : ℕ) (word : Text) (h : Held) → IsNoFlag word → subcommand_met names idle word ≡ None
    → walked c names (at h p) word ≡ to_positional c (arg_by_index c p) word (at h p) h
unfolding walked
walked_plain c names p word h n none = ap (λ m. after_step c word (at h p) m.0 m.1) (met c names p word h n none)

pub turn_plain : (s : Shape) (names : Names) (p : ℕ) (word : Text) (h : Held) → IsNoFlag word → subcommand_met names idle word ≡ None
    → turn_fault s names (at h p) word ≡ step_fault s p h value
turn_plain s names p word h n none =
    ap (λ f. or_else f (step_fault s p (word_met s.rules names false idle p word h).0 (word_met s.rules names false idle p word h).1)) (unflagged s names word h n none)
    ∙ ap (λ m. step_fault s p m.0 m.1) (met s.rules names p word h n none)

pub fault_plain : (s : Shape) (names : Names) (p : ℕ) (word : Text) (h : Held) (rest : List Text) → IsNoFlag word → subcommand_met names idle word ≡ None
    → walk_fault s names (at h p) (word ∷ rest)
    ≡ or_else (step_fault s p h value) (walk_fault s names (to_positional s.rules (arg_by_index s.rules p) word (at h p) h) rest)
unfolding walk_fault
fault_plain s names p word h rest n none =
    ap (λ f. or_else f (walk_fault s names (walked s.rules names (at h p) word) rest)) (turn_plain s names p word h n none)
    ∙ ap (λ w. or_else (step_fault s p h value) (walk_fault s names w rest)) (walked_plain s.rules names p word h n none)

-- ---- the arguments of one command

-- an error comes
pub data IsRefusal : Kinds → Type 0 where
  Refuses : {k : ErrorKind} {ks : Kinds} → IsRefusal (k ∷ ks)

-- the fault of one level, by what the walk over the words came to
abbrev pub level_at : Shape → Bool → Kinds → Held → Kinds → Kinds
level_at s has_subcommand below end wrong =
    or_else wrong
    (or_else below (or_else (settle_fault s.rules s.args_override_self end)
    (or_else (defaults_fault (settled s.rules end).rows s.rules)
    (check_fault s (finished s.rules end) has_subcommand))))

pub level_by : (s : Shape) (names : Names) (words : List Text) (has_subcommand : Bool) (below wrong : Kinds) (end : Held)
    → walk_fault s names (at nothing_held 1) words ≡ wrong
    → (walk s.rules names nothing_held words).held ≡ end
    → level_fault s names nothing_held words has_subcommand below ≡ level_at s has_subcommand below end wrong
level_by s names words has_subcommand below wrong end w e =
    ap (level_at s has_subcommand below (walk s.rules names nothing_held words).held) w ∙ ap (λ h. level_at s has_subcommand below h wrong) e

-- as clap builds it, under this name
abbrev pub leaf : Text → List Text → Shape
leaf name ids = built_leaf (inherited (with_leaf_noted (marked_built program_shape)) (command_app name ids).top)

abbrev pub no_ids : List Text
no_ids = []

abbrev pub two_ids : List Text
two_ids = codes "SRC" ∷ codes "IMG" ∷ []

-- `run` and `go`, by the name of the first
abbrev pub three_ids : Text → List Text
three_ids first = first ∷ codes "SCHED" ∷ codes "LIMIT" ∷ []

-- the command that explains, as clap builds it
abbrev pub explain_leaf : Shape
explain_leaf = built_leaf (inherited (with_leaf_noted (marked_built program_shape)) explain_app.top)

-- these words were read, the last of them for this argument
abbrev pub reading : List Row → Text → Text → Held
reading rows id word = record { rows = rows; pending = Some (id, word ∷ []); skip = 0 }

module _ (name : Text) where
  abbrev pub s : Shape
  s = leaf name two_ids

  pub second_of : (a : Text) → IsNoFlag a → walked s.rules [] (at nothing_held 1) a ≡ at (reading [] (codes "SRC") a) 2
  second_of a na = walked_plain s.rules [] 1 a nothing_held na refl

  abbrev pub rows_two : Text → List Row
  rows_two a = (settled s.rules (reading [] (codes "SRC") a)).rows

  pub third_of : (a b : Text) → IsNoFlag b → walked s.rules [] (at (reading [] (codes "SRC") a) 2) b ≡ at (reading (rows_two a) (codes "IMG") b) 3
  third_of a b nb = walked_plain s.rules [] 2 b (reading [] (codes "SRC") a) nb refl

  pub end_two : (a b : Text) → IsNoFlag a → IsNoFlag b → walk s.rules [] nothing_held (a ∷ b ∷ []) ≡ at (reading (rows_two a) (codes "IMG") b) 3
  end_two a b na nb = ap (λ w. walked s.rules [] w b) (second_of a na) ∙ third_of a b nb

  pub wrong_two : (a b : Text) (more : List Text) → IsNoFlag a → IsNoFlag b
      → walk_fault s [] (at nothing_held 1) (a ∷ b ∷ more) ≡ walk_fault s [] (at (reading (rows_two a) (codes "IMG") b) 3) more
  unfolding walk_fault
  wrong_two a b more na nb =
      fault_plain s [] 1 a nothing_held (b ∷ more) na refl ∙ fault_plain s [] 2 b (reading [] (codes "SRC") a) more nb refl

  pub two_refused_none : IsRefusal (level_fault s [] nothing_held [] false [])
  unfolding clap_on_literals
  two_refused_none = Refuses

  pub two_refused_one : (a : Text) → IsNoFlag a → IsRefusal (level_fault s [] nothing_held (a ∷ []) false [])
  unfolding clap_on_literals
  two_refused_one a na =
      subst IsRefusal (sym (level_by s [] (a ∷ []) false [] [] (reading [] (codes "SRC") a) (fault_plain s [] 1 a nothing_held [] na refl) (ap (λ w. w.held) (second_of a na)))) Refuses

  pub two_taken : (a b : Text) → IsNoFlag a → IsNoFlag b → level_fault s [] nothing_held (a ∷ b ∷ []) false [] ≡ []
  unfolding clap_on_literals
  two_taken a b na nb = level_by s [] (a ∷ b ∷ []) false [] [] _ (wrong_two a b [] na nb) (ap (λ w. w.held) (end_two a b na nb))

  pub two_refused_more : (a b c : Text) (more : List Text) → IsNoFlag a → IsNoFlag b → IsNoFlag c → IsRefusal (level_fault s [] nothing_held (a ∷ b ∷ c ∷ more) false [])
  two_refused_more a b c more na nb nc =
      subst IsRefusal (sym (level_by s [] (a ∷ b ∷ c ∷ more) false [] _ _ (wrong_two a b (c ∷ more) na nb ∙ fault_plain s [] 3 c _ more nc refl) refl)) Refuses

  pub two_rows : (a b : Text) → IsNoFlag a → IsNoFlag b
      → rows_after s.rules [] (a ∷ b ∷ []) ≡ finished s.rules (reading (rows_two a) (codes "IMG") b)
  two_rows a b na nb = ap (λ w. finished s.rules w.held) (end_two a b na nb)

  pub two_found : (a b : Text) → asked_in (codes "compile") (λ id. first_of id (finished s.rules (reading (rows_two a) (codes "IMG") b))) ≡ CompileText a b
  two_found a b = refl

-- a command with one argument
module _ (name id : Text) where
  abbrev pub l : Shape
  l = leaf name (id ∷ [])

  pub end_one : (a : Text) → IsNoFlag a → walk l.rules [] nothing_held (a ∷ []) ≡ at (reading [] id a) 2
  end_one a na = walked_plain l.rules [] 1 a nothing_held na refl

  pub wrong_one : (a : Text) (more : List Text) → IsNoFlag a
      → walk_fault l [] (at nothing_held 1) (a ∷ more) ≡ walk_fault l [] (at (reading [] id a) 2) more
  wrong_one a more na = fault_plain l [] 1 a nothing_held more na refl

  pub one_refused_none : IsRefusal (level_fault l [] nothing_held [] false [])
  unfolding clap_on_literals
  one_refused_none = Refuses

  -- where nothing is wrong with what was read
  pub one_taken : (a : Text) → IsNoFlag a → level_at l false [] (reading [] id a) [] ≡ [] → level_fault l [] nothing_held (a ∷ []) false [] ≡ []
  unfolding walk_fault
  one_taken a na right = level_by l [] (a ∷ []) false [] [] _ (wrong_one a [] na) (ap (λ w. w.held) (end_one a na)) ∙ right

  pub one_refused_more : (a b : Text) (more : List Text) → IsNoFlag a → IsNoFlag b → IsRefusal (level_fault l [] nothing_held (a ∷ b ∷ more) false [])
  one_refused_more a b more na nb =
      subst IsRefusal (sym (level_by l [] (a ∷ b ∷ more) false [] _ _ (wrong_one a (b ∷ more) na ∙ fault_plain l [] 2 b _ more nb refl) refl)) Refuses

  pub one_rows : (a : Text) → IsNoFlag a → rows_after l.rules [] (a ∷ []) ≡ finished l.rules (reading [] id a)
  one_rows a na = ap (λ w. finished l.rules w.held) (end_one a na)

abbrev pub x : Shape
x = explain_leaf

abbrev pub number_held : Text → Held
number_held a = reading [] (codes "NUMBER") a

abbrev pub source_held : Text → Text → Held
source_held a b = reading (settled x.rules (number_held a)).rows (codes "SRC") b

pub end_number : (a : Text) → IsNoFlag a → walk x.rules [] nothing_held (a ∷ []) ≡ at (number_held a) 2
end_number a na = walked_plain x.rules [] 1 a nothing_held na refl

pub end_source : (a b : Text) → IsNoFlag a → IsNoFlag b → walk x.rules [] nothing_held (a ∷ b ∷ []) ≡ at (source_held a b) 3
end_source a b na nb = ap (λ w. walked x.rules [] w b) (end_number a na) ∙ walked_plain x.rules [] 2 b (number_held a) nb refl

pub wrong_number : (a : Text) (more : List Text) → IsNoFlag a
    → walk_fault x [] (at nothing_held 1) (a ∷ more) ≡ walk_fault x [] (at (number_held a) 2) more
wrong_number a more na = fault_plain x [] 1 a nothing_held more na refl

pub wrong_source : (a b : Text) (more : List Text) → IsNoFlag a → IsNoFlag b
    → walk_fault x [] (at nothing_held 1) (a ∷ b ∷ more) ≡ walk_fault x [] (at (source_held a b) 3) more
wrong_source a b more na nb = wrong_number a (b ∷ more) na ∙ fault_plain x [] 2 b (number_held a) more nb refl

pub number_refused_none : IsRefusal (level_fault x [] nothing_held [] false [])
unfolding clap_on_literals
number_refused_none = Refuses

pub number_taken : (a : Text) → IsNoFlag a → level_fault x [] nothing_held (a ∷ []) false [] ≡ []
unfolding clap_on_literals
number_taken a na = level_by x [] (a ∷ []) false [] [] _ (wrong_number a [] na) (ap (λ w. w.held) (end_number a na))

pub source_taken : (a b : Text) → IsNoFlag a → IsNoFlag b → level_fault x [] nothing_held (a ∷ b ∷ []) false [] ≡ []
unfolding clap_on_literals
source_taken a b na nb = level_by x [] (a ∷ b ∷ []) false [] [] _ (wrong_source a b [] na nb) (ap (λ w. w.held) (end_source a b na nb))

pub source_refused_more : (a b c : Text) (more : List Text) → IsNoFlag a → IsNoFlag b → IsNoFlag c
    → IsRefusal (level_fault x [] nothing_held (a ∷ b ∷ c ∷ more) false [])
source_refused_more a b c more na nb nc =
    subst IsRefusal (sym (level_by x [] (a ∷ b ∷ c ∷ more) false [] _ _ (wrong_source a b (c ∷ more) na nb ∙ fault_plain x [] 3 c _ more nc refl) refl)) Refuses

pub number_rows : (a : Text) → IsNoFlag a → rows_after x.rules [] (a ∷ []) ≡ finished x.rules (number_held a)
number_rows a na = ap (λ w. finished x.rules w.held) (end_number a na)

pub source_rows : (a b : Text) → IsNoFlag a → IsNoFlag b → rows_after x.rules [] (a ∷ b ∷ []) ≡ finished x.rules (source_held a b)
source_rows a b na nb = ap (λ w. finished x.rules w.held) (end_source a b na nb)

module _ (name : Text) where
  abbrev pub run : Shape
  run = leaf name (three_ids (codes "IMG"))

  abbrev pub run_first : Text → Held
  run_first a = reading [] (codes "IMG") a

  abbrev pub run_second : Text → Text → Held
  run_second a b = reading (settled run.rules (run_first a)).rows (codes "SCHED") b

  abbrev pub run_third : Text → Text → Text → Held
  run_third a b c = reading (settled run.rules (run_second a b)).rows (codes "LIMIT") c

  pub end_run_one : (a : Text) → IsNoFlag a → walk run.rules [] nothing_held (a ∷ []) ≡ at (run_first a) 2
  end_run_one a na = walked_plain run.rules [] 1 a nothing_held na refl

  pub end_run_two : (a b : Text) → IsNoFlag a → IsNoFlag b → walk run.rules [] nothing_held (a ∷ b ∷ []) ≡ at (run_second a b) 3
  end_run_two a b na nb = ap (λ w. walked run.rules [] w b) (end_run_one a na) ∙ walked_plain run.rules [] 2 b (run_first a) nb refl

  pub end_run : (a b c : Text) → IsNoFlag a → IsNoFlag b → IsNoFlag c → walk run.rules [] nothing_held (a ∷ b ∷ c ∷ []) ≡ at (run_third a b c) 4
  end_run a b c na nb nc = ap (λ w. walked run.rules [] w c) (end_run_two a b na nb) ∙ walked_plain run.rules [] 3 c (run_second a b) nc refl

  pub wrong_run_two : (a b : Text) (more : List Text) → IsNoFlag a → IsNoFlag b
      → walk_fault run [] (at nothing_held 1) (a ∷ b ∷ more) ≡ walk_fault run [] (at (run_second a b) 3) more
  wrong_run_two a b more na nb =
      fault_plain run [] 1 a nothing_held (b ∷ more) na refl ∙ fault_plain run [] 2 b (run_first a) more nb refl

  pub wrong_run : (a b c : Text) (more : List Text) → IsNoFlag a → IsNoFlag b → IsNoFlag c
      → walk_fault run [] (at nothing_held 1) (a ∷ b ∷ c ∷ more) ≡ walk_fault run [] (at (run_third a b c) 4) more
  wrong_run a b c more na nb nc = wrong_run_two a b (c ∷ more) na nb ∙ fault_plain run [] 3 c (run_second a b) more nc refl

  pub run_refused_none : IsRefusal (level_fault run [] nothing_held [] false [])
  unfolding clap_on_literals
  run_refused_none = Refuses

  pub run_refused_one : (a : Text) → IsNoFlag a → IsRefusal (level_fault run [] nothing_held (a ∷ []) false [])
  unfolding clap_on_literals
  run_refused_one a na =
      subst IsRefusal (sym (level_by run [] (a ∷ []) false [] [] _ (fault_plain run [] 1 a nothing_held [] na refl) (ap (λ w. w.held) (end_run_one a na)))) Refuses

  pub run_refused_two : (a b : Text) → IsNoFlag a → IsNoFlag b → IsRefusal (level_fault run [] nothing_held (a ∷ b ∷ []) false [])
  unfolding clap_on_literals
  run_refused_two a b na nb =
      subst IsRefusal (sym (level_by run [] (a ∷ b ∷ []) false [] [] _ (wrong_run_two a b [] na nb) (ap (λ w. w.held) (end_run_two a b na nb)))) Refuses

  pub run_taken : (a b c : Text) → IsNoFlag a → IsNoFlag b → IsNoFlag c → level_fault run [] nothing_held (a ∷ b ∷ c ∷ []) false [] ≡ []
  unfolding clap_on_literals
  run_taken a b c na nb nc = level_by run [] (a ∷ b ∷ c ∷ []) false [] [] _ (wrong_run a b c [] na nb nc) (ap (λ w. w.held) (end_run a b c na nb nc))

  pub run_refused_more : (a b c d : Text) (more : List Text) → IsNoFlag a → IsNoFlag b → IsNoFlag c → IsNoFlag d
      → IsRefusal (level_fault run [] nothing_held (a ∷ b ∷ c ∷ d ∷ more) false [])
  run_refused_more a b c d more na nb nc nd =
      subst IsRefusal (sym (level_by run [] (a ∷ b ∷ c ∷ d ∷ more) false [] _ _ (wrong_run a b c (d ∷ more) na nb nc ∙ fault_plain run [] 4 d _ more nd refl) refl)) Refuses

  pub run_rows : (a b c : Text) → IsNoFlag a → IsNoFlag b → IsNoFlag c
      → rows_after run.rules [] (a ∷ b ∷ c ∷ []) ≡ finished run.rules (run_third a b c)
  run_rows a b c na nb nc = ap (λ w. finished run.rules w.held) (end_run a b c na nb nc)

module _ (name : Text) where
  abbrev pub go : Shape
  go = leaf name (three_ids (codes "SRC"))

  abbrev pub go_first : Text → Held
  go_first a = reading [] (codes "SRC") a

  abbrev pub go_second : Text → Text → Held
  go_second a b = reading (settled go.rules (go_first a)).rows (codes "SCHED") b

  abbrev pub go_third : Text → Text → Text → Held
  go_third a b c = reading (settled go.rules (go_second a b)).rows (codes "LIMIT") c

  pub end_go_one : (a : Text) → IsNoFlag a → walk go.rules [] nothing_held (a ∷ []) ≡ at (go_first a) 2
  end_go_one a na = walked_plain go.rules [] 1 a nothing_held na refl

  pub end_go_two : (a b : Text) → IsNoFlag a → IsNoFlag b → walk go.rules [] nothing_held (a ∷ b ∷ []) ≡ at (go_second a b) 3
  end_go_two a b na nb = ap (λ w. walked go.rules [] w b) (end_go_one a na) ∙ walked_plain go.rules [] 2 b (go_first a) nb refl

  pub end_go : (a b c : Text) → IsNoFlag a → IsNoFlag b → IsNoFlag c → walk go.rules [] nothing_held (a ∷ b ∷ c ∷ []) ≡ at (go_third a b c) 4
  end_go a b c na nb nc = ap (λ w. walked go.rules [] w c) (end_go_two a b na nb) ∙ walked_plain go.rules [] 3 c (go_second a b) nc refl

  pub wrong_go_two : (a b : Text) (more : List Text) → IsNoFlag a → IsNoFlag b
      → walk_fault go [] (at nothing_held 1) (a ∷ b ∷ more) ≡ walk_fault go [] (at (go_second a b) 3) more
  wrong_go_two a b more na nb =
      fault_plain go [] 1 a nothing_held (b ∷ more) na refl ∙ fault_plain go [] 2 b (go_first a) more nb refl

  pub wrong_go : (a b c : Text) (more : List Text) → IsNoFlag a → IsNoFlag b → IsNoFlag c
      → walk_fault go [] (at nothing_held 1) (a ∷ b ∷ c ∷ more) ≡ walk_fault go [] (at (go_third a b c) 4) more
  wrong_go a b c more na nb nc = wrong_go_two a b (c ∷ more) na nb ∙ fault_plain go [] 3 c (go_second a b) more nc refl

  pub go_refused_none : IsRefusal (level_fault go [] nothing_held [] false [])
  unfolding clap_on_literals
  go_refused_none = Refuses

  pub go_refused_one : (a : Text) → IsNoFlag a → IsRefusal (level_fault go [] nothing_held (a ∷ []) false [])
  unfolding clap_on_literals
  go_refused_one a na =
      subst IsRefusal (sym (level_by go [] (a ∷ []) false [] [] _ (fault_plain go [] 1 a nothing_held [] na refl) (ap (λ w. w.held) (end_go_one a na)))) Refuses

  pub go_refused_two : (a b : Text) → IsNoFlag a → IsNoFlag b → IsRefusal (level_fault go [] nothing_held (a ∷ b ∷ []) false [])
  unfolding clap_on_literals
  go_refused_two a b na nb =
      subst IsRefusal (sym (level_by go [] (a ∷ b ∷ []) false [] [] _ (wrong_go_two a b [] na nb) (ap (λ w. w.held) (end_go_two a b na nb)))) Refuses

  pub go_taken : (a b c : Text) → IsNoFlag a → IsNoFlag b → IsNoFlag c → level_fault go [] nothing_held (a ∷ b ∷ c ∷ []) false [] ≡ []
  unfolding clap_on_literals
  go_taken a b c na nb nc = level_by go [] (a ∷ b ∷ c ∷ []) false [] [] _ (wrong_go a b c [] na nb nc) (ap (λ w. w.held) (end_go a b c na nb nc))

  pub go_refused_more : (a b c d : Text) (more : List Text) → IsNoFlag a → IsNoFlag b → IsNoFlag c → IsNoFlag d
      → IsRefusal (level_fault go [] nothing_held (a ∷ b ∷ c ∷ d ∷ more) false [])
  go_refused_more a b c d more na nb nc nd =
      subst IsRefusal (sym (level_by go [] (a ∷ b ∷ c ∷ d ∷ more) false [] _ _ (wrong_go a b c (d ∷ more) na nb nc ∙ fault_plain go [] 4 d _ more nd refl) refl)) Refuses

  pub go_rows : (a b c : Text) → IsNoFlag a → IsNoFlag b → IsNoFlag c
      → rows_after go.rules [] (a ∷ b ∷ c ∷ []) ≡ finished go.rules (go_third a b c)
  go_rows a b c na nb nc = ap (λ w. finished go.rules w.held) (end_go a b c na nb nc)

-- a command without arguments
module _ (name : Text) where
  abbrev pub n : Shape
  n = leaf name no_ids

  pub alone_taken : level_fault n [] nothing_held [] false [] ≡ []
  unfolding clap_on_literals
  alone_taken = refl

  pub alone_refused_more : (a : Text) (more : List Text) → IsNoFlag a → IsRefusal (level_fault n [] nothing_held (a ∷ more) false [])
  alone_refused_more a more na =
      subst IsRefusal (sym (level_by n [] (a ∷ more) false [] _ _ (fault_plain n [] 1 a nothing_held more na refl) refl)) Refuses

-- the command that simulates, as clap builds it
abbrev pub y : Shape
y = built_leaf (inherited (with_leaf_noted (marked_built program_shape)) simulate_app.top)

abbrev pub text_held : Text → Held
text_held a = reading [] (codes "SRC") a

abbrev pub input_held : Text → Text → Held
input_held a b = reading (settled y.rules (text_held a)).rows (codes "SCHED") b

abbrev pub limit_held : Text → Text → Text → Held
limit_held a b c = reading (settled y.rules (input_held a b)).rows (codes "LIMIT") c

pub end_text : (a : Text) → IsNoFlag a → walk y.rules [] nothing_held (a ∷ []) ≡ at (text_held a) 2
end_text a na = walked_plain y.rules [] 1 a nothing_held na refl

pub end_input : (a b : Text) → IsNoFlag a → IsNoFlag b → walk y.rules [] nothing_held (a ∷ b ∷ []) ≡ at (input_held a b) 3
end_input a b na nb = ap (λ w. walked y.rules [] w b) (end_text a na) ∙ walked_plain y.rules [] 2 b (text_held a) nb refl

pub end_limit : (a b c : Text) → IsNoFlag a → IsNoFlag b → IsNoFlag c → walk y.rules [] nothing_held (a ∷ b ∷ c ∷ []) ≡ at (limit_held a b c) 4
end_limit a b c na nb nc = ap (λ w. walked y.rules [] w c) (end_input a b na nb) ∙ walked_plain y.rules [] 3 c (input_held a b) nc refl

pub wrong_text : (a : Text) (more : List Text) → IsNoFlag a
    → walk_fault y [] (at nothing_held 1) (a ∷ more) ≡ walk_fault y [] (at (text_held a) 2) more
wrong_text a more na = fault_plain y [] 1 a nothing_held more na refl

pub wrong_input : (a b : Text) (more : List Text) → IsNoFlag a → IsNoFlag b
    → walk_fault y [] (at nothing_held 1) (a ∷ b ∷ more) ≡ walk_fault y [] (at (input_held a b) 3) more
wrong_input a b more na nb = wrong_text a (b ∷ more) na ∙ fault_plain y [] 2 b (text_held a) more nb refl

pub wrong_limit : (a b c : Text) (more : List Text) → IsNoFlag a → IsNoFlag b → IsNoFlag c
    → walk_fault y [] (at nothing_held 1) (a ∷ b ∷ c ∷ more) ≡ walk_fault y [] (at (limit_held a b c) 4) more
wrong_limit a b c more na nb nc = wrong_input a b (c ∷ more) na nb ∙ fault_plain y [] 3 c (input_held a b) more nc refl

pub text_refused_none : IsRefusal (level_fault y [] nothing_held [] false [])
unfolding clap_on_literals
text_refused_none = Refuses

pub text_taken : (a : Text) → IsNoFlag a → level_fault y [] nothing_held (a ∷ []) false [] ≡ []
unfolding clap_on_literals
text_taken a na = level_by y [] (a ∷ []) false [] [] _ (wrong_text a [] na) (ap (λ w. w.held) (end_text a na))

pub input_taken : (a b : Text) → IsNoFlag a → IsNoFlag b → level_fault y [] nothing_held (a ∷ b ∷ []) false [] ≡ []
unfolding clap_on_literals
input_taken a b na nb = level_by y [] (a ∷ b ∷ []) false [] [] _ (wrong_input a b [] na nb) (ap (λ w. w.held) (end_input a b na nb))

pub limit_taken : (a b c : Text) → IsNoFlag a → IsNoFlag b → IsNoFlag c → level_fault y [] nothing_held (a ∷ b ∷ c ∷ []) false [] ≡ []
unfolding clap_on_literals
limit_taken a b c na nb nc =
    level_by y [] (a ∷ b ∷ c ∷ []) false [] [] _ (wrong_limit a b c [] na nb nc) (ap (λ w. w.held) (end_limit a b c na nb nc))

pub limit_refused_more : (a b c d : Text) (more : List Text) → IsNoFlag a → IsNoFlag b → IsNoFlag c → IsNoFlag d
    → IsRefusal (level_fault y [] nothing_held (a ∷ b ∷ c ∷ d ∷ more) false [])
limit_refused_more a b c d more na nb nc nd =
    subst IsRefusal
    (sym (level_by y [] (a ∷ b ∷ c ∷ d ∷ more) false [] _ _ (wrong_limit a b c (d ∷ more) na nb nc ∙ fault_plain y [] 4 d _ more nd refl) refl))
    Refuses

pub text_rows : (a : Text) → IsNoFlag a → rows_after y.rules [] (a ∷ []) ≡ finished y.rules (text_held a)
text_rows a na = ap (λ w. finished y.rules w.held) (end_text a na)

pub input_rows : (a b : Text) → IsNoFlag a → IsNoFlag b → rows_after y.rules [] (a ∷ b ∷ []) ≡ finished y.rules (input_held a b)
input_rows a b na nb = ap (λ w. finished y.rules w.held) (end_input a b na nb)

pub limit_rows : (a b c : Text) → IsNoFlag a → IsNoFlag b → IsNoFlag c
    → rows_after y.rules [] (a ∷ b ∷ c ∷ []) ≡ finished y.rules (limit_held a b c)
limit_rows a b c na nb nc = ap (λ w. finished y.rules w.held) (end_limit a b c na nb nc)
