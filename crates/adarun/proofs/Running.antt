-- What the code of an image writes that means the same as a program.
use Rattle.std.proofs.Common.{◌≡◌, ℕ, ◌+◌, ◌-◌, List, true, ◌++◌, Option, Some, sym, ap, ◌∙◌, subst, arith, rules}
use Rattle.std.specs.Io.KnownBytes.{Appends}
use Rattle.base.specs.Schedule.{is_schedule}
use Rattle.base.specs.declared.schedule.ScheduleLine.{ScheduleLine}
use Rattle.clock.specs.Schedules.{IsScheduleText}
use Rattle.kernel.specs.State.{Kernel, Outcome}
use Rattle.kernel.specs.Text.{lines_text, last_line, text}
use Rattle.kernel.specs.Worlds.{Local, Tasks, among}
use Rattle.kernel.proofs.Unmoved.{lines_grow}
use Rattle.image.specs.Attachments.{handling_object}
use Rattle.image.specs.Sections.{Sections}
use Rattle.image.specs.Rules.{IsWellFormed}
use Rattle.image.specs.Steps.{behaviour}
use Rattle.image.specs.Texts.{names_of}
use Rattle.image.specs.Code.{code, code_text, partition_of, start}
use Rattle.image_laws.specs.Laws.{OutcomeStays}
use Rattle.compiler.specs.ada_tree.specs.ProgramTree.{ProgramTree}
use Rattle.compiler.specs.expr_code.specs.Coming.{most_steps}
use Rattle.compiler.specs.meaning.specs.Following.{Paced}
use Rattle.compiler.specs.meaning.specs.Meeting.{Counted}
use Rattle.compiler.specs.meaning.specs.Same.{Ends}
use Rattle.compiler.specs.meaning.specs.SameMeaning.{KeepsCount, SameMeaning, frames_of}
use Rattle.compiler.specs.meaning.specs.Source.{source, source_behaviour, source_names, source_start, source_text}
use Rattle.compiler.specs.meaning.specs.Works.{Store, TaskWork}
use Rattle.compiler.specs.Compiled.{IsBounded}
use Rattle.machine.specs.Stands.{EndsBy}
use Rattle.machine.specs.declared.reports.Outcome as machine
use Rattle.adarun.specs.Accepted.{Compiles}
use Rattle.adarun.specs.Headline.{ComesToTheSame, Runs, WritesItsMeaning, WritesSource}
use Rattle.adarun.proofs.Between.{ShowsAs, reached, shown}
use Rattle.likeness.proofs.Onward.{IsAhead, begins_ahead}
use Rattle.adarun.proofs.Reaching.{ImageLaws, source_far}

module _ (p : ProgramTree) (i : Sections) (schedule : List ScheduleLine) (lawful : is_schedule schedule ≡ true) (means : SameMeaning p i) where
  pub same_names : names_of i ≡ source_names p
  same_names = λ j. record { task = λ t. means.names.tasks t j; exception = λ x. means.names.exceptions x j }

  -- two kernels that have come to the same outcome have the same text
  same_text : (k l : Kernel) (o : Outcome) → k.outcome ≡ Some o → Ends o k l → text (source_names p) l ≡ text (source_names p) k
  same_text k l o h e = λ j. lines_text (source_names p) (e.lines_are j) ++ last_line (source_names p) ((e.outcome_is ∙ sym h) j) (e.now_is j)

  named_text : (limit : ℕ) → code_text i schedule limit ≡ text (source_names p) (code i schedule limit).kernel
  named_text limit = ap (λ names. text names (code i schedule limit).kernel) same_names

  module _ (well_formed : IsWellFormed i) (counted : KeepsCount p i (most_steps i)) (bounded : IsBounded p i) (laws : ImageLaws) where
    abbrev at : ℕ → ℕ
    at = (counted schedule lawful).0

    abbrev f : Local (Tasks Store TaskWork)
    f = among (source_behaviour p schedule)

    paced : Paced f (among (behaviour i schedule)) (Counted (behaviour i schedule) frames_of (most_steps i)) (source_start p schedule) (start i schedule) at
    paced = (counted schedule lawful).1

    -- the code shows what the source shows that has come as far
    same_shown : (limit n : ℕ) → ShowsAs (code i schedule limit).kernel (source p schedule n).kernel
        → code_text i schedule limit ≡ source_text p schedule n
    same_shown limit n same =
        named_text limit ∙ (λ j. lines_text (source_names p) (same.lines j) ++ last_line (source_names p) (same.outcome j) (same.now j))

    writes : (limit : ℕ) (outcome : machine.Outcome) (old new : Option (List ℕ)) → Appends old new (code_text i schedule limit)
        → EndsBy outcome (code i schedule limit) → WritesSource p schedule limit outcome old new
    writes limit outcome old new appends ends =
        let ahead : IsAhead (start i schedule).kernel = begins_ahead (partition_of i) (handling_object i) schedule lawful in
        let last = reached f (behaviour i schedule) frames_of (most_steps i) (source_start p schedule) (start i schedule) at lines_grow paced limit in
        let same =
        shown f (behaviour i schedule) frames_of (most_steps i) (source_start p schedule) (start i schedule) at lines_grow paced ahead limit last.0 last.1 in
        record {
          steps = last.0;
          appends = subst (Appends old new) (same_shown limit last.0 same) appends;
          ends = sym same.outcome ∙ ends.outcome;
          time = sym same.now ∙ ends.time;
          comes_far = source_far laws p i well_formed bounded schedule f (source_start p schedule) at paced limit last.0 last.1;
        }

  comes_to : OutcomeStays → ComesToTheSame p schedule i
  comes_to stays n o h =
      let x = (means.shows schedule lawful).forth n in
      let e = x.1.ends o h in (
        x.0,
        λ limit le.
            let far : x.0 + (limit - x.0) ≡ limit = omega (arith, le) in
            let same : code i schedule limit ≡ code i schedule x.0 = ap (code i schedule) (sym far) ∙ stays i schedule x.0 (limit - x.0) o e.outcome_is in (
              ap (λ w. w.kernel.outcome) same ∙ e.outcome_is,
              named_text limit ∙ ap (λ w. text (source_names p) w.kernel) same ∙ same_text (source p schedule n).kernel (code i schedule x.0).kernel o h e,
            ),
      )

pub runs : (outcome : machine.Outcome) (t input : List ℕ) (i : Sections) (schedule : List ScheduleLine) (limit : ℕ) (old new : Option (List ℕ))
    → OutcomeStays → ImageLaws → Compiles t i → IsScheduleText input schedule → Appends old new (code_text i schedule limit)
    → EndsBy outcome (code i schedule limit) → Runs t input limit outcome old new
runs outcome t input i schedule limit old new stays laws c read appends ends =
    let lawful : is_schedule schedule ≡ true = search rules in
    record {
      schedule = schedule;
      is_schedule = read;
      tree = c.tree;
      accepted = c.accepted;
      image = i;
      means = c.means;
      counted = c.counted;
      bounded = c.bounded;
      well_formed = c.well_formed;
      appends = appends;
      ends = ends;
      writes = writes c.tree i schedule lawful c.means c.well_formed c.counted c.bounded laws limit outcome old new appends ends;
      comes_to = comes_to c.tree i schedule lawful c.means stays;
    }

pub meant : (t input : List ℕ) (limit : ℕ) (outcome : machine.Outcome) (old new : Option (List ℕ)) → Runs t input limit outcome old new
    → WritesItsMeaning t input limit outcome old new
meant t input limit outcome old new r =
    record { schedule = r.schedule; is_schedule = r.is_schedule; tree = r.tree; accepted = r.accepted; writes = r.writes }
