-- Laws of source runs, and what the same meaning says of the texts.
use Rattle.std.proofs.Common.{◌≡◌, List, [], ◌∷◌, ◌++◌, Some, refl, sym, ap, ◌∙◌, append_assoc}
use Rattle.kernel.specs.State.{Kernel, Line, Outcome}
use Rattle.kernel.specs.Worlds.{among}
use Rattle.kernel.specs.Text.{Names, line_text, lines_text, last_line, text}
use Rattle.kernel.specs.Laws.{LinesGrow}
use Rattle.kernel.specs.RunLaws.{run_plus, run_over, run_lines}
use Rattle.image.specs.Sections.{Sections}
use Rattle.image.specs.Texts.{names_of}
use Rattle.image.specs.Steps.{behaviour}
use Rattle.image.specs.Code.{code, start}
use Rattle.ada_tree.specs.ProgramTree.{ProgramTree}
use Rattle.meaning.specs.Same.{Covers}
use Rattle.meaning.specs.Following.{paced_same}
use Rattle.meaning.specs.Meeting.{Counted}
use Rattle.meaning.specs.Source.{source, source_behaviour, source_names, source_start}
use Rattle.meaning.specs.SameMeaning.{SameNames, frames_of}
use Rattle.meaning.specs.Laws.{SourceStays, SourceLinesGrow, CountGivesMeaning, MeaningIsWritten}

pub source_stays : SourceStays
source_stays p schedule n j o e =
    let f = among (source_behaviour p schedule) in
    run_plus f n j (source_start p schedule) ∙ run_over f j (source p schedule n) o e

pub source_lines_grow : LinesGrow → SourceLinesGrow
source_lines_grow grow p schedule n j =
    let f = among (source_behaviour p schedule) in
    let x = run_lines f grow j (source p schedule n) in
    (x.0, ap (λ w. w.kernel.lines) (run_plus f n j (source_start p schedule)) ∙ x.1)

pub count_gives_meaning : LinesGrow → CountGivesMeaning
count_gives_meaning grow p i limit names count = record {
  names = names;
  shows = λ schedule ok.
      let x = count schedule ok in
      paced_same (among (source_behaviour p schedule)) (among (behaviour i schedule)) (Counted (behaviour i schedule) frames_of limit) (source_start p schedule) (start i schedule) x.0 grow x.1;
}

lines_text_append : (names : Names) (ls ms : List Line) → lines_text names (ls ++ ms) ≡ lines_text names ls ++ lines_text names ms
lines_text_append names [] ms = refl
lines_text_append names (l ∷ ls) ms = ap (λ x. line_text names l ++ x) (lines_text_append names ls ms) ∙ sym (append_assoc (line_text names l) (lines_text names ls) (lines_text names ms))

names_same : (p : ProgramTree) (i : Sections) → SameNames p i → names_of i ≡ source_names p
names_same p i s = λ j. record { task = λ t. s.tasks t j; exception = λ x. s.exceptions x j }

-- where a has an outcome and b covers it, both texts are the same
ends_text : (names : Names) (a b : Kernel) (o : Outcome) → a.outcome ≡ Some o → Covers a b → text names a ≡ text names b
ends_text names a b o e c =
    let x = c.ends o e in
    let outcome = e ∙ sym x.outcome_is in
    λ j. lines_text names (sym x.lines_are j) ++ last_line names (outcome j) (sym x.now_is j)

pub meaning_is_written : MeaningIsWritten
meaning_is_written p i same schedule ok =
    let s = same.shows schedule ok in
    let names = names_same p i same.names in
    record {
      forth = λ n o e.
          let x = s.forth n in
          (x.0, ap (λ z. text z (code i schedule x.0).kernel) names ∙ sym (ends_text (source_names p) (source p schedule n).kernel (code i schedule x.0).kernel o e x.1));
      back = λ m o e.
          let x = s.back m in
          (x.0, ap (λ z. text z (code i schedule m).kernel) names ∙ ends_text (source_names p) (code i schedule m).kernel (source p schedule x.0).kernel o e x.1);
      cut = λ m.
          let x = s.back m in
          let ls = (code i schedule m).kernel.lines in (
            x.0,
            lines_text (source_names p) x.1.begins.0,
            ap (lines_text (source_names p)) x.1.begins.1 ∙ lines_text_append (source_names p) ls x.1.begins.0 ∙ ap (λ z. lines_text z ls ++ lines_text (source_names p) x.1.begins.0) (sym names),
          );
    }
