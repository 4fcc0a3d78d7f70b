-- The value change dump of a run over virtual time, byte for byte (docs/FORMATS.md, "Value change dumps").
use Rattle.std.specs.Prelude.{ℕ, List, [], ◌∷◌, ◌++◌, Option, Some, None, unsigned_abs}
use Rattle.base.specs.declared.schedule.ScheduleLine.{ScheduleLine}
use Rattle.image.specs.Code.{CodeWorld, code}
use Rattle.image.specs.Sections.{Sections}
use Rattle.image.specs.Texts.{names_of}
use Rattle.machine.specs.Bounds.{cut_line}
use Rattle.machine.specs.declared.bound.Bound.{Bound}
use Rattle.waveforms.specs.Instants.{instants}
use Rattle.waveforms.specs.Lines.{TaskLabel, labels_of}
use Rattle.waveforms.specs.Signals.{Shown, values}
use Rattle.waveforms.specs.Waves.{all_changes_text, comment_text, declarations_text, start_text, tick_text}
use Rattle.waveforms.specs.declared.axis.Axis.TheVariants.{Time}
use Rattle.waveforms.specs.Scopes.{Scopes}

-- the text of an instant at this time, by the values that were written last: all values where none were, or else those that differ
abbrev pub instant_text : (time : ℕ) → Option Shown → Shown → List ℕ
instant_text time None new = start_text time new
instant_text time (Some old) new = tick_text time ++ all_changes_text old new

-- that of each of these instants, by the values at its end and at that of the one before it; times are not negative
abbrev pub instants_text : Scopes → List ScheduleLine → List TaskLabel → Option Shown → List CodeWorld → List ℕ
instants_text scopes schedule labels dumped [] = []
instants_text scopes schedule labels dumped (w ∷ ws) =
    let shown = values scopes schedule labels w in
    instant_text (unsigned_abs w.kernel.now) dumped shown ++ instants_text scopes schedule labels (Some shown) ws

-- all that is written of a run within a bound, with the variables of these scopes and the labels of its lines
abbrev pub time_waves_text : Sections → Scopes → List ScheduleLine → Bound → List ℕ
time_waves_text i scopes schedule bound =
    let k = (code i schedule bound.steps).kernel in
    let labels = labels_of k.lines in
    declarations_text Time scopes schedule labels i
    ++ instants_text scopes schedule labels None (instants i schedule bound.steps)
    ++ comment_text (cut_line bound.cut (names_of i) k.outcome k.now)
