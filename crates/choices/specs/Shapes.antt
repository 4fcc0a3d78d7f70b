-- How what is read of a line stands in the code: numbers of 64 bits, and channels that there are.
use Rattle.std.specs.Prelude.{◌≡◌, ◌⊎◌, ℕ, ◌<◌, ◌≤◌, ◌^◌, ℤ, List, Option, Some, None, length, true}
use Rattle.clock.specs.Capped.{known_channel}
use Rattle.choices.specs.Texts as texts
use Rattle.choices.specs.Texts.{SlotLine, alternatives_of, line_at}
use Rattle.choices.specs.Slots.{are_values}
use Rattle.choices.specs.Faults.{line_fault, memory_fault, rule_broken}
use Rattle.choices.specs.declared.faults.ChoicesFault.{ChoicesFault}
use Rattle.choices.specs.declared.form.Times.{Times}
use Rattle.choices.specs.declared.form.Fields.{Fields}
use Rattle.choices.specs.declared.set.Line.{Line}

pub record AreLawfulTimes (t : Times) : Type 0 where
  pub last : t.last < 2 ^ 63
  pub step : t.step < 2 ^ 63
  pub on : t.first ≤ t.last
  pub leads : 0 < t.step

-- the parts of a line, its channel as it is known
pub record PartsRead : Type 0 where
  pub times : Times
  pub channel : Option ℕ
  pub alternatives : List ℕ

abbrev pub fields_read : Fields → PartsRead
fields_read fields = record { times = fields.times; channel = fields.channel; alternatives = fields.alternatives.now }

abbrev pub field_read : Option (texts.LineParts × List ℕ) → Option (PartsRead × List ℕ)
field_read None = None
field_read (Some read) =
    Some (record { times = read.0.times; channel = known_channel read.0.channel; alternatives = read.0.alternatives }, read.1)

-- a line that breaks no rule, as it is read
pub record IsNextLine (until : ℤ) (slots : ℕ) (rest : List ℕ) (line : Line) (behind : List ℕ) : Type 0 where
  pub text : SlotLine
  pub begins : line_at rest ≡ Some (text, behind)
  pub lawful : rule_broken until slots text ≡ None
  pub times : line.times ≡ text.times
  pub channel : line.channel ≡ text.channel
  pub alternatives : line.alternatives.items ≡ alternatives_of text.ranges
  pub lawful_times : AreLawfulTimes text.times
  pub values : are_values (alternatives_of text.ranges) ≡ true
  pub some : 0 < length (alternatives_of text.ranges)

abbrev pub RefusesLine : (until : ℤ) → (slots : ℕ) → (line : ℕ) → (rest : List ℕ) → ChoicesFault → Type 0
RefusesLine until slots line rest fault =
    (fault ≡ memory_fault) ⊎ ((line_fault until slots (line_at rest) ≡ Some fault.number) × (fault.line ≡ line))
