-- How what is drawn looks: its class, by which the style gives it its colour, its outline, where in its row it is, and the words of its title.
use Rattle.std.specs.Prelude.{ℕ, List, codes}
use Rattle.pictures.specs.declared.ink.Ink.{Ink}
use Rattle.pictures.specs.declared.ink.Ink.TheVariants.{Ready, Running, Delayed, Queued, Ended, Waits, Served, Entered, Left, Ran, Used, Preempted, Late, Refused, Raised, Unhandled, Line, Input}

abbrev pub class : Ink → List ℕ
class Ready = codes "ready"
class Running = codes "running"
class Delayed = codes "delayed"
class Queued = codes "queued"
class Ended = codes "ended"
class Waits = codes "waits"
class Served = codes "served"
class Entered = codes "entered"
class Left = codes "left"
class Ran = codes "ran"
class Used = codes "used"
class Preempted = codes "preempted"
class Late = codes "late"
class Refused = codes "refused"
class Raised = codes "raised"
class Unhandled = codes "unhandled"
class Line = codes "line"
class Input = codes "input"

-- A bar goes to the right edge, and the next one of its row covers it from where that begins; a mark is drawn from where it is on.

abbrev pub outline : Ink → List ℕ
outline Ready = codes "H16800"
outline Running = codes "H16800"
outline Delayed = codes "H16800"
outline Queued = codes "H16800"
outline Ended = codes "H16800"
outline Waits = codes "H16800"
outline Served = codes "H16800"
outline Entered = codes "H16800"
outline Left = codes "H16800"
outline Ran = codes "v-120"
outline Used = codes "v-120"
outline Preempted = codes "l-45-100h90z"
outline Late = codes "l-55-60 55-60 55 60z"
outline Refused = codes "m-50-110 100 100m0-100-100 100"
outline Raised = codes "m-50-110 100 100m0-100-100 100"
outline Unhandled = codes "m-50-110 100 100m0-100-100 100"
outline Line = codes "v-150h110l-35 40 35 40h-110"
outline Input = codes "l-50 90h100z"

-- how far below the upper edge of its row
abbrev pub offset : Ink → ℕ
offset Waits = 225
offset Served = 225
offset Entered = 285
offset Left = 285
offset Ready = 250
offset Running = 250
offset Delayed = 250
offset Queued = 250
offset Ended = 250
offset Ran = 170
offset Used = 170
offset Preempted = 170
offset Late = 170
offset Refused = 170
offset Raised = 170
offset Unhandled = 170
offset Line = 170
offset Input = 70

abbrev pub words : Ink → List ℕ
words Ready = codes "is ready"
words Running = codes "runs"
words Delayed = codes "waits until "
words Queued = codes "queues at "
words Ended = codes "ends"
words Waits = codes "queues at "
words Served = codes "is served at "
words Entered = codes "enters "
words Left = codes "leaves "
words Ran = codes "runs"
words Used = codes "enters "
words Preempted = codes "is preempted by "
words Late = codes "is late by "
words Refused = codes "is refused an operation"
words Raised = codes "raises "
words Unhandled = codes "is left by "
words Line = codes "writes "
words Input = codes "line "
