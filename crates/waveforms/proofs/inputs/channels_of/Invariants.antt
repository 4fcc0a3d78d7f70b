use Rattle.std.proofs.Common.{◌≡◌, ◌≤◌, [], ◌∷◌, if◌then◌else◌, suc}
use Rattle.arrayvec.specs.ArrayVec.{array_vec_len}
use Rattle.waveforms.specs.Signals.{all_below, has_line}
use Rattle.waveforms.proofs.inputs.channels_of.Given as goal

abbrev pub invariant-loop-number : goal.invariant-loop-number
invariant-loop-number l =
    (l.channels.items ≡ all_below l.number (λ n. if has_line l.fn.schedule (suc n) then suc n ∷ [] else [])) × (array_vec_len l.channels ≤ l.number)
