-- Channels rise up to 8: an image has at most as many attachments.
use Rattle.std.proofs.Common.{◌≡◌, ℕ, ◌+◌, ◌<◌, ◌≤◌, List, [], ◌∷◌, length, true, arith}
use Rattle.std.proofs.lemmas.Bool.{and_parts, leb-true, ltb-true}
use Rattle.std.specs.Prelude.{nat_le, nat_lt}
use Rattle.base.specs.declared.limits.TheConstants.{CHANNELS}
use Rattle.image.specs.RuleFacts.{facts}
use Rattle.image.specs.Rules.{IsWellFormed, are_attached, is_attached}
use Rattle.image.specs.Sections.{Sections}
use Rattle.image.specs.declared.attachments.Attachment.{Attachment}

left : (i : Sections) (attachments : List Attachment) (last : ℕ) → are_attached i last attachments ≡ true → last ≤ CHANNELS
    → last + length attachments ≤ CHANNELS
left i [] last e le = omega (arith, le)
left i (a ∷ rest) last e le =
    let p = and_parts (is_attached i last a) _ e in
    let q = and_parts (nat_lt last a.channel) _ p.0 in
    let above : last < a.channel = ltb-true last a.channel q.0 in
    let within : a.channel ≤ CHANNELS = leb-true a.channel CHANNELS (and_parts (nat_le a.channel CHANNELS) _ q.1).0 in
    let later = left i rest a.channel p.1 within in
    omega (arith, above, later)

pub few_attached : (i : Sections) → IsWellFormed i → length i.attachments ≤ CHANNELS
few_attached i w = let le = left i i.attachments 0 (facts i w).attached (omega arith) in omega (arith, le)
