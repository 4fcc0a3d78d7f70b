-- The instants that steps end, and their texts.
use Rattle.std.proofs.Common.{◌≡◌, ℕ, zero, suc, ◌+◌, List, [], ◌∷◌, ◌++◌, Option, Some, refl, sym, ap, ◌∙◌, arith, append_assoc, append-nil, if◌then◌else◌, ℤ, false}
use Rattle.std.specs.Prelude.{int_lt, unsigned_abs}
use Rattle.std.proofs.lemmas.Int.{ints}
use Rattle.base.specs.declared.schedule.ScheduleLine.{ScheduleLine}
use Rattle.kernel.specs.State.{Outcome as KernelOutcome}
use Rattle.image.specs.Code.{CodeWorld, code}
use Rattle.image.specs.Sections.{Sections}
use Rattle.image_laws.specs.Laws.{OutcomeStays}
use Rattle.waveforms.specs.Instants.{ended, ended_by, world_before}
use Rattle.waveforms.specs.Lines.{TaskLabel}
use Rattle.waveforms.specs.Signals.{Shown, values}
use Rattle.waveforms.specs.Scopes.{Scopes}
use Rattle.waveforms.specs.TimeWaves.{instant_text, instants_text}
use Rattle.waveforms.specs.LastValues.{dumped_after}

-- instants, and then more of them

pub dumped_more : (scopes : Scopes) (schedule : List ScheduleLine) (labels : List TaskLabel) (dumped : Option Shown) (ks more : List CodeWorld) → dumped_after scopes schedule labels dumped (ks ++ more) ≡ dumped_after scopes schedule labels (dumped_after scopes schedule labels dumped ks) more
dumped_more scopes schedule labels dumped [] more = refl
dumped_more scopes schedule labels dumped (w ∷ ws) more = dumped_more scopes schedule labels (Some (values scopes schedule labels w)) ws more

pub text_more : (scopes : Scopes) (schedule : List ScheduleLine) (labels : List TaskLabel) (dumped : Option Shown) (ks more : List CodeWorld) → instants_text scopes schedule labels dumped (ks ++ more) ≡ instants_text scopes schedule labels dumped ks ++ instants_text scopes schedule labels (dumped_after scopes schedule labels dumped ks) more
text_more scopes schedule labels dumped [] more = refl
text_more scopes schedule labels dumped (w ∷ ws) more =
    let first = instant_text (unsigned_abs w.kernel.now) dumped (values scopes schedule labels w) in
    ap (λ v. first ++ v) (text_more scopes schedule labels (Some (values scopes schedule labels w)) ws more) ∙ sym (append_assoc first (instants_text scopes schedule labels (Some (values scopes schedule labels w)) ws) (instants_text scopes schedule labels (dumped_after scopes schedule labels (Some (values scopes schedule labels w)) ws) more))

-- a clock that stands still ends no instant

not_before : (time : ℤ) → int_lt time time ≡ false
not_before time = grind (arith, ints)

pub none_ended : (w : CodeWorld) → ended_by w.kernel.now w ≡ []
none_ended w = ap (λ b. if b then world_before w.kernel.now w ∷ [] else []) (not_before w.kernel.now)

module _ (i : Sections) (schedule : List ScheduleLine) where
  -- those that some steps end begin those that more do
  pub ended_grow : (n j : ℕ) → (more : List CodeWorld) × (ended i schedule (n + j) ≡ ended i schedule n ++ more)
  ended_grow n zero = let e : n + zero ≡ n = omega arith in ([], ap (ended i schedule) e ∙ sym (append-nil (ended i schedule n)))
  ended_grow n (suc j) =
      let e : n + suc j ≡ suc (n + j) = omega arith in
      let r = ended_grow n j in
      let last = ended_by (code i schedule (n + j)).kernel.now (code i schedule (suc (n + j))) in
      (r.0 ++ last, ap (ended i schedule) e ∙ ap (λ v. v ++ last) r.1 ∙ append_assoc (ended i schedule n) r.0 last)

  -- after an outcome none is ended
  pub ended_stay : OutcomeStays → (n : ℕ) (o : KernelOutcome) → (code i schedule n).kernel.outcome ≡ Some o → (j : ℕ) → ended i schedule (n + j) ≡ ended i schedule n
  ended_stay stays n o is zero = let e : n + zero ≡ n = omega arith in ap (ended i schedule) e
  ended_stay stays n o is (suc j) =
      let e : n + suc j ≡ suc (n + j) = omega arith in
      let later : code i schedule (suc (n + j)) ≡ code i schedule n = ap (code i schedule) (sym e) ∙ stays i schedule n (suc j) o is in
      let last : ended_by (code i schedule (n + j)).kernel.now (code i schedule (suc (n + j))) ≡ [] =
      ap (λ (w : CodeWorld). ended_by w.kernel.now (code i schedule (suc (n + j)))) (stays i schedule n j o is)
      ∙ ap (λ (w : CodeWorld). ended_by (code i schedule n).kernel.now w) later
      ∙ none_ended (code i schedule n) in
      ap (ended i schedule) e ∙ ap (λ v. ended i schedule (n + j) ++ v) last ∙ append-nil (ended i schedule (n + j)) ∙ ended_stay stays n o is j
