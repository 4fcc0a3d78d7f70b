-- What is loaded where no fault was found.
use Rattle.std.proofs.Common.{◌≡◌, ◌<◌, ℕ, List, [], ◌∷◌, ◌++◌, length, Option, None, Result, Ok, Err, sym, ap, ◌∙◌, subst, refl, arith, inl, inr, ⊎_elim}
use Rattle.std.specs.Prelude.{IfErr, IfOk}
use Rattle.std.specs.List.{All}
use Rattle.std.proofs.lemmas.Bool.{cases_lt, true≢false}
use Rattle.std.proofs.lemmas.List.{get_or_past}
use Rattle.std.proofs.lemmas.List.Elements.{All-get_or}
use Rattle.image_loading.specs.Decoding.{sections_of}
use Rattle.image_loading.specs.FaultOrder.{ImageFaults, first_of, order_of}
use Rattle.image_loading.specs.Loaded.{BytesComeBack, IsLoaded, IsRead, RefusesBytes}
use Rattle.image_loading.specs.Loading.{all_crossing_faults, faults_as, header_faults, read_faults, sections_faults, unless_faulty}
use Rattle.image_loading.specs.Reading.{Raw, read_image}
use Rattle.image.specs.Refusals.{BreaksRule, RefusesImage}
use Rattle.image.specs.Rules.{IsWellFormed}
use Rattle.image.specs.Sections.{Sections}
use Rattle.image.specs.declared.fault.ImageFault.{ImageFault}
use Rattle.image_format.specs.Bytes.{bytes_of}
use Rattle.image_loading.proofs.AcceptedCode.{accepted}
use Rattle.base.specs.FirstLaws.{none_first}
use Rattle.image_loading.proofs.Spelled.{IsBytes}
use Rattle.image_loading.proofs.SpelledWhole.{spelled}

pub faultless : (raw : Raw) (parts : Sections) (fault : Option ImageFault) → parts ≡ sections_of raw → fault ≡ first_of (faults_as raw parts ++ all_crossing_faults raw) → fault ≡ None → sections_faults raw ≡ []
faultless raw parts fault same is none = none_first order_of (sections_faults raw) (sym none ∙ (is ∙ ap (λ i. first_of (faults_as raw i ++ all_crossing_faults raw)) same))

pub loaded : {E : Type 0} (bytes : List ℕ) (raw : Raw) (parts : Sections) (r : Result Sections E) → IsRead bytes raw → parts ≡ sections_of raw → sections_faults raw ≡ [] → IfOk r (λ image. image ≡ parts) → IfOk r (λ image. IsLoaded bytes image)
loaded bytes raw parts (Err e) is same none h = tt
loaded bytes raw parts (Ok image) is same none h =
    record {
      faultless = ap (λ f. unless_faulty f (read_faults bytes (read_image bytes))) is.header ∙ (ap (read_faults bytes) is.read ∙ none);
      raw = raw;
      read = is.read;
      same = h ∙ same;
    }

pub same_bytes : {E : Type 0} (bytes : List ℕ) (raw : Raw) (parts : Sections) (r : Result Sections E) → IsBytes bytes → IsRead bytes raw → parts ≡ sections_of raw → sections_faults raw ≡ [] → IfOk r (λ image. image ≡ parts) → IfOk r (λ image. bytes_of image ≡ bytes)
same_bytes bytes raw parts (Err e) fits is same none h = tt
same_bytes bytes raw parts (Ok image) fits is same none h = ap bytes_of (h ∙ same) ∙ spelled bytes raw fits is.header is.read none

never : {X : Type 0} (i : Sections) → IsWellFormed i → (n : ℕ) → BreaksRule i n → X
never i w n b =
    absurd
    (⊎_elim
    (λ h. true≢false (sym w.operands ∙ h.1))
    (λ b. ⊎_elim
    (λ h. true≢false (sym w.jumps ∙ h.1))
    (λ b. ⊎_elim (λ h. true≢false (sym w.named ∙ h.1)) (λ b. ⊎_elim (λ h. true≢false (sym w.depths ∙ h.1)) (λ h. true≢false (sym w.tables ∙ h.1)) b) b)
    b)
    b)

pub refused : {X : Type 0} (bytes : List ℕ) (raw : Raw) (parts : Sections) (r : Result X ImageFault) → parts ≡ sections_of raw → sections_faults raw ≡ [] → IfErr r (RefusesImage parts) → IfErr r (λ fault. RefusesBytes bytes fault)
refused bytes raw parts (Ok x) same none h = tt
refused bytes raw parts (Err fault) same none h =
    ⊎_elim (λ m. inl m) (λ b. never parts (subst IsWellFormed (sym same) (accepted raw none)) fault.number b.1) h

-- bytes without a fault have none in their parts

no_first : (fs others : ImageFaults) → unless_faulty fs others ≡ [] → fs ≡ []
no_first [] others e = refl
no_first (f ∷ fs) others e = cc

no_other : (fs others : ImageFaults) → unless_faulty fs others ≡ [] → others ≡ []
no_other [] others e = e
no_other (f ∷ fs) others e = cc

as_bytes : (bytes : List ℕ) → All (λ b. b < 256) bytes → IsBytes bytes
as_bytes bytes fits k =
    elim (cases_lt k (length bytes)) [
      | inl lt ↦ All-get_or (λ b. b < 256) bytes k 0 lt fits
      | inr le ↦ rw (get_or_past bytes k 0 le) (omega arith)
    ]

pub bytes_come_back : BytesComeBack
bytes_come_back bytes i fits l =
    let header = no_first (header_faults bytes) (read_faults bytes (read_image bytes)) l.faultless in
    let none = sym (ap (read_faults bytes) l.read) ∙ no_other (header_faults bytes) (read_faults bytes (read_image bytes)) l.faultless in
    ap bytes_of l.same ∙ spelled bytes l.raw (as_bytes bytes fits) header l.read none
