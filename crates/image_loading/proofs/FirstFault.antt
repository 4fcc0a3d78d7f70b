-- The first fault of joined lists, and of loops over elements.
use Rattle.std.proofs.Common.{◌≡◌, ◌+◌, length, drop, ◌<◌, ◌≤◌, ℕ, List, [], ◌∷◌, ◌++◌, Option, None, refl, sym, ap, ◌∙◌}
use Rattle.std.specs.Prelude.{get_or}
use Rattle.std.proofs.lemmas.List.{at_drop_more}
use Rattle.std.proofs.Math.ListN.{drop_of_length-le}
use Rattle.base.specs.FirstLaws as laws
use Rattle.base.specs.FirstLaws.{turn}
use Rattle.image.specs.Sections.{Sections}
use Rattle.image.specs.declared.attachments.Attachment.{Attachment}
use Rattle.image.specs.declared.fault.ImageFault.{ImageFault}
use Rattle.image_loading.specs.FaultOrder.{ImageFaults, after, first_of, order_of, sooner}
use Rattle.image_loading.specs.Loading.{attached_faults, attachment_faults, each}

sooner_none : (a : Option ImageFault) → sooner a None ≡ a
sooner_none a = laws.sooner_none order_of a

pub sooner_assoc : (a b c : Option ImageFault) → sooner (sooner a b) c ≡ sooner a (sooner b c)
sooner_assoc a b c = laws.sooner_assoc order_of a b c

pub first_append : (xs ys : ImageFaults) → first_of (xs ++ ys) ≡ sooner (first_of xs) (first_of ys)
first_append xs ys = laws.first_append order_of xs ys

-- a turn of a loop that judges element by element, from a number and a byte on
pub each_turn : {X : Type 0} (behind : ℕ → X → ℕ) (faults : ℕ → ℕ → X → ImageFaults) (all : List X) (n byte : ℕ) (x : X) (f one whole : Option ImageFault)
    → n < length all → x ≡ get_or all n x → sooner f (first_of (each behind faults n byte (drop n all))) ≡ whole → one ≡ first_of (faults n byte x)
    → sooner (sooner f one) (first_of (each behind faults (n + 1) (behind byte x) (drop (n + 1) all))) ≡ whole
each_turn behind faults all n byte x f one whole less is h here =
    turn order_of (λ l. each behind faults n byte l) all n x f one (faults n byte x) (each behind faults (n + 1) (behind byte x) (drop (n + 1) all)) whole less is refl h here

-- a turn of a loop over what is left, where the element is read by its number
turn_at : {X : Type 0} (left : List X → ImageFaults) (all : List X) (n : ℕ) (d : X) (f one whole : Option ImageFault) (first rest : ImageFaults)
    → n < length all → left (get_or all n d ∷ drop (n + 1) all) ≡ first ++ rest → sooner f (first_of (left (drop n all))) ≡ whole → one ≡ first_of first
    → sooner (sooner f one) (first_of rest) ≡ whole
turn_at left all n d f one whole first rest less split h here =
    sooner_assoc f one (first_of rest)
    ∙ ap (λ o. sooner f (sooner o (first_of rest))) here
    ∙ ap (sooner f) (sym (first_append first rest))
    ∙ ap (λ l. sooner f (first_of l)) (sym (at_drop_more left all n d less ∙ split))
    ∙ h

-- the same of elements that are judged one by one
pub each_turn_at : {X : Type 0} (behind : ℕ → X → ℕ) (faults : ℕ → ℕ → X → ImageFaults) (all : List X) (n byte : ℕ) (d : X) (f one whole : Option ImageFault)
    → n < length all → sooner f (first_of (each behind faults n byte (drop n all))) ≡ whole → one ≡ first_of (faults n byte (get_or all n d))
    → sooner (sooner f one) (first_of (each behind faults (n + 1) (behind byte (get_or all n d)) (drop (n + 1) all))) ≡ whole
each_turn_at behind faults all n byte d f one whole less h here =
    let x = get_or all n d in
    turn_at (λ l. each behind faults n byte l) all n d f one whole (faults n byte x) (each behind faults (n + 1) (behind byte x) (drop (n + 1) all)) less refl h
    here

-- the same of attachments, each of which is judged by the channel before it
pub attached_turn : (i : Sections) (all : List Attachment) (last n byte : ℕ) (d : Attachment) (f one whole : Option ImageFault)
    → n < length all → sooner f (first_of (attached_faults i last byte (drop n all))) ≡ whole
    → one ≡ first_of (attachment_faults i last byte (get_or all n d))
    → sooner (sooner f one) (first_of (attached_faults i (get_or all n d).channel (after byte 3) (drop (n + 1) all))) ≡ whole
attached_turn i all last n byte d f one whole less h here =
    let a = get_or all n d in
    let rest = attached_faults i a.channel (after byte 3) (drop (n + 1) all) in
    turn_at (λ l. attached_faults i last byte l) all n d f one whole (attachment_faults i last byte a) rest less refl h here

-- nothing is left
done : {X : Type 0} (left : List X → ImageFaults) (all : List X) (n : ℕ) (f whole : Option ImageFault) → left [] ≡ [] → length all ≤ n
    → sooner f (first_of (left (drop n all))) ≡ whole → f ≡ whole
done left all n f whole none le h =
    let over = ap left (drop_of_length-le all le) ∙ none in
    sym (sooner_none f) ∙ ap (λ l. sooner f (first_of l)) (sym over) ∙ h

pub each_done : {X : Type 0} (behind : ℕ → X → ℕ) (faults : ℕ → ℕ → X → ImageFaults) (all : List X) (n byte : ℕ) (f whole : Option ImageFault) → length all ≤ n → sooner f (first_of (each behind faults n byte (drop n all))) ≡ whole → f ≡ whole
each_done behind faults all n byte f whole le h = done (λ l. each behind faults n byte l) all n f whole refl le h

pub attached_done : (i : Sections) (all : List Attachment) (last n byte : ℕ) (f whole : Option ImageFault) → length all ≤ n
    → sooner f (first_of (attached_faults i last byte (drop n all))) ≡ whole → f ≡ whole
attached_done i all last n byte f whole le h = done (λ l. attached_faults i last byte l) all n f whole refl le h

-- of three parts
pub three : (x y z : Option ImageFault) (a b c : ImageFaults) → x ≡ first_of a → y ≡ first_of b → z ≡ first_of c → sooner x (sooner y z) ≡ first_of (a ++ b ++ c)
three x y z a b c p q r =
    ap (λ w. sooner w (sooner y z)) p
    ∙ (ap (λ w. sooner (first_of a) (sooner w z)) q
    ∙ (ap (λ w. sooner (first_of a) (sooner (first_of b) w)) r
    ∙ (sym (sooner_assoc (first_of a) (first_of b) (first_of c)) ∙ (ap (λ w. sooner w (first_of c)) (sym (first_append a b)) ∙ sym (first_append (a ++ b) c)))))

pub two : (x y : Option ImageFault) (a b : ImageFaults) → x ≡ first_of a → y ≡ first_of b → sooner x y ≡ first_of (a ++ b)
two x y a b p q = ap (λ w. sooner w y) p ∙ (ap (sooner (first_of a)) q ∙ sym (first_append a b))
