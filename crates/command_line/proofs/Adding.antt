-- One argument more of a command.
use Rattle.std.proofs.Common.{◌≡◌, ◌<◌, ◌+◌, ◌∙◌, ap, sym, arith, ℕ, List, [], ◌∷◌, length, map, take, suc, Bor, get_or}
use Rattle.std.proofs.lemmas.List.{map-append}
use Rattle.std.proofs.Math.Seq.{take-suc}
use Rattle.clap.specs.Words.{App, Rule, Text, with_rule}
use Rattle.clap.specs.Simple.{new_shape}
use Rattle.command_line.specs.Finding.{command_app, required_rule}

abbrev of_rules : Text → List Rule → App
of_rules name rules = record { top = record (new_shape name) { rules = rules }; subs = [] }

abbrev texts_of : List (Bor Text) → List Text
texts_of = map (λ w. w.now)

pub more : (name : Text) (words : List (Bor Text)) (i : ℕ) (d : Bor Text) → i < length words
    → with_rule (command_app name (texts_of (take i words))) (required_rule (get_or words i d).now) ≡ command_app name (texts_of (take (i + 1) words))
more name words i d there =
    ap (of_rules name) (sym (map-append required_rule (texts_of (take i words)) ((get_or words i d).now ∷ [])))
    ∙ ap (command_app name) (sym (map-append (λ (w : Bor Text). w.now) (take i words) (get_or words i d ∷ [])) ∙ ap texts_of (sym (take-suc words i d there)))
    ∙ (let e : suc i ≡ i + 1 = omega arith in ap (λ k. command_app name (texts_of (take k words))) e)
