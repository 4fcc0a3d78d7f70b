-- Words that are capped are told from others by no limit.
use Rattle.std.proofs.Common.{◌≡◌, ◌≤◌, ◌-◌, ℕ, [], ◌∷◌, ◌++◌, map, Bool, true, false, refl, ap, ◌∙◌, arith}
use Rattle.std.specs.Prelude.{nat_lt}
use Rattle.std.proofs.lemmas.Bool.{le-ltb, lt-ltb, ltb-false, ltb-true}
use Rattle.base.specs.declared.faults.TheConstants.{LIMIT_PASSED}
use Rattle.base.specs.declared.limits.TheConstants.{WORDS}
use Rattle.types.specs.Layouts.{capped}
use Rattle.expr_rules.specs.Faults.{rule}
use Rattle.size_rules.specs.declared.thing.Thing.TheVariants.{Counted, Label, Object}
use Rattle.size_rules.specs.Limits.{words_faults}
use Rattle.size_rules.specs.Laws.{CappedWordsSuffice, capped_thing}

less_by : (room words : ℕ) (b : Bool) → room ≤ WORDS → nat_lt room words ≡ b → nat_lt room (capped words) ≡ b
less_by room words true h e = let l = ltb-true room words e in lt-ltb room (capped words) (omega (arith, l, h))
less_by room words false h e = let l = ltb-false room words e in le-ltb room (capped words) (omega (arith, l, h))

left : (room words : ℕ) → room ≤ WORDS → room - capped words ≡ room - words
left room words h = omega (arith, h)

pub suffices : CappedWordsSuffice
suffices room [] h = refl
suffices room (Object place words ∷ ts) h =
    let less : room - words ≤ WORDS = omega (arith, h) in
    (λ j. rule LIMIT_PASSED place (less_by room words (nat_lt room words) h refl j) ++ words_faults (left room words h j) (map capped_thing ts))
    ∙ ap (λ l. rule LIMIT_PASSED place (nat_lt room words) ++ l) (suffices (room - words) ts less)
suffices room (Label text place ∷ ts) h = suffices room ts h
suffices room (Counted kind place ∷ ts) h = suffices room ts h
