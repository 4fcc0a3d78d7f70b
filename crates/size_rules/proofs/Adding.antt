-- The words of objects together, within what limits leave for each.
use Rattle.std.proofs.Common.{◌≡◌, ◌≤◌, ◌+◌, ◌-◌, ℕ, List, [], ◌∷◌, ◌++◌, Bool, true, false, refl, arith}
use Rattle.std.specs.Prelude.{nat_lt}
use Rattle.std.proofs.lemmas.Bool.{ltb-false}
use Rattle.base.specs.declared.faults.TheConstants.{LIMIT_PASSED}
use Rattle.expr_rules.specs.Faults.{rule}
use Rattle.size_rules.specs.declared.thing.Thing.TheVariants.{Counted, Label, Object}
use Rattle.size_rules.specs.Limits.{Things, object_rule, words_faults}
use Rattle.size_rules.specs.Laws.{WordsAddUp, counted_words}

joined : (ts us : Things) → counted_words (ts ++ us) ≡ counted_words ts + counted_words us
joined [] us = omega arith
joined (Object place words ∷ ts) us = let e = joined ts us in omega (arith, e)
joined (Counted kind place ∷ ts) us = joined ts us
joined (Label text place ∷ ts) us = joined ts us

both_empty : {X : Type 0} (xs ys : List X) → xs ++ ys ≡ [] → (xs ≡ []) × (ys ≡ [])
both_empty [] ys h = (refl, h)
both_empty (x ∷ xs) ys h = cc

unbroken : (number place : ℕ) (b : Bool) → rule number place b ≡ [] → b ≡ false
unbroken number place true h = cc
unbroken number place false h = refl

within : (room : ℕ) (ts : Things) → words_faults room ts ≡ [] → counted_words ts ≤ room
within room [] h = omega arith
within room (Object place words ∷ ts) h =
    let two = both_empty (object_rule room (Object place words)) (words_faults (room - words) ts) h in
    let here = ltb-false room words (unbroken LIMIT_PASSED place (nat_lt room words) two.0) in
    let there = within (room - words) ts two.1 in omega (arith, here, there)
within room (Counted kind place ∷ ts) h = within room ts h
within room (Label text place ∷ ts) h = within room ts h

pub words_add_up : WordsAddUp
words_add_up = record { within = within; joined = joined }
