-- The laws of words, as statements; each is the contract of a public function.
use Rattle.std.specs.Prelude.{◌≡◌, ◌≤◌, ◌+◌, ℕ, List, [], ◌∷◌, ◌++◌, map}
use Rattle.base.specs.declared.limits.TheConstants.{WORDS}
use Rattle.types.specs.Layouts.{capped}
use Rattle.size_rules.specs.declared.thing.Thing.{Thing}
use Rattle.size_rules.specs.declared.thing.Thing.TheVariants.{Object}
use Rattle.size_rules.specs.Limits.{Things, words_faults}

abbrev pub capped_thing : Thing → Thing
capped_thing (Object place words) = Object place (capped words)
capped_thing t = t

-- No limit of at most so many words as a package has tells words from capped ones.
abbrev pub CappedWordsSuffice : Type 0
CappedWordsSuffice = (room : ℕ) (ts : Things) → room ≤ WORDS → words_faults room (map capped_thing ts) ≡ words_faults room ts

-- the words of all objects among some things
abbrev pub counted_words : Things → ℕ
counted_words [] = 0
counted_words (Object place words ∷ ts) = words + counted_words ts
counted_words (t ∷ ts) = counted_words ts

-- where no object is beyond a limit, the words of all together are within it; those of joined things add up
pub record WordsAddUp : Type 0 where
  pub within : (room : ℕ) (ts : Things) → words_faults room ts ≡ [] → counted_words ts ≤ room
  pub joined : (ts us : Things) → counted_words (ts ++ us) ≡ counted_words ts + counted_words us
