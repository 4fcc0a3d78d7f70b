-- What is in front with one item more.
use Rattle.std.proofs.Common.{◌≡◌, ◌<◌, ◌+◌, ℕ, List, length, if◌then◌else◌, ap}
use Rattle.std.proofs.lemmas.Bool.{lt-ltb}
use Rattle.ada_tree.specs.declared.declaration.Item.{Item}
use Rattle.ada_tree.specs.declared.program.BodyItem.{BodyItem}
use Rattle.conformance.specs.Tables.{front_next}

pub gone_on : (specified : List Item) (items : List BodyItem) (n : ℕ) → n < length items → front_next (specified, (items, n)) ≡ (specified, (items, n + 1))
gone_on specified items n less = ap (λ b. (specified, (items, if b then n + 1 else n))) (lt-ltb n (length items) less)
