-- A handler begins with an instruction that keeps its exception in a word of the frame that is none of a visible object's.
use Rattle.std.proofs.Common.{ℕ, ◌≤◌, ◌<◌, ℤ, List, [], ◌∷◌, length, refl, ap, arith}
use Rattle.std.specs.Prelude.{pos}
use Rattle.kernel.specs.Laws.{QuietStays}
use Rattle.image.specs.Sections.{Sections}
use Rattle.image.specs.Frames.{Frame}
use Rattle.image.specs.declared.instruction.Operation.TheVariants as op
use Rattle.types.specs.Laws.{ValuesHaveWords}
use Rattle.types.specs.Places.{Place}
use Rattle.expr_soundness.specs.meaning.specs.Works.{Activation}
use Rattle.expr_code.specs.Seeing.{Package}
use Rattle.expr_code.specs.Views.{At, View}
use Rattle.part_code.specs.Resting.{Framed, HeldWord, Knows, Rests, RestsWith}
use Rattle.part_code.specs.Handling.{IsKept, KeepsException}
use Rattle.part_code.specs.Layout.{IsFree, IsLaidOut}
use Rattle.stmt_code.proofs.Parameters.{IsUnseen, held_stay, number_written, unseen_rests, with_word, word_there}
use Rattle.part_code.proofs.Walking.{stores_local}

-- a frame in which statements leave one word more alone
abbrev pub reserving : ℕ → Framed → Framed
reserving word v = record v { reserved = word ∷ v.reserved }

knows_reserving : (g : Package) (v : Framed) (word : ℕ) (p : Place) (view : View) → Knows g v p view → Knows g (reserving word v) p view
knows_reserving g v word p view h = record { sees = h.sees; within = h.within; room = h.room; homes = h.homes }

knows_more : (g : Package) (v : Framed) (word : ℕ) (p : Place) (view : View) → Knows g (reserving word v) p view → Knows g v p view
knows_more g v word p view h = record { sees = h.sees; within = h.within; room = h.room; homes = h.homes }

rests_reserving : (g : Package) (v : Framed) (word : ℕ) (a : Activation) (locals : List ℤ) → Rests g v a locals → Rests g (reserving word v) a locals
rests_reserving g v word a locals h = record {
  small = h.small;
  sees = λ p view shared one two three four. knows_reserving g v word p view (h.sees p view shared one two three four);
}

module _ (quiet : QuietStays) (sized : ValuesHaveWords) (i : Sections) (g : Package) (v : Framed) (laid : IsLaidOut g v) (word place : ℕ)
    (here : At i place (op.StoreLocal word)) (unseen : IsUnseen v word) (free : IsFree v.reserved word 1) (room : word < v.room) where
  kept : (f : Frame) (held : List HeldWord) (a : Activation) (x : ℕ) → v.room ≤ length f.locals → RestsWith g v held a f.locals
      → IsKept i g (reserving word v) word place f held a x
  kept f held a x many rests =
      let less : word < length f.locals = omega (arith, room, many) in
      let after = with_word word (pos x) f.locals in record {
        locals = after;
        acts = λ schedule k t m fs. stores_local quiet i schedule k t m f fs place word here (pos x) [] less;
        rests = record {
          rests = rests_reserving g v word a after
              (unseen_rests sized g v laid a f.locals after rests.rests word (pos x) unseen (number_written f.locals word (pos x) less));
          held = (word_there f.locals word (pos x) less, held_stay held v.reserved f.locals word (pos x) less rests.apart free rests.held);
          apart = ap (λ l. word ∷ l) rests.apart;
        };
      }

  pub keeps_exception : KeepsException i g v (reserving word v) word place
  keeps_exception = record { shows = knows_more g v word; reserved = refl; keeps = kept }
