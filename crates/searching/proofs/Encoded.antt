-- Worlds with equal words are alike.
use Rattle.std.proofs.Common.{◌≡◌, ℕ, zero, suc, ℤ, pos, List, [], ◌∷◌, ◌++◌, flat_map, length, take, refl, sym, ap, subst, ◌∙◌, arith, rules}
use Rattle.std.proofs.lemmas.List.{append-nil, append_assoc}
use Rattle.execution.proofs.Encoded.{IsReadFrom, contents_read, option_read}
use Rattle.execution.specs.Encoding.{AreAdded, contents_words, option_words}
use Rattle.execution.specs.Held.{HeldWorld, tasks_in}
use Rattle.processor.specs.Layout.{TaskRow}
use Rattle.tasking.specs.Held.{place_at}
use Rattle.tasking.specs.declared.reports.Place.{Place}
use Rattle.tasking.specs.declared.reports.Place.TheVariants as places
use Rattle.searching.specs.Encoding.{ended_words, place_number, place_object, place_words, sleeper_words}
use Rattle.searching.specs.Following.{AreLikeWorlds, IsEncoded, IsSeenIn, SeenWorld, rows_of, standing_words, world_words}

-- none begins with the word after the last one
abbrev IsNeverZero : {A : Type 0} → (A → List ℤ) → Type 0
IsNeverZero {A = A} f = (x : A) (r s : List ℤ) → pos 0 ∷ r ≡ f x ++ s → ⊥

number_same : (m n : ℕ) (r s : List ℤ) → pos m ∷ r ≡ pos n ∷ s → (m ≡ n) × (r ≡ s)
number_same m n r s e = (search (rules, e), search (rules, e))

word_same : (x y : ℤ) (r s : List ℤ) → x ∷ r ≡ y ∷ s → (x ≡ y) × (r ≡ s)
word_same x y r s e = (search (rules, e), search (rules, e))

-- a place by its number and its object
abbrev place_from : ℕ → ℕ → Place
place_from (suc zero) object = places.Running
place_from (suc (suc zero)) object = places.Ready
place_from (suc (suc (suc zero))) object = places.Asleep
place_from (suc (suc (suc (suc (suc zero))))) object = places.Queued object
place_from (suc (suc (suc (suc (suc (suc zero)))))) object = places.Served object
place_from _ object = places.Finished

place_back : (p : Place) → place_from (place_number p) (place_object p) ≡ p
place_back places.Running = refl
place_back places.Ready = refl
place_back places.Asleep = refl
place_back places.Finished = refl
place_back (places.Queued object) = refl
place_back (places.Served object) = refl

place_read : IsReadFrom place_words
unfolding place_words
place_read p q r s e =
    let number = number_same (place_number p) (place_number q) (pos (place_object p) ∷ r) (pos (place_object q) ∷ s) e in
    let object = number_same (place_object p) (place_object q) r s number.1 in
    (sym (place_back p) ∙ ((λ j. place_from (number.0 j) (object.0 j)) ∙ place_back q), object.1)

number_not_zero : (p : Place) → 0 ≡ place_number p → ⊥
number_not_zero places.Running e = absurd (omega (arith, e))
number_not_zero places.Ready e = absurd (omega (arith, e))
number_not_zero places.Asleep e = absurd (omega (arith, e))
number_not_zero places.Finished e = absurd (omega (arith, e))
number_not_zero (places.Queued object) e = absurd (omega (arith, e))
number_not_zero (places.Served object) e = absurd (omega (arith, e))

place_not_zero : IsNeverZero place_words
unfolding place_words
place_not_zero p r s e = number_not_zero p (number_same 0 (place_number p) r (pos (place_object p) ∷ s) e).0

sleeper_read : IsReadFrom sleeper_words
unfolding sleeper_words
sleeper_read x y r s e =
    let one = number_same 1 1 (pos x.task ∷ x.wake ∷ r) (pos y.task ∷ y.wake ∷ s) e in
    let task = number_same x.task y.task (x.wake ∷ r) (y.wake ∷ s) one.1 in
    let wake = word_same x.wake y.wake r s task.1 in (λ j. record { task = task.0 j; wake = wake.0 j }, wake.1)

sleeper_not_zero : IsNeverZero sleeper_words
unfolding sleeper_words
sleeper_not_zero x r s e = let differ = (number_same 0 1 r (pos x.task ∷ x.wake ∷ s) e).0 in absurd (omega (arith, differ))

-- the words of one and of others, and what is after them
ahead : (a b r : List ℤ) → ((a ++ b) ++ (pos 0 ∷ [])) ++ r ≡ a ++ ((b ++ (pos 0 ∷ [])) ++ r)
ahead a b r = ap (λ l. l ++ r) (append_assoc a b (pos 0 ∷ [])) ∙ append_assoc a (b ++ pos 0 ∷ []) r

ended_read : {A : Type 0} (f : A → List ℤ) → IsReadFrom f → IsNeverZero f → (xs ys : List A) (r s : List ℤ)
    → ended_words f xs ++ r ≡ ended_words f ys ++ s → (xs ≡ ys) × (r ≡ s)
ended_read f is not_zero [] [] r s e = (refl, (word_same (pos 0) (pos 0) r s e).1)
ended_read f is not_zero [] (y ∷ ys) r s e = absurd (not_zero y r (ended_words f ys ++ s) (e ∙ ahead (f y) (flat_map f ys) s))
ended_read f is not_zero (x ∷ xs) [] r s e = absurd (not_zero x s (ended_words f xs ++ r) (sym e ∙ ahead (f x) (flat_map f xs) r))
ended_read f is not_zero (x ∷ xs) (y ∷ ys) r s e =
    let first = is x y (ended_words f xs ++ r) (ended_words f ys ++ s) (sym (ahead (f x) (flat_map f xs) r) ∙ (e ∙ ahead (f y) (flat_map f ys) s)) in
    let rest = ended_read f is not_zero xs ys r s first.1 in (λ j. first.0 j ∷ rest.0 j, rest.1)

many_taken : (n : ℕ) (xs ys : List TaskRow) → length xs ≡ length ys → length (tasks_in (take n xs)) ≡ length (tasks_in (take n ys))
many_taken zero xs ys e = refl
many_taken (suc n) [] [] e = refl
many_taken (suc n) [] (y ∷ ys) e = absurd (omega (arith, e))
many_taken (suc n) (x ∷ xs) [] e = absurd (omega (arith, e))
many_taken (suc n) (x ∷ xs) (y ∷ ys) e = ap suc (many_taken n xs ys (omega (arith, e)))

-- the parts of a world's words
parts : (w : SeenWorld) → world_words w ≡ w.time
    ∷ (option_words w.handler
    ++ (ended_words place_words w.places
    ++ (ended_words sleeper_words w.sleepers ++ (contents_words (rows_of w.handler (length w.places)) w.contents ++ []))))
parts w =
    let h = option_words w.handler in
    let p = ended_words place_words w.places in
    let s = ended_words sleeper_words w.sleepers in
    let c = contents_words (rows_of w.handler (length w.places)) w.contents in
    ap (λ l. w.time ∷ l) (append_assoc (h ++ p) s c ∙ (append_assoc h p (s ++ c) ∙ ap (λ l. h ++ (p ++ (s ++ l))) (sym (append-nil c))))

pub alike_by : (v w : SeenWorld) → length v.contents.tasks ≡ length w.contents.tasks → world_words v ≡ world_words w → AreLikeWorlds v w
alike_by v w many e =
    let n = rows_of v.handler (length v.places) in
    let m = rows_of w.handler (length w.places) in
    let c = contents_words n v.contents ++ [] in
    let d = contents_words m w.contents ++ [] in
    let vs = ended_words sleeper_words v.sleepers in
    let ws = ended_words sleeper_words w.sleepers in
    let vp = ended_words place_words v.places in
    let wp = ended_words place_words w.places in
    let time =
    word_same v.time w.time (option_words v.handler ++ (vp ++ (vs ++ c))) (option_words w.handler ++ (wp ++ (ws ++ d))) (sym (parts v) ∙ (e ∙ parts w)) in
    let handler = option_read v.handler w.handler (vp ++ (vs ++ c)) (wp ++ (ws ++ d)) time.1 in
    let stands = ended_read place_words place_read place_not_zero v.places w.places (vs ++ c) (ws ++ d) handler.1 in
    let sleepers = ended_read sleeper_words sleeper_read sleeper_not_zero v.sleepers w.sleepers c d stands.1 in
    let count : m ≡ n = λ j. rows_of (sym handler.0 j) (length (sym stands.0 j)) in
    let contents : contents_words n v.contents ++ [] ≡ contents_words n w.contents ++ [] =
    subst (λ k. c ≡ contents_words k w.contents ++ []) count sleepers.1 in
    let read = contents_read n v.contents w.contents [] [] (many_taken n v.contents.tasks w.contents.tasks many) contents in
    record {
      time = time.0;
      handler = handler.0;
      places = record { count = ap length stands.0; each = λ u lt. ap (λ l. place_at l u) stands.0 };
      sleepers = sleepers.0;
      words = read.0;
      tasks = read.1;
    }

-- words that were added to those of the time, the handler, the places and the sleepers
pub encoded : (h : HeldWorld) (w : SeenWorld) (count : ℕ) (before after : List ℤ) → IsSeenIn h w → count ≡ rows_of w.handler (length w.places)
    → before ≡ standing_words w → AreAdded h count before after → IsEncoded h after
encoded h w count before after seen many first more =
    let own = more.are_words in
    let all : SeenWorld = record { time = w.time; handler = w.handler; places = w.places; sleepers = w.sleepers; contents = own.contents } in
    record {
      world = all;
      seen = record {
        time = seen.time;
        on = seen.on;
        handler = seen.handler;
        places = seen.places;
        sleepers = seen.sleepers;
        contents = own.are_contents;
        whole = seen.whole;
      };
      are =
          more.added
          ∙ (ap (λ l. l ++ more.words) first
          ∙ ap (λ l. standing_words w ++ l) (own.are ∙ ap (λ n. contents_words n own.contents) many));
    }
