-- What was put together and joined to a draft, part by part: the code between them.
use Rattle.std.proofs.Common.{◌≡◌, ◌≤◌, ℕ, ◌+◌, List, [], ◌∷◌, ◌++◌, length, max, refl, sym, ap, ◌∙◌, subst, arith, append_assoc, length-append}
use Rattle.std.proofs.lemmas.List.{append-nil}
use Rattle.image.specs.declared.instruction.Instr.{Instr}
use Rattle.expr_code.specs.Appending.{AllKeep, Appends}
use Rattle.expr_code.specs.Code.{here}
use Rattle.expr_code.specs.Pieces.{Piece, deepest_of, ◌▸◌}
use Rattle.expr_code.specs.declared.code.Code.{Code}
use Rattle.expr_code.proofs.Pieces.{deepest_append}
use Rattle.stmt_code.specs.Drafting.{CodePart, Drafted, Start, coded, ◌▹◌}
use Rattle.stmt_code.specs.Joining.{IsJoined}
use Rattle.stmt_code.specs.declared.draft.Draft.{Draft}
use Rattle.stmt_code.proofs.BodiesDo.{start_of}

-- ---- instructions

-- code with these instructions, of which there are no more than in other code
abbrev pub code_of : (other : Code) (items : List Instr) (deepest : ℕ) → length items ≤ here other → Code
code_of other items deepest less =
    record other {
      instructions =
          record other.instructions {
            len = length items;
            items = items;
            ok = (refl, (let long = other.instructions.ok.0 in let room = other.instructions.ok.1 in omega (arith, less, long, room)));
          };
      deepest = deepest;
    }

keep_front : (a b : List Instr) → AllKeep (a ++ b) → AllKeep a
keep_front [] b h = tt
keep_front (x ∷ a) b h = (h.0, keep_front a b h.1)

keep_back : (a b : List Instr) → AllKeep (a ++ b) → AllKeep b
keep_back [] b h = h
keep_back (x ∷ a) b h = keep_back a b h.1

module _ (old new : Code) (a b : List Instr) (h : Appends old (a ++ b) new) where
  pub long_new : here new ≡ here old + (length a + length b)
  long_new =
      let whole = ap length h.items ∙ length-append old.instructions.items (a ++ b) in
      let parts = length-append a b in
      omega (arith, whole, parts)

  pub long_front : length (old.instructions.items ++ a) ≡ here old + length a
  long_front = length-append old.instructions.items a

  pub less_front : length (old.instructions.items ++ a) ≤ here new
  less_front = let front = long_front in let whole = long_new in omega (arith, front, whole)

  -- the code between them
  abbrev pub middle : Code
  middle = code_of new (old.instructions.items ++ a) (max old.deepest (deepest_of a)) less_front

  pub appends_front : Appends old a middle
  appends_front = record {
    items = refl;
    deepest = refl;
    keep = keep_front a b h.keep;
    few = (let front = long_front in let whole = long_new in let few = h.few in omega (arith, front, whole, few));
  }

  pub appends_back : Appends middle b new
  appends_back = record {
    items = h.items ∙ sym (append_assoc old.instructions.items a b);
    deepest = (let whole = h.deepest in let parts = deepest_append a b in omega (arith, whole, parts));
    keep = keep_back a b h.keep;
    few = h.few;
  }

-- ---- pieces

module _ (old new : Code) (a b : Piece) (h : Appends old ((a ▸ b) (here old)) new) where
  abbrev pub first_items : List Instr
  first_items = a (here old)

  abbrev pub later_items : List Instr
  later_items = b (here old + length first_items)

  pub both_items : Appends old (first_items ++ later_items) new
  unfolding ◌▸◌
  both_items = h

  -- the code between them
  abbrev pub between : Code
  between = middle old new first_items later_items both_items

  pub piece_front : Appends old (a (here old)) between
  piece_front = appends_front old new first_items later_items both_items

  pub piece_back : Appends between (b (here between)) new
  piece_back =
      subst (λ n. Appends between (b n) new) (sym (long_front old new first_items later_items both_items))
      (appends_back old new first_items later_items both_items)

-- ---- parts

most_of : (k m : ℕ) → max k (max m 0) ≡ max k m
most_of k m = omega arith

-- instructions alone, and a part after them
module _ (old new : Draft) (p : Piece) (q : CodePart) (h : IsJoined old ((coded p ▹ q) (start_of old)) new) where
  abbrev pub front_items : List Instr
  front_items = p (here old.code)

  abbrev pub at : Start
  at = record { place = here old.code + length front_items; labels = old.labels }

  pub front_split : Appends old.code (front_items ++ (q at).code) new.code
  unfolding ◌▹◌ coded
  front_split = h.code

  abbrev pub code_first : Code
  code_first = middle old.code new.code front_items (q at).code front_split

  abbrev pub draft_first : Draft
  draft_first = record old { code = code_first }

  pub joined_code : Appends old.code (p (here old.code)) code_first
  joined_code = appends_front old.code new.code front_items (q at).code front_split

  joined_rest : IsJoined draft_first (q at) new
  unfolding ◌▹◌ coded
  joined_rest = record {
    code = appends_back old.code new.code front_items (q at).code front_split;
    rows = h.rows;
    places = h.places;
    labels = h.labels;
    few = h.few;
    taken = h.taken;
    most = (let most = h.most in omega (arith, most));
    wide = (let wide = h.wide in omega (arith, wide));
    exceptions = h.exceptions;
  }

  pub joined_after : IsJoined draft_first (q (start_of draft_first)) new
  joined_after =
      subst (λ n. IsJoined draft_first (q (record { place = n; labels = old.labels })) new)
      (sym (long_front old.code new.code front_items (q at).code front_split)) joined_rest

-- a part, and instructions alone after it
module _ (old new : Draft) (q : CodePart) (p : Piece) (h : IsJoined old ((q ▹ coded p) (start_of old)) new) where
  abbrev pub made : Drafted
  made = q (start_of old)

  abbrev pub last_items : List Instr
  last_items = p (here old.code + length made.code)

  pub last_split : Appends old.code (made.code ++ last_items) new.code
  unfolding ◌▹◌ coded
  last_split = h.code

  abbrev pub code_before : Code
  code_before = middle old.code new.code made.code last_items last_split

  pub joined_before : IsJoined old (q (start_of old)) (record new { code = code_before })
  unfolding ◌▹◌ coded
  joined_before = record {
    code = appends_front old.code new.code made.code last_items last_split;
    rows = h.rows ∙ ap (λ l. old.rows.items ++ l) (append-nil made.rows);
    places = h.places ∙ ap (λ l. old.rows.places ++ l) (append-nil made.places);
    labels = h.labels;
    few = h.few;
    taken = h.taken;
    most = h.most ∙ most_of old.words.most made.most;
    wide = (let wide = h.wide in omega (arith, wide));
    exceptions = h.exceptions;
  }

  pub joined_last : Appends code_before (p (here code_before)) new.code
  joined_last =
      subst (λ n. Appends code_before (p n) new.code) (sym (long_front old.code new.code made.code last_items last_split))
      (appends_back old.code new.code made.code last_items last_split)
