-- How a loop goes along the pieces of a text.
use Rattle.std.proofs.Common.{◌≡◌, ℕ, suc, ◌+◌, ◌-◌, ◌≤◌, ◌<◌, Bool, true, false, cond, List, [], ◌∷◌, ◌++◌, length, take, drop, get_or, Option, Some, None, refl, sym, ap, ◌∙◌, subst, arith, append_assoc, length-append, length-drop, drop-cons, get_or-drop}
use Rattle.std.specs.List.{prefix_len}
use Rattle.std.specs.Str.{IsTrimAsciiEnd}
use Rattle.std.specs.Prelude.{nat_eq}
use Rattle.std.proofs.lemmas.Bool.Decides.{Decides-eqb}
use Rattle.std.proofs.Math.Seq.{take-length, take-suc, take-append_seam, drop-append_seam}
use Rattle.std.proofs.Math.ListN.{drop_of_length-le}
use Rattle.std.proofs.lemmas.List.{drop-drop}
use Rattle.lexer.specs.declared.token.Token.{Token}
use Rattle.lexer.specs.Characters.{is_white, stays_on_line}
use Rattle.lexer.specs.Elements.{comment}
use Rattle.lexer.specs.Spelling.{Row, Spells}
use Rattle.printing.specs.Pieces.{first_kind, pieces_after, token_at, trimmed}
use Rattle.printing.specs.declared.symbol.Symbol.{Symbol}
use Rattle.printing.specs.Constructs.{symbol_of}
use Rattle.printing.specs.Layout.{Progress, after_comment, after_token, comment_gap, ending, formatted, laid_out, nothing_read, symbol_in, token_gap}
use Rattle.printing.proofs.Reading as reading
use Rattle.printing.proofs.Trimmed.{trim_is, trimmed_comment}

-- what is left of a text, after white space, gives with what is written the whole layout
pub record Goes (place at : ℕ) (text : List ℕ) (tokens : List Token) (white : List ℕ) (p : Progress) (out whole : List ℕ) : Type 0 where
  pub row : Row place [] at text tokens
  pub total : out ++ laid_out p (pieces_after white row) ≡ whole

pub record Moves (text : List ℕ) (tokens : List Token) (start at : ℕ) (left : List Token) (p : Progress) (out : List ℕ) : Type 0 where
  pub inside : at ≤ length text
  pub ordered : start ≤ at
  pub goes : (spells : Spells text tokens) → Goes (length text) at (drop at text) left (take (at - start) (drop start text)) p out (formatted spells)

pub start : (text : List ℕ) (tokens : List Token) → Moves text tokens 0 0 tokens nothing_read []
start text tokens = record { inside = omega arith; ordered = omega arith; goes = λ spells. record { row = spells.row; total = refl } }

-- the front of what is left
opened : (text : List ℕ) (at : ℕ) → at < length text → drop at text ≡ get_or text at 0 ∷ drop (at + 1) text
opened text at inside = drop-cons text at 0 inside ∙ ap (λ n. get_or text at 0 ∷ drop n text) (let e : suc at ≡ at + 1 = omega arith in e)

white_more : (text : List ℕ) (start at : ℕ) → start ≤ at → at < length text → take (at - start) (drop start text) ++ get_or text at 0 ∷ [] ≡ take (at + 1 - start) (drop start text)
white_more text start at ordered inside =
    let place : start + (at - start) ≡ at = omega (arith, ordered) in
    let size : suc (at - start) ≡ at + 1 - start = omega (arith, ordered) in
    let found : get_or (drop start text) (at - start) 0 ≡ get_or text at 0 = get_or-drop start text (at - start) 0 ∙ ap (λ n. get_or text n 0) place in
    ap (λ c. take (at - start) (drop start text) ++ c ∷ []) (sym found)
    ∙ (sym (take-suc (drop start text) (at - start) 0 (omega (arith, length-drop start text, ordered, inside))) ∙ ap (λ n. take n (drop start text)) size)

over_white : (place at c : ℕ) (rest : List ℕ) (tokens : List Token) (white : List ℕ) (p : Progress) (out whole : List ℕ) → Goes place at (c ∷ rest) tokens white p out whole → is_white c ≡ true → Goes place (at + 1) rest tokens (white ++ c ∷ []) p out whole
over_white place at c rest tokens white p out whole g is =
    let a = reading.after_white g.row is in
    record { row = a.onward; total = ap (λ ps. out ++ laid_out p ps) (sym (a.same white)) ∙ g.total }

pub white : (text : List ℕ) (tokens : List Token) (start at : ℕ) (left : List Token) (p : Progress) (out : List ℕ) → Moves text tokens start at left p out → at < length text → is_white (get_or text at 0) ≡ true → Moves text tokens start (at + 1) left p out
white text tokens start at left p out m inside is = record {
  inside = omega (arith, inside);
  ordered = omega (arith, m.ordered);
  goes = λ spells.
      subst (λ w. Goes (length text) (at + 1) (drop (at + 1) text) left w p out (formatted spells)) (white_more text start at m.ordered inside)
      (over_white (length text) at (get_or text at 0) (drop (at + 1) text) left (take (at - start) (drop start text)) p out (formatted spells)
      (subst (λ s. Goes (length text) at s left (take (at - start) (drop start text)) p out (formatted spells)) (opened text at inside) (m.goes spells)) is);
}

-- no white space before the next one
none_before : (end_ : ℕ) (text : List ℕ) → take (end_ - end_) (drop end_ text) ≡ []
none_before end_ text = ap (λ n. take n (drop end_ text)) (let e : end_ - end_ ≡ 0 = omega arith in e)

-- how an element lies in the text
pub record Lies (text : List ℕ) (at end_ : ℕ) (element rest : List ℕ) : Type 0 where
  pub inside : end_ ≤ length text
  pub forward : at < end_
  pub is : take (end_ - at) (drop at text) ≡ element
  pub behind : rest ≡ drop end_ text

lies : (text : List ℕ) (at : ℕ) (element rest : List ℕ) → at ≤ length text → 0 < length element → drop at text ≡ element ++ rest → Lies text at (at + length element) element rest
lies text at element rest inside some parts =
    let n : at + length element - at ≡ length element = omega arith in
    record {
      inside = omega (arith, ap length parts, length-append element rest, length-drop at text, inside);
      forward = omega (arith, some);
      is = ap (λ m. take m (drop at text)) n ∙ (ap (take (length element)) parts ∙ take-append_seam element rest);
      behind = sym (drop-append_seam element rest) ∙ (ap (drop (length element)) (sym parts) ∙ drop-drop (length element) at text);
    }

-- of a token all is written
abbrev as_it_is : List ℕ → List ℕ
as_it_is text = text

-- a piece at the front of what is left, of which so much is written
pub record Front (show : List ℕ → List ℕ) (text : List ℕ) (at : ℕ) (left : List Token) (gap out : List ℕ) (p : Progress) (whole : List ℕ) : Type 0 where
  pub element : List ℕ
  pub rest : List ℕ
  pub parts : drop at text ≡ element ++ rest
  pub some : 0 < length element
  pub row : Row (length text) [] (at + length element) rest left
  pub total : out ++ (gap ++ (show element ++ laid_out p (pieces_after [] row))) ≡ whole

-- the row after a piece, with the text to which it was added
pub past : (show : List ℕ → List ℕ) (text : List ℕ) (at : ℕ) (left : List Token) (gap out : List ℕ) (p : Progress) (whole : List ℕ) (f : Front show text at left gap out p whole) (end_ : ℕ) (new : List ℕ) → at ≤ length text → end_ ≡ at + length f.element
    → new ≡ out ++ (gap ++ show (take (end_ - at) (drop at text))) → Goes (length text) end_ (drop end_ text) left (take (end_ - end_) (drop end_ text)) p new whole
past show text at left gap out p whole f end_ new inside ends is =
    let l = lies text at f.element f.rest inside f.some f.parts in
    let element_is : take (end_ - at) (drop at text) ≡ f.element = ap (λ e. take (e - at) (drop at text)) ends ∙ l.is in
    let new_is : new ≡ out ++ (gap ++ show f.element) = is ∙ ap (λ s. out ++ (gap ++ show s)) element_is in
    let rest = laid_out p (pieces_after [] f.row) in
    let total : new ++ rest ≡ whole = ap (λ s. s ++ rest) new_is ∙ (append_assoc out (gap ++ show f.element) rest ∙ (ap (λ s. out ++ s) (append_assoc gap (show f.element) rest) ∙ f.total)) in
    subst (λ e. Goes (length text) e (drop e text) left (take (e - e) (drop e text)) p new whole) (sym ends)
    (subst (λ w. Goes (length text) (at + length f.element) (drop (at + length f.element) text) left w p new whole) (sym (none_before (at + length f.element) text))
    (subst (λ s. Goes (length text) (at + length f.element) s left [] p new whole) l.behind (record { row = f.row; total = total })))

pub forward : (show : List ℕ → List ℕ) (text : List ℕ) (at : ℕ) (left : List Token) (gap out : List ℕ) (p : Progress) (whole : List ℕ) (f : Front show text at left gap out p whole) (end_ : ℕ) → at ≤ length text → end_ ≡ at + length f.element → (at < end_) × (end_ ≤ length text)
forward show text at left gap out p whole f end_ inside ends = let l = lies text at f.element f.rest inside f.some f.parts in (omega (arith, ends, l.forward), omega (arith, ends, l.inside))

token_front : (text : List ℕ) (start at : ℕ) (token : Token) (left : List Token) (p : Progress) (out whole : List ℕ) → Goes (length text) at (drop at text) (token ∷ left) (take (at - start) (drop start text)) p out whole → at < length text → is_white (get_or text at 0) ≡ false → token.start ≡ at
    → (f : Front as_it_is text at left (token_gap p (take (at - start) (drop start text)) (symbol_of token.kind)) out (after_token p (symbol_of token.kind)) whole) × (token.end_ ≡ at + length f.element)
token_front text start at token left p out whole g inside dark starts =
    subst (λ s. Goes (length text) at s (token ∷ left) (take (at - start) (drop start text)) p out whole → (f : Front as_it_is text at left (token_gap p (take (at - start) (drop start text)) (symbol_of token.kind)) out (after_token p (symbol_of token.kind)) whole) × (token.end_ ≡ at + length f.element))
    (sym (opened text at inside))
    (λ h.
    let a = reading.after_token h.row dark starts in (
      record {
        element = a.element;
        rest = a.rest;
        parts = opened text at inside ∙ a.parts;
        some = a.some;
        row = a.onward;
        total = ap (λ ps. out ++ laid_out p ps) (sym (a.same (take (at - start) (drop start text)))) ∙ h.total;
      },
      a.ends,
    ))
    g

comment_front : (text : List ℕ) (start at : ℕ) (left : List Token) (p : Progress) (out whole : List ℕ) → Goes (length text) at (drop at text) left (take (at - start) (drop start text)) p out whole → at < length text → is_white (get_or text at 0) ≡ false → token_at at left ≡ None
    → (f : Front trimmed text at left (comment_gap p (take (at - start) (drop start text)) (symbol_in (first_kind left))) out (after_comment p) whole) × (prefix_len stays_on_line (drop at text) ≡ length f.element)
comment_front text start at left p out whole g inside dark none =
    subst (λ s. Goes (length text) at s left (take (at - start) (drop start text)) p out whole → (f : Front trimmed text at left (comment_gap p (take (at - start) (drop start text)) (symbol_in (first_kind left))) out (after_comment p) whole) × (prefix_len stays_on_line (drop at text) ≡ length f.element))
    (sym (opened text at inside))
    (λ h.
    let a = reading.after_comment h.row dark none in (
      record {
        element = comment a.inner;
        rest = a.rest;
        parts = opened text at inside ∙ a.parts;
        some = omega arith;
        row = a.onward;
        total = ap (λ s. out ++ (comment_gap p (take (at - start) (drop start text)) (symbol_in (first_kind left)) ++ (s ++ laid_out (after_comment p) (pieces_after [] a.onward)))) (trimmed_comment a.inner)
            ∙ (ap (λ ps. out ++ laid_out p ps) (sym (a.same (take (at - start) (drop start text)))) ∙ h.total);
      },
      ap (prefix_len stays_on_line) (opened text at inside) ∙ a.size,
    ))
    g

-- the token at a place is the first that is left
pub record First (at : ℕ) (left : List Token) (token : Token) : Type 0 where
  pub others : List Token
  pub is : left ≡ token ∷ others
  pub starts : token.start ≡ at

pub first : (at : ℕ) (left : List Token) (token : Token) → token_at at left ≡ Some token → First at left token
first at [] token found = cc
first at (t ∷ others) token found = go (nat_eq t.start at) refl found
  where
    go : (b : Bool) → nat_eq t.start at ≡ b → cond b (Some t) None ≡ Some token → First at (t ∷ others) token
    go true same is = let equal : t ≡ token = cc in record { others = others; is = ap (λ x. x ∷ others) equal; starts = ap (λ x. x.start) (sym equal) ∙ (Decides-eqb t.start at).0 same }
    go false same is = cc

-- what a turn at a token needs of the text
pub record AtToken (text : List ℕ) (tokens : List Token) (start at : ℕ) (left : List Token) (p : Progress) (out : List ℕ) (token : Token) : Type 0 where
  pub some : 0 < length left
  pub forward : at < token.end_
  pub inside : token.end_ ≤ length text
  pub moves : (new : List ℕ) → new ≡ out ++ (token_gap p (take (at - start) (drop start text)) (symbol_of token.kind) ++ take (token.end_ - at) (drop at text))
      → Moves text tokens token.end_ token.end_ (drop 1 left) (after_token p (symbol_of token.kind)) new

pub at_token : (text : List ℕ) (tokens : List Token) (start at : ℕ) (left : List Token) (p : Progress) (out : List ℕ) (token : Token) → Spells text tokens → Moves text tokens start at left p out → at < length text → is_white (get_or text at 0) ≡ false → token_at at left ≡ Some token
    → AtToken text tokens start at left p out token
at_token text tokens start at left p out token spelled m inside dark found =
    let f = first at left token found in
    subst (λ l. AtToken text tokens start at l p out token) (sym f.is)
    (at_first f.others f.starts (subst (λ l. Moves text tokens start at l p out) f.is m))
  where
    at_first : (others : List Token) → token.start ≡ at → Moves text tokens start at (token ∷ others) p out → AtToken text tokens start at (token ∷ others) p out token
    at_first others starts n =
        let front = token_front text start at token others p out (formatted spelled) (n.goes spelled) inside dark starts in
        let ahead = forward as_it_is text at others (token_gap p (take (at - start) (drop start text)) (symbol_of token.kind)) out (after_token p (symbol_of token.kind)) (formatted spelled) front.0 token.end_ n.inside front.1 in
        record {
          some = omega arith;
          forward = ahead.0;
          inside = ahead.1;
          moves = λ new is. record {
            inside = ahead.1;
            ordered = omega arith;
            goes = λ spells.
                let g = token_front text start at token others p out (formatted spells) (n.goes spells) inside dark starts in
                past as_it_is text at others (token_gap p (take (at - start) (drop start text)) (symbol_of token.kind)) out (after_token p (symbol_of token.kind)) (formatted spells) g.0 token.end_ new n.inside g.1 is;
          };
        }

-- what a turn at a comment needs of the text
pub record AtComment (text : List ℕ) (tokens : List Token) (start at : ℕ) (left : List Token) (p : Progress) (out : List ℕ) (end_ : ℕ) : Type 0 where
  pub forward : at < end_
  pub inside : end_ ≤ length text
  pub moves : (new : List ℕ) → new ≡ out ++ (comment_gap p (take (at - start) (drop start text)) (symbol_in (first_kind left)) ++ trimmed (take (end_ - at) (drop at text)))
      → Moves text tokens end_ end_ left (after_comment p) new

pub at_comment : (text : List ℕ) (tokens : List Token) (start at : ℕ) (left : List Token) (p : Progress) (out : List ℕ) (size : ℕ) → Spells text tokens → Moves text tokens start at left p out → at < length text → is_white (get_or text at 0) ≡ false → token_at at left ≡ None
    → size ≡ prefix_len stays_on_line (take (length text - at) (drop at text)) → AtComment text tokens start at left p out (at + size)
at_comment text tokens start at left p out size spelled m inside dark none is_size =
    let whole : size ≡ prefix_len stays_on_line (drop at text) = is_size ∙ ap (prefix_len stays_on_line) (ap (λ n. take n (drop at text)) (sym (length-drop at text)) ∙ take-length (drop at text)) in
    let front = comment_front text start at left p out (formatted spelled) (m.goes spelled) inside dark none in
    let ahead = forward trimmed text at left (comment_gap p (take (at - start) (drop start text)) (symbol_in (first_kind left))) out (after_comment p) (formatted spelled) front.0 (at + size) m.inside (ap (λ n. at + n) (whole ∙ front.1)) in
    record {
      forward = ahead.0;
      inside = ahead.1;
      moves = λ new is. record {
        inside = ahead.1;
        ordered = omega arith;
        goes = λ spells.
            let g = comment_front text start at left p out (formatted spells) (m.goes spells) inside dark none in
            past trimmed text at left (comment_gap p (take (at - start) (drop start text)) (symbol_in (first_kind left))) out (after_comment p) (formatted spells) g.0 (at + size) new m.inside (ap (λ n. at + n) (whole ∙ g.1)) is;
      };
    }

-- at the end of the text
ended : (text : List ℕ) (tokens : List Token) (start at : ℕ) (left : List Token) (p : Progress) (out : List ℕ) → Moves text tokens start at left p out → length text ≤ at → (spells : Spells text tokens) → out ++ ending p.begun ≡ formatted spells
ended text tokens start at left p out m all spells =
    let g = subst (λ s. Goes (length text) at s left (take (at - start) (drop start text)) p out (formatted spells)) (drop_of_length-le text all) (m.goes spells) in
    ap (λ ps. out ++ laid_out p ps) (sym (reading.none_left g.row (take (at - start) (drop start text)))) ∙ g.total

pub gives : (text : List ℕ) (tokens : List Token) (start at : ℕ) (left : List Token) (p : Progress) (out new : List ℕ) → Moves text tokens start at left p out → length text ≤ at → new ≡ out ++ ending p.begun → (spells : Spells text tokens) → new ≡ formatted spells
gives text tokens start at left p out new m all is spells = is ∙ ended text tokens start at left p out m all spells

-- the next turn after a token
pub token_turn : (text : List ℕ) (tokens : List Token) (start at : ℕ) (left : List Token) (p : Progress) (out : List ℕ) (token : Token) → AtToken text tokens start at left p out token → (symbol : Symbol) (rest : List Token) (q : Progress) (new : List ℕ)
    → symbol ≡ symbol_of token.kind → rest ≡ drop 1 left → q ≡ after_token p symbol → new ≡ out ++ (token_gap p (take (at - start) (drop start text)) symbol ++ take (token.end_ - at) (drop at text)) → Moves text tokens token.end_ token.end_ rest q new
token_turn text tokens start at left p out token here symbol rest q new symbol_is rest_is q_is new_is =
    subst (λ l. Moves text tokens token.end_ token.end_ l q new) (sym rest_is)
    (subst (λ r. Moves text tokens token.end_ token.end_ (drop 1 left) r new) (sym (q_is ∙ ap (after_token p) symbol_is))
    (here.moves new (new_is ∙ ap (λ s. out ++ (token_gap p (take (at - start) (drop start text)) s ++ take (token.end_ - at) (drop at text))) symbol_is)))

-- the next turn after a comment
pub comment_turn : (text : List ℕ) (tokens : List Token) (start at : ℕ) (left : List Token) (p : Progress) (out : List ℕ) (end_ : ℕ) → AtComment text tokens start at left p out end_ → (next : Option Symbol) (q : Progress) (new : List ℕ)
    → (shown : List ℕ) → IsTrimAsciiEnd (take (end_ - at) (drop at text)) shown → next ≡ symbol_in (first_kind left) → q ≡ after_comment p → new ≡ out ++ (comment_gap p (take (at - start) (drop start text)) next ++ shown) → Moves text tokens end_ end_ left q new
comment_turn text tokens start at left p out end_ here next q new shown shown_is next_is q_is new_is =
    subst (λ r. Moves text tokens end_ end_ left r new) (sym q_is)
    (here.moves new (new_is ∙ ap (λ s. out ++ (comment_gap p (take (at - start) (drop start text)) next ++ s)) (trim_is (take (end_ - at) (drop at text)) shown shown_is) ∙ ap (λ n. out ++ (comment_gap p (take (at - start) (drop start text)) n ++ trimmed (take (end_ - at) (drop at text)))) next_is))
