-- Texts with their layouts, as the definitions say.
use Rattle.std.proofs.Common.{◌≡◌, List, [], refl, ap, ◌∙◌, length, arith}
use Rattle.std.specs.Prelude.{ℕ, codes}
use Rattle.lexer.specs.declared.token.Token.{Token}
use Rattle.lexer.specs.Reading.{reserved, word_at, value_in_range, numeral_at, label_at, comment_at, delimiter_at, element_at}
use Rattle.lexer.specs.Spelling.{Spells}
use Rattle.printing.specs.Layout.{formatted, laid_out, nothing_read}
use Rattle.printing.proofs.Pieced.{read_pieces, pieces_read}

-- whatever tokens spell the text, its layout is this
abbrev LaysOut : List ℕ → List ℕ → Type 0
LaysOut text result = (tokens : List Token) (spells : Spells text tokens) → formatted spells ≡ result

shown : (text result : List ℕ) → laid_out nothing_read (read_pieces (length text) [] text) ≡ result → LaysOut text result
shown text result is tokens spells = ap (laid_out nothing_read) (pieces_read spells.row (length text) [] (omega arith)) ∙ is

-- the words of an if statement, without their columns and with a blank line too many
an_if : LaysOut (codes "\n\nIF  x>0 THEN\nPut(\"a\",-x) ;\n\n\n\nelsif x<-1 and\nthen y then\n  null;else null;\nend if;\n\n") (codes "IF x > 0 THEN\n   Put (\"a\", -x);\n\nelsif x < -1 and\n  then y then\n   null; else null;\nend if;\n")
unfolding read_pieces element_at word_at reserved numeral_at value_in_range label_at comment_at delimiter_at
an_if = shown _ _ refl

a_loop : LaysOut (codes "for I in reverse 1..N(2) loop\nA( I ):=I*2-(-I) ; -- twice\nexit when A'Last=I;\nend loop;") (codes "for I in reverse 1 .. N (2) loop\n   A (I) := I * 2 - (-I); -- twice\n   exit when A'Last = I;\nend loop;\n")
unfolding read_pieces element_at word_at reserved numeral_at value_in_range label_at comment_at delimiter_at
a_loop = shown _ _ refl

a_package : LaysOut (codes "--  First.\npackage App is\n\n\n  -- objects\nLong : Integer := 1;  --  one\nX    : Ada.Real_Time . Time;\ntype R is record\nA:Integer;\nend record;\nend App;") (codes "--  First.\npackage App is\n\n   -- objects\n   Long : Integer := 1;  --  one\n   X    : Ada.Real_Time.Time;\n   type R is record\n      A : Integer;\n   end record;\nend App;\n")
unfolding read_pieces element_at word_at reserved numeral_at value_in_range label_at comment_at delimiter_at
a_package = shown _ _ refl

a_body : LaysOut (codes "protected body B is\nentry Take (V : out Integer)\nwhen Full is\nbegin\nV := Value;\nend Take;\nend B;") (codes "protected body B is\n   entry Take (V : out Integer)\n     when Full is\n   begin\n      V := Value;\n   end Take;\nend B;\n")
unfolding read_pieces element_at word_at reserved numeral_at value_in_range label_at comment_at delimiter_at
a_body = shown _ _ refl

a_case : LaysOut (codes "case X is\n-- small\nwhen 1|2 =>\nY := 1;\n-- others\nwhen others =>\nnull;\nend case;") (codes "case X is\n   -- small\n   when 1 | 2 =>\n      Y := 1;\n   -- others\n   when others =>\n      null;\nend case;\n")
unfolding read_pieces element_at word_at reserved numeral_at value_in_range label_at comment_at delimiter_at
a_case = shown _ _ refl

a_block : LaysOut (codes "declare\nX : Integer;\nbegin\nnull;\nexception\nwhen Bad =>\nraise;\nend;\nnull;") (codes "declare\n   X : Integer;\nbegin\n   null;\nexception\n   when Bad =>\n      raise;\nend;\nnull;\n")
unfolding read_pieces element_at word_at reserved numeral_at value_in_range label_at comment_at delimiter_at
a_block = shown _ _ refl

an_expression : LaysOut (codes "X := (if A then 1\nelse -2)\n+ 3;\nY;") (codes "X := (if A then 1\n  else -2)\n  + 3;\nY;\n")
unfolding read_pieces element_at word_at reserved numeral_at value_in_range label_at comment_at delimiter_at
an_expression = shown _ _ refl

-- tokens that would be one without the space between them
apart : LaysOut (codes ". . - - a : = 1 - -\n-- b") (codes ". . - -a : = 1 - -\n  -- b\n")
unfolding read_pieces element_at word_at reserved numeral_at value_in_range label_at comment_at delimiter_at
apart = shown _ _ refl

nothing : LaysOut (codes " \n\n") []
unfolding read_pieces element_at
nothing = shown _ _ refl

-- no white space remains at the ends of lines
line_ends : LaysOut (codes "X;-- a  \nY ;  ") (codes "X; -- a\nY;\n")
unfolding read_pieces element_at word_at reserved numeral_at value_in_range label_at comment_at delimiter_at
line_ends = shown _ _ refl
