-- What is said of a byte with which no token begins.
use Rattle.std.specs.Prelude.{ℕ, List, if◌then◌else◌, nat_eq}
use Rattle.remedies.specs.declared.stray.TheConstants.{BANG, NUMBER_SIGN, DOLLAR, PERCENT, AMPERSAND, ASTERISKS, BRACKETS, QUESTION, AT_SIGN, OPENING_BRACKET, BACKSLASH, CLOSING_BRACKET, CIRCUMFLEX, OPENING_BRACE, CLOSING_BRACE, TILDE, BYTE_ORDER_MARK, OUTSIDE_ASCII}

abbrev pub of_byte : ℕ → List ℕ
of_byte c =
    if nat_eq c 33 then BANG.now
    else (if nat_eq c 35 then NUMBER_SIGN.now
    else (if nat_eq c 36 then DOLLAR.now
    else (if nat_eq c 37 then PERCENT.now
    else (if nat_eq c 38 then AMPERSAND.now
    else (if nat_eq c 42 then ASTERISKS.now
    else (if nat_eq c 60 then BRACKETS.now
    else (if nat_eq c 63 then QUESTION.now
    else (if nat_eq c 64 then AT_SIGN.now
    else (if nat_eq c 91 then OPENING_BRACKET.now
    else (if nat_eq c 92 then BACKSLASH.now
    else (if nat_eq c 93 then CLOSING_BRACKET.now
    else (if nat_eq c 94 then CIRCUMFLEX.now
    else (if nat_eq c 123 then OPENING_BRACE.now
    else (if nat_eq c 125 then CLOSING_BRACE.now
    else (if nat_eq c 126 then TILDE.now
    else (if nat_eq c 239 then BYTE_ORDER_MARK.now
    else OUTSIDE_ASCII.now))))))))))))))))
