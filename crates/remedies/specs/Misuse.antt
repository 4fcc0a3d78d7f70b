-- What a name is that has no meaning where it is, by the word that introduces it; a component of a protected object outside of its body.
use Rattle.std.specs.Prelude.{ℕ, suc, ◌&&◌, ◌||◌, Bool, true, false, List, bytes_eq, length, take, Option, Some, None, if◌then◌else◌, nat_eq}
use Rattle.base.specs.declared.faults.TheConstants.{NAME_NOT_VISIBLE, NO_MEANING}
use Rattle.lexer.specs.declared.delimiter.Delimiter.TheVariants as delimiters
use Rattle.lexer.specs.declared.token.Token.{Token}
use Rattle.lexer.specs.declared.token.TokenKind.{TokenKind}
use Rattle.lexer.specs.declared.token.TokenKind.TheVariants as kinds
use Rattle.lexer.specs.declared.word.Word.TheVariants as words
use Rattle.remedies.specs.declared.construct.Construct.{Construct}
use Rattle.remedies.specs.declared.construct.Construct.TheVariants as constructs
use Rattle.remedies.specs.declared.name.Name.TheVariants as names
use Rattle.remedies.specs.Likeness.{first_where, introduces_same, is_colon, is_same, kind_before, name_of}
use Rattle.remedies.specs.Names.{name_text}
use Rattle.remedies.specs.Recognition.{count_before, kind_at, kind_from_end}

abbrev pub word_construct : Option TokenKind → Option Construct
word_construct (Some (kinds.Word words.Procedure)) = Some constructs.ProcedureValue
word_construct (Some (kinds.Word words.Type)) = Some constructs.TypeValue
word_construct (Some (kinds.Word words.Subtype)) = Some constructs.TypeValue
word_construct (Some (kinds.Word words.Task)) = Some constructs.TaskValue
word_construct (Some (kinds.Word words.Package)) = Some constructs.PackagePrefix
word_construct (Some (kinds.Word words.Protected)) = Some constructs.ProtectedValue
word_construct k = None

-- by the word before the token that has so many before it
abbrev pub introduced_as : List Token → Option ℕ → Option Construct
introduced_as ts (Some n) = word_construct (kind_before n ts)
introduced_as ts None = None

abbrev pub is_predefined_type : List ℕ → Bool
is_predefined_type name =
    bytes_eq name (name_text names.Integer) || (bytes_eq name (name_text names.Natural) || (bytes_eq name (name_text names.Positive)
    || (bytes_eq name (name_text names.Boolean) || (bytes_eq name (name_text names.Time) || bytes_eq name (name_text names.TimeSpan)))))

-- no word introduces the types of the language
abbrev pub or_predefined : List ℕ → Option Construct → Option Construct
or_predefined name (Some construct) = Some construct
or_predefined name None = if is_predefined_type name then Some constructs.TypeValue else None

abbrev pub misused_name : List Token → Option (List ℕ) → Option Construct
misused_name ts (Some name) = or_predefined name (introduced_as ts (first_where (introduces_same name ts) 0 (length ts)))
misused_name ts None = None

-- a conversion or an attribute begins with a type
abbrev pub begins_part : Option TokenKind → Bool
begins_part (Some (kinds.Delimiter delimiters.LeftParenthesis)) = true
begins_part (Some (kinds.Delimiter delimiters.Apostrophe)) = true
begins_part k = false

abbrev pub without_type : Option Construct → Option Construct
without_type (Some constructs.TypeValue) = None
without_type construct = construct

abbrev pub unless_part : (next : Option TokenKind) → Option Construct → Option Construct
unless_part next construct = if begins_part next then without_type construct else construct

abbrev pub misused_here : ℕ → List Token → Option Construct
misused_here n ts = unless_part (kind_at (suc n) ts) (misused_name ts (name_of (kind_at n ts)))

-- ---- components outside of the bodies of their objects

abbrev pub is_dot : Option TokenKind → Bool
is_dot (Some (kinds.Delimiter delimiters.Dot)) = true
is_dot k = false

-- the token with so many before it is this name, which a colon follows
abbrev pub declares_same : List ℕ → List Token → ℕ → Bool
declares_same name ts n = is_colon (kind_at (suc n) ts) && is_same name (name_of (kind_at n ts))

abbrev pub declared_component : Option ℕ → Option Construct
declared_component (Some n) = Some constructs.ComponentOutside
declared_component None = None

abbrev pub named_component : List Token → Option (List ℕ) → Option Construct
named_component ts (Some name) = declared_component (first_where (declares_same name ts) 0 (length ts))
named_component ts None = None

abbrev pub component_after : (object : Option Construct) → List Token → Option (List ℕ) → Option Construct
component_after (Some constructs.ProtectedValue) ts name = named_component ts name
component_after object ts name = None

-- of the token with so many before it: the name of a protected object and a dot are before it, and some declaration has its name
abbrev pub outside_at : ℕ → List Token → Option Construct
outside_at n ts =
    if is_dot (kind_from_end 0 (take n ts))
    then component_after (misused_name ts (name_of (kind_from_end 1 (take n ts)))) ts (name_of (kind_at n ts))
    else None

-- ---- all

-- the name at the place of a fault 12 or 10
abbrev pub misused_at : (fault place : ℕ) → List Token → Option Construct
misused_at fault place ts =
    if nat_eq fault NO_MEANING then misused_here (count_before place ts) ts
    else (if nat_eq fault NAME_NOT_VISIBLE then outside_at (count_before place ts) ts else None)
