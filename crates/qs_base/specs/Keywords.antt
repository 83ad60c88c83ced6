-- The keywords (C11 6.4.1).
use Rattle.std.specs.Prelude.{ℕ, Bool, List, [], ◌∷◌, bytes_eq, codes, Option, is_some}
use Rattle.std.specs.List.{find}
use denote.Enum.Bare.{sameb}
use Rattle.qs_base.specs.contracts.keyword.Keyword.{the_type}
use Rattle.qs_base.specs.declared.keyword.Keyword.{Keyword}
use Rattle.qs_base.specs.declared.keyword.Keyword.TheVariants as keyword

-- how each is spelled
abbrev pub keyword_spelling : Keyword → List ℕ
keyword_spelling keyword.Auto = codes "auto"
keyword_spelling keyword.Break = codes "break"
keyword_spelling keyword.Case = codes "case"
keyword_spelling keyword.Char = codes "char"
keyword_spelling keyword.Const = codes "const"
keyword_spelling keyword.Continue = codes "continue"
keyword_spelling keyword.Default = codes "default"
keyword_spelling keyword.Do = codes "do"
keyword_spelling keyword.Double = codes "double"
keyword_spelling keyword.Else = codes "else"
keyword_spelling keyword.Enum = codes "enum"
keyword_spelling keyword.Extern = codes "extern"
keyword_spelling keyword.Float = codes "float"
keyword_spelling keyword.For = codes "for"
keyword_spelling keyword.Goto = codes "goto"
keyword_spelling keyword.If = codes "if"
keyword_spelling keyword.Inline = codes "inline"
keyword_spelling keyword.Int = codes "int"
keyword_spelling keyword.Long = codes "long"
keyword_spelling keyword.Register = codes "register"
keyword_spelling keyword.Restrict = codes "restrict"
keyword_spelling keyword.Return = codes "return"
keyword_spelling keyword.Short = codes "short"
keyword_spelling keyword.Signed = codes "signed"
keyword_spelling keyword.Sizeof = codes "sizeof"
keyword_spelling keyword.Static = codes "static"
keyword_spelling keyword.Struct = codes "struct"
keyword_spelling keyword.Switch = codes "switch"
keyword_spelling keyword.Typedef = codes "typedef"
keyword_spelling keyword.Union = codes "union"
keyword_spelling keyword.Unsigned = codes "unsigned"
keyword_spelling keyword.Void = codes "void"
keyword_spelling keyword.Volatile = codes "volatile"
keyword_spelling keyword.While = codes "while"
keyword_spelling keyword.Alignas = codes "_Alignas"
keyword_spelling keyword.Alignof = codes "_Alignof"
keyword_spelling keyword.Atomic = codes "_Atomic"
keyword_spelling keyword.Bool = codes "_Bool"
keyword_spelling keyword.Complex = codes "_Complex"
keyword_spelling keyword.Generic = codes "_Generic"
keyword_spelling keyword.Imaginary = codes "_Imaginary"
keyword_spelling keyword.Noreturn = codes "_Noreturn"
keyword_spelling keyword.StaticAssert = codes "_Static_assert"
keyword_spelling keyword.ThreadLocal = codes "_Thread_local"

-- all of them, in the standard's order
abbrev pub keywords : List Keyword
keywords =
    keyword.Auto
    ∷ keyword.Break
    ∷ keyword.Case
    ∷ keyword.Char
    ∷ keyword.Const
    ∷ keyword.Continue
    ∷ keyword.Default
    ∷ keyword.Do
    ∷ keyword.Double
    ∷ keyword.Else
    ∷ keyword.Enum
    ∷ keyword.Extern
    ∷ keyword.Float
    ∷ keyword.For
    ∷ keyword.Goto
    ∷ keyword.If
    ∷ keyword.Inline
    ∷ keyword.Int
    ∷ keyword.Long
    ∷ keyword.Register
    ∷ keyword.Restrict
    ∷ keyword.Return
    ∷ keyword.Short
    ∷ keyword.Signed
    ∷ keyword.Sizeof
    ∷ keyword.Static
    ∷ keyword.Struct
    ∷ keyword.Switch
    ∷ keyword.Typedef
    ∷ keyword.Union
    ∷ keyword.Unsigned
    ∷ keyword.Void
    ∷ keyword.Volatile
    ∷ keyword.While
    ∷ keyword.Alignas
    ∷ keyword.Alignof
    ∷ keyword.Atomic
    ∷ keyword.Bool
    ∷ keyword.Complex
    ∷ keyword.Generic
    ∷ keyword.Imaginary
    ∷ keyword.Noreturn
    ∷ keyword.StaticAssert
    ∷ keyword.ThreadLocal
    ∷ []

-- the keyword that is spelled so
unfoldable pub keyword_of : List ℕ → Option Keyword
keyword_of word = find (λ keyword. bytes_eq (keyword_spelling keyword) word) keywords

unfoldable pub is_keyword : List ℕ → Bool
is_keyword word = is_some (keyword_of word)

abbrev pub same_keyword : Keyword → Keyword → Bool
same_keyword = sameb the_type
