-- What nodes in code declare, as the definitions say.
use Rattle.std.specs.Prelude.{◌≡◌, ℕ, Bool, Option, Vec, if◌then◌else◌}
use Rattle.std.specs.declared.alloc.Global.{Global}
use Rattle.qs_syntax.specs.declared.types.Base.{Base}
use Rattle.qs_syntax.specs.declared.types.TypeName.{TypeName}
use Rattle.qs_syntax.specs.declared.declarations.Lengths.{Lengths}
use Rattle.qs_syntax.specs.declared.declarations.Declarator.{Declarator}
use Rattle.qs_syntax.specs.declared.declarations.Parameter.{Parameter}
use Rattle.qs_syntax.specs.declared.declarations.Variable.{Variable}
use Rattle.qs_syntax.specs.TreeOf.{declarator_tree, lengths_tree, parameter_tree, variable_tree}
use Rattle.qs_types.specs.declared.types.CType.{CType}
use Rattle.qs_types.specs.declared.env.Env.{Env}
use Rattle.qs_types.specs.Declarations as declarations
use Rattle.qs_types.specs.EnvOf.{env_tree}
use Rattle.qs_types.specs.TypeOf.{type_tree}
use Rattle.qs_types.specs.UnitRules as rules
use Rattle.qs_typing_findings.specs.declared.context.Context.{Context}
use Rattle.qs_typing.specs.declared.declared_types.Declared.{Declared}
use Rattle.qs_typing_findings.specs.ContextOf.{context_tree}
use Rattle.qs_typing.specs.DeclaredOf.{declared_tree, numbers, option_type, sized_by_tests}

-- the type of an object of these lengths
abbrev pub IsObjectType : (element : CType) → Option (Vec ℕ Global) → CType → Type 0
IsObjectType element lengths t = type_tree t ≡ declarations.object_by (type_tree element) (numbers lengths)

-- the lengths with the first, where the brackets are empty
abbrev pub AreWholeLengths : Lengths → (first : Option ℕ) → (given lengths : Option (Vec ℕ Global)) → Type 0
AreWholeLengths l first given lengths = numbers lengths ≡ declarations.whole_lengths (lengths_tree l) first (numbers given)

-- an object of this type, by the tests on its elements and lengths
abbrev pub IsSizedByTests : Env → (known incomplete has_lengths : Bool) → CType → Declared → Type 0
IsSizedByTests structs known incomplete has_lengths t d =
    declared_tree d ≡ sized_by_tests (env_tree structs) known incomplete has_lengths (type_tree t)

-- an object, where the declaration begins with this type
abbrev pub IsObject : Context → (base : Option CType) → (stars : ℕ) → Option (Vec ℕ Global) → Declared → Type 0
IsObject c base stars lengths d = declared_tree d ≡ declarations.object_over (context_tree c) (option_type base) stars (numbers lengths)

-- what has no brackets
abbrev pub IsPlain : (base : Option CType) → (stars : ℕ) → Declared → Type 0
IsPlain base stars d = declared_tree d ≡ declarations.plain_declared (option_type base) stars

abbrev pub IsDeclaredOver : Context → (base : Option CType) → Declarator → (first : Option ℕ) → Declared → Type 0
IsDeclaredOver c base d first r = declared_tree r ≡ declarations.declared_over (context_tree c) (option_type base) (declarator_tree d) first

abbrev pub IsTypeName : Context → (base : Option CType) → Declarator → Declared → Type 0
IsTypeName c base d r = declared_tree r ≡ declarations.type_name_declared (context_tree c) (option_type base) (declarator_tree d)

-- a declarator, where its first length may be given elsewhere
abbrev pub IsDeclared : Context → Base → Declarator → (first : Option ℕ) → Declared → Type 0
IsDeclared c base d first r = declared_tree r ≡ declarations.declared (context_tree c) base (declarator_tree d) first

abbrev pub IsVariable : Context → Base → Variable → Declared → Type 0
IsVariable c base v r = declared_tree r ≡ declarations.variable_declared (context_tree c) base (variable_tree v)

-- a member behind this end
abbrev pub IsMember : Context → (end : ℕ) → Base → Declarator → Declared → Type 0
IsMember c end base d r = declared_tree r ≡ rules.member_declared (context_tree c) end base (declarator_tree d)

-- ---- parameters

-- a pointer to elements of these lengths
abbrev pub IsPointer : Context → TypeName → Option (Vec ℕ Global) → Declared → Type 0
IsPointer c name lengths d =
    declared_tree d ≡ declarations.pointed (declarations.object_declared (context_tree c) name.base name.stars (numbers lengths))

-- one that is written as an array, whose first length may have no type
abbrev pub IsArrayParameter : Context → Parameter → (first_typed : Bool) → Declared → Type 0
IsArrayParameter c p first_typed d =
    declared_tree d
    ≡ (if first_typed then declarations.array_parameter (context_tree c) (parameter_tree p) else declarations.held_parameter (context_tree c) (parameter_tree p))

abbrev pub IsPlainParameter : Context → Parameter → Declared → Type 0
IsPlainParameter c p d = declared_tree d ≡ declarations.plain_parameter (context_tree c) (parameter_tree p)

abbrev pub IsParameter : Context → Parameter → Declared → Type 0
IsParameter c p d = declared_tree d ≡ declarations.parameter_declared (context_tree c) (parameter_tree p)
