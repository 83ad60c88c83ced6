-- What names, texts and called functions stand for in the typed tree (C11 6.2.1, 6.4.5, 6.5.1, 6.5.2.2).
use Rattle.std.specs.Prelude.{ℕ, ◌+◌, ◌==◌, Bool, List, [], ◌∷◌, Option, Some, None, length, if◌then◌else◌}
use Rattle.qs_base.specs.Bytes.{same_bytes}
use Rattle.qs_types.specs.Types.{TypeTree}
use Rattle.qs_memory.specs.Partial.{◌>>=◌}
use Rattle.qs_calls.specs.declared.callee.Callee.{Callee}
use Rattle.qs_calls.specs.declared.callee.Callee.TheVariants.{Function, PutChar, GetChar}
use Rattle.qs_types.specs.GivenFunctions.{Signature, putchar_name}
use Rattle.qs_types.specs.Contexts.{Entity, local_variable, file_variable, function, given, Context, entity_of}
use Rattle.qs_types.specs.Placed.{is_one_of}
use Rattle.qs_meaning.specs.Typed.{pointer_to, Lvalue, variable, object, Object, local, static}

-- the variables of a function, which are its parameters and then its plain locals, and the locals and parameters that are placed, by the
-- numbers of their nodes. A placed parameter is a block, and its variable is used by nobody.
pub record Locals : Type 0 where
  pub variables : List ℕ
  pub placed : List ℕ

-- what has a block from the beginning: file-scope variables and texts, by the numbers of their nodes
pub record Statics : Type 0 where
  pub variables : List ℕ
  pub texts : List ℕ

-- what is known where an expression stands: the context of the typing rules, the locals of the function, what the unit has in memory, and
-- the names of its functions with a body
pub record Scope : Type 0 where
  pub context : Context
  pub locals : Locals
  pub statics : Statics
  pub functions : List (List ℕ)

abbrev pub within : Scope → Context → Scope
within s context = record s { context = context }

-- the place of the first that passes a test; the length of the list where none does
abbrev pub place_where : {A : Type 0} → (A → Bool) → List A → ℕ
place_where test [] = 0
place_where test (x ∷ xs) = if test x then 0 else place_where test xs + 1

abbrev pub place_among : (node : ℕ) → List ℕ → ℕ
place_among node nodes = place_where (λ n. n == node) nodes

-- ---- objects

-- a placed local is a block of the call, any other a variable of the call
abbrev pub local_lvalue : Locals → ℕ → Lvalue
local_lvalue locals node =
    if is_one_of node locals.placed then object (pointer_to (local (place_among node locals.placed))) else variable (place_among node locals.variables)

abbrev pub file_variable_object : Statics → ℕ → Object
file_variable_object statics node = static (place_among node statics.variables)

-- 6.4.5p6: the blocks of texts stand behind those of the file-scope variables
abbrev pub text_object : Statics → ℕ → Object
text_object statics node = static (length statics.variables + place_among node statics.texts)

-- 6.5.1p2: the name of a variable is an lvalue
abbrev pub entity_lvalue : Scope → Entity → Option Lvalue
entity_lvalue s (local_variable node t) = Some (local_lvalue s.locals node)
entity_lvalue s (file_variable node t) = Some (object (pointer_to (file_variable_object s.statics node)))
entity_lvalue s (function node signature body) = None
entity_lvalue s (given signature) = None

abbrev pub name_lvalue : Scope → List ℕ → Option Lvalue
name_lvalue s x = entity_of s.context x >>= entity_lvalue s

-- ---- functions

abbrev pub function_number : (name : List ℕ) → List (List ℕ) → ℕ
function_number f names = place_where (λ g. same_bytes g f) names

-- a function that is called, and the types of its parameters
pub record Designator : Type 0 where
  pub callee : Callee
  pub parameters : List TypeTree

abbrev pub with_parameters : Option Signature → Callee → Option Designator
with_parameters signature callee = signature >>= λ (s : Signature). Some (record { callee = callee; parameters = s.parameters })

-- putchar and getchar are given (7.21.7.8, 7.21.7.6); any other function has its place among those with a body
abbrev pub entity_designated : Scope → List ℕ → Entity → Option Designator
entity_designated s f (local_variable node t) = None
entity_designated s f (file_variable node t) = None
entity_designated s f (function node signature body) = with_parameters signature (Function (record { 0 = function_number f s.functions }))
entity_designated s f (given signature) = with_parameters (Some signature) (if same_bytes f putchar_name then PutChar else GetChar)

abbrev pub designated : Scope → List ℕ → Option Designator
designated s f = entity_of s.context f >>= entity_designated s f
