-- What names stand for (C11 6.2.1, 6.2.3), and what is known at a place of a unit.
use Rattle.std.specs.Prelude.{ℕ, zero, suc, Bool, true, false, ◌&&◌, ◌||◌, List, [], ◌∷◌, ◌++◌, Option, Some, None, is_some, if◌then◌else◌}
use Rattle.qs_base.specs.Bytes.{same_bytes}
use Rattle.qs_syntax.specs.declared.types.Base.{Base}
use Rattle.qs_syntax.specs.declared.types.Base.TheVariants as bases
use Rattle.qs_syntax.specs.declared.types.TypeName.{TypeName}
use Rattle.qs_types.specs.Types.{TypeTree, int, unsigned, char, void, pointer, struct, is_void, Structs}
use Rattle.qs_types.specs.Layout.{and_then}
use Rattle.qs_types.specs.GivenFunctions.{Signature, putchar_name, putchar_type, getchar_name, getchar_type}

-- a declaration, by the number of its node; no type where the declaration breaks a rule on types
pub data Entity : Type 0 where
  local_variable : (node : ℕ) → Option TypeTree → Entity
  file_variable : (node : ℕ) → Option TypeTree → Entity
  -- and whether a body was given
  function : (node : ℕ) → Option Signature → Bool → Entity
  -- putchar or getchar, which count as declared before the text
  given : Signature → Entity

pub record Binding : Type 0 where
  pub name : List ℕ
  pub entity : Entity

-- 6.7.2.3: a tag, and the number of its struct
pub record Tag : Type 0 where
  pub name : List ℕ
  pub place : ℕ

-- 6.7.8: a name that a `typedef` declares, and its type; none where the declaration breaks a rule on types
pub record NamedType : Type 0 where
  pub name : List ℕ
  pub type : Option TypeTree

-- the names of types: tags and the names of typedefs, each in the order of their first declarations
pub record TypeNames : Type 0 where
  pub tags : List Tag
  pub types : List NamedType

abbrev pub no_type_names : TypeNames
no_type_names = record { tags = []; types = [] }

-- one more tag, and one more type name
abbrev pub add_tag : TypeNames → List ℕ → (place : ℕ) → TypeNames
add_tag names tag place = record names { tags = names.tags ++ record { name = tag; place = place } ∷ [] }

abbrev pub add_type : TypeNames → List ℕ → Option TypeTree → TypeNames
add_type names x t = record names { types = names.types ++ record { name = x; type = t } ∷ [] }

-- 6.8.4.2p2, p3: what a label speaks of in the block of a switch: the promoted type of the operand, where that is an integer; the values of the
-- `case`s before it, converted to that type; whether a `default` is before it
pub record Labels : Type 0 where
  pub operand : Option TypeTree
  pub values : List ℕ
  pub has_default : Bool

abbrev pub no_labels : Labels
no_labels = record { operand = None; values = []; has_default = false }

-- the structs, in the order of their first declarations, and the names of types; the names of the innermost scope and those of the scopes
-- around it, the latest first; the result of the function, where it has a type; whether a loop and a switch are around the place; the labels
-- of the switch whose block is the innermost scope
pub record Context : Type 0 where
  pub structs : Structs
  pub type_names : TypeNames
  pub inner : List Binding
  pub outer : List Binding
  pub result : Option TypeTree
  pub in_loop : Bool
  pub in_switch : Bool
  pub labels : Labels

abbrev pub given_functions : List Binding
given_functions =
    record { name = putchar_name; entity = given putchar_type }
    ∷ record { name = getchar_name; entity = given getchar_type }
    ∷ []

-- what is known before a unit
abbrev pub start_context : Context
start_context = record {
  structs = [];
  type_names = no_type_names;
  inner = given_functions;
  outer = [];
  result = None;
  in_loop = false;
  in_switch = false;
  labels = no_labels;
}

-- what constant expressions speak of: these structs and these names of types
abbrev pub context_with : Structs → TypeNames → Context
context_with structs names = record start_context { structs = structs; type_names = names }

abbrev pub lookup : List ℕ → List Binding → Option Entity
lookup x [] = None
lookup x (b ∷ bs) = if same_bytes b.name x then Some b.entity else lookup x bs

-- 6.2.1p4: an inner declaration hides those around it
abbrev pub entity_of : Context → List ℕ → Option Entity
entity_of context x = lookup x (context.inner ++ context.outer)

abbrev pub is_declared_here : Context → List ℕ → Bool
is_declared_here context x = is_some (lookup x context.inner)

-- 6.2.1p7
abbrev pub with_name : Context → List ℕ → Entity → Context
with_name context x entity = record context { inner = record { name = x; entity = entity } ∷ context.inner }

-- 6.2.1p4: a block is a scope; a label stands only right in the block of a switch
abbrev pub inner_scope : Context → Context
inner_scope context = record context { inner = []; outer = context.inner ++ context.outer; labels = no_labels }

abbrev pub inside_loop : Context → Context
inside_loop context = record context { in_loop = true }

-- 6.8.4.2: where a switch begins whose operand has this promoted type
abbrev pub inside_switch : (operand : Option TypeTree) → Context → Context
inside_switch operand context = record context { in_switch = true; labels = record no_labels { operand = operand } }

-- behind the label of a `case`, whose value is this, and behind a `default`
abbrev pub with_case : Context → Option ℕ → Context
with_case context None = context
with_case context (Some value) = record context { labels = record context.labels { values = context.labels.values ++ value ∷ [] } }

abbrev pub with_default : Context → Context
with_default context = record context { labels = record context.labels { has_default = true } }

-- ---- types by name (6.7.2, 6.7.7)

abbrev pub place_of : List ℕ → List Tag → Option ℕ
place_of tag [] = None
place_of tag (t ∷ ts) = if same_bytes t.name tag then Some t.place else place_of tag ts

abbrev pub tag_place : Context → List ℕ → Option ℕ
tag_place context tag = place_of tag context.type_names.tags

-- what is declared under a type name
abbrev pub named_in : List ℕ → List NamedType → Option (Option TypeTree)
named_in x [] = None
named_in x (n ∷ ns) = if same_bytes n.name x then Some n.type else named_in x ns

-- the type that it stands for
abbrev pub type_in : List ℕ → TypeNames → Option TypeTree
type_in x names = and_then (named_in x names.types) (λ t. t)

abbrev pub type_under : Context → List ℕ → Option (Option TypeTree)
type_under context x = named_in x context.type_names.types

abbrev pub is_type_name : Context → List ℕ → Bool
is_type_name context x = is_some (type_under context x)

-- 6.2.1p4, 6.2.3: in the scope of the file a name is no type name and nothing else too
abbrev pub is_taken : (at_file_scope : Bool) → Context → List ℕ → Bool
is_taken at_file_scope context x = (at_file_scope && is_type_name context x) || is_declared_here context x

abbrev pub pointers : ℕ → TypeTree → TypeTree
pointers zero t = t
pointers (suc stars) t = pointer (pointers stars t)

-- None where the tag isn't declared, or the type name has no type
abbrev pub base_in : TypeNames → Base → Option TypeTree
base_in names bases.Void = Some void
base_in names bases.Int = Some int
base_in names bases.Unsigned = Some unsigned
base_in names bases.Char = Some char
base_in names (bases.Struct tag) = and_then (place_of tag names.tags) (λ k. Some (struct k))
base_in names (bases.Named x) = type_in x names

abbrev pub base_type : Context → Base → Option TypeTree
base_type context base = base_in context.type_names base

-- a type with stars behind it
abbrev pub starred : Option TypeTree → ℕ → Option TypeTree
starred base stars = and_then base (λ t. Some (pointers stars t))

abbrev pub starred_type : Context → Base → ℕ → Option TypeTree
starred_type context base stars = starred (base_type context base) stars

abbrev pub named_type : Context → TypeName → Option TypeTree
named_type context n = starred_type context n.base n.stars

-- no type name stands for `void`
abbrev pub is_void_base : Base → Bool
is_void_base bases.Void = true
is_void_base bases.Int = false
is_void_base bases.Unsigned = false
is_void_base bases.Char = false
is_void_base (bases.Struct tag) = false
is_void_base (bases.Named x) = false

-- a type that there is passes a test
abbrev pub is_type_in : (TypeTree → Bool) → Option TypeTree → Bool
is_type_in test None = false
is_type_in test (Some t) = test t

abbrev pub is_void_type : Option TypeTree → Bool
is_void_type t = is_type_in is_void t
