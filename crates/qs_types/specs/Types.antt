-- The types of the language (C11 6.2.5), and the structs of a unit.
use Rattle.std.specs.Prelude.{ℕ, Bool, true, false, ◌&&◌, ◌||◌, ◌==◌, List, Option}

pub data TypeTree : Type 0 where
  int : TypeTree
  unsigned : TypeTree
  char : TypeTree
  void : TypeTree
  pointer : TypeTree → TypeTree
  -- the type of the elements, and how many they are
  array : TypeTree → ℕ → TypeTree
  -- a struct by its place among the structs of the unit
  struct : ℕ → TypeTree

-- 6.7.2.1: a member of a struct
pub record MemberTree : Type 0 where
  pub name : List ℕ
  pub type : TypeTree

-- the members in order; none are known where the struct is only declared (6.7.2.3)
abbrev pub StructTree : Type 0
StructTree = Option (List MemberTree)

-- the structs of a unit, in the order in which the text first declares them
abbrev pub Structs : Type 0
Structs = List StructTree

-- 6.2.7: two types are the same; a struct is the same as itself alone
abbrev pub same_type : TypeTree → TypeTree → Bool
same_type int int = true
same_type unsigned unsigned = true
same_type char char = true
same_type void void = true
same_type (pointer t) (pointer u) = same_type t u
same_type (array t n) (array u m) = (n == m) && same_type t u
same_type (struct k) (struct j) = k == j
same_type _ _ = false

-- 6.2.5p17
abbrev pub is_integer : TypeTree → Bool
is_integer int = true
is_integer unsigned = true
is_integer char = true
is_integer void = false
is_integer (pointer t) = false
is_integer (array t n) = false
is_integer (struct k) = false

-- 6.2.5p20
abbrev pub is_pointer : TypeTree → Bool
is_pointer int = false
is_pointer unsigned = false
is_pointer char = false
is_pointer void = false
is_pointer (pointer t) = true
is_pointer (array t n) = false
is_pointer (struct k) = false

-- 6.2.5p20
abbrev pub is_array : TypeTree → Bool
is_array int = false
is_array unsigned = false
is_array char = false
is_array void = false
is_array (pointer t) = false
is_array (array t n) = true
is_array (struct k) = false

-- 6.2.5p20
abbrev pub is_struct : TypeTree → Bool
is_struct int = false
is_struct unsigned = false
is_struct char = false
is_struct void = false
is_struct (pointer t) = false
is_struct (array t n) = false
is_struct (struct k) = true

-- 6.2.5p19
abbrev pub is_void : TypeTree → Bool
is_void int = false
is_void unsigned = false
is_void char = false
is_void void = true
is_void (pointer t) = false
is_void (array t n) = false
is_void (struct k) = false

-- 6.2.5p21
abbrev pub is_scalar : TypeTree → Bool
is_scalar t = is_integer t || is_pointer t

-- 6.2.5p20: the type that a pointer leads to, and that of an array's elements; of another type the type itself
abbrev pub referenced : TypeTree → TypeTree
referenced int = int
referenced unsigned = unsigned
referenced char = char
referenced void = void
referenced (pointer t) = t
referenced (array t n) = t
referenced (struct k) = struct k
