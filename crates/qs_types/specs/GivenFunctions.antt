-- The types of functions (C11 6.7.6.3), the functions that are given, and the one that a program begins with.
use Rattle.std.specs.Prelude.{ℕ, List, [], ◌∷◌}
use Rattle.qs_types.specs.Types.{TypeTree, int}

-- the types of a function's parameters and of its result
pub record Signature : Type 0 where
  pub parameters : List TypeTree
  pub result : TypeTree

-- 7.21.7.8
abbrev pub putchar_name : List ℕ
putchar_name = 112 ∷ 117 ∷ 116 ∷ 99 ∷ 104 ∷ 97 ∷ 114 ∷ []

abbrev pub putchar_type : Signature
putchar_type = record { parameters = int ∷ []; result = int }

-- 7.21.7.6
abbrev pub getchar_name : List ℕ
getchar_name = 103 ∷ 101 ∷ 116 ∷ 99 ∷ 104 ∷ 97 ∷ 114 ∷ []

abbrev pub getchar_type : Signature
getchar_type = record { parameters = []; result = int }

-- 5.1.2.2.1
abbrev pub main_name : List ℕ
main_name = 109 ∷ 97 ∷ 105 ∷ 110 ∷ []
