-- The words that have a meaning at a place of a proof file.
use Rattle.std.specs.Prelude.{ℕ, ◌+◌, List, [], ◌∷◌, ◌++◌, map, Bool, false, bytes_eq, if◌then◌else◌, Option, Some, None}
use Rattle.qs_memory.specs.declared.scalar.Scalar.{Scalar}
use Rattle.qs_assert.specs.declared.variable.NumberType.{NumberType}
use Rattle.qs_assert.specs.declared.variable.VarKind.{VarKind}
use Rattle.qs_assert.specs.declared.variable.VarKind.TheVariants as kinds
use Rattle.qs_assert.specs.declared.variable.Var.{Var}
use Rattle.qs_core.specs.Trees.{CoreVariableTree, CoreFunctionTree, CoreUnitTree}
use Rattle.qs_core.specs.TermTexts.{variable_name, temporary_text}
use Rattle.qs_triples.specs.Mentions.{has_placed_parameter}
use Rattle.qs_triples.specs.Valuations.{if_number, number_if}

-- the first value that stands by a word
abbrev pub look_up : {A : Type 0} → (word : List ℕ) → List (List ℕ × A) → Option A
look_up word [] = None
look_up word (row ∷ rows) = if bytes_eq row.0 word then Some row.1 else look_up word rows

abbrev pub numbered : {A : Type 0} → (from : ℕ) → List A → List (A × ℕ)
numbered i [] = []
numbered i (x ∷ xs) = (x, i) ∷ numbered (i + 1) xs

-- ---- variables

abbrev pub typed : VarKind → Option NumberType → Option Var
typed kind None = None
typed kind (Some type) = Some (record { kind = kind; number = type })

abbrev pub with_word : List ℕ → Option Var → List (List ℕ × Var)
with_word word None = []
with_word word (Some x) = (word, x) ∷ []

-- a plain variable of integer type, by its name; the variable of a placed parameter isn't one
abbrev pub variable_words : CoreFunctionTree → (from : ℕ) → List CoreVariableTree → List (List ℕ × Var)
variable_words f i [] = []
variable_words f i (v ∷ vs) =
    (if has_placed_parameter f i then [] else with_word (variable_name v) (typed (kinds.Plain i) (if_number v.scalar)))
    ++ variable_words f (i + 1) vs

-- a temporary of integer type
abbrev pub temporary_word : (number : ℕ) → Scalar → List (List ℕ × Var)
temporary_word k s = with_word (temporary_text k) (typed (kinds.Temporary k) (if_number s))

abbrev pub temporary_words : (from : ℕ) → List Scalar → List (List ℕ × Var)
temporary_words k [] = []
temporary_words k (s ∷ ss) =
    temporary_word k s ++ temporary_words (k + 1) ss

abbrev pub words_of : CoreFunctionTree → List (List ℕ × Var)
words_of f = variable_words f 0 f.variables ++ temporary_words 0 f.temporaries

-- the value of a plain variable at the entry
abbrev pub old_of : Var → VarKind → Option Var
old_of x (kinds.Plain i) = Some (record { kind = kinds.Old i; number = x.number })
old_of x (kinds.Temporary k) = None
old_of x (kinds.Old i) = None
old_of x kinds.Returned = None

abbrev pub old_variable : Var → Option Var
old_variable x = old_of x x.kind

-- ---- settings

pub record Setting : Type 0 where
  -- the functions with a body, and their numbers
  pub functions : List (List ℕ × ℕ)
  -- the variables of integer type of the function whose entry it is
  pub variables : List (List ℕ × Var)
  -- its result, where that is an integer
  pub result : Option Var
  -- whether `(name N)` has a meaning in an entry
  pub has_name : List ℕ → Bool

abbrev pub functions_of : CoreUnitTree → List (List ℕ × ℕ)
functions_of u = numbered 0 (map (λ f. f.name) u.functions)

-- in a definition
abbrev pub in_definition : CoreUnitTree → Setting
in_definition u = record { functions = functions_of u; variables = []; result = None; has_name = λ name. false }

-- in an entry of the function
abbrev pub in_entry : CoreUnitTree → CoreFunctionTree → (has_name : List ℕ → Bool) → Setting
in_entry u f has_name = record {
  functions = functions_of u;
  variables = words_of f;
  result = typed kinds.Returned (number_if f.result_type);
  has_name = has_name;
}
