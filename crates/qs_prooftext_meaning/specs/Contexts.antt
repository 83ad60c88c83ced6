-- What the readers know, as a setting.
use Rattle.std.specs.Prelude.{◌≡◌, ℕ, Bool, false, ◌&&◌, ◌||◌, bytes_eq, if◌then◌else◌, List, [], ◌∷◌, ◌++◌, map, Option, Some, None, option_map, Vec, Result, IfOk, OnOk}
use Rattle.std.specs.declared.alloc.Global.{Global}
use Rattle.std.specs.List.{list_any}
use Rattle.qs_assert.specs.declared.variable.NumberType.{NumberType}
use Rattle.qs_assert.specs.declared.variable.Var.{Var}
use Rattle.qs_assert.specs.declared.variable.VarKind.{VarKind}
use Rattle.qs_base.specs.declared.function.FnId.{FnId}
use Rattle.qs_memory.specs.Partial.{◌>>=◌}
use Rattle.qs_callgraph.specs.CallLists.{flag}
use Rattle.qs_assert.specs.declared.variable.VarKind.TheVariants as kinds
use Rattle.qs_core.specs.TermTexts.{variable_name}
use Rattle.qs_core.specs.TreeOf.{function_tree, variable_tree}
use Rattle.qs_core.specs.Trees.{CoreFunctionTree, CoreVariableTree}
use Rattle.qs_triples.specs.Mentions.{has_placed_parameter}
use Rattle.qs_triples.specs.Valuations.{if_number}
use Rattle.qs_core.specs.declared.units.CoreFunction.{CoreFunction}
use Rattle.qs_core.specs.declared.units.CoreVariable.{CoreVariable}
use Rattle.qs_prooftext_meaning.specs.declared.context.Context.{Context}
use Rattle.qs_prooftext_meaning.specs.declared.context.Names.{Names}
use Rattle.qs_prooftext_meaning.specs.declared.context.Word.{Word}
use Rattle.qs_prooftext_meaning.specs.Definitions.{names_one_of}
use Rattle.qs_prooftext_meaning.specs.Settings.{Setting, look_up, numbered, old_variable, temporary_words, typed, variable_words, with_word}

abbrev pub word_view : Word → List ℕ × Var
word_view w = (w.text.items, w.variable)

-- the names of functions, each with its number
abbrev pub function_rows : List CoreFunction → List (List ℕ × ℕ)
function_rows fs = numbered 0 (map (λ f. f.name) (map function_tree fs))

-- the answer is the number of the function with this name
abbrev pub FindsFunction :
    {E : Type 0} → List CoreFunction → (word : List ℕ) → Result (Option FnId) E → Type 0
FindsFunction fs word result = IfOk result (λ found. option_map (λ f. f.0) found ≡ look_up word (function_rows fs))

-- the flags tell which functions are open
abbrev pub is_open_word : List Bool → List (List ℕ × ℕ) → (word : List ℕ) → Bool
is_open_word flags rows word = list_any (λ row. bytes_eq row.0 word && flag flags row.1) rows

abbrev pub has_name_in : List (List ℕ × ℕ) → Option Names → (word : List ℕ) → Bool
has_name_in rows None word = false
has_name_in rows (Some names) word =
    is_open_word names.is_open.now rows word || names_one_of names.definitions.now.defines.items word

abbrev pub setting_of : Context → Setting
setting_of c = record {
  functions = function_rows c.functions.now;
  variables = map word_view c.words.now;
  result = c.result;
  has_name = has_name_in (function_rows c.functions.now) c.names;
}

-- the value at the entry of the variable for which a word stands
abbrev pub old_by_word : List (List ℕ × Var) → (word : List ℕ) → Option Var
old_by_word rows word = look_up word rows >>= old_variable

-- the word of the variable with a number, if it has one
abbrev pub word_of_variable : CoreFunctionTree → (number : ℕ) → CoreVariableTree → List (List ℕ × Var)
word_of_variable f i v =
    if has_placed_parameter f i then []
    else with_word (variable_name v) (typed (kinds.Plain i) (if_number v.scalar))

abbrev pub word_at : CoreFunction → (number : ℕ) → CoreVariable → List (List ℕ × Var)
word_at f i v = word_of_variable (function_tree f) i (variable_tree v)

abbrev pub words_of_variables : CoreFunction → List (List ℕ × Var)
words_of_variables f = variable_words (function_tree f) 0 (function_tree f).variables

abbrev pub words_of_temporaries : CoreFunction → List (List ℕ × Var)
words_of_temporaries f = temporary_words 0 (function_tree f).temporaries

abbrev pub one_word : (text : List ℕ) → VarKind → NumberType → List (List ℕ × Var)
one_word text kind number = (text, record { kind = kind; number = number }) ∷ []

-- behind the words so far these are put
abbrev pub AddsWords :
    {A E : Type 0} → Vec Word Global → List (List ℕ × Var) → Vec Word Global → Result A E → Type 0
AddsWords old more new result = OnOk result (map word_view new.items ≡ map word_view old.items ++ more)

abbrev pub GivesWords : {E : Type 0} → List (List ℕ × Var) → Result (Vec Word Global) E → Type 0
GivesWords rows result = IfOk result (λ words. map word_view words.items ≡ rows)
