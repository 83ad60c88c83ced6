-- What the lists of a whole file are: definitions and entries, or the first fault without one.
use Rattle.std.specs.Prelude.{ℕ, List, [], ◌∷◌, ◌++◌, map, codes, ◌==◌, ◌||◌, ◌&&◌, bytes_eq, Bool, if◌then◌else◌, Option, Some, None, Ok, Err}
use Rattle.std.specs.List.{slice_get, list_any}
use Rattle.qs_base.specs.Results.{bind}
use Rattle.qs_assert.specs.Trees.{AssertionTree}
use Rattle.qs_core.specs.Trees.{CoreFunctionTree, CoreUnitTree}
use Rattle.qs_core.specs.FunctionNames.{function_name}
use Rattle.qs_sexpr.specs.Trees.{Sexp, number, symbol, list, Sexps, no_parts, part_and, count}
use Rattle.qs_triples.specs.Derivations.{ProofsTree}
use Rattle.qs_triples.specs.Entries.{has_entry}
use Rattle.qs_prooftext_meaning.specs.declared.fault.TextFault.TheVariants.{UnknownForm, Duplicate, NoSuchFunction}
use Rattle.qs_prooftext_meaning.specs.Kinds.{Values, a_definition_body, a_precondition, a_postcondition, an_entry_certificate, a_body}
use Rattle.qs_prooftext_meaning.specs.Settings.{look_up, functions_of, in_definition, in_entry}
use Rattle.qs_prooftext_meaning.specs.Meanings.{Answer, each_means}

abbrev pub is_among : List (List ℕ) → (name : List ℕ) → Bool
is_among names name = list_any (bytes_eq name) names

-- ---- what all lists tell before the first is read

-- the name in `(function NAME ..)`
abbrev pub name_of_parts : Sexps → List (List ℕ)
name_of_parts no_parts = []
name_of_parts (part_and (number at n) parts) = []
name_of_parts (part_and (symbol at name) parts) = name ∷ []
name_of_parts (part_and (list at inner) parts) = []

abbrev pub entry_names_of : Sexp → List (List ℕ)
entry_names_of (number at n) = []
entry_names_of (symbol at w) = []
entry_names_of (list at no_parts) = []
entry_names_of (list at (part_and (number place n) parts)) = []
entry_names_of (list at (part_and (symbol place w) parts)) =
    if bytes_eq w (codes "function") then name_of_parts parts else []
entry_names_of (list at (part_and (list place inner) parts)) = []

-- the functions for which the file has a list; each counts as an entry when open functions are found
abbrev pub entry_names : Sexps → List (List ℕ)
entry_names no_parts = []
entry_names (part_and s ss) = entry_names_of s ++ entry_names ss

abbrev pub has_list : CoreUnitTree → Sexps → (function : ℕ) → Bool
has_list u file f = is_among (entry_names file) (function_name u f)

-- ---- lists at the top

-- the unit, which of its functions are open, and what the lists before are
pub record Sofar : Type 0 where
  pub unit : CoreUnitTree
  pub is_open : ℕ → Bool
  pub proofs : ProofsTree

abbrev pub is_open_name : CoreUnitTree → (is_open : ℕ → Bool) → (name : List ℕ) → Bool
is_open_name u is_open name = list_any (λ row. bytes_eq row.0 name && is_open row.1) (functions_of u)

abbrev pub defined_names : ProofsTree → List (List ℕ)
defined_names proofs = map (λ d. d.name) proofs.defines

-- an open function is a definition of its own name, and the lists before have others
abbrev pub is_defined : Sofar → (name : List ℕ) → Bool
is_defined s name = is_open_name s.unit s.is_open name || is_among (defined_names s.proofs) name

abbrev pub with_define : ProofsTree → List ℕ → AssertionTree → ProofsTree
with_define p name body = record p { defines = p.defines ++ record { name = name; body = body } ∷ [] }

-- `(define N A)`
abbrev pub define_means : Sofar → (at : ℕ) → Sexps → Answer ProofsTree
define_means s at no_parts = Err (UnknownForm at)
define_means s at (part_and (number place n) parts) = Err (UnknownForm place)
define_means s at (part_and (symbol place name) parts) =
    if is_defined s name then Err (Duplicate at)
    else bind (each_means (in_definition s.unit) (a_definition_body ∷ []) parts)
    (λ v. Ok (with_define s.proofs name v.0))
define_means s at (part_and (list place inner) parts) = Err (UnknownForm place)

abbrev pub with_entry :
    ProofsTree → (function : ℕ)
    → Values (a_precondition ∷ a_postcondition ∷ an_entry_certificate ∷ a_body ∷ []) → ProofsTree
with_entry p f v = record p {
  functions = p.functions ++ record { function = f; spec = record { pre = v.0; post = v.1.0 }; entry = v.1.1.0; body = v.1.1.1.0 } ∷ [];
}

-- the parts behind the name of a function that the unit has; in them the names that are defined so far have a meaning
abbrev pub entry_means : Sofar → (at f : ℕ) → Option CoreFunctionTree → Sexps → Answer ProofsTree
entry_means s at f None parts = Err (NoSuchFunction at)
entry_means s at f (Some function) parts =
    if has_entry s.proofs f then Err (Duplicate at)
    else bind
    (each_means (in_entry s.unit function (is_defined s)) (a_precondition ∷ a_postcondition ∷ an_entry_certificate ∷ a_body ∷ []) parts)
    (λ v. Ok (with_entry s.proofs f v))

abbrev pub named_entry_means : Sofar → (at : ℕ) → (function : Option ℕ) → Sexps → Answer ProofsTree
named_entry_means s at None parts = Err (NoSuchFunction at)
named_entry_means s at (Some f) parts = entry_means s at f (slice_get s.unit.functions f) parts

-- `(function f (pre A) (post A) (entry CERT) (body NODE))`
abbrev pub function_means : Sofar → (at : ℕ) → Sexps → Answer ProofsTree
function_means s at no_parts = Err (UnknownForm at)
function_means s at (part_and (number place n) parts) = Err (UnknownForm place)
function_means s at (part_and (symbol place name) parts) =
    named_entry_means s at (look_up name (functions_of s.unit)) parts
function_means s at (part_and (list place inner) parts) = Err (UnknownForm place)

abbrev pub headed_top_means : Sofar → (at : ℕ) → (head : Sexp) → Sexps → Answer ProofsTree
headed_top_means s at (number place n) parts = Err (UnknownForm at)
headed_top_means s at (symbol place w) parts =
    if bytes_eq w (codes "define") && count parts == 2 then define_means s at parts
    else if bytes_eq w (codes "function") && count parts == 5 then function_means s at parts
    else Err (UnknownForm at)
headed_top_means s at (list place inner) parts = Err (UnknownForm at)

-- what the proofs are with one list more
abbrev pub top_means : Sofar → Sexp → Answer ProofsTree
top_means s (number at n) = Err (UnknownForm at)
top_means s (symbol at w) = Err (UnknownForm at)
top_means s (list at no_parts) = Err (UnknownForm at)
top_means s (list at (part_and head parts)) = headed_top_means s at head parts

abbrev pub tops_mean : Sofar → Sexps → Answer ProofsTree
tops_mean s no_parts = Ok s.proofs
tops_mean s (part_and top tops) =
    bind (top_means s top) (λ proofs. tops_mean (record s { proofs = proofs }) tops)

abbrev pub no_proofs : ProofsTree
no_proofs = record { defines = []; functions = [] }

-- the lists of a file, where these functions of the unit are open
abbrev pub file_means : CoreUnitTree → (is_open : ℕ → Bool) → Sexps → Answer ProofsTree
file_means u is_open file = tops_mean (record { unit = u; is_open = is_open; proofs = no_proofs }) file
