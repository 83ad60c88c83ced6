-- The typed tree of a unit of a sample's form.
use Rattle.std.proofs.Common.{◌≡◌, ℕ, zero, suc, pred, ◌+◌, ◌<◌, ◌≤◌, ◌==◌, true, false, List, [], ◌∷◌, ◌++◌, map, Option, Some, decimal, codes, refl, ap, ◌∙◌, arith}
use Rattle.std.proofs.lemmas.Bool.Decides.{nat_tests}
use Rattle.std.proofs.lemmas.List.{append-nil}
use Rattle.qs_syntax.specs.declared.nodes.Node.{Node}
use Rattle.qs_base.specs.Bytes.{same_bytes}
use Rattle.qs_syntax.specs.Trees.{ExprTree, function, UnitTree}
use Rattle.qs_memory.specs.declared.scalar.Scalar.TheVariants as scalars
use Rattle.qs_memory.specs.declared.operation.Arithmetic.TheVariants as arithmetics
use Rattle.qs_memory.specs.declared.operation.BinaryOperation.TheVariants as operations
use Rattle.qs_memory.specs.declared.operation.Signedness.TheVariants.{Signed}
use Rattle.qs_calls.specs.declared.callee.Callee.TheVariants as callees
use Rattle.qs_calls.specs.declared.parameter.Parameter.TheVariants.{Plain}
use Rattle.qs_memory.specs.Partial.{◌>>=◌}
use Rattle.qs_types.specs.Contexts.{Binding, Context, given, lookup}
use Rattle.qs_types.specs.Contexts as contexts
use Rattle.qs_types.specs.GivenFunctions.{putchar_name, putchar_type, main_name}
use Rattle.qs_types.specs.UnitRules.{after_declaration}
use Rattle.qs_types.specs.References.{TextBlock, literal_blocks}
use Rattle.qs_meaning.specs.Typed.{Expr, constant, value, called, binary, variable, as_written, unchanged, no_arguments, argument_and, perform, evaluate, return, no_stmts, stmt_and, Function, TypedProgram}
use Rattle.qs_meaning.specs.InitialValues.{text_block}
use Rattle.qs_meaning.specs.Names.{Scope, Locals, Statics, within, function_number}
use Rattle.qs_meaning.specs.Units.{declarations_typed, function_typed, functions_in, start_scope, typed_of}
use Rattle.qs_driver_session.proofs.SampleTrees.{function_name, IsValue, the_next, a_call, returning, function_of, MainNodes, main_of, main_body, IsTail, the_main, a_function}
use Rattle.qs_driver_session.proofs.SampleTyped.{numbers_same, numbers_differ, bound, at_file, Found, Known, nothing_known, one_more_known, after_is}
use Rattle.qs_driver_session.proofs.SampleLimits.{no_literals}

-- ---- the typed tree: the function behind j others has the number j

-- `x+1`
abbrev pub next_typed : Expr
next_typed = binary (operations.Arithmetic arithmetics.Add Signed) as_written unchanged unchanged (value scalars.Int (variable 0)) (constant scalars.Int 1)

-- what the function with this number returns
abbrev pub value_typed : ℕ → Expr
value_typed zero = next_typed
value_typed (suc j) = called scalars.Int (callees.Function (record { 0 = j })) (argument_and unchanged next_typed no_arguments)

abbrev pub function_as_typed : ℕ → Function
function_as_typed j = record {
  name = function_name (suc j);
  result = Some scalars.Int;
  parameters = Plain 0 ∷ [];
  variables = scalars.Int ∷ [];
  blocks = [];
  body = stmt_and (return unchanged (value_typed j)) no_stmts;
  is_main = false;
}

-- `'0'+fN(0)%10`, where the function has this number
abbrev pub digit_typed : ℕ → Expr
digit_typed j =
    binary (operations.Arithmetic arithmetics.Add Signed) as_written unchanged unchanged (constant scalars.Int 48)
    (binary (operations.Arithmetic arithmetics.Remainder Signed) as_written unchanged unchanged
    (called scalars.Int (callees.Function (record { 0 = j })) (argument_and unchanged (constant scalars.Int 0) no_arguments))
    (constant scalars.Int 10))

-- main, which calls the function with this number
abbrev pub main_as_typed : ℕ → Function
main_as_typed j = record {
  name = main_name;
  result = Some scalars.Int;
  parameters = [];
  variables = [];
  blocks = [];
  body = stmt_and (evaluate (perform callees.PutChar (argument_and unchanged (digit_typed j) no_arguments))) (stmt_and (return unchanged (constant scalars.Int 0)) no_stmts);
  is_main = true;
}

-- so many functions behind j others, and main
abbrev pub typed_tail : (j left : ℕ) → List Function
typed_tail j zero = main_as_typed (pred j) ∷ []
typed_tail j (suc left) = function_as_typed j ∷ typed_tail (suc j) left

abbrev pub sample_typed : ℕ → TypedProgram
sample_typed n = record { functions = typed_tail 0 n; blocks = [] }

-- ---- the numbers of functions, by their names

number_among : {j left : ℕ} {ds : UnitTree} → IsTail j left ds → j + left < 512 → (i k : ℕ) → i < left → k ≡ j + i → function_number (function_name (suc k)) (functions_in ds) ≡ i
number_among (the_main node m n) h i k l e = absurd (omega arith)
number_among (a_function node p r j left v ds is t) h zero k l e =
    let same : k ≡ j = omega arith in
    ap (λ x. function_number (function_name (suc x)) (function_name (suc j) ∷ functions_in ds)) same ∙ rw (numbers_same (decimal (suc j))) refl
number_among (a_function node p r j left v ds is t) h (suc i) k l e =
    let differ : same_bytes (decimal (suc j)) (decimal (suc k)) ≡ false = numbers_differ (suc j) (suc k) (omega arith) (omega arith) (λ same. omega arith) in
    let behind : function_number (function_name (suc k)) (functions_in ds) ≡ i = number_among t (omega arith) i k (omega arith) (omega arith) in
    rw differ (ap (λ x. x + 1) behind ∙ omega arith)

-- these names have their numbers
abbrev AreNumbered : (total : ℕ) → List (List ℕ) → Type 0
AreNumbered total names = (i : ℕ) → i < total → function_number (function_name (suc i)) names ≡ i

-- ---- a function

abbrev scope_at : List Binding → Locals → Statics → List (List ℕ) → Scope
scope_at bs locals statics names = record { context = at_file bs; locals = locals; statics = statics; functions = names }

function_is : (bs : List Binding) (locals : Locals) (statics : Statics) (names : List (List ℕ)) (total : ℕ) (node p r : Node) {j : ℕ} {e : ExprTree} → j < total → total < 512 → Known j bs → AreNumbered total names → IsValue j e
    → function_typed (scope_at bs locals statics names) (function_of node p r (suc j) e) (Some (returning r e)) ≡ Some (function_as_typed j ∷ [])
function_is bs locals statics names total node p r l h k numbers (the_next a b c) =
    let same : (p.id == p.id) ≡ true = grind (arith, nat_tests) in
    rw same refl
function_is bs locals statics names total node p r l h k numbers (a_call n a b c j) =
    let same : (p.id == p.id) ≡ true = grind (arith, nat_tests) in
    let other : same_bytes (decimal (suc (suc j))) (decimal (suc j)) ≡ false = numbers_differ (suc (suc j)) (suc j) (omega arith) (omega arith) (λ e. omega arith) in
    let found : Found (suc j) bs = k.known j (omega arith) in
    let number : function_number (function_name (suc j)) names ≡ j = numbers j (omega arith) in
    rw (same, other, append-nil bs, found.is, number) refl

main_is : (bs : List Binding) (locals : Locals) (statics : Statics) (names : List (List ℕ)) (node : Node) (m : MainNodes) (i : ℕ) → Known (suc i) bs → function_number (function_name (suc i)) names ≡ i
    → function_typed (scope_at bs locals statics names) (main_of node m (suc i)) (Some (main_body m (suc i))) ≡ Some (main_as_typed i ∷ [])
main_is bs locals statics names node m i k number =
    let put : lookup putchar_name bs ≡ Some (given putchar_type) = k.putchar in
    let spelled : lookup (codes "putchar") bs ≡ Some (given putchar_type) = k.putchar in
    let found : Found (suc i) bs = k.known i (omega arith) in
    rw (append-nil bs, put, found.is, number, spelled) refl

-- ---- the unit

abbrev one_before : List Function → TypedProgram → Option TypedProgram
one_before now rest = Some (record { functions = now ++ rest.functions; blocks = rest.blocks })

abbrev behind_functions : Scope → Context → UnitTree → Option (List Function) → Option TypedProgram
behind_functions s c ds o =
    (o >>= λ (fs : List Function). Some (record { functions = fs; blocks = [] })) >>= λ (now : TypedProgram). declarations_typed (within s c) ds >>= λ (rest : TypedProgram).
    Some (record { functions = now.functions ++ rest.functions; blocks = now.blocks ++ rest.blocks })

tail_is : (bs : List Binding) (locals : Locals) (statics : Statics) (names : List (List ℕ)) (total : ℕ) {j left : ℕ} {ds : UnitTree} → 1 ≤ total → j + left ≡ total → total < 512 → Known j bs → AreNumbered total names → IsTail j left ds
    → declarations_typed (scope_at bs locals statics names) ds ≡ Some (record { functions = typed_tail j left; blocks = [] })
tail_is bs locals statics names total o e h k numbers (the_main node m zero) = absurd (omega arith)
tail_is bs locals statics names total o e h k numbers (the_main node m (suc i)) =
    ap (behind_functions (scope_at bs locals statics names) (after_declaration (at_file bs) (function (main_of node m (suc i)))) [])
    (main_is bs locals statics names node m i k (numbers i (omega arith)))
tail_is bs locals statics names total o e h k numbers (a_function node p r j left v ds is t) =
    let s : Scope = scope_at bs locals statics names in
    let after : after_declaration (at_file bs) (function (function_of node p r (suc j) v)) ≡ at_file (bound (suc j) node.id ∷ bs) = after_is bs node p r j v (k.fresh j (omega arith) (omega arith)) in
    let behind : declarations_typed (scope_at (bound (suc j) node.id ∷ bs) locals statics names) ds ≡ Some (record { functions = typed_tail (suc j) left; blocks = [] }) =
    tail_is (bound (suc j) node.id ∷ bs) locals statics names total o (omega arith) h (one_more_known j node.id bs (omega arith) k) numbers t in
    ap (behind_functions s (after_declaration (at_file bs) (function (function_of node p r (suc j) v))) ds) (function_is bs locals statics names total node p r (omega arith) h k numbers is)
    ∙ ap (λ c. behind_functions s c ds (Some (function_as_typed j ∷ []))) after
    ∙ ap (λ (o : Option TypedProgram). o >>= one_before (function_as_typed j ∷ [])) behind

pub unit_is_typed : (n : ℕ) (unit : UnitTree) → 1 ≤ n → n < 512 → IsTail 0 n unit → typed_of unit ≡ Some (sample_typed n)
unit_is_typed n unit l h t =
    let numbers : AreNumbered n (functions_in unit) = λ i m. number_among t (omega arith) i i m (omega arith) in
    let s : Scope = start_scope unit in
    let tree : declarations_typed s unit ≡ Some (sample_typed n) = tail_is contexts.given_functions s.locals s.statics (functions_in unit) n l (omega arith) h nothing_known numbers t in
    ap (λ (o : Option TypedProgram). o >>= λ (u : TypedProgram). Some (record u { blocks = u.blocks ++ map text_block (literal_blocks unit) })) tree
    ∙ ap (λ (ts : List TextBlock). Some (record { functions = typed_tail 0 n; blocks = map text_block ts })) (no_literals t)
