-- A unit of a sample's form keeps the typing rules.
use Rattle.std.proofs.Common.{◌≡◌, ◌≢◌, ℕ, zero, suc, ◌+◌, ◌<◌, ◌≤◌, ◌==◌, nat_eq, Bool, true, false, ◌&&◌, if◌then◌else◌, List, [], ◌∷◌, ◌++◌, Option, Some, None, decimal, refl, ap, sym, ◌∙◌, subst, arith}
use Rattle.std.proofs.lemmas.Bool.Decides.{nat_tests}
use Rattle.std.proofs.lemmas.Fmt.{decimal_injective}
use Rattle.std.proofs.lemmas.List.{append-nil}
use Rattle.std.specs.Cmp.Lexicographic.{same_text}
use Rattle.qs_syntax.specs.declared.nodes.Node.{Node}
use Rattle.qs_base.specs.Bytes.{same_bytes}
use Rattle.qs_syntax.specs.Trees.{ExprTree, function, UnitTree}
use Rattle.qs_types.specs.Types.{int}
use Rattle.qs_types.specs.Contexts as contexts
use Rattle.qs_types.specs.Contexts.{given, Binding, Context, start_context, lookup, entity_of}
use Rattle.qs_types.specs.GivenFunctions.{Signature, putchar_name, putchar_type, main_name}
use Rattle.qs_types.specs.UnitRules.{is_name_in, declaration_faults, declarations_faults, after_declaration, context_after}
use Rattle.qs_types.specs.References.{unit_calls}
use Rattle.qs_types.specs.WellTyped.{entity_has_body, entity_runs, end_context, undefined_from, WellTyped}
use Rattle.qs_driver_session.proofs.SampleTrees.{function_name, IsValue, the_next, a_call, function_of, MainNodes, main_of, IsTail, the_main, a_function}

-- ---- names

pub numbers_same : (xs : List ℕ) → same_bytes xs xs ≡ true
numbers_same [] = refl
numbers_same (x ∷ xs) =
    let one : (x == x) ≡ true = grind (arith, nat_tests) in
    rw (one, numbers_same xs) refl

pub numbers_differ : (j k : ℕ) → j < 512 → k < 512 → j ≢ k → same_bytes (decimal j) (decimal k) ≡ false
numbers_differ j k l m d = by (same_bytes (decimal j) (decimal k)) refl
  where
    by : (b : Bool) → same_bytes (decimal j) (decimal k) ≡ b → b ≡ false
    by true e = absurd (d (decimal_injective j k (omega arith) (omega arith) (same_text (decimal j) (decimal k) (sym e))))
    by false e = refl

-- ---- what is known behind so many functions

abbrev pub int_to_int : Signature
int_to_int = record { parameters = int ∷ []; result = int }

abbrev pub bound : (k node : ℕ) → Binding
bound k node = record { name = function_name k; entity = contexts.function node (Some int_to_int) true }

abbrev pub at_file : List Binding → Context
at_file bs = record start_context { inner = bs }

-- the name of this function stands for one with a body
pub record Found (k : ℕ) (bs : List Binding) : Type 0 where
  pub node : ℕ
  pub is : lookup (function_name k) bs ≡ Some (contexts.function node (Some int_to_int) true)

pub record Known (j : ℕ) (bs : List Binding) : Type 0 where
  pub known : (i : ℕ) → i < j → Found (suc i) bs
  pub fresh : (i : ℕ) → j ≤ i → i < 511 → lookup (function_name (suc i)) bs ≡ None
  pub main : lookup main_name bs ≡ None
  pub putchar : lookup putchar_name bs ≡ Some (given putchar_type)

found_here : (k node : ℕ) (bs : List Binding) → lookup (function_name k) (bound k node ∷ bs) ≡ Some (contexts.function node (Some int_to_int) true)
found_here k node bs = rw (numbers_same (decimal k)) refl

found_behind : (j k node : ℕ) (bs : List Binding) → j < 512 → k < 512 → j ≢ k → lookup (function_name k) (bound j node ∷ bs) ≡ lookup (function_name k) bs
found_behind j k node bs l m d = rw (numbers_differ j k l m d) refl

pub nothing_known : Known 0 contexts.given_functions
nothing_known = record { known = λ i l. absurd (omega arith); fresh = λ i l m. refl; main = refl; putchar = refl }

pub one_more_known : (j node : ℕ) (bs : List Binding) → j < 511 → Known j bs → Known (suc j) (bound (suc j) node ∷ bs)
one_more_known j node bs l k = record {
  known = λ i m. by i m (nat_eq j i) refl;
  fresh = λ i m h. found_behind (suc j) (suc i) node bs (omega arith) (omega arith) (λ e. omega arith) ∙ k.fresh i (omega arith) h;
  main = k.main;
  putchar = k.putchar;
}
  where
    by : (i : ℕ) → i < suc j → (b : Bool) → nat_eq j i ≡ b → Found (suc i) (bound (suc j) node ∷ bs)
    by i m true e =
        let same : j ≡ i = grind (arith, nat_tests) in
        record { node = node; is = ap (λ x. lookup (function_name (suc x)) (bound (suc j) node ∷ bs)) (sym same) ∙ found_here (suc j) node bs }
    by i m false e =
        let other : j ≢ i = grind (arith, nat_tests) in
        let before : Found (suc i) bs = k.known i (omega arith) in
        record { node = before.node; is = found_behind (suc j) (suc i) node bs (omega arith) (omega arith) (λ e. omega arith) ∙ before.is }

-- ---- a function

pub after_is : (bs : List Binding) (node p r : Node) (j : ℕ) (e : ExprTree) → lookup (function_name (suc j)) bs ≡ None
    → after_declaration (at_file bs) (function (function_of node p r (suc j) e)) ≡ at_file (bound (suc j) node.id ∷ bs)
after_is bs node p r j e h = rw h refl

function_keeps : (bs : List Binding) (node p r : Node) {j : ℕ} {e : ExprTree} → j < 511 → Known j bs → IsValue j e → declaration_faults (at_file bs) (function (function_of node p r (suc j) e)) ≡ []
function_keeps bs node p r l k (the_next a b c) = let h : lookup (function_name 1) bs ≡ None = k.fresh 0 (omega arith) (omega arith) in rw h refl
function_keeps bs node p r l k (a_call n a b c j) =
    let h : lookup (function_name (suc (suc j))) bs ≡ None = k.fresh (suc j) (omega arith) (omega arith) in
    let other : same_bytes (decimal (suc (suc j))) (decimal (suc j)) ≡ false = numbers_differ (suc (suc j)) (suc j) (omega arith) (omega arith) (λ e. omega arith) in
    let found : Found (suc j) bs = k.known j (omega arith) in
    rw (h, other, append-nil bs, found.is) refl

-- ---- main

main_keeps : (bs : List Binding) (node : Node) (m : MainNodes) (n : ℕ) → Known n bs → Found n bs → declaration_faults (at_file bs) (function (main_of node m n)) ≡ []
main_keeps bs node m n k found =
    let h : lookup main_name bs ≡ None = k.main in
    let put : lookup putchar_name bs ≡ Some (given putchar_type) = k.putchar in
    rw (h, append-nil bs, put, found.is) refl

pub found_last : (n : ℕ) (bs : List Binding) → 1 ≤ n → Known n bs → Found n bs
found_last zero bs l k = absurd (omega arith)
found_last (suc n) bs l k = k.known n (omega arith)

-- ---- the unit

no_faults : (bs : List Binding) {j left : ℕ} {ds : UnitTree} → 1 ≤ j + left → j + left < 512 → Known j bs → IsTail j left ds → declarations_faults (at_file bs) ds ≡ []
no_faults bs l h k (the_main node m n) = ap (λ faults. faults ++ []) (main_keeps bs node m n k (found_last n bs (omega arith) k))
no_faults bs l h k (a_function node p r j left e ds v t) =
    let here : declaration_faults (at_file bs) (function (function_of node p r (suc j) e)) ≡ [] = function_keeps bs node p r (omega arith) k v in
    let after : after_declaration (at_file bs) (function (function_of node p r (suc j) e)) ≡ at_file (bound (suc j) node.id ∷ bs) = after_is bs node p r j e (k.fresh j (omega arith) (omega arith)) in
    let behind : declarations_faults (at_file (bound (suc j) node.id ∷ bs)) ds ≡ [] =
    no_faults (bound (suc j) node.id ∷ bs) (omega arith) (omega arith) (one_more_known j node.id bs (omega arith) k) t in
    ap (λ faults. faults ++ declarations_faults (after_declaration (at_file bs) (function (function_of node p r (suc j) e))) ds) here
    ∙ ap (λ c. declarations_faults c ds) after ∙ behind

-- ---- bodies

-- in this context so many functions have bodies, and main has one
record AllRun (total : ℕ) (c : Context) : Type 0 where
  functions : (i : ℕ) → i < total → entity_runs (entity_of c (function_name (suc i))) ≡ true
  main_runs : entity_runs (entity_of c main_name) ≡ true
  main_has_body : entity_has_body (entity_of c main_name) ≡ true

found_runs : (k node : ℕ) (bs : List Binding) → Found k bs → entity_runs (entity_of (at_file (record { name = main_name; entity = contexts.function node (Some (record { parameters = []; result = int })) true } ∷ bs)) (function_name k)) ≡ true
found_runs k node bs f = rw (append-nil bs, f.is) refl

all_run : (bs : List Binding) (total : ℕ) {j left : ℕ} {ds : UnitTree} → j + left ≡ total → total < 512 → Known j bs → IsTail j left ds → AllRun total (context_after (at_file bs) ds)
all_run bs total e h k (the_main node m n) =
    let none : lookup main_name bs ≡ None = k.main in
    rw none (record {
      functions = λ i l. found_runs (suc i) node.id bs (k.known i (omega arith));
      main_runs = refl;
      main_has_body = refl;
    })
all_run bs total e h k (a_function node p r j left v ds is t) =
    let after : after_declaration (at_file bs) (function (function_of node p r (suc j) v)) ≡ at_file (bound (suc j) node.id ∷ bs) = after_is bs node p r j v (k.fresh j (omega arith) (omega arith)) in
    let behind : AllRun total (context_after (at_file (bound (suc j) node.id ∷ bs)) ds) =
    all_run (bound (suc j) node.id ∷ bs) total (omega arith) h (one_more_known j node.id bs (omega arith) k) t in
    subst (λ c. AllRun total (context_after c ds)) (sym after) behind

neither : (b : Bool) (n : ℕ) (rest : Option ℕ) → (if b && false then Some n else rest) ≡ rest
neither true n rest = refl
neither false n rest = refl

none_undefined : (c : Context) (called : List (List ℕ)) (total : ℕ) {j left : ℕ} {ds : UnitTree} → AllRun total c → j + left ≡ total → IsTail j left ds
    → undefined_from (λ f. entity_runs (entity_of c f)) called ds ≡ None
none_undefined c called total r e (the_main node m n) =
    let runs : entity_runs (entity_of c main_name) ≡ true = r.main_runs in
    rw runs (neither (is_name_in main_name called) node.id None)
none_undefined c called total r e (a_function node p q j left v ds is t) =
    let runs : entity_runs (entity_of c (function_name (suc j))) ≡ true = r.functions j (omega arith) in
    rw runs (neither (is_name_in (function_name (suc j)) called) node.id (undefined_from (λ f. entity_runs (entity_of c f)) called ds)
    ∙ none_undefined c called total r (omega arith) t)

pub is_well_typed : (n : ℕ) (unit : UnitTree) → 1 ≤ n → n < 512 → IsTail 0 n unit → WellTyped unit
is_well_typed n unit l h t =
    let all : AllRun n (end_context unit) = all_run contexts.given_functions n (omega arith) h nothing_known t in
    record {
      keeps_rules = no_faults contexts.given_functions (omega arith) (omega arith) nothing_known t;
      main_has_body = all.main_has_body;
      calls_have_bodies = none_undefined (end_context unit) (unit_calls unit) n all (omega arith) t;
    }
