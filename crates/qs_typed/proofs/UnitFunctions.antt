-- The functions of a unit that are found by the numbers of its nodes are those of the definition.
use Rattle.std.proofs.Common.{◌≡◌, ℕ, Bool, true, false, not, ◌||◌, List, [], ◌∷◌, ◌++◌, Some, filter, cond, nat_eq, refl, sym, ap, ◌∙◌, if◌then◌else◌}
use Rattle.std.specs.Prelude.{◌==◌}
use Rattle.std.specs.List.{list_any}
use Rattle.std.proofs.lemmas.Cmp.{nat_eq_equiv}
use Rattle.std.proofs.Math.Bool.{or_assoc, or-false}
use Rattle.qs_syntax.specs.Trees.{FunctionTree, Stmts}
use Rattle.qs_types.specs.Types.{TypeTree}
use Rattle.qs_types.specs.Contexts.{inner_scope}
use Rattle.qs_types.specs.Placed.{Local, is_one_of, is_no_scalar, is_placed, addressed_in, statements_locals}
use Rattle.qs_types.specs.UnitRules.{parameter_types, result_type, after_function, body_context}
use Rattle.qs_typing_findings.specs.UnitNodes.{of_parameters, of_statements}
use Rattle.qs_meaning.specs.Names.{Scope, within}
use Rattle.qs_meaning.specs.Units.{nodes_of, locals_of, parameters_in, in_body}
use Rattle.qs_meaning.proofs.Functions.{same_result}
use Rattle.qs_typed_units.specs.Addressed.{statements_addressed}
use Rattle.qs_typed_nodes.specs.Known.{Known}
use Rattle.qs_typed_nodes.specs.KnownFunctions.{locals_at}
use Rattle.qs_typed_units.specs.KnownPrograms.{Tables, each_once, known_in}
use Rattle.qs_typed_nodes.specs.Agrees.{ResultIs}
use Rattle.qs_typed.specs.AgreesFunctions.{LocalsAt, FunctionAt}
use Rattle.qs_typed.proofs.KnownNodes.{Each, StandsIn}
use Rattle.qs_typed.proofs.KnownBodies.{declared_type, no_referent, its_type, its_referent, Stand, statements_at}
use Rattle.qs_typed.proofs.LaterStructs.{grown}
use Rattle.qs_typed.proofs.AddressedLaws as addresses
use Rattle.qs_typed.proofs.TiedFunctions.{both_at, locals_again}
use Rattle.qs_typed.proofs.UnitHeaders.{ParametersDeclared}
use Rattle.qs_typed.proofs.UnitLocals as locals
use Rattle.qs_typed.proofs.UnitBodies.{KnownAt, body_inside, result_is, result_kept}

-- ---- sets of nodes

one_more : (n m : ℕ) (done : List ℕ) → is_one_of n (done ++ m ∷ []) ≡ (is_one_of n done || (m == n))
one_more n m [] = or-false (m == n)
one_more n m (d ∷ done) = ap (λ b. (d == n) || b) (one_more n m done) ∙ sym (or_assoc (d == n) (is_one_of n done) (m == n))

is_any : (n : ℕ) (ms : List ℕ) → list_any (nat_eq n) ms ≡ is_one_of n ms
is_any n [] = refl
is_any n (m ∷ ms) = λ i. nat_eq_equiv.symm n m i || is_any n ms i

-- a number that is there already makes no difference
there_already : (n m : ℕ) (done : List ℕ) → is_one_of m done ≡ true → (is_one_of n done || (m == n)) ≡ is_one_of n done
there_already n m [] e = absurd (no e)
  where
    no : false ≡ true → ⊥
    no e = cc
there_already n m (d ∷ done) e = by (d == m) refl e (there_already n m done)
  where
    or_self : (a b : Bool) → ((a || b) || a) ≡ (a || b)
    or_self true b = refl
    or_self false b = or-false b

    by : (b : Bool) → (d == m) ≡ b → (b || is_one_of m done) ≡ true → (is_one_of m done ≡ true → (is_one_of n done || (m == n)) ≡ is_one_of n done)
        → (((d == n) || is_one_of n done) || (m == n)) ≡ ((d == n) || is_one_of n done)
    by true q p rest =
        ap (λ x. ((d == n) || is_one_of n done) || x) (sym (nat_eq_equiv.congr d m n q))
        ∙ or_self (d == n) (is_one_of n done)
    by false q p rest = or_assoc (d == n) (is_one_of n done) (m == n) ∙ ap (λ x. (d == n) || x) (rest p)

one_of_each : (n : ℕ) (done ns : List ℕ) → is_one_of n (each_once done ns) ≡ (is_one_of n done || is_one_of n ns)
one_of_each n done [] = sym (or-false (is_one_of n done))
one_of_each n done (m ∷ ns) = by (list_any (nat_eq m) done) (is_any m done) (one_of_each n done ns) (one_of_each n (done ++ m ∷ []) ns)
  where
    by : (b : Bool) → b ≡ is_one_of m done → is_one_of n (each_once done ns) ≡ (is_one_of n done || is_one_of n ns)
        → is_one_of n (each_once (done ++ m ∷ []) ns) ≡ (is_one_of n (done ++ m ∷ []) || is_one_of n ns) → is_one_of n (each_once (if b then done else done ++ m ∷ []) ns) ≡ (is_one_of n done || ((m == n) || is_one_of n ns))
    by true q old new =
        old ∙ ap (λ x. x || is_one_of n ns) (sym (there_already n m done (sym q))) ∙ or_assoc (is_one_of n done) (m == n) (is_one_of n ns)
    by false q old new =
        new ∙ ap (λ x. x || is_one_of n ns) (one_more n m done) ∙ or_assoc (is_one_of n done) (m == n) (is_one_of n ns)

-- ---- places

filter_same : (p q : Local → Bool) → ((l : Local) → p l ≡ q l) → (ls : List Local) → filter p ls ≡ filter q ls
filter_same p q h [] = refl
filter_same p q h (l ∷ ls) = ap (λ b. cond b (l ∷ filter p ls) (filter p ls)) (h l) ∙ ap (λ rest. cond (q l) (l ∷ rest) rest) (filter_same p q h ls)

places_same : (ns ms : List ℕ) → ((n : ℕ) → is_one_of n ns ≡ is_one_of n ms) → (ps ls : List Local) → locals_of ns ps ls ≡ locals_of ms ps ls
places_same ns ms h ps ls = λ i. record {
  variables = nodes_of (ps ++ filter_same (λ l. not (is_placed ns l)) (λ l. not (is_placed ms l)) (λ l. ap not (placed l)) ls i);
  placed = nodes_of (filter_same (is_placed ns) (is_placed ms) placed (ps ++ ls) i);
}
  where
    placed : (l : Local) → is_placed ns l ≡ is_placed ms l
    placed l = ap (λ b. b || is_no_scalar l.type) (h l.node)

-- ---- functions

-- what is known of a function in a unit is what the definition has
pub function_at : (t : Tables) (s : Scope) (f : FunctionTree) (body : Stmts) (r : TypeTree) → KnownAt (known_in t f body) (within s (after_function s.context f)) → result_type s.context f ≡ Some r
    → Each (StandsIn t.types) (of_parameters declared_type its_type (inner_scope s.context) f.parameters)
    → Stand (known_in t f body) (of_statements declared_type its_type (body_context s.context f) body) (of_statements no_referent its_referent (body_context s.context f) body)
    → FunctionAt (known_in t f body) s f body (addressed_in s.context f body) (parameters_in s.context f) (statements_locals (body_context s.context f) body)
function_at t s f body r h e ps n = record {
  locals = placed;
  result = result_kept s.context t.type_names (λ b x p. h.bases b x p) f r e;
  structs = grown s.context.structs t.structs h.structs;
  parameters = locals.parameters_at k (inner_scope s.context) f.parameters declared;
  declared = both_at k (parameters_in s.context f) ls (locals.parameters_locals_at k (inner_scope s.context) f.parameters declared) here;
  statements = statements_at k (in_body s f (locals_of (addressed_in s.context f body) (parameters_in s.context f) ls))
      (body_inside k s f (locals_of (addressed_in s.context f body) (parameters_in s.context f) ls) h placed) returned body n;
}
  where
    k : Known
    k = known_in t f body

    ls : List Local
    ls = statements_locals (body_context s.context f) body

    declared : ParametersDeclared t.types (inner_scope s.context) f.parameters
    declared = locals.parameters_declared t.types (inner_scope s.context) f.parameters ps

    here : LocalsAt k ls
    here = locals.statements_at k (body_context s.context f) body n.0

    nodes : List ℕ
    nodes = each_once [] (statements_addressed t.referents body)

    members : (m : ℕ) → is_one_of m nodes ≡ is_one_of m (addressed_in s.context f body)
    members m = one_of_each m [] (statements_addressed t.referents body) ∙ ap (is_one_of m) (addresses.statements_same k (body_context s.context f) body n)

    placed : k.locals ≡ locals_of (addressed_in s.context f body) (parameters_in s.context f) ls
    placed =
        (λ i. locals_of nodes
        ((ap (locals_at t.types) (locals.parameters_same (inner_scope s.context) f.parameters)
        ∙ locals_again k (parameters_in s.context f) (locals.parameters_locals_at k (inner_scope s.context) f.parameters declared)) i)
        ((ap (locals_at t.types) (locals.statements_same (body_context s.context f) body) ∙ locals_again k ls here) i))
        ∙ places_same nodes (addressed_in s.context f body) members (parameters_in s.context f) ls

    returned : ResultIs k (body_context s.context f)
    returned u q =
        result_is s.context t.type_names (λ b x p. h.bases b x p) f u
        (sym (same_result f.parameters (parameter_types (inner_scope s.context) f.parameters) (record (inner_scope (after_function s.context f)) { result = result_type s.context f })) ∙ q)
