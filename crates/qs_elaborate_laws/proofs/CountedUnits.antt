-- The typed tree of a unit counts at most the nodes of the unit, and so the words of its core are few.
use Rattle.std.proofs.Common.{◌≡◌, ◌≤◌, ℕ, ◌+◌, ◌*◌, List, [], ◌∷◌, ◌++◌, Option, Some, None, is_some, length, refl, subst, arith}
use Rattle.std.specs.Prelude.{sum_by}
use Rattle.std.proofs.lemmas.List.{length-append}
use Rattle.std.proofs.lemmas.List.Sums.{sum_by-cons, sum_by-append}
use Rattle.std.proofs.lemmas.Option.{same_Some}
use Rattle.qs_syntax.specs.Trees.{ParameterTree, FunctionTree, DeclTree, structure, forward, function, variables, UnitTree, typedef}
use Rattle.qs_syntax.specs.Trees as trees
use Rattle.qs_syntax.specs.Nodes.{all_count, option_count, parameter_count, stmts_count, decl_count, unit_count}
use Rattle.qs_memory.proofs.Options.{followed}
use Rattle.qs_calls.specs.declared.parameter.Parameter.{Parameter}
use Rattle.qs_core.specs.Sizes.{unit_words}
use Rattle.qs_types.specs.Types.{TypeTree}
use Rattle.qs_types.specs.Rules.{faults_of}
use Rattle.qs_types.specs.Contexts.{inner_scope}
use Rattle.qs_types.specs.Placed.{Local, addressed_in, statements_locals}
use Rattle.qs_types.specs.UnitRules.{parameter_types, header_tests, parameters_faults, body_context, body_faults, after_declaration, declaration_faults, declarations_faults}
use Rattle.qs_types.specs.WellTyped.{WellTyped}
use Rattle.qs_meaning.specs.Typed.{Function, TypedProgram}
use Rattle.qs_meaning.specs.Runs.{main_from}
use Rattle.qs_meaning.specs.Names.{Locals, Scope, within}
use Rattle.qs_meaning.specs.Statements.{statements_typed}
use Rattle.qs_meaning.specs.Units.{placed_among, variables_among, locals_of, parameters_in, scalars_of, sizes_of, parameter_typed, parameters_typed, in_body, function_with, function_typed, file_variables_typed, declaration_typed, declarations_typed, name_with_body, functions_in, start_scope, typed_of}
use Rattle.qs_meaning.proofs.Options.{nothing}
use Rattle.qs_meaning.proofs.FaultlessExpressions.{none_left, none_right}
use Rattle.qs_elaborate_laws.specs.Counts.{nodes_in}
use Rattle.qs_elaborate_bodies.specs.Names.{names_in}
use Rattle.qs_elaborate_laws.specs.SizeLaws.{NodesAreOfSource, SourceWordsAreFew}
use Rattle.qs_elaborate_laws.proofs.WordFunctions.{unit_words_are_few}
use Rattle.qs_elaborate_laws.proofs.CountedStatements.{statements_counted}

-- ---- functions

parameters_counted : (locals : Locals) (ps : List ParameterTree) (ts : List (Option TypeTree)) (all : List Parameter) → parameters_typed locals ps ts ≡ Some all
    → length all ≤ all_count parameter_count ps
parameters_counted locals [] [] all q = subst (λ z. length z ≤ 0) (same_Some _ all q) (omega arith)
parameters_counted locals [] (t ∷ ts) all q = nothing all q
parameters_counted locals (p ∷ ps) [] all q = nothing all q
parameters_counted locals (p ∷ ps) (t ∷ ts) all q =
    let x = followed (parameter_typed locals p t) _ all q in
    let rest = followed (parameters_typed locals ps ts) _ all x.then in
    let k = parameters_counted locals ps ts rest.value rest.first in
    subst (λ z. length z ≤ parameter_count p + all_count parameter_count ps) (same_Some _ all rest.then) (omega arith)

function_counted : (s : Scope) (f : FunctionTree) (body : trees.Stmts) (addressed : List ℕ) (ps ls : List Local) (g : Function) → body_faults s.context f (Some body) ≡ []
    → function_with s f body addressed ps ls ≡ Some g → nodes_in g ≤ 1 + all_count parameter_count f.parameters + stmts_count body
function_counted s f body addressed ps ls g faults q =
    let locals = locals_of addressed ps ls in
    let x = followed (parameters_typed locals f.parameters (parameter_types (inner_scope s.context) f.parameters)) _ g q in
    let y = followed (scalars_of (variables_among addressed ps ls)) _ g x.then in
    let z = followed (sizes_of s.context.structs (placed_among addressed (ps ++ ls))) _ g y.then in
    let w = followed (statements_typed (in_body s f locals) body) _ g z.then in
    let h = parameters_counted locals f.parameters (parameter_types (inner_scope s.context) f.parameters) x.value x.first in
    let k = statements_counted body (in_body s f locals) w.value faults w.first in
    subst (λ (g : Function). nodes_in g ≤ 1 + all_count parameter_count f.parameters + stmts_count body) (same_Some _ g w.then) (omega arith)

-- ---- declarations

-- functions that count at most n, and are as many as these names
pub record FunctionsCounted (n : ℕ) (names : List (List ℕ)) (fs : List Function) : Type 0 where
  pub nodes : sum_by nodes_in fs ≤ n
  pub number : length fs ≡ length names

functions_counted : (s : Scope) (f : FunctionTree) (o : Option trees.Stmts) (fs : List Function) → body_faults s.context f o ≡ [] → function_typed s f o ≡ Some fs
    → FunctionsCounted (1 + all_count parameter_count f.parameters + option_count stmts_count o) (name_with_body f.name o) fs
functions_counted s f None fs faults q =
    subst (λ z. FunctionsCounted (1 + all_count parameter_count f.parameters + 0) [] z) (same_Some _ fs q) (record { nodes = omega arith; number = refl })
functions_counted s f (Some body) fs faults q =
    let ps = parameters_in s.context f in
    let ls = statements_locals (body_context s.context f) body in
    let g = followed (function_with s f body (addressed_in s.context f body) ps ls) _ fs q in
    let h = function_counted s f body (addressed_in s.context f body) ps ls g.value faults g.first in
    let one = sum_by-cons nodes_in g.value [] in
    subst (λ z. FunctionsCounted (1 + all_count parameter_count f.parameters + stmts_count body) (f.name ∷ []) z) (same_Some _ fs g.then)
    (record { nodes = omega arith; number = refl })

declaration_counted : (d : DeclTree) (s : Scope) (now : TypedProgram) → declaration_faults s.context d ≡ [] → declaration_typed s d ≡ Some now
    → FunctionsCounted (decl_count d) (functions_in (d ∷ [])) now.functions
declaration_counted (structure d) s now faults q =
    subst (λ (z : TypedProgram). FunctionsCounted (decl_count (structure d)) [] z.functions) (same_Some _ now q) (record { nodes = omega arith; number = refl })
declaration_counted (forward d) s now faults q =
    subst (λ (z : TypedProgram). FunctionsCounted 1 [] z.functions) (same_Some _ now q) (record { nodes = omega arith; number = refl })
declaration_counted (typedef d) s now faults q =
    subst (λ (z : TypedProgram). FunctionsCounted (decl_count (typedef d)) [] z.functions) (same_Some _ now q) (record { nodes = omega arith; number = refl })
declaration_counted (variables d) s now faults q =
    let bs = followed (file_variables_typed s d.base d.variables) _ now q in
    subst (λ (z : TypedProgram). FunctionsCounted (decl_count (variables d)) [] z.functions) (same_Some _ now bs.then) (record { nodes = omega arith; number = refl })
declaration_counted (function f) s now faults q =
    let fs = followed (function_typed s f f.body) _ now q in
    let body = none_right (parameters_faults (inner_scope s.context) (is_some f.body) f.parameters) _ (none_right (faults_of f.node.id (header_tests s.context f)) _ faults) in
    let h = functions_counted s f f.body fs.value body fs.first in
    let names = length-append (name_with_body f.name f.body) [] in
    subst (λ (z : TypedProgram). FunctionsCounted (decl_count (function f)) (functions_in (function f ∷ [])) z.functions) (same_Some _ now fs.then)
    (record { nodes = h.nodes; number = let n = h.number in omega arith })

names_joined : (d : DeclTree) (ds : UnitTree) → length (functions_in (d ∷ ds)) ≡ length (functions_in (d ∷ [])) + length (functions_in ds)
names_joined (structure d) ds = omega arith
names_joined (forward d) ds = omega arith
names_joined (typedef d) ds = omega arith
names_joined (variables d) ds = omega arith
names_joined (function f) ds =
    let a = length-append (name_with_body f.name f.body) (functions_in ds) in
    let b = length-append (name_with_body f.name f.body) [] in
    omega arith

declarations_counted : (ds : UnitTree) (s : Scope) (u : TypedProgram) → declarations_faults s.context ds ≡ [] → declarations_typed s ds ≡ Some u
    → FunctionsCounted (unit_count ds) (functions_in ds) u.functions
declarations_counted [] s u faults q =
    subst (λ (z : TypedProgram). FunctionsCounted 0 [] z.functions) (same_Some _ u q) (record { nodes = omega arith; number = refl })
declarations_counted (d ∷ ds) s u faults q =
    let after = within s (after_declaration s.context d) in
    let now = followed (declaration_typed s d) _ u q in
    let rest = followed (declarations_typed after ds) _ u now.then in
    let h = declaration_counted d s now.value (none_left (declaration_faults s.context d) (declarations_faults after.context ds) faults) now.first in
    let k = declarations_counted ds after rest.value (none_right (declaration_faults s.context d) (declarations_faults after.context ds) faults) rest.first in
    let sum = sum_by-append nodes_in now.value.functions rest.value.functions in
    let both = length-append now.value.functions rest.value.functions in
    let names = names_joined d ds in
    let hn = h.nodes in
    let kn = k.nodes in
    let hl = h.number in
    let kl = k.number in
    subst (λ (z : TypedProgram). FunctionsCounted (unit_count (d ∷ ds)) (functions_in (d ∷ ds)) z.functions) (same_Some _ u rest.then)
    (record { nodes = omega arith; number = omega arith })

-- ---- units

pub unit_counted : (unit : UnitTree) (u : TypedProgram) → WellTyped unit → typed_of unit ≡ Some u → FunctionsCounted (unit_count unit) (functions_in unit) u.functions
unit_counted unit u well q =
    let d = followed (declarations_typed (start_scope unit) unit) _ u q in
    subst (λ (z : TypedProgram). FunctionsCounted (unit_count unit) (functions_in unit) z.functions) (same_Some _ u d.then)
    (declarations_counted unit (start_scope unit) d.value well.keeps_rules d.first)

pub nodes_are_of_source : NodesAreOfSource
nodes_are_of_source unit u well q = (unit_counted unit u well q).nodes

pub source_words_are_few : SourceWordsAreFew
source_words_are_few unit core well q =
    let u = followed (typed_of unit) _ core q in
    let main = followed (main_from 0 u.value.functions) _ core u.then in
    let h = unit_counted unit u.value well u.first in
    let n = h.nodes in
    let l = h.number in
    let w = unit_words_are_few (names_in unit) u.value main.value main.first in
    subst (λ z. unit_words z ≤ 24 * unit_count unit + 32 * length (functions_in unit)) (same_Some _ core main.then) (omega arith)
