-- The functions of a typed unit have names of the language, by which their variables differ.
use Rattle.std.proofs.Common.{◌≡◌, ◌&&◌, ℕ, suc, ◌==◌, not, Bool, true, List, [], ◌∷◌, ◌++◌, length, map, Option, Some, refl, sym, ap, ◌∙◌, subst, arith}
use Rattle.std.specs.List.{list_all}
use Rattle.std.proofs.lemmas.List.{map-append, length-map, length-append}
use Rattle.std.proofs.lemmas.Bool.{and_parts}
use Rattle.std.proofs.lemmas.Option.{same_Some}
use Rattle.qs_base.specs.Names.{is_name}
use Rattle.qs_base.specs.Bytes.{same_bytes}
use Rattle.qs_syntax.specs.Trees.{ParameterTree, Stmts, FunctionTree}
use Rattle.qs_syntax.specs.Nodes.{function_nodes}
use Rattle.qs_memory.specs.declared.scalar.Scalar.{Scalar}
use Rattle.qs_memory.proofs.Options.{followed}
use Rattle.qs_calls.specs.declared.parameter.Parameter.{Parameter}
use Rattle.qs_core.specs.Fits.{differ}
use Rattle.qs_types.specs.Types.{TypeTree}
use Rattle.qs_types.specs.Contexts.{Context, inner_scope}
use Rattle.qs_types.specs.UnitRules.{parameter_types, body_context}
use Rattle.qs_types.specs.Placed.{Local, is_placed, addressed_in, statements_locals}
use Rattle.qs_meaning.specs.Typed.{Function}
use Rattle.qs_meaning.specs.Conversions.{scalar_of}
use Rattle.qs_meaning.specs.Names.{Locals, Scope}
use Rattle.qs_meaning.specs.Statements.{statements_typed}
use Rattle.qs_meaning.specs.Units.{nodes_of, placed_among, plain_among, variables_among, locals_of, parameters_in, scalars_of, sizes_of, parameter_typed, parameters_typed, in_body, function_with}
use Rattle.qs_meaning.specs.FitLaws.{are_different}
use Rattle.qs_elaborate_bodies.specs.Names.{Declared, parameter_name, declared_parameter, statements_declare, function_declares, body_names, count_of}
use Rattle.qs_elaborate_bodies.specs.Units.{named_parameters, named_variables}
use Rattle.qs_elaborate_laws.specs.FitLaws.{are_first, IsNamed, has_name}
use Rattle.qs_elaborate_laws.proofs.FitNames.{nodes_declared, naming, all_named, all_apart, first_named}
use Rattle.qs_elaborate_laws.proofs.FitDeclarations.{IsPart, part_self, part_front, part_both, part_in, part_different, ids, function_among, parameters_are, locals_are, filtered_part}

-- ---- as many as there are

scalars_count : (ls : List Local) (ss : List Scalar) → scalars_of ls ≡ Some ss → length ss ≡ length (nodes_of ls)
scalars_count [] ss h = ap (λ (xs : List Scalar). length xs) (sym (same_Some [] ss h))
scalars_count (l ∷ ls) ss h =
    let t = followed l.type _ ss h in
    let rest = followed (scalars_of ls) _ ss t.then in
    ap (λ (xs : List Scalar). length xs) (sym (same_Some (scalar_of t.value ∷ rest.value) ss rest.then)) ∙ ap (λ (n : ℕ). suc n) (scalars_count ls rest.value rest.first)

pub parameters_count : (locals : Locals) (ps : List ParameterTree) (ts : List (Option TypeTree)) (qs : List Parameter) → parameters_typed locals ps ts ≡ Some qs → length qs ≡ length ps
parameters_count locals [] [] qs h = ap (λ (xs : List Parameter). length xs) (sym (same_Some [] qs h))
parameters_count locals [] (t ∷ ts) qs h = cc
parameters_count locals (p ∷ ps) [] qs h = cc
parameters_count locals (p ∷ ps) (t ∷ ts) qs h =
    let first = followed (parameter_typed locals p t) _ qs h in
    let rest = followed (parameters_typed locals ps ts) _ qs first.then in
    ap (λ (xs : List Parameter). length xs) (sym (same_Some (first.value ∷ rest.value) qs rest.then)) ∙ ap (λ (n : ℕ). suc n) (parameters_count locals ps ts rest.value rest.first)

names_are : (ps : List ParameterTree) → map (λ (d : Declared). d.name) (map declared_parameter ps) ≡ map (λ (p : ParameterTree). parameter_name p.name) ps
names_are [] = refl
names_are (p ∷ ps) = ap (λ (xs : List (List ℕ)). parameter_name p.name ∷ xs) (names_are ps)

all_new : (ds : List Declared) → list_all (λ (d : Declared). count_of d.name [] == 0) ds ≡ true
all_new [] = refl
all_new (d ∷ ds) = all_new ds

-- the names of the parameters differ
abbrev pub parameters_differ : FunctionTree → Bool
parameters_differ f = differ same_bytes (map (λ (p : ParameterTree). parameter_name p.name) f.parameters)

-- ---- one function

module _ (s : Scope) (f : FunctionTree) (body : Stmts) (is : f.body ≡ Some body) (names : (is_name f.name && list_all has_name (function_declares f body)) ≡ true) (nodes : are_different (ids (function_nodes f)) ≡ true) (apart : parameters_differ f ≡ true) where
  abbrev c : Context
  c = s.context

  abbrev operands : List ℕ
  operands = addressed_in c f body

  abbrev parameters : List Local
  parameters = parameters_in c f

  abbrev in_statements : List Local
  in_statements = statements_locals (body_context c f) body

  abbrev variables_of : List Local
  variables_of = variables_among operands parameters in_statements

  abbrev others : List ℕ
  others = nodes_of (plain_among operands in_statements)

  abbrev declared : List Declared
  declared = function_declares f body

  abbrev here : List Declared
  here = map declared_parameter f.parameters

  variables_part : IsPart (nodes_of variables_of) (nodes_declared declared)
  variables_part =
      subst (IsPart (nodes_of variables_of)) (locals_are f body (inner_scope c) (body_context c f))
      (subst (λ (xs : List ℕ). IsPart xs (nodes_of (parameters ++ in_statements))) (sym (map-append (λ (l : Local). l.node) parameters (plain_among operands in_statements)))
      (subst (IsPart (nodes_of parameters ++ others)) (sym (map-append (λ (l : Local). l.node) parameters in_statements))
      (part_both (nodes_of parameters) (nodes_of parameters) others (nodes_of in_statements) (part_self (nodes_of parameters))
      (filtered_part (λ (l : Local). not (is_placed operands l)) in_statements))))

  declared_differ : are_different (nodes_declared declared) ≡ true
  declared_differ = part_different (nodes_declared declared) (ids (function_nodes f)) (function_among f body is) nodes

  variables_nodes : nodes_declared here ++ others ≡ nodes_of variables_of
  variables_nodes =
      ap (λ (xs : List ℕ). xs ++ others) (sym (parameters_are f.parameters (inner_scope c)))
      ∙ sym (map-append (λ (l : Local). l.node) parameters (plain_among operands in_statements))

  here_differ : are_different (nodes_declared here) ≡ true
  here_differ = part_different (nodes_declared here) (nodes_declared declared)
      (subst (IsPart (nodes_declared here)) (sym (map-append (λ (d : Declared). d.node) here (statements_declare body)))
      (part_front (nodes_declared here) (nodes_declared here) (nodes_declared (statements_declare body)) (part_self (nodes_declared here)))) declared_differ

  pub named_function : (g : Function) → function_with s f body operands parameters in_statements ≡ Some g → IsNamed (body_names c f body) g
  named_function g h =
      let types = parameter_types (inner_scope c) f.parameters in
      let p = followed (parameters_typed (locals_of operands parameters in_statements) f.parameters types) _ g h in
      let v = followed (scalars_of variables_of) _ g p.then in
      let z = followed (sizes_of c.structs (placed_among operands (parameters ++ in_statements))) _ g v.then in
      let b = followed (statements_typed (in_body s f (locals_of operands parameters in_statements)) body) _ g z.then in
      let count = scalars_count variables_of v.value v.first in
      let places = parameters_count (locals_of operands parameters in_statements) f.parameters types p.value p.first in
      let long = length-map f.parameters declared_parameter in
      let first = length-map here (λ (d : Declared). d.node) in
      let all = length-append (nodes_declared here) others in
      let same_count = ap (λ (xs : List ℕ). length xs) variables_nodes in
      let own = and_parts (is_name f.name) _ names in
      let declares = part_in (nodes_of variables_of) (nodes_declared declared) variables_part in
      subst (IsNamed (body_names c f body)) (same_Some _ g b.then) (record {
        own = own.0;
        variables = all_named declared (nodes_of variables_of) v.value count declares own.1;
        different = all_apart declared (nodes_of variables_of) v.value count declares
            (part_different (nodes_of variables_of) (nodes_declared declared) variables_part declared_differ);
        parameters = subst (λ (xs : List (List ℕ)). are_first (named_parameters xs p.value) (named_variables (map (naming declared) (nodes_of variables_of)) v.value) ≡ true) (names_are f.parameters)
            (subst (λ (xs : List ℕ). are_first (named_parameters (map (λ (d : Declared). d.name) here) p.value) (named_variables (map (naming declared) xs) v.value) ≡ true) variables_nodes
            (first_named (naming declared) here p.value others v.value [] (statements_declare body) (omega (arith, places, long)) (omega (arith, count, first, all, same_count))
            (λ n h. refl) here_differ (all_new here) (subst (λ (xs : List (List ℕ)). differ same_bytes xs ≡ true) (sym (names_are f.parameters)) apart)));
      })
