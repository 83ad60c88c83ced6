-- The core of a program that fits is a unit that fits.
use Rattle.std.proofs.Common.{◌≡◌, ℕ, zero, suc, ◌+◌, ◌==◌, ◌&&◌, not, ◌||◌, nat_lt, Bool, true, false, List, [], ◌∷◌, map, Option, Some, None, refl, sym, ap, ◌∙◌, subst}
use Rattle.std.specs.Prelude.{bytes_eq}
use Rattle.std.specs.List.{slice_get, list_all}
use Rattle.std.proofs.lemmas.List.{length-map}
use Rattle.std.proofs.lemmas.Option.{slice_get-map}
use Rattle.std.proofs.lemmas.Bool.{and_parts, and_from}
use Rattle.qs_memory.specs.Values.{width}
use Rattle.qs_memory.specs.Scalars.{is_type, is_promoted}
use Rattle.qs_memory.specs.declared.scalar.Scalar.{Scalar}
use Rattle.qs_memory.specs.declared.scalar.Scalar.TheVariants as scalars
use Rattle.qs_calls.specs.Starts.{Signature, signature_of}
use Rattle.qs_calls.specs.declared.callee.Callee.{Callee}
use Rattle.qs_calls.specs.declared.callee.Callee.TheVariants as callees
use Rattle.qs_calls.specs.declared.parameter.Parameter.{Parameter}
use Rattle.qs_calls.specs.declared.parameter.Parameter.TheVariants.{Plain, Placed}
use Rattle.qs_core.specs.Trees.{stmts_of, CoreParameterTree, CoreVariableTree, CoreFunctionTree, CoreUnitTree}
use Rattle.qs_core.specs.Interfaces as core_interfaces
use Rattle.qs_core.specs.Fits as fits
use Rattle.qs_meaning.specs.Typed.{Function, TypedProgram, Object, local, static}
use Rattle.qs_meaning.specs.Interfaces as source_interfaces
use Rattle.qs_meaning.specs.Fits as source
use Rattle.qs_elaborate_bodies.specs.Expressions.{block_of}
use Rattle.qs_elaborate_bodies.specs.Names.{FunctionNames, VariableName}
use Rattle.qs_elaborate_bodies.specs.Units.{named_parameters, named_variables, end_of_body, body_core, function_core, no_names, functions_core, unit_core}
use Rattle.qs_elaborate_laws.specs.FitLaws.{are_first, IsNamed, AreNamed, is_main_function, CoreFits}
use Rattle.qs_elaborate_laws.proofs.FitParts.{same_from, same_types, list_append, extends_self}
use Rattle.qs_elaborate_laws.proofs.FitExpressions.{IsAlike}
use Rattle.qs_elaborate_laws.proofs.FitStatements.{statements_fit_too}
use Rattle.qs_elaborate_laws.proofs.FitData.{blocks_fit}
use Rattle.qs_elaborate_laws.proofs.Units.{places_are}

-- ---- variables and parameters

scalars_are : (names : List VariableName) (ss : List Scalar) → map (λ (v : CoreVariableTree). v.scalar) (named_variables names ss) ≡ ss
scalars_are names [] = refl
scalars_are [] (s ∷ ss) = ap (λ (rest : List Scalar). s ∷ rest) (scalars_are [] ss)
scalars_are (x ∷ names) (s ∷ ss) = ap (λ (rest : List Scalar). s ∷ rest) (scalars_are names ss)

types_kept : (ps : List CoreParameterTree) (vs : List CoreVariableTree) → core_interfaces.types_of ps vs ≡ source_interfaces.types_of (map (λ (p : CoreParameterTree). p.place) ps) (map (λ (v : CoreVariableTree). v.scalar) vs)
types_kept [] vs = refl
types_kept (p ∷ ps) [] = refl
types_kept (p ∷ ps) (v ∷ vs) = ap (λ (rest : List Scalar). v.scalar ∷ rest) (types_kept ps vs)

place_kept : (blocks : List ℕ) (i : ℕ) (s : Scalar) (p : Parameter) → source.place_fits blocks i s p ≡ true → fits.place_fits blocks i s p ≡ true
place_kept blocks i s (Plain x) h = h
place_kept blocks i s (Placed k t) h =
    let two = and_parts _ (source.is_size (slice_get blocks k) (width s)) h in
    let same : t ≡ s = same_types two.0 in
    and_from _ _ (same_from same) (subst (λ (w : Scalar). fits.is_room (slice_get blocks k) w ≡ true) (sym same) (room_kept (slice_get blocks k) s two.1))
  where
    room_kept : (o : Option ℕ) (s : Scalar) → source.is_size o (width s) ≡ true → fits.is_room o s ≡ true
    room_kept None s h = h
    room_kept (Some size) s h = h

parameters_kept : (blocks : List ℕ) (i : ℕ) (ps : List CoreParameterTree) (vs : List CoreVariableTree) → source.parameters_placed blocks i (map (λ (p : CoreParameterTree). p.place) ps) (map (λ (v : CoreVariableTree). v.scalar) vs) ≡ true → are_first ps vs ≡ true → fits.parameters_fit blocks i ps vs ≡ true
parameters_kept blocks i [] vs h k = refl
parameters_kept blocks i (p ∷ ps) [] h k = h
parameters_kept blocks i (p ∷ ps) (v ∷ vs) h k =
    let placed = and_parts (source.place_fits blocks i v.scalar p.place) _ h in
    let named = and_parts (bytes_eq p.name v.name && v.ordinal == 1) _ k in
    and_from _ _ (and_from _ _ named.0 (place_kept blocks i v.scalar p.place placed.0)) (parameters_kept blocks (i + 1) ps vs placed.1 named.1)

-- ---- signatures

signature_kept : (n : FunctionNames) (g : Function) → core_interfaces.signature (function_core n g) ≡ source_interfaces.signature g
signature_kept n g = ap (λ (types : List Scalar). record { parameters = types; result_type = g.result })
    (types_kept (named_parameters n.parameters g.parameters) (named_variables n.variables g.variables)
    ∙ ap (λ (ps : List Parameter). source_interfaces.types_of ps (map (λ (v : CoreVariableTree). v.scalar) (named_variables n.variables g.variables))) (places_are n.parameters g.parameters)
    ∙ ap (source_interfaces.types_of g.parameters) (scalars_are n.variables g.variables))

signatures_kept : (names : List FunctionNames) (gs : List Function) → map core_interfaces.signature (functions_core names gs) ≡ map source_interfaces.signature gs
signatures_kept names [] = refl
signatures_kept [] (g ∷ gs) = let first = signature_kept no_names g in let rest = signatures_kept [] gs in cc
signatures_kept (n ∷ names) (g ∷ gs) = let first = signature_kept n g in let rest = signatures_kept names gs in cc

module _ (names : List FunctionNames) (p : TypedProgram) (main : ℕ) where
  abbrev unit : CoreUnitTree
  unit = unit_core names p main

  callee_kept : (callee : Callee) → signature_of (core_interfaces.interface_of unit) callee ≡ signature_of (source_interfaces.interface_of p) callee
  callee_kept (callees.Function k) = ap (λ (signatures : List Signature). slice_get signatures k.0) (signatures_kept names p.functions)
  callee_kept callees.PutChar = refl
  callee_kept callees.GetChar = refl

  alike : (n : FunctionNames) (g : Function) → source.are_small g.blocks ≡ true → IsAlike unit (function_core n g) (source_interfaces.interface_of p) g
  alike n g small = record {
    variables = variable_kept;
    objects = object_kept;
    signatures = callee_kept;
    result = refl;
    small = small;
  }
    where
      variable_kept : (x : ℕ) (s : Scalar) → is_type (slice_get g.variables x) s ≡ true → is_type (core_interfaces.variable_type (function_core n g) x) s ≡ true
      variable_kept x s h =
          ap (λ (o : Option Scalar). is_type o s)
          (sym (slice_get-map (λ (v : CoreVariableTree). v.scalar) (named_variables n.variables g.variables) x)
          ∙ ap (λ (ss : List Scalar). slice_get ss x) (scalars_are n.variables g.variables))
          ∙ h

      object_kept : (o : Object) → source.object_there (source_interfaces.interface_of p) g o ≡ true → fits.block_fits unit (function_core n g) (block_of o) ≡ true
      object_kept (local k) h = h
      object_kept (static k) h =
          ap (λ (count : ℕ). nat_lt k count) (length-map p.blocks _ ∙ sym (length-map p.blocks source_interfaces.data_extent)) ∙ h

  -- ---- functions

  end_kept : (n : FunctionNames) (g : Function) (is_main : Bool) → (not is_main || is_type g.result scalars.Int) ≡ true → fits.stmts_fit unit (function_core n g) false false (stmts_of (end_of_body is_main)) ≡ true
  end_kept n g false h = refl
  end_kept n g true h = and_from _ _ (and_from _ _ refl h) refl

  function_fits : (n : FunctionNames) (g : Function) → IsNamed n g → source.function_fits (source_interfaces.interface_of p) g ≡ true → fits.function_fits unit (function_core n g) ≡ true
  function_fits n g named h =
      let placed = and_parts (source.parameters_placed g.blocks 0 g.parameters g.variables) _ h in
      let ends = and_parts (source.end_fits g) _ placed.1 in
      let body = and_parts (source.stmts_fit (source_interfaces.interface_of p) g false false g.body) _ ends.1 in
      let known = statements_fit_too unit (function_core n g) (source_interfaces.interface_of p) g (alike n g body.1) g.body false false body.0 [] in
      and_from _ _ (and_from _ _ (and_from _ _ (and_from _ _ (and_from _ _ named.own named.variables) named.different)
      (parameters_kept g.blocks 0 (named_parameters n.parameters g.parameters) (named_variables n.variables g.variables)
      (ap (λ (ps : List Parameter). source.parameters_placed g.blocks 0 ps (map (λ (v : CoreVariableTree). v.scalar) (named_variables n.variables g.variables))) (places_are n.parameters g.parameters)
      ∙ ap (source.parameters_placed g.blocks 0 g.parameters) (scalars_are n.variables g.variables) ∙ placed.0) named.parameters))
      (list_append unit (function_core n g) false false (body_core g).statements (end_of_body g.is_main) (known.statements (body_core g).temporaries extends_self) (end_kept n g g.is_main ends.0)))
      body.1

  functions_fit : (ns : List FunctionNames) (gs : List Function) → AreNamed ns gs → list_all (source.function_fits (source_interfaces.interface_of p)) gs ≡ true → list_all (fits.function_fits unit) (functions_core ns gs) ≡ true
  functions_fit ns [] named h = refl
  functions_fit [] (g ∷ gs) named h =
      let two = and_parts (source.function_fits (source_interfaces.interface_of p) g) _ h in and_from _ _ (function_fits no_names g named.0 two.0) (functions_fit [] gs named.1 two.1)
  functions_fit (n ∷ ns) (g ∷ gs) named h =
      let two = and_parts (source.function_fits (source_interfaces.interface_of p) g) _ h in and_from _ _ (function_fits n g named.0 two.0) (functions_fit ns gs named.1 two.1)

-- ---- the names of functions, and main

names_kept : (names : List FunctionNames) (gs : List Function) → map (λ (f : CoreFunctionTree). f.name) (functions_core names gs) ≡ map (λ (g : Function). g.name) gs
names_kept names [] = refl
names_kept [] (g ∷ gs) = ap (λ (rest : List (List ℕ)). g.name ∷ rest) (names_kept [] gs)
names_kept (n ∷ names) (g ∷ gs) = ap (λ (rest : List (List ℕ)). g.name ∷ rest) (names_kept names gs)

one_kept : (n : FunctionNames) (g : Function) → is_main_function (Some g) ≡ true → fits.is_main (Some (function_core n g)) ≡ true
one_kept n g h =
    let two = and_parts (bytes_eq g.name fits.main_name && is_type g.result scalars.Int) _ h in
    and_from _ _ two.0 (ap (λ (s : Signature). list_all is_promoted s.parameters) (signature_kept n g) ∙ two.1)

main_kept : (names : List FunctionNames) (gs : List Function) (k : ℕ) → is_main_function (slice_get gs k) ≡ true → fits.is_main (slice_get (functions_core names gs) k) ≡ true
main_kept names [] k h = h
main_kept [] (g ∷ gs) zero h = one_kept no_names g h
main_kept (n ∷ names) (g ∷ gs) zero h = one_kept n g h
main_kept [] (g ∷ gs) (suc k) h = main_kept [] gs k h
main_kept (n ∷ names) (g ∷ gs) (suc k) h = main_kept names gs k h

pub core_fits : CoreFits
core_fits names p main h named different is_main blocks =
    and_from _ _ (and_from _ _ (and_from _ _ (functions_fit names p main names p.functions named h)
    (ap (fits.differ bytes_eq) (names_kept names p.functions) ∙ different)) (main_kept names p.functions main is_main)) (blocks_fit names p main blocks)
