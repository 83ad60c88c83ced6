-- The typed tree of a function that breaks no rule fits.
use Rattle.std.proofs.Common.{◌≡◌, ◌⊎◌, inl, inr, ℕ, ◌+◌, nat_lt, Bool, true, false, not, ◌||◌, List, [], ◌∷◌, ◌++◌, length, Option, Some, None, is_some, refl, sym, ap, ◌∙◌, subst, arith, if◌then◌else◌}
use Rattle.std.specs.List.{list_all, slice_get}
use Rattle.std.proofs.lemmas.List.{length-append}
use Rattle.std.proofs.lemmas.Bool.{and_from}
use Rattle.std.specs.Cmp.{first_so, second_so}
use Rattle.std.proofs.lemmas.Option.{same_Some}
use Rattle.qs_base.specs.Bytes.{same_bytes}
use Rattle.qs_syntax.specs.Trees.{ParameterTree, FunctionTree, Stmts}
use Rattle.qs_syntax.specs.Nodes.{all_nodes, parameter_nodes, stmts_nodes}
use Rattle.qs_memory.specs.Scalars.{is_type}
use Rattle.qs_memory.proofs.ScalarLaws.{same_self}
use Rattle.qs_memory.specs.declared.scalar.Scalar.{Scalar}
use Rattle.qs_memory.specs.declared.scalar.Scalar.TheVariants as scalars
use Rattle.qs_memory.proofs.Options.{followed}
use Rattle.qs_calls.specs.declared.parameter.Parameter.{Parameter}
use Rattle.qs_calls.specs.Starts.{Interface}
use Rattle.qs_types.specs.Types.{TypeTree, int, unsigned, char, void, pointer, array, struct, is_scalar, Structs}
use Rattle.qs_types.specs.GivenFunctions.{main_name}
use Rattle.qs_types.specs.Rules.{keeps, breaks_one}
use Rattle.qs_types.specs.declared.rules.Rule.TheVariants as rules
use Rattle.qs_types.specs.Contexts.{Binding, Context, inner_scope}
use Rattle.qs_types.specs.StatementRules.{statements_faults}
use Rattle.qs_types.specs.UnitRules.{with_parameter, parameter_types, with_parameters, result_type, header_of, is_main_type, may_be, main_tests, result_tests, may_declare, parameters_faults, after_function, body_context, body_faults, function_faults}
use Rattle.qs_types.specs.Placed.{Local, is_one_of, is_placed, parameters_locals, statements_locals, addressed_in}
use Rattle.qs_types.specs.References.{TextBlock}
use Rattle.qs_types.specs.Sites.{statements_sites}
use Rattle.qs_meaning.specs.Typed.{pointer_to, variable, object, local}
use Rattle.qs_meaning.specs.Typed as typed_trees
use Rattle.qs_meaning.specs.Conversions.{scalar_of}
use Rattle.qs_meaning.specs.Names.{Locals, Scope, place_among, local_lvalue}
use Rattle.qs_meaning.specs.Units.{nodes_of, placed_among, plain_among, variables_among, parameters_in, scalars_of, parameter_typed, parameters_typed, result_scalar}
use Rattle.qs_meaning.specs.Fits.{lvalue_fits, parameters_placed, end_fits, stmts_fit, are_small, function_fits}
use Rattle.qs_meaning.specs.FitLaws.{are_different, statements_filled}
use Rattle.qs_meaning.specs.TypedLaws.{IsFileScope}
use Rattle.qs_meaning.proofs.Options.{never, nothing, Known}
use Rattle.qs_meaning.proofs.FaultlessExpressions.{none_right, second_unbroken}
use Rattle.qs_meaning.proofs.TypedExpressions.{kept}
use Rattle.qs_meaning.proofs.Functions.{all_scalar, same_result, same_structs_with}
use Rattle.qs_meaning.proofs.UnitsTyped.{header_parts, header_unbroken, header_result, header_scalar}
use Rattle.qs_meaning.proofs.FitTypes.{SmallTable, SmallNames}
use Rattle.qs_meaning.proofs.FitLeaves.{is_short, places, AllFit}
use Rattle.qs_meaning.proofs.FitInitialisers.{LocalPlace, in_variable, in_block, site_sure}
use Rattle.qs_meaning.proofs.FitStatements.{LocalIs, LocalsAre, InBody, statements_there}
use Rattle.qs_meaning.proofs.FitLocals.{sub_same, sub_append, sub_map, sub_filter, sub_different, In, in_left, in_right, in_either, in_filter, node_in, not_among, scalar_at, SizeAt, size_at, below_length, place_behind, ids, among_both, parameters_among, statements_among, SmallLocals, small_both, statements_small}
use Rattle.qs_meaning.proofs.FitFunctions.{AllFile, all_in_function, parameters_small, with_parameters_named, small_in, sizes_small, in_filtered, parameter_place, variable_place, locals_in, Made}

module _ (i : Interface) (called : List ℕ → Bool) (there : TextBlock → Bool) (s : Scope)
    (short : (t : TextBlock) → there t ≡ true → is_short t ≡ true)
    (blocks : (t : TextBlock) → there t ≡ true → nat_lt (length s.statics.variables + place_among t.node s.statics.texts) (length i.data_blocks) ≡ true)
    (h : IsFileScope s.context) (table : SmallTable s.context.structs) (small_names : SmallNames s.context.structs s.context.type_names) (flat : (s.context.in_loop || s.context.in_switch) ≡ false)
    (f : FunctionTree) (body : Stmts) (faultless : function_faults s.context f ≡ []) (with_body : f.body ≡ Some body)
    (names : AllFile i called s.statics s.functions s.context.structs ((after_function s.context f).inner ++ (after_function s.context f).outer))
    (different : are_different (ids (all_nodes parameter_nodes f.parameters ++ stmts_nodes body)) ≡ true)
    (sure : list_all (site_sure called there) (statements_sites (body_context s.context f) body) ≡ true)
    (filled : statements_filled body ≡ true)
    (g : typed_trees.Function) (made : Made s f body g) where
  abbrev c : Context
  c = s.context

  abbrev structs : Structs
  structs = s.context.structs

  abbrev types : List (Option TypeTree)
  types = parameter_types (inner_scope c) f.parameters

  abbrev parameters : List Local
  parameters = parameters_in c f

  abbrev in_statements : List Local
  in_statements = statements_locals (body_context c f) body

  abbrev all : List Local
  all = parameters ++ in_statements

  abbrev operands : List ℕ
  operands = addressed_in c f body

  abbrev locals : Locals
  locals = locals_in s f body

  abbrev s₀ : Scope
  s₀ = record s { locals = locals }

  blocks_are : g.blocks ≡ made.sizes
  blocks_are = ap (λ (z : typed_trees.Function). z.blocks) made.is

  variables_are : g.variables ≡ made.scalars
  variables_are = ap (λ (z : typed_trees.Function). z.variables) made.is

  result_is : g.result ≡ result_scalar (result_type c f)
  result_is = ap (λ (z : typed_trees.Function). z.result) made.is

  -- ---- locals

  all_different : are_different (nodes_of all) ≡ true
  all_different = sub_different (among_both parameters in_statements (all_nodes parameter_nodes f.parameters) (stmts_nodes body)
      (parameters_among f.parameters types) (statements_among body (body_context c f))) different

  abbrev variable_locals : List Local
  variable_locals = variables_among operands parameters in_statements

  variables_different : are_different (nodes_of variable_locals) ≡ true
  variables_different = sub_different (sub_map (λ (l : Local). l.node) (sub_append (sub_same parameters) (sub_filter (λ (l : Local). not (is_placed operands l)) in_statements)))
      all_different

  placed_different : are_different (nodes_of (placed_among operands all)) ≡ true
  placed_different = sub_different (sub_map (λ (l : Local). l.node) (sub_filter (is_placed operands) all)) all_different

  abbrev Is : ℕ → TypeTree → Type 0
  Is node t = LocalIs i g called there s₀ structs table short blocks node t

  local_is : (l : Local) → In l all → (t : TypeTree) → l.type ≡ Some t → Is l.node t
  local_is l m t e = go (is_placed operands l) refl
    where
      k : ℕ
      k = place_among l.node locals.placed

      x : ℕ
      x = place_among l.node locals.variables

      as_block : (b : Bool) → b ≡ true → SizeAt structs made.sizes (place_among l.node locals.placed) t
          → (lvalue_fits i g (scalar_of t) (if b then object (pointer_to (local (place_among l.node locals.placed))) else variable (place_among l.node locals.variables)) ≡ true)
          × LocalPlace structs g t (if b then object (pointer_to (local (place_among l.node locals.placed))) else variable (place_among l.node locals.variables))
      as_block false p at = never p
      as_block true p at = (
        and_from _ _ (subst (λ z. nat_lt (place_among l.node locals.placed) (length z) ≡ true) (sym blocks_are)
            (below_length made.sizes (place_among l.node locals.placed) at.size at.stands)) refl,
        in_block (place_among l.node locals.placed) (ap (λ z. slice_get z (place_among l.node locals.placed)) blocks_are ∙ (at.stands ∙ sym at.is)),
      )

      as_variable : (b : Bool) → b ≡ false → slice_get made.scalars (place_among l.node locals.variables) ≡ Some (scalar_of t)
          → (lvalue_fits i g (scalar_of t) (if b then object (pointer_to (local (place_among l.node locals.placed))) else variable (place_among l.node locals.variables)) ≡ true)
          × LocalPlace structs g t (if b then object (pointer_to (local (place_among l.node locals.placed))) else variable (place_among l.node locals.variables))
      as_variable true p at = never (sym p)
      as_variable false p at = (
        subst (λ o. is_type o (scalar_of t) ≡ true) (sym (ap (λ z. slice_get z (place_among l.node locals.variables)) variables_are ∙ at)) (same_self (scalar_of t)),
        in_variable (place_among l.node locals.variables),
      )

      not_true : (b : Bool) → b ≡ false → not b ≡ true
      not_true true p = sym p
      not_true false p = refl

      among_variables : is_placed operands l ≡ false → In l parameters ⊎ In l in_statements → In l variable_locals
      among_variables p (inl n) = in_left l parameters (plain_among operands in_statements) n
      among_variables p (inr n) = in_right l parameters (plain_among operands in_statements)
          (in_filter (λ (l : Local). not (is_placed operands l)) l in_statements (not_true (is_placed operands l) p) n)

      go : (b : Bool) → is_placed operands l ≡ b → Is l.node t
      go true p =
          let n = in_filter (is_placed operands) l all p m in
          let r = as_block (is_one_of l.node locals.placed) (node_in l (placed_among operands all) n)
          (size_at structs (placed_among operands all) made.sizes l t made.of_blocks placed_different n e) in
          record { fits = r.0; place = r.1 }
      go false p =
          let r = as_variable (is_one_of l.node locals.placed) (not_among (is_placed operands) l all all_different m p)
          (scalar_at variable_locals made.scalars l t made.of_variables variables_different (among_variables p (in_either l parameters in_statements m)) e) in
          record { fits = r.0; place = r.1 }

  abbrev Are : List Local → Type 0
  Are ls = LocalsAre i g called there s₀ structs table short blocks ls

  locals_are : (ls : List Local) → ((l : Local) → In l ls → In l all) → Are ls
  locals_are [] k = tt
  locals_are (l ∷ ls) k = (λ t e. local_is l (k l (inl refl)) t e, locals_are ls (λ m n. k m (inr n)))

  parameters_are : Are parameters
  parameters_are = locals_are parameters (λ l n. in_left l parameters in_statements n)

  statements_are : Are in_statements
  statements_are = locals_are in_statements (λ l n. in_right l parameters in_statements n)

  -- ---- the types of the parameters

  scalar : all_scalar types ≡ true
  scalar = header_scalar s c f h faultless

  body_structs : (body_context c f).structs ≡ structs
  body_structs = same_structs_with f.parameters types (record (inner_scope (after_function c f)) { result = result_type c f })

  small_parameters : SmallLocals structs parameters
  small_parameters = parameters_small f.parameters (inner_scope c) small_names

  body_named : SmallNames (body_context c f).structs (body_context c f).type_names
  body_named = with_parameters_named f.parameters types (record (inner_scope (after_function c f)) { result = result_type c f }) small_names

  small_all : SmallLocals structs all
  small_all = small_both structs parameters in_statements small_parameters
      (subst (λ z. SmallLocals z in_statements) body_structs (statements_small body (body_context c f) body_named filled))

  sizes_are_small : are_small made.sizes ≡ true
  sizes_are_small = sizes_small structs table (placed_among operands all) made.sizes
      (λ l m t e. small_in structs all l small_all (in_filtered (is_placed operands) l all m) t e) made.of_blocks

  -- ---- the body

  abbrev Fit : List Binding → Type 0
  Fit bs = AllFit i g called (places s₀) structs bs

  with_names : (ps : List ParameterTree) (ts : List (Option TypeTree)) (d : Context) → Fit (d.inner ++ d.outer) → Are (parameters_locals ps ts)
      → SmallLocals structs (parameters_locals ps ts) → all_scalar ts ≡ true → Fit ((with_parameters d ps ts).inner ++ (with_parameters d ps ts).outer)
  with_names [] ts d k l m n = k
  with_names (p ∷ ps) [] d k l m n = k
  with_names (p ∷ ps) (None ∷ ts) d k l m n = never n
  with_names (p ∷ ps) (Some t ∷ ts) d k l m n = with_names ps ts (with_parameter d p (Some t) p.name) (named p.name) l.1 m.1 (second_so (is_scalar t) _ n)
    where
      named : (x : Option (List ℕ)) → Fit ((with_parameter d p (Some t) x).inner ++ (with_parameter d p (Some t) x).outer)
      named None = k
      named (Some x) = ((((l.0 t refl).fits), m.0 t refl), k)

  abbrev may_break : Context → Bool
  may_break d = d.in_loop || d.in_switch

  with_jumps : (ps : List ParameterTree) (ts : List (Option TypeTree)) (d : Context) → may_break (with_parameters d ps ts) ≡ may_break d
  with_jumps [] ts d = refl
  with_jumps (p ∷ ps) [] d = refl
  with_jumps (p ∷ ps) (t ∷ ts) d = with_jumps ps ts (with_parameter d p t p.name) ∙ one p.name
    where
      one : (x : Option (List ℕ)) → may_break (with_parameter d p t x) ≡ may_break d
      one None = refl
      one (Some x) = refl

  no_jump : may_break (body_context c f) ≡ false
  no_jump = with_jumps f.parameters types (record (inner_scope (after_function c f)) { result = result_type c f }) ∙ flat

  in_body_there : InBody i g called there s₀ structs table short blocks false false (body_context c f)
  in_body_there = record {
    same_structs = body_structs;
    names = with_names f.parameters types (record (inner_scope (after_function c f)) { result = result_type c f })
        (all_in_function i g called (places s₀) structs ((after_function c f).inner ++ (after_function c f).outer) names) parameters_are small_parameters scalar;
    result = λ t e. result_is ∙ ap result_scalar (sym (same_result f.parameters types (record (inner_scope (after_function c f)) { result = result_type c f })) ∙ e);
    named = subst (λ z. SmallNames z (body_context c f).type_names) body_structs body_named;
    loop = λ e. never (sym (no_loop (body_context c f).in_loop (body_context c f).in_switch no_jump) ∙ e);
    breaks = λ e. never (sym no_jump ∙ e);
  }
    where
      no_loop : (l s : Bool) → (l || s) ≡ false → l ≡ false
      no_loop true s e = e
      no_loop false s e = refl

  body_faultless : statements_faults (body_context c f) body ≡ []
  body_faultless = subst (λ o. body_faults c f o ≡ []) with_body (none_right (parameters_faults (inner_scope c) (is_some f.body) f.parameters) _ (header_parts s c f h faultless))

  body_fits : stmts_fit i g false false made.statements ≡ true
  body_fits = statements_there i g called there s₀ structs table short blocks body false false (body_context c f) made.statements in_body_there body_faultless sure statements_are filled
      made.typed_body

  -- ---- parameters and result

  plus_one : (k : ℕ) (front : List ℕ) (n : ℕ) → k ≡ length front → k + 1 ≡ length (front ++ n ∷ [])
  plus_one k front n e = let a = length-append front (n ∷ []) in omega arith

  again : (front : List ℕ) (n : ℕ) (ns : List ℕ) → front ++ n ∷ ns ≡ (front ++ n ∷ []) ++ ns
  again [] n ns = refl
  again (m ∷ front) n ns = ap (λ z. m ∷ z) (again front n ns)

  -- from the parameter number k on
  parameters_there : (ps : List ParameterTree) (ts : List (Option TypeTree)) (rest : List Local) (params : List Parameter) (scs : List Scalar) (k : ℕ) (front : List ℕ)
      → k ≡ length front → locals.variables ≡ front ++ nodes_of (parameters_locals ps ts ++ rest) → all_scalar ts ≡ true → Are (parameters_locals ps ts)
      → scalars_of (parameters_locals ps ts ++ rest) ≡ Some scs → parameters_typed locals ps ts ≡ Some params → parameters_placed g.blocks k params scs ≡ true
  parameters_there [] [] rest params scs k front e v s l a b = subst (λ z. parameters_placed g.blocks k z scs ≡ true) (same_Some _ params b) refl
  parameters_there [] (t ∷ ts) rest params scs k front e v s l a b = nothing params b
  parameters_there (p ∷ ps) [] rest params scs k front e v s l a b = nothing params b
  parameters_there (p ∷ ps) (None ∷ ts) rest params scs k front e v s l a b = never s
  parameters_there (p ∷ ps) (Some t ∷ ts) rest params scs k front e v s l a b =
      let x = followed (parameter_typed locals p (Some t)) _ params b in
      let xs = followed (parameters_typed locals ps ts) _ params x.then in
      let later = followed (scalars_of (parameters_locals ps ts ++ rest)) _ scs a in
      let here = parameter_place structs g t k (local_lvalue locals p.node.id) x.value (l.0 t refl).place
      (λ y q. variable_place locals p.node.id y q ∙ (ap (place_among p.node.id) v
      ∙ (place_behind front p.node.id (nodes_of (parameters_locals ps ts ++ rest)) (subst (λ z. are_different z ≡ true) v variables_different) ∙ sym e)))
      (first_so _ _ s) x.first in
      subst (λ z. parameters_placed g.blocks k z scs ≡ true) (same_Some _ params xs.then)
      (subst (λ z. parameters_placed g.blocks k (x.value ∷ xs.value) z ≡ true) (same_Some _ scs later.then)
      (and_from _ _ here (parameters_there ps ts rest xs.value later.value (k + 1) (front ++ p.node.id ∷ []) (plus_one k front p.node.id e)
      (v ∙ again front p.node.id (nodes_of (parameters_locals ps ts ++ rest))) (second_so (is_scalar t) _ s) l.1 later.first xs.first)))

  -- 5.1.2.2.1
  main_there : (not (same_bytes f.name main_name) || is_type (result_scalar (result_type c f)) scalars.Int) ≡ true
  main_there = go (same_bytes f.name main_name) (second_unbroken (result_tests c f) (main_tests f (header_of c f))
      (second_unbroken (keeps rules.DeclaredTwice (may_declare c f)) (result_tests c f ++ main_tests f (header_of c f)) (header_unbroken s c f h faultless)))
    where
      int_result : (o : Option TypeTree) → Known o → may_be int o ≡ true → is_type (result_scalar o) scalars.Int ≡ true
      int_result None k e = nothing k.value k.is
      int_result (Some int) k e = refl
      int_result (Some unsigned) k e = never e
      int_result (Some char) k e = never e
      int_result (Some void) k e = never e
      int_result (Some (pointer t)) k e = never e
      int_result (Some (array t n)) k e = never e
      int_result (Some (struct n)) k e = never e

      go : (b : Bool) → breaks_one (if b then keeps rules.MainType (is_main_type (header_of c f)) else []) ≡ false
          → (not b || is_type (result_scalar (result_type c f)) scalars.Int) ≡ true
      go false e = refl
      go true e = int_result (result_type c f) (header_result s c f h faultless) (first_so _ _ (kept _ e))

  pub function_there : function_fits i g ≡ true
  function_there =
      and_from _ _ (subst (λ (z : typed_trees.Function). parameters_placed g.blocks 0 z.parameters z.variables ≡ true) (sym made.is)
      (parameters_there f.parameters types (plain_among operands in_statements) made.parameters made.scalars 0 [] refl refl scalar parameters_are made.of_variables made.typed_parameters))
      (and_from _ _ (subst (λ (z : typed_trees.Function). end_fits z ≡ true) (sym made.is) main_there)
      (and_from _ _ (subst (λ (z : typed_trees.Function). stmts_fit i g false false z.body ≡ true) (sym made.is) body_fits)
      (subst (λ z. are_small z ≡ true) (sym blocks_are) sizes_are_small)))
