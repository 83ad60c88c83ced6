-- The typed tree of a well typed unit fits.
use Rattle.std.proofs.Common.{◌≡◌, ◌<◌, ℕ, ◌+◌, nat_lt, ◌==◌, Bool, true, false, not, ◌&&◌, ◌||◌, List, [], ◌∷◌, ◌++◌, length, map, Option, Some, None, is_some, refl, sym, ap, ◌∙◌, subst, arith, if◌then◌else◌}
use Rattle.std.specs.List.{list_all}
use Rattle.std.proofs.lemmas.Bool.{eq-eqb, and_from}
use Rattle.std.proofs.lemmas.Bool.Decides.{nat_tests}
use Rattle.std.proofs.lemmas.List.{map-append, length-append, length-map}
use Rattle.std.proofs.lemmas.List.Folds.{list_all-append}
use Rattle.std.specs.Cmp.{first_so, second_so}
use Rattle.std.proofs.lemmas.Option.{same_Some}
use Rattle.qs_base.specs.Bytes.{same_bytes}
use Rattle.qs_base.proofs.ByteLaws.{bytes_exact}
use Rattle.qs_syntax.specs.declared.nodes.Node.{Node}
use Rattle.qs_syntax.specs.declared.types.Base.{Base}
use Rattle.qs_syntax.specs.Trees.{VariableTree, FunctionTree, Stmts, DeclTree, structure, forward, function, variables, UnitTree, typedef}
use Rattle.qs_syntax.specs.Nodes.{all_nodes, option_nodes, parameter_nodes, stmts_nodes, decl_nodes, unit_nodes}
use Rattle.qs_memory.proofs.Options.{followed}
use Rattle.qs_calls.specs.declared.callee.Callee.TheVariants as callees
use Rattle.qs_calls.specs.Starts.{Interface, signature_of}
use Rattle.qs_types.specs.Types.{TypeTree, Structs}
use Rattle.qs_types.specs.Layout.{and_then}
use Rattle.qs_types.specs.GivenFunctions.{Signature, putchar_name, putchar_type, getchar_name, getchar_type}
use Rattle.qs_types.specs.Contexts.{Entity, local_variable, file_variable, given, Binding, Context, start_context, lookup, inner_scope, starred_type}
use Rattle.qs_types.specs.Contexts as contexts
use Rattle.qs_types.specs.Declarations.{variable_declared}
use Rattle.qs_types.specs.Expressions.{type_or_void}
use Rattle.qs_types.specs.StatementRules.{after_variable, after_variables, variable_faults, variables_faults}
use Rattle.qs_types.specs.UnitRules.{with_tag, after_struct, is_void_pointer, result_type, header_of, all_of, signature_by, declared_function, after_function, body_context, function_faults, after_declaration, declaration_faults, declarations_faults, context_after, after_typedef}
use Rattle.qs_types.specs.Placed.{is_one_of, statements_locals, addressed_in}
use Rattle.qs_types.specs.References.{TextBlock, literal_blocks, unit_calls}
use Rattle.qs_types.specs.Sites.{Site, parameters_sites, body_sites, declaration_sites, declarations_sites}
use Rattle.qs_types.specs.Limits.{IsWithinLimits}
use Rattle.qs_types.specs.WellTyped.{entity_has_body, entity_runs, runs, undefined_from, WellTyped}
use Rattle.qs_meaning.specs.Typed.{Function, StaticBlock, TypedProgram}
use Rattle.qs_meaning.specs.Names.{Statics, Scope, within, place_among, function_number}
use Rattle.qs_meaning.specs.InitialValues.{text_block}
use Rattle.qs_meaning.specs.Interfaces.{data_extent, interface_of}
use Rattle.qs_meaning.specs.Units.{parameters_in, function_with, function_typed, file_variable_typed, file_variables_typed, declaration_typed, declarations_typed, file_variables_in, start_scope}
use Rattle.qs_meaning.specs.Fits.{function_fits, program_fits}
use Rattle.qs_meaning.specs.FitLaws.{are_different, is_filled, variables_filled, body_filled, declaration_filled, IsAsRead, TypedUnitsFit}
use Rattle.qs_meaning.specs.TypedLaws.{IsFileScope}
use Rattle.qs_meaning.proofs.Options.{never, nothing, all_left, all_right, went, Known}
use Rattle.qs_meaning.proofs.FaultlessExpressions.{none_left, none_right}
use Rattle.qs_meaning.proofs.InitialMemory.{placed_below, declarations_count}
use Rattle.qs_meaning.proofs.UnitsTyped.{header_signature, start_known}
use Rattle.qs_meaning.proofs.FitTypes.{is_small, SmallTable, SmallNames}
use Rattle.qs_meaning.proofs.FitLeaves.{is_short, scalar_signature}
use Rattle.qs_meaning.proofs.FitSmall.{starred_small}
use Rattle.qs_meaning.proofs.FitInitialisers.{site_sure}
use Rattle.qs_meaning.proofs.FitDeclarations.{variable_small}
use Rattle.qs_meaning.proofs.FitLocals.{sub_front, sub_back, sub_same, sub_different, ids}
use Rattle.qs_meaning.proofs.FitFunctions.{FileFits, AllFile, made}
use Rattle.qs_meaning.proofs.FitBodies.{function_there}
use Rattle.qs_meaning.proofs.FitTables.{After, tag_after, struct_after, typedef_after}
use Rattle.qs_meaning.proofs.FitSignatures.{file_after, variable_after, Declared, persists, found}
use Rattle.qs_meaning.proofs.FitSites.{calls_in, text_in, nodes_of, unit_sure}

-- ---- nodes of parts

front_different : (xs ys : List Node) → are_different (ids (xs ++ ys)) ≡ true → are_different (ids xs) ≡ true
front_different xs ys d = sub_different (sub_front (ids ys) (sub_same (ids xs))) (subst (λ z. are_different z ≡ true) (map-append (λ (n : Node). n.id) xs ys) d)

back_different : (xs ys : List Node) → are_different (ids (xs ++ ys)) ≡ true → are_different (ids ys) ≡ true
back_different xs ys d = sub_different (sub_back (ids xs) (sub_same (ids ys))) (subst (λ z. are_different z ≡ true) (map-append (λ (n : Node). n.id) xs ys) d)

-- ---- names

lookup_front : (x : List ℕ) (xs ys : List Binding) (e : Entity) → lookup x xs ≡ Some e → lookup x (xs ++ ys) ≡ Some e
lookup_front x [] ys e h = nothing e h
lookup_front x (b ∷ xs) ys e h = go (same_bytes b.name x) (λ k. lookup_front x xs ys e k) h
  where
    go : (c : Bool) → (lookup x xs ≡ Some e → lookup x (xs ++ ys) ≡ Some e) → (if c then Some b.entity else lookup x xs) ≡ Some e
        → (if c then Some b.entity else lookup x (xs ++ ys)) ≡ Some e
    go true later h = h
    go false later h = later h

module _ (i : Interface) (called : List ℕ → Bool) (statics : Statics) (functions : List (List ℕ)) where
  file_found : (structs : Structs) (bs : List Binding) (x : List ℕ) (e : Entity) → AllFile i called statics functions structs bs → lookup x bs ≡ Some e
      → FileFits i called statics functions structs x e
  file_found structs [] x e h p = nothing e p
  file_found structs (b ∷ bs) x e h p = go (λ q. file_found structs bs x e h.1 q) (same_bytes b.name x) refl p
    where
      go : (lookup x bs ≡ Some e → FileFits i called statics functions structs x e) → (c : Bool) → same_bytes b.name x ≡ c → (if c then Some b.entity else lookup x bs) ≡ Some e
          → FileFits i called statics functions structs x e
      go later true n p =
          subst (λ z. FileFits i called statics functions structs x z) (same_Some _ _ p)
          (subst (λ z. FileFits i called statics functions structs z b.entity) ((bytes_exact b.name x).0 n) h.0)
      go later false n p = later p

  entity_grows : (structs more : Structs) → ((t : TypeTree) → is_small structs t ≡ true → is_small more t ≡ true) → (x : List ℕ) (e : Entity)
      → FileFits i called statics functions structs x e → FileFits i called statics functions more x e
  entity_grows structs more g x (local_variable node t) h = absurd h
  entity_grows structs more g x (file_variable node None) h = absurd h
  entity_grows structs more g x (file_variable node (Some t)) h = (h.0, g t h.1)
  entity_grows structs more g x (contexts.function node None body) h = absurd h
  entity_grows structs more g x (contexts.function node (Some s) body) h = (h.0, g s.result h.1)
  entity_grows structs more g x (given s) h = (h.0, g s.result h.1)

  names_grow : (structs more : Structs) → ((t : TypeTree) → is_small structs t ≡ true → is_small more t ≡ true) → (bs : List Binding)
      → AllFile i called statics functions structs bs → AllFile i called statics functions more bs
  names_grow structs more g [] h = tt
  names_grow structs more g (b ∷ bs) h = (entity_grows structs more g b.name b.entity h.0, names_grow structs more g bs h.1)

result_small : (c : Context) → SmallNames c.structs c.type_names → (f : FunctionTree) (t : TypeTree) → result_type c f ≡ Some t → is_small c.structs t ≡ true
result_small c named f t e = go (is_void_pointer f) e
  where
    go : (b : Bool) → (if b then None else starred_type c f.result_type.base f.result_type.stars) ≡ Some t → is_small c.structs t ≡ true
    go true e = nothing t e
    go false e = subst (λ o. is_small c.structs (type_or_void o) ≡ true) e (starred_small c named f.result_type.base f.result_type.stars)

signature_small : (c : Context) → SmallNames c.structs c.type_names → (f : FunctionTree) (s : Signature) → signature_by (header_of c f) ≡ Some s → is_small c.structs s.result ≡ true
signature_small c named f s e =
    let us = went (all_of (header_of c f).parameters) (λ ts. and_then (result_type c f) (λ t. Some (record { parameters = ts; result = t }))) s e in
    let t = went (result_type c f) (λ t. Some (record { parameters = us.value; result = t })) s us.gave in
    subst (λ (z : Signature). is_small c.structs z.result ≡ true) (same_Some _ s t.gave) (result_small c named f t.value t.had)

-- ---- a unit

module _ (unit : UnitTree) (program : TypedProgram) (typed : declarations_typed (start_scope unit) unit ≡ Some program) (read : IsAsRead unit) (well : WellTyped unit)
    (limits : IsWithinLimits unit) where
  abbrev s₀ : Scope
  s₀ = start_scope unit

  abbrev i : Interface
  i = interface_of (record program { blocks = program.blocks ++ map text_block (literal_blocks unit) })

  abbrev nodes : List ℕ
  nodes = file_variables_in unit

  abbrev texts : List ℕ
  texts = nodes_of (literal_blocks unit)

  abbrev called : List ℕ → Bool
  called = calls_in (unit_calls unit)

  abbrev there : TextBlock → Bool
  there = text_in texts

  data_count : length i.data_blocks ≡ length nodes + length texts
  data_count =
      length-map (program.blocks ++ map text_block (literal_blocks unit)) data_extent ∙ (length-append program.blocks (map text_block (literal_blocks unit))
      ∙ (λ j. declarations_count s₀ unit program typed j
      + (length-map (literal_blocks unit) text_block ∙ sym (length-map (literal_blocks unit) (λ (t : TextBlock). t.node))) j))

  short : (t : TextBlock) → there t ≡ true → is_short t ≡ true
  short t h = second_so (is_one_of t.node texts) _ h

  text_blocks : (t : TextBlock) → there t ≡ true → nat_lt (length nodes + place_among t.node texts) (length i.data_blocks) ≡ true
  text_blocks t h =
      let below = placed_below t.node texts (first_so _ _ h) in
      subst (λ z. nat_lt (length nodes + place_among t.node texts) z ≡ true) (sym data_count) (less (length nodes) (place_among t.node texts) (length texts) below)
    where
      less : (a b c : ℕ) → b < c → nat_lt (a + b) (a + c) ≡ true
      less a b c h = grind (arith, nat_tests)

  variable_blocks : (n : ℕ) → is_one_of n nodes ≡ true → nat_lt (place_among n nodes) (length i.data_blocks) ≡ true
  variable_blocks n h =
      let below = placed_below n nodes h in
      subst (λ z. nat_lt (place_among n nodes) z ≡ true) (sym data_count) (less (place_among n nodes) (length nodes) (length texts) below)
    where
      less : (a b c : ℕ) → a < b → nat_lt a (b + c) ≡ true
      less a b c h = grind (arith, nat_tests)

  abbrev are_sure : List Site → Bool
  are_sure ss = list_all (site_sure called there) ss

  abbrev Names : Structs → List Binding → Type 0
  Names structs bs = AllFile i called s₀.statics s₀.functions structs bs

  abbrev NameFits : Structs → List ℕ → Entity → Type 0
  NameFits structs x e = FileFits i called s₀.statics s₀.functions structs x e

  -- a place at file scope
  record AtFile (c : Context) : Type 0 where
    scope : IsFileScope c
    table : SmallTable c.structs
    names : Names c.structs (c.inner ++ c.outer)
    flat : (c.in_loop || c.in_switch) ≡ false
    named : SmallNames c.structs c.type_names

  start_there : AtFile start_context
  start_there = record {
    scope = start_known;
    table = record { members = λ k ms e. nothing ms e; sizes = λ k l e. nothing l e };
    names = ((refl, refl), ((refl, refl), tt));
    flat = refl;
    named = record { each = λ x t e. nothing t e };
  }

  behind_structs : (c d : Context) → After c d → IsFileScope d → AtFile c → AtFile d
  behind_structs c d a scope h = record {
    scope = scope;
    table = a.table;
    names = subst (λ z. Names d.structs z) (λ j. sym a.inner j ++ sym a.outer j) (names_grow i called s₀.statics s₀.functions c.structs d.structs a.grows (c.inner ++ c.outer) h.names);
    flat = a.jumps ∙ h.flat;
    named = a.named h.named;
  }

  -- ---- variables of file scope

  variables_there : (vs : List VariableTree) (c : Context) (base : Base) (bs : List StaticBlock) → AtFile c → variables_faults true c base vs ≡ [] → variables_filled vs ≡ true
      → list_all (λ n. is_one_of n nodes) (map (λ (v : VariableTree). v.declarator.node.id) vs) ≡ true → file_variables_typed (within s₀ c) base vs ≡ Some bs
      → AtFile (after_variables true c base vs)
  variables_there [] c base bs h f filled listed q = h
  variables_there (v ∷ vs) c base bs h f filled listed q =
      let after = after_variable true c base v in
      let now = followed (file_variable_typed (within s₀ c) base v) _ bs q in
      let later = followed (file_variables_typed (within s₀ after) base vs) _ bs now.then in
      let t = followed (variable_declared c base v).type _ now.value now.first in
      let own = none_left (variable_faults true c after base v) (variables_faults true after base vs) f in
      variables_there vs after base later.value (record {
        scope = variable_after s₀ c base v h.scope own;
        table = h.table;
        names = (
          subst (λ o. NameFits c.structs v.declarator.name (file_variable v.declarator.node.id o)) (sym t.first)
              (variable_blocks v.declarator.node.id (first_so _ _ listed), (variable_small c h.named base v t.value (first_so _ _ filled) t.first).small),
          h.names,
        );
        flat = h.flat;
        named = h.named;
      }) (none_right (variable_faults true c after base v) (variables_faults true after base vs) f) (second_so (is_filled v.initialiser) _ filled)
      (second_so (is_one_of v.declarator.node.id nodes) _ listed) later.first

  -- ---- functions

  no_body_before : (x : List ℕ) → entity_has_body (lookup x start_context.inner) ≡ false
  no_body_before x = go (same_bytes putchar_name x) (same_bytes getchar_name x)
    where
      go : (a b : Bool) → entity_has_body (if a then Some (given putchar_type) else (if b then Some (given getchar_type) else None)) ≡ false
      go true b = refl
      go false true = refl
      go false false = refl

  -- a function that is called has a body, so its signature is among those of the unit
  function_known : (x : List ℕ) (s : Signature) → Declared (context_after start_context unit) x s → (called x ≡ true → runs unit x ≡ true)
      → called x ≡ true → signature_of i (callees.Function (record { 0 = function_number x s₀.functions })) ≡ Some (scalar_signature s)
  function_known x s d runs_if is_called =
      let end = context_after start_context unit in
      let e = lookup_front x end.inner end.outer (contexts.function d.node (Some s) d.body) d.is in
      let body = sym (ap entity_runs e) ∙ runs_if is_called in
      found s₀ x s unit start_context program start_known well.keeps_rules typed d.node (d.is ∙ ap (λ b. Some (contexts.function d.node (Some s) b)) body) (no_body_before x)

  not_undefined : (f : FunctionTree) (ds : UnitTree) → undefined_from (runs unit) (unit_calls unit) (function f ∷ ds) ≡ None
      → (called f.name ≡ true → runs unit f.name ≡ true) × (undefined_from (runs unit) (unit_calls unit) ds ≡ None)
  not_undefined f ds e = go (called f.name) (runs unit f.name) e
    where
      no : (n : ℕ) → Some n ≡ None → false ≡ true
      no n e = cc

      go : (a b : Bool) → (if a && not b then Some f.node.id else undefined_from (runs unit) (unit_calls unit) ds) ≡ None
          → (a ≡ true → b ≡ true) × (undefined_from (runs unit) (unit_calls unit) ds ≡ None)
      go true true e = ((λ h. refl), e)
      go true false e = never (no f.node.id e)
      go false b e = ((λ h. never h), e)

  -- the name that a header declares
  header_fits : (c : Context) (f : FunctionTree) (ds : UnitTree) → AtFile c → function_faults c f ≡ [] → declarations_faults (after_function c f) ds ≡ []
      → context_after (after_function c f) ds ≡ context_after start_context unit → (called f.name ≡ true → runs unit f.name ≡ true)
      → NameFits c.structs f.name (declared_function (lookup f.name c.inner) f.node.id (signature_by (header_of c f)) (is_some f.body))
  header_fits c f ds h own faults end runs_if = go (lookup f.name c.inner) refl
    where
      sig : Known (signature_by (header_of c f))
      sig = header_signature s₀ c f h.scope own

      a_function : (b : Bool) → declared_function (lookup f.name c.inner) f.node.id (signature_by (header_of c f)) (is_some f.body) ≡ contexts.function f.node.id (Some sig.value) b
          → NameFits c.structs f.name (declared_function (lookup f.name c.inner) f.node.id (signature_by (header_of c f)) (is_some f.body))
      a_function b e =
          let here : Declared (after_function c f) f.name sig.value = record {
            node = f.node.id;
            body = b;
            is = ap (λ z. if z then Some (declared_function (lookup f.name c.inner) f.node.id (signature_by (header_of c f)) (is_some f.body)) else lookup f.name c.inner)
                ((bytes_exact f.name f.name).1 refl) ∙ ap Some e;
          } in
          let d = subst (λ z. Declared z f.name sig.value) end (persists s₀ f.name sig.value ds (after_function c f) (file_after s₀ c (function f) h.scope own) faults here) in
          subst (λ z. NameFits c.structs f.name z) (sym e) (function_known f.name sig.value d runs_if, signature_small c h.named f sig.value sig.is)

      as_function : (o : Option Entity) (b : Bool) → lookup f.name c.inner ≡ o
          → declared_function o f.node.id (Some sig.value) (is_some f.body) ≡ contexts.function f.node.id (Some sig.value) b
          → declared_function (lookup f.name c.inner) f.node.id (signature_by (header_of c f)) (is_some f.body) ≡ contexts.function f.node.id (Some sig.value) b
      as_function o b e k = ap (λ z. declared_function z f.node.id (signature_by (header_of c f)) (is_some f.body)) e
          ∙ (ap (λ z. declared_function o f.node.id z (is_some f.body)) sig.is ∙ k)

      go : (o : Option Entity) → lookup f.name c.inner ≡ o → NameFits c.structs f.name (declared_function (lookup f.name c.inner) f.node.id (signature_by (header_of c f)) (is_some f.body))
      go None e = a_function _ (as_function None _ e refl)
      go (Some (local_variable n t)) e = a_function _ (as_function (Some (local_variable n t)) _ e refl)
      go (Some (file_variable n t)) e = a_function _ (as_function (Some (file_variable n t)) _ e refl)
      go (Some (contexts.function n r earlier)) e = a_function _ (as_function (Some (contexts.function n r earlier)) _ e refl)
      go (Some (given r)) e =
          subst (λ z. NameFits c.structs f.name (declared_function z f.node.id (signature_by (header_of c f)) (is_some f.body))) (sym e)
          (file_found i called s₀.statics s₀.functions c.structs (c.inner ++ c.outer) f.name (given r) h.names (lookup_front f.name c.inner c.outer (given r) e))

  abbrev all_fit : List Function → Bool
  all_fit fs = list_all (function_fits i) fs

  function_fits_there : (c : Context) (f : FunctionTree) (fs : List Function) → AtFile c → AtFile (after_function c f) → function_faults c f ≡ []
      → are_sure (declaration_sites c (function f)) ≡ true → body_filled f.body ≡ true → are_different (ids (decl_nodes (function f))) ≡ true
      → function_typed (within s₀ c) f f.body ≡ Some fs → all_fit fs ≡ true
  function_fits_there c f fs h after own sure filled different q = go f.body refl
    where
      go : (o : Option Stmts) → f.body ≡ o → all_fit fs ≡ true
      go None e = subst (λ z. all_fit z ≡ true) (same_Some [] fs (sym (ap (function_typed (within s₀ c) f) e) ∙ q)) refl
      go (Some body) e =
          let g = followed (function_with (within s₀ c) f body (addressed_in c f body) (parameters_in c f) (statements_locals (body_context c f) body)) _ fs
          (sym (ap (function_typed (within s₀ c) f) e) ∙ q) in
          let m = made (within s₀ c) f body g.value g.first in
          subst (λ z. all_fit z ≡ true) (same_Some _ fs g.then) (and_from _ _
          (function_there i called there (within s₀ c) short text_blocks h.scope h.table h.named h.flat f body own e after.names
          (subst (λ o. are_different (ids (all_nodes parameter_nodes f.parameters ++ option_nodes stmts_nodes o)) ≡ true) e
          (second_so (not (is_one_of f.node.id (ids (all_nodes parameter_nodes f.parameters ++ option_nodes stmts_nodes f.body)))) _ different))
          (subst (λ o. are_sure (body_sites c f o) ≡ true) e (all_right (site_sure called there) (parameters_sites (inner_scope c) f.parameters) (body_sites c f f.body) sure))
          (subst (λ o. body_filled o ≡ true) e filled) g.value m) refl)

  -- ---- declarations

  record Declaration (c : Context) (d : DeclTree) (now : TypedProgram) : Type 0 where
    fits : all_fit now.functions ≡ true
    after : AtFile (after_declaration c d)

  declaration_there : (d : DeclTree) (c : Context) (ds : UnitTree) (now : TypedProgram) → AtFile c → declaration_faults c d ≡ [] → declarations_faults (after_declaration c d) ds ≡ []
      → are_sure (declaration_sites c d) ≡ true → declaration_filled d ≡ true → are_different (ids (decl_nodes d)) ≡ true
      → list_all (λ n. is_one_of n nodes) (file_variables_in (d ∷ [])) ≡ true → undefined_from (runs unit) (unit_calls unit) (d ∷ ds) ≡ None
      → context_after (after_declaration c d) ds ≡ context_after start_context unit → declaration_typed (within s₀ c) d ≡ Some now → Declaration c d now
  declaration_there (structure t) c ds now h own faults sure filled different listed undefined end q = record {
    fits = subst (λ (z : TypedProgram). all_fit z.functions ≡ true) (same_Some _ now q) refl;
    after = behind_structs c (after_struct c t) (struct_after s₀ c t h.scope h.table h.named filled own) (file_after s₀ c (structure t) h.scope own) h;
  }
  declaration_there (forward t) c ds now h own faults sure filled different listed undefined end q = record {
    fits = subst (λ (z : TypedProgram). all_fit z.functions ≡ true) (same_Some _ now q) refl;
    after = behind_structs c (with_tag c t.name) (tag_after c t.name h.scope h.table) (file_after s₀ c (forward t) h.scope own) h;
  }
  declaration_there (typedef t) c ds now h own faults sure filled different listed undefined end q = record {
    fits = subst (λ (z : TypedProgram). all_fit z.functions ≡ true) (same_Some _ now q) refl;
    after = behind_structs c (after_typedef c t) (typedef_after s₀ c t h.scope h.table h.named filled own) (file_after s₀ c (typedef t) h.scope own) h;
  }
  declaration_there (variables d) c ds now h own faults sure filled different listed undefined end q =
      let bs = followed (file_variables_typed (within s₀ c) d.base d.variables) _ now q in
      record {
        fits = subst (λ (z : TypedProgram). all_fit z.functions ≡ true) (same_Some _ now bs.then) refl;
        after = variables_there d.variables c d.base bs.value h own filled
            (all_left (λ n. is_one_of n nodes) (map (λ (v : VariableTree). v.declarator.node.id) d.variables) [] listed) bs.first;
      }
  declaration_there (function f) c ds now h own faults sure filled different listed undefined end q =
      let fs = followed (function_typed (within s₀ c) f f.body) _ now q in
      let after : AtFile (after_function c f) = record {
        scope = file_after s₀ c (function f) h.scope own;
        table = h.table;
        names = (header_fits c f ds h own faults end (not_undefined f ds undefined).0, h.names);
        flat = h.flat;
        named = h.named;
      } in
      record {
        fits = subst (λ (z : TypedProgram). all_fit z.functions ≡ true) (same_Some _ now fs.then) (function_fits_there c f fs.value h after own sure filled different fs.first);
        after = after;
      }

  later_undefined : (d : DeclTree) (ds : UnitTree) → undefined_from (runs unit) (unit_calls unit) (d ∷ ds) ≡ None → undefined_from (runs unit) (unit_calls unit) ds ≡ None
  later_undefined (structure t) ds e = e
  later_undefined (forward t) ds e = e
  later_undefined (typedef t) ds e = e
  later_undefined (variables d) ds e = e
  later_undefined (function f) ds e = (not_undefined f ds e).1

  listed_parts : (d : DeclTree) (ds : UnitTree) → list_all (λ n. is_one_of n nodes) (file_variables_in (d ∷ ds)) ≡ true
      → (list_all (λ n. is_one_of n nodes) (file_variables_in (d ∷ [])) ≡ true) × (list_all (λ n. is_one_of n nodes) (file_variables_in ds) ≡ true)
  listed_parts (structure t) ds l = (refl, l)
  listed_parts (forward t) ds l = (refl, l)
  listed_parts (typedef t) ds l = (refl, l)
  listed_parts (function f) ds l = (refl, l)
  listed_parts (variables d) ds l =
      let ns = map (λ (v : VariableTree). v.declarator.node.id) d.variables in (
        list_all-append (λ n. is_one_of n nodes) ns [] ∙ and_from _ _ (all_left (λ n. is_one_of n nodes) ns (file_variables_in ds) l) refl,
        all_right (λ n. is_one_of n nodes) ns (file_variables_in ds) l,
      )

  declarations_there : (ds : UnitTree) (c : Context) (rest : TypedProgram) → AtFile c → declarations_faults c ds ≡ [] → are_sure (declarations_sites c ds) ≡ true
      → list_all declaration_filled ds ≡ true → are_different (ids (unit_nodes ds)) ≡ true → list_all (λ n. is_one_of n nodes) (file_variables_in ds) ≡ true
      → undefined_from (runs unit) (unit_calls unit) ds ≡ None → context_after c ds ≡ context_after start_context unit → declarations_typed (within s₀ c) ds ≡ Some rest
      → all_fit rest.functions ≡ true
  declarations_there [] c rest h f sure filled different listed undefined end q = subst (λ (z : TypedProgram). all_fit z.functions ≡ true) (same_Some _ rest q) refl
  declarations_there (d ∷ ds) c rest h f sure filled different listed undefined end q =
      let after = after_declaration c d in
      let now = followed (declaration_typed (within s₀ c) d) _ rest q in
      let later = followed (declarations_typed (within s₀ after) ds) _ rest now.then in
      let faults = none_right (declaration_faults c d) (declarations_faults after ds) f in
      let parts = listed_parts d ds listed in
      let here = declaration_there d c ds now.value h (none_left (declaration_faults c d) (declarations_faults after ds) f) faults
      (all_left (site_sure called there) (declaration_sites c d) (declarations_sites after ds) sure) (first_so _ _ filled) (front_different (decl_nodes d) (unit_nodes ds) different)
      parts.0 undefined end now.first in
      subst (λ (z : TypedProgram). all_fit z.functions ≡ true) (same_Some _ rest later.then)
      (list_all-append (function_fits i) now.value.functions later.value.functions ∙ and_from _ _ here.fits
      (declarations_there ds after later.value here.after faults (all_right (site_sure called there) (declaration_sites c d) (declarations_sites after ds) sure)
      (second_so (declaration_filled d) _ filled) (back_different (decl_nodes d) (unit_nodes ds) different) parts.1 (later_undefined d ds undefined) end later.first))

  pub unit_there : all_fit program.functions ≡ true
  unit_there =
      declarations_there unit start_context program start_there well.keeps_rules (unit_sure unit read.literals limits.globals) read.lists read.numbers
      (all_among nodes nodes (λ n h. h)) well.calls_have_bodies refl typed
    where
      or_left : (x y : Bool) → x ≡ true → (x || y) ≡ true
      or_left true y e = refl
      or_left false y e = never e

      or_right : (x y : Bool) → y ≡ true → (x || y) ≡ true
      or_right true y e = refl
      or_right false y e = e

      all_among : (ns all : List ℕ) → ((n : ℕ) → is_one_of n ns ≡ true → is_one_of n all ≡ true) → list_all (λ n. is_one_of n all) ns ≡ true
      all_among [] all h = refl
      all_among (n ∷ ns) all h = and_from _ _ (h n (or_left (n == n) _ (eq-eqb n n refl))) (all_among ns all (λ m e. h m (or_right (n == m) _ e)))

pub typed_units_fit : TypedUnitsFit
typed_units_fit unit u read well limits e =
    let d = followed (declarations_typed (start_scope unit) unit) _ u e in
    subst (λ z. program_fits z ≡ true) (same_Some _ u d.then) (unit_there unit d.value d.first read well limits)
