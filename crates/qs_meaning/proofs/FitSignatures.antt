-- A function keeps its types from its first header to the end of the unit, and the function with its body has them.
use Rattle.std.proofs.Common.{◌≡◌, ℕ, suc, ◌+◌, ◌==◌, Bool, true, false, not, ◌||◌, List, [], ◌∷◌, ◌++◌, map, Option, Some, None, is_some, refl, sym, ap, ◌∙◌, subst, arith, if◌then◌else◌}
use Rattle.std.specs.List.{slice_get}
use Rattle.std.proofs.lemmas.Bool.{eqb-true}
use Rattle.std.specs.Cmp.{first_so, second_so}
use Rattle.std.proofs.lemmas.Option.{same_Some}
use Rattle.qs_base.specs.Bytes.{same_bytes}
use Rattle.qs_base.proofs.ByteLaws.{bytes_exact}
use Rattle.qs_syntax.specs.declared.types.Base.{Base}
use Rattle.qs_syntax.specs.Trees.{StructTree, VariableTree, FunctionTree, Stmts, DeclTree, structure, forward, function, variables, UnitTree, DeclaratorTree, DefinedTree, of_struct, of_base, TypedefTree, typedef}
use Rattle.qs_memory.proofs.Options.{followed}
use Rattle.qs_calls.specs.Starts as starts
use Rattle.qs_types.specs.WellTyped.{entity_has_body}
use Rattle.qs_types.specs.Types.{MemberTree, TypeTree, int, unsigned, char, void, pointer, array, struct, same_type}
use Rattle.qs_types.specs.GivenFunctions.{Signature}
use Rattle.qs_types.specs.Rules.{Fault, test, breaks_one, faults_of}
use Rattle.qs_types.specs.declared.rules.Rule.TheVariants as rules
use Rattle.qs_types.specs.Layout.{and_then, layout_of, member_types, sized_layout, with_members}
use Rattle.qs_types.specs.Contexts.{Entity, local_variable, file_variable, given, Binding, Context, lookup, tag_place, is_declared_here, add_type, is_type_name, is_taken}
use Rattle.qs_types.specs.Contexts as contexts
use Rattle.qs_types.specs.Declarations.{all_typed, lengths_faults, variable_declared, type_name_declared}
use Rattle.qs_types.specs.InitialiserRules.{initialiser_tests}
use Rattle.qs_types.specs.StatementRules.{after_variable, after_variables, again_tests, variable_tests, variable_faults, option_initialiser_faults, variables_faults}
use Rattle.qs_types.specs.UnitRules.{with_tag, no_members, after_members, has_no_members, define_at, after_struct, body_context, Header, header_of, all_of, signature_by, may_be, may_all_be, agree, agrees_with, may_declare, declared_function, after_function, function_faults, after_declaration, declaration_faults, declarations_faults, context_after, with_new_tag, with_option_tag, option_place, after_defined, defined_type, after_type_name, after_type_names, after_typedef}
use Rattle.qs_types.specs.Placed.{statements_locals, addressed_in}
use Rattle.qs_meaning.specs.Typed.{Function, TypedProgram}
use Rattle.qs_meaning.specs.Names.{Scope, within, function_number}
use Rattle.qs_meaning.specs.Interfaces.{signature}
use Rattle.qs_meaning.specs.TypedLaws.{IsFileScope}
use Rattle.qs_meaning.specs.Units.{parameters_in, function_with, function_typed, file_variables_typed, declaration_typed, declarations_typed, name_with_body, functions_in}
use Rattle.qs_meaning.proofs.Options.{never, nothing, went, Known}
use Rattle.qs_meaning.proofs.FaultlessExpressions.{none_left, none_right, unbroken, first_unbroken}
use Rattle.qs_meaning.proofs.Bindings.{has_types}
use Rattle.qs_meaning.proofs.Bodies.{lengths_typed, not_held_back}
use Rattle.qs_meaning.proofs.FunctionsTyped.{file_sound}
use Rattle.qs_meaning.proofs.StructTables.{with_tag_known, after_struct_known, after_typedef_known}
use Rattle.qs_meaning.proofs.FileVariables.{file_variables_known}
use Rattle.qs_meaning.proofs.UnitsTyped.{header_unbroken, header_signature, after_function_known}
use Rattle.qs_meaning.proofs.FitLeaves.{scalar_signature}
use Rattle.qs_meaning.proofs.FitFunctions.{made, signature_there}
use Rattle.qs_syntax.specs.declared.types.Base.TheVariants as bases

-- ---- types that agree

pub same_types : (t u : TypeTree) → same_type t u ≡ true → t ≡ u
same_types int int e = refl
same_types int unsigned e = never e
same_types int char e = never e
same_types int void e = never e
same_types int (pointer u) e = never e
same_types int (array u m) e = never e
same_types int (struct j) e = never e
same_types unsigned int e = never e
same_types unsigned unsigned e = refl
same_types unsigned char e = never e
same_types unsigned void e = never e
same_types unsigned (pointer u) e = never e
same_types unsigned (array u m) e = never e
same_types unsigned (struct j) e = never e
same_types char int e = never e
same_types char unsigned e = never e
same_types char char e = refl
same_types char void e = never e
same_types char (pointer u) e = never e
same_types char (array u m) e = never e
same_types char (struct j) e = never e
same_types void int e = never e
same_types void unsigned e = never e
same_types void char e = never e
same_types void void e = refl
same_types void (pointer u) e = never e
same_types void (array u m) e = never e
same_types void (struct j) e = never e
same_types (pointer t) int e = never e
same_types (pointer t) unsigned e = never e
same_types (pointer t) char e = never e
same_types (pointer t) void e = never e
same_types (pointer t) (pointer u) e = ap pointer (same_types t u e)
same_types (pointer t) (array u m) e = never e
same_types (pointer t) (struct j) e = never e
same_types (array t n) int e = never e
same_types (array t n) unsigned e = never e
same_types (array t n) char e = never e
same_types (array t n) void e = never e
same_types (array t n) (pointer u) e = never e
same_types (array t n) (array u m) e =
    ap (λ z. array z n) (same_types t u (second_so (n == m) _ e)) ∙ ap (array u) (eqb-true n m (first_so _ _ e))
same_types (array t n) (struct j) e = never e
same_types (struct k) int e = never e
same_types (struct k) unsigned e = never e
same_types (struct k) char e = never e
same_types (struct k) void e = never e
same_types (struct k) (pointer u) e = never e
same_types (struct k) (array u m) e = never e
same_types (struct k) (struct j) e = ap struct (eqb-true k j e)

same_lists : (ts : List TypeTree) (us : List (Option TypeTree)) (vs : List TypeTree) → may_all_be ts us ≡ true → all_of us ≡ Some vs → ts ≡ vs
same_lists [] [] vs e h = same_Some [] vs h
same_lists [] (u ∷ us) vs e h = never e
same_lists (t ∷ ts) [] vs e h = never e
same_lists (t ∷ ts) (None ∷ us) vs e h = nothing vs h
same_lists (t ∷ ts) (Some u ∷ us) vs e h =
    let w = went (all_of us) (λ ts. Some (u ∷ ts)) vs h in
    (λ j. same_types t u (first_so _ _ e) j ∷ same_lists ts us w.value (second_so (same_type t u) _ e) w.had j) ∙ same_Some _ vs w.gave

-- a header that agrees with a signature has it
pub same_signatures : (r s : Signature) (h : Header) → agree (Some r) h ≡ true → signature_by h ≡ Some s → r ≡ s
same_signatures r s h e k =
    let us = went (all_of h.parameters) (λ ts. and_then h.result (λ t. Some (record { parameters = ts; result = t }))) s k in
    let t = went h.result (λ t. Some (record { parameters = us.value; result = t })) s us.gave in
    let result = same_types r.result t.value (subst (λ o. may_be r.result o ≡ true) t.had (first_so _ _ e)) in
    let parameters = same_lists r.parameters h.parameters us.value (second_so (may_be r.result h.result) _ e) us.had in
    (λ j. record { parameters = parameters j; result = result j }) ∙ same_Some _ s t.gave

-- ---- names

-- a name among others
other_name : (x : List ℕ) (b : Binding) (bs : List Binding) → same_bytes b.name x ≡ false → lookup x (b ∷ bs) ≡ lookup x bs
other_name x b bs e = ap (λ c. if c then Some b.entity else lookup x bs) e

this_name : (x : List ℕ) (b : Binding) (bs : List Binding) → same_bytes b.name x ≡ true → lookup x (b ∷ bs) ≡ Some b.entity
this_name x b bs e = ap (λ c. if c then Some b.entity else lookup x bs) e

-- a function that is declared here with this signature
pub record Declared (c : Context) (x : List ℕ) (s : Signature) : Type 0 where
  pub node : ℕ
  pub body : Bool
  pub is : lookup x c.inner ≡ Some (contexts.function node (Some s) body)

pub in_context : (c d : Context) (x : List ℕ) (s : Signature) → d.inner ≡ c.inner → Declared c x s → Declared d x s
in_context c d x s e h = record { node = h.node; body = h.body; is = ap (lookup x) e ∙ h.is }

-- structs and tags leave names alone
tag_inner : (c : Context) (tag : List ℕ) → (with_tag c tag).inner ≡ c.inner
tag_inner c tag = go (is_some (tag_place c tag))
  where
    go : (b : Bool) → (if b then c else with_new_tag c tag).inner ≡ c.inner
    go true = refl
    go false = refl

option_inner : (c : Context) (tag : Option (List ℕ)) → (with_option_tag c tag).inner ≡ c.inner
option_inner c None = refl
option_inner c (Some tag) = tag_inner c tag

define_inner : (c : Context) (ms : List MemberTree) (o : Option ℕ) → (define_at c ms o).inner ≡ c.inner
define_inner c ms None = refl
define_inner c ms (Some k) = go (has_no_members (slice_get c.structs k))
  where
    go : (b : Bool) → (if b then record c { structs = with_members (is_some (sized_layout (layout_of c.structs) (member_types ms))) c.structs k ms } else c).inner ≡ c.inner
    go true = refl
    go false = refl

struct_inner : (c : Context) (s : StructTree) → (after_struct c s).inner ≡ c.inner
struct_inner c s =
    define_inner (with_option_tag c s.name) (after_members (with_option_tag c s.name) no_members s.members).members (option_place c s.name) ∙ option_inner c s.name

defined_inner : (c : Context) (d : DefinedTree) → (after_defined c d).inner ≡ c.inner
defined_inner c (of_struct s) = struct_inner c s
defined_inner c (of_base bases.Void) = refl
defined_inner c (of_base bases.Int) = refl
defined_inner c (of_base bases.Unsigned) = refl
defined_inner c (of_base bases.Char) = refl
defined_inner c (of_base (bases.Struct tag)) = tag_inner c tag
defined_inner c (of_base (bases.Named x)) = refl

type_names_inner : (c : Context) (base : Option TypeTree) (ds : List DeclaratorTree) → (after_type_names c base ds).inner ≡ c.inner
type_names_inner c base [] = refl
type_names_inner c base (d ∷ ds) = type_names_inner (after_type_name c base d) base ds ∙ go (is_type_name c d.name)
  where
    go : (b : Bool) → (if b then c else record c { type_names = add_type c.type_names d.name (type_name_declared c base d).type }).inner ≡ c.inner
    go true = refl
    go false = refl

pub typedef_inner : (c : Context) (t : TypedefTree) → (after_typedef c t).inner ≡ c.inner
typedef_inner c t = type_names_inner (after_defined c t.defined) (defined_type c t.defined) t.names ∙ defined_inner c t.defined

-- ---- what goes on behind a declaration

pub file_after : (s₀ : Scope) (c : Context) (d : DeclTree) → IsFileScope c → declaration_faults c d ≡ [] → IsFileScope (after_declaration c d)
file_after s₀ c (structure s) h f = after_struct_known c s h
file_after s₀ c (forward g) h f = with_tag_known c g.name h
file_after s₀ c (typedef t) h f = after_typedef_known c t h
file_after s₀ c (function g) h f = after_function_known s₀ c g h f
file_after s₀ c (variables d) h f = (file_variables_known s₀ d.variables c d.base h f).scope

alone : (xs : List Fault) → xs ≡ [] → (xs ++ []) ≡ []
alone xs e = ap (λ z. z ++ []) e

pub variable_after : (s₀ : Scope) (c : Context) (base : Base) (v : VariableTree) → IsFileScope c → variable_faults true c (after_variable true c base v) base v ≡ []
    → IsFileScope (after_variable true c base v)
variable_after s₀ c base v h f = (file_variables_known s₀ (v ∷ []) c base h (alone _ f)).scope

-- a variable has a name that isn't declared yet
variable_new : (s₀ : Scope) (c : Context) (base : Base) (v : VariableTree) → IsFileScope c → variable_faults true c (after_variable true c base v) base v ≡ []
    → is_declared_here c v.declarator.name ≡ false
variable_new s₀ c base v h f =
    let after = after_variable true c base v in
    let tests = variable_tests true c after base v in
    let parts = none_right (faults_of v.declarator.node.id tests)
    (lengths_faults c v.declarator.lengths.given ++ option_initialiser_faults true after (variable_declared c base v).type v.initialiser) f in
    let initialiser = none_right (lengths_faults c v.declarator.lengths.given) (option_initialiser_faults true after (variable_declared c base v).type v.initialiser) parts in
    let typed_lengths = lengths_typed c (has_types (within s₀ c) [] (file_sound s₀ c [] h)) v.declarator.lengths.given (none_left _ _ parts) in
    let whole_tests = ap (λ b. breaks_one (if b then [] else again_tests true c v ++
    ((variable_declared c base v).tests ++ initialiser_tests true after (variable_declared c base v).type v.initialiser)))
    (sym (not_held_back true after (variable_declared c base v).type v.initialiser initialiser))
    ∙ unbroken v.declarator.node.id tests (none_left (faults_of v.declarator.node.id tests) _ f) in
    again (all_typed c v.declarator.lengths.given) typed_lengths
    (first_unbroken (again_tests true c v) ((variable_declared c base v).tests ++ initialiser_tests true after (variable_declared c base v).type v.initialiser) whole_tests)
  where
    only : (b : Bool) → (b || false) ≡ false → b ≡ false
    only true e = e
    only false e = refl

    neither : (a b : Bool) → (a || b) ≡ false → b ≡ false
    neither true b e = never (sym e)
    neither false b e = e

    again : (b : Bool) → b ≡ true → breaks_one (if b then test rules.DeclaredTwice (is_taken true c v.declarator.name) else []) ≡ false → is_declared_here c v.declarator.name ≡ false
    again true e k = neither (is_type_name c v.declarator.name) (is_declared_here c v.declarator.name) (only (is_taken true c v.declarator.name) k)
    again false e k = never e

other : (x y : List ℕ) → (same_bytes x y ≡ true → false ≡ true) → same_bytes x y ≡ false
other x y h = go (same_bytes x y) refl
  where
    go : (b : Bool) → same_bytes x y ≡ b → b ≡ false
    go true e = never (h e)
    go false e = refl

module _ (s₀ : Scope) (x : List ℕ) (s : Signature) where
  variables_persist : (vs : List VariableTree) (c : Context) (base : Base) → IsFileScope c → variables_faults true c base vs ≡ [] → Declared c x s
      → Declared (after_variables true c base vs) x s
  variables_persist [] c base h f d = d
  variables_persist (v ∷ vs) c base h f d =
      let after = after_variable true c base v in
      let own = none_left (variable_faults true c after base v) (variables_faults true after base vs) f in
      let new = variable_new s₀ c base v h own in
      let apart = other v.declarator.name x (λ e. sym new ∙ (ap (is_declared_here c) ((bytes_exact v.declarator.name x).0 e) ∙ ap is_some d.is)) in
      variables_persist vs after base (variable_after s₀ c base v h own) (none_right (variable_faults true c after base v) (variables_faults true after base vs) f)
      (record { node = d.node; body = d.body; is = other_name x _ c.inner apart ∙ d.is })

  function_persist : (c : Context) (f : FunctionTree) → IsFileScope c → function_faults c f ≡ [] → Declared c x s → Declared (after_function c f) x s
  function_persist c f h faults d = go (same_bytes f.name x) refl
    where
      k : Known (signature_by (header_of c f))
      k = header_signature s₀ c f h faults

      go : (b : Bool) → same_bytes f.name x ≡ b → Declared (after_function c f) x s
      go false e = record { node = d.node; body = d.body; is = other_name x _ c.inner e ∙ d.is }
      go true e =
          let here = ap (λ z. lookup z c.inner) ((bytes_exact f.name x).0 e) ∙ d.is in
          let may = second_so (not (is_type_name c f.name)) _ (kept_first (may_declare c f) _ (header_unbroken s₀ c f h faults)) in
          let agrees = first_so (agree (Some s) (header_of c f)) _ (subst (λ o. agrees_with o (header_of c f) (is_some f.body) ≡ true) here may) in
          let signature = header_signature s₀ c f h faults in
          record {
            node = f.node.id;
            body = d.body || is_some f.body;
            is = this_name x _ c.inner e
                ∙ (ap (λ o. Some (declared_function o f.node.id (signature_by (header_of c f)) (is_some f.body))) here
                ∙ ap (λ o. Some (contexts.function f.node.id o (d.body || is_some f.body))) (signature.is ∙ ap Some (sym (same_signatures s signature.value (header_of c f) agrees signature.is))));
          }
        where
          kept_first : (b rest : Bool) → (not b || rest) ≡ false → b ≡ true
          kept_first true rest e = refl
          kept_first false rest e = never (sym e)

  declaration_persists : (d : DeclTree) (c : Context) → IsFileScope c → declaration_faults c d ≡ [] → Declared c x s → Declared (after_declaration c d) x s
  declaration_persists (structure t) c h f k = in_context c (after_struct c t) x s (struct_inner c t) k
  declaration_persists (forward g) c h f k = in_context c (with_tag c g.name) x s (tag_inner c g.name) k
  declaration_persists (typedef t) c h f k = in_context c (after_typedef c t) x s (typedef_inner c t) k
  declaration_persists (function g) c h f k = function_persist c g h f k
  declaration_persists (variables d) c h f k = variables_persist d.variables c d.base h f k

  -- a function keeps its signature to the end
  pub persists : (ds : UnitTree) (c : Context) → IsFileScope c → declarations_faults c ds ≡ [] → Declared c x s → Declared (context_after c ds) x s
  persists [] c h f k = k
  persists (d ∷ ds) c h f k =
      let own = none_left (declaration_faults c d) (declarations_faults (after_declaration c d) ds) f in
      persists ds (after_declaration c d) (file_after s₀ c d h own) (none_right (declaration_faults c d) (declarations_faults (after_declaration c d) ds) f)
      (declaration_persists d c h own k)

-- ---- bodies

module _ (s₀ : Scope) (x : List ℕ) (s : Signature) where
  variables_no_body : (vs : List VariableTree) (c : Context) (base : Base) → entity_has_body (lookup x c.inner) ≡ false
      → entity_has_body (lookup x (after_variables true c base vs).inner) ≡ false
  variables_no_body [] c base e = e
  variables_no_body (v ∷ vs) c base e = variables_no_body vs (after_variable true c base v) base (go (same_bytes v.declarator.name x))
    where
      go : (b : Bool) → entity_has_body (if b then Some (file_variable v.declarator.node.id (variable_declared c base v).type) else lookup x c.inner) ≡ false
      go true = refl
      go false = e

  -- a header without a body gives none
  still_no_body : (o : Option Entity) (node : ℕ) (r : Option Signature) → entity_has_body o ≡ false → entity_has_body (Some (declared_function o node r false)) ≡ false
  still_no_body None node r e = refl
  still_no_body (Some (local_variable n t)) node r e = refl
  still_no_body (Some (file_variable n t)) node r e = refl
  still_no_body (Some (contexts.function n q earlier)) node r e = ap (λ b. b || false) e
  still_no_body (Some (given q)) node r e = refl

  header_no_body : (c : Context) (f : FunctionTree) → f.body ≡ None → entity_has_body (lookup x c.inner) ≡ false → entity_has_body (lookup x (after_function c f).inner) ≡ false
  header_no_body c f none e = go (same_bytes f.name x) refl
    where
      go : (b : Bool) → same_bytes f.name x ≡ b → entity_has_body (lookup x (after_function c f).inner) ≡ false
      go false n = ap entity_has_body (other_name x _ c.inner n) ∙ e
      go true n =
          ap entity_has_body (this_name x _ c.inner n)
          ∙ (ap (λ o. entity_has_body (Some (declared_function (lookup f.name c.inner) f.node.id (signature_by (header_of c f)) (is_some o)))) none
          ∙ still_no_body (lookup f.name c.inner) f.node.id (signature_by (header_of c f)) (ap (λ z. entity_has_body (lookup z c.inner)) ((bytes_exact f.name x).0 n) ∙ e))

  -- a header with a body declares a function
  with_body : (c : Context) (f : FunctionTree) (r : Signature) → f.name ≡ x → is_some f.body ≡ true → agrees_with (lookup f.name c.inner) (header_of c f) (is_some f.body) ≡ true
      → signature_by (header_of c f) ≡ Some r → Declared (after_function c f) x r
  with_body c f r name body agrees sig = go (lookup f.name c.inner) refl
    where
      at : (o : Option Entity) → lookup f.name c.inner ≡ o → lookup x (after_function c f).inner ≡ Some (declared_function o f.node.id (Some r) true)
      at o e =
          this_name x _ c.inner ((bytes_exact f.name x).1 name)
          ∙ (ap (λ z. Some (declared_function z f.node.id (signature_by (header_of c f)) (is_some f.body))) e
          ∙ (ap (λ z. Some (declared_function o f.node.id z (is_some f.body))) sig ∙ ap (λ z. Some (declared_function o f.node.id (Some r) z)) body))

      go : (o : Option Entity) → lookup f.name c.inner ≡ o → Declared (after_function c f) x r
      go None e = record { node = _; body = _; is = at None e }
      go (Some (local_variable n t)) e = record { node = _; body = _; is = at (Some (local_variable n t)) e }
      go (Some (file_variable n t)) e = record { node = _; body = _; is = at (Some (file_variable n t)) e }
      go (Some (contexts.function n q earlier)) e = record { node = _; body = _; is = at (Some (contexts.function n q earlier)) e }
      go (Some (given q)) e =
          never (sym (ap not body) ∙ second_so (agree (Some q) (header_of c f)) _ (subst (λ o. agrees_with o (header_of c f) (is_some f.body) ≡ true) e agrees))

  same_signature : (n m : ℕ) (r : Signature) (b a : Bool) → Some (contexts.function n (Some r) b) ≡ Some (contexts.function m (Some s) a) → r ≡ s
  same_signature n m r b a e = cc

  abbrev Found : List Function → UnitTree → Type 0
  Found fs ds = slice_get (map signature fs) (function_number x (functions_in ds)) ≡ Some (scalar_signature s)

  -- the function with a body, by its place among these
  pub found : (ds : UnitTree) (c : Context) (rest : TypedProgram) → IsFileScope c → declarations_faults c ds ≡ [] → declarations_typed (within s₀ c) ds ≡ Some rest
      → (n : ℕ) → lookup x (context_after c ds).inner ≡ Some (contexts.function n (Some s) true) → entity_has_body (lookup x c.inner) ≡ false → Found rest.functions ds
  found [] c rest h f q n e b = never (sym b ∙ ap entity_has_body e)
  found (d ∷ ds) c rest h f q n e b =
      let now = followed (declaration_typed (within s₀ c) d) _ rest q in
      let later = followed (declarations_typed (within s₀ (after_declaration c d)) ds) _ rest now.then in
      let own = none_left (declaration_faults c d) (declarations_faults (after_declaration c d) ds) f in
      let faults = none_right (declaration_faults c d) (declarations_faults (after_declaration c d) ds) f in
      let scope = file_after s₀ c d h own in
      subst (λ z. slice_get (map signature z) (function_number x (functions_in (d ∷ ds))) ≡ Some (scalar_signature s)) (ap (λ (z : TypedProgram). z.functions) (same_Some _ rest later.then))
      (here d now.value own now.first later.value.functions
      (λ g. found ds (after_declaration c d) later.value scope faults later.first n e g)
      (λ r k. let p = persists_as r ds (after_declaration c d) scope faults k in same_signature p.node n r p.body true (sym p.is ∙ e)))
    where
      persists_as : (r : Signature) (ds : UnitTree) (c : Context) → IsFileScope c → declarations_faults c ds ≡ [] → Declared c x r → Declared (context_after c ds) x r
      persists_as r ds c h f k = persists s₀ x r ds c h f k

      none_here : (now : TypedProgram) (fs : List Function) → now.functions ≡ [] → Found fs ds → slice_get (map signature (now.functions ++ fs)) (function_number x (functions_in ds)) ≡ Some (scalar_signature s)
      none_here now fs e k = subst (λ z. slice_get (map signature (z ++ fs)) (function_number x (functions_in ds)) ≡ Some (scalar_signature s)) (sym e) k

      here : (d : DeclTree) (now : TypedProgram) → declaration_faults c d ≡ [] → declaration_typed (within s₀ c) d ≡ Some now → (fs : List Function)
          → (entity_has_body (lookup x (after_declaration c d).inner) ≡ false → Found fs ds)
          → ((r : Signature) → Declared (after_declaration c d) x r → r ≡ s)
          → slice_get (map signature (now.functions ++ fs)) (function_number x (functions_in (d ∷ ds))) ≡ Some (scalar_signature s)
      here (structure t) now own q fs go ends = none_here now fs (ap (λ (z : TypedProgram). z.functions) (sym (same_Some _ now q))) (go (ap (λ z. entity_has_body (lookup x z)) (struct_inner c t) ∙ b))
      here (forward g) now own q fs go ends = none_here now fs (ap (λ (z : TypedProgram). z.functions) (sym (same_Some _ now q))) (go (ap (λ z. entity_has_body (lookup x z)) (tag_inner c g.name) ∙ b))
      here (typedef t) now own q fs go ends = none_here now fs (ap (λ (z : TypedProgram). z.functions) (sym (same_Some _ now q))) (go (ap (λ z. entity_has_body (lookup x z)) (typedef_inner c t) ∙ b))
      here (variables d) now own q fs go ends =
          let bs = followed (file_variables_typed (within s₀ c) d.base d.variables) _ now q in
          none_here now fs (ap (λ (z : TypedProgram). z.functions) (sym (same_Some _ now bs.then))) (go (variables_no_body d.variables c d.base b))
      here (function f) now own q fs go ends =
          let gs = followed (function_typed (within s₀ c) f f.body) _ now q in
          subst (λ z. slice_get (map signature (z ++ fs)) (function_number x (name_with_body f.name f.body ++ functions_in ds)) ≡ Some (scalar_signature s))
          (ap (λ (z : TypedProgram). z.functions) (same_Some _ now gs.then)) (by_body f.body refl gs.value gs.first)
        where
          by_body : (o : Option Stmts) → f.body ≡ o → (gs : List Function) → function_typed (within s₀ c) f f.body ≡ Some gs
              → slice_get (map signature (gs ++ fs)) (function_number x (name_with_body f.name f.body ++ functions_in ds)) ≡ Some (scalar_signature s)
          by_body None e gs q =
              let none = same_Some [] gs (sym (ap (function_typed (within s₀ c) f) e) ∙ q) in
              subst (λ z. slice_get (map signature (z ++ fs)) (function_number x (name_with_body f.name f.body ++ functions_in ds)) ≡ Some (scalar_signature s)) none
              (subst (λ o. slice_get (map signature fs) (function_number x (name_with_body f.name o ++ functions_in ds)) ≡ Some (scalar_signature s)) (sym e)
              (go (header_no_body c f e b)))
          by_body (Some body) e gs q =
              let g = followed (function_with (within s₀ c) f body (addressed_in c f body) (parameters_in c f) (statements_locals (body_context c f) body)) _ gs
              (sym (ap (function_typed (within s₀ c) f) e) ∙ q) in
              let m = made (within s₀ c) f body g.value g.first in
              let sig = header_signature s₀ c f h own in
              subst (λ z. slice_get (map signature (z ++ fs)) (function_number x (name_with_body f.name f.body ++ functions_in ds)) ≡ Some (scalar_signature s)) (same_Some _ gs g.then)
              (subst (λ o. slice_get (signature g.value ∷ map signature fs) (function_number x (name_with_body f.name o ++ functions_in ds)) ≡ Some (scalar_signature s)) (sym e)
              (by_name (same_bytes f.name x) refl g.value sig.value (signature_there (within s₀ c) f body g.value m sig.value sig.is) sig.is (ap is_some e)))
            where
              next : (k : ℕ) (y : starts.Signature) (ys : List starts.Signature) → slice_get ys k ≡ Some (scalar_signature s) → slice_get (y ∷ ys) (k + 1) ≡ Some (scalar_signature s)
              next k y ys p = let e : k + 1 ≡ suc k = omega arith in ap (slice_get (y ∷ ys)) e ∙ p

              by_name : (t : Bool) → same_bytes f.name x ≡ t → (g : Function) → (r : Signature) → signature g ≡ scalar_signature r → signature_by (header_of c f) ≡ Some r → is_some f.body ≡ true
                  → slice_get (signature g ∷ map signature fs) (if same_bytes f.name x then 0 else function_number x (functions_in ds) + 1) ≡ Some (scalar_signature s)
              by_name true t g r k sig body =
                  let d = with_body c f r ((bytes_exact f.name x).0 t) body (second_so (not (is_type_name c f.name)) _ (kept_first (may_declare c f) _ (header_unbroken s₀ c f h own))) sig in
                  ap (λ z. slice_get (signature g ∷ map signature fs) (if z then 0 else function_number x (functions_in ds) + 1)) t
                  ∙ ap Some (k ∙ ap scalar_signature (ends r d))
                where
                  kept_first : (b rest : Bool) → (not b || rest) ≡ false → b ≡ true
                  kept_first true rest e = refl
                  kept_first false rest e = never (sym e)
              by_name false t g r k sig body =
                  ap (λ z. slice_get (signature g ∷ map signature fs) (if z then 0 else function_number x (functions_in ds) + 1)) t
                  ∙ next (function_number x (functions_in ds)) (signature g) (map signature fs) (go (ap entity_has_body (other_name x _ c.inner t) ∙ b))
