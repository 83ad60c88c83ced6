-- What a unit that breaks no rule says of its names: parameters have different ones, functions with bodies too, and there is a main.
use Rattle.std.proofs.Common.{◌≡◌, ℕ, ◌&&◌, ◌||◌, not, Bool, true, false, List, [], ◌∷◌, ◌++◌, append-nil, map, Option, Some, None, is_some, refl, sym, ap, ◌∙◌, subst, if◌then◌else◌}
use Rattle.std.specs.Prelude.{bytes_eq}
use Rattle.std.specs.List.{list_all}
use Rattle.std.proofs.lemmas.Slice.Eq.{bytes_eq-Decides}
use Rattle.std.proofs.lemmas.Bool.{and_parts, and_from, not_from_false, not-true}
use Rattle.qs_base.specs.Bytes.{same_bytes}
use Rattle.qs_base.proofs.ByteLaws.{bytes_exact}
use Rattle.qs_syntax.specs.declared.types.Base.{Base}
use Rattle.qs_syntax.specs.Trees.{VariableTree, ParameterTree, Stmts, StructTree, FunctionTree, DeclTree, structure, forward, function, variables, UnitTree, typedef}
use Rattle.qs_core.specs.Fits.{differ}
use Rattle.qs_types.specs.Types.{TypeTree, is_scalar, MemberTree, Structs}
use Rattle.qs_types.specs.declared.rules.Rule.{Rule}
use Rattle.qs_types.specs.declared.rules.Rule.TheVariants as rules
use Rattle.qs_types.specs.Rules.{test, keeps, breaks_one, faults_of}
use Rattle.qs_types.specs.Contexts.{Entity, local_variable, file_variable, given, Binding, Context, lookup, is_declared_here}
use Rattle.qs_types.specs.Contexts as contexts
use Rattle.qs_types.specs.GivenFunctions.{Signature}
use Rattle.qs_types.specs.Declarations.{all_typed, lengths_faults, variable_declared, parameter_declared}
use Rattle.qs_types.specs.InitialiserRules.{initialiser_tests}
use Rattle.qs_types.specs.StatementRules.{after_variable, after_variables, again_tests, variable_tests, option_initialiser_faults, variable_faults, variables_faults}
use Rattle.qs_types.specs.UnitRules.{after_parameter, with_parameter, header_of, Header, agree, agrees_with, may_declare, result_tests, main_tests, header_tests, declared_function, signature_by, after_function, is_name_declared, signature_tests, parameter_tests, parameters_faults, function_faults, with_tag, no_members, after_members, define_at, after_struct, after_declaration, declaration_faults, declarations_faults, with_new_tag, with_option_tag, option_place}
use Rattle.qs_types.specs.WellTyped.{entity_has_body}
use Rattle.qs_meaning.specs.Names.{Scope, within}
use Rattle.qs_meaning.specs.Units.{name_with_body, functions_in}
use Rattle.qs_meaning.specs.TypedLaws.{IsFileScope}
use Rattle.qs_meaning.proofs.FaultlessExpressions.{none_left, none_right, unbroken, first_unbroken, second_unbroken}
use Rattle.qs_meaning.proofs.Bindings.{Sound, has_types}
use Rattle.qs_meaning.proofs.Bodies.{lengths_typed, not_held_back}
use Rattle.qs_meaning.proofs.Functions.{parameter_type_known, tests_in, with_parameter_sound, are_declared, parameter_scalar}
use Rattle.qs_meaning.proofs.FunctionsTyped.{file_sound}
use Rattle.qs_meaning.proofs.FileVariables.{file_variables_known}
use Rattle.qs_meaning.proofs.UnitsTyped.{declaration_known}
use Rattle.qs_elaborate_bodies.specs.Names.{parameter_name}
use Rattle.qs_meaning.proofs.FitSignatures.{typedef_inner}

-- ---- tests

unbroken_test : (rule : Rule) (b : Bool) → breaks_one (test rule b) ≡ false → b ≡ false
unbroken_test rule true h = h
unbroken_test rule false h = refl

kept_test : (rule : Rule) (b : Bool) → breaks_one (keeps rule b) ≡ false → b ≡ true
kept_test rule true h = refl
kept_test rule false h = sym h

-- ---- parameters (6.7p3, 6.9.1p5)

-- it has a name that isn't declared yet
abbrev pub is_new : Context → ParameterTree → Bool
is_new c p = is_some p.name && not (is_name_declared c p.name)

abbrev names_of : List ParameterTree → List (List ℕ)
names_of ps = map (λ (p : ParameterTree). parameter_name p.name) ps

is_found : (b : Bool) (e : Entity) (o : Option Entity) → is_some (if b then Some e else o) ≡ false → (b ≡ false) × (is_some o ≡ false)
is_found true e o h = cc
is_found false e o h = (refl, h)

-- what is new behind a parameter was new before it, and has another name
new_before : (c : Context) (p : ParameterTree) (t : Option TypeTree) (x : List ℕ) → (qs : List ParameterTree) → list_all (is_new (with_parameter c p t (Some x))) qs ≡ true
    → (list_all (is_new c) qs ≡ true) × (list_all (λ y. not (same_bytes x y)) (names_of qs) ≡ true)
new_before c p t x [] h = (refl, refl)
new_before c p t x (q ∷ qs) h =
    let two = and_parts (is_new (with_parameter c p t (Some x)) q) _ h in
    let rest = new_before c p t x qs two.1 in
    let one = by_name q.name two.0 in
    (and_from _ _ one.0 rest.0, and_from _ _ one.1 rest.1)
  where
    by_name : (o : Option (List ℕ)) → (is_some o && not (is_name_declared (with_parameter c p t (Some x)) o)) ≡ true
        → ((is_some o && not (is_name_declared c o)) ≡ true) × (not (same_bytes x (parameter_name o)) ≡ true)
    by_name None h = cc
    by_name (Some y) h =
        let two = is_found (same_bytes x y) (local_variable p.node.id t) (lookup y c.inner) (not-true _ h) in
        (not_from_false (is_some (lookup y c.inner)) two.1, not_from_false (same_bytes x y) two.0)

module _ (s₀ : Scope) (declared_nodes : List ℕ) where
  parameter_new : (c : Context) → Sound (within s₀ c) declared_nodes → (p : ParameterTree) → (faults_of p.node.id (parameter_tests c true p) ++ lengths_faults c p.lengths.given) ≡ [] → is_new c p ≡ true
  parameter_new c h p f =
      let lengths = lengths_typed c (has_types (within s₀ c) declared_nodes h) p.lengths.given (none_right (faults_of p.node.id (parameter_tests c true p)) _ f) in
      let others = (parameter_declared c p).tests ++ signature_tests p true (parameter_declared c p).type in
      let own = tests_in (all_typed c p.lengths.given) (test rules.DeclaredTwice (is_name_declared c p.name) ++ others) lengths
      (unbroken p.node.id (parameter_tests c true p) (none_left (faults_of p.node.id (parameter_tests c true p)) _ f)) in
      let again = unbroken_test rules.DeclaredTwice (is_name_declared c p.name) (first_unbroken (test rules.DeclaredTwice (is_name_declared c p.name)) others own) in
      let later = second_unbroken (test rules.DeclaredTwice (is_name_declared c p.name)) others own in
      let t = parameter_type_known c p lengths (first_unbroken (parameter_declared c p).tests (signature_tests p true (parameter_declared c p).type) later) in
      let signature = subst (λ (o : Option TypeTree). breaks_one (signature_tests p true o) ≡ false) t.is
      (second_unbroken (parameter_declared c p).tests (signature_tests p true (parameter_declared c p).type) later) in
      let named = and_parts (is_scalar t.value) _ (kept_test rules.SignatureType (is_scalar t.value && is_some p.name) signature) in
      and_from _ _ named.1 (not_from_false (is_name_declared c p.name) again)

  pub parameters_new : (ps : List ParameterTree) (c : Context) → Sound (within s₀ c) declared_nodes → are_declared s₀ declared_nodes ps ≡ true → parameters_faults c true ps ≡ []
      → (list_all (is_new c) ps ≡ true) × (differ same_bytes (names_of ps) ≡ true)
  parameters_new [] c h d f = (refl, refl)
  parameters_new (p ∷ ps) c h d f =
      let mine = none_left (faults_of p.node.id (parameter_tests c true p) ++ lengths_faults c p.lengths.given) _ f in
      let own = parameter_new c h p mine in
      let scalar = parameter_scalar s₀ declared_nodes true c h p mine in
      let two = and_parts _ (are_declared s₀ declared_nodes ps) d in
      let rest = parameters_new ps (after_parameter c p) (with_parameter_sound s₀ declared_nodes c h p (parameter_declared c p).type scalar two.0 p.name) two.1
      (none_right (faults_of p.node.id (parameter_tests c true p) ++ lengths_faults c p.lengths.given) _ f) in
      by_name p.name own rest
    where
      by_name : (o : Option (List ℕ)) → (is_some o && not (is_name_declared c o)) ≡ true
          → (list_all (is_new (with_parameter c p (parameter_declared c p).type o)) ps ≡ true) × (differ same_bytes (names_of ps) ≡ true)
          → (((is_some o && not (is_name_declared c o)) && list_all (is_new c) ps) ≡ true) × ((list_all (λ y. not (same_bytes (parameter_name o) y)) (names_of ps) && differ same_bytes (names_of ps)) ≡ true)
      by_name None own rest = cc
      by_name (Some x) own rest =
          let before = new_before c p (parameter_declared c p).type x ps rest.0 in (and_from _ _ own before.0, and_from _ _ before.1 rest.1)

-- ---- functions with bodies (6.9p3)

-- the name stands for a function that has a body
abbrev pub has_body_here : Context → List ℕ → Bool
has_body_here c x = entity_has_body (lookup x c.inner)

pub tag_inner : (c : Context) (tag : List ℕ) → (with_tag c tag).inner ≡ c.inner
tag_inner c tag = by_test (is_some (contexts.tag_place c tag))
  where
    by_test : (b : Bool) → (if b then c else with_new_tag c tag).inner ≡ c.inner
    by_test true = refl
    by_test false = refl

option_inner : (c : Context) (tag : Option (List ℕ)) → (with_option_tag c tag).inner ≡ c.inner
option_inner c None = refl
option_inner c (Some tag) = tag_inner c tag

defined_inner : (c : Context) (ms : List MemberTree) (o : Option ℕ) → (define_at c ms o).inner ≡ c.inner
defined_inner c ms None = refl
defined_inner c ms (Some k) = by_test _ _
  where
    by_test : (b : Bool) (structs : Structs) → (if b then record c { structs = structs } else c).inner ≡ c.inner
    by_test true structs = refl
    by_test false structs = refl

pub struct_inner : (c : Context) (s : StructTree) → (after_struct c s).inner ≡ c.inner
struct_inner c s =
    defined_inner (with_option_tag c s.name) (after_members (with_option_tag c s.name) no_members s.members).members (option_place c s.name) ∙ option_inner c s.name

-- a declaration of another name
past_name : (b : Bool) (e : Entity) (o : Option Entity) → b ≡ false → (if b then Some e else o) ≡ o
past_name true e o h = cc
past_name false e o h = refl

body_declared : (o : Option Entity) → entity_has_body o ≡ true → is_some o ≡ true
body_declared None h = h
body_declared (Some e) h = refl

-- a header keeps the body
body_stays : (o : Option Entity) (node : ℕ) (s : Option Signature) (has_body : Bool) → entity_has_body o ≡ true → entity_has_body (Some (declared_function o node s has_body)) ≡ true
body_stays None node s has_body h = cc
body_stays (Some (local_variable n t)) node s has_body h = cc
body_stays (Some (file_variable n t)) node s has_body h = cc
body_stays (Some (contexts.function n r earlier)) node s has_body h = ap (λ b. b || has_body) h
body_stays (Some (given r)) node s has_body h = cc

-- a body is the first one
body_is_new : (o : Option Entity) (h : Header) → agrees_with o h true ≡ true → entity_has_body o ≡ false
body_is_new None h k = refl
body_is_new (Some (local_variable n t)) h k = refl
body_is_new (Some (file_variable n t)) h k = refl
body_is_new (Some (contexts.function n r earlier)) h k = by_test earlier (and_parts (agree r h) _ k).1
  where
    by_test : (b : Bool) → not (b && true) ≡ true → b ≡ false
    by_test true k = sym k
    by_test false k = refl
body_is_new (Some (given r)) h k = refl

-- and is known behind it
body_is_known : (o : Option Entity) (h : Header) (node : ℕ) (s : Option Signature) → agrees_with o h true ≡ true → entity_has_body (Some (declared_function o node s true)) ≡ true
body_is_known None h node s k = refl
body_is_known (Some (local_variable n t)) h node s k = cc
body_is_known (Some (file_variable n t)) h node s k = cc
body_is_known (Some (contexts.function n r earlier)) h node s k = either earlier
  where
    either : (b : Bool) → (b || true) ≡ true
    either true = refl
    either false = refl
body_is_known (Some (given r)) h node s k = let never = (and_parts (agree (Some r) h) false k).1 in cc

may_be_declared : (c : Context) (f : FunctionTree) → function_faults c f ≡ [] → agrees_with (lookup f.name c.inner) (header_of c f) (is_some f.body) ≡ true
may_be_declared c f h =
    (and_parts (not (contexts.is_type_name c f.name)) _ (kept_test rules.DeclaredTwice (may_declare c f)
    (first_unbroken (keeps rules.DeclaredTwice (may_declare c f)) (result_tests c f ++ main_tests f (header_of c f))
    (unbroken f.node.id (header_tests c f) (none_left (faults_of f.node.id (header_tests c f)) _ h))))).1

pub main_type_kept : (c : Context) (f : FunctionTree) → function_faults c f ≡ [] → breaks_one (main_tests f (header_of c f)) ≡ false
main_type_kept c f h =
    second_unbroken (result_tests c f) (main_tests f (header_of c f))
    (second_unbroken (keeps rules.DeclaredTwice (may_declare c f)) (result_tests c f ++ main_tests f (header_of c f))
    (unbroken f.node.id (header_tests c f) (none_left (faults_of f.node.id (header_tests c f)) _ h)))

module _ (s₀ : Scope) where
  -- a variable has a name that isn't declared
  variable_new : (c : Context) → IsFileScope c → (base : Base) (v : VariableTree) → variable_faults true c (after_variable true c base v) base v ≡ [] → is_declared_here c v.declarator.name ≡ false
  variable_new c h base v own =
      let after = after_variable true c base v in
      let tests = variable_tests true c after base v in
      let parts = none_right (faults_of v.declarator.node.id tests)
      (lengths_faults c v.declarator.lengths.given ++ option_initialiser_faults true after (variable_declared c base v).type v.initialiser) own in
      let initialiser = none_right (lengths_faults c v.declarator.lengths.given)
      (option_initialiser_faults true after (variable_declared c base v).type v.initialiser) parts in
      let typed_lengths = lengths_typed c (has_types (within s₀ c) [] (file_sound s₀ c [] h)) v.declarator.lengths.given (none_left _ _ parts) in
      let others = (variable_declared c base v).tests ++ initialiser_tests true after (variable_declared c base v).type v.initialiser in
      let whole_tests = ap (λ b. breaks_one (if b then [] else again_tests true c v ++ others))
      (sym (not_held_back true after (variable_declared c base v).type v.initialiser initialiser))
      ∙ unbroken v.declarator.node.id tests (none_left (faults_of v.declarator.node.id tests) _ own) in
      neither (contexts.is_type_name c v.declarator.name) (is_declared_here c v.declarator.name)
      (unbroken_test rules.DeclaredTwice (contexts.is_taken true c v.declarator.name)
      (tests_in (all_typed c v.declarator.lengths.given) (test rules.DeclaredTwice (contexts.is_taken true c v.declarator.name)) typed_lengths
      (first_unbroken (again_tests true c v) others whole_tests)))
    where
      neither : (a b : Bool) → (a || b) ≡ false → b ≡ false
      neither true b e = cc
      neither false b e = e

  -- a name that is declared is none of a variable that isn't
  other_name : (c : Context) (x y : List ℕ) → entity_has_body (lookup x c.inner) ≡ true → is_declared_here c y ≡ false → same_bytes y x ≡ false
  other_name c x y h k = by_test (same_bytes y x) refl
    where
      by_test : (b : Bool) → same_bytes y x ≡ b → same_bytes y x ≡ false
      by_test false e = e
      by_test true e =
          let same : is_some (lookup y c.inner) ≡ is_some (lookup x c.inner) = ap (λ (z : List ℕ). is_some (lookup z c.inner)) ((bytes_exact y x).0 e) in
          let there = body_declared (lookup x c.inner) h in cc

  variables_keep : (vs : List VariableTree) (c : Context) (base : Base) → IsFileScope c → variables_faults true c base vs ≡ [] → (x : List ℕ) → has_body_here c x ≡ true → has_body_here (after_variables true c base vs) x ≡ true
  variables_keep [] c base h f x k = k
  variables_keep (v ∷ vs) c base h f x k =
      let after = after_variable true c base v in
      let own = none_left (variable_faults true c after base v) (variables_faults true after base vs) f in
      let rest = none_right (variable_faults true c after base v) (variables_faults true after base vs) f in
      let new = variable_new c h base v own in
      let scope = (file_variables_known s₀ (v ∷ []) c base h (append-nil (variable_faults true c after base v) ∙ own)).scope in
      variables_keep vs after base scope rest x
      (ap entity_has_body (past_name (same_bytes v.declarator.name x) (file_variable v.declarator.node.id (variable_declared c base v).type) (lookup x c.inner) (other_name c x v.declarator.name k new)) ∙ k)

  function_keeps : (f : FunctionTree) (c : Context) (x : List ℕ) → has_body_here c x ≡ true → has_body_here (after_function c f) x ≡ true
  function_keeps f c x k = by_test (same_bytes f.name x) refl
    where
      by_test : (b : Bool) → same_bytes f.name x ≡ b → entity_has_body (if b then Some (declared_function (lookup f.name c.inner) f.node.id (signature_by (header_of c f)) (is_some f.body)) else lookup x c.inner) ≡ true
      by_test false e = k
      by_test true e =
          body_stays (lookup f.name c.inner) f.node.id (signature_by (header_of c f)) (is_some f.body)
          (ap (λ (y : List ℕ). entity_has_body (lookup y c.inner)) ((bytes_exact f.name x).0 e) ∙ k)

  -- a body that is known stays known
  pub body_kept : (d : DeclTree) (c : Context) → IsFileScope c → declaration_faults c d ≡ [] → (x : List ℕ) → has_body_here c x ≡ true → has_body_here (after_declaration c d) x ≡ true
  body_kept (structure s) c h f x k = ap (λ (bs : List Binding). entity_has_body (lookup x bs)) (struct_inner c s) ∙ k
  body_kept (forward g) c h f x k = ap (λ (bs : List Binding). entity_has_body (lookup x bs)) (tag_inner c g.name) ∙ k
  body_kept (typedef g) c h f x k = ap (λ (bs : List Binding). entity_has_body (lookup x bs)) (typedef_inner c g) ∙ k
  body_kept (function g) c h f x k = function_keeps g c x k
  body_kept (variables d) c h f x k = variables_keep d.variables c d.base h f x k

  not_known : (d : DeclTree) (c : Context) → IsFileScope c → declaration_faults c d ≡ [] → (xs : List (List ℕ)) → list_all (λ x. not (has_body_here (after_declaration c d) x)) xs ≡ true → list_all (λ x. not (has_body_here c x)) xs ≡ true
  not_known d c h f [] k = refl
  not_known d c h f (x ∷ xs) k =
      let two = and_parts (not (has_body_here (after_declaration c d) x)) _ k in
      and_from _ _ (by_test (has_body_here c x) (has_body_here (after_declaration c d) x) (body_kept d c h f x) two.0) (not_known d c h f xs two.1)
    where
      by_test : (b e : Bool) → (b ≡ true → e ≡ true) → not e ≡ true → not b ≡ true
      by_test false e g k = refl
      by_test true true g k = k
      by_test true false g k = g refl

  -- the function's own name is known behind it
  own_known : (g : FunctionTree) (c : Context) → agrees_with (lookup g.name c.inner) (header_of c g) (is_some g.body) ≡ true → is_some g.body ≡ true → has_body_here (after_function c g) g.name ≡ true
  own_known g c may body =
      ap (λ b. entity_has_body (if b then Some (declared_function (lookup g.name c.inner) g.node.id (signature_by (header_of c g)) (is_some g.body)) else lookup g.name c.inner)) ((bytes_exact g.name g.name).1 refl)
      ∙ ap (λ b. entity_has_body (Some (declared_function (lookup g.name c.inner) g.node.id (signature_by (header_of c g)) b))) body
      ∙ body_is_known (lookup g.name c.inner) (header_of c g) g.node.id (signature_by (header_of c g)) (ap (agrees_with (lookup g.name c.inner) (header_of c g)) (sym body) ∙ may)

  others_differ : (g : List ℕ) (after : Context) → has_body_here after g ≡ true → (xs : List (List ℕ)) → list_all (λ x. not (has_body_here after x)) xs ≡ true → list_all (λ y. not (bytes_eq g y)) xs ≡ true
  others_differ g after k [] h = refl
  others_differ g after k (x ∷ xs) h =
      let two = and_parts (not (has_body_here after x)) _ h in and_from _ _ (by_test (bytes_eq g x) refl two.0) (others_differ g after k xs two.1)
    where
      by_test : (b : Bool) → bytes_eq g x ≡ b → not (has_body_here after x) ≡ true → not b ≡ true
      by_test false e h = refl
      by_test true e h = let same = ap (has_body_here after) ((bytes_eq-Decides g x).0 e) in let never : not (has_body_here after x) ≡ false = ap not (sym same ∙ k) in cc

  -- functions with bodies have different names
  pub bodies_differ : (ds : UnitTree) (c : Context) → IsFileScope c → declarations_faults c ds ≡ []
      → (list_all (λ x. not (has_body_here c x)) (functions_in ds) ≡ true) × (differ bytes_eq (functions_in ds) ≡ true)
  bodies_differ [] c h f = (refl, refl)
  bodies_differ (d ∷ ds) c h f =
      let own = none_left (declaration_faults c d) (declarations_faults (after_declaration c d) ds) f in
      let scope = (declaration_known s₀ d c h own).scope in
      let rest = bodies_differ ds (after_declaration c d) scope (none_right (declaration_faults c d) (declarations_faults (after_declaration c d) ds) f) in
      by_declaration d (λ xs k. not_known d c h own xs k) own rest
    where
      by_declaration : (d : DeclTree) → ((xs : List (List ℕ)) → list_all (λ x. not (has_body_here (after_declaration c d) x)) xs ≡ true → list_all (λ x. not (has_body_here c x)) xs ≡ true)
          → declaration_faults c d ≡ []
          → (list_all (λ x. not (has_body_here (after_declaration c d) x)) (functions_in ds) ≡ true) × (differ bytes_eq (functions_in ds) ≡ true)
          → (list_all (λ x. not (has_body_here c x)) (functions_in (d ∷ ds)) ≡ true) × (differ bytes_eq (functions_in (d ∷ ds)) ≡ true)
      by_declaration (structure s) still own rest = (still (functions_in ds) rest.0, rest.1)
      by_declaration (forward g) still own rest = (still (functions_in ds) rest.0, rest.1)
      by_declaration (typedef g) still own rest = (still (functions_in ds) rest.0, rest.1)
      by_declaration (variables vs) still own rest = (still (functions_in ds) rest.0, rest.1)
      by_declaration (function g) still own rest = by_body g.body refl
        where
          by_body : (o : Option Stmts) → g.body ≡ o
              → (list_all (λ x. not (has_body_here c x)) (name_with_body g.name o ++ functions_in ds) ≡ true) × (differ bytes_eq (name_with_body g.name o ++ functions_in ds) ≡ true)
          by_body None e = (still (functions_in ds) rest.0, rest.1)
          by_body (Some body) e =
              let may = may_be_declared c g own in
              let has = ap (λ (o : Option Stmts). is_some o) e in (
                and_from _ _ (not_from_false (has_body_here c g.name) (body_is_new (lookup g.name c.inner) (header_of c g) (ap (agrees_with (lookup g.name c.inner) (header_of c g)) (sym has) ∙ may)))
                    (still (functions_in ds) rest.0),
                and_from _ _ (others_differ g.name (after_function c g) (own_known g c may has) (functions_in ds) rest.0) rest.1,
              )
