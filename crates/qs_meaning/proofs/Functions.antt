-- Where a function breaks no rule, it has a typed tree.
use Rattle.std.proofs.Common.{◌≡◌, ℕ, ◌==◌, Bool, true, false, cond, not, ◌&&◌, ◌||◌, List, [], ◌∷◌, ◌++◌, Option, Some, None, is_some, filter, flat_map, option_map, refl, sym, ap, ◌∙◌, subst, if◌then◌else◌}
use Rattle.std.specs.List.{list_all}
use Rattle.std.proofs.lemmas.Bool.{eqb-true, eq-eqb, or_left, or_right, and_from}
use Rattle.std.specs.Cmp.{first_so, second_so}
use Rattle.qs_syntax.specs.Trees.{ExprTree, LengthsTree, ParameterTree}
use Rattle.qs_memory.specs.Partial.{◌>>=◌}
use Rattle.qs_types.specs.Types.{TypeTree, int, unsigned, char, void, pointer, array, struct, is_scalar, Structs}
use Rattle.qs_types.specs.Layout.{and_then, size_of, is_complete}
use Rattle.qs_types.specs.declared.rules.Rule.TheVariants as rules
use Rattle.qs_types.specs.Rules.{Test, test, breaks_one, faults_of}
use Rattle.qs_types.specs.Contexts.{Context, base_type}
use Rattle.qs_types.specs.Expressions.{type_of}
use Rattle.qs_types.specs.Declarations.{undeclared, all_typed, lengths_faults, has_brackets, lengths_of, object_type, first_in, behind_first, first_length, element_lengths, is_length_typed, is_length, array_parameter, held_parameter, plain_parameter, parameter_declared}
use Rattle.qs_types.specs.Placed.{Local, is_one_of, is_no_scalar, is_placed, addressed, parameters_locals}
use Rattle.qs_types.specs.Sites.{Site}
use Rattle.qs_types.specs.UnitRules.{with_parameter, after_parameter, parameter_types, with_parameters, signature_tests, parameter_tests, parameters_faults, is_name_declared}
use Rattle.qs_meaning.specs.Typed.{variable, object, pointer_to, local}
use Rattle.qs_meaning.specs.Conversions.{scalar_of}
use Rattle.qs_meaning.specs.Names.{Locals, Scope, within, place_among}
use Rattle.qs_meaning.specs.Units.{nodes_of, placed_among, scalars_of, sizes_of, parameter_by, parameter_typed, parameters_typed}
use Rattle.qs_meaning.proofs.Options.{never, Known, known, onward}
use Rattle.qs_meaning.proofs.FaultlessExpressions.{none_left, none_right, unbroken, first_unbroken, second_unbroken, type_known}
use Rattle.qs_meaning.proofs.Bindings.{Sound, has_types}
use Rattle.qs_meaning.proofs.LocalInitialisers.{sites_taken}
use Rattle.qs_meaning.proofs.Bodies.{is_fine_local, locals_fine, is_sized_local, all_sized, lengths_typed}
use Rattle.qs_types.specs.Conversions.{decayed}

-- ---- the locals of a function

-- what stands in the rest of a list stands in the list
in_filtered : (p : Local → Bool) (x : Local) (xs : List Local) (n : ℕ) → is_one_of n (nodes_of (filter p xs)) ≡ true → is_one_of n (nodes_of (filter p (x ∷ xs))) ≡ true
in_filtered p x xs n e = go (p x)
  where
    go : (b : Bool) → is_one_of n (nodes_of (cond b (x ∷ filter p xs) (filter p xs))) ≡ true
    go true = or_right (x.node == n) _ e
    go false = e

kept_first : (p : Local → Bool) (x : Local) (xs : List Local) → p x ≡ true → is_one_of x.node (nodes_of (filter p (x ∷ xs))) ≡ true
kept_first p x xs e = go (p x) e
  where
    go : (b : Bool) → b ≡ true → is_one_of x.node (nodes_of (cond b (x ∷ filter p xs) (filter p xs))) ≡ true
    go true e = or_left (x.node == x.node) _ (eq-eqb x.node x.node refl)
    go false e = never e

-- each local is one of the function's, and placed where it is no scalar
fine_among : (taken : List ℕ) (declared placed : List ℕ) (xs : List Local)
    → ((n : ℕ) → is_one_of n (nodes_of xs) ≡ true → is_one_of n declared ≡ true)
    → ((n : ℕ) → is_one_of n (nodes_of (filter (is_placed taken) xs)) ≡ true → is_one_of n placed ≡ true)
    → locals_fine declared placed xs ≡ true
fine_among taken declared placed [] h k = refl
fine_among taken declared placed (x ∷ xs) h k =
    and_from _ _ (and_from _ _ (h x.node (or_left (x.node == x.node) _ (eq-eqb x.node x.node refl))) (large (is_no_scalar x.type) refl))
    (fine_among taken declared placed xs (λ n e. h n (or_right (x.node == n) _ e)) (λ n e. k n (in_filtered (is_placed taken) x xs n e)))
  where
    large : (b : Bool) → is_no_scalar x.type ≡ b → (not b || is_one_of x.node placed) ≡ true
    large false e = refl
    large true e = k x.node (kept_first (is_placed taken) x xs (or_right (is_one_of x.node taken) _ e))

pub all_fine : (taken : List ℕ) (xs : List Local) → locals_fine (nodes_of xs) (nodes_of (placed_among taken xs)) xs ≡ true
all_fine taken xs = fine_among taken (nodes_of xs) (nodes_of (placed_among taken xs)) xs (λ n e. e) (λ n e. e)

-- an operand of `&` that is one of the locals is placed
addressed_placed : (taken : List ℕ) (n : ℕ) → is_one_of n taken ≡ true → (xs : List Local) →
    (not (is_one_of n (nodes_of xs)) || is_one_of n (nodes_of (filter (is_placed taken) xs))) ≡ true
addressed_placed taken n e [] = refl
addressed_placed taken n e (x ∷ xs) = go (addressed_placed taken n e xs) (x.node == n) refl
  where
    later : (d p : Bool) → (not d || p) ≡ true → (q : Bool) → (p ≡ true → q ≡ true) → (not d || q) ≡ true
    later false p h q f = refl
    later true p h q f = f h

    go : (not (is_one_of n (nodes_of xs)) || is_one_of n (nodes_of (filter (is_placed taken) xs))) ≡ true
        → (b : Bool) → (x.node == n) ≡ b → (not (b || is_one_of n (nodes_of xs)) || is_one_of n (nodes_of (filter (is_placed taken) (x ∷ xs)))) ≡ true
    go rest true h =
        let same_node = eqb-true x.node n h in
        subst (λ m. is_one_of m (nodes_of (filter (is_placed taken) (x ∷ xs))) ≡ true) same_node
        (kept_first (is_placed taken) x xs (or_left (is_one_of x.node taken) _ (subst (λ m. is_one_of m taken ≡ true) (sym same_node) e)))
    go rest false h = later (is_one_of n (nodes_of xs)) (is_one_of n (nodes_of (filter (is_placed taken) xs))) rest _ (in_filtered (is_placed taken) x xs n)

one_left : (n : ℕ) (xs ys : List ℕ) → is_one_of n xs ≡ true → is_one_of n (xs ++ ys) ≡ true
one_left n [] ys e = never e
one_left n (x ∷ xs) ys e = go (λ f. one_left n xs ys f) (x == n) e
  where
    go : (is_one_of n xs ≡ true → is_one_of n (xs ++ ys) ≡ true) → (b : Bool) → (b || is_one_of n xs) ≡ true → (b || is_one_of n (xs ++ ys)) ≡ true
    go later true e = refl
    go later false e = later e

one_right : (n : ℕ) (xs ys : List ℕ) → is_one_of n ys ≡ true → is_one_of n (xs ++ ys) ≡ true
one_right n [] ys e = e
one_right n (x ∷ xs) ys e = or_right (x == n) _ (one_right n xs ys e)

each_node : (q : ℕ → Bool) (ns : List ℕ) → ((n : ℕ) → is_one_of n ns ≡ true → q n ≡ true) → list_all q ns ≡ true
each_node q [] h = refl
each_node q (n ∷ ns) h = and_from _ _ (h n (or_left (n == n) _ (eq-eqb n n refl))) (each_node q ns (λ m e. h m (or_right (n == m) _ e)))

each_site : (declared placed : List ℕ) (sites : List Site)
    → ((n : ℕ) → is_one_of n (flat_map (λ (x : Site). addressed x.context x.expression) sites) ≡ true → (not (is_one_of n declared) || is_one_of n placed) ≡ true)
    → sites_taken declared placed sites ≡ true
each_site declared placed [] h = refl
each_site declared placed (x ∷ xs) h =
    and_from _ _ (each_node _ (addressed x.context x.expression)
    (λ n e. h n (one_left n (addressed x.context x.expression) (flat_map (λ (x : Site). addressed x.context x.expression) xs) e)))
    (each_site declared placed xs (λ n e. h n (one_right n (addressed x.context x.expression) (flat_map (λ (x : Site). addressed x.context x.expression) xs) e)))

pub all_taken : (sites : List Site) (xs : List Local)
    → sites_taken (nodes_of xs) (nodes_of (placed_among (flat_map (λ (x : Site). addressed x.context x.expression) sites) xs)) sites ≡ true
all_taken sites xs =
    let taken = flat_map (λ (x : Site). addressed x.context x.expression) sites in
    each_site (nodes_of xs) (nodes_of (placed_among taken xs)) sites (λ n e. addressed_placed taken n e xs)

-- ---- types and sizes of the locals

typed : (structs : Structs) (o : Option TypeTree) → is_some (and_then o (size_of structs)) ≡ true → Known o
typed structs None e = never e
typed structs (Some t) e = record { value = t; is = refl }

pub scalars_known : (structs : Structs) (p : Local → Bool) (xs : List Local) → all_sized structs xs ≡ true → Known (scalars_of (filter p xs))
scalars_known structs p [] e = record { value = _; is = refl }
scalars_known structs p (x ∷ xs) e = go (scalars_known structs p xs (second_so (is_sized_local structs x) _ e)) (p x)
  where
    go : Known (scalars_of (filter p xs)) → (b : Bool) → Known (scalars_of (cond b (x ∷ filter p xs) (filter p xs)))
    go rest true = onward x.type _ (typed structs x.type (first_so _ _ e)) (onward (scalars_of (filter p xs)) _ rest (record { value = _; is = refl }))
    go rest false = rest

-- behind others
pub scalars_behind : (structs : Structs) (xs ys : List Local) → all_sized structs xs ≡ true → Known (scalars_of ys) → Known (scalars_of (xs ++ ys))
scalars_behind structs [] ys e k = k
scalars_behind structs (x ∷ xs) ys e k =
    onward x.type _ (typed structs x.type (first_so _ _ e))
    (onward (scalars_of (xs ++ ys)) _ (scalars_behind structs xs ys (second_so (is_sized_local structs x) _ e) k) (record { value = _; is = refl }))

pub sizes_known : (structs : Structs) (p : Local → Bool) (xs : List Local) → all_sized structs xs ≡ true → Known (sizes_of structs (filter p xs))
sizes_known structs p [] e = record { value = _; is = refl }
sizes_known structs p (x ∷ xs) e = go (sizes_known structs p xs (second_so (is_sized_local structs x) _ e)) (p x)
  where
    size : (o : Option TypeTree) → is_some (and_then o (size_of structs)) ≡ true → Known (o >>= size_of structs)
    size None e = never e
    size (Some t) e = known (size_of structs t) e

    go : Known (sizes_of structs (filter p xs)) → (b : Bool) → Known (sizes_of structs (cond b (x ∷ filter p xs) (filter p xs)))
    go rest true = onward (x.type >>= size_of structs) _ (size x.type (first_so _ _ e)) (onward (sizes_of structs (filter p xs)) _ rest (record { value = _; is = refl }))
    go rest false = rest

-- ---- parameters (6.7.6.3, 6.9.1)

abbrev pub is_scalar_type : Option TypeTree → Bool
is_scalar_type None = false
is_scalar_type (Some t) = is_scalar t

abbrev pub all_scalar : List (Option TypeTree) → Bool
all_scalar ts = list_all is_scalar_type ts

scalar_size : (structs : Structs) (t : TypeTree) → is_scalar t ≡ true → is_some (size_of structs t) ≡ true
scalar_size structs int e = refl
scalar_size structs unsigned e = refl
scalar_size structs char e = refl
scalar_size structs void e = never e
scalar_size structs (pointer t) e = refl
scalar_size structs (array t n) e = never e
scalar_size structs (struct k) e = never e

scalar_complete : (structs : Structs) (t : TypeTree) → is_scalar t ≡ true → is_complete structs t ≡ true
scalar_complete structs int e = refl
scalar_complete structs unsigned e = refl
scalar_complete structs char e = refl
scalar_complete structs void e = never e
scalar_complete structs (pointer t) e = refl
scalar_complete structs (array t n) e = never e
scalar_complete structs (struct k) e = never e

-- where all lengths have types, those of the elements and the first one do
elements_typed : (c : Context) (l : LengthsTree) → all_typed c l.given ≡ true → all_typed c (element_lengths l) ≡ true
elements_typed c l e = go l.is_open l.given e
  where
    go : (b : Bool) (es : List ExprTree) → all_typed c es ≡ true → all_typed c (if b then es else behind_first es) ≡ true
    go true es e = e
    go false [] e = refl
    go false (x ∷ es) e = second_so (is_some (type_of c x)) _ e

first_typed : (c : Context) (l : LengthsTree) → all_typed c l.given ≡ true → is_length_typed c (first_length l) ≡ true
first_typed c l e = go l.is_open l.given e
  where
    go : (b : Bool) (es : List ExprTree) → all_typed c es ≡ true → is_length_typed c (if b then None else first_in es) ≡ true
    go true es e = refl
    go false [] e = refl
    go false (x ∷ es) e = first_so _ _ e

pub parameter_type_known : (c : Context) (p : ParameterTree) → all_typed c p.lengths.given ≡ true → breaks_one (parameter_declared c p).tests ≡ false → Known
    (parameter_declared c p).type
parameter_type_known c p e h =
    go (has_brackets p.lengths) (all_typed c (element_lengths p.lengths)) (is_length_typed c (first_length p.lengths)) (elements_typed c p.lengths e)
    (first_typed c p.lengths e) h
  where
    lengths : Option (List ℕ)
    lengths = if is_length c (first_length p.lengths) then lengths_of c (element_lengths p.lengths) else None

    element : TypeTree
    element = object_type (base_type c p.type_name.base) p.type_name.stars lengths

    go : (is_array typed first_is_typed : Bool) → typed ≡ true → first_is_typed ≡ true
        → breaks_one
        (if not is_array then plain_parameter c p else if not typed then undeclared else if first_is_typed then array_parameter c p else held_parameter c p).tests
        ≡ false
        → Known (if not is_array then plain_parameter c p else if not typed then undeclared else if first_is_typed then array_parameter c p else held_parameter c p).type
    go false typed first e f h = record { value = _; is = ap (option_map decayed) (type_known (plain_parameter c p).tests _ h) }
    go true true true e f h = record { value = pointer element; is = ap (option_map pointer) (type_known (array_parameter c p).tests element h) }
    go true true false e f h = never f
    go true false first e f h = never e

first_scalar : (t : TypeTree) (b : Bool) → (not (is_scalar t && b) || false) ≡ false → is_scalar t ≡ true
first_scalar t b e = go (is_scalar t) e
  where
    go : (s : Bool) → (not (s && b) || false) ≡ false → s ≡ true
    go true e = refl
    go false e = never (sym e)

pub tests_in : (b : Bool) (ts : List Test) → b ≡ true → breaks_one (if b then ts else []) ≡ false → breaks_one ts ≡ false
tests_in true ts e h = h
tests_in false ts e h = never e

module _ (s₀ : Scope) (declared_nodes : List ℕ) where
  pub with_parameter_sound : (c : Context) → Sound (within s₀ c) declared_nodes → (p : ParameterTree) (o : Option TypeTree) → is_scalar_type o ≡ true
      → is_one_of p.node.id declared_nodes ≡ true
      → (x : Option (List ℕ)) → Sound (within s₀ (with_parameter c p o x)) declared_nodes
  with_parameter_sound c h p o e d None = h
  with_parameter_sound c h p None e d (Some x) = never e
  with_parameter_sound c h p (Some t) e d (Some x) = record {
    names = (record { complete = scalar_complete c.structs t e; is_declared = d; large = λ f. never (sym f ∙ e) }, h.names);
    laid_out = h.laid_out;
    members = h.members;
  }

  abbrev pub are_declared : List ParameterTree → Bool
  are_declared ps = list_all (λ (p : ParameterTree). is_one_of p.node.id declared_nodes) ps

  pub parameter_scalar : (has_body : Bool) (c : Context) → Sound (within s₀ c) declared_nodes → (p : ParameterTree)
      → (faults_of p.node.id (parameter_tests c has_body p) ++ lengths_faults c p.lengths.given) ≡ [] → is_scalar_type (parameter_declared c p).type ≡ true
  parameter_scalar has_body c h p f =
      let lengths = lengths_typed c (has_types (within s₀ c) declared_nodes h) p.lengths.given (none_right (faults_of p.node.id (parameter_tests c has_body p)) _ f) in
      let own = tests_in (all_typed c p.lengths.given) (test rules.DeclaredTwice (is_name_declared c p.name) ++
      ((parameter_declared c p).tests ++ signature_tests p has_body (parameter_declared c p).type)) lengths
      (unbroken p.node.id (parameter_tests c has_body p) (none_left (faults_of p.node.id (parameter_tests c has_body p)) _ f)) in
      let later = second_unbroken (test rules.DeclaredTwice (is_name_declared c p.name))
      ((parameter_declared c p).tests ++ signature_tests p has_body (parameter_declared c p).type) own in
      let t = parameter_type_known c p lengths (first_unbroken (parameter_declared c p).tests (signature_tests p has_body (parameter_declared c p).type) later) in
      let signature = subst (λ o. breaks_one (signature_tests p has_body o) ≡ false) t.is
      (second_unbroken (parameter_declared c p).tests (signature_tests p has_body (parameter_declared c p).type) later) in
      subst (λ o. is_scalar_type o ≡ true) (sym t.is) (first_scalar t.value _ signature)

  pub parameters_scalar : (has_body : Bool) (ps : List ParameterTree) (c : Context) → Sound (within s₀ c) declared_nodes → are_declared ps ≡ true
      → parameters_faults c has_body ps ≡ []
      → all_scalar (parameter_types c ps) ≡ true
  parameters_scalar has_body [] c h d f = refl
  parameters_scalar has_body (p ∷ ps) c h d f =
      let own = parameter_scalar has_body c h p (none_left (faults_of p.node.id (parameter_tests c has_body p) ++ lengths_faults c p.lengths.given) _ f) in
      and_from _ _ own
      (parameters_scalar has_body ps (after_parameter c p) (with_parameter_sound c h p (parameter_declared c p).type own (first_so _ _ d) p.name)
      (second_so (is_one_of p.node.id declared_nodes) _ d)
      (none_right (faults_of p.node.id (parameter_tests c has_body p) ++ lengths_faults c p.lengths.given) _ f))

  -- the body knows the parameters
  pub with_parameters_sound : (ps : List ParameterTree) (ts : List (Option TypeTree)) (c : Context) → Sound (within s₀ c) declared_nodes → are_declared ps ≡ true
      → all_scalar ts ≡ true
      → Sound (within s₀ (with_parameters c ps ts)) declared_nodes
  with_parameters_sound [] ts c h d e = h
  with_parameters_sound (p ∷ ps) [] c h d e = h
  with_parameters_sound (p ∷ ps) (t ∷ ts) c h d e =
      with_parameters_sound ps ts (with_parameter c p t p.name) (with_parameter_sound c h p t (first_so _ _ e) (first_so _ _ d) p.name)
      (second_so (is_one_of p.node.id declared_nodes) _ d) (second_so (is_scalar_type t) _ e)

same_result_one : (c : Context) (p : ParameterTree) (t : Option TypeTree) (x : Option (List ℕ)) → (with_parameter c p t x).result ≡ c.result
same_result_one c p t None = refl
same_result_one c p t (Some x) = refl

pub same_result : (ps : List ParameterTree) (ts : List (Option TypeTree)) (c : Context) → (with_parameters c ps ts).result ≡ c.result
same_result [] ts c = refl
same_result (p ∷ ps) [] c = refl
same_result (p ∷ ps) (t ∷ ts) c = same_result ps ts (with_parameter c p t p.name) ∙ same_result_one c p t p.name

same_structs_one : (c : Context) (p : ParameterTree) (t : Option TypeTree) (x : Option (List ℕ)) → (with_parameter c p t x).structs ≡ c.structs
same_structs_one c p t None = refl
same_structs_one c p t (Some x) = refl

pub same_structs_with : (ps : List ParameterTree) (ts : List (Option TypeTree)) (c : Context) → (with_parameters c ps ts).structs ≡ c.structs
same_structs_with [] ts c = refl
same_structs_with (p ∷ ps) [] c = refl
same_structs_with (p ∷ ps) (t ∷ ts) c = same_structs_with ps ts (with_parameter c p t p.name) ∙ same_structs_one c p t p.name

parameter_known : (locals : Locals) (p : ParameterTree) (o : Option TypeTree) → is_scalar_type o ≡ true → Known (parameter_typed locals p o)
parameter_known locals p None e = never e
parameter_known locals p (Some t) e = go (is_one_of p.node.id locals.placed)
  where
    go : (b : Bool) → Known (parameter_by (scalar_of t) (if b then object (pointer_to (local (place_among p.node.id locals.placed))) else variable
        (place_among p.node.id locals.variables)))
    go true = record { value = _; is = refl }
    go false = record { value = _; is = refl }

pub parameters_known : (locals : Locals) (ps : List ParameterTree) (c : Context) → all_scalar (parameter_types c ps) ≡ true → Known
    (parameters_typed locals ps (parameter_types c ps))
parameters_known locals [] c e = record { value = _; is = refl }
parameters_known locals (p ∷ ps) c e =
    onward (parameter_typed locals p (parameter_declared c p).type) _ (parameter_known locals p (parameter_declared c p).type (first_so _ _ e))
    (onward (parameters_typed locals ps (parameter_types (after_parameter c p) ps)) _
    (parameters_known locals ps (after_parameter c p) (second_so (is_scalar_type (parameter_declared c p).type) _ e))
    (record { value = _; is = refl }))

one_sized : (structs : Structs) (o : Option TypeTree) → is_scalar_type o ≡ true → is_some (and_then o (size_of structs)) ≡ true
one_sized structs None e = never e
one_sized structs (Some t) e = scalar_size structs t e

pub parameters_sized : (structs : Structs) (ps : List ParameterTree) (c : Context) → all_scalar (parameter_types c ps) ≡ true → all_sized structs
    (parameters_locals ps (parameter_types c ps)) ≡ true
parameters_sized structs [] c e = refl
parameters_sized structs (p ∷ ps) c e =
    and_from _ _ (one_sized structs (parameter_declared c p).type (first_so _ _ e))
    (parameters_sized structs ps (after_parameter c p) (second_so (is_scalar_type (parameter_declared c p).type) _ e))

-- the parameters are among the locals
pub parameters_declared : (declared places : List ℕ) (ps : List ParameterTree) (c : Context) → locals_fine declared places (parameters_locals ps (parameter_types c ps)) ≡ true
    → list_all (λ (p : ParameterTree). is_one_of p.node.id declared) ps ≡ true
parameters_declared declared places [] c e = refl
parameters_declared declared places (p ∷ ps) c e =
    and_from _ _ (first_so _ _ (first_so _ _ e)) (parameters_declared declared places ps (after_parameter c p)
    (second_so (is_fine_local declared places (record { node = p.node.id; type = (parameter_declared c p).type })) _ e))
