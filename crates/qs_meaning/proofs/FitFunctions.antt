-- The typed tree of a function fits, and has the signature that its header gives.
use Rattle.std.proofs.Common.{◌≡◌, ◌⊎◌, inl, inr, ℕ, nat_lt, Bool, true, false, cond, not, List, [], ◌∷◌, ◌++◌, length, map, filter, Option, Some, None, option_map, refl, sym, ap, ◌∙◌, subst, if◌then◌else◌, le-leb}
use Rattle.std.proofs.lemmas.Bool.{eq-eqb, and_from}
use Rattle.std.proofs.lemmas.Option.{same_Some}
use Rattle.qs_base.specs.Bytes.{same_bytes}
use Rattle.qs_syntax.specs.Trees.{ParameterTree, FunctionTree, Stmts}
use Rattle.qs_memory.specs.Partial.{◌>>=◌}
use Rattle.qs_memory.specs.Values.{width}
use Rattle.qs_memory.specs.Sizes.{largest_size}
use Rattle.qs_memory.proofs.ScalarLaws.{same_self}
use Rattle.qs_memory.specs.declared.scalar.Scalar.{Scalar}
use Rattle.qs_memory.proofs.Options.{followed}
use Rattle.qs_calls.specs.declared.callee.Callee.TheVariants.{Function, PutChar, GetChar}
use Rattle.qs_calls.specs.declared.parameter.Parameter.{Parameter}
use Rattle.qs_calls.specs.Starts.{Interface, signature_of}
use Rattle.qs_types.specs.Types.{TypeTree, int, unsigned, char, void, pointer, array, struct, is_scalar, Structs}
use Rattle.qs_types.specs.Layout.{and_then, size_of}
use Rattle.qs_types.specs.GivenFunctions.{Signature, putchar_name, main_name}
use Rattle.qs_types.specs.declared.rules.Rule.TheVariants as rules
use Rattle.qs_types.specs.Contexts.{Entity, local_variable, file_variable, function, given, Binding, Context, inner_scope, base_type}
use Rattle.qs_types.specs.Declarations.{undeclared, all_typed, lengths_of, object_declared, element_lengths, first_length, is_length, is_length_typed, has_brackets, array_parameter, held_parameter, plain_parameter, parameter_declared, plain_declared}
use Rattle.qs_types.specs.UnitRules.{with_parameter, after_parameter, parameter_types, result_type, header_of, all_of, signature_by, body_context, with_parameters}
use Rattle.qs_types.specs.Placed.{Local, is_one_of, parameters_locals, statements_locals, addressed_in}
use Rattle.qs_meaning.specs.Typed.{Expr, pointer_to, Lvalue, variable, object, local}
use Rattle.qs_meaning.specs.Typed as typed_trees
use Rattle.qs_meaning.specs.Conversions.{scalar_of}
use Rattle.qs_meaning.specs.Names.{Locals, Statics, Scope, place_among, local_lvalue, function_number}
use Rattle.qs_meaning.specs.Statements.{statements_typed}
use Rattle.qs_meaning.specs.Units.{placed_among, plain_among, variables_among, locals_of, parameters_in, scalars_of, sizes_of, parameter_by, parameter_typed, parameters_typed, result_scalar, in_body, function_with}
use Rattle.qs_meaning.specs.Interfaces.{types_of, signature}
use Rattle.qs_meaning.specs.Fits.{is_size, place_fits, are_small}
use Rattle.qs_meaning.proofs.Options.{never, nothing, went}
use Rattle.qs_meaning.proofs.FitTypes.{is_small, SmallTable, size_room, SmallNames, small_decayed}
use Rattle.qs_meaning.proofs.FitLeaves.{Places, scalar_signature, EntityFits, AllFit}
use Rattle.qs_meaning.proofs.FitSmall.{SmallOption, base_small}
use Rattle.qs_meaning.proofs.FitInitialisers.{LocalPlace, in_variable, in_block}
use Rattle.qs_meaning.proofs.FitDeclarations.{AllPositive, lengths_positive, object_small, plain_small}
use Rattle.qs_meaning.proofs.FitLocals.{In, SmallLocals}
use Rattle.qs_types.specs.Conversions.{decayed}

-- ---- names at file scope

-- what is known of a name at file scope, whatever function stands there
abbrev pub FileFits : Interface → (called : List ℕ → Bool) → Statics → (functions : List (List ℕ)) → Structs → List ℕ → Entity → Type 0
FileFits i called statics functions structs x (local_variable node t) = ⊥
FileFits i called statics functions structs x (file_variable node None) = ⊥
FileFits i called statics functions structs x (file_variable node (Some t)) =
    (nat_lt (place_among node statics.variables) (length i.data_blocks) ≡ true) × (is_small structs t ≡ true)
FileFits i called statics functions structs x (function node None body) = ⊥
FileFits i called statics functions structs x (function node (Some signature) body) =
    (called x ≡ true → signature_of i (Function (record { 0 = function_number x functions })) ≡ Some (scalar_signature signature)) × (is_small structs signature.result ≡ true)
FileFits i called statics functions structs x (given signature) =
    (signature_of i (if same_bytes x putchar_name then PutChar else GetChar) ≡ Some (scalar_signature signature)) × (is_small structs signature.result ≡ true)

abbrev pub AllFile : Interface → (called : List ℕ → Bool) → Statics → (functions : List (List ℕ)) → Structs → List Binding → Type 0
AllFile i called statics functions structs [] = Unit {0}
AllFile i called statics functions structs (b ∷ bs) = FileFits i called statics functions structs b.name b.entity × AllFile i called statics functions structs bs

module _ (i : Interface) (g : typed_trees.Function) (called : List ℕ → Bool) (p : Places) (structs : Structs) where
  in_function : (x : List ℕ) (e : Entity) → FileFits i called p.statics p.functions structs x e → EntityFits i g called p structs x e
  in_function x (local_variable node t) h = absurd h
  in_function x (file_variable node None) h = absurd h
  in_function x (file_variable node (Some t)) h = h
  in_function x (function node None body) h = absurd h
  in_function x (function node (Some signature) body) h = h
  in_function x (given signature) h = h

  pub all_in_function : (bs : List Binding) → AllFile i called p.statics p.functions structs bs → AllFit i g called p structs bs
  all_in_function [] h = tt
  all_in_function (b ∷ bs) h = (in_function b.name b.entity h.0, all_in_function bs h.1)

-- ---- the types of parameters are small

pointed_small : (structs : Structs) (o : Option TypeTree) (t : TypeTree) → ((u : TypeTree) → o ≡ Some u → is_small structs u ≡ true) → option_map pointer o ≡ Some t
    → is_small structs t ≡ true
pointed_small structs None t h e = nothing t e
pointed_small structs (Some u) t h e = subst (λ z. is_small structs z ≡ true) (same_Some _ t e) (h u refl)

adjusted_small : (structs : Structs) (o : Option TypeTree) (t : TypeTree) → ((u : TypeTree) → o ≡ Some u → is_small structs u ≡ true) → option_map decayed o ≡ Some t
    → is_small structs t ≡ true
adjusted_small structs None t h e = nothing t e
adjusted_small structs (Some u) t h e = subst (λ z. is_small structs z ≡ true) (same_Some _ t e) (small_decayed structs u (h u refl))

pub parameter_small : (c : Context) → SmallNames c.structs c.type_names → (p : ParameterTree) (t : TypeTree) → (parameter_declared c p).type ≡ Some t → is_small c.structs t ≡ true
parameter_small c named p t e =
    go (has_brackets p.lengths) (all_typed c (element_lengths p.lengths)) (is_length_typed c (first_length p.lengths)) e
  where
    small : SmallOption c.structs (base_type c p.type_name.base)
    small = base_small c.structs c.type_names named p.type_name.base

    pointer_small : (ns : Option (List ℕ)) → ((ms : List ℕ) → ns ≡ Some ms → AllPositive ms)
        → option_map pointer (object_declared c p.type_name.base p.type_name.stars ns).type ≡ Some t → is_small c.structs t ≡ true
    pointer_small ns h e = pointed_small c.structs (object_declared c p.type_name.base p.type_name.stars ns).type t
        (λ u q. (object_small c (base_type c p.type_name.base) p.type_name.stars ns u small h q).small) e

    chosen : (b : Bool) (ms : List ℕ) → (if b then lengths_of c (element_lengths p.lengths) else None) ≡ Some ms → AllPositive ms
    chosen true ms q = lengths_positive c (element_lengths p.lengths) ms q
    chosen false ms q = nothing ms q

    go : (is_array typed first_is_typed : Bool)
        → (if not is_array then plain_parameter c p else if not typed then undeclared else if first_is_typed then array_parameter c p else held_parameter c p).type ≡ Some t
        → is_small c.structs t ≡ true
    go false typed first e = adjusted_small c.structs (plain_declared (base_type c p.type_name.base) p.type_name.stars).type t
        (λ u q. plain_small c.structs (base_type c p.type_name.base) p.type_name.stars u small q) e
    go true true true e = pointer_small (if is_length c (first_length p.lengths) then lengths_of c (element_lengths p.lengths) else None)
        (chosen (is_length c (first_length p.lengths))) e
    go true true false e = pointer_small (lengths_of c (element_lengths p.lengths)) (λ ms q. lengths_positive c (element_lengths p.lengths) ms q) e
    go true false first e = nothing t e

after_structs : (c : Context) (p : ParameterTree) → (after_parameter c p).structs ≡ c.structs
after_structs c p = go p.name
  where
    go : (x : Option (List ℕ)) → (with_parameter c p (parameter_declared c p).type x).structs ≡ c.structs
    go None = refl
    go (Some x) = refl

after_named : (c : Context) (p : ParameterTree) → SmallNames c.structs c.type_names → SmallNames (after_parameter c p).structs (after_parameter c p).type_names
after_named c p named = go p.name
  where
    go : (x : Option (List ℕ)) → SmallNames (with_parameter c p (parameter_declared c p).type x).structs (with_parameter c p (parameter_declared c p).type x).type_names
    go None = named
    go (Some x) = named

pub parameters_small : (ps : List ParameterTree) (c : Context) → SmallNames c.structs c.type_names → SmallLocals c.structs (parameters_locals ps (parameter_types c ps))
parameters_small [] c named = tt
parameters_small (p ∷ ps) c named = (
  λ t e. parameter_small c named p t e,
  subst (λ z. SmallLocals z (parameters_locals ps (parameter_types (after_parameter c p) ps))) (after_structs c p)
      (parameters_small ps (after_parameter c p) (after_named c p named)),
)

pub with_parameters_named : (ps : List ParameterTree) (ts : List (Option TypeTree)) (c : Context) → SmallNames c.structs c.type_names
    → SmallNames (with_parameters c ps ts).structs (with_parameters c ps ts).type_names
with_parameters_named [] ts c named = named
with_parameters_named (p ∷ ps) [] c named = named
with_parameters_named (p ∷ ps) (t ∷ ts) c named = with_parameters_named ps ts (with_parameter c p t p.name) (go p.name)
  where
    go : (x : Option (List ℕ)) → SmallNames (with_parameter c p t x).structs (with_parameter c p t x).type_names
    go None = named
    go (Some x) = named

-- ---- lists of locals

pub small_in : (structs : Structs) (ls : List Local) (l : Local) → SmallLocals structs ls → In l ls → (t : TypeTree) → l.type ≡ Some t → is_small structs t ≡ true
small_in structs [] l h m t e = absurd m
small_in structs (x ∷ xs) l h (inl s) t e = h.0 t (ap (λ (z : Local). z.type) s ∙ e)
small_in structs (x ∷ xs) l h (inr m) t e = small_in structs xs l h.1 m t e

pub sizes_small : (structs : Structs) → SmallTable structs → (ls : List Local) (sizes : List ℕ) → ((l : Local) → In l ls → (t : TypeTree) → l.type ≡ Some t → is_small structs t ≡ true)
    → sizes_of structs ls ≡ Some sizes → are_small sizes ≡ true
sizes_small structs table [] sizes h e = subst (λ z. are_small z ≡ true) (same_Some [] sizes e) refl
sizes_small structs table (l ∷ ls) sizes h e =
    let n = followed (l.type >>= size_of structs) _ sizes e in
    let rest = followed (sizes_of structs ls) _ sizes n.then in
    let t = followed l.type _ n.value n.first in
    subst (λ z. are_small z ≡ true) (same_Some _ sizes rest.then)
    (and_from _ _ (le-leb n.value largest_size (size_room structs table t.value (h l (inl refl) t.value t.first) n.value t.then).most)
    (sizes_small structs table ls rest.value (λ x m t e. h x (inr m) t e) rest.first))

pub in_filtered : (p : Local → Bool) (l : Local) (xs : List Local) → In l (filter p xs) → In l xs
in_filtered p l [] h = absurd h
in_filtered p l (x ∷ xs) h = go (p x) (λ k. in_filtered p l xs k) h
  where
    go : (b : Bool) → (In l (filter p xs) → In l xs) → In l (cond b (x ∷ filter p xs) (filter p xs)) → (x ≡ l) ⊎ In l xs
    go true later (inl s) = inl s
    go true later (inr k) = inr (later k)
    go false later k = inr (later k)

-- ---- parameters (6.9.1p9, p10)

scalar_width : (structs : Structs) (t : TypeTree) → is_scalar t ≡ true → size_of structs t ≡ Some (width (scalar_of t))
scalar_width structs int e = refl
scalar_width structs unsigned e = refl
scalar_width structs char e = refl
scalar_width structs void e = never e
scalar_width structs (pointer t) e = refl
scalar_width structs (array t n) e = never e
scalar_width structs (struct k) e = never e

is_itself : (n : ℕ) → is_size (Some n) n ≡ true
is_itself n = eq-eqb n n refl

pub parameter_place : (structs : Structs) (g : typed_trees.Function) (t : TypeTree) (k : ℕ) (l : Lvalue) (p : Parameter) → LocalPlace structs g t l → ((x : ℕ) → l ≡ variable x → x ≡ k)
    → is_scalar t ≡ true → parameter_by (scalar_of t) l ≡ Some p → place_fits g.blocks k (scalar_of t) p ≡ true
parameter_place structs g t k _ p (in_variable x) h s e = subst (λ z. place_fits g.blocks k (scalar_of t) z ≡ true) (same_Some _ p e) (eq-eqb x k (h x refl))
parameter_place structs g t k _ p (in_block j room) h s e =
    subst (λ z. place_fits g.blocks k (scalar_of t) z ≡ true) (same_Some _ p e)
    (and_from _ _ (same_self (scalar_of t)) (subst (λ o. is_size o (width (scalar_of t)) ≡ true) (sym (room ∙ scalar_width structs t s)) (is_itself (width (scalar_of t)))))

pub variable_place : (locals : Locals) (node x : ℕ) → local_lvalue locals node ≡ variable x → x ≡ place_among node locals.variables
variable_place locals node x e = go (is_one_of node locals.placed) e
  where
    no : (p : Expr) (x : ℕ) → object p ≡ variable x → ⊥
    no p x e = cc

    same_variable : (k x : ℕ) → variable k ≡ variable x → x ≡ k
    same_variable k x e = cc

    go : (b : Bool) → (if b then object (pointer_to (local (place_among node locals.placed))) else variable (place_among node locals.variables)) ≡ variable x
        → x ≡ place_among node locals.variables
    go true e = absurd (no _ x e)
    go false e = same_variable _ x e

-- ---- functions with a body

abbrev pub body_locals : Scope → FunctionTree → Stmts → List Local
body_locals s f body = statements_locals (body_context s.context f) body

abbrev pub operands_in : Scope → FunctionTree → Stmts → List ℕ
operands_in s f body = addressed_in s.context f body

abbrev pub locals_in : Scope → FunctionTree → Stmts → Locals
locals_in s f body = locals_of (operands_in s f body) (parameters_in s.context f) (body_locals s f body)

-- what the function is made of
pub record Made (s : Scope) (f : FunctionTree) (body : Stmts) (g : typed_trees.Function) : Type 0 where
  pub parameters : List Parameter
  pub scalars : List Scalar
  pub sizes : List ℕ
  pub statements : typed_trees.Stmts
  pub typed_parameters : parameters_typed (locals_in s f body) f.parameters (parameter_types (inner_scope s.context) f.parameters) ≡ Some parameters
  pub of_variables : scalars_of (variables_among (operands_in s f body) (parameters_in s.context f) (body_locals s f body)) ≡ Some scalars
  pub of_blocks : sizes_of s.context.structs (placed_among (operands_in s f body) (parameters_in s.context f ++ body_locals s f body)) ≡ Some sizes
  pub typed_body : statements_typed (in_body s f (locals_in s f body)) body ≡ Some statements
  pub is : g ≡ record {
    name = f.name;
    result = result_scalar (result_type s.context f);
    parameters = parameters;
    variables = scalars;
    blocks = sizes;
    body = statements;
    is_main = same_bytes f.name main_name;
  }

pub made : (s : Scope) (f : FunctionTree) (body : Stmts) (g : typed_trees.Function)
    → function_with s f body (operands_in s f body) (parameters_in s.context f) (body_locals s f body) ≡ Some g → Made s f body g
made s f body g is =
    let ps = followed (parameters_typed (locals_in s f body) f.parameters (parameter_types (inner_scope s.context) f.parameters)) _ g is in
    let vs = followed (scalars_of (variables_among (operands_in s f body) (parameters_in s.context f) (body_locals s f body))) _ g ps.then in
    let ns = followed (sizes_of s.context.structs (placed_among (operands_in s f body) (parameters_in s.context f ++ body_locals s f body))) _ g vs.then in
    let ss = followed (statements_typed (in_body s f (locals_in s f body)) body) _ g ns.then in
    record {
      parameters = ps.value;
      scalars = vs.value;
      sizes = ns.value;
      statements = ss.value;
      typed_parameters = ps.first;
      of_variables = vs.first;
      of_blocks = ns.first;
      typed_body = ss.first;
      is = sym (same_Some _ g ss.then);
    }

taken_types : (locals : Locals) (ps : List ParameterTree) (ts : List (Option TypeTree)) (us : List TypeTree) (rest : List Local) (params : List Parameter) (scs : List Scalar)
    → all_of ts ≡ Some us → scalars_of (parameters_locals ps ts ++ rest) ≡ Some scs → parameters_typed locals ps ts ≡ Some params → types_of params scs ≡ map scalar_of us
taken_types locals [] [] us rest params scs e a b = subst (λ z. types_of z scs ≡ map scalar_of us) (same_Some _ params b) (ap (map scalar_of) (same_Some _ us e))
taken_types locals [] (t ∷ ts) us rest params scs e a b = nothing params b
taken_types locals (p ∷ ps) [] us rest params scs e a b = nothing params b
taken_types locals (p ∷ ps) (None ∷ ts) us rest params scs e a b = nothing us e
taken_types locals (p ∷ ps) (Some t ∷ ts) us rest params scs e a b =
    let x = followed (parameter_typed locals p (Some t)) _ params b in
    let xs = followed (parameters_typed locals ps ts) _ params x.then in
    let later = followed (scalars_of (parameters_locals ps ts ++ rest)) _ scs a in
    let w = went (all_of ts) (λ ts. Some (t ∷ ts)) us e in
    subst (λ z. types_of z scs ≡ map scalar_of us) (same_Some _ params xs.then)
    (subst (λ z. types_of (x.value ∷ xs.value) z ≡ map scalar_of us) (same_Some _ scs later.then)
    (ap (λ z. scalar_of t ∷ z) (taken_types locals ps ts w.value rest xs.value later.value w.had later.first xs.first) ∙ ap (map scalar_of) (same_Some _ us w.gave)))

pub signature_there : (s : Scope) (f : FunctionTree) (body : Stmts) (g : typed_trees.Function) → Made s f body g → (sig : Signature) → signature_by (header_of s.context f) ≡ Some sig
    → signature g ≡ scalar_signature sig
signature_there s f body g m sig e =
    let us = went (all_of (parameter_types (inner_scope s.context) f.parameters)) (λ ts. and_then (result_type s.context f) (λ t. Some (record { parameters = ts; result = t }))) sig e in
    let t = went (result_type s.context f) (λ t. Some (record { parameters = us.value; result = t })) sig us.gave in
    let types = taken_types (locals_in s f body) f.parameters (parameter_types (inner_scope s.context) f.parameters) us.value
    (plain_among (operands_in s f body) (body_locals s f body)) m.parameters m.scalars us.had m.of_variables m.typed_parameters in
    ap signature m.is ∙ ((λ j. record { parameters = types j; result_type = result_scalar (t.had j) }) ∙ ap scalar_signature (same_Some _ sig t.gave))
