-- A function that passes on has a derived entry: each of its calls is paid, and what it needs is made of what they need.
use Rattle.std.proofs.Common.{◌≡◌, ℕ, zero, suc, refl, sym, ap, ◌∙◌, subst, Bool, true, false, List, [], ◌∷◌, length, Some, None}
use Rattle.std.specs.Prelude.{◌&&◌, ◌||◌, not, is_none, if◌then◌else◌, map, Option, option_map}
use Rattle.std.specs.List.{slice_get, find, list_all}
use Rattle.std.proofs.lemmas.Bool.{and_parts, or_right, not-true}
use Rattle.qs_memory.specs.Partial.{◌>>=◌, only_if}
use Rattle.qs_memory.specs.Scalars.{is_type}
use Rattle.qs_memory.specs.declared.scalar.Scalar.{Scalar}
use Rattle.qs_memory.specs.declared.scalar.Scalar.TheVariants as scalars
use Rattle.qs_assert.specs.declared.variable.Var.{Var}
use Rattle.qs_assert.specs.declared.variable.VarKind.TheVariants as kinds
use Rattle.qs_assert.specs.Order.{IsInOrder}
use Rattle.qs_assert.specs.Sameness.{same_assertion}
use Rattle.qs_assert.specs.Simultaneous.{terms_for, or_itself, first_without}
use Rattle.qs_assert.specs.Trees.{TermTree, variable, AssertionTree, cost, total, assertions_of}
use Rattle.qs_assert.specs.Trees as tree
use Rattle.qs_assert.specs.Variables.{variables}
use Rattle.qs_assert.proofs.SamenessLaws.{assertion_self}
use Rattle.qs_core.specs.Expressions.{type_of}
use Rattle.qs_core.specs.Fits.{expr_fits, exprs_fit, stmts_fit, unit_fits}
use Rattle.qs_core.specs.Interfaces.{variable_type, types_of}
use Rattle.qs_core.specs.Terms.{if_integer, literal_value}
use Rattle.qs_core.specs.TermTrees as terms
use Rattle.qs_core.specs.Trees as core
use Rattle.qs_core.specs.Trees.{CoreExprTree, CoreParameterTree, CoreVariableTree, CoreFunctionTree, CoreUnitTree}
use Rattle.qs_core.proofs.FitLaws.{function_at_fits}
use Rattle.qs_entail.specs.Certificates.{CertTree}
use Rattle.qs_entail.specs.Verdicts.{verdict}
use Rattle.qs_triples.specs.Derivations.{ProofsTree, spec_of}
use Rattle.qs_triples.specs.Entries.{scope_of, IsDerived}
use Rattle.qs_triples.specs.ExpressionTerms.{term_tree, expression_term}
use Rattle.qs_triples.specs.Mentions.{is_plain_parameter, argument_term, pre_images, has_plain_parameter}
use Rattle.qs_triples.specs.Rules.{at_call, two}
use Rattle.qs_triples.specs.Valuations.{is_own}
use Rattle.qs_triples.proofs.ArgumentLaws.{argument_fits}
use Rattle.qs_recur.specs.Bodies.{CallTree, all_calls_made, all_switches_fit, one_assigns}
use Rattle.qs_recur.specs.Needs.{Preconditions, unsigned, is_unsigned, is_fixed, is_fixed_if, fixed_at, arguments_fixed, call_need, passed_call, passed_calls, greatest_of, passing_fits, end_fits, passing, balanced}
use Rattle.qs_recur.specs.Passing.{assumed, picked, picked_if, pay_passing, passing_entry}
use Rattle.qs_recur.specs.Sizes.{is_short}
use Rattle.qs_recur.proofs.AroundLaws.{IsPaid}
use Rattle.qs_recur.proofs.CountedLaws.{HasTypes, ArgumentsFit, all_arguments_fit}
use Rattle.qs_recur.proofs.CountingLaws.{own_is}
use Rattle.qs_recur.proofs.FitLaws.{Each}
use Rattle.qs_recur.proofs.GuardedLaws.{guards_and, guarded, only_one, assumed_holds, is_one_of, picked_holds}
use Rattle.qs_recur.proofs.NeedLaws.{Every, IsCount, IsNeed, AllNeeds, need_variables, need_with, need_image}
use Rattle.qs_recur.proofs.PassingLaws.{every_map, IsPassed, xs, held, each_counts, passing_derived}
use Rattle.qs_recur.proofs.TestLaws.{step_before, test_before, some_same}

-- ---- arguments

unsigned_is : (s : Scalar) → is_unsigned (Some s) ≡ true → s ≡ scalars.Unsigned
unsigned_is scalars.Char h = cc
unsigned_is scalars.Int h = cc
unsigned_is scalars.Unsigned h = refl
unsigned_is scalars.Pointer h = cc

is_unsigned_type : (o : Option Scalar) → is_type o scalars.Unsigned ≡ true → is_unsigned o ≡ true
is_unsigned_type None h = cc
is_unsigned_type (Some scalars.Char) h = cc
is_unsigned_type (Some scalars.Int) h = cc
is_unsigned_type (Some scalars.Unsigned) h = refl
is_unsigned_type (Some scalars.Pointer) h = cc

-- a plain parameter of type `unsigned` is one of the parameters' types
type_at :
    (ps : List CoreParameterTree) (vs : List CoreVariableTree) (i : ℕ) → is_plain_parameter (slice_get ps i) ≡ true → is_unsigned (option_map (λ (v : CoreVariableTree). v.scalar) (slice_get vs i)) ≡ true
    → slice_get (types_of ps vs) i ≡ Some scalars.Unsigned
type_at [] vs i h e = cc
type_at (p ∷ ps) [] i h e = cc
type_at (p ∷ ps) (v ∷ vs) zero h e = ap (λ (s : Scalar). Some s) (unsigned_is v.scalar e)
type_at (p ∷ ps) (v ∷ vs) (suc i) h e = type_at ps vs i h e

pub record IsAt (es : List CoreExprTree) (i : ℕ) (s : Scalar) : Type 0 where
  pub argument : CoreExprTree
  pub there : slice_get es i ≡ Some argument
  pub typed : type_of argument ≡ s

argument_of : (es : List CoreExprTree) (i : ℕ) (s : Scalar) → slice_get (map type_of es) i ≡ Some s → IsAt es i s
argument_of [] i s h = cc
argument_of (e ∷ es) zero s h = record { argument = e; there = refl; typed = some_same (type_of e) s h }
argument_of (e ∷ es) (suc i) s h =
    let w = argument_of es i s h in
    record { argument = w.argument; there = w.there; typed = w.typed }

-- a literal or a parameter has a term
pub record HasCount (function : CoreFunctionTree) (e : CoreExprTree) : Type 0 where
  pub term : TermTree
  pub is : expression_term e ≡ Some term
  pub counts : IsCount (IsPassed function) term

fixed_count : (u : CoreUnitTree) (function : CoreFunctionTree) (e : CoreExprTree) → is_fixed function e ≡ true → expr_fits u function e ≡ true → type_of e ≡ scalars.Unsigned → HasCount function e
fixed_count u function (core.literal s n) h fits t = record {
  term = tree.number (literal_value s n);
  is = ap (λ (r : Scalar). option_map term_tree (if_integer r (terms.number (literal_value s n)))) t;
  counts = tt;
}
fixed_count u function (core.variable s x) h fits t =
    let p = and_parts (has_plain_parameter function x) (not (one_assigns x function.body)) h in
    record {
      term = variable (unsigned (kinds.Plain x));
      is = ap (λ (r : Scalar). option_map term_tree (if_integer r (terms.variable r x))) t;
      counts = record {
        parameter = x;
        is = refl;
        plain = p.0;
        type_is = is_unsigned_type (variable_type function x) (sym (ap (λ (r : Scalar). is_type (variable_type function x) r) t) ∙ fits);
        fixed = not-true (one_assigns x function.body) p.1;
      };
    }
fixed_count u function core.null_pointer h fits t = cc
fixed_count u function (core.temporary s k) h fits t = cc
fixed_count u function (core.address_of b) h fits t = cc
fixed_count u function (core.load s a) h fits t = cc
fixed_count u function (core.member offset a) h fits t = cc
fixed_count u function (core.unary op a) h fits t = cc
fixed_count u function (core.binary op a b) h fits t = cc
fixed_count u function (core.conversion s a) h fits t = cc
fixed_count u function (core.logical_and a b) h fits t = cc
fixed_count u function (core.logical_or a b) h fits t = cc
fixed_count u function (core.conditional c a b) h fits t = cc

-- ---- a call

fixed_each : (function : CoreFunctionTree) (es : List CoreExprTree) (vs : List Var) → list_all (λ (x : Var). fixed_at function es x.kind) vs ≡ true → Every (λ v. fixed_at function es v.kind ≡ true) vs
fixed_each function es [] h = tt
fixed_each function es (v ∷ vs) h =
    let p = and_parts (fixed_at function es v.kind) (list_all (λ (x : Var). fixed_at function es x.kind) vs) h in
    (p.0, fixed_each function es vs p.1)

none_lacks : (m : Var → Option TermTree) (vs : List Var) → Every (λ v. is_none (m v) ≡ false) vs → find (λ v. is_none (m v)) vs ≡ None
none_lacks m [] h = refl
none_lacks m (v ∷ vs) h = ap (λ (b : Bool). if b then Some v else find (λ v. is_none (m v)) vs) h.0 ∙ none_lacks m vs h.1

-- a variable of the callee's precondition, whose argument is fixed
pub record IsGiven (callee : CoreFunctionTree) (function : CoreFunctionTree) (es : List CoreExprTree) (v : Var) : Type 0 where
  pub passed : IsPassed callee v
  pub fixed : fixed_at function es v.kind ≡ true

module _ (u : CoreUnitTree) (function : CoreFunctionTree) (call : CallTree) (fits : exprs_fit u function call.arguments ≡ true) (typed : HasTypes u call) where
  abbrev callee : CoreFunctionTree
  callee = typed.callee

  abbrev es : List CoreExprTree
  es = call.arguments

  abbrev images : Var → Option TermTree
  images = pre_images callee es

  -- what stands for it is a number or a parameter
  pub record HasImage (v : Var) : Type 0 where
    pub term : TermTree
    pub is : images v ≡ Some term
    pub counts : IsCount (IsPassed function) term

  image_of : (v : Var) → IsGiven callee function es v → HasImage v
  image_of v g = subst HasImage (sym g.passed.is) (by g.passed.parameter g.passed.plain g.passed.type_is (subst (λ (v : Var). fixed_at function es v.kind ≡ true) g.passed.is g.fixed))
    where
      by : (i : ℕ) → has_plain_parameter callee i ≡ true → is_unsigned (variable_type callee i) ≡ true → is_fixed_if function (slice_get es i) ≡ true → HasImage (unsigned (kinds.Plain i))
      by i plain type_is fixed =
          let a = argument_of es i scalars.Unsigned (ap (λ (ts : List Scalar). slice_get ts i) typed.types ∙ type_at callee.parameters callee.variables i plain type_is) in
          let c = fixed_count u function a.argument (sym (ap (is_fixed_if function) a.there) ∙ fixed) (argument_fits u function es i a.argument fits a.there) a.typed in
          record {
            term = c.term;
            is =
                ap (λ (b : Bool). only_if b (argument_term es i)) (ap (λ (b : Bool). b && is_own callee (unsigned (kinds.Plain i))) plain ∙ own_is (variable_type callee i) type_is)
                ∙ ap (λ (o : Option CoreExprTree). o >>= expression_term) a.there ∙ c.is;
            counts = c.counts;
          }

  module _ (pre : AssertionTree) (is : IsNeed (IsPassed callee) pre) (fixed : arguments_fixed function es pre ≡ true) where
    each_given : Every (IsGiven callee function es) (variables pre)
    each_given = both (variables pre) (need_variables (IsPassed callee) pre is) (fixed_each function es (variables pre) fixed)
      where
        both : (vs : List Var) → Every (IsPassed callee) vs → Every (λ v. fixed_at function es v.kind ≡ true) vs → Every (IsGiven callee function es) vs
        both [] h e = tt
        both (v ∷ vs) h e = (record { passed = h.0; fixed = e.0 }, both vs h.1 e.1)

    pub terms_there : first_without images pre ≡ None
    terms_there =
        none_lacks images (variables pre) (every_map (IsGiven callee function es) (λ v. is_none (images v) ≡ false) (λ v g. ap is_none (image_of v g).is) (variables pre) each_given)

    given_need : IsNeed (IsGiven callee function es) pre
    given_need =
        need_with (IsPassed callee) (λ v. fixed_at function es v.kind ≡ true) (IsGiven callee function es) (λ v p e. record { passed = p; fixed = e }) pre is
        (fixed_each function es (variables pre) fixed)

    pub need_at_call : IsNeed (IsPassed function) (at_call images pre)
    need_at_call =
        need_image (IsGiven callee function es) (IsPassed function) (terms_for images)
        (λ v g. let i = image_of v g in subst (λ (o : Option TermTree). IsCount (IsPassed function) (or_itself o v)) (sym i.is) i.counts) pre given_need

-- ---- all calls

-- what a call needs is one of these
pub record IsAmong (u : CoreUnitTree) (pres : Preconditions) (function : CoreFunctionTree) (needs : List AssertionTree) (call : CallTree) : Type 0 where
  pub need : AssertionTree
  pub passed : passed_call u pres function call ≡ Some need
  pub one_of : is_one_of need needs ≡ true

all_among :
    (u : CoreUnitTree) (pres : Preconditions) (function : CoreFunctionTree) (whole : List AssertionTree) (calls : List CallTree) (needs : List AssertionTree) → passed_calls u pres function calls ≡ Some needs
    → ((a : AssertionTree) → is_one_of a needs ≡ true → is_one_of a whole ≡ true) → Each (IsAmong u pres function whole) calls
all_among u pres function whole [] needs h within = tt
all_among u pres function whole (call ∷ calls) needs h within =
    let p = step_before (passed_call u pres function call) (λ a. passed_calls u pres function calls >>= λ others. Some (a ∷ others)) needs h in
    let q = step_before (passed_calls u pres function calls) (λ others. Some (p.0 ∷ others)) needs p.2 in
    let wider = λ (a : AssertionTree) (e : is_one_of a (p.0 ∷ q.0) ≡ true). within a (subst (λ (ns : List AssertionTree). is_one_of a ns ≡ true) (some_same (p.0 ∷ q.0) needs q.2) e) in (
      record { need = p.0; passed = p.1; one_of = wider p.0 (ap (λ (b : Bool). b || is_one_of p.0 q.0) (assertion_self p.0)) },
      all_among u pres function whole calls q.0 q.1 (λ a e. wider a (or_right (same_of p.0 a) (is_one_of a q.0) e)),
    )
  where
    same_of : AssertionTree → AssertionTree → Bool
    same_of b a = same_assertion b a

module _ (u : CoreUnitTree) (pres : Preconditions) (f : ℕ) (function : CoreFunctionTree) (stands : slice_get u.functions f ≡ Some function) where
  -- what the functions that it calls need is made so
  abbrev pub CalleesNeed : List CallTree → Type 0
  CalleesNeed calls = Each (λ call. (callee : CoreFunctionTree) (pre : AssertionTree) → slice_get u.functions call.function ≡ Some callee → pres call.function ≡ Some pre → IsNeed (IsPassed callee) pre) calls

  pub record IsPassedCall (call : CallTree) (typed : HasTypes u call) (need : AssertionTree) : Type 0 where
    pub pre : AssertionTree
    pub has : pres call.function ≡ Some pre
    pub fixed : arguments_fixed function call.arguments pre ≡ true
    pub is : need ≡ total (two (cost call.function) (at_call (pre_images typed.callee call.arguments) pre))

  call_is : (call : CallTree) (typed : HasTypes u call) (need : AssertionTree) → passed_call u pres function call ≡ Some need → IsPassedCall call typed need
  call_is call typed need h =
      let p = step_before (pres call.function) (λ pre. only_if (arguments_fixed function call.arguments pre) (call_need u call pre)) need h in
      let q = test_before (arguments_fixed function call.arguments p.0) (call_need u call p.0) need p.2 in
      record {
        pre = p.0;
        has = p.1;
        fixed = q.0;
        is =
            sym
            (some_same (total (two (cost call.function) (at_call (pre_images typed.callee call.arguments) p.0))) need
            (sym (ap (λ (o : Option CoreFunctionTree). o >>= λ g. Some (total (two (cost call.function) (at_call (pre_images g call.arguments) p.0)))) typed.there) ∙ q.1));
      }

  needs_made : (calls : List CallTree) (needs : List AssertionTree) → passed_calls u pres function calls ≡ Some needs → Each (ArgumentsFit u function) calls → CalleesNeed calls → AllNeeds (IsPassed function) (assertions_of needs)
  needs_made [] needs h fit made = subst (λ (ns : List AssertionTree). AllNeeds (IsPassed function) (assertions_of ns)) (some_same [] needs h) tt
  needs_made (call ∷ calls) needs h fit made =
      let p = step_before (passed_call u pres function call) (λ a. passed_calls u pres function calls >>= λ others. Some (a ∷ others)) needs h in
      let q = step_before (passed_calls u pres function calls) (λ others. Some (p.0 ∷ others)) needs p.2 in
      let w = call_is call fit.0.1 p.0 p.1 in
      subst (λ (ns : List AssertionTree). AllNeeds (IsPassed function) (assertions_of ns)) (some_same (p.0 ∷ q.0) needs q.2)
      (subst (IsNeed (IsPassed function)) (sym w.is) (tt, (need_at_call u function call fit.0.0 fit.0.1 w.pre (made.0 fit.0.1.callee w.pre fit.0.1.there w.has) w.fixed, tt)), needs_made calls q.0 q.1 fit.1 made.1)

  greatest_made : (needs : List AssertionTree) → AllNeeds (IsPassed function) (assertions_of needs) → IsNeed (IsPassed function) (greatest_of needs)
  greatest_made [] h = refl
  greatest_made (a ∷ []) h = h.0
  greatest_made (a ∷ b ∷ needs) h = h

  -- ---- where it passes

  pub record IsPassing (needs : List AssertionTree) : Type 0 where
    pub passed : passed_calls u pres function (all_calls_made function.body) ≡ Some needs
    pub end : end_fits function (variables (greatest_of needs)) ≡ true

  passing_is : (needs : List AssertionTree) → passing u pres function ≡ Some needs → IsPassing needs
  passing_is needs h =
      let next = λ (parts : List AssertionTree). only_if (passing_fits function (greatest_of parts)) (Some parts) in
      let p = step_before (only_if (all_switches_fit function.body) (passed_calls u pres function (all_calls_made function.body))) next needs h in
      let q = test_before (all_switches_fit function.body) (passed_calls u pres function (all_calls_made function.body)) p.0 p.1 in
      let r = test_before (passing_fits function (greatest_of p.0)) (Some p.0) needs p.2 in
      let e = and_parts (is_short (greatest_of p.0)) (end_fits function (variables (greatest_of p.0))) r.0 in
      subst IsPassing (some_same p.0 needs r.1) (record { passed = q.1; end = e.1 })

  module _ (fits : unit_fits u ≡ true) (made : CalleesNeed (all_calls_made function.body)) (needs : List AssertionTree) (passes : passing u pres function ≡ Some needs) where
    body_typed : stmts_fit u function false false function.body ≡ true
    body_typed = (function_at_fits u fits f function stands).body

    all_fit : Each (ArgumentsFit u function) (all_calls_made function.body)
    all_fit = all_arguments_fit u function function.body false false body_typed

    is_passing : IsPassing needs
    is_passing = passing_is needs passes

    pub passing_need_made : IsNeed (IsPassed function) (greatest_of needs)
    passing_need_made = greatest_made needs (needs_made (all_calls_made function.body) needs is_passing.passed all_fit made)

    module _ (proofs : ProofsTree) (order : IsInOrder proofs.defines) (specs : (g : ℕ) (pre : AssertionTree) → pres g ≡ Some pre → spec_of proofs g ≡ Some (balanced pre)) where
      abbrev around : AssertionTree
      around = held u pres f function stands needs passing_need_made

      abbrev named : List Var
      named = xs u pres f function stands needs passing_need_made

      abbrev pay : ℕ → List CoreExprTree → CertTree
      pay = pay_passing u pres function needs

      call_shown : (call : CallTree) (a : AssertionTree) → passed_call u pres function call ≡ Some a → is_one_of a needs ≡ true → verdict [] proofs.defines around a (pay call.function call.arguments) ≡ None
      call_shown call a passed one =
          ap (λ (o : Option AssertionTree). verdict [] proofs.defines around a (assumed (length named) (picked_if o needs))) passed
          ∙ assumed_holds named (picked a needs) proofs.defines [] only_one (greatest_of needs) a (each_counts u pres f function stands needs passing_need_made)
          (picked_holds a needs proofs.defines (record { conditions = guards_and named []; polynomials = guarded named only_one }) one)

      call_paid :
          (call : CallTree) → ArgumentsFit u function call → ((callee : CoreFunctionTree) (pre : AssertionTree) → slice_get u.functions call.function ≡ Some callee → pres call.function ≡ Some pre → IsNeed (IsPassed callee) pre)
          → IsAmong u pres function needs call → IsPaid around (pay call.function call.arguments) (scope_of u proofs function) call.function call.arguments
      call_paid call fit need_of w =
          let typed = fit.1 in
          let i = call_is call typed w.need w.passed in
          record {
            function = typed.callee;
            spec = balanced i.pre;
            stands = typed.there;
            has_spec = specs call.function i.pre i.has;
            balanced = assertion_self (balanced i.pre).post;
            has_terms = terms_there u function call fit.0 typed i.pre (need_of typed.callee i.pre typed.there i.has) i.fixed;
            paid = subst (λ (a : AssertionTree). verdict [] proofs.defines around a (pay call.function call.arguments) ≡ None) i.is (call_shown call w.need w.passed w.one_of);
          }

      calls_paid : (calls : List CallTree) → Each (ArgumentsFit u function) calls → CalleesNeed calls → Each (IsAmong u pres function needs) calls → Each (λ call. IsPaid around (pay call.function call.arguments) (scope_of u proofs function) call.function call.arguments) calls
      calls_paid [] fit need_of among = tt
      calls_paid (call ∷ calls) fit need_of among = (call_paid call fit.0 need_of.0 among.0, calls_paid calls fit.1 need_of.1 among.1)

      pub passed_derived : IsDerived u proofs (passing_entry u pres function needs f)
      passed_derived =
          passing_derived u pres f function stands needs passing_need_made proofs order body_typed is_passing.end
          (calls_paid (all_calls_made function.body) all_fit made (all_among u pres function needs (all_calls_made function.body) needs is_passing.passed (λ a h. h)))
