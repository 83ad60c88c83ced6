-- Arguments and parameters: the terms of the arguments have the numbers of the parameters.
use Rattle.std.proofs.Common.{◌≡◌, ℕ, zero, suc, ◌+◌, ◌<◌, ◌==◌, ◌&&◌, true, false, if◌then◌else◌, List, [], ◌∷◌, map, Option, Some, option_map, refl, sym, ap, ◌∙◌, arith}
use Rattle.std.specs.Prelude.{bytes_eq}
use Rattle.std.specs.List.{slice_get}
use Rattle.std.proofs.lemmas.Bool.Decides.{nat_tests}
use Rattle.std.proofs.lemmas.Bool.{and_parts}
use Rattle.std.proofs.lemmas.Option.{same_Some}
use Rattle.qs_memory.specs.Partial.{◌>>=◌, only_if}
use Rattle.qs_memory.specs.Values.{Value}
use Rattle.qs_memory.specs.Memory.{Memory}
use Rattle.qs_memory.specs.declared.scalar.Scalar.{Scalar}
use Rattle.qs_memory.proofs.Options.{followed}
use Rattle.qs_calls.specs.World.{Environment, no_values, with_value}
use Rattle.qs_calls.specs.declared.parameter.Parameter.{Parameter}
use Rattle.qs_calls.specs.declared.parameter.Parameter.TheVariants.{Plain, Placed}
use Rattle.qs_assert.specs.declared.variable.NumberType.{NumberType}
use Rattle.qs_assert.specs.declared.variable.NumberType.TheVariants as numbers
use Rattle.qs_assert.specs.declared.variable.VarKind.{VarKind}
use Rattle.qs_assert.specs.declared.variable.Var.{Var}
use Rattle.qs_assert.specs.Substitution.{same_number_type}
use Rattle.qs_assert.specs.Trees.{TermTree}
use Rattle.qs_assert.specs.Values.{State, term_value}
use Rattle.qs_core.specs.Trees.{CoreExprTree, CoreParameterTree, CoreVariableTree, CoreFunctionTree, CoreUnitTree}
use Rattle.qs_core.specs.Expressions as expressions
use Rattle.qs_core.specs.Expressions.{Locals, value, values, type_of}
use Rattle.qs_core.specs.Interfaces.{variable_type, types_of, parameter_types}
use Rattle.qs_core.specs.Fits.{expr_fits, exprs_fit, place_fits, parameter_fits, parameters_fit}
use Rattle.qs_triples.specs.Valuations.{number_type, if_number, own_type, is_number_type, is_own, Valuation, value_of, number_at, passed, entered}
use Rattle.qs_triples.specs.Mentions.{is_plain, is_plain_parameter, has_plain_parameter, argument_term}
use Rattle.qs_triples.proofs.ValuationLaws.{own_number}
use Rattle.qs_triples.proofs.TermLaws.{Stands}

-- ---- parameters

-- an argument for a later parameter changes no earlier variable
passed_before :
    (blocks : List ℕ) (n : ℕ) (ps : List CoreParameterTree) (xs : List CoreVariableTree) (vs : List Value) (e : Environment) (i : ℕ)
    → parameters_fit blocks n ps xs ≡ true → i < n → passed (map (λ p. p.place) ps) vs e i ≡ e i
passed_before blocks n [] xs vs e i fit before = refl
passed_before blocks n (p ∷ ps) [] vs e i fit before = cc
passed_before blocks n (p ∷ ps) (x ∷ xs) [] e i fit before = refl
passed_before blocks n (p ∷ ps) (x ∷ xs) (v ∷ vs) e i fit before =
    let two = and_parts (parameter_fits blocks n p x) (parameters_fit blocks (n + 1) ps xs) fit in
    let place = (and_parts (bytes_eq p.name x.name && x.ordinal == 1) (place_fits blocks n x.scalar p.place) two.0).1 in
    by p.place place (λ d. passed_before blocks (n + 1) ps xs vs d i two.1 (omega arith))
  where
    unlike : (k : ℕ) → (k == n) ≡ true → (i == k) ≡ false
    unlike k h = grind (arith, nat_tests, h, before)

    by :
        (place : Parameter) → place_fits blocks n x.scalar place ≡ true → ((d : Environment) → passed (map (λ p. p.place) ps) vs d i ≡ d i)
        → passed (place ∷ map (λ p. p.place) ps) (v ∷ vs) e i ≡ e i
    by (Plain k) h others = others (with_value e k v) ∙ ap (λ b. if b then Some v else e i) (unlike k h)
    by (Placed b t) h others = others e

-- a plain parameter gets the value of its argument
passed_at :
    (blocks : List ℕ) (n : ℕ) (ps : List CoreParameterTree) (xs : List CoreVariableTree) (vs : List Value) (e : Environment) (i : ℕ) (v : Value)
    → parameters_fit blocks n ps xs ≡ true → is_plain_parameter (slice_get ps i) ≡ true → slice_get vs i ≡ Some v
    → passed (map (λ p. p.place) ps) vs e (n + i) ≡ Some v
passed_at blocks n [] xs vs e i v fit plain is = cc
passed_at blocks n (p ∷ ps) [] vs e i v fit plain is = cc
passed_at blocks n (p ∷ ps) (x ∷ xs) [] e i v fit plain is = cc
passed_at blocks n (p ∷ ps) (x ∷ xs) (w ∷ vs) e zero v fit plain is =
    let two = and_parts (parameter_fits blocks n p x) (parameters_fit blocks (n + 1) ps xs) fit in
    let place = (and_parts (bytes_eq p.name x.name && x.ordinal == 1) (place_fits blocks n x.scalar p.place) two.0).1 in
    by p.place place plain two.1
  where
    by : (place : Parameter) → place_fits blocks n x.scalar place ≡ true → is_plain place ≡ true → parameters_fit blocks (n + 1) ps xs ≡ true → passed (place ∷ map (λ p. p.place) ps) (w ∷ vs) e (n + 0) ≡ Some v
    by (Plain k) h plain others =
        let here : ((n + 0) == k) ≡ true = grind (arith, nat_tests, h) in
        passed_before blocks (n + 1) ps xs vs (with_value e k w) (n + 0) others (omega arith)
        ∙ ap (λ b. if b then Some w else e (n + 0)) here ∙ is
    by (Placed b t) h plain others = cc
passed_at blocks n (p ∷ ps) (x ∷ xs) (w ∷ vs) e (suc i) v fit plain is =
    let two = and_parts (parameter_fits blocks n p x) (parameters_fit blocks (n + 1) ps xs) fit in
    let same : n + suc i ≡ n + 1 + i = omega arith in
    by p.place (λ d. ap (λ (j : ℕ). passed (map (λ p. p.place) ps) vs d j) same ∙ passed_at blocks (n + 1) ps xs vs d i v two.1 plain is)
  where
    by :
        (place : Parameter) → ((d : Environment) → passed (map (λ p. p.place) ps) vs d (n + suc i) ≡ Some v)
        → passed (place ∷ map (λ p. p.place) ps) (w ∷ vs) e (n + suc i) ≡ Some v
    by (Plain k) others = others (with_value e k w)
    by (Placed b t) others = others e

pub entered_at :
    (g : CoreFunctionTree) (vs : List Value) (i : ℕ) (v : Value)
    → parameters_fit g.blocks 0 g.parameters g.variables ≡ true → has_plain_parameter g i ≡ true → slice_get vs i ≡ Some v
    → entered g vs i ≡ Some v
entered_at g vs i v fit plain is =
    let same : i ≡ 0 + i = omega arith in
    ap (entered g vs) same ∙ passed_at g.blocks 0 g.parameters g.variables vs no_values i v fit plain is

-- the type of a parameter
parameter_type :
    (ps : List CoreParameterTree) (xs : List CoreVariableTree) (es : List CoreExprTree) (i : ℕ) (e : CoreExprTree)
    → map type_of es ≡ types_of ps xs → slice_get es i ≡ Some e → option_map (λ (v : CoreVariableTree). v.scalar) (slice_get xs i) ≡ Some (type_of e)
parameter_type ps xs [] i e same is = cc
parameter_type [] xs (a ∷ es) i e same is = cc
parameter_type (p ∷ ps) [] (a ∷ es) i e same is = cc
parameter_type (p ∷ ps) (x ∷ xs) (a ∷ es) zero e same is =
    let t = same_Some (type_of a) x.scalar (ap (λ (l : List Scalar). slice_get l 0) same) in
    ap Some (sym t ∙ ap type_of (same_Some a e is))
parameter_type (p ∷ ps) (x ∷ xs) (a ∷ es) (suc i) e same is = parameter_type ps xs es i e (ap others same) is
  where
    others : List Scalar → List Scalar
    others [] = []
    others (t ∷ ts) = ts

-- ---- arguments

pub record Argument (l : Locals) (m : Memory) (vs : List Value) (i : ℕ) (e : CoreExprTree) : Type 0 where
  pub value : Value
  pub is : slice_get vs i ≡ Some value
  pub from : expressions.value e l m ≡ Some value

pub argument_at : (es : List CoreExprTree) (vs : List Value) (l : Locals) (m : Memory) (i : ℕ) (e : CoreExprTree) → values es l m ≡ Some vs → slice_get es i ≡ Some e → Argument l m vs i e
argument_at [] vs l m i e h is = cc
argument_at (a ∷ es) vs l m zero e h is =
    let b = followed (value a l m) _ vs h in
    let c = followed (values es l m) _ vs b.then in
    record {
      value = b.value;
      is = ap (λ (vs : List Value). slice_get vs 0) (sym (same_Some _ vs c.then));
      from = ap (λ (e : CoreExprTree). value e l m) (sym (same_Some a e is)) ∙ b.first;
    }
argument_at (a ∷ es) vs l m (suc i) e h is =
    let b = followed (value a l m) _ vs h in
    let c = followed (values es l m) _ vs b.then in
    let d = argument_at es c.value l m i e c.first is in
    record { value = d.value; is = ap (λ (vs : List Value). slice_get vs (suc i)) (sym (same_Some _ vs c.then)) ∙ d.is; from = d.from }

pub argument_fits : (u : CoreUnitTree) (f : CoreFunctionTree) (es : List CoreExprTree) (i : ℕ) (e : CoreExprTree) → exprs_fit u f es ≡ true → slice_get es i ≡ Some e → expr_fits u f e ≡ true
argument_fits u f [] i e fit is = cc
argument_fits u f (a ∷ es) zero e fit is = ap (expr_fits u f) (sym (same_Some a e is)) ∙ (and_parts (expr_fits u f a) (exprs_fit u f es) fit).0
argument_fits u f (a ∷ es) (suc i) e fit is = argument_fits u f es i e (and_parts (expr_fits u f a) (exprs_fit u f es) fit).1 is

-- ---- the number of a parameter

own_is : (o : Option NumberType) (n m : NumberType) → o ≡ Some n → is_number_type o m ≡ true → n ≡ m
own_is o n m is h = types_same n m (ap (λ (o : Option NumberType). is_number_type o m) (sym is) ∙ h)
  where
    types_same : (n m : NumberType) → same_number_type n m ≡ true → n ≡ m
    types_same numbers.Int numbers.Int h = refl
    types_same numbers.Unsigned numbers.Unsigned h = refl
    types_same numbers.Char numbers.Char h = refl
    types_same _ _ h = cc

module _ (g : CoreFunctionTree) (fits : parameters_fit g.blocks 0 g.parameters g.variables ≡ true) (es : List CoreExprTree) (vs : List Value) (types : map type_of es ≡ parameter_types g) where
  -- what the term of an argument must be at a state: the number of the argument's value
  abbrev pub TermsAre : State → Type 0
  TermsAre s = (i : ℕ) (t : TermTree) → argument_term es i ≡ Some t → (e : CoreExprTree) × (v : Value) × (slice_get es i ≡ Some e) × (slice_get vs i ≡ Some v) × Stands (type_of e) v (term_value t s)

  -- the number of a parameter's value, where an assertion may mention it
  pub parameter_number :
      (s : State) → TermsAre s → (v : Valuation) (k : ℕ → VarKind) → ((i : ℕ) → value_of (k i) v ≡ entered g vs i) → ((i : ℕ) → own_type g (k i) ≡ (variable_type g i >>= if_number))
      → (i : ℕ) (x : Var) (t : TermTree) → x.kind ≡ k i → has_plain_parameter g i ≡ true → is_own g x ≡ true → argument_term es i ≡ Some t
      → term_value t s ≡ number_at g v x
  parameter_number s are v k valued owned i x t kind plain own is =
      let a = are i t is in
      let type = parameter_type g.parameters g.variables es i a.0 types a.2 in
      let n : own_type g (k i) ≡ Some (number_type (type_of a.0)) =
      owned i ∙ ap (λ (o : Option Scalar). o >>= if_number) type ∙ ap (λ b. only_if b (Some (number_type (type_of a.0)))) a.4.integer in
      let m : number_type (type_of a.0) ≡ x.number = own_is (own_type g x.kind) (number_type (type_of a.0)) x.number (ap (own_type g) kind ∙ n) own in
      a.4.number
      ∙ sym (own_number g v (k i) (number_type (type_of a.0)) a.1 n (valued i ∙ entered_at g vs i a.1 fits plain a.3))
      ∙ (λ j. number_at g v (record { kind = sym kind j; number = m j }))
