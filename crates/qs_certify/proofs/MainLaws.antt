-- Main's bound bounds its runs.
use Rattle.std.proofs.Common.{◌≡◌, ⊎_elim, ℕ, ◌<◌, Bool, true, false, if◌then◌else◌, cond, ℤ, List, [], ◌∷◌, length, Option, Some, None, option_map, refl, sym, ap, ◌∙◌, subst, add-zero}
use Rattle.std.specs.Prelude.{◌&&◌, bytes_eq, filter, not, All}
use Rattle.std.specs.List.{slice_get, find, list_any, list_all}
use Rattle.std.proofs.lemmas.Option.{slice_get-map, slice_get_within}
use Rattle.std.proofs.lemmas.Bool.{and_parts, not-false}
use Rattle.qs_memory.specs.Scalars.{is_type, is_promoted}
use Rattle.qs_memory.specs.declared.scalar.Scalar.TheVariants as scalars
use Rattle.qs_events.specs.Weights.{Costs, run_weight}
use Rattle.qs_calls.specs.World.{World}
use Rattle.qs_calls.specs.Starts.{Signature, Takes, MayStart}
use Rattle.qs_assert.specs.Bounds.{argument, amount_of, at_entry as setting_at, with_cost, wide, with_definitions}
use Rattle.qs_assert.specs.declared.define.Amount.TheVariants.{Finite, Wide}
use Rattle.qs_assert.specs.declared.variable.Var.{Var}
use Rattle.qs_assert.specs.Substitution.{same_variable}
use Rattle.qs_assert.specs.Trees.{AssertionTree}
use Rattle.qs_assert.specs.Values.{State, Extended, finite, infinite, plus, value}
use Rattle.qs_assert.specs.Variables.{variables, mentions}
use Rattle.qs_assert.proofs.VariableLaws.{of_its_variables}
use Rattle.qs_entail.specs.Meaning.{AtLeast}
use Rattle.qs_core.specs.Fits.{main_name, is_main, unit_fits}
use Rattle.qs_core.specs.Interfaces.{signature, interface_of, parameter_types, types_of_main}
use Rattle.qs_core.specs.Trees.{CoreFunctionTree, CoreUnitTree}
use Rattle.qs_core.specs.Units.{initial_memory, main_run}
use Rattle.qs_core.proofs.FitLaws.{unit_parts, function_at_fits}
use Rattle.qs_core.proofs.InitialLaws.{initial_memory_is_ready}
use Rattle.qs_triples.specs.Derivations.{EntryTree, ProofsTree, is_entry_of, entry_of}
use Rattle.qs_triples.specs.Entries.{AreClosed, IsDerivedFor, IsDerived, IsPathEntry, IsValid, Covers}
use Rattle.qs_triples.specs.declared.resource.Resource.{Resource}
use Rattle.qs_triples.specs.declared.resource.Resource.TheVariants.{Stack}
use Rattle.qs_triples.specs.Filled.{pre_in, pre_of}
use Rattle.qs_triples.specs.Mentions.{may_mention, in_pre}
use Rattle.qs_triples.specs.Valuations.{is_own, number_at, at_entry, value_at_entry}
use Rattle.qs_triples.proofs.Answers.{none_found}
use Rattle.qs_triples.proofs.BoundLaws.{derivations_bound_runs}
use Rattle.qs_triples.proofs.FunctionLaws.{entry_is_of, derived_parts_for}
use Rattle.qs_triples.proofs.Names.{seen, state_is}
use Rattle.qs_certify.specs.Bound.{main_need, costs_of, values_of, AreNumbersOf, AreArguments}
use Rattle.qs_certify.specs.Laws.{BoundsAreNeeds, MainBoundsRuns}
use Rattle.qs_certify.proofs.ArgumentLaws.{argument_number, values_are}

-- ---- amounts

finite_value : (wide : Bool) (v : Extended) (n : ℕ) → (if wide then Wide else amount_of v) ≡ Finite n → v ≡ finite n
finite_value true v n h = cc
finite_value false (finite m) n h = let same : m ≡ n = cc in ap finite same
finite_value false infinite n h = cc

pub bounds_are_needs : BoundsAreNeeds
bounds_are_needs f proofs costs zs bound is =
    let setting = with_definitions proofs.defines (setting_at zs costs) in
    let called = with_cost (pre_of proofs f) f in
    finite_value (wide called setting.state setting.wides) (value called setting.state) bound is

plus_zero : (v : Extended) → plus v (finite 0) ≡ v
plus_zero (finite n) = ap finite (add-zero n)
plus_zero infinite = refl

-- ---- entries

entry_there : (es : List EntryTree) (g : ℕ) → length (filter (is_entry_of g) es) ≡ 1 → (e : EntryTree) × (find (is_entry_of g) es ≡ Some e)
entry_there [] g h = cc
entry_there (d ∷ es) g h = by (is_entry_of g d) refl (entry_there es g)
  where
    by :
        (b : Bool) → is_entry_of g d ≡ b → (length (filter (is_entry_of g) es) ≡ 1 → (e : EntryTree) × (find (is_entry_of g) es ≡ Some e))
        → (e : EntryTree) × (find (is_entry_of g) (d ∷ es) ≡ Some e)
    by true is others = (d, ap (λ b. cond b (Some d) (find (is_entry_of g) es)) is)
    by false is others =
        let r = others (sym (ap (λ b. length (cond b (d ∷ filter (is_entry_of g) es) (filter (is_entry_of g) es))) is) ∙ h) in
        (r.0, ap (λ b. cond b (Some d) (find (is_entry_of g) es)) is ∙ r.1)

-- the precondition of a derived entry mentions only parameters
pub derived_mentions :
    (resource : Resource) (u : CoreUnitTree) (proofs : ProofsTree) (f : CoreFunctionTree) (e : EntryTree) → slice_get u.functions e.function ≡ Some f
    → IsDerivedFor resource u proofs e → (x : Var) → mentions e.spec.pre x ≡ true → may_mention f (in_pre f) x ≡ true
derived_mentions resource u proofs f e is d x mention =
    not-false (may_mention f (in_pre f) x)
    (none_found (λ x. not (may_mention f (in_pre f) x)) (variables e.spec.pre) x (derived_parts_for resource u proofs f e is d).pre_mentions mention)

-- and so does that of a valid one
mentions_parameters :
    (u : CoreUnitTree) (proofs : ProofsTree) (f : CoreFunctionTree) (e : EntryTree) → slice_get u.functions e.function ≡ Some f → IsValid u proofs e
    → (x : Var) → mentions e.spec.pre x ≡ true → may_mention f (in_pre f) x ≡ true
mentions_parameters u proofs f e is valid x mention =
    ⊎_elim (λ (d : IsDerived u proofs e). derived_mentions Stack u proofs f e is d x mention)
    (λ (p : IsPathEntry u proofs e).
    absurd (let none = ap (λ (xs : List Var). list_any (λ y. same_variable y x) xs) p.closed in let never : ⊥ = cc in never))
    valid

-- ---- main

pub record Main (u : CoreUnitTree) : Type 0 where
  pub function : CoreFunctionTree
  pub is : slice_get u.functions u.main ≡ Some function
  pub promoted : list_all is_promoted (parameter_types function) ≡ true

pub main_there : (u : CoreUnitTree) → unit_fits u ≡ true → Main u
main_there u fits = by (slice_get u.functions u.main) refl (unit_parts u fits).main
  where
    by : (o : Option CoreFunctionTree) → slice_get u.functions u.main ≡ o → is_main o ≡ true → Main u
    by None is main = cc
    by (Some f) is main =
        record { function = f; is = is; promoted = (and_parts (bytes_eq f.name main_name && is_type f.result_type scalars.Int) (list_all is_promoted (parameter_types f)) main).1 }

-- main's entry, whose precondition mentions only parameters
pub record HasMain (u : CoreUnitTree) (proofs : ProofsTree) (f : CoreFunctionTree) : Type 0 where
  pub entry_tree : EntryTree
  pub stands : entry_of proofs u.main ≡ Some entry_tree
  pub parameters : (x : Var) → mentions entry_tree.spec.pre x ≡ true → may_mention f (in_pre f) x ≡ true

-- main at these arguments, whatever its entry bounds
module _ (u : CoreUnitTree) (fits : unit_fits u ≡ true) (proofs : ProofsTree) (closed : AreClosed proofs.defines) (entry : HasMain u proofs (main_there u fits).function) (costs : List ℕ) (zs : List ℤ) (are : AreArguments u zs) where
  abbrev main : Main u
  main = main_there u fits

  abbrev f : CoreFunctionTree
  f = main.function

  abbrev e : EntryTree
  e = entry.entry_tree

  numbers_are : AreNumbersOf (parameter_types f) zs
  numbers_are = subst (λ (o : Option CoreFunctionTree). AreNumbersOf (types_of_main o) zs) main.is are

  -- the number of a parameter is the same before the run as at its entry
  same_number : (x : Var) → mentions e.spec.pre x ≡ true → argument zs x.kind ≡ number_at f (at_entry f (values_of zs)) x
  same_number x mention =
      let may = and_parts (in_pre f x.kind) (is_own f x) (entry.parameters x mention) in
      argument_number f zs (function_at_fits u fits u.main f main.is).parameters numbers_are x.kind x.number may.0 may.1

  -- before the run, where definitions have their values
  abbrev before : State
  before = seen (costs_of costs) proofs.defines (λ x. argument zs x.kind)

  state_before : (with_definitions proofs.defines (setting_at zs costs)).state ≡ before
  state_before = state_is (costs_of costs) proofs.defines closed (λ x. argument zs x.kind)

  same_value : value e.spec.pre before ≡ value_at_entry (costs_of costs) proofs.defines f (values_of zs) e.spec.pre
  same_value =
      of_its_variables e.spec.pre before (λ x. argument zs x.kind) (number_at f (at_entry f (values_of zs))) same_number
      ∙ sym (ap (value e.spec.pre) (state_is (costs_of costs) proofs.defines closed (number_at f (at_entry f (values_of zs)))))

  -- the cost of main and what it needs
  abbrev whole : State → Extended
  whole s = plus (finite (s.costs u.main)) (plus (value (pre_of proofs u.main) s) (finite 0))

  pub bound_is :
      (bound : ℕ) → main_need u proofs costs zs ≡ finite bound
      → plus (finite (costs_of costs u.main)) (value_at_entry (costs_of costs) proofs.defines f (values_of zs) e.spec.pre) ≡ finite bound
  bound_is bound is =
      let pre : pre_of proofs u.main ≡ e.spec.pre = ap pre_in entry.stands in
      ap (plus (finite (costs_of costs u.main))) (sym same_value ∙ ap (λ (a : AssertionTree). value a before) (sym pre) ∙ sym (plus_zero (value (pre_of proofs u.main) before)))
      ∙ sym (ap whole state_before) ∙ is

pub main_may :
    (u : CoreUnitTree) (fits : unit_fits u ≡ true) (zs : List ℤ) → AreArguments u zs → (input : List ℕ) → All (λ byte. byte < 256) input
    → MayStart (interface_of u) u.main (values_of zs) (record { memory = initial_memory u; input = input })
main_may u fits zs are input bytes =
    let main = main_there u fits in
    let known : slice_get (interface_of u).functions u.main ≡ Some (signature main.function) = slice_get-map signature u.functions u.main ∙ ap (option_map signature) main.is in
    let numbers = subst (λ (o : Option CoreFunctionTree). AreNumbersOf (types_of_main o) zs) main.is are in
    record {
      takes = subst (λ (o : Option Signature). Takes (initial_memory u) o (values_of zs)) (sym known) (values_are (initial_memory u) (parameter_types main.function) zs main.promoted numbers);
      ready = initial_memory_is_ready u input fits bytes;
    }

-- ---- on the stack

main_entry : (u : CoreUnitTree) (fits : unit_fits u ≡ true) (given proofs : ProofsTree) → Covers u given proofs → HasMain u proofs (main_there u fits).function
main_entry u fits given proofs covers =
    let main = main_there u fits in
    let within = slice_get_within u.functions u.main main.function main.is in
    let found = entry_there proofs.functions u.main (covers.one u.main within) in
    let here : slice_get u.functions found.0.function ≡ Some main.function = ap (slice_get u.functions) (entry_is_of proofs u.main found.0 found.1) ∙ main.is in
    record {
      entry_tree = found.0;
      stands = found.1;
      parameters = mentions_parameters u proofs main.function found.0 here (covers.valid u.main found.0 within found.1);
    }

pub main_bounds_runs : MainBoundsRuns
main_bounds_runs u given proofs costs zs bound fits covers are is input n bytes =
    let main = main_there u fits in
    let entry = main_entry u fits given proofs covers in
    let world : World = record { memory = initial_memory u; input = input } in
    subst (λ (v : Extended). AtLeast v (finite (run_weight (costs_of costs) (main_run u (values_of zs) input n)))) (bound_is u fits proofs covers.closed entry costs zs are bound is)
    (derivations_bound_runs u given proofs u.main main.function entry.entry_tree (values_of zs) world fits covers main.is entry.stands
    (main_may u fits zs are input bytes) (costs_of costs) n)

-- ---- for every stack metric

-- main, its entry, and that what main costs and the value of its precondition at the arguments bound each run
pub record BoundsMain (u : CoreUnitTree) (proofs : ProofsTree) : Type 0 where
  pub main : CoreFunctionTree
  pub is_main : slice_get u.functions u.main ≡ Some main
  pub entry : EntryTree
  pub stands : entry_of proofs u.main ≡ Some entry
  pub bounds :
      (cost : Costs) (zs : List ℤ) (input : List ℕ) (n : ℕ) → AreArguments u zs → All (λ byte. byte < 256) input
      → AtLeast (plus (finite (cost u.main)) (value_at_entry cost proofs.defines main (values_of zs) entry.spec.pre))
      (finite (run_weight cost (main_run u (values_of zs) input n)))

pub entry_bounds_runs : (u : CoreUnitTree) (given proofs : ProofsTree) → unit_fits u ≡ true → Covers u given proofs → BoundsMain u proofs
entry_bounds_runs u given proofs fits covers =
    let main = main_there u fits in
    let entry = main_entry u fits given proofs covers in
    record {
      main = main.function;
      is_main = main.is;
      entry = entry.entry_tree;
      stands = entry.stands;
      bounds = λ cost zs input n are bytes.
          let world : World = record { memory = initial_memory u; input = input } in
          derivations_bound_runs u given proofs u.main main.function entry.entry_tree (values_of zs) world fits covers main.is entry.stands
          (main_may u fits zs are input bytes) cost n;
    }
