-- Entries that are derived for calls bound the calls of every run.
use Rattle.std.proofs.Common.{◌≡◌, inl, ℕ, zero, suc, ◌<◌, true, List, length, Option, Some, None, option_map, refl, ap, ◌∙◌, subst, arith}
use Rattle.std.specs.Prelude.{is_some}
use Rattle.std.specs.List.{slice_get}
use Rattle.std.proofs.lemmas.List.{get_or-replicate}
use Rattle.std.proofs.lemmas.Option.{slice_get-map, slice_get_within}
use Rattle.qs_memory.specs.Memory.{Memory, make, release}
use Rattle.qs_memory.specs.Values.{Value}
use Rattle.qs_events.specs.Events.{Calls, Returns}
use Rattle.qs_events.specs.Runs.{emit, events_of, given}
use Rattle.qs_events.specs.Weights.{Costs, run_count, calls_in}
use Rattle.qs_calls.specs.World.{World, with_memory, RootRun, Return, leaves, no_values}
use Rattle.qs_calls.specs.Calls.{CallsOf, Entered, pass, activate}
use Rattle.qs_calls.specs.Starts.{Signature, Takes}
use Rattle.qs_assert.specs.Values.{Extended, finite}
use Rattle.qs_entail.specs.Meaning.{AtLeast}
use Rattle.qs_core.specs.Trees.{CoreFunctionTree, CoreUnitTree}
use Rattle.qs_core.specs.Interfaces.{signature}
use Rattle.qs_core.specs.Units.{frame_of, body_of, after_function, calls_within, initial_memory, main_run}
use Rattle.qs_triples.specs.Derivations.{EntryTree, entry_of}
use Rattle.qs_triples.specs.declared.resource.Resource.TheVariants as resources
use Rattle.qs_triples.proofs.BoundLaws.{root_is_bounded}
use Rattle.qs_triples.proofs.FunctionLaws.{entry_is_of, derived_parts_for, derived_body}
use Rattle.qs_triples.proofs.PropertyLaws.{IsKept, ReturnHas, CallsKeep, pass_keeps, stmts_keep}
use Rattle.qs_certify.specs.Bound.{costs_of, values_of}
use Rattle.qs_certify.proofs.MainLaws.{bounds_are_needs, derived_mentions, HasMain, main_there, bound_is, main_may}
use Rattle.qs_count.specs.MainCount.{ones}
use Rattle.qs_count.specs.Laws.{cost_of_call, EntriesBoundCalls, CountsBoundCalls, MainIsCounted, MainCountBoundsCalls}

pub entries_bound_calls : EntriesBoundCalls
entries_bound_calls u proofs root f e arguments w h is has may cost n =
    root_is_bounded u h.fits proofs h.closed resources.Calls cost
    (λ turns depth keep g fg d there stands.
    derived_body u h.fits proofs h.closed resources.Calls cost turns (calls_within u turns depth) fg d keep
    (derived_parts_for resources.Calls u proofs fg d (ap (slice_get u.functions) (entry_is_of proofs g d stands) ∙ there) (h.counted g d stands)))
    root f e arguments w is has may n

-- ---- calls as a number

-- where each function costs 1, what the calls of a run cost together is how many they are
module _ (u : CoreUnitTree) (cost : Costs) (one : (g : ℕ) → g < length u.functions → cost g ≡ 1) where
  abbrev IsCount : RootRun → Type 0
  IsCount o = run_count cost o ≡ calls_in (events_of o)

  count_is_kept : IsKept IsCount
  count_is_kept = record {
    undefined = refl;
    short = refl;
    takes = λ byte o h. h;
    takes_end = λ o h. h;
    puts = λ byte o h. h;
  }

  behind_return : (g : ℕ) (o : RootRun) → IsCount o → IsCount (emit (Returns g) o)
  behind_return g o h = omega (arith, h)

  before_call : (g : ℕ) (f : CoreFunctionTree) (o : RootRun) → slice_get u.functions g ≡ Some f → IsCount o → IsCount (emit (Calls g) o)
  before_call g f o is h = let c = one g (slice_get_within u.functions g f is) in omega (arith, c, h)

  -- the call of a function with a body
  call_counts :
      (turns : ℕ) (calls : CallsOf) → CallsKeep IsCount calls → (g : ℕ) (f : CoreFunctionTree) → slice_get u.functions g ≡ Some f
      → (vs : List Value) (k : Return) → ReturnHas IsCount k → (w : World)
      → IsCount (activate g (frame_of f) (body_of f (record { turns = turns; calls = calls })) vs k w)
  call_counts turns calls keep g f is vs k h w =
      let first : ℕ = length w.memory in
      let inside : World = with_memory w (make f.blocks w.memory) in
      let ret : Return = λ result z. emit (Returns g) (k result (with_memory z (release first z.memory))) in
      let body : Entered = body_of f (record { turns = turns; calls = calls }) first ret in
      before_call g f (pass (frame_of f).parameters vs first no_values inside body) is
      (pass_keeps IsCount count_is_kept (frame_of f).parameters vs first no_values inside body (λ e z.
      stmts_keep IsCount count_is_kept turns calls keep f.body (after_function ret)
      (record {
        next = λ l z. behind_return g (k None (with_memory z (release first z.memory))) (h None (with_memory z (release first z.memory)));
        on_break = λ l z. refl;
        on_continue = λ l z. refl;
        on_return = λ result z. behind_return g (k result (with_memory z (release first z.memory))) (h result (with_memory z (release first z.memory)));
      })
      (record { first_block = first; variables = e; temporaries = no_values }) z))

  pub calls_count : (turns depth : ℕ) → CallsKeep IsCount (calls_within u turns depth)
  calls_count turns zero g vs k h w = refl
  calls_count turns (suc depth) g vs k h w = by (slice_get u.functions g) refl (calls_count turns depth)
    where
      by :
          (o : Option CoreFunctionTree) → slice_get u.functions g ≡ o → CallsKeep IsCount (calls_within u turns depth)
          → IsCount (given o (λ f. activate g (frame_of f) (body_of f (record { turns = turns; calls = calls_within u turns depth })) vs k w))
      by None is keep = refl
      by (Some f) is keep = call_counts turns (calls_within u turns depth) keep g f is vs k h w

pub counts_bound_calls : CountsBoundCalls
counts_bound_calls u proofs root f e arguments w cost n h is has may one =
    subst (λ (m : ℕ). AtLeast (cost_of_call cost proofs root f e arguments) (finite m))
    (calls_count u cost one n n root arguments leaves (λ result z. refl) w)
    (entries_bound_calls u proofs root f e arguments w h is has may cost n)

-- ---- main

-- what may start is a function
function_there : (u : CoreUnitTree) (root : ℕ) (m : Memory) (arguments : List Value) → Takes m (option_map signature (slice_get u.functions root)) arguments → (f : CoreFunctionTree) × (slice_get u.functions root ≡ Some f)
function_there u root m arguments takes = by (slice_get u.functions root) refl takes
  where
    by : (o : Option CoreFunctionTree) → slice_get u.functions root ≡ o → Takes m (option_map signature o) arguments → (f : CoreFunctionTree) × (slice_get u.functions root ≡ Some f)
    by None is takes = absurd takes
    by (Some f) is takes = (f, is)

entry_there : (o : Option EntryTree) → is_some o ≡ true → (e : EntryTree) × (o ≡ Some e)
entry_there None h = cc
entry_there (Some e) h = (e, refl)

pub main_is_counted : MainIsCounted
main_is_counted u proofs arguments w h covered may =
    let f = function_there u u.main w.memory arguments (subst (λ (o : Option Signature). Takes w.memory o arguments) (slice_get-map signature u.functions u.main) may.takes) in
    let e = entry_there (entry_of proofs u.main) (covered u.main (inl refl)) in
    record {
      function = f.0;
      entry_tree = e.0;
      is = f.1;
      stands = e.1;
      bounds = entries_bound_calls u proofs u.main f.0 e.0 arguments w h f.1 e.1 may;
    }

pub main_count_bounds_calls : MainCountBoundsCalls
main_count_bounds_calls u proofs zs count input n h covered are bytes is =
    let main = main_there u h.fits in
    let e = entry_there (entry_of proofs u.main) (covered u.main (inl refl)) in
    let here : slice_get u.functions e.0.function ≡ Some main.function = ap (slice_get u.functions) (entry_is_of proofs u.main e.0 e.1) ∙ main.is in
    let entry : HasMain u proofs main.function = record {
      entry_tree = e.0;
      stands = e.1;
      parameters = derived_mentions resources.Calls u proofs main.function e.0 here (h.counted u.main e.0 e.1);
    } in
    let world : World = record { memory = initial_memory u; input = input } in
    subst (λ (v : Extended). AtLeast v (finite (calls_in (events_of (main_run u (values_of zs) input n)))))
    (bound_is u h.fits proofs h.closed entry (ones u) zs are count (bounds_are_needs u.main proofs (ones u) zs count is))
    (counts_bound_calls u proofs u.main main.function e.0 (values_of zs) world (costs_of (ones u)) n h main.is e.1
    (main_may u h.fits zs are input bytes) (λ g within. get_or-replicate (length u.functions) g 1 0 within))
