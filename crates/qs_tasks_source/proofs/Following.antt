-- A task alone: from hidden memory its linear code does what the source does.
use Rattle.std.proofs.Common.{◌≡◌, ◌≢◌, ◌∙◌, ⊎_elim, ℕ, zero, suc, ◌+◌, ◌<◌, ◌≤◌, List, [], ◌++◌, length, All, Option, Some, None, refl, sym, ap, subst, arith, append_assoc}
use Rattle.std.specs.Prelude.{option_map}
use Rattle.std.specs.List.{slice_get}
use Rattle.std.proofs.lemmas.List.{append-nil, length-map}
use Rattle.std.proofs.lemmas.Option.{slice_get-map}
use Rattle.qs_memory.specs.Values.{Value}
use Rattle.qs_memory.specs.Memory.{Memory}
use Rattle.qs_events.specs.Events.{output_of}
use Rattle.qs_events.specs.Runs.{Left, events_of, ending_of, has_ended, is_undefined, is_short, Within}
use Rattle.qs_events.specs.Weights.{run_weight, weight}
use Rattle.qs_events.proofs.RunLaws.{within_over, within_output, longer_runs_weigh_more}
use Rattle.qs_calls.specs.World.{World, RootRun}
use Rattle.qs_calls.specs.Starts.{Signature, AreOf, Takes, IsReady, MayStart}
use Rattle.qs_meaning.specs.Typed.{TypedProgram}
use Rattle.qs_meaning.specs.Units.{block_of, initial_memory}
use Rattle.qs_meaning.specs.Runs.{run_of, start_world}
use Rattle.qs_hiding.specs.Hidden.{Reach, hidden, hidden_world, hidden_run, IsClosed, IsHidden}
use Rattle.qs_hiding.proofs.HiddenRuns.{hiding_keeps_runs}
use Rattle.qs_core.specs.Trees.{CoreParameterTree}
use Rattle.qs_core.specs.Units.{core_run}
use Rattle.qs_core.specs.Units as core
use Rattle.qs_core.specs.Interfaces.{types_of, signature, interface_of}
use Rattle.qs_core.proofs.RelationLaws.{core_grows}
use Rattle.qs_core.proofs.InitialLaws.{initial_memory_is_ready}
use Rattle.qs_core.proofs.RangeLaws.{runs_leave_sound}
use Rattle.qs_assert.specs.Values.{Extended, finite}
use Rattle.qs_entail.specs.Meaning.{AtLeast}
use Rattle.qs_triples.specs.Derivations.{ProofsTree}
use Rattle.qs_triples.specs.Entries.{Covers}
use Rattle.qs_triples.proofs.BoundLaws.{derivations_bound_runs}
use Rattle.qs_lower.proofs.LoweringLaws.{lowering_follows}
use Rattle.qs_compile.specs.Units.{linear}
use Rattle.qs_tasks_run.specs.Tasks.{Task}
use Rattle.qs_tasks.specs.Alone.{Program, first_world, activation, left_world, Alone, none_yet, and_another, costs_of}
use Rattle.qs_tasks.specs.Safe as tasks
use Rattle.qs_tasks_source.specs.Activations.{alone, output_alone, AreDefined}
use Rattle.qs_tasks_source.specs.Safe.{Source, system_of, task_of, StaysIn, IsBoundedBy, GaveSoFar}
use Rattle.qs_tasks_source.proofs.HiddenEnds.{not_short, not_short_either, events_hidden, undefined_hidden, EndsAs, ended_hidden, behind_at_end}
use Rattle.qs_tasks_source.proofs.ActivationLaws.{Grows, next_run, ended_stays, one_more_ends, one_more_puts, undefined_stays, output_goes_on}
use Rattle.qs_tasks_source.proofs.SourceLaws.{RunsAsSource}

-- the tasks as linear code: what a task doesn't touch is dead
abbrev pub program_of : Source → (size : ℕ) → Program
program_of s size = record {
  system = system_of s size;
  unit = linear s.core;
  first = core.initial_memory s.core;
  memory_of = λ task. hidden (s.reach_of task) (core.initial_memory s.core);
}

module _ (s : Source) (size : ℕ) (runs : RunsAsSource s) (task : ℕ) (stay : StaysIn s.program (task_of s task).function (s.reach_of task)) (bytes : All (λ byte. byte < 256) (task_of s task).input) (given proofs : ProofsTree) (covers : Covers s.core given proofs) (bound : ℕ) (bounded : IsBoundedBy s proofs (task_of s task).function bound) where
  abbrev u : TypedProgram
  u = s.program

  abbrev t : Task
  t = task_of s task

  abbrev f : ℕ
  f = t.function

  abbrev r : Reach
  r = s.reach_of task

  abbrev p : Program
  p = program_of s size

  abbrev w₀ : World
  w₀ = start_world u t.input

  -- ---- an activation

  grows : Grows u f
  grows w m n h =
      subst (λ (o : RootRun). Within (run_of u f [] w m) o) (runs.follows f [] w n)
      (subst (λ (o : RootRun). Within o (core_run s.core f [] w n)) (runs.follows f [] w m) (core_grows s.core f [] w m n h))

  may_start : (w : World) → IsReady (interface_of s.core) w → MayStart (interface_of s.core) f [] w
  may_start w ready =
      let none : AreOf w.memory (types_of bounded.body.parameters bounded.body.variables) [] =
      subst (λ (ps : List CoreParameterTree). AreOf w.memory (types_of ps bounded.body.variables) []) (sym bounded.without_parameters) tt
      in
      let there : slice_get (interface_of s.core).functions f ≡ Some (signature bounded.body) =
      slice_get-map signature s.core.functions f ∙ ap (option_map signature) bounded.is
      in
      record { takes = subst (λ (o : Option Signature). Takes w.memory o []) (sym there) none; ready = ready }

  hiding : (w : World) (n : ℕ) → IsClosed r w.memory → length u.blocks ≤ length w.memory → IsHidden r w.memory (run_of u f [] w n) (run_of u f [] (hidden_world r w) n)
  hiding w n closed longer = hiding_keeps_runs r u f [] w n stay.reach stay.begins refl closed longer

  -- its linear code goes from hidden memory as far as the source, at most
  within : (w : World) (n : ℕ) → IsClosed r w.memory → length u.blocks ≤ length w.memory → Within (activation p task (hidden_world r w) n) (hidden_run r (run_of u f [] w n))
  within w n closed longer =
      subst (λ (o : RootRun). Within (activation p task (hidden_world r w) n) o) (runs.follows f [] (hidden_world r w) n ∙ (hiding w n closed longer).same)
      ((lowering_follows s.core runs.fits).back f [] (hidden_world r w) n)

  -- ---- between activations

  -- after so many activations alone: what the source has put and left, of which this is hidden
  pub record Stands (number : ℕ) (output : List ℕ) (w : World) : Type 0 where
    pub whole : World
    pub is : w ≡ hidden_world r whole
    pub n : ℕ
    pub left : Left Value Memory
    pub ends : ending_of (alone u t n number) ≡ has_ended left
    pub whole_is : whole ≡ left_world left
    pub put : output ≡ output_alone u t n number
    pub ready : IsReady (interface_of s.core) whole
    pub closed : IsClosed r whole.memory
    pub longer : length u.blocks ≤ length whole.memory

  at_first : Stands zero [] (first_world p task)
  at_first = record {
    whole = w₀;
    is = ap (λ (m : Memory). let w : World = record { memory = hidden r m; input = t.input } in w) runs.memory;
    n = 0;
    left = record { result = None; memory = initial_memory u; input = t.input };
    ends = refl;
    whole_is = refl;
    put = refl;
    ready = subst (λ (m : Memory). IsReady (interface_of s.core) (record { memory = m; input = t.input })) runs.memory (initial_memory_is_ready s.core t.input runs.fits bytes);
    closed = stay.closed;
    longer = let e = length-map u.blocks block_of in omega (arith, e);
  }

  module _ (number : ℕ) (output : List ℕ) (w : World) (st : Stands number output w) (n : ℕ) where
    abbrev whole_run : RootRun
    whole_run = run_of u f [] st.whole n

    -- within both bounds
    abbrev late : ℕ
    late = st.n + n

    inside : Within (activation p task w n) (hidden_run r whole_run)
    inside = subst (λ (v : World). Within (activation p task v n) (hidden_run r whole_run)) (sym st.is) (within st.whole n st.closed st.longer)

    same_late : alone u t late number ≡ alone u t st.n number
    same_late = ended_stays u f grows w₀ st.n late number st.left (omega arith) st.ends

    ends_late : ending_of (alone u t late number) ≡ has_ended st.left
    ends_late = ap ending_of same_late ∙ st.ends

    put_late : output ≡ output_alone u t late number
    put_late = st.put ∙ sym (ap (λ (o : RootRun). output_of (events_of o)) same_late)

    -- the next one finds what is whole here
    next_is : next_run u f grows w₀ late st.left ≡ run_of u f [] st.whole late
    next_is = ap (λ (v : World). run_of u f [] v late) (sym st.whole_is)

    run_goes_on : Within whole_run (run_of u f [] st.whole late)
    run_goes_on = grows st.whole n late (omega arith)

    next_over : ending_of whole_run ≢ is_short → next_run u f grows w₀ late st.left ≡ whole_run
    next_over over = next_is ∙ within_over whole_run (run_of u f [] st.whole late) run_goes_on over

    pub weighs : run_weight (costs_of s.image) (activation p task w n) ≤ bound
    weighs =
        let more = longer_runs_weigh_more (Left Value Memory) (costs_of s.image) (activation p task w n) (hidden_run r whole_run) inside in
        let same : run_weight (costs_of s.image) (hidden_run r whole_run) ≡ run_weight (costs_of s.image) (core_run s.core f [] st.whole n) =
        ap (weight (costs_of s.image)) (events_hidden r whole_run)
        ∙ ap (λ (o : RootRun). run_weight (costs_of s.image) o) (sym (runs.follows f [] st.whole n))
        in
        let least : run_weight (costs_of s.image) (core_run s.core f [] st.whole n) ≤ bound =
        subst (λ (e : Extended). AtLeast e (finite (run_weight (costs_of s.image) (core_run s.core f [] st.whole n)))) bounded.bound_is
        (derivations_bound_runs s.core given proofs f bounded.body bounded.entry [] st.whole runs.fits covers bounded.is bounded.stands (may_start st.whole st.ready) (costs_of s.image) n)
        in
        omega (arith, more, same, least)

    pub undefined_alone : (times : ℕ) → number < times → ending_of (activation p task w n) ≡ is_undefined → AreDefined u t times → ⊥
    undefined_alone times lt e all =
        let over : hidden_run r whole_run ≡ activation p task w n =
        within_over (activation p task w n) (hidden_run r whole_run) inside (not_short_either (activation p task w n) e)
        in
        let wrong : ending_of whole_run ≡ is_undefined = undefined_hidden r whole_run (ap ending_of over ∙ e) in
        let one : ending_of (alone u t late (suc number)) ≡ is_undefined =
        one_more_ends u f grows w₀ late number st.left ends_late
        ∙ ap ending_of (next_over (not_short_either whole_run wrong))
        ∙ wrong
        in
        all late (undefined_stays u f grows w₀ late (suc number) times (omega (arith, lt)) one)

    one_more : (left : Left Value Memory) → ending_of (activation p task w n) ≡ has_ended left → Stands (suc number) (output ++ output_of (events_of (activation p task w n))) (left_world left)
    one_more left e =
        let over : hidden_run r whole_run ≡ activation p task w n =
        within_over (activation p task w n) (hidden_run r whole_run) inside (not_short (activation p task w n) left e)
        in
        let done : EndsAs r whole_run left = ended_hidden r whole_run left (ap ending_of over ∙ e) in
        let next : next_run u f grows w₀ late st.left ≡ whole_run = next_over (not_short whole_run done.whole done.ends) in
        let behind = behind_at_end r st.whole.memory whole_run done.whole (hiding st.whole n st.closed st.longer).alone done.ends in
        let puts : output_of (events_of (activation p task w n)) ≡ output_of (events_of (next_run u f grows w₀ late st.left)) =
        sym (ap (λ (o : RootRun). output_of (events_of o)) over)
        ∙ ap output_of (events_hidden r whole_run)
        ∙ sym (ap (λ (o : RootRun). output_of (events_of o)) next)
        in
        record {
          whole = left_world done.whole;
          is = ap left_world done.is;
          n = late;
          left = done.whole;
          ends = one_more_ends u f grows w₀ late number st.left ends_late ∙ ap ending_of next ∙ done.ends;
          whole_is = refl;
          put =
              ap (λ (o : List ℕ). o ++ output_of (events_of (activation p task w n))) put_late
              ∙ ap (λ (o : List ℕ). output_alone u t late number ++ o) puts
              ∙ sym (one_more_puts u f grows w₀ late number st.left ends_late);
          ready =
              (runs_leave_sound s.core f [] st.whole n done.whole runs.fits (may_start st.whole st.ready)
              (ap ending_of (runs.follows f [] st.whole n) ∙ done.ends)).ready;
          closed = behind.closed;
          longer = let a = behind.longer in let b = st.longer in omega (arith, a, b);
        }

    -- what it has put so far is a front of what they put alone
    front_of : (times : ℕ) (part rest : List ℕ) → number < times → output_of (events_of (activation p task w n)) ≡ part ++ rest
        → (more : List ℕ) × (output_alone u t late times ≡ (output ++ part) ++ more)
    front_of times part rest lt begins =
        let a = within_output (activation p task w n) (hidden_run r whole_run) inside in
        let b = within_output whole_run (run_of u f [] st.whole late) run_goes_on in
        let c = output_goes_on u f grows w₀ late (suc number) times (omega (arith, lt)) in
        let tail : List ℕ = rest ++ (a.0 ++ b.0) in
        let next : output_of (events_of (next_run u f grows w₀ late st.left)) ≡ part ++ tail =
        ap (λ (o : RootRun). output_of (events_of o)) next_is
        ∙ b.1
        ∙ ap (λ (o : List ℕ). o ++ b.0) (sym (ap output_of (events_hidden r whole_run)) ∙ a.1 ∙ ap (λ (o : List ℕ). o ++ a.0) begins)
        ∙ append_assoc (part ++ rest) a.0 b.0
        ∙ append_assoc part rest (a.0 ++ b.0)
        in (
          tail ++ c.0,
          c.1
              ∙ ap (λ (o : List ℕ). o ++ c.0) (one_more_puts u f grows w₀ late number st.left ends_late ∙ ap (λ (o : List ℕ). output_alone u t late number ++ o) next ∙ ap (λ (o : List ℕ). o ++ (part ++ tail)) (sym put_late))
              ∙ ap (λ (o : List ℕ). o ++ c.0) (sym (append_assoc output part tail))
              ∙ append_assoc (output ++ part) tail c.0,
        )

  stands : (number : ℕ) (output : List ℕ) (w : World) → Alone p task number output w → Stands number output w
  stands _ _ _ none_yet = at_first
  stands _ _ _ (and_another number n before w left before_it ends) = one_more number before w (stands number before w before_it) n left ends

  -- ---- what is promised of it

  pub is_defined : (times number n : ℕ) (before : List ℕ) (w : World) → AreDefined u t times → number < times → Alone p task number before w → ending_of (activation p task w n) ≡ is_undefined → ⊥
  is_defined times number n before w all lt so_far e = undefined_alone number before w (stands number before w so_far) n times lt e all

  pub is_bounded : (number n : ℕ) (before : List ℕ) (w : World) → Alone p task number before w → run_weight (costs_of s.image) (activation p task w n) ≤ bound
  is_bounded number n before w so_far = weighs number before w (stands number before w so_far) n

  pub gave_alone : (times number : ℕ) (output : List ℕ) → tasks.GaveSoFar p task times number output → GaveSoFar u t times number output
  gave_alone times number output g =
      let st = stands number g.whole g.world g.alone in
      let n : ℕ = late number g.whole g.world st g.n in
      let put : g.whole ≡ output_alone u t n number = put_late number g.whole g.world st g.n in
      let front : (more : List ℕ) × (output_alone u t n times ≡ output ++ more) =
      ⊎_elim
      (λ (none : g.part ≡ []).
      let c = output_goes_on u f grows w₀ n number times g.few in
      let all : output ≡ output_alone u t n number =
      g.is ∙ ap (λ (o : List ℕ). g.whole ++ o) none ∙ append-nil g.whole ∙ put
      in
      (c.0, c.1 ∙ ap (λ (o : List ℕ). o ++ c.0) (sym all)))
      (λ (lt : number < times).
      let c = front_of number g.whole g.world st g.n times g.part g.rest lt g.begins in
      (c.0, c.1 ∙ ap (λ (o : List ℕ). o ++ c.0) (sym g.is)))
      g.next
      in
      record {
        few = g.few;
        n = n;
        left = st.left;
        ended = ends_late number g.whole g.world st g.n;
        part = g.part;
        is = g.is ∙ ap (λ (o : List ℕ). o ++ g.part) put;
        rest = front.0;
        front = front.1;
      }
