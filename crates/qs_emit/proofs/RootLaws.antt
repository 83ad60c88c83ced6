-- Emitted code follows linear code: every function as root, from every entry.
use Rattle.std.proofs.Common.{◌≡◌, inl, inr, ℕ, zero, suc, ◌+◌, ◌^◌, ◌≤◌, List, [], length, Option, Some, None, refl, sym, ap, ◌∙◌, subst, arith}
use Rattle.std.specs.Prelude.{slice_get}
use Rattle.std.proofs.lemmas.Bool.Decides.{nat_tests}
use Rattle.std.proofs.lemmas.Option.{get_or_from_slice_get}
use Rattle.qs_memory.specs.Values.{Value, integer}
use Rattle.qs_memory.specs.Memory.{Memory, make}
use Rattle.qs_events.specs.Events.{Event, Calls}
use Rattle.qs_events.specs.Runs.{emit, given, Left, Ending, has_ended, is_undefined, is_short, events_of, ending_of}
use Rattle.qs_events.specs.Weights.{weight}
use Rattle.qs_calls.specs.World.{World, with_memory, RootRun, no_values, leaves}
use Rattle.qs_isa.specs.Registers.{a0}
use Rattle.qs_machine.specs.State.{register}
use Rattle.qs_tac.specs.Trees.{TacFunctionTree}
use Rattle.qs_calls.specs.Calls.{activate}
use Rattle.qs_tac.specs.Steps.{enters}
use Rattle.qs_tac.specs.Steps.{begins as begins_body}
use Rattle.qs_emit.specs.Lies.{StandsFor}
use Rattle.qs_tac.specs.Holders.{temporaries}
use Rattle.qs_tac.specs.Units.{tac_run, stopped_steps, stopped_run, world_left, world_after}
use Rattle.qs_tac.proofs.PlacesLaws.{places_keep_stopped_runs}
use Rattle.qs_tac.proofs.StopLaws.{run_stops, run_leaves}
use Rattle.qs_emit.specs.Machine.{Watched, base}
use Rattle.qs_emit.specs.Surroundings.{Lay}
use Rattle.qs_emit.specs.Relation.{Setup, no_function, function_at, cost, entry, around}
use Rattle.qs_emit.specs.Entries.{IsEntry, GoesOn, IsResult, HasReturned, ComesTo, EmittedCodeFollows}
use Rattle.qs_emit.proofs.Operands.{holder}
use Rattle.qs_emit.proofs.FollowedSteps.{ComesToStop, FollowsToStop, follows_later, undefined_behind, follows_stopped, follows_given}
use Rattle.qs_emit.proofs.Parameters.{argument_is, Passed, passes, pass_is}
use Rattle.qs_emit.proofs.EntryLaws.{IsEntered}
use Rattle.qs_emit.proofs.EntryLaws.{enters as machine_enters}
use Rattle.qs_emit.proofs.Simulation.{follows}

entered : (s : Setup) (root : ℕ) (arguments : List Value) (w : World) (l : Lay) (m : Watched) → IsEntry s.unit (around s) (entry s root) root arguments w l m → IsEntered s root arguments w [] l m
entered s root arguments w l m h =
    let x2 = h.x2 in
    let al = h.aligned in
    let low = h.low in
    let ra = h.return_address in
    let ra_low = s.return_low in
    record {
      known = h.known;
      pc = h.pc;
      blocks = h.blocks;
      above = (h.x2, (h.return_address, λ q b. (h.saved q b).0));
      count = h.count;
      arguments = λ i v e. subst (λ (x : ℕ). StandsFor w.memory l.address_of v x) (argument_is s m.now i) (h.arguments_in i v e);
      arguments_below = h.arguments_below;
      words = λ q b. (h.saved q b).1;
      return_low = omega (arith, ra, ra_low);
      aligned = omega (arith, x2, al);
      ceiling = omega (arith, x2);
      bottom = sym h.first;
      input = h.input;
      input_bytes = h.input_bytes;
      steady = record { set = grind (arith, nat_tests, x2, al); low = omega (arith, low); bytes = h.bytes };
    }

module _ (s : Setup) (mark : Option Value) (root : ℕ) (arguments : List Value) (w : World) (l : Lay) (m : Watched) (h : IsEntry s.unit (around s) (entry s root) root arguments w l m) where
  low_is : m.low ≤ m.now.registers 2
  low_is = let e = h.low in omega (arith, e)

  -- the first step enters the root
  root_enters : (n : ℕ) → FollowsToStop (around s) mark (suc n) m (enters (holder s) s.unit (stopped_steps (holder s) s.unit mark n) [] root arguments leaves w)
  root_enters n = follows_given s mark (suc n) m (slice_get s.unit.functions root) _ (λ g is. begins g is)
    where
      begins : (g : TacFunctionTree) → slice_get s.unit.functions root ≡ Some g → FollowsToStop (around s) mark (suc n) m (activate root (record { parameters = g.parameters; blocks = g.blocks }) (begins_body (holder s) (stopped_steps (holder s) s.unit mark n) [] root) arguments leaves w)
      begins g is =
          subst (λ (z : RootRun). FollowsToStop (around s) mark (suc n) m (emit (Calls root) z))
          (sym (pass_is g.parameters arguments (length w.memory) no_values (with_memory w (make g.blocks w.memory)) (λ e v. stopped_steps (holder s) s.unit mark n (record { function = root; at = 0; first_block = number; held = (holder s).enter root e }) v [])))
          (by (passes g.parameters arguments (length w.memory) no_values (make g.blocks w.memory)) refl)
        where
          number : ℕ
          number = length w.memory

          same : function_at s.unit root ≡ g
          same = get_or_from_slice_get s.unit.functions root g no_function is

          by : (o : Option Passed) → passes g.parameters arguments (length w.memory) no_values (make g.blocks w.memory) ≡ o → FollowsToStop (around s) mark (suc n) m (emit (Calls root) (given o (λ r. stopped_steps (holder s) s.unit mark n (record { function = root; at = 0; first_block = number; held = (holder s).enter root r.environment }) (with_memory (with_memory w (make g.blocks w.memory)) r.memory) [])))
          by None q room = undefined_behind s mark (suc n) m (Calls root) refl room
          by (Some r) q room =
              let passed : passes (function_at s.unit root).parameters arguments (length w.memory) no_values (make (function_at s.unit root).blocks w.memory) ≡ Some r = subst (λ (z : TacFunctionTree). passes z.parameters arguments (length w.memory) no_values (make z.blocks w.memory) ≡ Some r) (sym same) q in
              let e = machine_enters s root arguments w [] l m (entered s root arguments w l m h) (omega (arith, room)) r passed in
              follows_later s mark n m e.to (Some (Calls root)) (stopped_steps (holder s) s.unit mark n (record { function = root; at = 0; first_block = length w.memory; held = (holder s).enter root r.environment }) (with_memory w r.memory) []) low_is e.reaches
              (follows s mark n (record { function = root; at = 0; first_block = length w.memory; held = (holder s).enter root r.environment }) (with_memory w r.memory) [] e.lay_there e.to e.stands) room

  placed_follows : (n : ℕ) → FollowsToStop (around s) mark n m (stopped_run (holder s) s.unit mark root arguments w n)
  placed_follows zero = follows_stopped s mark m w l low_is h.blocks h.input
  placed_follows (suc n) = root_enters n

  -- with its values in temporaries
  pub stopped_follows : (n : ℕ) → FollowsToStop (around s) mark n m (stopped_run temporaries s.unit mark root arguments w n)
  stopped_follows n = subst (λ (z : RootRun). FollowsToStop (around s) mark n m z) (places_keep_stopped_runs s.unit s.places s.emittable.places mark root arguments w n) (placed_follows n)

-- ---- the run itself

-- a result that is another one
abbrev other_than : Option Value → Option Value
other_than None = Some (integer 0)
other_than (Some v) = None

not_other : (result : Option Value) → result ≡ other_than result → ⊥
not_other None e = cc
not_other (Some v) e = cc

-- no word stands for it
abbrev no_word : Option Value
no_word = Some (integer (2 ^ 32))

module _ (s : Setup) (root : ℕ) (arguments : List Value) (w : World) (l : Lay) (m : Watched) (n : ℕ) (h : IsEntry s.unit (around s) (entry s root) root arguments w l m) where
  abbrev run : RootRun
  run = tac_run s.unit root arguments w n

  abbrev HasRoom : Type 0
  HasRoom = base s.room + weight (cost s) (events_of run) ≤ m.now.registers 2

  -- what the stopped run comes to, by the events of the run
  stops_at : (mark : Option Value) → HasRoom → ComesToStop (around s) mark n m (events_of run) (ending_of (stopped_run temporaries s.unit mark root arguments w n))
  stops_at mark room =
      let stopped = stopped_run temporaries s.unit mark root arguments w n in
      let same : events_of stopped ≡ events_of run = (run_stops s.unit mark root arguments w n).events in
      subst (λ (t : List Event). ComesToStop (around s) mark n m t (ending_of stopped)) same
      (stopped_follows s mark root arguments w l m h n (subst (λ (t : List Event). base s.room + weight (cost s) t ≤ m.now.registers 2) (sym same) room))

  abbrev StopsAs : Option Value → Ending (Left Value Memory) → Type 0
  StopsAs mark end = ComesToStop (around s) mark n m (events_of run) end

  has_returned : (left : Left Value Memory) → StopsAs (other_than left.result) (has_ended left) → HasReturned (around s) m (events_of run) left
  has_returned left (inl k) = k
  has_returned left (inr k) = absurd (not_other left.result k.is)

  none_returned : (left : Left Value Memory) → left.result ≡ no_word → HasReturned (around s) m (events_of run) left → ⊥
  none_returned left e k = let small = (subst (λ (r : Option Value). IsResult left.memory k.lay r (register k.to.now a0)) e k.result).1 in absurd (omega (arith, small))

  goes_on : (left : Left Value Memory) → left.result ≡ no_word → StopsAs no_word (has_ended left) → GoesOn (around s) n m (events_of run) (record { memory = left.memory; input = left.input })
  goes_on left e (inl k) = absurd (none_returned left e k)
  goes_on left e (inr k) = k.goes

  comes_to : (end : Ending (Left Value Memory)) → ending_of run ≡ end → HasRoom → ComesTo (around s) n m (events_of run) end (world_after s.unit root arguments w n)
  comes_to (has_ended left) e room =
      has_returned left (subst (λ (x : Ending (Left Value Memory)). StopsAs (other_than left.result) x) ((run_stops s.unit (other_than left.result) root arguments w n).ended left e) (stops_at (other_than left.result) room))
  comes_to is_undefined e room =
      subst (λ (x : Ending (Left Value Memory)). StopsAs None x) ((run_stops s.unit None root arguments w n).undefined e) (stops_at None room)
  comes_to is_short e room =
      let stopped = (run_stops s.unit no_word root arguments w n).stopped e in
      let world : record { memory = stopped.0.memory; input = stopped.0.input } ≡ world_after s.unit root arguments w n =
      ap (world_left w) (sym stopped.1.0) ∙ run_leaves s.unit no_word root arguments w n in
      subst (λ (x : World). GoesOn (around s) n m (events_of run) x) world
      (goes_on stopped.0 stopped.1.1 (subst (λ (x : Ending (Left Value Memory)). StopsAs no_word x) stopped.1.0 (stops_at no_word room)))

pub emitted_code_follows : EmittedCodeFollows
emitted_code_follows s root arguments w l m n h room = comes_to s root arguments w l m n h (ending_of (tac_run s.unit root arguments w n)) refl room
