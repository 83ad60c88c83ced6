-- A run that stops where its steps are used up does until there what the run does.
use Rattle.std.proofs.Common.{◌≡◌, ℕ, zero, suc, List, [], ◌∷◌, Option, None, refl, ap}
use Rattle.qs_memory.specs.Values.{Value}
use Rattle.qs_memory.specs.Memory.{Memory}
use Rattle.qs_events.specs.Events.{Event}
use Rattle.qs_events.specs.Runs.{Left, has_ended, is_undefined, is_short, events_of, ending_of}
use Rattle.qs_calls.specs.World.{World, RootRun, leaves}
use Rattle.qs_calls.specs.Relations.{Relation, Keeps}
use Rattle.qs_tac.specs.Trees.{TacUnitTree}
use Rattle.qs_tac.specs.Holders.{Holder, temporaries}
use Rattle.qs_tac.specs.Values.{Activation}
use Rattle.qs_tac.specs.Steps.{Waiting, instruction_at, steps}
use Rattle.qs_tac.specs.Units.{tac_run, stopped_steps, stopped_run, world_left, world_after}
use Rattle.qs_tac.proofs.RelationLaws.{step_related, enters_related}

-- ---- p is o, but that it has ended with this result where o goes on

pub record Stops (result : Option Value) (o p : RootRun) : Type 0 where
  pub events : events_of p ≡ events_of o
  pub ended : (left : Left Value Memory) → ending_of o ≡ has_ended left → ending_of p ≡ has_ended left
  pub undefined : ending_of o ≡ is_undefined → ending_of p ≡ is_undefined
  pub stopped :
      ending_of o ≡ is_short
      → (left : Left Value Memory) × ((ending_of p ≡ has_ended left) × (left.result ≡ result))

stops_keeps : (result : Option Value) → Keeps (Stops result)
stops_keeps result = record {
  emit = λ event o p h. record {
    events = ap (λ (t : List Event). event ∷ t) h.events;
    ended = h.ended;
    undefined = h.undefined;
    stopped = h.stopped;
  };
  undefined = record { events = refl; ended = λ left e. e; undefined = λ e. e; stopped = λ e. cc };
}

leaves_stops : (mark result : Option Value) (w : World) → Stops mark (leaves result w) (leaves result w)
leaves_stops mark result w = record { events = refl; ended = λ left e. e; undefined = λ e. cc; stopped = λ e. cc }

-- ---- both leave the same world

abbrev SameWorld : (otherwise : World) → Relation
SameWorld otherwise o p = world_left otherwise (ending_of o) ≡ world_left otherwise (ending_of p)

same_keeps : (otherwise : World) → Keeps (SameWorld otherwise)
same_keeps otherwise = record { emit = λ event o p h. h; undefined = refl }

-- ---- steps

module _ {S : Type 0} (h : Holder S) (u : TacUnitTree) (mark : Option Value) where
  steps_stop : (m : ℕ) (a : Activation S) (w : World) (stack : List (Waiting S)) → Stops mark (steps h u m a w stack) (stopped_steps h u mark m a w stack)
  steps_stop zero a w stack = record {
    events = refl;
    ended = λ left e. cc;
    undefined = λ e. cc;
    stopped = λ e. (record { result = mark; memory = w.memory; input = w.input }, (refl, refl));
  }
  steps_stop (suc m) a w stack =
      step_related (Stops mark) (stops_keeps mark) (leaves_stops mark) h u u (λ f. refl) (steps h u m) (stopped_steps h u mark m)
      (steps_stop m) (instruction_at u a) a w stack

  steps_leave : (otherwise : World) (m : ℕ) (a : Activation S) (w : World) (stack : List (Waiting S)) → SameWorld otherwise (stopped_steps h u mark m a w stack) (stopped_steps h u None m a w stack)
  steps_leave otherwise zero a w stack = refl
  steps_leave otherwise (suc m) a w stack =
      step_related (SameWorld otherwise) (same_keeps otherwise) (λ result v. refl) h u u (λ f. refl) (stopped_steps h u mark m) (stopped_steps h u None m)
      (steps_leave otherwise m) (instruction_at u a) a w stack

-- ---- runs

module _ (u : TacUnitTree) (mark : Option Value) (root : ℕ) (arguments : List Value) (w : World) where
  pub run_stops : (m : ℕ) → Stops mark (tac_run u root arguments w m) (stopped_run temporaries u mark root arguments w m)
  run_stops zero = record {
    events = refl;
    ended = λ left e. cc;
    undefined = λ e. cc;
    stopped = λ e. (record { result = mark; memory = w.memory; input = w.input }, (refl, refl));
  }
  run_stops (suc m) =
      enters_related (Stops mark) (stops_keeps mark) (leaves_stops mark) temporaries u u (λ f. refl) (steps temporaries u m) (stopped_steps temporaries u mark m)
      (steps_stop temporaries u mark m) [] root arguments leaves leaves (leaves_stops mark) w

  -- whatever result it leaves
  pub run_leaves : (m : ℕ) → world_left w (ending_of (stopped_run temporaries u mark root arguments w m)) ≡ world_after u root arguments w m
  run_leaves zero = refl
  run_leaves (suc m) =
      enters_related (SameWorld w) (same_keeps w) (λ result v. refl) temporaries u u (λ f. refl) (stopped_steps temporaries u mark m) (stopped_steps temporaries u None m)
      (steps_leave temporaries u mark w m) [] root arguments leaves leaves (λ result v. refl) w
