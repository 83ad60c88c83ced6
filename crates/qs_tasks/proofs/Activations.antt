-- An activation among others does what it does alone.
use Rattle.std.proofs.Common.{◌≡◌, ◌⊎◌, inl, inr, ⊎_elim, ℕ, zero, suc, ◌+◌, ◌%◌, ◌≤◌, ◌<◌, List, [], ◌++◌, length, All, refl, sym, ap, ◌∙◌, subst, arith, append_assoc}
use Rattle.std.specs.Prelude.{nat_le, ◌==◌}
use Rattle.std.proofs.lemmas.Bool.{cases_order, and_parts}
use Rattle.std.proofs.lemmas.Bool.Decides.{nat_tests}
use Rattle.std.proofs.lemmas.List.{append-nil, append_cancel_left}
use Rattle.qs_memory.specs.Values.{Value}
use Rattle.qs_memory.specs.Memory.{Memory}
use Rattle.qs_events.specs.Events.{output_of}
use Rattle.qs_events.specs.Runs.{Left, Ending, has_ended, is_undefined, is_short, events_of, ending_of}
use Rattle.qs_events.specs.Weights.{weight}
use Rattle.qs_calls.specs.World.{World, RootRun}
use Rattle.qs_machine.specs.State.{State, stack_pointer, stack_base, stack_top}
use Rattle.qs_machine.specs.Laws.{IsState}
use Rattle.qs_machine.proofs.StepLaws.{steps_keep_states}
use Rattle.qs_tac.specs.Units.{world_after}
use Rattle.qs_emit.specs.Machine.{Room, Watched, Sight, goes, exits, traps, breaks, watch, after, watched}
use Rattle.qs_emit.specs.Lies.{AreBytes}
use Rattle.qs_emit.specs.Surroundings.{Surroundings, ground, HasBlocks}
use Rattle.qs_emit.specs.Entries.{IsEntry, HasSeen, HasReturned, ComesTo}
use Rattle.qs_emit.specs.Emitted.{AreSurroundings}
use Rattle.qs_tasks_run.specs.TasksRun.{entry_of}
use Rattle.qs_tasks.specs.Alone.{Program, function_of, activation, left_world, Alone, and_another, costs_of}
use Rattle.qs_tasks.specs.Safe.{GaveSoFar}
use Rattle.qs_tasks.proofs.Setting.{room, IsWork, nothing_at_0, short, data_low}
use Rattle.qs_tasks.proofs.WatchedRuns.{goes_same, watched_step, watched_more, split_at, Onward, onward, same_room}
use Rattle.qs_tasks.proofs.Among.{nobody, with_memory, at_entry, SameOwn, CanStep, Went, IsSeen, seen}
use Rattle.qs_tasks.proofs.Resting.{Rests, rests_on, around, finds, rests_again}

module _ (p : Program) (bound times : ℕ → ℕ) where
  -- an activation begins: x2 and what its task touches are as they are to be, and there is room for it
  pub record IsEntered (task number : ℕ) (w : World) (ceiling : ℕ) (s : State) : Type 0 where
    pub counted : number < times task
    pub pc : s.pc ≡ entry_of p.system task
    pub return_address : s.registers 1 ≡ 0
    pub x2 : stack_pointer s ≡ ceiling
    pub aligned : ceiling % 16 ≡ 0
    pub has_room : stack_base p.system.size + bound task ≤ ceiling
    pub high : ceiling ≤ stack_top
    pub rests : Rests p task w.memory s.memory
    pub input : s.input ≡ w.input
    pub state : IsState s
    pub alone : Alone p task number s.output w

  -- it has come so far, among others
  pub record IsAmid (task number ceiling : ℕ) (now : State) : Type 0 where
    pub world : World
    pub from : State
    pub entered : IsEntered task number world ceiling from
    pub steps : ℕ
    pub went : Went p task ceiling steps from now

  -- ---- where it stands

  pub record Stands (task number ceiling : ℕ) (now : State) : Type 0 where
    pub state : IsState now
    pub below : stack_pointer now ≤ ceiling
    pub aligned : stack_pointer now % 16 ≡ 0
    pub has_room : stack_base p.system.size + bound task ≤ ceiling
    -- it takes no more of the stack than its bound
    pub deep : ceiling ≤ stack_pointer now + bound task
    pub gave : GaveSoFar p task (times task) number now.output

  pub record IsBack (task number ceiling : ℕ) (now : State) : Type 0 where
    pub world : World
    pub x2 : stack_pointer now ≡ ceiling
    pub rests : Rests p task world.memory now.memory
    pub input : now.input ≡ world.input
    pub alone : Alone p task (suc number) now.output world

  module _ (works : IsWork p bound times) where
    with_bytes : (s : State) (memory : ℕ → ℕ) → IsState s → AreBytes memory → IsState (with_memory s memory)
    with_bytes s memory h b = record { proper = h.proper; bytes = b; input = h.input }

    went_state : (task ceiling steps : ℕ) (from to : State) → Went p task ceiling steps from to → IsState from → IsState to
    went_state task ceiling zero from to e h = subst IsState e h
    went_state task ceiling (suc steps) from to (amid, before, w) h =
        let f = went_state task ceiling steps from amid before h in
        let k = steps_keep_states p.system.image p.system.size amid w.can.next (short p works.tasks) f w.can.steps in
        subst IsState (sym w.is) (with_bytes w.can.next w.memory k.state w.bytes)

    module _ (task number ceiling : ℕ) (now : State) (a : IsAmid task number ceiling now) where
      abbrev f : IsSeen p task ceiling a.steps a.from now
      f = seen p task ceiling a.steps a.from now a.went

      abbrev r : Room
      r = room p task ceiling f.others

      abbrev m : Watched
      m = at_entry a.from

      -- as it is watched
      abbrev w : Watched
      w = record { now = now; low = f.low; time = a.steps }

      abbrev e : IsEntered task number a.world ceiling a.from
      e = a.entered

      abbrev t : Surroundings
      t = around p task f.others ceiling a.from.registers a.world.memory e.rests.lay

      abbrev whole : RootRun
      whole = activation p task a.world (suc a.steps)

      there : task < length p.system.tasks
      there = let c = e.counted in works.known task (omega (arith, c))

      surroundings : AreSurroundings p.unit p.system.image t
      surroundings = record {
        here = refl;
        costs = record { each = λ g lt. refl };
        stack = works.most;
        ceiling = e.high;
        others = f.others_bytes;
        return_aligned = refl;
        return_word = omega arith;
        data_there = e.rests.enough;
        data_lie = e.rests.placed;
      }

      entry : IsEntry p.unit t (entry_of p.system task) (function_of p task) [] a.world e.rests.lay m
      entry =
          let none = works.tasks.without_parameters task there in
          let x2 = e.x2 in
          let high = e.high in
          record {
            known = works.tasks.known task there;
            pc = e.pc;
            return_address = e.return_address;
            x2 = e.x2;
            aligned = e.aligned;
            low = refl;
            count = sym none;
            arguments_in = λ i v at. absurd cc;
            arguments_below = omega (arith, x2, high);
            blocks = subst (λ (sp : ℕ). HasBlocks t (ground a.world.memory e.rests.lay a.from.memory) sp) (sym e.x2) (finds p task f.others ceiling a.from.registers a.world.memory a.from.memory e.rests);
            first = refl;
            saved = λ g is. (refl, e.state.proper.words g);
            input = e.input;
            input_bytes = subst (λ (l : List ℕ). All (λ byte. byte < 256) l) e.input e.state.input;
            bytes = e.state.bytes;
          }

      comes : ComesTo t (suc a.steps) m (events_of whole) (ending_of whole) (world_after p.unit (function_of p task) [] a.world (suc a.steps))
      comes =
          let weighs = (works.alone task).weighs number (suc a.steps) a.from.output a.world e.counted e.alone in
          let has_room = e.has_room in
          let x2 = e.x2 in
          works.tasks.emitted.functions t (function_of p task) [] a.world e.rests.lay m (suc a.steps) surroundings entry (omega (arith, weighs, has_room, x2))

      -- either it goes on from here, or it is back
      record GoesFurther : Type 0 where
        next : Watched
        goes_on : watch p.system.image r w ≡ goes next
        rest : ℕ
        to : Watched
        further : watched p.system.image r rest next ≡ goes to
        seen_there : HasSeen t m to (events_of whole)

      record IsBackHere : Type 0 where
        left : Left Value Memory
        ended : ending_of whole ≡ has_ended left
        seen_there : HasSeen t m w (events_of whole)
        pc : now.pc ≡ 0
        x2 : stack_pointer now ≡ ceiling
        rests : Rests p task left.memory now.memory
        input : now.input ≡ left.input

      from_here : (n : ℕ) (to : Watched) → suc a.steps ≤ n → watched p.system.image r n m ≡ goes to → HasSeen t m to (events_of whole) → GoesFurther
      from_here n to le is seen_there =
          let c = split_at p.system.image r (suc a.steps) n m to le is in
          record {
            next = c.2.amid;
            goes_on = ap (λ (x : Sight). after x (watch p.system.image r)) (sym f.comes) ∙ sym (watched_more p.system.image r a.steps m) ∙ c.2.comes;
            rest = c.0;
            to = to;
            further = c.2.goes_on;
            seen_there = seen_there;
          }

      -- nothing follows where pc is 0
      stays : (s next : Watched) → s.now.pc ≡ 0 → watch p.system.image r s ≡ goes next → ⊥
      stays s next pc is = let x = watched_step p.system.image r s next is in nothing_at_0 p.system.image p.system.size s.now x.next pc x.steps

      stops_at : (rest : ℕ) (s to : Watched) → s.now.pc ≡ 0 → 0 < rest → watched p.system.image r rest s ≡ goes to → ⊥
      stops_at zero s to pc lt is = omega (arith, lt)
      stops_at (suc rest) s to pc lt is = first (watch p.system.image r s) refl is
        where
          first : (x : Sight) → watch p.system.image r s ≡ x → after x (watched p.system.image r rest) ≡ goes to → ⊥
          first (goes v) q is = stays s v pc q
          first (exits output status low) q is = cc
          first (traps cause pc output) q is = cc
          first breaks q is = cc

      some : 0 < stack_base p.system.size
      some = let low = data_low p works.tasks works.most in omega (arith, low)

      back_at : (left : Left Value Memory) → ending_of whole ≡ has_ended left → (g : HasReturned t m (events_of whole) left) → g.to ≡ w → IsBackHere
      back_at left ended g same =
          let has_room = e.has_room in
          record {
            left = left;
            ended = ended;
            seen_there = subst (λ (v : Watched). HasSeen t m v (events_of whole)) same g.seen;
            pc = subst (λ (v : Watched). v.now.pc ≡ 0) same g.pc;
            x2 = subst (λ (v : Watched). stack_pointer v.now ≡ ceiling) same g.x2;
            rests = subst (λ (v : Watched). Rests p task left.memory v.now.memory) same
                (rests_again p task f.others ceiling a.from.registers a.world.memory a.from.memory e.rests left.memory g.lay g.to.now.memory
                (subst (λ (sp : ℕ). HasBlocks t (ground left.memory g.lay g.to.now.memory) sp) g.x2 g.blocks)
                g.only_old (omega (arith, has_room)) some);
            input = subst (λ (v : Watched). v.now.input ≡ left.input) same g.input;
          }

      by : (ending : Ending (Left Value Memory)) → ending_of whole ≡ ending → ComesTo t (suc a.steps) m (events_of whole) ending (world_after p.unit (function_of p task) [] a.world (suc a.steps)) → GoesFurther ⊎ IsBackHere
      by is_undefined ended g = absurd ((works.alone task).defined number (suc a.steps) a.from.output a.world e.counted e.alone ended)
      by is_short ended g = inl (from_here g.steps g.to g.enough g.comes g.seen)
      by (has_ended left) ended g = ⊎_elim here (⊎_elim before behind) (cases_order g.steps a.steps)
        where
          here : g.steps ≡ a.steps → GoesFurther ⊎ IsBackHere
          here q = inr (back_at left ended g (goes_same g.to w (sym g.comes ∙ ap (λ (n : ℕ). watched p.system.image r n m) q ∙ f.comes)))

          before : g.steps < a.steps → GoesFurther ⊎ IsBackHere
          before lt =
              let c = split_at p.system.image r g.steps a.steps m w (omega (arith, lt)) f.comes in
              let same : c.2.amid ≡ g.to = goes_same c.2.amid g.to (sym c.2.comes ∙ g.comes) in
              let sum = c.1 in
              absurd (stops_at c.0 c.2.amid w (ap (λ (v : Watched). v.now.pc) same ∙ g.pc) (omega (arith, lt, sum)) c.2.goes_on)

          behind : a.steps < g.steps → GoesFurther ⊎ IsBackHere
          behind lt = inl (from_here g.steps g.to lt g.comes g.seen)

      further_or_back : GoesFurther ⊎ IsBackHere
      further_or_back = by (ending_of whole) refl comes

      -- ---- what follows from it

      abbrev so_far : Onward p.system.image r m w
      so_far = onward p.system.image r a.steps m w f.comes

      abbrev onward_there : (g : GoesFurther) → Onward p.system.image r w g.to
      onward_there g = onward p.system.image r (suc g.rest) w g.to (ap (λ (x : Sight). after x (watched p.system.image r g.rest)) g.goes_on ∙ g.further)

      given : (rest : List ℕ) → now.output ++ rest ≡ a.from.output ++ output_of (events_of whole) → GaveSoFar p task (times task) number now.output
      given rest is = record {
        few = let c = e.counted in omega (arith, c);
        whole = a.from.output;
        world = a.world;
        alone = e.alone;
        part = so_far.more;
        is = so_far.puts;
        next = inr e.counted;
        n = suc a.steps;
        rest = rest;
        begins = append_cancel_left a.from.output (output_of (events_of whole)) (so_far.more ++ rest) (sym is ∙ ap (λ (o : List ℕ). o ++ rest) so_far.puts ∙ append_assoc a.from.output so_far.more rest);
      }

      pub gave_here : GaveSoFar p task (times task) number now.output
      gave_here = ⊎_elim (λ g. let o = onward_there g in given o.more (sym o.puts ∙ g.seen_there.output)) (λ b. given [] (append-nil now.output ∙ b.seen_there.output)) further_or_back

      low_here : f.low ≤ stack_pointer now
      low_here = so_far.x2 (omega arith)

      weighs : weight (costs_of p.system.image) (events_of whole) ≤ bound task
      weighs = (works.alone task).weighs number (suc a.steps) a.from.output a.world e.counted e.alone

      deep_here : ceiling ≤ stack_pointer now + bound task
      deep_here = ⊎_elim by_further by_back further_or_back
        where
          by_further : GoesFurther → ceiling ≤ stack_pointer now + bound task
          by_further g =
              let o = (onward_there g).low in
              let low = g.seen_there.low in
              let here = low_here in
              let light = weighs in
              let x2 = e.x2 in
              omega (arith, o, low, here, light, x2)

          by_back : IsBackHere → ceiling ≤ stack_pointer now + bound task
          by_back b =
              let low = b.seen_there.low in
              let here = low_here in
              let light = weighs in
              let x2 = e.x2 in
              omega (arith, low, here, light, x2)

      pub can_step : (now.pc ≡ 0 → ⊥) → CanStep p task ceiling now
      can_step running = ⊎_elim
          (λ g.
          let x = watched_step p.system.image r w g.next g.goes_on in
          let q = and_parts (nat_le (stack_pointer x.next) ceiling) (stack_pointer x.next % 16 == 0) x.set in
          let low = q.0 in
          let al = q.1 in
          record {
            instruction = x.instruction;
            next = x.next;
            is = x.is;
            keeps = same_room p.system.image (room p task ceiling nobody) f.others now x.instruction ∙ x.keeps;
            steps = x.steps;
            below = grind (arith, nat_tests, low);
            aligned = grind (arith, nat_tests, al);
          })
          (λ b. absurd (running b.pc))
          further_or_back

      pub is_back : now.pc ≡ 0 → IsBack task number ceiling now
      is_back pc = ⊎_elim
          (λ g. absurd (stays w g.next pc g.goes_on))
          (λ b. record {
            world = left_world b.left;
            x2 = b.x2;
            rests = b.rests;
            input = b.input;
            alone = subst (λ (o : List ℕ). Alone p task (suc number) o (left_world b.left)) (sym b.seen_there.output) (and_another number (suc a.steps) a.from.output a.world b.left e.alone b.ended);
          })
          further_or_back

    went_set : (task ceiling steps : ℕ) (from to : State) → Went p task ceiling steps from to → stack_pointer from ≡ ceiling → ceiling % 16 ≡ 0 → (stack_pointer to ≤ ceiling) × (stack_pointer to % 16 ≡ 0)
    went_set task ceiling zero from to e x2 al = subst (λ (s : State). (stack_pointer s ≤ ceiling) × (stack_pointer s % 16 ≡ 0)) e (omega (arith, x2), omega (arith, x2, al))
    went_set task ceiling (suc steps) from to (amid, before, w) x2 al = subst (λ (s : State). (stack_pointer s ≤ ceiling) × (stack_pointer s % 16 ≡ 0)) (sym w.is) (w.can.below, w.can.aligned)

    pub stands : (task number ceiling : ℕ) (now : State) → IsAmid task number ceiling now → Stands task number ceiling now
    stands task number ceiling now a =
        let q = went_set task ceiling a.steps a.from now a.went a.entered.x2 a.entered.aligned in
        record {
          state = went_state task ceiling a.steps a.from now a.went a.entered.state;
          below = q.0;
          aligned = q.1;
          has_room = a.entered.has_room;
          deep = deep_here task number ceiling now a;
          gave = gave_here task number ceiling now a;
        }

    -- ---- one instruction more, and others

    pub goes_one : (task number ceiling : ℕ) (now : State) → IsAmid task number ceiling now → (c : CanStep p task ceiling now) → IsAmid task number ceiling c.next
    goes_one task number ceiling now a c =
        let h = went_state task ceiling a.steps a.from now a.went a.entered.state in
        let k = steps_keep_states p.system.image p.system.size now c.next (short p works.tasks) h c.steps in
        record {
          world = a.world;
          from = a.from;
          entered = a.entered;
          steps = suc a.steps;
          went = (now, a.went, record { can = c; memory = c.next.memory; own = record { same = λ at own. refl }; bytes = k.state.bytes; is = refl });
        }

    entered_stirred : (task number : ℕ) (w : World) (ceiling : ℕ) (s : State) (memory : ℕ → ℕ) → IsEntered task number w ceiling s → SameOwn p task (stack_pointer s) s.memory memory → AreBytes memory → IsEntered task number w ceiling (with_memory s memory)
    entered_stirred task number w ceiling s memory e own bytes = record {
      counted = e.counted;
      pc = e.pc;
      return_address = e.return_address;
      x2 = e.x2;
      aligned = e.aligned;
      has_room = e.has_room;
      high = e.high;
      rests = rests_on p task w.memory s.memory memory e.rests (λ at kept. own.same at (inr kept));
      input = e.input;
      state = with_bytes s memory e.state bytes;
      alone = e.alone;
    }

    stirred_by : (task number : ℕ) (world : World) (ceiling : ℕ) (now from : State) (memory : ℕ → ℕ) → IsEntered task number world ceiling from → (steps : ℕ) → Went p task ceiling steps from now → SameOwn p task (stack_pointer now) now.memory memory → AreBytes memory → IsAmid task number ceiling (with_memory now memory)
    stirred_by task number world ceiling now from memory e zero q own bytes = record {
      world = world;
      from = with_memory now memory;
      entered = entered_stirred task number world ceiling now memory (subst (λ (s : State). IsEntered task number world ceiling s) q e) own bytes;
      steps = zero;
      went = refl;
    }
    stirred_by task number world ceiling now from memory e (suc steps) (amid, before, w) own bytes =
        let there : SameOwn p task (stack_pointer w.can.next) w.memory memory = subst (λ (s : State). SameOwn p task (stack_pointer s) s.memory memory) w.is own in
        record {
          world = world;
          from = from;
          entered = e;
          steps = suc steps;
          went = (
            amid,
            before,
            record {
              can = w.can;
              memory = memory;
              own = record { same = λ at o. there.same at o ∙ w.own.same at o };
              bytes = bytes;
              is = ap (λ (s : State). with_memory s memory) w.is;
            },
          );
        }

    pub amid_stirred : (task number ceiling : ℕ) (now : State) (memory : ℕ → ℕ) → IsAmid task number ceiling now → SameOwn p task (stack_pointer now) now.memory memory → AreBytes memory → IsAmid task number ceiling (with_memory now memory)
    amid_stirred task number ceiling now memory a own bytes = stirred_by task number a.world ceiling now a.from memory a.entered a.steps a.went own bytes
