-- From the start of an image: main is called, and behind it the machine exits with its result.
use Rattle.std.proofs.Common.{◌≡◌, ◌⊎◌, inl, inr, ℕ, zero, suc, ◌+◌, ◌-◌, ◌%◌, ◌<◌, ◌≤◌, Bool, true, false, List, ◌++◌, length, Option, Some, refl, sym, ap, ◌∙◌, subst, arith, min}
use Rattle.std.specs.Prelude.{◌&&◌, nat_lt}
use Rattle.std.proofs.lemmas.Bool.Decides.{nat_tests}
use Rattle.std.proofs.lemmas.Option.{slice_get_within}
use Rattle.qs_base.specs.Words as words
use Rattle.qs_memory.specs.Values.{Value, integer}
use Rattle.qs_memory.specs.Memory.{Memory}
use Rattle.qs_events.specs.Events.{Event, output_of}
use Rattle.qs_events.specs.Runs.{Left, Ending, has_ended, is_undefined, is_short, events_of, ending_of}
use Rattle.qs_events.specs.Weights.{weight}
use Rattle.qs_calls.specs.World.{World}
use Rattle.qs_isa.specs.Addresses.{code_start}
use Rattle.qs_isa.specs.EnvironmentCalls.{exit_call}
use Rattle.qs_isa.specs.Registers.{x0, a7}
use Rattle.qs_isa.specs.declared.instruction.Instr.TheVariants as instructions
use Rattle.qs_image.specs.Image.{Image}
use Rattle.qs_asm.proofs.LaidLaws.{laid_split}
use Rattle.qs_machine.specs.State.{State, register, with_value}
use Rattle.qs_tac.specs.Fits.{function_fits, data_fits}
use Rattle.std.specs.List.{list_all}
use Rattle.qs_emit_selection.specs.Pieces.{addi}
use Rattle.qs_emit_selection.specs.Emission.{start_items, functions_items}
use Rattle.qs_emit_selection.specs.Data.{data_address}
use Rattle.qs_emit.specs.Machine.{Room, Watched, Sight, goes, exits, traps, breaks, instruction_at, is_set, only, watch_on, after, watched}
use Rattle.qs_emit.specs.Lies.{StandsFor}
use Rattle.qs_emit.specs.Surroundings.{Lay, ground}
use Rattle.qs_emit.specs.Relation.{Setup, cost, entry, around}
use Rattle.qs_emit.specs.Entries.{argument_word, IsEntry, HasReturned, ComesTo, IsResult}
use Rattle.qs_emit.specs.Started.{main_run, main_world, IsStart, HasRoom, ExitsBehind, StartsTo, IsExitOf, FollowsFromStart, EmittedCodeFollowsFromStart}
use Rattle.qs_emit.proofs.Injection.{value_there}
use Rattle.qs_emit.proofs.Steps.{Takes, IsSteady, stepped, takes_step, stirred_bytes, same_stirred}
use Rattle.qs_emit.proofs.Slots.{reads_free}
use Rattle.qs_emit.proofs.FrameLaws.{saved_is_for_values, value_link, cell_own, blocks_same}
use Rattle.qs_emit.proofs.LoopSteps.{link_acts}
use Rattle.qs_emit.proofs.CodePlaces.{has_function}
use Rattle.qs_emit.proofs.Jumps.{distance_back}
use Rattle.qs_emit.proofs.Parameters.{in_register, argument_is}
use Rattle.qs_emit.proofs.RootLaws.{emitted_code_follows}

-- ---- what is seen later

-- steps one after the other
watched_sum : (image : Image) (r : Room) (a b n : ℕ) (m : Watched) → n ≡ a + b → watched image r n m ≡ after (watched image r a m) (watched image r b)
watched_sum image r zero b n m e = let same : n ≡ b = omega (arith, e) in ap (λ (k : ℕ). watched image r k m) same
watched_sum image r (suc a) b n m e =
    let same : n ≡ suc (a + b) = omega (arith, e) in
    ap (λ (k : ℕ). watched image r k m) same ∙ by (watch_on image r m (instruction_at image m.now.pc)) (λ w. watched_sum image r a b (a + b) w refl)
  where
    by : (x : Sight) → ((w : Watched) → watched image r (a + b) w ≡ after (watched image r a w) (watched image r b)) → after x (watched image r (a + b)) ≡ after (after x (watched image r a)) (watched image r b)
    by (goes w) more = more w
    by (exits output status low) more = refl
    by (traps cause pc output) more = refl
    by breaks more = refl

-- where the machine doesn't go on, nothing more is seen
abbrev HasStopped : Sight → Type 0
HasStopped (goes w) = ⊥
HasStopped (exits output status low) = Unit {0}
HasStopped (traps cause pc output) = Unit {0}
HasStopped breaks = Unit {0}

stopped_later : (image : Image) (r : Room) (a n : ℕ) (m : Watched) (x : Sight) → a ≤ n → watched image r a m ≡ x → HasStopped x → watched image r n m ≡ x
stopped_later image r a n m x le e stopped =
    let whole : n ≡ a + (n - a) = omega (arith, le) in
    watched_sum image r a (n - a) n m whole ∙ ap (λ y. after y (watched image r (n - a))) e ∙ by x stopped
  where
    by : (x : Sight) → HasStopped x → after x (watched image r (n - a)) ≡ x
    by (goes w) s = absurd s
    by (exits output status low) s = refl
    by (traps cause pc output) s = refl
    by breaks s = refl

not_both : (a : Watched) (x : Sight) → HasStopped x → goes a ≡ x → ⊥
not_both a (goes w) s e = s
not_both a (exits output status low) s e = cc
not_both a (traps cause pc output) s e = cc
not_both a breaks s e = cc

-- ---- the stub

module _ (s : Setup) (arguments : List Value) (w : World) (l : Lay) (m : Watched) (h : IsStart s arguments w l m) where
  both_left : (a b : Bool) → a && b ≡ true → a ≡ true
  both_left true b e = refl
  both_left false b e = cc

  both_right : (a b : Bool) → a && b ≡ true → b ≡ true
  both_right true b e = e
  both_right false b e = cc

  known : s.unit.main < length s.unit.functions
  known =
      let functions = list_all (function_fits s.unit) s.unit.functions in
      let main = nat_lt s.unit.main (length s.unit.functions) in
      let t : main ≡ true = both_right functions main (both_left (functions && main) (list_all data_fits s.unit.data_blocks) s.emittable.fits) in
      grind (arith, nat_tests, t)

  -- JAL, and what stands behind it
  record Stub : Type 0 where
    jump : instruction_at s.image code_start ≡ Some (instructions.Jal 1 (words.sub (entry s s.unit.main) code_start))
    number : instruction_at s.image (code_start + 4) ≡ Some (addi a7 x0 exit_call)
    call : instruction_at s.image (code_start + 4 + 4) ≡ Some instructions.Ecall

  stub : Stub
  stub =
      let sp = laid_split (instruction_at s.image) s.label_at code_start (start_items s.unit) (functions_items s.unit s.places (data_address s.unit.data_blocks) 0 s.unit.functions) s.code_end s.laid in
      record { jump = sp.front.0; number = sp.front.1.0; call = sp.front.1.1.0 }

  abbrev t : State
  t = record m.now { pc = entry s s.unit.main; registers = with_value m.now.registers 1 (m.now.pc + 4) }

  abbrev m1 : Watched
  m1 = stepped s m t

  steady : IsSteady s.room m
  steady = let x2 = h.x2 in let al = h.aligned in let low = h.low in record { set = grind (arith, nat_tests, x2, al); low = omega (arith, low); bytes = h.bytes }

  first_step : Takes s.image s.room 1 m m1
  first_step =
      let g = has_function s s.unit.main known in
      let limit = s.short in
      let low = g.entry_low in
      let target : words.add m.now.pc (words.sub (entry s s.unit.main) code_start) ≡ entry s s.unit.main = ap (λ (p : ℕ). words.add p (words.sub (entry s s.unit.main) code_start)) h.pc ∙ distance_back code_start (entry s s.unit.main) (omega arith) (omega (arith, low, limit)) in
      takes_step s m t (instructions.Jal 1 (words.sub (entry s s.unit.main) code_start)) (ap (λ (p : ℕ). instruction_at s.image p) h.pc ∙ stub.jump) (link_acts s m.now (words.sub (entry s s.unit.main) code_start) (entry s s.unit.main) target g.entry_aligned) refl steady.set

  other : (q : ℕ) → (q ≡ 1 → ⊥) → m1.now.registers q ≡ m.now.registers q
  other q n = value_there m.now.registers 1 (m.now.pc + 4) q n

  few_arguments : length arguments ≤ 8
  few_arguments = let count = h.count in let few = s.emittable.main_parameters in omega (arith, count, few)

  -- main has its arguments in registers, which JAL leaves alone
  argument_there : (i : ℕ) (v : Value) → i < length arguments → StandsFor w.memory l.address_of v (register m.now (10 + i)) → StandsFor w.memory l.address_of v (argument_word m1.now i)
  argument_there i v lt stands =
      let few = few_arguments in
      let first : nat_lt i 8 ≡ true = grind (arith, nat_tests, lt, few) in
      let zero_not : 10 + i ≡ 0 → ⊥ = λ z. absurd (omega (arith, z)) in
      let link_not : 10 + i ≡ 1 → ⊥ = λ z. absurd (omega (arith, z)) in
      let is : argument_word m1.now i ≡ register m.now (10 + i) =
      argument_is s m1.now i ∙ in_register m1.now.registers m1.now.memory (m1.now.registers 2) i first ∙ other (10 + i) link_not ∙ sym (reads_free s m.now (10 + i) zero_not) in
      subst (λ (x : ℕ). StandsFor w.memory l.address_of v x) (sym is) stands

  entered : IsEntry s.unit (around s) (entry s s.unit.main) s.unit.main arguments w l m1
  entered =
      let own = same_stirred s.room m.time (m.now.registers 2) m.now.memory in
      let pc = h.pc in
      let back = h.return_to in
      let low = h.low in
      record {
        known = known;
        pc = refl;
        return_address = ap (λ (p : ℕ). p + 4) pc ∙ sym back;
        x2 = h.x2;
        aligned = h.aligned;
        low = omega (arith, low);
        count = h.count;
        arguments_in = λ i v e. argument_there i v (slice_get_within arguments i v e) (h.arguments_in i v e);
        arguments_below = let few = few_arguments in let x2 = h.x2 in let top = s.ceiling in omega (arith, few, x2, top);
        blocks = blocks_same s w.memory l (m.now.registers 2) m.now.memory m1.now.memory (λ b o live lt. own.same (l.address_of b + o) (cell_own s (ground w.memory l m.now.memory) (m.now.registers 2) b o h.blocks live lt)) h.blocks;
        first = h.first;
        saved = λ q b. let e = other q (value_link q (saved_is_for_values q b)) in let k = h.saved q b in (e ∙ k.0, (let lt = k.1 in omega (arith, e, lt)));
        input = h.input;
        input_bytes = h.input_bytes;
        bytes = stirred_bytes s m.time (m.now.registers 2) m.now.memory h.bytes;
      }

  low_same : m1.low ≡ m.low
  low_same = let low = h.low in omega (arith, low)

  -- ---- behind main

  -- the number of the call, and ECALL
  exits_there : (r : Watched) (a0 low : ℕ) → r.now.pc ≡ code_start + 4 → r.now.registers 2 ≡ s.room.ceiling → r.low ≡ low → low ≤ r.now.registers 2 → r.now.registers 10 ≡ a0 → watched s.image s.room 2 r ≡ exits r.now.output (a0 % 256) low
  exits_there r a0 low pc x2 low_is le a0_is =
      let al = h.aligned in
      let set : is_set s.room r.now ≡ true = grind (arith, nat_tests, x2, al) in
      let least : min r.low (r.now.registers 2) ≡ low = omega (arith, low_is, le) in
      let u : State = record r.now { pc = r.now.pc + 4; registers = with_value r.now.registers 17 0 } in
      let r1 = stepped s r u in
      let one : watch_on s.image s.room r (instruction_at s.image r.now.pc) ≡ goes r1 =
      ap (λ o. watch_on s.image s.room r o) (ap (λ (p : ℕ). instruction_at s.image p) pc ∙ stub.number) ∙ ap (λ b. only b (goes r1)) set in
      let at : instruction_at s.image r1.now.pc ≡ Some instructions.Ecall = ap (λ (p : ℕ). instruction_at s.image (p + 4)) pc ∙ stub.call in
      let two : watch_on s.image s.room r1 (instruction_at s.image r1.now.pc) ≡ exits r.now.output (a0 % 256) low =
      ap (λ o. watch_on s.image s.room r1 o) at ∙ ap (λ (x : ℕ). exits r.now.output (x % 256) (min r.low (r.now.registers 2))) a0_is ∙ ap (λ (x : ℕ). exits r.now.output (a0 % 256) x) least in
      ap (λ x. after x (watched s.image s.room 1)) one ∙ ap (λ x. after x (watched s.image s.room 0)) two

  exits_behind : (trace : List Event) (left : Left Value Memory) → HasReturned (around s) m1 trace left → ExitsBehind s m trace left.result
  exits_behind trace left r =
      let step = first_step.by r.steps in
      let pc : r.to.now.pc ≡ code_start + 4 = r.pc ∙ h.return_to in
      let low_then = r.seen.low in
      let same = low_same in
      let at_start = h.low in
      let low : r.to.low ≡ m.now.registers 2 - weight (cost s) trace = omega (arith, low_then, same, at_start) in
      let x2 = r.x2 in
      let x2_start = h.x2 in
      let end = exits_there r.to (r.to.now.registers 10) (m.now.registers 2 - weight (cost s) trace) pc r.x2 low (omega (arith, x2, x2_start)) refl in
      record {
        steps = step.0 + 2;
        status = r.to.now.registers 10 % 256;
        comes = watched_sum s.image s.room step.0 2 (step.0 + 2) m refl ∙ ap (λ x. after x (watched s.image s.room 2)) (step.1.1 ∙ r.comes) ∙ end ∙ ap (λ (o : List ℕ). exits o (r.to.now.registers 10 % 256) (m.now.registers 2 - weight (cost s) trace)) r.seen.output;
        is = λ v e. status_of left.result v e r.result;
      }
    where
      status_of : (result : Option Value) (v : ℕ) → result ≡ Some (integer v) → IsResult left.memory r.lay result (register r.to.now 10) → r.to.now.registers 10 % 256 ≡ v % 256
      status_of result v e k = let i : IsResult left.memory r.lay (Some (integer v)) (register r.to.now 10) = subst (λ (z : Option Value). IsResult left.memory r.lay z (register r.to.now 10)) e k in ap (λ (x : ℕ). x % 256) i.0

  starts_to : (n : ℕ) (trace : List Event) (end : Ending (Left Value Memory)) (v : World) → ComesTo (around s) n m1 trace end v → StartsTo s n m trace end v
  starts_to n trace (has_ended left) v r = exits_behind trace left r
  starts_to n trace is_undefined v r = let step = first_step.by r.steps in record { steps = step.0; to = r.to; comes = step.1.1 ∙ r.comes; output = r.output }
  starts_to n trace is_short v r =
      let step = first_step.by r.steps in
      let more = step.1.0 in
      let enough = r.enough in
      let low_then = r.seen.low in
      let same = low_same in
      record {
        steps = step.0;
        to = r.to;
        lay = r.lay;
        enough = omega (arith, more, enough);
        comes = step.1.1 ∙ r.comes;
        seen = record { output = r.seen.output; x2 = r.seen.x2; low = omega (arith, low_then, same) };
        blocks = r.blocks;
        input = r.input;
      }

  runs : (n : ℕ) → HasRoom s arguments w m n → StartsTo s n m (events_of (main_run s arguments w n)) (ending_of (main_run s arguments w n)) (main_world s arguments w n)
  runs n room = starts_to n (events_of (main_run s arguments w n)) (ending_of (main_run s arguments w n)) (main_world s arguments w n) (emitted_code_follows s s.unit.main arguments w l m1 n entered room)

  -- ---- the other way

  same_exit : (a b : List ℕ) (x y u v : ℕ) → exits a x u ≡ exits b y v → (a ≡ b) × ((x ≡ y) × (u ≡ v))
  same_exit a b x y u v e = (cc, (cc, cc))

  -- where the machine has stopped within n steps, the run has too
  stops : (n : ℕ) (x : Sight) → HasStopped x → watched s.image s.room n m ≡ x → HasRoom s arguments w m n → (end : Ending (Left Value Memory)) → ending_of (main_run s arguments w n) ≡ end → (trace : List Event) → events_of (main_run s arguments w n) ≡ trace → StartsTo s n m trace end (main_world s arguments w n) → (end ≡ is_undefined) ⊎ ((left : Left Value Memory) × ((end ≡ has_ended left) × ((k : ExitsBehind s m trace left.result) × (x ≡ exits (m.now.output ++ output_of trace) k.status (m.now.registers 2 - weight (cost s) trace)))))
  stops n x stopped e room is_undefined i trace j r = inl refl
  stops n x stopped e room is_short i trace j r = absurd (not_both r.to x stopped (sym r.comes ∙ stopped_later s.image s.room n r.steps m x r.enough e stopped))
  stops n x stopped e room (has_ended left) i trace j r =
      let both = n + r.steps in
      let here = stopped_later s.image s.room n both m x (omega arith) e stopped in
      let there = stopped_later s.image s.room r.steps both m _ (omega arith) r.comes tt in
      inr (left, (refl, (r, sym here ∙ there)))

  stops_as : (n : ℕ) (x : Sight) → HasStopped x → watched s.image s.room n m ≡ x → HasRoom s arguments w m n → (ending_of (main_run s arguments w n) ≡ is_undefined) ⊎ ((left : Left Value Memory) × ((ending_of (main_run s arguments w n) ≡ has_ended left) × ((k : ExitsBehind s m (events_of (main_run s arguments w n)) left.result) × (x ≡ exits (m.now.output ++ output_of (events_of (main_run s arguments w n))) k.status (m.now.registers 2 - weight (cost s) (events_of (main_run s arguments w n)))))))
  stops_as n x stopped e room = stops n x stopped e room (ending_of (main_run s arguments w n)) refl (events_of (main_run s arguments w n)) refl (runs n room)

  exit_of : (n : ℕ) (output : List ℕ) (status low : ℕ) → HasRoom s arguments w m n → watched s.image s.room n m ≡ exits output status low → (ending_of (main_run s arguments w n) ≡ is_undefined) ⊎ IsExitOf s m (main_run s arguments w n) output status low
  exit_of n output status low room e = by (stops_as n (exits output status low) tt e room)
    where
      by : (ending_of (main_run s arguments w n) ≡ is_undefined) ⊎ ((left : Left Value Memory) × ((ending_of (main_run s arguments w n) ≡ has_ended left) × ((k : ExitsBehind s m (events_of (main_run s arguments w n)) left.result) × (exits output status low ≡ exits (m.now.output ++ output_of (events_of (main_run s arguments w n))) k.status (m.now.registers 2 - weight (cost s) (events_of (main_run s arguments w n))))))) → (ending_of (main_run s arguments w n) ≡ is_undefined) ⊎ IsExitOf s m (main_run s arguments w n) output status low
      by (inl u) = inl u
      by (inr k) =
          let same = same_exit _ _ _ _ _ _ k.1.1.1 in
          inr (record { left = k.0; ending = k.1.0; output_is = same.0; status_is = λ v q. same.1.0 ∙ k.1.1.0.is v q; low_is = same.1.1 })

  no_other : (n : ℕ) (x : Sight) → HasStopped x → ((o : List ℕ) (st low : ℕ) → x ≡ exits o st low → ⊥) → HasRoom s arguments w m n → watched s.image s.room n m ≡ x → ending_of (main_run s arguments w n) ≡ is_undefined
  no_other n x stopped not_exit room e = by (stops_as n x stopped e room)
    where
      by : (ending_of (main_run s arguments w n) ≡ is_undefined) ⊎ ((left : Left Value Memory) × ((ending_of (main_run s arguments w n) ≡ has_ended left) × ((k : ExitsBehind s m (events_of (main_run s arguments w n)) left.result) × (x ≡ exits (m.now.output ++ output_of (events_of (main_run s arguments w n))) k.status (m.now.registers 2 - weight (cost s) (events_of (main_run s arguments w n))))))) → ending_of (main_run s arguments w n) ≡ is_undefined
      by (inl u) = u
      by (inr k) = absurd (not_exit _ _ _ k.1.1.1)

  pub follows_from_start : FollowsFromStart s arguments w m
  follows_from_start = record {
    runs = runs;
    exits = exit_of;
    traps = λ n cause pc output room e. no_other n (traps cause pc output) tt (λ o st low q. cc) room e;
    breaks = λ n room e. no_other n breaks tt (λ o st low q. cc) room e;
  }

pub emitted_code_follows_from_start : EmittedCodeFollowsFromStart
emitted_code_follows_from_start s arguments w l m h = follows_from_start s arguments w l m h
