-- One step of linear code: what the machine does meanwhile, and what that says of the run.
use Rattle.std.proofs.Common.{◌≡◌, ◌⊎◌, inl, inr, ℕ, suc, ◌+◌, ◌-◌, ◌*◌, ◌%◌, ◌≤◌, List, [], ◌∷◌, ◌++◌, length, Option, Some, None, refl, sym, ap, ◌∙◌, subst, arith, min, append-nil, append_assoc}
use Rattle.std.proofs.lemmas.Bool.Decides.{nat_tests}
use Rattle.qs_memory.specs.Values.{Value}
use Rattle.qs_memory.specs.Memory.{Memory}
use Rattle.qs_events.specs.Events.{Event, Calls, Returns, Takes, TakesEnd, Puts, output_of}
use Rattle.qs_events.specs.Runs.{emit, undefined, given, Left, Ending, has_ended, is_undefined, is_short, events_of, ending_of}
use Rattle.qs_events.specs.Weights.{weight}
use Rattle.qs_calls.specs.World.{World, with_memory, RootRun, leaves}
use Rattle.qs_isa.specs.declared.instruction.Instr.{Instr}
use Rattle.qs_asm.specs.Items.{Lays, plain}
use Rattle.qs_tac.specs.Holders.{File}
use Rattle.qs_tac.specs.Values.{Activation}
use Rattle.qs_tac.specs.Steps.{Waiting}
use Rattle.qs_emit.specs.Machine.{Watched, base, instruction_at}
use Rattle.qs_emit.specs.Lies.{AreBytes}
use Rattle.qs_emit.specs.Surroundings.{Surroundings, Lay, ground, HasBlocks}
use Rattle.qs_emit.specs.Relation.{Setup, cost, place, IsRelated, StandsAt, around}
use Rattle.qs_emit.specs.Entries.{x2_behind, HasSeen, GoesOn, HasReturned, CameFar}
use Rattle.qs_emit.proofs.Steps.{Takes as IsTaken, takes_less, HasAt, Does, IsSteady}
use Rattle.qs_emit.proofs.FrameLaws.{related_to}
use Rattle.qs_emit.proofs.Operands.{IsAmid}
use Rattle.qs_emit.proofs.CodePlaces.{plain_laid, HasFunction, fits_between}

-- ---- events on the machine

-- what an event does to x2 and to the least x2
abbrev pub Moved : (costs : ℕ → ℕ) → Option Event → (sp later_sp low later_low : ℕ) → Type 0
Moved costs None sp later_sp low later_low = (later_sp ≡ sp) × (later_low ≡ low)
Moved costs (Some (Calls f)) sp later_sp low later_low = (later_sp + costs f ≡ sp) × (later_low ≡ min low later_sp)
Moved costs (Some (Returns f)) sp later_sp low later_low = (later_sp ≡ sp + costs f) × (later_low ≡ low)
Moved costs (Some (Takes byte)) sp later_sp low later_low = (later_sp ≡ sp) × (later_low ≡ low)
Moved costs (Some TakesEnd) sp later_sp low later_low = (later_sp ≡ sp) × (later_low ≡ low)
Moved costs (Some (Puts byte)) sp later_sp low later_low = (later_sp ≡ sp) × (later_low ≡ low)

abbrev pub trace_of : Option Event → List Event
trace_of None = []
trace_of (Some e) = e ∷ []

-- the machine comes to a state behind an event, or behind none
pub record Reaches (s : Setup) (m : Watched) (e : Option Event) (m1 : Watched) : Type 0 where
  pub takes : IsTaken s.image s.room 1 m m1
  pub output : m1.now.output ≡ m.now.output ++ output_of (trace_of e)
  pub moved : Moved (cost s) e (m.now.registers 2) (m1.now.registers 2) m.low m1.low

abbrev pub emitted : Option Event → RootRun → RootRun
emitted None run = run
emitted (Some e) run = emit e run

events_emitted : (e : Option Event) (run : RootRun) → events_of (emitted e run) ≡ trace_of e ++ events_of run
events_emitted None run = refl
events_emitted (Some e) run = refl

ending_emitted : (e : Option Event) (run : RootRun) → ending_of (emitted e run) ≡ ending_of run
ending_emitted None run = refl
ending_emitted (Some e) run = refl

output_emitted : (e : Option Event) (t : List Event) → output_of (trace_of e ++ t) ≡ output_of (trace_of e) ++ output_of t
output_emitted None t = refl
output_emitted (Some (Calls f)) t = refl
output_emitted (Some (Returns f)) t = refl
output_emitted (Some (Takes byte)) t = refl
output_emitted (Some TakesEnd) t = refl
output_emitted (Some (Puts byte)) t = refl

low_moved : (costs : ℕ → ℕ) (e : Option Event) (t : List Event) (sp later_sp low later_low : ℕ) → Moved costs e sp later_sp low later_low → low ≤ sp → min later_low (later_sp - weight costs t) ≡ min low (sp - weight costs (trace_of e ++ t))
low_moved costs None t sp later_sp low later_low m h = let x = m.0 in let y = m.1 in omega (arith, x, y, h)
low_moved costs (Some (Calls f)) t sp later_sp low later_low m h = let x = m.0 in let y = m.1 in omega (arith, x, y, h)
low_moved costs (Some (Returns f)) t sp later_sp low later_low m h = let x = m.0 in let y = m.1 in omega (arith, x, y, h)
low_moved costs (Some (Takes byte)) t sp later_sp low later_low m h = let x = m.0 in let y = m.1 in omega (arith, x, y, h)
low_moved costs (Some TakesEnd) t sp later_sp low later_low m h = let x = m.0 in let y = m.1 in omega (arith, x, y, h)
low_moved costs (Some (Puts byte)) t sp later_sp low later_low m h = let x = m.0 in let y = m.1 in omega (arith, x, y, h)

x2_moved : (costs : ℕ → ℕ) (e : Option Event) (t : List Event) (sp later_sp low later_low : ℕ) → Moved costs e sp later_sp low later_low → x2_behind costs t later_sp ≡ x2_behind costs (trace_of e ++ t) sp
x2_moved costs None t sp later_sp low later_low m = ap (x2_behind costs t) m.0
x2_moved costs (Some (Calls f)) t sp later_sp low later_low m = let x = m.0 in let e : later_sp ≡ sp - costs f = omega (arith, x) in ap (x2_behind costs t) e
x2_moved costs (Some (Returns f)) t sp later_sp low later_low m = ap (x2_behind costs t) m.0
x2_moved costs (Some (Takes byte)) t sp later_sp low later_low m = ap (x2_behind costs t) m.0
x2_moved costs (Some TakesEnd) t sp later_sp low later_low m = ap (x2_behind costs t) m.0
x2_moved costs (Some (Puts byte)) t sp later_sp low later_low m = ap (x2_behind costs t) m.0

-- room for an event and what follows is room for the event, and then for what follows
room_later : (r : ℕ) (costs : ℕ → ℕ) (e : Option Event) (t : List Event) (sp later_sp low later_low : ℕ) → r + weight costs (trace_of e ++ t) ≤ sp → Moved costs e sp later_sp low later_low → r + weight costs t ≤ later_sp
room_later r costs None t sp later_sp low later_low h m = let x = m.0 in omega (arith, x, h)
room_later r costs (Some (Calls f)) t sp later_sp low later_low h m = let x = m.0 in omega (arith, x, h)
room_later r costs (Some (Returns f)) t sp later_sp low later_low h m = let x = m.0 in omega (arith, x, h)
room_later r costs (Some (Takes byte)) t sp later_sp low later_low h m = let x = m.0 in omega (arith, x, h)
room_later r costs (Some TakesEnd) t sp later_sp low later_low h m = let x = m.0 in omega (arith, x, h)
room_later r costs (Some (Puts byte)) t sp later_sp low later_low h m = let x = m.0 in omega (arith, x, h)

-- ---- runs that stop where their steps are used up, and leave this mark as their result

-- such a run has stopped: the machine goes on, and the world that is left lies there
pub record HasStopped (t : Surroundings) (mark : Option Value) (n : ℕ) (m : Watched) (trace : List Event) (left : Left Value Memory) : Type 0 where
  pub is : left.result ≡ mark
  pub goes : GoesOn t n m trace (record { memory = left.memory; input = left.input })

abbrev pub ComesToStop : Surroundings → (mark : Option Value) → (n : ℕ) → Watched → List Event → Ending (Left Value Memory) → Type 0
ComesToStop t mark n m trace (has_ended left) = HasReturned t m trace left ⊎ HasStopped t mark n m trace left
ComesToStop t mark n m trace is_undefined = CameFar t m trace
ComesToStop t mark n m trace is_short = Unit {0}

abbrev pub FollowsToStop : Surroundings → (mark : Option Value) → (n : ℕ) → Watched → RootRun → Type 0
FollowsToStop t mark n m run =
    base t.room + weight t.costs (events_of run) ≤ m.now.registers 2 → ComesToStop t mark n m (events_of run) (ending_of run)

module _ (s : Setup) where
  seen_later : (m m1 to : Watched) (e : Option Event) (t : List Event) → Reaches s m e m1 → m.low ≤ m.now.registers 2 → HasSeen (around s) m1 to t → HasSeen (around s) m to (trace_of e ++ t)
  seen_later m m1 to e t r least seen = record {
    output = seen.output ∙ ap (λ (x : List ℕ). x ++ output_of t) r.output ∙ append_assoc m.now.output (output_of (trace_of e)) (output_of t) ∙ ap (λ (x : List ℕ). m.now.output ++ x) (sym (output_emitted e t));
    x2 = seen.x2 ∙ x2_moved (cost s) e t (m.now.registers 2) (m1.now.registers 2) m.low m1.low r.moved;
    low = seen.low ∙ low_moved (cost s) e t (m.now.registers 2) (m1.now.registers 2) m.low m1.low r.moved least;
  }

  returned_later : (m m1 : Watched) (e : Option Event) (t : List Event) (left : Left Value Memory) → Reaches s m e m1 → m.low ≤ m.now.registers 2 → HasReturned (around s) m1 t left → HasReturned (around s) m (trace_of e ++ t) left
  returned_later m m1 e t left r least c =
      let x = r.takes.by c.steps in
      record {
        steps = x.0;
        to = c.to;
        lay = c.lay;
        comes = x.1.1 ∙ c.comes;
        seen = seen_later m m1 c.to e t r least c.seen;
        pc = c.pc;
        x2 = c.x2;
        saved = c.saved;
        result = c.result;
        only_old = c.only_old;
        blocks = c.blocks;
        input = c.input;
      }

  goes_later : (n : ℕ) (m m1 : Watched) (e : Option Event) (t : List Event) (w : World) → Reaches s m e m1 → m.low ≤ m.now.registers 2 → GoesOn (around s) n m1 t w → GoesOn (around s) (suc n) m (trace_of e ++ t) w
  goes_later n m m1 e t w r least c =
      let x = r.takes.by c.steps in
      let more = x.1.0 in
      let enough = c.enough in
      record {
        steps = x.0;
        to = c.to;
        lay = c.lay;
        enough = omega (arith, more, enough);
        comes = x.1.1 ∙ c.comes;
        seen = seen_later m m1 c.to e t r least c.seen;
        blocks = c.blocks;
        input = c.input;
      }

  module _ (mark : Option Value) where
    comes_later : (n : ℕ) (m m1 : Watched) (e : Option Event) (t : List Event) (end : Ending (Left Value Memory)) → Reaches s m e m1 → m.low ≤ m.now.registers 2 → ComesToStop (around s) mark n m1 t end → ComesToStop (around s) mark (suc n) m (trace_of e ++ t) end
    comes_later n m m1 e t is_short r least c = tt
    comes_later n m m1 e t is_undefined r least c =
        let x = r.takes.by c.steps in
        record {
          steps = x.0;
          to = c.to;
          comes = x.1.1 ∙ c.comes;
          output = c.output ∙ ap (λ (x : List ℕ). x ++ output_of t) r.output ∙ append_assoc m.now.output (output_of (trace_of e)) (output_of t) ∙ ap (λ (x : List ℕ). m.now.output ++ x) (sym (output_emitted e t));
        }
    comes_later n m m1 e t (has_ended left) r least (inl c) = inl (returned_later m m1 e t left r least c)
    comes_later n m m1 e t (has_ended left) r least (inr c) = inr (record { is = c.is; goes = goes_later n m m1 e t _ r least c.goes })

    -- a step behind which the machine follows
    pub follows_later : (n : ℕ) (m m1 : Watched) (e : Option Event) (run : RootRun) → m.low ≤ m.now.registers 2 → Reaches s m e m1 → FollowsToStop (around s) mark n m1 run → FollowsToStop (around s) mark (suc n) m (emitted e run)
    follows_later n m m1 e run least r f room =
        let t = events_of run in
        let room_all : base s.room + weight (cost s) (trace_of e ++ t) ≤ m.now.registers 2 = subst (λ (x : List Event). base s.room + weight (cost s) x ≤ m.now.registers 2) (events_emitted e run) room in
        let c = comes_later n m m1 e t (ending_of run) r least (f (room_later (base s.room) (cost s) e t (m.now.registers 2) (m1.now.registers 2) m.low m1.low room_all r.moved)) in
        subst (λ (x : List Event). ComesToStop (around s) mark (suc n) m x (ending_of (emitted e run))) (sym (events_emitted e run)) (subst (λ (x : Ending (Left Value Memory)). ComesToStop (around s) mark (suc n) m (trace_of e ++ t) x) (sym (ending_emitted e run)) c)

    -- what is undefined is free
    pub follows_undefined : (n : ℕ) (m : Watched) → FollowsToStop (around s) mark n m undefined
    follows_undefined n m room = record { steps = 0; to = m; comes = refl; output = sym (append-nil m.now.output) }

    -- also behind the call of a function, and behind its return
    pub undefined_behind : (n : ℕ) (m : Watched) (e : Event) → output_of (e ∷ []) ≡ [] → FollowsToStop (around s) mark n m (emit e undefined)
    undefined_behind n m e none room = record { steps = 0; to = m; comes = refl; output = sym (append-nil m.now.output) ∙ ap (λ (x : List ℕ). m.now.output ++ x) (sym none) }

    -- where the run stops the machine does nothing
    pub follows_stopped : (m : Watched) (w : World) (l : Lay) → m.low ≤ m.now.registers 2 → HasBlocks (around s) (ground w.memory l m.now.memory) (m.now.registers 2) → m.now.input ≡ w.input → FollowsToStop (around s) mark 0 m (leaves mark w)
    follows_stopped m w l least blocks input room = inr (record {
      is = refl;
      goes = record {
        steps = 0;
        to = m;
        lay = l;
        enough = omega arith;
        comes = refl;
        seen = record { output = sym (append-nil m.now.output); x2 = refl; low = omega (arith, least) };
        blocks = blocks;
        input = input;
      };
    })

    -- a value that a step takes
    pub follows_given : {A : Type 0} → (n : ℕ) (m : Watched) (o : Option A) (next : A → RootRun) → ((v : A) → o ≡ Some v → FollowsToStop (around s) mark n m (next v)) → FollowsToStop (around s) mark n m (given o next)
    follows_given {A} n m None next h = follows_undefined n m
    follows_given {A} n m (Some v) next h = h v refl

  -- ---- states between instructions

  pub steady_at : (a : Activation File) (w : World) (stack : List (Waiting File)) (l : Lay) (m : Watched) → StandsAt s a w stack l m → IsSteady s.room m
  steady_at a w stack l m h =
      let al = h.related.in_room.aligned in
      let below = h.related.in_room.below in
      let hi : m.now.registers 2 ≤ s.room.ceiling = omega (arith, below) in
      record { set = grind (arith, nat_tests, al, hi); low = h.low; bytes = h.bytes }

  pub amid_at : (a : Activation File) (w : World) (stack : List (Waiting File)) (l : Lay) (m : Watched) → StandsAt s a w stack l m → IsAmid s a w.memory stack l (m.now.registers 2) m
  amid_at a w stack l m h = record { x2 = refl; related = h.related }

  -- straight code without events
  pub record Onward (a : Activation File) (w : World) (stack : List (Waiting File)) (l : Lay) (m : Watched) : Type 0 where
    pub to : Watched
    pub reaches : Reaches s m None to
    pub stands : StandsAt s a w stack l to

  pub plain_follows : (a b : Activation File) (w : World) (later : Memory) (stack : List (Waiting File)) (l : Lay) (m : Watched) (code : List Instr) (k : ℕ) → StandsAt s a w stack l m → HasFunction s a.function → b.function ≡ a.function → Lays (instruction_at s.image) s.label_at (place s a.function a.at) (plain code) (place s a.function k) → place s a.function k ≤ s.code_end → place s a.function a.at % 4 ≡ 0 → 1 ≤ length code → Does s m code (IsAmid s b later stack l (m.now.registers 2)) → Onward (record b { at = k }) (with_memory w later) stack l m
  plain_follows a b w later stack l m code k h has same lays low al some does =
      let c = plain_laid (instruction_at s.image) s.label_at (place s a.function a.at) code (place s a.function k) lays in
      let end = c.end in
      let pc = h.pc in
      let fits = fits_between s m.now.pc (place s a.function k) (length code) (omega (arith, pc, al)) low (omega (arith, pc, end)) in
      let d = does.by (subst (λ (p : ℕ). HasAt (instruction_at s.image) p code) (sym h.pc) c.has) fits (steady_at a w stack l m h) in
      last d.to d.takes d.pc d.x2 d.input d.output d.low d.bytes d.is (omega (arith, pc, end))
    where
      last : (m1 : Watched) → IsTaken s.image s.room (length code) m m1 → m1.now.pc ≡ m.now.pc + 4 * length code → m1.now.registers 2 ≡ m.now.registers 2 → m1.now.input ≡ m.now.input → m1.now.output ≡ m.now.output → m1.low ≡ m.low → AreBytes m1.now.memory → IsAmid s b later stack l (m.now.registers 2) m1 → m.now.pc + 4 * length code ≡ place s a.function k → Onward (record b { at = k }) (with_memory w later) stack l m
      last m1 takes pc x2 input output low bytes amid end = record {
        to = m1;
        reaches = record {
          takes = takes_less s.image s.room (length code) 1 m m1 some takes;
          output = output ∙ sym (append-nil m.now.output);
          moved = (x2, low);
        };
        stands = record {
          pc = pc ∙ end ∙ ap (λ (f : ℕ). place s f k) (sym same);
          related = subst (λ (p : ℕ). IsRelated s (record b { at = k }) later stack l m1.now.registers p m1.now.memory) (sym x2) (related_to s b later stack l m1.now.registers (m.now.registers 2) m1.now.memory amid.related k);
          input = ◌∙◌ {a = m1.now.input} input h.input;
          input_bytes = h.input_bytes;
          bytes = bytes;
          low = let l = h.low in omega (arith, l, low, x2);
        };
      }
