-- A function is entered, with its blocks and its parameters.
use Rattle.std.proofs.Common.{◌≡◌, ◌⊎◌, inl, inr, ℕ, ◌+◌, ◌-◌, ◌*◌, ◌%◌, ◌^◌, ◌<◌, ◌≤◌, List, ◌++◌, length, All, Some, None, refl, sym, ap, ◌∙◌, subst, arith, min, append-nil, length-append}
use Rattle.std.specs.Prelude.{slice_get, slice_index_or, true, ◌||◌, ◌==◌, Bool, false}
use Rattle.std.proofs.lemmas.Bool.Decides.{nat_tests}
use Rattle.std.specs.List.{slice_get as slice_got}
use Rattle.qs_base.specs.Parameters.{stack_arguments}
use Rattle.qs_memory.specs.Values.{Value}
use Rattle.qs_memory.specs.Memory.{Block, Memory, block_at, make}
use Rattle.qs_memory.specs.Soundness.{IsLive}
use Rattle.qs_memory.proofs.BlockLaws.{blocks_are_fresh}
use Rattle.qs_machine.specs.State.{stack_top}
use Rattle.qs_events.specs.Events.{Calls}
use Rattle.qs_calls.specs.World.{World, with_memory, no_values}
use Rattle.qs_isa.specs.declared.instruction.Instr.{Instr}
use Rattle.qs_tac.specs.Holders.{File, is_saved_register}
use Rattle.qs_tac.specs.Places.{place_of}
use Rattle.qs_tac.specs.Units.{plain_of}
use Rattle.qs_tac.specs.Values.{Activation}
use Rattle.qs_tac.specs.Steps.{Waiting}
use Rattle.qs_frames.specs.Layout.{total, frame_words, register_at}
use Rattle.qs_frames.proofs.FrameLaws.{is_cost}
use Rattle.qs_emit_selection.specs.Pieces.{move_stack}
use Rattle.qs_emit_selection.specs.Operands.{Context, frame_of, stored}
use Rattle.qs_emit_selection.specs.Emission.{enter, save, take_parameters}
use Rattle.qs_emit.specs.Machine.{Watched, base, instruction_at}
use Rattle.qs_emit.specs.Lies.{AreBytes, StandsFor, IsInReach, IsOwn}
use Rattle.qs_emit.specs.Surroundings.{HasBlocks, Lay, ground}
use Rattle.qs_emit.specs.Relation.{Setup, context, cost, entry, place, function_at, caller_registers, HasStack, root_block, IsRelated, StandsAt, around}
use Rattle.qs_emit.proofs.Injection.{value_kept}
use Rattle.qs_emit.proofs.Steps.{Takes, takes_on, takes_less, HasAt, has_front, has_back, Fits, IsSteady, Does, does_is, does_then, data_below}
use Rattle.qs_emit.proofs.FrameLaws.{is_given, saved_is_given, SameGiven, stored_given, stored_inside, saved_in_kept, SameCells, related_fewer}
use Rattle.qs_emit.proofs.Operands.{holder, given_apart, IsAmid}
use Rattle.qs_emit.proofs.CodePlaces.{plain_laid, has_function, fits_between, parameters_fit_there}
use Rattle.qs_emit.proofs.FollowedSteps.{Reaches}
use Rattle.qs_emit.proofs.NewFrame.{new_lay, later_new, blocks_new, frame_new, stack_new}
use Rattle.qs_emit.proofs.Moves.{moved_by_some, StackMoved, stack_moves, AreSaved, saves_do}
use Rattle.qs_emit.proofs.Parameters.{argument_in, argument_same, Passed, passes, begun, TakesAll, parameters_do, placed_is}

-- what lies outside a new frame: from x2 on, or data that are kept
abbrev IsOuter : Setup → (sp at : ℕ) → Type 0
IsOuter s sp at = (sp ≤ at) ⊎ ((at < base s.room) × (s.room.is_kept at ≡ true))

-- the machine has come into the frame
record IsFramed (s : Setup) (f low : ℕ) (m to : Watched) : Type 0 where
  others : (q : ℕ) → (q ≡ 2 → ⊥) → (q ≡ 5 → ⊥) → to.now.registers q ≡ m.now.registers q
  outer : (at : ℕ) → IsOuter s (m.now.registers 2) at → to.now.memory at ≡ m.now.memory at
  given : (q : ℕ) → is_given q ≡ true → m.now.registers q < 2 ^ 32 → caller_registers (context s f) to.now.registers to.now.memory low q ≡ m.now.registers q
  x2 : to.now.registers 2 ≡ low

-- registers are stored
abbrev saving : Context → List Instr
saving c = save (frame_of c).outgoing (stored c) 0

module _ (s : Setup) (f : ℕ) (m m1 : Watched) (low : ℕ) (len : ℕ) (k : StackMoved s m low len m1) (sum : low + cost s f ≡ m.now.registers 2) (above : base s.room ≤ low) (aligned : low % 16 ≡ 0) (ceiling : m.now.registers 2 ≤ s.room.ceiling) where
  abbrev c : Context
  c = context s f

  frames : Does s m1 (saving c) (IsFramed s f low m)
  frames =
      let x2 = k.x2 in
      let inside = stored_inside c in
      does_is s m1 _ _ _ (saves_do s m1 (frame_of c).outgoing (stored c) 0 low x2 (omega (arith, aligned)) above (omega (arith, sum, ceiling, inside)) (stored_given c)) (λ m2 z2 j. record {
        others = λ q n2 n5. j.registers q ∙ k.others q n2 n5;
        outer = λ at o. outer_bytes m2 at o j;
        given = λ q h lt.
            let first : m1.now.registers q ≡ m.now.registers q = k.others q (given_apart q 2 h refl) (given_apart q 5 h refl) in
            saved_in_kept (frame_of c).outgoing (stored c) m1.now.registers m2.now.registers m2.now.memory m2.now.memory low 0 q (inr (j.registers q)) (λ i lo hi. refl) ∙ j.given q h (omega (arith, first, lt)) ∙ first;
        x2 = z2 ∙ x2;
      })
    where
      held : (at : ℕ) → IsOuter s (m.now.registers 2) at → IsOwn s.room (m.now.registers 2) at
      held at (inl h) = inl h
      held at (inr h) = inr h.1

      held_low : (at : ℕ) → IsOuter s (m.now.registers 2) at → IsOwn s.room low at
      held_low at (inl h) = inl (omega (arith, h, sum))
      held_low at (inr h) = inr h.1

      beside : (at : ℕ) → IsOuter s (m.now.registers 2) at → (at < low + register_at (frame_of c).outgoing 0) ⊎ (low + register_at (frame_of c).outgoing (0 + length (stored c)) ≤ at)
      beside at (inl h) = let inside = stored_inside c in inr (omega (arith, h, inside, sum))
      beside at (inr h) = let b = h.0 in inl (omega (arith, b, above))

      outer_bytes : (m2 : Watched) (at : ℕ) → IsOuter s (m.now.registers 2) at → AreSaved s m1 low (frame_of c).outgoing (stored c) 0 m2 → m2.now.memory at ≡ m.now.memory at
      outer_bytes m2 at o j = j.outside at (held_low at o) (beside at o) ∙ k.own at (held at o) (held_low at o)

-- bytes of blocks are outside a new frame
block_outer : (s : Setup) (m : Memory) (l : Lay) (flat : ℕ → ℕ) (sp b o : ℕ) → HasBlocks (around s) (ground m l flat) sp → IsLive m b → o < (block_at m b).size → IsOuter s sp (l.address_of b + o)
block_outer s m l flat sp b o k live lt = by (k.in_reach b live)
  where
    by : IsInReach s.image s.room sp (block_at m b) (l.address_of b) → IsOuter s sp (l.address_of b + o)
    by (inl h) = let a = h.above in inl (omega (arith, a))
    by (inr h) = let a = h.below in let d = data_below s in inr (omega (arith, a, d, lt), h.kept (l.address_of b + o) (omega arith) (omega (arith, lt)))

-- where a function is entered: arguments in registers and from x2 on, blocks and frames above x2, and room for the frame
pub record IsEntered (s : Setup) (f : ℕ) (vs : List Value) (w : World) (stack : List (Waiting File)) (l : Lay) (m : Watched) : Type 0 where
  pub known : f < length s.unit.functions
  pub pc : m.now.pc ≡ entry s f
  pub blocks : HasBlocks (around s) (ground w.memory l m.now.memory) (m.now.registers 2)
  pub above : HasStack s (ground w.memory l m.now.memory) stack m.now.registers (m.now.registers 2)
  pub count : length vs ≡ length (function_at s.unit f).parameters
  pub arguments : (i : ℕ) (v : Value) → slice_get vs i ≡ Some v → StandsFor w.memory l.address_of v (argument_in m.now.registers m.now.memory (m.now.registers 2) i)
  pub arguments_below : m.now.registers 2 + 4 * stack_arguments (length vs) ≤ stack_top
  pub words : (q : ℕ) → is_saved_register q ≡ true → m.now.registers q < 2 ^ 32
  pub return_low : m.now.registers 1 < 2 ^ 32
  pub aligned : m.now.registers 2 % 16 ≡ 0
  pub ceiling : m.now.registers 2 ≤ s.room.ceiling
  pub bottom : root_block (length w.memory) stack ≡ s.first
  pub input : m.now.input ≡ w.input
  pub input_bytes : All (λ byte. byte < 256) w.input
  pub steady : IsSteady s.room m

module _ (s : Setup) (f : ℕ) (vs : List Value) (w : World) (stack : List (Waiting File)) (l : Lay) (m : Watched) (h : IsEntered s f vs w stack l m) (room : base s.room + cost s f ≤ m.now.registers 2) (result : Passed) (passed : passes (function_at s.unit f).parameters vs (length w.memory) no_values (make (function_at s.unit f).blocks w.memory) ≡ Some result) where
  abbrev low : ℕ
  low = m.now.registers 2 - cost s f

  abbrev number : ℕ
  number = length w.memory

  abbrev lay : Lay
  lay = new_lay s.room l (context s f) number low (m.now.registers 2)

  abbrev made : Memory
  made = make (function_at s.unit f).blocks w.memory

  abbrev bare : Activation File
  bare = begun f number (λ p. None)

  sum : low + cost s f ≡ m.now.registers 2
  sum = omega (arith, room)

  low_above : base s.room ≤ low
  low_above = omega (arith, room)

  cost_aligned : cost s f % 16 ≡ 0
  cost_aligned = (is_cost (frame_words (context s f).function (context s f).places) (total (context s f).function.blocks)).multiple

  low_aligned : low % 16 ≡ 0
  low_aligned = let a = h.aligned in let b = cost_aligned in let e = sum in omega (arith, a, b, e)

  same_cells : (to : Watched) → IsFramed s f low m to → SameCells s w.memory l.address_of m.now.memory to.now.memory
  same_cells to k b o live lt = k.outer (l.address_of b + o) (block_outer s w.memory l m.now.memory (m.now.registers 2) b o h.blocks live lt)

  given_word : (q : ℕ) → is_given q ≡ true → m.now.registers q < 2 ^ 32
  given_word q e = by (q == 1) refl e
    where
      by : (b : Bool) → (q == 1) ≡ b → b || is_saved_register q ≡ true → m.now.registers q < 2 ^ 32
      by true t e = let is : 1 ≡ q = grind (arith, nat_tests, t) in subst (λ (x : ℕ). m.now.registers x < 2 ^ 32) is h.return_low
      by false t e = h.words q e

  opened : (to : Watched) → IsFramed s f low m to → IsAmid s bare made stack lay low to
  opened to k =
      let same = same_cells to k in
      let registers : SameGiven m.now.registers (caller_registers (context s f) to.now.registers to.now.memory low) = record { same = λ q e. k.given q e (given_word q e) } in
      let stack_is = stack_new s w.memory l m.now.memory to.now.memory f (m.now.registers 2) low sum low_above low_aligned h.ceiling h.blocks same stack m.now.registers (caller_registers (context s f) to.now.registers to.now.memory low) registers (λ at le. k.outer at (inl le)) h.above in
      record {
        x2 = k.x2;
        related = record {
          known = h.known;
          frame = frame_new s w.memory l m.now.memory to.now.memory f (m.now.registers 2) low sum low_above low_aligned h.ceiling h.blocks same to.now.registers (λ q e. let g = saved_is_given q e in let i = k.others q (given_apart q 2 g refl) (given_apart q 5 g refl) in let lt = h.words q e in omega (arith, i, lt));
          in_room = record { aligned = low_aligned; above = low_above; below = let e = sum in let t = h.ceiling in omega (arith, e, t) };
          above = subst (λ (x : ℕ). HasStack s (ground made lay to.now.memory) stack (caller_registers (context s f) to.now.registers to.now.memory low) x) (sym sum) stack_is;
          blocks = blocks_new s w.memory l m.now.memory to.now.memory f (m.now.registers 2) low sum low_above low_aligned h.ceiling h.blocks same;
          root = h.bottom;
        };
      }

  -- the parameters go into their places
  filled : (to : Watched) → IsFramed s f low m to → Does s to (take_parameters (context s f) 0 (function_at s.unit f).parameters) (TakesAll s f h.known number stack lay low result)
  filled to k =
      let count = h.count in
      let below = h.arguments_below in
      let whole = sum in
      parameters_do s f h.known number stack lay low (function_at s.unit f).parameters vs to 0 no_values made (λ p. None) result (opened to k) (parameters_fit_there s f h.known) passed h.count (omega (arith, below, count, whole)) sizes
      (λ i v e. there i v (h.arguments i v e)) (λ q c. c) (λ t v e. cc) (λ t v e. cc)
    where
      sizes : (i : ℕ) → i < length (function_at s.unit f).blocks → (block_at made (number + i)).size ≡ slice_index_or (function_at s.unit f).blocks i 0
      sizes i lt = ap (λ (b : Block). b.size) ((blocks_are_fresh (function_at s.unit f).blocks w.memory).new i lt)

      same_word : (i : ℕ) → argument_in to.now.registers to.now.memory (low + cost s f) (0 + i) ≡ argument_in m.now.registers m.now.memory (m.now.registers 2) i
      same_word i =
          let z : 0 + i ≡ i = omega arith in
          ap (argument_in to.now.registers to.now.memory (low + cost s f)) z ∙ ap (λ (p : ℕ). argument_in to.now.registers to.now.memory p i) sum
          ∙ argument_same m.now.registers to.now.registers m.now.memory to.now.memory (m.now.registers 2) i (λ lt. k.others (10 + i) (λ e. absurd (omega (arith, e))) (λ e. absurd (omega (arith, e)))) (λ at le. k.outer at (inl le))

      there : (i : ℕ) (v : Value) → StandsFor w.memory l.address_of v (argument_in m.now.registers m.now.memory (m.now.registers 2) i) → StandsFor made lay.address_of v (argument_in to.now.registers to.now.memory (low + cost s f) (0 + i))
      there i v stands =
          let later = later_new s w.memory l m.now.memory to.now.memory f (m.now.registers 2) low sum low_above low_aligned h.ceiling h.blocks (same_cells to k) in
          subst (λ (x : ℕ). StandsFor made lay.address_of v x) (sym (same_word i))
          (value_kept w.memory made l.address_of lay.address_of v (argument_in m.now.registers m.now.memory (m.now.registers 2) i) later stands)

  -- the activation that begins
  abbrev pub beginning : Activation File
  beginning = record { function = f; at = 0; first_block = number; held = (holder s).enter f result.environment }

  pub record Enters : Type 0 where
    pub to : Watched
    pub lay_there : Lay
    pub reaches : Reaches s m (Some (Calls f)) to
    pub stands : StandsAt s beginning (with_memory w result.memory) stack lay_there to

  related_begun : (to : Watched) → TakesAll s f h.known number stack lay low result to → IsRelated s beginning result.memory stack lay to.now.registers low to.now.memory
  related_begun to t = related_fewer s (begun f number t.file) result.memory stack lay to.now.registers low to.now.memory t.amid.related ((holder s).enter f result.environment) (λ p v e.
      let i = placed_is (place_of (context s f).places) result.environment (plain_of (slice_got s.unit.functions f)) p v e in
      ap t.file i.place_is ∙ t.holds i.temporary v i.value_is)

  abbrev word : ℕ
  word = 2 ^ 32 - cost s f

  abbrev rest : List Instr
  rest = saving (context s f) ++ take_parameters (context s f) 0 (function_at s.unit f).parameters

  cost_small : (0 < cost s f) × (cost s f ≤ 2 ^ 28)
  cost_small = ((is_cost (frame_words (context s f).function (context s f).places) (total (context s f).function.blocks)).positive, s.emittable.cost f h.known)

  x2_low : m.now.registers 2 < 2 ^ 32
  x2_low = let a = h.ceiling in let b = s.ceiling in omega (arith, a, b)

  lowers : HasAt (instruction_at s.image) m.now.pc (move_stack word) → Fits m.now.pc (length (move_stack word)) → (m1 : Watched) × StackMoved s m low (length (move_stack word)) m1
  lowers has fits =
      let small = cost_small in
      let positive = small.0 in
      let most = small.1 in
      let x2 = x2_low in
      let top = h.ceiling in
      stack_moves s m word low has fits (omega (arith, positive)) (omega (arith, positive, most, room, x2)) (record { above = low_above; below = omega (arith, top); aligned = low_aligned }) h.steady

  behind : (m1 : Watched) → StackMoved s m low (length (move_stack word)) m1 → Does s m1 rest (TakesAll s f h.known number stack lay low result)
  behind m1 k = does_then s m1 (saving (context s f)) (take_parameters (context s f) 0 (function_at s.unit f).parameters) _ _ (frames s f m m1 low (length (move_stack word)) k sum low_above low_aligned h.ceiling) (λ m2 x2 g. filled m2 g)

  ends : (m1 to : Watched) → StackMoved s m low (length (move_stack word)) m1 → Takes s.image s.room (length rest) m1 to → to.now.pc ≡ place s f 0 → to.now.registers 2 ≡ m1.now.registers 2 → to.now.input ≡ m1.now.input → to.now.output ≡ m1.now.output → to.low ≡ m1.low → AreBytes to.now.memory → TakesAll s f h.known number stack lay low result to → Enters
  ends m1 to k takes pc x2 input output least bytes t =
      let x : to.now.registers 2 ≡ low = x2 ∙ k.x2 in
      let low_is : to.low ≡ min m.low low = ◌∙◌ {a = to.low} least k.low in
      record {
        to = to;
        lay_there = lay;
        reaches = record {
          takes = takes_less s.image s.room (length (move_stack word) + length rest) 1 m to (let some = moved_by_some word in omega (arith, some)) (takes_on s.image s.room (length (move_stack word)) (length rest) m m1 to k.takes takes);
          output = ◌∙◌ {a = to.now.output} output k.output ∙ sym (append-nil m.now.output);
          moved = (ap (λ (n : ℕ). n + cost s f) x ∙ sum, low_is ∙ ap (λ (n : ℕ). min m.low n) (sym x));
        };
        stands = record {
          pc = pc;
          related = subst (λ (p : ℕ). IsRelated s beginning result.memory stack lay to.now.registers p to.now.memory) (sym x) (related_begun to t);
          input = ◌∙◌ {a = to.now.input} input k.input ∙ h.input;
          input_bytes = h.input_bytes;
          bytes = bytes;
          low = omega (arith, low_is, x);
        };
      }

  pub enters : Enters
  enters =
      let g = has_function s f h.known in
      let code = plain_laid (instruction_at s.image) s.label_at (entry s f) (enter (context s f)) (place s f 0) g.begins in
      let at_pc : HasAt (instruction_at s.image) m.now.pc (move_stack word ++ rest) = subst (λ (p : ℕ). HasAt (instruction_at s.image) p (enter (context s f))) (sym h.pc) code.has in
      let len : length (enter (context s f)) ≡ length (move_stack word) + length rest = length-append (move_stack word) rest in
      let end = code.end in
      let pc = h.pc in
      let al = g.entry_aligned in
      let place_low = g.place_low 0 (omega arith) in
      let fits = fits_between s m.now.pc (place s f 0) (length (enter (context s f))) (omega (arith, pc, al)) place_low (omega (arith, pc, end)) in
      let fits_al = fits.aligned in
      let fits_low = fits.low in
      let moved = lowers (has_front (instruction_at s.image) m.now.pc (move_stack word) rest at_pc) (record { aligned = fits_al; low = omega (arith, fits_low, len) }) in
      next moved.0 moved.1 (has_back (instruction_at s.image) m.now.pc (move_stack word) rest at_pc) fits_al (omega (arith, fits_low, len)) (omega (arith, pc, end, len))
    where
      next : (m1 : Watched) → StackMoved s m low (length (move_stack word)) m1 → HasAt (instruction_at s.image) (m.now.pc + 4 * length (move_stack word)) rest → m.now.pc % 4 ≡ 0 → m.now.pc + 4 * (length (move_stack word) + length rest) < 2 ^ 31 → m.now.pc + 4 * (length (move_stack word) + length rest) ≡ place s f 0 → Enters
      next m1 k tail al lo end =
          let pc1 = k.pc in
          let d = (behind m1 k).by (subst (λ (p : ℕ). HasAt (instruction_at s.image) p rest) (sym k.pc) tail) (record { aligned = omega (arith, pc1, al); low = omega (arith, pc1, lo) }) k.steady in
          let pc2 = d.pc in
          ends m1 d.to k d.takes (omega (arith, pc1, pc2, end)) d.x2 d.input d.output d.low d.bytes d.is
