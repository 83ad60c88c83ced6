-- A function returns: to its caller, or from the root.
use Rattle.std.proofs.Common.{◌≡◌, ◌⊎◌, inl, inr, ℕ, ◌+◌, ◌*◌, ◌/◌, ◌%◌, ◌^◌, ◌==◌, ◌<◌, ◌≤◌, true, List, [], ◌∷◌, ◌++◌, length, Option, Some, None, refl, sym, ap, ◌∙◌, subst, arith, length-append}
use Rattle.std.specs.Prelude.{if◌then◌else◌}
use Rattle.std.proofs.lemmas.Bool.Decides.{nat_tests}
use Rattle.qs_base.specs.Words as words
use Rattle.qs_memory.specs.Values.{Value}
use Rattle.qs_memory.specs.Memory.{Memory, block_at, release}
use Rattle.qs_memory.specs.Soundness.{IsLive}
use Rattle.qs_memory.proofs.BlockLaws.{live_known, live_below, blocks_are_released, after_release}
use Rattle.qs_calls.specs.World.{World}
use Rattle.qs_isa.specs.declared.instruction.Instr.{Instr}
use Rattle.qs_isa.specs.declared.instruction.Instr.TheVariants as instructions
use Rattle.qs_machine.specs.State.{State}
use Rattle.qs_machine.specs.Step as machine
use Rattle.qs_machine.specs.Step.{Next, Traps, act, write_and_go}
use Rattle.qs_machine.specs.declared.answers.Cause.TheVariants.{JumpMisaligned}
use Rattle.qs_tac.specs.Holders.{File}
use Rattle.qs_tac.specs.Values.{Activation}
use Rattle.qs_tac.specs.Steps.{Waiting}
use Rattle.qs_frames.specs.Layout.{total, frame_words, register_at}
use Rattle.qs_frames.proofs.FrameLaws.{is_cost}
use Rattle.qs_emit_selection.specs.Pieces.{jalr, move_stack}
use Rattle.qs_emit_selection.specs.Operands.{Context, frame_of, stored}
use Rattle.qs_emit_selection.specs.Emission.{restore, leave}
use Rattle.qs_emit.specs.Machine.{Watched, instruction_at}
use Rattle.qs_emit.specs.Lies.{StandsFor, Holds, IsOwn, SameOwn}
use Rattle.qs_emit.specs.Surroundings.{HasBlocks, Lay, ground}
use Rattle.qs_emit.specs.Relation.{Setup, context, cost, place, caller_registers, HasStack, IsInRoom, root_block, IsRelated, StandsAt, around}
use Rattle.qs_emit.specs.Entries.{IsResult}
use Rattle.qs_emit.proofs.Injection.{Later, cell_kept}
use Rattle.qs_emit.proofs.Steps.{Takes, takes_on, takes_less, HasAt, has_front, has_back, IsSteady, steady_on, Done, Does, does_is, same_on}
use Rattle.qs_emit.proofs.FrameLaws.{is_given, SameGiven, given_none, stored_given, stored_inside, Onward, reach_like, frame_onward, stack_onward}
use Rattle.qs_emit.proofs.Operands.{given_apart, IsAmid, amid_on}
use Rattle.qs_emit.proofs.LoopSteps.{GoesTo, gone, goes}
use Rattle.qs_emit.proofs.CodePlaces.{IsCode, fits_between}
use Rattle.qs_emit.proofs.FollowedSteps.{steady_at}
use Rattle.qs_emit.proofs.Jumps.{jumps}
use Rattle.qs_emit.proofs.Moves.{StackMoved, stack_moves, restores_do}

-- ---- the memory that is left after a call

module _ (s : Setup) (a : Activation File) (w : Memory) (stack : List (Waiting File)) (l : Lay) (registers : ℕ → ℕ) (sp : ℕ) (flat : ℕ → ℕ) (r : IsRelated s a w stack l registers sp flat) where
  abbrev left : Memory
  left = release a.first_block w

  pub later_left : Later w l.address_of left l.address_of
  later_left = record { after = after_release a.first_block w; same = λ b h. refl }

  known_left : (b : ℕ) → IsLive left b → b < length w
  known_left b live = let k = live_known left b live in let n = (blocks_are_released a.first_block w).count in omega (arith, k, n)

  was_live : (b : ℕ) → IsLive left b → IsLive w b
  was_live b live = later_left.after.live b (known_left b live) live

  pub blocks_left : HasBlocks (around s) (ground left l flat) (sp + cost s a.function)
  blocks_left = record {
    lies = record {
      owned = λ b o live lt. let size = later_left.after.size b (known_left b live) in r.blocks.lies.owned b o (was_live b live) (omega (arith, lt, size));
      holds = λ b o live lt. held b o live lt;
      aligned = λ b live. r.blocks.lies.aligned b (was_live b live);
    };
    in_reach = λ b live.
        let k = known_left b live in
        reach_like s.image s.room (sp + cost s a.function) (block_at w b) (block_at left b) (l.address_of b) (l.address_of b) (later_left.after.size b k) (later_left.after.writable b k) refl (r.frame.apart b (live_below a.first_block w b live) (was_live b live));
    old = r.blocks.old;
    made = let e = r.blocks.made in let n = (blocks_are_released a.first_block w).count in omega (arith, e, n);
  }
    where
      held : (b o : ℕ) → IsLive left b → o < (block_at left b).size → Holds left l.address_of ((block_at left b).cells o) (flat (l.address_of b + o))
      held b o live lt =
          let k = known_left b live in
          let size = later_left.after.size b k in
          rw ((blocks_are_released a.first_block w).old b (live_below a.first_block w b live)) (cell_kept w left l.address_of l.address_of ((block_at w b).cells o) (flat (l.address_of b + o)) later_left (r.blocks.lies.holds b o (was_live b live) (omega (arith, lt, size))))

  -- the caller, before it has the result
  pub related_left : (c : Waiting File) (others : List (Waiting File)) → stack ≡ c ∷ others → IsRelated s c.activation left others l (caller_registers (context s a.function) registers flat sp) (sp + cost s a.function) flat
  related_left c others e =
      let up = sp + cost s a.function in
      let mine = caller_registers (context s a.function) registers flat sp in
      let above : HasStack s (ground w l flat) (c ∷ others) mine up = subst (λ (z : List (Waiting File)). HasStack s (ground w l flat) z mine up) e r.above in
      let o : Onward (ground w l flat) (ground left l flat) up = record { after = later_left; frames = λ at le p. p; same = λ at le p. refl } in
      let theirs = caller_registers (context s c.activation.function) mine flat up in
      record {
        known = above.0.known;
        frame = frame_onward s (ground w l flat) (ground left l flat) c.activation.function mine mine up up c.activation.first_block c.activation.held o (omega arith) (λ q i. refl) (λ q v i. refl) above.0.frame;
        in_room = above.0.in_room;
        above = stack_onward s (ground w l flat) (ground left l flat) others theirs theirs up (up + cost s c.activation.function) o (omega arith) (given_none theirs) above.1;
        blocks = blocks_left;
        root = subst (λ (z : List (Waiting File)). root_block a.first_block z ≡ s.first) e r.root;
      }

-- the epilogue, from somewhere on
pub record HasEpilogue (s : Setup) (f from : ℕ) : Type 0 where
  pub to : ℕ
  pub code : IsCode (instruction_at s.image) from (leave (context s f)) to
  pub low : to ≤ s.code_end

-- a jump to the epilogue
pub record JumpsOut (s : Setup) (f from : ℕ) : Type 0 where
  pub there : ℕ
  pub jump : instruction_at s.image from ≡ Some (instructions.Jal 0 (words.sub there from))
  pub aligned : there % 4 ≡ 0
  pub epilogue : HasEpilogue s f there

-- what follows where the result is in a0
abbrev pub IsWayOut : Setup → (f from : ℕ) → Type 0
IsWayOut s f from = HasEpilogue s f from ⊎ JumpsOut s f from

-- where a frame returns to
return_is : (s : Setup) (w : Memory) (l : Lay) (flat : ℕ → ℕ) (stack : List (Waiting File)) (registers : ℕ → ℕ) (sp : ℕ) → HasStack s (ground w l flat) stack registers sp → (registers 1 % 4 ≡ 0) × (registers 1 < 2 ^ 32)
return_is s w l flat [] registers sp h = let e = h.1.0 in let al = s.return_aligned in let lo = s.return_low in (omega (arith, e, al), omega (arith, e, lo))
return_is s w l flat (c ∷ stack) registers sp h = (h.0.aligned, h.0.low)

module _ (s : Setup) (a : Activation File) (w : World) (stack : List (Waiting File)) (l : Lay) where
  abbrev c : Context
  c = context s a.function

  -- before x2 is raised: the registers and bytes are those of the frame, and what is given back is the caller's again
  record IsReady (sp : ℕ) (result : Option Value) (m1 : Watched) : Type 0 where
    registers : ℕ → ℕ
    flat : ℕ → ℕ
    related : IsRelated s a w.memory stack l registers sp flat
    x2 : m1.now.registers 2 ≡ sp
    value : IsResult w.memory l result (m1.now.registers 10)
    given : (q : ℕ) → is_given q ≡ true → m1.now.registers q ≡ caller_registers c registers flat sp q
    bytes : SameOwn s.room sp flat m1.now.memory

  stored_fit : (sp : ℕ) → IsInRoom s.room sp (cost s a.function) → sp + register_at (frame_of c).outgoing (0 + length (stored c)) ≤ s.room.ceiling
  stored_fit sp room = let e = stored_inside c in let b = room.below in omega (arith, e, b)

  -- what is stored comes back
  abbrev backing : List Instr
  backing = restore (frame_of c).outgoing (stored c) 0

  result_same : (result : Option Value) (x y : ℕ) → y ≡ x → IsResult w.memory l result x → IsResult w.memory l result y
  result_same None x y e h = h
  result_same (Some v) x y e h = subst (λ (z : ℕ). StandsFor w.memory l.address_of v z) (sym e) h

  backs : (sp : ℕ) (result : Option Value) (m : Watched) → IsAmid s a w.memory stack l sp m → IsResult w.memory l result (m.now.registers 10) → Does s m backing (IsReady sp result)
  backs sp result m h value =
      let room = h.related.in_room in
      let al = room.aligned in
      does_is s m _ _ _ (restores_do s m (frame_of c).outgoing (stored c) 0 sp h.x2 (omega (arith, al)) room.above (stored_fit sp room) (stored_given c)) (λ m1 z2 k. record {
        registers = m.now.registers;
        flat = m.now.memory;
        related = h.related;
        x2 = z2 ∙ h.x2;
        value = result_same result (m.now.registers 10) (m1.now.registers 10) (k.others 10 refl) value;
        given = k.given;
        bytes = k.bytes;
      })

  -- the frame is left, and the machine is at the return address
  pub record HasLeft (m : Watched) (result : Option Value) : Type 0 where
    pub to : Watched
    pub takes : Takes s.image s.room 1 m to
    pub registers : ℕ → ℕ
    pub flat : ℕ → ℕ
    pub related : IsRelated s a w.memory stack l registers (m.now.registers 2) flat
    pub pc : to.now.pc ≡ caller_registers c registers flat (m.now.registers 2) 1
    pub x2 : to.now.registers 2 ≡ m.now.registers 2 + cost s a.function
    pub value : IsResult w.memory l result (to.now.registers 10)
    pub given : SameGiven (caller_registers c registers flat (m.now.registers 2)) to.now.registers
    pub same : SameOwn s.room (m.now.registers 2 + cost s a.function) flat to.now.memory
    pub input : to.now.input ≡ m.now.input
    pub output : to.now.output ≡ m.now.output
    pub low : to.low ≡ m.low
    pub steady : IsSteady s.room to

  back_acts : (state : State) (to : ℕ) → state.registers 1 ≡ to → to % 4 ≡ 0 → to < 2 ^ 32 → act s.image s.room.size state (jalr 0 1 0) ≡ Next (record state { pc = to })
  back_acts state to e al lo =
      let target : words.add (state.registers 1) 0 / 2 * 2 ≡ to = omega (arith, e, al, lo) in
      let aligned : (to % 4 == 0) ≡ true = grind (arith, nat_tests, al) in
      ap (λ (n : ℕ). machine.jump s.room.size state 0 n) target ∙ ap (λ b. if b then write_and_go s.room.size state 0 (state.pc + 4) to else Traps JumpMisaligned) aligned

  module _ (m : Watched) (h : StandsAt s a w stack l m) (result : Option Value) where
    abbrev up : ℕ
    up = m.now.registers 2 + cost s a.function

    -- x2 is raised, and the machine goes back
    raised : (m1 m2 : Watched) (n len : ℕ) → Takes s.image s.room n m m1 → m1.now.input ≡ m.now.input → m1.now.output ≡ m.now.output → m1.low ≡ m.low → IsReady (m.now.registers 2) result m1 → StackMoved s m1 up len m2 → instruction_at s.image m2.now.pc ≡ Some (jalr 0 1 0) → HasLeft m result
    raised m1 m2 n len takes input output low k g at =
        let return_at = return_is s w.memory l k.flat stack _ up k.related.above in
        let one : m2.now.registers 1 ≡ back_to = g.others 1 (λ e. absurd (omega (arith, e))) (λ e. absurd (omega (arith, e))) ∙ k.given 1 refl in
        last (gone s m2 back_to) (goes s m2 (jalr 0 1 0) back_to at (back_acts m2.now back_to one return_at.0 return_at.1) refl g.steady)
      where
        back_to : ℕ
        back_to = caller_registers c k.registers k.flat (m.now.registers 2) 1

        last : (m3 : Watched) → GoesTo s m2 back_to m3 → HasLeft m result
        last m3 j =
            let x : m2.now.registers 2 ≡ up = g.x2 in
            let low2 = g.low in
            let low3 = j.low in
            let least = h.low in
            let old : SameOwn s.room up k.flat m2.now.memory = record { same = λ at o. g.own at (own_before m1 k at o) o ∙ k.bytes.same at (own_down at o) } in
            record {
              to = m3;
              takes = takes_less s.image s.room (n + (len + 1)) 1 m m3 (omega arith) (takes_on s.image s.room n (len + 1) m m1 m3 takes (takes_on s.image s.room len 1 m1 m2 m3 g.takes j.takes));
              registers = k.registers;
              flat = k.flat;
              related = k.related;
              pc = j.pc;
              x2 = ap (λ (r : ℕ → ℕ). r 2) j.registers ∙ x;
              value = result_same result (m1.now.registers 10) (m3.now.registers 10) (ap (λ (r : ℕ → ℕ). r 10) j.registers ∙ g.others 10 (λ e. absurd (omega (arith, e))) (λ e. absurd (omega (arith, e)))) k.value;
              given = record { same = λ q b. ap (λ (r : ℕ → ℕ). r q) j.registers ∙ g.others q (given_apart q 2 b refl) (given_apart q 5 b refl) ∙ k.given q b };
              same = same_on s.room up k.flat m2.now.memory m3.now.memory old (subst (λ (p : ℕ). SameOwn s.room p m2.now.memory m3.now.memory) x j.own);
              input = ◌∙◌ {a = m3.now.input} j.input (◌∙◌ {a = m2.now.input} g.input input);
              output = ◌∙◌ {a = m3.now.output} j.output (◌∙◌ {a = m2.now.output} g.output output);
              low = omega (arith, low3, low2, low, least);
              steady = j.steady;
            }
          where
            own_down : (at : ℕ) → IsOwn s.room up at → IsOwn s.room (m.now.registers 2) at
            own_down at (inl e) = inl (omega (arith, e))
            own_down at (inr e) = inr e

            own_before : (m1 : Watched) → IsReady (m.now.registers 2) result m1 → (at : ℕ) → IsOwn s.room up at → IsOwn s.room (m1.now.registers 2) at
            own_before m1 k at o = subst (λ (p : ℕ). IsOwn s.room p at) (sym k.x2) (own_down at o)

    -- the epilogue, from where the result is in a0
    leaves_from : (m1 : Watched) (n from to : ℕ) → Takes s.image s.room n m m1 → m1.now.pc ≡ from → m1.now.registers 2 ≡ m.now.registers 2 → m1.now.input ≡ m.now.input → m1.now.output ≡ m.now.output → m1.low ≡ m.low → IsSteady s.room m1 → IsAmid s a w.memory stack l (m.now.registers 2) m1 → IsResult w.memory l result (m1.now.registers 10) → IsCode (instruction_at s.image) from (leave c) to → to ≤ s.code_end → from % 4 ≡ 0 → HasLeft m result
    leaves_from m1 n from to takes pc x2 input output low steady amid value code top al =
        let end = code.end in
        let fits = fits_between s from to (length (leave c)) al top (omega (arith, end)) in
        let fits_low = fits.low in
        let len : length (leave c) ≡ length backing + (length raise + 1) = length-append backing back ∙ ap (λ (n : ℕ). length backing + n) (length-append raise (jalr 0 1 0 ∷ [])) in
        let here : HasAt (instruction_at s.image) m1.now.pc (backing ++ back) = subst (λ (p : ℕ). HasAt (instruction_at s.image) p (backing ++ back)) (sym pc) code.has in
        let d = (backs (m.now.registers 2) result m1 amid value).by (has_front (instruction_at s.image) m1.now.pc backing back here) (record { aligned = omega (arith, pc, al); low = omega (arith, pc, fits_low, len) }) steady in
        next d.to (n + length backing) (m1.now.pc + 4 * length backing) (takes_on s.image s.room n (length backing) m m1 d.to takes d.takes) d.pc (d.x2 ∙ x2) (◌∙◌ {a = d.to.now.input} d.input input) (◌∙◌ {a = d.to.now.output} d.output output) (◌∙◌ {a = d.to.low} d.low low) (steady_on s m1 d.to d.x2 d.low d.bytes steady) d.is (has_back (instruction_at s.image) m1.now.pc backing back here) (omega (arith, pc, al)) (omega (arith, pc, fits_low, len))
      where
        raise : List Instr
        raise = move_stack (cost s a.function)

        back : List Instr
        back = raise ++ jalr 0 1 0 ∷ []

        cost_small : (0 < cost s a.function) × (cost s a.function ≤ 2 ^ 28)
        cost_small = ((is_cost (frame_words c.function c.places) (total c.function.blocks)).positive, s.emittable.cost a.function h.related.known)

        cost_aligned : cost s a.function % 16 ≡ 0
        cost_aligned = (is_cost (frame_words c.function c.places) (total c.function.blocks)).multiple

        next : (m2 : Watched) (k p : ℕ) → Takes s.image s.room k m m2 → m2.now.pc ≡ p → m2.now.registers 2 ≡ m.now.registers 2 → m2.now.input ≡ m.now.input → m2.now.output ≡ m.now.output → m2.low ≡ m.low → IsSteady s.room m2 → IsReady (m.now.registers 2) result m2 → HasAt (instruction_at s.image) p back → p % 4 ≡ 0 → p + 4 * (length raise + 1) < 2 ^ 31 → HasLeft m result
        next m2 k p takes pc x2 input output low steady ready tail al lo =
            let here : HasAt (instruction_at s.image) m2.now.pc back = subst (λ (q : ℕ). HasAt (instruction_at s.image) q back) (sym pc) tail in
            let small = cost_small in
            let positive = small.0 in
            let most = small.1 in
            let room = h.related.in_room in
            let above = room.above in
            let below = room.below in
            let sp_al = room.aligned in
            let cost_al = cost_aligned in
            let top = s.ceiling in
            let up_is : words.add (m2.now.registers 2) (cost s a.function) ≡ up = omega (arith, x2, below, top) in
            let moved = stack_moves s m2 (cost s a.function) up (has_front (instruction_at s.image) m2.now.pc raise (jalr 0 1 0 ∷ []) here) (record { aligned = omega (arith, pc, al); low = omega (arith, pc, lo) }) (omega (arith, most)) up_is (record { above = omega (arith, above); below = below; aligned = omega (arith, sp_al, cost_al) }) steady in
            raised m2 moved.0 k (length raise) takes input output low ready moved.1
            (ap (λ (q : ℕ). instruction_at s.image q) moved.1.pc ∙ (has_back (instruction_at s.image) m2.now.pc raise (jalr 0 1 0 ∷ []) here).0)

    -- code that brings the result into a0, and the epilogue behind it, or a jump there
    pub leaves : (first : List Instr) (middle : ℕ) → IsCode (instruction_at s.image) (place s a.function a.at) first middle → middle ≤ s.code_end → place s a.function a.at % 4 ≡ 0 → IsWayOut s a.function middle → Does s m first (λ m1. IsAmid s a w.memory stack l (m.now.registers 2) m1 × IsResult w.memory l result (m1.now.registers 10)) → HasLeft m result
    leaves first middle code low al way does = by way
      where
        d : Done s m (length first) (λ m1. IsAmid s a w.memory stack l (m.now.registers 2) m1 × IsResult w.memory l result (m1.now.registers 10))
        d =
            let end = code.end in
            let pc = h.pc in
            let fits = fits_between s m.now.pc middle (length first) (omega (arith, pc, al)) low (omega (arith, pc, end)) in
            does.by (subst (λ (p : ℕ). HasAt (instruction_at s.image) p first) (sym h.pc) code.has) fits (steady_at s a w stack l m h)

        steady : IsSteady s.room d.to
        steady = steady_on s m d.to d.x2 d.low d.bytes (steady_at s a w stack l m h)

        pc_is : d.to.now.pc ≡ middle
        pc_is = let end = code.end in let pc = h.pc in let there = d.pc in omega (arith, end, pc, there)

        by : IsWayOut s a.function middle → HasLeft m result
        by (inl out) =
            let end = code.end in
            leaves_from d.to (length first) middle out.to d.takes pc_is d.x2 d.input d.output d.low steady d.is.0 d.is.1 out.code out.low (omega (arith, end, al))
        by (inr out) =
            let short = s.short in
            let end = out.epilogue.code.end in
            let top = out.epilogue.low in
            let there = out.there in
            let j = jumps s d.to middle there pc_is out.jump out.aligned (omega (arith, low, short)) (omega (arith, end, top, short)) steady in
            let m2 = gone s d.to there in
            let x2 : m2.now.registers 2 ≡ d.to.now.registers 2 = ap (λ (r : ℕ → ℕ). r 2) j.registers in
            leaves_from m2 (length first + 1) there out.epilogue.to (takes_on s.image s.room (length first) 1 m d.to m2 d.takes j.takes) j.pc (x2 ∙ d.x2) (◌∙◌ {a = m2.now.input} j.input d.input) (◌∙◌ {a = m2.now.output} j.output d.output) (◌∙◌ {a = m2.low} j.low d.low) j.steady
            (amid_on s a w.memory stack l (m.now.registers 2) d.to m2 d.is.0 x2 (record { same = λ q b. ap (λ (r : ℕ → ℕ). r q) j.registers }) j.own)
            (result_same result (d.to.now.registers 10) (m2.now.registers 10) (ap (λ (r : ℕ → ℕ). r 10) j.registers) d.is.1) out.epilogue.code top out.aligned
