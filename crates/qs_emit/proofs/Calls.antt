-- Calls of functions, and of the environment.
use Rattle.std.proofs.Common.{◌≡◌, inl, ℕ, ◌+◌, ◌*◌, ◌%◌, ◌^◌, ◌<◌, ◌≤◌, Bool, true, false, List, [], ◌∷◌, ◌++◌, length, All, Option, Some, None, refl, sym, ap, ◌∙◌, subst, arith, min, length-append}
use Rattle.std.specs.Prelude.{nat_lt, if◌then◌else◌, slice_get}
use Rattle.std.proofs.lemmas.Bool.Decides.{nat_tests}
use Rattle.std.specs.List.{list_all}
use Rattle.qs_base.specs.Parameters.{stack_arguments}
use Rattle.qs_base.specs.Words as words
use Rattle.qs_memory.specs.Values.{Value}
use Rattle.qs_memory.specs.Memory.{make}
use Rattle.qs_events.specs.Events.{Event, Calls, output_of}
use Rattle.qs_calls.specs.World.{World, with_memory, no_values}
use Rattle.qs_isa.specs.declared.instruction.Instr.{Instr}
use Rattle.qs_isa.specs.declared.instruction.Instr.TheVariants as instructions
use Rattle.qs_isa.specs.declared.instruction.OpImmKind.TheVariants.{Addi}
use Rattle.qs_asm.specs.declared.item.Item.TheVariants as items
use Rattle.qs_asm.specs.Items.{Lays, plain}
use Rattle.qs_machine.specs.State.{State, register, with_value}
use Rattle.qs_machine.specs.Step.{Next, act}
use Rattle.qs_tac.specs.declared.operands.Operand.{Operand}
use Rattle.qs_tac.specs.declared.places.Place.{Place}
use Rattle.qs_tac.specs.Holders.{File, is_kept, kept, with_place}
use Rattle.qs_tac.specs.Places.{place_of}
use Rattle.qs_tac.specs.Fits.{operand_fits}
use Rattle.qs_tac.specs.Values.{Activation, operands}
use Rattle.qs_tac.specs.Steps.{Waiting, waits}
use Rattle.qs_frames.specs.Layout.{outgoing_words, keeps_return_address}
use Rattle.qs_emit_selection.specs.Pieces.{addi}
use Rattle.qs_emit_selection.specs.Operands.{Context}
use Rattle.qs_emit_selection.specs.Emission as emission
use Rattle.qs_emit_selection.specs.Emission.{first_label, take_result}
use Rattle.qs_emit.specs.Machine.{Watched, base, instruction_at}
use Rattle.qs_emit.specs.Lies.{AreBytes, StandsFor, SameOwn}
use Rattle.qs_emit.specs.Surroundings.{HasBlocks, Lay, ground}
use Rattle.qs_emit.specs.Relation.{Setup, context, cost, entry, place, function_at, HasPlace, IsWaiting, HasStack, IsRelated, StandsAt, around}
use Rattle.qs_emit.proofs.Injection.{value_here, value_there}
use Rattle.qs_emit.proofs.Steps.{Takes, takes_on, takes_less, HasAt, straight, IsSteady, steady_on, Does, does_is, does_then, does_none, op_imm_does, stepped, takes_step, stirred_bytes, same_stirred}
use Rattle.qs_emit.proofs.FrameLaws.{value_link, placed_inside, related_own, related_holding, related_to, related_fewer}
use Rattle.qs_emit.proofs.Operands.{holder, argument_scratch, value_apart, IsAmid, amid_gets, put_does}
use Rattle.qs_emit.proofs.LoopSteps.{link_acts}
use Rattle.qs_emit.proofs.CodePlaces.{IsCode, plain_laid, HasFunction, has_function, fits_between}
use Rattle.qs_emit.proofs.FollowedSteps.{Reaches, Moved, steady_at, amid_at}
use Rattle.qs_emit.proofs.Jumps.{distance_back}
use Rattle.qs_emit.proofs.Parameters.{argument_in, in_register, argument_same, ArePassed, pass_does, operands_count, Passed, passes}
use Rattle.qs_emit.proofs.EntryLaws.{IsEntered, enters}

-- what a call leaves of a file is in the file
kept_fewer : (file : File) (p : Place) (v : Value) → kept file p ≡ Some v → file p ≡ Some v
kept_fewer file p v e = by (is_kept p) e
  where
    by : (b : Bool) → (if b then file p else None) ≡ Some v → file p ≡ Some v
    by true h = h
    by false h = cc

-- and it stands where calls leave it
kept_stays : (file : File) (p : Place) (v : Value) → kept file p ≡ Some v → is_kept p ≡ true
kept_stays file p v e = by (is_kept p) e
  where
    by : (b : Bool) → (if b then file p else None) ≡ Some v → b ≡ true
    by true h = refl
    by false h = cc

module _ (s : Setup) (a : Activation File) (w : World) (stack : List (Waiting File)) (l : Lay) (m : Watched) (h : StandsAt s a w stack l m) where
  abbrev c : Context
  c = context s a.function

  abbrev sp : ℕ
  sp = m.now.registers 2

  -- behind some steps without events
  record IsBehind (n : ℕ) (m1 : Watched) : Type 0 where
    takes : Takes s.image s.room n m m1
    x2 : m1.now.registers 2 ≡ m.now.registers 2
    input : m1.now.input ≡ m.now.input
    output : m1.now.output ≡ m.now.output
    low : m1.low ≡ m.low
    steady : IsSteady s.room m1

  -- ---- calls of functions

  -- the machine behind JAL
  abbrev called : (m1 : Watched) → (to : ℕ) → Watched
  called m1 to = stepped s m1 (record m1.now { pc = to; registers = with_value m1.now.registers 1 (m1.now.pc + 4) })

  module _ (x : Option ℕ) (f : ℕ) (vs : List Value) (has_x : (t : ℕ) → x ≡ Some t → HasPlace c (place_of c.places t)) (inside : a.at + 1 ≤ length (function_at s.unit a.function).code) where
    abbrev waiting : Waiting File
    waiting = record { activation = waits (holder s) a; taken_by = x }

    record IsCalled (m2 : Watched) (n : ℕ) : Type 0 where
      takes : Takes s.image s.room n m m2
      x2 : m2.now.registers 2 ≡ m.now.registers 2
      output : m2.now.output ≡ m.now.output
      low : m2.low ≡ m.low
      entered : IsEntered s f vs w (waiting ∷ stack) l m2

    jumped : (m1 : Watched) (n p : ℕ) → IsBehind n m1 → ArePassed s a w.memory stack l sp vs m1 → stack_arguments (length vs) ≤ outgoing_words c.function → m1.now.pc ≡ p → f < length s.unit.functions → length vs ≡ length (function_at s.unit f).parameters → instruction_at s.image p ≡ Some (instructions.Jal 1 (words.sub (entry s f) p)) → keeps_return_address c.function c.places ≡ true → Lays (instruction_at s.image) s.label_at (p + 4) (plain (take_result c x)) (place s a.function (a.at + 1)) → p % 4 ≡ 0 → p + 4 ≤ s.code_end → IsCalled (called m1 (entry s f)) (n + 1)
    jumped m1 n p b args few pc known count has keeps tail al low =
        let g = has_function s f known in
        let limit = s.short in
        let entry_low = g.entry_low in
        let target : words.add m1.now.pc (words.sub (entry s f) p) ≡ entry s f = ap (λ (q : ℕ). words.add q (words.sub (entry s f) p)) pc ∙ distance_back p (entry s f) (omega (arith, low, limit)) (omega (arith, entry_low, limit)) in
        let t : State = record m1.now { pc = entry s f; registers = with_value m1.now.registers 1 (m1.now.pc + 4) } in
        let step = takes_step s m1 t (instructions.Jal 1 (words.sub (entry s f) p)) (ap (λ (q : ℕ). instruction_at s.image q) pc ∙ has) (link_acts s m1.now (words.sub (entry s f) p) (entry s f) target g.entry_aligned) refl b.steady.set in
        let m2 = called m1 (entry s f) in
        let least = b.steady.low in
        let low_is : min m1.low (m1.now.registers 2) ≡ m1.low = omega (arith, least) in
        let bytes = stirred_bytes s m1.time (m1.now.registers 2) m1.now.memory b.steady.bytes in
        let own : SameOwn s.room sp m1.now.memory m2.now.memory = subst (λ (q : ℕ). SameOwn s.room q m1.now.memory m2.now.memory) b.x2 (same_stirred s.room m1.time (m1.now.registers 2) m1.now.memory) in
        let other : (q : ℕ) → (q ≡ 1 → ⊥) → m2.now.registers q ≡ m1.now.registers q = λ q n. value_there m1.now.registers 1 (m1.now.pc + 4) q n in
        let r = related_holding s a w.memory stack l m1.now.registers sp m1.now.memory args.amid.related m2.now.registers m2.now.memory (record { values = λ q e. other q (value_link q e); link = λ e. let no_way : true ≡ false = sym keeps ∙ e in cc }) own in
        let x2 : m2.now.registers 2 ≡ sp = b.x2 in
        let ra : m2.now.registers 1 ≡ p + 4 = value_here m1.now.registers 1 (m1.now.pc + 4) 1 refl ∙ ap (λ (q : ℕ). q + 4) pc in
        let wait = is_waiting m2 p r ra tail al (omega (arith, low, limit)) in
        let room_al = r.in_room.aligned in
        let room_below = r.in_room.below in
        record {
          takes = takes_on s.image s.room n 1 m m1 m2 b.takes step;
          x2 = x2;
          output = b.output;
          low = low_is ∙ b.low;
          entered = record {
            known = known;
            pc = refl;
            blocks = subst (λ (q : ℕ). HasBlocks (around s) (ground w.memory l m2.now.memory) q) (sym x2) r.blocks;
            above = subst (λ (q : ℕ). HasStack s (ground w.memory l m2.now.memory) (waiting ∷ stack) m2.now.registers q) (sym x2) (wait, r.above);
            count = count;
            arguments = λ i v e.
                let there : argument_in m2.now.registers m2.now.memory (m2.now.registers 2) i ≡ argument_in m1.now.registers m1.now.memory sp i =
                ap (λ (q : ℕ). argument_in m2.now.registers m2.now.memory q i) x2 ∙ argument_same m1.now.registers m2.now.registers m1.now.memory m2.now.memory sp i (λ lt. other (10 + i) (λ z. absurd (omega (arith, z)))) (λ y le. own.same y (inl le)) in
                subst (λ (q : ℕ). StandsFor w.memory l.address_of v q) (sym there) (args.values i v e);
            arguments_below = let whole = placed_inside c in let top = s.ceiling in omega (arith, x2, few, whole, room_below, top);
            words = r.frame.words;
            return_low = omega (arith, ra, low, limit);
            aligned = omega (arith, x2, room_al);
            ceiling = omega (arith, x2, room_below);
            bottom = r.root;
            input = ◌∙◌ {a = m2.now.input} b.input h.input;
            input_bytes = h.input_bytes;
            steady = record { set = b.steady.set; low = omega arith; bytes = bytes };
          };
        }
      where
        is_waiting : (m2 : Watched) (p : ℕ) → IsRelated s a w.memory stack l m2.now.registers sp m2.now.memory → m2.now.registers 1 ≡ p + 4 → Lays (instruction_at s.image) s.label_at (p + 4) (plain (take_result c x)) (place s a.function (a.at + 1)) → p % 4 ≡ 0 → p + 4 < 2 ^ 32 → IsWaiting s (ground w.memory l m2.now.memory) waiting m2.now.registers sp
        is_waiting m2 p r link tail al low =
            let fewer = related_fewer s a w.memory stack l m2.now.registers sp m2.now.memory r (kept a.held) (kept_fewer a.held) in
            record {
              takes = subst (λ (q : ℕ). Lays (instruction_at s.image) s.label_at q (plain (take_result c x)) (place s a.function (a.at + 1))) (sym link) tail;
              known = r.known;
              inside = inside;
              taken = has_x;
              frame = fewer.frame;
              stays = λ q v e. kept_stays a.held q v e;
              in_room = r.in_room;
              aligned = omega (arith, link, al);
              low = omega (arith, link, low);
            }

    -- the callee begins
    pub record HasBegun (result : Passed) : Type 0 where
      pub to : Watched
      pub lay_there : Lay
      pub reaches : Reaches s m (Some (Calls f)) to
      pub stands : StandsAt s (record { function = f; at = 0; first_block = length w.memory; held = (holder s).enter f result.environment }) (with_memory w result.memory) (waiting ∷ stack) lay_there to

    begins : (m2 : Watched) (n : ℕ) (result : Passed) → IsCalled m2 n → base s.room + cost s f ≤ m.now.registers 2 → passes (function_at s.unit f).parameters vs (length w.memory) no_values (make (function_at s.unit f).blocks w.memory) ≡ Some result → HasBegun result
    begins m2 n result k room passed =
        let x2 = k.x2 in
        let e = enters s f vs w (waiting ∷ stack) l m2 k.entered (omega (arith, x2, room)) result passed in
        let moved = e.reaches.moved in
        record {
          to = e.to;
          lay_there = e.lay_there;
          reaches = record {
            takes = takes_less s.image s.room (n + 1) 1 m e.to (omega arith) (takes_on s.image s.room n 1 m m2 e.to k.takes e.reaches.takes);
            output = e.reaches.output ∙ ap (λ (o : List ℕ). o ++ []) k.output;
            moved = (moved.0 ∙ x2, moved.1 ∙ ap (λ (q : ℕ). min q (e.to.now.registers 2)) k.low);
          };
          stands = e.stands;
        }

    pub function_called : (os : List Operand) (result : Passed) → HasFunction s a.function → keeps_return_address c.function c.places ≡ true → f < length s.unit.functions → length os ≡ length (function_at s.unit f).parameters → stack_arguments (length os) ≤ outgoing_words c.function → list_all (operand_fits s.unit (function_at s.unit a.function)) os ≡ true → operands (holder s) os a ≡ Some vs → Lays (instruction_at s.image) s.label_at (place s a.function a.at) (plain (emission.pass c os) ++ (items.Jump 1 (first_label s.unit.functions f) ∷ plain (take_result c x))) (place s a.function (a.at + 1)) → place s a.function (a.at + 1) ≤ s.code_end → place s a.function a.at % 4 ≡ 0 → base s.room + cost s f ≤ m.now.registers 2 → passes (function_at s.unit f).parameters vs (length w.memory) no_values (make (function_at s.unit f).blocks w.memory) ≡ Some result → HasBegun result
    function_called os result has keeps known count few fits e lays low al room passed =
        let code = emission.pass c os in
        let st = straight (instruction_at s.image) s.label_at (place s a.function a.at) code (items.Jump 1 (first_label s.unit.functions f) ∷ plain (take_result c x)) (place s a.function (a.at + 1)) lays in
        let tail = plain_laid (instruction_at s.image) s.label_at (place s a.function a.at + 4 * length code + 4) (take_result c x) (place s a.function (a.at + 1)) st.rest_at.1 in
        let end = tail.end in
        let pc = h.pc in
        let fits_code = fits_between s m.now.pc (place s a.function (a.at + 1)) (length code) (omega (arith, pc, al)) low (omega (arith, pc, end)) in
        let steady = steady_at s a w stack l m h in
        let d = (pass_does s a w.memory stack l sp os vs m (amid_at s a w stack l m h) fits e few).by (subst (λ (p : ℕ). HasAt (instruction_at s.image) p code) (sym h.pc) st.code_at) fits_code steady in
        let same_count = operands_count s a w.memory stack l sp os vs e in
        let counted : length vs ≡ length (function_at s.unit f).parameters = same_count ∙ count in
        begins _ (length code + 1) result
        (jumped d.to (length code) (place s a.function a.at + 4 * length code) (record { takes = d.takes; x2 = d.x2; input = d.input; output = d.output; low = d.low; steady = steady_on s m d.to d.x2 d.low d.bytes steady }) d.is (omega (arith, few, same_count)) (d.pc ∙ ap (λ (p : ℕ). p + 4 * length code) h.pc) known counted st.rest_at.0 keeps st.rest_at.1 (omega (arith, al)) (omega (arith, end, low)))
        room passed

  -- ---- calls of the environment

  -- behind ECALL a0 has the answer, and input and output are others
  record IsAnswered (m1 : Watched) (answer : ℕ) (input output : List ℕ) (m2 : Watched) : Type 0 where
    takes : Takes s.image s.room 1 m1 m2
    pc : m2.now.pc ≡ m1.now.pc + 4
    a0 : m2.now.registers 10 ≡ answer
    others : (q : ℕ) → (q ≡ 10 → ⊥) → m2.now.registers q ≡ m1.now.registers q
    own : SameOwn s.room (m1.now.registers 2) m1.now.memory m2.now.memory
    input_is : m2.now.input ≡ input
    output_is : m2.now.output ≡ output
    low : m2.low ≡ m1.low
    steady : IsSteady s.room m2

  answers : (m1 : Watched) (answer : ℕ) (input output : List ℕ) → instruction_at s.image m1.now.pc ≡ Some instructions.Ecall → act s.image s.room.size m1.now instructions.Ecall ≡ Next (record m1.now { pc = m1.now.pc + 4; registers = with_value m1.now.registers 10 answer; input = input; output = output }) → IsSteady s.room m1 → IsAnswered m1 answer input output (stepped s m1 (record m1.now { pc = m1.now.pc + 4; registers = with_value m1.now.registers 10 answer; input = input; output = output }))
  answers m1 answer input output has e steady =
      let t : State = record m1.now { pc = m1.now.pc + 4; registers = with_value m1.now.registers 10 answer; input = input; output = output } in
      let least = steady.low in
      let low_is : min m1.low (m1.now.registers 2) ≡ m1.low = omega (arith, least) in
      let bytes = stirred_bytes s m1.time (m1.now.registers 2) m1.now.memory steady.bytes in
      record {
        takes = takes_step s m1 t instructions.Ecall has e refl steady.set;
        pc = refl;
        a0 = value_here m1.now.registers 10 answer 10 refl;
        others = λ q n. value_there m1.now.registers 10 answer q n;
        own = same_stirred s.room m1.time (m1.now.registers 2) m1.now.memory;
        input_is = refl;
        output_is = refl;
        low = low_is;
        steady = record { set = steady.set; low = omega (arith, low_is, least); bytes = bytes };
      }

  -- what the activation is behind the call
  abbrev resting : Activation File
  resting = record a { held = kept a.held }

  abbrev taking : Option ℕ → Value → Activation File
  taking None v = resting
  taking (Some x) v = record a { held = with_place (kept a.held) (place_of c.places x) (Some v) }

  take_does : (m2 : Watched) (x : Option ℕ) (v : Value) → IsAmid s resting w.memory stack l sp m2 → StandsFor w.memory l.address_of v (m2.now.registers 10) → ((t : ℕ) → x ≡ Some t → HasPlace c (place_of c.places t)) → Does s m2 (take_result c x) (IsAmid s (taking x v) w.memory stack l sp)
  take_does m2 None v amid stands has = does_none s m2 _ amid
  take_does m2 (Some x) v amid stands has = does_is s m2 _ _ _ (put_does s resting w.memory stack l sp m2 10 (m2.now.registers 10) (place_of c.places x) v amid (has x refl) (λ e. absurd (omega (arith, e))) refl stands) (λ m3 x3 k. k.amid)

  pub record HasAnswer (e : Event) (x : Option ℕ) (v : Value) (input : List ℕ) : Type 0 where
    pub to : Watched
    pub reaches : Reaches s m (Some e) to
    pub stands : StandsAt s (record (taking x v) { at = a.at + 1 }) (record w { input = input }) stack l to

  taken : (m1 m2 : Watched) (n p : ℕ) (e : Event) (x : Option ℕ) (v : Value) (answer : ℕ) (input : List ℕ) → Moved (cost s) (Some e) sp sp m.low m.low → IsBehind n m1 → IsAmid s a w.memory stack l sp m1 → m1.now.pc ≡ p → IsAnswered m1 answer input (m.now.output ++ output_of (e ∷ [])) m2 → StandsFor w.memory l.address_of v answer → All (λ byte. byte < 256) input → ((t : ℕ) → x ≡ Some t → HasPlace c (place_of c.places t)) → IsCode (instruction_at s.image) (p + 4) (take_result c x) (place s a.function (a.at + 1)) → place s a.function (a.at + 1) ≤ s.code_end → p % 4 ≡ 0 → HasAnswer e x v input
  taken m1 m2 n p e x v answer input moved b amid pc g stands input_bytes has code low al =
      let x2 : m2.now.registers 2 ≡ sp = g.others 2 (λ z. absurd (omega (arith, z))) ∙ b.x2 in
      let own : SameOwn s.room sp m1.now.memory m2.now.memory = subst (λ (q : ℕ). SameOwn s.room q m1.now.memory m2.now.memory) b.x2 g.own in
      let r = related_own s a w.memory stack l m1.now.registers sp m1.now.memory amid.related m2.now.registers m2.now.memory (record { same = λ q z. g.others q (value_apart q 10 z refl) }) own in
      let rest : IsAmid s resting w.memory stack l sp m2 = record { x2 = x2; related = related_fewer s a w.memory stack l m2.now.registers sp m2.now.memory r (kept a.held) (kept_fewer a.held) } in
      let value : StandsFor w.memory l.address_of v (m2.now.registers 10) = subst (λ (q : ℕ). StandsFor w.memory l.address_of v q) (sym g.a0) stands in
      let pc2 : m2.now.pc ≡ p + 4 = g.pc ∙ ap (λ (q : ℕ). q + 4) pc in
      let end = code.end in
      let fits = fits_between s m2.now.pc (place s a.function (a.at + 1)) (length (take_result c x)) (omega (arith, pc2, al)) low (omega (arith, pc2, end)) in
      let d = (take_does m2 x v rest value has).by (subst (λ (q : ℕ). HasAt (instruction_at s.image) q (take_result c x)) (sym pc2) code.has) fits g.steady in
      last x2 d.to d.takes (d.pc ∙ ap (λ (q : ℕ). q + 4 * length (take_result c x)) pc2 ∙ end) d.x2 d.input d.output d.low d.bytes d.is
    where
      function_same : (x : Option ℕ) → (taking x v).function ≡ a.function
      function_same None = refl
      function_same (Some x) = refl

      last : m2.now.registers 2 ≡ sp → (m3 : Watched) → Takes s.image s.room (length (take_result c x)) m2 m3 → m3.now.pc ≡ place s a.function (a.at + 1) → m3.now.registers 2 ≡ m2.now.registers 2 → m3.now.input ≡ m2.now.input → m3.now.output ≡ m2.now.output → m3.low ≡ m2.low → AreBytes m3.now.memory → IsAmid s (taking x v) w.memory stack l sp m3 → HasAnswer e x v input
      last x2_before m3 takes pc3 x2 input_is output low_is bytes k =
          let x3 : m3.now.registers 2 ≡ sp = k.x2 in
          let low3 : m3.low ≡ m.low = ◌∙◌ {a = m3.low} low_is (◌∙◌ {a = m2.low} g.low b.low) in
          let least = h.low in
          record {
            to = m3;
            reaches = record {
              takes = takes_less s.image s.room (n + (1 + length (take_result c x))) 1 m m3 (omega arith) (takes_on s.image s.room n (1 + length (take_result c x)) m m1 m3 b.takes (takes_on s.image s.room 1 (length (take_result c x)) m1 m2 m3 g.takes takes));
              output = ◌∙◌ {a = m3.now.output} output g.output_is;
              moved = subst (λ (q : ℕ). Moved (cost s) (Some e) sp q m.low m3.low) (sym x3) (subst (λ (q : ℕ). Moved (cost s) (Some e) sp sp m.low q) (sym low3) moved);
            };
            stands = record {
              pc = pc3 ∙ ap (λ (f : ℕ). place s f (a.at + 1)) (sym (function_same x));
              related = subst (λ (q : ℕ). IsRelated s (record (taking x v) { at = a.at + 1 }) w.memory stack l m3.now.registers q m3.now.memory) (sym x3) (related_to s (taking x v) w.memory stack l m3.now.registers sp m3.now.memory k.related (a.at + 1));
              input = ◌∙◌ {a = m3.now.input} input_is g.input_is;
              input_bytes = input_bytes;
              bytes = bytes;
              low = omega (arith, low3, least, x3);
            };
          }

  -- arguments and the number of the call
  pub record IsAsking (vs : List Value) (number : ℕ) (m1 : Watched) : Type 0 where
    pub amid : IsAmid s a w.memory stack l sp m1
    pub values : (i : ℕ) (v : Value) → slice_get vs i ≡ Some v → i < 7 → StandsFor w.memory l.address_of v (m1.now.registers (10 + i))
    pub a7 : register m1.now 17 ≡ number

  asks : (os : List Operand) (vs : List Value) (number : ℕ) → number < 2 ^ 32 → list_all (operand_fits s.unit (function_at s.unit a.function)) os ≡ true → operands (holder s) os a ≡ Some vs → stack_arguments (length os) ≤ outgoing_words c.function → Does s m (emission.pass c os ++ addi 17 0 number ∷ []) (IsAsking vs number)
  asks os vs number small fits e few =
      let a7 = argument_scratch 17 (omega arith) (omega arith) in
      does_then s m (emission.pass c os) (addi 17 0 number ∷ []) _ _ (pass_does s a w.memory stack l sp os vs m (amid_at s a w stack l m h) fits e few) (λ m1 x2 k.
      does_is s m1 _ _ _ (op_imm_does s m1 Addi 17 0 number a7.free) (λ m2 y2 g. record {
        amid = amid_gets s a w.memory stack l sp m1 m2 17 _ a7 k.amid y2 g;
        values = λ i v f lt.
            let less : nat_lt i 8 ≡ true = grind (arith, nat_tests, lt) in
            let there : argument_in m1.now.registers m1.now.memory sp i ≡ m1.now.registers (10 + i) = in_register m1.now.registers m1.now.memory sp i less in
            subst (λ (q : ℕ). StandsFor w.memory l.address_of v q) (sym (g.others (10 + i) (λ z. absurd (omega (arith, z, lt))) ∙ sym there)) (k.values i v f);
        a7 = g.got ∙ omega (arith, small);
      }))

  -- the code of a call of the environment, up to ECALL
  pub environment_called : (os : List Operand) (vs : List Value) (number : ℕ) (e : Event) (x : Option ℕ) (v : Value) (input : List ℕ) → number < 2 ^ 32 → Moved (cost s) (Some e) sp sp m.low m.low → list_all (operand_fits s.unit (function_at s.unit a.function)) os ≡ true → operands (holder s) os a ≡ Some vs → stack_arguments (length os) ≤ outgoing_words c.function
      → ((m1 : Watched) → IsAsking vs number m1 → m1.now.input ≡ w.input → m1.now.output ≡ m.now.output → (answer : ℕ) × ((act s.image s.room.size m1.now instructions.Ecall ≡ Next (record m1.now { pc = m1.now.pc + 4; registers = with_value m1.now.registers 10 answer; input = input; output = m.now.output ++ output_of (e ∷ []) })) × StandsFor w.memory l.address_of v answer))
      → All (λ byte. byte < 256) input → ((t : ℕ) → x ≡ Some t → HasPlace c (place_of c.places t))
      → Lays (instruction_at s.image) s.label_at (place s a.function a.at) (plain (emission.pass c os) ++ (plain (addi 17 0 number ∷ instructions.Ecall ∷ []) ++ plain (take_result c x))) (place s a.function (a.at + 1)) → place s a.function (a.at + 1) ≤ s.code_end → place s a.function a.at % 4 ≡ 0 → HasAnswer e x v input
  environment_called os vs number e x v input small moved fits ev few asked input_bytes has lays low al =
      let code = emission.pass c os in
      let st = straight (instruction_at s.image) s.label_at (place s a.function a.at) code (plain (addi 17 0 number ∷ instructions.Ecall ∷ []) ++ plain (take_result c x)) (place s a.function (a.at + 1)) lays in
      let p0 = place s a.function a.at + 4 * length code in
      let tail = plain_laid (instruction_at s.image) s.label_at (p0 + 4 + 4) (take_result c x) (place s a.function (a.at + 1)) st.rest_at.1.1 in
      let end = tail.end in
      let pc = h.pc in
      let len : length (code ++ addi 17 0 number ∷ []) ≡ length code + 1 = length-append code (addi 17 0 number ∷ []) in
      let fits_code = fits_between s m.now.pc (place s a.function (a.at + 1)) (length (code ++ addi 17 0 number ∷ [])) (omega (arith, pc, al)) low (omega (arith, pc, end, len)) in
      let steady = steady_at s a w stack l m h in
      let at_place : HasAt (instruction_at s.image) (place s a.function a.at) (code ++ addi 17 0 number ∷ []) = has_join (instruction_at s.image) (place s a.function a.at) code (addi 17 0 number ∷ []) st.code_at (st.rest_at.0, tt) in
      let d = (asks os vs number small fits ev few).by (subst (λ (p : ℕ). HasAt (instruction_at s.image) p (code ++ addi 17 0 number ∷ [])) (sym h.pc) at_place) fits_code steady in
      let pc1 = d.pc in
      let place_is : d.to.now.pc ≡ p0 + 4 = omega (arith, pc1, pc, len) in
      let q = asked d.to d.is (◌∙◌ {a = d.to.now.input} d.input h.input) d.output in
      let g = answers d.to q.0 input (m.now.output ++ output_of (e ∷ [])) (ap (λ (n : ℕ). instruction_at s.image n) place_is ∙ st.rest_at.1.0) q.1.0 (steady_on s m d.to d.x2 d.low d.bytes steady) in
      taken d.to (stepped s d.to (record d.to.now { pc = d.to.now.pc + 4; registers = with_value d.to.now.registers 10 q.0; input = input; output = m.now.output ++ output_of (e ∷ []) })) (length (code ++ addi 17 0 number ∷ [])) (p0 + 4) e x v q.0 input moved (record { takes = d.takes; x2 = d.x2; input = d.input; output = d.output; low = d.low; steady = steady_on s m d.to d.x2 d.low d.bytes steady }) d.is.amid place_is g q.1.1 input_bytes has tail low (omega (arith, al))
    where
      has_join : (at : ℕ → Option Instr) (from : ℕ) (a b : List Instr) → HasAt at from a → HasAt at (from + 4 * length a) b → HasAt at from (a ++ b)
      has_join at from a b h k = by a from h k
        where
          by : (a : List Instr) (from : ℕ) → HasAt at from a → HasAt at (from + 4 * length a) b → HasAt at from (a ++ b)
          by [] from h k = let z : from + 4 * 0 ≡ from = omega arith in subst (λ (n : ℕ). HasAt at n b) z k
          by (i ∷ a) from h k = let e : from + 4 * length (i ∷ a) ≡ from + 4 + 4 * length a = omega arith in (h.0, by a (from + 4) h.1 (subst (λ (n : ℕ). HasAt at n b) e k))
