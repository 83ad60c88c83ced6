-- The machine follows each step of linear code, and so the whole run.
use Rattle.std.proofs.Common.{◌≡◌, inl, inr, ℕ, zero, suc, ◌+◌, ◌-◌, ◌*◌, ◌%◌, ◌^◌, ◌==◌, ◌<◌, ◌≤◌, Bool, true, false, List, [], ◌∷◌, ◌++◌, length, All, Option, Some, None, refl, sym, ap, ◌∙◌, subst, arith, append-nil}
use Rattle.std.specs.Prelude.{◌&&◌, nat_lt, if◌then◌else◌, is_some, slice_get}
use Rattle.std.specs.List.{list_all}
use Rattle.std.proofs.lemmas.List.Elements.{All-nil, All-head, All-tail}
use Rattle.std.proofs.lemmas.Option.{slice_get_within, get_or_from_slice_get}
use Rattle.std.proofs.lemmas.Bool.Decides.{nat_tests}
use Rattle.qs_base.specs.Parameters.{stack_arguments}
use Rattle.qs_memory.specs.Partial.{◌>>=◌}
use Rattle.qs_memory.specs.Values as values
use Rattle.qs_memory.specs.Values.{Value, integer, address}
use Rattle.qs_memory.specs.Memory as memory
use Rattle.qs_memory.specs.Memory.{Memory, make, release}
use Rattle.qs_memory.specs.Operations.{apply_unary, apply_binary}
use Rattle.qs_memory.proofs.Options.{some_same, followed}
use Rattle.qs_memory.proofs.BlockLaws.{live_below}
use Rattle.qs_events.specs.Events.{Event, Calls, Returns, TakesEnd, Puts, output_of}
use Rattle.qs_events.specs.Events.{Takes as takes_event}
use Rattle.qs_events.specs.Runs.{emit, given, has_ended}
use Rattle.qs_calls.specs.World.{World, with_memory, RootRun, no_values}
use Rattle.qs_calls.specs.Calls.{take_byte, get_char, put_char, invoke, activate}
use Rattle.qs_calls.specs.declared.callee.Callee.{Callee}
use Rattle.qs_calls.specs.declared.callee.Callee.TheVariants.{Function, PutChar, GetChar}
use Rattle.qs_isa.specs.EnvironmentCalls.{put_byte_call, take_byte_call}
use Rattle.qs_isa.specs.declared.instruction.Instr.{Instr}
use Rattle.qs_asm.specs.Items.{Lays, plain}
use Rattle.qs_isa.specs.declared.instruction.Instr.TheVariants as instructions
use Rattle.qs_asm.specs.declared.item.Item.{Item}
use Rattle.qs_asm.specs.declared.item.Item.TheVariants as items
use Rattle.qs_asm.proofs.LaidLaws.{laid_split}
use Rattle.qs_emit_selection.specs.Pieces.{addi}
use Rattle.qs_machine.specs.State.{State, register, with_value}
use Rattle.qs_machine.specs.Step as machine
use Rattle.qs_machine.specs.Step.{act}
use Rattle.qs_tac.specs.declared.operands.Operand.{Operand}
use Rattle.qs_tac.specs.Trees.{InstructionTree, move, unary, binary, convert, address_of, load, store}
use Rattle.qs_tac.specs.Trees.{copy, fill, call, jump, branch, return, TacFunctionTree}
use Rattle.qs_tac.specs.Holders.{File}
use Rattle.qs_tac.specs.Places.{place_of}
use Rattle.qs_tac.specs.Fits.{operand_fits, address_fits, operation_fits, condition_fits, instruction_fits, takes, taken_fits, callee_fits}
use Rattle.qs_tac.specs.Values.{Activation, operand, operands, pointer, holds}
use Rattle.qs_tac.specs.declared.places.Place.TheVariants.{Register}
use Rattle.qs_tac.specs.Steps.{Waiting, going_to, onward, written, Next, take_result, begins, enters, ends, waits, step}
use Rattle.qs_tac.specs.Steps.{instruction_at as linear_at}
use Rattle.qs_tac.specs.Units.{stopped_steps}
use Rattle.qs_emit_selection.specs.Operands.{Context}
use Rattle.qs_frames.specs.Layout.{outgoing_words, keeps_return_address}
use Rattle.qs_frames.proofs.FrameLaws.{caller_keeps}
use Rattle.qs_emit_selection.specs.Emission as emission
use Rattle.qs_emit_selection.specs.Emission.{Labels, labels_of, first_label, instruction_items, items_at, last_items, leave, result_into, ends_from, has_one_epilogue, go_out}
use Rattle.qs_emit.specs.Machine.{Watched, instruction_at}
use Rattle.qs_emit.specs.Lies.{AreBytes, StandsFor}
use Rattle.qs_emit.specs.Surroundings.{HasBlocks, Lay, ground}
use Rattle.qs_emit.specs.Relation.{Setup, no_function, context, cost, place, function_at, HasPlace, HasStack, root_block, caller_registers, IsRelated, StandsAt, around}
use Rattle.qs_emit.specs.Entries.{IsResult}
use Rattle.qs_emit.proofs.Injection.{value_kept}
use Rattle.qs_emit.proofs.Steps.{Takes, takes_on, takes_less, HasAt, Does, does_is, does_none}
use Rattle.qs_emit.proofs.FrameLaws.{kept_of_given, saved_is_given, related_held, cell_own, blocks_same}
use Rattle.qs_emit.proofs.Operands.{holder, argument_scratch, IsAmid, holding, into_does, put_does}
use Rattle.qs_emit.proofs.OperationLaws.{IsOperand}
use Rattle.qs_emit.proofs.Results.{move_does, unary_does, convert_does, binary_does, address_of_does}
use Rattle.qs_emit.proofs.Fetches.{load_place_does, store_place_does}
use Rattle.qs_emit.proofs.Transfers.{fill_object_does, copy_object_does}
use Rattle.qs_emit.proofs.Passes.{passed_there}
use Rattle.qs_emit.proofs.CodePlaces.{IsCode, IsStood, goes_up, plain_laid, HasFunction, has_function, fits_between, instruction_fits_there, function_there, has_place, some_code}
use Rattle.qs_emit.proofs.FollowedSteps.{Reaches, ComesToStop, FollowsToStop, follows_later, follows_undefined, undefined_behind, follows_stopped, follows_given, amid_at, Onward, plain_follows}
use Rattle.qs_emit.proofs.Jumps.{jump_follows, branch_follows}
use Rattle.qs_emit.proofs.Parameters.{Passed, passes, pass_is}
use Rattle.qs_emit.proofs.Returns.{later_left, blocks_left, related_left, HasEpilogue, IsWayOut, HasLeft}
use Rattle.qs_emit.proofs.Returns.{leaves as function_leaves}
use Rattle.qs_emit.proofs.Calls.{function_called, HasAnswer, IsAsking, environment_called}

and_left : (x y : Bool) → x && y ≡ true → x ≡ true
and_left true y e = refl
and_left false y e = cc

and_right : (x y : Bool) → x && y ≡ true → y ≡ true
and_right true y e = e
and_right false y e = cc

-- code whose last instruction is a return ends with one
ends_there : (code : List InstructionTree) (k : ℕ) (is_return : Bool) (o : Option Operand) → slice_get code k ≡ Some (return o) → k + 1 ≡ length code → ends_from is_return code ≡ true
ends_there [] k is_return o e l = cc
ends_there (i ∷ code) zero is_return o e l = last code l
  where
    same : i ≡ return o
    same = some_same i (return o) e

    last : (code : List InstructionTree) → 0 + 1 ≡ length (i ∷ code) → ends_from (is_some (emission.returned i)) code ≡ true
    last [] l = ap (λ (d : InstructionTree). is_some (emission.returned d)) same
    last (d ∷ code) l = absurd (omega (arith, l))
ends_there (i ∷ code) (suc k) is_return o e l = ends_there code k (is_some (emission.returned i)) o e (omega (arith, l))

module _ (s : Setup) (mark : Option Value) (n : ℕ) (next : Next File) (more : (a : Activation File) (w : World) (stack : List (Waiting File)) (l : Lay) (m : Watched) → StandsAt s a w stack l m → FollowsToStop (around s) mark n m (next a w stack)) where
  -- behind a step without events
  goes_on : (a b : Activation File) (w v : World) (stack : List (Waiting File)) (l : Lay) (m : Watched) → StandsAt s a w stack l m → Onward s b v stack l m → FollowsToStop (around s) mark (suc n) m (next b v stack)
  goes_on a b w v stack l m h o = follows_later s mark n m o.to None (next b v stack) h.low o.reaches (more b v stack l o.to o.stands)

  -- ---- returns

  module _ (a : Activation File) (w : World) (stack : List (Waiting File)) (l : Lay) (m : Watched) (h : StandsAt s a w stack l m) (result : Option Value) (g : HasLeft s a w stack l m result) where
    abbrev left : Memory
    left = release a.first_block w.memory

    abbrev mine : ℕ → ℕ
    mine = caller_registers (context s a.function) g.registers g.flat (m.now.registers 2)

    abbrev up : ℕ
    up = m.now.registers 2 + cost s a.function

    result_left : (r : Option Value) (x : ℕ) → IsResult w.memory l r x → IsResult left l r x
    result_left None x k = k
    result_left (Some v) x k = value_kept w.memory left l.address_of l.address_of v x (later_left s a w.memory stack l g.registers (m.now.registers 2) g.flat g.related) k

    above_of : (c : Waiting File) (others : List (Waiting File)) → stack ≡ c ∷ others → HasStack s (ground w.memory l g.flat) (c ∷ others) mine up
    above_of c others e = subst (λ (z : List (Waiting File)). HasStack s (ground w.memory l g.flat) z mine up) e g.related.above

    -- to a caller, which takes the result or not
    caller_amid : (c : Waiting File) (others : List (Waiting File)) → stack ≡ c ∷ others → IsAmid s c.activation left others l up g.to
    caller_amid c others e = record {
      x2 = g.x2;
      related = related_held s c.activation left others l mine up g.flat (related_left s a w.memory stack l g.registers (m.now.registers 2) g.flat g.related c others e) g.to.now.registers g.to.now.memory (kept_of_given (context s c.activation.function) mine g.to.now.registers g.given) (λ q v i. g.given.same q (saved_is_given q ((above_of c others e).0.stays (Register q) v i))) g.same;
    }

    record HasResumed (b : Activation File) (others : List (Waiting File)) : Type 0 where
      to : Watched
      reaches : Reaches s m (Some (Returns a.function)) to
      stands : StandsAt s b (with_memory w left) others l to

    resumed : (c : Waiting File) (others : List (Waiting File)) (b : Activation File) → stack ≡ c ∷ others → b.function ≡ c.activation.function → b.at ≡ c.activation.at → Does s g.to (emission.take_result (context s c.activation.function) c.taken_by) (IsAmid s b left others l up) → HasResumed b others
    resumed c others b e same_function same_at does =
        let above = above_of c others e in
        let inside = above.0.inside in
        let waits = above.0 in
        let f = c.activation.function in
        let code = emission.take_result (context s f) c.taken_by in
        let k = plain_laid (instruction_at s.image) s.label_at (mine 1) code (place s f c.activation.at) waits.takes in
        let end = k.end in
        let pc = g.pc in
        let al = waits.aligned in
        let low = (has_function s f waits.known).place_low c.activation.at inside in
        let fits = fits_between s g.to.now.pc (place s f c.activation.at) (length code) (omega (arith, pc, al)) low (omega (arith, pc, end)) in
        let d = does.by (subst (λ (p : ℕ). HasAt (instruction_at s.image) p code) (sym g.pc) k.has) fits g.steady in
        last d.to (length code) d.takes (d.pc ∙ ap (λ (p : ℕ). p + 4 * length code) g.pc ∙ end) d.x2 d.input d.output d.low d.bytes d.is
      where
        last : (m2 : Watched) (len : ℕ) → Takes s.image s.room len g.to m2 → m2.now.pc ≡ place s c.activation.function c.activation.at → m2.now.registers 2 ≡ g.to.now.registers 2 → m2.now.input ≡ g.to.now.input → m2.now.output ≡ g.to.now.output → m2.low ≡ g.to.low → AreBytes m2.now.memory → IsAmid s b left others l up m2 → HasResumed b others
        last m2 len takes pc x2 input output low bytes k =
            let x : m2.now.registers 2 ≡ up = k.x2 in
            let low2 : m2.low ≡ m.low = ◌∙◌ {a = m2.low} low g.low in
            let least = h.low in
            record {
              to = m2;
              reaches = record {
                takes = takes_less s.image s.room (1 + len) 1 m m2 (omega arith) (takes_on s.image s.room 1 len m g.to m2 g.takes takes);
                output = ◌∙◌ {a = m2.now.output} output g.output ∙ sym (append-nil m.now.output);
                moved = (x, low2);
              };
              stands = record {
                pc = pc ∙ ap (λ (f : ℕ). place s f c.activation.at) (sym same_function) ∙ ap (λ (k : ℕ). place s b.function k) (sym same_at);
                related = subst (λ (p : ℕ). IsRelated s b left others l m2.now.registers p m2.now.memory) (sym x) k.related;
                input = ◌∙◌ {a = m2.now.input} input g.input ∙ h.input;
                input_bytes = h.input_bytes;
                bytes = bytes;
                low = omega (arith, low2, least, x);
              };
            }

    -- the root
    root_returns : stack ≡ [] → ComesToStop (around s) mark (suc n) m (Returns a.function ∷ []) (has_ended (record { result = result; memory = left; input = w.input }))
    root_returns e =
        let above : HasStack s (ground w.memory l g.flat) [] mine up = subst (λ (z : List (Waiting File)). HasStack s (ground w.memory l g.flat) z mine up) e g.related.above in
        let first : a.first_block ≡ s.first = subst (λ (z : List (Waiting File)). root_block a.first_block z ≡ s.first) e g.related.root in
        let old = blocks_left s a w.memory stack l g.registers (m.now.registers 2) g.flat g.related in
        let blocks = blocks_same s left l up g.flat g.to.now.memory (λ b o live lt. g.same.same (l.address_of b + o) (cell_own s (ground left l g.flat) up b o old live lt)) old in
        let steps = g.takes.by 0 in
        let least = h.low in
        let low = g.low in
        inl (record {
          steps = steps.0;
          to = g.to;
          lay = l;
          comes = steps.1.1;
          seen = record { output = g.output ∙ sym (append-nil m.now.output); x2 = g.x2; low = omega (arith, low, least) };
          pc = g.pc ∙ above.1.0;
          x2 = g.x2 ∙ above.0;
          saved = λ q b. g.given.same q (saved_is_given q b) ∙ above.1.1 q b;
          result = result_left result (g.to.now.registers 10) g.value;
          only_old = λ b live. let k = live_below a.first_block w.memory b live in omega (arith, k, first);
          blocks = subst (λ (p : ℕ). HasBlocks (around s) (ground left l g.to.now.memory) p) (sym g.x2) blocks;
          input = ◌∙◌ {a = g.to.now.input} g.input h.input;
        })

    returned : (c : Waiting File) (others : List (Waiting File)) → stack ≡ c ∷ others → (x : Option ℕ) → c.taken_by ≡ x → (r : Option Value) → result ≡ r → FollowsToStop (around s) mark (suc n) m (emit (Returns a.function) (take_result (holder s) next x c.activation others r (with_memory w left)))
    returned c others e None f r i =
        let k = resumed c others c.activation e refl refl (subst (λ (x : Option ℕ). Does s g.to (emission.take_result (context s c.activation.function) x) (IsAmid s c.activation left others l up)) (sym f) (does_none s g.to _ (caller_amid c others e))) in
        follows_later s mark n m k.to (Some (Returns a.function)) (next c.activation (with_memory w left) others) h.low k.reaches (more c.activation (with_memory w left) others l k.to k.stands)
    returned c others e (Some x) f None i = undefined_behind s mark (suc n) m (Returns a.function) refl
    returned c others e (Some x) f (Some v) i =
        let b = written (holder s) x v c.activation in
        let has = (above_of c others e).0.taken x f in
        let value : StandsFor left l.address_of v (g.to.now.registers 10) = subst (λ (r : Option Value). IsResult left l r (g.to.now.registers 10)) i (result_left result (g.to.now.registers 10) g.value) in
        let does : Does s g.to (emission.take_result (context s c.activation.function) (Some x)) (IsAmid s b left others l up) = does_is s g.to _ _ _ (put_does s c.activation left others l up g.to 10 (g.to.now.registers 10) (place_of (context s c.activation.function).places x) v (caller_amid c others e) has (λ z. absurd (omega (arith, z))) refl value) (λ m2 x2 k. k.amid) in
        let k = resumed c others b e refl refl (subst (λ (x : Option ℕ). Does s g.to (emission.take_result (context s c.activation.function) x) (IsAmid s b left others l up)) (sym f) does) in
        follows_later s mark n m k.to (Some (Returns a.function)) (next b (with_memory w left) others) h.low k.reaches (more b (with_memory w left) others l k.to k.stands)

    -- a function returns
    ends_follows : (others : List (Waiting File)) → stack ≡ others → FollowsToStop (around s) mark (suc n) m (ends (holder s) next a others result w)
    ends_follows [] e room = root_returns e
    ends_follows (c ∷ others) e room = returned c others e c.taken_by refl result refl room

  -- ---- calls

  module _ (a : Activation File) (w : World) (stack : List (Waiting File)) (l : Lay) (m : Watched) (h : StandsAt s a w stack l m) (has : HasFunction s a.function) (inside : a.at + 1 ≤ length (function_at s.unit a.function).code) where
    abbrev c : Context
    c = context s a.function

    abbrev labels : Labels
    labels = labels_of s.unit a.function

    low_next : place s a.function (a.at + 1) ≤ s.code_end
    low_next = has.place_low (a.at + 1) inside

    aligned_here : place s a.function a.at % 4 ≡ 0
    aligned_here = has.place_aligned a.at (omega (arith, inside))

    abbrev Stands : InstructionTree → Type 0
    Stands i = Lays (instruction_at s.image) s.label_at (place s a.function a.at) (instruction_items c labels i) (place s a.function (a.at + 1))

    abbrev FitsHere : InstructionTree → Type 0
    FitsHere i = instruction_fits s.unit (function_at s.unit a.function) i ≡ true

    abbrev amid : IsAmid s a w.memory stack l (m.now.registers 2) m
    amid = amid_at s a w stack l m h

    -- straight code
    straight_follows : (i : InstructionTree) (b : Activation File) (later : Memory) (code : List Instr) → instruction_items c labels i ≡ plain code → b.function ≡ a.function → Stands i → Does s m code (IsAmid s b later stack l (m.now.registers 2)) → FollowsToStop (around s) mark (suc n) m (next (record b { at = a.at + 1 }) (with_memory w later) stack)
    straight_follows i b later code e same stands does =
        goes_on a (record b { at = a.at + 1 }) w (with_memory w later) stack l m h
        (plain_follows s a b w later stack l m code (a.at + 1) h has same (subst (λ (z : List _). Lays (instruction_at s.image) s.label_at (place s a.function a.at) z (place s a.function (a.at + 1))) e stands) low_next aligned_here (some_code s a.function h.related.known code i e) does)

    gives_follows : (i : InstructionTree) (x : ℕ) (v : Value) (code : List Instr) → instruction_items c labels i ≡ plain code → Stands i → Does s m code (IsAmid s (holding s a w.memory stack l (m.now.registers 2) (place_of c.places x) v) w.memory stack l (m.now.registers 2)) → FollowsToStop (around s) mark (suc n) m (next (onward (written (holder s) x v a)) w stack)
    gives_follows i x v code e stands does = straight_follows i (holding s a w.memory stack l (m.now.registers 2) (place_of c.places x) v) w.memory code e refl stands does

    there : (x : ℕ) → x < (function_at s.unit a.function).temporaries → HasPlace c (place_of c.places x)
    there x lt = has_place s a.function h.related.known x lt

    taken_there : (x : Option ℕ) → taken_fits (function_at s.unit a.function) x ≡ true → (t : ℕ) → x ≡ Some t → HasPlace c (place_of c.places t)
    taken_there None fits t e = cc
    taken_there (Some y) fits t e = let small : y < (function_at s.unit a.function).temporaries = grind (arith, nat_tests, fits) in subst (λ (z : ℕ). HasPlace c (place_of c.places z)) (some_same y t e) (there y small)

    -- ---- calls of functions

    called_follows : (x : Option ℕ) (f : ℕ) (os : List Operand) (vs : List Value) (g : TacFunctionTree) → keeps_return_address c.function c.places ≡ true → slice_get s.unit.functions f ≡ Some g → length os ≡ length g.parameters → stack_arguments (length os) ≤ outgoing_words c.function → list_all (operand_fits s.unit (function_at s.unit a.function)) os ≡ true → taken_fits (function_at s.unit a.function) x ≡ true → operands (holder s) os a ≡ Some vs → Lays (instruction_at s.image) s.label_at (place s a.function a.at) (plain (emission.pass c os) ++ (items.Jump 1 (first_label s.unit.functions f) ∷ plain (emission.take_result c x))) (place s a.function (a.at + 1))
        → FollowsToStop (around s) mark (suc n) m (activate f (record { parameters = g.parameters; blocks = g.blocks }) (begins (holder s) next (record { activation = waits (holder s) a; taken_by = x } ∷ stack) f) vs (take_result (holder s) next x (waits (holder s) a) stack) w)
    called_follows x f os vs g keeps is count few fits taken e stands =
        subst (λ (z : RootRun). FollowsToStop (around s) mark (suc n) m (emit (Calls f) z))
        (sym (pass_is g.parameters vs (length w.memory) no_values (with_memory w (make g.blocks w.memory)) (λ e w. next (record { function = f; at = 0; first_block = length w_first; held = (holder s).enter f e }) w (record { activation = waits (holder s) a; taken_by = x } ∷ stack))))
        (by (passes g.parameters vs (length w.memory) no_values (make g.blocks w.memory)) refl)
      where
        w_first : Memory
        w_first = w.memory

        same : function_at s.unit f ≡ g
        same = get_or_from_slice_get s.unit.functions f g no_function is

        known : f < length s.unit.functions
        known = slice_get_within s.unit.functions f g is

        by : (o : Option Passed) → passes g.parameters vs (length w.memory) no_values (make g.blocks w.memory) ≡ o → FollowsToStop (around s) mark (suc n) m (emit (Calls f) (given o (λ r. next (record { function = f; at = 0; first_block = length w_first; held = (holder s).enter f r.environment }) (with_memory (with_memory w (make g.blocks w.memory)) r.memory) (record { activation = waits (holder s) a; taken_by = x } ∷ stack))))
        by None q room = undefined_behind s mark (suc n) m (Calls f) refl room
        by (Some r) q room =
            let passed : passes (function_at s.unit f).parameters vs (length w.memory) no_values (make (function_at s.unit f).blocks w.memory) ≡ Some r = subst (λ (z : TacFunctionTree). passes z.parameters vs (length w.memory) no_values (make z.blocks w.memory) ≡ Some r) (sym same) q in
            let counted : length os ≡ length (function_at s.unit f).parameters = subst (λ (z : TacFunctionTree). length os ≡ length z.parameters) (sym same) count in
            let b = function_called s a w stack l m h x f vs (taken_there x taken) inside os r has keeps known counted few fits e stands low_next aligned_here (omega (arith, room)) passed in
            follows_later s mark n m b.to (Some (Calls f)) (next (record { function = f; at = 0; first_block = length w.memory; held = (holder s).enter f r.environment }) (with_memory w r.memory) (record { activation = waits (holder s) a; taken_by = x } ∷ stack)) h.low b.reaches
            (more _ _ _ b.lay_there b.to b.stands) room

    -- ---- calls of the environment

    -- what follows an answer
    answer_follows : (e : Event) (x : Option ℕ) (v : Value) (input : List ℕ) → HasAnswer s a w stack l m h e x v input → FollowsToStop (around s) mark (suc n) m (emit e (take_result (holder s) next x (waits (holder s) a) stack (Some v) (record w { input = input })))
    answer_follows e None v input k = follows_later s mark n m k.to (Some e) (next (waits (holder s) a) (record w { input = input }) stack) h.low k.reaches (more _ _ _ l k.to k.stands)
    answer_follows e (Some x) v input k = follows_later s mark n m k.to (Some e) (next (written (holder s) x v (waits (holder s) a)) (record w { input = input }) stack) h.low k.reaches (more _ _ _ l k.to k.stands)

    abbrev StandsEnvironment : (number : ℕ) → List Operand → Option ℕ → Type 0
    StandsEnvironment number os x = Lays (instruction_at s.image) s.label_at (place s a.function a.at) (plain (emission.pass c os) ++ (plain (addi 17 0 number ∷ instructions.Ecall ∷ []) ++ plain (emission.take_result c x))) (place s a.function (a.at + 1))

    -- the machine behind ECALL
    abbrev answered : Watched → (answer : ℕ) (input output : List ℕ) → State
    answered m1 answer input output = record m1.now { pc = m1.now.pc + 4; registers = with_value m1.now.registers 10 answer; input = input; output = output }

    ecall_acts : (m1 : Watched) (number : ℕ) → register m1.now 17 ≡ number → act s.image s.room.size m1.now instructions.Ecall ≡ machine.environment_call m1.now number
    ecall_acts m1 number e = ap (λ (k : ℕ). machine.environment_call m1.now k) e

    put_follows : (x : Option ℕ) (os : List Operand) (vs : List Value) → stack_arguments (length os) ≤ outgoing_words c.function → list_all (operand_fits s.unit (function_at s.unit a.function)) os ≡ true → taken_fits (function_at s.unit a.function) x ≡ true → operands (holder s) os a ≡ Some vs → StandsEnvironment put_byte_call os x → FollowsToStop (around s) mark (suc n) m (put_char vs (take_result (holder s) next x (waits (holder s) a) stack) w)
    put_follows x os [] few fits taken e stands = follows_undefined s mark (suc n) m
    put_follows x os (address p ∷ vs) few fits taken e stands = follows_undefined s mark (suc n) m
    put_follows x os (integer k ∷ v ∷ vs) few fits taken e stands = follows_undefined s mark (suc n) m
    put_follows x os (integer k ∷ []) few fits taken e stands =
        answer_follows (Puts (k % 256)) x (integer (k % 256)) w.input
        (environment_called s a w stack l m h os (integer k ∷ []) put_byte_call (Puts (k % 256)) x (integer (k % 256)) w.input (omega arith) (refl, refl) fits e few asked h.input_bytes (taken_there x taken) stands low_next aligned_here)
      where
        asked : (m1 : Watched) → IsAsking s a w stack l m h (integer k ∷ []) put_byte_call m1 → m1.now.input ≡ w.input → m1.now.output ≡ m.now.output → (answer : ℕ) × ((act s.image s.room.size m1.now instructions.Ecall ≡ machine.Next (answered m1 answer w.input (m.now.output ++ output_of (Puts (k % 256) ∷ [])))) × StandsFor w.memory l.address_of (integer (k % 256)) answer)
        asked m1 q input output =
            let a0 : m1.now.registers 10 ≡ k = (q.values 0 (integer k) refl (omega arith)).0 in (
              k % 256,
              (
                ecall_acts m1 put_byte_call q.a7
                    ∙ ap (λ (b : ℕ). machine.Next (answered m1 (b % 256) m1.now.input (m1.now.output ++ b % 256 ∷ []))) a0
                    ∙ ap (λ (i : List ℕ). machine.Next (answered m1 (k % 256) i (m1.now.output ++ k % 256 ∷ []))) input
                    ∙ ap (λ (o : List ℕ). machine.Next (answered m1 (k % 256) w.input (o ++ k % 256 ∷ []))) output,
                (refl, omega arith),
              ),
            )

    get_follows : (x : Option ℕ) (os : List Operand) (vs : List Value) → stack_arguments (length os) ≤ outgoing_words c.function → list_all (operand_fits s.unit (function_at s.unit a.function)) os ≡ true → taken_fits (function_at s.unit a.function) x ≡ true → operands (holder s) os a ≡ Some vs → StandsEnvironment take_byte_call os x → FollowsToStop (around s) mark (suc n) m (get_char vs (take_result (holder s) next x (waits (holder s) a) stack) w)
    get_follows x os (v ∷ vs) few fits taken e stands = follows_undefined s mark (suc n) m
    get_follows x os [] few fits taken e stands = by w.input refl
      where
        by : (input : List ℕ) → w.input ≡ input → FollowsToStop (around s) mark (suc n) m (take_byte input (take_result (holder s) next x (waits (holder s) a) stack) w)
        by [] i =
            subst (λ (z : World). FollowsToStop (around s) mark (suc n) m (emit TakesEnd (take_result (holder s) next x (waits (holder s) a) stack (Some (integer (2 ^ 32 - 1))) z))) (ap (λ (z : List ℕ). record w { input = z }) (sym i))
            (answer_follows TakesEnd x (integer (2 ^ 32 - 1)) []
            (environment_called s a w stack l m h os [] take_byte_call TakesEnd x (integer (2 ^ 32 - 1)) [] (omega arith) (refl, refl) fits e few asked (All-nil (λ byte. byte < 256)) (taken_there x taken) stands low_next aligned_here))
          where
            asked : (m1 : Watched) → IsAsking s a w stack l m h [] take_byte_call m1 → m1.now.input ≡ w.input → m1.now.output ≡ m.now.output → (answer : ℕ) × ((act s.image s.room.size m1.now instructions.Ecall ≡ machine.Next (answered m1 answer [] (m.now.output ++ output_of (TakesEnd ∷ [])))) × StandsFor w.memory l.address_of (integer (2 ^ 32 - 1)) answer)
            asked m1 q input output =
                let empty : m1.now.input ≡ [] = input ∙ i in
                let same_output : m1.now.output ≡ m.now.output ++ [] = output ∙ sym (append-nil m.now.output) in (
                  2 ^ 32 - 1,
                  (
                    ecall_acts m1 take_byte_call q.a7
                        ∙ ap (machine.take_byte m1.now) empty
                        ∙ ap (λ (z : List ℕ). machine.Next (answered m1 (2 ^ 32 - 1) z m1.now.output)) empty
                        ∙ ap (λ (o : List ℕ). machine.Next (answered m1 (2 ^ 32 - 1) [] o)) same_output,
                    (refl, omega arith),
                  ),
                )
        by (b ∷ input) i =
            answer_follows (takes_event b) x (integer b) input
            (environment_called s a w stack l m h os [] take_byte_call (takes_event b) x (integer b) input (omega arith) (refl, refl) fits e few asked (All-tail (λ byte. byte < 256) b input bytes) (taken_there x taken) stands low_next aligned_here)
          where
            bytes : All (λ byte. byte < 256) (b ∷ input)
            bytes = subst (λ (z : List ℕ). All (λ byte. byte < 256) z) i h.input_bytes

            asked : (m1 : Watched) → IsAsking s a w stack l m h [] take_byte_call m1 → m1.now.input ≡ w.input → m1.now.output ≡ m.now.output → (answer : ℕ) × ((act s.image s.room.size m1.now instructions.Ecall ≡ machine.Next (answered m1 answer input (m.now.output ++ output_of (takes_event b ∷ [])))) × StandsFor w.memory l.address_of (integer b) answer)
            asked m1 q input_is output =
                let first : m1.now.input ≡ b ∷ input = input_is ∙ i in
                let same_output : m1.now.output ≡ m.now.output ++ [] = output ∙ sym (append-nil m.now.output) in
                let small : b < 256 = All-head (λ byte. byte < 256) b input bytes in (
                  b,
                  (
                    ecall_acts m1 take_byte_call q.a7
                        ∙ ap (machine.take_byte m1.now) first
                        ∙ ap (λ (o : List ℕ). machine.Next (answered m1 b input o)) same_output,
                    (refl, omega (arith, small)),
                  ),
                )

    invoke_follows : (x : Option ℕ) (f : Callee) (os : List Operand) (vs : List Value) → slice_get (function_at s.unit a.function).code a.at ≡ Some (call x f os) → stack_arguments (length os) ≤ outgoing_words c.function → callee_fits s.unit f os ≡ true → list_all (operand_fits s.unit (function_at s.unit a.function)) os ≡ true → taken_fits (function_at s.unit a.function) x ≡ true → operands (holder s) os a ≡ Some vs → Stands (call x f os)
        → FollowsToStop (around s) mark (suc n) m (invoke f (enters (holder s) s.unit next (record { activation = waits (holder s) a; taken_by = x } ∷ stack)) vs (take_result (holder s) next x (waits (holder s) a) stack) w)
    invoke_follows x (Function f) os vs there few callee fits taken e stands =
        follows_given s mark (suc n) m (slice_get s.unit.functions f.0) _ (λ g is.
        let counts : (length os == length g.parameters) ≡ true = subst (λ (o : Option TacFunctionTree). takes o os ≡ true) is callee in
        let count : length os ≡ length g.parameters = grind (arith, nat_tests, counts) in
        called_follows x f.0 os vs g (caller_keeps c.function c.places (record { at = a.at; x = x; callee = f; arguments = os; is = there })) is count few fits taken e stands)
    invoke_follows x PutChar os vs there few callee fits taken e stands = put_follows x os vs few fits taken e stands
    invoke_follows x GetChar os vs there few callee fits taken e stands = get_follows x os vs few fits taken e stands

    -- ---- each instruction

    operand_of : (o : Operand) (v : Value) → operand_fits s.unit (function_at s.unit a.function) o ≡ true → operand (holder s) o a ≡ Some v → IsOperand s a w.memory stack l (m.now.registers 2) o v
    operand_of o v fits e = record { fits = fits; is = e }

    small_place : (x : ℕ) (rest : Bool) → nat_lt x (function_at s.unit a.function).temporaries && rest ≡ true → HasPlace c (place_of c.places x)
    small_place x rest fits = let t = and_left (nat_lt x (function_at s.unit a.function).temporaries) rest fits in let lt : x < (function_at s.unit a.function).temporaries = grind (arith, nat_tests, t) in there x lt

    abbrev Stood : InstructionTree → Type 0
    Stood i = IsStood (instruction_at s.image) s.label_at c labels (place s a.function a.at) i (place s a.function (a.at + 1)) (a.at + 1 ≡ length (function_at s.unit a.function).code)

    -- an instruction that doesn't return has the same code wherever it stands
    stands_there : (i : InstructionTree) → emission.returned i ≡ None → Stood i → Stands i
    stands_there i none stood = subst (λ (z : List Item). Lays (instruction_at s.image) s.label_at (place s a.function a.at) z (place s a.function (a.at + 1))) (same stood.is_last) stood.lays
      where
        same : (b : Bool) → items_at c labels b i ≡ instruction_items c labels i
        same true = ap (last_items c labels i) none
        same false = refl

    -- where the result is in a0 the epilogue follows, or a jump to it
    record HasReturn (o : Option Operand) : Type 0 where
      middle : ℕ
      code : IsCode (instruction_at s.image) (place s a.function a.at) (result_into c o) middle
      low : middle ≤ s.code_end
      way : IsWayOut s a.function middle

    return_there : (o : Option Operand) → slice_get (function_at s.unit a.function).code a.at ≡ Some (return o) → Stood (return o) → HasReturn o
    return_there o is stood = by stood.is_last stood.lays stood.ends
      where
        end : ℕ
        end = place s a.function (length (function_at s.unit a.function).code)

        epilogue_there : has_one_epilogue c.function ≡ true → HasEpilogue s a.function end
        epilogue_there e = record {
          to = has.body_end;
          code = plain_laid (instruction_at s.image) s.label_at end (leave c) has.body_end
              (subst (λ (z : List Instr). Lays (instruction_at s.image) s.label_at end (plain z) has.body_end) (ap (λ (b : Bool). if b then leave c else []) e) has.epilogue_there);
          low = has.end_low;
        }

        out : (b : Bool) → has_one_epilogue c.function ≡ b → (middle : ℕ) → Lays (instruction_at s.image) s.label_at middle (if b then items.Jump 0 (labels.instruction (length c.function.code)) ∷ [] else plain (leave c)) (place s a.function (a.at + 1)) → IsWayOut s a.function middle
        out true e middle lays = inr (record { there = end; jump = lays.0; aligned = has.place_aligned (length (function_at s.unit a.function).code) (omega arith); epilogue = epilogue_there e })
        out false e middle lays = inl (record { to = place s a.function (a.at + 1); code = plain_laid (instruction_at s.image) s.label_at middle (leave c) (place s a.function (a.at + 1)) lays; low = low_next })

        by : (b : Bool) → Lays (instruction_at s.image) s.label_at (place s a.function a.at) (items_at c labels b (return o)) (place s a.function (a.at + 1)) → (b ≡ true → a.at + 1 ≡ length (function_at s.unit a.function).code) → HasReturn o
        by true lays ends =
            let last = ends refl in
            record {
              middle = place s a.function (a.at + 1);
              code = plain_laid (instruction_at s.image) s.label_at (place s a.function a.at) (result_into c o) (place s a.function (a.at + 1)) lays;
              low = low_next;
              way = inl (subst (λ (k : ℕ). HasEpilogue s a.function (place s a.function k)) (sym last) (epilogue_there (ends_there (function_at s.unit a.function).code a.at false o is last)));
            }
        by false lays ends =
            let sp = laid_split (instruction_at s.image) s.label_at (place s a.function a.at) (plain (result_into c o)) (go_out c labels) (place s a.function (a.at + 1)) lays in
            let up = goes_up (instruction_at s.image) s.label_at sp.middle (go_out c labels) (place s a.function (a.at + 1)) sp.back in
            let below = low_next in
            record {
              middle = sp.middle;
              code = plain_laid (instruction_at s.image) s.label_at (place s a.function a.at) (result_into c o) sp.middle sp.front;
              low = omega (arith, up, below);
              way = out (has_one_epilogue c.function) refl sp.middle sp.back;
            }

    left_there : (o : Option Operand) (v : Option Value) → slice_get (function_at s.unit a.function).code a.at ≡ Some (return o) → Stood (return o) → Does s m (result_into c o) (λ m1. IsAmid s a w.memory stack l (m.now.registers 2) m1 × IsResult w.memory l v (m1.now.registers 10)) → HasLeft s a w stack l m v
    left_there o v is stood does = let r = return_there o is stood in function_leaves s a w stack l m h v (result_into c o) r.middle r.code r.low aligned_here r.way does

    instruction_follows : (i : InstructionTree) → Stood i → FitsHere i → slice_get (function_at s.unit a.function).code a.at ≡ Some i → FollowsToStop (around s) mark (suc n) m (step (holder s) s.unit (Some i) next a w stack)
    instruction_follows (move x o) stood fits is =
        follows_given s mark (suc n) m (operand (holder s) o a) _ (λ v e.
        gives_follows (move x o) x v _ refl (stands_there (move x o) refl stood) (move_does s a w.memory stack l (m.now.registers 2) m o v (place_of c.places x) amid (operand_of o v (and_right _ _ fits) e) (small_place x _ fits)))
    instruction_follows (unary op x o) stood fits is =
        follows_given s mark (suc n) m (operand (holder s) o a >>= λ v. apply_unary op w.memory v) _ (λ u e.
        let f = followed (operand (holder s) o a) (λ v. apply_unary op w.memory v) u e in
        gives_follows (unary op x o) x u _ refl (stands_there (unary op x o) refl stood) (unary_does s a w.memory stack l (m.now.registers 2) m op o f.value u x amid (operand_of o f.value (and_right _ _ fits) f.first) f.then (small_place x _ fits)))
    instruction_follows (binary op x o p) stood fits is =
        follows_given s mark (suc n) m (operand (holder s) o a >>= λ v. operand (holder s) p a >>= λ y. apply_binary op w.memory v y) _ (λ u e.
        let f = followed (operand (holder s) o a) (λ v. operand (holder s) p a >>= λ y. apply_binary op w.memory v y) u e in
        let g = followed (operand (holder s) p a) (λ y. apply_binary op w.memory f.value y) u f.then in
        let fits_three = and_left _ (operation_fits op) fits in
        let fits_two = and_left _ (operand_fits s.unit (function_at s.unit a.function) p) fits_three in
        gives_follows (binary op x o p) x u _ refl (stands_there (binary op x o p) refl stood) (binary_does s a w.memory stack l (m.now.registers 2) m op o p f.value g.value u x amid (and_right _ _ fits)
        (operand_of o f.value (and_right _ _ fits_two) f.first) (operand_of p g.value (and_right _ _ fits_three) g.first) g.then (small_place x _ fits_two)))
    instruction_follows (convert t x o) stood fits is =
        follows_given s mark (suc n) m (operand (holder s) o a >>= λ v. values.convert t v) _ (λ u e.
        let f = followed (operand (holder s) o a) (λ v. values.convert t v) u e in
        gives_follows (convert t x o) x u _ refl (stands_there (convert t x o) refl stood) (convert_does s a w.memory stack l (m.now.registers 2) m t o f.value u x amid (operand_of o f.value (and_right _ _ fits) f.first) f.then (small_place x _ fits)))
    instruction_follows (address_of x p) stood fits is =
        follows_given s mark (suc n) m (pointer (holder s) p a w.memory >>= λ q. Some (address q)) _ (λ u e.
        let f = followed (pointer (holder s) p a w.memory) (λ q. Some (address q)) u e in
        subst (λ (z : Value). FollowsToStop (around s) mark (suc n) m (next (onward (written (holder s) x z a)) w stack)) (some_same _ u f.then)
        (gives_follows (address_of x p) x (address f.value) _ refl (stands_there (address_of x p) refl stood) (address_of_does s a w.memory stack l (m.now.registers 2) m p f.value x amid (and_right _ _ fits) f.first (small_place x _ fits))))
    instruction_follows (load t x p) stood fits is =
        follows_given s mark (suc n) m (pointer (holder s) p a w.memory >>= λ q. memory.load t w.memory q) _ (λ u e.
        let f = followed (pointer (holder s) p a w.memory) (λ q. memory.load t w.memory q) u e in
        gives_follows (load t x p) x u _ refl (stands_there (load t x p) refl stood) (load_place_does s a w.memory stack l (m.now.registers 2) m t p f.value u x amid (and_right _ _ fits) f.first f.then (small_place x _ fits)))
    instruction_follows (store t p o) stood fits is =
        follows_given s mark (suc n) m (pointer (holder s) p a w.memory >>= λ q. operand (holder s) o a >>= λ v. memory.store t w.memory q v) _ (λ later e.
        let f = followed (pointer (holder s) p a w.memory) (λ q. operand (holder s) o a >>= λ v. memory.store t w.memory q v) later e in
        let g = followed (operand (holder s) o a) (λ v. memory.store t w.memory f.value v) later f.then in
        straight_follows (store t p o) a later _ refl refl (stands_there (store t p o) refl stood) (store_place_does s a w.memory stack l (m.now.registers 2) m t p o f.value g.value later amid (and_left _ _ fits) f.first (operand_of o g.value (and_right _ _ fits) g.first) g.then))
    instruction_follows (copy size alignment p q) stood fits is =
        follows_given s mark (suc n) m (pointer (holder s) p a w.memory >>= λ to. pointer (holder s) q a w.memory >>= λ from. memory.copy size alignment w.memory to from) _ (λ later e.
        let f = followed (pointer (holder s) p a w.memory) (λ to. pointer (holder s) q a w.memory >>= λ from. memory.copy size alignment w.memory to from) later e in
        let g = followed (pointer (holder s) q a w.memory) (λ from. memory.copy size alignment w.memory f.value from) later f.then in
        straight_follows (copy size alignment p q) a later _ refl refl (stands_there (copy size alignment p q) refl stood) (copy_object_does s a w.memory stack l (m.now.registers 2) m size alignment p q f.value g.value later amid (and_right _ _ (and_left _ (address_fits s.unit (function_at s.unit a.function) q) fits)) (and_right _ _ fits) f.first g.first g.then))
    instruction_follows (fill blank p) stood fits is =
        follows_given s mark (suc n) m (pointer (holder s) p a w.memory >>= λ q. memory.fill blank w.memory q) _ (λ later e.
        let f = followed (pointer (holder s) p a w.memory) (λ q. memory.fill blank w.memory q) later e in
        straight_follows (fill blank p) a later _ refl refl (stands_there (fill blank p) refl stood) (fill_object_does s a w.memory stack l (m.now.registers 2) m blank p f.value later amid (and_right _ _ fits) f.first f.then))
    instruction_follows (call x f os) stood fits is =
        follows_given s mark (suc n) m (operands (holder s) os a) _ (λ vs e.
        let fits_two = and_left _ (list_all (operand_fits s.unit (function_at s.unit a.function)) os) fits in
        invoke_follows x f os vs is (passed_there (function_at s.unit a.function).code a.at x f os is) (and_right _ _ fits_two) (and_right _ _ fits) (and_left _ _ fits_two) e (stands_there (call x f os) refl stood))
    instruction_follows (jump to) stood fits is =
        let lt : to < length (function_at s.unit a.function).code = grind (arith, nat_tests, fits) in
        goes_on a (going_to to a) w w stack l m h (jump_follows s a w stack l m to h (let next_low = low_next in let up = (stands_there (jump to) refl stood).1 in omega (arith, next_low, up)) (has.place_low to (omega (arith, lt))) (has.place_aligned to (omega (arith, lt))) (stands_there (jump to) refl stood).0)
    instruction_follows (branch condition to) stood fits is =
        follows_given s mark (suc n) m (holds (holder s) condition a w.memory) _ (λ answer e.
        let t : nat_lt to (length (function_at s.unit a.function).code) ≡ true = and_right (condition_fits s.unit (function_at s.unit a.function) condition) (nat_lt to (length (function_at s.unit a.function).code)) fits in
        let lt : to < length (function_at s.unit a.function).code = grind (arith, nat_tests, t) in
        goes_on a (going_to (if answer then to else (a.at + 1)) a) w w stack l m h
        (branch_follows s a w stack l m h to low_next (has.place_low to (omega (arith, lt))) aligned_here (has.place_aligned to (omega (arith, lt))) (has.place_aligned (a.at + 1) inside) condition answer (and_left (condition_fits s.unit (function_at s.unit a.function) condition) (nat_lt to (length (function_at s.unit a.function).code)) fits) e (stands_there (branch condition to) refl stood)))
    instruction_follows (return None) stood fits is =
        ends_follows a w stack l m h None (left_there None None is stood (does_none s m _ (amid, tt))) stack refl
    instruction_follows (return (Some o)) stood fits is =
        follows_given s mark (suc n) m (operand (holder s) o a) _ (λ v e.
        ends_follows a w stack l m h (Some v) (left_there (Some o) (Some v) is stood
        (does_is s m _ _ _ (into_does s a w.memory stack l (m.now.registers 2) m 10 o v (argument_scratch 10 (omega arith) (omega arith)) amid fits e) (λ m1 x2 k. (k.amid, subst (λ (z : ℕ). StandsFor w.memory l.address_of v z) (sym k.got) k.stands)))) stack refl)

  -- a step
  pub step_follows : (a : Activation File) (w : World) (stack : List (Waiting File)) (l : Lay) (m : Watched) → StandsAt s a w stack l m → FollowsToStop (around s) mark (suc n) m (step (holder s) s.unit (linear_at s.unit a) next a w stack)
  step_follows a w stack l m h = by (slice_get (function_at s.unit a.function).code a.at) refl
    where
      known : linear_at s.unit a ≡ slice_get (function_at s.unit a.function).code a.at
      known = ap (λ (o : Option TacFunctionTree). o >>= λ f. slice_get f.code a.at) (function_there s a.function h.related.known)

      by : (o : Option InstructionTree) → slice_get (function_at s.unit a.function).code a.at ≡ o → FollowsToStop (around s) mark (suc n) m (step (holder s) s.unit (linear_at s.unit a) next a w stack)
      by None e = subst (λ (o : Option InstructionTree). FollowsToStop (around s) mark (suc n) m (step (holder s) s.unit o next a w stack)) (sym (known ∙ e)) (follows_undefined s mark (suc n) m)
      by (Some i) e =
          let has = has_function s a.function h.related.known in
          let lt = slice_get_within (function_at s.unit a.function).code a.at i e in
          subst (λ (o : Option InstructionTree). FollowsToStop (around s) mark (suc n) m (step (holder s) s.unit o next a w stack)) (sym (known ∙ e))
          (instruction_follows a w stack l m h has (omega (arith, lt)) i (has.stands a.at i e) (instruction_fits_there s a.function a.at i h.related.known e) e)

-- the run goes on as the machine does, until it stops
pub follows : (s : Setup) (mark : Option Value) (n : ℕ) (a : Activation File) (w : World) (stack : List (Waiting File)) (l : Lay) (m : Watched) → StandsAt s a w stack l m → FollowsToStop (around s) mark n m (stopped_steps (holder s) s.unit mark n a w stack)
follows s mark zero a w stack l m h = follows_stopped s mark m w l h.low h.related.blocks h.input
follows s mark (suc n) a w stack l m h = step_follows s mark n (stopped_steps (holder s) s.unit mark n) (λ b v others k m1 g. follows s mark n b v others k m1 g) a w stack l m h
