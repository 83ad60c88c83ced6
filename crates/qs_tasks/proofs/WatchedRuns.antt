-- The machine as it is watched: one instruction more at the end, less at the front, and others only as far as they were met.
use Rattle.std.proofs.Common.{◌≡◌, ℕ, zero, suc, ◌+◌, ◌-◌, ◌≤◌, ◌<◌, Bool, true, List, [], ◌++◌, Option, Some, None, refl, sym, ap, ◌∙◌, subst, arith, append_assoc}
use Rattle.std.specs.Prelude.{min, if◌then◌else◌, nat_lt, not, ◌&&◌}
use Rattle.std.proofs.lemmas.List.{append-nil}
use Rattle.std.proofs.Math.Path.{fun_ext}
use Rattle.qs_memory.specs.Partial.{◌>>=◌}
use Rattle.qs_isa.specs.declared.instruction.Instr.{Instr}
use Rattle.qs_isa.specs.declared.instruction.Instr.TheVariants as instructions
use Rattle.qs_isa.specs.Table.{decode_of}
use Rattle.qs_image.specs.Image.{Image}
use Rattle.qs_machine.specs.State.{State, stack_pointer}
use Rattle.qs_machine.specs.Step.{StepResult, Next, Exits, Traps, act, act_on, fetch, step_on, step}
use Rattle.qs_machine.proofs.Growth.{IsFront, Grows, grows-step}
use Rattle.qs_emit.specs.Machine.{instruction_at, Room, Watched, Sight, goes, exits, traps, breaks, only, keeps_to, is_set, stirred_byte, stirred, then_goes, watch_on, watch, after, watched}
use Rattle.qs_emit.specs.Laws.{IsStep}
use Rattle.qs_emit.proofs.WatchLaws.{watching_steps}

pub goes_same : (v w : Watched) → goes v ≡ goes w → v ≡ w
goes_same v w e = cc

-- ---- one more at the end

after_goes : (x : Sight) → after x goes ≡ x
after_goes (goes w) = refl
after_goes (exits output status low) = refl
after_goes (traps cause pc output) = refl
after_goes breaks = refl

more_after : (image : Image) (r : Room) (n : ℕ) → ((v : Watched) → watched image r (suc n) v ≡ after (watched image r n v) (watch image r)) → (x : Sight) → after x (watched image r (suc n)) ≡ after (after x (watched image r n)) (watch image r)
more_after image r n more (goes v) = more v
more_after image r n more (exits output status low) = refl
more_after image r n more (traps cause pc output) = refl
more_after image r n more breaks = refl

pub watched_more : (image : Image) (r : Room) (n : ℕ) (w : Watched) → watched image r (suc n) w ≡ after (watched image r n w) (watch image r)
watched_more image r zero w = after_goes (watch image r w)
watched_more image r (suc n) w = more_after image r n (λ v. watched_more image r n v) (watch image r w)

-- ---- one instruction

-- the state that is watched behind a step
abbrev pub behind_step : Room → Watched → State → Watched
behind_step r w next = record { now = stirred r w.time next; low = min w.low (stack_pointer next); time = w.time + 1 }

-- what an instruction gives is what the step gives
acted : (image : Image) (size : ℕ) (s : State) (i : Instr) (o : Option ℕ) → (o >>= decode_of) ≡ Some i → step_on image size s o ≡ act image size s i
acted image size s i None is = cc
acted image size s i (Some word) is = ap (act_on image size s) is

-- where such a step is taken, it is watched
pub steps_watch : (image : Image) (r : Room) (w : Watched) (i : Instr) (next : State) → instruction_at image w.now.pc ≡ Some i → keeps_to r w.now i ≡ true → step image r.size w.now ≡ Next next → is_set r next ≡ true → watch image r w ≡ goes (behind_step r w next)
steps_watch image r w i next is k t q =
    ap (watch_on image r w) is
    ∙ ap (λ (b : Bool). only b (then_goes r w (act image r.size w.now i))) k
    ∙ ap (then_goes r w) (sym (acted image r.size w.now i (fetch image w.now.pc) is) ∙ t)
    ∙ ap (λ (b : Bool). only b (goes (behind_step r w next))) q

pub watched_step : (image : Image) (r : Room) (w to : Watched) → watch image r w ≡ goes to → IsStep image r w to
watched_step image r w to e = watching_steps image r w to e

-- ---- others, only as far as they were met

abbrev pub with_others : Room → (ℕ → (ℕ → ℕ) → ℕ → ℕ) → Room
with_others r o = record r { others = o }

module _ (image : Image) (r : Room) (o : ℕ → (ℕ → ℕ) → ℕ → ℕ) where
  stirred_alike : (time : ℕ) (s : State) → r.others time ≡ o time → stirred r time s ≡ stirred (with_others r o) time s
  unfolding stirred_byte
  stirred_alike time s e = ap (λ (m : ℕ → ℕ). record s { memory = m }) (fun_ext (λ address. ap (λ (f : (ℕ → ℕ) → ℕ → ℕ). if nat_lt address (stack_pointer s) && not (r.is_kept address) then f s.memory address else s.memory address) e))

  then_alike : (w : Watched) (x : StepResult) → r.others w.time ≡ o w.time → then_goes r w x ≡ then_goes (with_others r o) w x
  then_alike w (Next s) e = ap (λ (t : State). only (is_set r s) (goes (record { now = t; low = min w.low (stack_pointer s); time = w.time + 1 }))) (stirred_alike w.time s e)
  then_alike w (Exits status) e = refl
  then_alike w (Traps cause) e = refl

  -- the rules don't speak of others
  pub same_room : (s : State) (i : Instr) → keeps_to r s i ≡ keeps_to (with_others r o) s i
  same_room s (instructions.Lui d immediate) = refl
  same_room s (instructions.Auipc d immediate) = refl
  same_room s (instructions.Jal d offset) = refl
  same_room s (instructions.Jalr d a offset) = refl
  same_room s (instructions.Branch kind a b offset) = refl
  same_room s (instructions.Load kind d a offset) = refl
  same_room s (instructions.Store kind a b offset) = refl
  same_room s (instructions.OpImm kind d a immediate) = refl
  same_room s (instructions.ShiftImm kind d a amount) = refl
  same_room s (instructions.Op kind d a b) = refl
  same_room s instructions.Fence = refl
  same_room s instructions.Ecall = refl
  same_room s instructions.Ebreak = refl

  watch_alike_on : (w : Watched) (i : Option Instr) → r.others w.time ≡ o w.time → watch_on image r w i ≡ watch_on image (with_others r o) w i
  watch_alike_on w None e = refl
  watch_alike_on w (Some i) e =
      ap (λ (b : Bool). only b (then_goes r w (act image r.size w.now i))) (same_room w.now i)
      ∙ ap (only (keeps_to (with_others r o) w.now i)) (then_alike w (act image r.size w.now i) e)

  watch_alike : (w : Watched) → r.others w.time ≡ o w.time → watch image r w ≡ watch image (with_others r o) w
  watch_alike w e = watch_alike_on w (instruction_at image w.now.pc) e

  abbrev AreAlike : (n : ℕ) → Type 0
  AreAlike n = (w : Watched) → ((time : ℕ) → time < w.time + n → r.others time ≡ o time) → watched image r n w ≡ watched image (with_others r o) n w

  alike_after : (n : ℕ) → AreAlike n → (w : Watched) → ((time : ℕ) → time < w.time + suc n → r.others time ≡ o time) → (x : Sight) → watch image (with_others r o) w ≡ x → after x (watched image r n) ≡ after x (watched image (with_others r o) n)
  alike_after n more w same (goes v) e =
      let t : v.time ≡ w.time + 1 = (watched_step image (with_others r o) w v e).time in
      more v (λ time lt. same time (omega (arith, lt, t)))
  alike_after n more w same (exits output status low) e = refl
  alike_after n more w same (traps cause pc output) e = refl
  alike_after n more w same breaks e = refl

  pub watched_alike : (n : ℕ) → AreAlike n
  watched_alike zero w same = refl
  watched_alike (suc n) w same =
      ap (λ (x : Sight). after x (watched image r n)) (watch_alike w (same w.time (omega arith)))
      ∙ alike_after n (watched_alike n) w same (watch image (with_others r o) w) refl

-- ---- the states on the way

-- it comes by a state to another
pub record Comes (image : Image) (r : Room) (w : Watched) (first rest : ℕ) (to : Watched) : Type 0 where
  pub amid : Watched
  pub comes : watched image r first w ≡ goes amid
  pub goes_on : watched image r rest amid ≡ goes to

module _ (image : Image) (r : Room) where
  abbrev Splits : (first rest : ℕ) → Type 0
  Splits first rest = (w to : Watched) → watched image r (first + rest) w ≡ goes to → Comes image r w first rest to

  split_after : (first rest : ℕ) → Splits first rest → (w to : Watched) (x : Sight) → watch image r w ≡ x → after x (watched image r (first + rest)) ≡ goes to → Comes image r w (suc first) rest to
  split_after first rest more w to (goes v) q e = let c = more v to e in record { amid = c.amid; comes = ap (λ (y : Sight). after y (watched image r first)) q ∙ c.comes; goes_on = c.goes_on }
  split_after first rest more w to (exits output status low) q e = cc
  split_after first rest more w to (traps cause pc output) q e = cc
  split_after first rest more w to breaks q e = cc

  pub splits : (first rest : ℕ) → Splits first rest
  splits zero rest w to e = record { amid = w; comes = refl; goes_on = subst (λ (n : ℕ). watched image r n w ≡ goes to) (omega arith) e }
  splits (suc first) rest w to e =
      let same : suc first + rest ≡ suc (first + rest) = omega arith in
      let f : watched image r (suc (first + rest)) w ≡ goes to = subst (λ (n : ℕ). watched image r n w ≡ goes to) same e in
      split_after first rest (splits first rest) w to (watch image r w) refl f

  pub split_at : (first n : ℕ) (w to : Watched) → first ≤ n → watched image r n w ≡ goes to → (rest : ℕ) × (first + rest ≡ n) × Comes image r w first rest to
  split_at first n w to le e =
      let rest = n - first in
      let q : first + rest ≡ n = omega (arith, le) in
      (rest, q, splits first rest w to (subst (λ (n : ℕ). watched image r n w ≡ goes to) (sym q) e))

  -- what only grows, and what only falls
  pub record Onward (w to : Watched) : Type 0 where
    pub more : List ℕ
    pub puts : to.now.output ≡ w.now.output ++ more
    pub low : to.low ≤ w.low
    pub x2 : w.low ≤ stack_pointer w.now → to.low ≤ stack_pointer to.now

  puts_front : (s : State) (x : StepResult) (next : State) → Grows s x → x ≡ Next next → IsFront s.output next.output
  puts_front s (Next t) next f e = let same : t ≡ next = cc in subst (λ (u : State). IsFront s.output u.output) same f
  puts_front s (Exits status) next f e = cc
  puts_front s (Traps cause) next f e = cc

  on_after : (n : ℕ) → ((w to : Watched) → watched image r n w ≡ goes to → Onward w to) → (w to : Watched) (x : Sight) → watch image r w ≡ x → after x (watched image r n) ≡ goes to → Onward w to
  on_after n more w to (goes v) q e =
      let s = watched_step image r w v q in
      let f = more v to e in
      let p = puts_front w.now (step image r.size w.now) s.next (grows-step image r.size w.now) s.steps in
      let low_is = s.low in
      let sp_is : stack_pointer v.now ≡ stack_pointer s.next = ap stack_pointer s.stirs in
      let out_is : v.now.output ≡ s.next.output = ap (λ (u : State). u.output) s.stirs in
      let low = f.low in
      record {
        more = p.rest ++ f.more;
        puts = f.puts ∙ ap (λ (o : List ℕ). o ++ f.more) (out_is ∙ p.parts) ∙ append_assoc w.now.output p.rest f.more;
        low = omega (arith, low, low_is);
        x2 = λ le. f.x2 (omega (arith, low_is, sp_is));
      }
  on_after n more w to (exits output status low) q e = cc
  on_after n more w to (traps cause pc output) q e = cc
  on_after n more w to breaks q e = cc

  pub onward : (n : ℕ) (w to : Watched) → watched image r n w ≡ goes to → Onward w to
  onward zero w to e =
      let same = goes_same w to e in
      let l = ap (λ (u : Watched). u.low) same in
      record {
        more = [];
        puts = ap (λ (u : Watched). u.now.output) (sym same) ∙ sym (append-nil w.now.output);
        low = omega (arith, l);
        x2 = λ le. subst (λ (u : Watched). u.low ≤ stack_pointer u.now) same le;
      }
  onward (suc n) w to e = on_after n (onward n) w to (watch image r w) refl e
