-- Runs, step by step.
use Rattle.std.proofs.Common.{◌≡◌, ℕ, suc, ◌+◌, ◌-◌, ◌<◌, List, [], ◌∷◌, ◌++◌, length, Result, Ok, Err, true, false, refl, sym, ◌∙◌, ap, subst, append_assoc, arith}
use Rattle.std.specs.Result.{is_err}
use Rattle.std.specs.Prelude.{slice_index}
use Rattle.std.proofs.lemmas.List.{get_or_at}
use Rattle.std.proofs.Math.Seq.{take-append_seam, take-append-add}
use Rattle.qs_image.specs.Image.{Image}
use Rattle.qs_ports.specs.declared.sink.SinkFault.{SinkFault}
use Rattle.qs_ports.specs.SinkView.{SinkView, Appends, IsCut, PutsAll}
use Rattle.qs_ports.proofs.Sinks.{appends_more, cut_later, cut_sooner}
use Rattle.qs_machine.specs.declared.answers.Cause.{Cause}
use Rattle.qs_machine.specs.declared.answers.End.TheVariants as end
use Rattle.qs_machine.specs.declared.answers.RunEnd.{RunEnd}
use Rattle.qs_machine.specs.declared.answers.RunEnd.TheVariants as run_end
use Rattle.qs_machine.specs.declared.machine.Machine.{Machine}
use Rattle.qs_machine.specs.State.{State}
use Rattle.qs_machine.specs.Step.{StepResult, Next, Exits, Traps, step}
use Rattle.qs_machine.specs.Run.{Outcome, Exited, Trapped, Going, machine, run, start, outcome_after, output_so_far}
use Rattle.qs_machine.specs.Standing.{GoesOn, end_of, ended}
use Rattle.qs_machine.specs.Running.{Reached, HasExited, HasTrapped, IsGoing, IsCutOff, RunsTo, Shows}
use Rattle.qs_machine.proofs.Growth.{IsFront, grows-run}

-- runs, by their first step
pub run_next : (image : Image) (size steps : ℕ) (s t : State) → step image size s ≡ Next t → run image size (suc steps) s ≡ run image size steps t
run_next image size steps s t e = ap (λ (r : StepResult). outcome_after s r (run image size steps)) e

pub run_exits : (image : Image) (size steps : ℕ) (s : State) (status : ℕ) → step image size s ≡ Exits status → run image size (suc steps) s ≡ Exited s.output status
run_exits image size steps s status e = ap (λ (r : StepResult). outcome_after s r (run image size steps)) e

pub run_traps : (image : Image) (size steps : ℕ) (s : State) (cause : Cause) → step image size s ≡ Traps cause → run image size (suc steps) s ≡ Trapped cause s.pc s.output
run_traps image size steps s cause e = ap (λ (r : StepResult). outcome_after s r (run image size steps)) e

-- so many steps were taken from the state `s`, and what they put was appended to the sink
pub record HasGone (n : Machine) (image : Image) (size : ℕ) (input : List ℕ) (s : State) (steps : ℕ) (v w : SinkView) : Type 0 where
  pub next : State
  pub reached : Reached n image size input s steps next
  pub bytes : List ℕ
  pub puts : next.output ≡ s.output ++ bytes
  pub appended : Appends v w bytes

reached_next : (m n : Machine) (image : Image) (size : ℕ) (input : List ℕ) (s t : State) (steps : ℕ) (bytes : List ℕ) → Reached m image size input s steps t → (g : GoesOn n image size input t bytes) → Reached n image size input s (steps + 1) g.next
reached_next m n image size input s t steps bytes r g = record {
  stands = g.stands;
  ahead = λ more.
      let e : steps + 1 + more ≡ steps + suc more = omega arith in
      ap (λ (k : ℕ). run image size k s) e ∙ r.ahead (suc more) ∙ run_next image size more t g.next g.step_is;
}

-- a step that puts these bytes, which were appended to the sink
pub goes_further : (m n : Machine) (image : Image) (size : ℕ) (input : List ℕ) (s : State) (steps : ℕ) (u v w : SinkView) (bytes : List ℕ) (h : HasGone m image size input s steps u v) → GoesOn n image size input h.next bytes → Appends v w bytes → HasGone n image size input s (steps + 1) u w
goes_further m n image size input s steps u v w bytes h g a = record {
  next = g.next;
  reached = reached_next m n image size input s h.next steps bytes h.reached g;
  bytes = h.bytes ++ bytes;
  puts = g.puts ∙ ap (λ (l : List ℕ). l ++ bytes) h.puts ∙ append_assoc s.output h.bytes bytes;
  appended = appends_more h.appended a;
}

-- the run of all steps, from where the machine stands
from_here : (m : Machine) (image : Image) (size : ℕ) (input : List ℕ) (s t : State) (taken steps : ℕ) → taken < steps → Reached m image size input s taken t → run image size steps s ≡ run image size (suc (steps - taken - 1)) t
from_here m image size input s t taken steps lt r =
    let e : steps ≡ taken + suc (steps - taken - 1) = omega arith in
    ap (λ (k : ℕ). run image size k s) e ∙ r.ahead (suc (steps - taken - 1))

pub exits : (m n : Machine) (image : Image) (size : ℕ) (input : List ℕ) (s : State) (taken steps : ℕ) (v w : SinkView) (status : ℕ) (h : HasGone m image size input s taken v w) → taken < steps → step image size h.next ≡ Exits status → n ≡ ended m (end.Exited status) → HasExited n image size s steps v w status
exits m n image size input s taken steps v w status h lt e is = record {
  bytes = h.bytes;
  run_is = from_here m image size input s h.next taken steps lt h.reached ∙ run_exits image size _ h.next status e ∙ ap (λ (l : List ℕ). Exited l status) h.puts;
  appended = h.appended;
  end_is = ap end_of is;
}

pub traps : (m n : Machine) (image : Image) (size : ℕ) (input : List ℕ) (s : State) (taken steps : ℕ) (v w : SinkView) (cause : Cause) (pc : ℕ) (h : HasGone m image size input s taken v w) → taken < steps → step image size h.next ≡ Traps cause → pc ≡ h.next.pc → n ≡ ended m (end.Trapped cause pc) → HasTrapped n image size s steps v w cause pc
traps m n image size input s taken steps v w cause pc h lt e at is = record {
  bytes = h.bytes;
  run_is = from_here m image size input s h.next taken steps lt h.reached ∙ run_traps image size _ h.next cause e ∙ ap (λ (k : ℕ). Trapped cause k h.next.output) (sym at) ∙ ap (λ (l : List ℕ). Trapped cause pc l) h.puts;
  appended = h.appended;
  end_is = ap end_of is;
}

pub stays : (n : Machine) (image : Image) (size : ℕ) (input : List ℕ) (s : State) (steps : ℕ) (v w : SinkView) → HasGone n image size input s steps v w → IsGoing n image size input s steps v w
stays n image size input s steps v w h = record {
  bytes = h.bytes;
  run_is =
      let e : steps ≡ steps + 0 = omega arith in
      ap (λ (k : ℕ). run image size k s) e ∙ h.reached.ahead 0 ∙ ap (λ (l : List ℕ). Going l) h.puts;
  appended = h.appended;
  next = h.next;
  reached = h.reached;
}

-- the sink failed at a byte, which it did not take
cut_at : (u v w : SinkView) (a rest : List ℕ) (byte : ℕ) (fault : SinkFault) → Appends u v a → PutsAll v w (byte ∷ []) (Err fault) → IsCut u w (a ++ byte ∷ rest) (length a)
cut_at u v w a rest byte fault f (k, c) =
    let none : length a + k ≡ length a = let l = c.within in omega arith in
    let P : ℕ → Type 0 = λ k. IsCut u w (a ++ byte ∷ rest) k in
    subst P none (cut_later f (cut_sooner rest c))

three_parts : (before a rest : List ℕ) (byte : ℕ) → ((before ++ a) ++ byte ∷ []) ++ rest ≡ before ++ (a ++ byte ∷ rest)
three_parts before a rest byte = append_assoc (before ++ a) (byte ∷ []) rest ∙ append_assoc before a (byte ∷ rest)

pub cut_off : (m n : Machine) (image : Image) (size : ℕ) (input : List ℕ) (s : State) (taken steps : ℕ) (u v w : SinkView) (byte : ℕ) (fault : SinkFault) (h : HasGone m image size input s taken u v) → taken < steps → GoesOn n image size input h.next (byte ∷ []) → PutsAll v w (byte ∷ []) (Err fault) → IsCutOff n image size input s steps u w
cut_off m n image size input s taken steps u v w byte fault h lt g p =
    let reached = reached_next m n image size input s h.next taken (byte ∷ []) h.reached g in
    let e : steps ≡ taken + 1 + (steps - taken - 1) = omega arith in
    let front : IsFront g.next.output (output_so_far (run image size (steps - taken - 1) g.next)) = grows-run image size (steps - taken - 1) g.next in
    let run_is : run image size steps s ≡ run image size (steps - taken - 1) g.next = ap (λ (k : ℕ). run image size k s) e ∙ reached.ahead (steps - taken - 1) in
    let bytes = h.bytes ++ byte ∷ front.rest in
    let byte_is : slice_index bytes (length h.bytes) ≡ byte = get_or_at h.bytes byte front.rest 0 (length h.bytes) refl in
    let output_is : g.next.output ≡ (s.output ++ h.bytes) ++ byte ∷ [] = g.puts ∙ ap (λ (l : List ℕ). l ++ byte ∷ []) h.puts in
    record {
      bytes = bytes;
      puts = ap (λ (o : Outcome). output_so_far o) run_is ∙ front.parts ∙ ap (λ (l : List ℕ). l ++ front.rest) output_is ∙ three_parts s.output h.bytes front.rest byte;
      k = length h.bytes;
      cut = cut_at u v w h.bytes front.rest byte fault h.appended p;
      before = taken;
      within = lt;
      last = h.next;
      leads = h.reached.ahead;
      taken_is = h.puts ∙ ap (λ (l : List ℕ). s.output ++ l) (sym (take-append_seam h.bytes (byte ∷ front.rest)));
      put = record {
        next = g.next;
        step_is = g.step_is;
        puts = g.puts ∙ ap (λ (b : ℕ). h.next.output ++ b ∷ []) (sym byte_is);
        stands = g.stands;
      };
      reached = reached;
      output_is = output_is ∙ append_assoc s.output h.bytes (byte ∷ []) ∙ ap (λ (l : List ℕ). s.output ++ l) (sym (take-append-add h.bytes (byte ∷ front.rest) 1));
    }

pub put_failed : (m n : Machine) (image : Image) (size : ℕ) (input : List ℕ) (s : State) (taken steps : ℕ) (u v w : SinkView) (byte : ℕ) (r : Result Unit SinkFault) (h : HasGone m image size input s taken u v) → taken < steps → GoesOn n image size input h.next (byte ∷ []) → is_err r ≡ true → PutsAll v w (byte ∷ []) r → IsCutOff n image size input s steps u w
put_failed m n image size input s taken steps u v w byte (Ok t) h lt g e p = absurd cc
put_failed m n image size input s taken steps u v w byte (Err fault) h lt g e p = cut_off m n image size input s taken steps u v w byte fault h lt g p

pub put_whole : (v w : SinkView) (text : List ℕ) (r : Result Unit SinkFault) → is_err r ≡ false → PutsAll v w text r → Appends v w text
put_whole v w text (Ok t) e p = p
put_whole v w text (Err fault) e p = absurd cc

-- the outcome of a machine that was just loaded is that of the definition
pub shows_machine : (n : Machine) (image : Image) (size : ℕ) (args input : List ℕ) (steps : ℕ) (v w : SinkView) (r : RunEnd) → RunsTo n image size input (start image args input) steps v w r → Shows (machine image size args input steps) v w r
shows_machine n image size args input steps v w (run_end.Exited status) h = rw h.run_is (refl, h.appended)
shows_machine n image size args input steps v w (run_end.Trapped cause pc) h = rw h.run_is (refl, h.appended)
shows_machine n image size args input steps v w run_end.StepLimit h = rw h.run_is (refl, h.appended)
shows_machine n image size args input steps v w run_end.SinkFailed h = (h.k, rw h.puts h.cut)
