-- Each run of a unit is one of the unit whose jumps are threaded: within some steps it does the same, neither less nor more.
use Rattle.std.proofs.Common.{◌≡◌, ℕ, zero, suc, ◌+◌, inl, inr, Bool, true, false, if◌then◌else◌, List, [], length, Option, Some, None, refl, sym, ap, ◌∙◌}
use Rattle.std.specs.List.{slice_get}
use Rattle.qs_memory.specs.Values.{Value}
use Rattle.qs_events.specs.Runs.{given}
use Rattle.qs_calls.specs.World.{World, leaves}
use Rattle.qs_tac.specs.Trees.{InstructionTree, jump, branch, TacUnitTree}
use Rattle.qs_tac.specs.declared.operands.Condition.{Condition}
use Rattle.qs_tac.specs.Holders.{Holder}
use Rattle.qs_tac.specs.Values.{Activation, holds}
use Rattle.qs_tac.specs.Steps.{Waiting, going_to, step, steps}
use Rattle.qs_tac.specs.Units.{run}
use Rattle.qs_tac.proofs.RelationLaws.{enters_related, step_related}
use Rattle.qs_lower_expressions.specs.Threads.{leads_to}
use Rattle.qs_lower_expressions.proofs.ThreadLaws.{target, stays, goes_on, code_of, frames_kept, IsPlain, Kind, kind_of, v, here, there, ahead, at_step}
use Rattle.qs_lower.proofs.OnceLaws.{once_enters, once_step}
use Rattle.qs_lower.proofs.StmtReal.{Equal, equal_keeps}

module _ {S : Type 0} (h : Holder S) (u : TacUnitTree) where
  -- as many steps of the unit are some of the threaded one, behind any number of the jumps that stand here
  record Same (m n : ℕ) (a : Activation S) (w : World) (stack : List (Waiting S)) : Type 0 where
    steps_there : ℕ
    same : steps h (v h u) steps_there (ahead h u n a) w stack ≡ steps h u m a w stack

  abbrev AllSame : ℕ → Type 0
  AllSame m = (n : ℕ) (a : Activation S) (w : World) (stack : List (Waiting S)) → Same m n a w stack

  -- a step on the unit is one on the threaded unit
  step_same : (m : ℕ) (o : Option InstructionTree) (a : Activation S) (w : World) (stack : List (Waiting S)) → step h u o (steps h u m) a w stack ≡ step h (v h u) o (steps h u m) a w stack
  step_same m o a w stack = step_related Equal equal_keeps (λ result w. refl) h u (v h u) (frames_kept u) (steps h u m) (steps h u m) (λ a w stack. refl) o a w stack

  same_plain :
      (m : ℕ) → AllSame m → (n : ℕ) (a : Activation S) (w : World) (stack : List (Waiting S)) (o : Option InstructionTree)
      → slice_get (code_of u a.function) a.at ≡ o → IsPlain o → Same (suc m) n a w stack
  same_plain m ih n a w stack o is plain =
      let once = once_step h (v h u) o a w stack in
      let next = ih 0 once.at.activation once.at.world once.at.stack in
      record {
        steps_there = suc next.steps_there;
        same =
            ap (λ k. steps h (v h u) (suc next.steps_there) (going_to k a) w stack) (stays (code_of u a.function) n a.at (ap leads_to is ∙ plain.0))
            ∙ at_step h u (v h u) next.steps_there a w stack o (there h u a o is ∙ plain.1 (target (code_of u a.function)))
            ∙ once.same (steps h (v h u) next.steps_there) (steps h u m) next.same
            ∙ sym (step_same m o a w stack)
            ∙ sym (at_step h u u m a w stack o (here h u a o is));
      }

  same_jump :
      (m : ℕ) → AllSame m → (n : ℕ) (a : Activation S) (w : World) (stack : List (Waiting S)) (to : ℕ)
      → slice_get (code_of u a.function) a.at ≡ Some (jump to) → Same (suc m) n a w stack
  same_jump m ih zero a w stack to is =
      let next = ih (length (code_of u a.function)) (going_to to a) w stack in
      record {
        steps_there = suc next.steps_there;
        same =
            at_step h u (v h u) next.steps_there a w stack (Some (jump (target (code_of u a.function) to))) (there h u a _ is)
            ∙ next.same
            ∙ sym (at_step h u u m a w stack (Some (jump to)) (here h u a _ is));
      }
  same_jump m ih (suc n) a w stack to is =
      let next = ih n (going_to to a) w stack in
      record {
        steps_there = next.steps_there;
        same =
            ap (λ k. steps h (v h u) next.steps_there (going_to k a) w stack) (goes_on (code_of u a.function) n a.at to (ap leads_to is))
            ∙ next.same
            ∙ sym (at_step h u u m a w stack (Some (jump to)) (here h u a _ is));
      }

  same_branch :
      (m : ℕ) → AllSame m → (n : ℕ) (a : Activation S) (w : World) (stack : List (Waiting S)) (c : Condition) (to : ℕ)
      → slice_get (code_of u a.function) a.at ≡ Some (branch c to) → Same (suc m) n a w stack
  same_branch m ih n a w stack c to is =
      let answered = by_answer (holds h c a w.memory) in
      record {
        steps_there = suc answered.0;
        same =
            ap (λ k. steps h (v h u) (suc answered.0) (going_to k a) w stack) (stays (code_of u a.function) n a.at (ap leads_to is))
            ∙ at_step h u (v h u) answered.0 a w stack (Some (branch c (target (code_of u a.function) to))) (there h u a _ is)
            ∙ answered.1
            ∙ sym (at_step h u u m a w stack (Some (branch c to)) (here h u a _ is));
      }
    where
      by_answer :
          (o : Option Bool)
          → (k : ℕ)
          × (given o (λ yes. steps h (v h u) k (going_to (if yes then target (code_of u a.function) to else (a.at + 1)) a) w stack)
          ≡ given o (λ yes. steps h u m (going_to (if yes then to else (a.at + 1)) a) w stack))
      by_answer None = (0, refl)
      by_answer (Some true) = let next = ih (length (code_of u a.function)) (going_to to a) w stack in (next.steps_there, next.same)
      by_answer (Some false) = let next = ih 0 (going_to (a.at + 1) a) w stack in (next.steps_there, next.same)

  same_kind :
      (m : ℕ) → AllSame m → (n : ℕ) (a : Activation S) (w : World) (stack : List (Waiting S)) (o : Option InstructionTree)
      → slice_get (code_of u a.function) a.at ≡ o → Kind o → Same (suc m) n a w stack
  same_kind m ih n a w stack o is (inl plain) = same_plain m ih n a w stack o is plain
  same_kind m ih n a w stack o is (inr (inl (to, jumps))) = same_jump m ih n a w stack to (is ∙ jumps)
  same_kind m ih n a w stack o is (inr (inr (c, to, branches))) = same_branch m ih n a w stack c to (is ∙ branches)

  all_same : (m : ℕ) → AllSame m
  all_same zero n a w stack = record { steps_there = 0; same = refl }
  all_same (suc m) n a w stack = same_kind m (all_same m) n a w stack _ refl (kind_of (slice_get (code_of u a.function) a.at))

  pub run_exact : (root : ℕ) (arguments : List Value) (w : World) (m : ℕ) → (k : ℕ) × (run h (v h u) root arguments w k ≡ run h u root arguments w m)
  run_exact root arguments w zero = (0, refl)
  run_exact root arguments w (suc m) =
      let once = once_enters (record { activation = nowhere; world = w; stack = [] }) h (v h u) [] root arguments (λ k. leaves) w in
      let next = all_same m 0 once.at.activation once.at.world once.at.stack in (
        suc next.steps_there,
        once.same (steps h (v h u) next.steps_there) (steps h u m) next.same
            ∙ sym (enters_related Equal equal_keeps (λ result w. refl) h u (v h u) (frames_kept u) (steps h u m) (steps h u m) (λ a w stack. refl) [] root arguments leaves leaves (λ result w. refl) w),
      )
    where
      nowhere : Activation S
      nowhere = record { function = root; at = 0; first_block = 0; held = h.enter root (λ x. None) }
