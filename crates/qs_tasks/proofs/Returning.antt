-- An activation returns: what it interrupted goes on, or one that waited begins.
use Rattle.std.proofs.Common.{◌≡◌, ⊎_elim, ℕ, suc, ◌+◌, ◌%◌, ◌<◌, Bool, true, false, List, [], ◌∷◌, length, Option, Some, None, refl, sym, ap, ◌∙◌, subst, arith}
use Rattle.std.specs.Prelude.{nat_lt, ◌==◌, if◌then◌else◌}
use Rattle.std.proofs.lemmas.Bool.{cases_eq}
use Rattle.std.proofs.lemmas.Bool.Decides.{nat_tests}
use Rattle.qs_tasks_run.specs.Contexts.{Context, stack_pointer_of, taken_back}
use Rattle.qs_tasks_run.specs.TasksRun.{priority_of, Progress, Scene, going, begin, comes_first, Choice, chosen_among, choice, start_waiting, one_more, with_return, left_by, is_off_stack, give_back, return_from, bytes_by, seen_by}
use Rattle.qs_tasks.specs.Alone.{Program, Alone}
use Rattle.qs_tasks.specs.Safe.{one_of, arrivals_of}
use Rattle.qs_tasks.proofs.Setting.{IsWork, HasRoom}
use Rattle.qs_tasks.proofs.Activations.{IsBack, is_back}
use Rattle.qs_tasks.proofs.SceneLaws.{one_itself, count, IsFineScene, GoesFine, fine_here, value_there, value_elsewhere, IsIn, IsLevel, IsStack, IsAtRest, IsFine, not_running, SparesTask, depth, at_rest_spared, stack_spared}
use Rattle.qs_tasks.proofs.Beginnings.{begins_fine}

module _ (p : Program) (bound times below : ℕ → ℕ) (works : IsWork p bound times) (fits : HasRoom p bound times below) where
  -- ---- the one that is chosen

  module _ (other : ℕ) where
    chosen_by : (task : ℕ) (waiting : List ℕ) (c : Choice) (b : Bool) → count other waiting ≡ one_of c.task other + count other c.others → one_of task other + count other waiting ≡ one_of (if b then (let q : Choice = record { task = c.task; others = task ∷ c.others } in q) else (let q : Choice = record { task = task; others = waiting } in q)).task other + count other (if b then (let q : Choice = record { task = c.task; others = task ∷ c.others } in q) else (let q : Choice = record { task = task; others = waiting } in q)).others
    chosen_by task waiting c true e = omega (arith, e)
    chosen_by task waiting c false e = refl

    choice_counts : (waiting : List ℕ) (o : Option Choice) → choice p.system waiting ≡ o → (c : Choice) → o ≡ Some c → count other waiting ≡ one_of c.task other + count other c.others
    choice_counts [] o e c q = let z : None ≡ Some c = e ∙ q in cc
    choice_counts (task ∷ waiting) o e c q = by (choice p.system waiting) (λ r z. choice_counts waiting (choice p.system waiting) refl r z) (e ∙ q)
      where
        by : (x : Option Choice) → ((r : Choice) → x ≡ Some r → count other waiting ≡ one_of r.task other + count other r.others) → Some (chosen_among p.system task waiting x) ≡ Some c → one_of task other + count other waiting ≡ one_of c.task other + count other c.others
        by None more z = let same : chosen_among p.system task waiting None ≡ c = cc in subst (λ (r : Choice). one_of task other + count other waiting ≡ one_of r.task other + count other r.others) same refl
        by (Some r) more z = let same : chosen_among p.system task waiting (Some r) ≡ c = cc in subst (λ (r : Choice). one_of task other + count other waiting ≡ one_of r.task other + count other r.others) same (chosen_by task waiting r (nat_lt (priority_of p.system task) (priority_of p.system r.task)) (more r refl))

  waits_by : (c : Choice) (s : Scene) (b : Bool) → IsFineScene p bound times below s → choice p.system s.waiting ≡ Some c → comes_first p.system c.task s.running ≡ b → GoesFine p bound times below (if b then begin p.system c.task (record s { waiting = c.others }) else going s)
  waits_by c s true f e first = begins_fine p bound times below works fits c.task (record s { waiting = c.others }) f.fine first (λ other. let n = f.counted other in let q = choice_counts other s.waiting (choice p.system s.waiting) refl c e in omega (arith, n, q))
  waits_by c s false f e first = fine_here p bound times below s f

  starts_fine : (o : Option Choice) (s : Scene) → IsFineScene p bound times below s → choice p.system s.waiting ≡ o → GoesFine p bound times below (start_waiting p.system o s)
  starts_fine None s f e = fine_here p bound times below s f
  starts_fine (Some c) s f e = waits_by c s (comes_first p.system c.task s.running) f e refl

  -- ---- what is returned to

  returned_more : (returned : ℕ → ℕ) (task other : ℕ) → one_more returned task other ≡ returned other + one_of task other
  returned_more returned task other = ⊎_elim same different (cases_eq task other)
    where
      same : task ≡ other → one_more returned task other ≡ returned other + one_of task other
      same e = subst (λ (o : ℕ). one_more returned task o ≡ returned o + one_of task o) e (let v = value_there returned task (returned task + 1) in let one = one_itself task in omega (arith, v, one))

      different : (task ≡ other → ⊥) → one_more returned task other ≡ returned other + one_of task other
      different ne =
          let v = value_elsewhere returned task (returned task + 1) other (λ e. ne (sym e)) in
          let t : (task == other) ≡ false = grind (arith, nat_tests, ne) in
          let none : one_of task other ≡ 0 = rw t refl in
          omega (arith, v, none)

  module _ (task : ℕ) (running : List ℕ) (s : Scene) (f : IsFine p bound times below (task ∷ running) s.context s.progress) (counted : (other : ℕ) → s.progress.returned other + ((one_of task other + count other running) + (count other s.waiting + arrivals_of s.coming other)) ≡ times other) (pc : s.context.pc ≡ 0) where
    abbrev c : Context
    c = s.context

    abbrev g : Progress
    g = s.progress

    abbrev ceiling : ℕ
    ceiling = f.stack.0

    abbrev l : IsLevel p bound times below task running ceiling c g
    l = f.stack.1

    -- the context of the one that was interrupted
    abbrev outer : Context
    outer = taken_back g.memory ceiling

    abbrev under : IsStack p bound times below running outer g
    under = f.stack.2

    back : IsBack p bound times task (g.returned task) ceiling (seen_by task c g)
    back = is_back p bound times works task (g.returned task) ceiling (seen_by task c g) l.amid pc

    abbrev later : Progress
    later = with_return task g

    returned_here : later.returned task ≡ suc (g.returned task)
    returned_here = value_there g.returned task (g.returned task + 1) ∙ omega arith

    taken : taken_back g.memory (stack_pointer_of c) ≡ outer
    taken = ap (taken_back g.memory) back.x2

    out_of_running : IsIn task running → ⊥
    out_of_running = not_running p bound times below running outer g under task l.first

    spares_other : (other : ℕ) → (other ≡ task → ⊥) → SparesTask p bound times below other g later
    spares_other other ne = record { kept = λ at kept. refl; inputs = refl; written = refl; returned = value_elsewhere g.returned task (g.returned task + 1) other ne }

    rest_after : (other : ℕ) → other < length p.system.tasks → (IsIn other running → ⊥) → IsAtRest p bound times below other later
    rest_after other known out = ⊎_elim same different (cases_eq other task)
      where
        returns : IsAtRest p bound times below task later
        returns = record {
          world = back.world;
          rests = back.rests;
          input = back.input;
          alone = subst (λ (n : ℕ). Alone p task n (bytes_by task g.written) back.world) (sym returned_here) back.alone;
        }

        same : other ≡ task → IsAtRest p bound times below other later
        same e = subst (λ (t : ℕ). IsAtRest p bound times below t later) (sym e) returns

        different : (other ≡ task → ⊥) → IsAtRest p bound times below other later
        different ne = at_rest_spared p bound times below works fits other g later (f.rest other known (λ there. ⊎_elim ne out there)) (spares_other other ne)

    left_stands : IsFine p bound times below running outer later
    left_stands = record {
      bytes = f.bytes;
      inputs = f.inputs;
      stack = stack_spared p bound times below works fits running outer g later under (record {
        stack = λ at lo. refl;
        bytes = f.bytes;
        each = λ other known there. spares_other other (λ e. out_of_running (subst (λ (t : ℕ). IsIn t running) e there));
      });
      rest = rest_after;
    }

    left_fine : IsFineScene p bound times below (left_by task running outer s)
    left_fine = record { fine = left_stands; counted = λ other. let e = counted other in let more = returned_more g.returned task other in omega (arith, e, more) }

    on_stack : is_off_stack p.system s outer ≡ false
    on_stack =
        let d = depth p bound times below works fits running outer g under in
        let e = back.x2 in
        let above = l.above in
        let low = d.low in
        let high = d.high in
        grind (arith, nat_tests, e, above, low, high)

    has_place : (outer.pc % 4 == 0) ≡ true
    has_place =
        let d = depth p bound times below works fits running outer g under in
        let al = d.proper.aligned in
        grind (arith, nat_tests, al)

    pub returns_fine : GoesFine p bound times below (return_from p.system task running s)
    returns_fine = subst (λ (x : Context). GoesFine p bound times below (give_back p.system task running x s)) (sym taken) (rw (on_stack, has_place) (starts_fine (choice p.system s.waiting) (left_by task running outer s) left_fine refl))
