-- An activation begins: what stood stands on.
use Rattle.std.proofs.Common.{◌≡◌, ◌⊎◌, inl, inr, ℕ, ◌+◌, ◌-◌, ◌^◌, ◌≤◌, ◌<◌, Bool, true, false, ◌∷◌, length, refl, sym, ap, ◌∙◌, subst, arith}
use Rattle.std.specs.Prelude.{◌==◌, if◌then◌else◌}
use Rattle.std.proofs.lemmas.Bool.Decides.{nat_tests}
use Rattle.qs_isa.specs.Registers.{ra, sp}
use Rattle.qs_machine.specs.State.{stack_base, with_value}
use Rattle.qs_machine.specs.Laws.{IsProper}
use Rattle.qs_emit.specs.Lies.{AreBytes}
use Rattle.qs_tasks_run.specs.Contexts.{Context, stack_pointer_of, context_bytes, taken_back}
use Rattle.qs_tasks_run.specs.TasksRun.{Progress, Scene, going, entered, begun, begin, is_full, comes_first, arrive, wait, seen_by}
use Rattle.qs_tasks.specs.Alone.{Program}
use Rattle.qs_tasks.specs.Safe.{one_of}
use Rattle.qs_tasks.proofs.Setting.{IsWork, HasRoom, kept_below, entry_aligned, entry_small}
use Rattle.qs_tasks.proofs.Resting.{rests_on}
use Rattle.qs_tasks.proofs.ContextLaws.{stored_other, stored_bytes, comes_back}
use Rattle.qs_tasks.proofs.SceneLaws.{one_itself, count_append, used, GoesFine, fine_here, value_elsewhere, IsIn, IsStack, IsFine, HasDepth, not_running, SparesTask, depth, at_rest_spared, stack_spared}

module _ (p : Program) (bound times below : ℕ → ℕ) (works : IsWork p bound times) (fits : HasRoom p bound times below) where
  entered_proper : (task : ℕ) (c : Context) → task < length p.system.tasks → IsProper c.pc c.registers → IsProper (entered p.system task c).pc (entered p.system task c).registers
  entered_proper task c there q = record {
    aligned = entry_aligned p works.tasks task there;
    small = entry_small p works.tasks task there;
    words = words;
    x0_is_0 = q.x0_is_0;
    no_more = no_more;
  }
    where
      word_by : (r : ℕ) (b d : Bool) → (if b then stack_pointer_of c - context_bytes else if d then 0 else c.registers r) < 2 ^ 32
      word_by r true d = let w = q.words 2 in omega (arith, w)
      word_by r false true = omega arith
      word_by r false false = q.words r

      words : (r : ℕ) → (entered p.system task c).registers r < 2 ^ 32
      words r = word_by r (r == sp) (r == ra)

      no_more : (r : ℕ) → 32 ≤ r → (entered p.system task c).registers r ≡ 0
      no_more r le =
          value_elsewhere (with_value c.registers ra 0) sp (stack_pointer_of c - context_bytes) r (λ e. omega (arith, e, le))
          ∙ value_elsewhere c.registers ra 0 r (λ e. omega (arith, e, le)) ∙ q.no_more r le

  module _ (task : ℕ) (s : Scene) (f : IsFine p bound times below s.running s.context s.progress) (first : comes_first p.system task s.running ≡ true) (free : (other : ℕ) → one_of task other + used other s ≡ times other) where
    abbrev c : Context
    c = s.context

    abbrev d : HasDepth p bound times below s.running c
    d = depth p bound times below works fits s.running c s.progress f.stack

    abbrev ceiling : ℕ
    ceiling = stack_pointer_of c - context_bytes

    abbrev later : Progress
    later = (begun p.system task s).progress

    counted : s.progress.returned task < times task
    counted = let e = free task in let one = one_itself task in omega (arith, e, one)

    positive : 0 < times task
    positive = let e = counted in omega (arith, e)

    there : task < length p.system.tasks
    there = works.known task positive

    room_there : stack_base p.system.size + (bound task + context_bytes) ≤ stack_pointer_of c
    room_there = let deep = d.deep task first in let level = fits.level task positive in let all = fits.fits task positive in omega (arith, deep, level, all)

    out : IsIn task s.running → ⊥
    out = not_running p bound times below s.running c s.progress f.stack task first

    memory_spared : (at : ℕ) → (at < stack_base p.system.size) ⊎ (stack_pointer_of c ≤ at) → later.memory at ≡ s.progress.memory at
    memory_spared at (inl lt) = let room = room_there in stored_other c ceiling s.progress.memory at (inl (omega (arith, lt, room)))
    memory_spared at (inr le) = let room = room_there in stored_other c ceiling s.progress.memory at (inr (omega (arith, le, room)))

    spares_task : (other : ℕ) → other < length p.system.tasks → SparesTask p bound times below other s.progress later
    spares_task other known = record {
      kept = λ at kept. memory_spared at (inl (kept_below p works.tasks works.most other at known kept));
      inputs = refl;
      written = refl;
      returned = refl;
    }

    begun_fine : IsFine p bound times below (task ∷ s.running) (begun p.system task s).context later
    begun_fine =
        let room = room_there in
        let deep = d.deep task first in
        let al = d.aligned in
        let high = d.high in
        let back : taken_back later.memory ceiling ≡ c = comes_back c ceiling s.progress.memory d.proper in
        let rest = f.rest task there out in
        let bytes : AreBytes later.memory = stored_bytes c ceiling s.progress.memory f.bytes in
        record {
          bytes = bytes;
          inputs = f.inputs;
          stack = (
            ceiling,
            record {
              there = there;
              amid = record {
                world = rest.world;
                from = seen_by task (entered p.system task c) later;
                entered = record {
                  counted = counted;
                  pc = refl;
                  return_address = refl;
                  x2 = refl;
                  aligned = omega (arith, al, room);
                  has_room = omega (arith, room);
                  high = omega (arith, high);
                  rests = rests_on p task rest.world.memory s.progress.memory later.memory rest.rests (spares_task task there).kept;
                  input = rest.input;
                  state = record { proper = entered_proper task c there d.proper; bytes = bytes; input = f.inputs task there };
                  alone = rest.alone;
                };
                steps = 0;
                went = refl;
              };
              level = omega (arith, deep, room);
              above = omega (arith, high, room);
              x2 = ap stack_pointer_of back ∙ omega (arith, room);
              first = first;
            },
            subst (λ (x : Context). IsStack p bound times below s.running x later) (sym back) (stack_spared p bound times below works fits s.running c s.progress later f.stack (record {
              stack = λ at lo. memory_spared at (inr lo);
              bytes = bytes;
              each = λ other known is. spares_task other known;
            })),
          );
          rest = λ other known out. at_rest_spared p bound times below works fits other s.progress later (f.rest other known (λ is. out (inr is))) (spares_task other known);
        }

    pub begins_fine : GoesFine p bound times below (begin p.system task s)
    begins_fine =
        let room = room_there in
        let t : is_full p.system s ≡ false = grind (arith, nat_tests, room) in
        rw t (fine_here p bound times below (begun p.system task s) (record { fine = begun_fine; counted = λ other. let e = free other in omega (arith, e) }))

  -- an activation more may be
  abbrev pub IsFree : (task : ℕ) → Scene → Type 0
  IsFree task s = (other : ℕ) → one_of task other + used other s ≡ times other

  arrives_by : (task : ℕ) (s : Scene) (b : Bool) → IsFine p bound times below s.running s.context s.progress → IsFree task s → comes_first p.system task s.running ≡ b → GoesFine p bound times below (if b then begin p.system task s else going (wait task s))
  arrives_by task s true f free e = begins_fine task s f e free
  arrives_by task s false f free e = fine_here p bound times below (wait task s) (record { fine = f; counted = λ other. let e = free other in let more = count_append other s.waiting task in omega (arith, e, more) })

  pub arrives_fine : (task : ℕ) (s : Scene) → IsFine p bound times below s.running s.context s.progress → IsFree task s → GoesFine p bound times below (arrive p.system task s)
  arrives_fine task s f free = arrives_by task s (comes_first p.system task s.running) f free refl
