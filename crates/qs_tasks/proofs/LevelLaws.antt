-- Each task finds room on its level, and all levels lie on the stack of their sum.
use Rattle.std.proofs.Common.{◌≡◌, ℕ, zero, suc, ◌+◌, ◌-◌, ◌≤◌, ◌<◌, Bool, true, false, List, [], ◌∷◌, length, map, refl, ap, subst, arith}
use Rattle.std.specs.Prelude.{◌==◌, max, if◌then◌else◌, slice_index_or}
use Rattle.std.proofs.lemmas.Bool.Decides.{nat_tests}
use Rattle.qs_tasks_run.specs.Tasks.{Task}
use Rattle.qs_tasks_run.specs.Contexts.{context_bytes}
use Rattle.qs_tasks_run.specs.TasksRun.{task_at}
use Rattle.qs_tasks_run.specs.StackSize.{Claim, level, levels_below, priorities, stack_for}
use Rattle.qs_tasks.specs.Safe.{no_claim}

-- the claim of a task
abbrev pub claim_at : List Claim → (task : ℕ) → Claim
claim_at claims task = slice_index_or claims task no_claim

more_fits : (claims : List Claim) (d : Claim) (p bytes : ℕ) (b : Bool) → bytes ≤ level claims p → bytes ≤ (if b then max (d.bound + context_bytes) (level claims p) else level claims p)
more_fits claims d p bytes true le = omega (arith, le)
more_fits claims d p bytes false le = le

pub claim_fits : (claims : List Claim) (task : ℕ) → task < length claims → (claim_at claims task).bound + context_bytes ≤ level claims (claim_at claims task).priority
claim_fits [] task lt = absurd (omega (arith, lt))
claim_fits (d ∷ claims) zero lt = let t : (d.priority == d.priority) ≡ true = grind (arith, nat_tests) in rw t (omega arith)
claim_fits (d ∷ claims) (suc task) lt = let c = claim_at claims task in more_fits claims d c.priority (c.bound + context_bytes) (d.priority == c.priority) (claim_fits claims task (omega (arith, lt)))

pub level_fits : (claims : List Claim) (task : ℕ) → task < length claims → levels_below claims (claim_at claims task).priority + ((claim_at claims task).bound + context_bytes) ≤ levels_below claims ((claim_at claims task).priority + 1)
level_fits claims task lt =
    let c = claim_at claims task in
    let one : suc c.priority ≡ c.priority + 1 = omega arith in
    let room = claim_fits claims task lt in
    subst (λ (p : ℕ). levels_below claims c.priority + (c.bound + context_bytes) ≤ levels_below claims p) one (omega (arith, room))

below_grows : (claims : List Claim) (p more : ℕ) → levels_below claims p ≤ levels_below claims (p + more)
below_grows claims p zero =
    let e : p ≡ p + 0 = omega arith in
    let same : levels_below claims p ≤ levels_below claims p = omega arith in
    subst (λ (q : ℕ). levels_below claims p ≤ levels_below claims q) e same
below_grows claims p (suc more) =
    let e : suc (p + more) ≡ p + suc more = omega arith in
    let before = below_grows claims p more in
    subst (λ (q : ℕ). levels_below claims p ≤ levels_below claims q) e (omega (arith, before))

pub levels_grow : (claims : List Claim) (low high : ℕ) → low ≤ high → levels_below claims low ≤ levels_below claims high
levels_grow claims low high le = by (high - low) refl
  where
    by : (more : ℕ) → high - low ≡ more → levels_below claims low ≤ levels_below claims high
    by more e = let sum : low + more ≡ high = omega (arith, e, le) in subst (λ (q : ℕ). levels_below claims low ≤ levels_below claims q) sum (below_grows claims low more)

pub levels_fit : (claims : List Claim) (p : ℕ) → p ≤ priorities → levels_below claims p ≤ stack_for claims
levels_fit claims p le = levels_grow claims p priorities le

-- ---- claims of tasks

pub same_priority : (claims : List Claim) (tasks : List Task) → map (λ (c : Claim). c.priority) claims ≡ map (λ (t : Task). t.priority) tasks → (task : ℕ) → (claim_at claims task).priority ≡ (task_at tasks task).priority
same_priority [] [] e task = refl
same_priority [] (t ∷ tasks) e task = cc
same_priority (c ∷ claims) [] e task = cc
same_priority (c ∷ claims) (t ∷ tasks) e zero = cc
same_priority (c ∷ claims) (t ∷ tasks) e (suc task) = let rest : map (λ (c : Claim). c.priority) claims ≡ map (λ (t : Task). t.priority) tasks = cc in same_priority claims tasks rest task

pub same_count : (claims : List Claim) (tasks : List Task) → map (λ (c : Claim). c.priority) claims ≡ map (λ (t : Task). t.priority) tasks → length claims ≡ length tasks
same_count [] [] e = refl
same_count [] (t ∷ tasks) e = cc
same_count (c ∷ claims) [] e = cc
same_count (c ∷ claims) (t ∷ tasks) e = let rest : map (λ (c : Claim). c.priority) claims ≡ map (λ (t : Task). t.priority) tasks = cc in ap suc (same_count claims tasks rest)
