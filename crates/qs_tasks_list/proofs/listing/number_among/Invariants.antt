use Rattle.std.proofs.Common.{◌≡◌, map, drop}
use Rattle.qs_tasks_run.specs.Tasks.{task_of}
use Rattle.qs_tasks_list.specs.Listing.{number_among}
use Rattle.qs_tasks_list.proofs.listing.number_among.Given as goal

-- the tasks so far have other names
abbrev pub invariant-loop-i : goal.invariant-loop-i
invariant-loop-i l = number_among l.i l.fn.name (map task_of (drop l.i l.fn.tasks)) ≡ number_among 0 l.fn.name (map task_of l.fn.tasks)
