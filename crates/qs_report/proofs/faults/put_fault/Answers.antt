use Rattle.qs_report.proofs.faults.put_fault.Goals as goal

pub returns-in-Cycle : goal.returns-in-Cycle
returns-in-Cycle g c = rw c.in-Cycle.is (rw c.deref.ensures.value at c.put_cycle.ensures)

pub returns-in-ArgCount : goal.returns-in-ArgCount
returns-in-ArgCount g c = rw c.in-ArgCount.is (rw (c.from.ensures, c.from-in-ArgCount.ensures) at c.put_arg_count.ensures)

pub returns-in-ArgRange : goal.returns-in-ArgRange
returns-in-ArgRange g c = rw c.in-ArgRange.is (rw c.from-in-ArgRange.ensures at c.put_arg_range.ensures)

pub returns-in-StepLimit : goal.returns-in-StepLimit
returns-in-StepLimit g c = rw c.in-StepLimit.is c.put_number.ensures

pub returns-in-StackTooLarge : goal.returns-in-StackTooLarge
returns-in-StackTooLarge g c = rw c.in-StackTooLarge.is c.put_number-in-StackTooLarge.ensures

pub returns-in-NoMemory : goal.returns-in-NoMemory
returns-in-NoMemory g c = rw c.in-NoMemory.is c.put_two-in-NoMemory.ensures
