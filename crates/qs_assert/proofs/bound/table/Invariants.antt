use Rattle.std.proofs.Common.{◌≡◌, [], drop}
use Rattle.qs_assert.specs.Tables.{tabled}
use Rattle.qs_assert.proofs.bound.table.Given as goal

-- with the definitions that are left this is the whole table
abbrev pub invariant-loop-define : goal.invariant-loop-define
invariant-loop-define l =
    tabled l.args l.costs (drop l.define-index l.defines) l.known.entries ≡ tabled l.args l.costs l.defines []
