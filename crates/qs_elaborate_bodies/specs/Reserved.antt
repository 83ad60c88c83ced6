-- An operand whose temporary is reserved until it is known whether a later operand acts.
use Rattle.std.specs.Prelude.{◌-◌, nat_le, Bool, true, false, List, [], ◌∷◌, ◌++◌, Option, Some, None, length, take, set, if◌then◌else◌}
use Rattle.qs_core.specs.Trees.{CoreExprTree, temporary, CoreStmtTree, skip}
use Rattle.qs_core.specs.Expressions.{type_of}
use Rattle.qs_elaborate_bodies.specs.Parts.{Temporaries, next_number, with_temporary, keep, Valued}
use Rattle.qs_elaborate_bodies.specs.Lists.{valued}
use Rattle.qs_elaborate_bodies.specs.declared.reserving.Reserved.{Reserved}

-- a statement that will give the temporary its value, and the temporary
abbrev pub with_room : (is_literal : Bool) → List CoreStmtTree → List CoreStmtTree
with_room true ss = ss
with_room false ss = ss ++ skip ∷ []

abbrev pub with_reserved : (is_literal : Bool) → CoreExprTree → Temporaries → Temporaries
with_reserved true v ts = ts
with_reserved false v ts = with_temporary ts (type_of v)

abbrev pub reservation : (is_literal : Bool) → List CoreStmtTree → Temporaries → Option Reserved
reservation true ss ts = None
reservation false ss ts = Some (record { place = length ss; temporary = next_number ts })

-- the temporary is used where statements follow
abbrev pub settled_at : Reserved → CoreExprTree → List CoreStmtTree → Temporaries → Valued
settled_at r v ss ts =
    if nat_le (length ss - r.place) 1 then valued (take r.place ss) v (take r.temporary ts)
    else valued (set ss r.place (keep r.temporary v)) (temporary (type_of v) r.temporary) ts

abbrev pub settled : Option Reserved → CoreExprTree → List CoreStmtTree → Temporaries → Valued
settled None v ss ts = valued ss v ts
settled (Some r) v ss ts = settled_at r v ss ts
