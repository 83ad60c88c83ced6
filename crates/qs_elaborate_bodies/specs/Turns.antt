-- A turn of a loop: its body, while its condition holds.
use Rattle.std.specs.Prelude.{Option, Some, None}
use Rattle.qs_meaning.specs.Typed.{Expr, Stmt}
use Rattle.qs_elaborate_bodies.specs.Parts.{Temporaries, Listed}
use Rattle.qs_elaborate_bodies.specs.Expressions.{listed, expression_core}
use Rattle.qs_elaborate_bodies.specs.Statements.{guarded, statement_core}

abbrev pub guarded_turn : Expr → Stmt → Temporaries → Listed
guarded_turn e a ts =
    let c = expression_core e ts in
    let body = statement_core a c.temporaries in
    listed (guarded c body) body.temporaries

abbrev pub turn : Option Expr → Stmt → Temporaries → Listed
turn None a ts = statement_core a ts
turn (Some e) a ts = guarded_turn e a ts
