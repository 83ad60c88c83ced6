-- Each fact that a shelf keeps has at most one proof.
use Rattle.std.proofs.Common.{List, ℕ, Option, Some, None}
use Rattle.std.proofs.Props.{props}
use Rattle.qs_ports.specs.declared.memory.cells.Cells.{Cells}
use Rattle.qs_ports.specs.declared.memory.span.Span.{Span}
use Rattle.qs_ports.specs.Cells.{spans_of}
use Rattle.qs_ports.specs.Shelf.{IsNewest, IsCurrent}

is_newest_prop : (o : Option Span) (bytes : List ℕ) (spans : List Span) → IsProp (IsNewest o bytes spans)
is_newest_prop None bytes spans = hlevel props
is_newest_prop (Some s) bytes spans = hlevel props

pub is_current_prop : (o : Option Span) (c : Cells) → IsProp (IsCurrent o c)
is_current_prop o c = is_newest_prop o c.bytes.items (spans_of c.parts.items)
