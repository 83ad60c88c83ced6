use Rattle.std.proofs.Common.{◌≡◌, map, drop}
use Rattle.qs_syntax_vocabulary.specs.Marks.{is_in}
use Rattle.qs_link_names.proofs.linkage.Internal.is_hidden.Given as goal

abbrev pub invariant-loop-other : goal.invariant-loop-other
invariant-loop-other l = record {
  rest : is_in (map (λ other. other.now) l.self.hidden.items) l.name ≡ is_in (map (λ other. other.now) (drop l.other-index l.self.hidden.items)) l.name;
}
