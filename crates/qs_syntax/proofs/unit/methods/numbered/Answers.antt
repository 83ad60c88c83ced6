use Rattle.std.proofs.Common.{map, subst, sym}
use Rattle.qs_syntax.specs.TreeOf.{decl_tree}
use Rattle.qs_syntax.specs.Units.{IsRead}
use Rattle.qs_syntax.proofs.UnitLaws.{is_numbered, from_start, tokens_known}
use Rattle.qs_syntax.proofs.unit.methods.numbered.Goals as goal

pub invariant_of-result-clause-is_read : goal.invariant_of-result-clause-is_read
invariant_of-result-clause-is_read c =
    let same = from_start (map decl_tree c.in_ok-declarations.declarations.items) (map decl_tree c.args.unnumbered.items) c.new-tokens.result.items c.new-tokens.ensures.items c.in_ok-declarations.ensures.tree in
    subst IsRead (sym same) c.requires.read

pub invariant_of-result-clause-is_numbered : goal.invariant_of-result-clause-is_numbered
invariant_of-result-clause-is_numbered c =
    let same = from_start (map decl_tree c.in_ok-declarations.declarations.items) (map decl_tree c.args.unnumbered.items) c.new-tokens.result.items c.new-tokens.ensures.items c.in_ok-declarations.ensures.tree in
    is_numbered (map decl_tree c.in_ok-declarations.declarations.items) (map decl_tree c.args.unnumbered.items) same

pub invariant_of-result-clause-known : goal.invariant_of-result-clause-known
invariant_of-result-clause-known c =
    let same = from_start (map decl_tree c.in_ok-declarations.declarations.items) (map decl_tree c.args.unnumbered.items) c.new-tokens.result.items c.new-tokens.ensures.items c.in_ok-declarations.ensures.tree in
    tokens_known (map decl_tree c.in_ok-declarations.declarations.items) (map decl_tree c.args.unnumbered.items) c.new-tokens.result.items _ c.new-tokens.ensures.items c.in_ok-declarations.ensures.tokens same
