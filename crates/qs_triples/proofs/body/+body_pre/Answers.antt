use Rattle.std.proofs.Common.{◌≡◌, length, refl, sym, ap, ◌∙◌, subst, arith}
use Rattle.qs_core.specs.Trees.{seq, stmts_of}
use Rattle.qs_core.specs.TreeOf.{core_stmts}
use Rattle.qs_triples.specs.Derivations.{DerivationTree}
use Rattle.qs_triples.specs.Rules.{pre}
use Rattle.qs_triples.specs.Told.{FailsAs, Follows}
use Rattle.qs_triples.specs.TreeOf.{derivation_tree}
use Rattle.qs_triples.specs.Views.{posts_view, scope_view}
use Rattle.qs_triples.proofs.NodeLaws.{has_parts, other_count, no_parts, sequence_follows, sequence_of}
use Rattle.qs_triples.proofs.body.+body_pre.Goals as goal

pub returns-then-len-body : goal.returns-then-len-body
returns-then-len-body t c =
    let e = ap derivation_tree c.in-Sequence.is ∙ sequence_of c.in-Sequence.ds in
    subst (λ (z : DerivationTree). FailsAs c.failed.result (pre z (scope_view c.args.c) (seq (stmts_of (core_stmts c.args.body.now))) (posts_view c.args.q))) (sym e)
    (no_parts c.failed.result c.in-Sequence.ds.items (scope_view c.args.c) (seq (stmts_of (core_stmts c.args.body.now))) (posts_view c.args.q)
    (other_count c.failed.result c.args.body.now (seq (stmts_of (core_stmts c.args.body.now))) (length c.in-Sequence.ds.items) (λ rule. refl)
    (λ (same : length c.args.body.now ≡ length c.in-Sequence.ds.items). omega (arith, c.len.ensures, c.in-Sequence.ds.ok.0, same)) c.failed.ensures))

pub returns-else-len-body : goal.returns-else-len-body
returns-else-len-body t c =
    let e = ap derivation_tree c.in-Sequence.is ∙ sequence_of c.in-Sequence.ds in
    let same : length c.args.body.now ≡ length c.in-Sequence.ds.items = omega (arith, c.len.ensures, c.in-Sequence.ds.ok.0) in
    subst (λ (z : DerivationTree). Follows c.sequence_pre.result (pre z (scope_view c.args.c) (seq (stmts_of (core_stmts c.args.body.now))) (posts_view c.args.q))) (sym e)
    (sequence_follows c.sequence_pre.result c.in-Sequence.ds.items c.args.body.now (scope_view c.args.c) (seq (stmts_of (core_stmts c.args.body.now))) (posts_view c.args.q)
    (has_parts c.args.body.now (seq (stmts_of (core_stmts c.args.body.now))) (length c.in-Sequence.ds.items) (λ rule. refl) same)
    (rw c.deref.ensures.value at c.sequence_pre.ensures))
