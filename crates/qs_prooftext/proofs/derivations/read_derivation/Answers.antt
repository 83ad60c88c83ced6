use Rattle.std.proofs.Common.{◌≡◌, ◌∙◌, List, Ok, ap, length, map, sym}
use Rattle.qs_triples.specs.Derivations.{DerivationTree}
use Rattle.qs_prooftext.specs.DerivationHeads.{derivation_head, derivation_shape}
use Rattle.qs_prooftext_meaning.specs.Contexts.{setting_of}
use Rattle.qs_prooftext_meaning.specs.Kinds.{a_derivation}
use Rattle.qs_prooftext.specs.declared.statements.DerivationHead.{DerivationHead}
use Rattle.qs_prooftext_assertions.proofs.AssertionLaws.{none_left_of, passed_out, some_left}
use Rattle.qs_prooftext.proofs.HeadLaws.{ends, starts}
use Rattle.qs_prooftext.proofs.derivations.read_derivation.Goals as goal

pub trees-init : goal.trees-init
trees-init c = λ s h.
    starts a_derivation derivation_shape (setting_of c.args.context) c.args.context.text.now c.args.nodes.now (map derivation_head c.new-heads.result.items) s h (ap (λ (hs : List DerivationHead). map derivation_head hs) c.new-heads.ensures.items)

pub next-requires : goal.next-requires
next-requires c =
    let t = c.requires in
    let r = c.trees.invariant t.0 t.1 in
    (r.forest, r.stand)

pub returns-in_err-rest : goal.returns-in_err-rest
returns-in_err-rest c = λ s h.
    passed_out _ c.from_residual.result c.in_err-rest.field-0.0 _ c.from_residual.ensures (c.in_err-rest.ensures.goes _ (c.trees.invariant s h) (some_left (length c.trees.rest.now) c.trees-test.ensures))

pub trees-preserved : goal.trees-preserved
trees-preserved c = λ s h. c.in_ok-rest.ensures.goes _ (c.trees.invariant s h) (some_left (length c.trees.rest.now) c.trees-test.ensures)

pub returns : goal.returns
returns c = λ s h.
    let l : length c.trees.rest.now ≡ 0 = none_left_of (length c.trees.rest.now) c.trees-test.ensures in
    ends a_derivation derivation_shape (setting_of c.args.context) c.args.context.text.now c.trees.rest.now (map derivation_head c.trees.heads.items) _ (c.trees.invariant s h) l ∙ ap (λ (t : DerivationTree). Ok t) (sym c.in_ok-build.ensures)
