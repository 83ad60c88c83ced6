use Rattle.std.proofs.Common.{inl, map}
use Rattle.qs_prooftext.specs.DerivationHeads.{derivation_head, derivation_shape}
use Rattle.qs_prooftext_meaning.specs.Contexts.{setting_of}
use Rattle.qs_prooftext_meaning.specs.Kinds.{a_derivation}
use Rattle.qs_prooftext.proofs.DerivationLaws.{takes_its_own}
use Rattle.qs_prooftext.proofs.HeadLaws.{first_stops, head_goes, head_stops, passed_on}
use Rattle.qs_prooftext.proofs.PlantLaws.{one_put}
use Rattle.qs_prooftext.proofs.derivations.next.Goals as goal

pub read_head-requires : goal.read_head-requires
read_head-requires c =
    let t = c.requires in
    let f = c.in_ok-headed.ensures t.0 t.1 in
    (f.parts, f.whole.stand)

pub returns-in_err-headed-clause-goes : goal.returns-in_err-headed-clause-goes
returns-in_err-headed-clause-goes c = λ due r l.
    passed_on a_derivation derivation_shape (setting_of c.args.context) c.args.context.text.now c.from_residual.result c.in_err-headed.field-0.0 _ due c.from_residual.ensures
    (inl (first_stops a_derivation derivation_shape (setting_of c.args.context) c.args.context.text.now c.args.rest.now (map derivation_head c.args.heads.now.items) due c.in_err-headed.field-0.0 r l ((c.in_err-headed.ensures r.forest r.stand).as_derivation (setting_of c.args.context))))

pub returns-in_err-made-clause-goes : goal.returns-in_err-made-clause-goes
returns-in_err-made-clause-goes c = λ due r l.
    let f = c.in_ok-headed.ensures r.forest r.stand in
    passed_on a_derivation derivation_shape (setting_of c.args.context) c.args.context.text.now c.from_residual-in_err-made.result c.in_err-made.field-0.0 _ due c.from_residual-in_err-made.ensures
    (head_stops a_derivation derivation_shape (setting_of c.args.context) c.args.context.text.now c.args.rest.now (map derivation_head c.args.heads.now.items) due c.in_err-made.field-0.0 c.in_ok-headed.headed r f l (c.in_err-made.ensures f.place f.parts f.whole))

pub returns-clause-goes : goal.returns-clause-goes
returns-clause-goes c = λ due r l.
    let f = c.in_ok-headed.ensures r.forest r.stand in
    head_goes a_derivation derivation_shape takes_its_own (setting_of c.args.context) c.args.context.text.now c.args.rest.now c.behind_head.result.now (map derivation_head c.args.heads.now.items) (map derivation_head c.push.new.self.items) due c.in_ok-headed.headed (derivation_head c.in_ok-made.made) c.in_ok-made.leaves r f (c.in_ok-made.ensures f.place f.parts f.whole) (λ ss h. c.behind_head.ensures.stand c.args.context.text.now ss h)
    (one_put derivation_head c.args.heads.now.items c.push.new.self.items c.in_ok-made.made c.in_ok-push.ensures.items)
