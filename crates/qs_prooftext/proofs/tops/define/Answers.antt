use Rattle.std.proofs.Common.{true, false, List, ℕ, inl, refl, sym, subst}
use Rattle.qs_prooftext_assertions.specs.Answers.{StandAll}
use Rattle.qs_prooftext_meaning.specs.Contexts.{setting_of}
use Rattle.qs_prooftext.specs.Tops.{sofar_of}
use Rattle.qs_prooftext_assertions.proofs.AssertionLaws.{passed_out}
use Rattle.qs_prooftext.proofs.TopLaws.{define_done, define_stops, define_twice, names_known}
use Rattle.qs_prooftext.proofs.tops.define.Goals as goal

pub returns-then-is_defined : goal.returns-then-is_defined
returns-then-is_defined c = λ ss h.
    inl (define_twice (sofar_of c.args.file c.args.proofs.now) c.args.at c.args.word.now ss
    (names_known c.args.file c.args.proofs.now c.deref.result.now c.args.word.now true c.deref.ensures.value c.if-is_defined.ensures))

pub returns-in_err-body : goal.returns-in_err-body
returns-in_err-body c = λ ss h.
    let new = names_known c.args.file c.args.proofs.now c.deref.result.now c.args.word.now false c.deref.ensures.value c.if-is_defined.ensures in
    let k = subst (λ (text : List ℕ). StandAll text c.args.parts.now ss) (sym c.in_definition.ensures.text) h in
    passed_out _ c.from_residual.result c.in_err-body.field-0.0 _ c.from_residual.ensures
    (define_stops (sofar_of c.args.file c.args.proofs.now) c.args.at c.args.word.now (setting_of c.in_definition.result) ss c.in_err-body.field-0.0 new c.in_definition.ensures.setting (c.in_err-body.ensures ss k))

pub returns : goal.returns
returns c = λ ss h.
    let new = names_known c.args.file c.args.proofs.now c.deref.result.now c.args.word.now false c.deref.ensures.value c.if-is_defined.ensures in
    let k = subst (λ (text : List ℕ). StandAll text c.args.parts.now ss) (sym c.in_definition.ensures.text) h in
    define_done c.args.file c.args.proofs.now (record { definitions = c.add.new.self; functions = c.args.proofs.now.functions }) c.args.at c.in_ok-name.name c.args.word.now (setting_of c.in_definition.result) ss c.in_ok-body.body new c.in_definition.ensures.setting (c.in_ok-body.ensures ss k) c.in_ok-name.ensures c.in_ok-add.ensures refl
