use Rattle.std.proofs.Common.{rules, ◌≤◌, ◌∙◌, length, sym, ap, arith, SFits, w64, to_z-of_z}
use Rattle.std.specs.Prelude.{pos}
use Rattle.std.proofs.lemmas.List.{length-map}
use Rattle.std.proofs.lemmas.Result.{IfOk-weaker}
use Rattle.qs_base.specs.declared.function.FnId.{FnId}
use Rattle.qs_entail.specs.Certificates.{pick, same}
use Rattle.qs_callgraph.specs.CallLists.{numbers}
use Rattle.qs_analyse.proofs.WrittenLaws.{pick_many}
use Rattle.qs_analyse.proofs.written.pick_certificate.Goals as goal

pub returns : goal.returns
returns c =
    let l = length-map c.args.callees.now (λ (f : FnId). f.0) in
    let many : 2 ≤ length (numbers c.args.callees.now) = omega (arith, l, c.if-callees-lt2.false) in
    let fits : SFits w64 c.in_ok-number.number = search rules in
    IfOk-weaker c.picked.result _ _
    (λ cert e. e ∙ ap (λ i. pick i same) (to_z-of_z fits ∙ c.in_ok-number.ensures ∙ ap pos c.place_of.ensures) ∙ sym (pick_many (numbers c.args.callees.now) c.args.g.0 many)) c.picked.ensures
