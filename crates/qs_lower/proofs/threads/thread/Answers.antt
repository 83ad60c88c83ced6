use Rattle.std.proofs.Common.{◌≡◌, map, length, ap, ◌∙◌, arith}
use Rattle.std.proofs.lemmas.List.{with_items_is}
use Rattle.qs_tac.specs.TreeOf.{instruction_tree}
use Rattle.qs_lower.specs.Leads.{leads_of, follow_leads}
use Rattle.qs_lower_expressions.specs.Threads.{retargeted}
use Rattle.qs_lower.proofs.LeadLaws.{threaded_by_leads}
use Rattle.qs_lower.proofs.threads.thread.Goals as goal

pub returns : goal.returns
returns c =
    let code = c.args.code.now in
    let after = c.retarget_all.new.code in
    let leads = c.in_ok-leads.leads.items in
    let found : leads ≡ leads_of (map instruction_tree code.items) = c.in_ok-leads.ensures ∙ ap (λ l. leads_of (map instruction_tree l)) c.deref.ensures.value in
    let from = c.deref_mut.ensures.value in
    let lead = c.deref-2.ensures.value in
    let count = ap length from in
    let same : length after ≡ code.len = omega (arith, count, code.ok.0) in
    let done : map instruction_tree after ≡ map (retargeted (follow_leads leads (length leads))) (map instruction_tree code.items) =
    c.retarget_all.ensures
    ∙ ap (λ l. map (retargeted (follow_leads l (length l))) (map instruction_tree c.deref_mut.result.now)) lead
    ∙ ap (λ l. map (retargeted (follow_leads leads (length leads))) (map instruction_tree l)) from in
    threaded_by_leads (map instruction_tree code.items) _ leads found (ap (map instruction_tree) (with_items_is code after same) ∙ done)
