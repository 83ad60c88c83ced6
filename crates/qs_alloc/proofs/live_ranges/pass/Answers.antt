use Rattle.std.proofs.Common.{◌≡◌, ◌∙◌, sym, ap, Some}
use Rattle.std.specs.Prelude.{slice_get}
use Rattle.std.proofs.lemmas.Option.{slice_get_read}
use Rattle.qs_alloc.specs.Verification.{is_written}
use Rattle.qs_alloc.proofs.Tests.{written_say, written_pass}
use Rattle.qs_alloc.proofs.LiveLaws.{passed_on, passed_by}
use Rattle.qs_alloc.proofs.live_ranges.pass.Goals as goal

pub returns-in_ok-reach_before : goal.returns-in_ok-reach_before
returns-in_ok-reach_before c =
    let here : slice_get c.args.code.now c.args.q ≡ Some c.index-code-q.result = search (slice_get_read, c.index-code-q.is, c.requires.here) in
    passed_on _ _ _ _ _ _ _ _ here (λ w. absurd (cc (c.is_written.ensures, ap (λ o. is_written o c.args.t) c.written.ensures, written_pass _ c.args.t w, c.if-not-is_written.true))) c.in_ok-reach_before.ensures

pub returns-else-not-is_written : goal.returns-else-not-is_written
returns-else-not-is_written c =
    let here : slice_get c.args.code.now c.args.q ≡ Some c.index-code-q.result = search (slice_get_read, c.index-code-q.is, c.requires.here) in
    passed_by _ _ _ _ _ _ _ here (sym c.written.ensures ∙ written_say c.written.result c.args.t (sym c.is_written.ensures ∙ c.if-not-is_written.false)) c.requires.sees c.requires.size
