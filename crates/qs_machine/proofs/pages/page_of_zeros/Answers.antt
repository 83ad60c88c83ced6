use Rattle.std.proofs.Common.{◌≡◌, true, is_ok, refl, ◌∙◌}
use Rattle.qs_machine.proofs.PageLaws.{filled}
use Rattle.qs_machine.proofs.pages.page_of_zeros.Goals as goal

pub returns-clause-items : goal.returns-clause-items
returns-clause-items c =
    let done : is_ok c.resize.result ≡ true = rw c.in_ok-resize.was refl in
    c.resize.ensures.items ∙ filled (is_ok c.resize.result) c.in_ok-bytes.bytes.items c.in_ok-bytes.bytes.len done c.in_ok-bytes.ensures.items c.in_ok-bytes.ensures.len
