use Rattle.std.proofs.Common.{◌≡◌, ◌+◌, ◌-◌, ◌*◌, ◌%◌, take, drop, slice_index, ap, sym, ◌∙◌, arith}
use Rattle.std.proofs.lemmas.List.{get_or_read}
use Rattle.qs_machine.specs.Pages.{place_of}
use Rattle.qs_machine.specs.Hart.{nothing}
use Rattle.qs_machine.proofs.PageLaws.{read-pages, there, test-low, test-high}
use Rattle.qs_machine.proofs.pages.Pages.read.Goals as goal

pub returns : goal.returns
returns c =
    let v = c.args.self.now in
    let address = c.args.address in
    let width = c.args.width in
    let low = test-low v.start v.end address width c.requires.inside in
    let high = test-high v.start v.end address width c.requires.inside in
    let number : c.index.result.now ≡ slice_index v.table.items c.page.result = get_or_read v.table.items c.page.result c.index.result.now c.page.ensures.there c.index.ensures 0 in
    let place : c.place_in-place.result ≡ place_of v.start v.table.items address =
    c.place_in-place.ensures ∙ ap (λ k. k * 4096 + address % 4096) (number ∙ ap (λ k. slice_index v.table.items k) c.page.ensures.place) in
    let size : c.place_in-place.result + width - c.place_in-place.result ≡ width = omega arith in
    rw (size, c.deref.ensures.value, place)
    (sym (read-pages v.start v.end v.table.items v.bytes.items nothing address width low high c.requires.in_page (there v.start v.end v.table.items v.bytes.items address width v.pages c.requires.in_page)))
