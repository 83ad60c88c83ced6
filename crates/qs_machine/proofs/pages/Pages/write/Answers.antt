use Rattle.std.proofs.Common.{◌≡◌, ◌≢◌, ◌+◌, ◌*◌, ◌%◌, ◌≤◌, ℕ, List, length, slice_index, refl, ap, sym, ◌∙◌, arith}
use Rattle.std.proofs.lemmas.List.{with_items_is}
use Rattle.std.specs.Vec.{with_items}
use Rattle.qs_machine.specs.Pages.{page_of, place_of, byte_in_pages}
use Rattle.qs_machine.specs.Bytes.{put_bytes}
use Rattle.qs_machine.specs.Step.{store_width, stored}
use Rattle.qs_machine.proofs.PageLaws.{written, stay_pages, there, first-inside, some_width, test-low, test-high}
use Rattle.qs_machine.proofs.pages.Pages.write.Goals as goal

pub page-page-requires : goal.page-page-requires
page-page-requires c = first-inside c.args.self.now.start c.args.self.now.end c.args.address (store_width c.args.kind) (some_width c.args.kind) c.requires.inside

pub put-requires : goal.put-requires
put-requires c =
    let p = c.touched-number.new.self in
    let same = c.touched-number.ensures.same in
    let address = c.args.address in
    let number : c.touched-number.result ≡ slice_index p.table.items (page_of p.start address) =
    c.touched-number.ensures.number ∙ ap (λ k. slice_index p.table.items k) (c.page-page.ensures.place ∙ ap (λ s. page_of s address) (sym same.start)) in
    let place : c.place_in.result ≡ place_of p.start p.table.items address = c.place_in.ensures ∙ ap (λ k. k * 4096 + address % 4096) number in
    let all = there p.start p.end p.table.items p.bytes.items address (store_width c.args.kind) p.pages c.requires.in_page in
    let is = c.deref_mut.ensures.value in
    rw (is, place) all

pub invariant_of-self : goal.invariant_of-self
invariant_of-self c =
    let p = c.touched-number.new.self in
    let same = c.touched-number.ensures.same in
    let address = c.args.address in
    let number : c.touched-number.result ≡ slice_index p.table.items (page_of p.start address) =
    c.touched-number.ensures.number ∙ ap (λ k. slice_index p.table.items k) (c.page-page.ensures.place ∙ ap (λ s. page_of s address) (sym same.start)) in
    let place : c.place_in.result ≡ place_of p.start p.table.items address = c.place_in.ensures ∙ ap (λ k. k * 4096 + address % 4096) number in
    let put : c.put.new.bytes ≡ put_bytes c.args.kind p.bytes.items (place_of p.start p.table.items address) c.args.value = c.put.ensures ∙ (rw (c.deref_mut.ensures.value, place) refl) in
    let kept : length c.put.new.bytes ≡ p.bytes.len = omega arith in
    let items : (with_items p.bytes c.put.new.bytes).items ≡ put_bytes c.args.kind p.bytes.items (place_of p.start p.table.items address) c.args.value = with_items_is p.bytes c.put.new.bytes kept ∙ put in
    record {
      pages = rw items (stay_pages p.start p.end p.table.items p.bytes.items c.args.kind address c.args.value p.pages (λ z. c.touched-number.ensures.touched (number ∙ z)));
      room = p.room;
    }

pub returns : goal.returns
returns c =
    let p = c.touched-number.new.self in
    let same = c.touched-number.ensures.same in
    let kind = c.args.kind in
    let address = c.args.address in
    let value = c.args.value in
    let number : c.touched-number.result ≡ slice_index p.table.items (page_of p.start address) =
    c.touched-number.ensures.number ∙ ap (λ k. slice_index p.table.items k) (c.page-page.ensures.place ∙ ap (λ s. page_of s address) (sym same.start)) in
    let place : c.place_in.result ≡ place_of p.start p.table.items address = c.place_in.ensures ∙ ap (λ k. k * 4096 + address % 4096) number in
    let put : c.put.new.bytes ≡ put_bytes kind p.bytes.items (place_of p.start p.table.items address) value = c.put.ensures ∙ (rw (c.deref_mut.ensures.value, place) refl) in
    let kept : length c.put.new.bytes ≡ p.bytes.len = omega arith in
    let items : (with_items p.bytes c.put.new.bytes).items ≡ put_bytes kind p.bytes.items (place_of p.start p.table.items address) value = with_items_is p.bytes c.put.new.bytes kept ∙ put in
    let low : p.start ≤ address = rw same.start (test-low c.args.self.now.start c.args.self.now.end address (store_width kind) c.requires.inside) in
    let high : address + store_width kind ≤ p.end = rw same.end (test-high c.args.self.now.start c.args.self.now.end address (store_width kind) c.requires.inside) in
    record {
      start = same.start;
      end = same.end;
      bytes = λ otherwise.
          ap (λ (l : List ℕ). byte_in_pages p.start p.end p.table.items l otherwise) items
          ∙ written p.start p.end p.table.items p.bytes.items otherwise kind address value p.pages (λ z. c.touched-number.ensures.touched (number ∙ z)) low high c.requires.in_page
          ∙ ap (λ (m : ℕ → ℕ). stored kind m address value) (same.bytes otherwise);
    }
