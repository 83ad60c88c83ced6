use Rattle.std.proofs.Common.{ℕ, ◌≡◌, ◌+◌, ◌*◌, ◌≤◌, ◌^◌, ◌/◌, ◌-◌, length, refl, rules, arith, ap, ◌∙◌}
use Rattle.std.proofs.lemmas.List.{length-replicate}
use Rattle.std.specs.Int.{div_ceil}
use Rattle.qs_machine.proofs.PageLaws.{zero_pages, zero_bytes, cover, few}
use Rattle.qs_machine.proofs.pages.Pages.zeros.Goals as goal

pub invariant_of-result : goal.invariant_of-result
invariant_of-result c =
    let start = c.args.start in
    let end = c.args.end in
    let count = c.div_ceil.result - start / 4096 in
    let is : count ≡ div_ceil end 4096 - start / 4096 = rw c.div_ceil.ensures refl in
    let n : length c.in_ok-table.table.items ≡ count = rw c.in_ok-table.ensures (length-replicate {A = ℕ} count 0) in
    let room = c.in_ok-bytes.ensures.room in
    record {
      pages = rw (c.in_ok-table.ensures, c.in_ok-bytes.ensures.items) (zero_pages start end count (cover start end count c.requires.ordered is) (few start end count c.requires.fits is));
      room = omega (arith, n, room);
    }

pub returns : goal.returns
returns c = record {
  start = refl;
  end = refl;
  zeros = zero_bytes c.args.start c.args.end _ c.in_ok-table.table.items c.in_ok-bytes.bytes.items c.in_ok-table.ensures c.in_ok-bytes.ensures.items;
}
