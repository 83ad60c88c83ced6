use Rattle.std.proofs.Common.{◌≡◌, ◌<◌, ◌^◌, length, arith, ◌∙◌}
use Rattle.qs_machine.specs.Hart.{nothing}
use Rattle.qs_machine.proofs.Starts.{data-more, no_data}
use Rattle.qs_machine.proofs.loading.data_pages.Goals as goal

pub loop-i-init : goal.loop-i-init
loop-i-init c =
    let zeros = c.in_ok-pages.ensures in
    let ends = zeros.end in
    let count = c.byte_count-count.ensures.value in
    record {
      start = zeros.start;
      end = omega (arith, ends, count);
      bytes = zeros.zeros ∙ no_data c.args.image.now.bytes;
    }

pub loop-i-preserved : goal.loop-i-preserved
loop-i-preserved c =
    let count = c.byte_count-count.ensures.value in
    let i = c.loop-i.i in
    let items = c.args.image.now.bytes in
    let test = c.loop-i-test.true in
    let lt : i < length items = omega (arith, count, test) in
    let from = c.from.ensures in
    let range = c.bytes.type_inv in
    let small : c.from.result < 2 ^ 8 = omega (arith, from, range) in
    record {
      start = c.write.ensures.start ∙ c.loop-i.invariant.start;
      end = c.write.ensures.end ∙ c.loop-i.invariant.end;
      bytes = c.write.ensures.bytes nothing ∙ data-more items i c.from.result _ lt (c.from.ensures ∙ c.bytes.ensures) small c.loop-i.invariant.bytes;
    }
