use Rattle.std.proofs.Common.{map, arith}
use Rattle.qs_image.specs.Image.{FunctionRecord}
use Rattle.qs_compile.proofs.RecordLaws.{all_done, names_done, counts_done}
use Rattle.qs_compile.proofs.records.records.Goals as goal

pub returns : goal.returns
returns c =
    let at = c.requires.addresses in
    let take = c.requires.costs in
    let end = c.loop-f-test.false in
    record {
      names = names_done (map (λ (r : FunctionRecord). r.name) c.loop-f.all.items) c.args.functions.now c.loop-f.f end c.loop-f.invariant.0;
      addresses = all_done (map (λ (r : FunctionRecord). r.address) c.loop-f.all.items) c.args.addresses.now c.loop-f.f (omega (arith, at, end)) c.loop-f.invariant.1.0;
      costs = all_done (map (λ (r : FunctionRecord). r.cost) c.loop-f.all.items) c.args.costs.now c.loop-f.f (omega (arith, take, end)) c.loop-f.invariant.1.1.0;
      counts = counts_done (map (λ (r : FunctionRecord). r.parameters) c.loop-f.all.items) c.args.functions.now c.loop-f.f end c.loop-f.invariant.1.1.1;
    }
