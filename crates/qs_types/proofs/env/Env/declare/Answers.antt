use Rattle.std.proofs.Common.{refl, is_ok}
use Rattle.qs_types.proofs.StructLayouts.{pushed_keeps, pushed_whole}
use Rattle.qs_types.proofs.env.Env.declare.Goals as goal

pub invariant_of-self : goal.invariant_of-self
invariant_of-self c =
    let s = c.args.self.now in
    record {
      laid_out = pushed_keeps (is_ok c.push.result) s.structs.items c.push.new.self.items _ c.push.ensures.items s.laid_out refl refl;
      whole = pushed_whole (is_ok c.push.result) s.structs.items c.push.new.self.items _ c.push.ensures.items s.whole refl;
    }
