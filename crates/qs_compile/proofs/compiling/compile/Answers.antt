use Rattle.qs_compile.proofs.compiling.compile.Goals as goal

pub returns : goal.returns
returns c = c.in_ok-image.ensures c.args.typed.now c.in_ok-core.ensures
