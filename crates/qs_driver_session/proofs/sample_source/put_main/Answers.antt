use Rattle.qs_driver_session.proofs.sample_source.put_main.Goals as goal

pub returns : goal.returns
returns c = c.put_between.ensures
