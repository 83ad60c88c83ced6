use Rattle.qs_tasks_list.proofs.listing.Said.add.Goals as goal

pub returns-in-Arrival : goal.returns-in-Arrival
returns-in-Arrival c = rw c.in-Arrival.is (c.add_arrival.ensures c.args.unit.now)
