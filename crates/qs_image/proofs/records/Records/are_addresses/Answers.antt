use Rattle.std.proofs.Common.{rules, refl}
use borrow.Author.Tests.{tests}
use Rattle.std.proofs.lemmas.Iterator.Search.{all_from_yields_List}
use Rattle.std.proofs.lemmas.Iterator.Consumers.{YieldsList-from_first}
use Rattle.qs_image.specs.Faults.{is_address}
use Rattle.qs_image.specs.View.{record_of, records_left}
use Rattle.qs_image.proofs.records.Records.are_addresses.Goals as goal

pub returns : goal.returns
returns c = all_from_yields_List (λ f. is_address c.args.count f.address) c.all.new.self _ _ c.all.ensures.ran (YieldsList-from_first record_of records_left {s = c.args.self.now} (records_left c.args.self.now) refl) (λ x b q k. search (rules, tests))
