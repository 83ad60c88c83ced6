use Rattle.std.proofs.Common.{rules, refl}
use borrow.Author.Tests.{tests}
use Rattle.std.specs.Prelude.{bytes_eq}
use Rattle.std.proofs.lemmas.Iterator.Search.{any_from_yields_List}
use Rattle.std.proofs.lemmas.Iterator.Consumers.{YieldsList-from_first}
use Rattle.qs_image.specs.View.{record_of, records_left}
use Rattle.qs_image.proofs.records.Records.has_name.Goals as goal

pub returns : goal.returns
returns c = any_from_yields_List (λ f. bytes_eq f.name c.args.name.now) c.any.new.self _ _ c.any.ensures.ran (YieldsList-from_first record_of records_left {s = c.args.self.now} (records_left c.args.self.now) refl) (λ x b q k. search (rules, tests))
