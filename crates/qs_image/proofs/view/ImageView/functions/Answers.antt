use Rattle.std.proofs.Common.{refl, ap, sym, ◌∙◌}
use Rattle.std.specs.Option.{option_map}
use Rattle.std.proofs.lemmas.Iterator.Consumers.{YieldsList-from_first, nth_from_yields_List}
use Rattle.qs_image.specs.View.{record_of, records_left}
use Rattle.qs_image.proofs.view.ImageView.functions.Goals as goal

pub returns : goal.returns
returns c =
    let found = nth_from_yields_List {v = record_of} c.nth.result c.nth.new.self _ c.nth.ensures.ran (YieldsList-from_first record_of records_left {s = c.records.result} (records_left c.records.result) refl) in
    rw (← c.self.view_is, ← c.records.ensures.records) (sym found ∙ ap (option_map record_of) c.unwrap.ensures)
