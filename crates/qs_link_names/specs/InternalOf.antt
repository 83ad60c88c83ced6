-- Names with internal linkage as the code holds them.
use Rattle.std.specs.Prelude.{map}
use Rattle.qs_link_names.specs.Linkage.{Internal}
use Rattle.qs_link_names.specs.declared.linkage.Internal as code

abbrev pub internal_of : code.Internal → Internal
internal_of own = record { file = own.file; names = own.names.now.keys; hidden = map (λ name. name.now) own.hidden.items }
