-- A type by its parts.
use Rattle.std.proofs.Common.{◌≡◌, List, Ok, refl}
use Rattle.qs_syntax_vocabulary.specs.declared.terminal.Terminal.{Terminal}
use Rattle.qs_parser_grammar.specs.Parse.{read_on, base, skip_consts, type}

pub type_is : (ts : List Terminal) → type ts ≡ read_on (base (skip_consts ts)) (λ b us. Ok (b, skip_consts us))
unfolding type
type_is ts = refl
