-- Uses of names: a test of all is one of each part.
use Rattle.std.proofs.lemmas.List.Folds.{list_all-append}

pub ruleset use_laws = (list_all-append)
