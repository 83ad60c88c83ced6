-- Lists with each of their elements once, as sets in code hold them.
use Rattle.std.specs.Prelude.{ℕ, ◌==◌, List, []}
use Rattle.indexmap.specs.IndexSet.{insert_all}
use Rattle.qs_base.specs.Bytes.{same_bytes}

abbrev pub nodes_once : List ℕ → List ℕ
nodes_once nodes = insert_all ◌==◌ [] nodes

abbrev pub names_once : List (List ℕ) → List (List ℕ)
names_once names = insert_all same_bytes [] names
