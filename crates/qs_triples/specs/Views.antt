-- What the parts of the code's walk are.
use Rattle.std.specs.List.{slice_get, find}
use Rattle.std.specs.Prelude.{◌≡◌, ℕ, List, map, option_map, Option, Some, None, MatchOption, Result, Ok, Err}
use Rattle.std.specs.Borrow.{Bor}
use Rattle.qs_core.specs.Trees.{CoreFunctionTree}
use Rattle.qs_core.specs.TreeOf.{function_tree}
use Rattle.qs_triples.specs.Derivations.{SpecTree, EntryTree, is_entry_of, spec_of}
use Rattle.qs_triples.specs.Rules as rules
use Rattle.qs_triples.specs.TreeOf.{entry_tree, spec_tree}
use Rattle.qs_triples.specs.Told.{FailsAs}
use Rattle.qs_triples.specs.declared.failure.Failure.{Failure}
use Rattle.qs_triples.specs.declared.posts.Known.{Known}
use Rattle.qs_triples.specs.declared.derivation.FunctionProof.{FunctionProof}
use Rattle.qs_triples.specs.declared.posts.Posts.{Posts}
use Rattle.qs_triples.specs.declared.posts.Scope.{Scope}

abbrev pub posts_view : Posts → rules.Posts
posts_view q = record {
  next = q.next.now;
  on_break = q.on_break.now;
  on_continue = q.on_continue.now;
  on_return = q.on_return.now;
}

abbrev pub scope_view : Scope → rules.Scope
scope_view c = record {
  resource = c.resource;
  function = function_tree c.function.now;
  functions = map function_tree c.functions.now;
  specs = spec_of (record { defines = c.defines.now; functions = map entry_tree c.entries.now });
  defines = c.defines.now;
}

abbrev pub known_view : Known → rules.Known
known_view k = record { function = function_tree k.function.now; spec = spec_tree k.spec.now }

abbrev pub callee_in : Scope → (function : ℕ) → Option CoreFunctionTree
callee_in c g = slice_get (scope_view c).functions g

-- what is due is found, seen by `view`, or there is none
abbrev pub Finds : {X Y : Type 0} → Option (Bor X) → (X → Y) → (due : Option Y) → Type 0
Finds found view due = MatchOption found (due ≡ None) (λ x. due ≡ Some (view x.now))

-- the first entry of the function
abbrev pub entry_in : List FunctionProof → (function : ℕ) → Option EntryTree
entry_in entries g = find (is_entry_of g) (map entry_tree entries)

abbrev pub spec_in : List FunctionProof → (function : ℕ) → Option SpecTree
spec_in entries g = option_map (λ e. e.spec) (entry_in entries g)

-- the callee and its specification, or the answer is that there is none, whatever the rule
abbrev pub IsKnown : Result Known Failure → (g : ℕ) → Option CoreFunctionTree → Option SpecTree → Type 0
IsKnown (Ok k) g function spec = (function ≡ Some (known_view k).function) × (spec ≡ Some (known_view k).spec)
IsKnown (Err failure) g function spec = (rule : rules.Known → rules.Answer) → FailsAs failure (rules.of_spec g function spec rule)
