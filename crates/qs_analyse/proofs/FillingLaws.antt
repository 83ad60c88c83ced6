-- What is given is filled in one way.
use Rattle.std.proofs.Common.{◌≡◌, ℕ, Bool, List, ◌++◌, filter, map, sym, ap, ◌∙◌}
use Rattle.std.proofs.Math.Path.{fun_ext}
use Rattle.std.specs.Cmp.{both_ways}
use Rattle.qs_assert.specs.declared.define.Define.{Define}
use Rattle.qs_core.specs.Trees.{CoreUnitTree}
use Rattle.qs_triples.specs.Derivations.{EntryTree, ProofsTree}
use Rattle.qs_triples.specs.Entries.{has_entry}
use Rattle.qs_triples.specs.Filled.{open_definition}
use Rattle.qs_callgraph.specs.CallLists.{flag, numbers}
use Rattle.qs_callgraph.specs.Opens.{TellsOpen}
use Rattle.qs_callgraph.proofs.DepthLaws.{one_depth_first}
use Rattle.qs_analyse.specs.Fillable.{with_entries}
use Rattle.qs_analyse.specs.Laws.{OneFilling}

same_open : (u : CoreUnitTree) (has_spec p q : ℕ → Bool) → TellsOpen u has_spec p → TellsOpen u has_spec q → p ≡ q
same_open u has_spec p q a b =
    fun_ext (λ f. both_ways (p f) (q f) (λ h. b.all_there f (a.open_ones f h)) (λ h. a.all_there f (b.open_ones f h)))

same_proofs : (p q : ProofsTree) → p.defines ≡ q.defines → p.functions ≡ q.functions → p ≡ q
same_proofs p q defines functions =
    ap (λ (ds : List Define). proofs_of ds p.functions) defines ∙ ap (λ (es : List EntryTree). proofs_of q.defines es) functions
  where
    proofs_of : List Define → List EntryTree → ProofsTree
    proofs_of ds es = record { defines = ds; functions = es }

pub one_filling : OneFilling
one_filling u given proofs others a b =
    let order : numbers a.additions.functions.items ≡ numbers b.additions.functions.items =
    one_depth_first u (has_entry given) (numbers a.additions.functions.items) (numbers b.additions.functions.items) a.are.depth_first b.are.depth_first in
    let open_ones : flag a.additions.is_open.items ≡ flag b.additions.is_open.items =
    same_open u (has_entry given) (flag a.additions.is_open.items) (flag b.additions.is_open.items) a.are.tells_open b.are.tells_open in
    let opened : numbers a.additions.opened.items ≡ numbers b.additions.opened.items =
    a.are.opened ∙ ap (λ (is_open : ℕ → Bool). filter is_open (numbers a.additions.functions.items)) open_ones
    ∙ ap (filter (flag b.additions.is_open.items)) order ∙ sym b.are.opened in
    same_proofs proofs others
    (a.extends.defines ∙ ap (λ (fs : List ℕ). map (open_definition u) fs ++ given.defines) opened ∙ sym b.extends.defines)
    (a.extends.functions ∙ ap (λ (is_open : ℕ → Bool). with_entries u is_open given.functions (numbers a.additions.functions.items)) open_ones
    ∙ ap (with_entries u (flag b.additions.is_open.items) given.functions) order ∙ sym b.extends.functions)
