-- Types with stars, and scopes that end.
use Rattle.std.proofs.Common.{◌≡◌, ℕ, ◌+◌, ◌-◌, List, ◌++◌, length, take, drop, sym, ap, ◌∙◌, arith, add-one}
use Rattle.std.proofs.lemmas.List.{length-append, take_at, drop_at}
use Rattle.qs_types.specs.Types.{TypeTree, pointer}
use Rattle.qs_types.specs.Contexts.{Context, Binding, pointers}
use Rattle.qs_typing_findings.specs.ContextOf.{Surroundings, outer_scope}

-- ---- stars

pub one_star : (n : ℕ) (t : TypeTree) → pointers (n + 1) t ≡ pointer (pointers n t)
one_star n t = ap (λ k. pointers k t) (add-one n)

-- ---- scopes that end

abbrev pub scoped : Context → List Binding → List Binding → Surroundings → Context
scoped c inner outer around = record c { inner = inner; outer = outer; in_loop = around.in_loop; in_switch = around.in_switch; labels = around.labels }

pub scope_left : (c : Context) (inner outer : List Binding) (around : Surroundings) → inner ++ outer ≡ c.outer → length outer ≡ around.names → scoped c inner outer around ≡ outer_scope around c
scope_left c inner outer around e n =
    let k = around.names in
    let m : length inner + length outer ≡ length c.outer = sym (length-append inner outer) ∙ ap length e in
    let a : length inner ≡ length c.outer - k = omega arith in
    let f : inner ≡ take (length c.outer - k) c.outer = sym (take_at inner outer (length c.outer - k) a) ∙ ap (take (length c.outer - k)) e in
    let g : outer ≡ drop (length c.outer - k) c.outer = sym (drop_at inner outer (length c.outer - k) a) ∙ ap (drop (length c.outer - k)) e in
    λ j. scoped c (f j) (g j) around
