-- What stands for several plans, one after the other.
use Rattle.std.proofs.Common.{◌≡◌, ℕ, ◌+◌, ◌<◌, max, Bool, true, false, if◌then◌else◌, List, [], ◌∷◌, ◌++◌, length, append_assoc, Option, Some, None, IsSome, refl, sym, ap, ◌∙◌, arith}
use Rattle.std.specs.Prelude.{◌||◌}
use Rattle.std.proofs.Math.Bool.{or_assoc}
use Rattle.qs_core.specs.declared.labels.CoreLabel.{CoreLabel}
use Rattle.qs_tac.specs.Trees.{InstructionTree}
use Rattle.qs_lower_expressions.specs.Expressions.{ExprCode}
use Rattle.qs_lower.specs.Statements.{Part, Tested, StmtCode, Way, Exits, Falls, leaves, is_break, before, redirected, next_falls, tested_behind, of_before, of_ways, of_both, joined_before, entries, of_switch, but_last, last_of, of_all_parts}
use Rattle.qs_lower.specs.StmtPlans.{idle_in, idle_of, test_in, test_at_end, tested_of, sizes_before, code_before, most_used, some_breaks, redirected_to, all_joined, joined_to, put_before, all_before}

pub joined_ends : (ss : List StmtCode) (last : StmtCode) → (joined_before ss last).ends ≡ last.ends
joined_ends [] last = refl
joined_ends (s ∷ ss) last = joined_ends ss last

pub joined_breaks : (ss : List StmtCode) (last : StmtCode) → (joined_before ss last).breaks ≡ (some_breaks ss || last.breaks)
joined_breaks [] last = refl
joined_breaks (s ∷ ss) last =
    ap (λ (b : Bool). s.breaks || b) (joined_breaks ss last) ∙ sym (or_assoc s.breaks (some_breaks ss) last.breaks)

pub joined_used : (ss : List StmtCode) (last : StmtCode) → (joined_before ss last).used ≡ max (most_used ss) last.used
joined_used [] last = grind arith
joined_used (s ∷ ss) last =
    let rest : (joined_before ss last).used ≡ max (most_used ss) last.used = joined_used ss last in
    ap (max s.used) rest ∙ grind arith

pub joined_size : (ss : List StmtCode) (last : StmtCode) (y : Falls) → (joined_before ss last).part.size y ≡ sizes_before ss + last.part.size y
joined_size [] last y = omega arith
joined_size (s ∷ ss) last y =
    let rest : (joined_before ss last).part.size y ≡ sizes_before ss + last.part.size y = joined_size ss last y in
    ap (λ (n : ℕ). s.part.size next_falls + n) rest ∙ omega arith

pub joined_code :
    (ss : List StmtCode) (last : StmtCode) (x : Exits) (at : ℕ)
    → (joined_before ss last).part.code x at ≡ code_before ss last x at ++ last.part.code x (at + sizes_before ss)
joined_code [] last x at =
    let same : at ≡ at + 0 = omega arith in
    ap (last.part.code x) same
joined_code (s ∷ ss) last x at =
    let second : ℕ = at + s.part.size next_falls in
    let first : List InstructionTree = s.part.code (before ((joined_before ss last).part.entry second) x) at in
    let same : second + sizes_before ss ≡ at + (s.part.size next_falls + sizes_before ss) = omega arith in
    ap (λ (l : List InstructionTree). first ++ l)
    (joined_code ss last x second ∙ ap (λ (n : ℕ). code_before ss last x second ++ last.part.code x n) same)
    ∙ sym (append_assoc first (code_before ss last x second) (last.part.code x (at + (s.part.size next_falls + sizes_before ss))))

-- ---- the test at the end

idle_behind : (a : Part) (o : Option Tested) → idle_in (tested_behind a o) ≡ idle_in o
idle_behind a None = refl
idle_behind a (Some d) = refl

pub joined_idle : (ss : List StmtCode) (last : StmtCode) → idle_of (joined_before ss last) ≡ idle_of last
joined_idle [] last = refl
joined_idle (s ∷ ss) last = idle_behind s.part (joined_before ss last).tested ∙ joined_idle ss last

test_behind : (a : Part) (o : Option Tested) → test_in (tested_behind a o) ≡ tested_behind a (test_in o)
test_behind a None = refl
test_behind a (Some d) = refl

pub joined_test :
    (ss : List StmtCode) (last front rest : StmtCode) (test : ExprCode) → test_at_end last ≡ Some (tested_of front test rest)
    → test_at_end (joined_before ss last) ≡ Some (tested_of (joined_before ss front) test rest)
joined_test [] last front rest test h = h
joined_test (s ∷ ss) last front rest test h =
    test_behind s.part (joined_before ss last).tested ∙ ap (tested_behind s.part) (joined_test ss last front rest test h)

has_behind : (a : Part) (o : Option Tested) → IsSome (test_in (tested_behind a o)) → IsSome (test_in o)
has_behind a None h = h
has_behind a (Some d) h = refl

pub joined_has_test : (ss : List StmtCode) (last : StmtCode) → IsSome (test_at_end (joined_before ss last)) → IsSome (test_at_end last)
joined_has_test [] last h = h
joined_has_test (s ∷ ss) last h = joined_has_test ss last (has_behind s.part (joined_before ss last).tested h)

-- ---- what is left out

pub last_apart : (ss : List StmtCode) (last : StmtCode) → all_joined (ss ++ last ∷ []) ≡ joined_to ss last
last_apart [] last = refl
last_apart (s ∷ []) last = refl
last_apart (s ∷ r ∷ ss) last = ap (of_both s) (last_apart (r ∷ ss) last)

-- what stands behind one that ends
pub ends_there : (s rest : StmtCode) → s.ends ≡ true → of_both s rest ≡ s
ends_there s rest h = ap (λ (b : Bool). if b then s else of_ways s.way s rest) h

before_same : (s rest : StmtCode) (o : Option Way) → s.way ≡ None → of_before s o rest ≡ put_before s o rest
before_same s rest None h = refl
before_same s rest (Some w) h =
    ap
    (λ (o : Option Way). record { part = redirected s.part w; used = s.used; way = o; ends = rest.ends; breaks = s.breaks || rest.breaks; tested = None })
    h

pub is_put : (s rest : StmtCode) → s.ends ≡ false → s.way ≡ None → of_both s rest ≡ put_before s rest.way rest
is_put s rest h e =
    ap (λ (b : Bool). if b then s else of_ways s.way s rest) h
    ∙ ap (λ (o : Option Way). of_ways o s rest) e
    ∙ before_same s rest rest.way e

pub one_more : (ss : List StmtCode) (s rest : StmtCode) → all_before (ss ++ s ∷ []) rest ≡ all_before ss (put_before s rest.way rest)
one_more [] s rest = refl
one_more (t ∷ ss) s rest =
    ap (λ (r : StmtCode). put_before t r.way r) (one_more ss s rest)

-- ---- what is made of them

way_of_joined : (ss : List StmtCode) (last : StmtCode) → last.way ≡ None → (joined_before ss last).way ≡ None
way_of_joined [] last h = h
way_of_joined (s ∷ ss) last h = refl

pub all_before_plain : (ss : List StmtCode) (last : StmtCode) → last.way ≡ None → all_before ss last ≡ joined_before ss last
all_before_plain [] last h = refl
all_before_plain (s ∷ ss) last h =
    ap (λ (r : StmtCode). put_before s r.way r) (all_before_plain ss last h)
    ∙ ap (λ (o : Option Way). put_before s o (joined_before ss last)) (way_of_joined ss last h)

put_way : (s last : StmtCode) (w : Way) → last.way ≡ Some w → last.ends ≡ leaves w → last.breaks ≡ is_break w → put_before s last.way last ≡ redirected_to s w
put_way s last w h e b =
    ap (λ (o : Option Way). put_before s o last) h
    ∙ ap
    (λ (ends : Bool). record { part = redirected s.part w; used = s.used; way = None; ends = ends; breaks = s.breaks || last.breaks; tested = None })
    e
    ∙ ap
    (λ (breaks : Bool). record { part = redirected s.part w; used = s.used; way = None; ends = leaves w; breaks = s.breaks || breaks; tested = None })
    b

pub all_before_way :
    (ss : List StmtCode) (s last : StmtCode) (w : Way) → last.way ≡ Some w → last.ends ≡ leaves w → last.breaks ≡ is_break w
    → all_before (ss ++ s ∷ []) last ≡ joined_before ss (redirected_to s w)
all_before_way ss s last w h e b =
    one_more ss s last ∙ ap (all_before ss) (put_way s last w h e b) ∙ all_before_plain ss (redirected_to s w) refl

pub several_go_nowhere : (ss : List StmtCode) (last : StmtCode) → 0 < length ss → (joined_before ss last).way ≡ None
several_go_nowhere [] last h = absurd (omega arith)
several_go_nowhere (s ∷ ss) last h = refl

-- ---- the parts of a switch

but_last_is : (ss : List StmtCode) (last : StmtCode) → but_last (ss ++ last ∷ []) ≡ ss
but_last_is [] last = refl
but_last_is (s ∷ []) last = refl
but_last_is (s ∷ r ∷ ss) last = ap (λ (l : List StmtCode). s ∷ l) (but_last_is (r ∷ ss) last)

last_is : (ss : List StmtCode) (last : StmtCode) → last_of (ss ++ last ∷ []) ≡ last
last_is [] last = refl
last_is (s ∷ []) last = refl
last_is (s ∷ r ∷ ss) last = last_is (r ∷ ss) last

pub parts_apart : (t : ℕ) (e : ExprCode) (labels : List CoreLabel) (ss : List StmtCode) (last : StmtCode) → of_all_parts t e labels (ss ++ last ∷ []) ≡ of_switch t e labels ss last
parts_apart t e labels ss last =
    ap (λ (l : List StmtCode). of_switch t e labels l (last_of (ss ++ last ∷ []))) (but_last_is ss last)
    ∙ ap (of_switch t e labels ss) (last_is ss last)

pub entries_at : (all : List ℕ) (s : StmtCode) (ss : List StmtCode) (last : StmtCode) (at : ℕ) → (all ++ s.part.entry at ∷ []) ++ entries ss last (at + s.part.size next_falls) ≡ all ++ entries (s ∷ ss) last at
entries_at all s ss last at = append_assoc all (s.part.entry at ∷ []) (entries ss last (at + s.part.size next_falls))
