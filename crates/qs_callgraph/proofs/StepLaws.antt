-- What a step of the search does.
use Rattle.std.proofs.Common.{◌≡◌, ℕ, zero, suc, ◌+◌, ◌<◌, ◌≤◌, ◌==◌, ◌||◌, ◌&&◌, Bool, true, false, List, [], ◌∷◌, ◌++◌, length, get_or, set, replicate, refl, sym, ap, ◌∙◌, subst, arith}
use Rattle.std.proofs.lemmas.Bool.{both_ways, or_right, false_from_ne_true}
use Rattle.std.proofs.lemmas.List.{append-nil, get_or-set_same}
use Rattle.std.specs.Prelude.{not}
use Rattle.qs_core.specs.CallGraph.{below, is_member}
use Rattle.qs_callgraph.specs.Orders.{DepthFirst, ended}
use Rattle.qs_callgraph.specs.CallLists.{callees_in, flag, numbers, IsGraph}
use Rattle.qs_callgraph.specs.Searches.{progress_of, is_new, steps_left, all_steps_left, Keeps, IsLinked, IsPathFrom, IsLast, IsCalleeAt, IsBegun, AreApart, Holds, HoldsIn, IsCycleIn, Finishes, FinishesIn, Sets, IsNewSearch, Moves, Visited}
use Rattle.qs_callgraph.specs.declared.search.Progress.{Progress}
use Rattle.qs_callgraph.specs.declared.search.Progress.TheVariants.{New, Open, Done}
use Rattle.qs_callgraph.specs.declared.search.Search.{Search}
use Rattle.qs_callgraph.proofs.MemberLaws.{member_first, member_last}
use Rattle.qs_callgraph.proofs.PathLaws.{linked_more, apart_last}
use Rattle.qs_callgraph.proofs.SearchLaws.{less, keeps, looks, begins, finishes, closes, starts, new_not_open, new_not_done}
use Rattle.qs_callgraph.proofs.DepthLaws.{finds_past, finds_inside, finds_last, finds_root, next_found, next_passed}

-- ---- members by their places

pub member_at : (fs : List ℕ) (i g : ℕ) → i < length fs → get_or fs i 0 ≡ g → is_member g fs ≡ true
member_at [] i g b e = absurd (omega (arith, b))
member_at (f ∷ fs) zero g b e = subst (λ (x : ℕ). is_member x (f ∷ fs) ≡ true) e (member_first f fs)
member_at (f ∷ fs) (suc i) g b e = or_right (f == g) (is_member g fs) (member_at fs i g (omega (arith, b)) e)

-- ---- the path from a function on

pub no_path : (path : List ℕ) (g : ℕ) (fs : List ℕ) → fs ≡ [] → is_member g path ≡ false → IsPathFrom path g fs
no_path path g fs e n = record {
  front = path;
  whole = sym (ap (λ (xs : List ℕ). path ++ xs) e ∙ append-nil path);
  first = λ m. absurd (both_ways (is_member g path) n m);
}

-- ---- steps

module _ (graph : List (List ℕ)) (has_spec : List Bool) where
  pub last_there : (old : Search) (f : ℕ) → IsLast (numbers old.path.items) f → is_member f (numbers old.path.items) ≡ true
  last_there old f l = subst (λ (xs : List ℕ). is_member f xs ≡ true) (sym l.whole) (member_last f l.front)

  pub last_begun : (old : Search) (f : ℕ) → HoldsIn graph has_spec old → IsLast (numbers old.path.items) f → IsBegun graph has_spec old.progress.items (numbers old.order.items) f
  last_begun old f h l = h.begun f (last_there old f l)

  pub callee_there : (f at g : ℕ) → IsGraph graph has_spec → IsCalleeAt (callees_in graph f) at g → g < length graph
  callee_there f at g is c = is.within f g (member_at (callees_in graph f) at g c.within c.is)

  at_search : (ps : List Progress) (path order : List ℕ) (new : Search) → new.progress.items ≡ ps → numbers new.path.items ≡ path → numbers new.order.items ≡ order → Holds graph has_spec ps path order → HoldsIn graph has_spec new
  at_search ps path order new a b c h =
      subst (λ (xs : List Progress). Holds graph has_spec xs (numbers new.path.items) (numbers new.order.items)) (sym a)
      (subst (λ (xs : List ℕ). Holds graph has_spec ps xs (numbers new.order.items)) (sym b) (subst (λ (xs : List ℕ). Holds graph has_spec ps path xs) (sym c) h))

  from_search :
      (ps : List Progress) (path order : List ℕ) (new : Search) (all : List ℕ) → new.progress.items ≡ ps → numbers new.path.items ≡ path → numbers new.order.items ≡ order
      → FinishesIn graph has_spec new all → Finishes (callees_in graph) (flag has_spec) ps path order all
  from_search ps path order new all a b c finish =
      subst (λ (xs : List Progress). Finishes (callees_in graph) (flag has_spec) xs path order all) a
      (subst (λ (xs : List ℕ). Finishes (callees_in graph) (flag has_spec) new.progress.items xs order all) b
      (subst (λ (xs : List ℕ). Finishes (callees_in graph) (flag has_spec) new.progress.items (numbers new.path.items) xs all) c finish))

  -- the last function of the path stands once
  last_apart : (old : Search) (f : ℕ) → HoldsIn graph has_spec old → (l : IsLast (numbers old.path.items) f) → is_member f l.front ≡ false
  last_apart old f h l = apart_last l.front f (subst AreApart l.whole h.apart)

  -- what isn't begun is neither on the path nor in the order
  new_apart : (old : Search) (g : ℕ) → HoldsIn graph has_spec old → progress_of old.progress.items g ≡ New → is_member g (numbers old.path.items) ≡ false
  new_apart old g h is = false_from_ne_true (is_member g (numbers old.path.items)) (λ k. let b = h.begun g k in new_not_open b.next (sym is ∙ b.is))

  new_unordered : (old : Search) (g : ℕ) → HoldsIn graph has_spec old → progress_of old.progress.items g ≡ New → is_member g (numbers old.order.items) ≡ false
  new_unordered old g h is = false_from_ne_true (is_member g (numbers old.order.items)) (λ k. new_not_done (sym is ∙ h.ordered g k))

  within_progress : (old : Search) (g : ℕ) → HoldsIn graph has_spec old → g < length graph → g < length old.progress.items
  within_progress old g h b = let m = h.many in omega (arith, m, b)

  -- what holds afterwards, and fewer steps are left
  moved :
      (old new : Search) (f : ℕ) (p q : Progress) (path order : List ℕ) → HoldsIn graph has_spec old → f < length graph
      → progress_of old.progress.items f ≡ q → steps_left (callees_in graph f) p < steps_left (callees_in graph f) q → is_new p ≡ false
      → Sets old new f p path order → Holds graph has_spec (set old.progress.items f p) path order
      → ((all : List ℕ) → Finishes (callees_in graph) (flag has_spec) (set old.progress.items f p) path order all → FinishesIn graph has_spec old all)
      → Moves graph has_spec old new
  moved old new f p q path order h b is l n s then finds = record {
    holds = at_search (set old.progress.items f p) path order new s.progress s.path_is s.order_is then;
    less = subst (λ (ps : List Progress). all_steps_left graph ps < all_steps_left graph old.progress.items) (sym s.progress)
        (less graph old.progress.items f p b h.many (subst (λ (r : Progress). steps_left (callees_in graph f) p < steps_left (callees_in graph f) r) (sym is) l));
    kept = subst (Keeps old.progress.items) (sym s.progress) (keeps old.progress.items f p (let m = h.many in omega (arith, m, b)) n);
    finds = λ all finish. finds all (from_search (set old.progress.items f p) path order new all s.progress s.path_is s.order_is finish);
  }

  pub look_moves :
      (old new : Search) (f at g : ℕ) → HoldsIn graph has_spec old → IsLast (numbers old.path.items) f → progress_of old.progress.items f ≡ Open at
      → IsCalleeAt (callees_in graph f) at g → (flag has_spec g ≡ false → is_member g (numbers old.order.items) ≡ true)
      → Sets old new f (Open (at + 1)) (numbers old.path.items) (numbers old.order.items) → Moves graph has_spec old new
  look_moves old new f at g h l is c done s =
      let b = c.within in
      moved old new f (Open (at + 1)) (Open at) (numbers old.path.items) (numbers old.order.items) h (last_begun old f h l).within is
      (omega (arith, b)) refl s
      (looks graph has_spec old.progress.items (numbers old.path.items) (numbers old.order.items) f at g h (last_there old f l) is c.within c.is done)
      (λ all finish. finds_past (callees_in graph) (flag has_spec) old.progress.items (numbers old.path.items) l.front (numbers old.order.items) all f at g l.whole (last_apart old f h l)
      (within_progress old f h (last_begun old f h l).within) is c.within c.is (over (flag has_spec g) (is_member g (numbers old.order.items)) done) finish)
    where
      over : (a b : Bool) → (a ≡ false → b ≡ true) → (a || b) ≡ true
      over true b k = refl
      over false b k = k refl

  pub begin_moves :
      (old new : Search) (f at g : ℕ) → IsGraph graph has_spec → HoldsIn graph has_spec old → IsLast (numbers old.path.items) f
      → IsCalleeAt (callees_in graph f) at g → flag has_spec g ≡ false → progress_of old.progress.items g ≡ New
      → Sets old new g (Open 0) (numbers old.path.items ++ g ∷ []) (numbers old.order.items)
      → progress_of old.progress.items f ≡ Open at → Moves graph has_spec old new
  begin_moves old new f at g graphs h l c free is s at_is =
      let b = callee_there f at g graphs c in
      let linked : IsLinked (callees_in graph) (numbers old.path.items ++ g ∷ []) =
      subst (λ (xs : List ℕ). IsLinked (callees_in graph) (xs ++ g ∷ [])) (sym l.whole)
      (linked_more (callees_in graph) l.front f g (subst (IsLinked (callees_in graph)) l.whole h.linked) (member_at (callees_in graph f) at g c.within c.is)) in
      moved old new g (Open 0) New (numbers old.path.items ++ g ∷ []) (numbers old.order.items) h b is (omega arith) refl s
      (begins graph has_spec old.progress.items (numbers old.path.items) (numbers old.order.items) g h b free is linked)
      (λ all finish. finds_inside (callees_in graph) (flag has_spec) old.progress.items (numbers old.path.items) l.front (numbers old.order.items) all f at g l.whole (new_apart old g h is)
      (within_progress old g h b) at_is c.within c.is free (new_unordered old g h is) finish)

  pub finish_moves :
      (old new : Search) (f at : ℕ) → HoldsIn graph has_spec old → (l : IsLast (numbers old.path.items) f) → progress_of old.progress.items f ≡ Open at
      → length (callees_in graph f) ≤ at
      → ((front : List ℕ) → numbers old.path.items ≡ front ++ f ∷ [] → Sets old new f Done front (numbers old.order.items ++ f ∷ [])) → Moves graph has_spec old new
  finish_moves old new f at h l is all s =
      let begun = last_begun old f h l in
      let at_most = begun.at_most in
      let left : steps_left (callees_in graph f) Done < steps_left (callees_in graph f) (Open begun.next) = omega (arith, at_most) in
      moved old new f Done (Open begun.next) l.front (numbers old.order.items ++ f ∷ []) h begun.within begun.is left refl (s l.front l.whole)
      (finishes graph has_spec old.progress.items l.front (numbers old.order.items) f at
      (subst (λ (xs : List ℕ). Holds graph has_spec old.progress.items xs (numbers old.order.items)) l.whole h) is all)
      (λ whole finish. finds_last (callees_in graph) (flag has_spec) old.progress.items (numbers old.path.items) l.front (numbers old.order.items) whole f at l.whole (last_apart old f h l) is all finish)

  pub closes_cycle :
      (old : Search) (f at g i : ℕ) (fs : List ℕ) → HoldsIn graph has_spec old → IsLast (numbers old.path.items) f
      → IsCalleeAt (callees_in graph f) at g → progress_of old.progress.items g ≡ Open i → IsPathFrom (numbers old.path.items) g fs → IsCycleIn graph has_spec fs
  closes_cycle old f at g i fs h l c is from =
      closes graph has_spec old.progress.items (numbers old.path.items) (numbers old.order.items) f g fs h l
      (member_at (callees_in graph f) at g c.within c.is) (h.on_path g i is) from

  -- ---- visits

  -- the root is begun
  pub record RootBegun (old new : Search) (root : ℕ) : Type 0 where
    pub holds : HoldsIn graph has_spec new
    pub root_begun : is_new (progress_of new.progress.items root) ≡ false
    pub kept : Keeps old.progress.items new.progress.items
    pub finds : (all : List ℕ) → FinishesIn graph has_spec new all → DepthFirst (callees_in graph) (flag has_spec) (numbers old.order.items) (root ∷ []) all

  pub root_begins :
      (old new : Search) (root : ℕ) → HoldsIn graph has_spec old → numbers old.path.items ≡ [] → root < length graph → flag has_spec root ≡ false
      → progress_of old.progress.items root ≡ New → Sets old new root (Open 0) (numbers old.path.items ++ root ∷ []) (numbers old.order.items) → RootBegun old new root
  root_begins old new root h empty b free is s =
      let linked : IsLinked (callees_in graph) (numbers old.path.items ++ root ∷ []) =
      subst (λ (xs : List ℕ). IsLinked (callees_in graph) (xs ++ root ∷ [])) (sym empty) tt in
      let ps = set old.progress.items root (Open 0) in
      let w = within_progress old root h b in
      record {
        holds = at_search ps (numbers old.path.items ++ root ∷ []) (numbers old.order.items) new s.progress s.path_is s.order_is
            (begins graph has_spec old.progress.items (numbers old.path.items) (numbers old.order.items) root h b free is linked);
        root_begun = ap (λ (ps : List Progress). is_new (progress_of ps root)) s.progress ∙ ap is_new (get_or-set_same old.progress.items root (Open 0) New w);
        kept = subst (Keeps old.progress.items) (sym s.progress) (keeps old.progress.items root (Open 0) w refl);
        finds = λ all finish. finds_root (callees_in graph) (flag has_spec) old.progress.items (numbers old.order.items) all root w free (new_unordered old root h is)
            (from_search ps (root ∷ []) (numbers old.order.items) new all s.progress (s.path_is ∙ ap (λ (xs : List ℕ). xs ++ root ∷ []) empty) s.order_is finish);
      }

  -- ---- the search through all

  pub none_found : (search : Search) → numbers search.order.items ≡ [] → DepthFirst (callees_in graph) (flag has_spec) [] (below 0) (numbers search.order.items)
  none_found search e = subst (λ (xs : List ℕ). DepthFirst (callees_in graph) (flag has_spec) [] [] xs) (sym e) ended

  pub not_due :
      (search : Search) (i : ℕ) → HoldsIn graph has_spec search → numbers search.path.items ≡ []
      → (not (flag has_spec i) && is_new (progress_of search.progress.items i)) ≡ false
      → DepthFirst (callees_in graph) (flag has_spec) [] (below i) (numbers search.order.items)
      → DepthFirst (callees_in graph) (flag has_spec) [] (below (i + 1)) (numbers search.order.items)
  not_due search i h empty due d =
      next_passed (callees_in graph) (flag has_spec) (numbers search.order.items) i d (by (flag has_spec i) (progress_of search.progress.items i) refl due)
    where
      by : (b : Bool) (p : Progress) → progress_of search.progress.items i ≡ p → (not b && is_new p) ≡ false → (b || is_member i (numbers search.order.items)) ≡ true
      by true p is k = refl
      by false New is k = absurd (both_ways true k refl)
      by false (Open j) is k = absurd (both_ways false refl (subst (λ (xs : List ℕ). is_member i xs ≡ true) empty (h.on_path i j is)))
      by false Done is k = h.done i is

  pub new_holds : (count : ℕ) (search : Search) → count ≡ length graph → IsNewSearch count search → HoldsIn graph has_spec search
  new_holds count search e s =
      at_search (replicate (length graph) New) [] [] search (s.progress ∙ ap (λ (n : ℕ). replicate n New) e) s.path s.order (starts graph has_spec)

  pub next_visited :
      (old new : Search) (i root : ℕ) → DepthFirst (callees_in graph) (flag has_spec) [] (below i) (numbers old.order.items) → root ≡ i
      → Visited graph has_spec root old new → DepthFirst (callees_in graph) (flag has_spec) [] (below (i + 1)) (numbers new.order.items)
  next_visited old new i root d e v =
      next_found (callees_in graph) (flag has_spec) (numbers old.order.items) (numbers new.order.items) i d
      (subst (λ (f : ℕ). DepthFirst (callees_in graph) (flag has_spec) (numbers old.order.items) (f ∷ []) (numbers new.order.items)) e v.finds)
