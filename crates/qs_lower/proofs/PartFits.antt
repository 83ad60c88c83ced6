-- The code of parts of statements fits: of what goes on, of one part behind another, and of branches.
use Rattle.std.proofs.Common.{◌≡◌, ℕ, ◌+◌, ◌<◌, ◌≤◌, Bool, true, false, List, ◌++◌, length, Option, Some, None, refl, sym, ap, ◌∙◌, subst, arith}
use Rattle.std.specs.Prelude.{◌&&◌, ◌||◌, not, if◌then◌else◌}
use Rattle.std.proofs.lemmas.Bool.{or_right}
use Rattle.qs_tac.specs.Trees.{InstructionTree, TacFunctionTree, TacUnitTree}
use Rattle.qs_lower_expressions.specs.Exits.{Exit, falls, goes, is_fall, settled, exit_size, exit_code}
use Rattle.qs_lower_expressions.specs.Expressions.{ExprCode}
use Rattle.qs_lower.specs.Statements.{Exits, falls_of, before, elsewhere, next_falls, none_falls, Way, to_next, to_break, to_continue, exit_to, falls_to, leaves, is_break, Part, Tested, StmtCode, going, joined, redirected, straight, by_way, tested_behind, of_joined, of_before, of_ways, of_both, branch_part, test_of, is_next, of_branch}
use Rattle.qs_lower_expressions.proofs.ExprFits.{Fit, fit_both, Lands, Behind, lands_behind, settled_lands, exit_fits, test_starts, ExprFits}

-- which exits of a part may be taken
pub record Taken : Type 0 where
  pub next : Bool
  pub on_break : Bool
  pub on_continue : Bool

-- where a code never comes to what is next that exit isn't taken
abbrev pub taken : (ends breaks may_continue : Bool) → Taken
taken e b q = record { next = not e; on_break = b; on_continue = q }

module _ (u : TacUnitTree) (f : TacFunctionTree) where
  -- ---- exits that may be taken

  abbrev IfTaken : (is_taken : Bool) → Type 0 → Type 0
  IfTaken true t = t
  IfTaken false t = Unit {0}

  abbrev pub Reaches : (is_taken : Bool) → Exit → (end : ℕ) → Type 0
  Reaches b x end = IfTaken b (Lands u f x end)

  abbrev pub Follows : (is_taken : Bool) → Exit → (end : ℕ) → Type 0
  Follows b x end = IfTaken b (Behind u f x end)

  pub record AllReach (k : Taken) (x : Exits) (end : ℕ) : Type 0 where
    pub next : Reaches k.next x.next end
    pub on_break : Reaches k.on_break x.on_break end
    pub on_continue : Reaches k.on_continue x.on_continue end

  pub record AllFollow (k : Taken) (x : Exits) (end : ℕ) : Type 0 where
    pub next : Follows k.next x.next end
    pub on_break : Follows k.on_break x.on_break end
    pub on_continue : Follows k.on_continue x.on_continue end

  pub reach_follows : (b : Bool) (x : Exit) (end : ℕ) → Reaches b x end → Follows b x end
  reach_follows true x end h = lands_behind u f x end h
  reach_follows false x end h = tt

  pub all_follow : (k : Taken) (x : Exits) (end : ℕ) → AllReach k x end → AllFollow k x end
  all_follow k x end h = record {
    next = reach_follows k.next x.next end h.next;
    on_break = reach_follows k.on_break x.on_break end h.on_break;
    on_continue = reach_follows k.on_continue x.on_continue end h.on_continue;
  }

  pub reaches : (b : Bool) (x : Exit) (end : ℕ) → Lands u f x end → Reaches b x end
  reaches true x end h = h
  reaches false x end h = tt

  pub follows : (b : Bool) (x : Exit) (end : ℕ) → Behind u f x end → Follows b x end
  follows true x end h = h
  follows false x end h = tt

  pub follows_settled : (b : Bool) (x : Exit) (end : ℕ) → Follows b (settled x) end
  follows_settled true x end = tt
  follows_settled false x end = tt

  -- of a part of the whole
  reaches_left : (b c : Bool) (x : Exit) (end : ℕ) → Reaches (b || c) x end → Reaches b x end
  reaches_left true c x end h = h
  reaches_left false c x end h = tt

  reaches_right : (b c : Bool) (x : Exit) (end : ℕ) → Reaches (b || c) x end → Reaches c x end
  reaches_right true true x end h = h
  reaches_right true false x end h = tt
  reaches_right false c x end h = h

  reaches_first : (b c : Bool) (x : Exit) (end : ℕ) → Reaches (not (b && c)) x end → Reaches (not b) x end
  reaches_first true c x end h = tt
  reaches_first false c x end h = h

  reaches_second : (b c : Bool) (x : Exit) (end : ℕ) → Reaches (not (b && c)) x end → Reaches (not c) x end
  reaches_second true c x end h = h
  reaches_second false true x end h = tt
  reaches_second false false x end h = h

  follows_left : (b c : Bool) (x : Exit) (end : ℕ) → Follows (b || c) x end → Follows b x end
  follows_left true c x end h = h
  follows_left false c x end h = tt

  follows_right : (b c : Bool) (x : Exit) (end : ℕ) → Follows (b || c) x end → Follows c x end
  follows_right true true x end h = h
  follows_right true false x end h = tt
  follows_right false c x end h = h

  follows_first : (b c : Bool) (x : Exit) (end : ℕ) → Follows (not (b && c)) x end → Follows (not b) x end
  follows_first true c x end h = tt
  follows_first false c x end h = h

  follows_second : (b c : Bool) (x : Exit) (end : ℕ) → Follows (not (b && c)) x end → Follows (not c) x end
  follows_second true c x end h = h
  follows_second false true x end h = tt
  follows_second false false x end h = h

  pub reaches_settled : (b : Bool) (x : Exit) (m n : ℕ) → Reaches b x m → Reaches b (settled x) n
  reaches_settled true x m n h = settled_lands u f x m n h
  reaches_settled false x m n h = tt

  all_reach_at : (k : Taken) (x : Exits) (m n : ℕ) → m ≡ n → AllReach k x m → AllReach k x n
  all_reach_at k x m n e h = subst (λ (i : ℕ). AllReach k x i) e h

  all_follow_at : (k : Taken) (x : Exits) (m n : ℕ) → m ≡ n → AllFollow k x m → AllFollow k x n
  all_follow_at k x m n e h = subst (λ (i : ℕ). AllFollow k x i) e h

  -- ---- what holds of the code of a part

  pub record PartFits (k : Taken) (p : Part) : Type 0 where
    -- it begins, and is entered, in the code
    pub starts : (x : Exits) (at : ℕ) → at + p.size (falls_of x) ≤ length f.code → AllFollow k x (at + p.size (falls_of x)) → at < length f.code
    pub enters : (x : Exits) (at : ℕ) → at + p.size (falls_of x) ≤ length f.code → AllFollow k x (at + p.size (falls_of x)) → p.entry at < length f.code
    pub fits : (x : Exits) (at : ℕ) → at + p.size (falls_of x) ≤ length f.code → AllReach k x (at + p.size (falls_of x)) → Fit u f (p.code x at)

  -- the exit that is a statement's way may be taken
  abbrev WayIs : (ends breaks may_continue : Bool) → Option Way → Type 0
  WayIs e b q None = Unit {0}
  WayIs e b q (Some to_next) = e ≡ false
  WayIs e b q (Some to_break) = b ≡ true
  WayIs e b q (Some to_continue) = q ≡ true

  pub record TestedFits (t : ℕ) (b q : Bool) (d : Tested) : Type 0 where
    pub front : PartFits (taken false b q) d.front
    pub test : ExprFits u f d.test
    pub used : t + d.test.test_used ≤ f.temporaries
    pub rest : PartFits (taken false b q) d.rest
    pub breaks : b ≡ true

  abbrev pub OptionFits : (t : ℕ) → (b q : Bool) → Option Tested → Type 0
  OptionFits t b q None = Unit {0}
  OptionFits t b q (Some d) = TestedFits t b q d

  pub record StmtFits (t : ℕ) (q : Bool) (s : StmtCode) : Type 0 where
    pub part : PartFits (taken s.ends s.breaks q) s.part
    pub tested : OptionFits t s.breaks q s.tested

  -- where its temporaries are there
  pub record Fits (t : ℕ) (q : Bool) (s : StmtCode) : Type 0 where
    pub way : WayIs s.ends s.breaks q s.way
    pub fits : t + s.used ≤ f.temporaries → StmtFits t q s

  -- more exits may be taken
  pub more_next : (e b q : Bool) (p : Part) → PartFits (taken e b q) p → PartFits (taken false b q) p
  more_next false b q p h = h
  more_next true b q p h = record {
    starts = λ x at room k. h.starts x at room (record { next = tt; on_break = k.on_break; on_continue = k.on_continue });
    enters = λ x at room k. h.enters x at room (record { next = tt; on_break = k.on_break; on_continue = k.on_continue });
    fits = λ x at room k. h.fits x at room (record { next = tt; on_break = k.on_break; on_continue = k.on_continue });
  }

  -- ---- ways

  exit_starts : (x : Exit) (at : ℕ) → at + exit_size (is_fall x) ≤ length f.code → Behind u f x (at + exit_size (is_fall x)) → at < length f.code
  exit_starts (falls p) at room h = omega (arith, h)
  exit_starts (goes p) at room h = omega (arith, room)

  way_lands : (e b q : Bool) (w : Way) (x : Exits) (end : ℕ) → WayIs e b q (Some w) → AllReach (taken e b q) x end → Lands u f (exit_to w x) end
  way_lands false b q to_next x end h k = k.next
  way_lands true b q to_next x end h k = cc
  way_lands e true q to_break x end h k = k.on_break
  way_lands e false q to_break x end h k = cc
  way_lands e b true to_continue x end h k = k.on_continue
  way_lands e b false to_continue x end h k = cc

  way_follows : (e b q : Bool) (w : Way) (x : Exits) (end : ℕ) → WayIs e b q (Some w) → AllFollow (taken e b q) x end → Behind u f (exit_to w x) end
  way_follows false b q to_next x end h k = k.next
  way_follows true b q to_next x end h k = cc
  way_follows e true q to_break x end h k = k.on_break
  way_follows e false q to_break x end h k = cc
  way_follows e b true to_continue x end h k = k.on_continue
  way_follows e b false to_continue x end h k = cc

  -- what falls is the same however it is told
  fall_same : (w : Way) (x : Exits) → is_fall (exit_to w x) ≡ falls_to w (falls_of x)
  fall_same to_next x = refl
  fall_same to_break x = refl
  fall_same to_continue x = refl

  going_fits : (e b q : Bool) (w : Way) → WayIs e b q (Some w) → PartFits (taken e b q) (going w)
  going_fits e b q w h = record {
    starts = λ x at room k. in_code x at room k;
    enters = λ x at room k. in_code x at room k;
    fits = λ x at room k. exit_fits u f (exit_to w x) _ (way_lands e b q w x _ h k);
  }
    where
      in_code : (x : Exits) (at : ℕ) → at + exit_size (falls_to w (falls_of x)) ≤ length f.code → AllFollow (taken e b q) x (at + exit_size (falls_to w (falls_of x))) → at < length f.code
      in_code x at room k =
          let same = sym (fall_same w x) in
          exit_starts (exit_to w x) at (subst (λ (c : Bool). at + exit_size c ≤ length f.code) same room)
          (subst (λ (c : Bool). Behind u f (exit_to w x) (at + exit_size c)) same (way_follows e b q w x _ h k))

  pub by_way_fits : (t : ℕ) (q : Bool) (w : Way) → WayIs (leaves w) (is_break w) q (Some w) → Fits t q (by_way w)
  by_way_fits t q w h = record { way = h; fits = λ used. record { part = going_fits (leaves w) (is_break w) q w h; tested = tt } }

  -- ---- straight code

  pub straight_fits :
      (t : ℕ) (q : Bool) (size used : ℕ) (code : (at : ℕ) → List InstructionTree)
      → (t + used ≤ f.temporaries → (at : ℕ) → at + size < length f.code → Fit u f (code at)) → Fits t q (straight size used code)
  straight_fits t q size used code h = record {
    way = tt;
    fits = λ used. record {
      part = record {
        starts = λ x at room k. let there = inside x at room k.next in omega (arith, there);
        enters = λ x at room k. let there = inside x at room k.next in omega (arith, there);
        fits = λ x at room k. fit_both u f (code at) (exit_code x.next) (h used at (inside x at room (lands_behind u f x.next _ k.next))) (exit_fits u f x.next _ k.next);
      };
      tested = tt;
    };
  }
    where
      inside : (x : Exits) (at : ℕ) → at + (size + exit_size (is_fall x.next)) ≤ length f.code → Behind u f x.next (at + (size + exit_size (is_fall x.next))) → at + size < length f.code
      inside x at room k =
          let same : at + (size + exit_size (is_fall x.next)) ≡ at + size + exit_size (is_fall x.next) = omega arith in
          exit_starts x.next (at + size) (omega (arith, room)) (subst (λ (n : ℕ). Behind u f x.next n) same k)

  -- ---- one behind another

  module _ (e b c q : Bool) (p r : Part) (h : PartFits (taken false b q) p) (k : PartFits (taken e c q) r) where
    abbrev pub whole : Exits → ℕ → ℕ
    whole x at = at + (p.size next_falls + r.size (falls_of x))

    abbrev first_exits : Exits → ℕ → Exits
    first_exits x at = before (r.entry (at + p.size next_falls)) x

    same_end : (x : Exits) (at : ℕ) → whole x at ≡ at + p.size next_falls + r.size (falls_of x)
    same_end x at = omega arith

    pub second_room : (x : Exits) (at : ℕ) → whole x at ≤ length f.code → at + p.size next_falls + r.size (falls_of x) ≤ length f.code
    second_room x at room = omega (arith, room)

    pub second_follows : (x : Exits) (at : ℕ) → AllFollow (taken e (b || c) q) x (whole x at) → AllFollow (taken e c q) x (at + p.size next_falls + r.size (falls_of x))
    second_follows x at g = all_follow_at (taken e c q) x (whole x at) _ (same_end x at) (record {
      next = g.next;
      on_break = follows_right b c x.on_break (whole x at) g.on_break;
      on_continue = g.on_continue;
    })

    second_starts : (x : Exits) (at : ℕ) → whole x at ≤ length f.code → AllFollow (taken e (b || c) q) x (whole x at) → at + p.size next_falls < length f.code
    second_starts x at room g = k.starts x (at + p.size next_falls) (second_room x at room) (second_follows x at g)

    second_enters : (x : Exits) (at : ℕ) → whole x at ≤ length f.code → AllFollow (taken e (b || c) q) x (whole x at) → r.entry (at + p.size next_falls) < length f.code
    second_enters x at room g = k.enters x (at + p.size next_falls) (second_room x at room) (second_follows x at g)

    first_follows : (x : Exits) (at : ℕ) → at + p.size next_falls < length f.code → AllFollow (taken false b q) (first_exits x at) (at + p.size next_falls)
    first_follows x at there = record { next = there; on_break = follows_settled b x.on_break (at + p.size next_falls); on_continue = follows_settled q x.on_continue (at + p.size next_falls) }

    pub joined_fits : PartFits (taken e (b || c) q) (joined p r)
    joined_fits = record {
      starts = λ x at room g. let there = second_starts x at room g in omega (arith, there);
      enters = λ x at room g.
          let there = second_starts x at room g in
          h.enters (first_exits x at) at (omega (arith, there)) (first_follows x at there);
      fits = λ x at room g.
          let g2 = all_follow (taken e (b || c) q) x (whole x at) g in
          let there = second_starts x at room g2 in
          fit_both u f (p.code (first_exits x at) at) (r.code x (at + p.size next_falls))
          (h.fits (first_exits x at) at (omega (arith, there)) (record {
            next = (second_enters x at room g2, there);
            on_break = reaches_settled b x.on_break (whole x at) (at + p.size next_falls) (reaches_left b c x.on_break (whole x at) g.on_break);
            on_continue = reaches_settled q x.on_continue (whole x at) (at + p.size next_falls) g.on_continue;
          }))
          (k.fits x (at + p.size next_falls) (second_room x at room) (all_reach_at (taken e c q) x (whole x at) _ (same_end x at) (record {
            next = g.next;
            on_break = reaches_right b c x.on_break (whole x at) g.on_break;
            on_continue = g.on_continue;
          })));
    }

  -- a part, and then only another way on
  module _ (e b c q : Bool) (p : Part) (w : Way) (i : WayIs e c q (Some w)) (h : PartFits (taken false b q) p) where
    abbrev exits : Exits → Exits
    exits x = record x { next = exit_to w x }

    abbrev redirected_end : Exits → ℕ → ℕ
    redirected_end x at = at + p.size (record (falls_of x) { next = falls_to w (falls_of x) })

    size_same : (x : Exits) → p.size (record (falls_of x) { next = falls_to w (falls_of x) }) ≡ p.size (falls_of (exits x))
    size_same x = ap (λ (n : Bool). p.size (record { next = n; on_break = is_fall x.on_break; on_continue = is_fall x.on_continue })) (sym (fall_same w x))

    room_of : (x : Exits) (at : ℕ) → redirected_end x at ≤ length f.code → at + p.size (falls_of (exits x)) ≤ length f.code
    room_of x at room = subst (λ (n : ℕ). at + n ≤ length f.code) (size_same x) room

    follow_of : (x : Exits) (at : ℕ) → AllFollow (taken e (b || c) q) x (redirected_end x at) → AllFollow (taken false b q) (exits x) (at + p.size (falls_of (exits x)))
    follow_of x at g = subst (λ (n : ℕ). AllFollow (taken false b q) (exits x) (at + n)) (size_same x) (record {
      next = way_follows e c q w x _ i (record { next = g.next; on_break = follows_right b c x.on_break _ g.on_break; on_continue = g.on_continue });
      on_break = follows_left b c x.on_break _ g.on_break;
      on_continue = g.on_continue;
    })

    reach_of : (x : Exits) (at : ℕ) → AllReach (taken e (b || c) q) x (redirected_end x at) → AllReach (taken false b q) (exits x) (at + p.size (falls_of (exits x)))
    reach_of x at g = subst (λ (n : ℕ). AllReach (taken false b q) (exits x) (at + n)) (size_same x) (record {
      next = way_lands e c q w x _ i (record { next = g.next; on_break = reaches_right b c x.on_break _ g.on_break; on_continue = g.on_continue });
      on_break = reaches_left b c x.on_break _ g.on_break;
      on_continue = g.on_continue;
    })

    pub redirected_fits : PartFits (taken e (b || c) q) (redirected p w)
    redirected_fits = record {
      starts = λ x at room g. h.starts (exits x) at (room_of x at room) (follow_of x at g);
      enters = λ x at room g. h.enters (exits x) at (room_of x at room) (follow_of x at g);
      fits = λ x at room g. h.fits (exits x) at (room_of x at room) (reach_of x at g);
    }

  more_breaks : (b c q : Bool) (p : Part) → PartFits (taken false c q) p → PartFits (taken false (b || c) q) p
  more_breaks b c q p h = record {
    starts = λ x at room g. h.starts x at room (record { next = g.next; on_break = follows_right b c x.on_break _ g.on_break; on_continue = g.on_continue });
    enters = λ x at room g. h.enters x at room (record { next = g.next; on_break = follows_right b c x.on_break _ g.on_break; on_continue = g.on_continue });
    fits = λ x at room g. h.fits x at room (record { next = g.next; on_break = reaches_right b c x.on_break _ g.on_break; on_continue = g.on_continue });
  }

  tested_behind_fits : (t : ℕ) (b c q : Bool) (p : Part) (d : Option Tested) → PartFits (taken false b q) p → OptionFits t c q d → OptionFits t (b || c) q (tested_behind p d)
  tested_behind_fits t b c q p None h k = tt
  tested_behind_fits t b c q p (Some d) h k = record {
    front = joined_fits false b c q p d.front h k.front;
    test = k.test;
    used = k.used;
    rest = more_breaks b c q d.rest k.rest;
    breaks = or_right b c k.breaks;
  }

  joined_stmt_fits : (t : ℕ) (q : Bool) (a b : StmtCode) → StmtFits t q a → StmtFits t q b → StmtFits t q (of_joined a b)
  joined_stmt_fits t q a b h k =
      let first = more_next a.ends a.breaks q a.part h.part in
      record {
        part = joined_fits b.ends a.breaks b.breaks q a.part b.part first k.part;
        tested = tested_behind_fits t a.breaks b.breaks q a.part b.tested first k.tested;
      }

  before_fits : (t : ℕ) (q : Bool) (a : StmtCode) (w : Option Way) (b : StmtCode) → b.way ≡ w → a.way ≡ None → Fits t q a → Fits t q b → Fits t q (of_before a w b)
  before_fits t q a None b is none h k = record {
    way = tt;
    fits = λ used. joined_stmt_fits t q a b (h.fits (omega (arith, used))) (k.fits (omega (arith, used)));
  }
  before_fits t q a (Some w) b is none h k = record {
    way = subst (λ (o : Option Way). WayIs b.ends (a.breaks || b.breaks) q o) (sym none) tt;
    fits = λ used. record {
      part = redirected_fits b.ends a.breaks b.breaks q a.part w (subst (λ (o : Option Way). WayIs b.ends b.breaks q o) is k.way) (more_next a.ends a.breaks q a.part (h.fits used).part);
      tested = tt;
    };
  }

  -- the code of one that ends stands alone
  pub both_fits : (t : ℕ) (q : Bool) (a b : StmtCode) → Fits t q a → Fits t q b → Fits t q (of_both a b)
  both_fits t q a b h k = by_end a.ends
    where
      by_way_of_first : (w : Option Way) → a.way ≡ w → Fits t q (of_ways w a b)
      by_way_of_first None is = before_fits t q a b.way b refl is h k
      by_way_of_first (Some w) is = k

      by_end : (e : Bool) → Fits t q (if e then a else of_ways a.way a b)
      by_end true = h
      by_end false = by_way_of_first a.way refl

  -- ---- `if`

  module _ (ea eb ba bb q : Bool) (x : Exits) (end : ℕ) where
    first_reach : AllReach (taken (ea && eb) (ba || bb) q) x end → AllReach (taken ea ba q) x end
    first_reach g = record { next = reaches_first ea eb x.next end g.next; on_break = reaches_left ba bb x.on_break end g.on_break; on_continue = g.on_continue }

    second_reach : AllReach (taken (ea && eb) (ba || bb) q) x end → AllReach (taken eb bb q) x end
    second_reach g = record { next = reaches_second ea eb x.next end g.next; on_break = reaches_right ba bb x.on_break end g.on_break; on_continue = g.on_continue }

    first_follow : AllFollow (taken (ea && eb) (ba || bb) q) x end → AllFollow (taken ea ba q) x end
    first_follow g = record { next = follows_first ea eb x.next end g.next; on_break = follows_left ba bb x.on_break end g.on_break; on_continue = g.on_continue }

    second_follow : AllFollow (taken (ea && eb) (ba || bb) q) x end → AllFollow (taken eb bb q) x end
    second_follow g = record { next = follows_second ea eb x.next end g.next; on_break = follows_right ba bb x.on_break end g.on_break; on_continue = g.on_continue }

  elsewhere_reach : (k : Taken) (x : Exits) (m n : ℕ) → AllReach k x m → AllReach k (elsewhere x) n
  elsewhere_reach k x m n g = record {
    next = reaches_settled k.next x.next m n g.next;
    on_break = reaches_settled k.on_break x.on_break m n g.on_break;
    on_continue = reaches_settled k.on_continue x.on_continue m n g.on_continue;
  }

  elsewhere_follow : (k : Taken) (x : Exits) (n : ℕ) → AllFollow k (elsewhere x) n
  elsewhere_follow k x n = record {
    next = follows_settled k.next x.next n;
    on_break = follows_settled k.on_break x.on_break n;
    on_continue = follows_settled k.on_continue x.on_continue n;
  }

  module _ (t : ℕ) (e : ExprCode) (g : ExprFits u f e) (used : t + e.test_used ≤ f.temporaries) (ea eb ba bb q : Bool) (p r : Part) where
    abbrev branch_taken : Taken
    branch_taken = taken (ea && eb) (ba || bb) q

    test_same : (v w : Way) (x : Exits) → e.test_size (falls_to v (falls_of x)) (falls_to w (falls_of x)) ≡ e.test_size (is_fall (exit_to v x)) (is_fall (exit_to w x))
    test_same v w x =
        ap (λ (c : Bool). e.test_size c (falls_to w (falls_of x))) (sym (fall_same v x))
        ∙ ap (λ (c : Bool). e.test_size (is_fall (exit_to v x)) c) (sym (fall_same w x))

    two_ways : (v w : Way) → WayIs ea ba q (Some v) → WayIs eb bb q (Some w) → PartFits branch_taken (branch_part t e (Some v) (Some w) p r)
    two_ways v w hv hw = record { starts = in_code; enters = in_code; fits = tests }
      where
        in_code :
            (x : Exits) (at : ℕ) → at + e.test_size (falls_to v (falls_of x)) (falls_to w (falls_of x)) ≤ length f.code
            → AllFollow branch_taken x (at + e.test_size (falls_to v (falls_of x)) (falls_to w (falls_of x))) → at < length f.code
        in_code x at room k =
            let same = test_same v w x in
            let there = subst (λ (n : ℕ). AllFollow branch_taken x (at + n)) same k in
            test_starts u f e.test_size (exit_to v x) (exit_to w x) at g.some_test (subst (λ (n : ℕ). at + n ≤ length f.code) same room)
            (way_follows ea ba q v x _ hv (first_follow ea eb ba bb q x _ there))
            (way_follows eb bb q w x _ hw (second_follow ea eb ba bb q x _ there))

        tests :
            (x : Exits) (at : ℕ) → at + e.test_size (falls_to v (falls_of x)) (falls_to w (falls_of x)) ≤ length f.code
            → AllReach branch_taken x (at + e.test_size (falls_to v (falls_of x)) (falls_to w (falls_of x))) → Fit u f (e.test (exit_to v x) (exit_to w x) t at)
        tests x at room k =
            let same = test_same v w x in
            let there = subst (λ (n : ℕ). AllReach branch_taken x (at + n)) same k in
            g.test (exit_to v x) (exit_to w x) t at used (subst (λ (n : ℕ). at + n ≤ length f.code) same room)
            (way_lands ea ba q v x _ hv (first_reach ea eb ba bb q x _ there))
            (way_lands eb bb q w x _ hw (second_reach ea eb ba bb q x _ there))

    first_part : (w : Way) → WayIs eb bb q (Some w) → PartFits (taken ea ba q) p → PartFits branch_taken (branch_part t e None (Some w) p r)
    first_part w hw h = record {
      starts = in_code;
      enters = in_code;
      fits = λ x at room k.
          let there = behind_test x at room (all_follow branch_taken x (at + (e.test_size true false + p.size (falls_of x))) k) in
          let entered = h.enters x (at + e.test_size true false) (part_room x at room) (part_follow x at (all_follow branch_taken x (at + (e.test_size true false + p.size (falls_of x))) k)) in
          fit_both u f (e.test (falls (p.entry (at + e.test_size true false))) (settled (exit_to w x)) t at) (p.code x (at + e.test_size true false))
          (g.test (falls (p.entry (at + e.test_size true false))) (settled (exit_to w x)) t at used (omega (arith, there)) (entered, there)
          (settled_lands u f (exit_to w x) (at + (e.test_size true false + p.size (falls_of x))) 0 (way_lands eb bb q w x (at + (e.test_size true false + p.size (falls_of x))) hw (second_reach ea eb ba bb q x (at + (e.test_size true false + p.size (falls_of x))) k))))
          (h.fits x (at + e.test_size true false) (part_room x at room)
          (all_reach_at (taken ea ba q) x (at + (e.test_size true false + p.size (falls_of x))) _ (same_end x at) (first_reach ea eb ba bb q x (at + (e.test_size true false + p.size (falls_of x))) k)));
    }
      where
        same_end : (x : Exits) (at : ℕ) → at + (e.test_size true false + p.size (falls_of x)) ≡ at + e.test_size true false + p.size (falls_of x)
        same_end x at = omega arith

        part_room : (x : Exits) (at : ℕ) → at + (e.test_size true false + p.size (falls_of x)) ≤ length f.code → at + e.test_size true false + p.size (falls_of x) ≤ length f.code
        part_room x at room = omega (arith, room)

        part_follow : (x : Exits) (at : ℕ) → AllFollow branch_taken x (at + (e.test_size true false + p.size (falls_of x))) → AllFollow (taken ea ba q) x (at + e.test_size true false + p.size (falls_of x))
        part_follow x at k = all_follow_at (taken ea ba q) x _ _ (same_end x at) (first_follow ea eb ba bb q x _ k)

        behind_test : (x : Exits) (at : ℕ) → at + (e.test_size true false + p.size (falls_of x)) ≤ length f.code → AllFollow branch_taken x (at + (e.test_size true false + p.size (falls_of x))) → at + e.test_size true false < length f.code
        behind_test x at room k = h.starts x (at + e.test_size true false) (part_room x at room) (part_follow x at k)

        in_code : (x : Exits) (at : ℕ) → at + (e.test_size true false + p.size (falls_of x)) ≤ length f.code → AllFollow branch_taken x (at + (e.test_size true false + p.size (falls_of x))) → at < length f.code
        in_code x at room k = let there = behind_test x at room k in omega (arith, there)

    second_part : (v : Way) → WayIs ea ba q (Some v) → PartFits (taken eb bb q) r → PartFits branch_taken (branch_part t e (Some v) None p r)
    second_part v hv h = record {
      starts = in_code;
      enters = in_code;
      fits = λ x at room k.
          let there = behind_test x at room (all_follow branch_taken x (at + (e.test_size false true + r.size (falls_of x))) k) in
          let entered = h.enters x (at + e.test_size false true) (part_room x at room) (part_follow x at (all_follow branch_taken x (at + (e.test_size false true + r.size (falls_of x))) k)) in
          fit_both u f (e.test (settled (exit_to v x)) (falls (r.entry (at + e.test_size false true))) t at) (r.code x (at + e.test_size false true))
          (g.test (settled (exit_to v x)) (falls (r.entry (at + e.test_size false true))) t at used (omega (arith, there))
          (settled_lands u f (exit_to v x) (at + (e.test_size false true + r.size (falls_of x))) 0 (way_lands ea ba q v x (at + (e.test_size false true + r.size (falls_of x))) hv (first_reach ea eb ba bb q x (at + (e.test_size false true + r.size (falls_of x))) k)))
          (entered, there))
          (h.fits x (at + e.test_size false true) (part_room x at room)
          (all_reach_at (taken eb bb q) x (at + (e.test_size false true + r.size (falls_of x))) _ (same_end x at) (second_reach ea eb ba bb q x (at + (e.test_size false true + r.size (falls_of x))) k)));
    }
      where
        same_end : (x : Exits) (at : ℕ) → at + (e.test_size false true + r.size (falls_of x)) ≡ at + e.test_size false true + r.size (falls_of x)
        same_end x at = omega arith

        part_room : (x : Exits) (at : ℕ) → at + (e.test_size false true + r.size (falls_of x)) ≤ length f.code → at + e.test_size false true + r.size (falls_of x) ≤ length f.code
        part_room x at room = omega (arith, room)

        part_follow : (x : Exits) (at : ℕ) → AllFollow branch_taken x (at + (e.test_size false true + r.size (falls_of x))) → AllFollow (taken eb bb q) x (at + e.test_size false true + r.size (falls_of x))
        part_follow x at k = all_follow_at (taken eb bb q) x _ _ (same_end x at) (second_follow ea eb ba bb q x _ k)

        behind_test : (x : Exits) (at : ℕ) → at + (e.test_size false true + r.size (falls_of x)) ≤ length f.code → AllFollow branch_taken x (at + (e.test_size false true + r.size (falls_of x))) → at + e.test_size false true < length f.code
        behind_test x at room k = h.starts x (at + e.test_size false true) (part_room x at room) (part_follow x at k)

        in_code : (x : Exits) (at : ℕ) → at + (e.test_size false true + r.size (falls_of x)) ≤ length f.code → AllFollow branch_taken x (at + (e.test_size false true + r.size (falls_of x))) → at < length f.code
        in_code x at room k = let there = behind_test x at room k in omega (arith, there)

    module _ (h : PartFits (taken ea ba q) p) (l : PartFits (taken eb bb q) r) where
      abbrev first_at : ℕ → ℕ
      first_at at = at + e.test_size true false

      abbrev second_at : ℕ → ℕ
      second_at at = at + e.test_size true false + p.size none_falls

      abbrev parts_end : Exits → ℕ → ℕ
      parts_end x at = at + (e.test_size true false + p.size none_falls + r.size (falls_of x))

      same_parts : (x : Exits) (at : ℕ) → parts_end x at ≡ second_at at + r.size (falls_of x)
      same_parts x at = omega arith

      last_room : (x : Exits) (at : ℕ) → parts_end x at ≤ length f.code → second_at at + r.size (falls_of x) ≤ length f.code
      last_room x at room = omega (arith, room)

      last_follow : (x : Exits) (at : ℕ) → AllFollow branch_taken x (parts_end x at) → AllFollow (taken eb bb q) x (second_at at + r.size (falls_of x))
      last_follow x at k = all_follow_at (taken eb bb q) x (parts_end x at) _ (same_parts x at) (second_follow ea eb ba bb q x (parts_end x at) k)

      first_room : (x : Exits) (at : ℕ) → parts_end x at ≤ length f.code → first_at at + p.size none_falls ≤ length f.code
      first_room x at room = omega (arith, room)

      first_in : (x : Exits) (at : ℕ) → parts_end x at ≤ length f.code → first_at at < length f.code
      first_in x at room = h.starts (elsewhere x) (first_at at) (first_room x at room) (elsewhere_follow (taken ea ba q) x (first_at at + p.size none_falls))

      parts_start : (x : Exits) (at : ℕ) → parts_end x at ≤ length f.code → AllFollow branch_taken x (parts_end x at) → at < length f.code
      parts_start x at room k = let there = first_in x at room in omega (arith, there)

      two_parts : PartFits branch_taken (branch_part t e None None p r)
      two_parts = record {
        starts = parts_start;
        enters = parts_start;
        fits = λ x at room k.
            let there = first_in x at room in
            let follow = all_follow branch_taken x (parts_end x at) k in
            let first_entry = h.enters (elsewhere x) (first_at at) (first_room x at room) (elsewhere_follow (taken ea ba q) x (first_at at + p.size none_falls)) in
            let second_entry = l.enters x (second_at at) (last_room x at room) (last_follow x at follow) in
            fit_both u f (e.test (falls (p.entry (first_at at))) (goes (r.entry (second_at at))) t at) (p.code (elsewhere x) (first_at at) ++ r.code x (second_at at))
            (g.test (falls (p.entry (first_at at))) (goes (r.entry (second_at at))) t at used (omega (arith, there)) (first_entry, there) second_entry)
            (fit_both u f (p.code (elsewhere x) (first_at at)) (r.code x (second_at at))
            (h.fits (elsewhere x) (first_at at) (first_room x at room)
            (elsewhere_reach (taken ea ba q) x (parts_end x at) (first_at at + p.size none_falls) (first_reach ea eb ba bb q x (parts_end x at) k)))
            (l.fits x (second_at at) (last_room x at room)
            (all_reach_at (taken eb bb q) x (parts_end x at) _ (same_parts x at) (second_reach ea eb ba bb q x (parts_end x at) k))));
      }

    branch_part_fits : (v w : Option Way) → WayIs ea ba q v → WayIs eb bb q w → PartFits (taken ea ba q) p → PartFits (taken eb bb q) r → PartFits branch_taken (branch_part t e v w p r)
    branch_part_fits (Some v) (Some w) hv hw h l = two_ways v w hv hw
    branch_part_fits None (Some w) hv hw h l = first_part w hw h
    branch_part_fits (Some v) None hv hw h l = second_part v hv l
    branch_part_fits None None hv hw h l = two_parts h l

  fewer_breaks : (b c q : Bool) (p : Part) → PartFits (taken false b q) p → PartFits (taken false (b || c) q) p
  fewer_breaks b c q p h = record {
    starts = λ x at room g. h.starts x at room (record { next = g.next; on_break = follows_left b c x.on_break _ g.on_break; on_continue = g.on_continue });
    enters = λ x at room g. h.enters x at room (record { next = g.next; on_break = follows_left b c x.on_break _ g.on_break; on_continue = g.on_continue });
    fits = λ x at room g. h.fits x at room (record { next = g.next; on_break = reaches_left b c x.on_break _ g.on_break; on_continue = g.on_continue });
  }

  test_of_fits :
      (t : ℕ) (e : ExprCode) (i : Bool) (eb b c q : Bool) (rest : Part) (w : Option Way) → ExprFits u f e → t + e.test_used ≤ f.temporaries
      → WayIs eb c q w → PartFits (taken false b q) rest → OptionFits t (b || c) q (test_of e i rest w)
  test_of_fits t e i eb b c q rest None g used hw h = tt
  test_of_fits t e i eb b c q rest (Some to_next) g used hw h = tt
  test_of_fits t e i eb b c q rest (Some to_break) g used hw h = record {
    front = going_fits false (b || c) q to_next refl;
    test = g;
    used = used;
    rest = fewer_breaks b c q rest h;
    breaks = or_right b c hw;
  }
  test_of_fits t e i eb b c q rest (Some to_continue) g used hw h = tt

  pub branch_fits : (t : ℕ) (q : Bool) (known : Option Bool) (e : ExprCode) (a b : StmtCode) → ExprFits u f e → Fits t q a → Fits t q b → Fits t q (of_branch known t e a b)
  branch_fits t q None e a b g h k = record {
    way = tt;
    fits = λ used.
        let test_used : t + e.test_used ≤ f.temporaries = omega (arith, used) in
        let first = h.fits (omega (arith, used)) in
        let second = k.fits (omega (arith, used)) in
        record {
          part = branch_part_fits t e g test_used a.ends b.ends a.breaks b.breaks q a.part b.part a.way b.way h.way k.way first.part second.part;
          tested = test_of_fits t e (is_next a.way) b.ends a.breaks b.breaks q a.part b.way g test_used k.way (more_next a.ends a.breaks q a.part first.part);
        };
  }
  branch_fits t q (Some true) e a b g h k = h
  branch_fits t q (Some false) e a b g h k = k
