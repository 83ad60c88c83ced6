-- Where the blocks of a call lie in its frame.
use Rattle.std.proofs.Common.{◌≡◌, inl, inr, ⊎_elim, ℕ, zero, suc, ◌+◌, ◌-◌, ◌%◌, ◌^◌, ◌<◌, ◌≤◌, true, false, List, [], ◌∷◌, length, None, refl, sym, ap, ◌∙◌, subst, arith}
use Rattle.std.specs.Prelude.{◌&&◌, nat_lt, nat_le, if◌then◌else◌, slice_index_or}
use Rattle.std.proofs.lemmas.Bool.{cases_lt}
use Rattle.std.proofs.lemmas.Bool.Decides.{nat_tests}
use Rattle.qs_memory.specs.Memory.{Block, Memory, block_at, new_block, make}
use Rattle.qs_memory.specs.Soundness.{IsLive}
use Rattle.qs_memory.specs.Laws.{AreFresh}
use Rattle.qs_memory.proofs.BlockLaws.{live_known, blocks_are_fresh, after_make}
use Rattle.qs_image.specs.Image.{Image}
use Rattle.qs_tac.specs.Holders.{File, is_saved_register}
use Rattle.qs_tac.specs.Steps.{Waiting}
use Rattle.qs_frames.specs.Layout.{rounded, offset}
use Rattle.qs_frames.proofs.FrameLaws.{is_rounded, offset_inside, offset_aligned}
use Rattle.qs_emit_selection.specs.Operands.{Context, frame_of, local_offset}
use Rattle.qs_emit.specs.Machine.{Room, base}
use Rattle.qs_emit.specs.Lies.{Owner, cell_of, Holds, IsInReach}
use Rattle.qs_emit.specs.Lies.{frame as of_frame}
use Rattle.qs_emit.specs.Surroundings.{HasBlocks, Lay, ground}
use Rattle.qs_emit.specs.Relation.{Setup, context, cost, HasFrame, HasStack, around}
use Rattle.qs_emit.proofs.Injection.{Later, cell_kept}
use Rattle.qs_emit.proofs.Steps.{data_below}
use Rattle.qs_emit.proofs.FrameLaws.{SameGiven, reach_like, stack_onward, placed_inside, SameCells}

-- blocks lie one after the other from an address on; what is between them is the frame's
abbrev pub owner_in : List ℕ → (number from at : ℕ) → Owner
owner_in [] number from at = of_frame
owner_in (size ∷ sizes) number from at =
    if nat_le from at && nat_lt at (from + size) then cell_of number (at - from) else owner_in sizes (number + 1) (from + rounded size) at

pub owner_of_block : (sizes : List ℕ) (number from i o : ℕ) → i < length sizes → o < slice_index_or sizes i 0 → owner_in sizes number from (from + offset sizes i + o) ≡ cell_of (number + i) o
owner_of_block [] number from i o h lt = absurd (omega (arith, h))
owner_of_block (size ∷ sizes) number from zero o h lt =
    let t : (nat_le from (from + 0 + o) && nat_lt (from + 0 + o) (from + size)) ≡ true = grind (arith, nat_tests, lt) in
    let e : from + 0 + o - from ≡ o = omega arith in
    let f : number + 0 ≡ number = omega arith in
    rw (t, e, f) refl
owner_of_block (size ∷ sizes) number from (suc i) o h lt =
    let more = (is_rounded size).enough in
    let t : (nat_le from (from + (rounded size + offset sizes i) + o) && nat_lt (from + (rounded size + offset sizes i) + o) (from + size)) ≡ false = grind (arith, nat_tests, more) in
    let at : from + rounded size + offset sizes i + o ≡ from + (rounded size + offset sizes i) + o = omega arith in
    let f : number + 1 + i ≡ number + suc i = omega arith in
    let more_blocks = owner_of_block sizes (number + 1) (from + rounded size) i o (omega (arith, h)) lt in
    rw t (ap (owner_in sizes (number + 1) (from + rounded size)) (sym at) ∙ more_blocks ∙ ap (λ (b : ℕ). cell_of b o) f)

owner_below : (sizes : List ℕ) (number from at : ℕ) → at < from → owner_in sizes number from at ≡ of_frame
owner_below [] number from at h = refl
owner_below (size ∷ sizes) number from at h =
    let t : (nat_le from at && nat_lt at (from + size)) ≡ false = grind (arith, nat_tests, h) in
    rw t (owner_below sizes (number + 1) (from + rounded size) at (omega (arith, h)))

-- the blocks of a new frame, from its x2 up to the caller's
abbrev pub new_lay : Room → Lay → Context → (number low sp : ℕ) → Lay
new_lay r l c number low sp = record {
  address_of = λ b. if nat_lt b number then l.address_of b else low + local_offset c (b - number);
  owner = λ at. if nat_le (base r) at && nat_lt at sp then owner_in c.function.blocks number (low + (frame_of c).placed) at else l.owner at;
}

reach_down : (image : Image) (r : Room) (sp low : ℕ) (block : Block) (from : ℕ) → low ≤ sp → IsInReach image r sp block from → IsInReach image r low block from
reach_down image r sp low block from le (inl s) = let a = s.above in inl (record { above = omega (arith, a, le); below = s.below })
reach_down image r sp low block from le (inr d) = inr d

module _ (s : Setup) (m : Memory) (l : Lay) (flat later : ℕ → ℕ) (f : ℕ) (sp low : ℕ) (sum : low + cost s f ≡ sp) (above : base s.room ≤ low) (aligned : low % 16 ≡ 0) (ceiling : sp ≤ s.room.ceiling) (old : HasBlocks (around s) (ground m l flat) sp) (same : SameCells s m l.address_of flat later) where
  abbrev c : Context
  c = context s f

  abbrev sizes : List ℕ
  sizes = c.function.blocks

  abbrev new : Lay
  new = new_lay s.room l c (length m) low sp

  abbrev made : Memory
  made = make sizes m

  fresh : AreFresh sizes m
  fresh = blocks_are_fresh sizes m

  address_old : (b : ℕ) → b < length m → new.address_of b ≡ l.address_of b
  address_old b h = let t : nat_lt b (length m) ≡ true = grind (arith, nat_tests, h) in rw t refl

  address_new : (i : ℕ) → new.address_of (length m + i) ≡ low + local_offset c i
  address_new i =
      let e : length m + i - length m ≡ i = omega arith in
      let t : nat_lt (length m + i) (length m) ≡ false = grind (arith, nat_tests) in
      rw (t, e) refl

  owner_above : (at : ℕ) → sp ≤ at → new.owner at ≡ l.owner at
  owner_above at h = let t : (nat_le (base s.room) at && nat_lt at sp) ≡ false = grind (arith, nat_tests, h) in rw t refl

  owner_under : (at : ℕ) → at < base s.room → new.owner at ≡ l.owner at
  owner_under at h = let t : (nat_le (base s.room) at && nat_lt at sp) ≡ false = grind (arith, nat_tests, h) in rw t refl

  owner_inside : (at : ℕ) → low ≤ at → at < sp → new.owner at ≡ owner_in sizes (length m) (low + (frame_of c).placed) at
  owner_inside at h k = let t : (nat_le (base s.room) at && nat_lt at sp) ≡ true = grind (arith, nat_tests, h, k, above) in rw t refl

  pub later_new : Later m l.address_of made new.address_of
  later_new = record { after = after_make sizes m; same = address_old }

  -- a block of the call
  record IsFresh (b : ℕ) : Type 0 where
    i : ℕ
    is : b ≡ length m + i
    within : i < length sizes

  fresh_of : (b : ℕ) → IsLive made b → length m ≤ b → IsFresh b
  fresh_of b live le = let k = live_known made b live in let n = fresh.count in record { i = b - length m; is = omega (arith, le); within = omega (arith, le, k, n) }

  block_end : (i : ℕ) → i < length sizes → low + local_offset c i + slice_index_or sizes i 0 ≤ sp
  block_end i h = let a = offset_inside sizes i h in let b = placed_inside c in omega (arith, a, b, sum)

  old_owned : (b o : ℕ) → IsLive m b → o < (block_at m b).size → new.owner (l.address_of b + o) ≡ cell_of b o
  old_owned b o live lt = by (old.in_reach b live)
    where
      by : IsInReach s.image s.room sp (block_at m b) (l.address_of b) → new.owner (l.address_of b + o) ≡ cell_of b o
      by (inl h) = let a = h.above in owner_above (l.address_of b + o) (omega (arith, a)) ∙ old.lies.owned b o live lt
      by (inr h) = let a = h.below in let d = data_below s in owner_under (l.address_of b + o) (omega (arith, a, d, lt)) ∙ old.lies.owned b o live lt

  was_live : (b : ℕ) → b < length m → IsLive made b → IsLive m b
  was_live b k live = later_new.after.live b k live

  size_new : (b : ℕ) (q : IsFresh b) → (block_at made b).size ≡ slice_index_or sizes q.i 0
  size_new b q = ap (λ (n : ℕ). (block_at made n).size) q.is ∙ ap (λ (k : Block). k.size) (fresh.new q.i q.within)

  at_new : (b : ℕ) (q : IsFresh b) → new.address_of b ≡ low + local_offset c q.i
  at_new b q = ap new.address_of q.is ∙ address_new q.i

  owned_old : (b o : ℕ) → b < length m → IsLive made b → o < (block_at made b).size → new.owner (new.address_of b + o) ≡ cell_of b o
  owned_old b o k live lt = let size = later_new.after.size b k in ap (λ (a : ℕ). new.owner (a + o)) (address_old b k) ∙ old_owned b o (was_live b k live) (omega (arith, lt, size))

  owned_new : (b o : ℕ) (q : IsFresh b) → o < (block_at made b).size → new.owner (new.address_of b + o) ≡ cell_of b o
  owned_new b o q lt =
      let size = size_new b q in
      let end = block_end q.i q.within in
      let small : o < slice_index_or sizes q.i 0 = omega (arith, lt, size) in
      let at : low + ((frame_of c).placed + offset sizes q.i) + o ≡ low + (frame_of c).placed + offset sizes q.i + o = omega arith in
      ap (λ (a : ℕ). new.owner (a + o)) (at_new b q) ∙ owner_inside (low + local_offset c q.i + o) (omega arith) (omega (arith, small, end)) ∙ ap (owner_in sizes (length m) (low + (frame_of c).placed)) at
      ∙ owner_of_block sizes (length m) (low + (frame_of c).placed) q.i o q.within small ∙ ap (λ (n : ℕ). cell_of n o) (sym q.is)

  holds_old : (b o : ℕ) → b < length m → IsLive made b → o < (block_at made b).size → Holds made new.address_of ((block_at made b).cells o) (later (new.address_of b + o))
  holds_old b o k live lt =
      let live_then = was_live b k live in
      let size = later_new.after.size b k in
      let lt_then : o < (block_at m b).size = omega (arith, lt, size) in
      let e = same b o live_then lt_then in
      rw (fresh.old b k, address_old b k, e) (cell_kept m made l.address_of new.address_of ((block_at m b).cells o) (flat (l.address_of b + o)) later_new (old.lies.holds b o live_then lt_then))

  holds_new : (b o : ℕ) → IsFresh b → Holds made new.address_of ((block_at made b).cells o) (later (new.address_of b + o))
  holds_new b o q =
      let e : (block_at made b).cells o ≡ (new_block (slice_index_or sizes q.i 0)).cells o = ap (λ (n : ℕ). (block_at made n).cells o) q.is ∙ ap (λ (k : Block). k.cells o) (fresh.new q.i q.within) in
      rw e tt

  aligned_old : (b : ℕ) → b < length m → IsLive made b → new.address_of b % 4 ≡ 0
  aligned_old b k live = ap (λ (a : ℕ). a % 4) (address_old b k) ∙ old.lies.aligned b (was_live b k live)

  aligned_new : (b : ℕ) → IsFresh b → new.address_of b % 4 ≡ 0
  aligned_new b q = let e = at_new b q in let o = offset_aligned sizes q.i in omega (arith, e, o, aligned)

  reach_old : (b : ℕ) → b < length m → IsLive made b → IsInReach s.image s.room low (block_at made b) (new.address_of b)
  reach_old b k live = reach_down s.image s.room sp low (block_at made b) (new.address_of b) (omega (arith, sum)) (reach_like s.image s.room sp (block_at m b) (block_at made b) (l.address_of b) (new.address_of b) (later_new.after.size b k) (later_new.after.writable b k) (address_old b k) (old.in_reach b (was_live b k live)))

  reach_new : (b : ℕ) → IsFresh b → IsInReach s.image s.room low (block_at made b) (new.address_of b)
  reach_new b q = let e = at_new b q in let size = size_new b q in let end = block_end q.i q.within in inl (record { above = omega (arith, e); below = omega (arith, e, size, end, ceiling) })

  pub blocks_new : HasBlocks (around s) (ground made new later) low
  blocks_new = record {
    lies = record {
      owned = λ b o live lt. ⊎_elim (λ k. owned_old b o k live lt) (λ k. owned_new b o (fresh_of b live k) lt) (cases_lt b (length m));
      holds = λ b o live lt. ⊎_elim (λ k. holds_old b o k live lt) (λ k. holds_new b o (fresh_of b live k)) (cases_lt b (length m));
      aligned = λ b live. ⊎_elim (λ k. aligned_old b k live) (λ k. aligned_new b (fresh_of b live k)) (cases_lt b (length m));
    };
    in_reach = λ b live. ⊎_elim (λ k. reach_old b k live) (λ k. reach_new b (fresh_of b live k)) (cases_lt b (length m));
    old = λ b k. let e = old.made in address_old b (omega (arith, k, e)) ∙ old.old b k;
    made = let e = old.made in let n = fresh.count in omega (arith, e, n);
  }

  -- the frame, before it holds a value
  pub frame_new : (registers : ℕ → ℕ) → ((r : ℕ) → is_saved_register r ≡ true → registers r < 2 ^ 32) → HasFrame s (ground made new later) f registers low (length m) (λ p. None)
  frame_new registers words = record {
    holds = λ p v e. cc;
    words = words;
    private = λ at lo hi. let inside = placed_inside c in owner_inside at lo (omega (arith, hi, inside, sum)) ∙ owner_below sizes (length m) (low + (frame_of c).placed) at hi;
    placed = λ i h. address_new i;
    made = let n = fresh.count in omega (arith, n);
    apart = λ b k live. subst (λ (x : ℕ). IsInReach s.image s.room x (block_at made b) (new.address_of b)) (sym sum)
        (reach_like s.image s.room sp (block_at m b) (block_at made b) (l.address_of b) (new.address_of b) (later_new.after.size b k) (later_new.after.writable b k) (address_old b k) (old.in_reach b (was_live b k live)));
  }

  -- the frames above
  pub stack_new : (stack : List (Waiting File)) (registers other : ℕ → ℕ) → SameGiven registers other → ((at : ℕ) → sp ≤ at → later at ≡ flat at) → HasStack s (ground m l flat) stack registers sp → HasStack s (ground made new later) stack other sp
  stack_new stack registers other given outer h =
      stack_onward s (ground m l flat) (ground made new later) stack registers other sp sp (record { after = later_new; frames = λ at le p. owner_above at le ∙ p; same = λ at le p. outer at le }) (omega arith) given h
