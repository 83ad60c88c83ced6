-- Copies and fills of whole objects, as instructions.
use Rattle.std.proofs.Common.{◌≡◌, ◌⊎◌, ℕ, suc, ◌+◌, ◌-◌, ◌*◌, ◌/◌, ◌%◌, ◌^◌, ◌==◌, ◌<◌, ◌≤◌, Bool, true, false, List, [], ◌++◌, length, Some, refl, sym, ap, ◌∙◌, subst, arith}
use Rattle.std.specs.Prelude.{◌&&◌, if◌then◌else◌}
use Rattle.std.proofs.lemmas.Bool.Decides.{nat_tests}
use Rattle.std.proofs.Math.Nat.{mul-mod_left, mul_assoc, mul_comm, mod-add-div}
use Rattle.qs_memory.specs.Values.{Pointer}
use Rattle.qs_memory.specs.Memory as memory
use Rattle.qs_memory.specs.Memory.{Memory, block_at, Target, cells_at, BlankTree, blank_cells}
use Rattle.qs_memory.specs.Sizes.{blank_size}
use Rattle.qs_memory.proofs.BlankLaws.{blank_length}
use Rattle.qs_memory.proofs.BlockLaws.{IsRange}
use Rattle.qs_memory.proofs.CellLaws.{length-cells_from}
use Rattle.qs_memory.proofs.StepLaws.{copied, filled}
use Rattle.qs_memory.proofs.DefinedLaws.{no_overlap}
use Rattle.qs_isa.specs.declared.instruction.LoadKind.TheVariants.{Lw, Lbu}
use Rattle.qs_isa.specs.declared.instruction.StoreKind.TheVariants.{Sw, Sb}
use Rattle.qs_tac.specs.declared.operands.Address.{Address}
use Rattle.qs_tac.specs.Holders.{File}
use Rattle.qs_tac.specs.Fits.{address_fits}
use Rattle.qs_tac.specs.Values.{Activation, pointer}
use Rattle.qs_tac.specs.Steps.{Waiting}
use Rattle.qs_emit_selection.specs.Pieces.{copy_loop}
use Rattle.qs_emit_selection.specs.Operands.{Context, address_into, is_word_address}
use Rattle.qs_emit_selection.specs.Emission.{copy_code, fill_code}
use Rattle.qs_emit.specs.Machine.{Watched}
use Rattle.qs_emit.specs.Lies.{IsOwn}
use Rattle.qs_emit.specs.Surroundings.{Lay, ground}
use Rattle.qs_emit.specs.Relation.{Setup, context, function_at}
use Rattle.qs_emit.proofs.Injection.{cells_same, cells_held}
use Rattle.qs_emit.proofs.Steps.{Does, does_is, does_then, does_none, MayRead, MayWrite}
use Rattle.qs_emit.proofs.FrameLaws.{values_none, holding_of_values, cell_own}
use Rattle.qs_emit.proofs.Access.{lies_low, may_read_block, may_write_block}
use Rattle.qs_emit.proofs.Operands.{holder, value_apart, argument_scratch, IsAmid, amid_on}
use Rattle.qs_emit.proofs.Anchors.{HasAddress, address_into_does, word_address_aligned}
use Rattle.qs_emit.proofs.Fetches.{range_word, written_amid}
use Rattle.qs_emit.proofs.Loops.{words_are_accesses, bytes_are_accesses}
use Rattle.qs_emit.proofs.Objects.{zero_blank, zeros_hold, ranges_apart, turns_of_bytes, turns_of_words, fill_code_does, IsMoved, copy_does}

module _ (s : Setup) (a : Activation File) (w : Memory) (stack : List (Waiting File)) (l : Lay) (sp : ℕ) where
  abbrev c : Context
  c = context s a.function

  -- a range of a live block, as bytes
  module _ (m : Watched) (h : IsAmid s a w stack l sp m) (p : Pointer) (size alignment : ℕ) (t : Target) (is : IsRange w p size alignment t) where
    abbrev at : ℕ
    at = l.address_of t.block + t.offset

    range_low : at + size ≤ 2 ^ 31
    range_low =
        let end = (lies_low s (ground w l m.now.memory) sp h.related.blocks h.related.in_room.above t.block is.live).end in
        let fits = is.fits in
        omega (arith, end, fits)

    range_own : (j : ℕ) → j < size → IsOwn s.room sp (at + j)
    range_own j lt =
        let fits = is.fits in
        let e : l.address_of t.block + (t.offset + j) ≡ at + j = omega arith in
        subst (λ (x : ℕ). IsOwn s.room sp x) e (cell_own s (ground w l m.now.memory) sp t.block (t.offset + j) h.related.blocks is.live (omega (arith, fits, lt)))

    range_read : (width : ℕ) (m1 : Watched) → m1.now.registers 2 ≡ sp → (done : ℕ) → done + width ≤ size → MayRead s m1 (at + done) width
    range_read width m1 x2 done le =
        let fits = is.fits in
        let e : l.address_of t.block + (t.offset + done) ≡ at + done = omega arith in
        subst (λ (x : ℕ). MayRead s m1 x width) e (may_read_block s (ground w l m.now.memory) sp h.related.blocks h.related.in_room.above m1 x2 t.block (t.offset + done) width is.live (omega (arith, fits, le)))

    range_write : (block_at w t.block).is_writable ≡ true → (width : ℕ) (m1 : Watched) → m1.now.registers 2 ≡ sp → (done : ℕ) → done + width ≤ size → MayWrite s m1 (at + done) width
    range_write writable width m1 x2 done le =
        let fits = is.fits in
        let e : l.address_of t.block + (t.offset + done) ≡ at + done = omega arith in
        subst (λ (x : ℕ). MayWrite s m1 x width) e (may_write_block s (ground w l m.now.memory) sp h.related.blocks h.related.in_room.above m1 x2 t.block (t.offset + done) width is.live (omega (arith, fits, le)) writable)

    -- a multiple of an alignment that is one of 4
    range_aligned : alignment % 4 ≡ 0 → at % 4 ≡ 0
    range_aligned four =
        let k = t.offset / alignment in
        let whole : t.offset ≡ k * alignment = division t.offset alignment is.aligned in
        let parts : alignment ≡ alignment / 4 * 4 = omega (arith, four) in
        let product : k * alignment ≡ k * (alignment / 4) * 4 = ap (λ (n : ℕ). k * n) parts ∙ sym (mul_assoc k (alignment / 4) 4) in
        let zero_left : k * (alignment / 4) * 4 % 4 ≡ 0 = mul-mod_left (k * (alignment / 4)) 4 in
        let offset_aligned : t.offset % 4 ≡ 0 = ap (λ (n : ℕ). n % 4) (whole ∙ product) ∙ zero_left in
        let block_aligned = h.related.blocks.lies.aligned t.block is.live in
        omega (arith, offset_aligned, block_aligned)
      where
        division : (n d : ℕ) → n % d ≡ 0 → n ≡ n / d * d
        division n d e = let f = mod-add-div n d in let g = mul_comm d (n / d) in omega (arith, f, g, e)

  -- ---- fills

  -- an address in a5
  in_a5 : (m m1 : Watched) (p : Pointer) → IsAmid s a w stack l sp m → m1.now.registers 2 ≡ m.now.registers 2 → HasAddress s a w stack l sp m 15 p m1 → IsAmid s a w stack l sp m1
  in_a5 m m1 p h x2 k = amid_on s a w stack l sp m m1 h x2 (record { same = λ q b. k.saved q b (value_apart q 15 b refl) }) k.bytes

  pub fill_object_does : (m : Watched) (blank : BlankTree) (p : Address) (q : Pointer) (later : Memory) → IsAmid s a w stack l sp m → address_fits s.unit (function_at s.unit a.function) p ≡ true → pointer (holder s) p a w ≡ Some q → memory.fill blank w q ≡ Some later
      → Does s m (address_into c 15 p ++ fill_code (is_word_address p) (blank_size blank)) (IsAmid s a later stack l sp)
  fill_object_does m blank p q later h fits e fills =
      let a5 = argument_scratch 15 (omega arith) (omega arith) in
      let k = filled blank w q later fills in
      let size = blank_size blank in
      let long = blank_length blank in
      does_then s m (address_into c 15 p) _ _ _ (address_into_does s a w stack l sp m 15 p q a5.free h fits e) (λ m1 x2 g.
      let h1 = in_a5 m m1 q h x2 g in
      let is : IsRange w q size 1 k.at = subst (λ (n : ℕ). IsRange w q n 1 k.at) long k.is in
      let to = l.address_of k.at.block + k.at.offset in
      let word = range_word s a w stack l sp q size 1 g.word k.at is g.stands in
      let low = range_low m1 h1 q size 1 k.at is in
      let own = range_own m1 h1 q size 1 k.at is in
      let may = range_write m1 h1 q size 1 k.at is k.writable in
      let aligned : is_word_address p ≡ true → to % 4 ≡ 0 = λ t. word_address_aligned s a w stack l sp m p q k.at.block k.at.offset h fits e t is.is is.live in
      does_is s m1 _ _ _ (fill_code_does s sp m1 (is_word_address p) to size aligned h1.x2 (g.got ∙ word) low own (may 1) (may 4)) (λ m2 y2 f.
      written_amid s a w stack l sp m1 m2 q (length (blank_cells blank)) 1 (blank_cells blank) later m2.now.memory h1 k refl y2 (holding_of_values (context s a.function) m1.now.registers m2.now.registers f.saved) (record { same = λ at o. refl })
      (λ at o out. f.outside at o (subst (λ (n : ℕ). (at < to) ⊎ (to + n ≤ at)) long out))
      (zeros_hold w l.address_of (blank_cells blank) m2.now.memory to (zero_blank w l.address_of blank) (λ j lt. f.inside j (omega (arith, lt, long))))))

  -- ---- copies

  copy_code_does : (m : Watched) (size alignment to from : ℕ) → m.now.registers 2 ≡ sp → m.now.registers 15 ≡ to → m.now.registers 16 ≡ from → to + size ≤ 2 ^ 31 → from + size ≤ 2 ^ 31 → (alignment % 4 ≡ 0 → to % 4 ≡ 0) → (alignment % 4 ≡ 0 → from % 4 ≡ 0)
      → ((j : ℕ) → j < size → IsOwn s.room sp (to + j)) → ((j : ℕ) → j < size → IsOwn s.room sp (from + j)) → ((width : ℕ) (m1 : Watched) → m1.now.registers 2 ≡ sp → (done : ℕ) → done + width ≤ size → MayWrite s m1 (to + done) width) → ((width : ℕ) (m1 : Watched) → m1.now.registers 2 ≡ sp → (done : ℕ) → done + width ≤ size → MayRead s m1 (from + done) width)
      → (0 < size → (to ≡ from) ⊎ ((to + size ≤ from) ⊎ (from + size ≤ to))) → Does s m (copy_code size alignment) (IsMoved s sp m to from size)
  copy_code_does m size alignment to from x2 a5 a6 low source_low to_aligned from_aligned own source_own may may_read apart = by (size == 0) refl (size % 4 == 0 && alignment % 4 == 0) refl
    where
      positive : (size == 0) ≡ false → 0 < size
      positive t = grind (arith, nat_tests, t)

      by : (none : Bool) → (size == 0) ≡ none → (wide : Bool) → (size % 4 == 0 && alignment % 4 == 0) ≡ wide → Does s m (if none then [] else if wide then copy_loop Lw Sw 4 size else copy_loop Lbu Sb 1 size) (IsMoved s sp m to from size)
      by true t wide u =
          let z : size ≡ 0 = grind (arith, nat_tests, t) in
          does_none s m _ (record { x2 = x2; saved = values_none m.now.registers; inside = λ j lt. absurd (omega (arith, lt, z)); outside = λ at o out. refl })
      by false t true u =
          let some = positive t in
          let size_four : size % 4 ≡ 0 = grind (arith, nat_tests, u) in
          let alignment_four : alignment % 4 ≡ 0 = grind (arith, nat_tests, u) in
          let to_four = to_aligned alignment_four in
          let from_four = from_aligned alignment_four in
          let turns = size / 4 - 1 in
          let count : suc turns * 4 ≡ size = omega (arith, some, size_four) in
          copy_does s sp m Lw Sw 4 to from size turns words_are_accesses x2 a5 a6 (turns_of_words (suc turns) ∙ count) low source_low to_four own source_own (may 4) (may_read 4) (apart some) (λ done e. omega (arith, e, to_four, from_four))
      by false t false u =
          let some = positive t in
          let turns = size - 1 in
          let count : suc turns ≡ size = omega (arith, some) in
          copy_does s sp m Lbu Sb 1 to from size turns bytes_are_accesses x2 a5 a6 (turns_of_bytes (suc turns) ∙ count) low source_low (omega arith) own source_own (may 1) (may_read 1) (apart some) (λ done e. omega arith)

  pub copy_object_does : (m : Watched) (size alignment : ℕ) (p q : Address) (to from : Pointer) (later : Memory) → IsAmid s a w stack l sp m → address_fits s.unit (function_at s.unit a.function) p ≡ true → address_fits s.unit (function_at s.unit a.function) q ≡ true → pointer (holder s) p a w ≡ Some to → pointer (holder s) q a w ≡ Some from → memory.copy size alignment w to from ≡ Some later
      → Does s m (address_into c 15 p ++ (address_into c 16 q ++ copy_code size alignment)) (IsAmid s a later stack l sp)
  copy_object_does m size alignment p q to from later h fits_p fits_q ep eq copies =
      let a5 = argument_scratch 15 (omega arith) (omega arith) in
      let a6 = argument_scratch 16 (omega arith) (omega arith) in
      let k = copied size alignment w to from later copies in
      let target = k.wrote.at in
      let source = k.source in
      let t = l.address_of target.block + target.offset in
      let f = l.address_of source.block + source.offset in
      does_then s m (address_into c 15 p) _ _ _ (address_into_does s a w stack l sp m 15 p to a5.free h fits_p ep) (λ m1 x1 g1.
      let h1 = in_a5 m m1 to h x1 g1 in
      does_then s m1 (address_into c 16 q) _ _ _ (address_into_does s a w stack l sp m1 16 q from a6.free h1 fits_q eq) (λ m2 x2 g2.
      let h2 = amid_on s a w stack l sp m1 m2 h1 x2 (record { same = λ z b. g2.saved z b (value_apart z 16 b refl) }) g2.bytes in
      let word_to = range_word s a w stack l sp to size alignment g1.word target k.wrote.is g1.stands in
      let word_from = range_word s a w stack l sp from size alignment g2.word source k.is g2.stands in
      let a5_is : m2.now.registers 15 ≡ t = g2.others 15 (omega arith) (λ e. absurd (omega (arith, e))) ∙ g1.got ∙ word_to in
      let a6_is : m2.now.registers 16 ≡ f = g2.got ∙ word_from in
      let lies = h2.related.blocks.lies in
      let apart : 0 < size → (t ≡ f) ⊎ ((t + size ≤ f) ⊎ (f + size ≤ t)) = λ some. ranges_apart w l m2.now.memory size alignment to from target source lies k.wrote.is k.is some (no_overlap target source size k.apart) in
      does_is s m2 _ _ _ (copy_code_does m2 size alignment t f h2.x2 a5_is a6_is (range_low m2 h2 to size alignment target k.wrote.is) (range_low m2 h2 from size alignment source k.is)
      (range_aligned m2 h2 to size alignment target k.wrote.is) (range_aligned m2 h2 from size alignment source k.is)
      (range_own m2 h2 to size alignment target k.wrote.is) (range_own m2 h2 from size alignment source k.is)
      (range_write m2 h2 to size alignment target k.wrote.is k.wrote.writable) (range_read m2 h2 from size alignment source k.is) apart) (λ m3 x3 i.
      let long : length (cells_at w source size) ≡ size = length-cells_from (block_at w source.block).cells source.offset size in
      let held = cells_held w l.address_of l.owner m2.now.memory source.block size source.offset lies k.is.live k.is.fits in
      written_amid s a w stack l sp m2 m3 to size alignment (cells_at w source size) later m3.now.memory h2 k.wrote long x3 (holding_of_values (context s a.function) m2.now.registers m3.now.registers i.saved) (record { same = λ at o. refl }) i.outside
      (cells_same w l.address_of (cells_at w source size) m2.now.memory m3.now.memory f t (λ j lt. i.inside j (omega (arith, lt, long))) held))))
