-- The registers that an entry stores.
use Rattle.std.proofs.Common.{ℕ, zero, suc, ◌<◌, ◌≤◌, Bool, true, false, List, [], ◌∷◌, length, arith}
use Rattle.std.specs.Prelude.{All, if◌then◌else◌, ◌++◌}
use Rattle.qs_tac.specs.Places.{PlacesTree}
use Rattle.qs_tac.specs.declared.places.Place.{Place}
use Rattle.qs_tac.specs.Trees.{TacFunctionTree}
use Rattle.qs_frames.specs.Layout.{is_among, used_among, saved_registers, used_registers, keeps_return_address, return_register, stored_registers}
use Rattle.qs_frames.proofs.FrameLaws.{few_return_words, stored_words}
use Rattle.qs_frames.proofs.OffsetLaws.{used_most}

abbrev AreSmall : List ℕ → Type 0
AreSmall registers = All (λ (r : ℕ). r < 32) registers

with_one : (r : ℕ) (registers : List ℕ) → r < 32 → AreSmall registers → AreSmall (r ∷ registers)
with_one r registers h k zero d l = h
with_one r registers h k (suc i) d l = k i d (omega (arith, l))

either : (b : Bool) (r : ℕ) (registers : List ℕ) → r < 32 → AreSmall registers → AreSmall (if b then r ∷ registers else registers)
either true r registers h k = with_one r registers h k
either false r registers h k = k

used_small : (places : List Place) (registers : List ℕ) → AreSmall registers → AreSmall (used_among places registers)
used_small places [] h = h
used_small places (r ∷ registers) h =
    either (is_among places r) r (used_among places registers) (h zero 0 (omega arith))
    (used_small places registers (λ i d l. h (suc i) d (omega (arith, l))))

saved_small : AreSmall saved_registers
saved_small zero d l = omega arith
saved_small (suc zero) d l = omega arith
saved_small (suc (suc zero)) d l = omega arith
saved_small (suc (suc (suc zero))) d l = omega arith
saved_small (suc (suc (suc (suc zero)))) d l = omega arith
saved_small (suc (suc (suc (suc (suc zero))))) d l = omega arith
saved_small (suc (suc (suc (suc (suc (suc zero)))))) d l = omega arith
saved_small (suc (suc (suc (suc (suc (suc (suc zero))))))) d l = omega arith
saved_small (suc (suc (suc (suc (suc (suc (suc (suc zero)))))))) d l = omega arith
saved_small (suc (suc (suc (suc (suc (suc (suc (suc (suc zero))))))))) d l = omega arith
saved_small (suc (suc (suc (suc (suc (suc (suc (suc (suc (suc zero)))))))))) d l = omega arith
saved_small (suc (suc (suc (suc (suc (suc (suc (suc (suc (suc (suc zero))))))))))) d l = omega arith
saved_small (suc (suc (suc (suc (suc (suc (suc (suc (suc (suc (suc (suc i)))))))))))) d l = absurd (omega (arith, l))

pub stored_are_registers : (f : TacFunctionTree) (p : PlacesTree) → All (λ (r : ℕ). r < 32) (stored_registers f p)
stored_are_registers f p = by (keeps_return_address f p)
  where
    by : (b : Bool) → AreSmall (return_register b ++ used_registers p)
    by true = with_one 1 (used_registers p) (omega arith) (used_small p.at saved_registers saved_small)
    by false = used_small p.at saved_registers saved_small

pub few_are_stored : (f : TacFunctionTree) (p : PlacesTree) → length (stored_registers f p) ≤ 13
few_are_stored f p =
    let words = stored_words f p in
    let address = few_return_words f p in
    let used = used_most p.at saved_registers in
    omega (arith, words, address, used)
