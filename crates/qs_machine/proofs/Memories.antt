-- The bytes of the regions, as a function of the address.
use Rattle.std.proofs.Common.{◌≡◌, ℕ, zero, suc, ◌+◌, ◌-◌, ◌*◌, ◌/◌, ◌%◌, ◌^◌, ◌<◌, ◌≤◌, Bool, true, false, Some, None, List, [], ◌∷◌, length, take, drop, slice_index, refl, ap, sym, ◌∙◌, arith}
use Rattle.std.specs.Prelude.{nat_le, if◌then◌else◌}
use Rattle.std.proofs.lemmas.Bool.{le-leb, or_left, or_right}
use Rattle.std.proofs.lemmas.Bool.Decides.{nat_tests}
use Rattle.std.proofs.Math.Path.{fun_ext}
use Rattle.std.proofs.Math.Seq.{drop-cons}
use Rattle.byteorder.specs.Endian.{little_number}
use Rattle.qs_base.specs.Words.{sign_extend}
use Rattle.qs_isa.specs.Addresses.{code_start, data_start}
use Rattle.qs_isa.specs.declared.instruction.LoadKind.{LoadKind}
use Rattle.qs_isa.specs.declared.instruction.LoadKind.TheVariants.{Lb, Lh, Lw, Lbu, Lhu}
use Rattle.qs_isa.specs.declared.instruction.StoreKind.{StoreKind}
use Rattle.qs_isa.specs.declared.instruction.StoreKind.TheVariants.{Sb, Sh, Sw}
use Rattle.qs_machine.specs.State.{with_value, is_inside, store_1, store_2, store_4}
use Rattle.qs_machine.specs.Step.{loaded, stored, load_width, store_width}
use Rattle.qs_machine.specs.declared.memory.Memory.{Memory}
use Rattle.qs_machine.specs.declared.pages.Pages.{Pages}
use Rattle.qs_machine.specs.Pages.{byte_in_pages, place_of, IsInPage}
use Rattle.qs_machine.specs.Hart.{memory_of, byte_of, bytes_of, lies_in, can_read_in, bytes_read, word_read, nothing, StoresIn}
use Rattle.qs_machine.specs.Bytes.{byte_in, bytes_from, loaded_from}
use Rattle.qs_machine.proofs.Choices.{found}
use Rattle.qs_machine.proofs.PageLaws.{test-low, test-high, inside-test, behind-test}

-- ---- an aligned access lies in one page

pub loads_in_page : (kind : LoadKind) (address : ℕ) → address % load_width kind ≡ 0 → IsInPage address (load_width kind)
loads_in_page Lb address aligned = omega arith
loads_in_page Lh address aligned = omega (arith, aligned)
loads_in_page Lw address aligned = omega (arith, aligned)
loads_in_page Lbu address aligned = omega arith
loads_in_page Lhu address aligned = omega (arith, aligned)

pub stores_in_page : (kind : StoreKind) (address : ℕ) → address % store_width kind ≡ 0 → IsInPage address (store_width kind)
stores_in_page Sb address aligned = omega arith
stores_in_page Sh address aligned = omega (arith, aligned)
stores_in_page Sw address aligned = omega (arith, aligned)

-- ---- one byte

pub inside : (start : ℕ) (bytes : List ℕ) (otherwise : ℕ → ℕ) (address : ℕ) → start ≤ address → address + 1 ≤ start + length bytes → byte_in start bytes otherwise address ≡ slice_index bytes (address - start)
inside start bytes otherwise address low high = let e = inside-test start (start + length bytes) address 1 low high in rw e refl

pub behind : (start : ℕ) (bytes : List ℕ) (otherwise : ℕ → ℕ) (address : ℕ) → start ≤ address → start + length bytes ≤ address → byte_in start bytes otherwise address ≡ otherwise address
behind start bytes otherwise address low high = let e = behind-test start (start + length bytes) address 1 low (omega arith) in rw e refl

behind-pages : (p : Pages) (otherwise : ℕ → ℕ) (address : ℕ) → p.start ≤ address → p.end ≤ address → byte_of p otherwise address ≡ otherwise address
behind-pages p otherwise address low high = let e = behind-test p.start p.end address 1 low (omega arith) in rw e refl

-- within pages it makes no difference what lies elsewhere
inside-pages : (p : Pages) (one other : ℕ → ℕ) (address : ℕ) → p.start ≤ address → address < p.end → byte_of p one address ≡ byte_of p other address
inside-pages p one other address low high = let e = inside-test p.start p.end address 1 low (omega arith) in rw e refl

-- ---- bytes from an address on

pub bytes_from-inside : (start : ℕ) (bytes : List ℕ) (otherwise : ℕ → ℕ) (width address : ℕ) → start ≤ address → address + width ≤ start + length bytes → bytes_from (byte_in start bytes otherwise) address width ≡ take width (drop (address - start) bytes)
bytes_from-inside start bytes otherwise zero address low high = refl
bytes_from-inside start bytes otherwise (suc width) address low high =
    let lt : address - start < length bytes = omega arith in
    let rest = bytes_from-inside start bytes otherwise width (address + 1) (omega arith) (omega arith) in
    let next : address + 1 - start ≡ suc (address - start) = omega arith in
    rw (inside start bytes otherwise address low (omega arith), rest, next, drop-cons bytes (address - start) 0 lt) refl

-- two memories that agree on the bytes
same_bytes : (f g : ℕ → ℕ) (width address : ℕ) → ((a : ℕ) → address ≤ a → a < address + width → f a ≡ g a) → bytes_from f address width ≡ bytes_from g address width
same_bytes f g zero address same = refl
same_bytes f g (suc width) address same =
    let rest = same_bytes f g width (address + 1) (λ a low high. same a (omega arith) (omega arith)) in
    rw (same address (omega arith) (omega arith), rest) refl

-- ---- reads

answer : (test : Bool) (x y : List ℕ) → test ≡ true → x ≡ y → Some x ≡ (if test then Some y else None)
answer test x y holds is = rw (holds, is) refl

pub read-code : (m : Memory) (count address width at : ℕ) (bytes : List ℕ) → count ≡ length m.code.items → bytes ≡ m.code.items → Some at ≡ (if is_inside code_start (code_start + count) address width then Some (address - code_start) else None) → Some (take (at + width - at) (drop at bytes)) ≡ (if can_read_in m address width then Some (bytes_from (memory_of m) address width) else None)
read-code m count address width at bytes count_is bytes_are e =
    let f = found (is_inside code_start (code_start + count) address width) (address - code_start) at e in
    let holds : is_inside code_start (code_start + length m.code.items) address width ≡ true = rw (← count_is) f.holds in
    let low = test-low code_start (code_start + length m.code.items) address width holds in
    let high = test-high code_start (code_start + length m.code.items) address width holds in
    let size : at + width - at ≡ width = omega arith in
    answer (can_read_in m address width) _ _ (or_left _ _ holds)
    (rw (size, bytes_are, f.is) (sym (bytes_from-inside code_start m.code.items _ width address low high)))

pub read-data : (m : Memory) (address width : ℕ) (bytes : List ℕ) → lies_in m.data address width ≡ true → bytes ≡ bytes_of m.data address width → Some bytes ≡ (if can_read_in m address width then Some (bytes_from (memory_of m) address width) else None)
read-data m address width bytes holds is =
    let low = test-low m.data.start m.data.end address width holds in
    let high = test-high m.data.start m.data.end address width holds in
    let begins = m.data_begins in
    let code = m.code_fits in
    let rest = byte_of m.stack nothing in
    answer (can_read_in m address width) _ _ (or_right _ _ (or_left _ _ holds))
    (is ∙ same_bytes (byte_of m.data nothing) (memory_of m) width address (λ a from to.
    inside-pages m.data nothing rest a (omega arith) (omega arith)
    ∙ sym (behind code_start m.code.items (byte_of m.data rest) a (omega arith) (omega arith))))

pub read-stack : (m : Memory) (address width : ℕ) (bytes : List ℕ) → lies_in m.stack address width ≡ true → bytes ≡ bytes_of m.stack address width → Some bytes ≡ (if can_read_in m address width then Some (bytes_from (memory_of m) address width) else None)
read-stack m address width bytes holds is =
    let low = test-low m.stack.start m.stack.end address width holds in
    let high = test-high m.stack.start m.stack.end address width holds in
    let begins = m.data_begins in
    let code = m.code_fits in
    let fits = m.data_fits in
    let above = m.stack_fits in
    let rest = byte_of m.stack nothing in
    answer (can_read_in m address width) _ _ (or_right _ _ (or_right _ _ holds))
    (is ∙ same_bytes rest (memory_of m) width address (λ a from to.
    sym (behind-pages m.data rest a (omega arith) (omega arith))
    ∙ sym (behind code_start m.code.items (byte_of m.data rest) a (omega arith) (omega arith))))

-- where neither pages nor code hold the access
pub read-nowhere : (m : Memory) (count address width : ℕ) → count ≡ length m.code.items → lies_in m.stack address width ≡ false → lies_in m.data address width ≡ false → None ≡ (if is_inside code_start (code_start + count) address width then Some (address - code_start) else None) → None ≡ (if can_read_in m address width then Some (bytes_from (memory_of m) address width) else None)
read-nowhere m count address width count_is stack elsewhere e =
    let outside = nowhere (is_inside code_start (code_start + count) address width) (address - code_start) e in
    let code : is_inside code_start (code_start + length m.code.items) address width ≡ false = rw (← count_is) outside in
    rw (code, elsewhere, stack) refl
  where
    nowhere : (test : Bool) (x : ℕ) → None ≡ (if test then Some x else None) → test ≡ false
    nowhere true x is = cc
    nowhere false x is = refl

-- ---- the word of the bytes that are read

number_1 : (a : ℕ) → little_number 1 (a ∷ []) ≡ a
number_1 a = let e : a + 256 * 0 ≡ a = omega arith in e

number_2 : (a b : ℕ) → little_number 2 (a ∷ b ∷ []) ≡ a + 2 ^ 8 * b
number_2 a b = let e : a + 256 * (b + 256 * 0) ≡ a + 2 ^ 8 * b = omega arith in e

number_4 : (a b c d : ℕ) → little_number 4 (a ∷ b ∷ c ∷ d ∷ []) ≡ a + 2 ^ 8 * b + 2 ^ 16 * (c + 2 ^ 8 * d)
number_4 a b c d = let e : a + 256 * (b + 256 * (c + 256 * (d + 256 * 0))) ≡ a + 2 ^ 8 * b + 2 ^ 16 * (c + 2 ^ 8 * d) = omega arith in e

loaded-is : (kind : LoadKind) (memory : ℕ → ℕ) (address : ℕ) → loaded_from kind (bytes_from memory address (load_width kind)) ≡ loaded kind memory address
loaded-is Lb memory address = ap (λ (n : ℕ). sign_extend 8 n) (number_1 (memory address))
loaded-is Lh memory address = ap (λ (n : ℕ). sign_extend 16 n) (number_2 (memory address) (memory (address + 1)))
loaded-is Lw memory address =
    let e : address + 1 + 1 ≡ address + 2 = omega arith in
    rw e (number_4 (memory address) (memory (address + 1)) (memory (address + 2)) (memory (address + 2 + 1)))
loaded-is Lbu memory address = number_1 (memory address)
loaded-is Lhu memory address = number_2 (memory address) (memory (address + 1))

pub word-read : (m : Memory) (kind : LoadKind) (address word : ℕ) (bytes : List ℕ) → word ≡ loaded_from kind bytes → Some bytes ≡ bytes_read m address (load_width kind) → Some word ≡ word_read m kind address
word-read m kind address word bytes is e = by (can_read_in m address (load_width kind)) (memory_of m) e
  where
    by : (test : Bool) (memory : ℕ → ℕ) → Some bytes ≡ (if test then Some (bytes_from memory address (load_width kind)) else None) → Some word ≡ (if test then Some (loaded kind memory address) else None)
    by true memory f = let all : bytes ≡ bytes_from memory address (load_width kind) = cc in rw (is, all, loaded-is kind memory address) refl
    by false memory f = absurd cc

-- ---- stores

-- what is laid over a memory, where it covers nothing from an address on
pub record ShowsFrom (over : (ℕ → ℕ) → ℕ → ℕ) (address : ℕ) : Type 0 where
  pub byte : (memory : ℕ → ℕ) (place value : ℕ) → address ≤ place → over (with_value memory place value) ≡ with_value (over memory) place value

through_2 : (over : (ℕ → ℕ) → ℕ → ℕ) (low : ℕ) → ShowsFrom over low → (memory : ℕ → ℕ) (address value : ℕ) → low ≤ address → over (store_2 memory address value) ≡ store_2 (over memory) address value
through_2 over low shows memory address value le =
    shows.byte (store_1 memory address value) (address + 1) (value / 2 ^ 8 % 2 ^ 8) (omega arith)
    ∙ ap (λ (m : ℕ → ℕ). store_1 m (address + 1) (value / 2 ^ 8)) (shows.byte memory address (value % 2 ^ 8) le)

through : (over : (ℕ → ℕ) → ℕ → ℕ) (low : ℕ) → ShowsFrom over low → (kind : StoreKind) (memory : ℕ → ℕ) (address value : ℕ) → low ≤ address → over (stored kind memory address value) ≡ stored kind (over memory) address value
through over low shows Sb memory address value le = shows.byte memory address (value % 2 ^ 8) le
through over low shows Sh memory address value le = through_2 over low shows memory address value le
through over low shows Sw memory address value le =
    through_2 over low shows (store_2 memory address value) (address + 2) (value / 2 ^ 16) (omega arith)
    ∙ ap (λ (m : ℕ → ℕ). store_2 m (address + 2) (value / 2 ^ 16)) (through_2 over low shows memory address value le)

past-at : (start end : ℕ) (bytes otherwise : ℕ → ℕ) (place byte address : ℕ) → end ≤ place → (if is_inside start end address 1 then bytes address else with_value otherwise place byte address) ≡ with_value (λ a. if is_inside start end a 1 then bytes a else otherwise a) place byte address
past-at start end bytes otherwise place byte address past = grind (arith, nat_tests)

shows_past : (start end : ℕ) (bytes : ℕ → ℕ) → ShowsFrom (λ otherwise a. if is_inside start end a 1 then bytes a else otherwise a) end
shows_past start end bytes = record { byte = λ memory place value le. fun_ext (λ a. past-at start end bytes memory place value a le) }

over_code : (code : List ℕ) (kind : StoreKind) (memory : ℕ → ℕ) (address value : ℕ) → code_start + length code ≤ address → byte_in code_start code (stored kind memory address value) ≡ stored kind (byte_in code_start code memory) address value
over_code code kind memory address value le =
    through (byte_in code_start code) (code_start + length code) (shows_past code_start (code_start + length code) (λ a. slice_index code (a - code_start))) kind memory address value le

over_pages : (p : Pages) (kind : StoreKind) (memory : ℕ → ℕ) (address value : ℕ) → p.end ≤ address → byte_of p (stored kind memory address value) ≡ stored kind (byte_of p memory) address value
over_pages p kind memory address value le =
    through (byte_of p) p.end (shows_past p.start p.end (λ a. slice_index p.bytes.items (place_of p.start p.table.items a))) kind memory address value le

pub store-data : (m : Memory) (q : Pages) (kind : StoreKind) (address value : ℕ) → lies_in m.data address (store_width kind) ≡ true → StoresIn m.data q kind address value → byte_in code_start m.code.items (byte_of q (byte_of m.stack nothing)) ≡ stored kind (memory_of m) address value
store-data m q kind address value holds stores =
    let low = test-low m.data.start m.data.end address (store_width kind) holds in
    let begins = m.data_begins in
    let code = m.code_fits in
    let rest = byte_of m.stack nothing in
    ap (byte_in code_start m.code.items) (stores.bytes rest) ∙ over_code m.code.items kind (byte_of m.data rest) address value (omega arith)

pub store-stack : (m : Memory) (q : Pages) (kind : StoreKind) (address value : ℕ) → lies_in m.stack address (store_width kind) ≡ true → StoresIn m.stack q kind address value → byte_in code_start m.code.items (byte_of m.data (byte_of q nothing)) ≡ stored kind (memory_of m) address value
store-stack m q kind address value holds stores =
    let low = test-low m.stack.start m.stack.end address (store_width kind) holds in
    let begins = m.data_begins in
    let code = m.code_fits in
    let fits = m.data_fits in
    let above = m.stack_fits in
    let rest = byte_of m.stack nothing in
    ap (λ (memory : ℕ → ℕ). byte_in code_start m.code.items (byte_of m.data memory)) (stores.bytes nothing)
    ∙ ap (byte_in code_start m.code.items) (over_pages m.data kind rest address value (omega arith))
    ∙ over_code m.code.items kind (byte_of m.data rest) address value (omega arith)
