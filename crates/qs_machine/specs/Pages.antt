-- Bytes in pages of 4,096, which are numbered by address divided by 4,096.
use Rattle.std.specs.Prelude.{◌≡◌, ◌≢◌, ℕ, zero, suc, ◌+◌, ◌-◌, ◌*◌, ◌/◌, ◌%◌, ◌<◌, ◌≤◌, ◌^◌, List, [], ◌∷◌, length, slice_index, if◌then◌else◌}
use Rattle.qs_machine.specs.State.{is_inside}

abbrev pub page_bytes : ℕ
page_bytes = 4096

-- the place in the table of the page of an address, where the first is that of `start`
abbrev pub page_of : ℕ → ℕ → ℕ
page_of start address = address / page_bytes - start / page_bytes

-- where the byte at an address stands: the table says of each page which page of the bytes holds it
abbrev pub place_of : ℕ → List ℕ → ℕ → ℕ
place_of start table address = slice_index table (page_of start address) * page_bytes + address % page_bytes

-- the byte at an address: that of the pages, which hold what lies from `start` to `end`, or else the one that is given
abbrev pub byte_in_pages : ℕ → ℕ → List ℕ → List ℕ → (ℕ → ℕ) → ℕ → ℕ
byte_in_pages start end table bytes otherwise address =
    if is_inside start end address 1 then slice_index bytes (place_of start table address) else otherwise address

-- how many pages of the table were never written
abbrev pub untouched : List ℕ → ℕ
untouched [] = 0
untouched (zero ∷ table) = 1 + untouched table
untouched (suc page ∷ table) = untouched table

-- Page 0 of the bytes holds zeros, and stands for each page that was never written; each other page has its own.
pub record ArePages (start end : ℕ) (table bytes : List ℕ) : Type 0 where
  -- the table has the page of each address
  pub cover : end ≤ (start / page_bytes + length table) * page_bytes
  pub few : length table ≤ 2 ^ 20
  -- it names pages that are there whole
  pub whole : (page : ℕ) → (slice_index table page + 1) * page_bytes ≤ length bytes
  pub zeros : (place : ℕ) → place < page_bytes → slice_index bytes place ≡ 0
  pub apart : (page other : ℕ) → slice_index table page ≢ 0 → slice_index table page ≡ slice_index table other → page ≡ other
  -- with one for each page that was never written they are one more than the table has
  pub count : length bytes + untouched table * page_bytes ≡ (1 + length table) * page_bytes

-- an access lies in one page
abbrev pub IsInPage : ℕ → ℕ → Type 0
IsInPage address width = address % page_bytes + width ≤ page_bytes
