-- Images by hand: the bytes of one with one word of code in both versions, and that the other keeps to the form of an image.
use Rattle.std.proofs.Common.{◌≡◌, ℕ, ◌<◌, true, List, length, Option, Some, None, refl, sym, inl, inr, subst, arith}
use Rattle.std.specs.Prelude.{[], ◌∷◌, ◌++◌, codes, nat_lt}
use Rattle.std.specs.List.{list_all}
use Rattle.std.proofs.lemmas.Bool.{cases_lt, ltb-true}
use Rattle.std.proofs.lemmas.List.{get_or_past}
use Rattle.std.proofs.lemmas.List.Sums.{AllPass-from_list_all}
use Rattle.qs_base.specs.Keywords.{is_keyword, keyword_of}
use Rattle.qs_base.specs.Names.{is_name}
use Rattle.qs_image.specs.declared.fault.ImageFault.TheVariants.{Cost, Params}
use Rattle.qs_image.specs.declared.version.Version.{Version}
use Rattle.qs_image.specs.declared.version.Version.TheVariants.{First, Second}
use Rattle.qs_image.specs.Image.{Image, FunctionRecord, IsWellFormed, image_bytes}
use Rattle.qs_image.specs.Example.{larger}
use Rattle.qs_image.specs.Bytes.{version_of, number, words, records, lengths, image_of}
use Rattle.qs_image.specs.Faults.{first_fault}
use Rattle.qs_image.proofs.Words.{IsBytes, IsBytes-from}
use Rattle.qs_image.proofs.Wholes.{is_image}

-- ---- main alone, which costs 16 bytes, in one word of code, 0, which is no instruction

-- in this version, with this count of parameters in its record
abbrev smallest : Version → Option ℕ → Image
smallest version parameters = record {
  version = version;
  entry = 65536;
  parameters = 0;
  unsigned_set = 0;
  functions = record { name = codes "main"; address = 65536; cost = 16; parameters = parameters } ∷ [];
  code = 0 ∷ [];
  bytes = [];
}

-- behind the first four bytes: seven words, and three of the record
abbrev words_behind : List ℕ
words_behind =
    (1 ∷ 0 ∷ 0 ∷ 0 ∷ [])
    ++ (0 ∷ 0 ∷ 0 ∷ 0 ∷ [])
    ++ (1 ∷ 0 ∷ 0 ∷ 0 ∷ [])
    ++ (4 ∷ 0 ∷ 0 ∷ 0 ∷ [])
    ++ (0 ∷ 0 ∷ 1 ∷ 0 ∷ [])
    ++ (0 ∷ 0 ∷ 0 ∷ 0 ∷ [])
    ++ (0 ∷ 0 ∷ 0 ∷ 0 ∷ [])
    ++ (4 ∷ 0 ∷ 0 ∷ 0 ∷ [])
    ++ (0 ∷ 0 ∷ 1 ∷ 0 ∷ [])
    ++ (16 ∷ 0 ∷ 0 ∷ 0 ∷ [])

-- the name, and the word of code
abbrev bytes_behind : List ℕ
bytes_behind = (109 ∷ 97 ∷ 105 ∷ 110 ∷ []) ++ (0 ∷ 0 ∷ 0 ∷ 0 ∷ [])

smallest_of_version_1 : image_bytes (smallest First None) ≡ (81 ∷ 83 ∷ 73 ∷ 49 ∷ []) ++ words_behind ++ bytes_behind
smallest_of_version_1 = refl

-- with a count of parameters in the record
abbrev bytes_of_version_2 : ℕ → List ℕ
bytes_of_version_2 parameters = (81 ∷ 83 ∷ 73 ∷ 50 ∷ []) ++ words_behind ++ (parameters ∷ 0 ∷ 0 ∷ 0 ∷ []) ++ bytes_behind

smallest_of_version_2 : image_bytes (smallest Second (Some 0)) ≡ bytes_of_version_2 0
smallest_of_version_2 = refl

they_are_as_long : (length (image_bytes (smallest First None)) ≡ 52) × (length (bytes_of_version_2 0) ≡ 56)
they_are_as_long = (refl, refl)

-- ---- what is read of them

it_is_read_in_version_1 : (first_fault (image_bytes (smallest First None)) ≡ None) × (image_of (image_bytes (smallest First None)) ≡ smallest First None)
unfolding first_fault version_of number words records lengths is_name is_keyword keyword_of
it_is_read_in_version_1 = (refl, refl)

it_is_read_in_version_2 : (first_fault (bytes_of_version_2 0) ≡ None) × (image_of (bytes_of_version_2 0) ≡ smallest Second (Some 0))
unfolding first_fault version_of number words records lengths is_name is_keyword keyword_of
it_is_read_in_version_2 = (refl, refl)

-- the image has no parameters of main, and its record one
the_record_says_another_count : first_fault (bytes_of_version_2 1) ≡ Some (Params 0)
unfolding first_fault version_of number words records lengths is_name is_keyword keyword_of
the_record_says_another_count = refl

-- ---- f and main, which has two parameters, by the counts in their records and the cost of f

abbrev two_functions : (of_f of_main cost : ℕ) → Image
two_functions of_f of_main cost = record {
  version = Second;
  entry = 65536;
  parameters = 2;
  unsigned_set = 0;
  functions =
      record { name = codes "f"; address = 65536; cost = cost; parameters = Some of_f }
      ∷ record { name = codes "main"; address = 65536; cost = 16; parameters = Some of_main }
      ∷ [];
  code = 0 ∷ [];
  bytes = [];
}

the_most_parameters : first_fault (image_bytes (two_functions 16 2 16)) ≡ None
unfolding first_fault version_of number words records lengths is_name is_keyword keyword_of
the_most_parameters = refl

a_parameter_too_many : first_fault (image_bytes (two_functions 17 2 16)) ≡ Some (Params 0)
unfolding first_fault version_of number words records lengths is_name is_keyword keyword_of
a_parameter_too_many = refl

main_has_two : first_fault (image_bytes (two_functions 16 1 16)) ≡ Some (Params 1)
unfolding first_fault version_of number words records lengths is_name is_keyword keyword_of
main_has_two = refl

of_two_records_the_first : first_fault (image_bytes (two_functions 17 1 16)) ≡ Some (Params 0)
unfolding first_fault version_of number words records lengths is_name is_keyword keyword_of
of_two_records_the_first = refl

a_cost_comes_first : first_fault (image_bytes (two_functions 17 2 8)) ≡ Some (Cost 0)
unfolding first_fault version_of number words records lengths is_name is_keyword keyword_of
a_cost_comes_first = refl

-- ---- an image that keeps to its form

all_bytes : (bytes : List ℕ) → list_all (λ b. nat_lt b 256) bytes ≡ true → IsBytes bytes
all_bytes bytes e = IsBytes-from bytes (λ (i : ℕ).
    elim (cases_lt i (length bytes)) [
      | inl within ↦ ltb-true _ _ (AllPass-from_list_all (λ b. nat_lt b 256) bytes e i 0 within)
      | inr past ↦ subst (λ (b : ℕ). b < 256) (sym (get_or_past bytes i 0 past)) (omega arith)
    ])

-- what its bytes say passes every test
pub from_bytes : (image : Image) → list_all (λ b. nat_lt b 256) (image_bytes image) ≡ true → first_fault (image_bytes image) ≡ None → image_of (image_bytes image) ≡ image → IsWellFormed image
from_bytes image bytes passes says = subst IsWellFormed says (is_image (image_bytes image) (all_bytes (image_bytes image) bytes) passes).well_formed

pub larger-well_formed : IsWellFormed larger
unfolding first_fault version_of number words records lengths is_name is_keyword keyword_of
larger-well_formed = from_bytes larger refl refl refl

pub larger-parts : (functions : List FunctionRecord) (code bytes : List ℕ) → functions ≡ larger.functions → code ≡ larger.code → bytes ≡ larger.bytes → IsWellFormed (record { version = Second; entry = 65540; parameters = 2; unsigned_set = 2; functions = functions; code = code; bytes = bytes })
larger-parts functions code bytes p q r = rw (p, q, r) larger-well_formed
