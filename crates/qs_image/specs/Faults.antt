-- The tests of bytes that are read as an image, in their order, and the fault of the first that fails.
use Rattle.std.specs.Prelude.{◌≡◌, ℕ, ◌+◌, ◌*◌, ◌^◌, ◌%◌, Bool, true, ◌&&◌, ◌||◌, not, List, [], ◌∷◌, ◌++◌, length, nat_le, nat_lt, ◌==◌, if◌then◌else◌, Option, Some, None, bytes_eq, codes, sum, option_map}
use Rattle.std.specs.List.{list_all, list_any, position_from}
use Rattle.std.specs.Option.{option_map_or}
use Rattle.qs_base.specs.Bytes.{is_between}
use Rattle.qs_base.specs.Names.{is_name}
use Rattle.qs_isa.specs.Addresses.{code_start}
use Rattle.qs_image.specs.declared.fault.HeaderWord.TheVariants as header
use Rattle.qs_image.specs.declared.fault.ImageFault.{ImageFault}
use Rattle.qs_image.specs.declared.fault.ImageFault.TheVariants.{Short, Magic, Count, Trailing, Entry, Cost, Names, Params}
use Rattle.qs_image.specs.declared.version.Version.TheVariants.{First, Second}
use Rattle.qs_base.specs.Parameters.{most_main_parameters, most_parameters}
use Rattle.qs_image.specs.Limits.{most_code_words, most_data_bytes, most_functions, most_name_bytes, largest_cost}
use Rattle.qs_image.specs.Image.{Image, FunctionRecord}
use Rattle.qs_image.specs.Bytes.{begins_as, version_of, header_bytes, header_word, code_count, byte_count, function_count, names_length, size, table_of, lengths_of, image_of}

-- no name is that of a later function
abbrev pub all_differ : List FunctionRecord → Bool
all_differ [] = true
all_differ (f ∷ fs) = not (list_any (λ g. bytes_eq g.name f.name) fs) && all_differ fs

-- each name is one of the language, they differ, one is `main`
abbrev pub are_names : List FunctionRecord → Bool
are_names fs = list_all (λ f. is_name f.name) fs && all_differ fs && list_any (λ f. bytes_eq f.name (codes "main")) fs

-- the address of one of so many instructions
abbrev pub is_address : ℕ → ℕ → Bool
is_address count address = nat_le code_start address && nat_lt address (code_start + 4 * count) && address % 4 == 0

abbrev pub are_addresses : Image → Bool
are_addresses image = is_address (length image.code) image.entry && list_all (λ f. is_address (length image.code) f.address) image.functions

-- a positive multiple of 16 bytes, up to the largest
abbrev pub is_cost : ℕ → Bool
is_cost cost = is_between 1 largest_cost cost && cost % 16 == 0

-- by the number of the first function whose cost is none
abbrev pub cost_fault : List FunctionRecord → Option ImageFault
cost_fault fs = option_map Cost (position_from (λ f. not (is_cost f.cost)) 0 fs)

-- a count of parameters is at most 16, and main's is the one that the image says
abbrev pub is_count : ℕ → FunctionRecord → ℕ → Bool
is_count main_parameters f count = nat_le count most_parameters && (not (bytes_eq f.name (codes "main")) || count == main_parameters)

-- so is the one that a record says, if it says one
abbrev pub has_parameters : ℕ → FunctionRecord → Bool
has_parameters main_parameters f = option_map_or (λ count. is_count main_parameters f count) f.parameters true

-- by the number of the first function whose count of parameters is none
abbrev pub parameters_fault : ℕ → List FunctionRecord → Option ImageFault
parameters_fault main_parameters fs = option_map Params (position_from (λ f. not (has_parameters main_parameters f)) 0 fs)

-- A test answers `None` where it is passed, and else its fault.
abbrev pub unless : Bool → ImageFault → Option ImageFault
unless test fault = if test then None else Some fault

-- The ranges of the words of the header.
abbrev pub count_tests : List ℕ → List (Option ImageFault)
count_tests bytes =
    unless (is_between 1 most_code_words (code_count bytes)) (Count header.CodeCount)
    ∷ unless (nat_le (byte_count bytes) most_data_bytes) (Count header.ByteCount)
    ∷ unless (is_between 1 most_functions (function_count bytes)) (Count header.FunctionCount)
    ∷ unless (is_between 1 most_name_bytes (names_length bytes)) (Count header.NamesLength)
    ∷ unless (nat_le (header_word header.Parameters bytes) most_main_parameters) (Count header.Parameters)
    ∷ unless (nat_lt (header_word header.UnsignedSet bytes) (2 ^ header_word header.Parameters bytes)) (Count header.UnsignedSet)
    ∷ []

abbrev pub header_tests : List ℕ → List (Option ImageFault)
header_tests bytes =
    unless (nat_le header_bytes (length bytes)) Short
    ∷ unless (begins_as First bytes || begins_as Second bytes) Magic
    ∷ count_tests bytes

abbrev pub size_tests : List ℕ → List (Option ImageFault)
size_tests bytes =
    unless (nat_le (size bytes) (length bytes)) Short
    ∷ unless (nat_le (length bytes) (size bytes)) Trailing
    ∷ []

-- by the count of the bytes of names, the lengths that the records say, and the image that the bytes say
abbrev pub part_tests : ℕ → List ℕ → Image → List (Option ImageFault)
part_tests names_length lengths image =
    unless (sum lengths == names_length && are_names image.functions) Names
    ∷ unless (are_addresses image) Entry
    ∷ cost_fault image.functions
    ∷ parameters_fault image.parameters image.functions
    ∷ []

abbrev pub first_of : List (Option ImageFault) → Option ImageFault
first_of [] = None
first_of (None ∷ others) = first_of others
first_of (Some fault ∷ others) = Some fault

-- The fault of the first test that fails, or `None`, which is where the bytes are an image.
unfoldable pub first_fault : List ℕ → Option ImageFault
first_fault bytes = first_of (header_tests bytes ++ size_tests bytes ++ part_tests (names_length bytes) (lengths_of (version_of bytes) (table_of bytes)) (image_of bytes))

-- all tests are passed
abbrev pub HasNoFault : List ℕ → Type 0
HasNoFault bytes = first_fault bytes ≡ None

abbrev pub IsFirstFault : List ℕ → ImageFault → Type 0
IsFirstFault bytes fault = first_fault bytes ≡ Some fault
