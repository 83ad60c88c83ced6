-- The image as a pure value, and its bytes.
use Rattle.std.specs.Prelude.{◌≡◌, ℕ, ◌+◌, ◌*◌, ◌/◌, ◌%◌, ◌^◌, ◌<◌, ◌≤◌, ◌≢◌, List, [], ◌∷◌, ◌++◌, length, map, codes, All, AllPairs, Contains, IsTrue, Option, Some, None}
use Rattle.std.specs.Option.{option_to_list}
use Rattle.qs_base.specs.Names.{is_name}
use Rattle.qs_isa.specs.Addresses.{code_start}
use Rattle.qs_base.specs.Parameters.{most_main_parameters, most_parameters}
use Rattle.qs_image.specs.declared.version.Version.{Version}
use Rattle.qs_image.specs.declared.version.Version.TheVariants.{First, Second}
use Rattle.qs_image.specs.Limits.{most_code_words, most_data_bytes, most_functions, most_name_bytes, largest_cost}

-- the four bytes that an image of a version begins with
abbrev pub magic : Version → List ℕ
magic First = codes "QSI1"
magic Second = codes "QSI2"

-- a function with a body
pub record FunctionRecord : Type 0 where
  pub name : List ℕ
  -- the address of its first instruction
  pub address : ℕ
  -- the bytes of stack that a call of it costs
  pub cost : ℕ
  -- the count of its parameters, which a record of version 1 doesn't say
  pub parameters : Option ℕ

pub record Image : Type 0 where
  -- the version of its bytes
  pub version : Version
  -- the address of the first instruction to run
  pub entry : ℕ
  -- the count of main's parameters, and those of them that are `unsigned`, as bits from the lowest on
  pub parameters : ℕ
  pub unsigned_set : ℕ
  -- in the order of their definitions
  pub functions : List FunctionRecord
  -- the words of the code
  pub code : List ℕ
  -- the bytes of the data
  pub bytes : List ℕ

-- a word of four bytes, the lowest first
abbrev pub word_bytes : ℕ → List ℕ
word_bytes word = word % 256 ∷ word / 256 % 256 ∷ word / 65536 % 256 ∷ word / 16777216 % 256 ∷ []

abbrev pub words_bytes : List ℕ → List ℕ
words_bytes [] = []
words_bytes (word ∷ words) = word_bytes word ++ words_bytes words

-- words were written behind these bytes
abbrev pub Writes : List ℕ → List ℕ → List ℕ → Type 0
Writes before after words = after ≡ before ++ words_bytes words

-- the names, one after the other
abbrev pub joined_names : List FunctionRecord → List ℕ
joined_names [] = []
joined_names (f ∷ fs) = f.name ++ joined_names fs

-- a record is three words, in version 2 four: length of name, address, cost, count of parameters
abbrev pub record_words : List FunctionRecord → List ℕ
record_words [] = []
record_words (f ∷ fs) = (length f.name ∷ f.address ∷ f.cost ∷ option_to_list f.parameters) ++ record_words fs

-- the words behind the first four bytes, up to the records
abbrev pub header_words : Image → List ℕ
header_words image =
    length image.code
    ∷ length image.bytes
    ∷ length image.functions
    ∷ length (joined_names image.functions)
    ∷ image.entry
    ∷ image.parameters
    ∷ image.unsigned_set
    ∷ []

-- The bytes of an image: those that its version begins with, the header, the records, the names, the code, the data.
abbrev pub image_bytes : Image → List ℕ
image_bytes image =
    magic image.version
    ++ words_bytes (header_words image)
    ++ words_bytes (record_words image.functions)
    ++ joined_names image.functions
    ++ words_bytes image.code
    ++ image.bytes

abbrev pub IsBetween : ℕ → ℕ → ℕ → Type 0
IsBetween low high n = (low ≤ n) × (n ≤ high)

-- the address of one of so many instructions
pub record IsAddress (count address : ℕ) : Type 0 where
  pub k : ℕ
  pub below : k < count
  pub at : address ≡ code_start + 4 * k

-- a positive multiple of 16 bytes, up to the largest
pub record IsCost (cost : ℕ) : Type 0 where
  pub k : ℕ
  pub multiple : cost ≡ 16 * k
  pub positive : 0 < cost
  pub most : cost ≤ largest_cost

-- the record says a count of parameters, at most 16; main's is the one that the image says
pub record HasCount (main_parameters : ℕ) (f : FunctionRecord) : Type 0 where
  pub count : ℕ
  pub is : f.parameters ≡ Some count
  pub most : count ≤ most_parameters
  pub main : f.name ≡ codes "main" → count ≡ main_parameters

-- A record of version 1 says no count of parameters, one of version 2 does.
abbrev pub HasParameters : Version → (main_parameters : ℕ) → FunctionRecord → Type 0
HasParameters First main_parameters f = f.parameters ≡ None
HasParameters Second main_parameters f = HasCount main_parameters f

-- What an image keeps to.
pub record IsWellFormed (image : Image) : Type 0 where
  pub code_count : IsBetween 1 most_code_words (length image.code)
  pub byte_count : length image.bytes ≤ most_data_bytes
  pub function_count : IsBetween 1 most_functions (length image.functions)
  pub names_length : IsBetween 1 most_name_bytes (length (joined_names image.functions))
  pub parameters : image.parameters ≤ most_main_parameters
  pub unsigned_set : image.unsigned_set < 2 ^ image.parameters
  pub names : All (λ f. IsTrue (is_name f.name)) image.functions
  pub differ : AllPairs (λ f g. f.name ≢ g.name) image.functions
  pub main : Contains (map (λ f. f.name) image.functions) (codes "main")
  pub entry : IsAddress (length image.code) image.entry
  pub addresses : All (λ f. IsAddress (length image.code) f.address) image.functions
  pub costs : All (λ f. IsCost f.cost) image.functions
  pub counts : All (λ f. HasParameters image.version image.parameters f) image.functions
  pub words : All (λ word. word < 2 ^ 32) image.code
  pub octets : All (λ byte. byte < 256) image.bytes

-- The bytes are those of the image, and it keeps to its form.
pub record IsImage (bytes : List ℕ) (image : Image) : Type 0 where
  pub read : bytes ≡ image_bytes image
  pub well_formed : IsWellFormed image
