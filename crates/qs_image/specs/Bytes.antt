-- What stands where in the bytes of an image.
use Rattle.std.specs.Prelude.{ℕ, zero, suc, ◌+◌, ◌*◌, ◌/◌, Bool, List, [], ◌∷◌, length, take, drop, bytes_eq, if◌then◌else◌, Option, Some, None}
use Rattle.byteorder.specs.Endian.{little_number}
use Rattle.qs_image.specs.declared.fault.HeaderWord.{HeaderWord}
use Rattle.qs_image.specs.declared.fault.HeaderWord.TheVariants as header
use Rattle.qs_image.specs.declared.version.Version.{Version}
use Rattle.qs_image.specs.declared.version.Version.TheVariants.{First, Second}
use Rattle.qs_image.specs.Image.{Image, FunctionRecord, magic}

-- ---- versions

-- the number of a version
abbrev pub version_number : Version → ℕ
version_number First = 1
version_number Second = 2

abbrev pub begins_as : Version → List ℕ → Bool
begins_as version bytes = bytes_eq (magic version) (take 4 bytes)

-- the version that the first four bytes name; bytes that begin as none are no image, and have here the second
unfoldable pub version_of : List ℕ → Version
version_of bytes = if begins_as First bytes then First else Second

-- a record is three words, in version 2 four
abbrev pub record_bytes : Version → ℕ
record_bytes First = 12
record_bytes Second = 16

-- ---- words

-- the word in the first four bytes, the lowest first
unfoldable pub number : List ℕ → ℕ
number bytes = little_number 4 bytes

-- the word of this number, from 0
abbrev pub word : ℕ → List ℕ → ℕ
word w bytes = number (drop (4 * w) bytes)

-- the number of a word of the header that has a range, its offset divided by 4
abbrev pub word_number : HeaderWord → ℕ
word_number header.CodeCount = 1
word_number header.ByteCount = 2
word_number header.FunctionCount = 3
word_number header.NamesLength = 4
word_number header.Parameters = 6
word_number header.UnsignedSet = 7

-- the number of the other word, the address of the first instruction to run
abbrev pub entry_word : ℕ
entry_word = 5

-- a word of the header by its name
abbrev pub header_word : HeaderWord → List ℕ → ℕ
header_word name bytes = word (word_number name) bytes

-- The counts of the header.
abbrev pub code_count : List ℕ → ℕ
code_count bytes = header_word header.CodeCount bytes

abbrev pub byte_count : List ℕ → ℕ
byte_count bytes = header_word header.ByteCount bytes

abbrev pub function_count : List ℕ → ℕ
function_count bytes = header_word header.FunctionCount bytes

abbrev pub names_length : List ℕ → ℕ
names_length bytes = header_word header.NamesLength bytes

-- ---- sections

-- the four bytes of the version and seven words
abbrev pub header_bytes : ℕ
header_bytes = 32

-- how many bytes the records have
abbrev pub table_bytes : List ℕ → ℕ
table_bytes bytes = record_bytes (version_of bytes) * function_count bytes

-- how many bytes the counts ask for
abbrev pub size : List ℕ → ℕ
size bytes = header_bytes + table_bytes bytes + names_length bytes + 4 * code_count bytes + byte_count bytes

-- One after the other: the header, the table of records, the names, the code, the data.
abbrev pub behind_header : List ℕ → List ℕ
behind_header bytes = drop header_bytes bytes

abbrev pub table_of : List ℕ → List ℕ
table_of bytes = take (table_bytes bytes) (behind_header bytes)

abbrev pub behind_table : List ℕ → List ℕ
behind_table bytes = drop (table_bytes bytes) (behind_header bytes)

abbrev pub names_of : List ℕ → List ℕ
names_of bytes = take (names_length bytes) (behind_table bytes)

abbrev pub behind_names : List ℕ → List ℕ
behind_names bytes = drop (names_length bytes) (behind_table bytes)

abbrev pub code_of : List ℕ → List ℕ
code_of bytes = take (4 * code_count bytes) (behind_names bytes)

abbrev pub data_of : List ℕ → List ℕ
data_of bytes = drop (4 * code_count bytes) (behind_names bytes)

-- ---- what stands there

-- so many words
unfoldable pub words : ℕ → List ℕ → List ℕ
words zero bytes = []
words (suc n) bytes = number bytes ∷ words n (drop 4 bytes)

abbrev pub words_of : List ℕ → List ℕ
words_of bytes = words (length bytes / 4) bytes

-- the count of parameters that the first record of a table says
abbrev pub first_parameters : Version → List ℕ → Option ℕ
first_parameters First table = None
first_parameters Second table = Some (word 3 table)

-- the first record of a table, whose name is the first of the names; of a name that passes the end of the names there is what is there
abbrev pub first_record : Version → List ℕ → List ℕ → FunctionRecord
first_record version table names =
    record { name = take (word 0 table) names; address = word 1 table; cost = word 2 table; parameters = first_parameters version table }

-- so many records
unfoldable pub records : Version → ℕ → List ℕ → List ℕ → List FunctionRecord
records version zero table names = []
records version (suc n) table names =
    first_record version table names ∷ records version n (drop (record_bytes version) table) (drop (word 0 table) names)

abbrev pub records_of : Version → List ℕ → List ℕ → List FunctionRecord
records_of version table names = records version (length table / record_bytes version) table names

-- the lengths of names that so many records say
unfoldable pub lengths : Version → ℕ → List ℕ → List ℕ
lengths version zero table = []
lengths version (suc n) table = word 0 table ∷ lengths version n (drop (record_bytes version) table)

abbrev pub lengths_of : Version → List ℕ → List ℕ
lengths_of version table = lengths version (length table / record_bytes version) table

-- the image of these parts
abbrev pub image_from : Version → ℕ → ℕ → ℕ → List ℕ → List ℕ → List ℕ → List ℕ → Image
image_from version entry parameters unsigned_set table names code data_bytes = record {
  version = version;
  entry = entry;
  parameters = parameters;
  unsigned_set = unsigned_set;
  functions = records_of version table names;
  code = words_of code;
  bytes = data_bytes;
}

-- What the bytes of an image say. Other bytes say something too, which is no image.
abbrev pub image_of : List ℕ → Image
image_of bytes =
    image_from (version_of bytes) (word entry_word bytes) (header_word header.Parameters bytes) (header_word header.UnsignedSet bytes) (table_of bytes) (names_of bytes) (code_of bytes) (data_of bytes)
