-- The code's types, seen as the pure ones.
use Rattle.std.specs.Prelude.{◌≡◌, ℕ, Bool, ◌==◌, ◌&&◌, List, ◌∷◌, length, sum, Option}
use Rattle.qs_image.specs.declared.version.Version.TheVariants.{Second}
use Rattle.qs_image.specs.declared.fault.ImageFault.{ImageFault}
use Rattle.qs_image.specs.declared.image.Image.TheInside.{Inside}
use Rattle.qs_image.specs.declared.records.RecordView.{RecordView}
use Rattle.qs_image.specs.declared.records.Records.{Records}
use Rattle.qs_image.specs.declared.sections.Sections.{Sections}
use Rattle.qs_image.specs.Image.{Image, FunctionRecord}
use Rattle.qs_image.specs.Bytes.{records_of, lengths_of, image_from, image_of}
use Rattle.qs_image.specs.Faults.{are_names, part_tests, HasNoFault}

-- the image that a compiler made, which is written in version 2
abbrev pub made_image : Inside → Image
made_image i = record {
  version = Second;
  entry = i.entry;
  parameters = i.parameters;
  unsigned_set = i.unsigned_set;
  functions = i.functions.items;
  code = i.code.items;
  bytes = i.bytes.items;
}

abbrev pub record_of : RecordView → FunctionRecord
record_of r = record { name = r.name.now; address = r.address; cost = r.cost; parameters = r.parameters }

-- the records that an iterator still gives
abbrev pub records_left : Records → List FunctionRecord
records_left r = records_of r.version r.table.now r.names.now

-- the lengths of names that they say
abbrev pub lengths_left : Records → List ℕ
lengths_left r = lengths_of r.version r.table.now

-- the records begin with this one, and the others are left
abbrev pub BeginsWith : Records → RecordView × Records → Type 0
BeginsWith r first = records_left r ≡ record_of first.0 ∷ records_left first.1

abbrev pub image_in : Sections → Image
image_in s = image_from s.version s.entry s.parameters s.unsigned_set s.table.now s.names.now s.code.now s.data.now

-- whether the lengths that the records say add up to the bytes of names, and those are what names have to be
abbrev pub have_names : Sections → Bool
have_names s = sum (lengths_of s.version s.table.now) == length s.names.now && are_names (image_in s).functions

-- the tests of the sections behind the header
abbrev pub section_tests : Sections → List (Option ImageFault)
section_tests s = part_tests (length s.names.now) (lengths_of s.version s.table.now) (image_in s)

-- they are those of bytes that pass all tests
abbrev pub AreSections : List ℕ → Sections → Type 0
AreSections bytes s = HasNoFault bytes × (image_in s ≡ image_of bytes)
