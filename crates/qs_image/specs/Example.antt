-- An image by hand.
use Rattle.std.specs.Prelude.{[], ◌∷◌, ◌++◌, codes, Some}
use Rattle.qs_image.specs.declared.version.Version.TheVariants.{Second}
use Rattle.qs_image.specs.Image.{Image}

-- Two functions, two words of code that return, three bytes of data. The first function has nine parameters. main begins
-- at the second word, and the second of its two parameters is `unsigned`.
abbrev pub larger : Image
larger = record {
  version = Second;
  entry = 65540;
  parameters = 2;
  unsigned_set = 2;
  functions =
      record { name = codes "mail"; address = 65536; cost = 16; parameters = Some 9 }
      ∷ record { name = codes "main"; address = 65540; cost = 48; parameters = Some 2 }
      ∷ [];
  code = 32871 ∷ 32871 ∷ [];
  bytes = codes "hi" ++ 0 ∷ [];
}
