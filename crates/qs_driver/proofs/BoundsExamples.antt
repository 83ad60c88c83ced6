-- The bound of small proofs, computed from the definitions.
use Rattle.std.proofs.Common.{◌≡◌, ℕ, ◌^◌, List, [], ◌∷◌, codes, pos, Some, None, refl}
use Rattle.qs_syntax.specs.Trees.{UnitTree}
use Rattle.qs_assert.specs.declared.define.Amount.TheVariants.{Finite, Infinite, Wide}
use Rattle.qs_assert.specs.declared.variable.NumberType.TheVariants as numbers
use Rattle.qs_assert.specs.declared.variable.VarKind.TheVariants as kinds
use Rattle.qs_assert.specs.Trees.{TermTree, variable, AssertionTree, natural, infinity, cost, num, total, product, assertions_of}
use Rattle.qs_entail.specs.Certificates.{same}
use Rattle.qs_triples.specs.Derivations.{EntryTree, leaf}
use Rattle.qs_prooftext_meaning.specs.Proofs.{no_proofs}
use Rattle.qs_prooftext_meaning.proofs.Examples.{u}
use Rattle.qs_image.specs.Image.{Image, FunctionRecord}
use Rattle.qs_image.specs.declared.version.Version.TheVariants.{Second}
use Rattle.qs_driver.specs.Bounds.{costs_in, bound_by, bytes_by}
use Rattle.qs_driver.specs.Certified.{CertifiedSource}

-- ---- an image of `unsigned f(unsigned n, int q)`, as if it were main, and `void g(void)`

abbrev record_of : List ℕ → ℕ → ℕ → FunctionRecord
record_of name size parameters = record { name = name; address = 65536; cost = size; parameters = Some parameters }

abbrev image : Image
image = record {
  version = Second;
  entry = 65536;
  parameters = 2;
  unsigned_set = 1;
  functions = record_of (codes "f") 32 2 ∷ record_of (codes "g") 16 0 ∷ [];
  code = [];
  bytes = [];
}

costs : costs_in image.functions ≡ 32 ∷ 16 ∷ []
costs = refl

-- ---- a source with these entries

abbrev source : UnitTree → List EntryTree → CertifiedSource
source unit entries = record {
  unit = unit;
  core = u;
  given = no_proofs;
  proofs = record { defines = []; functions = entries };
}

-- the one of f with this precondition
abbrev entry_with : AssertionTree → EntryTree
entry_with pre =
    record { function = 0; spec = record { pre = pre; post = natural 0 }; entry = same; body = leaf }

abbrev n : TermTree
n = variable (record { kind = kinds.Plain 0; number = numbers.Unsigned })

-- n, and the cost of g
abbrev needs : AssertionTree
needs = total (assertions_of (num n ∷ cost 1 ∷ []))

-- ---- its bound

-- 32 for f itself, 7 for n, and 16 for g
the_bound : (unit : UnitTree) → bound_by (source unit (entry_with needs ∷ [])) (32 ∷ 16 ∷ []) (pos 7 ∷ pos 0 ∷ []) ≡ Finite 55
the_bound unit = refl

no_entry : (unit : UnitTree) → bound_by (source unit []) (32 ∷ 16 ∷ []) (pos 7 ∷ pos 0 ∷ []) ≡ Infinite
no_entry unit = refl

a_wide_bound : (unit : UnitTree) → bound_by (source unit (entry_with (natural (2 ^ 127)) ∷ [])) (32 ∷ 16 ∷ []) [] ≡ Wide
a_wide_bound unit = refl

the_bytes : (unit : UnitTree) → bytes_by (source unit (entry_with needs ∷ [])) image (pos 7 ∷ pos 0 ∷ []) ≡ Some 55
the_bytes unit = refl

-- where main needs no number of bytes
no_bytes : (unit : UnitTree) → bytes_by (source unit (entry_with infinity ∷ [])) image [] ≡ None
no_bytes unit = refl

-- no times a wide number: the bound is wide, and what f needs is its cost
abbrev nothing : AssertionTree
nothing = product (assertions_of (natural 0 ∷ natural (2 ^ 127) ∷ []))

small_bytes : (unit : UnitTree) → bytes_by (source unit (entry_with nothing ∷ [])) image [] ≡ Some 32
small_bytes unit = refl

yet_wide : (unit : UnitTree) → bound_by (source unit (entry_with nothing ∷ [])) (32 ∷ 16 ∷ []) [] ≡ Wide
yet_wide unit = refl
