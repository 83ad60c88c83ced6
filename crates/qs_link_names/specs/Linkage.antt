-- The linkage of names of file scope (C11 6.2.2). A name with internal linkage means the same object or function in its file alone; in the
-- program it has a name of its own.
use Rattle.std.specs.Prelude.{ℕ, Bool, ◌&&◌, not, List, [], ◌∷◌, ◌++◌, codes, decimal, if◌then◌else◌}
use Rattle.qs_syntax_vocabulary.specs.Marks.{NameSet, is_in}

-- the number of a file, from 1; those of its names that have internal linkage; and the names that inner declarations hide at some place
pub record Internal : Type 0 where
  pub file : ℕ
  pub names : NameSet
  pub hidden : NameSet

-- at file scope
abbrev pub internal : (file : ℕ) → NameSet → Internal
internal file names = record { file = file; names = names; hidden = [] }

-- `x__2` of `x` in the second file
abbrev pub internal_name : (file : ℕ) → List ℕ → List ℕ
internal_name file x = x ++ (codes "__" ++ decimal file)

abbrev pub is_internal : Internal → List ℕ → Bool
is_internal own x = is_in own.names x && not (is_in own.hidden x)

-- what a name of the file is called in the program
abbrev pub linked_name : Internal → List ℕ → List ℕ
linked_name own x = if is_internal own x then internal_name own.file x else x

-- 6.2.1p4: an inner declaration hides the name
abbrev pub hiding : Internal → List ℕ → Internal
hiding own x = record own { hidden = own.hidden ++ x ∷ [] }
