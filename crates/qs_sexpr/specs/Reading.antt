-- The lists and atoms of a text, and its faults. Lists nest at most 1,024 deep.
use Rattle.std.specs.Prelude.{◌≡◌, ℕ, suc, ◌+◌, ◌<◌, ◌≤◌, ℤ, List, [], ◌∷◌, take, drop}
use Rattle.qs_sexpr.specs.Pieces.{first_piece}
use Rattle.qs_sexpr.specs.Trees.{number, symbol, list, Sexps, no_parts, part_and}
use Rattle.qs_sexpr.specs.declared.pieces.Piece.TheVariants.{White, Open, Close, Number, Symbol, BadByte, BadNumber}
use Rattle.qs_sexpr.specs.declared.fault.SexprFault.{SexprFault}
use Rattle.qs_sexpr.specs.declared.fault.SexprFault.TheVariants as faults

-- how many lists may be open at once
abbrev pub depth_limit : ℕ
depth_limit = 1024

-- `text` begins at the byte `at`, in `depth` lists. It reads as these parts as far as the byte `end`, where `rest` begins.
pub data Reads : (depth at : ℕ) → (text : List ℕ) → (parts : Sexps) → (end : ℕ) → (rest : List ℕ) → Type 0 where
  nothing : {depth at : ℕ} {text : List ℕ} → Reads depth at text no_parts at text
  white_space : {depth at more byte end : ℕ} {bytes rest : List ℕ} {parts : Sexps} → first_piece byte bytes ≡ White more
      → Reads depth (at + 1 + more) (drop more bytes) parts end rest → Reads depth at (byte ∷ bytes) parts end rest
  a_number : {depth at more byte end : ℕ} {value : ℤ} {bytes rest : List ℕ} {parts : Sexps} → first_piece byte bytes ≡ Number more value
      → Reads depth (at + 1 + more) (drop more bytes) parts end rest → Reads depth at (byte ∷ bytes) (part_and (number at value) parts) end rest
  a_symbol : {depth at more byte end : ℕ} {bytes rest : List ℕ} {parts : Sexps} → first_piece byte bytes ≡ Symbol more
      → Reads depth (at + 1 + more) (drop more bytes) parts end rest → Reads depth at (byte ∷ bytes) (part_and (symbol at (byte ∷ take more bytes)) parts) end rest
  a_list : {depth at byte closed last end : ℕ} {bytes after rest : List ℕ} {inner parts : Sexps} → first_piece byte bytes ≡ Open → depth < depth_limit
      → Reads (suc depth) (at + 1) bytes inner closed (last ∷ after) → first_piece last after ≡ Close
      → Reads depth (closed + 1) after parts end rest → Reads depth at (byte ∷ bytes) (part_and (list at inner) parts) end rest

-- the whole text reads as these lists and atoms
pub record Reading (text : List ℕ) (parts : Sexps) : Type 0 where
  pub end : ℕ
  pub reads : Reads 0 0 text parts end []

-- All of the text before the byte `at`, where `rest` begins, has been read, and `depth` lists are open.
pub data Within (text : List ℕ) : (depth at : ℕ) → (rest : List ℕ) → Type 0 where
  outside : {at : ℕ} {rest : List ℕ} {parts : Sexps} → Reads 0 0 text parts at rest → Within text 0 at rest
  inside : {depth opened byte at : ℕ} {bytes rest : List ℕ} {parts : Sexps} → Within text depth opened (byte ∷ bytes) → first_piece byte bytes ≡ Open → depth < depth_limit
      → Reads (suc depth) (opened + 1) bytes parts at rest → Within text (suc depth) at rest

-- what stands at the byte `at`, in `depth` lists, where reading can't go on
pub data Stops : (depth at : ℕ) → (rest : List ℕ) → SexprFault → Type 0 where
  bad_byte : {depth at more byte : ℕ} {bytes : List ℕ} → first_piece byte bytes ≡ BadByte more → Stops depth at (byte ∷ bytes) (faults.BadByte (at + more))
  bad_number : {depth at byte : ℕ} {bytes : List ℕ} → first_piece byte bytes ≡ BadNumber → Stops depth at (byte ∷ bytes) (faults.BadNumber at)
  closes_nothing : {at byte : ℕ} {bytes : List ℕ} → first_piece byte bytes ≡ Close → Stops 0 at (byte ∷ bytes) (faults.Unbalanced at)
  ends_open : {depth at : ℕ} → Stops (suc depth) at [] (faults.Unbalanced at)
  too_deep : {depth at byte : ℕ} {bytes : List ℕ} → first_piece byte bytes ≡ Open → depth_limit ≤ depth → Stops depth at (byte ∷ bytes) (faults.TooDeep at)

-- the first fault of the text: what stands before it has been read
pub record Fault (text : List ℕ) (fault : SexprFault) : Type 0 where
  pub depth : ℕ
  pub at : ℕ
  pub rest : List ℕ
  pub within : Within text depth at rest
  pub stops : Stops depth at rest fault
