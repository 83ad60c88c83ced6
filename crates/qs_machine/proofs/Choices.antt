-- Which case of an instruction holds.
use Rattle.std.proofs.Common.{Some, None, ◌≡◌, ℕ, ◌*◌, ◌%◌, Bool, true, false, List, [], ◌∷◌, length, eq-eqb, refl, ap, ◌∙◌, arith}
use Rattle.std.specs.Prelude.{nat_eq, if◌then◌else◌}
use Rattle.qs_isa.specs.declared.instruction.LoadKind.{LoadKind}
use Rattle.qs_isa.specs.declared.instruction.StoreKind.{StoreKind}
use Rattle.qs_image.specs.Image.{Image, words_bytes}
use Rattle.qs_machine.specs.State.{State, can_read, can_write}
use Rattle.qs_machine.specs.declared.answers.Cause.TheVariants.{LoadOutside, StoreOutside}
use Rattle.qs_machine.specs.Step.{Next, Traps, next_pc, write, write_and_go, jump, branch, go_to, load, load_width, loaded, store, store_width, stored}
use Rattle.qs_machine.specs.declared.machine.Machine.{Machine}
use Rattle.qs_machine.specs.Hart.{can_read_in, can_write_in}
use Rattle.qs_machine.specs.Standing.{IsLoaded}

-- ---- what an answer says of the test behind it

pub record Found (test : Bool) (x y : ℕ) : Type 0 where
  pub holds : test ≡ true
  pub is : y ≡ x

pub found : (test : Bool) (x y : ℕ) → Some y ≡ (if test then Some x else None) → Found test x y
found true x y e = record { holds = refl; is = cc }
found false x y e = absurd cc

pub not_found : (test : Bool) (x : ℕ) → None ≡ (if test then Some x else None) → test ≡ false
not_found true x e = cc
not_found false x e = refl

-- ---- jumps and branches

pub jump-aligned : (size : ℕ) (s : State) (rd target next : ℕ) → target % 4 ≡ 0 → next ≡ next_pc s → jump size s rd target ≡ write_and_go size s rd next target
jump-aligned size s rd target next aligned is = let e : nat_eq (target % 4) 0 ≡ true = eq-eqb (target % 4) 0 aligned in rw (e, is) refl

pub branch-not_taken : (s : State) (taken : Bool) (target next : ℕ) → taken ≡ false → next ≡ next_pc s → branch s taken target ≡ go_to s next
branch-not_taken s taken target next stays is = rw (stays, is) refl

pub branch-taken : (s : State) (taken : Bool) (target : ℕ) → taken ≡ true → target % 4 ≡ 0 → branch s taken target ≡ go_to s target
branch-taken s taken target goes aligned = let e : nat_eq (target % 4) 0 ≡ true = eq-eqb (target % 4) 0 aligned in rw (goes, e) refl

-- ---- loads and stores

pub load-read : (image : Image) (size : ℕ) (s : State) (kind : LoadKind) (rd address : ℕ) → address % load_width kind ≡ 0 → can_read image size address (load_width kind) ≡ true → load image size s kind rd address ≡ write size s rd (loaded kind s.memory address)
load-read image size s kind rd address aligned inside = let e : nat_eq (address % load_width kind) 0 ≡ true = eq-eqb _ 0 aligned in rw (e, inside) refl

pub load-outside : (image : Image) (size : ℕ) (s : State) (kind : LoadKind) (rd address : ℕ) → address % load_width kind ≡ 0 → can_read image size address (load_width kind) ≡ false → load image size s kind rd address ≡ Traps LoadOutside
load-outside image size s kind rd address aligned outside = let e : nat_eq (address % load_width kind) 0 ≡ true = eq-eqb _ 0 aligned in rw (e, outside) refl

pub store-written : (image : Image) (size : ℕ) (s : State) (kind : StoreKind) (address value : ℕ) → address % store_width kind ≡ 0 → can_write image size address (store_width kind) ≡ true → store image size s kind address value ≡ Next (record s { pc = next_pc s; memory = stored kind s.memory address value })
store-written image size s kind address value aligned inside = let e : nat_eq (address % store_width kind) 0 ≡ true = eq-eqb _ 0 aligned in rw (e, inside) refl

pub store-outside : (image : Image) (size : ℕ) (s : State) (kind : StoreKind) (address value : ℕ) → address % store_width kind ≡ 0 → can_write image size address (store_width kind) ≡ false → store image size s kind address value ≡ Traps StoreOutside
store-outside image size s kind address value aligned outside = let e : nat_eq (address % store_width kind) 0 ≡ true = eq-eqb _ 0 aligned in rw (e, outside) refl

-- ---- where accesses lie

pub length-words_bytes : (words : List ℕ) → length (words_bytes words) ≡ 4 * length words
length-words_bytes [] = refl
length-words_bytes (word ∷ words) = let rest = length-words_bytes words in omega arith

pub can_write-loaded : (m : Machine) (image : Image) (size address width : ℕ) → IsLoaded m image size → can_write_in m.memory address width ≡ can_write image size address width
can_write-loaded m image size address width l = rw (m.memory.data_begins, l.bytes, l.stack, m.memory.stack_ends) refl

pub can_read-loaded : (m : Machine) (image : Image) (size address width : ℕ) → IsLoaded m image size → can_read_in m.memory address width ≡ can_read image size address width
can_read-loaded m image size address width l =
    let code : length m.memory.code.items ≡ 4 * length image.code = ap (λ (bytes : List ℕ). length bytes) l.code ∙ length-words_bytes image.code in
    rw (code, m.memory.data_begins, l.bytes, l.stack, m.memory.stack_ends) refl
