-- How a file is read, with its limit.
use Rattle.std.proofs.Common.{◌≡◌, ◌∙◌, ℕ, ◌+◌, ◌<◌, List, length, take, sym, ap, arith, IsTrue}
use Rattle.std.proofs.lemmas.Grind.{common_steps}
use Rattle.qs_ports.specs.StoreView.{StoreView, Files, Keeps}
use Rattle.qs_driver_steps.specs.Files.{Seen, HoldsContent, IsTooLong}
use Rattle.qs_driver_session.specs.Files.{HoldsWith, WasReadAs, WasReadWith, WasTooLong}

long_content : (limit : ℕ) (content bytes : List ℕ) → bytes ≡ take (limit + 1) content → limit < length bytes → limit < length content
long_content limit content bytes e h = grind (arith, common_steps)

-- what a store tells before a file is read it tells after that
pub told_after : {v w : StoreView} → Keeps v w → IsTrue v.told → IsTrue w.told
told_after k t = (k.tells t (omega arith)).0

-- what a step that read the file has seen
pub was_read_as : (v : StoreView) (name : List ℕ) (limit : ℕ) (content : List ℕ) → Seen v (λ files. HoldsContent (files name) limit content) → WasReadAs v name limit content
was_read_as v name limit content h = record { within = h.so.within; there = λ told. ap (λ (files : Files). files name) (sym (h.are told)) ∙ h.so.there }

-- ---- what was read is the file's, where the store tells its files

pub held_content : {v : StoreView} {name content : List ℕ} {limit : ℕ} → WasReadAs v name limit content → IsTrue v.told → HoldsContent (v.files name) limit content
held_content r told = record { there = r.there told; within = r.within }

pub held_with : {v : StoreView} {name : List ℕ} {limit : ℕ} {Property : List ℕ → Type 0} → WasReadWith v name limit Property → IsTrue v.told → HoldsWith (v.files name) limit Property
held_with r told = record { content = r.content; holds = held_content r.read_as told; has = r.has }

pub held_long : {v w : StoreView} {name : List ℕ} {limit : ℕ} → WasTooLong v w name limit → IsTrue v.told → IsTooLong (v.files name) limit
held_long {limit = limit} l told =
    let c = l.is_content told in
    record { content = c.content; there = c.there; more = long_content limit c.content l.read c.read l.more }
