-- What a run may start from stays so in each memory that comes after.
use Rattle.std.proofs.Common.{◌<◌, List, [], ◌∷◌, length, Option, Some, None, ◌∙◌, arith}
use Rattle.std.proofs.lemmas.Option.{slice_get_within}
use Rattle.qs_memory.specs.Values.{Value}
use Rattle.qs_memory.specs.Memory.{Memory}
use Rattle.qs_memory.specs.Soundness.{IsSound, ComesAfter}
use Rattle.qs_memory.specs.declared.scalar.Scalar.{Scalar}
use Rattle.qs_memory.proofs.SoundLaws.{value_kept}
use Rattle.qs_calls.specs.World.{World, with_memory}
use Rattle.qs_calls.specs.Starts.{DataExtent, Interface, IsOf, AreOf, ResultIsOf, BeginsWith, IsReady}

pub is_of_later :
    (m later : Memory) (s : Scalar) (v : Value) → ComesAfter m later → IsOf m s v → IsOf later s v
is_of_later m later s v after h =
    record { typed = h.typed; sound = value_kept m later v after h.sound }

pub are_of_later :
    (m later : Memory) (types : List Scalar) (vs : List Value) → ComesAfter m later
    → AreOf m types vs → AreOf later types vs
are_of_later m later [] [] after h = tt
are_of_later m later [] (v ∷ vs) after h = h
are_of_later m later (s ∷ types) [] after h = h
are_of_later m later (s ∷ types) (v ∷ vs) after h =
    (is_of_later m later s v after h.0, are_of_later m later types vs after h.1)

pub result_is_of_later :
    (m later : Memory) (result_type : Option Scalar) (result : Option Value) → ComesAfter m later
    → ResultIsOf m result_type result → ResultIsOf later result_type result
result_is_of_later m later result_type None after h = tt
result_is_of_later m later None (Some v) after h = h
result_is_of_later m later (Some s) (Some v) after h = is_of_later m later s v after h

pub begins_later :
    (data_blocks : List DataExtent) (m later : Memory) → ComesAfter m later
    → BeginsWith data_blocks m → BeginsWith data_blocks later
begins_later data_blocks m later after h = record {
  count = let count = h.count in let longer = after.longer in omega arith;
  each = λ block d is.
      let within = slice_get_within data_blocks block d is in
      let count = h.count in
      let made : block < length m = omega arith in
      let here = h.each block d is in
      record {
        size = after.size block made ∙ here.size;
        writable = after.writable block made ∙ here.writable;
      };
}

pub ready_later :
    (unit : Interface) (w : World) (later : Memory) → IsReady unit w → ComesAfter w.memory later
    → IsSound later → IsReady unit (with_memory w later)
ready_later unit w later h after sound = record {
  sound = sound;
  data_blocks = begins_later unit.data_blocks w.memory later after h.data_blocks;
  input = h.input;
}
