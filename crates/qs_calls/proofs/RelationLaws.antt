-- What calls do keeps each relation of runs that events keep.
use Rattle.std.proofs.Common.{◌≡◌, ℕ, ◌+◌, List, [], ◌∷◌, length, Option, Some, None, refl, ap}
use Rattle.qs_memory.specs.Values.{into, Value, integer, address}
use Rattle.qs_memory.specs.Memory.{store, make, release}
use Rattle.qs_events.specs.Events.{Returns}
use Rattle.qs_events.specs.Runs.{emit, followed_by, given, Within}
use Rattle.qs_calls.specs.World.{World, with_memory, RootRun, Return, leaves, Environment, no_values, with_value}
use Rattle.qs_calls.specs.Calls.{CallsOf, take_byte, get_char, put_char, invoke, Frame, Entered, pass, Body, activate}
use Rattle.qs_calls.specs.Relations.{Relation, Keeps, ReturnsRelated, CallsRelated, BodiesRelated}
use Rattle.qs_calls.specs.declared.callee.Callee.{Callee}
use Rattle.qs_calls.specs.declared.callee.Callee.TheVariants.{Function, PutChar, GetChar}
use Rattle.qs_calls.specs.declared.parameter.Parameter.{Parameter}
use Rattle.qs_calls.specs.declared.parameter.Parameter.TheVariants.{Plain, Placed}

module _ (R : Relation) (keeps : Keeps R) where
  pub given_related :
      {A : Type 0} → (o : Option A) (f g : A → RootRun) → ((a : A) → R (f a) (g a))
      → R (given o f) (given o g)
  given_related None f g h = keeps.undefined
  given_related (Some a) f g h = h a

  put_related :
      (arguments : List Value) (k j : Return) → ReturnsRelated R k j
      → (w : World) → R (put_char arguments k w) (put_char arguments j w)
  put_related [] k j h w = keeps.undefined
  put_related (integer n ∷ []) k j h w = keeps.emit _ _ _ (h _ w)
  put_related (integer n ∷ v ∷ others) k j h w = keeps.undefined
  put_related (address p ∷ others) k j h w = keeps.undefined

  take_related :
      (input : List ℕ) (k j : Return) → ReturnsRelated R k j → (w : World)
      → R (take_byte input k w) (take_byte input j w)
  take_related [] k j h w = keeps.emit _ _ _ (h _ _)
  take_related (b ∷ input) k j h w = keeps.emit _ _ _ (h _ _)

  get_related :
      (arguments : List Value) (k j : Return) → ReturnsRelated R k j
      → (w : World) → R (get_char arguments k w) (get_char arguments j w)
  get_related [] k j h w = take_related w.input k j h w
  get_related (v ∷ others) k j h w = keeps.undefined

  pub invoke_related :
      (f : Callee) (c d : CallsOf) → CallsRelated R c d → (arguments : List Value) (k j : Return)
      → ReturnsRelated R k j
      → (w : World) → R (invoke f c arguments k w) (invoke f d arguments j w)
  invoke_related (Function f) c d cd arguments k j h w = cd f.0 arguments k j h w
  invoke_related PutChar c d cd arguments k j h w = put_related arguments k j h w
  invoke_related GetChar c d cd arguments k j h w = get_related arguments k j h w

  pub pass_related :
      (parameters : List Parameter) (arguments : List Value) (first : ℕ) (e : Environment)
      (w : World) (f g : Entered)
      → ((e : Environment) (w : World) → R (f e w) (g e w))
      → R (pass parameters arguments first e w f) (pass parameters arguments first e w g)
  pass_related [] [] first e w f g h = h e w
  pass_related [] (v ∷ vs) first e w f g h = keeps.undefined
  pass_related (Plain x ∷ ps) [] first e w f g h = keeps.undefined
  pass_related (Placed i s ∷ ps) [] first e w f g h = keeps.undefined
  pass_related (Plain x ∷ ps) (v ∷ vs) first e w f g h =
      pass_related ps vs first (with_value e x v) w f g h
  pass_related (Placed i s ∷ ps) (v ∷ vs) first e w f g h =
      given_related (store s w.memory (into (first + i) 0) v) _ _
      (λ m. pass_related ps vs first e (with_memory w m) f g h)

  pub activate_related :
      (f : ℕ) (frame : Frame) (b c : Body) → BodiesRelated R b c
      → (arguments : List Value) (k j : Return) → ReturnsRelated R k j
      → (w : World) → R (activate f frame b arguments k w) (activate f frame c arguments j w)
  activate_related f frame b c bc arguments k j h w =
      keeps.emit _ _ _ (pass_related frame.parameters arguments (length w.memory) no_values
      (with_memory w (make frame.blocks w.memory)) _ _
      (λ e u. bc (length w.memory) _ _
      (λ result v. keeps.emit (Returns f) _ _
      (h result (with_memory v (release (length w.memory) v.memory)))) e u))

-- ---- instances

-- a run that goes on
pub within_keeps : Keeps Within
within_keeps = record { emit = λ event o p h. (p, refl, h); undefined = refl }

-- a run that is the other, and then what follows
abbrev pub Follows : Return → Relation
Follows k o p =
    followed_by o (λ left. k left.result (record { memory = left.memory; input = left.input })) ≡ p

pub follows_keeps : (k : Return) → Keeps (Follows k)
follows_keeps k = record { emit = λ event o p h. ap (emit event) h; undefined = refl }

pub leaves_follows : (k : Return) → ReturnsRelated (Follows k) leaves k
leaves_follows k result w = refl
