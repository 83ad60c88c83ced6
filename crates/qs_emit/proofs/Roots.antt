-- Every function of an image as root: the law of its setup, said of its records.
use Rattle.std.proofs.Common.{◌≡◌, ℕ, ◌<◌, List, length, refl, sym, ◌∙◌, subst, arith}
use Rattle.qs_memory.specs.Values.{Value}
use Rattle.qs_memory.specs.Memory.{Memory}
use Rattle.qs_events.specs.Events.{Event}
use Rattle.qs_events.specs.Runs.{Left, Ending, has_ended, is_undefined, is_short, events_of, ending_of}
use Rattle.qs_events.specs.Weights.{Costs}
use Rattle.qs_calls.specs.World.{World}
use Rattle.qs_image.specs.Image.{Image}
use Rattle.qs_tac.specs.Trees.{TacUnitTree}
use Rattle.qs_tac.specs.Places.{PlacesTree}
use Rattle.qs_tac.specs.Units.{tac_run, world_after}
use Rattle.qs_emit.specs.Machine.{Watched}
use Rattle.qs_emit.specs.Surroundings.{Surroundings, Ground, Lay, HasBlocks}
use Rattle.qs_emit.specs.Relation.{IsEmittable, Setup, cost_at, entry, around}
use Rattle.qs_emit.specs.Entries.{IsEntry, HasSeen, ComesTo, Follows}
use Rattle.qs_emit.specs.Images.{IsFirstMemory, record_at, AreCosts, IsImageOf, IsWithinLimits}
use Rattle.qs_emit.specs.Emitted.{AreSurroundings, FunctionsFollow}
use Rattle.qs_emit.proofs.Costs.{SameStack, tac_run_weighs}
use Rattle.qs_emit.proofs.SetUp.{set_up}
use Rattle.qs_emit.proofs.RootLaws.{emitted_code_follows}

-- ---- the same surroundings but for the metric

module _ (t : Surroundings) (costs : Costs) where
  abbrev other : Surroundings
  other = record t { costs = costs }

  pub blocks_for : (g : Ground) (sp : ℕ) → HasBlocks t g sp → HasBlocks other g sp
  blocks_for g sp h = record { lies = h.lies; in_reach = h.in_reach; old = h.old; made = h.made }

  pub blocks_from : (g : Ground) (sp : ℕ) → HasBlocks other g sp → HasBlocks t g sp
  blocks_from g sp h = record { lies = h.lies; in_reach = h.in_reach; old = h.old; made = h.made }

  seen_from : (m to : Watched) (trace : List Event) → SameStack t.costs costs trace → HasSeen other m to trace → HasSeen t m to trace
  seen_from m to trace same h = let low = h.low in let w = same.weight in record { output = h.output; x2 = h.x2 ∙ sym (same.x2 (m.now.registers 2)); low = omega (arith, low, w) }

  pub comes_from : (n : ℕ) (m : Watched) (trace : List Event) (end : Ending (Left Value Memory)) (w : World) → SameStack t.costs costs trace → ComesTo other n m trace end w → ComesTo t n m trace end w
  comes_from n m trace (has_ended left) w same h = record {
    steps = h.steps;
    to = h.to;
    lay = h.lay;
    comes = h.comes;
    seen = seen_from m h.to trace same h.seen;
    pc = h.pc;
    x2 = h.x2;
    saved = h.saved;
    result = h.result;
    only_old = h.only_old;
    blocks = blocks_from _ _ h.blocks;
    input = h.input;
  }
  comes_from n m trace is_undefined w same h = record { steps = h.steps; to = h.to; comes = h.comes; output = h.output }
  comes_from n m trace is_short w same h = record {
    steps = h.steps;
    to = h.to;
    lay = h.lay;
    enough = h.enough;
    comes = h.comes;
    seen = seen_from m h.to trace same h.seen;
    blocks = blocks_from _ _ h.blocks;
    input = h.input;
  }

-- the metric of the records is that of the frames
pub same_costs : (u : TacUnitTree) (ps : List PlacesTree) (first : Memory) (image : Image) (costs : Costs) → IsImageOf u ps first image → AreCosts image costs → (f : ℕ) → f < length u.functions → costs f ≡ cost_at u ps f
same_costs u ps first image costs is are f lt = let count = is.count in are.each f (omega (arith, count, lt)) ∙ is.costs f lt

-- ---- every function

module _ (u : TacUnitTree) (ps : List PlacesTree) (first : Memory) (t : Surroundings) (emittable : IsEmittable u ps) (memory : IsFirstMemory u first) (is : IsImageOf u ps first t.image) (limits : IsWithinLimits t.image) (are : AreSurroundings u t.image t) where
  abbrev s : Setup
  s = set_up u ps first t emittable memory is limits are

  root_follows : (root : ℕ) (arguments : List Value) (w : World) (l : Lay) (m : Watched) (n : ℕ) → IsEntry u t (record_at t.image root).address root arguments w l m → Follows t n m (tac_run u root arguments w n) (world_after u root arguments w n)
  root_follows root arguments w l m n h room =
      let same = tac_run_weighs u t.costs (cost_at u ps) (same_costs u ps first t.image t.costs is are.costs) root arguments w n in
      comes_from t (cost_at u ps) n m (events_of (tac_run u root arguments w n)) (ending_of (tac_run u root arguments w n)) (world_after u root arguments w n) same
      (emitted_code_follows s root arguments w l m n entered (let e = same.weight in omega (arith, room, e)))
    where
      entered : IsEntry u (around s) (entry s root) root arguments w l m
      entered = record {
        known = h.known;
        pc = h.pc ∙ is.addresses root h.known;
        return_address = h.return_address;
        x2 = h.x2;
        aligned = h.aligned;
        low = h.low;
        count = h.count;
        arguments_in = h.arguments_in;
        arguments_below = h.arguments_below;
        blocks = blocks_for t (cost_at u ps) _ _ h.blocks;
        first = h.first;
        saved = h.saved;
        input = h.input;
        input_bytes = h.input_bytes;
        bytes = h.bytes;
      }

pub functions_follow : (u : TacUnitTree) (ps : List PlacesTree) (first : Memory) (image : Image) → IsEmittable u ps → IsFirstMemory u first → IsImageOf u ps first image → IsWithinLimits image → FunctionsFollow u image
functions_follow u ps first image emittable memory is limits t root arguments w l m n are h =
    let here = sym are.here in
    root_follows u ps first t emittable memory (subst (λ (i : Image). IsImageOf u ps first i) here is) (subst (λ (i : Image). IsWithinLimits i) here limits)
    (record { here = refl; costs = subst (λ (i : Image). AreCosts i t.costs) here are.costs; stack = are.stack; ceiling = are.ceiling; others = are.others; return_aligned = are.return_aligned; return_word = are.return_word; data_there = are.data_there; data_lie = are.data_lie })
    root arguments w l m n (subst (λ (i : Image). IsEntry u t (record_at i root).address root arguments w l m) here h)
