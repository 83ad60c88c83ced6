-- A greater bound keeps what has ended, and a call is the run of the function alone and then what follows.
use Rattle.std.proofs.Common.{ℕ, zero, suc, ◌≤◌, List, refl, arith, slice_get}
use Rattle.qs_events.specs.Runs.{Within}
use Rattle.qs_calls.specs.World.{Return, leaves}
use Rattle.qs_calls.specs.Relations.{CallsRelated}
use Rattle.qs_calls.proofs.RelationLaws.{given_related, activate_related, within_keeps, Follows, follows_keeps, leaves_follows}
use Rattle.qs_meaning.specs.Typed.{Function}
use Rattle.qs_meaning.specs.Runs.{frame_of, calls_within, start_world, main_from}
use Rattle.qs_meaning.specs.Laws.{RunsGrow, MainGrows, CallsFollow}
use Rattle.qs_meaning.proofs.RelationLaws.{TurnsRelated, body_related}

-- ---- growth

turns_grow : (m n : ℕ) → m ≤ n → TurnsRelated Within m n
turns_grow zero n le t u h v w = tt
turns_grow (suc m) zero le t u h v w = absurd (omega arith)
turns_grow (suc m) (suc n) le t u h v w = h _ _ (turns_grow m n (omega arith) t u h) v w

calls_grow : (functions : List Function) (m n : ℕ) → m ≤ n → (i j : ℕ) → i ≤ j → CallsRelated Within (calls_within functions m i) (calls_within functions n j)
calls_grow functions m n le zero j ij f xs k l h w = tt
calls_grow functions m n le (suc i) zero ij f xs k l h w = absurd (omega arith)
calls_grow functions m n le (suc i) (suc j) ij f xs k l h w =
    given_related Within within_keeps (slice_get functions f) _ _ (λ g.
    activate_related Within within_keeps f (frame_of g) _ _
    (body_related Within within_keeps m n (turns_grow m n le) _ _ (calls_grow functions m n le i j (omega arith)) g) xs k l h w)

pub runs_grow : RunsGrow
runs_grow unit root xs w m n le = calls_grow unit.functions m n le m n le root xs leaves leaves (λ result w. refl) w

pub main_grows : MainGrows
main_grows unit xs input m n le =
    given_related Within within_keeps (main_from 0 unit.functions) _ _ (λ root. runs_grow unit root xs (start_world unit input) m n le)

-- ---- a call alone

turns_follow : (k : Return) (n : ℕ) → TurnsRelated (Follows k) n n
turns_follow k zero t u h v w = refl
turns_follow k (suc n) t u h v w = h _ _ (turns_follow k n t u h) v w

calls_follow_by : (next : Return) (functions : List Function) (n depth : ℕ) → CallsRelated (Follows next) (calls_within functions n depth) (calls_within functions n depth)
calls_follow_by next functions n zero f xs k l h w = refl
calls_follow_by next functions n (suc depth) f xs k l h w =
    given_related (Follows next) (follows_keeps next) (slice_get functions f) _ _ (λ g.
    activate_related (Follows next) (follows_keeps next) f (frame_of g) _ _
    (body_related (Follows next) (follows_keeps next) n n (turns_follow next n) _ _ (calls_follow_by next functions n depth) g) xs k l h w)

pub calls_follow : CallsFollow
calls_follow functions n depth f xs k w = calls_follow_by k functions n depth f xs leaves k (leaves_follows k) w
