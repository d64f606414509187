-- The replay of a longer list.
use Rattle.std.proofs.Common.{◌≡◌, ℕ, List, [], ◌∷◌, ◌++◌, refl}
use Rattle.history_lock.specs.Replay.{replay}

pub replay_push : {S C A : Type 0} (step : S → C → S × A) (s : S) (xs : List (ℕ × C)) (e : ℕ × C) → replay step s (xs ++ e ∷ []) ≡ (step (replay step s xs) e.1).0
replay_push step s [] e = refl
replay_push step s (x ∷ xs) e = replay_push step (step s x.1).0 xs e
