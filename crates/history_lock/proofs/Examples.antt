-- Small examples of the definitions, with a machine that adds: its state is the sum, and it answers the sum.
use Rattle.std.proofs.Common.{◌≡◌, ℕ, ◌+◌, Bool, List, [], ◌∷◌, refl, arith}
use Rattle.std.specs.Prelude.{nat_lt}
use Rattle.history_lock.specs.Replies.{accepted, fault, memory, grown}
use Rattle.history_lock.specs.Replay.{replay, own_entries}
use Rattle.history_lock.specs.Places.{IsLegalAt}
use Rattle.history_lock.specs.Views.{tickets_held, longer}
use Rattle.history_lock.specs.LockRule.{total}
use Rattle.history_lock.specs.declared.views.Stage.TheVariants.{Idle, Waits, Turns}

abbrev add : ℕ → ℕ → ℕ × ℕ
add sum n = (sum + n, sum + n)

-- a fault may be told in place of a sum above 10
abbrev above_ten : ℕ → Bool
above_ten sum = nat_lt 10 sum

-- the caller 0 added 5, then the caller 3 added 7, then the caller 0 added 1
abbrev three_calls : List (ℕ × ℕ)
three_calls = (0, 5) ∷ (3, 7) ∷ (0, 1) ∷ []

replay_of_three : replay add 0 three_calls ≡ 13
replay_of_three = refl

own_of_the_first : own_entries 0 three_calls ≡ (0, 5) ∷ (0, 1) ∷ []
own_of_the_first = refl

own_of_nobody : own_entries 2 three_calls ≡ []
own_of_nobody = refl

-- the second call was answered by 12, at place 1
second_is_legal : IsLegalAt add above_ten 0 three_calls 3 7 12 accepted 1
second_is_legal = record { within = omega arith; right = refl; entry = λ _. refl }

-- a call that was refused for lack of memory is legal at each place
memory_is_legal : IsLegalAt add above_ten 0 three_calls 9 1 0 memory 3
memory_is_legal = record { within = omega arith; right = tt; entry = λ is. absurd (cc (is)) }

-- a fault is legal at place 1, where the plain sum is 12, and not at place 0, where it is 7
fault_is_legal : IsLegalAt add above_ten 0 three_calls 9 7 0 fault 1
fault_is_legal = record { within = omega arith; right = refl; entry = λ is. absurd (cc (is)) }

fault_is_not_legal : ¬ IsLegalAt add above_ten 0 three_calls 9 7 0 fault 0
fault_is_not_legal l = absurd (cc (l.right))

accepted_is_added : grown {C = ℕ} accepted (3, 7) ((0, 5) ∷ []) ≡ (0, 5) ∷ (3, 7) ∷ []
accepted_is_added = refl

fault_is_not_added : grown {C = ℕ} fault (3, 7) ((0, 5) ∷ []) ≡ (0, 5) ∷ []
fault_is_not_added = refl

tickets_of_three_seats : total tickets_held (Idle ∷ Waits 8 ∷ Turns 7 ∷ []) ≡ 2
tickets_of_three_seats = refl

longer_of_two : longer three_calls ((0, 5) ∷ []) ≡ three_calls
longer_of_two = refl
