-- The lanes of a mirror come, or go back.
use Rattle.std.proofs.Common.{◌≡◌, ◌<◌, ◌≤◌, ◌+◌, ◌++◌, ◌⊎◌, inl, inr, ℕ, zero, suc, List, [], ◌∷◌, All, Option, Some, None, IfSome, IfNone, length, map, refl, sym, ap, ◌∙◌, subst, arith}
use Rattle.std.specs.List.{AllByRecursion}
use Rattle.std.proofs.lemmas.List.Elements.{All-from_recursion, recursion_from_All}
use Rattle.ipam_edge.specs.Faults.{Rose}
use Rattle.http_lanes.specs.Listened.{IsListening, returned_as}
use Rattle.http_lanes.specs.declared.listening.Listening.{Listening}
use Rattle.http_lanes.specs.declared.listening.Listening.TheVariants.{Whole, Broken}
use Rattle.ipam_listen.specs.Connections.{Binding, Connection, Returned, RisesExactly}
use Rattle.machine_serving.specs.Views.{ListenerView}
use Rattle.command_mirror.specs.Lanes.{HasNoLanes, HaveCome}

split : (n m : ℕ) → (n ≤ m) ⊎ (m < n)
split zero m = inl (omega arith)
split (suc n) zero = inr (omega arith)
split (suc n) (suc m) = elim (split n m) [ inl le ↦ inl (omega arith) | inr lt ↦ inr (omega arith) ]

-- what is said of a value that is there, or not, by what else is
pub if_some : {T : Type 0} (P Q : T → Type 0) (r : Option T) → ((x : T) → P x → Q x) → IfSome r P → IfSome r Q
if_some P Q None f k = tt
if_some P Q (Some x) f k = f x k

pub if_none : {T : Type 0} (P Q : Type 0) (r : Option T) → (P → Q) → IfNone r P → IfNone r Q
if_none P Q None f k = f k
if_none P Q (Some x) f k = tt

-- a count that rises exactly where something failed stays where it did not
pub stays_put : (failed : Type 0) (old new : ℕ) → ¬ failed → RisesExactly failed old new → new ≡ old
stays_put failed old new never k = let later = k.later in elim (split new old) [ inl le ↦ omega arith | inr lt ↦ absurd (never (k.only lt)) ]

pub rose_on : (a b c : ℕ) → Rose a b → b ≤ c → Rose a c
rose_on a b c k le = elim k [ inl lt ↦ inl (omega arith) | inr most ↦ inr (omega arith) ]

mapped : {X Y : Type 0} (P : Y → Type 0) (f : X → Y) (xs : List X) → AllByRecursion (λ (x : X). P (f x)) xs → AllByRecursion P (map f xs)
mapped P f [] k = tt
mapped P f (x ∷ xs) k = (k.0, mapped P f xs k.1)

-- lanes that went back without a connection
pub none_used : {L : Type 0} (told : L → Option (List Connection)) (accepts : L → ℕ) (lanes : List L) → All (λ (lane : L). IfSome (told lane) (λ connections. connections ≡ [])) lanes
    → All (λ (r : Returned). IfSome r.told (λ connections. connections ≡ [])) (map (returned_as told accepts) lanes)
none_used {L} told accepts lanes k =
    All-from_recursion (λ (r : Returned). IfSome r.told (λ connections. connections ≡ [])) (map (returned_as told accepts) lanes)
    (mapped (λ (r : Returned). IfSome r.told (λ connections. connections ≡ [])) (returned_as told accepts) lanes
    (recursion_from_All (λ (lane : L). IfSome (told lane) (λ connections. connections ≡ [])) lanes k))

pub map_length : {X Y : Type 0} (f : X → Y) (xs : List X) → length (map f xs) ≡ length xs
map_length f [] = refl
map_length f (x ∷ xs) = ap suc (map_length f xs)

-- how the listening went, by how the lanes went back
pub heard_of : (heard : Listening) (old mid new : ℕ) → mid ≡ old → (heard ≡ Whole → new ≡ mid) → (heard ≡ Broken → Rose mid new) → IsListening (new ≡ old) (Rose old new) heard
heard_of Whole old mid new same whole broken = whole refl ∙ same
heard_of Broken old mid new same whole broken = subst (λ (n : ℕ). Rose n new) same (broken refl)

-- what is bound first
module _ (to : Binding) (old mid after : ListenerView) (bound : mid.bound ≡ to) (lanes : mid.lanes ≡ old.lanes) (returned : mid.returned ≡ old.returned) (faults : mid.faults ≡ old.faults) where
  pub have_come : {L : Type 0} (told : L → Option (List Connection)) (wanted : ℕ) (came : List L) → HaveCome told mid.bound wanted mid after came → HaveCome told to wanted old after came
  have_come told wanted came k = record {
    fresh = k.fresh;
    many = k.many;
    bound = k.bound ∙ bound;
    lanes = k.lanes ∙ ap (λ (n : ℕ). n + wanted) lanes;
    returned = k.returned ∙ returned;
    faults = k.faults ∙ faults;
  }

  pub no_lanes : (wanted : ℕ) → HasNoLanes mid.bound wanted mid after → HasNoLanes to wanted old after
  no_lanes wanted k = record {
    failed = subst (λ (n : ℕ). Rose n after.faults) faults k.failed;
    back = k.back;
    returned = k.returned ∙ ap (λ (l : List Returned). l ++ k.back) returned;
    unused = k.unused;
    lanes = k.lanes ∙ ap (λ (n : ℕ). n + length k.back) lanes;
    fewer = k.fewer;
    bound = λ came. k.bound (subst (λ (n : ℕ). n < after.lanes) (sym lanes) came) ∙ bound;
  }

-- it could not be bound
pub not_bound : (to : Binding) (wanted : ℕ) (old after : ListenerView) → Rose old.faults after.faults → after.lanes ≡ old.lanes → after.returned ≡ old.returned → HasNoLanes to wanted old after
not_bound to wanted old after failed lanes returned = record {
  failed = failed;
  back = [];
  returned = returned ∙ sym (right old.returned);
  unused = λ k d lt. absurd (omega arith);
  lanes = omega arith;
  fewer = λ some. some;
  bound = λ came. absurd (omega arith);
}
  where
    right : (l : List Returned) → l ++ [] ≡ l
    right [] = refl
    right (x ∷ xs) = ap (λ (l : List Returned). x ∷ l) (right xs)
