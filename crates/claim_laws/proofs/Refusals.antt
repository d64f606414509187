-- When a claim is refused for want of space: the checks before that one refuse nothing, and it got fewer than it wanted.
use Rattle.std.proofs.Common.{◌++◌, ◌+◌, ◌<◌, ◌∙◌, ◌∷◌, ◌≡◌, ◌≤◌, Bool, List, None, Option, Some, [], ap, arith, false, if◌then◌else◌, length, map, nat_le, nat_lt, refl, subst, sym, true, ℕ}
use Rattle.std.proofs.lemmas.Bool.Decides.{nat_tests}
use Rattle.std.specs.List.{AllByRecursion}
use Rattle.ipam_data.specs.Checks.{first, breaks, most_spent, too_many}
use Rattle.ipam_data.specs.Claims.{claim, most_items, no_space, served}
use Rattle.ipam_data.specs.Plans.{KindRules, no_place, with_found, with_row_at}
use Rattle.ipam_data.specs.RowList.{last_next, row_at}
use Rattle.ipam_data.specs.State.{Plan, State, verdict_of}
use Rattle.ipam_data.specs.Updates.{answered, outcome, updated}
use Rattle.ipam_data.specs.declared.calls.Answered.{Answered}
use Rattle.ipam_data.specs.declared.calls.Answered.TheVariants.{AsList, AsOne}
use Rattle.ipam_data.specs.declared.calls.TheConstants.{MOST_ITEMS}
use Rattle.ipam_data.specs.declared.replies.Refusal.{Refusal}
use Rattle.ipam_data.specs.declared.replies.Refusal.TheVariants.{Limit, NoSpace}
use Rattle.ipam_data.specs.declared.replies.Reply.{Reply}
use Rattle.ipam_data.specs.declared.replies.Reply.TheVariants.{Refused}
use Rattle.ipam_data.specs.declared.replies.Rule.{Rule}
use Rattle.ipam_data.specs.declared.replies.View.{View}
use Rattle.ipam_data.specs.declared.replies.Which.{Which}
use Rattle.ipam_data.specs.declared.replies.Which.TheVariants.{Claims, Ids, Kind as OfKind, Log}
use Rattle.ipam_data.proofs.Verdicts.{none_head, none_rest}

-- ---- the verdict of a claim

-- a check that is no want of space
abbrev pub IsOther : Option Refusal → Type 0
IsOther check = (served : ℕ) → check ≡ Some (NoSpace served) → ⊥

-- behind such checks the verdict is that of the others
behind : (checks rest : List (Option Refusal)) (served : ℕ) → AllByRecursion IsOther checks → first (checks ++ rest) ≡ Some (NoSpace served) → first rest ≡ Some (NoSpace served)
behind [] rest served o e = e
behind (None ∷ checks) rest served o e = behind checks rest served o.1 e
behind (Some refusal ∷ checks) rest served o e = absurd (o.0 served e)

none_of : (checks : List (Option Refusal)) (served : ℕ) → AllByRecursion IsOther checks → first checks ≡ Some (NoSpace served) → ⊥
none_of [] served o e = cc
none_of (None ∷ checks) served o e = none_of checks served o.1 e
none_of (Some refusal ∷ checks) served o e = o.0 served e

pub breaks_other : (r : Option Rule) → IsOther (breaks r)
breaks_other None served e = cc
breaks_other (Some rule) served e = cc

many_other : (which : Which) (most count : ℕ) → IsOther (too_many which most count)
many_other which most count served e = go (nat_le count most) e
  where
    go : (t : Bool) → (if t then None else Some (Limit which most)) ≡ Some (NoSpace served) → ⊥
    go true e = cc
    go false e = cc

ids_other : (next more : ℕ) → IsOther (if nat_le (next + more) last_next then None else Some (Limit Ids 4294967294))
ids_other next more served e = go (nat_le (next + more) last_next) e
  where
    go : (t : Bool) → (if t then None else Some (Limit Ids 4294967294)) ≡ Some (NoSpace served) → ⊥
    go true e = cc
    go false e = cc

space_is : (wanted got served : ℕ) → no_space wanted got ≡ Some (NoSpace served) → (served ≡ got) × (got < wanted)
space_is wanted got served e = go (nat_lt got wanted) refl e
  where
    go : (t : Bool) → nat_lt got wanted ≡ t → (if t then Some (NoSpace got) else None) ≡ Some (NoSpace served) → (served ≡ got) × (got < wanted)
    go true t e = (let s : got ≡ served = cc in (sym s, grind (arith, nat_tests, t)))
    go false t e = cc

module _ {T : Type 0} (rules : KindRules T) where
  -- a claim whose verdict is want of space
  wants : (s : State) (told : List (Option Refusal)) (wanted : ℕ) (form : Answered) (rows : List T) (served : ℕ) → AllByRecursion IsOther told → verdict_of (claim rules s told wanted form rows) ≡ Some (NoSpace served)
      → (served ≡ length rows) × (length rows < wanted)
  wants s told wanted form rows served o v =
      let space : Option Refusal = no_space wanted (length rows) in
      let back = behind (too_many Claims most_items wanted ∷ told) (space ∷ no_place rules s wanted) served (many_other Claims most_items wanted, o) v in
      go space refl back
    where
      go : (r : Option Refusal) → no_space wanted (length rows) ≡ r → first (r ∷ no_place rules s wanted) ≡ Some (NoSpace served) → (served ≡ length rows) × (length rows < wanted)
      go None e k = absurd (none_of (no_place rules s wanted) served
          (many_other (OfKind rules.kind) rules.most (length (rules.row_list s).rows + wanted), (ids_other (rules.row_list s).next wanted, (many_other Log most_spent (s.spent + wanted), tt))) k)
      go (Some refusal) e k = space_is wanted (length rows) served (e ∙ k)

-- a reply that is a refusal is the verdict
refused_verdict : (s : State) (plan : Plan) (refusal : Refusal) → ((r : Refusal) (t : State) → answered t plan.reply ≡ Refused r → ⊥) → (outcome s plan).1 ≡ Refused refusal → verdict_of plan ≡ Some refusal
refused_verdict s plan refusal never q = go (verdict_of plan) refl
  where
    go : (v : Option Refusal) → verdict_of plan ≡ v → v ≡ Some refusal
    go (Some other) e = (let k : Refused other ≡ Refused refusal = rw (e, outcome) at q in cc)
    go None e = (let k : answered (updated s plan.update) plan.reply ≡ Refused refusal = rw (e, outcome) at q in absurd (never refusal (updated s plan.update) k))

served_never : (form : Answered) (views : List View) (r : Refusal) (t : State) → answered t (served form views) ≡ Refused r → ⊥
served_never AsOne (view ∷ views) r t e = cc
served_never AsOne [] r t e = cc
served_never AsList views r t e = cc

pub found_refused : {T : Type 0} (rules : KindRules T) (s : State) (n : ℕ) (plan : T → Plan) (found : Option T) (served : ℕ) → (outcome s (with_found rules n plan found)).1 ≡ Refused (NoSpace served)
    → (x : T) × (found ≡ Some x) × ((outcome s (plan x)).1 ≡ Refused (NoSpace served))
found_refused rules s n plan None served q = cc
found_refused rules s n plan (Some x) served q = (x, refl, q)

-- ---- from the checks to the answer

few_passes : (count : ℕ) → count ≤ MOST_ITEMS → too_many Claims most_items count ≡ None
few_passes count h = (let t : nat_le count most_items ≡ true = grind (arith, nat_tests) in rw t refl)

pub few_passed : (count : ℕ) → too_many Claims most_items count ≡ None → count ≤ MOST_ITEMS
few_passed count e = go (nat_le count most_items) refl e
  where
    go : (t : Bool) → nat_le count most_items ≡ t → (if t then None else Some (Limit Claims most_items)) ≡ None → count ≤ most_items
    go true t e = grind (arith, nat_tests, t)
    go false t e = cc

past : (xs ys : List (Option Refusal)) → first xs ≡ None → first (xs ++ ys) ≡ first ys
past [] ys e = refl
past (None ∷ xs) ys e = past xs ys e
past (Some x ∷ xs) ys e = cc

lacks : (wanted got : ℕ) → got < wanted → no_space wanted got ≡ Some (NoSpace got)
lacks wanted got l = (let t : nat_lt got wanted ≡ true = grind (arith, nat_tests) in rw t refl)

-- where the verdict is want of space nothing was told of the items
front_none : (told rest : List (Option Refusal)) (served : ℕ) → AllByRecursion IsOther told → first (told ++ rest) ≡ Some (NoSpace served) → first told ≡ None
front_none [] rest served o e = refl
front_none (None ∷ told) rest served o e = front_none told rest served o.1 e
front_none (Some refusal ∷ told) rest served o e = absurd (o.0 served e)

-- what the refusal of a claim says, and what it takes
module _ {T : Type 0} (rules : KindRules T) (s : State) (told : List (Option Refusal)) (wanted : ℕ) (form : Answered) (rows : List T) where
  pub record IsWant (k : ℕ) : Type 0 where
    pub few : wanted ≤ MOST_ITEMS
    pub told_none : first told ≡ None
    pub is : k ≡ length rows
    pub less : length rows < wanted

  pub wants_from : (k : ℕ) → AllByRecursion IsOther told → (outcome s (claim rules s told wanted form rows)).1 ≡ Refused (NoSpace k) → IsWant k
  wants_from k o q =
      let v = refused_verdict s (claim rules s told wanted form rows) (NoSpace k) (served_never form (map rules.view rows)) q in
      let w = wants rules s told wanted form rows k o v in
      let few : Option Refusal = too_many Claims most_items wanted in
      let space : Option Refusal = no_space wanted (length rows) in
      let place : List (Option Refusal) = no_place rules s wanted in
      let all : first ((few ∷ told) ++ space ∷ place) ≡ Some (NoSpace k) = v in
      let front = front_none (few ∷ told) (space ∷ place) k (many_other Claims most_items wanted, o) all in
      record { few = few_passed wanted (none_head few told front); told_none = none_rest few told front; is = w.0; less = w.1 }

  pub wanting : wanted ≤ MOST_ITEMS → first told ≡ None → length rows < wanted → (outcome s (claim rules s told wanted form rows)).1 ≡ Refused (NoSpace (length rows))
  wanting few none l =
      let space : Option Refusal = no_space wanted (length rows) in
      let place : List (Option Refusal) = no_place rules s wanted in
      let front : first (too_many Claims most_items wanted ∷ told) ≡ None = rw (few_passes wanted few) none in
      let v : verdict_of (claim rules s told wanted form rows) ≡ Some (NoSpace (length rows)) =
      past (too_many Claims most_items wanted ∷ told) (space ∷ place) front ∙ ap (λ (r : Option Refusal). first (r ∷ place)) (lacks wanted (length rows) l) in
      rw (v, outcome) refl

-- the row that a plan is for
module _ {T : Type 0} (rules : KindRules T) (s : State) (n : ℕ) (plan : T → Plan) where
  pub at_found : (x : T) (reply : Reply) → row_at rules.id (rules.row_list s).rows n ≡ Some x → (outcome s (plan x)).1 ≡ reply → (outcome s (with_row_at rules s n plan)).1 ≡ reply
  at_found x reply e q = subst (λ (f : Option T). (outcome s (with_found rules n plan f)).1 ≡ reply) (sym e) q
