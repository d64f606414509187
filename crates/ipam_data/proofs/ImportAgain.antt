-- An import that was accepted makes nothing when it is made again: what it left has each row's fields as often as its rows do.
use Rattle.std.proofs.Common.{◌≡◌, ℕ, ◌+◌, ◌-◌, ◌≤◌, Bool, true, false, cond, nat_le, List, [], ◌∷◌, ◌++◌, length, map, Option, Some, None, option_map, refl, ap, sym, ◌∙◌, ap₂, subst, arith, count_by}
use Rattle.std.specs.List.{AllByRecursion}
use Rattle.std.proofs.lemmas.Bool.Decides.{nat_tests}
use Rattle.std.proofs.lemmas.List.Sums.{sum_by-cons}
use Rattle.ipam_data.specs.declared.kinds.Kind.{Kind}
use Rattle.ipam_data.specs.declared.kinds.Kind.TheVariants.{Vrfs, Rirs, Roles, Aggregates, Prefixes, Ranges, Addresses}
use Rattle.ipam_data.specs.declared.calls.Draft.{Draft}
use Rattle.ipam_data.specs.declared.calls.Draft.TheVariants.{Vrf as VrfDraft, Rir as RirDraft, Role as RoleDraft, Aggregate as AggregateDraft, Prefix as PrefixDraft, IpRange as RangeDraft, IpAddress as AddressDraft}
use Rattle.ipam_data.specs.declared.imports.ImportRow.{ImportRow}
use Rattle.ipam_data.specs.declared.imports.ImportRow.TheVariants.{Vrf as VrfRow, Rir as RirRow, Role as RoleRow, Aggregate as AggregateRow, Prefix as PrefixRow, IpRange as RangeRow, IpAddress as AddressRow}
use Rattle.ipam_data.specs.declared.replies.Rule.{Rule}
use Rattle.ipam_data.specs.declared.replies.Refusal.{Refusal}
use Rattle.ipam_data.specs.declared.replies.Reply.{Reply}
use Rattle.ipam_data.specs.declared.replies.Reply.TheVariants.{Imported}
use Rattle.ipam_data.specs.declared.replies.Which.TheVariants.{Rows}
use Rattle.ipam_data.specs.declared.replies.View.{View}
use Rattle.ipam_data.specs.Rows.{vrf_id, rir_id, role_id, aggregate_id, prefix_id, range_id, address_id}
use Rattle.ipam_data.specs.RowList.{with_row, AllBelow}
use Rattle.ipam_data.specs.Checks.{first, breaks, too_many, no_log, most_spent}
use Rattle.ipam_data.specs.State.{State, Plan, verdict_of}
use Rattle.ipam_data.specs.Plans.{KindRules}
use Rattle.ipam_data.specs.Vrfs.{vrf_rules}
use Rattle.ipam_data.specs.Rirs.{rir_rules}
use Rattle.ipam_data.specs.Roles.{role_rules}
use Rattle.ipam_data.specs.Aggregates.{aggregate_rules}
use Rattle.ipam_data.specs.Prefixes.{prefix_rules}
use Rattle.ipam_data.specs.Ranges.{range_rules}
use Rattle.ipam_data.specs.Addresses.{address_rules}
use Rattle.ipam_data.specs.Updates.{with_spent, updated, answered, outcome}
use Rattle.ipam_data.specs.Fields.{recorded, stored_draft, same_draft}
use Rattle.ipam_data.specs.Replays.{is_accepted}
use Rattle.ipam_data.specs.Lawful.{IsLawful, ImportAgainMakesNothing}
use Rattle.ipam_data.specs.Imports.{times, records_of, kind_of_row, kind_rule, name_rules, value_rules, draft_of, Progress, begun, makes_one, record_of, with_record, with_draft, after_row, after_rows, at_row, create_checks, row_checks, row_verdict, row_verdicts, items_of, import_plan, most_rows}
use Rattle.ipam_data.proofs.RowLists.{with_row_above}
use Rattle.ipam_data.proofs.Placed.{below_more, below_with}
use Rattle.ipam_data.proofs.Verdicts.{none_head, none_rest, none_left, none_right}
use Rattle.ipam_data.proofs.ImportLaws.{AreOfKind, of_kind, none_mapped, import_leads, spent_all}
use Rattle.ipam_data.proofs.SameDrafts.{same_decides}

-- ---- how often fields are there

count-cons : (p : Draft → Bool) (x : Draft) (xs : List Draft) → count_by p (x ∷ xs) ≡ count_by p (x ∷ []) + count_by p xs
count-cons p x xs =
    let a : count_by p (x ∷ xs) ≡ cond (p x) 1 0 + count_by p xs = sum_by-cons (λ y. cond (p y) 1 0) x xs in
    let b : count_by p (x ∷ []) ≡ cond (p x) 1 0 + 0 = sum_by-cons (λ y. cond (p y) 1 0) x [] in omega arith

times-cons : (e d : Draft) (xs : List Draft) → times e (d ∷ xs) ≡ times e (d ∷ []) + times e xs
unfolding times
times-cons e d xs = count-cons (same_draft e) d xs

times-none : (e : Draft) → times e [] ≡ 0
unfolding times
times-none e = refl

times-push : (e d : Draft) (xs : List Draft) → times e (xs ++ d ∷ []) ≡ times e xs + times e (d ∷ [])
times-push e d [] = let z = times-none e in omega arith
times-push e d (x ∷ xs) = let ih = times-push e d xs in let a = times-cons e x (xs ++ d ∷ []) in let b = times-cons e x xs in omega arith

-- the same fields are there as often
times_same : (e d : Draft) (xs : List Draft) → same_draft e d ≡ true → times e xs ≡ times d xs
times_same e d xs s = ap (λ (t : Draft). times t xs) ((same_decides e d).0 s)

times_other : (e d : Draft) → same_draft e d ≡ false → times e (d ∷ []) ≡ 0
unfolding times
times_other e d s = rw s refl

-- ---- one more record

-- the ids of the records of a kind are below the next one
pub IsFresh : State → Kind → Type 0
IsFresh s Vrfs = AllBelow vrf_id s.vrfs.next s.vrfs.rows
IsFresh s Rirs = AllBelow rir_id s.rirs.next s.rirs.rows
IsFresh s Roles = AllBelow role_id s.roles.next s.roles.rows
IsFresh s Aggregates = AllBelow aggregate_id s.aggregates.next s.aggregates.rows
IsFresh s Prefixes = AllBelow prefix_id s.prefixes.next s.prefixes.rows
IsFresh s Ranges = AllBelow range_id s.ranges.next s.ranges.rows
IsFresh s Addresses = AllBelow address_id s.addresses.next s.addresses.rows

fresh_from : (kind : Kind) (s : State) → IsLawful s → IsFresh s kind
unfolding IsFresh
fresh_from Vrfs s h = h.vrfs.row_list.below
fresh_from Rirs s h = h.rirs.row_list.below
fresh_from Roles s h = h.roles.row_list.below
fresh_from Aggregates s h = h.aggregates.row_list.below
fresh_from Prefixes s h = h.prefixes.row_list.below
fresh_from Ranges s h = h.ranges.row_list.below
fresh_from Addresses s h = h.addresses.row_list.below

-- the rows that rows of a kind name are the same in both states
pub IsRead : Kind → State → State → Type 0
IsRead Vrfs s t = Unit {0}
IsRead Rirs s t = Unit {0}
IsRead Roles s t = Unit {0}
IsRead Aggregates s t = t.rirs.rows ≡ s.rirs.rows
IsRead Prefixes s t = (t.vrfs.rows ≡ s.vrfs.rows) × (t.roles.rows ≡ s.roles.rows)
IsRead Ranges s t = (t.vrfs.rows ≡ s.vrfs.rows) × (t.roles.rows ≡ s.roles.rows)
IsRead Addresses s t = t.vrfs.rows ≡ s.vrfs.rows

read_self : (kind : Kind) (s : State) → IsRead kind s s
unfolding IsRead
read_self Vrfs s = tt
read_self Rirs s = tt
read_self Roles s = tt
read_self Aggregates s = refl
read_self Prefixes s = (refl, refl)
read_self Ranges s = (refl, refl)
read_self Addresses s = refl

read_on : (kind : Kind) (a b c : State) → IsRead kind a b → IsRead kind b c → IsRead kind a c
unfolding IsRead
read_on Vrfs a b c h k = tt
read_on Rirs a b c h k = tt
read_on Roles a b c h k = tt
read_on Aggregates a b c h k = k ∙ h
read_on Prefixes a b c h k = (k.0 ∙ h.0, k.1 ∙ h.1)
read_on Ranges a b c h k = (k.0 ∙ h.0, k.1 ∙ h.1)
read_on Addresses a b c h k = k ∙ h

read_spent : (kind : Kind) (s : State) (n : ℕ) → IsRead kind s (with_spent s n)
unfolding IsRead
read_spent Vrfs s n = tt
read_spent Rirs s n = tt
read_spent Roles s n = tt
read_spent Aggregates s n = refl
read_spent Prefixes s n = (refl, refl)
read_spent Ranges s n = (refl, refl)
read_spent Addresses s n = refl

records_spent : (kind : Kind) (s : State) (n : ℕ) → records_of (with_spent s n) kind ≡ records_of s kind
records_spent Vrfs s n = refl
records_spent Rirs s n = refl
records_spent Roles s n = refl
records_spent Aggregates s n = refl
records_spent Prefixes s n = refl
records_spent Ranges s n = refl
records_spent Addresses s n = refl

-- so they stand for the same drafts, and break the same rules of names
pub record ReadsSame (s t : State) (row : ImportRow) : Type 0 where
  pub draft : draft_of t row ≡ draft_of s row
  pub names : name_rules t row ≡ name_rules s row

reads_of : (s t : State) (row : ImportRow) → IsRead (kind_of_row row) s t → ReadsSame s t row
unfolding IsRead
reads_of s t (VrfRow name rd enforce_unique description) h = record { draft = refl; names = refl }
reads_of s t (RirRow name slug is_private description) h = record { draft = refl; names = refl }
reads_of s t (RoleRow name slug weight description) h = record { draft = refl; names = refl }
reads_of s t (AggregateRow block rir description) h = record { draft = rw h refl; names = rw h refl }
reads_of s t (PrefixRow block vrf status role is_pool mark_utilized description) h = record { draft = rw (h.0, h.1) refl; names = rw (h.0, h.1) refl }
reads_of s t (RangeRow start end vrf status role mark_utilized mark_populated description) h = record { draft = rw (h.0, h.1) refl; names = rw (h.0, h.1) refl }
reads_of s t (AddressRow host vrf status role dns_name description) h = record { draft = rw h refl; names = rw h refl }

reads : (kind : Kind) (s t : State) (row : ImportRow) → kind_of_row row ≡ kind → IsRead kind s t → ReadsSame s t row
reads kind s t row e h = reads_of s t row (subst (λ (k : Kind). IsRead k s t) (sym e) h)

-- what one more record does
pub record Grows (kind : Kind) (s t : State) (d : Draft) : Type 0 where
  pub records : records_of t kind ≡ records_of s kind ++ d ∷ []
  pub fresh : IsFresh t kind
  pub read : IsRead kind s t

map-push : {A B : Type 0} (f : A → B) (xs : List A) (x : A) → map f (xs ++ x ∷ []) ≡ map f xs ++ f x ∷ []
map-push f [] x = refl
map-push f (y ∷ ys) x = ap (λ zs. f y ∷ zs) (map-push f ys x)

grown : {T : Type 0} (rules : KindRules T) (rows : List T) (row : T) → AllBelow rules.id (rules.id row) rows
    → map (λ (x : T). recorded (rules.view x)) (with_row rules.id rows row) ≡ map (λ (x : T). recorded (rules.view x)) rows ++ recorded (rules.view row) ∷ []
grown {T} rules rows row below =
    ap (map (λ (x : T). recorded (rules.view x))) (with_row_above rules.id rows row below) ∙ map-push (λ (x : T). recorded (rules.view x)) rows row

fresher : {T : Type 0} (id : T → ℕ) (rows : List T) (row : T) → AllBelow id (id row) rows → AllBelow id (id row + 1) (with_row id rows row)
fresher id rows row below = below_with id (id row + 1) rows row (below_more id (id row) (id row + 1) rows (omega arith) below) (omega arith)

-- a record has the fields of its draft, and these say nothing of its id
draft_made : (s : State) (d : Draft) → recorded (record_of s d) ≡ stored_draft d
unfolding stored_draft
draft_made s (VrfDraft name rd enforce_unique description) = refl
draft_made s (RirDraft name slug is_private description) = refl
draft_made s (RoleDraft name slug weight description) = refl
draft_made s (AggregateDraft block rir description) = refl
draft_made s (PrefixDraft block vrf status role is_pool mark_utilized description) = refl
draft_made s (RangeDraft start end vrf status role mark_utilized mark_populated description) = refl
draft_made s (AddressDraft host vrf status role dns_name description) = refl

grows_of : (old s : State) (row : ImportRow) → IsFresh s (kind_of_row row) → Grows (kind_of_row row) s (with_record s (draft_of old row)) (recorded (record_of s (draft_of old row)))
unfolding IsFresh IsRead
grows_of old s (VrfRow name rd enforce_unique description) f = record { records = grown vrf_rules s.vrfs.rows _ f; fresh = fresher vrf_id s.vrfs.rows _ f; read = tt }
grows_of old s (RirRow name slug is_private description) f = record { records = grown rir_rules s.rirs.rows _ f; fresh = fresher rir_id s.rirs.rows _ f; read = tt }
grows_of old s (RoleRow name slug weight description) f = record { records = grown role_rules s.roles.rows _ f; fresh = fresher role_id s.roles.rows _ f; read = tt }
grows_of old s (AggregateRow block rir description) f = record { records = grown aggregate_rules s.aggregates.rows _ f; fresh = fresher aggregate_id s.aggregates.rows _ f; read = refl }
grows_of old s (PrefixRow block vrf status role is_pool mark_utilized description) f = record { records = grown prefix_rules s.prefixes.rows _ f; fresh = fresher prefix_id s.prefixes.rows _ f; read = (refl, refl) }
grows_of old s (RangeRow start end vrf status role mark_utilized mark_populated description) f = record { records = grown range_rules s.ranges.rows _ f; fresh = fresher range_id s.ranges.rows _ f; read = (refl, refl) }
grows_of old s (AddressRow host vrf status role dns_name description) f = record { records = grown address_rules s.addresses.rows _ f; fresh = fresher address_id s.addresses.rows _ f; read = refl }

grows : (kind : Kind) (old s : State) (row : ImportRow) → kind_of_row row ≡ kind → IsFresh s kind → Grows kind s (with_record s (draft_of old row)) (stored_draft (draft_of old row))
grows kind old s row e f =
    subst (λ (d : Draft). Grows kind s (with_record s (draft_of old row)) d) (draft_made s (draft_of old row))
    (subst (λ (k : Kind). IsFresh s k → Grows k s (with_record s (draft_of old row)) (recorded (record_of s (draft_of old row)))) e (grows_of old s row) f)

-- ---- the import itself

-- what an import has come to: the records of the state have all fields as often as the records before, and as often as the rows
-- so far
pub record CameTo (old : State) (kind : Kind) (so : Progress) : Type 0 where
  pub fresh : IsFresh so.state kind
  pub read : IsRead kind old so.state
  pub more : (e : Draft) → times e (records_of old kind) ≤ times e (records_of so.state kind)
  pub all : (e : Draft) → times e so.seen ≤ times e (records_of so.state kind)

came_to : (old : State) (kind : Kind) → IsLawful old → CameTo old kind (begun old)
came_to old kind h = record {
  fresh = fresh_from kind old h;
  read = read_self kind old;
  more = λ e. omega arith;
  all = λ e. (let z = times-none e in omega arith);
}

-- a row that makes nothing is there often enough
enough : (old : State) (kind : Kind) (seen : List Draft) (d : Draft) → makes_one old kind seen d ≡ false → times (stored_draft d) (stored_draft d ∷ seen) ≤ times (stored_draft d) (records_of old kind)
unfolding makes_one
enough old kind seen d e = grind (arith, nat_tests, e)

not_one : (old : State) (kind : Kind) (seen : List Draft) (d : Draft) → times (stored_draft d) (stored_draft d ∷ seen) ≤ times (stored_draft d) (records_of old kind) → makes_one old kind seen d ≡ false
unfolding makes_one
not_one old kind seen d h = grind (arith, nat_tests, h)

one_more : (old : State) (kind : Kind) (so : Progress) (row : ImportRow) → kind_of_row row ≡ kind → CameTo old kind so → CameTo old kind (after_row old kind so row)
one_more old kind so row q h = go (makes_one old kind so.seen (draft_of old row)) refl
  where
    go : (t : Bool) → makes_one old kind so.seen (draft_of old row) ≡ t → CameTo old kind (with_draft t so (draft_of old row))
    go true t =
        let d = stored_draft (draft_of old row) in
        let g = grows kind old so.state row q h.fresh in
        let count = λ (e : Draft). ap (times e) g.records ∙ times-push e d (records_of so.state kind) in
        record {
          fresh = g.fresh;
          read = read_on kind old so.state (with_record so.state (draft_of old row)) h.read g.read;
          more = λ e. (let a = count e in let b = h.more e in omega arith);
          all = λ e. (let a = count e in let b = h.all e in let c = times-cons e d so.seen in omega arith);
        }
    go false t =
        let there = enough old kind so.seen (draft_of old row) t in
        record {
          fresh = h.fresh;
          read = h.read;
          more = h.more;
          all = λ e. same e (same_draft e (stored_draft (draft_of old row))) refl there;
        }
      where
        same : (e : Draft) (u : Bool) → same_draft e (stored_draft (draft_of old row)) ≡ u
            → times (stored_draft (draft_of old row)) (stored_draft (draft_of old row) ∷ so.seen) ≤ times (stored_draft (draft_of old row)) (records_of old kind)
            → times e (stored_draft (draft_of old row) ∷ so.seen) ≤ times e (records_of so.state kind)
        same e true u there =
            let d = stored_draft (draft_of old row) in
            let a = times_same e d (d ∷ so.seen) u in
            let b = times_same e d (records_of old kind) u in
            let c = h.more e in omega arith
        same e false u there =
            let d = stored_draft (draft_of old row) in
            let a = times-cons e d so.seen in
            let b = times_other e d u in
            let c = h.all e in omega arith

all_rows : (old : State) (kind : Kind) (so : Progress) (rows : List ImportRow) → AreOfKind kind rows → CameTo old kind so → CameTo old kind (after_rows old kind so rows)
all_rows old kind so [] q h = h
all_rows old kind so (row ∷ rows) q h = all_rows old kind (after_row old kind so row) rows q.1 (one_more old kind so row q.0 h)

-- the fields of rows, as drafts of a state
abbrev fields_in : State → List ImportRow → List Draft
fields_in s rows = map (λ (row : ImportRow). stored_draft (draft_of s row)) rows

with_draft-seen : (t : Bool) (so : Progress) (d : Draft) → (with_draft t so d).seen ≡ stored_draft d ∷ so.seen
with_draft-seen true so d = refl
with_draft-seen false so d = refl

-- the rows so far are all rows in the end
seen_all : (old : State) (kind : Kind) (so : Progress) (rows : List ImportRow) (e : Draft)
    → times e (after_rows old kind so rows).seen ≡ times e (fields_in old rows) + times e so.seen
seen_all old kind so [] e = let z = times-none e in omega arith
seen_all old kind so (row ∷ rows) e =
    let d = draft_of old row in
    let ih = seen_all old kind (after_row old kind so row) rows e in
    let a = ap (times e) (with_draft-seen (makes_one old kind so.seen d) so d) in
    let b = times-cons e (stored_draft d) so.seen in
    let c = times-cons e (stored_draft d) (fields_in old rows) in omega arith

-- ---- again

-- no rule is broken by the row's kind, its names or its values
pub record IsClean (s : State) (kind : Kind) (row : ImportRow) : Type 0 where
  pub kinds : kind_rule kind row ≡ None
  pub names : first (map breaks (name_rules s row)) ≡ None
  pub values : first (map breaks (value_rules row)) ≡ None

both_none : {A : Type 0} (x : Option A) (xs : List (Option A)) → x ≡ None → first xs ≡ None → first (x ∷ xs) ≡ None
both_none None xs e f = f
both_none (Some y) xs e f = cc

first_past : {A : Type 0} (xs ys : List (Option A)) → first xs ≡ None → first (xs ++ ys) ≡ first ys
first_past [] ys e = refl
first_past (None ∷ xs) ys e = first_past xs ys e
first_past (Some x ∷ xs) ys e = cc

-- the rows of an accepted import are clean
clean : (old : State) (kind : Kind) (so : Progress) (n : ℕ) (rows : List ImportRow) → first (row_verdicts old kind so n rows) ≡ None → AllByRecursion (IsClean old kind) rows
clean old kind so n [] e = tt
clean old kind so n (row ∷ rows) e =
    let d = draft_of old row in
    let rest : List (Option Refusal) = row_verdicts old kind (after_row old kind so row) (n + 1) rows in
    let one = none_mapped (at_row n) (first (row_checks old kind so row)) (none_head (row_verdict old kind so n row) rest e) in
    let values : List (Option Refusal) = map breaks (value_rules row) in
    let creates : List (Option Refusal) = create_checks (makes_one old kind so.seen d) so.state d in
    let names : List (Option Refusal) = map breaks (name_rules old row) in
    let past = none_rest (kind_rule kind row) (names ++ (values ++ creates)) one in (
      record {
        kinds = none_head (kind_rule kind row) (names ++ (values ++ creates)) one;
        names = none_left names (values ++ creates) past;
        values = none_left values creates (none_right names (values ++ creates) past);
      },
      clean old kind (after_row old kind so row) (n + 1) rows (none_rest (row_verdict old kind so n row) rest e),
    )

-- clean rows are so in a state in which they stand for the same drafts
still_clean : (kind : Kind) (s t : State) (rows : List ImportRow) → IsRead kind s t → AreOfKind kind rows → AllByRecursion (IsClean s kind) rows → AllByRecursion (IsClean t kind) rows
still_clean kind s t [] r q c = tt
still_clean kind s t (row ∷ rows) r q c =
    let same = reads kind s t row q.0 r in (
      record {
        kinds = c.0.kinds;
        names = ap (λ (xs : List (Option Rule)). first (map breaks xs)) same.names ∙ c.0.names;
        values = c.0.values;
      },
      still_clean kind s t rows r q.1 c.1,
    )

same_fields : (kind : Kind) (s t : State) (rows : List ImportRow) → IsRead kind s t → AreOfKind kind rows → fields_in t rows ≡ fields_in s rows
same_fields kind s t [] r q = refl
same_fields kind s t (row ∷ rows) r q = ap₂ (λ (x : Draft) (xs : List Draft). x ∷ xs) (ap stored_draft (reads kind s t row q.0 r).draft) (same_fields kind s t rows r q.1)

-- rows that are all there make nothing, and none is refused
pub record MakesNothing (t : State) (kind : Kind) (so : Progress) (n : ℕ) (rows : List ImportRow) : Type 0 where
  pub state : (after_rows t kind so rows).state ≡ so.state
  pub made : (after_rows t kind so rows).made ≡ so.made
  pub verdicts : first (row_verdicts t kind so n rows) ≡ None

makes_nothing : (t : State) (kind : Kind) (so : Progress) (n : ℕ) (rows : List ImportRow) → AllByRecursion (IsClean t kind) rows
    → ((e : Draft) → times e (fields_in t rows) + times e so.seen ≤ times e (records_of t kind)) → MakesNothing t kind so n rows
makes_nothing t kind so n [] c h = record { state = refl; made = refl; verdicts = refl }
makes_nothing t kind so n (row ∷ rows) c h =
    let d = stored_draft (draft_of t row) in
    let once : times d (d ∷ so.seen) ≤ times d (records_of t kind) = (
    let a = h d in let b = times-cons d d (fields_in t rows) in let f = times-cons d d so.seen in omega arith) in
    let none = not_one t kind so.seen (draft_of t row) once in
    let rest = makes_nothing t kind (record { state = so.state; seen = d ∷ so.seen; made = so.made }) (n + 1) rows c.1
    (λ e. (let a = h e in let b = times-cons e d (fields_in t rows) in let f = times-cons e d so.seen in omega arith)) in
    let all = go (makes_one t kind so.seen (draft_of t row)) none rest in
    record { state = all.0; made = all.1; verdicts = all.2 }
  where
    go : (m : Bool) → m ≡ false → MakesNothing t kind (record { state = so.state; seen = stored_draft (draft_of t row) ∷ so.seen; made = so.made }) (n + 1) rows
        → ((after_rows t kind (with_draft m so (draft_of t row)) rows).state ≡ so.state)
        × ((after_rows t kind (with_draft m so (draft_of t row)) rows).made ≡ so.made)
        × (first (option_map (at_row n) (first (kind_rule kind row ∷ map breaks (name_rules t row) ++ (map breaks (value_rules row) ++ create_checks m so.state (draft_of t row))))
        ∷ row_verdicts t kind (with_draft m so (draft_of t row)) (n + 1) rows) ≡ None)
    go true none rest = cc
    go false none rest =
        let rules : first (map breaks (name_rules t row) ++ (map breaks (value_rules row) ++ [])) ≡ None =
        first_past (map breaks (name_rules t row)) (map breaks (value_rules row) ++ []) c.0.names ∙ first_past (map breaks (value_rules row)) [] c.0.values in
        let e = both_none (kind_rule kind row) (map breaks (name_rules t row) ++ (map breaks (value_rules row) ++ [])) c.0.kinds rules in
        (rest.state, rest.made, rw e rest.verdicts)

outcome_none : (s : State) (plan : Plan) → verdict_of plan ≡ None → outcome s plan ≡ (updated s plan.update, answered (updated s plan.update) plan.reply)
outcome_none s plan v = rw (v, outcome) refl

log_free : (spent more : ℕ) → spent + more ≤ most_spent → first (no_log spent more ∷ []) ≡ None
log_free spent more h = let e : nat_le (spent + more) most_spent ≡ true = grind (arith, nat_tests) in rw e refl

-- the same, on the state of the rows with its log items
again_on : (s : State) (kind : Kind) (rows : List ImportRow) (t : State) → t ≡ with_spent (after_rows s kind (begun s) rows).state (items_of rows) → IsLawful s → AreOfKind kind rows
    → verdict_of (import_plan s kind rows) ≡ None → s.spent + items_of rows + items_of rows ≤ most_spent
    → outcome t (import_plan t kind rows) ≡ (with_spent t (items_of rows), Imported 0 (length rows))
again_on s kind rows t is h q v room =
    let n = items_of rows in
    let done = (after_rows s kind (begun s) rows).state in
    let few : Option Refusal = too_many Rows most_rows (length rows) in
    let old : List (Option Refusal) = row_verdicts s kind (begun s) 1 rows in
    let checked = none_left (few ∷ old) (no_log s.spent n ∷ []) v in
    let came = all_rows s kind (begun s) rows q (came_to s kind h) in
    let read : IsRead kind s t = subst (λ (x : State). IsRead kind s x) (sym is) (read_on kind s done (with_spent done n) came.read (read_spent kind done n)) in
    let records : records_of t kind ≡ records_of done kind = ap (λ (x : State). records_of x kind) is ∙ records_spent kind done n in
    let clean_rows = still_clean kind s t rows read q (clean s kind (begun s) 1 rows (none_rest few old checked)) in
    let there = λ (e : Draft). (
    let a = ap (times e) (same_fields kind s t rows read q) in
    let b = seen_all s kind (begun s) rows e in
    let c = came.all e in
    let z = times-none e in
    let r = ap (times e) records in
    let le : times e (fields_in t rows) + times e [] ≤ times e (records_of t kind) = omega arith in le) in
    let again = makes_nothing t kind (begun t) 1 rows clean_rows there in
    let verdicts : List (Option Refusal) = row_verdicts t kind (begun t) 1 rows in
    let spent : t.spent ≡ s.spent + n = ap (λ (x : State). x.spent) is ∙ ap (λ (m : ℕ). m + n) (spent_all s kind (begun s) rows) in
    let none : first ((few ∷ verdicts) ++ no_log t.spent n ∷ []) ≡ None =
    first_past (few ∷ verdicts) (no_log t.spent n ∷ []) (both_none few verdicts (none_head few old checked) again.verdicts) ∙ log_free t.spent n (omega arith) in
    let made : (after_rows t kind (begun t) rows).made ≡ [] = again.made in
    let state : updated t (import_plan t kind rows).update ≡ with_spent t n = import_leads t kind rows q ∙ ap (λ (x : State). with_spent x n) again.state in
    let count : length rows - 0 ≡ length rows = omega arith in
    let reply : Imported (length (after_rows t kind (begun t) rows).made) (length rows - length (after_rows t kind (begun t) rows).made) ≡ Imported 0 (length rows) =
    ap (λ (views : List View). Imported (length views) (length rows - length views)) made ∙ ap (λ (m : ℕ). Imported 0 m) count in
    outcome_none t (import_plan t kind rows) none ∙ ap₂ (λ (x : State) (y : Reply). (x, y)) state reply

accepted_none : (s : State) (plan : Plan) → is_accepted (outcome s plan).1 ≡ true → verdict_of plan ≡ None
accepted_none s plan a = go (verdict_of plan) refl
  where
    go : (v : Option Refusal) → verdict_of plan ≡ v → verdict_of plan ≡ None
    go None e = e
    go (Some refusal) e = let f : false ≡ true = rw (e, outcome) at a in cc

pub import_again : ImportAgainMakesNothing
import_again s kind rows h a room =
    let plan = import_plan s kind rows in
    let v = accepted_none s plan a in
    let few : Option Refusal = too_many Rows most_rows (length rows) in
    let verdicts : List (Option Refusal) = row_verdicts s kind (begun s) 1 rows in
    let q = of_kind s kind (begun s) 1 rows (none_rest few verdicts (none_left (few ∷ verdicts) (no_log s.spent (items_of rows) ∷ []) v)) in
    again_on s kind rows (outcome s plan).0 (ap (λ (p : State × Reply). p.0) (outcome_none s plan v) ∙ import_leads s kind rows q) h q v room
