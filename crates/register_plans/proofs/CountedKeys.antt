-- What is counted under keys.
use Rattle.std.proofs.Common.{◌≡◌, ◌∙◌, ℕ, zero, suc, ◌+◌, ◌-◌, ◌≤◌, ◌<◌, ◌||◌, Bool, true, false, List, [], ◌∷◌, ◌++◌, length, map, take, get_or, Some, None, refl, ap, sym, subst, arith, count_by, slice_get, if◌then◌else◌, append_assoc, append-nil}
use Rattle.std.proofs.lemmas.List.{map-append, length-map, length-take}
use Rattle.std.proofs.lemmas.Option.{slice_get_within, get_or_from_slice_get}
use Rattle.std.proofs.Math.Seq.{take-suc}
use Rattle.std.specs.List.{list_any}
use Rattle.std.specs.Prelude.{bytes_eq}
use Rattle.std.proofs.lemmas.List.Sums.{sum_by-cons, sum_by_push, count_by-le-length}
use Rattle.std.proofs.lemmas.Slice.Eq.{bytes_eq-Decides}
use Rattle.ipam_data.specs.Plans.{KindRules}
use Rattle.register_plans.specs.TextKeys.{spelled, key_of}
use Rattle.register_plans.specs.declared.imports.leftovers.Leftovers.{Leftovers}
use Rattle.register_plans.specs.RecordsLeft.{left_of, IsLeft}
use Rattle.register_plans.specs.declared.imports.ready.Ready.{Ready}
use Rattle.register_plans.specs.ReadyRows.{keys_of, key_of_row}

-- ---- lists

pub take_next : {T : Type 0} (xs : List T) (k : ℕ) (x : T) → slice_get xs k ≡ Some x → take (k + 1) xs ≡ take k xs ++ x ∷ []
take_next xs k x e =
    let within = slice_get_within xs k x e in
    let next : k + 1 ≡ suc k = omega arith in
    let same : get_or xs k x ≡ x = get_or_from_slice_get xs k x x e in
    rw (next, take-suc xs k x within, same) refl

pub map_next : {T U : Type 0} (f : T → U) (xs : List T) (k : ℕ) (x : T) → slice_get xs k ≡ Some x → map f (take (k + 1) xs) ≡ map f (take k xs) ++ f x ∷ []
map_next f xs k x e = ap (map f) (take_next xs k x e) ∙ map-append f (take k xs) (x ∷ [])

pub few_taken : {T U : Type 0} (f : T → U) (k : ℕ) (xs : List T) → length (map f (take k xs)) ≤ length xs
few_taken f k xs = omega (arith, length-map (take k xs) f, length-take k xs)

-- ---- what is left

-- what is left of a key is no more than there were records
pub left_small : (left : Leftovers) (keys records : List (List ℕ)) (key : List ℕ) (n : ℕ) → IsLeft left keys records [] → left_of left key ≡ Some n → n ≤ length records
left_small left keys records key n h e = go (list_any (bytes_eq key) keys) (sym (h key) ∙ e)
  where
    go : (t : Bool) → (if t then Some (count_by (bytes_eq key) records - 0) else None) ≡ Some n → n ≤ length records
    go true e = let few = count_by-le-length (bytes_eq key) records in let is : count_by (bytes_eq key) records - 0 ≡ n = cc in omega arith
    go false e = cc

-- one more record counted
pub count_next : {T : Type 0} (rules : KindRules T) (new : Leftovers) (keys : List (List ℕ)) (rows : List T) (k : ℕ) (row : T) (key : List ℕ) → slice_get rows k ≡ Some row → key ≡ key_of_row rules row
    → IsLeft new keys (map (key_of_row rules) (take k rows) ++ key ∷ []) [] → IsLeft new keys (map (key_of_row rules) (take (k + 1) rows)) []
count_next rules new keys rows k row key e f h =
    subst (λ (ks : List (List ℕ)). IsLeft new keys ks []) (sym (map_next (key_of_row rules) rows k row e))
    (subst (λ (q : List ℕ). IsLeft new keys (map (key_of_row rules) (take k rows) ++ q ∷ []) []) f h)

-- ---- the keys of rows

-- one more at the end of one list and at the head of the other
pub count_first : (q k : List ℕ) (xs ys : List (List ℕ)) → count_by (bytes_eq q) xs ≡ count_by (bytes_eq q) ys → count_by (bytes_eq q) (xs ++ k ∷ []) ≡ count_by (bytes_eq q) (k ∷ ys)
count_first q k xs ys e =
    let a = sum_by_push (λ (x : List ℕ). if bytes_eq q x then 1 else 0) xs k in
    let b = sum_by-cons (λ (x : List ℕ). if bytes_eq q x then 1 else 0) k ys in omega arith

-- a row has one of the keys of all rows
pub any_at : (rows : List Ready) (i : ℕ) (d : Ready) → i < length rows → list_any (bytes_eq (get_or rows i d).key) (keys_of rows) ≡ true
any_at [] i d h = absurd (omega arith)
any_at (x ∷ xs) zero d h = let e : bytes_eq x.key x.key ≡ true = (bytes_eq-Decides x.key x.key).1 refl in ap (λ b. b || list_any (bytes_eq x.key) (keys_of xs)) e
any_at (x ∷ xs) (suc i) d h = go (bytes_eq (get_or xs i d).key x.key) (any_at xs i d (omega arith))
  where
    go : (b : Bool) → list_any (bytes_eq (get_or xs i d).key) (keys_of xs) ≡ true → (b || list_any (bytes_eq (get_or xs i d).key) (keys_of xs)) ≡ true
    go true e = refl
    go false e = e

-- the key of one text more
pub key_next : (texts : List (List ℕ)) (text : List ℕ) → key_of (texts ++ text ∷ []) ≡ key_of texts ++ spelled text
key_next [] text = append-nil (spelled text)
key_next (x ∷ xs) text = ap (λ (k : List ℕ). spelled x ++ k) (key_next xs text) ∙ sym (append_assoc (spelled x) (key_of xs) (spelled text))
